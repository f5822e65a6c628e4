-- What stands among a turn's calls: packets and ends that it counted, the session that it released, the stop word, and that
-- a reactor may make them.
use Rattle.std.proofs.Common.{◌≡◌, ◌⊎◌, ℕ, ◌+◌, ◌<◌, ◌≤◌, ◌==◌, Bool, true, false, List, [], ◌∷◌, ◌++◌, length, Option, Some, None, refl, ap, ◌∙◌, sym, subst, arith, inr, suc}
use Rattle.std.specs.Bool.{MatchBool}
use Rattle.sw_lists.specs.Lists.{collect, Each}
use Rattle.sw_lists.proofs.Lists.{collect-append, length_append, each_append}
use Rattle.sw_data.specs.declared.messages.Got.{Got as TableGot}
use Rattle.sw_step.specs.declared.actor.ActorId.TheVariants.{Reactor}
use Rattle.sw_record.specs.Words.{Event, PacketsCount, EndedCount}
use Rattle.sw_record.specs.Terms.{Terms, keeps}
use Rattle.sw_past.specs.Messages.{Message}
use Rattle.sw_world_ports.specs.Calls.{Did, Looks, Lives, Other, Frees, SeesStop, Adds, MayDo}
use Rattle.sw_world_ports.specs.Made.{found_in, free_in, saw_stop_in, add_in}
use Rattle.sw_reactor_table.specs.Conn.{Conn, Answers, Does, Pushes, Moves, Stays, Leaves, tidied, serve}
use Rattle.sw_reactor_table.specs.Reactor.{Reactor as Table, Ask, Take, Push, Nothing, Rest, Finished}
use Rattle.sw_reactor_laws.specs.Histories.{counts_in, leaves_with, frees, at_first, at_served}
use Rattle.sw_reactor_laws.specs.Stopped.{stop_at}
use Rattle.sw_world_reactor.specs.Calls.{NoCalls, LookCalls, IdleCalls, AimCalls, DoesCalls, NextCalls, ChoiceCalls, TurnCalls, counts_packet, packets_counted}
use Rattle.sw_world_reactor.proofs.Sessions.{serve_session}
use Rattle.sw_world_reactor.specs.Reactors.{AllTold}

-- what stands among calls that release these
pub record Made (fs : List (ℕ × ℕ)) (ds : List Did) : Type 0 where
  pub frees : collect free_in ds ≡ fs
  pub ends : length (collect (add_in EndedCount) ds) ≤ length (collect free_in ds)
  pub packets : length (collect (add_in PacketsCount) ds) ≡ 0
  pub may : (t : Terms) (n : ℕ) → n < t.reactor_num → Each (MayDo t (Reactor n)) ds

made_none : Made [] []
made_none = record { frees = refl; ends = omega arith; packets = refl; may = λ t n lt. tt }

made_is : (fs : List (ℕ × ℕ)) (ds es : List Did) → ds ≡ es → Made fs es → Made fs ds
made_is fs ds es e h = subst (Made fs) (sym e) h

aim_made : (t : Terms) (a : Answers) (k s : ℕ) (ds : List Did) → AimCalls t a k s ds → Made [] ds
aim_made t a k s ds c = pick (keeps t.mode) (t.mode == 5) (t.mode == 3) c
  where
    looks : LookCalls a s ds → Made [] ds
    looks (Lives u, (e, q)) = made_is [] ds (Looks s (Lives u) ∷ []) q (record { frees = refl; ends = omega arith; packets = refl; may = λ t n lt. (tt, tt) })
    looks (Other n, (e, q)) = made_is [] ds (Looks s (Other n) ∷ []) q (record { frees = refl; ends = omega arith; packets = refl; may = λ t m lt. (tt, tt) })

    pick : (x y z : Bool) → MatchBool x (NoCalls a ds) (MatchBool y (LookCalls a s ds) (MatchBool z (IdleCalls t a k ds) (NoCalls a ds))) → Made [] ds
    pick true y z h = made_is [] ds [] h.1 made_none
    pick false true z h = looks h
    pick false false true h = made_is [] ds _ h.1 (record { frees = refl; ends = omega arith; packets = refl; may = λ t n lt. (tt, tt) })
    pick false false false h = made_is [] ds [] h.1 made_none

does_made : (t : Terms) (a : Answers) (k s : ℕ) (held : Option (ℕ × Event)) (o : Does) (ds : List Did) → DoesCalls t a k s held o ds → Made (leaves_with s a.released o) ds
does_made t a k s None (Pushes w e) ds c = aim_made t a k s ds c
does_made t a k s (Some h) (Pushes w e) ds c = made_is [] ds [] c.1 made_none
does_made t a k s held Moves ds c = made_is [] ds [] c.1 made_none
does_made t a k s held Stays ds c = made_is [] ds [] c.1 made_none
does_made t a k s held (Leaves e) ds c =
    made_is ((s, a.released) ∷ []) ds (Frees s a.released ∷ Adds EndedCount ∷ []) c.1 (record { frees = refl; ends = omega arith; packets = refl; may = λ t n lt. ((n, (lt, refl)), (inr (n, (lt, refl)), tt)) })

next_made : (t : Terms) (a : Answers) (k : ℕ) (next : List Conn) (ds : List Did) → NextCalls t a k next ds → Made (at_first (frees t a k) next) ds
next_made t a k [] ds c = made_is [] ds [] c.1 made_none
next_made t a k (d ∷ es) ds c =
    subst (λ (s : ℕ). Made (leaves_with s a.released (serve t a k d).does) ds) (sym (serve_session t a k d)) (does_made t a k d.session (tidied a d).held (serve t a k d).does ds c)

-- and of a choice
pub record Chose (fs : List (ℕ × ℕ)) (stop : Bool) (ds : List Did) : Type 0 where
  pub made : Made fs ds
  pub stops : stop ≡ true → ¬ (collect saw_stop_in ds ≡ [])

take_chose : (a : Answers) (ds : List Did) → ds ≡ SeesStop a.stop ∷ [] → Chose [] a.stop ds
take_chose a ds e =
    subst (Chose [] a.stop) (sym e)
    (record { made = record { frees = refl; ends = omega arith; packets = refl; may = λ t n lt. (tt, tt) }; stops = λ q z. absurd (let k : collect saw_stop_in (SeesStop true ∷ []) ≡ [] = subst (λ (b : Bool). collect saw_stop_in (SeesStop b ∷ []) ≡ []) q z in cc) })

pub choice_chose : (t : Terms) (a : Answers) (ask : Ask) (r : Table) (ds : List Did) → ChoiceCalls t a ask r ds → Chose (at_served (frees t a r.round) ask r.next) (stop_at ask a.stop) ds
choice_chose t a Take r ds c = record { made = next_made t a r.round r.next ds c; stops = λ q. absurd (cc) }
choice_chose t a (Push w m) r ds c = take_chose a ds c.1
choice_chose t a Nothing r ds c = take_chose a ds c.1
choice_chose t a Rest r ds c = take_chose a ds c.1
choice_chose t a Finished r ds c = take_chose a ds c.1

-- packets that are counted
counted_frees : (xs : List ℕ) → collect free_in (collect counts_packet xs) ≡ []
counted_frees [] = refl
counted_frees (x ∷ xs) = counted_frees xs

counted_found : (xs : List ℕ) → collect found_in (collect counts_packet xs) ≡ []
counted_found [] = refl
counted_found (x ∷ xs) = counted_found xs

counted_ends : (xs : List ℕ) → collect (add_in EndedCount) (collect counts_packet xs) ≡ []
counted_ends [] = refl
counted_ends (x ∷ xs) = counted_ends xs

counted_packets : (xs : List ℕ) → length (collect (add_in PacketsCount) (collect counts_packet xs)) ≡ length xs
counted_packets [] = refl
counted_packets (x ∷ xs) = ap (λ (n : ℕ). suc n) (counted_packets xs)

counted_saw : (xs : List ℕ) → collect saw_stop_in (collect counts_packet xs) ≡ []
counted_saw [] = refl
counted_saw (x ∷ xs) = counted_saw xs

counted_may : (t : Terms) (n : ℕ) → n < t.reactor_num → (xs : List ℕ) → Each (MayDo t (Reactor n)) (collect counts_packet xs)
counted_may t n lt [] = tt
counted_may t n lt (x ∷ xs) = ((n, (lt, refl)), counted_may t n lt xs)

-- of a whole turn
pub record Turned (fs : List (ℕ × ℕ)) (stop : Bool) (packets : ℕ) (ds : List Did) : Type 0 where
  pub frees : collect free_in ds ≡ fs
  pub ends : length (collect (add_in EndedCount) ds) ≤ length (collect free_in ds)
  pub counts : length (collect (add_in PacketsCount) ds) ≡ packets
  pub stops : stop ≡ true → ¬ (collect saw_stop_in ds ≡ [])

pub turn_made : (fs : List (ℕ × ℕ)) (stop : Bool) (xs : List ℕ) (ds : List Did) → Chose fs stop ds → Turned fs stop (length xs) (collect counts_packet xs ++ ds)
turn_made fs stop xs ds c =
    record {
      frees = free ∙ c.made.frees;
      ends = subst (λ (n : ℕ). n ≤ length (collect free_in (collect counts_packet xs ++ ds))) (sym (ap length ended)) (subst (λ (zs : List (ℕ × ℕ)). length (collect (add_in EndedCount) ds) ≤ length zs) (sym free) c.made.ends);
      counts = (let a : length (collect (add_in PacketsCount) (collect counts_packet xs ++ ds)) ≡ length (collect (add_in PacketsCount) (collect counts_packet xs)) + length (collect (add_in PacketsCount) ds) = ap length (collect-append (add_in PacketsCount) (collect counts_packet xs) ds) ∙ length_append (collect (add_in PacketsCount) (collect counts_packet xs)) (collect (add_in PacketsCount) ds) in
          let b : length (collect (add_in PacketsCount) (collect counts_packet xs)) ≡ length xs = counted_packets xs in let d : length (collect (add_in PacketsCount) ds) ≡ 0 = c.made.packets in omega arith);
      stops = λ q e. c.stops q (sym saw ∙ e);
    }
  where
    free : collect free_in (collect counts_packet xs ++ ds) ≡ collect free_in ds
    free = collect-append free_in (collect counts_packet xs) ds ∙ ap (λ (zs : List (ℕ × ℕ)). zs ++ collect free_in ds) (counted_frees xs)

    ended : collect (add_in EndedCount) (collect counts_packet xs ++ ds) ≡ collect (add_in EndedCount) ds
    ended = collect-append (add_in EndedCount) (collect counts_packet xs) ds ∙ ap (λ (zs : List ℕ). zs ++ collect (add_in EndedCount) ds) (counted_ends xs)

    saw : collect saw_stop_in (collect counts_packet xs ++ ds) ≡ collect saw_stop_in ds
    saw = collect-append saw_stop_in (collect counts_packet xs) ds ∙ ap (λ (zs : List ℕ). zs ++ collect saw_stop_in ds) (counted_saw xs)

-- a reactor may make them
pub turn_may : (t : Terms) (a : Answers) (got : TableGot Message) (ask : Ask) (r : Table) (ds : List Did) → TurnCalls t a got ask r ds → (n : ℕ) → n < t.reactor_num → Each (MayDo t (Reactor n)) ds
turn_may t a got ask r ds (rest, (e, c)) n lt =
    subst (Each (MayDo t (Reactor n))) (sym e) (each_append (MayDo t (Reactor n)) (packets_counted got ask) rest (counted_may t n lt (counts_in got ask)) ((choice_chose t a ask r rest c).made.may t n lt))

-- what was told of the whole was told of the choice
pub told_rest : (word : ℕ → ℕ) (xs : List ℕ) (ds : List Did) → AllTold word (collect counts_packet xs ++ ds) → AllTold word ds
told_rest word xs ds h =
    record {
      found = subst (Each (λ (p : ℕ × ℕ). (p.1 ≡ 0) ⊎ (p.1 ≡ word p.0))) (collect-append found_in (collect counts_packet xs) ds ∙ ap (λ (zs : List (ℕ × ℕ)). zs ++ collect found_in ds) (counted_found xs)) h.found;
      freed = subst (Each (λ (p : ℕ × ℕ). p.1 ≡ word p.0)) (collect-append free_in (collect counts_packet xs) ds ∙ ap (λ (zs : List (ℕ × ℕ)). zs ++ collect free_in ds) (counted_frees xs)) h.freed;
    }
