-- A turn keeps the reactor's law.
use Rattle.std.proofs.Common.{◌≡◌, ◌⊎◌, ℕ, ◌+◌, ◌≤◌, nat_lt, Bool, true, false, if◌then◌else◌, List, [], ◌∷◌, ◌++◌, length, refl, ap, ◌∙◌, sym, subst, append-nil, arith, inl, inr}
use Rattle.std.proofs.lemmas.Bool.Decides.{nat_tests}
use Rattle.sw_lists.specs.Lists.{collect, Each}
use Rattle.sw_lists.proofs.Lists.{collect-append, length_append, each_left, each_right, append_none}
use Rattle.sw_data.specs.declared.messages.Got.{Got as TableGot}
use Rattle.sw_data.specs.declared.messages.Got.TheVariants as gots
use Rattle.sw_step.specs.declared.actor.ActorId.{ActorId}
use Rattle.sw_record.specs.Words.{PacketsCount, EndedCount}
use Rattle.sw_record.specs.Terms.{Terms}
use Rattle.sw_past.specs.Messages.{Message}
use Rattle.sw_past.specs.Past.{Mail, bare}
use Rattle.sw_past.specs.Views.{no_more}
use Rattle.sw_world_ports.specs.Calls.{Did, IsReactor}
use Rattle.sw_world_ports.specs.Made.{found_in, free_in, saw_stop_in, add_in}
use Rattle.sw_world_laws.specs.Turns.{Ask, Got, GotStart, GotTook, GotEmpty, GotPushed, GotFull, GotNothing, Diary, no_diary, with_dids, After}
use Rattle.sw_world_laws.specs.Actors.{Feed}
use Rattle.sw_reactor_table.specs.Conn.{Answers}
use Rattle.sw_reactor_table.specs.Reactor.{Reactor as Table, Ask as TableAsk, Take, Push, Nothing, Rest, Finished, settled, turn, started}
use Rattle.sw_reactor_table.specs.Runs.{Called, TookOne, FoundNone, PushedOne, CameBack, NoCall, Runs, First, Then, IsFaithful}
use Rattle.sw_reactor_laws.specs.Ending.{Counts, Chose}
use Rattle.sw_reactor_laws.specs.Histories.{counts_in, counted_in, frees, at_served, freed_in}
use Rattle.sw_reactor_laws.specs.Stopped.{stop_at, stop_read}
use Rattle.sw_reactor_laws.proofs.Ending.{chosen_chose, CountsAfter, call_counts}
use Rattle.sw_world_reactor.specs.Calls.{packets_counted}
use Rattle.sw_world_reactor.specs.Reactors.{table_got, world_ask, ReactorTurn, RTurn, AllTold, RunWith, Ran, Behind, QuietBy, RQuiet, RDone}
use Rattle.sw_world_reactor.proofs.Answers.{Faithful, be_faithful}
use Rattle.sw_world_reactor.proofs.Calls.{Turned, choice_chose, turn_made, told_rest}
use Rattle.sw_world_reactor.proofs.Once.{only_call, some_came, chosen_begun, behind_call}

-- counts of NoMore behind a turn
count_turn : (t : Terms) (starved : Bool) (a : Answers) (got : TableGot Message) (took pushed : Mail) (r : Table) → Counts t took pushed (settled t starved got r) → CountsAfter t took pushed (turn t starved a got r)
count_turn t starved a got took pushed r c =
    let d : Chose t (settled t starved got r) (turn t starved a got r) = chosen_chose t a (settled t starved got r) c.tight r.last in
    record {
      counts = record { ends = d.ends ∙ c.ends; gave = λ j. c.gave j ∙ ap (λ (k : ℕ). if nat_lt j k then 1 else 0) (sym d.given); tight = d.tight };
      giving = d.giving;
      done = d.done;
    }

none_given : (j : ℕ) → ◌≡◌ {A = ℕ} 0 (if nat_lt j 0 then 1 else 0)
none_given j = rw (low j) refl
  where
    low : (k : ℕ) → nat_lt k 0 ≡ false
    low k = grind (arith, nat_tests)

-- of calls and further calls
told_left : (word : ℕ → ℕ) (xs ys : List Did) → AllTold word (xs ++ ys) → AllTold word xs
told_left word xs ys h =
    record {
      found = each_left (λ (p : ℕ × ℕ). (p.1 ≡ 0) ⊎ (p.1 ≡ word p.0)) (collect found_in xs) (collect found_in ys) (subst (Each (λ (p : ℕ × ℕ). (p.1 ≡ 0) ⊎ (p.1 ≡ word p.0))) (collect-append found_in xs ys) h.found);
      freed = each_left (λ (p : ℕ × ℕ). p.1 ≡ word p.0) (collect free_in xs) (collect free_in ys) (subst (Each (λ (p : ℕ × ℕ). p.1 ≡ word p.0)) (collect-append free_in xs ys) h.freed);
    }

told_right : (word : ℕ → ℕ) (xs ys : List Did) → AllTold word (xs ++ ys) → AllTold word ys
told_right word xs ys h =
    record {
      found = each_right (λ (p : ℕ × ℕ). (p.1 ≡ 0) ⊎ (p.1 ≡ word p.0)) (collect found_in xs) (collect found_in ys) (subst (Each (λ (p : ℕ × ℕ). (p.1 ≡ 0) ⊎ (p.1 ≡ word p.0))) (collect-append found_in xs ys) h.found);
      freed = each_right (λ (p : ℕ × ℕ). p.1 ≡ word p.0) (collect free_in xs) (collect free_in ys) (subst (Each (λ (p : ℕ × ℕ). p.1 ≡ word p.0)) (collect-append free_in xs ys) h.freed);
    }

-- the first turn
first_ran : (t : Terms) (dids : List Did) (u : Table) (ask : Ask) → ReactorTurn t started GotStart dids u ask → Ran t [] [] u dids
first_ran t dids u ask h =
    (let c : CountsAfter t [] [] (turn t h.starved h.answers gots.Start started) = count_turn t h.starved h.answers gots.Start [] [] started (record { ends = refl; gave = λ j. none_given j; tight = λ e. refl }) in
    subst (λ (x : Table). Ran t [] [] x dids) (sym h.state) (record { counts = c.counts; giving = c.giving; done = c.done; only = tt; begun = chosen_begun t h.answers (settled t h.starved gots.Start started) [] (λ lt. absurd (omega (arith, lt))) started.last; ended = λ some. absurd (some refl); runs = λ word told. runs word told }))
  where
    runs : (word : ℕ → ℕ) → AllTold word dids → RunWith t word [] [] (turn t h.starved h.answers gots.Start started) dids
    runs word told =
        (let ds : AllTold word (h.calls).0 = subst (AllTold word) (h.calls).1.0 told in
        let f : Faithful t word h.starved h.answers gots.Start started (h.calls).0 = be_faithful t word h.starved h.answers gots.Start started (h.calls).0 h.idle ds (h.calls).1.1 in
        let m = turn_made (at_served (frees t f.answers (settled t h.starved gots.Start started).round) started.last (settled t h.starved gots.Start started).next) (stop_at started.last f.answers.stop) [] (h.calls).0 (choice_chose t f.answers started.last (settled t h.starved gots.Start started) (h.calls).0 f.calls) in
        subst (λ (x : Table). RunWith t word [] [] x dids) f.same
        (subst (RunWith t word [] [] (turn t h.starved f.answers gots.Start started)) (sym (h.calls).1.0)
        (record { run = First h.starved f.answers f.faithful; frees = m.frees; ends = m.ends; packets = m.counts; stops = m.stops })))

-- and each later one
then_ran : (t : Terms) (s : Table) (got : Got) (dids : List Did) (u : Table) (ask : Ask) (d : Diary) → ReactorTurn t s got dids u ask → Behind t s (table_got got) d → Ran t d.took d.pushed u (d.dids ++ dids)
then_ran t s got dids u ask d h b =
    (let k : Counts t d.took d.pushed (settled t h.starved (table_got got) s) = call_counts t s b.took b.pushed d.took d.pushed (table_got got) b.call (record { counts = b.ran.counts; giving = b.ran.giving; done = b.ran.done }) h.starved in
    let c : CountsAfter t d.took d.pushed (turn t h.starved h.answers (table_got got) s) = count_turn t h.starved h.answers (table_got got) d.took d.pushed s k in
    subst (λ (x : Table). Ran t d.took d.pushed x (d.dids ++ dids)) (sym h.state)
    (record { counts = c.counts; giving = c.giving; done = c.done; only = only_call s b.took b.pushed d.took d.pushed (table_got got) b.call b.ran.only; begun = chosen_begun t h.answers (settled t h.starved (table_got got) s) d.took (some_came (settled t h.starved (table_got got) s).ends (collect no_more (bare d.took)) k.ends) s.last; ended = behind_call s b.took b.pushed d.took d.pushed (table_got got) b.call b.ran.begun b.ran.ended; runs = λ word told. runs word told }))
  where
    join : (b1 : Bool) → (x y : Bool) → (if b1 then true else x) ≡ true → (b1 ≡ true) ⊎ (x ≡ true)
    join true x y e = inl refl
    join false x y e = inr e

    runs : (word : ℕ → ℕ) → AllTold word (d.dids ++ dids) → RunWith t word d.took d.pushed (turn t h.starved h.answers (table_got got) s) (d.dids ++ dids)
    runs word told =
        (let g : TableGot Message = table_got got in
        let now : Table = settled t h.starved g s in
        let old : RunWith t word b.took b.pushed s d.dids = b.ran.runs word (told_left word d.dids dids told) in
        let new : AllTold word (h.calls).0 = told_rest word (counts_in g s.last) (h.calls).0 (subst (AllTold word) (h.calls).1.0 (told_right word d.dids dids told)) in
        let f : Faithful t word h.starved h.answers g s (h.calls).0 = be_faithful t word h.starved h.answers g s (h.calls).0 h.idle new (h.calls).1.1 in
        let m : Turned (at_served (frees t f.answers now.round) s.last now.next) (stop_at s.last f.answers.stop) (length (counts_in g s.last)) (packets_counted g s.last ++ (h.calls).0) = turn_made (at_served (frees t f.answers now.round) s.last now.next) (stop_at s.last f.answers.stop) (counts_in g s.last) (h.calls).0 (choice_chose t f.answers s.last now (h.calls).0 f.calls) in
        subst (λ (x : Table). RunWith t word d.took d.pushed x (d.dids ++ dids)) f.same
        (subst (λ (ds : List Did). RunWith t word d.took d.pushed (turn t h.starved f.answers g s) (d.dids ++ ds)) (sym (h.calls).1.0)
        (both word old.run g f.answers f.faithful (packets_counted g s.last ++ (h.calls).0) old.frees old.ends old.packets old.stops b.call m)))
      where
        both : (word : ℕ → ℕ) (run : Runs t word b.took b.pushed s) (g : TableGot Message) (a : Answers) (faithful : IsFaithful t word a (settled t h.starved g s)) (ds : List Did) → collect free_in d.dids ≡ freed_in run → length (collect (add_in EndedCount) d.dids) ≤ length (collect free_in d.dids) → length (collect (add_in PacketsCount) d.dids) ≡ length (counted_in run) → (stop_read run ≡ true → ¬ (collect saw_stop_in d.dids ≡ [])) → (call : Called s b.took b.pushed d.took d.pushed g) → Turned (at_served (frees t a (settled t h.starved g s).round) s.last (settled t h.starved g s).next) (stop_at s.last a.stop) (length (counts_in g s.last)) ds → RunWith t word d.took d.pushed (turn t h.starved a g s) (d.dids ++ ds)
        both word run g a faithful ds fs oe op os call m =
            record {
              run = Then run d.took d.pushed g call h.starved a faithful;
              frees = collect-append free_in d.dids ds ∙ ap (λ (zs : List (ℕ × ℕ)). zs ++ collect free_in ds) fs ∙ ap (λ (zs : List (ℕ × ℕ)). freed_in run ++ zs) m.frees;
              ends = (let x : length (collect (add_in EndedCount) (d.dids ++ ds)) ≡ length (collect (add_in EndedCount) d.dids) + length (collect (add_in EndedCount) ds) = ap length (collect-append (add_in EndedCount) d.dids ds) ∙ length_append (collect (add_in EndedCount) d.dids) (collect (add_in EndedCount) ds) in
                  let y : length (collect free_in (d.dids ++ ds)) ≡ length (collect free_in d.dids) + length (collect free_in ds) = ap length (collect-append free_in d.dids ds) ∙ length_append (collect free_in d.dids) (collect free_in ds) in
                  let v : length (collect (add_in EndedCount) ds) ≤ length (collect free_in ds) = m.ends in omega arith);
              packets = ap length (collect-append (add_in PacketsCount) d.dids ds) ∙ length_append (collect (add_in PacketsCount) d.dids) (collect (add_in PacketsCount) ds) ∙ (let x : length (collect (add_in PacketsCount) ds) ≡ length (counts_in g s.last) = m.counts in let y : length (counted_in run ++ counts_in g s.last) ≡ length (counted_in run) + length (counts_in g s.last) = length_append (counted_in run) (counts_in g s.last) in omega arith);
              stops = λ e z. (let k : (collect saw_stop_in d.dids ++ collect saw_stop_in ds) ≡ [] = sym (collect-append saw_stop_in d.dids ds) ∙ z in stopped e (append_none (collect saw_stop_in d.dids) (collect saw_stop_in ds) k));
            }
          where
            stopped : (if stop_at s.last a.stop then true else stop_read run) ≡ true → (collect saw_stop_in d.dids ≡ []) × (collect saw_stop_in ds ≡ []) → ⊥
            stopped e z = elim (join (stop_at s.last a.stop) (stop_read run) true e) [ inl q ↦ m.stops q z.1 | inr q ↦ os q z.0 ]

-- whatever the pipe answers
pub after_ran : (t : Terms) (y : ActorId) (u : Table) (d : Diary) → IsReactor t y → Ran t d.took d.pushed u d.dids → (l : TableAsk) → u.last ≡ l → After t (RQuiet t y) (RDone t y) u (world_ask l) d
after_ran t y u d i r Take e = (
  (i, record { took = d.took; pushed = d.pushed; ran = r; call = FoundNone e }),
  λ who m. (i, record { took = d.took; pushed = d.pushed; ran = r; call = TookOne e who m }),
)
after_ran t y u d i r (Push w m) e = (
  (λ there. (i, record { took = d.took; pushed = d.pushed; ran = r; call = PushedOne w m e })),
  (i, record { took = d.took; pushed = d.pushed; ran = r; call = CameBack w m e }),
)
after_ran t y u d i r Nothing e = (i, record { took = d.took; pushed = d.pushed; ran = r; call = NoCall (inl e) })
after_ran t y u d i r Rest e = (i, record { took = d.took; pushed = d.pushed; ran = r; call = NoCall (inr e) })
after_ran t y u d i r Finished e = (i, (e, r))

first_turn : (t : Terms) (s : Table) (dids : List Did) (u : Table) (ask : Ask) (d : Diary) → ReactorTurn t s GotStart dids u ask → (s ≡ started) × (d ≡ no_diary) → Ran t d.took d.pushed u (d.dids ++ dids)
first_turn t s dids u ask d h (e, q) = subst (λ (x : Diary). Ran t x.took x.pushed u (x.dids ++ dids)) (sym q) (first_ran t dids u ask (subst (λ (x : Table). ReactorTurn t x GotStart dids u ask) e h))

turn_ran : (t : Terms) (s : Table) (got : Got) (dids : List Did) (u : Table) (ask : Ask) (d : Diary) → ReactorTurn t s got dids u ask → QuietBy t s got d → Ran t d.took d.pushed u (d.dids ++ dids)
turn_ran t s GotStart dids u ask d h q = first_turn t s dids u ask d h q
turn_ran t s (GotTook m) dids u ask d h q = then_ran t s (GotTook m) dids u ask d h q
turn_ran t s GotEmpty dids u ask d h q = then_ran t s GotEmpty dids u ask d h q
turn_ran t s GotPushed dids u ask d h q = then_ran t s GotPushed dids u ask d h q
turn_ran t s (GotFull m) dids u ask d h q = then_ran t s (GotFull m) dids u ask d h q
turn_ran t s GotNothing dids u ask d h q = then_ran t s GotNothing dids u ask d h q

pub reactor_keeps : (t : Terms) (y : ActorId) (s : Table) (got : Got) (feed : Feed) (dids : List Did) (u : Table) (ask : Ask) (d : Diary) → RTurn t y s got feed dids u ask → RQuiet t y s got d → After t (RQuiet t y) (RDone t y) u ask (with_dids d dids)
reactor_keeps t y s got feed dids u ask d (i, h) (j, q) =
    subst (λ (x : Ask). After t (RQuiet t y) (RDone t y) u x (with_dids d dids)) (sym h.asks)
    (after_ran t y u (with_dids d dids) i (turn_ran t s got dids u ask d h q) u.last refl)
