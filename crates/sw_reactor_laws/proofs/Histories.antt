-- What a run counted and released: the packets that it pushed, and the sessions of the links that it ended.
use Rattle.std.proofs.Common.{◌≡◌, ◌⊎◌, ℕ, ◌+◌, ◌<◌, ◌≤◌, ◌==◌, Bool, true, false, nat_lt, if◌then◌else◌, List, [], ◌∷◌, ◌++◌, length, map, refl, ap, ◌∙◌, sym, subst, append-nil, append_assoc, arith, Option, Some, None, inl, inr, zero, suc}
use Rattle.sw_data.specs.declared.messages.Got.{Got}
use Rattle.sw_data.specs.declared.messages.Got.TheVariants.{Full}
use Rattle.sw_lists.specs.Lists.{collect, Each, Has}
use Rattle.sw_lists.specs.Numbers.{Distinct}
use Rattle.sw_lists.specs.Perm.{Perm}
use Rattle.sw_lists.proofs.Lists.{collect-append, each_more}
use Rattle.sw_step.specs.declared.actor.ActorId.TheVariants.{Worker}
use Rattle.sw_record.specs.Counts.{total}
use Rattle.sw_record.specs.Words.{Event, Connect, Packet, Closed, Finish, Task, Ended}
use Rattle.sw_record.specs.declared.record.LinkRecord.{LinkRecord}
use Rattle.sw_record.specs.declared.record.LinkState.{LinkState}
use Rattle.sw_record.specs.declared.record.LinkState.TheVariants.{Waiting, Live, Over}
use Rattle.sw_record.specs.Terms.{Terms, session_of}
use Rattle.sw_past.specs.Messages.{Message, FreshMsg, SendMsg, CloseMsg, ResetMsg, Bye, EventMsg, OverMsg, NoMore}
use Rattle.sw_past.specs.Past.{Mail, bare}
use Rattle.sw_past.specs.Views.{fresh_in, packet_msg}
use Rattle.sw_past.specs.Routes.{IsFair}
use Rattle.sw_join.specs.Laws.{Aim, Ending}
use Rattle.sw_reactor_table.specs.Conn.{Conn, Answers, Does, Pushes, Moves, Stays, Leaves, Served, holds, stops, at_event, writes, serve, live_link, over_link}
use Rattle.sw_reactor_table.specs.Reactor.{Reactor, Ask, Take, Push, Nothing, Rest, Finished, all, each_conn, settled, settled_full, full_by, turned, stayed, served_by, counted, ends_by, serves, chosen, started, live_links, kept}
use Rattle.sw_reactor_table.specs.Quiet.{QuietOver, QuietLists, Quiet, QuietBy, Grows, IsCaused, session_in, some_list, session_over, sessions}
use Rattle.sw_reactor_table.specs.Modes.{ModeLaws}
use Rattle.sw_reactor_laws.specs.Shows.{WasAsked}
use Rattle.sw_reactor_table.specs.Runs.{Called, TookOne, FoundNone, PushedOne, CameBack, NoCall, Runs, First, Then}
use Rattle.sw_reactor_laws.specs.Round.{sum_of, sent_of}
use Rattle.sw_reactor_laws.specs.Histories.{pushed_packet, counts_in, counted_in, at_first, at_served, leaves_with, frees, freed_in, told_uid, freed_by, freed_of, first_of, firsts}
use Rattle.sw_reactor_table.proofs.Flow.{more_of}
use Rattle.sw_reactor_table.proofs.Lift.{map_append}
use Rattle.sw_reactor_table.proofs.Everywhere.{settled_over, turned_over}
use Rattle.sw_reactor_table.proofs.Law.{runs_quiet, map_same, at_session}
use Rattle.sw_reactor_laws.proofs.Rounded.{RoundOf, RoundBy, runs_round, sum_map}
use Rattle.sw_reactor_table.proofs.Members.{each_has, has_left, has_right, has_either, distinct_apart}

-- a packet is counted as its push is noted
called_packets : (r : Reactor) (took pushed later more : Mail) (got : Got Message) → Called r took pushed later more got → collect packet_msg (bare more) ≡ collect packet_msg (bare pushed) ++ counts_in got r.last
called_packets r took pushed _ _ _ (TookOne e from m) = sym (append-nil (collect packet_msg (bare pushed)))
called_packets r took pushed _ _ _ (FoundNone e) = sym (append-nil (collect packet_msg (bare pushed)))
called_packets r took pushed _ _ _ (PushedOne w m e) = more_of packet_msg pushed (Worker w, m) ∙ ap (λ (k : Ask). collect packet_msg (bare pushed) ++ pushed_packet k) (sym e)
called_packets r took pushed _ _ _ (CameBack w m e) = sym (append-nil (collect packet_msg (bare pushed)))
called_packets r took pushed _ _ _ (NoCall e) = sym (append-nil (collect packet_msg (bare pushed)))

counted_all : (t : Terms) (word : ℕ → ℕ) (took pushed : Mail) (r : Reactor) (run : Runs t word took pushed r) → counted_in run ≡ collect packet_msg (bare pushed)
counted_all t word _ _ _ (First starved a f) = refl
counted_all t word _ _ _ (Then {took = took} {pushed = pushed} {r = r} before later more got call starved a f) =
    ap (λ (zs : List ℕ). zs ++ counts_in got r.last) (counted_all t word took pushed r before) ∙ sym (called_packets r took pushed later more got call)

-- and its link counts it
total_kept : (t : Terms) (cs : List Conn) (ls : List LinkRecord) → total (live_links t cs ++ ls) ≡ sum_of sent_of cs + total ls
total_kept t [] ls = omega arith
total_kept t (c ∷ cs) ls = (let r : total (live_links t cs ++ ls) ≡ sum_of sent_of cs + total ls = total_kept t cs ls in omega arith)

held_sent : (w : ℕ) (e : Event) (c : Conn) → sent_of (at_event (holds w e) e c) ≡ sent_of c
held_sent w e c = by e
  where
    pick : (b : Bool) → sent_of (if b then holds w e c else c) ≡ sent_of c
    pick true = refl
    pick false = refl

    by : (x : Event) → sent_of (at_event (holds w e) x c) ≡ sent_of c
    by (Connect s) = pick (c.session == s)
    by (Packet s i b) = pick (c.session == s)
    by (Closed s) = pick (c.session == s)
    by (Finish id b) = refl
    by (Task v id b) = refl

full_sent : (t : Terms) (pushed : Mail) (w : ℕ) (m : Message) (r : Reactor) → RoundOf t pushed (settled_full w m r) → length (collect packet_msg (bare pushed)) ≡ sum_of sent_of (all r) + total r.over
full_sent t pushed w (FreshMsg ip s) r x = x.sent
full_sent t pushed w (SendMsg s b) r x = x.sent
full_sent t pushed w (CloseMsg s) r x = x.sent
full_sent t pushed w (ResetMsg s) r x = x.sent
full_sent t pushed w (Bye s) r x = x.sent
full_sent t pushed w (EventMsg e) r x = x.sent ∙ ap (λ (n : ℕ). n + total r.over) (ap (sum_of sent_of) (sym (map_append (at_event (holds w e) e) r.done r.next)) ∙ sum_map sent_of (at_event (holds w e) e) (held_sent w e) (all r))
full_sent t pushed w (OverMsg id) r x = x.sent
full_sent t pushed w NoMore r x = x.sent

by_sent : (t : Terms) (pushed : Mail) (r : Reactor) (ask : Ask) → RoundBy t pushed r ask → length (collect packet_msg (bare pushed)) ≡ sum_of sent_of (all r) + total r.over
by_sent t pushed r Take x = x.sent
by_sent t pushed r (Push w m) x = full_sent t pushed w m r x.1
by_sent t pushed r Nothing x = x.sent
by_sent t pushed r Rest x = x.sent
by_sent t pushed r Finished x = x.sent

-- as many packets were counted as the links that are kept show
pub counted_total : (t : Terms) (a : Aim) (w : Ending) → ModeLaws t a w → (word : ℕ → ℕ) → 0 < t.worker_num → Grows t → (n : ℕ) → n < t.reactor_num → (took pushed : Mail) (r : Reactor) (run : Runs t word took pushed r) → IsFair t n took → length (counted_in run) ≡ total (kept t r)
counted_total t a w m word some grows n small took pushed r run fair =
    ap length (counted_all t word took pushed r run) ∙ by_sent t pushed r r.last (runs_round t a w m word some grows n small took pushed r run fair) ∙ sym (total_kept t (all r) r.over)

-- a session is released as its link ends
served_freed : (t : Terms) (a : Answers) (moved : Bool) (cs : List Conn) (d : Conn) (o : Does) (r : Reactor) → collect freed_of (served_by t a moved cs d o r).over ≡ collect freed_of r.over ++ leaves_with d.session a.released o
served_freed t a moved cs d (Pushes w e) r = ap (collect freed_of) (turned_over (r.done ++ d ∷ []) cs r) ∙ sym (append-nil (collect freed_of r.over))
served_freed t a moved cs d Moves r = ap (collect freed_of) (turned_over (r.done ++ d ∷ []) cs r) ∙ sym (append-nil (collect freed_of r.over))
served_freed t a moved cs d Stays r = pick moved ∙ sym (append-nil (collect freed_of r.over))
  where
    pick : (b : Bool) → collect freed_of (if b then record (turned (r.done ++ d ∷ []) cs r) { last = Nothing; still = 0 } else stayed (length (r.done ++ d ∷ cs)) (turned (r.done ++ d ∷ []) cs r)).over ≡ collect freed_of r.over
    pick true = ap (collect freed_of) (turned_over (r.done ++ d ∷ []) cs r)
    pick false = ap (collect freed_of) (turned_over (r.done ++ d ∷ []) cs r)
served_freed t a moved cs d (Leaves e) r = collect-append freed_of r.over (over_link t d a.released e ∷ [])

ends_over : (t : Terms) (r : Reactor) → (ends_by t r).over ≡ r.over
ends_over t r = pick (nat_lt 0 r.ends) (nat_lt r.given t.worker_num) (r.ends == 1 + t.worker_num + t.tasker_num)
  where
    pick : (x y z : Bool) → ◌≡◌ {A = List LinkRecord} (if x then (if y then record r { last = Push r.given NoMore } else (if z then record r { last = Finished } else record r { last = Rest })) else record r { last = Rest }).over r.over
    pick true true z = refl
    pick true false true = refl
    pick true false false = refl
    pick false y z = refl

serves_freed : (t : Terms) (a : Answers) (r : Reactor) (next : List Conn) → collect freed_of (serves t a next r).over ≡ collect freed_of r.over ++ at_first (frees t a r.round) next
serves_freed t a r [] = ap (collect freed_of) (ends_over t r) ∙ sym (append-nil (collect freed_of r.over))
serves_freed t a r (c ∷ cs) = (let v : Served = serve t a r.round c in served_freed t a (writes a.write c) cs v.conn v.does (record r { round = counted v.cuts r.round }))

takes_freed : (r : Reactor) (b : Bool) → collect freed_of (record (if b then each_conn stops r else r) { last = Take }).over ≡ collect freed_of r.over ++ []
takes_freed r true = sym (append-nil (collect freed_of r.over))
takes_freed r false = sym (append-nil (collect freed_of r.over))

chosen_freed : (t : Terms) (a : Answers) (r : Reactor) (ask : Ask) → collect freed_of (chosen t a ask r).over ≡ collect freed_of r.over ++ at_served (frees t a r.round) ask r.next
chosen_freed t a r Take = serves_freed t a r r.next
chosen_freed t a r (Push w m) = takes_freed r a.stop
chosen_freed t a r Nothing = takes_freed r a.stop
chosen_freed t a r Rest = takes_freed r a.stop
chosen_freed t a r Finished = takes_freed r a.stop

pub freed_is : (t : Terms) (word : ℕ → ℕ) (took pushed : Mail) (r : Reactor) (run : Runs t word took pushed r) → collect freed_of r.over ≡ freed_in run
freed_is t word _ _ _ (First starved a f) = chosen_freed t a started started.last
freed_is t word _ _ _ (Then {took = took} {pushed = pushed} {r = r} before later more got call starved a f) =
    chosen_freed t a (settled t starved got r) r.last
    ∙ ap (λ (zs : List (ℕ × ℕ)). zs ++ at_served (frees t a (settled t starved got r).round) r.last (settled t starved got r).next)
    (ap (collect freed_of) (settled_over t starved got r) ∙ freed_is t word took pushed r before)

-- the sessions that are listed, at every moment
pub record Listed (took : Mail) (cs : List Conn) (ls : List LinkRecord) : Type 0 where
  pub distinct : Distinct (sessions cs ls)
  pub came : Perm ℕ (sessions cs ls) (collect fresh_in (bare took))
  pub ended : Each (λ (l : LinkRecord). (e : Ended) × (l.state ≡ Over e)) ls
  pub have : Each (λ (l : LinkRecord). (s : ℕ) × (session_of l.state ≡ Some s)) ls
  pub why : Each (WasAsked took) ls

listed_of : (t : Terms) (a : Aim) (w : Ending) (n : ℕ) (took pushed : Mail) (cs : List Conn) (ls : List LinkRecord) → QuietLists t a w n took pushed cs ls → Listed took cs ls
listed_of t a w n took pushed cs ls q =
    record {
      distinct = q.distinct;
      came = q.came;
      ended = each_more (QuietOver t a w took pushed) (λ (l : LinkRecord). (e : Ended) × (l.state ≡ Over e)) ls (λ l h. h.ended) q.over;
      have = each_more (QuietOver t a w took pushed) (λ (l : LinkRecord). (s : ℕ) × (session_of l.state ≡ Some s)) ls (λ l h. (h.number, h.session)) q.over;
      why = each_more (QuietOver t a w took pushed) (WasAsked took) ls (λ l h s e p g. subst (λ (u : ℕ). IsCaused u (Some e.cause) took) (some_same h.number s (sym h.session ∙ p)) (h.why e g)) q.over;
    }
  where
    some_same : (x y : ℕ) → Some x ≡ Some y → x ≡ y
    some_same x y e = cc

full_listed : (t : Terms) (a : Aim) (w : Ending) (n : ℕ) (took pushed : Mail) (v : ℕ) (m : Message) (r : Reactor) → Quiet t a w n took pushed (settled_full v m r) → Listed took (all r) r.over
full_listed t a w n took pushed v (FreshMsg ip s) r q = listed_of t a w n took pushed (all r) r.over q
full_listed t a w n took pushed v (SendMsg s b) r q = listed_of t a w n took pushed (all r) r.over q
full_listed t a w n took pushed v (CloseMsg s) r q = listed_of t a w n took pushed (all r) r.over q
full_listed t a w n took pushed v (ResetMsg s) r q = listed_of t a w n took pushed (all r) r.over q
full_listed t a w n took pushed v (Bye s) r q = listed_of t a w n took pushed (all r) r.over q
full_listed t a w n took pushed v (EventMsg x) r q =
    (let f : Conn → Conn = at_event (holds v x) x in
    let e : sessions (all (each_conn f r)) r.over ≡ sessions (all r) r.over = ap (λ (zs : List ℕ). zs ++ collect session_over r.over) (ap (collect session_in) (sym (map_append f r.done r.next)) ∙ map_same f (at_session (holds v x) x (λ c. refl)) (all r)) in
    let l : Listed took (all (each_conn f r)) r.over = listed_of t a w n took pushed (all (each_conn f r)) r.over q in
    record { distinct = subst Distinct e l.distinct; came = subst (λ (zs : List ℕ). Perm ℕ zs (collect fresh_in (bare took))) e l.came; ended = l.ended; have = l.have; why = l.why })
full_listed t a w n took pushed v (OverMsg id) r q = listed_of t a w n took pushed (all r) r.over q
full_listed t a w n took pushed v NoMore r q = listed_of t a w n took pushed (all r) r.over q

by_listed : (t : Terms) (a : Aim) (w : Ending) (n : ℕ) (took pushed : Mail) (r : Reactor) (ask : Ask) → r.last ≡ ask → QuietBy t a w n took pushed r ask → Listed took (all r) r.over
by_listed t a w n took pushed r Take e q = listed_of t a w n took pushed (all r) r.over q.0
by_listed t a w n took pushed r (Push v x) e q = full_listed t a w n took pushed v x r (full_of e q.1)
  where
    full_of : r.last ≡ Push v x → Quiet t a w n took pushed (settled t false (Full x) r) → Quiet t a w n took pushed (settled_full v x r)
    full_of p g = subst (λ (k : Ask). Quiet t a w n took pushed (full_by k x r)) p g
by_listed t a w n took pushed r Nothing e q = listed_of t a w n took pushed (all r) r.over q
by_listed t a w n took pushed r Rest e q = listed_of t a w n took pushed (all r) r.over q
by_listed t a w n took pushed r Finished e q = listed_of t a w n took pushed (all r) r.over q

pub runs_listed : (t : Terms) (a : Aim) (w : Ending) → ModeLaws t a w → (word : ℕ → ℕ) → 0 < t.worker_num → Grows t → (n : ℕ) → n < t.reactor_num → (took pushed : Mail) (r : Reactor) → Runs t word took pushed r → IsFair t n took → Listed took (all r) r.over
runs_listed t a w m word some grows n small took pushed r run fair = by_listed t a w n took pushed r r.last refl (runs_quiet t a w m word some grows n small took pushed r run fair)

-- the sessions of links that ended
firsts_told : (e : Ended) (o : Option ℕ) → firsts (collect (told_uid e) (some_list o)) ≡ some_list o
firsts_told e None = refl
firsts_told e (Some s) = refl

firsts_state : (x : LinkState) → (e : Ended) → x ≡ Over e → firsts (freed_by x) ≡ some_list (session_of x)
firsts_state Waiting e q = absurd (cc)
firsts_state (Live d) e q = absurd (cc)
firsts_state (Over d) e q = firsts_told d d.session

pub firsts_freed : (ls : List LinkRecord) → Each (λ (l : LinkRecord). (e : Ended) × (l.state ≡ Over e)) ls → firsts (collect freed_of ls) ≡ collect session_over ls
firsts_freed [] h = refl
firsts_freed (l ∷ ls) h = collect-append first_of (freed_of l) (collect freed_of ls) ∙ ap (λ (zs : List ℕ). zs ++ firsts (collect freed_of ls)) (firsts_state l.state h.0.0 h.0.1) ∙ ap (λ (zs : List ℕ). session_over l ++ zs) (firsts_freed ls h.1)

over_link_of : (s : ℕ) (ls : List LinkRecord) → Has s (collect session_over ls) → (l : LinkRecord) × (Has l ls × (session_of l.state ≡ Some s))
over_link_of s [] (zero, e) = absurd (cc)
over_link_of s [] (suc k, e) = absurd (cc)
over_link_of s (l ∷ ls) h = elim (has_either s (session_over l) (collect session_over ls) h) [ inl f ↦ (l, ((0, refl), here (session_of l.state) f)) | inr g ↦ (let r = over_link_of s ls g in (r.0, ((suc r.1.0.0, r.1.0.1), r.1.1))) ]
  where
    here : (o : Option ℕ) → Has s (some_list o) → o ≡ Some s
    here None (zero, e) = absurd (cc)
    here None (suc k, e) = absurd (cc)
    here (Some u) (zero, e) = e
    here (Some u) (suc zero, e) = absurd (cc)
    here (Some u) (suc (suc k), e) = absurd (cc)

over_session : (ls : List LinkRecord) (l : LinkRecord) (s : ℕ) → Has l ls → session_of l.state ≡ Some s → Has s (collect session_over ls)
over_session [] l s (zero, e) q = absurd (cc)
over_session [] l s (suc k, e) q = absurd (cc)
over_session (x ∷ ls) l s (zero, e) q = has_left s (session_over x) (collect session_over ls) (subst (λ (y : LinkRecord). Has s (session_over y)) (let g : Some x ≡ Some l = e in let k : x ≡ l = cc in sym k) (subst (λ (o : Option ℕ). Has s (some_list o)) (sym q) (0, refl)))
over_session (x ∷ ls) l s (suc k, e) q = has_right s (session_over x) (collect session_over ls) (over_session ls l s (k, e) q)

live_session : (t : Terms) (cs : List Conn) (l : LinkRecord) (s : ℕ) → Has l (live_links t cs) → session_of l.state ≡ Some s → Has s (collect session_in cs)
live_session t [] l s (zero, e) q = absurd (cc)
live_session t [] l s (suc k, e) q = absurd (cc)
live_session t (c ∷ cs) l s (zero, e) q = (0, (let g : Some (live_link t c) ≡ Some l = e in let k : live_link t c ≡ l = cc in ap (λ (y : LinkRecord). session_of y.state) k ∙ q))
live_session t (c ∷ cs) l s (suc k, e) q = (let r = live_session t cs l s (k, e) q in (suc r.0, r.1))

-- a session that was released has a link that ended, and no other
pub freed_kept : (t : Terms) (took : Mail) (cs : List Conn) (ls : List LinkRecord) → Listed took cs ls → (s : ℕ) → Has s (firsts (collect freed_of ls)) → ((l : LinkRecord) × (Has l (live_links t cs ++ ls) × (session_of l.state ≡ Some s))) × ((l : LinkRecord) → Has l (live_links t cs ++ ls) → session_of l.state ≡ Some s → (e : Ended) × (l.state ≡ Over e))
freed_kept t took cs ls d s has =
    let here : Has s (collect session_over ls) = subst (Has s) (firsts_freed ls d.ended) has in
    let one = over_link_of s ls here in (
      (one.0, (has_right one.0 (live_links t cs) ls one.1.0, one.1.1)),
      λ l at is. elim (has_either l (live_links t cs) ls at) [
        | inl f ↦ absurd (distinct_apart s (collect session_in cs) (collect session_over ls) d.distinct (live_session t cs l s f is) here)
        | inr g ↦ each_has (λ (k : LinkRecord). (e : Ended) × (k.state ≡ Over e)) ls d.ended l g
      ],
    )
