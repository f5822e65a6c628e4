-- The last that a finished reactor pushed to a worker is NoMore: once one was given there is no connection any more.
use Rattle.std.proofs.Common.{◌≡◌, ◌⊎◌, ℕ, ◌+◌, ◌<◌, ◌≤◌, ◌==◌, Bool, true, false, nat_lt, if◌then◌else◌, List, [], ◌∷◌, ◌++◌, length, map, refl, ap, ◌∙◌, sym, subst, append-nil, arith, inl, inr, zero, suc}
use Rattle.sw_data.specs.declared.messages.Got.{Got}
use Rattle.sw_lists.specs.Lists.{collect, Each, when}
use Rattle.sw_lists.proofs.Lists.{collect-append, append_none, eq_same, eq_other}
use Rattle.std.proofs.lemmas.Bool.{cases_lt}
use Rattle.sw_step.specs.declared.actor.ActorId.{ActorId}
use Rattle.sw_step.specs.declared.actor.ActorId.TheVariants.{Worker}
use Rattle.sw_record.specs.Terms.{Terms}
use Rattle.sw_past.specs.Messages.{Message, FreshMsg, SendMsg, CloseMsg, ResetMsg, Bye, EventMsg, OverMsg, NoMore}
use Rattle.sw_past.specs.Past.{Mail, bare, with, of}
use Rattle.sw_past.specs.Views.{no_more, fresh_in}
use Rattle.sw_past.specs.Routes.{ToWorker}
use Rattle.sw_join.specs.Drained.{LastMarked}
use Rattle.sw_reactor_table.specs.Conn.{Conn, Answers, Does, Pushes, Moves, Stays, Leaves, takes, stops, noted, holds, at_event, writes, serve}
use Rattle.sw_reactor_table.specs.Reactor.{Reactor, Ask, Take, Push, Nothing, Rest, Finished, all, each_conn, settled, settled_msg, settled_push, settled_full, pushed_by, full_by, turned, rest_by, served_by, counted, ends_by, serves, chosen, started}
use Rattle.sw_reactor_table.specs.Runs.{Called, TookOne, FoundNone, PushedOne, CameBack, NoCall, Runs, First, Then}
use Rattle.sw_reactor_laws.specs.Ending.{LinksFirst}
use Rattle.sw_reactor_table.proofs.Flow.{more_of}
use Rattle.sw_reactor_table.proofs.Settle.{lt_is}
use Rattle.sw_reactor_laws.proofs.Ending.{chosen_chose, call_counts, runs_counts}
use Rattle.sw_reactor_table.proofs.Law.{runs_straight}

-- no link behind a NoMore
first_before : (ms : Mail) (x : ActorId × Message) → LinksFirst (ms ++ x ∷ []) → LinksFirst ms
first_before [] x h = tt
first_before (y ∷ ms) x h = ((λ n. (append_none (collect fresh_in (bare ms)) (fresh_in x.1) (sym (more_of fresh_in ms x) ∙ h.0 n)).0), first_before ms x h.1)

fresh_not : (ms : Mail) (from : ActorId) (ip s : ℕ) → LinksFirst (ms ++ (from, FreshMsg ip s) ∷ []) → 0 < length (collect no_more (bare ms)) → ⊥
fresh_not [] from ip s h c = absurd (omega arith)
fresh_not (y ∷ ms) from ip s h c = pick (no_more y.1) refl c (λ g. fresh_not ms from ip s h.1 g)
  where
    some : collect fresh_in (bare (ms ++ (from, FreshMsg ip s) ∷ [])) ≡ [] → ⊥
    some e = (let p = (append_none (collect fresh_in (bare ms)) (s ∷ []) (sym (more_of fresh_in ms (from, FreshMsg ip s)) ∙ e)).1 in let q : s ∷ [] ≡ [] = p in cc)

    pick : (zs : List ℕ) → no_more y.1 ≡ zs → 0 < length (zs ++ collect no_more (bare ms)) → (0 < length (collect no_more (bare ms)) → ⊥) → ⊥
    pick [] e g rec = rec g
    pick (z ∷ zs) e g rec = some (h.0 (λ n. (let q : z ∷ zs ≡ [] = sym e ∙ n in cc)))

-- with nothing on its way
pub record Lasts (pushed : Mail) (r : Reactor) : Type 0 where
  pub gone : 0 < r.given → all r ≡ []
  pub some : 0 < r.given → 0 < r.ends
  pub last : (j : ℕ) → j < r.given → LastMarked no_more (of (Worker j) pushed)

none_given : (pushed : Mail) (r : Reactor) → r.given ≡ 0 → Lasts pushed r
none_given pushed r z = record { gone = λ g. absurd (omega arith); some = λ g. absurd (omega arith); last = λ j g. absurd (omega arith) }

-- what is asked for: a NoMore only without a connection, and events only before any
abbrev AsksMsg : Reactor → ℕ → Message → Type 0
AsksMsg r w NoMore = (all r ≡ []) × (0 < r.ends) × (w ≡ r.given)
AsksMsg r w (FreshMsg ip s) = r.given ≡ 0
AsksMsg r w (SendMsg s b) = r.given ≡ 0
AsksMsg r w (CloseMsg s) = r.given ≡ 0
AsksMsg r w (ResetMsg s) = r.given ≡ 0
AsksMsg r w (Bye s) = r.given ≡ 0
AsksMsg r w (EventMsg e) = r.given ≡ 0
AsksMsg r w (OverMsg id) = r.given ≡ 0

abbrev AsksLast : Reactor → Ask → Type 0
AsksLast r (Push w m) = AsksMsg r w m
AsksLast r Take = Unit {0}
AsksLast r Nothing = Unit {0}
AsksLast r Rest = Unit {0}
AsksLast r Finished = Unit {0}

pub record LastsAfter (pushed : Mail) (r : Reactor) : Type 0 where
  pub lasts : Lasts pushed r
  pub asks : AsksLast r r.last

-- what is settled
none_map : (f : Conn → Conn) (cs ds : List Conn) → cs ++ ds ≡ [] → map f cs ++ map f ds ≡ []
none_map f cs ds e = (let p = append_none cs ds e in rw (p.0, p.1) refl)

each_lasts : (pushed : Mail) (f : Conn → Conn) (r : Reactor) → Lasts pushed r → Lasts pushed (each_conn f r)
each_lasts pushed f r q = record { gone = λ g. none_map f r.done r.next (q.gone g); some = q.some; last = q.last }

took_lasts : (t : Terms) (took pushed : Mail) (starved : Bool) (from : ActorId) (m : Message) (r : Reactor) → LinksFirst (took ++ (from, m) ∷ []) → r.ends ≡ length (collect no_more (bare took)) → Lasts pushed r → Lasts pushed (settled_msg t starved m r)
took_lasts t took pushed starved from (FreshMsg ip s) r first e q = record { gone = λ g. absurd (fresh_not took from ip s first (subst (λ (n : ℕ). 0 < n) e (q.some g))); some = q.some; last = q.last }
took_lasts t took pushed starved from (SendMsg s b) r first e q = each_lasts pushed (takes t starved (SendMsg s b)) r q
took_lasts t took pushed starved from (CloseMsg s) r first e q = each_lasts pushed (takes t starved (CloseMsg s)) r q
took_lasts t took pushed starved from (ResetMsg s) r first e q = each_lasts pushed (takes t starved (ResetMsg s)) r q
took_lasts t took pushed starved from (Bye s) r first e q = each_lasts pushed (takes t starved (Bye s)) r q
took_lasts t took pushed starved from (EventMsg x) r first e q = q
took_lasts t took pushed starved from (OverMsg id) r first e q = q
took_lasts t took pushed starved from NoMore r first e q = record { gone = q.gone; some = λ g. omega arith; last = q.last }

of_more : (pushed : Mail) (j w : ℕ) (m : Message) → of (Worker j) (pushed ++ (Worker w, m) ∷ []) ≡ of (Worker j) pushed ++ when (w == j) m
of_more pushed j w m = collect-append (with (Worker j)) pushed ((Worker w, m) ∷ []) ∙ ap (λ (ms : List Message). of (Worker j) pushed ++ ms) (append-nil (when (w == j) m))

marked_end : (ms : List Message) → LastMarked no_more (ms ++ NoMore ∷ [])
marked_end [] = λ e. absurd (let q : 0 ∷ [] ≡ [] = e in cc)
marked_end (m ∷ []) = λ e. absurd (let q : 0 ∷ [] ≡ [] = e in cc)
marked_end (m ∷ n ∷ ms) = marked_end (n ∷ ms)

pushed_lasts : (t : Terms) (pushed : Mail) (w : ℕ) (m : Message) (r : Reactor) → AsksMsg r w m → Lasts pushed r → Lasts (pushed ++ (Worker w, m) ∷ []) (settled_push t m r)
pushed_lasts t pushed w (FreshMsg ip s) r z q = none_given (pushed ++ (Worker w, FreshMsg ip s) ∷ []) r z
pushed_lasts t pushed w (SendMsg s b) r z q = none_given (pushed ++ (Worker w, SendMsg s b) ∷ []) r z
pushed_lasts t pushed w (CloseMsg s) r z q = none_given (pushed ++ (Worker w, CloseMsg s) ∷ []) r z
pushed_lasts t pushed w (ResetMsg s) r z q = none_given (pushed ++ (Worker w, ResetMsg s) ∷ []) r z
pushed_lasts t pushed w (Bye s) r z q = none_given (pushed ++ (Worker w, Bye s) ∷ []) r z
pushed_lasts t pushed w (EventMsg e) r z q = none_given (pushed ++ (Worker w, EventMsg e) ∷ []) (each_conn (at_event (noted t e) e) r) z
pushed_lasts t pushed w (OverMsg id) r z q = none_given (pushed ++ (Worker w, OverMsg id) ∷ []) r z
pushed_lasts t pushed w NoMore r z q = record { gone = λ g. z.0; some = λ g. z.1; last = λ j g. subst (LastMarked no_more) (sym (of_more pushed j w NoMore)) (marked j g) }
  where
    marked : (j : ℕ) → j < r.given + 1 → LastMarked no_more (of (Worker j) pushed ++ when (w == j) NoMore)
    marked j g = pick (w == j) refl
      where
        pick : (b : Bool) → (w == j) ≡ b → LastMarked no_more (of (Worker j) pushed ++ when b NoMore)
        pick true e = marked_end (of (Worker j) pushed)
        pick false e = subst (LastMarked no_more) (sym (append-nil (of (Worker j) pushed))) (q.last j (let k : w ≡ r.given = z.2 in let n : ¬ (w ≡ j) = (λ p. let u : true ≡ false = sym (eq_same w j p) ∙ e in cc) in omega (arith, n)))

full_lasts : (t : Terms) (pushed : Mail) (w : ℕ) (m : Message) (r : Reactor) → Lasts pushed r → Lasts pushed (settled_full w m r)
full_lasts t pushed w (FreshMsg ip s) r q = q
full_lasts t pushed w (SendMsg s b) r q = q
full_lasts t pushed w (CloseMsg s) r q = q
full_lasts t pushed w (ResetMsg s) r q = q
full_lasts t pushed w (Bye s) r q = q
full_lasts t pushed w (EventMsg e) r q = each_lasts pushed (at_event (holds w e) e) r q
full_lasts t pushed w (OverMsg id) r q = q
full_lasts t pushed w NoMore r q = q

call_lasts : (t : Terms) (r : Reactor) (took pushed later more : Mail) (got : Got Message) → Called r took pushed later more got → LinksFirst later → r.ends ≡ length (collect no_more (bare took)) → LastsAfter pushed r → (starved : Bool) → Lasts more (settled t starved got r)
call_lasts t r took pushed _ _ _ (TookOne e from m) first k q starved = took_lasts t took pushed starved from m (record r { empty = false }) first k (record { gone = q.lasts.gone; some = q.lasts.some; last = q.lasts.last })
call_lasts t r took pushed _ _ _ (FoundNone e) first k q starved = record { gone = q.lasts.gone; some = q.lasts.some; last = q.lasts.last }
call_lasts t r took pushed _ _ _ (PushedOne w m e) first k q starved = subst (λ (x : Ask). Lasts (pushed ++ (Worker w, m) ∷ []) (pushed_by t x r)) (sym e) (pushed_lasts t pushed w m r (subst (AsksLast r) e q.asks) q.lasts)
call_lasts t r took pushed _ _ _ (CameBack w m e) first k q starved = subst (λ (x : Ask). Lasts pushed (full_by x m r)) (sym e) (full_lasts t pushed w m r q.lasts)
call_lasts t r took pushed _ _ _ (NoCall e) first k q starved = q.lasts

-- what is chosen
served_asks : (t : Terms) (a : Answers) (moved : Bool) (cs : List Conn) (d : Conn) (o : Does) (r : Reactor) → (served_by t a moved cs d o r).given ≡ 0 → AsksLast (served_by t a moved cs d o r) (served_by t a moved cs d o r).last
served_asks t a moved cs d (Pushes w e) r z = z
served_asks t a moved cs d Moves r z = tt
served_asks t a moved cs d Stays r z = pick moved _
  where
    rests : (d : Reactor) (b : Bool) → AsksLast d (rest_by b)
    rests d true = tt
    rests d false = tt

    pick : (b x : Bool) → AsksLast (if b then record (turned (r.done ++ d ∷ []) cs r) { last = Nothing; still = 0 } else record (turned (r.done ++ d ∷ []) cs r) { still = (turned (r.done ++ d ∷ []) cs r).still + 1; last = rest_by x }) (if b then record (turned (r.done ++ d ∷ []) cs r) { last = Nothing; still = 0 } else record (turned (r.done ++ d ∷ []) cs r) { still = (turned (r.done ++ d ∷ []) cs r).still + 1; last = rest_by x }).last
    pick true x = tt
    pick false x = rests (record (turned (r.done ++ d ∷ []) cs r) { still = (turned (r.done ++ d ∷ []) cs r).still + 1; last = rest_by x }) x
served_asks t a moved cs d (Leaves e) r z = tt

ends_lasts : (t : Terms) (pushed : Mail) (r : Reactor) → all r ≡ [] → Lasts pushed r → LastsAfter pushed (ends_by t r)
ends_lasts t pushed r none q = pick (nat_lt 0 r.ends) refl (nat_lt r.given t.worker_num) (r.ends == 1 + t.worker_num + t.tasker_num)
  where
    same : (x : Ask) → Lasts pushed (record r { last = x })
    same x = record { gone = q.gone; some = q.some; last = q.last }

    pick : (x : Bool) → nat_lt 0 r.ends ≡ x → (y z : Bool) → LastsAfter pushed (if x then (if y then record r { last = Push r.given NoMore } else (if z then record r { last = Finished } else record r { last = Rest })) else record r { last = Rest })
    pick true e true z = record { lasts = same (Push r.given NoMore); asks = (none, lt_is 0 r.ends e, refl) }
    pick true e false true = record { lasts = same Finished; asks = tt }
    pick true e false false = record { lasts = same Rest; asks = tt }
    pick false e y z = record { lasts = same Rest; asks = tt }

no_given : (r : Reactor) (c : Conn) (cs : List Conn) → r.next ≡ c ∷ cs → (0 < r.given → all r ≡ []) → r.given ≡ 0
no_given r c cs e h = elim (cases_lt 0 r.given) [ inl lt ↦ absurd (let p = (append_none r.done r.next (h lt)).1 in let q : c ∷ cs ≡ [] = sym e ∙ p in cc) | inr ge ↦ omega arith ]

serves_lasts : (t : Terms) (a : Answers) (pushed : Mail) (r : Reactor) → (r.next ≡ [] → r.done ≡ []) → Lasts pushed r → (next : List Conn) → r.next ≡ next → (serves t a next r).given ≡ r.given → LastsAfter pushed (serves t a next r)
serves_lasts t a pushed r tight q [] e g = ends_lasts t pushed r (ap (λ (zs : List Conn). zs ++ r.next) (tight e) ∙ e) q
serves_lasts t a pushed r tight q (c ∷ cs) e g =
    let zero_now : (serves t a (c ∷ cs) r).given ≡ 0 = g ∙ no_given r c cs e q.gone in
    record {
      lasts = none_given pushed (serves t a (c ∷ cs) r) zero_now;
      asks = served_asks t a (writes a.write c) cs (serve t a r.round c).conn (serve t a r.round c).does (record r { round = counted (serve t a r.round c).cuts r.round }) zero_now;
    }

takes_lasts : (pushed : Mail) (r : Reactor) → Lasts pushed r → (b : Bool) → LastsAfter pushed (record (if b then each_conn stops r else r) { last = Take })
takes_lasts pushed r q true = (let k : Lasts pushed (each_conn stops r) = each_lasts pushed stops r q in record { lasts = record { gone = k.gone; some = k.some; last = k.last }; asks = tt })
takes_lasts pushed r q false = record { lasts = record { gone = q.gone; some = q.some; last = q.last }; asks = tt }

chosen_lasts : (t : Terms) (a : Answers) (pushed : Mail) (r : Reactor) → (r.next ≡ [] → r.done ≡ []) → Lasts pushed r → (ask : Ask) → LastsAfter pushed (chosen t a ask r)
chosen_lasts t a pushed r tight q Take = serves_lasts t a pushed r tight q r.next refl (chosen_chose t a r tight Take).given
chosen_lasts t a pushed r tight q (Push w m) = takes_lasts pushed r q a.stop
chosen_lasts t a pushed r tight q Nothing = takes_lasts pushed r q a.stop
chosen_lasts t a pushed r tight q Rest = takes_lasts pushed r q a.stop
chosen_lasts t a pushed r tight q Finished = takes_lasts pushed r q a.stop

first_called : (r : Reactor) (took pushed later more : Mail) (got : Got Message) → Called r took pushed later more got → LinksFirst later → LinksFirst took
first_called r took pushed _ _ _ (TookOne e from m) h = first_before took (from, m) h
first_called r took pushed _ _ _ (FoundNone e) h = h
first_called r took pushed _ _ _ (PushedOne w m e) h = h
first_called r took pushed _ _ _ (CameBack w m e) h = h
first_called r took pushed _ _ _ (NoCall e) h = h

runs_lasts : (t : Terms) (word : ℕ → ℕ) (took pushed : Mail) (r : Reactor) → Runs t word took pushed r → LinksFirst took → LastsAfter pushed r
runs_lasts t word _ _ _ (First starved a f) first = chosen_lasts t a [] started (λ e. refl) (none_given [] started refl) started.last
runs_lasts t word _ _ _ (Then {took = took} {pushed = pushed} {r = r} before later more got call starved a f) first =
    let c = runs_counts t word took pushed r before in
    chosen_lasts t a more (settled t starved got r) (call_counts t r took pushed later more got call c starved).tight
    (call_lasts t r took pushed later more got call first c.counts.ends (runs_lasts t word took pushed r before (first_called r took pushed later more got call first)) starved) r.last

-- to no other worker was anything pushed
none_beyond : (t : Terms) (j : ℕ) (pushed : Mail) → t.worker_num ≤ j → Each (ToWorker t) pushed → of (Worker j) pushed ≡ []
none_beyond t j [] le h = refl
none_beyond t j ((to, m) ∷ ms) le h = ap (λ (zs : List Message). zs ++ of (Worker j) ms) (one m h.0) ∙ none_beyond t j ms le h.1
  where
    beyond : (k : ℕ) → k < t.worker_num → to ≡ Worker k → with (Worker j) (to, m) ≡ []
    beyond k lt e = subst (λ (y : ActorId). with (Worker j) (y, m) ≡ []) (sym e) (ap (λ (b : Bool). when b m) (eq_other k j (λ q. absurd (omega arith))))

    one : (x : Message) → ToWorker t (to, x) → with (Worker j) (to, m) ≡ []
    one (FreshMsg ip s) k = absurd k
    one (SendMsg s b) k = absurd k
    one (CloseMsg s) k = absurd k
    one (ResetMsg s) k = absurd k
    one (Bye s) k = absurd k
    one (EventMsg e) k = beyond k.0 k.1.0 k.1.1
    one (OverMsg id) k = absurd k
    one NoMore k = beyond k.0 k.1.0 k.1.1

pub finished_last : (t : Terms) (word : ℕ → ℕ) → 0 < t.worker_num → (took pushed : Mail) (r : Reactor) → Runs t word took pushed r → LinksFirst took → r.last ≡ Finished → (j : ℕ) → LastMarked no_more (of (Worker j) pushed)
finished_last t word some took pushed r runs first e j =
    let d = (runs_counts t word took pushed r runs).done e in
    elim (cases_lt j t.worker_num) [
      | inl lt ↦ (runs_lasts t word took pushed r runs first).lasts.last j (let k : t.worker_num ≤ r.given = d.all_given in omega arith)
      | inr le ↦ subst (LastMarked no_more) (sym (none_beyond t j pushed le (runs_straight t word some took pushed r runs).pushed_is)) tt
    ]
