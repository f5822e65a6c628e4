-- A reactor's counts of NoMore, and what it shows once it is finished.
use Rattle.std.proofs.Common.{◌≡◌, ◌⊎◌, ℕ, ◌+◌, ◌<◌, ◌≤◌, ◌==◌, Bool, true, false, nat_lt, if◌then◌else◌, List, [], ◌∷◌, ◌++◌, length, refl, ap, ◌∙◌, sym, subst, append-nil, arith, Option, Some, None, inl, inr, zero, suc, map}
use Rattle.std.proofs.lemmas.Bool.Decides.{nat_tests}
use Rattle.sw_data.specs.declared.messages.Got.{Got}
use Rattle.sw_data.specs.declared.messages.Got.TheVariants.{Start}
use Rattle.sw_lists.specs.Lists.{collect, Each, Has, when}
use Rattle.sw_lists.proofs.Lists.{collect-append, length_append, each_append, eq_same, eq_other, eq_is, equal_or_not, perm_each, each_left, each_right, append_none}
use Rattle.sw_step.specs.declared.actor.ActorId.{ActorId}
use Rattle.sw_step.specs.declared.actor.ActorId.TheVariants.{Worker}
use Rattle.sw_record.specs.declared.record.LinkState.TheVariants.{Over}
use Rattle.sw_record.specs.Words.{Ended}
use Rattle.sw_record.specs.declared.record.LinkRecord.{LinkRecord}
use Rattle.sw_record.specs.Terms.{Terms, session_of}
use Rattle.sw_past.specs.Messages.{Message, FreshMsg, SendMsg, CloseMsg, ResetMsg, Bye, EventMsg, OverMsg, NoMore}
use Rattle.sw_past.specs.Past.{Mail, bare, of, with}
use Rattle.sw_past.specs.Views.{fresh_in, fresh_of, no_more}
use Rattle.sw_reactor_table.specs.Conn.{Conn, Answers, stops, fresh, takes, noted, holds, at_event, writes, Does, Pushes, Moves, Stays, Leaves, serve, live_link}
use Rattle.sw_reactor_table.specs.Reactor.{Reactor, Ask, Take, Push, Nothing, Rest, Finished, all, each_conn, settled, settled_msg, settled_push, settled_full, pushed_by, full_by, turned, rest_by, served_by, counted, ends_by, serves, chosen, turn, started, live_links, kept}
use Rattle.sw_reactor_table.specs.Quiet.{QuietOver, Quiet, some_list, session_over, sessions}
use Rattle.sw_reactor_table.specs.Runs.{Called, TookOne, FoundNone, PushedOne, CameBack, NoCall, Runs, First, Then}
use Rattle.sw_reactor_laws.specs.Ending.{Counts, IsGiving, IsGivingMsg, IsDone, Chose}
use Rattle.sw_reactor_table.proofs.Flow.{more_of}
use Rattle.sw_reactor_table.proofs.Settle.{lt_is, lt_not}

-- lists that are empty
map_none : (f : Conn → Conn) (cs : List Conn) → map f cs ≡ [] → cs ≡ []
map_none f [] e = refl
map_none f (c ∷ cs) e = absurd (cc)

each_tight : (f : Conn → Conn) (r : Reactor) → (r.next ≡ [] → r.done ≡ []) → map f r.next ≡ [] → map f r.done ≡ []
each_tight f r h e = ap (map f) (h (map_none f r.next e))

-- a choice
turned_chose : (t : Terms) (done cs : List Conn) (r d : Reactor) → d.ends ≡ r.ends → d.given ≡ r.given → IsGiving r.given d.last → (d.last ≡ Finished → ⊥) → (d.next ≡ [] → d.done ≡ []) → Chose t r d
turned_chose t done cs r d e g v f h = record { ends = e; given = g; tight = h; giving = subst (λ (k : ℕ). IsGiving k d.last) (sym g) v; done = λ q. absurd (f q) }

served_chose : (t : Terms) (a : Answers) (moved : Bool) (cs : List Conn) (d : Conn) (o : Does) (r : Reactor) → Chose t r (served_by t a moved cs d o r)
served_chose t a moved [] d (Pushes w e) r = record { ends = refl; given = refl; tight = λ q. refl; giving = tt; done = λ q. absurd (cc) }
served_chose t a moved (c ∷ cs) d (Pushes w e) r = record { ends = refl; given = refl; tight = λ q. absurd (cc); giving = tt; done = λ q. absurd (cc) }
served_chose t a moved [] d Moves r = record { ends = refl; given = refl; tight = λ q. refl; giving = tt; done = λ q. absurd (cc) }
served_chose t a moved (c ∷ cs) d Moves r = record { ends = refl; given = refl; tight = λ q. absurd (cc); giving = tt; done = λ q. absurd (cc) }
served_chose t a moved [] d Stays r = pick moved _
  where
    rests : (b : Bool) → Chose t r (record (turned (r.done ++ d ∷ []) [] r) { still = r.still + 1; last = rest_by b })
    rests true = record { ends = refl; given = refl; tight = λ q. refl; giving = tt; done = λ q. absurd (cc) }
    rests false = record { ends = refl; given = refl; tight = λ q. refl; giving = tt; done = λ q. absurd (cc) }

    pick : (b x : Bool) → Chose t r (if b then record (turned (r.done ++ d ∷ []) [] r) { last = Nothing; still = 0 } else record (turned (r.done ++ d ∷ []) [] r) { still = r.still + 1; last = rest_by x })
    pick true x = record { ends = refl; given = refl; tight = λ q. refl; giving = tt; done = λ q. absurd (cc) }
    pick false x = rests x
served_chose t a moved (c ∷ cs) d Stays r = pick moved _
  where
    rests : (b : Bool) → Chose t r (record (turned (r.done ++ d ∷ []) (c ∷ cs) r) { still = r.still + 1; last = rest_by b })
    rests true = record { ends = refl; given = refl; tight = λ q. absurd (cc); giving = tt; done = λ q. absurd (cc) }
    rests false = record { ends = refl; given = refl; tight = λ q. absurd (cc); giving = tt; done = λ q. absurd (cc) }

    pick : (b x : Bool) → Chose t r (if b then record (turned (r.done ++ d ∷ []) (c ∷ cs) r) { last = Nothing; still = 0 } else record (turned (r.done ++ d ∷ []) (c ∷ cs) r) { still = r.still + 1; last = rest_by x })
    pick true x = record { ends = refl; given = refl; tight = λ q. absurd (cc); giving = tt; done = λ q. absurd (cc) }
    pick false x = rests x
served_chose t a moved [] d (Leaves e) r = record { ends = refl; given = refl; tight = λ q. refl; giving = tt; done = λ q. absurd (cc) }
served_chose t a moved (c ∷ cs) d (Leaves e) r = record { ends = refl; given = refl; tight = λ q. absurd (cc); giving = tt; done = λ q. absurd (cc) }

ends_chose : (t : Terms) (r : Reactor) → r.next ≡ [] → (r.next ≡ [] → r.done ≡ []) → Chose t r (ends_by t r)
ends_chose t r empty tight = pick (nat_lt 0 r.ends) (nat_lt r.given t.worker_num) refl (r.ends == 1 + t.worker_num + t.tasker_num) refl
  where
    none : all r ≡ []
    none = ap (λ (zs : List Conn). zs ++ r.next) (tight empty) ∙ empty

    pick : (x y : Bool) → nat_lt r.given t.worker_num ≡ y → (z : Bool) → (r.ends == 1 + t.worker_num + t.tasker_num) ≡ z → Chose t r (if x then (if y then record r { last = Push r.given NoMore } else (if z then record r { last = Finished } else record r { last = Rest })) else record r { last = Rest })
    pick true true e z g = record { ends = refl; given = refl; tight = tight; giving = refl; done = λ q. absurd (cc) }
    pick true false e true g = record { ends = refl; given = refl; tight = tight; giving = tt; done = λ q. record { none = none; all_ended = eq_is r.ends (1 + t.worker_num + t.tasker_num) g; all_given = lt_not r.given t.worker_num e } }
    pick true false e false g = record { ends = refl; given = refl; tight = tight; giving = tt; done = λ q. absurd (cc) }
    pick false y e z g = record { ends = refl; given = refl; tight = tight; giving = tt; done = λ q. absurd (cc) }

serves_chose : (t : Terms) (a : Answers) (r : Reactor) → (r.next ≡ [] → r.done ≡ []) → (next : List Conn) → r.next ≡ next → Chose t r (serves t a next r)
serves_chose t a r tight [] e = ends_chose t r e tight
serves_chose t a r tight (c ∷ cs) e = (let s = served_chose t a (writes a.write c) cs (serve t a r.round c).conn (serve t a r.round c).does (record r { round = counted (serve t a r.round c).cuts r.round }) in record { ends = s.ends; given = s.given; tight = s.tight; giving = s.giving; done = s.done })

takes_chose : (t : Terms) (r : Reactor) → (r.next ≡ [] → r.done ≡ []) → (b : Bool) → Chose t r (record (if b then each_conn stops r else r) { last = Take })
takes_chose t r tight true = record { ends = refl; given = refl; tight = each_tight stops r tight; giving = tt; done = λ q. absurd (cc) }
takes_chose t r tight false = record { ends = refl; given = refl; tight = tight; giving = tt; done = λ q. absurd (cc) }

pub chosen_chose : (t : Terms) (a : Answers) (r : Reactor) → (r.next ≡ [] → r.done ≡ []) → (ask : Ask) → Chose t r (chosen t a ask r)
chosen_chose t a r tight Take = serves_chose t a r tight r.next refl
chosen_chose t a r tight (Push w m) = takes_chose t r tight a.stop
chosen_chose t a r tight Nothing = takes_chose t r tight a.stop
chosen_chose t a r tight Rest = takes_chose t r tight a.stop
chosen_chose t a r tight Finished = takes_chose t r tight a.stop

-- what is settled
some_not : (cs : List Conn) (c : Conn) → cs ++ c ∷ [] ≡ [] → ⊥
some_not cs c e = (let p = append_none cs (c ∷ []) e in let q : c ∷ [] ≡ [] = p.1 in cc)

more_ends : (took : Mail) (x : ActorId × Message) (k : ℕ) → k ≡ length (collect no_more (bare took)) → k + length (no_more x.1) ≡ length (collect no_more (bare (took ++ x ∷ [])))
more_ends took x k e = (let g : length (collect no_more (bare (took ++ x ∷ []))) ≡ length (collect no_more (bare took)) + length (no_more x.1) = ap length (more_of no_more took x) ∙ length_append (collect no_more (bare took)) (no_more x.1) in omega arith)

same_ends : (took : Mail) (x : ActorId × Message) (k : ℕ) → no_more x.1 ≡ [] → k ≡ length (collect no_more (bare took)) → k ≡ length (collect no_more (bare (took ++ x ∷ [])))
same_ends took x k none e = e ∙ ap length (sym (more_of no_more took x ∙ ap (λ zs. collect no_more (bare took) ++ zs) none ∙ append-nil (collect no_more (bare took))))

took_counts : (t : Terms) (took pushed : Mail) (starved : Bool) (from : ActorId) (m : Message) (r : Reactor) → Counts t took pushed r → Counts t (took ++ (from, m) ∷ []) pushed (settled_msg t starved m r)
took_counts t took pushed starved from (FreshMsg ip s) r c = record { ends = same_ends took (from, FreshMsg ip s) r.ends refl c.ends; gave = c.gave; tight = λ e. absurd (some_not r.next (fresh starved ip s) e) }
took_counts t took pushed starved from (SendMsg s b) r c = record { ends = same_ends took (from, SendMsg s b) r.ends refl c.ends; gave = c.gave; tight = each_tight (takes t starved (SendMsg s b)) r c.tight }
took_counts t took pushed starved from (CloseMsg s) r c = record { ends = same_ends took (from, CloseMsg s) r.ends refl c.ends; gave = c.gave; tight = each_tight (takes t starved (CloseMsg s)) r c.tight }
took_counts t took pushed starved from (ResetMsg s) r c = record { ends = same_ends took (from, ResetMsg s) r.ends refl c.ends; gave = c.gave; tight = each_tight (takes t starved (ResetMsg s)) r c.tight }
took_counts t took pushed starved from (Bye s) r c = record { ends = same_ends took (from, Bye s) r.ends refl c.ends; gave = c.gave; tight = each_tight (takes t starved (Bye s)) r c.tight }
took_counts t took pushed starved from (EventMsg e) r c = record { ends = same_ends took (from, EventMsg e) r.ends refl c.ends; gave = c.gave; tight = c.tight }
took_counts t took pushed starved from (OverMsg id) r c = record { ends = same_ends took (from, OverMsg id) r.ends refl c.ends; gave = c.gave; tight = c.tight }
took_counts t took pushed starved from NoMore r c = record { ends = more_ends took (from, NoMore) r.ends c.ends; gave = c.gave; tight = c.tight }

gave_more : (pushed : Mail) (j w : ℕ) (m : Message) → length (collect no_more (of (Worker j) (pushed ++ (Worker w, m) ∷ []))) ≡ length (collect no_more (of (Worker j) pushed)) + length (collect no_more (when (w == j) m))
gave_more pushed j w m =
    ap (λ (ms : List Message). length (collect no_more ms)) (collect-append (with (Worker j)) pushed ((Worker w, m) ∷ []) ∙ ap (λ (ms : List Message). of (Worker j) pushed ++ ms) (append-nil (when (w == j) m)))
    ∙ ap length (collect-append no_more (of (Worker j) pushed) (when (w == j) m))
    ∙ length_append (collect no_more (of (Worker j) pushed)) (collect no_more (when (w == j) m))

gave_none : (pushed : Mail) (j w : ℕ) (m : Message) → no_more m ≡ [] → length (collect no_more (of (Worker j) (pushed ++ (Worker w, m) ∷ []))) ≡ length (collect no_more (of (Worker j) pushed))
gave_none pushed j w m none = (let g : length (collect no_more (of (Worker j) (pushed ++ (Worker w, m) ∷ []))) ≡ length (collect no_more (of (Worker j) pushed)) + length (collect no_more (when (w == j) m)) = gave_more pushed j w m in let z : length (collect no_more (when (w == j) m)) ≡ 0 = pick (w == j) in omega arith)
  where
    pick : (b : Bool) → length (collect no_more (when b m)) ≡ 0
    pick true = ap length (append-nil (no_more m) ∙ none)
    pick false = refl

gave_one : (pushed : Mail) (j w k : ℕ) → length (collect no_more (of (Worker j) pushed)) ≡ (if nat_lt j k then 1 else 0) → w ≡ k → length (collect no_more (of (Worker j) (pushed ++ (Worker w, NoMore) ∷ []))) ≡ (if nat_lt j (k + 1) then 1 else 0)
gave_one pushed j w k h q =
    gave_more pushed j w NoMore ∙ ap (λ (n : ℕ). n + length (collect no_more (when (w == j) NoMore))) h ∙ pick (nat_lt j k) refl (w == j) refl (nat_lt j (k + 1)) refl
  where
    pick : (x : Bool) → nat_lt j k ≡ x → (y : Bool) → (w == j) ≡ y → (z : Bool) → nat_lt j (k + 1) ≡ z → (if x then 1 else 0) + length (collect no_more (when y NoMore)) ≡ (if z then 1 else 0)
    pick true e true f true g = absurd (let a : j < k = lt_is j k e in let b : w ≡ j = eq_is w j f in omega arith)
    pick true e true f false g = absurd (let a : j < k = lt_is j k e in let b : w ≡ j = eq_is w j f in omega arith)
    pick true e false f true g = refl
    pick true e false f false g = absurd (let a : j < k = lt_is j k e in let b : k + 1 ≤ j = lt_not j (k + 1) g in omega arith)
    pick false e true f true g = refl
    pick false e true f false g = absurd (let a : k + 1 ≤ j = lt_not j (k + 1) g in let b : w ≡ j = eq_is w j f in omega arith)
    pick false e false f true g = absurd (let a : k ≤ j = lt_not j k e in let b : j < k + 1 = lt_is j (k + 1) g in let d : ¬ (w ≡ j) = (λ p. let u : true ≡ false = sym (eq_same w j p) ∙ f in cc) in d (omega arith))
    pick false e false f false g = refl

pushed_counts : (t : Terms) (took pushed : Mail) (w : ℕ) (m : Message) (r : Reactor) → IsGivingMsg r.given w m → Counts t took pushed r → Counts t took (pushed ++ (Worker w, m) ∷ []) (settled_push t m r)
pushed_counts t took pushed w (FreshMsg ip s) r g c = record { ends = c.ends; gave = λ j. gave_none pushed j w (FreshMsg ip s) refl ∙ c.gave j; tight = c.tight }
pushed_counts t took pushed w (SendMsg s b) r g c = record { ends = c.ends; gave = λ j. gave_none pushed j w (SendMsg s b) refl ∙ c.gave j; tight = c.tight }
pushed_counts t took pushed w (CloseMsg s) r g c = record { ends = c.ends; gave = λ j. gave_none pushed j w (CloseMsg s) refl ∙ c.gave j; tight = c.tight }
pushed_counts t took pushed w (ResetMsg s) r g c = record { ends = c.ends; gave = λ j. gave_none pushed j w (ResetMsg s) refl ∙ c.gave j; tight = c.tight }
pushed_counts t took pushed w (Bye s) r g c = record { ends = c.ends; gave = λ j. gave_none pushed j w (Bye s) refl ∙ c.gave j; tight = c.tight }
pushed_counts t took pushed w (EventMsg e) r g c = record { ends = c.ends; gave = λ j. gave_none pushed j w (EventMsg e) refl ∙ c.gave j; tight = each_tight (at_event (noted t e) e) r c.tight }
pushed_counts t took pushed w (OverMsg id) r g c = record { ends = c.ends; gave = λ j. gave_none pushed j w (OverMsg id) refl ∙ c.gave j; tight = c.tight }
pushed_counts t took pushed w NoMore r g c = record { ends = c.ends; gave = λ j. gave_one pushed j w r.given (c.gave j) g; tight = c.tight }

full_counts : (t : Terms) (took pushed : Mail) (w : ℕ) (m : Message) (r : Reactor) → Counts t took pushed r → Counts t took pushed (settled_full w m r)
full_counts t took pushed w (FreshMsg ip s) r c = c
full_counts t took pushed w (SendMsg s b) r c = c
full_counts t took pushed w (CloseMsg s) r c = c
full_counts t took pushed w (ResetMsg s) r c = c
full_counts t took pushed w (Bye s) r c = c
full_counts t took pushed w (EventMsg e) r c = record { ends = c.ends; gave = c.gave; tight = each_tight (at_event (holds w e) e) r c.tight }
full_counts t took pushed w (OverMsg id) r c = c
full_counts t took pushed w NoMore r c = c

-- behind some turns
pub record CountsAfter (t : Terms) (took pushed : Mail) (r : Reactor) : Type 0 where
  pub counts : Counts t took pushed r
  pub giving : IsGiving r.given r.last
  pub done : r.last ≡ Finished → IsDone t r

pub call_counts : (t : Terms) (r : Reactor) (took pushed later more : Mail) (got : Got Message) → Called r took pushed later more got → CountsAfter t took pushed r → (starved : Bool) → Counts t later more (settled t starved got r)
call_counts t r took pushed _ _ _ (TookOne e from m) c starved = took_counts t took pushed starved from m (record r { empty = false }) (record { ends = c.counts.ends; gave = c.counts.gave; tight = c.counts.tight })
call_counts t r took pushed _ _ _ (FoundNone e) c starved = record { ends = c.counts.ends; gave = c.counts.gave; tight = c.counts.tight }
call_counts t r took pushed _ _ _ (PushedOne w m e) c starved = subst (λ (k : Ask). Counts t took (pushed ++ (Worker w, m) ∷ []) (pushed_by t k r)) (sym e) (pushed_counts t took pushed w m r (subst (IsGiving r.given) e c.giving) c.counts)
call_counts t r took pushed _ _ _ (CameBack w m e) c starved = subst (λ (k : Ask). Counts t took pushed (full_by k m r)) (sym e) (full_counts t took pushed w m r c.counts)
call_counts t r took pushed _ _ _ (NoCall e) c starved = c.counts

turn_counts : (t : Terms) (starved : Bool) (a : Answers) (got : Got Message) (took pushed : Mail) (r : Reactor) → Counts t took pushed (settled t starved got r) → CountsAfter t took pushed (turn t starved a got r)
turn_counts t starved a got took pushed r c =
    let d : Chose t (settled t starved got r) (turn t starved a got r) = chosen_chose t a (settled t starved got r) c.tight r.last in
    record {
      counts = record { ends = d.ends ∙ c.ends; gave = λ j. c.gave j ∙ ap (λ (k : ℕ). if nat_lt j k then 1 else 0) (sym d.given); tight = d.tight };
      giving = d.giving;
      done = d.done;
    }

pub runs_counts : (t : Terms) (word : ℕ → ℕ) (took pushed : Mail) (r : Reactor) → Runs t word took pushed r → CountsAfter t took pushed r
runs_counts t word _ _ _ (First starved a honest) = turn_counts t starved a Start [] [] started (record { ends = refl; gave = λ j. none j; tight = λ e. refl })
  where
    low : (k : ℕ) → nat_lt k 0 ≡ false
    low k = grind (arith, nat_tests)

    none : (j : ℕ) → ◌≡◌ {A = ℕ} 0 (if nat_lt j 0 then 1 else 0)
    none j = rw (low j) refl
runs_counts t word _ _ _ (Then {took = took} {pushed = pushed} {r = r} before later more got call starved a honest) =
    turn_counts t starved a got later more r (call_counts t r took pushed later more got call (runs_counts t word took pushed r before) starved)

-- at most one NoMore to each worker, at every moment
pub once_now : (t : Terms) (took pushed : Mail) (r : Reactor) → Counts t took pushed r → (j : ℕ) → length (collect no_more (of (Worker j) pushed)) ≤ 1
once_now t took pushed r c j = subst (λ (n : ℕ). n ≤ 1) (sym (c.gave j)) (most (nat_lt j r.given))
  where
    most : (b : Bool) → (if b then 1 else 0) ≤ 1
    most true = omega arith
    most false = omega arith

-- a finished reactor took NoMore of all, and every link that it took has its end
pub finished_ends : (t : Terms) (word : ℕ → ℕ) (took pushed : Mail) (r : Reactor) → Runs t word took pushed r → r.last ≡ Finished → 1 + (t.worker_num + t.tasker_num) ≤ length (collect no_more (bare took))
finished_ends t word took pushed r runs e =
    (let c = runs_counts t word took pushed r runs in let d = c.done e in let k : r.ends ≡ 1 + t.worker_num + t.tasker_num = d.all_ended in let g : r.ends ≡ length (collect no_more (bare took)) = c.counts.ends in omega arith)

over_ended : (t : Terms) (a : ℕ → LinkRecord → Mail → Type 0) (w : ℕ → LinkRecord → Ended → Mail → Type 0) (took pushed : Mail) (ls : List LinkRecord) → Each (QuietOver t a w took pushed) ls → (l : LinkRecord) → Has l ls → (e : Ended) × (l.state ≡ Over e)
over_ended t a w took pushed [] q l (zero, e) = absurd (cc)
over_ended t a w took pushed [] q l (suc k, e) = absurd (cc)
over_ended t a w took pushed (x ∷ ls) q l (zero, e) = subst (λ (y : LinkRecord). (d : Ended) × (y.state ≡ Over d)) (let g : Some x ≡ Some l = e in let h : x ≡ l = cc in h) q.0.ended
over_ended t a w took pushed (x ∷ ls) q l (suc k, e) = over_ended t a w took pushed ls q.1 l (k, e)

pub finished_over : (t : Terms) (a : ℕ → LinkRecord → Mail → Type 0) (w : ℕ → LinkRecord → Ended → Mail → Type 0) (n : ℕ) (took pushed : Mail) (r : Reactor) → Quiet t a w n took pushed r → all r ≡ [] → (l : LinkRecord) → Has l (kept t r) → (e : Ended) × (l.state ≡ Over e)
finished_over t a w n took pushed r q none l has = over_ended t a w took pushed r.over q.over l (subst (λ (cs : List Conn). Has l (live_links t cs ++ r.over)) none has)

-- a kept link of a session, or none
some_link : (s : ℕ) (o : Option ℕ) → (o ≡ Some s) ⊎ Each (λ u. ¬ (u ≡ s)) (some_list o)
some_link s None = inr tt
some_link s (Some u) = elim (equal_or_not u s) [ inl e ↦ inl (ap Some e) | inr n ↦ inr (n, tt) ]

find_over : (s : ℕ) (ls : List LinkRecord) → ((l : LinkRecord) × (Has l ls × (session_of l.state ≡ Some s))) ⊎ Each (λ u. ¬ (u ≡ s)) (collect session_over ls)
find_over s [] = inr tt
find_over s (l ∷ ls) =
    elim (some_link s (session_of l.state)) [
      | inl e ↦ inl (l, ((0, refl), e))
      | inr n ↦ elim (find_over s ls) [ inl f ↦ inl (f.0, ((suc f.1.0.0, f.1.0.1), f.1.1)) | inr m ↦ inr (each_append (λ u. ¬ (u ≡ s)) (session_over l) (collect session_over ls) n m) ]
    ]

find_link : (t : Terms) (s : ℕ) (cs : List Conn) (ls : List LinkRecord) → ((l : LinkRecord) × (Has l (live_links t cs ++ ls) × (session_of l.state ≡ Some s))) ⊎ Each (λ u. ¬ (u ≡ s)) (sessions cs ls)
find_link t s [] ls = find_over s ls
find_link t s (c ∷ cs) ls =
    elim (equal_or_not c.session s) [
      | inl e ↦ inl (live_link t c, ((0, refl), ap Some e))
      | inr n ↦ elim (find_link t s cs ls) [ inl f ↦ inl (f.0, ((suc f.1.0.0, f.1.0.1), f.1.1)) | inr m ↦ inr (n, m) ]
    ]

none_fresh : (s : ℕ) (ms : List Message) → Each (λ u. ¬ (u ≡ s)) (collect fresh_in ms) → collect (fresh_of s) ms ≡ []
none_fresh s [] g = refl
none_fresh s (m ∷ ms) g = ap (λ (zs : List ℕ). zs ++ collect (fresh_of s) ms) (one m (each_left (λ u. ¬ (u ≡ s)) (fresh_in m) (collect fresh_in ms) g)) ∙ none_fresh s ms (each_right (λ u. ¬ (u ≡ s)) (fresh_in m) (collect fresh_in ms) g)
  where
    one : (x : Message) → Each (λ u. ¬ (u ≡ s)) (fresh_in x) → fresh_of s x ≡ []
    one (FreshMsg ip u) k = ap (λ (b : Bool). when b u) (eq_other u s k.0)
    one (SendMsg u b) k = refl
    one (CloseMsg u) k = refl
    one (ResetMsg u) k = refl
    one (Bye u) k = refl
    one (EventMsg e) k = refl
    one (OverMsg id) k = refl
    one NoMore k = refl

-- each link that was taken and settled is kept
pub settled_kept : (t : Terms) (a : ℕ → LinkRecord → Mail → Type 0) (w : ℕ → LinkRecord → Ended → Mail → Type 0) (n : ℕ) (took pushed : Mail) (r : Reactor) → Quiet t a w n took pushed r → (s : ℕ) → ¬ (collect (fresh_of s) (bare took) ≡ []) → (l : LinkRecord) × (Has l (kept t r) × (session_of l.state ≡ Some s))
settled_kept t a w n took pushed r q s some = elim (find_link t s (all r) r.over) [ inl f ↦ f | inr m ↦ absurd (some (none_fresh s (bare took) (perm_each (λ u. ¬ (u ≡ s)) q.came m))) ]
