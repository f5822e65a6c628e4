-- A reactor pushes one NoMore to each worker at most, and none before one came.
use Rattle.std.proofs.Common.{◌≡◌, ℕ, ◌<◌, ◌≤◌, Bool, true, false, nat_lt, if◌then◌else◌, ◌==◌, ◌+◌, List, [], ◌∷◌, ◌++◌, length, refl, ap, ◌∙◌, sym, subst, append-nil, arith}
use Rattle.sw_lists.specs.Lists.{collect, when, Each}
use Rattle.sw_lists.proofs.Lists.{append_none, collect-append, each_append}
use Rattle.sw_data.specs.declared.messages.Got.{Got as TableGot}
use Rattle.sw_step.specs.declared.actor.ActorId.{ActorId}
use Rattle.sw_step.specs.declared.actor.ActorId.TheVariants.{Door, Reactor, Worker, Tasker}
use Rattle.sw_step.specs.Actors.{is}
use Rattle.sw_record.specs.Terms.{Terms}
use Rattle.sw_past.specs.Messages.{Message, FreshMsg, SendMsg, CloseMsg, ResetMsg, Bye, EventMsg, OverMsg, NoMore}
use Rattle.sw_past.specs.Past.{Mail, bare, msg_of, of}
use Rattle.sw_past.specs.Views.{no_more}
use Rattle.sw_world_laws.specs.Shows.{ComeFirst}
use Rattle.sw_reactor_table.specs.Conn.{Conn, Answers, Does, Pushes, Moves, Stays, Leaves, writes, serve}
use Rattle.sw_reactor_table.specs.Reactor.{Reactor as Table, Ask as TableAsk, Take, Push, Nothing, Rest, Finished, turned, rest_by, stayed, served_by, counted, ends_by, serves, chosen}
use Rattle.sw_reactor_table.specs.Runs.{Called, TookOne, FoundNone, PushedOne, CameBack, NoCall}
use Rattle.sw_reactor_table.proofs.Settle.{lt_is}
use Rattle.sw_reactor_laws.specs.Ending.{Counts, LinksFirst}
use Rattle.sw_reactor_laws.proofs.Ending.{once_now}
use Rattle.sw_world_reactor.specs.Reactors.{IsBegun, IsBegunMsg, GoesToWorker}

-- it pushes to workers alone
none_to : (x : ActorId) → ((w : ℕ) → is (Worker w) x ≡ false) → (ms : Mail) → Each GoesToWorker ms → of x ms ≡ []
none_to x f [] h = refl
none_to x f (e ∷ ms) h =
    ap (λ (a : ActorId). when (is a x) e.1 ++ of x ms) h.0.1
    ∙ ap (λ (b : Bool). when b e.1 ++ of x ms) (f h.0.0)
    ∙ none_to x f ms h.1

none_once : (x : ActorId) → ((w : ℕ) → is (Worker w) x ≡ false) → (ms : Mail) → Each GoesToWorker ms → length (collect no_more (of x ms)) ≤ 1
none_once x f ms h = subst (λ (zs : List Message). length (collect no_more zs) ≤ 1) (sym (none_to x f ms h)) (omega arith)

pub once_to : (t : Terms) (s : Table) (took pushed : Mail) → Counts t took pushed s → Each GoesToWorker pushed → (x : ActorId) → length (collect no_more (of x pushed)) ≤ 1
once_to t s took pushed c only Door = none_once Door (λ w. refl) pushed only
once_to t s took pushed c only (Reactor n) = none_once (Reactor n) (λ w. refl) pushed only
once_to t s took pushed c only (Worker j) = once_now t took pushed s c j
once_to t s took pushed c only (Tasker k) = none_once (Tasker k) (λ w. refl) pushed only

pub only_call : (s : Table) (took pushed later more : Mail) (g : TableGot Message) → Called s took pushed later more g → Each GoesToWorker pushed → Each GoesToWorker more
only_call s took pushed _ _ _ (TookOne e from m) k = k
only_call s took pushed _ _ _ (FoundNone e) k = k
only_call s took pushed _ _ _ (PushedOne w m e) k = each_append GoesToWorker pushed ((Worker w, m) ∷ []) k ((w, refl), tt)
only_call s took pushed _ _ _ (CameBack w m e) k = k
only_call s took pushed _ _ _ (NoCall e) k = k

-- one came before one is asked to be pushed
pub some_came : (n : ℕ) (xs : List ℕ) → n ≡ length xs → 0 < n → ¬ (xs ≡ [])
some_came n xs e lt z = absurd (let q : length xs ≡ 0 = ap length z in omega (arith, e, lt, q))

rests_begun : (took : Mail) (b : Bool) → IsBegun took (rest_by b)
rests_begun took true = tt
rests_begun took false = tt

served_begun : (t : Terms) (a : Answers) (took : Mail) (moved : Bool) (cs : List Conn) (d : Conn) (o : Does) (r : Table) → IsBegun took (served_by t a moved cs d o r).last
served_begun t a took moved cs d (Pushes w e) r = tt
served_begun t a took moved cs d Moves r = tt
served_begun t a took moved cs d (Leaves e) r = tt
served_begun t a took moved cs d Stays r = pick moved
  where
    pick : (b : Bool) → IsBegun took (if b then record (turned (r.done ++ d ∷ []) cs r) { last = Nothing; still = 0 } else stayed (length (r.done ++ d ∷ cs)) (turned (r.done ++ d ∷ []) cs r)).last
    pick true = tt
    pick false = rests_begun took _

ends_begun : (t : Terms) (r : Table) (took : Mail) → (0 < r.ends → ¬ (collect no_more (bare took) ≡ [])) → IsBegun took (ends_by t r).last
ends_begun t r took f = pick (nat_lt 0 r.ends) refl (nat_lt r.given t.worker_num) (r.ends == 1 + t.worker_num + t.tasker_num)
  where
    pick : (x : Bool) → nat_lt 0 r.ends ≡ x → (y z : Bool) → IsBegun took (if x then (if y then record r { last = Push r.given NoMore } else (if z then record r { last = Finished } else record r { last = Rest })) else record r { last = Rest }).last
    pick true e true z = f (lt_is 0 r.ends e)
    pick true e false true = tt
    pick true e false false = tt
    pick false e y z = tt

serves_begun : (t : Terms) (a : Answers) (r : Table) (took : Mail) → (0 < r.ends → ¬ (collect no_more (bare took) ≡ [])) → (next : List Conn) → IsBegun took (serves t a next r).last
serves_begun t a r took f [] = ends_begun t r took f
serves_begun t a r took f (c ∷ cs) = served_begun t a took (writes a.write c) cs (serve t a r.round c).conn (serve t a r.round c).does (record r { round = counted (serve t a r.round c).cuts r.round })

pub chosen_begun : (t : Terms) (a : Answers) (r : Table) (took : Mail) → (0 < r.ends → ¬ (collect no_more (bare took) ≡ [])) → (ask : TableAsk) → IsBegun took (chosen t a ask r).last
chosen_begun t a r took f Take = serves_begun t a r took f r.next
chosen_begun t a r took f (Push w m) = tt
chosen_begun t a r took f Nothing = tt
chosen_begun t a r took f Rest = tt
chosen_begun t a r took f Finished = tt

-- so one came before one was pushed
list_cases : (xs : List ℕ) → (P : Type 0) → (xs ≡ [] → P) → (¬ (xs ≡ []) → P) → P
list_cases [] P f g = f refl
list_cases (x ∷ xs) P f g = g (λ e. absurd (cc))

more_came : (took : Mail) (e : ActorId × Message) → ¬ (collect no_more (bare took) ≡ []) → ¬ (collect no_more (bare (took ++ e ∷ [])) ≡ [])
more_came took e h z = h (append_none (collect no_more (bare took)) (no_more e.1 ++ []) (sym (ap (collect no_more) (collect-append msg_of took (e ∷ [])) ∙ collect-append no_more (bare took) (e.1 ∷ [])) ∙ z)).0

begun_push : (took pushed : Mail) (w : ℕ) (m : Message) → IsBegunMsg took m → (¬ (collect no_more (bare pushed) ≡ []) → ¬ (collect no_more (bare took) ≡ [])) → ¬ (collect no_more (bare (pushed ++ (Worker w, m) ∷ [])) ≡ []) → ¬ (collect no_more (bare took) ≡ [])
begun_push took pushed w m b h some = by m b some
  where
    older : (m : Message) → no_more m ≡ [] → ¬ (collect no_more (bare (pushed ++ (Worker w, m) ∷ [])) ≡ []) → ¬ (collect no_more (bare took) ≡ [])
    older m none some = list_cases (collect no_more (bare pushed)) (¬ (collect no_more (bare took) ≡ [])) (λ e. absurd (some (ap (collect no_more) (collect-append msg_of pushed ((Worker w, m) ∷ [])) ∙ collect-append no_more (bare pushed) (m ∷ []) ∙ ap (λ (ns : List ℕ). ns ++ (no_more m ++ [])) e ∙ append-nil (no_more m) ∙ none))) h

    by : (m : Message) → IsBegunMsg took m → ¬ (collect no_more (bare (pushed ++ (Worker w, m) ∷ [])) ≡ []) → ¬ (collect no_more (bare took) ≡ [])
    by NoMore b some = b
    by (FreshMsg ip s) b some = older (FreshMsg ip s) refl some
    by (SendMsg s c) b some = older (SendMsg s c) refl some
    by (CloseMsg s) b some = older (CloseMsg s) refl some
    by (ResetMsg s) b some = older (ResetMsg s) refl some
    by (Bye s) b some = older (Bye s) refl some
    by (EventMsg e) b some = older (EventMsg e) refl some
    by (OverMsg id) b some = older (OverMsg id) refl some

pub behind_call : (s : Table) (took pushed later more : Mail) (g : TableGot Message) → Called s took pushed later more g → IsBegun took s.last → (¬ (collect no_more (bare pushed) ≡ []) → ¬ (collect no_more (bare took) ≡ [])) → ¬ (collect no_more (bare more) ≡ []) → ¬ (collect no_more (bare later) ≡ [])
behind_call s took pushed _ _ _ (TookOne e from m) b h some = more_came took (from, m) (h some)
behind_call s took pushed _ _ _ (FoundNone e) b h some = h some
behind_call s took pushed _ _ _ (PushedOne w m e) b h some = begun_push took pushed w m (subst (IsBegun took) e b) h some
behind_call s took pushed _ _ _ (CameBack w m e) b h some = h some
behind_call s took pushed _ _ _ (NoCall e) b h some = h some

-- the same of mail with its senders
pub links_first : (ms : Mail) → ComeFirst (bare ms) → LinksFirst ms
links_first [] h = tt
links_first (e ∷ ms) h = (h.0, links_first ms h.1)
