-- Mode 1: where all actors are finished, packets went round the workers.
use Rattle.std.proofs.Common.{◌≡◌, ℕ, ◌≤◌, ◌==◌, Bool, true, false, List, [], ◌∷◌, ◌++◌, refl, subst, append-nil}
use Rattle.sw_lists.specs.Lists.{collect, when, Each, Has}
use Rattle.sw_lists.specs.Perm.{Perm}
use Rattle.sw_lists.proofs.Lists.{perm_has}
use Rattle.sw_step.specs.declared.actor.ActorId.TheVariants.{Reactor, Worker}
use Rattle.sw_record.specs.declared.record.LinkState.TheVariants.{Over}
use Rattle.sw_record.specs.Words.{Ended}
use Rattle.sw_record.specs.declared.record.LinkRecord.{LinkRecord}
use Rattle.sw_record.specs.Terms.{Terms, reactor_of, HasLink, session_of}
use Rattle.sw_record.specs.Whole.{IsOwnEnd}
use Rattle.sw_record.specs.Sessions.{some_of}
use Rattle.sw_record.specs.Rounds.{at_reactor, link_of}
use Rattle.sw_record.specs.Places.{Ran}
use Rattle.sw_record.specs.Drained.{AllSettled}
use Rattle.sw_join.specs.Rounds.{RoundLaws}
use Rattle.sw_world_ports.proofs.Haves.{has_right, has_one}
use Rattle.sw_world_laws.specs.Actors.{Actors}
use Rattle.sw_world_laws.specs.World.{Core}
use Rattle.sw_world_laws.specs.History.{past_of, History}
use Rattle.sw_world_laws.specs.Runs.{AllDone}
use Rattle.sw_world_laws.specs.Law.{Holds}
use Rattle.sw_world_laws.proofs.Locals.{lt_test, words_found}
use Rattle.sw_world_laws.proofs.Turns.{fair_took}
use Rattle.sw_world_laws.proofs.Account.{has_collect, account_by}
use Rattle.sw_world_laws.proofs.Shares.{IsNew, shares_of}
use Rattle.sw_world_laws.proofs.Joined.{done_of}

when_has : (b : Bool) (l k : LinkRecord) → Has k (when b l) → l ≡ k
when_has true l k h = has_one k l h
when_has false l k h = absurd (let q = h.1 in cc)

link_has : (t : Terms) (n : ℕ) (ls : List LinkRecord) (k : LinkRecord) → Has k (collect (link_of t n) ls) → Has k ls
link_has t n ls k h =
    let r = has_collect (link_of t n) ls k h in
    let q = has_collect (at_reactor t n r.0) (some_of (session_of r.0.state)) k r.1.1 in
    subst (λ (x : LinkRecord). Has x ls) (when_has (reactor_of t q.0 == n) r.0 k q.1.1) r.1.0

-- nothing is on its way
none_new : (t : Terms) (n : ℕ) (ls kept new : List LinkRecord) → ((s : ℕ) (l : LinkRecord) → HasLink ls s l → (e : Ended) × ((l.state ≡ Over e) × IsOwnEnd t e)) → Each IsNew new → Perm LinkRecord (kept ++ new) (collect (link_of t n) ls) → Perm LinkRecord kept (collect (link_of t n) ls)
none_new t n ls kept [] over are q = subst (λ (xs : List LinkRecord). Perm LinkRecord xs (collect (link_of t n) ls)) (append-nil kept) q
none_new t n ls kept (k ∷ new) over are q =
    let has : Has k ls = link_has t n ls k (perm_has k q (has_right k kept (k ∷ new) (0, refl))) in
    let e = over are.0.0 k (record { at = has.0; there = has.1; session = are.0.1.0 }) in
    absurd (are.0.1.1 e.0 e.1.0)

pub round_laws : (t : Terms) (legal : List Ran → Type 0) (p : Actors t) (c : Core p.State) (h : History) (some : 1 ≤ t.reactor_num) (busy : 1 ≤ t.worker_num) (l : Holds t legal p c h) → AllSettled t (account_by t p c h) → AllDone t p c → t.mode ≡ 1 → RoundLaws t (past_of t p c h) (account_by t p c h)
round_laws t legal p c h some busy l settled d m =
    record {
      shares = λ n lt. (let q = shares_of t legal p c h some l n lt in none_new t n (account_by t p c h).links (p.kept (c.states (Reactor n))) q.0 settled.over q.1.0 q.1.1);
      round = λ n lt. ((done_of t legal p c h l d (Reactor n) (lt_test n t.reactor_num lt)).round m).round n lt refl (words_found t legal p c h l n lt) (fair_took t legal p c h l n);
      reactor_last = λ n j lt. ((done_of t legal p c h l d (Reactor n) (lt_test n t.reactor_num lt)).round m).last n j lt refl (words_found t legal p c h l n lt) (l.links_first busy n lt);
      worker_all = λ j lt. ((done_of t legal p c h l d (Worker j) (lt_test j t.worker_num lt)).round m).all j lt refl;
    }
