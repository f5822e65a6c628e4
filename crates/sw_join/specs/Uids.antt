-- What the session words keep of binds, and how logs and links show them.
use Rattle.std.specs.Prelude.{◌≡◌, ◌⊎◌, ℕ, ◌<◌, ◌≤◌, ◌%◌, List, length, Some}
use Rattle.sw_lists.specs.Lists.{collect, Each, Has}
use Rattle.sw_step.specs.declared.actor.ActorId.{ActorId}
use Rattle.sw_record.specs.Answers.{answers_of}
use Rattle.sw_record.specs.Terms.{Terms, session_of}
use Rattle.sw_record.specs.Uids.{bound_in, info_in, binds, for_session, the_uid}
use Rattle.sw_record.specs.Whole.{IsOwnEnd}
use Rattle.sw_record.specs.Words.{Ended}
use Rattle.sw_record.specs.declared.record.LinkRecord.{LinkRecord}
use Rattle.sw_record.specs.declared.record.LinkState.TheVariants.{Live, Over}
use Rattle.sw_past.specs.Past.{Past}
use Rattle.sw_past.specs.Routes.{IsHand, hands}

-- what the passes of the session words show together, and how each log and each link shows its pass
pub record UidLaws (t : Terms) (h : Past) : Type 0 where
  -- the uid that a session was bound to, or 0
  pub uid : ℕ → ℕ
  -- joint: of all passes one bind of s was granted at most, and it gave this uid
  pub passes : ActorId → List (ℕ × ℕ)
  pub once : (s : ℕ) → length (collect (λ y. collect (for_session s) (passes y)) (hands t)) ≤ 1
  pub gave : (s : ℕ) → uid s ≡ the_uid (collect (λ y. collect (for_session s) (passes y)) (hands t))
  -- local: a hand's granted binds are its pass's, and what its binds and looks found
  pub binds_are : (y : ActorId) → IsHand t y → binds (h.log y) ≡ passes y
  pub bound : (y : ActorId) → IsHand t y → Each (λ (p : ℕ × ℕ). p.1 ≡ uid p.0) (collect bound_in (answers_of (h.log y)))
  pub info : (y : ActorId) → IsHand t y → Each (λ (p : ℕ × (ℕ × ℕ)). (p.1.0 ≡ p.0 % t.max_conn) × ((p.1.1 ≡ 0) ⊎ (p.1.1 ≡ uid p.0))) (collect info_in (answers_of (h.log y)))
  -- local: what a release answered, and what a look of the reactor showed
  pub over : (n : ℕ) → n < t.reactor_num → (s : ℕ) (l : LinkRecord) (e : Ended) → Has l (h.kept n) → session_of l.state ≡ Some s → l.state ≡ Over e → IsOwnEnd t e → e.uid ≡ uid s
  pub live : (n : ℕ) → n < t.reactor_num → (s : ℕ) (l : LinkRecord) (e : Ended) → Has l (h.kept n) → session_of l.state ≡ Some s → l.state ≡ Live e → (e.uid ≡ 0) ⊎ (e.uid ≡ uid s)
