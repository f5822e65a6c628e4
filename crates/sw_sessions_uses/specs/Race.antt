-- What may come of two threads that bind one session, one to 7 and one to 9.
use Rattle.std.specs.Prelude.{◌≡◌, ◌≢◌, Ok}
use Rattle.sw_sessions_uses.specs.declared.two_threads.Outcome.{Outcome}

-- at most one of them was Ok, and the release found its uid
pub record BoundByOne (outcome : Outcome) : Type 0 where
  pub once : outcome.seven ≡ Ok tt → outcome.nine ≢ Ok tt
  pub seven : outcome.seven ≡ Ok tt → outcome.uid ≡ 7
  pub nine : outcome.nine ≡ Ok tt → outcome.uid ≡ 9
