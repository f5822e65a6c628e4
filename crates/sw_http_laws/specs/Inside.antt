-- A handler round a handler, and what the one inside was given.
use Rattle.std.specs.Prelude.{◌≡◌, ℕ, ◌<◌, List, [], ◌∷◌, ◌++◌}
use Rattle.std.specs.List.{concat}
use Rattle.sw_record.specs.Logs.{Handled}
use Rattle.sw_record.specs.Words.{Given, Act, Log}
use Rattle.sw_http_worker.specs.declared.worker.HttpWorker.{HttpWorker}
use Rattle.sw_http_worker.specs.Serving.{Acts}
use Rattle.sw_http_worker.specs.Worker.{inner_of, IsNew, Works}

-- a handler did what stands in the log, from this state to that
abbrev pub Follows : {H : Type 0} → Acts H → H → Log → H → Type 0
Follows acts old [] new = old ≡ new
Follows {H} acts old (x ∷ log) new = (m : H) × acts old x.0 x.1 m × Follows acts m log new

-- a handler tells what it was given and did, in order
abbrev pub Tells : {H : Type 0} → Acts H → (H → Log) → Type 0
Tells {H} acts tell = (old : H) (given : Given) (act : Act) (new : H) → acts old given act new → tell new ≡ tell old ++ (given, act) ∷ []

-- a handler round one that was given nothing yet did what stands in the log, and came to this
pub record Ran {H : Type 0} (acts : Acts H) (tell : H → Log) (max : ℕ) (log : Log) (w : HttpWorker H) : Type 0 where
  pub first : HttpWorker H
  pub fit : 0 < max
  pub made : IsNew (inner_of first) max first
  pub empty : tell (inner_of first) ≡ []
  pub follows : Follows (Works acts) first log w

-- the bytes of packets, joined
abbrev pub contents : List (ℕ × List ℕ) → List (List ℕ)
contents [] = []
contents (p ∷ ps) = p.1 ∷ contents ps

-- the bytes of a session that stand in a log
abbrev pub bytes_on : ℕ → Log → List ℕ
bytes_on s log = concat (contents (Handled log s))
