-- Handlers of a script inside handlers of whole HTTP requests.
use Rattle.std.specs.Prelude.{ℕ, List}
use Rattle.sw_http_worker.specs.declared.worker.HttpWorker.{HttpWorker}
use Rattle.sw_http_worker.specs.Worker.{inner_of, IsNew}
use Rattle.sw_script.specs.declared.script.Script.{Script}
use Rattle.sw_following.specs.declared.following.Following.{Following}
use Rattle.sw_following.specs.Following.{IsFresh, Many}

-- a handler of a script inside one of requests of at most so many bytes, each before it is given anything
abbrev pub IsFreshAsked : Script → ℕ → HttpWorker Following → Type 0
IsFreshAsked s max w = IsFresh s (inner_of w) × IsNew (inner_of w) max w

-- so many of them
abbrev pub AreFreshAsked : Script → ℕ → ℕ → List (HttpWorker Following) → Type 0
AreFreshAsked s max n hs = Many (IsFreshAsked s max) n hs

-- those of so many workers, for each so many
abbrev pub AreFreshAskedWorkers : Script → ℕ → ℕ → ℕ → List (List (HttpWorker Following)) → Type 0
AreFreshAskedWorkers s max n generations ws = Many (AreFreshAsked s max generations) n ws
