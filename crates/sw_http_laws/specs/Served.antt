-- What the handler inside was given of a link of the record.
use Rattle.std.specs.Prelude.{◌≡◌, ℕ, true, List, take, slice_get, Some}
use Rattle.std.specs.List.{concat}
use Rattle.sw_frame.specs.declared.framing.Framing.TheVariants.{Raw}
use Rattle.sw_record.specs.Logs.{Handled}
use Rattle.sw_record.specs.Order.{target}
use Rattle.sw_record.specs.Terms.{Terms, HasLink, keeps, packets_on}
use Rattle.sw_record.specs.Words.{Log, Ended}
use Rattle.sw_record.specs.declared.record.LinkRecord.{LinkRecord}
use Rattle.sw_record.specs.declared.record.LinkState.TheVariants.{Over}
use Rattle.sw_record.specs.declared.record.Record.{Record}
use Rattle.sw_http_worker.specs.declared.worker.HttpWorker.{HttpWorker}
use Rattle.sw_http_worker.specs.Serving.{Acts}
use Rattle.sw_http_worker.specs.Worker.{inner_of}
use Rattle.sw_http_laws.specs.Inside.{Ran, contents}
use Rattle.sw_http_laws.specs.Requests.{AreCut, AreAll}

-- whole requests may be given: each connection has one worker, and its pieces are its packets
pub record IsWeb (t : Terms) : Type 0 where
  pub kept : keeps t.mode ≡ true
  pub raw : t.framing ≡ Raw

-- the worker of this link has this log, which a handler round a handler that tells wrote
pub record IsServedBy {H : Type 0} (acts : Acts H) (tell : H → Log) (max : ℕ) (t : Terms) (r : Record) (s : ℕ) (l : LinkRecord) (w : HttpWorker H) : Type 0 where
  pub link : HasLink r.links s l
  pub log : Log
  pub at : slice_get r.workers (target t s l.ip) ≡ Some log
  pub ran : Ran acts tell max log w

-- what the handler inside was given of a session
abbrev pub inside : {H : Type 0} → (H → Log) → HttpWorker H → ℕ → List (ℕ × List ℕ)
inside tell w s = Handled (tell (inner_of w)) s

-- of a session it was given requests that are cut from a beginning of the link's pieces, in order
abbrev pub GivenInOrder : {H : Type 0} → (H → Log) → ℕ → ℕ → LinkRecord → HttpWorker H → Type 0
GivenInOrder tell max s l w = AreCut max (concat l.pieces) (inside tell w s)

-- the link ended, and of its session the handler was given all requests that are cut from the pieces that were dispatched
pub record GivenAll {H : Type 0} (tell : H → Log) (max : ℕ) (t : Terms) (s : ℕ) (l : LinkRecord) (w : HttpWorker H) : Type 0 where
  pub ended : Ended
  pub over : l.state ≡ Over ended
  pub all : AreAll max (concat (contents (take ended.dispatched (packets_on t l)))) (inside tell w s)
