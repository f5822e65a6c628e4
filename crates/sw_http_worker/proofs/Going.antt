-- What the handler's answer to its act on a request comes to.
use Rattle.std.proofs.Common.{◌≡◌, ℕ, true, false, refl, sym, ◌∙◌, true≢false}
use Rattle.std.specs.Prelude.{Result, Ok, Err, IfOk}
use Rattle.sw_base.specs.declared.out_of_memory.OutOfMemory.{OutOfMemory}
use Rattle.sw_data.specs.declared.acts.Act.{Act}
use Rattle.sw_data.specs.declared.given.Given.{Given}
use Rattle.sw_http_worker.specs.declared.worker.HttpWorker.{HttpWorker}
use Rattle.sw_http_worker.specs.Serving.{Acts, is_done}
use Rattle.sw_http_worker.specs.Worker.{kept_of, KeepsAll, ServesKept, GoesOn}

-- the handler is done with a request, and the next ones are given
done : {H : Type 0} (acts : Acts H) (old mid new : HttpWorker H) (s : ℕ) (given : Given) (own act : Act) → ServesKept acts mid s (kept_of mid s) act new → acts old.inner given own mid.inner → mid.doing ≡ old.doing → KeepsAll old mid → is_done own ≡ true
    → GoesOn acts old s given act new
done acts old mid new s given own act serves acted doing kept is =
    record { own = own; handler = mid; acted = acted; doing = doing; kept = kept; busy = λ busy. absurd (true≢false (sym is ∙ busy)); done = λ e. serves }

pub done_ok : {H : Type 0} (acts : Acts H) (old mid new : HttpWorker H) (s : ℕ) (given : Given) (own : Act) (result : Result Act OutOfMemory) → IfOk result (λ act. ServesKept acts mid s (kept_of mid s) act new) → acts old.inner given own mid.inner → mid.doing ≡ old.doing
    → KeepsAll old mid → is_done own ≡ true → IfOk result (λ act. GoesOn acts old s given act new)
done_ok acts old mid new s given own (Err e) serves acted doing kept is = tt
done_ok acts old mid new s given own (Ok act) serves acted doing kept is = done acts old mid new s given own act serves acted doing kept is

-- the handler isn't done with it
pub busy : {H : Type 0} (acts : Acts H) (old mid : HttpWorker H) (s : ℕ) (given : Given) (own : Act) → acts old.inner given own mid.inner → mid.doing ≡ old.doing → KeepsAll old mid → is_done own ≡ false → GoesOn acts old s given own mid
busy acts old mid s given own acted doing kept is =
    record { own = own; handler = mid; acted = acted; doing = doing; kept = kept; busy = λ e. (refl, refl); done = λ e. absurd (true≢false (sym e ∙ is)) }
