use Rattle.std.proofs.Common.{◌≡◌, List, ℕ, Result, Ok, sym, ◌∙◌, subst}
use Rattle.sw_dump.specs.declared.refill.Refill.{Refill}
use Rattle.sw_dump.specs.Grammar.{refill_of}
use Rattle.sw_dump.specs.Restores.{IsRestoredBy}
use Rattle.sw_dump.proofs.Sound.{sound_if}
use Rattle.sw_dump.proofs.restoring.restore.Goals as goal

pub returns-in-Ok-clause-restored : goal.returns-in-Ok-clause-restored
returns-in-Ok-clause-restored c =
    let is : refill_of c.args.text.now ≡ Ok c.in-Ok.refill = sym c.in_ok-n.ensures.value ∙ c.in-Ok.is in
    subst (λ (x : Result Refill ℕ). IsRestoredBy x c.restored.result) (sym is) c.restored.ensures.restored

pub returns-in-Ok-clause-sound : goal.returns-in-Ok-clause-sound
returns-in-Ok-clause-sound c =
    let is : refill_of c.args.text.now ≡ Ok c.in-Ok.refill = sym c.in_ok-n.ensures.value ∙ c.in-Ok.is in
    sound_if c.args.text.now c.in-Ok.refill c.restored.result is c.restored.ensures.restored c.restored.ensures.few
