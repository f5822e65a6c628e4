use Rattle.std.proofs.Common.{◌+◌, ℕ, List, [], take, sym, subst, ◌∙◌}
use Rattle.std.specs.Prelude.{string_bytes}
use Rattle.std.proofs.lemmas.List.{take_more, take_all}
use Rattle.sw_timers.specs.Due.{Agenda, nothing_waits}
use Rattle.sw_timers_text.specs.declared.line.Line.{Line}
use Rattle.sw_timers_text.specs.Prints.{PlaysAll}
use Rattle.sw_timers_text.proofs.PlaySteps.{plays_next, plays_nothing}
use Rattle.sw_timers_text.proofs.playing.played.Goals as goal

pub loop-line-init : goal.loop-line-init
loop-line-init c =
    subst (λ (t : Agenda). PlaysAll nothing_waits [] (string_bytes c.new-out.result) t) (sym c.new-timers.ensures)
    (subst (λ (x : List ℕ). PlaysAll nothing_waits [] x nothing_waits) (sym c.new-out.ensures.bytes) (plays_nothing nothing_waits))

pub loop-line-preserved : goal.loop-line-preserved
loop-line-preserved c =
    plays_next nothing_waits c.loop-line.timers c.play.new.timers (take c.loop-line.line-index c.as_slice-line-items.result.now) (take (c.loop-line.line-index + 1) c.as_slice-line-items.result.now) _ (string_bytes c.loop-line.out) (string_bytes c.play.new.out)
    (take_more c.as_slice-line-items.result.now c.loop-line.line-index _ c.loop-line-test.true) c.loop-line.invariant c.in_ok-play.ensures

pub returns : goal.returns
returns c = (
  c.loop-line.timers,
  subst (λ (ls : List Line). PlaysAll nothing_waits ls (string_bytes c.loop-line.out) c.loop-line.timers) (take_all c.loop-line.line-index c.as_slice-line-items.result.now c.loop-line-test.false ∙ c.as_slice-line-items.ensures) c.loop-line.invariant,
)
