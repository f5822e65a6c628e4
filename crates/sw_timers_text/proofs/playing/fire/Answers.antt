use Rattle.std.proofs.Common.{◌+◌, ℕ, Option, arith, subst}
use Rattle.std.specs.Prelude.{string_bytes}
use Rattle.sw_timers.specs.Due.{IsDue}
use Rattle.sw_timers_text.specs.Prints.{fire_text, FiresJust}
use Rattle.sw_timers_text.proofs.PlaySteps.{writes_more, writes_nothing, fires_more, fires_nothing}
use Rattle.sw_timers_text.proofs.playing.fire.Goals as goal

pub loop-fired-init : goal.loop-fired-init
loop-fired-init c = record {
  printed = writes_nothing (λ text. FiresJust c.args.now 0 c.args.timers.now text c.args.timers.now) (string_bytes c.args.out.now) (fires_nothing c.args.now c.args.timers.now);
  within = omega arith;
}

pub loop-fired-preserved : goal.loop-fired-preserved
loop-fired-preserved c = record {
  printed = writes_more (λ text. FiresJust c.args.now c.loop-fired.fired c.args.timers.now text c.loop-fired.timers) (λ text. FiresJust c.args.now (c.loop-fired.fired + 1) c.args.timers.now text c.due.new.self)
      (string_bytes c.args.out.now) (string_bytes c.loop-fired.out) (string_bytes c.put_fire.new.out) (fire_text (c.in-Some.id, c.in-Some.moment))
      (λ x just. fires_more c.args.now c.loop-fired.fired c.args.timers.now c.loop-fired.timers c.due.new.self x (c.in-Some.id, c.in-Some.moment) just (subst (λ (o : Option (ℕ × ℕ)). IsDue c.args.now c.loop-fired.timers c.due.new.self o) c.in-Some.is c.due.ensures))
      c.loop-fired.invariant.printed c.in_ok-put_fire-in-Some.ensures;
  within = omega (arith, c.loop-fired-test.true);
}
