use Rattle.std.proofs.Common.{◌∙◌}
use Rattle.sw_http_worker.proofs.Serves.{goes_on}
use Rattle.sw_http_worker.proofs.serving.Serving.serve.Goals as goal

pub loop-act-preserved : goal.loop-act-preserved
loop-act-preserved g c = record {
  given = goes_on g.H.Handler.acts c.args.session c.args.inner.now c.args.self.now c.loop-act.inner c.loop-act.self c.in_ok-step.field-0 c.step.new.inner c.step.new.self c.loop-act.invariant.given c.in-Again.is c.in_ok-step.ensures.steps;
  made = c.step.ensures.made ∙ c.loop-act.invariant.made;
}
