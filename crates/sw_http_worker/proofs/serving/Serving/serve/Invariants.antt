use Rattle.std.proofs.Common.{◌≡◌, ◌-◌}
use Rattle.sw_http_worker.specs.Serving.{most}
use Rattle.sw_http_worker.proofs.Serves.{HaveGiven}
use Rattle.sw_http_worker.proofs.serving.Serving.serve.Given as goal

-- the requests so far were given one after the other, and the handler was done with each at once
abbrev pub invariant-loop-act : goal.invariant-loop-act
invariant-loop-act g l = record {
  given : HaveGiven g.H.Handler.acts l.session l.fn.inner l.fn.self l.inner l.self;
  made : g.H.Handler.made l.inner ≡ g.H.Handler.made l.fn.inner;
}

-- numbers are left for fewer requests each time
abbrev pub decreases-loop-act : goal.decreases-loop-act
decreases-loop-act g l = most - l.self.given
