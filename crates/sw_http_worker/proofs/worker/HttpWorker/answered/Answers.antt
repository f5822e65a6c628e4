use Rattle.std.proofs.Common.{refl, sym, ◌∙◌}
use Rattle.sw_http_worker.proofs.Going.{done_ok, busy}
use Rattle.sw_http_worker.proofs.worker.HttpWorker.answered.Goals as goal

pub returns-then-is_done-clause-acts : goal.returns-then-is_done-clause-acts
returns-then-is_done-clause-acts g c =
    done_ok g.H.Handler.acts c.args.self.now _ c.serve.new.self c.args.session c.args.given.now c.in_ok-act.act c.serve.result c.serve.ensures.serves c.in_ok-act.ensures.acts refl (λ t. refl) (sym c.is_done.ensures ∙ c.if-is_done.true)

pub returns-else-is_done-clause-acts : goal.returns-else-is_done-clause-acts
returns-else-is_done-clause-acts g c =
    busy g.H.Handler.acts c.args.self.now _ c.args.session c.args.given.now c.in_ok-act.act c.in_ok-act.ensures.acts refl (λ t. refl) (sym c.is_done.ensures ∙ c.if-is_done.false)
