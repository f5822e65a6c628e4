use Rattle.std.proofs.Common.{rules}
use Rattle.sw_http.specs.declared.next.HttpFault.TheVariants as faults
use Rattle.sw_http_worker.specs.Serving.{IsOpen}
use Rattle.sw_http_worker.proofs.Serves.{refuses}
use Rattle.sw_http_worker.proofs.serving.Serving.step.Goals as goal

pub returns-in-TooLong-clause-steps : goal.returns-in-TooLong-clause-steps
returns-in-TooLong-clause-steps g c =
    let opens : IsOpen c.args.self.now = search rules in
    refuses g.H.Handler.acts c.args.session c.args.inner.now c.args.self.now (faults.TooLong c.in-TooLong.field-0) c.next.new.self c.refuse.result opens c.in-TooLong.ensures.answer c.in-TooLong.ensures.cutter c.refuse.ensures

pub returns-in-Coded-clause-steps : goal.returns-in-Coded-clause-steps
returns-in-Coded-clause-steps g c =
    let opens : IsOpen c.args.self.now = search rules in
    refuses g.H.Handler.acts c.args.session c.args.inner.now c.args.self.now faults.Coded c.next.new.self c.refuse-in-Coded.result opens c.in-Coded.ensures.answer c.in-Coded.ensures.cutter c.refuse-in-Coded.ensures

pub returns-in-BadLength-clause-steps : goal.returns-in-BadLength-clause-steps
returns-in-BadLength-clause-steps g c =
    let opens : IsOpen c.args.self.now = search rules in
    refuses g.H.Handler.acts c.args.session c.args.inner.now c.args.self.now faults.BadLength c.next.new.self c.refuse-in-BadLength.result opens c.in-BadLength.ensures.answer c.in-BadLength.ensures.cutter c.refuse-in-BadLength.ensures
