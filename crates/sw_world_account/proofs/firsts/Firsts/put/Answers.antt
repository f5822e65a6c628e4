use Rattle.sw_world_account.specs.Firsts.{finds}
use Rattle.sw_world_account.proofs.Places.{put_is}
use Rattle.sw_world_account.proofs.firsts.Firsts.put.Goals as goal

pub returns-in_ok-insert-in-Some : goal.returns-in_ok-insert-in-Some
returns-in_ok-insert-in-Some c = λ s. put_is c.args.session c.in-Some.session c.number.result c.args.at s (finds c.args.self.now s) _ (c.in_ok-insert-in-Some.ensures.updates.0 s) c.number.ensures.value c.in-Some.is
