use Rattle.std.proofs.Common.{rules, ◌≡◌, [], ◌∷◌, ◌++◌}
use Rattle.sw_pipe_rows.proofs.Closes.{closed_more}
use Rattle.sw_pipe_rows.proofs.rows.+close_all.Goals as goal

pub returns : goal.returns
returns g t c =
    let takers_are : c.args.takers.items ≡ c.pop.new.self.items ++ c.in-Some.taker ∷ [] = search rules in
    closed_more c.args.takers.items c.pop.new.self.items c.in-Some.taker _ _ _ _ _ _ takers_are c.in_ok-rest.ensures.glued c.in_ok-push.ensures.items c.close_full.ensures c.in_ok-lefts.ensures
