use Rattle.std.proofs.Common.{sym}
use Rattle.sw_world_state.proofs.state.State.go.Goals as goal

pub turn-requires : goal.turn-requires
turn-requires g c = c.requires.turns c.args.actor c.in-Some.at c.in-Some-go.got c.go.new.self (sym c.in-Some.ensures.number) c.in-Some-go.ensures
