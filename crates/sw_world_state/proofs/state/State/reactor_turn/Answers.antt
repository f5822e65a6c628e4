use Rattle.sw_world_state.proofs.state.State.reactor_turn.Goals as goal

pub turn-requires-clause-may : goal.turn-requires-clause-may
turn-requires-clause-may g c = (c.requires.1 c.make_room.new.self c.in_ok-made.made c.feed_taken.new.front c.in_ok-make_room.ensures.kept c.in_ok-made.ensures).1
