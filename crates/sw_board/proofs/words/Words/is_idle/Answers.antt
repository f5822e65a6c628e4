use Rattle.sw_port_board.specs.declared.board.BoardStep.TheVariants.{Found}
use Rattle.sw_board.specs.Places.{words_id}
use Rattle.sw_board.proofs.Known.{after, idle_there, key_below}
use Rattle.sw_board.proofs.Steps.{finds_at}
use Rattle.sw_board.proofs.words.Words.is_idle.Goals as goal

pub load-requires : goal.load-requires
load-requires c =
    let w = c.args.self.now in
    (c.requires.seat.of_words, idle_there w _ _ c.idle_at.ensures c.requires.below, finds_at _ _ _ _ _ _ _ _ c.requires.seat.knows c.args.actor (key_below w _ c.requires.below) c.idle_at.ensures)

pub returns-clause-seat : goal.returns-clause-seat
returns-clause-seat c =
    let e = c.load.ensures in
    let a = after (words_id c.args.self.now) c.args.place.now c.load.new.seat (Found c.args.actor _) c.requires.seat e.0 (e.2 c.args.actor c.idle_at.ensures).0 in
    (a.seat, a.actor)

pub returns-clause-agrees : goal.returns-clause-agrees
returns-clause-agrees c = (c.load.ensures.2 c.args.actor c.idle_at.ensures).1
