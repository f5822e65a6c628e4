use Rattle.sw_port_board.specs.declared.board.BoardStep.TheVariants.{Read}
use Rattle.sw_board.specs.Places.{words_id}
use Rattle.sw_board.proofs.Known.{after, count_there, key_below}
use Rattle.sw_board.proofs.Steps.{reads_at}
use Rattle.sw_board.proofs.words.Words.read.Goals as goal

pub load-requires : goal.load-requires
load-requires c =
    let w = c.args.self.now in
    (c.requires.seat.of_words, count_there w _ c.args.c _ c.count_at.ensures c.requires.below, reads_at _ _ _ _ _ _ _ _ c.requires.seat.knows c.args.c c.args.actor (key_below w _ c.requires.below) c.count_at.ensures)

pub returns-clause-seat : goal.returns-clause-seat
returns-clause-seat c =
    let e = c.load.ensures in
    let a = after (words_id c.args.self.now) c.args.place.now c.load.new.seat (Read c.args.c c.args.actor c.load.result) c.requires.seat e.0 (e.2 c.args.c c.args.actor c.count_at.ensures).0 in
    (a.seat, a.actor)

pub returns-clause-agrees : goal.returns-clause-agrees
returns-clause-agrees c = (c.load.ensures.2 c.args.c c.args.actor c.count_at.ensures).1
