use Rattle.sw_reactor.specs.Serving.{ports_of}
use Rattle.sw_reactor_fits.proofs.Running.{turn_of_run}
use Rattle.sw_reactor_fits.proofs.laws.a_turn_is_the_tables.Goals as goal

pub returns : goal.returns
returns g c = λ view t word tell sizes fit n small took pushed s run r q got a b0 b1 c0 c1 f0 f1 sound h new later more call fair few z.
    turn_of_run view (ports_of g.K.Ticketed.number g.L.Link.read_gives g.L.Link.write_gives g.B.Book.look_finds g.B.Book.release_finds g.C.Board.goes g.C.Board.sizes g.E.Ends.put_gives)
    t word tell sizes fit n small took pushed s run r q got a b0 b1 c0 c1 f0 f1 sound h new later more call fair few z
