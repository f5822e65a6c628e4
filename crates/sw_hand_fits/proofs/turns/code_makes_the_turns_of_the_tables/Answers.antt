use Rattle.sw_hand_calls.specs.Calls.{rules_of}
use Rattle.sw_hand_fits.proofs.Turn.{turn_fits}
use Rattle.sw_hand_fits.proofs.turns.code_makes_the_turns_of_the_tables.Goals as goal

pub returns : goal.returns
returns g c = λ t y limit number gh st h b s d cgot got k f u r ask hand crew may m sf car num gi gn gf z. turn_fits t y limit number (rules_of g.B.Book.look_finds g.B.Book.bind_finds g.S.Shelf.call_gives g.H.Handler.acts g.C.Board.goes g.C.Board.sizes) gh st h b s d cgot got k f u r ask hand crew may m sf car num gi gn gf z
