use Rattle.std.proofs.Common.{◌<◌, ℕ, sym, subst}
use Rattle.sw_board.specs.Values.{SeatGoes}
use Rattle.sw_sessions.specs.Values.{ClerkClaims, TicketNow}
use Rattle.sw_players.specs.Hears.{ListensAs}
use Rattle.sw_players.proofs.Doors.{turn_keeps_door, turn_keeps_was}
use Rattle.sw_players.proofs.door.AtDoor.turn.Goals as goal

pub returns-clause-door : goal.returns-clause-door
returns-clause-door g c =
    let same =
    turn_keeps_door (ListensAs g.N.Net.accept_gives) ClerkClaims (λ (t : TicketNow). t.number) SeatGoes g.E.Ends.put_gives
    c.args.self.now.door c.args.self.now.net c.args.self.now.clerk c.args.self.now.seat c.args.self.now.ends c.args.got
    c.turn.new.self c.turn.new.net c.turn.new.desk c.turn.new.board c.turn.new.ends c.turn.result c.turn.ensures.turns in
    (subst (λ (n : ℕ). 0 < n) (sym same.0) c.requires.0, subst (λ (n : ℕ). 0 < n) (sym same.1) c.requires.1)

pub returns-clause-was : goal.returns-clause-was
returns-clause-was g c =
    turn_keeps_was g.N.Net.accept_gives ClerkClaims (λ (t : TicketNow). t.number) SeatGoes g.E.Ends.put_gives
    c.args.self.now.door c.args.self.now.net c.args.self.now.clerk c.args.self.now.seat c.args.self.now.ends c.args.got
    c.turn.new.self c.turn.new.net c.turn.new.desk c.turn.new.board c.turn.new.ends c.turn.result c.turn.ensures.turns
