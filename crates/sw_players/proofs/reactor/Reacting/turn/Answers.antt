use Rattle.std.proofs.Common.{◌≡◌, ap, sym, ◌∙◌}
use Rattle.sw_board.specs.Values.{SeatGoes}
use Rattle.sw_conn.specs.declared.terms.Terms.{Terms}
use Rattle.sw_reactor.specs.Serving.{ports_of}
use Rattle.sw_sessions.specs.Values.{TicketNow}
use Rattle.sw_shared.specs.Passes.{pass_looks, pass_releases}
use Rattle.sw_players.proofs.Terms.{turn_keeps_terms}
use Rattle.sw_players.proofs.Tickets.{apart}
use Rattle.sw_players.proofs.reactor.Reacting.turn.Goals as goal

pub turn-requires-clause-apart : goal.turn-requires-clause-apart
turn-requires-clause-apart g c = apart _ _

pub returns-clause-reactor : goal.returns-clause-reactor
returns-clause-reactor g c =
    let same =
    turn_keeps_terms (ports_of (λ (t : TicketNow). t.number) g.L.Link.read_gives g.L.Link.write_gives pass_looks pass_releases SeatGoes (λ s. g.J.Naming.board.sizes) g.E.Ends.put_gives)
    c.args.self.now.reactor c.args.got c.args.self.now.pass c.args.self.now.seat c.args.self.now.ends c.turn.result
    c.turn.new.self c.turn.new.book c.turn.new.board c.turn.new.ends c.turn.ensures.turns in
    (c.turn.ensures.ready, c.requires.1 ∙ ap (λ (t : Terms). t.max_conn) (sym same), c.requires.2 ∙ ap (λ (t : Terms). t.worker_num) (sym same))
