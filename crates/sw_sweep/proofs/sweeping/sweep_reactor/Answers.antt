use Rattle.sw_players.proofs.Tickets.{apart}
use Rattle.sw_sweep.proofs.sweeping.sweep_reactor.Goals as goal

pub settle-requires-clause-apart : goal.settle-requires-clause-apart
settle-requires-clause-apart g c = apart _ _
