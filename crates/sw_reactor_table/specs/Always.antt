-- What holds of a run, at each of its moments.
use Rattle.std.specs.Prelude.{ℕ, Bool}
use Rattle.sw_data.specs.declared.messages.Got.{Got}
use Rattle.sw_record.specs.Terms.{Terms}
use Rattle.sw_past.specs.Messages.{Message}
use Rattle.sw_past.specs.Past.{Mail}
use Rattle.sw_join.specs.Laws.{Aim, Ending, ReactorLaw}
use Rattle.sw_reactor_table.specs.Reactor.{Reactor, settled, kept}
use Rattle.sw_reactor_table.specs.Runs.{Called}

-- the reactor's law before a pipe call, behind it, and where what it gave is settled
pub record Always (t : Terms) (aimed : Aim) (whole : Ending) (n : ℕ) (took pushed : Mail) (r : Reactor) : Type 0 where
  pub before : ReactorLaw t aimed whole n took pushed (kept t r)
  pub behind : (later more : Mail) (got : Got Message) → Called r took pushed later more got → ReactorLaw t aimed whole n later more (kept t r)
  pub settled_too : (later more : Mail) (got : Got Message) → Called r took pushed later more got → (starved : Bool) → ReactorLaw t aimed whole n later more (kept t (settled t starved got r))
