use Rattle.sw_join.specs.Modes.{AimOf, EndOf}
use Rattle.sw_reactor_table.proofs.Grows.{fit_grows}
use Rattle.sw_reactor_table.proofs.Final.{mode_laws}
use Rattle.sw_reactor_laws.proofs.Bounds.{runs_in_bounds}
use Rattle.sw_reactor_laws.proofs.laws.a_reactor_stays_in_bounds.Goals as goal

pub returns : goal.returns
returns c = λ t word some fit n small took pushed r run fair. runs_in_bounds t (AimOf t) (EndOf t) (mode_laws t) word some (fit_grows t fit) n small took pushed r run fair
