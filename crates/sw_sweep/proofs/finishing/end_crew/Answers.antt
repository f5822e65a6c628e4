use Rattle.sw_sweep.proofs.Telling.{last_heard}
use Rattle.sw_sweep.proofs.finishing.end_crew.Goals as goal

pub returns : goal.returns
returns g c = record {
  workers = c.in_ok-workers.ensures;
  taskers = c.in_ok-taskers.ensures;
  hears = λ door one. last_heard g.N.Net.faults c.args.crew.doors.items c.last_door.new.doors.items c.in-Some.door door c.end_door-door.result.net c.end_door-door.result.failed c.in-Some.ensures.last one c.end_door-door.ensures;
}
