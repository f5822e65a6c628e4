-- The handlers' making stays: the one at hand keeps what it was made with.
use Rattle.std.proofs.Common.{rules}
use Rattle.std.proofs.Math.Seq.{map-set_same}
use Rattle.sw_worker.proofs.generations.Generations.give.Goals as goal

pub returns-clause-made : goal.returns-clause-made
returns-clause-made g c = search (rules, map-set_same)
