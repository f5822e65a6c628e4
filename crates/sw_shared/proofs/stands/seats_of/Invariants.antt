use Rattle.std.proofs.Common.{◌≡◌, All}
use Rattle.sw_table_join.specs.Tables.{IsReady}
use Rattle.sw_shared.proofs.stands.seats_of.Given as goal

abbrev pub invariant-loop-stand : goal.invariant-loop-stand
invariant-loop-stand g l = record {
  same : l.all.items ≡ l.yielded;
  ready : All (IsReady g.J.Naming.table 1) l.all.items;
}
