use Rattle.std.proofs.Common.{◌≡◌, ◌≤◌}
use Rattle.sw_table_laws.specs.Sizes.{raised_by}
use Rattle.sw_tmodel.proofs.plain.raised.Given as goal

-- doubled as often as the loop has run, and never far beyond the size
abbrev pub invariant-loop : goal.invariant-loop
invariant-loop l = record {
  value : l.p ≡ raised_by l.size l.counter;
  least : 64 ≤ l.p;
  most : l.p ≤ 1048576;
}
