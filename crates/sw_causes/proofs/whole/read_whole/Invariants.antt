use Rattle.std.proofs.Common.{◌≡◌, ◌≤◌, length}
use Rattle.std.specs.Io.KnownBytes.{Consumes}
use Rattle.sw_causes.specs.Whole.{limit}
use Rattle.sw_causes.proofs.whole.read_whole.Given as goal

abbrev pub invariant-loop : goal.invariant-loop
invariant-loop g l = record {
  came : Consumes (g.S.Source.left l.fn.source) (g.S.Source.left l.source) l.bytes.items;
  count : l.counter ≤ length l.bytes.items;
  within : length l.bytes.items ≤ limit;
  faults : g.S.Source.faults l.source ≡ g.S.Source.faults l.fn.source;
  buf : length l.buf ≡ 16384;
}
