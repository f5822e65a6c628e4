use Rattle.std.proofs.Common.{◌≡◌, ◌+◌, vec_len}
use Rattle.sw_table.proofs.Joining.{Joining}
use Rattle.sw_table.proofs.closing.joined.Given as goal

-- the seats behind those that are left were joined
abbrev pub invariant-loop : goal.invariant-loop
invariant-loop l = record {
  count : vec_len l.seats + l.counter ≡ vec_len l.fn.seats;
  parted : Joining l.table l.fn.rest l.fn.seats.items l.seats.items l.seat;
}
