use Rattle.std.proofs.Common.{◌≡◌, ◌<◌, ◌%◌, ℕ, List, None, Some, refl, ap, sym, subst, ◌∙◌, arith}
use Rattle.sw_column.specs.Hash.{hash}
use Rattle.sw_table_laws.specs.Table.{bucket}
use Rattle.sw_table_join.specs.Tables.{SharedNow, IsShared}
use Rattle.sw_table.specs.Holding.{free}
use Rattle.sw_table.proofs.Drawing.{holds_of, left_as, free_taken, same_ended}
use Rattle.sw_table.proofs.table.Table.keyed.Goals as goal

pub in_bucket-requires-clause-holds : goal.in_bucket-requires-clause-holds
in_bucket-requires-clause-holds g c =
    let t = c.args.self.now in
    let v = c.self.view_is in
    let is : IsShared t = subst IsShared v c.self.invariant.0 in
    let key = c.args.key.now in
    let some : 0 < c.self.inside.size = c.self.invariant.0.starts.3 in
    let own : c.hash.result % c.self.inside.size ≡ bucket t.size key = ap (λ (h : ℕ). h % c.self.inside.size) c.hash.ensures ∙ ap (λ (y : SharedNow). hash key % y.size) v in
    let near : c.hash.result % c.self.inside.size < t.size = subst (λ (y : SharedNow). c.hash.result % c.self.inside.size < y.size) v (omega arith) in
    holds_of t c.args.call.now key (c.hash.result % c.self.inside.size) c.into_chain.result.value c.in-Ok.bucket c.args.seat.now c.try_row.new.seat is c.requires.seat c.requires.fit c.requires.keyed own near
    (left_as v c.args.seat.now (c.hash.result % c.self.inside.size) c.in-Ok.bucket c.in-Ok.ensures.value) c.into_chain.ensures.rows c.into_chain.ensures.sound c.in-Ok.ensures.taken

pub returns-in-Ok-clause-call : goal.returns-in-Ok-clause-call
returns-in-Ok-clause-call g c =
    same_ended c.args.self.now (free c.try_row.new.seat) c.args.seat.now c.in_bucket.new.seat c.args.call.now c.args.row.now c.in_bucket.new.row c.in_bucket.result
    (free_taken c.in-Ok.bucket (c.hash.result % c.self.inside.size) c.args.seat.now c.try_row.new.seat c.args.self.now c.requires.seat c.in-Ok.ensures.taken) c.in_bucket.ensures.call
