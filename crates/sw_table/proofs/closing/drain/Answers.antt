use Rattle.std.proofs.Common.{◌≡◌, ◌<◌, ◌≤◌, ◌+◌, ℕ, List, All, Some, length, ap, sym, subst, ◌∙◌}
use Rattle.sw_table_laws.specs.Table.{bucket, used}
use Rattle.sw_table_laws.specs.Buckets.{BucketNow}
use Rattle.sw_table_join.specs.Tables.{SharedNow, SeatView, IsShared, rows_after}
use Rattle.sw_rowlock.specs.History.{calls}
use Rattle.sw_tmodel.specs.Plain.{shape_of}
use Rattle.sw_row.specs.Packed.{Packed}
use Rattle.sw_bucket.specs.Rows.{rows_by, IsBucket}
use Rattle.sw_table.specs.Closing.{IsCopied}
use Rattle.sw_table.proofs.Copying.{fill_more}
use Rattle.sw_table.proofs.Drawing.{left_as}
use Rattle.sw_table.proofs.Draining.{ready, whole_bucket}
use Rattle.sw_table.proofs.closing.drain.Goals as goal

pub copy_rows-requires-clause-columns : goal.copy_rows-requires-clause-columns
copy_rows-requires-clause-columns c =
    let t = c.args.table.now in
    let v = c.table.view_is in
    let is : IsShared t = subst IsShared v c.table.invariant.0 in
    let rows = c.into_chain-chain.result.value in
    let left = left_as v c.args.seat.now c.args.at c.in-Ok.bucket c.in-Ok.ensures.value in
    let f = ready t c.args.seat.now c.args.at c.in-Ok.bucket rows c.args.plain.now is c.requires.near c.requires.seat.has left c.into_chain-chain.ensures.rows c.into_chain-chain.ensures.sound c.requires.filled in
    f.columns ∙ ap (λ (y : SharedNow). y.columns) (sym v)

pub copy_rows-requires-clause-bucket : goal.copy_rows-requires-clause-bucket
copy_rows-requires-clause-bucket c =
    let t = c.args.table.now in
    let v = c.table.view_is in
    let is : IsShared t = subst IsShared v c.table.invariant.0 in
    let rows = c.into_chain-chain.result.value in
    let left = left_as v c.args.seat.now c.args.at c.in-Ok.bucket c.in-Ok.ensures.value in
    let f = ready t c.args.seat.now c.args.at c.in-Ok.bucket rows c.args.plain.now is c.requires.near c.requires.seat.has left c.into_chain-chain.ensures.rows c.into_chain-chain.ensures.sound c.requires.filled in
    subst (λ (xs : List Packed). IsBucket c.table.inside.schema xs) (sym c.deref.ensures) (subst (λ (y : SharedNow). IsBucket y.columns rows) (sym v) f.bucket_is)

pub copy_rows-requires-clause-near : goal.copy_rows-requires-clause-near
copy_rows-requires-clause-near c =
    let t = c.args.table.now in
    let v = c.table.view_is in
    let is : IsShared t = subst IsShared v c.table.invariant.0 in
    let rows = c.into_chain-chain.result.value in
    let left = left_as v c.args.seat.now c.args.at c.in-Ok.bucket c.in-Ok.ensures.value in
    let f = ready t c.args.seat.now c.args.at c.in-Ok.bucket rows c.args.plain.now is c.requires.near c.requires.seat.has left c.into_chain-chain.ensures.rows c.into_chain-chain.ensures.sound c.requires.filled in
    f.near

pub copy_rows-requires-clause-own : goal.copy_rows-requires-clause-own
copy_rows-requires-clause-own c =
    let t = c.args.table.now in
    let v = c.table.view_is in
    let is : IsShared t = subst IsShared v c.table.invariant.0 in
    let rows = c.into_chain-chain.result.value in
    let left = left_as v c.args.seat.now c.args.at c.in-Ok.bucket c.in-Ok.ensures.value in
    let f = ready t c.args.seat.now c.args.at c.in-Ok.bucket rows c.args.plain.now is c.requires.near c.requires.seat.has left c.into_chain-chain.ensures.rows c.into_chain-chain.ensures.sound c.requires.filled in
    subst (λ (xs : List Packed). All (λ (r : Packed). bucket c.args.plain.now.size r.key ≡ c.args.at) xs) (sym c.deref.ensures) f.own

pub copy_rows-requires-clause-none : goal.copy_rows-requires-clause-none
copy_rows-requires-clause-none c =
    let t = c.args.table.now in
    let v = c.table.view_is in
    let is : IsShared t = subst IsShared v c.table.invariant.0 in
    let rows = c.into_chain-chain.result.value in
    let left = left_as v c.args.seat.now c.args.at c.in-Ok.bucket c.in-Ok.ensures.value in
    let f = ready t c.args.seat.now c.args.at c.in-Ok.bucket rows c.args.plain.now is c.requires.near c.requires.seat.has left c.into_chain-chain.ensures.rows c.into_chain-chain.ensures.sound c.requires.filled in
    f.none

pub copy_rows-requires-clause-room : goal.copy_rows-requires-clause-room
copy_rows-requires-clause-room c =
    let t = c.args.table.now in
    let v = c.table.view_is in
    let is : IsShared t = subst IsShared v c.table.invariant.0 in
    let rows = c.into_chain-chain.result.value in
    let left = left_as v c.args.seat.now c.args.at c.in-Ok.bucket c.in-Ok.ensures.value in
    let f = ready t c.args.seat.now c.args.at c.in-Ok.bucket rows c.args.plain.now is c.requires.near c.requires.seat.has left c.into_chain-chain.ensures.rows c.into_chain-chain.ensures.sound c.requires.filled in
    subst (λ (xs : List Packed). used c.args.plain.now.size c.args.plain.now.state + length xs ≤ (shape_of c.args.plain.now).pool + 1) (sym c.deref.ensures) f.room

pub of-requires : goal.of-requires
of-requires c =
    let t = c.args.table.now in
    let v = c.table.view_is in
    let is : IsShared t = subst IsShared v c.table.invariant.0 in
    let rows = c.into_chain-chain.result.value in
    let left = left_as v c.args.seat.now c.args.at c.in-Ok.bucket c.in-Ok.ensures.value in
    let f = ready t c.args.seat.now c.args.at c.in-Ok.bucket rows c.args.plain.now is c.requires.near c.requires.seat.has left c.into_chain-chain.ensures.rows c.into_chain-chain.ensures.sound c.requires.filled in
    subst (λ (y : SharedNow). IsBucket y.columns rows) (sym v) f.bucket_is

pub give_row-requires-clause-held : goal.give_row-requires-clause-held
give_row-requires-clause-held c =
    let t = c.args.table.now in
    let v = c.table.view_is in
    let is : IsShared t = subst IsShared v c.table.invariant.0 in
    let rows = c.into_chain-chain.result.value in
    let left = left_as v c.args.seat.now c.args.at c.in-Ok.bucket c.in-Ok.ensures.value in
    let f = ready t c.args.seat.now c.args.at c.in-Ok.bucket rows c.args.plain.now is c.requires.near c.requires.seat.has left c.into_chain-chain.ensures.rows c.into_chain-chain.ensures.sound c.requires.filled in
    let columns = ap (λ (y : BucketNow). y.columns) (whole_bucket t c.args.seat.now c.args.at c.in-Ok.bucket is c.requires.near c.requires.seat.has left) ∙ ap (λ (y : SharedNow). y.columns) (sym v) in
    let same : c.in-Ok.bucket ≡ c.of.result = c.into_chain-chain.ensures.rows ∙ (λ i. record { columns = columns i; rows = rows_by rows }) ∙ sym c.of.ensures in
    ap (λ (w : SeatView). w.row) c.in-Ok.ensures.taken ∙ ap (λ (y : BucketNow). Some (c.args.at, y)) same

pub returns-clause-filled : goal.returns-clause-filled
returns-clause-filled c =
    let t = c.args.table.now in
    let v = c.table.view_is in
    let is : IsShared t = subst IsShared v c.table.invariant.0 in
    let rows = c.into_chain-chain.result.value in
    let left = left_as v c.args.seat.now c.args.at c.in-Ok.bucket c.in-Ok.ensures.value in
    let f = ready t c.args.seat.now c.args.at c.in-Ok.bucket rows c.args.plain.now is c.requires.near c.requires.seat.has left c.into_chain-chain.ensures.rows c.into_chain-chain.ensures.sound c.requires.filled in
    let copied = subst (λ (xs : List Packed). IsCopied c.args.plain.now xs c.args.at c.copy_rows.new.plain) c.deref.ensures c.copy_rows.ensures.copied in
    fill_more t (rows_after t (calls c.args.seat.now.seen)) c.args.at rows c.args.plain.now c.copy_rows.new.plain c.requires.filled f.same copied
