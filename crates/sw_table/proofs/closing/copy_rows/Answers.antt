use Rattle.std.proofs.Common.{◌≡◌, ◌+◌, ◌≤◌, ℕ, List, None, true, suc, take, length, ap, sym, subst, ◌∙◌, arith}
use Rattle.std.specs.FinMap as fin
use Rattle.sw_table_laws.specs.Table.{bucket, has_room}
use Rattle.sw_tmodel.specs.Plain.{shape_of}
use Rattle.sw_row.specs.Packed.{Packed}
use Rattle.sw_table.specs.Closing.{IsCopied}
use Rattle.sw_table.proofs.Copying.{all_slice, copy_none, copy_missing, copy_room, copy_more, copy_all}
use Rattle.sw_table.proofs.closing.copy_rows.Goals as goal

pub loop-i-init : goal.loop-i-init
loop-i-init c = record { copied = copy_none c.args.plain.now c.args.chain.now c.args.at c.requires.none; kinds = c.requires.row }

pub put_row-requires-clause-missing : goal.put_row-requires-clause-missing
put_row-requires-clause-missing c =
    let rows = c.args.chain.now in
    let r = c.row-from.result.now.here in
    let own = all_slice (λ (x : Packed). bucket c.args.plain.now.size x.key ≡ c.args.at) rows c.loop-i.i r c.requires.own c.row-from.ensures in
    subst (λ (k : List ℕ). fin.get c.loop-i.plain.state k ≡ None) (sym c.key.ensures) (copy_missing c.args.schema.now c.args.plain.now c.loop-i.plain rows c.args.at c.loop-i.i r c.requires.bucket c.row-from.ensures own c.loop-i.invariant.copied)

pub put_row-requires-clause-room : goal.put_row-requires-clause-room
put_row-requires-clause-room c =
    let rows = c.args.chain.now in
    let r = c.row-from.result.now.here in
    let own = all_slice (λ (x : Packed). bucket c.args.plain.now.size x.key ≡ c.args.at) rows c.loop-i.i r c.requires.own c.row-from.ensures in
    subst (λ (k : List ℕ). has_room (shape_of c.loop-i.plain) c.loop-i.plain.state k ≡ true) (sym c.key.ensures)
    (copy_room c.args.schema.now c.args.plain.now c.loop-i.plain rows c.args.at c.loop-i.i r c.requires.bucket c.row-from.ensures (omega arith) c.requires.near own c.requires.none c.requires.room c.loop-i.invariant.copied)

pub loop-i-preserved : goal.loop-i-preserved
loop-i-preserved c =
    let rows = c.args.chain.now in
    let r = c.row-from.result.now.here in
    let own = all_slice (λ (x : Packed). bucket c.args.plain.now.size x.key ≡ c.args.at) rows c.loop-i.i r c.requires.own c.row-from.ensures in
    let e = c.put_row.ensures ∙ ap (λ (k : List ℕ). record c.loop-i.plain { state = fin.insert c.loop-i.plain.state k c.unpack.new.into }) c.key.ensures in
    let next : suc c.loop-i.i ≡ c.loop-i.i + 1 = omega arith in
    record {
      copied = subst (λ (k : ℕ). IsCopied c.args.plain.now (take k rows) c.args.at c.put_row.new.self) next
          (copy_more c.args.schema.now c.args.plain.now c.loop-i.plain c.put_row.new.self rows c.args.at c.loop-i.i r c.unpack.new.into c.requires.bucket c.row-from.ensures own c.unpack.ensures.value c.loop-i.invariant.copied e);
      kinds = c.unpack.ensures.kinds;
    }

pub returns : goal.returns
returns c = record { copied = copy_all c.args.plain.now c.loop-i.plain c.args.chain.now c.args.at c.loop-i.i (omega arith) c.loop-i.invariant.copied; kinds = c.loop-i.invariant.kinds }
