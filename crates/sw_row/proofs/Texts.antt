-- The values of a row after a text was written into the bytes of its column.
use Rattle.std.proofs.Common.{◌≡◌, ℕ, ◌+◌, ◌-◌, ◌≤◌, List, length, take, drop, set, min, Option, Some, refl, ap, sym, ◌∙◌, subst, arith}
use Rattle.std.specs.Prelude.{slice_get}
use Rattle.std.proofs.lemmas.List.{length-take, length-drop}
use borrow.Rule.Slice.PartMut.{put_mid}
use Rattle.sw_base.specs.declared.table.Value.TheVariants as values
use Rattle.sw_column.specs.declared.column.Column.{Column}
use Rattle.sw_column.specs.declared.column.Kind.{Kind}
use Rattle.sw_column.specs.declared.column.Kind.TheVariants as kinds
use Rattle.sw_column.specs.Columns.{width, row_width}
use Rattle.sw_row.specs.Layout.{text_in, value_in, values_in, offset_of}
use Rattle.sw_row.proofs.Places.{wide, values_put}

-- a column of texts takes its size and two bytes
pub text_size : (c : Column) → c.kind ≡ kinds.Text → wide c ≡ c.size + 2
text_size c kind = ap (λ (k : Kind). width k c.size) kind

pub text_written : (cs : List Column) (bytes piece : List ℕ) (at : ℕ) (c : Column) (o : ℕ) (t : List ℕ) → slice_get cs at ≡ Some c → c.kind ≡ kinds.Text → o ≡ offset_of cs at → row_width cs ≤ length bytes
    → length piece ≡ length (take (o + c.size + 2 - o) (drop o bytes)) → text_in piece ≡ take c.size t → values_in cs (put_mid o (o + c.size + 2 - o) bytes piece) ≡ set (values_in cs bytes) at (values.Text (take c.size t))
text_written cs bytes piece at c o t is kind begins room len value =
    let w = text_size c kind in
    let e : o + c.size + 2 - o ≡ o + wide c - o = omega (arith, w) in
    ap (λ n. values_in cs (put_mid o n bytes piece)) e
    ∙ values_put cs bytes piece o (wide c) at c is begins refl room (len ∙ ap (λ n. length (take n (drop o bytes))) e)
    ∙ (λ i. set (values_in cs bytes) at (value_in (kind i) c.size piece))
    ∙ ap (λ (x : List ℕ). set (values_in cs bytes) at (values.Text x)) value

-- the bytes behind the two of a text's length
pub long : (o size : ℕ) (bytes : List ℕ) → o + size + 2 ≤ length bytes → length (take (o + size + 2 - o) (drop o bytes)) - 2 ≡ size
long o size bytes le =
    let drops : length (drop o bytes) ≡ length bytes - o = length-drop o bytes in
    let takes : length (take (o + size + 2 - o) (drop o bytes)) ≡ min (o + size + 2 - o) (length (drop o bytes)) = length-take (o + size + 2 - o) (drop o bytes) in
    omega arith
