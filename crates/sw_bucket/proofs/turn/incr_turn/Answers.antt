use Rattle.std.proofs.Common.{ap, sym, ◌∙◌, subst, arith, FitsSigned, to_z, of_z, w64, ◌≡◌}
use Rattle.std.proofs.lemmas.Int.{ints}
use Rattle.std.specs.Prelude.{ℤ, slice_get, ◌+ℤ◌}
use Rattle.sw_base.specs.declared.table.Call.TheVariants.{Incr}
use Rattle.sw_column.specs.Fit.{fits}
use Rattle.sw_table_laws.specs.Rows.{number_of, size_in}
use Rattle.sw_table_laws.specs.Buckets.{row_in}
use Rattle.sw_bucket.specs.Rows.{rows_by}
use Rattle.sw_bucket.specs.Turns.{IsTurn, number_turn}
use Rattle.sw_bucket.specs.declared.turn.Turn.{Turn}
use Rattle.sw_bucket.proofs.Turning.{number_is, turn_sum, turn_wide, sums_incr}
use Rattle.sw_bucket.proofs.turn.incr_turn.Goals as goal

pub returns-in-None : goal.returns-in-None
returns-in-None c =
    let cs = c.args.schema.now in
    let rows = c.args.chain.now in
    let key = c.args.key.now in
    let name = c.args.name.now in
    let old : c.number-old.result ≡ number_of cs (row_in cs (rows_by rows) key) name = number_is cs rows key name c.find-found.result c.counter-column.result c.number-old.result c.requires.bucket c.find-found.ensures.value c.counter-column.ensures.stands c.number-old.ensures.none c.number-old.ensures.some in
    let a : to_z w64 (of_z w64 c.number-old.result) ≡ c.number-old.result = omega (arith, ints) in
    let b : to_z w64 (of_z w64 c.args.by) ≡ c.args.by = omega (arith, ints) in
    let wide = subst (λ (n : ℤ). FitsSigned w64 (c.number-old.result +ℤ n) → ⊥) b (subst (λ (n : ℤ). FitsSigned w64 (n +ℤ to_z w64 (of_z w64 c.args.by)) → ⊥) a c.in-None.ensures) in
    turn_wide cs rows (Incr key name c.args.by) key name _ c.is_sound.ensures (sums_incr cs (rows_by rows) key name c.args.by) c.requires.fit (subst (λ (n : ℤ). FitsSigned w64 (n +ℤ c.args.by) → ⊥) old wide)

pub returns-in-Some : goal.returns-in-Some
returns-in-Some c =
    let cs = c.args.schema.now in
    let rows = c.args.chain.now in
    let key = c.args.key.now in
    let name = c.args.name.now in
    let old : c.number-old.result ≡ number_of cs (row_in cs (rows_by rows) key) name = number_is cs rows key name c.find-found.result c.counter-column.result c.number-old.result c.requires.bucket c.find-found.ensures.value c.counter-column.ensures.stands c.number-old.ensures.none c.number-old.ensures.some in
    let a : to_z w64 (of_z w64 c.number-old.result) ≡ c.number-old.result = omega (arith, ints) in
    let b : to_z w64 (of_z w64 c.args.by) ≡ c.args.by = omega (arith, ints) in
    let sum : c.in-Some.n ≡ number_of cs (row_in cs (rows_by rows) key) name +ℤ c.args.by = c.in-Some.ensures.1 ∙ ap (λ (n : ℤ). n +ℤ to_z w64 (of_z w64 c.args.by)) (a ∙ old) ∙ ap (λ (n : ℤ). number_of cs (row_in cs (rows_by rows) key) name +ℤ n) b in
    let whole : to_z w64 (of_z w64 c.in-Some.n) ≡ c.in-Some.n = omega (arith, ints) in
    let made = c.number_turn.ensures ∙ ap (λ (z : ℤ). number_turn (fits (size_in (slice_get cs c.counter-column.result)) z) c.find-found.result c.counter-column.result z) whole in
    subst (λ (t : Turn). IsTurn cs rows (Incr key name c.args.by) t) (sym made) (turn_sum cs rows (Incr key name c.args.by) key name _ c.in-Some.n c.find-found.result c.counter-column.result (sums_incr cs (rows_by rows) key name c.args.by) (sym sum) c.requires.key c.requires.fit c.counter-column.ensures.stands c.find-found.ensures.value)
