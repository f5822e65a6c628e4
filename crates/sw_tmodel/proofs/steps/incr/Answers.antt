use Rattle.std.proofs.Common.{◌≡◌, ap, sym, subst, arith, FitsSigned, to_z, of_z, w64}
use Rattle.std.proofs.lemmas.Int.{ints}
use Rattle.std.specs.Prelude.{◌+ℤ◌}
use Rattle.sw_column.specs.Columns.{IsSchema}
use Rattle.sw_table_laws.specs.Table.{Step}
use Rattle.sw_tmodel.specs.Store.{state_of}
use Rattle.sw_table_laws.proofs.Numbers.{out_of_range}
use Rattle.sw_tmodel.proofs.steps.incr.Goals as goal

pub returns-in-None-clause-reply : goal.returns-in-None-clause-reply
returns-in-None-clause-reply c =
    let a : to_z w64 (of_z w64 c.number-old.result) ≡ c.number-old.result = omega (arith, ints) in
    let b : to_z w64 (of_z w64 c.args.by) ≡ c.args.by = omega (arith, ints) in
    let wide = subst (λ n. FitsSigned w64 (c.number-old.result +ℤ n) → ⊥) b (subst (λ n. FitsSigned w64 (n +ℤ to_z w64 (of_z w64 c.args.by)) → ⊥) a c.in-None.ensures) in
    ap (λ (x : Step). x.reply) (sym (out_of_range c.args.store.now.shape (state_of c.args.store.now.entries) c.args.key.now c.args.name.now _ (subst IsSchema c.schema.ensures c.is_sound.ensures) c.requires.fit
    (subst (λ n. FitsSigned w64 (n +ℤ c.args.by) → ⊥) c.number-old.ensures wide)))

pub returns-in-None-clause-state : goal.returns-in-None-clause-state
returns-in-None-clause-state c =
    let a : to_z w64 (of_z w64 c.number-old.result) ≡ c.number-old.result = omega (arith, ints) in
    let b : to_z w64 (of_z w64 c.args.by) ≡ c.args.by = omega (arith, ints) in
    let wide = subst (λ n. FitsSigned w64 (c.number-old.result +ℤ n) → ⊥) b (subst (λ n. FitsSigned w64 (n +ℤ to_z w64 (of_z w64 c.args.by)) → ⊥) a c.in-None.ensures) in
    ap (λ (x : Step). x.state) (sym (out_of_range c.args.store.now.shape (state_of c.args.store.now.entries) c.args.key.now c.args.name.now _ (subst IsSchema c.schema.ensures c.is_sound.ensures) c.requires.fit
    (subst (λ n. FitsSigned w64 (n +ℤ c.args.by) → ⊥) c.number-old.ensures wide)))
