-- The count is the number of rows that are not 0.
use Rattle.std.proofs.Common.{◌≡◌, ◌≤◌, ◌+◌, ℕ, zero, suc, List, [], ◌∷◌, length, length-set, set, slice_get, refl, ap, subst, Option, Some, None, MatchOption, arith}
use Rattle.std.specs.Option.{unwrap_or}
use Rattle.sw_rowlock.specs.declared.calls.Contents.{Contents}
use Rattle.sw_rowlock.specs.Calls.{Counts, CountsRight, counted, contents, rows_after, effect, left_by}
use Rattle.sw_rowlock_uses.specs.Writes.{write_row, write_needs, write_does, change_of, counts_one, occupied, AllZero}

one_or_none : (x : ℕ) → counts_one x ≤ 1
one_or_none zero = omega arith
one_or_none (suc n) = omega arith

occupied_few : (rows : List ℕ) → occupied rows ≤ length rows
occupied_few [] = omega arith
occupied_few (x ∷ xs) = let a = one_or_none x in let b = occupied_few xs in omega (arith, a, b)

absent : (x : ℕ) → ¬ (None ≡ Some x)
absent x e = subst (λ (o : Option ℕ). MatchOption o (Unit {0}) (λ _. ⊥)) e tt

occupied_set : (rows : List ℕ) (b x y : ℕ) → slice_get rows b ≡ Some x → occupied (set rows b y) + counts_one x ≡ occupied rows + counts_one y
occupied_set [] b x y e = absurd (absent x e)
occupied_set (z ∷ xs) zero x y e = let same : counts_one z ≡ counts_one x = ap (λ (o : Option ℕ). counts_one (unwrap_or o z)) e in omega (arith, same)
occupied_set (z ∷ xs) (suc b) x y e = let r = occupied_set xs b x y e in omega (arith, r)

occupied_at : (rows : List ℕ) (b x : ℕ) → slice_get rows b ≡ Some x → counts_one x ≤ occupied rows
occupied_at [] b x e = absurd (absent x e)
occupied_at (z ∷ xs) zero x e = let same : counts_one z ≡ counts_one x = ap (λ (o : Option ℕ). counts_one (unwrap_or o z)) e in omega (arith, same)
occupied_at (z ∷ xs) (suc b) x e = let r = occupied_at xs b x e in omega (arith, r)

record Counted (t : Contents ℕ ℕ) : Type 0 where
  is : occupied t.rows ≡ t.count
  few : length t.rows ≤ 524288

-- the state after a call that found this bucket
abbrev then_of : ℕ × ℕ → Contents ℕ ℕ → Option ℕ → Contents ℕ ℕ
then_of q t o = contents (rows_after (Some q.0) (write_does q o None t.count).bucket t.rows) t.pool (counted (write_does q o None t.count).change t.count)

counted_step : (old new o' o c : ℕ) → o' + counts_one old ≡ o + counts_one new → o ≡ c → counts_one old ≤ o → o' ≡ counted (change_of old new) c
counted_step zero zero o' o c e is some = omega (arith, e, is)
counted_step zero (suc new) o' o c e is some = omega (arith, e, is)
counted_step (suc old) zero o' o c e is some = omega (arith, e, is, some)
counted_step (suc old) (suc new) o' o c e is some = omega (arith, e, is)

keeps : (q : ℕ × ℕ) (t : Contents ℕ ℕ) (o : Option ℕ) → slice_get t.rows q.0 ≡ o → Counted t → Counted (then_of q t o)
keeps q t None e k = record { is = k.is; few = k.few }
keeps q t (Some x) e k = record {
  is = counted_step x q.1 (occupied (set t.rows q.0 q.1)) (occupied t.rows) t.count (occupied_set t.rows q.0 x q.1 e) k.is (occupied_at t.rows q.0 x e);
  few = (let l = length-set t.rows q.0 q.1 in let f = k.few in omega (arith, l, f));
}

all_counted : (t : Contents ℕ ℕ) (qs : List (ℕ × ℕ)) → Counted t → Counted (left_by write_row write_needs write_does t qs)
all_counted t [] k = k
all_counted t (q ∷ qs) k = all_counted (effect write_row write_needs write_does q t) qs (keeps q t (slice_get t.rows q.0) refl k)

change_fits : (old new c : ℕ) → c ≤ 524288 → counts_one old ≤ c → Counts (change_of old new) c
change_fits zero zero c small some = omega (arith, small)
change_fits zero (suc new) c small some = omega (arith, small)
change_fits (suc old) zero c small some = (omega (arith, some), omega (arith, small))
change_fits (suc old) (suc new) c small some = omega (arith, small)

fits : (q : ℕ × ℕ) (t : Contents ℕ ℕ) (o : Option ℕ) → slice_get t.rows q.0 ≡ o → Counted t → Counts (write_does q o None t.count).change t.count
fits q t None e k = let a = occupied_few t.rows in let f = k.few in let i = k.is in omega (arith, a, f, i)
fits q t (Some x) e k =
    let a = occupied_few t.rows in let f = k.few in let i = k.is in let o = occupied_at t.rows q.0 x e in
    change_fits x q.1 t.count (omega (arith, a, f, i)) (omega (arith, o, i))

-- the law of the calls
pub writes_right : (rows : List ℕ) (pool : ℕ) → AllZero rows → CountsRight write_row write_needs write_does rows pool
writes_right rows pool z qs q =
    let k = all_counted (contents rows pool 0) qs record { is = z.zeros; few = z.few } in
    let t = left_by write_row write_needs write_does (contents rows pool 0) qs in
    fits q t (slice_get t.rows q.0) refl k
