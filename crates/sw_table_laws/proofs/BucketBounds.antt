-- How many rows a call leaves in its bucket.
use Rattle.std.proofs.Common.{◌≡◌, ℕ, zero, suc, ◌+◌, ◌-◌, ◌<◌, ◌≤◌, Bool, true, false, cond, ◌&&◌, ◌||◌, not, List, Option, Some, None, refl, ap, sym, ◌∙◌, subst, arith}
use Rattle.std.proofs.lemmas.Bool.Decides.{nat_tests}
use Rattle.std.specs.Prelude.{nat_eq, nat_lt, nat_le, ℤ, is_some}
use Rattle.std.specs.Cmp.Lexicographic.{nat_list_cmp_total}
use Rattle.std.specs.FinMap as map
use Rattle.std.specs.FinMap.{len-insert, len-remove}
use Rattle.sw_base.specs.declared.table.Value.{Value}
use Rattle.sw_base.specs.declared.table.Call.{Call}
use Rattle.sw_base.specs.declared.table.Call.TheVariants.{Set, Get, Exist, Del, Incr, Decr, Count}
use Rattle.sw_column.specs.declared.column.Column.{Column}
use Rattle.sw_table_laws.specs.Table.{State, set_step, get_step, del_step, add_step}
use Rattle.sw_table_laws.specs.Buckets.{may_put, bucket_step, write_asks, del_asks, asks_pool}

-- a call leaves the rows, a row more or other under its key, or its key's row taken out
Put : (rows : State) (pool : Option ℕ) (asks : Bool) (k : List ℕ) (P : State → Type 0) → Type 0
Put rows pool asks k P = (row : List Value) → may_put rows pool k ≡ true → asks ≡ write_asks rows k → P (map.insert rows k row)

Cut : (rows : State) (asks : Bool) (k : List ℕ) (P : State → Type 0) → Type 0
Cut rows asks k P = asks ≡ del_asks rows k → P (map.remove rows k)

left_set : (w : Bool) (rows : State) (pool : Option ℕ) (asks : Bool) (k : List ℕ) (row : List Value) (P : State → Type 0) → may_put rows pool k ≡ w → asks ≡ write_asks rows k → P rows → Put rows pool asks k P → P (set_step w rows k row).state
unfolding Put
left_set true rows pool asks k row P e n same put = put row e n
left_set false rows pool asks k row P e n same put = same

left_get : (o : Option (List Value)) (rows : State) (P : State → Type 0) → P rows → P (get_step rows o).state
left_get None rows P same = same
left_get (Some row) rows P same = same

left_del : (w : Bool) (rows : State) (asks : Bool) (k : List ℕ) (P : State → Type 0) → asks ≡ del_asks rows k → P rows → Cut rows asks k P → P (del_step w rows k).state
unfolding Cut
left_del true rows asks k P n same out = out n
left_del false rows asks k P n same out = same

left_add : (f w : Bool) (rows : State) (pool : Option ℕ) (asks : Bool) (k : List ℕ) (row : List Value) (v : ℤ) (P : State → Type 0) → may_put rows pool k ≡ w → asks ≡ (f && write_asks rows k) → P rows → Put rows pool asks k P
    → P (add_step f w rows k row v).state
unfolding Put
left_add false w rows pool asks k row v P e n same put = same
left_add true false rows pool asks k row v P e n same put = same
left_add true true rows pool asks k row v P e n same put = put row e n

left_at : (cs : List Column) (rows : State) (pool : Option ℕ) (call : Call) (P : State → Type 0) → P rows → ((k : List ℕ) → Put rows pool (asks_pool cs rows call) k P) → ((k : List ℕ) → Cut rows (asks_pool cs rows call) k P) → P (bucket_step cs rows pool call).state
left_at cs rows pool (Set k pairs) P same put out = left_set (may_put rows pool k) rows pool _ k _ P refl refl same (put k)
left_at cs rows pool (Get k) P same put out = left_get (map.get rows k) rows P same
left_at cs rows pool (Exist k) P same put out = same
left_at cs rows pool (Del k) P same put out = left_del _ rows _ k P refl same (out k)
left_at cs rows pool (Incr k name by) P same put out = left_add _ (may_put rows pool k) rows pool _ k _ _ P refl refl same (put k)
left_at cs rows pool (Decr k name by) P same put out = left_add _ (may_put rows pool k) rows pool _ k _ _ P refl refl same (put k)
left_at cs rows pool Count P same put out = same

-- at most one row more or less
pub record Near (n m : ℕ) : Type 0 where
  pub more : m ≤ n + 1
  pub less : n ≤ m + 1

near_put : (o : Option (List Value)) (n : ℕ) → Near n (cond (is_some o) n (n + 1))
near_put (Some v) n = record { more = omega arith; less = omega arith }
near_put None n = record { more = omega arith; less = omega arith }

near_cut : (o : Option (List Value)) (n : ℕ) → Near n (cond (is_some o) (n - 1) n)
near_cut (Some v) n = record { more = omega arith; less = omega arith }
near_cut None n = record { more = omega arith; less = omega arith }

pub near : (cs : List Column) (rows : State) (pool : Option ℕ) (call : Call) → Near (map.len rows) (map.len (bucket_step cs rows pool call).state)
unfolding Put Cut
near cs rows pool call = left_at cs rows pool call (λ (z : State). Near (map.len rows) (map.len z))
    (record { more = omega arith; less = omega arith })
    (λ k row may n. subst (Near (map.len rows)) (sym (len-insert nat_list_cmp_total rows k row)) (near_put (map.get rows k) (map.len rows)))
    (λ k n. subst (Near (map.len rows)) (sym (len-remove nat_list_cmp_total rows k)) (near_cut (map.get rows k) (map.len rows)))

-- ---- the rows behind the first

no_more : (o : Option (List Value)) (n : ℕ) → (not (is_some o) && not (nat_eq n 0)) ≡ false → cond (is_some o) n (n + 1) - 1 ≡ n - 1
no_more (Some v) n e = refl
no_more None zero e = refl
no_more None (suc n) e = absurd (grind (arith, nat_tests))

no_less : (o : Option (List Value)) (n : ℕ) → (is_some o && nat_le 2 n) ≡ false → cond (is_some o) (n - 1) n - 1 ≡ n - 1
no_less (Some v) n e = let few : n ≤ 1 = grind (arith, nat_tests) in omega arith
no_less None n e = refl

-- a call that doesn't ask the pool leaves as many rows behind the first
pub none_moved : (cs : List Column) (rows : State) (pool : Option ℕ) (call : Call) → asks_pool cs rows call ≡ false → map.len (bucket_step cs rows pool call).state - 1 ≡ map.len rows - 1
unfolding Put Cut
none_moved cs rows pool call off = left_at cs rows pool call (λ (z : State). map.len z - 1 ≡ map.len rows - 1)
    refl
    (λ k row may n. ap (λ m. m - 1) (len-insert nat_list_cmp_total rows k row) ∙ no_more (map.get rows k) (map.len rows) (sym n ∙ off))
    (λ k n. ap (λ m. m - 1) (len-remove nat_list_cmp_total rows k) ∙ no_less (map.get rows k) (map.len rows) (sym n ∙ off))

within_put : (o : Option (List Value)) (n p : ℕ) → (is_some o || (nat_eq n 0 || nat_lt 0 p)) ≡ true → cond (is_some o) n (n + 1) - 1 ≤ p + (n - 1)
within_put (Some v) n p e = omega arith
within_put None zero p e = omega arith
within_put None (suc n) p e = let lt : 0 < p = grind (arith, nat_tests) in omega arith

within_cut : (o : Option (List Value)) (n p : ℕ) → cond (is_some o) (n - 1) n - 1 ≤ p + (n - 1)
within_cut (Some v) n p = omega arith
within_cut None n p = omega arith

-- no call takes more than the spare rows
pub within_spare : (cs : List Column) (rows : State) (p : ℕ) (call : Call) → map.len (bucket_step cs rows (Some p) call).state - 1 ≤ p + (map.len rows - 1)
unfolding Put Cut
within_spare cs rows p call = left_at cs rows (Some p) call (λ (z : State). map.len z - 1 ≤ p + (map.len rows - 1))
    (omega arith)
    (λ k row may n. subst (λ m. m - 1 ≤ p + (map.len rows - 1)) (sym (len-insert nat_list_cmp_total rows k row)) (within_put (map.get rows k) (map.len rows) p may))
    (λ k n. subst (λ m. m - 1 ≤ p + (map.len rows - 1)) (sym (len-remove nat_list_cmp_total rows k)) (within_cut (map.get rows k) (map.len rows) p))
