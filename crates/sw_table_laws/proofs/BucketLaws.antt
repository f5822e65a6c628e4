use Rattle.std.proofs.Common.{◌≡◌, ℕ, zero, suc, ◌+◌, ◌-◌, ◌<◌, ◌≤◌, Bool, true, false, cond, ◌&&◌, ◌||◌, not, List, [], ◌∷◌, Option, Some, None, refl, ap, sym, ◌∙◌, subst, arith, eq-eqb}
use Rattle.std.proofs.lemmas.Bool.Decides.{nat_tests}
use Rattle.std.proofs.Math.Nat.{mod-lt}
use Rattle.std.specs.Prelude.{nat_eq, nat_lt, nat_le, ℤ, is_some}
use Rattle.std.specs.Cmp.Lexicographic.{nat_list_cmp_total}
use Rattle.std.specs.FinMap as map
use Rattle.std.specs.FinMap.{len-empty, len-insert, len-remove}
use Rattle.std.specs.Ordering.{nat_cmp}
use Rattle.std.specs.Cmp.Lexicographic.{slice_cmp}
use Rattle.sw_base.specs.declared.table.Value.{Value}
use Rattle.sw_base.specs.declared.table.Call.{Call}
use Rattle.sw_base.specs.declared.table.Call.TheVariants.{Set, Get, Exist, Del, Incr, Decr, Count}
use Rattle.sw_column.specs.Hash.{hash}
use Rattle.sw_table_laws.specs.Table.{State, Shape, Entry, bucket, part, sum_below, used, may_write, set_step, get_step, del_step, add_step, TStep, write_needs_pool, del_needs_pool, needs_pool, left_by, after}
use Rattle.sw_table_laws.specs.Laws.{key_of, CountFollows, PoolFollows, PoolStays, RowsBounded}
use Rattle.sw_table_laws.proofs.Maps.{get_own, part_inserted, part_removed}
use Rattle.sw_table_laws.proofs.Sums.{sum_change, sum_zero, sum_less_one}
use Rattle.sw_table_laws.proofs.StepLaws.{other_buckets}
use Rattle.sw_table_laws.proofs.Lengths.{not_empty, no_len}

-- ---- what a call may leave: the rows as they were, a row under its key where it may be written, or its row taken out

Put : (t : Shape) (s : State) (call : Call) (k : List ℕ) (P : State → Type 0) → Type 0
Put t s call k P = (row : List Value) → may_write t s k ≡ true → needs_pool t s call ≡ write_needs_pool t s k → P (map.insert s k row)

Cut : (t : Shape) (s : State) (call : Call) (k : List ℕ) (P : State → Type 0) → Type 0
Cut t s call k P = needs_pool t s call ≡ del_needs_pool t s k → P (map.remove s k)

left_set : (w : Bool) (t : Shape) (s : State) (call : Call) (k : List ℕ) (row : List Value) (P : State → Type 0) → may_write t s k ≡ w → needs_pool t s call ≡ write_needs_pool t s k → P s → Put t s call k P → P (set_step w s k row).state
unfolding Put
left_set true t s call k row P e n same put = put row e n
left_set false t s call k row P e n same put = same

left_get : (o : Option (List Value)) (s : State) (P : State → Type 0) → P s → P (get_step s o).state
left_get None s P same = same
left_get (Some row) s P same = same

left_del : (w : Bool) (t : Shape) (s : State) (call : Call) (k : List ℕ) (P : State → Type 0) → needs_pool t s call ≡ del_needs_pool t s k → P s → Cut t s call k P → P (del_step w s k).state
unfolding Cut
left_del true t s call k P n same out = out n
left_del false t s call k P n same out = same

left_add : (f w : Bool) (t : Shape) (s : State) (call : Call) (k : List ℕ) (row : List Value) (v : ℤ) (P : State → Type 0) → may_write t s k ≡ w → needs_pool t s call ≡ (f && write_needs_pool t s k) → P s → Put t s call k P
    → P (add_step f w s k row v).state
unfolding Put
left_add false w t s call k row v P e n same put = same
left_add true false t s call k row v P e n same put = same
left_add true true t s call k row v P e n same put = put row e n

left_at : (t : Shape) (s : State) (call : Call) (k : List ℕ) (P : State → Type 0) → key_of call ≡ Some k → P s → Put t s call k P → Cut t s call k P → P (TStep t s call).state
left_at t s (Set k' pairs) k P is same put out = let own : k ≡ k' = cc in subst (λ (x : List ℕ). Put t s (Set k' pairs) x P → P (TStep t s (Set k' pairs)).state) (sym own) (λ p. left_set (may_write t s k') t s (Set k' pairs) k' _ P refl refl same p) put
left_at t s (Get k') k P is same put out = left_get (map.get s k') s P same
left_at t s (Exist k') k P is same put out = same
left_at t s (Del k') k P is same put out = let own : k ≡ k' = cc in subst (λ (x : List ℕ). Cut t s (Del k') x P → P (TStep t s (Del k')).state) (sym own) (λ c. left_del _ t s (Del k') k' P refl same c) out
left_at t s (Incr k' name by) k P is same put out = let own : k ≡ k' = cc in subst (λ (x : List ℕ). Put t s (Incr k' name by) x P → P (TStep t s (Incr k' name by)).state) (sym own) (λ p. left_add _ (may_write t s k') t s (Incr k' name by) k' _ _ P refl refl same p) put
left_at t s (Decr k' name by) k P is same put out = let own : k ≡ k' = cc in subst (λ (x : List ℕ). Put t s (Decr k' name by) x P → P (TStep t s (Decr k' name by)).state) (sym own) (λ p. left_add _ (may_write t s k') t s (Decr k' name by) k' _ _ P refl refl same p) put
left_at t s Count k P is same put out = absurd (cc)

-- ---- the rows of the call's own bucket

rows_in : Shape → State → List ℕ → ℕ
rows_in t s k = map.len (part t.size s (bucket t.size k))

put_in : (t : Shape) (s : State) (k : List ℕ) (row : List Value) → map.len (part t.size (map.insert s k row) (bucket t.size k)) ≡ cond (is_some (map.get s k)) (map.len (part t.size s (bucket t.size k))) (map.len (part t.size s (bucket t.size k)) + 1)
put_in t s k row =
    ap map.len (part_inserted t.size s (bucket t.size k) k row (eq-eqb (bucket t.size k) (bucket t.size k) refl))
    ∙ len-insert nat_list_cmp_total (part t.size s (bucket t.size k)) k row
    ∙ ap (λ (o : Option (List Value)). cond (is_some o) (map.len (part t.size s (bucket t.size k))) (map.len (part t.size s (bucket t.size k)) + 1)) (get_own t.size s k)

cut_in : (t : Shape) (s : State) (k : List ℕ) → map.len (part t.size (map.remove s k) (bucket t.size k)) ≡ cond (is_some (map.get s k)) (map.len (part t.size s (bucket t.size k)) - 1) (map.len (part t.size s (bucket t.size k)))
cut_in t s k =
    ap map.len (part_removed t.size s (bucket t.size k) k)
    ∙ len-remove nat_list_cmp_total (part t.size s (bucket t.size k)) k
    ∙ ap (λ (o : Option (List Value)). cond (is_some o) (map.len (part t.size s (bucket t.size k)) - 1) (map.len (part t.size s (bucket t.size k)))) (get_own t.size s k)

-- ---- the number of rows changes with those of the bucket

more_alike : (o : Option (List Value)) (n m : ℕ) → cond (is_some o) n (n + 1) + m ≡ n + cond (is_some o) m (m + 1)
more_alike (Some v) n m = refl
more_alike None n m = omega arith

less_alike : (o : Option (List Value)) (n m : ℕ) → ((v : List Value) → o ≡ Some v → 0 < n) → ((v : List Value) → o ≡ Some v → 0 < m) → cond (is_some o) (n - 1) n + m ≡ n + cond (is_some o) (m - 1) m
less_alike (Some v) n m a b = let n1 : 0 < n = a v refl in let m1 : 0 < m = b v refl in omega arith
less_alike None n m a b = refl

count_put : (t : Shape) (s : State) (k : List ℕ) (row : List Value) → map.len (map.insert s k row) + map.len (part t.size s (bucket t.size k)) ≡ map.len s + map.len (part t.size (map.insert s k row) (bucket t.size k))
count_put t s k row =
    let all = len-insert nat_list_cmp_total s k row in
    let own = put_in t s k row in
    let alike = more_alike (map.get s k) (map.len s) (map.len (part t.size s (bucket t.size k))) in
    omega arith

count_cut : (t : Shape) (s : State) (k : List ℕ) → map.len (map.remove s k) + map.len (part t.size s (bucket t.size k)) ≡ map.len s + map.len (part t.size (map.remove s k) (bucket t.size k))
count_cut t s k =
    let all = len-remove nat_list_cmp_total s k in
    let own = cut_in t s k in
    let alike = less_alike (map.get s k) (map.len s) (map.len (part t.size s (bucket t.size k))) (λ v is. not_empty s k v (map.len s) refl is)
    (λ v is. not_empty (part t.size s (bucket t.size k)) k v (map.len (part t.size s (bucket t.size k))) refl (get_own t.size s k ∙ is)) in
    omega arith

pub count_follows : CountFollows
unfolding Put Cut
count_follows t s call key is = left_at t s call key (λ (z : State). map.len z + map.len (part t.size s (bucket t.size key)) ≡ map.len s + map.len (part t.size z (bucket t.size key))) is
    refl (λ row may n. count_put t s key row) (λ n. count_cut t s key)

-- ---- the rows of the pool

pub pool_follows : PoolFollows
pool_follows t s call key some is =
    sum_change (λ b. map.len (part t.size s b) - 1) (λ b. map.len (part t.size (TStep t s call).state b) - 1) (bucket t.size key) t.size (mod-lt (hash key) some)
    (λ c ne. ap (λ (m : State). map.len m - 1) (sym (other_buckets t s call key c is ne)))

no_more : (o : Option (List Value)) (n : ℕ) → (not (is_some o) && not (nat_eq n 0)) ≡ false → cond (is_some o) n (n + 1) - 1 ≡ n - 1
no_more (Some v) n e = refl
no_more None zero e = refl
no_more None (suc n) e = absurd (grind (arith, nat_tests))

no_less : (o : Option (List Value)) (n : ℕ) → (is_some o && nat_le 2 n) ≡ false → cond (is_some o) (n - 1) n - 1 ≡ n - 1
no_less (Some v) n e = let few : n ≤ 1 = grind (arith, nat_tests) in omega arith
no_less None n e = refl

rows_stay : (t : Shape) (s : State) (call : Call) (key : List ℕ) → key_of call ≡ Some key → needs_pool t s call ≡ false → map.len (part t.size (TStep t s call).state (bucket t.size key)) - 1 ≡ map.len (part t.size s (bucket t.size key)) - 1
unfolding Put Cut
rows_stay t s call key is off = left_at t s call key (λ (z : State). map.len (part t.size z (bucket t.size key)) - 1 ≡ map.len (part t.size s (bucket t.size key)) - 1) is
    refl
    (λ row may n. ap (λ m. m - 1) (put_in t s key row) ∙ no_more (map.get s key) (map.len (part t.size s (bucket t.size key))) (sym n ∙ off))
    (λ n. ap (λ m. m - 1) (cut_in t s key) ∙ no_less (map.get s key) (map.len (part t.size s (bucket t.size key))) (sym n ∙ off))

pub pool_stays : PoolStays
pool_stays t s call key some is off =
    let all = pool_follows t s call key some is in
    let own = rows_stay t s call key is off in
    omega arith

-- ---- no more rows than buckets and pool

within_put : (o : Option (List Value)) (n u p : ℕ) → (is_some o || (nat_eq n 0 || nat_lt u p)) ≡ true → u ≤ p → u + (cond (is_some o) n (n + 1) - 1) ≤ p + (n - 1)
within_put (Some v) n u p e le = omega arith
within_put None zero u p e le = omega arith
within_put None (suc n) u p e le = let lt : u < p = grind (arith, nat_tests) in omega arith

within_cut : (o : Option (List Value)) (n u p : ℕ) → u ≤ p → u + (cond (is_some o) (n - 1) n - 1) ≤ p + (n - 1)
within_cut (Some v) n u p le = omega arith
within_cut None n u p le = omega arith

within : (t : Shape) (s : State) (call : Call) (key : List ℕ) → key_of call ≡ Some key → used t.size s ≤ t.pool → used t.size s + (map.len (part t.size (TStep t s call).state (bucket t.size key)) - 1) ≤ t.pool + (map.len (part t.size s (bucket t.size key)) - 1)
unfolding Put Cut
within t s call key is le = left_at t s call key (λ (z : State). used t.size s + (map.len (part t.size z (bucket t.size key)) - 1) ≤ t.pool + (map.len (part t.size s (bucket t.size key)) - 1)) is
    (omega arith)
    (λ row may n. subst (λ m. used t.size s + (m - 1) ≤ t.pool + (map.len (part t.size s (bucket t.size key)) - 1)) (sym (put_in t s key row)) (within_put (map.get s key) (map.len (part t.size s (bucket t.size key))) (used t.size s) t.pool may le))
    (λ n. subst (λ m. used t.size s + (m - 1) ≤ t.pool + (map.len (part t.size s (bucket t.size key)) - 1)) (sym (cut_in t s key)) (within_cut (map.get s key) (map.len (part t.size s (bucket t.size key))) (used t.size s) t.pool le))

-- the pool is never overdrawn, and the rows are those of the buckets
record Kept (t : Shape) (s : State) : Type 0 where
  pool : used t.size s ≤ t.pool
  rows : map.len s ≡ sum_below (λ b. map.len (part t.size s b)) t.size

kept_at : (t : Shape) (s : State) (call : Call) (key : List ℕ) → 0 < t.size → key_of call ≡ Some key → Kept t s → Kept t (TStep t s call).state
kept_at t s call key some is k =
    let pool1 = pool_follows t s call key some is in
    let pool2 = within t s call key is k.pool in
    let rows1 = count_follows t s call key is in
    let rows2 = sum_change (λ b. map.len (part t.size s b)) (λ b. map.len (part t.size (TStep t s call).state b)) (bucket t.size key) t.size (mod-lt (hash key) some)
    (λ c ne. ap map.len (sym (other_buckets t s call key c is ne))) in
    let rows3 : map.len s ≡ sum_below (λ b. map.len (part t.size s b)) t.size = k.rows in
    record { pool = omega arith; rows = omega arith }

kept : (t : Shape) (s : State) (call : Call) → 0 < t.size → Kept t s → Kept t (TStep t s call).state
kept t s (Set key pairs) some k = kept_at t s (Set key pairs) key some refl k
kept t s (Get key) some k = kept_at t s (Get key) key some refl k
kept t s (Exist key) some k = kept_at t s (Exist key) key some refl k
kept t s (Del key) some k = kept_at t s (Del key) key some refl k
kept t s (Incr key name by) some k = kept_at t s (Incr key name by) key some refl k
kept t s (Decr key name by) some k = kept_at t s (Decr key name by) key some refl k
kept t s Count some k = k

kept_all : (t : Shape) (s : State) (es : List Entry) → 0 < t.size → Kept t s → Kept t (left_by t s es)
unfolding left_by
kept_all t s [] some k = k
kept_all t s (e ∷ es) some k = kept_all t (TStep t s e.call).state es some (kept t s e.call some k)

kept_none : (t : Shape) → Kept t map.empty
kept_none t = record {
  pool = let none = sum_zero (λ b. map.len (part t.size map.empty b) - 1) t.size (λ b. ap (λ n. n - 1) (no_len t.size b)) in omega arith;
  rows = len-empty (slice_cmp nat_cmp) (List Value) ∙ sym (sum_zero (λ b. map.len (part t.size map.empty b)) t.size (no_len t.size));
}

pub rows_bounded : RowsBounded
rows_bounded t es some =
    let k = kept_all t map.empty es some (kept_none t) in
    let pool : used t.size (after t es) ≤ t.pool = k.pool in
    let rows : map.len (after t es) ≡ sum_below (λ b. map.len (part t.size (after t es) b)) t.size = k.rows in
    let most = sum_less_one (λ b. map.len (part t.size (after t es) b)) t.size in
    (pool, omega arith)
