-- What a call does to its bucket is what its step does to all rows.
use Rattle.std.proofs.Common.{◌≡◌, ℕ, zero, suc, ◌-◌, Bool, true, false, cond, ◌&&◌, ◌||◌, not, List, Option, Some, None, refl, ap, sym, ◌∙◌, subst, arith, eq-eqb}
use Rattle.std.proofs.lemmas.Bool.Decides.{nat_tests}
use Rattle.std.specs.Prelude.{nat_eq, nat_lt, nat_le, ℤ, ◌+ℤ◌, ◌-ℤ◌, unwrap_or, is_some}
use Rattle.std.specs.FinMap as map
use Rattle.sw_base.specs.declared.table.Value.{Value}
use Rattle.sw_base.specs.declared.table.Value.TheVariants as values
use Rattle.sw_base.specs.declared.table.Call.{Call}
use Rattle.sw_base.specs.declared.table.Call.TheVariants.{Set, Get, Exist, Del, Incr, Decr, Count}
use Rattle.sw_base.specs.declared.table.Reply.TheVariants.{Yes, No}
use Rattle.sw_column.specs.Fit.{fits}
use Rattle.sw_column.specs.Values.{blank}
use Rattle.sw_table_laws.specs.Rows.{with_value, with_pairs, number_of, size_of}
use Rattle.sw_table_laws.specs.Table.{State, Shape, Step, bucket, part, used, may_write, row_of, set_step, get_step, del_step, add_step, add, TStep, write_needs_pool, del_needs_pool, needs_pool}
use Rattle.sw_table_laws.specs.Buckets.{has_spare, may_put, row_in, add_in, bucket_step, write_asks, del_asks, asks_pool}
use Rattle.sw_table_laws.specs.Laws.{key_of, SpareIs, BucketIsEnough}
use Rattle.sw_table_laws.proofs.Maps.{get_own, part_inserted, part_removed}

-- the step of a bucket that has these rows, beside a step of all rows
record Alike (t : Shape) (b : ℕ) (m n : Step) : Type 0 where
  reply : m.reply ≡ n.reply
  cells : m.cells ≡ n.cells
  rows : m.state ≡ part t.size n.state b

own : (size : ℕ) (k : List ℕ) → nat_eq (bucket size k) (bucket size k) ≡ true
own size k = eq-eqb (bucket size k) (bucket size k) refl

abbrev rows_of : Shape → State → List ℕ → State
rows_of t s k = part t.size s (bucket t.size k)

there : (t : Shape) (s : State) (k : List ℕ) → map.contains_key (rows_of t s k) k ≡ map.contains_key s k
there t s k = ap (λ (o : Option (List Value)). is_some o) (get_own t.size s k)

same_row : (t : Shape) (s : State) (k : List ℕ) → row_in t.columns (rows_of t s k) k ≡ row_of t s k
same_row t s k = ap (λ (o : Option (List Value)). unwrap_or o (blank t.columns)) (get_own t.size s k)

write_same : (t : Shape) (s : State) (k : List ℕ) → write_asks (rows_of t s k) k ≡ write_needs_pool t s k
write_same t s k = ap (λ (x : Bool). not x && not (nat_eq (map.len (rows_of t s k)) 0)) (there t s k)

del_same : (t : Shape) (s : State) (k : List ℕ) → del_asks (rows_of t s k) k ≡ del_needs_pool t s k
del_same t s k = ap (λ (x : Bool). x && nat_le 2 (map.len (rows_of t s k))) (there t s k)

number_same : (t : Shape) (s : State) (k name : List ℕ) → number_of t.columns (row_in t.columns (rows_of t s k) k) name ≡ number_of t.columns (row_of t s k) name
number_same t s k name = ap (λ (r : List Value). number_of t.columns r name) (same_row t s k)

asks_same : (t : Shape) (s : State) (call : Call) (k : List ℕ) → key_of call ≡ Some k → asks_pool t.columns (rows_of t s k) call ≡ needs_pool t s call
asks_same t s (Set k' pairs) k is = let e : k ≡ k' = cc in ap (λ x. asks_pool t.columns (rows_of t s x) (Set k' pairs)) e ∙ write_same t s k'
asks_same t s (Get k') k is = refl
asks_same t s (Exist k') k is = refl
asks_same t s (Del k') k is = let e : k ≡ k' = cc in ap (λ x. asks_pool t.columns (rows_of t s x) (Del k')) e ∙ del_same t s k'
asks_same t s (Incr k' name by) k is =
    let e : k ≡ k' = cc in ap (λ x. asks_pool t.columns (rows_of t s x) (Incr k' name by)) e
    ∙ ap (λ n. fits (size_of t.columns name) (n +ℤ by) && write_asks (rows_of t s k') k') (number_same t s k' name)
    ∙ ap (λ x. fits (size_of t.columns name) (number_of t.columns (row_of t s k') name +ℤ by) && x) (write_same t s k')
asks_same t s (Decr k' name by) k is =
    let e : k ≡ k' = cc in ap (λ x. asks_pool t.columns (rows_of t s x) (Decr k' name by)) e
    ∙ ap (λ n. fits (size_of t.columns name) (n -ℤ by) && write_asks (rows_of t s k') k') (number_same t s k' name)
    ∙ ap (λ x. fits (size_of t.columns name) (number_of t.columns (row_of t s k') name -ℤ by) && x) (write_same t s k')
asks_same t s Count k is = absurd (cc)

-- ---- room

left_over : (u p : ℕ) → nat_lt 0 (p - u) ≡ nat_lt u p
left_over u p = grind (arith, nat_tests)

room_same : (o : Option (List Value)) (n : ℕ) (a b : Bool) → ((not (is_some o) && not (nat_eq n 0)) ≡ true → a ≡ b) → (is_some o || (nat_eq n 0 || a)) ≡ (is_some o || (nat_eq n 0 || b))
room_same (Some v) n a b h = refl
room_same None zero a b h = refl
room_same None (suc n) a b h = ap (λ x. nat_eq (suc n) 0 || x) (h (grind (arith, nat_tests)))

put_same : (t : Shape) (s : State) (k : List ℕ) (pool : Option ℕ) → (write_needs_pool t s k ≡ true → pool ≡ Some (t.pool - used t.size s)) → may_put (rows_of t s k) pool k ≡ may_write t s k
put_same t s k pool spare =
    ap (λ (x : Bool). x || (nat_eq (map.len (rows_of t s k)) 0 || has_spare pool)) (there t s k)
    ∙ room_same (map.get s k) (map.len (rows_of t s k)) (has_spare pool) (nat_lt (used t.size s) t.pool) (λ w. ap has_spare (spare w) ∙ left_over (used t.size s) t.pool)

-- ---- the steps

set_alike : (w : Bool) (t : Shape) (s : State) (k : List ℕ) (row : List Value) → Alike t (bucket t.size k) (set_step w (rows_of t s k) k row) (set_step w s k row)
set_alike true t s k row = record { reply = refl; cells = refl; rows = sym (part_inserted t.size s (bucket t.size k) k row (own t.size k)) }
set_alike false t s k row = record { reply = refl; cells = refl; rows = refl }

get_alike : (o : Option (List Value)) (t : Shape) (s : State) (k : List ℕ) → Alike t (bucket t.size k) (get_step (rows_of t s k) o) (get_step s o)
get_alike None t s k = record { reply = refl; cells = refl; rows = refl }
get_alike (Some row) t s k = record { reply = refl; cells = refl; rows = refl }

del_alike : (w : Bool) (t : Shape) (s : State) (k : List ℕ) → Alike t (bucket t.size k) (del_step w (rows_of t s k) k) (del_step w s k)
del_alike true t s k = record { reply = refl; cells = refl; rows = sym (part_removed t.size s (bucket t.size k) k) }
del_alike false t s k = record { reply = refl; cells = refl; rows = refl }

add_alike : (f w : Bool) (t : Shape) (s : State) (k : List ℕ) (row : List Value) (v : ℤ) → Alike t (bucket t.size k) (add_step f w (rows_of t s k) k row v) (add_step f w s k row v)
add_alike false w t s k row v = record { reply = refl; cells = refl; rows = refl }
add_alike true false t s k row v = record { reply = refl; cells = refl; rows = refl }
add_alike true true t s k row v = record { reply = refl; cells = refl; rows = sym (part_inserted t.size s (bucket t.size k) k row (own t.size k)) }

-- a step whose number doesn't fit asks nothing of the pool
add_room : (f a b : Bool) (t : Shape) (s z : State) (k : List ℕ) (row : List Value) (v : ℤ) → (f ≡ true → a ≡ b) → add_step f a z k row v ≡ add_step f b z k row v
add_room false a b t s z k row v e = refl
add_room true a b t s z k row v e = ap (λ (w : Bool). add_step true w z k row v) (e refl)

added : (t : Shape) (s : State) (k name : List ℕ) (pool : Option ℕ) (v : ℤ) → ((fits (size_of t.columns name) v && write_needs_pool t s k) ≡ true → pool ≡ Some (t.pool - used t.size s))
    → Alike t (bucket t.size k) (add_in t.columns (rows_of t s k) pool k name v) (add t s k name v)
added t s k name pool v spare =
    let f = fits (size_of t.columns name) v in
    let row : List Value = with_value t.columns (row_of t s k) name (values.Int v) in
    let same : add_in t.columns (rows_of t s k) pool k name v ≡ add_step f (may_write t s k) (rows_of t s k) k row v =
    ap (λ (r : List Value). add_step f (may_put (rows_of t s k) pool k) (rows_of t s k) k (with_value t.columns r name (values.Int v)) v) (same_row t s k)
    ∙ add_room f (may_put (rows_of t s k) pool k) (may_write t s k) t s (rows_of t s k) k row v
    (λ ft. put_same t s k pool (λ w. spare (ap (λ x. x && write_needs_pool t s k) ft ∙ w))) in
    subst (λ (m : Step). Alike t (bucket t.size k) m (add t s k name v)) (sym same) (add_alike f (may_write t s k) t s k row v)

Tells : (t : Shape) (s : State) (call : Call) (pool : Option ℕ) (k : List ℕ) → Type 0
Tells t s call pool k = SpareIs (needs_pool t s call) (t.pool - used t.size s) pool → Alike t (bucket t.size k) (bucket_step t.columns (rows_of t s k) pool call) (TStep t s call)

asked : (b : Bool) (n : ℕ) (pool : Option ℕ) → SpareIs b n pool → b ≡ true → pool ≡ Some n
asked true n pool is e = is
asked false n pool is e = absurd (cc)

named : (t : Shape) (s : State) (call : Call) (pool : Option ℕ) (k key : List ℕ) → Some k ≡ Some key → Tells t s call pool k → Tells t s call pool key
named t s call pool k key is tells = let same : k ≡ key = cc in subst (Tells t s call pool) same tells

tells_set : (t : Shape) (s : State) (k : List ℕ) (pairs : List (List ℕ × Value)) (pool : Option ℕ) → Tells t s (Set k pairs) pool k
unfolding Tells
tells_set t s k pairs pool spare =
    let same : bucket_step t.columns (rows_of t s k) pool (Set k pairs) ≡ set_step (may_write t s k) (rows_of t s k) k (with_pairs t.columns (row_of t s k) pairs) =
    ap (λ (r : List Value). set_step (may_put (rows_of t s k) pool k) (rows_of t s k) k (with_pairs t.columns r pairs)) (same_row t s k)
    ∙ ap (λ (w : Bool). set_step w (rows_of t s k) k (with_pairs t.columns (row_of t s k) pairs)) (put_same t s k pool (asked (write_needs_pool t s k) (t.pool - used t.size s) pool spare)) in
    subst (λ (m : Step). Alike t (bucket t.size k) m (TStep t s (Set k pairs))) (sym same) (set_alike (may_write t s k) t s k (with_pairs t.columns (row_of t s k) pairs))

tells_get : (t : Shape) (s : State) (k : List ℕ) (pool : Option ℕ) → Tells t s (Get k) pool k
unfolding Tells
tells_get t s k pool spare = subst (λ (o : Option (List Value)). Alike t (bucket t.size k) (get_step (rows_of t s k) o) (TStep t s (Get k))) (sym (get_own t.size s k)) (get_alike (map.get s k) t s k)

tells_exist : (t : Shape) (s : State) (k : List ℕ) (pool : Option ℕ) → Tells t s (Exist k) pool k
unfolding Tells
tells_exist t s k pool spare = record { reply = ap (λ (x : Bool). cond x Yes No) (there t s k); cells = refl; rows = refl }

tells_del : (t : Shape) (s : State) (k : List ℕ) (pool : Option ℕ) → Tells t s (Del k) pool k
unfolding Tells
tells_del t s k pool spare = subst (λ (x : Bool). Alike t (bucket t.size k) (del_step x (rows_of t s k) k) (TStep t s (Del k))) (sym (there t s k)) (del_alike (map.contains_key s k) t s k)

tells_incr : (t : Shape) (s : State) (k name : List ℕ) (by : ℤ) (pool : Option ℕ) → Tells t s (Incr k name by) pool k
unfolding Tells
tells_incr t s k name by pool spare =
    subst (λ (n : ℤ). Alike t (bucket t.size k) (add_in t.columns (rows_of t s k) pool k name (n +ℤ by)) (TStep t s (Incr k name by))) (sym (number_same t s k name))
    (added t s k name pool (number_of t.columns (row_of t s k) name +ℤ by) (asked (needs_pool t s (Incr k name by)) (t.pool - used t.size s) pool spare))

tells_decr : (t : Shape) (s : State) (k name : List ℕ) (by : ℤ) (pool : Option ℕ) → Tells t s (Decr k name by) pool k
unfolding Tells
tells_decr t s k name by pool spare =
    subst (λ (n : ℤ). Alike t (bucket t.size k) (add_in t.columns (rows_of t s k) pool k name (n -ℤ by)) (TStep t s (Decr k name by))) (sym (number_same t s k name))
    (added t s k name pool (number_of t.columns (row_of t s k) name -ℤ by) (asked (needs_pool t s (Decr k name by)) (t.pool - used t.size s) pool spare))

tells : (t : Shape) (s : State) (call : Call) (key : List ℕ) (pool : Option ℕ) → key_of call ≡ Some key → Tells t s call pool key
tells t s (Set k pairs) key pool is = named t s (Set k pairs) pool k key is (tells_set t s k pairs pool)
tells t s (Get k) key pool is = named t s (Get k) pool k key is (tells_get t s k pool)
tells t s (Exist k) key pool is = named t s (Exist k) pool k key is (tells_exist t s k pool)
tells t s (Del k) key pool is = named t s (Del k) pool k key is (tells_del t s k pool)
tells t s (Incr k name by) key pool is = named t s (Incr k name by) pool k key is (tells_incr t s k name by pool)
tells t s (Decr k name by) key pool is = named t s (Decr k name by) pool k key is (tells_decr t s k name by pool)
tells t s Count key pool is = absurd (cc)

pub bucket_is_enough : BucketIsEnough
unfolding Tells
bucket_is_enough t s call key pool is = (
  asks_same t s call key is,
  λ spare. let a = tells t s call key pool is spare in record { reply = a.reply; cells = a.cells; rows = a.rows },
)
