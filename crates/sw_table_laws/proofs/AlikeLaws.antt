use Rattle.std.proofs.Common.{◌≡◌, ℕ, zero, suc, Bool, true, false, cond, ◌&&◌, ◌||◌, not, List, Option, Some, None, refl, ap, sym, ◌∙◌, subst, arith, eq-eqb}
use Rattle.std.proofs.lemmas.Bool.Decides.{nat_tests}
use Rattle.std.specs.Prelude.{nat_eq, nat_lt, ℤ, ◌+ℤ◌, ◌-ℤ◌, unwrap_or, is_some}
use Rattle.std.specs.FinMap as map
use Rattle.sw_base.specs.declared.table.Value.{Value}
use Rattle.sw_base.specs.declared.table.Value.TheVariants as values
use Rattle.sw_base.specs.declared.table.Call.{Call}
use Rattle.sw_base.specs.declared.table.Call.TheVariants.{Set, Get, Exist, Del, Incr, Decr, Count}
use Rattle.sw_base.specs.declared.table.Reply.TheVariants.{Yes, No}
use Rattle.sw_column.specs.Fit.{fits}
use Rattle.sw_column.specs.Values.{blank}
use Rattle.sw_table_laws.specs.Rows.{with_value, with_pairs, number_of, size_of}
use Rattle.sw_table_laws.specs.Table.{State, Shape, Step, bucket, part, used, may_write, row_of, set_step, get_step, del_step, add_step, add, TStep, write_needs_pool, needs_pool}
use Rattle.sw_table_laws.specs.Laws.{key_of, BucketDecides}
use Rattle.sw_table_laws.proofs.Maps.{get_own, part_inserted, part_removed}
use Rattle.sw_table_laws.proofs.BucketLaws.{count_follows}

-- the same rows in a key's bucket
Near : (t : Shape) (s z : State) (k : List ℕ) → Type 0
Near t s z k = part t.size s (bucket t.size k) ≡ part t.size z (bucket t.size k)

-- both pools have room, or neither
PoolAlike : (t : Shape) (s z : State) → Type 0
PoolAlike t s z = nat_lt (used t.size s) t.pool ≡ nat_lt (used t.size z) t.pool

-- two steps answer the same and leave the same rows in a bucket
record Same (t : Shape) (m n : Step) (b : ℕ) : Type 0 where
  reply : m.reply ≡ n.reply
  cells : m.cells ≡ n.cells
  rows : part t.size m.state b ≡ part t.size n.state b

same_get : (t : Shape) (s z : State) (k : List ℕ) → Near t s z k → map.get s k ≡ map.get z k
unfolding Near
same_get t s z k near = sym (get_own t.size s k) ∙ ap (λ (m : State). map.get m k) near ∙ get_own t.size z k

same_room : (o : Option (List Value)) (n : ℕ) (a b : Bool) → ((not (is_some o) && not (nat_eq n 0)) ≡ true → a ≡ b) → (is_some o || (nat_eq n 0 || a)) ≡ (is_some o || (nat_eq n 0 || b))
same_room (Some v) n a b h = refl
same_room None zero a b h = refl
same_room None (suc n) a b h = ap (λ x. nat_eq (suc n) 0 || x) (h (grind (arith, nat_tests)))

same_write : (t : Shape) (s z : State) (k : List ℕ) → Near t s z k → (write_needs_pool t s k ≡ true → PoolAlike t s z) → may_write t s k ≡ may_write t z k
unfolding Near PoolAlike
same_write t s z k near pool =
    same_room (map.get s k) (map.len (part t.size s (bucket t.size k))) (nat_lt (used t.size s) t.pool) (nat_lt (used t.size z) t.pool) pool
    ∙ ap (λ (o : Option (List Value)). is_some o || (nat_eq (map.len (part t.size s (bucket t.size k))) 0 || nat_lt (used t.size z) t.pool)) (same_get t s z k near)
    ∙ ap (λ (m : State). is_some (map.get z k) || (nat_eq (map.len m) 0 || nat_lt (used t.size z) t.pool)) near

same_row : (t : Shape) (s z : State) (k : List ℕ) → Near t s z k → row_of t s k ≡ row_of t z k
same_row t s z k near = ap (λ (o : Option (List Value)). unwrap_or o (blank t.columns)) (same_get t s z k near)

own : (size : ℕ) (k : List ℕ) → nat_eq (bucket size k) (bucket size k) ≡ true
own size k = eq-eqb (bucket size k) (bucket size k) refl

rows_inserted : (t : Shape) (s z : State) (k : List ℕ) (row : List Value) → Near t s z k → Near t (map.insert s k row) (map.insert z k row) k
unfolding Near
rows_inserted t s z k row near =
    part_inserted t.size s (bucket t.size k) k row (own t.size k)
    ∙ ap (λ (m : State). map.insert m k row) near
    ∙ sym (part_inserted t.size z (bucket t.size k) k row (own t.size k))

rows_removed : (t : Shape) (s z : State) (k : List ℕ) → Near t s z k → Near t (map.remove s k) (map.remove z k) k
unfolding Near
rows_removed t s z k near =
    part_removed t.size s (bucket t.size k) k
    ∙ ap (λ (m : State). map.remove m k) near
    ∙ sym (part_removed t.size z (bucket t.size k) k)

same_set : (w : Bool) (t : Shape) (s z : State) (k : List ℕ) (row : List Value) → Near t s z k → Same t (set_step w s k row) (set_step w z k row) (bucket t.size k)
unfolding Near
same_set true t s z k row near = record { reply = refl; cells = refl; rows = rows_inserted t s z k row near }
same_set false t s z k row near = record { reply = refl; cells = refl; rows = near }

same_found : (o : Option (List Value)) (t : Shape) (s z : State) (k : List ℕ) → Near t s z k → Same t (get_step s o) (get_step z o) (bucket t.size k)
unfolding Near
same_found None t s z k near = record { reply = refl; cells = refl; rows = near }
same_found (Some row) t s z k near = record { reply = refl; cells = refl; rows = near }

same_del : (w : Bool) (t : Shape) (s z : State) (k : List ℕ) → Near t s z k → Same t (del_step w s k) (del_step w z k) (bucket t.size k)
unfolding Near
same_del true t s z k near = record { reply = refl; cells = refl; rows = rows_removed t s z k near }
same_del false t s z k near = record { reply = refl; cells = refl; rows = near }

same_added : (w : Bool) (t : Shape) (s z : State) (k : List ℕ) (row : List Value) (v : ℤ) → Near t s z k → Same t (add_step true w s k row v) (add_step true w z k row v) (bucket t.size k)
unfolding Near
same_added true t s z k row v near = record { reply = refl; cells = refl; rows = rows_inserted t s z k row near }
same_added false t s z k row v near = record { reply = refl; cells = refl; rows = near }

same_add : (f a b : Bool) (t : Shape) (s z : State) (k : List ℕ) (row : List Value) (v : ℤ) → (f ≡ true → a ≡ b) → Near t s z k → Same t (add_step f a s k row v) (add_step f b z k row v) (bucket t.size k)
unfolding Near
same_add false a b t s z k row v write near = record { reply = refl; cells = refl; rows = near }
same_add true a b t s z k row v write near = subst (λ (x : Bool). Same t (add_step true a s k row v) (add_step true x z k row v) (bucket t.size k)) (write refl) (same_added a t s z k row v near)

same_add_at : (t : Shape) (s z : State) (k name : List ℕ) (v : ℤ) → Near t s z k → ((fits (size_of t.columns name) v && write_needs_pool t s k) ≡ true → PoolAlike t s z) → Same t (add t s k name v) (add t z k name v) (bucket t.size k)
same_add_at t s z k name v near pool =
    subst (λ (r : List Value). Same t (add t s k name v) (add_step (fits (size_of t.columns name) v) (may_write t z k) z k (with_value t.columns r name (values.Int v)) v) (bucket t.size k)) (same_row t s z k near)
    (same_add (fits (size_of t.columns name) v) (may_write t s k) (may_write t z k) t s z k (with_value t.columns (row_of t s k) name (values.Int v)) v
    (λ f. same_write t s z k near (λ w. pool (ap (λ x. x && write_needs_pool t s k) f ∙ w))) near)

same_set_at : (t : Shape) (s z : State) (k : List ℕ) (pairs : List (List ℕ × Value)) → Near t s z k → (write_needs_pool t s k ≡ true → PoolAlike t s z) → Same t (TStep t s (Set k pairs)) (TStep t z (Set k pairs)) (bucket t.size k)
same_set_at t s z k pairs near pool =
    subst (λ (r : List Value). Same t (TStep t s (Set k pairs)) (set_step (may_write t z k) z k (with_pairs t.columns r pairs)) (bucket t.size k)) (same_row t s z k near)
    (subst (λ (w : Bool). Same t (TStep t s (Set k pairs)) (set_step w z k (with_pairs t.columns (row_of t s k) pairs)) (bucket t.size k)) (same_write t s z k near pool)
    (same_set (may_write t s k) t s z k (with_pairs t.columns (row_of t s k) pairs) near))

same_get_at : (t : Shape) (s z : State) (k : List ℕ) → Near t s z k → Same t (TStep t s (Get k)) (TStep t z (Get k)) (bucket t.size k)
same_get_at t s z k near = subst (λ (o : Option (List Value)). Same t (TStep t s (Get k)) (get_step z o) (bucket t.size k)) (same_get t s z k near) (same_found (map.get s k) t s z k near)

same_exist_at : (t : Shape) (s z : State) (k : List ℕ) → Near t s z k → Same t (TStep t s (Exist k)) (TStep t z (Exist k)) (bucket t.size k)
unfolding Near
same_exist_at t s z k near = record { reply = ap (λ (o : Option (List Value)). cond (is_some o) Yes No) (same_get t s z k near); cells = refl; rows = near }

same_del_at : (t : Shape) (s z : State) (k : List ℕ) → Near t s z k → Same t (TStep t s (Del k)) (TStep t z (Del k)) (bucket t.size k)
same_del_at t s z k near = subst (λ (o : Option (List Value)). Same t (TStep t s (Del k)) (del_step (is_some o) z k) (bucket t.size k)) (same_get t s z k near) (same_del (is_some (map.get s k)) t s z k near)

same_incr_at : (t : Shape) (s z : State) (k name : List ℕ) (by : ℤ) → Near t s z k → (needs_pool t s (Incr k name by) ≡ true → PoolAlike t s z) → Same t (TStep t s (Incr k name by)) (TStep t z (Incr k name by)) (bucket t.size k)
same_incr_at t s z k name by near pool =
    subst (λ (r : List Value). Same t (TStep t s (Incr k name by)) (add t z k name (number_of t.columns r name +ℤ by)) (bucket t.size k)) (same_row t s z k near)
    (same_add_at t s z k name (number_of t.columns (row_of t s k) name +ℤ by) near pool)

same_decr_at : (t : Shape) (s z : State) (k name : List ℕ) (by : ℤ) → Near t s z k → (needs_pool t s (Decr k name by) ≡ true → PoolAlike t s z) → Same t (TStep t s (Decr k name by)) (TStep t z (Decr k name by)) (bucket t.size k)
same_decr_at t s z k name by near pool =
    subst (λ (r : List Value). Same t (TStep t s (Decr k name by)) (add t z k name (number_of t.columns r name -ℤ by)) (bucket t.size k)) (same_row t s z k near)
    (same_add_at t s z k name (number_of t.columns (row_of t s k) name -ℤ by) near pool)

-- the steps at the call's own key, and then at an equal one
Steps : (t : Shape) (s z : State) (call : Call) (k : List ℕ) → Type 0
Steps t s z call k = Near t s z k → (needs_pool t s call ≡ true → PoolAlike t s z) → Same t (TStep t s call) (TStep t z call) (bucket t.size k)

named : (t : Shape) (s z : State) (call : Call) (k key : List ℕ) → Some k ≡ Some key → Steps t s z call k → Steps t s z call key
named t s z call k key is steps = let same : k ≡ key = cc in subst (Steps t s z call) same steps

same_steps : (t : Shape) (s z : State) (call : Call) (key : List ℕ) → key_of call ≡ Some key → Steps t s z call key
unfolding Steps
same_steps t s z (Set k pairs) key is = named t s z (Set k pairs) k key is (same_set_at t s z k pairs)
same_steps t s z (Get k) key is = named t s z (Get k) k key is (λ near pool. same_get_at t s z k near)
same_steps t s z (Exist k) key is = named t s z (Exist k) k key is (λ near pool. same_exist_at t s z k near)
same_steps t s z (Del k) key is = named t s z (Del k) k key is (λ near pool. same_del_at t s z k near)
same_steps t s z (Incr k name by) key is = named t s z (Incr k name by) k key is (same_incr_at t s z k name by)
same_steps t s z (Decr k name by) key is = named t s z (Decr k name by) k key is (same_decr_at t s z k name by)
same_steps t s z Count key is = absurd (cc)

pub bucket_decides : BucketDecides
unfolding Steps Near PoolAlike
bucket_decides t s z call key is like =
    let same = same_steps t s z call key is like.rows like.pool in
    let left = count_follows t s call key is in
    let right = count_follows t z call key is in
    let before : map.len (part t.size s (bucket t.size key)) ≡ map.len (part t.size z (bucket t.size key)) = ap map.len like.rows in
    let behind : map.len (part t.size (TStep t s call).state (bucket t.size key)) ≡ map.len (part t.size (TStep t z call).state (bucket t.size key)) = ap map.len same.rows in
    record { reply = same.reply; cells = same.cells; rows = same.rows; count = omega arith }
