-- What a call does to the number of rows of its bucket.
use Rattle.std.proofs.Common.{◌≡◌, ℕ, zero, suc, ◌+◌, ◌-◌, ◌<◌, ◌≤◌, Bool, true, false, cond, ◌&&◌, ◌||◌, not, List, [], ◌∷◌, length, Option, Some, None, refl, ap, sym, ◌∙◌, subst, arith}
use Rattle.std.proofs.lemmas.Bool.Decides.{nat_tests}
use Rattle.std.specs.Prelude.{nat_eq, nat_lt, is_some, is_none, IfNone, if◌then◌else◌, ℤ}
use Rattle.std.specs.FinMap as fin
use Rattle.sw_base.specs.declared.table.Value.{Value}
use Rattle.sw_base.specs.declared.table.Call.{Call}
use Rattle.sw_base.specs.declared.table.Reply.{Reply}
use Rattle.sw_column.specs.declared.column.Column.{Column}
use Rattle.sw_table_laws.specs.Table.{Step}
use Rattle.sw_table_laws.specs.Buckets.{has_spare, may_put, write_asks, asks_pool, bucket_step}
use Rattle.sw_rowlock.specs.declared.calls.Change.TheVariants.{Same, More, Less}
use Rattle.sw_table_join.specs.Calls.{change_from}
use Rattle.sw_row.specs.Packed.{Packed}
use Rattle.sw_chain.specs.Rows.{found}
use Rattle.sw_bucket.specs.Rows.{rows_by, IsBucket}
use Rattle.sw_bucket.specs.Turns.{Removes, Puts, Writes, Numbers}
use Rattle.sw_bucket.proofs.Listed.{get_found, get_missing, len_rows, stands_at}
use Rattle.sw_bucket.proofs.Done.{put_is, full_is, len_put_new, len_put_old, len_removed}

more_from : (n m : ℕ) → m ≡ n + 1 → change_from n m ≡ More
more_from n m e = let lt : nat_lt n m ≡ true = grind (arith, nat_tests) in ap (λ (b : Bool). if b then More else if nat_lt m n then Less else Same) lt

same_from : (n m : ℕ) → m ≡ n → change_from n m ≡ Same
same_from n m e =
    let a : nat_lt n m ≡ false = grind (arith, nat_tests) in
    let b : nat_lt m n ≡ false = grind (arith, nat_tests) in
    ap (λ (t : Bool). if t then More else if nat_lt m n then Less else Same) a ∙ ap (λ (t : Bool). if t then Less else Same) b

less_from : (n m : ℕ) → 0 < n → m ≡ n - 1 → change_from n m ≡ Less
less_from n m lt e =
    let a : nat_lt n m ≡ false = grind (arith, nat_tests) in
    let b : nat_lt m n ≡ true = grind (arith, nat_tests) in
    ap (λ (t : Bool). if t then More else if nat_lt m n then Less else Same) a ∙ ap (λ (t : Bool). if t then Less else Same) b

there : (o : Option ℕ) → is_some o ≡ true → (at : ℕ) × (o ≡ Some at)
there None e = absurd (cc)
there (Some at) e = (at, refl)

pub change_remove : (cs : List Column) (rows : List Packed) (call : Call) (pool : Option ℕ) → IsBucket cs rows → Removes cs rows call → Less ≡ change_from (fin.len (rows_by rows)) (fin.len (bucket_step cs (rows_by rows) pool call).state)
change_remove cs rows call pool b r =
    let at = there (found rows r.key) r.there in
    let n : fin.len (rows_by rows) ≡ length rows = len_rows cs rows b in
    let m = len_removed cs rows call pool b r in
    let lt = (stands_at rows r.key at.0 at.1).within in
    sym (less_from (fin.len (rows_by rows)) (fin.len (bucket_step cs (rows_by rows) pool call).state) (omega (arith, n, lt)) (omega (arith, n, m)))

-- whether a key that stands here, or nowhere, may be written
may_by : (cs : List Column) (rows : List Packed) (key : List ℕ) (pool : Option ℕ) → IsBucket cs rows → found rows key ≡ None → may_put (rows_by rows) pool key ≡ (nat_eq (length rows) 0 || has_spare pool)
may_by cs rows key pool b is =
    ap (λ (o : Option (List Value)). is_some o || (nat_eq (fin.len (rows_by rows)) 0 || has_spare pool)) (get_missing rows key is) ∙ ap (λ n. nat_eq n 0 || has_spare pool) (len_rows cs rows b)

may_old : (cs : List Column) (rows : List Packed) (key : List ℕ) (i : ℕ) (pool : Option ℕ) → IsBucket cs rows → found rows key ≡ Some i → may_put (rows_by rows) pool key ≡ true
may_old cs rows key i pool b is = ap (λ (o : Option (List Value)). is_some o || (nat_eq (fin.len (rows_by rows)) 0 || has_spare pool)) (get_found cs rows key i b is)

asks_new : (cs : List Column) (rows : List Packed) (key : List ℕ) → IsBucket cs rows → found rows key ≡ None → write_asks (rows_by rows) key ≡ not (nat_eq (length rows) 0)
asks_new cs rows key b is = ap (λ (o : Option (List Value)). not (is_some o) && not (nat_eq (fin.len (rows_by rows)) 0)) (get_missing rows key is) ∙ ap (λ n. not (nat_eq n 0)) (len_rows cs rows b)

-- a missing key: there is room where the code says so
room_by : (e s spare : Bool) → (not e ≡ true → s ≡ spare) → (e || s) ≡ (spare || e)
room_by true s true h = refl
room_by true s false h = refl
room_by false s true h = h refl
room_by false s false h = h refl

new_by : (w : Bool) (cs : List Column) (rows : List Packed) (call : Call) (key : List ℕ) (at : Option ℕ) (reply : Reply) (row : List Value) (pool : Option ℕ) → IsBucket cs rows → found rows key ≡ None → Puts cs rows call key at reply row → may_put (rows_by rows) pool key ≡ w
    → (if w then More else Same) ≡ change_from (fin.len (rows_by rows)) (fin.len (bucket_step cs (rows_by rows) pool call).state)
new_by true cs rows call key at reply row pool b is p may =
    let n : fin.len (rows_by rows) ≡ length rows = len_rows cs rows b in
    let m : fin.len (bucket_step cs (rows_by rows) pool call).state ≡ length rows + 1 = ap (λ (s : Step). fin.len s.state) (put_is cs rows call key at reply row pool p may) ∙ len_put_new cs rows key row b is in
    sym (more_from (fin.len (rows_by rows)) (fin.len (bucket_step cs (rows_by rows) pool call).state) (omega (arith, n, m)))
new_by false cs rows call key at reply row pool b is p may =
    let m : fin.len (bucket_step cs (rows_by rows) pool call).state ≡ fin.len (rows_by rows) = ap (λ (s : Step). fin.len s.state) (full_is cs rows call key at reply row pool p may) in
    sym (same_from (fin.len (rows_by rows)) (fin.len (bucket_step cs (rows_by rows) pool call).state) m)

change_put : (cs : List Column) (rows : List Packed) (call : Call) (key : List ℕ) (at : Option ℕ) (reply : Reply) (row : List Value) (pool : Option ℕ) (spare : Bool) → IsBucket cs rows → Puts cs rows call key at reply row → (asks_pool cs (rows_by rows) call ≡ true → has_spare pool ≡ spare)
    → (if is_none at && (spare || nat_eq (length rows) 0) then More else Same) ≡ change_from (fin.len (rows_by rows)) (fin.len (bucket_step cs (rows_by rows) pool call).state)
change_put cs rows call key (Some i) reply row pool spare b p h =
    let n : fin.len (rows_by rows) ≡ length rows = len_rows cs rows b in
    let m : fin.len (bucket_step cs (rows_by rows) pool call).state ≡ length rows =
    ap (λ (s : Step). fin.len s.state) (put_is cs rows call key (Some i) reply row pool p (may_old cs rows key i pool b p.at_key)) ∙ len_put_old cs rows key i row b p.at_key in
    sym (same_from (fin.len (rows_by rows)) (fin.len (bucket_step cs (rows_by rows) pool call).state) (m ∙ sym n))
change_put cs rows call key None reply row pool spare b p h =
    let room : (nat_eq (length rows) 0 || has_spare pool) ≡ (spare || nat_eq (length rows) 0) =
    room_by (nat_eq (length rows) 0) (has_spare pool) spare (λ e. h (p.asks ∙ asks_new cs rows key b p.at_key ∙ e)) in
    new_by (spare || nat_eq (length rows) 0) cs rows call key None reply row pool b p.at_key p (may_by cs rows key pool b p.at_key ∙ room)

pub change_write : (cs : List Column) (rows : List Packed) (call : Call) (pool : Option ℕ) (at : Option ℕ) (spare : Bool) → IsBucket cs rows → Writes cs rows call at → (asks_pool cs (rows_by rows) call ≡ true → has_spare pool ≡ spare)
    → (if is_none at && (spare || nat_eq (length rows) 0) then More else Same) ≡ change_from (fin.len (rows_by rows)) (fin.len (bucket_step cs (rows_by rows) pool call).state)
change_write cs rows call pool at spare b w h = change_put cs rows call w.key at _ _ pool spare b w.puts h

pub change_number : (cs : List Column) (rows : List Packed) (call : Call) (pool : Option ℕ) (at : Option ℕ) (column : ℕ) (n : ℤ) (spare : Bool) → IsBucket cs rows → Numbers cs rows call at column n → (asks_pool cs (rows_by rows) call ≡ true → has_spare pool ≡ spare)
    → (if is_none at && (spare || nat_eq (length rows) 0) then More else Same) ≡ change_from (fin.len (rows_by rows)) (fin.len (bucket_step cs (rows_by rows) pool call).state)
change_number cs rows call pool at column n spare b w h = change_put cs rows call w.key at _ _ pool spare b w.puts h
