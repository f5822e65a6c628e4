-- Each kind of work, done: by what the call came to, the place of its row, and what was written there.
use Rattle.std.proofs.Common.{◌≡◌, ℕ, zero, suc, ◌+◌, ◌-◌, ◌<◌, ◌≤◌, Bool, true, false, List, [], ◌∷◌, length, Option, Some, None, refl, ap, sym, ◌∙◌, subst, arith}
use Rattle.std.proofs.lemmas.Bool.Decides.{nat_tests}
use Rattle.std.specs.Prelude.{nat_lt, nat_le, slice_get, slice_set, option_and_then, IsTrue, IfSome, IfNone, ℤ}
use Rattle.std.specs.FinMap as fin
use Rattle.sw_base.specs.declared.table.Value.{Value}
use Rattle.sw_base.specs.declared.table.Value.TheVariants as values
use Rattle.sw_base.specs.declared.table.Call.{Call}
use Rattle.sw_base.specs.declared.table.Call.TheVariants.{Set}
use Rattle.sw_base.specs.declared.table.Reply.{Reply}
use Rattle.sw_base.specs.declared.table.Reply.TheVariants as replies
use Rattle.sw_base.specs.declared.table.Reply.TheVariants.{Stored, Found}
use Rattle.sw_column.specs.declared.column.Column.{Column}
use Rattle.sw_column.specs.declared.column.Kind.{Kind}
use Rattle.sw_column.specs.declared.column.Kind.TheVariants as kinds
use Rattle.sw_column.specs.Columns.{place, column_of}
use Rattle.sw_column.specs.Fit.{fits, is_key, pairs_fault, counter_fault, counter_kind}
use Rattle.sw_column.specs.Values.{holds}
use Rattle.sw_table_laws.specs.Rows.{size_in, written_at, with_value, with_pairs}
use Rattle.sw_table_laws.specs.Table.{Step, shown, shown_for}
use Rattle.sw_table_laws.specs.Buckets.{PoolNow, row_in, may_put, asks_pool, bucket_step, pool_left}
use Rattle.sw_table_laws.specs.Laws.{key_of}
use Rattle.sw_table_laws.proofs.RowLaws.{place_within}
use Rattle.sw_row.specs.Packed.{Packed}
use Rattle.sw_chain.specs.Rows.{found}
use Rattle.sw_bucket.specs.Rows.{rows_by, row_at, IsBucket, IsPlaced, IsWritten}
use Rattle.sw_bucket.specs.Turns.{Leaves, Shows, Removes, Puts, Writes, Numbers, IsDone}
use Rattle.sw_bucket.proofs.Listed.{len_rows, packed_at}
use Rattle.sw_bucket.proofs.Done.{alone_room, asked_room, may_behind, shown_answer, put_is, full_is, done_put, len_put_new, len_removed, pool_by}

same_key : (a b : List ℕ) (o : Option (List ℕ)) → o ≡ Some a → o ≡ Some b → a ≡ b
same_key a b o e d = cc

-- ---- a row that is shown

place_of : (rows : List Packed) (at : ℕ) (r : Packed) → slice_get rows at ≡ Some r → at < length rows
place_of [] at r e = absurd (cc)
place_of (x ∷ rows) zero r e = omega arith
place_of (x ∷ rows) (suc at) r e = let rest = place_of rows at r e in omega (arith, rest)

pub shows_within : (cs : List Column) (rows : List Packed) (call : Call) (at : ℕ) → Shows cs rows call at → at < length rows
shows_within cs rows call at s = place_of rows at s.row s.is

row_is : (rows : List Packed) (at : ℕ) (r : Packed) → slice_get rows at ≡ Some r → row_at rows at ≡ r
row_is [] at r e = absurd (cc)
row_is (x ∷ rows) zero r e = cc
row_is (x ∷ rows) (suc at) r e = row_is rows at r e

pub shows_packed : (cs : List Column) (rows : List Packed) (at : ℕ) (r : Packed) → IsBucket cs rows → slice_get rows at ≡ Some r → r.columns ≡ cs
shows_packed cs rows at r b e = ap (λ (x : Packed). x.columns) (sym (row_is rows at r e)) ∙ (packed_at cs rows at b.packed (place_of rows at r e)).columns

pub shows_row : (cs : List Column) (rows : List Packed) (call : Call) (at : ℕ) (r : Packed) (row new : List Value) (pool : Option ℕ) → Shows cs rows call at → slice_get rows at ≡ Some r → new ≡ r.values → new ≡ shown (bucket_step cs (rows_by rows) pool call) row
shows_row cs rows call at r row new pool s e made =
    let same : s.row ≡ r = sym (row_is rows at s.row s.is) ∙ row_is rows at r e in
    made ∙ ap (λ (x : Packed). x.values) (sym same) ∙ sym (shown_answer cs (rows_by rows) call Found s.row.values row pool s.answers)

pub leaves_row : (cs : List Column) (rows : List Packed) (call : Call) (reply : Reply) (row : List Value) (pool : Option ℕ) → Leaves cs (rows_by rows) call reply → row ≡ shown (bucket_step cs (rows_by rows) pool call) row
leaves_row cs rows call reply row pool l = sym (shown_answer cs (rows_by rows) call reply [] row pool l.answers ∙ l.quiet row)

-- ---- a row that is taken out

pub removes_row : (cs : List Column) (rows : List Packed) (call : Call) (row : List Value) (pool : Option ℕ) → Removes cs rows call → shown (bucket_step cs (rows_by rows) pool call) row ≡ row
removes_row cs rows call row pool r = ap (λ (s : Step). shown s row) (r.step pool)

pub removes_pool : (cs : List Column) (rows : List Packed) (call : Call) (p q : PoolNow) → IsBucket cs rows → Removes cs rows call → 2 ≤ length rows → q ≡ record p { spare = p.spare + 1 }
    → Some q ≡ pool_left (Some p) (fin.len (rows_by rows)) (fin.len (bucket_step cs (rows_by rows) (Some p.spare) call).state)
removes_pool cs rows call p q b r two e =
    let n : fin.len (rows_by rows) ≡ length rows = len_rows cs rows b in
    let m : fin.len (bucket_step cs (rows_by rows) (Some p.spare) call).state ≡ length rows - 1 = len_removed cs rows call (Some p.spare) b r in
    pool_by p q _ _ (p.spare + 1) e (omega (arith, n, m, two))

nat_le_true : (a b : ℕ) → nat_le a b ≡ true → a ≤ b
nat_le_true a b e = grind (arith, nat_tests)

pub removes_two : (cs : List Column) (rows : List Packed) (call : Call) → Removes cs rows call → asks_pool cs (rows_by rows) call ≡ true → 2 ≤ length rows
removes_two cs rows call r e = nat_le_true 2 (length rows) (sym r.asks ∙ e)

-- ---- pairs that are written

-- the call is a Set of the key, with these pairs
pub record Sets (cs : List Column) (rows : List Packed) (call : Call) (key : List ℕ) (at : Option ℕ) (pairs : List (List ℕ × Value)) : Type 0 where
  pub fit : pairs_fault cs pairs ≡ None
  pub puts : Puts cs rows call key at Stored (with_pairs cs (row_in cs (rows_by rows) key) pairs)

pub sets : (cs : List Column) (rows : List Packed) (call : Call) (key k : List ℕ) (at : Option ℕ) (pairs : List (List ℕ × Value)) → Writes cs rows call at → key_of call ≡ Some key → call ≡ Set k pairs → Sets cs rows call key at pairs
sets cs rows call key k at pairs w of is =
    let keys : w.key ≡ key = same_key w.key key (key_of call) w.puts.of of in
    let same : w.pairs ≡ pairs = pairs_same w.key k w.pairs pairs (sym w.is ∙ is) in
    record {
      fit = subst (λ (ps : List (List ℕ × Value)). pairs_fault cs ps ≡ None) same w.fit;
      puts = subst (λ (x : List ℕ). Puts cs rows call x at Stored (with_pairs cs (row_in cs (rows_by rows) x) pairs)) keys
          (subst (λ (ps : List (List ℕ × Value)). Puts cs rows call w.key at Stored (with_pairs cs (row_in cs (rows_by rows) w.key) ps)) same w.puts);
    }
  where
    pairs_same : (a b : List ℕ) (p q : List (List ℕ × Value)) → Set a p ≡ Set b q → p ≡ q
    pairs_same a b p q e = cc

pub writes_key : (cs : List Column) (rows : List Packed) (call : Call) (key : List ℕ) (at : Option ℕ) → Writes cs rows call at → key_of call ≡ Some key → IsTrue (is_key key) × (found rows key ≡ at)
writes_key cs rows call key at w of =
    let keys : w.key ≡ key = same_key w.key key (key_of call) w.puts.of of in
    (subst (λ (x : List ℕ). IsTrue (is_key x)) keys w.puts.valid, subst (λ (x : List ℕ). found rows x ≡ at) keys w.puts.at_key)

pub writes_alone : (cs : List Column) (rows : List Packed) (call : Call) (at : Option ℕ) → IsBucket cs rows → Writes cs rows call at → asks_pool cs (rows_by rows) call ≡ false → IfNone at (rows ≡ [])
writes_alone cs rows call at b w e = alone_room cs rows w.key at b w.puts.at_key (sym w.puts.asks ∙ e)

pub writes_behind : (cs : List Column) (rows : List Packed) (call : Call) (at : Option ℕ) → IsBucket cs rows → Writes cs rows call at → asks_pool cs (rows_by rows) call ≡ true → (at ≡ None) × (0 < length rows)
writes_behind cs rows call at b w e = asked_room cs rows w.key at b w.puts.at_key (sym w.puts.asks ∙ e)

written_row : (cs : List Column) (rows mid : List Packed) (key : List ℕ) (place : ℕ) → IsPlaced cs rows key mid place → (row_at mid place).values ≡ row_in cs (rows_by rows) key
written_row cs rows mid key place p = ap (λ (r : Packed). r.values) p.row

pub set_done : (cs : List Column) (rows mid new : List Packed) (call : Call) (key : List ℕ) (at : Option ℕ) (place : ℕ) (pairs : List (List ℕ × Value)) (pool : Option ℕ) → Sets cs rows call key at pairs → may_put (rows_by rows) pool key ≡ true
    → IsPlaced cs rows key mid place → IsWritten cs mid place (with_pairs cs (row_at mid place).values pairs) new → IsDone cs rows pool call new Stored
set_done cs rows mid new call key at place pairs pool s may p w =
    done_put cs rows mid new call key at place Stored (with_pairs cs (row_in cs (rows_by rows) key) pairs) pool s.puts may p
    (subst (λ (vs : List Value). IsWritten cs mid place (with_pairs cs vs pairs) new) (written_row cs rows mid key place p) w)

-- what was put shows no row
pub puts_row : (cs : List Column) (rows : List Packed) (call : Call) (key : List ℕ) (at : Option ℕ) (reply : Reply) (row buffer : List Value) (pool : Option ℕ) → ((b : List Value) → shown_for reply [] b ≡ b) → Puts cs rows call key at reply row → may_put (rows_by rows) pool key ≡ true
    → shown (bucket_step cs (rows_by rows) pool call) buffer ≡ buffer
puts_row cs rows call key at reply row buffer pool quiet p may = ap (λ (s : Step). shown s buffer) (put_is cs rows call key at reply row pool p may) ∙ quiet buffer

pub full_row : (cs : List Column) (rows : List Packed) (call : Call) (key : List ℕ) (at : Option ℕ) (reply : Reply) (row buffer : List Value) (pool : Option ℕ) → Puts cs rows call key at reply row → may_put (rows_by rows) pool key ≡ false
    → shown (bucket_step cs (rows_by rows) pool call) buffer ≡ buffer
full_row cs rows call key at reply row buffer pool p may = ap (λ (s : Step). shown s buffer) (full_is cs rows call key at reply row pool p may)

-- ---- numbers that are written

-- the call counts under the key, and comes to n in this column
pub record Counts (cs : List Column) (rows : List Packed) (call : Call) (key : List ℕ) (at : Option ℕ) (column : ℕ) (n : ℤ) : Type 0 where
  pub near : column < length cs
  pub fit : IfSome (slice_get cs column) (λ c. IsTrue (holds c.kind c.size (values.Int n)))
  pub puts : Puts cs rows call key at (replies.Value n) (slice_set (row_in cs (rows_by rows) key) column (values.Int n))

holds_number : (o : Option Column) (n : ℤ) → counter_fault o ≡ None → fits (size_in o) n ≡ true → IfSome o (λ c. IsTrue (holds c.kind c.size (values.Int n)))
holds_number None n e f = tt
holds_number (Some c) n e f = by c.kind e
  where
    by : (k : Kind) → counter_kind k ≡ None → IsTrue (holds k c.size (values.Int n))
    by kinds.Int e = f
    by kinds.Text e = absurd (cc)
    by kinds.Float e = absurd (cc)

pub counts : (cs : List Column) (rows : List Packed) (call : Call) (key : List ℕ) (at : Option ℕ) (column : ℕ) (n : ℤ) → Numbers cs rows call at column n → key_of call ≡ Some key → Counts cs rows call key at column n
counts cs rows call key at column n w of =
    let keys : w.key ≡ key = same_key w.key key (key_of call) w.puts.of of in
    let col : column_of cs w.name ≡ slice_get cs column = ap (λ (o : Option ℕ). option_and_then (slice_get cs) o) w.stands in
    let row : with_value cs (row_in cs (rows_by rows) w.key) w.name (values.Int n) ≡ slice_set (row_in cs (rows_by rows) w.key) column (values.Int n) = ap (λ (o : Option ℕ). written_at cs (row_in cs (rows_by rows) w.key) o (values.Int n)) w.stands in
    record {
      near = place_within cs w.name column w.stands;
      fit = subst (λ (o : Option Column). IfSome o (λ c. IsTrue (holds c.kind c.size (values.Int n)))) col (holds_number (column_of cs w.name) n w.counts w.fit);
      puts = subst (λ (x : List ℕ). Puts cs rows call x at (replies.Value n) (slice_set (row_in cs (rows_by rows) x) column (values.Int n))) keys
          (subst (λ (vs : List Value). Puts cs rows call w.key at (replies.Value n) vs) row w.puts);
    }

pub numbers_alone : (cs : List Column) (rows : List Packed) (call : Call) (at : Option ℕ) (column : ℕ) (n : ℤ) → IsBucket cs rows → Numbers cs rows call at column n → asks_pool cs (rows_by rows) call ≡ false → IfNone at (rows ≡ [])
numbers_alone cs rows call at column n b w e = alone_room cs rows w.key at b w.puts.at_key (sym w.puts.asks ∙ e)

pub numbers_behind : (cs : List Column) (rows : List Packed) (call : Call) (at : Option ℕ) (column : ℕ) (n : ℤ) → IsBucket cs rows → Numbers cs rows call at column n → asks_pool cs (rows_by rows) call ≡ true → (at ≡ None) × (0 < length rows)
numbers_behind cs rows call at column n b w e = asked_room cs rows w.key at b w.puts.at_key (sym w.puts.asks ∙ e)

pub count_done : (cs : List Column) (rows mid new : List Packed) (call : Call) (key : List ℕ) (at : Option ℕ) (place column : ℕ) (n : ℤ) (pool : Option ℕ) → Counts cs rows call key at column n → may_put (rows_by rows) pool key ≡ true
    → IsPlaced cs rows key mid place → IsWritten cs mid place (slice_set (row_at mid place).values column (values.Int n)) new → IsDone cs rows pool call new (replies.Value n)
count_done cs rows mid new call key at place column n pool s may p w =
    done_put cs rows mid new call key at place (replies.Value n) (slice_set (row_in cs (rows_by rows) key) column (values.Int n)) pool s.puts may p
    (subst (λ (vs : List Value). IsWritten cs mid place (slice_set vs column (values.Int n)) new) (written_row cs rows mid key place p) w)

-- ---- the pool, where a row was put behind the first or there was none for it

put_len : (cs : List Column) (rows : List Packed) (call : Call) (key : List ℕ) (at : Option ℕ) (reply : Reply) (row : List Value) (pool : Option ℕ) → IsBucket cs rows → found rows key ≡ None → Puts cs rows call key at reply row → may_put (rows_by rows) pool key ≡ true
    → fin.len (bucket_step cs (rows_by rows) pool call).state ≡ length rows + 1
put_len cs rows call key at reply row pool b is p may = ap (λ (s : Step). fin.len s.state) (put_is cs rows call key at reply row pool p may) ∙ len_put_new cs rows key row b is

lt_true : (n : ℕ) → 0 < n → nat_lt 0 n ≡ true
lt_true zero lt = absurd (omega (arith, lt))
lt_true (suc n) lt = grind (arith, nat_tests)

lt_false : (n : ℕ) → n ≡ 0 → nat_lt 0 n ≡ false
lt_false zero e = refl
lt_false (suc n) e = absurd (omega (arith, e))

pub may_spare : (cs : List Column) (rows : List Packed) (key : List ℕ) (spare : ℕ) → IsBucket cs rows → found rows key ≡ None → 0 < length rows → 0 < spare → may_put (rows_by rows) (Some spare) key ≡ true
may_spare cs rows key spare b is some lt = may_behind cs rows key spare b is some ∙ lt_true spare lt

pub may_not : (cs : List Column) (rows : List Packed) (key : List ℕ) (spare : ℕ) → IsBucket cs rows → found rows key ≡ None → 0 < length rows → spare ≡ 0 → may_put (rows_by rows) (Some spare) key ≡ false
may_not cs rows key spare b is some none = may_behind cs rows key spare b is some ∙ lt_false spare none

pub put_pool : (cs : List Column) (rows : List Packed) (call : Call) (key : List ℕ) (at : Option ℕ) (reply : Reply) (row : List Value) (p q : PoolNow) → IsBucket cs rows → found rows key ≡ None → 0 < length rows → 0 < p.spare → Puts cs rows call key at reply row
    → q ≡ record p { spare = p.spare - 1 } → Some q ≡ pool_left (Some p) (fin.len (rows_by rows)) (fin.len (bucket_step cs (rows_by rows) (Some p.spare) call).state)
put_pool cs rows call key at reply row p q b is some lt w e =
    let n : fin.len (rows_by rows) ≡ length rows = len_rows cs rows b in
    let m = put_len cs rows call key at reply row (Some p.spare) b is w (may_spare cs rows key p.spare b is some lt) in
    pool_by p q _ _ (p.spare - 1) e (omega (arith, n, m, some, lt))

pub full_pool : (cs : List Column) (rows : List Packed) (call : Call) (key : List ℕ) (at : Option ℕ) (reply : Reply) (row : List Value) (p q : PoolNow) → IsBucket cs rows → found rows key ≡ None → 0 < length rows → p.spare ≡ 0 → Puts cs rows call key at reply row
    → q ≡ record p { spare = p.spare - 1 } → Some q ≡ pool_left (Some p) (fin.len (rows_by rows)) (fin.len (bucket_step cs (rows_by rows) (Some p.spare) call).state)
full_pool cs rows call key at reply row p q b is some none w e =
    let n : fin.len (rows_by rows) ≡ length rows = len_rows cs rows b in
    let m : fin.len (bucket_step cs (rows_by rows) (Some p.spare) call).state ≡ fin.len (rows_by rows) = ap (λ (s : Step). fin.len s.state) (full_is cs rows call key at reply row (Some p.spare) w (may_not cs rows key p.spare b is some none)) in
    pool_by p q _ _ (p.spare - 1) e (omega (arith, n, m, some, none))
