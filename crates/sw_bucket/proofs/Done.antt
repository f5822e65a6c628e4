-- What is left in a bucket once a call was done there.
use Rattle.std.proofs.Common.{◌≡◌, ℕ, zero, suc, ◌+◌, ◌-◌, ◌<◌, ◌≤◌, Bool, true, false, cond, ◌&&◌, ◌||◌, not, List, [], ◌∷◌, length, Option, Some, None, refl, ap, sym, ◌∙◌, subst, arith}
use Rattle.std.proofs.lemmas.Bool.Decides.{nat_tests}
use Rattle.std.specs.Prelude.{nat_eq, nat_lt, nat_le, is_some, remove, IfNone, IsTrue}
use Rattle.std.specs.Cmp.Lexicographic.{nat_list_cmp_total}
use Rattle.std.specs.FinMap as fin
use Rattle.std.specs.FinMap.{len-insert, len-remove}
use Rattle.sw_base.specs.declared.table.Value.{Value}
use Rattle.sw_base.specs.declared.table.Call.{Call}
use Rattle.sw_base.specs.declared.table.Reply.{Reply}
use Rattle.sw_base.specs.declared.table.Reply.TheVariants.{Full, Yes}
use Rattle.sw_column.specs.declared.column.Column.{Column}
use Rattle.sw_table_laws.specs.Table.{State, Step, shown_for, shown}
use Rattle.sw_table_laws.specs.Buckets.{PoolNow, has_spare, may_put, write_asks, bucket_step, pool_left}
use Rattle.sw_table_laws.specs.Laws.{key_of}
use Rattle.sw_row.specs.Packed.{Packed}
use Rattle.sw_chain.specs.Rows.{found, without}
use Rattle.sw_bucket.specs.Rows.{rows_by, row_at, IsBucket, IsPlaced, IsWritten}
use Rattle.sw_bucket.specs.Turns.{put_step, Answers, Removes, Puts, IsDone}
use Rattle.sw_bucket.proofs.Listed.{get_found, get_missing, len_rows, without_is, out_rows, out_bucket}

-- ---- what asking for the pool tells

no_rows : (rows : List Packed) → length rows ≡ 0 → rows ≡ []
no_rows [] e = refl
no_rows (r ∷ rows) e = absurd (omega (arith, e))

asked_by : (o : Option (List Value)) (n : ℕ) → (not (is_some o) && not (nat_eq n 0)) ≡ true → (o ≡ None) × (0 < n)
asked_by (Some v) n e = absurd (cc)
asked_by None zero e = absurd (cc)
asked_by None (suc n) e = (refl, omega arith)

some_there : (o : Option (List Value)) (v : List Value) → o ≡ Some v → o ≡ None → ⊥
some_there None v a b = absurd (cc)
some_there (Some w) v a b = absurd (cc)

never : (n : ℕ) → nat_eq (suc n) 0 ≡ false
never n = grind (arith, nat_tests)

not_asked_by : (o : Option (List Value)) (n : ℕ) → (not (is_some o) && not (nat_eq n 0)) ≡ false → o ≡ None → n ≡ 0
not_asked_by (Some v) n e is = absurd (some_there (Some v) v refl is)
not_asked_by None zero e is = refl
not_asked_by None (suc n) e is = let z = never n in absurd (cc)

pub alone_room : (cs : List Column) (rows : List Packed) (key : List ℕ) (at : Option ℕ) → IsBucket cs rows → found rows key ≡ at → write_asks (rows_by rows) key ≡ false → IfNone at (rows ≡ [])
alone_room cs rows key (Some i) b is e = tt
alone_room cs rows key None b is e = no_rows rows (sym (len_rows cs rows b) ∙ not_asked_by (fin.get (rows_by rows) key) (fin.len (rows_by rows)) e (get_missing rows key is))

missing_by : (cs : List Column) (rows : List Packed) (key : List ℕ) (at : Option ℕ) → IsBucket cs rows → found rows key ≡ at → fin.get (rows_by rows) key ≡ None → at ≡ None
missing_by cs rows key None b is e = refl
missing_by cs rows key (Some i) b is e = absurd (some_there (fin.get (rows_by rows) key) (row_at rows i).values (get_found cs rows key i b is) e)

pub asked_room : (cs : List Column) (rows : List Packed) (key : List ℕ) (at : Option ℕ) → IsBucket cs rows → found rows key ≡ at → write_asks (rows_by rows) key ≡ true → (at ≡ None) × (0 < length rows)
asked_room cs rows key at b is e =
    let both = asked_by (fin.get (rows_by rows) key) (fin.len (rows_by rows)) e in
    (missing_by cs rows key at b is both.0, subst (λ n. 0 < n) (len_rows cs rows b) both.1)

-- ---- whether a key may be written

may_some : (o : Option (List Value)) (v : List Value) (rest : Bool) → o ≡ Some v → (is_some o || rest) ≡ true
may_some None v rest e = absurd (cc)
may_some (Some w) v rest e = refl

may_none : (o : Option (List Value)) (n : ℕ) (spare : Bool) → n ≡ 0 → (is_some o || (nat_eq n 0 || spare)) ≡ true
may_none None n spare e = rw e refl
may_none (Some v) n spare e = refl

pub may_alone : (cs : List Column) (rows : List Packed) (key : List ℕ) (at : Option ℕ) (pool : Option ℕ) → IsBucket cs rows → found rows key ≡ at → IfNone at (rows ≡ []) → may_put (rows_by rows) pool key ≡ true
may_alone cs rows key (Some i) pool b is e = may_some (fin.get (rows_by rows) key) (row_at rows i).values (nat_eq (fin.len (rows_by rows)) 0 || has_spare pool) (get_found cs rows key i b is)
may_alone cs rows key None pool b is e = may_none (fin.get (rows_by rows) key) (fin.len (rows_by rows)) (has_spare pool) (len_rows cs rows b ∙ ap length e)

may_asked : (o : Option (List Value)) (n : ℕ) (spare : Bool) → o ≡ None → 0 < n → (is_some o || (nat_eq n 0 || spare)) ≡ spare
may_asked (Some v) n spare e lt = absurd (cc)
may_asked None zero spare e lt = absurd (omega (arith, lt))
may_asked None (suc n) spare e lt = ap (λ (t : Bool). t || spare) (never n)

pub may_behind : (cs : List Column) (rows : List Packed) (key : List ℕ) (spare : ℕ) → IsBucket cs rows → found rows key ≡ None → 0 < length rows → may_put (rows_by rows) (Some spare) key ≡ nat_lt 0 spare
may_behind cs rows key spare b is lt = may_asked (fin.get (rows_by rows) key) (fin.len (rows_by rows)) (nat_lt 0 spare) (get_missing rows key is) (subst (λ n. 0 < n) (sym (len_rows cs rows b)) lt)

-- ---- what was done

pub done_answer : (cs : List Column) (rows : List Packed) (call : Call) (reply : Reply) (cells : List Value) (pool : Option ℕ) → IsBucket cs rows → Answers cs (rows_by rows) call reply cells → IsDone cs rows pool call rows reply
done_answer cs rows call reply cells pool b a = record {
  bucket = b;
  rows = sym (ap (λ (s : Step). s.state) (a.step pool));
  reply = sym (ap (λ (s : Step). s.reply) (a.step pool));
}

-- what stands in a buffer after an answer
pub shown_answer : (cs : List Column) (rows : State) (call : Call) (reply : Reply) (cells row : List Value) (pool : Option ℕ) → Answers cs rows call reply cells → shown (bucket_step cs rows pool call) row ≡ shown_for reply cells row
shown_answer cs rows call reply cells row pool a = ap (λ (s : Step). shown s row) (a.step pool)

put_of : (w : Bool) (rows : State) (key : List ℕ) (reply : Reply) (row : List Value) → w ≡ true → put_step w rows key reply row ≡ record { reply = reply; cells = []; state = fin.insert rows key row }
put_of true rows key reply row e = refl
put_of false rows key reply row e = absurd (cc)

full_of : (w : Bool) (rows : State) (key : List ℕ) (reply : Reply) (row : List Value) → w ≡ false → put_step w rows key reply row ≡ record { reply = Full; cells = []; state = rows }
full_of true rows key reply row e = absurd (cc)
full_of false rows key reply row e = refl

pub put_is : (cs : List Column) (rows : List Packed) (call : Call) (key : List ℕ) (at : Option ℕ) (reply : Reply) (row : List Value) (pool : Option ℕ) → Puts cs rows call key at reply row → may_put (rows_by rows) pool key ≡ true
    → bucket_step cs (rows_by rows) pool call ≡ record { reply = reply; cells = []; state = fin.insert (rows_by rows) key row }
put_is cs rows call key at reply row pool p may = p.step pool ∙ put_of (may_put (rows_by rows) pool key) (rows_by rows) key reply row may

pub full_is : (cs : List Column) (rows : List Packed) (call : Call) (key : List ℕ) (at : Option ℕ) (reply : Reply) (row : List Value) (pool : Option ℕ) → Puts cs rows call key at reply row → may_put (rows_by rows) pool key ≡ false
    → bucket_step cs (rows_by rows) pool call ≡ record { reply = Full; cells = []; state = rows_by rows }
full_is cs rows call key at reply row pool p may = p.step pool ∙ full_of (may_put (rows_by rows) pool key) (rows_by rows) key reply row may

-- a row was written under the call's key
pub done_put : (cs : List Column) (rows mid new : List Packed) (call : Call) (key : List ℕ) (at : Option ℕ) (place : ℕ) (reply : Reply) (row : List Value) (pool : Option ℕ) → Puts cs rows call key at reply row → may_put (rows_by rows) pool key ≡ true
    → IsPlaced cs rows key mid place → IsWritten cs mid place row new → IsDone cs rows pool call new reply
done_put cs rows mid new call key at place reply row pool p may placed written =
    let step = put_is cs rows call key at reply row pool p may in
    record {
      bucket = written.bucket;
      rows = written.rows ∙ ap (λ (r : Packed). fin.insert (rows_by mid) r.key row) placed.row ∙ placed.over row ∙ sym (ap (λ (s : Step). s.state) step);
      reply = sym (ap (λ (s : Step). s.reply) step);
    }

pub done_full : (cs : List Column) (rows new : List Packed) (call : Call) (key : List ℕ) (at : Option ℕ) (reply : Reply) (row : List Value) (pool : Option ℕ) → Puts cs rows call key at reply row → may_put (rows_by rows) pool key ≡ false
    → IsBucket cs rows → new ≡ rows → IsDone cs rows pool call new Full
done_full cs rows new call key at reply row pool p may b same =
    let step = full_is cs rows call key at reply row pool p may in
    record {
      bucket = subst (IsBucket cs) (sym same) b;
      rows = ap rows_by same ∙ sym (ap (λ (s : Step). s.state) step);
      reply = sym (ap (λ (s : Step). s.reply) step);
    }

there : (o : Option ℕ) → is_some o ≡ true → (at : ℕ) × (o ≡ Some at)
there None e = absurd (cc)
there (Some at) e = (at, refl)

same_key : (a b : List ℕ) (o : Option (List ℕ)) → o ≡ Some a → o ≡ Some b → a ≡ b
same_key a b o e d = cc

-- the row of the call's key was taken out
pub done_remove : (cs : List Column) (rows new : List Packed) (call : Call) (key : List ℕ) (pool : Option ℕ) → IsBucket cs rows → Removes cs rows call → key_of call ≡ Some key → new ≡ without rows key → IsDone cs rows pool call new Yes
done_remove cs rows new call key pool b r of made =
    let same : r.key ≡ key = same_key r.key key (key_of call) r.of of in
    let at = there (found rows key) (subst (λ (k : List ℕ). IsTrue (is_some (found rows k))) same r.there) in
    let out : new ≡ remove rows at.0 = made ∙ without_is rows key at.0 at.1 in
    record {
      bucket = subst (IsBucket cs) (sym out) (out_bucket cs rows key at.0 b at.1);
      rows = ap rows_by out ∙ out_rows cs rows key at.0 b at.1 ∙ ap (fin.remove (rows_by rows)) (sym same) ∙ sym (ap (λ (s : Step). s.state) (r.step pool));
      reply = sym (ap (λ (s : Step). s.reply) (r.step pool));
    }

-- ---- how many rows there are then

len_in : (o : Option (List Value)) (n : ℕ) → o ≡ None → cond (is_some o) n (n + 1) ≡ n + 1
len_in None n e = refl
len_in (Some v) n e = absurd (cc)

len_over : (o : Option (List Value)) (v : List Value) (n : ℕ) → o ≡ Some v → cond (is_some o) n (n + 1) ≡ n
len_over None v n e = absurd (cc)
len_over (Some w) v n e = refl

len_out : (o : Option (List Value)) (v : List Value) (n : ℕ) → o ≡ Some v → cond (is_some o) (n - 1) n ≡ n - 1
len_out None v n e = absurd (cc)
len_out (Some w) v n e = refl

pub len_put_new : (cs : List Column) (rows : List Packed) (key : List ℕ) (row : List Value) → IsBucket cs rows → found rows key ≡ None → fin.len (fin.insert (rows_by rows) key row) ≡ length rows + 1
len_put_new cs rows key row b is =
    len-insert nat_list_cmp_total (rows_by rows) key row ∙ len_in (fin.get (rows_by rows) key) (fin.len (rows_by rows)) (get_missing rows key is) ∙ ap (λ n. n + 1) (len_rows cs rows b)

pub len_put_old : (cs : List Column) (rows : List Packed) (key : List ℕ) (at : ℕ) (row : List Value) → IsBucket cs rows → found rows key ≡ Some at → fin.len (fin.insert (rows_by rows) key row) ≡ length rows
len_put_old cs rows key at row b is =
    len-insert nat_list_cmp_total (rows_by rows) key row ∙ len_over (fin.get (rows_by rows) key) (row_at rows at).values (fin.len (rows_by rows)) (get_found cs rows key at b is) ∙ len_rows cs rows b

pub len_removed : (cs : List Column) (rows : List Packed) (call : Call) (pool : Option ℕ) → IsBucket cs rows → Removes cs rows call → fin.len (bucket_step cs (rows_by rows) pool call).state ≡ length rows - 1
len_removed cs rows call pool b r =
    let at = there (found rows r.key) r.there in
    ap (λ (s : Step). fin.len s.state) (r.step pool)
    ∙ len-remove nat_list_cmp_total (rows_by rows) r.key
    ∙ len_out (fin.get (rows_by rows) r.key) (row_at rows at.0).values (fin.len (rows_by rows)) (get_found cs rows r.key at.0 b at.1)
    ∙ ap (λ n. n - 1) (len_rows cs rows b)

-- ---- the pool then

pub pool_by : (p q : PoolNow) (n m spare : ℕ) → q ≡ record p { spare = spare } → spare ≡ p.spare + (n - 1) - (m - 1) → Some q ≡ pool_left (Some p) n m
pool_by p q n m spare is e = ap Some is ∙ ap (λ k. Some (record p { spare = k })) e
