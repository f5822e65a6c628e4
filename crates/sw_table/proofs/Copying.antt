-- The rows of the buckets, put into a plain Table one after the other.
use Rattle.std.proofs.Common.{◌≡◌, ◌≢◌, ℕ, zero, suc, ◌+◌, ◌-◌, ◌*◌, ◌<◌, ◌≤◌, Bool, true, false, cond, ◌||◌, List, [], ◌∷◌, ◌++◌, length, map, take, get_or, All, Option, Some, None, refl, ap, sym, ◌∙◌, subst, arith, eq-eqb, true≢false}
use Rattle.std.proofs.lemmas.Bool.Decides.{nat_tests}
use Rattle.std.proofs.lemmas.Bool.{eqb-true}
use Rattle.std.specs.Prelude.{nat_eq, nat_lt, slice_get, IsTrue}
use Rattle.std.specs.Ordering.{nat_cmp}
use Rattle.std.specs.Cmp.Lexicographic.{slice_cmp}
use Rattle.std.specs.FinMap as fin
use Rattle.std.specs.FinMap.{len-empty}
use Rattle.std.proofs.lemmas.List.{take_all}
use Rattle.std.proofs.lemmas.List.Elements.{All-head, All-tail}
use Rattle.sw_base.specs.declared.table.Value.{Value}
use Rattle.sw_column.specs.declared.column.Column.{Column}
use Rattle.sw_table_laws.specs.Table.{State, Shape, bucket, part, sum_below, used, has_room}
use Rattle.sw_table_laws.proofs.Maps.{same_state, get_part, get_own, part_inserted, part_beside}
use Rattle.sw_table_laws.proofs.Sums.{sum_change}
use Rattle.sw_table_laws.proofs.Lengths.{no_rows_in}
use Rattle.sw_table_join.specs.Tables.{SharedNow, shape_of}
use Rattle.sw_tmodel.specs.Plain as plains
use Rattle.sw_tmodel.specs.Plain.{PlainTable}
use Rattle.sw_row.specs.Packed.{Packed}
use Rattle.sw_bucket.specs.Rows.{rows_by, row_at, IsBucket}
use Rattle.sw_bucket.proofs.Listed.{get_at, len_first, not_before, rows_more}
use Rattle.sw_table.specs.Closing.{plain_of, IsFilled, IsCopied}

-- ---- room

-- what the other buckets have leaves room for this one
sum_room : (f g : ℕ → ℕ) (b n : ℕ) → b < n → ((c : ℕ) → c < n → f c ≤ g c) → f b ≡ 0 → sum_below f n + g b ≤ sum_below g n
unfolding sum_below
sum_room f g b zero lt le none = absurd (omega (arith, lt))
sum_room f g b (suc n) lt le none = by (nat_eq b n) refl (λ near. sum_room f g b n near (λ c cl. le c (omega (arith, cl))) none)
  where
    sum_less : (k : ℕ) → ((c : ℕ) → c < k → f c ≤ g c) → sum_below f k ≤ sum_below g k
    sum_less zero l = omega arith
    sum_less (suc k) l = let here = l k (omega arith) in let rest = sum_less k (λ c cl. l c (omega (arith, cl))) in omega (arith, here, rest)

    by : (t : Bool) → nat_eq b n ≡ t → (b < n → sum_below f n + g b ≤ sum_below g n) → sum_below f n + f n + g b ≤ sum_below g n + g n
    by true e before =
        let same : b ≡ n = eqb-true b n e in
        let fb : f n ≡ 0 = ap f (sym same) ∙ none in
        let gb : g b ≡ g n = ap g same in
        let rest = sum_less n (λ c cl. le c (omega (arith, cl))) in
        omega (arith, fb, gb, rest)
    by false e before =
        let ne : b ≢ n = λ s. true≢false (sym (eq-eqb b n s) ∙ e) in
        let rest = before (omega (arith, lt, ne)) in
        let here = le n (omega arith) in
        omega (arith, rest, here)

-- ---- one row more of a bucket

own_true : (size b : ℕ) (key : List ℕ) → bucket size key ≡ b → nat_eq (bucket size key) b ≡ true
own_true size b key e = eq-eqb (bucket size key) b e

own_false : (size b c : ℕ) (key : List ℕ) → bucket size key ≡ b → c ≢ b → nat_eq (bucket size key) c ≡ false
own_false size b c key e ne = by (nat_eq (bucket size key) c) refl
  where
    by : (t : Bool) → nat_eq (bucket size key) c ≡ t → nat_eq (bucket size key) c ≡ false
    by true same = absurd (ne (sym (eqb-true (bucket size key) c same) ∙ e))
    by false same = same

pub copy_none : (old : PlainTable) (rows : List Packed) (at : ℕ) → part old.size old.state at ≡ fin.empty → IsCopied old (take 0 rows) at old
copy_none old rows at none = record { like = refl; here = none; others = λ b ne. refl }

-- the key isn't there yet
pub copy_missing : (cs : List Column) (old now : PlainTable) (rows : List Packed) (at i : ℕ) (r : Packed) → IsBucket cs rows → slice_get rows i ≡ Some r → bucket old.size r.key ≡ at → IsCopied old (take i rows) at now → fin.get now.state r.key ≡ None
copy_missing cs old now rows at i r b is own c =
    sym (get_own old.size now.state r.key) ∙ ap (λ n. fin.get (part old.size now.state n) r.key) own ∙ ap (λ (s : State). fin.get s r.key) c.here ∙ not_before cs rows i r b is

-- and it finds room
pub copy_room : (cs : List Column) (old now : PlainTable) (rows : List Packed) (at i : ℕ) (r : Packed) → IsBucket cs rows → slice_get rows i ≡ Some r → i < length rows → at < old.size → bucket old.size r.key ≡ at → part old.size old.state at ≡ fin.empty
    → used old.size old.state + length rows ≤ (plains.shape_of old).pool + 1 → IsCopied old (take i rows) at now → has_room (plains.shape_of now) now.state r.key ≡ true
copy_room cs old now rows at i r b is lt near own none room c =
    let size : now.size ≡ old.size = ap (λ (p : PlainTable). p.size) c.like in
    let shape : plains.shape_of now ≡ plains.shape_of old = ap plains.shape_of c.like in
    let len : fin.len (part old.size now.state at) ≡ i = ap fin.len c.here ∙ len_first cs rows i b (omega (arith, lt)) in
    let zero_len : fin.len (part old.size old.state at) ≡ 0 = ap fin.len none ∙ len-empty (slice_cmp nat_cmp) (List Value) in
    let change : used old.size now.state + (fin.len (part old.size old.state at) - 1) ≡ used old.size old.state + (fin.len (part old.size now.state at) - 1) =
    sum_change (λ c. fin.len (part old.size old.state c) - 1) (λ c. fin.len (part old.size now.state c) - 1) at old.size near (λ k ne. ap (λ (s : State). fin.len s - 1) (sym (c.others k ne))) in
    ap (λ (t : Shape). has_room t now.state r.key) shape
    ∙ ap (λ n. nat_eq (fin.len (part old.size now.state n)) 0 || nat_lt (used old.size now.state) (plains.shape_of old).pool) own
    ∙ by (fin.len (part old.size now.state at)) (used old.size now.state) (plains.shape_of old).pool (λ some. omega (arith, len, zero_len, change, room, lt, some))
  where
    by : (n u p : ℕ) → (0 < n → u < p) → (nat_eq n 0 || nat_lt u p) ≡ true
    by zero u p h = refl
    by (suc n) u p h = let l = h (omega arith) in grind (arith, nat_tests)

pub copy_more : (cs : List Column) (old now new : PlainTable) (rows : List Packed) (at i : ℕ) (r : Packed) (values : List Value) → IsBucket cs rows → slice_get rows i ≡ Some r → bucket old.size r.key ≡ at → values ≡ r.values → IsCopied old (take i rows) at now
    → new ≡ record now { state = fin.insert now.state r.key values } → IsCopied old (take (suc i) rows) at new
copy_more cs old now new rows at i r values b is own vs c e =
    let state : new.state ≡ fin.insert now.state r.key r.values = ap (λ (p : PlainTable). p.state) e ∙ ap (λ (w : List Value). fin.insert now.state r.key w) vs in
    record {
      like = e ∙ ap (λ (p : PlainTable). record p { state = fin.insert now.state r.key values }) c.like ∙ (λ k. record old { state = ap (λ (p : PlainTable). p.state) (sym e) k });
      here = ap (λ (s : State). part old.size s at) state ∙ part_inserted old.size now.state at r.key r.values (own_true old.size at r.key own) ∙ ap (λ (s : State). fin.insert s r.key r.values) c.here ∙ sym (rows_more cs rows i r b is);
      others = λ k ne. ap (λ (s : State). part old.size s k) state ∙ part_beside old.size now.state k r.key r.values (own_false old.size at k r.key own ne) ∙ c.others k ne;
    }

pub copy_all : (old now : PlainTable) (rows : List Packed) (at i : ℕ) → length rows ≤ i → IsCopied old (take i rows) at now → IsCopied old rows at now
copy_all old now rows at i le c = subst (λ (xs : List Packed). IsCopied old xs at now) (take_all i rows le) c

-- ---- one bucket more

-- the rows of a bucket have its keys
pub own_keys : (cs : List Column) (size at : ℕ) (s : State) (rows : List Packed) → IsBucket cs rows → rows_by rows ≡ part size s at → All (λ (r : Packed). bucket size r.key ≡ at) rows
own_keys cs size at s rows b e = λ k d lt. own_at k d lt
  where
    in_part : (t : Bool) (o : Option (List Value)) (v : List Value) → cond t o None ≡ Some v → t ≡ true
    in_part true o v e = refl
    in_part false o v e = absurd (cc)

    own_row : (k : ℕ) → k < length rows → bucket size (row_at rows k).key ≡ at
    own_row k lt = eqb-true (bucket size (row_at rows k).key) at
        (in_part (nat_eq (bucket size (row_at rows k).key) at) (fin.get s (row_at rows k).key) (row_at rows k).values
        (sym (get_part size s at (row_at rows k).key) ∙ ap (λ (m : State). fin.get m (row_at rows k).key) (sym e) ∙ get_at cs rows k b lt))

    same_at : (xs : List Packed) (k : ℕ) (d : Packed) → k < length xs → row_at xs k ≡ get_or xs k d
    same_at [] k d lt = absurd (omega (arith, lt))
    same_at (x ∷ xs) zero d lt = refl
    same_at (x ∷ xs) (suc k) d lt = same_at xs k d (omega arith)

    own_at : (k : ℕ) (d : Packed) → k < length rows → bucket size (get_or rows k d).key ≡ at
    own_at k d lt = subst (λ (r : Packed). bucket size r.key ≡ at) (same_at rows k d lt) (own_row k lt)

pub fill_none : (t : SharedNow) (rows : State) (plain : PlainTable) → plain ≡ plain_of t 0 fin.empty → IsFilled t rows 0 plain
fill_none t rows plain e = record {
  like = e ∙ (λ i. plain_of t 0 (ap (λ (p : PlainTable). p.state) (sym e) i));
  below = λ b lt. absurd (omega (arith, lt));
  above = λ b le. ap (λ (p : PlainTable). part t.size p.state b) e ∙ no_rows_in t.size b;
}

-- a bucket that isn't filled yet leaves room for its rows
pub fill_room : (t : SharedNow) (rows : State) (at n : ℕ) (plain : PlainTable) → IsFilled t rows at plain → at < t.size → used t.size rows ≤ (shape_of t).pool → n ≡ fin.len (part t.size rows at) → used plain.size plain.state + n ≤ (plains.shape_of plain).pool + 1
fill_room t rows at n plain f near most e =
    let size : plain.size ≡ t.size = ap (λ (p : PlainTable). p.size) f.like in
    let pool : (plains.shape_of plain).pool ≡ (shape_of t).pool = ap (λ (p : PlainTable). (plains.shape_of p).pool) f.like in
    let zero_len : fin.len (part t.size plain.state at) - 1 ≡ 0 = ap (λ (s : State). fin.len s - 1) (f.above at (omega arith)) ∙ ap (λ k. k - 1) (len-empty (slice_cmp nat_cmp) (List Value)) in
    let sum = sum_room (λ c. fin.len (part t.size plain.state c) - 1) (λ c. fin.len (part t.size rows c) - 1) at t.size near (λ c cl. less c) zero_len in
    let same : used plain.size plain.state ≡ used t.size plain.state = ap (λ k. used k plain.state) size in
    omega (arith, same, pool, sum, most, e)
  where
    none : (c : ℕ) → at ≤ c → fin.len (part t.size plain.state c) ≡ 0
    none c le = ap fin.len (f.above c le) ∙ len-empty (slice_cmp nat_cmp) (List Value)

    less : (c : ℕ) → fin.len (part t.size plain.state c) - 1 ≤ fin.len (part t.size rows c) - 1
    less c = by (nat_lt c at) refl
      where
        by : (b : Bool) → nat_lt c at ≡ b → fin.len (part t.size plain.state c) - 1 ≤ fin.len (part t.size rows c) - 1
        by true e = let lt : c < at = grind (arith, nat_tests) in let same : fin.len (part t.size plain.state c) ≡ fin.len (part t.size rows c) = ap fin.len (f.below c lt) in omega (arith, same)
        by false e = let le : at ≤ c = grind (arith, nat_tests) in let same = none c le in omega (arith, same)

pub fill_more : (t : SharedNow) (rows : State) (at : ℕ) (chain : List Packed) (plain new : PlainTable) → IsFilled t rows at plain → rows_by chain ≡ part t.size rows at → IsCopied plain chain at new → IsFilled t rows (at + 1) new
fill_more t rows at chain plain new f e c =
    let size : plain.size ≡ t.size = ap (λ (p : PlainTable). p.size) f.like in
    let here : part t.size new.state at ≡ part t.size rows at = ap (λ n. part n new.state at) (sym size) ∙ c.here ∙ e in
    let others : (b : ℕ) → b ≢ at → part t.size new.state b ≡ part t.size plain.state b = λ b ne. ap (λ n. part n new.state b) (sym size) ∙ c.others b ne ∙ ap (λ n. part n plain.state b) size in
    record {
      like = c.like ∙ ap (λ (p : PlainTable). record p { state = new.state }) f.like;
      below = λ b lt. by b lt (nat_eq b at) refl here others;
      above = λ b le. others b (λ same. less_self b at le same) ∙ f.above b (omega (arith, le));
    }
  where
    less_self : (b n : ℕ) → n + 1 ≤ b → b ≡ n → ⊥
    less_self b n le same = absurd (omega (arith, le, same))

    by : (b : ℕ) → b < at + 1 → (x : Bool) → nat_eq b at ≡ x → part t.size new.state at ≡ part t.size rows at → ((k : ℕ) → k ≢ at → part t.size new.state k ≡ part t.size plain.state k) → part t.size new.state b ≡ part t.size rows b
    by b lt true is here others = let same : b ≡ at = eqb-true b at is in ap (part t.size new.state) same ∙ here ∙ ap (part t.size rows) (sym same)
    by b lt false is here others =
        let ne : b ≢ at = λ same. true≢false (sym (eq-eqb b at same) ∙ is) in
        others b ne ∙ f.below b (omega (arith, lt, ne))

pub fill_all : (t : SharedNow) (rows : State) (plain : PlainTable) → 0 < t.size → IsFilled t rows t.size plain → plain.state ≡ rows
fill_all t rows plain some f = same_state plain.state rows (λ q.
    let near : bucket t.size q < t.size = omega arith in
    sym (get_own t.size plain.state q) ∙ ap (λ (s : State). fin.get s q) (f.below (bucket t.size q) near) ∙ get_own t.size rows q)

-- what holds of each row holds of the one at a place
pub all_slice : (P : Packed → Type 0) (rows : List Packed) (i : ℕ) (r : Packed) → All P rows → slice_get rows i ≡ Some r → P r
all_slice P [] i r all e = absurd (cc)
all_slice P (x ∷ rows) zero r all e = let same : x ≡ r = cc in subst P same (All-head P x rows all)
all_slice P (x ∷ rows) (suc i) r all e = all_slice P rows i r (All-tail P x rows all) e
