-- Buckets and pool go along with the rows of the definition.
use Rattle.std.proofs.Common.{◌≡◌, ◌≢◌, ℕ, zero, suc, ◌+◌, ◌-◌, ◌<◌, ◌≤◌, Bool, true, false, cond, List, [], ◌∷◌, length, length-set, set, replicate, slice_get, Option, Some, None, MatchOption, refl, ap, sym, ◌∙◌, subst, arith}
use Rattle.std.proofs.lemmas.List.{length-replicate}
use Rattle.std.proofs.lemmas.Bool.Decides.{nat_tests}
use Rattle.std.proofs.Math.Nat.{mod-lt}
use native.Mathlib.Decide.{ℕ_discrete}
use mathlib.Core.Logic.{dite}
use Rattle.std.specs.Prelude.{nat_lt}
use Rattle.std.specs.FinMap as map
use Rattle.std.specs.FinMap.{len-empty}
use Rattle.std.specs.Ordering.{nat_cmp}
use Rattle.std.specs.Cmp.Lexicographic.{slice_cmp}
use Rattle.sw_base.specs.declared.table.Value.{Value}
use Rattle.sw_base.specs.declared.table.Call.{Call}
use Rattle.sw_base.specs.declared.table.Reply.TheVariants as replies
use Rattle.sw_base.specs.declared.table.Call.TheVariants.{Set, Get, Exist, Del, Incr, Decr, Count}
use Rattle.sw_column.specs.declared.column.Column.{Column}
use Rattle.sw_column.specs.Hash.{hash}
use Rattle.sw_column.specs.Fit.{call_fault}
use Rattle.sw_table_laws.specs.Table.{State, Shape, Step, LegalFrom, left_by, bucket, part, used, sum_below, TStep, needs_pool, after}
use Rattle.sw_table_laws.specs.Buckets.{BucketNow, PoolNow, spare_in, bucket_step, asks_pool, pool_left}
use Rattle.sw_table_laws.specs.Laws.{key_of, SpareIs, BucketTells}
use Rattle.sw_table_laws.proofs.Lengths.{no_rows_in, no_len}
use Rattle.sw_table_laws.proofs.Sums.{sum_zero}
use Rattle.sw_table_laws.proofs.StepLaws.{other_buckets}
use Rattle.sw_table_laws.proofs.BucketLaws.{count_follows, pool_follows}
use Rattle.sw_table_laws.proofs.BucketSteps.{bucket_is_enough}
use Rattle.sw_table_laws.proofs.BucketBounds.{Near, near, none_moved, within_spare}
use Rattle.sw_rowlock.specs.declared.calls.Change.TheVariants.{Same, More, Less}
use Rattle.sw_rowlock.specs.declared.calls.Contents.{Contents}
use Rattle.sw_rowlock.specs.History.{Each}
use Rattle.sw_rowlock.specs.Calls as calls
use Rattle.sw_rowlock.specs.Calls.{contents, counted, pool_for, pool_after, bucket_for, rows_after, done, effect}
use Rattle.sw_table_join.specs.declared.table_call.TableCall.{TableCall}
use Rattle.sw_table_join.specs.Calls.{Answer, bucket_at, call_row, call_asks, call_does, empty_bucket, IsFor}
use Rattle.sw_table_join.specs.Histories.{history_from, history, Starts, Mirrors}
use Rattle.sw_table_join.specs.Laws.{IsHistory, HistoriesAreLegal}

-- ---- lists

get_else : {A : Type 0} (rows : List A) (b i : ℕ) (y : A) → i ≢ b → slice_get (set rows b y) i ≡ slice_get rows i
get_else [] b i y n = refl
get_else (x ∷ xs) zero zero y n = absurd (n refl)
get_else (x ∷ xs) zero (suc i) y n = refl
get_else (x ∷ xs) (suc b) zero y n = refl
get_else (x ∷ xs) (suc b) (suc i) y n = get_else xs b i y (λ e. n (ap suc e))

get_here : {A : Type 0} (rows : List A) (b : ℕ) (y : A) → b < length rows → slice_get (set rows b y) b ≡ Some y
get_here [] b y lt = absurd (omega (arith, lt))
get_here (z ∷ xs) zero y lt = refl
get_here (z ∷ xs) (suc b) y lt = get_here xs b y (omega (arith, lt))

pub get_replicate : {A : Type 0} (n b : ℕ) (x : A) → b < n → slice_get (replicate n x) b ≡ Some x
get_replicate zero b x lt = absurd (omega (arith, lt))
get_replicate (suc n) zero x lt = refl
get_replicate (suc n) (suc b) x lt = get_replicate n b x (omega (arith, lt))

-- ---- one call

-- the state after a call that has this row and finds this bucket there
abbrev then_at : TableCall → Contents BucketNow PoolNow → Option ℕ → Option BucketNow → Contents BucketNow PoolNow
then_at q c row b = contents (rows_after row (call_does q b (pool_for (call_asks q b) c.pool) c.count).bucket c.rows) (pool_after (call_asks q b) (call_does q b (pool_for (call_asks q b) c.pool) c.count).pool c.pool)
    (counted (call_does q b (pool_for (call_asks q b) c.pool) c.count).change c.count)

abbrev answer_at : TableCall → Contents BucketNow PoolNow → Option BucketNow → Answer
answer_at q c b = (call_does q b (pool_for (call_asks q b) c.pool) c.count).reply

abbrev call_of : Shape → Call → TableCall
call_of t call = record { columns = t.columns; size = t.size; call = call }

-- what a call keeps, and what it is answered
pub record Goes (t : Shape) (s : State) (call : Call) (c : Contents BucketNow PoolNow) (answer : Answer) : Type 0 where
  pub left : Mirrors t (TStep t s call).state c
  pub told : answer ≡ ((TStep t s call).reply, (TStep t s call).cells)

spare_is : (nd : Bool) (p : PoolNow) (q n : ℕ) → p.spare + n ≡ q → SpareIs nd (q - n) (spare_in (pool_for nd p))
spare_is true p q n e = let same : p.spare ≡ q - n = omega (arith, e) in ap Some same
spare_is false p q n e = refl

-- the pool after the step
spare_then : (nd : Bool) (p : PoolNow) (u n u' n' total : ℕ) → p.spare + u ≡ total → u' + (n - 1) ≡ u + (n' - 1) → (nd ≡ false → n' - 1 ≡ n - 1) → (nd ≡ true → n' - 1 ≤ p.spare + (n - 1))
    → (pool_after nd (pool_left (pool_for nd p) n n') p).spare + u' ≡ total
spare_then true p u n u' n' total e f still within = let w = within refl in omega (arith, e, f, w)
spare_then false p u n u' n' total e f still within = let w = still refl in omega (arith, e, f, w)

-- and its room
room_then : (nd : Bool) (p : PoolNow) (n n' : ℕ) → (pool_after nd (pool_left (pool_for nd p) n n') p).room ≡ p.room
room_then true p n n' = refl
room_then false p n n' = refl

counts_more : (a b : Bool) (n m c z s : ℕ) → nat_lt n m ≡ a → nat_lt m n ≡ b → Near n m → c ≡ s → z + n ≡ s + m → counted (cond a More (cond b Less Same)) c ≡ z
counts_more true b n m c z s la lb d e f = let lt : n < m = grind (arith, nat_tests) in let w = d.more in omega (arith, lt, w, e, f)
counts_more false true n m c z s la lb d e f = let lt : m < n = grind (arith, nat_tests) in let w = d.less in omega (arith, lt, w, e, f)
counts_more false false n m c z s la lb d e f = let ge : m ≤ n = grind (arith, nat_tests) in let le : n ≤ m = grind (arith, nat_tests) in omega (arith, ge, le, e, f)

module _ (t : Shape) (s : State) (call : Call) (key : List ℕ) (c : Contents BucketNow PoolNow) (is : key_of call ≡ Some key) (some : 0 < t.size) (m : Mirrors t s c) where
  abbrev own : State
  own = part t.size s (bucket t.size key)

  abbrev nd : Bool
  nd = asks_pool t.columns own call

  abbrev po : Option ℕ
  po = spare_in (pool_for nd c.pool)

  abbrev here : BucketNow
  here = record { columns = t.columns; rows = own }

  abbrev step : Step
  step = bucket_step t.columns own po call

  asks : nd ≡ needs_pool t s call
  asks = (bucket_is_enough t s call key po is).0

  tells : BucketTells t s call (bucket t.size key) po
  tells = (bucket_is_enough t s call key po is).1 (subst (λ (b : Bool). SpareIs b (t.pool - used t.size s) po) asks (spare_is nd c.pool t.pool (used t.size s) m.spare))

  inside : bucket t.size key < t.size
  inside = mod-lt (hash key) some

  rows_len : map.len step.state ≡ map.len (part t.size (TStep t s call).state (bucket t.size key))
  rows_len = ap map.len tells.rows

  within : (b : Bool) → nd ≡ b → b ≡ true → map.len step.state - 1 ≤ c.pool.spare + (map.len own - 1)
  within b e is_true =
      let asked : nd ≡ true = e ∙ is_true in
      let spare : po ≡ Some c.pool.spare = ap (λ (x : Bool). spare_in (pool_for x c.pool)) asked in
      subst (λ (o : Option ℕ). map.len (bucket_step t.columns own o call).state - 1 ≤ c.pool.spare + (map.len own - 1)) (sym spare) (within_spare t.columns own c.pool.spare call)

  keyed_goes : Goes t s call (then_at (call_of t call) c (Some (bucket t.size key)) (Some here)) (answer_at (call_of t call) c (Some here))
  keyed_goes =
      let b = bucket t.size key in
      let z : State = (TStep t s call).state in
      let after : BucketNow = record here { rows = step.state } in
      let long : length c.rows ≡ t.size = m.long in
      let lt = inside in
      let follows = pool_follows t s call key some is in
      let len = rows_len in
      let counts = count_follows t s call key is in
      record {
        left = record {
          long = length-set c.rows b after ∙ long;
          buckets = λ i near_i. dite (ℕ_discrete i b)
              (λ e. subst (λ (x : ℕ). slice_get (set c.rows b after) x ≡ Some (record { columns = t.columns; rows = part t.size z x })) (sym e)
              (get_here c.rows b after (omega (arith, long, lt)) ∙ ap (λ (r : State). Some (record { columns = t.columns; rows = r })) tells.rows))
              (λ ne. get_else c.rows b i after ne ∙ m.buckets i near_i ∙ ap (λ (r : State). Some (record { columns = t.columns; rows = r })) (sym (other_buckets t s call key i is ne)));
          spare = spare_then nd c.pool (used t.size s) (map.len own) (used t.size z) (map.len step.state) t.pool m.spare (omega (arith, follows, len)) (λ off. none_moved t.columns own po call off) (within nd refl);
          room = room_then nd c.pool (map.len own) (map.len step.state) ∙ m.room;
          count = counts_more (nat_lt (map.len own) (map.len step.state)) (nat_lt (map.len step.state) (map.len own)) (map.len own) (map.len step.state) c.count (map.len z) (map.len s) refl refl (near t.columns own po call) m.count (omega (arith, counts, len));
        };
        told = λ i. (tells.reply i, tells.cells i);
      }

-- a call without a key counts the rows
count_goes : (t : Shape) (s : State) (c : Contents BucketNow PoolNow) → Mirrors t s c → Goes t s Count (then_at (call_of t Count) c None None) (answer_at (call_of t Count) c None)
count_goes t s c m = record { left = record { long = m.long; buckets = m.buckets; spare = m.spare; room = m.room; count = m.count }; told = λ i. (replies.Count (m.count i), []) }

goes_at : (t : Shape) (s : State) (call : Call) (o : Option (List ℕ)) (c : Contents BucketNow PoolNow) → key_of call ≡ o → 0 < t.size → Mirrors t s c
    → Goes t s call (effect call_row call_asks call_does (call_of t call) c) (done call_row call_asks call_does (call_of t call) c).reply
goes_at t s call (Some key) c is some m =
    let row : call_row (call_of t call) ≡ Some (bucket t.size key) = ap (bucket_at t.size) is in
    let found : bucket_for (call_row (call_of t call)) c.rows ≡ Some (here t s call key c is some m) = ap (λ (r : Option ℕ). bucket_for r c.rows) row ∙ m.buckets (bucket t.size key) (mod-lt (hash key) some) in
    let goes = keyed_goes t s call key c is some m in
    let left : then_at (call_of t call) c (call_row (call_of t call)) (bucket_for (call_row (call_of t call)) c.rows) ≡ then_at (call_of t call) c (Some (bucket t.size key)) (Some (here t s call key c is some m)) = (λ i. then_at (call_of t call) c (row i) (found i)) in
    record {
      left = subst (λ (x : Contents BucketNow PoolNow). Mirrors t (TStep t s call).state x) (sym left) goes.left;
      told = ap (λ (b : Option BucketNow). answer_at (call_of t call) c b) found ∙ goes.told;
    }
goes_at t s (Set k pairs) None c is some m = absurd (cc)
goes_at t s (Get k) None c is some m = absurd (cc)
goes_at t s (Exist k) None c is some m = absurd (cc)
goes_at t s (Del k) None c is some m = absurd (cc)
goes_at t s (Incr k name by) None c is some m = absurd (cc)
goes_at t s (Decr k name by) None c is some m = absurd (cc)
goes_at t s Count None c is some m = count_goes t s c m

-- ---- calls of this Table

not_none : (x : BucketNow) → ¬ (None ≡ Some x)
not_none x e = subst (λ (o : Option BucketNow). MatchOption o (Unit {0}) (λ _. ⊥)) e tt

columns_in : Option BucketNow → List Column → List Column
columns_in None d = d
columns_in (Some b) d = b.columns

pub same_call : (t : Shape) (last_call : ℕ) (start : Contents BucketNow PoolNow) (at : ℕ) (q : TableCall) → Starts t last_call start → IsFor start at q → q ≡ call_of t q.call
unfolding columns_in
same_call t last_call start at q st f =
    let rows : replicate q.size (empty_bucket q.columns) ≡ replicate t.size (empty_bucket t.columns) = sym f.of ∙ st.0 in
    let size : q.size ≡ t.size = sym (length-replicate q.size (empty_bucket q.columns)) ∙ ap (λ (l : List BucketNow). length l) rows ∙ length-replicate t.size (empty_bucket t.columns) in
    let first : Some (empty_bucket q.columns) ≡ Some (empty_bucket t.columns) = sym (get_replicate q.size 0 (empty_bucket q.columns) f.some) ∙ ap (λ (l : List BucketNow). slice_get l 0) rows ∙ get_replicate t.size 0 (empty_bucket t.columns) st.3 in
    let columns : q.columns ≡ t.columns = ap (λ (o : Option BucketNow). columns_in o t.columns) first in
    λ i. record { columns = columns i; size = size i; call = q.call }

pub goes : (t : Shape) (s : State) (last_call : ℕ) (start c : Contents BucketNow PoolNow) (at : ℕ) (q : TableCall) → Starts t last_call start → IsFor start at q → Mirrors t s c
    → Goes t s q.call (effect call_row call_asks call_does q c) (done call_row call_asks call_does q c).reply
goes t s last_call start c at q st f m =
    subst (λ (x : TableCall). Goes t s q.call (effect call_row call_asks call_does x c) (done call_row call_asks call_does x c).reply) (sym (same_call t last_call start at q st f))
    (goes_at t s q.call (key_of q.call) c refl st.3 m)

-- ---- histories

record Follows (t : Shape) (s : State) (c : Contents BucketNow PoolNow) (qs : List TableCall) : Type 0 where
  legal : LegalFrom t s (history_from t s qs)
  left : Mirrors t (left_by t s (history_from t s qs)) (calls.left_by call_row call_asks call_does c qs)

follows : (t : Shape) (s : State) (last_call : ℕ) (start c : Contents BucketNow PoolNow) (n : ℕ) (qs : List TableCall) → Starts t last_call start → Each (IsFor start) n qs → Mirrors t s c → Follows t s c qs
unfolding history_from LegalFrom left_by
follows t s last_call start c n [] st each m = record { legal = tt; left = m }
follows t s last_call start c n (q ∷ qs) st each m =
    let g = goes t s last_call start c n q st each.0 m in
    let rest = follows t (TStep t s q.call).state last_call start (effect call_row call_asks call_does q c) (suc n) qs st each.1 g.left in
    let fit : call_fault t.columns q.call ≡ None = ap (λ (x : TableCall). call_fault x.columns q.call) (sym (same_call t last_call start n q st each.0)) ∙ each.0.fit in
    record { legal = (fit, refl, refl, rest.legal); left = rest.left }

same_part : (size b : ℕ) → part size map.empty b ≡ map.empty
same_part size b = no_rows_in size b

pub mirrors_start : (t : Shape) (last_call : ℕ) (start : Contents BucketNow PoolNow) → Starts t last_call start → Mirrors t map.empty start
unfolding sum_below
mirrors_start t last_call start st =
    let none : used t.size map.empty ≡ 0 = sum_zero (λ b. map.len (part t.size map.empty b) - 1) t.size (λ b. ap (λ n. n - 1) (no_len t.size b)) in
    let pool : start.pool.spare ≡ t.pool = ap (λ (p : PoolNow). p.spare) st.1 in
    record {
      long = ap (λ (l : List BucketNow). length l) st.0 ∙ length-replicate t.size (empty_bucket t.columns);
      buckets = λ b lt. ap (λ (l : List BucketNow). slice_get l b) st.0 ∙ get_replicate t.size b (empty_bucket t.columns) lt ∙ ap (λ (r : State). Some (record { columns = t.columns; rows = r })) (sym (same_part t.size b));
      spare = omega (arith, none, pool);
      room = ap (λ (p : PoolNow). p.room) st.1;
      count = st.2 ∙ sym (len-empty (slice_cmp nat_cmp) (List Value));
    }

-- the last call of a history has a place below the end
places : (start : Contents BucketNow PoolNow) (n : ℕ) (qs : List TableCall) → n ≤ start.pool.last_call → Each (IsFor start) n qs → n + length qs ≤ start.pool.last_call
places start n [] le each = omega (arith, le)
places start n (q ∷ qs) le each = let r = each.0.room in let rest = places start (suc n) qs (omega (arith, r)) each.1 in omega (arith, rest)

pub is_history : (t : Shape) (last_call : ℕ) (start : Contents BucketNow PoolNow) (qs : List TableCall) → Starts t last_call start → Each (IsFor start) 0 qs → IsHistory t last_call start qs
is_history t last_call start qs st each =
    let f = follows t map.empty last_call start start 0 qs st each (mirrors_start t last_call start st) in
    let most : start.pool.last_call ≡ last_call = ap (λ (p : PoolNow). p.last_call) st.1 in
    let few = places start 0 qs (omega arith) each in
    record { legal = f.legal; room = omega (arith, few, most); left = f.left }

pub histories_are_legal : HistoriesAreLegal
histories_are_legal t last_call start qs at q st each fits =
    let h = is_history t last_call start qs st each in
    (h, (goes t (after t (history t qs)) last_call start (calls.left_by call_row call_asks call_does start qs) at q st fits h.left).told)
