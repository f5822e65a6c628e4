-- The number of rows stays between 0 and 1,048,576, whatever is called.
use Rattle.std.proofs.Common.{◌≡◌, ℕ, zero, suc, ◌+◌, ◌-◌, ◌<◌, ◌≤◌, Bool, true, false, cond, List, [], ◌∷◌, length, length-set, set, replicate, slice_get, Option, Some, None, MatchOption, refl, ap, sym, ◌∙◌, subst, arith}
use Rattle.std.proofs.lemmas.List.{length-replicate}
use Rattle.std.proofs.lemmas.Bool.Decides.{nat_tests}
use Rattle.std.specs.Option.{unwrap_or}
use Rattle.std.specs.Prelude.{nat_lt}
use Rattle.std.specs.FinMap as map
use Rattle.std.specs.FinMap.{len-empty}
use Rattle.std.specs.Ordering.{nat_cmp}
use Rattle.std.specs.Cmp.Lexicographic.{slice_cmp}
use Rattle.sw_base.specs.declared.table.Value.{Value}
use Rattle.sw_table_laws.specs.Table.{Step}
use Rattle.sw_table_laws.specs.Buckets.{BucketNow, PoolNow, spare_in, bucket_step, asks_pool, pool_left}
use Rattle.sw_table_laws.proofs.BucketBounds.{Near, near, none_moved, within_spare}
use Rattle.sw_rowlock.specs.declared.calls.Change.{Change}
use Rattle.sw_rowlock.specs.declared.calls.Change.TheVariants.{Same, More, Less}
use Rattle.sw_rowlock.specs.declared.calls.Contents.{Contents}
use Rattle.sw_rowlock.specs.Calls.{Counts, contents, counted, pool_for, pool_after, bucket_for, rows_after, effect, left_by}
use Rattle.sw_table_join.specs.declared.table_call.TableCall.{TableCall}
use Rattle.sw_table_join.specs.Calls.{call_row, call_asks, call_does, empty_bucket, IsEmptyTable}
use Rattle.sw_table_join.specs.Laws.{CountsStayRight}

-- f of each bucket, added up
weigh : (BucketNow → ℕ) → List BucketNow → ℕ
weigh f [] = 0
weigh f (x ∷ xs) = f x + weigh f xs

abbrev rows_in : BucketNow → ℕ
rows_in b = map.len b.rows

abbrev behind_in : BucketNow → ℕ
behind_in b = map.len b.rows - 1

absent : (x : BucketNow) → ¬ (None ≡ Some x)
absent x e = subst (λ (o : Option BucketNow). MatchOption o (Unit {0}) (λ _. ⊥)) e tt

weigh_set : (f : BucketNow → ℕ) (rows : List BucketNow) (b : ℕ) (x y : BucketNow) → slice_get rows b ≡ Some x → weigh f (set rows b y) + f x ≡ weigh f rows + f y
unfolding weigh
weigh_set f [] b x y e = absurd (absent x e)
weigh_set f (z ∷ xs) zero x y e = let same : f z ≡ f x = ap (λ (o : Option BucketNow). f (unwrap_or o z)) e in omega (arith, same)
weigh_set f (z ∷ xs) (suc b) x y e = let r = weigh_set f xs b x y e in omega (arith, r)

weigh_one : (f : BucketNow → ℕ) (rows : List BucketNow) (b : ℕ) (x : BucketNow) → slice_get rows b ≡ Some x → f x ≤ weigh f rows
unfolding weigh
weigh_one f [] b x e = absurd (absent x e)
weigh_one f (z ∷ xs) zero x e = let same : f z ≡ f x = ap (λ (o : Option BucketNow). f (unwrap_or o z)) e in omega (arith, same)
weigh_one f (z ∷ xs) (suc b) x e = let r = weigh_one f xs b x e in omega (arith, r)

weigh_less : (rows : List BucketNow) → weigh rows_in rows ≤ weigh behind_in rows + length rows
unfolding weigh
weigh_less [] = omega arith
weigh_less (x ∷ xs) = let r = weigh_less xs in omega (arith, r)

weigh_none : (f : BucketNow → ℕ) (n : ℕ) (x : BucketNow) → f x ≡ 0 → weigh f (replicate n x) ≡ 0
unfolding weigh
weigh_none f zero x e = refl
weigh_none f (suc n) x e = let r = weigh_none f n x e in omega (arith, r, e)

-- rows are counted, and each but the first of its bucket is one of the pool
record Kept (size pool : ℕ) (t : Contents BucketNow PoolNow) : Type 0 where
  long : length t.rows ≡ size
  count : weigh rows_in t.rows ≡ t.count
  spare : weigh behind_in t.rows + t.pool.spare ≡ pool

abbrev then_at : TableCall → Contents BucketNow PoolNow → Option ℕ → Option BucketNow → Contents BucketNow PoolNow
then_at q c row b = contents (rows_after row (call_does q b (pool_for (call_asks q b) c.pool) c.count).bucket c.rows) (pool_after (call_asks q b) (call_does q b (pool_for (call_asks q b) c.pool) c.count).pool c.pool)
    (counted (call_does q b (pool_for (call_asks q b) c.pool) c.count).change c.count)

abbrev change_at : TableCall → Contents BucketNow PoolNow → Option BucketNow → Change
change_at q c b = (call_does q b (pool_for (call_asks q b) c.pool) c.count).change

spare_then : (nd : Bool) (p : PoolNow) (w w' n n' total : ℕ) → w + p.spare ≡ total → w' + (n - 1) ≡ w + (n' - 1) → (nd ≡ false → n' - 1 ≡ n - 1) → (nd ≡ true → n' - 1 ≤ p.spare + (n - 1))
    → w' + (pool_after nd (pool_left (pool_for nd p) n n') p).spare ≡ total
spare_then true p w w' n n' total e f still within = let x = within refl in omega (arith, e, f, x)
spare_then false p w w' n n' total e f still within = let x = still refl in omega (arith, e, f, x)

counted_then : (a b : Bool) (n m c w w' : ℕ) → nat_lt n m ≡ a → nat_lt m n ≡ b → Near n m → w ≡ c → w' + n ≡ w + m → n ≤ w → w' ≡ counted (cond a More (cond b Less Same)) c
counted_then true b n m c w w' la lb d e f le = let lt : n < m = grind (arith, nat_tests) in let x = d.more in omega (arith, lt, x, e, f)
counted_then false true n m c w w' la lb d e f le = let lt : m < n = grind (arith, nat_tests) in let x = d.less in omega (arith, lt, x, e, f, le)
counted_then false false n m c w w' la lb d e f le = let ge : m ≤ n = grind (arith, nat_tests) in let ne : n ≤ m = grind (arith, nat_tests) in omega (arith, ge, ne, e, f)

within : (q : TableCall) (b : BucketNow) (p : PoolNow) (nd : Bool) → asks_pool q.columns b.rows q.call ≡ nd → nd ≡ true → map.len (bucket_step q.columns b.rows (spare_in (pool_for (asks_pool q.columns b.rows q.call) p)) q.call).state - 1 ≤ p.spare + (map.len b.rows - 1)
within q b p nd e is = subst (λ (o : Option ℕ). map.len (bucket_step q.columns b.rows o q.call).state - 1 ≤ p.spare + (map.len b.rows - 1)) (sym (ap (λ (x : Bool). spare_in (pool_for x p)) (e ∙ is))) (within_spare q.columns b.rows p.spare q.call)

keeps : (size pool : ℕ) (q : TableCall) (c : Contents BucketNow PoolNow) (row : Option ℕ) (o : Option BucketNow) → bucket_for row c.rows ≡ o → Kept size pool c → Kept size pool (then_at q c row o)
keeps size pool q c None None e k = record { long = k.long; count = k.count; spare = k.spare }
keeps size pool q c None (Some b) e k = absurd (absent b e)
keeps size pool q c (Some i) None e k = record { long = k.long; count = k.count; spare = k.spare }
keeps size pool q c (Some i) (Some b) e k =
    let nd = asks_pool q.columns b.rows q.call in
    let po = spare_in (pool_for nd c.pool) in
    let step : Step = bucket_step q.columns b.rows po q.call in
    let left : BucketNow = record b { rows = step.state } in
    record {
      long = length-set c.rows i left ∙ k.long;
      count = counted_then (nat_lt (map.len b.rows) (map.len step.state)) (nat_lt (map.len step.state) (map.len b.rows)) (map.len b.rows) (map.len step.state) c.count (weigh rows_in c.rows) (weigh rows_in (set c.rows i left)) refl refl
          (near q.columns b.rows po q.call) k.count (weigh_set rows_in c.rows i b left e) (weigh_one rows_in c.rows i b e);
      spare = spare_then nd c.pool (weigh behind_in c.rows) (weigh behind_in (set c.rows i left)) (map.len b.rows) (map.len step.state) pool k.spare (weigh_set behind_in c.rows i b left e)
          (λ off. none_moved q.columns b.rows po q.call off) (within q b c.pool nd refl);
    }

all_kept : (size pool : ℕ) (c : Contents BucketNow PoolNow) (qs : List TableCall) → Kept size pool c → Kept size pool (left_by call_row call_asks call_does c qs)
all_kept size pool c [] k = k
all_kept size pool c (q ∷ qs) k = all_kept size pool (effect call_row call_asks call_does q c) qs (keeps size pool q c (call_row q) (bucket_for (call_row q) c.rows) refl k)

few_rows : (size pool : ℕ) (c : Contents BucketNow PoolNow) → Kept size pool c → c.count ≤ size + pool
few_rows size pool c k = let w = weigh_less c.rows in let l = k.long in let n = k.count in let s = k.spare in omega (arith, w, l, n, s)

fits_change : (a b : Bool) (n m c : ℕ) → nat_lt n m ≡ a → nat_lt m n ≡ b → n ≤ c → c ≤ 1048576 → counted (cond a More (cond b Less Same)) c ≤ 1048576 → Counts (cond a More (cond b Less Same)) c
fits_change true b n m c la lb le few then = omega (arith, then)
fits_change false true n m c la lb le few then = let lt : m < n = grind (arith, nat_tests) in (omega (arith, lt, le), omega (arith, few))
fits_change false false n m c la lb le few then = omega (arith, few)

fits : (size pool : ℕ) (q : TableCall) (c : Contents BucketNow PoolNow) (row : Option ℕ) (o : Option BucketNow) → bucket_for row c.rows ≡ o → size + pool ≤ 1048576 → Kept size pool c → Counts (change_at q c o) c.count
fits size pool q c row None e few k = let w = few_rows size pool c k in omega (arith, w, few)
fits size pool q c None (Some b) e few k = absurd (absent b e)
fits size pool q c (Some i) (Some b) e few k =
    let po = spare_in (pool_for (asks_pool q.columns b.rows q.call) c.pool) in
    let step : Step = bucket_step q.columns b.rows po q.call in
    let w = few_rows size pool c k in
    let one = weigh_one rows_in c.rows i b e in
    let is = k.count in
    let then = few_rows size pool (then_at q c (Some i) (Some b)) (keeps size pool q c (Some i) (Some b) e k) in
    fits_change (nat_lt (map.len b.rows) (map.len step.state)) (nat_lt (map.len step.state) (map.len b.rows)) (map.len b.rows) (map.len step.state) c.count refl refl (omega (arith, one, is)) (omega (arith, w, few)) (omega (arith, then, few))

starts : (rows : List BucketNow) (pool : PoolNow) (e : IsEmptyTable rows pool) → Kept e.size pool.spare (contents rows pool 0)
unfolding weigh
starts rows pool e =
    let no_row : map.len (empty_bucket e.columns).rows ≡ 0 = len-empty (slice_cmp nat_cmp) (List Value) in
    let all : weigh rows_in rows ≡ 0 = ap (weigh rows_in) e.empty ∙ weigh_none rows_in e.size (empty_bucket e.columns) no_row in
    let behind : weigh behind_in rows ≡ 0 = ap (weigh behind_in) e.empty ∙ weigh_none behind_in e.size (empty_bucket e.columns) (ap (λ n. n - 1) no_row) in
    record { long = ap (λ (l : List BucketNow). length l) e.empty ∙ length-replicate e.size (empty_bucket e.columns); count = all; spare = omega (arith, behind) }

pub counts_stay_right : CountsStayRight
counts_stay_right rows pool e qs q =
    let k = all_kept e.size pool.spare (contents rows pool 0) qs (starts rows pool e) in
    let c = left_by call_row call_asks call_does (contents rows pool 0) qs in
    let few = e.few in let spare = e.spare in
    fits e.size pool.spare q c (call_row q) (bucket_for (call_row q) c.rows) refl (omega (arith, few, spare)) k
