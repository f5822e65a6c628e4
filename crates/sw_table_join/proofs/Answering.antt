-- What the locks tell of a draw, said of the Table: places, replies and refusals.
use Rattle.std.proofs.Common.{◌≡◌, ℕ, zero, suc, ◌+◌, ◌-◌, ◌*◌, ◌<◌, ◌≤◌, true, List, [], ◌∷◌, ◌++◌, length, slice_get, Option, Some, None, MatchOption, ap, sym, ◌∙◌, subst, arith}
use native.Mathlib.Decide.{ℕ_discrete}
use mathlib.Core.Logic.{dite}
use Rattle.std.specs.FinMap as fin
use Rattle.sw_base.specs.declared.table.Value.{Value}
use Rattle.sw_base.specs.declared.table.Reply.{Reply}
use Rattle.sw_base.specs.declared.table.Call.{Call}
use Rattle.sw_column.specs.Fit.{call_fault}
use Rattle.sw_table_laws.specs.Table.{State, Shape, TStep, bucket, part, used, sum_below, shown_for}
use Rattle.sw_table_laws.specs.Buckets.{BucketNow, PoolNow, asks_pool}
use Rattle.sw_table_laws.specs.Laws.{key_of}
use Rattle.sw_table_laws.proofs.BucketLaws.{rows_bounded}
use Rattle.sw_table_laws.proofs.BucketSteps.{bucket_is_enough}
use Rattle.sw_rowlock.specs.declared.calls.Contents.{Contents}
use Rattle.sw_rowlock.specs.History.{calls, others, Begins, Each, draws_of, times_drawn}
use Rattle.sw_rowlock.specs.Calls as locks
use Rattle.sw_rowlock.specs.Seats.{done_on, pool_number, sequence_number}
use Rattle.sw_rowlock.specs.Told.{RowLeft, DrewAt}
use Rattle.sw_rowlock.specs.Faults.{SpentAt, MovedAt}
use Rattle.sw_rowlock.proofs.Histories.{calls_look, each_all}
use Rattle.sw_table_join.specs.declared.table_call.TableCall.{TableCall}
use Rattle.sw_table_join.specs.Calls.{Answer, call_row, call_asks, call_does, IsFor}
use Rattle.sw_table_join.specs.Histories.{history}
use Rattle.sw_table_join.specs.Laws.{IsHistory}
use Rattle.sw_table_join.specs.Following.{AnswersFollow, RefusalsFollow, BucketsFollow, PoolsFollow}
use Rattle.sw_table_join.specs.Tables.{SharedNow, SeatView, IsShared, shape_of, call_on, rows_after}
use Rattle.sw_table_join.specs.Answers.{Answered, PoolTaken, PlaceTaken, NoPlace, FoundTaken}
use Rattle.sw_table_join.proofs.Mirror.{is_history, histories_are_legal}

abbrev pub left : SharedNow → List TableCall → Contents BucketNow PoolNow
left t qs = locks.left_by call_row call_asks call_does t.locks.start qs

-- a call that fits may have each place below the end
pub may_have : (t : SharedNow) (call : Call) (at : ℕ) → IsShared t → call_fault t.columns call ≡ None → at < t.last_call → IsFor t.locks.start at (call_on t call)
may_have t call at is fit lt =
    let most : t.locks.start.pool.last_call ≡ t.last_call = ap (λ (p : PoolNow). p.last_call) is.starts.1 in
    record { of = is.starts.0; some = is.starts.3; schema = is.schema; fit = fit; room = omega (arith, most, lt) }

pub the_history : (t : SharedNow) (qs : List TableCall) → IsShared t → Each (IsFor t.locks.start) 0 qs → IsHistory (shape_of t) t.last_call t.locks.start qs
the_history t qs is each = is_history (shape_of t) t.last_call t.locks.start qs is.starts each

-- ---- a call that has its place

-- a draw for a call that fits, and what was answered by it
pub answered : (t : SharedNow) (call : Call) (old mid new : SeatView) (at rows : ℕ) (row row' : List Value) (reply : Reply) (cells : List Value) → IsShared t → call_fault t.columns call ≡ None → at < t.last_call
    → DrewAt IsFor call_row call_asks call_does t.locks.start (call_on t call) old mid at rows → new.seen ≡ mid.seen
    → (done_on call_row call_asks call_does (call_on t call) old.row old.pool rows).reply ≡ (reply, cells) → row' ≡ shown_for reply cells row
    → Answered t old new call row row' at reply
answered t call old mid new at rows row row' reply cells is fit lt d same told shows =
    let q = call_on t call in
    let qs = calls old.seen ++ d.between in
    let may = may_have t call at is fit lt in
    let both = histories_are_legal (shape_of t) t.last_call t.locks.start qs at q is.starts d.allowed may in
    let answer : (reply, cells) ≡ ((TStep (shape_of t) (rows_after t qs) call).reply, (TStep (shape_of t) (rows_after t qs) call).cells) =
    sym told ∙ ap (λ (x : locks.Done BucketNow PoolNow Answer). x.reply) (sym d.does_it) ∙ both.1 in
    let is_reply : reply ≡ (TStep (shape_of t) (rows_after t qs) call).reply = ap (λ (a : Answer). a.0) answer in
    let is_cells : cells ≡ (TStep (shape_of t) (rows_after t qs) call).cells = ap (λ (a : Answer). a.1) answer in
    let longer : Each (IsFor t.locks.start) 0 (qs ++ q ∷ []) = each_all (IsFor t.locks.start) qs q d.allowed (subst (λ n. IsFor t.locks.start n q) d.place may) in
    let seen : new.seen ≡ old.seen ++ (others d.between ++ (1, q) ∷ []) = same ∙ ap (λ (s : SeatView). s.seen) d.now in
    record {
      between = d.between;
      seen = seen;
      learnt = d.also;
      fit = fit;
      place = d.place;
      room = lt;
      draws = ap draws_of same ∙ d.draws;
      rises = d.rises;
      once = subst (λ (s : List (ℕ × TableCall)). (p : ℕ) → times_drawn p s ≤ 1) (sym same) d.once;
      legal = (the_history t (qs ++ q ∷ []) is longer).legal;
      told = is_reply;
      shows = shows ∙ (λ i. shown_for (is_reply i) (is_cells i) row);
    }

-- ---- a bucket that was taken

-- a bucket that a history leaves: it has the Table's columns and the rows of that history, and no more than there is room for
pub record Taken (t : SharedNow) (old : SeatView) (b : ℕ) (x : BucketNow) : Type 0 where
  pub so_far : List TableCall
  pub begins : Begins old.seen so_far
  pub is : IsHistory (shape_of t) t.last_call t.locks.start so_far
  pub columns : x.columns ≡ t.columns
  pub few : fin.len x.rows ≤ 524289
  pub rows : x.rows ≡ part t.size (rows_after t so_far) b

-- a member of a sum
sum_one : (f : ℕ → ℕ) (b n : ℕ) → b < n → f b ≤ sum_below f n
unfolding sum_below
sum_one f b zero lt = absurd (omega (arith, lt))
sum_one f b (suc n) lt = dite (ℕ_discrete b n)
    (λ e. let same : f b ≡ f n = ap f e in omega (arith, same))
    (λ ne. let rest = sum_one f b n (omega (arith, lt, ne)) in omega (arith, rest))

-- the rows behind the first of a bucket are rows of the pool
behind_used : (t : Shape) (s : State) (b : ℕ) → b < t.size → fin.len (part t.size s b) - 1 ≤ used t.size s
behind_used t s b lt = sum_one (λ c. fin.len (part t.size s c) - 1) b t.size lt

some_same : (x y : BucketNow) → Some x ≡ Some y → x ≡ y
some_same x y e = ap (λ (o : Option BucketNow). or_this o) e
  where
    or_this : Option BucketNow → BucketNow
    or_this None = x
    or_this (Some z) = z

pub taken : (t : SharedNow) (old : SeatView) (b : ℕ) (x : BucketNow) → IsShared t → b < t.size → RowLeft IsFor call_row call_asks call_does t.locks.start old b x → Taken t old b x
taken t old b x is near r =
    let h = the_history t r.so_far is r.allowed in
    let same : x ≡ record { columns = t.columns; rows = part t.size (rows_after t r.so_far) b } = some_same x _ (sym r.value ∙ h.left.buckets b near) in
    let rows : x.rows ≡ part t.size (rows_after t r.so_far) b = ap (λ (z : BucketNow). z.rows) same in
    let len : fin.len x.rows ≡ fin.len (part t.size (rows_after t r.so_far) b) = ap fin.len rows in
    let behind = behind_used (shape_of t) (rows_after t r.so_far) b near in
    let bound = (rows_bounded (shape_of t) (history (shape_of t) r.so_far) is.starts.3).0 in
    let pool = is.pool in
    record { so_far = r.so_far; begins = r.begins; is = h; columns = ap (λ (z : BucketNow). z.columns) same; few = omega (arith, len, behind, bound, pool); rows = rows }

-- ---- room in the pool

-- where a call was drawn on a bucket of two or more rows and on the pool, the pool has room for one row more
pub pool_has_room : (t : SharedNow) (call : Call) (old new : SeatView) (b : ℕ) (x : BucketNow) (p : PoolNow) (at rows : ℕ) → IsShared t → b < t.size → old.row ≡ Some (b, x) → old.pool ≡ Some p → 2 ≤ fin.len x.rows
    → DrewAt IsFor call_row call_asks call_does t.locks.start (call_on t call) old new at rows → p.spare < p.room
pool_has_room t call old new b x p at rows is near row pool two d =
    let qs = calls old.seen ++ d.between in
    let h = the_history t qs is d.allowed in
    let bucket : slice_get (left t qs).rows b ≡ Some x = subst (λ (o : Option (ℕ × BucketNow)). MatchOption o (Unit {0}) (λ z. slice_get (left t qs).rows z.0 ≡ Some z.1)) row d.bucket in
    let has : (left t qs).pool ≡ p = subst (λ (o : Option PoolNow). MatchOption o (Unit {0}) (λ z. (left t qs).pool ≡ z)) pool d.pool_is in
    let same : x ≡ record { columns = t.columns; rows = part t.size (rows_after t qs) b } = some_same x _ (sym bucket ∙ h.left.buckets b near) in
    let len : fin.len x.rows ≡ fin.len (part t.size (rows_after t qs) b) = ap (λ (z : BucketNow). fin.len z.rows) same in
    let behind = behind_used (shape_of t) (rows_after t qs) b near in
    let spare = h.left.spare in
    let room = h.left.room in
    let spare_is : (left t qs).pool.spare ≡ p.spare = ap (λ (z : PoolNow). z.spare) has in
    let room_is : (left t qs).pool.room ≡ p.room = ap (λ (z : PoolNow). z.room) has in
    omega (arith, len, behind, spare, room, spare_is, room_is, two)

-- a call that asks the pool by the bucket that was taken needs it
pub pool_taken : (t : SharedNow) (old new : SeatView) (call : Call) (key : List ℕ) (x : BucketNow) (found : ℕ) → key_of call ≡ Some key → Taken t old (bucket t.size key) x → asks_pool t.columns x.rows call ≡ true
    → FoundTaken old new (pool_number t.locks.start) found → PoolTaken t old new call found
pool_taken t old new call key x found is tk asks taken = record {
  so_far = tk.so_far;
  begins = tk.begins;
  legal = tk.is.legal;
  needs = sym (bucket_is_enough (shape_of t) (rows_after t tk.so_far) call key None is).0 ∙ ap (λ (r : State). asks_pool t.columns r call) (sym tk.rows) ∙ asks;
  taken = taken;
}

-- ---- no place

looked_rows : (t : SharedNow) (qs : List TableCall) → IsShared t → Each (IsFor t.locks.start) 0 qs → (left t qs).count ≡ fin.len (rows_after t qs)
looked_rows t qs is each = (the_history t qs is each).left.count

pub place_taken : (t : SharedNow) (old new : SeatView) (found : ℕ) → IsShared t → MovedAt IsFor call_row call_asks call_does t.locks.start old new t.last_call found → PlaceTaken t old new found
place_taken t old new found is m =
    let l = m.looked in
    let rows = looked_rows t (calls old.seen ++ l.between) is l.allowed in
    let seen : calls m.mid.seen ≡ calls old.seen ++ l.between = ap (λ (s : SeatView). calls s.seen) l.now ∙ calls_look old.seen l.between in
    record {
      between = l.between;
      loaded = m.loaded;
      number = l.number ∙ ap (λ n. length (calls old.seen ++ l.between) * 2097152 + n) rows;
      room = subst (λ (qs : List TableCall). length qs < t.last_call) seen m.room;
      moved = m.moved;
      now = m.now ∙ (λ i. record (l.now i) { refusals = (sequence_number t.locks.start, found) ∷ (l.now i).refusals });
    }

pub no_place : (t : SharedNow) (old new : SeatView) (n : ℕ) → IsShared t → SpentAt IsFor call_row call_asks call_does t.locks.start old new t.last_call n → NoPlace t old new n
no_place t old new n is s =
    let l = s.looked in
    let seen : calls new.seen ≡ calls old.seen ++ l.between = ap (λ (w : SeatView). calls w.seen) l.now ∙ calls_look old.seen l.between in
    let count : n ≡ length (calls old.seen ++ l.between) = s.made ∙ ap (λ (qs : List TableCall). length qs) seen in
    let most = (the_history t (calls old.seen ++ l.between) is l.allowed).room in
    let least = s.at_end in
    record { between = l.between; now = l.now; count = count; at_end = omega (arith, count, most, least) }

-- ---- as laws

pub answers_follow : AnswersFollow
answers_follow t call old mid new at rows row row' reply cells is fit lt d same told shows = answered t call old mid new at rows row row' reply cells is fit lt d same told shows

pub refusals_follow : RefusalsFollow
refusals_follow t old new n is = (place_taken t old new n is, no_place t old new n is)

pub buckets_follow : BucketsFollow
buckets_follow t old b x is near r = let k = taken t old b x is near r in (k.columns, k.few, λ new call key found at own asks taken. pool_taken t old new call key x found at (subst (λ n. Taken t old n x) own k) asks taken)

pub pools_follow : PoolsFollow
pools_follow t call old new b x p at rows is near row pool two d = pool_has_room t call old new b x p at rows is near row pool two d
