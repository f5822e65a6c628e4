-- What a seat with all parts finds: the whole history, and what it leaves.
use Rattle.std.proofs.Common.{◌≡◌, ℕ, zero, suc, ◌+◌, ◌*◌, ◌<◌, ◌≤◌, List, [], ◌∷◌, ◌++◌, length, Option, Some, None, refl, ap, sym, ◌∙◌, subst, arith}
use Rattle.std.specs.Prelude.{slice_get, All}
use Rattle.sw_column.specs.declared.column.Column.{Column}
use Rattle.std.specs.FinMap as fin
use Rattle.sw_table_laws.specs.Table.{Legal, bucket, part, used}
use Rattle.sw_table_laws.specs.Buckets.{BucketNow}
use Rattle.sw_table_laws.proofs.BucketLaws.{rows_bounded}
use Rattle.sw_rowlock.specs.History.{calls, others, AllBegin, Each, DrewAll}
use Rattle.sw_rowlock.specs.Calls as locks
use Rattle.sw_rowlock.specs.Seats.{all_parts}
use Rattle.sw_rowlock.specs.Told.{RowLeft, LookedAt}
use Rattle.sw_table_join.specs.declared.table_call.TableCall.{TableCall}
use Rattle.sw_table_join.specs.Calls.{call_row, call_asks, call_does, IsFor}
use Rattle.sw_table_join.specs.Histories.{history}
use Rattle.sw_table_join.specs.Tables.{SharedNow, SeatView, IsShared, shape_of, rows_after}
use Rattle.sw_table_join.proofs.Answering.{left, the_history}
use Rattle.sw_tmodel.specs.Plain as plains
use Rattle.sw_tmodel.specs.Plain.{PlainTable}
use Rattle.sw_row.specs.Packed.{Packed}
use Rattle.sw_bucket.specs.Rows.{rows_by, IsBucket}
use Rattle.sw_bucket.proofs.Listed.{len_rows}
use Rattle.sw_table.specs.Closing.{plain_of, IsFilled, IsDrained}
use Rattle.sw_table.proofs.Copying.{fill_all, own_keys, fill_room}

append_none : {A : Type 0} (xs : List A) → xs ++ [] ≡ xs
append_none [] = refl
append_none (x ∷ xs) = ap (λ ys. x ∷ ys) (append_none xs)

same_some : {A : Type 0} (x y : A) → Some x ≡ Some y → x ≡ y
same_some x y e = cc

-- a bucket that was taken with all parts has the rows that the whole history leaves there
pub whole_bucket : (t : SharedNow) (seat : SeatView) (at : ℕ) (x : BucketNow) → IsShared t → at < t.size → seat.parts ≡ all_parts → RowLeft IsFor call_row call_asks call_does t.locks.start seat at x
    → x ≡ record { columns = t.columns; rows = part t.size (rows_after t (calls seat.seen)) at }
whole_bucket t seat at x is near parts l =
    let h = the_history t l.so_far is l.allowed in
    let seen : calls seat.seen ≡ l.so_far = (l.whole parts).seen_all in
    same_some x _ (sym l.value ∙ h.left.buckets at near) ∙ ap (λ (qs : List TableCall). record { columns = t.columns; rows = part t.size (rows_after t qs) at }) (sym seen)

pub not_overdrawn : (t : SharedNow) (qs : List TableCall) → IsShared t → used t.size (rows_after t qs) ≤ (shape_of t).pool
not_overdrawn t qs is = (rows_bounded (shape_of t) (history (shape_of t) qs) is.starts.3).0

-- the number of calls was loaded with all parts
pub record Loaded (t : SharedNow) (old new : SeatView) (at : ℕ) : Type 0 where
  pub same : new ≡ old
  pub count : at ≡ length (calls old.seen)
  pub few : at ≤ t.last_call
  pub drew : DrewAll old.seen (calls old.seen)
  pub legal : Legal (shape_of t) (history (shape_of t) (calls old.seen))
  pub learnt : AllBegin old.also (calls old.seen)

pub loaded : (t : SharedNow) (old new : SeatView) (at rows : ℕ) → IsShared t → old.parts ≡ all_parts → rows < 2097152 → LookedAt IsFor call_row call_asks call_does t.locks.start old new (at * 2097152 + rows) → Loaded t old new at
loaded t old new at rows is parts lt l =
    let w = l.whole parts in
    let qs : calls old.seen ++ l.between ≡ calls old.seen = ap (λ (b : List TableCall). calls old.seen ++ b) w.0 ∙ append_none (calls old.seen) in
    let allowed : Each (IsFor t.locks.start) 0 (calls old.seen) = subst (λ (z : List TableCall). Each (IsFor t.locks.start) 0 z) qs l.allowed in
    let h = the_history t (calls old.seen) is allowed in
    let number : at * 2097152 + rows ≡ length (calls old.seen) * 2097152 + (left t (calls old.seen)).count = l.number ∙ ap (λ (z : List TableCall). length z * 2097152 + (left t z).count) qs in
    let count : (left t (calls old.seen)).count ≡ fin.len (rows_after t (calls old.seen)) = h.left.count in
    let most = (rows_bounded (shape_of t) (history (shape_of t) (calls old.seen)) is.starts.3).1 in
    let size = is.few in
    let pool = is.pool in
    let room = h.room in
    let at_is : at ≡ length (calls old.seen) = omega (arith, number, count, most, size, pool, lt) in
    record {
      same = l.now ∙ ap (λ (b : List TableCall). record old { seen = old.seen ++ others b }) w.0 ∙ (λ i. record old { seen = append_none old.seen i });
      count = at_is;
      few = omega (arith, at_is, room);
      drew = w.1;
      legal = h.legal;
      learnt = subst (λ (z : List TableCall). AllBegin old.also z) qs l.also;
    }

-- the end of it
pub is_drained : (t : SharedNow) (seat new : SeatView) (at : ℕ) (filled plain : PlainTable) → IsShared t → Loaded t seat new at → IsFilled t (rows_after t (calls seat.seen)) t.size filled → plain ≡ record filled { calls = at } → IsDrained t seat plain
is_drained t seat new at filled plain is l f e =
    let rows : filled.state ≡ rows_after t (calls seat.seen) = fill_all t (rows_after t (calls seat.seen)) filled is.starts.3 f in
    record {
      drew = l.drew;
      legal = l.legal;
      learnt = l.learnt;
      left = e ∙ ap (λ (p : PlainTable). record p { calls = at }) f.like ∙ (λ i. plain_of t (l.count i) (rows i));
    }

-- what is known of a bucket that is taken with all parts, and of the plain Table that it goes into
pub record Ready (t : SharedNow) (seen : List (ℕ × TableCall)) (at : ℕ) (rows : List Packed) (plain : PlainTable) : Type 0 where
  pub bucket_is : IsBucket t.columns rows
  pub same : rows_by rows ≡ part t.size (rows_after t (calls seen)) at
  pub columns : plain.columns ≡ t.columns
  pub near : at < plain.size
  pub own : All (λ (r : Packed). bucket plain.size r.key ≡ at) rows
  pub none : part plain.size plain.state at ≡ fin.empty
  pub room : used plain.size plain.state + length rows ≤ (plains.shape_of plain).pool + 1

pub ready : (t : SharedNow) (seat : SeatView) (at : ℕ) (x : BucketNow) (rows : List Packed) (plain : PlainTable) → IsShared t → at < t.size → seat.parts ≡ all_parts → RowLeft IsFor call_row call_asks call_does t.locks.start seat at x
    → x ≡ record { columns = x.columns; rows = rows_by rows } → IsBucket x.columns rows → IsFilled t (rows_after t (calls seat.seen)) at plain → Ready t seat.seen at rows plain
ready t seat at x rows plain is near parts left made sound f =
    let whole = whole_bucket t seat at x is near parts left in
    let b : IsBucket t.columns rows = subst (λ (cs : List Column). IsBucket cs rows) (ap (λ (y : BucketNow). y.columns) whole) sound in
    let same : rows_by rows ≡ part t.size (rows_after t (calls seat.seen)) at = sym (ap (λ (y : BucketNow). y.rows) made) ∙ ap (λ (y : BucketNow). y.rows) whole in
    let size : t.size ≡ plain.size = sym (ap (λ (p : PlainTable). p.size) f.like) in
    let len : length rows ≡ fin.len (part t.size (rows_after t (calls seat.seen)) at) = sym (len_rows t.columns rows b) ∙ ap fin.len same in
    record {
      bucket_is = b;
      same = same;
      columns = ap (λ (p : PlainTable). p.columns) f.like;
      near = subst (λ (n : ℕ). at < n) size near;
      own = subst (λ (n : ℕ). All (λ (r : Packed). bucket n r.key ≡ at) rows) size (own_keys t.columns t.size at (rows_after t (calls seat.seen)) rows b same);
      none = ap (λ (n : ℕ). part n plain.state at) (sym size) ∙ f.above at (omega arith);
      room = fill_room t (rows_after t (calls seat.seen)) at (length rows) plain f near (not_overdrawn t (calls seat.seen) is) len;
    }
