-- Drawing a place for a call, by what its seat holds.
use Rattle.std.proofs.Common.{◌≡◌, ◌≢◌, ℕ, ◌+◌, ◌-◌, ◌*◌, ◌<◌, ◌≤◌, Bool, true, false, List, [], ◌∷◌, ◌++◌, length, Option, Some, None, Result, Ok, Err, refl, ap, sym, ◌∙◌, subst, arith}
use Rattle.std.specs.Prelude.{replicate, MatchResult}
use Rattle.std.specs.FinMap as fin
use Rattle.std.proofs.lemmas.List.{length-replicate}
use Rattle.sw_base.specs.declared.table.Value.{Value}
use Rattle.sw_base.specs.declared.table.Call.{Call}
use Rattle.sw_base.specs.declared.table.CallFault.{CallFault}
use Rattle.sw_base.specs.declared.table.CallFault.TheVariants.{Spent}
use Rattle.sw_base.specs.declared.table.Reply.{Reply}
use Rattle.sw_base.specs.declared.table.Reply.TheVariants as replies
use Rattle.sw_column.specs.Fit.{call_fault}
use Rattle.sw_port_shelf.specs.declared.shelf.Placed.{Placed}
use Rattle.sw_table_laws.specs.Table.{State, Step, bucket, shown, shown_for}
use Rattle.sw_table_laws.specs.Buckets as buckets
use Rattle.sw_table_laws.specs.Buckets.{BucketNow, PoolNow, asks_pool, bucket_step}
use Rattle.sw_table_laws.specs.Laws.{key_of}
use Rattle.sw_rowlock.specs.declared.calls.Change.TheVariants.{Same}
use Rattle.sw_rowlock.specs.declared.locks.DrawFault.{DrawFault}
use Rattle.sw_rowlock.specs.declared.locks.DrawFault.TheVariants as draws
use Rattle.sw_rowlock.specs.Calls.{Done}
use Rattle.sw_rowlock.specs.Seats.{IsSeatOf, pool_number, HoldsRow, HoldsPool, bucket_held, row_left, pool_left, pool_held, done_on, row_then, pool_then}
use Rattle.sw_rowlock.specs.Told.{RowLeft, DrewAt}
use Rattle.sw_rowlock.specs.Faults.{RefusedBy}
use Rattle.sw_table_join.specs.declared.table_call.TableCall.{TableCall}
use Rattle.sw_table_join.specs.Calls.{Answer, bucket_at, call_row, call_asks, call_does, done_in, IsFor}
use Rattle.sw_table_join.specs.Tables.{SharedNow, SeatView, IsShared, IsReady, call_on}
use Rattle.sw_table_join.specs.Answers.{Answered, NotPlaced, PoolTaken, FoundTaken, RefusedFor, Refused}
use Rattle.sw_table_join.proofs.Answering.{may_have, answers_follow, refusals_follow, buckets_follow, pools_follow}
use Rattle.sw_row.specs.Packed.{Packed}
use Rattle.sw_bucket.specs.Rows.{rows_by, IsBucket}
use Rattle.sw_bucket.specs.Turns.{IsDone}
use Rattle.sw_bucket.proofs.Listed.{len_rows}
use Rattle.sw_table.specs.Holding.{free, bucket_of, Holds, Ended, fault_of}

-- ---- seats

pub size_is : (t : SharedNow) → IsShared t → length t.locks.start.rows ≡ t.size
size_is t is = ap length is.starts.0 ∙ length-replicate t.size _

pub same_free : (s : SeatView) → s.row ≡ None → s.pool ≡ None → free s ≡ s
same_free s r p = λ i. record s { row = sym r i; pool = sym p i }

pub freed : (s new : SeatView) → s.pool ≡ None → new ≡ record s { row = None } → new ≡ free s
freed s new p e = e ∙ (λ i. record s { row = None; pool = p i })

pub is_ready : (t : SharedNow) (parts : ℕ) (s new : SeatView) → IsSeatOf t.locks s → s.parts ≡ parts → new ≡ free s → IsReady t parts new
is_ready t parts s new of has e = record {
  of = (ap (λ (w : SeatView). w.id) e ∙ of.0, ap (λ (w : SeatView). w.start) e ∙ of.1);
  has = ap (λ (w : SeatView). w.parts) e ∙ has;
  no_row = ap (λ (w : SeatView). w.row) e;
  no_pool = ap (λ (w : SeatView). w.pool) e;
}

pub ready_parts : (t : SharedNow) (n m : ℕ) (s : SeatView) → IsReady t n s → n ≡ m → IsReady t m s
ready_parts t n m s r e = subst (λ k. IsReady t k s) e r

abbrev pub Drew : SharedNow → Call → SeatView → SeatView → ℕ → ℕ → Type 0
Drew t call old new at n = DrewAt IsFor call_row call_asks call_does t.locks.start (call_on t call) old new at n

pub drew_of : (t : SharedNow) (call : Call) (old new : SeatView) (at n : ℕ) → Drew t call old new at n → IsSeatOf t.locks old → IsSeatOf t.locks new
drew_of t call old new at n d of = (ap (λ (w : SeatView). w.id) d.now ∙ of.0, ap (λ (w : SeatView). w.start) d.now ∙ of.1)

-- an answer for a seat that held locks, as one for the seat without them
pub answered_free : (t : SharedNow) (old new : SeatView) (call : Call) (row row' : List Value) (at : ℕ) (reply : Reply) → Answered t old new call row row' at reply → Answered t (free old) new call row row' at reply
answered_free t old new call row row' at reply a = record {
  between = a.between;
  seen = a.seen;
  learnt = a.learnt;
  fit = a.fit;
  place = a.place;
  room = a.room;
  draws = a.draws;
  rises = a.rises;
  once = a.once;
  legal = a.legal;
  told = a.told;
  shows = a.shows;
}

-- ---- a refused draw

abbrev pub RefusedAt : SharedNow → SeatView → SeatView → DrawFault → Type 0
RefusedAt t old new fault = RefusedBy IsFor call_row call_asks call_does t.locks.start old new t.last_call fault

-- it keeps what is held
pub record Keeps (old new : SeatView) : Type 0 where
  pub id : new.id ≡ old.id
  pub start : new.start ≡ old.start
  pub parts : new.parts ≡ old.parts
  pub row : new.row ≡ old.row
  pub pool : new.pool ≡ old.pool

pub keeps : (t : SharedNow) (old new : SeatView) (fault : DrawFault) → RefusedAt t old new fault → Keeps old new
keeps t old new (draws.Spent n) r = let e = r.looked.now in record {
  id = ap (λ (w : SeatView). w.id) e;
  start = ap (λ (w : SeatView). w.start) e;
  parts = ap (λ (w : SeatView). w.parts) e;
  row = ap (λ (w : SeatView). w.row) e;
  pool = ap (λ (w : SeatView). w.pool) e;
}
keeps t old new (draws.Moved n) r = let a = r.now in let e = r.looked.now in record {
  id = ap (λ (w : SeatView). w.id) a ∙ ap (λ (w : SeatView). w.id) e;
  start = ap (λ (w : SeatView). w.start) a ∙ ap (λ (w : SeatView). w.start) e;
  parts = ap (λ (w : SeatView). w.parts) a ∙ ap (λ (w : SeatView). w.parts) e;
  row = ap (λ (w : SeatView). w.row) a ∙ ap (λ (w : SeatView). w.row) e;
  pool = ap (λ (w : SeatView). w.pool) a ∙ ap (λ (w : SeatView). w.pool) e;
}

pub kept_of : (t : SharedNow) (old new : SeatView) → Keeps old new → IsSeatOf t.locks old → IsSeatOf t.locks new
kept_of t old new k of = (k.id ∙ of.0, k.start ∙ of.1)

pub not_placed : (t : SharedNow) (call : Call) (old mid new : SeatView) (fault : DrawFault) → IsShared t → RefusedAt t old mid fault → new ≡ free mid → NotPlaced t (free old) new call (fault_of fault)
not_placed t call old mid new (draws.Spent n) is r e =
    let s = (refusals_follow t old mid n is).1 r in
    record { between = s.between; now = e ∙ ap free s.now; count = s.count; at_end = s.at_end }
not_placed t call old mid new (draws.Moved n) is r e =
    let m = (refusals_follow t old mid n is).0 r in
    record { between = m.between; loaded = m.loaded; number = m.number; room = m.room; moved = m.moved; now = e ∙ ap free m.now }

-- ---- a call without a key

keyless_row : (t : SharedNow) (call : Call) → key_of call ≡ None → call_row (call_on t call) ≡ None
keyless_row t call none = ap (bucket_at t.size) none

pub count_done : (t : SharedNow) (call : Call) (seat : SeatView) (c : ℕ) → key_of call ≡ None → done_on call_row call_asks call_does (call_on t call) seat.row seat.pool c ≡ record { reply = (replies.Count c, []); change = Same; bucket = None; pool = None }
count_done t call seat c none =
    let q : TableCall = call_on t call in
    λ i. call_does q (bucket_held (keyless_row t call none i) seat.row) (pool_held (call_asks q (bucket_held (keyless_row t call none i) seat.row)) seat.pool) c

pub count_then : (t : SharedNow) (call : Call) (seat : SeatView) (c : ℕ) → key_of call ≡ None → (row_then call_row call_asks call_does (call_on t call) seat.row seat.pool c ≡ seat.row) × (pool_then call_row call_asks call_does (call_on t call) seat.row seat.pool c ≡ seat.pool)
count_then t call seat c none =
    let q : TableCall = call_on t call in (
      (λ i. row_left (keyless_row t call none i) seat.row (done_on call_row call_asks call_does q seat.row seat.pool c).bucket),
      (λ i. pool_left (call_asks q (bucket_held (keyless_row t call none i) seat.row)) seat.pool (done_on call_row call_asks call_does q seat.row seat.pool c).pool),
    )

pub count_row : (t : SharedNow) (call : Call) (seat : SeatView) → key_of call ≡ None → HoldsRow (call_row (call_on t call)) seat.row
count_row t call seat none = subst (λ (o : Option ℕ). HoldsRow o seat.row) (sym (keyless_row t call none)) tt

pub count_pool : (t : SharedNow) (call : Call) (seat : SeatView) → key_of call ≡ None → HoldsPool (call_asks (call_on t call) (bucket_held (call_row (call_on t call)) seat.row)) seat.pool
count_pool t call seat none = subst (λ (o : Option ℕ). HoldsPool (call_asks (call_on t call) (bucket_held o seat.row)) seat.pool) (sym (keyless_row t call none)) tt

pub counted : (t : SharedNow) (call : Call) (old new : SeatView) (at n : ℕ) (row : List Value) → IsShared t → call_fault t.columns call ≡ None → key_of call ≡ None → at < t.last_call → Drew t call old new at n
    → Answered t old new call row row at (replies.Count n)
counted t call old new at n row is fit none lt d =
    answers_follow t call old new new at n row row (replies.Count n) [] is fit lt d refl (ap (λ (x : Done BucketNow PoolNow Answer). x.reply) (count_done t call old n none)) refl

pub counted_ready : (t : SharedNow) (call : Call) (old new : SeatView) (at n : ℕ) → key_of call ≡ None → IsReady t old.parts old → Drew t call old new at n → IsReady t old.parts new
counted_ready t call old new at n none r d =
    let then = count_then t call old n none in
    record {
      of = drew_of t call old new at n d r.of;
      has = ap (λ (w : SeatView). w.parts) d.now;
      no_row = ap (λ (w : SeatView). w.row) d.now ∙ then.0 ∙ r.no_row;
      no_pool = ap (λ (w : SeatView). w.pool) d.now ∙ then.1 ∙ r.no_pool;
    }

-- a refused draw of a seat that holds nothing
pub refused_free : (t : SharedNow) (call : Call) (old new : SeatView) (fault : DrawFault) → IsShared t → IsReady t old.parts old → RefusedAt t old new fault → NotPlaced t old new call (fault_of fault) × IsReady t old.parts new
refused_free t call old new fault is r f =
    let k = keeps t old new fault f in
    let same : free old ≡ old = same_free old r.no_row r.no_pool in
    let mine : new ≡ free new = sym (same_free new (k.row ∙ r.no_row) (k.pool ∙ r.no_pool)) in
    (subst (λ (s : SeatView). NotPlaced t s new call (fault_of fault)) same (not_placed t call old new new fault is f mine), is_ready t old.parts new new (kept_of t old new k r.of) k.parts mine)

-- ---- a call with a key

pub holds_of : (t : SharedNow) (call : Call) (key : List ℕ) (at : ℕ) (rows : List Packed) (x : BucketNow) (old seat : SeatView) → IsShared t → IsReady t old.parts old → call_fault t.columns call ≡ None → key_of call ≡ Some key → at ≡ bucket t.size key → at < t.size
    → RowLeft IsFor call_row call_asks call_does t.locks.start old at x → x ≡ record { columns = x.columns; rows = rows_by rows } → IsBucket x.columns rows → seat ≡ record old { row = Some (at, x) } → Holds t call key at rows seat
holds_of t call key at rows x old seat is r fit keyed own near left made sound e =
    let follow = buckets_follow t old at x is near left in
    let same : x ≡ bucket_of t rows = made ∙ ap (λ cs. record { columns = cs; rows = rows_by rows }) follow.0 in
    let b : IsBucket t.columns rows = subst (λ cs. IsBucket cs rows) follow.0 sound in
    let len : fin.len x.rows ≡ length rows = ap (λ (z : BucketNow). fin.len z.rows) same ∙ len_rows t.columns rows b in
    let back : old ≡ free seat = sym (ap free e ∙ same_free old r.no_row r.no_pool) in
    record {
      of = (ap (λ (w : SeatView). w.id) e ∙ r.of.0, ap (λ (w : SeatView). w.start) e ∙ r.of.1);
      row = ap (λ (w : SeatView). w.row) e ∙ ap (λ (z : BucketNow). Some (at, z)) same;
      fit = fit;
      keyed = keyed;
      own = own;
      near = near;
      bucket = b;
      few = subst (λ n. n ≤ 524289) len follow.1;
      left = subst (λ (s : SeatView). RowLeft IsFor call_row call_asks call_does t.locks.start s at (bucket_of t rows)) back (subst (λ (z : BucketNow). RowLeft IsFor call_row call_asks call_does t.locks.start old at z) same left);
    }

pub free_taken : (x : BucketNow) (at : ℕ) (old seat : SeatView) (t : SharedNow) → IsReady t old.parts old → seat ≡ record old { row = Some (at, x) } → free seat ≡ old
free_taken x at old seat t r e = ap free e ∙ same_free old r.no_row r.no_pool

module _ (t : SharedNow) (call : Call) (key : List ℕ) (at : ℕ) (rows : List Packed) (seat : SeatView) (h : Holds t call key at rows seat) where
  pub own_row : call_row (call_on t call) ≡ Some at
  own_row = ap (bucket_at t.size) h.keyed ∙ ap (λ b. Some b) (sym h.own)

  held : bucket_held (call_row (call_on t call)) seat.row ≡ Some (bucket_of t rows)
  held = λ i. bucket_held (own_row i) (h.row i)

  pub holds_row : HoldsRow (call_row (call_on t call)) seat.row
  holds_row = subst (λ (o : Option ℕ). HoldsRow o seat.row) (sym own_row) (subst (λ (r : Option (ℕ × BucketNow)). HoldsRow (Some at) r) (sym h.row) refl)

  -- ---- the bucket alone

  module _ (alone : asks_pool t.columns (rows_by rows) call ≡ false) where
    not_asked : call_asks (call_on t call) (bucket_held (call_row (call_on t call)) seat.row) ≡ false
    not_asked = ap (call_asks (call_on t call)) held ∙ alone

    pub alone_pool : HoldsPool (call_asks (call_on t call) (bucket_held (call_row (call_on t call)) seat.row)) seat.pool
    alone_pool = subst (λ b. HoldsPool b seat.pool) (sym not_asked) tt

    pub alone_done : (c : ℕ) → done_on call_row call_asks call_does (call_on t call) seat.row seat.pool c ≡ done_in (bucket_of t rows) None (bucket_step t.columns (rows_by rows) None call)
    alone_done c = λ i. call_does (call_on t call) (held i) (pool_held (not_asked i) seat.pool) c

    alone_row_then : (c : ℕ) → row_then call_row call_asks call_does (call_on t call) seat.row seat.pool c ≡ Some (at, record { columns = t.columns; rows = (bucket_step t.columns (rows_by rows) None call).state })
    alone_row_then c = λ i. row_left (own_row i) (h.row i) (alone_done c i).bucket

    alone_pool_then : (c : ℕ) → pool_then call_row call_asks call_does (call_on t call) seat.row seat.pool c ≡ seat.pool
    alone_pool_then c = λ i. pool_left (not_asked i) seat.pool (done_on call_row call_asks call_does (call_on t call) seat.row seat.pool c).pool

    pub alone_row : (mid : SeatView) (rows' : List Packed) (reply : Reply) (p n : ℕ) → Drew t call seat mid p n → IsDone t.columns rows None call rows' reply → mid.row ≡ Some (at, bucket_of t rows')
    alone_row mid rows' reply p n d done = ap (λ (w : SeatView). w.row) d.now ∙ alone_row_then n ∙ ap (λ (s : State). Some (at, record { columns = t.columns; rows = s })) (sym done.rows)

    pub alone_answered : (mid new : SeatView) (rows' : List Packed) (reply : Reply) (p n : ℕ) (row row' : List Value) → IsShared t → p < t.last_call → Drew t call seat mid p n → IsDone t.columns rows None call rows' reply
        → row' ≡ shown (bucket_step t.columns (rows_by rows) None call) row → new ≡ record mid { row = None } → Answered t (free seat) new call row row' p reply
    alone_answered mid new rows' reply p n row row' is lt d done shows e =
        let step : Step = bucket_step t.columns (rows_by rows) None call in
        answered_free t seat new call row row' p reply
        (answers_follow t call seat mid new p n row row' reply step.cells is h.fit lt d (ap (λ (w : SeatView). w.seen) e)
        (ap (λ (x : Done BucketNow PoolNow Answer). x.reply) (alone_done n) ∙ ap (λ (r : Reply). (r, step.cells)) (sym done.reply))
        (shows ∙ ap (λ (r : Reply). shown_for r step.cells row) (sym done.reply)))

    pub alone_ready : (mid new : SeatView) (p n : ℕ) → seat.pool ≡ None → Drew t call seat mid p n → new ≡ record mid { row = None } → IsReady t seat.parts new
    alone_ready mid new p n none d e =
        let pool : mid.pool ≡ None = ap (λ (w : SeatView). w.pool) d.now ∙ alone_pool_then n ∙ none in
        is_ready t seat.parts mid new (drew_of t call seat mid p n d h.of) (ap (λ (w : SeatView). w.parts) d.now) (freed mid new pool e)

  -- a refused draw that held the bucket
  pub refused_row : (mid : SeatView) (fault : DrawFault) → RefusedAt t seat mid fault → mid.row ≡ Some (at, bucket_of t rows)
  refused_row mid fault r = (keeps t seat mid fault r).row ∙ h.row

  pub refused_alone : (mid new : SeatView) (fault : DrawFault) → IsShared t → seat.pool ≡ None → RefusedAt t seat mid fault → new ≡ record mid { row = None } → NotPlaced t (free seat) new call (fault_of fault) × IsReady t seat.parts new
  refused_alone mid new fault is none r e =
      let k = keeps t seat mid fault r in
      let f = freed mid new (k.pool ∙ none) e in
      (not_placed t call seat mid new fault is r f, is_ready t seat.parts mid new (kept_of t seat mid k h.of) k.parts f)

  -- and the pool
  pub refused_both : (mid half new : SeatView) (fault : DrawFault) → IsShared t → RefusedAt t seat mid fault → half ≡ record mid { pool = None } → new ≡ record half { row = None } → NotPlaced t (free seat) new call (fault_of fault) × IsReady t seat.parts new
  refused_both mid half new fault is r a e =
      let k = keeps t seat mid fault r in
      let f : new ≡ free mid = e ∙ ap (λ (w : SeatView). record w { row = None }) a in
      (not_placed t call seat mid new fault is r f, is_ready t seat.parts mid new (kept_of t seat mid k h.of) k.parts f)

  -- ---- the bucket and the pool

  module _ (asks : asks_pool t.columns (rows_by rows) call ≡ true) (p : PoolNow) (has : seat.pool ≡ Some p) where
    asked : call_asks (call_on t call) (bucket_held (call_row (call_on t call)) seat.row) ≡ true
    asked = ap (call_asks (call_on t call)) held ∙ asks

    pub both_pool : HoldsPool (call_asks (call_on t call) (bucket_held (call_row (call_on t call)) seat.row)) seat.pool
    both_pool = subst (λ b. HoldsPool b seat.pool) (sym asked) (subst (λ (o : Option PoolNow). HoldsPool true o) (sym has) tt)

    pub both_done : (c : ℕ) → done_on call_row call_asks call_does (call_on t call) seat.row seat.pool c ≡ done_in (bucket_of t rows) (Some p) (bucket_step t.columns (rows_by rows) (Some p.spare) call)
    both_done c = λ i. call_does (call_on t call) (held i) (pool_held (asked i) (has i)) c

    both_row_then : (c : ℕ) → row_then call_row call_asks call_does (call_on t call) seat.row seat.pool c ≡ Some (at, record { columns = t.columns; rows = (bucket_step t.columns (rows_by rows) (Some p.spare) call).state })
    both_row_then c = λ i. row_left (own_row i) (h.row i) (both_done c i).bucket

    both_pool_then : (c : ℕ) → pool_then call_row call_asks call_does (call_on t call) seat.row seat.pool c
        ≡ buckets.pool_left (Some p) (fin.len (rows_by rows)) (fin.len (bucket_step t.columns (rows_by rows) (Some p.spare) call).state)
    both_pool_then c = λ i. pool_left (asked i) (has i) (both_done c i).pool

    pub both_row : (mid : SeatView) (rows' : List Packed) (reply : Reply) (k n : ℕ) → Drew t call seat mid k n → IsDone t.columns rows (Some p.spare) call rows' reply → mid.row ≡ Some (at, bucket_of t rows')
    both_row mid rows' reply k n d done = ap (λ (w : SeatView). w.row) d.now ∙ both_row_then n ∙ ap (λ (s : State). Some (at, record { columns = t.columns; rows = s })) (sym done.rows)

    pub both_left : (mid : SeatView) (p' : PoolNow) (k n : ℕ) → Drew t call seat mid k n → Some p' ≡ buckets.pool_left (Some p) (fin.len (rows_by rows)) (fin.len (bucket_step t.columns (rows_by rows) (Some p.spare) call).state) → mid.pool ≡ Some p'
    both_left mid p' k n d left = ap (λ (w : SeatView). w.pool) d.now ∙ both_pool_then n ∙ sym left

    pub both_room : (mid : SeatView) (k n : ℕ) → IsShared t → Drew t call seat mid k n → 2 ≤ length rows → p.spare < p.room
    both_room mid k n is d two =
        pools_follow t call seat mid at (bucket_of t rows) p k n is h.near h.row has (subst (λ m. 2 ≤ m) (sym (len_rows t.columns rows h.bucket)) two) d

    pub both_answered : (mid half new : SeatView) (rows' : List Packed) (reply : Reply) (k n : ℕ) (row : List Value) → IsShared t → k < t.last_call → Drew t call seat mid k n → IsDone t.columns rows (Some p.spare) call rows' reply
        → shown (bucket_step t.columns (rows_by rows) (Some p.spare) call) row ≡ row → half ≡ record mid { pool = None } → new ≡ record half { row = None } → Answered t (free seat) new call row row k reply
    both_answered mid half new rows' reply k n row is lt d done quiet a e =
        let step : Step = bucket_step t.columns (rows_by rows) (Some p.spare) call in
        answered_free t seat new call row row k reply
        (answers_follow t call seat mid new k n row row reply step.cells is h.fit lt d (ap (λ (w : SeatView). w.seen) e ∙ ap (λ (w : SeatView). w.seen) a)
        (ap (λ (x : Done BucketNow PoolNow Answer). x.reply) (both_done n) ∙ ap (λ (r : Reply). (r, step.cells)) (sym done.reply))
        (sym quiet ∙ ap (λ (r : Reply). shown_for r step.cells row) (sym done.reply)))

    pub both_ready : (mid half new : SeatView) (k n : ℕ) → Drew t call seat mid k n → half ≡ record mid { pool = None } → new ≡ record half { row = None } → IsReady t seat.parts new
    both_ready mid half new k n d a e =
        is_ready t seat.parts mid new (drew_of t call seat mid k n d h.of) (ap (λ (w : SeatView). w.parts) d.now) (e ∙ ap (λ (w : SeatView). record w { row = None }) a)

  -- ---- the pool's lock

  pub pool_refused : (half new : SeatView) (found : ℕ) → IsShared t → seat.pool ≡ None → asks_pool t.columns (rows_by rows) call ≡ true → found ≡ 1 → half ≡ record seat { refusals = (pool_number t.locks.start, found) ∷ seat.refusals } → new ≡ record half { row = None }
      → PoolTaken t (free seat) new call found × IsReady t seat.parts new
  pool_refused half new found is none asks one a e =
      let pool : half.pool ≡ None = ap (λ (w : SeatView). w.pool) a ∙ none in
      let f : new ≡ free half = freed half new pool e in
      let told : FoundTaken (free seat) new (pool_number t.locks.start) found = (one, f ∙ ap free a) in (
        (buckets_follow t (free seat) at (bucket_of t rows) is h.near h.left).2 new call key found h.keyed h.own asks told,
        is_ready t seat.parts half new (ap (λ (w : SeatView). w.id) a ∙ h.of.0, ap (λ (w : SeatView). w.start) a ∙ h.of.1) (ap (λ (w : SeatView). w.parts) a) f,
      )

  pub holds_pool : (half : SeatView) (p : PoolNow) → half ≡ record seat { pool = Some p } → Holds t call key at rows half
  holds_pool half p e = record {
    of = (ap (λ (w : SeatView). w.id) e ∙ h.of.0, ap (λ (w : SeatView). w.start) e ∙ h.of.1);
    row = ap (λ (w : SeatView). w.row) e ∙ h.row;
    fit = h.fit;
    keyed = h.keyed;
    own = h.own;
    near = h.near;
    bucket = h.bucket;
    few = h.few;
    left = subst (λ (s : SeatView). RowLeft IsFor call_row call_asks call_does t.locks.start s at (bucket_of t rows)) (sym (ap free e)) h.left;
  }

-- ---- the whole call

pub same_ended : (t : SharedNow) (old old' new : SeatView) (call : Call) (row row' : List Value) (result : Result Placed CallFault) → old ≡ old' → Ended t old new call row row' result → Ended t old' new call row row' result
same_ended t old old' new call row row' result e x = subst (λ (s : SeatView). Ended t s new call row row' result) e x

-- a call that fits isn't refused for its arguments
pub ended_called : (t : SharedNow) (old new : SeatView) (call : Call) (row row' : List Value) (result : Result Placed CallFault) → call_fault t.columns call ≡ None → Ended t old new call row row' result
    → MatchResult result (λ placed. Answered t old new call row row' placed.at placed.reply) (λ fault. Refused t old new call row row' fault)
ended_called t old new call row row' (Ok placed) fit x = x
ended_called t old new call row row' (Err fault) fit x = (x.0, subst (λ (o : Option CallFault). RefusedFor o t old new call fault) (sym fit) x.1)

-- ---- what the Table's fields say, said of the Table

pub seat_as : {x t : SharedNow} (v : x ≡ t) (seat : SeatView) → IsSeatOf t.locks seat → IsSeatOf x.locks seat
seat_as v seat of = subst (λ (y : SharedNow). IsSeatOf y.locks seat) (sym v) of

pub drew_as : {x t : SharedNow} (v : x ≡ t) (call : Call) (q : TableCall) (old new : SeatView) (at n : ℕ) → q ≡ call_on t call → DrewAt IsFor call_row call_asks call_does x.locks.start q old new at n → Drew t call old new at n
drew_as {t = t} v call q old new at n made d =
    subst (λ (z : TableCall). DrewAt IsFor call_row call_asks call_does t.locks.start z old new at n) made (subst (λ (y : SharedNow). DrewAt IsFor call_row call_asks call_does y.locks.start q old new at n) v d)

pub refused_as : {x t : SharedNow} (v : x ≡ t) (old new : SeatView) (fault : DrawFault) → RefusedBy IsFor call_row call_asks call_does x.locks.start old new x.last_call fault → RefusedAt t old new fault
refused_as v old new fault r = subst (λ (y : SharedNow). RefusedBy IsFor call_row call_asks call_does y.locks.start old new y.last_call fault) v r

pub left_as : {x t : SharedNow} (v : x ≡ t) (old : SeatView) (b : ℕ) (y : BucketNow) → RowLeft IsFor call_row call_asks call_does x.locks.start old b y → RowLeft IsFor call_row call_asks call_does t.locks.start old b y
left_as v old b y r = subst (λ (z : SharedNow). RowLeft IsFor call_row call_asks call_does z.locks.start old b y) v r

pub room_as : {x t : SharedNow} (v : x ≡ t) (at : ℕ) → at < x.last_call → at < t.last_call
room_as v at lt = subst (λ (y : SharedNow). at < y.last_call) v lt

pub may_as : {x t : SharedNow} (v : x ≡ t) (call : Call) (q : TableCall) → q ≡ call_on t call → IsShared t → call_fault t.columns call ≡ None → (at : ℕ) → at < x.last_call → IsFor x.locks.start at q
may_as {t = t} v call q made is fit at lt =
    subst (λ (y : SharedNow). IsFor y.locks.start at q) (sym v) (subst (λ (z : TableCall). IsFor t.locks.start at z) (sym made) (may_have t call at is fit (room_as v at lt)))
