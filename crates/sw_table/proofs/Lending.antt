-- What a lock gives is what a legal history leaves there.
use Rattle.std.proofs.Common.{◌≡◌, ℕ, ◌+◌, ◌<◌, List, Some, Result, Ok, Err, refl, ap, sym, ◌∙◌, subst}
use Rattle.std.specs.Prelude.{IfOk}
use Rattle.sw_table_laws.specs.Table.{used}
use Rattle.sw_table_laws.specs.Buckets.{BucketNow, PoolNow}
use Rattle.sw_rowlock.specs.Told.{RowLeft, PoolLeft}
use Rattle.sw_table_join.specs.Calls.{call_row, call_asks, call_does, IsFor}
use Rattle.sw_table_join.specs.Tables.{SharedNow, SeatView, IsShared, rows_after}
use Rattle.sw_table_join.proofs.Answering.{the_history}
use Rattle.sw_table.specs.Lending.{RowsLeft, SparesLeft}
use Rattle.sw_table.proofs.Drawing.{left_as}

same_some : (x y : BucketNow) → Some x ≡ Some y → x ≡ y
same_some x y e = cc

pub rows_left : (t : SharedNow) (seat : SeatView) (b : ℕ) (x : BucketNow) → IsShared t → b < t.size → RowLeft IsFor call_row call_asks call_does t.locks.start seat b x → RowsLeft t seat b x
rows_left t seat b x is near r =
    let h = the_history t r.so_far is r.allowed in
    record { so_far = r.so_far; legal = h.legal; begins = r.begins; learnt = r.also; rows = same_some x _ (sym r.value ∙ h.left.buckets b near); whole = r.whole }

pub spares_left : (t : SharedNow) (seat : SeatView) (p : PoolNow) → IsShared t → PoolLeft IsFor call_row call_asks call_does t.locks.start seat p → SparesLeft t seat p
spares_left t seat p is r =
    let h = the_history t r.so_far is r.allowed in
    record { so_far = r.so_far; legal = h.legal; begins = r.begins; learnt = r.also; spare = ap (λ (q : PoolNow). q.spare + used t.size (rows_after t r.so_far)) (sym r.value) ∙ h.left.spare; whole = r.whole }

pub spares_as : {x t : SharedNow} (v : x ≡ t) (seat : SeatView) (p : PoolNow) → PoolLeft IsFor call_row call_asks call_does x.locks.start seat p → PoolLeft IsFor call_row call_asks call_does t.locks.start seat p
spares_as v seat p r = subst (λ (z : SharedNow). PoolLeft IsFor call_row call_asks call_does z.locks.start seat p) v r

-- ---- said of what a call answered

pub rows_if : {E : Type 0} {x t : SharedNow} (v : x ≡ t) (seat : SeatView) (b : ℕ) (r : Result BucketNow E) → IsShared t → b < t.size → IfOk r (λ y. RowLeft IsFor call_row call_asks call_does x.locks.start seat b y) → IfOk r (RowsLeft t seat b)
rows_if v seat b (Ok y) is near k = rows_left _ seat b y is near (left_as v seat b y k)
rows_if v seat b (Err e) is near k = tt

pub spares_if : {E : Type 0} {x t : SharedNow} (v : x ≡ t) (seat : SeatView) (r : Result PoolNow E) → IsShared t → IfOk r (λ p. PoolLeft IsFor call_row call_asks call_does x.locks.start seat p) → IfOk r (SparesLeft t seat)
spares_if v seat (Ok p) is k = spares_left _ seat p is (spares_as v seat p k)
spares_if v seat (Err e) is k = tt
