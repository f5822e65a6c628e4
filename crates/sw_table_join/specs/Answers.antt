-- What a call on a shared Table tells its caller.
use Rattle.std.specs.Prelude.{◌≡◌, ◌≢◌, ℕ, ◌+◌, ◌*◌, ◌≤◌, ◌<◌, All, List, [], ◌∷◌, ◌++◌, length, Option, Some, None, true}
use Rattle.std.specs.FinMap as fin
use Rattle.sw_base.specs.declared.table.Value.{Value}
use Rattle.sw_base.specs.declared.table.Reply.{Reply}
use Rattle.sw_base.specs.declared.table.Call.{Call}
use Rattle.sw_base.specs.declared.table.CallFault.{CallFault}
use Rattle.sw_base.specs.declared.table.CallFault.TheVariants as faults
use Rattle.sw_base.specs.declared.table.CallFault.TheVariants.{Busy, Spent}
use Rattle.sw_base.specs.declared.table.WordId.TheVariants as words
use Rattle.sw_column.specs.Fit.{call_fault}
use Rattle.sw_table_laws.specs.Table.{Legal, TStep, shown, needs_pool}
use Rattle.sw_rowlock.specs.History.{calls, others, Begins, AllBegin, draws_of, times_drawn}
use Rattle.sw_rowlock.specs.Seats.{pool_number, sequence_number}
use Rattle.sw_table_join.specs.declared.table_call.TableCall.{TableCall}
use Rattle.sw_table_join.specs.Calls.{call_row}
use Rattle.sw_table_join.specs.Histories.{history}
use Rattle.sw_table_join.specs.Tables.{SharedNow, SeatView, shape_of, call_on, rows_after}

-- The call has a place. The seat has seen a legal history that begins with all that it had seen by its own calls and by what it learnt, and ends with this call, which is one more of its own: its places
-- rise, and each of them stands once. The reply and the row are those of the definition at that place
pub record Answered (t : SharedNow) (old new : SeatView) (call : Call) (row row' : List Value) (at : ℕ) (reply : Reply) : Type 0 where
  pub between : List TableCall
  pub seen : new.seen ≡ old.seen ++ (others between ++ (1, call_on t call) ∷ [])
  pub learnt : AllBegin old.also (calls old.seen ++ between)
  pub fit : call_fault t.columns call ≡ None
  -- the history has at + 1 calls
  pub place : at ≡ length (calls old.seen ++ between)
  pub room : at < t.last_call
  pub draws : draws_of new.seen ≡ draws_of old.seen ++ (at, call_on t call) ∷ []
  pub rises : All (λ d. d.0 < at) (draws_of old.seen)
  pub once : (p : ℕ) → times_drawn p new.seen ≤ 1
  pub legal : Legal (shape_of t) (history (shape_of t) ((calls old.seen ++ between) ++ call_on t call ∷ []))
  pub told : reply ≡ (TStep (shape_of t) (rows_after t (calls old.seen ++ between)) call).reply
  pub shows : row' ≡ shown (TStep (shape_of t) (rows_after t (calls old.seen ++ between)) call) row

-- this call's exchange on the lock's word found this there, and that is all that changed
abbrev pub FoundTaken : SeatView → SeatView → ℕ → ℕ → Type 0
FoundTaken old new lock found = (found ≡ 1) × (new ≡ record old { refusals = (lock, found) ∷ old.refusals })

-- the pool's lock was found taken by a call that needs the pool, after a history that begins with all that the seat has seen
pub record PoolTaken (t : SharedNow) (old new : SeatView) (call : Call) (found : ℕ) : Type 0 where
  pub so_far : List TableCall
  pub begins : Begins old.seen so_far
  pub legal : Legal (shape_of t) (history (shape_of t) so_far)
  pub needs : needs_pool (shape_of t) (rows_after t so_far) call ≡ true
  pub taken : FoundTaken old new (pool_number t.locks.start) found

-- the sequence word was loaded, and then the exchange found another number there: more calls were seen, and none was made
pub record PlaceTaken (t : SharedNow) (old new : SeatView) (found : ℕ) : Type 0 where
  pub between : List TableCall
  pub loaded : ℕ
  pub number : loaded ≡ length (calls old.seen ++ between) * 2097152 + fin.len (rows_after t (calls old.seen ++ between))
  pub room : length (calls old.seen ++ between) < t.last_call
  pub moved : found ≢ loaded
  pub now : new ≡ record old { seen = old.seen ++ others between; refusals = (sequence_number t.locks.start, found) ∷ old.refusals }

-- the history that was seen has as many calls as may be made
pub record NoPlace (t : SharedNow) (old new : SeatView) (made : ℕ) : Type 0 where
  pub between : List TableCall
  pub now : new ≡ record old { seen = old.seen ++ others between }
  pub count : made ≡ length (calls old.seen ++ between)
  pub at_end : made ≡ t.last_call

-- why a call that fits the columns has no place
abbrev pub NotPlaced : SharedNow → SeatView → SeatView → Call → CallFault → Type 0
NotPlaced t old new call (Busy (words.Row b) found) = (call_row (call_on t call) ≡ Some b) × FoundTaken old new b found
NotPlaced t old new call (Busy words.Pool found) = PoolTaken t old new call found
NotPlaced t old new call (Busy words.Sequence found) = PlaceTaken t old new found
NotPlaced t old new call (Spent made) = NoPlace t old new made
NotPlaced t old new call faults.BadKey = ⊥
NotPlaced t old new call faults.NoColumn = ⊥
NotPlaced t old new call faults.NotInt = ⊥
NotPlaced t old new call faults.BadValue = ⊥
NotPlaced t old new call faults.Range = ⊥

abbrev pub RefusedFor : Option CallFault → SharedNow → SeatView → SeatView → Call → CallFault → Type 0
RefusedFor (Some own) t old new call fault = (fault ≡ own) × (new ≡ old)
RefusedFor None t old new call fault = NotPlaced t old new call fault

-- A refusal: for the call's own arguments, and only where it has no such fault for a lock or a place. The buffer is as before
abbrev pub Refused : SharedNow → SeatView → SeatView → Call → List Value → List Value → CallFault → Type 0
Refused t old new call row row' fault = (row' ≡ row) × RefusedFor (call_fault t.columns call) t old new call fault
