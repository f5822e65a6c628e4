-- What the passes and shares of a pipe's ends know.
use Rattle.std.specs.Prelude.{◌≡◌, ◌≤◌, ◌<◌, ℕ, min, Bool, true, List, [], length, Option, Some, None}
use Rattle.crossbeam_queue.specs.Passes.{Pass, view, IsPassOf}
use Rattle.atomic_table.specs.declared.shared.Seat.{Seat}
use Rattle.sw_pipe.specs.declared.mail.Mail.{Mail}
use Rattle.sw_pipe.specs.declared.rule.View.{View}
use Rattle.sw_pipe.specs.declared.tally.Tally.{Tally}
use Rattle.sw_pipe.specs.declared.shared.Shared.{Shared}
use Rattle.sw_pipe.specs.Rule.{sender, taker, shutter, note, count}
use Rattle.sw_pipe.specs.Tallies.{tally, tally_at, IsShareOf}
use Rattle.sw_pipe.specs.Counters.{counter_id}
use Rattle.sw_pipe.specs.Values.{PipeId}

module _ {M : Type 0} where
  abbrev pub pipe_of : Shared M → PipeId
  pipe_of s = record { queue = s.line.table.shared.table_id; counter = counter_id s.counter; capacity = s.capacity; senders = s.senders }

  -- how many a pass has learnt to be taken
  abbrev pub learnt_at : Pass (Mail M) (View M) → ℕ
  learnt_at p = (view p).learnt

  -- what a sender pushed
  abbrev pub put_at : Pass (Mail M) (View M) → List (ℕ × M)
  put_at p = (view p).put

  -- what the taker took
  abbrev pub got_at : Pass (Mail M) (View M) → List (ℕ × Mail M)
  got_at p = (view p).got

  -- the counts that the taker learnt
  abbrev pub due_at : Pass (Mail M) (View M) → List (ℕ × ℕ)
  due_at p = (view p).due

  -- the sender that a count tells of, and how many it had pushed
  abbrev pub from_at : Pass (Mail M) (View M) → ℕ
  from_at p = (view p).from

  abbrev pub upto_at : Pass (Mail M) (View M) → ℕ
  upto_at p = (view p).upto

  -- what is left behind the first
  abbrev pub rest_at : Pass (Mail M) (View M) → List (ℕ × Mail M)
  rest_at p = (view p).rest

  -- The parts of a sender. It counted what it pushed, up to the pipe's room, and knows that the senders counted so much where it saw a full pipe
  pub record IsSender {S : Type 0} (s : Shared M) (place : Pass (Mail M) (View M)) (share : Seat S Tally) (number counted : ℕ) (full : Bool) : Type 0 where
    pub of_queue : IsPassOf s.line place
    pub knows : view place ≡ sender number (learnt_at place) (put_at place)
    pub below : number < s.senders
    pub of_counter : IsShareOf (counter_id s.counter) share
    pub part : (tally_at share).parts ≡ 1
    pub counts : (tally_at share).count ≡ counted
    pub so_many : counted ≡ min s.capacity (length (put_at place))
    pub filled : full ≡ true → s.capacity ≤ (tally_at share).seen

  -- the parts of the taker
  pub record IsTaker {S : Type 0} (s : Shared M) (place : Pass (Mail M) (View M)) (share : Seat S Tally) : Type 0 where
    pub of_queue : IsPassOf s.line place
    pub knows : view place ≡ taker (got_at place) s.senders s.senders [] (due_at place)
    pub of_counter : IsShareOf (counter_id s.counter) share
    pub fresh : tally_at share ≡ tally 0 0 0 0

  -- where a message is left, its pass knows the rest
  abbrev pub IsEndAt : Option (Mail M) → Pass (Mail M) (View M) → Type 0
  IsEndAt None p = Unit {0}
  IsEndAt (Some m) p = view p ≡ shutter (learnt_at p) (rest_at p)

  pub record IsNote (p : Pass (Mail M) (View M)) : Type 0 where
    pub empty : p.me.1 ≡ []
    pub knows : view p ≡ note (learnt_at p)

  pub record IsCount (p : Pass (Mail M) (View M)) : Type 0 where
    pub empty : p.me.1 ≡ []
    pub knows : view p ≡ count (from_at p) (upto_at p)
