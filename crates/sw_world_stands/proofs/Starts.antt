-- Places before any step, and behind a turn.
use Rattle.std.proofs.Common.{◌≡◌, ℕ, zero, suc, ◌+◌, ◌<◌, Bool, true, false, if◌then◌else◌, List, [], refl, ap, ◌∙◌, arith, Some, slice_get, replicate}
use Rattle.sw_step.specs.declared.actor.ActorId.{ActorId}
use Rattle.sw_step.specs.declared.actor.ActorId.TheVariants.{Door, Reactor, Worker, Tasker}
use Rattle.sw_past.specs.Messages.{Message}
use Rattle.sw_record.specs.Terms.{Terms}
use Rattle.sw_record.specs.Places.{Ran}
use Rattle.sw_world_ports.specs.Ports.{set_at}
use Rattle.sw_world_laws.specs.Turns.{Got, GotStart}
use Rattle.sw_world_laws.specs.Actors.{Actors}
use Rattle.sw_world_laws.specs.World.{Pending, Waits, Gave, Core, Outcome, Goes, there, goes_if, turned, next, MayStep, IsTurn}
use Rattle.sw_world_fits.specs.Board.{number_of, IsThere}
use Rattle.sw_world_places.specs.Pipes.{Asking}
use Rattle.sw_world_places.specs.Place.{fresh}
use Rattle.sw_world_places.specs.Places.{Rows, new_rows, AtRow}
use Rattle.sw_world_places.specs.declared.place.Next.TheVariants.{Asked}
use Rattle.sw_world_stands.specs.Asked.{ask_of, next_of}
use Rattle.sw_world_stands.specs.New.{AskNew}
use Rattle.sw_world_stands.specs.Rows.{RowsStand, IsDue}
use Rattle.sw_world_stands.proofs.Rows.{is_there, rows_ext, set_twice}
use Rattle.sw_world_stands.proofs.Goes.{next_changed, due_goes, due_may}

number_less : (t : Terms) (y : ActorId) → IsThere t y → number_of t y < t.worker_num + t.tasker_num + t.reactor_num + 1
number_less t (Worker a) l = omega (arith, l)
number_less t (Tasker a) l = omega (arith, l)
number_less t (Reactor a) l = omega (arith, l)
number_less t Door l = omega arith

same_get : {A : Type 0} (n i : ℕ) (x : A) → i < n → slice_get (replicate n x) i ≡ Some x
same_get zero i x lt = absurd (omega (arith, lt))
same_get (suc n) zero x lt = refl
same_get (suc n) (suc i) x lt = same_get n i x (omega (arith, lt))

-- before any step
pub new_stand : (t : Terms) → RowsStand t (new_rows t.worker_num t.tasker_num t.reactor_num t.pipe_capacity) (λ y. Gave GotStart) (λ y. [])
new_stand t =
    record {
      workers = refl;
      taskers = refl;
      reactors = refl;
      each = λ y e. (fresh (record { waiting = []; room = t.pipe_capacity }), (same_get (t.worker_num + t.tasker_num + t.reactor_num + 1) (number_of t y) (fresh (record { waiting = []; room = t.pipe_capacity })) (number_less t y (is_there t y e)), record { next = refl; pipe = refl; room = refl; new = tt; links = tt }));
    }

-- what an actor asked is next
pub asked_stand : (t : Terms) (r s : Rows) (nexts : ActorId → Pending) (pipes : ActorId → List Message) (y : ActorId) (n : Pending) (ask : Asking) →
    there t y ≡ true → AskNew y ask → RowsStand t r (set_at nexts y n) pipes → AtRow r (number_of t y) (λ c d. d ≡ record c { next = Asked ask }) s → RowsStand t s (set_at nexts y (Waits (ask_of ask))) pipes
asked_stand t r s nexts pipes y n ask here new h at =
    rows_ext t s (set_at (set_at nexts y n) y (next_of (Asked ask))) (set_at nexts y (Waits (ask_of ask))) pipes pipes
    (next_changed t r s (set_at nexts y n) pipes y (λ c d. d ≡ record c { next = Asked ask }) (Asked ask) here h at (λ c d e. e) new)
    (set_twice nexts y n (Waits (ask_of ask))) (λ z. refl)

-- a turn that is due is a step
pub due_steps : (t : Terms) (legal : List Ran → Type 0) (p : Actors t) (c : Core p.State) (y : ActorId) (o : Outcome p.State) (got : Got) →
    there t y ≡ true → c.lost ≡ false → IsDue (c.nexts y) got → IsTurn t legal p c y o got → MayStep t legal p c (Goes y o) × (next t p c (Goes y o) ≡ turned t p c y o)
due_steps t legal p c y o got here sound due turn = (
  λ e f. due_may t legal p c y o (c.nexts y) got due turn,
  ap (λ (b : Bool). if b then c else goes_if t p c y o (there t y)) sound ∙ ap (goes_if t p c y o) here ∙ due_goes t legal p c y o (c.nexts y) got due,
)
