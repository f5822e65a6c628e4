-- A turn of the code behind a pipe call of a run: what the table's own law gives stands then.
use Rattle.std.proofs.Common.{ℕ, ◌<◌, ◌^◌, Bool, length}
use Rattle.sw_data.specs.declared.messages.Got.{Got}
use Rattle.sw_data.specs.declared.messages.Msg.{Msg}
use Rattle.sw_frame.specs.Cut.{IsFit}
use Rattle.sw_record.specs.Terms.{Terms}
use Rattle.sw_past.specs.Messages.{Message}
use Rattle.sw_past.specs.Past.{Mail}
use Rattle.sw_past.specs.Routes.{IsFair}
use Rattle.sw_join.specs.Modes.{AimOf, EndOf}
use Rattle.sw_reactor_table.specs.Reactor.{Reactor as Table, all, settled}
use Rattle.sw_reactor_table.specs.Runs.{Called, TookOne, FoundNone, PushedOne, CameBack, NoCall, Runs}
use Rattle.sw_reactor_table.proofs.Grows.{fit_grows}
use Rattle.sw_reactor_table.proofs.Final.{mode_laws}
use Rattle.sw_reactor_table.proofs.Law.{call_fair}
use Rattle.sw_reactor_laws.proofs.Bounds.{runs_in_bounds}
use Rattle.sw_reactor.specs.declared.reactor.Reactor.{Reactor}
use Rattle.sw_reactor.specs.Turn.{Asks}
use Rattle.sw_reactor.specs.Serving.{Ports, Turns}
use Rattle.sw_reactor_fits.specs.Fits.{Fits, Sizes, got_of, IsBack}
use Rattle.sw_reactor_fits.specs.Told.{Telling, DoTell, BringsNew}
use Rattle.sw_reactor_fits.specs.Ports.{AreSound, IsTheTables}
use Rattle.sw_reactor_fits.proofs.Turning.{turns_is}
use Rattle.sw_reactor_fits.proofs.Standing.{run_bounds}

back_called : (s : Table) (took pushed later more : Mail) (got : Got Message) → Called s took pushed later more got → IsBack s.last got
back_called s took pushed _ _ _ (TookOne e from m) = tt
back_called s took pushed _ _ _ (FoundNone e) = tt
back_called s took pushed _ _ _ (PushedOne w m e) = tt
back_called s took pushed _ _ _ (CameBack w m e) = (w, e)
back_called s took pushed _ _ _ (NoCall e) = tt

pub turn_of_run : {L K B C E : Type 0} (view : Telling L K) (p : Ports L K B C E) (t : Terms) (word : ℕ → ℕ) → DoTell view p → Sizes t → IsFit t.framing → (n : ℕ) → n < t.reactor_num → (took pushed : Mail) (s : Table) → Runs t word took pushed s → (r q : Reactor L K) (got : Got (Msg L K)) (a : Asks L K) (b0 b1 : B) (c0 c1 : C) (f0 f1 : E) → AreSound t p c0 f0 → Fits view t r s → BringsNew view got → (later more : Mail) → Called s took pushed later more (got_of p.number got) → IsFair t n later → ((starved : Bool) → length (all (settled t starved (got_of p.number got) s)) < 2 ^ 64) → Turns p r got b0 c0 f0 a q b1 c1 f1 → IsTheTables view t p s (got_of p.number got) b0 c0 f0 q a b1 c1 f1
turn_of_run view p t word tell sizes fit n small took pushed s run r q got a b0 b1 c0 c1 f0 f1 sound h new later more call fair few z =
    turns_is view p t word r q got a s b0 b1 c0 c1 f0 f1 tell sound new sizes h
    (runs_in_bounds t (AimOf t) (EndOf t) (mode_laws t) word sizes.workers (fit_grows t fit) n small took pushed s run (call_fair t n s took pushed later more (got_of p.number got) call fair))
    (back_called s took pushed later more (got_of p.number got) call)
    (λ starved. run_bounds t word sizes.workers fit n small took pushed s run later more (got_of p.number got) call fair starved (few starved)) z
