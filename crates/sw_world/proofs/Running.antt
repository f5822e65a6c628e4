-- Code that was made stands for a core, and so does what steps lead to.
use Rattle.std.proofs.Common.{◌≡◌, List, [], ◌∷◌, sym, subst}
use Rattle.sw_step.specs.declared.step.Step.{Step}
use Rattle.sw_record.specs.Terms.{Terms}
use Rattle.sw_table_laws.specs.Table.{Shape}
use Rattle.sw_hand.specs.Ports.{Acting}
use Rattle.sw_settings.specs.declared.values.Values.{Values}
use Rattle.sw_world_laws.specs.World.{Core, start, next}
use Rattle.sw_world_hands.specs.Hands.{Crews}
use Rattle.sw_world_steps.specs.Server.{IsServed, server, AState}
use Rattle.sw_world_crew.specs.Recorded.{log_of, recorded_acts}
use Rattle.sw_world_crew.specs.declared.recorded.Recorded.{Recorded}
use Rattle.sw_world_crew_fits.proofs.Recorded.{recorded_numbers, recorded_tells}
use Rattle.sw_world_whole.specs.Whole.{Stands}
use Rattle.sw_world_whole.proofs.Starts.{starts}
use Rattle.sw_world_state.specs.declared.state.State.{State}
use Rattle.sw_world_state.specs.State.{parts_of, views}
use Rattle.sw_world_state.specs.Steps.{Steps, MayStep}
use Rattle.sw_world_goes.specs.Ready.{Ready, Goes}
use Rattle.sw_world_goes.proofs.May.{may_step}
use Rattle.sw_world_goes.proofs.Any.{step_goes}
use Rattle.sw_world_make.specs.Terms.{terms_of, shape_of}
use Rattle.sw_world_make.specs.Handlers.{crews_of}
use Rattle.sw_world_make.specs.Made.{IsMade}
use Rattle.sw_world.specs.Standing.{Standing}
use Rattle.sw_world.specs.Run.{Ran}

pub made_stands : {H T : Type 0} (v : Values) (given : List (List H)) (tasks : List T) (s : State (Recorded H) (Recorded T)) → (m : IsMade v given tasks s) → Stands (terms_of v) m.served (crews_of v given) (shape_of v) (views log_of log_of) (parts_of s) (start (terms_of v) (server (terms_of v) m.served (crews_of v given)))
made_stands v given tasks s m = starts (terms_of v) m.served (crews_of v given) (shape_of v) (views log_of log_of) (parts_of s) m.last m.legal m.starts

pub made_standing : {H T : Type 0} (v : Values) (given : List (List H)) (tasks : List T) (s : State (Recorded H) (Recorded T)) → IsMade v given tasks s → Standing s
made_standing v given tasks s m = record {
  terms = terms_of v;
  server = m.server;
  served = m.served;
  crews = crews_of v given;
  shape = shape_of v;
  core = start (terms_of v) (server (terms_of v) m.served (crews_of v given));
  stands = made_stands v given tasks s m;
  ready = m.ready;
}

pub standing_may : {H T : Type 0} (s : State (Recorded H) (Recorded T)) → Standing s → MayStep s
standing_may s h = may_step h.terms h.served h.crews h.shape log_of log_of h.core s h.stands h.ready

-- a step of code that stands for a core, under settings that stay
goes : {H T : Type 0} (acts : Acting H) (does : Acting T) (t : Terms) (served : IsServed t) (crews : Crews) (shape : Shape) (c : Core AState) (s n : State (Recorded H) (Recorded T)) (step : Step) → Stands t served crews shape (views log_of log_of) (parts_of s) c → Ready t s → Steps (recorded_acts acts) (recorded_acts does) s step n → Goes t served crews shape log_of log_of c n
goes acts does t served crews shape c s n step st ready k = step_goes (recorded_acts acts) (recorded_acts does) t served crews shape log_of log_of (recorded_numbers acts) (recorded_numbers does) (recorded_tells acts) (recorded_tells does) c s n st ready step k

pub standing_goes : {H T : Type 0} (acts : Acting H) (does : Acting T) (s n : State (Recorded H) (Recorded T)) (step : Step) → Standing s → Steps (recorded_acts acts) (recorded_acts does) s step n → Standing n
standing_goes acts does s n step h k =
    let g = goes acts does h.terms h.served h.crews h.shape h.core s n step h.stands h.ready k in
    record { terms = h.terms; server = h.server; served = h.served; crews = h.crews; shape = h.shape; core = next h.terms (server h.terms h.served h.crews) h.core g.step.step; stands = g.step.stands; ready = g.ready }

-- the code stands for some core under these settings, and is ready for a step
abbrev pub StandsSome : {H T : Type 0} (t : Terms) → IsServed t → Crews → Shape → State (Recorded H) (Recorded T) → Type 0
StandsSome t served crews shape s = (c : Core AState) × (Stands t served crews shape (views log_of log_of) (parts_of s) c × Ready t s)

pub ran_stands : {H T : Type 0} (acts : Acting H) (does : Acting T) (t : Terms) (served : IsServed t) (crews : Crews) (shape : Shape) (steps : List Step) (s n : State (Recorded H) (Recorded T)) (c : Core AState) → Stands t served crews shape (views log_of log_of) (parts_of s) c → Ready t s → Ran (recorded_acts acts) (recorded_acts does) s steps n → StandsSome t served crews shape n
ran_stands acts does t served crews shape [] s n c st ready h = subst (StandsSome t served crews shape) (sym h) (c, (st, ready))
ran_stands acts does t served crews shape (x ∷ xs) s n c st ready (m, (k, rest)) =
    let g = goes acts does t served crews shape c s m x st ready k in
    ran_stands acts does t served crews shape xs m n (next t (server t served crews) c g.step.step) g.step.stands g.ready rest
