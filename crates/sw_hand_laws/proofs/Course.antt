-- In every state that a hand comes to all its laws hold.
use Rattle.std.proofs.Common.{◌≡◌, ℕ, ◌+◌, [], refl, subst, arith, inl, inr}
use Rattle.sw_step.specs.declared.actor.ActorId.{ActorId}
use Rattle.sw_record.specs.Terms.{Terms}
use Rattle.sw_past.specs.Routes.{IsHand}
use Rattle.sw_hand_laws.specs.Hand.{Got, Start, Ports, Stage, Idle, Stopped, Hand, turn}
use Rattle.sw_hand_laws.specs.Keeps.{Speaks}
use Rattle.sw_hand_laws.specs.Tasks.{Posting, Making}
use Rattle.sw_hand_laws.specs.Shows.{Showing}
use Rattle.sw_hand_laws.specs.Ending.{Ending}
use Rattle.sw_hand_laws.specs.Kept.{Kept, After, Went, Shown, Finished, taken, sent}
use Rattle.sw_hand_laws.specs.Moved.{PortsFit, SumFits}
use Rattle.sw_hand_laws.specs.Course.{new, Course, Begins, Turns, Good}
use Rattle.sw_hand_laws.proofs.Turns.{turn_keeps}
use Rattle.sw_hand_laws.proofs.Moments.{pipe_fits, shows, finished}
use Rattle.sw_hand_laws.proofs.Fitting.{turn_fits}
use Rattle.sw_hand_laws.proofs.Generations.{turn_generations}
use Rattle.sw_hand_laws.proofs.Owns.{turn_owns}
use Rattle.sw_hand_laws.proofs.Tallying.{turn_tallied}

new_speaks : (t : Terms) (y : ActorId) (left : ℕ) → Speaks t y Idle (new left)
new_speaks t y left = record { dialogue = tt; last = refl; mine = tt; owing = λ s. tt; carries = tt; told = refl; talk = λ s. refl; routed = tt }

new_posting : (w left : ℕ) → Posting w (new left)
new_posting w left = record { logged = record { posted = tt; answers = refl; tasks = refl }; mail = record { counting = tt; pushes = refl; places = tt }; overs = omega arith }

new_making : (left : ℕ) → Making Idle (new left)
new_making left = record { gave = λ w. refl; nows = λ w. tt; overs = λ w. refl; last = λ w. inl tt }

new_showing : (t : Terms) (left : ℕ) → Showing t Idle (new left)
new_showing t left = record { passes = refl; bounds = refl; others = refl; seat = refl; sums = refl; fulls = refl; stops = refl; busy = refl; spents = refl; finds = tt; grants = tt; pending = tt; owned = λ s o. absurd (cc); current = λ s. tt; asks = tt }

new_ending : (t : Terms) (y : ActorId) (left : ℕ) → Ending t y Idle (new left)
new_ending t y left = record { counted = refl; work = []; split = refl; quiet = tt; stops = tt }

pub new_good : (t : Terms) (y : ActorId) (c : ℕ) (left : ℕ) → Good t y c left Idle (new left) Start
new_good t y c left = record {
  kept = record { speaks = new_speaks t y left; posting = λ w r. new_posting w left; making = new_making left; showing = new_showing t left; ending = new_ending t y left };
  fitting = record { fits = tt; replayed = (refl, refl); pending = tt };
  generations = record { joined = refl; over = tt; dialogue = tt; events = refl; few = inr (inr (omega arith)); never = λ z. refl; number = omega arith };
  tallied = record { words = λ k. inl (refl, omega arith); sums = tt };
  owns = record { current = λ s. tt; heard = λ s q. refl; spread = λ q n. refl; quiet = λ s f o. refl };
  fits = tt;
}

good_turn : (t : Terms) (y : ActorId) (c : ℕ) (left : ℕ) (p : Ports) (st : Stage) (h : Hand) (got after : Got) → IsHand t y → PortsFit t st h p → SumFits st h p → After t (turn t y c p st h got).ask after → Good t y c left st h got → Good t y c left (turn t y c p st h got).stage (turn t y c p st h got).hand after
good_turn t y c left p st h got after hand u s a g =
    let went = turn_keeps t y c p st h got hand g.fits g.kept in
    record {
      kept = went.kept;
      fitting = turn_fits t y c p st h got u g.fits g.kept g.fitting;
      generations = turn_generations t y c (left + 1) p st h got u g.fits g.kept g.generations;
      tallied = turn_tallied t y c p st h got u s g.fits g.kept g.tallied;
      owns = turn_owns t y c p st h got u g.fits g.kept g.owns;
      fits = pipe_fits t (turn t y c p st h got).stage (turn t y c p st h got).ask after went.fits a;
    }

pub good : (t : Terms) (y : ActorId) (c : ℕ) (left : ℕ) (st : Stage) (h : Hand) (got : Got) → IsHand t y → Course t y c left st h got → Good t y c left st h got
good t y c left st h got hand Begins = new_good t y c left
good t y c left st h got hand (Turns st₁ h₁ got₁ p after k u s a) = good_turn t y c left p st₁ h₁ got₁ after hand u s a (good t y c left st₁ h₁ got₁ hand k)

-- before each turn, with what is on its way
pub shows_before : (t : Terms) (y : ActorId) (c : ℕ) (left : ℕ) (st : Stage) (h : Hand) (got : Got) → IsHand t y → Course t y c left st h got → Shown t y (taken got h.took) (sent t st got h.pushed) h.log
shows_before t y c left st h got hand k = let g = good t y c left st h got hand k in shows t y st h got hand g.fits g.kept g.fitting.fits

-- behind each turn, with its ask not yet made, and where that is the last
pub kept_behind : (t : Terms) (y : ActorId) (c : ℕ) (left : ℕ) (p : Ports) (st : Stage) (h : Hand) (got : Got) → IsHand t y → Course t y c left st h got → Went t y (turn t y c p st h got)
kept_behind t y c left p st h got hand k = let g = good t y c left st h got hand k in turn_keeps t y c p st h got hand g.fits g.kept

pub finished_behind : (t : Terms) (y : ActorId) (c : ℕ) (left : ℕ) (p : Ports) (st : Stage) (h : Hand) (got : Got) → IsHand t y → Course t y c left st h got → (turn t y c p st h got).stage ≡ Stopped → Finished t y (turn t y c p st h got).hand.took (turn t y c p st h got).hand.pushed (turn t y c p st h got).hand.log
finished_behind t y c left p st h got hand k q = finished t y (turn t y c p st h got).hand (subst (λ x. Kept t y x (turn t y c p st h got).hand) q (kept_behind t y c left p st h got hand k).kept)
