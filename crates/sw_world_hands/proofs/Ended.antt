-- A hand pushes no NoMore before those of all that push to it came.
use Rattle.std.proofs.Common.{◌≡◌, ℕ, ◌+◌, ◌≤◌, List, [], ◌∷◌, ◌++◌, length, refl, ap, ◌∙◌, sym, subst, append-nil, arith}
use Rattle.sw_lists.specs.Lists.{collect, Each}
use Rattle.sw_lists.proofs.Lists.{length_append}
use Rattle.sw_step.specs.declared.actor.ActorId.{ActorId}
use Rattle.sw_step.specs.declared.actor.ActorId.TheVariants.{Door, Reactor, Worker, Tasker}
use Rattle.sw_record.specs.Terms.{Terms}
use Rattle.sw_past.specs.Messages.{Message}
use Rattle.sw_past.specs.Past.{Mail, bare}
use Rattle.sw_past.specs.Views.{no_more}
use Rattle.sw_world_laws.specs.Shows.{EndsCame}
use Rattle.sw_hand_laws.specs.Hand.{Got, Start, Took, Empty, Pushed, Full, Nothing, Stage, Idle, Acting, Sending, Leaving, Stopping, Stopped, Hand, enders}
use Rattle.sw_hand_laws.specs.Kept.{Kept, GotFits, taken, sent}
use Rattle.sw_hand_laws.proofs.Ending.{carried_not}
use Rattle.sw_hand_laws.proofs.Ends.{bare_collect, words_are}

-- by what was taken
ends_came : (t : Terms) (y : ActorId) (h : Hand) → h.ended ≡ length (collect no_more (bare h.took)) → enders t y ≤ h.ended → EndsCame t y h.took
ends_came t Door h e le = tt
ends_came t (Reactor n) h e le = tt
ends_came t (Worker w) h e le = omega (arith, e, le)
ends_came t (Tasker k) h e le = omega (arith, e, le)

pub came_as : (t : Terms) (y : ActorId) (a b : Mail) → bare a ≡ bare b → EndsCame t y a → EndsCame t y b
came_as t Door a b e h = tt
came_as t (Reactor n) a b e h = tt
came_as t (Worker w) a b e h = subst (λ (ms : List Message). t.reactor_num ≤ length (collect no_more ms)) e h
came_as t (Tasker k) a b e h = subst (λ (ms : List Message). t.worker_num ≤ length (collect no_more ms)) e h

came_more : (t : Terms) (y : ActorId) (took : Mail) (x : ActorId) (m : Message) → EndsCame t y took → EndsCame t y (took ++ (x, m) ∷ [])
came_more t Door took x m h = tt
came_more t (Reactor n) took x m h = tt
came_more t (Worker w) took x m h = omega (arith, h, ap length (bare_collect no_more took x m), length_append (collect no_more (bare took)) (no_more m))
came_more t (Tasker k) took x m h = omega (arith, h, ap length (bare_collect no_more took x m), length_append (collect no_more (bare took)) (no_more m))

-- a hand that isn't ending pushed none
work_quiet : (work : Mail) → Each (λ (p : ActorId × Message). no_more p.1 ≡ []) work → collect no_more (bare work) ≡ []
work_quiet [] h = refl
work_quiet (p ∷ work) h = ap (λ (ns : List ℕ). ns ++ collect no_more (bare work)) h.0 ∙ work_quiet work h.1

quiet_now : (work pushed : Mail) → pushed ≡ work ++ [] → Each (λ (p : ActorId × Message). no_more p.1 ≡ []) work → collect no_more (bare pushed) ≡ []
quiet_now work pushed e h = ap (λ (ms : Mail). collect no_more (bare ms)) (e ∙ append-nil work) ∙ work_quiet work h

quiet_one : (pushed : Mail) (to : ActorId) (m : Message) → no_more m ≡ [] → collect no_more (bare pushed) ≡ [] → collect no_more (bare (pushed ++ (to, m) ∷ [])) ≡ []
quiet_one pushed to m n e = bare_collect no_more pushed to m ∙ ap (λ (ns : List ℕ). ns ++ no_more m) e ∙ n

pub hand_still : (t : Terms) (y : ActorId) (st : Stage) (h : Hand) → Kept t y st h → ¬ (collect no_more (bare h.pushed) ≡ []) → EndsCame t y h.took
hand_still t y Idle h k some = absurd (some (quiet_now k.ending.work h.pushed k.ending.split k.ending.quiet))
hand_still t y (Acting e act) h k some = absurd (some (quiet_now k.ending.work h.pushed k.ending.split k.ending.quiet))
hand_still t y (Sending e act to m a) h k some = absurd (some (quiet_now k.ending.work h.pushed k.ending.split k.ending.quiet))
hand_still t y (Leaving e to m) h k some = absurd (some (quiet_now k.ending.work h.pushed k.ending.split k.ending.quiet))
hand_still t y (Stopping n) h k some = ends_came t y h k.ending.counted k.ending.stops.0
hand_still t y Stopped h k some = ends_came t y h k.ending.counted k.ending.stops.0

-- with the message on its way
hand_pushed : (t : Terms) (y : ActorId) (st : Stage) (h : Hand) → GotFits t st Pushed → Kept t y st h → ¬ (collect no_more (bare (sent t st Pushed h.pushed)) ≡ []) → EndsCame t y h.took
hand_pushed t y Idle h f k some = absurd f
hand_pushed t y (Acting e act) h f k some = absurd (cc)
hand_pushed t y (Sending e act to m a) h f k some = absurd (some (quiet_one h.pushed to m (carried_not t y h.next e act to m a k.speaks.carries) (quiet_now k.ending.work h.pushed k.ending.split k.ending.quiet)))
hand_pushed t y (Leaving e to m) h f k some = absurd (some (quiet_one h.pushed to m (words_are (λ (p : ActorId × Message). no_more p.1 ≡ []) (λ n s. refl) (λ v id. refl) t y e to m k.speaks.carries) (quiet_now k.ending.work h.pushed k.ending.split k.ending.quiet)))
hand_pushed t y (Stopping n) h f k some = ends_came t y h k.ending.counted k.ending.stops.0
hand_pushed t y Stopped h f k some = absurd f

pub hand_ended : (t : Terms) (y : ActorId) (st : Stage) (h : Hand) (got : Got) → GotFits t st got → Kept t y st h → ¬ (collect no_more (bare (sent t st got h.pushed)) ≡ []) → EndsCame t y (taken got h.took)
hand_ended t y st h Start f k some = hand_still t y st h k some
hand_ended t y st h Empty f k some = hand_still t y st h k some
hand_ended t y st h (Full n) f k some = hand_still t y st h k some
hand_ended t y st h Nothing f k some = hand_still t y st h k some
hand_ended t y st h (Took x m) f k some = came_more t y h.took x m (hand_still t y st h k some)
hand_ended t y st h Pushed f k some = hand_pushed t y st h f k some
