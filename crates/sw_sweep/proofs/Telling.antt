-- What sorted players were made with.
use Rattle.std.proofs.Common.{◌≡◌, ℕ, arith, subst, Bool, List, [], ◌∷◌, ◌++◌, length, refl, sym, ap, ◌∙◌, map}
use Rattle.sw_players.specs.declared.actor.Actor.{Actor}
use Rattle.sw_players.specs.declared.actor.Actor.TheVariants.{Door, Reactor, Worker, Tasker}
use Rattle.sw_players.specs.declared.door.AtDoor.{AtDoor}
use Rattle.sw_players.specs.declared.tasker.Tasking.{Tasking}
use Rattle.sw_players.specs.declared.worker.Working.{Working}
use Rattle.sw_players.specs.Actors.{actor_made}
use Rattle.sw_port_board.specs.declared.crew.Sizes.{Sizes}
use Rattle.sw_players.specs.Hears.{Hears}
use Rattle.sw_sweep.specs.declared.crew.Crew.{Crew}
use Rattle.sw_sweep.specs.declared.stopped.Stopped.{Stopped}
use Rattle.sw_sweep.specs.Ended.{IsLeft, IsLeftBy}
use Rattle.sw_sweep.specs.Sorted.{doors_in, workers_in, taskers_in, Sorted}
use Rattle.sw_sweep.specs.Told.{nets_of, workers_of, taskers_of}
use Rattle.sw_worker.specs.Generations.{made}

-- the last of one thing is that one
last_only : {X : Type 0} (all others : List X) (last x : X) → all ≡ others ++ last ∷ [] → all ≡ x ∷ [] → last ≡ x
last_only all [] last x e one = let h = sym e ∙ one in cc
last_only all (y ∷ []) last x e one = absurd (let l = ap length (sym e ∙ one) in omega (arith, l))
last_only all (y ∷ z ∷ others) last x e one = absurd (let l = ap length (sym e ∙ one) in omega (arith, l))

-- what is told of the last door is told of the only one
pub last_heard : {N J E L : Type 0} (faults : N → ℕ) (all others : List (AtDoor N J E L)) (last door : AtDoor N J E L) (net : N) (failed : Bool) → all ≡ others ++ last ∷ [] → all ≡ door ∷ [] → Hears (faults last.net.was) (faults net) failed → Hears (faults door.net.was) (faults net) failed
last_heard {N} {J} {E} {L} faults all others last door net failed e one h =
    subst (λ (d : AtDoor N J E L). Hears (faults d.net.was) (faults net) failed) (last_only all others last door e one) h

-- of one thing, one was made
pub only : {X Y : Type 0} (f : X → Y) (xs : List X) (y : Y) → map f xs ≡ y ∷ [] → (x : X) × (xs ≡ x ∷ []) × (f x ≡ y)
only f [] y e = absurd (cc)
only f (x ∷ []) y e = (x, refl, cc)
only f (x ∷ z ∷ xs) y e = absurd (let l = ap length e in omega (arith, l))

module _ {N J E H T L A B : Type 0} (f : H → A) (g : T → B) where
  pub doors_told : (ps : List (Actor N J E H T L)) → map (λ (p : AtDoor N J E L). p.net.was) (doors_in ps) ≡ nets_of (map (actor_made f g) ps)
  doors_told [] = refl
  doors_told (Door p ∷ ps) = ap (λ l. p.net.was ∷ l) (doors_told ps)
  doors_told (Reactor p ∷ ps) = doors_told ps
  doors_told (Worker p ∷ ps) = doors_told ps
  doors_told (Tasker p ∷ ps) = doors_told ps

  pub workers_told : (ps : List (Actor N J E H T L)) → map (λ (p : Working L J H). made f p.worker.handler) (workers_in ps) ≡ workers_of (map (actor_made f g) ps)
  workers_told [] = refl
  workers_told (Door p ∷ ps) = workers_told ps
  workers_told (Reactor p ∷ ps) = workers_told ps
  workers_told (Worker p ∷ ps) = ap (λ l. made f p.worker.handler ∷ l) (workers_told ps)
  workers_told (Tasker p ∷ ps) = workers_told ps

  pub taskers_told : (ps : List (Actor N J E H T L)) → map (λ (p : Tasking L J T). g p.tasker.handler) (taskers_in ps) ≡ taskers_of (map (actor_made f g) ps)
  taskers_told [] = refl
  taskers_told (Door p ∷ ps) = taskers_told ps
  taskers_told (Reactor p ∷ ps) = taskers_told ps
  taskers_told (Worker p ∷ ps) = taskers_told ps
  taskers_told (Tasker p ∷ ps) = ap (λ l. g p.tasker.handler ∷ l) (taskers_told ps)

-- the one door
only_door : {N J E H T L A B : Type 0} (f : H → A) (g : T → B) (ps : List (Actor N J E H T L)) (c : Crew N J E H T L) (was : N)
    → c.doors.items ≡ doors_in ps → nets_of (map (actor_made f g) ps) ≡ was ∷ [] → (d : AtDoor N J E L) × (c.doors.items ≡ d ∷ []) × (d.net.was ≡ was)
only_door {N} {J} {E} {H} {T} {L} f g ps c was are one =
    only (λ (d : AtDoor N J E L). d.net.was) c.doors.items was (ap (λ l. map (λ (d : AtDoor N J E L). d.net.was) l) are ∙ doors_told f g ps ∙ one)

-- what is left is that of the players
pub left : {N J E H T L A B : Type 0} (f : H → A) (g : T → B) (faults : N → ℕ) (words : ℕ) (sizes : Sizes) (ps : List (Actor N J E H T L)) (c : Crew N J E H T L) (s : Stopped N E H T) (failed : Bool)
    → Sorted words sizes ps c → IsLeftBy f g faults c s failed → IsLeft f g faults (map (actor_made f g) ps) s failed
left {N} {J} {E} {H} {T} {L} f g faults words sizes ps c s failed sorted by = record {
  workers = by.workers ∙ ap (λ l. map (λ (w : Working L J H). made f w.worker.handler) l) sorted.workers ∙ workers_told f g ps;
  taskers = by.taskers ∙ ap (λ l. map (λ (t : Tasking L J T). g t.tasker.handler) l) sorted.taskers ∙ taskers_told f g ps;
  hears = λ was one.
      let door : (d : AtDoor N J E L) × (c.doors.items ≡ d ∷ []) × (d.net.was ≡ was) = only_door f g ps c was sorted.doors one in
      subst (λ w. Hears (faults w) (faults s.net) failed) door.2 (by.hears door.0 door.1);
}
