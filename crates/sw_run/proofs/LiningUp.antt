-- Players lined up: the door, reactors, workers, task workers.
use Rattle.std.proofs.Common.{◌≡◌, List, [], ◌∷◌, ◌++◌, refl, sym, ap, append_assoc, append-nil, ◌∙◌, map, subst}
use Rattle.std.proofs.lemmas.List.{map-append}
use Rattle.std.specs.Global.{Vec}
use Rattle.sw_players.specs.declared.actor.Actor.{Actor}
use Rattle.sw_players.specs.Actors.{actor_made}
use Rattle.sw_players.specs.Made.{Made, of_door, of_reactor, of_worker, of_tasker}
use Rattle.sw_run.specs.LinedUp.{AreReactors, IsLineUp}
use Rattle.sw_sweep.proofs.Taking.{mapped_more, mapped_all}
use Rattle.sw_sweep.specs.Told.{nets_of, workers_of, taskers_of}

-- one more is added
pub one_added : {X : Type 0} (start added now more : List X) (x : X) → more ≡ now ++ x ∷ [] → now ≡ start ++ added → more ≡ start ++ (added ++ x ∷ [])
one_added start added now more x e was = e ∙ ap (λ l. l ++ x ∷ []) was ∙ append_assoc start added (x ∷ [])

module _ {N J E H T L A B : Type 0} (f : H → A) (g : T → B) where
  -- a worker more
  pub worker_more : (players more : List (Actor N J E H T L)) (player : Actor N J E H T L) (handlers : List (Vec H)) (some : Vec H) → more ≡ players ++ player ∷ [] → actor_made f g player ≡ of_worker (map f some.items)
      → map (actor_made f g) players ≡ map (λ (hs : Vec H). of_worker (map f hs.items)) handlers → map (actor_made f g) more ≡ map (λ (hs : Vec H). of_worker (map f hs.items)) (handlers ++ some ∷ [])
  worker_more players more player handlers some e same was =
      mapped_more (actor_made f g) (λ (hs : Vec H). of_worker (map f hs.items)) players more player handlers some e same was

  pub workers_all : (players : List (Actor N J E H T L)) (taken handlers : List (Vec H)) → map (actor_made f g) players ≡ map (λ (hs : Vec H). of_worker (map f hs.items)) taken → taken ≡ handlers
      → map (actor_made f g) players ≡ map (λ (hs : Vec H). of_worker (map f hs.items)) handlers
  workers_all players taken handlers was same = mapped_all (actor_made f g) (λ (hs : Vec H). of_worker (map f hs.items)) players taken handlers was same

  -- a task worker more
  pub tasker_more : (players more : List (Actor N J E H T L)) (player : Actor N J E H T L) (handlers : List T) (one : T) → more ≡ players ++ player ∷ [] → actor_made f g player ≡ of_tasker (g one)
      → map (actor_made f g) players ≡ map (λ (t : T). of_tasker (g t)) handlers → map (actor_made f g) more ≡ map (λ (t : T). of_tasker (g t)) (handlers ++ one ∷ [])
  tasker_more players more player handlers one e same was =
      mapped_more (actor_made f g) (λ (t : T). of_tasker (g t)) players more player handlers one e same was

  pub taskers_all : (players : List (Actor N J E H T L)) (taken handlers : List T) → map (actor_made f g) players ≡ map (λ (t : T). of_tasker (g t)) taken → taken ≡ handlers
      → map (actor_made f g) players ≡ map (λ (t : T). of_tasker (g t)) handlers
  taskers_all players taken handlers was same = mapped_all (actor_made f g) (λ (t : T). of_tasker (g t)) players taken handlers was same

-- a map of a map
twice : {X Y Z : Type 0} (f : Y → Z) (k : X → Y) (xs : List X) → map (λ x. f (k x)) xs ≡ map f (map k xs)
twice f k [] = refl
twice f k (x ∷ xs) = ap (λ l. f (k x) ∷ l) (twice f k xs)

-- a task worker, by what its handler was made with
abbrev as_tasker : (N H : Type 0) {T : Type 0} → T → Made N H T
as_tasker N H t = of_tasker t

taskers_nets : (N H : Type 0) {T : Type 0} (ts : List T) → nets_of (map (as_tasker N H) ts) ≡ []
taskers_nets N H [] = refl
taskers_nets N H (t ∷ ts) = taskers_nets N H ts

taskers_workers : (N H : Type 0) {T : Type 0} (ts : List T) → workers_of (map (as_tasker N H) ts) ≡ []
taskers_workers N H [] = refl
taskers_workers N H (t ∷ ts) = taskers_workers N H ts

taskers_taskers : (N H : Type 0) {T : Type 0} (ts : List T) → taskers_of (map (as_tasker N H) ts) ≡ ts
taskers_taskers N H [] = refl
taskers_taskers N H (t ∷ ts) = ap (λ l. t ∷ l) (taskers_taskers N H ts)

module _ {N H T : Type 0} where
  reactors_nets : (ms ns : List (Made N H T)) → AreReactors ms → nets_of (ms ++ ns) ≡ nets_of ns
  reactors_nets [] ns h = refl
  reactors_nets (of_door n ∷ ms) ns h = absurd h
  reactors_nets (of_reactor ∷ ms) ns h = reactors_nets ms ns h
  reactors_nets (of_worker w ∷ ms) ns h = absurd h
  reactors_nets (of_tasker t ∷ ms) ns h = absurd h

  reactors_workers : (ms ns : List (Made N H T)) → AreReactors ms → workers_of (ms ++ ns) ≡ workers_of ns
  reactors_workers [] ns h = refl
  reactors_workers (of_door n ∷ ms) ns h = absurd h
  reactors_workers (of_reactor ∷ ms) ns h = reactors_workers ms ns h
  reactors_workers (of_worker w ∷ ms) ns h = absurd h
  reactors_workers (of_tasker t ∷ ms) ns h = absurd h

  reactors_taskers : (ms ns : List (Made N H T)) → AreReactors ms → taskers_of (ms ++ ns) ≡ taskers_of ns
  reactors_taskers [] ns h = refl
  reactors_taskers (of_door n ∷ ms) ns h = absurd h
  reactors_taskers (of_reactor ∷ ms) ns h = reactors_taskers ms ns h
  reactors_taskers (of_worker w ∷ ms) ns h = absurd h
  reactors_taskers (of_tasker t ∷ ms) ns h = absurd h

  abbrev worker_of : H → Made N H T
  worker_of w = of_worker w

  workers_nets : (ws : List H) (ns : List (Made N H T)) → nets_of (map worker_of ws ++ ns) ≡ nets_of ns
  workers_nets [] ns = refl
  workers_nets (w ∷ ws) ns = workers_nets ws ns

  workers_workers : (ws : List H) (ns : List (Made N H T)) → workers_of (map worker_of ws ++ ns) ≡ ws ++ workers_of ns
  workers_workers [] ns = refl
  workers_workers (w ∷ ws) ns = ap (λ l. w ∷ l) (workers_workers ws ns)

  workers_taskers : (ws : List H) (ns : List (Made N H T)) → taskers_of (map worker_of ws ++ ns) ≡ taskers_of ns
  workers_taskers [] ns = refl
  workers_taskers (w ∷ ws) ns = workers_taskers ws ns

  all_made : (net : N) (rs : List (Made N H T)) (ws : List H) (ts : List T) → AreReactors rs → IsLineUp net ws ts (of_door net ∷ (rs ++ (map worker_of ws ++ map (as_tasker N H) ts)))
  all_made net rs ws ts h = record {
    nets_are = ap (λ l. net ∷ l) (reactors_nets rs _ h ∙ workers_nets ws _ ∙ taskers_nets N H ts);
    workers_are = reactors_workers rs _ h ∙ workers_workers ws _ ∙ ap (λ l. ws ++ l) (taskers_workers N H ts) ∙ append-nil ws;
    taskers_are = reactors_taskers rs _ h ∙ workers_taskers ws _ ∙ taskers_taskers N H ts;
  }

  -- players in this order, each made so
  pub lined_up : {P X Y : Type 0} (made : P → Made N H T) (net : N) (door : P) (rs ws ts all : List P) (hs : List X) (k : X → H) (us : List Y) (j : Y → T)
      → all ≡ door ∷ (rs ++ (ws ++ ts)) → made door ≡ of_door net → AreReactors (map made rs)
      → map made ws ≡ map (λ x. of_worker (k x)) hs → map made ts ≡ map (λ y. of_tasker (j y)) us
      → IsLineUp net (map k hs) (map j us) (map made all)
  lined_up made net door rs ws ts all hs k us j are is_door are_reactors are_workers are_taskers =
      let hands : map made (ws ++ ts) ≡ map worker_of (map k hs) ++ map (as_tasker N H) (map j us) =
      map-append made ws ts ∙ ap (λ l. l ++ map made ts) (are_workers ∙ twice worker_of k hs) ∙ ap (λ l. map worker_of (map k hs) ++ l) (are_taskers ∙ twice (as_tasker N H) j us) in
      let same : map made all ≡ of_door net ∷ (map made rs ++ (map worker_of (map k hs) ++ map (as_tasker N H) (map j us))) =
      ap (map made) are ∙ ap (λ m. m ∷ map made (rs ++ (ws ++ ts))) is_door ∙ ap (λ l. of_door net ∷ l) (map-append made rs (ws ++ ts) ∙ ap (λ l. map made rs ++ l) hands) in
      subst (IsLineUp net (map k hs) (map j us)) (sym same) (all_made net (map made rs) (map k hs) (map j us) are_reactors)

  reactors_more : (ms : List (Made N H T)) → AreReactors ms → AreReactors (ms ++ of_reactor ∷ [])
  reactors_more [] h = tt
  reactors_more (of_door n ∷ ms) h = absurd h
  reactors_more (of_reactor ∷ ms) h = reactors_more ms h
  reactors_more (of_worker w ∷ ms) h = absurd h
  reactors_more (of_tasker t ∷ ms) h = absurd h

  -- one reactor more
  pub more_reactor : {P : Type 0} (made : P → Made N H T) (xs ys : List P) (x : P) → ys ≡ xs ++ x ∷ [] → made x ≡ of_reactor → AreReactors (map made xs) → AreReactors (map made ys)
  more_reactor made xs ys x e is was =
      subst AreReactors (sym (ap (map made) e ∙ map-append made xs (x ∷ []) ∙ ap (λ m. map made xs ++ m ∷ []) is)) (reactors_more (map made xs) was)
