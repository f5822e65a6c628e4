-- Players sorted one by one.
use Rattle.std.proofs.Common.{◌≡◌, ℕ, zero, suc, arith, subst, All, List, [], ◌∷◌, ◌++◌, refl, sym, ap, append-nil, ◌∙◌}
use Rattle.std.proofs.lemmas.List.Elements.{All-append, All-tail}
use Rattle.sw_players.specs.declared.actor.Actor.{Actor}
use Rattle.sw_players.specs.declared.actor.Actor.TheVariants.{Door, Reactor, Worker, Tasker}
use Rattle.sw_players.specs.declared.door.AtDoor.{AtDoor}
use Rattle.sw_players.specs.declared.reactor.Reacting.{Reacting}
use Rattle.sw_players.specs.declared.tasker.Tasking.{Tasking}
use Rattle.sw_players.specs.declared.worker.Working.{Working}
use Rattle.sw_players.specs.Turns.{IsDoor}
use Rattle.sw_port_board.specs.declared.crew.Sizes.{Sizes}
use Rattle.sw_sweep.specs.declared.crew.Crew.{Crew}
use Rattle.sw_sweep.specs.Sorted.{doors_in, reactors_in, workers_in, taskers_in, IsAtReactor, DoorMore, ReactorMore, WorkerMore, TaskerMore, More, Sorted}

one : {X : Type 0} (P : X → Type 0) (x : X) → P x → All P (x ∷ [])
one P x p zero d lt = p
one P x p (suc k) d lt = absurd (omega arith)

none : {X : Type 0} (P : X → Type 0) → All P []
none P k d lt = absurd (omega arith)

more : {X : Type 0} (P : X → Type 0) (xs ys : List X) (x : X) → ys ≡ xs ++ x ∷ [] → All P xs → P x → All P ys
more P xs ys x e h p = subst (All P) (sym e) (All-append P xs (x ∷ []) h (one P x p))

last_all : {X : Type 0} (P : X → Type 0) (xs : List X) (x : X) → All P (xs ++ x ∷ []) → P x
last_all P [] x h = h 0 x (omega arith)
last_all P (y ∷ xs) x h = last_all P xs x (All-tail P y (xs ++ x ∷ []) h)

-- the last of doors is one
pub last_is : {N J E L : Type 0} (all others : List (AtDoor N J E L)) (last : AtDoor N J E L) → all ≡ others ++ last ∷ [] → All (λ (p : AtDoor N J E L). IsDoor p.door) all → IsDoor last.door
last_is {N} {J} {E} {L} all others last e h =
    last_all (λ (p : AtDoor N J E L). IsDoor p.door) others last (subst (All (λ (p : AtDoor N J E L). IsDoor p.door)) e h)

module _ {N J E H T L : Type 0} where
  doors_more : (ps : List (Actor N J E H T L)) (q : Actor N J E H T L) → doors_in (ps ++ q ∷ []) ≡ doors_in ps ++ doors_in (q ∷ [])
  doors_more [] (Door q) = refl
  doors_more [] (Reactor q) = refl
  doors_more [] (Worker q) = refl
  doors_more [] (Tasker q) = refl
  doors_more (Door p ∷ ps) q = ap (λ l. p ∷ l) (doors_more ps q)
  doors_more (Reactor p ∷ ps) q = doors_more ps q
  doors_more (Worker p ∷ ps) q = doors_more ps q
  doors_more (Tasker p ∷ ps) q = doors_more ps q

  reactors_more : (ps : List (Actor N J E H T L)) (q : Actor N J E H T L) → reactors_in (ps ++ q ∷ []) ≡ reactors_in ps ++ reactors_in (q ∷ [])
  reactors_more [] (Door q) = refl
  reactors_more [] (Reactor q) = refl
  reactors_more [] (Worker q) = refl
  reactors_more [] (Tasker q) = refl
  reactors_more (Door p ∷ ps) q = reactors_more ps q
  reactors_more (Reactor p ∷ ps) q = ap (λ l. p ∷ l) (reactors_more ps q)
  reactors_more (Worker p ∷ ps) q = reactors_more ps q
  reactors_more (Tasker p ∷ ps) q = reactors_more ps q

  workers_more : (ps : List (Actor N J E H T L)) (q : Actor N J E H T L) → workers_in (ps ++ q ∷ []) ≡ workers_in ps ++ workers_in (q ∷ [])
  workers_more [] (Door q) = refl
  workers_more [] (Reactor q) = refl
  workers_more [] (Worker q) = refl
  workers_more [] (Tasker q) = refl
  workers_more (Door p ∷ ps) q = workers_more ps q
  workers_more (Reactor p ∷ ps) q = workers_more ps q
  workers_more (Worker p ∷ ps) q = ap (λ l. p ∷ l) (workers_more ps q)
  workers_more (Tasker p ∷ ps) q = workers_more ps q

  taskers_more : (ps : List (Actor N J E H T L)) (q : Actor N J E H T L) → taskers_in (ps ++ q ∷ []) ≡ taskers_in ps ++ taskers_in (q ∷ [])
  taskers_more [] (Door q) = refl
  taskers_more [] (Reactor q) = refl
  taskers_more [] (Worker q) = refl
  taskers_more [] (Tasker q) = refl
  taskers_more (Door p ∷ ps) q = taskers_more ps q
  taskers_more (Reactor p ∷ ps) q = taskers_more ps q
  taskers_more (Worker p ∷ ps) q = taskers_more ps q
  taskers_more (Tasker p ∷ ps) q = ap (λ l. p ∷ l) (taskers_more ps q)

  pub sorted_none : (words : ℕ) (sizes : Sizes) (c : Crew N J E H T L) → c.doors.items ≡ [] → c.reactors.items ≡ [] → c.workers.items ≡ [] → c.taskers.items ≡ [] → Sorted words sizes [] c
  sorted_none words sizes c d r w t = record {
    doors = d;
    reactors = r;
    workers = w;
    taskers = t;
    are_doors = subst (All (λ (p : AtDoor N J E L). IsDoor p.door)) (sym d) (none _);
    are_reactors = subst (All (IsAtReactor words sizes)) (sym r) (none _);
  }

  pub sorted_more : (words : ℕ) (sizes : Sizes) (ps : List (Actor N J E H T L)) (p : Actor N J E H T L) (c d : Crew N J E H T L) → Sorted words sizes ps c → More words sizes p c d → Sorted words sizes (ps ++ p ∷ []) d
  sorted_more words sizes ps (Door p) c d s m = record {
    doors = m.1 ∙ ap (λ l. l ++ p ∷ []) s.doors ∙ sym (doors_more ps (Door p));
    reactors = m.2 ∙ s.reactors ∙ sym (reactors_more ps (Door p) ∙ append-nil (reactors_in ps));
    workers = m.3 ∙ s.workers ∙ sym (workers_more ps (Door p) ∙ append-nil (workers_in ps));
    taskers = m.4 ∙ s.taskers ∙ sym (taskers_more ps (Door p) ∙ append-nil (taskers_in ps));
    are_doors = more (λ (q : AtDoor N J E L). IsDoor q.door) c.doors.items d.doors.items p m.1 s.are_doors m.0;
    are_reactors = subst (All (IsAtReactor words sizes)) (sym m.2) s.are_reactors;
  }
  sorted_more words sizes ps (Reactor p) c d s m = record {
    doors = m.2 ∙ s.doors ∙ sym (doors_more ps (Reactor p) ∙ append-nil (doors_in ps));
    reactors = m.1 ∙ ap (λ l. l ++ p ∷ []) s.reactors ∙ sym (reactors_more ps (Reactor p));
    workers = m.3 ∙ s.workers ∙ sym (workers_more ps (Reactor p) ∙ append-nil (workers_in ps));
    taskers = m.4 ∙ s.taskers ∙ sym (taskers_more ps (Reactor p) ∙ append-nil (taskers_in ps));
    are_doors = subst (All (λ (q : AtDoor N J E L). IsDoor q.door)) (sym m.2) s.are_doors;
    are_reactors = more (IsAtReactor words sizes) c.reactors.items d.reactors.items p m.1 s.are_reactors m.0;
  }
  sorted_more words sizes ps (Worker p) c d s m = record {
    doors = m.1 ∙ s.doors ∙ sym (doors_more ps (Worker p) ∙ append-nil (doors_in ps));
    reactors = m.2 ∙ s.reactors ∙ sym (reactors_more ps (Worker p) ∙ append-nil (reactors_in ps));
    workers = m.0 ∙ ap (λ l. l ++ p ∷ []) s.workers ∙ sym (workers_more ps (Worker p));
    taskers = m.3 ∙ s.taskers ∙ sym (taskers_more ps (Worker p) ∙ append-nil (taskers_in ps));
    are_doors = subst (All (λ (q : AtDoor N J E L). IsDoor q.door)) (sym m.1) s.are_doors;
    are_reactors = subst (All (IsAtReactor words sizes)) (sym m.2) s.are_reactors;
  }
  sorted_more words sizes ps (Tasker p) c d s m = record {
    doors = m.1 ∙ s.doors ∙ sym (doors_more ps (Tasker p) ∙ append-nil (doors_in ps));
    reactors = m.2 ∙ s.reactors ∙ sym (reactors_more ps (Tasker p) ∙ append-nil (reactors_in ps));
    workers = m.3 ∙ s.workers ∙ sym (workers_more ps (Tasker p) ∙ append-nil (workers_in ps));
    taskers = m.0 ∙ ap (λ l. l ++ p ∷ []) s.taskers ∙ sym (taskers_more ps (Tasker p));
    are_doors = subst (All (λ (q : AtDoor N J E L). IsDoor q.door)) (sym m.1) s.are_doors;
    are_reactors = subst (All (IsAtReactor words sizes)) (sym m.2) s.are_reactors;
  }

  -- of the same players
  pub sorted_all : (words : ℕ) (sizes : Sizes) (ps qs : List (Actor N J E H T L)) (c : Crew N J E H T L) → ps ≡ qs → Sorted words sizes ps c → Sorted words sizes qs c
  sorted_all words sizes ps qs c same s = subst (λ l. Sorted words sizes l c) same s

  -- the same one more
  pub door_same : (p q : AtDoor N J E L) (c d : Crew N J E H T L) → q ≡ p → DoorMore q c d → DoorMore p c d
  door_same p q c d same h = subst (λ z. DoorMore z c d) same h

  pub reactor_same : (words : ℕ) (sizes : Sizes) (p q : Reacting L J E) (c d : Crew N J E H T L) → q ≡ p → ReactorMore words sizes q c d → ReactorMore words sizes p c d
  reactor_same words sizes p q c d same h = subst (λ z. ReactorMore words sizes z c d) same h

  pub worker_same : (p q : Working L J H) (c d : Crew N J E H T L) → q ≡ p → WorkerMore q c d → WorkerMore p c d
  worker_same p q c d same h = subst (λ z. WorkerMore z c d) same h

  pub tasker_same : (p q : Tasking L J T) (c d : Crew N J E H T L) → q ≡ p → TaskerMore q c d → TaskerMore p c d
  tasker_same p q c d same h = subst (λ z. TaskerMore z c d) same h
