-- Only the door pushes links.
use Rattle.std.proofs.Common.{◌≡◌, ◌⊎◌, ℕ, ◌<◌, nat_lt, Bool, true, false, if◌then◌else◌, List, [], ◌∷◌, ◌++◌, length, refl, sym, subst, ◌∙◌, arith, inl, inr}
use Rattle.std.proofs.lemmas.Bool.Decides.{nat_tests}
use Rattle.sw_lists.proofs.Lists.{each_right}
use Rattle.sw_step.specs.declared.actor.ActorId.{ActorId}
use Rattle.sw_step.specs.declared.actor.ActorId.TheVariants.{Door, Reactor, Worker, Tasker}
use Rattle.sw_record.specs.Terms.{Terms}
use Rattle.sw_record.specs.Places.{Ran}
use Rattle.sw_past.specs.Messages.{Message, FreshMsg, SendMsg, CloseMsg, ResetMsg, Bye, EventMsg, OverMsg, NoMore}
use Rattle.sw_past.specs.Routes.{MayPush, ToWorker}
use Rattle.sw_world_laws.specs.Turns.{AskPush, GotPushed, HasPipe, Diary}
use Rattle.sw_world_laws.specs.Shows.{Shows, HasWord}
use Rattle.sw_world_laws.specs.Actors.{Actors}
use Rattle.sw_world_laws.specs.World.{Pending, Waits, Core, there, has_room}
use Rattle.sw_world_laws.specs.History.{diary_of, LocalBy}
use Rattle.sw_world_laws.specs.Law.{Law}
use Rattle.sw_world_laws.proofs.Locals.{test_lt, words_found}
use Rattle.sw_world_stands.specs.New.{NoLink}
use Rattle.sw_world_stands.specs.Rows.{LinksByDoor}

-- who has room has a pipe
passed : (n k : ℕ) (b c : Bool) → nat_lt n k ≡ b → (if b then c else false) ≡ true → n < k
passed n k true c e q = grind (arith, nat_tests)
passed n k false c e q = absurd (cc)

has_pipe : (t : Terms) (x : ActorId) (ms : List Message) → has_room t x ms ≡ true → HasPipe t x
has_pipe t Door ms q = absurd (cc)
has_pipe t (Reactor n) ms q = passed n t.reactor_num (nat_lt n t.reactor_num) (nat_lt (length ms) t.pipe_capacity) refl q
has_pipe t (Worker n) ms q = passed n t.worker_num (nat_lt n t.worker_num) (nat_lt (length ms) t.pipe_capacity) refl q
has_pipe t (Tasker n) ms q = passed n t.tasker_num (nat_lt n t.tasker_num) (nat_lt (length ms) t.pipe_capacity) refl q

-- a reactor pushes none
to_worker : (t : Terms) (x : ActorId) (m : Message) → ToWorker t (x, m) → NoLink m
to_worker t x (FreshMsg ip s) h = absurd h
to_worker t x (SendMsg s b) h = tt
to_worker t x (CloseMsg s) h = tt
to_worker t x (ResetMsg s) h = tt
to_worker t x (Bye s) h = tt
to_worker t x (EventMsg e) h = tt
to_worker t x (OverMsg id) h = tt
to_worker t x NoMore h = tt

-- who isn't the door pushes none
by_other : (t : Terms) (y x : ActorId) (m : Message) → ¬ (y ≡ Door) → MayPush t y x m → NoLink m
by_other t y x (FreshMsg ip s) ne h = absurd (ne h.0)
by_other t y x (SendMsg s b) ne h = tt
by_other t y x (CloseMsg s) ne h = tt
by_other t y x (ResetMsg s) ne h = tt
by_other t y x (Bye s) ne h = tt
by_other t y x (EventMsg e) ne h = tt
by_other t y x (OverMsg id) ne h = tt
by_other t y x NoMore ne h = tt

-- ONLY THE DOOR PUSHES LINKS
pub links_by_door : (t : Terms) (legal : List Ran → Type 0) (p : Actors t) (c : Core p.State) → Law t legal p c → (y : ActorId) → there t y ≡ true → LinksByDoor t c y
links_by_door t legal p c (h, l) y here x m e room = pick y refl here
  where
    after : Diary
    after = let d = diary_of h y in record d { pushed = d.pushed ++ (x, m) ∷ [] }

    shows : Shows t y (p.log (c.states y)) (p.kept (c.states y)) (p.told (c.states y)) after
    shows =
        let q : LocalBy t p y (c.states y) (Waits (AskPush x m)) (diary_of h y) = subst (λ (n : Pending). LocalBy t p y (c.states y) n (diary_of h y)) (sym e) (l.local y here) in
        p.shows y (c.states y) GotPushed after (q.0 (has_pipe t x (c.pipes x) room))

    pick : (z : ActorId) → y ≡ z → there t z ≡ true → (y ≡ Door) ⊎ NoLink m
    pick Door i g = inl i
    pick (Reactor n) i g =
        let lt : n < t.reactor_num = test_lt n t.reactor_num g in
        let law = (shows.reactor n lt i (subst (λ (z : ActorId). HasWord (h.dids z)) (sym i) (words_found t legal p c h l n lt))).0 in
        inr (to_worker t x m (each_right (ToWorker t) (h.pushed y) ((x, m) ∷ []) law.to_workers).0)
    pick (Worker n) i g = inr (by_other t y x m (λ q. let v : Worker n ≡ Door = sym i ∙ q in cc) (each_right (λ (a : ActorId × Message). MayPush t y a.0 a.1) (h.pushed y) ((x, m) ∷ []) (shows.hand (inl (n, (test_lt n t.worker_num g, i)))).law.routed).0)
    pick (Tasker n) i g = inr (by_other t y x m (λ q. let v : Tasker n ≡ Door = sym i ∙ q in cc) (each_right (λ (a : ActorId × Message). MayPush t y a.0 a.1) (h.pushed y) ((x, m) ∷ []) (shows.hand (inr (n, (test_lt n t.tasker_num g, i)))).law.routed).0)
