-- The next of an actor: its pipe call is the world's, or a turn is due.
use Rattle.std.proofs.Common.{◌≡◌, ℕ, nat_lt, Bool, true, false, if◌then◌else◌, List, [], ◌∷◌, ◌++◌, length, map, refl, ap, ◌∙◌, sym, subst, zero-add, Option, Some, None}
use Rattle.std.proofs.lemmas.List.{length-map, map-append}
use Rattle.sw_step.specs.declared.actor.ActorId.{ActorId}
use Rattle.sw_data.specs.declared.messages.Ask.TheVariants as asks
use Rattle.sw_data.specs.declared.messages.Got.TheVariants as gots
use Rattle.sw_data.specs.declared.messages.Target.{Target}
use Rattle.sw_data.specs.declared.messages.Target.TheVariants as targets
use Rattle.sw_record.specs.Terms.{Terms}
use Rattle.sw_record.specs.Places.{Ran}
use Rattle.sw_past.specs.Messages.{Message}
use Rattle.sw_world_ports.specs.Ports.{set_at}
use Rattle.sw_world_laws.specs.Turns.{Got, AskTake, AskPush, AskNothing, AskRest, AskFinished}
use Rattle.sw_world_laws.specs.Actors.{Actors}
use Rattle.sw_world_laws.specs.World.{Pending, Waits, Gave, Lost, Core, Outcome, there, piped, has_room, took_of, left_of, push_got, push_left, goes, turned, MayGo, IsTurn}
use Rattle.sw_world_fits.specs.Board.{number_of}
use Rattle.sw_world_places.specs.Pipes.{Pipe, Sent, Asking, Getting, taken, left, pushed, with_pushed}
use Rattle.sw_world_places.specs.Place.{next_left}
use Rattle.sw_world_places.specs.Places.{Rows, AtRow, number_in, actor_of, PushesTo, Pushes, Calls, GoesBy, Goes}
use Rattle.sw_world_places.specs.declared.place.Next.{Next}
use Rattle.sw_world_places.specs.declared.place.Next.TheVariants as nexts
use Rattle.sw_world_places.specs.declared.place.Place.{Place}
use Rattle.sw_world_stands.specs.Asked.{bare_of, ask_of, got_of, next_of}
use Rattle.sw_world_stands.specs.New.{CarriesNew, OfDoor, GotNew, AskNew, NextNew}
use Rattle.sw_world_stands.specs.Rows.{PlaceStands, RowsStand, LinksByDoor, IsDue, WentBy, Went}
use Rattle.sw_world_stands.proofs.Gets.{some_same}
use Rattle.sw_world_stands.proofs.New.{each_behind, carries, left_new, taken_new, left_links}
use Rattle.sw_world_stands.proofs.Rows.{rows_ext, changed, set_same, set_twice}

-- a take
taken_is : (ms : List Sent) → got_of (taken ms) ≡ took_of (map bare_of ms)
taken_is [] = refl
taken_is (m ∷ ms) = refl

left_is : (ms : List Sent) → map bare_of (left ms) ≡ left_of (map bare_of ms)
left_is [] = refl
left_is (m ∷ ms) = refl

-- only what is next for an actor is changed
pub next_changed : (t : Terms) (r s : Rows) (nexts : ActorId → Pending) (pipes : ActorId → List Message) (y : ActorId) (P : Place → Place → Type 0) (x : Next) →
    there t y ≡ true → RowsStand t r nexts pipes → AtRow r (number_of t y) P s → ((c d : Place) → P c d → d ≡ record c { next = x }) → NextNew y x →
    RowsStand t s (set_at nexts y (next_of x)) pipes
next_changed t r s nexts pipes y P x here h at is new =
    rows_ext t s (set_at nexts y (next_of x)) (set_at nexts y (next_of x)) (set_at pipes y (pipes y)) pipes
    (changed t r s nexts pipes y P (next_of x) (pipes y) here h at (λ c d p st. subst (λ (q : Place). PlaceStands t y q (next_of x) (pipes y)) (sym (is c d p)) (record { next = refl; pipe = st.pipe; room = st.room; new = new; links = st.links })))
    (λ z. refl)
    (set_same pipes y (pipes y) refl)

-- a push's receiver has a pipe where it is there, and its number
piped_is : (t : Terms) (to : Target) → piped t (actor_of to) ≡ there t (actor_of to)
piped_is t (targets.Reactor n) = refl
piped_is t (targets.Worker n) = refl
piped_is t (targets.Tasker n) = refl

number_is : (t : Terms) (r : Rows) (nexts : ActorId → Pending) (pipes : ActorId → List Message) → RowsStand t r nexts pipes → (to : Target) → number_in r (actor_of to) ≡ (if there t (actor_of to) then Some (number_of t (actor_of to)) else None)
number_is t r nexts pipes h (targets.Reactor n) = rw (h.workers, h.taskers, h.reactors) refl
number_is t r nexts pipes h (targets.Worker n) = rw (h.workers, zero-add) refl
number_is t r nexts pipes h (targets.Tasker n) = rw (h.workers, h.taskers) refl

-- a push, by whether there is room
room_yes : (p : Pipe) (m : Sent) → nat_lt (length p.waiting) p.room ≡ true → (pushed p m ≡ gots.Pushed) × (with_pushed p m ≡ record p { waiting = p.waiting ++ m ∷ [] })
room_yes p m e = (ap (λ (b : Bool). if b then gots.Pushed else gots.Full m) e, ap (λ (b : Bool). if b then record p { waiting = p.waiting ++ m ∷ [] } else p) e)

room_no : (p : Pipe) (m : Sent) → nat_lt (length p.waiting) p.room ≡ false → (pushed p m ≡ gots.Full m) × (with_pushed p m ≡ p)
room_no p m e = (ap (λ (b : Bool). if b then gots.Pushed else gots.Full m) e, ap (λ (b : Bool). if b then record p { waiting = p.waiting ++ m ∷ [] } else p) e)

room_is : (t : Terms) (y : ActorId) (q : Place) (next : Pending) (pipe : List Message) → PlaceStands t y q next pipe → nat_lt (length q.inbox.waiting) q.inbox.room ≡ nat_lt (length pipe) t.pipe_capacity
room_is t y q next pipe st = ap (λ (n : ℕ). nat_lt (length q.inbox.waiting) n) st.room ∙ ap (λ (n : ℕ). nat_lt n t.pipe_capacity) (sym (length-map q.inbox.waiting bare_of) ∙ ap length st.pipe)

-- what a push answers, and what it leaves
record Pushing (t : Terms) (nexts : ActorId → Pending) (pipes : ActorId → List Message) (x : ActorId) (m : Sent) (b : Bool) (got : Getting) (s : Rows) : Type 0 where
  answer : got_of got ≡ push_got b (bare_of m)
  left : RowsStand t s nexts (if b then set_at pipes x (pipes x ++ bare_of m ∷ []) else pipes)
  new : (z : ActorId) → OfDoor z (CarriesNew m) → GotNew z got

abbrev Push : Sent → Getting → Place → Place → Type 0
Push m got c d = (got ≡ pushed c.inbox m) × (d ≡ record c { inbox = with_pushed c.inbox m })

with_room : (t : Terms) (r s : Rows) (nexts : ActorId → Pending) (pipes : ActorId → List Message) (x : ActorId) (m : Sent) (got : Getting) → there t x ≡ true → RowsStand t r nexts pipes →
    AtRow r (number_of t x) (Push m got) s →
    (b : Bool) → nat_lt (length (pipes x)) t.pipe_capacity ≡ b → (b ≡ true → CarriesNew m) → Pushing t nexts pipes x m b got s
with_room t r s nexts pipes x m got here h at true e fresh =
    let k = h.each x here in
    let same : k.0 ≡ at.0 = some_same k.0 at.0 (sym k.1.0 ∙ at.1.1.0) in
    let old : PlaceStands t x at.0 (nexts x) (pipes x) = subst (λ (q : Place). PlaceStands t x q (nexts x) (pipes x)) same k.1.1 in
    record {
      answer = ap got_of (at.1.1.1.0 ∙ (room_yes at.0.inbox m (room_is t x at.0 (nexts x) (pipes x) old ∙ e)).0);
      left = rows_ext t s (set_at nexts x (nexts x)) nexts (set_at pipes x (pipes x ++ bare_of m ∷ [])) (set_at pipes x (pipes x ++ bare_of m ∷ []))
          (changed t r s nexts pipes x (Push m got) (nexts x) (pipes x ++ bare_of m ∷ []) here h at (λ c d p st. more c d p st))
          (set_same nexts x (nexts x) refl) (λ z. refl);
      new = λ z o. subst (GotNew z) (sym (at.1.1.1.0 ∙ (room_yes at.0.inbox m (room_is t x at.0 (nexts x) (pipes x) old ∙ e)).0)) tt;
    }
  where
    more : (c d : Place) → Push m got c d → PlaceStands t x c (nexts x) (pipes x) → PlaceStands t x d (nexts x) (pipes x ++ bare_of m ∷ [])
    more c d p st =
        let is : d ≡ record c { inbox = record c.inbox { waiting = c.inbox.waiting ++ m ∷ [] } } = p.1 ∙ ap (λ (i : Pipe). record c { inbox = i }) (room_yes c.inbox m (room_is t x c (nexts x) (pipes x) st ∙ e)).1 in
        subst (λ (q : Place). PlaceStands t x q (nexts x) (pipes x ++ bare_of m ∷ [])) (sym is)
        (record { next = st.next; pipe = map-append bare_of c.inbox.waiting (m ∷ []) ∙ ap (λ (l : List Message). l ++ bare_of m ∷ []) st.pipe; room = st.room; new = st.new; links = each_behind c.inbox.waiting m st.links (fresh refl) })
with_room t r s nexts pipes x m got here h at false e fresh =
    let k = h.each x here in
    let same : k.0 ≡ at.0 = some_same k.0 at.0 (sym k.1.0 ∙ at.1.1.0) in
    let old : PlaceStands t x at.0 (nexts x) (pipes x) = subst (λ (q : Place). PlaceStands t x q (nexts x) (pipes x)) same k.1.1 in
    record {
      answer = ap got_of (at.1.1.1.0 ∙ (room_no at.0.inbox m (room_is t x at.0 (nexts x) (pipes x) old ∙ e)).0);
      left = rows_ext t s (set_at nexts x (nexts x)) nexts (set_at pipes x (pipes x)) pipes
          (changed t r s nexts pipes x (Push m got) (nexts x) (pipes x) here h at (λ c d p st. more c d p st))
          (set_same nexts x (nexts x) refl) (set_same pipes x (pipes x) refl);
      new = λ z o. subst (GotNew z) (sym (at.1.1.1.0 ∙ (room_no at.0.inbox m (room_is t x at.0 (nexts x) (pipes x) old ∙ e)).0)) o;
    }
  where
    more : (c d : Place) → Push m got c d → PlaceStands t x c (nexts x) (pipes x) → PlaceStands t x d (nexts x) (pipes x)
    more c d p st =
        let is : d ≡ c = p.1 ∙ ap (λ (i : Pipe). record c { inbox = i }) (room_no c.inbox m (room_is t x c (nexts x) (pipes x) st ∙ e)).1 in
        subst (λ (q : Place). PlaceStands t x q (nexts x) (pipes x)) (sym is) st

-- a push to any receiver
pushes : (t : Terms) (r s : Rows) (nexts : ActorId → Pending) (pipes : ActorId → List Message) (to : Target) (m : Sent) (got : Getting) → RowsStand t r nexts pipes →
    (has_room t (actor_of to) (pipes (actor_of to)) ≡ true → CarriesNew m) → Pushes r to m got s → Pushing t nexts pipes (actor_of to) m (has_room t (actor_of to) (pipes (actor_of to))) got s
pushes t r s nexts pipes to m got h fresh p = pick (there t (actor_of to)) refl (subst (λ (o : Option ℕ). PushesTo r o m got s) (number_is t r nexts pipes h to) p)
  where
    room_by : (b : Bool) → there t (actor_of to) ≡ b → has_room t (actor_of to) (pipes (actor_of to)) ≡ (if b then nat_lt (length (pipes (actor_of to))) t.pipe_capacity else false)
    room_by b e = ap (λ (v : Bool). if v then nat_lt (length (pipes (actor_of to))) t.pipe_capacity else false) (piped_is t to ∙ e)

    pick : (b : Bool) → there t (actor_of to) ≡ b → PushesTo r (if b then Some (number_of t (actor_of to)) else None) m got s → Pushing t nexts pipes (actor_of to) m (has_room t (actor_of to) (pipes (actor_of to))) got s
    pick true e q = subst (λ (b : Bool). Pushing t nexts pipes (actor_of to) m b got s) (sym (room_by true e)) (with_room t r s nexts pipes (actor_of to) m got e h q (nat_lt (length (pipes (actor_of to))) t.pipe_capacity) refl (λ i. fresh (room_by true e ∙ i)))
    pick false e q =
        subst (λ (b : Bool). Pushing t nexts pipes (actor_of to) m b got s) (sym (room_by false e))
        (record { answer = ap got_of q.0; left = subst (λ (w : Rows). RowsStand t w nexts pipes) (sym q.1) h; new = λ z o. subst (GotNew z) (sym q.0) o })

-- the pipes behind a push, as the world has them
left_by : {S : Type 0} (c : Core S) (x : ActorId) (m : Message) (b : Bool) (y : ActorId) → (if b then set_at c.pipes x (c.pipes x ++ m ∷ []) else c.pipes) y ≡ push_left c x m b y
left_by c x m true y = refl
left_by c x m false y = refl

module _ (t : Terms) (legal : List Ran → Type 0) (p : Actors t) (c : Core p.State) (y : ActorId) where
  -- what was asked for
  called : (r s : Rows) (n : Pending) (ask : Asking) (due : Option Getting) → there t y ≡ true → RowsStand t r (set_at c.nexts y n) c.pipes →
      LinksByDoor t c y → AskNew y ask → (ask ≡ asks.Finished → n ≡ Waits AskFinished) → Waits (ask_of ask) ≡ c.nexts y → Calls r (number_of t y) ask due s → WentBy t legal p c y due s (Waits (ask_of ask))
  called r s n asks.Take due here h by new f e k =
      subst (λ (d : Option Getting). WentBy t legal p c y d s (Waits AskTake)) (sym k.0)
      (λ o. (
        tt,
        (
          rows_ext t s (set_at (set_at c.nexts y n) y (Gave (took_of (c.pipes y)))) (set_at c.nexts y (Gave (took_of (c.pipes y)))) (set_at c.pipes y (left_of (c.pipes y))) (set_at c.pipes y (left_of (c.pipes y)))
              (changed t r s (set_at c.nexts y n) c.pipes y (λ a b. b ≡ record { next = nexts.Gave (taken a.inbox.waiting); inbox = record a.inbox { waiting = left a.inbox.waiting } }) (Gave (took_of (c.pipes y))) (left_of (c.pipes y)) here h k.1 (λ a b e st. takes a b e (set_at c.nexts y n y) st))
              (set_twice c.nexts y n (Gave (took_of (c.pipes y)))) (λ z. refl),
          record { states = refl; ports = refl; feed = refl; lost = refl },
        ),
      ))
    where
      takes : (a b : Place) → b ≡ record { next = nexts.Gave (taken a.inbox.waiting); inbox = record a.inbox { waiting = left a.inbox.waiting } } → (w : Pending) → PlaceStands t y a w (c.pipes y) → PlaceStands t y b (Gave (took_of (c.pipes y))) (left_of (c.pipes y))
      takes a b e w st =
          subst (λ (q : Place). PlaceStands t y q (Gave (took_of (c.pipes y))) (left_of (c.pipes y))) (sym e)
          (record {
            next = ap (λ (g : Got). Gave g) (taken_is a.inbox.waiting ∙ ap took_of st.pipe);
            pipe = left_is a.inbox.waiting ∙ ap left_of st.pipe;
            room = st.room;
            new = taken_new y a.inbox.waiting st.links;
            links = left_links a.inbox.waiting st.links;
          })
  called r s n (asks.Push to m) due here h by new f e k =
      let got = k.1.0 in
      let w = pushes t r k.1.1.0 (set_at c.nexts y n) c.pipes to m got h (λ room. carries y m new (by (actor_of to) (bare_of m) e room)) k.1.1.1.0 in
      let b : Bool = has_room t (actor_of to) (c.pipes (actor_of to)) in
      let mid : RowsStand t s (set_at (set_at c.nexts y n) y (Gave (got_of got))) (if b then set_at c.pipes (actor_of to) (c.pipes (actor_of to) ++ bare_of m ∷ []) else c.pipes) =
      next_changed t k.1.1.0 s (set_at c.nexts y n) (if b then set_at c.pipes (actor_of to) (c.pipes (actor_of to) ++ bare_of m ∷ []) else c.pipes) y (λ a d. d ≡ record a { next = nexts.Gave got }) (nexts.Gave got) here w.left k.1.1.1.1 (λ a d e. e) (w.new y new) in
      subst (λ (d : Option Getting). WentBy t legal p c y d s (Waits (AskPush (actor_of to) (bare_of m)))) (sym k.0)
      (λ o. (
        tt,
        (
          rows_ext t s (set_at (set_at c.nexts y n) y (Gave (got_of got))) (set_at c.nexts y (Gave (push_got b (bare_of m)))) (if b then set_at c.pipes (actor_of to) (c.pipes (actor_of to) ++ bare_of m ∷ []) else c.pipes) (push_left c (actor_of to) (bare_of m) b) mid
              (λ z. set_twice c.nexts y n (Gave (got_of got)) z ∙ ap (λ (g : Got). set_at c.nexts y (Gave g) z) w.answer)
              (left_by c (actor_of to) (bare_of m) b),
          record { states = refl; ports = refl; feed = refl; lost = refl },
        ),
      ))
  called r s n asks.Finished due here h by new f e k =
      subst (λ (d : Option Getting). WentBy t legal p c y d s (Waits AskFinished)) (sym k.0)
      (λ o. (tt, (subst (λ (w : Rows). RowsStand t w c.nexts c.pipes) (sym k.1) (rows_ext t r (set_at c.nexts y n) c.nexts c.pipes c.pipes h (set_same c.nexts y n (sym e ∙ sym (f refl))) (λ z. refl)), record { states = refl; ports = refl; feed = refl; lost = refl })))
  called r s n asks.Nothing due here h by new f e k = subst (λ (d : Option Getting). WentBy t legal p c y d s (Waits AskNothing)) (sym k.0) (refl, tt, (n, subst (λ (w : Rows). RowsStand t w (set_at c.nexts y n) c.pipes) (sym k.1) h))
  called r s n asks.Rest due here h by new f e k = subst (λ (d : Option Getting). WentBy t legal p c y d s (Waits AskRest)) (sym k.0) (refl, tt, (n, subst (λ (w : Rows). RowsStand t w (set_at c.nexts y n) c.pipes) (sym k.1) h))

  -- the next of an actor, by what it was
  by_next : (q s : Rows) (x : Next) (due : Option Getting) → there t y ≡ true → LinksByDoor t c y → NextNew y x → RowsStand t q (set_at c.nexts y (next_of (next_left x))) c.pipes → next_of x ≡ c.nexts y → GoesBy q (number_of t y) x due s → WentBy t legal p c y due s (next_of x)
  by_next q s (nexts.Gave got) due here by new h e k = subst (λ (d : Option Getting). WentBy t legal p c y d s (Gave (got_of got))) (sym k.0) (refl, new, (Gave (got_of gots.Nothing), subst (λ (w : Rows). RowsStand t w (set_at c.nexts y (Gave (got_of gots.Nothing))) c.pipes) (sym k.1) h))
  by_next q s (nexts.Asked ask) due here by new h e k = called q s (next_of (next_left (nexts.Asked ask))) ask due here h by new (λ i. ap (λ (a : Asking). next_of (next_left (nexts.Asked a))) i) e k

  -- THE NEXT OF AN ACTOR
  pub goes_stand : (r s : Rows) (due : Option Getting) → there t y ≡ true → LinksByDoor t c y → RowsStand t r c.nexts c.pipes → Goes r (number_of t y) due s → Went t legal p c y due s
  goes_stand r s due here by h g =
      let at = g.1.1.0 in
      let k = h.each y here in
      let same : k.0 ≡ at.0 = some_same k.0 at.0 (sym k.1.0 ∙ at.1.1.0) in
      let is : next_of g.0 ≡ c.nexts y = ap next_of (at.1.1.1.0 ∙ ap (λ (q : Place). q.next) (sym same)) ∙ k.1.1.next in
      let mid : RowsStand t g.1.0 (set_at c.nexts y (next_of (next_left g.0))) c.pipes =
      next_changed t r g.1.0 c.nexts c.pipes y (λ a d. (g.0 ≡ a.next) × (d ≡ record a { next = next_left a.next })) (next_left g.0) here h at
      (λ a d e. e.1 ∙ ap (λ (x : Next). record a { next = next_left x }) (sym e.0)) (left_new y g.0) in
      let new : NextNew y g.0 = subst (NextNew y) (ap (λ (q : Place). q.next) same ∙ sym at.1.1.1.0) k.1.1.new in
      subst (WentBy t legal p c y due s) is (by_next g.1.0 s g.0 due here by new mid is g.1.1.1)

  -- a turn that is due
  pub due_goes : (o : Outcome p.State) (w : Pending) (got : Got) → IsDue w got → goes t p c y o w ≡ turned t p c y o
  due_goes o (Gave g) got h = refl
  due_goes o (Waits AskTake) got h = absurd h
  due_goes o (Waits (AskPush x m)) got h = absurd h
  due_goes o (Waits AskNothing) got h = refl
  due_goes o (Waits AskRest) got h = refl
  due_goes o (Waits AskFinished) got h = absurd h
  due_goes o Lost got h = absurd h

  pub due_may : (o : Outcome p.State) (w : Pending) (got : Got) → IsDue w got → IsTurn t legal p c y o got → MayGo t legal p c y o w
  due_may o (Gave g) got h k = subst (IsTurn t legal p c y o) (sym h) k
  due_may o (Waits AskTake) got h k = absurd h
  due_may o (Waits (AskPush x m)) got h k = absurd h
  due_may o (Waits AskNothing) got h k = subst (IsTurn t legal p c y o) h k
  due_may o (Waits AskRest) got h k = subst (IsTurn t legal p c y o) h k
  due_may o (Waits AskFinished) got h k = absurd h
  due_may o Lost got h k = absurd h
