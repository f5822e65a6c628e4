-- Changes of the code's places are changes of the world's nexts and pipes.
use Rattle.std.proofs.Common.{◌≡◌, ℕ, Bool, true, false, if◌then◌else◌, List, refl, ap, ◌∙◌, sym, subst, arith, Option, Some, slice_get, slice_set}
use Rattle.std.proofs.lemmas.Bool.Decides.{nat_tests}
use Rattle.sw_step.specs.declared.actor.ActorId.{ActorId}
use Rattle.sw_step.specs.declared.actor.ActorId.TheVariants.{Door, Reactor, Worker, Tasker}
use Rattle.sw_step.specs.Actors.{is}
use Rattle.sw_join.proofs.Routes.{is_same, is_refl}
use Rattle.sw_record.specs.Terms.{Terms}
use Rattle.sw_past.specs.Messages.{Message}
use Rattle.sw_world_ports.specs.Ports.{set_at}
use Rattle.sw_world_laws.specs.World.{Pending, there}
use Rattle.sw_world_fits.specs.Board.{number_of, IsThere}
use Rattle.sw_world_places.specs.Places.{Rows, AtRow}
use Rattle.sw_world_places.specs.declared.place.Place.{Place}
use Rattle.sw_world_stands.specs.Rows.{PlaceStands, StandsAt, RowsStand}
use Rattle.sw_world_stands.proofs.Gets.{some_same, get_same, get_other}

-- an actor that is there
pub is_there : (t : Terms) (y : ActorId) → there t y ≡ true → IsThere t y
is_there t Door e = tt
is_there t (Reactor n) e = grind (arith, nat_tests)
is_there t (Worker n) e = grind (arith, nat_tests)
is_there t (Tasker n) e = grind (arith, nat_tests)

-- by its number there is one
pub number_same : (t : Terms) (x y : ActorId) → IsThere t x → IsThere t y → number_of t x ≡ number_of t y → x ≡ y
number_same t (Worker a) (Worker b) lx ly e = ap (λ (k : ℕ). Worker k) e
number_same t (Worker a) (Tasker b) lx ly e = absurd (omega (arith, lx, ly, e))
number_same t (Worker a) (Reactor b) lx ly e = absurd (omega (arith, lx, ly, e))
number_same t (Worker a) Door lx ly e = absurd (omega (arith, lx, e))
number_same t (Tasker a) (Worker b) lx ly e = absurd (omega (arith, lx, ly, e))
number_same t (Tasker a) (Tasker b) lx ly e = ap (λ (k : ℕ). Tasker k) (let q : a ≡ b = omega (arith, e) in q)
number_same t (Tasker a) (Reactor b) lx ly e = absurd (omega (arith, lx, ly, e))
number_same t (Tasker a) Door lx ly e = absurd (omega (arith, lx, e))
number_same t (Reactor a) (Worker b) lx ly e = absurd (omega (arith, lx, ly, e))
number_same t (Reactor a) (Tasker b) lx ly e = absurd (omega (arith, lx, ly, e))
number_same t (Reactor a) (Reactor b) lx ly e = ap (λ (k : ℕ). Reactor k) (let q : a ≡ b = omega (arith, e) in q)
number_same t (Reactor a) Door lx ly e = absurd (omega (arith, lx, e))
number_same t Door (Worker b) lx ly e = absurd (omega (arith, ly, e))
number_same t Door (Tasker b) lx ly e = absurd (omega (arith, ly, e))
number_same t Door (Reactor b) lx ly e = absurd (omega (arith, ly, e))
number_same t Door Door lx ly e = refl

-- who is the same as far as a test tells
pub is_not : (x y : ActorId) → is x y ≡ false → ¬ (x ≡ y)
is_not x y e q = let r : is x y ≡ true = ap (λ (z : ActorId). is z y) q ∙ is_refl y in let v : true ≡ false = sym r ∙ e in cc

-- nexts and pipes that are the same for each actor
pub rows_ext : (t : Terms) (r : Rows) (f g : ActorId → Pending) (ps qs : ActorId → List Message) → RowsStand t r f ps → ((y : ActorId) → f y ≡ g y) → ((y : ActorId) → ps y ≡ qs y) → RowsStand t r g qs
rows_ext t r f g ps qs h ef eg =
    record {
      workers = h.workers;
      taskers = h.taskers;
      reactors = h.reactors;
      each = λ y e. let k = h.each y e in (k.0, (k.1.0, record { next = k.1.1.next ∙ ef y; pipe = k.1.1.pipe ∙ eg y; room = k.1.1.room; new = k.1.1.new; links = k.1.1.links }));
    }

same_place : (c q : Place) (o : Option Place) → o ≡ Some c → o ≡ Some q → q ≡ c
same_place c q o a b = some_same q c (sym b ∙ a)

-- one actor's place is changed
pub changed : (t : Terms) (r s : Rows) (nexts : ActorId → Pending) (pipes : ActorId → List Message) (y : ActorId) (P : Place → Place → Type 0) (n : Pending) (ms : List Message) →
    there t y ≡ true → RowsStand t r nexts pipes → AtRow r (number_of t y) P s →
    ((c d : Place) → P c d → PlaceStands t y c (nexts y) (pipes y) → PlaceStands t y d n ms) →
    RowsStand t s (set_at nexts y n) (set_at pipes y ms)
changed t r s nexts pipes y P n ms here h at keeps =
    subst (λ (w : Rows). RowsStand t w (set_at nexts y n) (set_at pipes y ms)) (sym at.1.1.2)
    (record { workers = h.workers; taskers = h.taskers; reactors = h.reactors; each = λ z e. pick z e (is z y) refl })
  where
    old : PlaceStands t y at.0 (nexts y) (pipes y)
    old = let k = h.each y here in subst (λ (q : Place). PlaceStands t y q (nexts y) (pipes y)) (same_place at.0 k.0 (slice_get r.all (number_of t y)) at.1.1.0 k.1.0) k.1.1

    new : PlaceStands t y at.1.0 n ms
    new = keeps at.0 at.1.0 at.1.1.1 old

    pick : (z : ActorId) → there t z ≡ true → (v : Bool) → is z y ≡ v → StandsAt t (record r { all = slice_set r.all (number_of t y) at.1.0 }) z (if v then n else nexts z) (if v then ms else pipes z)
    pick z e true i = (at.1.0, (ap (λ (w : ActorId). slice_get (slice_set r.all (number_of t y) at.1.0) (number_of t w)) (is_same z y i) ∙ get_same r.all (number_of t y) at.0 at.1.0 at.1.1.0, subst (λ (w : ActorId). PlaceStands t w at.1.0 n ms) (sym (is_same z y i)) new))
    pick z e false i =
        let k = h.each z e in
        let apart : ¬ (number_of t z ≡ number_of t y) = (λ q. is_not z y i (number_same t z y (is_there t z e) (is_there t y here) q)) in
        (k.0, (get_other r.all (number_of t y) (number_of t z) at.1.0 apart ∙ k.1.0, k.1.1))

-- a function that is set to what it was
pub set_same : {A : Type 0} (f : ActorId → A) (y : ActorId) (v : A) → f y ≡ v → (z : ActorId) → set_at f y v z ≡ f z
set_same {A} f y v e z = pick (is z y) refl
  where
    pick : (b : Bool) → is z y ≡ b → (if b then v else f z) ≡ f z
    pick true i = sym e ∙ ap f (sym (is_same z y i))
    pick false i = refl

-- and one that is set twice
pub set_twice : {A : Type 0} (f : ActorId → A) (y : ActorId) (v w : A) (z : ActorId) → set_at (set_at f y v) y w z ≡ set_at f y w z
set_twice {A} f y v w z = pick (is z y)
  where
    pick : (b : Bool) → (if b then w else (if b then v else f z)) ≡ (if b then w else f z)
    pick true = refl
    pick false = refl
