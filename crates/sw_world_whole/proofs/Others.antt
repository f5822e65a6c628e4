-- One actor's state is changed, and its code; all others stay.
use Rattle.std.proofs.Common.{◌≡◌, ℕ, Bool, true, false, if◌then◌else◌, List, refl, ap, ◌∙◌, sym, subst, slice_get, slice_set, Some}
use Rattle.sw_step.specs.declared.actor.ActorId.{ActorId}
use Rattle.sw_step.specs.declared.actor.ActorId.TheVariants.{Door, Reactor, Worker, Tasker}
use Rattle.sw_step.specs.Actors.{is}
use Rattle.sw_join.proofs.Routes.{is_same}
use Rattle.sw_record.specs.Terms.{Terms}
use Rattle.sw_world_ports.specs.Ports.{set_at}
use Rattle.sw_world_laws.specs.World.{there}
use Rattle.sw_hand.specs.declared.hand.Hand.{Hand as CodeHand}
use Rattle.sw_worker.specs.Generations.{Line}
use Rattle.sw_world_hands.specs.Hands.{Crews}
use Rattle.sw_reactor_table.specs.Reactor.{Reactor as Table}
use Rattle.sw_world_reactor_fits.specs.Plain.{ReactorIs}
use Rattle.sw_world_stands.proofs.Gets.{get_other, get_same, some_same}
use Rattle.sw_world_stands.proofs.Rows.{is_not, set_same}
use Rattle.sw_world_steps.specs.Server.{AState}
use Rattle.sw_world_whole.specs.Parts.{Parts, Views}
use Rattle.sw_world_whole.specs.Whole.{ActorStands}

module _ {O H T : Type 0} (t : Terms) (crews : Crews) (v : Views O H T) where
  -- an actor's code and state are new
  pub one_more : (P Q : Parts O H T) (states : ActorId → AState) (y : ActorId) (u : AState) → ActorStands t crews v Q y u → ((z : ActorId) (x : AState) → ¬ (z ≡ y) → ActorStands t crews v P z x → ActorStands t crews v Q z x) →
      ((z : ActorId) → there t z ≡ true → ActorStands t crews v P z (states z)) → (z : ActorId) → there t z ≡ true → ActorStands t crews v Q z (set_at states y u z)
  one_more P Q states y u new keeps old z here = pick (is z y) refl
    where
      pick : (b : Bool) → is z y ≡ b → ActorStands t crews v Q z (if b then u else states z)
      pick true i = subst (λ (w : ActorId). ActorStands t crews v Q w u) (sym (is_same z y i)) new
      pick false i = keeps z (states z) (is_not z y i) (old z here)

  -- the same reactors, workers and task workers
  pub same_actors : (P Q : Parts O H T) → Q.owners ≡ P.owners → Q.workers ≡ P.workers → Q.taskers ≡ P.taskers → (z : ActorId) (x : AState) → ActorStands t crews v P z x → ActorStands t crews v Q z x
  same_actors P Q a b d Door x h = tt
  same_actors P Q a b d (Reactor n) x (o, (e, h)) = (o, (ap (λ (l : List O). slice_get l n) a ∙ e, h))
  same_actors P Q a b d (Worker n) x (o, (e, h)) = (o, (ap (λ (l : List (CodeHand (Line H))). slice_get l n) b ∙ e, h))
  same_actors P Q a b d (Tasker n) x (o, (e, h)) = (o, (ap (λ (l : List (CodeHand T)). slice_get l n) d ∙ e, h))

  -- the reactor of one number is another
  pub other_reactors : (P Q : Parts O H T) (n : ℕ) (q : O) → Q.owners ≡ slice_set P.owners n q → Q.workers ≡ P.workers → Q.taskers ≡ P.taskers → (z : ActorId) (x : AState) → ¬ (z ≡ Reactor n) → ActorStands t crews v P z x → ActorStands t crews v Q z x
  other_reactors P Q n q a b d Door x ne h = tt
  other_reactors P Q n q a b d (Reactor m) x ne (o, (e, h)) = (o, (ap (λ (l : List O). slice_get l m) a ∙ get_other P.owners n m q (λ i. ne (ap (λ (k : ℕ). Reactor k) i)) ∙ e, h))
  other_reactors P Q n q a b d (Worker m) x ne (o, (e, h)) = (o, (ap (λ (l : List (CodeHand (Line H))). slice_get l m) b ∙ e, h))
  other_reactors P Q n q a b d (Tasker m) x ne (o, (e, h)) = (o, (ap (λ (l : List (CodeHand T)). slice_get l m) d ∙ e, h))

  -- the worker
  pub other_workers : (P Q : Parts O H T) (n : ℕ) (q : CodeHand (Line H)) → Q.owners ≡ P.owners → Q.workers ≡ slice_set P.workers n q → Q.taskers ≡ P.taskers → (z : ActorId) (x : AState) → ¬ (z ≡ Worker n) → ActorStands t crews v P z x → ActorStands t crews v Q z x
  other_workers P Q n q a b d Door x ne h = tt
  other_workers P Q n q a b d (Reactor m) x ne (o, (e, h)) = (o, (ap (λ (l : List O). slice_get l m) a ∙ e, h))
  other_workers P Q n q a b d (Worker m) x ne (o, (e, h)) = (o, (ap (λ (l : List (CodeHand (Line H))). slice_get l m) b ∙ get_other P.workers n m q (λ i. ne (ap (λ (k : ℕ). Worker k) i)) ∙ e, h))
  other_workers P Q n q a b d (Tasker m) x ne (o, (e, h)) = (o, (ap (λ (l : List (CodeHand T)). slice_get l m) d ∙ e, h))

  -- the task worker
  pub other_taskers : (P Q : Parts O H T) (n : ℕ) (q : CodeHand T) → Q.owners ≡ P.owners → Q.workers ≡ P.workers → Q.taskers ≡ slice_set P.taskers n q → (z : ActorId) (x : AState) → ¬ (z ≡ Tasker n) → ActorStands t crews v P z x → ActorStands t crews v Q z x
  other_taskers P Q n q a b d Door x ne h = tt
  other_taskers P Q n q a b d (Reactor m) x ne (o, (e, h)) = (o, (ap (λ (l : List O). slice_get l m) a ∙ e, h))
  other_taskers P Q n q a b d (Worker m) x ne (o, (e, h)) = (o, (ap (λ (l : List (CodeHand (Line H))). slice_get l m) b ∙ e, h))
  other_taskers P Q n q a b d (Tasker m) x ne (o, (e, h)) = (o, (ap (λ (l : List (CodeHand T)). slice_get l m) d ∙ get_other P.taskers n m q (λ i. ne (ap (λ (k : ℕ). Tasker k) i)) ∙ e, h))

  -- a reactor of the code that is the same one of the world
  pub one_same : (P : Parts O H T) (states : ActorId → AState) (n : ℕ) (o q : O) → there t (Reactor n) ≡ true → slice_get P.owners n ≡ Some o →
      ((s : Table) → ReactorIs t (v.reactor o) (v.ends o).kept s → ReactorIs t (v.reactor q) (v.ends q).kept s) →
      ((z : ActorId) → there t z ≡ true → ActorStands t crews v P z (states z)) → (z : ActorId) → there t z ≡ true → ActorStands t crews v (record P { owners = slice_set P.owners n q }) z (states z)
  one_same P states n o q here is same old z there_z =
      let Q : Parts O H T = record P { owners = slice_set P.owners n q } in
      let a = old (Reactor n) here in
      let k : ReactorIs t (v.reactor q) (v.ends q).kept a.1.1.0 = same a.1.1.0 (subst (λ (x : O). ReactorIs t (v.reactor x) (v.ends x).kept a.1.1.0) (some_same a.0 o (sym a.1.0 ∙ is)) a.1.1.1.1) in
      subst (ActorStands t crews v Q z) (set_same states (Reactor n) (states (Reactor n)) refl z)
      (one_more P Q states (Reactor n) (states (Reactor n)) (q, (get_same P.owners n o q is, (a.1.1.0, (a.1.1.1.0, k)))) (λ w x ne h. other_reactors P Q n q refl refl refl w x ne h) old z there_z)
