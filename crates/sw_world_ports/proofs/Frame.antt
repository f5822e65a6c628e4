-- A step of one actor leaves the others' laws as they were.
use Rattle.std.proofs.Common.{◌≡◌, Bool, true, false, if◌then◌else◌, List, [], ◌∷◌, ◌++◌, refl, ap, ◌∙◌, sym, subst, append-nil}
use mathlib.Core.Path.{fun_ext}
use Rattle.sw_lists.specs.Lists.{collect}
use Rattle.sw_lists.proofs.Lists.{collect-append}
use Rattle.sw_step.specs.declared.actor.ActorId.{ActorId}
use Rattle.sw_step.specs.Actors.{is}
use Rattle.sw_join.proofs.Routes.{is_same}
use Rattle.sw_world_ports.specs.Ports.{add}

-- THE FRAME: what holds of the actor that moves, as it is then, and of each actor as it was, holds of all
pub frame : (y : ActorId) (Q : Bool → ActorId → Type 0) → Q true y → ((z : ActorId) → Q false z) → (z : ActorId) → Q (is z y) z
frame y Q new old z = pick (is z y) refl
  where
    pick : (b : Bool) → is z y ≡ b → Q b z
    pick true e = subst (Q true) (sym (is_same z y e)) new
    pick false e = old z

pub collect_add : {A B : Type 0} (f : A → List B) (g : ActorId → List A) (y : ActorId) (a : A) (bs : List B) → f a ≡ bs → (z : ActorId) → collect f (add g y a z) ≡ (if is z y then collect f (g z) ++ bs else collect f (g z))
collect_add {A} {B} f g y a bs e z = pick (is z y)
  where
    pick : (b : Bool) → ◌≡◌ {A = List B} (collect f (if b then g z ++ a ∷ [] else g z)) (if b then collect f (g z) ++ bs else collect f (g z))
    pick true = collect-append f (g z) (a ∷ []) ∙ ap (λ (xs : List B). collect f (g z) ++ xs) (append-nil (f a) ∙ e)
    pick false = refl

pub collect_same_at : {A B : Type 0} (f : A → List B) (g : ActorId → List A) (y : ActorId) (a : A) → f a ≡ [] → ◌≡◌ {A = ActorId → List B} (λ z. collect f (add g y a z)) (λ z. collect f (g z))
collect_same_at {A} {B} f g y a e = fun_ext (λ z. collect_add f g y a [] e z ∙ pick z (is z y))
  where
    pick : (z : ActorId) (b : Bool) → ◌≡◌ {A = List B} (if b then collect f (g z) ++ [] else collect f (g z)) (collect f (g z))
    pick z true = append-nil (collect f (g z))
    pick z false = refl

pub collect_one_at : {A B : Type 0} (f : A → List B) (g : ActorId → List A) (y : ActorId) (a : A) (b : B) → f a ≡ b ∷ [] → ◌≡◌ {A = ActorId → List B} (λ z. collect f (add g y a z)) (add (λ z. collect f (g z)) y b)
collect_one_at f g y a b e = fun_ext (λ z. collect_add f g y a (b ∷ []) e z)
