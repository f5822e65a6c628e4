-- The uid of a session, over all hands.
use Rattle.std.proofs.Common.{◌≡◌, ℕ, ◌≤◌, List, [], ◌∷◌, ◌++◌, length, ap, ◌∙◌, sym, subst, arith, inl, inr, zero, suc}
use Rattle.sw_lists.specs.Lists.{collect, Each, Has}
use Rattle.sw_lists.proofs.Lists.{collect-none, each_all, each_more}
use Rattle.sw_step.specs.declared.actor.ActorId.{ActorId}
use Rattle.sw_record.specs.Terms.{Terms}
use Rattle.sw_record.specs.Uids.{the_uid}
use Rattle.sw_past.specs.Routes.{hands}
use Rattle.sw_join.proofs.Merged.{Apart, hands_apart, hands_have}
use Rattle.sw_world_ports.specs.Law.{binds_of, OneBind, UidIs}
use Rattle.sw_world_ports.proofs.Haves.{each_has}

none_of : (f : ActorId → List ℕ) (ys : List ActorId) (y : ActorId) → Each (λ z. ¬ (y ≡ z)) ys → ((z : ActorId) → ¬ (z ≡ y) → f z ≡ []) → collect f ys ≡ []
none_of f ys y a h = collect-none f ys (each_more (λ z. ¬ (y ≡ z)) (λ z. f z ≡ []) ys (λ z ne. h z (λ e. ne (sym e))) a)

-- one actor alone has one
collect_only : (f : ActorId → List ℕ) (ys : List ActorId) (y : ActorId) (u : ℕ) → Apart ys → Has y ys → f y ≡ u ∷ [] → ((z : ActorId) → ¬ (z ≡ y) → f z ≡ []) → collect f ys ≡ u ∷ []
collect_only f [] y u a (k, q) e h = absurd (cc)
collect_only f (x ∷ ys) y u a (zero, q) e h =
    let i : x ≡ y = cc in
    ap (λ (z : ActorId). f z ++ collect f ys) i ∙ ap (λ (xs : List ℕ). xs ++ collect f ys) e ∙ ap (λ (xs : List ℕ). u ∷ xs) (none_of f ys y (subst (λ (v : ActorId). Each (λ z. ¬ (v ≡ z)) ys) i a.0) h)
collect_only f (x ∷ ys) y u a (suc k, q) e h =
    let ne : ¬ (x ≡ y) = each_has (λ z. ¬ (x ≡ z)) ys y a.0 (k, q) in
    ap (λ (xs : List ℕ). xs ++ collect f ys) (h x ne) ∙ collect_only f ys y u a.1 (k, q) e h

abbrev pub all_binds : Terms → (ActorId → List (ℕ × ℕ)) → ℕ → List ℕ
all_binds t p s = collect (binds_of p s) (hands t)

pub one_is : (t : Terms) (p : ActorId → List (ℕ × ℕ)) (s u : ℕ) → OneBind t p s u → all_binds t p s ≡ u ∷ []
one_is t p s u o = collect_only (binds_of p s) (hands t) o.1.0 u (hands_apart t) (hands_have t o.1.0 o.1.1.0) o.1.1.1.0 o.1.1.1.1

pub uid_found : (t : Terms) (p : ActorId → List (ℕ × ℕ)) (s u : ℕ) → OneBind t p s u → u ≡ the_uid (all_binds t p s)
uid_found t p s u o = sym (ap the_uid (one_is t p s u o))

pub uid_is : (t : Terms) (p : ActorId → List (ℕ × ℕ)) (s u : ℕ) → UidIs t p s u → u ≡ the_uid (all_binds t p s)
uid_is t p s u (inl h) = h.0 ∙ sym (ap the_uid (collect-none (binds_of p s) (hands t) (each_all (λ y. binds_of p s y ≡ []) (hands t) h.1)))
uid_is t p s u (inr h) = uid_found t p s u h

pub bound_once : (t : Terms) (p : ActorId → List (ℕ × ℕ)) (s u : ℕ) → UidIs t p s u → length (all_binds t p s) ≤ 1
bound_once t p s u (inl h) = omega (arith, ap (λ (xs : List ℕ). length xs) (collect-none (binds_of p s) (hands t) (each_all (λ y. binds_of p s y ≡ []) (hands t) h.1)))
bound_once t p s u (inr h) = omega (arith, ap (λ (xs : List ℕ). length xs) (one_is t p s u h))
