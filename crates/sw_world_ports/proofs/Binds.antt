-- A granted bind, and what it leaves of each session's uid.
use Rattle.std.proofs.Common.{◌≡◌, ℕ, ◌==◌, Bool, true, false, if◌then◌else◌, List, [], ◌∷◌, ◌++◌, refl, ap, ◌∙◌, append-nil, inl, inr}
use Rattle.sw_lists.specs.Lists.{collect, when}
use Rattle.sw_lists.proofs.Lists.{eq_same, eq_other, collect-append}
use Rattle.sw_step.specs.declared.actor.ActorId.{ActorId}
use Rattle.sw_step.specs.Actors.{is}
use Rattle.sw_record.specs.Terms.{Terms}
use Rattle.sw_record.specs.Uids.{for_session}
use Rattle.sw_past.specs.Routes.{IsHand}
use Rattle.sw_join.proofs.Routes.{is_refl, is_other}
use Rattle.sw_world_ports.specs.Ports.{add}
use Rattle.sw_world_ports.specs.Law.{binds_of, NoBind, OneBind, UidIs}

-- the same binds
pub one_moved : (t : Terms) (p q : ActorId → List (ℕ × ℕ)) (s u : ℕ) → ((z : ActorId) → binds_of q s z ≡ binds_of p s z) → OneBind t p s u → OneBind t q s u
one_moved t p q s u e h = (h.0, (h.1.0, (h.1.1.0, (e h.1.0 ∙ h.1.1.1.0, λ z n. e z ∙ h.1.1.1.1 z n))))

pub uid_moved : (t : Terms) (p q : ActorId → List (ℕ × ℕ)) (s u : ℕ) → ((z : ActorId) → binds_of q s z ≡ binds_of p s z) → UidIs t p s u → UidIs t q s u
uid_moved t p q s u e (inl h) = inl (h.0, λ z. e z ∙ h.1 z)
uid_moved t p q s u e (inr h) = inr (one_moved t p q s u e h)

-- binds of other sessions
pub bind_other : (p : ActorId → List (ℕ × ℕ)) (y : ActorId) (s u r : ℕ) → ¬ (s ≡ r) → (z : ActorId) → binds_of (add p y (s, u)) r z ≡ binds_of p r z
bind_other p y s u r n z = pick (is z y)
  where
    pick : (b : Bool) → collect (for_session r) (if b then p z ++ (s, u) ∷ [] else p z) ≡ collect (for_session r) (p z)
    pick true = collect-append (for_session r) (p z) ((s, u) ∷ []) ∙ ap (λ (xs : List ℕ). collect (for_session r) (p z) ++ (xs ++ [])) (ap (λ b. when b u) (eq_other s r n)) ∙ append-nil (collect (for_session r) (p z))
    pick false = refl

-- the bind of a session without one
pub bind_own : (t : Terms) (p : ActorId → List (ℕ × ℕ)) (y : ActorId) (s u : ℕ) → IsHand t y → ¬ (u ≡ 0) → NoBind p s → OneBind t (add p y (s, u)) s u
bind_own t p y s u k n none = (n, (y, (k, (own (is y y) (is_refl y), λ z ne. other z (is z y) (is_other z y ne)))))
  where
    own : (b : Bool) → b ≡ true → collect (for_session s) (if b then p y ++ (s, u) ∷ [] else p y) ≡ u ∷ []
    own true e = collect-append (for_session s) (p y) ((s, u) ∷ []) ∙ ap (λ (xs : List ℕ). xs ++ (when (s == s) u ++ [])) (none y) ∙ ap (λ b. when b u ++ []) (eq_same s s refl)
    own false e = absurd (cc)

    other : (z : ActorId) (b : Bool) → b ≡ false → collect (for_session s) (if b then p z ++ (s, u) ∷ [] else p z) ≡ []
    other z true e = absurd (cc)
    other z false e = none z
