-- Counts over any list of senders.
use Rattle.std.proofs.Common.{◌≡◌, ◌⊎◌, ℕ, ◌+◌, ◌≤◌, Bool, true, false, if◌then◌else◌, List, [], ◌∷◌, ◌++◌, length, refl, ap, ◌∙◌, sym, subst, append-nil, arith, Some, slice_get, inl, inr, zero, suc}
use Rattle.sw_lists.proofs.Lists.{append_none, collect-append, length_append, length_none}
use Rattle.sw_lists.specs.Lists.{collect, IsPrefix, Each, Has, when}
use Rattle.sw_step.specs.Actors.{is}
use Rattle.sw_step.specs.declared.actor.ActorId.{ActorId}
use Rattle.sw_past.specs.Messages.{Message}
use Rattle.sw_past.specs.Past.{Mail, bare, of}
use Rattle.sw_join.proofs.Merged.{Apart}
use Rattle.sw_join.proofs.Routes.{is_other, is_refl, is_same}
use Rattle.sw_join.specs.Drained.{LastMarked}

abbrev pub sum_over : (ActorId → ℕ) → List ActorId → ℕ
sum_over f [] = 0
sum_over f (y ∷ ys) = f y + sum_over f ys

sum_same : (f g : ActorId → ℕ) (ys : List ActorId) → ((y : ActorId) → f y ≡ g y) → sum_over f ys ≡ sum_over g ys
sum_same f g [] h = refl
sum_same f g (y ∷ ys) h = omega (arith, sum_same f g ys h, h y)

sum_add : (f g : ActorId → ℕ) (ys : List ActorId) → sum_over (λ y. f y + g y) ys ≡ sum_over f ys + sum_over g ys
sum_add f g [] = omega arith
sum_add f g (y ∷ ys) = let r : sum_over (λ z. f z + g z) ys ≡ sum_over f ys + sum_over g ys = sum_add f g ys in omega arith

sum_le : (f g : ActorId → ℕ) (ys : List ActorId) → Each (λ y. f y ≤ g y) ys → sum_over f ys ≤ sum_over g ys
sum_le f g [] h = omega arith
sum_le f g (y ∷ ys) h = let r : sum_over f ys ≤ sum_over g ys = sum_le f g ys h.1 in let a : f y ≤ g y = h.0 in omega arith

pub sum_each : (a b : ActorId → ℕ) (ys : List ActorId) → Each (λ y. b y ≤ a y) ys → sum_over a ys ≤ sum_over b ys → Each (λ y. a y ≤ b y) ys
sum_each a b [] h s = tt
sum_each a b (y ∷ ys) h s =
    let r : sum_over b ys ≤ sum_over a ys = sum_le b a ys h.1 in
    let c : b y ≤ a y = h.0 in
    ((omega arith), sum_each a b ys h.1 (omega arith))

pub sum_one : (ys : List ActorId) → sum_over (λ y. 1) ys ≡ length ys
sum_one [] = refl
sum_one (y ∷ ys) = omega (arith, sum_one ys)

abbrev at : ActorId → ℕ → ActorId → ℕ
at x c y = if is x y then c else 0

at_none : (x : ActorId) (c : ℕ) (ys : List ActorId) → Each (λ y. ¬ (x ≡ y)) ys → sum_over (at x c) ys ≡ 0
at_none x c [] h = refl
at_none x c (y ∷ ys) h = let r : sum_over (at x c) ys ≡ 0 = at_none x c ys h.1 in let a : at x c y ≡ 0 = rw (is_other x y h.0) refl in omega arith

at_most : (x : ActorId) (c : ℕ) (ys : List ActorId) → Apart ys → sum_over (at x c) ys ≤ c
at_most x c [] a = omega arith
at_most x c (y ∷ ys) a = pick (is x y) refl (at_most x c ys a.1)
  where
    other : (zs : List ActorId) → x ≡ y → Each (λ z. ¬ (y ≡ z)) zs → Each (λ z. ¬ (x ≡ z)) zs
    other [] q h = tt
    other (z ∷ zs) q h = ((λ e. h.0 (sym q ∙ e)), other zs q h.1)

    pick : (b : Bool) → is x y ≡ b → sum_over (at x c) ys ≤ c → at x c y + sum_over (at x c) ys ≤ c
    pick true q r = let z : sum_over (at x c) ys ≡ 0 = at_none x c ys (other ys (is_same x y q) a.0) in let d : at x c y ≡ c = rw q refl in omega arith
    pick false q r = let d : at x c y ≡ 0 = rw q refl in omega arith

at_least : (x : ActorId) (c : ℕ) (ys : List ActorId) (k : ℕ) → slice_get ys k ≡ Some x → c ≤ sum_over (at x c) ys
at_least x c [] k e = absurd (cc)
at_least x c (y ∷ ys) zero e = let q : y ≡ x = cc in let d : at x c y ≡ c = rw (q, is_refl x) refl in omega arith
at_least x c (y ∷ ys) (suc k) e = let r : c ≤ sum_over (at x c) ys = at_least x c ys k e in omega arith

abbrev pub count : (Message → List ℕ) → Mail → ActorId → ℕ
count f ms y = length (collect f (of y ms))

count_head : (f : Message → List ℕ) (e : ActorId × Message) (ms : Mail) (y : ActorId) → count f (e ∷ ms) y ≡ at e.0 (length (f e.1)) y + count f ms y
count_head f e ms y = pick (is e.0 y)
  where
    pick : (b : Bool) → length (collect f (when b e.1 ++ of y ms)) ≡ (if b then length (f e.1) else 0) + count f ms y
    pick true = length_append (f e.1) (collect f (of y ms))
    pick false = omega arith

pub over_least : (f : Message → List ℕ) (ys : List ActorId) (ms : Mail) → Each (λ (e : ActorId × Message). (f e.1 ≡ []) ⊎ Has e.0 ys) ms → length (collect f (bare ms)) ≤ sum_over (count f ms) ys
over_least f ys [] h = omega arith
over_least f ys (e ∷ ms) h =
    let a : sum_over (count f (e ∷ ms)) ys ≡ sum_over (λ y. at e.0 (length (f e.1)) y + count f ms y) ys = sum_same (count f (e ∷ ms)) (λ y. at e.0 (length (f e.1)) y + count f ms y) ys (count_head f e ms) in
    let b : sum_over (λ y. at e.0 (length (f e.1)) y + count f ms y) ys ≡ sum_over (at e.0 (length (f e.1))) ys + sum_over (count f ms) ys = sum_add (at e.0 (length (f e.1))) (count f ms) ys in
    let d : length (collect f (bare ms)) ≤ sum_over (count f ms) ys = over_least f ys ms h.1 in
    let c : length (f e.1) ≤ sum_over (at e.0 (length (f e.1))) ys = head h.0 in
    omega (arith, length_append (f e.1) (collect f (bare ms)))
  where
    head : ((f e.1 ≡ []) ⊎ Has e.0 ys) → length (f e.1) ≤ sum_over (at e.0 (length (f e.1))) ys
    head (inl none) = let z : length (f e.1) ≡ 0 = ap (λ xs. length xs) none in omega arith
    head (inr w) = at_least e.0 (length (f e.1)) ys w.0 w.1

pub over_most : (f : Message → List ℕ) (ys : List ActorId) → Apart ys → (ms : Mail) → sum_over (count f ms) ys ≤ length (collect f (bare ms))
over_most f ys a [] = none ys
  where
    none : (zs : List ActorId) → sum_over (count f []) zs ≤ 0
    none [] = omega arith
    none (z ∷ zs) = let r : sum_over (count f []) zs ≤ 0 = none zs in omega arith
over_most f ys a (e ∷ ms) =
    let q : sum_over (count f (e ∷ ms)) ys ≡ sum_over (λ y. at e.0 (length (f e.1)) y + count f ms y) ys = sum_same (count f (e ∷ ms)) (λ y. at e.0 (length (f e.1)) y + count f ms y) ys (count_head f e ms) in
    let b : sum_over (λ y. at e.0 (length (f e.1)) y + count f ms y) ys ≡ sum_over (at e.0 (length (f e.1))) ys + sum_over (count f ms) ys = sum_add (at e.0 (length (f e.1))) (count f ms) ys in
    let c : sum_over (at e.0 (length (f e.1))) ys ≤ length (f e.1) = at_most e.0 (length (f e.1)) ys a in
    let d : sum_over (count f ms) ys ≤ length (collect f (bare ms)) = over_most f ys a ms in
    omega (arith, length_append (f e.1) (collect f (bare ms)))

-- a beginning that has all marks is the whole, where the last is marked
marked_rest : (f : Message → List ℕ) (ms : List Message) → LastMarked f ms → collect f ms ≡ [] → ms ≡ []
marked_rest f [] l d = refl
marked_rest f (m ∷ []) l d = absurd (l (append_none (f m) [] d).0)
marked_rest f (m ∷ n ∷ ms) l d = absurd (let q : n ∷ ms ≡ [] = marked_rest f (n ∷ ms) l (append_none (f m) (collect f (n ∷ ms)) d).1 in cc)

marked_right : (f : Message → List ℕ) (xs ys : List Message) → LastMarked f (xs ++ ys) → LastMarked f ys
marked_right f [] ys l = l
marked_right f (x ∷ []) [] l = tt
marked_right f (x ∷ []) (y ∷ ys) l = l
marked_right f (x ∷ z ∷ xs) ys l = marked_right f (z ∷ xs) ys l

pub whole_by_marks : (f : Message → List ℕ) (xs ys : List Message) → IsPrefix xs ys → LastMarked f ys → length (collect f ys) ≤ length (collect f xs) → xs ≡ ys
whole_by_marks f xs ys p l d =
    let c : collect f xs ++ collect f p.0 ≡ collect f ys = sym (collect-append f xs p.0) ∙ ap (collect f) p.1 in
    let n : length (collect f p.0) ≡ 0 = omega (arith, length_append (collect f xs) (collect f p.0), ap (λ zs. length zs) c) in
    let e : p.0 ≡ [] = marked_rest f p.0 (marked_right f xs p.0 (subst (LastMarked f) (sym p.1) l)) (length_none (collect f p.0) n) in
    sym (append-nil xs) ∙ ap (λ zs. xs ++ zs) (sym e) ∙ p.1
