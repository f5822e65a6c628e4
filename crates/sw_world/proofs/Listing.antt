-- Lists whose items are looked at one by one.
use Rattle.std.proofs.Common.{◌≡◌, ℕ, zero, suc, ◌+◌, ◌<◌, List, [], ◌∷◌, ◌++◌, length, map, take, get_or, refl, ap, ◌∙◌, sym, arith, Option, Some, None, slice_get}
use Rattle.std.proofs.lemmas.List.{append-nil, map-append, take_more}
use Rattle.sw_lists.specs.Lists.{collect}
use Rattle.sw_lists.proofs.Lists.{collect-append}
use Rattle.sw_step.specs.declared.actor.ActorId.{ActorId}
use Rattle.sw_record.specs.Words.{Log}
use Rattle.sw_hand_laws.specs.Generations.{entries}
use Rattle.sw_past.specs.Routes.{crew}
use Rattle.sw_world_laws.specs.Account.{log_of}

-- two functions that agree
pub map_alike : {A B : Type 0} (f g : A → B) → ((x : A) → f x ≡ g x) → (xs : List A) → map f xs ≡ map g xs
map_alike f g h [] = refl
map_alike {A} {B} f g h (x ∷ xs) = ap (λ (y : B). y ∷ map f xs) (h x) ∙ ap (λ (ys : List B). g x ∷ ys) (map_alike f g h xs)

-- an item of a list that was mapped
pub map_found : {A B : Type 0} (f : A → B) (xs : List A) (at : ℕ) (y : B) → slice_get (map f xs) at ≡ Some y → (x : A) × ((slice_get xs at ≡ Some x) × (Some (f x) ≡ Some y))
map_found f [] at y e = absurd (cc)
map_found f (x ∷ xs) zero y e = (x, (refl, e))
map_found f (x ∷ xs) (suc at) y e = map_found f xs at y e

pub map_shown : {A B : Type 0} (f : A → B) (xs : List A) (at : ℕ) (x : A) → slice_get xs at ≡ Some x → slice_get (map f xs) at ≡ Some (f x)
map_shown f [] at x e = absurd (cc)
map_shown {A} {B} f (a ∷ xs) zero x e = ap (λ (o : Option A). shown o) e
  where
    shown : Option A → Option B
    shown None = None
    shown (Some z) = Some (f z)
map_shown f (a ∷ xs) (suc at) x e = map_shown f xs at x e

-- the logs of all actors of a kind, in the order of their numbers
pub crew_logs : {A : Type 0} (kind : ℕ → ActorId) (log : ActorId → Log) (tells : A → Log) (from : ℕ) (xs : List A) → ((n : ℕ) (x : A) → slice_get xs n ≡ Some x → log (kind (n + from)) ≡ tells x) → (count : ℕ) → length xs ≡ count → collect (log_of log) (crew kind from count) ≡ map tells xs
crew_logs kind log tells from [] h zero e = refl
crew_logs kind log tells from [] h (suc count) e = absurd (cc)
crew_logs kind log tells from (x ∷ xs) h zero e = absurd (cc)
crew_logs {A} kind log tells from (x ∷ xs) h (suc count) e =
    ap (λ (k : ℕ). log (kind k) ∷ collect (log_of log) (crew kind (from + 1) count)) (let here : from ≡ 0 + from = omega arith in here)
    ∙ ap (λ (l : Log). l ∷ collect (log_of log) (crew kind (from + 1) count)) (h 0 x refl)
    ∙ ap (λ (ls : List Log). tells x ∷ ls)
    (crew_logs kind log tells (from + 1) xs (λ n z q. ap (λ (k : ℕ). log (kind k)) (let same : n + (from + 1) ≡ suc n + from = omega arith in same) ∙ h (suc n) z q) count (let less : length xs ≡ count = omega (arith, e) in less))

-- ---- one item more

pub taken_more : {X : Type 0} (xs : List X) (i : ℕ) (x : X) → i < length xs → x ≡ get_or xs i x → take (i + 1) xs ≡ take i xs ++ x ∷ []
taken_more {X} xs i x lt e = take_more xs i x lt ∙ ap (λ (y : X). take i xs ++ y ∷ []) (sym e)

-- logs that are joined
pub joined_more : {X : Type 0} (told : X → Log) (xs : List X) (i : ℕ) (x : X) (log new : Log) → i < length xs → x ≡ get_or xs i x → log ≡ collect entries (map told (take i xs)) → new ≡ log ++ told x → new ≡ collect entries (map told (take (i + 1) xs))
joined_more {X} told xs i x log new lt e so_far more =
    more
    ∙ ap (λ (l : Log). l ++ told x) so_far
    ∙ sym (
    ap (λ (zs : List X). collect entries (map told zs)) (taken_more xs i x lt e)
    ∙ ap (collect entries) (map-append told (take i xs) (x ∷ []))
    ∙ collect-append entries (map told (take i xs)) (told x ∷ [])
    ∙ ap (λ (l : Log). collect entries (map told (take i xs)) ++ l) (append-nil (told x))
    )
