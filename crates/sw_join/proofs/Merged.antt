-- What came of several senders is an interleaving of what came of each.
use Rattle.std.proofs.Common.{◌≡◌, ◌⊎◌, ℕ, ◌+◌, ◌<◌, Bool, true, false, List, [], ◌∷◌, ◌++◌, refl, ap, ◌∙◌, sym, subst, arith, Some, slice_get, slice_set, inl, inr, zero, suc}
use Rattle.sw_lists.proofs.Lists.{collect-same, each_append, each_more}
use Rattle.sw_lists.specs.Lists.{collect, Each, Has, when}
use Rattle.sw_lists.specs.Merge.{AllEmpty, Merge}
use Rattle.sw_step.specs.Actors.{is}
use Rattle.sw_step.specs.declared.actor.ActorId.{ActorId}
use Rattle.sw_step.specs.declared.actor.ActorId.TheVariants.{Worker, Tasker}
use Rattle.sw_record.specs.Terms.{Terms}
use Rattle.sw_past.specs.Messages.{Message}
use Rattle.sw_past.specs.Past.{Mail, bare, of}
use Rattle.sw_past.specs.Routes.{IsHand, crew, hands}
use Rattle.sw_join.proofs.Routes.{is_other, is_refl}

-- no actor stands twice among these
abbrev pub Apart : List ActorId → Type 0
Apart [] = Unit {0}
Apart (y ∷ ys) = Each (λ (z : ActorId). ¬ (y ≡ z)) ys × Apart ys

-- at most one item of a message
abbrev pub AtMostOne : {B : Type 0} → (Message → List B) → Type 0
AtMostOne {B} f = (m : Message) → (f m ≡ []) ⊎ ((b : B) × (f m ≡ b ∷ []))

-- the share of each of these
abbrev pub share : {B : Type 0} → (Message → List B) → Mail → ActorId → List (List B)
share f ms y = collect f (of y ms) ∷ []

abbrev pub shares : {B : Type 0} → (Message → List B) → Mail → List ActorId → List (List B)
shares f ms ys = collect (share f ms) ys

all_empty : (f : Message → List (List ℕ)) (ys : List ActorId) → AllEmpty (shares f [] ys)
all_empty f [] = tt
all_empty f (y ∷ ys) = (refl, all_empty f ys)

-- a message without an item
skip_one : (f : Message → List (List ℕ)) (e : ActorId × Message) (ms : Mail) (z : ActorId) → f e.1 ≡ [] → share f (e ∷ ms) z ≡ share f ms z
skip_one f e ms z n = pick (is e.0 z)
  where
    pick : (b : Bool) → ◌≡◌ {A = List (List (List ℕ))} (collect f (when b e.1 ++ of z ms) ∷ []) (share f ms z)
    pick true = ap (λ (xs : List (List ℕ)). (xs ++ collect f (of z ms)) ∷ []) n
    pick false = refl

skip : (f : Message → List (List ℕ)) (e : ActorId × Message) (ms : Mail) (ys : List ActorId) → f e.1 ≡ [] → shares f (e ∷ ms) ys ≡ shares f ms ys
skip f e ms ys n = collect-same (share f (e ∷ ms)) (share f ms) (λ z. skip_one f e ms z n) ys

-- those of whom the message isn't
others : (f : Message → List (List ℕ)) (e : ActorId × Message) (ms : Mail) (ys : List ActorId) → Each (λ (z : ActorId). ¬ (e.0 ≡ z)) ys → shares f (e ∷ ms) ys ≡ shares f ms ys
others f e ms [] h = refl
others f e ms (z ∷ ys) h = rw (is_other e.0 z h.0) (ap (λ (xs : List (List (List ℕ))). collect f (of z ms) ∷ xs) (others f e ms ys h.1))

-- the one of whom it is
own_share : (f : Message → List (List ℕ)) (e : ActorId × Message) (b : List ℕ) (ms : Mail) (y : ActorId) → e.0 ≡ y → f e.1 ≡ b ∷ [] → collect f (of y (e ∷ ms)) ≡ b ∷ collect f (of y ms)
own_share f e b ms y q g = rw (q, is_refl y) (ap (λ (xs : List (List ℕ)). xs ++ collect f (of y ms)) g)

pub get_share : (f : Message → List (List ℕ)) (ms : Mail) (ys : List ActorId) (k : ℕ) (y : ActorId) → slice_get ys k ≡ Some y → slice_get (shares f ms ys) k ≡ Some (collect f (of y ms))
get_share f ms [] k y e = absurd (cc)
get_share f ms (z ∷ ys) zero y e = let q : z ≡ y = cc in rw q refl
get_share f ms (z ∷ ys) (suc k) y e = get_share f ms ys k y e

-- somewhere else than at the head
apart_at : (ys : List ActorId) (k : ℕ) (y z : ActorId) → Each (λ (x : ActorId). ¬ (z ≡ x)) ys → slice_get ys k ≡ Some y → ¬ (z ≡ y)
apart_at [] k y z h e = absurd (cc)
apart_at (x ∷ ys) zero y z h e = let q : x ≡ y = cc in λ r. h.0 (r ∙ sym q)
apart_at (x ∷ ys) (suc k) y z h e = apart_at ys k y z h.1 e

set_share : (f : Message → List (List ℕ)) (e : ActorId × Message) (ms : Mail) (ys : List ActorId) (k : ℕ) (y : ActorId) → Apart ys → e.0 ≡ y → slice_get ys k ≡ Some y → slice_set (shares f (e ∷ ms) ys) k (collect f (of y ms)) ≡ shares f ms ys
set_share f e ms [] k y a q g = absurd (cc)
set_share f e ms (z ∷ ys) zero y a q g =
    let r : z ≡ y = cc in
    rw (sym r) (ap (λ (xs : List (List (List ℕ))). collect f (of z ms) ∷ xs) (others f e ms ys (each_more (λ (x : ActorId). ¬ (z ≡ x)) (λ (x : ActorId). ¬ (e.0 ≡ x)) ys (λ x n c. n (r ∙ sym q ∙ c)) a.0)))
set_share f e ms (z ∷ ys) (suc k) y a q g =
    rw (is_other e.0 z (λ c. apart_at ys k y z a.0 g (sym c ∙ q))) (ap (λ (xs : List (List (List ℕ))). collect f (of z ms) ∷ xs) (set_share f e ms ys k y a.1 q g))

pub merge_shares : (f : Message → List (List ℕ)) (one : AtMostOne f) (ys : List ActorId) → Apart ys → (ms : Mail) → Each (λ (e : ActorId × Message). (f e.1 ≡ []) ⊎ Has e.0 ys) ms → Merge (collect f (bare ms)) (shares f ms ys)
merge_shares f one ys a [] h = all_empty f ys
merge_shares f one ys a (e ∷ ms) h = pick h.0 (one e.1) (merge_shares f one ys a ms h.1)
  where
    none : f e.1 ≡ [] → Merge (collect f (bare ms)) (shares f ms ys) → Merge (f e.1 ++ collect f (bare ms)) (shares f (e ∷ ms) ys)
    none n m = rw (n, skip f e ms ys n) m

    pick : ((f e.1 ≡ []) ⊎ Has e.0 ys) → ((f e.1 ≡ []) ⊎ ((b : List ℕ) × (f e.1 ≡ b ∷ []))) → Merge (collect f (bare ms)) (shares f ms ys) → Merge (f e.1 ++ collect f (bare ms)) (shares f (e ∷ ms) ys)
    pick (inl n) o m = none n m
    pick (inr k) (inl n) m = none n m
    pick (inr k) (inr b) m =
        subst (λ (xs : List (List ℕ)). Merge (xs ++ collect f (bare ms)) (shares f (e ∷ ms) ys)) (sym b.1)
        (k.0, (collect f (of e.0 ms), get_share f (e ∷ ms) ys k.0 e.0 k.1 ∙ ap Some (own_share f e b.0 ms e.0 refl b.1), subst (Merge (collect f (bare ms))) (sym (set_share f e ms ys k.0 e.0 a refl k.1)) m))

-- the hands are apart
crew_above : (f : ℕ → ActorId) (n k : ℕ) (m : ℕ) → ((a b : ℕ) → f a ≡ f b → a ≡ b) → m < n → Each (λ (z : ActorId). ¬ (f m ≡ z)) (crew f n k)
crew_above f n zero m i lt = tt
crew_above f n (suc k) m i lt = ((λ e. let q : m ≡ n = i m n e in absurd (omega arith)), crew_above f (n + 1) k m i (omega arith))

pub crew_apart : (f : ℕ → ActorId) (n k : ℕ) → ((a b : ℕ) → f a ≡ f b → a ≡ b) → Apart (crew f n k)
crew_apart f n zero i = tt
crew_apart f n (suc k) i = (crew_above f (n + 1) k n i (omega arith), crew_apart f (n + 1) k i)

append_apart : (xs ys : List ActorId) → Apart xs → Apart ys → Each (λ (x : ActorId). Each (λ (y : ActorId). ¬ (x ≡ y)) ys) xs → Apart (xs ++ ys)
append_apart [] ys a b h = b
append_apart (x ∷ xs) ys a b h = (each_append (λ (z : ActorId). ¬ (x ≡ z)) xs ys a.0 h.0, append_apart xs ys a.1 b h.1)

no_taskers : (n k m : ℕ) → Each (λ (y : ActorId). ¬ (Worker m ≡ y)) (crew Tasker n k)
no_taskers n zero m = tt
no_taskers n (suc k) m = ((λ e. absurd (cc)), no_taskers (n + 1) k m)

workers_other : (n k a b : ℕ) → Each (λ (x : ActorId). Each (λ (y : ActorId). ¬ (x ≡ y)) (crew Tasker a b)) (crew Worker n k)
workers_other n zero a b = tt
workers_other n (suc k) a b = (no_taskers a b n, workers_other (n + 1) k a b)

pub hands_apart : (t : Terms) → Apart (hands t)
hands_apart t = append_apart (crew Worker 0 t.worker_num) (crew Tasker 0 t.tasker_num) (crew_apart Worker 0 t.worker_num (λ a b e. cc)) (crew_apart Tasker 0 t.tasker_num (λ a b e. cc)) (workers_other 0 t.worker_num 0 t.tasker_num)

-- each hand stands there, and nobody else
pub crew_has : (f : ℕ → ActorId) (n k m : ℕ) → m < k → Has (f (n + m)) (crew f n k)
crew_has f n zero m lt = absurd (omega arith)
crew_has f n (suc k) zero lt = (0, ap (λ (i : ℕ). Some (f i)) (let e : n ≡ n + 0 = omega arith in e))
crew_has f n (suc k) (suc m) lt =
    let r = crew_has f (n + 1) k m (omega arith) in
    (suc r.0, r.1 ∙ ap (λ (i : ℕ). Some (f i)) (let e : n + 1 + m ≡ n + suc m = omega arith in e))

has_left : (xs ys : List ActorId) (y : ActorId) → Has y xs → Has y (xs ++ ys)
has_left xs ys y h = at xs h.0 h.1
  where
    at : (zs : List ActorId) (k : ℕ) → slice_get zs k ≡ Some y → Has y (zs ++ ys)
    at [] k e = absurd (cc)
    at (z ∷ zs) zero e = (0, e)
    at (z ∷ zs) (suc k) e = let r = at zs k e in (suc r.0, r.1)

has_right : (xs ys : List ActorId) (y : ActorId) → Has y ys → Has y (xs ++ ys)
has_right [] ys y h = h
has_right (x ∷ xs) ys y h = let r = has_right xs ys y h in (suc r.0, r.1)

pub hands_have : (t : Terms) (y : ActorId) → IsHand t y → Has y (hands t)
hands_have t y (inl w) = has_left (crew Worker 0 t.worker_num) (crew Tasker 0 t.tasker_num) y (rw w.1.1 (subst (λ (i : ℕ). Has (Worker i) (crew Worker 0 t.worker_num)) (let e : 0 + w.0 ≡ w.0 = omega arith in e) (crew_has Worker 0 t.worker_num w.0 w.1.0)))
hands_have t y (inr w) = has_right (crew Worker 0 t.worker_num) (crew Tasker 0 t.tasker_num) y (rw w.1.1 (subst (λ (i : ℕ). Has (Tasker i) (crew Tasker 0 t.tasker_num)) (let e : 0 + w.0 ≡ w.0 = omega arith in e) (crew_has Tasker 0 t.tasker_num w.0 w.1.0)))

pub crew_are : (f : ℕ → ActorId) (P : ActorId → Type 0) (n k : ℕ) → ((m : ℕ) → m < n + k → P (f m)) → Each P (crew f n k)
crew_are f P n zero h = tt
crew_are f P n (suc k) h = (h n (omega arith), crew_are f P (n + 1) k (λ m lt. h m (omega arith)))

pub hands_are : (t : Terms) → Each (IsHand t) (hands t)
hands_are t = each_append (IsHand t) (crew Worker 0 t.worker_num) (crew Tasker 0 t.tasker_num) (crew_are Worker (IsHand t) 0 t.worker_num (λ m lt. inl (m, ((omega arith), refl)))) (crew_are Tasker (IsHand t) 0 t.tasker_num (λ m lt. inr (m, ((omega arith), refl))))
