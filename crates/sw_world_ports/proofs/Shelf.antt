-- A call of the Table takes the next place of its history.
use Rattle.std.proofs.Common.{◌≡◌, ℕ, ◌+◌, ◌<◌, Bool, true, false, if◌then◌else◌, List, [], ◌∷◌, ◌++◌, length, refl, ap, ◌∙◌, sym, subst, arith, Some, slice_get, inl, inr, zero, suc}
use Rattle.std.proofs.lemmas.Bool.{cases_lt}
use Rattle.sw_base.specs.declared.table.CallFault.TheVariants.{Busy, Spent as PlacesSpent, BadKey, NoColumn, NotInt, BadValue, Range}
use Rattle.sw_lists.specs.Lists.{Each, Has}
use Rattle.sw_lists.specs.Numbers.{Rises}
use Rattle.sw_lists.proofs.Lists.{collect-append, each_append, each_more, length_append}
use Rattle.sw_step.specs.declared.actor.ActorId.{ActorId}
use Rattle.sw_step.specs.Actors.{is}
use Rattle.sw_record.specs.Terms.{Terms}
use Rattle.sw_record.specs.Places.{at_of, places, Ran}
use Rattle.sw_past.specs.Routes.{IsHand}
use Rattle.sw_join.proofs.Routes.{is_refl, is_same}
use Rattle.sw_record.specs.Words.{Call, CallFault}
use Rattle.sw_world_ports.specs.Calls.{Did, Accepts, NoLink, NetOver, Looks, Binds, Frees, Marks, Idles, Stops, SeesStop, Adds, Sums, Tables, MayDo, TableRefuses}
use Rattle.sw_world_ports.specs.Ports.{Ports, add, Answers, ported, RefusesIt}
use Rattle.sw_world_ports.specs.Made.{seat_in, spent_in}
use Rattle.sw_world_ports.specs.Law.{all_in, ShelfLaw}
use Rattle.sw_world_ports.proofs.Frame.{frame, collect_same_at, collect_one_at}
use Rattle.sw_world_ports.proofs.Haves.{has_left, has_right}

get_more : {A : Type 0} (xs ys : List A) (k : ℕ) (x : A) → slice_get xs k ≡ Some x → slice_get (xs ++ ys) k ≡ Some x
get_more [] ys k x e = absurd (cc)
get_more (z ∷ xs) ys zero x e = e
get_more (z ∷ xs) ys (suc k) x e = get_more xs ys k x e

get_last : {A : Type 0} (xs : List A) (x : A) → slice_get (xs ++ x ∷ []) (length xs) ≡ Some x
get_last [] x = refl
get_last (z ∷ xs) x = get_last xs x

get_below : {A : Type 0} (xs : List A) (k : ℕ) (x : A) → slice_get xs k ≡ Some x → k < length xs
get_below [] k x e = absurd (cc)
get_below (z ∷ xs) zero x e = omega arith
get_below (z ∷ xs) (suc k) x e = let r : k < length xs = get_below xs k x e in omega arith

rises_last : (ns : List ℕ) (n : ℕ) → Each (λ m. m < n) ns → Rises ns → Rises (ns ++ n ∷ [])
rises_last [] n e r = (tt, tt)
rises_last (m ∷ ns) n e r = (each_append (λ k. m < k) ns (n ∷ []) r.0 (e.0, tt), rises_last ns n e.1 r.1)

each_place : (P : ℕ → Type 0) (ps : List (ℕ × Ran)) → Each (λ (p : ℕ × Ran). P p.0) ps → Each P (places ps)
each_place P [] h = tt
each_place P (p ∷ ps) h = (h.0, each_place P ps h.1)

-- all places are below the history's length
pub seats_below : (t : Terms) (legal : List Ran → Type 0) (history : List Ran) (seat : ActorId → List (ℕ × Ran)) (spent : ActorId → List ℕ) → ShelfLaw t legal history seat spent → (z : ActorId) → Each (λ m. m < length history) (places (seat z))
seats_below t legal history seat spent h z = each_place (λ m. m < length history) (seat z) (each_more (λ (p : ℕ × Ran). slice_get history p.0 ≡ Some p.1) (λ (p : ℕ × Ran). p.0 < length history) (seat z) (λ p e. get_below history p.0 p.1 e) (h.each z))

place_keeps : (t : Terms) (legal : List Ran → Type 0) (history : List Ran) (seat : ActorId → List (ℕ × Ran)) (spent : ActorId → List ℕ) → ShelfLaw t legal history seat spent → (y : ActorId) (x : Ran) → IsHand t y → length history < t.table_last_call → legal (history ++ x ∷ []) → ShelfLaw t legal (history ++ x ∷ []) (add seat y (length history, x)) spent
place_keeps t legal history seat spent h y x hand left ok =
    record {
      is_legal = ok;
      each = frame y (λ b z. Each (λ (p : ℕ × Ran). slice_get (history ++ x ∷ []) p.0 ≡ Some p.1) (if b then seat z ++ (n, x) ∷ [] else seat z))
          (each_append (λ (p : ℕ × Ran). slice_get (history ++ x ∷ []) p.0 ≡ Some p.1) (seat y) ((n, x) ∷ []) (later y) (get_last history x, tt)) later;
      rise = frame y (λ b z. Rises (places (if b then seat z ++ (n, x) ∷ [] else seat z)))
          (subst Rises (sym (places_more y)) (rises_last (places (seat y)) n (below y) (h.rise y))) h.rise;
      once = λ a b ne. apart a b ne (is a y) refl (is b y) refl;
      all = λ k lt. elim (cases_lt k (length history)) [
        | inl less ↦ (let r = h.all k less in (r.0, (r.1.0, frame y (λ b z. Has k (places (seat z)) → Has k (places (if b then seat z ++ (n, x) ∷ [] else seat z))) (λ i. subst (Has k) (sym (places_more y)) (has_left k (places (seat y)) (n ∷ []) i)) (λ z i. i) r.0 r.1.1)))
        | inr ge ↦ (let e : n ≡ k = (let q : length (history ++ x ∷ []) ≡ length history + 1 = length_append history (x ∷ []) in omega arith) in (y, (hand, now k e (is y y) (is_refl y))))
      ];
      none_left = λ z. each_more (λ k. (k ≡ t.table_last_call) × (length history ≡ k)) (λ k. (k ≡ t.table_last_call) × (length (history ++ x ∷ []) ≡ k)) (spent z) (λ k q. absurd (let a : k ≡ t.table_last_call = q.0 in let b : length history ≡ k = q.1 in omega arith)) (h.none_left z);
    }
  where
    n : ℕ
    n = length history

    later : (z : ActorId) → Each (λ (p : ℕ × Ran). slice_get (history ++ x ∷ []) p.0 ≡ Some p.1) (seat z)
    later z = each_more (λ (p : ℕ × Ran). slice_get history p.0 ≡ Some p.1) (λ (p : ℕ × Ran). slice_get (history ++ x ∷ []) p.0 ≡ Some p.1) (seat z) (λ p e. get_more history (x ∷ []) p.0 p.1 e) (h.each z)

    places_more : (z : ActorId) → places (seat z ++ (length history, x) ∷ []) ≡ places (seat z) ++ length history ∷ []
    places_more z = collect-append at_of (seat z) ((length history, x) ∷ [])

    below : (z : ActorId) → Each (λ m. m < length history) (places (seat z))
    below z = seats_below t legal history seat spent h z

    now : (k : ℕ) → length history ≡ k → (b : Bool) → b ≡ true → Has k (places (if b then seat y ++ (length history, x) ∷ [] else seat y))
    now k e true i = subst (Has k) (sym (places_more y)) (has_right k (places (seat y)) (length history ∷ []) (0, ap (λ (v : ℕ). Some v) e))
    now k e false i = absurd (cc)

    apart : (a b : ActorId) → ¬ (a ≡ b) → (c : Bool) → is a y ≡ c → (d : Bool) → is b y ≡ d → Each (λ k. Each (λ m. ¬ (k ≡ m)) (places (if d then seat b ++ (length history, x) ∷ [] else seat b))) (places (if c then seat a ++ (length history, x) ∷ [] else seat a))
    apart a b ne true i true j = absurd (ne (is_same a y i ∙ sym (is_same b y j)))
    apart a b ne true i false j =
        subst (Each (λ k. Each (λ m. ¬ (k ≡ m)) (places (seat b)))) (sym (places_more a))
        (each_append (λ k. Each (λ m. ¬ (k ≡ m)) (places (seat b))) (places (seat a)) (length history ∷ []) (h.once a b ne) (each_more (λ m. m < length history) (λ m. ¬ (length history ≡ m)) (places (seat b)) (λ m lt e. absurd (omega arith)) (below b), tt))
    apart a b ne false i true j =
        subst (λ (ns : List ℕ). Each (λ k. Each (λ m. ¬ (k ≡ m)) ns) (places (seat a))) (sym (places_more b))
        (both (places (seat a)) (h.once a b ne) (below a))
      where
        both : (ks : List ℕ) → Each (λ k. Each (λ m. ¬ (k ≡ m)) (places (seat b))) ks → Each (λ m. m < length history) ks → Each (λ k. Each (λ m. ¬ (k ≡ m)) (places (seat b) ++ length history ∷ [])) ks
        both [] u v = tt
        both (k ∷ ks) u v = (each_append (λ m. ¬ (k ≡ m)) (places (seat b)) (length history ∷ []) u.0 ((λ e. absurd (let lt : k < length history = v.0 in omega arith)), tt), both ks u.1 v.1)
    apart a b ne false i false j = h.once a b ne

-- a call that takes no place and finds one left
seats_still : (t : Terms) (legal : List Ran → Type 0) (history : List Ran) (dids : ActorId → List Did) (y : ActorId) (d : Did) → seat_in d ≡ [] → spent_in d ≡ [] → ShelfLaw t legal history (all_in seat_in dids) (all_in spent_in dids) → ShelfLaw t legal history (all_in seat_in (add dids y d)) (all_in spent_in (add dids y d))
seats_still t legal history dids y d e q h = subst (λ (f : ActorId → List (ℕ × Ran)). ShelfLaw t legal history f (all_in spent_in (add dids y d))) (sym (collect_same_at seat_in dids y d e)) (subst (ShelfLaw t legal history (all_in seat_in dids)) (sym (collect_same_at spent_in dids y d q)) h)

-- a call that was refused since all places are taken
spent_keeps : (t : Terms) (legal : List Ran → Type 0) (history : List Ran) (seat : ActorId → List (ℕ × Ran)) (spent : ActorId → List ℕ) → ShelfLaw t legal history seat spent → (y : ActorId) (n : ℕ) → n ≡ length history → length history ≡ t.table_last_call → ShelfLaw t legal history seat (add spent y n)
spent_keeps t legal history seat spent h y n e q =
    record {
      is_legal = h.is_legal;
      each = h.each;
      rise = h.rise;
      once = h.once;
      all = h.all;
      none_left = frame y (λ b z. Each (λ k. (k ≡ t.table_last_call) × (length history ≡ k)) (if b then spent z ++ n ∷ [] else spent z))
          (each_append (λ k. (k ≡ t.table_last_call) × (length history ≡ k)) (spent y) (n ∷ []) (h.none_left y) ((e ∙ q, sym e), tt)) h.none_left;
    }

refuse_keeps : (t : Terms) (legal : List Ran → Type 0) (p : Ports) (dids : ActorId → List Did) → ShelfLaw t legal p.table (all_in seat_in dids) (all_in spent_in dids) → (y : ActorId) (c : Call) (fault : CallFault) → RefusesIt t (length p.table) c fault → ShelfLaw t legal p.table (all_in seat_in (add dids y (TableRefuses c fault))) (all_in spent_in (add dids y (TableRefuses c fault)))
refuse_keeps t legal p dids h y c (PlacesSpent n) r =
    subst (λ (f : ActorId → List (ℕ × Ran)). ShelfLaw t legal p.table f (all_in spent_in (add dids y (TableRefuses c (PlacesSpent n))))) (sym (collect_same_at seat_in dids y (TableRefuses c (PlacesSpent n)) refl))
    (subst (ShelfLaw t legal p.table (all_in seat_in dids)) (sym (collect_one_at spent_in dids y (TableRefuses c (PlacesSpent n)) n refl)) (spent_keeps t legal p.table (all_in seat_in dids) (all_in spent_in dids) h y n r.1.0 r.1.1))
refuse_keeps t legal p dids h y c (Busy word seen) r = absurd r
refuse_keeps t legal p dids h y c BadKey r = seats_still t legal p.table dids y (TableRefuses c BadKey) refl refl h
refuse_keeps t legal p dids h y c NoColumn r = seats_still t legal p.table dids y (TableRefuses c NoColumn) refl refl h
refuse_keeps t legal p dids h y c NotInt r = seats_still t legal p.table dids y (TableRefuses c NotInt) refl refl h
refuse_keeps t legal p dids h y c BadValue r = seats_still t legal p.table dids y (TableRefuses c BadValue) refl refl h
refuse_keeps t legal p dids h y c Range r = seats_still t legal p.table dids y (TableRefuses c Range) refl refl h

pub shelf_keeps : (t : Terms) (legal : List Ran → Type 0) (p : Ports) (dids : ActorId → List Did) → ShelfLaw t legal p.table (all_in seat_in dids) (all_in spent_in dids) → (y : ActorId) (d : Did) → MayDo t y d → Answers t legal p y d → ShelfLaw t legal (ported t p y d).table (all_in seat_in (add dids y d)) (all_in spent_in (add dids y d))
shelf_keeps t legal p dids h y (Tables at x) may ans =
    subst (λ (f : ActorId → List ℕ). ShelfLaw t legal (p.table ++ x ∷ []) (all_in seat_in (add dids y (Tables at x))) f) (sym (collect_same_at spent_in dids y (Tables at x) refl))
    (subst (λ (f : ActorId → List (ℕ × Ran)). ShelfLaw t legal (p.table ++ x ∷ []) f (all_in spent_in dids)) (sym (collect_one_at seat_in dids y (Tables at x) (at, x) refl))
    (subst (λ n. ShelfLaw t legal (p.table ++ x ∷ []) (add (all_in seat_in dids) y (n, x)) (all_in spent_in dids)) (sym ans.0) (place_keeps t legal p.table (all_in seat_in dids) (all_in spent_in dids) h y x may ans.1 ans.2)))
shelf_keeps t legal p dids h y (TableRefuses c fault) may ans = refuse_keeps t legal p dids h y c fault ans
shelf_keeps t legal p dids h y (Adds c) may ans = seats_still t legal p.table dids y (Adds c) refl refl h
shelf_keeps t legal p dids h y (Sums c n) may ans = seats_still t legal p.table dids y (Sums c n) refl refl h
shelf_keeps t legal p dids h y Stops may ans = seats_still t legal p.table dids y Stops refl refl h
shelf_keeps t legal p dids h y (SeesStop b) may ans = seats_still t legal p.table dids y (SeesStop b) refl refl h
shelf_keeps t legal p dids h y (Accepts ip c) may ans = seats_still t legal p.table dids y (Accepts ip c) refl refl h
shelf_keeps t legal p dids h y NoLink may ans = seats_still t legal p.table dids y NoLink refl refl h
shelf_keeps t legal p dids h y NetOver may ans = seats_still t legal p.table dids y NetOver refl refl h
shelf_keeps t legal p dids h y (Looks s x) may ans = seats_still t legal p.table dids y (Looks s x) refl refl h
shelf_keeps t legal p dids h y (Binds s u x) may ans = seats_still t legal p.table dids y (Binds s u x) refl refl h
shelf_keeps t legal p dids h y (Frees s u) may ans = seats_still t legal p.table dids y (Frees s u) refl refl h
shelf_keeps t legal p dids h y (Marks b) may ans = seats_still t legal p.table dids y (Marks b) refl refl h
shelf_keeps t legal p dids h y (Idles c k x) may ans = seats_still t legal p.table dids y (Idles c k x) refl refl h
