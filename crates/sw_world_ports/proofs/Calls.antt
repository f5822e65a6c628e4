-- All calls of a turn.
use Rattle.std.proofs.Common.{◌≡◌, ℕ, ◌<◌, Bool, true, false, if◌then◌else◌, List, [], ◌∷◌, ◌++◌, refl, ap, ◌∙◌, sym, subst, append-nil, append_assoc, inl, inr, zero, suc}
use mathlib.Core.Path.{fun_ext}
use Rattle.sw_lists.specs.Lists.{collect, Each, Has}
use Rattle.sw_lists.specs.Numbers.{Distinct}
use Rattle.sw_lists.proofs.Lists.{append_none, bool_cases, collect-append, each_more, each_right}
use Rattle.sw_step.specs.declared.actor.ActorId.{ActorId}
use Rattle.sw_step.specs.declared.actor.ActorId.TheVariants.{Door, Reactor}
use Rattle.sw_step.specs.Actors.{is}
use Rattle.sw_record.specs.Terms.{Terms}
use Rattle.sw_past.specs.Claims.{drew_in}
use Rattle.sw_join.proofs.Routes.{is_refl, is_same, is_other}
use Rattle.sw_record.specs.Places.{Ran}
use Rattle.sw_world_ports.specs.Calls.{Did, Accepts, NoLink, NetOver, Looks, Binds, Frees, Marks, Idles, Stops, SeesStop, Adds, Sums, Tables, MayDo, TableRefuses}
use Rattle.sw_world_ports.specs.Ports.{Ports, add, Answers, AllAnswer, ported, all_ported}
use Rattle.sw_world_ports.specs.Made.{accept_in, free_in, firsts, first_of}
use Rattle.sw_world_ports.specs.Law.{IsFreed, all_in, PortsLaw, MayFree, drawn_by, add_all}
use Rattle.sw_world_ports.proofs.Haves.{has_left}
use Rattle.sw_world_ports.proofs.Words.{CanFree, given_keeps, call_keeps}
use Rattle.sw_world_ports.proofs.Board.{stop_keeps, counts_keep}
use Rattle.sw_world_ports.proofs.Shelf.{shelf_keeps}

one_call : (t : Terms) (legal : List Ran → Type 0) (p : Ports) (dids : ActorId → List Did) → PortsLaw t legal p dids → (y : ActorId) (d : Did) → MayDo t y d → Answers t legal p y d → CanFree t p.words d → PortsLaw t legal (ported t p y d) (add dids y d)
one_call t legal p dids h y d may ans can =
    record {
      given = given_keeps t legal p dids h.given y d may;
      words = call_keeps t legal p dids h.words y d may ans can;
      stop = stop_keeps t legal p dids h.stop y d may ans;
      counts = counts_keep t legal p dids h.counts y d may ans;
      shelf = shelf_keeps t legal p dids h.shelf y d may ans;
    }

abbrev pub all_added : (ActorId → List Did) → ActorId → List Did → ActorId → List Did
all_added dids y [] = dids
all_added dids y (d ∷ ds) = all_added (add dids y d) y ds

drawn_grows : (dids : ActorId → List Did) (y : ActorId) (d : Did) (s : ℕ) → Has s (drawn_by dids) → Has s (drawn_by (add dids y d))
drawn_grows dids y d s h = pick (is Door y)
  where
    pick : (b : Bool) → Has s (collect drew_in (collect accept_in (if b then dids Door ++ d ∷ [] else dids Door)))
    pick true = subst (Has s) (sym (ap (collect drew_in) (collect-append accept_in (dids Door) (d ∷ [])) ∙ collect-append drew_in (collect accept_in (dids Door)) (collect accept_in (d ∷ [])))) (has_left s (drawn_by dids) (collect drew_in (collect accept_in (d ∷ []))) h)
    pick false = h

distinct_apart : (xs ys : List ℕ) (s : ℕ) → Distinct (xs ++ s ∷ ys) → Has s xs → ⊥
distinct_apart [] ys s d h = absurd (let q = h.1 in cc)
distinct_apart (x ∷ xs) ys s d (zero, q) = mid xs d.0
  where
    mid : (zs : List ℕ) → Each (λ m. ¬ (x ≡ m)) (zs ++ s ∷ ys) → ⊥
    mid [] e = e.0 (let i : x ≡ s = cc in i)
    mid (z ∷ zs) e = mid zs e.1
distinct_apart (x ∷ xs) ys s d (suc k, q) = distinct_apart xs ys s d.1 (k, q)

-- so its word has it
can_free : (t : Terms) (legal : List Ran → Type 0) (p : Ports) (dids : ActorId → List Did) → PortsLaw t legal p dids → (y : ActorId) (mine : List Did) → dids y ≡ mine → (d : Did) (ds : List Did) → MayFree t dids y mine (d ∷ ds) → CanFree t p.words d
can_free t legal p dids h y mine e (Frees s u) ds f = elim (h.words.book.back s f.drawn.0) [ inl q ↦ q | inr i ↦ absurd (bad i) ]
  where
    bad : IsFreed t (all_in free_in dids) s → ⊥
    bad (m, (lt, has)) = elim (bool_cases (is (Reactor m) y)) [
      | inl q ↦ distinct_apart (firsts (collect free_in mine)) (firsts (collect free_in ds)) s
          (subst Distinct (ap firsts (collect-append free_in mine (Frees s u ∷ ds)) ∙ collect-append first_of (collect free_in mine) (collect free_in (Frees s u ∷ ds))) (f.once (λ i. absurd (cc))))
          (subst (λ (x : List Did). Has s (firsts (collect free_in x))) (ap (λ (z : ActorId). dids z) (is_same (Reactor m) y q) ∙ e) has)
      | inr q ↦ f.alone.0 m lt (λ i. absurd (let k : true ≡ false = sym (is_refl (Reactor m)) ∙ ap (λ (z : ActorId). is (Reactor m) z) i ∙ q in cc)) has
    ]
can_free t legal p dids h y mine e (Accepts ip c) ds f = tt
can_free t legal p dids h y mine e NoLink ds f = tt
can_free t legal p dids h y mine e NetOver ds f = tt
can_free t legal p dids h y mine e (Looks s x) ds f = tt
can_free t legal p dids h y mine e (Binds s u x) ds f = tt
can_free t legal p dids h y mine e (Marks b) ds f = tt
can_free t legal p dids h y mine e (Idles c k x) ds f = tt
can_free t legal p dids h y mine e Stops ds f = tt
can_free t legal p dids h y mine e (SeesStop b) ds f = tt
can_free t legal p dids h y mine e (Adds c) ds f = tt
can_free t legal p dids h y mine e (Sums c n) ds f = tt
can_free t legal p dids h y mine e (Tables at x) ds f = tt
can_free t legal p dids h y mine e (TableRefuses k fault) ds f = tt

each_frees : (P Q : ℕ → Type 0) (d : Did) (ds : List Did) → ((s : ℕ) → P s → Q s) → Each P (firsts (collect free_in (d ∷ ds))) → Each Q (firsts (collect free_in ds))
each_frees P Q d ds f h = each_more P Q (firsts (collect free_in ds)) f (each_right P (firsts (free_in d)) (firsts (collect free_in ds)) (subst (Each P) (collect-append first_of (free_in d) (collect free_in ds)) h))

then_free : (t : Terms) (dids : ActorId → List Did) (y : ActorId) (mine : List Did) (d : Did) (ds : List Did) → MayFree t dids y mine (d ∷ ds) → MayFree t (add dids y d) y (mine ++ d ∷ []) ds
then_free t dids y mine d ds f =
    record {
      once = λ ne. subst (λ (x : List Did). Distinct (firsts (collect free_in x))) (sym (append_assoc mine (d ∷ []) ds)) (f.once (λ i. ne (append_none (free_in d) (collect free_in ds) i).1));
      drawn = each_frees (λ s. Has s (drawn_by dids)) (λ s. Has s (drawn_by (add dids y d))) d ds (λ s k. drawn_grows dids y d s k) f.drawn;
      alone = each_frees (λ s. (m : ℕ) → m < t.reactor_num → ¬ (Reactor m ≡ y) → ¬ Has s (firsts (collect free_in (dids (Reactor m))))) (λ s. (m : ℕ) → m < t.reactor_num → ¬ (Reactor m ≡ y) → ¬ Has s (firsts (collect free_in (add dids y d (Reactor m))))) d ds
          (λ s k m lt ne. subst (λ b. ¬ Has s (firsts (collect free_in (if b then dids (Reactor m) ++ d ∷ [] else dids (Reactor m))))) (sym (is_other (Reactor m) y ne)) (k m lt ne)) f.alone;
    }

added_own : (dids : ActorId → List Did) (y : ActorId) (mine : List Did) (d : Did) → dids y ≡ mine → add dids y d y ≡ mine ++ d ∷ []
added_own dids y mine d e = ap (λ b. if b then dids y ++ d ∷ [] else dids y) (is_refl y) ∙ ap (λ (x : List Did). x ++ d ∷ []) e

many_calls : (t : Terms) (legal : List Ran → Type 0) (p : Ports) (dids : ActorId → List Did) → PortsLaw t legal p dids → (y : ActorId) (mine : List Did) → dids y ≡ mine → (ds : List Did) → Each (MayDo t y) ds → AllAnswer t legal p y ds → MayFree t dids y mine ds → PortsLaw t legal (all_ported t p y ds) (all_added dids y ds)
many_calls t legal p dids h y mine e [] may ans f = h
many_calls t legal p dids h y mine e (d ∷ ds) may ans f =
    many_calls t legal (ported t p y d) (add dids y d) (one_call t legal p dids h y d may.0 ans.0 (can_free t legal p dids h y mine e d ds f)) y (mine ++ d ∷ []) (added_own dids y mine d e) ds may.1 ans.1 (then_free t dids y mine d ds f)

added_all : (dids : ActorId → List Did) (y : ActorId) (ds : List Did) (z : ActorId) → all_added dids y ds z ≡ add_all dids y ds z
added_all dids y [] z = pick (is z y)
  where
    pick : (b : Bool) → dids z ≡ (if b then dids z ++ [] else dids z)
    pick true = sym (append-nil (dids z))
    pick false = refl
added_all dids y (d ∷ ds) z = added_all (add dids y d) y ds z ∙ pick (is z y)
  where
    pick : (b : Bool) → ◌≡◌ {A = List Did} (if b then (if b then dids z ++ d ∷ [] else dids z) ++ ds else (if b then dids z ++ d ∷ [] else dids z)) (if b then dids z ++ d ∷ ds else dids z)
    pick true = append_assoc (dids z) (d ∷ []) ds
    pick false = refl

pub calls_keep : (t : Terms) (legal : List Ran → Type 0) (p : Ports) (dids : ActorId → List Did) → PortsLaw t legal p dids → (y : ActorId) (ds : List Did) → Each (MayDo t y) ds → AllAnswer t legal p y ds → MayFree t dids y (dids y) ds → PortsLaw t legal (all_ported t p y ds) (add_all dids y ds)
calls_keep t legal p dids h y ds may ans f = subst (PortsLaw t legal (all_ported t p y ds)) (fun_ext (added_all dids y ds)) (many_calls t legal p dids h y (dids y) refl ds may ans f)

-- calls and further calls
pub answers_append : (t : Terms) (legal : List Ran → Type 0) (p : Ports) (y : ActorId) (xs ys : List Did) → AllAnswer t legal p y xs → AllAnswer t legal (all_ported t p y xs) y ys → AllAnswer t legal p y (xs ++ ys)
answers_append t legal p y [] ys h k = k
answers_append t legal p y (x ∷ xs) ys h k = (h.0, answers_append t legal (ported t p y x) y xs ys h.1 k)

pub ported_append : (t : Terms) (p : Ports) (y : ActorId) (xs ys : List Did) → all_ported t p y (xs ++ ys) ≡ all_ported t (all_ported t p y xs) y ys
ported_append t p y [] ys = refl
ported_append t p y (x ∷ xs) ys = ported_append t (ported t p y x) y xs ys
