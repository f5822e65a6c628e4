-- Each call on the session book keeps its law.
use Rattle.std.proofs.Common.{suc, ◌≡◌, ◌⊎◌, ℕ, ◌+◌, ◌-◌, ◌<◌, ◌≤◌, ◌^◌, ◌%◌, ◌==◌, Bool, true, false, if◌then◌else◌, List, [], ◌∷◌, ◌++◌, refl, ap, ◌∙◌, sym, subst, append-nil, arith, inl, inr}
use Rattle.std.proofs.lemmas.Bool.{cases_lt}
use Rattle.sw_record.specs.EndsRise.{RiseBySlot}
use Rattle.sw_lists.specs.Lists.{collect, Each, Has}
use Rattle.sw_lists.proofs.Lists.{eq_is, eq_same, equal_or_not, collect-append, each_append, each_more}
use Rattle.sw_step.specs.declared.actor.ActorId.{ActorId}
use Rattle.sw_step.specs.declared.actor.ActorId.TheVariants.{Reactor}
use Rattle.sw_step.specs.Actors.{is}
use Rattle.sw_record.specs.Terms.{Terms}
use Rattle.sw_past.specs.Claims.{Claim, Drew, Full, Spent, drew, drew_in, IsClaimed, last_then, IsClaims}
use Rattle.sw_past.specs.Routes.{IsHand}
use Rattle.sw_join.proofs.Routes.{is_refl}
use Rattle.sw_world_ports.specs.Ports.{set, add, words_by, claim_by}
use Rattle.sw_world_ports.specs.Made.{firsts, first_of}
use Rattle.sw_world_ports.specs.Law.{last_all, NoBind, OneBind, UidIs, IsFreed, BookLaw}
use Rattle.sw_world_ports.proofs.Haves.{has_left, has_right, has_split, has_one, each_has, has_first}
use Rattle.sw_world_ports.proofs.Claims.{Tried, tried, claims_last, last_more, claims_more, claimed_is}
use Rattle.sw_world_ports.proofs.Binds.{uid_moved, bind_other, bind_own}

-- a word's number is a session that was drawn
pub slot_drawn : (t : Terms) (words : ℕ → ℕ × ℕ) (last : ℕ) (a : List (ℕ × Claim)) (f p : ActorId → List (ℕ × ℕ)) → BookLaw t words last a f p → (i n : ℕ) → (words i).0 ≡ n → ¬ (n ≡ 0) → Has n (collect drew_in a) × (n % t.max_conn ≡ i)
slot_drawn t words last a f p l i n e ne =
    let q : n % t.max_conn ≡ i = ap (λ k. k % t.max_conn) (sym e) ∙ l.slot i (λ z. ne (sym e ∙ z)) in
    ((l.held n ne (ap (λ k. (words k).0) q ∙ e)).0, q)

-- and so is one that was released
freed_low : (t : Terms) (words : ℕ → ℕ × ℕ) (last : ℕ) (a : List (ℕ × Claim)) (f p : ActorId → List (ℕ × ℕ)) → BookLaw t words last a f p → (s : ℕ) → IsFreed t f s → s ≤ last
freed_low t words last a f p l s i = (each_has (λ w. (¬ (w ≡ 0)) × (w ≤ last)) (collect drew_in a) s l.low (l.released s i)).1

-- one more, above those of its slot
slot_rises : (slots : ℕ) (xs : List ℕ) (s : ℕ) → RiseBySlot slots xs → ((r : ℕ) → Has r xs → r % slots ≡ s % slots → r < s) → RiseBySlot slots (xs ++ s ∷ [])
slot_rises slots [] s r h = (tt, tt)
slot_rises slots (x ∷ xs) s r h = (each_append (λ u. x % slots ≡ u % slots → x < u) xs (s ∷ []) r.0 (h x (0, refl), tt), slot_rises slots xs s r.1 (λ u k e. h u (suc k.0, k.1) e))

-- a granted bind
pub bind_keeps : (t : Terms) (words : ℕ → ℕ × ℕ) (last : ℕ) (a : List (ℕ × Claim)) (f p : ActorId → List (ℕ × ℕ)) → BookLaw t words last a f p → (y : ActorId) (s u : ℕ) → IsHand t y → ¬ (s ≡ 0) → ¬ (u ≡ 0) → words (s % t.max_conn) ≡ (s, 0) → BookLaw t (set words (s % t.max_conn) (s, u)) last a f (add p y (s, u))
bind_keeps t words last a f p l y s u k ns nu e =
    record {
      claims = l.claims;
      last_is = l.last_is;
      low = l.low;
      released = l.released;
      slot = λ i. at_slot i (i == s % t.max_conn) refl;
      held = λ r nr. at_held r nr (r % t.max_conn == s % t.max_conn) refl;
      back = λ r has. at_back r has (r % t.max_conn == s % t.max_conn) refl;
      again = l.again;
      rise = l.rise;
      one = λ r. elim (equal_or_not s r) [ inl q ↦ (u, subst (λ w. UidIs t (add p y (s, u)) w u) q (inr own)) | inr n ↦ ((l.one r).0, uid_moved t p (add p y (s, u)) r (l.one r).0 (bind_other p y s u r n) (l.one r).1) ];
      above = λ r lt z. bind_other p y s u r (λ q. (let b : s ≤ last = (each_has (λ w. (¬ (w ≡ 0)) × (w ≤ last)) (collect drew_in a) s l.low here.0).1 in absurd (omega arith))) z ∙ l.above r lt z;
      frees = λ n lt r v has. uid_moved t p (add p y (s, u)) r v (bind_other p y s u r (λ q. here.1.0 (n, (lt, subst (λ w. Has w (firsts (f (Reactor n)))) (sym q) (has_first r v (f (Reactor n)) has))))) (l.frees n lt r v has);
    }
  where
    here : Has s (collect drew_in a) × ((IsFreed t f s → ⊥) × UidIs t p s (words (s % t.max_conn)).1)
    here = l.held s ns (ap (λ (w : ℕ × ℕ). w.0) e)

    none : NoBind p s
    none = by (subst (UidIs t p s) (ap (λ (w : ℕ × ℕ). w.1) e) here.1.1)
      where
        by : UidIs t p s 0 → NoBind p s
        by (inl h) = h.1
        by (inr h) = absurd (h.0 refl)

    own : OneBind t (add p y (s, u)) s u
    own = bind_own t p y s u k nu none

    at_slot : (i : ℕ) (b : Bool) → i == s % t.max_conn ≡ b → ¬ ((if b then (s, u) else words i).0 ≡ 0) → (if b then (s, u) else words i).0 % t.max_conn ≡ i
    at_slot i true q n = sym (eq_is i (s % t.max_conn) q)
    at_slot i false q n = l.slot i n

    at_held : (r : ℕ) → ¬ (r ≡ 0) → (b : Bool) → r % t.max_conn == s % t.max_conn ≡ b → (if b then (s, u) else words (r % t.max_conn)).0 ≡ r → Has r (collect drew_in a) × ((IsFreed t f r → ⊥) × UidIs t (add p y (s, u)) r (if b then (s, u) else words (r % t.max_conn)).1)
    at_held r nr true q i = (subst (λ w. Has w (collect drew_in a)) i here.0, (subst (λ w. IsFreed t f w → ⊥) i here.1.0, subst (λ w. UidIs t (add p y (s, u)) w u) i (inr own)))
    at_held r nr false q i =
        let h = l.held r nr i in
        let n : ¬ (s ≡ r) = λ e. absurd (let j : r % t.max_conn == s % t.max_conn ≡ true = eq_same (r % t.max_conn) (s % t.max_conn) (ap (λ w. w % t.max_conn) (sym e)) in let v : true ≡ false = sym j ∙ q in cc) in
        (h.0, (h.1.0, uid_moved t p (add p y (s, u)) r (words (r % t.max_conn)).1 (bind_other p y s u r n) h.1.1))

    at_back : (r : ℕ) → Has r (collect drew_in a) → (b : Bool) → r % t.max_conn == s % t.max_conn ≡ b → ((if b then (s, u) else words (r % t.max_conn)).0 ≡ r) ⊎ IsFreed t f r
    at_back r has true q = elim (l.back r has) [ inl i ↦ inl (ap (λ (w : ℕ × ℕ). w.0) (sym e) ∙ ap (λ w. (words w).0) (sym (eq_is (r % t.max_conn) (s % t.max_conn) q)) ∙ i) | inr i ↦ inr i ]
    at_back r has false q = l.back r has

-- a release of a session that a reactor has
pub free_keeps : (t : Terms) (words : ℕ → ℕ × ℕ) (last : ℕ) (a : List (ℕ × Claim)) (f p : ActorId → List (ℕ × ℕ)) → BookLaw t words last a f p → (n s u : ℕ) → n < t.reactor_num → ¬ (s ≡ 0) → (words (s % t.max_conn)).0 ≡ s → (words (s % t.max_conn)).1 ≡ u → BookLaw t (set words (s % t.max_conn) (0, 0)) last a (add f (Reactor n) (s, u)) p
free_keeps t words last a f p l n s u lt ns e g =
    record {
      claims = l.claims;
      last_is = l.last_is;
      low = l.low;
      released = λ r i. elim (freed r i) [ inl q ↦ subst (λ w. Has w (collect drew_in a)) q here.0 | inr j ↦ l.released r j ];
      slot = λ i. at_slot i (i == s % t.max_conn);
      held = λ r nr. at_held r nr (r % t.max_conn == s % t.max_conn) refl;
      back = λ r has. at_back r has (r % t.max_conn == s % t.max_conn) refl;
      again = λ r v hr hv less e. still r (l.again r v hr hv less e);
      rise = λ m less. at_rise m less (is (Reactor m) (Reactor n)) refl;
      one = l.one;
      above = l.above;
      frees = λ m less r v. at_frees m less r v (is (Reactor m) (Reactor n));
    }
  where
    here : Has s (collect drew_in a) × ((IsFreed t f s → ⊥) × UidIs t p s (words (s % t.max_conn)).1)
    here = l.held s ns e

    f' : ActorId → List (ℕ × ℕ)
    f' = add f (Reactor n) (s, u)

    freed_at : (r m : ℕ) (b : Bool) → Has r (firsts (if b then f (Reactor m) ++ (s, u) ∷ [] else f (Reactor m))) → (s ≡ r) ⊎ Has r (firsts (f (Reactor m)))
    freed_at r m true h = elim (has_split r (firsts (f (Reactor m))) (s ∷ []) (subst (λ (xs : List ℕ). Has r xs) (collect-append first_of (f (Reactor m)) ((s, u) ∷ [])) h)) [ inl k ↦ inr k | inr k ↦ inl (has_one r s k) ]
    freed_at r m false h = inr h

    freed : (r : ℕ) → IsFreed t (add f (Reactor n) (s, u)) r → (s ≡ r) ⊎ IsFreed t f r
    freed r (m, (less, h)) = elim (freed_at r m (is (Reactor m) (Reactor n)) h) [ inl q ↦ inl q | inr k ↦ inr (m, (less, k)) ]

    kept_at : (r m : ℕ) (b : Bool) → Has r (firsts (f (Reactor m))) → Has r (firsts (if b then f (Reactor m) ++ (s, u) ∷ [] else f (Reactor m)))
    kept_at r m true h = subst (λ (xs : List ℕ). Has r xs) (sym (collect-append first_of (f (Reactor m)) ((s, u) ∷ []))) (has_left r (firsts (f (Reactor m))) (s ∷ []) h)
    kept_at r m false h = h

    still : (r : ℕ) → IsFreed t f r → IsFreed t (add f (Reactor n) (s, u)) r
    still r (m, (less, h)) = (m, (less, kept_at r m (is (Reactor m) (Reactor n)) h))

    now_at : (b : Bool) → b ≡ true → Has s (firsts (if b then f (Reactor n) ++ (s, u) ∷ [] else f (Reactor n)))
    now_at true q = subst (λ (xs : List ℕ). Has s xs) (sym (collect-append first_of (f (Reactor n)) ((s, u) ∷ []))) (has_right s (firsts (f (Reactor n))) (s ∷ []) (0, refl))
    now_at false q = absurd (cc)

    now : IsFreed t (add f (Reactor n) (s, u)) s
    now = (n, (lt, now_at (is (Reactor n) (Reactor n)) (is_refl (Reactor n))))

    below : (m : ℕ) → m < t.reactor_num → (r : ℕ) → Has r (firsts (f (Reactor m))) → r % t.max_conn ≡ s % t.max_conn → r < s
    below m less r h e =
        elim (cases_lt r s) [
          | inl q ↦ q
          | inr q ↦ elim (equal_or_not s r) [
            | inl i ↦ absurd (here.1.0 (subst (IsFreed t f) (sym i) (m, (less, h))))
            | inr ne ↦ absurd (here.1.0 (l.again s r here.0 (l.released r (m, (less, h))) (omega (arith, q, ne)) (sym e)))
          ]
        ]

    at_rise : (m : ℕ) → m < t.reactor_num → (b : Bool) → is (Reactor m) (Reactor n) ≡ b → RiseBySlot t.max_conn (firsts (if b then f (Reactor m) ++ (s, u) ∷ [] else f (Reactor m)))
    at_rise m less true q = subst (RiseBySlot t.max_conn) (sym (collect-append first_of (f (Reactor m)) ((s, u) ∷ []))) (slot_rises t.max_conn (firsts (f (Reactor m))) s (l.rise m less) (λ r h e. below m less r h e))
    at_rise m less false q = l.rise m less

    at_slot : (i : ℕ) (b : Bool) → ¬ ((if b then (0, 0) else words i).0 ≡ 0) → (if b then (0, 0) else words i).0 % t.max_conn ≡ i
    at_slot i true m = absurd (m refl)
    at_slot i false m = l.slot i m

    at_held : (r : ℕ) → ¬ (r ≡ 0) → (b : Bool) → r % t.max_conn == s % t.max_conn ≡ b → (if b then (0, 0) else words (r % t.max_conn)).0 ≡ r → Has r (collect drew_in a) × ((IsFreed t (add f (Reactor n) (s, u)) r → ⊥) × UidIs t p r (if b then (0, 0) else words (r % t.max_conn)).1)
    at_held r nr true q i = absurd (nr (sym i))
    at_held r nr false q i =
        let h = l.held r nr i in
        (h.0, ((λ k. elim (freed r k) [ inl e ↦ absurd (let j : r % t.max_conn == s % t.max_conn ≡ true = eq_same (r % t.max_conn) (s % t.max_conn) (ap (λ w. w % t.max_conn) (sym e)) in let v : true ≡ false = sym j ∙ q in cc) | inr e ↦ h.1.0 e ]), h.1.1))

    at_back : (r : ℕ) → Has r (collect drew_in a) → (b : Bool) → r % t.max_conn == s % t.max_conn ≡ b → ((if b then (0, 0) else words (r % t.max_conn)).0 ≡ r) ⊎ IsFreed t (add f (Reactor n) (s, u)) r
    at_back r has true q = elim (l.back r has) [
      | inl i ↦ inr (subst (IsFreed t (add f (Reactor n) (s, u))) (sym e ∙ ap (λ w. (words w).0) (sym (eq_is (r % t.max_conn) (s % t.max_conn) q)) ∙ i) now)
      | inr i ↦ inr (still r i)
    ]
    at_back r has false q = elim (l.back r has) [ inl i ↦ inl i | inr i ↦ inr (still r i) ]

    at_frees : (m : ℕ) → m < t.reactor_num → (r v : ℕ) (b : Bool) → Has (r, v) (if b then f (Reactor m) ++ (s, u) ∷ [] else f (Reactor m)) → UidIs t p r v
    at_frees m less r v true h = elim (has_split (r, v) (f (Reactor m)) ((s, u) ∷ []) h) [
      | inl k ↦ l.frees m less r v k
      | inr k ↦ (let q : (s, u) ≡ (r, v) = has_one (r, v) (s, u) k in subst (λ (w : ℕ × ℕ). UidIs t p w.0 w.1) q (subst (UidIs t p s) g here.1.1))
    ]
    at_frees m less r v false h = l.frees m less r v h

-- a claim
drew_more : (a : List (ℕ × Claim)) (x : ℕ × Claim) → collect drew_in (a ++ x ∷ []) ≡ collect drew_in a ++ drew x.1
drew_more a x = collect-append drew_in a (x ∷ []) ∙ ap (λ (ns : List ℕ). collect drew_in a ++ ns) (append-nil (drew x.1))

pub drawn_more : (a : List (ℕ × Claim)) (x : ℕ × Claim) (s : ℕ) → Has s (collect drew_in a) → Has s (collect drew_in (a ++ x ∷ []))
drawn_more a x s h = subst (λ (ns : List ℕ). Has s ns) (sym (drew_more a x)) (has_left s (collect drew_in a) (drew x.1) h)

-- the law but for the words, the list of drawn numbers and what is above the last
claim_laws : (t : Terms) (words : ℕ → ℕ × ℕ) (last : ℕ) (a : List (ℕ × Claim)) (f p : ActorId → List (ℕ × ℕ)) → BookLaw t words last a f p → (ip : ℕ) (c : Claim) (l : ℕ) → Tried t.max_conn words t.max_conn last c l → IsClaims t.max_conn t.session_last [] (a ++ (ip, c) ∷ []) × ((l ≡ last_all t.max_conn t.session_last (a ++ (ip, c) ∷ [])) × (last < 2 ^ 32))
claim_laws t words last a f p k ip c l h =
    let low : last_all t.max_conn t.session_last a < 2 ^ 32 = claims_last t.max_conn t.session_last [] a k.claims in
    let q = claimed_is t.max_conn words last (collect drew_in a) c l (λ n ne. (let d = slot_drawn t words last a f p k (n % t.max_conn) (words (n % t.max_conn)).0 refl ne in ((words (n % t.max_conn)).0, (d.0, d.1)))) h in
    let less : last_then t.max_conn last c < 2 ^ 32 = subst (λ w. w < 2 ^ 32) q.1.0 q.1.1 in (
      claims_more t.max_conn t.session_last [] a (ip, c) k.claims (subst (λ w. IsClaimed t.max_conn w (collect drew_in a) c) k.last_is q.0) (subst (λ w. last_then t.max_conn w c < 2 ^ 32) k.last_is less),
      (q.1.0 ∙ ap (λ w. last_then t.max_conn w c) k.last_is ∙ sym (last_more t.max_conn t.session_last a (ip, c)), subst (λ w. w < 2 ^ 32) (sym k.last_is) low),
    )

-- without a number
none_keeps : (t : Terms) (words : ℕ → ℕ × ℕ) (last : ℕ) (a : List (ℕ × Claim)) (f p : ActorId → List (ℕ × ℕ)) → BookLaw t words last a f p → (ip : ℕ) (c : Claim) (l : ℕ) → drew c ≡ [] → last ≤ l → IsClaims t.max_conn t.session_last [] (a ++ (ip, c) ∷ []) → l ≡ last_all t.max_conn t.session_last (a ++ (ip, c) ∷ []) → BookLaw t words l (a ++ (ip, c) ∷ []) f p
none_keeps t words last a f p k ip c l none le claims is =
    let same : collect drew_in (a ++ (ip, c) ∷ []) ≡ collect drew_in a = drew_more a (ip, c) ∙ ap (λ (ns : List ℕ). collect drew_in a ++ ns) none ∙ append-nil (collect drew_in a) in
    record {
      claims = claims;
      last_is = is;
      low = subst (Each (λ s. (¬ (s ≡ 0)) × (s ≤ l))) (sym same) (each_more (λ s. (¬ (s ≡ 0)) × (s ≤ last)) (λ s. (¬ (s ≡ 0)) × (s ≤ l)) (collect drew_in a) (λ s h. (h.0, (let b : s ≤ last = h.1 in omega arith))) k.low);
      released = λ s i. drawn_more a (ip, c) s (k.released s i);
      slot = k.slot;
      held = λ s n e. (let h = k.held s n e in (drawn_more a (ip, c) s h.0, h.1));
      back = λ s has. k.back s (subst (λ (ns : List ℕ). Has s ns) same has);
      again = λ r v hr hv less e. k.again r v (subst (λ (ns : List ℕ). Has r ns) same hr) (subst (λ (ns : List ℕ). Has v ns) same hv) less e;
      rise = k.rise;
      one = k.one;
      above = λ s lt. k.above s (omega arith);
      frees = k.frees;
    }

drew_keeps : (t : Terms) (words : ℕ → ℕ × ℕ) (last : ℕ) (a : List (ℕ × Claim)) (f p : ActorId → List (ℕ × ℕ)) → BookLaw t words last a f p → (ip s : ℕ) → last < s → (words (s % t.max_conn)).0 ≡ 0 → IsClaims t.max_conn t.session_last [] (a ++ (ip, Drew s) ∷ []) → s ≡ last_all t.max_conn t.session_last (a ++ (ip, Drew s) ∷ []) → BookLaw t (set words (s % t.max_conn) (s, 0)) s (a ++ (ip, Drew s) ∷ []) f p
drew_keeps t words last a f p k ip s lt free claims is =
    record {
      claims = claims;
      last_is = is;
      low = subst (Each (λ r. (¬ (r ≡ 0)) × (r ≤ s))) (sym (drew_more a (ip, Drew s)))
          (each_append (λ r. (¬ (r ≡ 0)) × (r ≤ s)) (collect drew_in a) (s ∷ []) (each_more (λ r. (¬ (r ≡ 0)) × (r ≤ last)) (λ r. (¬ (r ≡ 0)) × (r ≤ s)) (collect drew_in a) (λ r h. (h.0, (let b : r ≤ last = h.1 in omega arith))) k.low) (((λ e. absurd (omega arith)), (omega arith)), tt));
      released = λ r i. drawn_more a (ip, Drew s) r (k.released r i);
      slot = λ i. at_slot i (i == s % t.max_conn) refl;
      held = λ r nr. at_held r nr (r % t.max_conn == s % t.max_conn) refl;
      back = λ r has. at_back r (subst (λ (ns : List ℕ). Has r ns) (drew_more a (ip, Drew s)) has);
      again = λ r v hr hv less e. at_again r v (subst (λ (ns : List ℕ). Has r ns) (drew_more a (ip, Drew s)) hr) (subst (λ (ns : List ℕ). Has v ns) (drew_more a (ip, Drew s)) hv) less e;
      rise = k.rise;
      one = k.one;
      above = λ r less. k.above r (omega arith);
      frees = k.frees;
    }
  where
    a' : List (ℕ × Claim)
    a' = a ++ (ip, Drew s) ∷ []

    at_slot : (i : ℕ) (b : Bool) → i == s % t.max_conn ≡ b → ¬ ((if b then (s, 0) else words i).0 ≡ 0) → (if b then (s, 0) else words i).0 % t.max_conn ≡ i
    at_slot i true q n = sym (eq_is i (s % t.max_conn) q)
    at_slot i false q n = k.slot i n

    new : Has s (collect drew_in (a ++ (ip, Drew s) ∷ []))
    new = subst (λ (ns : List ℕ). Has s ns) (sym (drew_more a (ip, Drew s))) (has_right s (collect drew_in a) (s ∷ []) (0, refl))

    at_held : (r : ℕ) → ¬ (r ≡ 0) → (b : Bool) → r % t.max_conn == s % t.max_conn ≡ b → (if b then (s, 0) else words (r % t.max_conn)).0 ≡ r → Has r (collect drew_in (a ++ (ip, Drew s) ∷ [])) × ((IsFreed t f r → ⊥) × UidIs t p r (if b then (s, 0) else words (r % t.max_conn)).1)
    at_held r nr true q i = subst (λ w. Has w (collect drew_in (a ++ (ip, Drew s) ∷ [])) × ((IsFreed t f w → ⊥) × UidIs t p w 0)) i (new, ((λ j. absurd (let b : s ≤ last = freed_low t words last a f p k s j in omega arith)), inl (refl, k.above s lt)))
    at_held r nr false q i = let h = k.held r nr i in (drawn_more a (ip, Drew s) r h.0, h.1)

    old_back : (r : ℕ) → Has r (collect drew_in a) → (b : Bool) → r % t.max_conn == s % t.max_conn ≡ b → ((if b then (s, 0) else words (r % t.max_conn)).0 ≡ r) ⊎ IsFreed t f r
    old_back r has true q = elim (k.back r has) [
      | inl i ↦ absurd ((each_has (λ w. (¬ (w ≡ 0)) × (w ≤ last)) (collect drew_in a) r k.low has).0 (sym i ∙ ap (λ w. (words w).0) (eq_is (r % t.max_conn) (s % t.max_conn) q) ∙ free))
      | inr i ↦ inr i
    ]
    old_back r has false q = k.back r has

    new_back : (b : Bool) → s % t.max_conn == s % t.max_conn ≡ b → ((if b then (s, 0) else words (s % t.max_conn)).0 ≡ s) ⊎ IsFreed t f s
    new_back true q = inl refl
    new_back false q = absurd (let j : s % t.max_conn == s % t.max_conn ≡ true = eq_same (s % t.max_conn) (s % t.max_conn) refl in let v : true ≡ false = sym j ∙ q in cc)

    low_of : (r : ℕ) → Has r (collect drew_in a) → (¬ (r ≡ 0)) × (r ≤ last)
    low_of r h = each_has (λ w. (¬ (w ≡ 0)) × (w ≤ last)) (collect drew_in a) r k.low h

    at_again : (r v : ℕ) → Has r (collect drew_in a ++ s ∷ []) → Has v (collect drew_in a ++ s ∷ []) → r < v → r % t.max_conn ≡ v % t.max_conn → IsFreed t f r
    at_again r v hr hv less e = elim (has_split r (collect drew_in a) (s ∷ []) hr) [
      | inl i ↦ elim (has_split v (collect drew_in a) (s ∷ []) hv) [
        | inl j ↦ k.again r v i j less e
        | inr j ↦ elim (k.back r i) [
          | inl q ↦ absurd ((low_of r i).0 (sym q ∙ ap (λ w. (words w).0) (e ∙ ap (λ w. w % t.max_conn) (sym (has_one v s j))) ∙ free))
          | inr q ↦ q
        ]
      ]
      | inr i ↦ absurd (let q : s ≡ r = has_one r s i in elim (has_split v (collect drew_in a) (s ∷ []) hv) [
        | inl j ↦ (let b : v ≤ last = (low_of v j).1 in absurd (omega arith))
        | inr j ↦ (let b : s ≡ v = has_one v s j in absurd (omega arith))
      ])
    ]

    at_back : (r : ℕ) → Has r (collect drew_in a ++ s ∷ []) → ((set words (s % t.max_conn) (s, 0) (r % t.max_conn)).0 ≡ r) ⊎ IsFreed t f r
    at_back r has = elim (has_split r (collect drew_in a) (s ∷ []) has) [
      | inl h ↦ old_back r h (r % t.max_conn == s % t.max_conn) refl
      | inr h ↦ subst (λ w. ((set words (s % t.max_conn) (s, 0) (w % t.max_conn)).0 ≡ w) ⊎ IsFreed t f w) (has_one r s h) (new_back (s % t.max_conn == s % t.max_conn) refl)
    ]

claim_by_kind : (t : Terms) (words : ℕ → ℕ × ℕ) (last : ℕ) (a : List (ℕ × Claim)) (f p : ActorId → List (ℕ × ℕ)) → BookLaw t words last a f p → (ip : ℕ) (c : Claim) (l : ℕ) → Tried t.max_conn words t.max_conn last c l → BookLaw t (words_by t.max_conn words c) l (a ++ (ip, c) ∷ []) f p
claim_by_kind t words last a f p k ip (Drew s) l h =
    let q = claim_laws t words last a f p k ip (Drew s) l h in
    let e : s ≡ l = sym h.1.1.1.1.1 in
    subst (λ w. BookLaw t (set words (s % t.max_conn) (s, 0)) w (a ++ (ip, Drew s) ∷ []) f p) e
    (drew_keeps t words last a f p k ip s h.0 h.1.1.1.1.0 q.0 (e ∙ q.1.0))
claim_by_kind t words last a f p k ip Full l h =
    let q = claim_laws t words last a f p k ip Full l h in
    none_keeps t words last a f p k ip Full l refl (let e : l ≡ last + t.max_conn = h.1.0 in omega arith) q.0 q.1.0
claim_by_kind t words last a f p k ip Spent l h =
    let q = claim_laws t words last a f p k ip Spent l h in
    none_keeps t words last a f p k ip Spent l refl (let e : l ≡ 2 ^ 32 - 1 = h.1.1 in let d : last < 2 ^ 32 = q.1.1 in omega arith) q.0 q.1.0

pub claim_keeps : (t : Terms) (words : ℕ → ℕ × ℕ) (last : ℕ) (a : List (ℕ × Claim)) (f p : ActorId → List (ℕ × ℕ)) → BookLaw t words last a f p → (ip : ℕ) → let r = claim_by t.max_conn words t.max_conn last in BookLaw t (words_by t.max_conn words r.0) r.1 (a ++ (ip, r.0) ∷ []) f p
claim_keeps t words last a f p k ip =
    claim_by_kind t words last a f p k ip (claim_by t.max_conn words t.max_conn last).0 (claim_by t.max_conn words t.max_conn last).1
    (tried t.max_conn words t.max_conn last (subst (λ w. w < 2 ^ 32) (sym k.last_is) (claims_last t.max_conn t.session_last [] a k.claims)))
