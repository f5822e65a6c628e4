-- Each call keeps what the stop word and the counters show.
use Rattle.std.proofs.Common.{◌≡◌, ℕ, ◌+◌, ◌≤◌, nat_lt, Bool, true, false, if◌then◌else◌, List, [], ◌∷◌, ◌++◌, length, refl, ap, ◌∙◌, sym, subst, append-nil, arith, ◌⊎◌, suc, zero, inl, inr}
use Rattle.std.proofs.lemmas.Bool.Decides.{nat_tests}
use Rattle.sw_lists.specs.Lists.{collect, Each, Has, when}
use Rattle.sw_lists.proofs.Lists.{collect-append, each_append, each_more, length_append, append_none}
use Rattle.sw_step.specs.declared.actor.ActorId.{ActorId}
use Rattle.sw_step.specs.Actors.{is}
use Rattle.sw_step.specs.declared.actor.ActorId.TheVariants.{Door, Reactor}
use Rattle.sw_record.specs.Terms.{Terms}
use Rattle.sw_past.specs.Routes.{IsHand, crew, hands}
use Rattle.sw_join.proofs.Routes.{is_refl}
use Rattle.sw_join.proofs.Merged.{hands_have}
use Rattle.sw_record.specs.Places.{Ran}
use Rattle.sw_record.specs.Counts.{greatest}
use Rattle.sw_record.specs.Words.{Counter}
use Rattle.sw_world_ports.specs.Calls.{Did, Accepts, NoLink, NetOver, Looks, Binds, Frees, Marks, Idles, Stops, SeesStop, Adds, Sums, Tables, MayDo, TableRefuses}
use Rattle.sw_world_ports.specs.Ports.{Ports, add, added, Answers, ported, everyone, sum_of, capped}
use Rattle.sw_world_ports.specs.Made.{stop_in, saw_stop_in, add_in, sum_in, same_counter}
use Rattle.sw_world_ports.specs.Law.{IsStopped, StopLaw, CountsLaw}
use Rattle.sw_world_ports.proofs.Frame.{frame}
use Rattle.sw_world_ports.proofs.Haves.{has_right, Place, AtLast, Before, place_of}
use Rattle.sw_world_ports.proofs.Counters.{counter_is, counter_same, counter_other}

-- the stop word
keep_some : {B : Type 0} (f : Did → List B) (dids : ActorId → List Did) (y : ActorId) (d : Did) (z : ActorId) → ¬ (collect f (dids z) ≡ []) → ¬ (collect f (add dids y d z) ≡ [])
keep_some {B} f dids y d z h = pick (is z y)
  where
    pick : (b : Bool) → collect f (if b then dids z ++ d ∷ [] else dids z) ≡ [] → ⊥
    pick true e = h (append_none (collect f (dids z)) (collect f (d ∷ [])) (sym (collect-append f (dids z) (d ∷ [])) ∙ e)).0
    pick false e = h e

was_some : {B : Type 0} (f : Did → List B) (ds : List Did) (d : Did) → f d ≡ [] → ¬ (collect f (ds ++ d ∷ []) ≡ []) → ¬ (collect f ds ≡ [])
was_some {B} f ds d e h q = h (collect-append f ds (d ∷ []) ∙ ap (λ (xs : List B). xs ++ (f d ++ [])) q ∙ ap (λ (xs : List B). xs ++ []) e)

stopped_more : (t : Terms) (dids : ActorId → List Did) (y : ActorId) (d : Did) → IsStopped t dids → IsStopped t (add dids y d)
stopped_more t dids y d h = (h.0, (h.1.0, keep_some stop_in dids y d h.0 h.1.1))

-- a call that sets and sees nothing
stop_still : (t : Terms) (stop : Bool) (dids : ActorId → List Did) (y : ActorId) (d : Did) → saw_stop_in d ≡ [] → StopLaw t stop dids → StopLaw t stop (add dids y d)
stop_still t stop dids y d e h =
    record {
      set = λ q. stopped_more t dids y d (h.set q);
      seen = frame y (λ b z. ¬ (collect saw_stop_in (if b then dids z ++ d ∷ [] else dids z) ≡ []) → IsStopped t (add dids y d)) (λ k. stopped_more t dids y d (h.seen y (was_some saw_stop_in (dids y) d e k))) (λ z k. stopped_more t dids y d (h.seen z k));
    }

pub stop_keeps : (t : Terms) (legal : List Ran → Type 0) (p : Ports) (dids : ActorId → List Did) → StopLaw t p.stop dids → (y : ActorId) (d : Did) → MayDo t y d → Answers t legal p y d → StopLaw t (ported t p y d).stop (add dids y d)
stop_keeps t legal p dids h y Stops may ans =
    record {
      set = λ q. now;
      seen = λ z k. now;
    }
  where
    at : (b : Bool) → b ≡ true → ¬ (collect stop_in (if b then dids y ++ Stops ∷ [] else dids y) ≡ [])
    at true e k = absurd (let i = (append_none (collect stop_in (dids y)) (0 ∷ []) (sym (collect-append stop_in (dids y) (Stops ∷ [])) ∙ k)).1 in cc)
    at false e k = absurd (cc)

    now : IsStopped t (add dids y Stops)
    now = (y, (may, at (is y y) (is_refl y)))
stop_keeps t legal p dids h y (SeesStop true) may ans =
    record {
      set = λ q. stopped_more t dids y (SeesStop true) (h.set q);
      seen = λ z k. stopped_more t dids y (SeesStop true) (h.set ans);
    }
stop_keeps t legal p dids h y (SeesStop false) may ans = stop_still t p.stop dids y (SeesStop false) refl h
stop_keeps t legal p dids h y (Accepts ip c) may ans = stop_still t p.stop dids y (Accepts ip c) refl h
stop_keeps t legal p dids h y NoLink may ans = stop_still t p.stop dids y NoLink refl h
stop_keeps t legal p dids h y NetOver may ans = stop_still t p.stop dids y NetOver refl h
stop_keeps t legal p dids h y (Looks s x) may ans = stop_still t p.stop dids y (Looks s x) refl h
stop_keeps t legal p dids h y (Binds s u x) may ans = stop_still t p.stop dids y (Binds s u x) refl h
stop_keeps t legal p dids h y (Frees s u) may ans = stop_still t p.stop dids y (Frees s u) refl h
stop_keeps t legal p dids h y (Marks b) may ans = stop_still t p.stop dids y (Marks b) refl h
stop_keeps t legal p dids h y (Idles c k x) may ans = stop_still t p.stop dids y (Idles c k x) refl h
stop_keeps t legal p dids h y (Adds c) may ans = stop_still t p.stop dids y (Adds c) refl h
stop_keeps t legal p dids h y (Sums c n) may ans = stop_still t p.stop dids y (Sums c n) refl h
stop_keeps t legal p dids h y (Tables at x) may ans = stop_still t p.stop dids y (Tables at x) refl h
stop_keeps t legal p dids h y (TableRefuses k fault) may ans = stop_still t p.stop dids y (TableRefuses k fault) refl h

-- the counters
sum_le : (f g : ActorId → ℕ) (ys : List ActorId) → ((y : ActorId) → f y ≤ g y) → sum_of f ys ≤ sum_of g ys
sum_le f g [] h = omega arith
sum_le f g (y ∷ ys) h = let a : f y ≤ g y = h y in let b : sum_of f ys ≤ sum_of g ys = sum_le f g ys h in omega arith

more_of : (f : Did → List ℕ) (dids : ActorId → List Did) (y : ActorId) (d : Did) (z : ActorId) → length (collect f (dids z)) ≤ length (collect f (add dids y d z))
more_of f dids y d z = pick (is z y)
  where
    pick : (b : Bool) → length (collect f (dids z)) ≤ length (collect f (if b then dids z ++ d ∷ [] else dids z))
    pick true = omega (arith, ap length (collect-append f (dids z) (d ∷ [])), length_append (collect f (dids z)) (collect f (d ∷ [])))
    pick false = omega arith

least_more : (t : Terms) (dids : ActorId → List Did) (y : ActorId) (d : Did) → ((z : ActorId) (before behind : List Did) (c : Counter) (n : ℕ) → dids z ≡ before ++ Sums c n ∷ behind → (length (collect (add_in c) before) ≤ n) ⊎ (n ≡ greatest)) → ((c : Counter) (n : ℕ) → d ≡ Sums c n → (length (collect (add_in c) (dids y)) ≤ n) ⊎ (n ≡ greatest)) → (z : ActorId) (before behind : List Did) (c : Counter) (n : ℕ) → add dids y d z ≡ before ++ Sums c n ∷ behind → (length (collect (add_in c) before) ≤ n) ⊎ (n ≡ greatest)
least_more t dids y d old now z before behind c n = frame y (λ b x. (if b then dids x ++ d ∷ [] else dids x) ≡ before ++ Sums c n ∷ behind → (length (collect (add_in c) before) ≤ n) ⊎ (n ≡ greatest)) (λ e. by (place_of (dids y) d before (Sums c n) behind e)) (λ x e. old x before behind c n e) z
  where
    by : Place (dids y) d before (Sums c n) behind → (length (collect (add_in c) before) ≤ n) ⊎ (n ≡ greatest)
    by (AtLast i j) = subst (λ (ds : List Did). (length (collect (add_in c) ds) ≤ n) ⊎ (n ≡ greatest)) i (now c n j)
    by (Before more i) = old y before more c n i

sum_same : (t : Terms) (counts : Counter → ActorId → ℕ) (dids : ActorId → List Did) (y : ActorId) (d : Did) → ((c : Counter) → add_in c d ≡ []) → ((c : Counter) (n : ℕ) → d ≡ Sums c n → (length (collect (add_in c) (dids y)) ≤ n) ⊎ (n ≡ greatest)) → Each (λ (p : Counter × ℕ). p.1 ≤ sum_of (counts p.0) (everyone t)) (collect sum_in (d ∷ [])) → CountsLaw t counts dids → CountsLaw t counts (add dids y d)
sum_same t counts dids y d none now e h =
    record {
      cap = h.cap;
      own_least = λ c. frame y (λ b z. (length (collect (add_in c) (if b then dids z ++ d ∷ [] else dids z)) ≤ counts c z) ⊎ (counts c z ≡ greatest)) (subst (λ (xs : List ℕ). (length xs ≤ counts c y) ⊎ (counts c y ≡ greatest)) (sym (collect-append (add_in c) (dids y) (d ∷ []) ∙ ap (λ (xs : List ℕ). collect (add_in c) (dids y) ++ (xs ++ [])) (none c) ∙ append-nil (collect (add_in c) (dids y)))) (h.own_least c y)) (h.own_least c);
      least = least_more t dids y d h.least now;
      own = λ c z. (let a : counts c z ≤ length (collect (add_in c) (dids z)) = h.own c z in let b : length (collect (add_in c) (dids z)) ≤ length (collect (add_in c) (add dids y d z)) = more_of (add_in c) dids y d z in omega arith);
      sums = frame y (λ b z. Each (λ (p : Counter × ℕ). p.1 ≤ sum_of (counts p.0) (everyone t)) (collect sum_in (if b then dids z ++ d ∷ [] else dids z)))
          (subst (Each (λ (p : Counter × ℕ). p.1 ≤ sum_of (counts p.0) (everyone t))) (sym (collect-append sum_in (dids y) (d ∷ []))) (each_append (λ (p : Counter × ℕ). p.1 ≤ sum_of (counts p.0) (everyone t)) (collect sum_in (dids y)) (collect sum_in (d ∷ [])) (h.sums y) e)) h.sums;
    }

added_more : (counts : Counter → ActorId → ℕ) (y : ActorId) (c d : Counter) (z : ActorId) → counts d z ≤ added counts y c d z
added_more counts y c d z = one (same_counter d c)
  where
    three : (b : Bool) → counts d z ≤ (if b then counts d z + 1 else counts d z)
    three true = omega arith
    three false = omega arith

    two : (b : Bool) → counts d z ≤ (if b then (if nat_lt (counts d z) greatest then counts d z + 1 else counts d z) else counts d z)
    two true = three (nat_lt (counts d z) greatest)
    two false = omega arith

    one : (b : Bool) → counts d z ≤ (if b then (if is z y then (if nat_lt (counts d z) greatest then counts d z + 1 else counts d z) else counts d z) else counts d z)
    one true = two (is z y)
    one false = omega arith

capped_le : (n : ℕ) → capped n ≤ n
capped_le n = pick (nat_lt n greatest) refl
  where
    pick : (b : Bool) → nat_lt n greatest ≡ b → (if b then n else greatest) ≤ n
    pick true e = omega arith
    pick false e = grind (arith, nat_tests)

-- a sum that was made before, or now
capped_most : (n : ℕ) → capped n ≤ greatest
capped_most n = pick (nat_lt n greatest) refl
  where
    pick : (b : Bool) → nat_lt n greatest ≡ b → (if b then n else greatest) ≤ greatest
    pick true e = grind (arith, nat_tests)
    pick false e = omega arith

adds_keep : (t : Terms) (counts : Counter → ActorId → ℕ) (dids : ActorId → List Did) → CountsLaw t counts dids → (y : ActorId) (c : Counter) → CountsLaw t (added counts y c) (add dids y (Adds c))
adds_keep t counts dids h y c =
    record {
      cap = λ d z. cap_at d z (same_counter d c);
      own_least = λ d z. least_at d z (same_counter d c) refl;
      least = least_more t dids y (Adds c) h.least (λ k m e. absurd (cc));
      own = λ d z. one d z (same_counter d c) refl;
      sums = frame y (λ b z. Each (λ (p : Counter × ℕ). p.1 ≤ sum_of (added counts y c p.0) (everyone t)) (collect sum_in (if b then dids z ++ Adds c ∷ [] else dids z)))
          (subst (Each (λ (p : Counter × ℕ). p.1 ≤ sum_of (added counts y c p.0) (everyone t))) (sym (collect-append sum_in (dids y) (Adds c ∷ []) ∙ append-nil (collect sum_in (dids y)))) (more y)) more;
    }
  where
    more : (z : ActorId) → Each (λ (p : Counter × ℕ). p.1 ≤ sum_of (added counts y c p.0) (everyone t)) (collect sum_in (dids z))
    more z = each_more (λ (p : Counter × ℕ). p.1 ≤ sum_of (counts p.0) (everyone t)) (λ (p : Counter × ℕ). p.1 ≤ sum_of (added counts y c p.0) (everyone t)) (collect sum_in (dids z))
        (λ p k. (let a : p.1 ≤ sum_of (counts p.0) (everyone t) = k in let b : sum_of (counts p.0) (everyone t) ≤ sum_of (added counts y c p.0) (everyone t) = sum_le (counts p.0) (added counts y c p.0) (everyone t) (λ x. added_more counts y c p.0 x) in omega arith)) (h.sums z)

    cap_one : (d : Counter) (z : ActorId) (b : Bool) → nat_lt (counts d z) greatest ≡ b → (if b then counts d z + 1 else counts d z) ≤ greatest
    cap_one d z true e = grind (arith, nat_tests)
    cap_one d z false e = h.cap d z

    cap_two : (d : Counter) (z : ActorId) (b : Bool) → (if b then (if nat_lt (counts d z) greatest then counts d z + 1 else counts d z) else counts d z) ≤ greatest
    cap_two d z true = cap_one d z (nat_lt (counts d z) greatest) refl
    cap_two d z false = h.cap d z

    cap_at : (d : Counter) (z : ActorId) (b : Bool) → (if b then (if is z y then (if nat_lt (counts d z) greatest then counts d z + 1 else counts d z) else counts d z) else counts d z) ≤ greatest
    cap_at d z true = cap_two d z (is z y)
    cap_at d z false = h.cap d z

    same_adds : (d : Counter) (ds : List Did) → same_counter d c ≡ false → collect (add_in d) (ds ++ Adds c ∷ []) ≡ collect (add_in d) ds
    same_adds d ds e = collect-append (add_in d) ds (Adds c ∷ []) ∙ ap (λ b. collect (add_in d) ds ++ (when b 0 ++ [])) (counter_other c d (λ i. absurd (let j : same_counter d c ≡ true = counter_same d c (sym i) in let v : true ≡ false = sym j ∙ e in cc))) ∙ append-nil (collect (add_in d) ds)

    one_more : (d : Counter) (z : ActorId) → same_counter d c ≡ true → length (collect (add_in d) (dids z ++ Adds c ∷ [])) ≡ length (collect (add_in d) (dids z)) + 1
    one_more d z e = ap length (collect-append (add_in d) (dids z) (Adds c ∷ [])) ∙ length_append (collect (add_in d) (dids z)) (when (same_counter c d) 0 ++ []) ∙ ap (λ b. length (collect (add_in d) (dids z)) + length {A = ℕ} (when b 0 ++ [])) (counter_same c d (sym (counter_is d c e)))

    least_one : (d : Counter) (z : ActorId) → same_counter d c ≡ true → (b : Bool) → nat_lt (counts d z) greatest ≡ b → (length (collect (add_in d) (dids z ++ Adds c ∷ [])) ≤ (if b then counts d z + 1 else counts d z)) ⊎ ((if b then counts d z + 1 else counts d z) ≡ greatest)
    least_one d z e true q = elim (h.own_least d z) [ inl le ↦ inl (omega (arith, one_more d z e, le)) | inr full ↦ absurd (grind (arith, nat_tests)) ]
    least_one d z e false q = inr (let a : counts d z ≤ greatest = h.cap d z in grind (arith, nat_tests))

    least_two : (d : Counter) (z : ActorId) → same_counter d c ≡ true → (b : Bool) → (length (collect (add_in d) (if b then dids z ++ Adds c ∷ [] else dids z)) ≤ (if b then (if nat_lt (counts d z) greatest then counts d z + 1 else counts d z) else counts d z)) ⊎ ((if b then (if nat_lt (counts d z) greatest then counts d z + 1 else counts d z) else counts d z) ≡ greatest)
    least_two d z e true = least_one d z e (nat_lt (counts d z) greatest) refl
    least_two d z e false = h.own_least d z

    least_at : (d : Counter) (z : ActorId) (b : Bool) → same_counter d c ≡ b → (length (collect (add_in d) (add dids y (Adds c) z)) ≤ (if b then (if is z y then (if nat_lt (counts d z) greatest then counts d z + 1 else counts d z) else counts d z) else counts d z)) ⊎ ((if b then (if is z y then (if nat_lt (counts d z) greatest then counts d z + 1 else counts d z) else counts d z) else counts d z) ≡ greatest)
    least_at d z true e = least_two d z e (is z y)
    least_at d z false e = frame y (λ b x. (length (collect (add_in d) (if b then dids x ++ Adds c ∷ [] else dids x)) ≤ counts d x) ⊎ (counts d x ≡ greatest)) (subst (λ (xs : List ℕ). (length xs ≤ counts d y) ⊎ (counts d y ≡ greatest)) (sym (same_adds d (dids y) e)) (h.own_least d y)) (h.own_least d) z

    three : (d : Counter) (z : ActorId) (b : Bool) → (if b then counts d z + 1 else counts d z) ≤ counts d z + 1
    three d z true = omega arith
    three d z false = omega arith

    two : (d : Counter) (z : ActorId) → same_counter d c ≡ true → (b : Bool) → (if b then (if nat_lt (counts d z) greatest then counts d z + 1 else counts d z) else counts d z) ≤ length (collect (add_in d) (if b then dids z ++ Adds c ∷ [] else dids z))
    two d z e true =
        let a : counts d z ≤ length (collect (add_in d) (dids z)) = h.own d z in
        let k : (if nat_lt (counts d z) greatest then counts d z + 1 else counts d z) ≤ counts d z + 1 = three d z (nat_lt (counts d z) greatest) in
        let v : length (collect (add_in d) (dids z ++ Adds c ∷ [])) ≡ length (collect (add_in d) (dids z)) + 1 =
        ap length (collect-append (add_in d) (dids z) (Adds c ∷ [])) ∙ length_append (collect (add_in d) (dids z)) (when (same_counter c d) 0 ++ []) ∙ ap (λ b. length (collect (add_in d) (dids z)) + length {A = ℕ} (when b 0 ++ [])) (counter_same c d (sym (counter_is d c e))) in
        omega arith
    two d z e false = h.own d z

    one : (d : Counter) (z : ActorId) (b : Bool) → same_counter d c ≡ b → (if b then (if is z y then (if nat_lt (counts d z) greatest then counts d z + 1 else counts d z) else counts d z) else counts d z) ≤ length (collect (add_in d) (add dids y (Adds c) z))
    one d z true e = two d z e (is z y)
    one d z false e = (let a : counts d z ≤ length (collect (add_in d) (dids z)) = h.own d z in let b : length (collect (add_in d) (dids z)) ≤ length (collect (add_in d) (add dids y (Adds c) z)) = more_of (add_in d) dids y (Adds c) z in omega arith)

sum_has : (f : ActorId → ℕ) (ys : List ActorId) (y : ActorId) → Has y ys → f y ≤ sum_of f ys
sum_has f [] y (k, q) = absurd (cc)
sum_has f (x ∷ ys) y (zero, q) = let i : x ≡ y = cc in let a : f x ≡ f y = ap (λ (z : ActorId). f z) i in omega arith
sum_has f (x ∷ ys) y (suc k, q) = let a : f y ≤ sum_of f ys = sum_has f ys y (k, q) in omega arith

capped_at : (n k : ℕ) → k ≤ n → (k ≤ capped n) ⊎ (capped n ≡ greatest)
capped_at n k le = pick (nat_lt n greatest)
  where
    pick : (b : Bool) → (k ≤ (if b then n else greatest)) ⊎ ((if b then n else greatest) ≡ greatest)
    pick true = inl le
    pick false = inr refl

-- a sum that is made now
sum_now : (t : Terms) (counts : Counter → ActorId → ℕ) (dids : ActorId → List Did) → CountsLaw t counts dids → (y : ActorId) (c : Counter) (n : ℕ) → IsHand t y → n ≡ capped (sum_of (counts c) (everyone t)) → (length (collect (add_in c) (dids y)) ≤ n) ⊎ (n ≡ greatest)
sum_now t counts dids h y c n hand e =
    let s : ℕ = sum_of (counts c) (everyone t) in
    let mine : counts c y ≤ sum_of (counts c) (everyone t) = sum_has (counts c) (everyone t) y (has_right y (Door ∷ crew Reactor 0 t.reactor_num) (hands t) (hands_have t y hand)) in
    subst (λ v. (length (collect (add_in c) (dids y)) ≤ v) ⊎ (v ≡ greatest)) (sym e)
    (elim (h.own_least c y) [
      | inl le ↦ capped_at (sum_of (counts c) (everyone t)) (length (collect (add_in c) (dids y))) (omega arith)
      | inr full ↦ elim (capped_at (sum_of (counts c) (everyone t)) greatest (omega (arith, full, mine))) [
        | inl le ↦ inr (omega (arith, le, capped_most (sum_of (counts c) (everyone t))))
        | inr q ↦ inr q
      ]
    ])

pub counts_keep : (t : Terms) (legal : List Ran → Type 0) (p : Ports) (dids : ActorId → List Did) → CountsLaw t p.counts dids → (y : ActorId) (d : Did) → MayDo t y d → Answers t legal p y d → CountsLaw t (ported t p y d).counts (add dids y d)
counts_keep t legal p dids h y (Adds c) may ans = adds_keep t p.counts dids h y c
counts_keep t legal p dids h y (Sums c n) may ans = sum_same t p.counts dids y (Sums c n) (λ k. refl) (λ k m e. sum_now t p.counts dids h y k m may (let i : c ≡ k = cc in let j : n ≡ m = cc in sym j ∙ ans ∙ ap (λ v. capped (sum_of (p.counts v) (everyone t))) i)) ((let a : n ≡ capped (sum_of (p.counts c) (everyone t)) = ans in let b : capped (sum_of (p.counts c) (everyone t)) ≤ sum_of (p.counts c) (everyone t) = capped_le (sum_of (p.counts c) (everyone t)) in omega arith), tt) h
counts_keep t legal p dids h y Stops may ans = sum_same t p.counts dids y Stops (λ k. refl) (λ k m e. absurd (cc)) tt h
counts_keep t legal p dids h y (SeesStop b) may ans = sum_same t p.counts dids y (SeesStop b) (λ k. refl) (λ k m e. absurd (cc)) tt h
counts_keep t legal p dids h y (Accepts ip c) may ans = sum_same t p.counts dids y (Accepts ip c) (λ k. refl) (λ k m e. absurd (cc)) tt h
counts_keep t legal p dids h y NoLink may ans = sum_same t p.counts dids y NoLink (λ k. refl) (λ k m e. absurd (cc)) tt h
counts_keep t legal p dids h y NetOver may ans = sum_same t p.counts dids y NetOver (λ k. refl) (λ k m e. absurd (cc)) tt h
counts_keep t legal p dids h y (Looks s x) may ans = sum_same t p.counts dids y (Looks s x) (λ k. refl) (λ k m e. absurd (cc)) tt h
counts_keep t legal p dids h y (Binds s u x) may ans = sum_same t p.counts dids y (Binds s u x) (λ k. refl) (λ k m e. absurd (cc)) tt h
counts_keep t legal p dids h y (Frees s u) may ans = sum_same t p.counts dids y (Frees s u) (λ k. refl) (λ k m e. absurd (cc)) tt h
counts_keep t legal p dids h y (Marks b) may ans = sum_same t p.counts dids y (Marks b) (λ k. refl) (λ k m e. absurd (cc)) tt h
counts_keep t legal p dids h y (Idles c k x) may ans = sum_same t p.counts dids y (Idles c k x) (λ k. refl) (λ k m e. absurd (cc)) tt h
counts_keep t legal p dids h y (Tables at x) may ans = sum_same t p.counts dids y (Tables at x) (λ k. refl) (λ k m e. absurd (cc)) tt h
counts_keep t legal p dids h y (TableRefuses k fault) may ans = sum_same t p.counts dids y (TableRefuses k fault) (λ k. refl) (λ k m e. absurd (cc)) tt h
