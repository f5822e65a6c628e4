-- Behind a turn its calls still are what the tables say that its ports showed.
use Rattle.std.proofs.Common.{◌≡◌, ◌⊎◌, ℕ, ◌+◌, ◌≤◌, List, [], ◌∷◌, ◌++◌, length, ap, ◌∙◌, sym, subst, append-nil, append_assoc, arith, inl, inr}
use Rattle.sw_lists.specs.Lists.{collect, Has}
use Rattle.sw_lists.proofs.Lists.{collect-append, length_append}
use Rattle.sw_record.specs.Words.{Act, Stats, Answer, Count, Counter, Log}
use Rattle.sw_record.specs.Answers.{answers_of}
use Rattle.sw_record.specs.Counts.{tally, counted, count_in}
use Rattle.sw_world_ports.specs.Calls.{Did, Sums}
use Rattle.sw_world_ports.specs.Made.{live_in, other_in, pass_in, found_in, had_in, seat_in, spent_in, stop_in, add_in, sum_in}
use Rattle.sw_world_ports.proofs.Haves.{has_left, has_right, has_split, Place, AtLast, Before, place_of}
use Rattle.sw_hand_laws.specs.Hand.{Seen}
use Rattle.sw_hand_laws.specs.Shows.{onto}
use Rattle.sw_hand_laws.proofs.Showing.{onto_is}
use Rattle.sw_hand_laws.proofs.Ends.{one_more}
use Rattle.sw_world_hands.specs.Hands.{SumsBehind, CallsShow}
use Rattle.sw_world_hands.proofs.Adding.{IsSum, Told, Same, Said, Adding}

-- one list of what was shown
more_shown : {A : Type 0} (f : Did → List A) (seen after : List A) (dids ds : List Did) → collect f dids ≡ seen → after ≡ onto seen (collect f ds) → collect f (dids ++ ds) ≡ after
more_shown f seen after dids ds q a = collect-append f dids ds ∙ ap (λ xs. xs ++ collect f ds) q ∙ sym (onto_is seen (collect f ds)) ∙ sym a

more_found : (seen after : List (ℕ × ℕ)) (dids ds : List Did) → ((p : ℕ × ℕ) → Has p seen → Has p (collect found_in dids)) → (after ≡ seen) ⊎ (after ≡ seen ++ collect found_in ds) → (p : ℕ × ℕ) → Has p after → Has p (collect found_in (dids ++ ds))
more_found seen after dids ds h (inl q) p has = subst (Has p) (sym (collect-append found_in dids ds)) (has_left p (collect found_in dids) (collect found_in ds) (h p (subst (Has p) q has)))
more_found seen after dids ds h (inr q) p has = subst (Has p) (sym (collect-append found_in dids ds)) (elim (has_split p seen (collect found_in ds) (subst (Has p) q has)) [
  | inl old ↦ has_left p (collect found_in dids) (collect found_in ds) (h p old)
  | inr now ↦ has_right p (collect found_in dids) (collect found_in ds) now
])

more_added : (log more : Log) (dids ds : List Did) → ((c : Counter) → length (collect (add_in c) dids) ≡ length (tally c log)) → Told log ds more → (c : Counter) → length (collect (add_in c) (dids ++ ds)) ≡ length (tally c more)
more_added log more dids ds h (Same q none) c =
    ap length (collect-append (add_in c) dids ds) ∙ ap (λ xs. length (collect (add_in c) dids ++ xs)) (none c) ∙ ap length (append-nil (collect (add_in c) dids)) ∙ h c ∙ ap (λ xs. length (collect (counted c) xs)) (sym q)
more_added log more dids ds h (Said x q same is) c =
    let a : length (collect (add_in c) (dids ++ ds)) ≡ length (collect (add_in c) dids) + length (collect (add_in c) ds) = ap length (collect-append (add_in c) dids ds) ∙ length_append (collect (add_in c) dids) (collect (add_in c) ds) in
    let b : length (tally c more) ≡ length (tally c log) + length (counted c x) = ap (λ xs. length (collect (counted c) xs)) q ∙ ap length (one_more (counted c) (answers_of log) x) ∙ length_append (tally c log) (counted c x) in
    omega (arith, a, b, h c, same c)

-- a count that was there, and the one that is told now
old_sum : (log : Log) (dids ds : List Did) → SumsBehind log dids → (before behind : List (Act × Answer)) (c : Counter) (n : ℕ) → answers_of log ≡ before ++ (Stats c, Count n) ∷ behind → (first : List Did) × ((later : List Did) × ((dids ++ ds ≡ first ++ Sums c n ∷ later) × (length (collect (counted c) before) ≤ length (collect (add_in c) first))))
old_sum log dids ds h before behind c n q = let k = h before behind c n q in (k.0, (k.1.0 ++ ds, (ap (λ (xs : List Did). xs ++ ds) k.1.1.0 ∙ append_assoc k.0 (Sums c n ∷ k.1.0) ds, k.1.1.1)))

not_sum : (c : Counter) (n : ℕ) (x : Act × Answer) → x ≡ (Stats c, Count n) → count_in x ≡ [] → ⊥
not_sum c n x e q = absurd (let i : ◌≡◌ {A = List (Counter × ℕ)} ((c, n) ∷ []) [] = ap count_in (sym e) ∙ q in cc)

more_sums : (log more : Log) (dids ds : List Did) → ((c : Counter) → length (collect (add_in c) dids) ≡ length (tally c log)) → SumsBehind log dids → Told log ds more → SumsBehind more (dids ++ ds)
more_sums log more dids ds adds h (Same q none) before behind c n e = old_sum log dids ds h before behind c n (sym q ∙ e)
more_sums log more dids ds adds h (Said x q same is) before behind c n e = at (place_of (answers_of log) x before (Stats c, Count n) behind (sym q ∙ e)) is
  where
    now : (z : Act × Answer) → answers_of log ≡ before → z ≡ (Stats c, Count n) → IsSum z ds → (first : List Did) × ((later : List Did) × ((dids ++ ds ≡ first ++ Sums c n ∷ later) × (length (collect (counted c) before) ≤ length (collect (add_in c) first))))
    now z a b (k, (m, (i, j))) =
        let w : ◌≡◌ {A = Act × Answer} (Stats k, Count m) (Stats c, Count n) = sym i ∙ b in
        let w0 : ◌≡◌ {A = Act} (Stats k) (Stats c) = ap (λ (p : Act × Answer). p.0) w in
        let w1 : ◌≡◌ {A = Answer} (Count m) (Count n) = ap (λ (p : Act × Answer). p.1) w in
        let u : k ≡ c = cc in
        let v : m ≡ n = cc in
        (dids, ([], (ap (λ (xs : List Did). dids ++ xs) (j ∙ ap (λ (z : Counter). Sums z m ∷ []) u ∙ ap (λ z. Sums c z ∷ []) v), let l : length (collect (add_in c) dids) ≡ length (collect (counted c) before) = adds c ∙ ap (λ xs. length (collect (counted c) xs)) a in omega (arith, l))))

    at : Place (answers_of log) x before (Stats c, Count n) behind → ((count_in x ≡ []) ⊎ IsSum x ds) → (first : List Did) × ((later : List Did) × ((dids ++ ds ≡ first ++ Sums c n ∷ later) × (length (collect (counted c) before) ≤ length (collect (add_in c) first))))
    at (Before rest a) k = old_sum log dids ds h before rest c n a
    at (AtLast a b) (inl none) = absurd (not_sum c n x b none)
    at (AtLast a b) (inr k) = now x a b k

-- all of it
pub more_calls : (now : Type 0) (seen after : Seen) (log more : Log) (dids ds : List Did) → CallsShow seen log dids → Adding now seen log ds after more → CallsShow after more (dids ++ ds)
more_calls now seen after log more dids ds h k = record {
  lives = more_shown live_in seen.lives after.lives dids ds h.lives k.lives;
  others = more_shown other_in seen.others after.others dids ds h.others k.others;
  passes = more_shown pass_in seen.passes after.passes dids ds h.passes k.passes;
  bounds = more_shown had_in seen.bounds after.bounds dids ds h.bounds k.bounds;
  infos = more_found seen.infos after.infos dids ds h.infos k.infos;
  seat = more_shown seat_in seen.seat after.seat dids ds h.seat k.seat;
  spents = more_shown spent_in seen.spents after.spents dids ds h.spents k.spents;
  sums = more_shown sum_in seen.sums after.sums dids ds h.sums k.sums;
  stops = more_shown stop_in seen.stops after.stops dids ds h.stops k.stops;
  adds = more_added log more dids ds h.adds k.told;
  least = more_sums log more dids ds h.adds h.least k.told;
}
