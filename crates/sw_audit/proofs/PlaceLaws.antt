use Rattle.std.proofs.Common.{◌≡◌, ℕ, zero, suc, ◌+◌, ◌<◌, ◌≤◌, Bool, true, false, eqb, List, [], ◌∷◌, ◌++◌, length, get_or, drop, map, Some, None, refl, ap, sym, ◌∙◌, subst, inl, inr, ⊎_elim, arith, add-one, length-drop, eq-eqb, MatchBool}
use Rattle.std.specs.Prelude.{slice_get, Contains}
use Rattle.std.specs.Bool.{OnTrue}
use Rattle.std.specs.List.{AllByRecursion}
use Rattle.sw_column.specs.declared.column.Column.{Column}
use Rattle.std.specs.List.Sorted.{IsNonDecreasingBy, IsPermutation}
use Rattle.std.specs.FinMap as map_of
use Rattle.std.proofs.lemmas.Bool.{ne_eqb, cases_lt}
use Rattle.std.proofs.lemmas.List.{at_drop_more, drop_all, get_or-drop, get_or_default}
use Rattle.std.proofs.lemmas.List.Elements.{recursion_from_All}
use Rattle.std.proofs.lemmas.List.Sorted.{Contains-permutation}
use Rattle.std.proofs.lemmas.Option.{slice_get-get_or, slice_get_past, slice_get_cases}
use Rattle.sw_table_laws.specs.Table.{Shape, State, Entry, TStep, left_by, after}
use Rattle.sw_tmodel.specs.Plain.{PlainTable, shape_of}
use Rattle.sw_table_laws.specs.Sizes.{pool_of}
use Rattle.sw_audit.specs.Verdicts.{entry_of, lines_at, calls_below, IsMissing, IsDoubled, IsWrong, Tells}
use Rattle.sw_audit.specs.Judging.{HasPlace, IsReached, IsSameTable}
use Rattle.sw_audit.specs.declared.trace.TraceLine.{TraceLine}

abbrev place_of : TraceLine → ℕ
place_of e = e.at

-- ---- the lines at a place

hit : (x : TraceLine) (xs : List TraceLine) (q : ℕ) → x.at ≡ q → lines_at (x ∷ xs) q ≡ x ∷ lines_at xs q
hit x xs q is = let t : eqb x.at q ≡ true = eq-eqb x.at q is in rw t refl

miss : (x : TraceLine) (xs : List TraceLine) (q : ℕ) → ¬ (x.at ≡ q) → lines_at (x ∷ xs) q ≡ lines_at xs q
miss x xs q other = let t : eqb x.at q ≡ false = ne_eqb x.at q other in rw t refl

none_at : (xs : List TraceLine) (q : ℕ) → AllByRecursion (λ (x : TraceLine). ¬ (x.at ≡ q)) xs → lines_at xs q ≡ []
none_at [] q all = refl
none_at (x ∷ xs) q all = miss x xs q all.0 ∙ none_at xs q all.1

-- no line from an index on has the place
none_from : (xs : List TraceLine) (k q : ℕ) → ((i : ℕ) (d : TraceLine) → k ≤ i → i < length xs → ¬ ((get_or xs i d).at ≡ q)) → lines_at (drop k xs) q ≡ []
none_from xs k q all =
    none_at (drop k xs) q (recursion_from_All (λ (x : TraceLine). ¬ (x.at ≡ q)) (drop k xs)
    (λ i d lt. subst (λ (x : TraceLine). ¬ (x.at ≡ q)) (sym (get_or-drop k xs i d)) (all (k + i) d (omega arith) (omega (arith, lt, length-drop k xs)))))

split_at : (xs : List TraceLine) (i : ℕ) (x : TraceLine) → i < length xs → x ≡ get_or xs i x → drop i xs ≡ x ∷ drop (i + 1) xs
split_at xs i x lt is =
    let step : drop i xs ≡ get_or xs i x ∷ drop (i + 1) xs = at_drop_more (λ (l : List TraceLine). l) xs i x lt in
    rw (← is) at step

-- an index with a line is within the list, and the line is the one there
line_at : (xs : List TraceLine) (i : ℕ) (e : TraceLine) → slice_get xs i ≡ Some e → (i < length xs) × ((d : TraceLine) → get_or xs i d ≡ e)
line_at xs i e is =
    ⊎_elim (λ lt. (lt, λ d. let there : Some (get_or xs i d) ≡ Some e = sym (slice_get-get_or xs i d lt) ∙ is in cc))
    (λ le. let none : None ≡ Some e = sym (slice_get_past xs i le) ∙ is in absurd cc)
    (cases_lt i (length xs))

-- ---- the rows after the calls

left_more : (t : Shape) (es : List Entry) (e : Entry) (s : State) → left_by t s (es ++ e ∷ []) ≡ (TStep t (left_by t s es) e.call).state
unfolding left_by
left_more t [] e s = refl
left_more t (x ∷ es) e s = left_more t es e (TStep t s x.call).state

pub after_one : (t : Shape) (ls : List TraceLine) (n : ℕ) (e : TraceLine) → lines_at ls n ≡ e ∷ [] → after t (calls_below ls (n + 1)) ≡ (TStep t (after t (calls_below ls n)) e.call).state
unfolding calls_below
after_one t ls n e one =
    let below : calls_below ls (n + 1) ≡ calls_below ls n ++ entry_of e ∷ [] = ap (λ (k : ℕ). calls_below ls k) (add-one n) ∙ ap (λ (xs : List TraceLine). calls_below ls n ++ map entry_of xs) one in
    ap (λ (es : List Entry). after t es) below ∙ left_more t (calls_below ls n) (entry_of e) map_of.empty

-- ---- what a place is, once all lower ones are right

abbrev Rises : List TraceLine → Type 0
Rises ls = IsNonDecreasingBy (λ (x : TraceLine). x.at) ls

missing_here : (ls : List TraceLine) (k : ℕ) (p : PlainTable) → k < length ls → Rises ls → IsReached ls k p → (e : TraceLine) → e ≡ get_or ls k e → ¬ (e.at ≡ k) → IsMissing ls k
missing_here ls k p lt rises so_far e is other =
    let least = so_far.back k e (omega arith) lt in
    let here : k ≤ e.at = rw (← is) at least in (
      so_far.rest k (omega arith) ∙ none_from ls k k (λ i d le within same. let up : (get_or ls k d).at ≤ (get_or ls i d).at = rises k i d le within in let first : (get_or ls k d).at ≡ e.at = ap place_of (get_or_default ls k d e lt ∙ sym is) in other (omega (arith, here, up, first, same))),
      (e, (k, lt, sym is), omega (arith, here, other)),
    )

doubled_here : (ls : List TraceLine) (k : ℕ) (p : PlainTable) → k < length ls → IsReached ls k p → (e : TraceLine) → e ≡ get_or ls k e → e.at ≡ k → HasPlace ls (k + 1) k → IsDoubled ls k
doubled_here ls k p lt so_far e is mine (f, next, its) =
    let there = line_at ls (k + 1) f next in
    let two : drop (k + 1) ls ≡ f ∷ drop (k + 1 + 1) ls = split_at ls (k + 1) f there.0 (sym (there.1 f)) in
    let one : drop k ls ≡ e ∷ f ∷ drop (k + 1 + 1) ls = split_at ls k e lt is ∙ ap (λ (xs : List TraceLine). e ∷ xs) two in
    let all : lines_at ls k ≡ e ∷ f ∷ lines_at (drop (k + 1 + 1) ls) k =
    so_far.rest k (omega arith) ∙ ap (λ (xs : List TraceLine). lines_at xs k) one ∙ hit e (f ∷ drop (k + 1 + 1) ls) k mine ∙ ap (λ (xs : List TraceLine). e ∷ xs) (hit f (drop (k + 1 + 1) ls) k its) in
    subst (λ (xs : List TraceLine). 1 < length xs) (sym all) (omega arith)

-- behind a place that only one line has, all places are greater
behind : (ls : List TraceLine) (k : ℕ) (p : PlainTable) → k < length ls → Rises ls → IsReached ls k p → ¬ HasPlace ls (k + 1) k → (i : ℕ) (d : TraceLine) → k + 1 ≤ i → i < length ls → k + 1 ≤ (get_or ls i d).at
behind ls k p lt rises so_far single i d le within =
    let within2 : k + 1 < length ls = omega (arith, le, within) in
    let up : (get_or ls (k + 1) d).at ≤ (get_or ls i d).at = rises (k + 1) i d le within in
    let from : k ≤ (get_or ls (k + 1) d).at = so_far.back (k + 1) d (omega arith) within2 in
    let other : ¬ ((get_or ls (k + 1) d).at ≡ k) = λ same. single (get_or ls (k + 1) d, slice_get-get_or ls (k + 1) d within2, same) in
    omega (arith, up, from, other)

-- the one line at such a place
only_here : (ls : List TraceLine) (k : ℕ) (p : PlainTable) → k < length ls → Rises ls → IsReached ls k p → (e : TraceLine) → e ≡ get_or ls k e → e.at ≡ k → ¬ HasPlace ls (k + 1) k → lines_at ls k ≡ e ∷ []
only_here ls k p lt rises so_far e is mine single =
    let none : lines_at (drop (k + 1) ls) k ≡ [] = none_from ls (k + 1) k (λ i d le within same. let up : k + 1 ≤ (get_or ls i d).at = behind ls k p lt rises so_far single i d le within in omega (arith, up, same)) in
    so_far.rest k (omega arith) ∙ ap (λ (xs : List TraceLine). lines_at xs k) (split_at ls k e lt is) ∙ hit e (drop (k + 1) ls) k mine ∙ ap (λ (xs : List TraceLine). e ∷ xs) none

-- ---- a place with one line is wrong exactly where the line tells another answer

one_at : (e x : TraceLine) (k : ℕ) → k < length (e ∷ []) → get_or (e ∷ []) k x ≡ x → e ≡ x
one_at e x zero lt is = is
one_at e x (suc k) lt is = absurd (omega (arith, lt))

one_of : (e x : TraceLine) → Contains (e ∷ []) x → e ≡ x
one_of e x has = one_at e x has.0 has.1 has.2

not_wrong : (t : Shape) (ls : List TraceLine) (k : ℕ) (e : TraceLine) → lines_at ls k ≡ e ∷ [] → Tells e (TStep t (after t (calls_below ls k)) e.call) → ¬ IsWrong t ls k
not_wrong t ls k e one tells (inl missing) = let none : e ∷ [] ≡ [] = sym one ∙ missing.0 in cc
not_wrong t ls k e one tells (inr (inl doubled)) = let two : 1 < length (e ∷ []) = subst (λ (xs : List TraceLine). 1 < length xs) one doubled in omega (arith, two)
not_wrong t ls k e one tells (inr (inr other)) =
    let has : Contains (e ∷ []) other.0 = subst (λ (xs : List TraceLine). Contains xs other.0) one other.1 in
    other.2 (subst (λ (x : TraceLine). Tells x (TStep t (after t (calls_below ls k)) x.call)) (one_of e other.0 has) tells)

is_wrong : (t : Shape) (ls : List TraceLine) (k : ℕ) (e : TraceLine) → lines_at ls k ≡ e ∷ [] → ¬ Tells e (TStep t (after t (calls_below ls k)) e.call) → IsWrong t ls k
is_wrong t ls k e one other = inr (inr (e, subst (λ (xs : List TraceLine). Contains xs e) (sym one) (0, omega arith, refl), other))

-- ---- from one place to the next

abbrev after_call : PlainTable → TraceLine → PlainTable
after_call p e = record p { calls = p.calls + 1; state = (TStep (shape_of p) p.state e.call).state }

pub no_place : (ls : List TraceLine) (k : ℕ) (p : PlainTable) → k < length ls → Rises ls → IsReached ls k p → ¬ HasPlace ls k k → IsWrong (shape_of p) ls k
no_place ls k p lt rises so_far not =
    let here = slice_get_cases ls k in
    ⊎_elim (λ (some : (x : TraceLine) × (k < length ls) × (slice_get ls k ≡ Some x) × (get_or ls k x ≡ x)). inl (missing_here ls k p lt rises so_far some.0 (sym some.3) (λ same. not (some.0, some.2, same))))
    (λ past. absurd (omega (arith, past.0, lt))) here.1

pub two_places : (ls : List TraceLine) (k : ℕ) (p : PlainTable) → k < length ls → IsReached ls k p → HasPlace ls k k → HasPlace ls (k + 1) k → IsWrong (shape_of p) ls k
two_places ls k p lt so_far (e, is, mine) next = inr (inl (doubled_here ls k p lt so_far e (sym ((line_at ls k e is).1 e)) mine next))

same_line : (ls : List TraceLine) (k : ℕ) (e f : TraceLine) → slice_get ls k ≡ Some f → e ≡ get_or ls k e → f ≡ e
same_line ls k e f is mine = sym ((line_at ls k f is).1 e) ∙ sym mine

pub told : (ls : List TraceLine) (k : ℕ) (p : PlainTable) (t : Bool) → k < length ls → Rises ls → IsReached ls k p → HasPlace ls k k → ¬ HasPlace ls (k + 1) k → (e : TraceLine) → e ≡ get_or ls k e
    → MatchBool t (Tells e (TStep (shape_of p) p.state e.call)) (¬ Tells e (TStep (shape_of p) p.state e.call)) → MatchBool t (¬ IsWrong (shape_of p) ls k) (IsWrong (shape_of p) ls k)
told ls k p true lt rises so_far (f, at, its) single e is tells =
    let one = only_here ls k p lt rises so_far e is (ap place_of (sym (same_line ls k e f at is)) ∙ its) single in
    not_wrong (shape_of p) ls k e one (rw so_far.state at tells)
told ls k p false lt rises so_far (f, at, its) single e is tells =
    let one = only_here ls k p lt rises so_far e is (ap place_of (sym (same_line ls k e f at is)) ∙ its) single in
    is_wrong (shape_of p) ls k e one (rw so_far.state at tells)

front_next : (ls : List TraceLine) (k : ℕ) (e : TraceLine) → ((i : ℕ) (d : TraceLine) → i < k → (get_or ls i d).at < k) → e ≡ get_or ls k e → e.at ≡ k → (i : ℕ) (d : TraceLine) → i < k + 1 → k < length ls → (get_or ls i d).at < k + 1
front_next ls k e front is mine i d below lt =
    ⊎_elim (λ lower. let at = front i d lower in omega (arith, at))
    (λ (le : k ≤ i). let same : i ≡ k = omega (arith, le, below) in let place : (get_or ls k d).at ≡ k = ap place_of (get_or_default ls k d e lt ∙ sym is) ∙ mine in rw same (omega (arith, place)))
    (cases_lt i k)

pub reached_next : (ls : List TraceLine) (k : ℕ) (p q : PlainTable) → k < length ls → Rises ls → IsReached ls k p → HasPlace ls k k → ¬ HasPlace ls (k + 1) k → (e : TraceLine) → e ≡ get_or ls k e
    → q ≡ after_call p e → IsReached ls (k + 1) q
reached_next ls k p q lt rises so_far (f, at, its) single e is made =
    let mine : e.at ≡ k = ap place_of (sym (same_line ls k e f at is)) ∙ its in
    let one = only_here ls k p lt rises so_far e is mine single in
    let state : (after_call p e).state ≡ after (shape_of p) (calls_below ls (k + 1)) = ap (λ (s : State). (TStep (shape_of p) s e.call).state) so_far.state ∙ sym (after_one (shape_of p) ls k e one) in
    subst (λ (r : PlainTable). IsReached ls (k + 1) r) (sym made) (record {
      calls = ap (λ (n : ℕ). n + 1) so_far.calls;
      state = state;
      front = λ i d below. front_next ls k e so_far.front is mine i d below lt;
      back = λ i d le within. behind ls k p lt rises so_far single i d le within;
      rest = λ q le. so_far.rest q (omega (arith, le)) ∙ ap (λ (xs : List TraceLine). lines_at xs q) (split_at ls k e lt is) ∙ miss e (drop (k + 1) ls) q (λ same. omega (arith, le, same, mine));
    })

-- ---- at the start and at the end

pub reached_none : (ls : List TraceLine) (p : PlainTable) → p.calls ≡ 0 → p.state ≡ map_of.empty → IsReached ls 0 p
unfolding calls_below left_by
reached_none ls p calls state = record {
  calls = calls;
  state = state;
  front = λ i d below. absurd (omega (arith, below));
  back = λ i d le within. omega arith;
  rest = λ q le. refl;
}

nothing_wrong : (t : Shape) (ls : List TraceLine) (q : ℕ) → lines_at ls q ≡ [] → ((e : TraceLine) → Contains ls e → e.at ≤ q) → ¬ IsWrong t ls q
nothing_wrong t ls q none lower (inl missing) = let le = lower missing.1.0 missing.1.1 in omega (arith, le, missing.1.2)
nothing_wrong t ls q none lower (inr (inl doubled)) = let two : 1 < length {A = TraceLine} [] = subst (λ (xs : List TraceLine). 1 < length xs) none doubled in omega (arith, two)
nothing_wrong t ls q none lower (inr (inr other)) = let has : Contains [] other.0 = subst (λ (xs : List TraceLine). Contains xs other.0) none other.1 in omega (arith, has.1)

pub none_wrong : (t : Shape) (ls : List TraceLine) (n q : ℕ) (p : PlainTable) → length ls ≤ n → n ≤ q → IsReached ls n p → ¬ IsWrong t ls q
none_wrong t ls n q p le from so_far wrong =
    let none : lines_at ls q ≡ [] = so_far.rest q from ∙ ap (λ (xs : List TraceLine). lines_at xs q) (drop_all n ls le) in
    nothing_wrong t ls q none (λ e has. let at : (get_or ls has.0 e).at < n = so_far.front has.0 e (omega (arith, has.1, le)) in let same : get_or ls has.0 e ≡ e = has.2 in let place : (get_or ls has.0 e).at ≡ e.at = ap place_of same in omega (arith, at, place, from)) wrong

-- ---- the same lines in another order

below_same : (xs ys : List TraceLine) (n : ℕ) → ((q : ℕ) → lines_at xs q ≡ lines_at ys q) → calls_below xs n ≡ calls_below ys n
unfolding calls_below
below_same xs ys zero same = refl
below_same xs ys (suc n) same = let front = ap (λ (es : List Entry). es ++ map entry_of (lines_at xs n)) (below_same xs ys n same) in front ∙ ap (λ (l : List TraceLine). calls_below ys n ++ map entry_of l) (same n)

pub wrong_same : (t : Shape) (xs ys : List TraceLine) (q : ℕ) → ((at : ℕ) → lines_at xs at ≡ lines_at ys at) → IsPermutation xs ys → IsWrong t xs q → IsWrong t ys q
wrong_same t xs ys q same moved (inl missing) = inl (sym (same q) ∙ missing.0, (missing.1.0, Contains-permutation xs ys missing.1.0 moved missing.1.1, missing.1.2))
wrong_same t xs ys q same moved (inr (inl doubled)) = inr (inl (subst (λ (l : List TraceLine). 1 < length l) (same q) doubled))
wrong_same t xs ys q same moved (inr (inr other)) =
    inr (inr (
      other.0,
      subst (λ (l : List TraceLine). Contains l other.0) (same q) other.1,
      subst (λ (es : List Entry). ¬ Tells other.0 (TStep t (after t es) other.0.call)) (below_same xs ys q same) other.2,
    ))

-- ---- what a place that was found right adds

pub right_next : (t : Shape) (ls : List TraceLine) (k : ℕ) → ((q : ℕ) → q < k → ¬ IsWrong t ls q) → ¬ IsWrong t ls k → (q : ℕ) → q < k + 1 → ¬ IsWrong t ls q
right_next t ls k below here q lt =
    ⊎_elim (λ (lower : q < k). below q lower) (λ (le : k ≤ q). let same : k ≡ q = omega (arith, le, lt) in subst (λ (x : ℕ). ¬ IsWrong t ls x) same here) (cases_lt q k)

pub all_right : (t : Shape) (ls : List TraceLine) (n : ℕ) (p : PlainTable) → length ls ≤ n → IsReached ls n p → ((q : ℕ) → q < n → ¬ IsWrong t ls q) → (q : ℕ) → ¬ IsWrong t ls q
all_right t ls n p le so_far below q =
    ⊎_elim (λ (lower : q < n). below q lower) (λ (from : n ≤ q). none_wrong t ls n q p le from so_far) (cases_lt q n)

abbrev shape : List Column → ℕ → ℕ → Shape
shape cs size percent = record { columns = cs; size = size; pool = pool_of size percent }

pub same_shape : (p q : PlainTable) → IsSameTable p q → shape_of q ≡ shape_of p
same_shape p q same =
    ap (λ (cs : List Column). shape cs q.size q.percent) same.0
    ∙ ap (λ (n : ℕ). shape p.columns n q.percent) same.1
    ∙ ap (λ (n : ℕ). shape p.columns p.size n) same.2

pub on_true : (t : Bool) (P : Type 0) → P → OnTrue t P
on_true true P p = p
on_true false P p = tt
