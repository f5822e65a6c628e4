use Rattle.std.proofs.Common.{◌≡◌, ℕ, Bool, true, false, cond, List, [], ◌∷◌, Option, Some, None, refl, sym, ap, ◌∙◌, subst, true≢false, inl, inr, ◌⊎◌}
use Rattle.std.specs.declared.cmp.Ordering.{Ordering}
use Rattle.std.specs.declared.cmp.Ordering.TheVariants.{Less, Equal, Greater}
use Rattle.std.specs.Ordering.{ordering_reverse, nat_cmp, is_lt}
use Rattle.std.specs.Cmp.Lexicographic.{slice_cmp, nat_list_cmp_total}
use Rattle.sw_settings.specs.declared.pair.Pair.{Pair}
use Rattle.sw_settings.specs.declared.checks.Check.{Check}
use Rattle.sw_settings.specs.Checks.{fails, is_before, earlier, first_behind, first_key, HasFailing, NoneBefore, IsFirstKey}

-- ---- the byte order

less_of : (r : Ordering) → is_lt r ≡ true → r ≡ Less
less_of Less e = refl
less_of Equal e = absurd (true≢false (sym e))
less_of Greater e = absurd (true≢false (sym e))

-- the first comes before the third where it comes before one that does
before_trans : (a b c : List ℕ) → is_before a b ≡ true → is_before b c ≡ true → is_before a c ≡ true
unfolding is_before
before_trans a b c p q = ap is_lt (nat_list_cmp_total.trans a b c (less_of (slice_cmp nat_cmp a b) p) (less_of (slice_cmp nat_cmp b c) q))

never_self : (r : Ordering) → r ≡ ordering_reverse r → is_lt r ≡ false
never_self Less e = absurd cc
never_self Equal e = refl
never_self Greater e = refl

before_self : (a : List ℕ) → is_before a a ≡ false
unfolding is_before
before_self a = never_self (slice_cmp nat_cmp a a) (nat_list_cmp_total.antisymm a a)

-- what isn't before b isn't before what isn't after b
after_by : (a b c : List ℕ) (r s : Ordering) (t : Bool) → slice_cmp nat_cmp a b ≡ r → slice_cmp nat_cmp b a ≡ s → r ≡ ordering_reverse s → is_before a c ≡ t → is_before a b ≡ false → is_before b c ≡ false → t ≡ false
unfolding is_before
after_by a b c r s false ab ba turn ac low high = refl
after_by a b c Less s true ab ba turn ac low high = absurd (true≢false (sym (ap is_lt ab) ∙ low))
after_by a b c Equal s true ab ba turn ac low high = absurd (true≢false (sym ac ∙ ap is_lt (nat_list_cmp_total.congr a b c ab) ∙ high))
after_by a b c Greater Less true ab ba turn ac low high = absurd (true≢false (sym (ap is_lt (nat_list_cmp_total.trans b a c ba (less_of (slice_cmp nat_cmp a c) ac))) ∙ high))
after_by a b c Greater Equal true ab ba turn ac low high = absurd cc
after_by a b c Greater Greater true ab ba turn ac low high = absurd cc

after_trans : (a b c : List ℕ) → is_before a b ≡ false → is_before b c ≡ false → is_before a c ≡ false
after_trans a b c low high = after_by a b c (slice_cmp nat_cmp a b) (slice_cmp nat_cmp b a) (is_before a c) refl refl (nat_list_cmp_total.antisymm a b) refl low high

-- b comes before a, and nothing named c comes before b
behind_by : (a b c : List ℕ) (t : Bool) → is_before a c ≡ t → is_before b a ≡ true → is_before b c ≡ false → t ≡ false
behind_by a b c false ac ba bc = refl
behind_by a b c true ac ba bc = absurd (true≢false (sym (before_trans b a c ba ac) ∙ bc))

-- ---- the first key

-- what the pairs lead to behind a key that was found
record Found (check : Check) (first : List ℕ) (ps : List Pair) (answer : Option (List ℕ)) : Type 0 where
  pub key : List ℕ
  pub is : answer ≡ Some key
  pub has : (key ≡ first) ⊎ HasFailing check key ps
  pub before_first : is_before first key ≡ false
  pub before_all : NoneBefore check key ps

from_earlier : (check : Check) (first : List ℕ) (p : Pair) (ps : List Pair) (answer : Option (List ℕ)) (t : Bool) → fails check p ≡ true → is_before p.name first ≡ t → Found check (cond t p.name first) ps answer → Found check first (p ∷ ps) answer
from_earlier check first p ps answer true bad low f = record {
  key = f.key;
  is = f.is;
  has = inr (elim f.has [ inl same ↦ inl (bad, sym same) | inr more ↦ inr more ]);
  before_first = behind_by first p.name f.key (is_before first f.key) refl low f.before_first;
  before_all = (λ _. f.before_first, f.before_all);
}
from_earlier check first p ps answer false bad low f = record {
  key = f.key;
  is = f.is;
  has = elim f.has [ inl same ↦ inl same | inr more ↦ inr (inr more) ];
  before_first = f.before_first;
  before_all = (λ _. after_trans p.name first f.key low f.before_first, f.before_all);
}

from_passing : (check : Check) (first : List ℕ) (p : Pair) (ps : List Pair) (answer : Option (List ℕ)) → fails check p ≡ false → Found check first ps answer → Found check first (p ∷ ps) answer
from_passing check first p ps answer good f = record {
  key = f.key;
  is = f.is;
  has = elim f.has [ inl same ↦ inl same | inr more ↦ inr (inr more) ];
  before_first = f.before_first;
  before_all = (λ bad. absurd (true≢false (sym bad ∙ good)), f.before_all);
}

found_step : (check : Check) (first : List ℕ) (p : Pair) (ps : List Pair) (t : Bool) → fails check p ≡ t → ((g : List ℕ) → Found check g ps (first_behind check (Some g) ps)) → Found check first (p ∷ ps) (first_behind check (cond t (Some (earlier first p.name)) (Some first)) ps)
found_step check first p ps true bad rest = from_earlier check first p ps (first_behind check (Some (earlier first p.name)) ps) (is_before p.name first) bad refl (rest (earlier first p.name))
found_step check first p ps false good rest = from_passing check first p ps (first_behind check (Some first) ps) good (rest first)

found : (check : Check) (ps : List Pair) (first : List ℕ) → Found check first ps (first_behind check (Some first) ps)
unfolding first_behind
found check [] first = record { key = first; is = refl; has = inl refl; before_first = before_self first; before_all = tt }
found check (p ∷ ps) first = found_step check first p ps (fails check p) refl (found check ps)

started : (check : Check) (p : Pair) (ps : List Pair) (answer : Option (List ℕ)) → fails check p ≡ true → Found check p.name ps answer → IsFirstKey check (p ∷ ps) answer
started check p ps answer bad f = subst (λ (o : Option (List ℕ)). IsFirstKey check (p ∷ ps) o) (sym f.is) (elim f.has [ inl same ↦ inl (bad, sym same) | inr more ↦ inr more ], (λ _. f.before_first, f.before_all))

passed : (check : Check) (p : Pair) (ps : List Pair) (answer : Option (List ℕ)) → fails check p ≡ false → IsFirstKey check ps answer → IsFirstKey check (p ∷ ps) answer
passed check p ps None good rest = (good, rest)
passed check p ps (Some key) good rest = (inr rest.0, (λ bad. absurd (true≢false (sym bad ∙ good)), rest.1))

first_step : (check : Check) (p : Pair) (ps : List Pair) (t : Bool) → fails check p ≡ t → IsFirstKey check ps (first_behind check None ps) → IsFirstKey check (p ∷ ps) (first_behind check (cond t (Some p.name) None) ps)
first_step check p ps true bad rest = started check p ps (first_behind check (Some p.name) ps) bad (found check ps p.name)
first_step check p ps false good rest = passed check p ps (first_behind check None ps) good rest

pub is_first : (check : Check) (ps : List Pair) → IsFirstKey check ps (first_key check ps)
unfolding first_behind
is_first check [] = tt
is_first check (p ∷ ps) = first_step check p ps (fails check p) refl (is_first check ps)
