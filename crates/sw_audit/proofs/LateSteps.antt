use Rattle.std.proofs.Common.{◌≡◌, ℕ, ◌+◌, ◌<◌, ◌≤◌, Bool, true, false, eqb, List, length, Option, Some, None, refl, sym, ◌∙◌, ap, subst, inl, inr, ⊎_elim, arith}
use Rattle.std.specs.Prelude.{slice_get, nat_eq, ◌⊎◌}
use Rattle.std.proofs.lemmas.Bool.{ltb-true, ltb-false, eqb-true, eqb-false, cases_lt}
use Rattle.std.proofs.lemmas.Option.{slice_get_past}
use Rattle.sw_audit.specs.Judging.{IsLeast, IsGreatest, IsLateBefore, is_below, lesser, with_late, kept_or_new}
use Rattle.sw_audit.specs.Verdicts.{IsLate}
use Rattle.sw_audit.specs.declared.trace.TraceLine.{TraceLine}
use Rattle.sw_audit.proofs.LeastLaws.{least_same, least_of_two}

-- the line at an index is one of the earlier ones, or this one
earlier : (ls : List TraceLine) (n i : ℕ) (e f : TraceLine) → slice_get ls n ≡ Some e → i < n + 1 → slice_get ls i ≡ Some f → (i < n) ⊎ ((i ≡ n) × (f ≡ e))
earlier ls n i e f here lt is = ⊎_elim (λ below. inl below) (λ above. let same : i ≡ n = omega (arith, lt, above) in let there : slice_get ls n ≡ Some f = rw same at is in inr (same, cc)) (cases_lt i n)

-- an index with a line is within the list
inside : (ls : List TraceLine) (i : ℕ) (e : TraceLine) → slice_get ls i ≡ Some e → i < length ls
inside ls i e is = ⊎_elim (λ lt. lt) (λ le. let none : None ≡ Some e = sym (slice_get_past ls i le) ∙ is in absurd cc) (cases_lt i (length ls))

-- ---- the greatest place of each caller

below_all : (ls : List TraceLine) (n : ℕ) (e : TraceLine) (caller : ℕ) (o : Option ℕ) → slice_get ls n ≡ Some e → ¬ (e.caller ≡ caller) → IsGreatest ls n caller o → IsGreatest ls (n + 1) caller o
below_all ls n e caller None here other was = λ i f lt is same. ⊎_elim (λ lower. was i f lower is same) (λ at. let one : f ≡ e = at.1 in other (ap (λ (x : TraceLine). x.caller) (sym one) ∙ same)) (earlier ls n i e f here lt is)
below_all ls n e caller (Some seen) here other was = (
  λ i f lt is same. ⊎_elim (λ lower. was.0 i f lower is same) (λ at. absurd (other (ap (λ (x : TraceLine). x.caller) (sym at.1) ∙ same))) (earlier ls n i e f here lt is),
  (was.1.0, was.1.1, omega (arith, was.1.2), was.1.3, was.1.4, was.1.5),
)

-- this line's place is not above the greatest one
kept_greatest : (ls : List TraceLine) (n : ℕ) (e : TraceLine) (seen : ℕ) → slice_get ls n ≡ Some e → e.at < seen → IsGreatest ls n e.caller (Some seen) → IsGreatest ls (n + 1) e.caller (Some seen)
kept_greatest ls n e seen here lt was = (
  λ i f below is same. ⊎_elim (λ lower. was.0 i f lower is same) (λ at. let place : f.at ≡ e.at = ap (λ (x : TraceLine). x.at) at.1 in omega (arith, lt, place)) (earlier ls n i e f here below is),
  (was.1.0, was.1.1, omega (arith, was.1.2), was.1.3, was.1.4, was.1.5),
)

at_most : (ls : List TraceLine) (n : ℕ) (e : TraceLine) (o : Option ℕ) → is_below e.at o ≡ false → IsGreatest ls n e.caller o → (i : ℕ) (f : TraceLine) → i < n → slice_get ls i ≡ Some f → f.caller ≡ e.caller → f.at ≤ e.at
at_most ls n e None not was i f lt is same = absurd (was i f lt is same)
at_most ls n e (Some seen) not was i f lt is same = let above = ltb-false e.at seen not in let under = was.0 i f lt is same in omega (arith, above, under)

-- this line's place is the greatest one
new_greatest : (ls : List TraceLine) (n : ℕ) (e : TraceLine) (o : Option ℕ) → slice_get ls n ≡ Some e → is_below e.at o ≡ false → IsGreatest ls n e.caller o → IsGreatest ls (n + 1) e.caller (Some e.at)
new_greatest ls n e o here not was = (
  λ i f below is same. ⊎_elim (λ lower. at_most ls n e o not was i f lower is same) (λ at. let place : f.at ≡ e.at = ap (λ (x : TraceLine). x.at) at.1 in omega (arith, place)) (earlier ls n i e f here below is),
  (n, e, omega arith, here, refl, refl),
)

-- ---- one line more, by whether it is late

same_caller : (ls : List TraceLine) (n : ℕ) (e : TraceLine) (late : Bool) (o : Option ℕ) → slice_get ls n ≡ Some e → is_below e.at o ≡ late → IsGreatest ls n e.caller o → IsGreatest ls (n + 1) e.caller (kept_or_new late true o e.at)
same_caller ls n e true None here is was = absurd cc
same_caller ls n e true (Some seen) here is was = kept_greatest ls n e seen here (ltb-true e.at seen is) was
same_caller ls n e false o here is was = new_greatest ls n e o here is was

other_caller : (ls : List TraceLine) (n : ℕ) (e : TraceLine) (late : Bool) (c : ℕ) (o : Option ℕ) → slice_get ls n ≡ Some e → ¬ (e.caller ≡ c) → IsGreatest ls n c o → IsGreatest ls (n + 1) c (kept_or_new late false o e.at)
other_caller ls n e true c o here other was = below_all ls n e c o here other was
other_caller ls n e false c o here other was = below_all ls n e c o here other was

by_caller : (ls : List TraceLine) (n : ℕ) (e : TraceLine) (late same : Bool) (c : ℕ) (own o : Option ℕ) → slice_get ls n ≡ Some e → is_below e.at own ≡ late → eqb e.caller c ≡ same
    → (e.caller ≡ c → own ≡ o) → IsGreatest ls n c o → IsGreatest ls (n + 1) c (kept_or_new late same o e.at)
by_caller ls n e late true c own o here is eq agree was =
    let callers = eqb-true e.caller c eq in
    let below : is_below e.at o ≡ late = subst (λ (x : Option ℕ). is_below e.at x ≡ late) (agree callers) is in
    let mine : IsGreatest ls n e.caller o = subst (λ (x : ℕ). IsGreatest ls n x o) (sym callers) was in
    let more = same_caller ls n e late o here below mine in
    subst (λ (x : ℕ). IsGreatest ls (n + 1) x (kept_or_new late true o e.at)) callers more
by_caller ls n e late false c own o here is eq agree was = other_caller ls n e late c o here (eqb-false e.caller c eq) was

-- the greatest places after one line more
pub greatest_next : (ls : List TraceLine) (n : ℕ) (e : TraceLine) (old new : ℕ → Option ℕ) → slice_get ls n ≡ Some e
    → ((c : ℕ) → new c ≡ kept_or_new (is_below e.at (old e.caller)) (nat_eq e.caller c) (old c) e.at) → ((c : ℕ) → IsGreatest ls n c (old c)) → (c : ℕ) → IsGreatest ls (n + 1) c (new c)
greatest_next ls n e old new here kept was c =
    let more = by_caller ls n e (is_below e.at (old e.caller)) (eqb e.caller c) c (old e.caller) (old c) here refl refl (λ same. ap old same) (was c) in
    subst (λ (o : Option ℕ). IsGreatest ls (n + 1) c o) (sym (kept c)) more

-- ---- the least late place

still_late : (ls : List TraceLine) (n at : ℕ) → IsLateBefore ls n at → IsLateBefore ls (n + 1) at
still_late ls n at late = (late.0, late.1, late.2, late.3, late.4, omega (arith, late.5), late.6, late.7, late.8, late.9, late.10)

-- a late place is late already, or it is that of this line
late_cases : (ls : List TraceLine) (n at : ℕ) (e : TraceLine) → slice_get ls n ≡ Some e → IsLateBefore ls (n + 1) at
    → IsLateBefore ls n at ⊎ ((i : ℕ) × (f : TraceLine) × (i < n) × (slice_get ls i ≡ Some f) × (f.caller ≡ e.caller) × (e.at ≡ at) × (at < f.at))
late_cases ls n at e here (i, j, f, g, before, within, first, second, same, place, greater) =
    ⊎_elim (λ lower. inl (i, j, f, g, before, lower, first, second, same, place, greater))
    (λ last. let mine : g ≡ e = last.1 in inr (i, f, omega (arith, before, last.0), first, same ∙ ap (λ (x : TraceLine). x.caller) mine, sym (ap (λ (x : TraceLine). x.at) mine) ∙ place, greater))
    (earlier ls n j e g here within second)

no_new : (ls : List TraceLine) (n at : ℕ) (e : TraceLine) (o : Option ℕ) → slice_get ls n ≡ Some e → is_below e.at o ≡ false → IsGreatest ls n e.caller o → IsLateBefore ls (n + 1) at → IsLateBefore ls n at
no_new ls n at e o here not was late =
    ⊎_elim (λ before. before) (λ last. absurd (let most = at_most ls n e o not was last.0 last.1 last.2 last.3 last.4 in omega (arith, most, last.5, last.6))) (late_cases ls n at e here late)

on_time : (ls : List TraceLine) (n : ℕ) (e : TraceLine) (old : ℕ → Option ℕ) (r : Option ℕ) → slice_get ls n ≡ Some e → is_below e.at (old e.caller) ≡ false → IsGreatest ls n e.caller (old e.caller)
    → IsLeast (IsLateBefore ls n) r → IsLeast (IsLateBefore ls (n + 1)) r
on_time ls n e old r here not was least =
    least_same (IsLateBefore ls n) (IsLateBefore ls (n + 1)) r (λ at. still_late ls n at) (λ at. no_new ls n at e (old e.caller) here not was) least

is_new : (ls : List TraceLine) (n : ℕ) (e : TraceLine) (o : Option ℕ) → slice_get ls n ≡ Some e → is_below e.at o ≡ true → IsGreatest ls n e.caller o → IsLateBefore ls (n + 1) e.at
is_new ls n e None here is was = absurd cc
is_new ls n e (Some seen) here is was =
    let f = was.1.1 in
    let below = ltb-true e.at seen is in
    (was.1.0, n, f, e, was.1.2, omega arith, was.1.3, here, was.1.4, refl, omega (arith, below, was.1.5))

abbrev Mine : TraceLine → ℕ → Type 0
Mine e at = e.at ≡ at

only_mine : (e : TraceLine) → IsLeast (Mine e) (Some e.at)
only_mine e = (refl, λ lower lt same. omega (arith, lt, same))

one_late : (ls : List TraceLine) (n : ℕ) (e : TraceLine) (old : ℕ → Option ℕ) (r : Option ℕ) → slice_get ls n ≡ Some e → is_below e.at (old e.caller) ≡ true → IsGreatest ls n e.caller (old e.caller)
    → IsLeast (IsLateBefore ls n) r → IsLeast (IsLateBefore ls (n + 1)) (lesser r (Some e.at))
one_late ls n e old r here is was least =
    let new = is_new ls n e (old e.caller) here is was in
    least_same (λ at. Mine e at ⊎ IsLateBefore ls n at) (IsLateBefore ls (n + 1)) (lesser r (Some e.at))
    (λ at. ⊎_elim (λ mine. subst (λ (q : ℕ). IsLateBefore ls (n + 1) q) mine new) (still_late ls n at))
    (λ at late. ⊎_elim (λ before. inr before) (λ last. inl last.5) (late_cases ls n at e here late))
    (least_of_two (Mine e) (IsLateBefore ls n) r (Some e.at) least (only_mine e))

by_late : (ls : List TraceLine) (n : ℕ) (e : TraceLine) (old : ℕ → Option ℕ) (t : Bool) (r : Option ℕ) → slice_get ls n ≡ Some e → is_below e.at (old e.caller) ≡ t → IsGreatest ls n e.caller (old e.caller)
    → IsLeast (IsLateBefore ls n) r → IsLeast (IsLateBefore ls (n + 1)) (with_late t e.at r)
by_late ls n e old true r here is was least = one_late ls n e old r here is was least
by_late ls n e old false r here is was least = on_time ls n e old r here is was least

-- the least late place after one line more
pub late_next : (ls : List TraceLine) (n : ℕ) (e : TraceLine) (old : ℕ → Option ℕ) (r new : Option ℕ) → slice_get ls n ≡ Some e → new ≡ with_late (is_below e.at (old e.caller)) e.at r
    → IsGreatest ls n e.caller (old e.caller) → IsLeast (IsLateBefore ls n) r → IsLeast (IsLateBefore ls (n + 1)) new
late_next ls n e old r new here is was least =
    subst (λ (o : Option ℕ). IsLeast (IsLateBefore ls (n + 1)) o) (sym is) (by_late ls n e old (is_below e.at (old e.caller)) r here refl was least)

-- ---- at the start and at the end

pub none_late : (ls : List TraceLine) → IsLeast (IsLateBefore ls 0) None
none_late ls = λ at late. omega (arith, late.5)

pub none_seen : (ls : List TraceLine) (c : ℕ) → IsGreatest ls 0 c None
none_seen ls c = λ i e lt is same. omega (arith, lt)

pub all_late : (ls : List TraceLine) (n : ℕ) (r : Option ℕ) → length ls ≤ n → IsLeast (IsLateBefore ls n) r → IsLeast (IsLate ls) r
all_late ls n r le least =
    least_same (IsLateBefore ls n) (IsLate ls) r
    (λ at late. (late.0, late.1, late.2, late.3, late.4, late.6, late.7, late.8, late.9, late.10))
    (λ at late. (late.0, late.1, late.2, late.3, late.4, omega (arith, le, inside ls late.1 late.3 late.6), late.5, late.6, late.7, late.8, late.9))
    least
