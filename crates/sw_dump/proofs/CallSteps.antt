-- How the calls of a restore are looked at and made, one after the other.
use Rattle.std.proofs.Common.{◌≡◌, ℕ, zero, suc, ◌+◌, ◌-◌, ◌<◌, ◌≤◌, Bool, true, false, List, [], ◌∷◌, ◌++◌, length, get_or, drop, Option, Some, None, refl, ap, sym, ◌∙◌, subst, append_assoc, arith, inl, inr, ⊎_elim, All}
use Rattle.std.specs.Prelude.{slice_get}
use Rattle.std.specs.List.{AllByRecursion, flat_map}
use Rattle.std.proofs.lemmas.Bool.{cases_lt}
use Rattle.std.proofs.lemmas.List.{append-nil, at_drop_more, drop_all}
use Rattle.std.proofs.lemmas.List.Elements.{All-from_recursion}
use Rattle.std.proofs.lemmas.Option.{slice_get_read, slice_get-get_or, slice_get_within}
use Rattle.sw_base.specs.declared.table.Value.{Value}
use Rattle.sw_base.specs.declared.table.Call.{Call}
use Rattle.sw_base.specs.declared.table.Call.TheVariants.{Set}
use Rattle.sw_column.specs.declared.column.Column.{Column}
use Rattle.sw_column.specs.Fit.{call_fault, pairs_fault}
use Rattle.sw_table_laws.specs.Table.{Shape, State, TStep}
use Rattle.sw_tmodel.specs.Plain.{PlainTable, shape_of}
use Rattle.sw_dump.specs.Texts.{set_line, set_line_of}
use Rattle.sw_dump.specs.Restores.{made_from, Takes, TakesBefore, FitBefore, IsSet}

-- ---- one more that the columns take

pub takes_more : (cs : List Column) (pairs : List (List ℕ × Value)) (at : ℕ) (p : List ℕ × Value) → slice_get pairs at ≡ Some p → Takes cs p → TakesBefore cs pairs at → TakesBefore cs pairs (at + 1)
takes_more cs pairs at p is good before i q lt here =
    ⊎_elim (λ (below : i < at). before i q below here)
    (λ (le : at ≤ i). let same : i ≡ at = omega (arith, le, lt) in let other : slice_get pairs at ≡ Some q = subst (λ (k : ℕ). slice_get pairs k ≡ Some q) same here in let one : p ≡ q = cc in subst (Takes cs) one good)
    (cases_lt i at)

pub fit_more : (cs : List Column) (calls : List Call) (at : ℕ) (c : Call) → slice_get calls at ≡ Some c → call_fault cs c ≡ None → FitBefore cs calls at → FitBefore cs calls (at + 1)
fit_more cs calls at c is good before i d lt here =
    ⊎_elim (λ (below : i < at). before i d below here)
    (λ (le : at ≤ i). let same : i ≡ at = omega (arith, le, lt) in let other : slice_get calls at ≡ Some d = subst (λ (k : ℕ). slice_get calls k ≡ Some d) same here in let one : c ≡ d = cc in subst (λ (x : Call). call_fault cs x ≡ None) one good)
    (cases_lt i at)

all_take : (cs : List Column) (pairs : List (List ℕ × Value)) → ((i : ℕ) (p : List ℕ × Value) → i < length pairs → slice_get pairs i ≡ Some p → Takes cs p) → pairs_fault cs pairs ≡ None
unfolding pairs_fault
all_take cs [] take = refl
all_take cs (p ∷ ps) take =
    let first : Takes cs p = take 0 p (omega arith) refl in
    rw first (all_take cs ps (λ i q lt is. take (suc i) q (omega (arith, lt)) is))

-- a Set all of whose pairs the columns take
pub set_fits : (cs : List Column) (key : List ℕ) (pairs : List (List ℕ × Value)) → IsSet (Set key pairs) → TakesBefore cs pairs (length pairs) → call_fault cs (Set key pairs) ≡ None
set_fits cs key pairs is take = rw (is.0, all_take cs pairs take) refl

pub all_fit : (cs : List Column) (calls : List Call) (at : ℕ) → length calls ≤ at → FitBefore cs calls at → All (λ (c : Call). call_fault cs c ≡ None) calls
all_fit cs calls at le before i d lt = before i (get_or calls i d) (omega (arith, le, lt)) (slice_get-get_or calls i d lt)

pub none_yet : (cs : List Column) (calls : List Call) → FitBefore cs calls 0
none_yet cs calls i c lt is = absurd (omega (arith, lt))

pub none_taken : (cs : List Column) (pairs : List (List ℕ × Value)) → TakesBefore cs pairs 0
none_taken cs pairs i p lt is = absurd (omega (arith, lt))

-- ---- one more line

pub line_more : (t : Shape) (calls : List Call) (at n : ℕ) (s : State) (c : Call) (out more total : List ℕ) → at < length calls → c ≡ get_or calls at c → more ≡ out ++ set_line_of n c (TStep t s c).reply
    → out ++ flat_map set_line (made_from t n s (drop at calls)) ≡ total → more ++ flat_map set_line (made_from t (n + 1) (TStep t s c).state (drop (at + 1) calls)) ≡ total
unfolding made_from
line_more t calls at n s c out more total lt is made so_far =
    let step : drop at calls ≡ get_or calls at c ∷ drop (at + 1) calls = at_drop_more (λ (xs : List Call). xs) calls at c lt in
    let here : drop at calls ≡ c ∷ drop (at + 1) calls = rw (← is) at step in
    let rest = flat_map set_line (made_from t (n + 1) (TStep t s c).state (drop (at + 1) calls)) in
    ap (λ (xs : List ℕ). xs ++ rest) made ∙ append_assoc out (set_line_of n c (TStep t s c).reply) rest
    ∙ ap (λ (cs : List Call). out ++ flat_map set_line (made_from t n s cs)) (sym here) ∙ so_far

-- the same after a call that a plain Table made
pub made_more : (p0 p q : PlainTable) (calls : List Call) (at : ℕ) (c : Call) (out more total : List ℕ) → at < length calls → c ≡ get_or calls at c → shape_of p ≡ shape_of p0
    → q ≡ record p { calls = p.calls + 1; state = (TStep (shape_of p) p.state c).state } → more ≡ out ++ set_line_of p.calls c (TStep (shape_of p) p.state c).reply
    → out ++ flat_map set_line (made_from (shape_of p0) p.calls p.state (drop at calls)) ≡ total → more ++ flat_map set_line (made_from (shape_of p0) q.calls q.state (drop (at + 1) calls)) ≡ total
made_more p0 p q calls at c out more total lt is same next made so_far =
    let line : more ≡ out ++ set_line_of p.calls c (TStep (shape_of p0) p.state c).reply = made ∙ ap (λ (t : Shape). out ++ set_line_of p.calls c (TStep t p.state c).reply) same in
    ap (λ (x : PlainTable). more ++ flat_map set_line (made_from (shape_of p0) x.calls x.state (drop (at + 1) calls))) next
    ∙ ap (λ (t : Shape). more ++ flat_map set_line (made_from (shape_of p0) (p.calls + 1) (TStep t p.state c).state (drop (at + 1) calls))) same
    ∙ line_more (shape_of p0) calls at p.calls p.state c out more total lt is line so_far

pub lines_done : (t : Shape) (calls : List Call) (at n : ℕ) (s : State) (out total : List ℕ) → length calls ≤ at → out ++ flat_map set_line (made_from t n s (drop at calls)) ≡ total → out ≡ total
unfolding made_from
lines_done t calls at n s out total le so_far =
    let none = drop_all at calls le in
    let end : out ++ flat_map set_line (made_from t n s []) ≡ total = rw none at so_far in
    sym (append-nil out) ∙ end
