-- No place of a restore's trace is bad.
use Rattle.std.proofs.Common.{◌≡◌, ℕ, zero, suc, ◌+◌, ◌<◌, ◌≤◌, Bool, true, false, List, [], ◌∷◌, ◌++◌, length, get_or, drop, Option, Some, None, refl, ap, sym, ◌∙◌, subst, arith, inl, inr}
use Rattle.std.specs.Prelude.{slice_get}
use Rattle.std.specs.List.{AllByRecursion}
use Rattle.std.specs.List.Sorted.{IsNonDecreasingBy}
use Rattle.std.specs.FinMap as map_of
use Rattle.std.proofs.lemmas.Option.{slice_get-get_or, slice_get_within, get_or_from_slice_get}
use Rattle.std.proofs.lemmas.List.{get_or-drop}
use Rattle.sw_base.specs.declared.table.Value.{Value}
use Rattle.sw_base.specs.declared.table.Call.{Call}
use Rattle.sw_base.specs.declared.table.Call.TheVariants.{Set, Get, Exist, Del, Incr, Decr, Count}
use Rattle.sw_column.specs.declared.column.Column.{Column}
use Rattle.sw_table_laws.specs.Rows.{with_pairs}
use Rattle.sw_table_laws.specs.Sizes.{raised}
use Rattle.sw_table_laws.specs.Table.{Shape, State, TStep, set_step, may_write, row_of}
use Rattle.sw_tmodel.specs.Plain.{PlainTable, shape_of}
use Rattle.sw_call.specs.Replies.{only}
use Rattle.sw_audit.specs.declared.trace.TraceLine.{TraceLine}
use Rattle.sw_audit.specs.declared.verdict.Verdict.TheVariants as verdicts
use Rattle.sw_audit.specs.Judging.{IsReached, HasPlace}
use Rattle.sw_audit.specs.Verdicts.{table_of, Tells, IsWrong, IsLate, IsBad, IsVerdict}
use Rattle.sw_audit.proofs.PlaceLaws.{told, reached_next, reached_none, right_next, all_right}
use Rattle.sw_dump.specs.declared.refill.Refill.{Refill}
use Rattle.sw_dump.specs.Restores.{made_from, restored, IsSet}

-- ---- the line at a place

pub made_length : (t : Shape) (calls : List Call) (n : ℕ) (s : State) → length (made_from t n s calls) ≡ length calls
unfolding made_from
made_length t [] n s = refl
made_length t (c ∷ calls) n s = ap (λ (k : ℕ). suc k) (made_length t calls (n + 1) (TStep t s c).state)

made_at : (t : Shape) (calls : List Call) (n : ℕ) (s : State) (i : ℕ) (e : TraceLine) → slice_get (made_from t n s calls) i ≡ Some e → e.at ≡ n + i
unfolding made_from
made_at t [] n s i e is = absurd cc
made_at t (c ∷ calls) n s zero e is =
    let same : record { at = n; caller = 0; call = c; replied = only (TStep t s c).reply } ≡ e = cc in
    let own : n ≡ e.at = ap (λ (x : TraceLine). x.at) same in
    omega (arith, own)
made_at t (c ∷ calls) n s (suc i) e is = let rest : e.at ≡ n + 1 + i = made_at t calls (n + 1) (TStep t s c).state i e is in omega (arith, rest)

abbrev lines : Shape → List Call → List TraceLine
lines t calls = made_from t 0 map_of.empty calls

placed : (t : Shape) (calls : List Call) (i : ℕ) (d : TraceLine) → i < length (lines t calls) → (get_or (lines t calls) i d).at ≡ i
placed t calls i d lt = let own : (get_or (lines t calls) i d).at ≡ 0 + i = made_at t calls 0 map_of.empty i (get_or (lines t calls) i d) (slice_get-get_or (lines t calls) i d lt) in omega (arith, own)

rises : (t : Shape) (calls : List Call) → IsNonDecreasingBy (λ (x : TraceLine). x.at) (lines t calls)
rises t calls i j d le lt =
    let one = placed t calls i d (omega (arith, le, lt)) in
    let two = placed t calls j d lt in
    omega (arith, one, two, le)

-- ---- one call after the other

set_tells : (b : Bool) (s : State) (key : List ℕ) (row : List Value) → [] ≡ (set_step b s key row).cells
set_tells true s key row = refl
set_tells false s key row = refl

tells : (t : Shape) (s : State) (n : ℕ) (call : Call) → IsSet call → Tells (record { at = n; caller = 0; call = call; replied = only (TStep t s call).reply }) (TStep t s call)
tells t s n (Set key ps) is = (refl, set_tells (may_write t s key) s key (with_pairs t.columns (row_of t s key) ps))
tells t s n (Get key) is = absurd is
tells t s n (Exist key) is = absurd is
tells t s n (Del key) is = absurd is
tells t s n (Incr key name by) is = absurd is
tells t s n (Decr key name by) is = absurd is
tells t s n Count is = absurd is

single : (t : Shape) (calls : List Call) (k : ℕ) → ¬ HasPlace (lines t calls) (k + 1) k
single t calls k (e, is, at) = let own : e.at ≡ 0 + (k + 1) = made_at t calls 0 map_of.empty (k + 1) e is in omega (arith, own, at)

head_at : (es rest : List TraceLine) (k : ℕ) (e : TraceLine) → drop k es ≡ e ∷ rest → (slice_get es k ≡ Some e) × (drop (k + 1) es ≡ rest)
head_at [] rest zero e is = absurd cc
head_at [] rest (suc k) e is = absurd cc
head_at (x ∷ es) rest zero e is = let one : x ≡ e = cc in let more : es ≡ rest = cc in (ap Some one, more)
head_at (x ∷ es) rest (suc k) e is = let h = head_at es rest k e is in let next : suc k + 1 ≡ suc (k + 1) = omega arith in (h.0, ap (λ (n : ℕ). drop n (x ∷ es)) next ∙ h.1)

past : (es : List TraceLine) (k : ℕ) → drop k es ≡ [] → length es ≤ k
past [] k is = omega arith
past (x ∷ es) zero is = absurd cc
past (x ∷ es) (suc k) is = let le = past es k is in omega (arith, le)

abbrev Rights : Shape → List TraceLine → ℕ → Type 0
Rights t es k = (q : ℕ) → q < k → ¬ IsWrong t es q

abbrev table : List Column → ℕ → ℕ → ℕ → ℕ → State → PlainTable
table cs size percent last k s = record { columns = cs; size = size; percent = percent; last_call = last; calls = k; state = s }

-- from a place on, with the calls that are left
all_from : (cs : List Column) (size percent last : ℕ) (all : List Call) (left : List Call) (k : ℕ) (s : State) → AllByRecursion IsSet left
    → drop k (lines (shape_of (table cs size percent last k s)) all) ≡ made_from (shape_of (table cs size percent last k s)) k s left
    → IsReached (lines (shape_of (table cs size percent last k s)) all) k (table cs size percent last k s) → Rights (shape_of (table cs size percent last k s)) (lines (shape_of (table cs size percent last k s)) all) k
    → (q : ℕ) → ¬ IsWrong (shape_of (table cs size percent last k s)) (lines (shape_of (table cs size percent last k s)) all) q
unfolding made_from
all_from cs size percent last all [] k s are is reached right q =
    all_right (shape_of (table cs size percent last k s)) (lines (shape_of (table cs size percent last k s)) all) k (table cs size percent last k s) (past _ k is) reached right q
all_from cs size percent last all (c ∷ left) k s are is reached right q =
    let p = table cs size percent last k s in
    let t = shape_of p in
    let es = lines t all in
    let e : TraceLine = record { at = k; caller = 0; call = c; replied = only (TStep t s c).reply } in
    let h = head_at es (made_from t (k + 1) (TStep t s c).state left) k e is in
    let lt : k < length es = slice_get_within es k e h.0 in
    let own : e ≡ get_or es k e = sym (get_or_from_slice_get es k e e h.0) in
    let has : HasPlace es k k = (e, h.0, refl) in
    let good : ¬ IsWrong t es k = told es k p true lt (rises t all) reached has (single t all k) e own (tells t s k c are.0) in
    let next : PlainTable = table cs size percent last (k + 1) (TStep t s c).state in
    all_from cs size percent last all left (k + 1) (TStep t s c).state are.1 h.1 (reached_next es k p next lt (rises t all) reached has (single t all k) e own refl) (right_next t es k right good) q

none_wrong : (cs : List Column) (size percent : ℕ) (calls : List Call) → AllByRecursion IsSet calls → (q : ℕ) → ¬ IsWrong (shape_of (table cs size percent 0 0 map_of.empty)) (lines (shape_of (table cs size percent 0 0 map_of.empty)) calls) q
none_wrong cs size percent calls are =
    all_from cs size percent 0 calls calls 0 map_of.empty are refl (reached_none _ (table cs size percent 0 0 map_of.empty) refl refl) (λ q lt wrong. omega (arith, lt))

none_late : (t : Shape) (calls : List Call) (at : ℕ) → ¬ IsLate (lines t calls) at
none_late t calls at (i, j, f, e, before, first, second, same, place, greater) =
    let one : f.at ≡ 0 + i = made_at t calls 0 map_of.empty i f first in
    let two : e.at ≡ 0 + j = made_at t calls 0 map_of.empty j e second in
    omega (arith, one, two, before, place, greater)

none_bad : (r : Refill) → AllByRecursion IsSet r.calls → (at : ℕ) → ¬ IsBad (restored r) at
none_bad r are at (inl wrong) = none_wrong r.into.schema (raised r.into.size) r.into.percent r.calls are at wrong
none_bad r are at (inr late) = none_late (table_of r.into) r.calls at late

pub is_verdict : (r : Refill) → AllByRecursion IsSet r.calls → IsVerdict (restored r) (verdicts.Ok (length r.calls))
is_verdict r are = (none_bad r are, sym (made_length (table_of r.into) r.calls 0 map_of.empty))
