use Rattle.std.proofs.Common.{◌≡◌, ℕ, ◌<◌, ◌≤◌, get_or, Bool, true, false, eqb, List, length, Option, Some, None, refl, sym, ap, ◌∙◌, arith, Decides, MatchBool}
use Rattle.std.specs.Prelude.{ℤ, ◌+ℤ◌, ◌-ℤ◌, cond, slice_get}
use Rattle.std.proofs.lemmas.List.{same_lists}
use Rattle.std.proofs.lemmas.Option.{slice_get-get_or}
use Rattle.std.proofs.lemmas.Slice.Eq.{bytes_eq-Decides}
use Rattle.std.proofs.lemmas.Bool.Decides.{Decides-int_eq}
use Rattle.sw_base.specs.declared.table.Value.{Value}
use Rattle.sw_base.specs.declared.table.Value.TheVariants.{Int, Text}
use Rattle.sw_base.specs.declared.table.Call.{Call}
use Rattle.sw_base.specs.declared.table.Call.TheVariants.{Set, Get, Exist, Del, Incr, Decr, Count}
use Rattle.sw_base.specs.declared.table.CallFault.{CallFault}
use Rattle.sw_base.specs.declared.table.CallFault.TheVariants.{Spent}
use Rattle.sw_column.specs.Fit.{call_fault, or_else, fits}
use Rattle.sw_table_laws.specs.Table.{Shape, State, Step, TStep, answers, set_step, get_step, del_step, add_step, add, may_write, row_of}
use Rattle.sw_table_laws.specs.Rows.{with_value, with_pairs, number_of, size_of}
use Rattle.std.specs.FinMap as map_of
use Rattle.sw_base.specs.declared.table.Reply.TheVariants.{Yes, No}
use Rattle.sw_base.specs.declared.table.Value.TheVariants as values
use Rattle.std.proofs.lemmas.Bool.{ne_eqb}
use Rattle.sw_tmodel.specs.Plain.{PlainTable, plain_fault}
use Rattle.sw_table_laws.specs.Table.{shown}
use Rattle.sw_audit.specs.Judging.{is_same, shown_by, HasReply}
use Rattle.sw_audit.specs.Verdicts.{Tells}
use Rattle.sw_audit.specs.declared.trace.TraceLine.{TraceLine}
use Rattle.sw_base.specs.declared.table.Reply.{Reply}

-- ---- equal values

pub same_value : (a b : Value) → Decides (is_same a b) (a ≡ b)
same_value (Int m) (Int n) = let d = Decides-int_eq m n in (λ e. ap Int (d.0 e), λ e. let same : m ≡ n = cc in d.1 same)
same_value (Int m) (Text t) = (λ e. absurd cc, λ e. absurd cc)
same_value (Text t) (Int n) = (λ e. absurd cc, λ e. absurd cc)
same_value (Text s) (Text t) = let d = bytes_eq-Decides s t in (λ e. ap Text (d.0 e), λ e. let same : s ≡ t = cc in d.1 same)

-- two lists of one length that agree at each place
pub same_rows : (xs ys : List Value) (n : ℕ) → length xs ≡ length ys → length xs ≤ n → ((i : ℕ) → i < n → slice_get xs i ≡ slice_get ys i) → ys ≡ xs
same_rows xs ys n len all same =
    same_lists ys xs (sym len) (λ k d lt.
    let within : k < length xs = omega (arith, lt, len) in
    let here : Some (get_or xs k d) ≡ Some (get_or ys k d) = sym (slice_get-get_or xs k d within) ∙ same k (omega (arith, within, all)) ∙ slice_get-get_or ys k d lt in
    cc)

-- ---- a row comes with no reply but Found

abbrev IsShown : Step → List Value → Type 0
IsShown step row = step.cells ≡ shown_by step.reply (shown step row)

set_shown : (t : Bool) (s : State) (key : List ℕ) (new row : List Value) → IsShown (set_step t s key new) row
set_shown true s key new row = refl
set_shown false s key new row = refl

get_shown : (s : State) (o : Option (List Value)) (row : List Value) → IsShown (get_step s o) row
get_shown s None row = refl
get_shown s (Some cells) row = refl

del_shown : (t : Bool) (s : State) (key : List ℕ) (row : List Value) → IsShown (del_step t s key) row
del_shown true s key row = refl
del_shown false s key row = refl

add_shown : (fit write : Bool) (s : State) (key : List ℕ) (new row : List Value) (n : ℤ) → IsShown (add_step fit write s key new n) row
add_shown false write s key new row n = refl
add_shown true false s key new row n = refl
add_shown true true s key new row n = refl

exist_shown : (t : Bool) (s : State) (row : List Value) → IsShown (answers s (cond t Yes No)) row
exist_shown true s row = refl
exist_shown false s row = refl

added : (t : Shape) (s : State) (key name : List ℕ) (n : ℤ) (row : List Value) → IsShown (add t s key name n) row
added t s key name n row = add_shown (fits (size_of t.columns name) n) (may_write t s key) s key (with_value t.columns (row_of t s key) name (values.Int n)) row n

pub step_shown : (t : Shape) (s : State) (call : Call) (row : List Value) → IsShown (TStep t s call) row
step_shown t s (Set key pairs) row = set_shown (may_write t s key) s key (with_pairs t.columns (row_of t s key) pairs) row
step_shown t s (Get key) row = get_shown s (map_of.get s key) row
step_shown t s (Exist key) row = exist_shown (map_of.contains_key s key) s row
step_shown t s (Del key) row = del_shown (map_of.contains_key s key) s key row
step_shown t s (Incr key name by) row = added t s key name (number_of t.columns (row_of t s key) name +ℤ by) row
step_shown t s (Decr key name by) row = added t s key name (number_of t.columns (row_of t s key) name -ℤ by) row
step_shown t s Count row = refl

-- ---- a call that fits has a place, as long as places are left

pub has_place : (p : PlainTable) (call : Call) (fault : CallFault) → call_fault p.columns call ≡ None → p.calls < p.last_call → plain_fault p call ≡ Some fault → ⊥
has_place p call fault fit room is =
    let other : eqb p.calls p.last_call ≡ false = ne_eqb p.calls p.last_call (λ same. omega (arith, room, same)) in
    let parts : or_else (call_fault p.columns call) (cond (eqb p.calls p.last_call) (Some (Spent p.calls)) None) ≡ Some fault = is in
    let none : None ≡ Some fault = rw (fit, other) at parts in
    cc

-- ---- a line tells a step where it has the reply and what the buffer shows

cells_are : (step : Step) (row new : List Value) (reply : Reply) → reply ≡ step.reply → new ≡ shown step row → IsShown step row → shown_by reply new ≡ step.cells
cells_are step row new reply same left shows = ap (λ (r : Reply). shown_by r new) same ∙ ap (λ (xs : List Value). shown_by step.reply xs) left ∙ sym shows

pub told_by : (e : TraceLine) (step : Step) (row new : List Value) (reply : Reply) (t : Bool) → reply ≡ step.reply → new ≡ shown step row → IsShown step row
    → MatchBool t (HasReply e.replied reply new) (¬ HasReply e.replied reply new) → MatchBool t (Tells e step) (¬ Tells e step)
told_by e step row new reply true same left shows has = (has.0 ∙ same, has.1 ∙ cells_are step row new reply same left shows)
told_by e step row new reply false same left shows other = λ tells. other (tells.0 ∙ sym same, tells.1 ∙ sym (cells_are step row new reply same left shows))
