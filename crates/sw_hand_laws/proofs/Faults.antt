-- A call that doesn't fit its columns is refused for its own arguments.
use Rattle.std.proofs.Common.{◌≡◌, Bool, true, false, if◌then◌else◌, List, [], ◌∷◌, refl, Option, Some, None, ℕ}
use Rattle.sw_base.specs.declared.table.Value.{Value}
use Rattle.sw_base.specs.declared.table.Value.TheVariants as values
use Rattle.sw_base.specs.declared.table.Call.{Call}
use Rattle.sw_base.specs.declared.table.Call.TheVariants.{Set, Get, Exist, Del, Incr, Decr, Count}
use Rattle.sw_base.specs.declared.table.CallFault.{CallFault}
use Rattle.sw_base.specs.declared.table.CallFault.TheVariants.{BadKey}
use Rattle.sw_column.specs.declared.column.Column.{Column}
use Rattle.sw_column.specs.declared.column.Kind.{Kind}
use Rattle.sw_column.specs.declared.column.Kind.TheVariants.{Int, Text, Float}
use Rattle.sw_column.specs.Columns.{column_of}
use Rattle.sw_column.specs.Fit.{fits, number_fault, text_fault, value_fault, at_column, or_else, pairs_fault, counter_kind, counter_fault, is_key, call_fault}
use Rattle.sw_port_shelf.specs.Shelf.{is_of_place}

-- none, or one that is for the call's own arguments
abbrev pub OfArguments : Option CallFault → Type 0
OfArguments None = Unit {0}
OfArguments (Some f) = is_of_place f ≡ false

if_fits : (v : Bool) (f : CallFault) (rest : Option CallFault) → is_of_place f ≡ false → OfArguments rest → OfArguments (if v then rest else Some f)
if_fits true f rest q r = r
if_fits false f rest q r = q

number_faults : (size : ℕ) (v : Value) → OfArguments (number_fault size v)
number_faults size (values.Int n) = if_fits (fits size n) _ None refl tt
number_faults size (values.Text t) = refl

text_faults : (v : Value) → OfArguments (text_fault v)
text_faults (values.Int n) = refl
text_faults (values.Text t) = tt

value_faults : (k : Kind) (size : ℕ) (v : Value) → OfArguments (value_fault k size v)
value_faults Int size v = number_faults size v
value_faults Text size v = text_faults v
value_faults Float size v = refl

column_faults : (c : Option Column) (v : Value) → OfArguments (at_column c v)
column_faults None v = refl
column_faults (Some c) v = value_faults c.kind c.size v

either : (o rest : Option CallFault) → OfArguments o → OfArguments rest → OfArguments (or_else o rest)
either None rest a b = b
either (Some f) rest a b = a

pairs_faults : (cs : List Column) (ps : List (List ℕ × Value)) → OfArguments (pairs_fault cs ps)
unfolding pairs_fault
pairs_faults cs [] = tt
pairs_faults cs (p ∷ ps) = either (at_column (column_of cs p.0) p.1) (pairs_fault cs ps) (column_faults (column_of cs p.0) p.1) (pairs_faults cs ps)

kind_faults : (k : Kind) → OfArguments (counter_kind k)
kind_faults Int = tt
kind_faults Text = refl
kind_faults Float = refl

counter_faults : (c : Option Column) → OfArguments (counter_fault c)
counter_faults None = refl
counter_faults (Some c) = kind_faults c.kind

pub call_faults : (cs : List Column) (c : Call) → OfArguments (call_fault cs c)
call_faults cs (Set key pairs) = if_fits (is_key key) BadKey (pairs_fault cs pairs) refl (pairs_faults cs pairs)
call_faults cs (Get key) = if_fits (is_key key) BadKey None refl tt
call_faults cs (Exist key) = if_fits (is_key key) BadKey None refl tt
call_faults cs (Del key) = if_fits (is_key key) BadKey None refl tt
call_faults cs (Incr key name by) = if_fits (is_key key) BadKey (counter_fault (column_of cs name)) refl (counter_faults (column_of cs name))
call_faults cs (Decr key name by) = if_fits (is_key key) BadKey (counter_fault (column_of cs name)) refl (counter_faults (column_of cs name))
call_faults cs Count = tt
