use Rattle.std.proofs.Common.{◌≡◌, ℕ, ◌+◌, ◌<◌, ◌≤◌, List, [], ◌∷◌, ◌++◌, length, get_or, drop, Option, Some, None, Result, Ok, Err, ap, sym, ◌∙◌}
use Rattle.std.proofs.lemmas.List.{at_drop_more, drop_all}
use Rattle.sw_column.specs.declared.column.Column.{Column}
use Rattle.sw_column.specs.declared.column.ColumnFault.{ColumnFault}
use Rattle.sw_column.specs.Columns.{column_fault, IsRefusal}
use Rattle.sw_column.specs.declared.column.ColumnFault.TheVariants.{OutOfMemory}
use Rattle.sw_call.specs.declared.column_texts.Refused.{Refused}
use Rattle.sw_call.specs.Columns.{joined, schema_with}

abbrev fault_of : List Column → Column → Option ColumnFault
fault_of s c = column_fault s c.name c.kind c.size

one_more : (s cs : List Column) (i : ℕ) (c : Column) → i < length cs → c ≡ get_or cs i c → schema_with (Ok s) (drop i cs) ≡ schema_with (joined s c (fault_of s c)) (drop (i + 1) cs)
unfolding schema_with
one_more s cs i c lt is =
    let step : schema_with (Ok s) (drop i cs) ≡ schema_with (joined s (get_or cs i c) (fault_of s (get_or cs i c))) (drop (i + 1) cs) = at_drop_more (schema_with (Ok s)) cs i c lt in
    rw (← is) at step

pub column_joins : (s cs : List Column) (i : ℕ) (c : Column) (total : Result (List Column) Refused) → i < length cs → c ≡ get_or cs i c → fault_of s c ≡ None
    → schema_with (Ok s) (drop i cs) ≡ total → schema_with (Ok (s ++ c ∷ [])) (drop (i + 1) cs) ≡ total
unfolding schema_with
column_joins s cs i c total lt is none so_far =
    let step : schema_with (Ok s) (drop i cs) ≡ schema_with (Ok (s ++ c ∷ [])) (drop (i + 1) cs) = rw none at (one_more s cs i c lt is) in
    sym step ∙ so_far

pub column_refused : (s cs : List Column) (i : ℕ) (c : Column) (fault : ColumnFault) (total : Result (List Column) Refused) → i < length cs → c ≡ get_or cs i c → fault_of s c ≡ Some fault
    → schema_with (Ok s) (drop i cs) ≡ total → Err (record { name = c.name; fault = fault }) ≡ total
unfolding schema_with
column_refused s cs i c fault total lt is some so_far =
    let step : schema_with (Ok s) (drop i cs) ≡ Err (record { name = c.name; fault = fault }) = rw some at (one_more s cs i c lt is) in
    sym step ∙ so_far

pub columns_done : (s cs : List Column) (i : ℕ) (total : Result (List Column) Refused) → length cs ≤ i → schema_with (Ok s) (drop i cs) ≡ total → Ok s ≡ total
unfolding schema_with
columns_done s cs i total le so_far = rw (drop_all i cs le) at so_far

pub refused_by : (o : Option ColumnFault) (fault : ColumnFault) → IsRefusal o fault → ¬ (fault ≡ OutOfMemory) → o ≡ Some fault
refused_by None fault is other = absurd (other is)
refused_by (Some f) fault is other = ap Some (sym is)
