-- Columns: where one stands, what may join, and what holds of all.
use Rattle.std.specs.Prelude.{◌≡◌, ℕ, ◌+◌, ◌≤◌, IsTrue, List, length, is_some, slice_get, sum_by, position, option_and_then, Option, Some, None, Bool, false, ◌&&◌, ◌||◌, not, nat_eq, nat_le, if◌then◌else◌}
use Rattle.std.specs.List.{list_all}
use Rattle.std.specs.Str.{bytes_eq}
use Rattle.sw_column.specs.declared.column.Column.{Column}
use Rattle.sw_column.specs.declared.column.Kind.{Kind}
use Rattle.sw_column.specs.declared.column.Kind.TheVariants.{Int, Text, Float}
use Rattle.sw_column.specs.declared.column.ColumnFault.{ColumnFault}
use Rattle.sw_column.specs.declared.column.ColumnFault.TheVariants.{TooMany, BadName, Twice, BadSize, OutOfMemory}
use Rattle.sw_column.specs.declared.column.ColumnFault.TheVariants as faults

-- where the column of a name stands, from 0
abbrev pub place : List Column → List ℕ → Option ℕ
place cs name = position (λ c. bytes_eq c.name name) cs

-- the column of a name
abbrev pub column_of : List Column → List ℕ → Option Column
column_of cs name = option_and_then (slice_get cs) (place cs name)

-- a letter, a digit or `_`
abbrev pub is_name_byte : ℕ → Bool
is_name_byte b = (nat_le 97 b && nat_le b 122) || (nat_le 65 b && nat_le b 90) || (nat_le 48 b && nat_le b 57) || nat_eq b 95

-- 1 to 63 letters, digits and `_`
abbrev pub is_name : List ℕ → Bool
is_name name = nat_le 1 (length name) && nat_le (length name) 63 && list_all is_name_byte name

-- the bytes that a column takes in a row: a text takes its size and two more
abbrev pub width : Kind → ℕ → ℕ
width Int size = size
width Text size = size + 2
width Float size = size

-- the bytes of a row
abbrev pub row_width : List Column → ℕ
row_width cs = sum_by (λ c. width c.kind c.size) cs

-- a number has 1, 2, 4 or 8 bytes, a text at least one
abbrev pub is_size : Kind → ℕ → Bool
is_size Int size = nat_eq size 1 || nat_eq size 2 || nat_eq size 4 || nat_eq size 8
is_size Text size = nat_le 1 size
is_size Float size = false

abbrev pub size_fault : List Column → Kind → ℕ → Option ColumnFault
size_fault cs kind size = if is_size kind size && nat_le (row_width cs + width kind size) 1024 then None else Some BadSize

abbrev pub kind_fault : List Column → Kind → ℕ → Option ColumnFault
kind_fault cs Int size = size_fault cs Int size
kind_fault cs Text size = size_fault cs Text size
kind_fault cs Float size = Some faults.Float

-- the first reason why a column can't join these
abbrev pub column_fault : List Column → List ℕ → Kind → ℕ → Option ColumnFault
column_fault cs name kind size =
    if nat_le 32 (length cs) then Some TooMany
    else if not (is_name name) then Some BadName
    else if is_some (place cs name) then Some Twice
    else kind_fault cs kind size

abbrev pub is_column : Column → Bool
is_column c = is_name c.name && is_size c.kind c.size

-- what holds of every schema
abbrev pub IsSchema : List Column → Type 0
IsSchema cs = (length cs ≤ 32) × (row_width cs ≤ 1024) × IsTrue (list_all is_column cs)

-- a column is refused by its fault, or, where it has none, for want of memory
abbrev pub IsRefusal : Option ColumnFault → ColumnFault → Type 0
IsRefusal None fault = fault ≡ OutOfMemory
IsRefusal (Some f) fault = fault ≡ f
