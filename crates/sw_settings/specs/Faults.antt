-- The first refusal that applies.
use Rattle.std.specs.Prelude.{◌≡◌, ℕ, List, codes, ◌&&◌, not, is_none, Option, Some, None, Result, Ok, Err, ◌⊎◌, if◌then◌else◌}
use Rattle.std.specs.Option.{option_map, option_or}
use Rattle.sw_column.specs.declared.column.Column.{Column}
use Rattle.sw_call.specs.declared.column_texts.Refused.{Refused}
use Rattle.sw_call.specs.Columns.{schema_of}
use Rattle.sw_settings.specs.declared.pair.Pair.{Pair}
use Rattle.sw_settings.specs.declared.checks.Check.TheVariants as checks
use Rattle.sw_settings.specs.declared.keys.Rule.{Rule}
use Rattle.sw_settings.specs.declared.keys.Rule.TheVariants.{Number, Text}
use Rattle.sw_settings.specs.declared.values.Values.{Values}
use Rattle.sw_settings.specs.declared.faults.SettingsFault.{SettingsFault}
use Rattle.sw_settings.specs.declared.faults.SettingsFault.TheVariants.{Unknown, BadType, Range, Missing, Conflict, Column as ColumnFault, OutOfMemory}
use Rattle.sw_settings.specs.Keys.{rule_of}
use Rattle.sw_settings.specs.Columns.{columns_named}
use Rattle.sw_settings.specs.Checks.{first_key}
use Rattle.sw_settings.specs.Given.{truth_of, keeps_set, text_of}
use Rattle.sw_settings.specs.Values.{values_of}

-- ---- each reason, at the first key in byte order that has it

-- a name is no key
unfoldable pub unknown_fault : List Pair → Option SettingsFault
unknown_fault ps = option_map Unknown (first_key checks.Known ps)

-- a value isn't of the key's kind
unfoldable pub type_fault : List Pair → Option SettingsFault
type_fault ps = option_map BadType (first_key checks.Kind ps)

abbrev pub out_of : List ℕ → Option Rule → SettingsFault
out_of name (Some (Number least most default)) = Range name least most
out_of name (Some (Text least most)) = Range name least most
out_of name _ = Range name 0 0

-- the refusal of a key with its range; keys without one are never out of it
abbrev pub out_of_range : List ℕ → SettingsFault
out_of_range name = out_of name (rule_of name)

-- a number or the length of a text isn't in the key's range
unfoldable pub range_fault : List Pair → Option SettingsFault
range_fault ps = option_map out_of_range (first_key checks.Range ps)

-- packets end at a mark and there is none, or have a length field and there is no letter for it
unfoldable pub missing_fault : List Pair → Option SettingsFault
missing_fault ps =
    if truth_of (codes "open_eof_split") ps && is_none (text_of (codes "package_eof") ps) then Some (Missing (codes "package_eof"))
    else if truth_of (codes "open_length_check") ps && is_none (text_of (codes "package_length_type") ps) then Some (Missing (codes "package_length_type"))
    else None

-- whole requests are given only where a connection has one worker, and packets can't be cut in two ways
unfoldable pub conflict_fault : List Pair → Option SettingsFault
conflict_fault ps =
    if truth_of (codes "open_http_protocol") ps && not (keeps_set ps) then Some (Conflict (codes "dispatch_mode") (codes "open_http_protocol"))
    else if truth_of (codes "open_eof_split") ps && truth_of (codes "open_http_protocol") ps then Some (Conflict (codes "open_eof_split") (codes "open_http_protocol"))
    else if truth_of (codes "open_eof_split") ps && truth_of (codes "open_length_check") ps then Some (Conflict (codes "open_eof_split") (codes "open_length_check"))
    else if truth_of (codes "open_http_protocol") ps && truth_of (codes "open_length_check") ps then Some (Conflict (codes "open_http_protocol") (codes "open_length_check"))
    else None

abbrev pub column_refused : Result (List Column) Refused → Option SettingsFault
column_refused (Ok columns) = None
column_refused (Err refused) = Some (ColumnFault refused.name refused.fault)

-- a schema refuses one of the columns that the Table is to have, this one first
abbrev pub column_fault : Values → Option SettingsFault
column_fault v = column_refused (schema_of (columns_named v.table_columns))

-- ---- one reason after the other

abbrev pub from_missing : List Pair → Option SettingsFault
from_missing ps = option_or (missing_fault ps) (conflict_fault ps)

abbrev pub from_range : List Pair → Option SettingsFault
from_range ps = option_or (range_fault ps) (from_missing ps)

abbrev pub from_type : List Pair → Option SettingsFault
from_type ps = option_or (type_fault ps) (from_range ps)

-- the first refusal that applies, columns left aside
abbrev pub pairs_fault : List Pair → Option SettingsFault
pairs_fault ps = option_or (unknown_fault ps) (from_type ps)

-- the first refusal that applies
unfoldable pub fault_of : List Pair → Option SettingsFault
fault_of ps = option_or (pairs_fault ps) (column_fault (values_of ps))

-- the answer is that refusal, or there was no memory
abbrev pub IsRefusal : Option SettingsFault → SettingsFault → Type 0
IsRefusal None f = f ≡ OutOfMemory
IsRefusal (Some g) f = (f ≡ g) ⊎ (f ≡ OutOfMemory)
