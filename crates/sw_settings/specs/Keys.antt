-- The table of keys.
use Rattle.std.specs.Prelude.{ℕ, ◌≤◌, List, [], ◌∷◌, codes, Option, Some, None, if◌then◌else◌}
use Rattle.std.specs.Str.{bytes_eq}
use Rattle.sw_frame_len.specs.declared.rule.Letter.{Letter as Letters}
use Rattle.sw_frame_len.specs.declared.rule.Letter.TheVariants as letters
use Rattle.sw_settings.specs.declared.keys.Rule.{Rule}
use Rattle.sw_settings.specs.declared.keys.Rule.TheVariants.{Truth, Number, Text, Letter, Columns}

-- each key with what it may be: true or false; a number from the first to the second, by default the third; a text of so
-- many bytes; a letter; columns. A truth is false by default, columns are none, a text and a letter are unset
abbrev pub keys : List (List ℕ × Rule)
keys = (codes "dispatch_mode", Number 1 5 2)
    ∷ (codes "generation_num", Number 1 64 1)
    ∷ (codes "max_conn", Number 1 65536 1024)
    ∷ (codes "max_request", Number 0 4294967295 0)
    ∷ (codes "open_eof_split", Truth)
    ∷ (codes "open_http_protocol", Truth)
    ∷ (codes "open_length_check", Truth)
    ∷ (codes "package_body_offset", Number 0 65535 0)
    ∷ (codes "package_eof", Text 1 8)
    ∷ (codes "package_length_offset", Number 0 65535 0)
    ∷ (codes "package_length_type", Letter)
    ∷ (codes "package_max_length", Number 1 8388608 2097152)
    ∷ (codes "pipe_capacity", Number 1 8192 1024)
    ∷ (codes "reactor_num", Number 1 64 1)
    ∷ (codes "read_size", Number 1 65536 8192)
    ∷ (codes "session_last", Number 0 4294967295 0)
    ∷ (codes "socket_buffer_size", Number 1 67108864 2097152)
    ∷ (codes "table_columns", Columns)
    ∷ (codes "table_last_call", Number 0 8796093022207 8796093022207)
    ∷ (codes "table_percent", Number 0 100 20)
    ∷ (codes "table_size", Number 1 524288 1024)
    ∷ (codes "task_worker_num", Number 0 64 0)
    ∷ (codes "worker_num", Number 1 64 1)
    ∷ []

abbrev pub rule_in : List (List ℕ × Rule) → List ℕ → Option Rule
rule_in [] name = None
rule_in (row ∷ rows) name = if bytes_eq name row.0 then Some row.1 else rule_in rows name

-- the rule of a key, if there is such a key
unfoldable pub rule_of : List ℕ → Option Rule
rule_of name = rule_in keys name

-- a default is in its range
abbrev pub IsSoundRule : Rule → Type 0
IsSoundRule (Number least most default) = (least ≤ default) × (default ≤ most)
IsSoundRule _ = Unit {0}

-- the letter that a text is, if it is one of the five
abbrev pub letter_of : List ℕ → Option Letters
letter_of text = if bytes_eq text (codes "C") then Some letters.C
    else if bytes_eq text (codes "n") then Some letters.SmallN
    else if bytes_eq text (codes "N") then Some letters.BigN
    else if bytes_eq text (codes "v") then Some letters.SmallV
    else if bytes_eq text (codes "V") then Some letters.BigV
    else None
