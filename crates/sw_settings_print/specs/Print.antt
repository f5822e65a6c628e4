-- The text of settings.
use Rattle.std.specs.Prelude.{ℕ, List, [], ◌∷◌, ◌++◌, codes, Bool, Option, Some, None, if◌then◌else◌}
use Rattle.std.specs.Borrow.{Bor}
use Rattle.std.specs.Fmt.{decimal}
use Rattle.std.specs.List.{flat_map}
use Rattle.std.specs.Option.{unwrap_or}
use Rattle.sw_text.specs.Hex.{hex}
use Rattle.sw_frame_len.specs.declared.rule.Letter.{Letter}
use Rattle.sw_frame_len.specs.declared.rule.Letter.TheVariants.{C, SmallN, BigN, SmallV, BigV}
use Rattle.sw_settings.specs.declared.values.Values.{Values}
use Rattle.sw_settings_print.specs.declared.lines.Shown.{Shown}
use Rattle.sw_settings_print.specs.declared.lines.Shown.TheVariants.{Number, Truth, Text}

abbrev pub truth_text : Bool → List ℕ
truth_text b = if b then codes "true" else codes "false"

-- an x and hexadecimal digits, or a dash where there is no byte
abbrev pub text_text : List ℕ → List ℕ
text_text [] = codes "-"
text_text (b ∷ bs) = codes "x" ++ hex (b ∷ bs)

-- the letter of a length field, as it is set
abbrev pub letter_text : Option Letter → List ℕ
letter_text None = []
letter_text (Some C) = codes "C"
letter_text (Some SmallN) = codes "n"
letter_text (Some BigN) = codes "N"
letter_text (Some SmallV) = codes "v"
letter_text (Some BigV) = codes "V"

abbrev pub mark_text : Option (List ℕ) → List ℕ
mark_text mark = unwrap_or mark []

-- each key with its text
unfoldable pub lines : Values → List (List ℕ × List ℕ)
lines v = (codes "dispatch_mode", decimal v.dispatch_mode)
    ∷ (codes "generation_num", decimal v.generation_num)
    ∷ (codes "max_conn", decimal v.max_conn)
    ∷ (codes "max_request", decimal v.max_request)
    ∷ (codes "open_eof_split", truth_text v.open_eof_split)
    ∷ (codes "open_http_protocol", truth_text v.open_http_protocol)
    ∷ (codes "open_length_check", truth_text v.open_length_check)
    ∷ (codes "package_body_offset", decimal v.package_body_offset)
    ∷ (codes "package_eof", text_text (mark_text v.package_eof))
    ∷ (codes "package_length_offset", decimal v.package_length_offset)
    ∷ (codes "package_length_type", text_text (letter_text v.package_length_type))
    ∷ (codes "package_max_length", decimal v.package_max_length)
    ∷ (codes "pipe_capacity", decimal v.pipe_capacity)
    ∷ (codes "reactor_num", decimal v.reactor_num)
    ∷ (codes "read_size", decimal v.read_size)
    ∷ (codes "session_last", decimal v.session_last)
    ∷ (codes "socket_buffer_size", decimal v.socket_buffer_size)
    ∷ (codes "table_columns", text_text v.table_columns)
    ∷ (codes "table_last_call", decimal v.table_last_call)
    ∷ (codes "table_percent", decimal v.table_percent)
    ∷ (codes "table_size", decimal v.table_size)
    ∷ (codes "task_worker_num", decimal v.task_worker_num)
    ∷ (codes "worker_num", decimal v.worker_num)
    ∷ []

-- a line: the key, a space and its text
abbrev pub line_text : List ℕ × List ℕ → List ℕ
line_text line = line.0 ++ codes " " ++ line.1 ++ codes "\n"

-- the text of settings: a line for each key
abbrev pub settings_text : Values → List ℕ
settings_text v = flat_map line_text (lines v)

-- ---- how the text is made

-- what is shown for a key, as a text
abbrev pub shown_text : Shown → List ℕ
shown_text (Number n) = decimal n
shown_text (Truth b) = truth_text b
shown_text (Text t) = text_text t.now

-- a line, without where its parts lie in memory
abbrev pub seen : Bor (List ℕ) × Shown → List ℕ × List ℕ
seen line = (line.0.now, shown_text line.1)

abbrev pub seen_text : Bor (List ℕ) × Shown → List ℕ
seen_text line = line_text (seen line)
