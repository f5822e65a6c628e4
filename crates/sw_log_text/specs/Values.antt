-- The texts of values and replies of the Table.
use Rattle.std.specs.Prelude.{ℕ, ℤ, List, ◌++◌, codes}
use Rattle.std.specs.Fmt.{decimal, signed_decimal}
use Rattle.std.specs.List.{flat_map}
use Rattle.sw_text.specs.Hex.{hex}
use Rattle.sw_base.specs.declared.table.Value.{Value}
use Rattle.sw_base.specs.declared.table.Value.TheVariants as values
use Rattle.sw_base.specs.declared.table.Reply.{Reply}
use Rattle.sw_base.specs.declared.table.Reply.TheVariants as replies

-- a word, and a number behind it
abbrev pub label_text : List ℕ → ℕ → List ℕ
label_text word n = word ++ decimal n

abbrev pub signed_label_text : List ℕ → ℤ → List ℕ
signed_label_text word n = word ++ signed_decimal n

-- a number with its sign, or an x and two digits for each byte
abbrev pub value_text : Value → List ℕ
value_text (values.Int n) = signed_decimal n
value_text (values.Text t) = codes "x" ++ hex t

abbrev pub cell_text : Value → List ℕ
cell_text v = codes " " ++ value_text v

-- a reply, and behind `row` the row's values in the order of the columns
abbrev pub reply_text : Reply → List Value → List ℕ
reply_text replies.Stored cells = codes "stored"
reply_text replies.Full cells = codes "full"
reply_text replies.Found cells = codes "row" ++ flat_map cell_text cells
reply_text replies.Missing cells = codes "missing"
reply_text replies.Yes cells = codes "yes"
reply_text replies.No cells = codes "no"
reply_text (replies.Value n) cells = signed_label_text (codes "value ") n
reply_text replies.Range cells = codes "range"
reply_text (replies.Count n) cells = label_text (codes "count ") n
