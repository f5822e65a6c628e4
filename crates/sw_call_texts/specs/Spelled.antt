-- Which values, calls and replies have a text.
use Rattle.std.specs.Prelude.{◌≡◌, ℕ, ◌<◌, List, [], length, Bool, true, ℤ}
use Rattle.std.specs.List.{AllByRecursion}
use Rattle.sw_text.specs.Numbers.{FitsSigned}
use Rattle.sw_base.specs.declared.table.Value.{Value}
use Rattle.sw_base.specs.declared.table.Value.TheVariants as values
use Rattle.sw_base.specs.declared.table.Call.{Call}
use Rattle.sw_base.specs.declared.table.Call.TheVariants as calls
use Rattle.sw_base.specs.declared.table.Reply.{Reply}
use Rattle.sw_base.specs.declared.table.Reply.TheVariants as replies
use Rattle.sw_column.specs.Columns.{is_name}
use Rattle.sw_call.specs.declared.answer.Replied.{Replied}

abbrev pub AreBytes : List ℕ → Type 0
AreBytes bs = AllByRecursion (λ b. b < 256) bs

-- a number that fits 64 bits, or bytes
abbrev pub IsValue : Value → Type 0
IsValue (values.Int n) = FitsSigned n
IsValue (values.Text t) = AreBytes t

-- a column's name, and a value
abbrev pub IsPair : List ℕ × Value → Type 0
IsPair p = (is_name p.0 ≡ true) × IsValue p.1

-- one byte or more
abbrev pub IsKeyText : List ℕ → Type 0
IsKeyText key = (0 < length key) × AreBytes key

abbrev pub IsStepText : List ℕ → ℤ → Type 0
IsStepText name by = (is_name name ≡ true) × FitsSigned by

-- the key isn't empty, each name can be one of a column, and numbers fit 64 bits
abbrev pub IsCall : Call → Type 0
IsCall (calls.Set key pairs) = IsKeyText key × AllByRecursion IsPair pairs
IsCall (calls.Get key) = IsKeyText key
IsCall (calls.Exist key) = IsKeyText key
IsCall (calls.Del key) = IsKeyText key
IsCall (calls.Incr key name by) = IsKeyText key × IsStepText name by
IsCall (calls.Decr key name by) = IsKeyText key × IsStepText name by
IsCall calls.Count = Unit {0}

-- a row has values, and a reply without a row has none
abbrev pub IsReply : Reply → List Value → Type 0
IsReply replies.Stored cells = cells ≡ []
IsReply replies.Full cells = cells ≡ []
IsReply replies.Found cells = AllByRecursion IsValue cells
IsReply replies.Missing cells = cells ≡ []
IsReply replies.Yes cells = cells ≡ []
IsReply replies.No cells = cells ≡ []
IsReply (replies.Value n) cells = FitsSigned n × (cells ≡ [])
IsReply replies.Range cells = cells ≡ []
IsReply (replies.Count n) cells = (n < 18446744073709551616) × (cells ≡ [])

abbrev pub IsReplied : Replied → Type 0
IsReplied r = IsReply r.reply r.cells
