-- The forms of bytes in a script.
use Rattle.std.specs.Prelude.{ℕ, List, [], ◌∷◌, codes, Option, Some, None, option_map, nat_eq, if◌then◌else◌}
use Rattle.std.specs.Str.{bytes_eq}
use Rattle.sw_call.specs.Values.{octets_of}
use Rattle.sw_script.specs.declared.bytes.Bytes.{Bytes}
use Rattle.sw_script.specs.declared.bytes.Bytes.TheVariants.{Literal, Data, Tail, Answer}

-- data, tail or answer
abbrev pub word_form : List ℕ → Option Bytes
word_form text = if bytes_eq text (codes "data") then Some Data
    else if bytes_eq text (codes "tail") then Some Tail
    else if bytes_eq text (codes "answer") then Some Answer
    else None

abbrev pub form_behind : ℕ → List ℕ → Option Bytes
form_behind b bs = if nat_eq b 120 then option_map Literal (octets_of bs) else word_form (b ∷ bs)

-- an x and pairs of digits, where x alone is no bytes, or one of the words
abbrev pub form_of : List ℕ → Option Bytes
form_of [] = None
form_of (b ∷ bs) = form_behind b bs
