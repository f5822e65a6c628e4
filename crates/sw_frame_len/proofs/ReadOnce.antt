-- A field that was read, with more bytes.
use Rattle.std.proofs.Common.{◌≡◌, ℕ, suc, List, ◌++◌, length, Option, Some, None, sym, ap, ◌∙◌, inl, inr, arith, length-append}
use Rattle.std.proofs.lemmas.Bool.Decides.{leb_tells}
use Rattle.sw_frame_len.specs.declared.rule.LengthRule.{LengthRule}
use Rattle.sw_frame_len.specs.declared.scan.LengthScan.{LengthScan}
use Rattle.sw_frame_len.specs.Length.{HasField, field_end, total, first_by, first_in}
use Rattle.sw_frame_len.specs.Read.{IsKnown, HasRead}
use Rattle.sw_frame_len.proofs.Lengths.{total-later}

known_later : (rule : LengthRule) (bytes later : List ℕ) (known : Option ℕ) → IsKnown rule bytes known → IsKnown rule (bytes ++ later) known
known_later rule bytes later None is = tt
known_later rule bytes later (Some n) is =
    let there = is.0.there in
    (record { allowed = is.0.allowed; there = rw length-append (omega (arith, there)) }, is.1 ∙ sym (total-later rule bytes later there))

pub HasRead-later : (rule : LengthRule) (bytes later : List ℕ) (scan : LengthScan) → HasRead rule bytes scan → HasRead rule (bytes ++ later) scan
HasRead-later rule bytes later scan is = known_later rule bytes later scan.total is

-- what comes first where the field is there
pub first_in-field : (rule : LengthRule) (bytes : List ℕ) (n : ℕ) → HasField rule bytes → n ≡ total rule bytes → first_by rule bytes n ≡ first_in rule bytes
unfolding first_in
first_in-field rule bytes n field is =
    let allowed = field.allowed in
    let there = field.there in
    elim (leb_tells (field_end rule) rule.max) [
      | inl w ↦
          elim (leb_tells (suc (length bytes)) (field_end rule)) [
            | inl x ↦ absurd (omega (arith, x.1, there))
            | inr x ↦ rw (w.0, x.0) (ap (first_by rule bytes) is)
          ]
      | inr w ↦ absurd (omega (arith, w.1, allowed))
    ]
