-- What comes first by a length field, row by row and with more bytes.
use Rattle.std.proofs.Common.{◌≡◌, ◌≢◌, ℕ, suc, ◌+◌, ◌<◌, ◌≤◌, List, ◌++◌, length, take, drop, refl, ap, ◌∙◌, inl, inr, arith, length-append, length-drop}
use Rattle.std.proofs.lemmas.List.{take-append-le, drop-append-le}
use Rattle.std.proofs.lemmas.Bool.Decides.{leb_tells, nat_tests}
use Rattle.sw_cut.specs.declared.First.TheVariants.{Packet, More, TooLong, BadLength}
use Rattle.sw_cut.specs.Cut.{IsSteady}
use Rattle.sw_frame_len.specs.declared.rule.Letter.{Letter}
use Rattle.sw_frame_len.specs.declared.rule.Letter.TheVariants.{C, SmallN, BigN, SmallV, BigV}
use Rattle.sw_frame_len.specs.declared.rule.LengthRule.{LengthRule}
use Rattle.sw_frame_len.specs.Length.{width, number, field_end, total, first_by, first_in, IsFirst}

-- a field has at least one byte
pub width_some : (letter : Letter) → 0 < width letter
width_some C = omega arith
width_some SmallN = omega arith
width_some BigN = omega arith
width_some SmallV = omega arith
width_some BigV = omega arith

-- row by row
pub IsFirst-first_in : (rule : LengthRule) (bytes : List ℕ) → IsFirst rule bytes (first_in rule bytes)
unfolding first_in
IsFirst-first_in rule bytes =
    record {
      no_field = λ allowed short. grind (arith, nat_tests);
      bad_length = λ field low. elim low as (λ _. first_in rule bytes ≡ BadLength (total rule bytes)) [
        | inl below ↦ let allowed = field.allowed in let there = field.there in grind (arith, nat_tests)
        | inr below ↦ let allowed = field.allowed in let there = field.there in grind (arith, nat_tests)
      ];
      too_long = λ field roomy long. let allowed = field.allowed in let there = field.there in let room = roomy.field in let body = roomy.body in grind (arith, nat_tests);
      packet = λ field roomy small whole. let allowed = field.allowed in let there = field.there in let room = roomy.field in let body = roomy.body in grind (arith, nat_tests);
      more = λ field roomy small part. let allowed = field.allowed in let there = field.there in let room = roomy.field in let body = roomy.body in grind (arith, nat_tests);
      far_field = λ far long. grind (arith, nat_tests);
      far_more = λ far short. grind (arith, nat_tests);
    }

-- a packet that comes first is there, and has its field
pub first_by-within : (rule : LengthRule) (bytes : List ℕ) (t n : ℕ) → first_by rule bytes t ≡ Packet n → (0 < n) × (n ≤ length bytes)
first_by-within rule bytes t n is =
    let some : 0 < width rule.letter = width_some rule.letter in
    elim (leb_tells (suc t) (field_end rule)) [
      | inl w ↦ let wrong : BadLength t ≡ Packet n = rw w.0 at is in cc
      | inr w ↦
          elim (leb_tells (suc t) rule.body_offset) [
            | inl x ↦ let wrong : BadLength t ≡ Packet n = rw (w.0, x.0) at is in cc
            | inr x ↦
                elim (leb_tells (suc rule.max) t) [
                  | inl y ↦ let wrong : TooLong t ≡ Packet n = rw (w.0, x.0, y.0) at is in cc
                  | inr y ↦
                      elim (leb_tells t (length bytes)) [
                        | inl z ↦
                            let packet : Packet t ≡ Packet n = rw (w.0, x.0, y.0, z.0) at is in
                            let same : t ≡ n = cc in
                            let low : field_end rule ≤ t = omega (arith, w.1) in
                            (omega (arith, low, some, same), omega (arith, z.1, same))
                        | inr z ↦ let wrong : More ≡ Packet n = rw (w.0, x.0, y.0, z.0) at is in cc
                      ]
                ]
          ]
    ]

pub first_in-within : (rule : LengthRule) (bytes : List ℕ) (n : ℕ) → first_in rule bytes ≡ Packet n → (0 < n) × (n ≤ length bytes)
unfolding first_in
first_in-within rule bytes n is =
    elim (leb_tells (field_end rule) rule.max) [
      | inl w ↦
          elim (leb_tells (suc (length bytes)) (field_end rule)) [
            | inl x ↦ let wrong : More ≡ Packet n = rw (w.0, x.0) at is in cc
            | inr x ↦ first_by-within rule bytes (total rule bytes) n (rw (w.0, x.0) at is)
          ]
      | inr w ↦
          elim (leb_tells rule.max (length bytes)) [
            | inl x ↦ let wrong : TooLong rule.max ≡ Packet n = rw (w.0, x.0) at is in cc
            | inr x ↦ let wrong : More ≡ Packet n = rw (w.0, x.0) at is in cc
          ]
    ]

-- a field that is there stays as it is
pub total-later : (rule : LengthRule) (bytes later : List ℕ) → field_end rule ≤ length bytes → total rule (bytes ++ later) ≡ total rule bytes
total-later rule bytes later there =
    let w : ℕ = width rule.letter in
    let o : ℕ = rule.length_offset in
    let begins : o ≤ length bytes = omega arith in
    let room : w ≤ length (drop o bytes) = rw length-drop (omega arith) in
    ap (λ (field : List ℕ). rule.body_offset + number rule.letter field) (ap (take w) (drop-append-le o bytes later begins) ∙ take-append-le w (drop o bytes) later room)

first_by-later : (rule : LengthRule) (bytes later : List ℕ) (t : ℕ) → first_by rule bytes t ≢ More → first_by rule (bytes ++ later) t ≡ first_by rule bytes t
first_by-later rule bytes later t known =
    elim (leb_tells (suc t) (field_end rule)) [
      | inl w ↦ rw w.0 refl
      | inr w ↦
          elim (leb_tells (suc t) rule.body_offset) [
            | inl x ↦ rw (w.0, x.0) refl
            | inr x ↦
                elim (leb_tells (suc rule.max) t) [
                  | inl y ↦ rw (w.0, x.0, y.0) refl
                  | inr y ↦
                      elim (leb_tells t (length bytes)) [
                        | inl z ↦
                            let more : t ≤ length (bytes ++ later) = rw length-append (omega (arith, z.1)) in
                            grind (arith, nat_tests)
                        | inr z ↦ absurd (known (rw (w.0, x.0, y.0, z.0) refl))
                      ]
                ]
          ]
    ]

pub first_in-later : (rule : LengthRule) (bytes later : List ℕ) → first_in rule bytes ≢ More → first_in rule (bytes ++ later) ≡ first_in rule bytes
unfolding first_in
first_in-later rule bytes later known =
    let more : length (bytes ++ later) ≡ length bytes + length later = length-append bytes later in
    elim (leb_tells (field_end rule) rule.max) [
      | inl w ↦
          elim (leb_tells (suc (length bytes)) (field_end rule)) [
            | inl x ↦ absurd (known (rw (w.0, x.0) refl))
            | inr x ↦
                let there : field_end rule ≤ length bytes = omega (arith, x.1) in
                elim (leb_tells (suc (length (bytes ++ later))) (field_end rule)) [
                  | inl y ↦ absurd (omega (arith, y.1, more))
                  | inr y ↦
                      let by : first_by rule bytes (total rule bytes) ≢ More = λ h. known (rw (w.0, x.0) h) in
                      rw (w.0, x.0, y.0, total-later rule bytes later there) (first_by-later rule bytes later (total rule bytes) by)
                ]
          ]
      | inr w ↦
          elim (leb_tells rule.max (length bytes)) [
            | inl x ↦
                let long : rule.max ≤ length (bytes ++ later) = omega (arith, x.1, more) in
                grind (arith, nat_tests)
            | inr x ↦ absurd (known (rw (w.0, x.0) refl))
          ]
    ]

pub IsSteady-first_in : (rule : LengthRule) → IsSteady (first_in rule)
IsSteady-first_in rule = record { within = first_in-within rule; steady = first_in-later rule }
