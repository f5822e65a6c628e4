-- What comes first in bytes that name the length of each packet in a field of the packet.
use Rattle.std.specs.Prelude.{◌≡◌, ℕ, ◌+◌, ◌<◌, ◌≤◌, ◌⊎◌, nat_lt, nat_le, ◌||◌, if◌then◌else◌, List, length, take, drop, slice_index}
use Rattle.std.specs.Int.{w16, w32, from_be_bytes, from_le_bytes}
use Rattle.sw_cut.specs.declared.First.{First}
use Rattle.sw_cut.specs.declared.First.TheVariants.{Packet, More, TooLong, BadLength}
use Rattle.sw_frame_len.specs.declared.rule.Letter.{Letter}
use Rattle.sw_frame_len.specs.declared.rule.Letter.TheVariants.{C, SmallN, BigN, SmallV, BigV}
use Rattle.sw_frame_len.specs.declared.rule.LengthRule.{LengthRule}

-- the bytes that a field of this letter takes
abbrev pub width : Letter → ℕ
width C = 1
width SmallN = 2
width BigN = 4
width SmallV = 2
width BigV = 4

-- the number in such a field
abbrev pub number : Letter → List ℕ → ℕ
number C field = slice_index field 0
number SmallN field = from_be_bytes w16 field
number BigN field = from_be_bytes w32 field
number SmallV field = from_le_bytes w16 field
number BigV field = from_le_bytes w32 field

-- the place behind the field
abbrev pub field_end : LengthRule → ℕ
field_end rule = rule.length_offset + width rule.letter

-- the length of the packet at the front of the bytes, by its field
abbrev pub total : LengthRule → List ℕ → ℕ
total rule bytes = rule.body_offset + number rule.letter (take (width rule.letter) (drop rule.length_offset bytes))

-- what comes first where the field is there and names this length
abbrev pub first_by : LengthRule → List ℕ → ℕ → First
first_by rule bytes n =
    if nat_lt n (field_end rule) || nat_lt n rule.body_offset then BadLength n
    else if nat_lt rule.max n then TooLong n
    else if nat_le n (length bytes) then Packet n
    else More

-- what comes first: IsFirst says what it is, row by row
unfoldable pub first_in : LengthRule → List ℕ → First
first_in rule bytes =
    if nat_le (field_end rule) rule.max
    then (if nat_lt (length bytes) (field_end rule) then More else first_by rule bytes (total rule bytes))
    else (if nat_le rule.max (length bytes) then TooLong rule.max else More)

-- the whole field is there, and can be within a packet
pub record HasField (rule : LengthRule) (bytes : List ℕ) : Type 0 where
  pub allowed : field_end rule ≤ rule.max
  pub there : field_end rule ≤ length bytes

-- the length that the field names leaves room for what counts always
pub record IsRoomy (rule : LengthRule) (n : ℕ) : Type 0 where
  pub field : field_end rule ≤ n
  pub body : rule.body_offset ≤ n

-- what comes first, row by row
pub record IsFirst (rule : LengthRule) (bytes : List ℕ) (first : First) : Type 0 where
  pub no_field : field_end rule ≤ rule.max → length bytes < field_end rule → first ≡ More
  pub bad_length : HasField rule bytes → (total rule bytes < field_end rule) ⊎ (total rule bytes < rule.body_offset) → first ≡ BadLength (total rule bytes)
  pub too_long : HasField rule bytes → IsRoomy rule (total rule bytes) → rule.max < total rule bytes → first ≡ TooLong (total rule bytes)
  pub packet : HasField rule bytes → IsRoomy rule (total rule bytes) → total rule bytes ≤ rule.max → total rule bytes ≤ length bytes → first ≡ Packet (total rule bytes)
  pub more : HasField rule bytes → IsRoomy rule (total rule bytes) → total rule bytes ≤ rule.max → length bytes < total rule bytes → first ≡ More
  pub far_field : rule.max < field_end rule → rule.max ≤ length bytes → first ≡ TooLong rule.max
  pub far_more : rule.max < field_end rule → length bytes < rule.max → first ≡ More
