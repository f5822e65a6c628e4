-- How a stream is cut, by what is set.
use Rattle.std.specs.Prelude.{if◌then◌else◌}
use Rattle.std.specs.Option.{unwrap_or}
use Rattle.sw_frame_len.specs.declared.rule.Letter.TheVariants.{C}
use Rattle.sw_frame_len.specs.declared.rule.LengthRule.{LengthRule}
use Rattle.sw_frame.specs.declared.framing.Framing.{Framing}
use Rattle.sw_frame.specs.declared.framing.Framing.TheVariants.{Raw, Eof, Length}
use Rattle.sw_settings.specs.declared.values.Values.{Values}
use Rattle.sw_settings.specs.Values.{text_or_none}

-- how packets name their length; where it is asked for, the letter is set
abbrev pub length_rule : Values → LengthRule
length_rule v = record {
  letter = unwrap_or v.package_length_type C;
  length_offset = v.package_length_offset;
  body_offset = v.package_body_offset;
  max = v.package_max_length;
}

-- how a stream is cut: at the mark, by the length field, or piece by piece
unfoldable pub framing_of : Values → Framing
framing_of v =
    if v.open_eof_split then Eof (text_or_none v.package_eof) v.package_max_length
    else if v.open_length_check then Length (length_rule v)
    else Raw
