use Rattle.std.proofs.Common.{◌≡◌, ◌<◌, drop}
use Rattle.std.specs.Prelude.{◌^◌}
use Rattle.std.specs.List.{list_all}
use Rattle.std.specs.Char.{is_ascii_digit}
use Rattle.sw_http.specs.Body.{number_after}
use Rattle.sw_http.proofs.body.length_of.Given as goal

-- the digits so far, and those that are left
abbrev pub invariant-loop-byte : goal.invariant-loop-byte
invariant-loop-byte l = record {
  number : number_after l.n (drop l.byte-index l.text) ≡ number_after 0 l.text;
  digits : list_all is_ascii_digit (drop l.byte-index l.text) ≡ list_all is_ascii_digit l.text;
  small : l.n < 10 ^ l.byte-index;
}
