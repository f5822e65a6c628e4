-- Settings without a fault cut by a framing that can cut.
use Rattle.std.proofs.Common.{◌≡◌, ℕ, ◌<◌, ◌≤◌, Bool, true, false, cond, List, length, Option, Some, None, refl, sym, true≢false, arith}
use Rattle.std.specs.Prelude.{codes, nat_le, pos, negsuc, IsSomeAnd}
use Rattle.sw_frame.specs.Cut.{IsFit}
use Rattle.sw_frame.specs.declared.framing.Framing.TheVariants.{Raw, Eof, Length}
use Rattle.sw_settings.specs.declared.pair.SetValue.{SetValue}
use Rattle.sw_settings.specs.declared.pair.SetValue.TheVariants as values
use Rattle.sw_settings.specs.declared.pair.Pair.{Pair}
use Rattle.sw_settings.specs.declared.keys.Rule.TheVariants.{Number}
use Rattle.sw_settings.specs.Keys.{rule_of}
use Rattle.sw_settings.specs.Given.{given, truth_of, natural_in, natural_or, number_of, text_of, MeetsRule}
use Rattle.sw_settings.specs.Values.{text_or_none, values_of, IsWithin}
use Rattle.sw_settings.specs.Faults.{pairs_fault, column_fault, fault_of}
use Rattle.sw_settings.specs.Framings.{length_rule, framing_of}
use Rattle.sw_settings.proofs.Sound.{or_none, sound, within, mark_is_set}

natural_fits : (v : SetValue) → MeetsRule (Some (Number 1 8388608 2097152)) v → 0 < natural_in v
natural_fits (values.Number (pos n)) s = let w = within 1 8388608 n (nat_le 1 n) (nat_le n 8388608) refl refl s.1 in omega (arith, w.0)
natural_fits (values.Number (negsuc n)) s = absurd (true≢false (sym s.1))
natural_fits (values.Truth b) s = absurd (true≢false (sym s.0))
natural_fits (values.Text t) s = absurd (true≢false (sym s.0))

longest_by : (o : Option SetValue) → ((v : SetValue) → o ≡ Some v → MeetsRule (Some (Number 1 8388608 2097152)) v) → 0 < natural_or 2097152 o
longest_by None s = omega arith
longest_by (Some v) s = natural_fits v (s v refl)

longest_fits : (ps : List Pair) → pairs_fault ps ≡ None → 0 < number_of (codes "package_max_length") ps
unfolding number_of rule_of
longest_fits ps e = longest_by (given (codes "package_max_length") ps) (λ v g. sound ps e (codes "package_max_length") v g)

mark_by : (o : Option (List ℕ)) → IsSomeAnd o (λ mark. IsWithin 1 8 (length mark)) → (0 < length (text_or_none o)) × (length (text_or_none o) ≤ 8)
mark_by None is = absurd is
mark_by (Some t) is = (is.0, is.1)

framing_by : (ps : List Pair) → pairs_fault ps ≡ None → (t u : Bool) → truth_of (codes "open_eof_split") ps ≡ t
    → IsFit (cond t (Eof (text_or_none (text_of (codes "package_eof") ps)) (number_of (codes "package_max_length") ps)) (cond u (Length (length_rule (values_of ps))) Raw))
framing_by ps e true u is = let m = mark_by (text_of (codes "package_eof") ps) (mark_is_set ps e is) in (m.0, m.1, longest_fits ps e)
framing_by ps e false true is = tt
framing_by ps e false false is = tt

no_pairs_fault : (ps : List Pair) → fault_of ps ≡ None → pairs_fault ps ≡ None
unfolding fault_of
no_pairs_fault ps e = (or_none (pairs_fault ps) (column_fault (values_of ps)) e).0

pub framing_fits : (ps : List Pair) → fault_of ps ≡ None → IsFit (framing_of (values_of ps))
unfolding framing_of values_of
framing_fits ps e = framing_by ps (no_pairs_fault ps e) (truth_of (codes "open_eof_split") ps) (truth_of (codes "open_length_check") ps) refl
