-- What holds of pairs without a fault.
use Rattle.std.proofs.Common.{◌≡◌, ℕ, ◌≤◌, Bool, true, false, cond, not, ◌&&◌, List, [], ◌∷◌, length, Option, Some, None, refl, sym, subst, true≢false}
use Rattle.std.specs.Prelude.{IfSome, IsSomeAnd, codes, is_none, nat_le}
use Rattle.std.specs.Option.{option_map, option_or, option_copied}
use Rattle.std.specs.Borrow.{Bor}
use Rattle.std.specs.Str.{bytes_eq}
use Rattle.std.proofs.lemmas.Bool.{leb-true}
use Rattle.std.proofs.lemmas.Slice.Eq.{bytes_eq-Decides}
use Rattle.sw_settings.specs.declared.pair.SetValue.{SetValue}
use Rattle.sw_settings.specs.declared.pair.SetValue.TheVariants as values
use Rattle.sw_settings.specs.declared.pair.Pair.{Pair}
use Rattle.sw_settings.specs.declared.checks.Check.{Check}
use Rattle.sw_settings.specs.declared.checks.Check.TheVariants as checks
use Rattle.sw_settings.specs.declared.keys.Rule.{Rule}
use Rattle.sw_settings.specs.declared.faults.SettingsFault.{SettingsFault}
use Rattle.sw_settings.specs.declared.faults.SettingsFault.TheVariants.{BadType, Missing}
use Rattle.sw_settings.specs.Keys.{rule_of}
use Rattle.sw_settings.specs.Checks.{fails, fails_by, earlier, first_behind, first_key}
use Rattle.sw_settings.specs.Given.{given, truth_of, number_of, keeps, keeps_set, text_or, text_of, MeetsRule}
use Rattle.sw_settings.specs.Values.{IsWithin}
use Rattle.sw_settings.specs.Faults.{unknown_fault, type_fault, out_of_range, range_fault, missing_fault, conflict_fault, from_missing, from_range, from_type, pairs_fault}

-- ---- pairs without a fault have none of any kind

pub or_none : {A : Type 0} (a b : Option A) → option_or a b ≡ None → (a ≡ None) × (b ≡ None)
or_none None b e = (refl, e)
or_none (Some x) b e = absurd cc

map_none : {A B : Type 0} (f : A → B) (o : Option A) → option_map f o ≡ None → o ≡ None
map_none f None e = refl
map_none f (Some x) e = absurd cc

record NoFault (ps : List Pair) : Type 0 where
  pub kind : type_fault ps ≡ None
  pub range : range_fault ps ≡ None
  pub missing : missing_fault ps ≡ None
  pub conflict : conflict_fault ps ≡ None

no_fault : (ps : List Pair) → pairs_fault ps ≡ None → NoFault ps
no_fault ps e =
    let first = or_none (unknown_fault ps) (from_type ps) e in
    let second = or_none (type_fault ps) (from_range ps) first.1 in
    let third = or_none (range_fault ps) (from_missing ps) second.1 in
    let fourth = or_none (missing_fault ps) (conflict_fault ps) third.1 in
    record { kind = second.0; range = third.0; missing = fourth.0; conflict = fourth.1 }

no_kind : (ps : List Pair) → type_fault ps ≡ None → first_key checks.Kind ps ≡ None
unfolding type_fault
no_kind ps e = map_none BadType (first_key checks.Kind ps) e

no_range : (ps : List Pair) → range_fault ps ≡ None → first_key checks.Range ps ≡ None
unfolding range_fault
no_range ps e = map_none out_of_range (first_key checks.Range ps) e

-- ---- what a check that refuses no pair says of the values that pairs give

-- a key that was found isn't lost
stays : (check : Check) (x y : List ℕ) (t : Bool) (ps : List Pair) → first_behind check (cond t (Some x) (Some y)) ps ≡ None → ⊥
unfolding first_behind
stays check x y true [] e = cc
stays check x y false [] e = cc
stays check x y true (p ∷ ps) e = stays check (earlier x p.name) x (fails check p) ps e
stays check x y false (p ∷ ps) e = stays check (earlier y p.name) y (fails check p) ps e

-- the check refuses a key with this value
abbrev refuses : Check → List ℕ → SetValue → Bool
refuses check name v = fails_by check (rule_of name) (record { name = name; value = v })

passes : (check : Check) (p : Pair) (name : List ℕ) (v : SetValue) → fails check p ≡ false → p.name ≡ name → p.value ≡ v → refuses check name v ≡ false
unfolding fails
passes check p name v e same is =
    let one : refuses check name p.value ≡ false = subst (λ (n : List ℕ). refuses check n p.value ≡ false) same e in
    subst (λ (w : SetValue). refuses check name w ≡ false) is one

none_step : (check : Check) (p : Pair) (ps : List Pair) (name : List ℕ) (v : SetValue) (t s : Bool) → fails check p ≡ t → bytes_eq p.name name ≡ s → first_behind check (cond t (Some p.name) None) ps ≡ None → cond s (Some p.value) (given name ps) ≡ Some v
    → (first_behind check None ps ≡ None → given name ps ≡ Some v → refuses check name v ≡ false) → refuses check name v ≡ false
none_step check p ps name v true s test same e g ih = absurd (stays check p.name p.name true ps e)
none_step check p ps name v false false test same e g ih = ih e g
none_step check p ps name v false true test same e g ih = passes check p name v test ((bytes_eq-Decides p.name name).0 same) cc

none_fails : (check : Check) (ps : List Pair) (name : List ℕ) (v : SetValue) → first_key check ps ≡ None → given name ps ≡ Some v → refuses check name v ≡ false
unfolding first_behind given
none_fails check [] name v e g = absurd cc
none_fails check (p ∷ ps) name v e g = none_step check p ps name v (fails check p) (bytes_eq p.name name) refl refl e g (none_fails check ps name v)

not_false : (b : Bool) → not b ≡ false → b ≡ true
not_false true e = refl
not_false false e = absurd (true≢false e)

sound_by : (r : Option Rule) (p : Pair) → fails_by checks.Kind r p ≡ false → fails_by checks.Range r p ≡ false → MeetsRule r p.value
sound_by None p k r = tt
sound_by (Some rule) p k r = (not_false _ k, not_false _ r)

pub sound : (ps : List Pair) → pairs_fault ps ≡ None → (name : List ℕ) (v : SetValue) → given name ps ≡ Some v → MeetsRule (rule_of name) v
sound ps e name v g =
    let free = no_fault ps e in
    sound_by (rule_of name) (record { name = name; value = v }) (none_fails checks.Kind ps name v (no_kind ps free.kind) g) (none_fails checks.Range ps name v (no_range ps free.range) g)

-- the value that pairs without a fault give to a key is of its kind and in its range
pub sound_seen : (ps : List Pair) (name : List ℕ) (r : Option (Bor SetValue)) → pairs_fault ps ≡ None → option_copied r ≡ given name ps → IfSome r (λ v. MeetsRule (rule_of name) v.now)
sound_seen ps name None e is = tt
sound_seen ps name (Some v) e is = sound ps e name v.now (sym is)

-- ---- the mark

missing_by : (t : Bool) (o : Option (List ℕ)) (f : SettingsFault) (rest : Option SettingsFault) → t ≡ true → o ≡ None → cond (t && is_none o) (Some f) rest ≡ None → ⊥
missing_by true None f rest a b e = cc
missing_by true (Some x) f rest a b e = cc
missing_by false o f rest a b e = cc

-- it is set where packets end at one
marked : (ps : List Pair) → pairs_fault ps ≡ None → truth_of (codes "open_eof_split") ps ≡ true → text_of (codes "package_eof") ps ≡ None → ⊥
unfolding missing_fault
marked ps e split unset = missing_by (truth_of (codes "open_eof_split") ps) (text_of (codes "package_eof") ps) (Missing (codes "package_eof")) _ split unset (no_fault ps e).missing

text_given : (o : Option SetValue) (t : List ℕ) → text_or o ≡ Some t → o ≡ Some (values.Text t)
text_given None t e = absurd cc
text_given (Some (values.Number n)) t e = absurd cc
text_given (Some (values.Truth b)) t e = absurd cc
text_given (Some (values.Text u)) t e = cc

pub within : (least most n : ℕ) (a b : Bool) → nat_le least n ≡ a → nat_le n most ≡ b → (a && b) ≡ true → (least ≤ n) × (n ≤ most)
within least most n true true p q e = (leb-true least n p, leb-true n most q)
within least most n true false p q e = absurd (true≢false (sym e))
within least most n false b p q e = absurd (true≢false (sym e))

-- it has 1 to 8 bytes
mark_fits : (ps : List Pair) → pairs_fault ps ≡ None → (t : List ℕ) → text_of (codes "package_eof") ps ≡ Some t → IsWithin 1 8 (length t)
unfolding text_of rule_of
mark_fits ps e t is =
    let found : given (codes "package_eof") ps ≡ Some (values.Text t) = text_given (given (codes "package_eof") ps) t is in
    let s = sound ps e (codes "package_eof") (values.Text t) found in
    within 1 8 (length t) (nat_le 1 (length t)) (nat_le (length t) 8) refl refl s.1

set_by : (ps : List Pair) → pairs_fault ps ≡ None → truth_of (codes "open_eof_split") ps ≡ true → (o : Option (List ℕ)) → text_of (codes "package_eof") ps ≡ o → IsSomeAnd o (λ mark. IsWithin 1 8 (length mark))
set_by ps e split None is = absurd (marked ps e split is)
set_by ps e split (Some t) is = mark_fits ps e t is

-- where packets end at a mark, there is one, and it has 1 to 8 bytes
pub mark_is_set : (ps : List Pair) → pairs_fault ps ≡ None → truth_of (codes "open_eof_split") ps ≡ true → IsSomeAnd (text_of (codes "package_eof") ps) (λ mark. IsWithin 1 8 (length mark))
mark_is_set ps e split = set_by ps e split (text_of (codes "package_eof") ps) refl

-- ---- whole requests

record IsFree (http kept split check : Bool) : Type 0 where
  pub kept_is : kept ≡ true
  pub split_is : split ≡ false
  pub check_is : check ≡ false

free_by : (http kept split check : Bool) (a b c d : SettingsFault) → http ≡ true
    → cond (http && not kept) (Some a) (cond (split && http) (Some b) (cond (split && check) (Some c) (cond (http && check) (Some d) None))) ≡ None → IsFree http kept split check
free_by false kept split check a b c d is e = absurd (true≢false (sym is))
free_by true false split check a b c d is e = cc
free_by true true true check a b c d is e = cc
free_by true true false true a b c d is e = cc
free_by true true false false a b c d is e = record { kept_is = refl; split_is = refl; check_is = refl }

-- what holds where they are given
pub record IsHttpFit (ps : List Pair) : Type 0 where
  pub kept : keeps (number_of (codes "dispatch_mode") ps) ≡ true
  pub unmarked : truth_of (codes "open_eof_split") ps ≡ false
  pub uncounted : truth_of (codes "open_length_check") ps ≡ false

-- whole requests are given only where they may be
pub http_fits : (ps : List Pair) → pairs_fault ps ≡ None → truth_of (codes "open_http_protocol") ps ≡ true → IsHttpFit ps
unfolding conflict_fault keeps_set
http_fits ps e http =
    let free = free_by (truth_of (codes "open_http_protocol") ps) (keeps_set ps) (truth_of (codes "open_eof_split") ps) (truth_of (codes "open_length_check") ps) _ _ _ _ http (no_fault ps e).conflict in
    record { kept = free.kept_is; unmarked = free.split_is; uncounted = free.check_is }
