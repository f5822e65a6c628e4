-- A list of which one item is changed.
use Rattle.std.proofs.Common.{◌≡◌, ℕ, ◌<◌, List, length, slice_set, get_or, refl, sym, subst}
use Rattle.std.proofs.lemmas.Option.{slice_get_read}
use Rattle.sw_world_reactors.specs.declared.owner.Owner.{Owner}
use Rattle.sw_world_reactors.specs.Owners.{AtOwner}

pub at_owner : (P : Owner → Owner → Type 0) (inside now : List Owner) (n : ℕ) (old new : Owner) → inside ≡ now → n < length now → old ≡ get_or inside n old → P old new → AtOwner now n P (slice_set inside n new)
at_owner P inside now n old new view lt value p =
    subst (λ (xs : List Owner). AtOwner xs n P (slice_set inside n new)) view
    (old, (new, (slice_get_read inside (length inside) n old refl (subst (λ (xs : List Owner). n < length xs) (sym view) lt) value, p, refl)))
