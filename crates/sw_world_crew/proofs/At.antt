-- A list of which one item is changed.
use Rattle.std.proofs.Common.{◌≡◌, ℕ, ◌<◌, List, length, slice_set, get_or, refl, sym, subst}
use Rattle.std.proofs.lemmas.Option.{slice_get_read}
use Rattle.sw_hand.specs.declared.hand.Hand.{Hand}
use Rattle.sw_world_crew.specs.Hands.{AtHand}

pub at_hand : {H : Type 0} (P : Hand H → Hand H → Type 0) (inside now : List (Hand H)) (n : ℕ) (old new : Hand H) → inside ≡ now → n < length now → old ≡ get_or inside n old → P old new → AtHand now n P (slice_set inside n new)
at_hand {H} P inside now n old new view lt value p =
    subst (λ (xs : List (Hand H)). AtHand xs n P (slice_set inside n new)) view
    (old, (new, (slice_get_read inside (length inside) n old refl (subst (λ (xs : List (Hand H)). n < length xs) (sym view) lt) value, p, refl)))
