-- Steps that are taken from the end of a reversed list.
use Rattle.std.proofs.Common.{◌≡◌, List, [], ◌∷◌, ◌++◌, reverse, refl, ap}
use Rattle.std.proofs.lemmas.List.{reverse-append}
use Rattle.sw_link.specs.declared.memory_link.MemoryLink.{MemoryLink}
use Rattle.sw_link.specs.declared.memory_link.LinkStep.{LinkStep}
use Rattle.sw_link.specs.Memory.{added}
use Rattle.sw_world_whole.specs.Scripts.{fed}

pub from_last : (xs : List LinkStep) (x : LinkStep) (l : MemoryLink) → fed (reverse (xs ++ x ∷ [])) l ≡ fed (reverse xs) (added x l)
from_last xs x l = ap (λ (ss : List LinkStep). fed ss l) (reverse-append xs (x ∷ []))
