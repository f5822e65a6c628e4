-- What is left of a list of new links is one of new links.
use Rattle.std.proofs.Common.{ℕ}
use Rattle.std.proofs.lemmas.List.Elements.{All-drop}
use Rattle.sw_link.specs.MemoryNets.{IsNew}
use Rattle.sw_link.specs.declared.memory_link.MemoryLink.{MemoryLink}
use Rattle.sw_link.proofs.memory_net.MemoryNetNet.accept.Goals as goal

pub invariant_of-self-in-Some : goal.invariant_of-self-in-Some
invariant_of-self-in-Some c =
    let all = All-drop (λ (l : MemoryLink × ℕ). IsNew l.0) 1 c.self.inside.links.items c.self.invariant in
    rw (c.pop_front.ensures.rest) all
