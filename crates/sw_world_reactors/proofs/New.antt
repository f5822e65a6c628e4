-- One reactor more before its first turn.
use Rattle.std.proofs.Common.{◌≡◌, ℕ, ◌+◌, List, [], ◌∷◌, ◌++◌, ap, ◌∙◌, sym, subst}
use Rattle.std.proofs.lemmas.List.{length_push}
use Rattle.std.proofs.lemmas.List.Elements.{All-push}
use Rattle.sw_conn.specs.declared.terms.Terms.{Terms}
use Rattle.sw_frame.specs.declared.framing.Framing.{Framing}
use Rattle.sw_world_reactors.specs.declared.owner.Owner.{Owner}
use Rattle.sw_world_reactors.specs.Owners.{IsNew, AreNew}

pub one_more : (terms : Terms) (framing : Framing) (read_size count : ℕ) (all more : List Owner) (o : Owner) → AreNew terms framing read_size count all → IsNew terms framing read_size o → more ≡ all ++ o ∷ [] → AreNew terms framing read_size (count + 1) more
one_more terms framing read_size count all more o h n e =
    subst (λ (xs : List Owner). AreNew terms framing read_size (count + 1) xs) (sym e)
    (length_push all o ∙ ap (λ (k : ℕ). k + 1) h.0, All-push (IsNew terms framing read_size) all o h.1 n)
