use Rattle.std.proofs.Common.{List, ap, subst, ◌∙◌, rules}
use Rattle.std.specs.List.Sorted.{IsPermutation}
use Rattle.std.proofs.lemmas.List.Sorted.{IsNonDecreasingBy-from_sort_by_key, answers_always}
use Rattle.sw_audit.specs.Verdicts.{lines_at}
use Rattle.sw_audit.proofs.SortLaws.{stable_places}
use Rattle.sw_audit.specs.declared.trace.TraceLine.{TraceLine}
use Rattle.sw_audit.proofs.judging.by_place.Goals as goal

pub returns-clause-order : goal.returns-clause-order
returns-clause-order c = IsNonDecreasingBy-from_sort_by_key (λ (e : TraceLine). e.at) _ c.in_ok-sort_by_key.ensures.sorted (λ a r q k. search rules)

pub returns-clause-same : goal.returns-clause-same
returns-clause-same c = subst (λ (xs : List TraceLine). IsPermutation xs c.sort_by_key.new.self.items) c.into_vec-lines.ensures c.sort_by_key.ensures.permutation

pub returns-clause-stable : goal.returns-clause-stable
returns-clause-stable c = λ at.
    stable_places c.into_vec-lines.result.items c.sort_by_key.new.self.items (c.sort_by_key.ensures.stable (λ (e : TraceLine). e.at) (answers_always _ _ _ (λ f a r g h. search rules))) at
    ∙ ap (λ (xs : List TraceLine). lines_at xs at) c.into_vec-lines.ensures
