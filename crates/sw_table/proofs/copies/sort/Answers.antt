use Rattle.std.proofs.Common.{refl, rules}
use Rattle.std.specs.Ordering.{nat_cmp, is_lt}
use Rattle.std.specs.Cmp.Lexicographic.{slice_cmp, nat_list_cmp_total}
use Rattle.std.proofs.lemmas.List.Sorted.{ranks_by, answers_always}
use Rattle.sw_tmodel.specs.declared.dump_row.DumpRow.{DumpRow}
use Rattle.sw_table.proofs.copies.sort.Goals as goal

pub returns-clause-order : goal.returns-clause-order
returns-clause-order c = c.sort_unstable_by.ensures.sorted (λ (a b : DumpRow). is_lt (slice_cmp nat_cmp a.key b.key)) (ranks_by nat_list_cmp_total (λ (r : DumpRow). r.key)) (answers_always _ _ _ (λ f a r g h. search rules))
