use Rattle.std.proofs.Common.{rules}
use Rattle.sw_set_lines.proofs.NameLaw.{no_names}
use Rattle.sw_set_lines.proofs.pairs.Pairs.new.Goals as goal

pub invariant_of-result : goal.invariant_of-result
invariant_of-result c = no_names c.new-2.result.keys c.new.result.items c.new-2.ensures.empty (search rules)
