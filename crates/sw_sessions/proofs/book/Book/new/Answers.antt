use Rattle.std.proofs.Common.{rules, ◌≡◌, ◌*◌, List, ℕ, [], replicate, sym, subst}
use Rattle.atomic_table.specs.Table.{opening}
use Rattle.sw_sessions.specs.Rule.{clerk, Kept}
use Rattle.sw_sessions.proofs.Ends.{opens}
use Rattle.sw_sessions.proofs.book.Book.new.Goals as goal

pub of_words-requires : goal.of_words-requires
of_words-requires c =
    let zeros : c.as_slice.result.now ≡ replicate (8 * c.args.max) 0 = search rules in
    subst (λ (l : List ℕ). Kept c.args.max (opening l [] (clerk c.args.max c.args.last [] 0))) (sym zeros) (opens c.args.max c.args.last)
