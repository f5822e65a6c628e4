use Rattle.std.proofs.Common.{◌≡◌, [], List, ℕ, replicate, sym, subst, rules}
use Rattle.atomic_table.specs.Table.{opening}
use Rattle.sw_board.specs.Rule.{dealer, Kept, words_of}
use Rattle.sw_board.proofs.Ends.{opens}
use Rattle.sw_board.proofs.words.Words.new.Goals as goal

pub of_words-requires : goal.of_words-requires
of_words-requires c =
    let zeros : c.as_slice.result.now ≡ replicate (words_of c.args.sizes.actors) 0 = search rules in
    subst (λ (l : List ℕ). Kept c.args.sizes.actors (opening l [] (dealer 0 c.args.sizes.actors))) (sym zeros) (opens c.args.sizes.actors)
