use Rattle.std.proofs.Common.{◌∙◌}
use Rattle.sw_pipe.proofs.Tallies.{opens}
use Rattle.sw_pipe.proofs.counter.Counter.new.Goals as goal

pub of_words-requires : goal.of_words-requires
of_words-requires c = opens _ _ _ (c.deref.ensures.value ∙ c.in_ok-words.ensures.items_if_clones_equal (λ y e. e))
