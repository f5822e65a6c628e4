use Rattle.std.proofs.Common.{length, ◌+◌, ◌*◌}
use Rattle.sw_serve_words.proofs.load.+load_words.Given as goal

abbrev pub decreases-load_named : goal.decreases-load_named
decreases-load_named l = 2 * length l.others.now + 1

abbrev pub decreases-load_from : goal.decreases-load_from
decreases-load_from l = 2 * length l.others.now

abbrev pub decreases-load_more : goal.decreases-load_more
decreases-load_more l = 2 * length l.others.now + 1
