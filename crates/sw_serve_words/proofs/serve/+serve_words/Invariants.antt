use Rattle.std.proofs.Common.{length, ◌+◌, ◌*◌}
use Rattle.sw_serve_words.proofs.serve.+serve_words.Given as goal

abbrev pub decreases-serve_named : goal.decreases-serve_named
decreases-serve_named l = 2 * length l.others.now + 1

abbrev pub decreases-serve_from : goal.decreases-serve_from
decreases-serve_from l = 2 * length l.others.now

abbrev pub decreases-serve_more : goal.decreases-serve_more
decreases-serve_more l = 2 * length l.others.now + 1
