use Rattle.std.proofs.Common.{rules, ◌<◌, length}
use Rattle.sw_pipe.proofs.Gathers.{missing}
use Rattle.sw_pipe.proofs.closing.close.Goals as goal

pub returns-then-len-deref-clause-missing : goal.returns-then-len-deref-clause-missing
returns-then-len-deref-clause-missing g c = let few : length c.args.senders.items < c.args.taker.pipe.senders = search rules in missing _ _ few
