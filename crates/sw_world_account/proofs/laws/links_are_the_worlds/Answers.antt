use Rattle.sw_world_account.proofs.laws.links_are_the_worlds.Goals as goal
use Rattle.sw_world_account.proofs.Links.{links_are}

pub returns : goal.returns
returns c = links_are
