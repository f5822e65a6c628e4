use Rattle.sw_world_make.proofs.Sharing.{new_front}
use Rattle.sw_world_make.proofs.parts.front.Goals as goal

pub returns : goal.returns
returns c = new_front c.args.settings.now _ _ _ c.max_conn.ensures.value c.reactor_num.ensures.value c.in_ok-front.ensures.door c.in_ok-front.ensures.net c.in_ok-front.ensures.links
