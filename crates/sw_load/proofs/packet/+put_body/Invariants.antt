use Rattle.sw_load.proofs.packet.+put_body.Given as goal

abbrev pub decreases-put_body : goal.decreases-put_body
decreases-put_body l = l.len
