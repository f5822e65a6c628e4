use Rattle.sw_world_stands.proofs.Starts.{asked_stand}
use Rattle.sw_world_stands.proofs.pipes.asked_calls_stand.Goals as goal

pub returns : goal.returns
returns c = λ t r s nexts pipes y n ask here new h at. asked_stand t r s nexts pipes y n ask here new h at
