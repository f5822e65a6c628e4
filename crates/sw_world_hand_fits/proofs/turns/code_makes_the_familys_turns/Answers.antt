use Rattle.sw_world_hand_fits.proofs.Goes.{hand_turn}
use Rattle.sw_world_hand_fits.proofs.turns.code_makes_the_familys_turns.Goals as goal

pub returns : goal.returns
returns g c = λ t shape limit y number s h k b f q u o r got ask p some hand there is code car fits num gnum st w. hand_turn g.H.Handler.acts t shape limit y number s h k b f q u o r got ask p some hand there is code car fits num gnum st w
