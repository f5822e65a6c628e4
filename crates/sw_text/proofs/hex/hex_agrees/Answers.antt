use Rattle.sw_text.proofs.AgreeLaw.{bytes}
use Rattle.sw_text.proofs.hex.hex_agrees.Goals as goal

pub returns : goal.returns
returns c = bytes
