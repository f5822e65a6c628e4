use Rattle.std.proofs.Common.{◌≡◌}
use Rattle.std.specs.Option.{option_copied}
use Rattle.sw_settings.specs.Given.{given}
use Rattle.sw_settings.proofs.Sound.{sound_seen}
use Rattle.sw_settings.proofs.given.sound.Goals as goal

pub returns-clause-sound : goal.returns-clause-sound
returns-clause-sound c =
    let is : option_copied c.given.result ≡ given c.args.name.now c.args.pairs.now = rw c.as_bytes.ensures.value at c.given.ensures in
    sound_seen c.args.pairs.now c.args.name.now c.given.result c.requires is
