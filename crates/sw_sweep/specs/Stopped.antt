-- What is said of a link that no reactor has.
use Rattle.std.specs.Prelude.{ℕ, ◌%◌, Option, Some}
use Rattle.sw_data.specs.declared.ended.Ended.{Ended}
use Rattle.sw_data.specs.declared.ended.Cause.TheVariants.{Stop}

-- its session and descriptor, and that it ended by Stop before anything came
abbrev pub unheard : ℕ → ℕ → ℕ → Ended
unheard session ip slots = record { session = Some session; fd = session % slots; ip = ip; uid = 0; dispatched = 0; split = 0; cause = Stop }
