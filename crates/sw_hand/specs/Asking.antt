-- What a turn asks for: a push for an act, or nothing behind an answer.
use Rattle.std.specs.Prelude.{◌≡◌}
use Rattle.sw_data.specs.declared.answers.Answer.{Answer}
use Rattle.sw_data.specs.declared.messages.Msg.{Msg}
use Rattle.sw_data.specs.declared.messages.Target.{Target}
use Rattle.sw_data.specs.declared.messages.Ask.{Ask}
use Rattle.sw_data.specs.declared.messages.Ask.TheVariants.{Push, Nothing as AskNothing}
use Rattle.sw_hand.specs.Ports.{Acting as Handling, Going}
use Rattle.sw_hand.specs.Hearing.{AtOnce}
use Rattle.sw_hand.specs.declared.hand.Hand.{Hand}
use Rattle.sw_hand.specs.declared.stage.Current.{Current}
use Rattle.sw_hand.specs.declared.stage.Errand.{Errand}
use Rattle.sw_hand.specs.declared.stage.Stage.{Stage}
use Rattle.sw_hand.specs.declared.stage.Stage.TheVariants.{Sending}

-- a push is asked for; what it is for is kept until it is made
abbrev pub Asks : {H L K : Type 0} → Hand H → Current → Target → Errand → Msg L K → Hand H → Ask (Msg L K) → Type 0
Asks h c to errand m k ask = (k ≡ record h { stage = Sending c to errand }) × (ask ≡ Push to m)

-- the answer is given at once, and nothing is asked for
abbrev pub Answers : {H C L K : Type 0} → Handling H → Going C → Hand H → C → Current → Answer → Hand H → C → Ask (Msg L K) → Type 0
Answers acts goes h b c a k d ask = AtOnce acts goes h b c a k d × (ask ≡ AskNothing)

-- a pipe call that gave what was not asked for changes nothing: the hand waits on
abbrev pub Waits : {H L K : Type 0} → Hand H → Stage → Hand H → Ask (Msg L K) → Type 0
Waits h stage k ask = (k ≡ record h { stage = stage }) × (ask ≡ AskNothing)
