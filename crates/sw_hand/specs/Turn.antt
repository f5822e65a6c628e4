-- A turn of a hand: from its state, what its last pipe call gave, and what its handler and its ports answer in this turn, to
-- the next state and what it asks for.
use Rattle.std.specs.Prelude.{◌≡◌}
use Rattle.sw_data.specs.declared.acts.Act.{Act}
use Rattle.sw_data.specs.declared.acts.Act.TheVariants as acts
use Rattle.sw_data.specs.declared.messages.Msg.{Msg}
use Rattle.sw_data.specs.declared.messages.Msg.TheVariants as msgs
use Rattle.sw_data.specs.declared.messages.Ask.{Ask}
use Rattle.sw_data.specs.declared.messages.Ask.TheVariants.{Finished as AskFinished}
use Rattle.sw_data.specs.declared.messages.Got.{Got}
use Rattle.sw_port_board.specs.declared.crew.Sizes.{Sizes}
use Rattle.sw_hand.specs.Ports.{Acting as Handling, Going, Looking, Binding, Calling}
use Rattle.sw_hand.specs.Hand.{unstaged}
use Rattle.sw_hand.specs.Reaching.{Reaches, TellsExist, TellsInfo, BindsOf}
use Rattle.sw_hand.specs.Posting.{Posts, Finishes}
use Rattle.sw_hand.specs.Calling.{Calls, Sums, Shuts}
use Rattle.sw_hand.specs.Leaving.{Ends, Leaves, Stops}
use Rattle.sw_hand.specs.Taking.{Sends, Idles}
use Rattle.sw_hand.specs.declared.hand.Hand.{Hand}
use Rattle.sw_hand.specs.declared.stage.Current.{Current}
use Rattle.sw_hand.specs.declared.stage.Errand.TheVariants as errands
use Rattle.sw_hand.specs.declared.stage.Stage.{Stage}
use Rattle.sw_hand.specs.declared.stage.Stage.TheVariants as stages

-- the handler's act is made
abbrev pub Makes : {H B S C L K : Type 0} → Looking B → Binding B → Calling S → Handling H → Going C → (C → Sizes) → Hand H → B → S → C → Current → Act → Hand H → B → S → C → Ask (Msg L K) → Type 0
Makes looks binds gives does goes sizes h b s d c (acts.Send u x) k f t e ask = Reaches looks does goes h b d c u errands.Send (msgs.Send u x) k f e ask × (t ≡ s)
Makes looks binds gives does goes sizes h b s d c (acts.Close u) k f t e ask = Reaches looks does goes h b d c u errands.Ask (msgs.Close u) k f e ask × (t ≡ s)
Makes looks binds gives does goes sizes h b s d c (acts.Reset u) k f t e ask = Reaches looks does goes h b d c u errands.Ask (msgs.Reset u) k f e ask × (t ≡ s)
Makes looks binds gives does goes sizes h b s d c (acts.Bind u uid) k f t e ask = BindsOf binds does goes h b d c u uid k f e ask × (t ≡ s)
Makes looks binds gives does goes sizes h b s d c (acts.Exist u) k f t e ask = TellsExist looks does goes h b d c u k f e ask × (t ≡ s)
Makes looks binds gives does goes sizes h b s d c (acts.Info u) k f t e ask = TellsInfo looks does goes h b d c u k f e ask × (t ≡ s)
Makes looks binds gives does goes sizes h b s d c (acts.Task dst x) k f t e ask = Posts does goes sizes h d c dst x k e ask × (f ≡ b) × (t ≡ s)
Makes looks binds gives does goes sizes h b s d c (acts.Finish x) k f t e ask = Finishes does goes h d c x k e ask × (f ≡ b) × (t ≡ s)
Makes looks binds gives does goes sizes h b s d c (acts.Table call) k f t e ask = Calls gives does goes h s d c call k t e ask × (f ≡ b)
Makes looks binds gives does goes sizes h b s d c (acts.Stats counter) k f t e ask = Sums does goes sizes h d c counter k e ask × (f ≡ b) × (t ≡ s)
Makes looks binds gives does goes sizes h b s d c acts.Shutdown k f t e ask = Shuts does goes h d c k e ask × (f ≡ b) × (t ≡ s)
Makes looks binds gives does goes sizes h b s d c acts.Done k f t e ask = Ends h c k ask × (f ≡ b) × (t ≡ s) × (e ≡ d)

-- a turn by the hand's stage
abbrev pub TurnsAs : {H B S C L K : Type 0} → Looking B → Binding B → Calling S → Handling H → Going C → (C → Sizes) → Stage → Hand H → B → S → C → Got (Msg L K) → Hand H → B → S → C → Ask (Msg L K) → Type 0
TurnsAs looks binds gives does goes sizes stages.Idle h b s d got k f t e ask = Idles does goes h d got k e ask × (f ≡ b) × (t ≡ s)
TurnsAs looks binds gives does goes sizes (stages.Acting c act) h b s d got k f t e ask = Makes looks binds gives does goes sizes h b s d c act k f t e ask
TurnsAs looks binds gives does goes sizes (stages.Sending c to errand) h b s d got k f t e ask = Sends does goes h d c to errand got k e ask × (f ≡ b) × (t ≡ s)
TurnsAs looks binds gives does goes sizes (stages.Leaving c to) h b s d got k f t e ask = Leaves h c to got k ask × (f ≡ b) × (t ≡ s) × (e ≡ d)
TurnsAs looks binds gives does goes sizes (stages.Stopping n) h b s d got k f t e ask = Stops h n got k ask × (f ≡ b) × (t ≡ s) × (e ≡ d)
TurnsAs looks binds gives does goes sizes stages.Finished h b s d got k f t e ask = (k ≡ record h { stage = stages.Finished }) × (ask ≡ AskFinished) × (f ≡ b) × (t ≡ s) × (e ≡ d)

-- a whole turn
abbrev pub Turns : {H B S C L K : Type 0} → Looking B → Binding B → Calling S → Handling H → Going C → (C → Sizes) → Hand H → B → S → C → Got (Msg L K) → Hand H → B → S → C → Ask (Msg L K) → Type 0
Turns looks binds gives does goes sizes h b s d got k f t e ask = TurnsAs looks binds gives does goes sizes h.stage (unstaged h) b s d got k f t e ask
