-- What a hand does with a message, and with what its push came to.
use Rattle.std.specs.Prelude.{◌≡◌, ℕ, ◌+◌, ◌-◌, nat_lt, Bool, true, false, if◌then◌else◌, [], ◌∷◌}
use Rattle.sw_data.specs.declared.acts.Act.{Act}
use Rattle.sw_data.specs.declared.answers.Answer.TheVariants.{TaskFull}
use Rattle.sw_data.specs.declared.events.Event.{Event}
use Rattle.sw_data.specs.declared.given.Given.TheVariants.{Event as EventGiven}
use Rattle.sw_data.specs.declared.messages.Msg.{Msg}
use Rattle.sw_data.specs.declared.messages.Msg.TheVariants as msgs
use Rattle.sw_data.specs.declared.messages.Target.{Target}
use Rattle.sw_data.specs.declared.messages.Ask.{Ask}
use Rattle.sw_data.specs.declared.messages.Ask.TheVariants.{Rest, Nothing as AskNothing}
use Rattle.sw_data.specs.declared.messages.Got.{Got}
use Rattle.sw_data.specs.declared.messages.Got.TheVariants as gots
use Rattle.sw_port_board.specs.declared.board.BoardStep.TheVariants.{Marked}
use Rattle.sw_hand.specs.Ports.{Acting as Handling, Going}
use Rattle.sw_hand.specs.House.{enders}
use Rattle.sw_hand.specs.Hand.{own_with}
use Rattle.sw_hand.specs.Stage.{current_of, is_for, answer_of, counter_of}
use Rattle.sw_hand.specs.Hearing.{Hears, Counts}
use Rattle.sw_hand.specs.Asking.{Asks, Answers, Waits}
use Rattle.sw_hand.specs.Leaving.{GoesOn}
use Rattle.sw_hand.specs.declared.hand.Hand.{Hand}
use Rattle.sw_hand.specs.declared.stage.Current.{Current}
use Rattle.sw_hand.specs.declared.stage.Errand.{Errand}
use Rattle.sw_hand.specs.declared.stage.Errand.TheVariants as errands
use Rattle.sw_hand.specs.declared.stage.Stage.TheVariants.{Idle, Acting, Sending}

-- a task that is pushed is out, and its id is used
abbrev pub noted : {H : Type 0} → Errand → Hand H → Hand H
noted errands.Send h = h
noted errands.Ask h = h
noted errands.Post h = record h { next = h.next + 1; out = h.out + 1 }
noted errands.Finish h = h

-- the push for an act is made: it is counted, and the handler is given the answer
abbrev pub Settles : {H C L K : Type 0} → Handling H → Going C → Hand H → C → Current → Errand → Hand H → C → Ask (Msg L K) → Type 0
Settles acts goes h b c errand k d ask = Counts acts goes (counter_of errand) (noted errand h) b c (answer_of h.next errand) k d × (ask ≡ AskNothing)

-- it found the pipe full: it is asked for again, but a task has its answer
abbrev pub Returns : {H C L K : Type 0} → Handling H → Going C → Hand H → C → Current → Target → Errand → Msg L K → Hand H → C → Ask (Msg L K) → Type 0
Returns acts goes h b c to errands.Send m k d ask = Asks h c to errands.Send m k ask × (d ≡ b)
Returns acts goes h b c to errands.Ask m k d ask = Asks h c to errands.Ask m k ask × (d ≡ b)
Returns acts goes h b c to errands.Post m k d ask = Answers acts goes h b c TaskFull k d ask
Returns acts goes h b c to errands.Finish m k d ask = Asks h c to errands.Finish m k ask × (d ≡ b)

abbrev pub Sends : {H C L K : Type 0} → Handling H → Going C → Hand H → C → Current → Target → Errand → Got (Msg L K) → Hand H → C → Ask (Msg L K) → Type 0
Sends acts goes h b c to errand gots.Pushed k d ask = Settles acts goes h b c errand k d ask
Sends acts goes h b c to errand (gots.Full m) k d ask = Returns acts goes h b c to errand m k d ask
Sends acts goes h b c to errand gots.Start k d ask = Waits h (Sending c to errand) k ask × (d ≡ b)
Sends acts goes h b c to errand (gots.Took m) k d ask = Waits h (Sending c to errand) k ask × (d ≡ b)
Sends acts goes h b c to errand gots.Empty k d ask = Waits h (Sending c to errand) k ask × (d ≡ b)
Sends acts goes h b c to errand gots.Nothing k d ask = Waits h (Sending c to errand) k ask × (d ≡ b)

-- an event that was taken: the hand is busy, a Connect's session is its own, and its handler is given the event
abbrev pub Gives : {H C L K : Type 0} → Handling H → Going C → Hand H → C → Current → Event → Hand H → C → Ask (Msg L K) → Type 0
Gives {H} {C} acts goes h b c e k d ask =
    (mid : C) × ((act : Act) × ((l : Hand H) × (goes b (Marked false ∷ []) mid
    × Hears acts goes (record h { own = own_with h.house h.own c }) mid (EventGiven e) act l d
    × (k ≡ record l { stage = Acting c act }) × (ask ≡ AskNothing))))

-- an event that isn't for this hand is dropped
abbrev pub TakesEvent : {H C L K : Type 0} → Bool → Handling H → Going C → Hand H → C → Event → Hand H → C → Ask (Msg L K) → Type 0
TakesEvent true acts goes h b e k d ask = Gives acts goes h b (current_of e) e k d ask
TakesEvent false acts goes h b e k d ask = GoesOn h k ask × (d ≡ b)

-- the NoMore that came, up to all that come
abbrev pub ended_more : ℕ → ℕ → ℕ
ended_more all n = if nat_lt n all then n + 1 else n

-- a message that was taken: an event is given to the handler, Over and NoMore are counted, and all else is dropped
abbrev pub Takes : {H C L K : Type 0} → Handling H → Going C → Hand H → C → Msg L K → Hand H → C → Ask (Msg L K) → Type 0
Takes acts goes h b (msgs.Event e) k d ask = TakesEvent (is_for h.kind (current_of e)) acts goes h b e k d ask
Takes acts goes h b (msgs.Over id) k d ask = GoesOn (record h { out = h.out - 1 }) k ask × (d ≡ b)
Takes acts goes h b msgs.NoMore k d ask = GoesOn (record h { ended = ended_more (enders h.house h.kind) h.ended }) k ask × (d ≡ b)
Takes acts goes h b (msgs.Fresh link ip ticket) k d ask = GoesOn h k ask × (d ≡ b)
Takes acts goes h b (msgs.Send s bytes) k d ask = GoesOn h k ask × (d ≡ b)
Takes acts goes h b (msgs.Close s) k d ask = GoesOn h k ask × (d ≡ b)
Takes acts goes h b (msgs.Reset s) k d ask = GoesOn h k ask × (d ≡ b)
Takes acts goes h b (msgs.Bye s) k d ask = GoesOn h k ask × (d ≡ b)

-- a turn without an event
abbrev pub Idles : {H C L K : Type 0} → Handling H → Going C → Hand H → C → Got (Msg L K) → Hand H → C → Ask (Msg L K) → Type 0
Idles acts goes h b (gots.Took m) k d ask = Takes acts goes h b m k d ask
Idles acts goes h b gots.Empty k d ask = (k ≡ record h { stage = Idle }) × goes b (Marked true ∷ []) d × (ask ≡ Rest)
Idles acts goes h b gots.Start k d ask = GoesOn h k ask × (d ≡ b)
Idles acts goes h b gots.Pushed k d ask = GoesOn h k ask × (d ≡ b)
Idles acts goes h b (gots.Full m) k d ask = GoesOn h k ask × (d ≡ b)
Idles acts goes h b gots.Nothing k d ask = GoesOn h k ask × (d ≡ b)
