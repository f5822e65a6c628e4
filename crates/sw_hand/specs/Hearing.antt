-- What a handler is given, and what becomes of its act.
use Rattle.std.specs.Prelude.{◌≡◌, ◌⊎◌, Bool, true, false, [], ◌∷◌, Option, Some, None}
use Rattle.sw_base.specs.declared.counter.Counter.{Counter}
use Rattle.sw_data.specs.declared.acts.Act.{Act}
use Rattle.sw_data.specs.declared.acts.Act.TheVariants.{Done}
use Rattle.sw_data.specs.declared.answers.Answer.{Answer}
use Rattle.sw_data.specs.declared.given.Given.{Given}
use Rattle.sw_data.specs.declared.given.Given.TheVariants.{Answer as AnswerGiven}
use Rattle.sw_port_board.specs.declared.board.BoardStep.TheVariants.{Stopped, Added}
use Rattle.sw_hand.specs.Ports.{Acting as Handling, Going}
use Rattle.sw_hand.specs.declared.hand.Hand.{Hand}
use Rattle.sw_hand.specs.declared.stage.Current.{Current}
use Rattle.sw_hand.specs.declared.stage.Stage.TheVariants.{Acting}

-- memory ran out: the hand is lost, and the stop word is set
abbrev pub Fails : {H C : Type 0} → Going C → Hand H → C → Hand H → C → Type 0
Fails goes h b k d = (k ≡ record h { handler = k.handler; lost = true }) × goes b (Stopped ∷ []) d

-- the handler was given this and acted so
abbrev pub Speaks : {H C : Type 0} → Handling H → Hand H → C → Given → Act → Hand H → C → Type 0
Speaks acts h b g act k d = acts h.handler g act k.handler × (k ≡ record h { handler = k.handler }) × (d ≡ b)

-- a hand that is lost does nothing more about its events; else its handler acts, or finds no memory, and the act is Done
abbrev pub HearsAs : {H C : Type 0} → Handling H → Going C → Bool → Hand H → C → Given → Act → Hand H → C → Type 0
HearsAs acts goes true h b g act k d = (act ≡ Done) × (k ≡ h) × (d ≡ b)
HearsAs acts goes false h b g act k d = Speaks acts h b g act k d ⊎ ((act ≡ Done) × Fails goes h b k d)

abbrev pub Hears : {H C : Type 0} → Handling H → Going C → Hand H → C → Given → Act → Hand H → C → Type 0
Hears acts goes h b g act k d = HearsAs acts goes h.lost h b g act k d

-- an answer that is known at once is given in the same turn, and the next act is kept
abbrev pub AtOnce : {H C : Type 0} → Handling H → Going C → Hand H → C → Current → Answer → Hand H → C → Type 0
AtOnce {H} acts goes h b c a k d =
    (act : Act) × ((mid : Hand H) × (Hears acts goes h b (AnswerGiven a) act mid d × (k ≡ record mid { stage = Acting c act })))

-- a counter is raised, if there is one, and then the answer is given
abbrev pub Counts : {H C : Type 0} → Handling H → Going C → Option Counter → Hand H → C → Current → Answer → Hand H → C → Type 0
Counts acts goes None h b c a k d = AtOnce acts goes h b c a k d
Counts {H} {C} acts goes (Some counter) h b c a k d = (mid : C) × (goes b (Added counter ∷ []) mid × AtOnce acts goes h mid c a k d)
