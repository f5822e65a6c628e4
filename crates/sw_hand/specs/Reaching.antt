-- Acts on a session: those of one's own ask no word, all others look first.
use Rattle.std.specs.Prelude.{◌≡◌, ℕ, ◌==◌, Bool, true, false, if◌then◌else◌, Result, Ok, Err}
use Rattle.sw_data.specs.declared.answers.Answer.{Answer}
use Rattle.sw_data.specs.declared.answers.Answer.TheVariants.{Exists, Info, NoSession, WrongMode, BadUid, Bound, BindOk}
use Rattle.sw_data.specs.declared.messages.Msg.{Msg}
use Rattle.sw_data.specs.declared.messages.Target.TheVariants.{Reactor}
use Rattle.sw_data.specs.declared.messages.Ask.{Ask}
use Rattle.sw_port_book.specs.Answers.{Looks, Binds}
use Rattle.sw_port_book.specs.declared.answers.Look.{Look}
use Rattle.sw_port_book.specs.declared.answers.Look.TheVariants.{Live, Other}
use Rattle.sw_port_book.specs.declared.answers.BindFault.{BindFault}
use Rattle.sw_port_book.specs.declared.answers.BindFault.TheVariants as fault
use Rattle.sw_hand.specs.Ports.{Acting as Handling, Going, Looking, Binding}
use Rattle.sw_hand.specs.House.{fd_of, reactor_of}
use Rattle.sw_hand.specs.Hand.{is_own}
use Rattle.sw_hand.specs.Asking.{Asks, Answers}
use Rattle.sw_hand.specs.declared.hand.Hand.{Hand}
use Rattle.sw_hand.specs.declared.stage.Current.{Current}
use Rattle.sw_hand.specs.declared.stage.Errand.{Errand}

-- a message to the session's reactor, where a look found the session; else the answer is what the look found
abbrev pub ReachSeen : {H C L K : Type 0} → Handling H → Going C → Hand H → C → Current → ℕ → Errand → Msg L K → Look → Hand H → C → Ask (Msg L K) → Type 0
ReachSeen acts goes h d c s errand m (Live u) k e ask = Asks h c (Reactor (reactor_of h.house s)) errand m k ask × (e ≡ d)
ReachSeen acts goes h d c s errand m (Other n) k e ask = Answers acts goes h d c (NoSession n) k e ask

-- Send, Close and Reset
abbrev pub ReachesAs : {H B C L K : Type 0} → Bool → Looking B → Handling H → Going C → Hand H → B → C → Current → ℕ → Errand → Msg L K → Hand H → B → C → Ask (Msg L K) → Type 0
ReachesAs true finds acts goes h b d c s errand m k f e ask = Asks h c (Reactor (reactor_of h.house s)) errand m k ask × (f ≡ b) × (e ≡ d)
ReachesAs false finds acts goes h b d c s errand m k f e ask = (look : Look) × (Looks finds b s look f × ReachSeen acts goes h d c s errand m look k e ask)

abbrev pub Reaches : {H B C L K : Type 0} → Looking B → Handling H → Going C → Hand H → B → C → Current → ℕ → Errand → Msg L K → Hand H → B → C → Ask (Msg L K) → Type 0
Reaches finds acts goes h b d c s errand m k f e ask = ReachesAs (is_own h c s) finds acts goes h b d c s errand m k f e ask

-- Exist and Info: an answer for a session that is there, by its uid, and the one for what a look found else
abbrev pub told_by : (ℕ → Answer) → Look → Answer
told_by there (Live u) = there u
told_by there (Other n) = NoSession n

abbrev pub TellsAs : {H B C L K : Type 0} → Bool → Looking B → Handling H → Going C → Hand H → B → C → Current → ℕ → (ℕ → Answer) → Hand H → B → C → Ask (Msg L K) → Type 0
TellsAs true finds acts goes h b d c s there k f e ask = Answers acts goes h d c (there 0) k e ask × (f ≡ b)
TellsAs false finds acts goes h b d c s there k f e ask = (look : Look) × (Looks finds b s look f × Answers acts goes h d c (told_by there look) k e ask)

abbrev pub TellsExist : {H B C L K : Type 0} → Looking B → Handling H → Going C → Hand H → B → C → Current → ℕ → Hand H → B → C → Ask (Msg L K) → Type 0
TellsExist finds acts goes h b d c s k f e ask = TellsAs (is_own h c s) finds acts goes h b d c s (λ u. Exists) k f e ask

-- in the mode by uid, 5, Info asks the session's word even of one's own
abbrev pub info_known : {H : Type 0} → Hand H → Current → ℕ → Bool
info_known h c s = if h.house.mode == 5 then false else is_own h c s

abbrev pub TellsInfo : {H B C L K : Type 0} → Looking B → Handling H → Going C → Hand H → B → C → Current → ℕ → Hand H → B → C → Ask (Msg L K) → Type 0
TellsInfo finds acts goes h b d c s k f e ask = TellsAs (info_known h c s) finds acts goes h b d c s (Info (fd_of h.house s)) k f e ask

-- Bind, in the mode by uid alone
abbrev pub refused_by : BindFault → Answer
refused_by fault.BadUid = BadUid
refused_by (fault.Other n) = NoSession n
refused_by (fault.Bound u) = Bound u

abbrev pub bound_by : Result (Unit {0}) BindFault → Answer
bound_by (Ok u) = BindOk
bound_by (Err f) = refused_by f

abbrev pub BindsAs : {H B C L K : Type 0} → Bool → Binding B → Handling H → Going C → Hand H → B → C → Current → ℕ → ℕ → Hand H → B → C → Ask (Msg L K) → Type 0
BindsAs true finds acts goes h b d c s u k f e ask = (r : Result (Unit {0}) BindFault) × (Binds finds b s u r f × Answers acts goes h d c (bound_by r) k e ask)
BindsAs false finds acts goes h b d c s u k f e ask = Answers acts goes h d c WrongMode k e ask × (f ≡ b)

abbrev pub BindsOf : {H B C L K : Type 0} → Binding B → Handling H → Going C → Hand H → B → C → Current → ℕ → ℕ → Hand H → B → C → Ask (Msg L K) → Type 0
BindsOf finds acts goes h b d c s u k f e ask = BindsAs (h.house.mode == 5) finds acts goes h b d c s u k f e ask
