-- Calls of the Table, sums of the counters, and the server's end.
use Rattle.std.specs.Prelude.{◌≡◌, ◌⊎◌, ℕ, Bool, true, false, if◌then◌else◌, List, [], ◌∷◌, Result, Ok, Err}
use Rattle.sw_base.specs.declared.counter.Counter.{Counter}
use Rattle.sw_base.specs.declared.table.Value.{Value}
use Rattle.sw_base.specs.declared.table.Call.{Call}
use Rattle.sw_base.specs.declared.table.CallFault.{CallFault}
use Rattle.sw_base.specs.declared.table.CallFault.TheVariants as faults
use Rattle.sw_base.specs.declared.table.Reply.{Reply}
use Rattle.sw_base.specs.declared.table.Reply.TheVariants as replies
use Rattle.sw_data.specs.declared.acts.Act.TheVariants.{Table, Done}
use Rattle.sw_data.specs.declared.answers.Answer.TheVariants.{Table as TableAnswer, TableRefused, NoTable, Count, Asked}
use Rattle.sw_data.specs.declared.messages.Msg.{Msg}
use Rattle.sw_data.specs.declared.messages.Ask.{Ask}
use Rattle.sw_data.specs.declared.messages.Ask.TheVariants.{Nothing as AskNothing}
use Rattle.sw_port_board.specs.declared.board.BoardStep.TheVariants.{Stopped}
use Rattle.sw_port_board.specs.declared.crew.Sizes.{Sizes}
use Rattle.sw_port_board.specs.Board.{SumsUp}
use Rattle.sw_port_shelf.specs.declared.shelf.Placed.{Placed}
use Rattle.sw_hand.specs.Ports.{Acting as Handling, Going, Calling}
use Rattle.sw_hand.specs.Asking.{Answers}
use Rattle.sw_hand.specs.declared.hand.Hand.{Hand}
use Rattle.sw_hand.specs.declared.stage.Current.{Current}
use Rattle.sw_hand.specs.declared.stage.Stage.TheVariants.{Acting}

-- a lock word of the call's was taken
abbrev pub is_busy : CallFault → Bool
is_busy (faults.Busy word seen) = true
is_busy (faults.Spent calls) = false
is_busy faults.BadKey = false
is_busy faults.NoColumn = false
is_busy faults.NotInt = false
is_busy faults.BadValue = false
is_busy faults.Range = false

-- a reply with a row
abbrev pub is_found : Reply → Bool
is_found replies.Stored = false
is_found replies.Full = false
is_found replies.Found = true
is_found replies.Missing = false
is_found replies.Yes = false
is_found replies.No = false
is_found (replies.Value n) = false
is_found replies.Range = false
is_found (replies.Count n) = false

-- a call that a taken lock kept stays for the next turn; any other refusal is the answer
abbrev pub CallsRefused : {H C L K : Type 0} → Bool → Handling H → Going C → CallFault → Hand H → C → Current → Call → Hand H → C → Ask (Msg L K) → Type 0
CallsRefused true acts goes fault h b c call k d ask = (k ≡ record h { stage = Acting c (Table call) }) × (d ≡ b) × (ask ≡ AskNothing)
CallsRefused false acts goes fault h b c call k d ask = Answers acts goes h b c (TableRefused fault) k d ask

-- no memory for the copy of a row: the hand is lost, the stop word is set, and the act is Done
abbrev pub Starves : {H C L K : Type 0} → Going C → Hand H → C → Current → Hand H → C → Ask (Msg L K) → Type 0
Starves goes h b c k d ask = (k ≡ record h { lost = true; stage = Acting c Done }) × goes b (Stopped ∷ []) d × (ask ≡ AskNothing)

-- the row's values where it was found
abbrev pub cells_of : Reply → List Value → List Value
cells_of reply row = if is_found reply then row else []

-- the answer to a call that took a place; only the copy of a row takes memory
abbrev pub CallsPlaced : {H C L K : Type 0} → Handling H → Going C → Placed → Hand H → C → Current → Hand H → C → Ask (Msg L K) → Type 0
CallsPlaced acts goes p h b c k d ask =
    Answers acts goes h b c (TableAnswer p.at p.reply (cells_of p.reply h.row)) k d ask ⊎ ((is_found p.reply ≡ true) × Starves goes h b c k d ask)

abbrev pub CallsSeen : {H C L K : Type 0} → Handling H → Going C → Result Placed CallFault → Hand H → C → Current → Call → Hand H → C → Ask (Msg L K) → Type 0
CallsSeen acts goes (Ok p) h b c call k d ask = CallsPlaced acts goes p h b c k d ask
CallsSeen acts goes (Err f) h b c call k d ask = CallsRefused (is_busy f) acts goes f h b c call k d ask

-- a call of the Table, where there is one
abbrev pub CallsAs : {H S C L K : Type 0} → Bool → Calling S → Handling H → Going C → Hand H → S → C → Current → Call → Hand H → S → C → Ask (Msg L K) → Type 0
CallsAs true gives acts goes h s b c call k t d ask =
    (r : Result Placed CallFault) × ((row : List Value) × (gives s call t h.row row r × CallsSeen acts goes r (record h { row = row }) b c call k d ask))
CallsAs false gives acts goes h s b c call k t d ask = Answers acts goes h b c NoTable k d ask × (t ≡ s)

abbrev pub Calls : {H S C L K : Type 0} → Calling S → Handling H → Going C → Hand H → S → C → Current → Call → Hand H → S → C → Ask (Msg L K) → Type 0
Calls gives acts goes h s b c call k t d ask = CallsAs h.house.table gives acts goes h s b c call k t d ask

-- Stats: the sum of a counter's words
abbrev pub Sums : {H C L K : Type 0} → Handling H → Going C → (C → Sizes) → Hand H → C → Current → Counter → Hand H → C → Ask (Msg L K) → Type 0
Sums {H} {C} acts goes sizes h b c counter k d ask =
    (n : ℕ) × ((mid : C) × (SumsUp goes (sizes b) counter b n mid × Answers acts goes h mid c (Count n) k d ask))

-- Shutdown: the stop word is set
abbrev pub Shuts : {H C L K : Type 0} → Handling H → Going C → Hand H → C → Current → Hand H → C → Ask (Msg L K) → Type 0
Shuts {H} {C} acts goes h b c k d ask = (mid : C) × (goes b (Stopped ∷ []) mid × Answers acts goes h mid c Asked k d ask)
