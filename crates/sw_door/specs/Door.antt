-- The door's turn, from its state, what its last pipe call gave, and what net, desk, board and ends answer in this turn.
use Rattle.std.specs.Prelude.{◌≡◌, ℕ, ◌+◌, ◌%◌, nat_lt, Bool, true, false, if◌then◌else◌, List, [], ◌∷◌, Option, None, Result, Ok, Err}
use Rattle.std.specs.Bool.{MatchBool}
use Rattle.sw_base.specs.declared.counter.Counter.TheVariants as counters
use Rattle.sw_data.specs.declared.ended.Cause.{Cause}
use Rattle.sw_data.specs.declared.ended.Cause.TheVariants.{NoSlot, NumbersSpent}
use Rattle.sw_data.specs.declared.ended.Ended.{Ended}
use Rattle.sw_data.specs.declared.messages.Msg.{Msg}
use Rattle.sw_data.specs.declared.messages.Msg.TheVariants.{Fresh, NoMore}
use Rattle.sw_data.specs.declared.messages.Target.TheVariants.{Reactor}
use Rattle.sw_data.specs.declared.messages.Ask.{Ask}
use Rattle.sw_data.specs.declared.messages.Ask.TheVariants.{Push, Nothing as AskNothing, Rest, Finished}
use Rattle.sw_data.specs.declared.messages.Got.{Got}
use Rattle.sw_data.specs.declared.messages.Got.TheVariants as gots
use Rattle.sw_link.specs.declared.net.Accept.{Accept}
use Rattle.sw_link.specs.declared.net.Accept.TheVariants as accepts
use Rattle.sw_port_board.specs.declared.board.BoardStep.{BoardStep}
use Rattle.sw_port_board.specs.declared.board.BoardStep.TheVariants as steps
use Rattle.sw_port_book.specs.declared.answers.ClaimFault.{ClaimFault}
use Rattle.sw_port_book.specs.declared.answers.ClaimFault.TheVariants as claims
use Rattle.sw_door.specs.declared.door.Door.{Door}

-- a door before its first turn
abbrev pub IsNew : ℕ → ℕ → Door → Type 0
IsNew slots reactors d = d ≡ record { max_conn = slots; reactors = reactors; accepts = false; ending = false; given = 0; to = 0; lost = false }

-- what a claim that was refused makes a link's cause
abbrev pub cause_of : ClaimFault → Cause
cause_of (claims.Full n) = NoSlot
cause_of claims.Spent = NumbersSpent

-- what is said of a link without a session
abbrev pub refused : ℕ → Cause → Ended
refused ip cause = record { session = None; fd = 0; ip = ip; uid = 0; dispatched = 0; split = 0; cause = cause }

-- a session's reactor: its descriptor modulo the number of reactors
abbrev pub reactor_of : Door → ℕ → ℕ
reactor_of d s = s % d.max_conn % d.reactors

-- how a board may go by these steps
abbrev pub Going : Type 0 → Type 1
Going C = C → List BoardStep → C → Type 0

-- an end is counted, behind a stop where the ends gave the link back
abbrev pub Counts : {C : Type 0} → Going C → Bool → C → C → Type 0
Counts goes true b c = goes b (steps.Added counters.Ended ∷ []) c
Counts {C} goes false b c = (mid : C) × (goes b (steps.Stopped ∷ []) mid × goes mid (steps.Added counters.Ended ∷ []) c)

-- the stop word is read, and where it is set the door is ending
abbrev pub Looks : {C L K : Type 0} → Going C → Door → C → Ask (Msg L K) → Door → C → Type 0
Looks goes d b ask e c = (stop : Bool) × (goes b (steps.SawStop stop ∷ []) c × (e ≡ record d { ending = stop; accepts = true }) × (ask ≡ AskNothing))

-- a link goes to the reactor of its session
abbrev pub Hands : {L K : Type 0} → (K → ℕ) → Door → L → ℕ → K → Door → Ask (Msg L K) → Type 0
Hands number d link ip ticket e ask =
    (e ≡ record d { to = reactor_of d (number ticket) }) × (ask ≡ Push (Reactor (reactor_of d (number ticket))) (Fresh link ip ticket))

-- a link without a session goes to the ends
abbrev pub Refuses : {L K C E : Type 0} → Going C → (E → L → Ended → Bool → E → Type 0) → Door → L → ℕ → Cause → C → E → Door → C → E → Ask (Msg L K) → Type 0
Refuses goes puts d link ip cause b f e c g ask =
    (kept : Bool) × (puts f link (refused ip cause) kept g × Counts goes kept b c × (e ≡ record d { lost = (if kept then d.lost else true) }) × (ask ≡ AskNothing))

-- what the claim of a session comes to
abbrev pub Claimed : {L K C E : Type 0} → (K → ℕ) → Going C → (E → L → Ended → Bool → E → Type 0) → Result K ClaimFault → Door → L → ℕ → C → E → Door → C → E → Ask (Msg L K) → Type 0
Claimed number goes puts (Ok ticket) d link ip b f e c g ask = Hands number d link ip ticket e ask × (c ≡ b) × (g ≡ f)
Claimed number goes puts (Err fault) d link ip b f e c g ask = Refuses goes puts d link ip (cause_of fault) b f e c g ask

-- a session is drawn for a link, and the link is counted
abbrev pub Claims : {L K D C E : Type 0} → (D → Result K ClaimFault → D → Type 0) → (K → ℕ) → Going C → (E → L → Ended → Bool → E → Type 0) → Door → L → ℕ → D → C → E → Door → D → C → E → Ask (Msg L K) → Type 0
Claims {L} {K} {D} {C} claiming number goes puts d link ip desk b f e desk_new c g ask =
    (r : Result K ClaimFault) × (claiming desk r desk_new
    × ((mid : C) × (goes b (steps.Added counters.Accepted ∷ []) mid × Claimed number goes puts r d link ip mid f e c g ask)))

-- an accept failed: the stop word is set, and the door is ending
abbrev pub Fails : {C L K : Type 0} → Going C → Door → C → Door → C → Ask (Msg L K) → Type 0
Fails goes d b e c ask = goes b (steps.Stopped ∷ []) c × (e ≡ record d { ending = true }) × (ask ≡ AskNothing)

-- what an accept comes to
abbrev pub AcceptsAs : {L K D C E : Type 0} → (D → Result K ClaimFault → D → Type 0) → (K → ℕ) → Going C → (E → L → Ended → Bool → E → Type 0) → Accept L → Door → D → C → E → Door → D → C → E → Ask (Msg L K) → Type 0
AcceptsAs claiming number goes puts (accepts.Got link ip) d desk b f e desk_new c g ask = Claims claiming number goes puts d link ip desk b f e desk_new c g ask
AcceptsAs claiming number goes puts accepts.NotYet d desk b f e desk_new c g ask = (e ≡ d) × (ask ≡ Rest) × (desk_new ≡ desk) × (c ≡ b) × (g ≡ f)
AcceptsAs claiming number goes puts accepts.End d desk b f e desk_new c g ask = (e ≡ record d { ending = true }) × (ask ≡ AskNothing) × (desk_new ≡ desk) × (c ≡ b) × (g ≡ f)
AcceptsAs claiming number goes puts accepts.Failed d desk b f e desk_new c g ask = Fails goes d b e c ask × (desk_new ≡ desk) × (g ≡ f)

-- one accept; the next turn reads the stop word again
abbrev pub Accepts : {N L K D C E : Type 0} → (N → Accept L → N → Type 0) → (D → Result K ClaimFault → D → Type 0) → (K → ℕ) → Going C → (E → L → Ended → Bool → E → Type 0) → Door → N → D → C → E → Door → N → D → C → E → Ask (Msg L K) → Type 0
Accepts {N} {L} accepting claiming number goes puts d net desk b f e net_new desk_new c g ask =
    (x : Accept L) × (accepting net x net_new × AcceptsAs claiming number goes puts x (record d { accepts = false }) desk b f e desk_new c g ask)

-- NoMore to the next reactor, or the end
abbrev pub Ends : {L K : Type 0} → Door → Ask (Msg L K) → Door → Type 0
Ends d ask e =
    MatchBool (nat_lt d.given d.reactors)
    ((ask ≡ Push (Reactor d.given) NoMore) × (e ≡ record d { to = d.given; given = d.given + 1 }))
    ((ask ≡ Finished) × (e ≡ d))

-- a turn in which nothing came back
abbrev pub GoesOn : {N L K D C E : Type 0} → (N → Accept L → N → Type 0) → (D → Result K ClaimFault → D → Type 0) → (K → ℕ) → Going C → (E → L → Ended → Bool → E → Type 0) → Door → N → D → C → E → Door → N → D → C → E → Ask (Msg L K) → Type 0
GoesOn accepting claiming number goes puts d net desk b f e net_new desk_new c g ask =
    MatchBool d.ending
    (Ends d ask e × (net_new ≡ net) × (desk_new ≡ desk) × (c ≡ b) × (g ≡ f))
    (MatchBool d.accepts
    (Accepts accepting claiming number goes puts d net desk b f e net_new desk_new c g ask)
    (Looks goes d b ask e c × (net_new ≡ net) × (desk_new ≡ desk) × (g ≡ f)))

-- a whole turn: a message that came back is asked for again, and nothing else happens
abbrev pub Turns : {N L K D C E : Type 0} → (N → Accept L → N → Type 0) → (D → Result K ClaimFault → D → Type 0) → (K → ℕ) → Going C → (E → L → Ended → Bool → E → Type 0) → Door → N → D → C → E → Got (Msg L K) → Door → N → D → C → E → Ask (Msg L K) → Type 0
Turns accepting claiming number goes puts d net desk b f (gots.Full m) e net_new desk_new c g ask =
    (ask ≡ Push (Reactor d.to) m) × (e ≡ d) × (net_new ≡ net) × (desk_new ≡ desk) × (c ≡ b) × (g ≡ f)
Turns accepting claiming number goes puts d net desk b f gots.Start e net_new desk_new c g ask = GoesOn accepting claiming number goes puts d net desk b f e net_new desk_new c g ask
Turns accepting claiming number goes puts d net desk b f (gots.Took m) e net_new desk_new c g ask = GoesOn accepting claiming number goes puts d net desk b f e net_new desk_new c g ask
Turns accepting claiming number goes puts d net desk b f gots.Empty e net_new desk_new c g ask = GoesOn accepting claiming number goes puts d net desk b f e net_new desk_new c g ask
Turns accepting claiming number goes puts d net desk b f gots.Pushed e net_new desk_new c g ask = GoesOn accepting claiming number goes puts d net desk b f e net_new desk_new c g ask
Turns accepting claiming number goes puts d net desk b f gots.Nothing e net_new desk_new c g ask = GoesOn accepting claiming number goes puts d net desk b f e net_new desk_new c g ask
