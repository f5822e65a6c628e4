-- The door's turn, as a table, and its local law.
use Rattle.std.specs.Prelude.{◌≡◌, ℕ, zero, suc, ◌+◌, ◌<◌, ◌≤◌, Bool, true, false, List, [], ◌∷◌, ◌++◌, length}
use Rattle.sw_lists.specs.Lists.{collect, Each}
use Rattle.sw_step.specs.declared.actor.ActorId.{ActorId}
use Rattle.sw_step.specs.declared.actor.ActorId.TheVariants.{Reactor}
use Rattle.sw_record.specs.Terms.{Terms, reactor_of}
use Rattle.sw_past.specs.Claims.{Claim, Drew, drew, drew_in}
use Rattle.sw_past.specs.Messages.{Message, FreshMsg, NoMore}
use Rattle.sw_past.specs.Past.{Mail, bare}
use Rattle.sw_record.specs.Words.{AcceptedCount, EndedCount}
use Rattle.sw_world_ports.specs.Calls.{Did, Accepts, NoLink, NetOver, SeesStop, Adds}
use Rattle.sw_world_ports.specs.Made.{accept_in, stop_in, add_in}
use Rattle.sw_world_laws.specs.Turns.{Ask, AskPush, AskNothing, AskRest, AskFinished, Got, GotStart, GotTook, GotEmpty, GotPushed, GotFull, GotNothing, Diary}
use Rattle.sw_world_laws.specs.Shows.{fresh_pair, drew_pair}

-- whether it is ending, whether the next turn accepts, how many reactors it told that no more comes, and whom its last push was for
pub record DoorState : Type 0 where
  pub ending : Bool
  pub accepts : Bool
  pub given : ℕ
  pub to : ActorId

-- at the start
abbrev pub new_door : DoorState
new_door = record { ending = false; accepts = false; given = 0; to = Reactor 0 }

-- its turn, when nothing is asked again: turns of two kinds alternate, until it ends
pub data DoorGoes (t : Terms) (s : DoorState) (dids : List Did) (u : DoorState) (ask : Ask) : Type 0 where
  -- the first kind reads the stop word
  Reads : (b : Bool) → s.ending ≡ false → s.accepts ≡ false → dids ≡ SeesStop b ∷ [] → u ≡ record s { accepts = true; ending = b } → ask ≡ AskNothing → DoorGoes t s dids u ask
  -- the second kind accepts
  NotYet : s.ending ≡ false → s.accepts ≡ true → dids ≡ NoLink ∷ [] → u ≡ record s { accepts = false } → ask ≡ AskRest → DoorGoes t s dids u ask
  NetEnds : s.ending ≡ false → s.accepts ≡ true → dids ≡ NetOver ∷ [] → u ≡ record s { accepts = false; ending = true } → ask ≡ AskNothing → DoorGoes t s dids u ask
  Draws : (ip n : ℕ) → s.ending ≡ false → s.accepts ≡ true → dids ≡ Accepts ip (Drew n) ∷ Adds AcceptedCount ∷ [] → u ≡ record s { accepts = false; to = Reactor (reactor_of t n) } → ask ≡ AskPush (Reactor (reactor_of t n)) (FreshMsg ip n) → DoorGoes t s dids u ask
  Refuses : (ip : ℕ) (c : Claim) → drew c ≡ [] → s.ending ≡ false → s.accepts ≡ true → dids ≡ Accepts ip c ∷ Adds AcceptedCount ∷ Adds EndedCount ∷ [] → u ≡ record s { accepts = false } → ask ≡ AskNothing → DoorGoes t s dids u ask
  -- ending, it tells each reactor
  SaysNext : s.ending ≡ true → s.given < t.reactor_num → dids ≡ [] → u ≡ record s { given = s.given + 1; to = Reactor s.given } → ask ≡ AskPush (Reactor s.given) NoMore → DoorGoes t s dids u ask
  Finishes : s.ending ≡ true → ¬ (s.given < t.reactor_num) → dids ≡ [] → u ≡ s → ask ≡ AskFinished → DoorGoes t s dids u ask

-- its turn: a push that found no room is asked again
abbrev pub DoorTurn : Terms → DoorState → Got → List Did → DoorState → Ask → Type 0
DoorTurn t s (GotFull m) dids u ask = (dids ≡ []) × ((u ≡ s) × (ask ≡ AskPush s.to m))
DoorTurn t s GotStart dids u ask = DoorGoes t s dids u ask
DoorTurn t s (GotTook m) dids u ask = DoorGoes t s dids u ask
DoorTurn t s GotEmpty dids u ask = DoorGoes t s dids u ask
DoorTurn t s GotPushed dids u ask = DoorGoes t s dids u ask
DoorTurn t s GotNothing dids u ask = DoorGoes t s dids u ask

-- to the first k reactors, that no more comes
abbrev pub says : ℕ → Mail
says zero = []
says (suc k) = says k ++ (Reactor k, NoMore) ∷ []

-- a link for its reactor
abbrev pub IsLinkTo : Terms → ActorId × Message → Type 0
IsLinkTo t (to, FreshMsg ip s) = to ≡ Reactor (reactor_of t s)
IsLinkTo t (to, _) = ⊥

-- what it pushed, with what is in its hand: the links that it drew, and then that no more comes
pub record DoorHolds (t : Terms) (s : DoorState) (d : Diary) (hand : Mail) : Type 0 where
  pub links : Mail
  pub split : d.pushed ++ hand ≡ links ++ says s.given
  pub only : Each (IsLinkTo t) links
  pub early : s.ending ≡ false → s.given ≡ 0
  pub few : s.given ≤ t.reactor_num
  pub drawn : collect fresh_pair (bare links) ≡ collect drew_pair (collect accept_in d.dids)
  pub stops : collect stop_in d.dids ≡ []
  pub accepted : length (collect (add_in AcceptedCount) d.dids) ≤ length (collect accept_in d.dids)
  pub refused : length (collect (add_in EndedCount) d.dids) + length (collect drew_in (collect accept_in d.dids)) ≤ length (collect accept_in d.dids)

-- its law with nothing on its way
abbrev pub DoorQuiet : Terms → DoorState → Got → Diary → Type 0
DoorQuiet t s (GotFull m) d = DoorHolds t s d ((s.to, m) ∷ [])
DoorQuiet t s GotStart d = DoorHolds t s d []
DoorQuiet t s (GotTook m) d = DoorHolds t s d []
DoorQuiet t s GotEmpty d = DoorHolds t s d []
DoorQuiet t s GotPushed d = DoorHolds t s d []
DoorQuiet t s GotNothing d = DoorHolds t s d []

-- and once it is finished
abbrev pub DoorDoneLaw : Terms → DoorState → Diary → Type 0
DoorDoneLaw t s d = DoorHolds t s d [] × (¬ (s.given < t.reactor_num))
