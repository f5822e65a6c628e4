-- How the requests of one session are given to the handler inside.
use Rattle.std.specs.Prelude.{◌≡◌, ◌⊎◌, ℕ, ◌+◌, ◌<◌, List, [], ◌∷◌, Bool, true, false, None}
use Rattle.sw_data.specs.declared.acts.Act.{Act}
use Rattle.sw_data.specs.declared.acts.Act.TheVariants.{Send, Close, Reset, Bind, Exist, Info, Task, Finish, Table, Stats, Shutdown, Done}
use Rattle.sw_data.specs.declared.events.Event.TheVariants as events
use Rattle.sw_data.specs.declared.given.Given.{Given}
use Rattle.sw_data.specs.declared.given.Given.TheVariants as givens
use Rattle.sw_http.specs.declared.next.HttpNext.TheVariants.{Request, More}
use Rattle.sw_http.specs.declared.next.HttpFault.{HttpFault}
use Rattle.sw_http.specs.Cutting.{IsAnswer, after, fed, told}
use Rattle.sw_http_worker.specs.declared.serving.Serving.{Serving}
use Rattle.sw_http_worker.specs.declared.serving.Doing.{Doing}
use Rattle.sw_http_worker.specs.declared.serving.Doing.TheVariants as doings
use Rattle.sw_http_worker.specs.declared.serving.Step.{Step}
use Rattle.sw_http_worker.specs.declared.serving.Step.TheVariants.{Again, Acts as ActsNow}
use Rattle.sw_http_worker.specs.Refusal.{refusal_text}

-- what a handler may do: from the first one this given may bring this act, and leave the second
abbrev pub Acts : Type 0 → Type 1
Acts H = H → Given → Act → H → Type 0

-- the handler is done with what it was given
abbrev pub is_done : Act → Bool
is_done (Send s b) = false
is_done (Close s) = false
is_done (Reset s) = false
is_done (Bind s u) = false
is_done (Exist s) = false
is_done (Info s) = false
is_done (Task d b) = false
is_done (Finish b) = false
is_done (Table c) = false
is_done (Stats c) = false
is_done Shutdown = false
is_done Done = true

-- as many requests as have numbers
abbrev pub most : ℕ
most = 18446744073709551615

-- a session of which nothing came yet
abbrev pub fresh : ℕ → Serving
fresh max = record { cutter = record { max = max; rest = []; fault = None }; given = 0; refused = false }

-- requests of the session are still given
abbrev pub IsOpen : Serving → Type 0
IsOpen v = (v.refused ≡ false) × (v.given < most)

-- none is given any more: the client was refused, or no number is left
abbrev pub IsOver : Serving → Type 0
IsOver v = (v.refused ≡ true) ⊎ (v.given ≡ most)

-- a piece more was fed
abbrev pub with_piece : Serving → List ℕ → Serving
with_piece v piece = record { cutter = fed v.cutter piece; given = v.given; refused = v.refused }

-- one request more was given
abbrev pub given_one : Serving → List ℕ → ℕ → Serving
given_one v bytes head = record { cutter = after v.cutter (Request bytes head); given = v.given + 1; refused = v.refused }

-- the client was refused for a fault
abbrev pub refused_for : Serving → HttpFault → Serving
refused_for v fault = record { cutter = after v.cutter (told fault); given = v.given; refused = true }

-- the request that comes first is given under the next number, and this is the act
pub record Gives {H : Type 0} (acts : Acts H) (s : ℕ) (old : H) (v : Serving) (bytes : List ℕ) (head : ℕ) (act : Act) (new : H) : Type 0 where
  pub opens : IsOpen v
  pub due : IsAnswer v.cutter (Request bytes head)
  pub acted : acts old (givens.Event (events.Packet s v.given bytes)) act new

-- the handler is done at once with the request that comes first
pub record GivesDone {H : Type 0} (acts : Acts H) (s : ℕ) (old : H) (v : Serving) (bytes : List ℕ) (head : ℕ) (new : H) : Type 0 where
  pub act : Act
  pub done : is_done act ≡ true
  pub gives : Gives acts s old v bytes head act new

-- these requests were given one after the other, and the handler was done with each at once
abbrev pub WereGiven : {H : Type 0} → Acts H → ℕ → H → Serving → List (List ℕ × ℕ) → H → Serving → Type 0
WereGiven acts s old v [] new w = (old ≡ new) × (v ≡ w)
WereGiven {H} acts s old v (q ∷ qs) new w = (m : H) × GivesDone acts s old v q.0 q.1 m × WereGiven acts s m (given_one v q.0 q.1) qs new w

-- it stops at a request with which the handler isn't done
pub record StopsServing {H : Type 0} (acts : Acts H) (s : ℕ) (old : H) (v : Serving) (act : Act) (new : H) (w : Serving) : Type 0 where
  pub bytes : List ℕ
  pub head : ℕ
  pub gives : Gives acts s old v bytes head act new
  pub busy : is_done act ≡ false
  pub kept : w ≡ given_one v bytes head

-- it stops at a fault, and the client is refused
pub record StopsRefusing {H : Type 0} (s : ℕ) (old : H) (v : Serving) (act : Act) (new : H) (w : Serving) : Type 0 where
  pub fault : HttpFault
  pub opens : IsOpen v
  pub due : IsAnswer v.cutter (told fault)
  pub sends : act ≡ Send s refusal_text
  pub same : new ≡ old
  pub kept : w ≡ refused_for v fault

-- it stops where no request is whole, or none is given any more
pub record StopsIdle {H : Type 0} (old : H) (v : Serving) (act : Act) (new : H) (w : Serving) : Type 0 where
  pub none : IsOver v ⊎ IsAnswer v.cutter More
  pub done : act ≡ Done
  pub same : new ≡ old
  pub kept : w ≡ v

-- how it stops, by what the next answer is for
abbrev pub Stops : {H : Type 0} → Acts H → ℕ → H → Serving → Act → Doing → H → Serving → Type 0
Stops acts s old v act (doings.Serving u) new w = (u ≡ s) × StopsServing acts s old v act new w
Stops acts s old v act (doings.Refusing u) new w = (u ≡ s) × StopsRefusing s old v act new w
Stops acts s old v act doings.Passing new w = StopsIdle old v act new w
Stops acts s old v act doings.Closing new w = ⊥

-- requests are given, then it stops
pub record Serves {H : Type 0} (acts : Acts H) (s : ℕ) (old : H) (v : Serving) (act : Act) (doing : Doing) (new : H) (w : Serving) : Type 0 where
  pub requests : List (List ℕ × ℕ)
  pub handler : H
  pub serving : Serving
  pub given : WereGiven acts s old v requests handler serving
  pub stops : Stops acts s handler serving act doing new w

-- ---- one step of it

-- what a handler's act on a request comes to
abbrev pub step_behind : Bool → ℕ → Act → Step
step_behind true s act = Again
step_behind false s act = ActsNow act (doings.Serving s)

-- one request with which the handler is done at once, or it stops
abbrev pub Steps : {H : Type 0} → Acts H → ℕ → H → Serving → Step → H → Serving → Type 0
Steps acts s old v Again new w = (bytes : List ℕ) × (head : ℕ) × GivesDone acts s old v bytes head new × (w ≡ given_one v bytes head)
Steps acts s old v (ActsNow act doing) new w = Stops acts s old v act doing new w
