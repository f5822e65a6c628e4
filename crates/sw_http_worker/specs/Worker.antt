-- What the handler round a handler does.
use Rattle.std.specs.Prelude.{◌≡◌, ◌≢◌, ℕ, Option, Some, None, nat_eq, true, false}
use Rattle.std.specs.HashMap.{get}
use Rattle.sw_data.specs.declared.acts.Act.{Act}
use Rattle.sw_data.specs.declared.acts.Act.TheVariants.{Close, Done}
use Rattle.sw_data.specs.declared.events.Event.{Event}
use Rattle.sw_data.specs.declared.events.Event.TheVariants as events
use Rattle.sw_data.specs.declared.given.Given.{Given}
use Rattle.sw_data.specs.declared.given.Given.TheVariants as givens
use Rattle.sw_http_worker.specs.declared.serving.Serving.{Serving}
use Rattle.sw_http_worker.specs.declared.serving.Doing.{Doing}
use Rattle.sw_http_worker.specs.declared.serving.Doing.TheVariants as doings
use Rattle.sw_http_worker.specs.declared.worker.HttpWorker.{HttpWorker}
use Rattle.sw_http_worker.specs.Serving.{Acts, Serves, is_done, fresh, with_piece}
use Rattle.std.specs.Prelude.{List}

-- ---- its parts

abbrev pub inner_of : {H : Type 0} → HttpWorker H → H
inner_of w = w.inner

abbrev pub max_of : {H : Type 0} → HttpWorker H → ℕ
max_of w = w.max

-- what the next answer is for
abbrev pub doing_of : {H : Type 0} → HttpWorker H → Doing
doing_of w = w.doing

-- what is kept of a session, if it is kept
abbrev pub kept_of : {H : Type 0} → HttpWorker H → ℕ → Option Serving
kept_of w s = get nat_eq w.sessions s

-- what is kept of a session, or a fresh one
abbrev pub serving_or : ℕ → Option Serving → Serving
serving_or max None = fresh max
serving_or max (Some v) = v

-- what is kept of a session, from now on if it wasn't
abbrev pub serving_of : {H : Type 0} → HttpWorker H → ℕ → Serving
serving_of w s = serving_or w.max (kept_of w s)

-- ---- what changes

-- of this session this is kept, and of all others what was
pub record Keeps {H : Type 0} (old new : HttpWorker H) (s : ℕ) (kept : Option Serving) : Type 0 where
  pub this : kept_of new s ≡ kept
  pub others : (t : ℕ) → t ≢ s → kept_of new t ≡ kept_of old t

-- nothing changes in what is kept
abbrev pub KeepsAll : {H : Type 0} → HttpWorker H → HttpWorker H → Type 0
KeepsAll old new = (t : ℕ) → kept_of new t ≡ kept_of old t

-- nothing but what is kept changes
pub record IsElse {H : Type 0} (old new : HttpWorker H) : Type 0 where
  pub inner : new.inner ≡ old.inner
  pub max : new.max ≡ old.max
  pub doing : new.doing ≡ old.doing

-- what it was made with stays
pub record IsMade {H M : Type 0} (made : H → M) (old new : HttpWorker H) : Type 0 where
  pub inner : made new.inner ≡ made old.inner
  pub max : new.max ≡ old.max

-- a handler round this one, of which nothing was given yet
pub record IsNew {H : Type 0} (inner : H) (max : ℕ) (w : HttpWorker H) : Type 0 where
  pub inner_is : w.inner ≡ inner
  pub max_is : w.max ≡ max
  pub doing : w.doing ≡ doings.Passing
  pub nothing : (s : ℕ) → kept_of w s ≡ None

-- ---- what it does

-- what came is given to the handler as it came
pub record Passes {H : Type 0} (acts : Acts H) (old : HttpWorker H) (given : Given) (act : Act) (new : HttpWorker H) : Type 0 where
  pub acted : acts old.inner given act new.inner
  pub doing : new.doing ≡ doings.Passing

-- the requests of a session that are whole are given; of a session of which nothing is kept there are none
abbrev pub ServesKept : {H : Type 0} → Acts H → HttpWorker H → ℕ → Option Serving → Act → HttpWorker H → Type 0
ServesKept acts old s None act new = (act ≡ Done) × (new.doing ≡ doings.Passing) × (new.inner ≡ old.inner) × KeepsAll old new
ServesKept acts old s (Some v) act new = (w : Serving) × Serves acts s old.inner v act new.doing new.inner w × Keeps old new s (Some w)

-- the handler's own act, unless it is done with a request: then the next ones are given
pub record GoesOn {H : Type 0} (acts : Acts H) (old : HttpWorker H) (s : ℕ) (given : Given) (act : Act) (new : HttpWorker H) : Type 0 where
  pub own : Act
  pub handler : HttpWorker H
  pub acted : acts old.inner given own handler.inner
  pub doing : handler.doing ≡ old.doing
  pub kept : KeepsAll old handler
  pub busy : is_done own ≡ false → (act ≡ own) × (new ≡ handler)
  pub done : is_done own ≡ true → ServesKept acts handler s (kept_of handler s) act new

-- what it does about an event: a piece is fed and what is whole is given, and all else passes through
abbrev pub OnEvent : {H : Type 0} → Acts H → HttpWorker H → Event → Act → HttpWorker H → Type 0
OnEvent acts old (events.Connect s) act new = Passes acts old (givens.Event (events.Connect s)) act new × Keeps old new s (Some (serving_of old s))
OnEvent acts old (events.Packet s i piece) act new = (w : Serving) × Serves acts s old.inner (with_piece (serving_of old s) piece) act new.doing new.inner w × Keeps old new s (Some w)
OnEvent acts old (events.Closed s) act new = Passes acts old (givens.Event (events.Closed s)) act new × Keeps old new s None
OnEvent acts old (events.Finish id b) act new = Passes acts old (givens.Event (events.Finish id b)) act new × KeepsAll old new
OnEvent acts old (events.Task w id b) act new = Passes acts old (givens.Event (events.Task w id b)) act new × KeepsAll old new

-- an act of its own, of which the handler isn't told
pub record ActsAlone {H : Type 0} (old new : HttpWorker H) (doing : Doing) : Type 0 where
  pub inner : new.inner ≡ old.inner
  pub doing_is : new.doing ≡ doing
  pub kept : KeepsAll old new

-- what it does about an answer, by what that is for
abbrev pub OnAnswer : {H : Type 0} → Acts H → HttpWorker H → Given → Act → HttpWorker H → Doing → Type 0
OnAnswer acts old given act new doings.Passing = Passes acts old given act new × KeepsAll old new
OnAnswer acts old given act new (doings.Serving s) = GoesOn acts old s given act new
OnAnswer acts old given act new (doings.Refusing s) = (act ≡ Close s) × ActsAlone old new doings.Closing
OnAnswer acts old given act new doings.Closing = (act ≡ Done) × ActsAlone old new doings.Passing

abbrev pub OnGiven : {H : Type 0} → Acts H → HttpWorker H → Given → Act → HttpWorker H → Type 0
OnGiven acts old (givens.Event e) act new = OnEvent acts old e act new
OnGiven acts old (givens.Answer a) act new = OnAnswer acts old (givens.Answer a) act new old.doing

-- what it does about what it is given, and the most bytes of a request stay
pub record Works {H : Type 0} (acts : Acts H) (old : HttpWorker H) (given : Given) (act : Act) (new : HttpWorker H) : Type 0 where
  pub max : new.max ≡ old.max
  pub on : OnGiven acts old given act new

-- ---- on the way

-- a piece is fed to a session that is kept
abbrev pub Feeds : {H : Type 0} → HttpWorker H → HttpWorker H → ℕ → Option Serving → List ℕ → Type 0
Feeds old new s None piece = KeepsAll old new
Feeds old new s (Some v) piece = Keeps old new s (Some (with_piece v piece))
