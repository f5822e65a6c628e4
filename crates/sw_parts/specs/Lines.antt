-- What the pipe call comes to that an actor asked for.
use Rattle.std.specs.Prelude.{◌≡◌, ◌≤◌, ℕ, true, List, [], ◌∷◌, ◌++◌, length, nat_lt, slice_get, slice_set, Option, None, Some}
use Rattle.std.specs.Bool.{MatchBool}
use Rattle.sw_data.specs.declared.messages.Ask.{Ask}
use Rattle.sw_data.specs.declared.messages.Ask.TheVariants as asks
use Rattle.sw_data.specs.declared.messages.Got.{Got}
use Rattle.sw_data.specs.declared.messages.Got.TheVariants as gots
use Rattle.sw_data.specs.declared.messages.Target.{Target}
use Rattle.sw_data.specs.declared.messages.Target.TheVariants as targets
use Rattle.sw_pipe.specs.Mails.{AllTaken}
use Rattle.sw_pipe.specs.Values.{Pushed, Took, mail}
use Rattle.sw_parts.specs.declared.lines.Lines.{Lines}

-- a push: the message is behind those that were pushed, or it came back
abbrev pub PushGives : {M : Type 0} → Pushed M → M → Got M → Pushed M → Type 0
PushGives s m gots.Pushed t = t ≡ record s { pushed = s.pushed ++ (s.learnt, m) ∷ [] }
PushGives s m (gots.Full back) t = (back ≡ m) × (t ≡ record s { full = true })
PushGives s m gots.Start t = ⊥
PushGives s m (gots.Took n) t = ⊥
PushGives s m gots.Empty t = ⊥
PushGives s m gots.Nothing t = ⊥

-- a take: the first message of some sender, or none
abbrev pub TakeGives : {M : Type 0} → Took M → Got M → Took M → Type 0
TakeGives t (gots.Took m) u = (p : ℕ) × (learnt : ℕ) × (learnt ≤ length t.taken) × (u ≡ record t { taken = t.taken ++ (learnt, mail p m) ∷ [] })
TakeGives t gots.Empty u = (u ≡ t) × AllTaken t.counts t.taken
TakeGives t gots.Start u = ⊥
TakeGives t gots.Pushed u = ⊥
TakeGives t (gots.Full m) u = ⊥
TakeGives t gots.Nothing u = ⊥

-- a push by the sender at a place
abbrev pub PushedAt : {M : Type 0} → List (Pushed M) → ℕ → M → Got M → List (Pushed M) → Type 0
PushedAt {M} ss n m got ts =
    (s : Pushed M) × ((t : Pushed M) × ((slice_get ss n ≡ Some s) × PushGives s m got t × (ts ≡ slice_set ss n t)))

-- a push to the actor of a number comes back where there is none
abbrev pub PushesAt : {M : Type 0} → List (Pushed M) → ℕ → M → Got M → List (Pushed M) → Type 0
PushesAt ss n m got ts = MatchBool (nat_lt n (length ss)) (PushedAt ss n m got ts) ((got ≡ gots.Full m) × (ts ≡ ss))

-- a take of a pipe that isn't there finds nothing
abbrev pub TakesOf : {M : Type 0} → Option (Took M) → Got M → Option (Took M) → Type 0
TakesOf None got u = (got ≡ gots.Empty) × (u ≡ None)
TakesOf {M} (Some t) got u = (v : Took M) × TakeGives t got v × (u ≡ Some v)

-- who is pushed to
abbrev pub PushesTo : {M : Type 0} → Lines M → Target → M → Got M → Lines M → Type 0
PushesTo l (targets.Reactor n) m got k = PushesAt l.reactors.items n m got k.reactors.items × (k.taker ≡ l.taker) × (k.workers ≡ l.workers) × (k.taskers ≡ l.taskers)
PushesTo l (targets.Worker n) m got k = PushesAt l.workers.items n m got k.workers.items × (k.taker ≡ l.taker) × (k.reactors ≡ l.reactors) × (k.taskers ≡ l.taskers)
PushesTo l (targets.Tasker n) m got k = PushesAt l.taskers.items n m got k.taskers.items × (k.taker ≡ l.taker) × (k.reactors ≡ l.reactors) × (k.workers ≡ l.workers)

-- the pipe call that an actor asked for, what it gave, and the ends of its pipes then
abbrev pub Calls : {M : Type 0} → Ask M → Lines M → Got M → Lines M → Type 0
Calls asks.Take l got k = TakesOf l.taker got k.taker × (k.reactors ≡ l.reactors) × (k.workers ≡ l.workers) × (k.taskers ≡ l.taskers)
Calls (asks.Push to m) l got k = PushesTo l to m got k
Calls asks.Nothing l got k = (got ≡ gots.Nothing) × (k ≡ l)
Calls asks.Rest l got k = (got ≡ gots.Nothing) × (k ≡ l)
Calls asks.Finished l got k = (got ≡ gots.Nothing) × (k ≡ l)
