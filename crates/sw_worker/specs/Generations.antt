-- A worker's handlers, one behind the other.
use Rattle.std.specs.Prelude.{◌≡◌, ℕ, ◌+◌, ◌==◌, nat_lt, Bool, false, if◌then◌else◌, List, length, map, slice_get, slice_set, Some}
use Rattle.sw_data.specs.declared.acts.Act.{Act}
use Rattle.sw_data.specs.declared.given.Given.{Given}
use Rattle.sw_data.specs.declared.given.Given.TheVariants.{Event as EventGiven, Answer as AnswerGiven}
use Rattle.sw_hand.specs.Ports.{Acting}

-- the handlers, the place of the one at hand, its count of events, and how many they may be where another follows it, 0 for any number
pub record Line (H : Type 0) : Type 0 where
  pub items : List H
  pub at : ℕ
  pub events : ℕ
  pub most : ℕ

-- the first of these is at hand
abbrev pub first_of : {H : Type 0} → List H → ℕ → Line H
first_of items most = record { items = items; at = 0; events = 0; most = most }

-- the next event goes to the next handler
abbrev pub is_due : {H : Type 0} → Line H → Bool
is_due g = if g.most == 0 then false else if g.events == g.most then nat_lt (g.at + 1) (length g.items) else false

abbrev pub renewed : {H : Type 0} → Line H → Line H
renewed g = if is_due g then record g { at = g.at + 1; events = 0 } else g

-- one more event, up to how many they may be
abbrev pub counted : {H : Type 0} → Line H → Line H
counted g = if nat_lt g.events g.most then record g { events = g.events + 1 } else g

-- the handler at hand was given this and acted so, and all others are as before
abbrev pub ActsAt : {H : Type 0} → Acting H → Line H → Given → Act → Line H → Type 0
ActsAt {H} acts g given act k =
    (old : H) × ((new : H) × ((slice_get g.items g.at ≡ Some old) × acts old given act new × (k ≡ record g { items = slice_set g.items g.at new })))

-- an event goes to the next handler where it is due, and is counted
abbrev pub Acts : {H : Type 0} → Acting H → Line H → Given → Act → Line H → Type 0
Acts acts g (EventGiven e) act k = ActsAt acts (counted (renewed g)) (EventGiven e) act k
Acts acts g (AnswerGiven a) act k = ActsAt acts g (AnswerGiven a) act k

-- what each handler was made with
abbrev pub made : {H M : Type 0} → (H → M) → Line H → List M
made by g = map by g.items
