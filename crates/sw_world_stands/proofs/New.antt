-- Links on their way stay new.
use Rattle.std.proofs.Common.{◌≡◌, ◌⊎◌, List, [], ◌∷◌, ◌++◌, subst, inl, inr}
use Rattle.sw_lists.specs.Lists.{Each}
use Rattle.sw_step.specs.declared.actor.ActorId.{ActorId}
use Rattle.sw_step.specs.declared.actor.ActorId.TheVariants.{Door}
use Rattle.sw_data.specs.declared.messages.Msg.TheVariants as msgs
use Rattle.sw_data.specs.declared.messages.Ask.TheVariants as asks
use Rattle.sw_world_places.specs.Pipes.{Sent, taken, left}
use Rattle.sw_world_places.specs.Place.{next_left}
use Rattle.sw_world_places.specs.declared.place.Next.{Next}
use Rattle.sw_world_places.specs.declared.place.Next.TheVariants as nexts
use Rattle.sw_world_stands.specs.Asked.{bare_of}
use Rattle.sw_world_stands.specs.New.{CarriesNew, NoLink, OfDoor, GotNew, NextNew}

-- one message more
pub each_behind : (ms : List Sent) (m : Sent) → Each CarriesNew ms → CarriesNew m → Each CarriesNew (ms ++ m ∷ [])
each_behind [] m h new = (new, tt)
each_behind (x ∷ ms) m h new = (h.0, each_behind ms m h.1 new)

-- a message without a link
none_carried : (m : Sent) → NoLink (bare_of m) → CarriesNew m
none_carried (msgs.Fresh link ip ticket) n = absurd n
none_carried (msgs.Send s b) n = tt
none_carried (msgs.Close s) n = tt
none_carried (msgs.Reset s) n = tt
none_carried (msgs.Bye s) n = tt
none_carried (msgs.Event e) n = tt
none_carried (msgs.Over id) n = tt
none_carried msgs.NoMore n = tt

-- what is pushed is the door's, or without a link
pub carries : (y : ActorId) (m : Sent) → OfDoor y (CarriesNew m) → (y ≡ Door) ⊎ NoLink (bare_of m) → CarriesNew m
carries y m new (inl e) = subst (λ (z : ActorId). OfDoor z (CarriesNew m)) e new
carries y m new (inr n) = none_carried m n

-- what stays where what is next was taken out
pub left_new : (y : ActorId) (x : Next) → NextNew y (next_left x)
left_new y (nexts.Gave got) = tt
left_new y (nexts.Asked asks.Take) = tt
left_new y (nexts.Asked (asks.Push to m)) = tt
left_new y (nexts.Asked asks.Nothing) = tt
left_new y (nexts.Asked asks.Rest) = tt
left_new y (nexts.Asked asks.Finished) = tt

-- a take
pub taken_new : (y : ActorId) (ms : List Sent) → Each CarriesNew ms → GotNew y (taken ms)
taken_new y [] h = tt
taken_new y (m ∷ ms) h = h.0

pub left_links : (ms : List Sent) → Each CarriesNew ms → Each CarriesNew (left ms)
left_links [] h = tt
left_links (m ∷ ms) h = h.1
