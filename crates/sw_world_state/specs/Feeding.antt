-- Steps of links' scripts: to the reactor that has the link, or kept until a reactor takes it.
use Rattle.std.specs.Prelude.{◌≡◌, ℕ, List, Option, Some, None, Ok}
use Rattle.sw_base.specs.declared.out_of_memory.OutOfMemory.{OutOfMemory}
use Rattle.sw_data.specs.declared.messages.Msg.TheVariants as msgs
use Rattle.sw_data.specs.declared.messages.Got.TheVariants as gots
use Rattle.sw_link.specs.declared.memory_link.LinkStep.{LinkStep}
use Rattle.sw_link.specs.declared.memory_link.MemoryLink.{MemoryLink}
use Rattle.sw_world_places.specs.Links.{kept, session_in, TakesAhead}
use Rattle.sw_world_places.specs.Pipes.{Sent, Getting}
use Rattle.sw_world_front.specs.declared.front.Front.{Front}
use Rattle.sw_world_reactors.specs.Owners.{AtOwner, Adds}
use Rattle.sw_world_whole.specs.Scripts.{fed}
use Rattle.sw_world_state.specs.declared.state.State.{State}

-- a step that was given back is kept with the link
abbrev pub KeepsLeft : ℕ → Option LinkStep → Front → Front → Type 0
KeepsLeft link None f g = g ≡ f
KeepsLeft link (Some step) f g = g ≡ record f { links = kept link step f.links }

-- a step is given to a reactor, or kept where the link has no session or no reactor has it
abbrev pub ScriptsBy : {H T : Type 0} → Option ℕ → State H T → ℕ → LinkStep → State H T → Type 0
ScriptsBy None s link step n = n ≡ record s { front = record s.front { links = kept link step s.front.links } }
ScriptsBy (Some session) s link step n =
    (k : ℕ) × ((left : Option LinkStep) × (AtOwner s.reactors k (λ o q. Adds {F = OutOfMemory} session step o (Ok left) q) n.reactors
    × KeepsLeft link left s.front n.front × (n ≡ record s { front = n.front; reactors = n.reactors })))

abbrev pub Scripts : {H T : Type 0} → State H T → ℕ → LinkStep → State H T → Type 0
Scripts s link step n = ScriptsBy (session_in s.front.links link) s link step n

-- a link that comes is given the steps that were kept for it
abbrev pub FeedsLink : Front → ℕ → MemoryLink → MemoryLink → Front → Type 0
FeedsLink f session l m g = (ss : List LinkStep) × (TakesAhead f.links session ss g.links × (g ≡ record f { links = g.links }) × (m ≡ fed ss l))

-- a message with it
abbrev pub FeedsMessage : Front → Sent → Sent → Front → Type 0
FeedsMessage f (msgs.Fresh link ip ticket) m g = (l : MemoryLink) × (FeedsLink f ticket link l g × (m ≡ msgs.Fresh l ip ticket))
FeedsMessage f (msgs.Send s b) m g = (m ≡ msgs.Send s b) × (g ≡ f)
FeedsMessage f (msgs.Close s) m g = (m ≡ msgs.Close s) × (g ≡ f)
FeedsMessage f (msgs.Reset s) m g = (m ≡ msgs.Reset s) × (g ≡ f)
FeedsMessage f (msgs.Bye s) m g = (m ≡ msgs.Bye s) × (g ≡ f)
FeedsMessage f (msgs.Event e) m g = (m ≡ msgs.Event e) × (g ≡ f)
FeedsMessage f (msgs.Over id) m g = (m ≡ msgs.Over id) × (g ≡ f)
FeedsMessage f msgs.NoMore m g = (m ≡ msgs.NoMore) × (g ≡ f)

-- what a turn begins with
abbrev pub FeedsTaken : Front → Getting → Getting → Front → Type 0
FeedsTaken f (gots.Took m) made g = (k : Sent) × (FeedsMessage f m k g × (made ≡ gots.Took k))
FeedsTaken f gots.Start made g = (made ≡ gots.Start) × (g ≡ f)
FeedsTaken f gots.Empty made g = (made ≡ gots.Empty) × (g ≡ f)
FeedsTaken f gots.Pushed made g = (made ≡ gots.Pushed) × (g ≡ f)
FeedsTaken f (gots.Full m) made g = (made ≡ gots.Full m) × (g ≡ f)
FeedsTaken f gots.Nothing made g = (made ≡ gots.Nothing) × (g ≡ f)
