-- A pipe's calls.
use Rattle.std.specs.Prelude.{ℕ, nat_lt, if◌then◌else◌, List, [], ◌∷◌, ◌++◌, length}
use Rattle.sw_data.specs.declared.messages.Msg.{Msg}
use Rattle.sw_data.specs.declared.messages.Ask.{Ask}
use Rattle.sw_data.specs.declared.messages.Got.{Got}
use Rattle.sw_data.specs.declared.messages.Got.TheVariants.{Took, Empty, Pushed, Full}
use Rattle.sw_link.specs.declared.memory_link.MemoryLink.{MemoryLink}

-- a message of the core: a ticket is its session's number
abbrev pub Sent : Type 0
Sent = Msg MemoryLink ℕ

-- what is asked of the pipes, and what they answer
abbrev pub Asking : Type 0
Asking = Ask Sent

abbrev pub Getting : Type 0
Getting = Got Sent

-- the messages that wait, and for how many there is room
pub record Pipe : Type 0 where
  pub waiting : List Sent
  pub room : ℕ

-- a take gives the first message
abbrev pub taken : List Sent → Getting
taken [] = Empty
taken (m ∷ ms) = Took m

-- and leaves the others
abbrev pub left : List Sent → List Sent
left [] = []
left (m ∷ ms) = ms

-- a push answers so
abbrev pub pushed : Pipe → Sent → Getting
pushed p m = if nat_lt (length p.waiting) p.room then Pushed else Full m

-- and leaves the pipe so
abbrev pub with_pushed : Pipe → Sent → Pipe
with_pushed p m = if nat_lt (length p.waiting) p.room then record p { waiting = p.waiting ++ m ∷ [] } else p
