-- What a cutter is at, and what it answers next.
use Rattle.std.specs.Prelude.{◌≡◌, ℕ, ◌+◌, List, length, drop, Option, Some, None, slice_get}
use Rattle.std.specs.List.{concat}
use Rattle.sw_cut.specs.declared.First.{First}
use Rattle.sw_cut.specs.declared.First.TheVariants as first
use Rattle.sw_frame.specs.Cut.{Cut, cut}
use Rattle.sw_frame.specs.declared.framing.Framing.{Framing}
use Rattle.sw_frame.specs.declared.next.Next.{Next}
use Rattle.sw_frame.specs.declared.next.Next.TheVariants.{Packet, More, TooLong, BadLength, OutOfMemory}

-- the framing, the pieces that were fed, and how many packets were given
pub record Cutting : Type 0 where
  pub framing : Framing
  pub pieces : List (List ℕ)
  pub given : ℕ

-- the cut of the pieces that were fed
abbrev pub cut_of : Cutting → Cut
cut_of c = cut c.framing c.pieces

-- how many bytes were fed and weren't given yet
abbrev pub ahead : Cutting → ℕ
ahead c = length (concat (drop c.given (cut_of c).packets)) + length (cut_of c).rest

-- the answer where no packet is left, by the fault of the rest
abbrev pub next_rest : Option First → Next
next_rest None = More
next_rest (Some (first.Packet _)) = More
next_rest (Some first.More) = More
next_rest (Some (first.TooLong n)) = TooLong n
next_rest (Some (first.BadLength n)) = BadLength n

-- the answer, by the packet that is next, if there is one
abbrev pub next_by : Option First → Option (List ℕ) → Next
next_by fault (Some p) = Packet p
next_by fault None = next_rest fault

-- the answer that comes next
abbrev pub next_of : Cutting → Next
next_of c = next_by (cut_of c).fault (slice_get (cut_of c).packets c.given)

-- the cutter behind an answer: one packet more was given, or nothing is changed
abbrev pub after : Cutting → Next → Cutting
after c (Packet _) = record c { given = c.given + 1 }
after c More = c
after c (TooLong _) = c
after c (BadLength _) = c
after c OutOfMemory = c

-- an answer is what is due, or memory was wanted where a packet is due
abbrev pub IsAnswer : Next → Next → Type 0
IsAnswer due (Packet p) = Packet p ≡ due
IsAnswer due More = More ≡ due
IsAnswer due (TooLong n) = TooLong n ≡ due
IsAnswer due (BadLength n) = BadLength n ≡ due
IsAnswer due OutOfMemory = (p : List ℕ) × (due ≡ Packet p)
