-- What the steps on a board's words say of one another, and what a call answers by the words that it read.
use Rattle.std.specs.Prelude.{◌≡◌, ℕ, zero, suc, ◌+◌, ◌-◌, ◌%◌, ◌^◌, ◌<◌, ◌==◌, ◌⊎◌, ◌||◌, min, sum, Bool, true, false, List, [], ◌∷◌, ◌++◌, length, Option, Some, None}
use Rattle.sw_base.specs.declared.counter.Counter.{Counter}
use Rattle.sw_base.specs.declared.counter.Counter.TheVariants.{Accepted, Ended, Packets, Sends, Tasks, Finishes}
use Rattle.sw_port_board.specs.declared.crew.Crew.{Crew}
use Rattle.sw_port_board.specs.declared.crew.Crew.TheVariants.{Workers, Taskers}
use Rattle.sw_port_board.specs.declared.crew.Sizes.{Sizes}
use Rattle.sw_port_board.specs.declared.board.BoardStep.{BoardStep}
use Rattle.sw_port_board.specs.declared.board.BoardStep.TheVariants.{Marked, Found, Stopped, SawStop, Added, Read}

-- x is in the list
abbrev pub In : {A : Type 0} → A → List A → Type 0
In x [] = ⊥
In x (y ∷ ys) = (x ≡ y) ⊎ In x ys

-- how many members a crew has
abbrev pub members : Crew → Sizes → ℕ
members Workers z = z.workers
members Taskers z = z.taskers

-- the actor that is a crew's first member; the others follow it
abbrev pub first_of : Crew → Sizes → ℕ
first_of Workers z = 0
first_of Taskers z = z.workers

-- a count stops at the greatest number of 64 bits
abbrev pub capped : ℕ → ℕ
capped n = min n (2 ^ 64 - 1)

abbrev pub counter_number : Counter → ℕ
counter_number Accepted = 0
counter_number Ended = 1
counter_number Packets = 2
counter_number Sends = 3
counter_number Tasks = 4
counter_number Finishes = 5

abbrev pub one_if : Bool → ℕ
one_if true = 1
one_if false = 0

-- 1 for a step that adds to this counter
abbrev pub adds : Counter → BoardStep → ℕ
adds c (Marked idle) = 0
adds c (Found actor idle) = 0
adds c Stopped = 0
adds c (SawStop set) = 0
adds c (Added d) = one_if (counter_number c == counter_number d)
adds c (Read d actor n) = 0

-- how often these steps added to a counter
abbrev pub added : Counter → List BoardStep → ℕ
added c [] = 0
added c (x ∷ xs) = adds c x + added c xs

abbrev pub mark_after : Bool → BoardStep → Bool
mark_after idle (Marked now) = now
mark_after idle (Found actor found) = idle
mark_after idle Stopped = idle
mark_after idle (SawStop set) = idle
mark_after idle (Added c) = idle
mark_after idle (Read c actor n) = idle

-- what was marked last, where it was `idle` before these steps
abbrev pub mark_from : Bool → List BoardStep → Bool
mark_from idle [] = idle
mark_from idle (x ∷ xs) = mark_from (mark_after idle x) xs

-- whether these steps marked idle last; busy before the first mark
abbrev pub is_idle_after : List BoardStep → Bool
is_idle_after steps = mark_from false steps

abbrev pub shows_stop : BoardStep → Bool
shows_stop (Marked idle) = false
shows_stop (Found actor idle) = false
shows_stop Stopped = true
shows_stop (SawStop set) = set
shows_stop (Added c) = false
shows_stop (Read c actor n) = false

-- whether one of these steps set the stop word or found it set
abbrev pub knows_stop : List BoardStep → Bool
knows_stop [] = false
knows_stop (x ∷ xs) = shows_stop x || knows_stop xs

-- What an actor's earlier steps tell of a word that it reads now: its own words are as it stored them last, and the stop word stays set
abbrev pub Agrees : ℕ → List BoardStep → BoardStep → Type 0
Agrees self before (Marked idle) = Unit {0}
Agrees self before (Found actor idle) = actor ≡ self → idle ≡ is_idle_after before
Agrees self before Stopped = Unit {0}
Agrees self before (SawStop set) = knows_stop before ≡ true → set ≡ true
Agrees self before (Added c) = Unit {0}
Agrees self before (Read c actor n) = actor ≡ self → n ≡ capped (added c before)

-- each of the further steps agrees with all before it
abbrev pub AllAgree : ℕ → List BoardStep → List BoardStep → Type 0
AllAgree self before [] = Unit {0}
AllAgree self before (x ∷ xs) = Agrees self before x × AllAgree self (before ++ x ∷ []) xs

-- the first n members from `from` upwards and round, each found busy
abbrev pub found_busy : ℕ → ℕ → ℕ → ℕ → List BoardStep
found_busy first size from zero = []
found_busy first size from (suc n) = found_busy first size from n ++ Found (first + (from + n) % size) false ∷ []

-- An `idle` that answered so: the first member that was found idle, from `from` upwards and round, or each was found busy
abbrev pub FindsIdle : {B : Type 0} → (B → List BoardStep → B → Type 0) → Sizes → Crew → ℕ → B → Option ℕ → B → Type 0
FindsIdle goes z crew from b (Some m) d =
    (n : ℕ) × (n < members crew z) × (m ≡ (from + n) % members crew z)
    × goes b (found_busy (first_of crew z) (members crew z) from n ++ Found (first_of crew z + m) true ∷ []) d
FindsIdle goes z crew from b None d = goes b (found_busy (first_of crew z) (members crew z) from (members crew z)) d

-- the words of a counter, each read once, from this actor's on
abbrev pub reads_from : Counter → ℕ → List ℕ → List BoardStep
reads_from c actor [] = []
reads_from c actor (n ∷ ns) = Read c actor n ∷ reads_from c (actor + 1) ns

-- the words of a counter, each read once, from the first actor's on
abbrev pub reads : Counter → List ℕ → List BoardStep
reads c words = reads_from c 0 words

-- A `sum` that answered so: each actor's word was read once, and their sum stops at the greatest number of 64 bits
abbrev pub SumsUp : {B : Type 0} → (B → List BoardStep → B → Type 0) → Sizes → Counter → B → ℕ → B → Type 0
SumsUp goes z c b n d = (words : List ℕ) × (length words ≡ z.actors) × (n ≡ capped (sum words)) × goes b (reads c words) d
