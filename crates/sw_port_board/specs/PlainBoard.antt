-- The plain board: the words as lists, and what a step finds in them and leaves.
use Rattle.std.specs.Prelude.{◌≡◌, ℕ, ◌+◌, Bool, true, false, List, [], ◌∷◌, slice_index_or, slice_set}
use Rattle.sw_base.specs.declared.counter.Counter.{Counter}
use Rattle.sw_base.specs.declared.counter.Counter.TheVariants.{Accepted, Ended, Packets, Sends, Tasks, Finishes}
use Rattle.sw_port_board.specs.Board.{capped}
use Rattle.sw_port_board.specs.declared.crew.Sizes.{Sizes}
use Rattle.sw_port_board.specs.declared.board.BoardStep.{BoardStep}
use Rattle.sw_port_board.specs.declared.board.BoardStep.TheVariants.{Marked, Found, Stopped, SawStop, Added, Read}
use Rattle.sw_port_board.specs.declared.counts.Counts.{Counts}

-- the actor whose words `mark` and `add` write is `turn`; `idle` has a word for each worker and task worker, `counts` those of each actor
pub record PlainWords : Type 0 where
  pub sizes : Sizes
  pub turn : ℕ
  pub idle : List Bool
  pub stopped : Bool
  pub counts : List Counts

abbrev pub plain_words : Sizes → ℕ → List Bool → Bool → List Counts → PlainWords
plain_words sizes turn idle stopped counts = record { sizes = sizes; turn = turn; idle = idle; stopped = stopped; counts = counts }

abbrev pub no_counts : Counts
no_counts = record { accepted = 0; ended = 0; packets = 0; sends = 0; tasks = 0; finishes = 0 }

abbrev pub count_of : Counter → Counts → ℕ
count_of Accepted k = k.accepted
count_of Ended k = k.ended
count_of Packets k = k.packets
count_of Sends k = k.sends
count_of Tasks k = k.tasks
count_of Finishes k = k.finishes

-- one more of a counter, as far as it goes
abbrev pub counted : Counter → Counts → Counts
counted Accepted k = record k { accepted = capped (k.accepted + 1) }
counted Ended k = record k { ended = capped (k.ended + 1) }
counted Packets k = record k { packets = capped (k.packets + 1) }
counted Sends k = record k { sends = capped (k.sends + 1) }
counted Tasks k = record k { tasks = capped (k.tasks + 1) }
counted Finishes k = record k { finishes = capped (k.finishes + 1) }

-- the words after a step; the mark of an actor without an idle word changes nothing
abbrev pub plain_after : PlainWords → BoardStep → PlainWords
plain_after b (Marked idle) = record b { idle = slice_set b.idle b.turn idle }
plain_after b (Found actor idle) = b
plain_after b Stopped = record b { stopped = true }
plain_after b (SawStop set) = b
plain_after b (Added c) = record b { counts = slice_set b.counts b.turn (counted c (slice_index_or b.counts b.turn no_counts)) }
plain_after b (Read c actor n) = b

-- what a step found is what the word has
abbrev pub PlainShows : PlainWords → BoardStep → Type 0
PlainShows b (Marked idle) = Unit {0}
PlainShows b (Found actor idle) = idle ≡ slice_index_or b.idle actor false
PlainShows b Stopped = Unit {0}
PlainShows b (SawStop set) = set ≡ b.stopped
PlainShows b (Added c) = Unit {0}
PlainShows b (Read c actor n) = n ≡ count_of c (slice_index_or b.counts actor no_counts)

-- each step finds what the words have then, and they are left so
abbrev pub PlainGoes : PlainWords → List BoardStep → PlainWords → Type 0
PlainGoes b [] d = d ≡ b
PlainGoes b (x ∷ xs) d = PlainShows b x × PlainGoes (plain_after b x) xs d
