-- The sends of a log.
use Rattle.std.specs.Prelude.{ℕ, ◌==◌, [], ◌∷◌, ◌++◌, List}
use Rattle.sw_lists.specs.Lists.{when}
use Rattle.sw_record.specs.Words.{Act, Send, Done, Sent, Given, AnswerGiven, Log}

-- the bytes that an act sends to s
abbrev pub sends_to : ℕ → Act → List (List ℕ)
sends_to s (Send u b) = when (u == s) b
sends_to s _ = []

-- the same, if this is given behind it
abbrev pub sent_to : ℕ → Act → Given → List (List ℕ)
sent_to s act (AnswerGiven Sent) = sends_to s act
sent_to s act _ = []

-- the sends to s behind an act that was answered Sent, or is the last
abbrev pub sends_after : ℕ → Act → Log → List (List ℕ)
sends_after s act [] = sends_to s act
sends_after s act (x ∷ xs) = sent_to s act x.0 ++ sends_after s x.1 xs

-- the bytes of a log's sends to s that were answered Sent, and of one that is its last act, in order
abbrev pub Sends : Log → ℕ → List (List ℕ)
Sends log s = sends_after s Done log

-- the sends to s of the acts of a log's beginning, as the whole log answers them
abbrev pub sends_before : ℕ → Act → Log → Log → List (List ℕ)
sends_before s act [] [] = sends_to s act
sends_before s act [] (y ∷ ys) = sent_to s act y.0
sends_before s act (x ∷ xs) late = sent_to s act x.0 ++ sends_before s x.1 xs late
