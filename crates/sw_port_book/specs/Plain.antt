-- The plain book: its words, and what each call makes of them.
use Rattle.std.specs.Prelude.{◌≡◌, ◌≢◌, ℕ, zero, suc, ◌+◌, ◌%◌, ◌<◌, ◌≤◌, ◌==◌, if◌then◌else◌, List, length, slice_index_or, slice_set, Result, Ok, Err}
use Rattle.sw_port_book.specs.declared.word.Word.{Word}
use Rattle.sw_port_book.specs.declared.answers.ClaimFault.{ClaimFault}
use Rattle.sw_port_book.specs.declared.answers.ClaimFault.TheVariants.{Full, Spent}
use Rattle.sw_port_book.specs.Claims.{In}

-- what contracts see of a plain book: the last number drawn, and the word of each slot
pub record Words : Type 0 where
  pub last : ℕ
  pub slots : List Word

-- a slot that no session has
abbrev pub free : Word
free = record { number = 0; uid = 0 }

-- the word of a slot
abbrev pub word_in : Words → ℕ → Word
word_in words slot = slice_index_or words.slots slot free

-- the word of a session's slot
abbrev pub word_of : Words → ℕ → Word
word_of words session = word_in words (session % length words.slots)

-- the words with another one in a session's slot
abbrev pub with_word : Words → ℕ → Word → Words
with_word words session word = record words { slots = slice_set words.slots (session % length words.slots) word }

-- a session stands in its slot
abbrev pub Stands : Words → ℕ → Type 0
Stands words session = (word_of words session).number ≡ session

-- each number that stands in a slot is one of these
abbrev pub LiveAmong : Words → List ℕ → Type 0
LiveAmong words numbers =
    (slot : ℕ) → slot < length words.slots → (word_in words slot).number ≢ 0 → In (word_in words slot).number numbers

-- the words after a bind that found this word
abbrev pub bound : Words → ℕ → ℕ → Word → Words
bound words session uid found =
    if found.number == session then (if found.uid == 0 then with_word words session record { number = session; uid = uid } else words) else words

-- an answer, and the words that are left
pub record Claimed : Type 0 where
  pub answer : Result ℕ ClaimFault
  pub words : Words

-- the words with the next number drawn
abbrev pub drawn : Words → Words
drawn words = record words { last = words.last + 1 }

-- the words with the next number drawn, and in its slot
abbrev pub taken : Words → Words
taken words = with_word (drawn words) (words.last + 1) record { number = words.last + 1; uid = 0 }

-- a claim that may still make so many tries
abbrev pub claim_in : ℕ → Words → Claimed
claim_in zero words = record { answer = Err (Full (length words.slots)); words = words }
claim_in (suc tries) words =
    if words.last == 4294967295
    then record { answer = Err Spent; words = words }
    else (if (word_of words (words.last + 1)).number == 0
    then record { answer = Ok (words.last + 1); words = taken words }
    else claim_in tries (drawn words))

-- a claim makes at most as many tries as there are slots
abbrev pub plain_claim : Words → Claimed
plain_claim words = claim_in (length words.slots) words

-- what holds of every plain book: it has a slot, and a number stands in its own slot alone
pub record IsBook (words : Words) : Type 0 where
  pub some : 1 ≤ length words.slots
  pub few : length words.slots ≤ 4294967295
  pub own : (slot : ℕ) → slot < length words.slots → (word_in words slot).number ≢ 0 → (word_in words slot).number % length words.slots ≡ slot

-- a try of the next number meets a number that stands in its own slot
pub record Meets (words : Words) : Type 0 where
  pub live : (word_of words (words.last + 1)).number ≢ 0
  pub own : (word_of words (words.last + 1)).number % length words.slots ≡ (words.last + 1) % length words.slots
  pub some : 1 ≤ length words.slots
