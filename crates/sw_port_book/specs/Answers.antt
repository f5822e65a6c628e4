-- What the calls of a book answer, by the word that each of them read.
use Rattle.std.specs.Prelude.{◌≡◌, ℕ, zero, suc, ◌==◌, if◌then◌else◌, Result, Ok, Err}
use Rattle.sw_port_book.specs.declared.word.Word.{Word}
use Rattle.sw_port_book.specs.declared.answers.Look.{Look}
use Rattle.sw_port_book.specs.declared.answers.Look.TheVariants.{Live, Other}
use Rattle.sw_port_book.specs.declared.answers.BindFault.{BindFault}
use Rattle.sw_port_book.specs.declared.answers.BindFault.TheVariants as fault

-- a look at a session that found this word in its slot
abbrev pub look_answer : ℕ → Word → Look
look_answer session found = if found.number == session then Live found.uid else Other found.number

-- a bind of a session, to a uid other than 0, that found this word in its slot
abbrev pub bind_answer : ℕ → Word → Result (Unit {0}) BindFault
bind_answer session found =
    if found.number == session then (if found.uid == 0 then Ok tt else Err (fault.Bound found.uid)) else Err (fault.Other found.number)

-- a look found a word, and answered by it
abbrev pub Looks : {B : Type 0} → (B → ℕ → Word → B → Type 0) → B → ℕ → Look → B → Type 0
Looks finds before session answer after = (found : Word) × finds before session found after × (answer ≡ look_answer session found)

-- a bind to 0 was refused and changed nothing; any other found a word, and answered by it
abbrev pub Binds : {B : Type 0} → (B → ℕ → ℕ → Word → B → Type 0) → B → ℕ → ℕ → Result (Unit {0}) BindFault → B → Type 0
Binds finds before session zero answer after = (answer ≡ Err fault.BadUid) × (after ≡ before)
Binds finds before session (suc uid) answer after =
    (found : Word) × finds before session (suc uid) found after × (answer ≡ bind_answer session found)

-- the size is the same, and what was held is held
abbrev pub Keeps : {B K : Type 0} → (B → ℕ) → (B → K → Type 0) → B → B → Type 0
Keeps {B} {K} size holds before after = (size after ≡ size before) × ((ticket : K) → holds before ticket → holds after ticket)
