-- What the words are, what each seat knows of them, and what the steps of all seats have to do with one another.
use Rattle.std.specs.Prelude.{◌≡◌, ℕ, zero, suc, ◌+◌, ◌*◌, ◌≤◌, ◌<◌, ◌⊎◌, sum, Bool, true, List, [], ◌∷◌, ◌++◌, length, slice_index}
use mathlib.Core.Option.{some}
use lib.ListN.{get_elem?}
use Rattle.atomic_table.specs.Table.{State}
use Rattle.sw_base.specs.declared.counter.Counter.{Counter}
use Rattle.sw_port_board.specs.declared.board.BoardStep.{BoardStep}
use Rattle.sw_port_board.specs.declared.board.BoardStep.TheVariants.{Marked, Found, Stopped, SawStop, Added, Read}
use Rattle.sw_port_board.specs.Board.{In, capped, counter_number, one_if, added, is_idle_after, knows_stop, Agrees, AllAgree, reads}
use Rattle.sw_board.specs.declared.rule.Log.{Log}
use Rattle.sw_board.specs.declared.rule.View.{View}

-- The stop word is word 0. Each actor has a row of 16 words, so that no two actors' words and no actor's word and the stop word stand within 64 bytes of each other
abbrev pub row : ℕ → ℕ
row actor = (actor + 1) * 16

abbrev pub count_word : Counter → ℕ → ℕ
count_word c actor = row actor + counter_number c

abbrev pub idle_word : ℕ → ℕ
idle_word actor = row actor + 6

-- the words of a board
abbrev pub words_of : ℕ → ℕ
words_of actors = row actors

abbrev pub log : ℕ → List BoardStep → Log
log actor steps = record { actor = actor; steps = steps }

-- the views: who deals the seats, who has these logs, and one actor's
abbrev pub dealer : ℕ → ℕ → View
dealer next left = record { next = next; left = left; logs = [] }

abbrev pub holder : List Log → View
holder logs = record { next = 0; left = 0; logs = logs }

abbrev pub seat : ℕ → List BoardStep → View
seat actor steps = holder (log actor steps ∷ [])

abbrev pub first_log : List Log → Log
first_log [] = log 0 []
first_log (l ∷ ls) = l

abbrev pub actor_of : View → ℕ
actor_of v = (first_log v.logs).actor

abbrev pub steps_of : View → List BoardStep
steps_of v = (first_log v.logs).steps

-- the actor's view after one step more
abbrev pub logged : View → BoardStep → View
logged v x = seat (actor_of v) (steps_of v ++ x ∷ [])

-- what the actor's earlier steps tell of this one
abbrev pub Matches : View → BoardStep → Type 0
Matches v x = Agrees (actor_of v) (steps_of v) x

-- f of each, added up
abbrev pub total : (View → ℕ) → List View → ℕ
total f [] = 0
total f (v ∷ vs) = f v + total f vs

-- f of each number below n, added up
abbrev pub sum_below : (ℕ → ℕ) → ℕ → ℕ
sum_below f zero = 0
sum_below f (suc n) = sum_below f n + f n

-- how many actors a view stands for
abbrev pub parts : View → ℕ
parts v = length v.logs + v.left

-- how often these logs added to a counter
abbrev pub added_in : Counter → List Log → ℕ
added_in c [] = 0
added_in c (l ∷ ls) = added c l.steps + added_in c ls

-- What a step found has its cause in another's steps
abbrev pub Told : ℕ → (ℕ → List BoardStep) → BoardStep → Type 0
Told actors steps (Marked idle) = Unit {0}
Told actors steps (Found actor idle) = (actor < actors) × (idle ≡ true → In (Marked true) (steps actor))
Told actors steps Stopped = Unit {0}
Told actors steps (SawStop set) = Unit {0}
Told actors steps (Added c) = Unit {0}
Told actors steps (Read c actor n) = (actor < actors) × (n ≤ added c (steps actor))

-- the view stands for this actor, which made these steps
abbrev pub Has : View → ℕ → List BoardStep → Type 0
Has v actor steps = In (log actor steps) v.logs ⊎ ((v.next ≤ actor) × (actor < v.next + v.left))

-- the logs of a seat are what its actors did, and these are its own
pub record Fits (actors : ℕ) (owner : ℕ → ℕ) (steps : ℕ → List BoardStep) (at : ℕ) (v : View) : Type 0 where
  pub mine : (l : Log) → In l v.logs → (l.actor < actors) × (owner l.actor ≡ at) × (l.steps ≡ steps l.actor)
  pub rest : (a : ℕ) → v.next ≤ a → a < v.next + v.left → (owner a ≡ at) × (steps a ≡ [])
  pub within : v.next + v.left ≤ actors

-- each word is its owner's last store
pub record Kept {S : Type 0} (actors : ℕ) (s : State S View) : Type 0 where
  pub owner : ℕ → ℕ
  pub steps : ℕ → List BoardStep
  pub stopped : Bool
  pub sized : length s.words ≡ words_of actors
  pub stop : slice_index s.words 0 ≡ one_if stopped
  pub idle : (a : ℕ) → a < actors → slice_index s.words (idle_word a) ≡ one_if (is_idle_after (steps a))
  pub count : (a : ℕ) → a < actors → (c : Counter) → slice_index s.words (count_word c a) ≡ capped (added c (steps a))
  pub maker : stopped ≡ true → (a : ℕ) × (a < actors) × In Stopped (steps a)
  pub heard : (a : ℕ) → a < actors → knows_stop (steps a) ≡ true → stopped ≡ true
  pub told : (a : ℕ) → a < actors → (x : BoardStep) → In x (steps a) → Told actors steps x
  pub agreed : (a : ℕ) → a < actors → AllAgree a [] (steps a)
  pub shared : total parts s.views ≡ actors
  pub counted : (c : Counter) → total (λ v. added_in c v.logs) s.views ≡ sum_below (λ a. added c (steps a)) actors
  pub there : (a : ℕ) → a < actors → (v : View) × (get_elem? s.views (owner a) ≡ some v) × Has v a (steps a)
  pub fits : (at : ℕ) (v : View) → get_elem? s.views at ≡ some v → Fits actors owner steps at v

-- what holds of the logs of all actors
pub record Settled (actors : ℕ) (logs : List Log) : Type 0 where
  pub stops : (l : Log) → In l logs → In (SawStop true) l.steps → (k : Log) × In k logs × In Stopped k.steps
  pub idles : (l : Log) (a : ℕ) → In l logs → In (Found a true) l.steps → (k : Log) × In k logs × (k.actor ≡ a) × In (Marked true) k.steps
  pub sums : (l : Log) (c : Counter) (words : List ℕ) → In l logs → length words ≡ actors → ((x : BoardStep) → In x (reads c words) → In x l.steps) → sum words ≤ added_in c logs
  pub agreed : (l : Log) → In l logs → (l.actor < actors) × AllAgree l.actor [] l.steps
