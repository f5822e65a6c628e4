-- What the words are, and what each seat knows of them.
use Rattle.std.specs.Prelude.{◌≡◌, ◌≢◌, ℕ, zero, suc, ◌+◌, ◌*◌, ◌/◌, ◌%◌, ◌≤◌, ◌<◌, true, false, List, [], ◌∷◌, ◌++◌, length, slice_index}
use mathlib.Core.Option.{some}
use lib.ListN.{get_elem?}
use Rattle.atomic_table.specs.Table.{State}
use Rattle.sw_port_book.specs.Claims.{In}
use Rattle.sw_port_book.specs.declared.word.Word.{Word}
use Rattle.sw_sessions.specs.declared.rule.Call.{Call}
use Rattle.sw_sessions.specs.declared.rule.Call.TheVariants.{Look, Bind, Release}
use Rattle.sw_sessions.specs.declared.rule.View.{View}
use Rattle.sw_sessions.specs.Calls.{Met, binds_in, one_if}

-- a word is its number, times 2 ^ 32, and its uid
abbrev pub word_in : ℕ → Word
word_in n = record { number = n / 4294967296; uid = n % 4294967296 }

-- the views of the roles
abbrev pub closer : ℕ → ℕ → List ℕ → ℕ → List Call → View
closer max drawn claimed out calls = record { max = max; clerk = true; drawn = drawn; claimed = claimed; out = out; pass = false; calls = calls; holds = false; number = 0; both = false; other = 0 }

abbrev pub clerk : ℕ → ℕ → List ℕ → ℕ → View
clerk max drawn claimed out = closer max drawn claimed out []

abbrev pub claimer : ℕ → ℕ → List ℕ → ℕ → ℕ → View
claimer max drawn claimed out number = record { max = max; clerk = true; drawn = drawn; claimed = claimed; out = out; pass = false; calls = []; holds = true; number = number; both = false; other = 0 }

abbrev pub ticket : ℕ → ℕ → View
ticket max number = record { max = max; clerk = false; drawn = 0; claimed = []; out = 0; pass = false; calls = []; holds = true; number = number; both = false; other = 0 }

abbrev pub pair : ℕ → ℕ → ℕ → View
pair max number other = record { max = max; clerk = false; drawn = 0; claimed = []; out = 0; pass = false; calls = []; holds = true; number = number; both = true; other = other }

abbrev pub passer : ℕ → List Call → View
passer max calls = record { max = max; clerk = false; drawn = 0; claimed = []; out = 0; pass = true; calls = calls; holds = false; number = 0; both = false; other = 0 }

abbrev pub carrier : ℕ → List Call → ℕ → View
carrier max calls number = record { max = max; clerk = false; drawn = 0; claimed = []; out = 0; pass = true; calls = calls; holds = true; number = number; both = false; other = 0 }

abbrev pub nobody : View
nobody = record { max = 0; clerk = false; drawn = 0; claimed = []; out = 0; pass = false; calls = []; holds = false; number = 0; both = false; other = 0 }

-- the clerk's view after it tried the number that it drew, and found r
abbrev pub after_claim : View → ℕ → ℕ → View
after_claim v number zero = claimer v.max number (v.claimed ++ number ∷ []) v.out number
after_claim v number (suc r) = clerk v.max number v.claimed v.out

-- what a word that is not free shows of its number
abbrev pub MetIn : List ℕ → ℕ → ℕ → ℕ → Type 0
MetIn claimed max slot word = word ≢ 0 → In (word / 4294967296) claimed × ((word / 4294967296) % max ≡ slot)

-- f of each, added up
abbrev pub total : (View → ℕ) → List View → ℕ
total f [] = 0
total f (v ∷ vs) = f v + total f vs

-- how many seats are passes
abbrev pub passes_in : List View → ℕ
passes_in views = total (λ v. one_if v.pass) views

-- 1 for each uid but 0
abbrev pub once : ℕ → ℕ
once zero = 0
once (suc n) = 1

-- the number stands in its slot, and the ticket for that slot is with this seat
abbrev pub Holds : ℕ → (ℕ → ℕ) → (ℕ → ℕ) → ℕ → ℕ → Type 0
Holds max at keeper seat number = (number ≢ 0) × (at (number % max) ≡ number) × (keeper (number % max) ≡ seat)

-- a word that was found in a slot: its number was claimed, and a uid in it is the number's for good
abbrev pub Saw : ℕ → (ℕ → ℕ) → List ℕ → ℕ → Word → Type 0
Saw max uid claimed slot word = Met claimed max slot word.number × (word.uid ≢ 0 → word.uid ≡ uid word.number)

-- what a call found agrees with what the words were, and will agree with all that they may become
abbrev pub Told : ℕ → (ℕ → ℕ) → (ℕ → ℕ) → List ℕ → Call → Type 0
Told max at uid claimed (Look slot word) = Saw max uid claimed slot word
Told max at uid claimed (Bind session asked word) =
    Saw max uid claimed (session % max) word × (asked ≢ 0) × (word.number ≡ session → word.uid ≡ 0 → uid session ≡ asked)
Told max at uid claimed (Release session found) =
    In session claimed × (session ≢ 0) × (at (session % max) ≢ session) × (found ≡ uid session)

-- the clerk's seat, the only one, knows the numbers and the count of passes
pub record Desk (max drawn : ℕ) (claimed : List ℕ) (desk count seat : ℕ) (v : View) : Type 0 where
  pub only : seat ≡ desk
  pub max_is : v.max ≡ max
  pub drawn_is : v.drawn ≡ drawn
  pub claimed_is : v.claimed ≡ claimed
  pub counted : v.out ≡ count

-- what a seat knows is so
pub record Fits (max drawn : ℕ) (claimed : List ℕ) (desk : ℕ) (at keeper uid : ℕ → ℕ) (count seat : ℕ) (v : View) : Type 0 where
  pub desks : v.clerk ≡ true → Desk max drawn claimed desk count seat v
  pub held : v.holds ≡ true → (v.max ≡ max) × Holds max at keeper seat v.number
  pub paired : v.both ≡ true → Holds max at keeper seat v.other × (v.number % max ≢ v.other % max)
  pub told : (c : Call) → In c v.calls → Told max at uid claimed c
  pub idle : v.clerk ≡ false → v.pass ≡ false → v.calls ≡ []

-- The rule: every eighth word, so that each slot has a cache line of its own, has the number that stands in a slot
-- and its uid. `at` is slot to number, `keeper` slot to the seat of its ticket, `uid` number to uid.
pub record Kept {S : Type 0} (max : ℕ) (s : State S View) : Type 0 where
  pub drawn : ℕ
  pub claimed : List ℕ
  pub desk : ℕ
  pub at : ℕ → ℕ
  pub keeper : ℕ → ℕ
  pub uid : ℕ → ℕ
  pub sized : length s.words ≡ 8 * max
  pub word : (i : ℕ) → i < max → slice_index s.words (8 * i) ≡ at i * 4294967296 + uid (at i)
  pub small : (p : ℕ) → uid p < 4294967296
  pub fresh : (p : ℕ) → drawn < p → uid p ≡ 0
  pub zero_uid : uid 0 ≡ 0
  pub live : (i : ℕ) → i < max → Met claimed max i (at i)
  pub drew : (p : ℕ) → In p claimed → (p ≢ 0) × (p ≤ drawn)
  pub each_once : (p : ℕ) → total (λ v. binds_in p v.calls) s.views ≡ once (uid p)
  pub fits : (seat : ℕ) (v : View) → get_elem? s.views seat ≡ some v → Fits max drawn claimed desk at keeper uid (passes_in s.views) seat v
