-- What comes first in the bytes of a link that speaks HTTP.
use Rattle.std.specs.Prelude.{◌≡◌, ◌⊎◌, ℕ, ◌+◌, ◌<◌, ◌≤◌, List, ◌++◌, length, take, map, nat_lt, nat_le, Option, Some, None, if◌then◌else◌}
use Rattle.httparse.specs.Grammar.{RequestHead, ReadsRequest, print_request}
use Rattle.httparse.specs.Spans.{name_and_value}
use Rattle.sw_http.specs.declared.next.HttpNext.{HttpNext}
use Rattle.sw_http.specs.declared.next.HttpNext.TheVariants.{Request, More, TooLong, BadHead, Coded, BadLength, OutOfMemory}
use Rattle.sw_http.specs.Body.{has_coding, body_of}

-- the most fields of a head
abbrev pub most_fields : ℕ
most_fields = 64

-- this head of the grammar, with at most 64 fields, begins the bytes
pub record HasHead (bytes : List ℕ) (h : RequestHead) : Type 0 where
  pub behind : List ℕ
  pub reads : ReadsRequest bytes h behind
  pub few : length h.fields ≤ most_fields

-- no head begins the bytes
abbrev pub HasNoHead : List ℕ → Type 0
HasNoHead bytes = (h : RequestHead) → ¬ (HasHead bytes h)

-- no head begins them, whatever bytes follow
abbrev pub NeverHasHead : List ℕ → Type 0
NeverHasHead bytes = (more : List ℕ) → HasNoHead (bytes ++ more)

-- ---- behind a head

-- a request of so many bytes, of which so many are its head
abbrev pub request_by : ℕ → List ℕ → ℕ → ℕ → HttpNext
request_by max r head total = if nat_lt max total then TooLong total else if nat_le total (length r) then Request (take total r) head else More

abbrev pub body_by : ℕ → List ℕ → ℕ → Option ℕ → HttpNext
body_by max r head None = BadLength
body_by max r head (Some n) = request_by max r head (head + n)

-- what comes first where the bytes begin with this head: a coding goes before a length, and that before the bytes behind
abbrev pub by_head : ℕ → List ℕ → RequestHead → HttpNext
by_head max r h = if has_coding (map name_and_value h.fields) then Coded else body_by max r (length (print_request h)) (body_of (map name_and_value h.fields))

-- ---- without a head

-- a head may be called bad only where none can come; else it is too long once so many bytes are there, and more is awaited before
abbrev pub IsWithoutHead : ℕ → List ℕ → HttpNext → Type 0
IsWithoutHead max r (Request bytes head) = ⊥
IsWithoutHead max r More = length r < max
IsWithoutHead max r (TooLong n) = (n ≡ max) × (max ≤ length r)
IsWithoutHead max r BadHead = NeverHasHead (take max r)
IsWithoutHead max r Coded = ⊥
IsWithoutHead max r BadLength = ⊥
IsWithoutHead max r OutOfMemory = ⊥

-- ---- both

-- what comes first in the bytes: by the head that begins the first `max` of them, and where none does without one
abbrev pub HttpFirst : ℕ → List ℕ → HttpNext → Type 0
HttpFirst max r answer = ((h : RequestHead) × HasHead (take max r) h × (answer ≡ by_head max r h))
    ⊎ (HasNoHead (take max r) × IsWithoutHead max r answer)
