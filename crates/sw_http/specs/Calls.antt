-- What the calls of one cutter give, taken together.
use Rattle.std.specs.Prelude.{◌≡◌, ℕ, List, [], ◌∷◌, ◌++◌, Option, Some, None}
use Rattle.sw_http.specs.declared.next.HttpNext.{HttpNext}
use Rattle.sw_http.specs.declared.next.HttpNext.TheVariants.{Request, More, TooLong, BadHead, Coded, BadLength, OutOfMemory}
use Rattle.sw_http.specs.declared.next.HttpFault.{HttpFault}
use Rattle.sw_http.specs.First.{HttpFirst}
use Rattle.sw_http.specs.Cutting.{Cutting, IsAnswer, after, fed, told}

-- the bytes of requests, joined; with each stands the length of its head
abbrev pub joined : List (List ℕ × ℕ) → List ℕ
joined [] = []
joined (q ∷ qs) = q.0 ++ joined qs

-- each request comes first where those before it are cut off
abbrev pub EachIsFirst : ℕ → List (List ℕ × ℕ) → List ℕ → Type 0
EachIsFirst max [] rest = Unit {0}
EachIsFirst max (q ∷ qs) rest = HttpFirst max (q.0 ++ (joined qs ++ rest)) (Request q.0 q.1) × EachIsFirst max qs rest

-- these requests are cut from the front of the bytes, one after the other, and this is the rest
pub record IsCut (max : ℕ) (bytes : List ℕ) (requests : List (List ℕ × ℕ)) (rest : List ℕ) : Type 0 where
  pub whole : bytes ≡ joined requests ++ rest
  pub each : EachIsFirst max requests rest

-- one call of a cutter, with its answer
pub data Call : Type 0 where
  Feed : List ℕ → Call
  Answer : HttpNext → Call

-- the bytes that were fed in these calls, of which the last is first
abbrev pub fed_in : List Call → List ℕ
fed_in [] = []
fed_in (Feed piece ∷ before) = fed_in before ++ piece
fed_in (Answer _ ∷ before) = fed_in before

abbrev pub with_request : List (List ℕ × ℕ) → HttpNext → List (List ℕ × ℕ)
with_request requests (Request bytes head) = requests ++ (bytes, head) ∷ []
with_request requests More = requests
with_request requests (TooLong _) = requests
with_request requests BadHead = requests
with_request requests Coded = requests
with_request requests BadLength = requests
with_request requests OutOfMemory = requests

-- the requests that were given in these calls
abbrev pub given_in : List Call → List (List ℕ × ℕ)
given_in [] = []
given_in (Feed _ ∷ before) = given_in before
given_in (Answer answer ∷ before) = with_request (given_in before) answer

-- a cutter before its first call
abbrev pub start : ℕ → Cutting
start max = record { max = max; rest = []; fault = None }

-- a cutter after these calls, each with what its contract says
abbrev pub IsAfter : ℕ → List Call → Cutting → Type 0
IsAfter max [] c = c ≡ start max
IsAfter max (Feed piece ∷ before) c = (b : Cutting) × IsAfter max before b × (c ≡ fed b piece)
IsAfter max (Answer answer ∷ before) c = (b : Cutting) × IsAfter max before b × IsAnswer b answer × (c ≡ after b answer)

-- what was fed up to a fault, and what behind it
pub record IsFaulty (max : ℕ) (bytes : List ℕ) (requests : List (List ℕ × ℕ)) (fault : HttpFault) : Type 0 where
  pub front : List ℕ
  pub behind : List ℕ
  pub rest : List ℕ
  pub parts : bytes ≡ front ++ behind
  pub cut : IsCut max front requests rest
  pub first : HttpFirst max rest (told fault)

-- without a fault the requests that were given are cut from all bytes that were fed, and the rest is kept; with one, from the bytes
-- that were fed before it, and it comes first behind them
abbrev pub IsExact : ℕ → List ℕ → List (List ℕ × ℕ) → List ℕ → Option HttpFault → Type 0
IsExact max bytes requests rest None = IsCut max bytes requests rest
IsExact max bytes requests rest (Some fault) = IsFaulty max bytes requests fault
