-- What the parser makes of some bytes.
use Rattle.std.specs.Prelude.{◌≡◌, ℕ, ◌+◌, ◌<◌, ◌≤◌, Bool, true, false, List, length, take, drop, map, Option, Some, None, IfSome, Result, Ok, Err, nat_lt, if◌then◌else◌}
use Rattle.httparse.specs.Grammar.{RequestHead, ReadsRequest, HasNoRequest, MayBecomeRequest, print_request}
use Rattle.httparse.specs.Spans.{name_and_value, RequestOverflows}
use Rattle.sw_http.specs.declared.body.Body.{Body}
use Rattle.sw_http.specs.declared.body.Body.TheVariants as bodies
use Rattle.sw_http.specs.declared.next.HttpFault.{HttpFault}
use Rattle.sw_http.specs.declared.next.HttpFault.TheVariants as faults
use Rattle.sw_http.specs.declared.head.Found.{Found}
use Rattle.sw_http.specs.declared.head.Found.TheVariants.{Head, Nothing, Bad}
use Rattle.sw_http.specs.Body.{Pair, has_coding, body_of}
use Rattle.sw_http.specs.First.{most_fields}
use Rattle.sw_http.specs.declared.scan.Scan.{Scan}
use Rattle.sw_http.specs.Lines.{IsScanned}

abbrev pub body_named : Option ℕ → Body
body_named None = bodies.Unclear
body_named (Some n) = bodies.Bytes n

-- what the fields say of the body
abbrev pub body_seen : List Pair → Body
body_seen ps = if has_coding ps then bodies.Coded else body_named (body_of ps)

-- below 10 to the power of 18
abbrev pub IsSmall : ℕ → Type 0
IsSmall n = n < 1000000000000000000

abbrev pub AreSmall : Option (Option ℕ) → Type 0
AreSmall o = IfSome o (λ l. IfSome l IsSmall)

abbrev pub IsSmallBody : Body → Type 0
IsSmallBody bodies.Coded = Unit {0}
IsSmallBody bodies.Unclear = Unit {0}
IsSmallBody (bodies.Bytes n) = IsSmall n

-- how many bytes a request has, or why it can't be one
abbrev pub measure : ℕ → ℕ → Body → Result ℕ HttpFault
measure max head bodies.Coded = Err faults.Coded
measure max head bodies.Unclear = Err faults.BadLength
measure max head (bodies.Bytes n) = if nat_lt max (head + n) then Err (faults.TooLong (head + n)) else Ok (head + n)

-- the head of this length begins the bytes, and says this of its body
pub record IsHeadIn (bytes : List ℕ) (len : ℕ) (body : Body) (h : RequestHead) : Type 0 where
  pub reads : ReadsRequest bytes h (drop len bytes)
  pub len_is : len ≡ length (print_request h)
  pub few : length h.fields ≤ most_fields
  pub body_is : body ≡ body_seen (map name_and_value h.fields)
  pub small : IsSmallBody body
  pub room : len < 9223372036854775808

-- a head, or none that is whole, or none that can come
abbrev pub IsFound : List ℕ → Found → Type 0
IsFound bytes (Head len body) = (h : RequestHead) × IsHeadIn bytes len body h
IsFound bytes Nothing = HasNoRequest bytes × MayBecomeRequest bytes
IsFound bytes Bad = RequestOverflows most_fields bytes

-- the first bytes were looked at, and no head begins them
pub record IsInHead (bytes : List ℕ) (scan : Scan) : Type 0 where
  pub scanned : IsScanned bytes scan
  pub none : HasNoRequest (take scan.at bytes)

-- a search found a head, or that none can come, or looked at all bytes
abbrev pub IsSearched : List ℕ → Found → Scan → Type 0
IsSearched bytes (Head len body) scan = (h : RequestHead) × IsHeadIn bytes len body h
IsSearched bytes Nothing scan = IsInHead bytes scan × (scan.at ≡ length bytes)
IsSearched bytes Bad scan = RequestOverflows most_fields bytes

abbrev pub IsHopeless : List ℕ → Bool → Type 0
IsHopeless bytes true = RequestOverflows most_fields bytes
IsHopeless bytes false = Unit {0}
