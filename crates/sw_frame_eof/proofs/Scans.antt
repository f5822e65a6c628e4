-- How a search for a mark goes on, and what it costs.
use Rattle.std.proofs.Common.{◌≡◌, ℕ, suc, ◌+◌, ◌-◌, ◌*◌, ◌<◌, ◌≤◌, Bool, true, false, List, ◌++◌, length, take, drop, get_or, Option, Some, None, refl, sym, ap, ◌∙◌, inl, inr, arith, length-append, length-drop, eq-eqb, eqb-true}
use Rattle.std.specs.List.{slice_range}
use Rattle.std.proofs.Math.Nat.{mul-add, mul-le-mul_right}
use Rattle.std.proofs.lemmas.List.{get_or-take, get_or-drop, length-take-le}
use Rattle.std.proofs.lemmas.Bool.Decides.{leb_tells}
use Rattle.memchr.specs.Find.{Passes, Nowhere, IsFirstByte, is_byte}
use Rattle.sw_frame_eof.specs.Mark.{StandsAt, mark_at}
use Rattle.sw_frame_eof.specs.Scan.{HasScanned, unscanned, compared}
use Rattle.sw_frame_eof.specs.declared.scan.EofScan.{EofScan}
use Rattle.sw_frame_eof.proofs.Marks.{IsMarkAt, StandsAt-within, StandsAt-later, StandsAt-earlier, StandsAt-OccursAt, mark_at-is, take-later}

-- a search may begin at any bytes
pub HasScanned-start : (mark bytes : List ℕ) → HasScanned mark bytes unscanned
HasScanned-start mark bytes = record { room = λ lt. absurd (omega arith); none = λ k lt. absurd (omega arith); found = λ is. cc }

-- and goes on with more bytes
pub HasScanned-later : (mark bytes later : List ℕ) (scan : EofScan) → 0 < length mark → HasScanned mark bytes scan → HasScanned mark (bytes ++ later) scan
HasScanned-later mark bytes later scan some has =
    record {
      room = λ lt. let room = has.room lt in omega (arith, room, length-append bytes later);
      none = λ k lt stands. let room = has.room (omega (arith, lt)) in has.none k lt (StandsAt-earlier mark bytes later k (omega (arith, room, lt)) stands);
      found = λ is. StandsAt-later mark bytes later scan.passed some (has.found is);
    }

-- within the first max bytes too
pub HasScanned-take : (mark bytes later : List ℕ) (max : ℕ) (scan : EofScan) → 0 < length mark → HasScanned mark (take max bytes) scan → HasScanned mark (take max (bytes ++ later)) scan
HasScanned-take mark bytes later max scan some has =
    let more = take-later max bytes later in
    rw more.1 (HasScanned-later mark (take max bytes) more.0 scan some has)

-- no more places were compared than there are bytes
few_by : (mark bytes : List ℕ) (scan : EofScan) (t : Bool) → scan.found ≡ t → 0 < length mark → HasScanned mark bytes scan → compared scan ≤ length bytes
few_by mark bytes scan true is some has =
    let within : scan.passed + length mark ≤ length bytes = StandsAt-within mark bytes scan.passed some (has.found is) in
    rw is (omega (arith, within, some))
few_by mark bytes scan false is some has =
    rw is (elim (leb_tells 1 scan.passed) [
      | inl w ↦ let room = has.room (omega (arith, w.1)) in omega (arith, room, some)
      | inr w ↦ omega (arith, w.1)
    ])

pub compared-few : (mark bytes : List ℕ) (scan : EofScan) → 0 < length mark → HasScanned mark bytes scan → compared scan ≤ length bytes
compared-few mark bytes scan some has = few_by mark bytes scan scan.found refl some has

-- the mark's first byte stands where the mark does
pub first_stands : (mark bytes : List ℕ) (k : ℕ) → 0 < length mark → StandsAt mark bytes k → get_or bytes k 0 ≡ get_or mark 0 0
first_stands mark bytes k some stands =
    let occurs = StandsAt-OccursAt mark bytes k some stands in
    ap (λ (j : ℕ). get_or bytes j 0) (omega arith) ∙ occurs.reads 0 some

-- what is read in a window
pub window_reads : (bytes : List ℕ) (from to k : ℕ) → k < to - from → get_or (slice_range bytes from to) k 0 ≡ get_or bytes (from + k) 0
window_reads bytes from to k lt = get_or-take (to - from) (drop from bytes) k 0 lt ∙ get_or-drop from bytes k 0

-- where the first byte isn't, the mark isn't
pub none_in : (mark bytes : List ℕ) (from to upto : ℕ) → 0 < length mark → upto ≤ to - from → Nowhere (Passes (is_byte (get_or mark 0 0)) (slice_range bytes from to)) 0 upto → (k : ℕ) → from ≤ k → k < from + upto → ¬ StandsAt mark bytes k
none_in mark bytes from to upto some within nowhere k low high stands =
    let j : ℕ = k - from in
    let lt : j < upto = omega arith in
    let place : from + j ≡ k = omega arith in
    let read : get_or (slice_range bytes from to) j 0 ≡ get_or mark 0 0 = window_reads bytes from to j (omega (arith, lt, within)) ∙ ap (λ (i : ℕ). get_or bytes i 0) place ∙ first_stands mark bytes k some stands in
    nowhere j (omega arith) lt (eq-eqb _ _ read)

pub length_window : (bytes : List ℕ) (from to : ℕ) → from ≤ to → to ≤ length bytes → length (slice_range bytes from to) ≡ to - from
length_window bytes from to order within = length-take-le (to - from) (drop from bytes) (rw length-drop (omega arith))

-- what the search for the first byte tells of the mark
pub none_at_all : (mark bytes : List ℕ) (from to : ℕ) → 0 < length mark → from ≤ to → to ≤ length bytes → IsFirstByte (is_byte (get_or mark 0 0)) (slice_range bytes from to) None → (k : ℕ) → from ≤ k → k < to → ¬ StandsAt mark bytes k
none_at_all mark bytes from to some order within is k low high =
    let len = length_window bytes from to order within in
    none_in mark bytes from to (length (slice_range bytes from to)) some (omega (arith, len)) is k low (omega (arith, len, high, order))

pub record FirstHere (mark bytes : List ℕ) (from to skipped : ℕ) : Type 0 where
  pub high : from + skipped < to
  pub none : (k : ℕ) → from ≤ k → k < from + skipped → ¬ StandsAt mark bytes k
  pub byte : get_or bytes (from + skipped) 0 ≡ get_or mark 0 0

pub first_here : (mark bytes : List ℕ) (from to skipped : ℕ) → 0 < length mark → from ≤ to → to ≤ length bytes → IsFirstByte (is_byte (get_or mark 0 0)) (slice_range bytes from to) (Some skipped) → FirstHere mark bytes from to skipped
first_here mark bytes from to skipped some order within is =
    let len = length_window bytes from to order within in
    let high : skipped < length (slice_range bytes from to) = is.0.high in
    record {
      high = omega (arith, len, high, order);
      none = none_in mark bytes from to skipped some (omega (arith, len, high)) is.0.before;
      byte = sym (window_reads bytes from to skipped (omega (arith, len, high))) ∙ eqb-true _ _ is.1;
    }

-- further places are passed
pub passed_more : (mark bytes : List ℕ) (scan : EofScan) (to : ℕ) → HasScanned mark bytes scan → scan.found ≡ false → to + length mark ≤ length bytes + 1 → ((k : ℕ) → scan.passed ≤ k → k < to → ¬ StandsAt mark bytes k) → HasScanned mark bytes (record { passed = to; found = scan.found })
passed_more mark bytes scan to has more room none =
    record {
      room = λ lt. room;
      none = λ k lt. elim (leb_tells (suc k) scan.passed) [ inl w ↦ has.none k (omega (arith, w.1)) | inr w ↦ none k (omega (arith, w.1)) lt ];
      found = λ is. let wrong : false ≡ true = sym more ∙ is in cc;
    }

-- the mark is found behind places that were passed
pub found_here : (mark bytes : List ℕ) (scan : EofScan) (to : ℕ) → HasScanned mark bytes scan → to + length mark ≤ length bytes → ((k : ℕ) → scan.passed ≤ k → k < to → ¬ StandsAt mark bytes k) → StandsAt mark bytes to → HasScanned mark bytes (record { passed = to; found = true })
found_here mark bytes scan to has room none stands =
    record {
      room = λ lt. omega (arith, room);
      none = λ k lt. elim (leb_tells (suc k) scan.passed) [ inl w ↦ has.none k (omega (arith, w.1)) | inr w ↦ none k (omega (arith, w.1)) lt ];
      found = λ is. stands;
    }

-- each place pays for as many comparisons as the mark has bytes
pays : (m p d : ℕ) → 0 < m → d + m * p ≤ m * (p + d)
pays m p d some =
    let more : 1 * d ≤ m * d = mul-le-mul_right d some in
    rw (mul-add m p d) (omega (arith, more))

pub pays_none : (m before after p q c d : ℕ) → 0 < m → p ≤ q → after ≡ before + (q - p) → c ≡ p → d ≡ q → after + m * c ≤ before + m * d
pays_none m before after p q c d some order cost one two =
    let all : p + (q - p) ≡ q = omega arith in
    let more : (q - p) + m * p ≤ m * q = rw all at (pays m p (q - p) some) in
    rw (one, two) (omega (arith, more, cost))

pub pays_some : (m before read after p k c d : ℕ) → 0 < m → read ≡ before + (k + 1) → after + 1 ≤ read + m → c ≡ p → d ≡ p + k + 1 → after + m * c ≤ before + m * d
pays_some m before read after p k c d some cost rest one two =
    let more : k + m * p ≤ m * (p + k) = pays m p k some in
    let last : m * (p + k + 1) ≡ m * (p + k) + m * 1 = mul-add m (p + k) 1 in
    rw (one, two) (omega (arith, more, last, cost, rest))

-- the places that were compared, where the mark wasn't found
pub compared-none : (scan : EofScan) (to : ℕ) → scan.found ≡ false → compared (record { passed = to; found = scan.found }) ≡ to
compared-none scan to none = rw none refl

-- the place behind those that were passed, if the mark stands there
abbrev pub if_found : ℕ → Bool → Option ℕ
if_found passed true = Some passed
if_found passed false = None

-- a search that came to its end knows the first mark
scanned_by : (mark bytes : List ℕ) (scan : EofScan) (t : Bool) → scan.found ≡ t → 0 < length mark → HasScanned mark bytes scan → (t ≡ false → length bytes < scan.passed + length mark) → IsMarkAt mark bytes (if_found scan.passed t)
scanned_by mark bytes scan true is some has ended = (has.found is, λ k lt. has.none k lt)
scanned_by mark bytes scan false is some has ended =
    λ k stands.
    let within : k + length mark ≤ length bytes = StandsAt-within mark bytes k some stands in
    let far = ended refl in
    has.none k (omega (arith, within, far)) stands

pub scanned_all : (mark bytes : List ℕ) (scan : EofScan) (t : Bool) → scan.found ≡ t → 0 < length mark → HasScanned mark bytes scan → (t ≡ false → length bytes < scan.passed + length mark) → if_found scan.passed t ≡ mark_at mark bytes
scanned_all mark bytes scan t is some has ended = mark_at-is mark bytes _ some (scanned_by mark bytes scan t is some has ended)
