-- Where a mark stands, and what comes first by that.
use Rattle.std.proofs.Common.{◌≡◌, ◌≢◌, ℕ, zero, suc, ◌+◌, ◌-◌, ◌<◌, ◌≤◌, min, Bool, true, false, if◌then◌else◌, List, [], ◌∷◌, ◌++◌, length, take, drop, Option, Some, None, option_map, refl, sym, ap, ◌∙◌, subst, inl, inr, arith, append_assoc, length-append, length-drop, length-take, take-append-drop, bytes_eq}
use Rattle.std.proofs.Math.Seq.{take-append_seam, drop-append_seam, take-add}
use Rattle.std.proofs.lemmas.List.{length-take-le, take-append-le, drop-append-le, take_all}
use Rattle.std.proofs.lemmas.List.Prefix.{at_from_reads, at_reads}
use Rattle.std.proofs.lemmas.Slice.Eq.{bytes_eq-Decides}
use Rattle.std.proofs.lemmas.Bool.Decides.{not_from_Decides, leb_tells, nat_tests}
use Rattle.memchr.specs.Find.{OccursAt}
use Rattle.sw_cut.specs.declared.First.TheVariants.{Packet, More, TooLong}
use Rattle.sw_cut.specs.Cut.{IsSteady}
use Rattle.sw_frame_eof.specs.Mark.{EndsWith, StandsAt, IsFirstEnd, NoEndWithin, IsFirst, mark_at, first_by, first_in}

-- the first place where the mark stands, or none
abbrev pub IsMarkAt : List ℕ → List ℕ → Option ℕ → Type 0
IsMarkAt mark bytes None = (k : ℕ) → ¬ StandsAt mark bytes k
IsMarkAt mark bytes (Some at) = StandsAt mark bytes at × ((k : ℕ) → k < at → ¬ StandsAt mark bytes k)

-- a mark that stands at a place ends within the bytes
pub StandsAt-within : (mark bytes : List ℕ) (at : ℕ) → 0 < length mark → StandsAt mark bytes at → at + length mark ≤ length bytes
StandsAt-within mark bytes at some stands =
    let len : length bytes - at ≡ length mark + length stands.later = sym (length-drop at bytes) ∙ ap length stands.is ∙ length-append mark stands.later in
    omega arith

-- a byte in front moves a place by one
pub StandsAt-more : (mark bs : List ℕ) (b at : ℕ) → StandsAt mark bs at → StandsAt mark (b ∷ bs) (suc at)
StandsAt-more mark bs b at stands = record { later = stands.later; is = stands.is }

pub StandsAt-less : (mark bs : List ℕ) (b at : ℕ) → StandsAt mark (b ∷ bs) (suc at) → StandsAt mark bs at
StandsAt-less mark bs b at stands = record { later = stands.later; is = stands.is }

-- the mark stands in front exactly where the test says so
pub StandsAt-test : (mark bytes : List ℕ) → bytes_eq (take (length mark) bytes) mark ≡ true → StandsAt mark bytes 0
StandsAt-test mark bytes holds =
    record {
      later = drop (length mark) bytes;
      is = sym (take-append-drop (length mark) bytes) ∙ ap (λ xs. xs ++ drop (length mark) bytes) ((bytes_eq-Decides (take (length mark) bytes) mark).0 holds);
    }

pub test-StandsAt : (mark bytes : List ℕ) → bytes_eq (take (length mark) bytes) mark ≡ false → ¬ StandsAt mark bytes 0
test-StandsAt mark bytes fails stands =
    not_from_Decides (bytes_eq (take (length mark) bytes) mark) (bytes_eq-Decides (take (length mark) bytes) mark) fails (ap (take (length mark)) stands.is ∙ take-append_seam mark stands.later)

-- the place that is computed is the first
mark_at_by : (mark bs : List ℕ) (b : ℕ) (rest : Option ℕ) → IsMarkAt mark bs rest → (t : Bool) → bytes_eq (take (length mark) (b ∷ bs)) mark ≡ t → IsMarkAt mark (b ∷ bs) (if t then Some 0 else option_map suc rest)
mark_at_by mark bs b rest is true holds = (StandsAt-test mark (b ∷ bs) holds, λ k lt. absurd (omega arith))
mark_at_by mark bs b None is false fails =
    λ k. elim k as (λ k. ¬ StandsAt mark (b ∷ bs) k) [
      | zero ↦ test-StandsAt mark (b ∷ bs) fails
      | suc j ↦ λ stands. is j (StandsAt-less mark bs b j stands)
    ]
mark_at_by mark bs b (Some at) is false fails = (
  StandsAt-more mark bs b at is.0,
  λ k. elim k as (λ k. k < suc at → ¬ StandsAt mark (b ∷ bs) k) [
    | zero ↦ λ lt. test-StandsAt mark (b ∷ bs) fails
    | suc j ↦ λ lt stands. is.1 j (omega arith) (StandsAt-less mark bs b j stands)
  ],
)

pub IsMarkAt-mark_at : (mark bytes : List ℕ) → 0 < length mark → IsMarkAt mark bytes (mark_at mark bytes)
IsMarkAt-mark_at mark [] some =
    λ k stands. let w : k + length mark ≤ length {A = ℕ} [] = StandsAt-within mark [] k some stands in omega arith
IsMarkAt-mark_at mark (b ∷ bs) some =
    mark_at_by mark bs b (mark_at mark bs) (IsMarkAt-mark_at mark bs some) (bytes_eq (take (length mark) (b ∷ bs)) mark) refl

-- there is one first place
pub IsMarkAt-unique : (mark bytes : List ℕ) (r s : Option ℕ) → IsMarkAt mark bytes r → IsMarkAt mark bytes s → r ≡ s
IsMarkAt-unique mark bytes None None one two = refl
IsMarkAt-unique mark bytes None (Some at) one two = absurd (one at two.0)
IsMarkAt-unique mark bytes (Some at) None one two = absurd (two at one.0)
IsMarkAt-unique mark bytes (Some at) (Some place) one two =
    let low : ¬ (at < place) = λ lt. two.1 at lt one.0 in
    let high : ¬ (place < at) = λ lt. one.1 place lt two.0 in
    let same : at ≡ place = omega arith in
    ap Some same

-- the mark stands where its bytes are read
pub OccursAt-StandsAt : (mark bytes : List ℕ) (k : ℕ) → OccursAt bytes mark k → StandsAt mark bytes k
OccursAt-StandsAt mark bytes k occurs = record { later = drop (k + length mark) bytes; is = at_from_reads 0 bytes mark k occurs.fits occurs.reads }

pub StandsAt-OccursAt : (mark bytes : List ℕ) (k : ℕ) → 0 < length mark → StandsAt mark bytes k → OccursAt bytes mark k
StandsAt-OccursAt mark bytes k some stands = record { fits = StandsAt-within mark bytes k some stands; reads = at_reads 0 bytes mark k stands.later stands.is }

pub mark_at-is : (mark bytes : List ℕ) (r : Option ℕ) → 0 < length mark → IsMarkAt mark bytes r → r ≡ mark_at mark bytes
mark_at-is mark bytes r some is = IsMarkAt-unique mark bytes r _ is (IsMarkAt-mark_at mark bytes some)

-- a prefix that ends with the mark, and a place where the mark stands
pub StandsAt-ends : (mark bytes : List ℕ) (n : ℕ) → n ≤ length bytes → EndsWith mark (take n bytes) → (at : ℕ) × (at + length mark ≡ n) × StandsAt mark bytes at
StandsAt-ends mark bytes n within ends =
    let front : List ℕ = ends.0 in
    let len : length (take n bytes) ≡ length front + length mark = ap length ends.1 ∙ length-append front mark in
    let all : n ≡ length front + length mark = sym (length-take-le n bytes within) ∙ len in
    let whole : bytes ≡ front ++ (mark ++ drop n bytes) = sym (take-append-drop n bytes) ∙ ap (λ xs. xs ++ drop n bytes) ends.1 ∙ append_assoc front mark (drop n bytes) in
    (length front, sym all, record { later = drop n bytes; is = ap (drop (length front)) whole ∙ drop-append_seam front (mark ++ drop n bytes) })

pub EndsWith-stands : (mark bytes : List ℕ) (at : ℕ) → StandsAt mark bytes at → EndsWith mark (take (at + length mark) bytes)
EndsWith-stands mark bytes at stands =
    (take at bytes, take-add at (length mark) bytes ∙ ap (λ xs. take at bytes ++ xs) (ap (take (length mark)) stands.is ∙ take-append_seam mark stands.later))

-- the end of the first mark, if there is one
pub IsFirstEnd-by : (mark bytes : List ℕ) (r : Option ℕ) → 0 < length mark → IsMarkAt mark bytes r → IsFirstEnd mark bytes (option_map (λ at. at + length mark) r)
IsFirstEnd-by mark bytes None some is =
    λ n ends. elim (leb_tells n (length bytes)) [
      | inl w ↦ let found = StandsAt-ends mark bytes n w.1 ends in is found.0 found.2
      | inr w ↦
          let all : take n bytes ≡ take (length bytes) bytes = take_all n bytes (omega (arith, w.1)) ∙ sym (take_all (length bytes) bytes (omega arith)) in
          let found = StandsAt-ends mark bytes (length bytes) (omega arith) (subst (λ (xs : List ℕ). EndsWith mark xs) all ends) in
          is found.0 found.2
    ]
IsFirstEnd-by mark bytes (Some at) some is =
    let n : ℕ = at + length mark in
    let within : n ≤ length bytes = StandsAt-within mark bytes at some is.0 in
    record {
      within = within;
      ends = EndsWith-stands mark bytes at is.0;
      least = λ k lt ends.
          let found = StandsAt-ends mark bytes k (omega arith) ends in
          let before : found.0 < at = omega (arith, found.1) in
          is.1 found.0 before found.2;
    }

-- a prefix within the first max bytes is a prefix of them
pub take-take_le : (n max : ℕ) (bytes : List ℕ) → n ≤ max → n ≤ length bytes → take n (take max bytes) ≡ take n bytes
take-take_le n max bytes small within =
    let room : n ≤ length (take max bytes) = rw length-take (omega arith) in
    sym (take-append-le n (take max bytes) (drop max bytes) room) ∙ ap (take n) (take-append-drop max bytes)

-- the first place within the first max bytes tells what comes first
pub IsFirst-by : (mark : List ℕ) (max : ℕ) (bytes : List ℕ) (r : Option ℕ) → 0 < length mark → IsMarkAt mark (take max bytes) r → IsFirst mark max bytes (first_by mark max bytes r)
IsFirst-by mark max bytes (Some at) some is =
    let n : ℕ = at + length mark in
    let within : n ≤ length (take max bytes) = StandsAt-within mark (take max bytes) at some is.0 in
    let within_both : n ≤ min max (length bytes) = rw (← length-take max bytes) within in
    let small : n ≤ max = omega arith in
    let there : n ≤ length bytes = omega arith in (
      record {
        within = there;
        ends = subst (λ (xs : List ℕ). EndsWith mark xs) (take-take_le n max bytes small there) (EndsWith-stands mark (take max bytes) at is.0);
        least = λ k lt ends.
            let low : k ≤ length (take max bytes) = omega arith in
            let found = StandsAt-ends mark (take max bytes) k low (subst (λ (xs : List ℕ). EndsWith mark xs) (sym (take-take_le k max bytes (omega arith) (omega arith))) ends) in
            let before : found.0 < at = omega (arith, found.1) in
            is.1 found.0 before found.2;
      },
      small,
    )
IsFirst-by mark max bytes None some is =
    let none : NoEndWithin mark max bytes = λ n end small.
    let within : n ≤ length bytes = end.within in
    let low : n ≤ length (take max bytes) = rw length-take (omega arith) in
    let found = StandsAt-ends mark (take max bytes) n low (subst (λ (xs : List ℕ). EndsWith mark xs) (sym (take-take_le n max bytes small within)) end.ends) in
    is found.0 found.2
    in
    elim (leb_tells max (length bytes)) [
      | inl w ↦ rw w.0 (none, w.1, refl)
      | inr w ↦ rw w.0 (none, w.1)
    ]

pub IsFirst-first_in : (mark : List ℕ) (max : ℕ) (bytes : List ℕ) → 0 < length mark → IsFirst mark max bytes (first_in mark max bytes)
unfolding first_in
IsFirst-first_in mark max bytes some = IsFirst-by mark max bytes _ some (IsMarkAt-mark_at mark (take max bytes) some)

-- more bytes at the end leave a mark where it is, and bring none to a place that had room for it
pub StandsAt-later : (mark bytes later : List ℕ) (at : ℕ) → 0 < length mark → StandsAt mark bytes at → StandsAt mark (bytes ++ later) at
StandsAt-later mark bytes later at some stands =
    let within : at + length mark ≤ length bytes = StandsAt-within mark bytes at some stands in
    record { later = stands.later ++ later; is = drop-append-le at bytes later (omega arith) ∙ ap (λ xs. xs ++ later) stands.is ∙ append_assoc mark stands.later later }

pub StandsAt-earlier : (mark bytes later : List ℕ) (at : ℕ) → at + length mark ≤ length bytes → StandsAt mark (bytes ++ later) at → StandsAt mark bytes at
StandsAt-earlier mark bytes later at room stands =
    let ends = subst (λ (xs : List ℕ). EndsWith mark xs) (take-append-le (at + length mark) bytes later room) (EndsWith-stands mark (bytes ++ later) at stands) in
    let found = StandsAt-ends mark bytes (at + length mark) room ends in
    let same : found.0 ≡ at = omega (arith, found.1) in
    subst (λ (j : ℕ). StandsAt mark bytes j) same found.2

-- a mark that was found stays the first one
pub IsMarkAt-later : (mark bytes later : List ℕ) (at : ℕ) → 0 < length mark → IsMarkAt mark bytes (Some at) → IsMarkAt mark (bytes ++ later) (Some at)
IsMarkAt-later mark bytes later at some is =
    let within : at + length mark ≤ length bytes = StandsAt-within mark bytes at some is.0 in
    (StandsAt-later mark bytes later at some is.0, λ k lt stands. is.1 k lt (StandsAt-earlier mark bytes later k (omega arith) stands))

-- the first max bytes of more bytes
pub take-later : (max : ℕ) (bytes later : List ℕ) → (xs : List ℕ) × (take max (bytes ++ later) ≡ take max bytes ++ xs)
take-later zero bytes later = ([], refl)
take-later (suc max) [] later = (take (suc max) later, refl)
take-later (suc max) (b ∷ bs) later =
    let found = take-later max bs later in
    (found.0, ap (λ xs. b ∷ xs) found.1)

steady_by : (mark : List ℕ) (max : ℕ) (bytes later : List ℕ) (r : Option ℕ) → 0 < length mark → mark_at mark (take max bytes) ≡ r → first_by mark max bytes r ≢ More → first_by mark max (bytes ++ later) (mark_at mark (take max (bytes ++ later))) ≡ first_by mark max bytes r
steady_by mark max bytes later (Some at) some is known =
    let found = take-later max bytes later in
    let first_place = subst (λ (r : Option ℕ). IsMarkAt mark (take max bytes) r) is (IsMarkAt-mark_at mark (take max bytes) some) in
    let stays : IsMarkAt mark (take max (bytes ++ later)) (Some at) = rw found.1 (IsMarkAt-later mark (take max bytes) found.0 at some first_place) in
    let same : mark_at mark (take max (bytes ++ later)) ≡ Some at = IsMarkAt-unique mark (take max (bytes ++ later)) _ (Some at) (IsMarkAt-mark_at mark (take max (bytes ++ later)) some) stays in
    rw same refl
steady_by mark max bytes later None some is known =
    elim (leb_tells max (length bytes)) [
      | inl w ↦
          let more : max ≤ length (bytes ++ later) = rw length-append (omega (arith, w.1)) in
          let same : mark_at mark (take max (bytes ++ later)) ≡ None = ap (mark_at mark) (take-append-le max bytes later w.1) ∙ is in
          rw (same, w.0) (grind (arith, nat_tests))
      | inr w ↦ absurd (known (rw w.0 refl))
    ]

within_by : (mark : List ℕ) (max : ℕ) (bytes : List ℕ) (n : ℕ) (r : Option ℕ) → 0 < length mark → IsMarkAt mark (take max bytes) r → first_by mark max bytes r ≡ Packet n → (0 < n) × (n ≤ length bytes)
within_by mark max bytes n (Some at) some is answer =
    let same : at + length mark ≡ n = cc in
    let within : at + length mark ≤ length (take max bytes) = StandsAt-within mark (take max bytes) at some is.0 in
    let within_both : at + length mark ≤ min max (length bytes) = rw (← length-take max bytes) within in
    (omega arith, omega arith)
within_by mark max bytes n None some is answer =
    elim (leb_tells max (length bytes)) [
      | inl w ↦ let wrong : TooLong max ≡ Packet n = rw w.0 at answer in cc
      | inr w ↦ let wrong : More ≡ Packet n = rw w.0 at answer in cc
    ]

pub IsSteady-first_in : (mark : List ℕ) (max : ℕ) → 0 < length mark → IsSteady (first_in mark max)
unfolding first_in
IsSteady-first_in mark max some =
    record {
      within = λ bytes n is. within_by mark max bytes n _ some (IsMarkAt-mark_at mark (take max bytes) some) is;
      steady = λ bytes later known. steady_by mark max bytes later _ some refl known;
    }

-- what the first place of the mark in the first max bytes tells
pub first_in-place : (mark : List ℕ) (max : ℕ) (bytes window : List ℕ) (r : Option ℕ) → window ≡ take max bytes → r ≡ mark_at mark window → first_by mark max bytes r ≡ first_in mark max bytes
unfolding first_in
first_in-place mark max bytes window r is place = ap (first_by mark max bytes) (place ∙ ap (mark_at mark) is)
