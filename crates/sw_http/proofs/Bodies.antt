-- The fields of a head, one after the other.
use Rattle.std.proofs.Common.{◌≡◌, ℕ, suc, ◌+◌, ◌-◌, ◌*◌, ◌<◌, ◌≤◌, Bool, true, false, ◌||◌, ◌&&◌, List, ◌∷◌, length, drop, map, get_or, Option, Some, None, sym, ap, ◌∙◌, arith, drop-cons}
use Rattle.std.specs.Prelude.{◌^◌}
use Rattle.std.proofs.lemmas.List.{drop_all}
use Rattle.std.proofs.Math.Nat.{pow-le-pow_right}
use Rattle.std.specs.List.{list_all}
use Rattle.std.specs.Char.{is_ascii_digit}
use Rattle.httparse.specs.declared.spans.HeaderSpan.{HeaderSpan}
use Rattle.sw_http.specs.Body.{Pair, is_coding, has_coding, more_length, lengths_in, number_after}

-- ---- codings

at : {A : Type 0} (xs : List A) (i : ℕ) (x : A) → i < length xs → x ≡ get_or xs i x → drop i xs ≡ x ∷ drop (i + 1) xs
at xs i x lt is =
    let one : suc i ≡ i + 1 = omega arith in
    drop-cons xs i x lt ∙ ap (λ y. y ∷ drop (suc i) xs) (sym is) ∙ ap (λ n. x ∷ drop n xs) one

at_get : {A : Type 0} (xs : List A) (i : ℕ) (d : A) → i < length xs → drop i xs ≡ get_or xs i d ∷ drop (i + 1) xs
at_get xs i d lt =
    let one : suc i ≡ i + 1 = omega arith in
    drop-cons xs i d lt ∙ ap (λ n. get_or xs i d ∷ drop n xs) one

pub coding_found : (g : HeaderSpan → Pair) (hs : List HeaderSpan) (i : ℕ) (h : HeaderSpan) (total : Bool) → i < length hs → h ≡ get_or hs i h → is_coding (g h) ≡ true → has_coding (map g (drop i hs)) ≡ total → true ≡ total
coding_found g hs i h total lt is coded so_far =
    let left : (is_coding (g h) || has_coding (map g (drop (i + 1) hs))) ≡ total = rw (at hs i h lt is) at so_far in
    rw coded at left

pub coding_next : (g : HeaderSpan → Pair) (hs : List HeaderSpan) (i : ℕ) (h : HeaderSpan) (total : Bool) → i < length hs → h ≡ get_or hs i h → is_coding (g h) ≡ false → has_coding (map g (drop i hs)) ≡ total → has_coding (map g (drop (i + 1) hs)) ≡ total
coding_next g hs i h total lt is plain so_far =
    let left : (is_coding (g h) || has_coding (map g (drop (i + 1) hs))) ≡ total = rw (at hs i h lt is) at so_far in
    rw plain at left

-- ---- lengths

pub length_bad : (g : HeaderSpan → Pair) (hs : List HeaderSpan) (i : ℕ) (h : HeaderSpan) (before : Option ℕ) (total : Option (Option ℕ)) → i < length hs → more_length before (g (get_or hs i h)) ≡ None → lengths_in (Some before) (map g (drop i hs)) ≡ total → None ≡ total
unfolding lengths_in
length_bad g hs i h before total lt bad so_far =
    let left : lengths_in (more_length before (g (get_or hs i h))) (map g (drop (i + 1) hs)) ≡ total = rw (at_get hs i h lt) at so_far in
    rw bad at left

pub length_next : (g : HeaderSpan → Pair) (hs : List HeaderSpan) (i : ℕ) (h : HeaderSpan) (before next : Option ℕ) (total : Option (Option ℕ)) → i < length hs → more_length before (g (get_or hs i h)) ≡ Some next → lengths_in (Some before) (map g (drop i hs)) ≡ total → lengths_in (Some next) (map g (drop (i + 1) hs)) ≡ total
unfolding lengths_in
length_next g hs i h before next total lt so so_far =
    let left : lengths_in (more_length before (g (get_or hs i h))) (map g (drop (i + 1) hs)) ≡ total = rw (at_get hs i h lt) at so_far in
    rw so at left

pub length_done : (g : HeaderSpan → Pair) (hs : List HeaderSpan) (i : ℕ) (before : Option ℕ) (total : Option (Option ℕ)) → length hs ≤ i → lengths_in (Some before) (map g (drop i hs)) ≡ total → Some before ≡ total
unfolding lengths_in
length_done g hs i before total le so_far = rw (drop_all i hs le) at so_far

-- ---- digits

pub digit_next : (text : List ℕ) (i n b total : ℕ) → i < length text → b ≡ get_or text i b → number_after n (drop i text) ≡ total → number_after (10 * n + (b - 48)) (drop (i + 1) text) ≡ total
digit_next text i n b total lt is so_far = rw (at text i b lt is) at so_far

pub digits_next : (text : List ℕ) (i b : ℕ) (total : Bool) → i < length text → b ≡ get_or text i b → is_ascii_digit b ≡ true → list_all is_ascii_digit (drop i text) ≡ total → list_all is_ascii_digit (drop (i + 1) text) ≡ total
digits_next text i b total lt is digit so_far =
    let left : (is_ascii_digit b && list_all is_ascii_digit (drop (i + 1) text)) ≡ total = rw (at text i b lt is) at so_far in
    rw digit at left

pub digits_bad : (text : List ℕ) (i b : ℕ) (total : Bool) → i < length text → b ≡ get_or text i b → is_ascii_digit b ≡ false → list_all is_ascii_digit (drop i text) ≡ total → false ≡ total
digits_bad text i b total lt is other so_far =
    let left : (is_ascii_digit b && list_all is_ascii_digit (drop (i + 1) text)) ≡ total = rw (at text i b lt is) at so_far in
    rw other at left

-- ---- powers

pub pow_least : (i : ℕ) → i ≤ 18 → 10 ^ i ≤ 1000000000000000000
pow_least i le = pow-le-pow_right (omega arith) le

pub pow_most : (i : ℕ) → i < 18 → 10 ^ i ≤ 100000000000000000
pow_most i lt =
    let le : i ≤ 17 = omega (arith, lt) in
    pow-le-pow_right (omega arith) le
