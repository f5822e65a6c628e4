-- A head ends with an empty line.
use Rattle.std.proofs.Common.{◌≡◌, ℕ, Bool, true, false, ◌||◌, List, [], ◌∷◌, ◌++◌, refl, sym, ap, ◌∙◌, append-nil, append_assoc, subst, arith}
use Rattle.std.proofs.lemmas.Bool.{false≢true, eqb-true}
use Rattle.std.specs.Prelude.{if◌then◌else◌, nat_eq, IsTrue}
use Rattle.std.specs.List.{flat_map}
use Rattle.httparse.specs.Grammar.{LineEnd, crlf, lf, print_end, Field, IsToken, print_field, print_section, print_blank, print_version, RequestHead, IsRequestHead, print_request, is_token_byte}
use Rattle.httparse.proofs.GrammarLemmas.{print_request-append}
use Rattle.sw_http.specs.declared.ending.Ending.{Ending}
use Rattle.sw_http.specs.declared.ending.Ending.TheVariants.{Blank, Line, Feed, Return, Empty}
use Rattle.sw_http.specs.Lines.{ending_behind, ending_from, ending_of}

-- some byte was no line end
abbrev pub has_line : Ending → Bool
has_line Blank = false
has_line Line = true
has_line Feed = true
has_line Return = true
has_line Empty = true

-- behind a line feed
abbrev pub is_front : Ending → Bool
is_front Blank = false
is_front Line = false
is_front Feed = true
is_front Return = false
is_front Empty = true

pub ending-append : (e : Ending) (xs ys : List ℕ) → ending_from e (xs ++ ys) ≡ ending_from (ending_from e xs) ys
unfolding ending_from
ending-append e [] ys = refl
ending-append e (x ∷ xs) ys = ending-append (ending_behind e x) xs ys

pub ending-last : (e : Ending) (xs : List ℕ) (x : ℕ) → ending_from e (xs ++ x ∷ []) ≡ ending_behind (ending_from e xs) x
unfolding ending_from
ending-last e xs x = ending-append e xs (x ∷ [])

either : (t : Bool) (x y : Ending) → has_line x ≡ true → has_line y ≡ true → has_line (if t then x else y) ≡ true
either true x y p q = p
either false x y p q = q

stays_one : (e : Ending) (b : ℕ) → has_line e ≡ true → has_line (ending_behind e b) ≡ true
stays_one Blank b is = absurd (false≢true is)
stays_one Line b is = either (nat_eq b 10) Feed Line refl refl
stays_one Feed b is = either (nat_eq b 10) Empty (if nat_eq b 13 then Return else Line) refl (either (nat_eq b 13) Return Line refl refl)
stays_one Return b is = either (nat_eq b 10) Empty Line refl refl
stays_one Empty b is = either (nat_eq b 10) Empty (if nat_eq b 13 then Return else Line) refl (either (nat_eq b 13) Return Line refl refl)

stays : (e : Ending) (xs : List ℕ) → has_line e ≡ true → has_line (ending_from e xs) ≡ true
unfolding ending_from
stays e [] is = is
stays e (x ∷ xs) is = stays (ending_behind e x) xs (stays_one e x is)

-- a byte of a token is no line end
not_feed : IsTrue (is_token_byte 10) → ⊥
unfolding is_token_byte
not_feed token = absurd (false≢true token)

not_return : IsTrue (is_token_byte 13) → ⊥
unfolding is_token_byte
not_return token = absurd (false≢true token)

blank_by : (b : ℕ) (s t : Bool) → nat_eq b 10 ≡ s → nat_eq b 13 ≡ t → IsTrue (is_token_byte b) → has_line (if s || t then Blank else Line) ≡ true
blank_by b true t is _ token = absurd (not_feed (subst (λ x. IsTrue (is_token_byte x)) (eqb-true b 10 is) token))
blank_by b false true _ is token = absurd (not_return (subst (λ x. IsTrue (is_token_byte x)) (eqb-true b 13 is) token))
blank_by b false false _ _ token = refl

begins : (e : Ending) (b : ℕ) → IsTrue (is_token_byte b) → has_line (ending_behind e b) ≡ true
begins Blank b token = blank_by b (nat_eq b 10) (nat_eq b 13) refl refl token
begins Line b token = stays_one Line b refl
begins Feed b token = stays_one Feed b refl
begins Return b token = stays_one Return b refl
begins Empty b token = stays_one Empty b refl

-- a line end leads to the front of a line
to_front : (e : Ending) (end : LineEnd) → has_line e ≡ true → is_front (ending_from e (print_end end)) ≡ true
unfolding ending_from
to_front Blank end is = absurd (false≢true is)
to_front Line crlf is = refl
to_front Feed crlf is = refl
to_front Return crlf is = refl
to_front Empty crlf is = refl
to_front Line lf is = refl
to_front Feed lf is = refl
to_front Return lf is = refl
to_front Empty lf is = refl

front_has_line : (e : Ending) → is_front e ≡ true → has_line e ≡ true
front_has_line Blank is = absurd (false≢true is)
front_has_line Line is = absurd (false≢true is)
front_has_line Feed is = refl
front_has_line Return is = absurd (false≢true is)
front_has_line Empty is = refl

-- and from there to behind an empty one
to_empty : (e : Ending) (end : LineEnd) → is_front e ≡ true → ending_from e (print_end end) ≡ Empty
unfolding ending_from
to_empty Blank end is = absurd (false≢true is)
to_empty Line end is = absurd (false≢true is)
to_empty Return end is = absurd (false≢true is)
to_empty Feed crlf is = refl
to_empty Empty crlf is = refl
to_empty Feed lf is = refl
to_empty Empty lf is = refl

-- some bytes, and a line end behind them
past : (e : Ending) (xs : List ℕ) (end : LineEnd) → has_line e ≡ true → is_front (ending_from e (xs ++ print_end end)) ≡ true
past e xs end is = rw (ending-append e xs (print_end end)) (to_front (ending_from e xs) end (stays e xs is))

field_so : (e : Ending) (name raw : List ℕ) (end : LineEnd) (text : List ℕ) → text ≡ (name ++ 58 ∷ raw) ++ print_end end → has_line e ≡ true → is_front (ending_from e text) ≡ true
field_so e name raw end text joined is = ap (λ xs. is_front (ending_from e xs)) joined ∙ past e (name ++ 58 ∷ raw) end is

field_text : (f : Field) → print_field f ≡ (f.name ++ 58 ∷ f.raw) ++ print_end f.end
field_text f = grind (arith, append_assoc)

field_past : (e : Ending) (f : Field) → is_front e ≡ true → is_front (ending_from e (print_field f)) ≡ true
field_past e f is = field_so e f.name f.raw f.end (print_field f) (field_text f) (front_has_line e is)

fields_past : (e : Ending) (fs : List Field) → is_front e ≡ true → is_front (ending_from e (flat_map print_field fs)) ≡ true
unfolding ending_from
fields_past e [] is = is
fields_past e (f ∷ fs) is = rw (ending-append e (print_field f) (flat_map print_field fs)) (fields_past (ending_from e (print_field f)) fs (field_past e f is))

section_past : (e : Ending) (fs : List Field) (last : LineEnd) → is_front e ≡ true → ending_from e (print_section fs last) ≡ Empty
section_past e fs last is = rw (ending-append e (flat_map print_field fs) (print_end last)) (to_empty (ending_from e (flat_map print_field fs)) last (fields_past e fs is))

-- some bytes, and others behind them
over : (e g : Ending) (xs rest : List ℕ) → ending_from (ending_from e xs) rest ≡ g → ending_from e (xs ++ rest) ≡ g
over e g xs rest is = ending-append e xs rest ∙ is

-- a start line from its target on, and what stands behind it
version_past : (e : Ending) (version : List ℕ) (end : LineEnd) (fs : List Field) (last : LineEnd) → has_line e ≡ true → ending_from e (version ++ (print_end end ++ print_section fs last)) ≡ Empty
version_past e version end fs last is =
    over e Empty version (print_end end ++ print_section fs last)
    (over (ending_from e version) Empty (print_end end) (print_section fs last)
    (section_past (ending_from (ending_from e version) (print_end end)) fs last (to_front (ending_from e version) end (stays e version is))))

target_past : (e : Ending) (target version : List ℕ) (end : LineEnd) (fs : List Field) (last : LineEnd) → has_line e ≡ true → ending_from e (target ++ 32 ∷ (version ++ (print_end end ++ print_section fs last))) ≡ Empty
unfolding ending_from
target_past e target version end fs last is =
    over e Empty target (32 ∷ (version ++ (print_end end ++ print_section fs last)))
    (version_past (ending_behind (ending_from e target) 32) version end fs last (stays_one (ending_from e target) 32 (stays e target is)))

method_past : (e : Ending) (method target version : List ℕ) (end : LineEnd) (fs : List Field) (last : LineEnd) → IsToken method
    → ending_from e (method ++ 32 ∷ (target ++ 32 ∷ (version ++ (print_end end ++ print_section fs last)))) ≡ Empty
unfolding ending_from
method_past e [] target version end fs last token = absurd (omega (arith, token.0))
method_past e (m ∷ method) target version end fs last token =
    let one : has_line (ending_behind e m) ≡ true = begins e m (token.1 0 0 (omega arith)) in
    over (ending_behind e m) Empty method (32 ∷ (target ++ 32 ∷ (version ++ (print_end end ++ print_section fs last))))
    (target_past (ending_behind (ending_from (ending_behind e m) method) 32) target version end fs last (stays_one (ending_from (ending_behind e m) method) 32 (stays (ending_behind e m) method one)))

-- a head ends with an empty line, behind a byte that is no line end
pub head_ends : (h : RequestHead) → IsRequestHead h → ending_of (print_request h) ≡ Empty
head_ends h is =
    let parts = print_request-append h [] in
    let text : print_request h ≡ print_blank h.blank ++ (h.method ++ 32 ∷ (h.target ++ 32 ∷ (print_version h.minor ++ (print_end h.line_end ++ print_section h.fields h.last)))) =
    sym (append-nil (print_request h)) ∙ rw (append-nil (print_section h.fields h.last)) at parts in
    ap ending_of text
    ∙ over Blank Empty (print_blank h.blank) (h.method ++ 32 ∷ (h.target ++ 32 ∷ (print_version h.minor ++ (print_end h.line_end ++ print_section h.fields h.last))))
    (method_past (ending_from Blank (print_blank h.blank)) h.method h.target (print_version h.minor) h.line_end h.fields h.last is.method)
