-- The line of a Set is read as that Set.
use Rattle.std.proofs.Common.{◌≡◌, ℕ, zero, suc, ◌+◌, ◌-◌, ◌<◌, ◌≤◌, Bool, true, false, cond, ◌&&◌, List, [], ◌∷◌, ◌++◌, map, length, take, get_or, Option, Some, None, refl, ap, sym, ◌∙◌, subst, append_assoc, arith, leb, eqb, length-append, inl, inr, ℤ, pos, negsuc}
use Rattle.std.specs.Prelude.{codes, not, slice_index}
use Rattle.std.specs.Fmt.{decimal, signed_decimal}
use Rattle.std.specs.List.{AllByRecursion, flat_map, list_all}
use Rattle.std.proofs.lemmas.Bool.{eqb-false, ne_eqb, leb-true}
use Rattle.std.proofs.lemmas.List.{append-nil}
use Rattle.std.proofs.lemmas.Fmt.{digits_decimal}
use Rattle.std.proofs.Math.Seq.{get_or-append_seam, take-append_seam}
use Rattle.sw_text.specs.Numbers.{digits_behind}
use Rattle.sw_text.specs.Hex.{hex, bytes_of}
use Rattle.sw_text.specs.Parts.{cut_at}
use Rattle.sw_text.proofs.NumberLaw.{is_number}
use Rattle.sw_text.proofs.AgreeLaw.{bytes}
use Rattle.sw_base.specs.declared.table.Value.{Value}
use Rattle.sw_base.specs.declared.table.Call.{Call}
use Rattle.sw_base.specs.declared.table.Call.TheVariants.{Set, Get, Exist, Del, Incr, Decr, Count}
use Rattle.sw_base.specs.declared.table.Reply.{Reply}
use Rattle.sw_base.specs.declared.table.Reply.TheVariants as replies
use Rattle.sw_column.specs.declared.column.Column.{Column}
use Rattle.sw_column.specs.Columns.{is_name}
use Rattle.sw_column.specs.Fit.{call_fault, is_key}
use Rattle.sw_table_laws.specs.Rows.{with_pairs}
use Rattle.sw_table_laws.specs.Table.{Shape, State, TStep, set_step, may_write, row_of}
use Rattle.sw_call.specs.declared.answer.Replied.{Replied}
use Rattle.sw_call.specs.declared.verbs.Verb.TheVariants as verbs
use Rattle.sw_call.specs.Pieces.{pieces_of}
use Rattle.sw_call.specs.Calls.{pair_of, pairs_of, set_of, verb_of, keyed_of, call_of}
use Rattle.sw_call.specs.Replies.{only, reply_of}
use Rattle.sw_audit.specs.Grammar.{before_space, arrow_parts, fit_call, line_of}
use Rattle.sw_log_text.specs.Values.{value_text}
use Rattle.sw_dump.specs.Texts.{pair_text, set_text, call_text, reply_text, set_words}
use Rattle.sw_call_texts.specs.Spelled.{IsPair}
use Rattle.sw_dump.specs.Restores.{IsSet}
use Rattle.sw_call_texts.proofs.Cuts.{Without, without-append, cut_plain, cut_none, part_plain, without_test}
use Rattle.sw_call_texts.proofs.Items.{Each, piece_plain, piece_last, each_back}
use Rattle.sw_call_texts.proofs.Words.{IsWord, without_low, without_mid, number_word, hex_word, name_word, value_word}
use Rattle.sw_call_texts.proofs.ValueLaw.{value_back}

-- ---- pairs

abbrev body : List ℕ × Value → List ℕ
body p = p.0 ++ 61 ∷ value_text p.1

pair_is : (p : List ℕ × Value) → pair_text p ≡ 32 ∷ body p
pair_is p = simp append_assoc

pairs_are : (p : List ℕ × Value) (ps : List (List ℕ × Value)) → flat_map pair_text (p ∷ ps) ≡ 32 ∷ (body p ++ flat_map pair_text ps)
pairs_are p ps = ap (λ (t : List ℕ). t ++ flat_map pair_text ps) (pair_is p)

pair_back : (name : List ℕ) (v : Value) → IsPair (name, v) → pair_of (name ++ 61 ∷ value_text v) ≡ Some (name, v)
unfolding pair_of
pair_back name v is =
    let named : is_name name ≡ true = is.0 in
    let plain : Without 61 name = without_mid 61 name (omega arith) (omega arith) (name_word name named) in
    rw (part_plain 61 name (value_text v) plain, named, value_back v is.1) refl

body_plain : (name : List ℕ) (v : Value) → IsPair (name, v) → Without 32 (name ++ 61 ∷ value_text v)
body_plain name v is =
    without-append 32 name (61 ∷ value_text v) (without_low 32 name (omega arith) (name_word name is.0)) ((λ (e : 61 ≡ 32). omega (arith, e)), without_low 32 (value_text v) (omega arith) (value_word v is.1))

bodies : (p : List ℕ × Value) (ps : List (List ℕ × Value)) → IsPair p → AllByRecursion IsPair ps → pieces_of 32 (body p ++ flat_map pair_text ps) ≡ body p ∷ map body ps
bodies p [] is all = ap (pieces_of 32) (append-nil (body p)) ∙ piece_last 32 (body p) (body_plain p.0 p.1 is)
bodies p (q ∷ qs) is all = ap (λ (t : List ℕ). pieces_of 32 (body p ++ t)) (pairs_are q qs) ∙ piece_plain 32 (body p) (body q ++ flat_map pair_text qs) (body_plain p.0 p.1 is) ∙ ap (λ (ls : List (List ℕ)). body p ∷ ls) (bodies q qs all.0 all.1)

each_pair : (ps : List (List ℕ × Value)) → AllByRecursion IsPair ps → Each pair_of (map body ps) ps
each_pair [] all = tt
each_pair ((name, v) ∷ ps) all = (pair_back name v all.0, each_pair ps all.1)

pairs_back : (p : List ℕ × Value) (ps : List (List ℕ × Value)) → AllByRecursion IsPair (p ∷ ps) → pairs_of (body p ++ flat_map pair_text ps) ≡ Some (p ∷ ps)
pairs_back p ps all = rw (bodies p ps all.0 all.1) (each_back pair_of (body p ∷ map body ps) [] (p ∷ ps) (each_pair (p ∷ ps) all))

abbrev behind_key : List (List ℕ × Value) → Option (List ℕ)
behind_key [] = None
behind_key (p ∷ ps) = Some (body p ++ flat_map pair_text ps)

key_cut : (key : List ℕ) (ps : List (List ℕ × Value)) → AllByRecursion (λ b. b < 256) key → cut_at 32 (hex key ++ flat_map pair_text ps) ≡ (hex key, behind_key ps)
key_cut key [] fits = ap (cut_at 32) (append-nil (hex key)) ∙ cut_none 32 (hex key) (without_low 32 (hex key) (omega arith) (hex_word key fits))
key_cut key (p ∷ ps) fits = ap (λ (t : List ℕ). cut_at 32 (hex key ++ t)) (pairs_are p ps) ∙ cut_plain 32 (hex key) (body p ++ flat_map pair_text ps) (without_low 32 (hex key) (omega arith) (hex_word key fits))

verb_back : (ps : List (List ℕ × Value)) → AllByRecursion IsPair ps → set_of (behind_key ps) ≡ Some (verbs.Set ps)
unfolding set_of
verb_back [] all = refl
verb_back (p ∷ ps) all = rw (pairs_back p ps all) refl

-- ---- the call

not_empty : (key : List ℕ) → is_key key ≡ true → 0 < length key
not_empty [] e = absurd cc
not_empty (b ∷ bs) e = omega arith

key_back : (key : List ℕ) → is_key key ≡ true → AllByRecursion (λ b. b < 256) key → bytes_of (hex key) ≡ Some key
key_back key is fits = let law = bytes (hex key) key in law.1 (refl, not_empty key is, fits)

verb_is : (key : List ℕ) (ps : List (List ℕ × Value)) → IsSet (Set key ps) → verb_of (set_text key ps) ≡ Some (verbs.Set ps, hex key)
unfolding verb_of
verb_is key ps is =
    rw (part_plain 32 (codes "set") (hex key ++ flat_map pair_text ps) (without_test 32 (codes "set") refl), key_cut key ps is.1, verb_back ps is.2) refl

pub call_back : (key : List ℕ) (ps : List (List ℕ × Value)) → IsSet (Set key ps) → call_of (set_text key ps) ≡ Some (Set key ps)
unfolding keyed_of
call_back key ps is = rw (verb_is key ps is, key_back key is.0 is.1) refl

fit_back : (cs : List Column) (key : List ℕ) (ps : List (List ℕ × Value)) → IsSet (Set key ps) → call_fault cs (Set key ps) ≡ None → fit_call cs (set_text key ps) ≡ Some (Set key ps)
unfolding fit_call
fit_back cs key ps is fit = rw (call_back key ps is, fit) refl

-- ---- the reply

set_answer : (b : Bool) (s : State) (key : List ℕ) (row : List Value) → reply_of (reply_text (set_step b s key row).reply) ≡ Some (only (set_step b s key row).reply)
unfolding reply_of cut_at
set_answer true s key row = refl
set_answer false s key row = refl

pub reply_back : (t : Shape) (s : State) (key : List ℕ) (ps : List (List ℕ × Value)) → reply_of (reply_text (TStep t s (Set key ps)).reply) ≡ Some (only (TStep t s (Set key ps)).reply)
reply_back t s key ps = set_answer (may_write t s key) s key (with_pairs t.columns (row_of t s key) ps)

pub reply_plain : (r : Reply) → Without 10 (reply_text r)
reply_plain replies.Stored = without_test 10 (codes "stored") refl
reply_plain replies.Full = without_test 10 (codes "full") refl
reply_plain replies.Found = without_test 10 (codes "stored") refl
reply_plain replies.Missing = without_test 10 (codes "stored") refl
reply_plain replies.Yes = without_test 10 (codes "stored") refl
reply_plain replies.No = without_test 10 (codes "stored") refl
reply_plain (replies.Value n) = without_test 10 (codes "stored") refl
reply_plain replies.Range = without_test 10 (codes "stored") refl
reply_plain (replies.Count n) = without_test 10 (codes "stored") refl

-- ---- the line

before_last : (front : List ℕ) → before_space (front ++ 32 ∷ []) ≡ Some front
before_last front =
    let len : length (front ++ 32 ∷ []) ≡ suc (length front) = omega (arith, length-append front (32 ∷ [])) in
    let back : suc (length front) - 1 ≡ length front = omega arith in
    let last : slice_index (front ++ 32 ∷ []) (length front) ≡ 32 = get_or-append_seam front 32 [] 0 in
    let rest : take (length front) (front ++ 32 ∷ []) ≡ front = take-append_seam front (32 ∷ []) in
    let some : eqb (suc (length front)) 0 ≡ false = grind arith in
    rw (len, back, last, rest, some) refl

arrow_back : (front back : List ℕ) → Without 62 front → arrow_parts (front ++ 32 ∷ 62 ∷ 32 ∷ back) ≡ Some (front, back)
unfolding arrow_parts
arrow_back front back w =
    let regroup : front ++ 32 ∷ 62 ∷ 32 ∷ back ≡ (front ++ 32 ∷ []) ++ 62 ∷ (32 ∷ back) = sym (append_assoc front (32 ∷ []) (62 ∷ (32 ∷ back))) in
    let plain : Without 62 (front ++ 32 ∷ []) = without-append 62 front (32 ∷ []) w ((λ (e : 32 ≡ 62). omega (arith, e)), tt) in
    rw (regroup, part_plain 62 (front ++ 32 ∷ []) (32 ∷ back) plain, before_last front) refl

line_by : (cs : List Column) (n : ℕ) (text reply : List ℕ) (call : Call) (replied : Replied) → n < 18446744073709551616 → Without 62 text → fit_call cs text ≡ Some call → reply_of reply ≡ Some replied
    → line_of cs (decimal n ++ 32 ∷ 48 ∷ 32 ∷ (text ++ 32 ∷ 62 ∷ 32 ∷ reply)) ≡ Some (record { at = n; caller = 0; call = call; replied = replied })
unfolding line_of digits_behind
line_by cs n text reply call replied lt w fit told =
    let plain : Without 32 (decimal n) = without_low 32 (decimal n) (omega arith) (number_word n lt) in
    rw (
      part_plain 32 (decimal n) (48 ∷ 32 ∷ (text ++ 32 ∷ 62 ∷ 32 ∷ reply)) plain,
      part_plain 32 (48 ∷ []) (text ++ 32 ∷ 62 ∷ 32 ∷ reply) (without_test 32 (48 ∷ []) refl),
      arrow_back text reply w,
      is_number n lt,
      fit,
      told,
    ) refl

pairs_plain : (sep : ℕ) (ps : List (List ℕ × Value)) → ¬ (32 ≡ sep) → ¬ (61 ≡ sep) → ((xs : List ℕ) → IsWord xs → Without sep xs) → AllByRecursion IsPair ps → Without sep (flat_map pair_text ps)
pairs_plain sep [] space sign word all = tt
pairs_plain sep ((name, v) ∷ ps) space sign word all =
    subst (Without sep) (sym (pairs_are (name, v) ps)) (space, without-append sep (name ++ 61 ∷ value_text v) (flat_map pair_text ps) (without-append sep name (61 ∷ value_text v) (word name (name_word name all.0.0)) (sign, word (value_text v) (value_word v all.0.1))) (pairs_plain sep ps space sign word all.1))

set_plain : (sep : ℕ) (key : List ℕ) (ps : List (List ℕ × Value)) → ¬ (32 ≡ sep) → ¬ (61 ≡ sep) → ((xs : List ℕ) → IsWord xs → Without sep xs) → Without sep (codes "set ") → IsSet (Set key ps) → Without sep (set_text key ps)
set_plain sep key ps space sign word front is =
    without-append sep (codes "set ") (hex key ++ flat_map pair_text ps) front (without-append sep (hex key) (flat_map pair_text ps) (word (hex key) (hex_word key is.1)) (pairs_plain sep ps space sign word is.2))

text_plain : (key : List ℕ) (ps : List (List ℕ × Value)) → IsSet (Set key ps) → Without 62 (set_text key ps)
text_plain key ps is =
    set_plain 62 key ps (λ (e : 32 ≡ 62). omega (arith, e)) (λ (e : 61 ≡ 62). omega (arith, e)) (λ (xs : List ℕ) w. without_mid 62 xs (omega arith) (omega arith) w) (without_test 62 (codes "set ") refl) is

words_are : (n : ℕ) (call : Call) (reply : Reply) → set_words n call reply ≡ decimal n ++ 32 ∷ 48 ∷ 32 ∷ (call_text call ++ 32 ∷ 62 ∷ 32 ∷ reply_text reply)
words_are n call reply = simp append_assoc

set_read : (cs : List Column) (t : Shape) (n : ℕ) (s : State) (key : List ℕ) (ps : List (List ℕ × Value)) → n < 18446744073709551616 → IsSet (Set key ps) → call_fault cs (Set key ps) ≡ None
    → line_of cs (set_words n (Set key ps) (TStep t s (Set key ps)).reply) ≡ Some (record { at = n; caller = 0; call = Set key ps; replied = only (TStep t s (Set key ps)).reply })
set_read cs t n s key ps lt is fit =
    ap (line_of cs) (words_are n (Set key ps) (TStep t s (Set key ps)).reply)
    ∙ line_by cs n (set_text key ps) (reply_text (TStep t s (Set key ps)).reply) (Set key ps) (only (TStep t s (Set key ps)).reply) lt (text_plain key ps is) (fit_back cs key ps is fit) (reply_back t s key ps)

-- the line of a Set with its step's reply is read as that
pub line_read : (cs : List Column) (t : Shape) (n : ℕ) (s : State) (call : Call) → n < 18446744073709551616 → IsSet call → call_fault cs call ≡ None
    → line_of cs (set_words n call (TStep t s call).reply) ≡ Some (record { at = n; caller = 0; call = call; replied = only (TStep t s call).reply })
line_read cs t n s (Set key ps) lt is fit = set_read cs t n s key ps lt is fit
line_read cs t n s (Get key) lt is fit = absurd is
line_read cs t n s (Exist key) lt is fit = absurd is
line_read cs t n s (Del key) lt is fit = absurd is
line_read cs t n s (Incr key name by) lt is fit = absurd is
line_read cs t n s (Decr key name by) lt is fit = absurd is
line_read cs t n s Count lt is fit = absurd is

words_plain : (n : ℕ) (text reply : List ℕ) → n < 18446744073709551616 → Without 10 text → Without 10 reply → Without 10 (decimal n ++ 32 ∷ 48 ∷ 32 ∷ (text ++ 32 ∷ 62 ∷ 32 ∷ reply))
words_plain n text reply lt wt wr =
    without-append 10 (decimal n) (32 ∷ 48 ∷ 32 ∷ (text ++ 32 ∷ 62 ∷ 32 ∷ reply)) (without_low 10 (decimal n) (omega arith) (number_word n lt))
    (without-append 10 (codes " 0 ") (text ++ 32 ∷ 62 ∷ 32 ∷ reply) (without_test 10 (codes " 0 ") refl)
    (without-append 10 text (32 ∷ 62 ∷ 32 ∷ reply) wt
    (without-append 10 (codes " > ") reply (without_test 10 (codes " > ") refl) wr)))

set_line_plain : (n : ℕ) (key : List ℕ) (ps : List (List ℕ × Value)) (r : Reply) → n < 18446744073709551616 → IsSet (Set key ps) → Without 10 (set_words n (Set key ps) r)
set_line_plain n key ps r lt is =
    subst (Without 10) (sym (words_are n (Set key ps) r)) (words_plain n (set_text key ps) (reply_text r) lt
    (set_plain 10 key ps (λ (e : 32 ≡ 10). omega (arith, e)) (λ (e : 61 ≡ 10). omega (arith, e)) (λ (xs : List ℕ) w. without_low 10 xs (omega arith) w) (without_test 10 (codes "set ") refl) is)
    (reply_plain r))

-- no line feed stands in it
pub line_plain : (n : ℕ) (call : Call) (r : Reply) → n < 18446744073709551616 → IsSet call → Without 10 (set_words n call r)
line_plain n (Set key ps) r lt is = set_line_plain n key ps r lt is
line_plain n (Get key) r lt is = absurd is
line_plain n (Exist key) r lt is = absurd is
line_plain n (Del key) r lt is = absurd is
line_plain n (Incr key name by) r lt is = absurd is
line_plain n (Decr key name by) r lt is = absurd is
line_plain n Count r lt is = absurd is
