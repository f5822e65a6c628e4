-- A text is a reply exactly where it is printed so.
use Rattle.std.proofs.Common.{◌≡◌, ◌↔◌, ℕ, ◌<◌, ◌≤◌, Bool, true, false, cond, List, [], ◌∷◌, ◌++◌, length, Option, Some, None, refl, ap, sym, ◌∙◌, subst, arith, ℤ}
use Rattle.std.specs.Prelude.{codes}
use Rattle.std.specs.Fmt.{decimal, signed_decimal}
use Rattle.std.specs.List.{AllByRecursion, flat_map}
use Rattle.std.specs.Str.{bytes_eq}
use Rattle.std.proofs.lemmas.List.{append-nil}
use Rattle.sw_text.specs.Then.{◌>>=◌}
use Rattle.sw_text.specs.Numbers.{number_of, signed_of, FitsSigned}
use Rattle.sw_text.specs.Parts.{cut_at}
use Rattle.sw_text.proofs.AgreeLaw.{signed, numbers}
use Rattle.sw_base.specs.declared.table.Value.{Value}
use Rattle.sw_base.specs.declared.table.Reply.{Reply}
use Rattle.sw_base.specs.declared.table.Reply.TheVariants as replies
use Rattle.sw_call.specs.declared.answer.Replied.{Replied}
use Rattle.sw_call.specs.Values.{value_of, values_of}
use Rattle.sw_call.specs.Replies.{only, word_reply, row_reply, value_reply, count_reply, long_reply, reply_parts, reply_of}
use Rattle.sw_log_text.specs.Values.{value_text, cell_text, reply_text}
use Rattle.sw_call_texts.specs.Spelled.{IsValue, IsReply, IsReplied}
use Rattle.sw_call_texts.proofs.Peel.{first_of}
use Rattle.sw_call_texts.proofs.Cuts.{Without, behind, cut_plain, cut_joins, without_test}
use Rattle.sw_call_texts.proofs.Items.{IsReadSo, IsReadBack, items_spelled, items_back}
use Rattle.sw_call_texts.proofs.Words.{without_low, value_word}
use Rattle.sw_call_texts.proofs.ValueLaw.{value_back, value_is}
use Rattle.sw_call_texts.proofs.VerbLaw.{equal}

-- ---- values of a row

-- a row that is shown
abbrev row : List Value → Replied
row cells = record { reply = replies.Found; cells = cells }

cells_go : IsReadBack IsValue cell_text value_text value_of 32
cells_go v is = (refl, without_low 32 (value_text v) (omega arith) (value_word v is), value_back v is)

cell_read : IsReadSo IsValue cell_text value_of 32
cell_read text v e = let s = value_is text v e in (s.0, ap (λ (t : List ℕ). 32 ∷ t) s.1)

row_back : (v : Value) (vs : List Value) → IsValue v → AllByRecursion IsValue vs → row_reply (value_text v ++ flat_map cell_text vs) ≡ Some (row (v ∷ vs))
unfolding row_reply
row_back v vs is all =
    ap (λ (x : Option (List Value)). x >>= (λ (cells : List Value). Some (row cells))) (items_back IsValue cell_text value_text value_of 32 cells_go v vs is all)

-- ---- what is printed is read

long_back : (word rest : List ℕ) (o : Option Replied) → Without 32 word → long_reply word rest ≡ o → reply_of (word ++ 32 ∷ rest) ≡ o
unfolding reply_of
long_back word rest o plain e = ap reply_parts (cut_plain 32 word rest plain) ∙ e

value_reply_back : (n : ℤ) → FitsSigned n → value_reply (signed_decimal n) ≡ Some (only (replies.Value n))
unfolding value_reply
value_reply_back n fits =
    let law = signed (signed_decimal n) n in
    ap (λ (x : Option ℤ). x >>= (λ (m : ℤ). Some (only (replies.Value m)))) (law.1 (refl, fits))

count_reply_back : (n : ℕ) → n < 18446744073709551616 → count_reply (decimal n) ≡ Some (only (replies.Count n))
unfolding count_reply
count_reply_back n fits =
    let law = numbers (decimal n) n in
    ap (λ (x : Option ℕ). x >>= (λ (m : ℕ). Some (only (replies.Count m)))) (law.1 (refl, fits))

-- a reply without a row
abbrev Shows : Reply → List Value → Type 0
Shows r cells = reply_of (reply_text r cells) ≡ Some (record { reply = r; cells = cells })

shown : (r : Reply) (cells : List Value) → cells ≡ [] → Shows r [] → Shows r cells
shown r cells none back = rw none back

words_back : (Shows replies.Stored []) × (Shows replies.Full []) × (Shows replies.Found []) × (Shows replies.Missing []) × (Shows replies.Yes []) × (Shows replies.No []) × (Shows replies.Range [])
unfolding reply_of cut_at
words_back = (refl, refl, refl, refl, refl, refl, refl)

found_back : (cells : List Value) → AllByRecursion IsValue cells → Shows replies.Found cells
found_back [] all = words_back.2
found_back (v ∷ vs) all = long_back (codes "row") (value_text v ++ flat_map cell_text vs) (Some (row (v ∷ vs))) (without_test 32 (codes "row") refl) (row_back v vs all.0 all.1)

reply_back : (r : Reply) (cells : List Value) → IsReply r cells → Shows r cells
reply_back replies.Stored cells is = shown replies.Stored cells is words_back.0
reply_back replies.Full cells is = shown replies.Full cells is words_back.1
reply_back replies.Found cells is = found_back cells is
reply_back replies.Missing cells is = shown replies.Missing cells is words_back.3
reply_back replies.Yes cells is = shown replies.Yes cells is words_back.4
reply_back replies.No cells is = shown replies.No cells is words_back.5
reply_back (replies.Value n) cells is =
    shown (replies.Value n) cells is.1 (long_back (codes "value") (signed_decimal n) (Some (only (replies.Value n))) (without_test 32 (codes "value") refl) (value_reply_back n is.0))
reply_back replies.Range cells is = shown replies.Range cells is words_back.6
reply_back (replies.Count n) cells is =
    shown (replies.Count n) cells is.1 (long_back (codes "count") (decimal n) (Some (only (replies.Count n))) (without_test 32 (codes "count") refl) (count_reply_back n is.0))

-- ---- what is read is printed so

abbrev IsSpelled : List ℕ → Replied → Type 0
IsSpelled text r = IsReplied r × (text ≡ reply_text r.reply r.cells)

only_is : (text : List ℕ) (q : Reply) (r : Replied) → only q ≡ r → IsReply q [] → text ≡ reply_text q [] → IsSpelled text r
only_is text q r same is e = subst (λ (x : Replied). IsSpelled text x) same (is, e)

word_by : (a b c d f g h : Bool) (word : List ℕ) (r : Replied) → bytes_eq word (codes "stored") ≡ a → bytes_eq word (codes "full") ≡ b → bytes_eq word (codes "row") ≡ c → bytes_eq word (codes "missing") ≡ d → bytes_eq word (codes "yes") ≡ f → bytes_eq word (codes "no") ≡ g → bytes_eq word (codes "range") ≡ h
    → cond a (Some (only replies.Stored)) (cond b (Some (only replies.Full)) (cond c (Some (only replies.Found)) (cond d (Some (only replies.Missing)) (cond f (Some (only replies.Yes)) (cond g (Some (only replies.No)) (cond h (Some (only replies.Range)) None)))))) ≡ Some r → IsSpelled word r
word_by true b c d f g h word r s1 s2 s3 s4 s5 s6 s7 e = let same : only replies.Stored ≡ r = cc in only_is word replies.Stored r same refl (equal word (codes "stored") s1)
word_by false true c d f g h word r s1 s2 s3 s4 s5 s6 s7 e = let same : only replies.Full ≡ r = cc in only_is word replies.Full r same refl (equal word (codes "full") s2)
word_by false false true d f g h word r s1 s2 s3 s4 s5 s6 s7 e = let same : only replies.Found ≡ r = cc in only_is word replies.Found r same tt (equal word (codes "row") s3)
word_by false false false true f g h word r s1 s2 s3 s4 s5 s6 s7 e = let same : only replies.Missing ≡ r = cc in only_is word replies.Missing r same refl (equal word (codes "missing") s4)
word_by false false false false true g h word r s1 s2 s3 s4 s5 s6 s7 e = let same : only replies.Yes ≡ r = cc in only_is word replies.Yes r same refl (equal word (codes "yes") s5)
word_by false false false false false true h word r s1 s2 s3 s4 s5 s6 s7 e = let same : only replies.No ≡ r = cc in only_is word replies.No r same refl (equal word (codes "no") s6)
word_by false false false false false false true word r s1 s2 s3 s4 s5 s6 s7 e = let same : only replies.Range ≡ r = cc in only_is word replies.Range r same refl (equal word (codes "range") s7)
word_by false false false false false false false word r s1 s2 s3 s4 s5 s6 s7 e = absurd cc

word_read : (word : List ℕ) (r : Replied) → word_reply word ≡ Some r → IsSpelled word r
word_read word r e =
    word_by (bytes_eq word (codes "stored")) (bytes_eq word (codes "full")) (bytes_eq word (codes "row")) (bytes_eq word (codes "missing")) (bytes_eq word (codes "yes")) (bytes_eq word (codes "no")) (bytes_eq word (codes "range")) word r refl refl refl refl refl refl refl e

row_read : (text : List ℕ) (r : Replied) → row_reply text ≡ Some r → IsSpelled (codes "row" ++ 32 ∷ text) r
unfolding row_reply
row_read text r e =
    let vs = first_of (values_of text) (λ (cells : List Value). Some (row cells)) r e in
    let same : row vs.0 ≡ r = let f = vs.2 in cc in
    let s = items_spelled IsValue cell_text value_of 32 cell_read text vs.0 vs.1 in
    subst (λ (x : Replied). IsSpelled (codes "row" ++ 32 ∷ text) x) same (s.0, ap (λ (t : List ℕ). codes "row" ++ t) s.1)

value_reply_read : (text : List ℕ) (r : Replied) → value_reply text ≡ Some r → IsSpelled (codes "value" ++ 32 ∷ text) r
unfolding value_reply
value_reply_read text r e =
    let n = first_of (signed_of text) (λ (m : ℤ). Some (only (replies.Value m))) r e in
    let same : only (replies.Value n.0) ≡ r = let f = n.2 in cc in
    let law = signed text n.0 in
    let spelt = law.0 n.1 in
    subst (λ (x : Replied). IsSpelled (codes "value" ++ 32 ∷ text) x) same ((spelt.1, refl), ap (λ (t : List ℕ). codes "value " ++ t) spelt.0)

count_reply_read : (text : List ℕ) (r : Replied) → count_reply text ≡ Some r → IsSpelled (codes "count" ++ 32 ∷ text) r
unfolding count_reply
count_reply_read text r e =
    let n = first_of (number_of text) (λ (m : ℕ). Some (only (replies.Count m))) r e in
    let same : only (replies.Count n.0) ≡ r = let f = n.2 in cc in
    let law = numbers text n.0 in
    let spelt = law.0 n.1 in
    subst (λ (x : Replied). IsSpelled (codes "count" ++ 32 ∷ text) x) same ((spelt.1, refl), ap (λ (t : List ℕ). codes "count " ++ t) spelt.0)

in_word : (word closed text : List ℕ) (r : Replied) → word ≡ closed → IsSpelled (closed ++ 32 ∷ text) r → IsSpelled (word ++ 32 ∷ text) r
in_word word closed text r is s = rw is s

long_by : (a b c : Bool) (word text : List ℕ) (r : Replied) → bytes_eq word (codes "row") ≡ a → bytes_eq word (codes "value") ≡ b → bytes_eq word (codes "count") ≡ c
    → cond a (row_reply text) (cond b (value_reply text) (cond c (count_reply text) None)) ≡ Some r → IsSpelled (word ++ 32 ∷ text) r
long_by true b c word text r s1 s2 s3 e = in_word word (codes "row") text r (equal word (codes "row") s1) (row_read text r e)
long_by false true c word text r s1 s2 s3 e = in_word word (codes "value") text r (equal word (codes "value") s2) (value_reply_read text r e)
long_by false false true word text r s1 s2 s3 e = in_word word (codes "count") text r (equal word (codes "count") s3) (count_reply_read text r e)
long_by false false false word text r s1 s2 s3 e = absurd cc

parts_read : (p : List ℕ × Option (List ℕ)) (r : Replied) → reply_parts p ≡ Some r → IsSpelled (p.0 ++ behind 32 p.1) r
parts_read (word, None) r e = let s = word_read word r e in (s.0, append-nil word ∙ s.1)
parts_read (word, Some text) r e = long_by (bytes_eq word (codes "row")) (bytes_eq word (codes "value")) (bytes_eq word (codes "count")) word text r refl refl refl e

reply_read : (text : List ℕ) (r : Replied) → reply_of text ≡ Some r → IsSpelled text r
unfolding reply_of
reply_read text r e = let s = parts_read (cut_at 32 text) r e in (s.0, cut_joins 32 text ∙ s.1)

-- ---- both

pub spoken : (text : List ℕ) (r : Replied) → (reply_of text ≡ Some r) ↔ (IsReplied r × (text ≡ reply_text r.reply r.cells))
spoken text r = (reply_read text r, λ (e : IsSpelled text r). rw e.1 (reply_back r.reply r.cells e.0))
