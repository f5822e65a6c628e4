-- The line of a Table is the text of its size, percent and columns.
use Rattle.std.proofs.Common.{◌≡◌, ℕ, ◌≤◌, Bool, true, false, cond, List, [], ◌∷◌, ◌++◌, length, Option, Some, None, Result, Ok, Err, refl, ap, sym, ◌∙◌, subst, append_assoc, arith, ltb}
use Rattle.std.specs.Prelude.{codes, not, is_some, nat_eq, nat_lt, nat_le, if◌then◌else◌}
use Rattle.std.specs.Fmt.{decimal}
use Rattle.std.specs.List.{AllByRecursion, flat_map, list_all}
use Rattle.std.specs.Str.{bytes_eq}
use Rattle.std.proofs.lemmas.Bool.{ltb-false}
use Rattle.std.proofs.lemmas.List.{append-nil}
use Rattle.std.proofs.lemmas.Slice.Eq.{bytes_eq-Decides}
use Rattle.sw_text.specs.Then.{◌>>=◌}
use Rattle.sw_text.specs.Numbers.{number_of, number_within, within}
use Rattle.sw_text.specs.Parts.{part_at}
use Rattle.sw_text.proofs.NumberLaw.{is_written}
use Rattle.sw_column.specs.declared.column.Column.{Column}
use Rattle.sw_column.specs.declared.column.ColumnFault.{ColumnFault}
use Rattle.sw_column.specs.declared.column.ColumnFault.TheVariants.{TooMany, BadName}
use Rattle.sw_column.specs.declared.column.Kind.{Kind}
use Rattle.sw_column.specs.declared.column.Kind.TheVariants.{Int, Text, Float}
use Rattle.sw_column.specs.Columns.{column_fault, is_name}
use Rattle.sw_call.specs.declared.column_texts.Refused.{Refused}
use Rattle.sw_call.specs.Columns.{kind_of, without_space, column_text as column_read, columns_of, joined, schema_with, schema_of}
use Rattle.sw_call.specs.Pieces.{pieces_of}
use Rattle.sw_audit.specs.Grammar.{behind_word, listed, taken, schema_text, table_text}
use Rattle.sw_dump.specs.Texts.{kind_text, column_text, comma_column, columns_text}
use Rattle.sw_call_texts.proofs.Peel.{first_of, kept_by}
use Rattle.sw_call_texts.proofs.Cuts.{Without, part_plain, part_is}
use Rattle.sw_call_texts.proofs.Items.{Each, IsJoined, each_read, joined as pieces_joined}

equal : (xs ys : List ℕ) → bytes_eq xs ys ≡ true → xs ≡ ys
equal xs ys e = let d = bytes_eq-Decides xs ys in d.0 e

-- ---- a column

kind_by : (a b c : Bool) (text : List ℕ) (k : Kind) → bytes_eq text (codes "int") ≡ a → bytes_eq text (codes "string") ≡ b → bytes_eq text (codes "float") ≡ c
    → cond a (Some Int) (cond b (Some Text) (cond c (Some Float) None)) ≡ Some k → text ≡ kind_text k
kind_by true b c text k is nay non e = let f : Int ≡ k = cc in equal text (codes "int") is ∙ ap kind_text f
kind_by false true c text k is nay non e = let f : Text ≡ k = cc in equal text (codes "string") nay ∙ ap kind_text f
kind_by false false true text k is nay non e = let f : Float ≡ k = cc in equal text (codes "float") non ∙ ap kind_text f
kind_by false false false text k is nay non e = absurd cc

kind_is : (text : List ℕ) (k : Kind) → kind_of text ≡ Some k → text ≡ kind_text k
kind_is text k e = kind_by (bytes_eq text (codes "int")) (bytes_eq text (codes "string")) (bytes_eq text (codes "float")) text k refl refl refl e

bounded : (a b : Bool) (m n : ℕ) → cond a None (cond b None (Some m)) ≡ Some n → (a ≡ false) × (b ≡ false) × (m ≡ n)
bounded true b m n e = absurd cc
bounded false true m n e = absurd cc
bounded false false m n e = (refl, refl, cc)

abbrev IsWithin : ℕ → ℕ → List ℕ → ℕ → Type 0
IsWithin least most text n = (text ≡ decimal n) × (least ≤ n) × (n ≤ most)

number_is : (least most : ℕ) (text : List ℕ) (n : ℕ) → number_within least most text ≡ Some n → IsWithin least most text n
number_is least most text n e =
    let m = first_of (number_of text) (within least most) n e in
    let b = bounded (ltb m.0 least) (ltb most m.0) m.0 n m.2 in
    subst (λ (k : ℕ). IsWithin least most text k) b.2 ((is_written text m.0 m.1).0, ltb-false m.0 least b.0, ltb-false most m.0 b.1)

in_colons : (c : Column) (text front back word digits : List ℕ) → text ≡ front ++ 58 ∷ back → back ≡ word ++ 58 ∷ digits → front ≡ c.name → word ≡ kind_text c.kind → digits ≡ decimal c.size → text ≡ column_text c
in_colons c text front back word digits a b name kind size = rw (a, b, name, kind, size) (simp append_assoc)

column_is : (text : List ℕ) (c : Column) → column_read text ≡ Some c → text ≡ column_text c
unfolding column_read
column_is text c e =
    let p = first_of (part_at 58 text) (λ (p : List ℕ × List ℕ). part_at 58 p.1 >>= (λ (q : List ℕ × List ℕ). without_space p.0 >>= (λ (name : List ℕ). kind_of q.0 >>= (λ (kind : Kind). number_within 0 4294967295 q.1 >>= (λ (size : ℕ). Some (record { name = name; kind = kind; size = size })))))) c e in
    let q = first_of (part_at 58 p.0.1) (λ (q : List ℕ × List ℕ). without_space p.0.0 >>= (λ (name : List ℕ). kind_of q.0 >>= (λ (kind : Kind). number_within 0 4294967295 q.1 >>= (λ (size : ℕ). Some (record { name = name; kind = kind; size = size }))))) c p.2 in
    let name = first_of (without_space p.0.0) (λ (name : List ℕ). kind_of q.0.0 >>= (λ (kind : Kind). number_within 0 4294967295 q.0.1 >>= (λ (size : ℕ). Some (record { name = name; kind = kind; size = size })))) c q.2 in
    let kind = first_of (kind_of q.0.0) (λ (kind : Kind). number_within 0 4294967295 q.0.1 >>= (λ (size : ℕ). Some (record { name = name.0; kind = kind; size = size }))) c name.2 in
    let size = first_of (number_within 0 4294967295 q.0.1) (λ (size : ℕ). Some (record { name = name.0; kind = kind.0; size = size })) c kind.2 in
    let own : Column = record { name = name.0; kind = kind.0; size = size.0 } in
    let same : own ≡ c = let f = size.2 in cc in
    let spelled = kept_by (list_all (λ b. not (nat_eq b 32)) p.0.0) p.0.0 name.0 name.1 in
    let number = number_is 0 4294967295 q.0.1 size.0 size.1 in
    in_colons own text p.0.0 p.0.1 q.0.0 q.0.1 (part_is 58 text p.0 p.1) (part_is 58 p.0.1 q.0 q.1) spelled.1 (kind_is q.0.0 kind.0 kind.1) number.0 ∙ ap column_text same

-- ---- columns

commas : (ps : List (List ℕ)) (cs : List Column) → Each column_read ps cs → flat_map (λ (q : List ℕ). 44 ∷ q) ps ≡ flat_map comma_column cs
commas [] [] e = refl
commas [] (c ∷ cs) e = absurd e
commas (p ∷ ps) [] e = absurd e
commas (p ∷ ps) (c ∷ cs) e = rw (column_is p c e.0, commas ps cs e.1) refl

by_pieces : (text : List ℕ) (ls : List (List ℕ)) (cs : List Column) → IsJoined 44 text ls → Each column_read ls cs → text ≡ columns_text cs
by_pieces text [] cs a e = absurd a
by_pieces text (p ∷ ps) [] a e = absurd e
by_pieces text (p ∷ ps) (c ∷ cs) a e = a ∙ rw (column_is p c e.0, commas ps cs e.1) refl

columns_are : (text : List ℕ) (cs : List Column) → columns_of text ≡ Some cs → text ≡ columns_text cs
columns_are text cs e =
    let r = each_read column_read (pieces_of 44 text) [] cs e in
    by_pieces text (pieces_of 44 text) cs (pieces_joined 44 text) (subst (λ (ds : List Column). Each column_read (pieces_of 44 text) ds) (sym r.1) r.2)

listed_by : (t : Bool) (text : List ℕ) (cs : List Column) → bytes_eq text (codes "-") ≡ t → cond t (Some []) (columns_of text) ≡ Some cs → text ≡ columns_text cs
listed_by true text cs is e = let none : [] ≡ cs = cc in equal text (codes "-") is ∙ ap columns_text none
listed_by false text cs is e = columns_are text cs e

-- ---- a schema

abbrev pub AreNamed : List Column → Type 0
AreNamed cs = AllByRecursion (λ (c : Column). is_name c.name ≡ true) cs

named_by : (a n b : Bool) (rest : Option ColumnFault) → cond a (Some TooMany) (cond (not n) (Some BadName) rest) ≡ None → n ≡ true
named_by true n b rest e = absurd cc
named_by false true b rest e = refl
named_by false false b rest e = absurd cc

abbrev IsMore : List Column → List Column → List Column → Type 0
IsMore s cs r = (r ≡ s ++ cs) × AreNamed cs

one_column : (s cs r : List Column) (c : Column) (o : Option ColumnFault) → column_fault s c.name c.kind c.size ≡ o → schema_with (joined s c o) cs ≡ Ok r → (schema_with (Ok (s ++ c ∷ [])) cs ≡ Ok r → IsMore (s ++ c ∷ []) cs r) → IsMore s (c ∷ cs) r
unfolding schema_with
one_column s cs r c (Some fault) is e more = absurd cc
one_column s cs r c None is e more =
    let m = more e in
    (m.0 ∙ append_assoc s (c ∷ []) cs, (named_by (nat_le 32 (length s)) (is_name c.name) true _ is, m.1))

schema_more : (s cs r : List Column) → schema_with (Ok s) cs ≡ Ok r → IsMore s cs r
unfolding schema_with
schema_more s [] r e = let same : s ≡ r = cc in (sym same ∙ sym (append-nil s), tt)
schema_more s (c ∷ cs) r e = one_column s cs r c (column_fault s c.name c.kind c.size) refl e (λ f. schema_more (s ++ c ∷ []) cs r f)

taken_is : (o : Result (List Column) Refused) (cs : List Column) → taken o ≡ Some cs → o ≡ Ok cs
taken_is (Ok s) cs e = let same : s ≡ cs = cc in ap Ok same
taken_is (Err r) cs e = absurd cc

abbrev IsColumns : List ℕ → List Column → Type 0
IsColumns text cs = (text ≡ columns_text cs) × AreNamed cs

schema_is : (text : List ℕ) (cs : List Column) → schema_text text ≡ Some cs → IsColumns text cs
unfolding schema_text
schema_is text cs e =
    let l = first_of (listed text) (λ (columns : List Column). taken (schema_of columns)) cs e in
    let m = schema_more [] l.0 cs (taken_is (schema_of l.0) cs l.2) in
    (listed_by (bytes_eq text (codes "-")) text l.0 refl l.1 ∙ ap columns_text (sym m.0), subst AreNamed (sym m.0) m.1)

-- ---- the line

-- what stands behind the word
abbrev pub tail_of : ℕ × ℕ × List Column → List ℕ
tail_of t = decimal t.0 ++ 32 ∷ (decimal t.1 ++ 32 ∷ columns_text t.2)

pub record IsHead (word line : List ℕ) (t : ℕ × ℕ × List Column) : Type 0 where
  pub behind : behind_word word line ≡ Some (tail_of t)
  pub text : line ≡ word ++ 32 ∷ tail_of t
  pub least : 1 ≤ t.0
  pub most : t.0 ≤ 524288
  pub percent : t.1 ≤ 100
  pub named : AreNamed t.2

word_is : (word line rest : List ℕ) → behind_word word line ≡ Some rest → line ≡ word ++ 32 ∷ rest
unfolding behind_word
word_is word line rest e =
    let p = first_of (part_at 32 line) (λ (p : List ℕ × List ℕ). if bytes_eq p.0 word then Some p.1 else None) rest e in
    let k = kept_by (bytes_eq p.0.0 word) p.0.1 rest p.2 in
    part_is 32 line p.0 p.1 ∙ rw (equal p.0.0 word k.0, k.1) refl

parts_are : (t : ℕ × ℕ × List Column) (rest size more percent columns : List ℕ) → rest ≡ size ++ 32 ∷ more → more ≡ percent ++ 32 ∷ columns → size ≡ decimal t.0 → percent ≡ decimal t.1 → columns ≡ columns_text t.2 → rest ≡ tail_of t
parts_are t rest size more percent columns a b c d e = rw (a, b, c, d, e) refl

pub head_is : (word line : List ℕ) (t : ℕ × ℕ × List Column) → table_text word line ≡ Some t → IsHead word line t
unfolding table_text
head_is word line t e =
    let r = first_of (behind_word word line) (λ (rest : List ℕ). part_at 32 rest >>= (λ (s : List ℕ × List ℕ). part_at 32 s.1 >>= (λ (p : List ℕ × List ℕ). number_within 1 524288 s.0 >>= (λ (size : ℕ). number_within 0 100 p.0 >>= (λ (percent : ℕ). schema_text p.1 >>= (λ (schema : List Column). Some (size, percent, schema))))))) t e in
    let s = first_of (part_at 32 r.0) (λ (s : List ℕ × List ℕ). part_at 32 s.1 >>= (λ (p : List ℕ × List ℕ). number_within 1 524288 s.0 >>= (λ (size : ℕ). number_within 0 100 p.0 >>= (λ (percent : ℕ). schema_text p.1 >>= (λ (schema : List Column). Some (size, percent, schema)))))) t r.2 in
    let p = first_of (part_at 32 s.0.1) (λ (p : List ℕ × List ℕ). number_within 1 524288 s.0.0 >>= (λ (size : ℕ). number_within 0 100 p.0 >>= (λ (percent : ℕ). schema_text p.1 >>= (λ (schema : List Column). Some (size, percent, schema))))) t s.2 in
    let size = first_of (number_within 1 524288 s.0.0) (λ (size : ℕ). number_within 0 100 p.0.0 >>= (λ (percent : ℕ). schema_text p.0.1 >>= (λ (schema : List Column). Some (size, percent, schema)))) t p.2 in
    let percent = first_of (number_within 0 100 p.0.0) (λ (percent : ℕ). schema_text p.0.1 >>= (λ (schema : List Column). Some (size.0, percent, schema))) t size.2 in
    let schema = first_of (schema_text p.0.1) (λ (schema : List Column). Some (size.0, percent.0, schema)) t percent.2 in
    let own : ℕ × ℕ × List Column = (size.0, percent.0, schema.0) in
    let same : own ≡ t = let f = schema.2 in cc in
    let n = number_is 1 524288 s.0.0 size.0 size.1 in
    let m = number_is 0 100 p.0.0 percent.0 percent.1 in
    let cs = schema_is p.0.1 schema.0 schema.1 in
    let tail : r.0 ≡ tail_of own = parts_are own r.0 s.0.0 s.0.1 p.0.0 p.0.1 (part_is 32 r.0 s.0 s.1) (part_is 32 s.0.1 p.0 p.1) n.0 m.0 cs.0 in
    let behind : behind_word word line ≡ Some (tail_of own) = r.1 ∙ ap (λ (xs : List ℕ). Some xs) tail in
    subst (λ (u : ℕ × ℕ × List Column). IsHead word line u) same (record {
      behind = behind;
      text = word_is word line (tail_of own) behind;
      least = n.1;
      most = n.2;
      percent = m.2;
      named = cs.1;
    })

word_back : (word rest : List ℕ) → Without 32 word → behind_word word (word ++ 32 ∷ rest) ≡ Some rest
unfolding behind_word
word_back word rest w =
    let d = bytes_eq-Decides word word in
    let same : bytes_eq word word ≡ true = d.1 refl in
    rw (part_plain 32 word rest w, same) refl

-- the same Table behind another word
pub head_again : (word other line : List ℕ) (t : ℕ × ℕ × List Column) → table_text word line ≡ Some t → Without 32 other → table_text other (other ++ 32 ∷ tail_of t) ≡ Some t
unfolding table_text
head_again word other line t e w =
    let h = head_is word line t e in
    let read = rw h.behind at e in
    rw (word_back other (tail_of t) w) read
