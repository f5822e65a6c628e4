-- Texts cut at separators that do not stand in their parts.
use Rattle.std.proofs.Common.{◌≡◌, ℕ, Bool, true, false, cond, ◌&&◌, List, [], ◌∷◌, ◌++◌, Option, Some, None, refl, ap, sym, ◌∙◌, subst, eqb}
use Rattle.std.specs.Prelude.{not}
use Rattle.std.specs.List.{AllByRecursion, list_all}
use Rattle.std.proofs.lemmas.Bool.{eqb-true, eqb-false, eq-eqb, ne_eqb}
use Rattle.sw_text.specs.Parts.{onto, cut_at, parted, part_at, lines_of}

-- no byte of the text is the separator
abbrev pub Without : ℕ → List ℕ → Type 0
Without sep xs = AllByRecursion (λ b. ¬ (b ≡ sep)) xs

pub without-append : (sep : ℕ) (xs ys : List ℕ) → Without sep xs → Without sep ys → Without sep (xs ++ ys)
without-append sep [] ys p q = q
without-append sep (x ∷ xs) ys p q = (p.0, without-append sep xs ys p.1 q)

pub without_front : (sep : ℕ) (xs ys : List ℕ) → Without sep (xs ++ ys) → Without sep ys
without_front sep [] ys p = p
without_front sep (x ∷ xs) ys p = without_front sep xs ys p.1

-- ---- a text in two parts

pub cut_plain : (sep : ℕ) (xs rest : List ℕ) → Without sep xs → cut_at sep (xs ++ sep ∷ rest) ≡ (xs, Some rest)
unfolding cut_at
cut_plain sep [] rest w = rw (eq-eqb sep sep refl) refl
cut_plain sep (b ∷ bs) rest w = let other : eqb b sep ≡ false = ne_eqb b sep w.0 in rw (other, cut_plain sep bs rest w.1) refl

pub cut_none : (sep : ℕ) (xs : List ℕ) → Without sep xs → cut_at sep xs ≡ (xs, None)
unfolding cut_at
cut_none sep [] w = refl
cut_none sep (b ∷ bs) w = let other : eqb b sep ≡ false = ne_eqb b sep w.0 in rw (other, cut_none sep bs w.1) refl

pub part_plain : (sep : ℕ) (xs rest : List ℕ) → Without sep xs → part_at sep (xs ++ sep ∷ rest) ≡ Some (xs, rest)
unfolding part_at
part_plain sep xs rest w = rw (cut_plain sep xs rest w) refl

cut_one : (t : Bool) (sep b : ℕ) (bs rest : List ℕ) (p : List ℕ × Option (List ℕ)) → eqb b sep ≡ t → (p.1 ≡ Some rest → bs ≡ p.0 ++ sep ∷ rest) → (cond t ([], Some bs) (onto b p)).1 ≡ Some rest → b ∷ bs ≡ (cond t ([], Some bs) (onto b p)).0 ++ sep ∷ rest
cut_one true sep b bs rest p is more e = let f : bs ≡ rest = cc in rw (f, eqb-true b sep is) refl
cut_one false sep b bs rest p is more e = ap (λ (xs : List ℕ). b ∷ xs) (more e)

cut_is : (sep : ℕ) (text rest : List ℕ) → (cut_at sep text).1 ≡ Some rest → text ≡ (cut_at sep text).0 ++ sep ∷ rest
unfolding cut_at
cut_is sep [] rest e = absurd cc
cut_is sep (b ∷ bs) rest e = cut_one (eqb b sep) sep b bs rest (cut_at sep bs) refl (cut_is sep bs rest) e

abbrev IsPart : ℕ → List ℕ → List ℕ × List ℕ → Type 0
IsPart sep text p = text ≡ p.0 ++ sep ∷ p.1

parts : (sep : ℕ) (text front : List ℕ) (o : Option (List ℕ)) (p : List ℕ × List ℕ) → ((rest : List ℕ) → o ≡ Some rest → text ≡ front ++ sep ∷ rest) → parted (front, o) ≡ Some p → IsPart sep text p
parts sep text front None p is e = absurd cc
parts sep text front (Some rest) p is e = let f : (front, rest) ≡ p = cc in subst (λ (q : List ℕ × List ℕ). IsPart sep text q) f (is rest refl)

-- the two parts with the separator between them are the text
pub part_is : (sep : ℕ) (text : List ℕ) (p : List ℕ × List ℕ) → part_at sep text ≡ Some p → text ≡ p.0 ++ sep ∷ p.1
unfolding part_at
part_is sep text p e = parts sep text (cut_at sep text).0 (cut_at sep text).1 p (cut_is sep text) e

-- ---- lines

pub line_plain : (line rest : List ℕ) → Without 10 line → lines_of (line ++ 10 ∷ rest) ≡ line ∷ lines_of rest
unfolding lines_of
line_plain [] rest w = refl
line_plain (b ∷ bs) rest w = let other : eqb b 10 ≡ false = ne_eqb b 10 w.0 in rw (other, line_plain bs rest w.1) refl

-- ---- a text that may have a separator

abbrev pub behind : ℕ → Option (List ℕ) → List ℕ
behind sep None = []
behind sep (Some rest) = sep ∷ rest

by_first : (t : Bool) (sep b : ℕ) (bs : List ℕ) (p : List ℕ × Option (List ℕ)) → eqb b sep ≡ t → bs ≡ p.0 ++ behind sep p.1 → b ∷ bs ≡ (cond t ([], Some bs) (onto b p)).0 ++ behind sep (cond t ([], Some bs) (onto b p)).1
by_first true sep b bs p is e = ap (λ (c : ℕ). c ∷ bs) (eqb-true b sep is)
by_first false sep b bs p is e = ap (λ (xs : List ℕ). b ∷ xs) e

-- the two parts with what stood between them are the text
pub cut_joins : (sep : ℕ) (text : List ℕ) → text ≡ (cut_at sep text).0 ++ behind sep (cut_at sep text).1
unfolding cut_at
cut_joins sep [] = refl
cut_joins sep (b ∷ bs) = by_first (eqb b sep) sep b bs (cut_at sep bs) refl (cut_joins sep bs)

-- ---- closed texts

without_by : (sep b : ℕ) (bs : List ℕ) (t : Bool) → eqb b sep ≡ t → (not t && list_all (λ c. not (eqb c sep)) bs) ≡ true → (¬ (b ≡ sep)) × (list_all (λ c. not (eqb c sep)) bs ≡ true)
without_by sep b bs true is e = absurd cc
without_by sep b bs false is e = (eqb-false b sep is, e)

pub without_test : (sep : ℕ) (xs : List ℕ) → list_all (λ c. not (eqb c sep)) xs ≡ true → Without sep xs
without_test sep [] e = tt
without_test sep (b ∷ bs) e = let t = without_by sep b bs (eqb b sep) refl e in (t.0, without_test sep bs t.1)

-- a text in two parts, each of which is another text
pub joined_at : (sep : ℕ) (text front back first second : List ℕ) → text ≡ front ++ sep ∷ back → front ≡ first → back ≡ second → text ≡ first ++ sep ∷ second
joined_at sep text front back first second a b c = rw (a, b, c) refl
