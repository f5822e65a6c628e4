use Rattle.std.proofs.Common.{◌≡◌, ℕ, ◌<◌, Bool, true, false, cond, List, [], ◌∷◌, length, Option, Some, None, refl, ap, sym, ◌∙◌, arith}
use Rattle.std.specs.Prelude.{nat_eq}
use Rattle.sw_text.specs.Parts.{onto, cut_at}
use Rattle.sw_text.specs.Parts.{onto_first, lines_of}

abbrev pub lines_or : Option (List ℕ) → List (List ℕ)
lines_or None = []
lines_or (Some rest) = lines_of rest

abbrev lines_by : List ℕ × Option (List ℕ) → List (List ℕ)
lines_by parts = parts.0 ∷ lines_or parts.1

cut_one : (t : Bool) (b : ℕ) → cond t ([] ∷ lines_of []) (onto_first b (lines_of [])) ≡ lines_by (cond t ([], Some []) (onto b (cut_at 10 [])))
unfolding lines_of cut_at
cut_one true b = refl
cut_one false b = refl

cut_more : (t : Bool) (b : ℕ) (bs : List ℕ) → lines_of bs ≡ lines_by (cut_at 10 bs) → cond t ([] ∷ lines_of bs) (onto_first b (lines_of bs)) ≡ lines_by (cond t ([], Some bs) (onto b (cut_at 10 bs)))
cut_more true b bs e = refl
cut_more false b bs e = rw e refl

-- the first line is what stands before the first line feed
pub cut_lines : (b : ℕ) (bs : List ℕ) → lines_of (b ∷ bs) ≡ lines_by (cut_at 10 (b ∷ bs))
unfolding lines_of cut_at
cut_lines b [] = cut_one (nat_eq b 10) b
cut_lines b (c ∷ bs) = cut_more (nat_eq b 10) b (c ∷ bs) (cut_lines c bs)

pub first_line : (text line : List ℕ) (rest : Option (List ℕ)) → 0 < length text → (line, rest) ≡ cut_at 10 text → lines_of text ≡ line ∷ lines_or rest
first_line [] line rest lt e = absurd (omega (arith, lt))
first_line (b ∷ bs) line rest lt e = cut_lines b bs ∙ ap lines_by (sym e)

pub no_lines : lines_of [] ≡ []
unfolding lines_of
no_lines = refl

pub no_lines_in : (text : List ℕ) → length text ≡ 0 → lines_of text ≡ []
no_lines_in [] e = no_lines
no_lines_in (b ∷ bs) e = absurd (omega (arith, e))
