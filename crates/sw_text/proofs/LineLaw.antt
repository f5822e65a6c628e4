use Rattle.std.proofs.Common.{◌≡◌, ℕ, ◌<◌, Bool, true, false, cond, List, [], ◌∷◌, ◌++◌, length, refl, ap, sym, ◌∙◌, arith, eqb, subst, inl, inr}
use Rattle.std.specs.Prelude.{◌⊎◌}
use Rattle.std.specs.List.{AllByRecursion, flat_map}
use Rattle.std.proofs.lemmas.Bool.{eqb-true, eqb-false}
use Rattle.sw_text.specs.Parts.{onto_first, lines_of, ended, AreLines}

abbrev Plain : List ℕ → Type 0
Plain l = AllByRecursion (λ b. ¬ (b ≡ 10)) l

abbrev Open : List ℕ → List (List ℕ) → Type 0
Open text ls = (front : List (List ℕ)) × (last : List ℕ) × (ls ≡ front ++ last ∷ []) × (0 < length last) × (text ≡ flat_map ended front ++ last)

abbrev Joined : List ℕ → List (List ℕ) → Type 0
Joined text ls = (text ≡ flat_map ended ls) ⊎ Open text ls

-- ---- a line feed ends an empty line

after_feed : (bs : List ℕ) (ls : List (List ℕ)) → Joined bs ls → Joined (10 ∷ bs) ([] ∷ ls)
after_feed bs ls (inl e) = inl (ap (λ (xs : List ℕ). 10 ∷ xs) e)
after_feed bs ls (inr o) = inr ([] ∷ o.0, o.1, ap (λ (xs : List (List ℕ)). [] ∷ xs) o.2, o.3, ap (λ (xs : List ℕ). 10 ∷ xs) o.4)

-- ---- another byte stands in front of the first line

no_last : (front : List (List ℕ)) (last : List ℕ) → [] ≡ front ++ last ∷ [] → ⊥
no_last [] last e = cc
no_last (f ∷ fs) last e = cc

alone : (b : ℕ) (bs : List ℕ) → Joined bs [] → Joined (b ∷ bs) ((b ∷ []) ∷ [])
alone b bs (inl e) = inr ([], b ∷ [], refl, omega arith, ap (λ (xs : List ℕ). b ∷ xs) e)
alone b bs (inr o) = absurd (no_last o.0 o.1 o.2)

longer : (b : ℕ) (bs l : List ℕ) (ls front : List (List ℕ)) (last : List ℕ) → l ∷ ls ≡ front ++ last ∷ [] → 0 < length last → bs ≡ flat_map ended front ++ last → Open (b ∷ bs) ((b ∷ l) ∷ ls)
longer b bs l ls [] last e some t =
    let one : l ≡ last = cc in
    let none : ls ≡ [] = cc in
    ([], b ∷ l, rw none refl, omega arith, ap (λ (xs : List ℕ). b ∷ xs) (t ∙ sym one))
longer b bs l ls (f ∷ fs) last e some t =
    let one : l ≡ f = cc in
    let more : ls ≡ fs ++ last ∷ [] = cc in
    ((b ∷ f) ∷ fs, last, rw (one, more) refl, some, ap (λ (xs : List ℕ). b ∷ xs) t)

in_front : (b : ℕ) (bs l : List ℕ) (ls : List (List ℕ)) → Joined bs (l ∷ ls) → Joined (b ∷ bs) ((b ∷ l) ∷ ls)
in_front b bs l ls (inl e) = inl (ap (λ (xs : List ℕ). b ∷ xs) e)
in_front b bs l ls (inr o) = inr (longer b bs l ls o.0 o.1 o.2 o.3 o.4)

onto : (b : ℕ) (bs : List ℕ) (ls : List (List ℕ)) → ¬ (b ≡ 10) → AreLines bs ls → AreLines (b ∷ bs) (onto_first b ls)
onto b bs [] other a = (((other, tt), tt), alone b bs a.1)
onto b bs (l ∷ ls) other a = (((other, a.0.0), a.0.1), in_front b bs l ls a.1)

by_byte : (t : Bool) (b : ℕ) (bs : List ℕ) (ls : List (List ℕ)) → eqb b 10 ≡ t → AreLines bs ls → AreLines (b ∷ bs) (cond t ([] ∷ ls) (onto_first b ls))
by_byte true b bs ls is a = subst (λ (c : ℕ). AreLines (c ∷ bs) ([] ∷ ls)) (sym (eqb-true b 10 is)) ((tt, a.0), after_feed bs ls a.1)
by_byte false b bs ls is a = onto b bs ls (eqb-false b 10 is) a

pub are_lines : (text : List ℕ) → AreLines text (lines_of text)
unfolding lines_of
are_lines [] = (tt, inl refl)
are_lines (b ∷ bs) = by_byte (eqb b 10) b bs (lines_of bs) refl (are_lines bs)
