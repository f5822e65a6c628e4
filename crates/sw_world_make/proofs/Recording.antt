-- Handlers with empty logs, one by one.
use Rattle.std.proofs.Common.{◌≡◌, ℕ, zero, suc, List, [], ◌∷◌, ◌++◌, ◌<◌, length, map, replicate, refl, ap, ◌∙◌, sym, subst, arith}
use Rattle.std.proofs.lemmas.List.{map-append, length-map}
use Rattle.sw_world_crew.specs.declared.recorded.Recorded.{Recorded}
use Rattle.sw_world_crew.specs.Recorded.{inner_of, log_of}
use Rattle.sw_world_make.specs.Handlers.{AreRecorded}

same_more : {A : Type 0} (n : ℕ) (x : A) → replicate n x ++ x ∷ [] ≡ replicate (suc n) x
same_more zero x = refl
same_more {A} (suc n) x = ap (λ (ys : List A). x ∷ ys) (same_more n x)

one_longer : {A : Type 0} (xs : List A) (x : A) → suc (length xs) ≡ length (xs ++ x ∷ [])
one_longer [] x = refl
one_longer (y ∷ ys) x = ap (λ (n : ℕ). suc n) (one_longer ys x)

-- one that tells nothing, behind others that do
silent_more : {A B : Type 0} (told : A → List B) (all : List A) (x : A) → told x ≡ [] → map told all ≡ replicate (length all) [] → map told (all ++ x ∷ []) ≡ replicate (length (all ++ x ∷ [])) []
silent_more {A} {B} told all x none h =
    map-append told all (x ∷ [])
    ∙ ap (λ (ys : List (List B)). ys ++ told x ∷ []) h
    ∙ ap (λ (y : List B). replicate (length all) [] ++ y ∷ []) none
    ∙ same_more (length all) []
    ∙ ap (λ (n : ℕ). replicate n []) (one_longer all x)

pub one_recorded : {H : Type 0} (given : List H) (x : H) (all more : List (Recorded H)) (l : Recorded H) → more ≡ all ++ l ∷ [] → inner_of l ≡ x → log_of l ≡ [] → AreRecorded given all → AreRecorded (given ++ x ∷ []) more
one_recorded {H} given x all more l e inner log h =
    subst (λ (ls : List (Recorded H)). AreRecorded (given ++ x ∷ []) ls) (sym e) (
      map-append inner_of all (l ∷ []) ∙ ap (λ (ys : List H). ys ++ inner_of l ∷ []) h.0 ∙ ap (λ (y : H). given ++ y ∷ []) inner,
      silent_more log_of all l log h.1,
    )

-- as many as were given
pub some_recorded : {H : Type 0} (given : List H) (all : List (Recorded H)) → 0 < length given → AreRecorded given all → 0 < length all
some_recorded given all some h =
    let many : length (map inner_of all) ≡ length all = length-map all inner_of in
    let same : length (map inner_of all) ≡ length given = ap length h.0 in
    omega (arith, many, same, some)
