use Rattle.std.proofs.Common.{◌≡◌, ℕ, Bool, true, false, cond, List, [], ◌∷◌, ◌++◌, Option, Some, None, refl, ap, eqb}
use Rattle.sw_text.specs.Parts.{cut_at, onto, onto_first}
use Rattle.sw_call.specs.Pieces.{pieces_of, pieces_behind, with_next, items_read}

-- ---- the first piece is what stands before the first separator

abbrev pub PiecesAre : ℕ → List (List ℕ) → List ℕ × Option (List ℕ) → Type 0
PiecesAre sep ls parts = ls ≡ parts.0 ∷ pieces_behind sep parts.1

by_byte : (t : Bool) (sep b : ℕ) (bs : List ℕ) (ls : List (List ℕ)) (parts : List ℕ × Option (List ℕ)) → ls ≡ pieces_of sep bs → PiecesAre sep ls parts
    → PiecesAre sep (cond t ([] ∷ ls) (onto_first b ls)) (cond t ([], Some bs) (onto b parts))
by_byte true sep b bs ls parts is a = ap (λ (xs : List (List ℕ)). [] ∷ xs) is
by_byte false sep b bs ls parts is a = ap (onto_first b) a

pub first_is_cut : (sep : ℕ) (text : List ℕ) → PiecesAre sep (pieces_of sep text) (cut_at sep text)
unfolding pieces_of cut_at
first_is_cut sep [] = refl
first_is_cut sep (b ∷ bs) = by_byte (eqb b sep) sep b bs (pieces_of sep bs) (cut_at sep bs) refl (first_is_cut sep bs)

-- ---- a loop over the pieces

pub piece_next : {A : Type 0} (f : List ℕ → Option A) (sep : ℕ) (xs : List A) (x : A) (piece text more : List ℕ) (total : Option (List A))
    → Some x ≡ f piece → pieces_of sep text ≡ piece ∷ pieces_of sep more → items_read f (Some xs) (pieces_of sep text) ≡ total
    → items_read f (Some (xs ++ x ∷ [])) (pieces_of sep more) ≡ total
unfolding items_read
piece_next {A} f sep xs x piece text more total is cut so_far =
    let one : items_read f (with_next xs (f piece)) (pieces_of sep more) ≡ total = rw cut at so_far in
    rw (← is) at one

pub piece_last : {A : Type 0} (f : List ℕ → Option A) (sep : ℕ) (xs : List A) (x : A) (piece text : List ℕ) (total : Option (List A))
    → Some x ≡ f piece → pieces_of sep text ≡ piece ∷ [] → items_read f (Some xs) (pieces_of sep text) ≡ total
    → Some (xs ++ x ∷ []) ≡ total
unfolding items_read
piece_last {A} f sep xs x piece text total is cut so_far =
    let one : items_read f (with_next xs (f piece)) [] ≡ total = rw cut at so_far in
    rw (← is) at one

pub piece_bad : {A : Type 0} (f : List ℕ → Option A) (sep : ℕ) (xs : List A) (piece text : List ℕ) (rest : List (List ℕ)) (total : Option (List A))
    → None ≡ f piece → pieces_of sep text ≡ piece ∷ rest → items_read f (Some xs) (pieces_of sep text) ≡ total → None ≡ total
unfolding items_read
piece_bad {A} f sep xs piece text rest total is cut so_far =
    let one : items_read f (with_next xs (f piece)) rest ≡ total = rw cut at so_far in
    let two : items_read f (with_next xs None) rest ≡ total = rw (← is) at one in
    two
