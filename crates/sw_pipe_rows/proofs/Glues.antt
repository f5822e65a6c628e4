-- Rows without their last ones.
use Rattle.std.proofs.Common.{◌≡◌, ◌∙◌, ◌<◌, zero, suc, List, [], ◌∷◌, ◌++◌, refl, sym, ap, subst, length, arith, map, All, length-append, get_or}
use Rattle.std.proofs.lemmas.List.{map-append, length-map}
use Rattle.sw_pipe_rows.specs.Rows.{glue}

pub glue_more : {X : Type 0} (rs : List (List X)) (xs : List X) (r : List X) (x : X) → length rs ≡ length xs → glue (rs ++ r ∷ []) (xs ++ x ∷ []) ≡ glue rs xs ++ (r ++ x ∷ []) ∷ []
glue_more [] [] r x e = refl
glue_more [] (y ∷ xs) r x e = absurd (omega (arith, e))
glue_more (s ∷ rs) [] r x e = absurd (omega (arith, e))
glue_more (s ∷ rs) (y ∷ xs) r x e = ap (λ l. (s ++ y ∷ []) ∷ l) (glue_more rs xs r x (let n : suc (length rs) ≡ suc (length xs) = e in omega (arith, n)))

-- one more row is split
pub step : {V X : Type 0} (items : V → List X) (done rest rest' : List V) (column column' : List X) (row row' : V) (x : X)
    → length rest ≡ length column → rest' ≡ rest ++ row' ∷ [] → column' ≡ column ++ x ∷ [] → items row ≡ items row' ++ x ∷ []
    → map items done ≡ glue (map items rest) column → map items (done ++ row ∷ []) ≡ glue (map items rest') column'
step items done rest rest' column column' row row' x len more_rest more_column split was =
    map-append items done (row ∷ []) ∙ ap (λ l. l ++ items row ∷ []) was ∙ ap (λ r. glue (map items rest) column ++ r ∷ []) split
    ∙ sym (glue_more (map items rest) column (items row') x (length-map rest items ∙ len))
    ∙ ap (λ l. glue l (column ++ x ∷ [])) (sym (map-append items rest (row' ∷ []))) ∙ ap (λ l. glue (map items l) (column ++ x ∷ [])) (sym more_rest) ∙ ap (λ l. glue (map items rest') l) (sym more_column)

abbrev tail_of : {X : Type 0} → List X → List X
tail_of [] = []
tail_of (x ∷ xs) = xs

abbrev head_or : {X : Type 0} → X → List X → X
head_or d [] = d
head_or d (x ∷ xs) = x

pub snoc_injective : {X : Type 0} (xs ys : List X) (x y : X) → xs ++ x ∷ [] ≡ ys ++ y ∷ [] → (xs ≡ ys) × (x ≡ y)
snoc_injective [] [] x y e = (refl, ap (head_or x) e)
snoc_injective [] (b ∷ ys) x y e = absurd (let l : suc zero ≡ suc (length (ys ++ y ∷ [])) = ap length e in let m = length-append ys (y ∷ []) in omega (arith, l, m))
snoc_injective (a ∷ xs) [] x y e = absurd (let l : suc (length (xs ++ x ∷ [])) ≡ suc zero = ap length e in let m = length-append xs (x ∷ []) in omega (arith, l, m))
snoc_injective (a ∷ xs) (b ∷ ys) x y e =
    let r = snoc_injective xs ys x y (ap tail_of e) in
    (ap (λ l. a ∷ l) r.0 ∙ ap (λ h. h ∷ ys) (ap (head_or a) e), r.1)

all_tail : {X : Type 0} (P : X → Type 0) (x : X) (xs : List X) → All P (x ∷ xs) → All P xs
all_tail P x xs h k d lt = h (suc k) d (let n : k < length xs = lt in omega (arith, n))

all_cons : {X : Type 0} (P : X → Type 0) (x : X) (xs : List X) → P x → All P xs → All P (x ∷ xs)
all_cons P x xs p h zero d lt = p
all_cons P x xs p h (suc k) d lt = h k d (let n : suc k < suc (length xs) = lt in omega (arith, n))

all_none : {X : Type 0} (P : X → Type 0) → All P []
all_none P k d lt = absurd (omega (arith, lt))

pub unglue : {X Y : Type 0} (f : X → Y) (rs : List (List X)) (xs : List X) (fs : List Y) (y : Y) → length rs ≡ length xs
    → All (λ r. map f r ≡ fs ++ y ∷ []) (glue rs xs) → All (λ r. map f r ≡ fs) rs × All (λ x. f x ≡ y) xs
unglue f [] [] fs y len h = (all_none _, all_none _)
unglue f [] (x ∷ xs) fs y len h = absurd (omega (arith, len))
unglue f (r ∷ rs) [] fs y len h = absurd (omega (arith, len))
unglue f (r ∷ rs) (x ∷ xs) fs y len h =
    let here : map f (r ++ x ∷ []) ≡ fs ++ y ∷ [] = h 0 (r ++ x ∷ []) (omega arith) in
    let two = snoc_injective (map f r) fs (f x) y (sym (map-append f r (x ∷ [])) ∙ here) in
    let rest = unglue f rs xs fs y (let n : suc (length rs) ≡ suc (length xs) = len in omega (arith, n)) (all_tail (λ l. map f l ≡ fs ++ y ∷ []) (r ++ x ∷ []) (glue rs xs) h) in
    (all_cons (λ l. map f l ≡ fs) r rs two.0 rest.0, all_cons (λ z. f z ≡ y) x xs two.1 rest.1)

pub all_map : {V X : Type 0} (items : V → X) (P : X → Type 0) (vs : List V) → All (λ v. P (items v)) vs → All P (map items vs)
all_map items P [] h = all_none P
all_map items P (v ∷ vs) h = all_cons P (items v) (map items vs) (h 0 v (omega arith)) (all_map items P vs (all_tail (λ v. P (items v)) v vs h))

pub map_all : {V X : Type 0} (items : V → X) (P : X → Type 0) (vs : List V) → All P (map items vs) → All (λ v. P (items v)) vs
map_all items P [] h = all_none _
map_all items P (v ∷ vs) h = all_cons (λ v. P (items v)) v vs (h 0 (items v) (omega arith)) (map_all items P vs (all_tail P (items v) (map items vs) h))

-- what the rows' pipes say of the rows without their last ones, and of these
pub parted : {V X Y T : Type 0} (items : V → List X) (f : X → Y) (g : T → Y) (rows rest : List V) (last : List X) (ts ts' : List T) (t : T)
    → ts ≡ ts' ++ t ∷ [] → map items rows ≡ glue (map items rest) last → length rest ≡ length last
    → All (λ r. map f (items r) ≡ map g ts) rows → All (λ r. map f (items r) ≡ map g ts') rest × All (λ x. f x ≡ g t) last
parted items f g rows rest last ts ts' t is glued len h =
    let lists : All (λ r. map f r ≡ map g ts) (map items rows) = all_map items (λ r. map f r ≡ map g ts) rows h in
    let moved : All (λ r. map f r ≡ map g ts' ++ g t ∷ []) (glue (map items rest) last) =
    subst (λ l. All (λ r. map f r ≡ l) (glue (map items rest) last)) (ap (map g) is ∙ map-append g ts' (t ∷ [])) (subst (All (λ r. map f r ≡ map g ts)) glued lists) in
    let both = unglue f (map items rest) last (map g ts') (g t) (length-map rest items ∙ len) moved in
    (map_all items (λ r. map f r ≡ map g ts') rest both.0, both.1)

-- a row has as many as there are pipes
pub rows_filled : {V X Y T : Type 0} (items : V → List X) (f : X → Y) (g : T → Y) (rows : List V) (ts ts' : List T) (t : T)
    → ts ≡ ts' ++ t ∷ [] → All (λ r. map f (items r) ≡ map g ts) rows → All (λ r. 0 < length (items r)) rows
rows_filled items f g rows ts ts' t is h k d lt =
    let e = ap length (h k d lt) in
    let a = length-map (items (get_or rows k d)) f in let b = length-map ts g in let m = ap length is in let n = length-append ts' (t ∷ []) in
    omega (arith, e, a, b, m, n)

pub all_front : {X : Type 0} (P : X → Type 0) (xs : List X) (x : X) → All P (xs ++ x ∷ []) → All P xs × P x
all_front P [] x h = (all_none P, h 0 x (omega arith))
all_front P (y ∷ xs) x h =
    let rest = all_front P xs x (all_tail P y (xs ++ x ∷ []) h) in
    (all_cons P y xs (h 0 y (omega arith)) rest.0, rest.1)
