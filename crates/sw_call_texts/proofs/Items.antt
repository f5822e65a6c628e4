-- The pieces of a text, and the items that they are.
use Rattle.std.proofs.Common.{◌≡◌, ℕ, Bool, true, false, cond, List, [], ◌∷◌, ◌++◌, map, Option, Some, None, refl, ap, sym, ◌∙◌, subst, eqb, append_assoc}
use Rattle.std.specs.List.{AllByRecursion, flat_map}
use Rattle.std.proofs.lemmas.Bool.{eqb-true, eq-eqb, ne_eqb}
use Rattle.std.proofs.lemmas.List.{append-nil}
use Rattle.sw_text.specs.Parts.{onto_first}
use Rattle.sw_call.specs.Pieces.{pieces_of, with_next, items_read, items_in}
use Rattle.sw_call_texts.proofs.Cuts.{Without}

-- ---- pieces

pub piece_plain : (sep : ℕ) (x rest : List ℕ) → Without sep x → pieces_of sep (x ++ sep ∷ rest) ≡ x ∷ pieces_of sep rest
unfolding pieces_of
piece_plain sep [] rest w = rw (eq-eqb sep sep refl) refl
piece_plain sep (b ∷ bs) rest w = let other : eqb b sep ≡ false = ne_eqb b sep w.0 in rw (other, piece_plain sep bs rest w.1) refl

pub piece_last : (sep : ℕ) (x : List ℕ) → Without sep x → pieces_of sep x ≡ x ∷ []
unfolding pieces_of
piece_last sep [] w = refl
piece_last sep (b ∷ bs) w = let other : eqb b sep ≡ false = ne_eqb b sep w.0 in rw (other, piece_last sep bs w.1) refl

-- the pieces with a separator between each two are the text
abbrev pub IsJoined : ℕ → List ℕ → List (List ℕ) → Type 0
IsJoined sep text [] = ⊥
IsJoined sep text (p ∷ ps) = text ≡ p ++ flat_map (λ (q : List ℕ). sep ∷ q) ps

by_byte : (t : Bool) (sep b : ℕ) (bs : List ℕ) (ls : List (List ℕ)) → eqb b sep ≡ t → IsJoined sep bs ls → IsJoined sep (b ∷ bs) (cond t ([] ∷ ls) (onto_first b ls))
by_byte t sep b bs [] is a = absurd a
by_byte true sep b bs (p ∷ ps) is a = rw (eqb-true b sep is) (ap (λ (xs : List ℕ). sep ∷ xs) a)
by_byte false sep b bs (p ∷ ps) is a = ap (λ (xs : List ℕ). b ∷ xs) a

pub joined : (sep : ℕ) (text : List ℕ) → IsJoined sep text (pieces_of sep text)
unfolding pieces_of
joined sep [] = refl
joined sep (b ∷ bs) = by_byte (eqb b sep) sep b bs (pieces_of sep bs) refl (joined sep bs)

-- ---- items

-- each of the texts is read as its item
abbrev pub Each : {A : Type 0} → (List ℕ → Option A) → List (List ℕ) → List A → Type 0
Each f [] [] = Unit {0}
Each f [] (y ∷ ys) = ⊥
Each f (l ∷ ls) [] = ⊥
Each f (l ∷ ls) (y ∷ ys) = (f l ≡ Some y) × Each f ls ys

abbrev AreItems : {A : Type 0} → (List ℕ → Option A) → List (List ℕ) → List A → List A → Type 0
AreItems {A} f ls xs r = (ys : List A) × (r ≡ xs ++ ys) × Each f ls ys

each_more : {A : Type 0} (f : List ℕ → Option A) (l : List ℕ) (ls : List (List ℕ)) (xs r : List A) (o : Option A) → f l ≡ o → items_read f (with_next xs o) ls ≡ Some r
    → ((x : A) → items_read f (Some (xs ++ x ∷ [])) ls ≡ Some r → AreItems f ls (xs ++ x ∷ []) r) → AreItems f (l ∷ ls) xs r
unfolding items_read
each_more {A} f l ls xs r None is e more = absurd cc
each_more {A} f l ls xs r (Some x) is e more = let m = more x e in (x ∷ m.0, m.1 ∙ append_assoc xs (x ∷ []) m.0, (is, m.2))

pub each_read : {A : Type 0} (f : List ℕ → Option A) (ls : List (List ℕ)) (xs r : List A) → items_read f (Some xs) ls ≡ Some r → (ys : List A) × (r ≡ xs ++ ys) × Each f ls ys
unfolding items_read
each_read {A} f [] xs r e = let same : xs ≡ r = cc in ([], sym same ∙ sym (append-nil xs), tt)
each_read {A} f (l ∷ ls) xs r e = each_more f l ls xs r (f l) refl e (λ x rest. each_read f ls (xs ++ x ∷ []) r rest)

pub each_back : {A : Type 0} (f : List ℕ → Option A) (ls : List (List ℕ)) (xs ys : List A) → Each f ls ys → items_read f (Some xs) ls ≡ Some (xs ++ ys)
unfolding items_read
each_back {A} f [] xs [] e = ap (λ (zs : List A). Some zs) (sym (append-nil xs))
each_back {A} f [] xs (y ∷ ys) e = absurd e
each_back {A} f (l ∷ ls) xs [] e = absurd e
each_back {A} f (l ∷ ls) xs (y ∷ ys) e =
    let rest = each_back f ls (xs ++ y ∷ []) ys e.1 in
    ap (λ (o : Option A). items_read f (with_next xs o) ls) e.0 ∙ rest ∙ ap (λ (zs : List A). Some zs) (append_assoc xs (y ∷ []) ys)

-- ---- items that are printed with a separator in front of each

-- what is read as an item is printed for it
abbrev pub IsReadSo : {A : Type 0} → (A → Type 0) → (A → List ℕ) → (List ℕ → Option A) → ℕ → Type 0
IsReadSo {A} P print read sep = (l : List ℕ) (x : A) → read l ≡ Some x → P x × (sep ∷ l ≡ print x)

spelled : {A : Type 0} (P : A → Type 0) (print : A → List ℕ) (read : List ℕ → Option A) (sep : ℕ) → IsReadSo P print read sep → (ls : List (List ℕ)) (xs : List A) → Each read ls xs
    → AllByRecursion P xs × (flat_map (λ (q : List ℕ). sep ∷ q) ls ≡ flat_map print xs)
spelled {A} P print read sep so [] [] e = (tt, refl)
spelled {A} P print read sep so [] (x ∷ xs) e = absurd e
spelled {A} P print read sep so (l ∷ ls) [] e = absurd e
spelled {A} P print read sep so (l ∷ ls) (x ∷ xs) e =
    let one = so l x e.0 in
    let rest = spelled P print read sep so ls xs e.1 in
    ((one.0, rest.0), ap (λ (t : List ℕ). t ++ flat_map (λ (q : List ℕ). sep ∷ q) ls) one.1 ∙ ap (λ (t : List ℕ). print x ++ t) rest.1)

by_pieces : {A : Type 0} (P : A → Type 0) (print : A → List ℕ) (read : List ℕ → Option A) (sep : ℕ) → IsReadSo P print read sep → (text : List ℕ) (ls : List (List ℕ)) (xs : List A) → IsJoined sep text ls → Each read ls xs
    → AllByRecursion P xs × (sep ∷ text ≡ flat_map print xs)
by_pieces {A} P print read sep so text [] xs j e = absurd j
by_pieces {A} P print read sep so text (l ∷ ls) xs j e = let s = spelled P print read sep so (l ∷ ls) xs e in (s.0, ap (λ (t : List ℕ). sep ∷ t) j ∙ s.1)

pub items_spelled : {A : Type 0} (P : A → Type 0) (print : A → List ℕ) (read : List ℕ → Option A) (sep : ℕ) → IsReadSo P print read sep → (text : List ℕ) (xs : List A) → items_in read sep text ≡ Some xs
    → AllByRecursion P xs × (sep ∷ text ≡ flat_map print xs)
items_spelled {A} P print read sep so text xs e =
    let r = each_read read (pieces_of sep text) [] xs e in
    by_pieces P print read sep so text (pieces_of sep text) xs (joined sep text) (subst (λ (ys : List A). Each read (pieces_of sep text) ys) (sym r.1) r.2)

-- what is printed for an item is read as it
abbrev pub IsReadBack : {A : Type 0} → (A → Type 0) → (A → List ℕ) → (A → List ℕ) → (List ℕ → Option A) → ℕ → Type 0
IsReadBack {A} P print body read sep = (x : A) → P x → (print x ≡ sep ∷ body x) × Without sep (body x) × (read (body x) ≡ Some x)

pub printed_more : {A : Type 0} (P : A → Type 0) (print body : A → List ℕ) (read : List ℕ → Option A) (sep : ℕ) → IsReadBack P print body read sep → (x : A) (xs : List A) → P x → flat_map print (x ∷ xs) ≡ sep ∷ (body x ++ flat_map print xs)
printed_more {A} P print body read sep back x xs p = ap (λ (t : List ℕ). t ++ flat_map print xs) (back x p).0

bodies : {A : Type 0} (P : A → Type 0) (print body : A → List ℕ) (read : List ℕ → Option A) (sep : ℕ) → IsReadBack P print body read sep → (x : A) (xs : List A) → P x → AllByRecursion P xs → pieces_of sep (body x ++ flat_map print xs) ≡ body x ∷ map body xs
bodies {A} P print body read sep back x [] p all = ap (pieces_of sep) (append-nil (body x)) ∙ piece_last sep (body x) (back x p).1
bodies {A} P print body read sep back x (y ∷ ys) p all =
    ap (λ (t : List ℕ). pieces_of sep (body x ++ t)) (printed_more P print body read sep back y ys all.0)
    ∙ piece_plain sep (body x) (body y ++ flat_map print ys) (back x p).1
    ∙ ap (λ (ls : List (List ℕ)). body x ∷ ls) (bodies P print body read sep back y ys all.0 all.1)

each_body : {A : Type 0} (P : A → Type 0) (print body : A → List ℕ) (read : List ℕ → Option A) (sep : ℕ) → IsReadBack P print body read sep → (xs : List A) → AllByRecursion P xs → Each read (map body xs) xs
each_body {A} P print body read sep back [] all = tt
each_body {A} P print body read sep back (x ∷ xs) all = ((back x all.0).2, each_body P print body read sep back xs all.1)

pub items_back : {A : Type 0} (P : A → Type 0) (print body : A → List ℕ) (read : List ℕ → Option A) (sep : ℕ) → IsReadBack P print body read sep → (x : A) (xs : List A) → P x → AllByRecursion P xs
    → items_in read sep (body x ++ flat_map print xs) ≡ Some (x ∷ xs)
items_back {A} P print body read sep back x xs p all =
    ap (λ (ls : List (List ℕ)). items_read read (Some []) ls) (bodies P print body read sep back x xs p all)
    ∙ each_back read (body x ∷ map body xs) [] (x ∷ xs) ((back x p).2, each_body P print body read sep back xs all)
