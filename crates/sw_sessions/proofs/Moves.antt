-- What stays where one slot, one number or one view changes.
use Rattle.std.proofs.Common.{◌≡◌, ◌≢◌, ◌<◌, ◌≤◌, ◌+◌, ◌%◌, ◌⊎◌, ◌&&◌, inl, inr, ℕ, zero, suc, Bool, true, false, true≢false, cond, eqb, eq-eqb, ne_eqb, eqb-true, List, [], ◌∷◌, ◌++◌, length, set, sym, refl, ap, ◌∙◌, subst, ⊎_elim, arith}
use mathlib.Core.Option.{some, some-injective, some-ne-none}
use mathlib.Core.Logic.{dite}
use native.Mathlib.Decide.{ℕ_discrete}
use lib.ListN.{get_elem?}
use Rattle.atomic_table.proofs.Lists.{at_set}
use Rattle.sw_port_book.specs.Claims.{In}
use Rattle.sw_port_book.specs.declared.word.Word.{Word}
use Rattle.sw_port_book.proofs.Members.{in_longer}
use Rattle.sw_sessions.specs.declared.rule.Call.{Call}
use Rattle.sw_sessions.specs.declared.rule.Call.TheVariants.{Look, Bind, Release}
use Rattle.sw_sessions.specs.declared.rule.View.{View}
use Rattle.sw_sessions.specs.Calls.{ok_bind, binds, binds_in}
use Rattle.sw_sessions.specs.Rule.{total, Holds, Saw, Told, Desk, Fits}

pub at_snoc : {A : Type 0} (l : List A) (a b : A) (j : ℕ) → get_elem? (l ++ a ∷ []) j ≡ some b → (get_elem? l j ≡ some b) ⊎ ((j ≡ length l) × (a ≡ b))
at_snoc [] a b zero e = inr (refl, some-injective a b e)
at_snoc [] a b (suc j) e = absurd (some-ne-none b (sym e))
at_snoc (x ∷ xs) a b zero e = inl e
at_snoc (x ∷ xs) a b (suc j) e = ⊎_elim (λ t. inl t) (λ t. inr (ap suc t.0, t.1)) (at_snoc xs a b j e)

-- f with another value at i
abbrev pub put : (ℕ → ℕ) → ℕ → ℕ → ℕ → ℕ
put f i x k = cond (eqb i k) x (f k)

pub put_here : (f : ℕ → ℕ) (i x k : ℕ) → i ≡ k → put f i x k ≡ x
put_here f i x k e = ap (λ (t : Bool). cond t x (f k)) (eq-eqb i k e)

pub put_else : (f : ℕ → ℕ) (i x k : ℕ) → i ≢ k → put f i x k ≡ f k
put_else f i x k e = ap (λ (t : Bool). cond t x (f k)) (ne_eqb i k e)

pub total_set : (f : View → ℕ) (views : List View) (j : ℕ) (v w : View) → get_elem? views j ≡ some v → total f (set views j w) + f v ≡ total f views + f w
total_set f [] j v w e = absurd (some-ne-none v (sym e))
total_set f (x ∷ xs) zero v w e = let s : f x ≡ f v = ap f (some-injective x v e) in omega (arith, s)
total_set f (x ∷ xs) (suc j) v w e = let s = total_set f xs j v w e in omega (arith, s)

pub total_snoc : (f : View → ℕ) (views : List View) (w : View) → total f (views ++ w ∷ []) ≡ total f views + f w
total_snoc f [] w = omega arith
total_snoc f (x ∷ xs) w = let s = total_snoc f xs w in omega (arith, s)

-- a view with the same f takes the place
pub total_stay : (f : View → ℕ) (views : List View) (j : ℕ) (v w : View) → get_elem? views j ≡ some v → f v ≡ f w → total f (set views j w) ≡ total f views
total_stay f views j v w e same = let s = total_set f views j v w e in omega (arith, s, same)

pub binds-append : (p : ℕ) (xs ys : List Call) → binds_in p (xs ++ ys) ≡ binds_in p xs + binds_in p ys
binds-append p [] ys = omega arith
binds-append p (x ∷ xs) ys = let s = binds-append p xs ys in omega (arith, s)

-- what holds of each seat, after one view changed
pub each_set : (P : ℕ → View → Type 0) (views : List View) (id : ℕ) (w : View) → P id w → ((j : ℕ) (u : View) → j ≢ id → get_elem? views j ≡ some u → P j u)
    → (j : ℕ) (u : View) → get_elem? (set views id w) j ≡ some u → P j u
each_set P views id w mine others j u e =
    ⊎_elim (λ (t : (j ≡ id) × (w ≡ u)). subst (λ (y : ℕ × View). P y.0 y.1) (λ i. (sym t.0 i, t.1 i)) mine) (λ (t : (j ≢ id) × (get_elem? views j ≡ some u)). others j u t.0 t.1) (at_set views id j w u e)

-- and after a new one came
pub each_snoc : (P : ℕ → View → Type 0) (views : List View) (r : View) → P (length views) r → ((j : ℕ) (u : View) → get_elem? views j ≡ some u → P j u)
    → (j : ℕ) (u : View) → get_elem? (views ++ r ∷ []) j ≡ some u → P j u
each_snoc P views r mine others j u e =
    ⊎_elim (λ (t : get_elem? views j ≡ some u). others j u t) (λ (t : (j ≡ length views) × (r ≡ u)). subst (λ (y : ℕ × View). P y.0 y.1) (λ i. (sym t.0 i, t.1 i)) mine) (at_snoc views r u j e)

-- a seat keeps what it knows where its parts do
pub move : (max drawn drawn' : ℕ) (claimed claimed' : List ℕ) (desk : ℕ) (at at' keeper keeper' uid uid' : ℕ → ℕ) (count count' j : ℕ) (u : View) → Fits max drawn claimed desk at keeper uid count j u
    → (u.clerk ≡ true → Desk max drawn claimed desk count j u → Desk max drawn' claimed' desk count' j u)
    → ((p : ℕ) → Holds max at keeper j p → Holds max at' keeper' j p)
    → ((c : Call) → Told max at uid claimed c → Told max at' uid' claimed' c)
    → Fits max drawn' claimed' desk at' keeper' uid' count' j u
move max drawn drawn' claimed claimed' desk at at' keeper keeper' uid uid' count count' j u h desks holds told = record {
  desks = λ t. desks t (h.desks t);
  held = λ t. let k = h.held t in (k.0, holds u.number k.1);
  paired = λ t. let k = h.paired t in (holds u.other k.0, k.1);
  told = λ c i. told c (h.told c i);
  idle = h.idle;
}

-- the clerk counts as many passes as before
pub desk_still : (max drawn : ℕ) (claimed : List ℕ) (desk count count' j : ℕ) (u : View) → count' ≡ count → Desk max drawn claimed desk count j u → Desk max drawn claimed desk count' j u
desk_still max drawn claimed desk count count' j u e h = record { only = h.only; max_is = h.max_is; drawn_is = h.drawn_is; claimed_is = h.claimed_is; counted = h.counted ∙ sym e }

-- no other seat is the clerk
pub no_desk : (max drawn drawn' : ℕ) (claimed claimed' : List ℕ) (desk count count' id j : ℕ) (u : View) → id ≡ desk → j ≢ id → Desk max drawn claimed desk count j u → Desk max drawn' claimed' desk count' j u
no_desk max drawn drawn' claimed claimed' desk count count' id j u is ne h = absurd (ne (h.only ∙ sym is))

-- a number in another slot than the one that changes stays there
pub hold_else : (max : ℕ) (at keeper : ℕ → ℕ) (i x y j p : ℕ) → i ≢ p % max → Holds max at keeper j p → Holds max (put at i x) (put keeper i y) j p
hold_else max at keeper i x y j p ne h = (h.0, put_else at i x (p % max) ne ∙ h.1, put_else keeper i y (p % max) ne ∙ h.2)

pub keep_else : (max : ℕ) (at keeper : ℕ → ℕ) (i y j p : ℕ) → i ≢ p % max → Holds max at keeper j p → Holds max at (put keeper i y) j p
keep_else max at keeper i y j p ne h = (h.0, h.1, put_else keeper i y (p % max) ne ∙ h.2)

pub at_else : (max : ℕ) (at keeper : ℕ → ℕ) (i x j p : ℕ) → i ≢ p % max → Holds max at keeper j p → Holds max (put at i x) keeper j p
at_else max at keeper i x j p ne h = (h.0, put_else at i x (p % max) ne ∙ h.1, h.2)

-- the slots of two seats differ
pub two_slots : (max : ℕ) (at keeper : ℕ → ℕ) (i j q p : ℕ) → Holds max at keeper i q → Holds max at keeper j p → j ≢ i → q % max ≢ p % max
two_slots max at keeper i j q p a b ne e = ne (sym b.2 ∙ ap keeper (sym e) ∙ a.2)

-- where a slot was free, no number stands in it
pub free_slot : (max : ℕ) (at keeper : ℕ → ℕ) (i j p : ℕ) → at i ≡ 0 → Holds max at keeper j p → i ≢ p % max
free_slot max at keeper i j p z h e = h.0 (sym h.1 ∙ ap at (sym e) ∙ z)

saw_claim : (max num : ℕ) (uid : ℕ → ℕ) (claimed : List ℕ) (slot : ℕ) (word : Word) → Saw max uid claimed slot word → Saw max uid (claimed ++ num ∷ []) slot word
saw_claim max num uid claimed slot word h = ((λ n. let m = h.0 n in (in_longer word.number claimed (num ∷ []) m.0, m.1)), h.1)

saw_bind : (max p u : ℕ) (uid : ℕ → ℕ) (claimed : List ℕ) (slot : ℕ) (word : Word) → uid p ≡ 0 → Saw max uid claimed slot word → Saw max (put uid p u) claimed slot word
saw_bind max p u uid claimed slot word blank h =
    (h.0, (λ n. dite (ℕ_discrete p word.number) (λ is. absurd (n (h.1 n ∙ ap uid (sym is) ∙ blank))) (λ other. h.1 n ∙ sym (put_else uid p u word.number other))))

-- what was told stays right where a new number is claimed
pub told_claim : (max drawn num i : ℕ) (at uid : ℕ → ℕ) (claimed : List ℕ) (c : Call) → ((p : ℕ) → In p claimed → p ≤ drawn) → drawn < num → Told max at uid claimed c → Told max (put at i num) uid (claimed ++ num ∷ []) c
told_claim max drawn num i at uid claimed (Look slot word) below new h = saw_claim max num uid claimed slot word h
told_claim max drawn num i at uid claimed (Bind session asked word) below new h = (saw_claim max num uid claimed (session % max) word h.0, h.1, h.2)
told_claim max drawn num i at uid claimed (Release session found) below new h =
    let b = below session h.0 in (
      in_longer session claimed (num ∷ []) h.0,
      h.1,
      (λ e. dite (ℕ_discrete i (session % max)) (λ is. let x : num ≡ session = sym (put_here at i num (session % max) is) ∙ e in omega (arith, x, b, new)) (λ other. h.2 (sym (put_else at i num (session % max) other) ∙ e))),
      h.3,
    )

-- where a slot is emptied
pub told_release : (max i : ℕ) (at uid : ℕ → ℕ) (claimed : List ℕ) (c : Call) → Told max at uid claimed c → Told max (put at i 0) uid claimed c
told_release max i at uid claimed (Look slot word) h = h
told_release max i at uid claimed (Bind session asked word) h = h
told_release max i at uid claimed (Release session found) h = (
  h.0,
  h.1,
  (λ e. dite (ℕ_discrete i (session % max)) (λ is. h.1 (sym e ∙ put_here at i 0 (session % max) is)) (λ other. h.2 (sym (put_else at i 0 (session % max) other) ∙ e))),
  h.3,
)

-- where a number that stands in its slot gets a uid
pub told_bind : (max p u : ℕ) (at uid : ℕ → ℕ) (claimed : List ℕ) (c : Call) → at (p % max) ≡ p → uid p ≡ 0 → Told max at uid claimed c → Told max at (put uid p u) claimed c
told_bind max p u at uid claimed (Look slot word) here blank h = saw_bind max p u uid claimed slot word blank h
told_bind max p u at uid claimed (Bind session asked word) here blank h = (
  saw_bind max p u uid claimed (session % max) word blank h.0,
  h.1,
  (λ n z. dite (ℕ_discrete p session)
      (λ is. absurd (h.1 (sym (h.2 n z) ∙ ap uid (sym is) ∙ blank)))
      (λ other. put_else uid p u session other ∙ h.2 n z)),
)
told_bind max p u at uid claimed (Release session found) here blank h =
    (h.0, h.1, h.2, dite (ℕ_discrete p session) (λ is. absurd (h.2 (ap (λ k. at (k % max)) (sym is) ∙ here ∙ is))) (λ other. h.3 ∙ sym (put_else uid p u session other)))

and_true : (a b : Bool) → (a && b) ≡ true → (a ≡ true) × (b ≡ true)
and_true true b e = (refl, e)
and_true false b e = absurd (true≢false (sym e))

pub not_true : (b : Bool) → (b ≡ true → ⊥) → b ≡ false
not_true true h = absurd (h refl)
not_true false h = refl

-- an Ok bind of p names its uid
pub is_bind : (p : ℕ) (c : Call) → binds p c ≡ true → (u : ℕ) × (c ≡ ok_bind p u)
is_bind p (Look slot word) e = absurd (true≢false (sym e))
is_bind p (Bind session u word) e =
    let a = and_true (eqb session p) (eqb word.number p && eqb word.uid 0) e in
    let b = and_true (eqb word.number p) (eqb word.uid 0) a.1 in
    (u, λ i. Bind (eqb-true session p a.0 i) u record { number = eqb-true word.number p b.0 i; uid = eqb-true word.uid 0 b.1 i })
is_bind p (Release session found) e = absurd (true≢false (sym e))

pub binds_it : (p s u : ℕ) (word : Word) → s ≡ p → word.number ≡ p → word.uid ≡ 0 → binds p (Bind s u word) ≡ true
binds_it p s u word a b d = λ i. eq-eqb s p a i && (eq-eqb word.number p b i && eq-eqb word.uid 0 d i)

pub binds_not : (p s u : ℕ) (word : Word) → (s ≡ p → word.number ≡ p → word.uid ≡ 0 → ⊥) → binds p (Bind s u word) ≡ false
binds_not p s u word h = not_true (binds p (Bind s u word)) (λ e.
    let a = and_true (eqb s p) (eqb word.number p && eqb word.uid 0) e in
    let b = and_true (eqb word.number p) (eqb word.uid 0) a.1 in
    h (eqb-true s p a.0) (eqb-true word.number p b.0) (eqb-true word.uid 0 b.1))

pub binds-ok : (p u : ℕ) → binds p (ok_bind p u) ≡ true
binds-ok p u = binds_it p p u record { number = p; uid = 0 } refl refl refl
