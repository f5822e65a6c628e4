-- The set of names that stands beside the pairs.
use Rattle.std.proofs.Common.{◌≡◌, ℕ, Bool, true, false, cond, not, ◌||◌, List, [], ◌∷◌, ◌++◌, Option, Some, None, refl, sym, ap, ◌∙◌, subst}
use Rattle.std.specs.Prelude.{is_some}
use Rattle.std.specs.Global.{Vec}
use Rattle.std.specs.List.{list_any}
use Rattle.std.specs.Str.{bytes_eq}
use Rattle.std.specs.declared.cmp.Ordering.{Ordering}
use Rattle.std.specs.declared.cmp.Ordering.TheVariants.{Less, Equal, Greater}
use Rattle.std.specs.Ordering.{nat_cmp, is_eq, match_ordering}
use Rattle.std.specs.Cmp.Lexicographic.{slice_cmp, nat_list_eq_equiv}
use Rattle.std.specs.BTreeSet.{insert_key}
use Rattle.std.proofs.lemmas.Map.Text.{is_eq-slice_cmp}
use Rattle.sw_settings.specs.declared.pair.SetValue.{SetValue}
use Rattle.sw_settings.specs.declared.pair.Pair.{Pair}
use Rattle.sw_settings.specs.Given.{given}
use Rattle.sw_set_lines.specs.Pairs.{has_name, with_pair, AreNames}

-- ---- the names of pairs

abbrev order : Vec ℕ → Vec ℕ → Ordering
order x y = slice_cmp nat_cmp x.items y.items

-- whether a text has these bytes, as `AreNames` asks
abbrev same : List ℕ → Vec ℕ → Bool
same name t = bytes_eq name t.items

-- whether a text has these bytes, as the set asks
abbrev tied : List ℕ → Vec ℕ → Bool
tied name t = is_eq (slice_cmp nat_cmp name t.items)

tied_same : (name : List ℕ) (texts : List (Vec ℕ)) → list_any (tied name) texts ≡ list_any (same name) texts
tied_same name [] = refl
tied_same name (t ∷ ts) = λ i. is_eq-slice_cmp name t.items i || tied_same name ts i

or_twice : (a b : Bool) → (a || b) ≡ (a || (a || b))
or_twice true b = refl
or_twice false b = refl

or_turned : (a b c : Bool) → (a || (b || c)) ≡ (b || (a || c))
or_turned true true c = refl
or_turned true false c = refl
or_turned false true c = refl
or_turned false false c = refl

same_by : (name : List ℕ) (k x : Vec ℕ) → order k x ≡ Equal → same name x ≡ same name k
same_by name k x tie =
    let alike : bytes_eq k.items x.items ≡ true = sym (is_eq-slice_cmp k.items x.items) ∙ ap is_eq tie in
    nat_list_eq_equiv.symm name x.items ∙ sym (nat_list_eq_equiv.congr k.items x.items name alike) ∙ nat_list_eq_equiv.symm k.items name

any_at : (name : List ℕ) (k x : Vec ℕ) (xs ys : List (Vec ℕ)) (o : Ordering) → order k x ≡ o → list_any (same name) ys ≡ (same name k || list_any (same name) xs)
    → list_any (same name) (match_ordering o (k ∷ x ∷ xs) (x ∷ xs) (x ∷ ys)) ≡ (same name k || list_any (same name) (x ∷ xs))
any_at name k x xs ys Less is more = refl
any_at name k x xs ys Equal is more =
    subst (λ (b : Bool). (b || list_any (same name) xs) ≡ (same name k || (b || list_any (same name) xs))) (sym (same_by name k x is)) (or_twice (same name k) (list_any (same name) xs))
any_at name k x xs ys Greater is more = ap (λ (b : Bool). same name x || b) more ∙ or_turned (same name x) (same name k) (list_any (same name) xs)

-- the texts with one more
any_insert : (name : List ℕ) (texts : List (Vec ℕ)) (k : Vec ℕ) → list_any (same name) (insert_key order texts k) ≡ (same name k || list_any (same name) texts)
any_insert name [] k = refl
any_insert name (x ∷ xs) k = any_at name k x xs (insert_key order xs k) (order k x) refl (any_insert name xs k)

some_if : (b : Bool) (w : SetValue) → is_some (cond b (Some w) None) ≡ b
some_if true w = refl
some_if false w = refl

push_at : (t : Bool) (v : SetValue) (o r : Option SetValue) (b : Bool) → is_some o ≡ (is_some r || b) → is_some (cond t (Some v) o) ≡ (is_some (cond t (Some v) r) || b)
push_at true v o r b e = refl
push_at false v o r b e = e

pushed : (ps : List Pair) (p : Pair) (name : List ℕ) → has_name (ps ++ p ∷ []) name ≡ (has_name ps name || bytes_eq p.name name)
unfolding given
pushed [] p name = some_if (bytes_eq p.name name) p.value
pushed (q ∷ ps) p name = push_at (bytes_eq q.name name) q.value (given name (ps ++ p ∷ [])) (given name ps) (bytes_eq p.name name) (pushed ps p name)

or_swapped : (a b : Bool) → (a || b) ≡ (b || a)
or_swapped true true = refl
or_swapped true false = refl
or_swapped false true = refl
or_swapped false false = refl

-- one name and one pair more
pub names_more : (old new : List (Vec ℕ)) (k : Vec ℕ) (ps more : List Pair) (p : Pair) → AreNames old ps → new ≡ insert_key order old k → k.items ≡ p.name → more ≡ ps ++ p ∷ [] → AreNames new more
names_more old new k ps more p names made text pushes name =
    let left : list_any (same name) new ≡ (same name k || list_any (same name) old) = ap (list_any (same name)) made ∙ any_insert name old k in
    let key : same name k ≡ bytes_eq p.name name = ap (λ (bs : List ℕ). bytes_eq name bs) text ∙ nat_list_eq_equiv.symm name p.name in
    let right : has_name more name ≡ (has_name ps name || bytes_eq p.name name) = ap (λ (xs : List Pair). has_name xs name) pushes ∙ pushed ps p name in
    left ∙ (λ i. key i || names name i) ∙ or_swapped (bytes_eq p.name name) (has_name ps name) ∙ sym right

not_not : (b : Bool) → not (not b) ≡ b
not_not true = refl
not_not false = refl

-- whether the set has a name is whether a pair has it
pub names_has : (texts : List (Vec ℕ)) (ps : List Pair) (k : Vec ℕ) (name : List ℕ) (added : Bool) → AreNames texts ps → k.items ≡ name → added ≡ not (list_any (tied k.items) texts) → has_name ps name ≡ not added
names_has texts ps k name added names text is =
    let has : list_any (tied k.items) texts ≡ has_name ps name = tied_same k.items texts ∙ names k.items ∙ ap (has_name ps) text in
    sym (not_not (has_name ps name)) ∙ ap not (sym (is ∙ ap not has))

pub no_names : (texts : List (Vec ℕ)) (ps : List Pair) → texts ≡ [] → ps ≡ [] → AreNames texts ps
unfolding given
no_names texts ps e none name = ap (list_any (same name)) e ∙ sym (ap (λ (xs : List Pair). has_name xs name) none)

-- ---- one pair more

pub taken : (ps : List Pair) (name : List ℕ) (v : SetValue) → has_name ps name ≡ true → with_pair ps name v ≡ None
taken ps name v e = rw e refl

pub new_pair : (ps more : List Pair) (name : List ℕ) (v : SetValue) → has_name ps name ≡ false → more ≡ ps ++ record { name = name; value = v } ∷ [] → with_pair ps name v ≡ Some more
new_pair ps more name v e is = rw e (ap Some (sym is))
