use Rattle.std.proofs.Common.{◌≡◌, ◌≢◌, ℕ, Bool, true, false, cond, List, Some, None, refl, ap, sym, ◌∙◌, eq-eqb, true≢false}
use Rattle.std.specs.Prelude.{nat_eq}
use Rattle.std.specs.Ordering.{nat_cmp, eq_by_cmp, is_eq}
use Rattle.std.specs.Cmp.Lexicographic.{slice_cmp, nat_list_cmp_total, same_text, other_text, texts_ties}
use Rattle.std.specs.Str.{bytes_eq}
use Rattle.std.specs.FinMap as map
use Rattle.std.specs.FinMap.{get-insert, get-remove, get-retain_keys, same_map, nat_cmp-IsAntisymmetric, slice_cmp-IsAntisymmetric}
use Rattle.sw_base.specs.declared.table.Value.{Value}
use Rattle.sw_table_laws.specs.Table.{State, bucket, part}

abbrev Row : Type 0
Row = List Value

-- ---- keys

pub eq_of : (q k : List ℕ) → bytes_eq q k ≡ true → q ≡ k
eq_of q k e = same_text q k (sym e)

not_false : (k : List ℕ) (b : Bool) → bytes_eq k k ≡ b → bytes_eq k k ≡ true
not_false k true e = e
not_false k false e = absurd (other_text k k (sym e) refl)

pub eq_self : (k : List ℕ) → bytes_eq k k ≡ true
eq_self k = not_false k (bytes_eq k k) refl

not_true : (q k : List ℕ) (b : Bool) → bytes_eq q k ≡ b → q ≢ k → bytes_eq q k ≡ false
not_true q k true e ne = absurd (ne (same_text q k (sym e)))
not_true q k false e ne = e

pub apart : (q k : List ℕ) → q ≢ k → bytes_eq q k ≡ false
apart q k ne = not_true q k (bytes_eq q k) refl ne

-- ---- what is found

pub same_state : (m n : State) → ((q : List ℕ) → map.get m q ≡ map.get n q) → m ≡ n
same_state m n e = same_map nat_list_cmp_total (slice_cmp-IsAntisymmetric nat_cmp-IsAntisymmetric) m n e

pub get_inserted : (s : State) (k : List ℕ) (v : Row) (q : List ℕ) → map.get (map.insert s k v) q ≡ cond (bytes_eq q k) (Some v) (map.get s q)
get_inserted s k v q = get-insert nat_list_cmp_total s k v q ∙ ap (λ b. cond b (Some v) (map.get s q)) (sym (texts_ties q k))

pub get_removed : (s : State) (k q : List ℕ) → map.get (map.remove s k) q ≡ cond (bytes_eq q k) None (map.get s q)
get_removed s k q = get-remove nat_list_cmp_total s k q ∙ ap (λ b. cond b None (map.get s q)) (sym (texts_ties q k))

pub get_same : (s : State) (k : List ℕ) (v : Row) → map.get (map.insert s k v) k ≡ Some v
get_same s k v = get_inserted s k v k ∙ ap (λ b. cond b (Some v) (map.get s k)) (eq_self k)

pub get_other : (s : State) (k : List ℕ) (v : Row) (q : List ℕ) → q ≢ k → map.get (map.insert s k v) q ≡ map.get s q
get_other s k v q ne = get_inserted s k v q ∙ ap (λ b. cond b (Some v) (map.get s q)) (apart q k ne)

pub removed_same : (s : State) (k : List ℕ) → map.get (map.remove s k) k ≡ None
removed_same s k = get_removed s k k ∙ ap (λ b. cond b None (map.get s k)) (eq_self k)

pub removed_other : (s : State) (k q : List ℕ) → q ≢ k → map.get (map.remove s k) q ≡ map.get s q
removed_other s k q ne = get_removed s k q ∙ ap (λ b. cond b None (map.get s q)) (apart q k ne)

-- ---- the rows of a bucket

ties_same : (p : List ℕ → Bool) (q x : List ℕ) → eq_by_cmp (slice_cmp nat_cmp) q x ≡ true → p x ≡ p q
ties_same p q x e = ap p (sym (eq_of q x (texts_ties q x ∙ e)))

pub get_part : (size : ℕ) (s : State) (b : ℕ) (q : List ℕ) → map.get (part size s b) q ≡ cond (nat_eq (bucket size q) b) (map.get s q) None
get_part size s b q = get-retain_keys s (λ key. nat_eq (bucket size key) b) q (λ x t. ties_same (λ key. nat_eq (bucket size key) b) q x (ap is_eq t))

moved : {X : Type 0} (e i : Bool) (x y z : X) → (e ≡ true → i ≡ true) → cond i (cond e x y) z ≡ cond e x (cond i y z)
moved true true x y z h = refl
moved true false x y z h = absurd (true≢false (sym (h refl)))
moved false i x y z h = refl

dropped : {X : Type 0} (e i : Bool) (x y z : X) → (e ≡ true → i ≡ false) → cond i (cond e x y) z ≡ cond i y z
dropped true true x y z h = absurd (true≢false (h refl))
dropped true false x y z h = refl
dropped false i x y z h = refl

gone : {X : Type 0} (e i : Bool) (x y : X) → cond i (cond e x y) x ≡ cond e x (cond i y x)
gone true true x y = refl
gone true false x y = refl
gone false i x y = refl

in_same : (size b : ℕ) (q k : List ℕ) (t : Bool) → nat_eq (bucket size k) b ≡ t → bytes_eq q k ≡ true → nat_eq (bucket size q) b ≡ t
in_same size b q k t is e = ap (λ (x : List ℕ). nat_eq (bucket size x) b) (eq_of q k e) ∙ is

pub part_inserted : (size : ℕ) (s : State) (b : ℕ) (k : List ℕ) (v : Row) → nat_eq (bucket size k) b ≡ true → part size (map.insert s k v) b ≡ map.insert (part size s b) k v
part_inserted size s b k v is = same_state _ _ (λ q.
    get_part size (map.insert s k v) b q
    ∙ ap (λ o. cond (nat_eq (bucket size q) b) o None) (get_inserted s k v q)
    ∙ moved (bytes_eq q k) (nat_eq (bucket size q) b) (Some v) (map.get s q) None (in_same size b q k true is)
    ∙ ap (λ o. cond (bytes_eq q k) (Some v) o) (sym (get_part size s b q))
    ∙ sym (get_inserted (part size s b) k v q))

pub part_beside : (size : ℕ) (s : State) (b : ℕ) (k : List ℕ) (v : Row) → nat_eq (bucket size k) b ≡ false → part size (map.insert s k v) b ≡ part size s b
part_beside size s b k v is = same_state _ _ (λ q.
    get_part size (map.insert s k v) b q
    ∙ ap (λ o. cond (nat_eq (bucket size q) b) o None) (get_inserted s k v q)
    ∙ dropped (bytes_eq q k) (nat_eq (bucket size q) b) (Some v) (map.get s q) None (in_same size b q k false is)
    ∙ sym (get_part size s b q))

pub part_removed : (size : ℕ) (s : State) (b : ℕ) (k : List ℕ) → part size (map.remove s k) b ≡ map.remove (part size s b) k
part_removed size s b k = same_state _ _ (λ q.
    get_part size (map.remove s k) b q
    ∙ ap (λ o. cond (nat_eq (bucket size q) b) o None) (get_removed s k q)
    ∙ gone (bytes_eq q k) (nat_eq (bucket size q) b) None (map.get s q)
    ∙ ap (λ o. cond (bytes_eq q k) None o) (sym (get_part size s b q))
    ∙ sym (get_removed (part size s b) k q))

pub part_left : (size : ℕ) (s : State) (b : ℕ) (k : List ℕ) → nat_eq (bucket size k) b ≡ false → part size (map.remove s k) b ≡ part size s b
part_left size s b k is = same_state _ _ (λ q.
    get_part size (map.remove s k) b q
    ∙ ap (λ o. cond (nat_eq (bucket size q) b) o None) (get_removed s k q)
    ∙ dropped (bytes_eq q k) (nat_eq (bucket size q) b) None (map.get s q) None (in_same size b q k false is)
    ∙ sym (get_part size s b q))

-- a key is found in its own bucket
pub get_own : (size : ℕ) (s : State) (k : List ℕ) → map.get (part size s (bucket size k)) k ≡ map.get s k
get_own size s k = get_part size s (bucket size k) k ∙ ap (λ b. cond b (map.get s k) None) (eq-eqb (bucket size k) (bucket size k) refl)
