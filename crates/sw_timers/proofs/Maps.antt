-- The map that a tree's entries are.
use Rattle.std.proofs.Common.{◌≡◌, ℕ, ◌+◌, cond, List, [], ◌∷◌, length, Option, Some, None, refl, ap, sym, ◌∙◌, add-one}
use Rattle.std.specs.Prelude.{is_some}
use Rattle.std.specs.List.{AllByRecursion}
use Rattle.std.specs.List.Sorted.{IsStrictlySortedBy}
use Rattle.std.specs.Ordering.{nat_cmp, is_eq}
use Rattle.std.specs.declared.cmp.Ordering.TheVariants.{Less}
use Rattle.std.specs.Cmp.{nat_cmp_total, eq_by_cmp_equiv}
use Rattle.std.specs.Map.{lookup, keys_of}
use Rattle.std.specs.BTreeMap.{is_at}
use Rattle.std.specs.FinMap as map
use Rattle.std.specs.FinMap.{find, get-from_entries, get-insert, get-remove, len-insert, len-empty, same_map, nat_cmp-IsAntisymmetric}
use Rattle.sw_timers.specs.declared.alarm.Alarm.{Alarm}
use Rattle.sw_timers.specs.Due.{Waiting}

abbrev pub Entries : Type 0
Entries = List (ℕ × Alarm)

abbrev pub map_of : Entries → Waiting
map_of es = map.from_entries es

-- what a tree with these entries has at an id
abbrev pub at : Entries → ℕ → Option Alarm
at es q = lookup (is_at (nat_cmp q)) es

find_at : (es : Entries) (q : ℕ) → find nat_cmp q es ≡ at es q
find_at [] q = refl
find_at (e ∷ es) q = ap (cond (is_at (nat_cmp q) e.0) (Some e.1)) (find_at es q)

pub get_at : (es : Entries) (q : ℕ) → map.get (map_of es) q ≡ at es q
get_at es q = get-from_entries nat_cmp_total es q ∙ find_at es q

pub put_at : (es fs : Entries) (k : ℕ) (v : Alarm) → ((q : ℕ) → at fs q ≡ cond (is_at (nat_cmp k) q) (Some v) (at es q)) → map_of fs ≡ map.insert (map_of es) k v
put_at es fs k v h = same_map nat_cmp_total nat_cmp-IsAntisymmetric _ _ (λ q.
    get_at fs q ∙ h q ∙ ap (λ b. cond b (Some v) (at es q)) ((eq_by_cmp_equiv nat_cmp_total).symm k q)
    ∙ sym (get-insert nat_cmp_total (map_of es) k v q ∙ ap (cond (is_at (nat_cmp q) k) (Some v)) (get_at es q)))

pub taken_at : (es fs : Entries) (k : ℕ) → ((q : ℕ) → at fs q ≡ cond (is_at (nat_cmp k) q) None (at es q)) → map_of fs ≡ map.remove (map_of es) k
taken_at es fs k h = same_map nat_cmp_total nat_cmp-IsAntisymmetric _ _ (λ q.
    get_at fs q ∙ h q ∙ ap (λ b. cond b None (at es q)) ((eq_by_cmp_equiv nat_cmp_total).symm k q)
    ∙ sym (get-remove nat_cmp_total (map_of es) k q ∙ ap (cond (is_at (nat_cmp q) k) None) (get_at es q)))

-- an id below all others isn't among them
below : (k : ℕ) (es : Entries) → AllByRecursion (λ y. nat_cmp k y ≡ Less) (keys_of es) → at es k ≡ None
below k [] h = refl
below k (e ∷ es) h = ap (λ o. cond (is_eq o) (Some e.1) (at es k)) h.0 ∙ below k es h.1

pub len_at : (es : Entries) → IsStrictlySortedBy nat_cmp (keys_of es) → map.len (map_of es) ≡ length es
unfolding IsStrictlySortedBy
len_at [] h = len-empty nat_cmp Alarm
len_at (e ∷ es) h =
    let more : map.len (map.insert (map_of es) e.0 e.1) ≡ length es + 1 =
    len-insert nat_cmp_total (map_of es) e.0 e.1
    ∙ ap (λ o. cond (is_some o) (map.len (map_of es)) (map.len (map_of es) + 1)) (get_at es e.0 ∙ below e.0 es h.0)
    ∙ ap (λ n. n + 1) (len_at es h.1) in
    rw add-one at more
