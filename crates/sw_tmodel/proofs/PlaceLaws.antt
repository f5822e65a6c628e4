use Rattle.std.proofs.Common.{◌≡◌, ℕ, ◌+◌, ◌*◌, Bool, true, false, cond, ◌||◌, add-one, List, [], ◌∷◌, ◌++◌, length, Option, Some, None, refl, ap, sym, ◌∙◌, arith, length-append}
use Rattle.std.specs.Prelude.{slice_get, unwrap_or, is_some, nat_lt, pos}
use Rattle.std.specs.Option.{option_map}
use Rattle.std.specs.Str.{bytes_eq}
use Rattle.std.specs.FinMap as map
use Rattle.sw_base.specs.declared.table.Value.{Value}
use Rattle.sw_column.specs.Columns.{place}
use Rattle.sw_column.specs.Values.{blank}
use Rattle.sw_table_laws.specs.Rows.{number_of}
use Rattle.sw_table_laws.specs.Table.{State, has_room, row_of}
use Rattle.sw_table_laws.specs.Sizes.{raised_by}
use Rattle.sw_tmodel.specs.PlainRows.{row_at}
use Rattle.sw_tmodel.specs.Store.{Stored, state_of}
use Rattle.sw_tmodel.specs.Steps.{IsFound, IsPlace}
use Rattle.sw_table_laws.proofs.Maps.{same_state, get_inserted}
use Rattle.sw_table_laws.proofs.Numbers.{zero_of}

abbrev Entry : Type 0
Entry = List ℕ × List Value

last_at : (es : List Entry) (e : Entry) → slice_get (es ++ e ∷ []) (length es) ≡ Some e
last_at [] e = refl
last_at (x ∷ xs) e = last_at xs e

once : {A : Type 0} (b : Bool) (x y z : A) → cond b x (cond b y z) ≡ cond b x z
once true x y z = refl
once false x y z = refl

-- of two rows under one key the last one stands
pub overwritten : (s : State) (k : List ℕ) (v w : List Value) → map.insert (map.insert s k v) k w ≡ map.insert s k w
overwritten s k v w = same_state _ _ (λ q.
    get_inserted (map.insert s k v) k w q
    ∙ ap (λ o. cond (bytes_eq q k) (Some w) o) (get_inserted s k v q)
    ∙ once (bytes_eq q k) (Some w) (Some v) (map.get s q)
    ∙ sym (get_inserted s k w q))

room_write : (o : Option (List Value)) (b : Bool) → o ≡ None → (is_some o || b) ≡ b
room_write None b e = refl
room_write (Some v) b e = absurd (cc)

blank_row : (o : Option (List Value)) (b : List Value) → o ≡ None → unwrap_or o b ≡ b
blank_row None b e = refl
blank_row (Some v) b e = absurd (cc)

pub no_place : (s : Stored) (k : List ℕ) → map.get (state_of s.entries) k ≡ None → has_room s.shape (state_of s.entries) k ≡ false → IsPlace s s k None
no_place s k miss room = (room_write (map.get (state_of s.entries) k) (has_room s.shape (state_of s.entries) k) miss ∙ room, refl)

pub new_place : (s z : Stored) (k : List ℕ) (at : ℕ) → map.get (state_of s.entries) k ≡ None → has_room s.shape (state_of s.entries) k ≡ true → at ≡ length s.entries
    → z ≡ record s { entries = s.entries ++ (k, blank s.shape.columns) ∷ [] } → state_of z.entries ≡ map.insert (state_of s.entries) k (blank s.shape.columns) → IsPlace s z k (Some at)
new_place s z k at miss room here made state =
    let es : List Entry = s.entries ++ (k, blank s.shape.columns) ∷ [] in
    let entries : z.entries ≡ es = ap (λ (x : Stored). x.entries) made in
    let len : length es ≡ length s.entries + 1 = length-append s.entries ((k, blank s.shape.columns) ∷ []) in
    let last : slice_get z.entries at ≡ Some (k, blank s.shape.columns) = ap (λ (xs : List Entry). slice_get xs at) entries ∙ ap (slice_get es) here ∙ last_at s.entries (k, blank s.shape.columns) in (
      room_write (map.get (state_of s.entries) k) (has_room s.shape (state_of s.entries) k) miss ∙ room,
      (let n : length z.entries ≡ length es = ap length entries in omega arith),
      ap (λ (o : Option Entry). unwrap_or (option_map (λ (e : Entry). e.0) o) []) last,
      ap (λ (o : Option Entry). unwrap_or (option_map (λ (e : Entry). e.1) o) []) last ∙ sym (blank_row (map.get (state_of s.entries) k) (blank s.shape.columns) miss),
      λ row. ap (λ (m : State). map.insert m k row) state ∙ overwritten (state_of s.entries) k (blank s.shape.columns) row,
    )

there_write : (o : Option (List Value)) (b : Bool) (v : List Value) → o ≡ Some v → (is_some o || b) ≡ true
there_write (Some w) b v e = refl
there_write None b v e = absurd (cc)

there_row : (o : Option (List Value)) (b v : List Value) → o ≡ Some v → v ≡ unwrap_or o b
there_row (Some w) b v e = cc
there_row None b v e = absurd (cc)

pub old_place : (s : Stored) (k : List ℕ) (at : ℕ) → IsFound s k (Some at) → IsPlace s s k (Some at)
old_place s k at found = (
  there_write (map.get (state_of s.entries) k) (has_room s.shape (state_of s.entries) k) (row_at s.entries at) found.2,
  found.0,
  found.1,
  there_row (map.get (state_of s.entries) k) (blank s.shape.columns) (row_at s.entries at) found.2,
  λ row. refl,
)

-- ---- a number in a row with which a missing key starts

pub zero_number : (s : Stored) (k name : List ℕ) → map.get (state_of s.entries) k ≡ None → pos 0 ≡ number_of s.shape.columns (row_of s.shape (state_of s.entries) k) name
zero_number s k name miss =
    sym (ap (λ (r : List Value). number_of s.shape.columns r name) (blank_row (map.get (state_of s.entries) k) (blank s.shape.columns) miss) ∙ zero_of s.shape.columns (place s.shape.columns name))

-- ---- the size of a Table

pub raised_start : (n : ℕ) → 64 ≡ raised_by n 0
unfolding raised_by
raised_start n = refl

pub raised_step : (n k p q : ℕ) → p ≡ raised_by n k → q ≡ cond (nat_lt p n) (2 * p) p → q ≡ raised_by n (k + 1)
unfolding raised_by
raised_step n k p q is made = made ∙ ap (λ x. cond (nat_lt x n) (2 * x) x) is ∙ ap (raised_by n) (sym (add-one k))
