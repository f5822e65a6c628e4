use Rattle.std.proofs.Common.{◌≡◌, ℕ, Bool, true, false, cond, ◌||◌, List, [], ◌∷◌, length, Option, Some, None, refl, ap, sym, ◌∙◌, subst, true≢false}
use Rattle.std.specs.Prelude.{ℤ, ◌+ℤ◌, unwrap_or, is_some}
use Rattle.std.specs.Str.{bytes_eq}
use Rattle.std.specs.FinMap as map
use Rattle.sw_base.specs.declared.table.Value.{Value}
use Rattle.sw_base.specs.declared.table.Value.TheVariants as values
use Rattle.sw_base.specs.declared.table.Call.TheVariants.{Set, Get, Exist, Del, Incr, Decr, Count}
use Rattle.sw_base.specs.declared.table.CallFault.{CallFault}
use Rattle.sw_base.specs.declared.table.CallFault.TheVariants.{BadKey}
use Rattle.sw_base.specs.declared.table.Reply.TheVariants as replies
use Rattle.sw_base.specs.declared.table.Reply.TheVariants.{Stored}
use Rattle.sw_column.specs.declared.column.Column.{Column}
use Rattle.sw_column.specs.Columns.{column_of, IsSchema}
use Rattle.sw_column.specs.Fit.{fits, is_key, pairs_fault, counter_fault}
use Rattle.sw_column.specs.Values.{IsRow, blank}
use Rattle.sw_table_laws.specs.Rows.{with_value, with_pairs, number_of, size_of}
use Rattle.sw_table_laws.specs.Table.{State, Shape, has_room, may_write, row_of, set_step, get_step, del_step, add_step, add, TStep}
use Rattle.sw_table_laws.specs.Laws.{HasRows, KeepsRows, SetThenIncr}
use Rattle.sw_table_laws.proofs.Maps.{get_inserted, get_removed, get_same}
use Rattle.sw_table_laws.proofs.RowLaws.{row_length, blank_row, pairs_written, number_written, number_read}

inserted_at : (cs : List Column) (e : Bool) (o : Option (List Value)) (v row : List Value) → IsRow cs v → ((r : List Value) → o ≡ Some r → IsRow cs r) → cond e (Some v) o ≡ Some row → IsRow cs row
inserted_at cs true o v row h rows is = let same : v ≡ row = cc in subst (IsRow cs) same h
inserted_at cs false o v row h rows is = rows row is

pub inserted : (t : Shape) (s : State) (k : List ℕ) (v : List Value) → HasRows t s → IsRow t.columns v → HasRows t (map.insert s k v)
inserted t s k v rows h q row is = inserted_at t.columns (bytes_eq q k) (map.get s q) v row h (rows q) (sym (get_inserted s k v q) ∙ is)

removed_at : (cs : List Column) (e : Bool) (o : Option (List Value)) (row : List Value) → ((r : List Value) → o ≡ Some r → IsRow cs r) → cond e None o ≡ Some row → IsRow cs row
removed_at cs true o row rows is = absurd (cc)
removed_at cs false o row rows is = rows row is

pub removed : (t : Shape) (s : State) (k : List ℕ) → HasRows t s → HasRows t (map.remove s k)
removed t s k rows q row is = removed_at t.columns (bytes_eq q k) (map.get s q) row (rows q) (sym (get_removed s k q) ∙ is)

found_or : (cs : List Column) (o : Option (List Value)) → IsRow cs (blank cs) → ((r : List Value) → o ≡ Some r → IsRow cs r) → IsRow cs (unwrap_or o (blank cs))
found_or cs None b rows = b
found_or cs (Some r) b rows = rows r refl

pub row_of_key : (t : Shape) (s : State) (k : List ℕ) → IsSchema t.columns → HasRows t s → IsRow t.columns (row_of t s k)
row_of_key t s k schema rows = found_or t.columns (map.get s k) (blank_row t.columns schema.2) (rows k)

after_set : (w : Bool) (t : Shape) (s : State) (k : List ℕ) (row : List Value) → HasRows t s → IsRow t.columns row → HasRows t (set_step w s k row).state
after_set true t s k row rows h = inserted t s k row rows h
after_set false t s k row rows h = rows

after_get : (o : Option (List Value)) (t : Shape) (s : State) → HasRows t s → HasRows t (get_step s o).state
after_get None t s rows = rows
after_get (Some row) t s rows = rows

after_del : (w : Bool) (t : Shape) (s : State) (k : List ℕ) → HasRows t s → HasRows t (del_step w s k).state
after_del true t s k rows = removed t s k rows
after_del false t s k rows = rows

after_add : (f w : Bool) (t : Shape) (s : State) (k : List ℕ) (row : List Value) (v : ℤ) → HasRows t s → (f ≡ true → IsRow t.columns row) → HasRows t (add_step f w s k row v).state
after_add false w t s k row v rows h = rows
after_add true false t s k row v rows h = rows
after_add true true t s k row v rows h = inserted t s k row rows (h refl)

behind : (b : Bool) (rest : Option CallFault) → cond b rest (Some BadKey) ≡ None → rest ≡ None
behind true rest e = e
behind false rest e = absurd (cc)

counted : (t : Shape) (s : State) (k name : List ℕ) (v : ℤ) → IsSchema t.columns → counter_fault (column_of t.columns name) ≡ None → HasRows t s → HasRows t (add t s k name v).state
counted t s k name v schema fit rows = after_add _ _ t s k _ v rows (number_written t.columns (row_of t s k) name v (row_of_key t s k schema rows) fit)

pub keeps_rows : KeepsRows
keeps_rows t s (Set k pairs) schema fit rows = after_set _ t s k _ rows (pairs_written t.columns (row_of t s k) pairs (row_of_key t s k schema rows) (behind (is_key k) (pairs_fault t.columns pairs) fit))
keeps_rows t s (Get k) schema fit rows = after_get (map.get s k) t s rows
keeps_rows t s (Exist k) schema fit rows = rows
keeps_rows t s (Del k) schema fit rows = after_del _ t s k rows
keeps_rows t s (Incr k name by) schema fit rows = counted t s k name _ schema (behind (is_key k) (counter_fault (column_of t.columns name)) fit) rows
keeps_rows t s (Decr k name by) schema fit rows = counted t s k name _ schema (behind (is_key k) (counter_fault (column_of t.columns name)) fit) rows
keeps_rows t s Count schema fit rows = rows

-- ---- set, and then count up

stored : (w : Bool) (s : State) (k : List ℕ) (row : List Value) → (set_step w s k row).reply ≡ Stored → (set_step w s k row).state ≡ map.insert s k row
stored true s k row e = refl
stored false s k row e = absurd (cc)

there_anyway : (o : Option (List Value)) (row : List Value) (b : Bool) → o ≡ Some row → (is_some o || b) ≡ true
there_anyway o row b e = rw e refl

sum_answered : (f w : Bool) (s : State) (k : List ℕ) (row : List Value) (v : ℤ) → f ≡ true → w ≡ true → (add_step f w s k row v).reply ≡ replies.Value v
sum_answered false w s k row v e d = absurd (true≢false (sym e))
sum_answered true false s k row v e d = absurd (true≢false (sym d))
sum_answered true true s k row v e d = refl

-- a number is counted up in a state that has the row of the key
counted_up : (t : Shape) (s z : State) (k name : List ℕ) (row : List Value) (n by : ℤ) → map.get z k ≡ Some row → number_of t.columns row name ≡ n → fits (size_of t.columns name) (n +ℤ by) ≡ true
    → (TStep t z (Incr k name by)).reply ≡ replies.Value (n +ℤ by)
counted_up t s z k name row n by is num fit =
    let same : row_of t z k ≡ row = ap (λ (o : Option (List Value)). unwrap_or o (blank t.columns)) is in
    let sum : number_of t.columns (row_of t z k) name +ℤ by ≡ n +ℤ by = ap (λ (r : List Value). number_of t.columns r name +ℤ by) same ∙ ap (λ (m : ℤ). m +ℤ by) num in
    subst (λ (v : ℤ). (add t z k name v).reply ≡ replies.Value (n +ℤ by)) (sym sum)
    (sum_answered (fits (size_of t.columns name) (n +ℤ by)) (may_write t z k) z k _ (n +ℤ by) fit (there_anyway (map.get z k) row (has_room t z k) is))

pub set_then_incr : SetThenIncr
unfolding with_pairs
set_then_incr t s k name n by schema rows there full fit =
    let row : List Value = with_value t.columns (row_of t s k) name (values.Int n) in
    let left : (TStep t s (Set k ((name, values.Int n) ∷ []))).state ≡ map.insert s k row = stored (may_write t s k) s k row full in
    let len : length (row_of t s k) ≡ length t.columns = row_length t.columns (row_of t s k) (row_of_key t s k schema rows) in
    counted_up t s _ k name row n by (ap (λ (m : State). map.get m k) left ∙ get_same s k row) (number_read t.columns (row_of t s k) name n len there) fit
