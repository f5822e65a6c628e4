-- What each call comes to in a bucket.
use Rattle.std.proofs.Common.{◌≡◌, ℕ, ◌+◌, ◌-◌, ◌<◌, ◌≤◌, Bool, true, false, cond, ◌&&◌, ◌||◌, not, List, [], ◌∷◌, length, Option, Some, None, refl, ap, sym, ◌∙◌, subst, arith, FitsSigned, w64, to_z, of_z}
use Rattle.std.proofs.lemmas.Bool.Decides.{nat_tests}
use Rattle.std.specs.Prelude.{nat_eq, nat_lt, nat_le, is_some, is_none, slice_get, option_and_then, IsTrue, unwrap_or, IfNone, IfSome, ℤ, ◌+ℤ◌, ◌-ℤ◌, pos, if◌then◌else◌}
use Rattle.std.specs.FinMap as fin
use Rattle.sw_base.specs.declared.table.Value.{Value}
use Rattle.sw_base.specs.declared.table.Value.TheVariants as values
use Rattle.sw_base.specs.declared.table.Call.{Call}
use Rattle.sw_base.specs.declared.table.Call.TheVariants.{Set, Get, Exist, Del, Incr, Decr}
use Rattle.sw_base.specs.declared.table.CallFault.{CallFault}
use Rattle.sw_base.specs.declared.table.CallFault.TheVariants as faults
use Rattle.sw_base.specs.declared.table.Reply.TheVariants as replies
use Rattle.sw_base.specs.declared.table.Reply.TheVariants.{Stored, Full, Missing, Yes, No, Range}
use Rattle.sw_column.specs.declared.column.Column.{Column}
use Rattle.sw_column.specs.Columns.{place, column_of, IsSchema}
use Rattle.sw_column.specs.Fit.{fits, is_key, pairs_fault, counter_fault, call_fault}
use Rattle.sw_column.specs.Values.{blank}
use Rattle.sw_table_laws.specs.Rows.{with_value, with_pairs, number_in, number_at, number_of, size_in, size_of}
use Rattle.sw_table_laws.specs.Table.{State, Shape, Step, answers, set_step, get_step, del_step, add_step, may_write}
use Rattle.sw_table_laws.specs.Buckets.{row_in, may_put, add_in, write_asks, asks_pool, bucket_step}
use Rattle.sw_table_laws.specs.Laws.{key_of}
use Rattle.sw_table_laws.proofs.Numbers.{zero_of, out_of_range}
use Rattle.sw_row.specs.Packed.{Packed}
use Rattle.sw_chain.specs.Rows.{found}
use Rattle.sw_bucket.specs.Rows.{rows_by, row_at, IsBucket}
use Rattle.sw_bucket.specs.Turns.{put_step, IsTurn, number_turn, Leaves, Shows, Removes, Writes, Numbers}
use Rattle.sw_bucket.proofs.Listed.{stands_at, get_found, get_missing, len_rows}

-- ---- calls that only look

pub turn_missing : (cs : List Column) (rows : List Packed) (key : List ℕ) → found rows key ≡ None → Leaves cs (rows_by rows) (Get key) Missing
turn_missing cs rows key is = record { answers = record { asks = refl; step = λ pool. ap (get_step (rows_by rows)) (get_missing rows key is) }; quiet = λ row. refl }

pub turn_shown : (cs : List Column) (rows : List Packed) (key : List ℕ) (at : ℕ) → IsBucket cs rows → found rows key ≡ Some at → Shows cs rows (Get key) at
turn_shown cs rows key at b is = record {
  row = row_at rows at;
  is = (stands_at rows key at is).is;
  answers = record { asks = refl; step = λ pool. ap (get_step (rows_by rows)) (get_found cs rows key at b is) };
}

pub turn_no : (cs : List Column) (rows : List Packed) (key : List ℕ) → found rows key ≡ None → Leaves cs (rows_by rows) (Exist key) No
turn_no cs rows key is = record {
  answers = record { asks = refl; step = λ pool. ap (λ (o : Option (List Value)). answers (rows_by rows) (if is_some o then Yes else No)) (get_missing rows key is) };
  quiet = λ row. refl;
}

pub turn_yes : (cs : List Column) (rows : List Packed) (key : List ℕ) (at : ℕ) → IsBucket cs rows → found rows key ≡ Some at → Leaves cs (rows_by rows) (Exist key) Yes
turn_yes cs rows key at b is = record {
  answers = record { asks = refl; step = λ pool. ap (λ (o : Option (List Value)). answers (rows_by rows) (if is_some o then Yes else No)) (get_found cs rows key at b is) };
  quiet = λ row. refl;
}

-- ---- taking out

pub turn_none_out : (cs : List Column) (rows : List Packed) (key : List ℕ) → found rows key ≡ None → Leaves cs (rows_by rows) (Del key) No
turn_none_out cs rows key is = record {
  answers = record {
    asks = ap (λ (o : Option (List Value)). is_some o && nat_le 2 (fin.len (rows_by rows))) (get_missing rows key is);
    step = λ pool. ap (λ (o : Option (List Value)). del_step (is_some o) (rows_by rows) key) (get_missing rows key is);
  };
  quiet = λ row. refl;
}

pub turn_out : (cs : List Column) (rows : List Packed) (key : List ℕ) (at : ℕ) → IsBucket cs rows → found rows key ≡ Some at → Removes cs rows (Del key)
turn_out cs rows key at b is = record {
  key = key;
  of = refl;
  there = ap (λ (o : Option ℕ). is_some o) is;
  asks = ap (λ (o : Option (List Value)). is_some o && nat_le 2 (fin.len (rows_by rows))) (get_found cs rows key at b is) ∙ ap (nat_le 2) (len_rows cs rows b);
  step = λ pool. ap (λ (o : Option (List Value)). del_step (is_some o) (rows_by rows) key) (get_found cs rows key at b is);
}

-- ---- writing

behind : (b : Bool) (rest : Option CallFault) → cond b rest (Some faults.BadKey) ≡ None → IsTrue b × (rest ≡ None)
behind true rest e = (refl, e)
behind false rest e = absurd (cc)

pub set_fits : (cs : List Column) (key : List ℕ) (pairs : List (List ℕ × Value)) → call_fault cs (Set key pairs) ≡ None → IsTrue (is_key key) × (pairs_fault cs pairs ≡ None)
set_fits cs key pairs e = behind (is_key key) (pairs_fault cs pairs) e

pub incr_fits : (cs : List Column) (key name : List ℕ) (by : ℤ) → call_fault cs (Incr key name by) ≡ None → IsTrue (is_key key) × (counter_fault (column_of cs name) ≡ None)
incr_fits cs key name by e = behind (is_key key) (counter_fault (column_of cs name)) e

pub decr_fits : (cs : List Column) (key name : List ℕ) (by : ℤ) → call_fault cs (Decr key name by) ≡ None → IsTrue (is_key key) × (counter_fault (column_of cs name) ≡ None)
decr_fits cs key name by e = behind (is_key key) (counter_fault (column_of cs name)) e

set_put : (w : Bool) (rows : State) (key : List ℕ) (row : List Value) → set_step w rows key row ≡ put_step w rows key Stored row
set_put true rows key row = refl
set_put false rows key row = refl

pub turn_write : (cs : List Column) (rows : List Packed) (key : List ℕ) (pairs : List (List ℕ × Value)) (at : Option ℕ) → call_fault cs (Set key pairs) ≡ None → at ≡ found rows key → Writes cs rows (Set key pairs) at
turn_write cs rows key pairs at fit is = record {
  key = key;
  pairs = pairs;
  is = refl;
  fit = (set_fits cs key pairs fit).1;
  puts = record {
    of = refl;
    valid = (set_fits cs key pairs fit).0;
    at_key = sym is;
    asks = refl;
    step = λ pool. set_put (may_put (rows_by rows) pool key) (rows_by rows) key (with_pairs cs (row_in cs (rows_by rows) key) pairs);
  };
}

add_put : (f w : Bool) (rows : State) (key : List ℕ) (row : List Value) (n : ℤ) → f ≡ true → add_step f w rows key row n ≡ put_step w rows key (replies.Value n) row
add_put false w rows key row n e = absurd (cc)
add_put true true rows key row n e = refl
add_put true false rows key row n e = refl

both : (a b : Bool) → a ≡ true → (a && b) ≡ b
both true b e = refl
both false b e = absurd (cc)

-- a call that counts, whose sum is v
pub record Sums (cs : List Column) (rows : State) (call : Call) (key name : List ℕ) (v : ℤ) : Type 0 where
  pub of : key_of call ≡ Some key
  pub asks : asks_pool cs rows call ≡ (fits (size_of cs name) v && write_asks rows key)
  pub step : (pool : Option ℕ) → bucket_step cs rows pool call ≡ add_in cs rows pool key name v

pub sums_incr : (cs : List Column) (rows : State) (key name : List ℕ) (by : ℤ) → Sums cs rows (Incr key name by) key name (number_of cs (row_in cs rows key) name +ℤ by)
sums_incr cs rows key name by = record { of = refl; asks = refl; step = λ pool. refl }

pub sums_decr : (cs : List Column) (rows : State) (key name : List ℕ) (by : ℤ) → Sums cs rows (Decr key name by) key name (number_of cs (row_in cs rows key) name -ℤ by)
sums_decr cs rows key name by = record { of = refl; asks = refl; step = λ pool. refl }

pub turn_number : (cs : List Column) (rows : List Packed) (call : Call) (key name : List ℕ) (v n : ℤ) (at : Option ℕ) (column : ℕ) → Sums cs (rows_by rows) call key name v → v ≡ n → IsTrue (is_key key) → counter_fault (column_of cs name) ≡ None
    → place cs name ≡ Some column → at ≡ found rows key → fits (size_of cs name) n ≡ true → Numbers cs rows call at column n
turn_number cs rows call key name v n at column s same valid counts stands is fit =
    let fit' : fits (size_of cs name) v ≡ true = ap (fits (size_of cs name)) same ∙ fit in
    record {
      key = key;
      name = name;
      stands = stands;
      counts = counts;
      fit = fit;
      puts = record {
        of = s.of;
        valid = valid;
        at_key = sym is;
        asks = s.asks ∙ both (fits (size_of cs name) v) (write_asks (rows_by rows) key) fit';
        step = λ pool. s.step pool ∙ ap (add_in cs (rows_by rows) pool key name) same
            ∙ add_put (fits (size_of cs name) n) (may_put (rows_by rows) pool key) (rows_by rows) key (with_value cs (row_in cs (rows_by rows) key) name (values.Int n)) n fit;
      };
    }

range_step : (f w : Bool) (rows : State) (key : List ℕ) (row : List Value) (n : ℤ) → f ≡ false → add_step f w rows key row n ≡ answers rows Range
range_step true w rows key row n e = absurd (cc)
range_step false w rows key row n e = refl

none_asked : (a b : Bool) → a ≡ false → (a && b) ≡ false
none_asked true b e = absurd (cc)
none_asked false b e = refl

pub turn_range : (cs : List Column) (rows : List Packed) (call : Call) (key name : List ℕ) (v : ℤ) → Sums cs (rows_by rows) call key name v → fits (size_of cs name) v ≡ false → Leaves cs (rows_by rows) call Range
turn_range cs rows call key name v s out = record {
  answers = record {
    asks = s.asks ∙ none_asked (fits (size_of cs name) v) (write_asks (rows_by rows) key) out;
    step = λ pool. s.step pool ∙ range_step (fits (size_of cs name) v) (may_put (rows_by rows) pool key) (rows_by rows) key (with_value cs (row_in cs (rows_by rows) key) name (values.Int v)) v out;
  };
  quiet = λ row. refl;
}

-- a sum that doesn't fit 64 bits doesn't fit the column
step_range : (f w : Bool) (rows : State) (key : List ℕ) (row : List Value) (n : ℤ) → add_step f w rows key row n ≡ answers rows Range → f ≡ false
step_range false w rows key row n e = refl
step_range true true rows key row n e = let r : replies.Value n ≡ Range = ap (λ (s : Step). s.reply) e in absurd (cc)
step_range true false rows key row n e = let r : Full ≡ Range = ap (λ (s : Step). s.reply) e in absurd (cc)

pub wide_unfit : (cs : List Column) (rows : State) (key name : List ℕ) (v : ℤ) → IsSchema cs → counter_fault (column_of cs name) ≡ None → (FitsSigned w64 v → ⊥) → fits (size_of cs name) v ≡ false
wide_unfit cs rows key name v schema counts out =
    let t : Shape = record { columns = cs; size = 1; pool = 0 } in
    step_range (fits (size_of cs name) v) (may_write t rows key) rows key _ v (out_of_range t rows key name v schema counts out)

-- the number of a key's row, by where it stands
pub number_none : (cs : List Column) (rows : List Packed) (key name : List ℕ) → found rows key ≡ None → pos 0 ≡ number_of cs (row_in cs (rows_by rows) key) name
number_none cs rows key name is =
    sym (ap (λ (o : Option (List Value)). number_of cs (unwrap_or o (blank cs)) name) (get_missing rows key is) ∙ zero_of cs (place cs name))

pub number_some : (cs : List Column) (rows : List Packed) (key name : List ℕ) (at column : ℕ) (n : ℤ) → IsBucket cs rows → found rows key ≡ Some at → place cs name ≡ Some column → slice_get (row_at rows at).values column ≡ Some (values.Int n)
    → n ≡ number_of cs (row_in cs (rows_by rows) key) name
number_some cs rows key name at column n b is stands there =
    sym (ap (λ (o : Option (List Value)). number_of cs (unwrap_or o (blank cs)) name) (get_found cs rows key at b is) ∙ ap (number_at (row_at rows at).values) stands ∙ ap number_in there)

-- and wherever it stands, or nowhere
pub number_is : (cs : List Column) (rows : List Packed) (key name : List ℕ) (at : Option ℕ) (column : ℕ) (n : ℤ) → IsBucket cs rows → at ≡ found rows key → place cs name ≡ Some column → IfNone at (n ≡ pos 0) → IfSome at (λ i. slice_get (row_at rows i).values column ≡ Some (values.Int n))
    → n ≡ number_of cs (row_in cs (rows_by rows) key) name
number_is cs rows key name None column n b is stands zero some = zero ∙ number_none cs rows key name (sym is)
number_is cs rows key name (Some i) column n b is stands zero some = number_some cs rows key name i column n b (sym is) stands some

size_is : (cs : List Column) (name : List ℕ) (column : ℕ) → place cs name ≡ Some column → size_in (slice_get cs column) ≡ size_of cs name
size_is cs name column stands = sym (ap (λ (o : Option ℕ). size_in (option_and_then (slice_get cs) o)) stands)

turn_by : (b : Bool) (cs : List Column) (rows : List Packed) (call : Call) (key name : List ℕ) (v n : ℤ) (at : Option ℕ) (column : ℕ) → fits (size_of cs name) n ≡ b → Sums cs (rows_by rows) call key name v → v ≡ n → IsTrue (is_key key) → counter_fault (column_of cs name) ≡ None
    → place cs name ≡ Some column → at ≡ found rows key → IsTurn cs rows call (number_turn b at column n)
turn_by true cs rows call key name v n at column fit s same valid counts stands is = turn_number cs rows call key name v n at column s same valid counts stands is fit
turn_by false cs rows call key name v n at column fit s same valid counts stands is = turn_range cs rows call key name v s (ap (fits (size_of cs name)) same ∙ fit)

-- a sum of 64 bits
pub turn_sum : (cs : List Column) (rows : List Packed) (call : Call) (key name : List ℕ) (v n : ℤ) (at : Option ℕ) (column : ℕ) → Sums cs (rows_by rows) call key name v → v ≡ n → IsTrue (is_key key) → counter_fault (column_of cs name) ≡ None
    → place cs name ≡ Some column → at ≡ found rows key → IsTurn cs rows call (number_turn (fits (size_in (slice_get cs column)) n) at column n)
turn_sum cs rows call key name v n at column s same valid counts stands is =
    turn_by (fits (size_in (slice_get cs column)) n) cs rows call key name v n at column (ap (λ k. fits k n) (sym (size_is cs name column stands))) s same valid counts stands is

-- and one of more
pub turn_wide : (cs : List Column) (rows : List Packed) (call : Call) (key name : List ℕ) (v : ℤ) → IsSchema cs → Sums cs (rows_by rows) call key name v → counter_fault (column_of cs name) ≡ None → (FitsSigned w64 v → ⊥) → Leaves cs (rows_by rows) call Range
turn_wide cs rows call key name v schema s counts out = turn_range cs rows call key name v s (wide_unfit cs (rows_by rows) key name v schema counts out)

-- ---- whether the pool is asked

behind_by : (cs : List Column) (rows : List Packed) (key : List ℕ) (at : Option ℕ) → IsBucket cs rows → found rows key ≡ at → write_asks (rows_by rows) key ≡ (is_none at && not (nat_eq (length rows) 0))
behind_by cs rows key (Some i) b is = ap (λ (o : Option (List Value)). not (is_some o) && not (nat_eq (fin.len (rows_by rows)) 0)) (get_found cs rows key i b is)
behind_by cs rows key None b is = ap (λ (o : Option (List Value)). not (is_some o) && not (nat_eq (fin.len (rows_by rows)) 0)) (get_missing rows key is) ∙ ap (λ n. not (nat_eq n 0)) (len_rows cs rows b)

pub asks_write : (cs : List Column) (rows : List Packed) (call : Call) (at : Option ℕ) → IsBucket cs rows → Writes cs rows call at → asks_pool cs (rows_by rows) call ≡ (is_none at && not (nat_eq (length rows) 0))
asks_write cs rows call at b w = w.puts.asks ∙ behind_by cs rows w.key at b w.puts.at_key

pub asks_number : (cs : List Column) (rows : List Packed) (call : Call) (at : Option ℕ) (column : ℕ) (n : ℤ) → IsBucket cs rows → Numbers cs rows call at column n → asks_pool cs (rows_by rows) call ≡ (is_none at && not (nat_eq (length rows) 0))
asks_number cs rows call at column n b w = w.puts.asks ∙ behind_by cs rows w.key at b w.puts.at_key
