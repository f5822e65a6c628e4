-- Calls of the plain Table have the ports' answers, and leave what the ports leave.
use Rattle.std.proofs.Common.{◌≡◌, ℕ, ◌<◌, ◌≤◌, nat_eq, Bool, true, false, if◌then◌else◌, List, [], ◌∷◌, ◌++◌, refl, ap, ◌∙◌, sym, subst, arith, Option, Some, None, Ok, Err}
use Rattle.std.proofs.lemmas.Bool.Decides.{nat_tests}
use Rattle.std.specs.FinMap as map
use Rattle.sw_base.specs.declared.table.Value.{Value}
use Rattle.sw_base.specs.declared.table.Value.TheVariants as values
use Rattle.sw_base.specs.declared.table.Call.{Call}
use Rattle.sw_base.specs.declared.table.Call.TheVariants.{Set, Get, Exist, Del, Incr, Decr, Count}
use Rattle.sw_base.specs.declared.table.CallFault.{CallFault}
use Rattle.sw_base.specs.declared.table.CallFault.TheVariants.{Busy, Spent as PlacesSpent, BadKey, NoColumn, NotInt, BadValue, Range}
use Rattle.sw_column.specs.declared.column.Column.{Column}
use Rattle.sw_column.specs.declared.column.Kind.{Kind}
use Rattle.sw_column.specs.declared.column.Kind.TheVariants.{Int, Text, Float}
use Rattle.sw_column.specs.Columns.{column_of}
use Rattle.sw_column.specs.Fit.{fits, number_fault, value_fault, at_column, or_else, pairs_fault, counter_kind, counter_fault, is_key, key_fault, behind_key, call_fault}
use Rattle.sw_lists.proofs.Lists.{length_append}
use Rattle.sw_port_shelf.specs.declared.shelf.Placed.{Placed}
use Rattle.sw_port_shelf.specs.Shelf.{is_of_place}
use Rattle.sw_table_laws.specs.Table.{State, Shape, TStep, Entry, left_by, LegalFrom, Legal, after}
use Rattle.sw_tmodel.specs.Plain.{PlainTable, shape_of, spent_fault, IsCall}
use Rattle.sw_step.specs.declared.actor.ActorId.{ActorId}
use Rattle.sw_record.specs.Terms.{Terms}
use Rattle.sw_record.specs.Places.{Ran}
use Rattle.sw_join.specs.Legal.{entries, LegalFor}
use Rattle.sw_world_ports.specs.Calls.{Tables, TableRefuses}
use Rattle.sw_world_ports.specs.Ports.{Ports, RefusesIt, Answers}
use Rattle.sw_world_fits.specs.Table.{TableStands, ran_of}

-- one call more
legal_more : (t : Shape) (s : State) (es : List Entry) (e : Entry) → LegalFrom t s es → call_fault t.columns e.call ≡ None → e.reply ≡ (TStep t (left_by t s es) e.call).reply → e.cells ≡ (TStep t (left_by t s es) e.call).cells → LegalFrom t s (es ++ e ∷ [])
unfolding LegalFrom left_by
legal_more t s [] e h fit reply cells = (fit, reply, cells, tt)
legal_more t s (x ∷ es) e h fit reply cells = (h.0, h.1, h.2, legal_more t (TStep t s x.call).state es e h.3 fit reply cells)

left_more : (t : Shape) (s : State) (es : List Entry) (e : Entry) → left_by t s (es ++ e ∷ []) ≡ (TStep t (left_by t s es) e.call).state
unfolding left_by
left_more t s [] e = refl
left_more t s (x ∷ es) e = left_more t (TStep t s x.call).state es e

entries_more : (h : List Ran) (x : Ran) → entries (h ++ x ∷ []) ≡ entries h ++ record { call = x.0; reply = x.1.0; cells = x.1.1 } ∷ []
entries_more [] x = refl
entries_more (y ∷ h) x = ap (λ (es : List Entry). record { call = y.0; reply = y.1.0; cells = y.1.1 } ∷ es) (entries_more h x)

-- a call that doesn't fit is refused for its arguments
abbrev Own : Option CallFault → Type 0
Own None = Unit {0}
Own (Some f) = is_of_place f ≡ false

own_or : (a b : Option CallFault) → Own a → Own b → Own (or_else a b)
own_or None b h k = k
own_or (Some f) b h k = h

own_number : (size : ℕ) (v : Value) → Own (number_fault size v)
own_number size (values.Text x) = refl
own_number size (values.Int n) = pick (fits size n)
  where
    pick : (b : Bool) → Own (if b then None else Some Range)
    pick true = tt
    pick false = refl

own_value : (k : Kind) (size : ℕ) (v : Value) → Own (value_fault k size v)
own_value Int size v = own_number size v
own_value Text size (values.Int n) = refl
own_value Text size (values.Text x) = tt
own_value Float size v = refl

own_at : (c : Option Column) (v : Value) → Own (at_column c v)
own_at None v = refl
own_at (Some c) v = own_value c.kind c.size v

own_pairs : (cs : List Column) (ps : List (List ℕ × Value)) → Own (pairs_fault cs ps)
unfolding pairs_fault
own_pairs cs [] = tt
own_pairs cs (p ∷ ps) = own_or (at_column (column_of cs p.0) p.1) (pairs_fault cs ps) (own_at (column_of cs p.0) p.1) (own_pairs cs ps)

own_kind : (k : Kind) → Own (counter_kind k)
own_kind Int = tt
own_kind Text = refl
own_kind Float = refl

own_counter : (c : Option Column) → Own (counter_fault c)
own_counter None = refl
own_counter (Some c) = own_kind c.kind

own_key : (key : List ℕ) → Own (key_fault key)
own_key key = pick (is_key key)
  where
    pick : (b : Bool) → Own (if b then None else Some BadKey)
    pick true = tt
    pick false = refl

own_behind : (key : List ℕ) (rest : Option CallFault) → Own rest → Own (behind_key key rest)
own_behind key rest h = pick (is_key key)
  where
    pick : (b : Bool) → Own (if b then rest else Some BadKey)
    pick true = h
    pick false = refl

own_call : (cs : List Column) (c : Call) → Own (call_fault cs c)
own_call cs (Set key pairs) = own_behind key (pairs_fault cs pairs) (own_pairs cs pairs)
own_call cs (Get key) = own_key key
own_call cs (Exist key) = own_key key
own_call cs (Del key) = own_key key
own_call cs (Incr key name by) = own_behind key (counter_fault (column_of cs name)) (own_counter (column_of cs name))
own_call cs (Decr key name by) = own_behind key (counter_fault (column_of cs name)) (own_counter (column_of cs name))
own_call cs Count = tt

-- a refusal
refuses : (t : Terms) (calls last : ℕ) (c : Call) (f : CallFault) (o : Option CallFault) → call_fault t.columns c ≡ o → last ≡ t.table_last_call → or_else o (spent_fault calls last) ≡ Some f → RefusesIt t calls c f
refuses t calls last c f (Some g) e l q = own g f (let i : g ≡ f = cc in i) e (subst Own e (own_call t.columns c))
  where
    own : (a b : CallFault) → a ≡ b → call_fault t.columns c ≡ Some a → is_of_place a ≡ false → RefusesIt t calls c b
    own a b i k n = at b (k ∙ ap (λ x. Some x) i) (subst (λ x. is_of_place x ≡ false) i n)
      where
        at : (x : CallFault) → call_fault t.columns c ≡ Some x → is_of_place x ≡ false → RefusesIt t calls c x
        at (Busy word seen) k n = absurd (cc)
        at (PlacesSpent m) k n = absurd (cc)
        at BadKey k n = k
        at NoColumn k n = k
        at NotInt k n = k
        at BadValue k n = k
        at Range k n = k
refuses t calls last c f None e l q = by (nat_eq calls last) refl q
  where
    by : (b : Bool) → nat_eq calls last ≡ b → (if b then Some (PlacesSpent calls) else None) ≡ Some f → RefusesIt t calls c f
    by true k r = subst (RefusesIt t calls c) (let i : PlacesSpent calls ≡ f = cc in i) (e, (refl, (let j : calls ≡ last = grind (arith, nat_tests) in j ∙ l)))
    by false k r = absurd (cc)

-- no refusal: the call fits, and a place is left
fine : (calls last : ℕ) (o : Option CallFault) → calls ≤ last → or_else o (spent_fault calls last) ≡ None → (o ≡ None) × (calls < last)
fine calls last (Some g) le q = absurd (cc)
fine calls last None le q = (refl, by (nat_eq calls last) refl q)
  where
    by : (b : Bool) → nat_eq calls last ≡ b → (if b then Some (PlacesSpent calls) else None) ≡ None → calls < last
    by true k r = absurd (cc)
    by false k r = grind (arith, nat_tests)

pub refused_fits : (t : Terms) (shape : Shape) (legal : List Ran → Type 0) (y : ActorId) (p : PlainTable) (ports : Ports) → TableStands t shape p ports.table → (call : Call) (q : PlainTable) (row new : List Value) (fault : CallFault) → IsCall p call q row new (Err fault) → Answers t legal ports y (TableRefuses call fault) × TableStands t shape q ports.table
refused_fits t shape legal y p ports st call q row new fault is = (
  subst (λ (n : ℕ). RefusesIt t n call fault) st.calls (refuses t p.calls p.last_call call fault (call_fault t.columns call) refl st.last (subst (λ (cs : List Column). or_else (call_fault cs call) (spent_fault p.calls p.last_call) ≡ Some fault) st.columns is.0)),
  subst (λ (x : PlainTable). TableStands t shape x ports.table) (sym is.1) st,
)

pub placed_fits : (t : Terms) (shape : Shape) (y : ActorId) (p : PlainTable) (ports : Ports) → TableStands t shape p ports.table → LegalFor shape ports.table → (call : Call) (q : PlainTable) (row new : List Value) (placed : Placed) → IsCall p call q row new (Ok placed) → Answers t (LegalFor shape) ports y (Tables placed.at (ran_of p call placed.reply)) × TableStands t shape q (ports.table ++ ran_of p call placed.reply ∷ [])
placed_fits t shape y p ports st legal call q row new placed is = (
  (at ∙ st.calls, (omega (arith, free.1, st.calls, st.last)), subst (Legal shape) (sym (entries_more ports.table (ran_of p call placed.reply))) (legal_more shape map.empty (entries ports.table) entry legal (ap (λ (cs : List Column). call_fault cs call) shape_columns ∙ free.0) (reply ∙ step_reply) step_cells)),
  subst (λ (x : PlainTable). TableStands t shape x (ports.table ++ ran_of p call placed.reply ∷ [])) (sym is.2)
      (record {
        same = st.same;
        columns = st.columns;
        rows = step_state ∙ sym (ap (λ (es : List Entry). after shape es) (entries_more ports.table (ran_of p call placed.reply)) ∙ left_more shape map.empty (entries ports.table) entry);
        calls = omega (arith, st.calls, length_append ports.table (ran_of p call placed.reply ∷ []));
        last = st.last;
        within = omega (arith, free.1);
      }),
)
  where
    entry : Entry
    entry = record { call = call; reply = placed.reply; cells = (TStep (shape_of p) p.state call).cells }

    at : placed.at ≡ p.calls
    at = ap (λ (x : Placed). x.at) is.1

    reply : placed.reply ≡ (TStep (shape_of p) p.state call).reply
    reply = ap (λ (x : Placed). x.reply) is.1

    shape_columns : shape.columns ≡ p.columns
    shape_columns = sym (ap (λ (s : Shape). s.columns) st.same)

    free : (call_fault p.columns call ≡ None) × (p.calls < p.last_call)
    free = fine p.calls p.last_call (call_fault p.columns call) st.within is.0

    step_reply : (TStep (shape_of p) p.state call).reply ≡ (TStep shape (after shape (entries ports.table)) call).reply
    step_reply = ap (λ (s : Shape). (TStep s p.state call).reply) st.same ∙ ap (λ (r : State). (TStep shape r call).reply) st.rows

    step_cells : (TStep (shape_of p) p.state call).cells ≡ (TStep shape (after shape (entries ports.table)) call).cells
    step_cells = ap (λ (s : Shape). (TStep s p.state call).cells) st.same ∙ ap (λ (r : State). (TStep shape r call).cells) st.rows

    step_state : (TStep (shape_of p) p.state call).state ≡ (TStep shape (after shape (entries ports.table)) call).state
    step_state = ap (λ (s : Shape). (TStep s p.state call).state) st.same ∙ ap (λ (r : State). (TStep shape r call).state) st.rows
