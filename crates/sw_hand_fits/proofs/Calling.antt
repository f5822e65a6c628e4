-- Calls of the Table, sums and the server's end come to what the tables say.
use Rattle.std.proofs.Common.{◌≡◌, ℕ, List, [], ◌∷◌, refl, ap, sym, subst, Result, Ok, Err, Option, Some, None, inl, inr}
use Rattle.sw_step.specs.declared.actor.ActorId.{ActorId}
use Rattle.sw_base.specs.declared.table.Call.{Call}
use Rattle.sw_base.specs.declared.table.CallFault.{CallFault}
use Rattle.sw_base.specs.declared.table.CallFault.TheVariants.{Busy, Spent, BadKey, NoColumn, NotInt, BadValue, Range}
use Rattle.sw_base.specs.declared.table.Value.{Value}
use Rattle.sw_column.specs.declared.column.Column.{Column}
use Rattle.sw_column.specs.Fit.{call_fault}
use Rattle.sw_data.specs.declared.messages.Msg.{Msg}
use Rattle.sw_data.specs.declared.messages.Ask.{Ask as CodeAsk}
use Rattle.sw_port_shelf.specs.Shelf.{AnswersFit}
use Rattle.sw_port_shelf.specs.declared.shelf.Placed.{Placed}
use Rattle.sw_record.specs.Words.{Event, Table, Stats, Shutdown, Done, Counter, TableIs, TableRefused, NoTable, Count, Asked}
use Rattle.sw_record.specs.Terms.{Terms}
use Rattle.sw_port_board.specs.declared.board.BoardStep.TheVariants.{Stopped}
use Rattle.sw_world_ports.specs.Calls.{Stops, Sums as SumsUp, Tables, TableRefuses}
use Rattle.sw_hand_calls.specs.Calls.{Called, Summed, Stepped, Rules, answers_calls, refused_calls, seen_calls, table_calls, sums_calls, shuts_calls}
use Rattle.sw_world_hands.specs.Calls.{calls}
use Rattle.sw_hand.specs.Stage.{current_of}
use Rattle.sw_hand.specs.Calling.{is_busy, CallsRefused, cells_of, CallsSeen, CallsAs, Calls, Sums, Shuts}
use Rattle.sw_hand.specs.declared.hand.Hand.{Hand as CodeHand}
use Rattle.sw_hand.specs.declared.stage.Current.{Current}
use Rattle.sw_hand.specs.declared.stage.Stage.TheVariants as stages
use Rattle.sw_hand_laws.specs.Hand.{Ports, Acting, Hand, place_too, spent_too, sum_too, stop_too, at_once, call}
use Rattle.sw_hand_fits.specs.Matches.{is_some_table, Matches, ask_of, CallsMay, Went}
use Rattle.sw_hand_fits.proofs.Basics.{plain, stays, acting_fits, answers, behind, alone}

-- the row's buffer beside
row_stays : {H : Type 0} (t : Terms) (y : ActorId) (g : Hand) (h : CodeHand H) (row : List Value) → Matches t y g.own g.next g.out g.ended h → Matches t y g.own g.next g.out g.ended (record h { row = row })
row_stays t y g h row m = stays t y g.own g.next g.out g.ended h (record h { row = row }) h.handler row h.stage refl m

-- a refused call
refused_by : {H B S C L K : Type 0} (t : Terms) (y : ActorId) (number : K → ℕ) (ru : Rules H B S C) (g : Hand) (e : Event) (x : Column) (xs : List Column) (f : CallFault) (h : CodeHand H) (b : C) (c : Current) (n : Call) (row : List Value) (k : CodeHand H) (d : C) (ask : CodeAsk (Msg L K)) → AnswersFit (call_fault t.columns n) (Err f) → Matches t y g.own g.next g.out g.ended h → c ≡ current_of e → (w : CallsRefused (is_busy f) ru.does ru.goes f h b c n k d ask) → Went t y number (Acting e (Table n)) g k ask (Called n row h.row (Err f) ∷ refused_calls ru (is_busy f) f h b c n k d ask w) (λ p. calls n p (x ∷ xs)) (λ p. call g e n p (x ∷ xs))
refused_by {H} t y number ru g e x xs (Busy word seen) h b c n row k d ask fit m ce (z0, z1, z2) =
    let p : Ports = record (plain Done) { called = Err (Busy word seen) } in
    (p, (fit, behind t y number g.log k ask (Called n row h.row (Err (Busy word seen))) (TableRefuses n (Busy word seen)) [] [] (call g e n p (x ∷ xs)) refl refl refl (alone t y number g.log k ask (call g e n p (x ∷ xs)) refl (record { hand = stays t y g.own g.next g.out g.ended h k h.handler h.row (stages.Acting c (Table n)) z0 m; stage = acting_fits g.next c e (Table n) k.stage (ap (λ (w : CodeHand H). w.stage) z0) ce; ask_is = ap (ask_of number) z2 }))))
refused_by t y number ru g e x xs (Spent j) h b c n row k d ask fit m ce w =
    let z = answers t y number ru (spent_too g j) e h b c (TableRefused (Spent j)) k d ask m ce w in
    let p : Ports = record (plain z.0) { called = Err (Spent j) } in
    (p, (fit, behind t y number g.log k ask (Called n row h.row (Err (Spent j))) (TableRefuses n (Spent j)) (answers_calls ru h b c (TableRefused (Spent j)) k d ask w) [] (call g e n p (x ∷ xs)) refl refl refl z.1))
refused_by t y number ru g e x xs BadKey h b c n row k d ask fit m ce w =
    let z = answers t y number ru g e h b c (TableRefused BadKey) k d ask m ce w in
    let p : Ports = record (plain z.0) { called = Err BadKey } in
    (p, (fit, behind t y number g.log k ask (Called n row h.row (Err BadKey)) (TableRefuses n BadKey) (answers_calls ru h b c (TableRefused BadKey) k d ask w) [] (call g e n p (x ∷ xs)) refl refl refl z.1))
refused_by t y number ru g e x xs NoColumn h b c n row k d ask fit m ce w =
    let z = answers t y number ru g e h b c (TableRefused NoColumn) k d ask m ce w in
    let p : Ports = record (plain z.0) { called = Err NoColumn } in
    (p, (fit, behind t y number g.log k ask (Called n row h.row (Err NoColumn)) (TableRefuses n NoColumn) (answers_calls ru h b c (TableRefused NoColumn) k d ask w) [] (call g e n p (x ∷ xs)) refl refl refl z.1))
refused_by t y number ru g e x xs NotInt h b c n row k d ask fit m ce w =
    let z = answers t y number ru g e h b c (TableRefused NotInt) k d ask m ce w in
    let p : Ports = record (plain z.0) { called = Err NotInt } in
    (p, (fit, behind t y number g.log k ask (Called n row h.row (Err NotInt)) (TableRefuses n NotInt) (answers_calls ru h b c (TableRefused NotInt) k d ask w) [] (call g e n p (x ∷ xs)) refl refl refl z.1))
refused_by t y number ru g e x xs BadValue h b c n row k d ask fit m ce w =
    let z = answers t y number ru g e h b c (TableRefused BadValue) k d ask m ce w in
    let p : Ports = record (plain z.0) { called = Err BadValue } in
    (p, (fit, behind t y number g.log k ask (Called n row h.row (Err BadValue)) (TableRefuses n BadValue) (answers_calls ru h b c (TableRefused BadValue) k d ask w) [] (call g e n p (x ∷ xs)) refl refl refl z.1))
refused_by t y number ru g e x xs Range h b c n row k d ask fit m ce w =
    let z = answers t y number ru g e h b c (TableRefused Range) k d ask m ce w in
    let p : Ports = record (plain z.0) { called = Err Range } in
    (p, (fit, behind t y number g.log k ask (Called n row h.row (Err Range)) (TableRefuses n Range) (answers_calls ru h b c (TableRefused Range) k d ask w) [] (call g e n p (x ∷ xs)) refl refl refl z.1))

-- a call with a place
called_by : {H B S C L K : Type 0} (t : Terms) (y : ActorId) (number : K → ℕ) (ru : Rules H B S C) (g : Hand) (e : Event) (x : Column) (xs : List Column) (r : Result Placed CallFault) (h : CodeHand H) (b : C) (c : Current) (n : Call) (row : List Value) (k : CodeHand H) (d : C) (ask : CodeAsk (Msg L K)) → AnswersFit (call_fault t.columns n) r → Matches t y g.own g.next g.out g.ended h → c ≡ current_of e → (w : CallsSeen ru.does ru.goes r h b c n k d ask) → Went t y number (Acting e (Table n)) g k ask (Called n row h.row r ∷ seen_calls ru r h b c n k d ask w) (λ p. calls n p (x ∷ xs)) (λ p. call g e n p (x ∷ xs))
called_by t y number ru g e x xs (Ok q) h b c n row k d ask fit m ce (inl w) =
    let z = answers t y number ru (place_too g q.at n q.reply (cells_of q.reply h.row)) e h b c (TableIs q.at q.reply (cells_of q.reply h.row)) k d ask m ce w in
    let p : Ports = record (plain z.0) { called = Ok q; cells = cells_of q.reply h.row } in
    (p, (fit, behind t y number g.log k ask (Called n row h.row (Ok q)) (Tables q.at (n, (q.reply, cells_of q.reply h.row))) (answers_calls ru h b c (TableIs q.at q.reply (cells_of q.reply h.row)) k d ask w) [] (call g e n p (x ∷ xs)) refl refl refl z.1))
called_by {H} t y number ru g e x xs (Ok q) h b c n row k d ask fit m ce (inr (e0, (e1, w, i))) =
    let p : Ports = record (plain Done) { called = Ok q; cells = cells_of q.reply h.row } in
    (p, (fit, inl (record { lost = ap (λ (w : CodeHand H). w.lost) e1; dids_are = refl; gave = refl })))
called_by t y number ru g e x xs (Err f) h b c n row k d ask fit m ce w = refused_by t y number ru g e x xs f h b c n row k d ask fit m ce w

call_by : {H B S C L K : Type 0} (t : Terms) (y : ActorId) (number : K → ℕ) (ru : Rules H B S C) (g : Hand) (e : Event) (cs : List Column) (h : CodeHand H) (s : S) (b : C) (c : Current) (n : Call) (k : CodeHand H) (u : S) (d : C) (ask : CodeAsk (Msg L K)) → ((row found : List Value) (r : Result Placed CallFault) (after : S) → ru.gives s n after row found r → AnswersFit (call_fault t.columns n) r) → Matches t y g.own g.next g.out g.ended h → c ≡ current_of e → (w : CallsAs (is_some_table cs) ru.gives ru.does ru.goes h s b c n k u d ask) → Went t y number (Acting e (Table n)) g k ask (table_calls ru (is_some_table cs) h s b c n k u d ask w) (λ p. calls n p cs) (λ p. call g e n p cs)
call_by t y number ru g e [] h s b c n k u d ask may m ce (w, e1) =
    let z = answers t y number ru g e h b c NoTable k d ask m ce w in
    (record (plain z.0) { called = refusing (call_fault t.columns n) }, (may_refuse (call_fault t.columns n), z.1))
  where
    refusing : Option CallFault → Result Placed CallFault
    refusing None = Err (Spent 0)
    refusing (Some f) = Err f

    may_refuse : (o : Option CallFault) → AnswersFit o (refusing o)
    may_refuse None = refl
    may_refuse (Some f) = refl
call_by t y number ru g e (x ∷ xs) h s b c n k u d ask may m ce (r, (row, (given, w))) = called_by t y number ru g e x xs r (record h { row = row }) b c n h.row k d ask (may h.row row r u given) (row_stays t y g h row m) ce w

pub call_fits : {H B S C L K : Type 0} (t : Terms) (y : ActorId) (number : K → ℕ) (ru : Rules H B S C) (g : Hand) (e : Event) (h : CodeHand H) (s : S) (b : C) (c : Current) (n : Call) (k : CodeHand H) (u : S) (d : C) (ask : CodeAsk (Msg L K)) → CallsMay t ru.gives s → Matches t y g.own g.next g.out g.ended h → c ≡ current_of e → (w : Calls ru.gives ru.does ru.goes h s b c n k u d ask) → Went t y number (Acting e (Table n)) g k ask (table_calls ru h.house.table h s b c n k u d ask w) (λ p. calls n p t.columns) (λ p. call g e n p t.columns)
call_fits t y number ru g e h s b c n k u d ask may m ce w = subst (λ v. (w : CallsAs v ru.gives ru.does ru.goes h s b c n k u d ask) → Went t y number (Acting e (Table n)) g k ask (table_calls ru v h s b c n k u d ask w) (λ p. calls n p t.columns) (λ p. call g e n p t.columns)) (sym m.house.table) (λ w. call_by t y number ru g e t.columns h s b c n k u d ask (λ row found r after z. may n after row found r z) m ce w) w

-- sums, and the server's end
pub sum_fits : {H B S C L K : Type 0} (t : Terms) (y : ActorId) (number : K → ℕ) (ru : Rules H B S C) (g : Hand) (e : Event) (h : CodeHand H) (b : C) (c : Current) (n : Counter) (k : CodeHand H) (d : C) (ask : CodeAsk (Msg L K)) → Matches t y g.own g.next g.out g.ended h → c ≡ current_of e → (w : Sums ru.does ru.goes ru.sizes h b c n k d ask) → Went t y number (Acting e (Stats n)) g k ask (sums_calls ru h b c n k d ask w) (λ p. SumsUp n p.sum ∷ []) (λ p. at_once (sum_too g n p.sum) e (Count p.sum) p.act)
sum_fits t y number ru g e h b c n k d ask m ce (j, (mid, (summed, w))) =
    let z = answers t y number ru (sum_too g n j) e h mid c (Count j) k d ask m ce w in
    let p : Ports = record (plain z.0) { sum = j } in
    (p, (tt, behind t y number g.log k ask (Summed n j) (SumsUp n j) (answers_calls ru h mid c (Count j) k d ask w) [] (at_once (sum_too g n p.sum) e (Count p.sum) p.act) refl refl refl z.1))

pub shut_fits : {H B S C L K : Type 0} (t : Terms) (y : ActorId) (number : K → ℕ) (ru : Rules H B S C) (g : Hand) (e : Event) (h : CodeHand H) (b : C) (c : Current) (k : CodeHand H) (d : C) (ask : CodeAsk (Msg L K)) → Matches t y g.own g.next g.out g.ended h → c ≡ current_of e → (w : Shuts ru.does ru.goes h b c k d ask) → Went t y number (Acting e Shutdown) g k ask (shuts_calls ru h b c k d ask w) (λ p. Stops ∷ []) (λ p. at_once (stop_too g) e Asked p.act)
shut_fits t y number ru g e h b c k d ask m ce (mid, (stopped, w)) =
    let z = answers t y number ru (stop_too g) e h mid c Asked k d ask m ce w in
    (plain z.0, (tt, behind t y number g.log k ask (Stepped Stopped) Stops (answers_calls ru h mid c Asked k d ask w) [] (at_once (stop_too g) e Asked z.0) refl refl refl z.1))
