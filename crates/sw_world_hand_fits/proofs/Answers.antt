-- The calls of a hand's code on the plain ports have the answers of the world's, one after the other.
use Rattle.std.proofs.Common.{◌≡◌, ℕ, zero, suc, ◌+◌, ◌<◌, ◌≤◌, nat_lt, ℤ, ◌+ℤ◌, ◌-ℤ◌, Bool, true, false, if◌then◌else◌, List, [], ◌∷◌, ◌++◌, refl, ap, ◌∙◌, sym, subst, arith, Option, Some, None, Result, Ok, Err}
use Rattle.std.proofs.lemmas.Bool.Decides.{nat_tests}
use Rattle.std.specs.FinMap as map
use Rattle.sw_lists.specs.Lists.{collect, Each}
use Rattle.sw_step.specs.declared.actor.ActorId.{ActorId}
use Rattle.sw_step.specs.Actors.{is}
use Rattle.sw_base.specs.declared.table.Value.{Value}
use Rattle.sw_base.specs.declared.table.Call.{Call}
use Rattle.sw_base.specs.declared.table.Call.TheVariants.{Set, Get, Exist, Del, Incr, Decr, Count}
use Rattle.sw_base.specs.declared.table.CallFault.{CallFault}
use Rattle.sw_port_board.specs.declared.board.BoardStep.{BoardStep}
use Rattle.sw_port_board.specs.declared.board.BoardStep.TheVariants as steps
use Rattle.sw_port_board.specs.declared.crew.Crew.TheVariants.{Taskers}
use Rattle.sw_port_board.specs.Board.{FindsIdle, found_busy, first_of, reads, members}
use Rattle.sw_port_board.specs.PlainBoard.{PlainWords, plain_after, PlainGoes}
use Rattle.sw_port_book.specs.Answers.{look_answer, bind_answer}
use Rattle.sw_port_book.specs.Plain.{Words, word_of, bound}
use Rattle.sw_port_book.specs.declared.answers.Look.{Look}
use Rattle.sw_port_book.specs.declared.answers.BindFault.{BindFault}
use Rattle.sw_port_shelf.specs.declared.shelf.Placed.{Placed}
use Rattle.sw_table_laws.specs.Table.{Shape, State, TStep, shown, set_step, get_step, del_step, add_step, add, may_write, row_of}
use Rattle.sw_table_laws.specs.Rows.{with_value, with_pairs, number_of as number_in, size_of}
use Rattle.sw_column.specs.Fit.{fits}
use Rattle.sw_base.specs.declared.table.Value.TheVariants as values
use Rattle.sw_tmodel.specs.Plain.{PlainTable, shape_of}
use Rattle.sw_record.specs.Words.{Counter}
use Rattle.sw_record.specs.Counts.{greatest}
use Rattle.sw_record.specs.Terms.{Terms}
use Rattle.sw_join.specs.Legal.{LegalFor}
use Rattle.sw_world_ports.specs.Calls.{Did, Looks, Binds, Marks, Idles, Stops, SeesStop, Adds, Sums, Tables, TableRefuses, ZeroUid}
use Rattle.sw_world_ports.specs.Made.{same_counter}
use Rattle.sw_world_ports.specs.Ports.{Ports, Answers, ported, AllAnswer, all_ported}
use Rattle.sw_world_fits.specs.Book.{seen_of, got_of as bind_got}
use Rattle.sw_world_fits.specs.Board.{IsThere, BoardStands}
use Rattle.sw_world_fits.specs.Table.{ran_of}
use Rattle.sw_world_fits.proofs.Book.{look_fits, bind_fits, zero_fits}
use Rattle.sw_world_fits.proofs.Board.{stop_fits, stopped_fits, add_fits, mark_fits, sum_fits, idle_fits}
use Rattle.sw_world_fits.proofs.Table.{refused_fits, placed_fits}
use Rattle.sw_hand.specs.Ports.{Acting}
use Rattle.sw_hand.specs.Calling.{cells_of}
use Rattle.sw_hand_calls.specs.Calls.{PortCall, Gave, Starved, Looked, Bound, Called, Idled, Summed, Stepped, Around, IsMade, AreMade}
use Rattle.sw_hand_fits.specs.Matches.{did_in}
use Rattle.sw_world_hand_fits.specs.Plain.{plain_rules, Stands, IsSound}

-- the row that a call answers is the one that it found
cells_set : (v : Bool) (s : State) (key : List ℕ) (new row : List Value) → cells_of (set_step v s key new).reply (shown (set_step v s key new) row) ≡ (set_step v s key new).cells
cells_set true s key new row = refl
cells_set false s key new row = refl

cells_get : (s : State) (o : Option (List Value)) (row : List Value) → cells_of (get_step s o).reply (shown (get_step s o) row) ≡ (get_step s o).cells
cells_get s None row = refl
cells_get s (Some r) row = refl

cells_exist : (v : Bool) (t : Shape) (s : State) (key : List ℕ) (row : List Value) → map.contains_key s key ≡ v → cells_of (TStep t s (Exist key)).reply (shown (TStep t s (Exist key)) row) ≡ (TStep t s (Exist key)).cells
cells_exist true t s key row q = rw q refl
cells_exist false t s key row q = rw q refl

cells_del : (v : Bool) (s : State) (key : List ℕ) (row : List Value) → cells_of (del_step v s key).reply (shown (del_step v s key) row) ≡ (del_step v s key).cells
cells_del true s key row = refl
cells_del false s key row = refl

cells_add : (v w : Bool) (s : State) (key : List ℕ) (new : List Value) (n : ℤ) (row : List Value) → cells_of (add_step v w s key new n).reply (shown (add_step v w s key new n) row) ≡ (add_step v w s key new n).cells
cells_add true true s key new n row = refl
cells_add true false s key new n row = refl
cells_add false w s key new n row = refl

cells_by : (t : Shape) (s : State) (key name : List ℕ) (n : ℤ) (row : List Value) → cells_of (add t s key name n).reply (shown (add t s key name n) row) ≡ (add t s key name n).cells
cells_by t s key name n row = cells_add (fits (size_of t.columns name) n) (may_write t s key) s key (with_value t.columns (row_of t s key) name (values.Int n)) n row

cells_are : (t : Shape) (s : State) (c : Call) (row : List Value) → cells_of (TStep t s c).reply (shown (TStep t s c) row) ≡ (TStep t s c).cells
cells_are t s (Set key pairs) row = cells_set (may_write t s key) s key (with_pairs t.columns (row_of t s key) pairs) row
cells_are t s (Get key) row = cells_get s (map.get s key) row
cells_are t s (Exist key) row = cells_exist (map.contains_key s key) t s key row refl
cells_are t s (Del key) row = cells_del (map.contains_key s key) s key row
cells_are t s (Incr key name by) row = cells_by t s key name (number_in t.columns (row_of t s key) name +ℤ by) row
cells_are t s (Decr key name by) row = cells_by t s key name (number_in t.columns (row_of t s key) name -ℤ by) row
cells_are t s Count row = refl

-- a word of a counter stays at the greatest at most
counts_more : (t : Terms) (p : Ports) (y : ActorId) (c : Counter) → ((k : Counter) (z : ActorId) → p.counts k z ≤ greatest) → (k : Counter) (z : ActorId) → (ported t p y (Adds c)).counts k z ≤ greatest
counts_more t p y c h k z = pick (same_counter k c) (is z y) (nat_lt (p.counts k z) greatest) refl
  where
    pick : (u v w : Bool) → nat_lt (p.counts k z) greatest ≡ w → (if u then (if v then (if w then p.counts k z + 1 else p.counts k z) else p.counts k z) else p.counts k z) ≤ greatest
    pick true true true q = grind (arith, nat_tests)
    pick true true false q = h k z
    pick true false w q = h k z
    pick false v w q = h k z

some_not : (s : ℕ) → 0 < s → ¬ (s ≡ 0)
some_not s lt e = absurd (omega (arith, lt, e))

-- the answer of a bind
bind_made : {H : Type 0} (acts : Acting H) (t : Terms) (shape : Shape) (y : ActorId) (s u : ℕ) (r : Result (Unit {0}) BindFault) (a b : Around H Words PlainTable PlainWords) (p : Ports) → 1 ≤ t.max_conn → 0 < s → Stands t shape y a p → IsMade (plain_rules acts) (Bound s u r) a b → Answers t (LegalFor shape) p y (Binds s u (bind_got r)) × Stands t shape y b (ported t p y (Binds s u (bind_got r)))
bind_made acts t shape y s zero r a b p some lt st ((q, e), i) =
    let z = zero_fits t (LegalFor shape) y a.book p st.book s (some_not s lt) in
    subst (λ (x : Result (Unit {0}) BindFault). Answers t (LegalFor shape) p y (Binds s 0 (bind_got x)) × Stands t shape y b (ported t p y (Binds s 0 (bind_got x)))) (sym q)
    (z.0, subst (λ x. Stands t shape y x (ported t p y (Binds s 0 ZeroUid))) (sym (i ∙ ap (λ (x : Words). record a { book = x }) e)) (record { book = z.1; board = moved st.board; table = st.table; legal = st.legal; turn = st.turn; counts = st.counts }))
  where
    moved : BoardStands t a.board p → BoardStands t a.board (ported t p y (Binds s 0 ZeroUid))
    moved k = record { workers = k.workers; taskers = k.taskers; actors = k.actors; marks = k.marks; words = k.words; stopped = k.stopped; worker = k.worker; tasker = k.tasker; counts = k.counts }
bind_made acts t shape y s (suc u) r a b p some lt st ((found, (f, e), q), i) =
    let z = bind_fits t (LegalFor shape) y a.book p st.book some s (suc u) (some_not s lt) (λ n. absurd (omega (arith, n))) in
    let j : r ≡ bind_answer s (word_of a.book s) = q ∙ ap (bind_answer s) f in
    subst (λ (x : Result (Unit {0}) BindFault). Answers t (LegalFor shape) p y (Binds s (suc u) (bind_got x)) × Stands t shape y b (ported t p y (Binds s (suc u) (bind_got x)))) (sym j)
    (z.0, subst (λ x. Stands t shape y x (ported t p y (Binds s (suc u) (bind_got (bind_answer s (word_of a.book s)))))) (sym (i ∙ ap (λ (x : Words). record a { book = x }) (e ∙ ap (bound a.book s (suc u)) f))) (record { book = z.1; board = moved (Binds s (suc u) (bind_got (bind_answer s (word_of a.book s)))) st.board; table = st.table; legal = st.legal; turn = st.turn; counts = st.counts }))
  where
    moved : (d : Did) → BoardStands t a.board p → BoardStands t a.board (ported t p y (Binds s (suc u) (bind_got (bind_answer s (word_of a.book s)))))
    moved d k = record { workers = k.workers; taskers = k.taskers; actors = k.actors; marks = k.marks; words = k.words; stopped = k.stopped; worker = k.worker; tasker = k.tasker; counts = k.counts }

look_made : {H : Type 0} (acts : Acting H) (t : Terms) (shape : Shape) (y : ActorId) (s : ℕ) (look : Look) (a b : Around H Words PlainTable PlainWords) (p : Ports) → 1 ≤ t.max_conn → 0 < s → Stands t shape y a p → IsMade (plain_rules acts) (Looked s look) a b → Answers t (LegalFor shape) p y (Looks s (seen_of look)) × Stands t shape y b p
look_made acts t shape y s look a b p some lt st ((found, (f, e), q), i) = (
  subst (λ (x : Look). Answers t (LegalFor shape) p y (Looks s (seen_of x))) (sym (q ∙ ap (look_answer s) f)) (look_fits t (LegalFor shape) y a.book p st.book some s (some_not s lt)),
  subst (λ x. Stands t shape y x p) (sym (i ∙ ap (λ (x : Words). record a { book = x }) e)) st,
)

-- a call of the Table
call_made : {H : Type 0} (acts : Acting H) (t : Terms) (shape : Shape) (y : ActorId) (call : Call) (row found : List Value) (placed : Placed) (a b : Around H Words PlainTable PlainWords) (p : Ports) → Stands t shape y a p → IsMade (plain_rules acts) (Called call row found (Ok placed)) a b → Answers t (LegalFor shape) p y (Tables placed.at (call, (placed.reply, cells_of placed.reply found))) × Stands t shape y b (ported t p y (Tables placed.at (call, (placed.reply, cells_of placed.reply found))))
call_made acts t shape y call row found placed a b p st (w, i) =
    let z = placed_fits t shape y a.shelf p st.table st.legal call b.shelf row found placed w in
    let c : cells_of placed.reply found ≡ (TStep (shape_of a.shelf) a.shelf.state call).cells = ap (λ (x : Placed). cells_of x.reply found) w.1 ∙ ap (cells_of (TStep (shape_of a.shelf) a.shelf.state call).reply) w.3 ∙ cells_are (shape_of a.shelf) a.shelf.state call row in
    subst (λ (x : List Value). Answers t (LegalFor shape) p y (Tables placed.at (call, (placed.reply, x))) × Stands t shape y b (ported t p y (Tables placed.at (call, (placed.reply, x))))) (sym c) (
      z.0,
      subst (λ x. Stands t shape y x (ported t p y (Tables placed.at (ran_of a.shelf call placed.reply)))) (sym i) (record {
        book = record { slots = st.book.slots; last = st.book.last };
        board = moved st.board;
        table = z.1;
        legal = z.0.2;
        turn = st.turn;
        counts = st.counts;
      }),
    )
  where
    moved : BoardStands t a.board p → BoardStands t a.board (ported t p y (Tables placed.at (ran_of a.shelf call placed.reply)))
    moved k = record { workers = k.workers; taskers = k.taskers; actors = k.actors; marks = k.marks; words = k.words; stopped = k.stopped; worker = k.worker; tasker = k.tasker; counts = k.counts }

refusal_made : {H : Type 0} (acts : Acting H) (t : Terms) (shape : Shape) (y : ActorId) (call : Call) (row found : List Value) (fault : CallFault) (a b : Around H Words PlainTable PlainWords) (p : Ports) → Stands t shape y a p → IsMade (plain_rules acts) (Called call row found (Err fault)) a b → Answers t (LegalFor shape) p y (TableRefuses call fault) × Stands t shape y b p
refusal_made acts t shape y call row found fault a b p st (w, i) =
    let z = refused_fits t shape (LegalFor shape) y a.shelf p st.table call b.shelf row found fault w in
    (z.0, subst (λ x. Stands t shape y x p) (sym i) (record { book = st.book; board = st.board; table = z.1; legal = st.legal; turn = st.turn; counts = st.counts }))

-- the board: its steps leave whose turn it is
goes_turn : (xs : List BoardStep) (b d : PlainWords) → PlainGoes b xs d → d.turn ≡ b.turn
goes_turn [] b d q = ap (λ (x : PlainWords). x.turn) q
goes_turn (steps.Marked idle ∷ xs) b d h = goes_turn xs (plain_after b (steps.Marked idle)) d h.1
goes_turn (steps.Found n idle ∷ xs) b d h = goes_turn xs b d h.1
goes_turn (steps.Stopped ∷ xs) b d h = goes_turn xs (plain_after b steps.Stopped) d h.1
goes_turn (steps.SawStop set ∷ xs) b d h = goes_turn xs b d h.1
goes_turn (steps.Added c ∷ xs) b d h = goes_turn xs (plain_after b (steps.Added c)) d h.1
goes_turn (steps.Read c n k ∷ xs) b d h = goes_turn xs b d h.1

idle_turn : (n : ℕ) (b d : PlainWords) (x : Option ℕ) → FindsIdle PlainGoes b.sizes Taskers n b x d → d.turn ≡ b.turn
idle_turn n b d None h = goes_turn (found_busy (first_of Taskers b.sizes) (members Taskers b.sizes) n (members Taskers b.sizes)) b d h
idle_turn n b d (Some m) h = goes_turn (found_busy (first_of Taskers b.sizes) (members Taskers b.sizes) n h.0 ++ steps.Found (first_of Taskers b.sizes + m) true ∷ []) b d h.3

-- what stands with another board
boarded : {H : Type 0} (t : Terms) (shape : Shape) (y : ActorId) (a b : Around H Words PlainTable PlainWords) (p q : Ports) → b ≡ record a { board = b.board } → Stands t shape y (record a { board = b.board }) q → Stands t shape y b q
boarded t shape y a b p q i st = subst (λ x. Stands t shape y x q) (sym i) st

step_made : {H : Type 0} (acts : Acting H) (t : Terms) (shape : Shape) (y : ActorId) (x : BoardStep) (d : Did) (a b : Around H Words PlainTable PlainWords) (p : Ports) → IsThere t y → did_in (Stepped x) ≡ d ∷ [] → Stands t shape y a p → IsMade (plain_rules acts) (Stepped x) a b → Answers t (LegalFor shape) p y d × Stands t shape y b (ported t p y d)
step_made acts t shape y (steps.Marked idle) d a b p there q st (w, i) = subst (λ (e : Did). Answers t (LegalFor shape) p y e × Stands t shape y b (ported t p y e)) (let j : Marks idle ≡ d = cc in j) (tt, boarded t shape y a b p (ported t p y (Marks idle)) i (record { book = record { slots = st.book.slots; last = st.book.last }; board = mark_fits t a.board b.board p y idle st.board there st.turn w; table = st.table; legal = st.legal; turn = goes_turn (steps.Marked idle ∷ []) a.board b.board w ∙ st.turn; counts = st.counts }))
step_made acts t shape y steps.Stopped d a b p there q st (w, i) = subst (λ (e : Did). Answers t (LegalFor shape) p y e × Stands t shape y b (ported t p y e)) (let j : Stops ≡ d = cc in j) (tt, boarded t shape y a b p (ported t p y Stops) i (record { book = record { slots = st.book.slots; last = st.book.last }; board = stop_fits t a.board b.board p y st.board w; table = st.table; legal = st.legal; turn = goes_turn (steps.Stopped ∷ []) a.board b.board w ∙ st.turn; counts = st.counts }))
step_made acts t shape y (steps.Added c) d a b p there q st (w, i) = subst (λ (e : Did). Answers t (LegalFor shape) p y e × Stands t shape y b (ported t p y e)) (let j : Adds c ≡ d = cc in j) (tt, boarded t shape y a b p (ported t p y (Adds c)) i (record { book = record { slots = st.book.slots; last = st.book.last }; board = add_fits t a.board b.board p y c st.board there st.turn st.counts w; table = st.table; legal = st.legal; turn = goes_turn (steps.Added c ∷ []) a.board b.board w ∙ st.turn; counts = counts_more t p y c st.counts }))
step_made acts t shape y (steps.SawStop set) d a b p there q st (w, i) =
    let z = stopped_fits t (LegalFor shape) a.board b.board p y set st.board w in
    subst (λ (e : Did). Answers t (LegalFor shape) p y e × Stands t shape y b (ported t p y e)) (let j : SeesStop set ≡ d = cc in j) (z.0, boarded t shape y a b p p i (record { book = st.book; board = z.1; table = st.table; legal = st.legal; turn = goes_turn (steps.SawStop set ∷ []) a.board b.board w ∙ st.turn; counts = st.counts }))
step_made acts t shape y (steps.Found n idle) d a b p there q st (w, i) = absurd (cc)
step_made acts t shape y (steps.Read c n k) d a b p there q st (w, i) = absurd (cc)

sum_made : {H : Type 0} (acts : Acting H) (t : Terms) (shape : Shape) (y : ActorId) (c : Counter) (n : ℕ) (a b : Around H Words PlainTable PlainWords) (p : Ports) → Stands t shape y a p → IsMade (plain_rules acts) (Summed c n) a b → Answers t (LegalFor shape) p y (Sums c n) × Stands t shape y b p
sum_made acts t shape y c n a b p st ((words, l, m, w), i) =
    let z = sum_fits t (LegalFor shape) a.board b.board p y c n st.board (words, l, m, w) in
    (z.0, boarded t shape y a b p p i (record { book = st.book; board = z.1; table = st.table; legal = st.legal; turn = goes_turn (reads c words) a.board b.board w ∙ st.turn; counts = st.counts }))

idle_made : {H : Type 0} (acts : Acting H) (t : Terms) (shape : Shape) (y : ActorId) (from : ℕ) (x : Option ℕ) (a b : Around H Words PlainTable PlainWords) (p : Ports) → from < t.tasker_num → Stands t shape y a p → IsMade (plain_rules acts) (Idled from x) a b → Answers t (LegalFor shape) p y (Idles true from x) × Stands t shape y b p
idle_made acts t shape y from x a b p lt st (w, i) =
    let z = idle_fits t (LegalFor shape) a.board b.board p y Taskers from x st.board (subst (λ n. from < n) (sym st.board.taskers) lt) w in
    (z.0, boarded t shape y a b p p i (record { book = st.book; board = z.1; table = st.table; legal = st.legal; turn = idle_turn from a.board b.board x w ∙ st.turn; counts = st.counts }))

-- a handler has no part in the ports
gave_made : {H : Type 0} (t : Terms) (shape : Shape) (y : ActorId) (a b : Around H Words PlainTable PlainWords) (p : Ports) → b ≡ record a { handler = b.handler } → Stands t shape y a p → Stands t shape y b p
gave_made t shape y a b p i st = subst (λ x. Stands t shape y x p) (sym i) (record { book = st.book; board = st.board; table = st.table; legal = st.legal; turn = st.turn; counts = st.counts })

-- all calls, one after the other
abbrev pub Answered : {H : Type 0} → Terms → Shape → ActorId → List Did → Around H Words PlainTable PlainWords → Ports → Type 0
Answered t shape y ds b p = AllAnswer t (LegalFor shape) p y ds × Stands t shape y b (all_ported t p y ds)

pub calls_answered : {H : Type 0} (acts : Acting H) (t : Terms) (shape : Shape) (y : ActorId) (calls : List PortCall) (a b : Around H Words PlainTable PlainWords) (p : Ports) → 1 ≤ t.max_conn → IsThere t y → Each (IsSound t) (collect did_in calls) → Stands t shape y a p → AreMade (plain_rules acts) calls a b → Answered t shape y (collect did_in calls) b p
calls_answered acts t shape y [] a b p some there ok st made = (tt, subst (λ x. Stands t shape y x p) (sym made) st)
calls_answered acts t shape y (Gave g act ∷ xs) a b p some there ok st (m, (w, rest)) = calls_answered acts t shape y xs m b p some there ok (gave_made t shape y a m p w.1 st) rest
calls_answered acts t shape y (Starved g ∷ xs) a b p some there ok st (m, (w, rest)) = calls_answered acts t shape y xs m b p some there ok (gave_made t shape y a m p w st) rest
calls_answered acts t shape y (Looked s look ∷ xs) a b p some there ok st (m, (w, rest)) =
    let z = look_made acts t shape y s look a m p some ok.0 st w in
    let r = calls_answered acts t shape y xs m b p some there ok.1 z.1 rest in
    ((z.0, r.0), r.1)
calls_answered acts t shape y (Bound s u x ∷ xs) a b p some there ok st (m, (w, rest)) =
    let z = bind_made acts t shape y s u x a m p some ok.0 st w in
    let r = calls_answered acts t shape y xs m b (ported t p y (Binds s u (bind_got x))) some there ok.1 z.1 rest in
    ((z.0, r.0), r.1)
calls_answered acts t shape y (Called call row found (Ok placed) ∷ xs) a b p some there ok st (m, (w, rest)) =
    let z = call_made acts t shape y call row found placed a m p st w in
    let r = calls_answered acts t shape y xs m b (ported t p y (Tables placed.at (call, (placed.reply, cells_of placed.reply found)))) some there ok.1 z.1 rest in
    ((z.0, r.0), r.1)
calls_answered acts t shape y (Called call row found (Err fault) ∷ xs) a b p some there ok st (m, (w, rest)) =
    let z = refusal_made acts t shape y call row found fault a m p st w in
    let r = calls_answered acts t shape y xs m b p some there ok.1 z.1 rest in
    ((z.0, r.0), r.1)
calls_answered acts t shape y (Idled from x ∷ xs) a b p some there ok st (m, (w, rest)) =
    let z = idle_made acts t shape y from x a m p ok.0 st w in
    let r = calls_answered acts t shape y xs m b p some there ok.1 z.1 rest in
    ((z.0, r.0), r.1)
calls_answered acts t shape y (Summed c n ∷ xs) a b p some there ok st (m, (w, rest)) =
    let z = sum_made acts t shape y c n a m p st w in
    let r = calls_answered acts t shape y xs m b p some there ok.1 z.1 rest in
    ((z.0, r.0), r.1)
calls_answered acts t shape y (Stepped (steps.Marked idle) ∷ xs) a b p some there ok st (m, (w, rest)) =
    let z = step_made acts t shape y (steps.Marked idle) (Marks idle) a m p there refl st w in
    let r = calls_answered acts t shape y xs m b (ported t p y (Marks idle)) some there ok.1 z.1 rest in
    ((z.0, r.0), r.1)
calls_answered acts t shape y (Stepped steps.Stopped ∷ xs) a b p some there ok st (m, (w, rest)) =
    let z = step_made acts t shape y steps.Stopped (Stops) a m p there refl st w in
    let r = calls_answered acts t shape y xs m b (ported t p y (Stops)) some there ok.1 z.1 rest in
    ((z.0, r.0), r.1)
calls_answered acts t shape y (Stepped (steps.Added c) ∷ xs) a b p some there ok st (m, (w, rest)) =
    let z = step_made acts t shape y (steps.Added c) (Adds c) a m p there refl st w in
    let r = calls_answered acts t shape y xs m b (ported t p y (Adds c)) some there ok.1 z.1 rest in
    ((z.0, r.0), r.1)
calls_answered acts t shape y (Stepped (steps.SawStop set) ∷ xs) a b p some there ok st (m, (w, rest)) =
    let z = step_made acts t shape y (steps.SawStop set) (SeesStop set) a m p there refl st w in
    let r = calls_answered acts t shape y xs m b (ported t p y (SeesStop set)) some there ok.1 z.1 rest in
    ((z.0, r.0), r.1)
calls_answered acts t shape y (Stepped (steps.Found n idle) ∷ xs) a b p some there ok st (m, (w, rest)) =
    calls_answered acts t shape y xs m b p some there ok (boarded t shape y a m p p w.1 (record { book = st.book; board = same_board a.board m.board st.board w.0.1; table = st.table; legal = st.legal; turn = goes_turn (steps.Found n idle ∷ []) a.board m.board w.0 ∙ st.turn; counts = st.counts })) rest
  where
    same_board : (o r : PlainWords) → BoardStands t o p → r ≡ o → BoardStands t r p
    same_board o r k q = subst (λ (x : PlainWords). BoardStands t x p) (sym q) k
calls_answered acts t shape y (Stepped (steps.Read c n k) ∷ xs) a b p some there ok st (m, (w, rest)) =
    calls_answered acts t shape y xs m b p some there ok (boarded t shape y a m p p w.1 (record { book = st.book; board = same_board a.board m.board st.board w.0.1; table = st.table; legal = st.legal; turn = goes_turn (steps.Read c n k ∷ []) a.board m.board w.0 ∙ st.turn; counts = st.counts })) rest
  where
    same_board : (o r : PlainWords) → BoardStands t o p → r ≡ o → BoardStands t r p
    same_board o r k q = subst (λ (x : PlainWords). BoardStands t x p) (sym q) k
