-- What a serve comes to, in the code and in the table: an event is pushed, something moved, nothing did, or a connection left.
use Rattle.std.proofs.Common.{◌≡◌, ℕ, ◌+◌, ◌-◌, ◌<◌, ◌%◌, ◌^◌, Bool, true, false, nat_lt, if◌then◌else◌, List, [], ◌∷◌, ◌++◌, length, remove, Option, Some, None, refl, ap, ◌∙◌, sym, subst, append-nil, arith}
use Rattle.std.proofs.lemmas.Bool.Decides.{nat_tests}
use Rattle.std.specs.Bool.{MatchBool}
use Rattle.sw_data.specs.declared.messages.Ask.TheVariants as ask
use Rattle.sw_link.specs.declared.link.LinkWrite.{LinkWrite}
use Rattle.sw_link.specs.declared.link.LinkWrite.TheVariants as writing
use Rattle.sw_conn.specs.declared.conn.Conn.{Conn}
use Rattle.sw_conn.specs.Conn as conn
use Rattle.sw_record.specs.Words.{Event, Connect, Packet, Closed, Finish, Task}
use Rattle.sw_record.specs.Terms.{Terms}
use Rattle.sw_record.specs.declared.record.LinkRecord.{LinkRecord}
use Rattle.sw_past.specs.Messages.{EventMsg}
use Rattle.sw_reactor_table.specs.Conn.{Conn as Row}
use Rattle.sw_reactor_table.specs.Reactor.{Reactor as Table, Push, Nothing, turned}
use Rattle.sw_reactor_table.specs.Reactor as tables
use Rattle.sw_reactor_table.specs.Quiet.{IsOf}
use Rattle.sw_conn_fits.specs.Shown.{settings, some_write}
use Rattle.sw_reactor.specs.declared.reactor.Asked.{Asked}
use Rattle.sw_reactor.specs.declared.reactor.Asked.TheVariants as asks
use Rattle.sw_reactor.specs.declared.reactor.Reactor.{Reactor}
use Rattle.sw_reactor.specs.Turn.{Asks, behind_at, moved, stayed, rests, rest_by, wrote_some, Stays, session_in, session_at, Pushes}
use Rattle.sw_reactor.specs.Leave.{at_left, left}
use Rattle.sw_reactor_fits.specs.Told.{Telling}
use Rattle.sw_reactor_fits.specs.Fits.{IsRow, AreRows, capped, session_of_event, WasAsked, AsksSame, Same}
use Rattle.sw_reactor_fits.proofs.Rows.{rows_length, rows_append, get_behind, remove_behind}
use Rattle.sw_reactor_fits.proofs.Settled.{up_capped}
use Rattle.sw_reactor_fits.proofs.Chosen.{IsTurn, Here, placed, left_last, left_more}

-- the code once its connection is in its place, before it goes on
pub record Now {L K : Type 0} (t : Terms) (x : Reactor L K) (s : Table) (before : List (Conn L K)) (one : Conn L K) (behind : List (Conn L K)) (n : ℕ) : Type 0 where
  pub terms : x.terms ≡ settings t
  pub framing : x.framing ≡ t.framing
  pub conns : x.line.conns ≡ before ++ one ∷ behind
  pub at : x.at ≡ length before
  pub empty : x.empty ≡ s.empty
  pub still : x.still ≡ capped s.still
  pub ends : x.ends ≡ capped s.ends
  pub given : x.given ≡ s.given
  pub turn : x.turn ≡ n % t.worker_num

here_of : {L K : Type 0} (t : Terms) (x q : Reactor L K) (s : Table) (before : List (Conn L K)) (one : Conn L K) (behind : List (Conn L K)) (n st : ℕ) (k : Asked) (m : ℕ) → Now t x s before one behind n → q ≡ record x { at = behind_at x.at (length x.line.conns); still = m; asked = k } → m ≡ capped st → Here t q s before one behind st n
here_of {L} {K} t x q s before one behind n st k m h e f =
    record {
      terms = ap (λ (y : Reactor L K). y.terms) e ∙ h.terms;
      framing = ap (λ (y : Reactor L K). y.framing) e ∙ h.framing;
      conns = ap (λ (y : Reactor L K). y.line.conns) e ∙ h.conns;
      at = ap (λ (y : Reactor L K). y.at) e ∙ ap (λ (j : ℕ). behind_at j (length x.line.conns)) h.at ∙ ap (λ (cs : List (Conn L K)). behind_at (length before) (length cs)) h.conns;
      empty = ap (λ (y : Reactor L K). y.empty) e ∙ h.empty;
      still_is = ap (λ (y : Reactor L K). y.still) e ∙ f;
      ends = ap (λ (y : Reactor L K). y.ends) e ∙ h.ends;
      given = ap (λ (y : Reactor L K). y.given) e ∙ h.given;
      turn = ap (λ (y : Reactor L K). y.turn) e ∙ h.turn;
    }

-- an event is pushed
of_event : (n : ℕ) (e : Event) → IsOf n e → session_of_event e ≡ n
of_event n (Connect u) h = h
of_event n (Packet u i b) h = h
of_event n (Closed u) h = h
of_event n (Finish id b) h = absurd h
of_event n (Task w id b) h = absurd h

own_of : (n : ℕ) (e : Event) → IsOf n e → IsOf (session_of_event e) e
own_of n (Connect u) h = refl
own_of n (Packet u i b) h = refl
own_of n (Closed u) h = refl
own_of n (Finish id b) h = absurd h
own_of n (Task w id b) h = absurd h

pub push_turn : {L K : Type 0} (view : Telling L K) (t : Terms) (x q : Reactor L K) (s : Table) (before : List (Conn L K)) (one : Conn L K) (behind : List (Conn L K)) (row : Row) (es : List Row) (w : ℕ) (e : Event) (n : ℕ) (a : Asks L K) → Now t x s before one behind n → AreRows view t before s.done → IsRow view t one row → AreRows view t behind es → IsOf row.session e → Pushes w e x a q → IsTurn view t q a (record (turned (s.done ++ row ∷ []) es (record s { round = n })) { last = Push w (EventMsg e); still = 0 })
push_turn {L} {K} view t x q s before one behind row es w e n a h pre r post own (p, z) =
    record {
      fits = record {
        same = placed view t q s before one behind row es (Push w (EventMsg e)) 0 n (here_of t x q s before one behind n 0 (asks.Event w (session_at x.line.conns x.at) (conn.kind_of e)) 0 h z refl) pre r post;
        was = (ap (λ (y : Reactor L K). y.asked) z ∙ ap (λ (u : ℕ). asks.Event w u (conn.kind_of e)) here, own_of row.session e own);
      };
      asks = p;
    }
  where
    here : session_at x.line.conns x.at ≡ session_of_event e
    here =
        ap (λ (cs : List (Conn L K)). session_at cs x.at) h.conns ∙ ap (session_at (before ++ one ∷ behind)) h.at ∙ ap session_in (get_behind before one behind)
        ∙ sym (ap (λ (y : Row). y.session) r.0) ∙ sym (of_event row.session e own)

-- something moved
pub move_turn : {L K : Type 0} (view : Telling L K) (t : Terms) (x q : Reactor L K) (s : Table) (before : List (Conn L K)) (one : Conn L K) (behind : List (Conn L K)) (row : Row) (es : List Row) (n : ℕ) (a : Asks L K) → Now t x s before one behind n → AreRows view t before s.done → IsRow view t one row → AreRows view t behind es → a ≡ ask.Nothing → q ≡ moved x → IsTurn view t q a (record (turned (s.done ++ row ∷ []) es (record s { round = n })) { last = Nothing; still = 0 })
move_turn {L} {K} view t x q s before one behind row es n a h pre r post p z =
    record { fits = record { same = placed view t q s before one behind row es Nothing 0 n (here_of t x q s before one behind n 0 asks.Nothing 0 h z refl) pre r post; was = ap (λ (y : Reactor L K). y.asked) z }; asks = p }

-- nothing did
stayed_is : (done es : List Row) (s : Table) (k : ℕ) → tables.stayed k (turned done es s) ≡ record (turned done es s) { last = tables.rest_by (if s.empty then (if nat_lt (s.still + 1) k then false else true) else false); still = s.still + 1 }
stayed_is done [] s k = refl
stayed_is done (e ∷ es) s k = refl

capped_less : (m n : ℕ) → n < 2 ^ 64 → nat_lt (capped m) n ≡ nat_lt m n
capped_less m n lt = pick (nat_lt m (2 ^ 64 - 1)) refl
  where
    pick : (b : Bool) → nat_lt m (2 ^ 64 - 1) ≡ b → nat_lt (if b then m else 2 ^ 64 - 1) n ≡ nat_lt m n
    pick true e = refl
    pick false e = left ∙ sym right
      where
        left : nat_lt (2 ^ 64 - 1) n ≡ false
        left = grind (arith, nat_tests)

        right : nat_lt m n ≡ false
        right = grind (arith, nat_tests)

some_is : (wrote : Option LinkWrite) → wrote_some wrote ≡ some_write wrote
some_is None = refl
some_is (Some (writing.Took k)) = refl
some_is (Some writing.NotYet) = refl
some_is (Some writing.Failed) = refl

asks_rest : {L K : Type 0} (b : Bool) (a : Asks L K) → a ≡ rest_by b → AsksSame (tables.rest_by b) a
asks_rest true a e = e
asks_rest false a e = e

was_rest : (t : Terms) (given : ℕ) (b : Bool) (k : Asked) → k ≡ asks.Nothing → WasAsked t given (tables.rest_by b) k
was_rest t given true k e = e
was_rest t given false k e = e

pub stay_turn : {L K : Type 0} (view : Telling L K) (t : Terms) (x q : Reactor L K) (s : Table) (before : List (Conn L K)) (one : Conn L K) (behind : List (Conn L K)) (row : Row) (es : List Row) (n : ℕ) (a : Asks L K) (wrote : Option LinkWrite) → Now t x s before one behind n → AreRows view t before s.done → IsRow view t one row → AreRows view t behind es → length (s.done ++ row ∷ es) < 2 ^ 64 → Stays wrote x a q → IsTurn view t q a (if some_write wrote then record (turned (s.done ++ row ∷ []) es (record s { round = n })) { last = Nothing; still = 0 } else tables.stayed (length (s.done ++ row ∷ es)) (turned (s.done ++ row ∷ []) es (record s { round = n })))
stay_turn {L} {K} view t x q s before one behind row es n a wrote h pre r post few z = pick (some_write wrote) (subst (λ (b : Bool). MatchBool b ((a ≡ ask.Nothing) × (q ≡ moved x)) ((a ≡ rest_by (rests x)) × (q ≡ stayed x))) (some_is wrote) z)
  where
    size : length x.line.conns ≡ length (s.done ++ row ∷ es)
    size = ap length h.conns ∙ rows_length view t (before ++ one ∷ behind) (s.done ++ row ∷ es) (rows_append view t before (one ∷ behind) s.done (row ∷ es) pre (r, post))

    up : conn.up x.still ≡ capped (s.still + 1)
    up = ap conn.up h.still ∙ up_capped s.still

    rest : rests x ≡ (if s.empty then (if nat_lt (s.still + 1) (length (s.done ++ row ∷ es)) then false else true) else false)
    rest = ap (λ (b : Bool). if b then (if nat_lt (conn.up x.still) (length x.line.conns) then false else true) else false) h.empty ∙ ap (λ (b : Bool). if s.empty then (if b then false else true) else false) (ap (λ (m : ℕ). nat_lt m (length x.line.conns)) up ∙ ap (nat_lt (capped (s.still + 1))) size ∙ capped_less (s.still + 1) (length (s.done ++ row ∷ es)) few)

    pick : (b : Bool) → MatchBool b ((a ≡ ask.Nothing) × (q ≡ moved x)) ((a ≡ rest_by (rests x)) × (q ≡ stayed x)) → IsTurn view t q a (if b then record (turned (s.done ++ row ∷ []) es (record s { round = n })) { last = Nothing; still = 0 } else tables.stayed (length (s.done ++ row ∷ es)) (turned (s.done ++ row ∷ []) es (record s { round = n })))
    pick true y = move_turn view t x q s before one behind row es n a h pre r post y.0 y.1
    pick false y =
        (let b : Bool = (if s.empty then (if nat_lt (s.still + 1) (length (s.done ++ row ∷ es)) then false else true) else false) in
        subst (IsTurn view t q a) (sym (stayed_is (s.done ++ row ∷ []) es (record s { round = n }) (length (s.done ++ row ∷ es))))
        (record {
          fits = record {
            same = placed view t q s before one behind row es (tables.rest_by b) (s.still + 1) n (here_of t x q s before one behind n (s.still + 1) asks.Nothing (conn.up x.still) h y.1 up) pre r post;
            was = was_rest t _ b q.asked (ap (λ (w : Reactor L K). w.asked) y.1);
          };
          asks = asks_rest b a (y.0 ∙ ap (λ (c : Bool). rest_by c) rest);
        }))

-- one left
pub left_turn : {L K : Type 0} (view : Telling L K) (t : Terms) (x q : Reactor L K) (s : Table) (before : List (Conn L K)) (one : Conn L K) (behind : List (Conn L K)) (es : List Row) (over : List LinkRecord) (n : ℕ) (a : Asks L K) (kept : Bool) → Now t x s before one behind n → AreRows view t before s.done → AreRows view t behind es → a ≡ ask.Nothing → q ≡ left kept x → IsTurn view t q a (record (turned s.done es (record s { round = n })) { over = over; last = Nothing; still = 0 })
left_turn {L} {K} view t x q s before one behind es over n a kept h pre post p z = record { fits = record { same = by behind es post conns at; was = ap (λ (y : Reactor L K). y.asked) z }; asks = p }
  where
    gone : remove x.line.conns x.at ≡ before ++ behind
    gone = ap (λ (cs : List (Conn L K)). remove cs x.at) h.conns ∙ ap (remove (before ++ one ∷ behind)) h.at ∙ remove_behind before one behind

    conns : q.line.conns ≡ before ++ behind
    conns = ap (λ (y : Reactor L K). y.line.conns) z ∙ gone

    at : q.at ≡ at_left (length before) (length (before ++ behind))
    at = ap (λ (y : Reactor L K). y.at) z ∙ ap (λ (j : ℕ). at_left j (length (remove x.line.conns x.at))) h.at ∙ ap (λ (cs : List (Conn L K)). at_left (length before) (length cs)) gone

    terms : q.terms ≡ settings t
    terms = ap (λ (y : Reactor L K). y.terms) z ∙ h.terms

    by : (cs : List (Conn L K)) (ds : List Row) → AreRows view t cs ds → q.line.conns ≡ before ++ cs → q.at ≡ at_left (length before) (length (before ++ cs)) → Same view t q (record (turned s.done ds (record s { round = n })) { over = over; last = Nothing; still = 0 })
    by [] [] g e f =
        record {
          terms = terms;
          framing = ap (λ (y : Reactor L K). y.framing) z ∙ h.framing;
          rows = subst (λ (zs : List (Conn L K)). AreRows view t zs s.done) (sym (e ∙ append-nil before)) pre;
          at = f ∙ left_last before;
          tight = λ w. refl;
          empty = ap (λ (y : Reactor L K). y.empty) z ∙ h.empty;
          still = ap (λ (y : Reactor L K). y.still) z;
          ends = ap (λ (y : Reactor L K). y.ends) z ∙ h.ends;
          given = ap (λ (y : Reactor L K). y.given) z ∙ h.given;
          turn = ap (λ (y : Reactor L K). y.turn) z ∙ h.turn;
        }
    by [] (d ∷ ds) g e f = absurd g
    by (c ∷ cs) [] g e f = absurd g
    by (c ∷ cs) (d ∷ ds) g e f =
        record {
          terms = terms;
          framing = ap (λ (y : Reactor L K). y.framing) z ∙ h.framing;
          rows = subst (λ (zs : List (Conn L K)). AreRows view t zs (s.done ++ d ∷ ds)) (sym e) (rows_append view t before (c ∷ cs) s.done (d ∷ ds) pre g);
          at = f ∙ left_more before c cs ∙ rows_length view t before s.done pre;
          tight = λ w. absurd (cc);
          empty = ap (λ (y : Reactor L K). y.empty) z ∙ h.empty;
          still = ap (λ (y : Reactor L K). y.still) z;
          ends = ap (λ (y : Reactor L K). y.ends) z ∙ h.ends;
          given = ap (λ (y : Reactor L K). y.given) z ∙ h.given;
          turn = ap (λ (y : Reactor L K). y.turn) z ∙ h.turn;
        }
