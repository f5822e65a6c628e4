-- A serve of the code is the table's serve.
use Rattle.std.proofs.Common.{◌≡◌, ℕ, ◌+◌, ◌<◌, ◌%◌, ◌^◌, ◌==◌, Bool, true, false, if◌then◌else◌, List, [], ◌∷◌, ◌++◌, length, slice_get, Option, Some, None, IfSome, refl, ap, ◌∙◌, sym, subst, inl, inr, arith, suc, mod-lt}
use Rattle.std.proofs.Math.Nat.{mod-mod}
use Rattle.sw_port_board.specs.declared.crew.Sizes.{Sizes as Crews}
use Rattle.sw_port_board.specs.declared.board.BoardStep.TheVariants as board
use Rattle.std.specs.Bool.{MatchBool}
use Rattle.sw_data.specs.declared.ended.Cause.{Cause}
use Rattle.sw_data.specs.declared.ended.Ended.{Ended}
use Rattle.sw_data.specs.declared.messages.Ask.TheVariants as ask
use Rattle.sw_data.specs.Targets.{round_target}
use Rattle.sw_link.specs.declared.link.LinkRead.{LinkRead}
use Rattle.sw_link.specs.declared.link.LinkRead.TheVariants as reading
use Rattle.sw_link.specs.declared.link.LinkWrite.{LinkWrite}
use Rattle.sw_link.specs.Reads.{Read, GotPiece, ReadNotYet, ReadEnd, ReadFailed, read_of}
use Rattle.sw_port_board.specs.declared.board.BoardStep.{BoardStep}
use Rattle.sw_port_board.specs.declared.crew.Crew.TheVariants.{Workers}
use Rattle.sw_port_board.specs.Board.{members, FindsIdle}
use Rattle.sw_port_book.specs.declared.answers.Look.{Look}
use Rattle.sw_port_book.specs.Answers.{Looks as LooksBy}
use Rattle.sw_port_book.specs.declared.answers.Look.TheVariants as looking
use Rattle.sw_lists.proofs.Lists.{eq_other, length_append}
use Rattle.sw_conn.specs.declared.conn.Conn.{Conn}
use Rattle.sw_conn.specs.declared.terms.Terms.{Terms as Settings}
use Rattle.sw_conn.specs.declared.serve.Step.{Step}
use Rattle.sw_conn.specs.declared.serve.Step.TheVariants as steps
use Rattle.sw_conn.specs.Causes.{is_packet_event}
use Rattle.sw_conn.specs.Modes.{keeps}
use Rattle.sw_conn.specs.Conn as conn
use Rattle.sw_conn.specs.Serve.{FlushedBy, Chooses, ReadsBy}
use Rattle.sw_record.specs.Words.{Event, Connect, Packet, Closed, Finish, Task}
use Rattle.sw_record.specs.Terms.{Terms}
use Rattle.sw_record.specs.declared.record.LinkRecord.{LinkRecord}
use Rattle.sw_past.specs.Messages.{EventMsg}
use Rattle.sw_reactor_table.specs.Conn.{Conn as Row, Answers, Served, Pushes, Moves, Stays, Leaves, serve, pushes, plain, read_by, over_link}
use Rattle.sw_reactor_table.specs.Conn as table
use Rattle.sw_reactor_table.specs.Reactor as tables
use Rattle.sw_reactor_table.specs.Reactor.{Reactor as Table, Push, Nothing, turned, served_by, serves, counted}
use Rattle.sw_reactor_table.specs.Quiet.{IsOf, IsIdle}
use Rattle.sw_conn_fits.specs.Shown.{settings, shown, IsCut, write_of, written_by, pieces_by, some_write, IsStep, IsServed}
use Rattle.sw_conn_fits.proofs.Conn.{served_is, shown_moved, shown_sees, shown_read, cut_read, shown_home, shown_side}
use Rattle.sw_reactor.specs.declared.reactor.Reactor.{Reactor}
use Rattle.sw_reactor.specs.Line.{Lined, At, AtLine}
use Rattle.sw_reactor.specs.Turn as code
use Rattle.sw_reactor.specs.Aims.{uid_of, AimsSide, AimsIdle, AfterRead, ReadsMore}
use Rattle.sw_reactor.specs.Aims as aims
use Rattle.sw_reactor.specs.Leave as leave
use Rattle.sw_reactor.specs.Serving.{Ports, Aims, Tells, Steps, ServesNext}
use Rattle.sw_reactor.specs.Serving as serving
use Rattle.sw_reactor_fits.specs.Fits.{IsRow, AreRows, Same, Sizes, Bounds}
use Rattle.sw_world_ports.specs.Calls.{Seen, Did, Looks, Idles, Frees, Adds}
use Rattle.sw_record.specs.Words.{EndedCount}
use Rattle.sw_reactor_fits.specs.Told.{Telling, IsCauseTold, TellsOf, DoTell}
use Rattle.sw_world_reactor.specs.Calls.{uid_seen, AimCalls, DoesCalls, ServeCalls}
use Rattle.sw_reactor_fits.specs.Ports.{seen_of, DidsGo, EndsGo, AreSound}
use Rattle.sw_reactor_fits.proofs.Telling.{own_then, flush_tells, flush_keyed, Chose, chose, chose_tells, again_held, tell_held, tidied_held, read_tells}
use Rattle.sw_reactor_fits.proofs.Rows.{rows_length, IsSplit, rows_split, get_behind, at_behind}
use Rattle.sw_reactor_fits.proofs.Settled.{row_by, row_tells}
use Rattle.sw_reactor_fits.proofs.Chosen.{IsTurn, next_mod}
use Rattle.sw_world_reactor.proofs.Sessions.{looked_session, serve_session}
use Rattle.sw_reactor_fits.proofs.Turns.{Now, push_turn, move_turn, stay_turn, left_turn}

-- a serve with these answers, of this connection behind these, in the table
abbrev pub Goes : {L K : Type 0} → Telling L K → Terms → Reactor L K → code.Asks L K → Table → Row → List Row → Answers → Type 0
Goes view t q a s d es ans = IsTurn view t q a (serves t ans (d ∷ es) s)

-- by what the serve comes to
by_served : {L K : Type 0} (view : Telling L K) (t : Terms) (q : Reactor L K) (a : code.Asks L K) (s : Table) (d : Row) (es : List Row) (ans : Answers) (moved : Bool) (v : Served) → serve t ans s.round d ≡ v → table.writes ans.write d ≡ moved → IsTurn view t q a (served_by t ans moved es v.conn v.does (record s { round = counted v.cuts s.round })) → Goes view t q a s d es ans
by_served view t q a s d es ans moved v e f h =
    subst (λ (b : Bool). IsTurn view t q a (served_by t ans b es (serve t ans s.round d).conn (serve t ans s.round d).does (record s { round = counted (serve t ans s.round d).cuts s.round }))) (sym f)
    (subst (λ (x : Served). IsTurn view t q a (served_by t ans moved es x.conn x.does (record s { round = counted x.cuts s.round }))) (sym e) h)

-- what the links that ended are then
over_by : (t : Terms) (s : Table) (d : Row) (es : List Row) (ans : Answers) (moved : Bool) (v : Served) → serve t ans s.round d ≡ v → table.writes ans.write d ≡ moved → (serves t ans (d ∷ es) s).over ≡ (served_by t ans moved es v.conn v.does (record s { round = counted v.cuts s.round })).over
over_by t s d es ans moved v e f =
    ap (λ (b : Bool). (served_by t ans b es (serve t ans s.round d).conn (serve t ans s.round d).does (record s { round = counted (serve t ans s.round d).cuts s.round })).over) f
    ∙ ap (λ (x : Served). (served_by t ans moved es x.conn x.does (record s { round = counted x.cuts s.round })).over) e

-- the line behind a change of its connection
line_now : {L K : Type 0} (view : Telling L K) (t : Terms) (r : Reactor L K) (s : Table) (m : Lined L K) (before : List (Conn L K)) (one : Conn L K) (behind : List (Conn L K)) → Same view t r s → r.at ≡ length before → m.conns ≡ before ++ one ∷ behind → Now t (record r { line = m }) s before one behind s.round
line_now view t r s m before one behind h e f = record { terms = h.terms; framing = h.framing; conns = f; at = e; empty = h.empty; still = h.still; ends = h.ends; given = h.given; turn = h.turn }

line_at : {L K : Type 0} (l m : Lined L K) (at : ℕ) (P : Conn L K → Conn L K → Type 0) (before : List (Conn L K)) (one : Conn L K) (behind : List (Conn L K)) → l.conns ≡ before ++ one ∷ behind → at ≡ length before → AtLine l at P m → (z : Conn L K) × (P one z × (m.conns ≡ before ++ z ∷ behind))
line_at {L} {K} l m at P before one behind e f h = at_behind before one behind m.conns P (subst (λ (k : ℕ). At (before ++ one ∷ behind) k P m.conns) f (subst (λ (cs : List (Conn L K)). At cs at P m.conns) e h.0))

-- where an event goes
pub record IsAimed {L K B C E : Type 0} (view : Telling L K) (p : Ports L K B C E) (t : Terms) (s : Table) (before : List (Conn L K)) (behind : List (Conn L K)) (x : Row) (n : ℕ) (w : ℕ) (m : Reactor L K) (b d : B) (o u : C) : Type 0 where
  pub look : ℕ
  pub idle : Option ℕ
  pub one : Conn L K
  pub now : Now t m s before one behind n
  pub row : (a : Answers) → a.look ≡ look → IsRow view t one (table.looked t a x)
  pub place : (a : Answers) → a.look ≡ look → a.idle ≡ idle → table.place t a n (table.looked t a x) ≡ w
  pub below : (j : ℕ) → idle ≡ Some j → j < t.worker_num
  pub dids : List Did
  pub calls : (a : Answers) → a.look ≡ look → a.idle ≡ idle → AimCalls t a n x.session dids
  pub went : DidsGo p dids b o d u

keeps_five : (m : ℕ) → keeps m ≡ true → (m == 5) ≡ false
keeps_five m e = eq_other m 5 (λ q. absurd (let k : keeps 5 ≡ true = subst (λ (i : ℕ). keeps i ≡ true) q e in cc))

not_looked : (t : Terms) (a : Answers) (x : Row) → (t.mode == 5) ≡ false → table.looked t a x ≡ x
not_looked t a x e = ap (λ (b : Bool). if b then table.sees a.look x else x) e

side_place : (t : Terms) (a : Answers) (k : ℕ) (x : Row) → keeps t.mode ≡ false → (t.mode == 5) ≡ false → table.place t a k x ≡ table.round_for t a.idle k
side_place t a k x e f = rw (e, f) refl

-- which calls an aim makes, by the mode
home_calls : (t : Terms) (a : Answers) (k s : ℕ) → keeps t.mode ≡ true → a.look ≡ 0 → AimCalls t a k s []
home_calls t a k s e l = rw e (l, refl)

look_calls : (t : Terms) (a : Answers) (k s : ℕ) (x : Seen) → keeps t.mode ≡ false → (t.mode == 5) ≡ true → a.look ≡ uid_seen x → AimCalls t a k s (Looks s x ∷ [])
look_calls t a k s x e f l = rw (e, f) (x, (l, refl))

idle_calls : (t : Terms) (a : Answers) (k s : ℕ) → keeps t.mode ≡ false → (t.mode == 5) ≡ false → (t.mode == 3) ≡ true → a.look ≡ 0 → AimCalls t a k s (Idles false (k % t.worker_num) a.idle ∷ [])
idle_calls t a k s e f g l = rw (e, f, g) (l, refl)

round_calls : (t : Terms) (a : Answers) (k s : ℕ) → keeps t.mode ≡ false → (t.mode == 5) ≡ false → (t.mode == 3) ≡ false → a.look ≡ 0 → AimCalls t a k s []
round_calls t a k s e f g l = rw (e, f, g) (l, refl)

seen_uid : (look : Look) → uid_of look ≡ uid_seen (seen_of look)
seen_uid (looking.Live u) = refl
seen_uid (looking.Other n) = refl

-- an idle worker that is found is one of the crew
idle_below : {C : Type 0} (goes : C → List BoardStep → C → Type 0) (z : Crews) (w from : ℕ) (o u : C) (j : ℕ) → members Workers z ≡ w → FindsIdle goes z Workers from o (Some j) u → j < w
idle_below goes z w from o u j e (n, lt, is, went) =
    (let some : 0 < members Workers z = omega (arith, lt) in
    subst (λ (k : ℕ). j < k) e (subst (λ (k : ℕ). k < members Workers z) (sym is) (mod-lt (from + n) some)))

aimed_is : {L K B C E : Type 0} (view : Telling L K) (p : Ports L K B C E) (t : Terms) (s : Table) (r m : Reactor L K) (before : List (Conn L K)) (one : Conn L K) (behind : List (Conn L K)) (x : Row) (n w : ℕ) (b d : B) (o u : C) → members Workers (p.sizes o) ≡ t.worker_num → Now t r s before one behind n → IsRow view t one x → Aims p.looks p.goes p.sizes r b o w m d u → IsAimed view p t s before behind x n w m b d o u
aimed_is {L} {K} view p t s r m before one behind x n w b d o u crew h row z = pick (keeps t.mode) refl (t.mode == 5) refl (subst (λ (k : ℕ). MatchBool (keeps k) (IfSome (slice_get r.line.conns r.at) (λ c. w ≡ conn.home r.terms c) × (m ≡ r) × (d ≡ b) × (u ≡ o)) (MatchBool (k == 5) (AimsSide p.looks r b w m d × (u ≡ o)) (AimsIdle p.goes p.sizes r o w u × (m ≡ r) × (d ≡ b)))) (ap (λ (y : Settings). y.mode) h.terms) z)
  where
    here : slice_get r.line.conns r.at ≡ Some one
    here = ap (λ (cs : List (Conn L K)). slice_get cs r.at) h.conns ∙ ap (slice_get (before ++ one ∷ behind)) h.at ∙ get_behind before one behind

    some_here : (P : Conn L K → Type 0) → IfSome (slice_get r.line.conns r.at) P → P one
    some_here P y = subst (λ (y1 : Option (Conn L K)). IfSome y1 P) here y

    same : m ≡ r → Now t m s before one behind n
    same e = subst (λ (y : Reactor L K). Now t y s before one behind n) (sym e) h

    session : x.session ≡ one.session
    session = ap (λ (y : Row). y.session) row.0

    unlooked : (t.mode == 5) ≡ false → (a : Answers) → IsRow view t one (table.looked t a x)
    unlooked e a = subst (λ (y : Row). IsRow view t one y) (sym (not_looked t a x e)) row

    round : round_target r.turn r.terms.worker_num ≡ n % t.worker_num
    round = rw (h.turn, h.terms) (mod-mod n t.worker_num)

    pick : (k5 : Bool) → keeps t.mode ≡ k5 → (f5 : Bool) → (t.mode == 5) ≡ f5 → MatchBool k5 (IfSome (slice_get r.line.conns r.at) (λ c. w ≡ conn.home r.terms c) × (m ≡ r) × (d ≡ b) × (u ≡ o)) (MatchBool f5 (AimsSide p.looks r b w m d × (u ≡ o)) (AimsIdle p.goes p.sizes r o w u × (m ≡ r) × (d ≡ b))) → IsAimed view p t s before behind x n w m b d o u
    pick true e f5 f y =
        record {
          look = 0;
          idle = None;
          one = one;
          now = same y.1;
          row = λ a g. unlooked (keeps_five t.mode e) a;
          place = λ a g i. ap (table.place t a n) (not_looked t a x (keeps_five t.mode e) ∙ row.0) ∙ shown_home t a n x.pieces x.written x.taken one e ∙ sym (some_here (λ c. w ≡ conn.home (settings t) c) (subst (λ (k : Settings). IfSome (slice_get r.line.conns r.at) (λ (c : Conn L K). w ≡ conn.home k c)) h.terms y.0));
          below = λ j g. absurd (cc);
          dids = [];
          calls = λ a g i. home_calls t a n x.session e g;
          went = (y.2, y.3);
        }
    pick false e true f ((look, (look_is, lined, m_is, side)), u_is) =
        (let seen = line_at r.line m.line r.at (λ c1 c2. c2 ≡ conn.sees (uid_of look) c1) before one behind h.conns h.at lined in
        let now2 : Now t (record r { line = m.line }) s before seen.0 behind n = record { terms = h.terms; framing = h.framing; conns = seen.1.1; at = h.at; empty = h.empty; still = h.still; ends = h.ends; given = h.given; turn = h.turn } in
        let seen_row : (a : Answers) → a.look ≡ uid_of look → table.looked t a x ≡ shown x.pieces x.written x.taken seen.0 = λ a g. ap (λ (k : Bool). if k then table.sees a.look x else x) f ∙ ap (λ (k : ℕ). table.sees k x) g ∙ ap (table.sees (uid_of look)) row.0 ∙ sym (shown_sees x.pieces x.written x.taken (uid_of look) one) ∙ ap (shown {L = L} {K = K} x.pieces x.written x.taken) (sym seen.1.0) in
        record {
          look = uid_of look;
          idle = None;
          one = seen.0;
          now = subst (λ (y : Reactor L K). Now t y s before seen.0 behind n) (sym m_is) now2;
          row = λ a g. row_by view t x.pieces x.written x.taken seen.0 (table.looked t a x) (seen_row a g) (subst (IsCut {L = L} {K = K} t x.pieces x.taken) (sym seen.1.0) (cut_sees (one.uid == 0)))
              (subst (λ (y : Conn L K). TellsOf view y.link x.pieces x.written y.cause) (sym seen.1.0) (told_sees (one.uid == 0))) (subst (λ (y : Conn L K). view.number y.ticket ≡ y.session) (sym seen.1.0) (own_sees (one.uid == 0)));
          place = λ a g i. ap (table.place t a n) (seen_row a g) ∙ shown_side t a n x.pieces x.written x.taken seen.0 e f ∙ sym (there seen.0 seen.1.1 side);
          below = λ j g. absurd (cc);
          dids = Looks x.session (seen_of look) ∷ [];
          calls = λ a g i. look_calls t a n x.session (seen_of look) e f (g ∙ seen_uid look);
          went = (d, (o, ((look, (subst (λ (k : ℕ). LooksBy p.looks b k look d) (ap code.session_in here ∙ sym session) look_is, refl, refl)), (refl, u_is))));
        })
      where
        cut_sees : (k : Bool) → IsCut {L = L} {K = K} t x.pieces x.taken (if k then record one { uid = uid_of look; split = one.dispatched } else one)
        cut_sees true = row.1
        cut_sees false = row.1

        told_sees : (k : Bool) → TellsOf view (if k then record one { uid = uid_of look; split = one.dispatched } else one).link x.pieces x.written (if k then record one { uid = uid_of look; split = one.dispatched } else one).cause
        told_sees true = row_tells view t one x row
        told_sees false = row_tells view t one x row

        own_sees : (k : Bool) → view.number (if k then record one { uid = uid_of look; split = one.dispatched } else one).ticket ≡ (if k then record one { uid = uid_of look; split = one.dispatched } else one).session
        own_sees true = row.2.1
        own_sees false = row.2.1

        there : (z2 : Conn L K) → m.line.conns ≡ before ++ z2 ∷ behind → IfSome (slice_get m.line.conns r.at) (λ c. w ≡ conn.side r.terms c) → w ≡ conn.side (settings t) z2
        there z2 g y = (let k : slice_get m.line.conns r.at ≡ Some z2 = ap (λ (cs : List (Conn L K)). slice_get cs r.at) g ∙ ap (slice_get (before ++ z2 ∷ behind)) h.at ∙ get_behind before z2 behind in subst (λ (q : Option (Conn L K)). IfSome q (λ c. w ≡ conn.side (settings t) c)) k (subst (λ (q : Settings). IfSome (slice_get m.line.conns r.at) (λ (c : Conn L K). w ≡ conn.side q c)) h.terms y))
    pick false e false f (idle, m_is, d_is) = idles (r.terms.mode == 3) (ap (λ (y : Settings). y.mode == 3) h.terms) idle
      where
        idles : (i3 : Bool) → i3 ≡ (t.mode == 3) → MatchBool i3 ((idle : Option ℕ) × (FindsIdle p.goes (p.sizes o) Workers (round_target r.turn r.terms.worker_num) o idle u × (w ≡ aims.idle_or idle (round_target r.turn r.terms.worker_num)))) ((w ≡ round_target r.turn r.terms.worker_num) × (u ≡ o)) → IsAimed view p t s before behind x n w m b d o u
        idles true g (found, (finds, w_is)) =
            record {
              look = 0;
              idle = found;
              one = one;
              now = same m_is;
              row = λ a z1. unlooked f a;
              place = λ a z1 i. side_place t a n (table.looked t a x) e f ∙ ap (λ (k : Bool). if k then table.idle_or a.idle (n % t.worker_num) else n % t.worker_num) (sym g) ∙ ap (λ (k : Option ℕ). table.idle_or k (n % t.worker_num)) i ∙ ap (table.idle_or found) (sym round) ∙ or_same found (round_target r.turn r.terms.worker_num) ∙ sym w_is;
              below = λ j z1. idle_below p.goes (p.sizes o) t.worker_num (round_target r.turn r.terms.worker_num) o u j crew (subst (λ (k : Option ℕ). FindsIdle p.goes (p.sizes o) Workers (round_target r.turn r.terms.worker_num) o k u) z1 finds);
              dids = Idles false (n % t.worker_num) found ∷ [];
              calls = λ a z1 i. subst (λ (k : Option ℕ). AimCalls t a n x.session (Idles false (n % t.worker_num) k ∷ [])) i (idle_calls t a n x.session e f (sym g) z1);
              went = (b, (u, ((subst (λ (k : ℕ). FindsIdle p.goes (p.sizes o) Workers k o found u) round finds, refl), (d_is, refl))));
            }
          where
            or_same : (i : Option ℕ) (k : ℕ) → table.idle_or i k ≡ aims.idle_or i k
            or_same None k = refl
            or_same (Some j) k = refl
        idles false g (w_is, u_is) =
            record {
              look = 0;
              idle = None;
              one = one;
              now = same m_is;
              row = λ a z1. unlooked f a;
              place = λ a z1 i. side_place t a n (table.looked t a x) e f ∙ ap (λ (k : Bool). if k then table.idle_or a.idle (n % t.worker_num) else n % t.worker_num) (sym g) ∙ sym round ∙ sym w_is;
              below = λ j z1. absurd (cc);
              dids = [];
              calls = λ a z1 i. round_calls t a n x.session e f (sym g) z1;
              went = (d_is, u_is);
            }

-- a packet that is told takes a turn
turned_now : {L K : Type 0} (t : Terms) (m : Reactor L K) (s : Table) (before : List (Conn L K)) (one : Conn L K) (behind : List (Conn L K)) (n : ℕ) (e : Event) → 0 < t.worker_num → Now t m s before one behind n → Now t (serving.counted (conn.kind_of e) m) s before one behind (counted (is_packet_event e) n)
turned_now t m s before one behind n (Connect u) some h = h
turned_now t m s before one behind n (Packet u i b) some h =
    record { terms = h.terms; framing = h.framing; conns = h.conns; at = h.at; empty = h.empty; still = h.still; ends = h.ends; given = h.given; turn = rw (h.turn, h.terms) (sym (next_mod t.worker_num n some)) }
turned_now t m s before one behind n (Closed u) some h = h
turned_now t m s before one behind n (Finish id b) some h = h
turned_now t m s before one behind n (Task w id b) some h = h

-- the answers of a serve that wrote so
abbrev pub answers_of : Option LinkWrite → Bool → ℕ → Option ℕ → Read → Bool → ℕ → Answers
answers_of wrote starved look idle read fed released = record { stop = false; look = look; idle = idle; write = write_of wrote; read = read; cut_starved = starved; feed_starved = fed; released = released }

-- what a serve comes to, with what its answers rest on
pub record IsServe {L K B C E : Type 0} (view : Telling L K) (p : Ports L K B C E) (t : Terms) (word : ℕ → ℕ) (q : Reactor L K) (a : code.Asks L K) (s : Table) (d : Row) (es : List Row) (b0 : B) (c0 : C) (f0 : E) (b1 : B) (c1 : C) (f1 : E) : Type 0 where
  pub answers : Answers
  pub goes : Goes view t q a s d es answers
  pub idle : IsIdle t answers
  pub dids : List Did
  pub calls : ServeCalls t answers s.round d dids
  pub went : DidsGo p dids b0 c0 b1 c1
  pub ends : EndsGo view p s.over f0 (serves t answers (d ∷ es) s).over f1

no_idle : (t : Terms) (wrote : Option LinkWrite) (starved : Bool) (look : ℕ) (read : Read) (fed : Bool) (released : ℕ) → IsIdle t (answers_of wrote starved look None read fed released)
no_idle t wrote starved look read fed released j e = absurd (cc)

-- the place of what is served
pub record Place {L K : Type 0} (view : Telling L K) (t : Terms) (r : Reactor L K) (s : Table) (d : Row) (es : List Row) (before : List (Conn L K)) (behind : List (Conn L K)) : Type 0 where
  pub same : Same view t r s
  pub sizes : Sizes t
  pub bounds : Bounds t s
  pub next : s.next ≡ d ∷ es
  pub pre : AreRows view t before s.done
  pub post : AreRows view t behind es
  pub at : r.at ≡ length before

-- the links that ended are those of before, unless one leaves
turned_over : (done es : List Row) (s : Table) → (turned done es s).over ≡ s.over
turned_over done [] s = refl
turned_over done (e ∷ es) s = refl

over_same : (t : Terms) (ans : Answers) (moved : Bool) (es : List Row) (x : Row) (o : table.Does) (s : Table) → ((e : Cause) → o ≡ Leaves e → ⊥) → (served_by t ans moved es x o s).over ≡ s.over
over_same t ans moved es x (Pushes w e) s n = turned_over (s.done ++ x ∷ []) es s
over_same t ans moved es x Moves s n = turned_over (s.done ++ x ∷ []) es s
over_same t ans moved es x Stays s n = pick moved
  where
    pick : (b : Bool) → ◌≡◌ {A = List LinkRecord} (if b then record (turned (s.done ++ x ∷ []) es s) { last = Nothing; still = 0 } else tables.stayed (length (s.done ++ x ∷ es)) (turned (s.done ++ x ∷ []) es s)).over s.over
    pick true = turned_over (s.done ++ x ∷ []) es s
    pick false = turned_over (s.done ++ x ∷ []) es s
over_same t ans moved es x (Leaves e) s n = absurd (n e refl)

ends_still : {L K B C E : Type 0} (view : Telling L K) (p : Ports L K B C E) (t : Terms) (s : Table) (d : Row) (es : List Row) (ans : Answers) (moved : Bool) (v : Served) (f0 f1 : E) → serve t ans s.round d ≡ v → table.writes ans.write d ≡ moved → ((e : Cause) → v.does ≡ Leaves e → ⊥) → f1 ≡ f0 → EndsGo view p s.over f0 (serves t ans (d ∷ es) s).over f1
ends_still view p t s d es ans moved v f0 f1 e f n g = inl (over_by t s d es ans moved v e f ∙ over_same t ans moved es v.conn v.does (record s { round = counted v.cuts s.round }) n, g)

-- the calls of a serve, by what it comes to
calls_by : (t : Terms) (ans : Answers) (s : Table) (d : Row) (v : Served) (ds : List Did) (o : Option (ℕ × Event)) → serve t ans s.round d ≡ v → (table.tidied ans d).held ≡ o → DoesCalls t ans s.round d.session o v.does ds → ServeCalls t ans s.round d ds
calls_by t ans s d v ds o e f h =
    subst (λ (x : Option (ℕ × Event)). DoesCalls t ans s.round d.session x (serve t ans s.round d).does ds) (sym f)
    (subst (λ (x : Served). DoesCalls t ans s.round d.session o x.does ds) (sym e) h)

-- an event again to its worker
again_served : {L K B C E : Type 0} (view : Telling L K) (p : Ports L K B C E) (t : Terms) (word : ℕ → ℕ) (r q : Reactor L K) (a : code.Asks L K) (s : Table) (d : Row) (es : List Row) (before behind : List (Conn L K)) (m : Lined L K) (z : Conn L K) (x : Row) (wrote : Option LinkWrite) (starved : Bool) (w : ℕ) (e : Event) (h0 : ℕ × Event) (b0 b1 : B) (c0 c1 : C) (f0 f1 : E) → Place view t r s d es before behind → m.conns ≡ before ++ z ∷ behind → IsRow view t z x → ((ans : Answers) → ans.write ≡ write_of wrote → (table.tidied ans d).held ≡ Some h0) → ((ans : Answers) → ans.write ≡ write_of wrote → ans.cut_starved ≡ starved → serve t ans s.round d ≡ plain x (Pushes w e)) → ((ans : Answers) → ans.write ≡ write_of wrote → table.writes ans.write d ≡ some_write wrote) → code.Pushes w e (record r { line = m }) a q × (b1 ≡ b0) × (c1 ≡ c0) × (f1 ≡ f0) → IsServe view p t word q a s d es b0 c0 f0 b1 c1 f1
again_served view p t word r q a s d es before behind m z x wrote starved w e h0 b0 b1 c0 c1 f0 f1 h f row held is moved y =
    (let ans : Answers = answers_of wrote starved 0 None ReadNotYet false (word d.session) in
    let own : IsOf (serve t ans s.round d).conn.session e = h.bounds.own ans d es (no_idle t wrote starved 0 ReadNotYet false (word d.session)) h.next w e (ap (λ (v : Served). v.does) (is ans refl refl)) in
    record {
      answers = ans;
      goes = by_served view t q a s d es ans (some_write wrote) (plain x (Pushes w e)) (is ans refl refl) (moved ans refl)
          (push_turn view t (record r { line = m }) q s before z behind x es w e s.round a (line_now view t r s m before z behind h.same h.at f) h.pre row h.post (subst (λ (v : Served). IsOf v.conn.session e) (is ans refl refl) own) y.0);
      idle = no_idle t wrote starved 0 ReadNotYet false (word d.session);
      dids = [];
      calls = calls_by t ans s d (plain x (Pushes w e)) [] (Some h0) (is ans refl refl) (held ans refl) (refl, refl);
      went = (y.1, y.2);
      ends = ends_still view p t s d es ans (some_write wrote) (plain x (Pushes w e)) f0 f1 (is ans refl refl) (moved ans refl) (λ c g. absurd (cc)) y.3;
    })

-- an event to its worker
told_served : {L K B C E : Type 0} (view : Telling L K) (p : Ports L K B C E) (t : Terms) (word : ℕ → ℕ) (r q : Reactor L K) (a : code.Asks L K) (s : Table) (d : Row) (es : List Row) (before behind : List (Conn L K)) (m : Lined L K) (z : Conn L K) (x : Row) (wrote : Option LinkWrite) (starved : Bool) (e : Event) (b0 b1 : B) (c0 c1 : C) (f0 f1 : E) → members Workers (p.sizes c0) ≡ t.worker_num → Place view t r s d es before behind → m.conns ≡ before ++ z ∷ behind → IsRow view t z x → x.session ≡ d.session → ((ans : Answers) → ans.write ≡ write_of wrote → (table.tidied ans d).held ≡ None) → ((ans : Answers) → ans.write ≡ write_of wrote → ans.cut_starved ≡ starved → serve t ans s.round d ≡ pushes t ans s.round e (is_packet_event e) x) → ((ans : Answers) → ans.write ≡ write_of wrote → table.writes ans.write d ≡ some_write wrote) → Tells p.looks p.goes p.sizes e (record r { line = m }) b0 c0 a q b1 c1 → f1 ≡ f0 → IsServe view p t word q a s d es b0 c0 f0 b1 c1 f1
told_served {L} {K} view p t word r q a s d es before behind m z x wrote starved e b0 b1 c0 c1 f0 f1 crew h f row same held is moved (w, (m2, (aim, y))) ends =
    (let g : IsAimed view p t s before behind x s.round w m2 b0 b1 c0 c1 = aimed_is view p t s (record r { line = m }) m2 before z behind x s.round w b0 b1 c0 c1 crew (line_now view t r s m before z behind h.same h.at f) row aim in
    let ans : Answers = answers_of wrote starved g.look g.idle ReadNotYet false (word d.session) in
    let v : Served = pushes t ans s.round e (is_packet_event e) x in
    let veq : serve t ans s.round d ≡ v = is ans refl refl in
    let idle : IsIdle t ans = g.below in
    let place : table.place t ans s.round (table.looked t ans x) ≡ w = g.place ans refl refl in
    let own0 : IsOf (serve t ans s.round d).conn.session e = h.bounds.own ans d es idle h.next (table.place t ans s.round (table.looked t ans x)) e (ap (λ (u : Served). u.does) veq) in
    let own : IsOf (table.looked t ans x).session e = subst (λ (u : Served). IsOf u.conn.session e) veq own0 in
    record {
      answers = ans;
      goes = by_served view t q a s d es ans (some_write wrote) v veq (moved ans refl)
          (subst (λ (k : ℕ). IsTurn view t q a (record (turned (s.done ++ table.looked t ans x ∷ []) es (record s { round = counted (is_packet_event e) s.round })) { last = Push k (EventMsg e); still = 0 })) (sym place)
          (push_turn view t (serving.counted (conn.kind_of e) m2) q s before g.one behind (table.looked t ans x) es w e (counted (is_packet_event e) s.round) a (turned_now t m2 s before g.one behind s.round e h.sizes.workers g.now) h.pre (g.row ans refl) h.post own y));
      idle = idle;
      dids = g.dids;
      calls = calls_by t ans s d v g.dids None veq (held ans refl) (subst (λ (k : ℕ). AimCalls t ans s.round k g.dids) same (g.calls ans refl refl));
      went = g.went;
      ends = ends_still view p t s d es ans (some_write wrote) v f0 f1 veq (moved ans refl) (λ c k. absurd (cc)) ends;
    })

-- a cause was seen
moved_served : {L K B C E : Type 0} (view : Telling L K) (p : Ports L K B C E) (t : Terms) (word : ℕ → ℕ) (r q : Reactor L K) (a : code.Asks L K) (s : Table) (d : Row) (es : List Row) (before behind : List (Conn L K)) (m : Lined L K) (z : Conn L K) (x : Row) (wrote : Option LinkWrite) (starved : Bool) (b0 b1 : B) (c0 c1 : C) (f0 f1 : E) → Place view t r s d es before behind → m.conns ≡ before ++ z ∷ behind → IsRow view t z x → ((ans : Answers) → ans.write ≡ write_of wrote → ans.cut_starved ≡ starved → serve t ans s.round d ≡ plain x Moves) → ((ans : Answers) → ans.write ≡ write_of wrote → table.writes ans.write d ≡ some_write wrote) → (a ≡ ask.Nothing) × (q ≡ code.moved (record r { line = m })) × (b1 ≡ b0) × (c1 ≡ c0) × (f1 ≡ f0) → IsServe view p t word q a s d es b0 c0 f0 b1 c1 f1
moved_served view p t word r q a s d es before behind m z x wrote starved b0 b1 c0 c1 f0 f1 h f row is moved y =
    (let ans : Answers = answers_of wrote starved 0 None ReadNotYet false (word d.session) in
    record {
      answers = ans;
      goes = by_served view t q a s d es ans (some_write wrote) (plain x Moves) (is ans refl refl) (moved ans refl)
          (move_turn view t (record r { line = m }) q s before z behind x es s.round a (line_now view t r s m before z behind h.same h.at f) h.pre row h.post y.0 y.1);
      idle = no_idle t wrote starved 0 ReadNotYet false (word d.session);
      dids = [];
      calls = calls_by t ans s d (plain x Moves) [] (table.tidied ans d).held (is ans refl refl) refl (refl, refl);
      went = (y.2, y.3);
      ends = ends_still view p t s d es ans (some_write wrote) (plain x Moves) f0 f1 (is ans refl refl) (moved ans refl) (λ c g. absurd (cc)) y.4;
    })

-- as many connections as before
few_here : (t : Terms) (s : Table) (d x : Row) (es : List Row) → Bounds t s → s.next ≡ d ∷ es → length (s.done ++ x ∷ es) < 2 ^ 64
few_here t s d x es b e = subst (λ (n : ℕ). n < 2 ^ 64) (length_of d ∙ sym (length_of x)) (subst (λ (zs : List Row). length (s.done ++ zs) < 2 ^ 64) e b.few)
  where
    length_of : (y : Row) → length (s.done ++ y ∷ es) ≡ length s.done + (length es + 1)
    length_of y = length_append s.done (y ∷ es) ∙ ap (λ (n : ℕ). length s.done + n) (let g : suc (length es) ≡ length es + 1 = omega arith in g)

-- nothing was to be done
stayed_served : {L K B C E : Type 0} (view : Telling L K) (p : Ports L K B C E) (t : Terms) (word : ℕ → ℕ) (r q : Reactor L K) (a : code.Asks L K) (s : Table) (d : Row) (es : List Row) (before behind : List (Conn L K)) (m : Lined L K) (z : Conn L K) (x : Row) (wrote : Option LinkWrite) (starved : Bool) (b0 b1 : B) (c0 c1 : C) (f0 f1 : E) → Place view t r s d es before behind → m.conns ≡ before ++ z ∷ behind → IsRow view t z x → ((ans : Answers) → ans.write ≡ write_of wrote → ans.cut_starved ≡ starved → serve t ans s.round d ≡ plain x Stays) → ((ans : Answers) → ans.write ≡ write_of wrote → table.writes ans.write d ≡ some_write wrote) → code.Stays wrote (record r { line = m }) a q × (b1 ≡ b0) × (c1 ≡ c0) × (f1 ≡ f0) → IsServe view p t word q a s d es b0 c0 f0 b1 c1 f1
stayed_served view p t word r q a s d es before behind m z x wrote starved b0 b1 c0 c1 f0 f1 h f row is moved y =
    (let ans : Answers = answers_of wrote starved 0 None ReadNotYet false (word d.session) in
    record {
      answers = ans;
      goes = by_served view t q a s d es ans (some_write wrote) (plain x Stays) (is ans refl refl) (moved ans refl)
          (stay_turn view t (record r { line = m }) q s before z behind x es s.round a wrote (line_now view t r s m before z behind h.same h.at f) h.pre row h.post (few_here t s d x es h.bounds h.next) y.0);
      idle = no_idle t wrote starved 0 ReadNotYet false (word d.session);
      dids = [];
      calls = calls_by t ans s d (plain x Stays) [] (table.tidied ans d).held (is ans refl refl) refl (refl, refl);
      went = (y.1, y.2);
      ends = ends_still view p t s d es ans (some_write wrote) (plain x Stays) f0 f1 (is ans refl refl) (moved ans refl) (λ c g. absurd (cc)) y.3;
    })

-- it leaves
left_served : {L K B C E : Type 0} (view : Telling L K) (p : Ports L K B C E) (t : Terms) (word : ℕ → ℕ) (r q : Reactor L K) (a : code.Asks L K) (s : Table) (d : Row) (es : List Row) (before behind : List (Conn L K)) (m : Lined L K) (z : Conn L K) (ps : List (List ℕ)) (ws : List ℕ) (n : ℕ) (wrote : Option LinkWrite) (starved : Bool) (e : Cause) (b0 b1 : B) (c0 c1 : C) (f0 f1 : E) → DoTell view p → ((l : L) (ended : Ended) (f : E) → p.puts f0 l ended false f → ⊥) → Place view t r s d es before behind → m.conns ≡ before ++ z ∷ behind → IsRow view t z (shown ps ws n z) → z.session ≡ d.session → z.cause ≡ Some e → ((ans : Answers) → ans.write ≡ write_of wrote → ans.cut_starved ≡ starved → serve t ans s.round d ≡ plain (shown ps ws n z) (Leaves e)) → ((ans : Answers) → ans.write ≡ write_of wrote → table.writes ans.write d ≡ some_write wrote) → (a ≡ ask.Nothing) × leave.Leaves p.releases p.goes p.puts e (record r { line = m }) b0 c0 f0 q b1 c1 f1 → IsServe view p t word q a s d es b0 c0 f0 b1 c1 f1
left_served {L} {K} {B} {C} view p t word r q a s d es before behind m z ps ws n wrote starved e b0 b1 c0 c1 f0 f1 tell keeps h f row same caused is moved (y1, (c, (there, (uid, (frees, (kept, (puts, counts, y2))))))) =
    (let ans : Answers = answers_of wrote starved 0 None ReadNotYet false uid in
    let x : Row = shown ps ws n z in
    let v : Served = plain x (Leaves e) in
    let now : Now t (record r { line = m }) s before z behind s.round = line_now view t r s m before z behind h.same h.at f in
    let it : c ≡ z = (let k : Some c ≡ Some z = sym there ∙ ap (λ (cs : List (Conn L K)). slice_get cs r.at) f ∙ ap (slice_get (before ++ z ∷ behind)) h.at ∙ get_behind before z behind in let g : c ≡ z = cc in g) in
    let put : p.puts f0 z.link (conn.account (settings t) z uid e) kept f1 = subst (λ (k : Settings). p.puts f0 z.link (conn.account k z uid e) kept f1) h.same.terms (subst (λ (k : Conn L K). p.puts f0 k.link (conn.account r.terms k uid e) kept f1) it puts) in
    let over : (serves t ans (d ∷ es) s).over ≡ s.over ++ over_link t x uid e ∷ [] = over_by t s d es ans (some_write wrote) v (is ans refl refl) (moved ans refl) in
    record {
      answers = ans;
      goes = by_served view t q a s d es ans (some_write wrote) v (is ans refl refl) (moved ans refl)
          (left_turn view t (record r { line = m }) q s before z behind es (s.over ++ over_link t x uid e ∷ []) s.round a kept now h.pre h.post y1 y2);
      idle = no_idle t wrote starved 0 ReadNotYet false uid;
      dids = Frees d.session uid ∷ Adds EndedCount ∷ [];
      calls = calls_by t ans s d v (Frees d.session uid ∷ Adds EndedCount ∷ []) (table.tidied ans d).held (is ans refl refl) refl (refl, refl);
      went = (b1, (c0, ((c.ticket, (sym (tell.number c.ticket) ∙ subst (λ (k : Conn L K). view.number k.ticket ≡ k.session) (sym it) row.2.1 ∙ ap (λ (k : Conn L K). k.session) it ∙ same, frees, refl)), (b1, (c1, ((ended kept put counts, refl), (refl, refl)))))));
      ends = inr ((z.link, conn.account (settings t) z uid e), (over_link t x uid e, (over, (refl, refl, (row.2.0.0, row.2.0.1, subst (λ (o : Option Cause). IsCauseTold view z.link o) caused row.2.0.2)), kept_true kept put)));
    })
  where
    ended : (k : Bool) → p.puts f0 z.link (conn.account (settings t) z uid e) k f1 → leave.Counts p.goes k c0 c1 → p.goes c0 (board.Added EndedCount ∷ []) c1
    ended true g y = y
    ended false g y = absurd (keeps z.link (conn.account (settings t) z uid e) f1 g)

    kept_true : (k : Bool) → p.puts f0 z.link (conn.account (settings t) z uid e) k f1 → p.puts f0 z.link (conn.account (settings t) z uid e) true f1
    kept_true true g = g
    kept_true false g = absurd (keeps z.link (conn.account (settings t) z uid e) f1 g)

-- it reads
read_served : {L K B C E : Type 0} (view : Telling L K) (p : Ports L K B C E) (t : Terms) (word : ℕ → ℕ) (r q : Reactor L K) (a : code.Asks L K) (s : Table) (d : Row) (es : List Row) (before behind : List (Conn L K)) (m : Lined L K) (z : Conn L K) (ps : List (List ℕ)) (ws : List ℕ) (n : ℕ) (wrote : Option LinkWrite) (starved : Bool) (b0 b1 : B) (c0 c1 : C) (f0 f1 : E) → DoTell view p → Place view t r s d es before behind → m.conns ≡ before ++ z ∷ behind → z.cause ≡ None → IsRow view t z (shown ps ws n z) → ((ans : Answers) → ans.write ≡ write_of wrote → ans.cut_starved ≡ starved → serve t ans s.round d ≡ read_by ans.feed_starved ans.read (shown ps ws n z)) → ((ans : Answers) → ans.write ≡ write_of wrote → table.writes ans.write d ≡ some_write wrote) → ReadsMore p.reads wrote (record r { line = m }) a q × (b1 ≡ b0) × (c1 ≡ c0) × (f1 ≡ f0) → IsServe view p t word q a s d es b0 c0 f0 b1 c1 f1
read_served {L} {K} view p t word r q a s d es before behind m z ps ws n wrote starved b0 b1 c0 c1 f0 f1 tell h f free one is moved ((l, (m2, (reads, y))), b_is, c_is, f_is) =
    (let x = line_at m m2.line r.at (λ c1 c2. ReadsBy p.reads (length r.buffer.items) c1 (read_of l m2.buffer.items) c2) before z behind f h.at reads.0 in
    let c2 : Conn L K = x.0 in
    let fed : Bool = x.1.0.1.0 in
    let rd : Read = read_of l m2.buffer.items in
    let c2_is : c2 ≡ record (conn.read_by fed rd z) { link = c2.link } = x.1.0.1.1 in
    let ans : Answers = answers_of wrote starved 0 None rd fed (word d.session) in
    let v : Served = read_by fed rd (shown ps ws n z) in
    let row_is : v.conn ≡ shown (pieces_by rd ps) ws n c2 = sym (shown_read t ps ws n fed rd z free) ∙ ap (shown {L = L} {K = K} (pieces_by rd ps) ws n) (sym c2_is) in
    let told : TellsOf view c2.link (pieces_by rd ps) ws c2.cause = read_tells view p tell z c2 (length r.buffer.items) ps ws rd fed free x.1.0.0 (ap (λ (k : Conn L K). k.cause) c2_is) one.2.0 in
    let own : view.number c2.ticket ≡ c2.session = own_then view z c2 (record { ticket = ap (λ (k : Conn L K). k.ticket) c2_is ∙ ticket fed rd; session = ap (λ (k : Conn L K). k.session) c2_is ∙ session fed rd }) one.2.1 in
    let row : IsRow view t c2 v.conn = row_by view t (pieces_by rd ps) ws n c2 v.conn row_is (subst (IsCut {L = L} {K = K} t (pieces_by rd ps) n) (sym c2_is) (cut_read t ps n fed rd z free one.1)) told own in
    let now2 : Now t (record r { line = m2.line; buffer = m2.buffer }) s before c2 behind s.round = record { terms = h.same.terms; framing = h.same.framing; conns = x.1.1; at = h.at; empty = h.same.empty; still = h.same.still; ends = h.same.ends; given = h.same.given; turn = h.same.turn } in
    let now : Now t m2 s before c2 behind s.round = subst (λ (u : Reactor L K). Now t u s before c2 behind s.round) (sym reads.1) now2 in
    record {
      answers = ans;
      goes = by_served view t q a s d es ans (some_write wrote) v (is ans refl refl) (moved ans refl) (after l y c2 fed now row);
      idle = no_idle t wrote starved 0 rd fed (word d.session);
      dids = [];
      calls = calls_by t ans s d v [] (table.tidied ans d).held (is ans refl refl) refl (quiet ans fed rd (table.tidied ans d).held refl);
      went = (b_is, c_is);
      ends = ends_still view p t s d es ans (some_write wrote) v f0 f1 (is ans refl refl) (moved ans refl) (stays_here fed rd) f_is;
    })
  where
    ticket : (b : Bool) (rd : Read) → (conn.read_by b rd z).ticket ≡ z.ticket
    ticket true (GotPiece bytes) = refl
    ticket false (GotPiece bytes) = refl
    ticket b ReadNotYet = refl
    ticket b ReadEnd = refl
    ticket b ReadFailed = refl

    session : (b : Bool) (rd : Read) → (conn.read_by b rd z).session ≡ z.session
    session true (GotPiece bytes) = refl
    session false (GotPiece bytes) = refl
    session b ReadNotYet = refl
    session b ReadEnd = refl
    session b ReadFailed = refl

    quiet : (ans : Answers) (b : Bool) (rd : Read) (o : Option (ℕ × Event)) → ans.look ≡ 0 → DoesCalls t ans s.round d.session o (read_by b rd (shown ps ws n z)).does []
    quiet ans b (GotPiece bytes) o e = (e, refl)
    quiet ans b ReadNotYet o e = (e, refl)
    quiet ans b ReadEnd o e = (e, refl)
    quiet ans b ReadFailed o e = (e, refl)

    stays_here : (b : Bool) (rd : Read) (c : Cause) → (read_by b rd (shown ps ws n z)).does ≡ Leaves c → ⊥
    stays_here b (GotPiece bytes) c e = cc
    stays_here b ReadNotYet c e = cc
    stays_here b ReadEnd c e = cc
    stays_here b ReadFailed c e = cc

    after : (k : LinkRead) → AfterRead wrote k m2 a q → (c2 : Conn L K) (fed : Bool) → Now t m2 s before c2 behind s.round → IsRow view t c2 (read_by fed (read_of k m2.buffer.items) (shown ps ws n z)).conn → IsTurn view t q a (served_by t (answers_of wrote starved 0 None (read_of k m2.buffer.items) fed (word d.session)) (some_write wrote) es (read_by fed (read_of k m2.buffer.items) (shown ps ws n z)).conn (read_by fed (read_of k m2.buffer.items) (shown ps ws n z)).does (record s { round = counted (read_by fed (read_of k m2.buffer.items) (shown ps ws n z)).cuts s.round }))
    after (reading.Got k) y c2 fed now row = move_turn view t m2 q s before c2 behind (read_by fed (read_of (reading.Got k) m2.buffer.items) (shown ps ws n z)).conn es s.round a now h.pre row h.post y.0 y.1
    after reading.NotYet y c2 fed now row = stay_turn view t m2 q s before c2 behind (shown ps ws n z) es s.round a wrote now h.pre row h.post (few_here t s d (shown ps ws n z) es h.bounds h.next) y
    after reading.End y c2 fed now row = move_turn view t m2 q s before c2 behind (read_by fed ReadEnd (shown ps ws n z)).conn es s.round a now h.pre row h.post y.0 y.1
    after reading.Failed y c2 fed now row = move_turn view t m2 q s before c2 behind (read_by fed ReadFailed (shown ps ws n z)).conn es s.round a now h.pre row h.post y.0 y.1

-- the next connection
pub next_served : {L K B C E : Type 0} (view : Telling L K) (p : Ports L K B C E) (t : Terms) (word : ℕ → ℕ) (r q : Reactor L K) (a : code.Asks L K) (s : Table) (d : Row) (es : List Row) (b0 b1 : B) (c0 c1 : C) (f0 f1 : E) → DoTell view p → AreSound t p c0 f0 → Sizes t → Same view t r s → Bounds t s → s.next ≡ d ∷ es → ServesNext p r b0 c0 f0 a q b1 c1 f1 → IsServe view p t word q a s d es b0 c0 f0 b1 c1 f1
next_served {L} {K} view p t word r q a s d es b0 b1 c0 c1 f0 f1 tell sound sizes h bounds next (wrote, (l, (flushes, (step, (m, (chooses, y)))))) =
    (let split : IsSplit view t r.line.conns s.done d es = rows_split view t r.line.conns s.done d es (subst (λ (zs : List Row). AreRows view t r.line.conns (s.done ++ zs)) next h.rows) in
    let at : r.at ≡ length split.before = h.at ∙ sym (rows_length view t split.before s.done split.rows_before) in
    let one = line_at r.line l r.at (λ x y1. FlushedBy p.writes x wrote y1) split.before split.one split.behind split.is at flushes in
    let two = line_at l m r.at (λ x y1. Chooses r.terms (conn.cleared x) y1 step) split.before one.0 split.behind one.1.1 at chooses in
    let z : Conn L K = two.0 in
    let choice : Chooses (settings t) (conn.cleared one.0) z step = subst (λ (k : Settings). Chooses k (conn.cleared one.0) z step) h.terms two.1.0 in
    let v : IsServed t d.pieces d.written d.taken split.one z wrote step = served_is p.writes t d.pieces d.written d.taken split.one one.0 z wrote step split.row.1 one.1.0 choice in
    let ws : List ℕ = written_by wrote split.one.unsent d.written in
    let x : Row = shown d.pieces ws v.taken z in
    let place : Place view t r s d es split.before split.behind = record { same = h; sizes = sizes; bounds = bounds; next = next; pre = split.rows_before; post = split.rows_behind; at = at } in
    let is : (ans : Answers) → ans.write ≡ write_of wrote → ans.cut_starved ≡ v.starved → IsStep t ans s.round x step (serve t ans s.round d) = λ ans e g. subst (λ (k : Row). IsStep t ans s.round x step (serve t ans s.round k)) (sym split.row.0) (v.is ans s.round e g) in
    let moved : (ans : Answers) → ans.write ≡ write_of wrote → table.writes ans.write d ≡ some_write wrote = λ ans e. ap (λ (k : LinkWrite). table.writes k d) e ∙ ap (table.writes (write_of wrote)) split.row.0 ∙ shown_moved p.writes d.pieces d.written d.taken split.one one.0 wrote one.1.0 in
    let made : Chose view (conn.cleared one.0) z step = chose view (settings t) (conn.cleared one.0) z step choice in
    let told : TellsOf view z.link d.pieces ws z.cause = chose_tells view (conn.cleared one.0) z step d.pieces ws made (flush_tells view p tell split.one one.0 d.pieces d.written wrote one.1.0 (row_tells view t split.one d split.row)) in
    let own : view.number z.ticket ≡ z.session = own_then view (conn.cleared one.0) z made.keyed (own_then view split.one one.0 (flush_keyed p.writes split.one one.0 wrote one.1.0) split.row.2.1) in
    let row : IsRow view t z x = (refl, v.cut, (told, own)) in
    let held : (ans : Answers) → ans.write ≡ write_of wrote → (table.tidied ans d).held ≡ (conn.cleared one.0).held = λ ans e. tidied_held p.writes split.one one.0 d d.taken wrote one.1.0 split.row.0 ans e in
    by step split.before split.behind (conn.cleared one.0) z d.pieces ws v.taken v.starved place two.1.1 row choice held made.leaves is moved v.reads y)
  where
    by : (step : Step) (before behind : List (Conn L K)) (c z : Conn L K) (ps : List (List ℕ)) (ws : List ℕ) (n : ℕ) (starved : Bool) → Place view t r s d es before behind → m.conns ≡ before ++ z ∷ behind → IsRow view t z (shown ps ws n z) → Chooses (settings t) c z step → ((ans : Answers) → ans.write ≡ write_of wrote → (table.tidied ans d).held ≡ c.held) → ((e : Cause) → step ≡ steps.Leave e → z.cause ≡ Some e) → ((ans : Answers) → ans.write ≡ write_of wrote → ans.cut_starved ≡ starved → IsStep t ans s.round (shown ps ws n z) step (serve t ans s.round d)) → ((ans : Answers) → ans.write ≡ write_of wrote → table.writes ans.write d ≡ some_write wrote) → (step ≡ steps.Read → (z.cause ≡ None) × (n ≡ d.taken)) → Steps p step wrote (record r { line = m }) b0 c0 f0 a q b1 c1 f1 → IsServe view p t word q a s d es b0 c0 f0 b1 c1 f1
    by (steps.Again w e) before behind c z ps ws n starved place f row choice held leaves is moved reads g =
        (let k = again_held (settings t) c.held c z w e choice in
        again_served view p t word r q a s d es before behind m z (shown ps ws n z) wrote starved w e k.0 b0 b1 c0 c1 f0 f1 place f row (λ ans i. held ans i ∙ k.1) is moved g)
    by (steps.Tell e) before behind c z ps ws n starved place f row choice held leaves is moved reads g =
        told_served view p t word r q a s d es before behind m z (shown ps ws n z) wrote starved e b0 b1 c0 c1 f0 f1 sound.workers place f row (told (answers_of wrote starved 0 None ReadNotYet false 0) (is (answers_of wrote starved 0 None ReadNotYet false 0) refl refl)) (λ ans i. held ans i ∙ tell_held (settings t) c.held c z e choice) is moved g.0 g.1
      where
        told : (ans : Answers) → serve t ans s.round d ≡ pushes t ans s.round e (is_packet_event e) (shown ps ws n z) → z.session ≡ d.session
        told ans k = sym (looked_session t ans (shown ps ws n z)) ∙ sym (ap (λ (v : Served). v.conn.session) k) ∙ serve_session t ans s.round d
    by steps.Read before behind c z ps ws n starved place f row choice held leaves is moved reads g = read_served view p t word r q a s d es before behind m z ps ws n wrote starved b0 b1 c0 c1 f0 f1 tell place f (reads refl).0 row is moved g
    by steps.Moved before behind c z ps ws n starved place f row choice held leaves is moved reads g = moved_served view p t word r q a s d es before behind m z (shown ps ws n z) wrote starved b0 b1 c0 c1 f0 f1 place f row is moved g
    by steps.Stay before behind c z ps ws n starved place f row choice held leaves is moved reads g = stayed_served view p t word r q a s d es before behind m z (shown ps ws n z) wrote starved b0 b1 c0 c1 f0 f1 place f row is moved g
    by (steps.Leave e) before behind c z ps ws n starved place f row choice held leaves is moved reads g =
        left_served view p t word r q a s d es before behind m z ps ws n wrote starved e b0 b1 c0 c1 f0 f1 tell sound.keeps place f row (gone (is (answers_of wrote starved 0 None ReadNotYet false 0) refl refl)) (leaves e refl) is moved g
      where
        gone : serve t (answers_of wrote starved 0 None ReadNotYet false 0) s.round d ≡ plain (shown ps ws n z) (Leaves e) → z.session ≡ d.session
        gone k = sym (ap (λ (v : Served). v.conn.session) k) ∙ serve_session t (answers_of wrote starved 0 None ReadNotYet false 0) s.round d
