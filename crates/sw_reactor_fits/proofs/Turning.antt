-- A turn of the code is the table's turn.
use Rattle.std.proofs.Common.{◌≡◌, ℕ, ◌+◌, ◌<◌, ◌==◌, Bool, true, false, nat_lt, if◌then◌else◌, List, [], ◌∷◌, ◌++◌, length, None, refl, ap, ◌∙◌, sym, subst, inl, arith}
use Rattle.std.proofs.lemmas.Bool.Decides.{nat_tests}
use Rattle.std.specs.Bool.{MatchBool}
use Rattle.sw_data.specs.declared.messages.Got.{Got}
use Rattle.sw_data.specs.declared.messages.Got.TheVariants as gots
use Rattle.sw_data.specs.declared.messages.Msg.{Msg}
use Rattle.sw_link.specs.declared.link.LinkWrite.TheVariants as writing
use Rattle.sw_link.specs.Reads.{ReadNotYet}
use Rattle.sw_lists.proofs.Lists.{length_append}
use Rattle.sw_port_board.specs.Board.{members}
use Rattle.sw_port_board.specs.declared.crew.Sizes.{Sizes as Crews}
use Rattle.sw_port_board.specs.declared.crew.Crew.TheVariants.{Workers}
use Rattle.sw_record.specs.Terms.{Terms}
use Rattle.sw_record.specs.Words.{Connect, Packet, Closed, Finish, Task}
use Rattle.sw_record.specs.declared.record.LinkRecord.{LinkRecord}
use Rattle.sw_past.specs.Messages.{Message, FreshMsg, SendMsg, CloseMsg, ResetMsg, Bye, EventMsg, OverMsg, NoMore}
use Rattle.sw_world_ports.specs.Calls.{Did, SeesStop}
use Rattle.sw_reactor_table.specs.Conn.{Conn as Row, Answers, stops}
use Rattle.sw_reactor_table.specs.Reactor.{Reactor as Table, Ask, Take, Push, Nothing, Rest, Finished, all, each_conn, settled, serves, chosen, ends_by}
use Rattle.sw_reactor_table.specs.Quiet.{IsIdle}
use Rattle.sw_reactor.specs.declared.reactor.Asked.{Asked}
use Rattle.sw_reactor.specs.declared.reactor.Reactor.{Reactor}
use Rattle.sw_reactor.specs.Turn.{Asks, Takes, ends_ask, ends_asked}
use Rattle.sw_reactor.specs.Serving.{Ports, Serves, ServesNext, Chooses_by, Turns, CountsPacket, counts, counts_asked}
use Rattle.sw_reactor_fits.specs.Told.{Telling, DoTell, BringsNew}
use Rattle.sw_reactor_fits.specs.Fits.{WasPush, WasAsked, Same, Fits, got_of, IsBack, Sizes, Bounds}
use Rattle.sw_world_reactor.specs.Calls.{NextCalls, ChoiceCalls, packets_counted}
use Rattle.sw_reactor_laws.specs.Bounds.{InBounds}
use Rattle.sw_reactor_fits.specs.Ports.{DidsGo, EndsGo, AreSound, IsTheTables}
use Rattle.sw_reactor_fits.proofs.Rows.{rows_length}
use Rattle.sw_reactor_fits.proofs.Settled.{settles, asked_stays}
use Rattle.sw_reactor_fits.proofs.Chosen.{IsTurn, takes_is, ends_is}
use Rattle.sw_reactor_fits.proofs.Served.{IsServe, next_served}
use Rattle.sw_reactor_table.proofs.Everywhere.{settled_over}

-- what a choice comes to, with what its answers rest on
pub record IsChoice {L K B C E : Type 0} (view : Telling L K) (p : Ports L K B C E) (t : Terms) (q : Reactor L K) (a : Asks L K) (s : Table) (ask : Ask) (b0 : B) (c0 : C) (f0 : E) (b1 : B) (c1 : C) (f1 : E) : Type 0 where
  pub answers : Answers
  pub turn : IsTurn view t q a (chosen t answers ask s)
  pub idle : IsIdle t answers
  pub dids : List Did
  pub calls : ChoiceCalls t answers ask s dids
  pub went : DidsGo p dids b0 c0 b1 c1
  pub ends : EndsGo view p s.over f0 (chosen t answers ask s).over f1

-- the answers of a turn without a serve
abbrev plain_answers : Bool → Answers
plain_answers stop = record { stop = stop; look = 0; idle = None; write = writing.NotYet; read = ReadNotYet; cut_starved = false; feed_starved = false; released = 0 }

-- without a connection, and at a take, no link ends
ends_over : (t : Terms) (s : Table) → (ends_by t s).over ≡ s.over
ends_over t s = pick (nat_lt 0 s.ends) (nat_lt s.given t.worker_num) (s.ends == 1 + t.worker_num + t.tasker_num)
  where
    pick : (x y z : Bool) → ◌≡◌ {A = List LinkRecord} (if x then (if y then record s { last = Push s.given NoMore } else (if z then record s { last = Finished } else record s { last = Rest })) else record s { last = Rest }).over s.over
    pick true true z = refl
    pick true false true = refl
    pick true false false = refl
    pick false y z = refl

take_over : (s : Table) (b : Bool) → ◌≡◌ {A = List LinkRecord} (record (if b then each_conn stops s else s) { last = Take }).over s.over
take_over s true = refl
take_over s false = refl

-- after a take
serves_is : {L K B C E : Type 0} (view : Telling L K) (p : Ports L K B C E) (t : Terms) (word : ℕ → ℕ) (r q : Reactor L K) (a : Asks L K) (s : Table) (b0 b1 : B) (c0 c1 : C) (f0 f1 : E) → DoTell view p → AreSound t p c0 f0 → Sizes t → Same view t r s → Bounds t s → (next : List Row) → s.next ≡ next → Serves p r b0 c0 f0 a q b1 c1 f1 → IsChoice view p t q a s Take b0 c0 f0 b1 c1 f1
serves_is {L} {K} view p t word r q a s b0 b1 c0 c1 f0 f1 tell sound sizes h b [] e z =
    (let y = subst (λ (x : Bool). MatchBool x (ServesNext p r b0 c0 f0 a q b1 c1 f1) ((a ≡ ends_ask r) × (q ≡ record r { asked = ends_asked r }) × (b1 ≡ b0) × (c1 ≡ c0) × (f1 ≡ f0))) test z in
    record {
      answers = plain_answers false;
      turn = subst (λ (ds : List Row). IsTurn view t q a (serves t (plain_answers false) ds s)) (sym e) (ends_is view t r q s a sizes h y.0 y.1);
      idle = λ j g. absurd (cc);
      dids = [];
      calls = subst (λ (ds : List Row). NextCalls t (plain_answers false) s.round ds []) (sym e) (refl, refl);
      went = (y.2, y.3);
      ends = inl (ap (λ (ds : List Row). (serves t (plain_answers false) ds s).over) e ∙ ends_over t s, y.4);
    })
  where
    none : length r.line.conns ≡ 0
    none = rows_length view t r.line.conns (all s) h.rows ∙ ap length (ap (λ (ds : List Row). ds ++ s.next) (h.tight e) ∙ e)

    test : nat_lt r.at (length r.line.conns) ≡ false
    test = ap (nat_lt r.at) none ∙ low r.at
      where
        low : (n : ℕ) → nat_lt n 0 ≡ false
        low n = grind (arith, nat_tests)
serves_is {L} {K} view p t word r q a s b0 b1 c0 c1 f0 f1 tell sound sizes h b (d ∷ es) e z =
    (let y = subst (λ (x : Bool). MatchBool x (ServesNext p r b0 c0 f0 a q b1 c1 f1) ((a ≡ ends_ask r) × (q ≡ record r { asked = ends_asked r }) × (b1 ≡ b0) × (c1 ≡ c0) × (f1 ≡ f0))) test z in
    let v : IsServe view p t word q a s d es b0 c0 f0 b1 c1 f1 = next_served view p t word r q a s d es b0 b1 c0 c1 f0 f1 tell sound sizes h b e y in
    record {
      answers = v.answers;
      turn = subst (λ (ds : List Row). IsTurn view t q a (serves t v.answers ds s)) (sym e) v.goes;
      idle = v.idle;
      dids = v.dids;
      calls = subst (λ (ds : List Row). NextCalls t v.answers s.round ds v.dids) (sym e) v.calls;
      went = v.went;
      ends = subst (λ (ds : List Row). EndsGo view p s.over f0 (serves t v.answers ds s).over f1) (sym e) v.ends;
    })
  where
    size : length r.line.conns ≡ length s.done + (length es + 1)
    size = rows_length view t r.line.conns (all s) h.rows ∙ ap (λ (ds : List Row). length (s.done ++ ds)) e ∙ length_append s.done (d ∷ es) ∙ (let g : length s.done + length (d ∷ es) ≡ length s.done + (length es + 1) = omega arith in g)

    test : nat_lt r.at (length r.line.conns) ≡ true
    test = less r.at (length r.line.conns) (let g : r.at ≡ length s.done = h.at in let k : length r.line.conns ≡ length s.done + (length es + 1) = size in omega arith)
      where
        less : (m n : ℕ) → m < n → nat_lt m n ≡ true
        less m n lt = grind (arith, nat_tests)

-- and else a take
take_choice : {L K B C E : Type 0} (view : Telling L K) (p : Ports L K B C E) (t : Terms) (r q : Reactor L K) (a : Asks L K) (s : Table) (ask : Ask) (b0 b1 : B) (c0 c1 : C) (f0 f1 : E) → Same view t r s → Takes p.goes r c0 a q c1 × (b1 ≡ b0) × (f1 ≡ f0) → ((stop : Bool) → chosen t (plain_answers stop) ask s ≡ record (if stop then each_conn stops s else s) { last = Take }) → ((stop : Bool) → ChoiceCalls t (plain_answers stop) ask s (SeesStop stop ∷ [])) → IsChoice view p t q a s ask b0 c0 f0 b1 c1 f1
take_choice view p t r q a s ask b0 b1 c0 c1 f0 f1 h z is calls =
    (let y = takes_is p.goes view t r q s c0 c1 a h z.0 in
    record {
      answers = plain_answers y.0;
      turn = subst (λ (x : Table). IsTurn view t q a x) (sym (is y.0)) y.1.1;
      idle = λ j g. absurd (cc);
      dids = SeesStop y.0 ∷ [];
      calls = calls y.0;
      went = (b0, (c1, ((y.1.0, refl), (z.1, refl))));
      ends = inl (ap (λ (x : Table). x.over) (is y.0) ∙ take_over s y.0, z.2);
    })

chosen_is : {L K B C E : Type 0} (view : Telling L K) (p : Ports L K B C E) (t : Terms) (word : ℕ → ℕ) (r q : Reactor L K) (a : Asks L K) (s : Table) (b0 b1 : B) (c0 c1 : C) (f0 f1 : E) → DoTell view p → AreSound t p c0 f0 → Sizes t → Same view t r s → Bounds t s → (given : ℕ) (ask : Ask) → WasAsked t given ask r.asked → Chooses_by p r.asked r b0 c0 f0 a q b1 c1 f1 → IsChoice view p t q a s ask b0 c0 f0 b1 c1 f1
chosen_is view p t word r q a s b0 b1 c0 c1 f0 f1 tell sound sizes h b given Take was z = serves_is view p t word r q a s b0 b1 c0 c1 f0 f1 tell sound sizes h b s.next refl (subst (λ (k : Asked). Chooses_by p k r b0 c0 f0 a q b1 c1 f1) was z)
chosen_is view p t word r q a s b0 b1 c0 c1 f0 f1 tell sound sizes h b given Nothing was z = take_choice view p t r q a s Nothing b0 b1 c0 c1 f0 f1 h (subst (λ (k : Asked). Chooses_by p k r b0 c0 f0 a q b1 c1 f1) was z) (λ stop. refl) (λ stop. (refl, refl))
chosen_is view p t word r q a s b0 b1 c0 c1 f0 f1 tell sound sizes h b given Rest was z = take_choice view p t r q a s Rest b0 b1 c0 c1 f0 f1 h (subst (λ (k : Asked). Chooses_by p k r b0 c0 f0 a q b1 c1 f1) was z) (λ stop. refl) (λ stop. (refl, refl))
chosen_is view p t word r q a s b0 b1 c0 c1 f0 f1 tell sound sizes h b given Finished was z = take_choice view p t r q a s Finished b0 b1 c0 c1 f0 f1 h (subst (λ (k : Asked). Chooses_by p k r b0 c0 f0 a q b1 c1 f1) was z) (λ stop. refl) (λ stop. (refl, refl))
chosen_is view p t word r q a s b0 b1 c0 c1 f0 f1 tell sound sizes h b given (Push w m) was z = take_choice view p t r q a s (Push w m) b0 b1 c0 c1 f0 f1 h (pushed m was) (λ stop. refl) (λ stop. (refl, refl))
  where
    pushed : (x : Message) → WasPush t given w x r.asked → Takes p.goes r c0 a q c1 × (b1 ≡ b0) × (f1 ≡ f0)
    pushed (EventMsg e) y = subst (λ (k : Asked). Chooses_by p k r b0 c0 f0 a q b1 c1 f1) y.0 z
    pushed NoMore y = subst (λ (k : Asked). Chooses_by p k r b0 c0 f0 a q b1 c1 f1) y.0 z
    pushed (FreshMsg ip s) y = absurd y
    pushed (SendMsg s x) y = absurd y
    pushed (CloseMsg s) y = absurd y
    pushed (ResetMsg s) y = absurd y
    pushed (Bye s) y = absurd y
    pushed (OverMsg id) y = absurd y

-- a packet that was pushed is counted first
counts_go : {L K B C E : Type 0} (p : Ports L K B C E) (t : Terms) (given : ℕ) (last : Ask) (r : Reactor L K) → WasAsked t given last r.asked → (got : Got (Msg L K)) (b0 : B) (c0 c2 : C) → CountsPacket p.goes (counts r got) c0 c2 → DidsGo p (packets_counted (got_of p.number got) last) b0 c0 b0 c2
counts_go p t given last r was gots.Start b0 c0 c2 z = (refl, z)
counts_go p t given last r was (gots.Took m) b0 c0 c2 z = (refl, z)
counts_go p t given last r was gots.Empty b0 c0 c2 z = (refl, z)
counts_go p t given last r was (gots.Full m) b0 c0 c2 z = (refl, z)
counts_go p t given last r was gots.Nothing b0 c0 c2 z = (refl, z)
counts_go p t given Take r was gots.Pushed b0 c0 c2 z = (refl, subst (λ (k : Asked). CountsPacket p.goes (counts_asked k) c0 c2) was z)
counts_go p t given Nothing r was gots.Pushed b0 c0 c2 z = (refl, subst (λ (k : Asked). CountsPacket p.goes (counts_asked k) c0 c2) was z)
counts_go p t given Rest r was gots.Pushed b0 c0 c2 z = (refl, subst (λ (k : Asked). CountsPacket p.goes (counts_asked k) c0 c2) was z)
counts_go p t given Finished r was gots.Pushed b0 c0 c2 z = (refl, subst (λ (k : Asked). CountsPacket p.goes (counts_asked k) c0 c2) was z)
counts_go p t given (Push w (EventMsg (Connect s))) r was gots.Pushed b0 c0 c2 z = (refl, subst (λ (k : Asked). CountsPacket p.goes (counts_asked k) c0 c2) was.0 z)
counts_go p t given (Push w (EventMsg (Packet s i b))) r was gots.Pushed b0 c0 c2 z = (b0, (c2, ((subst (λ (k : Asked). CountsPacket p.goes (counts_asked k) c0 c2) was.0 z, refl), (refl, refl))))
counts_go p t given (Push w (EventMsg (Closed s))) r was gots.Pushed b0 c0 c2 z = (refl, subst (λ (k : Asked). CountsPacket p.goes (counts_asked k) c0 c2) was.0 z)
counts_go p t given (Push w (EventMsg (Finish id b))) r was gots.Pushed b0 c0 c2 z = absurd was.1
counts_go p t given (Push w (EventMsg (Task v id b))) r was gots.Pushed b0 c0 c2 z = absurd was.1
counts_go p t given (Push w NoMore) r was gots.Pushed b0 c0 c2 z = (refl, subst (λ (k : Asked). CountsPacket p.goes (counts_asked k) c0 c2) was.0 z)
counts_go p t given (Push w (FreshMsg ip s)) r was gots.Pushed b0 c0 c2 z = absurd was
counts_go p t given (Push w (SendMsg s b)) r was gots.Pushed b0 c0 c2 z = absurd was
counts_go p t given (Push w (CloseMsg s)) r was gots.Pushed b0 c0 c2 z = absurd was
counts_go p t given (Push w (ResetMsg s)) r was gots.Pushed b0 c0 c2 z = absurd was
counts_go p t given (Push w (Bye s)) r was gots.Pushed b0 c0 c2 z = absurd was
counts_go p t given (Push w (OverMsg id)) r was gots.Pushed b0 c0 c2 z = absurd was

sound_then : {L K B C E : Type 0} (t : Terms) (p : Ports L K B C E) (b : Bool) (c0 c2 : C) (f0 : E) → CountsPacket p.goes b c0 c2 → AreSound t p c0 f0 → AreSound t p c2 f0
sound_then t p true c0 c2 f0 z s = record { workers = ap (λ (k : Crews). members Workers k) (s.sizes c0 c2 _ z) ∙ s.workers; sizes = s.sizes; keeps = s.keeps }
sound_then {L} {K} {B} {C} t p false c0 c2 f0 z s = subst (λ (k : C). AreSound t p k f0) (sym z) s

-- one after the other
dids_append : {L K B C E : Type 0} (p : Ports L K B C E) (xs ys : List Did) (b0 b1 b2 : B) (c0 c1 c2 : C) → DidsGo p xs b0 c0 b1 c1 → DidsGo p ys b1 c1 b2 c2 → DidsGo p (xs ++ ys) b0 c0 b2 c2
dids_append {L} {K} {B} {C} p [] ys b0 b1 b2 c0 c1 c2 h k = subst (λ (b : B). DidsGo p ys b c0 b2 c2) h.0 (subst (λ (c : C). DidsGo p ys b1 c b2 c2) h.1 k)
dids_append p (x ∷ xs) ys b0 b1 b2 c0 c1 c2 (b, (c, (h, rest))) k = (b, (c, (h, dids_append p xs ys b b1 b2 c c1 c2 rest k)))

-- a whole turn
pub turns_is : {L K B C E : Type 0} (view : Telling L K) (p : Ports L K B C E) (t : Terms) (word : ℕ → ℕ) (r q : Reactor L K) (got : Got (Msg L K)) (a : Asks L K) (s : Table) (b0 b1 : B) (c0 c1 : C) (f0 f1 : E) → DoTell view p → AreSound t p c0 f0 → BringsNew view got → Sizes t → Fits view t r s → InBounds s → IsBack s.last (got_of p.number got) → ((starved : Bool) → Bounds t (settled t starved (got_of p.number got) s)) → Turns p r got b0 c0 f0 a q b1 c1 f1 → IsTheTables view t p s (got_of p.number got) b0 c0 f0 q a b1 c1 f1
turns_is {L} {K} view p t word r q got a s b0 b1 c0 c1 f0 f1 tell sound new sizes h b back later (m, (z, (c2, (counted, y)))) =
    (let x = settles view t p.number r m s got tell.number new sizes h b back z in
    let now : Table = settled t x.0 (got_of p.number got) s in
    let was : WasAsked t s.given s.last m.asked = subst (WasAsked t s.given s.last) (sym (asked_stays p.number r m got z)) h.was in
    let v : IsChoice view p t q a now s.last b0 c2 f0 b1 c1 f1 = chosen_is view p t word m q a now b0 b1 c2 c1 f0 f1 tell (sound_then t p (counts r got) c0 c2 f0 counted sound) sizes x.1 (later x.0) s.given s.last was y in
    record {
      starved = x.0;
      answers = v.answers;
      fits = v.turn.fits;
      asks = v.turn.asks;
      idle = v.idle;
      dids = packets_counted (got_of p.number got) s.last ++ v.dids;
      calls = (v.dids, (refl, v.calls));
      went = dids_append p (packets_counted (got_of p.number got) s.last) v.dids b0 b0 b1 c0 c2 c1 (counts_go p t s.given s.last r h.was got b0 c0 c2 counted) v.went;
      ends = subst (λ (over : List LinkRecord). EndsGo view p over f0 (chosen t v.answers s.last now).over f1) (settled_over t x.0 (got_of p.number got) s) v.ends;
    })
