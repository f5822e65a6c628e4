-- A turn of a reactor.
use Rattle.std.proofs.Common.{◌≡◌, ℕ, ◌<◌, ◌≤◌, ◌^◌, Bool, true, List, ◌∷◌, [], ◌++◌, refl, ◌∙◌, sym, subst, arith}
use Rattle.sw_lists.specs.Lists.{collect, Each, Has}
use Rattle.sw_step.specs.declared.actor.ActorId.TheVariants.{Door, Reactor}
use Rattle.sw_data.specs.declared.ended.Ended.{Ended}
use Rattle.sw_link.specs.declared.memory_link.MemoryLink.{MemoryLink}
use Rattle.sw_port_book.specs.Plain.{Words}
use Rattle.sw_port_board.specs.PlainBoard.{PlainWords}
use Rattle.sw_record.specs.Terms.{Terms}
use Rattle.sw_table_laws.specs.Table.{Shape}
use Rattle.sw_join.specs.Legal.{LegalFor}
use Rattle.sw_past.specs.Past.{bare}
use Rattle.sw_past.specs.Views.{fresh_in}
use Rattle.sw_tmodel.specs.Plain.{PlainTable}
use Rattle.sw_world_ports.specs.Made.{accept_in}
use Rattle.sw_world_ports.specs.Ports.{all_ported}
use Rattle.sw_world_ports.specs.Law.{drawn_by}
use Rattle.sw_world_ports.proofs.Claims.{claims_last}
use Rattle.sw_lists.proofs.Lists.{each_at}
use Rattle.sw_world_ports.proofs.Haves.{each_has}
use Rattle.sw_world_laws.specs.Turns.{Got, Ask}
use Rattle.sw_world_laws.specs.World.{Core, handed}
use Rattle.sw_world_laws.specs.History.{History, diary_of}
use Rattle.sw_world_laws.specs.Law.{Holds, Law}
use Rattle.sw_world_laws.proofs.Locals.{words_found}
use Rattle.sw_world_laws.proofs.Turns.{fair_took, took_drawn}
use Rattle.sw_world_laws.proofs.Standing.{stands_there}
use Rattle.sw_world_fits.specs.Board.{number_of}
use Rattle.sw_world_fits.specs.Table.{TableStands}
use Rattle.sw_world_hands.specs.Hands.{Crews}
use Rattle.sw_world_places.specs.Pipes.{Asking, Getting}
use Rattle.sw_world_places.specs.Places.{Rows}
use Rattle.sw_world_front.specs.declared.front.Front.{Front}
use Rattle.sw_world_stands.specs.Asked.{ask_of, got_of}
use Rattle.sw_world_door.specs.Doors.{DoorState}
use Rattle.sw_reactor_table.specs.Reactor.{Reactor as Table}
use Rattle.sw_reactor.specs.declared.reactor.Reactor.{Reactor as CodeReactor}
use Rattle.sw_reactor.specs.Serving.{Turns}
use Rattle.sw_reactor_fits.specs.Told.{BringsNew}
use Rattle.sw_world_reactor.specs.Reactors.{ReactorTurn, QuietBy, RQuiet}
use Rattle.sw_world_reactor_fits.specs.Plain.{memory_tells, plain_ports, ReactorIs, got_of as reactor_got, ask_of as reactor_ask}
use Rattle.sw_world_reactor_fits.specs.Turns.{Before, TurnIs}
use Rattle.sw_world_reactor_fits.proofs.Turn.{turn_is}
use Rattle.sw_world_asks.specs.Due.{TurnIsDue}
use Rattle.sw_world_steps.specs.Server.{IsServed, server, AState, of_reactor}
use Rattle.sw_world_steps.specs.Shared.{SharedStands}
use Rattle.sw_world_steps.specs.Turns.{Keeps, ReactorGoes}
use Rattle.sw_world_steps.proofs.Same.{got_reactor, ask_reactor, ask_other}
use Rattle.sw_world_steps.proofs.Still.{still, table_still, front_still}

-- sessions that came to a reactor are none of number 0, and have 32 bits
low : (t : Terms) (served : IsServed t) (crews : Crews) (shape : Shape) (c : Core AState) (h : History) → Holds t (LegalFor shape) (server t served crews) c h → (n : ℕ) → Each (λ k. (¬ (k ≡ 0)) × (k < 2 ^ 32)) (collect fresh_in (bare (h.took (Reactor n))))
low t served crews shape c h l n =
    each_at (λ k. (¬ (k ≡ 0)) × (k < 2 ^ 32)) (collect fresh_in (bare (h.took (Reactor n))))
    (λ k has. (let drawn : Has k (drawn_by h.dids) = each_has (λ s. Has s (drawn_by h.dids)) (collect fresh_in (bare (h.took (Reactor n)))) k (took_drawn t (LegalFor shape) (server t served crews) c h l n) has in
    let b = l.ports.words.book in
    let w = each_has (λ s. (¬ (s ≡ 0)) × (s ≤ c.ports.last)) (drawn_by h.dids) k b.low drawn in
    let least : c.ports.last < 2 ^ 32 = subst (λ v. v < 2 ^ 32) (sym b.last_is) (claims_last t.max_conn t.session_last [] (collect accept_in (h.dids Door)) b.claims) in
    (w.0, let le : k ≤ c.ports.last = w.1 in omega (arith, le, least))))

-- before its turn all that the bridge asks stands
pub reactor_before : {E : Type 0} (puts : E → MemoryLink → Ended → Bool → E → Type 0) (kept_of : E → List (MemoryLink × Ended)) (t : Terms) (served : IsServed t) (crews : Crews) (shape : Shape) (n : ℕ) (c : Core AState) (s : Table) (d : DoorState) (r : CodeReactor MemoryLink ℕ) (f : Front) (b : Words) (o : PlainWords) (q : PlainTable) (e : E) (got made : Getting) (rows : Rows) →
    (law : Law t (LegalFor shape) (server t served crews) c) → n < t.reactor_num → c.states (Reactor n) ≡ of_reactor s → SharedStands t shape f b o q d c.ports → TurnIsDue t (LegalFor shape) (server t served crews) c (Reactor n) got rows → o.turn ≡ number_of t (Reactor n) →
    ReactorIs t r (kept_of e) s → got_of made ≡ got_of got → BringsNew memory_tells made → Keeps puts kept_of e → Before puts kept_of t n c.ports s (diary_of law.0 (Reactor n)) r made b o e
reactor_before {E} puts kept_of t served crews shape n c s d r f b o q e got made rows (past, l) lt is st due turn it same new keeps =
    let legal = LegalFor shape in
    let word : reactor_got made ≡ got_of got = got_reactor made ∙ same in
    let quiet : RQuiet t (Reactor n) s (got_of got) (diary_of past (Reactor n)) = subst (λ (x : AState). (server t served crews).Quiet (Reactor n) x (got_of got) (diary_of past (Reactor n))) is (due.quiet past l) in
    record {
      lt = lt;
      some = served.slots;
      sizes = served.sizes;
      fit = served.fit;
      quiet = subst (λ (g : Got). QuietBy t s g (diary_of past (Reactor n))) (sym word) quiet.1;
      word = words_found t legal (server t served crews) c past l n lt;
      fair = fair_took t legal (server t served crews) c past l n;
      low = low t served crews shape c past l n;
      there = stands_there t legal (server t served crews) c past l n lt;
      is = it;
      book = st.book;
      board = st.board;
      turn = turn;
      counts = l.ports.counts.cap;
      new = new;
      keeps = keeps;
    }

pub reactor_goes : {E : Type 0} (puts : E → MemoryLink → Ended → Bool → E → Type 0) (kept_of : E → List (MemoryLink × Ended)) (t : Terms) (served : IsServed t) (crews : Crews) (shape : Shape) (n : ℕ) (c : Core AState) (s : Table) (d : DoorState) (r r2 : CodeReactor MemoryLink ℕ) (f : Front) (b b2 : Words) (o o2 : PlainWords) (q : PlainTable) (e e2 : E) (got made : Getting) (ask : Asking) (rows : Rows) →
    Law t (LegalFor shape) (server t served crews) c → n < t.reactor_num → c.states (Reactor n) ≡ of_reactor s → SharedStands t shape f b o q d c.ports → TurnIsDue t (LegalFor shape) (server t served crews) c (Reactor n) got rows → o.turn ≡ number_of t (Reactor n) →
    ReactorIs t r (kept_of e) s → got_of made ≡ got_of got → BringsNew memory_tells made → Keeps puts kept_of e → Turns (plain_ports puts) r made b o e ask r2 b2 o2 e2 → ReactorGoes kept_of t served crews shape n c d got r2 e2 f b2 o2 q ask
reactor_goes {E} puts kept_of t served crews shape n c s d r r2 f b b2 o o2 q e e2 got made ask rows (past, l) lt is st due turn it same new keeps turns =
    let legal = LegalFor shape in
    let word : reactor_got made ≡ got_of got = got_reactor made ∙ same in
    let before = reactor_before puts kept_of t served crews shape n c s d r f b o q e got made rows (past, l) lt is st due turn it same new keeps in
    let k : TurnIs kept_of t legal n c.ports s made r2 ask b2 o o2 e2 = turn_is puts kept_of t legal n c.ports s (diary_of past (Reactor n)) r r2 made ask b b2 o o2 e e2 before turns in
    let goes : ReactorTurn t s (got_of got) k.dids k.state (ask_of ask) = subst (λ (a : Ask). ReactorTurn t s (got_of got) k.dids k.state a) (ask_reactor ask) (subst (λ (g : Got). ReactorTurn t s g k.dids k.state (reactor_ask ask)) word k.turns) in
    let did : (server t served crews).Turn (Reactor n) (c.states (Reactor n)) (got_of got) (handed (server t served crews).has c (Reactor n)) k.dids (of_reactor k.state) (ask_of ask) =
    subst (λ (x : AState). (server t served crews).Turn (Reactor n) x (got_of got) (handed (server t served crews).has c (Reactor n)) k.dids (of_reactor k.state) (ask_of ask)) (sym is) ((n, (lt, refl)), goes) in
    let may = (server t served crews).may (Reactor n) (c.states (Reactor n)) (got_of got) (handed (server t served crews).has c (Reactor n)) k.dids (of_reactor k.state) (ask_of ask) did in
    record {
      dids = k.dids;
      state = k.state;
      turn = (did, k.answers);
      new = ask_other (Reactor n) (λ x. absurd (cc)) ask;
      is = k.is;
      stands = record {
        front = front_still t f d c.ports (all_ported t c.ports (Reactor n) k.dids) st.front (still t (Reactor n) (λ x. absurd (cc)) k.dids c.ports may);
        book = k.book;
        board = k.board;
        table = subst (TableStands t shape q) (sym (table_still t n k.dids c.ports may)) st.table;
      };
    }
