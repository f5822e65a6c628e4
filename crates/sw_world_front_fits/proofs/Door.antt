-- The code's turns are the family's.
use Rattle.std.specs.Bool.{MatchBool}
use Rattle.std.proofs.Common.{◌≡◌, ℕ, ◌+◌, ◌%◌, ◌<◌, ◌≤◌, nat_lt, Bool, true, false, if◌then◌else◌, List, [], ◌∷◌, ◌++◌, refl, ap, ◌∙◌, sym, subst, arith, Option, Some, None, Result, Ok, Err}
use Rattle.std.proofs.lemmas.Bool.Decides.{nat_tests}
use Rattle.sw_step.specs.declared.actor.ActorId.{ActorId}
use Rattle.sw_step.specs.declared.actor.ActorId.TheVariants.{Door as TheDoor, Reactor}
use Rattle.sw_data.specs.declared.ended.Cause.{Cause}
use Rattle.sw_data.specs.declared.messages.Msg.TheVariants as msgs
use Rattle.sw_data.specs.declared.messages.Ask.TheVariants as asks
use Rattle.sw_data.specs.declared.messages.Got.TheVariants as gots
use Rattle.sw_data.specs.declared.messages.Target.TheVariants as targets
use Rattle.sw_link.specs.declared.memory_link.MemoryLink.{MemoryLink}
use Rattle.sw_link.specs.declared.net.Accept.{Accept}
use Rattle.sw_link.specs.declared.net.Accept.TheVariants as accepts
use Rattle.sw_link.specs.MemoryNets.{Plan, AcceptsBy}
use Rattle.sw_port_book.specs.declared.answers.ClaimFault.{ClaimFault}
use Rattle.sw_port_book.specs.declared.answers.ClaimFault.TheVariants as faults
use Rattle.sw_port_book.specs.Plain.{Words, plain_claim}
use Rattle.sw_port_board.specs.declared.board.BoardStep.TheVariants as steps
use Rattle.sw_port_board.specs.PlainBoard.{PlainWords, PlainGoes}
use Rattle.sw_base.specs.declared.counter.Counter.TheVariants as counters
use Rattle.sw_door.specs.declared.door.Door.{Door}
use Rattle.sw_door.specs.Door.{IsNew, cause_of, reactor_of as code_reactor_of, Looks, Counts, Claimed, AcceptsAs, Accepts as CodeAccepts, Ends}
use Rattle.sw_record.specs.Words.{AcceptedCount, EndedCount}
use Rattle.sw_record.specs.Terms.{Terms, reactor_of}
use Rattle.sw_past.specs.Claims.{Claim, Drew, Full, Spent, drew}
use Rattle.sw_past.specs.Messages.{FreshMsg, NoMore}
use Rattle.sw_table_laws.specs.Table.{Shape}
use Rattle.sw_join.specs.Legal.{LegalFor}
use Rattle.sw_world_ports.specs.Calls.{Accepts, NoLink, NetOver, SeesStop, Adds}
use Rattle.sw_world_ports.specs.Ports.{Ports, behind, claimed, ported, all_ported}
use Rattle.sw_world_laws.specs.Turns.{AskPush}
use Rattle.sw_world_fits.specs.Net.{NetStands, AcceptIs, waits_then}
use Rattle.sw_world_fits.specs.Book.{BookStands, claim_of as answer_of}
use Rattle.sw_world_fits.specs.Board.{number_of, BoardStands}
use Rattle.sw_world_fits.proofs.Board.{stopped_fits}
use Rattle.sw_world_fits.proofs.Book.{claim_fits}
use Rattle.sw_world_fits.proofs.Net.{accept_fits}
use Rattle.sw_world_places.specs.Pipes.{Asking, Getting}
use Rattle.sw_world_places.specs.declared.arrived.Claimed.{Claimed as CodeClaimed}
use Rattle.sw_world_places.specs.declared.arrived.Claimed.TheVariants as links
use Rattle.sw_world_stands.specs.Asked.{bare_of}
use Rattle.sw_world_stands.specs.Links.{claim_of as code_claim}
use Rattle.sw_world_door.specs.Doors.{DoorState, new_door, Reads, NotYet, NetEnds, Draws, Refuses as RefusesLink, SaysNext, Finishes}
use Rattle.sw_world_front.specs.Front.{claim_gives, put_gives, PlainGoesOn, PlainTurns, claim_by}
use Rattle.sw_world_front_fits.specs.Door.{DoorIs, Moves, Stand, GoesFit, TurnFits}
use Rattle.sw_world_front_fits.proofs.Caps.{Caps, caps_added, adds, accepted}

-- a turn that reads the stop word
looks_fit : (t : Terms) (shape : Shape) (p : Ports) (d : Door) (s : DoorState) (n : Plan) (b : Words) (o q : PlainWords) (stop : Bool) → DoorIs t d s → Stand t p n b o → s.ending ≡ false → s.accepts ≡ false →
    PlainGoes o (steps.SawStop stop ∷ []) q → GoesFit t shape p s (record d { ending = stop; accepts = true }) n b q None asks.Nothing
looks_fit t shape p d s n b o q stop i st e a g =
    let k = stopped_fits t (LegalFor shape) o q p TheDoor stop st.board g in
    record {
      dids = SeesStop stop ∷ [];
      state = record s { accepts = true; ending = stop };
      turns = Reads stop e a refl refl refl;
      answers = (k.0, tt);
      is = record { slots = i.slots; reactors = i.reactors; ending = refl; accepts = refl; given = i.given; to = i.to };
      stand = record { net = st.net; book = st.book; board = k.1; turn = ap (λ (w : PlainWords). w.turn) g.1 ∙ st.turn };
      moves = (refl, refl);
      table = refl;
    }

-- a turn of an end
tells_fit : (t : Terms) (shape : Shape) (p : Ports) (d : Door) (s : DoorState) (n : Plan) (b : Words) (o : PlainWords) → DoorIs t d s → Stand t p n b o → s.ending ≡ true → d.given < d.reactors →
    GoesFit t shape p s (record d { to = d.given; given = d.given + 1 }) n b o None (asks.Push (targets.Reactor d.given) msgs.NoMore)
tells_fit t shape p d s n b o i st e lt =
    record {
      dids = [];
      state = record s { given = s.given + 1; to = Reactor s.given };
      turns = SaysNext e (subst (λ (k : ℕ). k < t.reactor_num) i.given (subst (λ (k : ℕ). d.given < k) i.reactors lt)) refl refl (ap (λ (k : ℕ). AskPush (Reactor k) NoMore) i.given);
      answers = tt;
      is = record { slots = i.slots; reactors = i.reactors; ending = i.ending; accepts = i.accepts; given = ap (λ (k : ℕ). k + 1) i.given; to = ap (λ (k : ℕ). Reactor k) i.given };
      stand = st;
      moves = (refl, refl);
      table = refl;
    }

finishes_fit : (t : Terms) (shape : Shape) (p : Ports) (d : Door) (s : DoorState) (n : Plan) (b : Words) (o : PlainWords) → DoorIs t d s → Stand t p n b o → s.ending ≡ true → ¬ (d.given < d.reactors) →
    GoesFit t shape p s d n b o None asks.Finished
finishes_fit t shape p d s n b o i st e ge =
    record {
      dids = [];
      state = s;
      turns = Finishes e (λ lt. ge (subst (λ (k : ℕ). k < d.reactors) (sym i.given) (subst (λ (k : ℕ). s.given < k) (sym i.reactors) lt))) refl refl refl;
      answers = tt;
      is = i;
      stand = st;
      moves = (refl, refl);
      table = refl;
    }

ends_fit : (t : Terms) (shape : Shape) (p : Ports) (d e : Door) (s : DoorState) (n : Plan) (b : Words) (o : PlainWords) (ask : Asking) → DoorIs t d s → Stand t p n b o → s.ending ≡ true → Ends d ask e → GoesFit t shape p s e n b o None ask
ends_fit t shape p d e s n b o ask i st ending h = pick (nat_lt d.given d.reactors) refl h
  where
    pick : (v : Bool) → nat_lt d.given d.reactors ≡ v → MatchBool v ((ask ≡ asks.Push (targets.Reactor d.given) msgs.NoMore) × (e ≡ record d { to = d.given; given = d.given + 1 })) ((ask ≡ asks.Finished) × (e ≡ d)) → GoesFit t shape p s e n b o None ask
    pick true q k =
        subst (λ (a : Asking). GoesFit t shape p s e n b o None a) (sym k.0)
        (subst (λ (x : Door). GoesFit t shape p s x n b o None (asks.Push (targets.Reactor d.given) msgs.NoMore)) (sym k.1)
        (tells_fit t shape p d s n b o i st ending (let lt : d.given < d.reactors = grind (arith, nat_tests) in lt)))
    pick false q k =
        subst (λ (a : Asking). GoesFit t shape p s e n b o None a) (sym k.0)
        (subst (λ (x : Door). GoesFit t shape p s x n b o None asks.Finished) (sym k.1)
        (finishes_fit t shape p d s n b o i st ending (λ lt. let no : d.reactors ≤ d.given = grind (arith, nat_tests) in omega (arith, lt, no))))

-- a link that drew a session
draws_fit : (t : Terms) (shape : Shape) (p : Ports) (d : Door) (s : DoorState) (m : Plan) (c : Words) (o q : PlainWords) (link : MemoryLink) (ip k : ℕ) (rest : List ℕ) → DoorIs t d s →
    BoardStands t o p → o.turn ≡ number_of t TheDoor → Caps p → s.ending ≡ false → s.accepts ≡ true → p.waiting ≡ ip ∷ rest → NetStands m (behind p.waiting) p.ended → (claimed t p).0 ≡ Drew k →
    BookStands t c (ported t p TheDoor (Accepts ip (Drew k))) → PlainGoes o (steps.Added counters.Accepted ∷ []) q →
    GoesFit t shape p s (record d { accepts = false; to = code_reactor_of d k }) m c q None (asks.Push (targets.Reactor (code_reactor_of d k)) (msgs.Fresh link ip k))
draws_fit t shape p d s m c o q link ip k rest i board turn caps e a waits net claim book g =
    let one : Ports = ported t p TheDoor (Accepts ip (Drew k)) in
    let added = adds t o q one AcceptedCount (accepted t o p ip (Drew k) board) turn caps g in
    let same : code_reactor_of d k ≡ reactor_of t k = ap (λ (x : ℕ). k % x % d.reactors) i.slots ∙ ap (λ (x : ℕ). k % t.max_conn % x) i.reactors in
    record {
      dids = Accepts ip (Drew k) ∷ Adds AcceptedCount ∷ [];
      state = record s { accepts = false; to = Reactor (reactor_of t k) };
      turns = Draws ip k e a refl refl (ap (λ (x : ℕ). AskPush (Reactor x) (FreshMsg ip k)) same);
      answers = (((rest, waits), claim), (tt, tt));
      is = record { slots = i.slots; reactors = i.reactors; ending = i.ending; accepts = refl; given = i.given; to = ap (λ (x : ℕ). Reactor x) same };
      stand = record { net = net; book = record { slots = book.slots; last = book.last }; board = added.0; turn = added.1 };
      moves = (ip, (rest, (waits, refl, ap behind waits)));
      table = refl;
    }

-- a link without a session
refused_fit : (t : Terms) (shape : Shape) (p : Ports) (d : Door) (s : DoorState) (m : Plan) (c : Words) (o q r : PlainWords) (ip : ℕ) (rest : List ℕ) (claim : Claim) (x : CodeClaimed) (last : Option Cause) → DoorIs t d s →
    BoardStands t o p → o.turn ≡ number_of t TheDoor → Caps p → s.ending ≡ false → s.accepts ≡ true → p.waiting ≡ ip ∷ rest → NetStands m (behind p.waiting) p.ended → (claimed t p).0 ≡ claim →
    drew claim ≡ [] → claim_by None last ≡ Some x → code_claim x ≡ claim →
    BookStands t c (ported t p TheDoor (Accepts ip claim)) → PlainGoes o (steps.Added counters.Accepted ∷ []) q → PlainGoes q (steps.Added counters.Ended ∷ []) r →
    GoesFit t shape p s (record d { accepts = false }) m c r last asks.Nothing
refused_fit t shape p d s m c o q r ip rest claim x last i board turn caps e a waits net is none seen stands book g h =
    let one : Ports = ported t p TheDoor (Accepts ip claim) in
    let two : Ports = ported t one TheDoor (Adds AcceptedCount) in
    let added = adds t o q one AcceptedCount (accepted t o p ip claim board) turn caps g in
    let more = adds t q r two EndedCount added.0 added.1 (caps_added one.counts TheDoor AcceptedCount caps) h in
    record {
      dids = Accepts ip claim ∷ Adds AcceptedCount ∷ Adds EndedCount ∷ [];
      state = record s { accepts = false };
      turns = RefusesLink ip claim none e a refl refl refl;
      answers = (((rest, waits), is), (tt, (tt, tt)));
      is = record { slots = i.slots; reactors = i.reactors; ending = i.ending; accepts = refl; given = i.given; to = i.to };
      stand = record { net = net; book = record { slots = book.slots; last = book.last }; board = more.0; turn = more.1 };
      moves = subst (λ (v : Option CodeClaimed). Moves v p (all_ported t p TheDoor (Accepts ip claim ∷ Adds AcceptedCount ∷ Adds EndedCount ∷ []))) (sym seen) (ip, (rest, (waits, ap (λ (v : Claim). p.given ++ (ip, v) ∷ []) (sym stands), ap behind waits)));
      table = refl;
    }

-- the same at equal values
carry : (t : Terms) (shape : Shape) (p : Ports) (s : DoorState) (m : Plan) (e e2 : Door) (c c2 : Words) (q q2 : PlainWords) (g g2 : Option Cause) (ask ask2 : Asking) → e ≡ e2 → c ≡ c2 → q ≡ q2 → g ≡ g2 → ask ≡ ask2 → GoesFit t shape p s e2 m c2 q2 g2 ask2 → GoesFit t shape p s e m c q g ask
carry t shape p s m e e2 c c2 q q2 g g2 ask ask2 ie ic iq ig ia h =
    subst (λ (x : Door). GoesFit t shape p s x m c q g ask) (sym ie)
    (subst (λ (x : Words). GoesFit t shape p s e2 m x q g ask) (sym ic)
    (subst (λ (x : PlainWords). GoesFit t shape p s e2 m c2 x g ask) (sym iq)
    (subst (λ (x : Option Cause). GoesFit t shape p s e2 m c2 q2 x ask) (sym ig)
    (subst (λ (x : Asking). GoesFit t shape p s e2 m c2 q2 g2 x) (sym ia) h))))

-- a put keeps the cause, and the end is counted
count_true : (o q : PlainWords) (kept : Bool) → kept ≡ true → Counts PlainGoes kept o q → PlainGoes o (steps.Added counters.Ended ∷ []) q
count_true o q kept e h = subst (λ (v : Bool). Counts PlainGoes v o q) e h

lost_same : (d : Door) (kept : Bool) → kept ≡ true → record d { lost = (if kept then d.lost else true) } ≡ d
lost_same d kept e = ap (λ (v : Bool). record d { lost = (if v then d.lost else true) }) e

-- an accept
module _ (t : Terms) (shape : Shape) (p : Ports) (d e : Door) (s : DoorState) (n m : Plan) (b c : Words) (o q : PlainWords) (g : Option Cause) (ask : Asking) (i : DoorIs t d s) (st : Stand t p n b o) (caps : Caps p) (some : 1 ≤ t.max_conn) (ending : s.ending ≡ false) (accepting : s.accepts ≡ true) where
  claimed_fit : (link : MemoryLink) (ip : ℕ) (rest : List ℕ) (mid : PlainWords) → p.waiting ≡ ip ∷ rest → NetStands m (behind p.waiting) p.ended → PlainGoes o (steps.Added counters.Accepted ∷ []) mid →
      (r : Result ℕ ClaimFault) → (claimed t p).0 ≡ answer_of r → BookStands t c (ported t p TheDoor (Accepts ip (answer_of r))) →
      Claimed (λ (k : ℕ). k) PlainGoes put_gives r (record d { accepts = false }) link ip mid None e q g ask → GoesFit t shape p s e m c q g ask
  claimed_fit link ip rest mid waits net counts (Ok k) is book h =
      carry t shape p s m e (record d { accepts = false; to = code_reactor_of d k }) c c q mid g None ask (asks.Push (targets.Reactor (code_reactor_of d k)) (msgs.Fresh link ip k)) h.0.0 refl h.1 h.2 h.0.1
      (draws_fit t shape p d s m c o mid link ip k rest i st.board st.turn caps ending accepting waits net is book counts)
  claimed_fit link ip rest mid waits net counts (Err (faults.Full k)) is book (kept, (put, count, lost, asked)) =
      carry t shape p s m e (record d { accepts = false }) c c q q g (Some (cause_of (faults.Full k))) ask asks.Nothing (lost ∙ lost_same (record d { accepts = false }) kept put.0) refl refl put.1 asked
      (refused_fit t shape p d s m c o mid q ip rest Full links.NoSlot (Some (cause_of (faults.Full k))) i st.board st.turn caps ending accepting waits net is refl refl refl book counts (count_true mid q kept put.0 count))
  claimed_fit link ip rest mid waits net counts (Err faults.Spent) is book (kept, (put, count, lost, asked)) =
      carry t shape p s m e (record d { accepts = false }) c c q q g (Some (cause_of faults.Spent)) ask asks.Nothing (lost ∙ lost_same (record d { accepts = false }) kept put.0) refl refl put.1 asked
      (refused_fit t shape p d s m c o mid q ip rest Spent links.NumbersSpent (Some (cause_of faults.Spent)) i st.board st.turn caps ending accepting waits net is refl refl refl book counts (count_true mid q kept put.0 count))

  accepted_fit : (x : Accept MemoryLink) → AcceptIs p.waiting p.ended x → NetStands m (waits_then p.waiting x) p.ended →
      AcceptsAs claim_gives (λ (k : ℕ). k) PlainGoes put_gives x (record d { accepts = false }) b o None e c q g ask → GoesFit t shape p s e m c q g ask
  accepted_fit (accepts.Got link ip) is net (r, (claiming, (mid, (counts, h)))) =
      let k = claim_fits t b p st.book some TheDoor ip in
      let answer : (claimed t p).0 ≡ answer_of r = k.0 ∙ ap answer_of (sym claiming.0) in
      let book : BookStands t c (ported t p TheDoor (Accepts ip (answer_of r))) =
      subst (λ (w : Words). BookStands t w (ported t p TheDoor (Accepts ip (answer_of r)))) (sym claiming.1)
      (subst (λ (a : Result ℕ ClaimFault). BookStands t (plain_claim b).words (ported t p TheDoor (Accepts ip (answer_of a)))) (sym claiming.0) k.1) in
      claimed_fit link ip is.0 mid is.1 net counts r answer book h
  accepted_fit accepts.NotYet is net h =
      carry t shape p s m e (record d { accepts = false }) c b q o g None ask asks.Rest h.0 h.2 h.3 h.4 h.1
      (record {
        dids = NoLink ∷ [];
        state = record s { accepts = false };
        turns = NotYet ending accepting refl refl refl;
        answers = (is, tt);
        is = record { slots = i.slots; reactors = i.reactors; ending = i.ending; accepts = refl; given = i.given; to = i.to };
        stand = record { net = net; book = st.book; board = st.board; turn = st.turn };
        moves = (refl, refl);
        table = refl;
      })
  accepted_fit accepts.End is net h =
      carry t shape p s m e (record d { accepts = false; ending = true }) c b q o g None ask asks.Nothing h.0 h.2 h.3 h.4 h.1
      (record {
        dids = NetOver ∷ [];
        state = record s { accepts = false; ending = true };
        turns = NetEnds ending accepting refl refl refl;
        answers = (is, tt);
        is = record { slots = i.slots; reactors = i.reactors; ending = refl; accepts = refl; given = i.given; to = i.to };
        stand = record { net = net; book = st.book; board = st.board; turn = st.turn };
        moves = (refl, refl);
        table = refl;
      })
  accepted_fit accepts.Failed is net h = absurd is

  accepts_fit : CodeAccepts AcceptsBy claim_gives (λ (k : ℕ). k) PlainGoes put_gives d n b o None e m c q g ask → GoesFit t shape p s e m c q g ask
  accepts_fit (x, (by, h)) = let k = accept_fits n p.waiting p.ended st.net x m by in accepted_fit x k.0 k.1 h

-- a turn in which nothing came back
pub goes_fit : (t : Terms) (shape : Shape) (p : Ports) (d e : Door) (s : DoorState) (n m : Plan) (b c : Words) (o q : PlainWords) (g : Option Cause) (ask : Asking) →
    DoorIs t d s → Stand t p n b o → Caps p → 1 ≤ t.max_conn → PlainGoesOn d n b o None e m c q g ask → GoesFit t shape p s e m c q g ask
goes_fit t shape p d e s n m b c o q g ask i st caps some h = by_ending d.ending refl h
  where
    by_accepts : s.ending ≡ false → (v : Bool) → d.accepts ≡ v → MatchBool v (CodeAccepts AcceptsBy claim_gives (λ (k : ℕ). k) PlainGoes put_gives d n b o None e m c q g ask) (Looks PlainGoes d o ask e q × (m ≡ n) × (c ≡ b) × (g ≡ None)) → GoesFit t shape p s e m c q g ask
    by_accepts ending true a k = accepts_fit t shape p d e s n m b c o q g ask i st caps some ending (sym i.accepts ∙ a) k
    by_accepts ending false a ((stop, (goes, is, asked)), net, desk, ends) =
        subst (λ (w : Plan). GoesFit t shape p s e w c q g ask) (sym net)
        (carry t shape p s n e (record d { ending = stop; accepts = true }) c b q q g None ask asks.Nothing is desk refl ends asked
        (looks_fit t shape p d s n b o q stop i st ending (sym i.accepts ∙ a) goes))

    by_ending : (v : Bool) → d.ending ≡ v → MatchBool v (Ends d ask e × (m ≡ n) × (c ≡ b) × (q ≡ o) × (g ≡ None)) (MatchBool d.accepts (CodeAccepts AcceptsBy claim_gives (λ (k : ℕ). k) PlainGoes put_gives d n b o None e m c q g ask) (Looks PlainGoes d o ask e q × (m ≡ n) × (c ≡ b) × (g ≡ None))) → GoesFit t shape p s e m c q g ask
    by_ending true x (ends, net, desk, board, last) =
        subst (λ (w : Plan). GoesFit t shape p s e w c q g ask) (sym net)
        (carry t shape p s n e e c b q o g None ask ask refl desk board last refl (ends_fit t shape p d e s n b o ask i st (sym i.ending ∙ x) ends))
    by_ending false x k = by_accepts (sym i.ending ∙ x) d.accepts refl k

-- A TURN
pub turn_fits : (t : Terms) (shape : Shape) (p : Ports) (d e : Door) (s : DoorState) (n m : Plan) (b c : Words) (o q : PlainWords) (g : Option Cause) (got : Getting) (ask : Asking) →
    DoorIs t d s → Stand t p n b o → Caps p → 1 ≤ t.max_conn → PlainTurns d n b o None got e m c q g ask → TurnFits t shape p s got e m c q g ask
turn_fits t shape p d e s n m b c o q g (gots.Full x) ask i st caps some (asked, is, net, desk, board, last) =
    let fits : TurnFits t shape p s (gots.Full x) d n b o g (asks.Push (targets.Reactor d.to) x) = record {
      dids = [];
      state = s;
      turns = (refl, (refl, ap (λ (y : ActorId). AskPush y (bare_of x)) i.to));
      answers = tt;
      is = i;
      stand = st;
      moves = (refl, refl);
      table = refl;
    } in
    subst (λ (w : Door). TurnFits t shape p s (gots.Full x) w m c q g ask) (sym is)
    (subst (λ (w : Plan). TurnFits t shape p s (gots.Full x) d w c q g ask) (sym net)
    (subst (λ (w : Words). TurnFits t shape p s (gots.Full x) d n w q g ask) (sym desk)
    (subst (λ (w : PlainWords). TurnFits t shape p s (gots.Full x) d n b w g ask) (sym board)
    (subst (λ (w : Asking). TurnFits t shape p s (gots.Full x) d n b o g w) (sym asked) fits))))
turn_fits t shape p d e s n m b c o q g gots.Start ask i st caps some h = goes_fit t shape p d e s n m b c o q g ask i st caps some h
turn_fits t shape p d e s n m b c o q g (gots.Took x) ask i st caps some h = goes_fit t shape p d e s n m b c o q g ask i st caps some h
turn_fits t shape p d e s n m b c o q g gots.Empty ask i st caps some h = goes_fit t shape p d e s n m b c o q g ask i st caps some h
turn_fits t shape p d e s n m b c o q g gots.Pushed ask i st caps some h = goes_fit t shape p d e s n m b c o q g ask i st caps some h
turn_fits t shape p d e s n m b c o q g gots.Nothing ask i st caps some h = goes_fit t shape p d e s n m b c o q g ask i st caps some h

-- a new door
pub new_stands : (t : Terms) (d : Door) → IsNew t.max_conn t.reactor_num d → DoorIs t d new_door
new_stands t d e = subst (λ (x : Door). DoorIs t x new_door) (sym e) (record { slots = refl; reactors = refl; ending = refl; accepts = refl; given = refl; to = refl })
