-- The front's calls are the world's.
use Rattle.std.proofs.Common.{◌≡◌, ℕ, ◌≤◌, List, [], ◌∷◌, ◌++◌, refl, sym, subst, true, false, Option, Some, None}
use Rattle.sw_lists.specs.Lists.{Each}
use Rattle.sw_lists.proofs.Lists.{each_append}
use Rattle.sw_step.specs.declared.actor.ActorId.TheVariants.{Door as TheDoor}
use Rattle.sw_data.specs.declared.ended.Cause.{Cause}
use Rattle.sw_link.specs.declared.memory_link.LinkStep.{LinkStep}
use Rattle.sw_link.specs.Memory.{new_link}
use Rattle.sw_link.specs.MemoryNets.{Plan, new_net}
use Rattle.sw_port_book.specs.Plain.{Words}
use Rattle.sw_port_board.specs.PlainBoard.{PlainWords}
use Rattle.sw_door.specs.Door.{IsNew}
use Rattle.sw_past.specs.Claims.{Claim}
use Rattle.sw_record.specs.Terms.{Terms}
use Rattle.sw_table_laws.specs.Table.{Shape}
use Rattle.sw_world_ports.specs.Ports.{Ports, new_ports, all_ported}
use Rattle.sw_world_fits.specs.Net.{NetStands}
use Rattle.sw_world_fits.specs.Book.{BookStands}
use Rattle.sw_world_fits.specs.Board.{number_of, BoardStands}
use Rattle.sw_world_fits.proofs.Net.{arrive_fits, end_fits}
use Rattle.sw_world_places.specs.Pipes.{Asking, Getting}
use Rattle.sw_world_places.specs.Links.{Arrivals, no_arrivals, kept, accepted, TakesAhead}
use Rattle.sw_world_places.specs.declared.arrived.Claimed.{Claimed}
use Rattle.sw_world_front.specs.declared.front.Front.{Front}
use Rattle.sw_world_front.specs.Front.{PlainTurns, claim_in, accepted_if, arrived, net_ended, TurnsFront}
use Rattle.sw_world_stands.specs.Links.{claim_of, LinksStand}
use Rattle.sw_world_stands.specs.New.{GotNew}
use Rattle.sw_world_stands.proofs.Arrivals.{none_stand, comes_stand, keeps_stand, takes_stand, accepts_stand}
use Rattle.sw_world_door.specs.Doors.{DoorState, new_door}
use Rattle.sw_world_front_fits.specs.Door.{Moves}
use Rattle.sw_world_front_fits.specs.Front.{ComesNew, FrontStands, FrontFits}
use Rattle.sw_world_front_fits.proofs.Caps.{Caps}
use Rattle.sw_world_front_fits.proofs.Door.{new_stands, turn_fits}
use Rattle.sw_world_front_fits.proofs.New.{turns_new}

-- before any step
pub front_new : (t : Terms) (f : Front) → IsNew t.max_conn t.reactor_num f.door → f.net ≡ new_net [] false None → f.links ≡ no_arrivals t.max_conn → f.refusals ≡ None → FrontStands t f new_door (new_ports t)
front_new t f door net links none =
    record {
      door = new_stands t f.door door;
      net = subst (λ (n : Plan). NetStands n [] false) (sym net) (record { links = refl; ends = refl; whole = refl });
      coming = subst (λ (n : Plan). Each ComesNew n.links) (sym net) tt;
      links = subst (λ (a : Arrivals). LinksStand t a [] []) (sym links) (none_stand t);
      none = none;
    }

-- a link arrives
pub front_arrives : (t : Terms) (f : Front) (s : DoorState) (p : Ports) (ip : ℕ) → FrontStands t f s p → FrontStands t (arrived ip f) s (record p { waiting = p.waiting ++ ip ∷ [] })
front_arrives t f s p ip st =
    record {
      door = st.door;
      net = arrive_fits f.net p.waiting p.ended st.net new_link ip;
      coming = each_append ComesNew f.net.links ((new_link, ip) ∷ []) st.coming (record { pieces = refl; written = refl; at_end = refl; faults = refl }, tt);
      links = comes_stand t f.links ip p.given p.waiting st.links;
      none = st.none;
    }

-- no more links arrive
pub front_ends : (t : Terms) (f : Front) (s : DoorState) (p : Ports) → FrontStands t f s p → FrontStands t (net_ended f) s (record p { ended = true })
front_ends t f s p st = record { door = st.door; net = end_fits f.net p.waiting p.ended st.net; coming = st.coming; links = st.links; none = st.none }

-- other links of which scripts alone differ
pub front_relinked : (t : Terms) (f h : Front) (s : DoorState) (p : Ports) → FrontStands t f s p → h ≡ record f { links = h.links } → LinksStand t h.links p.given p.waiting → FrontStands t h s p
front_relinked t f h s p st is links = subst (λ (x : Front). FrontStands t x s p) (sym is) (record { door = st.door; net = st.net; coming = st.coming; links = links; none = st.none })

pub front_keeps : (t : Terms) (f : Front) (s : DoorState) (p : Ports) (n : ℕ) (step : LinkStep) → FrontStands t f s p → FrontStands t (record f { links = kept n step f.links }) s p
front_keeps t f s p n step st = record { door = st.door; net = st.net; coming = st.coming; links = keeps_stand t f.links n step p.given p.waiting st.links; none = st.none }

pub front_takes : (t : Terms) (f h : Front) (s : DoorState) (p : Ports) (session : ℕ) (steps : List LinkStep) → FrontStands t f s p → h ≡ record f { links = h.links } → TakesAhead f.links session steps h.links → FrontStands t h s p
front_takes t f h s p session steps st is k = front_relinked t f h s p st is (takes_stand t f.links h.links session steps p.given p.waiting st.links k)

-- the links behind a turn
accepts_if : (t : Terms) (p q : Ports) (a : Arrivals) → LinksStand t a p.given p.waiting → (o : Option Claimed) → Moves o p q → LinksStand t (accepted_if o a) q.given q.waiting
accepts_if t p q a st None (given, waiting) =
    subst (λ (g : List (ℕ × Claim)). LinksStand t a g q.waiting) (sym given)
    (subst (λ (w : List ℕ). LinksStand t a p.given w) (sym waiting) st)
accepts_if t p q a st (Some c) (ip, (rest, (waits, given, waiting))) =
    subst (λ (g : List (ℕ × Claim)). LinksStand t (accepted c a) g q.waiting) (sym given)
    (subst (λ (w : List ℕ). LinksStand t (accepted c a) (p.given ++ (ip, claim_of c) ∷ []) w) (sym waiting)
    (accepts_stand t a c ip rest p.given (subst (LinksStand t a p.given) waits st)))

-- A TURN OF THE FRONT
pub front_turns : (t : Terms) (shape : Shape) (p : Ports) (f h : Front) (s : DoorState) (b c : Words) (o q : PlainWords) (got : Getting) (ask : Asking) →
    FrontStands t f s p → GotNew TheDoor got → BookStands t b p → BoardStands t o p → o.turn ≡ number_of t TheDoor → Caps p → 1 ≤ t.max_conn → TurnsFront f b o got h c q ask → FrontFits t shape p s got h c q ask
front_turns t shape p f h s b c o q got ask st news book board turn caps some (last, (turns, none, accepts)) =
    let plain : PlainTurns f.door f.net b o None got h.door h.net c q last ask = subst (λ (x : Option Cause). PlainTurns f.door f.net b o x got h.door h.net c q last ask) st.none turns in
    let k = turn_fits t shape p f.door h.door s f.net h.net b c o q last got ask st.door (record { net = st.net; book = book; board = board; turn = turn }) caps some plain in
    let fresh = turns_new f.door h.door f.net h.net b c o q last got ask st.coming news plain in
    record {
      dids = k.dids;
      state = k.state;
      turns = k.turns;
      new = fresh.1;
      answers = k.answers;
      front = record { door = k.is; net = k.stand.net; coming = fresh.0; links = subst (λ (x : Arrivals). LinksStand t x (all_ported t p TheDoor k.dids).given (all_ported t p TheDoor k.dids).waiting) (sym accepts) (accepts_if t p (all_ported t p TheDoor k.dids) f.links st.links (claim_in got ask last) k.moves); none = none };
      book = k.stand.book;
      board = k.stand.board;
      turn = k.stand.turn;
      table = k.table;
    }
