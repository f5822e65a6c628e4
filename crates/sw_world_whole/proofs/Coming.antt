-- What comes from outside.
use Rattle.std.proofs.Common.{◌≡◌, ℕ, Bool, true, false, if◌then◌else◌, List, [], ◌∷◌, ◌++◌, refl, ap, ◌∙◌, sym, subst}
use Rattle.sw_step.specs.declared.actor.ActorId.{ActorId}
use Rattle.sw_step.specs.declared.actor.ActorId.TheVariants.{Door}
use Rattle.sw_link.specs.declared.memory_link.LinkStep.{LinkStep}
use Rattle.sw_port_book.specs.Plain.{Words}
use Rattle.sw_port_board.specs.PlainBoard.{PlainWords}
use Rattle.sw_record.specs.Terms.{Terms}
use Rattle.sw_table_laws.specs.Table.{Shape}
use Rattle.sw_join.specs.Legal.{LegalFor}
use Rattle.sw_world_ports.specs.Ports.{Ports}
use Rattle.sw_world_laws.specs.Actors.{Actors}
use Rattle.sw_world_laws.specs.World.{Pending, Core, Step, Arrive, Script, NetEnd, Wants, next, next_by, MayStep}
use Rattle.sw_world_laws.specs.Law.{Law}
use Rattle.sw_world_laws.proofs.Reached.{next_keeps}
use Rattle.sw_world_fits.specs.Book.{BookStands}
use Rattle.sw_world_fits.specs.Board.{BoardStands}
use Rattle.sw_world_hands.specs.Hands.{Crews}
use Rattle.sw_world_places.specs.Links.{kept}
use Rattle.sw_world_front.specs.declared.front.Front.{Front}
use Rattle.sw_world_front.specs.Front.{arrived, net_ended}
use Rattle.sw_world_front_fits.proofs.Front.{front_arrives, front_ends, front_keeps}
use Rattle.sw_world_stands.specs.Links.{LinksStand}
use Rattle.sw_world_stands.specs.Rows.{RowsStand}
use Rattle.sw_world_steps.specs.Server.{IsServed, server, AState}
use Rattle.sw_world_steps.specs.Shared.{SharedStands}
use Rattle.sw_world_whole.specs.Parts.{Parts, Views}
use Rattle.sw_world_whole.specs.Whole.{ActorStands, Stands, IsStep, IsLostStep}
use Rattle.sw_world_whole.proofs.Others.{same_actors}

-- a step while memory was found
pub found : (t : Terms) (p : Actors t) (c : Core p.State) (x : Step p.State) → c.lost ≡ false → next t p c x ≡ next_by t p c x
found t p c x ok = ap (λ (b : Bool). if b then c else next_by t p c x) ok

-- other links that wait, or another end
abbrev Coming : Ports → List ℕ → Bool → Ports
Coming p waiting ended = record p { waiting = waiting; ended = ended }

book_same : (t : Terms) (b : Words) (p : Ports) (waiting : List ℕ) (ended : Bool) → BookStands t b p → BookStands t b (Coming p waiting ended)
book_same t b p waiting ended st = record { slots = st.slots; last = st.last }

board_same : (t : Terms) (o : PlainWords) (p : Ports) (waiting : List ℕ) (ended : Bool) → BoardStands t o p → BoardStands t o (Coming p waiting ended)
board_same t o p waiting ended st = record { workers = st.workers; taskers = st.taskers; actors = st.actors; marks = st.marks; words = st.words; stopped = st.stopped; worker = st.worker; tasker = st.tasker; counts = st.counts }

module _ {O H T : Type 0} (t : Terms) (served : IsServed t) (crews : Crews) (shape : Shape) (v : Views O H T) (P : Parts O H T) (c : Core AState) (st : Stands t served crews shape v P c) where
  -- a step of the outside
  outside : (f : Front) (x : Step AState) (d : Core AState) → MayStep t (LegalFor shape) (server t served crews) c x → next_by t (server t served crews) c x ≡ d →
      d.states ≡ c.states → d.nexts ≡ c.nexts → d.pipes ≡ c.pipes → d.lost ≡ c.lost → SharedStands t shape f P.book P.board P.shelf st.door d.ports → IsStep t served crews shape v c (record P { front = f })
  outside f x d may is states nexts pipes lost shared =
      let same : next t (server t served crews) c x ≡ d = found t (server t served crews) c x st.sound ∙ is in
      record {
        step = x;
        may = may;
        stands = subst (Stands t served crews shape v (record P { front = f })) (sym same) (record {
          law = subst (Law t (LegalFor shape) (server t served crews)) same (next_keeps t (LegalFor shape) (server t served crews) c x may st.law);
          sound = lost ∙ st.sound;
          door = st.door;
          is = ap (λ (g : ActorId → AState). g Door) states ∙ st.is;
          shared = shared;
          rows = subst (λ (g : ActorId → Pending). RowsStand t P.rows g d.pipes) (sym nexts) (subst (RowsStand t P.rows c.nexts) (sym pipes) st.rows);
          actors = λ y here. subst (λ (g : ActorId → AState). ActorStands t crews v (record P { front = f }) y (g y)) (sym states) (same_actors t crews v P (record P { front = f }) refl refl refl y (c.states y) (st.actors y here));
        });
      }

  -- a link arrives
  pub arrives : (ip : ℕ) → IsStep t served crews shape v c (record P { front = arrived ip P.front })
  arrives ip =
      let s = st.shared in
      outside (arrived ip P.front) (Arrive ip) (next_by t (server t served crews) c (Arrive ip)) (λ e. tt) refl refl refl refl refl
      (record {
        front = front_arrives t P.front st.door c.ports ip s.front;
        book = book_same t P.book c.ports (c.ports.waiting ++ ip ∷ []) c.ports.ended s.book;
        board = board_same t P.board c.ports (c.ports.waiting ++ ip ∷ []) c.ports.ended s.board;
        table = s.table;
      })

  -- no more links arrive
  pub net_ends : IsStep t served crews shape v c (record P { front = net_ended P.front })
  net_ends =
      let s = st.shared in
      outside (net_ended P.front) NetEnd (next_by t (server t served crews) c NetEnd) (λ e. tt) refl refl refl refl refl
      (record {
        front = front_ends t P.front st.door c.ports s.front;
        book = book_same t P.book c.ports c.ports.waiting true s.book;
        board = board_same t P.board c.ports c.ports.waiting true s.board;
        table = s.table;
      })

  -- a step is added to a link's script
  pub scripts : (n : ℕ) (step : LinkStep) → IsStep t served crews shape v c (record P { front = record P.front { links = kept n step P.front.links } })
  scripts n step =
      let s = st.shared in
      outside (record P.front { links = kept n step P.front.links }) (Script n step) (next_by t (server t served crews) c (Script n step)) (λ e. tt) refl refl refl refl refl
      (record { front = front_keeps t P.front st.door c.ports n step s.front; book = s.book; board = s.board; table = s.table })

  -- a step of a script that went to a reactor's link
  pub script_given : (n : ℕ) (step : LinkStep) → IsStep t served crews shape v c P
  script_given n step =
      let s = st.shared in
      outside P.front (Script n step) (next_by t (server t served crews) c (Script n step)) (λ e. tt) refl refl refl refl refl
      (record { front = s.front; book = s.book; board = s.board; table = s.table })

  -- a step that wanted memory
  pub wants : IsLostStep t served crews shape P c
  wants =
      let p = server t served crews in
      let same : next t p c Wants ≡ next_by t p c Wants = found t p c Wants st.sound in
      record {
        step = Wants;
        may = λ e. tt;
        law = next_keeps t (LegalFor shape) p c Wants (λ e. tt) st.law;
        lost = ap (λ (d : Core AState). d.lost) same;
        states = λ z. ap (λ (d : Core AState). d.states z) same;
        links = subst (λ (d : Core AState). LinksStand t P.front.links d.ports.given d.ports.waiting) (sym same) st.shared.front.links;
      }
