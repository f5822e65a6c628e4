-- A turn of the door.
use Rattle.std.proofs.Common.{◌≡◌, List, refl, sym, subst}
use Rattle.sw_step.specs.declared.actor.ActorId.TheVariants.{Door}
use Rattle.sw_port_book.specs.Plain.{Words}
use Rattle.sw_port_board.specs.PlainBoard.{PlainWords}
use Rattle.sw_record.specs.Terms.{Terms}
use Rattle.sw_table_laws.specs.Table.{Shape}
use Rattle.sw_join.specs.Legal.{LegalFor}
use Rattle.sw_tmodel.specs.Plain.{PlainTable}
use Rattle.sw_world_laws.specs.World.{Core, handed}
use Rattle.sw_world_laws.specs.Law.{Law}
use Rattle.sw_world_fits.specs.Board.{number_of}
use Rattle.sw_world_fits.specs.Table.{TableStands}
use Rattle.sw_world_hands.specs.Hands.{Crews}
use Rattle.sw_world_places.specs.Pipes.{Asking, Getting}
use Rattle.sw_world_places.specs.Places.{Rows}
use Rattle.sw_world_front.specs.declared.front.Front.{Front}
use Rattle.sw_world_front.specs.Front.{TurnsFront}
use Rattle.sw_world_stands.specs.Asked.{ask_of, got_of}
use Rattle.sw_world_door.specs.Doors.{DoorState}
use Rattle.sw_world_front_fits.specs.Front.{FrontFits}
use Rattle.sw_world_front_fits.proofs.Front.{front_turns}
use Rattle.sw_world_asks.specs.Due.{TurnIsDue}
use Rattle.sw_world_steps.specs.Server.{IsServed, server, AState, of_door}
use Rattle.sw_world_steps.specs.Shared.{SharedStands}
use Rattle.sw_world_steps.specs.Turns.{DoorGoes}

pub door_goes : (t : Terms) (served : IsServed t) (crews : Crews) (shape : Shape) (c : Core AState) (s : DoorState) (f h : Front) (b b2 : Words) (o o2 : PlainWords) (q : PlainTable) (got : Getting) (ask : Asking) (rows : Rows) →
    Law t (LegalFor shape) (server t served crews) c → c.states Door ≡ of_door s → SharedStands t shape f b o q s c.ports → TurnIsDue t (LegalFor shape) (server t served crews) c Door got rows → o.turn ≡ number_of t Door → TurnsFront f b o got h b2 o2 ask → DoorGoes t served crews shape c got h b2 o2 q ask
door_goes t served crews shape c s f h b b2 o o2 q got ask rows (past, l) is st due turn turns =
    let k : FrontFits t shape c.ports s got h b2 o2 ask = front_turns t shape c.ports f h s b b2 o o2 got ask st.front due.new st.book st.board turn l.ports.counts.cap served.slots turns in
    record {
      dids = k.dids;
      state = k.state;
      turn = (
        subst (λ (x : AState). (server t served crews).Turn Door x (got_of got) (handed (server t served crews).has c Door) k.dids (of_door k.state) (ask_of ask)) (sym is) (refl, k.turns),
        k.answers,
      );
      new = k.new;
      stands = record { front = k.front; book = k.book; board = k.board; table = subst (TableStands t shape q) (sym k.table) st.table };
    }
