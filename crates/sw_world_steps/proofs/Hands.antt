-- A turn of a worker or a task worker.
use Rattle.std.proofs.Common.{◌≡◌, ◌⊎◌, ℕ, List, [], true, false, refl, sym, subst, ◌∙◌, ap, inl, inr}
use Rattle.sw_lists.specs.Lists.{collect, Each}
use Rattle.sw_step.specs.declared.actor.ActorId.{ActorId}
use Rattle.sw_step.specs.declared.actor.ActorId.TheVariants.{Door}
use Rattle.sw_port_book.specs.Plain.{Words}
use Rattle.sw_port_board.specs.PlainBoard.{PlainWords}
use Rattle.sw_record.specs.Terms.{Terms}
use Rattle.sw_past.specs.Routes.{IsHand as IsHandOf}
use Rattle.sw_table_laws.specs.Table.{Shape}
use Rattle.sw_join.specs.Legal.{LegalFor}
use Rattle.sw_tmodel.specs.Plain.{PlainTable}
use Rattle.sw_world_ports.specs.Calls.{MayDo}
use Rattle.sw_world_ports.specs.Ports.{all_ported}
use Rattle.sw_world_laws.specs.Turns.{Ask, Got}
use Rattle.sw_world_laws.specs.World.{Core, handed}
use Rattle.sw_world_laws.specs.History.{diary_of}
use Rattle.sw_world_laws.specs.Law.{Law}
use Rattle.sw_world_laws.proofs.Locals.{no_hand_door}
use Rattle.sw_world_fits.specs.Board.{number_of, IsThere}
use Rattle.sw_hand.specs.Ports.{Acting}
use Rattle.sw_hand.specs.Hand.{IsHand}
use Rattle.sw_hand.specs.declared.hand.Hand.{Hand as CodeHand}
use Rattle.sw_hand_calls.specs.Calls.{PortCall, around, turn_calls_of, TurnsBy}
use Rattle.sw_hand_laws.specs.Kept.{GotFits}
use Rattle.sw_hand_fits.specs.Matches.{gave_in, IsNumberedGot}
use Rattle.sw_world_hands.specs.Hands.{HandState, Crews, HandHolds, HandTurn, HandFails, hand_got}
use Rattle.sw_world_hand_fits.specs.Plain.{plain_rules, Stands}
use Rattle.sw_world_hand_fits.specs.Hands.{world_got, HandIs, Gone, Went, Numbered, Numbers}
use Rattle.sw_world_hand_fits.proofs.Goes.{hand_turn}
use Rattle.sw_world_hand_fits.proofs.Numbers.{numbered_stage}
use Rattle.sw_world_hand_fits.proofs.Workers.{goes_numbered}
use Rattle.sw_world_places.specs.Pipes.{Asking, Getting}
use Rattle.sw_world_places.specs.Places.{Rows}
use Rattle.sw_world_front.specs.declared.front.Front.{Front}
use Rattle.sw_world_stands.specs.Asked.{ask_of, got_of}
use Rattle.sw_world_door.specs.Doors.{DoorState}
use Rattle.sw_world_asks.specs.Due.{TurnIsDue}
use Rattle.sw_world_steps.specs.Server.{IsServed, server, AState, of_hand}
use Rattle.sw_world_steps.specs.Shared.{SharedStands}
use Rattle.sw_world_steps.specs.Turns.{itself, HandWent}
use Rattle.sw_world_steps.proofs.Same.{got_hand, ask_hand, ask_other}
use Rattle.sw_world_steps.proofs.Still.{still, front_still}
use Rattle.sw_world_steps.proofs.Numbers.{numbered_got}

is_there : (t : Terms) (y : ActorId) → IsHandOf t y → IsThere t y
is_there t y (inl (n, (lt, e))) = subst (IsThere t) (sym e) lt
is_there t y (inr (n, (lt, e))) = subst (IsThere t) (sym e) lt

pub hand_goes : {H : Type 0} (acts : Acting H) (t : Terms) (served : IsServed t) (crews : Crews) (shape : Shape) (y : ActorId) (c : Core AState) (s : HandState) (d : DoorState) (h k : CodeHand H) (f : Front) (b b2 : Words) (o o2 : PlainWords) (q q2 : PlainTable) (got : Getting) (ask : Asking) (rows : Rows) →
    Law t (LegalFor shape) (server t served crews) c → IsHandOf t y → c.states y ≡ of_hand s → SharedStands t shape f b o q d c.ports → TurnIsDue t (LegalFor shape) (server t served crews) c y got rows → o.turn ≡ number_of t y →
    HandIs t y h s → IsHand k → Numbers acts → Numbered s.stage → (w : TurnsBy (plain_rules acts) h b q o got k b2 q2 o2 ask) →
    HandWent t served crews shape y c d s got k f b2 o2 q2 ask (turn_calls_of (plain_rules acts) h b q o got k b2 q2 o2 ask w.0)
hand_goes {H} acts t served crews shape y c s d h k f b b2 o o2 q q2 got ask rows (past, l) hand is st due turn it code acting stage w =
    record {
      dids = g.dids;
      stands = record {
        front = front_still t f d c.ports (all_ported t c.ports y g.dids) st.front (still t y not_door g.dids c.ports (may_by g.came));
        book = g.stands.book;
        board = g.stands.board;
        table = g.stands.table;
      };
      came = elim g.came [
        | inl came ↦ inl (came.0, (fails_at came.1, g.answers))
        | inr came ↦ inr (came.0, record { gone = gone_at came.1; turn = (goes_at came.1, g.answers); new = ask_other y not_door ask; numbered = goes_numbered acts t crews.limit y itself s (got_of got) h k b b2 q q2 o o2 ask calls g.dids acting quiet.fits got_numbered stage w.1 (gone_at came.1) })
      ];
    }
  where
    calls : List PortCall
    calls = turn_calls_of (plain_rules acts) h b q o got k b2 q2 o2 ask w.0

    not_door : ¬ (y ≡ Door)
    not_door e = no_hand_door t (subst (IsHandOf t) e hand)

    word : world_got itself got ≡ got_of got
    word = got_hand got

    quiet : HandHolds t crews.limit (crews.left y) y s (got_of got) (diary_of past y)
    quiet = subst (λ (x : AState). (server t served crews).Quiet y x (got_of got) (diary_of past y)) is (due.quiet past l)

    got_numbered : IsNumberedGot (hand_got (got_of got))
    got_numbered = numbered_got t (LegalFor shape) (server t served crews) c past l crews.limit (crews.left y) y s (got_of got) hand quiet

    ports : Stands t shape y (around h b q o) c.ports
    ports = record { book = st.book; board = st.board; table = st.table; legal = l.ports.shelf.is_legal; turn = turn; counts = l.ports.counts.cap }

    g : Went t shape crews.limit y itself s (world_got itself got) k b2 q2 o2 ask calls c.ports
    g = hand_turn acts t shape crews.limit y itself s h k b b2 q q2 o o2 got ask c.ports served.slots hand (is_there t y hand) it code quiet.kept.speaks.carries
        (subst (λ (x : Got). GotFits t s.stage (hand_got x)) (sym word) quiet.fits) (numbered_stage s.stage stage)
        (subst (λ (x : Got). IsNumberedGot (hand_got x)) (sym word) got_numbered) ports w

    gone_at : Gone t crews.limit y itself s (world_got itself got) k ask calls g.dids → Gone t crews.limit y itself s (got_of got) k ask calls g.dids
    gone_at x = subst (λ (v : Got). Gone t crews.limit y itself s v k ask calls g.dids) word x

    turn_at : (x : Gone t crews.limit y itself s (world_got itself got) k ask calls g.dids) → HandTurn t crews.limit y s (got_of got) g.dids (gone_at x).state (ask_of ask)
    turn_at x = subst (λ (a : Ask). HandTurn t crews.limit y s (got_of got) g.dids (gone_at x).state a) (ask_hand ask) (gone_at x).turn

    goes_at : (x : Gone t crews.limit y itself s (world_got itself got) k ask calls g.dids) → (server t served crews).Turn y (c.states y) (got_of got) (handed (server t served crews).has c y) g.dids (of_hand (gone_at x).state) (ask_of ask)
    goes_at x = subst (λ (v : AState). (server t served crews).Turn y v (got_of got) (handed (server t served crews).has c y) g.dids (of_hand (gone_at x).state) (ask_of ask)) (sym is) (turn_at x)

    fails_at : HandFails t y s (world_got itself got) g.dids s × (collect gave_in calls ≡ []) → (server t served crews).Fails y (c.states y) (got_of got) (handed (server t served crews).has c y) g.dids (of_hand s)
    fails_at x = subst (λ (v : AState). (server t served crews).Fails y v (got_of got) (handed (server t served crews).has c y) g.dids (of_hand s)) (sym is) (subst (λ (v : Got). HandFails t y s v g.dids s) word x.0)

    may_by : ((k.lost ≡ true) × (HandFails t y s (world_got itself got) g.dids s × (collect gave_in calls ≡ []))) ⊎ ((k.lost ≡ false) × Gone t crews.limit y itself s (world_got itself got) k ask calls g.dids) → Each (MayDo t y) g.dids
    may_by (inl came) = (server t served crews).fails_may y (c.states y) (got_of got) (handed (server t served crews).has c y) g.dids (of_hand s) (fails_at came.1)
    may_by (inr came) = (server t served crews).may y (c.states y) (got_of got) (handed (server t served crews).has c y) g.dids (of_hand (gone_at came.1).state) (ask_of ask) (goes_at came.1)
