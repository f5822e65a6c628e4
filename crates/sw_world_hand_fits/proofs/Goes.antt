-- A turn of a hand's code over the plain ports is a turn of the family, with the calls that it made.
use Rattle.std.proofs.Common.{◌≡◌, ◌⊎◌, ℕ, ◌≤◌, nat_eq, Bool, true, false, if◌then◌else◌, List, [], ◌∷◌, refl, ap, ◌∙◌, sym, subst, Option, Some, None, Result, Ok, Err, inl, inr}
use Rattle.sw_lists.specs.Lists.{collect, Each}
use Rattle.sw_lists.proofs.Lists.{each_append}
use Rattle.sw_step.specs.declared.actor.ActorId.{ActorId}
use Rattle.sw_base.specs.declared.table.Value.{Value}
use Rattle.sw_base.specs.declared.table.Call.{Call}
use Rattle.sw_base.specs.declared.table.CallFault.{CallFault}
use Rattle.sw_base.specs.declared.table.CallFault.TheVariants.{Spent}
use Rattle.sw_column.specs.Fit.{or_else, call_fault}
use Rattle.sw_data.specs.declared.messages.Msg.{Msg}
use Rattle.sw_data.specs.declared.messages.Ask.{Ask as CodeAsk}
use Rattle.sw_data.specs.declared.messages.Got.{Got as CodeGot}
use Rattle.sw_data.specs.declared.messages.Got.TheVariants as gots
use Rattle.sw_step.specs.declared.actor.ActorId.TheVariants.{Door}
use Rattle.sw_port_book.specs.Plain.{Words}
use Rattle.sw_port_board.specs.PlainBoard.{PlainWords}
use Rattle.sw_port_shelf.specs.Shelf.{AnswersFit}
use Rattle.sw_port_shelf.specs.declared.shelf.Placed.{Placed}
use Rattle.sw_table_laws.specs.Table.{Shape}
use Rattle.sw_tmodel.specs.Plain.{PlainTable, spent_fault, IsCall}
use Rattle.sw_record.specs.Words.{Log}
use Rattle.sw_record.specs.Terms.{Terms}
use Rattle.sw_past.specs.Routes.{IsHand as IsHandOf}
use Rattle.sw_world_ports.specs.Calls.{Did, Stops}
use Rattle.sw_world_ports.specs.Ports.{Ports as WorldPorts}
use Rattle.sw_world_laws.specs.Turns.{Got}
use Rattle.sw_world_fits.specs.Board.{IsThere}
use Rattle.sw_hand.specs.Ports.{Acting}
use Rattle.sw_hand.specs.Hand.{IsHand}
use Rattle.sw_hand.specs.declared.hand.Hand.{Hand as CodeHand}
use Rattle.sw_hand_calls.specs.Calls.{PortCall, around, turn_calls_of, TurnsBy}
use Rattle.sw_hand_laws.specs.Hand.{Ports, Turned}
use Rattle.sw_hand_laws.specs.Keeps.{Carries}
use Rattle.sw_hand_laws.specs.Kept.{GotFits}
use Rattle.sw_hand_laws.specs.Moved.{PortsFit}
use Rattle.sw_hand_fits.specs.Matches.{GotIs, BothStart, BothTook, BothEmpty, BothPushed, BothFull, BothNothing, IsNumberedStage, IsNumberedGot, did_in, gave_in, Outcome}
use Rattle.sw_hand_fits.proofs.Turn.{turn_fits}
use Rattle.sw_world_hands.specs.Hands.{HandState, hand_got, world_ask, turned, dids_of, HandFails}
use Rattle.sw_world_hand_fits.specs.Plain.{plain_rules, Stands, IsSound}
use Rattle.sw_world_hand_fits.specs.Hands.{world_got, HandIs, Gone, Went}
use Rattle.sw_world_hand_fits.proofs.Answers.{calls_answered}
use Rattle.sw_world_hand_fits.proofs.Sound.{sound_turn}

-- what was got, as the tables have it
got_same : {L K : Type 0} (number : K → ℕ) (got : CodeGot (Msg L K)) → GotIs number got (hand_got (world_got number got))
got_same number gots.Start = BothStart
got_same number (gots.Took m) = BothTook Door m
got_same number gots.Empty = BothEmpty
got_same number gots.Pushed = BothPushed
got_same number (gots.Full m) = BothFull m
got_same number gots.Nothing = BothNothing

-- the plain Table answers by its columns
spent_is : (v : Bool) (calls : ℕ) (f : CallFault) → (if v then Some (Spent calls) else None) ≡ Some f → AnswersFit None (Err f)
spent_is true calls f q = let i : Spent calls ≡ f = cc in subst (λ (x : CallFault). AnswersFit None (Err x)) i refl
spent_is false calls f q = absurd (cc)

fault_is : (o : Option CallFault) (calls last : ℕ) (f : CallFault) → or_else o (spent_fault calls last) ≡ Some f → AnswersFit o (Err f)
fault_is None calls last f q = spent_is (nat_eq calls last) calls f q
fault_is (Some g) calls last f q = let i : g ≡ f = cc in ap (λ (x : CallFault). Err x) (sym i)

fault_none : (o : Option CallFault) (calls last : ℕ) (p : Placed) → or_else o (spent_fault calls last) ≡ None → AnswersFit o (Ok p)
fault_none None calls last p q = tt
fault_none (Some g) calls last p q = absurd (cc)

table_may : (t : Terms) (p q : PlainTable) (call : Call) (row new : List Value) (r : Result Placed CallFault) → p.columns ≡ t.columns → IsCall p call q row new r → AnswersFit (call_fault t.columns call) r
table_may t p q call row new (Ok placed) c w = subst (λ cs. AnswersFit (call_fault cs call) (Ok placed)) c (fault_none (call_fault p.columns call) p.calls p.last_call placed w.0)
table_may t p q call row new (Err f) c w = subst (λ cs. AnswersFit (call_fault cs call) (Err f)) c (fault_is (call_fault p.columns call) p.calls p.last_call f w.0)

-- its calls are sound
sound_calls : {H L K : Type 0} (t : Terms) (y : ActorId) (number : K → ℕ) (log : Log) (k : CodeHand H) (ask : CodeAsk (Msg L K)) (calls : List PortCall) (ds : List Did) (r : Turned) → Each (IsSound t) ds → Outcome t y number log k ask calls ds r → Each (IsSound t) (collect did_in calls)
sound_calls t y number log k ask calls ds r ok (inl f) = subst (Each (IsSound t)) (sym f.dids_are) (each_append (IsSound t) ds (Stops ∷ []) ok (tt, tt))
sound_calls t y number log k ask calls ds r ok (inr f) = subst (Each (IsSound t)) (sym f.dids_are) ok

came_to : {H L K : Type 0} (t : Terms) (limit : ℕ) (y : ActorId) (number : K → ℕ) (s : HandState) (got : Got) (k : CodeHand H) (ask : CodeAsk (Msg L K)) (calls : List PortCall) (p : Ports) → IsHandOf t y → IsHand k → PortsFit t s.stage s.hand p → Outcome t y number s.hand.log k ask calls (dids_of t y p s got) (turned t y limit p s got) → ((k.lost ≡ true) × (HandFails t y s got (collect did_in calls) s × (collect gave_in calls ≡ []))) ⊎ ((k.lost ≡ false) × Gone t limit y number s got k ask calls (collect did_in calls))
came_to t limit y number s got k ask calls p hand code fit (inl f) = inl (f.lost, (record { is = hand; ports = p; fit = fit; calls = f.dids_are; state = refl }, f.gave))
came_to t limit y number s got k ask calls p hand code fit (inr f) = inr (
  f.came.hand.kept,
  record {
    state = record { stage = (turned t y limit p s got).stage; hand = (turned t y limit p s got).hand };
    turn = record { is = hand; ports = p; fit = fit; calls = f.dids_are; state = refl; ask_is = ap world_ask f.came.ask_is };
    code = record { code = code; matches = f.came.hand; stage = f.came.stage };
    log = f.gave;
    found = f.found;
  },
)

-- a turn of the code of a hand whose sessions are none of number 0
pub hand_turn : {H L K : Type 0} (acts : Acting H) (t : Terms) (shape : Shape) (limit : ℕ) (y : ActorId) (number : K → ℕ) (s : HandState) (h k : CodeHand H) (b f : Words) (q u : PlainTable) (o r : PlainWords) (cgot : CodeGot (Msg L K)) (ask : CodeAsk (Msg L K)) (p : WorldPorts) → 1 ≤ t.max_conn → IsHandOf t y → IsThere t y → HandIs t y h s → IsHand k → Carries t y s.hand.next s.stage → GotFits t s.stage (hand_got (world_got number cgot)) → IsNumberedStage s.stage → IsNumberedGot (hand_got (world_got number cgot)) → Stands t shape y (around h b q o) p → (w : TurnsBy (plain_rules acts) h b q o cgot k f u r ask) → Went t shape limit y number s (world_got number cgot) k f u r ask (turn_calls_of (plain_rules acts) h b q o cgot k f u r ask w.0) p
hand_turn acts t shape limit y number s h k b f q u o r cgot ask p some hand there is code car fits num gnum st w =
    let calls = turn_calls_of (plain_rules acts) h b q o cgot k f u r ask w.0 in
    let z = turn_fits t y limit number (plain_rules acts) s.hand s.stage h b q o cgot (hand_got (world_got number cgot)) k f u r ask is.code (st.board.workers ∙ sym is.matches.house.workers, st.board.taskers ∙ sym is.matches.house.taskers) (λ call after row found x g. table_may t q after call row found x st.table.columns g) is.matches is.stage car num (got_same number cgot) gnum fits w.0 in
    let a = calls_answered acts t shape y calls (around h b q o) (around k f u r) p some there (sound_calls t y number s.hand.log k ask calls (dids_of t y z.0 s (world_got number cgot)) (turned t y limit z.0 s (world_got number cgot)) (sound_turn t y z.0 s.stage s.hand (hand_got (world_got number cgot)) num) z.1.1) st w.1 in
    record { dids = collect did_in calls; answers = a.0; stands = a.1; came = came_to t limit y number s (world_got number cgot) k ask calls z.0 hand code z.1.0 z.1.1 }
