-- A turn of the code keeps a worker's handlers beside those of the tables, and sessions other than 0.
use Rattle.std.proofs.Common.{◌≡◌, ℕ, List, ◌++◌, ap, ◌∙◌, sym, subst}
use Rattle.sw_lists.specs.Lists.{collect}
use Rattle.sw_step.specs.declared.actor.ActorId.{ActorId}
use Rattle.sw_data.specs.declared.messages.Msg.{Msg}
use Rattle.sw_data.specs.declared.messages.Ask.{Ask as CodeAsk}
use Rattle.sw_port_book.specs.Plain.{Words}
use Rattle.sw_port_board.specs.PlainBoard.{PlainWords}
use Rattle.sw_tmodel.specs.Plain.{PlainTable}
use Rattle.sw_record.specs.Words.{Log}
use Rattle.sw_record.specs.Terms.{Terms}
use Rattle.sw_world_ports.specs.Calls.{Did}
use Rattle.sw_world_laws.specs.Turns.{Got}
use Rattle.sw_hand.specs.Ports.{Acting}
use Rattle.sw_hand.specs.declared.hand.Hand.{Hand as CodeHand}
use Rattle.sw_hand_calls.specs.Calls.{PortCall, around, AreMade}
use Rattle.sw_worker.specs.Generations.{Line, Acts}
use Rattle.sw_hand_laws.specs.Kept.{GotFits}
use Rattle.sw_hand_laws.proofs.Moves.{turn_moves}
use Rattle.sw_hand_fits.specs.Matches.{gave_in, IsNumberedGot}
use Rattle.sw_world_hands.specs.Hands.{HandState, Crews, hand_got, turned}
use Rattle.sw_world_hand_fits.specs.Plain.{plain_rules}
use Rattle.sw_world_hand_fits.specs.Hands.{WorkerIs, Gone, Numbered, Numbers, Tells, LineTells}
use Rattle.sw_world_hand_fits.proofs.Lines.{Lined, moved_line, passed, line_turn}
use Rattle.sw_world_hand_fits.proofs.Numbers.{turn_numbers}
use Rattle.sw_world_hand_fits.proofs.Telling.{passed_tells, line_tells}

pub worker_goes : {H L K : Type 0} (acts : Acting H) (t : Terms) (crews : Crews) (y : ActorId) (number : K → ℕ) (s : HandState) (got : Got) (h k : CodeHand (Line H)) (b f : Words) (q u : PlainTable) (o r : PlainWords) (ask : CodeAsk (Msg L K)) (calls : List PortCall) (dids : List Did) → WorkerIs t crews y h s → GotFits t s.stage (hand_got got) → AreMade (plain_rules (Acts acts)) calls (around h b q o) (around k f u r) → (gone : Gone t crews.limit y number s got k ask calls dids) → WorkerIs t crews y k gone.state
worker_goes acts t crews y number s got h k b f q u o r ask calls dids is fits made gone = record {
  hand = gone.code;
  line = line_turn acts crews.limit s.hand gone.state.hand h.handler k.handler (collect gave_in calls) is.line
      (subst (λ (x : HandState). Lined crews.limit s.hand x.hand) (sym gone.turn.state) (moved_line t y crews.limit s.stage (turned t y crews.limit gone.turn.ports s got).stage s.hand (turned t y crews.limit gone.turn.ports s got).hand (turn_moves t y crews.limit gone.turn.ports s.stage s.hand (hand_got got) gone.turn.fit fits)))
      gone.log (passed (Acts acts) calls (around h b q o) (around k f u r) gone.found made);
}

-- sessions stay other than 0
pub goes_numbered : {H L K : Type 0} (acts : Acting H) (t : Terms) (limit : ℕ) (y : ActorId) (number : K → ℕ) (s : HandState) (got : Got) (h k : CodeHand H) (b f : Words) (q u : PlainTable) (o r : PlainWords) (ask : CodeAsk (Msg L K)) (calls : List PortCall) (dids : List Did) → Numbers acts → GotFits t s.stage (hand_got got) → IsNumberedGot (hand_got got) → Numbered s.stage → AreMade (plain_rules acts) calls (around h b q o) (around k f u r) → (gone : Gone t limit y number s got k ask calls dids) → Numbered gone.state.stage
goes_numbered acts t limit y number s got h k b f q u o r ask calls dids num fits ngot n made gone =
    let same : (turned t y limit gone.turn.ports s got).hand.log ≡ s.hand.log ++ collect gave_in calls = ap (λ (x : HandState). x.hand.log) (sym gone.turn.state) ∙ gone.log in
    subst (λ (x : HandState). Numbered x.stage) (sym gone.turn.state) (turn_numbers acts t y limit gone.turn.ports s.stage s.hand (hand_got got) (collect gave_in calls) h.handler k.handler num gone.turn.fit fits ngot n same (passed acts calls (around h b q o) (around k f u r) gone.found made))

-- what a worker's handlers tell stays its log
pub worker_tells : {H L K : Type 0} (told : H → Log) (acts : Acting H) (t : Terms) (crews : Crews) (y : ActorId) (number : K → ℕ) (s : HandState) (got : Got) (h k : CodeHand (Line H)) (b f : Words) (q u : PlainTable) (o r : PlainWords) (ask : CodeAsk (Msg L K)) (calls : List PortCall) (dids : List Did) → Tells told acts → WorkerIs t crews y h s → LineTells told s.hand h.handler → GotFits t s.stage (hand_got got) → AreMade (plain_rules (Acts acts)) calls (around h b q o) (around k f u r) → (gone : Gone t crews.limit y number s got k ask calls dids) → LineTells told gone.state.hand k.handler
worker_tells told acts t crews y number s got h k b f q u o r ask calls dids tells is line fits made gone =
    line_tells told acts crews.limit s.hand gone.state.hand h.handler k.handler (collect gave_in calls) tells is.line
    (subst (λ (x : HandState). Lined crews.limit s.hand x.hand) (sym gone.turn.state) (moved_line t y crews.limit s.stage (turned t y crews.limit gone.turn.ports s got).stage s.hand (turned t y crews.limit gone.turn.ports s got).hand (turn_moves t y crews.limit gone.turn.ports s.stage s.hand (hand_got got) gone.turn.fit fits)))
    gone.log (passed (Acts acts) calls (around h b q o) (around k f u r) gone.found made) line

-- and a task worker's
pub tasker_tells : {T L K : Type 0} (told : T → Log) (acts : Acting T) (t : Terms) (limit : ℕ) (y : ActorId) (number : K → ℕ) (s : HandState) (got : Got) (h k : CodeHand T) (b f : Words) (q u : PlainTable) (o r : PlainWords) (ask : CodeAsk (Msg L K)) (calls : List PortCall) (dids : List Did) → Tells told acts → told h.handler ≡ s.hand.log → AreMade (plain_rules acts) calls (around h b q o) (around k f u r) → (gone : Gone t limit y number s got k ask calls dids) → told k.handler ≡ gone.state.hand.log
tasker_tells told acts t limit y number s got h k b f q u o r ask calls dids tells is made gone = passed_tells told acts (collect gave_in calls) h.handler k.handler tells (passed acts calls (around h b q o) (around k f u r) gone.found made) ∙ ap (λ (l : Log). l ++ collect gave_in calls) is ∙ sym gone.log
