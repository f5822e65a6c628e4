-- All task workers beside the family's.
use Rattle.std.proofs.Common.{◌≡◌, ℕ, ◌+◌, List, [], ◌∷◌, ◌++◌, slice_set, refl, ◌∙◌, sym, subst, arith}
use Rattle.sw_base.specs.declared.table.Value.{Value}
use Rattle.sw_column.specs.declared.column.Column.{Column}
use Rattle.sw_column.specs.Values.{HasKinds}
use Rattle.sw_data.specs.declared.messages.Msg.{Msg}
use Rattle.sw_data.specs.declared.messages.Ask.{Ask}
use Rattle.sw_step.specs.declared.actor.ActorId.TheVariants.{Tasker}
use Rattle.sw_port_board.specs.PlainBoard.{PlainWords}
use Rattle.sw_port_book.specs.Plain.{Words}
use Rattle.sw_record.specs.Words.{Log}
use Rattle.sw_record.specs.Terms.{Terms}
use Rattle.sw_table_laws.specs.Table.{Shape}
use Rattle.sw_tmodel.specs.Plain.{PlainTable}
use Rattle.sw_world_ports.specs.Calls.{Did}
use Rattle.sw_world_ports.specs.Ports.{Ports}
use Rattle.sw_world_laws.specs.Turns.{Got}
use Rattle.sw_world_fits.specs.Board.{BoardStands}
use Rattle.sw_world_fits.specs.Table.{TableStands}
use Rattle.sw_hand.specs.House.{IsHouse}
use Rattle.sw_hand.specs.Hand.{HasRow}
use Rattle.sw_hand.specs.Ports.{Acting}
use Rattle.sw_hand.specs.declared.hand.Hand.{Hand as CodeHand}
use Rattle.sw_hand.specs.declared.house.House.{House}
use Rattle.sw_hand_calls.specs.Calls.{PortCall, AreMade, around}
use Rattle.sw_tasker.specs.Tasker.{started}
use Rattle.sw_hand_laws.specs.Kept.{GotFits}
use Rattle.sw_hand_fits.specs.Matches.{HouseFits, IsNumberedGot}
use Rattle.sw_world_hands.specs.Hands.{HandState, new_hand, hand_got}
use Rattle.sw_world_hand_fits.specs.Plain.{plain_rules}
use Rattle.sw_world_hand_fits.specs.Hands.{Gone, Numbers, Tells}
use Rattle.sw_world_hand_fits.proofs.Starts.{tasker_starts}
use Rattle.sw_world_hand_fits.proofs.Workers.{goes_numbered, tasker_tells}
use Rattle.sw_world_crew.specs.Hands.{MayTurn}
use Rattle.sw_world_crew_fits.specs.Stand.{TaskerStands, TaskersStand}
use Rattle.sw_world_crew_fits.proofs.Lists.{set_length, more_length, one_more, one_changed}

pub no_taskers : {T : Type 0} (told : T → Log) (t : Terms) (states : ℕ → HandState) → TaskersStand told t 0 [] states
no_taskers told t states = record { many = refl; each = λ n lt. absurd (omega (arith, lt)) }

pub add_tasker : {T : Type 0} (told : T → Log) (t : Terms) (left : ℕ → ℕ) (all : List (CodeHand T)) (count : ℕ) (handler : T) (row : List Value) (house : House) → TaskersStand told t count all (λ n. new_hand (left n)) → IsHouse house → HouseFits t house → told handler ≡ [] → HasKinds t.columns row → TaskersStand told t (count + 1) (all ++ started count handler row house ∷ []) (λ n. new_hand (left n))
add_tasker {T} told t left all count handler row house h is fits silent kinds = record {
  many = more_length all (started count handler row house) count h.many;
  each = one_more (λ (n : ℕ) (k : CodeHand T). TaskerStands told t n k (new_hand (left n))) all (started count handler row house) count h.many h.each (record {
    is = tasker_starts t count (left count) handler row house is fits;
    numbered = tt;
    row = λ some. kinds;
    tells = silent;
  });
}

pub tasker_may : {T : Type 0} (told : T → Log) (t : Terms) (shape : Shape) (n : ℕ) (h : CodeHand T) (s : HandState) (w : PlainWords) (q : PlainTable) (p : Ports) → TaskerStands told t n h s → BoardStands t w p → TableStands t shape q p.table → MayTurn h q w
tasker_may told t shape n h s w q p k board table =
    let house : HouseFits t h.house = k.is.matches.house in
    ((board.workers ∙ sym house.workers, board.taskers ∙ sym house.taskers), subst (λ (cs : List Column). HasRow cs h.house h.row) (sym table.columns) k.row)

pub tasker_on : {T L K : Type 0} (told : T → Log) (acts : Acting T) (t : Terms) (limit n : ℕ) (number : K → ℕ) (s : HandState) (got : Got) (h k : CodeHand T) (b f : Words) (q u : PlainTable) (o r : PlainWords) (ask : Ask (Msg L K)) (calls : List PortCall) (dids : List Did) → Tells told acts → Numbers acts → TaskerStands told t n h s → GotFits t s.stage (hand_got got) → IsNumberedGot (hand_got got) → AreMade (plain_rules acts) calls (around h b q o) (around k f u r) → HasRow t.columns k.house k.row → (gone : Gone t limit (Tasker n) number s got k ask calls dids) → TaskerStands told t n k gone.state
tasker_on told acts t limit n number s got h k b f q u o r ask calls dids tells num it fits ngot made row gone = record {
  is = gone.code;
  numbered = goes_numbered acts t limit (Tasker n) number s got h k b f q u o r ask calls dids num fits ngot it.numbered made gone;
  row = row;
  tells = tasker_tells told acts t limit (Tasker n) number s got h k b f q u o r ask calls dids tells it.tells made gone;
}

pub tasker_changed : {T : Type 0} (told : T → Log) (t : Terms) (count : ℕ) (all more : List (CodeHand T)) (states after : ℕ → HandState) (n : ℕ) (k : CodeHand T) → TaskersStand told t count all states → more ≡ slice_set all n k → ((m : ℕ) → ¬ (m ≡ n) → after m ≡ states m) → TaskerStands told t n k (after n) → TaskersStand told t count more after
tasker_changed {T} told t count all more states after n k h e same here = subst (λ (xs : List (CodeHand T)). TaskersStand told t count xs after) (sym e) (record {
  many = set_length all n k ∙ h.many;
  each = one_changed (λ (m : ℕ) (x : CodeHand T). TaskerStands told t m x (states m)) (λ (m : ℕ) (x : CodeHand T). TaskerStands told t m x (after m)) all n k count h.many h.each (λ m x ne w. subst (TaskerStands told t m x) (sym (same m ne)) w) here;
})
