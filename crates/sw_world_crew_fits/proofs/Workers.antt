-- All workers beside the family's.
use Rattle.std.proofs.Common.{◌≡◌, ℕ, suc, ◌+◌, List, [], ◌∷◌, ◌++◌, length, map, replicate, slice_set, refl, ap, ◌∙◌, sym, subst, arith}
use Rattle.sw_base.specs.declared.table.Value.{Value}
use Rattle.sw_column.specs.declared.column.Column.{Column}
use Rattle.sw_column.specs.Values.{HasKinds}
use Rattle.sw_data.specs.declared.messages.Msg.{Msg}
use Rattle.sw_data.specs.declared.messages.Ask.{Ask}
use Rattle.sw_step.specs.declared.actor.ActorId.TheVariants.{Worker}
use Rattle.sw_port_board.specs.PlainBoard.{PlainWords}
use Rattle.sw_port_book.specs.Plain.{Words}
use Rattle.sw_record.specs.Words.{Given, EventGiven, AnswerGiven, Log}
use Rattle.sw_record.specs.Terms.{Terms}
use Rattle.sw_table_laws.specs.Table.{Shape}
use Rattle.sw_tmodel.specs.Plain.{PlainTable}
use Rattle.sw_world_ports.specs.Calls.{Did}
use Rattle.sw_world_ports.specs.Ports.{Ports}
use Rattle.sw_world_laws.specs.Turns.{Got}
use Rattle.sw_world_fits.specs.Board.{BoardStands}
use Rattle.sw_world_fits.specs.Table.{TableStands}
use Rattle.sw_hand.specs.House.{IsHouse}
use Rattle.sw_hand.specs.Hand.{HasRow}
use Rattle.sw_hand.specs.Ports.{Acting}
use Rattle.sw_hand.specs.declared.hand.Hand.{Hand as CodeHand}
use Rattle.sw_hand.specs.declared.house.House.{House}
use Rattle.sw_hand_calls.specs.Calls.{PortCall, AreMade, around}
use Rattle.sw_worker.specs.Generations.{Line, Acts}
use Rattle.sw_worker.specs.Worker.{started}
use Rattle.sw_hand_laws.specs.Kept.{GotFits}
use Rattle.sw_hand_fits.specs.Matches.{HouseFits, IsNumbered, IsNumberedGot}
use Rattle.sw_world_hands.specs.Hands.{HandState, Crews, new_hand, hand_got}
use Rattle.sw_world_hand_fits.specs.Plain.{plain_rules}
use Rattle.sw_world_hand_fits.specs.Hands.{Gone, Numbers, Tells, IsNumberedGiven}
use Rattle.sw_world_hand_fits.proofs.Starts.{worker_starts}
use Rattle.sw_world_hand_fits.proofs.Workers.{worker_goes, goes_numbered, worker_tells}
use Rattle.sw_world_crew.specs.Hands.{MayTurn}
use Rattle.sw_world_crew_fits.specs.Stand.{WorkerStands, WorkersStand}
use Rattle.sw_world_crew_fits.proofs.Lists.{set_length, more_length, one_more, one_changed}

pub no_workers : {H : Type 0} (told : H → Log) (t : Terms) (crews : Crews) (states : ℕ → HandState) → WorkersStand told t crews 0 [] states
no_workers told t crews states = record { many = refl; each = λ n lt. absurd (omega (arith, lt)) }

-- before its first turn
new_worker : {H : Type 0} (told : H → Log) (t : Terms) (crews : Crews) (count : ℕ) (handlers : List H) (row : List Value) (house : House) → IsHouse house → HouseFits t house → length handlers ≡ crews.left (Worker count) + 1 → map told handlers ≡ replicate (length handlers) [] → HasKinds t.columns row → WorkerStands told t crews count (started 0 count handlers crews.limit row house) (new_hand (crews.left (Worker count)))
new_worker told t crews count handlers row house is fits many silent kinds = record {
  is = worker_starts t crews count handlers row house is fits many;
  numbered = tt;
  row = λ some. kinds;
  tells = silent ∙ ap (λ (n : ℕ). replicate n []) (many ∙ (let e : crews.left (Worker count) + 1 ≡ suc (crews.left (Worker count)) = omega arith in e));
}

pub add_worker : {H : Type 0} (told : H → Log) (t : Terms) (crews : Crews) (all : List (CodeHand (Line H))) (count : ℕ) (handlers : List H) (row : List Value) (house : House) → WorkersStand told t crews count all (λ n. new_hand (crews.left (Worker n))) → IsHouse house → HouseFits t house → length handlers ≡ crews.left (Worker count) + 1 → map told handlers ≡ replicate (length handlers) [] → HasKinds t.columns row → WorkersStand told t crews (count + 1) (all ++ started 0 count handlers crews.limit row house ∷ []) (λ n. new_hand (crews.left (Worker n)))
add_worker {H} told t crews all count handlers row house h is fits many silent kinds = record {
  many = more_length all (started 0 count handlers crews.limit row house) count h.many;
  each = one_more (λ (n : ℕ) (k : CodeHand (Line H)). WorkerStands told t crews n k (new_hand (crews.left (Worker n)))) all (started 0 count handlers crews.limit row house) count h.many h.each (new_worker told t crews count handlers row house is fits many silent kinds);
}

pub worker_may : {H : Type 0} (told : H → Log) (t : Terms) (crews : Crews) (shape : Shape) (n : ℕ) (h : CodeHand (Line H)) (s : HandState) (w : PlainWords) (q : PlainTable) (p : Ports) → WorkerStands told t crews n h s → BoardStands t w p → TableStands t shape q p.table → MayTurn h q w
worker_may told t crews shape n h s w q p k board table =
    let house : HouseFits t h.house = k.is.hand.matches.house in
    ((board.workers ∙ sym house.workers, board.taskers ∙ sym house.taskers), subst (λ (cs : List Column). HasRow cs h.house h.row) (sym table.columns) k.row)

-- a line of handlers that act on sessions other than 0 does so
line_numbers : {H : Type 0} (acts : Acting H) → Numbers acts → Numbers (Acts acts)
line_numbers {H} acts num g given act k does given_is = by given does given_is
  where
    by : (x : Given) → Acts acts g x act k → IsNumberedGiven x → IsNumbered act
    by (EventGiven e) d i = num d.0 (EventGiven e) act d.1.0 d.1.1.1 i
    by (AnswerGiven a) d i = num d.0 (AnswerGiven a) act d.1.0 d.1.1.1 i

pub worker_on : {H L K : Type 0} (told : H → Log) (acts : Acting H) (t : Terms) (crews : Crews) (n : ℕ) (number : K → ℕ) (s : HandState) (got : Got) (h k : CodeHand (Line H)) (b f : Words) (q u : PlainTable) (o r : PlainWords) (ask : Ask (Msg L K)) (calls : List PortCall) (dids : List Did) → Tells told acts → Numbers acts → WorkerStands told t crews n h s → GotFits t s.stage (hand_got got) → IsNumberedGot (hand_got got) → AreMade (plain_rules (Acts acts)) calls (around h b q o) (around k f u r) → HasRow t.columns k.house k.row → (gone : Gone t crews.limit (Worker n) number s got k ask calls dids) → WorkerStands told t crews n k gone.state
worker_on told acts t crews n number s got h k b f q u o r ask calls dids tells num it fits ngot made row gone = record {
  is = worker_goes acts t crews (Worker n) number s got h k b f q u o r ask calls dids it.is fits made gone;
  numbered = goes_numbered (Acts acts) t crews.limit (Worker n) number s got h k b f q u o r ask calls dids (line_numbers acts num) fits ngot it.numbered made gone;
  row = row;
  tells = worker_tells told acts t crews (Worker n) number s got h k b f q u o r ask calls dids tells it.is it.tells fits made gone;
}

pub worker_changed : {H : Type 0} (told : H → Log) (t : Terms) (crews : Crews) (count : ℕ) (all more : List (CodeHand (Line H))) (states after : ℕ → HandState) (n : ℕ) (k : CodeHand (Line H)) → WorkersStand told t crews count all states → more ≡ slice_set all n k → ((m : ℕ) → ¬ (m ≡ n) → after m ≡ states m) → WorkerStands told t crews n k (after n) → WorkersStand told t crews count more after
worker_changed {H} told t crews count all more states after n k h e same here = subst (λ (xs : List (CodeHand (Line H))). WorkersStand told t crews count xs after) (sym e) (record {
  many = set_length all n k ∙ h.many;
  each = one_changed (λ (m : ℕ) (x : CodeHand (Line H)). WorkerStands told t crews m x (states m)) (λ (m : ℕ) (x : CodeHand (Line H)). WorkerStands told t crews m x (after m)) all n k count h.many h.each (λ m x ne w. subst (WorkerStands told t crews m x) (sym (same m ne)) w) here;
})
