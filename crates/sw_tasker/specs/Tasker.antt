-- A task worker: a hand of the task workers' kind.
use Rattle.std.specs.Prelude.{ℕ, false, List, []}
use Rattle.sw_base.specs.declared.table.Value.{Value}
use Rattle.sw_hand.specs.declared.hand.Hand.{Hand}
use Rattle.sw_hand.specs.declared.house.House.{House}
use Rattle.sw_hand.specs.declared.house.Kind.TheVariants.{Tasker}
use Rattle.sw_hand.specs.declared.stage.Stage.TheVariants.{Idle}

-- a task worker of this number before its first turn
abbrev pub started : {T : Type 0} → ℕ → T → List Value → House → Hand T
started number handler row house = record {
  house = house;
  kind = Tasker number;
  handler = handler;
  row = row;
  own = [];
  next = 0;
  out = 0;
  ended = 0;
  lost = false;
  stage = Idle;
}
