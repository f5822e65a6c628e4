-- Two counters are the same by their numbers.
use Rattle.std.proofs.Common.{◌≡◌, ℕ, true, false, refl, ap, ◌∙◌, sym, zero, suc}
use Rattle.sw_lists.proofs.Lists.{eq_is, eq_same, eq_other}
use Rattle.sw_port_board.specs.Board.{counter_number}
use Rattle.sw_record.specs.Words.{Counter, AcceptedCount, EndedCount, PacketsCount, SendsCount, TasksCount, FinishesCount}
use Rattle.sw_world_ports.specs.Made.{same_counter}

counter_at : ℕ → Counter
counter_at zero = AcceptedCount
counter_at (suc zero) = EndedCount
counter_at (suc (suc zero)) = PacketsCount
counter_at (suc (suc (suc zero))) = SendsCount
counter_at (suc (suc (suc (suc zero)))) = TasksCount
counter_at (suc (suc (suc (suc (suc n))))) = FinishesCount

at_number : (c : Counter) → counter_at (counter_number c) ≡ c
unfolding counter_at
at_number AcceptedCount = refl
at_number EndedCount = refl
at_number PacketsCount = refl
at_number SendsCount = refl
at_number TasksCount = refl
at_number FinishesCount = refl

number_is : (c d : Counter) → counter_number c ≡ counter_number d → c ≡ d
number_is c d e = sym (at_number c) ∙ ap counter_at e ∙ at_number d

pub counter_is : (c d : Counter) → same_counter c d ≡ true → c ≡ d
counter_is c d e = number_is c d (eq_is (counter_number c) (counter_number d) e)

pub counter_same : (c d : Counter) → c ≡ d → same_counter c d ≡ true
counter_same c d e = eq_same (counter_number c) (counter_number d) (ap counter_number e)

pub counter_other : (c d : Counter) → ¬ (c ≡ d) → same_counter c d ≡ false
counter_other c d n = eq_other (counter_number c) (counter_number d) (λ e. n (number_is c d e))
