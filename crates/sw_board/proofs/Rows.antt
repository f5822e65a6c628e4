-- Which word is whose.
use Rattle.std.proofs.Common.{◌≡◌, ◌≢◌, ◌<◌, ◌==◌, ℕ, zero, suc, Bool, true, false, sym, refl, ap, ◌∙◌, arith}
use Rattle.sw_base.specs.declared.counter.Counter.{Counter}
use Rattle.sw_base.specs.declared.counter.Counter.TheVariants.{Accepted, Ended, Packets, Sends, Tasks, Finishes}
use Rattle.sw_port_board.specs.Board.{counter_number, one_if}
use Rattle.sw_board.specs.Rule.{count_word, idle_word, words_of}

pub number_low : (c : Counter) → counter_number c < 6
number_low Accepted = omega arith
number_low Ended = omega arith
number_low Packets = omega arith
number_low Sends = omega arith
number_low Tasks = omega arith
number_low Finishes = omega arith

counter_at : ℕ → Counter
counter_at zero = Accepted
counter_at (suc zero) = Ended
counter_at (suc (suc zero)) = Packets
counter_at (suc (suc (suc zero))) = Sends
counter_at (suc (suc (suc (suc zero)))) = Tasks
counter_at (suc (suc (suc (suc (suc n))))) = Finishes

at_number : (c : Counter) → counter_at (counter_number c) ≡ c
unfolding counter_at
at_number Accepted = refl
at_number Ended = refl
at_number Packets = refl
at_number Sends = refl
at_number Tasks = refl
at_number Finishes = refl

-- counters of one number are one
pub number_same : (c d : Counter) → counter_number c ≡ counter_number d → c ≡ d
number_same c d e = sym (at_number c) ∙ ap counter_at e ∙ at_number d

pub same_row : (c d : Counter) (a b : ℕ) → count_word c a ≡ count_word d b → a ≡ b
same_row c d a b e = let lo = number_low c in let hi = number_low d in omega (arith, e, lo, hi)

pub same_count : (c d : Counter) (a b : ℕ) → count_word c a ≡ count_word d b → c ≡ d
same_count c d a b e = number_same c d (let s = same_row c d a b e in omega (arith, e, s))

pub same_idle : (a b : ℕ) → idle_word a ≡ idle_word b → a ≡ b
same_idle a b e = omega (arith, e)

pub idle_count : (c : Counter) (a b : ℕ) → idle_word a ≢ count_word c b
idle_count c a b e = let lo = number_low c in omega (arith, e, lo)

pub idle_below : (a actors : ℕ) → a < actors → idle_word a < words_of actors
idle_below a actors lt = omega (arith, lt)

pub count_below : (c : Counter) (a actors : ℕ) → a < actors → count_word c a < words_of actors
count_below c a actors lt = let lo = number_low c in omega (arith, lt, lo)

-- a word that is 1 or 0 says whether it is 1
pub is_one : (b : Bool) (n : ℕ) → n ≡ one_if b → (n == 1) ≡ b
is_one b n e = ap (λ k. k == 1) e ∙ (elim b as (λ t. (one_if t == 1) ≡ t) [ true ↦ refl | false ↦ refl ])

pub bit : (b : Bool) (n : ℕ) → n ≡ one_if b → n ≡ one_if (n == 1)
bit b n e = e ∙ sym (ap one_if (is_one b n e))
