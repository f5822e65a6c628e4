-- Packets reach some worker each: the modes that tie no connection to a worker.
use Rattle.std.specs.Prelude.{◌≡◌, ℕ, [], List, slice_get, Some}
use Rattle.sw_lists.specs.Lists.{Each, Has}
use Rattle.sw_lists.specs.Numbers.{Rises}
use Rattle.sw_record.specs.Logs.{Handled, numbers, connects_of, closeds_of}
use Rattle.sw_record.specs.Terms.{Terms, HasLink, packets_on}
use Rattle.sw_record.specs.Words.{Log}
use Rattle.sw_record.specs.declared.record.LinkRecord.{LinkRecord}
use Rattle.sw_record.specs.declared.record.Record.{Record}

-- modes 1 and 3: each packet at one worker, in each log in order, without Connect and Closed
pub record Scattered (t : Terms) (r : Record) : Type 0 where
  pub no_connect : (s : ℕ) (l : LinkRecord) → HasLink r.links s l → (k : ℕ) (log : Log) → slice_get r.workers k ≡ Some log → connects_of s log ≡ []
  pub no_closed : (s : ℕ) (l : LinkRecord) → HasLink r.links s l → (k : ℕ) (log : Log) → slice_get r.workers k ≡ Some log → closeds_of s log ≡ []
  pub cut : (s : ℕ) (l : LinkRecord) → HasLink r.links s l → (k : ℕ) (log : Log) → slice_get r.workers k ≡ Some log → Each (λ (p : ℕ × List ℕ). Has p (packets_on t l)) (Handled log s)
  pub rise : (s : ℕ) (l : LinkRecord) → HasLink r.links s l → (k : ℕ) (log : Log) → slice_get r.workers k ≡ Some log → Rises (numbers (Handled log s))
  pub once : (s : ℕ) (l : LinkRecord) → HasLink r.links s l → (j k : ℕ) (log other : Log) → slice_get r.workers j ≡ Some log → slice_get r.workers k ≡ Some other → ¬ (j ≡ k) → Each (λ n. Each (λ m. ¬ (n ≡ m)) (numbers (Handled other s))) (numbers (Handled log s))
