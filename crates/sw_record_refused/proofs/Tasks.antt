-- Wrong tasks are refused.
use Rattle.std.proofs.Common.{◌≡◌, ℕ, ◌<◌, List, [], ◌∷◌, refl, ap, sym, subst, arith, Option, Some, None, slice_get, zero, suc}
use Rattle.sw_lists.specs.Lists.{Has}
use Rattle.sw_record.specs.Words.{Finish, Dst, Log}
use Rattle.sw_record_refused.specs.Wrong.{heard, live, with_logs, posts, task}
use Rattle.sw_record.specs.Logs.{numbers}
use Rattle.sw_record.specs.Tasks.{tasks_of, TasksRight}
use Rattle.sw_record_refused.specs.Refused.{RefusedTasks}

-- the first byte
abbrev byte_of : List ℕ → ℕ
byte_of [] = 0
byte_of (b ∷ bs) = b

abbrev byte_in : Option (Dst × List ℕ) → ℕ
byte_in None = 0
byte_in (Some p) = byte_of p.1

bytes : TasksRight (with_logs (live 2) (posts 0) [] (task 0 99 ∷ [])) → ⊥
bytes h = let p = (h.given 0 0 (posts 0) (task 0 99 ∷ []) refl refl).0 in let e : ◌≡◌ {A = ℕ} 97 99 = ap byte_in p.1.0 in omega arith

twice : TasksRight (with_logs (live 2) (posts 0) [] (task 0 97 ∷ task 0 97 ∷ [])) → ⊥
twice h = let e : 0 < 0 = (h.rise 0 0 (posts 0) (task 0 97 ∷ task 0 97 ∷ []) refl refl).0.0 in omega arith

-- the task worker was given nothing
pub nothing : (k : ℕ) (tasks : Log) → slice_get ([] ∷ []) k ≡ Some tasks → Has 0 (numbers (tasks_of 0 tasks)) → ⊥
nothing zero tasks e has = let same : [] ≡ tasks = cc in let g : Has 0 (numbers (tasks_of 0 [])) = subst (λ (x : Log). Has 0 (numbers (tasks_of 0 x))) (sym same) has in (let q : slice_get [] g.0 ≡ Some 0 = g.1 in cc)
nothing (suc k) tasks e has = cc

finish : TasksRight (with_logs (live 2) (heard (Finish 0 []) ∷ []) [] []) → ⊥
finish h = let p = (h.back 0 (heard (Finish 0 []) ∷ []) refl).0 in nothing p.0 p.1.0 p.1.1.0 p.1.1.1

ids : TasksRight (with_logs (live 2) (posts 1) [] []) → ⊥
ids h = let e : ◌≡◌ {A = ℕ} 1 0 = (h.posted 0 (posts 1) refl).0 in omega arith

pub tasks : RefusedTasks
tasks = record { bytes = bytes; twice = twice; finish = finish; ids = ids }
