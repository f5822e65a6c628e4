-- Wrong logs and wrong answers are refused.
use Rattle.std.proofs.Common.{◌≡◌, ℕ, true, false, [], ◌∷◌, refl, arith}
use Rattle.sw_record.specs.Terms.{HasLogs}
use Rattle.sw_record_refused.specs.Wrong.{in_mode, live, with_logs, answer_twice, binds, finishes, own_refused, posts, tasker_posts, call_at}
use Rattle.sw_record.specs.Dialogue.{Dialogues}
use Rattle.sw_record.specs.Fits.{AnswersFit}
use Rattle.sw_record_refused.specs.Refused.{RefusedLogs, RefusedAnswers}

missing : HasLogs (in_mode 2) (record { links = []; workers = [] ∷ []; taskers = [] ∷ [] }) → ⊥
missing h = let e : ◌≡◌ {A = ℕ} 1 2 = h.workers in omega arith

twice : Dialogues (with_logs (live 2) answer_twice [] []) → ⊥
twice h = (h 0 answer_twice refl).1.1.0

pub logs : RefusedLogs
logs = record { missing = missing; answer_twice = twice }

bind : AnswersFit (in_mode 2) (with_logs (live 2) binds [] []) → ⊥
bind h = let e : ◌≡◌ {A = ℕ} 2 5 = (h.workers 0 binds refl).1.0.0.0 in omega arith

finish : AnswersFit (in_mode 2) (with_logs (live 2) finishes [] []) → ⊥
finish h = let e : false ≡ true = (h.workers 0 finishes refl).1.0.0 in cc

own : AnswersFit (in_mode 2) (with_logs (live 2) own_refused [] []) → ⊥
own h = let e : true ≡ false = (h.workers 0 own_refused refl).1.0.0 in cc

first_id : AnswersFit (in_mode 2) (with_logs (live 2) (posts 1) [] []) → ⊥
first_id h = let e : ◌≡◌ {A = ℕ} 1 0 = (h.workers 0 (posts 1) refl).1.0.0.1 in omega arith

tasker : AnswersFit (in_mode 2) (with_logs (live 2) [] [] tasker_posts) → ⊥
tasker h = let e : false ≡ true = (h.taskers 0 tasker_posts refl).1.0.0.0.here in cc

no_table : AnswersFit (in_mode 2) (with_logs (live 2) (call_at 0) [] []) → ⊥
no_table h = (h.workers 0 (call_at 0) refl).1.0.0.0 refl

pub answers : RefusedAnswers
answers = record { bind = bind; finish = finish; own = own; first_id = first_id; no_table = no_table; tasker = tasker }
