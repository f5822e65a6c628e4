-- Each answer fits, and there are as many logs as workers and task workers.
use Rattle.std.proofs.Common.{List, length, refl, ap, ◌∙◌, subst, inl, inr, true, false}
use Rattle.sw_step.specs.declared.actor.ActorId.TheVariants.{Worker, Tasker}
use Rattle.sw_record.specs.declared.record.Record.{Record}
use Rattle.sw_record.specs.Words.{Log}
use Rattle.sw_record.specs.Terms.{Terms, HasLogs}
use Rattle.sw_record.specs.Fits.{AnswersFitLog, AnswersFit}
use Rattle.sw_past.specs.Past.{Past}
use Rattle.sw_past.specs.Routes.{crew}
use Rattle.sw_join.specs.Laws.{Aim, Ending, Locals}
use Rattle.sw_join.specs.Shown.{IsShown}
use Rattle.sw_join.proofs.Own.{length_logs}
use Rattle.sw_join.proofs.Shown.{shown_worker, shown_tasker}
use Rattle.sw_join.proofs.Drained.{length_crew}

pub has_logs : (t : Terms) (h : Past) (r : Record) → IsShown t h r → HasLogs t r
has_logs t h r i =
    record {
      workers = ap (λ (xs : List Log). length xs) i.workers ∙ length_logs h (crew Worker 0 t.worker_num) ∙ length_crew Worker 0 t.worker_num;
      taskers = ap (λ (xs : List Log). length xs) i.taskers ∙ length_logs h (crew Tasker 0 t.tasker_num) ∙ length_crew Tasker 0 t.tasker_num;
    }

pub answers_fit : (t : Terms) (a : Aim) (w : Ending) (h : Past) (r : Record) → Locals t a w h → IsShown t h r → AnswersFit t r
answers_fit t a w h r l i =
    record {
      workers = λ k log there. (let b = shown_worker t h r i k log there in subst (AnswersFitLog t true) b.1 (l.hand (Worker k) (inl (k, (b.0, refl)))).fits);
      taskers = λ k log there. (let b = shown_tasker t h r i k log there in subst (AnswersFitLog t false) b.1 (l.hand (Tasker k) (inr (k, (b.0, refl)))).fits);
    }
