-- By the marks of tasks and finishes, calls of the Table come behind those that were seen.
use Rattle.std.proofs.Common.{ℕ, ◌<◌, ◌≤◌, List, length, ◌∙◌, sym, subst, arith}
use Rattle.sw_lists.specs.Lists.{Each, Has}
use Rattle.sw_lists.proofs.Lists.{each_more}
use Rattle.sw_record.specs.Words.{Log}
use Rattle.sw_record.specs.declared.record.Record.{Record}
use Rattle.sw_record.specs.Terms.{Terms}
use Rattle.sw_record.specs.Logs.{numbers}
use Rattle.sw_record.specs.Tasks.{tasks_of, finishes_of, only}
use Rattle.sw_record.specs.AfterSeen.{AreAbove, IsPostedAt, IsMadeAt, AfterSeen}
use Rattle.sw_past.specs.Past.{Past}
use Rattle.sw_join.specs.Shown.{IsShown}
use Rattle.sw_join.specs.Seen.{IsMarked, SeenLaws}
use Rattle.sw_join.proofs.Shown.{shown_worker, shown_tasker}

marked_above : (before behind : List ℕ) → IsMarked before behind → AreAbove behind before
marked_above before behind m =
    each_more (λ n. m.0 ≤ n) (λ n. Each (λ k. k < n) before) behind
    (λ n le. each_more (λ k. k < m.0) (λ k. k < n) before (λ k lt. omega (arith, lt, le)) m.1.0) m.1.1

pub after_seen : (t : Terms) (h : Past) (r : Record) → IsShown t h r → SeenLaws t h → AfterSeen r
after_seen t h r i s =
    record {
      task = λ w k log tasks there theres id bytes act front rest before behind given q p. (let b = shown_worker t h r i w log there in let c = shown_tasker t h r i k tasks theres in
          marked_above _ _ (s.task w k b.0 c.0 id bytes act front rest before behind given (c.1 ∙ q) (subst (λ (x : Log). IsPostedAt x id before behind given) (sym b.1) p)));
      finish = λ w k log tasks there theres id bytes act front rest before behind given q has p. (let b = shown_worker t h r i w log there in let c = shown_tasker t h r i k tasks theres in
          marked_above _ _ (s.finish w k b.0 c.0 id bytes act front rest before behind given (b.1 ∙ q) (subst (λ (x : Log). Has id (numbers (tasks_of w x))) (sym c.1) has) (subst (λ (x : Log). IsMadeAt w x (length (only (numbers (tasks_of w x)) (finishes_of front))) before behind given) (sym c.1) p)));
    }
