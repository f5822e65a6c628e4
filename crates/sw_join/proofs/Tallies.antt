-- The counts that handlers were told.
use Rattle.std.proofs.Common.{◌≡◌, ℕ, ◌+◌, ◌≤◌, ◌==◌, Bool, true, false, if◌then◌else◌, List, [], ◌∷◌, ◌++◌, length, refl, ap, ◌∙◌, sym, subst, arith, Option, Some, None, zero, suc}
use Rattle.sw_lists.proofs.Lists.{each_more, eq_is, perm_length}
use Rattle.sw_lists.proofs.Sums.{sum_add, sum_le, sum_same}
use Rattle.sw_lists.specs.Lists.{collect, Each, when}
use Rattle.sw_lists.specs.Numbers.{sum_below}
use Rattle.sw_step.specs.declared.actor.ActorId.{ActorId}
use Rattle.sw_record.specs.Answers.{answers_of}
use Rattle.sw_record.specs.Counts.{dispatched_of, total, tally, count_in, most_of, CountsRight}
use Rattle.sw_record.specs.Rounds.{at_reactor, link_of}
use Rattle.sw_record.specs.Sessions.{some_of, accepted_by, accepted_in, accepted}
use Rattle.sw_record.specs.Terms.{Terms, logs, session_of, reactor_of}
use Rattle.sw_record.specs.Words.{Counter, AcceptedCount, EndedCount, PacketsCount, SendsCount, TasksCount, FinishesCount, Log}
use Rattle.sw_record.specs.declared.record.LinkRecord.{LinkRecord}
use Rattle.sw_record.specs.declared.record.LinkState.{LinkState}
use Rattle.sw_record.specs.declared.record.LinkState.TheVariants.{Waiting, Live, Over}
use Rattle.sw_record.specs.declared.record.Record.{Record}
use Rattle.sw_past.specs.Past.{Past}
use Rattle.sw_past.specs.Routes.{hands}
use Rattle.sw_join.proofs.Own.{log_of}
use Rattle.sw_join.proofs.Rounds.{perm_total}
use Rattle.sw_join.proofs.Sessions.{fits_length}
use Rattle.sw_join.proofs.Shown.{shown_logs}
use Rattle.sw_join.specs.Counts.{CountLaws}
use Rattle.sw_join.specs.Shown.{log_at, IsShown}

-- a link is at one reactor at most
abbrev here : ℕ → ℕ → ℕ → ℕ
here q d n = if q == n then d else 0

here_none : (q d m : ℕ) → m ≤ q → sum_below (here q d) m ≡ 0
here_none q d zero le = refl
here_none q d (suc m) le = pick (q == m) refl (here_none q d m (omega arith))
  where
    pick : (b : Bool) → q == m ≡ b → sum_below (here q d) m ≡ 0 → sum_below (here q d) m + here q d m ≡ 0
    pick true e r = absurd (let x : q ≡ m = eq_is q m e in omega arith)
    pick false e r = let x : here q d m ≡ 0 = rw e refl in omega arith

here_most : (q d m : ℕ) → sum_below (here q d) m ≤ d
here_most q d zero = omega arith
here_most q d (suc m) = pick (q == m) refl (here_most q d m)
  where
    pick : (b : Bool) → q == m ≡ b → sum_below (here q d) m ≤ d → sum_below (here q d) m + here q d m ≤ d
    pick true e r = let x : sum_below (here q d) m ≡ 0 = here_none q d m (let z : q ≡ m = eq_is q m e in omega arith) in let y : here q d m ≡ d = rw e refl in omega arith
    pick false e r = let y : here q d m ≡ 0 = rw e refl in omega arith

total_append : (xs ys : List LinkRecord) → total (xs ++ ys) ≡ total xs + total ys
total_append [] ys = omega arith
total_append (x ∷ xs) ys = omega (arith, total_append xs ys)

-- the packets of one link, by reactor
one_link : (t : Terms) (l : LinkRecord) (m : ℕ) → sum_below (λ n. total (link_of t n l)) m ≤ dispatched_of l.state
one_link t l m = by (session_of l.state)
  where
    by : (o : Option ℕ) → sum_below (λ n. total (collect (at_reactor t n l) (some_of o))) m ≤ dispatched_of l.state
    by None = zeros m
      where
        zeros : (k : ℕ) → sum_below (λ n. 0) k ≤ dispatched_of l.state
        zeros zero = omega arith
        zeros (suc k) = let r : sum_below (λ n. 0) k ≤ dispatched_of l.state = zeros k in omega arith
    by (Some s) =
        let same : sum_below (λ n. total (collect (at_reactor t n l) (s ∷ []))) m ≡ sum_below (here (reactor_of t s) (dispatched_of l.state)) m = sum_same (λ n. total (collect (at_reactor t n l) (s ∷ []))) (here (reactor_of t s) (dispatched_of l.state)) m (λ n. pick n (reactor_of t s == n)) in
        let most : sum_below (here (reactor_of t s) (dispatched_of l.state)) m ≤ dispatched_of l.state = here_most (reactor_of t s) (dispatched_of l.state) m in
        omega arith
      where
        pick : (n : ℕ) (b : Bool) → total (when b l ++ []) ≡ (if b then dispatched_of l.state else 0)
        pick n true = omega arith
        pick n false = refl

all_links : (t : Terms) (ls : List LinkRecord) (m : ℕ) → sum_below (λ n. total (collect (link_of t n) ls)) m ≤ total ls
all_links t [] m = zeros m
  where
    zeros : (k : ℕ) → sum_below (λ n. 0) k ≤ 0
    zeros zero = omega arith
    zeros (suc k) = let r : sum_below (λ n. 0) k ≤ 0 = zeros k in omega arith
all_links t (l ∷ ls) m =
    let a : sum_below (λ n. total (link_of t n l ++ collect (link_of t n) ls)) m ≡ sum_below (λ n. total (link_of t n l) + total (collect (link_of t n) ls)) m = sum_same (λ n. total (link_of t n l ++ collect (link_of t n) ls)) (λ n. total (link_of t n l) + total (collect (link_of t n) ls)) m (λ n. total_append (link_of t n l) (collect (link_of t n) ls)) in
    let b : sum_below (λ n. total (link_of t n l) + total (collect (link_of t n) ls)) m ≡ sum_below (λ n. total (link_of t n l)) m + sum_below (λ n. total (collect (link_of t n) ls)) m = sum_add (λ n. total (link_of t n l)) (λ n. total (collect (link_of t n) ls)) m in
    let c : sum_below (λ n. total (link_of t n l)) m ≤ dispatched_of l.state = one_link t l m in
    let d : sum_below (λ n. total (collect (link_of t n) ls)) m ≤ total ls = all_links t ls m in
    omega arith

-- not all links were accepted
accepted_few : (ls : List LinkRecord) → length (collect accepted_in ls) ≤ length ls
accepted_few [] = omega arith
accepted_few (l ∷ ls) = pick l.state (accepted_few ls)
  where
    pick : (s : LinkState) → length (collect accepted_in ls) ≤ length ls → length (accepted_by s l ++ collect accepted_in ls) ≤ length (l ∷ ls)
    pick Waiting r = omega arith
    pick (Live e) r = omega arith
    pick (Over e) r = omega arith

pub counts_right : (t : Terms) (h : Past) (r : Record) → IsShown t h r → CountLaws t h r → CountsRight r
counts_right t h r i c =
    record {
      most = λ k log there. (let o = log_of t h r i k log there in subst (λ (x : Log). Each (λ (p : Counter × ℕ). p.1 ≤ most_of r p.0) (collect count_in (answers_of x))) o.log_is
          (each_more (λ (p : Counter × ℕ). p.1 ≤ c.final p.0) (λ (p : Counter × ℕ). p.1 ≤ most_of r p.0) (collect count_in (answers_of (h.log o.who))) (λ p q. (let m : c.final p.0 ≤ most_of r p.0 = final_most p.0 in omega arith)) (c.most o.who o.hand)));
      least = λ k log there before behind n m is. (let o = log_of t h r i k log there in c.least o.who o.hand before behind n m (ap answers_of o.log_is ∙ is));
    }
  where
    links : length h.accepts ≤ length r.links
    links = let a : length (accepted r) ≡ length h.accepts = perm_length i.arranged ∙ fits_length t i.net h.accepts i.accepts in let b : length (collect accepted_in r.links) ≤ length r.links = accepted_few r.links in omega arith

    same : (q : Counter) (ys : List ActorId) → collect (λ y. tally q (h.log y)) ys ≡ collect (tally q) (collect (log_at h) ys)
    same q [] = refl
    same q (y ∷ ys) = ap (λ zs. tally q (h.log y) ++ zs) (same q ys)

    logged : (q : Counter) → length (collect (λ y. tally q (h.log y)) (hands t)) ≡ length (collect (tally q) (logs r))
    logged q = ap (λ zs. length zs) (same q (hands t) ∙ ap (collect (tally q)) (sym (shown_logs t h r i)))

    final_most : (q : Counter) → c.final q ≤ most_of r q
    final_most AcceptedCount = let a : c.final AcceptedCount ≤ length h.accepts = c.accepted in let b : length h.accepts ≤ length r.links = links in omega arith
    final_most EndedCount = let a : c.final EndedCount ≤ length h.accepts = c.ended in let b : length h.accepts ≤ length r.links = links in omega arith
    final_most PacketsCount =
        let a : c.final PacketsCount ≤ sum_below (λ n. total (h.kept n)) t.reactor_num = c.packets in
        let b : sum_below (λ n. total (h.kept n)) t.reactor_num ≤ sum_below (λ n. total (collect (link_of t n) r.links)) t.reactor_num = sum_le (λ n. total (h.kept n)) (λ n. total (collect (link_of t n) r.links)) t.reactor_num (λ n lt. (let q = c.shares n lt in let z : total (h.kept n ++ q.0) ≡ total (collect (link_of t n) r.links) = perm_total q.1 in omega (arith, total_append (h.kept n) q.0))) in
        let d : sum_below (λ n. total (collect (link_of t n) r.links)) t.reactor_num ≤ total r.links = all_links t r.links t.reactor_num in
        omega arith
    final_most SendsCount = subst (λ (x : ℕ). c.final SendsCount ≤ x) (logged SendsCount) c.sends
    final_most TasksCount = subst (λ (x : ℕ). c.final TasksCount ≤ x) (logged TasksCount) c.tasks
    final_most FinishesCount = subst (λ (x : ℕ). c.final FinishesCount ≤ x) (logged FinishesCount) c.finishes
