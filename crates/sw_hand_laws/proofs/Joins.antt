-- The hands' parts of the laws from which the record's rules follow.
use Rattle.std.proofs.Common.{◌≡◌, ◌⊎◌, ℕ, ◌+◌, ◌%◌, ◌<◌, ◌≤◌, List, [], ◌∷◌, ◌++◌, length, refl, ap, ◌∙◌, sym, subst, inl, inr}
use Rattle.sw_lists.specs.Lists.{collect, Each, Has}
use Rattle.sw_lists.proofs.Lists.{each_at, each_more}
use Rattle.sw_step.specs.declared.actor.ActorId.{ActorId}
use Rattle.sw_step.specs.declared.actor.ActorId.TheVariants.{Worker, Tasker}
use Rattle.sw_record.specs.Words.{Act, Stats, Answer, Count, Log, Counter}
use Rattle.sw_record.specs.Terms.{Terms}
use Rattle.sw_record.specs.Logs.{told_of, events_of, EndsDone}
use Rattle.sw_record.specs.Tasks.{posts, tasks_of, made}
use Rattle.sw_record.specs.Answers.{answers_of}
use Rattle.sw_record.specs.Causes.{granted, refused, task_full}
use Rattle.sw_record.specs.Uids.{binds, bound_in, info_in}
use Rattle.sw_record.specs.Places.{placed}
use Rattle.sw_record.specs.Counts.{count_in, counted, tally, greatest}
use Rattle.sw_record.specs.Fits.{AnswersFitLog}
use Rattle.sw_past.specs.Messages.{Message}
use Rattle.sw_past.specs.Past.{Mail, Past, bare, of}
use Rattle.sw_past.specs.Views.{heard_in, task_id, finish_in, no_more, over_in}
use Rattle.sw_past.specs.Routes.{IsHand, is_worker}
use Rattle.sw_join.specs.Laws.{HandLaw}
use Rattle.sw_join.specs.Tasks.{TaskLocals}
use Rattle.sw_join.specs.Causes.{AskLaw}
use Rattle.sw_join.specs.Drained.{LastMarked}
use Rattle.sw_join.proofs.Own.{behind}
use Rattle.sw_hand_laws.specs.Hand.{Got, Ports, Stage, Hand, turn}
use Rattle.sw_hand_laws.specs.Kept.{taken, sent, Shown}
use Rattle.sw_hand_laws.specs.Shows.{Found}
use Rattle.sw_hand_laws.specs.Course.{Course}
use Rattle.sw_hand_laws.specs.Joins.{Shows, Hands, HandsDone}
use Rattle.sw_hand_laws.proofs.Course.{good, shows_before, kept_behind}
use Rattle.sw_hand_laws.specs.Moved.{PortsFit, SumFits}
use Rattle.sw_hand_laws.proofs.Moments.{shown_still}
use Rattle.sw_hand_laws.proofs.Fitting.{turn_fits}
use Rattle.sw_hand_laws.proofs.Generations.{turn_generations}
use Rattle.sw_hand_laws.proofs.Tallying.{turn_tallied, least_of, words_most}

-- a hand before a turn, whatever is on its way
pub before_turn : (t : Terms) (y : ActorId) (c : ℕ) (left : ℕ) (st : Stage) (h : Hand) (got : Got) → IsHand t y → Course t y c left st h got → Shows t y c left (taken got h.took) (sent t st got h.pushed) h.log h
before_turn t y c left st h got hand k = let g = good t y c left st h got hand k in record {
  log_is = refl;
  shown = shows_before t y c left st h got hand k;
  stage = st;
  showing = g.kept.showing;
  fits = g.fitting.fits;
  generations = g.generations;
  tallied = g.tallied;
}

-- a hand behind a turn, with its ask not yet made
pub behind_turn : (t : Terms) (y : ActorId) (c : ℕ) (left : ℕ) (p : Ports) (st : Stage) (h : Hand) (got : Got) → IsHand t y → PortsFit t st h p → SumFits st h p → Course t y c left st h got → Shows t y c left (turn t y c p st h got).hand.took (turn t y c p st h got).hand.pushed (turn t y c p st h got).hand.log (turn t y c p st h got).hand
behind_turn t y c left p st h got hand u m k = let g = good t y c left st h got hand k in let w = kept_behind t y c left p st h got hand k in record {
  log_is = refl;
  shown = shown_still t y (turn t y c p st h got).stage (turn t y c p st h got).hand w.kept (turn_fits t y c p st h got u g.fits g.kept g.fitting).fits;
  stage = (turn t y c p st h got).stage;
  showing = w.kept.showing;
  fits = (turn_fits t y c p st h got u g.fits g.kept g.fitting).fits;
  generations = turn_generations t y c (left + 1) p st h got u g.fits g.kept g.generations;
  tallied = turn_tallied t y c p st h got u m g.fits g.kept g.tallied;
}

of_log : (t : Terms) (y : ActorId) (c : ℕ) (left : ℕ) (took pushed : Mail) (log : Log) (h : Hand) → Shows t y c left took pushed log h → Shown t y took pushed log
of_log t y c left took pushed log h s = subst (Shown t y took pushed) (sym s.log_is) s.shown

pub hand_local : (t : Terms) (c : ℕ) (left : ℕ) (p : Past) (at : ActorId → Hand) → Hands t c left p at → (y : ActorId) → IsHand t y → HandLaw t y (p.took y) (p.pushed y) (p.log y)
hand_local t c left p at k y hand = (of_log t y c left (p.took y) (p.pushed y) (p.log y) (at y) (k.shows y hand)).hand

pub task_locals : (t : Terms) (c : ℕ) (left : ℕ) (p : Past) (at : ActorId → Hand) → Hands t c left p at → TaskLocals t p
task_locals t c left p at k = record {
  worker = λ w lt. (of_log t (Worker w) c left (p.took (Worker w)) (p.pushed (Worker w)) (p.log (Worker w)) (at (Worker w)) (k.shows (Worker w) (inl (w, (lt, refl))))).post w refl;
  tasker = λ j lt. (of_log t (Tasker j) c left (p.took (Tasker j)) (p.pushed (Tasker j)) (p.log (Tasker j)) (at (Tasker j)) (k.shows (Tasker j) (inr (j, (lt, refl))))).finish;
}

-- causes
pub asks_local : (t : Terms) (c : ℕ) (left : ℕ) (p : Past) (at : ActorId → Hand) → Hands t c left p at → (y : ActorId) → IsHand t y → Each (λ (e : ActorId × Message). AskLaw (p.log y) e.1) (p.pushed y)
asks_local t c left p at k y hand = (of_log t y c left (p.took y) (p.pushed y) (p.log y) (at y) (k.shows y hand)).asks

pub grants_local : (t : Terms) (c : ℕ) (left : ℕ) (p : Past) (at : ActorId → Hand) → Hands t c left p at → (y : ActorId) → IsHand t y → Each (λ s. Has s (at y).seen.lives ⊎ (¬ (told_of s (p.log y) ≡ []))) (collect granted (answers_of (p.log y)))
grants_local t c left p at k y hand = let s = k.shows y hand in subst (λ (l : Log). Each (λ u. Has u (at y).seen.lives ⊎ (¬ (told_of u l ≡ []))) (collect granted (answers_of l))) (sym s.log_is) s.showing.grants

all_in : (xs : List (ℕ × ℕ)) → Each (λ x. Has x xs) xs
all_in xs = each_at (λ x. Has x xs) xs (λ x h. h)

pub refusals_local : (t : Terms) (c : ℕ) (left : ℕ) (p : Past) (at : ActorId → Hand) → Hands t c left p at → (y : ActorId) → IsHand t y → Each (λ (q : ℕ × ℕ). Has q (at y).seen.others) (collect refused (answers_of (p.log y)))
refusals_local t c left p at k y hand = let s = k.shows y hand in subst (λ (l : Log). Each (λ (q : ℕ × ℕ). Has q (at y).seen.others) (collect refused (answers_of l))) (sym s.log_is) (subst (Each (λ (q : ℕ × ℕ). Has q (at y).seen.others)) (sym s.showing.others) (all_in (at y).seen.others))

pub room_local : (t : Terms) (c : ℕ) (left : ℕ) (p : Past) (at : ActorId → Hand) → Hands t c left p at → (w n : ℕ) → w < t.worker_num → length (of (Tasker n) (p.pushed (Worker w))) ≤ length (posts (p.log (Worker w))) + 1
room_local t c left p at k w n lt = (of_log t (Worker w) c left (p.took (Worker w)) (p.pushed (Worker w)) (p.log (Worker w)) (at (Worker w)) (k.shows (Worker w) (inl (w, (lt, refl))))).room w n refl

-- a task that found its pipe full
pub full_local : (t : Terms) (c : ℕ) (left : ℕ) (p : Past) (at : ActorId → Hand) → Hands t c left p at → (y : ActorId) → IsHand t y → collect task_full (answers_of (p.log y)) ≡ (at y).seen.fulls
full_local t c left p at k y hand = let s = k.shows y hand in ap (λ (l : Log). collect task_full (answers_of l)) s.log_is ∙ s.showing.fulls

-- uids, of what the ports showed
pub binds_local : (t : Terms) (c : ℕ) (left : ℕ) (p : Past) (at : ActorId → Hand) → Hands t c left p at → (y : ActorId) → IsHand t y → binds (p.log y) ≡ (at y).seen.passes
binds_local t c left p at k y hand = let s = k.shows y hand in ap binds s.log_is ∙ s.showing.passes

pub bound_local : (t : Terms) (c : ℕ) (left : ℕ) (p : Past) (at : ActorId → Hand) (uid : ℕ → ℕ) → Hands t c left p at → (y : ActorId) → IsHand t y → Each (λ (q : ℕ × ℕ). q.1 ≡ uid q.0) (at y).seen.bounds → Each (λ (q : ℕ × ℕ). q.1 ≡ uid q.0) (collect bound_in (answers_of (p.log y)))
bound_local t c left p at uid k y hand j = let s = k.shows y hand in subst (Each (λ (q : ℕ × ℕ). q.1 ≡ uid q.0)) (sym (ap (λ (l : Log). collect bound_in (answers_of l)) s.log_is ∙ s.showing.bounds)) j

found_uid : (t : Terms) (uid : ℕ → ℕ) (h : Hand) (q : ℕ × (ℕ × ℕ)) → ((x : ℕ × ℕ) → Has x h.seen.infos → (x.1 ≡ 0) ⊎ (x.1 ≡ uid x.0)) → Found t h.seen q → (q.1.0 ≡ q.0 % t.max_conn) × ((q.1.1 ≡ 0) ⊎ (q.1.1 ≡ uid q.0))
found_uid t uid h q j (d, inl z) = (d, inl z)
found_uid t uid h q j (d, inr i) = (d, j (q.0, q.1.1) i)

pub info_local : (t : Terms) (c : ℕ) (left : ℕ) (p : Past) (at : ActorId → Hand) (uid : ℕ → ℕ) → Hands t c left p at → (y : ActorId) → IsHand t y → ((x : ℕ × ℕ) → Has x (at y).seen.infos → (x.1 ≡ 0) ⊎ (x.1 ≡ uid x.0)) → Each (λ (q : ℕ × (ℕ × ℕ)). (q.1.0 ≡ q.0 % t.max_conn) × ((q.1.1 ≡ 0) ⊎ (q.1.1 ≡ uid q.0))) (collect info_in (answers_of (p.log y)))
info_local t c left p at uid k y hand j = let s = k.shows y hand in subst (λ (l : Log). Each (λ (q : ℕ × (ℕ × ℕ)). (q.1.0 ≡ q.0 % t.max_conn) × ((q.1.1 ≡ 0) ⊎ (q.1.1 ≡ uid q.0))) (collect info_in (answers_of l))) (sym s.log_is) (each_more (Found t (at y).seen) (λ (q : ℕ × (ℕ × ℕ)). (q.1.0 ≡ q.0 % t.max_conn) × ((q.1.1 ≡ 0) ⊎ (q.1.1 ≡ uid q.0))) (collect info_in (answers_of (at y).log)) (λ q f. found_uid t uid (at y) q j f) s.showing.finds)

-- the Table and the board
pub logged_local : (t : Terms) (c : ℕ) (left : ℕ) (p : Past) (at : ActorId → Hand) → Hands t c left p at → (y : ActorId) → IsHand t y → placed (p.log y) ≡ (at y).seen.seat
logged_local t c left p at k y hand = let s = k.shows y hand in ap placed s.log_is ∙ s.showing.seat

pub most_local : (t : Terms) (c : ℕ) (left : ℕ) (p : Past) (at : ActorId → Hand) (final : Counter → ℕ) → Hands t c left p at → (y : ActorId) → IsHand t y → Each (λ (q : Counter × ℕ). q.1 ≤ final q.0) (at y).seen.sums → Each (λ (q : Counter × ℕ). q.1 ≤ final q.0) (collect count_in (answers_of (p.log y)))
most_local t c left p at final k y hand j = let s = k.shows y hand in subst (Each (λ (q : Counter × ℕ). q.1 ≤ final q.0)) (sym (ap (λ (l : Log). collect count_in (answers_of l)) s.log_is ∙ s.showing.sums)) j

pub least_local : (t : Terms) (c : ℕ) (left : ℕ) (p : Past) (at : ActorId → Hand) → Hands t c left p at → (y : ActorId) → IsHand t y → (before behind : List (Act × Answer)) (i : Counter) (n : ℕ) → answers_of (p.log y) ≡ before ++ (Stats i, Count n) ∷ behind → (length (collect (counted i) before) ≤ n) ⊎ (n ≡ greatest)
least_local t c left p at k y hand before behind i n q = let s = k.shows y hand in least_of (at y) s.tallied before behind i n (sym (ap answers_of s.log_is) ∙ q)

pub words_local : (t : Terms) (c : ℕ) (left : ℕ) (p : Past) (at : ActorId → Hand) → Hands t c left p at → (y : ActorId) → IsHand t y → (i : Counter) → (at y).words i ≤ length (tally i (p.log y))
words_local t c left p at k y hand i = let s = k.shows y hand in subst (λ (l : Log). (at y).words i ≤ length (tally i l)) (sym s.log_is) (words_most (at y) i s.tallied)

-- every answer fits, and each handler's log is a dialogue
pub fits_local : (t : Terms) (c : ℕ) (left : ℕ) (p : Past) (at : ActorId → Hand) → Hands t c left p at → (y : ActorId) → IsHand t y → AnswersFitLog t (is_worker y) (p.log y)
fits_local t c left p at k y hand = let s = k.shows y hand in subst (AnswersFitLog t (is_worker y)) (sym s.log_is) s.fits

-- the finished hands' parts of the end
pub once_local : (t : Terms) (c : ℕ) (left : ℕ) (p : Past) (at : ActorId → Hand) → Hands t c left p at → (x y : ActorId) → IsHand t y → length (collect no_more (of x (p.pushed y))) ≤ 1
once_local t c left p at k x y hand = (of_log t y c left (p.took y) (p.pushed y) (p.log y) (at y) (k.shows y hand)).once x

pub heard_local : (t : Terms) (p : Past) → HandsDone t p → (y : ActorId) → IsHand t y → events_of (p.log y) ≡ collect (heard_in y) (bare (p.took y))
heard_local t p d y hand = (d.done y hand).heard

pub done_local : (t : Terms) (p : Past) → HandsDone t p → (y : ActorId) → IsHand t y → (p.log y ≡ []) ⊎ EndsDone (p.log y)
done_local t p d y hand = (d.done y hand).done

pub posted_local : (t : Terms) (p : Past) → HandsDone t p → (w : ℕ) → w < t.worker_num → length (collect (task_id w) (bare (p.pushed (Worker w)))) ≡ length (posts (p.log (Worker w)))
posted_local t p d w lt = (d.done (Worker w) (inl (w, (lt, refl)))).posted w refl

pub worker_last_local : (t : Terms) (p : Past) → HandsDone t p → (w k : ℕ) → w < t.worker_num → LastMarked no_more (of (Tasker k) (p.pushed (Worker w)))
worker_last_local t p d w k lt = (d.done (Worker w) (inl (w, (lt, refl)))).worker_last w k refl

pub overs_taken_local : (t : Terms) (p : Past) → HandsDone t p → (w : ℕ) → w < t.worker_num → length (collect (task_id w) (bare (p.pushed (Worker w)))) ≤ length (collect over_in (bare (p.took (Worker w))))
overs_taken_local t p d w lt = (d.done (Worker w) (inl (w, (lt, refl)))).overs_taken w refl

pub worker_all_local : (t : Terms) (p : Past) → HandsDone t p → (w : ℕ) → w < t.worker_num → t.reactor_num ≤ length (collect no_more (bare (p.took (Worker w))))
worker_all_local t p d w lt = (d.done (Worker w) (inl (w, (lt, refl)))).worker_all w refl

pub tasker_all_local : (t : Terms) (p : Past) → HandsDone t p → (k : ℕ) → k < t.tasker_num → t.worker_num ≤ length (collect no_more (bare (p.took (Tasker k))))
tasker_all_local t p d k lt = (d.done (Tasker k) (inr (k, (lt, refl)))).tasker_all k refl

pub gave_local : (t : Terms) (p : Past) → HandsDone t p → (k w : ℕ) → k < t.tasker_num → collect finish_in (of (Worker w) (p.pushed (Tasker k))) ≡ made w (p.log (Tasker k))
gave_local t p d k w lt = (d.done (Tasker k) (inr (k, (lt, refl)))).gave w

pub overs_pushed_local : (t : Terms) (p : Past) → HandsDone t p → (k w : ℕ) → k < t.tasker_num → length (collect over_in (of (Worker w) (p.pushed (Tasker k)))) ≤ length (tasks_of w (p.log (Tasker k)))
overs_pushed_local t p d k w lt = (d.done (Tasker k) (inr (k, (lt, refl)))).overs_pushed w

pub tasker_last_local : (t : Terms) (p : Past) → HandsDone t p → (k w : ℕ) → k < t.tasker_num → LastMarked over_in (of (Worker w) (p.pushed (Tasker k)))
tasker_last_local t p d k w lt = (d.done (Tasker k) (inr (k, (lt, refl)))).tasker_last w
