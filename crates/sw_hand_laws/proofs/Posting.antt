-- Each step of a worker keeps what it says of its tasks.
use Rattle.std.proofs.Common.{◌≡◌, ℕ, ◌+◌, ◌≤◌, true, List, [], ◌∷◌, ◌++◌, length, refl, ap, ◌∙◌, sym, subst, append-nil, arith}
use Rattle.sw_lists.specs.Lists.{collect, Each}
use Rattle.sw_lists.specs.Numbers.{IsCounting}
use Rattle.sw_lists.proofs.Lists.{each_append, each_more, length_append, eq_same}
use Rattle.sw_step.specs.declared.actor.ActorId.{ActorId}
use Rattle.sw_step.specs.declared.actor.ActorId.TheVariants.{Worker, Tasker}
use Rattle.sw_record.specs.Words.{Event, Task, Act, TaskAct, Done, Answer, Sent, Asked, BindOk, Exists, InfoIs, Posted, Finished, TableIs, TableRefused, Count, NoSession, Bound, BadUid, WrongMode, TaskFull, BadTarget, NoTaskWorkers, IdsSpent, NotHere, NoTable, Given, EventGiven, AnswerGiven, Log, Dst}
use Rattle.sw_record.specs.Terms.{Terms}
use Rattle.sw_record.specs.Tasks.{posted_in, posted_by, post_of, posts, IsPost, FitsDst}
use Rattle.sw_record.specs.Fits.{next_with}
use Rattle.sw_past.specs.Messages.{Message, EventMsg}
use Rattle.sw_past.specs.Past.{Mail, bare}
use Rattle.sw_past.specs.Views.{task_in, task_id, over_in}
use Rattle.sw_past.specs.Said.{last_after, posted_after}
use Rattle.sw_join.specs.Tasks.{PostLaw}
use Rattle.sw_join.proofs.Talking.{posted_more, posts_settled}
use Rattle.sw_hand_laws.specs.Hand.{Hand, Seen, say, hear, skip, settle, answered}
use Rattle.sw_hand_laws.specs.Keeps.{silent, Carried, CSend, CClose, CReset, CPost, CGive}
use Rattle.sw_hand_laws.specs.Tasks.{PostLogged, PostPushed, Posting}
use Rattle.sw_hand_laws.proofs.Ends.{one_more, bare_collect, silent_posted, at_end, stays}

silent_posted_in : (a : Answer) (act : Act) → silent a ≡ true → posted_in (AnswerGiven a, act) ≡ []
silent_posted_in Sent act q = absurd (cc)
silent_posted_in (Posted n) act q = absurd (cc)
silent_posted_in Finished act q = absurd (cc)
silent_posted_in Asked act q = refl
silent_posted_in BindOk act q = refl
silent_posted_in Exists act q = refl
silent_posted_in (InfoIs f u) act q = refl
silent_posted_in (TableIs at r cells) act q = refl
silent_posted_in (TableRefused n) act q = refl
silent_posted_in (Count n) act q = refl
silent_posted_in (NoSession n) act q = refl
silent_posted_in (Bound n) act q = refl
silent_posted_in BadUid act q = refl
silent_posted_in WrongMode act q = refl
silent_posted_in TaskFull act q = refl
silent_posted_in BadTarget act q = refl
silent_posted_in NoTaskWorkers act q = refl
silent_posted_in IdsSpent act q = refl
silent_posted_in NotHere act q = refl
silent_posted_in NoTable act q = refl

counting_more : (j n : ℕ) (xs : List ℕ) → length xs ≡ n → IsCounting j xs → IsCounting j (xs ++ (j + n) ∷ [])
counting_more j n [] e h = (omega (arith, e), tt)
counting_more j n (x ∷ xs) e h = (h.0, subst (λ k. IsCounting (j + 1) (xs ++ k ∷ [])) (omega (arith, e)) (counting_more (j + 1) (length xs) xs refl h.1))

counting_next : (n : ℕ) (xs : List ℕ) → length xs ≡ n → IsCounting 0 xs → IsCounting 0 (xs ++ n ∷ [])
counting_next n xs e h = subst (λ k. IsCounting 0 (xs ++ k ∷ [])) (omega arith) (counting_more 0 n xs e h)

-- the log
logged_same : (n : ℕ) (log : Log) (g : Given) (a : Act) → posted_in (g, a) ≡ [] → posted_by (last_after Done log) g ≡ [] → PostLogged n log → PostLogged n (log ++ (g, a) ∷ [])
logged_same n log g a p q k =
    let same : collect posted_in (log ++ (g, a) ∷ []) ≡ collect posted_in log = one_more posted_in log (g, a) ∙ ap (λ ns. collect posted_in log ++ ns) p ∙ append-nil (collect posted_in log) in
    let still : posted_after Done (log ++ (g, a) ∷ []) ≡ posted_after Done log = posted_more log g a ∙ ap (λ ps. posted_after Done log ++ ps) q ∙ append-nil (posted_after Done log) in
    record { posted = subst (IsCounting 0) (sym same) k.posted; answers = ap length same ∙ k.answers; tasks = ap length still ∙ k.tasks }

logged_post : (n : ℕ) (log : Log) (d : Dst) (b : List ℕ) (a : Act) → last_after Done log ≡ TaskAct d b → PostLogged n log → PostLogged (n + 1) (log ++ (AnswerGiven (Posted n), a) ∷ [])
logged_post n log d b a q k =
    let grown : collect posted_in (log ++ (AnswerGiven (Posted n), a) ∷ []) ≡ collect posted_in log ++ n ∷ [] = one_more posted_in log (AnswerGiven (Posted n), a) in
    let more : posted_after Done (log ++ (AnswerGiven (Posted n), a) ∷ []) ≡ posted_after Done log ++ (d, b) ∷ [] = posted_more log (AnswerGiven (Posted n)) a ∙ ap (λ (x : Act). posted_after Done log ++ post_of x) q in
    record {
      posted = subst (IsCounting 0) (sym grown) (counting_next n (collect posted_in log) k.answers k.posted);
      answers = omega (arith, ap length grown, length_append (collect posted_in log) (n ∷ []), k.answers);
      tasks = omega (arith, ap length more, length_append (posted_after Done log) ((d, b) ∷ []), k.tasks);
    }

-- what was pushed
mail_same : (w n : ℕ) (ps : List (Dst × List ℕ)) (pushed : Mail) (to : ActorId) (m : Message) → task_in w m ≡ [] → PostPushed w n ps pushed → PostPushed w n ps (pushed ++ (to, m) ∷ [])
mail_same w n ps pushed to m q k =
    let none : task_id w m ≡ [] = rw q refl in
    let same : collect (task_id w) (bare (pushed ++ (to, m) ∷ [])) ≡ collect (task_id w) (bare pushed) = bare_collect (task_id w) pushed to m ∙ ap (λ ns. collect (task_id w) (bare pushed) ++ ns) none ∙ append-nil (collect (task_id w) (bare pushed)) in
    record { counting = subst (IsCounting 0) (sym same) k.counting; pushes = ap length same ∙ k.pushes; places = each_append (λ (p : ActorId × Message). Each (IsPost ps p.0) (task_in w p.1)) pushed ((to, m) ∷ []) k.places (subst (Each (IsPost ps to)) (sym q) tt, tt) }

mail_more : (w n : ℕ) (ps qs : List (Dst × List ℕ)) (pushed : Mail) → PostPushed w n ps pushed → PostPushed w n (ps ++ qs) pushed
mail_more w n ps qs pushed k = record {
  counting = k.counting;
  pushes = k.pushes;
  places = each_more (λ (p : ActorId × Message). Each (IsPost ps p.0) (task_in w p.1)) (λ (p : ActorId × Message). Each (IsPost (ps ++ qs) p.0) (task_in w p.1)) pushed (λ p h. each_more (IsPost ps p.0) (IsPost (ps ++ qs) p.0) (task_in w p.1) (λ x i. (i.0, (stays ps qs x.0 (i.0, x.1) i.1.0, i.1.1))) h) k.places;
}

own_task : (w n : ℕ) (b : List ℕ) → task_in w (EventMsg (Task w n b)) ≡ (n, b) ∷ []
own_task w n b = rw (eq_same w w refl) refl

mail_post : (w n k : ℕ) (d : Dst) (b : List ℕ) (ps : List (Dst × List ℕ)) (pushed : Mail) → length ps ≡ n → FitsDst d (Tasker k) → PostPushed w n ps pushed → PostPushed w (n + 1) (ps ++ (d, b) ∷ []) (pushed ++ (Tasker k, EventMsg (Task w n b)) ∷ [])
mail_post w n k d b ps pushed e f h =
    let one : task_id w (EventMsg (Task w n b)) ≡ n ∷ [] = rw (own_task w n b) refl in
    let grown : collect (task_id w) (bare (pushed ++ (Tasker k, EventMsg (Task w n b)) ∷ [])) ≡ collect (task_id w) (bare pushed) ++ n ∷ [] = bare_collect (task_id w) pushed (Tasker k) (EventMsg (Task w n b)) ∙ ap (λ ns. collect (task_id w) (bare pushed) ++ ns) one in
    record {
      counting = subst (IsCounting 0) (sym grown) (counting_next n (collect (task_id w) (bare pushed)) h.pushes h.counting);
      pushes = omega (arith, ap length grown, length_append (collect (task_id w) (bare pushed)) (n ∷ []), h.pushes);
      places = each_append (λ (p : ActorId × Message). Each (IsPost (ps ++ (d, b) ∷ []) p.0) (task_in w p.1)) pushed ((Tasker k, EventMsg (Task w n b)) ∷ []) (mail_more w n ps ((d, b) ∷ []) pushed h).places (subst (Each (IsPost (ps ++ (d, b) ∷ []) (Tasker k))) (sym (own_task w n b)) ((d, (at_end ps (d, b) n e, f)), tt), tt);
    }

-- each step
pub posting_at_once : (w : ℕ) (h : Hand) (seen : Seen) (a : Answer) (next : Act) → silent a ≡ true → Posting w h → Posting w (say (record h { seen = seen }) (AnswerGiven a) next)
posting_at_once w h seen a next q k = record {
  logged = logged_same h.next h.log (AnswerGiven a) next (silent_posted_in a next q) (silent_posted (last_after Done h.log) a q) k.logged;
  mail = subst (λ ps. PostPushed w h.next ps h.pushed) (sym (posted_more h.log (AnswerGiven a) next)) (mail_more w h.next (posted_after Done h.log) (posted_by (last_after Done h.log) (AnswerGiven a)) h.pushed k.mail);
  overs = k.overs;
}

pub posting_seen : (w : ℕ) (h : Hand) (seen : Seen) → Posting w h → Posting w (record h { seen = seen })
posting_seen w h seen k = record { logged = k.logged; mail = k.mail; overs = k.overs }

posting_quiet : (w : ℕ) (h : Hand) (to : ActorId) (m : Message) (a : Answer) (next : Act) → posted_in (AnswerGiven a, next) ≡ [] → posted_by (last_after Done h.log) (AnswerGiven a) ≡ [] → task_in w m ≡ [] → next_with h.next a ≡ h.next → next_with h.out a ≡ h.out → Posting w h → Posting w (answered h to m a next)
posting_quiet w h to m a next p q none n o k = record {
  logged = subst (λ i. PostLogged i (h.log ++ (AnswerGiven a, next) ∷ [])) (sym n) (logged_same h.next h.log (AnswerGiven a) next p q k.logged);
  mail = subst (λ i. PostPushed w i (posted_after Done (h.log ++ (AnswerGiven a, next) ∷ [])) (h.pushed ++ (to, m) ∷ [])) (sym n) (subst (λ ps. PostPushed w h.next ps (h.pushed ++ (to, m) ∷ [])) (sym (posted_more h.log (AnswerGiven a) next)) (mail_more w h.next (posted_after Done h.log) (posted_by (last_after Done h.log) (AnswerGiven a)) (h.pushed ++ (to, m) ∷ []) (mail_same w h.next (posted_after Done h.log) h.pushed to m none k.mail)));
  overs = subst (λ i. i ≤ next_with h.out a + length (collect over_in (bare h.took))) (sym n) (subst (λ o. h.next ≤ o + length (collect over_in (bare h.took))) (sym o) k.overs);
}

posting_post : (w v k : ℕ) (d : Dst) (b : List ℕ) (h : Hand) (next : Act) → v ≡ w → FitsDst d (Tasker k) → last_after Done h.log ≡ TaskAct d b → Posting w h → Posting w (answered h (Tasker k) (EventMsg (Task v h.next b)) (Posted h.next) next)
posting_post w v k d b h next e f q p = record {
  logged = logged_post h.next h.log d b next q p.logged;
  mail = subst (λ u. PostPushed w (h.next + 1) (posted_after Done (h.log ++ (AnswerGiven (Posted h.next), next) ∷ [])) (h.pushed ++ (Tasker k, EventMsg (Task u h.next b)) ∷ [])) (sym e) (subst (λ ps. PostPushed w (h.next + 1) ps (h.pushed ++ (Tasker k, EventMsg (Task w h.next b)) ∷ [])) (sym (posted_more h.log (AnswerGiven (Posted h.next)) next ∙ ap (λ (x : Act). posted_after Done h.log ++ post_of x) q)) (mail_post w h.next k d b (posted_after Done h.log) h.pushed p.logged.tasks f p.mail));
  overs = omega (arith, p.overs);
}

pub posting_answered : (t : Terms) (w : ℕ) (h : Hand) (e : Event) (act : Act) (to : ActorId) (m : Message) (a : Answer) (next : Act) → last_after Done h.log ≡ act → Carried t (Worker w) h.next e act to m a → Posting w h → Posting w (answered h to m a next)
posting_answered t w h e act to m a next q (CSend s b) k = posting_quiet w h to m a next refl refl refl refl refl k
posting_answered t w h e act to m a next q (CClose s) k = posting_quiet w h to m a next refl refl refl refl refl k
posting_answered t w h e act to m a next q (CReset s) k = posting_quiet w h to m a next refl refl refl refl refl k
posting_answered t w h e act to m a next q (CPost v j d b r f lt) k = posting_post w v j d b h next (same_worker r) f q k
  where
    same_worker : Worker w ≡ Worker v → v ≡ w
    same_worker r = cc
posting_answered t w h e act to m a next q (CGive v id c b r) k = posting_quiet w h to m a next refl refl refl refl refl k

pub posting_hear : (t : Terms) (w : ℕ) (c : ℕ) (h : Hand) (from : ActorId) (e : Event) (act : Act) → Posting w h → Posting w (hear t c h from e act)
posting_hear t w c h from e act k = record {
  logged = logged_same h.next h.log (EventGiven e) act refl refl k.logged;
  mail = subst (λ ps. PostPushed w h.next ps h.pushed) (sym (posted_more h.log (EventGiven e) act)) (mail_more w h.next (posted_after Done h.log) [] h.pushed k.mail);
  overs = omega (arith, k.overs, ap length (bare_collect over_in h.took from (EventMsg e)), length_append (collect over_in (bare h.took)) []);
}

pub posting_skip : (w : ℕ) (h : Hand) (from : ActorId) (m : Message) → Posting w h → Posting w (skip h from m)
posting_skip w h from m k = record {
  logged = k.logged;
  mail = k.mail;
  overs = omega (arith, k.overs, ap length (bare_collect over_in h.took from m), length_append (collect over_in (bare h.took)) (over_in m));
}

-- a message that is no task
pub posting_settle : (w : ℕ) (h : Hand) (to : ActorId) (m : Message) → task_in w m ≡ [] → Posting w h → Posting w (settle h to m)
posting_settle w h to m none k = record { logged = k.logged; mail = mail_same w h.next (posted_after Done h.log) h.pushed to m none k.mail; overs = k.overs }

-- at every moment, with nothing on its way and with the act's message in hand
pub post_law : (w : ℕ) (h : Hand) → Posting w h → PostLaw w h.pushed h.log
post_law w h k = record { posted = k.logged.posted; counting = k.mail.counting; posts = subst (λ ps. Each (λ (p : ActorId × Message). Each (IsPost ps p.0) (task_in w p.1)) h.pushed) (sym (posts_settled h.log)) (mail_more w h.next (posted_after Done h.log) (post_of (last_after Done h.log)) h.pushed k.mail).places }

pub post_law_quiet : (w : ℕ) (h : Hand) (to : ActorId) (m : Message) → task_in w m ≡ [] → Posting w h → PostLaw w (h.pushed ++ (to, m) ∷ []) h.log
post_law_quiet w h to m none k = post_law w (settle h to m) (posting_settle w h to m none k)

pub post_law_sent : (t : Terms) (w : ℕ) (h : Hand) (e : Event) (act : Act) (to : ActorId) (m : Message) (a : Answer) → last_after Done h.log ≡ act → Carried t (Worker w) h.next e act to m a → Posting w h → PostLaw w (h.pushed ++ (to, m) ∷ []) h.log
post_law_sent t w h e act to m a q (CSend s b) k = post_law_quiet w h to m refl k
post_law_sent t w h e act to m a q (CClose s) k = post_law_quiet w h to m refl k
post_law_sent t w h e act to m a q (CReset s) k = post_law_quiet w h to m refl k
post_law_sent t w h e act to m a q (CPost v j d b r f lt) k =
    let same : v ≡ w = cc in
    let law : PostLaw w (h.pushed ++ (Tasker j, EventMsg (Task w h.next b)) ∷ []) h.log = (let mail = mail_post w h.next j d b (posted_after Done h.log) h.pushed k.logged.tasks f k.mail in record { posted = k.logged.posted; counting = mail.counting; posts = subst (λ ps. Each (λ (p : ActorId × Message). Each (IsPost ps p.0) (task_in w p.1)) (h.pushed ++ (Tasker j, EventMsg (Task w h.next b)) ∷ [])) (sym (posts_settled h.log ∙ ap (λ (x : Act). posted_after Done h.log ++ post_of x) q)) mail.places }) in
    subst (λ u. PostLaw w (h.pushed ++ (Tasker j, EventMsg (Task u h.next b)) ∷ []) h.log) (sym same) law
post_law_sent t w h e act to m a q (CGive v id c b r) k = post_law_quiet w h to m refl k

-- tasks that were pushed are in the log
pub tasks_few : (w : ℕ) (h : Hand) → Posting w h → length (collect (task_id w) (bare h.pushed)) ≤ length (posts h.log)
tasks_few w h k = omega (arith, k.mail.pushes, k.logged.tasks, ap length (posts_settled h.log), length_append (posted_after Done h.log) (post_of (last_after Done h.log)))

pub tasks_few_quiet : (w : ℕ) (h : Hand) (to : ActorId) (m : Message) → task_in w m ≡ [] → Posting w h → length (collect (task_id w) (bare (h.pushed ++ (to, m) ∷ []))) ≤ length (posts h.log)
tasks_few_quiet w h to m none k = tasks_few w (settle h to m) (posting_settle w h to m none k)

pub tasks_few_sent : (t : Terms) (w : ℕ) (h : Hand) (e : Event) (act : Act) (to : ActorId) (m : Message) (a : Answer) → last_after Done h.log ≡ act → Carried t (Worker w) h.next e act to m a → Posting w h → length (collect (task_id w) (bare (h.pushed ++ (to, m) ∷ []))) ≤ length (posts h.log)
tasks_few_sent t w h e act to m a q (CSend s b) k = tasks_few_quiet w h to m refl k
tasks_few_sent t w h e act to m a q (CClose s) k = tasks_few_quiet w h to m refl k
tasks_few_sent t w h e act to m a q (CReset s) k = tasks_few_quiet w h to m refl k
tasks_few_sent t w h e act to m a q (CPost v j d b r f lt) k =
    let same : v ≡ w = cc in
    let bound : length (collect (task_id w) (bare (h.pushed ++ (Tasker j, EventMsg (Task w h.next b)) ∷ []))) ≤ length (posts h.log) = omega (arith, k.logged.tasks, (mail_post w h.next j d b (posted_after Done h.log) h.pushed k.logged.tasks f k.mail).pushes, ap length (posts_settled h.log), length_append (posted_after Done h.log) (post_of (last_after Done h.log)), ap (λ (x : Act). length (post_of x)) q) in
    subst (λ u. length (collect (task_id w) (bare (h.pushed ++ (Tasker j, EventMsg (Task u h.next b)) ∷ []))) ≤ length (posts h.log)) (sym same) bound
tasks_few_sent t w h e act to m a q (CGive v id c b r) k = tasks_few_quiet w h to m refl k
