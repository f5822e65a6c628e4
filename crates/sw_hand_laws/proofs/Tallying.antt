-- Each move keeps the counts.
use Rattle.std.proofs.Common.{◌≡◌, ◌⊎◌, ℕ, ◌+◌, ◌≤◌, ◌==◌, Bool, true, false, if◌then◌else◌, List, [], ◌∷◌, ◌++◌, length, refl, ap, ◌∙◌, sym, subst, append-nil, append_assoc, arith, inl, inr}
use Rattle.std.proofs.lemmas.Bool.Decides.{nat_tests}
use Rattle.sw_lists.specs.Lists.{collect, Each}
use Rattle.sw_lists.proofs.Lists.{length_append}
use Rattle.sw_step.specs.declared.actor.ActorId.{ActorId}
use Rattle.sw_record.specs.Words.{Given, Event, Act, Send, Close, Reset, Bind, Exist, Info, TaskAct, FinishAct, Table, Stats, Shutdown, Done, Answer, Sent, Asked, BindOk, Exists, InfoIs, Posted, Finished, TableIs, TableRefused, Count, NoSession, Bound, BadUid, WrongMode, TaskFull, BadTarget, NoTaskWorkers, IdsSpent, NotHere, NoTable, EventGiven, AnswerGiven, Log, AcceptedCount, Counter, EndedCount, FinishesCount, PacketsCount, SendsCount, TasksCount}
use Rattle.sw_record.specs.Terms.{Terms}
use Rattle.sw_record.specs.Answers.{answers_of, answer_to}
use Rattle.sw_record.specs.Counts.{counted, tally, count_in, greatest}
use Rattle.sw_past.specs.Messages.{Message, NoMore}
use Rattle.sw_past.specs.Said.{last_after}
use Rattle.sw_join.proofs.Own.{behind}
use Rattle.sw_hand_laws.specs.Hand.{Got, Ports, Seen, Stage, Hand, say, skip, settle, left_event, more, words_with, goodbye, turn, Acting}
use Rattle.sw_hand_laws.specs.Keeps.{Carried, CSend, CClose, CReset, CPost, CGive, silent}
use Rattle.sw_hand_laws.specs.Kept.{Kept, GotFits}
use Rattle.sw_hand_laws.specs.Fits.{Saturated, SumsAfter, Tallied}
use Rattle.sw_hand_laws.specs.Moved.{Moved, Waits, Answers, Aims, Sends, Fulls, Hears, Skips, Overs, Leaves, Lefts, Stops, Nones, SkipStops, SkipNones, Nexts, Lasts, PortsFit, SumFits, Holds}
use Rattle.sw_hand_laws.proofs.Ends.{one_more, answers_more}
use Rattle.sw_hand_laws.proofs.Moves.{turn_moves}
use Rattle.sw_hand_laws.proofs.Fitting.{holds}

silent_sends : (act : Act) (a : Answer) → silent a ≡ true → counted SendsCount (act, a) ≡ []
silent_sends act Sent q = absurd (cc)
silent_sends act Asked q = refl
silent_sends act BindOk q = refl
silent_sends act Exists q = refl
silent_sends act (InfoIs f u) q = refl
silent_sends act (Posted n) q = absurd (cc)
silent_sends act Finished q = absurd (cc)
silent_sends act (TableIs at r cells) q = refl
silent_sends act (TableRefused n) q = refl
silent_sends act (Count n) q = refl
silent_sends act (NoSession n) q = refl
silent_sends act (Bound n) q = refl
silent_sends act BadUid q = refl
silent_sends act WrongMode q = refl
silent_sends act TaskFull q = refl
silent_sends act BadTarget q = refl
silent_sends act NoTaskWorkers q = refl
silent_sends act IdsSpent q = refl
silent_sends act NotHere q = refl
silent_sends act NoTable q = refl

silent_tasks : (act : Act) (a : Answer) → silent a ≡ true → counted TasksCount (act, a) ≡ []
silent_tasks act Sent q = absurd (cc)
silent_tasks act Asked q = refl
silent_tasks act BindOk q = refl
silent_tasks act Exists q = refl
silent_tasks act (InfoIs f u) q = refl
silent_tasks act (Posted n) q = absurd (cc)
silent_tasks act Finished q = absurd (cc)
silent_tasks act (TableIs at r cells) q = refl
silent_tasks act (TableRefused n) q = refl
silent_tasks act (Count n) q = refl
silent_tasks act (NoSession n) q = refl
silent_tasks act (Bound n) q = refl
silent_tasks act BadUid q = refl
silent_tasks act WrongMode q = refl
silent_tasks act TaskFull q = refl
silent_tasks act BadTarget q = refl
silent_tasks act NoTaskWorkers q = refl
silent_tasks act IdsSpent q = refl
silent_tasks act NotHere q = refl
silent_tasks act NoTable q = refl

silent_finishes : (act : Act) (a : Answer) → silent a ≡ true → counted FinishesCount (act, a) ≡ []
silent_finishes act Sent q = absurd (cc)
silent_finishes act Asked q = refl
silent_finishes act BindOk q = refl
silent_finishes act Exists q = refl
silent_finishes act (InfoIs f u) q = refl
silent_finishes act (Posted n) q = absurd (cc)
silent_finishes act Finished q = absurd (cc)
silent_finishes act (TableIs at r cells) q = refl
silent_finishes act (TableRefused n) q = refl
silent_finishes act (Count n) q = refl
silent_finishes act (NoSession n) q = refl
silent_finishes act (Bound n) q = refl
silent_finishes act BadUid q = refl
silent_finishes act WrongMode q = refl
silent_finishes act TaskFull q = refl
silent_finishes act BadTarget q = refl
silent_finishes act NoTaskWorkers q = refl
silent_finishes act IdsSpent q = refl
silent_finishes act NotHere q = refl
silent_finishes act NoTable q = refl

pub silent_counted : (k : Counter) (act : Act) (a : Answer) → silent a ≡ true → counted k (act, a) ≡ []
silent_counted AcceptedCount act a q = refl
silent_counted EndedCount act a q = refl
silent_counted PacketsCount act a q = refl
silent_counted SendsCount act a q = silent_sends act a q
silent_counted TasksCount act a q = silent_tasks act a q
silent_counted FinishesCount act a q = silent_finishes act a q

-- the answers with one more
pub answers_now : (log : Log) (act : Act) (a : Answer) (next : Act) → last_after Done log ≡ act → answers_of (log ++ (AnswerGiven a, next) ∷ []) ≡ answers_of log ++ (act, a) ∷ []
answers_now log act a next q = answers_more log (AnswerGiven a) next ∙ ap (λ (x : Act). answers_of log ++ answer_to x (AnswerGiven a)) q

pub answers_same : (log : Log) (e : Event) (next : Act) → answers_of (log ++ (EventGiven e, next) ∷ []) ≡ answers_of log
answers_same log e next = answers_more log (EventGiven e) next ∙ append-nil (answers_of log)

tally_now : (k : Counter) (log : Log) (act : Act) (a : Answer) (next : Act) → last_after Done log ≡ act → length (tally k (log ++ (AnswerGiven a, next) ∷ [])) ≡ length (tally k log) + length (counted k (act, a))
tally_now k log act a next q = ap (λ xs. length (collect (counted k) xs)) (answers_now log act a next q) ∙ ap length (one_more (counted k) (answers_of log) (act, a)) ∙ length_append (tally k log) (counted k (act, a))

-- the words
saturated_more : (n w : ℕ) → Saturated n w → Saturated (n + 1) (more w)
saturated_more n w k = pick (w == greatest) refl k
  where
    pick : (v : Bool) → (w == greatest) ≡ v → Saturated n w → Saturated (n + 1) (if v then w else w + 1)
    pick true q (inl h) = inr (grind (arith, nat_tests), grind (arith, nat_tests))
    pick true q (inr h) = inr (h.0, grind (arith, nat_tests))
    pick false q (inl h) = inl (grind (arith, nat_tests), grind (arith, nat_tests))
    pick false q (inr h) = absurd (grind (arith, nat_tests))

none_if : (n w : ℕ) → Saturated n w → Saturated (n + 0) w
none_if n w k = subst (λ i. Saturated i w) (omega arith) k

words_carried : (t : Terms) (y : ActorId) (next : ℕ) (e : Event) (act : Act) (to : ActorId) (m : Message) (a : Answer) (k : Counter) (n : ℕ) (words : Counter → ℕ) → Carried t y next e act to m a → Saturated n (words k) → Saturated (n + length (counted k (act, a))) (words_with words a k)
words_carried t y next e act to m a AcceptedCount n words (CSend s b) h = none_if n (words AcceptedCount) h
words_carried t y next e act to m a EndedCount n words (CSend s b) h = none_if n (words EndedCount) h
words_carried t y next e act to m a PacketsCount n words (CSend s b) h = none_if n (words PacketsCount) h
words_carried t y next e act to m a SendsCount n words (CSend s b) h = saturated_more n (words SendsCount) h
words_carried t y next e act to m a TasksCount n words (CSend s b) h = none_if n (words TasksCount) h
words_carried t y next e act to m a FinishesCount n words (CSend s b) h = none_if n (words FinishesCount) h
words_carried t y next e act to m a AcceptedCount n words (CClose s) h = none_if n (words AcceptedCount) h
words_carried t y next e act to m a EndedCount n words (CClose s) h = none_if n (words EndedCount) h
words_carried t y next e act to m a PacketsCount n words (CClose s) h = none_if n (words PacketsCount) h
words_carried t y next e act to m a SendsCount n words (CClose s) h = none_if n (words SendsCount) h
words_carried t y next e act to m a TasksCount n words (CClose s) h = none_if n (words TasksCount) h
words_carried t y next e act to m a FinishesCount n words (CClose s) h = none_if n (words FinishesCount) h
words_carried t y next e act to m a AcceptedCount n words (CReset s) h = none_if n (words AcceptedCount) h
words_carried t y next e act to m a EndedCount n words (CReset s) h = none_if n (words EndedCount) h
words_carried t y next e act to m a PacketsCount n words (CReset s) h = none_if n (words PacketsCount) h
words_carried t y next e act to m a SendsCount n words (CReset s) h = none_if n (words SendsCount) h
words_carried t y next e act to m a TasksCount n words (CReset s) h = none_if n (words TasksCount) h
words_carried t y next e act to m a FinishesCount n words (CReset s) h = none_if n (words FinishesCount) h
words_carried t y next e act to m a AcceptedCount n words (CPost w j d b q f r) h = none_if n (words AcceptedCount) h
words_carried t y next e act to m a EndedCount n words (CPost w j d b q f r) h = none_if n (words EndedCount) h
words_carried t y next e act to m a PacketsCount n words (CPost w j d b q f r) h = none_if n (words PacketsCount) h
words_carried t y next e act to m a SendsCount n words (CPost w j d b q f r) h = none_if n (words SendsCount) h
words_carried t y next e act to m a TasksCount n words (CPost w j d b q f r) h = saturated_more n (words TasksCount) h
words_carried t y next e act to m a FinishesCount n words (CPost w j d b q f r) h = none_if n (words FinishesCount) h
words_carried t y next e act to m a AcceptedCount n words (CGive w id c b q) h = none_if n (words AcceptedCount) h
words_carried t y next e act to m a EndedCount n words (CGive w id c b q) h = none_if n (words EndedCount) h
words_carried t y next e act to m a PacketsCount n words (CGive w id c b q) h = none_if n (words PacketsCount) h
words_carried t y next e act to m a SendsCount n words (CGive w id c b q) h = none_if n (words SendsCount) h
words_carried t y next e act to m a TasksCount n words (CGive w id c b q) h = none_if n (words TasksCount) h
words_carried t y next e act to m a FinishesCount n words (CGive w id c b q) h = saturated_more n (words FinishesCount) h

-- the sums
abbrev IsLeast : List (Act × Answer) → Counter × ℕ → Type 0
IsLeast before p = (length (collect (counted p.0) before) ≤ p.1) ⊎ (p.1 ≡ greatest)

sums_more : (before xs : List (Act × Answer)) (x : Act × Answer) → SumsAfter before xs → Each (IsLeast (before ++ xs)) (count_in x) → SumsAfter before (xs ++ x ∷ [])
sums_more before [] x k h = (subst (λ (ys : List (Act × Answer)). Each (IsLeast ys) (count_in x)) (append-nil before) h, tt)
sums_more before (z ∷ xs) x k h = (k.0, sums_more (before ++ z ∷ []) xs x k.1 (subst (λ (ys : List (Act × Answer)). Each (IsLeast ys) (count_in x)) (sym (append_assoc before (z ∷ []) xs)) h))

least_sum : (n w k : ℕ) → Saturated n w → w ≤ k → k ≤ greatest → (n ≤ k) ⊎ (k ≡ greatest)
least_sum n w k (inl h) le top = inl (omega (arith, h.0, le))
least_sum n w k (inr h) le top = inr (omega (arith, h.0, le, top))

sum_answer : (log : Log) (words : Counter → ℕ) (act : Act) (a : Answer) → ((k : Counter) → Saturated (length (tally k log)) (words k)) → ((c : Counter) (n : ℕ) → act ≡ Stats c → a ≡ Count n → (words c ≤ n) × (n ≤ greatest)) → Each (IsLeast (answers_of log)) (count_in (act, a))
sum_answer log words (Send s b) an w h = tt
sum_answer log words (Close s) an w h = tt
sum_answer log words (Reset s) an w h = tt
sum_answer log words (Bind s u) an w h = tt
sum_answer log words (Exist s) an w h = tt
sum_answer log words (Info s) an w h = tt
sum_answer log words (TaskAct d b) an w h = tt
sum_answer log words (FinishAct b) an w h = tt
sum_answer log words (Table c) an w h = tt
sum_answer log words Shutdown an w h = tt
sum_answer log words Done an w h = tt
sum_answer log words (Stats c) Sent w h = tt
sum_answer log words (Stats c) Asked w h = tt
sum_answer log words (Stats c) BindOk w h = tt
sum_answer log words (Stats c) Exists w h = tt
sum_answer log words (Stats c) (InfoIs f u) w h = tt
sum_answer log words (Stats c) (Posted n) w h = tt
sum_answer log words (Stats c) Finished w h = tt
sum_answer log words (Stats c) (TableIs at r cells) w h = tt
sum_answer log words (Stats c) (TableRefused n) w h = tt
sum_answer log words (Stats c) (Count n) w h = (least_sum (length (tally c log)) (words c) n (w c) (h c n refl refl).0 (h c n refl refl).1, tt)
sum_answer log words (Stats c) (NoSession n) w h = tt
sum_answer log words (Stats c) (Bound n) w h = tt
sum_answer log words (Stats c) BadUid w h = tt
sum_answer log words (Stats c) WrongMode w h = tt
sum_answer log words (Stats c) TaskFull w h = tt
sum_answer log words (Stats c) BadTarget w h = tt
sum_answer log words (Stats c) NoTaskWorkers w h = tt
sum_answer log words (Stats c) IdsSpent w h = tt
sum_answer log words (Stats c) NotHere w h = tt
sum_answer log words (Stats c) NoTable w h = tt

sum_carried : (t : Terms) (y : ActorId) (next : ℕ) (e : Event) (act : Act) (to : ActorId) (m : Message) (a : Answer) (before : List (Act × Answer)) → Carried t y next e act to m a → Each (IsLeast before) (count_in (act, a))
sum_carried t y next e act to m a before (CSend s b) = tt
sum_carried t y next e act to m a before (CClose s) = tt
sum_carried t y next e act to m a before (CReset s) = tt
sum_carried t y next e act to m a before (CPost w k d b q f r) = tt
sum_carried t y next e act to m a before (CGive w id c b q) = tt

-- an answer that adds to no word
tallied_say : (h : Hand) (seen : Seen) (act : Act) (a : Answer) (next : Act) → last_after Done h.log ≡ act → silent a ≡ true → ((c : Counter) (n : ℕ) → act ≡ Stats c → a ≡ Count n → (h.words c ≤ n) × (n ≤ greatest)) → Tallied h → Tallied (say (record h { seen = seen }) (AnswerGiven a) next)
tallied_say h seen act a next q s sums k = record {
  words = λ i. subst (λ n. Saturated n (h.words i)) (sym (tally_now i h.log act a next q ∙ ap (λ ns. length (tally i h.log) + length ns) (silent_counted i act a s))) (none_if (length (tally i h.log)) (h.words i) (k.words i));
  sums = subst (SumsAfter []) (sym (answers_now h.log act a next q)) (sums_more [] (answers_of h.log) (act, a) k.sums (sum_answer h.log h.words act a k.words sums));
}

tallied_same : (h other : Hand) → other.log ≡ h.log → other.words ≡ h.words → Tallied h → Tallied other
tallied_same h other l w k = record {
  words = λ i. subst (λ (ws : Counter → ℕ). Saturated (length (tally i other.log)) (ws i)) (sym w) (subst (λ (x : Log). Saturated (length (tally i x)) (h.words i)) (sym l) (k.words i));
  sums = subst (λ (x : Log). SumsAfter [] (answers_of x)) (sym l) k.sums;
}

-- a sum that was told was at least the hand's own word
abbrev pub SumMay : Stage → Hand → Hand → Type 0
SumMay a f g = (e : Event) (c : Counter) (n : ℕ) (next : Act) → a ≡ Acting e (Stats c) → g.log ≡ f.log ++ (AnswerGiven (Count n), next) ∷ [] → (f.words c ≤ n) × (n ≤ greatest)

told_sum : (h g : Hand) (e : Event) (act : Act) (ans : Answer) (next : Act) → SumMay (Acting e act) h g → g.log ≡ h.log ++ (AnswerGiven ans, next) ∷ [] → (c : Counter) (n : ℕ) → act ≡ Stats c → ans ≡ Count n → (h.words c ≤ n) × (n ≤ greatest)
told_sum h g e act ans next may l c n q r = may e c n next (ap (Acting e) q) (l ∙ ap (λ (a : Answer). h.log ++ (AnswerGiven a, next) ∷ []) r)

pub tallied_moves : (t : Terms) (y : ActorId) (c : ℕ) (a b : Stage) (f g : Hand) → Moved t y c a f b g → Holds t y a f → SumMay a f g → Tallied f → Tallied g
tallied_moves t y c a b f g (Waits st h) held sums k = k
tallied_moves t y c a b f g (Answers h e act after ans next may q fit) held sums k = tallied_say h after act ans next held.last q (told_sum h (say (record h { seen = after }) (AnswerGiven ans) next) e act ans next sums refl) k
tallied_moves t y c a b f g (Aims h e act after to m ans car fit aim) held sums k = tallied_same h (record h { seen = after }) refl refl k
tallied_moves t y c a b f g (Sends h e act to m ans next) held sums k = record {
  words = λ i. subst (λ n. Saturated n (words_with h.words ans i)) (sym (tally_now i h.log act ans next held.last)) (words_carried t y h.next e act to m ans i (length (tally i h.log)) h.words held.carries (k.words i));
  sums = subst (SumsAfter []) (sym (answers_now h.log act ans next held.last)) (sums_more [] (answers_of h.log) (act, ans) k.sums (sum_carried t y h.next e act to m ans (answers_of h.log) held.carries));
}
tallied_moves t y c a b f g (Fulls h e d s to m ans after next) held sums k = tallied_say h after (TaskAct d s) TaskFull next held.last refl (λ i n x z. absurd (cc)) k
tallied_moves t y c a b f g (Hears h from e act mine) held sums k = record {
  words = λ i. subst (λ xs. Saturated (length (collect (counted i) xs)) (h.words i)) (sym (answers_same h.log e act)) (k.words i);
  sums = subst (SumsAfter []) (sym (answers_same h.log e act)) k.sums;
}
tallied_moves t y c a b f g (Skips h from m none) held sums k = tallied_same h (skip h from m) refl refl k
tallied_moves t y c a b f g (Overs h e none) held sums k = k
tallied_moves t y c a b f g (Leaves h e to m q) held sums k = k
tallied_moves t y c a b f g (Lefts h e to m) held sums k = tallied_same h (left_event t h e to m) refl refl k
tallied_moves t y c a b f g (Stops h) held sums k = k
tallied_moves t y c a b f g (Nones h) held sums k = k
tallied_moves t y c a b f g (SkipStops h from m none) held sums k = tallied_same h (skip h from m) refl refl k
tallied_moves t y c a b f g (SkipNones h from m none) held sums k = tallied_same h (skip h from m) refl refl k
tallied_moves t y c a b f g (Nexts h j) held sums k = tallied_same h (settle h (goodbye t j) NoMore) refl refl k
tallied_moves t y c a b f g (Lasts h j) held sums k = tallied_same h (settle h (goodbye t j) NoMore) refl refl k

-- the sum of a turn
same_end : (log : Log) (x z : Given × Act) → log ++ x ∷ [] ≡ log ++ z ∷ [] → x ≡ z
same_end [] x z q = cc
same_end (y ∷ log) x z q = same_end log x z (cc)

count_same : (a b : Act) (m n : ℕ) → ◌≡◌ {A = Given × Act} (AnswerGiven (Count m), a) (AnswerGiven (Count n), b) → m ≡ n
count_same a b m n q = (let given : ◌≡◌ {A = Given} (AnswerGiven (Count m)) (AnswerGiven (Count n)) = ap (λ (x : Given × Act). x.0) q in cc)

sum_turn : (t : Terms) (y : ActorId) (c : ℕ) (p : Ports) (st : Stage) (h : Hand) (got : Got) → SumFits st h p → SumMay st h (turn t y c p st h got).hand
sum_turn t y c p st h got s e i n next q l =
    let s₁ : SumFits (Acting e (Stats i)) h p = subst (λ (x : Stage). SumFits x h p) q s in
    let l₁ : (turn t y c p (Acting e (Stats i)) h got).hand.log ≡ h.log ++ (AnswerGiven (Count n), next) ∷ [] = subst (λ (x : Stage). (turn t y c p x h got).hand.log ≡ h.log ++ (AnswerGiven (Count n), next) ∷ []) q l in
    let num : p.sum ≡ n = count_same p.act next p.sum n (same_end h.log (AnswerGiven (Count p.sum), p.act) (AnswerGiven (Count n), next) l₁) in
    subst (λ k. (h.words i ≤ k) × (k ≤ greatest)) num s₁

pub turn_tallied : (t : Terms) (y : ActorId) (c : ℕ) (p : Ports) (st : Stage) (h : Hand) (got : Got) → PortsFit t st h p → SumFits st h p → GotFits t st got → Kept t y st h → Tallied h → Tallied (turn t y c p st h got).hand
turn_tallied t y c p st h got u s f k r = tallied_moves t y c st (turn t y c p st h got).stage h (turn t y c p st h got).hand (turn_moves t y c p st h got u f) (holds t y st h k) (sum_turn t y c p st h got s) r

-- a sum is at least what was added before
least_after : (pre xs before behind : List (Act × Answer)) (c : Counter) (n : ℕ) → SumsAfter pre xs → xs ≡ before ++ (Stats c, Count n) ∷ behind → (length (collect (counted c) (pre ++ before)) ≤ n) ⊎ (n ≡ greatest)
least_after pre [] [] behind c n k q = absurd (cc)
least_after pre [] (b ∷ before) behind c n k q = absurd (cc)
least_after pre (x ∷ xs) [] behind c n k q = (let here : x ≡ (Stats c, Count n) = cc in subst (λ (ys : List (Act × Answer)). IsLeast ys (c, n)) (sym (append-nil pre)) (first_least pre (c, n) (subst (λ (z : Act × Answer). Each (IsLeast pre) (count_in z)) here k.0)))
  where
    first_least : (ys : List (Act × Answer)) (p : Counter × ℕ) → Each (IsLeast ys) (p ∷ []) → IsLeast ys p
    first_least ys p h = h.0
least_after pre (x ∷ xs) (b ∷ before) behind c n k q = (let here : x ≡ b = cc in let rest : xs ≡ before ++ (Stats c, Count n) ∷ behind = cc in subst (λ (ys : List (Act × Answer)). IsLeast ys (c, n)) (append_assoc pre (x ∷ []) before ∙ ap (λ (z : Act × Answer). pre ++ z ∷ before) here) (least_after (pre ++ x ∷ []) xs before behind c n k.1 rest))

pub least_of : (h : Hand) → Tallied h → (before behind : List (Act × Answer)) (c : Counter) (n : ℕ) → answers_of h.log ≡ before ++ (Stats c, Count n) ∷ behind → (length (collect (counted c) before) ≤ n) ⊎ (n ≡ greatest)
least_of h k before behind c n q = least_after [] (answers_of h.log) before behind c n k.sums q

pub words_most : (h : Hand) (k : Counter) → Tallied h → h.words k ≤ length (tally k h.log)
words_most h k r = elim (r.words k) [ inl e ↦ omega (arith, e.0) | inr e ↦ omega (arith, e.1) ]
