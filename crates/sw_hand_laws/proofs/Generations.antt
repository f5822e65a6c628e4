-- Every turn keeps what is said of a worker's handlers.
use Rattle.std.proofs.Common.{◌≡◌, ◌⊎◌, ℕ, ◌+◌, ◌-◌, ltb, ◌<◌, ◌≤◌, ◌==◌, Bool, true, false, if◌then◌else◌, List, [], ◌∷◌, ◌++◌, length, refl, ap, ◌∙◌, sym, subst, append-nil, append_assoc, arith, inl, inr}
use Rattle.std.proofs.lemmas.Bool.Decides.{nat_tests}
use Rattle.sw_lists.specs.Lists.{collect, Each}
use Rattle.sw_lists.proofs.Lists.{each_append, length_append}
use Rattle.sw_step.specs.declared.actor.ActorId.{ActorId}
use Rattle.sw_record.specs.Words.{Event, Act, TaskAct, TaskFull, Done, Answer, Given, EventGiven, AnswerGiven, Log}
use Rattle.sw_record.specs.Terms.{Terms}
use Rattle.sw_record.specs.Logs.{event_of, events_of, EndsDone}
use Rattle.sw_record.specs.Dialogue.{Dialogue, MayFollow}
use Rattle.sw_past.specs.Messages.{NoMore, Message}
use Rattle.sw_past.specs.Said.{last_after}
use Rattle.sw_hand_laws.specs.Hand.{Got, Ports, Stage, goodbye, turn, Hand, Seen, say, hear, skip, settle, answered, left_event, is_due}
use Rattle.sw_hand_laws.specs.Kept.{Kept, GotFits}
use Rattle.sw_hand_laws.specs.Moved.{Moved, Waits, Answers, Aims, Sends, Fulls, Hears, Skips, Overs, Leaves, Lefts, Stops, Nones, SkipStops, SkipNones, Nexts, Lasts, PortsFit, Holds}
use Rattle.sw_hand_laws.proofs.Moves.{turn_moves}
use Rattle.sw_hand_laws.proofs.Fitting.{holds}
use Rattle.sw_hand_laws.specs.Generations.{entries, IsOver, Generations}
use Rattle.sw_hand_laws.proofs.Ends.{one_more, follows, told_same, last_is, ends_done}
use Rattle.sw_hand_laws.proofs.Speaks.{may_carried}

concat_more : (ls : List Log) (log : Log) → collect entries (ls ++ log ∷ []) ≡ collect entries ls ++ log
concat_more [] log = append-nil log
concat_more (l ∷ ls) log = ap (λ xs. l ++ xs) (concat_more ls log) ∙ sym (append_assoc l (collect entries ls) log)

joined_more : (gone current log : Log) (x : Given × Act) → gone ++ current ≡ log → gone ++ (current ++ x ∷ []) ≡ log ++ x ∷ []
joined_more gone current log x q = sym (append_assoc gone current (x ∷ [])) ∙ ap (λ (l : Log). l ++ x ∷ []) q

-- the current handler's last act is the log's
last_two : (act : Act) (xs ys : Log) → last_after act (xs ++ ys) ≡ last_after (last_after act xs) ys
last_two act [] ys = refl
last_two act (x ∷ xs) ys = last_two x.1 xs ys

last_any : (a b : Act) (x : Given × Act) (log : Log) → last_after a (x ∷ log) ≡ last_after b (x ∷ log)
last_any a b x log = refl

gone_done : (n : ℕ) (ls : List Log) → Each (IsOver n) ls → last_after Done (collect entries ls) ≡ Done
gone_done n [] h = refl
gone_done n (l ∷ ls) h = last_two Done l (collect entries ls) ∙ ap (λ (a : Act). last_after a (collect entries ls)) (ends_with l h.0.1.1) ∙ gone_done n ls h.1
  where
    ends_with : (log : Log) → EndsDone log → last_after Done log ≡ Done
    ends_with log (front, (given, q)) = ap (last_after Done) q ∙ last_is Done front given Done

current_last : (n : ℕ) (ls : List Log) (current log : Log) → Each (IsOver n) ls → collect entries ls ++ current ≡ log → last_after Done current ≡ last_after Done log
current_last n ls current log h q = sym (ap (λ (a : Act). last_after a current) (gone_done n ls h)) ∙ sym (last_two Done (collect entries ls) current) ∙ ap (last_after Done) q

-- an answer
pub generations_say : (c : ℕ) (num : ℕ) (h : Hand) (seen : Seen) (act : Act) (a : Answer) (next : Act) → last_after Done h.log ≡ act → MayFollow act (AnswerGiven a) → Generations c num h → Generations c num (say (record h { seen = seen }) (AnswerGiven a) next)
generations_say c num h seen act a next q may g = record {
  joined = joined_more (collect entries h.gone) h.current h.log (AnswerGiven a, next) g.joined;
  over = g.over;
  dialogue = follows Done h.current (AnswerGiven a) next g.dialogue (subst (λ (x : Act). MayFollow x (AnswerGiven a)) (sym (current_last c h.gone h.current h.log g.over g.joined ∙ q)) may);
  events = g.events ∙ sym (ap length (told_same h.current a next));
  few = g.few;
  never = g.never;
  number = g.number;
}

pub generations_answered : (c : ℕ) (num : ℕ) (h : Hand) (act : Act) (to : ActorId) (m : Message) (a : Answer) (next : Act) → last_after Done h.log ≡ act → MayFollow act (AnswerGiven a) → Generations c num h → Generations c num (answered h to m a next)
generations_answered c num h act to m a next q may g = record {
  joined = joined_more (collect entries h.gone) h.current h.log (AnswerGiven a, next) g.joined;
  over = g.over;
  dialogue = follows Done h.current (AnswerGiven a) next g.dialogue (subst (λ (x : Act). MayFollow x (AnswerGiven a)) (sym (current_last c h.gone h.current h.log g.over g.joined ∙ q)) may);
  events = g.events ∙ sym (ap length (told_same h.current a next));
  few = g.few;
  never = g.never;
  number = g.number;
}

-- whether the handler changes
due_is : (c : ℕ) (h : Hand) → is_due c h ≡ true → (¬ (c ≡ 0)) × ((h.events ≡ c) × (0 < h.left))
due_is c h q = pick (c == 0) (h.events == c) refl refl q
  where
    pick : (u v : Bool) → (c == 0) ≡ u → (h.events == c) ≡ v → (if u then false else if v then ltb 0 h.left else false) ≡ true → (¬ (c ≡ 0)) × ((h.events ≡ c) × (0 < h.left))
    pick true v a b r = absurd (cc)
    pick false true a b r = ((λ e. absurd (grind (arith, nat_tests))), (grind (arith, nat_tests), grind (arith, nat_tests)))
    pick false false a b r = absurd (cc)

due_not : (c : ℕ) (h : Hand) → is_due c h ≡ false → (c ≡ 0) ⊎ ((h.left ≡ 0) ⊎ (¬ (h.events ≡ c)))
due_not c h q = pick (c == 0) (h.events == c) refl refl q
  where
    pick : (u v : Bool) → (c == 0) ≡ u → (h.events == c) ≡ v → (if u then false else if v then ltb 0 h.left else false) ≡ false → (c ≡ 0) ⊎ ((h.left ≡ 0) ⊎ (¬ (h.events ≡ c)))
    pick true v a b r = inl (grind (arith, nat_tests))
    pick false true a b r = inr (inl (grind (arith, nat_tests)))
    pick false false a b r = inr (inr (λ e. absurd (grind (arith, nat_tests))))

-- the handler is replaced only behind an event
some_events : (log : Log) (n : ℕ) → length (events_of log) ≡ n → ¬ (n ≡ 0) → (log ≡ []) ⊎ EndsDone log → EndsDone log
some_events log n e z (inl q) = absurd (z (sym e ∙ ap (λ l. length (events_of l)) q))
some_events log n e z (inr d) = d

few_more : (c : ℕ) (h : Hand) → is_due c h ≡ false → (c ≡ 0) ⊎ ((h.left ≡ 0) ⊎ (h.events ≤ c)) → (c ≡ 0) ⊎ ((h.left ≡ 0) ⊎ (h.events + 1 ≤ c))
few_more c h q f = elim (due_not c h q) [
  | inl z ↦ inl z
  | inr (inl z) ↦ inr (inl z)
  | inr (inr n) ↦ elim f [ inl z ↦ inl z | inr (inl z) ↦ inr (inl z) | inr (inr le) ↦ inr (inr (omega (arith, le, n))) ]
]

heard_if : (t : Terms) (c : ℕ) (num : ℕ) (h : Hand) (from : ActorId) (e : Event) (act : Act) (v : Bool) → is_due c h ≡ v → last_after Done h.log ≡ Done → Generations c num h → Generations c num (record (hear t c h from e act) {
  gone = if v then h.gone ++ h.current ∷ [] else h.gone;
  current = if v then (EventGiven e, act) ∷ [] else h.current ++ (EventGiven e, act) ∷ [];
  events = if v then 1 else h.events + 1;
  left = if v then h.left - 1 else h.left;
})
heard_if t c num h from e act true q last g =
    let due = due_is c h q in
    let num_events : length (events_of h.current) ≡ c = sym g.events ∙ due.1.0 in
    record {
      joined = ap (λ (l : Log). l ++ (EventGiven e, act) ∷ []) (concat_more h.gone h.current ∙ g.joined);
      over = each_append (IsOver c) h.gone (h.current ∷ []) g.over ((g.dialogue, (num_events, some_events h.current c num_events due.0 (ends_done Done h.current (current_last c h.gone h.current h.log g.over g.joined ∙ last)))), tt);
      dialogue = (tt, tt);
      events = refl;
      few = inr (inr (omega (arith, due.0)));
      never = λ z. absurd (due.0 z);
      number = omega (arith, g.number, due.1.1, length_append h.gone (h.current ∷ []));
    }
heard_if t c num h from e act false q last g = record {
  joined = joined_more (collect entries h.gone) h.current h.log (EventGiven e, act) g.joined;
  over = g.over;
  dialogue = follows Done h.current (EventGiven e) act g.dialogue (subst (λ (x : Act). MayFollow x (EventGiven e)) (sym (current_last c h.gone h.current h.log g.over g.joined ∙ last)) tt);
  events = omega (arith, g.events, ap length (one_more event_of h.current (EventGiven e, act)), length_append (events_of h.current) (e ∷ []));
  few = few_more c h q g.few;
  never = g.never;
  number = g.number;
}

pub generations_hear : (t : Terms) (c : ℕ) (num : ℕ) (h : Hand) (from : ActorId) (e : Event) (act : Act) → last_after Done h.log ≡ Done → Generations c num h → Generations c num (hear t c h from e act)
generations_hear t c num h from e act last g = heard_if t c num h from e act (is_due c h) refl last g

-- steps without a word of the handler
pub generations_same : (c : ℕ) (num : ℕ) (h other : Hand) → other.log ≡ h.log → other.gone ≡ h.gone → other.current ≡ h.current → other.events ≡ h.events → other.left ≡ h.left → Generations c num h → Generations c num other
generations_same c num h other l o u e n g = record {
  joined = ap (λ ls. collect entries ls ++ other.current) o ∙ ap (λ (x : Log). collect entries h.gone ++ x) u ∙ g.joined ∙ sym l;
  over = subst (Each (IsOver c)) (sym o) g.over;
  dialogue = subst Dialogue (sym u) g.dialogue;
  events = e ∙ g.events ∙ sym (ap (λ x. length (events_of x)) u);
  few = elim g.few [ inl z ↦ inl z | inr (inl z) ↦ inr (inl (n ∙ z)) | inr (inr le) ↦ inr (inr (omega (arith, le, e))) ];
  never = λ z. o ∙ g.never z;
  number = omega (arith, g.number, n, ap length o);
}

pub generations_moves : (t : Terms) (y : ActorId) (c : ℕ) (num : ℕ) (a b : Stage) (f g : Hand) → Moved t y c a f b g → Holds t y a f → Generations c num f → Generations c num g
generations_moves t y c num a b f g (Waits st h) held k = k
generations_moves t y c num a b f g (Answers h e act after ans next may q fit) held k = generations_say c num h after act ans next held.last may k
generations_moves t y c num a b f g (Aims h e act after to m ans car fit aim) held k = generations_same c num h (record h { seen = after }) refl refl refl refl refl k
generations_moves t y c num a b f g (Sends h e act to m ans next) held k = generations_answered c num h act to m ans next held.last (may_carried t y h.next e act to m ans held.carries) k
generations_moves t y c num a b f g (Fulls h e d s to m ans after next) held k = generations_say c num h after (TaskAct d s) TaskFull next held.last tt k
generations_moves t y c num a b f g (Hears h from e act mine) held k = generations_hear t c num h from e act held.last k
generations_moves t y c num a b f g (Skips h from m none) held k = generations_same c num h (skip h from m) refl refl refl refl refl k
generations_moves t y c num a b f g (Overs h e none) held k = k
generations_moves t y c num a b f g (Leaves h e to m q) held k = k
generations_moves t y c num a b f g (Lefts h e to m) held k = generations_same c num h (left_event t h e to m) refl refl refl refl refl k
generations_moves t y c num a b f g (Stops h) held k = k
generations_moves t y c num a b f g (Nones h) held k = k
generations_moves t y c num a b f g (SkipStops h from m none) held k = generations_same c num h (skip h from m) refl refl refl refl refl k
generations_moves t y c num a b f g (SkipNones h from m none) held k = generations_same c num h (skip h from m) refl refl refl refl refl k
generations_moves t y c num a b f g (Nexts h j) held k = generations_same c num h (settle h (goodbye t j) NoMore) refl refl refl refl refl k
generations_moves t y c num a b f g (Lasts h j) held k = generations_same c num h (settle h (goodbye t j) NoMore) refl refl refl refl refl k

-- every turn keeps what handlers show
pub turn_generations : (t : Terms) (y : ActorId) (c : ℕ) (num : ℕ) (p : Ports) (st : Stage) (h : Hand) (got : Got) → PortsFit t st h p → GotFits t st got → Kept t y st h → Generations c num h → Generations c num (turn t y c p st h got).hand
turn_generations t y c num p st h got u f k r = generations_moves t y c num st (turn t y c p st h got).stage h (turn t y c p st h got).hand (turn_moves t y c p st h got u f) (holds t y st h k) r
