-- A turn adds one entry to the log at most, and as it does all that was pushed before is for good.
use Rattle.std.proofs.Common.{◌≡◌, ◌⊎◌, ℕ, Bool, true, false, [], ◌∷◌, ◌++◌, length, refl, ap, ◌∙◌, subst, append-nil, arith, inl, inr, suc, ltb}
use Rattle.sw_lists.specs.Lists.{collect, IsPrefix}
use Rattle.sw_lists.proofs.Lists.{prefix_refl, prefix_trans, prefix_collect, prefix_length}
use Rattle.sw_step.specs.declared.actor.ActorId.{ActorId}
use Rattle.sw_step.specs.declared.actor.ActorId.TheVariants.{Reactor, Worker}
use Rattle.sw_record.specs.Words.{Event, Act, Given, EventGiven, AnswerGiven, TaskFull, Log}
use Rattle.sw_record.specs.Terms.{Terms, reactor_of}
use Rattle.sw_past.specs.Messages.{NoMore}
use Rattle.sw_past.specs.Past.{Mail, bare, msg_of, of, with}
use Rattle.sw_past.specs.Views.{talk_in, task_id, finish_in}
use Rattle.sw_past.specs.Said.{settled}
use Rattle.sw_past.specs.Routes.{IsHand}
use Rattle.sw_hand_laws.specs.Hand.{Got, Start, Took, Empty, Pushed, Full, Nothing, Ports, Stage, Idle, Acting, Sending, Leaving, Stopping, Stopped, Hand, goodbye, goodbyes, settle, stop_if, turn}
use Rattle.sw_hand_laws.specs.Kept.{Kept, GotFits, sent}
use Rattle.sw_hand_laws.specs.Moved.{Moved, Waits, Answers, Aims, Sends, Fulls, Hears, Skips, Overs, Leaves, Lefts, Stops, Nones, SkipStops, SkipNones, Nexts, Lasts, PortsFit}
use Rattle.sw_hand_laws.specs.Settled.{IsSettled}
use Rattle.sw_hand_laws.specs.Course.{Course}
use Rattle.sw_hand_laws.proofs.Moves.{turn_moves}
use Rattle.sw_hand_laws.proofs.Turns.{turn_keeps}
use Rattle.sw_hand_laws.proofs.Owns.{turn_grows}
use Rattle.sw_hand_laws.proofs.Course.{good}

-- with nothing on its way
settled_now : (t : Terms) (y : ActorId) (e : Event) (act : Act) (h : Hand) → Kept t y (Acting e act) h → IsSettled t y h.log h.pushed
settled_now t y e act h k = record {
  talk = λ s. ([], append-nil (collect (talk_in s) (of (Reactor (reactor_of t s)) h.pushed)) ∙ k.speaks.talk s);
  tasks = λ w r. omega (arith, (k.posting w r).mail.pushes, (k.posting w r).logged.tasks);
  finishes = λ j w r. omega (arith, ap length (k.making.gave w));
}

settled_front : (t : Terms) (y : ActorId) (log : Log) (front pushed : Mail) → IsPrefix front pushed → IsSettled t y log pushed → IsSettled t y log front
settled_front t y log front pushed p k = record {
  talk = λ s. prefix_trans (collect (talk_in s) (of (Reactor (reactor_of t s)) front)) (collect (talk_in s) (of (Reactor (reactor_of t s)) pushed)) (settled t s log) (prefix_collect (talk_in s) (of (Reactor (reactor_of t s)) front) (of (Reactor (reactor_of t s)) pushed) (prefix_collect (with (Reactor (reactor_of t s))) front pushed p)) (k.talk s);
  tasks = λ w r. omega (arith, k.tasks w r, prefix_length (collect (task_id w) (bare front)) (collect (task_id w) (bare pushed)) (prefix_collect (task_id w) (bare front) (bare pushed) (prefix_collect msg_of front pushed p)));
  finishes = λ j w r. omega (arith, k.finishes j w r, prefix_length (collect finish_in (of (Worker w) front)) (collect finish_in (of (Worker w) pushed)) (prefix_collect finish_in (of (Worker w) front) (of (Worker w) pushed) (prefix_collect (with (Worker w)) front pushed p)));
}

-- one entry more, and an act to be made
abbrev pub OneMore : Log → Log → Stage → Type 0
OneMore log more b = (x : Given × Act) × ((more ≡ log ++ x ∷ []) × ((e : Event) × ((act : Act) × (b ≡ Acting e act))))

pub one_entry : (t : Terms) (y : ActorId) (c : ℕ) (a b : Stage) (f g : Hand) → Moved t y c a f b g → (g.log ≡ f.log) ⊎ OneMore f.log g.log b
one_entry t y c a b f g (Waits st h) = inl refl
one_entry t y c a b f g (Answers h e act after ans next may q fit) = inr ((AnswerGiven ans, next), (refl, (e, (next, refl))))
one_entry t y c a b f g (Aims h e act after to m ans car fit aim) = inl refl
one_entry t y c a b f g (Sends h e act to m ans next) = inr ((AnswerGiven ans, next), (refl, (e, (next, refl))))
one_entry t y c a b f g (Fulls h e d s to m ans after next) = inr ((AnswerGiven TaskFull, next), (refl, (e, (next, refl))))
one_entry t y c a b f g (Hears h from e act mine) = inr ((EventGiven e, act), (refl, (e, (act, refl))))
one_entry t y c a b f g (Skips h from m none) = inl refl
one_entry t y c a b f g (Overs h e none) = inl refl
one_entry t y c a b f g (Leaves h e to m q) = inl refl
one_entry t y c a b f g (Lefts h e to m) = inl refl
one_entry t y c a b f g (Stops h) = inl refl
one_entry t y c a b f g (Nones h) = inl refl
one_entry t y c a b f g (SkipStops h from m none) = inl refl
one_entry t y c a b f g (SkipNones h from m none) = inl refl
one_entry t y c a b f g (Nexts h j) = inl refl
one_entry t y c a b f g (Lasts h j) = inl refl

-- what was pushed before a turn is pushed behind it
stop_hand : (t : Terms) (h : Hand) (k : ℕ) (v : Bool) → IsPrefix h.pushed (stop_if t h k v).hand.pushed
stop_hand t h k true = prefix_refl h.pushed
stop_hand t h k false = prefix_refl h.pushed

pub sent_front : (t : Terms) (y : ActorId) (c : ℕ) (p : Ports) (st : Stage) (h : Hand) (got : Got) → PortsFit t st h p → GotFits t st got → IsPrefix (sent t st got h.pushed) (turn t y c p st h got).hand.pushed
sent_front t y c p st h Start u f = (turn_grows t y c p st h Start u f).pushed
sent_front t y c p st h (Took x m) u f = (turn_grows t y c p st h (Took x m) u f).pushed
sent_front t y c p st h Empty u f = (turn_grows t y c p st h Empty u f).pushed
sent_front t y c p st h (Full m) u f = (turn_grows t y c p st h (Full m) u f).pushed
sent_front t y c p st h Nothing u f = (turn_grows t y c p st h Nothing u f).pushed
sent_front t y c p Idle h Pushed u f = absurd f
sent_front t y c p (Acting e act) h Pushed u f = absurd (cc)
sent_front t y c p (Sending e act to m a) h Pushed u f = prefix_refl (h.pushed ++ (to, m) ∷ [])
sent_front t y c p (Leaving e to m) h Pushed u f = prefix_refl (h.pushed ++ (to, m) ∷ [])
sent_front t y c p (Stopping k) h Pushed u f = stop_hand t (settle h (goodbye t k) NoMore) (suc k) (ltb (suc k) (goodbyes t y))
sent_front t y c p Stopped h Pushed u f = absurd f

settled_then : (t : Terms) (y : ActorId) (st : Stage) (h : Hand) (front : Mail) (e : Event) (act : Act) → st ≡ Acting e act → IsPrefix front h.pushed → Kept t y st h → IsSettled t y h.log front
settled_then t y st h front e act q p k = settled_front t y h.log front h.pushed p (settled_now t y e act h (subst (λ (x : Stage). Kept t y x h) q k))

-- every turn
pub turn_settles : (t : Terms) (y : ActorId) (c : ℕ) (p : Ports) (st : Stage) (h : Hand) (got : Got) → IsHand t y → PortsFit t st h p → GotFits t st got → Kept t y st h → ((turn t y c p st h got).hand.log ≡ h.log) ⊎ ((x : Given × Act) × (((turn t y c p st h got).hand.log ≡ h.log ++ x ∷ []) × IsSettled t y (turn t y c p st h got).hand.log (sent t st got h.pushed)))
turn_settles t y c p st h got hand u f k = elim (one_entry t y c st (turn t y c p st h got).stage h (turn t y c p st h got).hand (turn_moves t y c p st h got u f)) [
  | inl q ↦ inl q
  | inr (x, (q, (e, (act, s)))) ↦ inr (x, (q, settled_then t y (turn t y c p st h got).stage (turn t y c p st h got).hand (sent t st got h.pushed) e act s (sent_front t y c p st h got u f) (turn_keeps t y c p st h got hand f k).kept))
]

-- in every state that a hand comes to
pub settles : (t : Terms) (y : ActorId) (c left : ℕ) (p : Ports) (st : Stage) (h : Hand) (got : Got) → IsHand t y → PortsFit t st h p → Course t y c left st h got → ((turn t y c p st h got).hand.log ≡ h.log) ⊎ ((x : Given × Act) × (((turn t y c p st h got).hand.log ≡ h.log ++ x ∷ []) × IsSettled t y (turn t y c p st h got).hand.log (sent t st got h.pushed)))
settles t y c left p st h got hand u k = let g = good t y c left st h got hand k in turn_settles t y c p st h got hand u g.fits g.kept
