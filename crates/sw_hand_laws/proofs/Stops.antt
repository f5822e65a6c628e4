-- Who set the stop word asked for it.
use Rattle.std.proofs.Common.{◌≡◌, ◌⊎◌, ℕ, List, [], ◌∷◌, ◌++◌, refl, ap, ◌∙◌, sym, subst, Some, slice_get, inl, inr, suc}
use Rattle.sw_lists.specs.Lists.{collect}
use Rattle.sw_lists.proofs.Lists.{collect-append}
use Rattle.sw_step.specs.declared.actor.ActorId.{ActorId}
use Rattle.sw_record.specs.Words.{Act, Send, Close, Reset, Bind, Exist, Info, TaskAct, FinishAct, Table, Stats, Shutdown, Done, Sent, Asked, BindOk, Exists, InfoIs, Posted, Finished, TableIs, TableRefused, Count, NoSession, Bound, BadUid, WrongMode, TaskFull, BadTarget, NoTaskWorkers, IdsSpent, NotHere, NoTable, Given, EventGiven, AnswerGiven, Log}
use Rattle.sw_record.specs.Terms.{Terms}
use Rattle.sw_record.specs.Dialogue.{MayFollow, DialogueAfter}
use Rattle.sw_record.specs.Answers.{answers_after, answer_to}
use Rattle.sw_record.specs.Causes.{IsAsked}
use Rattle.sw_past.specs.Past.{Past}
use Rattle.sw_past.specs.Routes.{IsHand}
use Rattle.sw_hand_laws.specs.Hand.{Hand}
use Rattle.sw_hand_laws.specs.Shows.{IsAnswered, stop_in}
use Rattle.sw_hand_laws.specs.Joins.{Hands}

stop_here : (act : Act) (g : Given) → MayFollow act g → (collect stop_in (answer_to act g) ≡ []) ⊎ ((act ≡ Shutdown) × (g ≡ AnswerGiven Asked))
stop_here (Send s b) (EventGiven e) m = inl refl
stop_here (Send s b) (AnswerGiven an) m = inl refl
stop_here (Close s) (EventGiven e) m = inl refl
stop_here (Close s) (AnswerGiven an) m = inl refl
stop_here (Reset s) (EventGiven e) m = inl refl
stop_here (Reset s) (AnswerGiven an) m = inl refl
stop_here (Bind s u) (EventGiven e) m = inl refl
stop_here (Bind s u) (AnswerGiven an) m = inl refl
stop_here (Exist s) (EventGiven e) m = inl refl
stop_here (Exist s) (AnswerGiven an) m = inl refl
stop_here (Info s) (EventGiven e) m = inl refl
stop_here (Info s) (AnswerGiven an) m = inl refl
stop_here (TaskAct d b) (EventGiven e) m = inl refl
stop_here (TaskAct d b) (AnswerGiven an) m = inl refl
stop_here (FinishAct b) (EventGiven e) m = inl refl
stop_here (FinishAct b) (AnswerGiven an) m = inl refl
stop_here (Table c) (EventGiven e) m = inl refl
stop_here (Table c) (AnswerGiven an) m = inl refl
stop_here (Stats c) (EventGiven e) m = inl refl
stop_here (Stats c) (AnswerGiven an) m = inl refl
stop_here Done (EventGiven e) m = inl refl
stop_here Done (AnswerGiven an) m = inl refl
stop_here Shutdown (EventGiven e) m = inl refl
stop_here Shutdown (AnswerGiven Sent) m = absurd m
stop_here Shutdown (AnswerGiven Asked) m = inr (refl, refl)
stop_here Shutdown (AnswerGiven BindOk) m = absurd m
stop_here Shutdown (AnswerGiven Exists) m = absurd m
stop_here Shutdown (AnswerGiven (InfoIs f u)) m = absurd m
stop_here Shutdown (AnswerGiven (Posted n)) m = absurd m
stop_here Shutdown (AnswerGiven Finished) m = absurd m
stop_here Shutdown (AnswerGiven (TableIs at r cells)) m = absurd m
stop_here Shutdown (AnswerGiven (TableRefused n)) m = absurd m
stop_here Shutdown (AnswerGiven (Count n)) m = absurd m
stop_here Shutdown (AnswerGiven (NoSession n)) m = absurd m
stop_here Shutdown (AnswerGiven (Bound n)) m = absurd m
stop_here Shutdown (AnswerGiven BadUid) m = absurd m
stop_here Shutdown (AnswerGiven WrongMode) m = absurd m
stop_here Shutdown (AnswerGiven TaskFull) m = absurd m
stop_here Shutdown (AnswerGiven BadTarget) m = absurd m
stop_here Shutdown (AnswerGiven NoTaskWorkers) m = absurd m
stop_here Shutdown (AnswerGiven IdsSpent) m = absurd m
stop_here Shutdown (AnswerGiven NotHere) m = absurd m
stop_here Shutdown (AnswerGiven NoTable) m = absurd m

abbrev Later : Log → Type 0
Later log = IsAnswered log Shutdown

later : (g : Given) (a : Act) (log : Log) → ((a ≡ Shutdown) × ((next : Act) × (slice_get log 0 ≡ Some (AnswerGiven Asked, next)))) ⊎ Later log → Later ((g, a) ∷ log)
later g a log (inl (q, (next, e))) = (0, (g, (next, (ap (λ (x : Act). Some (g, x)) q, e))))
later g a log (inr (at, (f, (next, (e, r))))) = (suc at, (f, (next, (e, r))))

pub stop_asked : (act : Act) (log : Log) → ¬ (collect stop_in (answers_after act log) ≡ []) → DialogueAfter act log → ((act ≡ Shutdown) × ((next : Act) × (slice_get log 0 ≡ Some (AnswerGiven Asked, next)))) ⊎ Later log
stop_asked act [] n d = absurd (n refl)
stop_asked act ((g, a) ∷ log) n d = elim (stop_here act g d.0) [
  | inl e ↦ inr (later g a log (stop_asked a log (λ r. n (collect-append stop_in (answer_to act g) (answers_after a log) ∙ ap (λ (ns : List ℕ). ns ++ collect stop_in (answers_after a log)) e ∙ r)) d.1))
  | inr q ↦ inl (q.0, (a, ap (λ (x : Given). Some (x, a)) q.1))
]

-- a stop word that this hand set is in its log
pub stop_local : (t : Terms) (c : ℕ) (left : ℕ) (p : Past) (at : ActorId → Hand) → Hands t c left p at → (y : ActorId) → IsHand t y → ¬ ((at y).seen.stops ≡ []) → IsAsked (p.log y) Shutdown
stop_local t c left p at k y hand n =
    let s = k.shows y hand in
    subst (λ (l : Log). IsAsked l Shutdown) (sym s.log_is) (elim (stop_asked Done (at y).log (λ e. n (sym s.showing.stops ∙ e)) s.shown.hand.dialogue) [
      | inl q ↦ absurd (let r : Done ≡ Shutdown = q.0 in cc)
      | inr (i, (g, (next, (e, f)))) ↦ record { at = i; given = g; there = e; answer = inr (next, f) }
    ])
