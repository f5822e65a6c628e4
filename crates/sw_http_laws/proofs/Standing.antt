-- A handler round a handler, step by step, as one session sees it.
use Rattle.std.proofs.Common.{◌≡◌, ℕ, ◌<◌, zero, suc, true, false, List, [], ◌∷◌, ◌++◌, length, take, Option, Some, None, refl, sym, ap, ◌∙◌, subst, append_assoc, append-nil, ◌⊎◌, inl, inr}
use Rattle.sw_lists.proofs.Lists.{equal_or_not, bool_cases}
use Rattle.sw_record.specs.Dialogue.{MayFollow, DialogueAfter}
use Rattle.sw_record.specs.Logs.{told_of, packets_in, Handled}
use Rattle.sw_record.specs.Order.{ClosedLast}
use Rattle.sw_record.specs.Words.{Event, Connect, Packet, Closed, Finish, Task, Act, Done, Answer, Given, EventGiven, AnswerGiven, Log}
use Rattle.sw_http.proofs.First.{in_nothing, first_more}
use Rattle.sw_http.specs.Lines.{unscanned}
use Rattle.sw_http_worker.specs.declared.serving.Serving.{Serving}
use Rattle.sw_http_worker.specs.declared.serving.Doing.{Doing}
use Rattle.sw_http_worker.specs.declared.serving.Doing.TheVariants as doings
use Rattle.sw_http_worker.specs.declared.worker.HttpWorker.{HttpWorker}
use Rattle.sw_http_worker.specs.Serving.{Acts, is_done, fresh, with_piece, Serves}
use Rattle.sw_http_worker.specs.Worker.{inner_of, max_of, doing_of, kept_of, serving_or, serving_of, Keeps, KeepsAll, Passes, ServesKept, GoesOn, OnEvent, ActsAlone, OnAnswer, OnGiven, Works}
use Rattle.std.specs.List.{concat}
use Rattle.sw_http_laws.specs.Inside.{Tells, Follows, Ran, contents, bytes_on}
use Rattle.sw_http_laws.proofs.Logs.{told_append, handled_none, bytes_packet, bytes_none, told, told_connect, told_packet, told_closed, other_connect, other_packet, other_closed, event_after, last_of, closed_is_last}
use Rattle.sw_http_laws.proofs.Session.{IsServing, IsIdle, Phase, phase_idle, with_log, with_bytes, at_first, fed_more, served, other_serves, other_phase}

-- ---- a session that is fresh has no request

abbrev no_bytes : List ℕ
no_bytes = []

none_taken : (n : ℕ) → length (take n no_bytes) ≡ 0
none_taken zero = refl
none_taken (suc n) = refl

fresh_idle : (max : ℕ) → 0 < max → IsIdle (fresh max)
fresh_idle max fit = inr (first_more max [] unscanned (in_nothing (take max [])) (sym (none_taken max)) fit)

-- ---- where a session stands

pub data Standing {H : Type 0} (tell : H → Log) (max s : ℕ) (w : HttpWorker H) (past : Log) (last : Act) : Type 0 where
  Before : told_of s past ≡ [] → Handled (tell (inner_of w)) s ≡ [] → kept_of w s ≡ None → Standing tell max s w past last
  During : (v : Serving) → kept_of w s ≡ Some v → IsServing max s v (bytes_on s past) (tell (inner_of w)) → Phase s (doing_of w) last v → Standing tell max s w past last
  Behind : (v : Serving) (es : List Event) → told_of s past ≡ es ++ Closed s ∷ [] → kept_of w s ≡ None → IsServing max s v (bytes_on s past) (tell (inner_of w)) → IsIdle v → Standing tell max s w past last

-- nothing of the session comes in this entry, or goes
pub record IsQuiet {H : Type 0} (tell : H → Log) (s : ℕ) (old new : HttpWorker H) (last act : Act) (entry : Log) : Type 0 where
  pub untold : told_of s entry ≡ []
  pub kept : kept_of new s ≡ kept_of old s
  pub handled : Handled (tell (inner_of new)) s ≡ Handled (tell (inner_of old)) s
  pub phase : (v : Serving) → kept_of old s ≡ Some v → Phase s (doing_of old) last v → Phase s (doing_of new) act v

quiet : {H : Type 0} (tell : H → Log) (max s : ℕ) (old new : HttpWorker H) (past entry : Log) (last act : Act) → IsQuiet tell s old new last act entry → Standing tell max s old past last → Standing tell max s new (past ++ entry) act
quiet tell max s old new past entry last act q (Before none handled kept) =
    Before (told_append s past entry ∙ ap (λ (l : List Event). l ++ told_of s entry) none ∙ q.untold) (q.handled ∙ handled) (q.kept ∙ kept)
quiet tell max s old new past entry last act q (During v kept serving phase) =
    During v (q.kept ∙ kept)
    (with_bytes max s v (bytes_on s past) (bytes_on s (past ++ entry)) (tell (inner_of new)) (bytes_none s past entry (ap packets_in q.untold))
    (with_log max s v (bytes_on s past) (tell (inner_of old)) (tell (inner_of new)) q.handled serving))
    (q.phase v kept phase)
quiet tell max s old new past entry last act q (Behind v es is kept serving idle) =
    Behind v es (told_append s past entry ∙ ap (λ (l : List Event). told_of s past ++ l) q.untold ∙ append-nil (told_of s past) ∙ is) (q.kept ∙ kept)
    (with_bytes max s v (bytes_on s past) (bytes_on s (past ++ entry)) (tell (inner_of new)) (bytes_none s past entry (ap packets_in q.untold))
    (with_log max s v (bytes_on s past) (tell (inner_of old)) (tell (inner_of new)) q.handled serving))
    idle

-- ---- what passes through

-- the handler inside was given this, which is no packet of the session
passed_on : {H : Type 0} (acts : Acts H) (tell : H → Log) → Tells acts tell → (s : ℕ) (old new : H) (given : Given) (act : Act) → packets_in (told_of s ((given, act) ∷ [])) ≡ [] → acts old given act new → Handled (tell new) s ≡ Handled (tell old) s
passed_on acts tell tells s old new given act none acted = ap (λ (l : Log). Handled l s) (tells old given act new acted) ∙ handled_none s (tell old) ((given, act) ∷ []) none

idle_phase : (s : ℕ) (doing : Doing) (act : Act) (v : Serving) → doing ≡ doings.Passing → IsIdle v → Phase s doing act v
idle_phase s doing act v is idle = subst (λ d. Phase s d act v) (sym is) idle

-- ---- the session is told something

record IsOpened {H : Type 0} (tell : H → Log) (max s : ℕ) (w : HttpWorker H) (past : Log) : Type 0 where
  pub serving : IsServing max s (serving_of w s) (bytes_on s past) (tell (inner_of w))
  pub idle : IsIdle (serving_of w s)

opened : {H : Type 0} (tell : H → Log) (max s : ℕ) (w : HttpWorker H) (past : Log) (last : Act) → 0 < max → max_of w ≡ max → is_done last ≡ true → ((es : List Event) → told_of s past ≡ es ++ Closed s ∷ [] → ⊥)
    → Standing tell max s w past last → IsOpened tell max s w past
opened tell max s w past last fit same done unended (Before none handled kept) =
    let is : serving_of w s ≡ fresh max = ap (serving_or (max_of w)) kept ∙ ap fresh same in
    let nothing : bytes_on s past ≡ [] = ap (λ (es : List Event). concat (contents (packets_in es))) none in
    record {
      serving = subst (λ v. IsServing max s v (bytes_on s past) (tell (inner_of w))) (sym is) (with_bytes max s (fresh max) [] (bytes_on s past) (tell (inner_of w)) nothing (at_first max s (tell (inner_of w)) handled));
      idle = subst IsIdle (sym is) (fresh_idle max fit);
    }
opened tell max s w past last fit same done unended (During v kept serving phase) =
    let is : serving_of w s ≡ v = ap (serving_or (max_of w)) kept in
    record {
      serving = subst (λ x. IsServing max s x (bytes_on s past) (tell (inner_of w))) (sym is) serving;
      idle = subst IsIdle (sym is) (phase_idle s (doing_of w) last v done phase);
    }
opened tell max s w past last fit same done unended (Behind v es is kept serving idle) = absurd (unended es is)

-- ---- an event

connected : {H : Type 0} (acts : Acts H) (tell : H → Log) → Tells acts tell → (max s : ℕ) (old new : HttpWorker H) (past : Log) (act : Act)
    → Passes acts old (EventGiven (Connect s)) act new → Keeps old new s (Some (serving_of old s)) → IsOpened tell max s old past → Standing tell max s new (past ++ told (Connect s) act) act
connected acts tell tells max s old new past act passes keeps is =
    let none : packets_in (told_of s (told (Connect s) act)) ≡ [] = ap packets_in (told_connect s act) in
    During (serving_of old s) keeps.this
    (with_bytes max s (serving_of old s) (bytes_on s past) (bytes_on s (past ++ told (Connect s) act)) (tell (inner_of new)) (bytes_none s past (told (Connect s) act) none)
    (with_log max s (serving_of old s) (bytes_on s past) (tell (inner_of old)) (tell (inner_of new)) (passed_on acts tell tells s (inner_of old) (inner_of new) (EventGiven (Connect s)) act none passes.acted) is.serving))
    (idle_phase s (doing_of new) act (serving_of old s) passes.doing is.idle)

came : {H : Type 0} (acts : Acts H) (tell : H → Log) → Tells acts tell → (max s i : ℕ) (piece : List ℕ) (old new : HttpWorker H) (past : Log) (act : Act) (w : Serving)
    → Serves acts s (inner_of old) (with_piece (serving_of old s) piece) act (doing_of new) (inner_of new) w → Keeps old new s (Some w) → IsOpened tell max s old past → Standing tell max s new (past ++ told (Packet s i piece) act) act
came acts tell tells max s i piece old new past act w serves keeps is =
    let stopped = served acts tell tells max s (inner_of old) (with_piece (serving_of old s) piece) (bytes_on s past ++ piece) act (doing_of new) (inner_of new) w
    (fed_more max s (serving_of old s) (bytes_on s past) piece (tell (inner_of old)) is.serving) serves in
    During w keeps.this
    (with_bytes max s w (bytes_on s past ++ piece) (bytes_on s (past ++ told (Packet s i piece) act)) (tell (inner_of new)) (bytes_packet s i piece act past) stopped.serving)
    stopped.phase

was_closed : {H : Type 0} (acts : Acts H) (tell : H → Log) → Tells acts tell → (max s : ℕ) (old new : HttpWorker H) (past : Log) (act : Act)
    → Passes acts old (EventGiven (Closed s)) act new → Keeps old new s None → IsOpened tell max s old past → Standing tell max s new (past ++ told (Closed s) act) act
was_closed acts tell tells max s old new past act passes keeps is =
    let none : packets_in (told_of s (told (Closed s) act)) ≡ [] = ap packets_in (told_closed s act) in
    Behind (serving_of old s) (told_of s past) (told_append s past (told (Closed s) act) ∙ ap (λ (l : List Event). told_of s past ++ l) (told_closed s act)) keeps.this
    (with_bytes max s (serving_of old s) (bytes_on s past) (bytes_on s (past ++ told (Closed s) act)) (tell (inner_of new)) (bytes_none s past (told (Closed s) act) none)
    (with_log max s (serving_of old s) (bytes_on s past) (tell (inner_of old)) (tell (inner_of new)) (passed_on acts tell tells s (inner_of old) (inner_of new) (EventGiven (Closed s)) act none passes.acted) is.serving))
    is.idle

-- what passes through beside the session
beside : {H : Type 0} (acts : Acts H) (tell : H → Log) → Tells acts tell → (s : ℕ) (old new : HttpWorker H) (given : Given) (last act : Act)
    → told_of s ((given, act) ∷ []) ≡ [] → kept_of new s ≡ kept_of old s → Passes acts old given act new → ((v : Serving) → Phase s (doing_of old) last v → IsIdle v) → IsQuiet tell s old new last act ((given, act) ∷ [])
beside acts tell tells s old new given last act untold kept passes idle = record {
  untold = untold;
  kept = kept;
  handled = passed_on acts tell tells s (inner_of old) (inner_of new) given act (ap packets_in untold) passes.acted;
  phase = λ v is phase. idle_phase s (doing_of new) act v passes.doing (idle v phase);
}

not_same : (u s : ℕ) → ¬ (u ≡ s) → ¬ (s ≡ u)
not_same u s ne e = ne (sym e)

-- no Closed was told yet where this event is
not_closed : (s : ℕ) (past rest : Log) (entry : Log) (y : Event) → told_of s entry ≡ y ∷ [] → ClosedLast (told_of s ((past ++ entry) ++ rest)) → (es : List Event) → told_of s past ≡ es ++ Closed s ∷ [] → ⊥
not_closed s past rest entry y is last es ends =
    let whole : told_of s ((past ++ entry) ++ rest) ≡ es ++ Closed s ∷ y ∷ told_of s rest =
    told_append s (past ++ entry) rest ∙ ap (λ (l : List Event). l ++ told_of s rest) (told_append s past entry ∙ ap (λ (l : List Event). l ++ told_of s entry) ends ∙ ap (λ (l : List Event). (es ++ Closed s ∷ []) ++ l) is)
    ∙ append_assoc (es ++ Closed s ∷ []) (y ∷ []) (told_of s rest) ∙ append_assoc es (Closed s ∷ []) (y ∷ told_of s rest) in
    closed_is_last es s y (told_of s rest) (subst ClosedLast whole last)

on_event : {H : Type 0} (acts : Acts H) (tell : H → Log) → Tells acts tell → (max s : ℕ) → 0 < max → (old new : HttpWorker H) (past rest : Log) (last : Act) (e : Event) (act : Act)
    → max_of old ≡ max → is_done last ≡ true → ClosedLast (told_of s ((past ++ told e act) ++ rest)) → OnEvent acts old e act new → Standing tell max s old past last → Standing tell max s new (past ++ told e act) act
on_event acts tell tells max s fit old new past rest last (Connect u) act same done ends on is = elim (equal_or_not u s) [
  | inl e ↦
      let keeps : Keeps old new s (Some (serving_of old s)) = subst (λ x. Keeps old new x (Some (serving_of old x))) e on.1 in
      let passes : Passes acts old (EventGiven (Connect s)) act new = subst (λ x. Passes acts old (EventGiven (Connect x)) act new) e on.0 in
      let ends_here : ClosedLast (told_of s ((past ++ told (Connect s) act) ++ rest)) = subst (λ x. ClosedLast (told_of s ((past ++ told (Connect x) act) ++ rest))) e ends in
      subst (λ x. Standing tell max s new (past ++ told (Connect x) act) act) (sym e)
      (connected acts tell tells max s old new past act passes keeps
      (opened tell max s old past last fit same done (not_closed s past rest (told (Connect s) act) (Connect s) (told_connect s act) ends_here) is))
  | inr ne ↦
      quiet tell max s old new past (told (Connect u) act) last act
      (beside acts tell tells s old new (EventGiven (Connect u)) last act (other_connect u s act ne) (on.1.others s (not_same u s ne)) on.0 (λ v phase. phase_idle s (doing_of old) last v done phase)) is
]
on_event acts tell tells max s fit old new past rest last (Packet u i piece) act same done ends (w, serves, keeps) is = elim (equal_or_not u s) [
  | inl e ↦
      let keeps_it : Keeps old new s (Some w) = subst (λ x. Keeps old new x (Some w)) e keeps in
      let serves_it : Serves acts s (inner_of old) (with_piece (serving_of old s) piece) act (doing_of new) (inner_of new) w =
      subst (λ x. Serves acts x (inner_of old) (with_piece (serving_of old x) piece) act (doing_of new) (inner_of new) w) e serves in
      let ends_here : ClosedLast (told_of s ((past ++ told (Packet s i piece) act) ++ rest)) = subst (λ x. ClosedLast (told_of s ((past ++ told (Packet x i piece) act) ++ rest))) e ends in
      subst (λ x. Standing tell max s new (past ++ told (Packet x i piece) act) act) (sym e)
      (came acts tell tells max s i piece old new past act w serves_it keeps_it
      (opened tell max s old past last fit same done (not_closed s past rest (told (Packet s i piece) act) (Packet s i piece) (told_packet s i piece act) ends_here) is))
  | inr ne ↦
      quiet tell max s old new past (told (Packet u i piece) act) last act (record {
        untold = other_packet u s i piece act ne;
        kept = keeps.others s (not_same u s ne);
        handled = other_serves acts tell tells u s (inner_of old) (with_piece (serving_of old u) piece) act (doing_of new) (inner_of new) w ne serves;
        phase = λ v kept phase. other_phase acts u s (inner_of old) (with_piece (serving_of old u) piece) v act (doing_of new) (inner_of new) w serves (phase_idle s (doing_of old) last v done phase);
      }) is
]
on_event acts tell tells max s fit old new past rest last (Closed u) act same done ends on is = elim (equal_or_not u s) [
  | inl e ↦
      let keeps : Keeps old new s None = subst (λ x. Keeps old new x None) e on.1 in
      let passes : Passes acts old (EventGiven (Closed s)) act new = subst (λ x. Passes acts old (EventGiven (Closed x)) act new) e on.0 in
      let ends_here : ClosedLast (told_of s ((past ++ told (Closed s) act) ++ rest)) = subst (λ x. ClosedLast (told_of s ((past ++ told (Closed x) act) ++ rest))) e ends in
      subst (λ x. Standing tell max s new (past ++ told (Closed x) act) act) (sym e)
      (was_closed acts tell tells max s old new past act passes keeps
      (opened tell max s old past last fit same done (not_closed s past rest (told (Closed s) act) (Closed s) (told_closed s act) ends_here) is))
  | inr ne ↦
      quiet tell max s old new past (told (Closed u) act) last act
      (beside acts tell tells s old new (EventGiven (Closed u)) last act (other_closed u s act ne) (on.1.others s (not_same u s ne)) on.0 (λ v phase. phase_idle s (doing_of old) last v done phase)) is
]
on_event acts tell tells max s fit old new past rest last (Finish id b) act same done ends on is =
    quiet tell max s old new past (told (Finish id b) act) last act
    (beside acts tell tells s old new (EventGiven (Finish id b)) last act refl (on.1 s) on.0 (λ v phase. phase_idle s (doing_of old) last v done phase)) is
on_event acts tell tells max s fit old new past rest last (Task x id b) act same done ends on is =
    quiet tell max s old new past (told (Task x id b) act) last act
    (beside acts tell tells s old new (EventGiven (Task x id b)) last act refl (on.1 s) on.0 (λ v phase. phase_idle s (doing_of old) last v done phase)) is

-- ---- an answer

-- a handler that acts alone, and isn't in the middle of requests
alone : {H : Type 0} (tell : H → Log) (s : ℕ) (old new : HttpWorker H) (doing was : Doing) (a : Answer) (last act : Act)
    → doing_of old ≡ was → ((v : Serving) → Phase s was last v → IsIdle v) → ((v : Serving) → IsIdle v → Phase s doing act v) → ActsAlone old new doing → IsQuiet tell s old new last act ((AnswerGiven a, act) ∷ [])
alone tell s old new doing was a last act at idle phase acts = record {
  untold = refl;
  kept = acts.kept s;
  handled = ap (λ h. Handled (tell h) s) acts.inner;
  phase = λ v kept before. subst (λ d. Phase s d act v) (sym acts.doing_is) (phase v (idle v (subst (λ d. Phase s d last v) at before)));
}

none_some : {A : Type 0} (o : Option A) (x : A) → o ≡ None → o ≡ Some x → ⊥
none_some o x a b = let e : None ≡ Some x = sym a ∙ b in cc

some_same : {A : Type 0} (o : Option A) (x y : A) → o ≡ Some x → o ≡ Some y → x ≡ y
some_same o x y a b = let e : Some x ≡ Some y = sym a ∙ b in cc

-- the requests of this session go on
serving_on : {H : Type 0} (acts : Acts H) (tell : H → Log) → Tells acts tell → (max s : ℕ) (old mid new : HttpWorker H) (past : Log) (last : Act) (a : Answer) (act : Act) (x w : Serving)
    → kept_of mid s ≡ Some x → KeepsAll old mid → Handled (tell (inner_of mid)) s ≡ Handled (tell (inner_of old)) s → Keeps mid new s (Some w)
    → Serves acts s (inner_of mid) x act (doing_of new) (inner_of new) w → Standing tell max s old past last → Standing tell max s new (past ++ (AnswerGiven a, act) ∷ []) act
serving_on acts tell tells max s old mid new past last a act x w here kept handled keeps serves (Before none h k) = absurd (none_some (kept_of mid s) x (kept s ∙ k) here)
serving_on acts tell tells max s old mid new past last a act x w here kept handled keeps serves (Behind v es ends k serving idle) = absurd (none_some (kept_of mid s) x (kept s ∙ k) here)
serving_on acts tell tells max s old mid new past last a act x w here kept handled keeps serves (During v k serving phase) =
    let same : x ≡ v = some_same (kept_of mid s) x v here (kept s ∙ k) in
    let at : IsServing max s x (bytes_on s past) (tell (inner_of mid)) =
    subst (λ y. IsServing max s y (bytes_on s past) (tell (inner_of mid))) (sym same) (with_log max s v (bytes_on s past) (tell (inner_of old)) (tell (inner_of mid)) handled serving) in
    let stopped = served acts tell tells max s (inner_of mid) x (bytes_on s past) act (doing_of new) (inner_of new) w at serves in
    During w keeps.this (with_bytes max s w (bytes_on s past) (bytes_on s (past ++ (AnswerGiven a, act) ∷ [])) (tell (inner_of new)) (bytes_none s past ((AnswerGiven a, act) ∷ []) refl) stopped.serving) stopped.phase

-- behind an answer of the handler with which it is done, the next requests are given
next_by : {H : Type 0} (acts : Acts H) (tell : H → Log) → Tells acts tell → (max s u : ℕ) (old mid new : HttpWorker H) (past : Log) (last : Act) (a : Answer) (act : Act) (o : Option Serving)
    → kept_of mid u ≡ o → doing_of old ≡ doings.Serving u → KeepsAll old mid → Handled (tell (inner_of mid)) s ≡ Handled (tell (inner_of old)) s
    → ServesKept acts mid u o act new → Standing tell max s old past last → Standing tell max s new (past ++ (AnswerGiven a, act) ∷ []) act
next_by acts tell tells max s u old mid new past last a act None kept_is doing kept handled (done, passing, inner, all) is =
    quiet tell max s old new past ((AnswerGiven a, act) ∷ []) last act (record {
      untold = refl;
      kept = all s ∙ kept s;
      handled = ap (λ h. Handled (tell h) s) inner ∙ handled;
      phase = λ v has phase.
          let before : Phase s (doings.Serving u) last v = subst (λ d. Phase s d last v) doing phase in
          idle_phase s (doing_of new) act v passing
          (before.1 (λ e. none_some (kept_of mid s) v (subst (λ x. kept_of mid x ≡ None) e kept_is) (kept s ∙ has)));
    }) is
next_by acts tell tells max s u old mid new past last a act (Some x) kept_is doing kept handled (w, serves, keeps) is = elim (equal_or_not u s) [
  | inl e ↦
      let here : kept_of mid s ≡ Some x = subst (λ y. kept_of mid y ≡ Some x) e kept_is in
      let keeps_it : Keeps mid new s (Some w) = subst (λ y. Keeps mid new y (Some w)) e keeps in
      let serves_it : Serves acts s (inner_of mid) x act (doing_of new) (inner_of new) w = subst (λ y. Serves acts y (inner_of mid) x act (doing_of new) (inner_of new) w) e serves in
      serving_on acts tell tells max s old mid new past last a act x w here kept handled keeps_it serves_it is
  | inr ne ↦
      quiet tell max s old new past ((AnswerGiven a, act) ∷ []) last act (record {
        untold = refl;
        kept = keeps.others s (not_same u s ne) ∙ kept s;
        handled = other_serves acts tell tells u s (inner_of mid) x act (doing_of new) (inner_of new) w ne serves ∙ handled;
        phase = λ v has phase.
            let before : Phase s (doings.Serving u) last v = subst (λ d. Phase s d last v) doing phase in
            other_phase acts u s (inner_of mid) x v act (doing_of new) (inner_of new) w serves (before.1 ne);
      }) is
]

goes_on_by : {H : Type 0} (acts : Acts H) (tell : H → Log) → Tells acts tell → (max s u : ℕ) (old new : HttpWorker H) (past : Log) (last : Act) (a : Answer) (act : Act) (g : GoesOn acts old u (AnswerGiven a) act new)
    → (is_done g.own ≡ true) ⊎ (is_done g.own ≡ false) → doing_of old ≡ doings.Serving u → Standing tell max s old past last → Standing tell max s new (past ++ (AnswerGiven a, act) ∷ []) act
goes_on_by acts tell tells max s u old new past last a act g (inl done) doing is =
    next_by acts tell tells max s u old g.handler new past last a act (kept_of g.handler u) refl doing g.kept
    (passed_on acts tell tells s (inner_of old) (inner_of g.handler) (AnswerGiven a) g.own refl g.acted) (g.done done) is
goes_on_by acts tell tells max s u old new past last a act g (inr busy) doing is =
    let own = g.busy busy in
    quiet tell max s old new past ((AnswerGiven a, act) ∷ []) last act (record {
      untold = refl;
      kept = ap (λ w. kept_of w s) own.1 ∙ g.kept s;
      handled = ap (λ w. Handled (tell (inner_of w)) s) own.1 ∙ passed_on acts tell tells s (inner_of old) (inner_of g.handler) (AnswerGiven a) g.own refl g.acted;
      phase = λ v has phase.
          let before : Phase s (doings.Serving u) last v = subst (λ d. Phase s d last v) doing phase in
          subst (λ d. Phase s d act v) (sym (ap doing_of own.1 ∙ g.doing ∙ doing)) (ap is_done own.0 ∙ busy, before.1);
    }) is

on_answer : {H : Type 0} (acts : Acts H) (tell : H → Log) → Tells acts tell → (max s : ℕ) (old new : HttpWorker H) (past : Log) (last : Act) (a : Answer) (act : Act) (was : Doing)
    → doing_of old ≡ was → OnAnswer acts old (AnswerGiven a) act new was → Standing tell max s old past last → Standing tell max s new (past ++ (AnswerGiven a, act) ∷ []) act
on_answer acts tell tells max s old new past last a act doings.Passing at on is =
    quiet tell max s old new past ((AnswerGiven a, act) ∷ []) last act (beside acts tell tells s old new (AnswerGiven a) last act refl (on.1 s) on.0 (λ v phase. subst (λ d. Phase s d last v) at phase)) is
on_answer acts tell tells max s old new past last a act (doings.Serving u) at on is = goes_on_by acts tell tells max s u old new past last a act on (bool_cases (is_done on.own)) at is
on_answer acts tell tells max s old new past last a act (doings.Refusing u) at on is =
    quiet tell max s old new past ((AnswerGiven a, act) ∷ []) last act (alone tell s old new doings.Closing (doings.Refusing u) a last act at (λ v idle. idle) (λ v idle. idle) on.1) is
on_answer acts tell tells max s old new past last a act doings.Closing at on is =
    quiet tell max s old new past ((AnswerGiven a, act) ∷ []) last act (alone tell s old new doings.Passing doings.Closing a last act at (λ v idle. idle) (λ v idle. idle) on.1) is

-- ---- all of a log

on_given : {H : Type 0} (acts : Acts H) (tell : H → Log) → Tells acts tell → (max s : ℕ) → 0 < max → (old new : HttpWorker H) (past rest : Log) (last : Act) (given : Given) (act : Act)
    → max_of old ≡ max → MayFollow last given → ClosedLast (told_of s ((past ++ (given, act) ∷ []) ++ rest)) → OnGiven acts old given act new → Standing tell max s old past last → Standing tell max s new (past ++ (given, act) ∷ []) act
on_given acts tell tells max s fit old new past rest last (EventGiven e) act same may ends on is = on_event acts tell tells max s fit old new past rest last e act same (event_after last e may) ends on is
on_given acts tell tells max s fit old new past rest last (AnswerGiven a) act same may ends on is = on_answer acts tell tells max s old new past last a act (doing_of old) refl on is

stands : {H : Type 0} (acts : Acts H) (tell : H → Log) → Tells acts tell → (max s : ℕ) → 0 < max → (past log : Log) (last : Act) (old new : HttpWorker H)
    → max_of old ≡ max → DialogueAfter last log → ClosedLast (told_of s (past ++ log)) → Follows (Works acts) old log new → Standing tell max s old past last → Standing tell max s new (past ++ log) (last_of last log)
stands acts tell tells max s fit past [] last old new same talk ends follows is =
    subst (λ (l : Log). Standing tell max s new l last) (sym (append-nil past)) (subst (λ w. Standing tell max s w past last) follows is)
stands acts tell tells max s fit past (x ∷ log) last old new same talk ends (mid, works, follows) is =
    let split : (past ++ x ∷ []) ++ log ≡ past ++ x ∷ log = append_assoc past (x ∷ []) log in
    let ends_here : ClosedLast (told_of s ((past ++ x ∷ []) ++ log)) = subst (λ (l : Log). ClosedLast (told_of s l)) (sym split) ends in
    subst (λ (l : Log). Standing tell max s new l (last_of x.1 log)) split
    (stands acts tell tells max s fit (past ++ x ∷ []) log x.1 mid new (works.max ∙ same) talk.1 ends_here follows
    (on_given acts tell tells max s fit old mid past log last x.0 x.1 same talk.0 ends_here works.on is))

-- where a session stands behind a log that is a dialogue
pub has_run : {H : Type 0} (acts : Acts H) (tell : H → Log) → Tells acts tell → (max s : ℕ) (log : Log) (w : HttpWorker H) → DialogueAfter Done log → ClosedLast (told_of s log) → Ran acts tell max log w → Standing tell max s w log (last_of Done log)
has_run acts tell tells max s log w talk ends ran =
    stands acts tell tells max s ran.fit [] log Done ran.first w ran.made.max_is talk ends ran.follows (Before refl (ap (λ (l : Log). Handled l s) ran.empty) (ran.made.nothing s))
