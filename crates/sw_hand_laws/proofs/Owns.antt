-- Each move keeps what is said of own sessions, and all grows.
use Rattle.std.proofs.Common.{◌≡◌, ◌⊎◌, ℕ, ◌%◌, ◌==◌, Bool, true, false, if◌then◌else◌, List, [], ◌∷◌, ◌++◌, refl, ap, ◌∙◌, sym, subst, Option, Some, None, inl, inr, suc}
use Rattle.sw_lists.specs.Lists.{collect, Each, when}
use Rattle.sw_lists.proofs.Lists.{collect-append, append_none, eq_is, eq_same, prefix_refl, prefix_front}
use Rattle.sw_step.specs.declared.actor.ActorId.{ActorId}
use Rattle.sw_step.specs.declared.actor.ActorId.TheVariants.{Door, Reactor, Worker, Tasker}
use Rattle.sw_record.specs.Words.{Event, Connect, Packet, Closed, Finish, Task, Act, TaskAct, Done, Answer, TaskFull, EventGiven, AnswerGiven, Log}
use Rattle.sw_record.specs.Terms.{Terms, keeps}
use Rattle.sw_record.specs.Logs.{told_of, of_session, connect_in}
use Rattle.sw_record.specs.Order.{ConnectFirst}
use Rattle.sw_record.specs.Fits.{is_some, is_of, at_fd, own_with, own_behind, own_without}
use Rattle.sw_past.specs.Messages.{Message, Bye, NoMore, EventMsg}
use Rattle.sw_past.specs.Past.{Mail, bare}
use Rattle.sw_past.specs.Views.{byes_in}
use Rattle.sw_join.proofs.Own.{own}
use Rattle.sw_hand_laws.specs.Hand.{Got, Ports, Stage, Idle, Acting, Sending, Leaving, Stopping, Stopped, Hand, last_words, bye_of, bye_to, over_of, say, hear, skip, settle, answered, left_event, goodbye, turn}
use Rattle.sw_hand_laws.specs.Keeps.{Carried, CSend, CClose, CReset, CPost, CGive, now}
use Rattle.sw_hand_laws.specs.Moved.{Moved, Waits, Answers, Aims, Sends, Fulls, Hears, Skips, Overs, Leaves, Lefts, Stops, Nones, SkipStops, SkipNones, Nexts, Lasts, Holds, PortsFit}
use Rattle.sw_hand_laws.specs.Kept.{Kept, GotFits}
use Rattle.sw_hand_laws.specs.Owns.{Owns, Grown}
use Rattle.sw_hand_laws.proofs.Ends.{bare_collect}
use Rattle.sw_hand_laws.proofs.Showing.{told_it, told_more, told_still, own_less_is}
use Rattle.sw_hand_laws.proofs.Fitting.{holds}
use Rattle.sw_hand_laws.proofs.Moves.{turn_moves}

-- a list whose Connect stands first
first_front : (xs ys : List Event) → ConnectFirst (xs ++ ys) → ConnectFirst xs
first_front [] ys h = tt
first_front (x ∷ xs) ys h = (append_none (collect connect_in xs) (collect connect_in ys) (sym (collect-append connect_in xs ys) ∙ h)).0

first_only : (xs : List Event) (s : ℕ) → ConnectFirst (xs ++ Connect s ∷ []) → xs ≡ []
first_only [] s h = refl
first_only (x ∷ xs) s h = absurd (let r : Connect s ∷ [] ≡ [] = (append_none (collect connect_in xs) (Connect s ∷ []) (sym (collect-append connect_in xs (Connect s ∷ [])) ∙ h)).1 in cc)

-- a message that is no Bye of s
no_bye : (s : ℕ) (pushed : Mail) (to : ActorId) (m : Message) → byes_in s m ≡ [] → collect (byes_in s) (bare pushed) ≡ [] → collect (byes_in s) (bare (pushed ++ (to, m) ∷ [])) ≡ []
no_bye s pushed to m q h = bare_collect (byes_in s) pushed to m ∙ ap (λ (ns : List ℕ). ns ++ byes_in s m) h ∙ q

carried_bye : (t : Terms) (y : ActorId) (next : ℕ) (e : Event) (act : Act) (to : ActorId) (m : Message) (a : Answer) (s : ℕ) → Carried t y next e act to m a → byes_in s m ≡ []
carried_bye t y next e act to m a s (CSend u b) = refl
carried_bye t y next e act to m a s (CClose u) = refl
carried_bye t y next e act to m a s (CReset u) = refl
carried_bye t y next e act to m a s (CPost w k d b q f r) = refl
carried_bye t y next e act to m a s (CGive w id c b q) = refl

-- last words: a Bye of the event's session, or an Over
abbrev Lasted : Terms → Event → ActorId × Message → Type 0
Lasted t e p = ((u : ℕ) × ((p.1 ≡ Bye u) × ((is_of u e ≡ true) × ((keeps t.mode ≡ false) ⊎ (e ≡ Closed u))))) ⊎ ((s : ℕ) → byes_in s p.1 ≡ [])

bye_lasts : (t : Terms) (e : Event) (u : ℕ) → is_of u e ≡ true → (v : Bool) → keeps t.mode ≡ v → Each (Lasted t e) (if v then [] else bye_to t u)
bye_lasts t e u q true i = tt
bye_lasts t e u q false i = (inl (u, (refl, (q, inl i))), tt)

same_is : (u : ℕ) → (u == u) ≡ true
same_is u = eq_same u u refl

byes_last : (t : Terms) (e : Event) → Each (Lasted t e) (bye_of t e)
byes_last t (Connect u) = bye_lasts t (Connect u) u (same_is u) (keeps t.mode) refl
byes_last t (Packet u i b) = bye_lasts t (Packet u i b) u (same_is u) (keeps t.mode) refl
byes_last t (Closed u) = (inl (u, (refl, (same_is u, inr refl))), tt)
byes_last t (Finish id b) = tt
byes_last t (Task w id b) = tt

overs_last : (t : Terms) (e : Event) → Each (Lasted t e) (over_of e)
overs_last t (Connect u) = tt
overs_last t (Packet u i b) = tt
overs_last t (Closed u) = tt
overs_last t (Finish id b) = tt
overs_last t (Task w id b) = (inr (λ s. refl), tt)

words_last : (t : Terms) (y : ActorId) (e : Event) → Each (Lasted t e) (last_words t y e)
words_last t Door e = byes_last t e
words_last t (Reactor n) e = byes_last t e
words_last t (Worker w) e = byes_last t e
words_last t (Tasker k) e = overs_last t e

first_last : (t : Terms) (e : Event) (p : ActorId × Message) (ps : List (ActorId × Message)) → Each (Lasted t e) (p ∷ ps) → Lasted t e p
first_last t e p ps h = h.0

is_last : (t : Terms) (y : ActorId) (e : Event) (to : ActorId) (m : Message) → last_words t y e ≡ (to, m) ∷ [] → Lasted t e (to, m)
is_last t y e to m q = first_last t e (to, m) [] (subst (Each (Lasted t e)) q (words_last t y e))

-- the own session whose Bye is pushed is given up
given_up : (t : Terms) (own : ℕ → Option ℕ) (s : ℕ) → is_some s (own_without t own s (s % t.max_conn)) ≡ true → ⊥
given_up t own s = outer (is_some s (own (s % t.max_conn))) refl
  where
    outer : (v : Bool) → is_some s (own (s % t.max_conn)) ≡ v → is_some s ((if v then at_fd own (s % t.max_conn) None else own) (s % t.max_conn)) ≡ true → ⊥
    outer true q o = absurd (let r : is_some s (if true then None else own (s % t.max_conn)) ≡ true = subst (λ v. is_some s (if v then None else own (s % t.max_conn)) ≡ true) (same_is (s % t.max_conn)) o in cc)
    outer false q o = absurd (cc)

other_bye : (u s : ℕ) → (u == s) ≡ false → byes_in s (Bye u) ≡ []
other_bye u s q = rw q refl

-- all grows
pub grown_moves : (t : Terms) (y : ActorId) (c : ℕ) (a b : Stage) (f g : Hand) → Moved t y c a f b g → Grown f g
grown_moves t y c a b f g (Waits st h) = record { log = prefix_refl h.log; took = prefix_refl h.took; pushed = prefix_refl h.pushed }
grown_moves t y c a b f g (Answers h e act after ans next may q fit) = record { log = prefix_front h.log ((AnswerGiven ans, next) ∷ []); took = prefix_refl h.took; pushed = prefix_refl h.pushed }
grown_moves t y c a b f g (Aims h e act after to m ans car fit aim) = record { log = prefix_refl h.log; took = prefix_refl h.took; pushed = prefix_refl h.pushed }
grown_moves t y c a b f g (Sends h e act to m ans next) = record { log = prefix_front h.log ((AnswerGiven ans, next) ∷ []); took = prefix_refl h.took; pushed = prefix_front h.pushed ((to, m) ∷ []) }
grown_moves t y c a b f g (Fulls h e d s to m ans after next) = record { log = prefix_front h.log ((AnswerGiven TaskFull, next) ∷ []); took = prefix_refl h.took; pushed = prefix_refl h.pushed }
grown_moves t y c a b f g (Hears h from e act mine) = record { log = prefix_front h.log ((EventGiven e, act) ∷ []); took = prefix_front h.took ((from, EventMsg e) ∷ []); pushed = prefix_refl h.pushed }
grown_moves t y c a b f g (Skips h from m none) = record { log = prefix_refl h.log; took = prefix_front h.took ((from, m) ∷ []); pushed = prefix_refl h.pushed }
grown_moves t y c a b f g (Overs h e none) = record { log = prefix_refl h.log; took = prefix_refl h.took; pushed = prefix_refl h.pushed }
grown_moves t y c a b f g (Leaves h e to m q) = record { log = prefix_refl h.log; took = prefix_refl h.took; pushed = prefix_refl h.pushed }
grown_moves t y c a b f g (Lefts h e to m) = record { log = prefix_refl h.log; took = prefix_refl h.took; pushed = prefix_front h.pushed ((to, m) ∷ []) }
grown_moves t y c a b f g (Stops h) = record { log = prefix_refl h.log; took = prefix_refl h.took; pushed = prefix_refl h.pushed }
grown_moves t y c a b f g (Nones h) = record { log = prefix_refl h.log; took = prefix_refl h.took; pushed = prefix_refl h.pushed }
grown_moves t y c a b f g (SkipStops h from m none) = record { log = prefix_refl h.log; took = prefix_front h.took ((from, m) ∷ []); pushed = prefix_refl h.pushed }
grown_moves t y c a b f g (SkipNones h from m none) = record { log = prefix_refl h.log; took = prefix_front h.took ((from, m) ∷ []); pushed = prefix_refl h.pushed }
grown_moves t y c a b f g (Nexts h j) = record { log = prefix_refl h.log; took = prefix_refl h.took; pushed = prefix_front h.pushed ((goodbye t j, NoMore) ∷ []) }
grown_moves t y c a b f g (Lasts h j) = record { log = prefix_refl h.log; took = prefix_refl h.took; pushed = prefix_front h.pushed ((goodbye t j, NoMore) ∷ []) }

-- own sessions
owns_say : (t : Terms) (log : Log) (pushed : Mail) (own : ℕ → Option ℕ) (e : Event) (a : Answer) (next : Act) (st : Stage) (h g : Hand) → h.log ≡ log → g.log ≡ log ++ (AnswerGiven a, next) ∷ [] → g.own ≡ h.own → now st ≡ e ∷ [] → ((s : ℕ) → collect (byes_in s) (bare h.pushed) ≡ [] → collect (byes_in s) (bare g.pushed) ≡ []) → Owns t st h → Owns t (Acting e next) g
owns_say t log pushed own e a next st h g l m o n b k =
    let same : (s : ℕ) → told_of s g.log ≡ told_of s h.log = λ s. ap (told_of s) m ∙ told_still s log a next ∙ ap (told_of s) (sym l) in
    record {
      current = λ s. subst (λ es. Each (λ x. is_of s x ≡ true → ¬ (told_of s g.log ≡ [])) es) n (subst (λ (ts : List Event). Each (λ x. is_of s x ≡ true → ¬ (ts ≡ [])) (now st)) (sym (same s)) (k.current s));
      heard = λ s q. b s (k.heard s (sym (same s) ∙ q));
      spread = λ q i. ap (λ (w : ℕ → Option ℕ). w i) o ∙ k.spread q i;
      quiet = λ s f i. b s (k.quiet s (subst ConnectFirst (same s) f) (subst (λ (w : ℕ → Option ℕ). is_some s (w (s % t.max_conn)) ≡ true) o i));
    }

hear_quiet : (t : Terms) (own : ℕ → Option ℕ) (told : List Event) (e : Event) (s : ℕ) (Q : Type 0) → (is_some s (own (s % t.max_conn)) ≡ true → Q) → (told ≡ [] → Q) → ConnectFirst (told ++ of_session s e) → is_some s (own_with t own e (s % t.max_conn)) ≡ true → Q
hear_quiet t own told (Connect u) s Q old fresh f o₀ = kept (keeps t.mode) o₀
  where
    slot : (w : Bool) → is_some s (if w then Some u else own (s % t.max_conn)) ≡ true → Q
    slot true o = fresh (first_only told u (subst (λ v. ConnectFirst (told ++ when v (Connect u))) o f))
    slot false o = old o

    kept : (v : Bool) → is_some s ((if v then at_fd own (u % t.max_conn) (Some u) else own) (s % t.max_conn)) ≡ true → Q
    kept true o = slot (s % t.max_conn == u % t.max_conn) o
    kept false o = old o
hear_quiet t own told (Packet u i b) s Q old fresh f o = old o
hear_quiet t own told (Closed u) s Q old fresh f o = old o
hear_quiet t own told (Finish id b) s Q old fresh f o = old o
hear_quiet t own told (Task w id b) s Q old fresh f o = old o

spread_hear : (t : Terms) (own : ℕ → Option ℕ) (e : Event) → keeps t.mode ≡ false → (n : ℕ) → own n ≡ None → own_with t own e n ≡ None
spread_hear t own (Connect s) q n o = (let r : own_with t own (Connect s) n ≡ own n = ap (λ v. (if v then at_fd own (s % t.max_conn) (Some s) else own) n) q in r ∙ o)
spread_hear t own (Packet s i b) q n o = o
spread_hear t own (Closed s) q n o = o
spread_hear t own (Finish id b) q n o = o
spread_hear t own (Task w id b) q n o = o

owns_hear : (t : Terms) (c : ℕ) (h : Hand) (from : ActorId) (e : Event) (act : Act) → Owns t Idle h → Owns t (Acting e act) (hear t c h from e act)
owns_hear t c h from e act k = record {
  current = λ s. ((λ o. told_it s h.log e act o), tt);
  heard = λ s q. k.heard s (append_none (told_of s h.log) (of_session s e) (sym (told_more s h.log e act) ∙ q)).0;
  spread = λ q n. spread_hear t h.own e q n (k.spread q n);
  quiet = λ s f o. (let front : ConnectFirst (told_of s h.log ++ of_session s e) = subst ConnectFirst (told_more s h.log e act) f in hear_quiet t h.own (told_of s h.log) e s (collect (byes_in s) (bare h.pushed) ≡ []) (λ i. k.quiet s (first_front (told_of s h.log) (of_session s e) front) i) (λ q. k.heard s q) front o);
}

-- the last words are pushed
left_bye : (t : Terms) (h : Hand) (e : Event) (to : ActorId) (m : Message) (s : ℕ) → Lasted t e (to, m) → (is_of s e ≡ true → ⊥) → collect (byes_in s) (bare h.pushed) ≡ [] → collect (byes_in s) (bare (h.pushed ++ (to, m) ∷ [])) ≡ []
left_bye t h e to m s (inr f) not b = no_bye s h.pushed to m (f s) b
left_bye t h e to m s (inl (u, (q, (i, c)))) not b = pick (u == s) refl
  where
    pick : (v : Bool) → (u == s) ≡ v → collect (byes_in s) (bare (h.pushed ++ (to, m) ∷ [])) ≡ []
    pick true r = absurd (not (subst (λ w. is_of w e ≡ true) (eq_is u s r) i))
    pick false r = no_bye s h.pushed to m (ap (byes_in s) q ∙ other_bye u s r) b

none_own : (own : ℕ → Option ℕ) (s n : ℕ) → own n ≡ None → is_some s (own n) ≡ true → ⊥
none_own own s n q o = absurd (let r : is_some s None ≡ true = subst (λ (w : Option ℕ). is_some s w ≡ true) q o in cc)

closed_own : (t : Terms) (own : ℕ → Option ℕ) (e : Event) (u s : ℕ) → e ≡ Closed u → u ≡ s → is_some s (own_behind t own (e ∷ []) (s % t.max_conn)) ≡ true → ⊥
closed_own t own e u s q r o = given_up t own s (subst (λ v. is_some s (own_without t own v (s % t.max_conn)) ≡ true) r (subst (λ (x : Event). is_some s (own_behind t own (x ∷ []) (s % t.max_conn)) ≡ true) q o))

left_quiet : (t : Terms) (h : Hand) (e : Event) (to : ActorId) (m : Message) (s : ℕ) → (keeps t.mode ≡ false → (n : ℕ) → h.own n ≡ None) → Lasted t e (to, m) → is_some s (own_behind t h.own (e ∷ []) (s % t.max_conn)) ≡ true → collect (byes_in s) (bare h.pushed) ≡ [] → collect (byes_in s) (bare (h.pushed ++ (to, m) ∷ [])) ≡ []
left_quiet t h e to m s none (inr f) o b = no_bye s h.pushed to m (f s) b
left_quiet t h e to m s none (inl (u, (q, (i, inl k)))) o b = absurd (none_own h.own s (s % t.max_conn) (none k (s % t.max_conn)) (own_less_is t h.own e s o))
left_quiet t h e to m s none (inl (u, (q, (i, inr c)))) o b = pick (u == s) refl
  where
    pick : (v : Bool) → (u == s) ≡ v → collect (byes_in s) (bare (h.pushed ++ (to, m) ∷ [])) ≡ []
    pick true r = absurd (closed_own t h.own e u s c (eq_is u s r) o)
    pick false r = no_bye s h.pushed to m (ap (byes_in s) q ∙ other_bye u s r) b

spread_less : (t : Terms) (own : ℕ → Option ℕ) (s n : ℕ) → ((k : ℕ) → own k ≡ None) → own_without t own s n ≡ None
spread_less t own s n o = (let r : is_some s (own (s % t.max_conn)) ≡ false = ap (is_some s) (o (s % t.max_conn)) in ap (λ v. (if v then at_fd own (s % t.max_conn) None else own) n) r ∙ o n)

spread_left : (t : Terms) (own : ℕ → Option ℕ) (e : Event) (n : ℕ) → ((k : ℕ) → own k ≡ None) → own_behind t own (e ∷ []) n ≡ None
spread_left t own (Connect s) n o = o n
spread_left t own (Packet s i b) n o = o n
spread_left t own (Closed s) n o = spread_less t own s n o
spread_left t own (Finish id b) n o = o n
spread_left t own (Task w id b) n o = o n

owns_left : (t : Terms) (h : Hand) (e : Event) (to : ActorId) (m : Message) → Lasted t e (to, m) → Owns t (Leaving e to m) h → Owns t Idle (left_event t h e to m)
owns_left t h e to m l k = record {
  current = λ s. tt;
  heard = λ s q. left_bye t h e to m s l (λ i. (k.current s).0 i q) (k.heard s q);
  spread = λ q n. spread_left t h.own e n (k.spread q);
  quiet = λ s f o. left_quiet t h e to m s k.spread l o (k.quiet s f (own_less_is t h.own e s o));
}

owns_same : (t : Terms) (st other : Stage) (h g : Hand) → g.log ≡ h.log → g.own ≡ h.own → ((s : ℕ) → collect (byes_in s) (bare h.pushed) ≡ [] → collect (byes_in s) (bare g.pushed) ≡ []) → ((s : ℕ) → Each (λ x. is_of s x ≡ true → ¬ (told_of s g.log ≡ [])) (now other)) → Owns t st h → Owns t other g
owns_same t st other h g l o b n k = record {
  current = n;
  heard = λ s q. b s (k.heard s (ap (told_of s) (sym l) ∙ q));
  spread = λ q i. ap (λ (w : ℕ → Option ℕ). w i) o ∙ k.spread q i;
  quiet = λ s f i. b s (k.quiet s (subst (λ (x : Log). ConnectFirst (told_of s x)) l f) (subst (λ (w : ℕ → Option ℕ). is_some s (w (s % t.max_conn)) ≡ true) o i));
}

pub owns_moves : (t : Terms) (y : ActorId) (c : ℕ) (a b : Stage) (f g : Hand) → Moved t y c a f b g → Holds t y a f → Owns t a f → Owns t b g
owns_moves t y c a b f g (Waits st h) held k = k
owns_moves t y c a b f g (Answers h e act after ans next may q fit) held k = owns_say t h.log h.pushed h.own e ans next (Acting e act) h (say (record h { seen = after }) (AnswerGiven ans) next) refl refl refl refl (λ s z. z) k
owns_moves t y c a b f g (Aims h e act after to m ans car fit aim) held k = owns_same t (Acting e act) (Sending e act to m ans) h (record h { seen = after }) refl refl (λ s z. z) k.current k
owns_moves t y c a b f g (Sends h e act to m ans next) held k = owns_say t h.log h.pushed h.own e ans next (Sending e act to m ans) h (answered h to m ans next) refl refl refl refl (λ s z. no_bye s h.pushed to m (carried_bye t y h.next e act to m ans s held.carries) z) k
owns_moves t y c a b f g (Fulls h e d s to m ans after next) held k = owns_say t h.log h.pushed h.own e TaskFull next (Sending e (TaskAct d s) to m ans) h (say (record h { seen = after }) (AnswerGiven TaskFull) next) refl refl refl refl (λ s z. z) k
owns_moves t y c a b f g (Hears h from e act mine) held k = owns_hear t c h from e act k
owns_moves t y c a b f g (Skips h from m none) held k = owns_same t Idle Idle h (skip h from m) refl refl (λ s z. z) (λ s. tt) k
owns_moves t y c a b f g (Overs h e none) held k = owns_same t (Acting e Done) Idle h h refl refl (λ s z. z) (λ s. tt) k
owns_moves t y c a b f g (Leaves h e to m q) held k = owns_same t (Acting e Done) (Leaving e to m) h h refl refl (λ s z. z) k.current k
owns_moves t y c a b f g (Lefts h e to m) held k = owns_left t h e to m (is_last t y e to m held.carries) k
owns_moves t y c a b f g (Stops h) held k = owns_same t Idle (Stopping 0) h h refl refl (λ s z. z) (λ s. tt) k
owns_moves t y c a b f g (Nones h) held k = owns_same t Idle Stopped h h refl refl (λ s z. z) (λ s. tt) k
owns_moves t y c a b f g (SkipStops h from m none) held k = owns_same t Idle (Stopping 0) h (skip h from m) refl refl (λ s z. z) (λ s. tt) k
owns_moves t y c a b f g (SkipNones h from m none) held k = owns_same t Idle Stopped h (skip h from m) refl refl (λ s z. z) (λ s. tt) k
owns_moves t y c a b f g (Nexts h j) held k = owns_same t (Stopping j) (Stopping (suc j)) h (settle h (goodbye t j) NoMore) refl refl (λ s z. no_bye s h.pushed (goodbye t j) NoMore refl z) (λ s. tt) k
owns_moves t y c a b f g (Lasts h j) held k = owns_same t (Stopping j) Stopped h (settle h (goodbye t j) NoMore) refl refl (λ s z. no_bye s h.pushed (goodbye t j) NoMore refl z) (λ s. tt) k

-- every turn
pub turn_owns : (t : Terms) (y : ActorId) (c : ℕ) (p : Ports) (st : Stage) (h : Hand) (got : Got) → PortsFit t st h p → GotFits t st got → Kept t y st h → Owns t st h → Owns t (turn t y c p st h got).stage (turn t y c p st h got).hand
turn_owns t y c p st h got u f k o = owns_moves t y c st (turn t y c p st h got).stage h (turn t y c p st h got).hand (turn_moves t y c p st h got u f) (holds t y st h k) o

pub turn_grows : (t : Terms) (y : ActorId) (c : ℕ) (p : Ports) (st : Stage) (h : Hand) (got : Got) → PortsFit t st h p → GotFits t st got → Grown h (turn t y c p st h got).hand
turn_grows t y c p st h got u f = grown_moves t y c st (turn t y c p st h got).stage h (turn t y c p st h got).hand (turn_moves t y c p st h got u f)
