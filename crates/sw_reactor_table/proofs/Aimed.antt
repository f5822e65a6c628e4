-- What was pushed of a connection to each worker.
use Rattle.std.proofs.Common.{◌≡◌, ◌⊎◌, ℕ, ◌+◌, ◌==◌, Bool, true, false, if◌then◌else◌, List, [], ◌∷◌, ◌++◌, take, refl, ap, ◌∙◌, sym, subst, append-nil, Option, inl, inr}
use Rattle.sw_conn.specs.declared.conn.Phase.{Phase}
use Rattle.sw_conn.specs.declared.conn.Phase.TheVariants.{Coming, Open, Closing}
use Rattle.sw_conn.specs.Modes.{bound}
use Rattle.sw_lists.specs.Lists.{collect, IsPrefix, Each, when}
use Rattle.sw_lists.proofs.Lists.{eq_same, eq_is, bool_cases, collect-append, each_append, each_collect, each_all}
use Rattle.sw_step.specs.declared.actor.ActorId.{ActorId}
use Rattle.sw_step.specs.declared.actor.ActorId.TheVariants.{Worker}
use Rattle.sw_step.specs.Actors.{is}
use Rattle.sw_record.specs.Words.{Event, Connect, Packet, Closed, Finish, Task, Cause}
use Rattle.sw_record.specs.Terms.{Terms, keeps, packets_cut}
use Rattle.sw_record.specs.Logs.{of_session}
use Rattle.sw_record.specs.Order.{target}
use Rattle.sw_past.specs.Messages.{Message, FreshMsg, SendMsg, CloseMsg, ResetMsg, Bye, EventMsg, OverMsg, NoMore}
use Rattle.sw_past.specs.Past.{Mail, of, with}
use Rattle.sw_past.specs.Views.{story_in, due}
use Rattle.sw_join.specs.Laws.{streams, LastDue}
use Rattle.sw_join.specs.Aims.{packets_from, story, KeptAim, KeptEnd}
use Rattle.sw_join.proofs.Routes.{one_sender, other_sender}
use Rattle.sw_reactor_table.specs.Conn.{Conn}
use Rattle.sw_reactor_table.specs.Quiet.{told_by, IsAimed, IsPhase, Tale, TaleOf, IsOver}
use Rattle.sw_reactor_table.specs.Modes.{ModeLaws}
use Rattle.sw_reactor_table.proofs.Tale.{own_closed}

-- modes 2 and 4: to the target alone
abbrev AimedAt : Terms → ℕ → ℕ → ActorId × Message → Type 0
AimedAt t ip s e = (story_in s e.1 ≡ []) ⊎ (e.0 ≡ Worker (target t s ip))

aimed_list : (t : Terms) (ip s uid split : ℕ) (to : ActorId) (es : List Event) → keeps t.mode ≡ true → Each (IsAimed t ip s uid split to) es → (es ≡ []) ⊎ (to ≡ Worker (target t s ip))
aimed_list t ip s uid split to [] k h = inl refl
aimed_list t ip s uid split to (e ∷ es) k h = inr (h.0.0 k)

aimed_all : (t : Terms) (ip s uid split : ℕ) (pushed : Mail) → keeps t.mode ≡ true → Each (λ (e : ActorId × Message). Each (IsAimed t ip s uid split e.0) (story_in s e.1)) pushed → Each (AimedAt t ip s) pushed
aimed_all t ip s uid split [] k h = tt
aimed_all t ip s uid split (e ∷ es) k h = (aimed_list t ip s uid split e.0 (story_in s e.1) k h.0, aimed_all t ip s uid split es k h.1)

pub at_target : (t : Terms) (ip s uid split : ℕ) (ps : List (List ℕ)) (taken n : ℕ) (cause : Option Cause) (phase : Phase) (pushed : Mail) → keeps t.mode ≡ true → Tale t ip s uid split ps taken n cause phase pushed → streams s pushed (target t s ip) ≡ told_by t s phase n ps
at_target t ip s uid split ps taken n cause phase pushed k a = one_sender (story_in s) (Worker (target t s ip)) pushed (aimed_all t ip s uid split pushed k a.aimed) ∙ a.told

pub at_others : (t : Terms) (ip s uid split : ℕ) (ps : List (List ℕ)) (taken n : ℕ) (cause : Option Cause) (phase : Phase) (pushed : Mail) → keeps t.mode ≡ true → Tale t ip s uid split ps taken n cause phase pushed → (w : ℕ) → ¬ (w ≡ target t s ip) → streams s pushed w ≡ []
at_others t ip s uid split ps taken n cause phase pushed k a w other = other_sender (story_in s) (Worker (target t s ip)) (Worker w) pushed (λ q. other (same w (target t s ip) q)) (aimed_all t ip s uid split pushed k a.aimed)
  where
    same : (x y : ℕ) → Worker x ≡ Worker y → x ≡ y
    same x y q = cc

kept_bound : (t : Terms) → keeps t.mode ≡ true → bound t.mode ≡ true
kept_bound t k = rw k refl

told_begins : (t : Terms) (s : ℕ) (phase : Phase) (cause : Option Cause) (n : ℕ) (ps : List (List ℕ)) → bound t.mode ≡ true → IsPhase t phase cause n → IsPrefix (told_by t s phase n ps) (story s (take n (packets_cut t ps)))
told_begins t s Coming cause n ps b i = subst (λ (m : ℕ). IsPrefix (packets_from s 0 (take m (packets_cut t ps))) (story s (take m (packets_cut t ps)))) (sym (i b)) (story s [], refl)
told_begins t s Open cause n ps b i = (Closed s ∷ [], refl)
told_begins t s Closing cause n ps b i = ([], append-nil (story s (take n (packets_cut t ps))))

-- a message without an event of it changes no stream
pub streams_skip : (s : ℕ) (pushed : Mail) (x : ActorId × Message) (w : ℕ) → story_in s x.1 ≡ [] → streams s (pushed ++ x ∷ []) w ≡ streams s pushed w
streams_skip s pushed x w none =
    ap (collect (story_in s)) (collect-append (with (Worker w)) pushed (x ∷ []))
    ∙ collect-append (story_in s) (of (Worker w) pushed) (when (is x.0 (Worker w)) x.1 ++ [])
    ∙ ap (λ es. streams s pushed w ++ es) (pick (is x.0 (Worker w)))
    ∙ append-nil (streams s pushed w)
  where
    pick : (b : Bool) → collect (story_in s) (when b x.1 ++ []) ≡ []
    pick true = append-nil (story_in s x.1) ∙ none
    pick false = refl

pub kept_laws : (t : Terms) → keeps t.mode ≡ true → ModeLaws t (KeptAim t) (KeptEnd t)
kept_laws t k =
    record {
      live = λ ip s uid split ps taken n cause phase pushed a written d. record { count = n; there = begins ip s uid split ps taken n cause phase pushed a; elsewhere = at_others t ip s uid split ps taken n cause phase pushed k a };
      back = λ ip s uid split ps taken n cause phase pushed a written d. record { count = n; there = begins ip s uid split ps taken n cause phase pushed a; elsewhere = at_others t ip s uid split ps taken n cause phase pushed k a };
      over = λ c pushed a e o u r. (record { count = c.dispatched; there = begins c.ip c.session c.uid c.split c.pieces c.taken c.dispatched c.cause c.phase pushed a; elsewhere = at_others t c.ip c.session c.uid c.split c.pieces c.taken c.dispatched c.cause c.phase pushed k a }, at_target t c.ip c.session c.uid c.split c.pieces c.taken c.dispatched c.cause c.phase pushed k a ∙ ap (λ (p : Phase). told_by t c.session p c.dispatched c.pieces) (o.closed (kept_bound t k)));
      skip_aim = λ s l pushed x none a. record { count = a.count; there = subst (λ es. IsPrefix es (story s (take a.count (packets_cut t l.pieces)))) (sym (streams_skip s pushed x (target t s l.ip) none)) a.there; elsewhere = λ w other. streams_skip s pushed x w none ∙ a.elsewhere w other };
      skip_whole = λ s l e pushed x none h. streams_skip s pushed x (target t s l.ip) none ∙ h;
    }
  where
    begins : (ip s uid split : ℕ) (ps : List (List ℕ)) (taken n : ℕ) (cause : Option Cause) (phase : Phase) (pushed : Mail) → Tale t ip s uid split ps taken n cause phase pushed → IsPrefix (streams s pushed (target t s ip)) (story s (take n (packets_cut t ps)))
    begins ip s uid split ps taken n cause phase pushed a = subst (λ es. IsPrefix es (story s (take n (packets_cut t ps)))) (sym (at_target t ip s uid split ps taken n cause phase pushed k a)) (told_begins t s phase cause n ps (kept_bound t k) a.in_phase)

-- the last event of a connection that leaves awaits a Bye
last_of : (t : Terms) (s n : ℕ) (bs : List (List ℕ)) → LastDue t s (packets_from s n bs ++ Closed s ∷ [])
last_of t s n [] = own_closed s
last_of t s n (b ∷ []) = own_closed s
last_of t s n (b ∷ c ∷ bs) = last_of t s (n + 1) (c ∷ bs)

last_story : (t : Terms) (s : ℕ) (bs : List (List ℕ)) → LastDue t s (story s bs)
last_story t s [] = own_closed s
last_story t s (b ∷ bs) = last_of t s 0 (b ∷ bs)

last_each : (t : Terms) (s : ℕ) (es : List Event) → Each (λ e. due t s e ≡ e ∷ []) es → LastDue t s es
last_each t s [] h = tt
last_each t s (e ∷ []) h = h.0
last_each t s (e ∷ f ∷ es) h = last_each t s (f ∷ es) h.1

own_due : (t : Terms) (s u : ℕ) (e : Event) → keeps t.mode ≡ false → ((u == s) ≡ true → due t s e ≡ e ∷ []) → Each (λ f. due t s f ≡ f ∷ []) (when (u == s) e)
own_due t s u e k h = pick (u == s) refl
  where
    pick : (b : Bool) → (u == s) ≡ b → Each (λ f. due t s f ≡ f ∷ []) (when b e)
    pick true q = (h q, tt)
    pick false q = tt

event_due : (t : Terms) (s : ℕ) (e : Event) → keeps t.mode ≡ false → Each (λ f. due t s f ≡ f ∷ []) (of_session s e)
event_due t s (Connect u) k = own_due t s u (Connect u) k (λ q. ap (λ (b : Bool). if b then [] else when (u == s) (Connect u)) k ∙ ap (λ (b : Bool). when b (Connect u)) q)
event_due t s (Packet u i c) k = own_due t s u (Packet u i c) k (λ q. ap (λ (b : Bool). if b then [] else when (u == s) (Packet u i c)) k ∙ ap (λ (b : Bool). when b (Packet u i c)) q)
event_due t s (Closed u) k = own_due t s u (Closed u) k (λ q. ap (λ (b : Bool). when b (Closed u)) q)
event_due t s (Finish id b) k = tt
event_due t s (Task w id b) k = tt

msg_due : (t : Terms) (s : ℕ) → keeps t.mode ≡ false → (m : Message) → Each (λ f. due t s f ≡ f ∷ []) (story_in s m)
msg_due t s k (FreshMsg ip u) = tt
msg_due t s k (SendMsg u b) = tt
msg_due t s k (CloseMsg u) = tt
msg_due t s k (ResetMsg u) = tt
msg_due t s k (Bye u) = tt
msg_due t s k (EventMsg e) = each_append (λ f. due t s f ≡ f ∷ []) (of_session s e) [] (event_due t s e k) tt
msg_due t s k (OverMsg id) = tt
msg_due t s k NoMore = tt

streams_due : (t : Terms) (s : ℕ) → keeps t.mode ≡ false → (ms : List Message) → Each (λ f. due t s f ≡ f ∷ []) (collect (story_in s) ms)
streams_due t s k ms = each_collect (λ f. due t s f ≡ f ∷ []) (story_in s) ms (each_all (λ m. Each (λ f. due t s f ≡ f ∷ []) (story_in s m)) ms (msg_due t s k))

pub last_due : (t : Terms) (c : Conn) (pushed : Mail) (e : Cause) → TaleOf t c pushed → IsOver t c e → (w : ℕ) → LastDue t c.session (streams c.session pushed w)
last_due t c pushed e a o w = elim (bool_cases (keeps t.mode)) [ inl k ↦ kept k (w == target t c.session c.ip) refl | inr k ↦ last_each t c.session (streams c.session pushed w) (streams_due t c.session k (of (Worker w) pushed)) ]
  where
    kept : keeps t.mode ≡ true → (b : Bool) → (w == target t c.session c.ip) ≡ b → LastDue t c.session (streams c.session pushed w)
    kept k true q =
        subst (λ (v : ℕ). LastDue t c.session (streams c.session pushed v)) (sym (eq_is w (target t c.session c.ip) q))
        (subst (LastDue t c.session) (sym (at_target t c.ip c.session c.uid c.split c.pieces c.taken c.dispatched c.cause c.phase pushed k a ∙ ap (λ (p : Phase). told_by t c.session p c.dispatched c.pieces) (o.closed (kept_bound t k)))) (last_story t c.session (take c.dispatched (packets_cut t c.pieces))))
    kept k false q = subst (LastDue t c.session) (sym (at_others t c.ip c.session c.uid c.split c.pieces c.taken c.dispatched c.cause c.phase pushed k a w (λ r. absurd (let g : true ≡ false = sym (eq_same w (target t c.session c.ip) r) ∙ q in cc)))) tt
