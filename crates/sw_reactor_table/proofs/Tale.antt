-- Pushes, pieces, looks and causes keep what was pushed of a connection.
use Rattle.std.proofs.Common.{◌≡◌, ℕ, ◌+◌, ◌<◌, ◌≤◌, ◌==◌, Bool, true, false, nat_lt, if◌then◌else◌, List, [], ◌∷◌, ◌++◌, length, take, refl, ap, ◌∙◌, sym, subst, append-nil, arith, Option, Some, None, slice_get, zero, suc}
use Rattle.std.proofs.lemmas.Bool.Decides.{nat_tests}
use Rattle.std.proofs.lemmas.List.{take-append-le}
use Rattle.std.proofs.lemmas.Option.{slice_get_within}
use Rattle.sw_conn.specs.declared.conn.Phase.{Phase}
use Rattle.sw_conn.specs.declared.conn.Phase.TheVariants.{Coming, Open, Closing}
use Rattle.sw_conn.specs.Modes.{bound}
use Rattle.sw_conn.specs.Conn.{drop_packet}
use Rattle.sw_lists.specs.Lists.{collect, IsPrefix, Each, when}
use Rattle.sw_lists.proofs.Lists.{eq_same, eq_other, each_append, each_left, each_right, prefix_length}
use Rattle.sw_step.specs.declared.actor.ActorId.{ActorId}
use Rattle.sw_step.specs.declared.actor.ActorId.TheVariants.{Worker}
use Rattle.sw_record.specs.Words.{Event, Connect, Packet, Closed, Finish, Task, Cause}
use Rattle.sw_record.specs.Terms.{Terms, keeps, packets_cut}
use Rattle.sw_record.specs.Logs.{of_session}
use Rattle.sw_record.specs.Order.{side}
use Rattle.sw_record.specs.Whole.{IsAllCut}
use Rattle.sw_past.specs.Messages.{Message, FreshMsg, SendMsg, CloseMsg, ResetMsg, Bye, EventMsg, OverMsg, NoMore}
use Rattle.sw_past.specs.Past.{Mail, bare}
use Rattle.sw_past.specs.Views.{story_in, due, due_in}
use Rattle.sw_join.specs.Aims.{packets_from, story}
use Rattle.sw_reactor_table.specs.Quiet.{told_by, side_of, IsSided, IsAimed, HasCause, IsPhase, IsNext, IsReady, IsHeld, Tale, Grows, IsOf}
use Rattle.sw_reactor_table.proofs.Flow.{more_of}

-- the packets with one more
pub packets_more : (s k n : ℕ) (b : List ℕ) (bs : List (List ℕ)) → slice_get bs n ≡ Some b → packets_from s k (take (n + 1) bs) ≡ packets_from s k (take n bs) ++ Packet s (k + n) b ∷ []
packets_more s k zero b [] e = absurd (cc)
packets_more s k zero b (x ∷ bs) e =
    let g : x ≡ b = (let h : Some x ≡ Some b = e in cc) in
    ap (λ (m : ℕ). packets_from s k (take m (x ∷ bs))) (let p : 0 + 1 ≡ 1 = omega arith in p) ∙ ap (λ (z : List ℕ). Packet s k z ∷ []) g ∙ ap (λ (m : ℕ). Packet s m b ∷ []) (let p : k ≡ k + 0 = omega arith in p)
packets_more s k (suc n) b [] e = absurd (cc)
packets_more s k (suc n) b (x ∷ bs) e =
    ap (λ (m : ℕ). packets_from s k (take m (x ∷ bs))) (let p : suc n + 1 ≡ suc (n + 1) = omega arith in p)
    ∙ ap (λ zs. Packet s k x ∷ zs) (packets_more s (k + 1) n b bs e ∙ ap (λ (m : ℕ). packets_from s (k + 1) (take n bs) ++ Packet s m b ∷ []) (let p : (k + 1) + n ≡ k + suc n = omega arith in p))

pub take_grown : (n : ℕ) (xs ys : List (List ℕ)) → IsPrefix xs ys → n ≤ length xs → take n ys ≡ take n xs
take_grown n xs ys p h = ap (take n) (sym p.1) ∙ take-append-le n xs p.0 h

pub told_grown : (t : Terms) (s : ℕ) (phase : Phase) (n : ℕ) (ps qs : List (List ℕ)) → IsPrefix (packets_cut t ps) (packets_cut t qs) → n ≤ length (packets_cut t ps) → told_by t s phase n qs ≡ told_by t s phase n ps
told_grown t s Coming n ps qs p h = ap (packets_from s 0) (take_grown n (packets_cut t ps) (packets_cut t qs) p h)
told_grown t s Open n ps qs p h = ap (λ bs. Connect s ∷ packets_from s 0 bs) (take_grown n (packets_cut t ps) (packets_cut t qs) p h)
told_grown t s Closing n ps qs p h = ap (story s) (take_grown n (packets_cut t ps) (packets_cut t qs) p h)

pub got_grown : (n : ℕ) (b : List ℕ) (xs ys : List (List ℕ)) → slice_get xs n ≡ Some b → slice_get (xs ++ ys) n ≡ Some b
got_grown n b [] ys e = absurd (none n e)
  where
    none : (m : ℕ) → slice_get {X = List ℕ} [] m ≡ Some b → ⊥
    none zero q = cc
    none (suc m) q = cc
got_grown zero b (x ∷ xs) ys e = e
got_grown (suc n) b (x ∷ xs) ys e = got_grown n b xs ys e

-- what a message says of its own session, and of another
pub own_connect : (s : ℕ) → of_session s (Connect s) ≡ Connect s ∷ []
own_connect s = rw (eq_same s s refl) refl

pub own_packet : (s i : ℕ) (b : List ℕ) → of_session s (Packet s i b) ≡ Packet s i b ∷ []
own_packet s i b = rw (eq_same s s refl) refl

pub own_closed : (s : ℕ) → of_session s (Closed s) ≡ Closed s ∷ []
own_closed s = rw (eq_same s s refl) refl

pub own_event : (s : ℕ) (e : Event) → IsOf s e → of_session s e ≡ e ∷ []
own_event s (Connect u) q = subst (λ (v : ℕ). of_session s (Connect v) ≡ Connect v ∷ []) (sym q) (own_connect s)
own_event s (Packet u i b) q = subst (λ (v : ℕ). of_session s (Packet v i b) ≡ Packet v i b ∷ []) (sym q) (own_packet s i b)
own_event s (Closed u) q = subst (λ (v : ℕ). of_session s (Closed v) ≡ Closed v ∷ []) (sym q) (own_closed s)
own_event s (Finish id b) q = absurd q
own_event s (Task w id b) q = absurd q

pub own_story : (s : ℕ) (e : Event) → IsOf s e → story_in s (EventMsg e) ≡ e ∷ []
own_story s e q = append-nil (of_session s e) ∙ own_event s e q

when_other : (u s v : ℕ) (e : Event) → u ≡ v → ¬ (v ≡ s) → when (u == s) e ≡ []
when_other u s v e q n = rw (eq_other u s (λ (p : u ≡ s). n (sym q ∙ p))) refl

pub other_event : (s v : ℕ) (e : Event) → IsOf v e → ¬ (v ≡ s) → of_session s e ≡ []
other_event s v (Connect u) q n = when_other u s v (Connect u) q n
other_event s v (Packet u i b) q n = when_other u s v (Packet u i b) q n
other_event s v (Closed u) q n = when_other u s v (Closed u) q n
other_event s v (Finish id b) q n = absurd q
other_event s v (Task w id b) q n = absurd q

pub other_story : (s v : ℕ) (e : Event) → IsOf v e → ¬ (v ≡ s) → story_in s (EventMsg e) ≡ []
other_story s v e q n = append-nil (of_session s e) ∙ other_event s v e q n

pub next_of_session : (t : Terms) (s : ℕ) (pieces : List (List ℕ)) (taken n : ℕ) (cause : Option Cause) (phase : Phase) (e : Event) → IsNext t s pieces taken n cause phase e → IsOf s e
next_of_session t s pieces taken n cause phase (Connect u) q = q.0
next_of_session t s pieces taken n cause phase (Packet u i b) q = q.0
next_of_session t s pieces taken n cause phase (Closed u) q = q.0
next_of_session t s pieces taken n cause phase (Finish id b) q = absurd q
next_of_session t s pieces taken n cause phase (Task w id b) q = absurd q

-- where nothing is said of the session nothing awaits a Bye
if_none : (b : Bool) (es : List Event) → es ≡ [] → ◌≡◌ {A = List Event} (if b then [] else es) []
if_none true es e = refl
if_none false es e = e

pub undue : (t : Terms) (s : ℕ) (e : Event) → of_session s e ≡ [] → due t s e ≡ []
undue t s (Connect u) q = if_none (keeps t.mode) (of_session s (Connect u)) q
undue t s (Packet u i b) q = if_none (keeps t.mode) (of_session s (Packet u i b)) q
undue t s (Closed u) q = q
undue t s (Finish id b) q = refl
undue t s (Task w id b) q = refl

pub undue_in : (t : Terms) (s : ℕ) (m : Message) → story_in s m ≡ [] → due_in t s m ≡ []
undue_in t s (FreshMsg ip u) q = refl
undue_in t s (SendMsg u b) q = refl
undue_in t s (CloseMsg u) q = refl
undue_in t s (ResetMsg u) q = refl
undue_in t s (Bye u) q = refl
undue_in t s (EventMsg e) q = append-nil (due t s e) ∙ undue t s e (sym (append-nil (of_session s e)) ∙ q)
undue_in t s (OverMsg id) q = refl
undue_in t s NoMore q = refl

-- pushes
pub tale_skip : (t : Terms) (ip s uid split : ℕ) (ps : List (List ℕ)) (taken n : ℕ) (cause : Option Cause) (phase : Phase) (pushed : Mail) → Tale t ip s uid split ps taken n cause phase pushed → (x : ActorId × Message) → story_in s x.1 ≡ [] → Tale t ip s uid split ps taken n cause phase (pushed ++ x ∷ [])
tale_skip t ip s uid split ps taken n cause phase pushed a x none =
    record {
      told = more_of (story_in s) pushed x ∙ ap (λ es. collect (story_in s) (bare pushed) ++ es) none ∙ append-nil (collect (story_in s) (bare pushed)) ∙ a.told;
      aimed = each_append (λ (e : ActorId × Message). Each (IsAimed t ip s uid split e.0) (story_in s e.1)) pushed (x ∷ []) a.aimed (subst (Each (IsAimed t ip s uid split x.0)) (sym none) tt, tt);
      in_phase = a.in_phase;
      seen = a.seen;
      few = a.few;
      least = a.least;
      whole = a.whole;
    }

-- an event of its own: what it makes of phase and count
abbrev pub phase_then : Phase → Event → Phase
phase_then p (Connect s) = Open
phase_then p (Packet s i b) = p
phase_then p (Closed s) = Closing
phase_then p (Finish id b) = p
phase_then p (Task w id b) = p

abbrev pub count_then : ℕ → Event → ℕ
count_then n (Connect s) = n
count_then n (Packet s i b) = n + 1
count_then n (Closed s) = n
count_then n (Finish id b) = n
count_then n (Task w id b) = n

told_packet : (t : Terms) (s : ℕ) (phase : Phase) (n : ℕ) (ps : List (List ℕ)) (b : List ℕ) → ¬ (phase ≡ Closing) → slice_get (packets_cut t ps) n ≡ Some b → told_by t s phase n ps ++ Packet s n b ∷ [] ≡ told_by t s phase (n + 1) ps
told_packet t s Coming n ps b unclosed e = sym (packets_more s 0 n b (packets_cut t ps) e ∙ ap (λ (m : ℕ). packets_from s 0 (take n (packets_cut t ps)) ++ Packet s m b ∷ []) (let p : 0 + n ≡ n = omega arith in p))
told_packet t s Open n ps b unclosed e = sym (ap (λ zs. Connect s ∷ zs) (packets_more s 0 n b (packets_cut t ps) e ∙ ap (λ (m : ℕ). packets_from s 0 (take n (packets_cut t ps)) ++ Packet s m b ∷ []) (let p : 0 + n ≡ n = omega arith in p)))
told_packet t s Closing n ps b unclosed e = absurd (unclosed refl)

told_then : (t : Terms) (s : ℕ) (ps : List (List ℕ)) (taken n : ℕ) (cause : Option Cause) (phase : Phase) (e : Event) → IsPhase t phase cause n → IsNext t s ps taken n cause phase e → told_by t s phase n ps ++ e ∷ [] ≡ told_by t s (phase_then phase e) (count_then n e) ps
told_then t s ps taken n cause Coming (Connect u) i q =
    let z : n ≡ 0 = i q.2 in
    subst (λ (m : ℕ). told_by t s Coming m ps ++ Connect u ∷ [] ≡ told_by t s Open m ps) (sym z) (ap (λ (v : ℕ). Connect v ∷ []) q.0)
told_then t s ps taken n cause Open (Connect u) i q = absurd (let p : Open ≡ Coming = q.1 in cc)
told_then t s ps taken n cause Closing (Connect u) i q = absurd (let p : Closing ≡ Coming = q.1 in cc)
told_then t s ps taken n cause phase (Packet u k b) i q =
    ap (λ (v : ℕ). told_by t s phase n ps ++ Packet v k b ∷ []) q.0 ∙ ap (λ (v : ℕ). told_by t s phase n ps ++ Packet s v b ∷ []) q.1 ∙ told_packet t s phase n ps b q.3 q.4
told_then t s ps taken n cause Coming (Closed u) i q = absurd (let p : Coming ≡ Open = q.1 in cc)
told_then t s ps taken n cause Open (Closed u) i q = ap (λ (v : ℕ). told_by t s Open n ps ++ Closed v ∷ []) q.0
told_then t s ps taken n cause Closing (Closed u) i q = absurd (let p : Closing ≡ Open = q.1 in cc)
told_then t s ps taken n cause phase (Finish id b) i q = absurd q
told_then t s ps taken n cause phase (Task w id b) i q = absurd q

phase_keeps : (t : Terms) (s : ℕ) (ps : List (List ℕ)) (taken n : ℕ) (cause : Option Cause) (phase : Phase) (e : Event) → IsPhase t phase cause n → IsNext t s ps taken n cause phase e → IsPhase t (phase_then phase e) cause (count_then n e)
phase_keeps t s ps taken n cause phase (Connect u) i q = q.2
phase_keeps t s ps taken n cause Coming (Packet u k b) i q = λ bd. absurd (let p : bound t.mode ≡ false = q.2 in let r : true ≡ false = sym bd ∙ p in cc)
phase_keeps t s ps taken n cause Open (Packet u k b) i q = i
phase_keeps t s ps taken n cause Closing (Packet u k b) i q = i
phase_keeps t s ps taken n cause phase (Closed u) i q = (q.2, q.3)
phase_keeps t s ps taken n cause phase (Finish id b) i q = absurd q
phase_keeps t s ps taken n cause phase (Task w id b) i q = absurd q

count_rises : (n : ℕ) (e : Event) → n ≤ count_then n e
count_rises n (Connect u) = omega arith
count_rises n (Packet u k b) = omega arith
count_rises n (Closed u) = omega arith
count_rises n (Finish id b) = omega arith
count_rises n (Task w id b) = omega arith

count_least : (t : Terms) (s : ℕ) (ps : List (List ℕ)) (taken n : ℕ) (cause : Option Cause) (phase : Phase) (e : Event) → n ≤ taken → IsNext t s ps taken n cause phase e → count_then n e ≤ taken
count_least t s ps taken n cause phase (Connect u) h q = h
count_least t s ps taken n cause phase (Packet u k b) h q = (let p : taken ≡ n + 1 = q.5 in omega arith)
count_least t s ps taken n cause phase (Closed u) h q = h
count_least t s ps taken n cause phase (Finish id b) h q = h
count_least t s ps taken n cause phase (Task w id b) h q = h

count_whole : (t : Terms) (s : ℕ) (ps : List (List ℕ)) (taken n : ℕ) (cause : Option Cause) (phase : Phase) (e : Event) → IsNext t s ps taken n cause phase e → n ≡ length (packets_cut t ps) → count_then n e ≡ length (packets_cut t ps)
count_whole t s ps taken n cause phase (Connect u) q h = h
count_whole t s ps taken n cause phase (Packet u k b) q h = absurd (let p : n < length (packets_cut t ps) = slice_get_within (packets_cut t ps) n b q.4 in omega arith)
count_whole t s ps taken n cause phase (Closed u) q h = h
count_whole t s ps taken n cause phase (Finish id b) q h = absurd q
count_whole t s ps taken n cause phase (Task w id b) q h = absurd q

pub tale_push : (t : Terms) (ip s uid split : ℕ) (ps : List (List ℕ)) (taken n : ℕ) (cause : Option Cause) (phase : Phase) (pushed : Mail) → Tale t ip s uid split ps taken n cause phase pushed → (w : ℕ) (e : Event) → IsReady t ip s uid split ps taken n cause phase w e → Tale t ip s uid split ps taken (count_then n e) cause (phase_then phase e) (pushed ++ (Worker w, EventMsg e) ∷ [])
tale_push t ip s uid split ps taken n cause phase pushed a w e r =
    let own : story_in s (EventMsg e) ≡ e ∷ [] = own_story s e (next_of_session t s ps taken n cause phase e r.is_next) in
    record {
      told = more_of (story_in s) pushed (Worker w, EventMsg e) ∙ ap (λ es. collect (story_in s) (bare pushed) ++ es) own ∙ ap (λ es. es ++ e ∷ []) a.told ∙ told_then t s ps taken n cause phase e a.in_phase r.is_next;
      aimed = each_append (λ (x : ActorId × Message). Each (IsAimed t ip s uid split x.0) (story_in s x.1)) pushed ((Worker w, EventMsg e) ∷ []) a.aimed (subst (Each (IsAimed t ip s uid split (Worker w))) (sym own) (r.aimed, tt), tt);
      in_phase = phase_keeps t s ps taken n cause phase e a.in_phase r.is_next;
      seen = (let h : n ≤ count_then n e = count_rises n e in let k : split ≤ n = a.seen in omega arith);
      few = a.few;
      least = count_least t s ps taken n cause phase e a.least r.is_next;
      whole = λ d q all. count_whole t s ps taken n cause phase e r.is_next (a.whole d q all);
    }

-- causes
phase_cause : (t : Terms) (phase : Phase) (cause other : Option Cause) (n : ℕ) → HasCause other → IsPhase t phase cause n → IsPhase t phase other n
phase_cause t Coming cause other n h i = i
phase_cause t Open cause other n h i = i
phase_cause t Closing cause other n h i = (i.0, h)

pub tale_cause : (t : Terms) (ip s uid split : ℕ) (ps : List (List ℕ)) (taken n : ℕ) (cause other : Option Cause) (phase : Phase) (pushed : Mail) → Tale t ip s uid split ps taken n cause phase pushed → HasCause other → ((e : Cause) → other ≡ Some e → IsAllCut e → n ≡ length (packets_cut t ps)) → Tale t ip s uid split ps taken n other phase pushed
tale_cause t ip s uid split ps taken n cause other phase pushed a h w =
    record { told = a.told; aimed = a.aimed; in_phase = phase_cause t phase cause other n h a.in_phase; seen = a.seen; few = a.few; least = a.least; whole = w }

not_none : (cause : Option Cause) → HasCause cause → cause ≡ None → ⊥
not_none cause h q = (let r : Some h.0 ≡ None = sym h.1 ∙ q in cc)

next_cause : (t : Terms) (s : ℕ) (ps : List (List ℕ)) (taken n : ℕ) (cause other : Option Cause) (phase : Phase) (e : Event) → HasCause other → IsNext t s ps taken n cause phase e → IsNext t s ps taken n other phase e
next_cause t s ps taken n cause other phase (Connect u) h q = (q.0, q.1, q.2, λ z. absurd (not_none other h z))
next_cause t s ps taken n cause other phase (Packet u k b) h q = q
next_cause t s ps taken n cause other phase (Closed u) h q = (q.0, q.1, q.2, h)
next_cause t s ps taken n cause other phase (Finish id b) h q = q
next_cause t s ps taken n cause other phase (Task w id b) h q = q

pub held_cause : (t : Terms) (ip s uid split : ℕ) (ps : List (List ℕ)) (taken n : ℕ) (cause other : Option Cause) (phase : Phase) (held : Option (ℕ × Event)) → HasCause other → IsHeld t ip s uid split ps taken n cause phase held → IsHeld t ip s uid split ps taken n other phase held
held_cause t ip s uid split ps taken n cause other phase None h q = λ z. absurd (not_none other h z)
held_cause t ip s uid split ps taken n cause other phase (Some (w, e)) h q = record { worker = q.worker; aimed = q.aimed; is_next = next_cause t s ps taken n cause other phase e h q.is_next }

-- a held packet is dropped
pub held_drop : (t : Terms) (ip s uid split : ℕ) (ps : List (List ℕ)) (taken n : ℕ) (cause : Option Cause) (phase : Phase) (held : Option (ℕ × Event)) → HasCause cause → IsHeld t ip s uid split ps taken n cause phase held → IsHeld t ip s uid split ps taken n cause phase (drop_packet held)
held_drop t ip s uid split ps taken n cause phase None h q = q
held_drop t ip s uid split ps taken n cause phase (Some (w, Connect u)) h q = q
held_drop t ip s uid split ps taken n cause phase (Some (w, Packet u i b)) h q = λ z. absurd (not_none cause h z)
held_drop t ip s uid split ps taken n cause phase (Some (w, Closed u)) h q = q
held_drop t ip s uid split ps taken n cause phase (Some (w, Finish id b)) h q = q
held_drop t ip s uid split ps taken n cause phase (Some (w, Task v id b)) h q = q

-- a piece, and a packet from the cutter
pub tale_piece : (t : Terms) (ip s uid split : ℕ) (ps : List (List ℕ)) (taken n : ℕ) (cause : Option Cause) (phase : Phase) (pushed : Mail) → Grows t → Tale t ip s uid split ps taken n cause phase pushed → cause ≡ None → (p : List ℕ) → Tale t ip s uid split (ps ++ p ∷ []) taken n cause phase pushed
tale_piece t ip s uid split ps taken n cause phase pushed g a none p =
    record {
      told = a.told ∙ sym (told_grown t s phase n ps (ps ++ p ∷ []) (g ps p) (let h : n ≤ taken = a.least in let k : taken ≤ length (packets_cut t ps) = a.few in omega arith));
      aimed = a.aimed;
      in_phase = a.in_phase;
      seen = a.seen;
      few = (let h : length (packets_cut t ps) ≤ length (packets_cut t (ps ++ p ∷ [])) = prefix_length (packets_cut t ps) (packets_cut t (ps ++ p ∷ [])) (g ps p) in let k : taken ≤ length (packets_cut t ps) = a.few in omega arith);
      least = a.least;
      whole = λ e q all. absurd (let r : Some e ≡ None = sym q ∙ none in cc);
    }

pub tale_taken : (t : Terms) (ip s uid split : ℕ) (ps : List (List ℕ)) (taken n : ℕ) (cause : Option Cause) (phase : Phase) (pushed : Mail) → Tale t ip s uid split ps taken n cause phase pushed → (b : List ℕ) → slice_get (packets_cut t ps) taken ≡ Some b → Tale t ip s uid split ps (taken + 1) n cause phase pushed
tale_taken t ip s uid split ps taken n cause phase pushed a b e =
    record {
      told = a.told;
      aimed = a.aimed;
      in_phase = a.in_phase;
      seen = a.seen;
      few = (let h : taken < length (packets_cut t ps) = slice_get_within (packets_cut t ps) taken b e in omega arith);
      least = (let h : n ≤ taken = a.least in omega arith);
      whole = a.whole;
    }

-- a look
each_of : {A B : Type 0} (P : B → Type 0) (f : A → List B) (xs : List A) → Each P (collect f xs) → Each (λ x. Each P (f x)) xs
each_of P f [] h = tt
each_of P f (x ∷ xs) h = (each_left P (f x) (collect f xs) h, each_of P f xs (each_right P (f x) (collect f xs) h))

each_with : {A : Type 0} (P Q R : A → Type 0) (xs : List A) → ((x : A) → P x → Q x → R x) → Each P xs → Each Q xs → Each R xs
each_with P Q R [] f h k = tt
each_with P Q R (x ∷ xs) f h k = (f x h.0 k.0, each_with P Q R xs f h.1 k.1)

abbrev Below : ℕ → Event → Type 0
Below n (Connect u) = Unit {0}
Below n (Packet u i b) = i < n
Below n (Closed u) = Unit {0}
Below n (Finish id b) = Unit {0}
Below n (Task w id b) = Unit {0}

packets_below : (s k m n : ℕ) (bs : List (List ℕ)) → k + m ≤ n → Each (Below n) (packets_from s k (take m bs))
packets_below s k zero n [] h = tt
packets_below s k zero n (b ∷ bs) h = tt
packets_below s k (suc m) n [] h = tt
packets_below s k (suc m) n (b ∷ bs) h = (omega arith, packets_below s (k + 1) m n bs (omega arith))

told_below : (t : Terms) (s : ℕ) (phase : Phase) (n : ℕ) (ps : List (List ℕ)) → Each (Below n) (told_by t s phase n ps)
told_below t s Coming n ps = packets_below s 0 n n (packets_cut t ps) (omega arith)
told_below t s Open n ps = (tt, packets_below s 0 n n (packets_cut t ps) (omega arith))
told_below t s Closing n ps = (tt, each_append (Below n) (packets_from s 0 (take n (packets_cut t ps))) (Closed s ∷ []) (packets_below s 0 n n (packets_cut t ps) (omega arith)) (tt, tt))

lt_so : (m n : ℕ) → m < n → nat_lt m n ≡ true
lt_so m n e = grind (arith, nat_tests)

seen_side : (t : Terms) (s look n i : ℕ) → i < n → side_of t s look n i ≡ side t s 0
seen_side t s look n i h = pick (look == 0)
  where
    pick : (b : Bool) → (if b then side t s 0 else (if nat_lt i n then side t s 0 else side t s look)) ≡ side t s 0
    pick true = refl
    pick false = rw (lt_so i n h) refl

unseen_side : (t : Terms) (s uid split i : ℕ) → uid ≡ 0 → side_of t s uid split i ≡ side t s 0
unseen_side t s uid split i z = rw (eq_same uid 0 z) refl

sided_seen : (t : Terms) (s uid split look n : ℕ) (to : ActorId) (e : Event) → uid ≡ 0 → IsSided t s uid split to e → Below n e → IsSided t s look n to e
sided_seen t s uid split look n to (Connect u) z q h = tt
sided_seen t s uid split look n to (Packet u i b) z q h = q ∙ ap Worker (unseen_side t s uid split i z ∙ sym (seen_side t s look n i h))
sided_seen t s uid split look n to (Closed u) z q h = tt
sided_seen t s uid split look n to (Finish id b) z q h = tt
sided_seen t s uid split look n to (Task w id b) z q h = tt

pub tale_sees : (t : Terms) (ip s uid split : ℕ) (ps : List (List ℕ)) (taken n : ℕ) (cause : Option Cause) (phase : Phase) (pushed : Mail) → Tale t ip s uid split ps taken n cause phase pushed → uid ≡ 0 → (look : ℕ) → Tale t ip s look n ps taken n cause phase pushed
tale_sees t ip s uid split ps taken n cause phase pushed a z look =
    let below : Each (λ (m : Message). Each (Below n) (story_in s m)) (bare pushed) = each_of (Below n) (story_in s) (bare pushed) (subst (Each (Below n)) (sym a.told) (told_below t s phase n ps)) in
    record {
      told = a.told;
      aimed = each_with (λ (x : ActorId × Message). Each (IsAimed t ip s uid split x.0) (story_in s x.1)) (λ (x : ActorId × Message). Each (Below n) (story_in s x.1)) (λ (x : ActorId × Message). Each (IsAimed t ip s look n x.0) (story_in s x.1)) pushed
          (λ x h k. each_with (IsAimed t ip s uid split x.0) (Below n) (IsAimed t ip s look n x.0) (story_in s x.1) (λ e g b. (g.0, λ five. sided_seen t s uid split look n x.0 e z (g.1 five) b)) h k)
          a.aimed (of_bare pushed below);
      in_phase = a.in_phase;
      seen = omega arith;
      few = a.few;
      least = a.least;
      whole = a.whole;
    }
  where
    of_bare : (ms : Mail) → Each (λ (m : Message). Each (Below n) (story_in s m)) (bare ms) → Each (λ (x : ActorId × Message). Each (Below n) (story_in s x.1)) ms
    of_bare [] h = tt
    of_bare (x ∷ ms) h = (h.0, of_bare ms h.1)
