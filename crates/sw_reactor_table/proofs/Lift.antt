-- From one connection to the list: one is served, the others and the ended links stay as they are.
use Rattle.std.proofs.Common.{◌≡◌, ℕ, ◌<◌, Bool, true, false, if◌then◌else◌, List, [], ◌∷◌, ◌++◌, length, refl, ap, ◌∙◌, sym, subst, append-nil, append_assoc, arith, Option, Some, None, map}
use Rattle.sw_lists.specs.Lists.{collect, Each}
use Rattle.sw_lists.specs.Numbers.{Rises, Distinct}
use Rattle.sw_lists.specs.Perm.{Perm, Nil, Skip, Swap, Then}
use Rattle.sw_lists.proofs.Lists.{collect-append, each_append, each_left, each_right, each_more, append_none, perm_refl, perm_sym, perm_each, perm_distinct, eq_same, eq_other}
use Rattle.sw_step.specs.declared.actor.ActorId.{ActorId}
use Rattle.sw_step.specs.declared.actor.ActorId.TheVariants.{Door, Worker, Reactor}
use Rattle.sw_record.specs.Words.{Event, Connect, Packet, Closed, Finish, Task, Cause, NoMemory, ServerClose, ResetCause, Overflow, Ended}
use Rattle.sw_record.specs.declared.record.LinkState.TheVariants.{Over}
use Rattle.sw_record.specs.declared.record.LinkRecord.{LinkRecord}
use Rattle.sw_record.specs.Terms.{Terms, reactor_of}
use Rattle.sw_record.specs.Whole.{IsAllCut}
use Rattle.sw_past.specs.Messages.{Message, FreshMsg, EventMsg}
use Rattle.sw_past.specs.Past.{Mail, bare}
use Rattle.sw_past.specs.Views.{story_in, fresh_in, due_in}
use Rattle.sw_past.specs.Routes.{MayTell, MayPush, IsFair}
use Rattle.sw_reactor_table.specs.Conn.{Conn, fresh, at_event, account, over_link}
use Rattle.sw_reactor_table.specs.Quiet.{IsCaused, Flows, IsAimed, QuietConn, QuietOver, QuietLists, IsOf, IsOver, session_in, some_list, session_over, sessions, dues}
use Rattle.sw_reactor_table.specs.Modes.{ModeLaws, IsReleased}
use Rattle.sw_reactor_table.proofs.Flow.{more_of, why_more}
use Rattle.sw_reactor_table.proofs.Tale.{tale_skip, undue_in, other_story}
use Rattle.sw_reactor_table.proofs.Settle.{plain_keeps}
use Rattle.sw_reactor_table.proofs.Kept.{kept_took, kept_pushed, over_kept, dues_skip}

abbrev pub Aim : Type 1
Aim = ℕ → LinkRecord → Mail → Type 0

abbrev pub Ending : Type 1
Ending = ℕ → LinkRecord → Ended → Mail → Type 0

-- another order
pub perm_front : {A : Type 0} (x : A) (xs ys : List A) → Perm A (xs ++ x ∷ ys) (x ∷ (xs ++ ys))
perm_front x [] ys = perm_refl (x ∷ ys)
perm_front x (z ∷ xs) ys = Then (Skip z (perm_front x xs ys)) (Swap z x (xs ++ ys))

pub perm_more : {A : Type 0} {xs ys : List A} → Perm A xs ys → (zs : List A) → Perm A (xs ++ zs) (ys ++ zs)
perm_more Nil zs = perm_refl zs
perm_more (Skip x p) zs = Skip x (perm_more p zs)
perm_more (Swap x y xs) zs = Swap x y (xs ++ zs)
perm_more (Then p q) zs = Then (perm_more p zs) (perm_more q zs)

perm_sessions : {cs ds : List Conn} → Perm Conn cs ds → Perm ℕ (collect session_in cs) (collect session_in ds)
perm_sessions Nil = Nil
perm_sessions (Skip x p) = Skip x.session (perm_sessions p)
perm_sessions (Swap x y xs) = Swap x.session y.session (collect session_in xs)
perm_sessions (Then p q) = Then (perm_sessions p) (perm_sessions q)

pub lists_perm : (t : Terms) (a : Aim) (w : Ending) (n : ℕ) (took pushed : Mail) (cs ds : List Conn) (ls : List LinkRecord) → Perm Conn cs ds → QuietLists t a w n took pushed cs ls → QuietLists t a w n took pushed ds ls
lists_perm t a w n took pushed cs ds ls p q =
    let s : Perm ℕ (sessions cs ls) (sessions ds ls) = perm_more (perm_sessions p) (collect session_over ls) in
    record {
      conns = perm_each (QuietConn t n took pushed) p q.conns;
      over = q.over;
      distinct = perm_distinct s q.distinct;
      stranger = λ u h. q.stranger u (perm_each (λ v. ¬ (v ≡ u)) (perm_sym s) h);
      routed = q.routed;
      came = Then (perm_sym s) q.came;
    }

-- the sessions of the others
pub others_not : (s : ℕ) (cs : List Conn) → Each (λ m. ¬ (s ≡ m)) (collect session_in cs) → Each (λ (d : Conn). ¬ (d.session ≡ s)) cs
others_not s [] h = tt
others_not s (c ∷ cs) h = ((λ e. h.0 (sym e)), others_not s cs h.1)

over_not : (t : Terms) (a : Aim) (w : Ending) (took pushed : Mail) (s : ℕ) (ls : List LinkRecord) → Each (λ m. ¬ (s ≡ m)) (collect session_over ls) → (P : LinkRecord → Type 0) → ((l : LinkRecord) (q : QuietOver t a w took pushed l) → ¬ (q.number ≡ s) → P l) → Each (QuietOver t a w took pushed) ls → Each P ls
over_not t a w took pushed s [] h P f q = tt
over_not t a w took pushed s (l ∷ ls) h P f q = (
  f l q.0 (λ e. (subst (Each (λ m. ¬ (s ≡ m))) (ap some_list q.0.session) (each_left (λ m. ¬ (s ≡ m)) (session_over l) (collect session_over ls) h)).0 (sym e)),
  over_not t a w took pushed s ls (each_right (λ m. ¬ (s ≡ m)) (session_over l) (collect session_over ls) h) P f q.1,
)

-- one is served, and nothing is pushed
pub head_replace : (t : Terms) (a : Aim) (w : Ending) (n : ℕ) (took pushed : Mail) (c d : Conn) (cs : List Conn) (ls : List LinkRecord) → QuietLists t a w n took pushed (c ∷ cs) ls → d.session ≡ c.session → QuietConn t n took pushed d → QuietLists t a w n took pushed (d ∷ cs) ls
head_replace t a w n took pushed c d cs ls q same qd =
    let e : sessions (c ∷ cs) ls ≡ sessions (d ∷ cs) ls = ap (λ (s : ℕ). s ∷ sessions cs ls) (sym same) in
    record { conns = (qd, q.conns.1); over = q.over; distinct = subst Distinct e q.distinct; stranger = λ u h. q.stranger u (subst (Each (λ v. ¬ (v ≡ u))) (sym e) h); routed = q.routed; came = subst (λ (zs : List ℕ). Perm ℕ zs (collect fresh_in (bare took))) e q.came }

-- a message that says nothing of a connection
pub conn_skip : (t : Terms) (n : ℕ) (took pushed : Mail) (x : ActorId × Message) (c : Conn) → story_in c.session x.1 ≡ [] → QuietConn t n took pushed c → QuietConn t n took (pushed ++ x ∷ []) c
conn_skip t n took pushed x c none q =
    record {
      home = q.home;
      flows = subst (λ (es : List Event). Flows t c.ip c.session c.cause c.written c.unsent c.awaited took (length es)) (sym (dues_skip t c.session pushed x none)) q.flows;
      tale = tale_skip t c.ip c.session c.uid c.split c.pieces c.taken c.dispatched c.cause c.phase pushed q.tale x none;
      held = q.held;
    }

pub over_skip : (t : Terms) (a : Aim) (w : Ending) → ModeLaws t a w → (took pushed : Mail) (x : ActorId × Message) (l : LinkRecord) (q : QuietOver t a w took pushed l) → story_in q.number x.1 ≡ [] → QuietOver t a w took (pushed ++ x ∷ []) l
over_skip t a w m took pushed x l q none = record { number = q.number; session = q.session; kept = kept_pushed t a w m q.number l took pushed x none q.kept; why = q.why; ended = q.ended }

-- one is served, and an event of it is pushed
may_tell : (t : Terms) (n : ℕ) (s v : ℕ) (e : Event) → IsOf s e → n ≡ reactor_of t s → v < t.worker_num → MayTell t (Reactor n) (Worker v) e
may_tell t n s v (Connect u) o h b = (ap Reactor (h ∙ ap (reactor_of t) (sym o)), (v, (b, refl)))
may_tell t n s v (Packet u i p) o h b = (ap Reactor (h ∙ ap (reactor_of t) (sym o)), (v, (b, refl)))
may_tell t n s v (Closed u) o h b = (ap Reactor (h ∙ ap (reactor_of t) (sym o)), (v, (b, refl)))
may_tell t n s v (Finish id p) o h b = absurd o
may_tell t n s v (Task k id p) o h b = absurd o

pub head_push : (t : Terms) (a : Aim) (w : Ending) → ModeLaws t a w → (n : ℕ) (took pushed : Mail) (c d : Conn) (cs : List Conn) (ls : List LinkRecord) → QuietLists t a w n took pushed (c ∷ cs) ls → d.session ≡ c.session → (v : ℕ) (e : Event) → IsOf c.session e → v < t.worker_num → QuietConn t n took (pushed ++ (Worker v, EventMsg e) ∷ []) d → QuietLists t a w n took (pushed ++ (Worker v, EventMsg e) ∷ []) (d ∷ cs) ls
head_push t a w m n took pushed c d cs ls q same v e own below qd =
    let x : ActorId × Message = (Worker v, EventMsg e) in
    let s : ℕ = c.session in
    let there : sessions (c ∷ cs) ls ≡ sessions (d ∷ cs) ls = ap (λ (z : ℕ). z ∷ sessions cs ls) (sym same) in
    let hs : Each (λ (b : Conn). ¬ (b.session ≡ s)) cs = others_not s cs (each_left (λ k. ¬ (s ≡ k)) (collect session_in cs) (collect session_over ls) q.distinct.0) in
    record {
      conns = (qd, both cs hs q.conns.1);
      over = over_not t a w took pushed s ls (each_right (λ k. ¬ (s ≡ k)) (collect session_in cs) (collect session_over ls) q.distinct.0) (QuietOver t a w took (pushed ++ x ∷ [])) (λ l g k. over_skip t a w m took pushed x l g (other_story g.number s e own (λ z. k (sym z)))) q.over;
      distinct = subst Distinct there q.distinct;
      stranger = λ u h. (let old : Each (λ k. ¬ (k ≡ u)) (sessions (c ∷ cs) ls) = subst (Each (λ k. ¬ (k ≡ u))) (sym there) h in
          more_of (story_in u) pushed x ∙ ap (λ es. collect (story_in u) (bare pushed) ++ es) (other_story u s e own old.0) ∙ append-nil (collect (story_in u) (bare pushed)) ∙ q.stranger u old);
      routed = each_append (λ (y : ActorId × Message). MayPush t (Reactor n) y.0 y.1) pushed (x ∷ []) q.routed (may_tell t n s v e own q.conns.0.home below, tt);
      came = subst (λ (zs : List ℕ). Perm ℕ zs (collect fresh_in (bare took))) there q.came;
    }
  where
    both : (bs : List Conn) → Each (λ (b : Conn). ¬ (b.session ≡ c.session)) bs → Each (QuietConn t n took pushed) bs → Each (QuietConn t n took (pushed ++ (Worker v, EventMsg e) ∷ [])) bs
    both [] h g = tt
    both (b ∷ bs) h g = (conn_skip t n took pushed (Worker v, EventMsg e) b (other_story b.session c.session e own (λ z. h.0 (sym z))) g.0, both bs h.1 g.1)

-- one behind the others
pub ends_front : (x : ℕ) (xs : List ℕ) → Perm ℕ (xs ++ x ∷ []) (x ∷ xs)
ends_front x xs = subst (λ (ys : List ℕ). Perm ℕ (xs ++ x ∷ []) (x ∷ ys)) (append-nil xs) (perm_front x xs [])

-- one leaves
over_why : (t : Terms) (took : Mail) (d : Conn) (u : ℕ) (e : Cause) → IsCaused d.session (Some e) took → (x : Ended) → (over_link t d u e).state ≡ Over x → IsCaused d.session (Some x.cause) took
over_why t took d u e w x z = (let g : account t d u e ≡ x = cc in subst (λ (y : Ended). IsCaused d.session (Some y.cause) took) g w)

pub head_leave : (t : Terms) (a : Aim) (w : Ending) → ModeLaws t a w → (n : ℕ) (took pushed : Mail) (c d : Conn) (cs : List Conn) (ls : List LinkRecord) → QuietLists t a w n took pushed (c ∷ cs) ls → d.session ≡ c.session → QuietConn t n took pushed d → (e : Cause) → IsOver t d e → (u : ℕ) → IsReleased t d u → QuietLists t a w n took pushed cs (ls ++ over_link t d u e ∷ [])
head_leave t a w m n took pushed c d cs ls q same qd e o u r =
    let l : LinkRecord = over_link t d u e in
    let p : Perm ℕ (sessions (c ∷ cs) ls) (sessions cs (ls ++ l ∷ [])) =
    subst (Perm ℕ (sessions (c ∷ cs) ls))
    (sym (ap (λ (zs : List ℕ). collect session_in cs ++ zs) (collect-append session_over ls (l ∷ []) ∙ ap (λ (z : ℕ). collect session_over ls ++ z ∷ []) same) ∙ sym (append_assoc (collect session_in cs) (collect session_over ls) (c.session ∷ []))))
    (perm_sym (ends_front c.session (sessions cs ls))) in
    record {
      conns = q.conns.1;
      over = each_append (QuietOver t a w took pushed) ls (l ∷ []) q.over (record { number = d.session; session = refl; kept = over_kept t a w m n took pushed d qd e o u r; why = over_why t took d u e (subst (λ (z : Option Cause). IsCaused d.session z took) o.cause qd.flows.why); ended = (account t d u e, refl) }, tt);
      distinct = perm_distinct p q.distinct;
      stranger = λ v h. q.stranger v (perm_each (λ k. ¬ (k ≡ v)) (perm_sym p) h);
      routed = q.routed;
      came = Then (perm_sym p) q.came;
    }

-- a message that says nothing of any connection is pushed
pub lists_skip : (t : Terms) (a : Aim) (w : Ending) → ModeLaws t a w → (n : ℕ) (took pushed : Mail) (cs : List Conn) (ls : List LinkRecord) (x : ActorId × Message) → ((s : ℕ) → story_in s x.1 ≡ []) → MayPush t (Reactor n) x.0 x.1 → QuietLists t a w n took pushed cs ls → QuietLists t a w n took (pushed ++ x ∷ []) cs ls
lists_skip t a w m n took pushed cs ls x none may q =
    record {
      conns = each_more (QuietConn t n took pushed) (QuietConn t n took (pushed ++ x ∷ [])) cs (λ c g. conn_skip t n took pushed x c (none c.session) g) q.conns;
      over = each_more (QuietOver t a w took pushed) (QuietOver t a w took (pushed ++ x ∷ [])) ls (λ l g. over_skip t a w m took pushed x l g (none g.number)) q.over;
      distinct = q.distinct;
      stranger = λ u h. more_of (story_in u) pushed x ∙ ap (λ es. collect (story_in u) (bare pushed) ++ es) (none u) ∙ append-nil (collect (story_in u) (bare pushed)) ∙ q.stranger u h;
      routed = each_append (λ (y : ActorId × Message). MayPush t (Reactor n) y.0 y.1) pushed (x ∷ []) q.routed (may, tt);
      came = q.came;
    }

-- what all connections make of something
pub map_append : (f : Conn → Conn) (cs ds : List Conn) → map f (cs ++ ds) ≡ map f cs ++ map f ds
map_append f [] ds = refl
map_append f (c ∷ cs) ds = ap (λ zs. f c ∷ zs) (map_append f cs ds)

map_sessions : (f : Conn → Conn) → ((c : Conn) → (f c).session ≡ c.session) → (cs : List Conn) → collect session_in (map f cs) ≡ collect session_in cs
map_sessions f h [] = refl
map_sessions f h (c ∷ cs) = ap (λ (s : ℕ). s ∷ collect session_in (map f cs)) (h c) ∙ ap (λ zs. c.session ∷ zs) (map_sessions f h cs)

map_each : (P Q : Conn → Type 0) (f : Conn → Conn) → ((c : Conn) → P c → Q (f c)) → (cs : List Conn) → Each P cs → Each Q (map f cs)
map_each P Q f h [] q = tt
map_each P Q f h (c ∷ cs) q = (h c q.0, map_each P Q f h cs q.1)

pub over_took : (t : Terms) (a : Aim) (w : Ending) (took pushed : Mail) (x : ActorId × Message) (ls : List LinkRecord) → Each (QuietOver t a w took pushed) ls → Each (QuietOver t a w (took ++ x ∷ []) pushed) ls
over_took t a w took pushed x ls q = each_more (QuietOver t a w took pushed) (QuietOver t a w (took ++ x ∷ []) pushed) ls (λ l g. record { number = g.number; session = g.session; kept = kept_took t a w g.number l took pushed x g.kept; why = λ e z. why_more g.number (Some e.cause) took x (g.why e z); ended = g.ended }) q

-- each connection changes, with its session as it was
pub lists_map : (t : Terms) (a : Aim) (w : Ending) (n : ℕ) (took later pushed : Mail) (cs : List Conn) (ls : List LinkRecord) (f : Conn → Conn) → ((c : Conn) → (f c).session ≡ c.session) → ((c : Conn) → QuietConn t n took pushed c → QuietConn t n later pushed (f c)) → Each (QuietOver t a w later pushed) ls → collect fresh_in (bare later) ≡ collect fresh_in (bare took) → QuietLists t a w n took pushed cs ls → QuietLists t a w n later pushed (map f cs) ls
lists_map t a w n took later pushed cs ls f same keeps over old q =
    let e : sessions cs ls ≡ sessions (map f cs) ls = ap (λ (zs : List ℕ). zs ++ collect session_over ls) (sym (map_sessions f same cs)) in
    record {
      conns = map_each (QuietConn t n took pushed) (QuietConn t n later pushed) f keeps cs q.conns;
      over = over;
      distinct = subst Distinct e q.distinct;
      stranger = λ u h. q.stranger u (subst (Each (λ v. ¬ (v ≡ u))) (sym e) h);
      routed = q.routed;
      came = subst (λ (zs : List ℕ). Perm ℕ zs (collect fresh_in (bare later))) e (subst (Perm ℕ (sessions cs ls)) (sym old) q.came);
    }

-- the connection of an event
pub at_own : (f : Conn → Conn) (e : Event) (c : Conn) → IsOf c.session e → at_event f e c ≡ f c
at_own f (Connect u) c o = ap (λ (b : Bool). if b then f c else c) (eq_same c.session u (sym o))
at_own f (Packet u i p) c o = ap (λ (b : Bool). if b then f c else c) (eq_same c.session u (sym o))
at_own f (Closed u) c o = ap (λ (b : Bool). if b then f c else c) (eq_same c.session u (sym o))
at_own f (Finish id p) c o = absurd o
at_own f (Task k id p) c o = absurd o

pub at_other : (f : Conn → Conn) (e : Event) (s : ℕ) (c : Conn) → IsOf s e → ¬ (c.session ≡ s) → at_event f e c ≡ c
at_other f (Connect u) s c o h = ap (λ (b : Bool). if b then f c else c) (eq_other c.session u (λ z. h (z ∙ o)))
at_other f (Packet u i p) s c o h = ap (λ (b : Bool). if b then f c else c) (eq_other c.session u (λ z. h (z ∙ o)))
at_other f (Closed u) s c o h = ap (λ (b : Bool). if b then f c else c) (eq_other c.session u (λ z. h (z ∙ o)))
at_other f (Finish id p) s c o h = absurd o
at_other f (Task k id p) s c o h = absurd o

map_others : (f : Conn → Conn) (e : Event) (s : ℕ) (cs : List Conn) → IsOf s e → Each (λ (d : Conn). ¬ (d.session ≡ s)) cs → map (at_event f e) cs ≡ cs
map_others f e s [] o h = refl
map_others f e s (c ∷ cs) o h = ap (λ (x : Conn). x ∷ map (at_event f e) cs) (at_other f e s c o h.0) ∙ ap (λ zs. c ∷ zs) (map_others f e s cs o h.1)

pub map_at : (f : Conn → Conn) (e : Event) (before : List Conn) (d : Conn) (cs : List Conn) → IsOf d.session e → Each (λ (b : Conn). ¬ (b.session ≡ d.session)) (before ++ cs) → map (at_event f e) (before ++ d ∷ cs) ≡ before ++ f d ∷ cs
map_at f e before d cs o h =
    map_append (at_event f e) before (d ∷ cs)
    ∙ ap (λ (zs : List Conn). zs ++ at_event f e d ∷ map (at_event f e) cs) (map_others f e d.session before o (each_left (λ (b : Conn). ¬ (b.session ≡ d.session)) before cs h))
    ∙ ap (λ (z : Conn). before ++ z ∷ map (at_event f e) cs) (at_own f e d o)
    ∙ ap (λ (zs : List Conn). before ++ f d ∷ zs) (map_others f e d.session cs o (each_right (λ (b : Conn). ¬ (b.session ≡ d.session)) before cs h))

-- a link that comes
none_due : (t : Terms) (s : ℕ) (ms : Mail) → collect (story_in s) (bare ms) ≡ [] → collect (due_in t s) (bare ms) ≡ []
none_due t s [] e = refl
none_due t s (x ∷ ms) e = (let p = append_none (story_in s x.1) (collect (story_in s) (bare ms)) e in ap (λ (es : List Event). es ++ collect (due_in t s) (bare ms)) (undue_in t s x.1 p.0) ∙ none_due t s ms p.1)

none_aimed : (t : Terms) (ip s uid split : ℕ) (ms : Mail) → collect (story_in s) (bare ms) ≡ [] → Each (λ (e : ActorId × Message). Each (IsAimed t ip s uid split e.0) (story_in s e.1)) ms
none_aimed t ip s uid split [] e = tt
none_aimed t ip s uid split (x ∷ ms) e = (let p = append_none (story_in s x.1) (collect (story_in s) (bare ms)) e in (subst (Each (IsAimed t ip s uid split x.0)) (sym p.0) tt, none_aimed t ip s uid split ms p.1))

fresh_quiet : (t : Terms) (n : ℕ) (took pushed : Mail) (starved : Bool) (ip s : ℕ) → n ≡ reactor_of t s → collect (story_in s) (bare pushed) ≡ [] → QuietConn t n (took ++ (Door, FreshMsg ip s) ∷ []) pushed (fresh starved ip s)
fresh_quiet t n took pushed starved ip s home none =
    record {
      home = home;
      flows =
          record {
            early = took;
            mid = [];
            later = [];
            split = refl;
            soft = λ e. refl;
            bytes = λ e. refl;
            written_is = ([], refl);
            overflow = λ k e. absurd (over starved k e);
            few = (let z : dues t s pushed ≡ 0 = ap length (none_due t s pushed none) in omega arith);
            why = ((λ e. absurd (closed starved e)), (λ e. absurd (reset starved e)));
          };
      tale =
          record {
            told = none;
            aimed = none_aimed t ip s 0 0 pushed none;
            in_phase = λ b. refl;
            seen = omega arith;
            few = omega arith;
            least = omega arith;
            whole = λ e r cut. absurd (whole starved e r cut);
          };
      held = λ e. refl;
    }
  where
    over : (b : Bool) (k : ℕ) → ◌≡◌ {A = Option Cause} (if b then Some NoMemory else None) (Some (Overflow k)) → ⊥
    over true k e = cc
    over false k e = cc

    closed : (b : Bool) → ◌≡◌ {A = Option Cause} (if b then Some NoMemory else None) (Some ServerClose) → ⊥
    closed true e = cc
    closed false e = cc

    reset : (b : Bool) → ◌≡◌ {A = Option Cause} (if b then Some NoMemory else None) (Some ResetCause) → ⊥
    reset true e = cc
    reset false e = cc

    whole : (b : Bool) (e : Cause) → ◌≡◌ {A = Option Cause} (if b then Some NoMemory else None) (Some e) → IsAllCut e → ⊥
    whole true e r cut = (let g : NoMemory ≡ e = cc in subst IsAllCut (sym g) cut)
    whole false e r cut = absurd (cc)

-- its session is above those that came before
below_last : (s : ℕ) (xs : List ℕ) → Rises (xs ++ s ∷ []) → Each (λ u. u < s) xs
below_last s [] h = tt
below_last s (x ∷ xs) h = ((each_right (λ m. x < m) xs (s ∷ []) h.0).0, below_last s xs h.1)

came_each : (P : ℕ → Type 0) (took early rest : Mail) (ip u : ℕ) → took ≡ early ++ (Door, FreshMsg ip u) ∷ rest → Each P (collect fresh_in (bare took)) → P u
came_each P took early rest ip u e h = at early (subst (λ (ms : Mail). Each P (collect fresh_in (bare ms))) e h)
  where
    at : (ms : Mail) → Each P (collect fresh_in (bare (ms ++ (Door, FreshMsg ip u) ∷ rest))) → P u
    at [] g = g.0
    at (x ∷ ms) g = at ms (each_right P (fresh_in x.1) (collect fresh_in (bare (ms ++ (Door, FreshMsg ip u) ∷ rest))) g)

came_conns : (t : Terms) (n : ℕ) (took pushed : Mail) (P : ℕ → Type 0) → Each P (collect fresh_in (bare took)) → (cs : List Conn) → Each (QuietConn t n took pushed) cs → Each P (collect session_in cs)
came_conns t n took pushed P h [] q = tt
came_conns t n took pushed P h (c ∷ cs) q = (came_each P took q.0.flows.early (q.0.flows.mid ++ q.0.flows.later) c.ip c.session q.0.flows.split h, came_conns t n took pushed P h cs q.1)

came_over : (t : Terms) (a : Aim) (w : Ending) (took pushed : Mail) (P : ℕ → Type 0) → Each P (collect fresh_in (bare took)) → (ls : List LinkRecord) → Each (QuietOver t a w took pushed) ls → Each P (collect session_over ls)
came_over t a w took pushed P h [] q = tt
came_over t a w took pushed P h (l ∷ ls) q =
    each_append P (session_over l) (collect session_over ls)
    (subst (Each P) (sym (ap some_list q.0.session)) (came_each P took q.0.kept.early (q.0.kept.mid ++ q.0.kept.later) l.ip q.0.number q.0.kept.split h, tt))
    (came_over t a w took pushed P h ls q.1)

pub lists_fresh : (t : Terms) (a : Aim) (w : Ending) (n : ℕ) (took pushed : Mail) (cs : List Conn) (ls : List LinkRecord) (starved : Bool) (from : ActorId) (ip s : ℕ) → IsFair t n (took ++ (from, FreshMsg ip s) ∷ []) → QuietLists t a w n took pushed cs ls → QuietLists t a w n (took ++ (from, FreshMsg ip s) ∷ []) pushed (cs ++ fresh starved ip s ∷ []) ls
lists_fresh t a w n took pushed cs ls starved from ip s fair q =
    let x : ActorId × Message = (from, FreshMsg ip s) in
    let f : Conn = fresh starved ip s in
    let may : MayPush t from (Reactor n) (FreshMsg ip s) = (each_right (λ (e : ActorId × Message). MayPush t e.0 (Reactor n) e.1) took (x ∷ []) fair.routed).0 in
    let home : n ≡ reactor_of t s = number n (reactor_of t s) may.1 in
    let low : Each (λ u. u < s) (collect fresh_in (bare took)) = below_last s (collect fresh_in (bare took)) (subst Rises (more_of fresh_in took x) fair.once) in
    let under : Each (λ u. u < s) (sessions cs ls) = each_append (λ u. u < s) (collect session_in cs) (collect session_over ls) (came_conns t n took pushed (λ u. u < s) low cs q.conns) (came_over t a w took pushed (λ u. u < s) low ls q.over) in
    let new : Each (λ u. ¬ (u ≡ s)) (sessions cs ls) = each_more (λ u. u < s) (λ u. ¬ (u ≡ s)) (sessions cs ls) (λ u lt e. absurd (omega arith)) under in
    let p : Perm Conn (cs ++ f ∷ []) (f ∷ cs) = subst (λ (ds : List Conn). Perm Conn (cs ++ f ∷ []) (f ∷ ds)) (append-nil cs) (perm_front f cs []) in
    lists_perm t a w n (took ++ x ∷ []) pushed (f ∷ cs) (cs ++ f ∷ []) ls (perm_sym p)
    (record {
      conns = (subst (λ (y : ActorId). QuietConn t n (took ++ (y, FreshMsg ip s) ∷ []) pushed f) (sym may.0) (fresh_quiet t n took pushed starved ip s home (q.stranger s new)), each_more (QuietConn t n took pushed) (QuietConn t n (took ++ x ∷ []) pushed) cs (λ c g. plain_keeps t n took pushed c x g refl) q.conns);
      over = over_took t a w took pushed x ls q.over;
      distinct = (each_more (λ u. u < s) (λ u. ¬ (s ≡ u)) (sessions cs ls) (λ u lt e. absurd (omega arith)) under, q.distinct);
      stranger = λ u h. q.stranger u h.1;
      routed = q.routed;
      came = subst (Perm ℕ (s ∷ sessions cs ls)) (sym (more_of fresh_in took x)) (Then (Skip s q.came) (perm_sym (ends_front s (collect fresh_in (bare took)))));
    })
  where
    number : (x y : ℕ) → Reactor x ≡ Reactor y → x ≡ y
    number x y e = cc
