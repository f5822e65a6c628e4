-- Mode 1: packets go round the workers.
use Rattle.std.proofs.Common.{◌≡◌, ◌⊎◌, ℕ, ◌+◌, ◌<◌, ◌≤◌, ◌==◌, Bool, true, false, List, [], ◌∷◌, ◌++◌, length, refl, ap, ◌∙◌, sym, subst, arith, Option, Some, None, slice_get, inl, inr, zero, suc}
use Rattle.sw_lists.proofs.Lists.{bool_cases, collect-collect, collect-same, each_more, eq_is, eq_same, perm_has}
use Rattle.sw_lists.specs.Lists.{collect, Each, Has, when}
use Rattle.sw_lists.specs.Perm.{Perm, Nil, Skip, Swap, Then}
use Rattle.sw_step.specs.Actors.{is}
use Rattle.sw_step.specs.declared.actor.ActorId.{ActorId}
use Rattle.sw_step.specs.declared.actor.ActorId.TheVariants.{Reactor, Worker}
use Rattle.sw_record.specs.Counts.{dispatched_of, total}
use Rattle.sw_record.specs.Logs.{events_of}
use Rattle.sw_record.specs.Rounds.{rounds, packet_by, at_reactor, link_of, AllCutEnds, RoundRight}
use Rattle.sw_record.specs.Sessions.{some_of}
use Rattle.sw_record.specs.Terms.{Terms, session_of, reactor_of}
use Rattle.sw_record.specs.Words.{Connect, Packet, Closed, Finish, Task, Log}
use Rattle.sw_record.specs.declared.record.LinkRecord.{LinkRecord}
use Rattle.sw_record.specs.declared.record.Record.{Record}
use Rattle.sw_past.specs.Messages.{Message, FreshMsg, SendMsg, CloseMsg, ResetMsg, Bye, EventMsg, OverMsg, NoMore}
use Rattle.sw_past.specs.Past.{Mail, Past, bare, of}
use Rattle.sw_past.specs.Routes.{MayPush, crew}
use Rattle.sw_past.specs.Views.{event_in, heard_in, no_more, packet_msg}
use Rattle.sw_join.proofs.Drained.{count_once, each_has, length_crew, one_each, pipe_whole, took_enders}
use Rattle.sw_join.proofs.Merged.{crew_has}
use Rattle.sw_join.proofs.Routes.{one_sender}
use Rattle.sw_join.proofs.Senders.{count}
use Rattle.sw_join.proofs.Shown.{shown_worker}
use Rattle.sw_join.proofs.Told.{all_routed, took_all}
use Rattle.sw_join.specs.Drained.{FinishedLaws}
use Rattle.sw_join.specs.Laws.{Aim, Ending, Joint, Locals}
use Rattle.sw_join.specs.Rounds.{RoundLaws}
use Rattle.sw_join.specs.Shown.{IsShown}

pub perm_total : {xs ys : List LinkRecord} → Perm LinkRecord xs ys → total xs ≡ total ys
perm_total Nil = refl
perm_total (Skip x p) = ap (λ n. dispatched_of x.state + n) (perm_total p)
perm_total (Swap x y xs) = omega arith
perm_total (Then p q) = perm_total p ∙ perm_total q

-- a worker's handler hears of packets
heard_packets : (t : Terms) (n k : ℕ) (m : Message) → collect (packet_by t n) (heard_in (Worker k) m) ≡ collect (packet_by t n) (event_in m)
heard_packets t n k (EventMsg (Connect u)) = refl
heard_packets t n k (EventMsg (Packet u i b)) = refl
heard_packets t n k (EventMsg (Closed u)) = refl
heard_packets t n k (EventMsg (Finish id b)) = refl
heard_packets t n k (EventMsg (Task v id b)) = refl
heard_packets t n k (FreshMsg ip u) = refl
heard_packets t n k (SendMsg u b) = refl
heard_packets t n k (CloseMsg u) = refl
heard_packets t n k (ResetMsg u) = refl
heard_packets t n k (Bye u) = refl
heard_packets t n k (OverMsg id) = refl
heard_packets t n k NoMore = refl

-- packets of a reactor's sessions come from it
packet_sender : (t : Terms) (n : ℕ) (from to : ActorId) (m : Message) → MayPush t from to m → (collect (packet_by t n) (event_in m) ≡ []) ⊎ (from ≡ Reactor n)
packet_sender t n from to (EventMsg (Packet s i b)) h = elim (bool_cases (reactor_of t s == n)) [ inl e ↦ inr (h.0 ∙ ap Reactor (eq_is (reactor_of t s) n e)) | inr e ↦ inl (rw e refl) ]
packet_sender t n from to (EventMsg (Connect u)) h = inl refl
packet_sender t n from to (EventMsg (Closed u)) h = inl refl
packet_sender t n from to (EventMsg (Finish id b)) h = inl refl
packet_sender t n from to (EventMsg (Task v id b)) h = inl refl
packet_sender t n from to (FreshMsg ip u) h = inl refl
packet_sender t n from to (SendMsg u b) h = inl refl
packet_sender t n from to (CloseMsg u) h = inl refl
packet_sender t n from to (ResetMsg u) h = inl refl
packet_sender t n from to (Bye u) h = inl refl
packet_sender t n from to (OverMsg id) h = inl refl
packet_sender t n from to NoMore h = inl refl

-- and all that it pushed are of its sessions
packet_own : (t : Terms) (n : ℕ) (to : ActorId) (m : Message) → MayPush t (Reactor n) to m → collect (packet_by t n) (event_in m) ≡ packet_msg m
packet_own t n to (EventMsg (Packet s i b)) h = rw (eq_same (reactor_of t s) n (let q : Reactor n ≡ Reactor (reactor_of t s) = h.0 in let e : reactor_of t s ≡ n = cc in e)) refl
packet_own t n to (EventMsg (Connect u)) h = refl
packet_own t n to (EventMsg (Closed u)) h = refl
packet_own t n to (EventMsg (Finish id b)) h = refl
packet_own t n to (EventMsg (Task v id b)) h = refl
packet_own t n to (FreshMsg ip u) h = refl
packet_own t n to (SendMsg u b) h = refl
packet_own t n to (CloseMsg u) h = refl
packet_own t n to (ResetMsg u) h = refl
packet_own t n to (Bye u) h = refl
packet_own t n to (OverMsg id) h = refl
packet_own t n to NoMore h = refl

own_share : (t : Terms) (n : ℕ) (y : ActorId) (ms : Mail) → Each (λ (e : ActorId × Message). MayPush t (Reactor n) e.0 e.1) ms → collect (λ m. collect (packet_by t n) (event_in m)) (of y ms) ≡ collect packet_msg (of y ms)
own_share t n y [] h = refl
own_share t n y (e ∷ ms) h = pick (is e.0 y) (own_share t n y ms h.1)
  where
    pick : (b : Bool) → collect (λ m. collect (packet_by t n) (event_in m)) (of y ms) ≡ collect packet_msg (of y ms) → collect (λ m. collect (packet_by t n) (event_in m)) (when b e.1 ++ of y ms) ≡ collect packet_msg (when b e.1 ++ of y ms)
    pick true r = ap (λ (xs : List ℕ). xs ++ collect (λ m. collect (packet_by t n) (event_in m)) (of y ms)) (packet_own t n e.0 e.1 h.0) ∙ ap (λ (xs : List ℕ). packet_msg e.1 ++ xs) r
    pick false r = r

-- where nothing is left, a link of a reactor's that the record shows is kept by it
kept_cut : (t : Terms) (r : Record) (n : ℕ) → AllCutEnds t r n → (ls : List LinkRecord) → ((l : LinkRecord) → Has l ls → Has l r.links) → (l : LinkRecord) → Has l (collect (link_of t n) ls) → (s : ℕ) → session_of l.state ≡ Some s → (reactor_of t s ≡ n) × Has l r.links
kept_cut t r n a [] f l h s is = absurd (let q : slice_get [] h.0 ≡ Some l = h.1 in cc)
kept_cut t r n a (k ∷ ls) f l h s is = split (session_of k.state) refl h (λ g. kept_cut t r n a ls (λ x y. f x (suc y.0, y.1)) l g s is)
  where
    split : (o : Option ℕ) → session_of k.state ≡ o → Has l (collect (at_reactor t n k) (some_of o) ++ collect (link_of t n) ls) → (Has l (collect (link_of t n) ls) → (reactor_of t s ≡ n) × Has l r.links) → (reactor_of t s ≡ n) × Has l r.links
    split None q g more = more g
    split (Some u) q g more = one (reactor_of t u == n) refl g
      where
        one : (b : Bool) → reactor_of t u == n ≡ b → Has l ((when b k ++ []) ++ collect (link_of t n) ls) → (reactor_of t s ≡ n) × Has l r.links
        one true e (zero, z) =
            (let same : k ≡ l = cc in
            let m : u ≡ s = (let a1 : session_of k.state ≡ Some s = ap (λ (x : LinkRecord). session_of x.state) same ∙ is in let a2 : ◌≡◌ {A = Option ℕ} (Some u) (Some s) = sym q ∙ a1 in cc) in
            (ap (reactor_of t) (sym m) ∙ eq_is (reactor_of t u) n e, f l (0, ap (λ x. Some x) same)))
        one true e (suc c, z) = more (c, z)
        one false e z = more z

pub round_right : (t : Terms) (a : Aim) (w : Ending) (h : Past) (r : Record) → Locals t a w h → Joint t h → IsShown t h r → FinishedLaws t h → RoundLaws t h r → RoundRight t r
round_right t a w h r l j i f c n lt cut k log there =
    let b = shown_worker t h r i k log there in
    let y : ActorId = Worker k in
    let x : ActorId = Reactor n in
    let g : Message → List ℕ = λ m. collect (packet_by t n) (event_in m) in
    let heard : collect (packet_by t n) (events_of (h.log y)) ≡ collect g (bare (h.took y)) =
    ap (collect (packet_by t n)) (f.heard y (inl (k, (b.0, refl)))) ∙ collect-collect (packet_by t n) (heard_in y) (bare (h.took y)) ∙ collect-same (λ m. collect (packet_by t n) (heard_in y m)) g (heard_packets t n k) (bare (h.took y)) in
    let mine : collect g (of x (h.took y)) ≡ collect g (bare (h.took y)) =
    one_sender g x (h.took y) (each_more (λ (e : ActorId × Message). MayPush t e.0 y e.1) (λ (e : ActorId × Message). (g e.1 ≡ []) ⊎ (e.0 ≡ x)) (h.took y) (λ e q. packet_sender t n e.0 y e.1 q) (took_all t a w h l j y)) in
    let whole : of x (h.took y) ≡ of y (h.pushed x) = pipe k b.0 in
    let own : collect g (of y (h.pushed x)) ≡ collect packet_msg (of y (h.pushed x)) = own_share t n y (h.pushed x) (all_routed t a w h l j x) in
    let count : length (collect packet_msg (of y (h.pushed x))) ≡ rounds t.worker_num (total (h.kept n)) k =
    c.round n lt (λ s o has is. (let z = kept_cut t r n cut r.links (λ o q. q) o (perm_has o (c.shares n lt) has) s is in cut s o (record { at = z.1.0; there = z.1.1; session = is }) z.0)) k b.0 in
    ap (λ (z : Log). length (collect (packet_by t n) (events_of z))) (sym b.1)
    ∙ ap (λ zs. length zs) (heard ∙ sym mine ∙ ap (collect g) whole ∙ own)
    ∙ count ∙ ap (λ z. rounds t.worker_num z k) (perm_total (c.shares n lt))
  where
    -- NoMore comes to a worker from the reactors that are there
    senders : (m : ℕ) → Each (λ (e : ActorId × Message). (no_more e.1 ≡ []) ⊎ Has e.0 (crew Reactor 0 t.reactor_num)) (h.took (Worker m))
    senders m = took_enders t a w h l j (Worker m) (crew Reactor 0 t.reactor_num) (λ y e. rw e.1.1 (subst (λ (q : ℕ). Has (Reactor q) (crew Reactor 0 t.reactor_num)) (let z : 0 + e.0 ≡ e.0 = omega arith in z) (crew_has Reactor 0 t.reactor_num e.0 e.1.0)))

    pipe : (m : ℕ) → m < t.worker_num → of (Reactor n) (h.took (Worker m)) ≡ of (Worker m) (h.pushed (Reactor n))
    pipe m ltm =
        (let ys : List ActorId = crew Reactor 0 t.reactor_num in
        let len : length (crew Reactor 0 t.reactor_num) ≡ t.reactor_num = length_crew Reactor 0 t.reactor_num in
        let all : t.reactor_num ≤ length (collect no_more (bare (h.took (Worker m)))) = c.worker_all m ltm in
        let each = one_each t (Worker m) ys (h.took (Worker m)) (senders m) (count_once t h j f (Worker m) ys) (omega arith) in
        pipe_whole t h j f (Worker m) (Reactor n) (c.reactor_last n m lt) (each_has (λ y. 1 ≤ count no_more (h.took (Worker m)) y) ys (Reactor n) each (subst (λ (q : ℕ). Has (Reactor q) (crew Reactor 0 t.reactor_num)) (let e : 0 + n ≡ n = omega arith in e) (crew_has Reactor 0 t.reactor_num n lt))))
