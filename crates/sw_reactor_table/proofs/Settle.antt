-- A message that a reactor took keeps each connection quiet, and so does the stop word.
use Rattle.std.proofs.Common.{◌≡◌, ℕ, ◌+◌, ◌-◌, ◌<◌, ◌≤◌, ◌==◌, Bool, true, false, nat_lt, if◌then◌else◌, List, [], ◌∷◌, ◌++◌, length, refl, ap, ◌∙◌, sym, subst, append-nil, arith, Option, Some, None}
use Rattle.std.proofs.lemmas.Bool.Decides.{nat_tests}
use Rattle.std.specs.List.{concat}
use Rattle.sw_conn.specs.Causes.{hard, is_hard}
use Rattle.sw_conn.specs.Conn.{set_soft, set_hard}
use Rattle.sw_lists.specs.Lists.{collect, when}
use Rattle.sw_lists.proofs.Lists.{eq_same, eq_other, eq_is, append_none}
use Rattle.sw_step.specs.declared.actor.ActorId.{ActorId}
use Rattle.sw_record.specs.Words.{Cause, PeerEnd, ServerClose, ResetCause, ReadFault, WriteFault, TooLong, BadLength, Overflow, Stop, NoSlot, NumbersSpent, NoMemory}
use Rattle.sw_record.specs.Terms.{Terms}
use Rattle.sw_record.specs.Whole.{IsAllCut}
use Rattle.sw_past.specs.Messages.{Message, FreshMsg, SendMsg, CloseMsg, ResetMsg, Bye, EventMsg, OverMsg, NoMore}
use Rattle.sw_past.specs.Past.{Mail, bare}
use Rattle.sw_past.specs.Views.{sends_in, byes_in, close_of, reset_of}
use Rattle.sw_reactor_table.specs.Conn.{Conn, sent, sent_open, takes, stops}
use Rattle.sw_reactor_table.specs.Quiet.{IsCaused, Flows, HasCause, QuietConn, dues}
use Rattle.sw_reactor_table.proofs.Flow.{more_of, flow_late, flow_mid, flow_plain, flow_much, flow_soft, flow_hard}
use Rattle.sw_reactor_table.proofs.Tale.{tale_cause, held_cause}

pub lt_is : (m n : ℕ) → nat_lt m n ≡ true → m < n
lt_is m n e = grind (arith, nat_tests)

pub lt_not : (m n : ℕ) → nat_lt m n ≡ false → n ≤ m
lt_not m n e = grind (arith, nat_tests)

pub eq_isnt : (m n : ℕ) → (m == n) ≡ false → ¬ (m ≡ n)
eq_isnt m n e q = (let r : true ≡ false = sym (eq_same m n q) ∙ e in cc)

-- hard causes are none of those at which all was cut
pub hard_cuts : (e : Cause) → hard e ≡ true → IsAllCut e → ⊥
hard_cuts PeerEnd h a = cc
hard_cuts ServerClose h a = a
hard_cuts ResetCause h a = a
hard_cuts ReadFault h a = cc
hard_cuts WriteFault h a = a
hard_cuts (TooLong n) h a = cc
hard_cuts (BadLength n) h a = cc
hard_cuts (Overflow n) h a = a
hard_cuts Stop h a = a
hard_cuts NoSlot h a = a
hard_cuts NumbersSpent h a = a
hard_cuts NoMemory h a = a

-- what came last stands among what came
came_last : (f : Message → List ℕ) (took : Mail) (x : ActorId × Message) (u : ℕ) → f x.1 ≡ u ∷ [] → ¬ (collect f (bare (took ++ x ∷ [])) ≡ [])
came_last f took x u e z = (let p : f x.1 ≡ [] = (append_none (collect f (bare took)) (f x.1) (sym (more_of f took x) ∙ z)).1 in let q : u ∷ [] ≡ [] = sym e ∙ p in cc)

-- another cause
pub cause_keeps : (t : Terms) (n : ℕ) (took pushed later : Mail) (c : Conn) (other : Option Cause) → QuietConn t n took pushed c → HasCause other → ((e : Cause) → other ≡ Some e → IsAllCut e → c.cause ≡ Some e) → Flows t c.ip c.session other c.written c.unsent c.awaited later (dues t c.session pushed) → QuietConn t n later pushed (record c { cause = other })
cause_keeps t n took pushed later c other q h w f =
    record {
      home = q.home;
      flows = f;
      tale = tale_cause t c.ip c.session c.uid c.split c.pieces c.taken c.dispatched c.cause other c.phase pushed q.tale h (λ e r a. q.tale.whole e (w e r a) a);
      held = held_cause t c.ip c.session c.uid c.split c.pieces c.taken c.dispatched c.cause other c.phase c.held h q.held;
    }

-- a message without bytes or Bye for it
pub plain_keeps : (t : Terms) (n : ℕ) (took pushed : Mail) (c : Conn) (x : ActorId × Message) → QuietConn t n took pushed c → sends_in c.session x.1 ≡ [] → QuietConn t n (took ++ x ∷ []) pushed c
plain_keeps t n took pushed c x q none =
    record { home = q.home; flows = flow_plain t c.ip c.session c.cause c.written c.unsent c.awaited (dues t c.session pushed) took q.flows x c.awaited none (omega arith); tale = q.tale; held = q.held }

unsent_for : (u s : ℕ) (b : List ℕ) → (s == u) ≡ false → sends_in s (SendMsg u b) ≡ []
unsent_for u s b e = rw (eq_other u s (λ (p : u ≡ s). eq_isnt s u e (sym p))) refl

sent_for : (u s : ℕ) (b : List ℕ) → (s == u) ≡ true → concat (sends_in s (SendMsg u b)) ≡ b
sent_for u s b e = ap (λ (z : Bool). concat (when z b)) (eq_same u s (sym (eq_is s u e))) ∙ append-nil b

byes_for : (u s : ℕ) → (s == u) ≡ true → length (byes_in s (Bye u)) ≡ 1
byes_for u s e = ap (λ (z : Bool). length (when z u)) (eq_same u s (sym (eq_is s u e)))

-- to a hard cause that is no overflow
pub hard_now : (t : Terms) (n : ℕ) (took pushed : Mail) (c : Conn) (e : Cause) → QuietConn t n took pushed c → hard e ≡ true → ((m : ℕ) → Some e ≡ Some (Overflow m) → ⊥) → IsCaused c.session (Some e) took → QuietConn t n took pushed (record c { cause = Some e })
hard_now t n took pushed c e q h over y =
    cause_keeps t n took pushed took c (Some e) q (e, refl) (λ d r a. absurd (hard_cuts d (let g : e ≡ d = (let z : Some e ≡ Some d = r in cc) in ap hard (sym g) ∙ h) a))
    (flow_hard t c.ip c.session c.cause (Some e) c.written c.unsent c.unsent c.awaited (dues t c.session pushed) took q.flows h (λ m r. absurd (over m r)) y)

-- its cause as it was
same_cause : (t : Terms) (n : ℕ) (took pushed : Mail) (c : Conn) (d : Cause) → QuietConn t n took pushed c → c.cause ≡ Some d → QuietConn t n took pushed (record c { cause = Some d })
same_cause t n took pushed c d q e =
    cause_keeps t n took pushed took c (Some d) q (d, refl) (λ z r a. e ∙ r)
    (subst (λ (z : Option Cause). Flows t c.ip c.session z c.written c.unsent c.awaited took (dues t c.session pushed)) e q.flows)

reset_by : (t : Terms) (n : ℕ) (took pushed : Mail) (c : Conn) (e : Cause) → QuietConn t n took pushed c → hard e ≡ true → ((m : ℕ) → Some e ≡ Some (Overflow m) → ⊥) → IsCaused c.session (Some e) took → (cause : Option Cause) → c.cause ≡ cause → QuietConn t n took pushed (record c { cause = set_hard e cause })
reset_by t n took pushed c e q h over y None r = hard_now t n took pushed c e q h over y
reset_by t n took pushed c e q h over y (Some d) r = pick (hard d)
  where
    pick : (b : Bool) → QuietConn t n took pushed (record c { cause = (if b then Some d else Some e) })
    pick true = same_cause t n took pushed c d q r
    pick false = hard_now t n took pushed c e q h over y

pub stops_keeps : (t : Terms) (n : ℕ) (took pushed : Mail) (c : Conn) → QuietConn t n took pushed c → QuietConn t n took pushed (stops c)
stops_keeps t n took pushed c q = reset_by t n took pushed c Stop q refl (λ m r. absurd (cc)) ((λ e. absurd (cc)), (λ e. absurd (cc))) c.cause refl

close_by : (t : Terms) (n : ℕ) (took pushed : Mail) (c : Conn) → QuietConn t n took pushed c → ¬ (collect (close_of c.session) (bare took) ≡ []) → (cause : Option Cause) → c.cause ≡ cause → QuietConn t n took pushed (record c { cause = set_soft ServerClose cause })
close_by t n took pushed c q y None r =
    cause_keeps t n took pushed took c (Some ServerClose) q (ServerClose, refl) (λ d z a. absurd (let g : ServerClose ≡ d = (let y : Some ServerClose ≡ Some d = z in cc) in subst IsAllCut (sym g) a))
    (flow_soft t c.ip c.session c.cause (Some ServerClose) c.written c.unsent c.awaited (dues t c.session pushed) took q.flows (ap is_hard r) refl ((λ e. y), (λ e. absurd (cc))))
close_by t n took pushed c q y (Some d) r = same_cause t n took pushed c d q r

sent_keeps : (t : Terms) (n : ℕ) (took pushed : Mail) (starved : Bool) (c : Conn) (from : ActorId) (b : List ℕ) (u : ℕ) → QuietConn t n took pushed c → c.session ≡ u → concat (sends_in c.session (SendMsg u b)) ≡ b → QuietConn t n (took ++ (from, SendMsg u b) ∷ []) pushed (sent t starved b c)
sent_keeps t n took pushed starved c from b u q same own = pick (is_hard c.cause) refl
  where
    x : ActorId × Message
    x = (from, SendMsg u b)

    many : ℕ
    many = dues t c.session pushed

    full : is_hard c.cause ≡ false → (d : Bool) → nat_lt t.buffer_size (length c.unsent + length b) ≡ d → QuietConn t n (took ++ (from, SendMsg u b) ∷ []) pushed (if d then record c { cause = Some (Overflow (length c.unsent + length b)) } else (if starved then record c { cause = Some NoMemory } else record c { unsent = c.unsent ++ b }))
    full h true e =
        subst (λ (v : ℕ). QuietConn t n (took ++ (from, SendMsg v b) ∷ []) pushed (record c { cause = Some (Overflow (length c.unsent + length b)) })) same
        (cause_keeps t n took pushed (took ++ (from, SendMsg c.session b) ∷ []) c (Some (Overflow (length c.unsent + length b))) q (Overflow (length c.unsent + length b), refl)
        (λ d z a. absurd (let g : Overflow (length c.unsent + length b) ≡ d = (let y : Some (Overflow (length c.unsent + length b)) ≡ Some d = z in cc) in subst IsAllCut (sym g) a))
        (flow_much t c.ip c.session c.cause c.written c.unsent c.awaited (dues t c.session pushed) took q.flows h from b (lt_is t.buffer_size (length c.unsent + length b) e)))
    full h false e = fed starved
      where
        grown : Flows t c.ip c.session c.cause c.written (c.unsent ++ b) c.awaited (took ++ (from, SendMsg u b) ∷ []) (dues t c.session pushed)
        grown = subst (λ (bs : List ℕ). Flows t c.ip c.session c.cause c.written (c.unsent ++ bs) c.awaited (took ++ (from, SendMsg u b) ∷ []) (dues t c.session pushed)) own (flow_mid t c.ip c.session c.cause c.written c.unsent c.awaited (dues t c.session pushed) took q.flows h (from, SendMsg u b) c.awaited (omega arith))

        fed : (d : Bool) → QuietConn t n (took ++ (from, SendMsg u b) ∷ []) pushed (if d then record c { cause = Some NoMemory } else record c { unsent = c.unsent ++ b })
        fed true =
            cause_keeps t n took pushed (took ++ (from, SendMsg u b) ∷ []) c (Some NoMemory) q (NoMemory, refl)
            (λ d z a. absurd (let g : NoMemory ≡ d = (let y : Some NoMemory ≡ Some d = z in cc) in subst IsAllCut (sym g) a))
            (flow_hard t c.ip c.session c.cause (Some NoMemory) c.written (c.unsent ++ b) c.unsent c.awaited (dues t c.session pushed) (took ++ (from, SendMsg u b) ∷ []) grown refl (λ m r. absurd (cc)) ((λ e. absurd (cc)), (λ e. absurd (cc))))
        fed false = record { home = q.home; flows = grown; tale = q.tale; held = q.held }

    pick : (d : Bool) → is_hard c.cause ≡ d → QuietConn t n (took ++ (from, SendMsg u b) ∷ []) pushed (if d then c else sent_open t starved b (length c.unsent + length b) c)
    pick true h = record { home = q.home; flows = flow_late t c.ip c.session c.cause c.written c.unsent c.awaited (dues t c.session pushed) took q.flows h (from, SendMsg u b) c.awaited (omega arith); tale = q.tale; held = q.held }
    pick false h = full h (nat_lt t.buffer_size (length c.unsent + length b)) refl

-- a message that came
pub takes_keeps : (t : Terms) (n : ℕ) (took pushed : Mail) (starved : Bool) (c : Conn) (from : ActorId) (m : Message) → QuietConn t n took pushed c → QuietConn t n (took ++ (from, m) ∷ []) pushed (takes t starved m c)
takes_keeps t n took pushed starved c from (FreshMsg ip u) q = plain_keeps t n took pushed c (from, FreshMsg ip u) q refl
takes_keeps t n took pushed starved c from (SendMsg u b) q = pick (c.session == u) refl
  where
    pick : (d : Bool) → (c.session == u) ≡ d → QuietConn t n (took ++ (from, SendMsg u b) ∷ []) pushed (if d then sent t starved b c else c)
    pick true e = sent_keeps t n took pushed starved c from b u q (eq_is c.session u e) (sent_for u c.session b e)
    pick false e = plain_keeps t n took pushed c (from, SendMsg u b) q (unsent_for u c.session b e)
takes_keeps t n took pushed starved c from (CloseMsg u) q = pick (c.session == u) refl
  where
    pick : (d : Bool) → (c.session == u) ≡ d → QuietConn t n (took ++ (from, CloseMsg u) ∷ []) pushed (if d then record c { cause = set_soft ServerClose c.cause } else c)
    pick true e = close_by t n (took ++ (from, CloseMsg u) ∷ []) pushed c (plain_keeps t n took pushed c (from, CloseMsg u) q refl) (came_last (close_of c.session) took (from, CloseMsg u) u (ap (λ (z : Bool). when z u) (eq_same u c.session (sym (eq_is c.session u e))))) c.cause refl
    pick false e = plain_keeps t n took pushed c (from, CloseMsg u) q refl
takes_keeps t n took pushed starved c from (ResetMsg u) q = pick (c.session == u) refl
  where
    pick : (d : Bool) → (c.session == u) ≡ d → QuietConn t n (took ++ (from, ResetMsg u) ∷ []) pushed (if d then record c { cause = set_hard ResetCause c.cause } else c)
    pick true e = reset_by t n (took ++ (from, ResetMsg u) ∷ []) pushed c ResetCause (plain_keeps t n took pushed c (from, ResetMsg u) q refl) refl (λ m r. absurd (cc)) ((λ z. absurd (cc)), (λ z. came_last (reset_of c.session) took (from, ResetMsg u) u (ap (λ (z : Bool). when z u) (eq_same u c.session (sym (eq_is c.session u e)))))) c.cause refl
    pick false e = plain_keeps t n took pushed c (from, ResetMsg u) q refl
takes_keeps t n took pushed starved c from (Bye u) q = pick (c.session == u) refl
  where
    pick : (d : Bool) → (c.session == u) ≡ d → QuietConn t n (took ++ (from, Bye u) ∷ []) pushed (if d then record c { awaited = c.awaited - 1 } else c)
    pick true e =
        record {
          home = q.home;
          flows = flow_plain t c.ip c.session c.cause c.written c.unsent c.awaited (dues t c.session pushed) took q.flows (from, Bye u) (c.awaited - 1) refl (let k : length (byes_in c.session (Bye u)) ≡ 1 = byes_for u c.session e in omega arith);
          tale = q.tale;
          held = q.held;
        }
    pick false e = plain_keeps t n took pushed c (from, Bye u) q refl
takes_keeps t n took pushed starved c from (EventMsg e) q = plain_keeps t n took pushed c (from, EventMsg e) q refl
takes_keeps t n took pushed starved c from (OverMsg id) q = plain_keeps t n took pushed c (from, OverMsg id) q refl
takes_keeps t n took pushed starved c from NoMore q = plain_keeps t n took pushed c (from, NoMore) q refl
