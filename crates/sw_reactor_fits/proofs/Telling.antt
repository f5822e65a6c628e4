-- What a connection's link tells behind a write, a choice and a read, and what a choice says of what was held.
use Rattle.std.proofs.Common.{◌≡◌, ℕ, ◌^◌, ◌-◌, Bool, true, false, nat_lt, if◌then◌else◌, List, Option, Some, None, refl, ap, ◌∙◌, sym, subst}
use Rattle.std.specs.Bool.{MatchBool}
use Rattle.sw_data.specs.declared.ended.Cause.{Cause}
use Rattle.sw_data.specs.declared.ended.Cause.TheVariants as causes
use Rattle.sw_frame.specs.declared.next.Next.{Next}
use Rattle.sw_frame.specs.declared.next.Next.TheVariants as next
use Rattle.sw_link.specs.declared.link.LinkWrite.{LinkWrite}
use Rattle.sw_link.specs.declared.link.LinkWrite.TheVariants as writing
use Rattle.sw_link.specs.Reads.{Read, GotPiece, ReadNotYet, ReadEnd, ReadFailed}
use Rattle.sw_conn.specs.declared.conn.Conn.{Conn}
use Rattle.sw_conn.specs.declared.serve.Step.{Step}
use Rattle.sw_conn.specs.declared.serve.Step.TheVariants as steps
use Rattle.sw_conn.specs.declared.terms.Terms.{Terms as Settings}
use Rattle.sw_conn.specs.Conn as conn
use Rattle.sw_conn.specs.Serve as serving
use Rattle.sw_record.specs.Words.{Event, Connect, Closed}
use Rattle.sw_reactor_table.specs.Conn.{Conn as Row}
use Rattle.sw_reactor_table.specs.Conn as table
use Rattle.sw_conn_fits.specs.Shown.{shown, write_of, written_by, pieces_by}
use Rattle.sw_conn_fits.proofs.Conn.{shown_flushed}
use Rattle.sw_reactor.specs.Serving.{Ports}
use Rattle.sw_reactor_fits.specs.Told.{Telling, IsCauseTold, TellsOf, ReadTold, DoTell}

-- the ticket and the session stay
pub record Keyed {L K : Type 0} (c d : Conn L K) : Type 0 where
  pub ticket : d.ticket ≡ c.ticket
  pub session : d.session ≡ c.session

pub own_then : {L K : Type 0} (view : Telling L K) (c d : Conn L K) → Keyed c d → view.number c.ticket ≡ c.session → view.number d.ticket ≡ d.session
own_then view c d k h = ap view.number k.ticket ∙ h ∙ sym k.session

-- a cause stays told as the link writes
stays : {L K B C E : Type 0} (view : Telling L K) (p : Ports L K B C E) → DoTell view p → (l m : L) (us : List ℕ) (w : LinkWrite) → p.writes l us w m → (o : Option Cause) → IsCauseTold view l o → IsCauseTold view m o
stays view p t l m us w z None h = tt
stays view p t l m us w z (Some causes.PeerEnd) h = t.end_stays l m us w z h
stays view p t l m us w z (Some causes.ReadFault) h = t.failed_stays l m us w z h
stays view p t l m us w z (Some causes.WriteFault) h = t.failed_stays l m us w z h
stays view p t l m us w z (Some causes.ServerClose) h = tt
stays view p t l m us w z (Some causes.Reset) h = tt
stays view p t l m us w z (Some (causes.TooLong n)) h = tt
stays view p t l m us w z (Some (causes.BadLength n)) h = tt
stays view p t l m us w z (Some (causes.Overflow n)) h = tt
stays view p t l m us w z (Some causes.Stop) h = tt
stays view p t l m us w z (Some causes.NoSlot) h = tt
stays view p t l m us w z (Some causes.NumbersSpent) h = tt
stays view p t l m us w z (Some causes.NoMemory) h = tt

written_same : (w : LinkWrite) (us a b : List ℕ) → a ≡ b → written_by (Some w) us a ≡ written_by (Some w) us b
written_same w us a b e = ap (written_by (Some w) us) e

-- a write
pub flush_tells : {L K B C E : Type 0} (view : Telling L K) (p : Ports L K B C E) → DoTell view p → (c d : Conn L K) (ps : List (List ℕ)) (ws : List ℕ) (wrote : Option LinkWrite) → serving.FlushedBy p.writes c wrote d → TellsOf view c.link ps ws c.cause → TellsOf view d.link ps (written_by wrote c.unsent ws) d.cause
flush_tells {L} {K} view p t c d ps ws None f h = subst (λ (y : Conn L K). TellsOf view y.link ps ws y.cause) (sym f.1) h
flush_tells {L} {K} view p t c d ps ws (Some w) f h = (t.write_pieces c.link d.link c.unsent w f.1 ∙ h.0, t.write_written c.link d.link c.unsent w f.1 ∙ written_same w c.unsent (view.written c.link) ws h.1, subst (IsCauseTold view d.link) (sym (ap (λ (y : Conn L K). y.cause) f.2)) (by w f.1))
  where
    by : (v : LinkWrite) → p.writes c.link c.unsent v d.link → IsCauseTold view d.link (conn.wrote v c).cause
    by (writing.Took n) z = stays view p t c.link d.link c.unsent (writing.Took n) z c.cause h.2
    by writing.NotYet z = stays view p t c.link d.link c.unsent writing.NotYet z c.cause h.2
    by writing.Failed z = t.write_told c.link d.link c.unsent writing.Failed z

pub flush_keyed : {L K : Type 0} (gives : L → List ℕ → LinkWrite → L → Type 0) (c d : Conn L K) (wrote : Option LinkWrite) → serving.FlushedBy gives c wrote d → Keyed c d
flush_keyed {L} {K} gives c d None f = record { ticket = ap (λ (y : Conn L K). y.ticket) f.1; session = ap (λ (y : Conn L K). y.session) f.1 }
flush_keyed {L} {K} gives c d (Some w) f = record { ticket = ap (λ (y : Conn L K). y.ticket) f.2 ∙ ticket w; session = ap (λ (y : Conn L K). y.session) f.2 ∙ session w }
  where
    ticket : (v : LinkWrite) → (conn.wrote v c).ticket ≡ c.ticket
    ticket (writing.Took n) = refl
    ticket writing.NotYet = refl
    ticket writing.Failed = refl

    session : (v : LinkWrite) → (conn.wrote v c).session ≡ c.session
    session (writing.Took n) = refl
    session writing.NotYet = refl
    session writing.Failed = refl

-- what a choice leaves alone
pub record Chose {L K : Type 0} (view : Telling L K) (c d : Conn L K) (step : Step) : Type 0 where
  pub link : d.link ≡ c.link
  pub keyed : Keyed c d
  pub told : IsCauseTold view c.link c.cause → IsCauseTold view c.link d.cause
  pub leaves : (e : Cause) → step ≡ steps.Leave e → d.cause ≡ Some e

same_chose : {L K : Type 0} (view : Telling L K) (c d : Conn L K) (step : Step) → d ≡ c → ((e : Cause) → step ≡ steps.Leave e → c.cause ≡ Some e) → Chose view c d step
same_chose {L} {K} view c d step e f =
    record {
      link = ap (λ (y : Conn L K). y.link) e;
      keyed = record { ticket = ap (λ (y : Conn L K). y.ticket) e; session = ap (λ (y : Conn L K). y.session) e };
      told = λ k. subst (λ (y : Conn L K). IsCauseTold view c.link y.cause) (sym e) k;
      leaves = λ x q. ap (λ (y : Conn L K). y.cause) e ∙ f x q;
    }

cut_chose : {L K : Type 0} (view : Telling L K) (n : Next) (c : Conn L K) → Chose view c (serving.cut_by n c).conn (serving.cut_by n c).step
cut_chose view (next.Packet b) c = record { link = refl; keyed = record { ticket = refl; session = refl }; told = λ k. k; leaves = λ e q. absurd (cc) }
cut_chose view next.More c = record { link = refl; keyed = record { ticket = refl; session = refl }; told = λ k. k; leaves = λ e q. absurd (cc) }
cut_chose view (next.TooLong n) c = record { link = refl; keyed = record { ticket = refl; session = refl }; told = λ k. tt; leaves = λ e q. absurd (cc) }
cut_chose view (next.BadLength n) c = record { link = refl; keyed = record { ticket = refl; session = refl }; told = λ k. tt; leaves = λ e q. absurd (cc) }
cut_chose view next.OutOfMemory c = record { link = refl; keyed = record { ticket = refl; session = refl }; told = λ k. tt; leaves = λ e q. absurd (cc) }

cause_chose : {L K : Type 0} (view : Telling L K) (s : Settings) (o : Option Cause) (c d : Conn L K) (step : Step) → c.cause ≡ o → serving.ChoosesCause s o c d step → Chose view c d step
cause_chose {L} {K} view s None c d step free m = pick (nat_lt c.dispatched (2 ^ 64 - 1)) m
  where
    pick : (x : Bool) → MatchBool x (serving.Cuts c d step) ((d ≡ c) × (step ≡ steps.Stay)) → Chose view c d step
    pick true (n, i, e, f) = subst (λ (y : Conn L K). Chose view c y step) (sym e) (subst (λ (z : Step). Chose view c (serving.cut_by n c).conn z) (sym f) (cut_chose view n c))
    pick false q = same_chose view c d step q.0 (λ e z. absurd (let k : steps.Stay ≡ steps.Leave e = sym q.1 ∙ z in cc))
cause_chose {L} {K} view s (Some e) c d step caused m = same_chose view c d step m.0 (λ x q. caused ∙ ap Some (sym (pick (serving.closes s c.phase) (serving.can_leave c) x (sym m.1 ∙ q))))
  where
    pick : (x y : Bool) (v : Cause) → (if x then steps.Tell (Closed c.session) else (if y then steps.Leave e else steps.Stay)) ≡ steps.Leave v → v ≡ e
    pick true y v q = absurd (cc)
    pick false true v q = cc
    pick false false v q = absurd (cc)

open_chose : {L K : Type 0} (view : Telling L K) (s : Settings) (c d : Conn L K) (step : Step) → serving.ChoosesOpen s c d step → Chose view c d step
open_chose {L} {K} view s c d step m = pick (serving.connects s c.phase) m
  where
    pick : (x : Bool) → MatchBool x ((d ≡ c) × (step ≡ steps.Tell (Connect c.session))) (serving.ChoosesCause s c.cause c d step) → Chose view c d step
    pick true q = same_chose view c d step q.0 (λ e z. absurd (let k : steps.Tell (Connect c.session) ≡ steps.Leave e = sym q.1 ∙ z in cc))
    pick false q = cause_chose view s c.cause c d step refl q

held_chose : {L K : Type 0} (view : Telling L K) (s : Settings) (o : Option (ℕ × Event)) (c d : Conn L K) (step : Step) → serving.ChoosesHeld s o c d step → Chose view c d step
held_chose view s None c d step m = open_chose view s c d step m
held_chose {L} {K} view s (Some h) c d step m =
    record {
      link = ap (λ (y : Conn L K). y.link) m.0;
      keyed = record { ticket = ap (λ (y : Conn L K). y.ticket) m.0; session = ap (λ (y : Conn L K). y.session) m.0 };
      told = λ k. subst (λ (y : Conn L K). IsCauseTold view c.link y.cause) (sym m.0) k;
      leaves = λ e q. absurd (let k : steps.Again h.0 h.1 ≡ steps.Leave e = sym m.1 ∙ q in cc);
    }

pub chose : {L K : Type 0} (view : Telling L K) (s : Settings) (c d : Conn L K) (step : Step) → serving.Chooses s c d step → Chose view c d step
chose view s c d step m = held_chose view s c.held c d step m

pub chose_tells : {L K : Type 0} (view : Telling L K) (c d : Conn L K) (step : Step) (ps : List (List ℕ)) (ws : List ℕ) → Chose view c d step → TellsOf view c.link ps ws c.cause → TellsOf view d.link ps ws d.cause
chose_tells {L} {K} view c d step ps ws k h = subst (λ (l : L). TellsOf view l ps ws d.cause) (sym k.link) (h.0, h.1, k.told h.2)

-- an event goes again where one was held, and else it is told
cut_tells_not : {L K : Type 0} (n : Next) (c : Conn L K) (w : ℕ) (e : Event) → (serving.cut_by n c).step ≡ steps.Again w e → ⊥
cut_tells_not (next.Packet b) c w e q = cc
cut_tells_not next.More c w e q = cc
cut_tells_not (next.TooLong n) c w e q = cc
cut_tells_not (next.BadLength n) c w e q = cc
cut_tells_not next.OutOfMemory c w e q = cc

cause_not : {L K : Type 0} (s : Settings) (o : Option Cause) (c d : Conn L K) (w : ℕ) (e : Event) → serving.ChoosesCause s o c d (steps.Again w e) → ⊥
cause_not {L} {K} s None c d w e m = pick (nat_lt c.dispatched (2 ^ 64 - 1)) m
  where
    pick : (x : Bool) → MatchBool x (serving.Cuts c d (steps.Again w e)) ((d ≡ c) × (steps.Again w e ≡ steps.Stay)) → ⊥
    pick true (n, i, q, f) = cut_tells_not n c w e (sym f)
    pick false q = absurd (let k : steps.Again w e ≡ steps.Stay = q.1 in cc)
cause_not s (Some x) c d w e m = pick (serving.closes s c.phase) (serving.can_leave c) m.1
  where
    pick : (y z : Bool) → steps.Again w e ≡ (if y then steps.Tell (Closed c.session) else (if z then steps.Leave x else steps.Stay)) → ⊥
    pick true z q = absurd (cc)
    pick false true q = absurd (cc)
    pick false false q = absurd (cc)

open_not : {L K : Type 0} (s : Settings) (c d : Conn L K) (w : ℕ) (e : Event) → serving.ChoosesOpen s c d (steps.Again w e) → ⊥
open_not {L} {K} s c d w e m = pick (serving.connects s c.phase) m
  where
    pick : (x : Bool) → MatchBool x ((d ≡ c) × (steps.Again w e ≡ steps.Tell (Connect c.session))) (serving.ChoosesCause s c.cause c d (steps.Again w e)) → ⊥
    pick true q = absurd (let k : steps.Again w e ≡ steps.Tell (Connect c.session) = q.1 in cc)
    pick false q = cause_not s c.cause c d w e q

pub again_held : {L K : Type 0} (s : Settings) (o : Option (ℕ × Event)) (c d : Conn L K) (w : ℕ) (e : Event) → serving.ChoosesHeld s o c d (steps.Again w e) → (h : ℕ × Event) × (o ≡ Some h)
again_held s (Some h) c d w e m = (h, refl)
again_held s None c d w e m = absurd (open_not s c d w e m)

pub tell_held : {L K : Type 0} (s : Settings) (o : Option (ℕ × Event)) (c d : Conn L K) (e : Event) → serving.ChoosesHeld s o c d (steps.Tell e) → o ≡ None
tell_held s None c d e m = refl
tell_held s (Some h) c d e m = absurd (let k : steps.Tell e ≡ steps.Again h.0 h.1 = m.1 in cc)

-- what the table's serve finds held is what the code finds held
pub tidied_held : {L K : Type 0} (gives : L → List ℕ → LinkWrite → L → Type 0) (c l : Conn L K) (d : Row) (n : ℕ) (wrote : Option LinkWrite) → serving.FlushedBy gives c wrote l → d ≡ shown d.pieces d.written n c → (a : table.Answers) → a.write ≡ write_of wrote → (table.tidied a d).held ≡ (conn.cleared l).held
tidied_held {L} {K} gives c l d n wrote f e a w =
    ap (λ (x : LinkWrite). (table.cleared (table.flushed x d)).held) w
    ∙ ap (λ (x : Row). (table.cleared (table.flushed (write_of wrote) x)).held) e
    ∙ ap (λ (x : Row). (table.cleared x).held) (sym (shown_flushed gives d.pieces d.written n c l wrote f))

-- a read
pub read_tells : {L K B C E : Type 0} (view : Telling L K) (p : Ports L K B C E) → DoTell view p → (c d : Conn L K) (room : ℕ) (ps : List (List ℕ)) (ws : List ℕ) (r : Read) (starved : Bool) → c.cause ≡ None → p.reads c.link room r d.link → d.cause ≡ (conn.read_by starved r c).cause → TellsOf view c.link ps ws c.cause → TellsOf view d.link (pieces_by r ps) ws d.cause
read_tells {L} {K} view p t c d room ps ws r starved free reads cause h =
    (t.read_pieces c.link d.link room r reads ∙ ap (pieces_by r) h.0, t.read_written c.link d.link room r reads ∙ h.1, subst (IsCauseTold view d.link) (sym cause) (by r (t.read_told c.link d.link room r reads)))
  where
    piece : (b : Bool) (bytes : List ℕ) → IsCauseTold view d.link (conn.read_by b (GotPiece bytes) c).cause
    piece true bytes = tt
    piece false bytes = subst (IsCauseTold view d.link) (sym free) tt

    by : (x : Read) → ReadTold view d.link x → IsCauseTold view d.link (conn.read_by starved x c).cause
    by (GotPiece bytes) k = piece starved bytes
    by ReadNotYet k = subst (IsCauseTold view d.link) (sym free) tt
    by ReadEnd k = k
    by ReadFailed k = k
