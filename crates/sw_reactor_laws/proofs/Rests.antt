-- Each cause rests on what it says: an end or a fault of a read, a fault of a write, or a fault behind the packets.
use Rattle.std.proofs.Common.{◌≡◌, ℕ, ◌+◌, ◌-◌, ◌%◌, ◌==◌, ◌^◌, Bool, true, false, nat_lt, if◌then◌else◌, List, [], ◌∷◌, ◌++◌, length, slice_get, refl, ap, ◌∙◌, sym, subst, append-nil, Option, Some, None}
use Rattle.sw_cut.specs.declared.First.{First as FirstOf}
use Rattle.sw_cut.specs.declared.First.TheVariants as first
use Rattle.sw_frame.specs.Cut.{cut}
use Rattle.sw_frame.specs.Cutting.{next_by, next_rest}
use Rattle.sw_frame.specs.declared.next.Next.TheVariants as next
use Rattle.sw_link.specs.declared.link.LinkWrite.{LinkWrite}
use Rattle.sw_link.specs.declared.link.LinkWrite.TheVariants as writing
use Rattle.sw_link.specs.Reads.{Read, GotPiece, ReadNotYet, ReadEnd, ReadFailed}
use Rattle.sw_conn.specs.Causes.{hard, is_hard}
use Rattle.sw_conn.specs.Conn.{set_soft, set_hard, has_unsent}
use Rattle.sw_lists.specs.Lists.{Each, when}
use Rattle.sw_record.specs.Words.{Event, Connect, Packet, Closed, Finish, Task, Cause, PeerEnd, ServerClose, ResetCause, ReadFault, WriteFault, TooLong, BadLength, Overflow, Stop, NoSlot, NumbersSpent, NoMemory, Ended}
use Rattle.sw_record.specs.declared.record.LinkRecord.{LinkRecord}
use Rattle.sw_record.specs.declared.record.LinkState.TheVariants.{Over}
use Rattle.sw_record.specs.Terms.{Terms, packets_cut}
use Rattle.sw_past.specs.Messages.{Message, FreshMsg, SendMsg, CloseMsg, ResetMsg, Bye, EventMsg, OverMsg, NoMore}
use Rattle.sw_past.specs.Past.{Mail}
use Rattle.sw_reactor_table.specs.Conn.{Conn, Answers, Does, Pushes, Moves, Stays, Leaves, Served, fresh, sent, takes, stops, noted, wrote, flushed_some, flushed, tidied, looked, place, pushes, plain, starve, read_by, cut_by, cuts_next, closes, can_leave, end_by, cause_by, connects, open_by, held_by, serve, account, over_link, writes}
use Rattle.sw_reactor_table.specs.Reactor.{Reactor, Ask, Take, Push, Nothing, Rest, Finished, each_conn, settled, counted, serves, chosen, started}
use Rattle.sw_reactor_table.specs.Runs.{Runs, First, Then}
use Rattle.sw_reactor_laws.specs.Histories.{at_served, may_write, reads_at, writes_at, reads_in, writes_in}
use Rattle.sw_reactor_laws.specs.Rests.{RestsOn, LinkRests}
use Rattle.sw_reactor_table.proofs.Everywhere.{settled_over}
use Rattle.sw_reactor_table.proofs.Members.{has_left, has_right}
use Rattle.sw_reactor_table.proofs.Everywhere.{Settled, Both, both_more, if_each, settled_each, served_both, ends_both, takes_both, around}

-- of a connection that may have no cause
abbrev pub RestsIf : Terms → List (ℕ × Read) → List (ℕ × LinkWrite) → ℕ → List (List ℕ) → Option Cause → Type 0
RestsIf t rs ws s ps None = Unit {0}
RestsIf t rs ws s ps (Some e) = RestsOn t rs ws s ps e

abbrev pub ConnRests : Terms → List (ℕ × Read) → List (ℕ × LinkWrite) → Conn → Type 0
ConnRests t rs ws c = RestsIf t rs ws c.session c.pieces c.cause

-- more reads and writes
on_more : (t : Terms) (rs rs2 : List (ℕ × Read)) (ws ws2 : List (ℕ × LinkWrite)) (s : ℕ) (ps : List (List ℕ)) (e : Cause) → RestsOn t rs ws s ps e → RestsOn t (rs ++ rs2) (ws ++ ws2) s ps e
on_more t rs rs2 ws ws2 s ps PeerEnd h = has_left (s, ReadEnd) rs rs2 h
on_more t rs rs2 ws ws2 s ps ServerClose h = tt
on_more t rs rs2 ws ws2 s ps ResetCause h = tt
on_more t rs rs2 ws ws2 s ps ReadFault h = has_left (s, ReadFailed) rs rs2 h
on_more t rs rs2 ws ws2 s ps WriteFault h = has_left (s, writing.Failed) ws ws2 h
on_more t rs rs2 ws ws2 s ps (TooLong n) h = h
on_more t rs rs2 ws ws2 s ps (BadLength n) h = h
on_more t rs rs2 ws ws2 s ps (Overflow n) h = tt
on_more t rs rs2 ws ws2 s ps Stop h = tt
on_more t rs rs2 ws ws2 s ps NoSlot h = absurd h
on_more t rs rs2 ws ws2 s ps NumbersSpent h = absurd h
on_more t rs rs2 ws ws2 s ps NoMemory h = tt

if_more : (t : Terms) (rs rs2 : List (ℕ × Read)) (ws ws2 : List (ℕ × LinkWrite)) (s : ℕ) (ps : List (List ℕ)) (o : Option Cause) → RestsIf t rs ws s ps o → RestsIf t (rs ++ rs2) (ws ++ ws2) s ps o
if_more t rs rs2 ws ws2 s ps None h = tt
if_more t rs rs2 ws ws2 s ps (Some e) h = on_more t rs rs2 ws ws2 s ps e h

-- what is settled
soft_rests : (t : Terms) (rs : List (ℕ × Read)) (ws : List (ℕ × LinkWrite)) (s : ℕ) (ps : List (List ℕ)) (o : Option Cause) → RestsIf t rs ws s ps o → RestsIf t rs ws s ps (set_soft ServerClose o)
soft_rests t rs ws s ps None h = tt
soft_rests t rs ws s ps (Some d) h = h

hard_rests : (t : Terms) (rs : List (ℕ × Read)) (ws : List (ℕ × LinkWrite)) (s : ℕ) (ps : List (List ℕ)) (e : Cause) → RestsOn t rs ws s ps e → (o : Option Cause) → RestsIf t rs ws s ps o → RestsIf t rs ws s ps (set_hard e o)
hard_rests t rs ws s ps e k None h = k
hard_rests t rs ws s ps e k (Some d) h = pick (hard d)
  where
    pick : (x : Bool) → RestsIf t rs ws s ps (if x then Some d else Some e)
    pick true = h
    pick false = k

settled_rests : (t : Terms) (rs : List (ℕ × Read)) (ws : List (ℕ × LinkWrite)) → Settled t (ConnRests t rs ws)
settled_rests t rs ws =
    record {
      comes = λ starved ip s. fresh_rests starved ip s;
      taken = λ starved m c h. takes_rests starved m c h;
      pushed = λ e c h. noted_rests e c h;
      held = λ w e c h. h;
    }
  where
    fresh_rests : (starved : Bool) (ip s : ℕ) → ConnRests t rs ws (fresh starved ip s)
    fresh_rests true ip s = tt
    fresh_rests false ip s = tt

    takes_rests : (starved : Bool) (m : Message) (c : Conn) → ConnRests t rs ws c → ConnRests t rs ws (takes t starved m c)
    takes_rests starved (FreshMsg ip s) c h = h
    takes_rests starved (SendMsg s p) c h = if_each (ConnRests t rs ws) (c.session == s) c (sent t starved p c) h (sends (is_hard c.cause) (nat_lt t.buffer_size (length c.unsent + length p)) starved)
      where
        sends : (x y z : Bool) → ConnRests t rs ws (if x then c else (if y then record c { cause = Some (Overflow (length c.unsent + length p)) } else (if z then record c { cause = Some NoMemory } else record c { unsent = c.unsent ++ p })))
        sends true y z = h
        sends false true z = tt
        sends false false true = tt
        sends false false false = h
    takes_rests starved (CloseMsg s) c h = if_each (ConnRests t rs ws) (c.session == s) c (record c { cause = set_soft ServerClose c.cause }) h (soft_rests t rs ws c.session c.pieces c.cause h)
    takes_rests starved (ResetMsg s) c h = if_each (ConnRests t rs ws) (c.session == s) c (record c { cause = set_hard ResetCause c.cause }) h (hard_rests t rs ws c.session c.pieces ResetCause tt c.cause h)
    takes_rests starved (Bye s) c h = if_each (ConnRests t rs ws) (c.session == s) c (record c { awaited = c.awaited - 1 }) h h
    takes_rests starved (EventMsg e) c h = h
    takes_rests starved (OverMsg id) c h = h
    takes_rests starved NoMore c h = h

    noted_rests : (e : Event) (c : Conn) → ConnRests t rs ws c → ConnRests t rs ws (noted t e c)
    noted_rests (Connect s) c h = h
    noted_rests (Packet s i p) c h = h
    noted_rests (Closed s) c h = h
    noted_rests (Finish id p) c h = h
    noted_rests (Task v id p) c h = h

-- a serve, by what it read
pub record RestsServed (t : Terms) (rs : List (ℕ × Read)) (ws : List (ℕ × LinkWrite)) (s : ℕ) (x : Read) (v : Served) : Type 0 where
  pub session : v.conn.session ≡ s
  pub conn : RestsIf t (rs ++ when v.reads (s, x)) ws s v.conn.pieces v.conn.cause
  pub leaves : (e : Cause) → v.does ≡ Leaves e → v.conn.cause ≡ Some e

more_nothing : (t : Terms) (rs : List (ℕ × Read)) (ws : List (ℕ × LinkWrite)) (s : ℕ) (ps : List (List ℕ)) (o : Option Cause) → RestsIf t rs ws s ps o → RestsIf t (rs ++ []) ws s ps o
more_nothing t rs ws s ps o h = subst (λ (zs : List (ℕ × Read)). RestsIf t zs ws s ps o) (sym (append-nil rs)) h

no_leave : (w : ℕ) (x : Event) (e : Cause) (o : Option Cause) → Pushes w x ≡ Leaves e → o ≡ Some e
no_leave w x e o q = absurd (cc)

pushes_rests : (t : Terms) (rs : List (ℕ × Read)) (ws : List (ℕ × LinkWrite)) (x : Read) (a : Answers) (k : ℕ) (e : Event) (cuts : Bool) (c : Conn) → ConnRests t rs ws c → RestsServed t rs ws c.session x (pushes t a k e cuts c)
pushes_rests t rs ws x a k e cuts c h = record { session = same (t.mode == 5) (c.uid == 0); conn = pick (t.mode == 5) (c.uid == 0); leaves = λ d q. no_leave (place t a k (looked t a c)) e d (looked t a c).cause q }
  where
    same : (y z : Bool) → ◌≡◌ {A = ℕ} (if y then (if z then record c { uid = a.look; split = c.dispatched } else c) else c).session c.session
    same true true = refl
    same true false = refl
    same false z = refl

    pick : (y z : Bool) → RestsIf t (rs ++ []) ws c.session (if y then (if z then record c { uid = a.look; split = c.dispatched } else c) else c).pieces (if y then (if z then record c { uid = a.look; split = c.dispatched } else c) else c).cause
    pick true true = more_nothing t rs ws c.session c.pieces c.cause h
    pick true false = more_nothing t rs ws c.session c.pieces c.cause h
    pick false z = more_nothing t rs ws c.session c.pieces c.cause h

read_rests : (t : Terms) (rs : List (ℕ × Read)) (ws : List (ℕ × LinkWrite)) (starved : Bool) (x : Read) (c : Conn) → ConnRests t rs ws c → RestsServed t rs ws c.session x (read_by starved x c)
read_rests t rs ws starved (GotPiece p) c h = record { session = refl; conn = pick starved; leaves = λ d q. absurd (cc) }
  where
    pick : (y : Bool) → RestsIf t (rs ++ (c.session, GotPiece p) ∷ []) ws c.session (c.pieces ++ p ∷ []) (if y then Some NoMemory else None)
    pick true = tt
    pick false = tt
read_rests t rs ws starved ReadNotYet c h = record { session = refl; conn = subst (λ (zs : List (ℕ × LinkWrite)). RestsIf t (rs ++ (c.session, ReadNotYet) ∷ []) zs c.session c.pieces c.cause) (append-nil ws) (if_more t rs ((c.session, ReadNotYet) ∷ []) ws [] c.session c.pieces c.cause h); leaves = λ d q. absurd (cc) }
read_rests t rs ws starved ReadEnd c h = record { session = refl; conn = has_right (c.session, ReadEnd) rs ((c.session, ReadEnd) ∷ []) (0, refl); leaves = λ d q. absurd (cc) }
read_rests t rs ws starved ReadFailed c h = record { session = refl; conn = has_right (c.session, ReadFailed) rs ((c.session, ReadFailed) ∷ []) (0, refl); leaves = λ d q. absurd (cc) }

stuck_rests : (t : Terms) (rs : List (ℕ × Read)) (ws : List (ℕ × LinkWrite)) (x : Read) (e : Cause) (c : Conn) → RestsOn t rs ws c.session c.pieces e → RestsServed t rs ws c.session x (plain (record c { cause = Some e }) Moves)
stuck_rests t rs ws x e c h = record { session = refl; conn = more_nothing t rs ws c.session c.pieces (Some e) h; leaves = λ d q. absurd (cc) }

still_rests : (t : Terms) (rs : List (ℕ × Read)) (ws : List (ℕ × LinkWrite)) (x : Read) (c : Conn) → ConnRests t rs ws c → RestsServed t rs ws c.session x (plain c Stays)
still_rests t rs ws x c h = record { session = refl; conn = more_nothing t rs ws c.session c.pieces c.cause h; leaves = λ d q. absurd (cc) }

cut_rests : (t : Terms) (rs : List (ℕ × Read)) (ws : List (ℕ × LinkWrite)) (a : Answers) (k : ℕ) (c : Conn) → ConnRests t rs ws c → RestsServed t rs ws c.session a.read (cuts_next t a k c)
cut_rests t rs ws a k c h = at (slice_get (packets_cut t c.pieces) c.taken)
  where
    stuck : (f : Option FirstOf) → (cut t.framing c.pieces).fault ≡ f → RestsServed t rs ws c.session a.read (cut_by t a k (starve a.cut_starved (next_rest f)) c)
    stuck None e = read_rests t rs ws a.feed_starved a.read c h
    stuck (Some (first.Packet m)) e = read_rests t rs ws a.feed_starved a.read c h
    stuck (Some first.More) e = read_rests t rs ws a.feed_starved a.read c h
    stuck (Some (first.TooLong m)) e = stuck_rests t rs ws a.read (TooLong m) c e
    stuck (Some (first.BadLength m)) e = stuck_rests t rs ws a.read (BadLength m) c e

    packet : (p : List ℕ) (x : Bool) → RestsServed t rs ws c.session a.read (cut_by t a k (if x then next.OutOfMemory else next.Packet p) c)
    packet p true = stuck_rests t rs ws a.read NoMemory c tt
    packet p false = pushes_rests t rs ws a.read a k (Packet c.session c.dispatched p) true (record c { taken = c.taken + 1 }) h

    at : (o : Option (List ℕ)) → RestsServed t rs ws c.session a.read (cut_by t a k (starve a.cut_starved (next_by (cut t.framing c.pieces).fault o)) c)
    at (Some p) = packet p a.cut_starved
    at None = stuck (cut t.framing c.pieces).fault refl

end_rests : (t : Terms) (rs : List (ℕ × Read)) (ws : List (ℕ × LinkWrite)) (x : Read) (a : Answers) (k : ℕ) (e : Cause) (c : Conn) → c.cause ≡ Some e → ConnRests t rs ws c → RestsServed t rs ws c.session x (end_by t a k e c)
end_rests t rs ws x a k e c caused h = pick (closes t c.phase)
  where
    goes : (y : Bool) (d : Cause) → ◌≡◌ {A = Does} (if y then Leaves e else Stays) (Leaves d) → c.cause ≡ Some d
    goes true d q = (let g : e ≡ d = (let z : Leaves e ≡ Leaves d = q in cc) in caused ∙ ap Some g)
    goes false d q = absurd (cc)

    pick : (y : Bool) → RestsServed t rs ws c.session x (if y then pushes t a k (Closed c.session) false c else plain c (if can_leave c then Leaves e else Stays))
    pick true = pushes_rests t rs ws x a k (Closed c.session) false c h
    pick false = record { session = refl; conn = more_nothing t rs ws c.session c.pieces c.cause h; leaves = goes (can_leave c) }

cause_rests : (t : Terms) (rs : List (ℕ × Read)) (ws : List (ℕ × LinkWrite)) (a : Answers) (k : ℕ) (o : Option Cause) (c : Conn) → c.cause ≡ o → ConnRests t rs ws c → RestsServed t rs ws c.session a.read (cause_by t a k o c)
cause_rests t rs ws a k None c e h = pick (nat_lt c.dispatched (2 ^ 64 - 1))
  where
    pick : (y : Bool) → RestsServed t rs ws c.session a.read (if y then cuts_next t a k c else plain c Stays)
    pick true = cut_rests t rs ws a k c h
    pick false = still_rests t rs ws a.read c h
cause_rests t rs ws a k (Some e) c q h = end_rests t rs ws a.read a k e c q h

open_rests : (t : Terms) (rs : List (ℕ × Read)) (ws : List (ℕ × LinkWrite)) (a : Answers) (k : ℕ) (c : Conn) → ConnRests t rs ws c → RestsServed t rs ws c.session a.read (open_by t a k c)
open_rests t rs ws a k c h = pick (connects t c.phase)
  where
    pick : (y : Bool) → RestsServed t rs ws c.session a.read (if y then pushes t a k (Connect c.session) false c else cause_by t a k c.cause c)
    pick true = pushes_rests t rs ws a.read a k (Connect c.session) false c h
    pick false = cause_rests t rs ws a k c.cause c refl h

held_rests : (t : Terms) (rs : List (ℕ × Read)) (ws : List (ℕ × LinkWrite)) (a : Answers) (k : ℕ) (o : Option (ℕ × Event)) (c : Conn) → ConnRests t rs ws c → RestsServed t rs ws c.session a.read (held_by t a k o c)
held_rests t rs ws a k (Some x) c h = record { session = refl; conn = more_nothing t rs ws c.session c.pieces c.cause h; leaves = λ d q. no_leave x.0 x.1 d c.cause q }
held_rests t rs ws a k None c h = open_rests t rs ws a k c h

-- point 1: its write
flushed_session : (w : LinkWrite) (c : Conn) → (flushed w c).session ≡ c.session
flushed_session w c = pick (is_hard c.cause)
  where
    written : (v : LinkWrite) → (wrote v c).session ≡ c.session
    written (writing.Took k) = refl
    written writing.NotYet = refl
    written writing.Failed = refl

    some : (us : List ℕ) → (flushed_some w us c).session ≡ c.session
    some [] = refl
    some (b ∷ bs) = written w

    pick : (x : Bool) → ◌≡◌ {A = ℕ} (if x then c else flushed_some w c.unsent c).session c.session
    pick true = refl
    pick false = some c.unsent

flushed_rests : (t : Terms) (rs : List (ℕ × Read)) (ws : List (ℕ × LinkWrite)) (w : LinkWrite) (c : Conn) → ConnRests t rs ws c → RestsIf t rs (ws ++ when (may_write c) (c.session, w)) c.session (flushed w c).pieces (flushed w c).cause
flushed_rests t rs ws w c h = pick (is_hard c.cause)
  where
    kept : (ws2 : List (ℕ × LinkWrite)) → RestsIf t rs (ws ++ ws2) c.session c.pieces c.cause
    kept ws2 = subst (λ (zs : List (ℕ × Read)). RestsIf t zs (ws ++ ws2) c.session c.pieces c.cause) (append-nil rs) (if_more t rs [] ws ws2 c.session c.pieces c.cause h)

    written : (v : LinkWrite) → RestsIf t rs (ws ++ (c.session, v) ∷ []) c.session (wrote v c).pieces (wrote v c).cause
    written (writing.Took k) = kept ((c.session, writing.Took k) ∷ [])
    written writing.NotYet = kept ((c.session, writing.NotYet) ∷ [])
    written writing.Failed = has_right (c.session, writing.Failed) ws ((c.session, writing.Failed) ∷ []) (0, refl)

    some : (us : List ℕ) → RestsIf t rs (ws ++ when (has_unsent us) (c.session, w)) c.session (flushed_some w us c).pieces (flushed_some w us c).cause
    some [] = kept []
    some (b ∷ bs) = written w

    pick : (x : Bool) → RestsIf t rs (ws ++ when (if x then false else has_unsent c.unsent) (c.session, w)) c.session (if x then c else flushed_some w c.unsent c).pieces (if x then c else flushed_some w c.unsent c).cause
    pick true = kept []
    pick false = some c.unsent

-- a whole serve
pub record RestsNow (t : Terms) (rs : List (ℕ × Read)) (ws : List (ℕ × LinkWrite)) (v : Served) : Type 0 where
  pub conn : ConnRests t rs ws v.conn
  pub leaves : (e : Cause) → v.does ≡ Leaves e → v.conn.cause ≡ Some e

serve_rests : (t : Terms) (rs : List (ℕ × Read)) (ws : List (ℕ × LinkWrite)) (a : Answers) (k : ℕ) (c : Conn) → ConnRests t rs ws c → RestsNow t (rs ++ reads_at t a k c) (ws ++ writes_at a k c) (serve t a k c)
serve_rests t rs ws a k c h =
    let d : Conn = tidied a c in
    let s : d.session ≡ c.session = flushed_session a.write c in
    let now : ConnRests t rs (ws ++ writes_at a k c) d = subst (λ (u : ℕ). RestsIf t rs (ws ++ writes_at a k c) u d.pieces d.cause) (sym s) (flushed_rests t rs ws a.write c h) in
    let v : RestsServed t rs (ws ++ writes_at a k c) d.session a.read (serve t a k c) = held_rests t rs (ws ++ writes_at a k c) a k d.held d now in
    let same : d.session ≡ (serve t a k c).conn.session = sym v.session in
    record {
      conn = subst (λ (u : ℕ). RestsIf t (rs ++ when (serve t a k c).reads (u, a.read)) (ws ++ writes_at a k c) (serve t a k c).conn.session (serve t a k c).conn.pieces (serve t a k c).conn.cause) s
          (subst (λ (u : ℕ). RestsIf t (rs ++ when (serve t a k c).reads (d.session, a.read)) (ws ++ writes_at a k c) u (serve t a k c).conn.pieces (serve t a k c).conn.cause) same v.conn);
      leaves = v.leaves;
    }

-- all connections and links
abbrev pub AllRest : Terms → List (ℕ × Read) → List (ℕ × LinkWrite) → Reactor → Type 0
AllRest t rs ws r = Both (ConnRests t rs ws) (LinkRests t rs ws) r

link_more : (t : Terms) (rs rs2 : List (ℕ × Read)) (ws ws2 : List (ℕ × LinkWrite)) (l : LinkRecord) → LinkRests t rs ws l → LinkRests t (rs ++ rs2) (ws ++ ws2) l
link_more t rs rs2 ws ws2 l h s e p q = (on_more t rs rs2 ws ws2 s l.pieces e.cause (h s e p q).0, (h s e p q).1, (h s e p q).2)

over_rests : (t : Terms) (rs : List (ℕ × Read)) (ws : List (ℕ × LinkWrite)) (d : Conn) (u : ℕ) (e : Cause) → ConnRests t rs ws d → d.cause ≡ Some e → LinkRests t rs ws (over_link t d u e)
over_rests t rs ws d u e h caused s x p q =
    subst (λ (y : ℕ). RestsOn t rs ws y d.pieces x.cause × (x.fd ≡ y % t.max_conn) × (x.ip ≡ d.ip)) (some_same d.session s p)
    (subst (λ (y : Ended). RestsOn t rs ws d.session d.pieces y.cause × (y.fd ≡ d.session % t.max_conn) × (y.ip ≡ d.ip)) (ends_same (account t d u e) x q)
    (subst (RestsIf t rs ws d.session d.pieces) caused h, refl, refl))
  where
    some_same : (x y : ℕ) → Some x ≡ Some y → x ≡ y
    some_same x y q = cc

    ends_same : (x y : Ended) → Over x ≡ Over y → x ≡ y
    ends_same x y q = cc

all_same : (t : Terms) (rs : List (ℕ × Read)) (ws : List (ℕ × LinkWrite)) (r : Reactor) → AllRest t rs ws r → AllRest t (rs ++ []) (ws ++ []) r
all_same t rs ws r h = subst (λ (zs : List (ℕ × Read)). AllRest t zs (ws ++ []) r) (sym (append-nil rs)) (subst (λ (zs : List (ℕ × LinkWrite)). AllRest t rs zs r) (sym (append-nil ws)) h)

serves_rests : (t : Terms) (rs : List (ℕ × Read)) (ws : List (ℕ × LinkWrite)) (a : Answers) (r : Reactor) → AllRest t rs ws r → (next : List Conn) → r.next ≡ next → AllRest t (rs ++ at_served (reads_at t a r.round) Take next) (ws ++ at_served (writes_at a r.round) Take next) (serves t a next r)
serves_rests t rs ws a r h [] e = all_same t rs ws (serves t a [] r) (ends_both (ConnRests t rs ws) (LinkRests t rs ws) t r h)
serves_rests t rs ws a r h (c ∷ cs) e =
    let rs2 : List (ℕ × Read) = reads_at t a r.round c in
    let ws2 : List (ℕ × LinkWrite) = writes_at a r.round c in
    let v : Served = serve t a r.round c in
    let here : Each (ConnRests t rs ws) (r.done ++ c ∷ cs) = subst (λ (zs : List Conn). Each (ConnRests t rs ws) (r.done ++ zs)) e h.conns in
    let now : RestsNow t (rs ++ rs2) (ws ++ ws2) v = serve_rests t rs ws a r.round c (own c r.done cs here) in
    let sides = around (ConnRests t rs ws) (ConnRests t (rs ++ rs2) (ws ++ ws2)) r.done cs c v.conn (λ b k. if_more t rs rs2 ws ws2 b.session b.pieces b.cause k) here now.conn in
    let later : AllRest t (rs ++ rs2) (ws ++ ws2) r = both_more (ConnRests t rs ws) (ConnRests t (rs ++ rs2) (ws ++ ws2)) (LinkRests t rs ws) (LinkRests t (rs ++ rs2) (ws ++ ws2)) (λ b k. if_more t rs rs2 ws ws2 b.session b.pieces b.cause k) (λ l k. link_more t rs rs2 ws ws2 l k) r h in
    served_both (ConnRests t (rs ++ rs2) (ws ++ ws2)) (LinkRests t (rs ++ rs2) (ws ++ ws2)) t a (writes a.write c) cs v.conn v.does (record r { round = counted v.cuts r.round }) sides.0 sides.1
    (λ x q. over_rests t (rs ++ rs2) (ws ++ ws2) v.conn a.released x now.conn (now.leaves x q)) later.over
  where
    own : (c : Conn) (done cs : List Conn) → Each (ConnRests t rs ws) (done ++ c ∷ cs) → ConnRests t rs ws c
    own c [] cs k = k.0
    own c (d ∷ done) cs k = own c done cs k.1

takes_rests_all : (t : Terms) (rs : List (ℕ × Read)) (ws : List (ℕ × LinkWrite)) (r : Reactor) → AllRest t rs ws r → (b : Bool) → AllRest t (rs ++ []) (ws ++ []) (record (if b then each_conn stops r else r) { last = Take })
takes_rests_all t rs ws r h b = all_same t rs ws (record (if b then each_conn stops r else r) { last = Take }) (takes_both (ConnRests t rs ws) (LinkRests t rs ws) (λ c k. hard_rests t rs ws c.session c.pieces Stop tt c.cause k) r h b)

chosen_rests : (t : Terms) (rs : List (ℕ × Read)) (ws : List (ℕ × LinkWrite)) (a : Answers) (r : Reactor) → AllRest t rs ws r → (ask : Ask) → AllRest t (rs ++ at_served (reads_at t a r.round) ask r.next) (ws ++ at_served (writes_at a r.round) ask r.next) (chosen t a ask r)
chosen_rests t rs ws a r h Take = serves_rests t rs ws a r h r.next refl
chosen_rests t rs ws a r h (Push w m) = takes_rests_all t rs ws r h a.stop
chosen_rests t rs ws a r h Nothing = takes_rests_all t rs ws r h a.stop
chosen_rests t rs ws a r h Rest = takes_rests_all t rs ws r h a.stop
chosen_rests t rs ws a r h Finished = takes_rests_all t rs ws r h a.stop

pub runs_rest : (t : Terms) (word : ℕ → ℕ) (took pushed : Mail) (r : Reactor) (run : Runs t word took pushed r) → AllRest t (reads_in run) (writes_in run) r
runs_rest t word _ _ _ (First starved a f) = chosen_rests t [] [] a started (record { conns = tt; over = tt }) started.last
runs_rest t word _ _ _ (Then {took = took} {pushed = pushed} {r = r} before later more got call starved a f) =
    let q : AllRest t (reads_in before) (writes_in before) r = runs_rest t word took pushed r before in
    chosen_rests t (reads_in before) (writes_in before) a (settled t starved got r)
    (record { conns = settled_each t (ConnRests t (reads_in before) (writes_in before)) (settled_rests t (reads_in before) (writes_in before)) starved got r q.conns; over = subst (Each (LinkRests t (reads_in before) (writes_in before))) (sym (settled_over t starved got r)) q.over })
    r.last
