-- A connection has the cause Stop only where a turn of its reactor read the stop word.
use Rattle.std.proofs.Common.{◌≡◌, ℕ, ◌+◌, ◌==◌, ◌-◌, ◌^◌, Bool, true, false, nat_lt, if◌then◌else◌, List, [], ◌∷◌, ◌++◌, length, slice_get, refl, ap, ◌∙◌, sym, subst, append-nil, append_assoc, Option, Some, None, map}
use Rattle.sw_link.specs.declared.link.LinkWrite.{LinkWrite}
use Rattle.sw_link.specs.Reads.{Read, GotPiece, ReadNotYet, ReadEnd, ReadFailed}
use Rattle.sw_conn.specs.Causes.{hard, is_hard}
use Rattle.sw_conn.specs.Conn.{set_soft, set_hard}
use Rattle.sw_data.specs.declared.messages.Got.TheVariants.{Start, Took}
use Rattle.sw_link.specs.declared.link.LinkWrite.TheVariants as writing
use Rattle.sw_lists.specs.Lists.{Each}
use Rattle.sw_lists.proofs.Lists.{each_right}
use Rattle.sw_record.specs.Words.{Event, Connect, Packet, Closed, Finish, Task, Cause, TooLong, BadLength, Stop, NoMemory, Overflow, ServerClose, ResetCause, Ended}
use Rattle.sw_record.specs.declared.record.LinkState.TheVariants.{Over}
use Rattle.sw_record.specs.declared.record.LinkRecord.{LinkRecord}
use Rattle.sw_record.specs.Terms.{Terms, packets_cut}
use Rattle.sw_past.specs.Messages.{Message, FreshMsg, SendMsg, CloseMsg, ResetMsg, Bye, EventMsg, OverMsg, NoMore}
use Rattle.sw_past.specs.Past.{Mail}
use Rattle.sw_reactor_table.specs.Conn.{cuts_next, starve, Conn, Answers, sent, takes, stops, noted, wrote, flushed_some, flushed, writes, Does, Pushes, Moves, Stays, Leaves, Served, looked, place, pushes, plain, read_by, cut_by, closes, can_leave, end_by, cause_by, connects, open_by, held_by, tidied, serve, account, over_link}
use Rattle.sw_reactor_table.specs.Reactor.{Reactor, Ask, Take, Push, Nothing, Rest, Finished, each_conn, settled, counted, serves, chosen, turn, started}
use Rattle.sw_reactor_table.specs.Runs.{Runs, First, Then}
use Rattle.sw_reactor_laws.specs.Stopped.{CalmOf, Calm, CalmLink, stop_at, stop_read}
use Rattle.sw_reactor_table.proofs.Everywhere.{settled_over}
use Rattle.sw_reactor_table.proofs.Everywhere.{Settled, Both, if_each, settled_each, served_both, ends_both, around}
use Rattle.sw_frame.specs.Cutting.{next_by, next_rest}
use Rattle.sw_frame.specs.Cut.{cut}
use Rattle.sw_cut.specs.declared.First.{First as FirstOf}
use Rattle.sw_cut.specs.declared.First.TheVariants as first
use Rattle.sw_frame.specs.declared.next.Next.TheVariants as next

-- a serve
pub record CalmServed (b : Bool) (v : Served) : Type 0 where
  pub conn : Calm b v.conn
  pub leaves : (e : Cause) → v.does ≡ Leaves e → CalmOf b (Some e)

no_leave : (b : Bool) (w : ℕ) (x : Event) (e : Cause) → Pushes w x ≡ Leaves e → CalmOf b (Some e)
no_leave b w x e q = absurd (cc)

pushes_calm : (b : Bool) (t : Terms) (a : Answers) (k : ℕ) (e : Event) (cuts : Bool) (c : Conn) → Calm b c → CalmServed b (pushes t a k e cuts c)
pushes_calm b t a k e cuts c h = record { conn = pick (t.mode == 5) (c.uid == 0); leaves = λ d q. no_leave b (place t a k (looked t a c)) e d q }
  where
    pick : (x y : Bool) → Calm b (if x then (if y then record c { uid = a.look; split = c.dispatched } else c) else c)
    pick true true = h
    pick true false = h
    pick false y = h

read_calm : (b : Bool) (starved : Bool) (r : Read) (c : Conn) → Calm b c → CalmServed b (read_by starved r c)
read_calm b starved (GotPiece p) c h = record { conn = pick starved; leaves = λ d q. absurd (cc) }
  where
    pick : (x : Bool) → CalmOf b (if x then Some NoMemory else None)
    pick true e = absurd (cc)
    pick false e = absurd (cc)
read_calm b starved ReadNotYet c h = record { conn = h; leaves = λ d q. absurd (cc) }
read_calm b starved ReadEnd c h = record { conn = λ e. absurd (cc); leaves = λ d q. absurd (cc) }
read_calm b starved ReadFailed c h = record { conn = λ e. absurd (cc); leaves = λ d q. absurd (cc) }

stuck_calm : (b : Bool) (e : Cause) (c : Conn) → ¬ (e ≡ Stop) → CalmServed b (plain (record c { cause = Some e }) Moves)
stuck_calm b e c n = record { conn = λ q. absurd (n (let g : e ≡ Stop = (let z : Some e ≡ Some Stop = q in cc) in g)); leaves = λ d q. absurd (cc) }

cut_calm : (b : Bool) (t : Terms) (a : Answers) (k : ℕ) (c : Conn) → Calm b c → CalmServed b (cuts_next t a k c)
cut_calm b t a k c h = at (slice_get (packets_cut t c.pieces) c.taken)
  where
    stuck : (f : Option FirstOf) → CalmServed b (cut_by t a k (starve a.cut_starved (next_rest f)) c)
    stuck None = read_calm b a.feed_starved a.read c h
    stuck (Some (first.Packet m)) = read_calm b a.feed_starved a.read c h
    stuck (Some first.More) = read_calm b a.feed_starved a.read c h
    stuck (Some (first.TooLong m)) = stuck_calm b (TooLong m) c (λ q. absurd (cc))
    stuck (Some (first.BadLength m)) = stuck_calm b (BadLength m) c (λ q. absurd (cc))

    packet : (p : List ℕ) (x : Bool) → CalmServed b (cut_by t a k (if x then next.OutOfMemory else next.Packet p) c)
    packet p true = stuck_calm b NoMemory c (λ q. absurd (cc))
    packet p false = pushes_calm b t a k (Packet c.session c.dispatched p) true (record c { taken = c.taken + 1 }) h

    at : (o : Option (List ℕ)) → CalmServed b (cut_by t a k (starve a.cut_starved (next_by (cut t.framing c.pieces).fault o)) c)
    at (Some p) = packet p a.cut_starved
    at None = stuck (cut t.framing c.pieces).fault

end_calm : (b : Bool) (t : Terms) (a : Answers) (k : ℕ) (e : Cause) (c : Conn) → c.cause ≡ Some e → Calm b c → CalmServed b (end_by t a k e c)
end_calm b t a k e c caused h = pick (closes t c.phase)
  where
    goes : (x : Bool) (d : Cause) → ◌≡◌ {A = Does} (if x then Leaves e else Stays) (Leaves d) → CalmOf b (Some d)
    goes true d q z = (let g : e ≡ d = (let y : Leaves e ≡ Leaves d = q in cc) in h (caused ∙ ap Some g ∙ z))
    goes false d q z = absurd (cc)

    pick : (x : Bool) → CalmServed b (if x then pushes t a k (Closed c.session) false c else plain c (if can_leave c then Leaves e else Stays))
    pick true = pushes_calm b t a k (Closed c.session) false c h
    pick false = record { conn = h; leaves = goes (can_leave c) }

cause_calm : (b : Bool) (t : Terms) (a : Answers) (k : ℕ) (o : Option Cause) (c : Conn) → c.cause ≡ o → Calm b c → CalmServed b (cause_by t a k o c)
cause_calm b t a k None c e h = pick (nat_lt c.dispatched (2 ^ 64 - 1))
  where
    pick : (x : Bool) → CalmServed b (if x then cuts_next t a k c else plain c Stays)
    pick true = cut_calm b t a k c h
    pick false = record { conn = h; leaves = λ d q. absurd (cc) }
cause_calm b t a k (Some e) c q h = end_calm b t a k e c q h

open_calm : (b : Bool) (t : Terms) (a : Answers) (k : ℕ) (c : Conn) → Calm b c → CalmServed b (open_by t a k c)
open_calm b t a k c h = pick (connects t c.phase)
  where
    pick : (x : Bool) → CalmServed b (if x then pushes t a k (Connect c.session) false c else cause_by t a k c.cause c)
    pick true = pushes_calm b t a k (Connect c.session) false c h
    pick false = cause_calm b t a k c.cause c refl h

held_calm : (b : Bool) (t : Terms) (a : Answers) (k : ℕ) (o : Option (ℕ × Event)) (c : Conn) → Calm b c → CalmServed b (held_by t a k o c)
held_calm b t a k (Some x) c h = record { conn = h; leaves = λ d q. no_leave b x.0 x.1 d q }
held_calm b t a k None c h = open_calm b t a k c h

flushed_calm : (b : Bool) (w : LinkWrite) (c : Conn) → Calm b c → Calm b (flushed w c)
flushed_calm b w c h = pick (is_hard c.cause)
  where
    written : (v : LinkWrite) → Calm b (wrote v c)
    written (writing.Took k) = h
    written writing.NotYet = h
    written writing.Failed = λ e. absurd (cc)

    some : (us : List ℕ) → Calm b (flushed_some w us c)
    some [] = h
    some (x ∷ xs) = written w

    pick : (x : Bool) → Calm b (if x then c else flushed_some w c.unsent c)
    pick true = h
    pick false = some c.unsent

serve_calm : (b : Bool) (t : Terms) (a : Answers) (k : ℕ) (c : Conn) → Calm b c → CalmServed b (serve t a k c)
serve_calm b t a k c h = held_calm b t a k (tidied a c).held (tidied a c) (flushed_calm b a.write c h)

soft_calm : (b : Bool) (o : Option Cause) → CalmOf b o → CalmOf b (set_soft ServerClose o)
soft_calm b None h = λ e. absurd (cc)
soft_calm b (Some d) h = h

hard_calm : (b : Bool) (o : Option Cause) → CalmOf b o → CalmOf b (set_hard ResetCause o)
hard_calm b None h = λ e. absurd (cc)
hard_calm b (Some d) h = pick (hard d)
  where
    pick : (x : Bool) → CalmOf b (if x then Some d else Some ResetCause)
    pick true = h
    pick false = λ e. absurd (cc)

fresh_calm : (b : Bool) (starved : Bool) → CalmOf b (if starved then Some NoMemory else None)
fresh_calm b true = λ e. absurd (cc)
fresh_calm b false = λ e. absurd (cc)

-- what settles keeps it
settled_calm : (b : Bool) (t : Terms) → Settled t (Calm b)
settled_calm b t = record { comes = λ starved ip s. fresh_calm b starved; taken = takes_calm; pushed = noted_calm; held = λ w e c h. h }
  where
    takes_calm : (starved : Bool) (m : Message) (c : Conn) → Calm b c → Calm b (takes t starved m c)
    takes_calm starved (FreshMsg ip s) c h = h
    takes_calm starved (SendMsg s p) c h = if_each (Calm b) (c.session == s) c (sent t starved p c) h (sends (is_hard c.cause) (nat_lt t.buffer_size (length c.unsent + length p)) starved)
      where
        sends : (x y z : Bool) → Calm b (if x then c else (if y then record c { cause = Some (Overflow (length c.unsent + length p)) } else (if z then record c { cause = Some NoMemory } else record c { unsent = c.unsent ++ p })))
        sends true y z = h
        sends false true z = λ e. absurd (cc)
        sends false false true = λ e. absurd (cc)
        sends false false false = h
    takes_calm starved (CloseMsg s) c h = if_each (Calm b) (c.session == s) c (record c { cause = set_soft ServerClose c.cause }) h (soft_calm b c.cause h)
    takes_calm starved (ResetMsg s) c h = if_each (Calm b) (c.session == s) c (record c { cause = set_hard ResetCause c.cause }) h (hard_calm b c.cause h)
    takes_calm starved (Bye s) c h = if_each (Calm b) (c.session == s) c (record c { awaited = c.awaited - 1 }) h h
    takes_calm starved (EventMsg e) c h = h
    takes_calm starved (OverMsg id) c h = h
    takes_calm starved NoMore c h = h

    noted_calm : (e : Event) (c : Conn) → Calm b c → Calm b (noted t e c)
    noted_calm (Connect s) c h = h
    noted_calm (Packet s i p) c h = h
    noted_calm (Closed s) c h = h
    noted_calm (Finish id p) c h = h
    noted_calm (Task v id p) c h = h

-- what is chosen, with the stop word read or not
abbrev pub AllCalm : Bool → Reactor → Type 0
AllCalm b r = Both (Calm b) (CalmLink b) r

over_calm : (b : Bool) (t : Terms) (d : Conn) (u : ℕ) (e : Cause) → CalmOf b (Some e) → CalmLink b (over_link t d u e)
over_calm b t d u e l x q z = l (ap Some (ap (λ (y : Ended). y.cause) (ends_same (account t d u e) x q) ∙ z))
  where
    ends_same : (x y : Ended) → Over x ≡ Over y → x ≡ y
    ends_same x y q = cc

serves_calm : (b : Bool) (t : Terms) (a : Answers) (r : Reactor) → (next : List Conn) → r.next ≡ next → AllCalm b r → AllCalm b (serves t a next r)
serves_calm b t a r [] e h = ends_both (Calm b) (CalmLink b) t r h
serves_calm b t a r (c ∷ cs) e h =
    let v : Served = serve t a r.round c in
    let here : Each (Calm b) (r.done ++ c ∷ cs) = subst (λ (zs : List Conn). Each (Calm b) (r.done ++ zs)) e h.conns in
    let s : CalmServed b v = serve_calm b t a r.round c (each_right (Calm b) r.done (c ∷ cs) here).0 in
    let sides = around (Calm b) (Calm b) r.done cs c v.conn (λ d k. k) here s.conn in
    served_both (Calm b) (CalmLink b) t a (writes a.write c) cs v.conn v.does (record r { round = counted v.cuts r.round }) sides.0 sides.1 (λ x q. over_calm b t v.conn a.released x (s.leaves x q)) h.over

-- one more turn
conns_true : (cs : List Conn) → Each (Calm true) cs
conns_true [] = tt
conns_true (c ∷ cs) = ((λ e. refl), conns_true cs)

links_true : (ls : List LinkRecord) → Each (CalmLink true) ls
links_true [] = tt
links_true (l ∷ ls) = ((λ e q z. refl), links_true ls)

stops_calm : (b : Bool) (r : Reactor) → AllCalm b r → (x : Bool) → AllCalm (if x then true else b) (record (if x then each_conn stops r else r) { last = Take })
stops_calm b r h true = record { conns = conns_true _; over = links_true _ }
stops_calm b r h false = record { conns = h.conns; over = h.over }

chosen_calm : (b : Bool) (t : Terms) (a : Answers) (r : Reactor) → AllCalm b r → (ask : Ask) → AllCalm (if stop_at ask a.stop then true else b) (chosen t a ask r)
chosen_calm b t a r h Take = serves_calm b t a r r.next refl h
chosen_calm b t a r h (Push w m) = stops_calm b r h a.stop
chosen_calm b t a r h Nothing = stops_calm b r h a.stop
chosen_calm b t a r h Rest = stops_calm b r h a.stop
chosen_calm b t a r h Finished = stops_calm b r h a.stop

if_stop : (x : Bool) → (if x then true else false) ≡ x
if_stop true = refl
if_stop false = refl

-- all runs: a cause Stop, also of a link that ended, comes from a turn that read the stop word
pub runs_calm : (t : Terms) (word : ℕ → ℕ) (took pushed : Mail) (r : Reactor) (runs : Runs t word took pushed r) → AllCalm (stop_read runs) r
runs_calm t word _ _ _ (First starved a f) = subst (λ (x : Bool). AllCalm x (turn t starved a Start started)) (if_stop a.stop) (chosen_calm false t a started (record { conns = tt; over = tt }) started.last)
runs_calm t word _ _ _ (Then {took = took} {pushed = pushed} {r = r} before later more got call starved a f) =
    let h : AllCalm (stop_read before) r = runs_calm t word took pushed r before in
    chosen_calm (stop_read before) t a (settled t starved got r)
    (record { conns = settled_each t (Calm (stop_read before)) (settled_calm (stop_read before) t) starved got r h.conns; over = subst (Each (CalmLink (stop_read before))) (sym (settled_over t starved got r)) h.over }) r.last
