-- What a reactor pushes goes to a worker, whatever it took.
use Rattle.std.proofs.Common.{◌≡◌, ℕ, ◌+◌, ◌<◌, ◌==◌, ◌-◌, ◌^◌, Bool, true, false, nat_lt, if◌then◌else◌, List, [], ◌∷◌, ◌++◌, length, refl, sym, subst, append-nil, append_assoc, Option, Some, None, map}
use Rattle.sw_link.specs.declared.link.LinkWrite.{LinkWrite}
use Rattle.sw_link.specs.Reads.{Read, GotPiece, ReadNotYet, ReadEnd, ReadFailed}
use Rattle.sw_conn.specs.Causes.{is_hard, drops}
use Rattle.sw_conn.specs.Conn.{set_soft, set_hard, drop_packet}
use Rattle.sw_data.specs.declared.messages.Got.{Got}
use Rattle.sw_data.specs.declared.messages.Got.TheVariants.{Start, Took, Empty, Pushed, Full}
use Rattle.sw_link.specs.declared.link.LinkWrite.TheVariants as writing
use Rattle.sw_frame.specs.declared.next.Next.{Next}
use Rattle.sw_frame.specs.declared.next.Next.TheVariants as next
use Rattle.sw_data.specs.declared.messages.Got.TheVariants as gots
use Rattle.sw_lists.specs.Lists.{Each}
use Rattle.sw_lists.proofs.Lists.{each_append, each_left, each_right}
use Rattle.sw_step.specs.declared.actor.ActorId.TheVariants.{Worker}
use Rattle.sw_record.specs.Words.{Event, Connect, Packet, Closed, Finish, Task, Cause, NoMemory, Overflow, ServerClose, ResetCause}
use Rattle.sw_record.specs.Terms.{Terms}
use Rattle.sw_past.specs.Messages.{Message, FreshMsg, SendMsg, CloseMsg, ResetMsg, Bye, EventMsg, OverMsg, NoMore}
use Rattle.sw_past.specs.Past.{Mail}
use Rattle.sw_past.specs.Routes.{ToWorker}
use Rattle.sw_reactor_table.specs.Conn.{cuts_next, starve, cutter, Conn, Answers, fresh, sent, takes, stops, noted, holds, at_event, wrote, flushed_some, flushed, writes, Does, Pushes, Moves, Stays, Leaves, Served, looked, pushes, plain, read_by, cut_by, closes, can_leave, end_by, cause_by, connects, open_by, held_by, tidied, serve}
use Rattle.sw_reactor_table.specs.Reactor.{Reactor, Ask, Take, Push, Nothing, Rest, Finished, all, each_conn, settled, settled_msg, settled_push, settled_full, pushed_by, full_by, turned, rest_by, stayed, served_by, counted, ends_by, serves, chosen, turn}
use Rattle.sw_reactor_table.specs.Quiet.{IsIdle}
use Rattle.sw_reactor_table.specs.Runs.{HeldBelow, HoldsBelow, AsksBelow, DoesBelow, Straight}
use Rattle.sw_reactor_table.proofs.Settle.{lt_is}
use Rattle.sw_reactor_table.proofs.Serve.{place_below}
use Rattle.sw_frame.specs.Cutting.{next_of}

-- a serve
pub record StraightServed (t : Terms) (v : Served) : Type 0 where
  pub held : HoldsBelow t v.conn
  pub does : DoesBelow t v.does

pushes_straight : (t : Terms) (a : Answers) (k : ℕ) (e : Event) (cuts : Bool) (c : Conn) → 0 < t.worker_num → IsIdle t a → HoldsBelow t c → StraightServed t (pushes t a k e cuts c)
pushes_straight t a k e cuts c some idle h = record { held = pick (t.mode == 5) (c.uid == 0); does = place_below t a k (looked t a c) some idle }
  where
    pick : (x y : Bool) → HeldBelow t (if x then (if y then record c { uid = a.look; split = c.dispatched } else c) else c).held
    pick true true = h
    pick true false = h
    pick false y = h

read_straight : (t : Terms) (b : Bool) (r : Read) (c : Conn) → HoldsBelow t c → StraightServed t (read_by b r c)
read_straight t b (GotPiece p) c h = record { held = h; does = tt }
read_straight t b ReadNotYet c h = record { held = h; does = tt }
read_straight t b ReadEnd c h = record { held = h; does = tt }
read_straight t b ReadFailed c h = record { held = h; does = tt }

cut_straight : (t : Terms) (a : Answers) (k : ℕ) (x : Next) (c : Conn) → 0 < t.worker_num → IsIdle t a → HoldsBelow t c → StraightServed t (cut_by t a k x c)
cut_straight t a k (next.Packet b) c some idle h = pushes_straight t a k (Packet c.session c.dispatched b) true (record c { taken = c.taken + 1 }) some idle h
cut_straight t a k next.More c some idle h = read_straight t a.feed_starved a.read c h
cut_straight t a k (next.TooLong m) c some idle h = record { held = h; does = tt }
cut_straight t a k (next.BadLength m) c some idle h = record { held = h; does = tt }
cut_straight t a k next.OutOfMemory c some idle h = record { held = h; does = tt }

end_straight : (t : Terms) (a : Answers) (k : ℕ) (e : Cause) (c : Conn) → 0 < t.worker_num → IsIdle t a → HoldsBelow t c → StraightServed t (end_by t a k e c)
end_straight t a k e c some idle h = pick (closes t c.phase)
  where
    leaves : (b : Bool) → DoesBelow t (if b then Leaves e else Stays)
    leaves true = tt
    leaves false = tt

    pick : (b : Bool) → StraightServed t (if b then pushes t a k (Closed c.session) false c else plain c (if can_leave c then Leaves e else Stays))
    pick true = pushes_straight t a k (Closed c.session) false c some idle h
    pick false = record { held = h; does = leaves (can_leave c) }

cause_straight : (t : Terms) (a : Answers) (k : ℕ) (o : Option Cause) (c : Conn) → 0 < t.worker_num → IsIdle t a → HoldsBelow t c → StraightServed t (cause_by t a k o c)
cause_straight t a k None c some idle h = pick (nat_lt c.dispatched (2 ^ 64 - 1))
  where
    pick : (b : Bool) → StraightServed t (if b then cuts_next t a k c else plain c Stays)
    pick true = cut_straight t a k (starve a.cut_starved (next_of (cutter t c))) c some idle h
    pick false = record { held = h; does = tt }
cause_straight t a k (Some e) c some idle h = end_straight t a k e c some idle h

open_straight : (t : Terms) (a : Answers) (k : ℕ) (c : Conn) → 0 < t.worker_num → IsIdle t a → HoldsBelow t c → StraightServed t (open_by t a k c)
open_straight t a k c some idle h = pick (connects t c.phase)
  where
    pick : (b : Bool) → StraightServed t (if b then pushes t a k (Connect c.session) false c else cause_by t a k c.cause c)
    pick true = pushes_straight t a k (Connect c.session) false c some idle h
    pick false = cause_straight t a k c.cause c some idle h

held_straight : (t : Terms) (a : Answers) (k : ℕ) (o : Option (ℕ × Event)) (c : Conn) → c.held ≡ o → 0 < t.worker_num → IsIdle t a → HoldsBelow t c → StraightServed t (held_by t a k o c)
held_straight t a k (Some x) c e some idle h = record { held = tt; does = subst (HeldBelow t) e h }
held_straight t a k None c e some idle h = open_straight t a k c some idle h

drop_below : (t : Terms) (o : Option (ℕ × Event)) → HeldBelow t o → HeldBelow t (drop_packet o)
drop_below t None h = h
drop_below t (Some (w, Connect s)) h = h
drop_below t (Some (w, Packet s i b)) h = tt
drop_below t (Some (w, Closed s)) h = h
drop_below t (Some (w, Finish id b)) h = h
drop_below t (Some (w, Task v id b)) h = h

flushed_below : (t : Terms) (w : LinkWrite) (c : Conn) → HoldsBelow t c → HoldsBelow t (flushed w c)
flushed_below t w c h = pick (is_hard c.cause)
  where
    written : (v : LinkWrite) → HoldsBelow t (wrote v c)
    written (writing.Took k) = h
    written writing.NotYet = h
    written writing.Failed = h

    some : (us : List ℕ) → HoldsBelow t (flushed_some w us c)
    some [] = h
    some (b ∷ bs) = written w

    pick : (b : Bool) → HoldsBelow t (if b then c else flushed_some w c.unsent c)
    pick true = h
    pick false = some c.unsent

tidied_below : (t : Terms) (a : Answers) (c : Conn) → HoldsBelow t c → HoldsBelow t (tidied a c)
tidied_below t a c h = pick (drops d.cause)
  where
    d : Conn
    d = flushed a.write c

    pick : (b : Bool) → HeldBelow t (if b then drop_packet (flushed a.write c).held else (flushed a.write c).held)
    pick true = drop_below t (flushed a.write c).held (flushed_below t a.write c h)
    pick false = flushed_below t a.write c h

serve_straight : (t : Terms) (a : Answers) (k : ℕ) (c : Conn) → 0 < t.worker_num → IsIdle t a → HoldsBelow t c → StraightServed t (serve t a k c)
serve_straight t a k c some idle h = held_straight t a k (tidied a c).held (tidied a c) refl some idle (tidied_below t a c h)

-- changes of all connections
map_below : (t : Terms) (f : Conn → Conn) → ((c : Conn) → HoldsBelow t c → HoldsBelow t (f c)) → (cs : List Conn) → Each (HoldsBelow t) cs → Each (HoldsBelow t) (map f cs)
map_below t f k [] h = tt
map_below t f k (c ∷ cs) h = (k c h.0, map_below t f k cs h.1)

each_below : (t : Terms) (f : Conn → Conn) → ((c : Conn) → HoldsBelow t c → HoldsBelow t (f c)) → (r : Reactor) → Each (HoldsBelow t) (all r) → Each (HoldsBelow t) (map f r.done ++ map f r.next)
each_below t f k r h = each_append (HoldsBelow t) (map f r.done) (map f r.next) (map_below t f k r.done (each_left (HoldsBelow t) r.done r.next h)) (map_below t f k r.next (each_right (HoldsBelow t) r.done r.next h))

if_below : (t : Terms) (b : Bool) (c d : Conn) → HoldsBelow t c → HoldsBelow t d → HoldsBelow t (if b then d else c)
if_below t true c d h k = k
if_below t false c d h k = h

takes_below : (t : Terms) (starved : Bool) (m : Message) (c : Conn) → HoldsBelow t c → HoldsBelow t (takes t starved m c)
takes_below t starved (FreshMsg ip s) c h = h
takes_below t starved (SendMsg s b) c h = if_below t (c.session == s) c (sent t starved b c) h (sends (is_hard c.cause) (nat_lt t.buffer_size (length c.unsent + length b)) starved)
  where
    sends : (x y z : Bool) → HeldBelow t (if x then c else (if y then record c { cause = Some (Overflow (length c.unsent + length b)) } else (if z then record c { cause = Some NoMemory } else record c { unsent = c.unsent ++ b }))).held
    sends true y z = h
    sends false true z = h
    sends false false true = h
    sends false false false = h
takes_below t starved (CloseMsg s) c h = if_below t (c.session == s) c (record c { cause = set_soft ServerClose c.cause }) h h
takes_below t starved (ResetMsg s) c h = if_below t (c.session == s) c (record c { cause = set_hard ResetCause c.cause }) h h
takes_below t starved (Bye s) c h = if_below t (c.session == s) c (record c { awaited = c.awaited - 1 }) h h
takes_below t starved (EventMsg e) c h = h
takes_below t starved (OverMsg id) c h = h
takes_below t starved NoMore c h = h

at_below : (t : Terms) (f : Conn → Conn) (e : Event) → ((c : Conn) → HoldsBelow t c → HoldsBelow t (f c)) → (c : Conn) → HoldsBelow t c → HoldsBelow t (at_event f e c)
at_below t f (Connect s) k c h = if_below t (c.session == s) c (f c) h (k c h)
at_below t f (Packet s i b) k c h = if_below t (c.session == s) c (f c) h (k c h)
at_below t f (Closed s) k c h = if_below t (c.session == s) c (f c) h (k c h)
at_below t f (Finish id b) k c h = h
at_below t f (Task v id b) k c h = h

noted_below : (t : Terms) (e : Event) (c : Conn) → HoldsBelow t c → HoldsBelow t (noted t e c)
noted_below t (Connect s) c h = h
noted_below t (Packet s i b) c h = h
noted_below t (Closed s) c h = h
noted_below t (Finish id b) c h = h
noted_below t (Task v id b) c h = h

msg_below : (t : Terms) (starved : Bool) (m : Message) (r : Reactor) → Each (HoldsBelow t) (all r) → Each (HoldsBelow t) (all (settled_msg t starved m r))
msg_below t starved (FreshMsg ip s) r h = subst (Each (HoldsBelow t)) (append_assoc r.done r.next (fresh starved ip s ∷ [])) (each_append (HoldsBelow t) (all r) (fresh starved ip s ∷ []) h (tt, tt))
msg_below t starved (SendMsg s b) r h = each_below t (takes t starved (SendMsg s b)) (takes_below t starved (SendMsg s b)) r h
msg_below t starved (CloseMsg s) r h = each_below t (takes t starved (CloseMsg s)) (takes_below t starved (CloseMsg s)) r h
msg_below t starved (ResetMsg s) r h = each_below t (takes t starved (ResetMsg s)) (takes_below t starved (ResetMsg s)) r h
msg_below t starved (Bye s) r h = each_below t (takes t starved (Bye s)) (takes_below t starved (Bye s)) r h
msg_below t starved (EventMsg e) r h = h
msg_below t starved (OverMsg id) r h = h
msg_below t starved NoMore r h = h

push_below : (t : Terms) (m : Message) (r : Reactor) → Each (HoldsBelow t) (all r) → Each (HoldsBelow t) (all (settled_push t m r))
push_below t (FreshMsg ip s) r h = h
push_below t (SendMsg s b) r h = h
push_below t (CloseMsg s) r h = h
push_below t (ResetMsg s) r h = h
push_below t (Bye s) r h = h
push_below t (EventMsg e) r h = each_below t (at_event (noted t e) e) (at_below t (noted t e) e (noted_below t e)) r h
push_below t (OverMsg id) r h = h
push_below t NoMore r h = h

full_below : (t : Terms) (w : ℕ) (m : Message) (r : Reactor) → w < t.worker_num → Each (HoldsBelow t) (all r) → Each (HoldsBelow t) (all (settled_full w m r))
full_below t w (FreshMsg ip s) r b h = h
full_below t w (SendMsg s p) r b h = h
full_below t w (CloseMsg s) r b h = h
full_below t w (ResetMsg s) r b h = h
full_below t w (Bye s) r b h = h
full_below t w (EventMsg e) r b h = each_below t (at_event (holds w e) e) (at_below t (holds w e) e (λ c k. b)) r h
full_below t w (OverMsg id) r b h = h
full_below t w NoMore r b h = h

to_below : (t : Terms) (w : ℕ) (m : Message) → ToWorker t (Worker w, m) → w < t.worker_num
to_below t w (FreshMsg ip s) h = absurd h
to_below t w (SendMsg s b) h = absurd h
to_below t w (CloseMsg s) h = absurd h
to_below t w (ResetMsg s) h = absurd h
to_below t w (Bye s) h = absurd h
to_below t w (EventMsg e) h = subst (λ (k : ℕ). k < t.worker_num) (let g : Worker h.0 ≡ Worker w = sym h.1.1 in let k : h.0 ≡ w = cc in k) h.1.0
to_below t w (OverMsg id) h = absurd h
to_below t w NoMore h = subst (λ (k : ℕ). k < t.worker_num) (let g : Worker h.0 ≡ Worker w = sym h.1.1 in let k : h.0 ≡ w = cc in k) h.1.0

-- what is settled
pushed_below : (t : Terms) (ask : Ask) (r : Reactor) → Each (HoldsBelow t) (all r) → Each (HoldsBelow t) (all (pushed_by t ask r))
pushed_below t Take r h = h
pushed_below t (Push w m) r h = push_below t m r h
pushed_below t Nothing r h = h
pushed_below t Rest r h = h
pushed_below t Finished r h = h

back_below : (t : Terms) (ask : Ask) (m : Message) (r : Reactor) → AsksBelow t ask → Each (HoldsBelow t) (all r) → Each (HoldsBelow t) (all (full_by ask m r))
back_below t Take m r b h = h
back_below t (Push w x) m r b h = full_below t w m r (to_below t w x b) h
back_below t Nothing m r b h = h
back_below t Rest m r b h = h
back_below t Finished m r b h = h

pub settled_below : (t : Terms) (starved : Bool) (got : Got Message) (r : Reactor) → AsksBelow t r.last → Each (HoldsBelow t) (all r) → Each (HoldsBelow t) (all (settled t starved got r))
settled_below t starved Start r b h = h
settled_below t starved (Took m) r b h = msg_below t starved m (record r { empty = false }) h
settled_below t starved Empty r b h = h
settled_below t starved Pushed r b h = pushed_below t r.last r h
settled_below t starved (Full m) r b h = back_below t r.last m r b h
settled_below t starved gots.Nothing r b h = h

-- what is chosen
turned_below : (t : Terms) (done cs : List Conn) (r : Reactor) → Each (HoldsBelow t) (done ++ cs) → Each (HoldsBelow t) (all (turned done cs r))
turned_below t done [] r h = subst (Each (HoldsBelow t)) (append-nil done) h
turned_below t done (c ∷ cs) r h = h

served_below : (t : Terms) (a : Answers) (moved : Bool) (pushed : Mail) (done cs : List Conn) (d : Conn) (o : Does) (r : Reactor) → r.done ≡ done → Each (ToWorker t) pushed → Each (HoldsBelow t) ((done ++ d ∷ []) ++ cs) → Each (HoldsBelow t) (done ++ cs) → DoesBelow t o → Straight t pushed (served_by t a moved cs d o r)
served_below t a moved pushed done cs d (Pushes w e) r q p h g b = record { pushed_is = p; held = turned_below t (r.done ++ d ∷ []) cs r (subst (λ (xs : List Conn). Each (HoldsBelow t) ((xs ++ d ∷ []) ++ cs)) (sym q) h); asks = (w, (b, refl)) }
served_below t a moved pushed done cs d Moves r q p h g b = record { pushed_is = p; held = turned_below t (r.done ++ d ∷ []) cs r (subst (λ (xs : List Conn). Each (HoldsBelow t) ((xs ++ d ∷ []) ++ cs)) (sym q) h); asks = tt }
served_below t a moved pushed done cs d Stays r q p h g b = pick moved
  where
    here : Each (HoldsBelow t) (all (turned (r.done ++ d ∷ []) cs r))
    here = turned_below t (r.done ++ d ∷ []) cs r (subst (λ (xs : List Conn). Each (HoldsBelow t) ((xs ++ d ∷ []) ++ cs)) (sym q) h)

    rests : (x : Bool) → AsksBelow t (rest_by x)
    rests true = tt
    rests false = tt

    pick : (x : Bool) → Straight t pushed (if x then record (turned (r.done ++ d ∷ []) cs r) { last = Nothing; still = 0 } else stayed (length (r.done ++ d ∷ cs)) (turned (r.done ++ d ∷ []) cs r))
    pick true = record { pushed_is = p; held = here; asks = tt }
    pick false = record { pushed_is = p; held = here; asks = rests _ }
served_below t a moved pushed done cs d (Leaves e) r q p h g b = record { pushed_is = p; held = turned_below t r.done cs r (subst (λ (xs : List Conn). Each (HoldsBelow t) (xs ++ cs)) (sym q) g); asks = tt }

ends_below : (t : Terms) (pushed : Mail) (r : Reactor) → Each (ToWorker t) pushed → Each (HoldsBelow t) (all r) → Straight t pushed (ends_by t r)
ends_below t pushed r p h = pick (nat_lt 0 r.ends) (nat_lt r.given t.worker_num) refl (r.ends == 1 + t.worker_num + t.tasker_num)
  where
    pick : (x y : Bool) → nat_lt r.given t.worker_num ≡ y → (z : Bool) → Straight t pushed (if x then (if y then record r { last = Push r.given NoMore } else (if z then record r { last = Finished } else record r { last = Rest })) else record r { last = Rest })
    pick true true e z = record { pushed_is = p; held = h; asks = (r.given, (lt_is r.given t.worker_num e, refl)) }
    pick true false e true = record { pushed_is = p; held = h; asks = tt }
    pick true false e false = record { pushed_is = p; held = h; asks = tt }
    pick false y e z = record { pushed_is = p; held = h; asks = tt }

serves_below : (t : Terms) (a : Answers) (pushed : Mail) (r : Reactor) → 0 < t.worker_num → IsIdle t a → Each (ToWorker t) pushed → (next : List Conn) → r.next ≡ next → Each (HoldsBelow t) (all r) → Straight t pushed (serves t a next r)
serves_below t a pushed r some idle p [] e h = ends_below t pushed r p h
serves_below t a pushed r some idle p (c ∷ cs) e h =
    let v : Served = serve t a r.round c in
    let front : Each (HoldsBelow t) r.done = each_left (HoldsBelow t) r.done r.next h in
    let back : Each (HoldsBelow t) (c ∷ cs) = subst (Each (HoldsBelow t)) e (each_right (HoldsBelow t) r.done r.next h) in
    let s : StraightServed t v = serve_straight t a r.round c some idle back.0 in
    served_below t a (writes a.write c) pushed r.done cs v.conn v.does (record r { round = counted v.cuts r.round }) refl p
    (each_append (HoldsBelow t) (r.done ++ v.conn ∷ []) cs (each_append (HoldsBelow t) r.done (v.conn ∷ []) front (s.held, tt)) back.1)
    (each_append (HoldsBelow t) r.done cs front back.1) s.does

takes_next : (t : Terms) (pushed : Mail) (r : Reactor) → Each (ToWorker t) pushed → Each (HoldsBelow t) (all r) → (b : Bool) → Straight t pushed (record (if b then each_conn stops r else r) { last = Take })
takes_next t pushed r p h true = record { pushed_is = p; held = each_below t stops (λ c k. k) r h; asks = tt }
takes_next t pushed r p h false = record { pushed_is = p; held = h; asks = tt }

chosen_below : (t : Terms) (a : Answers) (pushed : Mail) (r : Reactor) → 0 < t.worker_num → IsIdle t a → Each (ToWorker t) pushed → Each (HoldsBelow t) (all r) → (ask : Ask) → Straight t pushed (chosen t a ask r)
chosen_below t a pushed r some idle p h Take = serves_below t a pushed r some idle p r.next refl h
chosen_below t a pushed r some idle p h (Push w m) = takes_next t pushed r p h a.stop
chosen_below t a pushed r some idle p h Nothing = takes_next t pushed r p h a.stop
chosen_below t a pushed r some idle p h Rest = takes_next t pushed r p h a.stop
chosen_below t a pushed r some idle p h Finished = takes_next t pushed r p h a.stop

pub turn_below : (t : Terms) (starved : Bool) (a : Answers) (got : Got Message) (pushed : Mail) (r : Reactor) → 0 < t.worker_num → IsIdle t a → Each (ToWorker t) pushed → Each (HoldsBelow t) (all r) → AsksBelow t r.last → Straight t pushed (turn t starved a got r)
turn_below t starved a got pushed r some idle p h b = chosen_below t a pushed (settled t starved got r) some idle p (settled_below t starved got r b h) r.last
