-- A fact of each connection and one of each link that ended: what keeps them through what is settled and what is chosen.
use Rattle.std.proofs.Common.{◌≡◌, ℕ, ◌+◌, ◌==◌, Bool, true, false, nat_lt, if◌then◌else◌, List, [], ◌∷◌, ◌++◌, length, map, refl, ap, ◌∙◌, sym, subst, append-nil, append_assoc}
use Rattle.sw_data.specs.declared.messages.Got.{Got}
use Rattle.sw_data.specs.declared.messages.Got.TheVariants.{Start, Took, Empty, Pushed, Full}
use Rattle.sw_data.specs.declared.messages.Got.TheVariants as gots
use Rattle.sw_lists.specs.Lists.{Each}
use Rattle.sw_lists.proofs.Lists.{each_append, each_left, each_right, each_more}
use Rattle.sw_record.specs.Words.{Event, Connect, Packet, Closed, Finish, Task, Cause}
use Rattle.sw_record.specs.declared.record.LinkRecord.{LinkRecord}
use Rattle.sw_record.specs.Terms.{Terms}
use Rattle.sw_past.specs.Messages.{Message, FreshMsg, SendMsg, CloseMsg, ResetMsg, Bye, EventMsg, OverMsg, NoMore}
use Rattle.sw_reactor_table.specs.Conn.{Conn, Answers, Does, Pushes, Moves, Stays, Leaves, fresh, takes, stops, noted, holds, at_event, over_link}
use Rattle.sw_reactor_table.specs.Reactor.{Reactor, Ask, Take, Push, Nothing, Rest, Finished, all, each_conn, settled, settled_msg, settled_push, settled_full, pushed_by, full_by, turned, stayed, served_by, ends_by}

-- what settles keeps it
pub record Settled (t : Terms) (P : Conn → Type 0) : Type 0 where
  pub comes : (starved : Bool) (ip s : ℕ) → P (fresh starved ip s)
  pub taken : (starved : Bool) (m : Message) (c : Conn) → P c → P (takes t starved m c)
  pub pushed : (e : Event) (c : Conn) → P c → P (noted t e c)
  pub held : (w : ℕ) (e : Event) (c : Conn) → P c → P (holds w e c)

map_each : (P Q : Conn → Type 0) (f : Conn → Conn) → ((c : Conn) → P c → Q (f c)) → (cs : List Conn) → Each P cs → Each Q (map f cs)
map_each P Q f k [] h = tt
map_each P Q f k (c ∷ cs) h = (k c h.0, map_each P Q f k cs h.1)

pub each_all_conn : (P Q : Conn → Type 0) (f : Conn → Conn) → ((c : Conn) → P c → Q (f c)) → (r : Reactor) → Each P (all r) → Each Q (all (each_conn f r))
each_all_conn P Q f k r h = each_append Q (map f r.done) (map f r.next) (map_each P Q f k r.done (each_left P r.done r.next h)) (map_each P Q f k r.next (each_right P r.done r.next h))

pub if_each : (P : Conn → Type 0) (x : Bool) (c d : Conn) → P c → P d → P (if x then d else c)
if_each P true c d h k = k
if_each P false c d h k = h

at_each : (P : Conn → Type 0) (f : Conn → Conn) (e : Event) → ((c : Conn) → P c → P (f c)) → (c : Conn) → P c → P (at_event f e c)
at_each P f (Connect s) k c h = if_each P (c.session == s) c (f c) h (k c h)
at_each P f (Packet s i p) k c h = if_each P (c.session == s) c (f c) h (k c h)
at_each P f (Closed s) k c h = if_each P (c.session == s) c (f c) h (k c h)
at_each P f (Finish id p) k c h = h
at_each P f (Task v id p) k c h = h

msg_each : (t : Terms) (P : Conn → Type 0) → Settled t P → (starved : Bool) (m : Message) (r : Reactor) → Each P (all r) → Each P (all (settled_msg t starved m r))
msg_each t P s starved (FreshMsg ip u) r h = subst (Each P) (append_assoc r.done r.next (fresh starved ip u ∷ [])) (each_append P (all r) (fresh starved ip u ∷ []) h (s.comes starved ip u, tt))
msg_each t P s starved (SendMsg u p) r h = each_all_conn P P (takes t starved (SendMsg u p)) (s.taken starved (SendMsg u p)) r h
msg_each t P s starved (CloseMsg u) r h = each_all_conn P P (takes t starved (CloseMsg u)) (s.taken starved (CloseMsg u)) r h
msg_each t P s starved (ResetMsg u) r h = each_all_conn P P (takes t starved (ResetMsg u)) (s.taken starved (ResetMsg u)) r h
msg_each t P s starved (Bye u) r h = each_all_conn P P (takes t starved (Bye u)) (s.taken starved (Bye u)) r h
msg_each t P s starved (EventMsg e) r h = h
msg_each t P s starved (OverMsg id) r h = h
msg_each t P s starved NoMore r h = h

push_each : (t : Terms) (P : Conn → Type 0) → Settled t P → (m : Message) (r : Reactor) → Each P (all r) → Each P (all (settled_push t m r))
push_each t P s (FreshMsg ip u) r h = h
push_each t P s (SendMsg u p) r h = h
push_each t P s (CloseMsg u) r h = h
push_each t P s (ResetMsg u) r h = h
push_each t P s (Bye u) r h = h
push_each t P s (EventMsg e) r h = each_all_conn P P (at_event (noted t e) e) (at_each P (noted t e) e (s.pushed e)) r h
push_each t P s (OverMsg id) r h = h
push_each t P s NoMore r h = h

full_each : (t : Terms) (P : Conn → Type 0) → Settled t P → (w : ℕ) (m : Message) (r : Reactor) → Each P (all r) → Each P (all (settled_full w m r))
full_each t P s w (FreshMsg ip u) r h = h
full_each t P s w (SendMsg u p) r h = h
full_each t P s w (CloseMsg u) r h = h
full_each t P s w (ResetMsg u) r h = h
full_each t P s w (Bye u) r h = h
full_each t P s w (EventMsg e) r h = each_all_conn P P (at_event (holds w e) e) (at_each P (holds w e) e (s.held w e)) r h
full_each t P s w (OverMsg id) r h = h
full_each t P s w NoMore r h = h

pushed_each : (t : Terms) (P : Conn → Type 0) → Settled t P → (ask : Ask) (r : Reactor) → Each P (all r) → Each P (all (pushed_by t ask r))
pushed_each t P s Take r h = h
pushed_each t P s (Push w m) r h = push_each t P s m r h
pushed_each t P s Nothing r h = h
pushed_each t P s Rest r h = h
pushed_each t P s Finished r h = h

back_each : (t : Terms) (P : Conn → Type 0) → Settled t P → (ask : Ask) (m : Message) (r : Reactor) → Each P (all r) → Each P (all (full_by ask m r))
back_each t P s Take m r h = h
back_each t P s (Push w x) m r h = full_each t P s w m r h
back_each t P s Nothing m r h = h
back_each t P s Rest m r h = h
back_each t P s Finished m r h = h

pub settled_each : (t : Terms) (P : Conn → Type 0) → Settled t P → (starved : Bool) (got : Got Message) (r : Reactor) → Each P (all r) → Each P (all (settled t starved got r))
settled_each t P s starved Start r h = h
settled_each t P s starved (Took m) r h = msg_each t P s starved m (record r { empty = false }) h
settled_each t P s starved Empty r h = h
settled_each t P s starved Pushed r h = pushed_each t P s r.last r h
settled_each t P s starved (Full m) r h = back_each t P s r.last m r h
settled_each t P s starved gots.Nothing r h = h

-- the links that ended stay
msg_over : (t : Terms) (starved : Bool) (m : Message) (r : Reactor) → (settled_msg t starved m r).over ≡ r.over
msg_over t starved (FreshMsg ip s) r = refl
msg_over t starved (SendMsg s b) r = refl
msg_over t starved (CloseMsg s) r = refl
msg_over t starved (ResetMsg s) r = refl
msg_over t starved (Bye s) r = refl
msg_over t starved (EventMsg e) r = refl
msg_over t starved (OverMsg id) r = refl
msg_over t starved NoMore r = refl

push_over : (t : Terms) (m : Message) (r : Reactor) → (settled_push t m r).over ≡ r.over
push_over t (FreshMsg ip s) r = refl
push_over t (SendMsg s b) r = refl
push_over t (CloseMsg s) r = refl
push_over t (ResetMsg s) r = refl
push_over t (Bye s) r = refl
push_over t (EventMsg e) r = refl
push_over t (OverMsg id) r = refl
push_over t NoMore r = refl

full_over : (w : ℕ) (m : Message) (r : Reactor) → (settled_full w m r).over ≡ r.over
full_over w (FreshMsg ip s) r = refl
full_over w (SendMsg s b) r = refl
full_over w (CloseMsg s) r = refl
full_over w (ResetMsg s) r = refl
full_over w (Bye s) r = refl
full_over w (EventMsg e) r = refl
full_over w (OverMsg id) r = refl
full_over w NoMore r = refl

pub settled_over : (t : Terms) (starved : Bool) (got : Got Message) (r : Reactor) → (settled t starved got r).over ≡ r.over
settled_over t starved Start r = refl
settled_over t starved (Took m) r = msg_over t starved m (record r { empty = false })
settled_over t starved Empty r = refl
settled_over t starved Pushed r = by r.last
  where
    by : (ask : Ask) → (pushed_by t ask r).over ≡ r.over
    by Take = refl
    by (Push w m) = push_over t m r
    by Nothing = refl
    by Rest = refl
    by Finished = refl
settled_over t starved (Full m) r = by r.last
  where
    by : (ask : Ask) → (full_by ask m r).over ≡ r.over
    by Take = refl
    by (Push w x) = full_over w m r
    by Nothing = refl
    by Rest = refl
    by Finished = refl
settled_over t starved gots.Nothing r = refl

pub turned_over : (done cs : List Conn) (r : Reactor) → (turned done cs r).over ≡ r.over
turned_over done [] r = refl
turned_over done (c ∷ cs) r = refl

-- of connections and links
pub record Both (P : Conn → Type 0) (R : LinkRecord → Type 0) (r : Reactor) : Type 0 where
  pub conns : Each P (all r)
  pub over : Each R r.over

pub both_more : (P Q : Conn → Type 0) (R S : LinkRecord → Type 0) → ((c : Conn) → P c → Q c) → ((l : LinkRecord) → R l → S l) → (r : Reactor) → Both P R r → Both Q S r
both_more P Q R S f g r b = record { conns = each_more P Q (all r) f b.conns; over = each_more R S r.over g b.over }

turned_each : (P : Conn → Type 0) (done cs : List Conn) (r : Reactor) → Each P (done ++ cs) → Each P (all (turned done cs r))
turned_each P done [] r h = subst (Each P) (append-nil done) h
turned_each P done (c ∷ cs) r h = h

pub served_both : (P : Conn → Type 0) (R : LinkRecord → Type 0) (t : Terms) (a : Answers) (moved : Bool) (cs : List Conn) (d : Conn) (o : Does) (r : Reactor) → Each P ((r.done ++ d ∷ []) ++ cs) → Each P (r.done ++ cs) → ((e : Cause) → o ≡ Leaves e → R (over_link t d a.released e)) → Each R r.over → Both P R (served_by t a moved cs d o r)
served_both P R t a moved cs d (Pushes w e) r h g l v = record { conns = turned_each P (r.done ++ d ∷ []) cs r h; over = subst (Each R) (sym (turned_over (r.done ++ d ∷ []) cs r)) v }
served_both P R t a moved cs d Moves r h g l v = record { conns = turned_each P (r.done ++ d ∷ []) cs r h; over = subst (Each R) (sym (turned_over (r.done ++ d ∷ []) cs r)) v }
served_both P R t a moved cs d Stays r h g l v = pick moved
  where
    pick : (x : Bool) → Both P R (if x then record (turned (r.done ++ d ∷ []) cs r) { last = Nothing; still = 0 } else stayed (length (r.done ++ d ∷ cs)) (turned (r.done ++ d ∷ []) cs r))
    pick true = record { conns = turned_each P (r.done ++ d ∷ []) cs r h; over = subst (Each R) (sym (turned_over (r.done ++ d ∷ []) cs r)) v }
    pick false = record { conns = turned_each P (r.done ++ d ∷ []) cs r h; over = subst (Each R) (sym (turned_over (r.done ++ d ∷ []) cs r)) v }
served_both P R t a moved cs d (Leaves e) r h g l v = record { conns = turned_each P r.done cs r g; over = each_append R r.over (over_link t d a.released e ∷ []) v (l e refl, tt) }

pub ends_both : (P : Conn → Type 0) (R : LinkRecord → Type 0) (t : Terms) (r : Reactor) → Both P R r → Both P R (ends_by t r)
ends_both P R t r h = pick (nat_lt 0 r.ends) (nat_lt r.given t.worker_num) (r.ends == 1 + t.worker_num + t.tasker_num)
  where
    pick : (x y z : Bool) → Both P R (if x then (if y then record r { last = Push r.given NoMore } else (if z then record r { last = Finished } else record r { last = Rest })) else record r { last = Rest })
    pick true true z = record { conns = h.conns; over = h.over }
    pick true false true = record { conns = h.conns; over = h.over }
    pick true false false = record { conns = h.conns; over = h.over }
    pick false y z = record { conns = h.conns; over = h.over }

pub takes_both : (P : Conn → Type 0) (R : LinkRecord → Type 0) → ((c : Conn) → P c → P (stops c)) → (r : Reactor) → Both P R r → (b : Bool) → Both P R (record (if b then each_conn stops r else r) { last = Take })
takes_both P R k r h true = record { conns = each_all_conn P P stops k r h.conns; over = h.over }
takes_both P R k r h false = record { conns = h.conns; over = h.over }

-- what a served connection comes to, with the others before and behind it
pub around : (P Q : Conn → Type 0) (done cs : List Conn) (c d : Conn) → ((b : Conn) → P b → Q b) → Each P (done ++ c ∷ cs) → Q d → Each Q ((done ++ d ∷ []) ++ cs) × Each Q (done ++ cs)
around P Q done cs c d f h q =
    let front : Each Q done = each_more P Q done f (each_left P done (c ∷ cs) h) in
    let back : Each Q cs = each_more P Q cs f (each_right P done (c ∷ cs) h).1 in
    (each_append Q (done ++ d ∷ []) cs (each_append Q done (d ∷ []) front (q, tt)) back, each_append Q done cs front back)
