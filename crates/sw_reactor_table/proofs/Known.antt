-- A uid that was seen is that of the session, so what the release answers is what was seen.
use Rattle.std.proofs.Common.{◌≡◌, ◌⊎◌, ℕ, ◌+◌, ◌==◌, ◌-◌, ◌^◌, Bool, true, false, nat_lt, if◌then◌else◌, List, [], ◌∷◌, ◌++◌, length, refl, ap, ◌∙◌, sym, subst, append-nil, append_assoc, Option, Some, None, inl, inr, map}
use Rattle.sw_link.specs.declared.link.LinkWrite.{LinkWrite}
use Rattle.sw_link.specs.Reads.{Read, GotPiece, ReadNotYet, ReadEnd, ReadFailed}
use Rattle.sw_conn.specs.Causes.{is_hard}
use Rattle.sw_conn.specs.Conn.{set_soft, set_hard}
use Rattle.sw_data.specs.declared.messages.Got.{Got}
use Rattle.sw_data.specs.declared.messages.Got.TheVariants.{Took}
use Rattle.sw_link.specs.declared.link.LinkWrite.TheVariants as writing
use Rattle.sw_frame.specs.declared.next.Next.{Next}
use Rattle.sw_frame.specs.declared.next.Next.TheVariants as next
use Rattle.sw_lists.specs.Lists.{Each}
use Rattle.sw_lists.proofs.Lists.{each_right}
use Rattle.sw_record.specs.Words.{Event, Connect, Packet, Closed, Finish, Task, Cause, NoMemory, Overflow, ServerClose, ResetCause, Ended}
use Rattle.sw_record.specs.declared.record.LinkState.TheVariants.{Over}
use Rattle.sw_record.specs.Terms.{Terms}
use Rattle.sw_past.specs.Messages.{Message, FreshMsg, SendMsg, CloseMsg, ResetMsg, Bye, EventMsg, OverMsg, NoMore}
use Rattle.sw_past.specs.Past.{Mail}
use Rattle.sw_reactor_table.specs.Conn.{cuts_next, starve, cutter, Conn, Answers, sent, takes, noted, wrote, flushed_some, flushed, writes, Stays, Leaves, Served, pushes, plain, read_by, cut_by, closes, can_leave, end_by, cause_by, connects, open_by, held_by, tidied, serve, account, over_link}
use Rattle.sw_reactor_table.specs.Reactor.{Reactor, Ask, Take, Push, Nothing, Rest, Finished, all, settled, counted, serves, chosen, started}
use Rattle.sw_reactor_table.specs.Runs.{TellsUid, IsHonest, IsFaithful, Known, Runs, First, Then}
use Rattle.sw_frame.specs.Cutting.{next_of}
use Rattle.sw_reactor_table.proofs.Everywhere.{Settled, Both, if_each, settled_each, settled_over, served_both, ends_both, takes_both, around}

-- a serve
pub record KnownServed (word : ℕ → ℕ) (s : ℕ) (v : Served) : Type 0 where
  pub session : v.conn.session ≡ s
  pub known : Known word v.conn

pushes_known : (word : ℕ → ℕ) (t : Terms) (a : Answers) (k : ℕ) (e : Event) (cuts : Bool) (c : Conn) → (a.look ≡ 0) ⊎ (a.look ≡ word c.session) → Known word c → KnownServed word c.session (pushes t a k e cuts c)
pushes_known word t a k e cuts c look h = record { session = same (t.mode == 5) (c.uid == 0); known = pick (t.mode == 5) (c.uid == 0) }
  where
    same : (x y : Bool) → ◌≡◌ {A = ℕ} (if x then (if y then record c { uid = a.look; split = c.dispatched } else c) else c).session c.session
    same true true = refl
    same true false = refl
    same false y = refl

    pick : (x y : Bool) → Known word (if x then (if y then record c { uid = a.look; split = c.dispatched } else c) else c)
    pick true true = look
    pick true false = h
    pick false y = h

read_known : (word : ℕ → ℕ) (b : Bool) (r : Read) (c : Conn) → Known word c → KnownServed word c.session (read_by b r c)
read_known word b (GotPiece p) c h = record { session = refl; known = h }
read_known word b ReadNotYet c h = record { session = refl; known = h }
read_known word b ReadEnd c h = record { session = refl; known = h }
read_known word b ReadFailed c h = record { session = refl; known = h }

cut_known : (word : ℕ → ℕ) (t : Terms) (a : Answers) (k : ℕ) (x : Next) (c : Conn) → (a.look ≡ 0) ⊎ (a.look ≡ word c.session) → Known word c → KnownServed word c.session (cut_by t a k x c)
cut_known word t a k (next.Packet b) c look h = pushes_known word t a k (Packet c.session c.dispatched b) true (record c { taken = c.taken + 1 }) look h
cut_known word t a k next.More c look h = read_known word a.feed_starved a.read c h
cut_known word t a k (next.TooLong m) c look h = record { session = refl; known = h }
cut_known word t a k (next.BadLength m) c look h = record { session = refl; known = h }
cut_known word t a k next.OutOfMemory c look h = record { session = refl; known = h }

end_known : (word : ℕ → ℕ) (t : Terms) (a : Answers) (k : ℕ) (e : Cause) (c : Conn) → (a.look ≡ 0) ⊎ (a.look ≡ word c.session) → Known word c → KnownServed word c.session (end_by t a k e c)
end_known word t a k e c look h = pick (closes t c.phase)
  where
    pick : (b : Bool) → KnownServed word c.session (if b then pushes t a k (Closed c.session) false c else plain c (if can_leave c then Leaves e else Stays))
    pick true = pushes_known word t a k (Closed c.session) false c look h
    pick false = record { session = refl; known = h }

cause_known : (word : ℕ → ℕ) (t : Terms) (a : Answers) (k : ℕ) (o : Option Cause) (c : Conn) → (a.look ≡ 0) ⊎ (a.look ≡ word c.session) → Known word c → KnownServed word c.session (cause_by t a k o c)
cause_known word t a k None c look h = pick (nat_lt c.dispatched (2 ^ 64 - 1))
  where
    pick : (b : Bool) → KnownServed word c.session (if b then cuts_next t a k c else plain c Stays)
    pick true = cut_known word t a k (starve a.cut_starved (next_of (cutter t c))) c look h
    pick false = record { session = refl; known = h }
cause_known word t a k (Some e) c look h = end_known word t a k e c look h

open_known : (word : ℕ → ℕ) (t : Terms) (a : Answers) (k : ℕ) (c : Conn) → (a.look ≡ 0) ⊎ (a.look ≡ word c.session) → Known word c → KnownServed word c.session (open_by t a k c)
open_known word t a k c look h = pick (connects t c.phase)
  where
    pick : (b : Bool) → KnownServed word c.session (if b then pushes t a k (Connect c.session) false c else cause_by t a k c.cause c)
    pick true = pushes_known word t a k (Connect c.session) false c look h
    pick false = cause_known word t a k c.cause c look h

held_known : (word : ℕ → ℕ) (t : Terms) (a : Answers) (k : ℕ) (o : Option (ℕ × Event)) (c : Conn) → (a.look ≡ 0) ⊎ (a.look ≡ word c.session) → Known word c → KnownServed word c.session (held_by t a k o c)
held_known word t a k (Some x) c look h = record { session = refl; known = h }
held_known word t a k None c look h = open_known word t a k c look h

-- point 1 changes neither uid nor session
flushed_same : (w : LinkWrite) (c : Conn) → ((flushed w c).session ≡ c.session) × ((flushed w c).uid ≡ c.uid)
flushed_same w c = pick (is_hard c.cause)
  where
    written : (v : LinkWrite) → ((wrote v c).session ≡ c.session) × ((wrote v c).uid ≡ c.uid)
    written (writing.Took k) = (refl, refl)
    written writing.NotYet = (refl, refl)
    written writing.Failed = (refl, refl)

    some : (us : List ℕ) → ((flushed_some w us c).session ≡ c.session) × ((flushed_some w us c).uid ≡ c.uid)
    some [] = (refl, refl)
    some (b ∷ bs) = written w

    pick : (b : Bool) → (◌≡◌ {A = ℕ} (if b then c else flushed_some w c.unsent c).session c.session) × (◌≡◌ {A = ℕ} (if b then c else flushed_some w c.unsent c).uid c.uid)
    pick true = (refl, refl)
    pick false = some c.unsent

serve_known : (word : ℕ → ℕ) (t : Terms) (a : Answers) (k : ℕ) (c : Conn) → (a.look ≡ 0) ⊎ (a.look ≡ word c.session) → Known word c → KnownServed word c.session (serve t a k c)
serve_known word t a k c look h =
    let d : Conn = flushed a.write c in
    let f = flushed_same a.write c in
    let g : Known word (tidied a c) = elim h [ inl z ↦ inl (f.1 ∙ z) | inr z ↦ inr (f.1 ∙ z ∙ ap word (sym f.0)) ] in
    let v = held_known word t a k (tidied a c).held (tidied a c) (elim look [ inl z ↦ inl z | inr z ↦ inr (z ∙ ap word (sym f.0)) ]) g in
    record { session = v.session ∙ f.0; known = v.known }

-- what settles keeps it
settled_known : (word : ℕ → ℕ) (t : Terms) → Settled t (Known word)
settled_known word t = record { comes = λ starved ip s. inl refl; taken = takes_known; pushed = noted_known; held = λ w e c h. h }
  where
    takes_known : (starved : Bool) (m : Message) (c : Conn) → Known word c → Known word (takes t starved m c)
    takes_known starved (FreshMsg ip s) c h = h
    takes_known starved (SendMsg s b) c h = if_each (Known word) (c.session == s) c (sent t starved b c) h (sends (is_hard c.cause) (nat_lt t.buffer_size (length c.unsent + length b)) starved)
      where
        sends : (x y z : Bool) → Known word (if x then c else (if y then record c { cause = Some (Overflow (length c.unsent + length b)) } else (if z then record c { cause = Some NoMemory } else record c { unsent = c.unsent ++ b })))
        sends true y z = h
        sends false true z = h
        sends false false true = h
        sends false false false = h
    takes_known starved (CloseMsg s) c h = if_each (Known word) (c.session == s) c (record c { cause = set_soft ServerClose c.cause }) h h
    takes_known starved (ResetMsg s) c h = if_each (Known word) (c.session == s) c (record c { cause = set_hard ResetCause c.cause }) h h
    takes_known starved (Bye s) c h = if_each (Known word) (c.session == s) c (record c { awaited = c.awaited - 1 }) h h
    takes_known starved (EventMsg e) c h = h
    takes_known starved (OverMsg id) c h = h
    takes_known starved NoMore c h = h

    noted_known : (e : Event) (c : Conn) → Known word c → Known word (noted t e c)
    noted_known (Connect s) c h = h
    noted_known (Packet s i b) c h = h
    noted_known (Closed s) c h = h
    noted_known (Finish id b) c h = h
    noted_known (Task v id b) c h = h

-- of all connections, and each ended link tells the uid of its session
abbrev pub AllKnown : (ℕ → ℕ) → Reactor → Type 0
AllKnown word r = Both (Known word) (TellsUid word) r

over_tells : (word : ℕ → ℕ) (t : Terms) (d : Conn) (u : ℕ) (e : Cause) → u ≡ word d.session → TellsUid word (over_link t d u e)
over_tells word t d u e k x s q z = (let g : account t d u e ≡ x = ends_same (account t d u e) x q in let f : u ≡ x.uid = ap (λ (y : Ended). y.uid) g in let v : d.session ≡ s = some_same d.session s (ap (λ (y : Ended). y.session) g ∙ z) in sym f ∙ k ∙ ap word v)
  where
    some_same : (x y : ℕ) → Some x ≡ Some y → x ≡ y
    some_same x y q = cc

    ends_same : (x y : Ended) → Over x ≡ Over y → x ≡ y
    ends_same x y q = cc

next_known : (word : ℕ → ℕ) (r : Reactor) (c : Conn) (cs : List Conn) → r.next ≡ c ∷ cs → Each (Known word) (all r) → Known word c
next_known word r c cs e h = (subst (Each (Known word)) e (each_right (Known word) r.done r.next h)).0

serves_known : (word : ℕ → ℕ) (t : Terms) (a : Answers) (r : Reactor) → IsFaithful t word a r → (next : List Conn) → r.next ≡ next → AllKnown word r → AllKnown word (serves t a next r)
serves_known word t a r f [] e h = ends_both (Known word) (TellsUid word) t r h
serves_known word t a r f (c ∷ cs) e h =
    let v : Served = serve t a r.round c in
    let s : KnownServed word c.session v = serve_known word t a r.round c (f.look c cs e) (next_known word r c cs e h.conns) in
    let sides = around (Known word) (Known word) r.done cs c v.conn (λ b k. k) (subst (λ (zs : List Conn). Each (Known word) (r.done ++ zs)) e h.conns) s.known in
    served_both (Known word) (TellsUid word) t a (writes a.write c) cs v.conn v.does (record r { round = counted v.cuts r.round }) sides.0 sides.1 (λ x q. over_tells word t v.conn a.released x (f.released c cs e ∙ ap word (sym s.session))) h.over

chosen_known : (word : ℕ → ℕ) (t : Terms) (a : Answers) (r : Reactor) → IsFaithful t word a r → AllKnown word r → (ask : Ask) → AllKnown word (chosen t a ask r)
chosen_known word t a r f h Take = serves_known word t a r f r.next refl h
chosen_known word t a r f h (Push w m) = takes_both (Known word) (TellsUid word) (λ c k. k) r h a.stop
chosen_known word t a r f h Nothing = takes_both (Known word) (TellsUid word) (λ c k. k) r h a.stop
chosen_known word t a r f h Rest = takes_both (Known word) (TellsUid word) (λ c k. k) r h a.stop
chosen_known word t a r f h Finished = takes_both (Known word) (TellsUid word) (λ c k. k) r h a.stop

-- all runs
runs_all : (word : ℕ → ℕ) (t : Terms) (took pushed : Mail) (r : Reactor) → Runs t word took pushed r → AllKnown word r
runs_all word t _ _ _ (First starved a f) = chosen_known word t a started f (record { conns = tt; over = tt }) started.last
runs_all word t _ _ _ (Then {took = took} {pushed = pushed} {r = r} before later more got call starved a f) =
    (let h : AllKnown word r = runs_all word t took pushed r before in
    chosen_known word t a (settled t starved got r) f
    (record { conns = settled_each t (Known word) (settled_known word t) starved got r h.conns; over = subst (Each (TellsUid word)) (sym (settled_over t starved got r)) h.over }) r.last)

pub runs_known : (word : ℕ → ℕ) (t : Terms) (took pushed : Mail) (r : Reactor) → Runs t word took pushed r → Each (Known word) (all r)
runs_known word t took pushed r run = (runs_all word t took pushed r run).conns

pub runs_over : (word : ℕ → ℕ) (t : Terms) (took pushed : Mail) (r : Reactor) → Runs t word took pushed r → Each (TellsUid word) r.over
runs_over word t took pushed r run = (runs_all word t took pushed r run).over

-- so what is released is what was seen
pub honest_of : (word : ℕ → ℕ) (t : Terms) (a : Answers) (r : Reactor) → IsFaithful t word a r → Each (Known word) (all r) → IsHonest t a r
honest_of word t a r f h =
    record {
      idle = f.idle;
      released = λ c cs e five.
          (let s : KnownServed word c.session (serve t a r.round c) = serve_known word t a r.round c (f.look c cs e) (next_known word r c cs e h) in
          elim s.known [ inl z ↦ inl z | inr z ↦ inr (f.released c cs e ∙ sym (z ∙ ap word s.session)) ]);
    }

pub honest_then : (word : ℕ → ℕ) (t : Terms) (a : Answers) (starved : Bool) (got : Got Message) (r : Reactor) → IsFaithful t word a (settled t starved got r) → Each (Known word) (all r) → IsHonest t a (settled t starved got r)
honest_then word t a starved got r f h = honest_of word t a (settled t starved got r) f (settled_each t (Known word) (settled_known word t) starved got r h)
