-- A serve keeps its connection's session.
use Rattle.std.proofs.Common.{◌≡◌, ℕ, ◌+◌, ◌-◌, ◌^◌, ◌==◌, Bool, true, false, nat_lt, if◌then◌else◌, List, [], ◌∷◌, Option, Some, None, refl, ◌∙◌}
use Rattle.sw_frame.specs.Cutting.{next_of}
use Rattle.sw_frame.specs.declared.next.Next.{Next}
use Rattle.sw_frame.specs.declared.next.Next.TheVariants as next
use Rattle.sw_link.specs.declared.link.LinkWrite.{LinkWrite}
use Rattle.sw_link.specs.declared.link.LinkWrite.TheVariants as writing
use Rattle.sw_link.specs.Reads.{Read, GotPiece, ReadNotYet, ReadEnd, ReadFailed}
use Rattle.sw_conn.specs.Causes.{is_hard}
use Rattle.sw_record.specs.Words.{Event, Connect, Closed, Cause}
use Rattle.sw_record.specs.Terms.{Terms}
use Rattle.sw_reactor_table.specs.Conn.{Conn, Answers, Leaves, Stays, wrote, flushed_some, flushed, tidied, looked, pushes, plain, starve, cutter, read_by, cut_by, cuts_next, closes, can_leave, end_by, cause_by, connects, held_by, serve}

pub looked_session : (t : Terms) (a : Answers) (c : Conn) → (looked t a c).session ≡ c.session
looked_session t a c = pick (t.mode == 5) (c.uid == 0)
  where
    pick : (x y : Bool) → ◌≡◌ {A = ℕ} (if x then (if y then record c { uid = a.look; split = c.dispatched } else c) else c).session c.session
    pick true true = refl
    pick true false = refl
    pick false y = refl

read_session : (starved : Bool) (r : Read) (c : Conn) → (read_by starved r c).conn.session ≡ c.session
read_session starved (GotPiece p) c = refl
read_session starved ReadNotYet c = refl
read_session starved ReadEnd c = refl
read_session starved ReadFailed c = refl

cut_session : (t : Terms) (a : Answers) (k : ℕ) (x : Next) (c : Conn) → (cut_by t a k x c).conn.session ≡ c.session
cut_session t a k (next.Packet b) c = looked_session t a (record c { taken = c.taken + 1 })
cut_session t a k next.More c = read_session a.feed_starved a.read c
cut_session t a k (next.TooLong n) c = refl
cut_session t a k (next.BadLength n) c = refl
cut_session t a k next.OutOfMemory c = refl

end_session : (t : Terms) (a : Answers) (k : ℕ) (e : Cause) (c : Conn) → (end_by t a k e c).conn.session ≡ c.session
end_session t a k e c = pick (closes t c.phase)
  where
    pick : (b : Bool) → ◌≡◌ {A = ℕ} (if b then pushes t a k (Closed c.session) false c else plain c (if can_leave c then Leaves e else Stays)).conn.session c.session
    pick true = looked_session t a c
    pick false = refl

cause_session : (t : Terms) (a : Answers) (k : ℕ) (o : Option Cause) (c : Conn) → (cause_by t a k o c).conn.session ≡ c.session
cause_session t a k None c = pick (nat_lt c.dispatched (2 ^ 64 - 1))
  where
    pick : (b : Bool) → ◌≡◌ {A = ℕ} (if b then cuts_next t a k c else plain c Stays).conn.session c.session
    pick true = cut_session t a k (starve a.cut_starved (next_of (cutter t c))) c
    pick false = refl
cause_session t a k (Some e) c = end_session t a k e c

held_session : (t : Terms) (a : Answers) (k : ℕ) (o : Option (ℕ × Event)) (c : Conn) → (held_by t a k o c).conn.session ≡ c.session
held_session t a k (Some h) c = refl
held_session t a k None c = pick (connects t c.phase)
  where
    pick : (b : Bool) → ◌≡◌ {A = ℕ} (if b then pushes t a k (Connect c.session) false c else cause_by t a k c.cause c).conn.session c.session
    pick true = looked_session t a c
    pick false = cause_session t a k c.cause c

flushed_session : (w : LinkWrite) (c : Conn) → (flushed w c).session ≡ c.session
flushed_session w c = pick (is_hard c.cause)
  where
    written : (v : LinkWrite) → (wrote v c).session ≡ c.session
    written (writing.Took k) = refl
    written writing.NotYet = refl
    written writing.Failed = refl

    some : (us : List ℕ) → (flushed_some w us c).session ≡ c.session
    some [] = refl
    some (b ∷ bs) = written w

    pick : (x : Bool) → ◌≡◌ {A = ℕ} (if x then c else flushed_some w c.unsent c).session c.session
    pick true = refl
    pick false = some c.unsent

pub serve_session : (t : Terms) (a : Answers) (k : ℕ) (c : Conn) → (serve t a k c).conn.session ≡ c.session
serve_session t a k c = held_session t a k (tidied a c).held (tidied a c) ∙ flushed_session a.write c
