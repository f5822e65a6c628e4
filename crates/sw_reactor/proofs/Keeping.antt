-- What each step of a connection and of the line keeps: sessions, tickets and how many there are.
use Rattle.std.proofs.Common.{◌≡◌, ℕ, zero, suc, ◌+◌, ◌-◌, ◌≤◌, ◌==◌, ◌^◌, Bool, true, false, if◌then◌else◌, nat_lt, List, [], ◌∷◌, ◌++◌, length, map, take, drop, append-nil, slice_get, slice_set, Option, Some, None, refl, sym, ap, ◌∙◌, arith}
use Rattle.std.specs.Bool.{MatchBool}
use Rattle.std.proofs.lemmas.List.{length-set, drop_all, take_all}
use Rattle.sw_data.specs.declared.ended.Cause.{Cause}
use Rattle.sw_data.specs.declared.events.Event.{Event}
use Rattle.sw_frame.specs.declared.next.Next.{Next}
use Rattle.sw_frame.specs.declared.next.Next.TheVariants as next
use Rattle.sw_link.specs.declared.link.LinkWrite.{LinkWrite}
use Rattle.sw_link.specs.declared.link.LinkWrite.TheVariants as writes
use Rattle.sw_link.specs.Reads.{Read, GotPiece, ReadNotYet, ReadEnd, ReadFailed}
use Rattle.sw_conn.specs.declared.conn.Conn.{Conn}
use Rattle.sw_conn.specs.declared.conn.Kind.{Kind}
use Rattle.sw_conn.specs.declared.conn.Kind.TheVariants as kinds
use Rattle.sw_conn.specs.declared.serve.Step.{Step}
use Rattle.sw_conn.specs.declared.terms.Terms.{Terms}
use Rattle.sw_conn.specs.Causes.{is_hard}
use Rattle.sw_conn.specs.Conn.{sent, sent_open, noted, wrote, sees, read_by, cleared}
use Rattle.sw_conn.specs.Serve.{FlushedBy, ReadsBy, connects, cut_by, Cuts, ChoosesCause, ChoosesOpen, ChoosesHeld, Chooses}
use Rattle.sw_reactor.specs.Line.{Lined, AtLine, AtPlace, AtSession, place_of, sessions_of}
use Rattle.sw_reactor.specs.Ready.{tickets_of}

-- the same session and ticket
pub record IsOf {L K : Type 0} (c d : Conn L K) : Type 0 where
  pub session : d.session ≡ c.session
  pub ticket : d.ticket ≡ c.ticket

pub of_same : {L K : Type 0} (c d : Conn L K) → d ≡ c → IsOf c d
of_same c d e = record { session = ap (λ x. x.session) e; ticket = ap (λ x. x.ticket) e }

pub of_if : {L K : Type 0} (c x y : Conn L K) (b : Bool) → IsOf c x → IsOf c y → IsOf c (if b then x else y)
of_if c x y true h k = h
of_if c x y false h k = k

pub of_is : {L K : Type 0} (c d x : Conn L K) → d ≡ x → IsOf c x → IsOf c d
of_is c d x e h = record { session = ap (λ y. y.session) e ∙ h.session; ticket = ap (λ y. y.ticket) e ∙ h.ticket }

mine : {L K : Type 0} (c : Conn L K) → IsOf c c
mine c = record { session = refl; ticket = refl }

pub sent_of : {L K : Type 0} (t : Terms) (starved : Bool) (b : List ℕ) (c : Conn L K) → IsOf c (sent t starved b c)
sent_of t starved b c =
    of_if c c (sent_open t starved b (length c.unsent + length b) c) (is_hard c.cause) (mine c)
    (of_if c _ _ (nat_lt t.buffer_size (length c.unsent + length b)) (record { session = refl; ticket = refl }) (of_if c _ _ starved (record { session = refl; ticket = refl }) (record { session = refl; ticket = refl })))

pub noted_of : {L K : Type 0} (t : Terms) (kind : Kind) (c : Conn L K) → IsOf c (noted t kind c)
noted_of t kinds.Connect c = record { session = refl; ticket = refl }
noted_of t kinds.Packet c = record { session = refl; ticket = refl }
noted_of t kinds.Closed c = record { session = refl; ticket = refl }
noted_of t kinds.Other c = record { session = refl; ticket = refl }

pub sees_of : {L K : Type 0} (look : ℕ) (c : Conn L K) → IsOf c (sees look c)
sees_of look c = of_if c _ _ (c.uid == 0) (record { session = refl; ticket = refl }) (mine c)

wrote_of : {L K : Type 0} (w : LinkWrite) (c : Conn L K) (l : L) → IsOf c (record (wrote w c) { link = l })
wrote_of (writes.Took n) c l = record { session = refl; ticket = refl }
wrote_of writes.NotYet c l = record { session = refl; ticket = refl }
wrote_of writes.Failed c l = record { session = refl; ticket = refl }

pub flushed_of : {L K : Type 0} (gives : L → List ℕ → LinkWrite → L → Type 0) (c : Conn L K) (w : Option LinkWrite) (d : Conn L K) → FlushedBy gives c w d → IsOf c d
flushed_of gives c None d h = of_same c d h.1
flushed_of gives c (Some w) d h = of_is c d _ h.2 (wrote_of w c d.link)

read_of_same : {L K : Type 0} (starved : Bool) (r : Read) (c : Conn L K) (l : L) → IsOf c (record (read_by starved r c) { link = l })
read_of_same true (GotPiece p) c l = record { session = refl; ticket = refl }
read_of_same false (GotPiece p) c l = record { session = refl; ticket = refl }
read_of_same starved ReadNotYet c l = record { session = refl; ticket = refl }
read_of_same starved ReadEnd c l = record { session = refl; ticket = refl }
read_of_same starved ReadFailed c l = record { session = refl; ticket = refl }

pub reads_of : {L K : Type 0} (gives : L → ℕ → Read → L → Type 0) (room : ℕ) (c : Conn L K) (r : Read) (d : Conn L K) → ReadsBy gives room c r d → IsOf c d
reads_of gives room c r d h = of_is c d _ h.1.1 (read_of_same h.1.0 r c d.link)

cut_of : {L K : Type 0} (n : Next) (c : Conn L K) → IsOf c (cut_by n c).conn
cut_of (next.Packet b) c = record { session = refl; ticket = refl }
cut_of next.More c = record { session = refl; ticket = refl }
cut_of (next.TooLong n) c = record { session = refl; ticket = refl }
cut_of (next.BadLength n) c = record { session = refl; ticket = refl }
cut_of next.OutOfMemory c = record { session = refl; ticket = refl }

pub by_bool : (b : Bool) (P Q R : Type 0) → (P → R) → (Q → R) → MatchBool b P Q → R
by_bool true P Q R f g h = f h
by_bool false P Q R f g h = g h

cause_of_same : {L K : Type 0} (t : Terms) (e : Option Cause) (c d : Conn L K) (step : Step) → ChoosesCause t e c d step → IsOf c d
cause_of_same t None c d step h =
    by_bool (nat_lt c.dispatched (2 ^ 64 - 1)) (Cuts c d step) _ (IsOf c d) (λ k. of_is c d _ k.2 (cut_of k.0 c)) (λ k. of_same c d k.0) h
cause_of_same t (Some e) c d step h = of_same c d h.0

open_of : {L K : Type 0} (t : Terms) (c d : Conn L K) (step : Step) → ChoosesOpen t c d step → IsOf c d
open_of t c d step h = by_bool (connects t c.phase) _ _ (IsOf c d) (λ k. of_same c d k.0) (λ k. cause_of_same t c.cause c d step k) h

held_of : {L K : Type 0} (t : Terms) (held : Option (ℕ × Event)) (c d : Conn L K) (step : Step) → ChoosesHeld t held c d step → IsOf c d
held_of t None c d step h = open_of t c d step h
held_of t (Some e) c d step h = of_is c d _ h.0 (record { session = refl; ticket = refl })

pub chooses_of : {L K : Type 0} (t : Terms) (c d : Conn L K) (step : Step) → Chooses t (cleared c) d step → IsOf c d
chooses_of t c d step h =
    let k : IsOf (cleared c) d = held_of t (cleared c).held (cleared c) d step h in
    record { session = k.session; ticket = k.ticket }

pub some_is : {X : Type 0} (x y : X) → Some x ≡ Some y → x ≡ y
some_is x y e = cc

-- a list in which one element was changed
pub map_same : {X Y : Type 0} (f : X → Y) (cs : List X) (at : ℕ) (c d : X) → slice_get cs at ≡ Some c → f d ≡ f c → map f (slice_set cs at d) ≡ map f cs
map_same f [] at c d g e = refl
map_same f (x ∷ xs) zero c d g e = ap (λ y. y ∷ map f xs) (e ∙ ap f (sym (some_is x c g)))
map_same f (x ∷ xs) (suc at) c d g e = ap (λ ys. f x ∷ ys) (map_same f xs at c d g e)

-- the line is as long, and its sessions and tickets are the same
pub record Alike {L K : Type 0} (l m : Lined L K) : Type 0 where
  pub count : length m.conns ≡ length l.conns
  pub room : m.room ≡ l.room
  pub sessions : sessions_of m.conns ≡ sessions_of l.conns
  pub tickets : tickets_of m.conns ≡ tickets_of l.conns

pub alike_is : {L K : Type 0} (l m : Lined L K) → m ≡ l → Alike l m
alike_is l m e = rw e (record { count = refl; room = refl; sessions = refl; tickets = refl })

pub alike_then : {L K : Type 0} (l m n : Lined L K) → Alike l m → Alike m n → Alike l n
alike_then l m n a b = record { count = b.count ∙ a.count; room = b.room ∙ a.room; sessions = b.sessions ∙ a.sessions; tickets = b.tickets ∙ a.tickets }

pub at_alike : {L K : Type 0} (P : Conn L K → Conn L K → Type 0) → ((c d : Conn L K) → P c d → IsOf c d) → (l m : Lined L K) (at : ℕ) → AtLine l at P m → Alike l m
at_alike P keeps l m at ((c, (d, (g, p, e))), room) =
    let k = keeps c d p in
    record {
      count = ap (λ xs. length xs) e ∙ length-set l.conns at d;
      room = room;
      sessions = ap sessions_of e ∙ map_same (λ x. x.session) l.conns at c d g k.session;
      tickets = ap tickets_of e ∙ map_same (λ x. x.ticket) l.conns at c d g k.ticket;
    }

place_alike : {L K : Type 0} (P : Conn L K → Conn L K → Type 0) → ((c d : Conn L K) → P c d → IsOf c d) → (l m : Lined L K) (at : Option ℕ) → AtPlace l at P m → Alike l m
place_alike P keeps l m None h = alike_is l m h
place_alike P keeps l m (Some at) h = at_alike P keeps l m at h

pub session_alike : {L K : Type 0} (P : Conn L K → Conn L K → Type 0) → ((c d : Conn L K) → P c d → IsOf c d) → (l m : Lined L K) (s : ℕ) → AtSession l s P m → Alike l m
session_alike P keeps l m s h = place_alike P keeps l m (place_of s l.conns) h

-- what was written over a whole buffer is the buffer
pub front_whole : (buf old : List ℕ) (n : ℕ) → length buf ≡ length old → n ≡ length old → take n (buf ++ drop (length buf) old) ≡ buf
front_whole buf old n e f =
    let h : length old ≤ length buf = omega (arith, e) in
    let k : length buf ≤ n = omega (arith, e, f) in
    rw (drop_all (length buf) old h, append-nil) (take_all n buf k)

pub length_push : {X : Type 0} (xs : List X) (y : X) → length (xs ++ y ∷ []) ≡ length xs + 1
length_push [] y = refl
length_push (x ∷ xs) y = let e = length_push xs y in omega (arith, e)
