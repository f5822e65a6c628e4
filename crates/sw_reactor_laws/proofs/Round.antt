-- Mode 1: a serve takes one turn for each packet that it takes from the cutter, and the packet goes to that turn's worker.
use Rattle.std.proofs.Common.{◌≡◌, ◌⊎◌, ℕ, ◌+◌, ◌<◌, ◌≤◌, ◌%◌, ◌==◌, ◌-◌, ◌^◌, Bool, true, false, nat_lt, if◌then◌else◌, List, [], ◌∷◌, ◌++◌, length, refl, ap, ◌∙◌, sym, subst, arith, Option, Some, None, inr, zero, suc}
use Rattle.std.proofs.Math.Nat.{mod-lt}
use Rattle.sw_link.specs.declared.link.LinkWrite.{LinkWrite}
use Rattle.sw_link.specs.Reads.{Read, GotPiece, ReadNotYet, ReadEnd, ReadFailed}
use Rattle.sw_conn.specs.Causes.{is_hard, drops}
use Rattle.sw_conn.specs.Conn.{drop_packet}
use Rattle.sw_link.specs.declared.link.LinkWrite.TheVariants as writing
use Rattle.sw_frame.specs.declared.next.Next.{Next}
use Rattle.sw_frame.specs.declared.next.Next.TheVariants as next
use Rattle.sw_lists.specs.Lists.{collect, Each}
use Rattle.sw_lists.specs.Numbers.{sum_below}
use Rattle.sw_lists.proofs.Lists.{eq_same, eq_other, eq_is}
use Rattle.sw_lists.proofs.Sums.{sum_add, sum_each}
use Rattle.sw_step.specs.declared.actor.ActorId.{ActorId}
use Rattle.sw_record.specs.Words.{TooLong, BadLength, NoMemory, Event, Connect, Packet, Closed, Finish, Task, Cause}
use Rattle.sw_record.specs.declared.record.LinkRecord.{LinkRecord}
use Rattle.sw_record.specs.Terms.{Terms, keeps}
use Rattle.sw_record.specs.Rounds.{turn_of, rounds}
use Rattle.sw_record.specs.Counts.{total}
use Rattle.sw_past.specs.Messages.{Message, FreshMsg, SendMsg, CloseMsg, ResetMsg, Bye, EventMsg, OverMsg, NoMore}
use Rattle.sw_past.specs.Past.{Mail, bare}
use Rattle.sw_past.specs.Routes.{ToWorker, IsWorker}
use Rattle.sw_past.specs.Views.{packet_msg}
use Rattle.sw_join.proofs.Counts.{count_of, counts_least}
use Rattle.sw_reactor_table.specs.Conn.{cuts_next, starve, cutter, Conn, Answers, wrote, flushed_some, flushed, Does, Pushes, Moves, Stays, Leaves, Served, looked, place, pushes, plain, read_by, cut_by, closes, can_leave, end_by, cause_by, connects, open_by, held_by, tidied, serve}
use Rattle.sw_reactor_laws.specs.Round.{sum_of, is_packet, at_worker, held_at, holds_at, cut_of, packets_at, Round}
use Rattle.sw_frame.specs.Cutting.{next_of}

-- the turns
pub rounds_more : (w k j : ℕ) → rounds w (k + 1) j ≡ rounds w k j + turn_of w j k
rounds_more w k j = ap (λ (n : ℕ). rounds w n j) (let e : k + 1 ≡ suc k = omega arith in e)

one_below : (m n : ℕ) → m < n → sum_below (λ j. if m == j then 1 else 0) n ≡ 1
one_below m zero h = absurd (omega arith)
one_below m (suc n) h = pick (m == n) refl (λ lt. one_below m n lt)
  where
    before : (k : ℕ) → k ≤ m → sum_below (λ j. if m == j then 1 else 0) k ≡ 0
    before zero le = refl
    before (suc k) le = (let r : sum_below (λ j. if m == j then 1 else 0) k ≡ 0 = before k (omega arith) in let z : ◌≡◌ {A = ℕ} (if m == k then 1 else 0) 0 = ap (λ (b : Bool). if b then 1 else 0) (eq_other m k (λ e. absurd (omega arith))) in omega arith)

    pick : (b : Bool) → (m == n) ≡ b → (m < n → sum_below (λ j. if m == j then 1 else 0) n ≡ 1) → sum_below (λ j. if m == j then 1 else 0) n + (if b then 1 else 0) ≡ 1
    pick true e rec = (let q : m ≡ n = eq_is m n e in let r : sum_below (λ j. if m == j then 1 else 0) n ≡ 0 = before n (omega arith) in omega arith)
    pick false e rec = (let lt : m < n = (let ne : ¬ (m ≡ n) = (λ q. let u : true ≡ false = sym (eq_same m n q) ∙ e in cc) in omega (arith, ne)) in let r : sum_below (λ j. if m == j then 1 else 0) n ≡ 1 = rec lt in omega arith)

pub rounds_sum : (w k : ℕ) → 0 < w → sum_below (λ j. rounds w k j) w ≡ k
rounds_sum w zero some = none w
  where
    none : (n : ℕ) → sum_below (λ j. rounds w 0 j) n ≡ 0
    none zero = refl
    none (suc n) = (let r : sum_below (λ j. rounds w 0 j) n ≡ 0 = none n in omega arith)
rounds_sum w (suc k) some =
    (let a : sum_below (λ j. rounds w k j + turn_of w j k) w ≡ sum_below (λ j. rounds w k j) w + sum_below (λ j. turn_of w j k) w = sum_add (λ j. rounds w k j) (λ j. turn_of w j k) w in
    let b : sum_below (λ j. rounds w k j) w ≡ k = rounds_sum w k some in
    let c : sum_below (λ j. turn_of w j k) w ≡ 1 = one_below (k % w) w (mod-lt k some) in
    let d : sum_below (λ j. rounds w (suc k) j) w ≡ sum_below (λ j. rounds w k j + turn_of w j k) w = refl in
    omega arith)

-- a serve, of what is held, taken and pushed
abbrev pub turns : Terms → ℕ → Bool → ℕ → ℕ
turns t k cuts j = if cuts then turn_of t.worker_num j k else 0

abbrev pub one_if : Bool → ℕ
one_if b = if b then 1 else 0

abbrev pub Fits : Terms → ℕ → Conn → Bool → Conn → Does → Type 0
Fits t k c cuts d (Pushes w e) = (d.held ≡ None) × (t.mode ≡ 1 → (j : ℕ) → at_worker j w e ≤ holds_at j c + turns t k cuts j)
Fits t k c cuts d Moves = (j : ℕ) → holds_at j d ≤ holds_at j c
Fits t k c cuts d Stays = (j : ℕ) → holds_at j d ≤ holds_at j c
Fits t k c cuts d (Leaves e) = Unit {0}

pub record RoundServed (t : Terms) (k : ℕ) (c : Conn) (v : Served) : Type 0 where
  pub taken : v.conn.taken ≡ c.taken + one_if v.cuts
  pub sent : v.conn.dispatched ≡ c.dispatched
  pub fits : Fits t k c v.cuts v.conn v.does

place_one : (t : Terms) (a : Answers) (k : ℕ) (c : Conn) → t.mode ≡ 1 → place t a k c ≡ k % t.worker_num
place_one t a k c e = rw (ap keeps e, eq_other t.mode 5 (λ q. absurd (let z : 1 ≡ 5 = sym e ∙ q in omega arith)), eq_other t.mode 3 (λ q. absurd (let z : 1 ≡ 3 = sym e ∙ q in omega arith))) refl

looked_same : (t : Terms) (a : Answers) (c : Conn) → ((looked t a c).taken ≡ c.taken) × ((looked t a c).dispatched ≡ c.dispatched) × ((looked t a c).held ≡ c.held)
looked_same t a c = pick (t.mode == 5) (c.uid == 0)
  where
    pick : (x y : Bool) → (◌≡◌ {A = ℕ} (if x then (if y then record c { uid = a.look; split = c.dispatched } else c) else c).taken c.taken) × (◌≡◌ {A = ℕ} (if x then (if y then record c { uid = a.look; split = c.dispatched } else c) else c).dispatched c.dispatched) × (◌≡◌ {A = Option (ℕ × Event)} (if x then (if y then record c { uid = a.look; split = c.dispatched } else c) else c).held c.held)
    pick true true = (refl, refl, refl)
    pick true false = (refl, refl, refl)
    pick false y = (refl, refl, refl)

no_packet : (j w : ℕ) (e : Event) (n : ℕ) → is_packet e ≡ 0 → at_worker j w e ≤ n
no_packet j w e n z = pick (w == j)
  where
    pick : (b : Bool) → (if b then is_packet e else 0) ≤ n
    pick true = (let q : is_packet e ≡ 0 = z in omega arith)
    pick false = omega arith

-- an event that is no packet
other_round : (t : Terms) (a : Answers) (k : ℕ) (e : Event) (c : Conn) → c.held ≡ None → is_packet e ≡ 0 → RoundServed t k c (pushes t a k e false c)
other_round t a k e c free z =
    (let s = looked_same t a c in
    record { taken = s.0 ∙ (let q : c.taken ≡ c.taken + 0 = omega arith in q); sent = s.1; fits = (s.2 ∙ free, λ one j. no_packet j (place t a k (looked t a c)) e (holds_at j c + 0) z) })

-- a packet takes its turn
packet_round : (t : Terms) (a : Answers) (k : ℕ) (b : List ℕ) (c : Conn) → c.held ≡ None → RoundServed t k c (pushes t a k (Packet c.session c.dispatched b) true (record c { taken = c.taken + 1 }))
packet_round t a k b c free =
    (let d : Conn = record c { taken = c.taken + 1 } in
    let s = looked_same t a d in
    record { taken = s.0; sent = s.1; fits = (s.2 ∙ free, λ one j. subst (λ (w : ℕ). at_worker j w (Packet c.session c.dispatched b) ≤ holds_at j c + turn_of t.worker_num j k) (sym (place_one t a k (looked t a d) one)) (turn j)) })
  where
    turn : (j : ℕ) → (if (k % t.worker_num) == j then 1 else 0) ≤ holds_at j c + (if (k % t.worker_num) == j then 1 else 0)
    turn j = omega arith

still : (t : Terms) (k : ℕ) (c d : Conn) → d.taken ≡ c.taken → d.dispatched ≡ c.dispatched → d.held ≡ c.held → RoundServed t k c (plain d Stays)
still t k c d e f g = record { taken = e ∙ (let q : c.taken ≡ c.taken + 0 = omega arith in q); sent = f; fits = λ j. (let z : holds_at j d ≡ holds_at j c = ap (held_at j) g in omega arith) }

moves : (t : Terms) (k : ℕ) (c d : Conn) → d.taken ≡ c.taken → d.dispatched ≡ c.dispatched → d.held ≡ c.held → RoundServed t k c (plain d Moves)
moves t k c d e f g = record { taken = e ∙ (let q : c.taken ≡ c.taken + 0 = omega arith in q); sent = f; fits = λ j. (let z : holds_at j d ≡ holds_at j c = ap (held_at j) g in omega arith) }

read_round : (t : Terms) (k : ℕ) (starved : Bool) (r : Read) (c : Conn) → RoundServed t k c (read_by starved r c)
read_round t k starved (GotPiece p) c = record { taken = (let q : c.taken ≡ c.taken + 0 = omega arith in q); sent = refl; fits = λ j. omega arith }
read_round t k starved ReadNotYet c = record { taken = (let q : c.taken ≡ c.taken + 0 = omega arith in q); sent = refl; fits = λ j. omega arith }
read_round t k starved ReadEnd c = record { taken = (let q : c.taken ≡ c.taken + 0 = omega arith in q); sent = refl; fits = λ j. omega arith }
read_round t k starved ReadFailed c = record { taken = (let q : c.taken ≡ c.taken + 0 = omega arith in q); sent = refl; fits = λ j. omega arith }

cut_round : (t : Terms) (a : Answers) (k : ℕ) (x : Next) (c : Conn) → c.held ≡ None → RoundServed t k c (cut_by t a k x c)
cut_round t a k (next.Packet b) c free = packet_round t a k b c free
cut_round t a k next.More c free = read_round t k a.feed_starved a.read c
cut_round t a k (next.TooLong m) c free = moves t k c (record c { cause = Some (TooLong m) }) refl refl refl
cut_round t a k (next.BadLength m) c free = moves t k c (record c { cause = Some (BadLength m) }) refl refl refl
cut_round t a k next.OutOfMemory c free = moves t k c (record c { cause = Some NoMemory }) refl refl refl

end_round : (t : Terms) (a : Answers) (k : ℕ) (e : Cause) (c : Conn) → c.held ≡ None → RoundServed t k c (end_by t a k e c)
end_round t a k e c free = pick (closes t c.phase)
  where
    leaves : (b : Bool) → RoundServed t k c (plain c (if b then Leaves e else Stays))
    leaves true = record { taken = (let q : c.taken ≡ c.taken + 0 = omega arith in q); sent = refl; fits = tt }
    leaves false = still t k c c refl refl refl

    pick : (b : Bool) → RoundServed t k c (if b then pushes t a k (Closed c.session) false c else plain c (if can_leave c then Leaves e else Stays))
    pick true = other_round t a k (Closed c.session) c free refl
    pick false = leaves (can_leave c)

cause_round : (t : Terms) (a : Answers) (k : ℕ) (o : Option Cause) (c : Conn) → c.held ≡ None → RoundServed t k c (cause_by t a k o c)
cause_round t a k None c free = pick (nat_lt c.dispatched (2 ^ 64 - 1))
  where
    pick : (b : Bool) → RoundServed t k c (if b then cuts_next t a k c else plain c Stays)
    pick true = cut_round t a k (starve a.cut_starved (next_of (cutter t c))) c free
    pick false = still t k c c refl refl refl
cause_round t a k (Some e) c free = end_round t a k e c free

open_round : (t : Terms) (a : Answers) (k : ℕ) (c : Conn) → c.held ≡ None → RoundServed t k c (open_by t a k c)
open_round t a k c free = pick (connects t c.phase)
  where
    pick : (b : Bool) → RoundServed t k c (if b then pushes t a k (Connect c.session) false c else cause_by t a k c.cause c)
    pick true = other_round t a k (Connect c.session) c free refl
    pick false = cause_round t a k c.cause c free

held_round : (t : Terms) (a : Answers) (k : ℕ) (o : Option (ℕ × Event)) (c : Conn) → c.held ≡ o → RoundServed t k c (held_by t a k o c)
held_round t a k (Some h) c e = record { taken = (let q : c.taken ≡ c.taken + 0 = omega arith in q); sent = refl; fits = (refl, λ one j. (let z : holds_at j c ≡ at_worker j h.0 h.1 = ap (held_at j) e in omega arith)) }
held_round t a k None c e = open_round t a k c e

-- point 1 holds no more than before
drop_less : (j : ℕ) (o : Option (ℕ × Event)) → held_at j (drop_packet o) ≤ held_at j o
drop_less j None = omega arith
drop_less j (Some (w, Connect s)) = omega arith
drop_less j (Some (w, Packet s i b)) = omega arith
drop_less j (Some (w, Closed s)) = omega arith
drop_less j (Some (w, Finish id b)) = omega arith
drop_less j (Some (w, Task v id b)) = omega arith

flushed_round : (w : LinkWrite) (c : Conn) → ((flushed w c).taken ≡ c.taken) × ((flushed w c).dispatched ≡ c.dispatched) × ((flushed w c).held ≡ c.held)
flushed_round w c = pick (is_hard c.cause)
  where
    written : (v : LinkWrite) → ((wrote v c).taken ≡ c.taken) × ((wrote v c).dispatched ≡ c.dispatched) × ((wrote v c).held ≡ c.held)
    written (writing.Took k) = (refl, refl, refl)
    written writing.NotYet = (refl, refl, refl)
    written writing.Failed = (refl, refl, refl)

    some : (us : List ℕ) → ((flushed_some w us c).taken ≡ c.taken) × ((flushed_some w us c).dispatched ≡ c.dispatched) × ((flushed_some w us c).held ≡ c.held)
    some [] = (refl, refl, refl)
    some (b ∷ bs) = written w

    pick : (b : Bool) → (◌≡◌ {A = ℕ} (if b then c else flushed_some w c.unsent c).taken c.taken) × (◌≡◌ {A = ℕ} (if b then c else flushed_some w c.unsent c).dispatched c.dispatched) × (◌≡◌ {A = Option (ℕ × Event)} (if b then c else flushed_some w c.unsent c).held c.held)
    pick true = (refl, refl, refl)
    pick false = some c.unsent

tidied_less : (a : Answers) (c : Conn) (j : ℕ) → holds_at j (tidied a c) ≤ holds_at j c
tidied_less a c j = (let f : holds_at j (flushed a.write c) ≡ holds_at j c = ap (held_at j) (flushed_round a.write c).2 in let g : holds_at j (tidied a c) ≤ holds_at j (flushed a.write c) = pick (drops (flushed a.write c).cause) in omega arith)
  where
    pick : (b : Bool) → held_at j (if b then drop_packet (flushed a.write c).held else (flushed a.write c).held) ≤ held_at j (flushed a.write c).held
    pick true = drop_less j (flushed a.write c).held
    pick false = omega arith

fits_less : (t : Terms) (k : ℕ) (c b : Conn) (cuts : Bool) (d : Conn) (o : Does) → ((j : ℕ) → holds_at j b ≤ holds_at j c) → Fits t k b cuts d o → Fits t k c cuts d o
fits_less t k c b cuts d (Pushes w e) h f = (f.0, λ one j. (let x : at_worker j w e ≤ holds_at j b + turns t k cuts j = f.1 one j in let y : holds_at j b ≤ holds_at j c = h j in omega arith))
fits_less t k c b cuts d Moves h f = λ j. (let x : holds_at j d ≤ holds_at j b = f j in let y : holds_at j b ≤ holds_at j c = h j in omega arith)
fits_less t k c b cuts d Stays h f = λ j. (let x : holds_at j d ≤ holds_at j b = f j in let y : holds_at j b ≤ holds_at j c = h j in omega arith)
fits_less t k c b cuts d (Leaves e) h f = f

pub serve_round : (t : Terms) (a : Answers) (k : ℕ) (c : Conn) → RoundServed t k c (serve t a k c)
serve_round t a k c =
    (let v : RoundServed t k (tidied a c) (serve t a k c) = held_round t a k (tidied a c).held (tidied a c) refl in
    let f = flushed_round a.write c in
    record {
      taken = v.taken ∙ ap (λ (n : ℕ). n + one_if (serve t a k c).cuts) f.0;
      sent = v.sent ∙ f.1;
      fits = fits_less t k c (tidied a c) (serve t a k c).cuts (serve t a k c).conn (serve t a k c).does (tidied_less a c) v.fits;
    })

-- at an end without a packet dropped each worker has its turns
pub round_whole : (t : Terms) (pushed : Mail) (ls : List LinkRecord) (k : ℕ) → t.mode ≡ 1 → 0 < t.worker_num → Each (ToWorker t) pushed → Round t pushed [] ls k → sum_of (cut_of t) ls ≡ total ls → (j : ℕ) → j < t.worker_num → packets_at j pushed ≡ rounds t.worker_num (total ls) j
round_whole t pushed ls k one some to r whole j lt =
    (let w : ℕ = t.worker_num in
    let all : length (collect packet_msg (bare pushed)) ≡ total ls = (let m : length (collect packet_msg (bare pushed)) ≡ 0 + total ls = r.sent in omega arith) in
    let a : k ≤ total ls = (let m : k ≤ 0 + sum_of (cut_of t) ls = r.most in omega arith) in
    let least : length (collect packet_msg (bare pushed)) ≤ sum_below (count_of packet_msg pushed) w = counts_least packet_msg t pushed (to_all pushed to) in
    let fewer : sum_below (count_of packet_msg pushed) w ≤ sum_below (λ i. rounds w k i) w = sums (count_of packet_msg pushed) (λ i. rounds w k i) w (λ i. (let s : packets_at i pushed + 0 ≤ rounds w k i = r.spread one i in omega arith)) in
    let b : sum_below (λ i. rounds w k i) w ≡ k = rounds_sum w k some in
    let same : k ≡ total ls = omega arith in
    let up : rounds w k j ≤ packets_at j pushed = sum_each (λ i. rounds w k i) (count_of packet_msg pushed) w (λ i h. (let s : packets_at i pushed + 0 ≤ rounds w k i = r.spread one i in omega arith)) (omega arith) j lt in
    let down : packets_at j pushed ≤ rounds w k j = (let s : packets_at j pushed + 0 ≤ rounds w k j = r.spread one j in omega arith) in
    let e : packets_at j pushed ≡ rounds w k j = omega arith in
    e ∙ ap (λ (n : ℕ). rounds w n j) same)
  where
    sums : (f g : ℕ → ℕ) (n : ℕ) → ((i : ℕ) → f i ≤ g i) → sum_below f n ≤ sum_below g n
    sums f g zero h = omega arith
    sums f g (suc n) h = (let r1 : sum_below f n ≤ sum_below g n = sums f g n h in let r2 : f n ≤ g n = h n in omega arith)

    to_one : (x : ActorId × Message) → ToWorker t x → (packet_msg x.1 ≡ []) ⊎ IsWorker t x.0
    to_one (y, FreshMsg ip s) h = absurd h
    to_one (y, SendMsg s b) h = absurd h
    to_one (y, CloseMsg s) h = absurd h
    to_one (y, ResetMsg s) h = absurd h
    to_one (y, Bye s) h = absurd h
    to_one (y, EventMsg e) h = inr h
    to_one (y, OverMsg id) h = absurd h
    to_one (y, NoMore) h = inr h

    to_all : (ms : Mail) → Each (ToWorker t) ms → Each (λ (x : ActorId × Message). (packet_msg x.1 ≡ []) ⊎ IsWorker t x.0) ms
    to_all [] h = tt
    to_all (x ∷ ms) h = (to_one x h.0, to_all ms h.1)
