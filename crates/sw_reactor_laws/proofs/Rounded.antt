-- Mode 1, all runs: no worker has more packets than its turns, and with no packet dropped each has its turns.
use Rattle.std.proofs.Common.{◌≡◌, ℕ, ◌+◌, ◌<◌, ◌≤◌, ◌==◌, Bool, true, false, nat_lt, if◌then◌else◌, List, [], ◌∷◌, ◌++◌, length, refl, ap, ◌∙◌, sym, subst, append-nil, append_assoc, arith, Some, inl, inr, map}
use Rattle.sw_conn.specs.Causes.{is_hard}
use Rattle.sw_conn.specs.Conn.{set_soft, set_hard}
use Rattle.sw_data.specs.declared.messages.Got.{Got}
use Rattle.sw_lists.specs.Lists.{collect, Each, when}
use Rattle.sw_lists.proofs.Lists.{collect-append, length_append, each_left}
use Rattle.sw_step.specs.declared.actor.ActorId.TheVariants.{Worker}
use Rattle.sw_record.specs.Words.{Event, Connect, Packet, Closed, Finish, Task, Cause, NoMemory, Overflow, ServerClose, ResetCause}
use Rattle.sw_record.specs.declared.record.LinkRecord.{LinkRecord}
use Rattle.sw_record.specs.Terms.{Terms, packets_cut}
use Rattle.sw_record.specs.Rounds.{rounds}
use Rattle.sw_record.specs.Counts.{total, dispatched_of}
use Rattle.sw_past.specs.Messages.{Message, FreshMsg, SendMsg, CloseMsg, ResetMsg, Bye, EventMsg, OverMsg, NoMore}
use Rattle.sw_past.specs.Past.{Mail, bare, of, with}
use Rattle.sw_past.specs.Routes.{IsFair}
use Rattle.sw_past.specs.Views.{packet_msg}
use Rattle.sw_reactor_table.specs.Conn.{Conn, Answers, fresh, sent, takes, stops, noted, holds, at_event, writes, Does, Pushes, Moves, Stays, Leaves, Served, serve, over_link}
use Rattle.sw_reactor_table.specs.Reactor.{Reactor, Ask, Take, Push, Nothing, Rest, Finished, all, each_conn, settled, settled_msg, settled_push, settled_full, pushed_by, full_by, turned, rest_by, stayed, served_by, counted, ends_by, serves, chosen, started, live_links, kept}
use Rattle.sw_reactor_table.specs.Quiet.{QuietOver, QuietLists, Quiet, QuietBy, Grows, ServedBy, ServedRight, session_in, session_over}
use Rattle.sw_reactor_table.specs.Modes.{ModeLaws}
use Rattle.sw_reactor_table.specs.Runs.{Called, TookOne, FoundNone, PushedOne, CameBack, NoCall, Runs, First, Then}
use Rattle.sw_reactor_laws.specs.Shows.{EndsAllCut}
use Rattle.sw_reactor_laws.specs.Round.{sum_of, is_packet, at_worker, held_at, holds_at, taken_of, sent_of, cut_of, packets_at, Round}
use Rattle.sw_reactor_table.proofs.Flow.{more_of}
use Rattle.sw_reactor_table.proofs.Lift.{Aim, Ending, perm_front, lists_perm, others_not, map_append, map_at}
use Rattle.sw_reactor_table.proofs.Serve.{serve_right}
use Rattle.sw_reactor_table.proofs.Law.{call_quiet, call_fair, runs_quiet, runs_straight}
use Rattle.sw_reactor_table.proofs.Turn.{started_quiet}
use Rattle.sw_reactor_laws.proofs.Round.{rounds_more, turns, one_if, Fits, RoundServed, serve_round, round_whole}

-- sums
sum_append : (f : Conn → ℕ) (xs ys : List Conn) → sum_of f (xs ++ ys) ≡ sum_of f xs + sum_of f ys
sum_append f [] ys = omega arith
sum_append f (x ∷ xs) ys = (let r : sum_of f (xs ++ ys) ≡ sum_of f xs + sum_of f ys = sum_append f xs ys in omega arith)

sum_mid : (f : Conn → ℕ) (xs : List Conn) (x : Conn) (ys : List Conn) → sum_of f (xs ++ x ∷ ys) ≡ f x + sum_of f (xs ++ ys)
sum_mid f [] x ys = refl
sum_mid f (z ∷ xs) x ys = (let r : sum_of f (xs ++ x ∷ ys) ≡ f x + sum_of f (xs ++ ys) = sum_mid f xs x ys in omega arith)

pub sum_map : (f : Conn → ℕ) (g : Conn → Conn) → ((c : Conn) → f (g c) ≡ f c) → (cs : List Conn) → sum_of f (map g cs) ≡ sum_of f cs
sum_map f g h [] = refl
sum_map f g h (c ∷ cs) = (let r : sum_of f (map g cs) ≡ sum_of f cs = sum_map f g h cs in let e : f (g c) ≡ f c = h c in omega arith)

cut_append : (t : Terms) (ls : List LinkRecord) (l : LinkRecord) → sum_of (cut_of t) (ls ++ l ∷ []) ≡ sum_of (cut_of t) ls + cut_of t l
cut_append t [] l = omega arith
cut_append t (x ∷ ls) l = (let r : sum_of (cut_of t) (ls ++ l ∷ []) ≡ sum_of (cut_of t) ls + cut_of t l = cut_append t ls l in omega arith)

total_append : (t : Terms) (ls : List LinkRecord) (d : Conn) (u : ℕ) (e : Cause) → total (ls ++ over_link t d u e ∷ []) ≡ total ls + d.dispatched
total_append t [] d u e = omega arith
total_append t (x ∷ ls) d u e = (let r : total (ls ++ over_link t d u e ∷ []) ≡ total ls + d.dispatched = total_append t ls d u e in omega arith)

-- a connection that keeps what is held, taken and pushed
pub record Alike (c d : Conn) : Type 0 where
  pub held : d.held ≡ c.held
  pub taken : d.taken ≡ c.taken
  pub sent : d.dispatched ≡ c.dispatched

if_alike : (b : Bool) (c d : Conn) → Alike c d → Alike c (if b then d else c)
if_alike true c d a = a
if_alike false c d a = record { held = refl; taken = refl; sent = refl }

takes_alike : (t : Terms) (starved : Bool) (m : Message) (c : Conn) → Alike c (takes t starved m c)
takes_alike t starved (FreshMsg ip s) c = record { held = refl; taken = refl; sent = refl }
takes_alike t starved (SendMsg s b) c = if_alike (c.session == s) c (sent t starved b c) (sends (is_hard c.cause) (nat_lt t.buffer_size (length c.unsent + length b)) starved)
  where
    sends : (x y z : Bool) → Alike c (if x then c else (if y then record c { cause = Some (Overflow (length c.unsent + length b)) } else (if z then record c { cause = Some NoMemory } else record c { unsent = c.unsent ++ b })))
    sends true y z = record { held = refl; taken = refl; sent = refl }
    sends false true z = record { held = refl; taken = refl; sent = refl }
    sends false false true = record { held = refl; taken = refl; sent = refl }
    sends false false false = record { held = refl; taken = refl; sent = refl }
takes_alike t starved (CloseMsg s) c = if_alike (c.session == s) c (record c { cause = set_soft ServerClose c.cause }) (record { held = refl; taken = refl; sent = refl })
takes_alike t starved (ResetMsg s) c = if_alike (c.session == s) c (record c { cause = set_hard ResetCause c.cause }) (record { held = refl; taken = refl; sent = refl })
takes_alike t starved (Bye s) c = if_alike (c.session == s) c _ (record { held = refl; taken = refl; sent = refl })
takes_alike t starved (EventMsg e) c = record { held = refl; taken = refl; sent = refl }
takes_alike t starved (OverMsg id) c = record { held = refl; taken = refl; sent = refl }
takes_alike t starved NoMore c = record { held = refl; taken = refl; sent = refl }

map_round : (t : Terms) (pushed : Mail) (cs : List Conn) (ls : List LinkRecord) (k : ℕ) (g : Conn → Conn) → ((c : Conn) → Alike c (g c)) → Round t pushed cs ls k → Round t pushed (map g cs) ls k
map_round t pushed cs ls k g h r =
    record {
      spread = λ one j. (let e : sum_of (holds_at j) (map g cs) ≡ sum_of (holds_at j) cs = sum_map (holds_at j) g (λ c. ap (held_at j) (h c).held) cs in let s : packets_at j pushed + sum_of (holds_at j) cs ≤ rounds t.worker_num k j = r.spread one j in omega arith);
      most = (let e : sum_of taken_of (map g cs) ≡ sum_of taken_of cs = sum_map taken_of g (λ c. (h c).taken) cs in let s : k ≤ sum_of taken_of cs + sum_of (cut_of t) ls = r.most in omega arith);
      sent = r.sent ∙ ap (λ (n : ℕ). n + total ls) (sym (sum_map sent_of g (λ c. (h c).sent) cs));
    }

-- what is settled
fresh_round : (t : Terms) (pushed : Mail) (cs : List Conn) (ls : List LinkRecord) (k : ℕ) (starved : Bool) (ip s : ℕ) → Round t pushed cs ls k → Round t pushed (cs ++ fresh starved ip s ∷ []) ls k
fresh_round t pushed cs ls k starved ip s r =
    record {
      spread = λ one j. (let e : sum_of (holds_at j) (cs ++ fresh starved ip s ∷ []) ≡ sum_of (holds_at j) cs + (0 + 0) = sum_append (holds_at j) cs (fresh starved ip s ∷ []) in let q : packets_at j pushed + sum_of (holds_at j) cs ≤ rounds t.worker_num k j = r.spread one j in omega arith);
      most = (let e : sum_of taken_of (cs ++ fresh starved ip s ∷ []) ≡ sum_of taken_of cs + (0 + 0) = sum_append taken_of cs (fresh starved ip s ∷ []) in let q : k ≤ sum_of taken_of cs + sum_of (cut_of t) ls = r.most in omega arith);
      sent = (let e : sum_of sent_of (cs ++ fresh starved ip s ∷ []) ≡ sum_of sent_of cs + (0 + 0) = sum_append sent_of cs (fresh starved ip s ∷ []) in let q : length (collect packet_msg (bare pushed)) ≡ sum_of sent_of cs + total ls = r.sent in omega arith);
    }

abbrev pub RoundOf : Terms → Mail → Reactor → Type 0
RoundOf t pushed r = Round t pushed (all r) r.over r.round

each_round : (t : Terms) (pushed : Mail) (g : Conn → Conn) (r : Reactor) → ((c : Conn) → Alike c (g c)) → RoundOf t pushed r → RoundOf t pushed (each_conn g r)
each_round t pushed g r h q = subst (λ (cs : List Conn). Round t pushed cs r.over r.round) (map_append g r.done r.next) (map_round t pushed (all r) r.over r.round g h q)

msg_round : (t : Terms) (pushed : Mail) (starved : Bool) (m : Message) (r : Reactor) → RoundOf t pushed r → RoundOf t pushed (settled_msg t starved m r)
msg_round t pushed starved (FreshMsg ip s) r q = subst (λ (cs : List Conn). Round t pushed cs r.over r.round) (append_assoc r.done r.next (fresh starved ip s ∷ [])) (fresh_round t pushed (all r) r.over r.round starved ip s q)
msg_round t pushed starved (SendMsg s b) r q = each_round t pushed (takes t starved (SendMsg s b)) r (takes_alike t starved (SendMsg s b)) q
msg_round t pushed starved (CloseMsg s) r q = each_round t pushed (takes t starved (CloseMsg s)) r (takes_alike t starved (CloseMsg s)) q
msg_round t pushed starved (ResetMsg s) r q = each_round t pushed (takes t starved (ResetMsg s)) r (takes_alike t starved (ResetMsg s)) q
msg_round t pushed starved (Bye s) r q = each_round t pushed (takes t starved (Bye s)) r (takes_alike t starved (Bye s)) q
msg_round t pushed starved (EventMsg e) r q = q
msg_round t pushed starved (OverMsg id) r q = q
msg_round t pushed starved NoMore r q = q

-- where a pipe call is asked for
abbrev pub RoundBy : Terms → Mail → Reactor → Ask → Type 0
RoundBy t pushed r (Push w m) = RoundOf t (pushed ++ (Worker w, m) ∷ []) (settled_push t m r) × RoundOf t pushed (settled_full w m r)
RoundBy t pushed r Take = RoundOf t pushed r
RoundBy t pushed r Nothing = RoundOf t pushed r
RoundBy t pushed r Rest = RoundOf t pushed r
RoundBy t pushed r Finished = RoundOf t pushed r

abbrev pub RoundAfter : Terms → Mail → Reactor → Type 0
RoundAfter t pushed r = RoundBy t pushed r r.last

-- one more push
length_packet : (e : Event) → length (packet_msg (EventMsg e)) ≡ is_packet e
length_packet (Connect s) = refl
length_packet (Packet s i b) = refl
length_packet (Closed s) = refl
length_packet (Finish id b) = refl
length_packet (Task w id b) = refl

at_more : (pushed : Mail) (j w : ℕ) (m : Message) (n : ℕ) → length (packet_msg m) ≡ n → packets_at j (pushed ++ (Worker w, m) ∷ []) ≡ packets_at j pushed + (if w == j then n else 0)
at_more pushed j w m n e =
    ap (λ (ms : List Message). length (collect packet_msg ms)) (collect-append (with (Worker j)) pushed ((Worker w, m) ∷ []) ∙ ap (λ (ms : List Message). of (Worker j) pushed ++ ms) (append-nil (when (w == j) m)))
    ∙ ap length (collect-append packet_msg (of (Worker j) pushed) (when (w == j) m))
    ∙ length_append (collect packet_msg (of (Worker j) pushed)) (collect packet_msg (when (w == j) m))
    ∙ ap (λ (k : ℕ). packets_at j pushed + k) (pick (w == j))
  where
    pick : (b : Bool) → length (collect packet_msg (when b m)) ≡ (if b then n else 0)
    pick true = ap length (append-nil (packet_msg m)) ∙ e
    pick false = refl

all_more : (pushed : Mail) (w : ℕ) (m : Message) → length (collect packet_msg (bare (pushed ++ (Worker w, m) ∷ []))) ≡ length (collect packet_msg (bare pushed)) + length (packet_msg m)
all_more pushed w m = ap length (more_of packet_msg pushed (Worker w, m)) ∙ length_append (collect packet_msg (bare pushed)) (packet_msg m)

rounds_counted : (t : Terms) (k : ℕ) (cuts : Bool) (j : ℕ) → rounds t.worker_num (counted cuts k) j ≡ rounds t.worker_num k j + turns t k cuts j
rounds_counted t k true j = rounds_more t.worker_num k j
rounds_counted t k false j = omega arith

counted_is : (cuts : Bool) (k : ℕ) → counted cuts k ≡ k + one_if cuts
counted_is true k = refl
counted_is false k = omega arith

noted_round : (t : Terms) (e : Event) (d : Conn) → ((noted t e d).held ≡ d.held) × ((noted t e d).taken ≡ d.taken) × ((noted t e d).dispatched ≡ d.dispatched + is_packet e)
noted_round t (Connect s) d = (refl, refl, (let q : d.dispatched ≡ d.dispatched + 0 = omega arith in q))
noted_round t (Packet s i b) d = (refl, refl, refl)
noted_round t (Closed s) d = (refl, refl, (let q : d.dispatched ≡ d.dispatched + 0 = omega arith in q))
noted_round t (Finish id b) d = (refl, refl, (let q : d.dispatched ≡ d.dispatched + 0 = omega arith in q))
noted_round t (Task w id b) d = (refl, refl, (let q : d.dispatched ≡ d.dispatched + 0 = omega arith in q))

-- one is served: g is what its connection comes to, n the packets that are pushed of it
one_round : (t : Terms) (pushed later : Mail) (before cs : List Conn) (c g : Conn) (ls : List LinkRecord) (k n : ℕ) (cuts : Bool) (at : ℕ → ℕ) → Round t pushed (before ++ c ∷ cs) ls k → ((j : ℕ) → packets_at j later ≡ packets_at j pushed + at j) → length (collect packet_msg (bare later)) ≡ length (collect packet_msg (bare pushed)) + n → (t.mode ≡ 1 → (j : ℕ) → at j + holds_at j g ≤ holds_at j c + turns t k cuts j) → g.taken ≡ c.taken + one_if cuts → g.dispatched ≡ c.dispatched + n → Round t later (before ++ g ∷ cs) ls (counted cuts k)
one_round t pushed later before cs c g ls k n cuts at r p q h e f =
    record {
      spread = λ one j.
          (let a : sum_of (holds_at j) (before ++ c ∷ cs) ≡ holds_at j c + sum_of (holds_at j) (before ++ cs) = sum_mid (holds_at j) before c cs in
          let b : sum_of (holds_at j) (before ++ g ∷ cs) ≡ holds_at j g + sum_of (holds_at j) (before ++ cs) = sum_mid (holds_at j) before g cs in
          let s : packets_at j pushed + sum_of (holds_at j) (before ++ c ∷ cs) ≤ rounds t.worker_num k j = r.spread one j in
          let u : rounds t.worker_num (counted cuts k) j ≡ rounds t.worker_num k j + turns t k cuts j = rounds_counted t k cuts j in
          let v : packets_at j later ≡ packets_at j pushed + at j = p j in
          let w : at j + holds_at j g ≤ holds_at j c + turns t k cuts j = h one j in
          omega arith);
      most =
          (let a : sum_of taken_of (before ++ c ∷ cs) ≡ c.taken + sum_of taken_of (before ++ cs) = sum_mid taken_of before c cs in
          let b : sum_of taken_of (before ++ g ∷ cs) ≡ g.taken + sum_of taken_of (before ++ cs) = sum_mid taken_of before g cs in
          let s : k ≤ sum_of taken_of (before ++ c ∷ cs) + sum_of (cut_of t) ls = r.most in
          let u : counted cuts k ≡ k + one_if cuts = counted_is cuts k in
          omega arith);
      sent =
          (let a : sum_of sent_of (before ++ c ∷ cs) ≡ c.dispatched + sum_of sent_of (before ++ cs) = sum_mid sent_of before c cs in
          let b : sum_of sent_of (before ++ g ∷ cs) ≡ g.dispatched + sum_of sent_of (before ++ cs) = sum_mid sent_of before g cs in
          let s : length (collect packet_msg (bare pushed)) ≡ sum_of sent_of (before ++ c ∷ cs) + total ls = r.sent in
          omega arith);
    }

-- one leaves
gone_round : (t : Terms) (pushed : Mail) (before cs : List Conn) (c d : Conn) (ls : List LinkRecord) (k u : ℕ) (cuts : Bool) (e : Cause) → Round t pushed (before ++ c ∷ cs) ls k → d.taken ≡ c.taken + one_if cuts → d.dispatched ≡ c.dispatched → d.taken ≤ length (packets_cut t d.pieces) → Round t pushed (before ++ cs) (ls ++ over_link t d u e ∷ []) (counted cuts k)
gone_round t pushed before cs c d ls k u cuts e r p q few =
    record {
      spread = λ one j.
          (let a : sum_of (holds_at j) (before ++ c ∷ cs) ≡ holds_at j c + sum_of (holds_at j) (before ++ cs) = sum_mid (holds_at j) before c cs in
          let s : packets_at j pushed + sum_of (holds_at j) (before ++ c ∷ cs) ≤ rounds t.worker_num k j = r.spread one j in
          let v : rounds t.worker_num (counted cuts k) j ≡ rounds t.worker_num k j + turns t k cuts j = rounds_counted t k cuts j in
          omega arith);
      most =
          (let a : sum_of taken_of (before ++ c ∷ cs) ≡ c.taken + sum_of taken_of (before ++ cs) = sum_mid taken_of before c cs in
          let s : k ≤ sum_of taken_of (before ++ c ∷ cs) + sum_of (cut_of t) ls = r.most in
          let v : counted cuts k ≡ k + one_if cuts = counted_is cuts k in
          let w : sum_of (cut_of t) (ls ++ over_link t d u e ∷ []) ≡ sum_of (cut_of t) ls + length (packets_cut t d.pieces) = cut_append t ls (over_link t d u e) in
          omega arith);
      sent =
          (let a : sum_of sent_of (before ++ c ∷ cs) ≡ c.dispatched + sum_of sent_of (before ++ cs) = sum_mid sent_of before c cs in
          let s : length (collect packet_msg (bare pushed)) ≡ sum_of sent_of (before ++ c ∷ cs) + total ls = r.sent in
          let v : total (ls ++ over_link t d u e ∷ []) ≡ total ls + d.dispatched = total_append t ls d u e in
          omega arith);
    }

-- the list behind a serve
turned_is : (done cs : List Conn) (r : Reactor) → done ++ cs ≡ all (turned done cs r)
turned_is done [] r = append-nil done
turned_is done (c ∷ cs) r = refl

turned_map : (f : Conn → Conn) (done cs : List Conn) (r : Reactor) → map f (done ++ cs) ≡ map f (turned done cs r).done ++ map f (turned done cs r).next
turned_map f done [] r = ap (map f) (append-nil done)
turned_map f done (c ∷ cs) r = map_append f done (c ∷ cs)

turned_rest : (done cs : List Conn) (r : Reactor) → ((turned done cs r).over ≡ r.over) × ((turned done cs r).round ≡ r.round)
turned_rest done [] r = (refl, refl)
turned_rest done (c ∷ cs) r = (refl, refl)

behind_serve : (t : Terms) (pushed : Mail) (done cs : List Conn) (r : Reactor) → Round t pushed (done ++ cs) r.over r.round → RoundOf t pushed (turned done cs r)
behind_serve t pushed done [] r q = subst (λ (ds : List Conn). Round t pushed ds r.over r.round) (append-nil done) q
behind_serve t pushed done (c ∷ cs) r q = q

behind_push : (t : Terms) (pushed : Mail) (f : Conn → Conn) (done cs : List Conn) (r : Reactor) (ask : Ask) → Round t pushed (map f (done ++ cs)) r.over r.round → RoundOf t pushed (each_conn f (record (turned done cs r) { last = ask; still = 0 }))
behind_push t pushed f done [] r ask q = subst (λ (ds : List Conn). Round t pushed (map f ds) r.over r.round) (append-nil done) q
behind_push t pushed f done (c ∷ cs) r ask q = subst (λ (ds : List Conn). Round t pushed ds r.over r.round) (map_append f done (c ∷ cs)) q

zero_more : (j : ℕ) (pushed : Mail) → packets_at j pushed ≡ packets_at j pushed + 0
zero_more j pushed = omega arith

served_round : (t : Terms) (n : ℕ) (took pushed : Mail) (a : Answers) (moved cuts : Bool) (c d : Conn) (cs : List Conn) (o : Does) (r : Reactor) (k : ℕ) → r.round ≡ counted cuts k → Each (λ (b : Conn). ¬ (b.session ≡ d.session)) (r.done ++ cs) → ServedBy t n took pushed d o → Round t pushed (r.done ++ c ∷ cs) r.over k → d.taken ≡ c.taken + one_if cuts → d.dispatched ≡ c.dispatched → Fits t k c cuts d o → RoundAfter t pushed (served_by t a moved cs d o r)
served_round t n took pushed a moved cuts c d cs (Pushes w e) r k eq others s q p g f = (
  behind_push t (pushed ++ (Worker w, EventMsg e) ∷ []) (at_event (noted t e) e) (r.done ++ d ∷ []) cs r (Push w (EventMsg e)) (placed (noted t e) (pushed ++ (Worker w, EventMsg e) ∷ []) noted_now),
  behind_push t pushed (at_event (holds w e) e) (r.done ++ d ∷ []) cs r (Push w (EventMsg e)) (placed (holds w e) pushed held_now),
)
  where
    placed : (h : Conn → Conn) (later : Mail) → Round t later (r.done ++ h d ∷ cs) r.over (counted cuts k) → Round t later (map (at_event h e) ((r.done ++ d ∷ []) ++ cs)) r.over r.round
    placed h later x =
        subst (λ (ds : List Conn). Round t later (map (at_event h e) ds) r.over r.round) (sym (append_assoc r.done (d ∷ []) cs))
        (subst (λ (ds : List Conn). Round t later ds r.over r.round) (sym (map_at h e r.done d cs s.0 others)) (subst (Round t later (r.done ++ h d ∷ cs) r.over) (sym eq) x))

    noted_now : Round t (pushed ++ (Worker w, EventMsg e) ∷ []) (r.done ++ noted t e d ∷ cs) r.over (counted cuts k)
    noted_now =
        (let m = noted_round t e d in
        one_round t pushed (pushed ++ (Worker w, EventMsg e) ∷ []) r.done cs c (noted t e d) r.over k (is_packet e) cuts (λ j. at_worker j w e) q (λ j. at_more pushed j w (EventMsg e) (is_packet e) (length_packet e)) (all_more pushed w (EventMsg e) ∙ ap (λ (x : ℕ). length (collect packet_msg (bare pushed)) + x) (length_packet e))
        (λ one j. (let z : holds_at j (noted t e d) ≡ 0 = ap (held_at j) (m.0 ∙ f.0) in let y : at_worker j w e ≤ holds_at j c + turns t k cuts j = f.1 one j in omega arith))
        (m.1 ∙ p) (m.2 ∙ ap (λ (x : ℕ). x + is_packet e) g))

    held_now : Round t pushed (r.done ++ holds w e d ∷ cs) r.over (counted cuts k)
    held_now =
        one_round t pushed pushed r.done cs c (holds w e d) r.over k 0 cuts (λ j. 0) q (λ j. zero_more j pushed) (let z : length (collect packet_msg (bare pushed)) ≡ length (collect packet_msg (bare pushed)) + 0 = omega arith in z)
        (λ one j. (let y : at_worker j w e ≤ holds_at j c + turns t k cuts j = f.1 one j in omega arith)) p (g ∙ (let z : c.dispatched ≡ c.dispatched + 0 = omega arith in z))
served_round t n took pushed a moved cuts c d cs Moves r k eq others s q p g f = behind_serve t pushed (r.done ++ d ∷ []) cs r (quiet_round t pushed cuts c d r.done cs r.over k r.round eq q p g f)
  where
    quiet_round : (t : Terms) (pushed : Mail) (cuts : Bool) (c d : Conn) (done cs : List Conn) (ls : List LinkRecord) (k m : ℕ) → m ≡ counted cuts k → Round t pushed (done ++ c ∷ cs) ls k → d.taken ≡ c.taken + one_if cuts → d.dispatched ≡ c.dispatched → ((j : ℕ) → holds_at j d ≤ holds_at j c) → Round t pushed ((done ++ d ∷ []) ++ cs) ls m
    quiet_round t pushed cuts c d done cs ls k m eq q p g f =
        subst (λ (ds : List Conn). Round t pushed ds ls m) (sym (append_assoc done (d ∷ []) cs)) (subst (Round t pushed (done ++ d ∷ cs) ls) (sym eq)
        (one_round t pushed pushed done cs c d ls k 0 cuts (λ j. 0) q (λ j. zero_more j pushed) (let z : length (collect packet_msg (bare pushed)) ≡ length (collect packet_msg (bare pushed)) + 0 = omega arith in z) (λ one j. (let y : holds_at j d ≤ holds_at j c = f j in omega arith)) p (g ∙ (let z : c.dispatched ≡ c.dispatched + 0 = omega arith in z))))
served_round t n took pushed a moved cuts c d cs Stays r k eq others s q p g f = pick moved
  where
    here : RoundOf t pushed (turned (r.done ++ d ∷ []) cs r)
    here =
        behind_serve t pushed (r.done ++ d ∷ []) cs r (subst (λ (ds : List Conn). Round t pushed ds r.over r.round) (sym (append_assoc r.done (d ∷ []) cs)) (subst (Round t pushed (r.done ++ d ∷ cs) r.over) (sym eq)
        (one_round t pushed pushed r.done cs c d r.over k 0 cuts (λ j. 0) q (λ j. zero_more j pushed) (let z : length (collect packet_msg (bare pushed)) ≡ length (collect packet_msg (bare pushed)) + 0 = omega arith in z) (λ one j. (let y : holds_at j d ≤ holds_at j c = f j in omega arith)) p (g ∙ (let z : c.dispatched ≡ c.dispatched + 0 = omega arith in z)))))

    rests : (m : ℕ) (b : Bool) → RoundAfter t pushed (record (turned (r.done ++ d ∷ []) cs r) { still = m; last = rest_by b })
    rests m true = here
    rests m false = here

    pick : (b : Bool) → RoundAfter t pushed (if b then record (turned (r.done ++ d ∷ []) cs r) { last = Nothing; still = 0 } else stayed (length (r.done ++ d ∷ cs)) (turned (r.done ++ d ∷ []) cs r))
    pick true = here
    pick false = rests ((turned (r.done ++ d ∷ []) cs r).still + 1) _
served_round t n took pushed a moved cuts c d cs (Leaves e) r k eq others s q p g f =
    gone cs (subst (Round t pushed (r.done ++ cs) (r.over ++ over_link t d a.released e ∷ [])) (sym eq) (gone_round t pushed r.done cs c d r.over k a.released cuts e q p g s.0.tale.few))
  where
    gone : (bs : List Conn) → Round t pushed (r.done ++ bs) (r.over ++ over_link t d a.released e ∷ []) r.round → RoundAfter t pushed (record (turned r.done bs r) { over = r.over ++ over_link t d a.released e ∷ []; last = Nothing; still = 0 })
    gone [] x = subst (λ (ds : List Conn). Round t pushed ds (r.over ++ over_link t d a.released e ∷ []) r.round) (append-nil r.done) x
    gone (b ∷ bs) x = x

ends_round : (t : Terms) (n : ℕ) (pushed : Mail) (r : Reactor) → RoundOf t pushed r → RoundAfter t pushed (ends_by t r)
ends_round t n pushed r q = pick (nat_lt 0 r.ends) (nat_lt r.given t.worker_num) (r.ends == 1 + t.worker_num + t.tasker_num)
  where
    given : RoundOf t (pushed ++ (Worker r.given, NoMore) ∷ []) r
    given =
        record {
          spread = λ one j. (let e : packets_at j (pushed ++ (Worker r.given, NoMore) ∷ []) ≡ packets_at j pushed + (if r.given == j then 0 else 0) = at_more pushed j r.given NoMore 0 refl in let z : ◌≡◌ {A = ℕ} (if r.given == j then 0 else 0) 0 = both (r.given == j) in let s : packets_at j pushed + sum_of (holds_at j) (all r) ≤ rounds t.worker_num r.round j = q.spread one j in omega arith);
          most = q.most;
          sent = (let e : length (collect packet_msg (bare (pushed ++ (Worker r.given, NoMore) ∷ []))) ≡ length (collect packet_msg (bare pushed)) + 0 = all_more pushed r.given NoMore in let s : length (collect packet_msg (bare pushed)) ≡ sum_of sent_of (all r) + total r.over = q.sent in omega arith);
        }
      where
        both : (b : Bool) → ◌≡◌ {A = ℕ} (if b then 0 else 0) 0
        both true = refl
        both false = refl

    same : (x : Ask) → RoundOf t pushed (record r { last = x })
    same x = record { spread = q.spread; most = q.most; sent = q.sent }

    pick : (x y z : Bool) → RoundAfter t pushed (if x then (if y then record r { last = Push r.given NoMore } else (if z then record r { last = Finished } else record r { last = Rest })) else record r { last = Rest })
    pick true true z = (record { spread = given.spread; most = given.most; sent = given.sent }, same (Push r.given NoMore))
    pick true false true = same Finished
    pick true false false = same Rest
    pick false y z = same Rest

serves_round : (t : Terms) (a : Aim) (w : Ending) (ans : Answers) → 0 < t.worker_num → Grows t → ((j : ℕ) → ans.idle ≡ Some j → j < t.worker_num) → (n : ℕ) (took pushed : Mail) (r : Reactor) → Quiet t a w n took pushed r → RoundOf t pushed r → (next : List Conn) → r.next ≡ next → RoundAfter t pushed (serves t ans next r)
serves_round t a w ans some grows idle n took pushed r q x [] e = ends_round t n pushed r x
serves_round t a w ans some grows idle n took pushed r q x (c ∷ cs) e =
    let v : Served = serve t ans r.round c in
    let lists : QuietLists t a w n took pushed (r.done ++ c ∷ cs) r.over = subst (λ (ds : List Conn). QuietLists t a w n took pushed (r.done ++ ds) r.over) e q in
    let front : QuietLists t a w n took pushed (c ∷ (r.done ++ cs)) r.over = lists_perm t a w n took pushed (r.done ++ c ∷ cs) (c ∷ (r.done ++ cs)) r.over (perm_front c r.done cs) lists in
    let right : ServedRight t n took pushed c.session v = serve_right t n took pushed ans r.round c some idle grows front.conns.0 in
    let s : RoundServed t r.round c v = serve_round t ans r.round c in
    let others : Each (λ (b : Conn). ¬ (b.session ≡ v.conn.session)) (r.done ++ cs) = others_not v.conn.session (r.done ++ cs) (subst (λ (z : ℕ). Each (λ k. ¬ (z ≡ k)) (collect session_in (r.done ++ cs))) (sym right.session) (each_left (λ k. ¬ (c.session ≡ k)) (collect session_in (r.done ++ cs)) (collect session_over r.over) front.distinct.0)) in
    served_round t n took pushed ans (writes ans.write c) v.cuts c v.conn cs v.does (record r { round = counted v.cuts r.round }) r.round refl others right.does (subst (λ (ds : List Conn). Round t pushed (r.done ++ ds) r.over r.round) e x) s.taken s.sent s.fits

takes_round : (t : Terms) (pushed : Mail) (r : Reactor) → RoundOf t pushed r → (b : Bool) → RoundAfter t pushed (record (if b then each_conn stops r else r) { last = Take })
takes_round t pushed r x true = (let y : RoundOf t pushed (each_conn stops r) = each_round t pushed stops r (λ c. record { held = refl; taken = refl; sent = refl }) x in record { spread = y.spread; most = y.most; sent = y.sent })
takes_round t pushed r x false = record { spread = x.spread; most = x.most; sent = x.sent }

chosen_round : (t : Terms) (a : Aim) (w : Ending) (ans : Answers) → 0 < t.worker_num → Grows t → ((j : ℕ) → ans.idle ≡ Some j → j < t.worker_num) → (n : ℕ) (took pushed : Mail) (r : Reactor) → Quiet t a w n took pushed r → RoundOf t pushed r → (ask : Ask) → RoundAfter t pushed (chosen t ans ask r)
chosen_round t a w ans some grows idle n took pushed r q x Take = serves_round t a w ans some grows idle n took pushed r q x r.next refl
chosen_round t a w ans some grows idle n took pushed r q x (Push v m) = takes_round t pushed r x ans.stop
chosen_round t a w ans some grows idle n took pushed r q x Nothing = takes_round t pushed r x ans.stop
chosen_round t a w ans some grows idle n took pushed r q x Rest = takes_round t pushed r x ans.stop
chosen_round t a w ans some grows idle n took pushed r q x Finished = takes_round t pushed r x ans.stop

-- a pipe call
call_round : (t : Terms) (r : Reactor) (took pushed later more : Mail) (got : Got Message) → Called r took pushed later more got → RoundAfter t pushed r → (starved : Bool) → RoundOf t more (settled t starved got r)
call_round t r took pushed _ _ _ (TookOne e from m) x starved = (let y : RoundOf t pushed r = subst (RoundBy t pushed r) e x in msg_round t pushed starved m (record r { empty = false }) (record { spread = y.spread; most = y.most; sent = y.sent }))
call_round t r took pushed _ _ _ (FoundNone e) x starved = (let y : RoundOf t pushed r = subst (RoundBy t pushed r) e x in record { spread = y.spread; most = y.most; sent = y.sent })
call_round t r took pushed _ _ _ (PushedOne w m e) x starved = subst (λ (k : Ask). RoundOf t (pushed ++ (Worker w, m) ∷ []) (pushed_by t k r)) (sym e) (subst (RoundBy t pushed r) e x).0
call_round t r took pushed _ _ _ (CameBack w m e) x starved = subst (λ (k : Ask). RoundOf t pushed (full_by k m r)) (sym e) (subst (RoundBy t pushed r) e x).1
call_round t r took pushed _ _ _ (NoCall (inl e)) x starved = subst (RoundBy t pushed r) e x
call_round t r took pushed _ _ _ (NoCall (inr e)) x starved = subst (RoundBy t pushed r) e x

-- all runs
pub runs_round : (t : Terms) (a : Aim) (w : Ending) → ModeLaws t a w → (word : ℕ → ℕ) → 0 < t.worker_num → Grows t → (n : ℕ) → n < t.reactor_num → (took pushed : Mail) (r : Reactor) → Runs t word took pushed r → IsFair t n took → RoundAfter t pushed r
runs_round t a w m word some grows n small _ _ _ (First starved ans faith) f = chosen_round t a w ans some grows faith.idle n [] [] started (started_quiet t a w n) (record { spread = λ one j. omega arith; most = omega arith; sent = refl }) started.last
runs_round t a w m word some grows n small _ _ _ (Then {took = took} {pushed = pushed} {r = r} before later more got call starved ans faith) f =
    let old : IsFair t n took = call_fair t n r took pushed later more got call f in
    chosen_round t a w ans some grows faith.idle n later more (settled t starved got r)
    (call_quiet t a w n r took pushed later more got call f (runs_quiet t a w m word some grows n small took pushed r before old) starved)
    (call_round t r took pushed later more got call (runs_round t a w m word some grows n small took pushed r before old) starved) r.last

-- a finished reactor without a dropped packet: the packets went round
pub finished_round : (t : Terms) (a : Aim) (w : Ending) → ModeLaws t a w → (word : ℕ → ℕ) → t.mode ≡ 1 → 0 < t.worker_num → Grows t → (n : ℕ) → n < t.reactor_num → (took pushed : Mail) (r : Reactor) → Runs t word took pushed r → IsFair t n took → r.last ≡ Finished → all r ≡ [] → sum_of (cut_of t) r.over ≡ total r.over → (j : ℕ) → j < t.worker_num → packets_at j pushed ≡ rounds t.worker_num (total r.over) j
finished_round t a w m word one some grows n small took pushed r runs f e none whole j lt =
    let x : RoundOf t pushed r = subst (RoundBy t pushed r) e (runs_round t a w m word some grows n small took pushed r runs f) in
    round_whole t pushed r.over r.round one some (runs_straight t word some took pushed r runs).pushed_is (subst (λ (cs : List Conn). Round t pushed cs r.over r.round) none x) whole j lt

-- links that ended with all cut: what was pushed of them is what was cut
whole_sum : (t : Terms) (a : Aim) (w : Ending) (took pushed : Mail) (ls : List LinkRecord) → Each (QuietOver t a w took pushed) ls → Each EndsAllCut ls → sum_of (cut_of t) ls ≡ total ls
whole_sum t a w took pushed [] q h = refl
whole_sum t a w took pushed (l ∷ ls) q h =
    (let e : dispatched_of l.state ≡ length (packets_cut t l.pieces) = ap dispatched_of h.0.1.0 ∙ q.0.kept.all h.0.0 h.0.1.0 h.0.1.1 in
    let r : sum_of (cut_of t) ls ≡ total ls = whole_sum t a w took pushed ls q.1 h.1 in
    omega arith)

pub round_law : (t : Terms) (a : Aim) (w : Ending) → ModeLaws t a w → (word : ℕ → ℕ) → t.mode ≡ 1 → 0 < t.worker_num → Grows t → (n : ℕ) → n < t.reactor_num → (took pushed : Mail) (r : Reactor) → Runs t word took pushed r → IsFair t n took → r.last ≡ Finished → all r ≡ [] → Each EndsAllCut (kept t r) → (j : ℕ) → j < t.worker_num → packets_at j pushed ≡ rounds t.worker_num (total (kept t r)) j
round_law t a w m word one some grows n small took pushed r runs f e none cut j lt =
    let q : Quiet t a w n took pushed r = subst (QuietBy t a w n took pushed r) e (runs_quiet t a w m word some grows n small took pushed r runs f) in
    let same : kept t r ≡ r.over = ap (λ (cs : List Conn). live_links t cs ++ r.over) none in
    finished_round t a w m word one some grows n small took pushed r runs f e none (whole_sum t a w took pushed r.over q.over (subst (Each EndsAllCut) same cut)) j lt
    ∙ ap (λ (ls : List LinkRecord). rounds t.worker_num (total ls) j) (sym same)
