-- A turn keeps a reactor quiet: what it settles, and what it asks for, whatever the pipe answers.
use Rattle.std.proofs.Common.{◌≡◌, ℕ, ◌+◌, ◌<◌, ◌==◌, Bool, true, false, nat_lt, if◌then◌else◌, List, [], ◌∷◌, ◌++◌, length, refl, ap, ◌∙◌, sym, subst, append-nil, append_assoc, Some, map}
use Rattle.sw_conn.specs.Causes.{is_hard}
use Rattle.sw_conn.specs.Conn.{set_soft, set_hard}
use Rattle.sw_data.specs.declared.messages.Got.{Got}
use Rattle.sw_lists.specs.Lists.{collect, Each}
use Rattle.sw_lists.specs.Perm.{Perm, Nil}
use Rattle.sw_lists.proofs.Lists.{each_left, perm_sym, each_more}
use Rattle.sw_step.specs.declared.actor.ActorId.{ActorId}
use Rattle.sw_step.specs.declared.actor.ActorId.TheVariants.{Worker}
use Rattle.sw_record.specs.Words.{Event, Connect, Packet, Closed, Finish, Task, Overflow, NoMemory, ServerClose, ResetCause}
use Rattle.sw_record.specs.declared.record.LinkRecord.{LinkRecord}
use Rattle.sw_record.specs.Terms.{Terms, keeps}
use Rattle.sw_past.specs.Messages.{Message, FreshMsg, SendMsg, CloseMsg, ResetMsg, Bye, EventMsg, OverMsg, NoMore}
use Rattle.sw_past.specs.Past.{Mail, bare}
use Rattle.sw_past.specs.Views.{fresh_in}
use Rattle.sw_past.specs.Routes.{IsFair}
use Rattle.sw_reactor_table.specs.Conn.{Conn, Answers, sent, takes, stops, noted, holds, at_event, writes, Does, Pushes, Moves, Stays, Leaves, serve, over_link}
use Rattle.sw_reactor_table.specs.Reactor.{Reactor, Ask, Take, Push, Nothing, Rest, Finished, all, each_conn, settled, settled_msg, turned, rest_by, stayed, served_by, counted, ends_by, serves, chosen, turn, started}
use Rattle.sw_reactor_table.specs.Quiet.{QuietConn, QuietLists, Quiet, AfterTake, QuietAfter, IsOf, ServedBy, Grows, session_in, session_over, sessions}
use Rattle.sw_reactor_table.specs.Modes.{ModeLaws, IsReleased}
use Rattle.sw_reactor_table.specs.Runs.{IsHonest}
use Rattle.sw_reactor_table.proofs.Settle.{takes_keeps, stops_keeps}
use Rattle.sw_reactor_table.proofs.Flow.{more_of}
use Rattle.sw_reactor_table.proofs.Serve.{serve_right}
use Rattle.sw_reactor_table.proofs.Lift.{Aim, Ending, perm_front, lists_perm, others_not, head_replace, head_push, head_leave, lists_skip, map_append, lists_map, over_took, map_at, lists_fresh}

-- a message that was taken
sent_session : (t : Terms) (starved : Bool) (b : List ℕ) (c : Conn) → (sent t starved b c).session ≡ c.session
sent_session t starved b c = pick (is_hard c.cause) (nat_lt t.buffer_size (length c.unsent + length b)) starved
  where
    pick : (x y z : Bool) → ◌≡◌ {A = ℕ} (if x then c else (if y then record c { cause = Some (Overflow (length c.unsent + length b)) } else (if z then record c { cause = Some NoMemory } else record c { unsent = c.unsent ++ b }))).session c.session
    pick true y z = refl
    pick false true z = refl
    pick false false true = refl
    pick false false false = refl

if_session : (b : Bool) (c d : Conn) → d.session ≡ c.session → ◌≡◌ {A = ℕ} (if b then d else c).session c.session
if_session true c d e = e
if_session false c d e = refl

pub takes_session : (t : Terms) (starved : Bool) (m : Message) (c : Conn) → (takes t starved m c).session ≡ c.session
takes_session t starved (FreshMsg ip s) c = refl
takes_session t starved (SendMsg s b) c = if_session (c.session == s) c (sent t starved b c) (sent_session t starved b c)
takes_session t starved (CloseMsg s) c = if_session (c.session == s) c (record c { cause = set_soft ServerClose c.cause }) refl
takes_session t starved (ResetMsg s) c = if_session (c.session == s) c (record c { cause = set_hard ResetCause c.cause }) refl
takes_session t starved (Bye s) c = if_session (c.session == s) c _ refl
takes_session t starved (EventMsg e) c = refl
takes_session t starved (OverMsg id) c = refl
takes_session t starved NoMore c = refl

no_fresh : (took : Mail) (x : ActorId × Message) → fresh_in x.1 ≡ [] → collect fresh_in (bare (took ++ x ∷ [])) ≡ collect fresh_in (bare took)
no_fresh took x e = more_of fresh_in took x ∙ ap (λ zs. collect fresh_in (bare took) ++ zs) e ∙ append-nil (collect fresh_in (bare took))

took_all : (t : Terms) (a : Aim) (w : Ending) (n : ℕ) (took pushed : Mail) (starved : Bool) (from : ActorId) (m : Message) (r : Reactor) → fresh_in m ≡ [] → Quiet t a w n took pushed r → Quiet t a w n (took ++ (from, m) ∷ []) pushed (each_conn (takes t starved m) r)
took_all t a w n took pushed starved from m r none q =
    subst (λ (cs : List Conn). QuietLists t a w n (took ++ (from, m) ∷ []) pushed cs r.over) (map_append (takes t starved m) r.done r.next)
    (lists_map t a w n took (took ++ (from, m) ∷ []) pushed (all r) r.over (takes t starved m) (takes_session t starved m) (λ c g. takes_keeps t n took pushed starved c from m g) (over_took t a w took pushed (from, m) r.over q.over) (no_fresh took (from, m) none) q)

took_none : (t : Terms) (a : Aim) (w : Ending) (n : ℕ) (took pushed : Mail) (cs : List Conn) (ls : List LinkRecord) (x : ActorId × Message) → fresh_in x.1 ≡ [] → ((c : Conn) → QuietConn t n took pushed c → QuietConn t n (took ++ x ∷ []) pushed c) → QuietLists t a w n took pushed cs ls → QuietLists t a w n (took ++ x ∷ []) pushed cs ls
took_none t a w n took pushed cs ls x none keeps q =
    record { conns = each_more (QuietConn t n took pushed) (QuietConn t n (took ++ x ∷ []) pushed) cs keeps q.conns; over = over_took t a w took pushed x ls q.over; distinct = q.distinct; stranger = q.stranger; routed = q.routed; came = subst (Perm ℕ (sessions cs ls)) (sym (no_fresh took x none)) q.came }

settled_quiet : (t : Terms) (a : Aim) (w : Ending) (n : ℕ) (took pushed : Mail) (starved : Bool) (from : ActorId) (m : Message) (r : Reactor) → IsFair t n (took ++ (from, m) ∷ []) → Quiet t a w n took pushed r → Quiet t a w n (took ++ (from, m) ∷ []) pushed (settled_msg t starved m r)
settled_quiet t a w n took pushed starved from (FreshMsg ip s) r fair q =
    subst (λ (cs : List Conn). QuietLists t a w n (took ++ (from, FreshMsg ip s) ∷ []) pushed cs r.over) (append_assoc r.done r.next _) (lists_fresh t a w n took pushed (all r) r.over starved from ip s fair q)
settled_quiet t a w n took pushed starved from (SendMsg s b) r fair q = took_all t a w n took pushed starved from (SendMsg s b) r refl q
settled_quiet t a w n took pushed starved from (CloseMsg s) r fair q = took_all t a w n took pushed starved from (CloseMsg s) r refl q
settled_quiet t a w n took pushed starved from (ResetMsg s) r fair q = took_all t a w n took pushed starved from (ResetMsg s) r refl q
settled_quiet t a w n took pushed starved from (Bye s) r fair q = took_all t a w n took pushed starved from (Bye s) r refl q
settled_quiet t a w n took pushed starved from (EventMsg e) r fair q = took_none t a w n took pushed (all r) r.over (from, EventMsg e) refl (λ c g. takes_keeps t n took pushed starved c from (EventMsg e) g) q
settled_quiet t a w n took pushed starved from (OverMsg id) r fair q = took_none t a w n took pushed (all r) r.over (from, OverMsg id) refl (λ c g. takes_keeps t n took pushed starved c from (OverMsg id) g) q
settled_quiet t a w n took pushed starved from NoMore r fair q = took_none t a w n took pushed (all r) r.over (from, NoMore) refl (λ c g. takes_keeps t n took pushed starved c from NoMore g) q

-- a take is asked for
take_quiet : (t : Terms) (a : Aim) (w : Ending) (n : ℕ) (took pushed : Mail) (r : Reactor) → Quiet t a w n took pushed r → AfterTake t a w n took pushed r
take_quiet t a w n took pushed r q = (q, λ starved from m fair. settled_quiet t a w n took pushed starved from m (record r { empty = false }) fair q)

stop_quiet : (t : Terms) (a : Aim) (w : Ending) (n : ℕ) (took pushed : Mail) (r : Reactor) → Quiet t a w n took pushed r → Quiet t a w n took pushed (each_conn stops r)
stop_quiet t a w n took pushed r q =
    subst (λ (cs : List Conn). QuietLists t a w n took pushed cs r.over) (map_append stops r.done r.next)
    (lists_map t a w n took took pushed (all r) r.over stops (λ c. refl) (λ c g. stops_keeps t n took pushed c g) q.over refl q)

asks_take : (t : Terms) (a : Aim) (w : Ending) (n : ℕ) (took pushed : Mail) (r : Reactor) → Quiet t a w n took pushed r → (b : Bool) → QuietAfter t a w n took pushed (record (if b then each_conn stops r else r) { last = Take })
asks_take t a w n took pushed r q true = take_quiet t a w n took pushed (record (each_conn stops r) { last = Take }) (stop_quiet t a w n took pushed r q)
asks_take t a w n took pushed r q false = take_quiet t a w n took pushed (record r { last = Take }) q

-- the list behind a serve
turned_quiet : (t : Terms) (a : Aim) (w : Ending) (n : ℕ) (took pushed : Mail) (done cs : List Conn) (r : Reactor) → QuietLists t a w n took pushed (done ++ cs) r.over → Quiet t a w n took pushed (turned done cs r)
turned_quiet t a w n took pushed done [] r q = subst (λ (ds : List Conn). QuietLists t a w n took pushed ds r.over) (append-nil done) q
turned_quiet t a w n took pushed done (c ∷ cs) r q = q

-- a change of one connection in it
turned_at : (t : Terms) (a : Aim) (w : Ending) (n : ℕ) (took pushed : Mail) (f : Conn → Conn) (done cs : List Conn) (r : Reactor) (ask : Ask) → QuietLists t a w n took pushed (map f (done ++ cs)) r.over → Quiet t a w n took pushed (each_conn f (record (turned done cs r) { last = ask; still = 0 }))
turned_at t a w n took pushed f done [] r ask q = subst (λ (ds : List Conn). QuietLists t a w n took pushed (map f ds) r.over) (append-nil done) q
turned_at t a w n took pushed f done (c ∷ cs) r ask q = subst (λ (ds : List Conn). QuietLists t a w n took pushed ds r.over) (map_append f done (c ∷ cs)) q

noted_session : (t : Terms) (e : Event) (c : Conn) → (noted t e c).session ≡ c.session
noted_session t (Connect s) c = refl
noted_session t (Packet s i b) c = refl
noted_session t (Closed s) c = refl
noted_session t (Finish id b) c = refl
noted_session t (Task v id b) c = refl

-- what stands at its place
in_place : (t : Terms) (a : Aim) (w : Ending) (n : ℕ) (took pushed : Mail) (done cs : List Conn) (d : Conn) (ls : List LinkRecord) → QuietLists t a w n took pushed (d ∷ (done ++ cs)) ls → QuietLists t a w n took pushed (done ++ d ∷ cs) ls
in_place t a w n took pushed done cs d ls q = lists_perm t a w n took pushed (d ∷ (done ++ cs)) (done ++ d ∷ cs) ls (perm_sym (perm_front d done cs)) q

in_front : (t : Terms) (a : Aim) (w : Ending) (n : ℕ) (took pushed : Mail) (done cs : List Conn) (d : Conn) (ls : List LinkRecord) → QuietLists t a w n took pushed (done ++ d ∷ cs) ls → QuietLists t a w n took pushed (d ∷ (done ++ cs)) ls
in_front t a w n took pushed done cs d ls q = lists_perm t a w n took pushed (done ++ d ∷ cs) (d ∷ (done ++ cs)) ls (perm_front d done cs) q

-- behind a serve
served_quiet : (t : Terms) (a : Aim) (w : Ending) → ModeLaws t a w → (n : ℕ) (took pushed : Mail) (ans : Answers) (moved : Bool) (c d : Conn) (cs : List Conn) (o : Does) (r : Reactor) → QuietLists t a w n took pushed (r.done ++ c ∷ cs) r.over → d.session ≡ c.session → ServedBy t n took pushed d o → IsReleased t d ans.released → QuietAfter t a w n took pushed (served_by t ans moved cs d o r)
served_quiet t a w m n took pushed ans moved c d cs (Pushes v e) r q same s released = (
  turned_at t a w n took (pushed ++ (Worker v, EventMsg e) ∷ []) (at_event (noted t e) e) (r.done ++ d ∷ []) cs r (Push v (EventMsg e)) (placed (noted t e) (pushed ++ (Worker v, EventMsg e) ∷ []) pushed_at),
  turned_at t a w n took pushed (at_event (holds v e) e) (r.done ++ d ∷ []) cs r (Push v (EventMsg e)) (placed (holds v e) pushed held_at),
)
  where
    front : QuietLists t a w n took pushed (c ∷ (r.done ++ cs)) r.over
    front = in_front t a w n took pushed r.done cs c r.over q

    others : Each (λ (b : Conn). ¬ (b.session ≡ d.session)) (r.done ++ cs)
    others = others_not d.session (r.done ++ cs) (subst (λ (z : ℕ). Each (λ k. ¬ (z ≡ k)) (collect session_in (r.done ++ cs))) (sym same) (each_left (λ k. ¬ (c.session ≡ k)) (collect session_in (r.done ++ cs)) (collect session_over r.over) front.distinct.0))

    placed : (f : Conn → Conn) (later : Mail) → QuietLists t a w n took later (r.done ++ f d ∷ cs) r.over → QuietLists t a w n took later (map (at_event f e) ((r.done ++ d ∷ []) ++ cs)) r.over
    placed f later g =
        subst (λ (ds : List Conn). QuietLists t a w n took later (map (at_event f e) ds) r.over) (sym (append_assoc r.done (d ∷ []) cs))
        (subst (λ (ds : List Conn). QuietLists t a w n took later ds r.over) (sym (map_at f e r.done d cs s.0 others)) g)

    pushed_at : QuietLists t a w n took (pushed ++ (Worker v, EventMsg e) ∷ []) (r.done ++ noted t e d ∷ cs) r.over
    pushed_at = in_place t a w n took (pushed ++ (Worker v, EventMsg e) ∷ []) r.done cs (noted t e d) r.over (head_push t a w m n took pushed c (noted t e d) (r.done ++ cs) r.over front (noted_session t e d ∙ same) v e (subst (λ (z : ℕ). IsOf z e) same s.0) s.1 s.2)

    held_at : QuietLists t a w n took pushed (r.done ++ holds v e d ∷ cs) r.over
    held_at = in_place t a w n took pushed r.done cs (holds v e d) r.over (head_replace t a w n took pushed c (holds v e d) (r.done ++ cs) r.over front same s.3)
served_quiet t a w m n took pushed ans moved c d cs Moves r q same s released = turned_quiet t a w n took pushed (r.done ++ d ∷ []) cs r (replaced t a w n took pushed c d r.done cs r.over q same s)
  where
    replaced : (t : Terms) (a : Aim) (w : Ending) (n : ℕ) (took pushed : Mail) (c d : Conn) (done cs : List Conn) (ls : List LinkRecord) → QuietLists t a w n took pushed (done ++ c ∷ cs) ls → d.session ≡ c.session → QuietConn t n took pushed d → QuietLists t a w n took pushed ((done ++ d ∷ []) ++ cs) ls
    replaced t a w n took pushed c d done cs ls q same s =
        subst (λ (ds : List Conn). QuietLists t a w n took pushed ds ls) (sym (append_assoc done (d ∷ []) cs))
        (in_place t a w n took pushed done cs d ls (head_replace t a w n took pushed c d (done ++ cs) ls (in_front t a w n took pushed done cs c ls q) same s))
served_quiet t a w m n took pushed ans moved c d cs Stays r q same s released = pick moved
  where
    here : Quiet t a w n took pushed (turned (r.done ++ d ∷ []) cs r)
    here =
        turned_quiet t a w n took pushed (r.done ++ d ∷ []) cs r
        (subst (λ (ds : List Conn). QuietLists t a w n took pushed ds r.over) (sym (append_assoc r.done (d ∷ []) cs))
        (in_place t a w n took pushed r.done cs d r.over (head_replace t a w n took pushed c d (r.done ++ cs) r.over (in_front t a w n took pushed r.done cs c r.over q) same s)))

    rests : (k : ℕ) (b : Bool) → QuietAfter t a w n took pushed (record (turned (r.done ++ d ∷ []) cs r) { still = k; last = rest_by b })
    rests k true = here
    rests k false = here

    pick : (b : Bool) → QuietAfter t a w n took pushed (if b then record (turned (r.done ++ d ∷ []) cs r) { last = Nothing; still = 0 } else stayed (length (r.done ++ d ∷ cs)) (turned (r.done ++ d ∷ []) cs r))
    pick true = here
    pick false = rests ((turned (r.done ++ d ∷ []) cs r).still + 1) _
served_quiet t a w m n took pushed ans moved c d cs (Leaves e) r q same s released =
    gone cs (head_leave t a w m n took pushed c d (r.done ++ cs) r.over (in_front t a w n took pushed r.done cs c r.over q) same s.0 e s.1 ans.released released)
  where
    gone : (bs : List Conn) → QuietLists t a w n took pushed (r.done ++ bs) (r.over ++ over_link t d ans.released e ∷ []) → QuietAfter t a w n took pushed (record (turned r.done bs r) { over = r.over ++ over_link t d ans.released e ∷ []; last = Nothing; still = 0 })
    gone [] g = subst (λ (ds : List Conn). QuietLists t a w n took pushed ds (r.over ++ over_link t d ans.released e ∷ [])) (append-nil r.done) g
    gone (b ∷ bs) g = g

-- the list is empty
ends_quiet : (t : Terms) (a : Aim) (w : Ending) → ModeLaws t a w → (n : ℕ) → n < t.reactor_num → (took pushed : Mail) (r : Reactor) → Quiet t a w n took pushed r → QuietAfter t a w n took pushed (ends_by t r)
ends_quiet t a w m n small took pushed r q = pick (nat_lt 0 r.ends) (nat_lt r.given t.worker_num) (r.ends == 1 + t.worker_num + t.tasker_num)
  where
    pick : (x y z : Bool) → QuietAfter t a w n took pushed (if x then (if y then record r { last = Push r.given NoMore } else (if z then record r { last = Finished } else record r { last = Rest })) else record r { last = Rest })
    pick true true z = (lists_skip t a w m n took pushed (all r) r.over (Worker r.given, NoMore) (λ s. refl) (n, (small, refl)) q, q)
    pick true false true = q
    pick true false false = q
    pick false y z = q

serves_quiet : (t : Terms) (a : Aim) (w : Ending) → ModeLaws t a w → (ans : Answers) → 0 < t.worker_num → Grows t → (n : ℕ) → n < t.reactor_num → (took pushed : Mail) (r : Reactor) → IsHonest t ans r → Quiet t a w n took pushed r → (next : List Conn) → r.next ≡ next → QuietAfter t a w n took pushed (serves t ans next r)
serves_quiet t a w m ans some grows n small took pushed r honest q [] e = ends_quiet t a w m n small took pushed r q
serves_quiet t a w m ans some grows n small took pushed r honest q (c ∷ cs) e =
    let lists : QuietLists t a w n took pushed (r.done ++ c ∷ cs) r.over = subst (λ (ds : List Conn). QuietLists t a w n took pushed (r.done ++ ds) r.over) e q in
    let front : QuietLists t a w n took pushed (c ∷ (r.done ++ cs)) r.over = in_front t a w n took pushed r.done cs c r.over lists in
    let v = serve_right t n took pushed ans r.round c some honest.idle grows front.conns.0 in
    served_quiet t a w m n took pushed ans (writes ans.write c) c (serve t ans r.round c).conn cs (serve t ans r.round c).does (record r { round = counted (serve t ans r.round c).cuts r.round }) lists v.session v.does (honest.released c cs e)

chosen_quiet : (t : Terms) (a : Aim) (w : Ending) → ModeLaws t a w → (ans : Answers) → 0 < t.worker_num → Grows t → (n : ℕ) → n < t.reactor_num → (took pushed : Mail) (r : Reactor) → IsHonest t ans r → Quiet t a w n took pushed r → (ask : Ask) → QuietAfter t a w n took pushed (chosen t ans ask r)
chosen_quiet t a w m ans some grows n small took pushed r honest q Take = serves_quiet t a w m ans some grows n small took pushed r honest q r.next refl
chosen_quiet t a w m ans some grows n small took pushed r honest q (Push v x) = asks_take t a w n took pushed r q ans.stop
chosen_quiet t a w m ans some grows n small took pushed r honest q Nothing = asks_take t a w n took pushed r q ans.stop
chosen_quiet t a w m ans some grows n small took pushed r honest q Rest = asks_take t a w n took pushed r q ans.stop
chosen_quiet t a w m ans some grows n small took pushed r honest q Finished = asks_take t a w n took pushed r q ans.stop

-- a whole turn
pub turn_quiet : (t : Terms) (a : Aim) (w : Ending) → ModeLaws t a w → (starved : Bool) (ans : Answers) (got : Got Message) → 0 < t.worker_num → Grows t → (n : ℕ) → n < t.reactor_num → (took pushed : Mail) (r : Reactor) → IsHonest t ans (settled t starved got r) → Quiet t a w n took pushed (settled t starved got r) → QuietAfter t a w n took pushed (turn t starved ans got r)
turn_quiet t a w m starved ans got some grows n small took pushed r honest q = chosen_quiet t a w m ans some grows n small took pushed (settled t starved got r) honest q r.last

pub started_quiet : (t : Terms) (a : Aim) (w : Ending) (n : ℕ) → Quiet t a w n [] [] started
started_quiet t a w n = record { conns = tt; over = tt; distinct = tt; stranger = λ s h. refl; routed = tt; came = Nil }
