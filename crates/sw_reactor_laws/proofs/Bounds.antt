-- Counts stay in bounds: what is pushed of a connection may be noted of it.
use Rattle.std.proofs.Common.{◌≡◌, ◌⊎◌, ℕ, ◌+◌, ◌-◌, ◌<◌, ◌≤◌, ◌^◌, ◌==◌, Bool, true, false, nat_lt, if◌then◌else◌, List, [], ◌∷◌, ◌++◌, length, map, refl, ap, ◌∙◌, sym, subst, append-nil, append_assoc, arith, Option, Some, None, inl, inr}
use Rattle.std.proofs.lemmas.Bool.Decides.{nat_tests}
use Rattle.sw_data.specs.declared.messages.Got.{Got}
use Rattle.sw_frame.specs.Cutting.{next_of}
use Rattle.sw_frame.specs.declared.next.Next.{Next}
use Rattle.sw_frame.specs.declared.next.Next.TheVariants as next
use Rattle.sw_link.specs.declared.link.LinkWrite.{LinkWrite}
use Rattle.sw_link.specs.declared.link.LinkWrite.TheVariants as writing
use Rattle.sw_link.specs.Reads.{Read, GotPiece, ReadNotYet, ReadEnd, ReadFailed}
use Rattle.sw_conn.specs.declared.conn.Phase.{Phase}
use Rattle.sw_conn.specs.declared.conn.Phase.TheVariants.{Coming, Open, Closing}
use Rattle.sw_conn.specs.Causes.{is_hard, drops}
use Rattle.sw_conn.specs.Conn.{set_soft, set_hard, drop_packet}
use Rattle.sw_lists.specs.Lists.{collect, Each}
use Rattle.sw_lists.specs.Numbers.{Distinct}
use Rattle.sw_lists.proofs.Lists.{each_append, each_left, each_right, each_more}
use Rattle.sw_record.specs.Words.{Event, Connect, Packet, Closed, Finish, Task, Cause, ServerClose, ResetCause, Overflow, NoMemory}
use Rattle.sw_record.specs.Terms.{Terms, keeps}
use Rattle.sw_past.specs.Messages.{Message, FreshMsg, SendMsg, CloseMsg, ResetMsg, Bye, EventMsg, OverMsg, NoMore}
use Rattle.sw_past.specs.Past.{Mail}
use Rattle.sw_past.specs.Routes.{IsFair}
use Rattle.sw_join.specs.Laws.{Aim, Ending}
use Rattle.sw_reactor_table.specs.Conn.{Conn, Answers, Does, Pushes, Moves, Stays, Leaves, Served, fresh, sent, takes, stops, noted, holds, at_event, wrote, flushed_some, flushed, cleared, tidied, pushes, plain, starve, cutter, read_by, cut_by, cuts_next, closes, can_leave, end_by, cause_by, connects, held_by, serve, writes}
use Rattle.sw_reactor_table.specs.Reactor.{Reactor, Ask, Take, Push, Nothing, Rest, Finished, all, each_conn, settled, settled_msg, settled_push, settled_full, pushed_by, full_by, turned, rest_by, stayed, served_by, counted, ends_by, serves, chosen, started}
use Rattle.sw_reactor_table.specs.Quiet.{QuietLists, Quiet, ServedBy, ServedRight, IsOf, Grows, session_in, session_over}
use Rattle.sw_reactor_table.specs.Modes.{ModeLaws}
use Rattle.sw_reactor_table.specs.Runs.{Called, TookOne, FoundNone, PushedOne, CameBack, NoCall, Runs, First, Then}
use Rattle.sw_reactor_table.proofs.Lift.{perm_front, lists_perm, others_not, map_append, map_at}
use Rattle.sw_reactor_table.proofs.Serve.{serve_right}
use Rattle.sw_reactor_table.proofs.Turn.{started_quiet}
use Rattle.sw_reactor_table.proofs.Law.{call_quiet, call_fair, runs_quiet}
use Rattle.sw_reactor_laws.specs.Bounds.{MayNote, HeldMay, opened, IsSmall, CanNoteMsg, CanNote, InBounds}
use Rattle.sw_reactor_table.proofs.Everywhere.{if_each, each_all_conn, around}
use Rattle.sw_reactor_laws.proofs.Histories.{runs_listed}

-- what settles a message keeps it
small_takes : (t : Terms) (starved : Bool) (m : Message) (c : Conn) → IsSmall c → IsSmall (takes t starved m c)
small_takes t starved (FreshMsg ip s) c h = h
small_takes t starved (SendMsg s p) c h = if_each IsSmall (c.session == s) c (sent t starved p c) h (sends (is_hard c.cause) (nat_lt t.buffer_size (length c.unsent + length p)) starved)
  where
    sends : (x y z : Bool) → IsSmall (if x then c else (if y then record c { cause = Some (Overflow (length c.unsent + length p)) } else (if z then record c { cause = Some NoMemory } else record c { unsent = c.unsent ++ p })))
    sends true y z = h
    sends false true z = h
    sends false false true = h
    sends false false false = h
small_takes t starved (CloseMsg s) c h = if_each IsSmall (c.session == s) c (record c { cause = set_soft ServerClose c.cause }) h h
small_takes t starved (ResetMsg s) c h = if_each IsSmall (c.session == s) c (record c { cause = set_hard ResetCause c.cause }) h h
small_takes t starved (Bye s) c h = if_each IsSmall (c.session == s) c (record c { awaited = c.awaited - 1 }) h (h.0, (let g : c.awaited ≤ c.dispatched + opened c.phase = h.1 in omega arith), h.2)
small_takes t starved (EventMsg e) c h = h
small_takes t starved (OverMsg id) c h = h
small_takes t starved NoMore c h = h

small_fresh : (starved : Bool) (ip s : ℕ) → IsSmall (fresh starved ip s)
small_fresh starved ip s = (omega arith, omega arith, tt)

-- an event that may be noted
small_noted : (t : Terms) (e : Event) (c : Conn) → c.held ≡ None → IsSmall c → MayNote c.phase c.dispatched e → IsSmall (noted t e c)
small_noted t (Connect s) c free h may = (h.0, (let g : c.awaited ≤ c.dispatched + opened c.phase = h.1 in let k : opened c.phase ≡ 0 = ap opened may in up (keeps t.mode) (omega arith)), none)
  where
    up : (b : Bool) → c.awaited ≤ c.dispatched → (if b then c.awaited else c.awaited + 1) ≤ c.dispatched + 1
    up true g = omega arith
    up false g = omega arith

    none : HeldMay Open c.dispatched c.held
    none = subst (HeldMay Open c.dispatched) (sym free) tt
small_noted t (Packet s i b) c free h may = ((let g : c.dispatched < 2 ^ 64 - 1 = may in omega arith), up (keeps t.mode) h.1, subst (HeldMay c.phase (c.dispatched + 1)) (sym free) tt)
  where
    up : (x : Bool) → c.awaited ≤ c.dispatched + opened c.phase → (if x then c.awaited else c.awaited + 1) ≤ c.dispatched + 1 + opened c.phase
    up true g = omega arith
    up false g = omega arith
small_noted t (Closed s) c free h may = (h.0, (let g : c.awaited ≤ c.dispatched + opened c.phase = h.1 in let k : opened c.phase ≡ 1 = ap opened may in omega arith), subst (HeldMay Closing c.dispatched) (sym free) tt)
small_noted t (Finish id b) c free h may = absurd may
small_noted t (Task w id b) c free h may = absurd may

small_can : (m : ℕ) → m ≤ 2 ^ 64 - 1 + 2 → m < 2 ^ 128 - 1
small_can m h = omega (arith, h)

most_opened : (phase : Phase) → opened phase ≤ 2
most_opened Coming = omega arith
most_opened Open = omega arith
most_opened Closing = omega arith

can_note : (e : Event) (c : Conn) → IsSmall c → MayNote c.phase c.dispatched e → CanNoteMsg (EventMsg e) c
can_note (Connect s) c h may own = ((λ z. absurd (cc)), small_can c.awaited (let a : c.dispatched ≤ 2 ^ 64 - 1 = h.0 in let b : c.awaited ≤ c.dispatched + opened c.phase = h.1 in let d : opened c.phase ≤ 2 = most_opened c.phase in omega arith))
can_note (Packet s i b) c h may own = ((λ z. may), small_can c.awaited (let a : c.dispatched ≤ 2 ^ 64 - 1 = h.0 in let b : c.awaited ≤ c.dispatched + opened c.phase = h.1 in let d : opened c.phase ≤ 2 = most_opened c.phase in omega arith))
can_note (Closed s) c h may own = ((λ z. absurd (cc)), small_can c.awaited (let a : c.dispatched ≤ 2 ^ 64 - 1 = h.0 in let b : c.awaited ≤ c.dispatched + opened c.phase = h.1 in let d : opened c.phase ≤ 2 = most_opened c.phase in omega arith))
can_note (Finish id b) c h may own = absurd may
can_note (Task w id b) c h may own = absurd may

-- a serve
abbrev pub DoesSmall : Conn → Does → Type 0
DoesSmall c (Pushes w e) = (c.held ≡ None) × MayNote c.phase c.dispatched e
DoesSmall c Moves = Unit {0}
DoesSmall c Stays = Unit {0}
DoesSmall c (Leaves e) = Unit {0}

pub record SmallServed (v : Served) : Type 0 where
  pub conn : IsSmall v.conn
  pub does : DoesSmall v.conn v.does

small_pushes : (t : Terms) (a : Answers) (k : ℕ) (e : Event) (cuts : Bool) (c : Conn) → IsSmall c → c.held ≡ None → MayNote c.phase c.dispatched e → SmallServed (pushes t a k e cuts c)
small_pushes t a k e cuts c h free may = record { conn = small (t.mode == 5) (c.uid == 0); does = (held (t.mode == 5) (c.uid == 0), note (t.mode == 5) (c.uid == 0)) }
  where
    small : (x y : Bool) → IsSmall (if x then (if y then record c { uid = a.look; split = c.dispatched } else c) else c)
    small true true = h
    small true false = h
    small false y = h

    held : (x y : Bool) → ◌≡◌ {A = Option (ℕ × Event)} (if x then (if y then record c { uid = a.look; split = c.dispatched } else c) else c).held None
    held true true = free
    held true false = free
    held false y = free

    note : (x y : Bool) → MayNote (if x then (if y then record c { uid = a.look; split = c.dispatched } else c) else c).phase (if x then (if y then record c { uid = a.look; split = c.dispatched } else c) else c).dispatched e
    note true true = may
    note true false = may
    note false y = may

small_read : (starved : Bool) (r : Read) (c : Conn) → IsSmall c → SmallServed (read_by starved r c)
small_read starved (GotPiece p) c h = record { conn = h; does = tt }
small_read starved ReadNotYet c h = record { conn = h; does = tt }
small_read starved ReadEnd c h = record { conn = h; does = tt }
small_read starved ReadFailed c h = record { conn = h; does = tt }

small_cut : (t : Terms) (a : Answers) (k : ℕ) (x : Next) (c : Conn) → IsSmall c → c.held ≡ None → c.dispatched < 2 ^ 64 - 1 → SmallServed (cut_by t a k x c)
small_cut t a k (next.Packet b) c h free less = small_pushes t a k (Packet c.session c.dispatched b) true (record c { taken = c.taken + 1 }) h free less
small_cut t a k next.More c h free less = small_read a.feed_starved a.read c h
small_cut t a k (next.TooLong n) c h free less = record { conn = h; does = tt }
small_cut t a k (next.BadLength n) c h free less = record { conn = h; does = tt }
small_cut t a k next.OutOfMemory c h free less = record { conn = h; does = tt }

open_phase : (t : Terms) (phase : Phase) → connects t phase ≡ false → closes t phase ≡ true → phase ≡ Open
open_phase t Coming off on = absurd (let e : true ≡ false = sym on ∙ off in cc)
open_phase t Open off on = refl
open_phase t Closing off on = absurd (cc)

small_end : (t : Terms) (a : Answers) (k : ℕ) (e : Cause) (c : Conn) → IsSmall c → c.held ≡ None → connects t c.phase ≡ false → SmallServed (end_by t a k e c)
small_end t a k e c h free off = pick (closes t c.phase) refl (can_leave c)
  where
    pick : (b : Bool) → closes t c.phase ≡ b → (d : Bool) → SmallServed (if b then pushes t a k (Closed c.session) false c else plain c (if d then Leaves e else Stays))
    pick true on d = small_pushes t a k (Closed c.session) false c h free (open_phase t c.phase off on)
    pick false on true = record { conn = h; does = tt }
    pick false on false = record { conn = h; does = tt }

small_cause : (t : Terms) (a : Answers) (k : ℕ) (o : Option Cause) (c : Conn) → IsSmall c → c.held ≡ None → connects t c.phase ≡ false → SmallServed (cause_by t a k o c)
small_cause t a k None c h free off = pick (nat_lt c.dispatched (2 ^ 64 - 1)) refl
  where
    less : (n : ℕ) → nat_lt n (2 ^ 64 - 1) ≡ true → n < 2 ^ 64 - 1
    less n e = grind (arith, nat_tests)

    pick : (b : Bool) → nat_lt c.dispatched (2 ^ 64 - 1) ≡ b → SmallServed (if b then cuts_next t a k c else plain c Stays)
    pick true e = small_cut t a k (starve a.cut_starved (next_of (cutter t c))) c h free (less c.dispatched e)
    pick false e = record { conn = h; does = tt }
small_cause t a k (Some e) c h free off = small_end t a k e c h free off

coming_phase : (t : Terms) (phase : Phase) → connects t phase ≡ true → phase ≡ Coming
coming_phase t Coming e = refl
coming_phase t Open e = absurd (cc)
coming_phase t Closing e = absurd (cc)

small_held : (t : Terms) (a : Answers) (k : ℕ) (o : Option (ℕ × Event)) (c : Conn) → c.held ≡ o → IsSmall c → SmallServed (held_by t a k o c)
small_held t a k (Some x) c e h = record { conn = (h.0, h.1, tt); does = (refl, subst (HeldMay c.phase c.dispatched) e h.2) }
small_held t a k None c e h = pick (connects t c.phase) refl
  where
    pick : (b : Bool) → connects t c.phase ≡ b → SmallServed (if b then pushes t a k (Connect c.session) false c else cause_by t a k c.cause c)
    pick true on = small_pushes t a k (Connect c.session) false c h e (coming_phase t c.phase on)
    pick false off = small_cause t a k c.cause c h e off

small_flushed : (w : LinkWrite) (c : Conn) → IsSmall c → IsSmall (flushed w c)
small_flushed w c h = pick (is_hard c.cause)
  where
    written : (v : LinkWrite) → IsSmall (wrote v c)
    written (writing.Took k) = h
    written writing.NotYet = h
    written writing.Failed = h

    some : (us : List ℕ) → IsSmall (flushed_some w us c)
    some [] = h
    some (b ∷ bs) = written w

    pick : (x : Bool) → IsSmall (if x then c else flushed_some w c.unsent c)
    pick true = h
    pick false = some c.unsent

small_drop : (phase : Phase) (n : ℕ) (o : Option (ℕ × Event)) → HeldMay phase n o → HeldMay phase n (drop_packet o)
small_drop phase n None h = tt
small_drop phase n (Some (w, Connect s)) h = h
small_drop phase n (Some (w, Packet s i b)) h = tt
small_drop phase n (Some (w, Closed s)) h = h
small_drop phase n (Some (w, Finish id b)) h = h
small_drop phase n (Some (w, Task v id b)) h = h

small_cleared : (c : Conn) → IsSmall c → IsSmall (cleared c)
small_cleared c h = (h.0, h.1, pick (drops c.cause))
  where
    pick : (b : Bool) → HeldMay c.phase c.dispatched (if b then drop_packet c.held else c.held)
    pick true = small_drop c.phase c.dispatched c.held h.2
    pick false = h.2

small_serve : (t : Terms) (a : Answers) (k : ℕ) (c : Conn) → IsSmall c → SmallServed (serve t a k c)
small_serve t a k c h = small_held t a k (tidied a c).held (tidied a c) refl (small_cleared (flushed a.write c) (small_flushed a.write c h))

-- the list
abbrev pub AllSmall : Reactor → Type 0
AllSmall r = Each IsSmall (all r)

small_msg : (t : Terms) (starved : Bool) (m : Message) (r : Reactor) → AllSmall r → AllSmall (settled_msg t starved m r)
small_msg t starved (FreshMsg ip u) r h = subst (Each IsSmall) (append_assoc r.done r.next (fresh starved ip u ∷ [])) (each_append IsSmall (all r) (fresh starved ip u ∷ []) h (small_fresh starved ip u, tt))
small_msg t starved (SendMsg u p) r h = each_all_conn IsSmall IsSmall (takes t starved (SendMsg u p)) (small_takes t starved (SendMsg u p)) r h
small_msg t starved (CloseMsg u) r h = each_all_conn IsSmall IsSmall (takes t starved (CloseMsg u)) (small_takes t starved (CloseMsg u)) r h
small_msg t starved (ResetMsg u) r h = each_all_conn IsSmall IsSmall (takes t starved (ResetMsg u)) (small_takes t starved (ResetMsg u)) r h
small_msg t starved (Bye u) r h = each_all_conn IsSmall IsSmall (takes t starved (Bye u)) (small_takes t starved (Bye u)) r h
small_msg t starved (EventMsg e) r h = h
small_msg t starved (OverMsg id) r h = h
small_msg t starved NoMore r h = h

-- where a pipe call is asked for, whatever the pipe answers
abbrev pub SmallBy : Terms → Reactor → Ask → Type 0
SmallBy t r (Push w m) = AllSmall (settled_push t m r) × AllSmall (settled_full w m r) × Each (CanNoteMsg m) (all r)
SmallBy t r Take = AllSmall r
SmallBy t r Nothing = AllSmall r
SmallBy t r Rest = AllSmall r
SmallBy t r Finished = AllSmall r

abbrev pub SmallAfter : Terms → Reactor → Type 0
SmallAfter t r = SmallBy t r r.last

turned_small : (P : Conn → Type 0) (done cs : List Conn) (r : Reactor) → Each P (done ++ cs) → Each P (all (turned done cs r))
turned_small P done [] r h = subst (Each P) (append-nil done) h
turned_small P done (c ∷ cs) r h = h

turned_event : (P : Conn → Type 0) (f : Conn → Conn) (done cs : List Conn) (r : Reactor) (ask : Ask) → Each P (map f (done ++ cs)) → Each P (all (each_conn f (record (turned done cs r) { last = ask; still = 0 })))
turned_event P f done [] r ask q = subst (λ (ds : List Conn). Each P (map f ds)) (append-nil done) q
turned_event P f done (c ∷ cs) r ask q = subst (Each P) (map_append f done (c ∷ cs)) q

served_small : (t : Terms) (a : Answers) (moved : Bool) (c d : Conn) (cs : List Conn) (o : Does) (r : Reactor) → Each (λ (b : Conn). ¬ (b.session ≡ d.session)) (r.done ++ cs) → ((w : ℕ) (e : Event) → o ≡ Pushes w e → IsOf d.session e) → Each IsSmall (r.done ++ c ∷ cs) → IsSmall d → DoesSmall d o → SmallAfter t (served_by t a moved cs d o r)
served_small t a moved c d cs (Pushes w e) r others own h s g = (
  turned_event IsSmall (at_event (noted t e) e) (r.done ++ d ∷ []) cs r (Push w (EventMsg e)) (placed (noted t e) (small_noted t e d g.0 s g.1)),
  turned_event IsSmall (at_event (holds w e) e) (r.done ++ d ∷ []) cs r (Push w (EventMsg e)) (placed (holds w e) (s.0, s.1, g.1)),
  turned_small (CanNoteMsg (EventMsg e)) (r.done ++ d ∷ []) cs r (notes r.done cs others),
)
  where
    placed : (f : Conn → Conn) → IsSmall (f d) → Each IsSmall (map (at_event f e) ((r.done ++ d ∷ []) ++ cs))
    placed f x =
        subst (λ (ds : List Conn). Each IsSmall (map (at_event f e) ds)) (sym (append_assoc r.done (d ∷ []) cs))
        (subst (Each IsSmall) (sym (map_at f e r.done d cs (own w e refl) others)) (each_append IsSmall r.done (f d ∷ cs) (each_left IsSmall r.done (c ∷ cs) h) (x, (each_right IsSmall r.done (c ∷ cs) h).1)))

    apart : (b : Conn) → ¬ (b.session ≡ d.session) → CanNoteMsg (EventMsg e) b
    apart b other of = absurd (other (same b.session d.session e of (own w e refl)))
      where
        same : (m n : ℕ) (x : Event) → IsOf m x → IsOf n x → m ≡ n
        same m n (Connect u) p q = sym p ∙ q
        same m n (Packet u i z) p q = sym p ∙ q
        same m n (Closed u) p q = sym p ∙ q
        same m n (Finish id z) p q = absurd p
        same m n (Task v id z) p q = absurd p

    notes : (done cs : List Conn) → Each (λ (b : Conn). ¬ (b.session ≡ d.session)) (done ++ cs) → Each (CanNoteMsg (EventMsg e)) ((done ++ d ∷ []) ++ cs)
    notes [] cs k = (can_note e d s g.1, each_more (λ (b : Conn). ¬ (b.session ≡ d.session)) (CanNoteMsg (EventMsg e)) cs apart k)
    notes (b ∷ done) cs k = (apart b k.0, notes done cs k.1)
served_small t a moved c d cs Moves r others own h s g = turned_small IsSmall (r.done ++ d ∷ []) cs r (around IsSmall IsSmall r.done cs c d (λ b k. k) h s).0
served_small t a moved c d cs Stays r others own h s g = pick moved
  where
    here : Each IsSmall (all (turned (r.done ++ d ∷ []) cs r))
    here = turned_small IsSmall (r.done ++ d ∷ []) cs r (around IsSmall IsSmall r.done cs c d (λ b k. k) h s).0

    rests : (m : ℕ) (b : Bool) → SmallAfter t (record (turned (r.done ++ d ∷ []) cs r) { still = m; last = rest_by b })
    rests m true = here
    rests m false = here

    pick : (b : Bool) → SmallAfter t (if b then record (turned (r.done ++ d ∷ []) cs r) { last = Nothing; still = 0 } else stayed (length (r.done ++ d ∷ cs)) (turned (r.done ++ d ∷ []) cs r))
    pick true = here
    pick false = rests ((turned (r.done ++ d ∷ []) cs r).still + 1) _
served_small t a moved c d cs (Leaves e) r others own h s g = turned_small IsSmall r.done cs r (around IsSmall IsSmall r.done cs c d (λ b k. k) h s).1

ends_small : (t : Terms) (r : Reactor) → AllSmall r → SmallAfter t (ends_by t r)
ends_small t r h = pick (nat_lt 0 r.ends) (nat_lt r.given t.worker_num) (r.ends == 1 + t.worker_num + t.tasker_num)
  where
    any : (cs : List Conn) → Each (CanNoteMsg NoMore) cs
    any [] = tt
    any (c ∷ cs) = (tt, any cs)

    pick : (x y z : Bool) → SmallAfter t (if x then (if y then record r { last = Push r.given NoMore } else (if z then record r { last = Finished } else record r { last = Rest })) else record r { last = Rest })
    pick true true z = (h, h, any (all r))
    pick true false true = h
    pick true false false = h
    pick false y z = h

serves_small : (t : Terms) (a : Aim) (w : Ending) (ans : Answers) → 0 < t.worker_num → Grows t → ((j : ℕ) → ans.idle ≡ Some j → j < t.worker_num) → (n : ℕ) (took pushed : Mail) (r : Reactor) → Quiet t a w n took pushed r → AllSmall r → (next : List Conn) → r.next ≡ next → SmallAfter t (serves t ans next r)
serves_small t a w ans some grows idle n took pushed r q x [] e = ends_small t r x
serves_small t a w ans some grows idle n took pushed r q x (c ∷ cs) e =
    let v : Served = serve t ans r.round c in
    let lists : QuietLists t a w n took pushed (r.done ++ c ∷ cs) r.over = subst (λ (ds : List Conn). QuietLists t a w n took pushed (r.done ++ ds) r.over) e q in
    let front : QuietLists t a w n took pushed (c ∷ (r.done ++ cs)) r.over = lists_perm t a w n took pushed (r.done ++ c ∷ cs) (c ∷ (r.done ++ cs)) r.over (perm_front c r.done cs) lists in
    let right : ServedRight t n took pushed c.session v = serve_right t n took pushed ans r.round c some idle grows front.conns.0 in
    let others : Each (λ (b : Conn). ¬ (b.session ≡ v.conn.session)) (r.done ++ cs) = others_not v.conn.session (r.done ++ cs) (subst (λ (z : ℕ). Each (λ k. ¬ (z ≡ k)) (collect session_in (r.done ++ cs))) (sym right.session) (each_left (λ k. ¬ (c.session ≡ k)) (collect session_in (r.done ++ cs)) (collect session_over r.over) front.distinct.0)) in
    let here : Each IsSmall (r.done ++ c ∷ cs) = subst (λ (ds : List Conn). Each IsSmall (r.done ++ ds)) e x in
    let s : SmallServed v = small_serve t ans r.round c (each_right IsSmall r.done (c ∷ cs) here).0 in
    served_small t ans (writes ans.write c) c v.conn cs v.does (record r { round = counted v.cuts r.round }) others (λ u y f. own_push v u y right f) here s.conn s.does
  where
    own_push : (v : Served) (u : ℕ) (y : Event) → ServedRight t n took pushed c.session v → v.does ≡ Pushes u y → IsOf v.conn.session y
    own_push v u y right f = (subst (ServedBy t n took pushed v.conn) f right.does).0

takes_small : (t : Terms) (r : Reactor) → AllSmall r → (b : Bool) → SmallAfter t (record (if b then each_conn stops r else r) { last = Take })
takes_small t r h true = each_all_conn IsSmall IsSmall stops (λ c k. k) r h
takes_small t r h false = h

chosen_small : (t : Terms) (a : Aim) (w : Ending) (ans : Answers) → 0 < t.worker_num → Grows t → ((j : ℕ) → ans.idle ≡ Some j → j < t.worker_num) → (n : ℕ) (took pushed : Mail) (r : Reactor) → Quiet t a w n took pushed r → AllSmall r → (ask : Ask) → SmallAfter t (chosen t ans ask r)
chosen_small t a w ans some grows idle n took pushed r q x Take = serves_small t a w ans some grows idle n took pushed r q x r.next refl
chosen_small t a w ans some grows idle n took pushed r q x (Push v m) = takes_small t r x ans.stop
chosen_small t a w ans some grows idle n took pushed r q x Nothing = takes_small t r x ans.stop
chosen_small t a w ans some grows idle n took pushed r q x Rest = takes_small t r x ans.stop
chosen_small t a w ans some grows idle n took pushed r q x Finished = takes_small t r x ans.stop

call_small : (t : Terms) (r : Reactor) (took pushed later more : Mail) (got : Got Message) → Called r took pushed later more got → SmallAfter t r → (starved : Bool) → AllSmall (settled t starved got r)
call_small t r took pushed _ _ _ (TookOne e from m) x starved = small_msg t starved m (record r { empty = false }) (subst (SmallBy t r) e x)
call_small t r took pushed _ _ _ (FoundNone e) x starved = subst (SmallBy t r) e x
call_small t r took pushed _ _ _ (PushedOne w m e) x starved = subst (λ (k : Ask). AllSmall (pushed_by t k r)) (sym e) (subst (SmallBy t r) e x).0
call_small t r took pushed _ _ _ (CameBack w m e) x starved = subst (λ (k : Ask). AllSmall (full_by k m r)) (sym e) (subst (SmallBy t r) e x).1
call_small t r took pushed _ _ _ (NoCall (inl e)) x starved = subst (SmallBy t r) e x
call_small t r took pushed _ _ _ (NoCall (inr e)) x starved = subst (SmallBy t r) e x

runs_small : (t : Terms) (a : Aim) (w : Ending) → ModeLaws t a w → (word : ℕ → ℕ) → 0 < t.worker_num → Grows t → (n : ℕ) → n < t.reactor_num → (took pushed : Mail) (r : Reactor) → Runs t word took pushed r → IsFair t n took → SmallAfter t r
runs_small t a w m word some grows n small _ _ _ (First starved ans faith) f = chosen_small t a w ans some grows faith.idle n [] [] started (started_quiet t a w n) tt started.last
runs_small t a w m word some grows n small _ _ _ (Then {took = took} {pushed = pushed} {r = r} before later more got call starved ans faith) f =
    let old : IsFair t n took = call_fair t n r took pushed later more got call f in
    chosen_small t a w ans some grows faith.idle n later more (settled t starved got r)
    (call_quiet t a w n r took pushed later more got call f (runs_quiet t a w m word some grows n small took pushed r before old) starved)
    (call_small t r took pushed later more got call (runs_small t a w m word some grows n small took pushed r before old) starved) r.last

notes_by : (t : Terms) (r : Reactor) (ask : Ask) → SmallBy t r ask → Each (CanNote ask) (all r)
notes_by t r Take x = any (all r)
  where
    any : (cs : List Conn) → Each (CanNote Take) cs
    any [] = tt
    any (c ∷ cs) = (tt, any cs)
notes_by t r (Push w m) x = x.2
notes_by t r Nothing x = any (all r)
  where
    any : (cs : List Conn) → Each (CanNote Nothing) cs
    any [] = tt
    any (c ∷ cs) = (tt, any cs)
notes_by t r Rest x = any (all r)
  where
    any : (cs : List Conn) → Each (CanNote Rest) cs
    any [] = tt
    any (c ∷ cs) = (tt, any cs)
notes_by t r Finished x = any (all r)
  where
    any : (cs : List Conn) → Each (CanNote Finished) cs
    any [] = tt
    any (c ∷ cs) = (tt, any cs)

-- between turns
pub runs_in_bounds : (t : Terms) (a : Aim) (w : Ending) → ModeLaws t a w → (word : ℕ → ℕ) → 0 < t.worker_num → Grows t → (n : ℕ) → n < t.reactor_num → (took pushed : Mail) (r : Reactor) → Runs t word took pushed r → IsFair t n took → InBounds r
runs_in_bounds t a w m word some grows n small took pushed r run fair =
    record {
      distinct = left_distinct (collect session_in (all r)) (collect session_over r.over) (runs_listed t a w m word some grows n small took pushed r run fair).distinct;
      notes = notes_by t r r.last (runs_small t a w m word some grows n small took pushed r run fair);
    }
  where
    left_distinct : (xs ys : List ℕ) → Distinct (xs ++ ys) → Distinct xs
    left_distinct [] ys h = tt
    left_distinct (x ∷ xs) ys h = (each_left (λ m. ¬ (x ≡ m)) xs ys h.0, left_distinct xs ys h.1)
