-- A serve of one connection keeps it quiet: whatever the ports answer, and whatever the pipe answers to its push.
use Rattle.std.proofs.Common.{◌≡◌, ◌⊎◌, ℕ, ◌+◌, ◌-◌, ◌<◌, ◌≤◌, ◌%◌, ◌^◌, ◌==◌, Bool, true, false, nat_lt, if◌then◌else◌, List, [], ◌∷◌, ◌++◌, length, slice_get, refl, ap, ◌∙◌, sym, subst, append-nil, arith, Option, Some, None, inl, inr, zero, suc}
use Rattle.std.proofs.lemmas.Bool.Decides.{nat_tests}
use Rattle.std.proofs.Math.Nat.{mod-lt}
use Rattle.sw_conn.specs.declared.conn.Phase.{Phase}
use Rattle.sw_conn.specs.declared.conn.Phase.TheVariants.{Coming, Open, Closing}
use Rattle.sw_link.specs.declared.link.LinkWrite.{LinkWrite}
use Rattle.sw_link.specs.Reads.{Read, GotPiece, ReadNotYet, ReadEnd, ReadFailed}
use Rattle.sw_conn.specs.Modes.{bound}
use Rattle.sw_conn.specs.Causes.{hard, is_hard, drops}
use Rattle.sw_conn.specs.Conn.{drop_packet, has_unsent}
use Rattle.sw_link.specs.declared.link.LinkWrite.TheVariants as writing
use Rattle.sw_frame.specs.declared.next.Next.TheVariants as next
use Rattle.sw_lists.specs.Lists.{collect}
use Rattle.sw_lists.proofs.Lists.{eq_same, eq_is, length_append}
use Rattle.sw_step.specs.declared.actor.ActorId.TheVariants.{Worker}
use Rattle.sw_record.specs.Words.{Event, Connect, Packet, Closed, Finish, Task, Cause, PeerEnd, ReadFault, WriteFault, TooLong, BadLength, NoMemory}
use Rattle.sw_record.specs.Terms.{Terms, keeps, reactor_of, packets_cut}
use Rattle.sw_record.specs.Logs.{of_session}
use Rattle.sw_record.specs.Order.{target, side}
use Rattle.sw_past.specs.Messages.{EventMsg}
use Rattle.sw_past.specs.Past.{Mail, bare}
use Rattle.sw_past.specs.Views.{due, due_in}
use Rattle.sw_reactor_table.specs.Conn.{cuts_next, starve, Conn, Answers, noted, wrote, flushed_some, flushed, cleared, Pushes, Stays, Leaves, sees, idle_or, place, pushes, plain, read_by, cut_by, closes, can_leave, end_by, cause_by, connects, open_by, held_by, tidied, serve}
use Rattle.sw_reactor_table.specs.Quiet.{IsCaused, Flows, Tale, FlowsOf, TaleOf, HeldOf, ReadyOf, HasCause, IsPhase, IsNext, IsHeld, IsSided, QuietConn, IsOf, ServedBy, ServedRight, IsIdle, Grows, dues, side_of}
use Rattle.sw_reactor_table.proofs.Flow.{more_of, flow_soft, flow_hard, flow_dues, flow_wrote}
use Rattle.sw_reactor_table.proofs.Tale.{tale_push, tale_cause, held_cause, held_drop, tale_piece, tale_taken, tale_sees, next_of_session, own_event}
use Rattle.sw_reactor_table.proofs.Settle.{hard_now}
use Rattle.sw_frame.specs.Cutting.{next_by, next_rest}
use Rattle.sw_frame.specs.Cut.{cut}
use Rattle.sw_cut.specs.declared.First.{First}
use Rattle.sw_cut.specs.declared.First.TheVariants as first

-- as many events that await a Bye
due_length : (t : Terms) (s : ℕ) (e : Event) → IsOf s e → length (due_in t s (EventMsg e)) ≤ 1
due_length t s (Connect u) q = (let k : due_in t s (EventMsg (Connect u)) ≡ (if keeps t.mode then [] else Connect u ∷ []) = append-nil (due t s (Connect u)) ∙ ap (λ es. if keeps t.mode then [] else es) (own_event s (Connect u) q) in subst (λ es. length es ≤ 1) (sym k) (most (keeps t.mode)))
  where
    most : (b : Bool) → length (if b then [] else Connect u ∷ []) ≤ 1
    most true = omega arith
    most false = omega arith
due_length t s (Packet u i b) q = (let k : due_in t s (EventMsg (Packet u i b)) ≡ (if keeps t.mode then [] else Packet u i b ∷ []) = append-nil (due t s (Packet u i b)) ∙ ap (λ es. if keeps t.mode then [] else es) (own_event s (Packet u i b) q) in subst (λ es. length es ≤ 1) (sym k) (most (keeps t.mode)))
  where
    most : (c : Bool) → length (if c then [] else Packet u i b ∷ []) ≤ 1
    most true = omega arith
    most false = omega arith
due_length t s (Closed u) q = (let k : due_in t s (EventMsg (Closed u)) ≡ Closed u ∷ [] = append-nil (due t s (Closed u)) ∙ own_event s (Closed u) q in subst (λ es. length es ≤ 1) (sym k) (omega arith))
due_length t s (Finish id b) q = absurd q
due_length t s (Task w id b) q = absurd q

due_none : (t : Terms) (s : ℕ) (e : Event) → (es : List Event) → due t s e ≡ (if keeps t.mode then [] else es) → keeps t.mode ≡ true → length (due_in t s (EventMsg e)) ≡ 0
due_none t s e es q k = ap length (append-nil (due t s e) ∙ q ∙ ap (λ (b : Bool). if b then [] else es) k)

more_dues : (t : Terms) (s : ℕ) (pushed : Mail) (w : ℕ) (e : Event) → dues t s (pushed ++ (Worker w, EventMsg e) ∷ []) ≡ dues t s pushed + length (due_in t s (EventMsg e))
more_dues t s pushed w e = ap length (more_of (due_in t s) pushed (Worker w, EventMsg e)) ∙ length_append (collect (due_in t s) (bare pushed)) (due_in t s (EventMsg e))

-- an event that was pushed and noted
count_in : (t : Terms) (s a : ℕ) (e : Event) → length (due_in t s (EventMsg e)) ≤ 1 → (keeps t.mode ≡ true → length (due_in t s (EventMsg e)) ≡ 0) → length (due_in t s (EventMsg e)) + a ≤ (if keeps t.mode then a else a + 1)
count_in t s a e most none = pick (keeps t.mode) refl
  where
    pick : (b : Bool) → keeps t.mode ≡ b → length (due_in t s (EventMsg e)) + a ≤ (if b then a else a + 1)
    pick true k = (let z : length (due_in t s (EventMsg e)) ≡ 0 = none k in omega arith)
    pick false k = omega arith

noted_quiet : (t : Terms) (n : ℕ) (took pushed : Mail) (c : Conn) (w : ℕ) (e : Event) → c.held ≡ None → n ≡ reactor_of t c.session → FlowsOf t c took (dues t c.session pushed) → TaleOf t c pushed → ReadyOf t c w e → QuietConn t n took (pushed ++ (Worker w, EventMsg e) ∷ []) (noted t e c)
noted_quiet t n took pushed c w (Connect u) free home f a r =
    let s : ℕ = c.session in
    let more : dues t s (pushed ++ (Worker w, EventMsg (Connect u)) ∷ []) ≡ dues t s pushed + length (due_in t s (EventMsg (Connect u))) = more_dues t s pushed w (Connect u) in
    let most : length (due_in t s (EventMsg (Connect u))) + c.awaited ≤ (if keeps t.mode then c.awaited else c.awaited + 1) = count_in t s c.awaited (Connect u) (due_length t s (Connect u) r.is_next.0) (due_none t s (Connect u) (of_session s (Connect u)) refl) in
    record {
      home = home;
      flows = flow_dues t c.ip s c.cause c.written c.unsent c.awaited (dues t s pushed) (if keeps t.mode then c.awaited else c.awaited + 1) (dues t s (pushed ++ (Worker w, EventMsg (Connect u)) ∷ [])) took f (omega arith);
      tale = tale_push t c.ip s c.uid c.split c.pieces c.taken c.dispatched c.cause c.phase pushed a w (Connect u) r;
      held = subst (λ (h : Option (ℕ × Event)). IsHeld t c.ip s c.uid c.split c.pieces c.taken c.dispatched c.cause Open h) (sym free) r.is_next.3;
    }
noted_quiet t n took pushed c w (Packet u i b) free home f a r =
    let s : ℕ = c.session in
    let more : dues t s (pushed ++ (Worker w, EventMsg (Packet u i b)) ∷ []) ≡ dues t s pushed + length (due_in t s (EventMsg (Packet u i b))) = more_dues t s pushed w (Packet u i b) in
    let most : length (due_in t s (EventMsg (Packet u i b))) + c.awaited ≤ (if keeps t.mode then c.awaited else c.awaited + 1) = count_in t s c.awaited (Packet u i b) (due_length t s (Packet u i b) r.is_next.0) (due_none t s (Packet u i b) (of_session s (Packet u i b)) refl) in
    record {
      home = home;
      flows = flow_dues t c.ip s c.cause c.written c.unsent c.awaited (dues t s pushed) (if keeps t.mode then c.awaited else c.awaited + 1) (dues t s (pushed ++ (Worker w, EventMsg (Packet u i b)) ∷ [])) took f (omega arith);
      tale = tale_push t c.ip s c.uid c.split c.pieces c.taken c.dispatched c.cause c.phase pushed a w (Packet u i b) r;
      held = subst (λ (h : Option (ℕ × Event)). IsHeld t c.ip s c.uid c.split c.pieces c.taken (c.dispatched + 1) c.cause c.phase h) (sym free) (λ z. r.is_next.5);
    }
noted_quiet t n took pushed c w (Closed u) free home f a r =
    let s : ℕ = c.session in
    let more : dues t s (pushed ++ (Worker w, EventMsg (Closed u)) ∷ []) ≡ dues t s pushed + length (due_in t s (EventMsg (Closed u))) = more_dues t s pushed w (Closed u) in
    let most : length (due_in t s (EventMsg (Closed u))) ≤ 1 = due_length t s (Closed u) r.is_next.0 in
    record {
      home = home;
      flows = flow_dues t c.ip s c.cause c.written c.unsent c.awaited (dues t s pushed) (c.awaited + 1) (dues t s (pushed ++ (Worker w, EventMsg (Closed u)) ∷ [])) took f (omega arith);
      tale = tale_push t c.ip s c.uid c.split c.pieces c.taken c.dispatched c.cause c.phase pushed a w (Closed u) r;
      held = subst (λ (h : Option (ℕ × Event)). IsHeld t c.ip s c.uid c.split c.pieces c.taken c.dispatched c.cause Closing h) (sym free) (λ z. absurd (let k : Some r.is_next.3.0 ≡ None = sym r.is_next.3.1 ∙ z in cc));
    }
noted_quiet t n took pushed c w (Finish id b) free home f a r = absurd r.is_next
noted_quiet t n took pushed c w (Task v id b) free home f a r = absurd r.is_next

push_right : (t : Terms) (n : ℕ) (took pushed : Mail) (c : Conn) (w : ℕ) (e : Event) → c.held ≡ None → n ≡ reactor_of t c.session → FlowsOf t c took (dues t c.session pushed) → TaleOf t c pushed → ReadyOf t c w e → ServedBy t n took pushed c (Pushes w e)
push_right t n took pushed c w e free home f a r =
    (next_of_session t c.session c.pieces c.taken c.dispatched c.cause c.phase e r.is_next, r.worker, noted_quiet t n took pushed c w e free home f a r, record { home = home; flows = f; tale = a; held = r })

-- where it is pushed
mod_most : (t : Terms) (k : ℕ) → 0 < t.worker_num → k % t.worker_num < t.worker_num
mod_most t k h = mod-lt k h

pub place_below : (t : Terms) (a : Answers) (k : ℕ) (c : Conn) → 0 < t.worker_num → IsIdle t a → place t a k c < t.worker_num
place_below t a k c some idle = pick (keeps t.mode) (t.mode == 4) (t.mode == 5) (c.uid == 0) (t.mode == 3)
  where
    idle_below : (o : Option ℕ) → a.idle ≡ o → idle_or o (k % t.worker_num) < t.worker_num
    idle_below None e = mod_most t k some
    idle_below (Some j) e = idle j e

    pick : (x y z u v : Bool) → (if x then (if y then c.ip % t.worker_num else (c.session % t.max_conn) % t.worker_num) else (if z then (if u then (c.session % t.max_conn) % t.worker_num else c.uid % t.worker_num) else (if v then idle_or a.idle (k % t.worker_num) else k % t.worker_num))) < t.worker_num
    pick true true z u v = mod_most t c.ip some
    pick true false z u v = mod_most t (c.session % t.max_conn) some
    pick false y true true v = mod_most t (c.session % t.max_conn) some
    pick false y true false v = mod_most t c.uid some
    pick false y false u true = idle_below a.idle refl
    pick false y false u false = mod_most t k some

place_kept : (t : Terms) (a : Answers) (k : ℕ) (c : Conn) → keeps t.mode ≡ true → place t a k c ≡ target t c.session c.ip
place_kept t a k c e = rw e refl

five_keeps : (m : ℕ) → m ≡ 5 → keeps m ≡ false
five_keeps m e = subst (λ (x : ℕ). keeps x ≡ false) (sym e) refl

place_five : (t : Terms) (a : Answers) (k : ℕ) (c : Conn) → t.mode ≡ 5 → place t a k c ≡ side t c.session c.uid
place_five t a k c e = rw (five_keeps t.mode e, eq_same t.mode 5 e) refl

side_now : (t : Terms) (s uid split i : ℕ) → split ≤ i → side_of t s uid split i ≡ side t s uid
side_now t s uid split i h = pick (uid == 0) refl
  where
    late : nat_lt i split ≡ false
    late = grind (arith, nat_tests)

    pick : (b : Bool) → (uid == 0) ≡ b → (if b then side t s 0 else (if nat_lt i split then side t s 0 else side t s uid)) ≡ side t s uid
    pick true e = ap (side t s) (sym (eq_is uid 0 e))
    pick false e = rw late refl

sided_now : (t : Terms) (a : Answers) (k : ℕ) (c : Conn) (e : Event) → t.mode ≡ 5 → c.split ≤ c.dispatched → IsNext t c.session c.pieces c.taken c.dispatched c.cause c.phase e → IsSided t c.session c.uid c.split (Worker (place t a k c)) e
sided_now t a k c (Connect u) five h q = tt
sided_now t a k c (Packet u i b) five h q = ap Worker (place_five t a k c five ∙ sym (side_now t c.session c.uid c.split i (subst (λ (m : ℕ). c.split ≤ m) (sym q.1) h)))
sided_now t a k c (Closed u) five h q = tt
sided_now t a k c (Finish id b) five h q = tt
sided_now t a k c (Task w id b) five h q = tt

ready_at : (t : Terms) (a : Answers) (k : ℕ) (c : Conn) (e : Event) → 0 < t.worker_num → IsIdle t a → c.split ≤ c.dispatched → IsNext t c.session c.pieces c.taken c.dispatched c.cause c.phase e → ReadyOf t c (place t a k c) e
ready_at t a k c e some idle h q =
    record { worker = place_below t a k c some idle; aimed = ((λ kept. ap Worker (place_kept t a k c kept)), (λ five. sided_now t a k c e five h q)); is_next = q }

-- the next event, with the look of mode 5
pushes_right : (t : Terms) (n : ℕ) (took pushed : Mail) (a : Answers) (k : ℕ) (e : Event) (cuts : Bool) (c : Conn) → 0 < t.worker_num → IsIdle t a → c.held ≡ None → n ≡ reactor_of t c.session → FlowsOf t c took (dues t c.session pushed) → TaleOf t c pushed → IsNext t c.session c.pieces c.taken c.dispatched c.cause c.phase e → ServedRight t n took pushed c.session (pushes t a k e cuts c)
pushes_right t n took pushed a k e cuts c some idle free home f tale q = record { session = same (t.mode == 5) (c.uid == 0); does = pick (t.mode == 5) }
  where
    same : (x y : Bool) → ◌≡◌ {A = ℕ} (if x then (if y then record c { uid = a.look; split = c.dispatched } else c) else c).session c.session
    same true true = refl
    same true false = refl
    same false y = refl

    stays : ServedBy t n took pushed c (Pushes (place t a k c) e)
    stays = push_right t n took pushed c (place t a k c) e free home f tale (ready_at t a k c e some idle tale.seen q)

    look : (y : Bool) → (c.uid == 0) ≡ y → ServedBy t n took pushed (if y then record c { uid = a.look; split = c.dispatched } else c) (Pushes (place t a k (if y then record c { uid = a.look; split = c.dispatched } else c)) e)
    look true z =
        (let d : Conn = record c { uid = a.look; split = c.dispatched } in
        let tale2 : TaleOf t d pushed = tale_sees t c.ip c.session c.uid c.split c.pieces c.taken c.dispatched c.cause c.phase pushed tale (eq_is c.uid 0 z) a.look in
        push_right t n took pushed d (place t a k d) e free home f tale2 (ready_at t a k d e some idle tale2.seen q))
    look false z = stays

    pick : (x : Bool) → ServedBy t n took pushed (if x then sees a.look c else c) (Pushes (place t a k (if x then sees a.look c else c)) e)
    pick true = look (c.uid == 0) refl
    pick false = stays

-- causes that a serve finds
soft_now : (t : Terms) (n : ℕ) (took pushed : Mail) (c : Conn) (e : Cause) → QuietConn t n took pushed c → c.cause ≡ None → hard e ≡ false → c.dispatched ≡ length (packets_cut t c.pieces) → IsCaused c.session (Some e) took → QuietConn t n took pushed (record c { cause = Some e })
soft_now t n took pushed c e q none h w y =
    record {
      home = q.home;
      flows = flow_soft t c.ip c.session c.cause (Some e) c.written c.unsent c.awaited (dues t c.session pushed) took q.flows (ap is_hard none) h y;
      tale = tale_cause t c.ip c.session c.uid c.split c.pieces c.taken c.dispatched c.cause (Some e) c.phase pushed q.tale (e, refl) (λ d r all. w);
      held = held_cause t c.ip c.session c.uid c.split c.pieces c.taken c.dispatched c.cause (Some e) c.phase c.held (e, refl) q.held;
    }

none_now : (t : Terms) (n : ℕ) (took pushed : Mail) (c : Conn) → QuietConn t n took pushed c → c.cause ≡ None → QuietConn t n took pushed (record c { cause = None })
none_now t n took pushed c q none =
    record {
      home = q.home;
      flows = subst (λ (z : Option Cause). Flows t c.ip c.session z c.written c.unsent c.awaited took (dues t c.session pushed)) none q.flows;
      tale = subst (λ (z : Option Cause). Tale t c.ip c.session c.uid c.split c.pieces c.taken c.dispatched z c.phase pushed) none q.tale;
      held = subst (λ (z : Option Cause). IsHeld t c.ip c.session c.uid c.split c.pieces c.taken c.dispatched z c.phase c.held) none q.held;
    }

past_end : (xs : List (List ℕ)) (i : ℕ) → slice_get xs i ≡ None → length xs ≤ i
past_end [] i e = omega arith
past_end (x ∷ xs) zero e = absurd (cc)
past_end (x ∷ xs) (suc i) e = (let h : length xs ≤ i = past_end xs i e in omega arith)

-- a read
read_right : (t : Terms) (n : ℕ) (took pushed : Mail) (starved : Bool) (r : Read) (c : Conn) → Grows t → QuietConn t n took pushed c → c.held ≡ None → c.cause ≡ None → c.dispatched ≡ length (packets_cut t c.pieces) → ServedRight t n took pushed c.session (read_by starved r c)
read_right t n took pushed starved (GotPiece p) c grows q free none w = record { session = refl; does = pick starved }
  where
    fed : QuietConn t n took pushed (record c { pieces = c.pieces ++ p ∷ [] })
    fed =
        record {
          home = q.home;
          flows = q.flows;
          tale = tale_piece t c.ip c.session c.uid c.split c.pieces c.taken c.dispatched c.cause c.phase pushed grows q.tale none p;
          held = subst (λ (h : Option (ℕ × Event)). IsHeld t c.ip c.session c.uid c.split (c.pieces ++ p ∷ []) c.taken c.dispatched c.cause c.phase h) (sym free) (subst (λ (h : Option (ℕ × Event)). IsHeld t c.ip c.session c.uid c.split c.pieces c.taken c.dispatched c.cause c.phase h) free q.held);
        }

    pick : (b : Bool) → QuietConn t n took pushed (record c { pieces = c.pieces ++ p ∷ []; cause = (if b then Some NoMemory else None) })
    pick true = hard_now t n took pushed (record c { pieces = c.pieces ++ p ∷ [] }) NoMemory fed refl (λ m r. absurd (cc)) ((λ z. absurd (cc)), (λ z. absurd (cc)))
    pick false = none_now t n took pushed (record c { pieces = c.pieces ++ p ∷ [] }) fed none
read_right t n took pushed starved ReadNotYet c grows q free none w = record { session = refl; does = q }
read_right t n took pushed starved ReadEnd c grows q free none w = record { session = refl; does = soft_now t n took pushed c PeerEnd q none refl w ((λ z. absurd (cc)), (λ z. absurd (cc))) }
read_right t n took pushed starved ReadFailed c grows q free none w = record { session = refl; does = soft_now t n took pushed c ReadFault q none refl w ((λ z. absurd (cc)), (λ z. absurd (cc))) }

no_cause : (cause : Option Cause) → cause ≡ None → HasCause cause → ⊥
no_cause cause none h = (let k : Some h.0 ≡ None = sym h.1 ∙ none in cc)

not_closing : (t : Terms) (phase : Phase) (cause : Option Cause) (n : ℕ) → IsPhase t phase cause n → cause ≡ None → ¬ (phase ≡ Closing)
not_closing t Coming cause n i none e = (let k : Coming ≡ Closing = e in cc)
not_closing t Open cause n i none e = (let k : Open ≡ Closing = e in cc)
not_closing t Closing cause n i none e = no_cause cause none i.1

-- points 4 to 6
cut_right : (t : Terms) (n : ℕ) (took pushed : Mail) (a : Answers) (k : ℕ) (c : Conn) → 0 < t.worker_num → IsIdle t a → Grows t → QuietConn t n took pushed c → c.held ≡ None → c.cause ≡ None → connects t c.phase ≡ false → ServedRight t n took pushed c.session (cuts_next t a k c)
cut_right t n took pushed a k c some idle grows q free none begun = at (slice_get (packets_cut t c.pieces) c.taken) refl
  where
    even : c.taken ≡ c.dispatched
    even = (let h : HeldOf t c None = subst (HeldOf t c) free q.held in h none)

    packet : (b : List ℕ) → slice_get (packets_cut t c.pieces) c.taken ≡ Some b → ServedRight t n took pushed c.session (cut_by t a k (next.Packet b) c)
    packet b e =
        pushes_right t n took pushed a k (Packet c.session c.dispatched b) true (record c { taken = c.taken + 1 }) some idle free q.home q.flows
        (tale_taken t c.ip c.session c.uid c.split c.pieces c.taken c.dispatched c.cause c.phase pushed q.tale b e)
        (refl, refl, begun, not_closing t c.phase c.cause c.dispatched q.tale.in_phase none, ap (slice_get (packets_cut t c.pieces)) (sym even) ∙ e, ap (λ (m : ℕ). m + 1) even)

    whole : slice_get (packets_cut t c.pieces) c.taken ≡ None → c.dispatched ≡ length (packets_cut t c.pieces)
    whole e = (let h : length (packets_cut t c.pieces) ≤ c.taken = past_end (packets_cut t c.pieces) c.taken e in let g : c.taken ≤ length (packets_cut t c.pieces) = q.tale.few in let v : c.taken ≡ c.dispatched = even in omega arith)

    stuck : slice_get (packets_cut t c.pieces) c.taken ≡ None → (f : Option First) → ServedRight t n took pushed c.session (cut_by t a k (starve a.cut_starved (next_rest f)) c)
    stuck e None = read_right t n took pushed a.feed_starved a.read c grows q free none (whole e)
    stuck e (Some (first.Packet m)) = read_right t n took pushed a.feed_starved a.read c grows q free none (whole e)
    stuck e (Some first.More) = read_right t n took pushed a.feed_starved a.read c grows q free none (whole e)
    stuck e (Some (first.TooLong m)) = record { session = refl; does = soft_now t n took pushed c (TooLong m) q none refl (whole e) ((λ z. absurd (cc)), (λ z. absurd (cc))) }
    stuck e (Some (first.BadLength m)) = record { session = refl; does = soft_now t n took pushed c (BadLength m) q none refl (whole e) ((λ z. absurd (cc)), (λ z. absurd (cc))) }

    given : (b : List ℕ) → slice_get (packets_cut t c.pieces) c.taken ≡ Some b → (x : Bool) → ServedRight t n took pushed c.session (cut_by t a k (if x then next.OutOfMemory else next.Packet b) c)
    given b e true = record { session = refl; does = hard_now t n took pushed c NoMemory q refl (λ m r. absurd (cc)) ((λ z. absurd (cc)), (λ z. absurd (cc))) }
    given b e false = packet b e

    at : (o : Option (List ℕ)) → slice_get (packets_cut t c.pieces) c.taken ≡ o → ServedRight t n took pushed c.session (cut_by t a k (starve a.cut_starved (next_by (cut t.framing c.pieces).fault o)) c)
    at (Some b) e = given b e a.cut_starved
    at None e = stuck e (cut t.framing c.pieces).fault

-- points 7 to 9
closes_open : (t : Terms) (phase : Phase) → connects t phase ≡ false → closes t phase ≡ true → (phase ≡ Open) × (bound t.mode ≡ true)
closes_open t Coming begun on = absurd (let e : true ≡ false = sym on ∙ begun in cc)
closes_open t Open begun on = (refl, on)
closes_open t Closing begun on = absurd (cc)

closes_not : (t : Terms) (phase : Phase) → connects t phase ≡ false → closes t phase ≡ false → bound t.mode ≡ true → phase ≡ Closing
closes_not t Coming begun off on = absurd (let e : true ≡ false = sym on ∙ begun in cc)
closes_not t Open begun off on = absurd (let e : true ≡ false = sym on ∙ off in cc)
closes_not t Closing begun off on = refl

unsent_none : (us : List ℕ) → has_unsent us ≡ false → us ≡ []
unsent_none [] e = refl
unsent_none (b ∷ bs) e = absurd (cc)

leave_by : (c : Conn) → can_leave c ≡ true → (c.awaited ≡ 0) × ((is_hard c.cause ≡ true) ⊎ (c.unsent ≡ []))
leave_by c e = pick (c.awaited == 0) refl (is_hard c.cause) refl (has_unsent c.unsent) refl e
  where
    pick : (x : Bool) → (c.awaited == 0) ≡ x → (y : Bool) → is_hard c.cause ≡ y → (z : Bool) → has_unsent c.unsent ≡ z → (if x then (if y then true else (if z then false else true)) else false) ≡ true → (c.awaited ≡ 0) × ((is_hard c.cause ≡ true) ⊎ (c.unsent ≡ []))
    pick true p true q z r h = (eq_is c.awaited 0 p, inl q)
    pick true p false q true r h = absurd (cc)
    pick true p false q false r h = (eq_is c.awaited 0 p, inr (unsent_none c.unsent r))
    pick false p y q z r h = absurd (cc)

end_right : (t : Terms) (n : ℕ) (took pushed : Mail) (a : Answers) (k : ℕ) (e : Cause) (c : Conn) → 0 < t.worker_num → IsIdle t a → QuietConn t n took pushed c → c.held ≡ None → c.cause ≡ Some e → connects t c.phase ≡ false → ServedRight t n took pushed c.session (end_by t a k e c)
end_right t n took pushed a k e c some idle q free caused begun = pick (closes t c.phase) refl
  where
    over : closes t c.phase ≡ false → (b : Bool) → can_leave c ≡ b → ServedBy t n took pushed c (if b then Leaves e else Stays)
    over off true h = (let g = leave_by c h in (q, record { cause = caused; awaited = g.0; closed = closes_not t c.phase begun off; flushed = g.1 }))
    over off false h = q

    pick : (b : Bool) → closes t c.phase ≡ b → ServedRight t n took pushed c.session (if b then pushes t a k (Closed c.session) false c else plain c (if can_leave c then Leaves e else Stays))
    pick true on = (let g = closes_open t c.phase begun on in pushes_right t n took pushed a k (Closed c.session) false c some idle free q.home q.flows q.tale (refl, g.0, g.1, (e, caused)))
    pick false off = record { session = refl; does = over off (can_leave c) refl }

cause_right : (t : Terms) (n : ℕ) (took pushed : Mail) (a : Answers) (k : ℕ) (c : Conn) → 0 < t.worker_num → IsIdle t a → Grows t → QuietConn t n took pushed c → c.held ≡ None → connects t c.phase ≡ false → (o : Option Cause) → c.cause ≡ o → ServedRight t n took pushed c.session (cause_by t a k o c)
cause_right t n took pushed a k c some idle grows q free begun None none = pick (nat_lt c.dispatched (2 ^ 64 - 1))
  where
    pick : (b : Bool) → ServedRight t n took pushed c.session (if b then cuts_next t a k c else plain c Stays)
    pick true = cut_right t n took pushed a k c some idle grows q free none begun
    pick false = record { session = refl; does = q }
cause_right t n took pushed a k c some idle grows q free begun (Some e) caused = end_right t n took pushed a k e c some idle q free caused begun

-- point 3
connects_coming : (t : Terms) (phase : Phase) → connects t phase ≡ true → (phase ≡ Coming) × (bound t.mode ≡ true)
connects_coming t Coming e = (refl, e)
connects_coming t Open e = absurd (cc)
connects_coming t Closing e = absurd (cc)

open_right : (t : Terms) (n : ℕ) (took pushed : Mail) (a : Answers) (k : ℕ) (c : Conn) → 0 < t.worker_num → IsIdle t a → Grows t → QuietConn t n took pushed c → c.held ≡ None → ServedRight t n took pushed c.session (open_by t a k c)
open_right t n took pushed a k c some idle grows q free = pick (connects t c.phase) refl
  where
    pick : (b : Bool) → connects t c.phase ≡ b → ServedRight t n took pushed c.session (if b then pushes t a k (Connect c.session) false c else cause_by t a k c.cause c)
    pick true on =
        (let g = connects_coming t c.phase on in
        let h : HeldOf t c None = subst (HeldOf t c) free q.held in
        pushes_right t n took pushed a k (Connect c.session) false c some idle free q.home q.flows q.tale (refl, g.0, g.1, h))
    pick false off = cause_right t n took pushed a k c some idle grows q free off c.cause refl

-- point 2
held_right : (t : Terms) (n : ℕ) (took pushed : Mail) (a : Answers) (k : ℕ) (c : Conn) → 0 < t.worker_num → IsIdle t a → Grows t → QuietConn t n took pushed c → (h : Option (ℕ × Event)) → c.held ≡ h → ServedRight t n took pushed c.session (held_by t a k h c)
held_right t n took pushed a k c some idle grows q (Some h) e =
    record { session = refl; does = push_right t n took pushed (record c { held = None }) h.0 h.1 refl q.home q.flows q.tale (subst (HeldOf t c) e q.held) }
held_right t n took pushed a k c some idle grows q None e = open_right t n took pushed a k c some idle grows q e

-- point 1
pub record TidyRight (t : Terms) (n : ℕ) (took pushed : Mail) (s : ℕ) (c : Conn) : Type 0 where
  pub session : c.session ≡ s
  pub quiet : QuietConn t n took pushed c

flushed_right : (t : Terms) (n : ℕ) (took pushed : Mail) (w : LinkWrite) (c : Conn) → QuietConn t n took pushed c → TidyRight t n took pushed c.session (flushed w c)
flushed_right t n took pushed w c q = pick (is_hard c.cause) refl
  where
    written : is_hard c.cause ≡ false → (v : LinkWrite) → TidyRight t n took pushed c.session (wrote v c)
    written h (writing.Took k) = record { session = refl; quiet = record { home = q.home; flows = flow_wrote t c.ip c.session c.cause c.written c.unsent c.awaited (dues t c.session pushed) took q.flows h k; tale = q.tale; held = q.held } }
    written h writing.NotYet = record { session = refl; quiet = q }
    written h writing.Failed = record { session = refl; quiet = hard_now t n took pushed c WriteFault q refl (λ m r. absurd (cc)) ((λ z. absurd (cc)), (λ z. absurd (cc))) }

    some : is_hard c.cause ≡ false → (us : List ℕ) → TidyRight t n took pushed c.session (flushed_some w us c)
    some h [] = record { session = refl; quiet = q }
    some h (b ∷ bs) = written h w

    pick : (b : Bool) → is_hard c.cause ≡ b → TidyRight t n took pushed c.session (if b then c else flushed_some w c.unsent c)
    pick true h = record { session = refl; quiet = q }
    pick false h = some h c.unsent

drops_cause : (o : Option Cause) → drops o ≡ true → HasCause o
drops_cause None e = absurd (cc)
drops_cause (Some d) e = (d, refl)

cleared_right : (t : Terms) (n : ℕ) (took pushed : Mail) (c : Conn) → QuietConn t n took pushed c → QuietConn t n took pushed (cleared c)
cleared_right t n took pushed c q = record { home = q.home; flows = flow (is_hard c.cause) refl; tale = q.tale; held = hold (drops c.cause) refl }
  where
    flow : (b : Bool) → is_hard c.cause ≡ b → Flows t c.ip c.session c.cause c.written (if b then [] else c.unsent) c.awaited took (dues t c.session pushed)
    flow true h = flow_hard t c.ip c.session c.cause c.cause c.written c.unsent [] c.awaited (dues t c.session pushed) took q.flows h (λ m r. r) q.flows.why
    flow false h = q.flows

    hold : (b : Bool) → drops c.cause ≡ b → HeldOf t c (if b then drop_packet c.held else c.held)
    hold true h = held_drop t c.ip c.session c.uid c.split c.pieces c.taken c.dispatched c.cause c.phase c.held (drops_cause c.cause h) q.held
    hold false h = q.held

-- a serve
pub serve_right : (t : Terms) (n : ℕ) (took pushed : Mail) (a : Answers) (k : ℕ) (c : Conn) → 0 < t.worker_num → IsIdle t a → Grows t → QuietConn t n took pushed c → ServedRight t n took pushed c.session (serve t a k c)
serve_right t n took pushed a k c some idle grows q =
    let f = flushed_right t n took pushed a.write c q in
    let g : QuietConn t n took pushed (tidied a c) = cleared_right t n took pushed (flushed a.write c) f.quiet in
    let r : ServedRight t n took pushed (tidied a c).session (serve t a k c) = held_right t n took pushed a k (tidied a c) some idle grows g (tidied a c).held refl in
    record { session = r.session ∙ f.session; does = r.does }
