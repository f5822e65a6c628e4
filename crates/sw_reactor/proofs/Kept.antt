-- What turns keep: that a reactor is ready, and that tickets are apart.
use Rattle.std.proofs.Common.{◌≡◌, ℕ, zero, suc, ◌+◌, ◌<◌, ◌==◌, Bool, true, false, if◌then◌else◌, nat_lt, List, [], ◌∷◌, ◌++◌, length, map, remove, slice_get, Option, Some, refl, sym, ap, ◌∙◌, subst, arith, append-nil, inl, inr}
use Rattle.std.proofs.lemmas.Bool.Decides.{nat_tests}
use Rattle.sw_data.specs.declared.ended.Cause.{Cause}
use Rattle.sw_data.specs.declared.events.Event.{Event}
use Rattle.sw_data.specs.declared.messages.Msg.{Msg}
use Rattle.sw_data.specs.declared.messages.Msg.TheVariants as msgs
use Rattle.sw_frame.specs.declared.framing.Framing.{Framing}
use Rattle.sw_link.specs.declared.link.LinkRead.{LinkRead}
use Rattle.sw_link.specs.declared.link.LinkRead.TheVariants as reads
use Rattle.sw_link.specs.declared.link.LinkWrite.{LinkWrite}
use Rattle.sw_link.specs.Reads.{Read, read_of}
use Rattle.sw_port_book.specs.declared.word.Word.{Word}
use Rattle.sw_port_book.specs.Answers.{Keeps}
use Rattle.sw_port_board.specs.declared.board.BoardStep.{BoardStep}
use Rattle.sw_port_board.specs.declared.crew.Sizes.{Sizes}
use Rattle.sw_conn.specs.declared.conn.Conn.{Conn}
use Rattle.sw_conn.specs.declared.conn.Kind.{Kind}
use Rattle.sw_conn.specs.declared.conn.Kind.TheVariants as kinds
use Rattle.sw_conn.specs.declared.serve.Step.{Step}
use Rattle.sw_conn.specs.declared.serve.Step.TheVariants as chosen
use Rattle.sw_conn.specs.declared.terms.Terms.{Terms}
use Rattle.sw_conn.specs.Modes.{keeps}
use Rattle.sw_conn.specs.Conn.{IsFresh, sent, closes, resets, answered, noted, holds, stops, sees, kind_of, cleared}
use Rattle.sw_conn.specs.Serve.{FlushedBy, Chooses, ReadsBy}
use Rattle.sw_reactor.specs.declared.reactor.Asked.{Asked}
use Rattle.sw_reactor.specs.declared.reactor.Asked.TheVariants as asks
use Rattle.sw_reactor.specs.declared.reactor.Reactor.{Reactor}
use Rattle.sw_reactor.specs.Line.{Lined, AtLine, AtSession, sessions_of}
use Rattle.sw_reactor.specs.Reactor.{OnLine, Joins, SettlesMsg, SettlesPush, SettlesEvent, SettlesFull}
use Rattle.sw_reactor.specs.Turn.{Asks, Takes, behind_at, moved, stayed, wrote_some, Stays, Pushes, ends_asked}
use Rattle.sw_reactor.specs.Aims.{uid_of, AimsSide, AfterRead, ReadsMore}
use Rattle.sw_reactor.specs.Leave.{Leaves, at_left}
use Rattle.sw_reactor.specs.Serving.{Ports, Aims, counted, Tells, Steps, ServesNext, Serves}
use Rattle.sw_reactor.specs.Ready.{IsReady, AreApart, tickets_of, tickets, brought_by}
use Rattle.sw_reactor.proofs.Keeping.{by_bool, IsOf, of_is, sent_of, noted_of, sees_of, flushed_of, reads_of, chooses_of, Alike, alike_is, alike_then, at_alike, session_alike, some_is, length_push}
use Rattle.sw_reactor.proofs.Slots.{not_none, stood, stood_same}

-- tickets
pub apart_keeps : {B K : Type 0} (size : B → ℕ) (holds : B → K → Type 0) (differ : K → K → Type 0) (b d : B) (ts : List K) → Keeps size holds b d → AreApart holds differ b ts → AreApart holds differ d ts
apart_keeps size holds differ b d ts k a = record { held = λ q t g. k.1 t (a.held q t g); two = a.two }

pub map_remove : {X Y : Type 0} (f : X → Y) (xs : List X) (p : ℕ) → map f (remove xs p) ≡ remove (map f xs) p
map_remove f [] zero = refl
map_remove f [] (suc p) = refl
map_remove f (x ∷ xs) zero = refl
map_remove f (x ∷ xs) (suc p) = ap (λ ys. f x ∷ ys) (map_remove f xs p)

pub map_at : {X Y : Type 0} (f : X → Y) (xs : List X) (p : ℕ) (x : X) → slice_get xs p ≡ Some x → slice_get (map f xs) p ≡ Some (f x)
map_at f [] p x g = not_none x g
map_at f (y ∷ xs) zero x g = ap (λ z. Some (f z)) (some_is y x g)
map_at f (y ∷ xs) (suc p) x g = map_at f xs p x g

pub apart_removed : {B K : Type 0} (holds : B → K → Type 0) (differ : K → K → Type 0) (b d : B) (ts : List K) (p : ℕ) (t : K) → AreApart holds differ b ts → slice_get ts p ≡ Some t → ((u : K) → differ t u → holds b u → holds d u) → AreApart holds differ d (remove ts p)
apart_removed {B} {K} holds differ b d ts p t a g others =
    record { held = held; two = two }
  where
    held : (q : ℕ) (u : K) → slice_get (remove ts p) q ≡ Some u → holds d u
    held q u h =
        let s = stood ts p q u h in
        others u (a.two p s.from t u g s.there (λ e. s.other (sym e))) (a.held s.from u s.there)

    two : (j k : ℕ) (u v : K) → slice_get (remove ts p) j ≡ Some u → slice_get (remove ts p) k ≡ Some v → ¬ (j ≡ k) → differ u v
    two j k u v h i n =
        let s = stood ts p j u h in
        let r = stood ts p k v i in
        a.two s.from r.from u v s.there r.there (λ e. n (stood_same p j k s.from r.from s.below s.above r.below r.above e))

-- a reactor that differs in what isn't asked of it
pub ready_line : {L K : Type 0} (number : K → ℕ) (r q : Reactor L K) → IsReady number r → q.terms ≡ r.terms → q.buffer ≡ r.buffer → q.at ≡ r.at → Alike r.line q.line → IsReady number q
ready_line number r q i e f g a =
    let n = i.next in
    let c = a.count in
    record {
      workers = rw e i.workers;
      slots = rw e i.slots;
      room = a.room ∙ (i.room ∙ ap (λ t. t.max_conn) (sym e));
      buffer = rw f i.buffer;
      next = λ p. rw (c, g) (n (rw g at p));
      own = a.sessions ∙ (i.own ∙ sym (ap (map number) a.tickets));
    }

pub ready_is : {L K : Type 0} (number : K → ℕ) (r q : Reactor L K) → IsReady number r → q ≡ r → IsReady number q
ready_is number r q i e = rw e i

map_push : {X Y : Type 0} (f : X → Y) (xs : List X) (y : X) → map f (xs ++ y ∷ []) ≡ map f xs ++ f y ∷ []
map_push f [] y = refl
map_push f (x ∷ xs) y = ap (λ ys. f x ∷ ys) (map_push f xs y)

-- the reactor behind a step is ready, and has these tickets
pub record IsKept {L K : Type 0} (number : K → ℕ) (q : Reactor L K) (ts : List K) : Type 0 where
  pub ready : IsReady number q
  pub tickets : tickets q ≡ ts

pub kept_is : {L K : Type 0} (number : K → ℕ) (q x : Reactor L K) (ts : List K) → q ≡ x → IsKept number x ts → IsKept number q ts
kept_is number q x ts e k = subst (λ y. IsKept number y ts) (sym e) k

pub kept_alike : {L K : Type 0} (number : K → ℕ) (r q : Reactor L K) → IsReady number r → q.terms ≡ r.terms → q.buffer ≡ r.buffer → q.at ≡ r.at → Alike r.line q.line → IsKept number q (tickets r)
kept_alike number r q i e f g a = record { ready = ready_line number r q i e f g a; tickets = a.tickets }

pub same_line : {L K : Type 0} (l : Lined L K) → Alike l l
same_line l = alike_is l l refl

on_line : {L K : Type 0} (number : K → ℕ) (r q : Reactor L K) → IsReady number r → Alike r.line q.line → q ≡ record r { line = q.line } → IsKept number q (tickets r)
on_line number r q i a e = kept_is number q _ (tickets r) e (kept_alike number r (record r { line = q.line }) i refl refl refl a)

joined : {L K : Type 0} (number : K → ℕ) (r q : Reactor L K) (c : Conn L K) (ticket : K) → IsReady number r → c.session ≡ number ticket → c.ticket ≡ ticket → q ≡ record r { line = record r.line { conns = r.line.conns ++ c ∷ [] } } → IsKept number q (tickets r ++ ticket ∷ [])
joined {L} {K} number r q c ticket i s t e =
    kept_is number q _ (tickets r ++ ticket ∷ []) e
    (record {
      ready =
          record {
            workers = i.workers;
            slots = i.slots;
            room = i.room;
            buffer = i.buffer;
            next = λ p. longer (i.next p);
            own = map_push (λ (x : Conn L K). x.session) r.line.conns c ∙ (ap (λ n. sessions_of r.line.conns ++ n ∷ []) (s ∙ ap number (sym t)) ∙ (ap (λ ns. ns ++ number c.ticket ∷ []) i.own ∙ sym (ap (map number) (map_push (λ (x : Conn L K). x.ticket) r.line.conns c) ∙ map_push number (tickets r) c.ticket)));
          };
      tickets = map_push (λ (x : Conn L K). x.ticket) r.line.conns c ∙ ap (λ y. tickets r ++ y ∷ []) t;
    })
  where
    longer : r.at < length r.line.conns → r.at < length (r.line.conns ++ c ∷ [])
    longer lt = let n = length_push r.line.conns c in omega (arith, lt, n)

fresh_is : {L K : Type 0} (framing : Framing) (link : L) (ip : ℕ) (ticket : K) (s : ℕ) (c : Conn L K) → IsFresh framing link ip ticket s c → (c.session ≡ s) × (c.ticket ≡ ticket)
fresh_is framing link ip ticket s c h =
    elim h [ inl e ↦ (ap (λ x. x.session) e, ap (λ x. x.ticket) e) | inr e ↦ (ap (λ x. x.session) e, ap (λ x. x.ticket) e) ]

joins_kept : {L K : Type 0} (number : K → ℕ) (r q : Reactor L K) (link : L) (ip : ℕ) (ticket : K) → IsReady number r → OnLine r (Joins r.framing link ip ticket (number ticket)) q → IsKept number q (tickets r ++ ticket ∷ [])
joins_kept number r q link ip ticket i h =
    let c = h.0.0 in
    let f = fresh_is r.framing link ip ticket (number ticket) c h.0.1.0 in
    joined number r q c ticket i f.0 f.1 (h.1 ∙ ap (λ l. record r { line = l }) h.0.1.1)

more : {L K : Type 0} (number : K → ℕ) (q : Reactor L K) (ts : List K) → IsKept number q ts → IsKept number q (ts ++ [])
more number q ts k = record { ready = k.ready; tickets = k.tickets ∙ sym (append-nil ts) }

session_kept : {L K : Type 0} (number : K → ℕ) (P : Conn L K → Conn L K → Type 0) → ((c d : Conn L K) → P c d → IsOf c d) → (r q : Reactor L K) (s : ℕ) → IsReady number r → OnLine r (λ l m. AtSession l s P m) q → IsKept number q (tickets r)
session_kept number P of r q s i h = on_line number r q i (session_alike P of r.line q.line s h.0) h.1

is_kept : {L K : Type 0} (number : K → ℕ) (r q : Reactor L K) → IsReady number r → q ≡ r → IsKept number q (tickets r)
is_kept number r q i e = kept_is number q r (tickets r) e (record { ready = i; tickets = refl })

pub message_kept : {L K : Type 0} (number : K → ℕ) (r : Reactor L K) (m : Msg L K) (q : Reactor L K) → IsReady number r → SettlesMsg number r m q → IsKept number q (tickets r ++ brought_by m)
message_kept number r (msgs.Fresh link ip ticket) q i h = joins_kept number r q link ip ticket i h
message_kept number r (msgs.Send s b) q i h =
    more number q (tickets r) (session_kept number (λ c d. (starved : Bool) × (d ≡ sent r.terms starved b c)) (λ c d e. of_is c d _ e.1 (sent_of r.terms e.0 b c)) r q s i h)
message_kept number r (msgs.Close s) q i h = more number q (tickets r) (session_kept number (λ c d. d ≡ closes c) (λ c d e. of_is c d _ e (record { session = refl; ticket = refl })) r q s i h)
message_kept number r (msgs.Reset s) q i h = more number q (tickets r) (session_kept number (λ c d. d ≡ resets c) (λ c d e. of_is c d _ e (record { session = refl; ticket = refl })) r q s i h)
message_kept number r (msgs.Bye s) q i h = more number q (tickets r) (session_kept number (λ c d. d ≡ answered c) (λ c d e. of_is c d _ e (record { session = refl; ticket = refl })) r q s i h)
message_kept number r (msgs.Event e) q i h = more number q (tickets r) (is_kept number r q i h)
message_kept number r (msgs.Over id) q i h = more number q (tickets r) (is_kept number r q i h)
message_kept number r msgs.NoMore q i h = more number q (tickets r) (kept_is number q _ (tickets r) h (kept_alike number r _ i refl refl refl (same_line r.line)))

pub push_kept : {L K : Type 0} (number : K → ℕ) (r : Reactor L K) (a : Asked) (q : Reactor L K) → IsReady number r → SettlesPush r a q → IsKept number q (tickets r)
push_kept number r (asks.Event w s kind) q i h = session_kept number (λ c d. d ≡ noted r.terms kind c) (λ c d e. of_is c d _ e (noted_of r.terms kind c)) r q s i h
push_kept number r asks.NoMore q i h = kept_is number q _ (tickets r) h (kept_alike number r _ i refl refl refl (same_line r.line))
push_kept number r asks.Nothing q i h = is_kept number r q i h
push_kept number r asks.Take q i h = is_kept number r q i h

event_kept : {L K : Type 0} (number : K → ℕ) (r : Reactor L K) (a : Asked) (e : Event) (q : Reactor L K) → IsReady number r → SettlesEvent r a e q → IsKept number q (tickets r)
event_kept number r (asks.Event w s kind) e q i h = session_kept number (λ c d. d ≡ holds w e c) (λ c d f. of_is c d _ f (record { session = refl; ticket = refl })) r q s i h
event_kept number r asks.NoMore e q i h = is_kept number r q i h
event_kept number r asks.Nothing e q i h = is_kept number r q i h
event_kept number r asks.Take e q i h = is_kept number r q i h

pub full_kept : {L K : Type 0} (number : K → ℕ) (r : Reactor L K) (m : Msg L K) (q : Reactor L K) → IsReady number r → SettlesFull r m q → IsKept number q (tickets r)
full_kept number r (msgs.Event e) q i h = event_kept number r r.asked e q i h
full_kept number r (msgs.Fresh link ip ticket) q i h = is_kept number r q i h
full_kept number r (msgs.Send s b) q i h = is_kept number r q i h
full_kept number r (msgs.Close s) q i h = is_kept number r q i h
full_kept number r (msgs.Reset s) q i h = is_kept number r q i h
full_kept number r (msgs.Bye s) q i h = is_kept number r q i h
full_kept number r (msgs.Over id) q i h = is_kept number r q i h
full_kept number r msgs.NoMore q i h = is_kept number r q i h

is_below : (m n : ℕ) → nat_lt m n ≡ true → m < n
is_below m n e = grind (arith, nat_tests)

-- the place that is served next
next_behind : (at n : ℕ) → 0 < behind_at at n → behind_at at n < n
next_behind at n = pick (nat_lt (at + 1) n) refl
  where
    pick : (b : Bool) → nat_lt (at + 1) n ≡ b → 0 < (if b then at + 1 else 0) → (if b then at + 1 else 0) < n
    pick true e lt = is_below (at + 1) n e
    pick false e lt = absurd (omega (arith, lt))

next_left : (at n : ℕ) → 0 < at_left at n → at_left at n < n
next_left at n = pick (nat_lt at n) refl
  where
    pick : (b : Bool) → nat_lt at n ≡ b → 0 < (if b then at else 0) → (if b then at else 0) < n
    pick true e lt = is_below at n e
    pick false e lt = absurd (omega (arith, lt))

-- the next place, and what was asked and counted, are changed
placed : {L K : Type 0} (number : K → ℕ) (r q x : Reactor L K) → IsReady number r → q ≡ x → x.terms ≡ r.terms → x.buffer ≡ r.buffer → x.line ≡ r.line → x.at ≡ behind_at r.at (length r.line.conns) → IsKept number q (tickets r)
placed number r q x i e t b l place =
    kept_is number q x (tickets r) e
    (record {
      ready =
          record {
            workers = rw t i.workers;
            slots = rw t i.slots;
            room = rw (l, t) i.room;
            buffer = rw b i.buffer;
            next = rw (place, l) (next_behind r.at (length r.line.conns));
            own = rw l i.own;
          };
      tickets = rw l refl;
    })

moved_kept : {L K : Type 0} (number : K → ℕ) (r q : Reactor L K) → IsReady number r → q ≡ moved r → IsKept number q (tickets r)
moved_kept number r q i e = placed number r q (moved r) i e refl refl refl refl

stays_kept : {L K : Type 0} (number : K → ℕ) (wrote : Option LinkWrite) (r : Reactor L K) (a : Asks L K) (q : Reactor L K) → IsReady number r → Stays wrote r a q → IsKept number q (tickets r)
stays_kept number wrote r a q i h =
    by_bool (wrote_some wrote) _ _ (IsKept number q (tickets r)) (λ k. moved_kept number r q i k.1) (λ k. placed number r q (stayed r) i k.1 refl refl refl refl) h

pub pushes_kept : {L K : Type 0} (number : K → ℕ) (w : ℕ) (e : Event) (r : Reactor L K) (a : Asks L K) (q : Reactor L K) → IsReady number r → Pushes w e r a q → IsKept number q (tickets r)
pushes_kept number w e r a q i h = placed number r q _ i h.1 refl refl refl refl

behind : {L K : Type 0} (number : K → ℕ) (r m q : Reactor L K) → IsKept number m (tickets r) → IsKept number q (tickets m) → IsKept number q (tickets r)
behind number r m q k h = record { ready = h.ready; tickets = h.tickets ∙ k.tickets }

after_kept : {L K : Type 0} (number : K → ℕ) (wrote : Option LinkWrite) (l : LinkRead) (r : Reactor L K) (a : Asks L K) (q : Reactor L K) → IsReady number r → AfterRead wrote l r a q → IsKept number q (tickets r)
after_kept number wrote (reads.Got n) r a q i h = moved_kept number r q i h.1
after_kept number wrote reads.NotYet r a q i h = stays_kept number wrote r a q i h
after_kept number wrote reads.End r a q i h = moved_kept number r q i h.1
after_kept number wrote reads.Failed r a q i h = moved_kept number r q i h.1

pub read_kept : {L K : Type 0} (number : K → ℕ) (gives : L → ℕ → Read → L → Type 0) (wrote : Option LinkWrite) (r : Reactor L K) (a : Asks L K) (q : Reactor L K) → IsReady number r → ReadsMore gives wrote r a q → IsKept number q (tickets r)
read_kept number gives wrote r a q i (l, (m, (h, k))) =
    let alike = at_alike (λ c d. ReadsBy gives (length r.buffer.items) c (read_of l m.buffer.items) d) (λ c d e. reads_of gives (length r.buffer.items) c (read_of l m.buffer.items) d e) r.line m.line r.at h.0 in
    let line = ready_line number r (record r { line = m.line }) i refl refl refl alike in
    let there : IsKept number m (tickets r) = kept_is number m _ (tickets r) h.1 (record { ready = record { workers = line.workers; slots = line.slots; room = line.room; buffer = rw h.2 i.buffer; next = line.next; own = line.own }; tickets = alike.tickets }) in
    behind number r m q there (after_kept number wrote l m a q there.ready k)

sees_kept : {L K B : Type 0} (number : K → ℕ) (finds : B → ℕ → Word → B → Type 0) (r : Reactor L K) (b : B) (w : ℕ) (q : Reactor L K) (d : B) → IsReady number r → AimsSide finds r b w q d → IsKept number q (tickets r)
sees_kept number finds r b w q d i (look, (found, line, is, side)) =
    on_line number r q i (at_alike (λ x y. y ≡ sees (uid_of look) x) (λ x y e. of_is x y (sees (uid_of look) x) e (sees_of (uid_of look) x)) r.line q.line r.at line) is

aims_kept : {L K B C : Type 0} (number : K → ℕ) (looks : B → ℕ → Word → B → Type 0) (goes : C → List BoardStep → C → Type 0) (sizes : C → Sizes) (r : Reactor L K) (b : B) (o : C) (w : ℕ) (q : Reactor L K) (d : B) (u : C) → IsReady number r → Aims looks goes sizes r b o w q d u → IsKept number q (tickets r)
aims_kept number looks goes sizes r b o w q d u i h =
    by_bool (keeps r.terms.mode) _ _ (IsKept number q (tickets r)) (λ k. is_kept number r q i k.1)
    (λ m. by_bool (r.terms.mode == 5) _ _ (IsKept number q (tickets r)) (λ k. sees_kept number looks r b w q d i k.0) (λ k. is_kept number r q i k.1) m) h

counted_kept : {L K : Type 0} (number : K → ℕ) (kind : Kind) (r : Reactor L K) → IsReady number r → IsKept number (counted kind r) (tickets r)
counted_kept number kinds.Packet r i = kept_alike number r _ i refl refl refl (same_line r.line)
counted_kept number kinds.Connect r i = is_kept number r r i refl
counted_kept number kinds.Closed r i = is_kept number r r i refl
counted_kept number kinds.Other r i = is_kept number r r i refl

pub tells_kept : {L K B C : Type 0} (number : K → ℕ) (looks : B → ℕ → Word → B → Type 0) (goes : C → List BoardStep → C → Type 0) (sizes : C → Sizes) (e : Event) (r : Reactor L K) (b : B) (o : C) (a : Asks L K) (q : Reactor L K) (d : B) (u : C) → IsReady number r → Tells looks goes sizes e r b o a q d u → IsKept number q (tickets r)
tells_kept number looks goes sizes e r b o a q d u i (w, (m, (aims, pushes))) =
    let aimed = aims_kept number looks goes sizes r b o w m d u i aims in
    let counts = counted_kept number (kind_of e) m aimed.ready in
    behind number r m q aimed (behind number m (counted (kind_of e) m) q counts (pushes_kept number w e (counted (kind_of e) m) a q counts.ready pushes))

pub tickets_left : {L K : Type 0} (conns : List (Conn L K)) (at : ℕ) → tickets_of (remove conns at) ≡ remove (tickets_of conns) at
tickets_left {L} {K} conns at = map_remove (λ (c : Conn L K). c.ticket) conns at

leaves_ready : {L K B C E : Type 0} (number : K → ℕ) (p : Ports L K B C E) (r : Reactor L K) (b : B) (o : C) (f : E) (q : Reactor L K) (d : B) (u : C) (g : E) (cause : Cause) → IsReady number r → Leaves p.releases p.goes p.puts cause r b o f q d u g → IsReady number q
leaves_ready {L} {K} number p r b o f q d u g cause i (c, (there, (uid, (released, (kept, (put, counts, is)))))) =
    rw is
    (record {
      workers = i.workers;
      slots = i.slots;
      room = i.room;
      buffer = i.buffer;
      next = next_left r.at (length (remove r.line.conns r.at));
      own = map_remove (λ (x : Conn L K). x.session) r.line.conns r.at ∙ (ap (λ ns. remove ns r.at) i.own ∙ sym (ap (map number) (tickets_left r.line.conns r.at) ∙ map_remove number (tickets r) r.at));
    })

steps_ready : {L K B C E : Type 0} (number : K → ℕ) (p : Ports L K B C E) (step : Step) (wrote : Option LinkWrite) (r : Reactor L K) (b : B) (o : C) (f : E) (a : Asks L K) (q : Reactor L K) (d : B) (u : C) (g : E) → IsReady number r → Steps p step wrote r b o f a q d u g → IsReady number q
steps_ready number p (chosen.Again w e) wrote r b o f a q d u g i h = (pushes_kept number w e r a q i h.0).ready
steps_ready number p (chosen.Tell e) wrote r b o f a q d u g i h = (tells_kept number p.looks p.goes p.sizes e r b o a q d u i h.0).ready
steps_ready number p chosen.Read wrote r b o f a q d u g i h = (read_kept number p.reads wrote r a q i h.0).ready
steps_ready number p chosen.Moved wrote r b o f a q d u g i h = (moved_kept number r q i h.1).ready
steps_ready number p chosen.Stay wrote r b o f a q d u g i h = (stays_kept number wrote r a q i h.0).ready
steps_ready number p (chosen.Leave e) wrote r b o f a q d u g i h = leaves_ready number p r b o f q d u g e i h.1

pub flush_alike : {L K : Type 0} (gives : L → List ℕ → LinkWrite → L → Type 0) (l m : Lined L K) (at : ℕ) (wrote : Option LinkWrite) → AtLine l at (λ x y. FlushedBy gives x wrote y) m → Alike l m
flush_alike gives l m at wrote h = at_alike (λ x y. FlushedBy gives x wrote y) (λ c d e. flushed_of gives c wrote d e) l m at h

pub choose_alike : {L K : Type 0} (t : Terms) (l m : Lined L K) (at : ℕ) (step : Step) → AtLine l at (λ x y. Chooses t (cleared x) y step) m → Alike l m
choose_alike t l m at step h = at_alike (λ x y. Chooses t (cleared x) y step) (λ c d e. chooses_of t c d step e) l m at h

next_ready : {L K B C E : Type 0} (number : K → ℕ) (p : Ports L K B C E) (r : Reactor L K) (b : B) (o : C) (f : E) (a : Asks L K) (q : Reactor L K) (d : B) (u : C) (g : E) → IsReady number r → ServesNext p r b o f a q d u g → IsReady number q
next_ready number p r b o f a q d u g i (wrote, (l, (flushed, (step, (m, (chose, made)))))) =
    let alike = alike_then r.line l m (flush_alike p.writes r.line l r.at wrote flushed) (choose_alike r.terms l m r.at step chose) in
    steps_ready number p step wrote (record r { line = m }) b o f a q d u g (ready_line number r (record r { line = m }) i refl refl refl alike) made

pub serves_ready : {L K B C E : Type 0} (number : K → ℕ) (p : Ports L K B C E) (r : Reactor L K) (b : B) (o : C) (f : E) (a : Asks L K) (q : Reactor L K) (d : B) (u : C) (g : E) → IsReady number r → Serves p r b o f a q d u g → IsReady number q
serves_ready number p r b o f a q d u g i h =
    by_bool (nat_lt r.at (length r.line.conns)) _ _ (IsReady number q) (λ k. next_ready number p r b o f a q d u g i k)
    (λ k. (kept_is number q (record r { asked = ends_asked r }) (tickets r) k.1 (kept_alike number r (record r { asked = ends_asked r }) i refl refl refl (same_line r.line))).ready) h

stops_same : {L K : Type 0} (conns : List (Conn L K)) → (length (map stops conns) ≡ length conns) × (sessions_of (map stops conns) ≡ sessions_of conns) × (tickets_of (map stops conns) ≡ tickets_of conns)
stops_same [] = (refl, refl, refl)
stops_same (c ∷ conns) = let h = stops_same conns in (ap suc h.0, ap (λ s. c.session ∷ s) h.1, ap (λ t. c.ticket ∷ t) h.2)

pub takes_kept : {L K C : Type 0} (number : K → ℕ) (goes : C → List BoardStep → C → Type 0) (r : Reactor L K) (o : C) (a : Asks L K) (q : Reactor L K) (u : C) → IsReady number r → Takes goes r o a q u → IsKept number q (tickets r)
takes_kept {L} {K} number goes r o a q u i (stop, (went, ask, is)) =
    kept_is number q _ (tickets r) is (kept_alike number r _ i refl refl refl (pick stop))
  where
    pick : (b : Bool) → Alike r.line (record r.line { conns = (if b then map stops r.line.conns else r.line.conns) })
    pick true = let h = stops_same r.line.conns in record { count = h.0; room = refl; sessions = h.1; tickets = h.2 }
    pick false = same_line r.line
