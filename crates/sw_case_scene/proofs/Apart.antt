-- Tickets that are apart stay so with one more whose slot no connection has.
use Rattle.std.proofs.Common.{◌≡◌, ◌≢◌, ℕ, zero, suc, ◌+◌, ◌<◌, ◌%◌, List, [], ◌∷◌, ◌++◌, length, map, append-nil, slice_get, Option, Some, None, refl, sym, ap, ◌∙◌, subst, arith, ◌⊎◌, inl, inr}
use Rattle.sw_conn.specs.declared.conn.Conn.{Conn}
use Rattle.sw_conn.specs.declared.terms.Terms.{Terms}
use Rattle.sw_data.specs.declared.messages.Got.{Got}
use Rattle.sw_data.specs.declared.messages.Msg.{Msg}
use Rattle.sw_frame.specs.declared.framing.Framing.{Framing}
use Rattle.sw_reactor.proofs.Keeping.{some_is}
use Rattle.std.proofs.lemmas.Option.{slice_get_within}
use Rattle.sw_reactor.proofs.Slots.{not_none, same_or_not}
use Rattle.sw_reactor.specs.Line.{Lined}
use Rattle.sw_reactor.specs.Reactor.{IsStarted}
use Rattle.sw_reactor.specs.Ready.{IsReady, AreApart, tickets, tickets_of, brought, with_brought}
use Rattle.sw_reactor.specs.declared.reactor.Reactor.{Reactor}
use Rattle.sw_case_ports.specs.Book.{Holds, Differ}
use Rattle.sw_case_scene.specs.Scene.{IsFreeSlot, MayTurn, number_of}
use Rattle.sw_case_ports.specs.declared.book.CaseBook.{CaseBook}
use Rattle.sw_case_ports.specs.declared.ticket.CaseTicket.{CaseTicket}

-- one of the list, or the one behind it
push_at : {X : Type 0} (xs : List X) (y : X) (q : ℕ) (x : X) → slice_get (xs ++ y ∷ []) q ≡ Some x → (slice_get xs q ≡ Some x) ⊎ ((q ≡ length xs) × (y ≡ x))
push_at [] y zero x g = inr (refl, some_is y x g)
push_at [] y (suc q) x g = not_none x g
push_at (z ∷ xs) y zero x g = inl g
push_at (z ∷ xs) y (suc q) x g = elim (push_at xs y q x g) [ inl h ↦ inl h | inr h ↦ inr (ap suc h.0, h.1) ]

-- what a place of a list became comes from that place
map_back : {X Y : Type 0} (f : X → Y) (xs : List X) (k : ℕ) (y : Y) → slice_get (map f xs) k ≡ Some y → (x : X) × ((slice_get xs k ≡ Some x) × (f x ≡ y))
map_back f [] k y g = not_none y g
map_back f (x ∷ xs) zero y g = (x, (refl, some_is (f x) y g))
map_back f (x ∷ xs) (suc k) y g = map_back f xs k y g

-- with one more
pub apart_more : {L : Type 0} (b : CaseBook) (l : Lined L CaseTicket) (t : CaseTicket) → AreApart Holds Differ b (tickets_of l.conns) → Holds b t → IsFreeSlot t.slot l → AreApart Holds Differ b (tickets_of l.conns ++ t ∷ [])
apart_more {L} b l t a h free =
    record { held = held; two = two }
  where
    other : (k : ℕ) (u : CaseTicket) → slice_get (tickets_of l.conns) k ≡ Some u → Differ u t
    other k u g =
        let c = map_back (λ (x : Conn L CaseTicket). x.ticket) l.conns k u g in
        (λ e. free k c.0 c.1.0 (ap (λ (x : CaseTicket). x.slot) c.1.1 ∙ e))

    held : (k : ℕ) (u : CaseTicket) → slice_get (tickets_of l.conns ++ t ∷ []) k ≡ Some u → Holds b u
    held k u g = elim (push_at (tickets_of l.conns) t k u g) [ inl w ↦ a.held k u w | inr w ↦ subst (λ (x : CaseTicket). Holds b x) w.1 h ]

    two : (j k : ℕ) (u v : CaseTicket) → slice_get (tickets_of l.conns ++ t ∷ []) j ≡ Some u → slice_get (tickets_of l.conns ++ t ∷ []) k ≡ Some v → ¬ (j ≡ k) → Differ u v
    two j k u v d g unlike =
        elim (push_at (tickets_of l.conns) t j u d) [
          | inl p ↦ elim (push_at (tickets_of l.conns) t k v g) [
            | inl q ↦ a.two j k u v p q unlike
            | inr q ↦ subst (λ (x : CaseTicket). Differ u x) q.1 (other j u p)
          ]
          | inr p ↦ elim (push_at (tickets_of l.conns) t k v g) [
            | inl q ↦ subst (λ (x : CaseTicket). Differ x v) p.1 (λ e. other k v q (sym e))
            | inr q ↦ absurd (unlike (p.0 ∙ sym q.0))
          ]
        ]

-- with none more
pub apart_none : (b : CaseBook) (ts us : List CaseTicket) → AreApart Holds Differ b ts → us ≡ [] → AreApart Holds Differ b (ts ++ us)
apart_none b ts us a e =
    subst (λ (xs : List CaseTicket). AreApart Holds Differ b (ts ++ xs)) (sym e)
    (subst (λ (xs : List CaseTicket). AreApart Holds Differ b xs) (sym (append-nil ts)) a)

-- a reactor may take its turn
pub may_turn : {L : Type 0} (r : Reactor L CaseTicket) (b : CaseBook) → IsReady number_of r → AreApart Holds Differ b (tickets r) → MayTurn r b
may_turn r b ready apart = record { ready = ready; apart = apart }

-- what a turn needs of the reactor
pub may_ready : {L : Type 0} (r : Reactor L CaseTicket) (b : CaseBook) → MayTurn r b → IsReady number_of r
may_ready r b may = may.ready

-- a book of the reactor's size has slots
pub some_slot : {L : Type 0} (r : Reactor L CaseTicket) (b : CaseBook) → MayTurn r b → b.size ≡ r.terms.max_conn → 0 < b.size
some_slot r b may size = subst (λ (n : ℕ). 0 < n) (sym size) may.ready.slots

-- and of the tickets, where no link is new
pub none_brought : {L : Type 0} (r : Reactor L CaseTicket) (b : CaseBook) (got : Got (Msg L CaseTicket)) → MayTurn r b → brought got ≡ [] → AreApart Holds Differ b (with_brought r got)
none_brought r b got may none = apart_none b (tickets r) (brought got) may.apart none

-- and where one is, in a slot that no connection has
pub one_brought : {L : Type 0} (r : Reactor L CaseTicket) (b : CaseBook) (t : CaseTicket) → MayTurn r b → Holds b t → IsFreeSlot t.slot r.line → AreApart Holds Differ b (tickets r ++ t ∷ [])
one_brought r b t may holds free = apart_more b r.line t may.apart holds free

-- with another book of the same size it may still take its turn
pub still_may : {L : Type 0} (r : Reactor L CaseTicket) (b c : CaseBook) → MayTurn r b → c.size ≡ b.size → MayTurn r c
still_may r b c may same = record {
  ready = may.ready;
  apart = record { held = λ k t g. may.apart.held k t g ∙ ap (λ (n : ℕ). t.session % n) (sym same); two = may.apart.two };
}

-- a reactor without connections may take its turn over any book
pub first_may : {L : Type 0} (r : Reactor L CaseTicket) (b : CaseBook) (terms : Terms) (framing : Framing) (read_size : ℕ) → IsStarted terms framing read_size r → IsReady number_of r → MayTurn r b
first_may {L} r b terms framing read_size started ready =
    record { ready = ready; apart = subst (λ (l : Lined L CaseTicket). AreApart Holds Differ b (tickets_of l.conns)) (sym started.line) none }
  where
    none : AreApart Holds Differ b []
    none = record { held = λ k t g. not_none t g; two = λ j k t u g h unlike. not_none t g }

-- no ticket of the connections before a place has the slot
abbrev pub IsFreeTo : {L : Type 0} → ℕ → Lined L CaseTicket → ℕ → Type 0
IsFreeTo {L} slot l at = (k : ℕ) (c : Conn L CaseTicket) → k < at → slice_get l.conns k ≡ Some c → c.ticket.slot ≢ slot

pub free_next : {L : Type 0} (slot : ℕ) (l : Lined L CaseTicket) (at : ℕ) (d : Conn L CaseTicket) → IsFreeTo slot l at → slice_get l.conns at ≡ Some d → d.ticket.slot ≢ slot → IsFreeTo slot l (at + 1)
free_next {L} slot l at d free here unlike =
    λ k c lt g.
    elim (same_or_not k at) [
      | inl e ↦ subst (λ (x : Conn L CaseTicket). x.ticket.slot ≢ slot) (some_is d c (sym here ∙ (ap (slice_get l.conns) (sym e) ∙ g))) unlike
      | inr n ↦ free k c (omega (arith, lt, n)) g
    ]

pub free_all : {L : Type 0} (slot : ℕ) (l : Lined L CaseTicket) (at : ℕ) → IsFreeTo slot l at → at ≡ length l.conns → IsFreeSlot slot l
free_all slot l at free all = λ k c g. let lt = slice_get_within l.conns k c g in free k c (omega (arith, lt, all)) g
