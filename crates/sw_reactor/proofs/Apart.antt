-- Two tickets that are apart never have the same slot.
use Rattle.std.proofs.Common.{◌≡◌, ℕ, ◌<◌, ◌%◌, List, [], ◌∷◌, ◌++◌, length, map, slice_get, slice_index_or, Option, Some, None, sym, ap, ◌∙◌, subst, arith}
use Rattle.std.proofs.lemmas.Option.{slice_get_within}
use Rattle.sw_conn.specs.declared.conn.Conn.{Conn}
use Rattle.sw_reactor.specs.Line.{Lined, lined, in_slot, IsLine, IsFree, sessions_of}
use Rattle.sw_reactor.specs.Ready.{AreApart, tickets_of}
use Rattle.sw_reactor.proofs.Keeping.{some_is}
use Rattle.sw_reactor.proofs.Slots.{not_none, lying_read, line_at, of_session, front_at, last_at}
use Rattle.sw_reactor.proofs.Kept.{map_at}

-- the two tickets, and their slots
pub record Told {B K : Type 0} (number : K → ℕ) (holds : B → K → Type 0) (differ : K → K → Type 0) (b : B) (t u : K) (room : ℕ) : Type 0 where
  pub held : holds b t × holds b u
  pub two : differ t u
  pub slot : number t % room ≡ number u % room

pub told_apart : {L K B : Type 0} (slots : List (Option (Conn L K))) (order : List ℕ) (room : ℕ) (number : K → ℕ) (holds : B → K → Type 0) (differ : K → K → Type 0) (b : B) (ticket : K) (k : ℕ) (o : Option (Conn L K)) (c : Conn L K) (l : Lined L K) → IsLine slots order room → lined slots order ≡ l → sessions_of l.conns ≡ map number (tickets_of l.conns) → AreApart holds differ b (tickets_of l.conns ++ ticket ∷ []) → k ≡ number ticket % l.room → k < l.room → o ≡ slice_index_or slots k o → o ≡ Some c → Told number holds differ b c.ticket ticket l.room
told_apart {L} {K} {B} slots order room number holds differ b ticket k o c l i v own apart e within is there =
    record {
      held = (apart.held p.0 c.ticket here, apart.held (length (tickets_of l.conns)) ticket behind);
      two = apart.two p.0 (length (tickets_of l.conns)) c.ticket ticket here behind (λ x. omega (arith, lt, x));
      slot = ap (λ s. s % l.room) (sym session) ∙ (ap (λ m. c.session % m) (sym n) ∙ (i.own k c lies ∙ e));
    }
  where
    n : length slots ≡ l.room
    n = ap (λ x. x.room) v

    lies : in_slot slots k ≡ Some c
    lies = lying_read slots k o (omega (arith, within, n)) is ∙ there

    p : (q : ℕ) × (slice_get order q ≡ Some k)
    p = i.listed k c lies

    standing : slice_get l.conns p.0 ≡ Some c
    standing = subst (λ x. slice_get x.conns p.0 ≡ Some c) v (line_at slots order i.lies p.0 k c p.1 lies)

    ticket_at : slice_get (tickets_of l.conns) p.0 ≡ Some c.ticket
    ticket_at = map_at (λ (x : Conn L K). x.ticket) l.conns p.0 c standing

    here : slice_get (tickets_of l.conns ++ ticket ∷ []) p.0 ≡ Some c.ticket
    here = front_at (tickets_of l.conns) (ticket ∷ []) p.0 c.ticket ticket_at

    behind : slice_get (tickets_of l.conns ++ ticket ∷ []) (length (tickets_of l.conns)) ≡ Some ticket
    behind = last_at (tickets_of l.conns) ticket

    lt : p.0 < length (tickets_of l.conns)
    lt = slice_get_within (tickets_of l.conns) p.0 c.ticket ticket_at

    session : c.session ≡ number c.ticket
    session =
        some_is c.session (number c.ticket)
        (sym (map_at (λ (x : Conn L K). x.session) l.conns p.0 c standing) ∙ (ap (λ xs. slice_get xs p.0) own ∙ map_at number (tickets_of l.conns) p.0 c.ticket ticket_at))

-- with an empty slot no connection has it
pub none_there : {L K : Type 0} (slots : List (Option (Conn L K))) (order : List ℕ) (room s k : ℕ) (o : Option (Conn L K)) (l : Lined L K) → IsLine slots order room → lined slots order ≡ l → k ≡ s % l.room → k < l.room → o ≡ slice_index_or slots k o → o ≡ None → IsFree s l
none_there {L} {K} slots order room s k o l i v e within is none =
    free
  where
    n : length slots ≡ l.room
    n = ap (λ x. x.room) v

    empty : in_slot slots k ≡ None
    empty = lying_read slots k o (omega (arith, within, n)) is ∙ none

    free : (q : ℕ) (c : Conn L K) → slice_get l.conns q ≡ Some c → ¬ (c.session % l.room ≡ s % l.room)
    free q c g f =
        let here = subst (λ x. slice_get x.conns q ≡ Some c) (sym v) g in
        let slot : c.session % length slots ≡ k = ap (λ m. c.session % m) n ∙ (f ∙ sym e) in
        not_none c (sym empty ∙ (ap (in_slot slots) (sym slot) ∙ (of_session slots order room i q c here).1))
