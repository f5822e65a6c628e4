-- A write to the link of the connection in a session's slot, in order of arrival.
use Rattle.std.proofs.Common.{◌≡◌, ℕ, zero, suc, ◌%◌, ◌==◌, Bool, true, false, if◌then◌else◌, List, [], ◌∷◌, length, slice_get, slice_set, slice_index_or, Option, Some, None, IsSome, refl, sym, ap, ◌∙◌, subst, arith}
use Rattle.std.proofs.lemmas.List.{length-set}
use Rattle.sw_conn.specs.declared.conn.Conn.{Conn}
use Rattle.sw_reactor.specs.Line.{Lined, lined, line_of, place_of, next_place, IsLine, link_of, linked, with_link, link_in, relinked}
use Rattle.sw_reactor.proofs.Keeping.{some_is}
use Rattle.sw_reactor.proofs.Slots.{not_none, lying_read, line_at, line_set, of_session, place_is, set_is_line, Living, lined_is}

next_none : (o : Option ℕ) → next_place o ≡ None → o ≡ None
next_none None e = refl
next_none (Some n) e = not_none (suc n) (sym e)

next_some : (o : Option ℕ) (p : ℕ) → next_place o ≡ Some (suc p) → o ≡ Some p
next_some None p e = not_none (suc p) e
next_some (Some n) p e = ap Some (same n p (some_is (suc n) (suc p) e))
  where
    same : (m q : ℕ) → suc m ≡ suc q → m ≡ q
    same m q h = omega (arith, h)

not_next : (o : Option ℕ) → next_place o ≡ Some 0 → ⊥
not_next None e = not_none 0 e
not_next (Some n) e = zero_not n (some_is (suc n) 0 e)
  where
    zero_not : (m : ℕ) → suc m ≡ 0 → ⊥
    zero_not m h = omega (arith, h)

one_not : (p : ℕ) → Some 0 ≡ Some (suc p) → ⊥
one_not p e = zero_not p (some_is 0 (suc p) e)
  where
    zero_not : (m : ℕ) → 0 ≡ suc m → ⊥
    zero_not m h = omega (arith, h)

-- where no connection has the session
pub link_none : {L K : Type 0} (s : ℕ) (cs : List (Conn L K)) → place_of s cs ≡ None → link_of s cs ≡ None
link_none s [] e = refl
link_none {L} {K} s (x ∷ cs) e = pick (x.session == s) (link_none s cs) e
  where
    pick : (b : Bool) → (place_of s cs ≡ None → link_of s cs ≡ None) → (if b then Some 0 else next_place (place_of s cs)) ≡ None → (if b then Some x.link else link_of s cs) ≡ None
    pick true rest h = not_none 0 (sym h)
    pick false rest h = rest (next_none (place_of s cs) h)

-- where one has it
link_here : {L K : Type 0} (s : ℕ) (cs : List (Conn L K)) (p : ℕ) (c : Conn L K) → place_of s cs ≡ Some p → slice_get cs p ≡ Some c → link_of s cs ≡ Some c.link
link_here s [] p c e g = not_none p e
link_here {L} {K} s (x ∷ cs) p c e g = pick (x.session == s) p (λ q. link_here s cs q c) e g
  where
    pick : (b : Bool) (q : ℕ) → ((r : ℕ) → place_of s cs ≡ Some r → slice_get cs r ≡ Some c → link_of s cs ≡ Some c.link) → (if b then Some 0 else next_place (place_of s cs)) ≡ Some q → slice_get (x ∷ cs) q ≡ Some c → (if b then Some x.link else link_of s cs) ≡ Some c.link
    pick true zero rest h k = ap (λ (y : Conn L K). Some y.link) (some_is x c k)
    pick true (suc q) rest h k = absurd (one_not q h)
    pick false zero rest h k = absurd (not_next (place_of s cs) h)
    pick false (suc q) rest h k = rest q (next_some (place_of s cs) q h) k

linked_here : {L K : Type 0} (s : ℕ) (w : L) (cs : List (Conn L K)) (p : ℕ) (c : Conn L K) → place_of s cs ≡ Some p → slice_get cs p ≡ Some c → slice_set cs p (record c { link = w }) ≡ linked s w cs
linked_here s w [] p c e g = not_none p e
linked_here {L} {K} s w (x ∷ cs) p c e g = pick (x.session == s) p (λ q. linked_here s w cs q c) e g
  where
    pick : (b : Bool) (q : ℕ) → ((r : ℕ) → place_of s cs ≡ Some r → slice_get cs r ≡ Some c → slice_set cs r (record c { link = w }) ≡ linked s w cs) → (if b then Some 0 else next_place (place_of s cs)) ≡ Some q → slice_get (x ∷ cs) q ≡ Some c → slice_set (x ∷ cs) q (record c { link = w }) ≡ (if b then record x { link = w } ∷ cs else x ∷ linked s w cs)
    pick true zero rest h k = ap (λ (y : Conn L K). record y { link = w } ∷ cs) (sym (some_is x c k))
    pick true (suc q) rest h k = absurd (one_not q h)
    pick false zero rest h k = absurd (not_next (place_of s cs) h)
    pick false (suc q) rest h k = ap (λ ys. x ∷ ys) (rest q (next_some (place_of s cs) q h) k)

-- where the connection of a session stands in order of arrival
record Stands {L K : Type 0} (slots : List (Option (Conn L K))) (order : List ℕ) (s k : ℕ) (c : Conn L K) : Type 0 where
  place : ℕ
  listed : slice_get order place ≡ Some k
  at : slice_get (line_of slots order) place ≡ Some c
  found : place_of s (line_of slots order) ≡ Some place

stands : {L K : Type 0} (slots : List (Option (Conn L K))) (order : List ℕ) (room s k : ℕ) → IsLine slots order room → (f : Living slots s k) → Stands slots order s k f.conn
stands {L} {K} slots order room s k i f =
    let p = i.listed k f.conn f.here in
    let at = line_at slots order i.lies p.0 k f.conn p.1 f.here in
    record { place = p.0; listed = p.1; at = at; found = place_is s (line_of slots order) p.0 f.conn at f.own (only p.0 p.1) }
  where
    only : (p : ℕ) → slice_get order p ≡ Some k → (q : ℕ) (x : Conn L K) → slice_get (line_of slots order) q ≡ Some x → x.session ≡ s → q ≡ p
    only p g q x h is = i.once q p k ((of_session slots order room i q x h).0 ∙ ap Some (ap (λ y. y % length slots) is ∙ sym f.slot)) g

-- what the code that indexes finds in the slot
there : {L K : Type 0} (slots : List (Option (Conn L K))) (s k : ℕ) (o : Option (Conn L K)) → (f : Living slots s k) → o ≡ slice_index_or slots k o → o ≡ Some f.conn
there slots s k o f e = sym (lying_read slots k o f.within e) ∙ f.here

pub is_there : {L K : Type 0} (slots : List (Option (Conn L K))) (s k : ℕ) (o : Option (Conn L K)) → Living slots s k → o ≡ slice_index_or slots k o → IsSome o
is_there {L} {K} slots s k o f e = subst (λ (y : Option (Conn L K)). IsSome y) (sym (there slots s k o f e)) refl

pub relinked_line : {L K : Type 0} (slots : List (Option (Conn L K))) (order : List ℕ) (room s k : ℕ) (o : Option (Conn L K)) (w : L) → IsLine slots order room → Living slots s k → o ≡ slice_index_or slots k o → IsLine (slice_set slots k (relinked o w)) order room
relinked_line slots order room s k o w i f e =
    subst (λ y. IsLine (slice_set slots k (relinked y w)) order room) (sym (there slots s k o f e)) (set_is_line slots order room k f.conn (record f.conn { link = w }) i f.here refl)

pub relinked_view : {L K : Type 0} (slots : List (Option (Conn L K))) (order : List ℕ) (room s k : ℕ) (o : Option (Conn L K)) (w : L) (l : Lined L K) → IsLine slots order room → lined slots order ≡ l → Living slots s k → o ≡ slice_index_or slots k o → lined (slice_set slots k (relinked o w)) order ≡ with_link l s w
relinked_view slots order room s k o w l i v f e =
    let t = stands slots order room s k i f in
    subst (λ x. lined (slice_set slots k (relinked o w)) order ≡ with_link x s w) v
    (lined_is (line_of (slice_set slots k (relinked o w)) order) (linked s w (line_of slots order)) (length (slice_set slots k (relinked o w))) (length slots)
    (ap (λ y. line_of (slice_set slots k (relinked y w)) order) (there slots s k o f e)
    ∙ (line_set slots order i.lies i.once t.place k (record f.conn { link = w }) t.listed f.within ∙ linked_here s w (line_of slots order) t.place f.conn t.found t.at))
    (length-set slots k (relinked o w)))

pub link_there : {L K : Type 0} (slots : List (Option (Conn L K))) (order : List ℕ) (room s k : ℕ) (o : Option (Conn L K)) (w : L) (l : Lined L K) → IsLine slots order room → lined slots order ≡ l → Living slots s k → o ≡ slice_index_or slots k o → link_in o ≡ Some w → link_of s l.conns ≡ Some w
link_there slots order room s k o w l i v f e is =
    let t = stands slots order room s k i f in
    subst (λ x. link_of s x.conns ≡ Some w) v
    (link_here s (line_of slots order) t.place f.conn t.found t.at ∙ (sym (ap link_in (there slots s k o f e)) ∙ is))
