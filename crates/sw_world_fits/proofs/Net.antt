-- Accepts of the net in memory are the ports' answers, and leave what the ports leave.
use Rattle.std.proofs.Common.{◌≡◌, ℕ, ◌+◌, min, Bool, true, false, if◌then◌else◌, List, [], ◌∷◌, ◌++◌, refl, ap, ◌∙◌, sym, subst, None}
use Rattle.sw_causes.specs.Causes.{most}
use Rattle.sw_link.specs.declared.net.Accept.{Accept}
use Rattle.sw_link.specs.declared.net.Accept.TheVariants.{NotYet, End, Failed}
use Rattle.sw_link.specs.declared.memory_link.MemoryLink.{MemoryLink}
use Rattle.sw_link.specs.MemoryNets.{Plan, Accepted, is_number, accept_next, counted_accept, memory_accept, AcceptsBy, with_link, closed}
use Rattle.sw_world_fits.specs.Net.{addresses, NetStands, AcceptIs, waits_then}

abbrev Fits : List ℕ → Bool → Accepted → Type 0
Fits waiting ended r = AcceptIs waiting ended r.answer × NetStands r.net (waits_then waiting r.answer) ended

by_links : (m : Plan) (links : List (MemoryLink × ℕ)) (waiting : List ℕ) (ended : Bool) → m.links ≡ links → addresses links ≡ waiting → m.ends ≡ ended → m.fail_at ≡ None → Fits waiting ended (accept_next m links)
by_links m ((link, ip) ∷ ls) waiting ended i a e n = subst (λ (w : List ℕ). Fits w ended (accept_next m ((link, ip) ∷ ls))) a ((addresses ls, refl), record { links = refl; ends = e; whole = n })
by_links m [] waiting ended i a e n = pick m.ends e
  where
    pick : (b : Bool) → b ≡ ended → Fits waiting ended (if b then record { answer = End; net = record m { at_end = true } } else record { answer = NotYet; net = m })
    pick true q = ((sym a, sym q), record { links = ap addresses i ∙ a; ends = e; whole = n })
    pick false q = ((sym a, sym q), record { links = ap addresses i ∙ a; ends = e; whole = n })

pub accept_fits : (n : Plan) (waiting : List ℕ) (ended : Bool) → NetStands n waiting ended → (a : Accept MemoryLink) (m : Plan) → AcceptsBy n a m → AcceptIs waiting ended a × NetStands m (waits_then waiting a) ended
accept_fits n waiting ended st a m by =
    let failed : Accepted = record { answer = Failed; net = record (counted_accept n) { faults = min (n.faults + 1) most } } in
    let never : is_number n.accepts n.fail_at ≡ false = ap (is_number n.accepts) st.whole in
    let same : memory_accept n ≡ accept_next (counted_accept n) n.links = ap (λ (b : Bool). if b then failed else accept_next (counted_accept n) n.links) never in
    let r : Fits waiting ended (memory_accept n) = subst (Fits waiting ended) (sym same) (by_links (counted_accept n) n.links waiting ended refl st.links st.ends st.whole) in
    subst (λ (x : Accept MemoryLink). AcceptIs waiting ended x × NetStands m (waits_then waiting x) ended) (sym by.0) (r.0, subst (λ (x : Plan). NetStands x (waits_then waiting (memory_accept n).answer) ended) (sym by.1) r.1)

-- a link that arrives, and the end
addresses_more : (ls : List (MemoryLink × ℕ)) (l : MemoryLink) (ip : ℕ) → addresses (ls ++ (l, ip) ∷ []) ≡ addresses ls ++ ip ∷ []
addresses_more [] l ip = refl
addresses_more (k ∷ ls) l ip = ap (λ (w : List ℕ). k.1 ∷ w) (addresses_more ls l ip)

pub arrive_fits : (n : Plan) (waiting : List ℕ) (ended : Bool) → NetStands n waiting ended → (l : MemoryLink) (ip : ℕ) → NetStands (with_link l ip n) (waiting ++ ip ∷ []) ended
arrive_fits n waiting ended st l ip = record { links = addresses_more n.links l ip ∙ ap (λ (w : List ℕ). w ++ ip ∷ []) st.links; ends = st.ends; whole = st.whole }

pub end_fits : (n : Plan) (waiting : List ℕ) (ended : Bool) → NetStands n waiting ended → NetStands (closed n) waiting true
end_fits n waiting ended st = record { links = st.links; ends = refl; whole = st.whole }
