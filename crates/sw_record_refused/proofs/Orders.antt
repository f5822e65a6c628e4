-- Wrong orders are refused.
use Rattle.std.proofs.Common.{◌≡◌, ℕ, ◌<◌, ◌≤◌, true, false, List, [], ◌∷◌, refl, ap, ◌∙◌, arith, Option, Some, None, slice_get, inl, inr, zero, suc}
use Rattle.sw_record.specs.declared.record.LinkRecord.{LinkRecord}
use Rattle.sw_record.specs.Terms.{HasLink, session_of}
use Rattle.sw_record.specs.Words.{Connect, Packet, Closed, PeerEnd, Ended, Log}
use Rattle.sw_record_refused.specs.Wrong.{in_mode, heard, said, live, over, with_logs, binds, packet, found_bound}
use Rattle.sw_frame.specs.Cut.{cut}
use Rattle.sw_record.specs.Order.{InOrderKept, InOrderUid, NoStranger, IsOneSided}
use Rattle.sw_record.specs.Scattered.{Scattered}
use Rattle.sw_record.specs.Uids.{UidsRight}
use Rattle.sw_record_refused.specs.Refused.{RefusedOrders, RefusedUids, RefusedScattered}

-- the number of the first packet, and of the second
abbrev number_at : List (ℕ × List ℕ) → ℕ
number_at [] = 0
number_at (x ∷ xs) = x.0

abbrev second_at : List (ℕ × List ℕ) → ℕ
second_at [] = 7
second_at (x ∷ xs) = number_at xs

abbrev number_in : Option (ℕ × List ℕ) → ℕ
number_in None = 9
number_in (Some p) = p.0

abbrev swapped_log : Log
swapped_log = packet 2 1 98 ∷ packet 2 0 97 ∷ []

swapped : InOrderKept (in_mode 2) (with_logs (live 2) swapped_log [] []) → ⊥
unfolding cut
swapped h =
    let p = (h.at_target 2 (live 2) (record { at = 0; there = refl; session = refl }) swapped_log refl).packets in
    let e : ◌≡◌ {A = ℕ} 1 0 = ap number_at p.1 in omega arith

abbrev twice_log : Log
twice_log = packet 2 0 97 ∷ packet 2 0 97 ∷ []

twice : InOrderKept (in_mode 2) (with_logs (live 2) twice_log [] []) → ⊥
unfolding cut
twice h =
    let p = (h.at_target 2 (live 2) (record { at = 0; there = refl; session = refl }) twice_log refl).packets in
    let e : ◌≡◌ {A = ℕ} 0 1 = ap second_at p.1 in omega arith

elsewhere : InOrderKept (in_mode 2) (with_logs (live 2) [] (packet 2 0 97 ∷ []) []) → ⊥
elsewhere h = let e : Packet 2 0 (97 ∷ []) ∷ [] ≡ [] = h.nowhere_else 2 (live 2) (record { at = 0; there = refl; session = refl }) 1 (packet 2 0 97 ∷ []) refl (λ q. (let x : ◌≡◌ {A = ℕ} 1 0 = q in omega arith)) in cc

abbrev late_log : Log
late_log = packet 2 0 97 ∷ heard (Connect 2) ∷ []

late_connect : InOrderKept (in_mode 2) (with_logs (live 2) late_log [] []) → ⊥
late_connect h = let e : Connect 2 ∷ [] ≡ [] = (h.at_target 2 (live 2) (record { at = 0; there = refl; session = refl }) late_log refl).connect_first in cc

abbrev early_log : Log
early_log = heard (Closed 2) ∷ packet 2 0 97 ∷ []

early_closed : InOrderKept (in_mode 2) (with_logs (live 2) early_log [] []) → ⊥
early_closed h = let e : Packet 2 0 (97 ∷ []) ∷ [] ≡ [] = (h.at_target 2 (live 2) (record { at = 0; there = refl; session = refl }) early_log refl).closed_last in cc

-- the only link has session 2
abbrev number_of : Option ℕ → ℕ
number_of None = 0
number_of (Some n) = n

abbrev session_in : Option LinkRecord → ℕ
session_in None = 0
session_in (Some l) = number_of (session_of l.state)

only_two : (l : LinkRecord) → HasLink (live 2 ∷ []) 4 l → ⊥
only_two l has = by has.at has.there
  where
    by : (at : ℕ) → slice_get (live 2 ∷ []) at ≡ Some l → ⊥
    by zero e = let q : ◌≡◌ {A = ℕ} 2 4 = ap session_in e ∙ ap number_of has.session in omega arith
    by (suc n) e = let q : ◌≡◌ {A = ℕ} 0 4 = ap session_in e ∙ ap number_of has.session in omega arith

stranger : NoStranger (with_logs (live 2) (packet 4 0 97 ∷ []) [] []) → ⊥
stranger h = let e : Packet 4 0 (97 ∷ []) ∷ [] ≡ [] = h 0 (packet 4 0 97 ∷ []) refl 4 only_two in cc

pub orders : RefusedOrders
orders = record { swapped = swapped; twice = twice; elsewhere = elsewhere; late_connect = late_connect; early_closed = early_closed; stranger = stranger }

abbrev behind : Ended
behind = record (said 1 2 PeerEnd) { uid = 4; split = 1 }

two_sides : IsOneSided (in_mode 5) 1 4 → ⊥
two_sides (inl e) = omega arith
two_sides (inr e) = let q : ◌≡◌ {A = ℕ} 0 1 = e in omega arith

side : InOrderUid (in_mode 5) (with_logs (over behind) [] (packet 1 1 98 ∷ []) []) → ⊥
unfolding cut
side h =
    let p = h.before 1 (over behind) behind (record { at = 0; there = refl; session = refl }) refl two_sides (packet 1 1 98 ∷ []) refl in
    let e : ◌≡◌ {A = ℕ} 1 0 = ap number_at p.1 in omega arith

connects : InOrderUid (in_mode 5) (with_logs (live 1) (heard (Connect 1) ∷ []) (heard (Connect 1) ∷ []) []) → ⊥
connects h = let e : 2 ≤ 1 = h.connects 1 (live 1) (record { at = 0; there = refl; session = refl }) in omega arith

bound_twice : UidsRight (in_mode 5) (with_logs (live 2) binds binds []) → ⊥
bound_twice h = let e : 2 ≤ 1 = h.once 2 in omega arith

abbrev unbound_end : Ended
unbound_end = record (said 2 2 PeerEnd) { uid = 7 }

unbound : UidsRight (in_mode 5) (with_logs (over unbound_end) [] [] []) → ⊥
unbound h = let e : ◌≡◌ {A = ℕ} 7 0 = h.over 2 (over unbound_end) unbound_end (record { at = 0; there = refl; session = refl }) refl (λ x. (let q : false ≡ true = x.0 in cc)) in omega arith

found : UidsRight (in_mode 5) (with_logs (live 2) found_bound [] []) → ⊥
found h = let e : ◌≡◌ {A = ℕ} 9 0 = (h.bound 0 found_bound refl).0 in omega arith

pub uids : RefusedUids
uids = record { side = side; connects = connects; twice = bound_twice; unbound = unbound; found = found }

scattered_twice : Scattered (in_mode 1) (with_logs (live 1) (packet 1 0 97 ∷ []) (packet 1 0 97 ∷ []) []) → ⊥
scattered_twice h = (h.once 1 (live 1) (record { at = 0; there = refl; session = refl }) 0 1 (packet 1 0 97 ∷ []) (packet 1 0 97 ∷ []) refl refl (λ q. (let x : ◌≡◌ {A = ℕ} 0 1 = q in omega arith))).0.0 refl

abbrev falling_log : Log
falling_log = packet 1 1 98 ∷ packet 1 0 97 ∷ []

falling : Scattered (in_mode 1) (with_logs (live 1) falling_log [] []) → ⊥
falling h = let e : 1 < 0 = (h.rise 1 (live 1) (record { at = 0; there = refl; session = refl }) 0 falling_log refl).0.0 in omega arith

invented : Scattered (in_mode 1) (with_logs (live 1) (packet 1 5 97 ∷ []) [] []) → ⊥
unfolding cut
invented h = let p = (h.cut 1 (live 1) (record { at = 0; there = refl; session = refl }) 0 (packet 1 5 97 ∷ []) refl).0 in by p.0 p.1
  where
    by : (at : ℕ) → slice_get {X = ℕ × List ℕ} ((0, 97 ∷ []) ∷ (1, 98 ∷ []) ∷ []) at ≡ Some (5, 97 ∷ []) → ⊥
    by zero e = let q : ◌≡◌ {A = ℕ} 0 5 = ap number_in e in omega arith
    by (suc zero) e = let q : ◌≡◌ {A = ℕ} 1 5 = ap number_in e in omega arith
    by (suc (suc n)) e = let q : ◌≡◌ {A = ℕ} 9 5 = ap number_in e in omega arith

connect : Scattered (in_mode 1) (with_logs (live 1) (heard (Connect 1) ∷ []) [] []) → ⊥
connect h = let e : Connect 1 ∷ [] ≡ [] = h.no_connect 1 (live 1) (record { at = 0; there = refl; session = refl }) 0 (heard (Connect 1) ∷ []) refl in cc

pub scattered : RefusedScattered
scattered = record { twice = scattered_twice; falling = falling; invented = invented; connect = connect }
