-- Causes and counts that rest on nothing are refused.
use Rattle.std.proofs.Common.{◌≡◌, ℕ, ◌+◌, ◌≤◌, Bool, true, false, List, [], ◌∷◌, refl, ap, ◌∙◌, sym, subst, arith, Option, Some, None, slice_get, inl, inr, zero, suc}
use Rattle.sw_record.specs.declared.record.LinkRecord.{LinkRecord}
use Rattle.sw_record.specs.Terms.{HasLink, session_of}
use Rattle.sw_record.specs.Words.{Act, Send, Sent, PeerEnd, ServerClose, WriteFault, Stop, Close, Shutdown, SendsCount, Log}
use Rattle.sw_record_refused.specs.Wrong.{in_mode, said, live, over, with_logs, quiet, stranger_sent, refused_for_itself, full, counts_five, counts_none}
use Rattle.sw_record.specs.Own.{Own}
use Rattle.sw_record.specs.Causes.{SomeAsked, CausesRight}
use Rattle.sw_record.specs.Counts.{CountsRight}
use Rattle.sw_record_refused.specs.Refused.{RefusedCauses, RefusedCounts}

abbrev is_true : Option Bool → Bool
is_true None = false
is_true (Some b) = b

peer : (own : Own (with_logs (over (said 2 2 PeerEnd)) [] [] [])) → CausesRight (in_mode 2) (with_logs (over (said 2 2 PeerEnd)) [] [] []) quiet own → ⊥
peer own h = let e : false ≡ true = ap is_true (h.shows 0 (over (said 2 2 PeerEnd)) (said 2 2 PeerEnd) refl refl) in cc

write : (own : Own (with_logs (over (said 2 2 WriteFault)) [] [] [])) → CausesRight (in_mode 2) (with_logs (over (said 2 2 WriteFault)) [] [] []) quiet own → ⊥
write own h = let e : false ≡ true = ap is_true (h.shows 0 (over (said 2 2 WriteFault)) (said 2 2 WriteFault) refl refl) in cc

-- nobody asked for anything
silent : (act : Act) (l : LinkRecord) → SomeAsked (with_logs l [] [] []) act → ⊥
silent act l a = by a.k a.log a.there a.asked.at a.asked.there
  where
    by : (k : ℕ) (log : Log) → slice_get ([] ∷ [] ∷ [] ∷ []) k ≡ Some log → (at : ℕ) → slice_get log at ≡ Some (a.asked.given, act) → ⊥
    by zero log e at q = let same : [] ≡ log = cc in (let z : slice_get [] at ≡ Some (a.asked.given, act) = subst (λ (x : Log). slice_get x at ≡ Some (a.asked.given, act)) (sym same) q in cc)
    by (suc zero) log e at q = let same : [] ≡ log = cc in (let z : slice_get [] at ≡ Some (a.asked.given, act) = subst (λ (x : Log). slice_get x at ≡ Some (a.asked.given, act)) (sym same) q in cc)
    by (suc (suc zero)) log e at q = let same : [] ≡ log = cc in (let z : slice_get [] at ≡ Some (a.asked.given, act) = subst (λ (x : Log). slice_get x at ≡ Some (a.asked.given, act)) (sym same) q in cc)
    by (suc (suc (suc k))) log e at q = cc

close : (own : Own (with_logs (over (said 2 2 ServerClose)) [] [] [])) → CausesRight (in_mode 2) (with_logs (over (said 2 2 ServerClose)) [] [] []) quiet own → ⊥
close own h = silent (Close 2) (over (said 2 2 ServerClose)) (h.server_close 2 (over (said 2 2 ServerClose)) (said 2 2 ServerClose) (record { at = 0; there = refl; session = refl }) refl refl)

stop : (own : Own (with_logs (over (said 2 2 Stop)) [] [] [])) → CausesRight (in_mode 2) (with_logs (over (said 2 2 Stop)) [] [] []) quiet own → ⊥
stop own h = elim (h.stop 2 (over (said 2 2 Stop)) (said 2 2 Stop) (record { at = 0; there = refl; session = refl }) refl refl (λ x. (let q : false ≡ true = x.0 in cc)))
    [ inl e ↦ (let q : false ≡ true = e in cc) | inr a ↦ silent Shutdown (over (said 2 2 Stop)) a ]

abbrev number_of : Option ℕ → ℕ
number_of None = 0
number_of (Some n) = n

abbrev session_in : Option LinkRecord → ℕ
session_in None = 0
session_in (Some l) = number_of (session_of l.state)

only_two : (l : LinkRecord) → HasLink (live 2 ∷ []) 5 l → ⊥
only_two l has = by has.at has.there
  where
    by : (at : ℕ) → slice_get (live 2 ∷ []) at ≡ Some l → ⊥
    by zero e = let q : ◌≡◌ {A = ℕ} 2 5 = ap session_in e ∙ ap number_of has.session in omega arith
    by (suc n) e = let q : ◌≡◌ {A = ℕ} 0 5 = ap session_in e ∙ ap number_of has.session in omega arith

granted : (own : Own (with_logs (live 2) stranger_sent [] [])) → CausesRight (in_mode 2) (with_logs (live 2) stranger_sent [] []) quiet own → ⊥
granted own h = let p = (h.grants 0 stranger_sent refl).0 in only_two p.0 p.1

refused : (own : Own (with_logs (live 2) refused_for_itself [] [])) → CausesRight (in_mode 2) (with_logs (live 2) refused_for_itself [] []) quiet own → ⊥
refused own h = (h.refusals 0 refused_for_itself refl).0.0 refl

full_of_nothing : (own : Own (with_logs (live 2) full [] [])) → CausesRight (in_mode 2) (with_logs (live 2) full [] []) quiet own → ⊥
full_of_nothing own h = let e : 9 ≤ 0 + 2 = h.task_full 0 full refl (λ q. (let z : ◌≡◌ {A = List ℕ} (0 ∷ []) [] = q in cc)) in omega arith

pub causes : RefusedCauses
causes = record { peer = peer; write = write; close = close; stop = stop; granted = granted; refused = refused; full = full_of_nothing }

most : CountsRight (with_logs (live 2) counts_five [] []) → ⊥
most h = let e : 5 ≤ 1 = (h.most 0 counts_five refl).0 in omega arith

least : CountsRight (with_logs (live 2) counts_none [] []) → ⊥
least h = elim (h.least 0 counts_none refl ((Send 2 (97 ∷ []), Sent) ∷ []) [] SendsCount 0 refl) [ inl e ↦ (let q : 1 ≤ 0 = e in omega arith) | inr e ↦ (let q : ◌≡◌ {A = ℕ} 0 18446744073709551615 = e in omega arith) ]

pub counts : RefusedCounts
counts = record { most = most; least = least }
