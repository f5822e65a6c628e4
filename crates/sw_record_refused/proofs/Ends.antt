-- Ends that are not whole are refused, and records that are not drained.
use Rattle.std.proofs.Common.{◌≡◌, ℕ, ◌≤◌, true, false, [], ◌∷◌, ◌++◌, refl, ap, arith, Some, slice_get, inl, inr, zero, suc}
use Rattle.sw_record.specs.Words.{Connect, Closed, Act, Send, Done, PeerEnd, ServerClose, Log}
use Rattle.sw_record_refused.specs.Wrong.{in_mode, told, heard, said, live, over, with_logs, posts}
use Rattle.sw_frame.specs.Cut.{cut}
use Rattle.sw_record.specs.Own.{Own}
use Rattle.sw_record.specs.Logs.{EndsDone}
use Rattle.sw_record.specs.Whole.{Whole, WholeKept}
use Rattle.sw_record.specs.Drained.{AllSettled}
use Rattle.sw_record_refused.proofs.Tasks.{nothing}
use Rattle.sw_record_refused.specs.Refused.{RefusedWhole, RefusedEnds}

missing : (own : Own (with_logs (over (said 2 1 PeerEnd)) [] [] [])) → Whole (in_mode 2) (with_logs (over (said 2 1 PeerEnd)) [] [] []) own → ⊥
unfolding cut
missing own h = let e : ◌≡◌ {A = ℕ} 1 2 = h.all 2 (over (said 2 1 PeerEnd)) (said 2 1 PeerEnd) (record { at = 0; there = refl; session = refl }) refl tt in omega arith

too_many : (own : Own (with_logs (over (said 2 3 ServerClose)) [] [] [])) → Whole (in_mode 2) (with_logs (over (said 2 3 ServerClose)) [] [] []) own → ⊥
unfolding cut
too_many own h = let e : 3 ≤ 2 = h.few 2 (over (said 2 3 ServerClose)) (said 2 3 ServerClose) (record { at = 0; there = refl; session = refl }) refl in omega arith

unclosed : WholeKept (in_mode 2) (with_logs (over (said 2 0 ServerClose)) (heard (Connect 2) ∷ []) [] []) → ⊥
unclosed h = let p = (h.told 2 (over (said 2 0 ServerClose)) (said 2 0 ServerClose) (record { at = 0; there = refl; session = refl }) refl (λ x. (let q : false ≡ true = x.0 in cc)) (heard (Connect 2) ∷ []) refl).closed in by p.0 p.1
  where
    by : (at : ℕ) → slice_get (Connect 2 ∷ []) at ≡ Some (Closed 2) → ⊥
    by zero e = let q : Connect 2 ≡ Closed 2 = cc in cc
    by (suc n) e = cc

pub whole : RefusedWhole
whole = record { missing = missing; too_many = too_many; unclosed = unclosed }

lives : AllSettled (in_mode 2) (with_logs (live 2) [] [] []) → ⊥
lives h = let p = h.over 2 (live 2) (record { at = 0; there = refl; session = refl }) in cc

ungiven : AllSettled (in_mode 2) (with_logs (over (said 2 2 PeerEnd)) (posts 0) [] []) → ⊥
ungiven h = let p = h.tasks 0 (posts 0) refl 0 (omega arith) in nothing p.0 p.1.0 p.1.1.0 p.1.1.1

abbrev undone_log : Log
undone_log = told (Connect 2) (Send 2 (97 ∷ [])) ∷ []

abbrev act_at : Log → Act
act_at [] = Done
act_at (x ∷ xs) = x.1

not_done : EndsDone undone_log → ⊥
not_done ([], (g, e)) = let z : Send 2 (97 ∷ []) ≡ Done = ap act_at e in cc
not_done (x ∷ [], (g, e)) = let z : ◌≡◌ {A = Log} [] ((g, Done) ∷ []) = cc in cc
not_done (x ∷ y ∷ xs, (g, e)) = let z : ◌≡◌ {A = Log} [] (y ∷ (xs ++ (g, Done) ∷ [])) = cc in cc

undone : AllSettled (in_mode 2) (with_logs (over (said 2 2 PeerEnd)) undone_log [] []) → ⊥
undone h = elim (h.done 0 undone_log refl) [ inl e ↦ cc | inr e ↦ not_done e ]

pub ends : RefusedEnds
ends = record { lives = lives; ungiven = ungiven; undone = undone }
