-- Wrong sessions are refused.
use Rattle.std.proofs.Common.{◌≡◌, ℕ, ◌≤◌, List, [], ◌∷◌, refl, ap, arith, Option, Some, None}
use Rattle.sw_record.specs.declared.record.LinkRecord.{LinkRecord}
use Rattle.sw_record.specs.Words.{PeerEnd, NoSlot, Ended}
use Rattle.sw_record_refused.specs.Wrong.{in_mode, said, live, over}
use Rattle.sw_record.specs.Sessions.{SessionsOnce}
use Rattle.sw_record_refused.specs.Refused.{RefusedSessions}

abbrev number_of : Option ℕ → ℕ
number_of None = 0
number_of (Some n) = n

twice : (net : List LinkRecord) → SessionsOnce (in_mode 2) (record { links = live 1 ∷ live 1 ∷ []; workers = []; taskers = [] }) net → ⊥
twice net h = h.differ 0 1 (live 1) (live 1) 1 1 refl refl refl refl (omega arith) refl

passed_by : SessionsOnce (in_mode 2) (record { links = live 3 ∷ []; workers = []; taskers = [] }) (live 3 ∷ []) → ⊥
passed_by h = let e : ◌≡◌ {A = ℕ} 3 1 = ap number_of (h.next (omega arith) 0 (live 3) refl (omega arith)) in omega arith

abbrev wrong_fd : Ended
wrong_fd = record (said 1 2 PeerEnd) { fd = 5 }

descriptor : (net : List LinkRecord) → SessionsOnce (in_mode 2) (record { links = over wrong_fd ∷ []; workers = []; taskers = [] }) net → ⊥
descriptor net h = let e : ◌≡◌ {A = ℕ} 5 1 = h.descriptor 0 (over wrong_fd) wrong_fd 1 refl refl refl in omega arith

abbrev no_slot_end : Ended
no_slot_end = record (said 1 2 NoSlot) { session = None; fd = 0 }

no_slot : (net : List LinkRecord) → SessionsOnce (in_mode 2) (record { links = over no_slot_end ∷ []; workers = []; taskers = [] }) net → ⊥
no_slot net h = let e : 1024 ≤ 0 = (h.no_slot 0 (over no_slot_end) no_slot_end refl refl refl).1 in omega arith

pub sessions : RefusedSessions
sessions = record { twice = twice; passed_by = passed_by; descriptor = descriptor; no_slot = no_slot }
