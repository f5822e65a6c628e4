-- What Whole says of ends is said of every link once all actors are finished.
use Rattle.std.proofs.Common.{◌≡◌, ◌⊎◌, ℕ, ◌+◌, ◌%◌, ◌<◌, ◌≤◌, ◌==◌, Bool, true, false, if◌then◌else◌, List, [], ◌∷◌, ◌++◌, length, take, drop, refl, ap, ◌∙◌, sym, subst, arith, Some, slice_get, inl, inr, zero, suc}
use Rattle.sw_lists.proofs.Lists.{equal_or_not}
use Rattle.sw_lists.specs.Lists.{Has}
use Rattle.sw_step.specs.declared.actor.ActorId.TheVariants.{Worker}
use Rattle.sw_record.specs.Drained.{AllSettled, AllHandled}
use Rattle.sw_record.specs.Logs.{Handled, numbers}
use Rattle.sw_record.specs.Order.{target, side, IsOneSided}
use Rattle.sw_record.specs.Own.{Own}
use Rattle.sw_record.specs.Terms.{Terms, HasLink, numbered, packets_cut, packets_on}
use Rattle.sw_record.specs.Whole.{IsOwnEnd, Whole, WholeKept, WholeUid, WholeScattered}
use Rattle.sw_record.specs.Words.{Ended, Log}
use Rattle.sw_record.specs.declared.record.LinkRecord.{LinkRecord}
use Rattle.sw_record.specs.declared.record.LinkState.{LinkState}
use Rattle.sw_record.specs.declared.record.LinkState.TheVariants.{Over}
use Rattle.sw_record.specs.declared.record.Record.{Record}
use Rattle.sw_past.specs.Past.{Past}
use Rattle.sw_join.proofs.Order.{take_drop}
use Rattle.sw_join.proofs.Scatter.{has_number, length_take}
use Rattle.sw_join.proofs.Tasks.{crew_has_log}
use Rattle.sw_join.proofs.Whole.{numbered_take_is}
use Rattle.sw_join.specs.Shown.{IsShown}

same_end : (state : LinkState) (e f : Ended) → state ≡ Over e → state ≡ Over f → e ≡ f
same_end state e f a b = let q : ◌≡◌ {A = LinkState} (Over e) (Over f) = sym a ∙ b in cc

less_mod : (a n : ℕ) → 1 ≤ n → a % n < n
less_mod a n le = omega arith

pub worker_log : (t : Terms) (h : Past) (r : Record) → IsShown t h r → (k : ℕ) → k < t.worker_num → slice_get r.workers k ≡ Some (h.log (Worker k))
worker_log t h r i k lt = ap (λ (xs : List Log). slice_get xs k) i.workers ∙ crew_has_log h Worker 0 t.worker_num k lt ∙ ap (λ (x : ℕ). Some (h.log (Worker x))) (let c : 0 + k ≡ k = omega arith in c)

pub target_less : (t : Terms) (s ip : ℕ) → 1 ≤ t.worker_num → target t s ip < t.worker_num
target_less t s ip le = pick (t.mode == 4)
  where
    pick : (b : Bool) → (if b then ip % t.worker_num else (s % t.max_conn) % t.worker_num) < t.worker_num
    pick true = less_mod ip t.worker_num le
    pick false = less_mod (s % t.max_conn) t.worker_num le

side_less : (t : Terms) (s u : ℕ) → 1 ≤ t.worker_num → side t s u < t.worker_num
side_less t s u le = pick (u == 0)
  where
    pick : (b : Bool) → (if b then (s % t.max_conn) % t.worker_num else u % t.worker_num) < t.worker_num
    pick true = less_mod (s % t.max_conn) t.worker_num le
    pick false = less_mod u t.worker_num le

-- a number below the first d packets' count is one of theirs
among_first : (d n : ℕ) (bs : List (List ℕ)) → n < d → d ≤ length bs → Has n (numbers (take d (numbered 0 bs)))
among_first d n bs lt le =
    subst (λ (ps : List (ℕ × List ℕ)). Has n (numbers ps)) (numbered_take_is 0 d bs)
    (subst (λ x. Has x (numbers (numbered 0 (take d bs)))) (let q : 0 + n ≡ n = omega arith in q) (has_number 0 n (take d bs) (let a : length (take d bs) ≡ d = length_take d bs le in omega arith)))

few_cut : (t : Terms) (r : Record) (own : Own r) → Whole t r own → (s : ℕ) (l : LinkRecord) (e : Ended) → HasLink r.links s l → l.state ≡ Over e → e.dispatched ≤ length (packets_cut t l.pieces)
few_cut t r own w s l e has state = let a : e.dispatched ≤ length (packets_on t l) = w.few s l e has state in omega (arith, length-numbered 0 (packets_cut t l.pieces))
  where
    length-numbered : (n : ℕ) (bs : List (List ℕ)) → length (numbered n bs) ≡ length bs
    length-numbered n [] = refl
    length-numbered n (b ∷ bs) = ap (λ k. suc k) (length-numbered (n + 1) bs)

pub handled_kept : (t : Terms) (h : Past) (r : Record) (own : Own r) → 1 ≤ t.worker_num → IsShown t h r → Whole t r own → WholeKept t r → AllSettled t r → AllHandled r
handled_kept t h r own some i w m d s l e has state n lt =
    let o = d.over s l has in
    let mine : IsOwnEnd t e = subst (IsOwnEnd t) (same_end l.state o.0 e o.1.0 state) o.1.1 in
    let there : slice_get r.workers (target t s l.ip) ≡ Some (h.log (Worker (target t s l.ip))) = worker_log t h r i (target t s l.ip) (target_less t s l.ip some) in
    let all = (m.told s l e has state mine (h.log (Worker (target t s l.ip))) there).packets in
    (target t s l.ip, (h.log (Worker (target t s l.ip)), (there, subst (λ (ps : List (ℕ × List ℕ)). Has n (numbers ps)) (sym all) (among_first e.dispatched n (packets_cut t l.pieces) lt (few_cut t r own w s l e has state)))))

has_either : (n : ℕ) (xs ys : List (ℕ × List ℕ)) → Has n (numbers (xs ++ ys)) → Has n (numbers xs) ⊎ Has n (numbers ys)
has_either n [] ys h = inr h
has_either n (x ∷ xs) ys (zero, e) = inl (0, e)
has_either n (x ∷ xs) ys (suc k, e) = elim (has_either n xs ys (k, e)) [ inl a ↦ inl (suc a.0, a.1) | inr b ↦ inr b ]

one_sided : (t : Terms) (s u : ℕ) → IsOneSided t s u ⊎ (¬ IsOneSided t s u)
one_sided t s u = elim (equal_or_not u 0) [
  | inl e ↦ inl (inl e)
  | inr n ↦ elim (equal_or_not (side t s u) (side t s 0)) [ inl e ↦ inl (inr e) | inr m ↦ inr (λ x. elim x [ inl e ↦ n e | inr e ↦ m e ]) ]
]

pub handled_uid : (t : Terms) (h : Past) (r : Record) (own : Own r) → 1 ≤ t.worker_num → IsShown t h r → Whole t r own → WholeUid t r → AllSettled t r → AllHandled r
handled_uid t h r own some i w m d s l e has state n lt =
    let o = d.over s l has in
    let mine : IsOwnEnd t e = subst (IsOwnEnd t) (same_end l.state o.0 e o.1.0 state) o.1.1 in
    let all : Has n (numbers (take e.dispatched (packets_on t l))) = among_first e.dispatched n (packets_cut t l.pieces) lt (few_cut t r own w s l e has state) in
    by mine all (one_sided t s e.uid)
  where
    log_at_side : (u : ℕ) → slice_get r.workers (side t s u) ≡ Some (h.log (Worker (side t s u)))
    log_at_side u = worker_log t h r i (side t s u) (side_less t s u some)

    by : IsOwnEnd t e → Has n (numbers (take e.dispatched (packets_on t l))) → IsOneSided t s e.uid ⊎ (¬ IsOneSided t s e.uid) → (k : ℕ) × ((log : Log) × ((slice_get r.workers k ≡ Some log) × Has n (numbers (Handled log s))))
    by mine all (inl sided) = (side t s 0, (h.log (Worker (side t s 0)), (log_at_side 0, subst (λ (ps : List (ℕ × List ℕ)). Has n (numbers ps)) (sym (m.one s l e has state mine sided (h.log (Worker (side t s 0))) (log_at_side 0))) all)))
    by mine all (inr two) = elim (has_either n (take e.split (take e.dispatched (packets_on t l))) (drop e.split (take e.dispatched (packets_on t l))) (subst (λ (ps : List (ℕ × List ℕ)). Has n (numbers ps)) (sym (take_drop e.split (take e.dispatched (packets_on t l)))) all)) [
      | inl a ↦ (side t s 0, (h.log (Worker (side t s 0)), (log_at_side 0, subst (λ (ps : List (ℕ × List ℕ)). Has n (numbers ps)) (sym (m.before s l e has state mine two (h.log (Worker (side t s 0))) (log_at_side 0))) a)))
      | inr b ↦ (side t s e.uid, (h.log (Worker (side t s e.uid)), (log_at_side e.uid, subst (λ (ps : List (ℕ × List ℕ)). Has n (numbers ps)) (sym (m.behind s l e has state mine two (h.log (Worker (side t s e.uid))) (log_at_side e.uid))) b)))
    ]

pub handled_scattered : (t : Terms) (r : Record) → WholeScattered t r → AllSettled t r → AllHandled r
handled_scattered t r m d s l e has state n lt =
    let o = d.over s l has in
    m s l e has state (subst (IsOwnEnd t) (same_end l.state o.0 e o.1.0 state) o.1.1) n lt
