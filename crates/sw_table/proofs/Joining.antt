-- Seats joined into one: whose calls it has, and what it has learnt.
use Rattle.std.proofs.Common.{◌≡◌, ◌≢◌, ℕ, zero, suc, ◌+◌, ◌*◌, ◌<◌, ◌≤◌, List, [], ◌∷◌, ◌++◌, length, replicate, All, Option, Some, None, refl, ap, sym, ◌∙◌, subst, arith, append_assoc}
use Rattle.std.specs.Prelude.{sum_by}
use Rattle.std.proofs.lemmas.List.Elements.{All-nil, All-cons, All-head, All-tail}
use Rattle.std.proofs.lemmas.List.Sums.{sum_by-cons}
use Rattle.sw_rowlock.specs.History.{below, calls, others, merged, Begins, AllBegin, times_drawn, draws_from, placed_from, DrewAll}
use Rattle.sw_rowlock.specs.Seats.{IsSeatOf, all_parts}
use Rattle.sw_table_join.specs.Tables.{SharedNow, SeatView, IsReady, IsHands}
use Rattle.sw_table.specs.Closing.{IsJoined, IsDrained, Closed, times_by_all}

module _ {Q : Type 0} where
  -- which calls of what was seen are the seat's own doesn't count here
  begins_back : (xs : List (ℕ × Q)) (h : List Q) → Begins (others (calls xs)) h → Begins xs h
  begins_back [] h b = tt
  begins_back (x ∷ xs) [] b = absurd b
  begins_back (x ∷ xs) (q ∷ qs) b = (b.0, begins_back xs qs b.1)

  both_begin : (xss yss : List (List Q)) (h : List Q) → AllBegin (xss ++ yss) h → AllBegin xss h × AllBegin yss h
  both_begin [] yss h a = (tt, a)
  both_begin (xs ∷ xss) yss h a = let rest = both_begin xss yss h a.1 in ((a.0, rest.0), rest.1)

  -- the last of the histories that were learnt
  last_begins : (xss yss : List (List Q)) (zs : List (ℕ × Q)) (h : List Q) → AllBegin (xss ++ (yss ++ calls zs ∷ [])) h → AllBegin xss h × Begins zs h
  last_begins xss yss zs h a =
      let parts = both_begin xss (yss ++ calls zs ∷ []) h a in
      let end = both_begin yss (calls zs ∷ []) h parts.1 in
      (parts.0, begins_back zs h end.1.0)

  -- ---- a list of draws that has each place once

  -- the draws of what was seen from place n on have places n and above
  later : (n m : ℕ) (q : Q) (xs : List (ℕ × Q)) (rest : List (ℕ × Q)) → n < m → draws_from m xs ≡ (n, q) ∷ rest → ⊥
  later n m q [] rest lt e = absurd (cc)
  later n m q ((zero, r) ∷ xs) rest lt e = later n (m + 1) q xs rest (omega arith) e
  later n m q ((suc k, r) ∷ xs) rest lt e = let same : (m, r) ≡ (n, q) = cc in let at : m ≡ n = ap (λ (d : ℕ × Q). d.0) same in absurd (omega (arith, lt, at))

  twice : (n k : ℕ) (r : Q) (rest : List (ℕ × Q)) (qs : List Q) → (n, r) ∷ rest ≡ placed_from (n + 1) qs → ⊥
  twice n k r rest [] e = absurd (cc)
  twice n k r rest (q ∷ qs) e = let same : (n, r) ≡ (n + 1, q) = cc in let at : n ≡ n + 1 = ap (λ (d : ℕ × Q). d.0) same in absurd (omega (arith, at))

  once_from : (n : ℕ) (xs : List (ℕ × Q)) → draws_from n xs ≡ placed_from n (calls xs) → (p : ℕ) → times_drawn p xs ≡ below p (length (calls xs))
  once_from n [] e p = refl
  once_from n ((zero, q) ∷ xs) e p = absurd (later n (n + 1) q xs (placed_from (n + 1) (calls xs)) (omega arith) e)
  once_from n ((suc zero, q) ∷ xs) e zero = refl
  once_from n ((suc zero, q) ∷ xs) e (suc p) = let tail : draws_from (n + 1) xs ≡ placed_from (n + 1) (calls xs) = cc in once_from (n + 1) xs tail p
  once_from n ((suc (suc k), q) ∷ xs) e p =
      let tail : (n, q) ∷ (replicate k (n, q) ++ draws_from (n + 1) xs) ≡ placed_from (n + 1) (calls xs) = cc in
      absurd (twice n k q (replicate k (n, q) ++ draws_from (n + 1) xs) (calls xs) tail)

  -- who drew all drew each place once
  pub drew_once : (seen : List (ℕ × Q)) → DrewAll seen (calls seen) → (p : ℕ) → times_drawn p seen ≡ below p (length (calls seen))
  drew_once seen d p = once_from 0 seen d.drew_all p

-- ---- joining

pub join_none : (t : SharedNow) (rest : SeatView) → IsSeatOf t.locks rest → rest.row ≡ None → rest.pool ≡ None → IsJoined t rest [] rest
join_none t rest of row pool = record {
  of = of;
  parts = omega arith;
  no_row = row;
  no_pool = pool;
  marks = λ p. omega arith;
  learnt = λ all a. All-nil (λ (s : SeatView). Begins s.seen all);
}

pub join_one : (t : SharedNow) (rest : SeatView) (done : List SeatView) (seat other new : SeatView) (refusals : List (ℕ × ℕ)) → IsJoined t rest done seat → IsReady t 1 other
    → new ≡ record seat { parts = seat.parts + other.parts; seen = merged seat.seen other.seen; refusals = refusals; also = seat.also ++ (other.also ++ calls other.seen ∷ []) }
    → ((p : ℕ) → times_drawn p new.seen ≡ times_drawn p seat.seen + times_drawn p other.seen) → IsJoined t rest (other ∷ done) new
join_one t rest done seat other new refusals j r e draws = record {
  of = (ap (λ (s : SeatView). s.id) e ∙ j.of.0, ap (λ (s : SeatView). s.start) e ∙ j.of.1);
  parts =
      let a : new.parts ≡ seat.parts + other.parts = ap (λ (s : SeatView). s.parts) e in
      let b : seat.parts ≡ rest.parts + length done = j.parts in
      let c : other.parts ≡ 1 = r.has in
      omega (arith, a, b, c);
  no_row = ap (λ (s : SeatView). s.row) e ∙ j.no_row;
  no_pool = ap (λ (s : SeatView). s.pool) e ∙ j.no_pool;
  marks = λ p.
      let a = draws p in
      let b = j.marks p in
      let c : times_by_all p (other ∷ done) ≡ times_drawn p other.seen + times_by_all p done = sum_by-cons (λ (s : SeatView). times_drawn p s.seen) other done in
      omega (arith, a, b, c);
  learnt = λ all a.
      let parts = last_begins seat.also other.also other.seen all (subst (λ (s : SeatView). AllBegin s.also all) e a) in
      All-cons (λ (s : SeatView). Begins s.seen all) other done parts.1 (j.learnt all parts.0);
}

-- ---- the end

pub closed : (t : SharedNow) (rest : SeatView) (seats : List SeatView) (seat : SeatView) (plain : _) → rest.seen ≡ [] → IsJoined t rest seats seat → IsDrained t seat plain → Closed t seats plain
closed t rest seats seat plain none j d = record {
  all = calls seat.seen;
  legal = d.legal;
  begin = j.learnt (calls seat.seen) d.learnt;
  once = λ p.
      let a : times_drawn p seat.seen ≡ times_drawn p rest.seen + times_by_all p seats = j.marks p in
      let b : times_drawn p rest.seen ≡ 0 = ap (times_drawn p) none in
      let c = drew_once seat.seen d.drew p in
      omega (arith, a, b, c);
  left = d.left;
}

-- ---- one seat after the other, the last one first

all_mid : (P : SeatView → Type 0) (xs ys : List SeatView) (x : SeatView) → All P (xs ++ x ∷ ys) → P x
all_mid P [] ys x all = All-head P x ys all
all_mid P (y ∷ xs) ys x all = all_mid P xs ys x (All-tail P y (xs ++ x ∷ ys) all)

-- the seats that were joined, which stand behind those that are left
pub record Joining (t : SharedNow) (rest : SeatView) (all left : List SeatView) (seat : SeatView) : Type 0 where
  pub done : List SeatView
  pub parted : all ≡ left ++ done
  pub joined : IsJoined t rest done seat

pub join_start : (t : SharedNow) (rest : SeatView) (all : List SeatView) → IsSeatOf t.locks rest → rest.row ≡ None → rest.pool ≡ None → Joining t rest all all rest
join_start t rest all of row pool = record { done = []; parted = sym (end all); joined = join_none t rest of row pool }
  where
    end : (xs : List SeatView) → xs ++ [] ≡ xs
    end [] = refl
    end (x ∷ xs) = ap (λ (ys : List SeatView). x ∷ ys) (end xs)

pub join_next : (t : SharedNow) (rest : SeatView) (all left less : List SeatView) (seat other new : SeatView) (refusals : List (ℕ × ℕ)) → All (IsReady t 1) all → Joining t rest all left seat → left ≡ less ++ other ∷ []
    → new ≡ record seat { parts = seat.parts + other.parts; seen = merged seat.seen other.seen; refusals = refusals; also = seat.also ++ (other.also ++ calls other.seen ∷ []) }
    → ((p : ℕ) → times_drawn p new.seen ≡ times_drawn p seat.seen + times_drawn p other.seen) → Joining t rest all less new
join_next t rest all left less seat other new refusals ready j popped e draws =
    let parted : all ≡ less ++ other ∷ j.done = j.parted ∙ ap (λ (xs : List SeatView). xs ++ j.done) popped ∙ append_assoc less (other ∷ []) j.done in
    record {
      done = other ∷ j.done;
      parted = parted;
      joined = join_one t rest j.done seat other new refusals j.joined (all_mid (IsReady t 1) less j.done other (subst (All (IsReady t 1)) parted ready)) e draws;
    }

pub join_end : (t : SharedNow) (rest : SeatView) (all left : List SeatView) (seat : SeatView) → Joining t rest all left seat → length left ≡ 0 → IsJoined t rest all seat
join_end t rest all [] seat j e = subst (λ (xs : List SeatView). IsJoined t rest xs seat) (sym j.parted) j.joined
join_end t rest all (x ∷ left) seat j e = absurd (omega (arith, e))

-- all seats and the rest of the hands have all parts
pub all_ready : (t : SharedNow) (rest : SeatView) (made : ℕ) (seats : List SeatView) (seat : SeatView) → IsHands rest made → made ≡ length seats → IsJoined t rest seats seat → IsReady t all_parts seat
all_ready t rest made seats seat h e j = record {
  of = j.of;
  has = let a = h.parts in let b = j.parts in omega (arith, a, b, e);
  no_row = j.no_row;
  no_pool = j.no_pool;
}
