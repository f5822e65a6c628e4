-- What the plain board's steps come to, one behind another.
use Rattle.std.proofs.Common.{◌≡◌, ℕ, ◌+◌, ◌%◌, ◌<◌, Bool, List, [], ◌∷◌, ◌++◌, length, map, get_or, sum, min, false, refl, sym, ap, ◌∙◌, subst, append_assoc, arith}
use Rattle.std.proofs.Math.Nat.{add-mod-mod, mod-eq_of_lt}
use Rattle.std.proofs.Math.Seq.{get_or-append_seam}
use Rattle.std.proofs.lemmas.List.Sums.{sum_by-append}
use Rattle.std.proofs.lemmas.List.{length-append, get_or_default}
use Rattle.sw_base.specs.declared.counter.Counter.{Counter}
use Rattle.sw_port_board.specs.declared.board.BoardStep.{BoardStep}
use Rattle.sw_port_board.specs.declared.board.BoardStep.TheVariants.{Found}
use Rattle.sw_port_board.specs.declared.counts.Counts.{Counts}
use Rattle.sw_port_board.specs.declared.crew.Crew.{Crew}
use Rattle.sw_port_board.specs.declared.crew.Crew.TheVariants.{Workers, Taskers}
use Rattle.sw_port_board.specs.declared.crew.Sizes.{Sizes}
use Rattle.sw_port_board.specs.Board.{capped, members, first_of, found_busy, reads_from, reads}
use Rattle.sw_port_board.specs.PlainBoard.{PlainWords, PlainShows, PlainGoes, plain_after, count_of, no_counts}

-- the member behind the n-th from `from` on
pub round : (from n size : ℕ) → ((from + n) % size + 1) % size ≡ (from + (n + 1)) % size
round from n size =
    let a : ((from + n) % size + 1) % size ≡ (1 + (from + n) % size) % size = ap (λ k. k % size) (omega arith) in
    let b : (1 + (from + n)) % size ≡ (from + (n + 1)) % size = ap (λ k. k % size) (omega arith) in
    a ∙ add-mod-mod 1 (from + n) size ∙ b

pub round_at : (from size : ℕ) → from < size → from ≡ (from + 0) % size
round_at from size lt = sym (ap (λ k. k % size) (let z : from + 0 ≡ from = omega arith in z) ∙ mod-eq_of_lt lt)

-- one step more
pub goes_on : (b d : PlainWords) (xs : List BoardStep) (x : BoardStep) → PlainGoes b xs d → PlainShows d x → PlainGoes b (xs ++ x ∷ []) (plain_after d x)
goes_on b d [] x g s = (subst (λ (e : PlainWords). PlainShows e x) g s, ap (λ (e : PlainWords). plain_after e x) g)
goes_on b d (y ∷ ys) x g s = (g.0, goes_on (plain_after b y) d ys x g.1 s)

-- the words of a counter, from an actor's on, are as they are found
reads_on : (b : PlainWords) (c : Counter) (before after : List Counts) → b.counts ≡ before ++ after → PlainGoes b (reads_from c (length before) (map (count_of c) after)) b
reads_on b c before [] e = refl
reads_on b c before (k ∷ ks) e = (
  sym (ap (λ (l : List Counts). count_of c (get_or l (length before) no_counts)) e ∙ ap (λ (x : Counts). count_of c x) (get_or-append_seam before k ks no_counts)),
  subst (λ n. PlainGoes b (reads_from c n (map (count_of c) ks)) b) (length-append before (k ∷ [])) (reads_on b c (before ++ k ∷ []) ks (e ∙ sym (append_assoc before (k ∷ []) ks))),
)

pub reads_all : (b : PlainWords) (c : Counter) → PlainGoes b (reads c (map (count_of c) b.counts)) b
reads_all b c = reads_on b c [] b.counts refl

-- a sum that stops at its greatest, one word more
pub capped_more : (t w : ℕ) (ns : List ℕ) → t ≡ capped (sum ns) → min (t + w) 18446744073709551615 ≡ capped (sum (ns ++ w ∷ []))
capped_more t w ns e = let s = sum_by-append (λ (n : ℕ). n) ns (w ∷ []) in omega (arith, e, s)

-- a member of a crew has an idle word
pub member_below : (crew : Crew) (z : Sizes) (m : ℕ) → m < members crew z → first_of crew z + m < z.workers + z.taskers
member_below Workers z m lt = omega (arith, lt)
member_below Taskers z m lt = omega (arith, lt)

-- the member behind those that were found busy is found so
pub looked : (b : PlainWords) (first size from n member : ℕ) (got : Bool) → first + member < length b.idle → got ≡ get_or b.idle (first + member) got
    → PlainGoes b (found_busy first size from n) b → PlainGoes b (found_busy first size from n ++ Found (first + member) got ∷ []) b
looked b first size from n member got lt is g = goes_on b b (found_busy first size from n) (Found (first + member) got) g (is ∙ get_or_default b.idle (first + member) got false lt)
