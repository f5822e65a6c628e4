-- From the logs that were taken in to the seats that were given.
use Rattle.std.proofs.Common.{◌≡◌, ◌<◌, ◌≤◌, ◌+◌, ◌⊎◌, inl, inr, ℕ, true, List, [], ◌∷◌, ◌++◌, length, sum, sym, refl, ap, ◌∙◌, subst, ⊎_elim, arith}
use Rattle.std.proofs.lemmas.List.Sums.{sum_by-append}
use mathlib.Core.Logic.{dite}
use native.Mathlib.Decide.{ℕ_discrete, dec_le}
use Rattle.sw_base.specs.declared.counter.Counter.{Counter}
use Rattle.sw_port_board.specs.declared.board.BoardStep.{BoardStep}
use Rattle.sw_port_board.specs.declared.board.BoardStep.TheVariants.{Marked, Stopped, Read}
use Rattle.sw_port_board.specs.Board.{In, capped, added, AllAgree, reads_from, reads}
use Rattle.sw_board.specs.declared.rule.Log.{Log}
use Rattle.sw_board.specs.Rule.{log, added_in, Settled}
use Rattle.sw_board.specs.Values.{SeatNow}
use Rattle.sw_board.specs.Close.{logs_of, actors_of, all_added, StopsMade, IdleMarked, SumsBounded, StepsAgree}
use Rattle.sw_board.proofs.Moves.{in_longer, in_behind, in_append}
use Rattle.sw_board.proofs.Logs.{added_snoc, agree_behind}

in_logs : (s : SeatNow) (ss : List SeatNow) → In s ss → In (log s.actor s.steps) (logs_of ss)
in_logs s [] i = i
in_logs s (t ∷ ts) i = ⊎_elim (λ (e : s ≡ t). inl (ap (λ (k : SeatNow). log k.actor k.steps) e)) (λ k. inr (in_logs s ts k)) i

of_log : (k : Log) (ss : List SeatNow) → In k (logs_of ss) → (t : SeatNow) × In t ss × (log t.actor t.steps ≡ k)
of_log k [] i = absurd i
of_log k (t ∷ ts) i = ⊎_elim (λ (e : k ≡ log t.actor t.steps). (t, inl refl, sym e)) (λ j. let r = of_log k ts j in (r.0, inr r.1, r.2)) i

-- the first behind the others
to_last : (s first : SeatNow) (taken : List SeatNow) → In s (first ∷ taken) → In s (taken ++ first ∷ [])
to_last s first taken i = ⊎_elim (λ e. in_behind s taken (first ∷ []) (inl e)) (λ k. in_longer s taken (first ∷ []) k) i

from_last : (s first : SeatNow) (taken : List SeatNow) → In s (taken ++ first ∷ []) → In s (first ∷ taken)
from_last s first taken i = ⊎_elim (λ k. inr k) (λ k. ⊎_elim (λ e. inl e) (λ j. absurd j) k) (in_append s taken (first ∷ []) i)

added_last : (c : Counter) (first : SeatNow) (taken : List SeatNow) → added_in c (logs_of (taken ++ first ∷ [])) ≡ all_added c (first ∷ taken)
added_last c first [] = refl
added_last c first (t ∷ ts) = let s = added_last c first ts in omega (arith, s)

pub count_last : (first : SeatNow) (taken : List SeatNow) → length (logs_of (taken ++ first ∷ [])) ≡ length (first ∷ taken)
count_last first [] = refl
count_last first (t ∷ ts) = let s = count_last first ts in omega (arith, s)

-- an actor's own word among those that it read
own_read : (self : ℕ) (c : Counter) (a : ℕ) (words : List ℕ) (before after : List BoardStep) → a ≤ self → self < a + length words → AllAgree self before (reads_from c a words ++ after) → capped (added c before) ≤ sum words
own_read self c a [] before after low high h = absurd (omega (arith, low, high))
own_read self c a (w ∷ ws) before after low high h =
    let s = sum_by-append (λ (n : ℕ). n) (w ∷ []) ws in
    dite (ℕ_discrete a self)
    (λ e. let now : w ≡ capped (added c before) = h.0 e in omega (arith, now, s))
    (λ ne. let t = own_read self c (a + 1) ws (before ++ Read c a w ∷ []) after (omega (arith, low, ne)) (omega (arith, high)) h.1 in
    let same : added c (before ++ Read c a w ∷ []) ≡ added c before + 0 = added_snoc c before (Read c a w) in omega (arith, t, same, s))

between : (n a s t : ℕ) → n ≡ capped s → s ≤ t → capped a ≤ s → (n ≤ t) × ((a ≤ n) ⊎ (n ≡ 18446744073709551615))
between n a s t e le own = (omega (arith, e, le), dite (dec_le a 18446744073709551615) (λ k. inl (omega (arith, e, own, k))) (λ k. inr (omega (arith, e, own, k))))

-- where the logs are those of the seats
pub record Known (seats : List SeatNow) (logs : List Log) : Type 0 where
  pub first : SeatNow
  pub taken : List SeatNow
  pub given : seats ≡ first ∷ taken
  pub all : logs ≡ logs_of (taken ++ first ∷ [])
  pub settled : Settled (actors_of seats) logs

to_logs : (seats : List SeatNow) (logs : List Log) (h : Known seats logs) (s : SeatNow) → In s seats → In (log s.actor s.steps) logs
to_logs seats logs h s i = subst (λ (l : List Log). In (log s.actor s.steps) l) (sym h.all) (in_logs s (h.taken ++ h.first ∷ []) (to_last s h.first h.taken (subst (λ (l : List SeatNow). In s l) h.given i)))

from_logs : (seats : List SeatNow) (logs : List Log) (h : Known seats logs) (k : Log) → In k logs → (t : SeatNow) × In t seats × (log t.actor t.steps ≡ k)
from_logs seats logs h k i =
    let r = of_log k (h.taken ++ h.first ∷ []) (subst (λ (l : List Log). In k l) h.all i) in
    (r.0, subst (λ (l : List SeatNow). In r.0 l) (sym h.given) (from_last r.0 h.first h.taken r.1), r.2)

pub stops_made : (seats : List SeatNow) (logs : List Log) → Known seats logs → StopsMade seats
stops_made seats logs h s i k =
    let l = h.settled.stops (log s.actor s.steps) (to_logs seats logs h s i) k in
    let t = from_logs seats logs h l.0 l.1 in
    (t.0, t.1, subst (λ (g : Log). In Stopped g.steps) (sym t.2) l.2)

pub idle_marked : (seats : List SeatNow) (logs : List Log) → Known seats logs → IdleMarked seats
idle_marked seats logs h s a i k =
    let l = h.settled.idles (log s.actor s.steps) a (to_logs seats logs h s i) k in
    let t = from_logs seats logs h l.0 l.1 in
    (t.0, t.1, ap (λ (g : Log). g.actor) t.2 ∙ l.2, subst (λ (g : Log). In (Marked true) g.steps) (sym t.2) l.3)

pub steps_agree : (seats : List SeatNow) (logs : List Log) → Known seats logs → StepsAgree seats
steps_agree seats logs h s i = (h.settled.agreed (log s.actor s.steps) (to_logs seats logs h s i)).1

pub sums_bounded : (seats : List SeatNow) (logs : List Log) → Known seats logs → SumsBounded seats
sums_bounded seats logs h s c before n i told =
    let words : List ℕ = told.0 in
    let after : List BoardStep = told.1 in
    let mine = to_logs seats logs h s i in
    let own = h.settled.agreed (log s.actor s.steps) mine in
    let le : sum words ≤ added_in c logs = h.settled.sums (log s.actor s.steps) c words mine told.2
    (λ x k. subst (λ (l : List BoardStep). In x l) (sym told.4) (in_behind x before (reads c words ++ after) (in_longer x (reads c words) after k))) in
    let all : added_in c logs ≡ all_added c seats = ap (added_in c) h.all ∙ added_last c h.first h.taken ∙ ap (all_added c) (sym h.given) in
    let agree : AllAgree s.actor before (reads c words ++ after) = agree_behind s.actor [] before (reads c words ++ after) (subst (λ (l : List BoardStep). AllAgree s.actor [] l) told.4 own.1) in
    let low = own_read s.actor c 0 words before after (omega arith) (let a = own.0 in let b = told.2 in omega (arith, a, b)) agree in
    between n (added c before) (sum words) (all_added c seats) told.3 (omega (arith, le, all)) low
