-- Where connections are tied to a worker, each session that ended was told its Connect and its Closed once over all logs.
use Rattle.std.proofs.Common.{◌≡◌, ◌⊎◌, ℕ, List, [], ◌∷◌, ◌++◌, length, refl, ap, ◌∙◌, subst, arith, Some, slice_get, inl, inr, zero, suc}
use Rattle.sw_lists.specs.Lists.{collect, Has}
use Rattle.sw_lists.proofs.Lists.{length_append}
use Rattle.sw_record.specs.Words.{Event, Connect, Packet, Closed, Finish, Task, Ended, Log}
use Rattle.sw_record.specs.declared.record.LinkRecord.{LinkRecord}
use Rattle.sw_record.specs.declared.record.LinkState.TheVariants.{Over}
use Rattle.sw_record.specs.declared.record.Record.{Record}
use Rattle.sw_record.specs.Terms.{Terms, HasLink}
use Rattle.sw_record.specs.Logs.{told_of, connect_in, closed_in, connects_of, closeds_of}
use Rattle.sw_record.specs.Order.{target, NoConnect, ConnectFirst, ClosedLast, InOrderKept}
use Rattle.sw_record.specs.Whole.{IsOwnEnd, WholeKept}

-- one log alone has it, once
one_place : {B : Type 0} (f : Log → List B) (logs : List Log) (k : ℕ) (log : Log) → slice_get logs k ≡ Some log → length (f log) ≡ 1 → ((j : ℕ) (other : Log) → slice_get logs j ≡ Some other → ¬ (j ≡ k) → f other ≡ []) → length (collect f logs) ≡ 1
one_place f [] k log there one none = absurd (cc)
one_place {B} f (x ∷ xs) zero log there one none =
    let same : x ≡ log = cc in
    let rest : collect f xs ≡ [] = silent xs (λ j other e. none (suc j) other e (λ z. omega arith)) in
    let a : length (f x) ≡ 1 = ap (λ (y : Log). length (f y)) same ∙ one in
    let b : length (collect f xs) ≡ 0 = ap (λ (zs : List B). length zs) rest in
    omega (arith, length_append (f x) (collect f xs))
  where
    silent : (ys : List Log) → ((j : ℕ) (other : Log) → slice_get ys j ≡ Some other → f other ≡ []) → collect f ys ≡ []
    silent [] g = refl
    silent (y ∷ ys) g = ap (λ (zs : List B). zs ++ collect f ys) (g zero y refl) ∙ silent ys (λ j other e. g (suc j) other e)
one_place {B} f (x ∷ xs) (suc k) log there one none =
    let a : f x ≡ [] = none zero x refl (λ z. omega arith) in
    let r : length (collect f xs) ≡ 1 = one_place f xs k log there one (λ j other e n. none (suc j) other e (λ z. n (omega arith))) in
    ap (λ (zs : List B). length (zs ++ collect f xs)) a ∙ r

-- a Connect that stands first, and a Closed that stands last, stand once
none_is : (es : List Event) (e : Event) → NoConnect es → Has e es → connect_in e ≡ [] ⊎ ⊥
none_is [] e n has = absurd (let q : slice_get [] has.0 ≡ Some e = has.1 in cc)
none_is (x ∷ xs) e n (zero, q) = inl (let s : x ≡ e = cc in subst (λ (y : Event). connect_in y ≡ []) s (front x n))
  where
    front : (y : Event) → connect_in y ++ collect connect_in xs ≡ [] → connect_in y ≡ []
    front (Connect s) m = absurd (cc)
    front (Packet s i b) m = refl
    front (Closed s) m = refl
    front (Finish i b) m = refl
    front (Task w i b) m = refl
none_is (x ∷ xs) e n (suc k, q) = none_is xs e (back x n) (k, q)
  where
    back : (y : Event) → connect_in y ++ collect connect_in xs ≡ [] → collect connect_in xs ≡ []
    back (Connect s) m = absurd (cc)
    back (Packet s i b) m = m
    back (Closed s) m = m
    back (Finish i b) m = m
    back (Task w i b) m = m

one_connect : (s : ℕ) (es : List Event) → ConnectFirst es → Has (Connect s) es → length (collect connect_in es) ≡ 1
one_connect s [] c has = absurd (let q : slice_get [] has.0 ≡ Some (Connect s) = has.1 in cc)
one_connect s (e ∷ es) c (zero, q) = let a : e ≡ Connect s = cc in ap (λ (y : Event). length (connect_in y ++ collect connect_in es)) a ∙ ap (λ (zs : List Event). length (Connect s ∷ zs)) c
one_connect s (e ∷ es) c (suc k, q) = elim (none_is es (Connect s) c (k, q)) [ inl n ↦ absurd (cc) | inr z ↦ absurd z ]

one_closed : (s : ℕ) (es : List Event) → ClosedLast es → Has (Closed s) es → length (collect closed_in es) ≡ 1
one_closed s [] c has = absurd (let q : slice_get [] has.0 ≡ Some (Closed s) = has.1 in cc)
one_closed s (Closed u ∷ es) c has = ap (λ (zs : List Event). length (Closed u ∷ collect closed_in zs)) c
one_closed s (Connect u ∷ es) c (zero, q) = absurd (let a : Connect u ≡ Closed s = cc in cc)
one_closed s (Connect u ∷ es) c (suc k, q) = one_closed s es c (k, q)
one_closed s (Packet u i b ∷ es) c (zero, q) = absurd (let a : Packet u i b ≡ Closed s = cc in cc)
one_closed s (Packet u i b ∷ es) c (suc k, q) = one_closed s es c (k, q)
one_closed s (Finish i b ∷ es) c (zero, q) = absurd (let a : Finish i b ≡ Closed s = cc in cc)
one_closed s (Finish i b ∷ es) c (suc k, q) = one_closed s es c (k, q)
one_closed s (Task w i b ∷ es) c (zero, q) = absurd (let a : Task w i b ≡ Closed s = cc in cc)
one_closed s (Task w i b ∷ es) c (suc k, q) = one_closed s es c (k, q)

pub connects_kept : (t : Terms) (r : Record) → InOrderKept t r → WholeKept t r → (s : ℕ) (l : LinkRecord) (e : Ended) → HasLink r.links s l → l.state ≡ Over e → IsOwnEnd t e → (log : Log) → slice_get r.workers (target t s l.ip) ≡ Some log → length (collect (connects_of s) r.workers) ≡ 1
connects_kept t r o w s l e has state mine log there =
    one_place (connects_of s) r.workers (target t s l.ip) log there (one_connect s (told_of s log) (o.at_target s l has log there).connect_first (w.told s l e has state mine log there).connect)
    (λ j other at n. ap (collect connect_in) (o.nowhere_else s l has j other at n))

pub closeds_kept : (t : Terms) (r : Record) → InOrderKept t r → WholeKept t r → (s : ℕ) (l : LinkRecord) (e : Ended) → HasLink r.links s l → l.state ≡ Over e → IsOwnEnd t e → (log : Log) → slice_get r.workers (target t s l.ip) ≡ Some log → length (collect (closeds_of s) r.workers) ≡ 1
closeds_kept t r o w s l e has state mine log there =
    one_place (closeds_of s) r.workers (target t s l.ip) log there (one_closed s (told_of s log) (o.at_target s l has log there).closed_last (w.told s l e has state mine log there).closed)
    (λ j other at n. ap (collect closed_in) (o.nowhere_else s l has j other at n))
