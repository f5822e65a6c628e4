-- What the ends of a pipe make of their passes.
use Rattle.std.proofs.Common.{◌≡◌, ◌<◌, ◌≤◌, ℕ, zero, suc, false, List, [], ◌∷◌, ◌++◌, length, length-append, map, get_or, inl, inr, sym, refl, ap, ◌∙◌, subst, arith, ⊎_elim, Option, Some, None, MatchOption, All}
use Rattle.crossbeam_queue.specs.Fifo.{Held}
use Rattle.crossbeam_queue.specs.Passes.{Pass, view}
use Rattle.sw_pipe.specs.declared.mail.Mail.{Mail}
use Rattle.sw_pipe.specs.declared.rule.View.{View}
use Rattle.sw_pipe.specs.Mails.{of, mails, Behind}
use Rattle.sw_pipe.specs.Rule.{taker, shutter, In, Adds, AddsMarked, TakesNext, Shut}
use Rattle.sw_pipe.specs.Values.{PipeId, Pushed, pushed, fresh, left_of, HasNumber}
use Rattle.sw_pipe.specs.Places.{learnt_at, rest_at, IsEndAt}
use Rattle.sw_pipe.proofs.Steps.{none_of, none_of_mails}

get_mid : {A : Type 0} (xs zs : List A) (y d : A) → get_or ((xs ++ y ∷ []) ++ zs) (length xs) d ≡ y
get_mid [] zs y d = refl
get_mid (x ∷ xs) zs y d = get_mid xs zs y d

-- what holds of each holds of one in the middle
pub all_mid : {A : Type 0} (P : A → Type 0) (all xs zs : List A) (y : A) → All P all → all ≡ (xs ++ y ∷ []) ++ zs → P y
all_mid P all xs zs y h e =
    let long : length xs < length ((xs ++ y ∷ []) ++ zs) = let a = length-append (xs ++ y ∷ []) zs in let b = length-append xs (y ∷ []) in omega (arith, a, b) in
    let at : P (get_or all (length xs) y) = h (length xs) y (subst (λ (l : List _). length xs < length l) (sym e) long) in
    subst P (ap (λ (l : List _). get_or l (length xs) y) e ∙ get_mid xs zs y y) at

all_snoc : {A : Type 0} (P : A → Type 0) (xs : List A) (y : A) → All P xs → P y → All P (xs ++ y ∷ [])
all_snoc P [] y h p zero d lt = p
all_snoc P [] y h p (suc k) d lt = absurd (omega arith)
all_snoc P (x ∷ xs) y h p zero d lt = h zero d (omega arith)
all_snoc P (x ∷ xs) y h p (suc k) d lt = all_snoc P xs y (λ j e l. h (suc j) e (omega arith)) p k d (omega arith)

pub fresh-length : (M : Type 0) (pipe : PipeId) (n : ℕ) → length (fresh {M = M} pipe n) ≡ n
fresh-length M pipe zero = refl
fresh-length M pipe (suc n) = let l = length-append (fresh {M = M} pipe n) (pushed pipe n 0 [] false ∷ []) in let h = fresh-length M pipe n in omega (arith, l, h)

module _ {M : Type 0} where
  pub fresh_of_pipe : (pipe : PipeId) (n : ℕ) → All (λ s. s.pipe ≡ pipe) (fresh {M = M} pipe n)
  fresh_of_pipe pipe zero = λ k d lt. absurd (omega arith)
  fresh_of_pipe pipe (suc n) = all_snoc (λ (s : Pushed M). s.pipe ≡ pipe) (fresh pipe n) (pushed pipe n 0 [] false) (fresh_of_pipe pipe n) refl

  abbrev pub pair : Pushed M → ℕ × List (ℕ × M)
  pair s = (s.number, s.pushed)

  in_at : (ss : List (Pushed M)) (k : ℕ) (d : Pushed M) → k < length ss → In (pair (get_or ss k d)) (map pair ss)
  in_at [] k d h = absurd (omega arith)
  in_at (s ∷ ss) zero d h = inl refl
  in_at (s ∷ ss) (suc k) d h = inr (in_at ss k d (omega arith))

  pub end_at : (o : Option (Mail M)) (m : Mail M) (p : Pass (Mail M) (View M)) → o ≡ Some m → IsEndAt o p → view p ≡ shutter (learnt_at p) (rest_at p)
  end_at o m p e h = subst (λ (x : Option (Mail M)). IsEndAt x p) e h

  no_mails : (ms : List (ℕ × Mail M)) (items : List (Mail M)) → mails ms ≡ items → length items ≡ 0 → ms ≡ []
  no_mails ms items e z = none_of_mails ms (e ∙ none_of items z)

  pub next_rest : (o : Option (Mail M)) (v w : View M) → MatchOption o ((w ≡ v) × Held 0 (λ items. mails v.rest ≡ items)) (λ x. TakesNext v x w)
      → v.rest ≡ left_of o w.learnt w.rest
  next_rest None v w h = no_mails v.rest h.1.0 h.1.2 h.1.1
  next_rest (Some x) v w h = h.0

  pub closes : (o : Option (Mail M)) (v w : View M) → MatchOption o ((w ≡ v) × Held 0 (λ items. AddsMarked v items)) (λ x. Shut v x w)
      → Adds v (left_of o w.learnt w.rest)
  closes None v w h = let a = h.1.2 in subst (λ (l : List (ℕ × Mail M)). Adds v l) (no_mails a.0 h.1.0 a.1 h.1.1) a.2
  closes (Some x) v w h = h.0

  pub each_of : (v : View M) (left : List (ℕ × Mail M)) (ss : List (Pushed M)) (got : List (ℕ × Mail M)) (made out : ℕ) (due : List (ℕ × ℕ)) → v ≡ taker got made out (map pair ss) due → Adds v left
      → All (λ s. s.pushed ≡ of s.number got ++ of s.number left) ss
  each_of v left ss got made out due e h k d lt =
      let a : Adds (taker got made out (map pair ss) due) left = subst (λ (u : View M). Adds u left) e h in
      a.each (pair (get_or ss k d)) (in_at ss k d lt)

  pub none_of_others : (v : View M) (left : List (ℕ × Mail M)) (got : List (ℕ × Mail M)) (made out : ℕ) (known : List (ℕ × List (ℕ × M))) (due : List (ℕ × ℕ)) → v ≡ taker got made out known due → Adds v left
      → (p : ℕ) → made ≤ p → of p (got ++ left) ≡ []
  none_of_others v left got made out known due e h p le =
      let a : Adds (taker got made out known due) left = subst (λ (u : View M). Adds u left) e h in a.none_else p le

  pub all_behind : (v : View M) (left : List (ℕ × Mail M)) (got : List (ℕ × Mail M)) (made out : ℕ) (known : List (ℕ × List (ℕ × M))) (due : List (ℕ × ℕ)) → v ≡ taker got made out known due → Adds v left → Behind (got ++ left)
  all_behind v left got made out known due e h =
      let a : Adds (taker got made out known due) left = subst (λ (u : View M). Adds u left) e h in a.behind

  number_of : (p : ℕ) (ms : List (ℕ × M)) (ss : List (Pushed M)) → In (p, ms) (map pair ss) → HasNumber p ss
  number_of p ms [] h = h
  number_of p ms (s ∷ ss) h = ⊎_elim (λ (t : (p, ms) ≡ pair s). inl (ap (λ (y : ℕ × List (ℕ × M)). y.0) t)) (λ (t : In (p, ms) (map pair ss)). inr (number_of p ms ss t)) h

  pub each_number : (v : View M) (left : List (ℕ × Mail M)) (ss : List (Pushed M)) (got : List (ℕ × Mail M)) (made out : ℕ) (due : List (ℕ × ℕ)) → v ≡ taker got made out (map pair ss) due → out ≡ 0 → Adds v left
      → (p : ℕ) → p < made → HasNumber p ss
  each_number v left ss got made out due e none h p lt =
      let a : Adds (taker got made out (map pair ss) due) left = subst (λ (u : View M). Adds u left) e h in
      let l = a.covers none p lt in number_of p l.0 ss l.1
