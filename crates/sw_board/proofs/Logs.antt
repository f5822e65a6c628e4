-- What one step more does to what a list of steps comes to.
use Rattle.std.proofs.Common.{◌≡◌, ◌≤◌, ◌+◌, ◌||◌, ◌⊎◌, inl, inr, ℕ, Bool, true, false, true≢false, List, [], ◌∷◌, ◌++◌, sym, refl, ap, ◌∙◌, subst, append_assoc, append-nil, ⊎_elim, arith}
use mathlib.Core.Logic.{dite}
use native.Mathlib.Decide.{ℕ_discrete}
use Rattle.sw_base.specs.declared.counter.Counter.{Counter}
use Rattle.sw_port_board.specs.declared.board.BoardStep.{BoardStep}
use Rattle.sw_port_board.specs.declared.board.BoardStep.TheVariants.{Marked, Found, Stopped, SawStop, Added, Read}
use Rattle.sw_port_board.specs.Board.{In, adds, added, mark_after, mark_from, shows_stop, knows_stop, Agrees, AllAgree}
use Rattle.sw_board.specs.Rule.{Told}
use Rattle.sw_board.proofs.Moves.{put, put_here, put_else, in_longer}

pub added-append : (c : Counter) (xs ys : List BoardStep) → added c (xs ++ ys) ≡ added c xs + added c ys
added-append c [] ys = omega arith
added-append c (x ∷ xs) ys = let s = added-append c xs ys in omega (arith, s)

pub added_snoc : (c : Counter) (xs : List BoardStep) (x : BoardStep) → added c (xs ++ x ∷ []) ≡ added c xs + adds c x
added_snoc c xs x = let s = added-append c xs (x ∷ []) in omega (arith, s)

pub mark_snoc : (b : Bool) (xs : List BoardStep) (x : BoardStep) → mark_from b (xs ++ x ∷ []) ≡ mark_after (mark_from b xs) x
mark_snoc b [] x = refl
mark_snoc b (y ∷ ys) x = mark_snoc (mark_after b y) ys x

or_true : (a b : Bool) → (a || b) ≡ true → (a ≡ true) ⊎ (b ≡ true)
or_true true b e = inl refl
or_true false b e = inr e

or_left : (a b : Bool) → a ≡ true → (a || b) ≡ true
or_left true b e = refl
or_left false b e = absurd (true≢false (sym e))

or_right : (a b : Bool) → b ≡ true → (a || b) ≡ true
or_right true b e = refl
or_right false b e = e

pub stop_snoc : (xs : List BoardStep) (x : BoardStep) → knows_stop (xs ++ x ∷ []) ≡ true → (knows_stop xs ≡ true) ⊎ (shows_stop x ≡ true)
stop_snoc [] x e = ⊎_elim (λ t. inr t) (λ t. absurd (true≢false (sym t))) (or_true (shows_stop x) false e)
stop_snoc (y ∷ ys) x e = ⊎_elim (λ t. inl (or_left (shows_stop y) (knows_stop ys) t)) (λ t. ⊎_elim (λ s. inl (or_right (shows_stop y) (knows_stop ys) s)) (λ s. inr s) (stop_snoc ys x t)) (or_true (shows_stop y) (knows_stop (ys ++ x ∷ [])) e)

-- a step that shows the stop word set, among others
pub stop_in : (x : BoardStep) (xs : List BoardStep) → In x xs → shows_stop x ≡ true → knows_stop xs ≡ true
stop_in x [] h e = absurd h
stop_in x (y ∷ ys) h e = ⊎_elim (λ (t : x ≡ y). or_left (shows_stop y) (knows_stop ys) (sym (ap shows_stop t) ∙ e)) (λ t. or_right (shows_stop y) (knows_stop ys) (stop_in x ys t e)) h

pub agree_snoc : (self : ℕ) (before xs : List BoardStep) (x : BoardStep) → AllAgree self before xs → Agrees self (before ++ xs) x → AllAgree self before (xs ++ x ∷ [])
agree_snoc self before [] x h a = (subst (λ (l : List BoardStep). Agrees self l x) (append-nil before) a, tt)
agree_snoc self before (y ∷ ys) x h a = (h.0, agree_snoc self (before ++ y ∷ []) ys x h.1 (subst (λ (l : List BoardStep). Agrees self l x) (sym (append_assoc before (y ∷ []) ys)) a))

-- the later ones agree with all before them
pub agree_behind : (self : ℕ) (before xs ys : List BoardStep) → AllAgree self before (xs ++ ys) → AllAgree self (before ++ xs) ys
agree_behind self before [] ys h = subst (λ (l : List BoardStep). AllAgree self l ys) (sym (append-nil before)) h
agree_behind self before (x ∷ xs) ys h = subst (λ (l : List BoardStep). AllAgree self l ys) (append_assoc before (x ∷ []) xs) (agree_behind self (before ++ x ∷ []) xs ys h.1)

pub agree_join : (self : ℕ) (before xs ys : List BoardStep) → AllAgree self before xs → AllAgree self (before ++ xs) ys → AllAgree self before (xs ++ ys)
agree_join self before [] ys h k = subst (λ (l : List BoardStep). AllAgree self l ys) (append-nil before) k
agree_join self before (x ∷ xs) ys h k = (h.0, agree_join self (before ++ x ∷ []) xs ys h.1 (subst (λ (l : List BoardStep). AllAgree self l ys) (sym (append_assoc before (x ∷ []) xs)) k))

-- what was told stays right where an actor makes a step more
pub told_more : (actors a : ℕ) (steps : ℕ → List BoardStep) (xs : List BoardStep) (x y : BoardStep) → xs ≡ steps a → Told actors steps y → Told actors (put steps a (xs ++ x ∷ [])) y
told_more actors a steps xs x (Marked idle) e h = tt
told_more actors a steps xs x (Found b idle) e h = (
  h.0,
  λ t. dite (ℕ_discrete a b)
      (λ is. subst (λ (l : List BoardStep). In (Marked true) l) (sym (put_here steps a (xs ++ x ∷ []) b is)) (in_longer (Marked true) xs (x ∷ []) (subst (λ (l : List BoardStep). In (Marked true) l) (ap steps (sym is) ∙ sym e) (h.1 t))))
      (λ other. subst (λ (l : List BoardStep). In (Marked true) l) (sym (put_else steps a (xs ++ x ∷ []) b other)) (h.1 t)),
)
told_more actors a steps xs x Stopped e h = tt
told_more actors a steps xs x (SawStop set) e h = tt
told_more actors a steps xs x (Added c) e h = tt
told_more actors a steps xs x (Read c b n) e h = (
  h.0,
  dite (ℕ_discrete a b)
      (λ is. let s = added_snoc c xs x in let p : added c (put steps a (xs ++ x ∷ []) b) ≡ added c (xs ++ x ∷ []) = ap (added c) (put_here steps a (xs ++ x ∷ []) b is) in
      let q : added c (steps b) ≡ added c xs = ap (added c) (ap steps (sym is) ∙ sym e) in let k = h.1 in omega (arith, s, p, q, k))
      (λ other. subst (λ (l : List BoardStep). n ≤ added c l) (sym (put_else steps a (xs ++ x ∷ []) b other)) h.1),
)
