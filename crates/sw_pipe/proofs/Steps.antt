-- Each move keeps the rule of a pipe's queue.
use Rattle.std.proofs.Common.{◌≡◌, ◌≢◌, ◌<◌, ◌≤◌, ◌+◌, ◌-◌, ◌⊎◌, inl, inr, ℕ, zero, suc, Bool, true, false, true≢false, cond, eqb, eq-eqb, ne_eqb, List, [], ◌∷◌, ◌++◌, length, length-append, max, set, sym, refl, ap, ◌∙◌, subst, ⊎_elim, append_assoc, append-nil, lt_of_not-le, le_trans, le_refl, le_of_eq, get_or, All, arith}
use mathlib.Core.Option.{Option, some, none, some-injective, some-ne-none}
use mathlib.Core.Logic.{dite}
use native.Mathlib.Decide.{ℕ_discrete}
use lib.ListN.{get_elem?}
use Rattle.crossbeam_queue.specs.Fifo.{Pushes, Pops, Forks, Merges, Learns}
use Rattle.crossbeam_queue.proofs.Lists.{at_set, set_again, set_here, set_else, at_longer, at_last}
use Rattle.sw_pipe.specs.declared.mail.Mail.{Mail}
use Rattle.sw_pipe.specs.declared.rule.View.{View}
use Rattle.sw_pipe.specs.Mails.{of, mails, Behind, AllTaken}
use Rattle.sw_pipe.specs.Rule.{one_if, taker, sender, nobody, newcomer, senders_in, In, Listed, Manned, FitsSender, Fits, Delivers, shutter, note, count, Adds, AddsMarked, TakesOne, TakesNext, Shut}

at_snoc : {A : Type 0} (l : List A) (a b : A) (j : ℕ) → get_elem? (l ++ a ∷ []) j ≡ some b → (get_elem? l j ≡ some b) ⊎ ((j ≡ length l) × (a ≡ b))
at_snoc [] a b zero e = inr (refl, some-injective a b e)
at_snoc [] a b (suc j) e = absurd (some-ne-none b (sym e))
at_snoc (x ∷ xs) a b zero e = inl e
at_snoc (x ∷ xs) a b (suc j) e = ⊎_elim (λ t. inl t) (λ t. inr (ap suc t.0, t.1)) (at_snoc xs a b j e)

at_mid : {A : Type 0} (xs ys : List A) (y : A) → get_elem? (xs ++ y ∷ ys) (length xs) ≡ some y
at_mid [] ys y = refl
at_mid (x ∷ xs) ys y = at_mid xs ys y

at_below : {A : Type 0} (l : List A) (i : ℕ) (a : A) → get_elem? l i ≡ some a → i < length l
at_below [] i a e = absurd (some-ne-none a (sym e))
at_below (x ∷ xs) zero a e = omega arith
at_below (x ∷ xs) (suc i) a e = let r = at_below xs i a e in omega (arith, r)

-- what holds of the element that was set, and of each other at its place
after_set : {A : Type 0} (P : ℕ → A → Type 0) (l : List A) (i : ℕ) (a : A) → P i a → ((j : ℕ) (b : A) → j ≢ i → get_elem? l j ≡ some b → P j b) → (j : ℕ) (b : A) → get_elem? (set l i a) j ≡ some b → P j b
after_set {A} P l i a mine others j b e = ⊎_elim (λ (t : (j ≡ i) × (a ≡ b)). subst (λ (y : ℕ × A). P y.0 y.1) (λ k. (sym t.0 k, t.1 k)) mine)
    (λ (t : (j ≢ i) × (get_elem? l j ≡ some b)). others j b t.0 t.1) (at_set l i j a b e)

-- what holds of the new last element, and of each other at its place
after_snoc : {A : Type 0} (P : ℕ → A → Type 0) (l : List A) (a : A) → P (length l) a → ((j : ℕ) (b : A) → get_elem? l j ≡ some b → P j b) → (j : ℕ) (b : A) → get_elem? (l ++ a ∷ []) j ≡ some b → P j b
after_snoc {A} P l a mine others j b e = ⊎_elim (λ (t : get_elem? l j ≡ some b). others j b t)
    (λ (t : (j ≡ length l) × (a ≡ b)). subst (λ (y : ℕ × A). P y.0 y.1) (λ k. (sym t.0 k, t.1 k)) mine) (at_snoc l a b j e)

same_eqb : (n p : ℕ) {A : Type 0} (a b : A) → n ≡ p → cond (eqb n p) a b ≡ a
same_eqb n p a b e = ap (λ (t : Bool). cond t a b) (eq-eqb n p e)

else_eqb : (n p : ℕ) {A : Type 0} (a b : A) → n ≢ p → cond (eqb n p) a b ≡ b
else_eqb n p a b e = ap (λ (t : Bool). cond t a b) (ne_eqb n p e)

-- two numbers with two seats, or one with none, are two
apart : (seat : ℕ → Option ℕ) (n p j port : ℕ) → seat n ≡ some port → seat p ≡ some j → j ≢ port → n ≢ p
apart seat n p j port a b ne e = ne (some-injective j port (sym b ∙ ap seat (sym e) ∙ a))

apart_free : (seat : ℕ → Option ℕ) (n p port : ℕ) → seat n ≡ some port → seat p ≡ none → n ≢ p
apart_free seat n p port a b e = some-ne-none port (sym a ∙ ap seat e ∙ b)

abbrev tail : {A : Type 0} → List A → List A
tail [] = []
tail (x ∷ xs) = xs

longer : {A : Type 0} (b : Bool) (xs ys : List A) (y : A) → xs ≡ ys → xs ++ cond b (y ∷ []) [] ≡ cond b (ys ++ y ∷ []) ys
longer true xs ys y e = ap (λ l. l ++ y ∷ []) e
longer false xs ys y e = append-nil xs ∙ e

grown : {A : Type 0} (b : Bool) (xs : List A) (y : A) → length xs ≤ length (cond b (xs ++ y ∷ []) xs)
grown true xs y = let l = length-append xs (y ∷ []) in omega (arith, l)
grown false xs y = le_refl (length xs)

never : {A : Type 0} → false ≡ true → A
never e = absurd (true≢false (sym e))

pub none_of : {A : Type 0} (xs : List A) → length xs ≡ 0 → xs ≡ []
none_of [] e = refl
none_of (x ∷ xs) e = absurd (omega arith)

all_cons : {A : Type 0} (P : A → Type 0) (x : A) (xs : List A) → P x → All P xs → All P (x ∷ xs)
all_cons P x xs here there zero d lt = here
all_cons P x xs here there (suc k) d lt = there k d (omega arith)

module _ {M : Type 0} where
  pub of-append : (p : ℕ) (xs ys : List (ℕ × Mail M)) → of p (xs ++ ys) ≡ of p xs ++ of p ys
  of-append p [] ys = refl
  of-append p (x ∷ xs) ys =
      elim (eqb x.1.from p) as (λ b. cond b ((x.0, x.1.body) ∷ of p (xs ++ ys)) (of p (xs ++ ys)) ≡ cond b ((x.0, x.1.body) ∷ of p xs) (of p xs) ++ of p ys)
      [ true ↦ ap (λ l. (x.0, x.1.body) ∷ l) (of-append p xs ys) | false ↦ of-append p xs ys ]

  mails-snoc : (xs : List (ℕ × Mail M)) (m : ℕ × Mail M) → mails (xs ++ m ∷ []) ≡ mails xs ++ m.1 ∷ []
  mails-snoc [] m = refl
  mails-snoc (x ∷ xs) m = ap (λ l. x.1 ∷ l) (mails-snoc xs m)

  pub none_of_mails : (ms : List (ℕ × Mail M)) → mails ms ≡ [] → ms ≡ []
  none_of_mails [] e = refl
  none_of_mails (m ∷ ms) e = absurd (let l : length (m.1 ∷ mails ms) ≡ 0 = ap length e in omega (arith, l))

  -- the first mail has some number
  front : (ws : List (ℕ × Mail M)) (x : Mail M) (items : List (Mail M)) → mails ws ≡ x ∷ items → (learnt : ℕ) × (rest : List (ℕ × Mail M)) × (ws ≡ (learnt, x) ∷ rest) × (mails rest ≡ items)
  front [] x items e = absurd (let l : 0 ≡ length (x ∷ items) = ap length e in omega (arith, l))
  front (w ∷ ws) x items e =
      let first : w.1 ≡ x = ap (λ l. get_or l 0 w.1) e in
      (w.0, ws, (λ i. (w.0, first i) ∷ ws), ap tail e)

  behind_snoc : (xs : List (ℕ × Mail M)) (m : ℕ × Mail M) → Behind xs → m.0 ≤ length xs → Behind (xs ++ m ∷ [])
  behind_snoc xs m h le i u e = after_snoc (λ j y. y.0 ≤ j) xs m le h i u e

  senders_set : (views : List (View M)) (port : ℕ) (v w : View M) → get_elem? views port ≡ some v → senders_in (set views port w) + one_if v.sends ≡ senders_in views + one_if w.sends
  senders_set [] port v w e = absurd (some-ne-none v (sym e))
  senders_set (x ∷ xs) zero v w e = let s : one_if x.sends ≡ one_if v.sends = ap (λ (u : View M). one_if u.sends) (some-injective x v e) in omega (arith, s)
  senders_set (x ∷ xs) (suc port) v w e = let s = senders_set xs port v w e in omega (arith, s)

  senders_snoc : (views : List (View M)) (w : View M) → senders_in (views ++ w ∷ []) ≡ senders_in views + one_if w.sends
  senders_snoc [] w = omega arith
  senders_snoc (x ∷ xs) w = let s = senders_snoc xs w in omega (arith, s)

  -- the number of senders stays where a pass changes that stays a sender, or stays none
  senders_stay : (views : List (View M)) (port : ℕ) (v w : View M) → get_elem? views port ≡ some v → v.sends ≡ w.sends → senders_in (set views port w) ≡ senders_in views
  senders_stay views port v w e same = let s = senders_set views port v w e in let t : one_if v.sends ≡ one_if w.sends = ap one_if same in omega (arith, s, t)

  -- where there is a sender there is one at least
  senders_some : (views : List (View M)) (port : ℕ) (v : View M) → get_elem? views port ≡ some v → v.sends ≡ true → 1 ≤ senders_in views
  senders_some [] port v e s = absurd (some-ne-none v (sym e))
  senders_some (x ∷ xs) zero v e s = let t : one_if x.sends ≡ 1 = ap (λ (u : View M). one_if u.sends) (some-injective x v e) ∙ ap one_if s in omega (arith, t)
  senders_some (x ∷ xs) (suc port) v e s = let r = senders_some xs port v e s in omega (arith, r)

  -- a number stays manned where the pass that changes still sends under it
  manned_set : (views : List (View M)) (port : ℕ) (v w : View M) → get_elem? views port ≡ some v → (v.sends ≡ true → (w.sends ≡ true) × (w.from ≡ v.from)) → (p : ℕ) → Manned p views → Manned p (set views port w)
  manned_set views port v w at still p t = dite (ℕ_discrete t.0 port)
      (λ is. let same : t.1 ≡ v = some-injective t.1 v (sym t.2 ∙ ap (λ j. get_elem? views j) is ∙ at) in
      let s = still (ap (λ (y : View M). y.sends) (sym same) ∙ t.3) in
      (port, w, set_here views port w (at_below views port v at), s.0, s.1 ∙ ap (λ (y : View M). y.from) (sym same) ∙ t.4))
      (λ other. (t.0, t.1, set_else views port t.0 w other ∙ t.2, t.3, t.4))

  manned_snoc : (views : List (View M)) (r : View M) (p : ℕ) → Manned p views → Manned p (views ++ r ∷ [])
  manned_snoc views r p t = (t.0, t.1, at_longer views (r ∷ []) t.0 t.1 t.2, t.3, t.4)

  keep_manned : (known : List (ℕ × List (ℕ × M))) (p : ℕ) (views views' : List (View M)) → (Manned p views → Manned p views') → Listed p known ⊎ Manned p views → Listed p known ⊎ Manned p views'
  keep_manned known p views views' f h = ⊎_elim (λ (t : Listed p known). inl t) (λ (t : Manned p views). inr (f t)) h

  -- a pass that neither takes, sends nor ends fits by its two numbers alone
  quiet : (made : ℕ) (known : List (ℕ × List (ℕ × M))) (reader : ℕ) (seat : ℕ → Option ℕ) (sent : ℕ → List (ℕ × M)) (got waiting : List (ℕ × Mail M)) (out pass : ℕ) (v : View M)
      → v.takes ≡ false → v.sends ≡ false → v.ends ≡ false → v.learnt ≤ length got → v.upto ≤ length (sent v.from) → Fits made known reader seat sent got waiting out pass v
  quiet made known reader seat sent got waiting out pass v t s e learnt upto = record {
    as_sender = λ y. never (sym s ∙ y);
    as_taker = λ y. never (sym t ∙ y);
    as_end = λ y. never (sym e ∙ y);
    taken = learnt;
    counted = upto;
  }

  -- a pass that is not the taker's still fits when the taker's changes
  aside : (made made' : ℕ) (known known' : List (ℕ × List (ℕ × M))) (reader : ℕ) (seat seat' : ℕ → Option ℕ) (sent : ℕ → List (ℕ × M)) (got got' waiting waiting' : List (ℕ × Mail M)) (out out' pass : ℕ) (v : View M)
      → Fits made known reader seat sent got waiting out pass v → pass ≢ reader → length got ≤ length got' → (FitsSender seat sent pass v → FitsSender seat' sent pass v) → Fits made' known' reader seat' sent got' waiting' out' pass v
  aside made made' known known' reader seat seat' sent got got' waiting waiting' out out' pass v f other more still = record {
    as_sender = still f.as_sender;
    as_taker = λ y. absurd (other (f.as_taker y).only);
    as_end = λ y. absurd (other (f.as_end y).0);
    taken = le_trans f.taken more;
    counted = f.counted;
  }

  pub begins : Delivers {M = M} [] (newcomer ∷ [])
  begins = record {
    made = 0;
    known = [];
    manned = λ p lt. absurd (omega (arith, lt));
    reader = 0;
    seat = λ _. none;
    sent = λ _. [];
    got = [];
    waiting = [];
    waits = refl;
    ordered = λ p. refl;
    behind = λ i m e. absurd (some-ne-none m (sym e));
    fits = after_snoc (Fits 0 [] 0 (λ _. none) (λ _. []) [] [] 0) [] newcomer (record {
      as_sender = λ s. never s;
      as_taker = λ _. record { only = refl; got_is = refl; made_is = refl; known_is = refl; out_is = refl; free = λ p _. (refl, refl); ended = λ e m. absurd m; pushed = λ k d lt. absurd (omega (arith, lt)) };
      as_end = λ s. never s;
      taken = omega arith;
      counted = omega arith;
    }) (λ j u e. absurd (some-ne-none u (sym e)));
  }

  pub sends : (n port : ℕ) (v : View M) (x : Mail M) → v.sends ≡ true → x.from ≡ v.from → Pushes Delivers n port v x (λ w. w ≡ sender v.from v.learnt (v.put ++ (v.learnt, x.body) ∷ []))
  sends n port v x may from items views _ h at =
      let w : View M = sender v.from v.learnt (v.put ++ (v.learnt, x.body) ∷ []) in
      let mail : ℕ × Mail M = (v.learnt, x) in
      let put : ℕ × M = (v.learnt, x.body) in
      let mine = h.fits port v at in
      let seated = mine.as_sender may in
      let taken = mine.taken in
      let sent : ℕ → List (ℕ × M) = λ p. cond (eqb v.from p) (h.sent p ++ put ∷ []) (h.sent p) in
      let waiting : List (ℕ × Mail M) = h.waiting ++ mail ∷ [] in
      let same : senders_in (set views port w) ≡ senders_in views = senders_stay views port v w at may in (
        w,
        record {
          made = h.made;
          known = h.known;
          manned = λ p lt. keep_manned h.known p views (set views port w) (manned_set views port v w at (λ _. (refl, refl)) p) (h.manned p lt);
          reader = h.reader;
          seat = h.seat;
          sent = sent;
          got = h.got;
          waiting = waiting;
          waits = mails-snoc h.waiting mail ∙ ap (λ l. l ++ x ∷ []) h.waits;
          ordered = λ p. ap (of p) (sym (append_assoc h.got h.waiting (mail ∷ []))) ∙ of-append p (h.got ++ h.waiting) (mail ∷ [])
              ∙ ap (λ (q : ℕ). of p (h.got ++ h.waiting) ++ cond (eqb q p) (put ∷ []) []) from
              ∙ longer (eqb v.from p) (of p (h.got ++ h.waiting)) (h.sent p) put (h.ordered p);
          behind = subst Behind (append_assoc h.got h.waiting (mail ∷ [])) (behind_snoc (h.got ++ h.waiting) mail h.behind (let l = length-append h.got h.waiting in omega (arith, l, taken)));
          fits = after_set (Fits h.made h.known h.reader h.seat sent h.got waiting (senders_in (set views port w))) views port w (record {
            as_sender = λ _. (seated.0, ap (λ l. l ++ put ∷ []) seated.1 ∙ sym (same_eqb v.from v.from (h.sent v.from ++ put ∷ []) (h.sent v.from) refl));
            as_taker = λ s. never s;
            as_end = λ s. never s;
            taken = taken;
            counted = omega arith;
          }) (λ j u other e. let old = h.fits j u e in record {
            as_sender = λ s. let f = old.as_sender s in (f.0, f.1 ∙ sym (else_eqb v.from u.from (h.sent u.from ++ put ∷ []) (h.sent u.from) (apart h.seat v.from u.from j port seated.0 f.0 other)));
            as_taker = λ s. let f = old.as_taker s in record {
              only = f.only;
              got_is = f.got_is;
              made_is = f.made_is;
              known_is = f.known_is;
              out_is = f.out_is ∙ sym same;
              free = λ p le. let r = f.free p le in (r.0, else_eqb v.from p (h.sent p ++ put ∷ []) (h.sent p) (apart_free h.seat v.from p port seated.0 r.0) ∙ r.1);
              ended = λ d m. let r = f.ended d m in (r.0, r.1, r.2 ∙ sym (else_eqb v.from d.0 (h.sent d.0 ++ put ∷ []) (h.sent d.0) (apart_free h.seat v.from d.0 port seated.0 r.1)));
              pushed = λ k d lt. let c = get_or u.due k d in le_trans (f.pushed k d lt) (grown (eqb v.from c.0) (h.sent c.0) put);
            };
            as_end = λ s. let c = (old.as_end s).1 in let b = senders_some views port v at may in absurd (omega (arith, b, c));
            taken = old.taken;
            counted = le_trans old.counted (grown (eqb v.from u.from) (h.sent u.from) put);
          });
        },
        refl,
      )

  pub gets : (port : ℕ) (v : View M) → v.takes ≡ true → v.sends ≡ false → Pops Delivers port v (λ x w. TakesOne v x w)
  gets port v may still x items views h at =
      let f = front h.waiting x items h.waits in
      let mail : ℕ × Mail M = (f.0, x) in
      let w : View M = taker (v.got ++ mail ∷ []) v.made v.out v.known v.due in
      let mine = (h.fits port v at).as_taker may in
      let got : List (ℕ × Mail M) = h.got ++ mail ∷ [] in
      let whole : got ++ f.1 ≡ h.got ++ h.waiting = append_assoc h.got (mail ∷ []) f.1 ∙ ap (λ l. h.got ++ l) (sym f.2) in
      let more : length h.got ≤ length got = let l = length-append h.got (mail ∷ []) in omega (arith, l) in
      let learnt : f.0 ≤ length h.got = h.behind (length h.got) mail (ap (λ l. get_elem? (h.got ++ l) (length h.got)) f.2 ∙ at_mid h.got f.1 mail) in
      let same : senders_in (set views port w) ≡ senders_in views = senders_stay views port v w at still in (
        w,
        record {
          made = h.made;
          known = h.known;
          manned = λ p lt. keep_manned h.known p views (set views port w) (manned_set views port v w at (λ s. never (sym still ∙ s)) p) (h.manned p lt);
          reader = h.reader;
          seat = h.seat;
          sent = h.sent;
          got = got;
          waiting = f.1;
          waits = f.3;
          ordered = λ p. ap (of p) whole ∙ h.ordered p;
          behind = subst Behind (sym whole) h.behind;
          fits = after_set (Fits h.made h.known h.reader h.seat h.sent got f.1 (senders_in (set views port w))) views port w (record {
            as_sender = λ s. never s;
            as_taker = λ _. record { only = mine.only; got_is = ap (λ l. l ++ mail ∷ []) mine.got_is; made_is = mine.made_is; known_is = mine.known_is; out_is = mine.out_is ∙ sym same; free = mine.free; ended = mine.ended; pushed = mine.pushed };
            as_end = λ s. never s;
            taken = omega arith;
            counted = omega arith;
          }) (λ j u other e. aside _ _ _ _ _ _ _ _ _ _ _ _ _ _ _ _ (h.fits j u e) (λ is. other (is ∙ sym mine.only)) more (λ y. y));
        },
        (f.0, subst (λ (l : List (ℕ × Mail M)). f.0 ≤ length l) (sym mine.got_is) learnt, refl),
      )

  pub empties : (port : ℕ) (v : View M) → v.takes ≡ true → Learns Delivers port v (λ items. items ≡ [] → AllTaken v.due v.got)
  empties port v may items views h at over k d lt =
      let mine = (h.fits port v at).as_taker may in
      let gone : h.waiting ≡ [] = none_of_mails h.waiting (h.waits ∙ over) in
      let c = get_or v.due k d in
      let all : of c.0 v.got ≡ h.sent c.0 = ap (of c.0) (mine.got_is ∙ sym (append-nil h.got) ∙ ap (λ l. h.got ++ l) (sym gone)) ∙ h.ordered c.0 in
      subst (λ (l : List (ℕ × M)). c.1 ≤ length l) (sym all) (mine.pushed k d lt)

  pub enrolls : (port : ℕ) (v : View M) → v.takes ≡ true → v.sends ≡ false → Forks Delivers port v (taker v.got (v.made + 1) (v.out + 1) v.known v.due) (sender v.made 0 [])
  enrolls port v may still items views h at =
      let l : View M = taker v.got (v.made + 1) (v.out + 1) v.known v.due in
      let r : View M = sender v.made 0 [] in
      let mine = (h.fits port v at).as_taker may in
      let vs : List (View M) = set views port l in
      let seat : ℕ → Option ℕ = λ p. cond (eqb v.made p) (some (length vs)) (h.seat p) in
      let free = mine.free v.made (omega arith) in
      let one : senders_in (vs ++ r ∷ []) ≡ senders_in views + 1 = let s = senders_stay views port v l at still in let t = senders_snoc vs r in omega (arith, s, t) in
      record {
        made = v.made + 1;
        known = h.known;
        manned = λ p lt. dite (ℕ_discrete p v.made)
            (λ is. inr (length vs, r, at_last vs r (length vs) refl, refl, sym is))
            (λ other. keep_manned h.known p views (vs ++ r ∷ []) (λ t. manned_snoc vs r p (manned_set views port v l at (λ s. never (sym still ∙ s)) p t)) (h.manned p (let m = mine.made_is in omega (arith, lt, other, m))));
        reader = h.reader;
        seat = seat;
        sent = h.sent;
        got = h.got;
        waiting = h.waiting;
        waits = h.waits;
        ordered = h.ordered;
        behind = h.behind;
        fits = after_snoc (Fits (v.made + 1) h.known h.reader seat h.sent h.got h.waiting (senders_in (vs ++ r ∷ []))) vs r (record {
          as_sender = λ _. (same_eqb v.made v.made (some (length vs)) (h.seat v.made) refl, sym free.1);
          as_taker = λ s. never s;
          as_end = λ s. never s;
          taken = omega arith;
          counted = omega arith;
        }) (after_set (Fits (v.made + 1) h.known h.reader seat h.sent h.got h.waiting (senders_in (vs ++ r ∷ []))) views port l (record {
          as_sender = λ s. never s;
          as_taker = λ _. record {
            only = mine.only;
            got_is = mine.got_is;
            made_is = refl;
            known_is = mine.known_is;
            out_is = let c = mine.out_is in omega (arith, c, one);
            free = λ p le. let f = mine.free p (omega (arith, le)) in (else_eqb v.made p (some (length vs)) (h.seat p) (λ q. omega (arith, le, q)) ∙ f.0, f.1);
            ended = λ d m. let f = mine.ended d m in (omega (arith, f.0), else_eqb v.made d.0 (some (length vs)) (h.seat d.0) (λ q. let lt = f.0 in omega (arith, lt, q)) ∙ f.1, f.2);
            pushed = mine.pushed;
          };
          as_end = λ s. never s;
          taken = omega arith;
          counted = omega arith;
        }) (λ j u other e. aside _ _ _ _ _ _ _ _ _ _ _ _ _ _ _ _ (h.fits j u e) (λ is. other (is ∙ sym mine.only)) (le_refl (length h.got))
            (λ old s. let f = old s in (else_eqb v.made u.from (some (length vs)) (h.seat u.from) (λ q. some-ne-none j (sym f.0 ∙ ap h.seat (sym q) ∙ free.0)) ∙ f.0, f.1))));
      }

  pub retires : (port : ℕ) (v : View M) (other : ℕ) (w : View M) → v.takes ≡ true → v.sends ≡ false → w.sends ≡ true
      → Merges Delivers port v other w (taker v.got v.made (v.out - 1) ((w.from, w.put) ∷ v.known) v.due) nobody
  retires port v other w may still theirs items views h at two at' =
      let both : View M = taker v.got v.made (v.out - 1) ((w.from, w.put) ∷ v.known) v.due in
      let mine = (h.fits port v at).as_taker may in
      let known : List (ℕ × List (ℕ × M)) = (w.from, w.put) ∷ v.known in
      let vs : List (View M) = set views port both in
      let was : get_elem? views other ≡ some w = sym (set_else views port other both two) ∙ at' in
      let his = (h.fits other w was).as_sender theirs in
      let seat : ℕ → Option ℕ = λ p. cond (eqb w.from p) none (h.seat p) in
      let gone : (p : ℕ) → h.seat p ≡ none → seat p ≡ none = λ p n. else_eqb w.from p none (h.seat p) (apart_free h.seat w.from p other his.0 n) ∙ n in
      let below : w.from < v.made = lt_of_not-le (λ le. some-ne-none other (sym his.0 ∙ (mine.free w.from le).0)) in
      let end : List (View M) = set vs other nobody in
      let less : senders_in end + 1 ≡ senders_in views =
      let s = senders_stay views port v both at still in let t = senders_set vs other w nobody at' in let o : one_if w.sends ≡ 1 = ap one_if theirs in omega (arith, s, t, o) in
      record {
        made = h.made;
        known = known;
        manned = λ p lt. ⊎_elim (λ (t : Listed p h.known). inl (t.0, inr (subst (λ (l : List (ℕ × List (ℕ × M))). In (p, t.0) l) (sym mine.known_is) t.1)))
            (λ (t : Manned p views). dite (ℕ_discrete t.0 other)
            (λ is. let same : t.1 ≡ w = some-injective t.1 w (sym t.2 ∙ ap (λ j. get_elem? views j) is ∙ was) in
            inl (w.put, inl (λ i. (((sym t.4) ∙ ap (λ (y : View M). y.from) same) i, w.put))))
            (λ apart_from. let away : t.0 ≢ port = λ is. never (sym still ∙ ap (λ (y : View M). y.sends) (sym (some-injective t.1 v (sym t.2 ∙ ap (λ j. get_elem? views j) is ∙ at))) ∙ t.3) in
            inr (t.0, t.1, set_else vs other t.0 nobody apart_from ∙ (set_else views port t.0 both away ∙ t.2), t.3, t.4))) (h.manned p lt);
        reader = h.reader;
        seat = seat;
        sent = h.sent;
        got = h.got;
        waiting = h.waiting;
        waits = h.waits;
        ordered = h.ordered;
        behind = h.behind;
        fits = after_set (Fits h.made known h.reader seat h.sent h.got h.waiting (senders_in end)) vs other nobody
            (quiet _ _ _ _ _ _ _ _ _ _ refl refl refl (omega arith) (omega arith))
            (λ j u away found. after_set (λ i y. i ≢ other → Fits h.made known h.reader seat h.sent h.got h.waiting (senders_in end) i y) views port both (λ _. record {
              as_sender = λ s. never s;
              as_taker = λ _. record {
                only = mine.only;
                got_is = mine.got_is;
                made_is = mine.made_is;
                known_is = refl;
                out_is = let c = mine.out_is in omega (arith, c, less);
                free = λ p le. let f = mine.free p le in (gone p f.0, f.1);
                ended = λ d m. ⊎_elim
                    (λ (q : d ≡ (w.from, w.put)). let n : d.0 ≡ w.from = ap (λ (y : ℕ × List (ℕ × M)). y.0) q in (
                      subst (λ (k : ℕ). k < v.made) (sym n) below,
                      same_eqb w.from d.0 none (h.seat d.0) (sym n),
                      ap (λ (y : ℕ × List (ℕ × M)). y.1) q ∙ his.1 ∙ ap h.sent (sym n),
                    ))
                    (λ (q : In d v.known). let f = mine.ended d q in (f.0, gone d.0 f.1, f.2))
                    m;
                pushed = mine.pushed;
              };
              as_end = λ s. never s;
              taken = omega arith;
              counted = omega arith;
            }) (λ i y mid e ne. aside _ _ _ _ _ _ _ _ _ _ _ _ _ _ _ _ (h.fits i y e) (λ is. mid (is ∙ sym mine.only)) (le_refl (length h.got))
            (λ old s. let f = old s in (else_eqb w.from y.from none (h.seat y.from) (apart h.seat w.from y.from i other his.0 f.0 ne) ∙ f.0, f.1))) j u found away);
      }

  -- a pass makes a new one that neither takes, sends nor ends
  leaves : (port : ℕ) (v : View M) (r : View M) (items : List (Mail M)) (views : List (View M)) (h : Delivers items views) → get_elem? views port ≡ some v → r.takes ≡ false → r.sends ≡ false → r.ends ≡ false
      → r.learnt ≤ length h.got → r.upto ≤ length (h.sent r.from) → Delivers items (set views port v ++ r ∷ [])
  leaves port v r items views h at takes sends ends learnt upto =
      let vs : List (View M) = set views port v in
      let again : vs ≡ views = set_again views port v at in
      let same : senders_in views ≡ senders_in (vs ++ r ∷ []) = let s : senders_in vs ≡ senders_in views = ap senders_in again in let t = senders_snoc vs r in let o : one_if r.sends ≡ 0 = ap one_if sends in omega (arith, s, t, o) in
      record {
        made = h.made;
        known = h.known;
        manned = λ p lt. keep_manned h.known p views (vs ++ r ∷ []) (λ m. manned_snoc vs r p (subst (λ (l : List (View M)). Manned p l) (sym again) m)) (h.manned p lt);
        reader = h.reader;
        seat = h.seat;
        sent = h.sent;
        got = h.got;
        waiting = h.waiting;
        waits = h.waits;
        ordered = h.ordered;
        behind = h.behind;
        fits = after_snoc (Fits h.made h.known h.reader h.seat h.sent h.got h.waiting (senders_in (vs ++ r ∷ []))) vs r (quiet _ _ _ _ _ _ _ _ _ _ takes sends ends learnt upto)
            (λ j u e. subst (λ (k : ℕ). Fits h.made h.known h.reader h.seat h.sent h.got h.waiting k j u) same (h.fits j u (ap (λ (l : List (View M)). get_elem? l j) (sym again) ∙ e)));
      }

  pub notes : (port : ℕ) (v : View M) → v.takes ≡ true → Forks Delivers port v v (note (length v.got))
  notes port v may items views h at = leaves port v (note (length v.got)) items views h at refl refl refl (le_of_eq (ap length ((h.fits port v at).as_taker may).got_is)) (omega arith)

  pub counts_up : (port : ℕ) (v : View M) → v.sends ≡ true → Forks Delivers port v v (count v.from (length v.put))
  counts_up port v may items views h at = leaves port v (count v.from (length v.put)) items views h at refl refl refl (omega arith) (le_of_eq (ap length ((h.fits port v at).as_sender may).1))

  -- a pass takes in one that does not send, and knows more by it
  heeds : (port : ℕ) (v : View M) (other : ℕ) (w both : View M) (items : List (Mail M)) (views : List (View M)) (h : Delivers items views) → get_elem? views port ≡ some v → other ≢ port → get_elem? (set views port both) other ≡ some w
      → (v.sends ≡ both.sends) × (both.from ≡ v.from) → w.sends ≡ false → Fits h.made h.known h.reader h.seat h.sent h.got h.waiting (senders_in views) port both → Delivers items (set (set views port both) other nobody)
  heeds port v other w both items views h at two at' still theirs fits =
      let vs : List (View M) = set views port both in
      let end : List (View M) = set vs other nobody in
      let same : senders_in views ≡ senders_in end = let s = senders_stay views port v both at still.0 in let t = senders_stay vs other w nobody at' theirs in omega (arith, s, t) in
      record {
        made = h.made;
        known = h.known;
        manned = λ p lt. keep_manned h.known p views end (λ m. manned_set vs other w nobody at' (λ s. never (sym theirs ∙ s)) p (manned_set views port v both at (λ s. (sym still.0 ∙ s, still.1)) p m)) (h.manned p lt);
        reader = h.reader;
        seat = h.seat;
        sent = h.sent;
        got = h.got;
        waiting = h.waiting;
        waits = h.waits;
        ordered = h.ordered;
        behind = h.behind;
        fits = λ j u e. subst (λ (k : ℕ). Fits h.made h.known h.reader h.seat h.sent h.got h.waiting k j u) same
            (after_set (Fits h.made h.known h.reader h.seat h.sent h.got h.waiting (senders_in views)) vs other nobody (quiet _ _ _ _ _ _ _ _ _ _ refl refl refl (omega arith) (omega arith))
            (λ i y away found. after_set (Fits h.made h.known h.reader h.seat h.sent h.got h.waiting (senders_in views)) views port both fits (λ k z mid at_k. h.fits k z at_k) i y found) j u e);
      }

  pub learns : (port : ℕ) (v : View M) (other : ℕ) (w : View M) → v.sends ≡ true → w.sends ≡ false → Merges Delivers port v other w (sender v.from (max v.learnt w.learnt) v.put) nobody
  learns port v other w may theirs items views h at two at' =
      let both : View M = sender v.from (max v.learnt w.learnt) v.put in
      let was : get_elem? views other ≡ some w = sym (set_else views port other both two) ∙ at' in
      let mine = h.fits port v at in
      let his = h.fits other w was in
      heeds port v other w both items views h at two at' (may, refl) theirs (record {
        as_sender = λ _. mine.as_sender may;
        as_taker = λ s. never s;
        as_end = λ s. never s;
        taken = let a = mine.taken in let b = his.taken in omega (arith, a, b);
        counted = omega arith;
      })

  pub expects : (port : ℕ) (v : View M) (other : ℕ) (w : View M) → v.takes ≡ true → v.sends ≡ false → v.from ≡ 0 → w.sends ≡ false → Merges Delivers port v other w (taker v.got v.made v.out v.known ((w.from, w.upto) ∷ v.due)) nobody
  expects port v other w may still zero_is theirs items views h at two at' =
      let both : View M = taker v.got v.made v.out v.known ((w.from, w.upto) ∷ v.due) in
      let was : get_elem? views other ≡ some w = sym (set_else views port other both two) ∙ at' in
      let mine = (h.fits port v at).as_taker may in
      let his = h.fits other w was in
      heeds port v other w both items views h at two at' (still, sym zero_is) theirs (record {
        as_sender = λ s. never s;
        as_taker = λ _. record {
          only = mine.only;
          got_is = mine.got_is;
          made_is = mine.made_is;
          known_is = mine.known_is;
          out_is = mine.out_is;
          free = mine.free;
          ended = mine.ended;
          pushed = all_cons (λ (d : ℕ × ℕ). d.1 ≤ length (h.sent d.0)) (w.from, w.upto) v.due his.counted mine.pushed;
        };
        as_end = λ s. never s;
        taken = omega arith;
        counted = omega arith;
      })

  adds : (items : List (Mail M)) (views : List (View M)) (port : ℕ) (v : View M) (h : Delivers items views) → get_elem? views port ≡ some v → v.takes ≡ true → Adds v h.waiting
  adds items views port v h at may =
      let mine = (h.fits port v at).as_taker may in
      record {
        each = λ e m. (mine.ended e m).2 ∙ sym (h.ordered e.0) ∙ of-append e.0 h.got h.waiting ∙ ap (λ (l : List (ℕ × Mail M)). of e.0 l ++ of e.0 h.waiting) (sym mine.got_is);
        none_else = λ p le. ap (λ (l : List (ℕ × Mail M)). of p (l ++ h.waiting)) mine.got_is ∙ h.ordered p ∙ (mine.free p le).1;
        behind = subst (λ (l : List (ℕ × Mail M)). Behind (l ++ h.waiting)) (sym mine.got_is) h.behind;
        covers = λ out p lt. ⊎_elim (λ (t : Listed p h.known). subst (λ (l : List (ℕ × List (ℕ × M))). Listed p l) (sym mine.known_is) t)
            (λ (t : Manned p views). let b = senders_some views t.0 t.1 t.2 t.3 in let c = mine.out_is in absurd (omega (arith, b, c, out))) (h.manned p (let e = mine.made_is in omega (arith, lt, e)));
      }

  pub settles : (port : ℕ) (v : View M) → v.takes ≡ true → Learns Delivers port v (λ items. AddsMarked v items)
  settles port v may items views h at = (h.waiting, h.waits, adds items views port v h at may)

  -- a pop by the one pass that may pop, which then knows what is left
  ends : (port : ℕ) (v : View M) (x : Mail M) (items : List (Mail M)) (views : List (View M)) (h : Delivers (x ∷ items) views) (learnt : ℕ) (rest : List (ℕ × Mail M)) → h.waiting ≡ (learnt, x) ∷ rest → mails rest ≡ items
      → get_elem? views port ≡ some v → port ≡ h.reader → senders_in views ≡ 0 → v.sends ≡ false → Delivers items (set views port (shutter learnt rest))
  ends port v x items views h learnt rest is left at only empty still =
      let w : View M = shutter learnt rest in
      let low : learnt ≤ length h.got = h.behind (length h.got) (learnt, x) (ap (λ l. get_elem? (h.got ++ l) (length h.got)) is ∙ at_mid h.got rest (learnt, x)) in
      let mail : ℕ × Mail M = (learnt, x) in
      let got : List (ℕ × Mail M) = h.got ++ mail ∷ [] in
      let whole : got ++ rest ≡ h.got ++ h.waiting = append_assoc h.got (mail ∷ []) rest ∙ ap (λ l. h.got ++ l) (sym is) in
      let more : length h.got ≤ length got = let l = length-append h.got (mail ∷ []) in omega (arith, l) in
      let same : senders_in (set views port w) ≡ senders_in views = senders_stay views port v w at still in
      record {
        made = h.made;
        known = h.known;
        manned = λ p lt. keep_manned h.known p views (set views port w) (manned_set views port v w at (λ s. never (sym still ∙ s)) p) (h.manned p lt);
        reader = h.reader;
        seat = h.seat;
        sent = h.sent;
        got = got;
        waiting = rest;
        waits = left;
        ordered = λ p. ap (of p) whole ∙ h.ordered p;
        behind = subst Behind (sym whole) h.behind;
        fits = after_set (Fits h.made h.known h.reader h.seat h.sent got rest (senders_in (set views port w))) views port w (record {
          as_sender = λ s. never s;
          as_taker = λ s. never s;
          as_end = λ _. (only, same ∙ empty, refl);
          taken = le_trans low more;
          counted = omega arith;
        }) (λ j u other e. aside _ _ _ _ _ _ _ _ _ _ _ _ _ _ _ _ (h.fits j u e) (λ is_reader. other (is_reader ∙ sym only)) more (λ y. y));
      }

  pub shuts : (port : ℕ) (v : View M) → v.takes ≡ true → v.sends ≡ false → v.out ≡ 0 → Pops Delivers port v (λ x w. Shut v x w)
  shuts port v may still out x items views h at =
      let mine = (h.fits port v at).as_taker may in
      let f = front h.waiting x items h.waits in
      (shutter f.0 f.1, ends port v x items views h f.0 f.1 f.2 f.3 at mine.only (sym mine.out_is ∙ out) still, (subst (λ (l : List (ℕ × Mail M)). Adds v l) f.2 (adds (x ∷ items) views port v h at may), refl))

  pub goes_on : (port : ℕ) (v : View M) → v.ends ≡ true → v.sends ≡ false → Pops Delivers port v (λ x w. TakesNext v x w)
  goes_on port v may still x items views h at =
      let mine = (h.fits port v at).as_end may in
      let f = front h.waiting x items h.waits in
      (shutter f.0 f.1, ends port v x items views h f.0 f.1 f.2 f.3 at mine.0 mine.1 still, (mine.2 ∙ f.2, refl))

  pub knows : (port : ℕ) (v : View M) → v.ends ≡ true → Learns Delivers port v (λ items. mails v.rest ≡ items)
  knows port v may items views h at = ap mails ((h.fits port v at).as_end may).2 ∙ h.waits
