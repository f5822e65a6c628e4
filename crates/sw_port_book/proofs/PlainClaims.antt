-- A claim of a plain book, try by try.
use Rattle.std.proofs.Common.{◌≡◌, ◌≢◌, ◌<◌, ◌≤◌, ◌+◌, ◌-◌, ◌%◌, ℕ, suc, List, [], ◌∷◌, ◌++◌, eq-eqb, ne_eqb, cond, true, false, sym, refl, ap, ◌∙◌, Bool, length, length-append, Ok, Err, subst, arith}
use mathlib.Core.Logic.{dite}
use native.Mathlib.Decide.{ℕ_discrete}
use native.Mathlib.Nat.{mod-lt}
use Rattle.std.proofs.lemmas.List.{get_or-set_same, get_or-set_other, length-set}
use Rattle.sw_port_book.proofs.Members.{in_longer, in_last}
use Rattle.sw_port_book.specs.declared.word.Word.{Word}
use Rattle.sw_port_book.specs.declared.answers.ClaimFault.TheVariants.{Spent, Full}
use Rattle.sw_port_book.specs.Claims.{In, Tried, Claims}
use Rattle.sw_port_book.specs.Plain.{Words, claim_in, word_in, word_of, free, drawn, taken, LiveAmong, Meets}
use Rattle.sw_port_book.proofs.Tries.{none_tried, tried_more, all_differ}

first_so : {A : Type 0} (b : Bool) (x y : A) → b ≡ true → cond b x y ≡ x
first_so b x y e = ap (λ t. cond t x y) e

first_not : {A : Type 0} (b : Bool) (x y : A) → b ≡ false → cond b x y ≡ y
first_not b x y e = ap (λ t. cond t x y) e

second_so : {A : Type 0} (b c : Bool) (x y z : A) → b ≡ false → c ≡ true → cond b x (cond c y z) ≡ y
second_so b c x y z e f = first_not b x (cond c y z) e ∙ ap (λ t. cond t y z) f

second_not : {A : Type 0} (b c : Bool) (x y z : A) → b ≡ false → c ≡ false → cond b x (cond c y z) ≡ z
second_not b c x y z e f = first_not b x (cond c y z) e ∙ ap (λ t. cond t y z) f

pub claim_spent : (tries : ℕ) (words : Words) → words.last ≡ 4294967295 → claim_in (suc tries) words ≡ record { answer = Err Spent; words = words }
claim_spent tries words e = first_so _ _ _ (eq-eqb words.last 4294967295 e)

pub claim_takes : (tries : ℕ) (words : Words) → words.last ≢ 4294967295 → (word_of words (words.last + 1)).number ≡ 0
    → claim_in (suc tries) words ≡ record { answer = Ok (words.last + 1); words = taken words }
claim_takes tries words more free = second_so _ _ _ _ _ (ne_eqb words.last 4294967295 more) (eq-eqb (word_of words (words.last + 1)).number 0 free)

pub claim_goes : (tries : ℕ) (words : Words) → words.last ≢ 4294967295 → (word_of words (words.last + 1)).number ≢ 0
    → claim_in (suc tries) words ≡ claim_in tries (drawn words)
claim_goes tries words more live = second_not _ _ _ _ _ (ne_eqb words.last 4294967295 more) (ne_eqb (word_of words (words.last + 1)).number 0 live)

-- the tries behind the last number of these words found these, so far
pub record SoFar (words now : Words) (tries : ℕ) : Type 0 where
  pub few : tries ≤ length words.slots
  pub fits : now.last ≤ 4294967295
  pub now_is : now ≡ record words { last = words.last + tries }
  pub rest : claim_in (length words.slots - tries) now ≡ claim_in (length words.slots) words
  pub found : List ℕ
  pub all : length found ≡ tries
  pub tried : (claimed : List ℕ) → LiveAmong words claimed → Tried (length words.slots) claimed words.last found

pub begins : (words : Words) → words.last ≤ 4294967295 → SoFar words words 0
begins words fits = record {
  few = omega arith;
  fits = fits;
  now_is = ap (λ (k : ℕ). record words { last = k }) (let e : words.last ≡ words.last + 0 = omega arith in e);
  rest = ap (λ k. claim_in k words) (let e : length words.slots - 0 ≡ length words.slots = omega arith in e);
  found = [];
  all = refl;
  tried = λ claimed _. none_tried (length words.slots) words.last claimed;
}

pub one_less : (size tries : ℕ) → tries < size → size - tries ≡ suc (size - (tries + 1))
one_less size tries lt = omega (arith, lt)

pub goes_on : (words now : Words) (tries : ℕ) → SoFar words now tries → tries < length words.slots → now.last ≢ 4294967295 → Meets now → SoFar words (drawn now) (tries + 1)
goes_on words now tries h lt more meets =
    let size : ℕ = length words.slots in
    let met : ℕ = (word_of now (now.last + 1)).number in
    let slots : now.slots ≡ words.slots = ap (λ (w : Words). w.slots) h.now_is in
    let last : now.last ≡ words.last + tries = ap (λ (w : Words). w.last) h.now_is in
    record {
      few = omega (arith, lt);
      fits = let f = h.fits in omega (arith, f, more);
      now_is = ap (λ (w : Words). drawn w) h.now_is ∙ ap (λ (k : ℕ). record words { last = k }) (let e : words.last + tries + 1 ≡ words.last + (tries + 1) = omega arith in e);
      rest = sym (claim_goes (size - (tries + 1)) now more meets.live) ∙ ap (λ k. claim_in k now) (sym (one_less size tries lt)) ∙ h.rest;
      found = h.found ++ met ∷ [];
      all = let a = length-append h.found (met ∷ []) in let b = h.all in omega (arith, a, b);
      tried = λ claimed live.
          let here : LiveAmong now claimed = subst (λ (s : _). LiveAmong record { last = now.last; slots = s } claimed) (sym slots) live in
          tried_more size words.last met claimed h.found (h.tried claimed live)
          (here ((now.last + 1) % length now.slots) (mod-lt (now.last + 1) (let s = meets.some in omega (arith, s))) meets.live)
          (subst (λ (k : ℕ). met % k ≡ (now.last + 1) % k) (ap (λ s. length s) slots) meets.own ∙ ap (λ k. (k + 1) % size) (last ∙ ap (λ k. words.last + k) (sym h.all)));
    }

pub ends_free : (words now : Words) (tries : ℕ) (h : SoFar words now tries) → tries < length words.slots → now.last ≢ 4294967295
    → (claimed : List ℕ) → LiveAmong words claimed → Claims (length words.slots) claimed words.last (Ok (now.last + 1)) (now.last + 1)
ends_free words now tries h lt more claimed live =
    let last : now.last ≡ words.last + tries = ap (λ (w : Words). w.last) h.now_is in let all = h.all in
    (h.found, h.tried claimed live, (omega (arith, last, all), refl, omega (arith, lt, all), let f = h.fits in omega (arith, f, more)))

pub ends_spent : (words now : Words) (tries : ℕ) (h : SoFar words now tries) → tries < length words.slots → now.last ≡ 4294967295
    → (claimed : List ℕ) → LiveAmong words claimed → Claims (length words.slots) claimed words.last (Err Spent) now.last
ends_spent words now tries h lt spent claimed live =
    let last : now.last ≡ words.last + tries = ap (λ (w : Words). w.last) h.now_is in let all = h.all in
    (h.found, h.tried claimed live, (omega (arith, last, all), spent, omega (arith, lt, all)))

pub ends_full : (words now : Words) (tries n : ℕ) (h : SoFar words now tries) → tries ≡ length words.slots → n ≡ length words.slots
    → (claimed : List ℕ) → LiveAmong words claimed → Claims (length words.slots) claimed words.last (Err (Full n)) now.last
ends_full words now tries n h is size claimed live =
    let last : now.last ≡ words.last + tries = ap (λ (w : Words). w.last) h.now_is in let all = h.all in
    (h.found, h.tried claimed live, (size, omega (arith, all, is), all_differ (length words.slots) words.last claimed h.found (h.all ∙ is) (h.tried claimed live), omega (arith, last, is), h.fits))

-- a number is claimed, and stands in its slot
pub told_taken : (words : Words) (claimed : List ℕ) → 1 ≤ length words.slots → LiveAmong words claimed → LiveAmong (taken words) (claimed ++ (words.last + 1) ∷ [])
told_taken words claimed some live slot lt ne =
    let next : ℕ = words.last + 1 in let at : ℕ = next % length words.slots in
    let word : Word = record { number = next; uid = 0 } in
    let below : at < length words.slots = mod-lt next (omega (arith, some)) in
    dite (ℕ_discrete slot at)
    (λ same.
    let is : word_in (taken words) slot ≡ word = ap (λ k. word_in (taken words) k) same ∙ get_or-set_same words.slots at word free below in
    subst (λ n. In n (claimed ++ next ∷ [])) (sym (ap (λ (w : Word). w.number) is)) (in_last next claimed))
    (λ other.
    let is : word_in (taken words) slot ≡ word_in words slot = get_or-set_other words.slots at slot word free other in
    subst (λ n. In n (claimed ++ next ∷ [])) (sym (ap (λ (w : Word). w.number) is))
    (in_longer (word_in words slot).number claimed (next ∷ []) (live slot (subst (λ k. slot < k) (length-set words.slots at word) lt) (λ z. ne (ap (λ (w : Word). w.number) is ∙ z)))))

-- the same words under another last number
pub told_still : (words now : Words) (tries : ℕ) (claimed : List ℕ) → SoFar words now tries → LiveAmong words claimed → LiveAmong now claimed
told_still words now tries claimed h live = subst (λ (w : Words). LiveAmong w claimed) (sym h.now_is) live

pub told_found : (words now : Words) (tries : ℕ) (claimed : List ℕ) → SoFar words now tries → tries < length words.slots → LiveAmong words claimed
    → LiveAmong (taken now) (claimed ++ (now.last + 1) ∷ [])
told_found words now tries claimed h lt live =
    told_taken now claimed (let e : length now.slots ≡ length words.slots = ap (λ (w : Words). length w.slots) h.now_is in omega (arith, e, lt)) (told_still words now tries claimed h live)
