-- Calls on the plain book have the ports' answers, and leave what the ports leave.
use Rattle.std.proofs.Common.{◌≡◌, ◌≢◌, ℕ, ◌+◌, ◌<◌, ◌≤◌, ◌%◌, ◌==◌, Bool, true, false, if◌then◌else◌, List, length, refl, ap, ◌∙◌, sym, subst, arith, Ok, Err, zero, suc}
use Rattle.std.proofs.lemmas.List.{get_or-set_same, get_or-set_other, length-set}
use native.Mathlib.Nat.{mod-lt}
use Rattle.sw_lists.proofs.Lists.{eq_is, eq_same}
use Rattle.sw_step.specs.declared.actor.ActorId.{ActorId}
use Rattle.sw_record.specs.Terms.{Terms}
use Rattle.sw_record.specs.Places.{Ran}
use Rattle.sw_past.specs.Claims.{Claim, Drew, Spent}
use Rattle.sw_port_book.specs.declared.word.Word.{Word}
use Rattle.sw_port_book.specs.Answers.{look_answer, bind_answer}
use Rattle.sw_port_book.specs.declared.answers.ClaimFault.TheVariants as fault
use Rattle.sw_port_book.specs.declared.answers.BindFault.TheVariants as bind
use Rattle.sw_port_book.specs.declared.answers.Look.TheVariants as look
use Rattle.sw_port_book.specs.Plain.{Words, free, word_in, word_of, with_word, bound, Claimed, drawn, taken, claim_in, plain_claim}
use Rattle.sw_world_ports.specs.Calls.{Looks, Binds, ZeroUid, Frees, Accepts}
use Rattle.sw_world_ports.specs.Ports.{Ports, claim_by, claimed, words_by, set, SeesIt, Answers, ported}
use Rattle.sw_world_fits.specs.Book.{SlotsStand, BookStands, seen_of, got_of, claim_of}

-- the word of a session
here : (t : Terms) (b : Words) (words : ℕ → ℕ × ℕ) → SlotsStand t b words → 1 ≤ t.max_conn → (s : ℕ) → words (s % t.max_conn) ≡ ((word_of b s).number, (word_of b s).uid)
here t b words st some s = st.each (s % t.max_conn) (mod-lt s (omega (arith, some))) ∙ ap (λ (k : ℕ). ((word_in b (s % k)).number, (word_in b (s % k)).uid)) (sym st.size)

-- another word in its slot
set_stands : (t : Terms) (b : Words) (words : ℕ → ℕ × ℕ) → SlotsStand t b words → 1 ≤ t.max_conn → (s : ℕ) (w : Word) → SlotsStand t (with_word b s w) (set words (s % t.max_conn) (w.number, w.uid))
set_stands t b words st some s w =
    record {
      size = length-set b.slots (s % length b.slots) w ∙ st.size;
      each = λ i lt. pick i lt (i == s % t.max_conn) refl;
    }
  where
    at : ℕ
    at = s % length b.slots

    same : s % t.max_conn ≡ s % length b.slots
    same = ap (λ (k : ℕ). s % k) (sym st.size)

    pick : (i : ℕ) → i < t.max_conn → (x : Bool) → (i == s % t.max_conn) ≡ x → (if x then (w.number, w.uid) else words i) ≡ ((word_in (with_word b s w) i).number, (word_in (with_word b s w) i).uid)
    pick i lt true e =
        let j : i ≡ s % length b.slots = eq_is i (s % t.max_conn) e ∙ same in
        let is : word_in (with_word b s w) i ≡ w = ap (λ (k : ℕ). word_in (with_word b s w) k) j ∙ get_or-set_same b.slots (s % length b.slots) w free (subst (λ (k : ℕ). k < length b.slots) j (omega (arith, lt, st.size))) in
        ap (λ (v : Word). (v.number, v.uid)) (sym is)
    pick i lt false e =
        let ne : i ≢ s % length b.slots = (λ q. absurd (let r : (i == s % t.max_conn) ≡ true = eq_same i (s % t.max_conn) (q ∙ sym same) in let v : true ≡ false = sym r ∙ e in cc)) in
        let is : word_in (with_word b s w) i ≡ word_in b i = get_or-set_other b.slots (s % length b.slots) i w free ne in
        st.each i lt ∙ ap (λ (v : Word). (v.number, v.uid)) (sym is)

-- a look
pub look_fits : (t : Terms) (legal : List Ran → Type 0) (y : ActorId) (b : Words) (p : Ports) → BookStands t b p → 1 ≤ t.max_conn → (s : ℕ) → ¬ (s ≡ 0) → Answers t legal p y (Looks s (seen_of (look_answer s (word_of b s))))
look_fits t legal y b p st some s n = (n, pick ((word_of b s).number == s) refl)
  where
    pick : (x : Bool) → ((word_of b s).number == s) ≡ x → SeesIt (p.words (s % t.max_conn)) s (seen_of (if x then look.Live (word_of b s).uid else look.Other (word_of b s).number))
    pick true e = here t b p.words st.slots some s ∙ ap (λ (k : ℕ). (k, (word_of b s).uid)) (eq_is (word_of b s).number s e)
    pick false e = (ap (λ (w : ℕ × ℕ). w.0) (here t b p.words st.slots some s), λ q. absurd (let r : ((word_of b s).number == s) ≡ true = eq_same (word_of b s).number s q in let v : true ≡ false = sym r ∙ e in cc))

-- a bind to another uid than 0
pub bind_fits : (t : Terms) (legal : List Ran → Type 0) (y : ActorId) (b : Words) (p : Ports) → BookStands t b p → 1 ≤ t.max_conn → (s u : ℕ) → ¬ (s ≡ 0) → ¬ (u ≡ 0) → Answers t legal p y (Binds s u (got_of (bind_answer s (word_of b s)))) × BookStands t (bound b s u (word_of b s)) (ported t p y (Binds s u (got_of (bind_answer s (word_of b s)))))
bind_fits t legal y b p st some s u n nu = one ((word_of b s).number == s) refl ((word_of b s).uid == 0) refl
  where
    one : (x : Bool) → ((word_of b s).number == s) ≡ x → (z : Bool) → ((word_of b s).uid == 0) ≡ z →
        Answers t legal p y (Binds s u (got_of (if x then (if z then Ok tt else Err (bind.Bound (word_of b s).uid)) else Err (bind.Other (word_of b s).number))))
        × BookStands t (if x then (if z then with_word b s record { number = s; uid = u } else b) else b) (ported t p y (Binds s u (got_of (if x then (if z then Ok tt else Err (bind.Bound (word_of b s).uid)) else Err (bind.Other (word_of b s).number)))))
    one true e true f = (
      (n, (nu, here t b p.words st.slots some s ∙ ap (λ (k : ℕ). (k, (word_of b s).uid)) (eq_is (word_of b s).number s e) ∙ ap (λ (k : ℕ). (s, k)) (eq_is (word_of b s).uid 0 f))),
      record { slots = set_stands t b p.words st.slots some s (record { number = s; uid = u }); last = st.last },
    )
    one true e false f = (
      (n, ((λ q. absurd (let r : ((word_of b s).uid == 0) ≡ true = eq_same (word_of b s).uid 0 q in let v : true ≡ false = sym r ∙ f in cc)), here t b p.words st.slots some s ∙ ap (λ (k : ℕ). (k, (word_of b s).uid)) (eq_is (word_of b s).number s e))),
      record { slots = st.slots; last = st.last },
    )
    one false e z f = (
      (n, (ap (λ (w : ℕ × ℕ). w.0) (here t b p.words st.slots some s), λ q. absurd (let r : ((word_of b s).number == s) ≡ true = eq_same (word_of b s).number s q in let v : true ≡ false = sym r ∙ e in cc))),
      record { slots = st.slots; last = st.last },
    )

-- a bind to 0
pub zero_fits : (t : Terms) (legal : List Ran → Type 0) (y : ActorId) (b : Words) (p : Ports) → BookStands t b p → (s : ℕ) → ¬ (s ≡ 0) → Answers t legal p y (Binds s 0 ZeroUid) × BookStands t b (ported t p y (Binds s 0 ZeroUid))
zero_fits t legal y b p st s n = ((n, refl), record { slots = st.slots; last = st.last })

-- a release
pub release_fits : (t : Terms) (legal : List Ran → Type 0) (y : ActorId) (b : Words) (p : Ports) → BookStands t b p → 1 ≤ t.max_conn → (s : ℕ) → ¬ (s ≡ 0) → (word_of b s).number ≡ s → Answers t legal p y (Frees s (word_of b s).uid) × BookStands t (with_word b s free) (ported t p y (Frees s (word_of b s).uid))
release_fits t legal y b p st some s n own = ((n, here t b p.words st.slots some s ∙ ap (λ (k : ℕ). (k, (word_of b s).uid)) own), record { slots = set_stands t b p.words st.slots some s free; last = st.last })

-- a claim, try by try
abbrev Tries : Terms → (ℕ → ℕ × ℕ) → Claim × ℕ → Claimed → Type 0
Tries t words r c = (r ≡ (claim_of c.answer, c.words.last)) × SlotsStand t c.words (words_by t.max_conn words r.0)

tries : (t : Terms) (words : ℕ → ℕ × ℕ) (k : ℕ) (b : Words) → 1 ≤ t.max_conn → SlotsStand t b words → Tries t words (claim_by t.max_conn words k b.last) (claim_in k b)
tries t words zero b some st = (refl, st)
tries t words (suc k) b some st = by (tries t words k (drawn b) some (record { size = st.size; each = st.each }))
  where
    tests : ((words ((b.last + 1) % t.max_conn)).0 == 0) ≡ ((word_of b (b.last + 1)).number == 0)
    tests = ap (λ (w : ℕ × ℕ). w.0 == 0) (here t b words st some (b.last + 1))

    two : (x y : Bool) → Tries t words (claim_by t.max_conn words k (b.last + 1)) (claim_in k (drawn b)) →
        Tries t words (if x then (Spent, b.last) else if y then (Drew (b.last + 1), b.last + 1) else claim_by t.max_conn words k (b.last + 1)) (if x then record { answer = Err fault.Spent; words = b } else (if y then record { answer = Ok (b.last + 1); words = taken b } else claim_in k (drawn b)))
    two true y rest = (refl, st)
    two false true rest = (refl, set_stands t (drawn b) words (record { size = st.size; each = st.each }) some (b.last + 1) (record { number = b.last + 1; uid = 0 }))
    two false false rest = rest

    by : Tries t words (claim_by t.max_conn words k (b.last + 1)) (claim_in k (drawn b)) → Tries t words (claim_by t.max_conn words (suc k) b.last) (claim_in (suc k) b)
    by rest = subst (λ (x : Bool). Tries t words (if b.last == 4294967295 then (Spent, b.last) else if x then (Drew (b.last + 1), b.last + 1) else claim_by t.max_conn words k (b.last + 1)) (claim_in (suc k) b)) (sym tests) (two (b.last == 4294967295) ((word_of b (b.last + 1)).number == 0) rest)

pub claim_fits : (t : Terms) (b : Words) (p : Ports) → BookStands t b p → 1 ≤ t.max_conn → (y : ActorId) (ip : ℕ) → ((claimed t p).0 ≡ claim_of (plain_claim b).answer) × BookStands t (plain_claim b).words (ported t p y (Accepts ip (claim_of (plain_claim b).answer)))
claim_fits t b p st some y ip =
    let r : Tries t p.words (claim_by t.max_conn p.words t.max_conn p.last) (plain_claim b) =
    subst (λ (k : ℕ). Tries t p.words (claim_by t.max_conn p.words t.max_conn p.last) (claim_in k b)) (sym st.slots.size) (subst (λ (k : ℕ). Tries t p.words (claim_by t.max_conn p.words t.max_conn k) (claim_in t.max_conn b)) st.last (tries t p.words t.max_conn b some st.slots)) in
    let same : (claimed t p).0 ≡ claim_of (plain_claim b).answer = ap (λ (x : Claim × ℕ). x.0) r.0 in
    (same, record { slots = subst (λ (x : Claim). SlotsStand t (plain_claim b).words (words_by t.max_conn p.words x)) same r.1; last = sym (ap (λ (x : Claim × ℕ). x.1) r.0) })
