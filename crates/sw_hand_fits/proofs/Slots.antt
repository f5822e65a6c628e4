-- The own sessions as slots.
use Rattle.std.proofs.Common.{◌≡◌, ℕ, zero, suc, ◌<◌, ◌%◌, ◌==◌, Bool, true, false, if◌then◌else◌, List, [], ◌∷◌, length, refl, ap, ◌∙◌, sym, Option, Some, None, inl, inr, arith, slice_index_or, slice_set}
use Rattle.std.proofs.lemmas.Nat.{mod_below}
use Rattle.sw_lists.proofs.Lists.{eq_same, eq_other, equal_or_not}
use Rattle.sw_step.specs.declared.actor.ActorId.{ActorId}
use Rattle.sw_record.specs.Words.{Event, Connect, Packet, Closed, Finish, Task}
use Rattle.sw_record.specs.Terms.{Terms, keeps}
use Rattle.sw_record.specs.Fits.{is_some, at_fd, own_with, own_behind}
use Rattle.sw_past.specs.Messages.{Message}
use Rattle.sw_hand.specs.Stage.{current_of}
use Rattle.sw_hand.specs.House.{fd_of}
use Rattle.sw_hand.specs.Hand.{own_with as code_own_with, own_less}
use Rattle.sw_hand.specs.declared.house.House.{House}
use Rattle.sw_hand.specs.declared.house.Kind.{Kind}
use Rattle.sw_hand.specs.declared.house.Kind.TheVariants as kinds
use Rattle.sw_hand_laws.specs.Hand.{bye_to, last_words}
use Rattle.sw_hand_fits.specs.Matches.{actor_of, HouseFits, own_of, IsNumberedEvent}
use Rattle.sw_hand_fits.proofs.Basics.{keeps_same, fd_same, own_some}

-- a slot that is set, and every other one
next_same : (m n : ℕ) → (suc m == suc n) ≡ (m == n)
next_same m n = elim (equal_or_not m n) [
  | inl q ↦ eq_same (suc m) (suc n) (ap suc q) ∙ sym (eq_same m n q)
  | inr q ↦ eq_other (suc m) (suc n) (λ e. q (omega (arith, e))) ∙ sym (eq_other m n q)
]

zero_next : (n : ℕ) → (0 == suc n) ≡ false
zero_next n = eq_other 0 (suc n) (λ e. absurd (omega (arith, e)))

next_zero : (n : ℕ) → (suc n == 0) ≡ false
next_zero n = eq_other (suc n) 0 (λ e. absurd (omega (arith, e)))

slot_none : (xs : List ℕ) (j fd : ℕ) → slice_index_or (slice_set xs j 0) fd 0 ≡ (if fd == j then 0 else slice_index_or xs fd 0)
slot_none [] j fd = both (fd == j)
  where
    both : (v : Bool) → ◌≡◌ {A = ℕ} 0 (if v then 0 else 0)
    both true = refl
    both false = refl
slot_none (x ∷ xs) zero zero = refl
slot_none (x ∷ xs) zero (suc fd) = ap (λ v. if v then 0 else slice_index_or xs fd 0) (sym (next_zero fd))
slot_none (x ∷ xs) (suc j) zero = ap (λ v. if v then 0 else x) (sym (zero_next j))
slot_none (x ∷ xs) (suc j) (suc fd) = slot_none xs j fd ∙ ap (λ v. if v then 0 else slice_index_or xs fd 0) (sym (next_same fd j))

slot_some : (xs : List ℕ) (j s fd : ℕ) → j < length xs → slice_index_or (slice_set xs j s) fd 0 ≡ (if fd == j then s else slice_index_or xs fd 0)
slot_some [] j s fd lt = absurd (omega (arith, lt))
slot_some (x ∷ xs) zero s zero lt = refl
slot_some (x ∷ xs) zero s (suc fd) lt = ap (λ v. if v then s else slice_index_or xs fd 0) (sym (next_zero fd))
slot_some (x ∷ xs) (suc j) s zero lt = ap (λ v. if v then s else x) (sym (zero_next j))
slot_some (x ∷ xs) (suc j) s (suc fd) lt = slot_some xs j s fd (omega (arith, lt)) ∙ ap (λ v. if v then s else slice_index_or xs fd 0) (sym (next_same fd j))

own_positive : (s : ℕ) → 0 < s → own_of s ≡ Some s
own_positive zero lt = absurd (omega (arith, lt))
own_positive (suc s) lt = refl

-- these own sessions stand in the slots
abbrev pub Stands : Terms → (ℕ → Option ℕ) → List ℕ → Type 0
Stands t own slots = keeps t.mode ≡ true → (fd : ℕ) → fd < t.max_conn → own fd ≡ own_of (slice_index_or slots fd 0)

-- a Connect
connect_by : (t : Terms) (own : ℕ → Option ℕ) (slots : List ℕ) (s fd : ℕ) (v : Bool) → own fd ≡ own_of (slice_index_or slots fd 0) → 0 < s → (if v then Some s else own fd) ≡ own_of (if v then s else slice_index_or slots fd 0)
connect_by t own slots s fd true q lt = sym (own_positive s lt)
connect_by t own slots s fd false q lt = q

pub connect_stands : (t : Terms) (h : House) (own : ℕ → Option ℕ) (slots : List ℕ) (s : ℕ) → HouseFits t h → (keeps t.mode ≡ true → length slots ≡ t.max_conn) → 0 < s → 0 < t.max_conn → Stands t own slots → Stands t (own_with t own (Connect s)) (code_own_with h slots (current_of (Connect s)))
connect_stands t h own slots s f room lt some st q fd fl =
    let told : own_with t own (Connect s) fd ≡ at_fd own (s % t.max_conn) (Some s) fd = ap (λ v. (if v then at_fd own (s % t.max_conn) (Some s) else own) fd) q in
    let set : code_own_with h slots (current_of (Connect s)) ≡ slice_set slots (s % t.max_conn) s = ap (λ v. if v then slice_set slots (fd_of h s) s else slots) (keeps_same t h f ∙ q) ∙ ap (λ n. slice_set slots n s) (fd_same t h s f) in
    told ∙ connect_by t own slots s fd (fd == s % t.max_conn) (st q fd fl) lt ∙ sym (ap own_of (ap (λ (xs : List ℕ). slice_index_or xs fd 0) set ∙ slot_some slots (s % t.max_conn) s fd (let below : s % t.max_conn < t.max_conn = mod_below s t.max_conn some in omega (arith, below, room q))))

pub with_stands : (t : Terms) (h : House) (own : ℕ → Option ℕ) (slots : List ℕ) (e : Event) → HouseFits t h → (keeps t.mode ≡ true → length slots ≡ t.max_conn) → IsNumberedEvent e → 0 < t.max_conn → Stands t own slots → Stands t (own_with t own e) (code_own_with h slots (current_of e))
with_stands t h own slots (Connect s) f room lt some st = connect_stands t h own slots s f room lt some st
with_stands t h own slots (Packet s i b) f room lt some st = st
with_stands t h own slots (Closed s) f room lt some st = st
with_stands t h own slots (Finish id b) f room lt some st = st
with_stands t h own slots (Task w id b) f room lt some st = st

-- a Closed whose Bye is pushed
without_by : (t : Terms) (own : ℕ → Option ℕ) (slots : List ℕ) (j fd : ℕ) (v : Bool) → own fd ≡ own_of (slice_index_or slots fd 0) → (if v then at_fd own j None else own) fd ≡ own_of (slice_index_or (if v then slice_set slots j 0 else slots) fd 0)
without_by t own slots j fd false q = q
without_by t own slots j fd true q = by (fd == j) ∙ sym (ap own_of (slot_none slots j fd))
  where
    by : (w : Bool) → (if w then None else own fd) ≡ own_of (if w then 0 else slice_index_or slots fd 0)
    by true = refl
    by false = q

pub closed_stands : (t : Terms) (h : House) (own : ℕ → Option ℕ) (slots : List ℕ) (s : ℕ) → HouseFits t h → 0 < s → 0 < t.max_conn → Stands t own slots → Stands t (own_behind t own (Closed s ∷ [])) (own_less h slots (current_of (Closed s)))
closed_stands t h own slots s f lt some st q fd fl =
    let test : (slice_index_or slots (s % t.max_conn) 0 == s) ≡ is_some s (own (s % t.max_conn)) = own_some (slice_index_or slots (s % t.max_conn) 0) s lt ∙ sym (ap (is_some s) (st q (s % t.max_conn) (mod_below s t.max_conn some))) in
    let less : own_less h slots (current_of (Closed s)) ≡ (if is_some s (own (s % t.max_conn)) then slice_set slots (s % t.max_conn) 0 else slots) = ap (λ n. if slice_index_or slots n 0 == s then slice_set slots n 0 else slots) (fd_same t h s f) ∙ ap (λ v. if v then slice_set slots (s % t.max_conn) 0 else slots) test in
    without_by t own slots (s % t.max_conn) fd (is_some s (own (s % t.max_conn))) (st q fd fl) ∙ sym (ap (λ (xs : List ℕ). own_of (slice_index_or xs fd 0)) less)

-- in the modes that tie a connection to a worker, Closed alone has a last word of a session
early_none : (t : Terms) (s : ℕ) (p : ActorId × Message) → keeps t.mode ≡ true → (if keeps t.mode then [] else bye_to t s) ≡ p ∷ [] → ⊥
early_none t s p q e = absurd (let r : [] ≡ p ∷ [] = sym (ap (λ v. if v then [] else bye_to t s) q) ∙ e in cc)

pub less_stands : (t : Terms) (h : House) (kind : Kind) (own : ℕ → Option ℕ) (slots : List ℕ) (e : Event) (p : ActorId × Message) → HouseFits t h → IsNumberedEvent e → 0 < t.max_conn → last_words t (actor_of kind) e ≡ p ∷ [] → Stands t own slots → Stands t (own_behind t own (e ∷ [])) (own_less h slots (current_of e))
less_stands t h (kinds.Worker w) own slots (Connect s) p f lt some l st = λ q fd fl. absurd (early_none t s p q l)
less_stands t h (kinds.Worker w) own slots (Packet s i b) p f lt some l st = λ q fd fl. absurd (early_none t s p q l)
less_stands t h (kinds.Worker w) own slots (Closed s) p f lt some l st = closed_stands t h own slots s f lt some st
less_stands t h (kinds.Worker w) own slots (Finish id b) p f lt some l st = st
less_stands t h (kinds.Worker w) own slots (Task v id b) p f lt some l st = st
less_stands t h (kinds.Tasker k) own slots (Connect s) p f lt some l st = absurd (cc)
less_stands t h (kinds.Tasker k) own slots (Packet s i b) p f lt some l st = absurd (cc)
less_stands t h (kinds.Tasker k) own slots (Closed s) p f lt some l st = absurd (cc)
less_stands t h (kinds.Tasker k) own slots (Finish id b) p f lt some l st = absurd (cc)
less_stands t h (kinds.Tasker k) own slots (Task v id b) p f lt some l st = st
