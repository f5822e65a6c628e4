-- What calls answer, case by case.
use Rattle.std.proofs.Common.{◌≡◌, ◌≢◌, ℕ, zero, suc, Bool, true, false, cond, Result, Ok, Err, eq-eqb, ne_eqb, eqb, sym, refl, ap, ◌∙◌}
use Rattle.sw_port_book.specs.declared.word.Word.{Word}
use Rattle.sw_port_book.specs.declared.answers.Look.TheVariants.{Live, Other}
use Rattle.sw_port_book.specs.declared.answers.BindFault.{BindFault}
use Rattle.sw_port_book.specs.declared.answers.BindFault.TheVariants as fault
use Rattle.sw_port_book.specs.Answers.{look_answer, bind_answer, Binds}

choose_so : {A : Type 0} (b : Bool) (x y : A) → b ≡ true → x ≡ cond b x y
choose_so b x y e = ap (λ t. cond t x y) (sym e)

choose_not : {A : Type 0} (b : Bool) (x y : A) → b ≡ false → y ≡ cond b x y
choose_not b x y e = ap (λ t. cond t x y) (sym e)

pub look_live : (session : ℕ) (word : Word) → word.number ≡ session → Live word.uid ≡ look_answer session word
look_live session word e = choose_so (eqb word.number session) (Live word.uid) (Other word.number) (eq-eqb word.number session e)

pub look_other : (session : ℕ) (word : Word) → word.number ≢ session → Other word.number ≡ look_answer session word
look_other session word ne = choose_not (eqb word.number session) (Live word.uid) (Other word.number) (ne_eqb word.number session ne)

abbrev Bound : Type 0
Bound = Result (Unit {0}) BindFault

pub bind_other : (session : ℕ) (word : Word) → word.number ≢ session → ◌≡◌ {A = Bound} (Err (fault.Other word.number)) (bind_answer session word)
bind_other session word ne = choose_not (eqb word.number session) (cond (eqb word.uid 0) (Ok tt) (Err (fault.Bound word.uid))) (Err (fault.Other word.number)) (ne_eqb word.number session ne)

pub bind_bound : (session : ℕ) (word : Word) → word.number ≡ session → word.uid ≢ 0 → ◌≡◌ {A = Bound} (Err (fault.Bound word.uid)) (bind_answer session word)
bind_bound session word e ne =
    choose_not (eqb word.uid 0) (Ok tt) (Err (fault.Bound word.uid)) (ne_eqb word.uid 0 ne)
    ∙ choose_so (eqb word.number session) (cond (eqb word.uid 0) (Ok tt) (Err (fault.Bound word.uid))) (Err (fault.Other word.number)) (eq-eqb word.number session e)

pub bind_ok : (session : ℕ) (word : Word) → word.number ≡ session → word.uid ≡ 0 → ◌≡◌ {A = Bound} (Ok tt) (bind_answer session word)
bind_ok session word e z =
    choose_so (eqb word.uid 0) (Ok tt) (Err (fault.Bound word.uid)) (eq-eqb word.uid 0 z)
    ∙ choose_so (eqb word.number session) (cond (eqb word.uid 0) (Ok tt) (Err (fault.Bound word.uid))) (Err (fault.Other word.number)) (eq-eqb word.number session e)

-- a bind to a uid other than 0 found a word
pub binds_by : {B : Type 0} (finds : B → ℕ → ℕ → Word → B → Type 0) (before : B) (session uid : ℕ) (answer : Bound) (after : B) (found : Word)
    → uid ≢ 0 → finds before session uid found after → answer ≡ bind_answer session found → Binds finds before session uid answer after
binds_by finds before session zero answer after found some f e = absurd (some refl)
binds_by finds before session (suc uid) answer after found some f e = (found, f, e)
