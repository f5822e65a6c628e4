-- What two binds of one session, each by a pass of its own, say of one another.
use Rattle.std.proofs.Common.{◌≡◌, ◌≤◌, ◌+◌, ℕ, Bool, true, false, true≢false, List, [], ◌∷◌, sym, refl, ap, ◌∙◌, subst, inl, inr, Result, Ok, Err, arith}
use mathlib.Core.Logic.{dite}
use native.Mathlib.Decide.{ℕ_discrete}
use Rattle.sw_port_book.specs.declared.word.Word.{Word}
use Rattle.sw_port_book.specs.declared.answers.BindFault.{BindFault}
use Rattle.sw_port_book.specs.Answers.{bind_answer}
use Rattle.sw_port_book.specs.Claims.{In}
use Rattle.sw_port_book.proofs.Answered.{bind_other, bind_bound}
use Rattle.sw_sessions.specs.declared.rule.Call.{Call}
use Rattle.sw_sessions.specs.declared.rule.Call.TheVariants.{Look, Bind, Release}
use Rattle.sw_sessions.specs.Calls.{ok_bind, binds, binds_in, one_if, BoundOnce, ReleasesTell}
use Rattle.sw_sessions.proofs.Moves.{binds_it}
use Rattle.sw_sessions_uses.specs.declared.two_threads.Outcome.{Outcome}
use Rattle.sw_sessions_uses.specs.Race.{BoundByOne}

abbrev Answer : Type 0
Answer = Result (Unit {0}) BindFault

abbrev is_ok : Answer → Bool
is_ok (Ok done) = true
is_ok (Err fault) = false

word_is : (found : Word) (session : ℕ) → found.number ≡ session → found.uid ≡ 0 → found ≡ record { number = session; uid = 0 }
word_is found session n u = λ i. record { number = n i; uid = u i }

-- a bind that was Ok found the session, and no uid
ok_found : (session : ℕ) (found : Word) → ◌≡◌ {A = Answer} (Ok tt) (bind_answer session found) → found ≡ record { number = session; uid = 0 }
ok_found session found e = dite (ℕ_discrete found.number session)
    (λ same. dite (ℕ_discrete found.uid 0)
    (λ none_yet. word_is found session same none_yet)
    (λ some. absurd (true≢false (ap is_ok (e ∙ sym (bind_bound session found same some))))))
    (λ other. absurd (true≢false (ap is_ok (e ∙ sym (bind_other session found other)))))

-- the calls of both passes, as they stand in a list
abbrev pub both_calls : ℕ → ℕ → Word → Word → Word → ℕ → List Call
both_calls n slot seen seven nine uid = Bind n 7 seven ∷ Release n uid ∷ Look slot seen ∷ Bind n 9 nine ∷ []

pub bound_by_one : (outcome : Outcome) (calls : List Call) (n slot : ℕ) (seen seven nine : Word) → calls ≡ both_calls n slot seen seven nine outcome.uid
    → outcome.seven ≡ bind_answer n seven → outcome.nine ≡ bind_answer n nine → BoundOnce calls → ReleasesTell calls → BoundByOne outcome
bound_by_one outcome calls n slot seen seven nine list q r at_most tells =
    let ended : In (Release n outcome.uid) calls = subst (λ (l : List Call). In (Release n outcome.uid) l) (sym list) (inr (inl refl)) in
    record {
      once = λ e d.
          let w = ok_found n seven (sym e ∙ q) in let x = ok_found n nine (sym d ∙ r) in
          let one : one_if (binds n (Bind n 7 seven)) ≡ 1 = ap one_if (binds_it n n 7 seven refl (ap (λ (y : Word). y.number) w) (ap (λ (y : Word). y.uid) w)) in
          let other : one_if (binds n (Bind n 9 nine)) ≡ 1 = ap one_if (binds_it n n 9 nine refl (ap (λ (y : Word). y.number) x) (ap (λ (y : Word). y.uid) x)) in
          let most : one_if (binds n (Bind n 7 seven)) + (0 + (0 + (one_if (binds n (Bind n 9 nine)) + 0))) ≤ 1 = subst (λ (l : List Call). binds_in n l ≤ 1) list (at_most n) in
          absurd (omega (arith, one, other, most));
      seven = λ e. let w = ok_found n seven (sym e ∙ q) in
          tells n outcome.uid 7 ended (subst (λ (l : List Call). In (ok_bind n 7) l) (sym list) (inl (ap (λ (y : Word). Bind n 7 y) (sym w))));
      nine = λ e. let w = ok_found n nine (sym e ∙ r) in
          tells n outcome.uid 9 ended (subst (λ (l : List Call). In (ok_bind n 9) l) (sym list) (inr (inr (inr (inl (ap (λ (y : Word). Bind n 9 y) (sym w)))))));
    }
