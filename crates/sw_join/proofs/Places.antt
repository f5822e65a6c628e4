-- Seats' lists are the logs' lists.
use Rattle.std.proofs.Common.{◌≡◌, ℕ, List, [], ◌∷◌, length, refl, ap, ◌∙◌, sym, subst, Some, slice_get, zero, suc}
use Rattle.sw_lists.specs.Lists.{collect, Each, Has}
use Rattle.sw_lists.specs.Numbers.{Rises}
use Rattle.sw_step.specs.declared.actor.ActorId.{ActorId}
use Rattle.sw_record.specs.Answers.{answers_of}
use Rattle.sw_record.specs.Places.{busy_in, spent_in, Ran, placed, places, Placed}
use Rattle.sw_record.specs.Terms.{Terms, logs}
use Rattle.sw_record.specs.Words.{Log}
use Rattle.sw_record.specs.declared.record.Record.{Record}
use Rattle.sw_past.specs.Past.{Past}
use Rattle.sw_past.specs.Routes.{hands}
use Rattle.sw_join.proofs.Causes.{log_in}
use Rattle.sw_join.proofs.Merged.{Apart, hands_apart}
use Rattle.sw_join.proofs.Own.{IsLogOf, log_of}
use Rattle.sw_join.specs.Places.{TableLaws}
use Rattle.sw_join.specs.Shown.{IsShown}

each_at : (P : ActorId → Type 0) (xs : List ActorId) (k : ℕ) (x : ActorId) → Each P xs → slice_get xs k ≡ Some x → P x
each_at P [] k x h e = absurd (cc)
each_at P (y ∷ ys) zero x h e = subst P (let q : y ≡ x = cc in q) h.0
each_at P (y ∷ ys) (suc k) x h e = each_at P ys k x h.1 e

apart_index : (ys : List ActorId) (j k : ℕ) (y : ActorId) → Apart ys → slice_get ys j ≡ Some y → slice_get ys k ≡ Some y → j ≡ k
apart_index [] j k y a e f = absurd (cc)
apart_index (x ∷ ys) zero zero y a e f = refl
apart_index (x ∷ ys) zero (suc k) y a e f = absurd (each_at (λ z. ¬ (x ≡ z)) ys k y a.0 f (let q : x ≡ y = cc in q))
apart_index (x ∷ ys) (suc j) zero y a e f = absurd (each_at (λ z. ¬ (x ≡ z)) ys j y a.0 e (let q : x ≡ y = cc in q))
apart_index (x ∷ ys) (suc j) (suc k) y a e f = ap (λ n. suc n) (apart_index ys j k y a.1 e f)

pub placed_right : (t : Terms) (legal : List Ran → Type 0) (h : Past) (r : Record) → IsShown t h r → (seat : ActorId → List (ℕ × Ran)) → TableLaws t legal h seat → Placed t legal r
placed_right t legal h r i seat l =
    record {
      history = l.history;
      is_legal = l.is_legal;
      each = λ k log there. (let o = log_of t h r i k log there in subst (λ (x : List (ℕ × Ran)). Each (λ (p : ℕ × Ran). slice_get l.history p.0 ≡ Some p.1) x) (seat_is k log there o) (l.each o.who));
      rise = λ k log there. (let o = log_of t h r i k log there in subst (λ (x : List (ℕ × Ran)). Rises (places x)) (seat_is k log there o) (l.rise o.who));
      once = λ j k log other there theres apart. (let o = log_of t h r i j log there in let q = log_of t h r i k other theres in
          subst (λ (x : List (ℕ × Ran)). Each (λ n. Each (λ m. ¬ (n ≡ m)) (places (placed other))) (places x)) (seat_is j log there o)
          (subst (λ (x : List (ℕ × Ran)). Each (λ n. Each (λ m. ¬ (n ≡ m)) (places x)) (places (seat o.who))) (seat_is k other theres q)
          (l.once o.who q.who (λ e. apart (apart_index (hands t) j k o.who (hands_apart t) o.at (q.at ∙ ap (λ (z : ActorId). Some z) (sym e)))))));
      all = λ n lt. (let y = l.all n lt in let g = log_in t h r i y.0 y.1.0 in (g.k, (h.log y.0, (g.there, subst (λ (x : List (ℕ × Ran)). Has n (places x)) (sym (l.logged y.0 y.1.0)) y.1.1))));
      no_busy = λ k log there. (let o = log_of t h r i k log there in subst (λ (x : Log). collect busy_in (answers_of x) ≡ []) o.log_is (l.no_busy o.who o.hand));
      spent = λ k log there. (let o = log_of t h r i k log there in subst (λ (x : Log). Each (λ n. (n ≡ t.table_last_call) × (length l.history ≡ n)) (collect spent_in (answers_of x))) o.log_is (l.spent o.who o.hand));
    }
  where
    seat_is : (k : ℕ) (log : Log) → slice_get (logs r) k ≡ Some log → (o : IsLogOf t h k log) → seat o.who ≡ placed log
    seat_is k log there o = sym (l.logged o.who o.hand) ∙ ap placed o.log_is
