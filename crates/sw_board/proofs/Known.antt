-- A seat after a step, and the words that are there.
use Rattle.std.proofs.Common.{◌≡◌, ◌<◌, ℕ, List, [], ◌∷◌, ◌++◌, sym, ap, ◌∙◌, subst, arith}
use Rattle.atomic_table.specs.Seated.{TableId}
use Rattle.atomic_table.specs.Table.{Me}
use Rattle.atomic_table.specs.declared.shared.Seat.{Seat}
use Rattle.sw_base.specs.declared.counter.Counter.{Counter}
use Rattle.sw_port_board.specs.declared.board.BoardStep.{BoardStep}
use Rattle.sw_board.specs.declared.rule.View.{View}
use Rattle.sw_board.specs.declared.words.Words.{Words}
use Rattle.sw_board.specs.Rule.{seat, logged, actor_of, steps_of, idle_word, count_word}
use Rattle.sw_board.specs.Places.{actor_at, steps_at, IsSeat}
use Rattle.sw_board.proofs.Rows.{idle_below, count_below}

module _ {S : Type 0} where
  -- what is known of an actor's seat after a step
  pub record After (words : TableId) (p q : Seat S View) (x : BoardStep) : Type 0 where
    pub seat : IsSeat words q
    pub actor : actor_at q ≡ actor_at p
    pub steps : steps_at q ≡ steps_at p ++ x ∷ []

  pub after : (words : TableId) (p q : Seat S View) (x : BoardStep) → IsSeat words p → q.table_id ≡ p.table_id → ◌≡◌ {A = Me S View} q.me (logged p.me.0 x, p.me.1) → After words p q x
  after words p q x h t e =
      let whole : ◌≡◌ {A = Me S View} q.me (seat (actor_at p) (steps_at p ++ x ∷ []), []) = e ∙ ap (λ (m : List (ℕ × S)). (logged p.me.0 x, m)) (ap (λ (m : Me S View). m.1) h.knows) in
      let a : actor_at q ≡ actor_at p = ap (λ (m : Me S View). actor_of m.0) whole in
      let t' : steps_at q ≡ steps_at p ++ x ∷ [] = ap (λ (m : Me S View). steps_of m.0) whole in
      record {
        seat = record { of_words = t ∙ h.of_words; knows = whole ∙ (λ i. (seat (sym a i) (sym t' i), [])) };
        actor = a;
        steps = t';
      }

pub idle_there : (w : Words) (i a : ℕ) → i ≡ idle_word a → a < w.sizes.actors → i < w.table.shared.table_id.words
idle_there w i a e lt = subst (λ n. n < w.table.shared.table_id.words) (sym e) (subst (λ n. idle_word a < n) (sym w.words) (idle_below a w.sizes.actors lt))

pub count_there : (w : Words) (i : ℕ) (c : Counter) (a : ℕ) → i ≡ count_word c a → a < w.sizes.actors → i < w.table.shared.table_id.words
count_there w i c a e lt = subst (λ n. n < w.table.shared.table_id.words) (sym e) (subst (λ n. count_word c a < n) (sym w.words) (count_below c a w.sizes.actors lt))

pub stop_there : (w : Words) → 0 < w.table.shared.table_id.words
stop_there w = let e = w.words in omega (arith, e)

pub key_below : (w : Words) (a : ℕ) → a < w.sizes.actors → a < w.table.shared.key.actors
key_below w a lt = subst (λ n. a < n) (sym w.key) lt
