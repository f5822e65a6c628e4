-- A call that is tried again: what its seat has seen meanwhile, and how it ends.
use Rattle.std.proofs.Common.{◌≡◌, ℕ, ◌+◌, ◌<◌, ◌≤◌, Bool, true, false, List, [], ◌∷◌, ◌++◌, length, replicate, All, Option, Some, None, refl, ap, sym, ◌∙◌, subst, append_assoc}
use Rattle.sw_base.specs.declared.table.Value.{Value}
use Rattle.sw_base.specs.declared.table.Call.{Call}
use Rattle.sw_base.specs.declared.table.CallFault.{CallFault}
use Rattle.sw_base.specs.declared.table.CallFault.TheVariants.{Busy, Spent, BadKey, NoColumn, NotInt, BadValue, Range}
use Rattle.sw_base.specs.declared.table.Reply.{Reply}
use Rattle.sw_base.specs.declared.table.WordId.TheVariants as words
use Rattle.sw_column.specs.Fit.{call_fault}
use Rattle.sw_table_laws.specs.Table.{Legal, TStep, shown}
use Rattle.sw_rowlock.specs.History.{calls, others, AllBegin, draws_from, draws_of}
use Rattle.sw_rowlock.proofs.Histories.{calls_look, others_append}
use Rattle.sw_table_join.specs.declared.table_call.TableCall.{TableCall}
use Rattle.sw_table_join.specs.Histories.{history}
use Rattle.sw_table_join.specs.Tables.{SharedNow, SeatView, shape_of, call_on, rows_after}
use Rattle.sw_table_join.specs.Answers.{Answered, NotPlaced, RefusedFor, Refused}
use Rattle.sw_table.specs.Waiting.{is_busy, Waited, GivenUpFor, GivenUp}

module _ {Q : Type 0} where
  none_end : (xs : List (ℕ × Q)) → xs ++ [] ≡ xs
  none_end [] = refl
  none_end (x ∷ xs) = ap (λ (ys : List (ℕ × Q)). x ∷ ys) (none_end xs)

  -- calls of others are no draws
  same_from : (n : ℕ) (xs : List (ℕ × Q)) (qs : List Q) → draws_from n (xs ++ others qs) ≡ draws_from n xs
  same_from n [] [] = refl
  same_from n [] (q ∷ qs) = same_from (n + 1) [] qs
  same_from n (x ∷ xs) qs = ap (λ (ys : List (ℕ × Q)). replicate x.0 (n, x.1) ++ ys) (same_from (n + 1) xs qs)

pub waited_none : (s : SeatView) → Waited s s
waited_none s = record { between = []; seen = sym (none_end s.seen); also = refl }

waited_more : (old mid new : SeatView) (more : List TableCall) → Waited old mid → new.seen ≡ mid.seen ++ others more → new.also ≡ mid.also → Waited old new
waited_more old mid new more w seen also = record {
  between = w.between ++ more;
  seen = seen ∙ ap (λ (s : List (ℕ × TableCall)). s ++ others more) w.seen ∙ append_assoc old.seen (others w.between) (others more) ∙ ap (λ (s : List (ℕ × TableCall)). old.seen ++ s) (sym (others_append w.between more));
  also = also ∙ w.also;
}

same_waited : (old mid new : SeatView) → Waited old mid → new.seen ≡ mid.seen → new.also ≡ mid.also → Waited old new
same_waited old mid new w seen also = record { between = w.between; seen = seen ∙ w.seen; also = also ∙ w.also }

-- a call that was found busy saw calls of others and made none
waited_busy : (t : SharedNow) (old mid new : SeatView) (call : Call) (fault : CallFault) → is_busy fault ≡ true → Waited old mid → NotPlaced t mid new call fault → Waited old new
waited_busy t old mid new call (Busy (words.Row b) found) e w n = same_waited old mid new w (ap (λ (s : SeatView). s.seen) n.1.1) (ap (λ (s : SeatView). s.also) n.1.1)
waited_busy t old mid new call (Busy words.Pool found) e w n = same_waited old mid new w (ap (λ (s : SeatView). s.seen) n.taken.1) (ap (λ (s : SeatView). s.also) n.taken.1)
waited_busy t old mid new call (Busy words.Sequence found) e w n = waited_more old mid new n.between w (ap (λ (s : SeatView). s.seen) n.now) (ap (λ (s : SeatView). s.also) n.now)
waited_busy t old mid new call (Spent made) e w n = absurd (cc)
waited_busy t old mid new call BadKey e w n = absurd (cc)
waited_busy t old mid new call NoColumn e w n = absurd (cc)
waited_busy t old mid new call NotInt e w n = absurd (cc)
waited_busy t old mid new call BadValue e w n = absurd (cc)
waited_busy t old mid new call Range e w n = absurd (cc)

-- a call that doesn't fit the columns leaves its seat
abbrev pub Unchanged : Option CallFault → SeatView → SeatView → Type 0
Unchanged None old new = Unit {0}
Unchanged (Some own) old new = new ≡ old

busy_by : (o : Option CallFault) (t : SharedNow) (old mid new : SeatView) (call : Call) (fault : CallFault) → is_busy fault ≡ true → Waited old mid → Unchanged o old mid → RefusedFor o t mid new call fault → Waited old new × Unchanged o old new
busy_by None t old mid new call fault e w u r = (waited_busy t old mid new call fault e w r, tt)
busy_by (Some own) t old mid new call fault e w u r = (same_waited old mid new w (ap (λ (s : SeatView). s.seen) r.1) (ap (λ (s : SeatView). s.also) r.1), r.1 ∙ u)

pub busy_again : (t : SharedNow) (old mid new : SeatView) (call : Call) (row row' : List Value) (fault : CallFault) → is_busy fault ≡ true → Waited old mid → Unchanged (call_fault t.columns call) old mid → Refused t mid new call row row' fault
    → Waited old new × Unchanged (call_fault t.columns call) old new
busy_again t old mid new call row row' fault e w u r = busy_by (call_fault t.columns call) t old mid new call fault e w u r.1

pub start_unchanged : (o : Option CallFault) (s : SeatView) → Unchanged o s s
start_unchanged None s = tt
start_unchanged (Some own) s = refl

none_left : (t : SharedNow) (old mid new : SeatView) (call : Call) (fault : CallFault) → is_busy fault ≡ false → Waited old mid → NotPlaced t mid new call fault → GivenUpFor None t old new fault
none_left t old mid new call (Busy word found) e w n = absurd (cc)
none_left t old mid new call (Spent made) e w n = (
  made,
  refl,
  record {
    waited = waited_more old mid new n.between w (ap (λ (s : SeatView). s.seen) n.now) (ap (λ (s : SeatView). s.also) n.now);
    count = n.count ∙ ap (λ (qs : List TableCall). length qs) (sym (ap (λ (s : SeatView). calls s.seen) n.now ∙ calls_look mid.seen n.between));
    at_end = n.at_end;
  },
)
none_left t old mid new call BadKey e w n = absurd n
none_left t old mid new call NoColumn e w n = absurd n
none_left t old mid new call NotInt e w n = absurd n
none_left t old mid new call BadValue e w n = absurd n
none_left t old mid new call Range e w n = absurd n

given_by : (o : Option CallFault) (t : SharedNow) (old mid new : SeatView) (call : Call) (fault : CallFault) → is_busy fault ≡ false → Waited old mid → Unchanged o old mid → RefusedFor o t mid new call fault → GivenUpFor o t old new fault
given_by None t old mid new call fault e w u r = none_left t old mid new call fault e w r
given_by (Some own) t old mid new call fault e w u r = (r.0, r.1 ∙ u)

pub given_up : (t : SharedNow) (old mid new : SeatView) (call : Call) (start row row' : List Value) (fault : CallFault) → is_busy fault ≡ false → Waited old mid → Unchanged (call_fault t.columns call) old mid → row ≡ start → Refused t mid new call row row' fault
    → GivenUp t old new call start row' fault
given_up t old mid new call start row row' fault e w u same r = (r.0 ∙ same, given_by (call_fault t.columns call) t old mid new call fault e w u r.1)

-- the answer, as one for the seat before it waited
pub answered_later : (t : SharedNow) (old mid new : SeatView) (call : Call) (start row row' : List Value) (at : ℕ) (reply : Reply) → Waited old mid → row ≡ start → Answered t mid new call row row' at reply → Answered t old new call start row' at reply
answered_later t old mid new call start row row' at reply w same a =
    let seen : calls mid.seen ++ a.between ≡ calls old.seen ++ (w.between ++ a.between) =
    ap (λ (s : List (ℕ × TableCall)). calls s ++ a.between) w.seen ∙ ap (λ (qs : List TableCall). qs ++ a.between) (calls_look old.seen w.between) ∙ append_assoc (calls old.seen) w.between a.between in
    let own : List (ℕ × TableCall) = (1, call_on t call) ∷ [] in
    let drawn : draws_of mid.seen ≡ draws_of old.seen = ap (λ (s : List (ℕ × TableCall)). draws_of s) w.seen ∙ same_from 0 old.seen w.between in
    record {
      between = w.between ++ a.between;
      seen = a.seen
          ∙ ap (λ (s : List (ℕ × TableCall)). s ++ (others a.between ++ own)) w.seen
          ∙ append_assoc old.seen (others w.between) (others a.between ++ own)
          ∙ ap (λ (s : List (ℕ × TableCall)). old.seen ++ s) (sym (append_assoc (others w.between) (others a.between) own) ∙ ap (λ (s : List (ℕ × TableCall)). s ++ own) (sym (others_append w.between a.between)));
      learnt = subst (λ (qs : List TableCall). AllBegin old.also qs) seen (subst (λ (xss : List (List TableCall)). AllBegin xss (calls mid.seen ++ a.between)) w.also a.learnt);
      fit = a.fit;
      place = a.place ∙ ap (λ (qs : List TableCall). length qs) seen;
      room = a.room;
      draws = a.draws ∙ ap (λ (ds : List (ℕ × TableCall)). ds ++ (at, call_on t call) ∷ []) drawn;
      rises = subst (λ (ds : List (ℕ × TableCall)). All (λ d. d.0 < at) ds) drawn a.rises;
      once = a.once;
      legal = subst (λ (qs : List TableCall). Legal (shape_of t) (history (shape_of t) (qs ++ call_on t call ∷ []))) seen a.legal;
      told = a.told ∙ ap (λ (qs : List TableCall). (TStep (shape_of t) (rows_after t qs) call).reply) seen;
      shows = a.shows ∙ ap (λ (qs : List TableCall). shown (TStep (shape_of t) (rows_after t qs) call) row) seen ∙ ap (λ (r : List Value). shown (TStep (shape_of t) (rows_after t (calls old.seen ++ (w.between ++ a.between))) call) r) same;
    }
