-- Lines played one behind the other.
use Rattle.std.proofs.Common.{◌≡◌, ℕ, zero, suc, ◌+◌, List, [], ◌∷◌, ◌++◌, Some, None, Result, Bool, refl, ap, sym, subst, ◌∙◌, add-one, append_assoc, append-nil}
use Rattle.std.specs.Prelude.{is_some}
use Rattle.std.specs.FinMap as map
use Rattle.sw_timers.specs.declared.fault.TimerFault.{TimerFault}
use Rattle.sw_timers.specs.Due.{Agenda, IsAdded, IsDue}
use Rattle.sw_timers_text.specs.declared.line.Line.{Line}
use Rattle.sw_timers_text.specs.declared.line.Line.TheVariants.{After, Tick, Clear}
use Rattle.sw_timers_text.specs.Prints.{Adds, cleared_text, fire_text, FiresJust, Plays, PlaysAll, Writes}

-- ---- what is put behind a text

pub writes_more : (P Q : List ℕ → Type 0) (old mid new y : List ℕ) → ((x : List ℕ) → P x → Q (x ++ y)) → Writes P old mid → new ≡ mid ++ y → Writes Q old new
writes_more P Q old mid new y f (x, p, e) is = (x ++ y, f x p, is ∙ ap (λ z. z ++ y) e ∙ append_assoc old x y)

pub writes_as : (P Q : List ℕ → Type 0) (old new : List ℕ) → ((x : List ℕ) → P x → Q x) → Writes P old new → Writes Q old new
writes_as P Q old new f (x, p, e) = (x, f x p, e)

pub writes_nothing : (P : List ℕ → Type 0) (old : List ℕ) → P [] → Writes P old old
writes_nothing P old p = ([], p, sym (append-nil old))

-- ---- what falls due

alone : (x f : List ℕ) → x ≡ [] → x ++ f ≡ f ++ []
alone x f e = ap (λ y. y ++ f) e ∙ sym (append-nil f)

fires_at : (now n : ℕ) (s t u : Agenda) (x : List ℕ) (r : ℕ × ℕ) → FiresJust now n s x t → IsDue now t u (Some r) → FiresJust now (suc n) s (x ++ fire_text r) u
unfolding FiresJust
fires_at now zero s t u x r (none, same) due = (r, u, [], subst (λ (a : Agenda). IsDue now a u (Some r)) same due, (refl, refl), alone x (fire_text r) none)
fires_at now (suc n) s t u x r (q, v, rest, first, more, is) due =
    (q, v, rest ++ fire_text r, first, fires_at now n v t u rest r more due, ap (λ y. y ++ fire_text r) is ∙ append_assoc (fire_text q) rest (fire_text r))

pub fires_more : (now n : ℕ) (s t u : Agenda) (x : List ℕ) (r : ℕ × ℕ) → FiresJust now n s x t → IsDue now t u (Some r) → FiresJust now (n + 1) s (x ++ fire_text r) u
fires_more now n s t u x r just due = rw add-one (fires_at now n s t u x r just due)

pub fires_nothing : (now : ℕ) (s : Agenda) → FiresJust now 0 s [] s
unfolding FiresJust
fires_nothing now s = (refl, refl)

-- ---- one line

pub after_plays : (s t : Agenda) (now delay : ℕ) (r : Result ℕ TimerFault) (old new : List ℕ) → IsAdded s now delay None t r → Writes (Adds r) old new → Writes (λ text. Plays s (After now delay) text t) old new
after_plays s t now delay r old new added (x, a, e) = (x, (r, added, a), e)

pub tick_plays : (s t : Agenda) (now every : ℕ) (r : Result ℕ TimerFault) (old new : List ℕ) → IsAdded s now every (Some every) t r → Writes (Adds r) old new → Writes (λ text. Plays s (Tick now every) text t) old new
tick_plays s t now every r old new added (x, a, e) = (x, (r, added, a), e)

pub clear_plays : (s t : Agenda) (id : ℕ) (there : Bool) (old new : List ℕ) → there ≡ is_some (map.get s.waiting id) → t ≡ record s { waiting = map.remove s.waiting id } → new ≡ old ++ cleared_text there → Writes (λ text. Plays s (Clear id) text t) old new
clear_plays s t id there old new is left e = (cleared_text there, (ap cleared_text is, left), e)

-- ---- all lines

pub plays_more : (s t u : Agenda) (es : List Line) (e : Line) (x y : List ℕ) → PlaysAll s es x t → Plays t e y u → PlaysAll s (es ++ e ∷ []) (x ++ y) u
unfolding PlaysAll
plays_more s t u [] e x y (none, same) plays = (u, y, [], subst (λ (a : Agenda). Plays a e y u) same plays, (refl, refl), alone x y none)
plays_more s t u (d ∷ ds) e x y (v, front, rest, first, more, is) plays = (v, front, rest ++ y, first, plays_more v t u ds e rest y more plays, ap (λ z. z ++ y) is ∙ append_assoc front rest y)

pub plays_nothing : (s : Agenda) → PlaysAll s [] [] s
unfolding PlaysAll
plays_nothing s = (refl, refl)

-- one line more is played behind those before it
pub plays_next : (s t u : Agenda) (es fs : List Line) (e : Line) (old new : List ℕ) → fs ≡ es ++ e ∷ [] → PlaysAll s es old t → Writes (λ text. Plays t e text u) old new → PlaysAll s fs new u
plays_next s t u es fs e old new cut all (y, plays, is) =
    subst (λ (ls : List Line). PlaysAll s ls new u) (sym cut)
    (subst (λ (z : List ℕ). PlaysAll s (es ++ e ∷ []) z u) (sym is) (plays_more s t u es e old y all plays))
