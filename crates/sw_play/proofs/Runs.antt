-- Runs, one behind the other.
use Rattle.std.proofs.Common.{◌≡◌, ℕ, zero, suc, ◌+◌, List, [], ◌∷◌, ◌++◌, refl, ap, sym, subst, ◌∙◌, arith}
use Rattle.std.specs.Prelude.{replicate, Result, Ok, Err, OnOk}
use Rattle.std.proofs.lemmas.Grind.{replicate_next, flat_map-append}
use Rattle.std.proofs.lemmas.List.{append-nil}
use Rattle.sw_hand.specs.Ports.{Acting}
use Rattle.sw_step.specs.declared.actor.ActorId.{ActorId}
use Rattle.sw_step.specs.declared.actor.ActorId.TheVariants.{Door, Reactor, Worker, Tasker}
use Rattle.sw_step.specs.declared.step.Step.{Step}
use Rattle.sw_step.specs.declared.step.Step.TheVariants.{Turn}
use Rattle.sw_settings.specs.declared.values.Values.{Values}
use Rattle.sw_schedule.specs.declared.schedule.Line.{Line}
use Rattle.sw_world_state.specs.declared.state.State.{State}
use Rattle.sw_world_state.specs.Steps.{Steps}
use Rattle.sw_world.specs.Run.{Ran}
use Rattle.sw_play.specs.Steps.{each, round, rounds, steps_of_line, steps_of}

-- no step
pub none : {H T : Type 0} (acts : Acting H) (does : Acting T) (s : State H T) → Ran acts does s [] s
none acts does s = refl

pub one_step : {H T : Type 0} (acts : Acting H) (does : Acting T) (s n : State H T) (x : Step) → Steps acts does s x n → Ran acts does s (x ∷ []) n
one_step acts does s n x h = (n, (h, refl))

-- where something holds at Ok, what follows from it does
pub at_ok : {A E : Type 0} (P Q : Type 0) (r : Result A E) → (P → Q) → OnOk r P → OnOk r Q
at_ok P Q (Ok a) f h = f h
at_ok P Q (Err e) f h = tt

-- steps behind others
pub behind : {H T : Type 0} (acts : Acting H) (does : Acting T) (xs ys : List Step) (s m n : State H T) → Ran acts does s xs m → Ran acts does m ys n → Ran acts does s (xs ++ ys) n
behind {H} {T} acts does [] ys s m n f g = subst (λ (r : State H T). Ran acts does r ys n) f g
behind acts does (x ∷ xs) ys s m n f g = (f.0, (f.1.0, behind acts does xs ys f.0 m n f.1.1 g))

-- the same, where the steps have another name
so_behind : {H T : Type 0} (acts : Acting H) (does : Acting T) (xs ys zs : List Step) (s m n : State H T) → xs ++ ys ≡ zs → Ran acts does s xs m → Ran acts does m ys n → Ran acts does s zs n
so_behind acts does xs ys zs s m n is f g = subst (λ (ws : List Step). Ran acts does s ws n) is (behind acts does xs ys s m n f g)

-- a round: the door, and then all of each kind
all_round : {H T : Type 0} (acts : Acting H) (does : Acting T) (v : Values) (s d r w t : State H T) → Ran acts does s (Turn Door ∷ []) d → Ran acts does d (each Reactor v.reactor_num) r → Ran acts does r (each Worker v.worker_num) w → Ran acts does w (each Tasker v.task_worker_num) t
    → Ran acts does s (round v) t
unfolding round
all_round acts does v s d r w t door reactors workers taskers =
    behind acts does (Turn Door ∷ each Reactor v.reactor_num ++ each Worker v.worker_num) (each Tasker v.task_worker_num) s w t
    (behind acts does (Turn Door ∷ each Reactor v.reactor_num) (each Worker v.worker_num) s r w
    (behind acts does (Turn Door ∷ []) (each Reactor v.reactor_num) s d r door reactors) workers) taskers

-- as many of a kind, under another name
so_many : {H T : Type 0} (acts : Acting H) (does : Acting T) (kind : ℕ → ActorId) (s n : State H T) (k m : ℕ) → k ≡ m → Ran acts does s (each kind k) n → Ran acts does s (each kind m) n
so_many acts does kind s n k m is f = subst (λ (x : ℕ). Ran acts does s (each kind x) n) is f

-- the same, where the numbers are those of the settings
pub whole_round : {H T : Type 0} (acts : Acting H) (does : Acting T) (v : Values) (s d r w t : State H T) (i j k : ℕ) → i ≡ v.reactor_num → j ≡ v.worker_num → k ≡ v.task_worker_num → Ran acts does s (Turn Door ∷ []) d → Ran acts does d (each Reactor i) r → Ran acts does r (each Worker j) w → Ran acts does w (each Tasker k) t
    → Ran acts does s (round v) t
whole_round acts does v s d r w t i j k ei ej ek door reactors workers taskers =
    all_round acts does v s d r w t door (so_many acts does Reactor d r i v.reactor_num ei reactors) (so_many acts does Worker r w j v.worker_num ej workers) (so_many acts does Tasker w t k v.task_worker_num ek taskers)

-- ---- one more

pub turn_more : {H T : Type 0} (acts : Acting H) (does : Acting T) (s m n : State H T) (x : Step) (k : ℕ) → Ran acts does s (replicate k x) m → Ran acts does m (x ∷ []) n → Ran acts does s (replicate (k + 1) x) n
turn_more acts does s m n x k f g = so_behind acts does (replicate k x) (x ∷ []) (replicate (k + 1) x) s m n (sym (replicate_next k x)) f g

each_next : (kind : ℕ → ActorId) (k : ℕ) → each kind k ++ Turn (kind k) ∷ [] ≡ each kind (k + 1)
unfolding each
each_next kind k = let one : suc k ≡ k + 1 = omega arith in ap (each kind) one

pub none_each : {H T : Type 0} (acts : Acting H) (does : Acting T) (s : State H T) (kind : ℕ → ActorId) → Ran acts does s (each kind 0) s
unfolding each
none_each acts does s kind = refl

pub one_of_each : {H T : Type 0} (acts : Acting H) (does : Acting T) (s m n : State H T) (kind : ℕ → ActorId) (k : ℕ) → Ran acts does s (each kind k) m → Ran acts does m (Turn (kind k) ∷ []) n → Ran acts does s (each kind (k + 1)) n
one_of_each acts does s m n kind k f g = so_behind acts does (each kind k) (Turn (kind k) ∷ []) (each kind (k + 1)) s m n (each_next kind k) f g

rounds_next : (v : Values) (k : ℕ) → rounds v k ++ round v ≡ rounds v (k + 1)
unfolding rounds
rounds_next v k = let one : suc k ≡ k + 1 = omega arith in ap (rounds v) one

pub no_rounds : {H T : Type 0} (acts : Acting H) (does : Acting T) (s : State H T) (v : Values) → Ran acts does s (rounds v 0) s
unfolding rounds
no_rounds acts does s v = refl

pub round_more : {H T : Type 0} (acts : Acting H) (does : Acting T) (s m n : State H T) (v : Values) (k : ℕ) → Ran acts does s (rounds v k) m → Ran acts does m (round v) n → Ran acts does s (rounds v (k + 1)) n
round_more acts does s m n v k f g = so_behind acts does (rounds v k) (round v) (rounds v (k + 1)) s m n (rounds_next v k) f g

pub line_more : {H T : Type 0} (acts : Acting H) (does : Acting T) (s m n : State H T) (v : Values) (ls : List Line) (l : Line) → Ran acts does s (steps_of v ls) m → Ran acts does m (steps_of_line v l) n → Ran acts does s (steps_of v (ls ++ l ∷ [])) n
line_more acts does s m n v ls l f g =
    let is : steps_of v ls ++ steps_of_line v l ≡ steps_of v (ls ++ l ∷ []) = rw (flat_map-append (steps_of_line v) ls (l ∷ []), append-nil (steps_of_line v l)) refl in
    so_behind acts does (steps_of v ls) (steps_of_line v l) (steps_of v (ls ++ l ∷ [])) s m n is f g
