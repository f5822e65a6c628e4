-- What a log of the record shows of a session, by what its reactor pushed.
use Rattle.std.proofs.Common.{◌≡◌, ◌⊎◌, ℕ, ◌+◌, List, [], ◌++◌, length, refl, ap, ◌∙◌, sym, subst, arith, Some, slice_get, inl, inr, zero, suc}
use Rattle.sw_lists.proofs.Lists.{length_append, prefix_none}
use Rattle.sw_lists.proofs.Sums.{sum_same}
use Rattle.sw_lists.specs.Lists.{collect, IsPrefix}
use Rattle.sw_lists.specs.Numbers.{sum_below}
use Rattle.sw_step.specs.declared.actor.ActorId.TheVariants.{Reactor, Worker}
use Rattle.sw_record.specs.Logs.{told_of}
use Rattle.sw_record.specs.Terms.{Terms, HasLink, ended_of, reactor_of}
use Rattle.sw_record.specs.Whole.{IsOwnEnd}
use Rattle.sw_record.specs.Words.{Event, Ended, Log}
use Rattle.sw_record.specs.declared.record.LinkRecord.{LinkRecord}
use Rattle.sw_record.specs.declared.record.LinkState.{LinkState}
use Rattle.sw_record.specs.declared.record.LinkState.TheVariants.{Over}
use Rattle.sw_record.specs.declared.record.Record.{Record}
use Rattle.sw_past.specs.Past.{Mail, Past}
use Rattle.sw_past.specs.Routes.{crew}
use Rattle.sw_join.proofs.Shown.{shown_worker}
use Rattle.sw_join.proofs.Told.{shows, told_prefix, unkept_none}
use Rattle.sw_join.proofs.Whole.{told_all}
use Rattle.sw_join.specs.Laws.{Aim, Ending, streams, IsKept, Joint, Locals}
use Rattle.sw_join.specs.Shown.{IsComing, log_at, IsShown}

-- the reactor's pushes of the session
abbrev pub pushes : Terms → Past → ℕ → Mail
pushes t h s = h.pushed (Reactor (reactor_of t s))

pub begins : (t : Terms) (a : Aim) (w : Ending) (h : Past) (r : Record) → Locals t a w h → Joint t h → IsShown t h r → (s k : ℕ) (log : Log) → slice_get r.workers k ≡ Some log → IsPrefix (told_of s log) (streams s (pushes t h s) k)
begins t a w h r l j i s k log there =
    let b = shown_worker t h r i k log there in
    subst (λ (x : Log). IsPrefix (told_of s x) (streams s (pushes t h s) k)) b.1 (told_prefix t a w h l j k s b.0)

-- a link is its reactor's, with what its mode says, or nothing was told of it
pub record IsServed (t : Terms) (a : Aim) (w : Ending) (h : Past) (s : ℕ) (l : LinkRecord) : Type 0 where
  pub kept : IsKept t a w s l (h.took (Reactor (reactor_of t s))) (pushes t h s)

pub record IsSilent (t : Terms) (h : Past) (s : ℕ) (l : LinkRecord) : Type 0 where
  pub coming : IsComing t h s l
  pub none : (k : ℕ) → streams s (pushes t h s) k ≡ []

pub served : (t : Terms) (a : Aim) (w : Ending) (h : Past) (r : Record) → Locals t a w h → Joint t h → IsShown t h r → (s : ℕ) (l : LinkRecord) → HasLink r.links s l → IsServed t a w h s l ⊎ IsSilent t h s l
served t a w h r l j i s k has =
    elim (i.link s k has) [
      | inl q ↦ inl (record { kept = (shows t a w h l j (reactor_of t s) q.0).keeps s k q.1 has.session })
      | inr c ↦ inr (record { coming = c; none = λ m. unkept_none t a w h l j s m c.unkept })
    ]

pub silent_log : (t : Terms) (a : Aim) (w : Ending) (h : Past) (r : Record) → Locals t a w h → Joint t h → IsShown t h r → (s : ℕ) (l : LinkRecord) → IsSilent t h s l → (k : ℕ) (log : Log) → slice_get r.workers k ≡ Some log → told_of s log ≡ []
silent_log t a w h r l j i s k c m log there = prefix_none (told_of s log) (streams s (pushes t h s) m) (begins t a w h r l j i s m log there) (c.none m)

-- at an own end a log shows all
pub ends_whole : (t : Terms) (a : Aim) (w : Ending) (h : Past) (r : Record) → Locals t a w h → Joint t h → IsShown t h r → (s : ℕ) (l : LinkRecord) (e : Ended) → IsServed t a w h s l → l.state ≡ Over e → IsOwnEnd t e → (k : ℕ) (log : Log) → slice_get r.workers k ≡ Some log → told_of s log ≡ streams s (pushes t h s) k
ends_whole t a w h r l j i s link e v state mine k log there =
    let b = shown_worker t h r i k log there in
    ap (told_of s) (sym b.1) ∙ told_all t a w h l j s link e v.kept.mid (v.kept.ended e state mine) k b.0

pub not_silent : (t : Terms) (h : Past) (s : ℕ) (l : LinkRecord) (e : Ended) → IsSilent t h s l → l.state ≡ Over e → IsOwnEnd t e → ⊥
not_silent t h s l e c state mine = (c.coming.lives e state).0 mine

pub ended_is : (state : LinkState) (e : Ended) → state ≡ Over e → ended_of state ≡ Some e
ended_is state e q = rw q refl

-- sums over all logs of workers
pub sum_front : (f : ℕ → ℕ) (k : ℕ) → sum_below f (suc k) ≡ f 0 + sum_below (λ m. f (suc m)) k
sum_front f zero = omega arith
sum_front f (suc k) = let r : sum_below f (suc k) ≡ f 0 + sum_below (λ m. f (suc m)) k = sum_front f k in omega arith

pub crew_sum : (h : Past) (g : Log → List Event) (n k : ℕ) → length (collect g (collect (log_at h) (crew Worker n k))) ≡ sum_below (λ m. length (g (h.log (Worker (n + m))))) k
crew_sum h g n zero = refl
crew_sum h g n (suc k) =
    let f : ℕ → ℕ = λ m. length (g (h.log (Worker (n + m)))) in
    let r : length (collect g (collect (log_at h) (crew Worker (n + 1) k))) ≡ sum_below (λ m. length (g (h.log (Worker (n + 1 + m))))) k = crew_sum h g (n + 1) k in
    let s : sum_below (λ m. length (g (h.log (Worker (n + 1 + m))))) k ≡ sum_below (λ m. f (suc m)) k = sum_same (λ m. length (g (h.log (Worker (n + 1 + m))))) (λ m. f (suc m)) k (λ m. ap (λ x. length (g (h.log (Worker x)))) (omega arith)) in
    let z : length (g (h.log (Worker n))) ≡ f 0 = ap (λ x. length (g (h.log (Worker x)))) (omega arith) in
    let a : length (g (h.log (Worker n)) ++ collect g (collect (log_at h) (crew Worker (n + 1) k))) ≡ length (g (h.log (Worker n))) + length (collect g (collect (log_at h) (crew Worker (n + 1) k))) = length_append (g (h.log (Worker n))) (collect g (collect (log_at h) (crew Worker (n + 1) k))) in
    omega (arith, sum_front f k)

pub workers_sum : (t : Terms) (h : Past) (r : Record) → IsShown t h r → (g : Log → List Event) → length (collect g r.workers) ≡ sum_below (λ m. length (g (h.log (Worker m)))) t.worker_num
workers_sum t h r i g =
    ap (λ (xs : List Log). length (collect g xs)) i.workers ∙ crew_sum h g 0 t.worker_num
    ∙ sum_same (λ m. length (g (h.log (Worker (0 + m))))) (λ m. length (g (h.log (Worker m)))) t.worker_num (λ m. ap (λ x. length (g (h.log (Worker x)))) (omega arith))
