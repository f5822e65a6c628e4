-- Requests that are given one after the other.
use Rattle.std.proofs.Common.{◌≡◌, ℕ, ◌+◌, List, [], ◌∷◌, ◌++◌, refl, sym, subst, ◌∙◌, ap}
use Rattle.std.specs.Prelude.{true, Result, Ok, Err, IfOk}
use Rattle.sw_base.specs.declared.out_of_memory.OutOfMemory.{OutOfMemory}
use Rattle.sw_data.specs.declared.acts.Act.{Act}
use Rattle.sw_data.specs.declared.acts.Act.TheVariants.{Send}
use Rattle.sw_http.specs.declared.next.HttpFault.{HttpFault}
use Rattle.sw_http.specs.Cutting.{Cutting, IsAnswer, after, told}
use Rattle.sw_http_worker.specs.declared.serving.Serving.{Serving}
use Rattle.sw_http_worker.specs.declared.serving.Doing.{Doing}
use Rattle.sw_http_worker.specs.declared.serving.Doing.TheVariants as doings
use Rattle.sw_http_worker.specs.declared.serving.Step.{Step}
use Rattle.sw_http_worker.specs.declared.serving.Step.TheVariants.{Again, Acts as ActsNow}
use Rattle.sw_http_worker.specs.Serving.{Acts, IsOpen, GivesDone, WereGiven, given_one, Stops, Serves, Steps}
use Rattle.sw_http_worker.specs.Refusal.{refusal_text}

-- some requests were given, and the handler was done with each at once
pub record HaveGiven {H : Type 0} (acts : Acts H) (s : ℕ) (old : H) (v : Serving) (new : H) (w : Serving) : Type 0 where
  pub requests : List (List ℕ × ℕ)
  pub given : WereGiven acts s old v requests new w

pub none_given : {H : Type 0} (acts : Acts H) (s : ℕ) (old : H) (v : Serving) → HaveGiven acts s old v old v
none_given acts s old v = record { requests = []; given = (refl, refl) }

one_more : {H : Type 0} (acts : Acts H) (s : ℕ) (old : H) (v : Serving) (qs : List (List ℕ × ℕ)) (m : H) (u : Serving) (bytes : List ℕ) (head : ℕ) (new : H) (w : Serving)
    → WereGiven acts s old v qs m u → GivesDone acts s m u bytes head new → w ≡ given_one u bytes head → WereGiven acts s old v (qs ++ (bytes, head) ∷ []) new w
one_more acts s old v [] m u bytes head new w is gives e =
    (new, subst (λ x. GivesDone acts s old x bytes head new) (sym is.1) (subst (λ h. GivesDone acts s h u bytes head new) (sym is.0) gives), (refl, ap (λ x. given_one x bytes head) is.1 ∙ sym e))
one_more acts s old v (q ∷ qs) m u bytes head new w (n, done, more) gives e = (n, done, one_more acts s n (given_one v q.0 q.1) qs m u bytes head new w more gives e)

pub given_more : {H : Type 0} (acts : Acts H) (s : ℕ) (old : H) (v : Serving) (m : H) (u : Serving) (new : H) (w : Serving) → HaveGiven acts s old v m u → Steps acts s m u Again new w → HaveGiven acts s old v new w
given_more acts s old v m u new w is (bytes, head, gives, e) = record { requests = is.requests ++ (bytes, head) ∷ []; given = one_more acts s old v is.requests m u bytes head new w is.given gives e }

pub has_served : {H : Type 0} (acts : Acts H) (s : ℕ) (old : H) (v : Serving) (m : H) (u : Serving) (act : Act) (doing : Doing) (new : H) (w : Serving) → HaveGiven acts s old v m u → Stops acts s m u act doing new w → Serves acts s old v act doing new w
has_served acts s old v m u act doing new w is stops = record { requests = is.requests; handler = m; serving = u; given = is.given; stops = stops }

-- the client is refused for a fault
pub refuses : {H : Type 0} (acts : Acts H) (s : ℕ) (old : H) (v : Serving) (fault : HttpFault) (k : Cutting) (result : Result Step OutOfMemory)
    → IsOpen v → IsAnswer v.cutter (told fault) → k ≡ after v.cutter (told fault) → IfOk result (λ step. step ≡ ActsNow (Send s refusal_text) (doings.Refusing s))
    → IfOk result (λ step. Steps acts s old v step old (record { cutter = k; given = v.given; refused = true }))
refuses acts s old v fault k (Err e) opens due is step = tt
refuses acts s old v fault k (Ok step) opens due is e =
    subst (λ x. Steps acts s old v x old (record { cutter = k; given = v.given; refused = true })) (sym e)
    (refl, record { fault = fault; opens = opens; due = due; sends = refl; same = refl; kept = λ i. record { cutter = is i; given = v.given; refused = true } })

-- the handler is done with one more, and the next one may follow
pub goes_on : {H : Type 0} (acts : Acts H) (s : ℕ) (old : H) (v : Serving) (m : H) (u : Serving) (step : Step) (new : H) (w : Serving) → HaveGiven acts s old v m u → step ≡ Again → Steps acts s m u step new w → HaveGiven acts s old v new w
goes_on acts s old v m u step new w is again steps = given_more acts s old v m u new w is (subst (λ x. Steps acts s m u x new w) again steps)
