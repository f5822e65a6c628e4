-- Which log and which link of the record is whose.
use Rattle.std.proofs.Common.{◌≡◌, ℕ, ◌+◌, ◌<◌, List, [], ◌∷◌, ◌++◌, refl, ap, ◌∙◌, sym, arith, Some, slice_get, zero, suc}
use Rattle.sw_lists.proofs.Lists.{collect-append, perm_has, perm_sym}
use Rattle.sw_lists.specs.Lists.{collect, Has}
use Rattle.sw_step.specs.declared.actor.ActorId.{ActorId}
use Rattle.sw_step.specs.declared.actor.ActorId.TheVariants.{Worker, Tasker}
use Rattle.sw_record.specs.Sessions.{accepted_by, accepted_in}
use Rattle.sw_record.specs.Terms.{Terms, logs, session_of, HasLink}
use Rattle.sw_record.specs.Words.{Log}
use Rattle.sw_record.specs.declared.record.LinkRecord.{LinkRecord}
use Rattle.sw_record.specs.declared.record.LinkState.{LinkState}
use Rattle.sw_record.specs.declared.record.LinkState.TheVariants.{Waiting, Live, Over}
use Rattle.sw_record.specs.declared.record.Record.{Record}
use Rattle.sw_past.specs.Claims.{Claim, Drew, Full, Spent, drew_in}
use Rattle.sw_past.specs.Past.{Past, drawn}
use Rattle.sw_past.specs.Routes.{crew, hands}
use Rattle.sw_join.specs.Shown.{FitsClaim, FitsClaims, log_at, IsShown}

pub crew_log : (h : Past) (f : ℕ → ActorId) (n k m : ℕ) (log : Log) → slice_get (collect (log_at h) (crew f n k)) m ≡ Some log → (m < k) × (h.log (f (n + m)) ≡ log)
crew_log h f n zero m log e = absurd (cc)
crew_log h f n (suc k) zero log e = ((omega arith), ap (λ i. h.log (f i)) (omega arith) ∙ (let q : h.log (f n) ≡ log = cc in q))
crew_log h f n (suc k) (suc m) log e = let r = crew_log h f (n + 1) k m log e in ((let a : m < k = r.0 in omega arith), ap (λ i. h.log (f i)) (omega arith) ∙ r.1)

pub shown_worker : (t : Terms) (h : Past) (r : Record) → IsShown t h r → (k : ℕ) (log : Log) → slice_get r.workers k ≡ Some log → (k < t.worker_num) × (h.log (Worker k) ≡ log)
shown_worker t h r i k log e =
    let c = crew_log h Worker 0 t.worker_num k log (sym (ap (λ (xs : List Log). slice_get xs k) i.workers) ∙ e) in
    (c.0, ap (λ m. h.log (Worker m)) (omega arith) ∙ c.1)

pub shown_tasker : (t : Terms) (h : Past) (r : Record) → IsShown t h r → (k : ℕ) (log : Log) → slice_get r.taskers k ≡ Some log → (k < t.tasker_num) × (h.log (Tasker k) ≡ log)
shown_tasker t h r i k log e =
    let c = crew_log h Tasker 0 t.tasker_num k log (sym (ap (λ (xs : List Log). slice_get xs k) i.taskers) ∙ e) in
    (c.0, ap (λ m. h.log (Tasker m)) (omega arith) ∙ c.1)

pub shown_logs : (t : Terms) (h : Past) (r : Record) → IsShown t h r → logs r ≡ collect (log_at h) (hands t)
shown_logs t h r i = ap (λ (xs : List Log). xs ++ r.taskers) i.workers ∙ ap (λ (xs : List Log). collect (log_at h) (crew Worker 0 t.worker_num) ++ xs) i.taskers ∙ sym (collect-append (log_at h) (crew Worker 0 t.worker_num) (crew Tasker 0 t.tasker_num))

-- the link of a claim
pub record IsLinkOf (t : Terms) (links : List LinkRecord) (s : ℕ) : Type 0 where
  pub link : LinkRecord
  pub has : Has link links
  pub session : session_of link.state ≡ Some s

fits_session : (t : Terms) (ip s : ℕ) (state : LinkState) → FitsClaim t ip state (Drew s) → session_of state ≡ Some s
fits_session t ip s Waiting f = absurd f
fits_session t ip s (Live e) f = f.0
fits_session t ip s (Over e) f = f.0

more : (t : Terms) (l : LinkRecord) (ls : List LinkRecord) (s : ℕ) → IsLinkOf t ls s → IsLinkOf t (l ∷ ls) s
more t l ls s i = record { link = i.link; has = (suc i.has.0, i.has.1); session = i.session }

fits_drawn : (t : Terms) (ls : List LinkRecord) (xs : List (ℕ × Claim)) → FitsClaims t ls xs → (s : ℕ) → Has s (collect drew_in xs) → IsLinkOf t ls s
fits_drawn t [] [] f s has = absurd (let q : slice_get [] has.0 ≡ Some s = has.1 in cc)
fits_drawn t [] (x ∷ xs) f s has = absurd f
fits_drawn t (l ∷ ls) [] f s has = absurd f
fits_drawn t (l ∷ ls) ((ip, Drew u) ∷ xs) f s (zero, e) = record { link = l; has = (0, refl); session = fits_session t ip u l.state f.1 ∙ e }
fits_drawn t (l ∷ ls) ((ip, Drew u) ∷ xs) f s (suc k, e) = more t l ls s (fits_drawn t ls xs f.2 s (k, e))
fits_drawn t (l ∷ ls) ((ip, Full) ∷ xs) f s has = more t l ls s (fits_drawn t ls xs f.2 s has)
fits_drawn t (l ∷ ls) ((ip, Spent) ∷ xs) f s has = more t l ls s (fits_drawn t ls xs f.2 s has)

later : (l : LinkRecord) (ls : List LinkRecord) (k : LinkRecord) → Has k ls → Has k (l ∷ ls)
later l ls k h = (suc h.0, h.1)

pub accepted_has : (ls : List LinkRecord) (k : LinkRecord) → Has k (collect accepted_in ls) → Has k ls
accepted_has [] k h = absurd (let q : slice_get [] h.0 ≡ Some k = h.1 in cc)
accepted_has (l ∷ ls) k h = pick l.state h (λ g. accepted_has ls k g)
  where
    one : Has k (l ∷ collect accepted_in ls) → ((Has k (collect accepted_in ls)) → Has k ls) → Has k (l ∷ ls)
    one (zero, e) f = (0, e)
    one (suc n, e) f = later l ls k (f (n, e))

    pick : (s : LinkState) → Has k (accepted_by s l ++ collect accepted_in ls) → ((Has k (collect accepted_in ls)) → Has k ls) → Has k (l ∷ ls)
    pick Waiting g f = later l ls k (f g)
    pick (Live e) g f = one g f
    pick (Over e) g f = one g f

pub shown_drawn : (t : Terms) (h : Past) (r : Record) → IsShown t h r → (s : ℕ) → Has s (drawn h) → (l : LinkRecord) × HasLink r.links s l
shown_drawn t h r i s has =
    let k = fits_drawn t i.net h.accepts i.accepts s has in
    let a = accepted_has r.links k.link (perm_has k.link (perm_sym i.arranged) k.has) in
    (k.link, record { at = a.0; there = a.1; session = k.session })
