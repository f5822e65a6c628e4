-- Each link that ended shows its cause, by what its reactor's law shows of it.
use Rattle.std.proofs.Common.{◌≡◌, ℕ, ◌≤◌, Bool, List, [], ◌∷◌, ◌++◌, refl, ap, ◌∙◌, sym, subst, Option, Some, slice_get, zero, suc}
use Rattle.sw_lists.specs.Lists.{collect, Has}
use Rattle.sw_step.specs.declared.actor.ActorId.TheVariants.{Door, Reactor}
use Rattle.sw_record.specs.declared.record.LinkRecord.{LinkRecord}
use Rattle.sw_record.specs.declared.record.LinkState.TheVariants.{Over}
use Rattle.sw_record.specs.Words.{NoSlot, NumbersSpent, Ended}
use Rattle.sw_record.specs.Terms.{Terms, reactor_of}
use Rattle.sw_record.specs.Causes.{ShowsCause, LinksShow}
use Rattle.sw_record.specs.Places.{Ran}
use Rattle.sw_past.specs.Claims.{Claim}
use Rattle.sw_past.specs.Past.{Past}
use Rattle.sw_world_ports.specs.Made.{accept_in}
use Rattle.sw_world_laws.specs.Shows.{Tells}
use Rattle.sw_world_laws.specs.Actors.{Actors}
use Rattle.sw_world_laws.specs.World.{Core}
use Rattle.sw_world_laws.specs.History.{History, past_of}
use Rattle.sw_world_laws.specs.Law.{Holds}
use Rattle.sw_world_laws.specs.Account.{untouched, refusal, link_by, links_by, waits, tells_by, end_told, fault_told, none_told, outside_of, outside}
use Rattle.sw_world_laws.proofs.Turns.{more_of}
use Rattle.sw_world_laws.proofs.Account.{Shape, Kept, Coming, NoneFull, NoneSpent, shape, account_by}

-- a link shows its cause, by what it tells
abbrev Shows : Terms → LinkRecord → Tells → Type 0
Shows t l k = (e : Ended) → l.state ≡ Over e → ShowsCause t l (Some k.at_end) (Some k.failed) e.cause

-- no link waits and is over
none_waits : (t : Terms) (ws : List ℕ) (at : ℕ) (l : LinkRecord) (e : Ended) (x y : Option Bool) → slice_get (collect waits ws) at ≡ Some l → l.state ≡ Over e → ShowsCause t l x y e.cause
none_waits t [] at l e x y has over = absurd (cc)
none_waits t (w ∷ ws) zero l e x y has over = absurd (cc)
none_waits t (w ∷ ws) (suc at) l e x y has over = none_waits t ws at l e x y has over

-- link by link
by_place : (t : Terms) (kept : ℕ → List LinkRecord) (told : ℕ → ℕ → Tells) (xs : List (ℕ × Claim)) (ws : List ℕ) → ((x : ℕ × Claim) → Has x xs → Shows t (link_by t kept x.0 x.1) (tells_by t told x.1)) →
    (at : ℕ) (l : LinkRecord) (e : Ended) → slice_get (collect (links_by t kept) xs ++ collect waits ws) at ≡ Some l → l.state ≡ Over e →
    ShowsCause t l (slice_get (collect (end_told t told) xs ++ collect none_told ws) at) (slice_get (collect (fault_told t told) xs ++ collect none_told ws) at) e.cause
by_place t kept told [] ws f at l e has over = none_waits t ws at l e (slice_get (collect none_told ws) at) (slice_get (collect none_told ws) at) has over
by_place t kept told (x ∷ xs) ws f zero l e has over =
    let same : link_by t kept x.0 x.1 ≡ l = cc in
    subst (λ (k : LinkRecord). ShowsCause t k (Some (tells_by t told x.1).at_end) (Some (tells_by t told x.1).failed) e.cause) same (f x (0, refl) e (ap (λ (k : LinkRecord). k.state) same ∙ over))
by_place t kept told (x ∷ xs) ws f (suc at) l e has over = by_place t kept told xs ws (λ y i. f y (suc i.0, i.1)) at l e has over

pub links_show : (t : Terms) (legal : List Ran → Type 0) (p : Actors t) (c : Core p.State) (h : History) → 1 ≤ t.reactor_num → Holds t legal p c h → LinksShow t (account_by t p c h) (outside t p c)
links_show t legal p c h some l =
    subst (LinksShow t (account_by t p c h)) (ap (λ (xs : List (ℕ × Claim)). outside_of t (λ n. p.told (c.states (Reactor n))) xs c.ports.waiting) (sym l.ports.given))
    (λ at k e has over. by_place t past.kept (λ n. p.told (c.states (Reactor n))) (collect accept_in (h.dids Door)) c.ports.waiting (λ x i. one x (shape t legal p c h some l x i)) at k e has over)
  where
    past : Past
    past = past_of t p c h

    by : (ip : ℕ) (x : Claim) (k : LinkRecord) → Shape t (past_of t p c h) ip x k → Shows t k (tells_by t (λ n. p.told (c.states (Reactor n))) x)
    by ip x k (Kept s j lt has i q f) e over = (more_of t legal p c h l (reactor_of t s) lt).shows s j e has i over
    by ip x k (Coming s none) e over = absurd (cc)
    by ip x k NoneFull e over = (let i : NoSlot ≡ e.cause = (let j : refusal ip NoSlot ≡ e = cc in ap (λ (z : Ended). z.cause) j) in subst (ShowsCause t (untouched ip (Over (refusal ip NoSlot))) _ _) i tt)
    by ip x k NoneSpent e over = (let i : NumbersSpent ≡ e.cause = (let j : refusal ip NumbersSpent ≡ e = cc in ap (λ (z : Ended). z.cause) j) in subst (ShowsCause t (untouched ip (Over (refusal ip NumbersSpent))) _ _) i tt)

    one : (x : ℕ × Claim) → Shape t (past_of t p c h) x.0 x.1 (link_by t (past_of t p c h).kept x.0 x.1) → Shows t (link_by t (past_of t p c h).kept x.0 x.1) (tells_by t (λ n. p.told (c.states (Reactor n))) x.1)
    one x s = by x.0 x.1 (link_by t (past_of t p c h).kept x.0 x.1) s
