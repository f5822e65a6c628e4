-- The record of code that stands for a core is the core's.
use Rattle.std.proofs.Common.{◌≡◌, ℕ, ◌<◌, ◌≤◌, ◌+◌, ◌%◌, true, List, ◌++◌, length, map, refl, ap, ◌∙◌, sym, subst, arith, Option, Some, None, slice_get}
use Rattle.sw_lists.specs.Lists.{collect}
use Rattle.sw_step.specs.declared.actor.ActorId.TheVariants.{Reactor, Worker, Tasker}
use Rattle.sw_conn.specs.declared.terms.Terms.{Terms as ConnTerms}
use Rattle.sw_conn_fits.specs.Shown.{settings}
use Rattle.sw_record.specs.Words.{Log}
use Rattle.sw_record.specs.Terms.{Terms}
use Rattle.sw_record.specs.declared.record.LinkRecord.{LinkRecord}
use Rattle.sw_table_laws.specs.Table.{Shape}
use Rattle.sw_past.specs.Routes.{crew}
use native.Mathlib.Nat.{mod-lt}
use Rattle.std.proofs.lemmas.Option.{slice_get_within}
use Rattle.sw_hand.specs.declared.hand.Hand.{Hand as CodeHand}
use Rattle.sw_worker.specs.Generations.{Line}
use Rattle.sw_world_laws.specs.World.{Core}
use Rattle.sw_world_laws.specs.Account.{link_in, account, links_by, waits, log_of as log_listed}
use Rattle.sw_world_laws.proofs.Locals.{lt_test}
use Rattle.sw_world_hands.specs.Hands.{Crews}
use Rattle.sw_world_places.specs.Arrived.{Known}
use Rattle.sw_world_places.specs.declared.arrived.Claimed.{Claimed}
use Rattle.sw_world_places.specs.declared.arrived.Claimed.TheVariants as claims
use Rattle.sw_world_reactors.specs.declared.owner.Owner.{Owner}
use Rattle.sw_world_steps.specs.Server.{IsServed, server, AState}
use Rattle.sw_world_crew.specs.declared.recorded.Recorded.{Recorded}
use Rattle.sw_world_crew.specs.Recorded.{log_of}
use Rattle.sw_world_whole.specs.Whole.{Stands}
use Rattle.sw_world_whole.proofs.Told.{links_told, worker_log as world_worker_log, tasker_log as world_tasker_log}
use Rattle.sw_world_state.specs.declared.state.State.{State}
use Rattle.sw_world_state.specs.State.{parts_of, views}
use Rattle.sw_world_goes.specs.Ready.{Ready}
use Rattle.sw_world_account.specs.Kept.{kept_links}
use Rattle.sw_world_account.specs.Accounting.{found_or, record_by, record_of as link_record}
use Rattle.sw_world_account.proofs.Links.{links_are}
use Rattle.sw_world.specs.Account.{links_of, links_at, link_of_code, worker_log, tasker_log, record_of}
use Rattle.sw_world.proofs.Listing.{map_alike, crew_logs}

-- the record of a link looks at the links of its reactor alone
pub link_alike : (slots reactors : ℕ) (f g : ℕ → List LinkRecord) → 1 ≤ reactors → ((n : ℕ) → n < reactors → f n ≡ g n) → (l : Known) → link_record slots reactors f l ≡ link_record slots reactors g l
link_alike slots reactors f g some h l = by l.claim
  where
    by : (c : Option Claimed) → record_by slots reactors f l.ip c ≡ record_by slots reactors g l.ip c
    by None = refl
    by (Some (claims.Drew s)) = ap (λ (ls : List LinkRecord). found_or slots l.ip s (link_in s ls)) (h ((s % slots) % reactors) (mod-lt (s % slots) (omega (arith, some))))
    by (Some claims.NoSlot) = refl
    by (Some claims.NumbersSpent) = refl

module _ {H T : Type 0} (t : Terms) (served : IsServed t) (crews : Crews) (shape : Shape) (s : State (Recorded H) (Recorded T)) (c : Core AState) (st : Stands t served crews shape (views log_of log_of) (parts_of s) c) (ready : Ready t s) where
  -- the reactor of this number
  pub owner_is : (n : ℕ) → n < t.reactor_num → (o : Owner) × ((slice_get s.reactors n ≡ Some o) × (o.reactor.terms ≡ settings t))
  owner_is n lt =
      let a = st.actors (Reactor n) (lt_test n t.reactor_num lt) in
      (a.0, (a.1.0, a.1.1.1.1.fits.same.terms))

  -- its links
  pub links_same : (n : ℕ) → n < t.reactor_num → links_at s.reactors n ≡ (server t served crews).kept (c.states (Reactor n))
  links_same n lt =
      let a = owner_is n lt in
      let o = a.0 in
      ap links_of a.1.0
      ∙ ap (λ (x : ConnTerms). kept_links x o.reactor.line.conns o.ends.kept) a.1.1
      ∙ sym (links_told t served crews shape (views log_of log_of) (parts_of s) c st n o lt a.1.0)

  all_links : map (link_of_code s) s.front.links.all ≡ collect (links_by t (λ n. (server t served crews).kept (c.states (Reactor n)))) c.ports.given ++ collect waits c.ports.waiting
  all_links =
      let kept : ℕ → List LinkRecord = λ n. (server t served crews).kept (c.states (Reactor n)) in
      ap (λ (k : ℕ). map (link_record k (length s.reactors) (links_at s.reactors)) s.front.links.all) ready.slots
      ∙ ap (λ (k : ℕ). map (link_record t.max_conn k (links_at s.reactors)) s.front.links.all) ready.reactors
      ∙ map_alike (link_record t.max_conn t.reactor_num (links_at s.reactors)) (link_record t.max_conn t.reactor_num kept) (link_alike t.max_conn t.reactor_num (links_at s.reactors) kept ready.some links_same) s.front.links.all
      ∙ links_are t s.front.links c.ports.given c.ports.waiting kept st.shared.front.links

  all_workers : collect (log_listed (λ y. (server t served crews).log (c.states y))) (crew Worker 0 t.worker_num) ≡ map worker_log s.crew.workers
  all_workers = crew_logs Worker (λ y. (server t served crews).log (c.states y)) worker_log 0 s.crew.workers one t.worker_num ready.workers
    where
      one : (n : ℕ) (h : CodeHand (Line (Recorded H))) → slice_get s.crew.workers n ≡ Some h → (server t served crews).log (c.states (Worker (n + 0))) ≡ worker_log h
      one n h e =
          let within : n < length s.crew.workers = slice_get_within s.crew.workers n h e in
          let many : length s.crew.workers ≡ t.worker_num = ready.workers in
          ap (λ (k : ℕ). (server t served crews).log (c.states (Worker k))) (let same : n + 0 ≡ n = omega arith in same)
          ∙ world_worker_log t served crews shape (views log_of log_of) (parts_of s) c st n h (omega (arith, within, many)) e

  all_taskers : collect (log_listed (λ y. (server t served crews).log (c.states y))) (crew Tasker 0 t.tasker_num) ≡ map tasker_log s.crew.taskers
  all_taskers = crew_logs Tasker (λ y. (server t served crews).log (c.states y)) tasker_log 0 s.crew.taskers one t.tasker_num ready.taskers
    where
      one : (n : ℕ) (h : CodeHand (Recorded T)) → slice_get s.crew.taskers n ≡ Some h → (server t served crews).log (c.states (Tasker (n + 0))) ≡ tasker_log h
      one n h e =
          let within : n < length s.crew.taskers = slice_get_within s.crew.taskers n h e in
          let many : length s.crew.taskers ≡ t.tasker_num = ready.taskers in
          ap (λ (k : ℕ). (server t served crews).log (c.states (Tasker k))) (let same : n + 0 ≡ n = omega arith in same)
          ∙ world_tasker_log t served crews shape (views log_of log_of) (parts_of s) c st n h (omega (arith, within, many)) e

  pub record_same : account t (server t served crews) c ≡ record_of s
  record_same =
      ap (λ (ls : List LinkRecord). record { links = ls; workers = collect (log_listed (λ y. (server t served crews).log (c.states y))) (crew Worker 0 t.worker_num); taskers = collect (log_listed (λ y. (server t served crews).log (c.states y))) (crew Tasker 0 t.tasker_num) }) (sym all_links)
      ∙ ap (λ (ls : List Log). record { links = map (link_of_code s) s.front.links.all; workers = ls; taskers = collect (log_listed (λ y. (server t served crews).log (c.states y))) (crew Tasker 0 t.tasker_num) }) all_workers
      ∙ ap (λ (ls : List Log). record { links = map (link_of_code s) s.front.links.all; workers = map worker_log s.crew.workers; taskers = ls }) all_taskers

-- what was made part by part is the record of the code
pub record_listed : {H T : Type 0} (s : State (Recorded H) (Recorded T)) (links : List LinkRecord) (workers taskers : List Log) (arrived : List Known) (owners : List Owner) (hs : List (CodeHand (Line (Recorded H)))) (ks : List (CodeHand (Recorded T))) → links ≡ map (link_record s.max_conn (length owners) (links_at owners)) arrived → owners ≡ s.reactors → arrived ≡ s.front.links.all → workers ≡ map worker_log hs → hs ≡ s.crew.workers → taskers ≡ map tasker_log ks → ks ≡ s.crew.taskers → record { links = links; workers = workers; taskers = taskers } ≡ record_of s
record_listed s links workers taskers arrived owners hs ks el eo ea ew eh et ek =
    let all : links ≡ map (link_of_code s) s.front.links.all = el ∙ ap (λ (os : List Owner). map (link_record s.max_conn (length os) (links_at os)) arrived) eo ∙ ap (map (link_of_code s)) ea in
    ap (λ (ls : List LinkRecord). record { links = ls; workers = workers; taskers = taskers }) all
    ∙ ap (λ (ls : List Log). record { links = map (link_of_code s) s.front.links.all; workers = ls; taskers = taskers }) (ew ∙ ap (map worker_log) eh)
    ∙ ap (λ (ls : List Log). record { links = map (link_of_code s) s.front.links.all; workers = map worker_log s.crew.workers; taskers = ls }) (et ∙ ap (map tasker_log) ek)
