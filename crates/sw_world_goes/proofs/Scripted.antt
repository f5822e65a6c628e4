-- A step of a link's script.
use Rattle.std.proofs.Common.{◌≡◌, ℕ, ◌<◌, ◌≤◌, true, List, [], ◌∷◌, length, refl, ap, ◌∙◌, sym, subst, Option, Some, None, Ok, slice_get, slice_set}
use Rattle.std.proofs.lemmas.List.{length-set}
use Rattle.sw_base.specs.declared.out_of_memory.OutOfMemory.{OutOfMemory}
use Rattle.sw_link.specs.declared.memory_link.LinkStep.{LinkStep}
use Rattle.sw_link.specs.declared.memory_link.MemoryLink.{MemoryLink}
use Rattle.sw_link.specs.Memory.{added}
use Rattle.sw_record.specs.Words.{Log}
use Rattle.sw_record.specs.Terms.{Terms}
use Rattle.sw_table_laws.specs.Table.{Shape}
use Rattle.sw_world_laws.specs.World.{Core}
use Rattle.sw_world_laws.proofs.Locals.{lt_test}
use Rattle.sw_world_hands.specs.Hands.{Crews}
use Rattle.sw_world_steps.specs.Server.{IsServed, AState}
use Rattle.sw_reactor.specs.Line.{link_of, with_link}
use Rattle.sw_reactor_table.specs.Reactor.{Reactor as Table}
use Rattle.sw_world_reactor_fits.specs.Plain.{ReactorIs, TellsSame}
use Rattle.sw_world_reactor_fits.proofs.Others.{script_is}
use Rattle.sw_world_places.specs.Links.{kept, session_in}
use Rattle.sw_world_front.specs.declared.front.Front.{Front}
use Rattle.sw_world_reactors.specs.declared.owner.Owner.{Owner}
use Rattle.sw_world_reactors.specs.Owners.{AddsTo, IsReadyOwner}
use Rattle.sw_world_reactors_fits.proofs.Changed.{linked_ready}
use Rattle.sw_world_stands.proofs.Gets.{some_same}
use Rattle.sw_world_whole.specs.Whole.{Stands}
use Rattle.sw_world_whole.proofs.Others.{one_same}
use Rattle.sw_world_whole.proofs.Coming.{scripts, script_given}
use Rattle.sw_world_whole.proofs.Fed.{fed_same}
use Rattle.sw_world_state.specs.declared.state.State.{State}
use Rattle.sw_world_state.specs.State.{parts_of, views}
use Rattle.sw_world_state.specs.Feeding.{KeepsLeft, ScriptsBy, Scripts}
use Rattle.sw_world_goes.specs.Ready.{Ready, Goes}
use Rattle.sw_world_goes.proofs.Lists.{set_here, get_less, get_changed}

-- ready behind a change of the front alone
pub front_ready : {H T : Type 0} (t : Terms) (s : State H T) (f : Front) → Ready t s → Ready t (record s { front = f })
front_ready t s f r = record { slots = r.slots; some = r.some; few = r.few; reactors = r.reactors; workers = r.workers; taskers = r.taskers; owners = r.owners }

module _ {H T : Type 0} (t : Terms) (served : IsServed t) (crews : Crews) (shape : Shape) (worker : H → Log) (tasker : T → Log) (c : Core AState) where
  -- a step that is kept with its link
  kept_goes : (s : State H T) → Stands t served crews shape (views worker tasker) (parts_of s) c → Ready t s → (link : ℕ) (step : LinkStep) → Goes t served crews shape worker tasker c (record s { front = record s.front { links = kept link step s.front.links } })
  kept_goes s st ready link step =
      record {
        step = scripts t served crews shape (views worker tasker) (parts_of s) c st link step;
        ready = front_ready t s (record s.front { links = kept link step s.front.links }) ready;
      }

  -- one that a reactor's link is given
  given_goes : (s : State H T) → Stands t served crews shape (views worker tasker) (parts_of s) c → Ready t s → (link : ℕ) (step : LinkStep) (k : ℕ) (o q : Owner) → slice_get s.reactors k ≡ Some o →
      ((x : Table) → ReactorIs t o.reactor o.ends.kept x → ReactorIs t q.reactor q.ends.kept x) → (IsReadyOwner o → IsReadyOwner q) → Goes t served crews shape worker tasker c (record s { reactors = slice_set s.reactors k q })
  given_goes s st ready link step k o q is same able =
      let lt : k < t.reactor_num = subst (λ (n : ℕ). k < n) ready.reactors (get_less s.reactors k o is) in
      let there_k = lt_test k t.reactor_num lt in
      let now : Stands t served crews shape (views worker tasker) (parts_of (record s { reactors = slice_set s.reactors k q })) c = record {
        law = st.law;
        sound = st.sound;
        door = st.door;
        is = st.is;
        shared = st.shared;
        rows = st.rows;
        actors = one_same t crews (views worker tasker) (parts_of s) c.states k o q there_k is same st.actors;
      } in
      record {
        step = script_given t served crews shape (views worker tasker) (parts_of (record s { reactors = slice_set s.reactors k q })) c now link step;
        ready = record {
          slots = ready.slots;
          some = ready.some;
          few = ready.few;
          reactors = length-set s.reactors k q ∙ ready.reactors;
          workers = ready.workers;
          taskers = ready.taskers;
          owners = λ n x e. get_changed IsReadyOwner s.reactors k n q x ready.owners (able (ready.owners k o is)) e;
        };
      }

  -- to no reactor's link: it is given back, and kept
  back_goes : (s n : State H T) → Stands t served crews shape (views worker tasker) (parts_of s) c → Ready t s → (link : ℕ) (step : LinkStep) (left : Option LinkStep) (k : ℕ) (o : Owner) → slice_get s.reactors k ≡ Some o → left ≡ Some step →
      n.reactors ≡ slice_set s.reactors k o → KeepsLeft link left s.front n.front → n ≡ record s { front = n.front; reactors = n.reactors } → Goes t served crews shape worker tasker c n
  back_goes s n st ready link step left k o is back all keeps e =
      let front : n.front ≡ record s.front { links = kept link step s.front.links } = subst (λ (l : Option LinkStep). KeepsLeft link l s.front n.front) back keeps in
      let same : n.reactors ≡ s.reactors = all ∙ set_here s.reactors k o is in
      let done : n ≡ record s { front = record s.front { links = kept link step s.front.links } } =
      e ∙ ap (λ (f : Front). record s { front = f; reactors = n.reactors }) front ∙ ap (λ (r : List Owner). record s { front = record s.front { links = kept link step s.front.links }; reactors = r }) same in
      subst (Goes t served crews shape worker tasker c) (sym done) (kept_goes s st ready link step)

  -- to a reactor's link
  link_goes : (s n : State H T) → Stands t served crews shape (views worker tasker) (parts_of s) c → Ready t s → (link session : ℕ) (step : LinkStep) (left : Option LinkStep) (k : ℕ) (o q : Owner) (l : MemoryLink) → slice_get s.reactors k ≡ Some o → link_of session o.reactor.line.conns ≡ Some l → left ≡ None →
      q ≡ record o { reactor = record o.reactor { line = with_link o.reactor.line session (added step l) } } → n.reactors ≡ slice_set s.reactors k q → KeepsLeft link left s.front n.front → n ≡ record s { front = n.front; reactors = n.reactors } → Goes t served crews shape worker tasker c n
  link_goes s n st ready link session step left k o q l is has none made all keeps e =
      let front : n.front ≡ s.front = subst (λ (x : Option LinkStep). KeepsLeft link x s.front n.front) none keeps in
      let done : n ≡ record s { reactors = slice_set s.reactors k q } =
      e ∙ ap (λ (f : Front). record s { front = f; reactors = n.reactors }) front ∙ ap (λ (r : List Owner). record s { reactors = r }) all in
      let tells : TellsSame l (added step l) = fed_same (step ∷ []) l in
      subst (Goes t served crews shape worker tasker c) (sym done)
      (given_goes s st ready link step k o q is
      (λ x it. subst (λ (y : Owner). ReactorIs t y.reactor y.ends.kept x) (sym made) (script_is t o.reactor o.ends.kept x it session (added step l) (λ y g. subst (λ (z : MemoryLink). TellsSame z (added step l)) (some_same l y (sym has ∙ g)) tells)))
      (λ able. subst IsReadyOwner (sym made) (linked_ready o.reactor session (added step l) able)))

  -- A STEP OF A SCRIPT
  pub script_goes : (s n : State H T) → Stands t served crews shape (views worker tasker) (parts_of s) c → Ready t s → (link : ℕ) (step : LinkStep) → Scripts s link step n → Goes t served crews shape worker tasker c n
  script_goes s n st ready link step h = by (session_in s.front.links link) h
    where
      given : (session : ℕ) (left : Option LinkStep) (k : ℕ) (o q : Owner) (x : Option MemoryLink) → link_of session o.reactor.line.conns ≡ x → slice_get s.reactors k ≡ Some o → AddsTo {F = OutOfMemory} session step x o (Ok left) q →
          n.reactors ≡ slice_set s.reactors k q → KeepsLeft link left s.front n.front → n ≡ record s { front = n.front; reactors = n.reactors } → Goes t served crews shape worker tasker c n
      given session left k o q None has is a all keeps e =
          back_goes s n st ready link step left k o is (let r : left ≡ Some step = cc in r) (all ∙ ap (λ (y : Owner). slice_set s.reactors k y) a.1) keeps e
      given session left k o q (Some l) has is a all keeps e = link_goes s n st ready link session step left k o q l is has a.0 a.1 all keeps e

      by : (x : Option ℕ) → ScriptsBy x s link step n → Goes t served crews shape worker tasker c n
      by None e = subst (Goes t served crews shape worker tasker c) (sym e) (kept_goes s st ready link step)
      by (Some session) (k, (left, ((o, (q, (is, adds, all))), keeps, e))) = given session left k o q (link_of session o.reactor.line.conns) refl is adds all keeps e
