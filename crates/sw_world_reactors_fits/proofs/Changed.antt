-- Where one reactor is changed, all others are as they were.
use Rattle.std.proofs.Common.{◌≡◌, ◌⊎◌, ℕ, ◌+◌, ◌<◌, ◌≤◌, ◌==◌, Bool, true, false, if◌then◌else◌, List, [], ◌∷◌, ◌++◌, length, slice_get, slice_set, get_or, All, map, Option, Some, None, Result, Ok, Err, refl, ap, ◌∙◌, sym, subst, arith, inl, inr, zero, suc}
use Rattle.std.proofs.lemmas.List.Elements.{All-get_or}
use Rattle.std.proofs.lemmas.Option.{slice_get-get_or, slice_get_within}
use Rattle.sw_lists.proofs.Lists.{equal_or_not}
use Rattle.sw_data.specs.declared.ended.Ended.{Ended}
use Rattle.sw_link.specs.declared.memory_link.LinkStep.{LinkStep}
use Rattle.sw_link.specs.declared.memory_link.LinkStep.TheVariants as steps
use Rattle.sw_link.specs.declared.memory_link.MemoryLink.{MemoryLink}
use Rattle.sw_link.specs.Memory.{added, with_bytes_by}
use Rattle.sw_conn.specs.declared.conn.Conn.{Conn}
use Rattle.sw_conn_fits.specs.Shown.{settings}
use Rattle.sw_record.specs.Terms.{Terms}
use Rattle.sw_reactor_table.specs.Reactor.{Reactor as Table, started}
use Rattle.sw_reactor.proofs.Slots.{get_set_same, get_set_other}
use Rattle.sw_reactor.specs.declared.reactor.Reactor.{Reactor}
use Rattle.sw_reactor.specs.Line.{link_of, linked, with_link}
use Rattle.sw_reactor.specs.Ready.{IsReady}
use Rattle.sw_world_reactor_fits.specs.Plain.{ReactorIs, TellsSame}
use Rattle.sw_world_reactor_fits.proofs.Others.{start_is, script_is}
use Rattle.sw_world_places.specs.Ends.{Keeping, HasRoom, Puts}
use Rattle.sw_world_reactors.specs.declared.owner.Owner.{Owner}
use Rattle.sw_world_reactors.specs.Owners.{number, IsNew, AreNew, AtOwner, AddsTo, Adds}
use Rattle.sw_world_reactors_fits.specs.Stand.{kept_of, OwnerStands, StandsAs, ReactorsStand}

-- before their first turns
new_stands : (t : Terms) (read_size : ℕ) (o : Owner) → 0 < t.worker_num → IsNew (settings t) t.framing read_size o → OwnerStands t o started
new_stands t read_size o some h = record { ready = h.1; is = subst (λ (xs : List (MemoryLink × Ended)). ReactorIs t o.reactor xs started) (sym h.2) (start_is t read_size o.reactor some h.0) }

-- the item there
one_at : (xs : List Owner) (n : ℕ) → n < length xs → (o : Owner) × (slice_get xs n ≡ Some o)
one_at [] n lt = absurd (omega (arith, lt))
one_at (x ∷ xs) n lt = (get_or (x ∷ xs) n x, slice_get-get_or (x ∷ xs) n x lt)

new_at : (t : Terms) (read_size : ℕ) (all : List Owner) (n : ℕ) → 0 < t.worker_num → All (IsNew (settings t) t.framing read_size) all → n < length all → StandsAs t all n started
new_at t read_size [] n some h lt = absurd (omega (arith, lt))
new_at t read_size (x ∷ xs) n some h lt = (
  get_or (x ∷ xs) n x,
  (slice_get-get_or (x ∷ xs) n x lt, new_stands t read_size (get_or (x ∷ xs) n x) some (All-get_or (IsNew (settings t) t.framing read_size) (x ∷ xs) n x lt h)),
)

pub new_all : (t : Terms) (read_size : ℕ) (all : List Owner) → 0 < t.worker_num → AreNew (settings t) t.framing read_size t.reactor_num all → ReactorsStand t all (λ n. started)
new_all t read_size all some h = record { count = h.0; each = λ n lt. new_at t read_size all n some h.1 (let e : length all ≡ t.reactor_num = h.0 in omega (arith, e, lt)) }

-- ends with room
pub room_keeps : (e : Keeping) → HasRoom e → (l : MemoryLink) (ended : Ended) (kept : Bool) (g : Keeping) → Puts e l ended kept g → (kept ≡ true) × (kept_of g ≡ kept_of e ++ (l, ended) ∷ [])
room_keeps e room l ended true g h = (refl, h)
room_keeps e room l ended false g h = absurd (let le : e.room ≤ length e.kept = h.1 in omega (arith, room, le))

-- one is changed
set_length : (xs : List Owner) (n : ℕ) (x : Owner) → length (slice_set xs n x) ≡ length xs
set_length [] n x = refl
set_length (y ∷ xs) zero x = refl
set_length (y ∷ xs) (suc n) x = ap (λ (k : ℕ). suc k) (set_length xs n x)

pub changed : (t : Terms) (all more : List Owner) (tables after : ℕ → Table) (n : ℕ) (q : Owner) → ReactorsStand t all tables → more ≡ slice_set all n q → ((m : ℕ) → ¬ (m ≡ n) → after m ≡ tables m) → OwnerStands t q (after n) → ReactorsStand t more after
changed t all more tables after n q h e same here = subst (λ (xs : List Owner). ReactorsStand t xs after) (sym e) (record {
  count = set_length all n q ∙ h.count;
  each = each;
})
  where
    each : (m : ℕ) → m < t.reactor_num → StandsAs t (slice_set all n q) m (after m)
    each m lt = elim (equal_or_not m n) [
      | inl i ↦ subst (λ (k : ℕ). StandsAs t (slice_set all n q) k (after k)) (sym i) (q, (get_set_same all n q (let c : length all ≡ t.reactor_num = h.count in omega (arith, c, lt, i)), here))
      | inr ne ↦ (let o = h.each m lt in (o.0, (get_set_other all m n q ne ∙ o.1.0, subst (OwnerStands t o.0) (sym (same m ne)) o.1.1)))
    ]

-- the one of a number
stands_of : (t : Terms) (all : List Owner) (tables : ℕ → Table) → ReactorsStand t all tables → (n : ℕ) → n < t.reactor_num → (o : Owner) → slice_get all n ≡ Some o → OwnerStands t o (tables n)
stands_of t all tables h n lt o e = (let k = h.each n lt in subst (λ (x : Owner). OwnerStands t x (tables n)) (same k.0 o (sym k.1.0 ∙ e)) k.1.1)
  where
    same : (x y : Owner) → Some x ≡ Some y → x ≡ y
    same x y q = cc

pub room_made : (t : Terms) (all more : List Owner) (tables : ℕ → Table) (n : ℕ) (P : Owner → Type 0) → n < t.reactor_num → ReactorsStand t all tables → AtOwner all n (λ o q. (q.reactor ≡ o.reactor) × (q.ends.kept ≡ o.ends.kept) × P q) more → ReactorsStand t more tables
room_made t all more tables n P lt h (o, (q, (there, (reactor, kept, p), e))) =
    (let k : OwnerStands t o (tables n) = stands_of t all tables h n lt o there in
    changed t all more tables tables n q h e (λ m ne. refl) (record {
      ready = subst (λ (r : Reactor MemoryLink ℕ). IsReady number r) (sym reactor) k.ready;
      is = subst (λ (r : Reactor MemoryLink ℕ). ReactorIs t r (kept_of q.ends) (tables n)) (sym reactor) (subst (λ (xs : List (MemoryLink × Ended)). ReactorIs t o.reactor xs (tables n)) (sym kept) k.is);
    }))

-- a step more of a script tells the same
bytes_same : (bytes : List ℕ) (l : MemoryLink) (o : Option ℕ) → TellsSame l (with_bytes_by bytes l o)
bytes_same bytes l None = record { pieces = refl; written = refl; at_end = refl; faults = refl }
bytes_same bytes l (Some n) = record { pieces = refl; written = refl; at_end = refl; faults = refl }

piece_same : (bytes : List ℕ) (l : MemoryLink) → TellsSame l (added (steps.Piece bytes) l)
piece_same [] l = record { pieces = refl; written = refl; at_end = refl; faults = refl }
piece_same (b ∷ bs) l = bytes_same (b ∷ bs) l l.end_at

step_same : (step : LinkStep) (l : MemoryLink) → TellsSame l (added step l)
step_same (steps.Piece bytes) l = piece_same bytes l
step_same (steps.Wait n) l = record { pieces = refl; written = refl; at_end = refl; faults = refl }
step_same steps.End l = record { pieces = refl; written = refl; at_end = refl; faults = refl }
step_same (steps.Room n) l = record { pieces = refl; written = refl; at_end = refl; faults = refl }
step_same (steps.FailRead n) l = record { pieces = refl; written = refl; at_end = refl; faults = refl }
step_same (steps.FailWrite n) l = record { pieces = refl; written = refl; at_end = refl; faults = refl }

-- and leaves the reactor ready
linked_keeps : {B : Type 0} (f : Conn MemoryLink ℕ → B) → ((c : Conn MemoryLink ℕ) (m : MemoryLink) → f (record c { link = m }) ≡ f c) → (s : ℕ) (m : MemoryLink) (cs : List (Conn MemoryLink ℕ)) → map f (linked s m cs) ≡ map f cs
linked_keeps f h s m [] = refl
linked_keeps {B} f h s m (c ∷ cs) = pick (c.session == s) (linked_keeps f h s m cs)
  where
    pick : (b : Bool) → map f (linked s m cs) ≡ map f cs → map f (if b then record c { link = m } ∷ cs else c ∷ linked s m cs) ≡ map f (c ∷ cs)
    pick true rest = ap (λ (x : B). x ∷ map f cs) (h c m)
    pick false rest = ap (λ (xs : List B). f c ∷ xs) rest

linked_length : (s : ℕ) (m : MemoryLink) (cs : List (Conn MemoryLink ℕ)) → length (linked s m cs) ≡ length cs
linked_length s m [] = refl
linked_length s m (c ∷ cs) = pick (c.session == s) (linked_length s m cs)
  where
    pick : (b : Bool) → length (linked s m cs) ≡ length cs → length (if b then record c { link = m } ∷ cs else c ∷ linked s m cs) ≡ length (c ∷ cs)
    pick true rest = refl
    pick false rest = ap (λ (n : ℕ). suc n) rest

pub linked_ready : (r : Reactor MemoryLink ℕ) (s : ℕ) (m : MemoryLink) → IsReady number r → IsReady number (record r { line = with_link r.line s m })
linked_ready r s m h = record {
  workers = h.workers;
  slots = h.slots;
  room = h.room;
  buffer = h.buffer;
  next = λ some. (let lt : r.at < length r.line.conns = h.next some in let e : length (linked s m r.line.conns) ≡ length r.line.conns = linked_length s m r.line.conns in omega (arith, lt, e));
  own = linked_keeps (λ (c : Conn MemoryLink ℕ). c.session) (λ c m. refl) s m r.line.conns ∙ h.own ∙ ap (map number) (sym (linked_keeps (λ (c : Conn MemoryLink ℕ). c.ticket) (λ c m. refl) s m r.line.conns));
}

linked_owner : (t : Terms) (s : ℕ) (l m : MemoryLink) (o : Owner) (x : Table) → OwnerStands t o x → link_of s o.reactor.line.conns ≡ Some l → TellsSame l m → OwnerStands t (record o { reactor = record o.reactor { line = with_link o.reactor.line s m } }) x
linked_owner t s l m o x h e tells = record {
  ready = linked_ready o.reactor s m h.ready;
  is = script_is t o.reactor (kept_of o.ends) x h.is s m (λ k g. subst (λ (y : MemoryLink). TellsSame y m) (same l k (sym e ∙ g)) tells);
}
  where
    same : (y z : MemoryLink) → Some y ≡ Some z → y ≡ z
    same y z g = cc

added_owner : {F : Type 0} (t : Terms) (s : ℕ) (step : LinkStep) (o q : Owner) (result : Result (Option LinkStep) F) (x : Table) → OwnerStands t o x → Adds s step o result q → OwnerStands t q x
added_owner {F} t s step o q result x h adds = by (link_of s o.reactor.line.conns) refl result adds
  where
    by : (l : Option MemoryLink) → link_of s o.reactor.line.conns ≡ l → (r : Result (Option LinkStep) F) → AddsTo s step l o r q → OwnerStands t q x
    by None e r a = subst (λ (y : Owner). OwnerStands t y x) (sym a.1) h
    by (Some l) e (Ok left) a = subst (λ (y : Owner). OwnerStands t y x) (sym a.1) (linked_owner t s l (added step l) o x h e (step_same step l))
    by (Some l) e (Err fault) a = subst (λ (y : Owner). OwnerStands t y x) (sym a) (linked_owner t s l l o x h e (record { pieces = refl; written = refl; at_end = refl; faults = refl }))

pub step_added : {F : Type 0} (t : Terms) (all more : List Owner) (tables : ℕ → Table) (n session : ℕ) (step : LinkStep) (result : Result (Option LinkStep) F) → n < t.reactor_num → ReactorsStand t all tables → AtOwner all n (λ o q. Adds session step o result q) more → ReactorsStand t more tables
step_added t all more tables n session step result lt h (o, (q, (there, adds, e))) =
    changed t all more tables tables n q h e (λ m ne. refl) (added_owner t session step o q result (tables n) (stands_of t all tables h n lt o there) adds)
