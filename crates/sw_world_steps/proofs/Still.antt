-- Calls of others than the door leave net and links as they were, and those of reactors the Table too.
use Rattle.std.proofs.Common.{◌≡◌, ℕ, List, [], ◌∷◌, refl, ◌∙◌, sym, subst}
use Rattle.sw_lists.specs.Lists.{Each}
use Rattle.sw_step.specs.declared.actor.ActorId.{ActorId}
use Rattle.sw_step.specs.declared.actor.ActorId.TheVariants.{Door, Reactor}
use Rattle.sw_record.specs.Terms.{Terms}
use Rattle.sw_past.specs.Claims.{Claim}
use Rattle.sw_world_ports.specs.Calls.{Did, Accepts, NoLink, NetOver, Looks, Binds, Frees, Marks, Idles, Stops, SeesStop, Adds, Sums, Tables, TableRefuses, MayDo}
use Rattle.sw_world_ports.specs.Ports.{Ports, ported, all_ported}
use Rattle.sw_world_laws.proofs.Locals.{no_hand_reactor}
use Rattle.sw_world_front.specs.declared.front.Front.{Front}
use Rattle.sw_world_stands.specs.Links.{LinksStand}
use Rattle.sw_world_door.specs.Doors.{DoorState}
use Rattle.sw_world_front_fits.specs.Front.{FrontStands}

-- the same net and links
pub record NetSame (p q : Ports) : Type 0 where
  pub given : q.given ≡ p.given
  pub waiting : q.waiting ≡ p.waiting
  pub ended : q.ended ≡ p.ended

same : (p : Ports) → NetSame p p
same p = record { given = refl; waiting = refl; ended = refl }

still_one : (t : Terms) (p : Ports) (y : ActorId) → ¬ (y ≡ Door) → (d : Did) → MayDo t y d → NetSame p (ported t p y d)
still_one t p y ne (Accepts ip c) may = absurd (ne may)
still_one t p y ne NoLink may = same p
still_one t p y ne NetOver may = same p
still_one t p y ne (Looks s x) may = same p
still_one t p y ne (Binds s u x) may = record { given = refl; waiting = refl; ended = refl }
still_one t p y ne (Frees s u) may = record { given = refl; waiting = refl; ended = refl }
still_one t p y ne (Marks b) may = record { given = refl; waiting = refl; ended = refl }
still_one t p y ne (Idles b k x) may = same p
still_one t p y ne Stops may = record { given = refl; waiting = refl; ended = refl }
still_one t p y ne (SeesStop b) may = same p
still_one t p y ne (Adds c) may = record { given = refl; waiting = refl; ended = refl }
still_one t p y ne (Sums c n) may = same p
still_one t p y ne (Tables at x) may = record { given = refl; waiting = refl; ended = refl }
still_one t p y ne (TableRefuses c fault) may = same p

pub still : (t : Terms) (y : ActorId) → ¬ (y ≡ Door) → (ds : List Did) (p : Ports) → Each (MayDo t y) ds → NetSame p (all_ported t p y ds)
still t y ne [] p may = same p
still t y ne (d ∷ ds) p may =
    let a = still_one t p y ne d may.0 in
    let b = still t y ne ds (ported t p y d) may.1 in
    record { given = b.given ∙ a.given; waiting = b.waiting ∙ a.waiting; ended = b.ended ∙ a.ended }

-- the Table
table_one : (t : Terms) (p : Ports) (n : ℕ) (d : Did) → MayDo t (Reactor n) d → (ported t p (Reactor n) d).table ≡ p.table
table_one t p n (Accepts ip c) may = refl
table_one t p n NoLink may = refl
table_one t p n NetOver may = refl
table_one t p n (Looks s x) may = refl
table_one t p n (Binds s u x) may = refl
table_one t p n (Frees s u) may = refl
table_one t p n (Marks b) may = refl
table_one t p n (Idles b k x) may = refl
table_one t p n Stops may = refl
table_one t p n (SeesStop b) may = refl
table_one t p n (Adds c) may = refl
table_one t p n (Sums c m) may = refl
table_one t p n (Tables at x) may = absurd (no_hand_reactor t n may)
table_one t p n (TableRefuses c fault) may = refl

pub table_still : (t : Terms) (n : ℕ) (ds : List Did) (p : Ports) → Each (MayDo t (Reactor n)) ds → (all_ported t p (Reactor n) ds).table ≡ p.table
table_still t n [] p may = refl
table_still t n (d ∷ ds) p may = table_still t n ds (ported t p (Reactor n) d) may.1 ∙ table_one t p n d may.0

-- the front stands as it stood
pub front_still : (t : Terms) (f : Front) (s : DoorState) (p q : Ports) → FrontStands t f s p → NetSame p q → FrontStands t f s q
front_still t f s p q st k =
    record {
      door = st.door;
      net = record { links = st.net.links ∙ sym k.waiting; ends = st.net.ends ∙ sym k.ended; whole = st.net.whole };
      coming = st.coming;
      links = subst (λ (g : List (ℕ × Claim)). LinksStand t f.links g q.waiting) (sym k.given) (subst (LinksStand t f.links p.given) (sym k.waiting) st.links);
      none = st.none;
    }
