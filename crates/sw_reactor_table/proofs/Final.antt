-- The reactor's law in each mode, at every moment of every run.
use Rattle.std.proofs.Common.{◌≡◌, ℕ, ◌<◌, ◌==◌, Bool, true, false, if◌then◌else◌, List, refl}
use Rattle.sw_lists.proofs.Lists.{eq_is}
use Rattle.sw_record.specs.Terms.{Terms, keeps}
use Rattle.sw_past.specs.Past.{Mail}
use Rattle.sw_reactor_table.specs.Reactor.{Reactor}
use Rattle.sw_reactor_table.specs.Modes.{ModeLaws}
use Rattle.sw_reactor_table.specs.Runs.{Runs}
use Rattle.sw_reactor_table.proofs.Law.{reactor_law, called_law, settled_law}
use Rattle.sw_reactor_table.proofs.Aimed.{kept_laws}
use Rattle.sw_reactor_table.proofs.Uids.{uid_laws}
use Rattle.sw_reactor_table.proofs.Scattered.{scatter_laws}
use Rattle.sw_frame.specs.Cut.{IsFit}
use Rattle.sw_join.specs.Modes.{aim_by, end_by, AimOf, EndOf}
use Rattle.sw_reactor_table.specs.Always.{Always}
use Rattle.sw_reactor_table.proofs.Grows.{fit_grows}

-- what the mode says of what is pushed, at every moment and at an end
pub mode_laws : (t : Terms) → ModeLaws t (AimOf t) (EndOf t)
mode_laws t = pick (keeps t.mode) (t.mode == 5) refl refl
  where
    pick : (k u : Bool) → keeps t.mode ≡ k → (t.mode == 5) ≡ u → ModeLaws t (aim_by k u t) (end_by k u t)
    pick true u p q = kept_laws t p
    pick false true p q = uid_laws t (eq_is t.mode 5 q)
    pick false false p q = scatter_laws t (rw (p, q) refl)

pub always : (t : Terms) (word : ℕ → ℕ) → 0 < t.worker_num → IsFit t.framing → (n : ℕ) → n < t.reactor_num → (took pushed : Mail) (r : Reactor) → Runs t word took pushed r → Always t (AimOf t) (EndOf t) n took pushed r
always t word some fit n small took pushed r runs =
    record {
      before = reactor_law t (AimOf t) (EndOf t) (mode_laws t) word some (fit_grows t fit) n small took pushed r runs;
      behind = called_law t (AimOf t) (EndOf t) (mode_laws t) word some (fit_grows t fit) n small took pushed r runs;
      settled_too = settled_law t (AimOf t) (EndOf t) (mode_laws t) word some (fit_grows t fit) n small took pushed r runs;
    }
