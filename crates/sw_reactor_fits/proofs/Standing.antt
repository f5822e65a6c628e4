-- What the table's own law gives of its states: the event of a serve is one of the connection that is served.
use Rattle.std.proofs.Common.{◌≡◌, ℕ, ◌<◌, ◌^◌, Bool, List, ◌∷◌, ◌++◌, length, subst}
use Rattle.sw_data.specs.declared.messages.Got.{Got}
use Rattle.sw_frame.specs.Cut.{IsFit}
use Rattle.sw_lists.specs.Lists.{Each}
use Rattle.sw_lists.proofs.Lists.{each_right}
use Rattle.sw_record.specs.Words.{Event}
use Rattle.sw_record.specs.Terms.{Terms}
use Rattle.sw_past.specs.Messages.{Message}
use Rattle.sw_past.specs.Past.{Mail}
use Rattle.sw_past.specs.Routes.{IsFair}
use Rattle.sw_join.specs.Laws.{Aim, Ending}
use Rattle.sw_join.specs.Modes.{AimOf, EndOf}
use Rattle.sw_reactor_table.specs.Conn.{Conn as Row, Answers, Pushes, serve}
use Rattle.sw_reactor_table.specs.Reactor.{Reactor as Table, all, settled}
use Rattle.sw_reactor_table.specs.Quiet.{QuietConn, Quiet, ServedBy, ServedRight, IsOf, IsIdle, Grows}
use Rattle.sw_reactor_table.specs.Runs.{Called, Runs}
use Rattle.sw_reactor_table.proofs.Grows.{fit_grows}
use Rattle.sw_reactor_table.proofs.Final.{mode_laws}
use Rattle.sw_reactor_table.proofs.Law.{runs_quiet, call_quiet, call_fair}
use Rattle.sw_reactor_table.proofs.Serve.{serve_right}
use Rattle.sw_reactor_fits.specs.Fits.{Bounds}

quiet_bounds : (t : Terms) (a : Aim) (w : Ending) → 0 < t.worker_num → Grows t → (n : ℕ) (took pushed : Mail) (s : Table) → Quiet t a w n took pushed s → length (all s) < 2 ^ 64 → Bounds t s
quiet_bounds t a w some grows n took pushed s q few = record { few = few; own = λ ans d es idle e u x f. own ans d es idle e u x f }
  where
    own : (ans : Answers) (d : Row) (es : List Row) → IsIdle t ans → s.next ≡ d ∷ es → (u : ℕ) (x : Event) → (serve t ans s.round d).does ≡ Pushes u x → IsOf (serve t ans s.round d).conn.session x
    own ans d es idle e u x f =
        (let here : Each (QuietConn t n took pushed) (s.done ++ d ∷ es) = subst (λ (zs : List Row). Each (QuietConn t n took pushed) (s.done ++ zs)) e q.conns in
        let right : ServedRight t n took pushed d.session (serve t ans s.round d) = serve_right t n took pushed ans s.round d some idle grows (each_right (QuietConn t n took pushed) s.done (d ∷ es) here).0 in
        (subst (ServedBy t n took pushed (serve t ans s.round d).conn) f right.does).0)

-- behind a pipe call of a run
pub run_bounds : (t : Terms) (word : ℕ → ℕ) → 0 < t.worker_num → IsFit t.framing → (n : ℕ) → n < t.reactor_num → (took pushed : Mail) (s : Table) → Runs t word took pushed s → (later more : Mail) (got : Got Message) → Called s took pushed later more got → IsFair t n later → (starved : Bool) → length (all (settled t starved got s)) < 2 ^ 64 → Bounds t (settled t starved got s)
run_bounds t word some fit n small took pushed s run later more got call fair starved few =
    quiet_bounds t (AimOf t) (EndOf t) some (fit_grows t fit) n later more (settled t starved got s)
    (call_quiet t (AimOf t) (EndOf t) n s took pushed later more got call fair (runs_quiet t (AimOf t) (EndOf t) (mode_laws t) word some (fit_grows t fit) n small took pushed s run (call_fair t n s took pushed later more got call fair)) starved) few
