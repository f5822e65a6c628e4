-- The reactors alone, as actors of the world.
use Rattle.std.proofs.Common.{◌≡◌, ℕ, ◌<◌, nat_lt, true, false, List, [], refl, sym, subst, arith, inl}
use Rattle.std.proofs.lemmas.Bool.Decides.{nat_tests}
use Rattle.sw_lists.specs.Lists.{Each}
use Rattle.sw_frame.specs.Cut.{IsFit}
use Rattle.sw_step.specs.declared.actor.ActorId.{ActorId}
use Rattle.sw_step.specs.declared.actor.ActorId.TheVariants.{Door, Reactor, Worker, Tasker}
use Rattle.sw_record.specs.Terms.{Terms}
use Rattle.sw_world_ports.specs.Calls.{Did, MayDo, IsReactor}
use Rattle.sw_world_laws.specs.Turns.{Ask, Got}
use Rattle.sw_world_laws.specs.Actors.{Feed, Actors}
use Rattle.sw_reactor_table.specs.Reactor.{Reactor as Table, settled, kept, started}
use Rattle.sw_world_reactor.specs.Reactors.{table_got, RTurn, is_reactor, told_by, RQuiet, RDone}
use Rattle.sw_world_reactor.proofs.Calls.{turn_may}
use Rattle.sw_world_reactor.proofs.Keeps.{reactor_keeps}
use Rattle.sw_world_reactor.proofs.Shows.{reactor_shows, reactor_shows_after}
use Rattle.sw_world_reactor.proofs.Done.{reactor_is_done}

below : (m n : ℕ) → nat_lt m n ≡ true → m < n
below m n e = grind (arith, nat_tests)

pub reactor_there : (t : Terms) (y : ActorId) → is_reactor t y ≡ true → IsReactor t y
reactor_there t Door e = absurd (cc)
reactor_there t (Reactor n) e = (n, (below n t.reactor_num e, refl))
reactor_there t (Worker n) e = absurd (cc)
reactor_there t (Tasker n) e = absurd (cc)

pub reactor_may : (t : Terms) (y : ActorId) (s : Table) (got : Got) (feed : Feed) (dids : List Did) (u : Table) (ask : Ask) → RTurn t y s got feed dids u ask → Each (MayDo t y) dids
reactor_may t y s got feed dids u ask (i, h) =
    subst (λ (z : ActorId). Each (MayDo t z) dids) (sym i.1.1) (turn_may t h.answers (table_got got) s.last (settled t h.starved (table_got got) s) dids h.calls i.0 i.1.0)

-- what links read is theirs, so that nothing is handed to them
abbrev pub reactors : (t : Terms) → 0 < t.worker_num → IsFit t.framing → t.start_fault ≡ false → Actors t
reactors t some fit calm =
    record {
      mine = is_reactor t;
      State = Table;
      start = λ y. started;
      log = λ s. [];
      kept = kept t;
      told = told_by;
      has = λ s n. false;
      Turn = RTurn t;
      Fails = λ y s got feed dids u. ⊥;
      Quiet = RQuiet t;
      Done = RDone t;
      Lost = λ y s d. ⊥;
      starts = λ y e. (reactor_there t y e, (refl, refl));
      starts_empty = λ y. refl;
      keeps = reactor_keeps t;
      fails = λ y s got feed dids u d turn q. absurd turn;
      may = reactor_may t;
      fails_may = λ y s got feed dids u turn. absurd turn;
      grows = λ y s got feed dids u ask d turn q. inl refl;
      fails_still = λ y s got feed dids u turn. absurd turn;
      shows = reactor_shows t some fit;
      shows_after = reactor_shows_after t some fit;
      done_shows = reactor_is_done t some fit calm;
      lost_shows = λ y s d h. absurd h;
    }
