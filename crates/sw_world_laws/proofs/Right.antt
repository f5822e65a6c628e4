-- THE WORLD: the record of each run is right, in order even where memory was wanted, and drained once all actors are finished.
use Rattle.std.proofs.Common.{◌≡◌, ◌≤◌, false, List, sym, subst}
use Rattle.sw_record.specs.declared.record.Record.{Record}
use Rattle.sw_record.specs.Terms.{Terms}
use Rattle.sw_record.specs.Places.{Ran}
use Rattle.sw_record.specs.Right.{Right}
use Rattle.sw_record.specs.Sessions.{accepted, SessionsRise}
use Rattle.sw_record.specs.Drained.{Drained}
use Rattle.sw_record.specs.Orderly.{Orderly}
use Rattle.sw_join.specs.Modes.{AimOf, EndOf}
use Rattle.sw_join.specs.All.{AllLaws, EndLaws}
use Rattle.sw_join.proofs.Drained.{drained}
use Rattle.sw_join.proofs.Right.{right, orderly_right}
use Rattle.sw_join.proofs.Finished.{drained_right}
use Rattle.sw_join.proofs.Sessions.{sessions_rise}
use Rattle.sw_record.specs.AfterSeen.{AfterSeen}
use Rattle.sw_join.proofs.Seen.{after_seen}
use Rattle.sw_world_ports.specs.Law.{all_in}
use Rattle.sw_world_ports.specs.Made.{seat_in}
use Rattle.sw_world_laws.specs.Law.{Holds, Law}
use Rattle.sw_world_laws.specs.Actors.{Actors}
use Rattle.sw_world_laws.specs.World.{Core, Step}
use Rattle.sw_world_laws.specs.History.{History, past_of}
use Rattle.sw_world_laws.specs.Account.{outside, account}
use Rattle.sw_world_laws.specs.Runs.{AllDone, IsServer, IsRun, ran}
use Rattle.sw_world_laws.proofs.Locals.{locals, joint, task_locals}
use Rattle.sw_world_laws.proofs.Account.{is_shown, account_by, account_is, net_is}
use Rattle.sw_world_laws.proofs.Outside.{links_show}
use Rattle.sw_world_laws.proofs.Joined.{released_in, word_laws, looks_of, cause_laws, uid_laws, table_laws, finished_laws}
use Rattle.sw_world_laws.proofs.Counts.{count_laws}
use Rattle.sw_world_laws.proofs.Rounds.{round_laws}
use Rattle.sw_world_laws.proofs.Reached.{reached}
use Rattle.sw_world_laws.proofs.Seen.{seen_laws}

-- the laws of the join, of a world in which no step wanted memory
abbrev pub all_laws : (t : Terms) (legal : List Ran → Type 0) (p : Actors t) (c : Core p.State) (h : History) → 1 ≤ t.reactor_num → Holds t legal p c h → c.lost ≡ false → AllLaws t legal (AimOf t) (EndOf t) (past_of t p c h) (account_by t p c h) (outside t p c)
all_laws t legal p c h some l ok =
    record {
      locals = locals t legal p c h l;
      joint = joint t legal p c h l;
      shown = is_shown t legal p c h some l;
      shows = links_show t legal p c h some l;
      tasks = task_locals t legal p c h l ok;
      released = released_in h;
      words = word_laws t legal p c h l;
      looks = looks_of t h;
      causes = cause_laws t legal p c h l ok;
      counts = count_laws t legal p c h some l ok;
      uids = uid_laws t legal p c h l ok;
      seat = all_in seat_in h.dids;
      table = table_laws t legal p c h l ok;
    }

-- and once all actors are finished
end_laws : (t : Terms) (legal : List Ran → Type 0) (p : Actors t) (c : Core p.State) (h : History) → 1 ≤ t.reactor_num → 1 ≤ t.worker_num → Holds t legal p c h → c.lost ≡ false → AllDone t p c → EndLaws t (past_of t p c h) (account_by t p c h)
end_laws t legal p c h some worker l ok d =
    let finished = finished_laws t legal p c h l d in
    record {
      some_reactor = some;
      some_worker = worker;
      finished = finished;
      rounds = round_laws t legal p c h some worker l (drained t (AimOf t) (EndOf t) (past_of t p c h) (account_by t p c h) some (locals t legal p c h l) (joint t legal p c h l) (is_shown t legal p c h some l) (task_locals t legal p c h l ok) finished) d;
    }

-- the settings of a world: a mode there is, and a reactor and a worker at least
pub right_world : (t : Terms) (legal : List Ran → Type 0) (p : Actors t) (c : Core p.State) → IsServer t → Law t legal p c → c.lost ≡ false → Right t legal (account t p c) (outside t p c) (accepted (account t p c))
right_world t legal p c s (h, l) ok =
    subst (λ (r : Record). Right t legal r (outside t p c) (accepted r)) (account_is t legal p c h l)
    (subst (Right t legal (account_by t p c h) (outside t p c)) (net_is t legal p c h s.reactors l)
    (right t legal (past_of t p c h) (account_by t p c h) (outside t p c) s.low s.high (all_laws t legal p c h s.reactors l ok)))

pub drained_world : (t : Terms) (legal : List Ran → Type 0) (p : Actors t) (c : Core p.State) → IsServer t → Law t legal p c → c.lost ≡ false → AllDone t p c → Drained t (account t p c)
drained_world t legal p c s (h, l) ok d =
    subst (λ (r : Record). Drained t r) (account_is t legal p c h l)
    (drained_right t legal (past_of t p c h) (account_by t p c h) (outside t p c) s.low s.high (all_laws t legal p c h s.reactors l ok) (end_laws t legal p c h s.reactors s.workers l ok d))

-- what tasks connect comes in its order among the calls of the Table
pub seen_world : (t : Terms) (legal : List Ran → Type 0) (p : Actors t) (c : Core p.State) → IsServer t → Law t legal p c → c.lost ≡ false → AfterSeen (account t p c)
seen_world t legal p c s (h, l) ok = subst (λ (r : Record). AfterSeen r) (account_is t legal p c h l) (after_seen t (past_of t p c h) (account_by t p c h) (is_shown t legal p c h s.reactors l) (seen_laws t legal p c h l ok))

-- even where a step wanted memory
pub orderly_world : (t : Terms) (legal : List Ran → Type 0) (p : Actors t) (c : Core p.State) → IsServer t → Law t legal p c → Orderly t (account t p c) (accepted (account t p c))
orderly_world t legal p c s (h, l) =
    subst (λ (r : Record). Orderly t r (accepted r)) (account_is t legal p c h l)
    (subst (Orderly t (account_by t p c h)) (net_is t legal p c h s.reactors l)
    (orderly_right t (past_of t p c h) (account_by t p c h) s.low s.high (locals t legal p c h l) (joint t legal p c h l) (is_shown t legal p c h s.reactors l) (released_in h) (word_laws t legal p c h l)))

pub rise_world : (t : Terms) (legal : List Ran → Type 0) (p : Actors t) (c : Core p.State) → IsServer t → Law t legal p c → SessionsRise (account t p c)
rise_world t legal p c s (h, l) = subst (λ (r : Record). SessionsRise r) (account_is t legal p c h l) (sessions_rise t (AimOf t) (EndOf t) (past_of t p c h) (account_by t p c h) (locals t legal p c h l) (is_shown t legal p c h s.reactors l) (sym (net_is t legal p c h s.reactors l)))

-- of any run
law_of : (t : Terms) (legal : List Ran → Type 0) (p : Actors t) (steps : List (Step p.State)) → IsRun t legal p steps → Law t legal p (ran t p steps)
law_of t legal p steps r = reached t legal p r.all r.last r.empty steps r.may

pub run_right : (t : Terms) (legal : List Ran → Type 0) (p : Actors t) (steps : List (Step p.State)) → IsRun t legal p steps → (ran t p steps).lost ≡ false → Right t legal (account t p (ran t p steps)) (outside t p (ran t p steps)) (accepted (account t p (ran t p steps)))
run_right t legal p steps r ok = right_world t legal p (ran t p steps) r.server (law_of t legal p steps r) ok

pub run_drained : (t : Terms) (legal : List Ran → Type 0) (p : Actors t) (steps : List (Step p.State)) → IsRun t legal p steps → (ran t p steps).lost ≡ false → AllDone t p (ran t p steps) → Drained t (account t p (ran t p steps))
run_drained t legal p steps r ok d = drained_world t legal p (ran t p steps) r.server (law_of t legal p steps r) ok d

pub run_orderly : (t : Terms) (legal : List Ran → Type 0) (p : Actors t) (steps : List (Step p.State)) → IsRun t legal p steps → Orderly t (account t p (ran t p steps)) (accepted (account t p (ran t p steps)))
run_orderly t legal p steps r = orderly_world t legal p (ran t p steps) r.server (law_of t legal p steps r)

pub run_rise : (t : Terms) (legal : List Ran → Type 0) (p : Actors t) (steps : List (Step p.State)) → IsRun t legal p steps → SessionsRise (account t p (ran t p steps))
run_rise t legal p steps r = rise_world t legal p (ran t p steps) r.server (law_of t legal p steps r)

pub run_seen : (t : Terms) (legal : List Ran → Type 0) (p : Actors t) (steps : List (Step p.State)) → IsRun t legal p steps → (ran t p steps).lost ≡ false → AfterSeen (account t p (ran t p steps))
run_seen t legal p steps r ok = seen_world t legal p (ran t p steps) r.server (law_of t legal p steps r) ok
