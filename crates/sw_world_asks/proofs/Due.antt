-- The next of an actor, by the places and by the world.
use Rattle.std.proofs.Common.{◌≡◌, Bool, true, false, if◌then◌else◌, List, [], refl, ap, ◌∙◌, sym, subst, Some, None}
use Rattle.sw_step.specs.declared.actor.ActorId.{ActorId}
use Rattle.sw_record.specs.Terms.{Terms}
use Rattle.sw_record.specs.Places.{Ran}
use Rattle.sw_world_ports.specs.Ports.{set_at}
use Rattle.sw_world_laws.specs.Turns.{Ask, AskTake, AskPush, AskNothing, AskRest, AskFinished, Got, Diary}
use Rattle.sw_world_laws.specs.Actors.{Actors}
use Rattle.sw_world_laws.specs.World.{Pending, Waits, Gave, Lost, Core, Outcome, Goes as GoesStep, there, then_next, goes, goes_if, next, MayStep, IsTurn}
use Rattle.sw_world_laws.specs.History.{diary_of, LocalBy}
use Rattle.sw_world_laws.specs.Law.{Law}
use Rattle.sw_world_fits.specs.Board.{number_of}
use Rattle.sw_world_places.specs.Pipes.{Asking, Getting}
use Rattle.sw_world_places.specs.Places.{Rows, AtRow, Goes}
use Rattle.sw_world_places.specs.declared.place.Next.TheVariants.{Asked}
use Rattle.sw_world_stands.specs.Asked.{ask_of, got_of}
use Rattle.sw_world_stands.specs.New.{AskNew}
use Rattle.sw_world_stands.specs.Rows.{RowsStand, IsDue, OnlyPipes, Went}
use Rattle.sw_world_stands.proofs.Goes.{goes_stand}
use Rattle.sw_world_stands.proofs.Starts.{asked_stand, due_steps}
use Rattle.sw_world_stands.proofs.Pushing.{links_by_door}
use Rattle.sw_world_asks.specs.Due.{TurnIsDue, CallIsStep, TurnIsStep}

-- the step of an actor that is there, while memory was found
pub next_is : (t : Terms) (p : Actors t) (c : Core p.State) (y : ActorId) (o : Outcome p.State) → c.lost ≡ false → there t y ≡ true → next t p c (GoesStep y o) ≡ goes t p c y o (c.nexts y)
next_is t p c y o ok here = ap (λ (b : Bool). if b then c else goes_if t p c y o (there t y)) ok ∙ ap (goes_if t p c y o) here

-- a call
pub call_steps : (t : Terms) (legal : List Ran → Type 0) (p : Actors t) (c : Core p.State) (y : ActorId) (r s : Rows) → Law t legal p c → c.lost ≡ false → there t y ≡ true → RowsStand t r c.nexts c.pipes → Goes r (number_of t y) None s → CallIsStep t legal p c y s
call_steps t legal p c y r s law ok here rows g =
    let o : Outcome p.State = record { dids = []; state = c.states y; ask = AskNothing; fails = false } in
    let w : Went t legal p c y None s = goes_stand t legal p c y r s None here (links_by_door t legal p c law y here) rows g in
    let k = w o in
    let same = next_is t p c y o ok here in
    record {
      outcome = o;
      may = λ e f. k.0;
      rows = subst (λ (d : Core p.State). RowsStand t s d.nexts d.pipes) (sym same) k.1.0;
      only = subst (λ (d : Core p.State). OnlyPipes c d) (sym same) k.1.1;
    }

-- an actor's law where a turn of it is due
quiet_by : (t : Terms) (p : Actors t) (y : ActorId) (s : p.State) (d : Diary) (w : Pending) (got : Got) → IsDue w got → LocalBy t p y s w d → p.Quiet y s got d
quiet_by t p y s d (Gave g) got e q = subst (λ (x : Got). p.Quiet y s x d) e q
quiet_by t p y s d (Waits AskTake) got e q = absurd e
quiet_by t p y s d (Waits (AskPush x m)) got e q = absurd e
quiet_by t p y s d (Waits AskNothing) got e q = subst (λ (x : Got). p.Quiet y s x d) (sym e) q
quiet_by t p y s d (Waits AskRest) got e q = subst (λ (x : Got). p.Quiet y s x d) (sym e) q
quiet_by t p y s d (Waits AskFinished) got e q = absurd e
quiet_by t p y s d Lost got e q = absurd e

-- a turn
pub turn_due : (t : Terms) (legal : List Ran → Type 0) (p : Actors t) (c : Core p.State) (y : ActorId) (r s : Rows) (got : Getting) → Law t legal p c → c.lost ≡ false → there t y ≡ true → RowsStand t r c.nexts c.pipes → Goes r (number_of t y) (Some got) s → TurnIsDue t legal p c y got s
turn_due t legal p c y r s got law ok here rows g =
    let w : Went t legal p c y (Some got) s = goes_stand t legal p c y r s (Some got) here (links_by_door t legal p c law y here) rows g in
    record {
      due = w.0;
      quiet = λ h l. quiet_by t p y (c.states y) (diary_of h y) (c.nexts y) (got_of got) w.0 (l.local y here);
      new = w.1;
      left = w.2.0;
      rows = w.2.1;
    }

pub turn_steps : (t : Terms) (legal : List Ran → Type 0) (p : Actors t) (c : Core p.State) (y : ActorId) (s : Rows) (got : Getting) (o : Outcome p.State) → c.lost ≡ false → there t y ≡ true → TurnIsDue t legal p c y got s → IsTurn t legal p c y o (got_of got) → TurnIsStep t legal p c y o
turn_steps t legal p c y s got o ok here due turn =
    let k = due_steps t legal p c y o (got_of got) here ok due.due turn in
    record { may = k.0; is = k.1 }

-- what it asks
pub turn_leaves : (t : Terms) (legal : List Ran → Type 0) (p : Actors t) (c : Core p.State) (y : ActorId) (s u : Rows) (got : Getting) (ask : Asking) (o : Outcome p.State) → there t y ≡ true → TurnIsDue t legal p c y got s → o.fails ≡ false → o.ask ≡ ask_of ask → AskNew y ask → AtRow s (number_of t y) (λ a b. b ≡ record a { next = Asked ask }) u → RowsStand t u (set_at c.nexts y (then_next o.fails o.ask)) c.pipes
turn_leaves t legal p c y s u got ask o here due found asks new at =
    let same : then_next o.fails o.ask ≡ Waits (ask_of ask) = ap (λ (b : Bool). then_next b o.ask) found ∙ ap (λ (a : Ask). Waits a) asks in
    subst (λ (n : Pending). RowsStand t u (set_at c.nexts y n) c.pipes) (sym same)
    (asked_stand t s u c.nexts c.pipes y due.left ask here new due.rows at)

-- an actor that isn't there
pub other_steps : (t : Terms) (legal : List Ran → Type 0) (p : Actors t) (c : Core p.State) (y : ActorId) (o : Outcome p.State) → there t y ≡ false → MayStep t legal p c (GoesStep y o) × (next t p c (GoesStep y o) ≡ c)
other_steps t legal p c y o away =
    (λ e f. absurd (let q : true ≡ false = sym f ∙ away in cc), ap (λ (v : Bool). if c.lost then c else goes_if t p c y o v) away ∙ pick c.lost)
  where
    pick : (b : Bool) → (if b then c else c) ≡ c
    pick true = refl
    pick false = refl
