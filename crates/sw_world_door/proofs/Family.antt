-- The door as the only actor of a family.
use Rattle.std.proofs.Common.{◌≡◌, true, false, List, [], ◌∷◌, refl, sym, ◌∙◌, subst, arith, inl}
use Rattle.sw_lists.specs.Lists.{Each}
use Rattle.sw_step.specs.declared.actor.ActorId.{ActorId}
use Rattle.sw_step.specs.declared.actor.ActorId.TheVariants.{Door, Reactor, Worker, Tasker}
use Rattle.sw_step.specs.Actors.{is}
use Rattle.sw_record.specs.Terms.{Terms}
use Rattle.sw_past.specs.Past.{Mail}
use Rattle.sw_past.specs.Routes.{IsHand}
use Rattle.sw_join.proofs.Routes.{is_same}
use Rattle.sw_world_ports.specs.Calls.{Did, MayDo}
use Rattle.sw_world_laws.specs.Turns.{Ask, AskTake, AskPush, AskNothing, AskRest, AskFinished, Got, GotStart, GotTook, GotEmpty, GotPushed, GotFull, GotNothing, Diary, no_diary, with_dids, After}
use Rattle.sw_world_laws.specs.Shows.{Shows}
use Rattle.sw_world_laws.specs.Done.{DoneShows}
use Rattle.sw_world_laws.specs.Actors.{Feed, Actors}
use Rattle.sw_world_laws.specs.Account.{untold}
use Rattle.sw_world_laws.proofs.Locals.{no_hand_door}
use Rattle.sw_world_door.specs.Doors.{DoorState, new_door, DoorGoes, Reads, NotYet, NetEnds, Draws, Refuses, SaysNext, Finishes, DoorTurn, DoorHolds, DoorQuiet, DoorDoneLaw}
use Rattle.sw_world_door.proofs.Doors.{door_keeps, door_shows, door_done}

-- for the door alone
abbrev pub DTurn : Terms → ActorId → DoorState → Got → Feed → List Did → DoorState → Ask → Type 0
DTurn t y s got feed dids u ask = (y ≡ Door) × DoorTurn t s got dids u ask

abbrev pub DQuiet : Terms → ActorId → DoorState → Got → Diary → Type 0
DQuiet t y s got d = (y ≡ Door) × DoorQuiet t s got d

abbrev pub DDone : Terms → ActorId → DoorState → Diary → Type 0
DDone t y s d = (y ≡ Door) × DoorDoneLaw t s d

pub door_after : (t : Terms) (y : ActorId) (u : DoorState) (ask : Ask) (d : Diary) → y ≡ Door → After t (DoorQuiet t) (DoorDoneLaw t) u ask d → After t (DQuiet t y) (DDone t y) u ask d
door_after t y u AskTake d e h = ((e, h.0), λ who m. (e, h.1 who m))
door_after t y u (AskPush to m) d e h = (λ has. (e, h.0 has), (e, h.1))
door_after t y u AskNothing d e h = (e, h)
door_after t y u AskRest d e h = (e, h)
door_after t y u AskFinished d e h = (e, h)

abbrev pub Holding : Terms → DoorState → Diary → Type 0
Holding t s d = (hand : Mail) × DoorHolds t s d hand

pub quiet_holds : (t : Terms) (s : DoorState) (got : Got) (d : Diary) → DoorQuiet t s got d → Holding t s d
quiet_holds t s (GotFull m) d h = ((s.to, m) ∷ [], h)
quiet_holds t s GotStart d h = ([], h)
quiet_holds t s (GotTook m) d h = ([], h)
quiet_holds t s GotEmpty d h = ([], h)
quiet_holds t s GotPushed d h = ([], h)
quiet_holds t s GotNothing d h = ([], h)

after_holds : (t : Terms) (y : ActorId) (u : DoorState) (ask : Ask) (d : Diary) → After t (DQuiet t y) (DDone t y) u ask d → (y ≡ Door) × Holding t u d
after_holds t y u AskTake d h = (h.0.0, ([], h.0.1))
after_holds t y u (AskPush to m) d h = let k = h.1.1 in (h.1.0, ((u.to, m) ∷ [], record { links = k.links; split = k.split; only = k.only; early = k.early; few = k.few; drawn = k.drawn; stops = k.stops; accepted = k.accepted; refused = k.refused }))
after_holds t y u AskNothing d h = (h.0, ([], h.1))
after_holds t y u AskRest d h = (h.0, ([], h.1))
after_holds t y u AskFinished d h = (h.0, ([], h.1.0))

pub shows_door : (t : Terms) (y : ActorId) (s : DoorState) (d : Diary) → y ≡ Door → Holding t s d → Shows t y [] [] (λ n. untold) d
shows_door t y s d e h =
    record {
      door = λ i. door_shows t s d h.0 h.1;
      reactor = λ n lt i. absurd (let q : Door ≡ Reactor n = sym e ∙ i in cc);
      hand = λ k. absurd (no_hand_door t (subst (IsHand t) e k));
      worker = λ v lt i. absurd (let q : Door ≡ Worker v = sym e ∙ i in cc);
      tasker = λ k lt i. absurd (let q : Door ≡ Tasker k = sym e ∙ i in cc);
    }

pub doors_show_after : (t : Terms) (y : ActorId) (s : DoorState) (ask : Ask) (d : Diary) → After t (DQuiet t y) (DDone t y) s ask d → Shows t y [] [] (λ n. untold) d
doors_show_after t y s ask d h = let k = after_holds t y s ask d h in shows_door t y s d k.0 k.1

pub doors_done : (t : Terms) (y : ActorId) (s : DoorState) (d : Diary) → DDone t y s d → DoneShows t y [] [] d
doors_done t y s d h =
    let k = door_done t s d h.1 in
    record {
      once = k.0;
      door = λ e. k.1;
      reactor = λ n lt e. absurd (let q : Door ≡ Reactor n = sym h.0 ∙ e in cc);
      hand = λ i. absurd (no_hand_door t (subst (IsHand t) h.0 i));
      worker = λ v lt e. absurd (let q : Door ≡ Worker v = sym h.0 ∙ e in cc);
      tasker = λ v lt e. absurd (let q : Door ≡ Tasker v = sym h.0 ∙ e in cc);
      round = λ m. record {
        round = λ n lt e. absurd (let q : Door ≡ Reactor n = sym h.0 ∙ e in cc);
        last = λ n j lt e. absurd (let q : Door ≡ Reactor n = sym h.0 ∙ e in cc);
        all = λ j lt e. absurd (let q : Door ≡ Worker j = sym h.0 ∙ e in cc);
      };
    }

goes_may : (t : Terms) (s : DoorState) (dids : List Did) (u : DoorState) (ask : Ask) → DoorGoes t s dids u ask → Each (MayDo t Door) dids
goes_may t s dids u ask (Reads b e a i j q) = subst (Each (MayDo t Door)) (sym i) (tt, tt)
goes_may t s dids u ask (NotYet e a i j q) = subst (Each (MayDo t Door)) (sym i) (tt, tt)
goes_may t s dids u ask (NetEnds e a i j q) = subst (Each (MayDo t Door)) (sym i) (tt, tt)
goes_may t s dids u ask (Draws ip n e a i j q) = subst (Each (MayDo t Door)) (sym i) (refl, (refl, tt))
goes_may t s dids u ask (Refuses ip c none e a i j q) = subst (Each (MayDo t Door)) (sym i) (refl, (refl, (inl refl, tt)))
goes_may t s dids u ask (SaysNext e lt i j q) = subst (Each (MayDo t Door)) (sym i) tt
goes_may t s dids u ask (Finishes e ge i j q) = subst (Each (MayDo t Door)) (sym i) tt

turn_may : (t : Terms) (s : DoorState) (got : Got) (dids : List Did) (u : DoorState) (ask : Ask) → DoorTurn t s got dids u ask → Each (MayDo t Door) dids
turn_may t s (GotFull m) dids u ask h = subst (Each (MayDo t Door)) (sym h.0) tt
turn_may t s GotStart dids u ask h = goes_may t s dids u ask h
turn_may t s (GotTook m) dids u ask h = goes_may t s dids u ask h
turn_may t s GotEmpty dids u ask h = goes_may t s dids u ask h
turn_may t s GotPushed dids u ask h = goes_may t s dids u ask h
turn_may t s GotNothing dids u ask h = goes_may t s dids u ask h

pub doors_may : (t : Terms) (y : ActorId) (s : DoorState) (got : Got) (feed : Feed) (dids : List Did) (u : DoorState) (ask : Ask) → DTurn t y s got feed dids u ask → Each (MayDo t y) dids
doors_may t y s got feed dids u ask turn = subst (λ (z : ActorId). Each (MayDo t z) dids) (sym turn.0) (turn_may t s got dids u ask turn.1)

pub doors_start : (t : Terms) (y : ActorId) → is y Door ≡ true → DQuiet t y new_door GotStart no_diary
doors_start t y e = (is_same y Door e, record { links = []; split = refl; only = tt; early = λ q. refl; few = (omega arith); drawn = refl; stops = refl; accepted = (omega arith); refused = (omega arith) })

-- the door alone
abbrev pub doors : (t : Terms) → Actors t
doors t =
    record {
      mine = λ y. is y Door;
      State = DoorState;
      start = λ y. new_door;
      log = λ s. [];
      kept = λ s. [];
      told = λ s n. untold;
      has = λ s n. false;
      Turn = DTurn t;
      Fails = λ y s got feed dids u. ⊥;
      Quiet = DQuiet t;
      Done = DDone t;
      Lost = λ y s d. ⊥;
      starts = doors_start t;
      starts_empty = λ y. refl;
      keeps = λ y s got feed dids u ask d turn q. door_after t y u ask (with_dids d dids) q.0 (door_keeps t s got dids u ask d turn.1 q.1);
      fails = λ y s got feed dids u d turn q. absurd turn;
      may = doors_may t;
      fails_may = λ y s got feed dids u turn. absurd turn;
      grows = λ y s got feed dids u ask d turn q. inl refl;
      fails_still = λ y s got feed dids u turn. absurd turn;
      shows = λ y s got d q. shows_door t y s d q.0 (quiet_holds t s got d q.1);
      shows_after = doors_show_after t;
      done_shows = doors_done t;
      lost_shows = λ y s d h. absurd h;
    }
