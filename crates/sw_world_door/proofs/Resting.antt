-- Actors that only rest, whose laws hold: beside them the door alone makes a world.
use Rattle.std.proofs.Common.{◌≡◌, true, false, List, [], ◌∷◌, ◌++◌, refl, ap, ◌∙◌, sym, subst, arith, inl}
use Rattle.sw_lists.specs.Lists.{Each}
use Rattle.sw_lists.proofs.Lists.{append_none}
use Rattle.sw_step.specs.declared.actor.ActorId.{ActorId}
use Rattle.sw_record.specs.Words.{Stats, Count}
use Rattle.sw_record.specs.Terms.{Terms}
use Rattle.sw_world_ports.specs.Calls.{Did, MayDo}
use Rattle.sw_world_laws.specs.Turns.{Ask, AskTake, AskPush, AskNothing, AskRest, AskFinished, Got, Diary, no_diary, with_dids, After}
use Rattle.sw_world_laws.specs.Shows.{Shows}
use Rattle.sw_world_laws.specs.Actors.{Feed, Actors}
use Rattle.sw_world_laws.specs.Account.{untold}

pub data Resting : Type 0 where
  ARest : Resting

abbrev pub RestTurn : ActorId → Resting → Got → Feed → List Did → Resting → Ask → Type 0
RestTurn y s got feed dids u ask = (dids ≡ []) × (ask ≡ AskRest)

abbrev pub RestQuiet : ActorId → Resting → Got → Diary → Type 0
RestQuiet y s got d = d ≡ no_diary

abbrev pub RestDone : ActorId → Resting → Diary → Type 0
RestDone y s d = ⊥

pub silent : (t : Terms) (y : ActorId) → Shows t y [] [] (λ n. untold) no_diary
silent t y =
    record {
      door = λ e. record { routed = tt; order = tt; fresh = ([], refl); stops = λ n. absurd (n refl); accepted = (omega arith); refused = (omega arith) };
      reactor = λ n lt e word. (
        record {
          to_workers = tt;
          shows = λ fair. record { routed = tt; stranger = λ s f. refl; keeps = λ s l has i. absurd (let q = has.1 in cc) };
        },
        λ fair. record {
          freed_once = tt;
          freed_fresh = tt;
          freed_kept = λ s has. absurd (let q = has.1 in cc);
          last = λ x. (omega arith);
          ended = λ k. absurd (k refl);
          ends = (omega arith);
          packets = (omega arith);
          sessions = tt;
          distinct = tt;
          fits = λ s l has i. absurd (let q = has.1 in cc);
          closed = λ s l x has i j k. absurd (let q = has.1 in cc);
          resets = λ s l x has i j k. absurd (let q = has.1 in cc);
          stops = λ l x has i j k. absurd (let q = has.1 in cc);
          shows = λ s l x has i j. absurd (let q = has.1 in cc);
          over = λ s l x has i j k. absurd (let q = has.1 in cc);
          live = λ s l x has i j. absurd (let q = has.1 in cc);
        },
      );
      hand = λ k. record {
        law = record { routed = tt; told = ([], refl); dialogue = tt; fits = tt; talk = λ s. ([], refl) };
        ended = λ k. absurd (k refl);
        asks = tt;
        grants = tt;
        refusals = tt;
        task_full = λ n. absurd (n refl);
        room = λ n. (omega arith);
        stops = λ n. absurd (n refl);
        binds_are = refl;
        bound = tt;
        info = tt;
        logged = refl;
        no_busy = refl;
        spent = tt;
        counts = tt;
        adds = λ c. (omega arith);
        least = λ before behind c n e. absurd (let i = (append_none before ((Stats c, Count n) ∷ behind) (sym e)).1 in cc);
      };
      worker = λ v lt e. record { posted = tt; counting = tt; posts = tt };
      tasker = λ k lt e v. ([], refl);
    }

pub rest_keeps : (t : Terms) (y : ActorId) (s : Resting) (got : Got) (feed : Feed) (dids : List Did) (u : Resting) (ask : Ask) (d : Diary) → RestTurn y s got feed dids u ask → RestQuiet y s got d → After t (RestQuiet y) (RestDone y) u ask (with_dids d dids)
rest_keeps t y s got feed dids u ask d turn quiet =
    subst (λ (x : Ask). After t (RestQuiet y) (RestDone y) u x (with_dids d dids)) (sym turn.1)
    (ap (λ (x : Diary). with_dids x dids) quiet ∙ ap (λ (x : List Did). with_dids no_diary x) turn.0)

-- whatever it asks, its law says that it did nothing so far
quiet_after : (t : Terms) (y : ActorId) (s : Resting) (ask : Ask) (d : Diary) → After t (RestQuiet y) (RestDone y) s ask d → d ≡ no_diary
quiet_after t y s AskTake d h = h.0
quiet_after t y s (AskPush to m) d h = absurd (let q : d.refused ++ (to, m) ∷ [] ≡ [] = ap (λ (x : Diary). x.refused) h.1 in let r = (append_none d.refused ((to, m) ∷ []) q).1 in cc)
quiet_after t y s AskNothing d h = h
quiet_after t y s AskRest d h = h
quiet_after t y s AskFinished d h = absurd h

pub rest_shows : (t : Terms) (y : ActorId) (s : Resting) (ask : Ask) (d : Diary) → After t (RestQuiet y) (RestDone y) s ask d → Shows t y [] [] (λ n. untold) d
rest_shows t y s ask d h = subst (Shows t y [] [] (λ n. untold)) (sym (quiet_after t y s ask d h)) (silent t y)

abbrev pub resting : (t : Terms) → Actors t
resting t =
    record {
      mine = λ y. true;
      State = Resting;
      start = λ y. ARest;
      log = λ s. [];
      kept = λ s. [];
      told = λ s n. untold;
      has = λ s n. false;
      Turn = RestTurn;
      Fails = λ y s got feed dids u. ⊥;
      Quiet = RestQuiet;
      Done = RestDone;
      Lost = λ y s d. ⊥;
      starts = λ y h. refl;
      starts_empty = λ y. refl;
      keeps = rest_keeps t;
      fails = λ y s got feed dids u d turn q. absurd turn;
      may = λ y s got feed dids u ask turn. subst (Each (MayDo t y)) (sym turn.0) tt;
      fails_may = λ y s got feed dids u turn. absurd turn;
      grows = λ y s got feed dids u ask d turn q. inl refl;
      fails_still = λ y s got feed dids u turn. absurd turn;
      shows = λ y s got d q. subst (Shows t y [] [] (λ n. untold)) (sym q) (silent t y);
      shows_after = rest_shows t;
      done_shows = λ y s d q. absurd q;
      lost_shows = λ y s d h. absurd h;
    }
