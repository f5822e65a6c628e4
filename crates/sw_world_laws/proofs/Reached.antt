-- THE CORE: wherever steps lead from the start, the law holds.
use Rattle.std.proofs.Common.{if◌then◌else◌, ◌≡◌, ◌<◌, ◌^◌, Bool, true, false, List, [], ◌∷◌, refl, sym, arith, inl}
use Rattle.sw_lists.proofs.Lists.{append_none}
use Rattle.sw_step.specs.declared.actor.ActorId.{ActorId}
use Rattle.sw_record.specs.Terms.{Terms}
use Rattle.sw_record.specs.Places.{Ran}
use Rattle.sw_world_ports.specs.Calls.{Sums}
use Rattle.sw_world_laws.specs.Turns.{AskTake, AskPush, AskNothing, AskRest, AskFinished, GotNothing}
use Rattle.sw_world_laws.specs.Actors.{Actors}
use Rattle.sw_world_laws.specs.World.{Pending, Waits, Gave, Core, Outcome, Step, Goes, Arrive, Script, NetEnd, there, has_room, start, goes, goes_if, next, MayGo, MayStep, run, MayRun, Lost, Wants, MayStepBy, next_by}
use Rattle.sw_world_laws.specs.History.{History, diary_of, LocalBy}
use Rattle.sw_world_laws.specs.Law.{Holds, Law}
use Rattle.sw_world_laws.proofs.Moves.{taken_keeps, pushed_keeps}
use Rattle.sw_world_laws.proofs.Turns.{turned_keeps}

goes_keeps : (t : Terms) (legal : List Ran → Type 0) (p : Actors t) (c : Core p.State) (h : History) → Holds t legal p c h → c.lost ≡ false → (y : ActorId) → there t y ≡ true → (o : Outcome p.State) (n : Pending) → LocalBy t p y (c.states y) n (diary_of h y) → MayGo t legal p c y o n → Law t legal p (goes t p c y o n)
goes_keeps t legal p c h l was y th o (Gave got) q may = turned_keeps t legal p c h l was y th o got may q
goes_keeps t legal p c h l was y th o (Waits AskTake) q may = taken_keeps t legal p c h l was y th q
goes_keeps t legal p c h l was y th o (Waits (AskPush x m)) q may = pushed_keeps t legal p c h l was y x m th q (has_room t x (c.pipes x)) refl
goes_keeps t legal p c h l was y th o (Waits AskNothing) q may = turned_keeps t legal p c h l was y th o GotNothing may q
goes_keeps t legal p c h l was y th o (Waits AskRest) q may = turned_keeps t legal p c h l was y th o GotNothing may q
goes_keeps t legal p c h l was y th o (Waits AskFinished) q may = (h, l)
goes_keeps t legal p c h l was y th o Lost q may = (h, l)

goes_if_keeps : (t : Terms) (legal : List Ran → Type 0) (p : Actors t) (c : Core p.State) (h : History) → Holds t legal p c h → c.lost ≡ false → (y : ActorId) (o : Outcome p.State) (b : Bool) → there t y ≡ b → (b ≡ true → MayGo t legal p c y o (c.nexts y)) → Law t legal p (goes_if t p c y o b)
goes_if_keeps t legal p c h l was y o true th may = goes_keeps t legal p c h l was y th o (c.nexts y) (l.local y th) (may refl)
goes_if_keeps t legal p c h l was y o false th may = (h, l)

found_keeps : (t : Terms) (legal : List Ran → Type 0) (p : Actors t) (c : Core p.State) (x : Step p.State) → c.lost ≡ false → MayStepBy t legal p c x → Law t legal p c → Law t legal p (next_by t p c x)
found_keeps t legal p c (Goes y o) was may (h, l) = goes_if_keeps t legal p c h l was y o (there t y) refl may
found_keeps t legal p c (Arrive ip) was may (h, l) = (
  h,
  record {
    local = l.local;
    absent = l.absent;
    sound = l.sound;
    may = l.may;
    pipes = l.pipes;
    lies = l.lies;
    notes = l.notes;
    task_marks = l.task_marks;
    finish_marks = l.finish_marks;
    ports = record { given = l.ports.given; words = l.ports.words; stop = l.ports.stop; counts = l.ports.counts; shelf = l.ports.shelf };
    full = l.full;
    doors_first = l.doors_first;
    links_first = l.links_first;
  },
)
found_keeps t legal p c (Script link item) was may (h, l) = (
  h,
  record {
    local = l.local;
    absent = l.absent;
    sound = l.sound;
    may = l.may;
    pipes = l.pipes;
    lies = l.lies;
    notes = l.notes;
    task_marks = l.task_marks;
    finish_marks = l.finish_marks;
    ports = l.ports;
    full = l.full;
    doors_first = l.doors_first;
    links_first = l.links_first;
  },
)
found_keeps t legal p c NetEnd was may (h, l) = (
  h,
  record {
    local = l.local;
    absent = l.absent;
    sound = l.sound;
    may = l.may;
    pipes = l.pipes;
    lies = l.lies;
    notes = l.notes;
    task_marks = l.task_marks;
    finish_marks = l.finish_marks;
    ports = record { given = l.ports.given; words = l.ports.words; stop = l.ports.stop; counts = l.ports.counts; shelf = l.ports.shelf };
    full = l.full;
    doors_first = l.doors_first;
    links_first = l.links_first;
  },
)
found_keeps t legal p c Wants was may (h, l) = (
  h,
  record {
    local = l.local;
    absent = l.absent;
    sound = λ ok. absurd (cc);
    may = l.may;
    pipes = l.pipes;
    lies = l.lies;
    notes = l.notes;
    task_marks = l.task_marks;
    finish_marks = l.finish_marks;
    ports = l.ports;
    full = l.full;
    doors_first = l.doors_first;
    links_first = l.links_first;
  },
)

pub next_keeps : (t : Terms) (legal : List Ran → Type 0) (p : Actors t) (c : Core p.State) (x : Step p.State) → MayStep t legal p c x → Law t legal p c → Law t legal p (next t p c x)
next_keeps t legal p c x may l = by c.lost refl
  where
    by : (b : Bool) → c.lost ≡ b → Law t legal p (if b then c else next_by t p c x)
    by true e = l
    by false e = found_keeps t legal p c x e (may e) l

-- before any step nothing happened
abbrev pub no_history : History
no_history = record { took = λ y. []; pushed = λ y. []; refused = λ y. []; sent = λ y. []; dids = λ y. [] }

pub start_keeps : (t : Terms) (legal : List Ran → Type 0) (p : Actors t) → ((y : ActorId) → p.mine y ≡ true) → t.session_last < 2 ^ 32 → legal [] → Law t legal p (start t p)
start_keeps t legal p all lt ok = (
  no_history,
  record {
    local = λ y th. p.starts y (all y);
    absent = λ y th. refl;
    sound = λ ok y. tt;
    may = λ y. tt;
    pipes = record { same = λ x y. refl; begins = λ x. ([], refl) };
    lies = λ x. record { rest = []; split = refl; inside = refl };
    notes = λ n y k ip s early rest e. absurd (let i = (append_none early _ (sym e)).1 in let j = (append_none early _ (sym e)).1 in cc);
    task_marks = λ w k lw lk id bytes early rest e. absurd (let i = (append_none early _ (sym e)).1 in let j = (append_none early _ (sym e)).1 in cc);
    finish_marks = λ w k lw lk id bytes early rest e. absurd (let i = (append_none early _ (sym e)).1 in let j = (append_none early _ (sym e)).1 in cc);
    ports = record {
      given = refl;
      words = record {
        book = record {
          claims = lt;
          last_is = refl;
          low = tt;
          released = λ s i. absurd (let q = i.1.1.1 in cc);
          slot = λ i n. absurd (n refl);
          held = λ s n e. absurd (n (sym e));
          back = λ s i. absurd (let q = i.1 in cc);
          again = λ s u i. absurd (let q = i.1 in cc);
          rise = λ n less. tt;
          one = λ s. (0, inl (refl, λ y. refl));
          above = λ s less y. refl;
          frees = λ n less s u i. absurd (let q = i.1 in cc);
        };
        found = λ y. record { lives = tt; others = tt; found = tt; had = tt };
      };
      stop = record { set = λ e. absurd (cc); seen = λ y n. absurd (n refl) };
      counts = record { own = λ c y. (omega arith); cap = λ c y. (omega arith); own_least = λ c y. inl (omega arith); sums = λ y. tt; least = λ y before behind c n e. absurd (let i = (append_none before (Sums c n ∷ behind) (sym e)).1 in cc) };
      shelf = record { is_legal = ok; each = λ y. tt; rise = λ y. tt; once = λ y z n. tt; all = λ n less. absurd (omega arith); none_left = λ y. tt };
    };
    full = λ y n m less i. absurd (let q = i.1 in cc);
    doors_first = λ some n less y ne gave. absurd (gave refl);
    links_first = λ some n less. tt;
  },
)

pub run_keeps : (t : Terms) (legal : List Ran → Type 0) (p : Actors t) (steps : List (Step p.State)) (c : Core p.State) → MayRun t legal p c steps → Law t legal p c → Law t legal p (run t p steps c)
run_keeps t legal p [] c may l = l
run_keeps t legal p (x ∷ xs) c may l = run_keeps t legal p xs (next t p c x) may.1 (next_keeps t legal p c x may.0 l)

pub reached : (t : Terms) (legal : List Ran → Type 0) (p : Actors t) → ((y : ActorId) → p.mine y ≡ true) → t.session_last < 2 ^ 32 → legal [] → (steps : List (Step p.State)) → MayRun t legal p (start t p) steps → Law t legal p (run t p steps (start t p))
reached t legal p all lt ok steps may = run_keeps t legal p steps (start t p) may (start_keeps t legal p all lt ok)
