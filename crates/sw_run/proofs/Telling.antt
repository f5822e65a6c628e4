-- What a run is told to have come to.
use Rattle.std.proofs.Common.{◌≡◌, ◌≤◌, ◌∙◌, ℕ, Bool, true, false, List, Option, None, Result, refl, sym, subst}
use Rattle.sw_players.specs.Hears.{Hears}
use Rattle.sw_players.specs.Made.{Made}
use Rattle.sw_run.specs.Counts.{Missing}
use Rattle.sw_run.specs.LinedUp.{IsLineUp}
use Rattle.sw_run.specs.declared.faults.ServeFault.{ServeFault}
use Rattle.sw_crossing.specs.Fell.{FellShort}
use Rattle.sw_run.specs.Ran.{EndsBy, HasBack, GivesBack, told}
use Rattle.sw_sweep.specs.Ended.{IsLeft}
use Rattle.sw_sweep.specs.declared.stopped.Stopped.{Stopped}

module _ {N E H T : Type 0} where
  ends : (heard : N → ℕ) (net : N) (old new : ℕ) (s : Stopped N E H T) (short deaf : Bool) → FellShort short old new → Hears (heard net) (heard s.net) deaf → EndsBy None heard net old new (told s short deaf)
  ends heard net old new s true deaf fell hears = (refl, fell)
  ends heard net old new s false true fell hears = (refl, hears)
  ends heard net old new s false false fell hears = refl

  gives : {A B : Type 0} (f : H → A) (g : T → B) (workers : List (List A)) (taskers : List B) (s : Stopped N E H T) (short deaf : Bool) → HasBack f g workers taskers s → GivesBack f g workers taskers (told s short deaf)
  gives f g workers taskers s true deaf has = has
  gives f g workers taskers s false true has = has
  gives f g workers taskers s false false has = has

  pub told_ends : (heard : N → ℕ) (net : N) (old new : ℕ) (s : Stopped N E H T) (short deaf : Bool) (r : Result (Stopped N E H T) (ServeFault N E H T)) → r ≡ told s short deaf → FellShort short old new → Hears (heard net) (heard s.net) deaf → EndsBy None heard net old new r
  told_ends heard net old new s short deaf r same fell hears = subst (EndsBy None heard net old new) (sym same) (ends heard net old new s short deaf fell hears)

  pub told_gives : {A B : Type 0} (f : H → A) (g : T → B) (workers : List (List A)) (taskers : List B) (s : Stopped N E H T) (short deaf : Bool) (r : Result (Stopped N E H T) (ServeFault N E H T)) → r ≡ told s short deaf → HasBack f g workers taskers s → GivesBack f g workers taskers r
  told_gives f g workers taskers s short deaf r same has = subst (GivesBack f g workers taskers) (sym same) (gives f g workers taskers s short deaf has)

  -- so many were given as are needed
  pub counted_all : (missing : Option Missing) (heard : N → ℕ) (net : N) (old new : ℕ) (r : Result (Stopped N E H T) (ServeFault N E H T)) → missing ≡ None → EndsBy None heard net old new r → EndsBy missing heard net old new r
  counted_all missing heard net old new r none h = subst (λ m. EndsBy m heard net old new r) (sym none) h

  -- what is left of players who were lined up so
  pub hears_of : {A B : Type 0} (f : H → A) (g : T → B) (heard : N → ℕ) (net : N) (workers : List (List A)) (taskers : List B) (ms ns : List (Made N (List A) B)) (s : Stopped N E H T) (deaf : Bool) → IsLineUp net workers taskers ms → ns ≡ ms → IsLeft f g heard ns s deaf → Hears (heard net) (heard s.net) deaf
  hears_of f g heard net workers taskers ms ns s deaf lined same left =
      let here = subst (λ l. IsLeft f g heard l s deaf) same left in here.hears net lined.nets_are

  pub has_back : {A B : Type 0} (f : H → A) (g : T → B) (heard : N → ℕ) (net : N) (workers : List (List A)) (taskers : List B) (ms ns : List (Made N (List A) B)) (s : Stopped N E H T) (deaf : Bool) → IsLineUp net workers taskers ms → ns ≡ ms → IsLeft f g heard ns s deaf → HasBack f g workers taskers s
  has_back f g heard net workers taskers ms ns s deaf lined same left =
      let here = subst (λ l. IsLeft f g heard l s deaf) same left in (here.workers ∙ lined.workers_are, here.taskers ∙ lined.taskers_are)
