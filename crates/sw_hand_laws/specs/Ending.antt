-- What a hand keeps of NoMore.
use Rattle.std.specs.Prelude.{◌≡◌, ℕ, ◌≤◌, [], ◌∷◌, ◌++◌, length, zero, suc}
use Rattle.sw_lists.specs.Lists.{collect, Each}
use Rattle.sw_step.specs.declared.actor.ActorId.{ActorId}
use Rattle.sw_record.specs.Terms.{Terms}
use Rattle.sw_past.specs.Messages.{Message, NoMore}
use Rattle.sw_past.specs.Past.{Mail, bare}
use Rattle.sw_past.specs.Views.{no_more}
use Rattle.sw_hand_laws.specs.Hand.{Stage, Stopping, Stopped, Hand, goodbye, goodbyes, enders}

-- so many NoMore were pushed
abbrev pub given : Terms → ActorId → Stage → ℕ
given t y (Stopping k) = k
given t y Stopped = goodbyes t y
given t y _ = 0

-- those NoMore
abbrev pub farewell : Terms → ℕ → Mail
farewell t zero = []
farewell t (suc k) = farewell t k ++ (goodbye t k, NoMore) ∷ []

-- NoMore of all came, and no task is out
abbrev pub MayStop : Terms → ActorId → Hand → Type 0
MayStop t y h = (enders t y ≤ h.ended) × (h.out ≡ 0)

-- a hand stops only then
abbrev pub Stops : Terms → ActorId → Stage → Hand → Type 0
Stops t y (Stopping k) h = MayStop t y h
Stops t y Stopped h = MayStop t y h
Stops t y _ h = Unit {0}

-- NoMore was taken so often, and was pushed last and once to each
pub record Ending (t : Terms) (y : ActorId) (st : Stage) (h : Hand) : Type 0 where
  pub counted : h.ended ≡ length (collect no_more (bare h.took))
  pub work : Mail
  pub split : h.pushed ≡ work ++ farewell t (given t y st)
  pub quiet : Each (λ (p : ActorId × Message). no_more p.1 ≡ []) work
  pub stops : Stops t y st h
