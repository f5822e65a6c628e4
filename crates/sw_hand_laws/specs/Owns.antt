-- What else a hand keeps of the sessions of its own: no Bye of them was pushed. And that its history grows.
use Rattle.std.specs.Prelude.{◌≡◌, ℕ, ◌%◌, true, [], None, false}
use Rattle.sw_lists.specs.Lists.{collect, Each, IsPrefix}
use Rattle.sw_record.specs.Terms.{Terms, keeps}
use Rattle.sw_record.specs.Logs.{told_of}
use Rattle.sw_record.specs.Order.{ConnectFirst}
use Rattle.sw_record.specs.Fits.{is_some, is_of}
use Rattle.sw_past.specs.Past.{bare}
use Rattle.sw_past.specs.Views.{byes_in}
use Rattle.sw_hand_laws.specs.Hand.{Stage, Hand}
use Rattle.sw_hand_laws.specs.Keeps.{now}

-- sessions of one's own, and Byes
pub record Owns (t : Terms) (st : Stage) (h : Hand) : Type 0 where
  pub current : (s : ℕ) → Each (λ e. is_of s e ≡ true → ¬ (told_of s h.log ≡ [])) (now st)
  -- a Bye is of a session of which an event was given
  pub heard : (s : ℕ) → told_of s h.log ≡ [] → collect (byes_in s) (bare h.pushed) ≡ []
  -- where no connection is tied to a worker, no session stands as its own
  pub spread : keeps t.mode ≡ false → (n : ℕ) → h.own n ≡ None
  -- of an own session whose Connect stands first, as its reactor pushes it, no Bye was pushed
  pub quiet : (s : ℕ) → ConnectFirst (told_of s h.log) → is_some s (h.own (s % t.max_conn)) ≡ true → collect (byes_in s) (bare h.pushed) ≡ []

-- all grows
pub record Grown (f g : Hand) : Type 0 where
  pub log : IsPrefix f.log g.log
  pub took : IsPrefix f.took g.took
  pub pushed : IsPrefix f.pushed g.pushed
