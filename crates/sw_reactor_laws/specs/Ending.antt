-- A reactor's own count of NoMore, and what it is once it is finished.
use Rattle.std.specs.Prelude.{◌≡◌, ℕ, ◌+◌, ◌≤◌, nat_lt, if◌then◌else◌, [], ◌∷◌, length}
use Rattle.sw_lists.specs.Lists.{collect}
use Rattle.sw_step.specs.declared.actor.ActorId.TheVariants.{Worker}
use Rattle.sw_record.specs.Terms.{Terms}
use Rattle.sw_past.specs.Messages.{Message, FreshMsg, SendMsg, CloseMsg, ResetMsg, Bye, EventMsg, OverMsg, NoMore}
use Rattle.sw_past.specs.Past.{Mail, bare, of}
use Rattle.sw_past.specs.Views.{no_more, fresh_in}
use Rattle.sw_reactor_table.specs.Reactor.{Reactor, Ask, Take, Push, Nothing, Rest, Finished, all}

-- with nothing on its way
pub record Counts (t : Terms) (took pushed : Mail) (r : Reactor) : Type 0 where
  pub ends : r.ends ≡ length (collect no_more (bare took))
  pub gave : (j : ℕ) → length (collect no_more (of (Worker j) pushed)) ≡ (if nat_lt j r.given then 1 else 0)
  -- behind the last of a round comes the first
  pub tight : r.next ≡ [] → r.done ≡ []

-- the next NoMore goes to the next worker
abbrev pub IsGivingMsg : ℕ → ℕ → Message → Type 0
IsGivingMsg given w NoMore = w ≡ given
IsGivingMsg given w (FreshMsg ip s) = Unit {0}
IsGivingMsg given w (SendMsg s b) = Unit {0}
IsGivingMsg given w (CloseMsg s) = Unit {0}
IsGivingMsg given w (ResetMsg s) = Unit {0}
IsGivingMsg given w (Bye s) = Unit {0}
IsGivingMsg given w (EventMsg e) = Unit {0}
IsGivingMsg given w (OverMsg id) = Unit {0}

-- the same of an ask
abbrev pub IsGiving : ℕ → Ask → Type 0
IsGiving given (Push w m) = IsGivingMsg given w m
IsGiving given Take = Unit {0}
IsGiving given Nothing = Unit {0}
IsGiving given Rest = Unit {0}
IsGiving given Finished = Unit {0}

-- a finished reactor: no connection, NoMore of all, and to all
pub record IsDone (t : Terms) (r : Reactor) : Type 0 where
  pub none : all r ≡ []
  pub all_ended : r.ends ≡ 1 + t.worker_num + t.tasker_num
  pub all_given : t.worker_num ≤ r.given

-- what a turn's choice makes of the counts
pub record Chose (t : Terms) (r d : Reactor) : Type 0 where
  pub ends : d.ends ≡ r.ends
  pub given : d.given ≡ r.given
  pub tight : d.next ≡ [] → d.done ≡ []
  pub giving : IsGiving d.given d.last
  pub done : d.last ≡ Finished → IsDone t d

-- no link comes behind a NoMore: the door's comes behind all links, and hands send theirs behind the reactor's own
abbrev pub LinksFirst : Mail → Type 0
LinksFirst [] = Unit {0}
LinksFirst (x ∷ ms) = (¬ (no_more x.1 ≡ []) → collect fresh_in (bare ms) ≡ []) × LinksFirst ms
