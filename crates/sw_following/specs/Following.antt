-- The handler that follows rules, or is an echo: what it is before it is given anything, and what it does.
use Rattle.std.specs.Prelude.{◌≡◌, ℕ, List, [], ◌∷◌, length, Bool, true, false, ◌&&◌, nat_eq, Option, Some, None}
use Rattle.std.specs.List.{All}
use Rattle.sw_data.specs.declared.acts.Act.{Act}
use Rattle.sw_data.specs.declared.given.Given.{Given}
use Rattle.sw_handler.specs.Echo.{echo_act}
use Rattle.sw_script.specs.declared.rule.On.{On}
use Rattle.sw_script.specs.declared.rule.On.TheVariants.{Connect, Packet, Closed, Finish, Task}
use Rattle.sw_script.specs.declared.script.Script.{Script}
use Rattle.sw_script.specs.Script.{rules_on}
use Rattle.sw_scripted.specs.Scripted.{script_of, to_come, on_given}
use Rattle.sw_following.specs.declared.following.Following.{Following}
use Rattle.sw_following.specs.declared.following.Following.TheVariants.{Echo, Rules}

-- there is no rule for events of this kind
abbrev pub is_empty : On → Script → Bool
is_empty on s = nat_eq (length (rules_on on s)) 0

-- there is no rule
abbrev pub is_without_rules : Script → Bool
is_without_rules s = is_empty Connect s && is_empty Packet s && is_empty Closed s && is_empty Finish s && is_empty Task s

-- the handler of a script before it is given anything: without a rule it is an echo, and else it has the rules, and no act is to come
abbrev pub IsFresh : Script → Following → Type 0
IsFresh s (Echo e) = is_without_rules s ≡ true
IsFresh s (Rules r) = (is_without_rules s ≡ false) × (script_of r ≡ s) × (to_come r ≡ [])

-- so many, and each is so
abbrev pub Many : {X : Type 0} → (X → Type 0) → ℕ → List X → Type 0
Many P n xs = (length xs ≡ n) × All P xs

-- so many handlers of a script
abbrev pub AreFresh : Script → ℕ → List Following → Type 0
AreFresh s n hs = Many (IsFresh s) n hs

-- those of so many workers, for each so many
abbrev pub AreFreshWorkers : Script → ℕ → ℕ → List (List Following) → Type 0
AreFreshWorkers s n generations ws = Many (AreFresh s generations) n ws

-- ---- what it was made with, and what it does

-- its rules, none for an echo
abbrev pub rules_of : Following → Option Script
rules_of (Echo e) = None
rules_of (Rules r) = Some (script_of r)

-- an echo acts as an echo, and the other by its rules
abbrev pub following_acts : Following → Given → Act → Following → Type 0
following_acts (Echo e) given act (Echo f) = act ≡ echo_act given
following_acts (Rules r) given act (Rules q) = (script_of q ≡ script_of r) × ((act, to_come q) ≡ on_given (script_of r) (to_come r) given)
following_acts (Echo e) given act (Rules q) = ⊥
following_acts (Rules r) given act (Echo f) = ⊥
