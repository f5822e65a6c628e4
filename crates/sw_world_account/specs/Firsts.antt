-- The first place of each session in a list: places are put from the list's end, so the first one stays.
use Rattle.std.specs.Prelude.{ℕ, ◌+◌, if◌then◌else◌, List, [], ◌∷◌, Option, Some, None}
use Rattle.std.specs.Ordering.{nat_cmp}
use Rattle.std.specs.Map.{lookup}
use Rattle.std.specs.BTreeMap.{is_at}
use Rattle.sw_world_laws.specs.Account.{is_session}
use Rattle.sw_world_account.specs.declared.firsts.Firsts.{Firsts}

-- the first place of a session, where the list begins at this one
abbrev pub first_from : ℕ → ℕ → List (Option ℕ) → Option ℕ
first_from s at [] = None
first_from s at (x ∷ xs) = if is_session s x then Some at else first_from s (at + 1) xs

-- the place that a map has for a session
abbrev pub finds : Firsts → ℕ → Option ℕ
finds f s = lookup (is_at (nat_cmp s)) f.by_session.entries

-- what it has for one session once a place was put for another, if there is one
abbrev pub put_first : Option ℕ → ℕ → ℕ → Option ℕ → Option ℕ
put_first x at s before = if is_session s x then Some at else before
