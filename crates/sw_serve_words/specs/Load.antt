-- What the words behind load say: three options with their values, in any order, each once.
use Rattle.std.specs.Prelude.{ℕ, if◌then◌else◌, codes, List, [], ◌∷◌, Option, Some, None}
use Rattle.std.specs.Str.{bytes_eq}
use Rattle.sw_load.specs.declared.plan.Plan.{Plan}
use Rattle.sw_load.specs.Plans.{planned}
use Rattle.sw_text.specs.Numbers.{number_within}
use Rattle.sw_serve_words.specs.declared.load.LoadWords.{LoadWords}
use Rattle.sw_serve_words.specs.Unset.{unset}

-- nothing is named
abbrev pub no_load : LoadWords
no_load = record { seed = None; connections = None; packets = None }

-- a seed more
abbrev pub seed_named : LoadWords → Option ℕ → Option LoadWords
seed_named w None = None
seed_named w (Some n) = Some (record w { seed = Some n })

-- a number of connections more
abbrev pub connections_named : LoadWords → Option ℕ → Option LoadWords
connections_named w None = None
connections_named w (Some n) = Some (record w { connections = Some n })

-- a number of packets more
abbrev pub packets_named : LoadWords → Option ℕ → Option LoadWords
packets_named w None = None
packets_named w (Some n) = Some (record w { packets = Some n })

-- one option more: a seed of 64 bits, 1 to 1,024 connections, or 1 to 1,000,000 packets
abbrev pub with_load : LoadWords → List ℕ → List ℕ → Option LoadWords
with_load w name value =
    if bytes_eq name (codes "--seed") then seed_named w (unset w.seed (number_within 0 18446744073709551615 value))
    else if bytes_eq name (codes "--connections") then connections_named w (unset w.connections (number_within 1 1024 value))
    else if bytes_eq name (codes "--packets") then packets_named w (unset w.packets (number_within 1 1000000 value))
    else None

-- what the others say, where the words so far are in the grammar
abbrev pub then_load : Option LoadWords → (LoadWords → Option LoadWords) → Option LoadWords
then_load None others = None
then_load (Some w) others = others w

-- one option after the other: a name, and then its value
abbrev pub load_read : Option (List ℕ) → List (List ℕ) → LoadWords → Option LoadWords
load_read None [] w = Some w
load_read (Some name) [] w = None
load_read None (name ∷ ws) w = load_read (Some name) ws w
load_read (Some name) (value ∷ ws) w = then_load (with_load w name value) (load_read None ws)

abbrev pub load_words : List (List ℕ) → LoadWords → Option LoadWords
load_words ws w = load_read None ws w

-- the same behind an option's name
abbrev pub load_named : List ℕ → List (List ℕ) → LoadWords → Option LoadWords
load_named name ws w = load_read (Some name) ws w

-- the same where the words so far may be out of the grammar
abbrev pub load_more : Option LoadWords → List (List ℕ) → Option LoadWords
load_more w ws = then_load w (load_read None ws)

-- the plan of three numbers, where all are there
abbrev pub plan_of : Option ℕ → Option ℕ → Option ℕ → Option Plan
plan_of None connections packets = None
plan_of (Some s) None packets = None
plan_of (Some s) (Some c) None = None
plan_of (Some s) (Some c) (Some p) = planned s c p

abbrev pub plan_in : Option LoadWords → Option Plan
plan_in None = None
plan_in (Some w) = plan_of w.seed w.connections w.packets
