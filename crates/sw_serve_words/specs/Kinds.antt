-- What the words of the command line ask for.
use Rattle.std.specs.Prelude.{ℕ, if◌then◌else◌, codes, List, [], ◌∷◌, Option, Some, None}
use Rattle.std.specs.Str.{bytes_eq}
use Rattle.sw_load.specs.declared.plan.Plan.{Plan}
use Rattle.sw_serve_words.specs.declared.kind.Kind.{Kind}
use Rattle.sw_serve_words.specs.declared.kind.Kind.TheVariants as kinds
use Rattle.sw_serve_words.specs.declared.serve.ServeWords.{ServeWords}
use Rattle.sw_serve_words.specs.Serve.{serve_words, no_serve}
use Rattle.sw_serve_words.specs.Load.{load_words, no_load, plan_in}

-- a server, or words out of its grammar
abbrev pub serve_kind : Option ServeWords → Kind
serve_kind None = kinds.Usage
serve_kind (Some w) = kinds.Serve w

-- a load, or words out of its grammar
abbrev pub load_kind : Option Plan → Kind
load_kind None = kinds.Usage
load_kind (Some p) = kinds.Load p

-- by the first word: serve, load, or one of the others
abbrev pub kind_named : List ℕ → List (List ℕ) → Kind
kind_named first rest =
    if bytes_eq first (codes "serve") then serve_kind (serve_words rest no_serve)
    else if bytes_eq first (codes "load") then load_kind (plan_in (load_words rest no_load)) else kinds.Tool

abbrev pub kind_of : List (List ℕ) → Kind
kind_of [] = kinds.Tool
kind_of (first ∷ rest) = kind_named first rest
