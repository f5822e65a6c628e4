-- What the words behind serve say: options with their values, in any order, each at most once.
use Rattle.std.specs.Prelude.{ℕ, if◌then◌else◌, codes, List, [], ◌∷◌, Option, Some, None}
use Rattle.std.specs.Str.{bytes_eq}
use Rattle.sw_text.specs.Numbers.{number_within}
use Rattle.sw_serve_words.specs.declared.serve.ServeWords.{ServeWords}
use Rattle.sw_serve_words.specs.Unset.{unset}

-- nothing is named
abbrev pub no_serve : ServeWords
no_serve = record { port = None; accept = None }

-- a port more, where it is one
abbrev pub port_named : ServeWords → Option ℕ → Option ServeWords
port_named w None = None
port_named w (Some n) = Some (record w { port = Some n })

-- a port from 0 to 65,535, where none was named before
abbrev pub with_port : Option ℕ → ServeWords → List ℕ → Option ServeWords
with_port None w word = port_named w (number_within 0 65535 word)
with_port (Some n) w word = None

-- a number of links more, where it is one
abbrev pub accept_named : ServeWords → Option ℕ → Option ServeWords
accept_named w None = None
accept_named w (Some n) = Some (record w { accept = Some n })

-- one option more: a port from 0 to 65,535, or a number of links from 1 to 4,294,967,295
abbrev pub with_serve : ServeWords → List ℕ → List ℕ → Option ServeWords
with_serve w name value =
    if bytes_eq name (codes "--port") then with_port w.port w value
    else if bytes_eq name (codes "--accept") then accept_named w (unset w.accept (number_within 1 4294967295 value))
    else None

-- what the others say, where the words so far are in the grammar
abbrev pub then_serve : Option ServeWords → (ServeWords → Option ServeWords) → Option ServeWords
then_serve None others = None
then_serve (Some w) others = others w

-- one option after the other: a name, and then its value
abbrev pub serve_read : Option (List ℕ) → List (List ℕ) → ServeWords → Option ServeWords
serve_read None [] w = Some w
serve_read (Some name) [] w = None
serve_read None (name ∷ ws) w = serve_read (Some name) ws w
serve_read (Some name) (value ∷ ws) w = then_serve (with_serve w name value) (serve_read None ws)

abbrev pub serve_words : List (List ℕ) → ServeWords → Option ServeWords
serve_words ws w = serve_read None ws w

-- the same behind an option's name
abbrev pub serve_named : List ℕ → List (List ℕ) → ServeWords → Option ServeWords
serve_named name ws w = serve_read (Some name) ws w

-- the same where the words so far may be out of the grammar
abbrev pub serve_more : Option ServeWords → List (List ℕ) → Option ServeWords
serve_more w ws = then_serve w (serve_read None ws)
