-- A rule: `on EVENT PREFIX : ACT ; ACT ..`.
use Rattle.std.specs.Prelude.{ℕ, zero, suc, List, [], ◌∷◌, codes, Bool, true, false, Option, Some, None, option_map, nat_eq, if◌then◌else◌}
use Rattle.std.specs.Str.{bytes_eq}
use Rattle.sw_text.specs.Then.{◌>>=◌}
use Rattle.sw_text.specs.Hex.{bytes_of}
use Rattle.sw_text.specs.Parts.{part_at}
use Rattle.sw_script.specs.declared.moves.Move.{Move}
use Rattle.sw_script.specs.declared.rule.On.{On}
use Rattle.sw_script.specs.declared.rule.On.TheVariants.{Connect, Packet, Closed, Finish, Task}
use Rattle.sw_script.specs.declared.rule.Rule.{Rule}
use Rattle.sw_script.specs.Moves.{move_of}
use Rattle.sw_script.specs.Parts.{first_act}

abbrev pub on_of : List ℕ → Option On
on_of word = if bytes_eq word (codes "connect") then Some Connect
    else if bytes_eq word (codes "packet") then Some Packet
    else if bytes_eq word (codes "closed") then Some Closed
    else if bytes_eq word (codes "finish") then Some Finish
    else if bytes_eq word (codes "task") then Some Task
    else None

-- events of a session, on which `self` may stand
abbrev pub has_session : On → Bool
has_session Connect = true
has_session Packet = true
has_session Closed = true
has_session Finish = false
has_session Task = false

-- events with bytes, which may have a prefix
abbrev pub has_bytes : On → Bool
has_bytes Connect = false
has_bytes Packet = true
has_bytes Closed = false
has_bytes Finish = true
has_bytes Task = true

-- an x and pairs of digits
abbrev pub digits_of : List ℕ → Option (List ℕ)
digits_of [] = None
digits_of (b ∷ bs) = if nat_eq b 120 then bytes_of bs else None

-- `-` for any event, or the bytes with which the event's begin
abbrev pub prefix_of : On → List ℕ → Option (List ℕ)
prefix_of on text = if bytes_eq text (codes "-") then Some [] else if has_bytes on then digits_of text else None

abbrev pub acts_behind : Move → Option (List Move) → Option (List Move)
acts_behind m ms = option_map (λ (xs : List Move). m ∷ xs) ms

-- an act, and those that stand behind it where others do
abbrev pub acts_cut : (List ℕ → Option (List Move)) → Bool → Option (List ℕ × Option (List ℕ)) → Option (List Move)
acts_cut others own None = None
acts_cut others own (Some (act, None)) = option_map (λ m. m ∷ []) (move_of own act)
acts_cut others own (Some (act, Some rest)) = do
  m ← move_of own act
  acts_behind m (others rest)

-- at most so many acts, with ` ; ` between them
unfoldable pub acts_of : ℕ → Bool → List ℕ → Option (List Move)
acts_of zero own text = None
acts_of (suc n) own text = acts_cut (acts_of n own) own (first_act text)

-- the kind of events, the text of the prefix, and that of the acts
unfoldable pub head_of : List ℕ → Option (On × List ℕ × List ℕ)
head_of line = do
  p ← part_at 32 line
  q ← part_at 32 p.1
  r ← part_at 32 q.1
  s ← part_at 32 r.1
  on ← (if bytes_eq p.0 (codes "on") then (if bytes_eq s.0 (codes ":") then on_of q.0 else None) else None)
  Some (on, r.0, s.1)

unfoldable pub ruled : On → List ℕ → List ℕ → Option (On × Rule)
ruled on begins text = do
  prefix ← prefix_of on begins
  moves ← acts_of 64 (has_session on) text
  Some (on, record { prefix = prefix; moves = moves })

abbrev pub ruled_by : Option (On × List ℕ × List ℕ) → Option (On × Rule)
ruled_by None = None
ruled_by (Some h) = ruled h.0 h.1 h.2

-- a kind of events and the rule for them, with at most 64 acts
abbrev pub rule_of : List ℕ → Option (On × Rule)
rule_of line = ruled_by (head_of line)
