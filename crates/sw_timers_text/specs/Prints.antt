-- What is printed for lines, by what timers answer.
use Rattle.std.specs.Prelude.{◌≡◌, ℕ, zero, suc, ◌<◌, ◌⊎◌, List, [], ◌∷◌, ◌++◌, codes, Some, None, Result, Ok, Err, Bool, true, false, is_some, String, string_bytes}
use Rattle.std.specs.Global.{Global}
use Rattle.std.specs.Fmt.{decimal}
use Rattle.std.specs.FinMap as map
use Rattle.sw_text.specs.Parts.{lines_of}
use Rattle.sw_timers.specs.declared.fault.TimerFault.{TimerFault}
use Rattle.sw_timers.specs.declared.fault.TimerFault.TheVariants.{Zero, Late, Full, Spent, OutOfMemory}
use Rattle.sw_timers.specs.Due.{Agenda, nothing_waits, IsAdded, IsDue, NoneIsDue}
use Rattle.sw_timers_text.specs.declared.line.Line.{Line}
use Rattle.sw_timers_text.specs.declared.line.Line.TheVariants.{After, Tick, Clear, Due}
use Rattle.sw_timers_text.specs.Grammar.{lines_from}

-- the line of an entry that was added
abbrev pub id_text : ℕ → List ℕ
id_text id = codes "timer " ++ decimal id ++ codes "\n"

-- the line of an entry that was refused; want of memory is never shown
abbrev pub fault_text : TimerFault → List ℕ
fault_text Zero = codes "zero\n"
fault_text Late = codes "late\n"
fault_text Full = codes "full\n"
fault_text Spent = codes "spent\n"
fault_text OutOfMemory = codes "memory\n"

-- whether an entry was there
abbrev pub cleared_text : Bool → List ℕ
cleared_text true = codes "yes\n"
cleared_text false = codes "no\n"

-- the line of an entry that fell due: its id and its moment
abbrev pub fire_text : ℕ × ℕ → List ℕ
fire_text r = codes "fire " ++ decimal r.0 ++ (codes " " ++ decimal r.1) ++ codes "\n"

-- what is printed where an entry was to be added; want of memory ends all
abbrev pub Adds : Result ℕ TimerFault → List ℕ → Type 0
Adds (Ok id) text = text ≡ id_text id
Adds (Err Zero) text = text ≡ fault_text Zero
Adds (Err Late) text = text ≡ fault_text Late
Adds (Err Full) text = text ≡ fault_text Full
Adds (Err Spent) text = text ≡ fault_text Spent
Adds (Err OutOfMemory) text = ⊥

-- so many entries fall due one after the other
unfoldable pub FiresJust : ℕ → ℕ → Agenda → List ℕ → Agenda → Type 0
FiresJust now zero s text t = (text ≡ []) × (t ≡ s)
FiresJust now (suc n) s text t = (r : ℕ × ℕ) × (u : Agenda) × (rest : List ℕ) × IsDue now s u (Some r) × FiresJust now n u rest t × (text ≡ fire_text r ++ rest)

-- as many entries fall due as there are, but at most so many
abbrev pub Fires : ℕ → ℕ → Agenda → List ℕ → Agenda → Type 0
Fires now most s text t = FiresJust now most s text t ⊎ ((n : ℕ) × (n < most) × FiresJust now n s text t × NoneIsDue now t.waiting)

-- what a line prints, and the entries that it leaves
abbrev pub Plays : Agenda → Line → List ℕ → Agenda → Type 0
Plays s (After now delay) text t = (r : Result ℕ TimerFault) × IsAdded s now delay None t r × Adds r text
Plays s (Tick now every) text t = (r : Result ℕ TimerFault) × IsAdded s now every (Some every) t r × Adds r text
Plays s (Clear id) text t = (text ≡ cleared_text (is_some (map.get s.waiting id))) × (t ≡ record s { waiting = map.remove s.waiting id })
Plays s (Due now most) text t = Fires now most s text t

-- what lines print one after the other, from some entries on
unfoldable pub PlaysAll : Agenda → List Line → List ℕ → Agenda → Type 0
PlaysAll s [] text t = (text ≡ []) × (t ≡ s)
PlaysAll s (e ∷ es) text t = (u : Agenda) × (front : List ℕ) × (rest : List ℕ) × Plays s e front u × PlaysAll u es rest t × (text ≡ front ++ rest)

-- what lines print, from no entry on
abbrev pub PrintsAll : List Line → List ℕ → Type 0
PrintsAll es text = (t : Agenda) × PlaysAll nothing_waits es text t

abbrev pub IsTimedBy : Result (List Line) ℕ → Result (List ℕ) ℕ → Type 0
IsTimedBy (Ok es) (Ok text) = PrintsAll es text
IsTimedBy (Ok es) (Err n) = ⊥
IsTimedBy (Err m) (Ok text) = ⊥
IsTimedBy (Err m) (Err n) = n ≡ m

-- what a text comes to: what its lines print, or the number of the first one that isn't in the grammar
abbrev pub IsTimedText : List ℕ → Result (List ℕ) ℕ → Type 0
IsTimedText text r = IsTimedBy (lines_from 1 (lines_of text)) r

abbrev pub bytes_in : Result (String Global) ℕ → Result (List ℕ) ℕ
bytes_in (Ok s) = Ok (string_bytes s)
bytes_in (Err n) = Err n

abbrev pub IsTimed : List ℕ → Result (String Global) ℕ → Type 0
IsTimed text r = IsTimedText text (bytes_in r)

-- such a text was put behind what stood there
abbrev pub Writes : (List ℕ → Type 0) → List ℕ → List ℕ → Type 0
Writes P old new = (text : List ℕ) × P text × (new ≡ old ++ text)
