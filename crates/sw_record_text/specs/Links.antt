-- The lines of a link.
use Rattle.std.specs.Prelude.{ℕ, ◌+◌, List, [], ◌∷◌, ◌++◌, codes, Option, Some, None}
use Rattle.std.specs.Fmt.{decimal}
use Rattle.std.specs.List.{flat_map}
use Rattle.sw_text.specs.Hex.{bytes_text}
use Rattle.sw_text.specs.Addresses.{ip_text}
use Rattle.sw_data.specs.declared.ended.Ended.{Ended}
use Rattle.sw_record.specs.declared.record.LinkState.{LinkState}
use Rattle.sw_record.specs.declared.record.LinkState.TheVariants.{Waiting, Live, Over}
use Rattle.sw_record.specs.declared.record.LinkRecord.{LinkRecord}
use Rattle.sw_record_text.specs.Causes.{label_text, cause_text}

-- the texts of a list's items in order, each by its number
unfoldable pub each_text : {A : Type 0} → (ℕ → A → List ℕ) → ℕ → List A → List ℕ
each_text text n [] = []
each_text text n (x ∷ xs) = text n x ++ each_text text (n + 1) xs

-- a link's session and descriptor, with dashes where it got none
abbrev pub place_text : Option ℕ → ℕ → List ℕ
place_text None fd = codes "session - fd -"
place_text (Some session) fd = codes "session " ++ decimal session ++ codes " fd " ++ decimal fd

abbrev pub counts_text : Ended → List ℕ
counts_text e = codes " uid " ++ decimal e.uid ++ codes " packets " ++ decimal e.dispatched ++ codes " split " ++ decimal e.split ++ codes " "

-- what is known of an accepted link, up to how it ended
abbrev pub known_text : Ended → List ℕ
known_text e = place_text e.session e.fd ++ codes " ip " ++ ip_text e.ip ++ counts_text e

-- a link's first line up to how it ended
abbrev pub start_text : ℕ → Ended → List ℕ
start_text at e = label_text (codes "link ") at ++ codes " " ++ known_text e

-- that line of a link that lives
abbrev pub open_line : ℕ → Ended → List ℕ
open_line at e = start_text at e ++ codes "open\n"

-- that line of a link that ended
abbrev pub over_line : ℕ → Ended → List ℕ
over_line at e = start_text at e ++ cause_text e.cause ++ codes "\n"

abbrev pub piece_text : List ℕ → List ℕ
piece_text p = codes " " ++ bytes_text p

-- the pieces that were read, or a dash where there is none
abbrev pub pieces_text : List (List ℕ) → List ℕ
pieces_text [] = codes " -"
pieces_text (p ∷ ps) = flat_map piece_text (p ∷ ps)

abbrev pub in_line : ℕ → List (List ℕ) → List ℕ
in_line at pieces = label_text (codes "in ") at ++ pieces_text pieces ++ codes "\n"

abbrev pub out_line : ℕ → List ℕ → List ℕ
out_line at written = label_text (codes "out ") at ++ codes " " ++ bytes_text written ++ codes "\n"

abbrev pub bytes_lines : ℕ → LinkRecord → List ℕ
bytes_lines at l = in_line at l.pieces ++ out_line at l.written

-- the lines of a link: one alone where it wasn't accepted
abbrev pub state_text : ℕ → LinkRecord → LinkState → List ℕ
state_text at l Waiting = label_text (codes "link ") at ++ codes " waiting\n"
state_text at l (Live e) = open_line at e ++ bytes_lines at l
state_text at l (Over e) = over_line at e ++ bytes_lines at l

abbrev pub link_text : ℕ → LinkRecord → List ℕ
link_text at l = state_text at l l.state
