-- Why a link ended, as text.
use Rattle.std.specs.Prelude.{ℕ, List, ◌++◌, codes}
use Rattle.std.specs.Fmt.{decimal}
use Rattle.sw_data.specs.declared.ended.Cause.{Cause}
use Rattle.sw_data.specs.declared.ended.Cause.TheVariants.{PeerEnd, ServerClose, Reset, ReadFault, WriteFault, TooLong, BadLength, Overflow, Stop, NoSlot, NumbersSpent, NoMemory}

-- a word in front of a number
abbrev pub label_text : List ℕ → ℕ → List ℕ
label_text word n = word ++ decimal n

-- a cause's name, with its number where it has one
abbrev pub cause_text : Cause → List ℕ
cause_text PeerEnd = codes "PeerEnd"
cause_text ServerClose = codes "ServerClose"
cause_text Reset = codes "Reset"
cause_text ReadFault = codes "ReadFault"
cause_text WriteFault = codes "WriteFault"
cause_text (TooLong n) = codes "TooLong " ++ decimal n
cause_text (BadLength n) = codes "BadLength " ++ decimal n
cause_text (Overflow n) = codes "Overflow " ++ decimal n
cause_text Stop = codes "Stop"
cause_text NoSlot = codes "NoSlot"
cause_text NumbersSpent = codes "NumbersSpent"
cause_text NoMemory = codes "NoMemory"
