-- Sources and sinks in memory, by their lists of failing calls.
use Rattle.std.specs.Prelude.{ℕ, List, drop, Bool}
use Rattle.std.specs.List.{Contains}
use Rattle.sw_causes.specs.declared.memory_source.MemorySource.{MemorySource}
use Rattle.sw_causes.specs.declared.memory_sink.MemorySink.{MemorySink}

-- the bytes that a source in memory has left, the count of its faults, and whether it ended
abbrev pub bytes_left : MemorySource → List ℕ
bytes_left s = drop s.at s.bytes.items

abbrev pub source_faults : MemorySource → ℕ
source_faults s = s.faults

abbrev pub source_ended : MemorySource → Bool
source_ended s = s.ended

-- the numbers, from 0, of its reads that fail, and how many reads were made
abbrev pub failing_reads : MemorySource → List ℕ
failing_reads s = s.failing.items

abbrev pub reads_made : MemorySource → ℕ
reads_made s = s.calls

-- the number of the next read stands in the list of those that fail
abbrev pub FailsNextRead : MemorySource → Type 0
FailsNextRead s = Contains (failing_reads s) (reads_made s)

-- the bytes that a sink in memory took, and the count of its faults
abbrev pub bytes_taken : MemorySink → List ℕ
bytes_taken s = s.bytes.items

abbrev pub sink_faults : MemorySink → ℕ
sink_faults s = s.faults

-- the numbers, from 0, of its writes that fail, and how many writes were made
abbrev pub failing_writes : MemorySink → List ℕ
failing_writes s = s.failing.items

abbrev pub writes_made : MemorySink → ℕ
writes_made s = s.calls

-- a write found no memory
abbrev pub sink_lost : MemorySink → Bool
sink_lost s = s.lost

-- the number of the next write stands in the list of those that fail
abbrev pub FailsNextWrite : MemorySink → Type 0
FailsNextWrite s = Contains (failing_writes s) (writes_made s)
