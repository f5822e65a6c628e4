-- A link in memory tells what its calls gave and took.
use Rattle.std.specs.Prelude.{◌≡◌, ℕ, ◌+◌, ◌≤◌, min, Bool, true, false, nat_le, if◌then◌else◌, ◌==◌, List, [], ◌∷◌, ◌++◌, length, Option, Some, None, refl}
use Rattle.std.proofs.Common.{ap, arith, append-nil}
use Rattle.sw_causes.specs.Causes.{most}
use Rattle.sw_link.specs.declared.link.LinkWrite.{LinkWrite}
use Rattle.sw_link.specs.declared.link.LinkWrite.TheVariants as writes
use Rattle.sw_link.specs.declared.memory_link.MemoryLink.{MemoryLink}
use Rattle.sw_link.specs.Course.{first_need}
use Rattle.sw_link.specs.Listed.{listed}
use Rattle.sw_link.specs.Reads.{Read, ReadEnd, ReadFailed, CountsRead, CountsWrite}
use Rattle.sw_link.specs.Told.{Told, told_by, read_tells, write_tells}
use Rattle.sw_link.specs.Memory.{ReadBy, WriteBy, IsReadBy, IsWriteBy, told_of, faults_of, faulty, gave, not_yet, end_by, read_by, next_read, counted_read, memory_read, took, room_for, write_room, next_write, counted_write, memory_write}

-- the link behind a read tells what it gave, and its count fits
record Fits (l : MemoryLink) (b : ReadBy) : Type 0 where
  tells : told_of b.link ≡ read_tells b.read (told_of l)
  counts : CountsRead (faults_of l) (faults_of b.link) b.read

same : (n : ℕ) → n ≤ n
same n = omega arith

rose : (n : ℕ) → (min n most ≤ min (min (n + 1) most) most) × (min (min n most + 1) most ≤ min (min (n + 1) most) most)
rose n = (omega arith, omega arith)

gave_fits : (starved : Bool) (room : ℕ) (l : MemoryLink) → Fits l (gave starved room l)
gave_fits true room l = record { tells = refl; counts = rose l.faults }
gave_fits false room l = record { tells = refl; counts = same (faults_of l) }

end_fits : (l : MemoryLink) (end : Option ℕ) → Fits l (end_by l end)
end_fits l None = record { tells = refl; counts = same (faults_of l) }
end_fits l (Some need) =
    pick (nat_le need (length l.written))
  where
    pick : (b : Bool) → Fits l (if b then record { read = ReadEnd; link = record l { at_end = true } } else not_yet l)
    pick true = record { tells = refl; counts = same (faults_of l) }
    pick false = record { tells = refl; counts = same (faults_of l) }

next_fits : (starved : Bool) (room : ℕ) (l : MemoryLink) (need : Option ℕ) → Fits l (read_by starved room l need)
next_fits starved room l None = end_fits l l.end_at
next_fits starved room l (Some need) =
    pick (nat_le need (length l.written))
  where
    pick : (b : Bool) → Fits l (if b then gave starved room l else not_yet l)
    pick true = gave_fits starved room l
    pick false = record { tells = refl; counts = same (faults_of l) }

ended_told : (t : Told) → t.at_end ≡ true → t ≡ record t { at_end = true }
ended_told t e = rw (← e) refl

counted_fits : (l : MemoryLink) (b : ReadBy) → Fits (counted_read l) b → Fits l b
counted_fits l b f = record { tells = f.tells; counts = f.counts }

read_fits : (starved : Bool) (room : ℕ) (l : MemoryLink) → Fits l (memory_read starved room l)
read_fits starved room l =
    pick l.at_end refl
  where
    by_list : (b : Bool) → Fits l (if b then record { read = ReadFailed; link = faulty (counted_read l) } else next_read starved room (counted_read l))
    by_list true = record { tells = refl; counts = rose l.faults }
    by_list false = counted_fits l (next_read starved room (counted_read l)) (next_fits starved room (counted_read l) (first_need l.course.left))

    pick : (b : Bool) → l.at_end ≡ b → Fits l (if b then record { read = ReadEnd; link = counted_read l } else (if listed l.reads l.failing_reads then record { read = ReadFailed; link = faulty (counted_read l) } else next_read starved room (counted_read l)))
    pick true e = record { tells = ended_told (told_of l) e; counts = same (faults_of l) }
    pick false e = by_list (listed l.reads l.failing_reads)

-- a read tells the piece that it gave, or its end
pub memory_reads_tell : (l k : MemoryLink) (n : ℕ) (r : Read) → IsReadBy (λ starved. memory_read starved n l) r k → Some (told_of k) ≡ told_by (read_tells r) (Some (told_of l))
memory_reads_tell l k n r (starved, (e, f)) = rw (e, f) (ap Some (read_fits starved n l).tells)

-- a read fails only where its count rose
pub memory_reads_count : (l k : MemoryLink) (n : ℕ) (r : Read) → IsReadBy (λ starved. memory_read starved n l) r k → CountsRead (faults_of l) (faults_of k) r
memory_reads_count l k n r (starved, (e, f)) = rw (e, f) (read_fits starved n l).counts

-- the link behind a write tells what it took, and its count fits
record Suits (l : MemoryLink) (piece : List ℕ) (b : WriteBy) : Type 0 where
  tells : told_of b.link ≡ write_tells piece b.write (told_of l)
  counts : CountsWrite (faults_of l) (faults_of b.link) b.write

took_suits : (starved : Bool) (n : ℕ) (piece : List ℕ) (l : MemoryLink) → Suits l piece (took starved n piece l)
took_suits true n piece l = record { tells = refl; counts = rose l.faults }
took_suits false n piece l = record { tells = refl; counts = same (faults_of l) }

room_suits : (starved : Bool) (n : ℕ) (piece : List ℕ) (l : MemoryLink) → Suits l piece (write_room starved n piece l)
room_suits starved n piece l =
    pick (n == 0)
  where
    pick : (b : Bool) → Suits l piece (if b then record { write = writes.NotYet; link = l } else took starved n piece l)
    pick true = record { tells = refl; counts = same (faults_of l) }
    pick false = took_suits starved n piece l

nothing_told : (t : Told) → t ≡ record t { written = t.written ++ [] }
nothing_told t = rw append-nil refl

next_suits : (starved : Bool) (piece : List ℕ) (l : MemoryLink) → Suits l piece (next_write starved piece l)
next_suits starved [] l = record { tells = nothing_told (told_of l); counts = same (faults_of l) }
next_suits starved (b ∷ bs) l = room_suits starved (room_for l (length (b ∷ bs))) (b ∷ bs) l

write_suits : (starved : Bool) (piece : List ℕ) (l : MemoryLink) → Suits l piece (memory_write starved piece l)
write_suits starved piece l =
    pick (listed l.writes l.failing_writes)
  where
    behind_count : Suits (counted_write l) piece (next_write starved piece (counted_write l)) → Suits l piece (next_write starved piece (counted_write l))
    behind_count s = record { tells = s.tells; counts = s.counts }

    pick : (b : Bool) → Suits l piece (if b then record { write = writes.Failed; link = faulty (counted_write l) } else next_write starved piece (counted_write l))
    pick true = record { tells = refl; counts = rose l.faults }
    pick false = behind_count (next_suits starved piece (counted_write l))

-- a write tells the bytes that it took
pub memory_writes_tell : (l k : MemoryLink) (piece : List ℕ) (w : LinkWrite) → IsWriteBy (λ starved. memory_write starved piece l) w k → Some (told_of k) ≡ told_by (write_tells piece w) (Some (told_of l))
memory_writes_tell l k piece w (starved, (e, f)) = rw (e, f) (ap Some (write_suits starved piece l).tells)

-- a write fails only where its count rose
pub memory_writes_count : (l k : MemoryLink) (piece : List ℕ) (w : LinkWrite) → IsWriteBy (λ starved. memory_write starved piece l) w k → CountsWrite (faults_of l) (faults_of k) w
memory_writes_count l k piece w (starved, (e, f)) = rw (e, f) (write_suits starved piece l).counts
