-- Links in memory tell what they read and wrote, and the plain board keeps its sizes.
use Rattle.std.proofs.Common.{◌≡◌, ℕ, ◌+◌, ◌<◌, ◌≤◌, min, nat_lt, Bool, true, false, List, [], ◌∷◌, ◌++◌, Option, Some, None, refl, ap, ◌∙◌, sym, subst, arith}
use Rattle.std.proofs.lemmas.Bool.Decides.{nat_tests}
use Rattle.sw_data.specs.declared.ended.Ended.{Ended}
use Rattle.sw_causes.specs.Causes.{Rises}
use Rattle.sw_link.specs.declared.memory_link.MemoryLink.{MemoryLink}
use Rattle.sw_link.specs.declared.link.LinkWrite.{LinkWrite}
use Rattle.sw_link.specs.declared.link.LinkWrite.TheVariants as writes
use Rattle.sw_link.specs.Reads.{Read, GotPiece, ReadNotYet, ReadEnd, ReadFailed, CountsWrite}
use Rattle.sw_link.specs.Told.{Told, read_tells, write_tells}
use Rattle.sw_link.specs.Memory.{IsReadBy, IsWriteBy, memory_read, memory_write, told_of, faults_of}
use Rattle.sw_link.specs.MemoryTells.{memory_reads_tell, memory_reads_count, memory_writes_tell, memory_writes_count}
use Rattle.sw_port_board.specs.PlainBoard.{PlainWords, PlainGoes, plain_after}
use Rattle.sw_port_board.specs.declared.board.BoardStep.{BoardStep}
use Rattle.sw_port_board.specs.declared.board.BoardStep.TheVariants.{Marked, Found, Stopped, SawStop, Added, Read as ReadWord}
use Rattle.sw_conn_fits.specs.Shown.{pieces_by, written_by}
use Rattle.sw_record.specs.Terms.{Terms}
use Rattle.sw_reactor_fits.specs.Told.{ReadTold, WriteTold, DoTell}
use Rattle.sw_reactor_fits.specs.Ports.{AreSound}
use Rattle.sw_world_ports.specs.Ports.{Ports}
use Rattle.sw_world_fits.specs.Board.{BoardStands}
use Rattle.sw_world_reactor_fits.specs.Plain.{memory_tells, plain_ports}

told_same : (a b : Told) → Some a ≡ Some b → a ≡ b
told_same a b e = cc

-- what a read and a write add
read_pieces : (r : Read) (a : Told) → (read_tells r a).pieces ≡ pieces_by r a.pieces
read_pieces (GotPiece p) a = refl
read_pieces ReadNotYet a = refl
read_pieces ReadEnd a = refl
read_pieces ReadFailed a = refl

read_written : (r : Read) (a : Told) → (read_tells r a).written ≡ a.written
read_written (GotPiece p) a = refl
read_written ReadNotYet a = refl
read_written ReadEnd a = refl
read_written ReadFailed a = refl

write_pieces : (us : List ℕ) (w : LinkWrite) (a : Told) → (write_tells us w a).pieces ≡ a.pieces
write_pieces us (writes.Took n) a = refl
write_pieces us writes.NotYet a = refl
write_pieces us writes.Failed a = refl

write_written : (us : List ℕ) (w : LinkWrite) (a : Told) → (write_tells us w a).written ≡ written_by (Some w) us a.written
write_written us (writes.Took n) a = refl
write_written us writes.NotYet a = refl
write_written us writes.Failed a = refl

write_ends : (us : List ℕ) (w : LinkWrite) (a : Told) → (write_tells us w a).at_end ≡ a.at_end
write_ends us (writes.Took n) a = refl
write_ends us writes.NotYet a = refl
write_ends us writes.Failed a = refl

above : (n : ℕ) → 0 < n → nat_lt 0 n ≡ true
above n lt = grind (arith, nat_tests)

is_above : (n : ℕ) → nat_lt 0 n ≡ true → 0 < n
is_above n e = grind (arith, nat_tests)

rose : (old new : ℕ) → Rises old new → nat_lt 0 new ≡ true
rose old new h = above new (omega (arith, h))

stays : (old new : ℕ) → old ≤ new → nat_lt 0 old ≡ true → nat_lt 0 new ≡ true
stays old new h e = above new (let a : 0 < old = is_above old e in omega arith)

told_read : (l m : MemoryLink) (n : ℕ) (r : Read) → IsReadBy (λ starved. memory_read starved n l) r m → told_of m ≡ read_tells r (told_of l)
told_read l m n r z = told_same (told_of m) (read_tells r (told_of l)) (memory_reads_tell l m n r z)

told_write : (l m : MemoryLink) (us : List ℕ) (w : LinkWrite) → IsWriteBy (λ starved. memory_write starved us l) w m → told_of m ≡ write_tells us w (told_of l)
told_write l m us w z = told_same (told_of m) (write_tells us w (told_of l)) (memory_writes_tell l m us w z)

read_told : (l m : MemoryLink) (n : ℕ) (r : Read) → IsReadBy (λ starved. memory_read starved n l) r m → ReadTold memory_tells m r
read_told l m n (GotPiece p) z = tt
read_told l m n ReadNotYet z = tt
read_told l m n ReadEnd z = ap (λ (a : Told). a.at_end) (told_read l m n ReadEnd z)
read_told l m n ReadFailed z = rose (faults_of l) (faults_of m) (memory_reads_count l m n ReadFailed z).1

write_told : (l m : MemoryLink) (us : List ℕ) (w : LinkWrite) → IsWriteBy (λ starved. memory_write starved us l) w m → WriteTold memory_tells m w
write_told l m us (writes.Took n) z = tt
write_told l m us writes.NotYet z = tt
write_told l m us writes.Failed z = rose (faults_of l) (faults_of m) (memory_writes_count l m us writes.Failed z).1

written_up : (l m : MemoryLink) (w : LinkWrite) → CountsWrite (faults_of l) (faults_of m) w → faults_of l ≤ faults_of m
written_up l m (writes.Took n) h = h
written_up l m writes.NotYet h = h
written_up l m writes.Failed h = h.0

pub memory_does : {E : Type 0} (puts : E → MemoryLink → Ended → Bool → E → Type 0) → DoTell memory_tells (plain_ports puts)
memory_does puts =
    record {
      number = λ k. refl;
      read_pieces = λ l m n r z. ap (λ (a : Told). a.pieces) (told_read l m n r z) ∙ read_pieces r (told_of l);
      read_written = λ l m n r z. ap (λ (a : Told). a.written) (told_read l m n r z) ∙ read_written r (told_of l);
      read_told = read_told;
      write_pieces = λ l m us w z. ap (λ (a : Told). a.pieces) (told_write l m us w z) ∙ write_pieces us w (told_of l);
      write_written = λ l m us w z. ap (λ (a : Told). a.written) (told_write l m us w z) ∙ write_written us w (told_of l);
      write_told = write_told;
      end_stays = λ l m us w z e. ap (λ (a : Told). a.at_end) (told_write l m us w z) ∙ write_ends us w (told_of l) ∙ e;
      failed_stays = λ l m us w z e. stays (faults_of l) (faults_of m) (written_up l m w (memory_writes_count l m us w z)) e;
    }

-- the plain board keeps its sizes and whose turn it is
after_sizes : (b : PlainWords) (x : BoardStep) → (plain_after b x).sizes ≡ b.sizes
after_sizes b (Marked v) = refl
after_sizes b (Found k v) = refl
after_sizes b Stopped = refl
after_sizes b (SawStop v) = refl
after_sizes b (Added c) = refl
after_sizes b (ReadWord c k n) = refl

after_turn : (b : PlainWords) (x : BoardStep) → (plain_after b x).turn ≡ b.turn
after_turn b (Marked v) = refl
after_turn b (Found k v) = refl
after_turn b Stopped = refl
after_turn b (SawStop v) = refl
after_turn b (Added c) = refl
after_turn b (ReadWord c k n) = refl

goes_sizes : (xs : List BoardStep) (b d : PlainWords) → PlainGoes b xs d → d.sizes ≡ b.sizes
goes_sizes [] b d z = ap (λ (w : PlainWords). w.sizes) z
goes_sizes (x ∷ xs) b d z = goes_sizes xs (plain_after b x) d z.1 ∙ after_sizes b x

pub goes_turn : (xs : List BoardStep) (b d : PlainWords) → PlainGoes b xs d → d.turn ≡ b.turn
goes_turn [] b d z = ap (λ (w : PlainWords). w.turn) z
goes_turn (x ∷ xs) b d z = goes_turn xs (plain_after b x) d z.1 ∙ after_turn b x

pub plain_sound : {E : Type 0} (puts : E → MemoryLink → Ended → Bool → E → Type 0) (t : Terms) (o : PlainWords) (p : Ports) (e : E) → BoardStands t o p → ((l : MemoryLink) (ended : Ended) (f : E) → puts e l ended false f → ⊥) → AreSound t (plain_ports puts) o e
plain_sound puts t o p e st keeps = record { workers = st.workers; sizes = λ b d xs z. goes_sizes xs b d z; keeps = keeps }
