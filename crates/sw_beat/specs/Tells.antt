-- A Beat tells what its link tells, and its own end.
use Rattle.std.specs.Prelude.{◌≡◌, ℕ, ◌≤◌, Bool, true, false, List, Option, Some, None, if◌then◌else◌, refl}
use Rattle.std.proofs.Common.{ap, ◌∙◌, arith}
use Rattle.sw_link.specs.Reads.{Read, GotPiece, ReadNotYet, ReadEnd, ReadFailed, CountsRead, CountsWrite}
use Rattle.sw_link.specs.Told.{Told, told_by, read_tells, write_tells}
use Rattle.sw_link.specs.declared.link.LinkWrite.{LinkWrite}
use Rattle.sw_link.specs.declared.link.LinkWrite.TheVariants as writes
use Rattle.sw_beat.specs.declared.beat.Beat.{Beat}
use Rattle.sw_beat.specs.Idle.{FollowsRead, ReadsBy, ReadsBeat, WritesBeat, with_idled, waited_by, too_long, told_of}

-- ---- the end, beside all else that is told

ended_stays : (p : ℕ × ℕ) (t : Option Told) → told_by (with_idled (Some p)) t ≡ told_by (read_tells ReadEnd) (told_by (with_idled (Some p)) t)
ended_stays p None = refl
ended_stays p (Some t) = refl

piece_beside : (o : Option (ℕ × ℕ)) (p : List ℕ) (t : Option Told) → told_by (with_idled o) (told_by (read_tells (GotPiece p)) t) ≡ told_by (read_tells (GotPiece p)) (told_by (with_idled o) t)
piece_beside o p None = refl
piece_beside o p (Some t) = refl

nothing_beside : (o : Option (ℕ × ℕ)) (t : Option Told) → told_by (with_idled o) (told_by (read_tells ReadNotYet) t) ≡ told_by (read_tells ReadNotYet) (told_by (with_idled o) t)
nothing_beside o None = refl
nothing_beside o (Some t) = refl

failed_beside : (o : Option (ℕ × ℕ)) (t : Option Told) → told_by (with_idled o) (told_by (read_tells ReadFailed) t) ≡ told_by (read_tells ReadFailed) (told_by (with_idled o) t)
failed_beside o None = refl
failed_beside o (Some t) = refl

end_beside : (t : Option Told) → told_by (with_idled None) (told_by (read_tells ReadEnd) t) ≡ told_by (read_tells ReadEnd) (told_by (with_idled None) t)
end_beside None = refl
end_beside (Some t) = refl

idled_now : (o : Option (ℕ × ℕ)) (p : ℕ × ℕ) (t : Option Told) → told_by (with_idled (Some p)) (told_by (read_tells ReadNotYet) t) ≡ told_by (read_tells ReadEnd) (told_by (with_idled o) t)
idled_now o p None = refl
idled_now o p (Some t) = refl

write_beside : (o : Option (ℕ × ℕ)) (piece : List ℕ) (w : LinkWrite) (t : Option Told) → told_by (with_idled o) (told_by (write_tells piece w) t) ≡ told_by (write_tells piece w) (told_by (with_idled o) t)
write_beside o piece w None = refl
write_beside o piece (writes.Took n) (Some t) = refl
write_beside o piece writes.NotYet (Some t) = refl
write_beside o piece writes.Failed (Some t) = refl

-- ---- counts

at_least : (n : ℕ) → n ≤ n
at_least n = omega arith

waited_count : (old new : ℕ) (r : Read) (long : Bool) → old ≤ new → r ≡ (if long then ReadEnd else ReadNotYet) → CountsRead old new r
waited_count old new r true le is = rw is le
waited_count old new r false le is = rw is le

module _ {L C : Type 0} where
  waited_tell : (told : L → Option Told) (b : Beat L C) (link : L) (clock : C) (now : ℕ) (r : Read) (k : Beat L C) (long : Bool)
      → told link ≡ told_by (read_tells ReadNotYet) (told b.link) → r ≡ (if long then ReadEnd else ReadNotYet) → k ≡ waited_by long (record b { link = link }) clock now
      → told_of told k ≡ told_by (read_tells r) (told_of told b)
  waited_tell told b link clock now r k true e is same = rw (is, same, e) (idled_now b.idled (b.last, now) (told b.link))
  waited_tell told b link clock now r k false e is same = rw (is, same, e) (nothing_beside b.idled (told b.link))

  follows_tell : (told : L → Option Told) (ticks : C → ℕ → C → Type 0) (b : Beat L C) (link : L) (inner r : Read) (k : Beat L C)
      → b.idled ≡ None → told link ≡ told_by (read_tells inner) (told b.link) → FollowsRead ticks b link inner r k → told_of told k ≡ told_by (read_tells r) (told_of told b)
  follows_tell told ticks b link (GotPiece p) r k none e (is, (now, ticked, same)) = rw (is, same, e) (piece_beside b.idled p (told b.link))
  follows_tell told ticks b link ReadNotYet r k none e (now, ticked, is, same) = waited_tell told b link k.clock now r k (too_long b now) e is same
  follows_tell told ticks b link ReadEnd r k none e (is, same) = rw (is, same, e, none) (end_beside (told b.link))
  follows_tell told ticks b link ReadFailed r k none e (is, same) = rw (is, same, e) (failed_beside b.idled (told b.link))

  -- what a read of a Beat adds to what it tells
  pub beat_reads_tell : (told : L → Option Told) (gives : L → ℕ → Read → L → Type 0) (ticks : C → ℕ → C → Type 0)
      → ((l k : L) (n : ℕ) (r : Read) → gives l n r k → told k ≡ told_by (read_tells r) (told l))
      → (b k : Beat L C) (n : ℕ) (r : Read) → ReadsBeat gives ticks b n r k → told_of told k ≡ told_by (read_tells r) (told_of told b)
  beat_reads_tell told gives ticks law b k n r =
      pick b.idled refl
    where
      pick : (o : Option (ℕ × ℕ)) → b.idled ≡ o → ReadsBy gives ticks o b n r k → told_of told k ≡ told_by (read_tells r) (told_of told b)
      pick (Some p) e (is, same) = rw (is, same, e) (ended_stays p (told b.link))
      pick None e (inner, given, follows) = follows_tell told ticks b k.link inner r k e (law b.link k.link n inner given) follows

  pub beat_writes_tell : (told : L → Option Told) (gives : L → List ℕ → LinkWrite → L → Type 0)
      → ((l k : L) (piece : List ℕ) (w : LinkWrite) → gives l piece w k → told k ≡ told_by (write_tells piece w) (told l))
      → (b k : Beat L C) (piece : List ℕ) (w : LinkWrite) → WritesBeat gives b piece w k → told_of told k ≡ told_by (write_tells piece w) (told_of told b)
  beat_writes_tell told gives law b k piece w (given, same) =
      ap (λ (o : Option (ℕ × ℕ)). told_by (with_idled o) (told k.link)) (ap (λ (x : Beat L C). x.idled) same)
      ∙ ap (told_by (with_idled b.idled)) (law b.link k.link piece w given)
      ∙ write_beside b.idled piece w (told b.link)

  follows_count : (faults : L → ℕ) (ticks : C → ℕ → C → Type 0) (b : Beat L C) (link : L) (inner r : Read) (k : Beat L C) (new : ℕ)
      → CountsRead (faults b.link) new inner → FollowsRead ticks b link inner r k → CountsRead (faults b.link) new r
  follows_count faults ticks b link (GotPiece p) r k new c (is, more) = rw is c
  follows_count faults ticks b link ReadNotYet r k new c (now, ticked, is, same) = waited_count (faults b.link) new r (too_long b now) c is
  follows_count faults ticks b link ReadEnd r k new c (is, same) = rw is c
  follows_count faults ticks b link ReadFailed r k new c (is, same) = rw is c

  pub beat_reads_count : (faults : L → ℕ) (gives : L → ℕ → Read → L → Type 0) (ticks : C → ℕ → C → Type 0)
      → ((l k : L) (n : ℕ) (r : Read) → gives l n r k → CountsRead (faults l) (faults k) r)
      → (b k : Beat L C) (n : ℕ) (r : Read) → ReadsBeat gives ticks b n r k → CountsRead (faults b.link) (faults k.link) r
  beat_reads_count faults gives ticks law b k n r =
      pick b.idled
    where
      pick : (o : Option (ℕ × ℕ)) → ReadsBy gives ticks o b n r k → CountsRead (faults b.link) (faults k.link) r
      pick (Some p) (is, same) = rw (is, same) (at_least (faults b.link))
      pick None (inner, given, follows) = follows_count faults ticks b k.link inner r k (faults k.link) (law b.link k.link n inner given) follows

  pub beat_writes_count : (faults : L → ℕ) (gives : L → List ℕ → LinkWrite → L → Type 0)
      → ((l k : L) (piece : List ℕ) (w : LinkWrite) → gives l piece w k → CountsWrite (faults l) (faults k) w)
      → (b k : Beat L C) (piece : List ℕ) (w : LinkWrite) → WritesBeat gives b piece w k → CountsWrite (faults b.link) (faults k.link) w
  beat_writes_count faults gives law b k piece w (given, same) = law b.link k.link piece w given
