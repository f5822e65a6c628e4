-- The searches of the two framings, and what a cutter of a framing keeps.
use Rattle.std.proofs.Common.{◌≡◌, ℕ, ◌<◌, List, ◌++◌, length, take, refl, sym, subst}
use Rattle.sw_frame_eof.specs.Mark as marks
use Rattle.sw_frame_eof.specs.Scan.{HasScanned}
use Rattle.sw_frame_eof.specs.declared.scan.EofScan.{EofScan}
use Rattle.sw_frame_eof.proofs.Marks as mark_laws
use Rattle.sw_frame_eof.proofs.Scans.{HasScanned-start, HasScanned-take}
use Rattle.sw_frame_len.specs.Length as lengths
use Rattle.sw_frame_len.specs.Read.{HasRead}
use Rattle.sw_frame_len.specs.declared.rule.LengthRule.{LengthRule}
use Rattle.sw_frame_len.specs.declared.scan.LengthScan.{LengthScan}
use Rattle.sw_frame_len.proofs.Lengths as length_laws
use Rattle.sw_frame_len.proofs.ReadOnce.{HasRead-later}
use Rattle.sw_frame.specs.declared.framing.Framing.TheVariants.{Raw, Eof, Length}
use Rattle.sw_frame.specs.declared.kept.Kept.{Kept}
use Rattle.sw_frame.specs.Cut.{cut}
use Rattle.sw_frame.specs.Cutting.{next_of}
use Rattle.sw_frame.specs.Kept.{seen, IsKept, Pushed, by_mark, by_field, due_by, due_piece}
use Rattle.sw_frame.proofs.Keeping.{IsFresh, IsLasting, HasRest-pushed}

pub IsFresh-mark : (mark : List ℕ) (max : ℕ) → IsFresh (by_mark mark max)
IsFresh-mark mark max kept rest marks field = subst (λ (scan : EofScan). HasScanned mark (take max rest) scan) (sym marks) (HasScanned-start mark (take max rest))

pub IsLasting-mark : (mark : List ℕ) (max : ℕ) → 0 < length mark → IsLasting (by_mark mark max)
IsLasting-mark mark max some old new rest later marks field was = subst (λ (scan : EofScan). HasScanned mark (take max (rest ++ later)) scan) (sym marks) (HasScanned-take mark rest later max old.marks some was)

pub IsFresh-field : (rule : LengthRule) → IsFresh (by_field rule)
IsFresh-field rule kept rest marks field = subst (λ (scan : LengthScan). HasRead rule rest scan) (sym field) tt

pub IsLasting-field : (rule : LengthRule) → IsLasting (by_field rule)
IsLasting-field rule old new rest later marks field was = subst (λ (scan : LengthScan). HasRead rule (rest ++ later) scan) (sym field) (HasRead-later rule rest later old.field was)

-- a piece is fed
pub IsKept-mark : (mark : List ℕ) (max : ℕ) (old new : Kept) (piece : List ℕ) → Pushed old new piece → IsKept (Eof mark max) old → IsKept (Eof mark max) new
IsKept-mark mark max old new piece pushed kept =
    record { fit = kept.fit; at = HasRest-pushed (marks.first_in mark max) (mark_laws.IsSteady-first_in mark max kept.fit.0) (by_mark mark max) (IsLasting-mark mark max kept.fit.0) old new piece pushed kept.at }

pub IsKept-length : (rule : LengthRule) (old new : Kept) (piece : List ℕ) → Pushed old new piece → IsKept (Length rule) old → IsKept (Length rule) new
IsKept-length rule old new piece pushed kept =
    record { fit = kept.fit; at = HasRest-pushed (lengths.first_in rule) (length_laws.IsSteady-first_in rule) (by_field rule) (IsLasting-field rule) old new piece pushed kept.at }

-- what is due, by the framing
pub next_of-raw : (kept : Kept) → next_of (seen Raw kept) ≡ due_piece kept
unfolding cut
next_of-raw kept = refl

pub next_of-mark : (mark : List ℕ) (max : ℕ) (kept : Kept) → next_of (seen (Eof mark max) kept) ≡ due_by (marks.first_in mark max) kept
unfolding cut
next_of-mark mark max kept = refl

pub next_of-length : (rule : LengthRule) (kept : Kept) → next_of (seen (Length rule) kept) ≡ due_by (lengths.first_in rule) kept
unfolding cut
next_of-length rule kept = refl
