-- Why a Beat's read answers End.
use Rattle.std.proofs.Common.{◌≡◌, ℕ, inl, inr, Bool, true, false, Option, Some, None, refl, ap, sym, subst, ◌∙◌, true≢false}
use Rattle.std.specs.Prelude.{IsSome, if◌then◌else◌}
use Rattle.sw_link.specs.Reads.{Read, GotPiece, ReadNotYet, ReadEnd, ReadFailed}
use Rattle.sw_beat.specs.declared.beat.Beat.{Beat}
use Rattle.sw_beat.specs.Idle.{FollowsRead, ReadsBy, waited_by, too_long, EndHasCause, EndsHaveCauses}

abbrev is_end : Read → Bool
is_end (GotPiece p) = false
is_end ReadNotYet = false
is_end ReadEnd = true
is_end ReadFailed = false

no_end : (r s : Read) → r ≡ s → is_end s ≡ false → r ≡ ReadEnd → ⊥
no_end r s e f is = true≢false (sym (ap is_end is) ∙ ap is_end e ∙ f)

module _ {L C : Type 0} where
  not_idled : (b k : Beat L C) → b.idled ≡ None → k.idled ≡ b.idled → IsSome k.idled → ⊥
  not_idled b k none same h = true≢false (sym (subst IsSome (same ∙ none) h))

  waited_end : (gives : L → ℕ → Read → L → Type 0) (b : Beat L C) (link : L) (clock : C) (now room : ℕ) (r : Read) (k : Beat L C) (long : Bool)
      → b.idled ≡ None → r ≡ (if long then ReadEnd else ReadNotYet) → k ≡ waited_by long (record b { link = link }) clock now → EndHasCause gives b room r k
  waited_end gives b link clock now room r k true none is same = record {
    cause = λ _. inr (subst IsSome (sym (ap (λ (x : Beat L C). x.idled) same)) refl);
    idled = λ _. is;
  }
  waited_end gives b link clock now room r k false none is same = record {
    cause = λ e. absurd (no_end r ReadNotYet is refl e);
    idled = λ h. absurd (not_idled b k none (ap (λ (x : Beat L C). x.idled) same) h);
  }

  follows_end : (gives : L → ℕ → Read → L → Type 0) (ticks : C → ℕ → C → Type 0) (b : Beat L C) (room : ℕ) (inner r : Read) (k : Beat L C)
      → b.idled ≡ None → gives b.link room inner k.link → FollowsRead ticks b k.link inner r k → EndHasCause gives b room r k
  follows_end gives ticks b room (GotPiece p) r k none given (is, (now, ticked, same)) = record {
    cause = λ e. absurd (no_end r (GotPiece p) is refl e);
    idled = λ h. absurd (not_idled b k none (ap (λ (x : Beat L C). x.idled) same) h);
  }
  follows_end gives ticks b room ReadNotYet r k none given (now, ticked, is, same) = waited_end gives b k.link k.clock now room r k (too_long b now) none is same
  follows_end gives ticks b room ReadEnd r k none given (is, same) = record {
    cause = λ _. inl given;
    idled = λ _. is;
  }
  follows_end gives ticks b room ReadFailed r k none given (is, same) = record {
    cause = λ e. absurd (no_end r ReadFailed is refl e);
    idled = λ h. absurd (not_idled b k none (ap (λ (x : Beat L C). x.idled) same) h);
  }

  pub ends : (gives : L → ℕ → Read → L → Type 0) (ticks : C → ℕ → C → Type 0) → EndsHaveCauses gives ticks
  ends gives ticks b room r k h =
      pick b.idled refl h
    where
      pick : (o : Option (ℕ × ℕ)) → b.idled ≡ o → ReadsBy gives ticks o b room r k → EndHasCause gives b room r k
      pick (Some p) e (is, same) = record {
        cause = λ _. inr (subst IsSome (sym (ap (λ (x : Beat L C). x.idled) same ∙ e)) refl);
        idled = λ _. is;
      }
      pick None e (inner, given, follows) = follows_end gives ticks b room inner r k e given follows
