use Rattle.std.proofs.Common.{◌≡◌, ◌+◌, ◌≤◌, length, Option, Some, None, sym, ◌∙◌, subst, ℕ, rules}
use Rattle.sw_frame_eof.proofs.Marks.{IsMarkAt, IsMarkAt-mark_at, IsFirstEnd-by, StandsAt-within}
use Rattle.sw_frame_eof.proofs.scan.EofScan.find.Goals as goal

pub overflow_add-result : goal.overflow_add-result
overflow_add-result g c =
    let is : Some c.in-Some.at ≡ _ = sym c.in-Some.is ∙ c.place.ensures.place in
    let stands = subst (λ (r : Option ℕ). IsMarkAt c.args.mark.now c.args.bytes.now r) (sym is) (IsMarkAt-mark_at _ _ c.requires.some) in
    let within : c.in-Some.at + length c.args.mark.now ≤ length c.args.bytes.now = StandsAt-within _ _ _ c.requires.some stands.0 in
    search rules

pub returns-in-Some-clause-end : goal.returns-in-Some-clause-end
returns-in-Some-clause-end g c =
    let is : Some c.in-Some.at ≡ _ = sym c.in-Some.is ∙ c.place.ensures.place in
    IsFirstEnd-by _ _ (Some c.in-Some.at) c.requires.some (subst (λ (r : Option ℕ). IsMarkAt c.args.mark.now c.args.bytes.now r) (sym is) (IsMarkAt-mark_at _ _ c.requires.some))

pub returns-in-None-clause-end : goal.returns-in-None-clause-end
returns-in-None-clause-end g c =
    let is : None ≡ _ = sym c.in-None.is ∙ c.place.ensures.place in
    IsFirstEnd-by _ _ None c.requires.some (subst (λ (r : Option ℕ). IsMarkAt c.args.mark.now c.args.bytes.now r) (sym is) (IsMarkAt-mark_at _ _ c.requires.some))
