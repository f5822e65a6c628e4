use Rattle.std.proofs.Common.{◌≡◌, ◌≤◌, ◌+◌, ◌-◌, ℕ, suc, subst, length, arith, ap, ◌∙◌, inl, inr}
use Rattle.std.proofs.lemmas.Bool.Decides.{leb_tells}
use Rattle.sw_frame_eof.specs.Mark.{StandsAt}
use Rattle.sw_frame_eof.proofs.Scans.{none_at_all, first_here, length_window, passed_more, found_here, pays_none, pays_some, compared-none}
use Rattle.sw_frame_eof.proofs.scan.EofScan.pass.Goals as goal

pub returns-in-None-clause-scanned : goal.returns-in-None-clause-scanned
returns-in-None-clause-scanned g c =
    let r = c.requires in
    passed_more _ _ c.args.self.now _ r.scanned r.more (omega (arith, r.room))
    (none_at_all _ _ _ _ r.some (omega (arith, r.room)) (omega (arith, r.room, r.some)) c.in-None.ensures.first)

pub returns-in-None-clause-cost : goal.returns-in-None-clause-cost
returns-in-None-clause-cost g c =
    let r = c.requires in
    let p : ℕ = c.args.self.now.passed in
    let q : ℕ = length c.args.bytes.now - length c.args.mark.now + 1 in
    let order : p ≤ q = omega (arith, r.room) in
    let len = length_window c.args.bytes.now p q order (omega (arith, r.room, r.some)) in
    pays_none (length c.args.mark.now) _ _ p q _ _ r.some order (c.in-None.ensures.cost ∙ ap (λ n. c.args.steps.now + n) len) (compared-none c.args.self.now p r.more) (compared-none c.args.self.now q r.more)

pub returns-then-stands_at-clause-scanned : goal.returns-then-stands_at-clause-scanned
returns-then-stands_at-clause-scanned g c =
    let r = c.requires in
    let here = first_here c.args.mark.now c.args.bytes.now c.args.self.now.passed (length c.args.bytes.now - length c.args.mark.now + 1) c.in-Some.skipped r.some (omega (arith, r.room)) (omega (arith, r.room, r.some)) c.in-Some.ensures.first in
    found_here _ _ c.args.self.now _ r.scanned (omega (arith, here.high, r.room)) here.none (c.stands_at.ensures.stands.0 c.if-stands_at.true)

pub returns-else-stands_at-clause-scanned : goal.returns-else-stands_at-clause-scanned
returns-else-stands_at-clause-scanned g c =
    let r = c.requires in
    let at : ℕ = c.args.self.now.passed + c.in-Some.skipped in
    let here = first_here c.args.mark.now c.args.bytes.now c.args.self.now.passed (length c.args.bytes.now - length c.args.mark.now + 1) c.in-Some.skipped r.some (omega (arith, r.room)) (omega (arith, r.room, r.some)) c.in-Some.ensures.first in
    let stands_not : ¬ StandsAt c.args.mark.now c.args.bytes.now at = λ stands. let yes = c.stands_at.ensures.stands.1 stands in cc in
    passed_more _ _ c.args.self.now (at + 1) r.scanned r.more (omega (arith, here.high, r.room))
    (λ k low high. elim (leb_tells (suc k) at) [
      | inl w ↦ here.none k low (omega (arith, w.1))
      | inr w ↦ let same : at ≡ k = omega (arith, w.1, high) in subst (λ (j : ℕ). ¬ StandsAt c.args.mark.now c.args.bytes.now j) same stands_not
    ])

pub returns-else-stands_at-clause-cost : goal.returns-else-stands_at-clause-cost
returns-else-stands_at-clause-cost g c =
    let r = c.requires in
    let p : ℕ = c.args.self.now.passed in
    pays_some (length c.args.mark.now) _ _ _ p c.in-Some.skipped _ _ r.some c.in-Some.ensures.cost c.stands_at.ensures.cost (compared-none c.args.self.now p r.more) (compared-none c.args.self.now (p + c.in-Some.skipped + 1) r.more)
