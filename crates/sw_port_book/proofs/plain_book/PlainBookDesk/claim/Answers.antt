use Rattle.sw_port_book.specs.declared.answers.ClaimFault.{ClaimFault}
use Rattle.std.proofs.Common.{Result, Ok, ◌<◌, ◌-◌, ◌+◌, ℕ, [], ◌∷◌, ◌++◌, length, ap, sym, ◌∙◌, subst, arith}
use Rattle.sw_port_book.specs.Plain.{Words, Claimed, claim_in, LiveAmong}
use Rattle.sw_port_book.specs.Claims.{Claims}
use Rattle.sw_port_book.proofs.PlainClaims.{SoFar, one_less, claim_spent, claim_takes, begins, goes_on, ends_free, ends_spent, ends_full, told_found}
use Rattle.sw_port_book.proofs.plain_book.PlainBookDesk.claim.Goals as goal

pub loop-tries-init : goal.loop-tries-init
loop-tries-init c = (c.size-size.ensures.size.0, begins c.args.self.now c.size-size.ensures.last)

pub loop-tries-preserved : goal.loop-tries-preserved
loop-tries-preserved c =
    let inv = c.loop-tries.invariant in let e = c.in_default.ensures in (
      inv.0,
      subst (λ (w : Words). SoFar c.args.self.now w (c.loop-tries.tries + 1)) (sym e.0)
          (goes_on c.args.self.now c.loop-tries.self c.loop-tries.tries inv.1 (let t = c.loop-tries-test.true in let s = inv.0 in omega (arith, t, s)) (λ z. c.if-last-eq4294967295.false (c.last.ensures ∙ z)) e.1),
    )

pub returns-then-last-eq4294967295-clause-gives : goal.returns-then-last-eq4294967295-clause-gives
returns-then-last-eq4294967295-clause-gives c =
    let inv = c.loop-tries.invariant in let t = c.loop-tries-test.true in
    let lt : c.loop-tries.tries < length c.args.self.now.slots = let s = inv.0 in omega (arith, t, s) in
    let all = sym inv.1.rest ∙ ap (λ k. claim_in k c.loop-tries.self) (one_less (length c.args.self.now.slots) c.loop-tries.tries lt)
    ∙ claim_spent (length c.args.self.now.slots - (c.loop-tries.tries + 1)) c.loop-tries.self (sym c.last.ensures ∙ c.if-last-eq4294967295.true) in
    (sym (ap (λ (d : Claimed). d.answer) all), sym (ap (λ (d : Claimed). d.words) all))

pub returns-then-last-eq4294967295-clause-tries : goal.returns-then-last-eq4294967295-clause-tries
returns-then-last-eq4294967295-clause-tries c claimed live =
    let inv = c.loop-tries.invariant in let t = c.loop-tries-test.true in
    ends_spent c.args.self.now c.loop-tries.self c.loop-tries.tries inv.1 (let s = inv.0 in omega (arith, t, s)) (sym c.last.ensures ∙ c.if-last-eq4294967295.true) claimed live

pub returns-in-Some-clause-gives : goal.returns-in-Some-clause-gives
returns-in-Some-clause-gives c =
    let inv = c.loop-tries.invariant in let t = c.loop-tries-test.true in let e = c.in-Some.ensures in
    let lt : c.loop-tries.tries < length c.args.self.now.slots = let s = inv.0 in omega (arith, t, s) in
    let all = sym inv.1.rest ∙ ap (λ k. claim_in k c.loop-tries.self) (one_less (length c.args.self.now.slots) c.loop-tries.tries lt)
    ∙ claim_takes (length c.args.self.now.slots - (c.loop-tries.tries + 1)) c.loop-tries.self (λ z. c.if-last-eq4294967295.false (c.last.ensures ∙ z)) e.1 in
    (ap {A = ℕ} {B = Result ℕ ClaimFault} (λ n. Ok n) e.0 ∙ sym (ap (λ (d : Claimed). d.answer) all), e.2 ∙ sym (ap (λ (d : Claimed). d.words) all))

pub returns-in-Some-clause-tries : goal.returns-in-Some-clause-tries
returns-in-Some-clause-tries c claimed live =
    let inv = c.loop-tries.invariant in let t = c.loop-tries-test.true in let e = c.in-Some.ensures in let old : Words = c.args.self.now in
    subst (λ (y : ℕ × ℕ). Claims (length old.slots) claimed old.last (Ok y.0) y.1) (λ i. (sym e.0 i, sym (ap (λ (w : Words). w.last) e.2) i))
    (ends_free old c.loop-tries.self c.loop-tries.tries inv.1 (let s = inv.0 in omega (arith, t, s)) (λ z. c.if-last-eq4294967295.false (c.last.ensures ∙ z)) claimed live)

pub returns-in-Some-clause-told : goal.returns-in-Some-clause-told
returns-in-Some-clause-told c claimed live =
    let inv = c.loop-tries.invariant in let t = c.loop-tries-test.true in let e = c.in-Some.ensures in let old : Words = c.args.self.now in
    subst (λ (y : Words × ℕ). LiveAmong y.0 (claimed ++ y.1 ∷ [])) (λ i. (sym e.2 i, sym e.0 i))
    (told_found old c.loop-tries.self c.loop-tries.tries claimed inv.1 (let s = inv.0 in omega (arith, t, s)) live)

pub returns-clause-tries : goal.returns-clause-tries
returns-clause-tries c claimed live =
    let inv = c.loop-tries.invariant in let t = c.loop-tries-test.false in
    ends_full c.args.self.now c.loop-tries.self c.loop-tries.tries c.size-size.result inv.1 (let s = inv.0 in let f = inv.1.few in omega (arith, t, s, f)) inv.0 claimed live
