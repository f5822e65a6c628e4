use Rattle.std.proofs.Common.{◌≡◌, ◌<◌, ◌≤◌, ◌+◌, ◌%◌, ℕ, List, [], ◌∷◌, ◌++◌, length, length-append, append-nil, Err, ap, sym, ◌∙◌, subst, arith}
use Rattle.sw_port_book.specs.declared.answers.ClaimFault.TheVariants.{Full}
use Rattle.sw_port_book.specs.Claims.{In, Claims}
use Rattle.sw_port_book.proofs.Tries.{tried_more, all_differ}
use Rattle.sw_sessions.specs.Values.{ClerkNow, clerk_now, slots}
use Rattle.sw_sessions.proofs.clerk.ClerkDesk.claim.Goals as goal
use Rattle.sw_sessions.proofs.clerk.ClerkDesk.claim.Goals.{After-loop-tries}

pub loop-tries-preserved : goal.loop-tries-preserved
loop-tries-preserved c =
    let inv = c.loop-tries.invariant in let e = c.in_default.ensures in let found : List ℕ = inv.0 in let met : ℕ = e.1.0 in
    let old : ClerkNow = c.args.self.now in let now : ClerkNow = c.loop-tries.self in let tries : ℕ = c.loop-tries.tries in
    let len : length found ≡ tries = inv.4 in
    let test : tries < c.size-size.result = c.loop-tries-test.true in
    let one_more : old.last + tries + 1 ≡ old.last + (tries + 1) = omega arith in
    let longer : length (found ++ met ∷ []) ≡ tries + 1 = let a = length-append found (met ∷ []) in omega (arith, a, len) in
    let listed : In met old.claimed = subst (λ (s : ClerkNow). In met s.claimed) inv.3 e.1.1 in
    let slot : met % slots old.book ≡ (old.last + tries + 1) % slots old.book = subst (λ (s : ClerkNow). met % slots s.book ≡ (s.last + 1) % slots s.book) inv.3 e.1.2 in
    let more = c.if-is_spent.ensures in
    let fits : c.try_next.new.self.last ≤ 4294967295 = let q : c.try_next.new.self.last ≡ now.last + 1 = ap (λ (s : ClerkNow). s.last) e.0 in omega (arith, q, more) in (
      found ++ met ∷ [],
      omega (arith, test),
      inv.2,
      e.0 ∙ ap (λ (s : ClerkNow). clerk_now s.book (s.last + 1) s.claimed s.passes) inv.3 ∙ ap (λ k. clerk_now old.book k old.claimed old.passes) one_more,
      longer,
      tried_more (slots old.book) old.last met old.claimed found inv.5 listed (slot ∙ ap (λ k. (old.last + k + 1) % slots old.book) (sym len)),
      fits,
    )

-- all tries were made, and each found a live number
full : (c : After-loop-tries) → Claims (slots c.args.self.now.book) c.args.self.now.claimed c.args.self.now.last (Err (Full c.size-size.result)) c.loop-tries.self.last
full c =
    let inv = c.loop-tries.invariant in let old : ClerkNow = c.args.self.now in let tries : ℕ = c.loop-tries.tries in
    let all : tries ≡ c.size-size.result = let t = c.loop-tries-test.false in let le = inv.1 in omega (arith, t, le) in
    let size : c.size-size.result ≡ slots old.book = inv.2 in
    let last : c.loop-tries.self.last ≡ old.last + tries = ap (λ (s : ClerkNow). s.last) inv.3 in
    let len : length inv.0 ≡ slots old.book = inv.4 ∙ all ∙ size in
    (inv.0, inv.5, (size, len, all_differ (slots old.book) old.last old.claimed inv.0 len inv.5, last ∙ ap (λ k. old.last + k) (all ∙ size), inv.6))

pub returns-clause-gives : goal.returns-clause-gives
returns-clause-gives c =
    let inv = c.loop-tries.invariant in let old : ClerkNow = c.args.self.now in
    let last : c.loop-tries.self.last ≡ old.last + c.loop-tries.tries = ap (λ (s : ClerkNow). s.last) inv.3 in
    record {
      clerk = inv.3 ∙ ap (λ k. clerk_now old.book k old.claimed old.passes) (sym last) ∙ ap (λ l. clerk_now old.book c.loop-tries.self.last l old.passes) (sym (append-nil old.claimed));
      tries = full c;
      ticket = tt;
    }

pub returns-clause-tries : goal.returns-clause-tries
returns-clause-tries c claimed same =
    subst (λ (l : List ℕ). Claims (slots c.args.self.now.book) l c.args.self.now.last (Err (Full c.size-size.result)) c.loop-tries.self.last) same (full c)
