use Rattle.std.proofs.Common.{◌≡◌, ◌%◌, ◌++◌, [], ◌∷◌, ℕ, List, sym, ap, ◌∙◌}
use Rattle.sw_sessions.specs.declared.rule.Call.{Call}
use Rattle.sw_sessions.specs.declared.rule.Call.TheVariants.{Look, Bind, Release}
use Rattle.sw_sessions.specs.Values.{PassNow, slots, all_calls}
use Rattle.sw_sessions_uses.specs.declared.two_threads.Outcome.{Outcome}
use Rattle.sw_sessions_uses.proofs.Races.{both_calls, bound_by_one}
use Rattle.sw_sessions_uses.proofs.two_threads.race.Goals as goal

pub returns : goal.returns
returns g c =
    let n : ℕ = c.session-session.result in let uid : ℕ = c.release-uid.result in
    let seven = c.join-first.ensures.first in let nine = c.join-first.ensures.second in let seen = c.join-clerk.ensures.second in
    let slot : ℕ = c.in-Some.early % slots c.in_ok-second.second.book in
    let first : PassNow = c.release-uid.new.self in let second : PassNow = c.join-first.result.1.0 in
    let passes : List PassNow = c.add-2.new.passes.items in
    let bound : c.join-first.result.0.0.calls ≡ Bind n 7 seven.0 ∷ [] =
    ap (λ (p : PassNow). p.calls) seven.1 ∙ ap (λ (p : PassNow). p.calls ++ Bind n 7 seven.0 ∷ []) c.in_ok-first.ensures.ok.0 in
    let one : first.calls ≡ Bind n 7 seven.0 ∷ Release n uid ∷ [] =
    ap (λ (p : PassNow). p.calls) c.release-uid.ensures.found ∙ ap (λ (l : List Call). l ++ Release c.in-Some-claimed.ticket.number uid ∷ []) bound
    ∙ ap (λ (m : ℕ). Bind n 7 seven.0 ∷ Release m uid ∷ []) (sym c.session-session.ensures) in
    let looked : c.join-clerk.result.1.calls ≡ Look slot seen.0 ∷ [] =
    ap (λ (p : PassNow). p.calls) seen.1 ∙ ap (λ (p : PassNow). p.calls ++ Look slot seen.0 ∷ []) c.in_ok-second.ensures.ok.0 in
    let other : second.calls ≡ Look slot seen.0 ∷ Bind n 9 nine.0 ∷ [] =
    ap (λ (p : PassNow). p.calls) nine.1 ∙ ap (λ (l : List Call). l ++ Bind n 9 nine.0 ∷ []) looked in
    let items : passes ≡ first ∷ second ∷ [] =
    c.in_ok-add-2.ensures.items ∙ ap (λ (l : List PassNow). l ++ second ∷ []) (c.in_ok-add.ensures.items ∙ ap (λ (l : List PassNow). l ++ first ∷ []) c.new-passes.ensures.items) in
    let list : all_calls passes ≡ both_calls n slot seen.0 seven.0 nine.0 uid = ap all_calls items ∙ (λ i. one i ++ (other i ++ [])) in
    let outcome : Outcome = record { seven = c.join-first.result.0.1; nine = c.join-first.result.1.1; uid = uid } in
    bound_by_one outcome (all_calls passes) n slot seen.0 seven.0 nine.0 list seven.2 nine.2 c.in-Ok.ensures.once c.in-Ok.ensures.releases
