use Rattle.std.proofs.Common.{ℕ, List, [], ◌∷◌, ◌≡◌, ◌<◌, length, sym, ◌∙◌, subst, arith}
use Rattle.sw_frame_eof.specs.Scan.{HasScanned}
use Rattle.sw_frame_eof.proofs.Scans.{HasScanned-later}
use Rattle.sw_bench.proofs.one_by_one.search.Goals as goal

pub find-requires-clause-scanned : goal.find-requires-clause-scanned
find-requires-clause-scanned g c =
    let some : 0 < length {A = ℕ} (13 ∷ 10 ∷ []) = omega arith in
    subst (λ (xs : List ℕ). HasScanned (13 ∷ 10 ∷ []) xs c.loop.scan) (sym (c.deref.ensures.value ∙ c.in_ok-push.ensures.items))
    (HasScanned-later (13 ∷ 10 ∷ []) c.loop.bytes.items (97 ∷ []) c.loop.scan some c.loop.invariant.0)
