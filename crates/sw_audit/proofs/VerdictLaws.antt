use Rattle.std.proofs.Common.{◌≡◌, ℕ, List, Option, sym, subst}
use Rattle.std.specs.List.Sorted.{IsPermutation}
use Rattle.std.proofs.lemmas.List.Sorted.{IsPermutation-sym}
use Rattle.sw_table_laws.specs.Table.{Shape}
use Rattle.sw_audit.specs.Judging.{IsLeast, lesser}
use Rattle.sw_audit.specs.Verdicts.{lines_at, table_of, IsWrong, IsLate, IsBad}
use Rattle.sw_audit.specs.declared.trace.Trace.{Trace}
use Rattle.sw_audit.specs.declared.trace.TraceLine.{TraceLine}
use Rattle.sw_audit.proofs.LeastLaws.{least_of_two, least_same}
use Rattle.sw_audit.proofs.PlaceLaws.{wrong_same}

-- the least wrong place doesn't depend on the order in which the lines stand
pub in_any_order : (t u : Shape) (ls ss ds : List TraceLine) (r : Option ℕ) → u ≡ t → ds ≡ ss → ((at : ℕ) → lines_at ss at ≡ lines_at ls at) → IsPermutation ls ss
    → IsLeast (IsWrong u ds) r → IsLeast (IsWrong t ls) r
in_any_order t u ls ss ds r same lent stable moved least =
    let table : IsLeast (IsWrong t ds) r = subst (λ (x : Shape). IsLeast (IsWrong x ds) r) same least in
    let lines : IsLeast (IsWrong t ss) r = subst (λ (xs : List TraceLine). IsLeast (IsWrong t xs) r) lent table in
    least_same (IsWrong t ss) (IsWrong t ls) r (λ at. wrong_same t ss ls at stable (IsPermutation-sym ls ss moved)) (λ at. wrong_same t ls ss at (λ (q : ℕ). sym (stable q)) moved) lines

-- the least bad place is the lesser of the least late and the least wrong one
pub least_bad : (t : Trace) (ls : List TraceLine) (late wrong : Option ℕ) → ls ≡ t.lines → IsLeast (IsLate ls) late → IsLeast (IsWrong (table_of t) t.lines) wrong → IsLeast (IsBad t) (lesser late wrong)
least_bad t ls late wrong lent is_late is_wrong =
    least_of_two (IsWrong (table_of t) t.lines) (IsLate t.lines) late wrong (subst (λ (xs : List TraceLine). IsLeast (IsLate xs) late) lent is_late) is_wrong
