-- The line of a verdict.
use Rattle.std.specs.Prelude.{ℕ, List, ◌++◌, codes}
use Rattle.std.specs.Fmt.{decimal}
use Rattle.sw_audit.specs.declared.verdict.Verdict.{Verdict}
use Rattle.sw_audit.specs.declared.verdict.Verdict.TheVariants as verdicts

-- the line that tells a verdict
abbrev pub verdict_text : Verdict → List ℕ
verdict_text (verdicts.Ok n) = codes "ok " ++ decimal n ++ codes "\n"
verdict_text (verdicts.No at) = codes "no " ++ decimal at ++ codes "\n"
