use Rattle.std.proofs.Common.{rules, ◌≡◌, ℕ, List, map, drop, sym, subst, inl, Option}
use Rattle.std.specs.Prelude.{String, string_bytes}
use Rattle.std.specs.Global.{Vec, Global}
use Rattle.sw_top.specs.Says.{FromSource, FromSink}
use Rattle.sw_top.specs.Line.{EndsWords, EndsLine}
use Rattle.sw_top.proofs.line.command_line.Goals as goal

pub returns-in-Ok : goal.returns-in-Ok
returns-in-Ok g c =
    let s : FromSource = record { left = g.S.Source.left c.args.source.now; left_new = g.S.Source.left c.tool.new.source; faults = g.S.Source.faults c.args.source.now; faults_new = g.S.Source.faults c.tool.new.source; ended = g.S.Source.ended c.tool.new.source } in
    let k : FromSink = record { taken = g.K.Sink.taken c.args.sink.now; taken_new = g.K.Sink.taken c.tool.new.sink; faults = g.K.Sink.faults c.args.sink.now; faults_new = g.K.Sink.faults c.tool.new.sink } in
    let n : ℕ = c.number-in-Ok.result in
    let same : c.deref.result.now ≡ map string_bytes (drop 1 c.in-Some.arguments.items) = search rules in
    let ends : EndsWords c.deref.result.now s k n = record { status = c.tool.result; is = c.number-in-Ok.ensures; says = c.tool.ensures.says; right = c.tool.ensures.right; complete = c.tool.ensures.complete } in
    subst (λ (a : Option (Vec (String Global))). EndsLine a s k n) (sym c.in-Some.is) (inl (subst (λ (ws : List (List ℕ)). EndsWords ws s k n) same ends))
