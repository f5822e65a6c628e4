use Rattle.std.proofs.Common.{◌≡◌, ◌∙◌, ◌++◌, ◌∷◌, [], ◌+◌, ap, length, length-append, arith}
use Rattle.sw_pipe_rows.proofs.Glues.{step}
use Rattle.sw_pipe_rows.proofs.rows.column.Goals as goal

pub loop-row-preserved : goal.loop-row-preserved
loop-row-preserved g c =
    let was = c.loop-row.invariant in
    let more_rest = c.in_ok-push.ensures.items in let more_last = c.in_ok-push-2.ensures.items in
    let rest_len : length c.push.new.self.items ≡ length c.loop-row.rest.items + 1 = ap length more_rest ∙ length-append c.loop-row.rest.items _ in
    let last_len : length c.push-in-loop-row.new.self.items ≡ length c.loop-row.last.items + 1 = ap length more_last ∙ length-append c.loop-row.last.items _ in
    let all_len : length (c.loop-row.yielded ++ c.in-Some.row ∷ []) ≡ length c.loop-row.yielded + 1 = length-append c.loop-row.yielded _ in
    let a = was.rests in let b = was.length in
    record {
      glued = step (λ row. row.items) c.loop-row.yielded c.loop-row.rest.items _ c.loop-row.last.items _ c.in-Some.row c.split-row.result.0 c.split-row.result.1 was.rests more_rest more_last c.split-row.ensures was.glued;
      rests = omega (arith, rest_len, last_len, a);
      length = omega (arith, last_len, all_len, b);
    }
