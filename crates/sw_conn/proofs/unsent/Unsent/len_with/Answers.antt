use Rattle.std.proofs.Common.{arith}
use Rattle.sw_conn.proofs.unsent.Unsent.len_with.Goals as goal

pub overflow_add-result : goal.overflow_add-result
overflow_add-result c =
    let v = c.self.inside.bytes in
    let m = c.args.more.now in
    omega (arith, v.ok.0, v.ok.1, v.small, m.ok.0, m.ok.1, m.small, c.len.ensures, c.len-2.ensures)
