use Rattle.std.proofs.Common.{◌≡◌, List, length, map, sum, take, sym, ap, ◌∙◌}
use Rattle.std.proofs.lemmas.List.{length-map, take_all}
use Rattle.sw_port_board.specs.Board.{capped}
use Rattle.sw_port_board.specs.PlainBoard.{PlainWords, count_of}
use Rattle.sw_port_board.specs.declared.counts.Counts.{Counts}
use Rattle.sw_port_board.proofs.PlainBoards.{reads_all}
use Rattle.sw_port_board.proofs.plain_board.PlainBoardBoard.sum.Goals as goal

pub returns-clause-steps : goal.returns-clause-steps
returns-clause-steps c =
    let b : PlainWords = c.args.self.now in
    let items : List Counts = c.deref-counts-items.result.now in
    let here : items ≡ b.counts = c.deref-counts-items.ensures.value ∙ ap (λ (w : PlainWords). w.counts) c.self.view_is in
    let size : length b.counts ≡ b.sizes.actors = ap (λ (w : PlainWords). length w.counts) (sym c.self.view_is) ∙ c.self.invariant.3 ∙ ap (λ (w : PlainWords). w.sizes.actors) c.self.view_is in
    let whole : take c.loop-counts.counts-index items ≡ b.counts = take_all c.loop-counts.counts-index items c.loop-counts-test.false ∙ here in (
      map (count_of c.args.c) b.counts,
      length-map b.counts (count_of c.args.c) ∙ size,
      c.loop-counts.invariant ∙ ap (λ (l : List Counts). capped (sum (map (count_of c.args.c) l))) whole,
      reads_all b c.args.c,
    )
