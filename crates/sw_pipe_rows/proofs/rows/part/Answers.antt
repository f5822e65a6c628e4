use Rattle.std.proofs.Common.{refl, sym, ◌∙◌, map, subst}
use Rattle.std.proofs.lemmas.List.{length-map}
use Rattle.sw_pipe_rows.specs.Rows.{Numbered}
use Rattle.sw_pipe_rows.proofs.Glues.{parted, rows_filled}
use Rattle.sw_pipe_rows.proofs.Numbers.{unnumbered}
use Rattle.sw_pipe_rows.proofs.rows.part.Goals as goal

pub column-requires : goal.column-requires
column-requires g c = rows_filled (λ row. row.items) (λ s. s.pipe) (λ t. t.pipe) c.args.rows.items _ c.args.takers.now.items c.args.taker.now refl c.requires.pipes

pub returns-clause-pipes : goal.returns-clause-pipes
returns-clause-pipes g c =
    (parted (λ row. row.items) (λ s. s.pipe) (λ t. t.pipe) c.args.rows.items c.in_ok-rest.rest.items c.in_ok-rest.last.items _ c.args.takers.now.items c.args.taker.now refl
    c.in_ok-rest.ensures.glued (c.in_ok-rest.ensures.rests ∙ sym c.in_ok-rest.ensures.length) c.requires.pipes).0

pub returns-clause-last : goal.returns-clause-last
returns-clause-last g c =
    (parted (λ row. row.items) (λ s. s.pipe) (λ t. t.pipe) c.args.rows.items c.in_ok-rest.rest.items c.in_ok-rest.last.items _ c.args.takers.now.items c.args.taker.now refl
    c.in_ok-rest.ensures.glued (c.in_ok-rest.ensures.rests ∙ sym c.in_ok-rest.ensures.length) c.requires.pipes).1

pub returns-clause-numbers : goal.returns-clause-numbers
returns-clause-numbers g c =
    (unnumbered 0 (map (λ row. row.items) c.in_ok-rest.rest.items) c.in_ok-rest.last.items (length-map c.in_ok-rest.rest.items (λ row. row.items) ∙ c.in_ok-rest.ensures.rests ∙ sym c.in_ok-rest.ensures.length)
    (subst (λ rs. Numbered 0 rs) c.in_ok-rest.ensures.glued c.requires.numbers)).0

pub returns-clause-counted : goal.returns-clause-counted
returns-clause-counted g c =
    (unnumbered 0 (map (λ row. row.items) c.in_ok-rest.rest.items) c.in_ok-rest.last.items (length-map c.in_ok-rest.rest.items (λ row. row.items) ∙ c.in_ok-rest.ensures.rests ∙ sym c.in_ok-rest.ensures.length)
    (subst (λ rs. Numbered 0 rs) c.in_ok-rest.ensures.glued c.requires.numbers)).1
