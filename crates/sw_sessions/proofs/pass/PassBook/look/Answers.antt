use Rattle.std.proofs.Common.{rules, ◌∙◌, sym}
use Rattle.sw_port_book.proofs.Answered.{look_live, look_other}
use Rattle.sw_port_book.specs.declared.word.Word.{Word}
use Rattle.sw_sessions.specs.Rule.{word_in}
use Rattle.sw_sessions.proofs.pass.PassBook.look.Goals as goal
use Rattle.sw_sessions.proofs.pass.PassBook.look.Goals.{then-found-number, else-found-number}

pub returns-clause-found : goal.returns-clause-found
returns-clause-found c =
    let word : Word = word_in c.look-word.result in let same = c.number-number.ensures.value in (
      word,
      search rules,
      elim c.if-found-number.branch [
        | then-found-number w ↦ w.result-is ∙ look_live c.args.session word (w.if-found-number.true ∙ same)
        | else-found-number w ↦ w.result-is ∙ look_other c.args.session word (λ z. w.if-found-number.false (z ∙ sym same))
      ],
    )
