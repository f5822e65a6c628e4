use Rattle.std.proofs.Common.{rules, ◌≡◌, ◌∙◌, sym}
use Rattle.std.specs.Arc.{arc_value}
use Rattle.sw_port_book.proofs.Answered.{bind_other, bind_bound, bind_ok, binds_by}
use Rattle.sw_port_book.specs.declared.word.Word.{Word}
use Rattle.sw_sessions.specs.declared.rule.Call.TheVariants.{Bind}
use Rattle.sw_sessions.specs.Places.{book_id, calls_at}
use Rattle.sw_sessions.specs.Values.{PassNow, pass_now, called}
use Rattle.sw_sessions.specs.Rule.{word_in}
use Rattle.sw_sessions.proofs.pass.PassBook.bind.Goals as goal

pub returns-then-found-number-clause-found : goal.returns-then-found-number-clause-found
returns-then-found-number-clause-found c =
    let word : Word = word_in c.bind-word.result in let same = c.number-number.ensures.value in
    let q : PassNow = pass_now (book_id (arc_value c.self.inside.book)) (calls_at c.bind-word.new.place) in
    let f : q ≡ called c.args.self.now (Bind c.args.session c.args.uid word) = search rules in
    binds_by (λ p s u w q. q ≡ called p (Bind s u w)) c.args.self.now c.args.session c.args.uid _ q word c.if-uid-eq0.false f
    (bind_other c.args.session word (λ z. c.if-found-number.true (z ∙ sym same)))

pub returns-then-bound-ne0-clause-found : goal.returns-then-bound-ne0-clause-found
returns-then-bound-ne0-clause-found c =
    let word : Word = word_in c.bind-word.result in let same = c.number-number.ensures.value in
    let q : PassNow = pass_now (book_id (arc_value c.self.inside.book)) (calls_at c.bind-word.new.place) in
    let f : q ≡ called c.args.self.now (Bind c.args.session c.args.uid word) = search rules in
    binds_by (λ p s u w q. q ≡ called p (Bind s u w)) c.args.self.now c.args.session c.args.uid _ q word c.if-uid-eq0.false f
    (bind_bound c.args.session word (c.if-found-number.false ∙ same) c.if-bound-ne0.true)

pub returns-clause-found : goal.returns-clause-found
returns-clause-found c =
    let word : Word = word_in c.bind-word.result in let same = c.number-number.ensures.value in
    let q : PassNow = pass_now (book_id (arc_value c.self.inside.book)) (calls_at c.bind-word.new.place) in
    let f : q ≡ called c.args.self.now (Bind c.args.session c.args.uid word) = search rules in
    binds_by (λ p s u w q. q ≡ called p (Bind s u w)) c.args.self.now c.args.session c.args.uid _ q word c.if-uid-eq0.false f
    (bind_ok c.args.session word (c.if-found-number.false ∙ same) c.if-bound-ne0.false)
