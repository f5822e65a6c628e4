use Rattle.std.proofs.Common.{◌<◌, ◌/◌, ◌%◌, ◌++◌, ◌∷◌, [], ap, sym, subst, ◌∙◌, ℕ}
use Rattle.sw_sessions.specs.declared.rule.Call.TheVariants.{Look}
use Rattle.sw_sessions.specs.Places.{book_id, calls_at}
use Rattle.sw_sessions.specs.Rule.{word_in}
use Rattle.sw_sessions.specs.Values.{slots}
use Rattle.sw_sessions.proofs.Steps.{looks}
use Rattle.sw_sessions.proofs.Slots.{slot_at, whole_at}
use Rattle.sw_sessions.proofs.book.Book.look.Goals as goal

pub load-requires : goal.load-requires
load-requires c =
    let w = c.word_of-word.ensures in let j : ℕ = c.word_of-word.result in let k : ℕ = c.args.session % slots (book_id c.args.self.now) in
    (c.requires.of_book, w.word, looks _ _ _ _ (j / 8) j (whole_at j k w.at) (subst (λ i. i < c.args.self.now.table.shared.key.max) (sym (slot_at j k w.at)) w.slot) (ap (λ m. m.0.pass) c.requires.knows))

pub returns-clause-call : goal.returns-clause-call
returns-clause-call c =
    let w = c.word_of-word.ensures in let j : ℕ = c.word_of-word.result in let k : ℕ = c.args.session % slots (book_id c.args.self.now) in
    ap (λ m. m.0.calls) c.load.ensures.2 ∙ ap (λ i. calls_at c.args.place.now ++ Look i (word_in c.load.result) ∷ []) (slot_at j k w.at)
