use Rattle.std.proofs.Common.{◌≡◌, ℕ, ◌/◌, ◌%◌, ◌+◌, ◌++◌, ◌∷◌, [], append_assoc, sym, ap, ◌∙◌, arith, List}
use Rattle.std.specs.Prelude.{string_bytes}
use Rattle.std.specs.Fmt.{decimal}
use Rattle.std.proofs.lemmas.Fmt.{decimal_step}
use Rattle.sw_text.proofs.numbers.+put_number.Goals as goal

pub returns-clause-ok : goal.returns-clause-ok
returns-clause-ok t c =
    let step : decimal c.args.n ≡ decimal (c.args.n / 10) ++ ((48 + c.args.n % 10) ∷ []) = decimal_step c.args.n c.if-n-lt10.false (omega arith) in
    let all : string_bytes c.args.out.now ++ decimal c.args.n ≡ string_bytes c.put_number.new.out ++ ((48 + c.args.n % 10) ∷ []) =
    ap (λ (ds : List ℕ). string_bytes c.args.out.now ++ ds) step ∙ sym (append_assoc (string_bytes c.args.out.now) (decimal (c.args.n / 10)) ((48 + c.args.n % 10) ∷ [])) ∙ ap (λ (front : List ℕ). front ++ ((48 + c.args.n % 10) ∷ [])) (sym c.in_ok-put_number.ensures.ok) in
    rw all c.put_digit-2.ensures.ok
