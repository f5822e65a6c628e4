-- A fault as an answer.
use Rattle.std.proofs.Common.{◌≡◌, ℕ, List, refl, sym, ap, ◌∙◌, subst}
use Rattle.sw_http.specs.declared.next.HttpNext.{HttpNext}
use Rattle.sw_http.specs.declared.next.HttpFault.{HttpFault}
use Rattle.sw_http.specs.declared.next.HttpFault.TheVariants as faults
use Rattle.sw_http.specs.First.{HttpFirst}
use Rattle.sw_http.specs.Cutting.{Cutting, IsDue, told, after, ended}

due_by : (max : ℕ) (r : List ℕ) (fault : HttpFault) → HttpFirst max r (told fault) → IsDue max r (told fault)
due_by max r (faults.TooLong n) first = first
due_by max r faults.BadHead first = first
due_by max r faults.Coded first = first
due_by max r faults.BadLength first = first

pub due_told : (max : ℕ) (r : List ℕ) (fault : HttpFault) (answer : HttpNext) → answer ≡ told fault → HttpFirst max r (told fault) → IsDue max r answer
due_told max r fault answer is first = subst (IsDue max r) (sym is) (due_by max r fault first)

after_by : (c : Cutting) (fault : HttpFault) → ended c fault ≡ after c (told fault)
after_by c (faults.TooLong n) = refl
after_by c faults.BadHead = refl
after_by c faults.Coded = refl
after_by c faults.BadLength = refl

pub after_told : (c now : Cutting) (fault : HttpFault) (answer : HttpNext) → answer ≡ told fault → now ≡ ended c fault → now ≡ after c answer
after_told c now fault answer is kept = kept ∙ after_by c fault ∙ ap (after c) (sym is)
