-- Tickets of a book that their type names are all of it, and any two of them differ.
use Rattle.std.proofs.Common.{List}
use Rattle.sw_reactor.specs.Ready.{AreApart}

pub apart : {B K : Type 0} (b : B) (ts : List K) → AreApart (λ (p : B) (t : K). Unit {0}) (λ (t u : K). Unit {0}) b ts
apart b ts = record { held = λ k t at. tt; two = λ j k t u at there n. tt }
