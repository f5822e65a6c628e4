-- The calls of a pass leave its book.
use Rattle.std.proofs.Common.{◌≡◌, ℕ, zero, suc, Result, ap, refl}
use Rattle.sw_port_book.specs.declared.answers.Look.{Look}
use Rattle.sw_port_book.specs.declared.answers.BindFault.{BindFault}
use Rattle.sw_port_book.specs.Answers.{Looks, Binds}
use Rattle.sw_sessions.specs.Values.{PassNow, TicketNow}
use Rattle.sw_shared.specs.Passes.{pass_looks, pass_binds, pass_releases}

pub looked : (p q : PassNow) (session : ℕ) (answer : Look) → Looks pass_looks p session answer q → q.book ≡ p.book
looked p q session answer (found, e, told) = ap (λ (z : PassNow). z.book) e

pub bound : (p q : PassNow) (session uid : ℕ) (answer : Result (Unit {0}) BindFault) → Binds pass_binds p session uid answer q → q.book ≡ p.book
bound p q session zero answer h = ap (λ (z : PassNow). z.book) h.1
bound p q session (suc uid) answer (found, e, told) = ap (λ (z : PassNow). z.book) e

pub released : (p q : PassNow) (ticket : TicketNow) (uid : ℕ) → pass_releases p ticket uid q → q.book ≡ p.book
released p q ticket uid e = ap (λ (z : PassNow). z.book) e
