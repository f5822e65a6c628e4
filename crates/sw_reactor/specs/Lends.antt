-- What a line and a reactor end as, where a `&mut` to the link of a session's connection is returned.
use Rattle.std.specs.Prelude.{ℕ, Option}
use Rattle.std.specs.Borrow.{Lends, LendsIf, Fml, RattleType, MutBor}
use Rattle.sw_conn.specs.declared.conn.Conn.{Conn}
use Rattle.sw_conn.specs.contracts.conn.Conn.{the_row as conn_row}
use Rattle.std.specs.contracts.option.Option.{the_row as option_row}
use Rattle.sw_reactor.specs.declared.reactor.Reactor.{Reactor}
use Rattle.sw_reactor.specs.contracts.line.Line.{the_row as line_row}
use Rattle.sw_reactor.specs.contracts.reactor.Reactor.{the_row as reactor_row}
use Rattle.sw_reactor.specs.Line.{Lined, with_link, relinked}

module _ (L K : RattleType) where
  -- a connection ends with the link last written through r
  abbrev pub conn_lends : MutBor (Conn L.Denot K.Denot) → MutBor L.Denot → Fml
  conn_lends c r = Lends (conn_row L K) L c r (λ link. record c.now { link = link })

  -- a slot with a connection does
  abbrev pub slot_lends : MutBor (Option (Conn L.Denot K.Denot)) → MutBor L.Denot → Fml
  slot_lends o r = Lends (option_row (conn_row L K)) L o r (relinked o.now)

  -- the line of connections does, at the connection of session s
  abbrev pub line_lends_link : MutBor (Lined L.Denot K.Denot) → ℕ → MutBor L.Denot → Fml
  line_lends_link l s r = Lends (line_row L K) L l r (with_link l.now s)

  -- the same where r is a reference, and at `None` the line stays as it is
  abbrev pub line_lends : MutBor (Lined L.Denot K.Denot) → ℕ → Option (MutBor L.Denot) → Fml
  line_lends l s r = LendsIf (line_row L K) L l r (with_link l.now s) l.now

  -- the same of a reactor
  abbrev pub reactor_lends : MutBor (Reactor L.Denot K.Denot) → ℕ → Option (MutBor L.Denot) → Fml
  reactor_lends q s r = LendsIf (reactor_row L K) L q r (λ link. record q.now { line = with_link q.now.line s link }) q.now
