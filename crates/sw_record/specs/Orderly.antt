-- Order, ownership and sessions.
use Rattle.std.specs.Prelude.{◌≡◌, true, List}
use Rattle.sw_record.specs.Order.{InOrderKept, NoStranger, InOrderUid}
use Rattle.sw_record.specs.Own.{Own}
use Rattle.sw_record.specs.Scattered.{Scattered}
use Rattle.sw_record.specs.Sessions.{SessionsOnce}
use Rattle.sw_record.specs.Terms.{Terms, keeps, IsSpread}
use Rattle.sw_record.specs.declared.record.LinkRecord.{LinkRecord}
use Rattle.sw_record.specs.declared.record.Record.{Record}

-- packets reach their workers as the dispatch mode says
pub data Ordered (t : Terms) (r : Record) : Type 0 where
  Kept : keeps t.mode ≡ true → InOrderKept t r → Ordered t r
  Uid : t.mode ≡ 5 → InOrderUid t r → Ordered t r
  Spread : IsSpread t.mode → Scattered t r → Ordered t r

-- order, ownership and sessions: what holds of a record even once memory was wanted
pub record Orderly (t : Terms) (r : Record) (net : List LinkRecord) : Type 0 where
  pub ordered : Ordered t r
  pub no_stranger : NoStranger r
  pub own : Own r
  pub sessions : SessionsOnce t r net
