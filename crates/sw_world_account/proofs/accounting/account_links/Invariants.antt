use Rattle.std.proofs.Common.{◌≡◌, length, map, take}
use Rattle.sw_world_account.specs.Accounting.{record_of, links_at}
use Rattle.sw_world_account.proofs.accounting.account_links.Given as goal

-- the records of the links that the loop has passed
abbrev pub invariant-loop-link : goal.invariant-loop-link
invariant-loop-link l = l.links ≡ map (record_of l.max_conn (length l.kept) (links_at l.kept)) (take l.link-index l.arrived)
