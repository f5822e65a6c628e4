use Rattle.std.proofs.Common.{◌≡◌, ◌++◌}
use Rattle.serde_json.specs.View.{members_view}
use Rattle.sw_settings_json.specs.Json.{pairs_of}
use Rattle.sw_settings_json.proofs.pairs.object_pairs.Given as goal

-- the pairs so far, and those of the members to come
abbrev pub invariant-loop-key : goal.invariant-loop-key
invariant-loop-key l = l.pairs.items ++ pairs_of (members_view l.key-iterator) ≡ pairs_of (members_view l.members.entries)
