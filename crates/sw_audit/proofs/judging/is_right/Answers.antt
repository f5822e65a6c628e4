use Rattle.std.proofs.Common.{◌+◌}
use Rattle.sw_audit.specs.Judging.{IsReached}
use Rattle.sw_audit.proofs.PlaceLaws.{no_place, two_places, told, reached_next, on_true}
use Rattle.sw_audit.proofs.judging.is_right.Goals as goal

pub returns-then-not-has_place-clause-right : goal.returns-then-not-has_place-clause-right
returns-then-not-has_place-clause-right c = no_place c.args.lines.now c.args.at c.args.plain.now c.requires.within c.requires.order c.requires.reached c.if-not-has_place.ensures

pub returns-then-has_place-clause-right : goal.returns-then-has_place-clause-right
returns-then-has_place-clause-right c = two_places c.args.lines.now c.args.at c.args.plain.now c.requires.within c.requires.reached c.if-not-has_place.ensures c.if-has_place.ensures

pub returns-clause-right : goal.returns-clause-right
returns-clause-right c =
    told c.args.lines.now c.args.at c.args.plain.now c.is_told.result c.requires.within c.requires.order c.requires.reached c.if-not-has_place.ensures c.if-has_place.ensures c.index-lines-at.result c.index-lines-at.is c.is_told.ensures.told

pub returns-clause-reached : goal.returns-clause-reached
returns-clause-reached c =
    on_true c.is_told.result (IsReached c.args.lines.now (c.args.at + 1) c.is_told.new.plain)
    (reached_next c.args.lines.now c.args.at c.args.plain.now c.is_told.new.plain c.requires.within c.requires.order c.requires.reached c.if-not-has_place.ensures c.if-has_place.ensures c.index-lines-at.result c.index-lines-at.is c.is_told.ensures.plain)
