use Rattle.std.proofs.Common.{Some, sym, ap, ◌∙◌}
use Rattle.sw_world_account.proofs.Places.{stands_within, found_there, found_none}
use Rattle.sw_world_account.proofs.kept.Kept.find.Goals as goal

pub show-requires : goal.show-requires
show-requires c =
    stands_within c.args.self.now.reactor.now.terms c.args.self.now.reactor.now.line.conns c.args.self.now.ends.now.kept c.args.session c.in-Some.at
    (sym (c.args.self.now.places c.args.session) ∙ sym c.find.ensures ∙ c.in-Some.is)

pub returns-in_ok-show-in-Some : goal.returns-in_ok-show-in-Some
returns-in_ok-show-in-Some c =
    sym c.in_ok-show-in-Some.ensures
    ∙ found_there c.args.self.now.reactor.now.terms c.args.self.now.reactor.now.line.conns c.args.self.now.ends.now.kept c.args.session c.in-Some.at
    (sym (c.args.self.now.places c.args.session) ∙ sym c.find.ensures ∙ c.in-Some.is)

pub returns-in-None : goal.returns-in-None
returns-in-None c =
    found_none c.args.self.now.reactor.now.terms c.args.self.now.reactor.now.line.conns c.args.self.now.ends.now.kept c.args.session
    (sym (c.args.self.now.places c.args.session) ∙ sym c.find.ensures ∙ c.in-None.is)
