use Rattle.std.proofs.Common.{◌≢◌, sym, ◌∙◌}
use Rattle.std.proofs.lemmas.Bool.{false≢true}
use Rattle.sw_http.proofs.Searches.{found_so, ended_so}
use Rattle.sw_http.specs.declared.head.Found.TheVariants.{Nothing}
use Rattle.sw_http.proofs.head.search.Goals as goal
use Rattle.sw_http.proofs.head.search.Goals.{in-Nothing, in_default}

pub returns-then-not-matches : goal.returns-then-not-matches
returns-then-not-matches c =
    let not : c.read_head-found.result ≢ Nothing = elim c.match-matches.branch [
      | in-Nothing w ↦ λ e. false≢true (sym c.if-not-matches.true ∙ w.matches-is)
      | in_default w ↦ w.in_default.not-Nothing
    ] in
    found_so c.args.bytes.now c.next_end.new.self.at c.read_head-found.result c.next_end.new.self not c.read_head-found.ensures

pub returns : goal.returns
returns c = ended_so c.args.bytes.now c.loop-found.scan c.next_end.new.self c.loop-found.invariant c.next_end.ensures.scanned c.loop-found-test.ensures.stopped
