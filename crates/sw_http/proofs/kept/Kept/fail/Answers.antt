use Rattle.sw_http.specs.Cutting.{cutting_of}
use Rattle.std.proofs.Common.{refl}
use Rattle.sw_http.specs.declared.kept.Reading.TheVariants.{Behind}
use Rattle.sw_http.proofs.Faults.{due_told, after_told}
use Rattle.sw_http.proofs.kept.Kept.fail.Goals as goal

pub returns-clause-answer : goal.returns-clause-answer
returns-clause-answer c = due_told c.args.self.now.max c.args.self.now.rest c.args.fault c.told.result c.told.ensures c.requires.due

pub returns-clause-kept : goal.returns-clause-kept
returns-clause-kept c =
    let k = c.args.self.now in
    after_told (cutting_of k) (cutting_of (record { max = k.max; rest = c.clear.new.self; reading = Behind c.args.fault })) c.args.fault c.told.result c.told.ensures (rw c.clear.ensures refl)
