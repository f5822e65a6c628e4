use Rattle.sw_link.specs.declared.link.LinkRead.TheVariants.{Got, NotYet, End, Failed}
use Rattle.sw_reactor.proofs.reactor.Reactor.read_more.Goals as goal

pub returns-in-NotYet : goal.returns-in-NotYet
returns-in-NotYet g c = (NotYet, (c.read_next.new.self, (c.in-NotYet.ensures, c.stay.ensures)))

pub returns-in-Got : goal.returns-in-Got
returns-in-Got g c = (Got c.in-Got.field-0, (c.read_next.new.self, (c.in-Got.ensures, (c.move_on.ensures.ask, c.move_on.ensures.reactor))))

pub returns-in-End : goal.returns-in-End
returns-in-End g c = (End, (c.read_next.new.self, (c.in-End.ensures, (c.move_on-in-End.ensures.ask, c.move_on-in-End.ensures.reactor))))

pub returns-in-Failed : goal.returns-in-Failed
returns-in-Failed g c = (Failed, (c.read_next.new.self, (c.in-Failed.ensures, (c.move_on-in-Failed.ensures.ask, c.move_on-in-Failed.ensures.reactor))))
