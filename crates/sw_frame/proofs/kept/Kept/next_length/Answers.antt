use Rattle.std.proofs.Common.{◌≡◌, sym}
use Rattle.sw_frame_len.specs.Length as lengths
use Rattle.sw_frame_len.specs.Read.{HasRead}
use Rattle.sw_frame_len.proofs.Lengths as length_laws
use Rattle.sw_frame.specs.Kept.{by_field}
use Rattle.sw_frame.proofs.Keeping.{IsThere-steady, HasRest-cut_off, due_open, due_closed, told_is}
use Rattle.sw_frame.proofs.Searched.{IsFresh-field}
use Rattle.sw_frame.proofs.kept.Kept.next_length.Goals as goal

pub returns-in-Some-clause-answer : goal.returns-in-Some-clause-answer
returns-in-Some-clause-answer c =
    let rule = c.args.rule in
    rw c.told.ensures (told_is _ c.in-Some.fault (due_closed (lengths.first_in rule) (length_laws.IsSteady-first_in rule) (by_field rule) c.args.self.now c.in-Some.fault c.requires c.in-Some.is))

pub next_by-requires : goal.next_by-requires
next_by-requires c =
    let is : c.first-first.result ≡ lengths.first_in c.args.rule c.args.self.now.rest = rw c.bytes.ensures at c.first-first.ensures.first in
    IsThere-steady _ (length_laws.IsSteady-first_in c.args.rule) _ _ (sym is)

pub returns-in-None-clause-answer : goal.returns-in-None-clause-answer
returns-in-None-clause-answer c =
    let rule = c.args.rule in
    let is : c.first-first.result ≡ lengths.first_in rule c.args.self.now.rest = rw c.bytes.ensures at c.first-first.ensures.first in
    let known = due_open (lengths.first_in rule) (length_laws.IsSteady-first_in rule) (by_field rule) c.args.self.now c.requires c.in-None.is in
    rw known.2 (rw is at c.next_by.ensures.answer)

pub returns-in-None-clause-rest : goal.returns-in-None-clause-rest
returns-in-None-clause-rest c =
    let rule = c.args.rule in
    let is : c.first-first.result ≡ lengths.first_in rule c.args.self.now.rest = rw c.bytes.ensures at c.first-first.ensures.first in
    let read : HasRead rule c.args.self.now.rest c.first-first.new.self = rw c.bytes.ensures at c.first-first.ensures.read in
    let known = due_open (lengths.first_in rule) (length_laws.IsSteady-first_in rule) (by_field rule) c.args.self.now c.requires c.in-None.is in
    rw c.next_by.ensures.kept (HasRest-cut_off (lengths.first_in rule) (length_laws.IsSteady-first_in rule) (by_field rule) (IsFresh-field rule) _ c.next_by.result c.in-None.is known.0 read (rw is at c.next_by.ensures.answer))
