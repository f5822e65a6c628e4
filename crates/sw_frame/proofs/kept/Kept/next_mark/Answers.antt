use Rattle.std.proofs.Common.{◌≡◌, take, sym}
use Rattle.sw_frame_eof.specs.Mark as marks
use Rattle.sw_frame_eof.specs.Scan.{HasScanned}
use Rattle.sw_frame_eof.proofs.Marks as mark_laws
use Rattle.sw_frame.specs.Kept.{by_mark}
use Rattle.sw_frame.proofs.Keeping.{IsThere-steady, HasRest-cut_off, due_open, due_closed, told_is}
use Rattle.sw_frame.proofs.Searched.{IsFresh-mark}
use Rattle.sw_frame.proofs.kept.Kept.next_mark.Goals as goal

pub returns-in-Some-clause-answer : goal.returns-in-Some-clause-answer
returns-in-Some-clause-answer c =
    let mark = c.args.mark.now in let max = c.args.max in
    rw c.told.ensures (told_is _ c.in-Some.fault (due_closed (marks.first_in mark max) (mark_laws.IsSteady-first_in mark max c.requires.some) (by_mark mark max) c.args.self.now c.in-Some.fault c.requires.rest c.in-Some.is))

pub next_by-requires : goal.next_by-requires
next_by-requires c =
    let mark = c.args.mark.now in let max = c.args.max in
    let is : c.first-first.result ≡ marks.first_in mark max c.args.self.now.rest = rw c.bytes.ensures at c.first-first.ensures.first in
    IsThere-steady _ (mark_laws.IsSteady-first_in mark max c.requires.some) _ _ (sym is)

pub returns-in-None-clause-answer : goal.returns-in-None-clause-answer
returns-in-None-clause-answer c =
    let mark = c.args.mark.now in let max = c.args.max in
    let is : c.first-first.result ≡ marks.first_in mark max c.args.self.now.rest = rw c.bytes.ensures at c.first-first.ensures.first in
    let known = due_open (marks.first_in mark max) (mark_laws.IsSteady-first_in mark max c.requires.some) (by_mark mark max) c.args.self.now c.requires.rest c.in-None.is in
    rw known.2 (rw is at c.next_by.ensures.answer)

pub returns-in-None-clause-rest : goal.returns-in-None-clause-rest
returns-in-None-clause-rest c =
    let mark = c.args.mark.now in let max = c.args.max in
    let is : c.first-first.result ≡ marks.first_in mark max c.args.self.now.rest = rw c.bytes.ensures at c.first-first.ensures.first in
    let scanned : HasScanned mark (take max c.args.self.now.rest) c.first-first.new.self = rw c.bytes.ensures at c.first-first.ensures.scanned in
    let known = due_open (marks.first_in mark max) (mark_laws.IsSteady-first_in mark max c.requires.some) (by_mark mark max) c.args.self.now c.requires.rest c.in-None.is in
    rw c.next_by.ensures.kept (HasRest-cut_off (marks.first_in mark max) (mark_laws.IsSteady-first_in mark max c.requires.some) (by_mark mark max) (IsFresh-mark mark max) _ c.next_by.result c.in-None.is known.0 scanned (rw is at c.next_by.ensures.answer))
