use Rattle.sw_link.proofs.Courses.{course_more}
use Rattle.sw_link.proofs.course.Course.add.Goals as goal

pub invariant_of-self-2 : goal.invariant_of-self-2
invariant_of-self-2 c = rw c.in_ok-push.ensures.items (course_more c.self.inside.front c.self.inside.at c.self.inside.pieces.items (record { need = c.args.need; bytes = c.args.piece }) c.requires c.self.invariant)
