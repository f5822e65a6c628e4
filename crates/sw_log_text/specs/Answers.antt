-- The texts of answers.
use Rattle.std.specs.Prelude.{ℕ, List, ◌++◌, codes}
use Rattle.sw_base.specs.declared.table.Value.{Value}
use Rattle.sw_base.specs.declared.table.Reply.{Reply}
use Rattle.sw_base.specs.declared.table.CallFault.{CallFault}
use Rattle.sw_base.specs.declared.table.CallFault.TheVariants.{Busy, Spent, BadKey, NoColumn, NotInt, BadValue, Range}
use Rattle.sw_data.specs.declared.answers.Answer.{Answer}
use Rattle.sw_data.specs.declared.answers.Answer.TheVariants as answers
use Rattle.sw_log_text.specs.Values.{label_text, reply_text}

-- why the Table refused a call; a worker makes a call that found it busy again, and no handler is told so
abbrev pub refusal_text : CallFault → List ℕ
refusal_text (Busy word seen) = codes "refused busy"
refusal_text (Spent calls) = label_text (codes "refused spent ") calls
refusal_text BadKey = codes "refused badkey"
refusal_text NoColumn = codes "refused nocolumn"
refusal_text NotInt = codes "refused notint"
refusal_text BadValue = codes "refused badvalue"
refusal_text Range = codes "refused range"

abbrev pub info_text : ℕ → ℕ → List ℕ
info_text fd uid = label_text (codes "info ") fd ++ label_text (codes " ") uid

abbrev pub table_text : ℕ → Reply → List Value → List ℕ
table_text at reply cells = label_text (codes "table ") at ++ codes " " ++ reply_text reply cells

-- what an act came to
abbrev pub answer_text : Answer → List ℕ
answer_text answers.Sent = codes "sent"
answer_text answers.Asked = codes "asked"
answer_text answers.BindOk = codes "bindok"
answer_text answers.Exists = codes "exists"
answer_text (answers.Info fd uid) = info_text fd uid
answer_text (answers.Posted id) = label_text (codes "posted ") id
answer_text answers.Finished = codes "finished"
answer_text (answers.Table at reply cells) = table_text at reply cells
answer_text (answers.TableRefused fault) = refusal_text fault
answer_text (answers.Count n) = label_text (codes "count ") n
answer_text (answers.NoSession seen) = label_text (codes "nosession ") seen
answer_text (answers.Bound uid) = label_text (codes "bound ") uid
answer_text answers.BadUid = codes "baduid"
answer_text answers.WrongMode = codes "wrongmode"
answer_text answers.TaskFull = codes "taskfull"
answer_text answers.BadTarget = codes "badtarget"
answer_text answers.NoTaskWorkers = codes "notaskworkers"
answer_text answers.IdsSpent = codes "idsspent"
answer_text answers.NotHere = codes "nothere"
answer_text answers.NoTable = codes "notable"
