-- The handler Echo.
use Rattle.sw_data.specs.declared.events.Event.{Event}
use Rattle.sw_data.specs.declared.events.Event.TheVariants.{Connect, Packet, Closed, Finish, Task}
use Rattle.sw_data.specs.declared.acts.Act.{Act}
use Rattle.sw_data.specs.declared.acts.Act.TheVariants.{Send, Finish as FinishAct, Done}
use Rattle.sw_data.specs.declared.given.Given.{Given}
use Rattle.sw_data.specs.declared.given.Given.TheVariants.{Event as EventGiven, Answer as AnswerGiven}

-- each packet is sent back on its session, each task finished with its bytes, and all else is done
abbrev pub echo_on : Event → Act
echo_on (Connect s) = Done
echo_on (Packet s i b) = Send s b
echo_on (Closed s) = Done
echo_on (Finish id b) = Done
echo_on (Task w id b) = FinishAct b

abbrev pub echo_act : Given → Act
echo_act (EventGiven e) = echo_on e
echo_act (AnswerGiven a) = Done

-- what a handler without a text is made with
pub data Nothing : Type 0 where
  nothing : Nothing
