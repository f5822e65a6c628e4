-- What a reactor settles leaves its sessions as they are, but for one that comes.
use Rattle.std.proofs.Common.{◌≡◌, ℕ, Bool, true, false, List, [], ◌∷◌, ◌++◌, refl, ap, ◌∙◌, sym, append-nil, append_assoc}
use Rattle.sw_lists.specs.Lists.{collect}
use Rattle.sw_lists.proofs.Lists.{collect-append}
use Rattle.sw_data.specs.declared.messages.Got.{Got as TableGot}
use Rattle.sw_data.specs.declared.messages.Got.TheVariants as gots
use Rattle.sw_record.specs.Words.{Event, Connect, Packet, Closed, Finish, Task}
use Rattle.sw_record.specs.Terms.{Terms}
use Rattle.sw_past.specs.Messages.{Message, FreshMsg, SendMsg, CloseMsg, ResetMsg, Bye, EventMsg, OverMsg, NoMore}
use Rattle.sw_past.specs.Views.{fresh_in}
use Rattle.sw_reactor_table.specs.Conn.{Conn, fresh, takes, noted, holds, at_event}
use Rattle.sw_reactor_table.specs.Reactor.{Reactor as Table, Ask, Take, Push, Nothing, Rest, Finished, all, each_conn, settled, settled_msg, settled_push, settled_full, pushed_by, full_by}
use Rattle.sw_reactor_table.specs.Quiet.{session_in}
use Rattle.sw_reactor_table.proofs.Lift.{map_append}
use Rattle.sw_reactor_table.proofs.Law.{map_same, at_session}
use Rattle.sw_reactor_table.proofs.Turn.{takes_session}

-- the session that comes
abbrev pub comes : TableGot Message → List ℕ
comes (gots.Took m) = fresh_in m
comes gots.Start = []
comes gots.Empty = []
comes gots.Pushed = []
comes (gots.Full m) = []
comes gots.Nothing = []

-- those of its connections
abbrev pub here : Table → List ℕ
here s = collect session_in (all s)

each_here : (f : Conn → Conn) → ((c : Conn) → (f c).session ≡ c.session) → (r : Table) → here (each_conn f r) ≡ here r ++ []
each_here f same r = ap (collect session_in) (sym (map_append f r.done r.next)) ∙ map_same f same (all r) ∙ sym (append-nil (here r))

noted_same : (t : Terms) (e : Event) (c : Conn) → (noted t e c).session ≡ c.session
noted_same t (Connect s) c = refl
noted_same t (Packet s i b) c = refl
noted_same t (Closed s) c = refl
noted_same t (Finish id b) c = refl
noted_same t (Task v id b) c = refl

msg_here : (t : Terms) (starved : Bool) (m : Message) (r : Table) → here (settled_msg t starved m r) ≡ here r ++ fresh_in m
msg_here t starved (FreshMsg ip s) r = ap (collect session_in) (sym (append_assoc r.done r.next (fresh starved ip s ∷ []))) ∙ collect-append session_in (all r) (fresh starved ip s ∷ [])
msg_here t starved (SendMsg s b) r = each_here (takes t starved (SendMsg s b)) (takes_session t starved (SendMsg s b)) r
msg_here t starved (CloseMsg s) r = each_here (takes t starved (CloseMsg s)) (takes_session t starved (CloseMsg s)) r
msg_here t starved (ResetMsg s) r = each_here (takes t starved (ResetMsg s)) (takes_session t starved (ResetMsg s)) r
msg_here t starved (Bye s) r = each_here (takes t starved (Bye s)) (takes_session t starved (Bye s)) r
msg_here t starved (EventMsg e) r = sym (append-nil (here r))
msg_here t starved (OverMsg id) r = sym (append-nil (here r))
msg_here t starved NoMore r = sym (append-nil (here r))

push_here : (t : Terms) (m : Message) (r : Table) → here (settled_push t m r) ≡ here r ++ []
push_here t (EventMsg e) r = each_here (at_event (noted t e) e) (at_session (noted t e) e (noted_same t e)) r
push_here t (FreshMsg ip s) r = sym (append-nil (here r))
push_here t (SendMsg s b) r = sym (append-nil (here r))
push_here t (CloseMsg s) r = sym (append-nil (here r))
push_here t (ResetMsg s) r = sym (append-nil (here r))
push_here t (Bye s) r = sym (append-nil (here r))
push_here t (OverMsg id) r = sym (append-nil (here r))
push_here t NoMore r = sym (append-nil (here r))

full_here : (w : ℕ) (m : Message) (r : Table) → here (settled_full w m r) ≡ here r ++ []
full_here w (EventMsg e) r = each_here (at_event (holds w e) e) (at_session (holds w e) e (λ c. refl)) r
full_here w (FreshMsg ip s) r = sym (append-nil (here r))
full_here w (SendMsg s b) r = sym (append-nil (here r))
full_here w (CloseMsg s) r = sym (append-nil (here r))
full_here w (ResetMsg s) r = sym (append-nil (here r))
full_here w (Bye s) r = sym (append-nil (here r))
full_here w (OverMsg id) r = sym (append-nil (here r))
full_here w NoMore r = sym (append-nil (here r))

pushed_here : (t : Terms) (ask : Ask) (r : Table) → here (pushed_by t ask r) ≡ here r ++ []
pushed_here t (Push w m) r = push_here t m r
pushed_here t Take r = sym (append-nil (here r))
pushed_here t Nothing r = sym (append-nil (here r))
pushed_here t Rest r = sym (append-nil (here r))
pushed_here t Finished r = sym (append-nil (here r))

back_here : (ask : Ask) (m : Message) (r : Table) → here (full_by ask m r) ≡ here r ++ []
back_here (Push w x) m r = full_here w m r
back_here Take m r = sym (append-nil (here r))
back_here Nothing m r = sym (append-nil (here r))
back_here Rest m r = sym (append-nil (here r))
back_here Finished m r = sym (append-nil (here r))

pub settled_here : (t : Terms) (starved : Bool) (got : TableGot Message) (s : Table) → here (settled t starved got s) ≡ here s ++ comes got
settled_here t starved gots.Start s = sym (append-nil (here s))
settled_here t starved (gots.Took m) s = msg_here t starved m (record s { empty = false })
settled_here t starved gots.Empty s = sym (append-nil (here s))
settled_here t starved gots.Pushed s = pushed_here t s.last s
settled_here t starved (gots.Full m) s = back_here s.last m s
settled_here t starved gots.Nothing s = sym (append-nil (here s))
