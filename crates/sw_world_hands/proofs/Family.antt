-- Workers and task workers as a family of actors.
use Rattle.std.proofs.Common.{◌≡◌, ℕ, Bool, true, false, List, [], ◌∷◌, refl, ap, ◌∙◌, sym, subst, arith, inl, inr}
use Rattle.std.proofs.lemmas.Bool.Decides.{nat_tests}
use Rattle.sw_lists.specs.Lists.{Each}
use Rattle.sw_lists.proofs.Lists.{each_append, append_none}
use Rattle.sw_step.specs.declared.actor.ActorId.{ActorId}
use Rattle.sw_step.specs.declared.actor.ActorId.TheVariants.{Door, Reactor, Worker, Tasker}
use Rattle.sw_record.specs.Words.{Event, Act, Send, Close, Reset, Bind, Exist, Info, TaskAct, FinishAct, Table, Stats, Shutdown, Done, Dst, Any, At, Answer, Sent, Asked, BindOk, Exists, InfoIs, Posted, Finished, TableIs, TableRefused, Count, NoSession, Bound, BadUid, WrongMode, TaskFull, BadTarget, NoTaskWorkers, IdsSpent, NotHere, NoTable, Call, CallFault, Log}
use Rattle.sw_column.specs.declared.column.Column.{Column}
use Rattle.sw_port_book.specs.declared.answers.Look.{Look}
use Rattle.sw_port_book.specs.declared.answers.BindFault.{BindFault}
use Rattle.sw_port_shelf.specs.declared.shelf.Placed.{Placed}
use Rattle.std.specs.Prelude.{◌^◌, ◌-◌, ◌==◌, Option, Result, Ok, Err, if◌then◌else◌}
use Rattle.sw_record.specs.Terms.{Terms}
use Rattle.sw_record.specs.Fits.{is_own}
use Rattle.sw_past.specs.Messages.{Message, FreshMsg, SendMsg, CloseMsg, ResetMsg, Bye, EventMsg, OverMsg, NoMore}
use Rattle.sw_past.specs.Views.{for_hand}
use Rattle.sw_past.specs.Past.{Mail}
use Rattle.sw_past.specs.Routes.{IsHand}
use Rattle.sw_world_ports.specs.Calls.{Did, MayDo, Stops}
use Rattle.sw_world_laws.specs.Turns.{Ask, Got, GotStart, Diary, no_diary, with_dids}
use Rattle.sw_world_laws.specs.Actors.{IsSettled, Grows, Actors}
use Rattle.sw_world_laws.specs.Account.{untold}
use Rattle.sw_hand_laws.specs.Hand.{Got as HandGot, Start, Took, Empty, Pushed, Full, Nothing, Ports, Stage, Idle, Acting, Sending, Leaving, Stopping, Stopped, Hand, is_there, turn}
use Rattle.sw_hand_laws.specs.Kept.{sent}
use Rattle.sw_hand_laws.specs.Settled.{IsSettled as HandSettled}
use Rattle.sw_hand_laws.proofs.Course.{new_good}
use Rattle.sw_hand_laws.proofs.Settled.{turn_settles}
use Rattle.sw_world_hands.specs.Calls.{looks, binds, searches, posts_fit, posts_to, posts_some, posts, called, calls, makes, counts, sends, hears, takes, idles, turn_calls}
use Rattle.sw_world_hands.specs.Hands.{HandState, Crews, new_hand, is_hand, hand_got, turned, dids_of, HandTurn, HandFails, HandHolds, HandOver, HandLost}
use Rattle.sw_world_hands.proofs.Hands.{hand_keeps, law_shown, law_shows, after_shows, over_done}

-- who makes which calls
may_look : (t : Terms) (y : ActorId) (s : ℕ) (l : Look) (v : Bool) → Each (MayDo t y) (looks s l v)
may_look t y s l true = tt
may_look t y s l false = (tt, tt)

may_bind : (t : Terms) (y : ActorId) (s u : ℕ) (r : Result (Unit {0}) BindFault) (v : Bool) → IsHand t y → Each (MayDo t y) (binds s u r v)
may_bind t y s u r true h = (h, tt)
may_bind t y s u r false h = tt

may_search : (t : Terms) (y : ActorId) (next : ℕ) (d : Dst) (idle : Option ℕ) → Each (MayDo t y) (searches t next d idle)
may_search t y next (At k) idle = tt
may_search t y next Any idle = (tt, tt)

may_post_fit : (t : Terms) (y : ActorId) (next : ℕ) (d : Dst) (idle : Option ℕ) (v : Bool) → Each (MayDo t y) (posts_fit t next d idle v)
may_post_fit t y next d idle true = tt
may_post_fit t y next d idle false = may_search t y next d idle

may_post_to : (t : Terms) (y : ActorId) (next : ℕ) (d : Dst) (idle : Option ℕ) (v : Bool) → Each (MayDo t y) (posts_to t next d idle v)
may_post_to t y next d idle true = may_post_fit t y next d idle (next == 2 ^ 64 - 1)
may_post_to t y next d idle false = tt

may_post_some : (t : Terms) (y : ActorId) (next : ℕ) (d : Dst) (idle : Option ℕ) (v : Bool) → Each (MayDo t y) (posts_some t next d idle v)
may_post_some t y next d idle true = tt
may_post_some t y next d idle false = may_post_to t y next d idle (is_there t d)

may_post : (t : Terms) (y : ActorId) (next : ℕ) (d : Dst) (idle : Option ℕ) → Each (MayDo t y) (posts t y next d idle)
may_post t (Worker w) next d idle = may_post_some t (Worker w) next d idle (t.tasker_num == 0)
may_post t Door next d idle = tt
may_post t (Reactor n) next d idle = tt
may_post t (Tasker k) next d idle = tt

may_called : (t : Terms) (y : ActorId) (c : Call) (p : Ports) (r : Result Placed CallFault) → IsHand t y → MayDo t y (called c p.cells r)
may_called t y c p (Ok q) h = h
may_called t y c p (Err f) h = tt

may_call : (t : Terms) (y : ActorId) (c : Call) (p : Ports) (cs : List Column) → IsHand t y → Each (MayDo t y) (calls c p cs)
may_call t y c p [] h = tt
may_call t y c p (x ∷ xs) h = (may_called t y c p p.called h, tt)

may_make : (t : Terms) (y : ActorId) (h : Hand) (e : Event) (p : Ports) (act : Act) → IsHand t y → Each (MayDo t y) (makes t y h e p act)
may_make t y h e p (Send s b) i = may_look t y s p.look (is_own t h.own e s)
may_make t y h e p (Close s) i = may_look t y s p.look (is_own t h.own e s)
may_make t y h e p (Reset s) i = may_look t y s p.look (is_own t h.own e s)
may_make t y h e p (Bind s u) i = may_bind t y s u p.binding (t.mode == 5) i
may_make t y h e p (Exist s) i = may_look t y s p.look (is_own t h.own e s)
may_make t y h e p (Info s) i = may_look t y s p.look (if t.mode == 5 then false else is_own t h.own e s)
may_make t y h e p (TaskAct d b) i = may_post t y h.next d p.idle
may_make t y h e p (FinishAct b) i = tt
may_make t y h e p (Table c) i = may_call t y c p t.columns i
may_make t y h e p (Stats c) i = (i, tt)
may_make t y h e p Shutdown i = (inr i, tt)
may_make t y h e p Done i = tt

may_count : (t : Terms) (y : ActorId) (a : Answer) → IsHand t y → Each (MayDo t y) (counts a)
may_count t y Sent h = (h, tt)
may_count t y Asked h = tt
may_count t y BindOk h = tt
may_count t y Exists h = tt
may_count t y (InfoIs f u) h = tt
may_count t y (Posted n) h = (h, tt)
may_count t y Finished h = (h, tt)
may_count t y (TableIs at r cells) h = tt
may_count t y (TableRefused n) h = tt
may_count t y (Count n) h = tt
may_count t y (NoSession n) h = tt
may_count t y (Bound n) h = tt
may_count t y BadUid h = tt
may_count t y WrongMode h = tt
may_count t y TaskFull h = tt
may_count t y BadTarget h = tt
may_count t y NoTaskWorkers h = tt
may_count t y IdsSpent h = tt
may_count t y NotHere h = tt
may_count t y NoTable h = tt

may_send : (t : Terms) (y : ActorId) (a : Answer) (got : HandGot) → IsHand t y → Each (MayDo t y) (sends a got)
may_send t y a Pushed h = may_count t y a h
may_send t y a Start h = tt
may_send t y a (Took x m) h = tt
may_send t y a Empty h = tt
may_send t y a (Full m) h = tt
may_send t y a Nothing h = tt

may_hear : (t : Terms) (y : ActorId) (es : List Event) → Each (MayDo t y) (hears es)
may_hear t y [] = tt
may_hear t y (e ∷ es) = (tt, tt)

may_take : (t : Terms) (y : ActorId) (m : Message) → Each (MayDo t y) (takes y m)
may_take t y (EventMsg e) = may_hear t y (for_hand y e)
may_take t y (FreshMsg ip s) = tt
may_take t y (SendMsg s b) = tt
may_take t y (CloseMsg s) = tt
may_take t y (ResetMsg s) = tt
may_take t y (Bye s) = tt
may_take t y (OverMsg id) = tt
may_take t y NoMore = tt

may_idle : (t : Terms) (y : ActorId) (got : HandGot) → Each (MayDo t y) (idles y got)
may_idle t y (Took x m) = may_take t y m
may_idle t y Empty = (tt, tt)
may_idle t y Start = tt
may_idle t y Pushed = tt
may_idle t y (Full m) = tt
may_idle t y Nothing = tt

may_turn : (t : Terms) (y : ActorId) (p : Ports) (st : Stage) (h : Hand) (got : HandGot) → IsHand t y → Each (MayDo t y) (turn_calls t y p st h got)
may_turn t y p Idle h got i = may_idle t y got
may_turn t y p (Acting e act) h got i = may_make t y h e p act i
may_turn t y p (Sending e act to m a) h got i = may_send t y a got i
may_turn t y p (Leaving e to m) h got i = tt
may_turn t y p (Stopping k) h got i = tt
may_turn t y p Stopped h got i = tt

pub hands_may : (t : Terms) (limit : ℕ) (y : ActorId) (s : HandState) (got : Got) (dids : List Did) (u : HandState) (ask : Ask) → HandTurn t limit y s got dids u ask → Each (MayDo t y) dids
hands_may t limit y s got dids u ask turn = subst (Each (MayDo t y)) (sym turn.calls) (may_turn t y turn.ports s.stage s.hand (hand_got got) turn.is)

pub fails_may : (t : Terms) (y : ActorId) (s : HandState) (got : Got) (dids : List Did) (u : HandState) → HandFails t y s got dids u → Each (MayDo t y) dids
fails_may t y s got dids u turn = subst (Each (MayDo t y)) (sym turn.calls) (each_append (MayDo t y) (dids_of t y turn.ports s got) (Stops ∷ []) (may_turn t y turn.ports s.stage s.hand (hand_got got) turn.is) (inr turn.is, tt))

-- the log goes on by one entry
settled_as : (t : Terms) (y : ActorId) (log : Log) (pushed : Mail) → HandSettled t y log pushed → IsSettled t y log pushed
settled_as t y log pushed s = record { talk = s.talk; tasks = s.tasks; finishes = s.finishes }

pub hands_grow : (t : Terms) (limit left : ℕ) (y : ActorId) (s : HandState) (got : Got) (dids : List Did) (u : HandState) (ask : Ask) (d : Diary) → HandTurn t limit y s got dids u ask → HandHolds t limit left y s got d → Grows t y s.hand.log u.hand.log d.pushed
hands_grow t limit left y s got dids u ask d turn l =
    let q : u.hand.log ≡ (turned t y limit turn.ports s got).hand.log = ap (λ (x : HandState). x.hand.log) turn.state in
    elim (turn_settles t y limit turn.ports s.stage s.hand (hand_got got) l.is turn.fit l.fits l.kept) [
      | inl same ↦ inl (q ∙ same)
      | inr (x, (more, settled)) ↦ inr (x, (q ∙ more, λ i. subst (λ (log : Log). IsSettled t y log d.pushed) (sym q) (subst (IsSettled t y (turned t y limit turn.ports s got).hand.log) l.pushed (settled_as t y (turned t y limit turn.ports s got).hand.log (sent t s.stage (hand_got got) s.hand.pushed) settled))))
    ]

-- at the start
pub hand_there : (t : Terms) (y : ActorId) → is_hand t y ≡ true → IsHand t y
hand_there t Door q = absurd (cc)
hand_there t (Reactor n) q = absurd (cc)
hand_there t (Worker w) q = inl (w, (grind (arith, nat_tests), refl))
hand_there t (Tasker k) q = inr (k, (grind (arith, nat_tests), refl))

pub hands_start : (t : Terms) (limit left : ℕ) (y : ActorId) → is_hand t y ≡ true → HandHolds t limit left y (new_hand left) GotStart no_diary
hands_start t limit left y q =
    let g = new_good t y limit left in
    record {
      is = hand_there t y q;
      fits = tt;
      kept = g.kept;
      fitting = g.fitting;
      generations = g.generations;
      took = refl;
      pushed = refl;
      calls = record {
        lives = refl;
        others = refl;
        passes = refl;
        bounds = refl;
        infos = λ p h. h;
        seat = refl;
        spents = refl;
        sums = refl;
        stops = refl;
        adds = λ c. refl;
        least = λ before behind c n e. absurd (let i = (append_none before ((Stats c, Count n) ∷ behind) (sym e)).1 in cc);
      };
      fulls = λ n. absurd (n refl);
      refused = tt;
    }

pub hands_fail : (t : Terms) (limit left : ℕ) (y : ActorId) (s : HandState) (got : Got) (dids : List Did) (u : HandState) (d : Diary) → HandFails t y s got dids u → HandHolds t limit left y s got d → HandLost t y u (with_dids d dids)
hands_fail t limit left y s got dids u d turn l = subst (λ (x : HandState). HandLost t y x (with_dids d dids)) (sym turn.state) (record { is = l.is; law = (law_shown t limit left y s got d l).hand })

-- workers and task workers; the crews say how many events a handler is given and how many follow the first
abbrev pub hands : (t : Terms) → Crews → Actors t
hands t crews =
    record {
      mine = is_hand t;
      State = HandState;
      start = λ y. new_hand (crews.left y);
      log = λ s. s.hand.log;
      kept = λ s. [];
      told = λ s n. untold;
      has = λ s n. false;
      Turn = λ y s got feed dids u ask. HandTurn t crews.limit y s got dids u ask;
      Fails = λ y s got feed dids u. HandFails t y s got dids u;
      Quiet = λ y s got d. HandHolds t crews.limit (crews.left y) y s got d;
      Done = λ y s d. HandOver t crews.limit (crews.left y) y s d;
      Lost = HandLost t;
      starts = λ y. hands_start t crews.limit (crews.left y) y;
      starts_empty = λ y. refl;
      keeps = λ y s got feed dids u ask d turn q. hand_keeps t crews.limit (crews.left y) y s got dids u ask d turn q;
      fails = λ y s got feed dids u d turn q. hands_fail t crews.limit (crews.left y) y s got dids u d turn q;
      may = λ y s got feed dids u ask turn. hands_may t crews.limit y s got dids u ask turn;
      fails_may = λ y s got feed dids u turn. fails_may t y s got dids u turn;
      grows = λ y s got feed dids u ask d turn q. hands_grow t crews.limit (crews.left y) y s got dids u ask d turn q;
      fails_still = λ y s got feed dids u turn. ap (λ (x : HandState). x.hand.log) turn.state;
      shows = λ y s got d q. law_shows t crews.limit (crews.left y) y s got d q;
      shows_after = λ y s ask d q. after_shows t crews.limit (crews.left y) y s ask d q;
      done_shows = λ y s d q. over_done t crews.limit (crews.left y) y s d q;
      lost_shows = λ y s d q. record { hand = q.is; law = q.law };
    }
