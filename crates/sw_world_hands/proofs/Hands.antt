-- Each turn of a hand keeps its law, whatever the pipe then answers.
use Rattle.std.proofs.Common.{◌≡◌, ◌⊎◌, ℕ, ◌+◌, List, [], ◌∷◌, ◌++◌, refl, ap, ◌∙◌, sym, subst, arith, inl, inr}
use Rattle.std.proofs.lemmas.Bool.{cases_lt}
use Rattle.sw_lists.specs.Lists.{collect, Has}
use Rattle.sw_step.specs.declared.actor.ActorId.{ActorId}
use Rattle.sw_step.specs.declared.actor.ActorId.TheVariants.{Door, Reactor, Worker, Tasker}
use Rattle.sw_record.specs.Words.{Event, Send, Close, Reset, Bind, Exist, Info, TaskAct, FinishAct, Table, Stats, Shutdown, Done, Dst, Answer}
use Rattle.sw_record.specs.Terms.{Terms}
use Rattle.sw_past.specs.Messages.{Message, NoMore}
use Rattle.sw_past.specs.Past.{Mail, bare}
use Rattle.sw_past.specs.Routes.{IsHand}
use Rattle.sw_past.specs.Views.{no_more}
use Rattle.sw_world_ports.specs.Calls.{Did}
use Rattle.sw_world_ports.proofs.Haves.{has_left, has_right, has_split, has_one}
use Rattle.sw_world_laws.specs.Turns.{Ask, AskTake, AskPush, AskNothing, AskRest, AskFinished, Got, GotStart, GotTook, GotEmpty, GotPushed, GotFull, GotNothing, Diary, with_dids, HasPipe, After}
use Rattle.sw_world_laws.specs.Shows.{EndsCame, Shows}
use Rattle.sw_world_laws.specs.Done.{DoneShows}
use Rattle.sw_world_laws.specs.Account.{untold}
use Rattle.sw_hand_laws.specs.Hand.{Got as HandGot, Took, Pushed, Full, Ask as HandAsk, Take, Push, Rest, AskNothing as NothingAsked, AskFinished as FinishedAsked, Ports, Stage, Idle, Acting, Sending, Leaving, Stopping, Stopped, Hand, goodbye, turn}
use Rattle.sw_hand_laws.specs.Keeps.{IsPresent, Carried, CPost}
use Rattle.sw_hand_laws.specs.Kept.{Kept, AskFits, After as PipeGives, Shown, taken, sent, flight}
use Rattle.sw_hand_laws.specs.Fits.{Fitting}
use Rattle.sw_hand_laws.specs.Moved.{PortsFit}
use Rattle.sw_hand_laws.specs.Generations.{Generations}
use Rattle.sw_hand_laws.proofs.Turns.{turn_keeps}
use Rattle.sw_hand_laws.proofs.Fitting.{turn_fits}
use Rattle.sw_hand_laws.proofs.Generations.{turn_generations}
use Rattle.sw_hand_laws.proofs.Moments.{pipe_fits, shows, shown_still, finished}
use Rattle.sw_hand_laws.proofs.Ends.{bare_more}
use Rattle.sw_world_hands.specs.Hands.{HandState, hand_got, world_ask, turned, dids_of, HandTurn, HadNoRoom, Refused, CallsShow, HandHolds, HandOver}
use Rattle.sw_world_hands.proofs.Adding.{FullNow, turn_adds}
use Rattle.sw_world_hands.proofs.Calls.{more_calls}
use Rattle.sw_world_hands.proofs.Mail.{turn_mail}
use Rattle.sw_world_hands.proofs.Ended.{came_as, hand_ended, hand_still}
use Rattle.sw_world_hands.proofs.Showing.{shown_as, finished_as, shows_hand, hand_done}

-- who has a pipe is there
pub present : (t : Terms) (to : ActorId) → HasPipe t to → IsPresent t to
present t Door h = h
present t (Reactor n) h = h
present t (Worker n) h = h
present t (Tasker n) h = h

-- one more that found no room
pub no_room_more : (t : Terms) (ms : Mail) (e : ActorId × Message) → HadNoRoom t ms → HadNoRoom t (ms ++ e ∷ [])
no_room_more t ms e (n, (lt, (m, h))) = (n, (lt, (m, has_left (Tasker n, m) ms (e ∷ []) h)))

-- a task that found its pipe full is a push that found no room
full_room : (t : Terms) (y : ActorId) (next : ℕ) (e : Event) (d : Dst) (b : List ℕ) (to : ActorId) (m n : Message) (a : Answer) (refused : Mail) → Carried t y next e (TaskAct d b) to m a → IsPresent t to → Has (to, n) refused → HadNoRoom t refused
full_room t y next e d b to m n a refused (CPost w k dst bytes q f r) there has = (k, (there, (n, has)))

now_room : (t : Terms) (y : ActorId) (st : Stage) (h : Hand) (got : Got) (refused : Mail) → Kept t y st h → Fitting t y st h → Refused st got refused → FullNow st (hand_got got) → HadNoRoom t refused
now_room t y (Sending e (TaskAct d b) to m a) h (GotFull n) refused k f r now = full_room t y h.next e d b to m n a refused k.speaks.carries f.pending.1 r
now_room t y (Sending e (TaskAct d b) to m a) h GotStart refused k f r now = absurd now
now_room t y (Sending e (TaskAct d b) to m a) h (GotTook x) refused k f r now = absurd now
now_room t y (Sending e (TaskAct d b) to m a) h GotEmpty refused k f r now = absurd now
now_room t y (Sending e (TaskAct d b) to m a) h GotPushed refused k f r now = absurd now
now_room t y (Sending e (TaskAct d b) to m a) h GotNothing refused k f r now = absurd now
now_room t y (Sending e (Send s b) to m a) h got refused k f r now = absurd now
now_room t y (Sending e (Close s) to m a) h got refused k f r now = absurd now
now_room t y (Sending e (Reset s) to m a) h got refused k f r now = absurd now
now_room t y (Sending e (Bind s u) to m a) h got refused k f r now = absurd now
now_room t y (Sending e (Exist s) to m a) h got refused k f r now = absurd now
now_room t y (Sending e (Info s) to m a) h got refused k f r now = absurd now
now_room t y (Sending e (FinishAct b) to m a) h got refused k f r now = absurd now
now_room t y (Sending e (Table c) to m a) h got refused k f r now = absurd now
now_room t y (Sending e (Stats c) to m a) h got refused k f r now = absurd now
now_room t y (Sending e Shutdown to m a) h got refused k f r now = absurd now
now_room t y (Sending e Done to m a) h got refused k f r now = absurd now
now_room t y Idle h got refused k f r now = absurd now
now_room t y (Acting e act) h got refused k f r now = absurd now
now_room t y (Leaving e to m) h got refused k f r now = absurd now
now_room t y (Stopping j) h got refused k f r now = absurd now
now_room t y Stopped h got refused k f r now = absurd now

-- the law behind a turn, before the pipe answers
pub record Between (t : Terms) (limit left : ℕ) (y : ActorId) (s : HandState) (ask : HandAsk) (d : Diary) : Type 0 where
  pub is : IsHand t y
  pub asked : AskFits t s.stage ask
  pub kept : Kept t y s.stage s.hand
  pub fitting : Fitting t y s.stage s.hand
  pub generations : Generations limit (left + 1) s.hand
  pub took : bare s.hand.took ≡ bare d.took
  pub pushed : s.hand.pushed ≡ d.pushed
  pub calls : CallsShow s.hand.seen s.hand.log d.dids
  pub fulls : ¬ (s.hand.seen.fulls ≡ []) → HadNoRoom t d.refused

still_full : {A : Type 0} (now : Type 0) (old new : List A) (room : Type 0) → (new ≡ old) ⊎ now → (¬ (old ≡ []) → room) → (now → room) → ¬ (new ≡ []) → room
still_full now old new room (inl q) h k n = h (λ e. n (q ∙ e))
still_full now old new room (inr i) h k n = k i

pub between : (t : Terms) (limit left : ℕ) (y : ActorId) (s : HandState) (got : Got) (d : Diary) (p : Ports) → PortsFit t s.stage s.hand p → HandHolds t limit left y s got d → Between t limit left y (record { stage = (turned t y limit p s got).stage; hand = (turned t y limit p s got).hand }) (turned t y limit p s got).ask (with_dids d (dids_of t y p s got))
between t limit left y s got d p u l =
    let g : HandGot = hand_got got in
    let went = turn_keeps t y limit p s.stage s.hand g l.is l.fits l.kept in
    let adds = turn_adds t y limit p s.stage s.hand g l.fits l.kept in
    let mail = turn_mail t y limit p s.stage s.hand g u l.fits in
    record {
      is = l.is;
      asked = went.fits;
      kept = went.kept;
      fitting = turn_fits t y limit p s.stage s.hand g u l.fits l.kept l.fitting;
      generations = turn_generations t y limit (left + 1) p s.stage s.hand g u l.fits l.kept l.generations;
      took = ap bare mail.0 ∙ l.took;
      pushed = mail.1 ∙ l.pushed;
      calls = more_calls (FullNow s.stage g) s.hand.seen (turned t y limit p s got).hand.seen s.hand.log (turned t y limit p s got).hand.log d.dids (dids_of t y p s got) l.calls adds;
      fulls = still_full (FullNow s.stage g) s.hand.seen.fulls (turned t y limit p s got).hand.seen.fulls (HadNoRoom t d.refused) adds.fulls l.fulls (now_room t y s.stage s.hand got d.refused l.kept l.fitting l.refused);
    }

-- what is asked for is on its way
asked_flight : (t : Terms) (st : Stage) (to : ActorId) (m : Message) → AskFits t st (Push to m) → flight t st ≡ (to, m) ∷ []
asked_flight t Idle to m (inl q) = absurd (cc)
asked_flight t Idle to m (inr (inl q)) = absurd (cc)
asked_flight t Idle to m (inr (inr q)) = absurd (cc)
asked_flight t (Acting e act) to m q = absurd (cc)
asked_flight t (Sending e act to2 m2 a) to m q = let i : to ≡ to2 = cc in let j : m ≡ m2 = cc in ap (λ (x : ActorId). (x, m2) ∷ []) (sym i) ∙ ap (λ (x : Message). (to, x) ∷ []) (sym j)
asked_flight t (Leaving e to2 m2) to m q = let i : to ≡ to2 = cc in let j : m ≡ m2 = cc in ap (λ (x : ActorId). (x, m2) ∷ []) (sym i) ∙ ap (λ (x : Message). (to, x) ∷ []) (sym j)
asked_flight t (Stopping k) to m q = let i : to ≡ goodbye t k = cc in let j : m ≡ NoMore = cc in ap (λ (x : ActorId). (x, NoMore) ∷ []) (sym i) ∙ ap (λ (x : Message). (to, x) ∷ []) (sym j)
asked_flight t Stopped to m q = absurd (cc)

-- a push that found no room is the one that was asked for
asked_refused : (t : Terms) (st : Stage) (to : ActorId) (m : Message) (ms : Mail) → AskFits t st (Push to m) → Refused st (GotFull m) (ms ++ (to, m) ∷ [])
asked_refused t Idle to m ms q = tt
asked_refused t (Acting e act) to m ms q = tt
asked_refused t (Sending e act to2 m2 a) to m ms q = let i : to ≡ to2 = cc in subst (λ (x : ActorId). Has (x, m) (ms ++ (to, m) ∷ [])) i (has_right (to, m) ms ((to, m) ∷ []) (0, refl))
asked_refused t (Leaving e to2 m2) to m ms q = tt
asked_refused t (Stopping k) to m ms q = tt
asked_refused t Stopped to m ms q = tt

-- nothing is refused where nothing was full
no_refused : (st : Stage) (got : Got) (ms : Mail) → ((m : Message) → got ≡ GotFull m → ⊥) → Refused st got ms
no_refused Idle got ms n = tt
no_refused (Acting e act) got ms n = tt
no_refused (Leaving e to m) got ms n = tt
no_refused (Stopping k) got ms n = tt
no_refused Stopped got ms n = tt
no_refused (Sending e act to m a) GotStart ms n = tt
no_refused (Sending e act to m a) (GotTook x) ms n = tt
no_refused (Sending e act to m a) GotEmpty ms n = tt
no_refused (Sending e act to m a) GotPushed ms n = tt
no_refused (Sending e act to m a) (GotFull x) ms n = absurd (n x refl)
no_refused (Sending e act to m a) GotNothing ms n = tt

-- what was got changes neither mail
plain : (t : Terms) (limit left : ℕ) (y : ActorId) (s : HandState) (ask : HandAsk) (got : Got) (d : Diary) → taken (hand_got got) s.hand.took ≡ s.hand.took → sent t s.stage (hand_got got) s.hand.pushed ≡ s.hand.pushed → ((m : Message) → got ≡ GotFull m → ⊥) → PipeGives t ask (hand_got got) → Between t limit left y s ask d → HandHolds t limit left y s got d
plain t limit left y s ask got d q r n gives b = record {
  is = b.is;
  fits = pipe_fits t s.stage ask (hand_got got) b.asked gives;
  kept = b.kept;
  fitting = b.fitting;
  generations = b.generations;
  took = ap bare q ∙ b.took;
  pushed = r ∙ b.pushed;
  calls = b.calls;
  fulls = b.fulls;
  refused = no_refused s.stage got d.refused n;
}

took_one : (t : Terms) (limit left : ℕ) (y : ActorId) (s : HandState) (d : Diary) (who : ActorId) (m : Message) → Between t limit left y s Take d → HandHolds t limit left y s (GotTook m) (record d { took = d.took ++ (who, m) ∷ [] })
took_one t limit left y s d who m b = record {
  is = b.is;
  fits = pipe_fits t s.stage Take (Took Door m) b.asked tt;
  kept = b.kept;
  fitting = b.fitting;
  generations = b.generations;
  took = bare_more s.hand.took Door m ∙ ap (λ (ms : List Message). ms ++ m ∷ []) b.took ∙ sym (bare_more d.took who m);
  pushed = b.pushed;
  calls = b.calls;
  fulls = b.fulls;
  refused = no_refused s.stage (GotTook m) d.refused (λ n e. absurd (cc));
}

pushed_one : (t : Terms) (limit left : ℕ) (y : ActorId) (s : HandState) (d : Diary) (to : ActorId) (m : Message) → HasPipe t to → Between t limit left y s (Push to m) d → HandHolds t limit left y s GotPushed (record d { pushed = d.pushed ++ (to, m) ∷ [] })
pushed_one t limit left y s d to m has b = record {
  is = b.is;
  fits = pipe_fits t s.stage (Push to m) Pushed b.asked (present t to has);
  kept = b.kept;
  fitting = b.fitting;
  generations = b.generations;
  took = b.took;
  pushed = ap (λ (ms : Mail). s.hand.pushed ++ ms) (asked_flight t s.stage to m b.asked) ∙ ap (λ (ms : Mail). ms ++ (to, m) ∷ []) b.pushed;
  calls = b.calls;
  fulls = b.fulls;
  refused = no_refused s.stage GotPushed d.refused (λ n e. absurd (cc));
}

full_one : (t : Terms) (limit left : ℕ) (y : ActorId) (s : HandState) (d : Diary) (to : ActorId) (m : Message) → Between t limit left y s (Push to m) d → HandHolds t limit left y s (GotFull m) (record d { refused = d.refused ++ (to, m) ∷ [] })
full_one t limit left y s d to m b = record {
  is = b.is;
  fits = pipe_fits t s.stage (Push to m) (Full m) b.asked refl;
  kept = b.kept;
  fitting = b.fitting;
  generations = b.generations;
  took = b.took;
  pushed = b.pushed;
  calls = b.calls;
  fulls = λ n. no_room_more t d.refused (to, m) (b.fulls n);
  refused = asked_refused t s.stage to m d.refused b.asked;
}

-- only a hand that is over asks for no more
asked_over : (t : Terms) (st : Stage) → AskFits t st FinishedAsked → st ≡ Stopped
asked_over t Idle (inl q) = absurd (cc)
asked_over t Idle (inr (inl q)) = absurd (cc)
asked_over t Idle (inr (inr q)) = absurd (cc)
asked_over t (Acting e act) q = absurd (cc)
asked_over t (Sending e act to m a) q = absurd (cc)
asked_over t (Leaving e to m) q = absurd (cc)
asked_over t (Stopping k) q = absurd (cc)
asked_over t Stopped q = refl

over_now : (t : Terms) (limit left : ℕ) (y : ActorId) (s : HandState) (d : Diary) → Between t limit left y s FinishedAsked d → HandOver t limit left y s d
over_now t limit left y s d b = record { is = b.is; stopped = asked_over t s.stage b.asked; kept = b.kept; fitting = b.fitting; generations = b.generations; took = b.took; pushed = b.pushed; calls = b.calls; fulls = b.fulls }

pub after_between : (t : Terms) (limit left : ℕ) (y : ActorId) (s : HandState) (ask : HandAsk) (d : Diary) → Between t limit left y s ask d → After t (HandHolds t limit left y) (HandOver t limit left y) s (world_ask ask) d
after_between t limit left y s Take d b = (plain t limit left y s Take GotEmpty d refl refl (λ m e. absurd (cc)) tt b, λ who m. took_one t limit left y s d who m b)
after_between t limit left y s (Push to m) d b = (λ has. pushed_one t limit left y s d to m has b, full_one t limit left y s d to m b)
after_between t limit left y s Rest d b = plain t limit left y s Rest GotNothing d refl refl (λ m e. absurd (cc)) tt b
after_between t limit left y s NothingAsked d b = plain t limit left y s NothingAsked GotNothing d refl refl (λ m e. absurd (cc)) tt b
after_between t limit left y s FinishedAsked d b = over_now t limit left y s d b

-- every turn keeps the law
pub hand_keeps : (t : Terms) (limit left : ℕ) (y : ActorId) (s : HandState) (got : Got) (dids : List Did) (u : HandState) (ask : Ask) (d : Diary) → HandTurn t limit y s got dids u ask → HandHolds t limit left y s got d → After t (HandHolds t limit left y) (HandOver t limit left y) u ask (with_dids d dids)
hand_keeps t limit left y s got dids u ask d turn l =
    let v : HandState = record { stage = (turned t y limit turn.ports s got).stage; hand = (turned t y limit turn.ports s got).hand } in
    let k : After t (HandHolds t limit left y) (HandOver t limit left y) v (world_ask (turned t y limit turn.ports s got).ask) (with_dids d (dids_of t y turn.ports s got)) = after_between t limit left y v (turned t y limit turn.ports s got).ask (with_dids d (dids_of t y turn.ports s got)) (between t limit left y s got d turn.ports turn.fit l) in
    subst (λ (x : Ask). After t (HandHolds t limit left y) (HandOver t limit left y) u x (with_dids d dids)) (sym turn.ask_is)
    (subst (λ (x : HandState). After t (HandHolds t limit left y) (HandOver t limit left y) x (world_ask (turned t y limit turn.ports s got).ask) (with_dids d dids)) (sym turn.state)
    (subst (λ (x : List Did). After t (HandHolds t limit left y) (HandOver t limit left y) v (world_ask (turned t y limit turn.ports s got).ask) (with_dids d x)) (sym turn.calls) k))

-- what the law shows
pub law_shown : (t : Terms) (limit left : ℕ) (y : ActorId) (s : HandState) (got : Got) (d : Diary) → HandHolds t limit left y s got d → Shown t y d.took d.pushed s.hand.log
law_shown t limit left y s got d l = shown_as t y (taken (hand_got got) s.hand.took) d.took (sent t s.stage (hand_got got) s.hand.pushed) d.pushed s.hand.log l.took l.pushed (shows t y s.stage s.hand (hand_got got) l.is l.fits l.kept l.fitting.fits)

-- it pushed no NoMore before those of all came
law_ended : (t : Terms) (limit left : ℕ) (y : ActorId) (s : HandState) (got : Got) (d : Diary) → HandHolds t limit left y s got d → ¬ (collect no_more (bare d.pushed) ≡ []) → EndsCame t y d.took
law_ended t limit left y s got d l some = came_as t y (taken (hand_got got) s.hand.took) d.took l.took (hand_ended t y s.stage s.hand (hand_got got) l.fits l.kept (subst (λ (ms : Mail). ¬ (collect no_more (bare ms) ≡ [])) (sym l.pushed) some))

pub law_shows : (t : Terms) (limit left : ℕ) (y : ActorId) (s : HandState) (got : Got) (d : Diary) → HandHolds t limit left y s got d → Shows t y s.hand.log [] (λ n. untold) d
law_shows t limit left y s got d l = shows_hand t y s.stage s.hand d l.is (law_shown t limit left y s got d l) l.kept.showing l.calls l.fulls (law_ended t limit left y s got d l)

pub over_shows : (t : Terms) (limit left : ℕ) (y : ActorId) (s : HandState) (d : Diary) → HandOver t limit left y s d → Shows t y s.hand.log [] (λ n. untold) d
over_shows t limit left y s d l = shows_hand t y s.stage s.hand d l.is (shown_as t y s.hand.took d.took s.hand.pushed d.pushed s.hand.log l.took l.pushed (shown_still t y s.stage s.hand l.kept l.fitting.fits)) l.kept.showing l.calls l.fulls (λ some. came_as t y s.hand.took d.took l.took (hand_still t y s.stage s.hand l.kept (subst (λ (ms : Mail). ¬ (collect no_more (bare ms) ≡ [])) (sym l.pushed) some)))

-- who is there or not
pipe_or_not : (t : Terms) (to : ActorId) → HasPipe t to ⊎ (HasPipe t to → ⊥)
pipe_or_not t Door = inr (λ h. h)
pipe_or_not t (Reactor n) = elim (cases_lt n t.reactor_num) [ inl lt ↦ inl lt | inr ge ↦ inr (λ lt. absurd (omega (arith, lt, ge))) ]
pipe_or_not t (Worker n) = elim (cases_lt n t.worker_num) [ inl lt ↦ inl lt | inr ge ↦ inr (λ lt. absurd (omega (arith, lt, ge))) ]
pipe_or_not t (Tasker n) = elim (cases_lt n t.tasker_num) [ inl lt ↦ inl lt | inr ge ↦ inr (λ lt. absurd (omega (arith, lt, ge))) ]

-- a push to one that isn't there is none to a task worker that is
not_here : (t : Terms) (to : ActorId) (m : Message) (ms : Mail) → (HasPipe t to → ⊥) → HadNoRoom t (ms ++ (to, m) ∷ []) → HadNoRoom t ms
not_here t to m ms not (n, (lt, (x, h))) = elim (has_split (Tasker n, x) ms ((to, m) ∷ []) h) [
  | inl old ↦ (n, (lt, (x, old)))
  | inr now ↦ absurd (let q : (to, m) ≡ (Tasker n, x) = has_one (Tasker n, x) (to, m) now in let i : to ≡ Tasker n = ap (λ (e : ActorId × Message). e.0) q in not (subst (HasPipe t) (sym i) lt))
]

-- with a push on its way, from both that it may be answered
asked_shows : (t : Terms) (limit left : ℕ) (y : ActorId) (s : HandState) (to : ActorId) (m : Message) (d : Diary) → (HasPipe t to → HandHolds t limit left y s GotPushed (record d { pushed = d.pushed ++ (to, m) ∷ [] })) → HandHolds t limit left y s (GotFull m) (record d { refused = d.refused ++ (to, m) ∷ [] }) → Shows t y s.hand.log [] (λ n. untold) d
asked_shows t limit left y s to m d p l = shows_hand t y s.stage s.hand d l.is (law_shown t limit left y s (GotFull m) (record d { refused = d.refused ++ (to, m) ∷ [] }) l) l.kept.showing l.calls (λ n. elim (pipe_or_not t to) [ inl has ↦ (p has).fulls n | inr not ↦ not_here t to m d.refused not (l.fulls n) ]) (law_ended t limit left y s (GotFull m) (record d { refused = d.refused ++ (to, m) ∷ [] }) l)

pub after_shows : (t : Terms) (limit left : ℕ) (y : ActorId) (s : HandState) (ask : Ask) (d : Diary) → After t (HandHolds t limit left y) (HandOver t limit left y) s ask d → Shows t y s.hand.log [] (λ n. untold) d
after_shows t limit left y s AskTake d h = law_shows t limit left y s GotEmpty d h.0
after_shows t limit left y s (AskPush to m) d h = asked_shows t limit left y s to m d h.0 h.1
after_shows t limit left y s AskNothing d h = law_shows t limit left y s GotNothing d h
after_shows t limit left y s AskRest d h = law_shows t limit left y s GotNothing d h
after_shows t limit left y s AskFinished d h = over_shows t limit left y s d h

-- and once it is finished
pub over_done : (t : Terms) (limit left : ℕ) (y : ActorId) (s : HandState) (d : Diary) → HandOver t limit left y s d → DoneShows t y s.hand.log [] d
over_done t limit left y s d l =
    let k : Kept t y Stopped s.hand = subst (λ (x : Stage). Kept t y x s.hand) l.stopped l.kept in
    hand_done t y s.hand.log d l.is (shown_as t y s.hand.took d.took s.hand.pushed d.pushed s.hand.log l.took l.pushed (shown_still t y s.stage s.hand l.kept l.fitting.fits)).once (finished_as t y s.hand.took d.took s.hand.pushed d.pushed s.hand.log l.took l.pushed (finished t y s.hand k))
