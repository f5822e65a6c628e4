-- A turn of the code is a turn of the tables.
use Rattle.std.proofs.Common.{◌≡◌, ℕ, suc, ltb, ◌<◌, Bool, true, false, if◌then◌else◌, List, [], ◌∷◌, length, refl, ap, ◌∙◌, sym, subst, Option}
use Rattle.sw_step.specs.declared.actor.ActorId.{ActorId}
use Rattle.sw_data.specs.declared.messages.Msg.{Msg}
use Rattle.sw_data.specs.declared.messages.Msg.TheVariants as msgs
use Rattle.sw_data.specs.declared.messages.Ask.{Ask as CodeAsk}
use Rattle.sw_data.specs.declared.messages.Got.{Got as CodeGot}
use Rattle.sw_record.specs.Words.{Event, Act, Send, Close, Reset, Bind, Exist, Info, TaskAct, FinishAct, Table, Stats, Shutdown, Done, Sent, Asked}
use Rattle.sw_record.specs.Terms.{Terms, keeps}
use Rattle.sw_past.specs.Messages.{SendMsg, CloseMsg, ResetMsg}
use Rattle.sw_past.specs.Routes.{is_worker}
use Rattle.sw_past.specs.Messages.{Message, NoMore}
use Rattle.sw_hand_calls.specs.Calls.{Rules, makes_calls, turn_calls as code_calls, turn_calls_of}
use Rattle.sw_world_hands.specs.Calls.{makes, turn_calls}
use Rattle.sw_hand.specs.Stage.{current_of, Fits}
use Rattle.sw_hand.specs.House.{farewells}
use Rattle.sw_hand.specs.Hand.{IsHand, IsCrew, own_room, unstaged}
use Rattle.sw_hand.specs.Turn.{Makes, TurnsAs, Turns}
use Rattle.sw_hand.specs.declared.hand.Hand.{Hand as CodeHand}
use Rattle.sw_hand.specs.declared.house.House.{House}
use Rattle.sw_hand.specs.declared.house.Kind.{Kind}
use Rattle.sw_hand.specs.declared.house.Kind.TheVariants as kinds
use Rattle.sw_hand.specs.declared.stage.Errand.TheVariants as errands
use Rattle.sw_hand.specs.declared.stage.Stage.{Stage as CodeStage}
use Rattle.sw_hand.specs.declared.stage.Stage.TheVariants as stages
use Rattle.sw_hand_laws.specs.Hand.{Got, Start, Took, Empty, Pushed, Full, Nothing, Stage, Acting, Hand, last_words, goodbye, goodbyes, settle, done, leaving, stop_if, stopping, make, turn}
use Rattle.sw_hand_laws.specs.Keeps.{Carries}
use Rattle.sw_hand_laws.specs.Kept.{PushFits, GotFits}
use Rattle.sw_hand_fits.specs.Matches.{actor_of, receiver_of, HouseFits, Matches, ForSend, ForClose, ForReset, StageFits, BothIdle, BothActing, BothSending, BothLeaving, BothStopping, BothOver, GotIs, IsNumbered, IsNumberedGot, IsNumberedStage, CallsMay, Went}
use Rattle.sw_hand_fits.proofs.Basics.{plain, alone, stays, keeps_same}
use Rattle.sw_hand_fits.proofs.Reaching.{reach_fits, exist_fits, info_fits, bind_fits}
use Rattle.sw_hand_fits.proofs.Posting.{post_fits, finish_fits}
use Rattle.sw_hand_fits.proofs.Calling.{call_fits, sum_fits, shut_fits}
use Rattle.sw_hand_fits.proofs.Leaving.{ends_fit}
use Rattle.sw_hand_fits.proofs.Taking.{sends_fit, leaves_fit, stops_fit, idles_fit}

-- an act is made
makes_fit : {H B S C L K : Type 0} (t : Terms) (y : ActorId) (number : K → ℕ) (ru : Rules H B S C) (g : Hand) (e : Event) (act : Act) (h : CodeHand H) (b : B) (s : S) (d : C) (k : CodeHand H) (f : B) (u : S) (r : C) (ask : CodeAsk (Msg L K)) → IsNumbered act → 0 < t.max_conn → IsCrew h.house (ru.sizes d) → CallsMay t ru.gives s → Matches t y g.own g.next g.out g.ended h → (w : Makes ru.looks ru.binds ru.gives ru.does ru.goes ru.sizes h b s d (current_of e) act k f u r ask) → Went t y number (Acting e act) g k ask (makes_calls ru act h b s d (current_of e) k f u r ask w) (λ p. makes t y g e p act) (λ p. make t y g e p act)
makes_fit t y number ru g e (Send v x) h b s d k f u r ask num some crew may m (w, e1) = reach_fits t y number ru g e (Send v x) (SendMsg v x) Sent h b d (current_of e) v errands.Send (msgs.Send v x) k f r ask (λ p. tt) m refl (ForSend v x) refl refl num some w
makes_fit t y number ru g e (Close v) h b s d k f u r ask num some crew may m (w, e1) = reach_fits t y number ru g e (Close v) (CloseMsg v) Asked h b d (current_of e) v errands.Ask (msgs.Close v) k f r ask (λ p. tt) m refl (ForClose v) refl refl num some w
makes_fit t y number ru g e (Reset v) h b s d k f u r ask num some crew may m (w, e1) = reach_fits t y number ru g e (Reset v) (ResetMsg v) Asked h b d (current_of e) v errands.Ask (msgs.Reset v) k f r ask (λ p. tt) m refl (ForReset v) refl refl num some w
makes_fit t y number ru g e (Bind v uid) h b s d k f u r ask num some crew may m (w, e1) = bind_fits t y number ru g e h b d (current_of e) v uid k f r ask m refl w
makes_fit t y number ru g e (Exist v) h b s d k f u r ask num some crew may m (w, e1) = exist_fits t y number ru g e h b d (current_of e) v k f r ask m refl num some w
makes_fit t y number ru g e (Info v) h b s d k f u r ask num some crew may m (w, e1) = info_fits t y number ru g e h b d (current_of e) v k f r ask m refl num some w
makes_fit t y number ru g e (TaskAct dst x) h b s d k f u r ask num some crew may m (w, e1, e2) = post_fits t y number ru g e h d (current_of e) dst x k r ask m refl crew w
makes_fit t y number ru g e (FinishAct x) h b s d k f u r ask num some crew may m (w, e1, e2) = finish_fits t y number ru g e h d x k r ask m w
makes_fit t y number ru g e (Table n) h b s d k f u r ask num some crew may m (w, e1) = call_fits t y number ru g e h s d (current_of e) n k u r ask may m refl w
makes_fit t y number ru g e (Stats n) h b s d k f u r ask num some crew may m (w, e1, e2) = sum_fits t y number ru g e h d (current_of e) n k r ask m refl w
makes_fit t y number ru g e Shutdown h b s d k f u r ask num some crew may m (w, e1, e2) = shut_fits t y number ru g e h d (current_of e) k r ask m refl w
makes_fit t y number ru g e Done h b s d k f u r ask num some crew may m (w, e1, e2, e3) = (plain Done, (tt, alone t y number g.log k ask (done g e (last_words t y e)) (done_log (last_words t y e)) (ends_fit t y number g e h (current_of e) k ask m refl w)))
  where
    done_log : (ms : List (ActorId × Message)) → (done g e ms).hand.log ≡ g.log
    done_log [] = refl
    done_log (x ∷ xs) = refl

-- room for the own sessions
room_kind : (t : Terms) (h : House) (kind : Kind) (own : List ℕ) → HouseFits t h → length own ≡ own_room h kind → is_worker (actor_of kind) ≡ true → keeps t.mode ≡ true → length own ≡ t.max_conn
room_kind t h (kinds.Worker w) own f q v p = q ∙ ap (λ v. if v then h.max_conn else 0) (keeps_same t h f ∙ p) ∙ f.max_conn
room_kind t h (kinds.Tasker k) own f q v p = absurd (cc)

room_for : {H : Type 0} (t : Terms) (y : ActorId) (own : ℕ → Option ℕ) (next out ended : ℕ) (h : CodeHand H) → Matches t y own next out ended h → length h.own ≡ own_room h.house h.kind → is_worker y ≡ true → keeps t.mode ≡ true → length h.own ≡ t.max_conn
room_for t y own next out ended h m q v = room_kind t h.house h.kind h.own m.house q (ap is_worker (sym m.kind) ∙ v)

-- by the stage
leaving_log : (t : Terms) (g : Hand) (e : Event) (to : ActorId) (n : Message) (got : Got) → PushFits t to n got → (leaving t g e to n got).hand.log ≡ g.log
leaving_log t g e to n Pushed f = refl
leaving_log t g e to n (Full m) f = refl
leaving_log t g e to n Start f = absurd f
leaving_log t g e to n (Took x m) f = absurd f
leaving_log t g e to n Empty f = absurd f
leaving_log t g e to n Nothing f = absurd f

stopping_log : (t : Terms) (y : ActorId) (g : Hand) (j : ℕ) (got : Got) → PushFits t (goodbye t j) NoMore got → (stopping t y g j got).hand.log ≡ g.log
stopping_log t y g j Pushed f = stop_log (ltb (suc j) (goodbyes t y))
  where
    stop_log : (v : Bool) → (stop_if t (settle g (goodbye t j) NoMore) (suc j) v).hand.log ≡ g.log
    stop_log true = refl
    stop_log false = refl
stopping_log t y g j (Full m) f = refl
stopping_log t y g j Start f = absurd f
stopping_log t y g j (Took x m) f = absurd f
stopping_log t y g j Empty f = absurd f
stopping_log t y g j Nothing f = absurd f

turn_by : {H B S C L K : Type 0} (t : Terms) (y : ActorId) (limit : ℕ) (number : K → ℕ) (ru : Rules H B S C) (g : Hand) (cs : CodeStage) (st : Stage) (h : CodeHand H) (b : B) (s : S) (d : C) (cgot : CodeGot (Msg L K)) (got : Got) (k : CodeHand H) (f : B) (u : S) (r : C) (ask : CodeAsk (Msg L K)) → 0 < t.max_conn → length h.own ≡ own_room h.house h.kind → Fits h.next (farewells h.house h.kind) cs → IsCrew h.house (ru.sizes d) → CallsMay t ru.gives s → Matches t y g.own g.next g.out g.ended h → StageFits g.next cs st → Carries t y g.next st → IsNumberedStage st → GotIs number cgot got → IsNumberedGot got → GotFits t st got → (w : TurnsAs ru.looks ru.binds ru.gives ru.does ru.goes ru.sizes cs h b s d cgot k f u r ask) → Went t y number st g k ask (code_calls ru cs h b s d cgot k f u r ask w) (λ p. turn_calls t y p st g got) (λ p. turn t y limit p st g got)
turn_by t y limit number ru g cs st h b s d cgot got k f u r ask some own fits crew may m BothIdle car num gi gn gf (w, e1, e2) = idles_fit t y limit number ru g cgot got h d k r ask (room_for t y g.own g.next g.out g.ended h m own) gn some gi gf m w
turn_by t y limit number ru g cs st h b s d cgot got k f u r ask some own fits crew may m (BothActing e act) car num gi gn gf w = makes_fit t y number ru g e act h b s d k f u r ask num some crew may m w
turn_by t y limit number ru g cs st h b s d cgot got k f u r ask some own fits crew may m (BothSending e act to errand n is) car num gi gn gf (w, e1, e2) = sends_fit t y number ru g e act to n errand cgot got h d k r ask is gi gf m w
turn_by t y limit number ru g cs st h b s d cgot got k f u r ask some own fits crew may m (BothLeaving e to n) car num gi gn gf (w, e1, e2, e3) = (plain Done, (tt, alone t y number g.log k ask (leaving t g e (receiver_of to) n got) (leaving_log t g e (receiver_of to) n got gf) (leaves_fit t y number g e to n cgot got h k ask gi gf car num some m w)))
turn_by t y limit number ru g cs st h b s d cgot got k f u r ask some own fits crew may m (BothStopping n) car num gi gn gf (w, e1, e2, e3) = (plain Done, (tt, alone t y number g.log k ask (stopping t y g n got) (stopping_log t y g n got gf) (stops_fit t y number g n cgot got h k ask gi gf fits m w)))
turn_by t y limit number ru g cs st h b s d cgot got k f u r ask some own fits crew may m BothOver car num gi gn gf w = absurd gf

-- a whole turn
pub turn_fits : {H B S C L K : Type 0} (t : Terms) (y : ActorId) (limit : ℕ) (number : K → ℕ) (ru : Rules H B S C) (g : Hand) (st : Stage) (h : CodeHand H) (b : B) (s : S) (d : C) (cgot : CodeGot (Msg L K)) (got : Got) (k : CodeHand H) (f : B) (u : S) (r : C) (ask : CodeAsk (Msg L K)) → IsHand h → IsCrew h.house (ru.sizes d) → CallsMay t ru.gives s → Matches t y g.own g.next g.out g.ended h → StageFits g.next h.stage st → Carries t y g.next st → IsNumberedStage st → GotIs number cgot got → IsNumberedGot got → GotFits t st got → (w : Turns ru.looks ru.binds ru.gives ru.does ru.goes ru.sizes h b s d cgot k f u r ask) → Went t y number st g k ask (turn_calls_of ru h b s d cgot k f u r ask w) (λ p. turn_calls t y p st g got) (λ p. turn t y limit p st g got)
turn_fits t y limit number ru g st h b s d cgot got k f u r ask hand crew may m sf car num gi gn gf w = turn_by t y limit number ru g h.stage st (unstaged h) b s d cgot got k f u r ask (subst (λ n. 0 < n) m.house.max_conn hand.house.0) hand.own hand.stage crew may (stays t y g.own g.next g.out g.ended h (unstaged h) h.handler h.row stages.Idle refl m) sf car num gi gn gf w
