-- Acts on a session come to what the tables say.
use Rattle.std.proofs.Common.{◌≡◌, ℕ, zero, suc, ◌<◌, ◌==◌, Bool, true, false, if◌then◌else◌, [], ◌∷◌, refl, ap, ◌∙◌, sym, subst, Result, Ok, Err, Option, arith, ◌%◌}
use Rattle.sw_step.specs.declared.actor.ActorId.{ActorId}
use Rattle.sw_step.specs.declared.actor.ActorId.TheVariants as actors
use Rattle.sw_data.specs.declared.messages.Msg.{Msg}
use Rattle.sw_data.specs.declared.messages.Target.TheVariants as targets
use Rattle.sw_data.specs.declared.messages.Ask.{Ask as CodeAsk}
use Rattle.sw_port_book.specs.Answers.{Binds}
use Rattle.sw_port_book.specs.declared.answers.Look.{Look}
use Rattle.sw_port_book.specs.declared.answers.Look.TheVariants.{Live, Other}
use Rattle.sw_port_book.specs.declared.answers.BindFault.{BindFault}
use Rattle.sw_port_book.specs.declared.answers.BindFault.TheVariants as fault
use Rattle.sw_record.specs.Words.{Event, Act, Bind, Exist, Info, Done, Answer, NoSession, BindOk, BadUid, Bound, WrongMode, Exists, InfoIs}
use Rattle.sw_record.specs.Terms.{Terms, reactor_of}
use Rattle.sw_record.specs.Fits.{is_own}
use Rattle.sw_past.specs.Messages.{Message, message_of}
use Rattle.sw_world_ports.specs.Calls.{Looks as LooksAt, Binds as BindsTo}
use Rattle.sw_world_fits.specs.Book.{seen_of, got_of as bind_got}
use Rattle.sw_hand.specs.Ports.{Binding}
use Rattle.sw_hand_calls.specs.Calls.{Looked, Bound as BoundTo, Rules, reach_seen_calls, reaches_calls, answers_calls, tells_calls, binds_calls}
use Rattle.sw_world_hands.specs.Calls.{looks, binds}
use Rattle.sw_hand.specs.Stage.{current_of, answer_of}
use Rattle.sw_hand.specs.House.{fd_of, reactor_of as code_reactor_of}
use Rattle.sw_hand.specs.Reaching.{ReachSeen, ReachesAs, Reaches, told_by, TellsAs, TellsExist, info_known, TellsInfo, bound_by, BindsAs, BindsOf}
use Rattle.sw_hand.specs.Asking.{Answers}
use Rattle.sw_hand.specs.declared.hand.Hand.{Hand as CodeHand}
use Rattle.sw_hand.specs.Hand.{is_own as code_is_own}
use Rattle.sw_hand.specs.declared.stage.Current.{Current}
use Rattle.sw_hand.specs.declared.stage.Errand.{Errand}
use Rattle.sw_hand_laws.specs.Hand.{Ports, Acting, Hand, live_too, other_too, uid_too, pass_too, bound_too, reach, exist, info, bind}
use Rattle.sw_hand_laws.specs.Moved.{PortsFit, BindFits}
use Rattle.sw_hand_fits.specs.Matches.{Matches, IsErrand, Went}
use Rattle.sw_hand_fits.proofs.Basics.{plain, answers, behind, alone, asked_came, own_same, reactor_same, fd_same}

-- Send, Close and Reset
reach_by : {H B S C L K : Type 0} (t : Terms) (y : ActorId) (number : K → ℕ) (ru : Rules H B S C) (g : Hand) (e : Event) (act : Act) (n : Message) (a : Answer) (v : Bool) (h : CodeHand H) (b : B) (d : C) (c : Current) (s : ℕ) (errand : Errand) (m : Msg L K) (k : CodeHand H) (f : B) (r : C) (ask : CodeAsk (Msg L K)) → ((p : Ports) → PortsFit t (Acting e act) g p) → Matches t y g.own g.next g.out g.ended h → c ≡ current_of e → IsErrand errand act → n ≡ message_of number m → a ≡ answer_of g.next errand → (w : ReachesAs v ru.looks ru.does ru.goes h b d c s errand m k f r ask) → Went t y number (Acting e act) g k ask (reaches_calls ru v h b d c s errand m k f r ask w) (λ p. looks s p.look v) (λ p. reach t g e act s n a p v)
reach_by t y number ru g e act n a true h b d c s errand m k f r ask fit match ce is nm an ((q, i), e1, e2) = (plain Done, (fit (plain Done), alone t y number g.log k ask (reach t g e act s n a (plain Done) true) refl (asked_came t y number g e act (actors.Reactor (reactor_of t s)) n a h c (targets.Reactor (code_reactor_of h.house s)) errand m k ask match ce is (ap actors.Reactor (sym (reactor_same t h.house s match.house))) nm an (q, i))))
reach_by {H} {B} {S} {C} t y number ru g e act n a false h b d c s errand m k f r ask fit match ce is nm an (look, (found, x)) = seen look x
  where
    seen : (l : Look) → (w : ReachSeen ru.does ru.goes h d c s errand m l k r ask) → Went t y number (Acting e act) g k ask (Looked s l ∷ reach_seen_calls ru l h d c s errand m k r ask w) (λ p. looks s p.look false) (λ p. reach t g e act s n a p false)
    seen (Live u) ((q, i), e2) =
        let p : Ports = record (plain Done) { look = Live u } in
        (p, (fit p, behind t y number g.log k ask (Looked s (Live u)) (LooksAt s (seen_of (Live u))) [] [] (reach t g e act s n a p false) refl refl refl (alone t y number g.log k ask (reach t g e act s n a p false) refl (asked_came t y number (live_too g s) e act (actors.Reactor (reactor_of t s)) n a h c (targets.Reactor (code_reactor_of h.house s)) errand m k ask match ce is (ap actors.Reactor (sym (reactor_same t h.house s match.house))) nm an (q, i)))))
    seen (Other j) w =
        let z = answers t y number ru (other_too g s j) e h d c (NoSession j) k r ask match ce w in
        let p : Ports = record (plain z.0) { look = Other j } in
        (p, (fit p, behind t y number g.log k ask (Looked s (Other j)) (LooksAt s (seen_of (Other j))) (answers_calls ru h d c (NoSession j) k r ask w) [] (reach t g e act s n a p false) refl refl refl z.1))

pub reach_fits : {H B S C L K : Type 0} (t : Terms) (y : ActorId) (number : K → ℕ) (ru : Rules H B S C) (g : Hand) (e : Event) (act : Act) (n : Message) (a : Answer) (h : CodeHand H) (b : B) (d : C) (c : Current) (s : ℕ) (errand : Errand) (m : Msg L K) (k : CodeHand H) (f : B) (r : C) (ask : CodeAsk (Msg L K)) → ((p : Ports) → PortsFit t (Acting e act) g p) → Matches t y g.own g.next g.out g.ended h → c ≡ current_of e → IsErrand errand act → n ≡ message_of number m → a ≡ answer_of g.next errand → 0 < s → 0 < t.max_conn → (w : Reaches ru.looks ru.does ru.goes h b d c s errand m k f r ask) → Went t y number (Acting e act) g k ask (reaches_calls ru (code_is_own h c s) h b d c s errand m k f r ask w) (λ p. looks s p.look (is_own t g.own e s)) (λ p. reach t g e act s n a p (is_own t g.own e s))
reach_fits t y number ru g e act n a h b d c s errand m k f r ask fit match ce is nm an lt some w = subst (λ v. Went t y number (Acting e act) g k ask (reaches_calls ru (code_is_own h c s) h b d c s errand m k f r ask w) (λ p. looks s p.look v) (λ p. reach t g e act s n a p v)) (own_same t y g.own g.next g.out g.ended h c e s match ce lt some) (reach_by t y number ru g e act n a (code_is_own h c s) h b d c s errand m k f r ask fit match ce is nm an w)

-- Exist
exist_by : {H B S C L K : Type 0} (t : Terms) (y : ActorId) (number : K → ℕ) (ru : Rules H B S C) (g : Hand) (e : Event) (v : Bool) (h : CodeHand H) (b : B) (d : C) (c : Current) (s : ℕ) (k : CodeHand H) (f : B) (r : C) (ask : CodeAsk (Msg L K)) → Matches t y g.own g.next g.out g.ended h → c ≡ current_of e → (w : TellsAs v ru.looks ru.does ru.goes h b d c s (λ u. Exists) k f r ask) → Went t y number (Acting e (Exist s)) g k ask (tells_calls ru v h b d c s (λ u. Exists) k f r ask w) (λ p. looks s p.look v) (λ p. exist g e s p v)
exist_by t y number ru g e true h b d c s k f r ask match ce (w, e1) =
    let z = answers t y number ru g e h d c (Exists) k r ask match ce w in
    (plain z.0, (tt, z.1))
exist_by {H} {B} {S} {C} t y number ru g e false h b d c s k f r ask match ce (look, (found, x)) = seen look x
  where
    seen : (l : Look) → (w : Answers ru.does ru.goes h d c (told_by (λ u. Exists) l) k r ask) → Went t y number (Acting e (Exist s)) g k ask (Looked s l ∷ answers_calls ru h d c (told_by (λ u. Exists) l) k r ask w) (λ p. looks s p.look false) (λ p. exist g e s p false)
    seen (Live u) w =
        let z = answers t y number ru (live_too g s) e h d c (Exists) k r ask match ce w in
        let p : Ports = record (plain z.0) { look = Live u } in
        (p, (tt, behind t y number g.log k ask (Looked s (Live u)) (LooksAt s (seen_of (Live u))) (answers_calls ru h d c (Exists) k r ask w) [] (exist g e s p false) refl refl refl z.1))
    seen (Other j) w =
        let z = answers t y number ru (other_too g s j) e h d c (NoSession j) k r ask match ce w in
        let p : Ports = record (plain z.0) { look = Other j } in
        (p, (tt, behind t y number g.log k ask (Looked s (Other j)) (LooksAt s (seen_of (Other j))) (answers_calls ru h d c (NoSession j) k r ask w) [] (exist g e s p false) refl refl refl z.1))

pub exist_fits : {H B S C L K : Type 0} (t : Terms) (y : ActorId) (number : K → ℕ) (ru : Rules H B S C) (g : Hand) (e : Event) (h : CodeHand H) (b : B) (d : C) (c : Current) (s : ℕ) (k : CodeHand H) (f : B) (r : C) (ask : CodeAsk (Msg L K)) → Matches t y g.own g.next g.out g.ended h → c ≡ current_of e → 0 < s → 0 < t.max_conn → (w : TellsExist ru.looks ru.does ru.goes h b d c s k f r ask) → Went t y number (Acting e (Exist s)) g k ask (tells_calls ru (code_is_own h c s) h b d c s (λ u. Exists) k f r ask w) (λ p. looks s p.look (is_own t g.own e s)) (λ p. exist g e s p (is_own t g.own e s))
exist_fits t y number ru g e h b d c s k f r ask match ce lt some w = subst (λ v. Went t y number (Acting e (Exist s)) g k ask (tells_calls ru (code_is_own h c s) h b d c s (λ u. Exists) k f r ask w) (λ p. looks s p.look v) (λ p. exist g e s p v)) (own_same t y g.own g.next g.out g.ended h c e s match ce lt some) (exist_by t y number ru g e (code_is_own h c s) h b d c s k f r ask match ce w)

-- Info
info_by : {H B S C L K : Type 0} (t : Terms) (y : ActorId) (number : K → ℕ) (ru : Rules H B S C) (g : Hand) (e : Event) (v : Bool) (h : CodeHand H) (b : B) (d : C) (c : Current) (s : ℕ) (k : CodeHand H) (f : B) (r : C) (ask : CodeAsk (Msg L K)) → Matches t y g.own g.next g.out g.ended h → c ≡ current_of e → (w : TellsAs v ru.looks ru.does ru.goes h b d c s (InfoIs (s % t.max_conn)) k f r ask) → Went t y number (Acting e (Info s)) g k ask (tells_calls ru v h b d c s (InfoIs (s % t.max_conn)) k f r ask w) (λ p. looks s p.look v) (λ p. info t g e s p v)
info_by t y number ru g e true h b d c s k f r ask match ce (w, e1) =
    let z = answers t y number ru g e h d c (InfoIs (s % t.max_conn) 0) k r ask match ce w in
    (plain z.0, (tt, z.1))
info_by {H} {B} {S} {C} t y number ru g e false h b d c s k f r ask match ce (look, (found, x)) = seen look x
  where
    seen : (l : Look) → (w : Answers ru.does ru.goes h d c (told_by (InfoIs (s % t.max_conn)) l) k r ask) → Went t y number (Acting e (Info s)) g k ask (Looked s l ∷ answers_calls ru h d c (told_by (InfoIs (s % t.max_conn)) l) k r ask w) (λ p. looks s p.look false) (λ p. info t g e s p false)
    seen (Live u) w =
        let z = answers t y number ru (uid_too g s u) e h d c (InfoIs (s % t.max_conn) u) k r ask match ce w in
        let p : Ports = record (plain z.0) { look = Live u } in
        (p, (tt, behind t y number g.log k ask (Looked s (Live u)) (LooksAt s (seen_of (Live u))) (answers_calls ru h d c (InfoIs (s % t.max_conn) u) k r ask w) [] (info t g e s p false) refl refl refl z.1))
    seen (Other j) w =
        let z = answers t y number ru (other_too g s j) e h d c (NoSession j) k r ask match ce w in
        let p : Ports = record (plain z.0) { look = Other j } in
        (p, (tt, behind t y number g.log k ask (Looked s (Other j)) (LooksAt s (seen_of (Other j))) (answers_calls ru h d c (NoSession j) k r ask w) [] (info t g e s p false) refl refl refl z.1))

known_same : {H : Type 0} (t : Terms) (y : ActorId) (own : ℕ → Option ℕ) (next out ended : ℕ) (h : CodeHand H) (c : Current) (e : Event) (s : ℕ) → Matches t y own next out ended h → c ≡ current_of e → 0 < s → 0 < t.max_conn → info_known h c s ≡ (if t.mode == 5 then false else is_own t own e s)
known_same t y own next out ended h c e s match ce lt some = ap (λ v. if h.house.mode == 5 then false else v) (own_same t y own next out ended h c e s match ce lt some) ∙ ap (λ n. if n == 5 then false else is_own t own e s) match.house.mode

pub info_fits : {H B S C L K : Type 0} (t : Terms) (y : ActorId) (number : K → ℕ) (ru : Rules H B S C) (g : Hand) (e : Event) (h : CodeHand H) (b : B) (d : C) (c : Current) (s : ℕ) (k : CodeHand H) (f : B) (r : C) (ask : CodeAsk (Msg L K)) → Matches t y g.own g.next g.out g.ended h → c ≡ current_of e → 0 < s → 0 < t.max_conn → (w : TellsInfo ru.looks ru.does ru.goes h b d c s k f r ask) → Went t y number (Acting e (Info s)) g k ask (tells_calls ru (info_known h c s) h b d c s (InfoIs (fd_of h.house s)) k f r ask w) (λ p. looks s p.look (if t.mode == 5 then false else is_own t g.own e s)) (λ p. info t g e s p (if t.mode == 5 then false else is_own t g.own e s))
info_fits t y number ru g e h b d c s k f r ask match ce lt some w = subst (λ v. Went t y number (Acting e (Info s)) g k ask (tells_calls ru (info_known h c s) h b d c s (InfoIs (fd_of h.house s)) k f r ask w) (λ p. looks s p.look v) (λ p. info t g e s p v)) (known_same t y g.own g.next g.out g.ended h c e s match ce lt some) (at (fd_of h.house s) (fd_same t h.house s match.house) w)
  where
    at : (n : ℕ) → n ≡ s % t.max_conn → (w : TellsAs (info_known h c s) ru.looks ru.does ru.goes h b d c s (InfoIs n) k f r ask) → Went t y number (Acting e (Info s)) g k ask (tells_calls ru (info_known h c s) h b d c s (InfoIs n) k f r ask w) (λ p. looks s p.look (info_known h c s)) (λ p. info t g e s p (info_known h c s))
    at n q = subst (λ j. (w : TellsAs (info_known h c s) ru.looks ru.does ru.goes h b d c s (InfoIs j) k f r ask) → Went t y number (Acting e (Info s)) g k ask (tells_calls ru (info_known h c s) h b d c s (InfoIs j) k f r ask w) (λ p. looks s p.look (info_known h c s)) (λ p. info t g e s p (info_known h c s))) (sym q) (λ w. info_by t y number ru g e (info_known h c s) h b d c s k f r ask match ce w)

-- Bind
bound_if : (u : ℕ) (v w : Bool) (uid n : ℕ) → BindFits (suc u) (if v then (if w then Ok tt else Err (fault.Bound uid)) else Err (fault.Other n))
bound_if u true true uid n = λ e. absurd (omega (arith, e))
bound_if u true false uid n = λ e. absurd (omega (arith, e))
bound_if u false w uid n = λ e. absurd (omega (arith, e))

binds_fit : {B : Type 0} (finds : Binding B) (b : B) (s u : ℕ) (r : Result (Unit {0}) BindFault) (f : B) → Binds finds b s u r f → BindFits u r
binds_fit finds b s zero r f x = subst (BindFits 0) (sym x.0) refl
binds_fit finds b s (suc u) r f x = subst (BindFits (suc u)) (sym x.2) (bound_if u (x.0.number == s) (x.0.uid == 0) x.0.uid x.0.number)

bind_by : {H B S C L K : Type 0} (t : Terms) (y : ActorId) (number : K → ℕ) (ru : Rules H B S C) (g : Hand) (e : Event) (v : Bool) (h : CodeHand H) (b : B) (d : C) (c : Current) (s u : ℕ) (k : CodeHand H) (f : B) (r : C) (ask : CodeAsk (Msg L K)) → Matches t y g.own g.next g.out g.ended h → c ≡ current_of e → (w : BindsAs v ru.binds ru.does ru.goes h b d c s u k f r ask) → Went t y number (Acting e (Bind s u)) g k ask (binds_calls ru v h b d c s u k f r ask w) (λ p. binds s u p.binding v) (λ p. bind g e s u p v)
bind_by {H} {B} {S} {C} t y number ru g e true h b d c s u k f r ask match ce (o, (bound, x)) = seen o (binds_fit ru.binds b s u o f bound) x
  where
    seen : (o : Result (Unit {0}) BindFault) → BindFits u o → (w : Answers ru.does ru.goes h d c (bound_by o) k r ask) → Went t y number (Acting e (Bind s u)) g k ask (BoundTo s u o ∷ answers_calls ru h d c (bound_by o) k r ask w) (λ p. binds s u p.binding true) (λ p. bind g e s u p true)
    seen (Ok x) i w =
        let z = answers t y number ru (pass_too g s u) e h d c (BindOk) k r ask match ce w in
        let p : Ports = record (plain z.0) { binding = Ok x } in
        (p, (i, behind t y number g.log k ask (BoundTo s u (Ok x)) (BindsTo s u (bind_got (Ok x))) (answers_calls ru h d c (BindOk) k r ask w) [] (bind g e s u p true) refl refl refl z.1))
    seen (Err fault.BadUid) i w =
        let z = answers t y number ru g e h d c (BadUid) k r ask match ce w in
        let p : Ports = record (plain z.0) { binding = Err fault.BadUid } in
        (p, (i, behind t y number g.log k ask (BoundTo s u (Err fault.BadUid)) (BindsTo s u (bind_got (Err fault.BadUid))) (answers_calls ru h d c (BadUid) k r ask w) [] (bind g e s u p true) refl refl refl z.1))
    seen (Err (fault.Other n)) i w =
        let z = answers t y number ru (other_too g s n) e h d c (NoSession n) k r ask match ce w in
        let p : Ports = record (plain z.0) { binding = Err (fault.Other n) } in
        (p, (i, behind t y number g.log k ask (BoundTo s u (Err (fault.Other n))) (BindsTo s u (bind_got (Err (fault.Other n)))) (answers_calls ru h d c (NoSession n) k r ask w) [] (bind g e s u p true) refl refl refl z.1))
    seen (Err (fault.Bound n)) i w =
        let z = answers t y number ru (bound_too g s n) e h d c (Bound n) k r ask match ce w in
        let p : Ports = record (plain z.0) { binding = Err (fault.Bound n) } in
        (p, (i, behind t y number g.log k ask (BoundTo s u (Err (fault.Bound n))) (BindsTo s u (bind_got (Err (fault.Bound n)))) (answers_calls ru h d c (Bound n) k r ask w) [] (bind g e s u p true) refl refl refl z.1))
bind_by t y number ru g e false h b d c s u k f r ask match ce (w, e1) =
    let z = answers t y number ru g e h d c WrongMode k r ask match ce w in
    (record (plain z.0) { binding = bindable u }, (may_bind u, z.1))
  where
    bindable : ℕ → Result (Unit {0}) BindFault
    bindable zero = Err fault.BadUid
    bindable (suc n) = Ok tt

    may_bind : (n : ℕ) → BindFits n (bindable n)
    may_bind zero = refl
    may_bind (suc n) = λ e. absurd (omega (arith, e))

pub bind_fits : {H B S C L K : Type 0} (t : Terms) (y : ActorId) (number : K → ℕ) (ru : Rules H B S C) (g : Hand) (e : Event) (h : CodeHand H) (b : B) (d : C) (c : Current) (s u : ℕ) (k : CodeHand H) (f : B) (r : C) (ask : CodeAsk (Msg L K)) → Matches t y g.own g.next g.out g.ended h → c ≡ current_of e → (w : BindsOf ru.binds ru.does ru.goes h b d c s u k f r ask) → Went t y number (Acting e (Bind s u)) g k ask (binds_calls ru (h.house.mode == 5) h b d c s u k f r ask w) (λ p. binds s u p.binding (t.mode == 5)) (λ p. bind g e s u p (t.mode == 5))
bind_fits t y number ru g e h b d c s u k f r ask match ce w = subst (λ n. Went t y number (Acting e (Bind s u)) g k ask (binds_calls ru (h.house.mode == 5) h b d c s u k f r ask w) (λ p. binds s u p.binding (n == 5)) (λ p. bind g e s u p (n == 5))) match.house.mode (bind_by t y number ru g e (h.house.mode == 5) h b d c s u k f r ask match ce w)
