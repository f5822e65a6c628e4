-- A turn keeps the law.
use Rattle.std.proofs.Common.{length, arith, Bool, false, ◌≡◌, ◌⊎◌, ℕ, ◌<◌, true, if◌then◌else◌, List, [], ◌∷◌, ◌++◌, refl, ap, ◌∙◌, sym, subst, inl, inr, zero, suc}
use Rattle.sw_lists.specs.Lists.{collect, IsPrefix, Each, Has}
use Rattle.sw_lists.specs.Numbers.{Rises}
use Rattle.sw_lists.proofs.Lists.{each_append, collect-append, each_right, each_left, each_at, rises_left, prefix_trans, prefix_collect, collect-collect, collect-same, length_append}
use Rattle.sw_step.specs.declared.actor.ActorId.{ActorId}
use Rattle.sw_step.specs.declared.actor.ActorId.TheVariants.{Reactor, Door}
use Rattle.sw_record.specs.Words.{Log}
use Rattle.sw_record.specs.declared.record.LinkRecord.{LinkRecord}
use Rattle.sw_record.specs.Terms.{Terms, reactor_of}
use Rattle.sw_record.specs.Own.{StandsEarly}
use Rattle.sw_past.specs.Messages.{Message, FreshMsg, SendMsg, CloseMsg, ResetMsg, Bye, EventMsg, OverMsg, NoMore}
use Rattle.sw_past.specs.Past.{Mail, bare, msg_of, of, with}
use Rattle.sw_past.specs.Views.{fresh_in, sends_in, talk_in}
use Rattle.sw_past.specs.Routes.{IsHand, IsFair, MayPush}
use Rattle.sw_join.proofs.Steps.{note_later, pipes}
use Rattle.sw_join.proofs.Told.{drawn_fresh}
use Rattle.sw_record.specs.Places.{Ran, placed}
use Rattle.sw_past.specs.Said.{settled}
use Rattle.sw_join.specs.Modes.{AimOf, EndOf}
use Rattle.sw_join.proofs.Said.{talk_sends}
use Rattle.sw_record.specs.Dialogue.{Dialogue}
use Rattle.sw_world_ports.specs.Calls.{Did, Accepts, NoLink, NetOver, Looks, Binds, Frees, Marks, Idles, Stops, SeesStop, Adds, Sums, Tables, MayDo, TableRefuses}
use Rattle.sw_world_ports.specs.Made.{free_in, firsts, first_of, seat_in}
use Rattle.sw_world_ports.specs.Ports.{set_at, all_ported, AllAnswer}
use Rattle.sw_world_ports.specs.Law.{MayFree, add_all, drawn_by}
use Rattle.sw_world_ports.proofs.Frame.{frame}
use Rattle.sw_world_ports.proofs.Haves.{each_has}
use Rattle.sw_world_ports.proofs.Calls.{calls_keep}
use Rattle.sw_world_laws.specs.Turns.{Got, with_dids}
use Rattle.sw_world_laws.specs.Shows.{ReactorMore, Tells, HasWord}
use Rattle.sw_world_laws.specs.Actors.{Actors, Grows, Feed}
use Rattle.sw_world_laws.specs.World.{Waits, Core, Outcome, there, handed, turned, IsTurn, Lost, Pending, IsMade, then_next, part_of}
use Rattle.sw_world_laws.specs.History.{History, diary_of, past_of, LocalBy}
use Rattle.sw_world_laws.specs.Law.{Holds, Law, IsSound}
use Rattle.sw_world_laws.proofs.Locals.{locals, joint, fair_sent, reactor_shown, no_hand_reactor, hand_law, shown}
use Rattle.sw_world_laws.proofs.Words.{words_then}
use Rattle.sw_world_laws.proofs.Marks.{TellsLater, task_marks_turn, finish_marks_turn}
use Rattle.sw_world_laws.proofs.Places.{table_grows, seats_above, told_new}

-- who releases is a reactor
frees_by : (t : Terms) (y : ActorId) (ds : List Did) → Each (MayDo t y) ds → (collect free_in ds ≡ []) ⊎ ((n : ℕ) × ((n < t.reactor_num) × (y ≡ Reactor n)))
frees_by t y [] h = inl refl
frees_by t y (Frees s u ∷ ds) h = inr h.0
frees_by t y (Accepts ip c ∷ ds) h = frees_by t y ds h.1
frees_by t y (NoLink ∷ ds) h = frees_by t y ds h.1
frees_by t y (NetOver ∷ ds) h = frees_by t y ds h.1
frees_by t y (Looks s x ∷ ds) h = frees_by t y ds h.1
frees_by t y (Binds s u x ∷ ds) h = frees_by t y ds h.1
frees_by t y (Marks b ∷ ds) h = frees_by t y ds h.1
frees_by t y (Idles c k x ∷ ds) h = frees_by t y ds h.1
frees_by t y (Stops ∷ ds) h = frees_by t y ds h.1
frees_by t y (SeesStop b ∷ ds) h = frees_by t y ds h.1
frees_by t y (Adds c ∷ ds) h = frees_by t y ds h.1
frees_by t y (Sums c n ∷ ds) h = frees_by t y ds h.1
frees_by t y (Tables at x ∷ ds) h = frees_by t y ds h.1
frees_by t y (TableRefuses k fault ∷ ds) h = frees_by t y ds h.1

-- the reactor of a link that came
pub fresh_routed : (t : Terms) (n : ℕ) (ms : Mail) → Each (λ (e : ActorId × Message). MayPush t e.0 (Reactor n) e.1) ms → (s : ℕ) → Has s (collect fresh_in (bare ms)) → Reactor n ≡ Reactor (reactor_of t s)
fresh_routed t n [] r s h = absurd (let q = h.1 in cc)
fresh_routed t n ((x, FreshMsg ip u) ∷ ms) r s (zero, q) = r.0.1 ∙ ap (λ w. Reactor (reactor_of t w)) (let i : u ≡ s = cc in i)
fresh_routed t n ((x, FreshMsg ip u) ∷ ms) r s (suc k, q) = fresh_routed t n ms r.1 s (k, q)
fresh_routed t n ((x, SendMsg u b) ∷ ms) r s h = fresh_routed t n ms r.1 s h
fresh_routed t n ((x, CloseMsg u) ∷ ms) r s h = fresh_routed t n ms r.1 s h
fresh_routed t n ((x, ResetMsg u) ∷ ms) r s h = fresh_routed t n ms r.1 s h
fresh_routed t n ((x, Bye u) ∷ ms) r s h = fresh_routed t n ms r.1 s h
fresh_routed t n ((x, EventMsg e) ∷ ms) r s h = fresh_routed t n ms r.1 s h
fresh_routed t n ((x, OverMsg id) ∷ ms) r s h = fresh_routed t n ms r.1 s h
fresh_routed t n ((x, NoMore) ∷ ms) r s h = fresh_routed t n ms r.1 s h

-- what a reactor took came fairly
pub fair_took : (t : Terms) (legal : List Ran → Type 0) (p : Actors t) (c : Core p.State) (h : History) → Holds t legal p c h → (n : ℕ) → IsFair t n (h.took (Reactor n))
fair_took t legal p c h l n =
    let k = l.lies (Reactor n) in
    let f : IsFair t n (h.took (Reactor n) ++ k.rest) = subst (IsFair t n) k.split (fair_sent t legal p c h l n) in
    record {
      routed = each_left (λ (e : ActorId × Message). MayPush t e.0 (Reactor n) e.1) (h.took (Reactor n)) k.rest f.routed;
      once = rises_left (collect fresh_in (bare (h.took (Reactor n)))) (collect fresh_in (bare k.rest)) (subst Rises (ap (collect fresh_in) (collect-append msg_of (h.took (Reactor n)) k.rest) ∙ collect-append fresh_in (bare (h.took (Reactor n))) (bare k.rest)) f.once);
    }

pub more_of : (t : Terms) (legal : List Ran → Type 0) (p : Actors t) (c : Core p.State) (h : History) → Holds t legal p c h → (n : ℕ) → n < t.reactor_num → ReactorMore t (p.kept (c.states (Reactor n))) (p.told (c.states (Reactor n))) (diary_of h (Reactor n))
more_of t legal p c h l n lt = (reactor_shown t legal p c h l n lt).1 (fair_took t legal p c h l n)

-- so what its law says of what it releases is what the book needs
may_free : (t : Terms) (legal : List Ran → Type 0) (p : Actors t) (c : Core p.State) (h : History) → Holds t legal p c h → (y : ActorId) (ds : List Did) (kept : List LinkRecord) (told : ℕ → Tells) → Each (MayDo t y) ds → ((n : ℕ) → n < t.reactor_num → y ≡ Reactor n → IsFair t n (h.took y) → ReactorMore t kept told (record { took = h.took y; pushed = h.pushed y; refused = h.refused y; dids = h.dids y ++ ds })) → MayFree t h.dids y (h.dids y) ds
may_free t legal p c h l y ds kept told may after = by (frees_by t y ds may)
  where
    all_drawn : (n : ℕ) → Each (λ s. Has s (drawn_by h.dids)) (collect fresh_in (bare (h.took (Reactor n))))
    all_drawn n = drawn_fresh t (AimOf t) (EndOf t) (past_of t p c h) (locals t legal p c h l) (joint t legal p c h l) n (λ s. Has s (drawn_by h.dids)) (each_at (λ s. Has s (drawn_by h.dids)) (drawn_by h.dids) (λ s k. k))

    alone : (n : ℕ) → n < t.reactor_num → (s : ℕ) → Has s (collect fresh_in (bare (h.took (Reactor n)))) → (m : ℕ) → m < t.reactor_num → Has s (firsts (collect free_in (h.dids (Reactor m)))) → Reactor m ≡ Reactor n
    alone n lt s fresh m less freed =
        let more = more_of t legal p c h l m less in
        let there : Has s (collect fresh_in (bare (h.took (Reactor m)))) = each_has (λ r. Has r (collect fresh_in (bare (h.took (Reactor m))))) (firsts (collect free_in (h.dids (Reactor m)))) s more.freed_fresh freed in
        fresh_routed t m (h.took (Reactor m)) (fair_took t legal p c h l m).routed s there ∙ sym (fresh_routed t n (h.took (Reactor n)) (fair_took t legal p c h l n).routed s fresh)

    at : (n : ℕ) → n < t.reactor_num → y ≡ Reactor n → MayFree t h.dids y (h.dids y) ds
    at n lt e =
        let more = after n lt e (subst (λ (z : ActorId). IsFair t n (h.took z)) (sym e) (fair_took t legal p c h l n)) in
        let fresh : Each (λ s. Has s (collect fresh_in (bare (h.took (Reactor n))))) (firsts (collect free_in ds)) =
        subst (λ (z : ActorId). Each (λ s. Has s (collect fresh_in (bare (h.took z)))) (firsts (collect free_in ds))) e
        (each_right (λ s. Has s (collect fresh_in (bare (h.took y)))) (firsts (collect free_in (h.dids y))) (firsts (collect free_in ds))
        (subst (Each (λ s. Has s (collect fresh_in (bare (h.took y))))) (ap firsts (collect-append free_in (h.dids y) ds) ∙ collect-append first_of (collect free_in (h.dids y)) (collect free_in ds)) more.freed_fresh)) in
        record {
          once = λ ne. more.freed_once;
          drawn = each_at (λ s. Has s (drawn_by h.dids)) (firsts (collect free_in ds)) (λ s k. each_has (λ r. Has r (drawn_by h.dids)) (collect fresh_in (bare (h.took (Reactor n)))) s (all_drawn n) (each_has (λ r. Has r (collect fresh_in (bare (h.took (Reactor n))))) (firsts (collect free_in ds)) s fresh k));
          alone = each_at (λ s. (m : ℕ) → m < t.reactor_num → ¬ (Reactor m ≡ y) → ¬ Has s (firsts (collect free_in (h.dids (Reactor m))))) (firsts (collect free_in ds))
              (λ s k m less ne freed. ne (alone n lt s (each_has (λ r. Has r (collect fresh_in (bare (h.took (Reactor n))))) (firsts (collect free_in ds)) s fresh k) m less freed ∙ sym e));
        }

    by : (collect free_in ds ≡ []) ⊎ ((n : ℕ) × ((n < t.reactor_num) × (y ≡ Reactor n))) → MayFree t h.dids y (h.dids y) ds
    by (inl e) =
        record {
          once = λ ne. absurd (ne e);
          drawn = subst (λ (ps : List (ℕ × ℕ)). Each (λ s. Has s (drawn_by h.dids)) (firsts ps)) (sym e) tt;
          alone = subst (λ (ps : List (ℕ × ℕ)). Each (λ s. (m : ℕ) → m < t.reactor_num → ¬ (Reactor m ≡ y) → ¬ Has s (firsts (collect free_in (h.dids (Reactor m))))) (firsts ps)) (sym e) tt;
        }
    by (inr k) = at k.0 k.1.0 k.1.1

-- a note stands as its hand's log goes on
note_grows : (t : Terms) (legal : List Ran → Type 0) (p : Actors t) (c : Core p.State) (h : History) → Holds t legal p c h → (y : ActorId) (more : Log) → Grows t y (p.log (c.states y)) more (h.pushed y) → (n : ℕ) → IsHand t y → (ip s : ℕ) (early rest : Mail) → h.took (Reactor n) ≡ early ++ (Door, FreshMsg ip s) ∷ rest → StandsEarly more s (collect (sends_in s) (of y early))
note_grows t legal p c h l y more (inl same) n k ip s early rest e = subst (λ (v : Log). StandsEarly v s (collect (sends_in s) (of y early))) (sym same) (l.notes n y k ip s early rest e)
note_grows t legal p c h l y more (inr (x, (q, settles))) n k ip s early rest e =
    subst (λ (v : Log). StandsEarly v s (collect (sends_in s) (of y early))) (sym q)
    (note_later t (p.log (c.states y)) x.0 x.1 s (collect (sends_in s) (of y early)) (collect (talk_in s) (of (Reactor (reactor_of t s)) (h.pushed y))) (l.notes n y k ip s early rest e) among
    (subst (λ (v : Log). IsPrefix (collect (talk_in s) (of (Reactor (reactor_of t s)) (h.pushed y))) (settled t s v)) q ((settles k).talk s)))
  where
    here : Reactor n ≡ Reactor (reactor_of t s)
    here = (each_right (λ (e : ActorId × Message). MayPush t e.0 (Reactor n) e.1) early ((Door, FreshMsg ip s) ∷ rest) (subst (Each (λ (e : ActorId × Message). MayPush t e.0 (Reactor n) e.1)) e (fair_took t legal p c h l n).routed)).0.1

    came : IsPrefix (of y early) (of (Reactor (reactor_of t s)) (h.pushed y))
    came = subst (λ (w : ActorId). IsPrefix (of y early) (of w (h.pushed y))) here
        (prefix_trans (of y early) (of y (h.took (Reactor n))) (of (Reactor n) (h.pushed y)) (prefix_collect (with y) early (h.took (Reactor n)) ((Door, FreshMsg ip s) ∷ rest, sym e)) (pipes h.took h.pushed h.sent l.pipes (Reactor n) y))

    talks : (ms : List Message) → collect (sends_in s) (collect (talk_in s) ms) ≡ collect (sends_in s) ms
    talks ms = collect-collect (sends_in s) (talk_in s) ms ∙ collect-same (λ m. collect (sends_in s) (talk_in s m)) (sends_in s) (talk_sends s) ms

    among : IsPrefix (collect (sends_in s) (of y early)) (collect (sends_in s) (collect (talk_in s) (of (Reactor (reactor_of t s)) (h.pushed y))))
    among = subst (IsPrefix (collect (sends_in s) (of y early))) (sym (talks (of (Reactor (reactor_of t s)) (h.pushed y)))) (prefix_collect (sends_in s) (of y early) (of (Reactor (reactor_of t s)) (h.pushed y)) came)

-- a turn by what it leaves: the state, and what is next
turn_keeps : (t : Terms) (legal : List Ran → Type 0) (p : Actors t) (c : Core p.State) (h : History) → Holds t legal p c h → c.lost ≡ false → (y : ActorId) → there t y ≡ true → (dids : List Did) (u : p.State) (n : Pending) (lost : Bool) (feed : Feed) →
    LocalBy t p y u n (with_dids (diary_of h y) dids) → (lost ≡ false → IsSound n) → Each (MayDo t y) dids → AllAnswer t legal c.ports y dids → Grows t y (p.log (c.states y)) (p.log u) (h.pushed y) → (IsHand t y → TellsLater (length c.ports.table) (p.log (c.states y)) (p.log u)) →
    ((m : ℕ) → m < t.reactor_num → y ≡ Reactor m → IsFair t m (h.took y) → ReactorMore t (p.kept u) (p.told u) (with_dids (diary_of h y) dids)) →
    Law t legal p (record { states = set_at c.states y u; nexts = set_at c.nexts y n; pipes = c.pipes; ports = all_ported t c.ports y dids; feed = feed; lost = lost })
turn_keeps t legal p c h l was y th dids u n lost feed local sound may answers grows tells frees = (
  record h { dids = add_all h.dids y dids },
  record {
    local = frame y (λ b z. there t z ≡ true → LocalBy t p z (if b then u else c.states z) (if b then n else c.nexts z) (record { took = h.took z; pushed = h.pushed z; refused = h.refused z; dids = (if b then h.dids z ++ dids else h.dids z) })) (λ i. local) l.local;
    absent = l.absent;
    sound = λ ok. frame y (λ b z. IsSound (if b then n else c.nexts z)) (sound ok) (l.sound was);
    may = frame y (λ b z. Each (MayDo t z) (if b then h.dids z ++ dids else h.dids z)) (each_append (MayDo t y) (h.dids y) dids (l.may y) may) l.may;
    pipes = l.pipes;
    lies = l.lies;
    notes = λ m z k ip s early rest e. frame y (λ b x. IsHand t x → StandsEarly (p.log (if b then u else c.states x)) s (collect (sends_in s) (of x early)))
        (λ i. note_grows t legal p c h l y (p.log u) grows m i ip s early rest e)
        (λ x i. l.notes m x i ip s early rest e) z k;
    task_marks = task_marks_turn t legal p c h l was y u (length (all_ported t c.ports y dids).table) (table_grows t y c.ports dids) grows tells;
    finish_marks = finish_marks_turn t legal p c h l was y u (length (all_ported t c.ports y dids).table) (table_grows t y c.ports dids) grows tells;
    ports = calls_keep t legal c.ports h.dids l.ports y dids may answers (may_free t legal p c h l y dids (p.kept u) (p.told u) may frees);
    full = l.full;
    doors_first = l.doors_first;
    links_first = l.links_first;
  },
)

pub turned_keeps : (t : Terms) (legal : List Ran → Type 0) (p : Actors t) (c : Core p.State) (h : History) → Holds t legal p c h → c.lost ≡ false → (y : ActorId) → there t y ≡ true → (o : Outcome p.State) (got : Got) → IsTurn t legal p c y o got → p.Quiet y (c.states y) got (diary_of h y) → Law t legal p (turned t p c y o)
turned_keeps t legal p c h l was y th o got turn q = by o.fails turn.0
  where
    left : Feed
    left = collect (part_of (p.has (c.states y)) false) c.feed

    by : (b : Bool) → IsMade t p b c y o got → Law t legal p (record { states = set_at c.states y o.state; nexts = set_at c.nexts y (then_next b o.ask); pipes = c.pipes; ports = all_ported t c.ports y o.dids; feed = collect (part_of (p.has (c.states y)) false) c.feed; lost = b })
    by true made =
        let lost = p.fails y (c.states y) got (handed p.has c y) o.dids o.state (diary_of h y) made q in
        turn_keeps t legal p c h l was y th o.dids o.state Lost true (collect (part_of (p.has (c.states y)) false) c.feed) lost (λ e. absurd (cc)) (p.fails_may y (c.states y) got (handed p.has c y) o.dids o.state made) turn.1
        (inl (p.fails_still y (c.states y) got (handed p.has c y) o.dids o.state made))
        (λ k x e. absurd (let same : p.log (c.states y) ≡ p.log (c.states y) ++ x ∷ [] = sym (p.fails_still y (c.states y) got (handed p.has c y) o.dids o.state made) ∙ e in omega (arith, ap (λ (v : Log). length v) same, length_append (p.log (c.states y)) (x ∷ []))))
        (λ m lt e. absurd (no_hand_reactor t m (subst (IsHand t) e (p.lost_shows y o.state (with_dids (diary_of h y) o.dids) lost).hand)))
    by false made =
        let after = p.keeps y (c.states y) got (handed p.has c y) o.dids o.state o.ask (diary_of h y) made q in
        turn_keeps t legal p c h l was y th o.dids o.state (Waits o.ask) false (collect (part_of (p.has (c.states y)) false) c.feed) after (λ e. tt) (p.may y (c.states y) got (handed p.has c y) o.dids o.state o.ask made) turn.1
        (p.grows y (c.states y) got (handed p.has c y) o.dids o.state o.ask (diary_of h y) made q)
        (λ k x e. (let new = (p.shows_after y o.state o.ask (with_dids (diary_of h y) o.dids) after).hand k in
        told_new (p.log (c.states y)) x (h.dids y) o.dids (length c.ports.table) (hand_law t legal p c h l y k).dialogue (subst Dialogue e new.law.dialogue) ((shown t legal p c h l was y th).hand k).logged (subst (λ (v : Log). placed v ≡ collect seat_in (h.dids y ++ o.dids)) e new.logged)
        (seats_above t legal y (length c.ports.table) c.ports o.dids (omega arith) turn.1)))
        (λ m lt e fair. (let word : HasWord (h.dids y ++ o.dids) = subst (λ (z : ActorId). HasWord (h.dids z ++ o.dids)) (sym e) (words_then t legal p c h l m lt o.dids (subst (λ (z : ActorId). Each (MayDo t z) o.dids) e (p.may y (c.states y) got (handed p.has c y) o.dids o.state o.ask made)) (subst (λ (z : ActorId). AllAnswer t legal c.ports z o.dids) e turn.1)) in
        ((p.shows_after y o.state o.ask (with_dids (diary_of h y) o.dids) after).reactor m lt e word).1 fair))

-- the sessions that came to a reactor were drawn
pub took_drawn : (t : Terms) (legal : List Ran → Type 0) (p : Actors t) (c : Core p.State) (h : History) → Holds t legal p c h → (n : ℕ) → Each (λ s. Has s (drawn_by h.dids)) (collect fresh_in (bare (h.took (Reactor n))))
took_drawn t legal p c h l n = drawn_fresh t (AimOf t) (EndOf t) (past_of t p c h) (locals t legal p c h l) (joint t legal p c h l) n (λ s. Has s (drawn_by h.dids)) (each_at (λ s. Has s (drawn_by h.dids)) (drawn_by h.dids) (λ s k. k))
