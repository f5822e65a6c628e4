-- The door keeps its law, and this shows what the world needs of it.
use Rattle.std.proofs.Common.{◌≡◌, ℕ, ◌+◌, ◌<◌, ◌≤◌, ◌==◌, Bool, true, false, List, [], ◌∷◌, ◌++◌, length, refl, ap, ◌∙◌, sym, subst, append-nil, append_assoc, arith, inl, inr, zero, suc}
use Rattle.std.proofs.lemmas.Bool.{cases_lt}
use Rattle.sw_lists.specs.Lists.{collect, when, Each, IsPrefix}
use Rattle.sw_lists.proofs.Lists.{equal_or_not, collect-append, each_append, each_more, each_prefix, prefix_collect, eq_same, eq_other, length_append}
use Rattle.sw_step.specs.declared.actor.ActorId.{ActorId}
use Rattle.sw_step.specs.declared.actor.ActorId.TheVariants.{Door, Reactor, Worker, Tasker}
use Rattle.sw_step.specs.Actors.{is}
use Rattle.sw_record.specs.Terms.{Terms, reactor_of}
use Rattle.sw_past.specs.Claims.{Claim, Drew, Full, Spent, drew, drew_in}
use Rattle.sw_past.specs.Messages.{Message, FreshMsg, SendMsg, CloseMsg, ResetMsg, Bye, EventMsg, OverMsg, NoMore}
use Rattle.sw_past.specs.Past.{Mail, bare, msg_of, of, with}
use Rattle.sw_past.specs.Routes.{MayPush}
use Rattle.sw_past.specs.Views.{no_more}
use Rattle.sw_join.specs.Drained.{LastMarked}
use Rattle.sw_record.specs.Words.{AcceptedCount, EndedCount}
use Rattle.sw_world_ports.specs.Calls.{Did, SeesStop}
use Rattle.sw_world_ports.specs.Made.{accept_in, stop_in, add_in}
use Rattle.sw_world_laws.specs.Turns.{Ask, AskPush, AskNothing, Got, GotStart, GotTook, GotEmpty, GotPushed, GotFull, GotNothing, Diary, After}
use Rattle.sw_world_laws.specs.Shows.{DoorShows, fresh_pair, drew_pair}
use Rattle.sw_world_laws.specs.Done.{DoorDone}
use Rattle.sw_world_door.specs.Doors.{DoorState, DoorGoes, Reads, NotYet, NetEnds, Draws, Refuses, Finishes, DoorTurn, says, IsLinkTo, DoorHolds, DoorQuiet, DoorDoneLaw, SaysNext}
use Rattle.sw_world_door.proofs.Order.{pushed_first}

pairs_more : (d ds : List Did) → collect drew_pair (collect accept_in (d ++ ds)) ≡ collect drew_pair (collect accept_in d) ++ collect drew_pair (collect accept_in ds)
pairs_more d ds = ap (collect drew_pair) (collect-append accept_in d ds) ∙ collect-append drew_pair (collect accept_in d) (collect accept_in ds)

-- what calls count
abbrev Counted : List Did → Type 0
Counted ds = (length (collect (add_in AcceptedCount) ds) ≤ length (collect accept_in ds)) × (length (collect (add_in EndedCount) ds) + length (collect drew_in (collect accept_in ds)) ≤ length (collect accept_in ds))

counted_more : (a b : List Did) → Counted a → Counted b → Counted (a ++ b)
counted_more a b h k =
    let zero_adds : length (collect (add_in AcceptedCount) (a ++ b)) ≡ length (collect (add_in AcceptedCount) a) + length (collect (add_in AcceptedCount) b) = ap (λ (xs : List ℕ). length xs) (collect-append (add_in AcceptedCount) a b) ∙ length_append (collect (add_in AcceptedCount) a) (collect (add_in AcceptedCount) b) in
    let one_adds : length (collect (add_in EndedCount) (a ++ b)) ≡ length (collect (add_in EndedCount) a) + length (collect (add_in EndedCount) b) = ap (λ (xs : List ℕ). length xs) (collect-append (add_in EndedCount) a b) ∙ length_append (collect (add_in EndedCount) a) (collect (add_in EndedCount) b) in
    let accepts : length (collect accept_in (a ++ b)) ≡ length (collect accept_in a) + length (collect accept_in b) = ap (λ (xs : List (ℕ × Claim)). length xs) (collect-append accept_in a b) ∙ length_append (collect accept_in a) (collect accept_in b) in
    let drawns : length (collect drew_in (collect accept_in (a ++ b))) ≡ length (collect drew_in (collect accept_in a)) + length (collect drew_in (collect accept_in b)) =
    ap (λ (xs : List (ℕ × Claim)). length (collect drew_in xs)) (collect-append accept_in a b) ∙ ap (λ (xs : List ℕ). length xs) (collect-append drew_in (collect accept_in a) (collect accept_in b)) ∙ length_append (collect drew_in (collect accept_in a)) (collect drew_in (collect accept_in b)) in
    let h0 : length (collect (add_in AcceptedCount) a) ≤ length (collect accept_in a) = h.0 in
    let h1 : length (collect (add_in EndedCount) a) + length (collect drew_in (collect accept_in a)) ≤ length (collect accept_in a) = h.1 in
    let k0 : length (collect (add_in AcceptedCount) b) ≤ length (collect accept_in b) = k.0 in
    let k1 : length (collect (add_in EndedCount) b) + length (collect drew_in (collect accept_in b)) ≤ length (collect accept_in b) = k.1 in
    ((omega arith), (omega arith))

nothing_counted : Counted []
nothing_counted = ((omega arith), (omega arith))

-- a turn that pushes nothing and draws nothing
still : (t : Terms) (s u : DoorState) (d : Diary) (ds : List Did) → DoorHolds t s d [] → u.given ≡ s.given → (u.ending ≡ false → s.given ≡ 0) → collect drew_pair (collect accept_in ds) ≡ [] → collect stop_in ds ≡ [] → Counted ds → DoorHolds t u (record { took = d.took; pushed = d.pushed; refused = d.refused; dids = d.dids ++ ds }) []
still t s u d ds h g e none quiet k =
    record {
      links = h.links;
      split = h.split ∙ ap (λ k. h.links ++ says k) (sym g);
      only = h.only;
      early = λ q. g ∙ e q;
      few = (let a : s.given ≤ t.reactor_num = h.few in omega (arith, g));
      drawn = h.drawn ∙ sym (pairs_more d.dids ds ∙ ap (λ (xs : List (ℕ × ℕ)). collect drew_pair (collect accept_in d.dids) ++ xs) none ∙ append-nil (collect drew_pair (collect accept_in d.dids)));
      stops = collect-append stop_in d.dids ds ∙ ap (λ (xs : List ℕ). xs ++ collect stop_in ds) h.stops ∙ quiet;
      accepted = (counted_more d.dids ds (h.accepted, h.refused) k).0;
      refused = (counted_more d.dids ds (h.accepted, h.refused) k).1;
    }

-- with a message in hand, whatever the pipe answers
pushes : (t : Terms) (u : DoorState) (to : ActorId) (m : Message) (d : Diary) → u.to ≡ to → DoorHolds t u d ((to, m) ∷ []) → After t (DoorQuiet t) (DoorDoneLaw t) u (AskPush to m) d
pushes t u to m d e h = (
  λ has. record { links = h.links; split = append-nil (d.pushed ++ (to, m) ∷ []) ∙ h.split; only = h.only; early = h.early; few = h.few; drawn = h.drawn; stops = h.stops; accepted = h.accepted; refused = h.refused },
  (let k : DoorHolds t u d ((u.to, m) ∷ []) = subst (λ (z : ActorId). DoorHolds t u d ((z, m) ∷ [])) (sym e) h in
      record { links = k.links; split = k.split; only = k.only; early = k.early; few = k.few; drawn = k.drawn; stops = k.stops; accepted = k.accepted; refused = k.refused }),
)

goes : (t : Terms) (s : DoorState) (dids : List Did) (u : DoorState) (ask : Ask) (d : Diary) → DoorHolds t s d [] → DoorGoes t s dids u ask → After t (DoorQuiet t) (DoorDoneLaw t) u ask (record { took = d.took; pushed = d.pushed; refused = d.refused; dids = d.dids ++ dids })
goes t s dids u ask d h (Reads b e a i j q) = by dids u ask i j q
  where
    by : (xs : List Did) (v : DoorState) (k : Ask) → xs ≡ SeesStop b ∷ [] → v ≡ record s { accepts = true; ending = b } → k ≡ AskNothing → After t (DoorQuiet t) (DoorDoneLaw t) v k (record { took = d.took; pushed = d.pushed; refused = d.refused; dids = d.dids ++ xs })
    by xs v k i j q = subst (λ (x : Ask). After t (DoorQuiet t) (DoorDoneLaw t) v x (record { took = d.took; pushed = d.pushed; refused = d.refused; dids = d.dids ++ xs })) (sym q)
        (still t s v d xs h (ap (λ (x : DoorState). x.given) j) (λ z. h.early e) (ap (λ (x : List Did). collect drew_pair (collect accept_in x)) i) (ap (λ (x : List Did). collect stop_in x) i) (subst Counted (sym i) ((omega arith), (omega arith))))
goes t s dids u ask d h (NotYet e a i j q) =
    subst (λ (x : Ask). After t (DoorQuiet t) (DoorDoneLaw t) u x (record { took = d.took; pushed = d.pushed; refused = d.refused; dids = d.dids ++ dids })) (sym q)
    (still t s u d dids h (ap (λ (x : DoorState). x.given) j) (λ z. h.early e) (ap (λ (x : List Did). collect drew_pair (collect accept_in x)) i) (ap (λ (x : List Did). collect stop_in x) i) (subst Counted (sym i) ((omega arith), (omega arith))))
goes t s dids u ask d h (NetEnds e a i j q) =
    subst (λ (x : Ask). After t (DoorQuiet t) (DoorDoneLaw t) u x (record { took = d.took; pushed = d.pushed; refused = d.refused; dids = d.dids ++ dids })) (sym q)
    (still t s u d dids h (ap (λ (x : DoorState). x.given) j) (λ z. h.early e) (ap (λ (x : List Did). collect drew_pair (collect accept_in x)) i) (ap (λ (x : List Did). collect stop_in x) i) (subst Counted (sym i) ((omega arith), (omega arith))))
goes t s dids u ask d h (Refuses ip c none e a i j q) =
    subst (λ (x : Ask). After t (DoorQuiet t) (DoorDoneLaw t) u x (record { took = d.took; pushed = d.pushed; refused = d.refused; dids = d.dids ++ dids })) (sym q)
    (still t s u d dids h (ap (λ (x : DoorState). x.given) j) (λ z. h.early e) (ap (λ (x : List Did). collect drew_pair (collect accept_in x)) i ∙ ap (λ (x : List (ℕ × ℕ)). x ++ []) (unpaired ip c none)) (ap (λ (x : List Did). collect stop_in x) i) (subst Counted (sym i) ((omega arith), (let z : length (drew c ++ []) ≡ 0 = ap (λ (xs : List ℕ). length (xs ++ [])) none in omega arith))))
  where
    unpaired : (n : ℕ) (x : Claim) → drew x ≡ [] → drew_pair (n, x) ≡ []
    unpaired n (Drew k) z = absurd (cc)
    unpaired n Full z = refl
    unpaired n Spent z = refl
goes t s dids u ask d h (Draws ip n e a i j q) =
    let zero_given : s.given ≡ 0 = h.early e in
    let g : u.given ≡ 0 = ap (λ (x : DoorState). x.given) j ∙ zero_given in
    let all : d.pushed ≡ h.links = sym (append-nil d.pushed) ∙ h.split ∙ ap (λ k. h.links ++ says k) zero_given ∙ append-nil h.links in
    subst (λ (x : Ask). After t (DoorQuiet t) (DoorDoneLaw t) u x (record { took = d.took; pushed = d.pushed; refused = d.refused; dids = d.dids ++ dids })) (sym q)
    (pushes t u (Reactor (reactor_of t n)) (FreshMsg ip n) (record { took = d.took; pushed = d.pushed; refused = d.refused; dids = d.dids ++ dids }) (ap (λ (x : DoorState). x.to) j)
    (record {
      links = h.links ++ (Reactor (reactor_of t n), FreshMsg ip n) ∷ [];
      split = ap (λ (ms : Mail). ms ++ (Reactor (reactor_of t n), FreshMsg ip n) ∷ []) all ∙ sym (append-nil (h.links ++ (Reactor (reactor_of t n), FreshMsg ip n) ∷ [])) ∙ ap (λ k. (h.links ++ (Reactor (reactor_of t n), FreshMsg ip n) ∷ []) ++ says k) (sym g);
      only = each_append (IsLinkTo t) h.links ((Reactor (reactor_of t n), FreshMsg ip n) ∷ []) h.only (refl, tt);
      early = λ z. g;
      few = omega (arith, g);
      drawn = ap (collect fresh_pair) (collect-append msg_of h.links ((Reactor (reactor_of t n), FreshMsg ip n) ∷ [])) ∙ collect-append fresh_pair (bare h.links) (FreshMsg ip n ∷ []) ∙ ap (λ (xs : List (ℕ × ℕ)). xs ++ (ip, n) ∷ []) h.drawn
          ∙ sym (pairs_more d.dids dids ∙ ap (λ (x : List Did). collect drew_pair (collect accept_in d.dids) ++ collect drew_pair (collect accept_in x)) i);
      stops = collect-append stop_in d.dids dids ∙ ap (λ (xs : List ℕ). xs ++ collect stop_in dids) h.stops ∙ ap (λ (x : List Did). collect stop_in x) i;
      accepted = (counted_more d.dids dids (h.accepted, h.refused) (subst Counted (sym i) ((omega arith), (omega arith)))).0;
      refused = (counted_more d.dids dids (h.accepted, h.refused) (subst Counted (sym i) ((omega arith), (omega arith)))).1;
    }))
goes t s dids u ask d h (SaysNext e lt i j q) =
    let g : u.given ≡ s.given + 1 = ap (λ (x : DoorState). x.given) j in
    let same : d.dids ++ dids ≡ d.dids = ap (λ (x : List Did). d.dids ++ x) i ∙ append-nil d.dids in
    subst (λ (x : Ask). After t (DoorQuiet t) (DoorDoneLaw t) u x (record { took = d.took; pushed = d.pushed; refused = d.refused; dids = d.dids ++ dids })) (sym q)
    (pushes t u (Reactor s.given) NoMore (record { took = d.took; pushed = d.pushed; refused = d.refused; dids = d.dids ++ dids }) (ap (λ (x : DoorState). x.to) j)
    (record {
      links = h.links;
      split = ap (λ (ms : Mail). ms ++ (Reactor s.given, NoMore) ∷ []) (sym (append-nil d.pushed) ∙ h.split) ∙ append_assoc h.links (says s.given) ((Reactor s.given, NoMore) ∷ []) ∙ ap (λ (ms : Mail). h.links ++ ms) (more s.given) ∙ ap (λ k. h.links ++ says k) (sym g);
      only = h.only;
      early = λ z. absurd (let v : true ≡ false = sym e ∙ ap (λ (x : DoorState). x.ending) (sym j) ∙ z in cc);
      few = omega (arith, g);
      drawn = h.drawn ∙ ap (λ (x : List Did). collect drew_pair (collect accept_in x)) (sym same);
      stops = ap (λ (x : List Did). collect stop_in x) same ∙ h.stops;
      accepted = (subst Counted (sym same) (h.accepted, h.refused)).0;
      refused = (subst Counted (sym same) (h.accepted, h.refused)).1;
    }))
  where
    more : (k : ℕ) → says k ++ (Reactor k, NoMore) ∷ [] ≡ says (k + 1)
    more k = let z : suc k ≡ k + 1 = omega arith in ap says z
goes t s dids u ask d h (Finishes e ge i j q) =
    subst (λ (x : Ask). After t (DoorQuiet t) (DoorDoneLaw t) u x (record { took = d.took; pushed = d.pushed; refused = d.refused; dids = d.dids ++ dids })) (sym q) (
      still t s u d dids h (ap (λ (x : DoorState). x.given) j) (λ z. absurd (let v : true ≡ false = sym e ∙ ap (λ (x : DoorState). x.ending) (sym j) ∙ z in cc)) (ap (λ (x : List Did). collect drew_pair (collect accept_in x)) i) (ap (λ (x : List Did). collect stop_in x) i) (subst Counted (sym i) nothing_counted),
      λ lt. ge (subst (λ (x : DoorState). x.given < t.reactor_num) j lt),
    )

pub door_keeps : (t : Terms) (s : DoorState) (got : Got) (dids : List Did) (u : DoorState) (ask : Ask) (d : Diary) → DoorTurn t s got dids u ask → DoorQuiet t s got d → After t (DoorQuiet t) (DoorDoneLaw t) u ask (record { took = d.took; pushed = d.pushed; refused = d.refused; dids = d.dids ++ dids })
door_keeps t s (GotFull m) dids u ask d g h =
    subst (λ (x : Ask). After t (DoorQuiet t) (DoorDoneLaw t) u x (record { took = d.took; pushed = d.pushed; refused = d.refused; dids = d.dids ++ dids })) (sym g.1.1)
    (subst (λ (v : DoorState). After t (DoorQuiet t) (DoorDoneLaw t) v (AskPush s.to m) (record { took = d.took; pushed = d.pushed; refused = d.refused; dids = d.dids ++ dids })) (sym g.1.0)
    (subst (λ (x : List Did). After t (DoorQuiet t) (DoorDoneLaw t) s (AskPush s.to m) (record { took = d.took; pushed = d.pushed; refused = d.refused; dids = x })) (sym (ap (λ (x : List Did). d.dids ++ x) g.0 ∙ append-nil d.dids))
    (pushes t s s.to m d refl h)))
door_keeps t s GotStart dids u ask d g h = goes t s dids u ask d h g
door_keeps t s (GotTook m) dids u ask d g h = goes t s dids u ask d h g
door_keeps t s GotEmpty dids u ask d g h = goes t s dids u ask d h g
door_keeps t s GotPushed dids u ask d g h = goes t s dids u ask d h g
door_keeps t s GotNothing dids u ask d g h = goes t s dids u ask d h g

-- what it shows
link_may : (t : Terms) (e : ActorId × Message) → IsLinkTo t e → MayPush t Door e.0 e.1
link_may t (to, FreshMsg ip s) h = (refl, h)
link_may t (to, SendMsg s b) h = absurd h
link_may t (to, CloseMsg s) h = absurd h
link_may t (to, ResetMsg s) h = absurd h
link_may t (to, Bye s) h = absurd h
link_may t (to, EventMsg e) h = absurd h
link_may t (to, OverMsg id) h = absurd h
link_may t (to, NoMore) h = absurd h

says_may : (t : Terms) (k : ℕ) → Each (λ (e : ActorId × Message). MayPush t Door e.0 e.1) (says k)
says_may t zero = tt
says_may t (suc k) = each_append (λ (e : ActorId × Message). MayPush t Door e.0 e.1) (says k) ((Reactor k, NoMore) ∷ []) (says_may t k) (inl refl, tt)

says_fresh : (k : ℕ) → collect fresh_pair (bare (says k)) ≡ []
says_fresh zero = refl
says_fresh (suc k) = ap (collect fresh_pair) (collect-append msg_of (says k) ((Reactor k, NoMore) ∷ [])) ∙ collect-append fresh_pair (bare (says k)) (NoMore ∷ []) ∙ ap (λ (xs : List (ℕ × ℕ)). xs ++ []) (says_fresh k)

pub door_shows : (t : Terms) (s : DoorState) (d : Diary) (hand : Mail) → DoorHolds t s d hand → DoorShows t d
door_shows t s d hand h =
    record {
      routed = each_prefix (λ (e : ActorId × Message). MayPush t Door e.0 e.1) d.pushed (h.links ++ says s.given) (hand, h.split)
          (each_append (λ (e : ActorId × Message). MayPush t Door e.0 e.1) h.links (says s.given) (each_more (IsLinkTo t) (λ (e : ActorId × Message). MayPush t Door e.0 e.1) h.links (link_may t) h.only) (says_may t s.given));
      fresh = subst (IsPrefix (collect fresh_pair (bare d.pushed))) (ap (collect fresh_pair) (collect-append msg_of h.links (says s.given)) ∙ collect-append fresh_pair (bare h.links) (bare (says s.given)) ∙ ap (λ (xs : List (ℕ × ℕ)). collect fresh_pair (bare h.links) ++ xs) (says_fresh s.given) ∙ append-nil (collect fresh_pair (bare h.links)) ∙ h.drawn)
          (prefix_collect fresh_pair (bare d.pushed) (bare (h.links ++ says s.given)) (prefix_collect msg_of d.pushed (h.links ++ says s.given) (hand, h.split)));
      order = pushed_first t h.links d.pushed hand s.given h.split h.only;
      stops = λ some. absurd (some h.stops);
      accepted = h.accepted;
      refused = h.refused;
    }

-- once it is finished
links_quiet : (t : Terms) (x : ActorId) (ms : Mail) → Each (IsLinkTo t) ms → collect no_more (of x ms) ≡ []
links_quiet t x [] h = refl
links_quiet t x ((to, FreshMsg ip s) ∷ ms) h = pick (is to x) (links_quiet t x ms h.1)
  where
    pick : (b : Bool) → collect no_more (of x ms) ≡ [] → collect no_more (when b (FreshMsg ip s) ++ of x ms) ≡ []
    pick true r = r
    pick false r = r
links_quiet t x ((to, SendMsg s b) ∷ ms) h = absurd h.0
links_quiet t x ((to, CloseMsg s) ∷ ms) h = absurd h.0
links_quiet t x ((to, ResetMsg s) ∷ ms) h = absurd h.0
links_quiet t x ((to, Bye s) ∷ ms) h = absurd h.0
links_quiet t x ((to, EventMsg e) ∷ ms) h = absurd h.0
links_quiet t x ((to, OverMsg id) ∷ ms) h = absurd h.0
links_quiet t x ((to, NoMore) ∷ ms) h = absurd h.0

says_to : (x : ActorId) (k : ℕ) → of x (says (suc k)) ≡ of x (says k) ++ when (is (Reactor k) x) NoMore
says_to x k = collect-append (with x) (says k) ((Reactor k, NoMore) ∷ []) ∙ ap (λ (ms : List Message). of x (says k) ++ ms) (append-nil (when (is (Reactor k) x) NoMore))

-- none so far to a later reactor, and one to an earlier one
says_none : (n k : ℕ) → k ≤ n → of (Reactor n) (says k) ≡ []
says_none n zero le = refl
says_none n (suc k) le = says_to (Reactor n) k ∙ ap (λ (ms : List Message). ms ++ when (k == n) NoMore) (says_none n k (omega arith)) ∙ ap (λ b. when b NoMore) (eq_other k n (λ e. absurd (omega arith)))

says_one : (n k : ℕ) → n < k → of (Reactor n) (says k) ≡ NoMore ∷ []
says_one n zero lt = absurd (omega arith)
says_one n (suc k) lt = says_to (Reactor n) k ∙ elim (equal_or_not k n) [
  | inl e ↦ ap (λ (ms : List Message). ms ++ when (k == n) NoMore) (says_none n k (omega arith)) ∙ ap (λ b. when b NoMore) (eq_same k n e)
  | inr ne ↦ ap (λ (ms : List Message). ms ++ when (k == n) NoMore) (says_one n k (omega arith)) ∙ ap (λ b. NoMore ∷ when b NoMore) (eq_other k n ne)
]

says_few : (x : ActorId) (k : ℕ) → length (collect no_more (of x (says k))) ≤ 1
says_few Door k = omega (arith, ap (λ (ms : List Message). length (collect no_more ms)) (no_door k))
  where
    no_door : (j : ℕ) → of Door (says j) ≡ []
    no_door zero = refl
    no_door (suc j) = says_to Door j ∙ ap (λ (ms : List Message). ms ++ []) (no_door j)
says_few (Worker w) k = omega (arith, ap (λ (ms : List Message). length (collect no_more ms)) (no_worker k))
  where
    no_worker : (j : ℕ) → of (Worker w) (says j) ≡ []
    no_worker zero = refl
    no_worker (suc j) = says_to (Worker w) j ∙ ap (λ (ms : List Message). ms ++ []) (no_worker j)
says_few (Tasker w) k = omega (arith, ap (λ (ms : List Message). length (collect no_more ms)) (no_tasker k))
  where
    no_tasker : (j : ℕ) → of (Tasker w) (says j) ≡ []
    no_tasker zero = refl
    no_tasker (suc j) = says_to (Tasker w) j ∙ ap (λ (ms : List Message). ms ++ []) (no_tasker j)
says_few (Reactor n) k = elim (cases_lt n k) [
  | inl lt ↦ omega (arith, ap (λ (ms : List Message). length (collect no_more ms)) (says_one n k lt))
  | inr ge ↦ omega (arith, ap (λ (ms : List Message). length (collect no_more ms)) (says_none n k ge))
]

last_marked : (f : Message → List ℕ) (ms : List Message) (m : Message) → ¬ (f m ≡ []) → LastMarked f (ms ++ m ∷ [])
last_marked f [] m n = n
last_marked f (x ∷ []) m n = n
last_marked f (x ∷ y ∷ ms) m n = last_marked f (y ∷ ms) m n

pub door_done : (t : Terms) (s : DoorState) (d : Diary) → DoorDoneLaw t s d → ((x : ActorId) → length (collect no_more (of x d.pushed)) ≤ 1) × DoorDone t d
door_done t s d (h, ge) = (
  (λ x. subst (λ (ms : Mail). length (collect no_more (of x ms)) ≤ 1) (sym all)
      (let a : length (collect no_more (of x (says s.given))) ≤ 1 = says_few x s.given in
      let b : collect no_more (of x (h.links ++ says s.given)) ≡ collect no_more (of x (says s.given)) = ap (collect no_more) (collect-append (with x) h.links (says s.given)) ∙ collect-append no_more (of x h.links) (of x (says s.given)) ∙ ap (λ (ns : List ℕ). ns ++ collect no_more (of x (says s.given))) (links_quiet t x h.links h.only) in
      subst (λ (ns : List ℕ). length ns ≤ 1) (sym b) a)),
  record {
    fresh = ap (λ (ms : Mail). collect fresh_pair (bare ms)) all ∙ ap (collect fresh_pair) (collect-append msg_of h.links (says s.given)) ∙ collect-append fresh_pair (bare h.links) (bare (says s.given)) ∙ ap (λ (xs : List (ℕ × ℕ)). collect fresh_pair (bare h.links) ++ xs) (says_fresh s.given) ∙ append-nil (collect fresh_pair (bare h.links)) ∙ h.drawn;
    last = λ n lt. subst (LastMarked no_more) (sym (ap (of (Reactor n)) all ∙ collect-append (with (Reactor n)) h.links (says s.given) ∙ ap (λ (ms : List Message). of (Reactor n) h.links ++ ms) (says_one n s.given (omega (arith, ge))))) (last_marked no_more (of (Reactor n) h.links) NoMore (λ e. absurd (cc)));
  },
)
  where
    all : d.pushed ≡ h.links ++ says s.given
    all = sym (append-nil d.pushed) ∙ h.split
