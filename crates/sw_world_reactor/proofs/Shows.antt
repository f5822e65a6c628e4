-- What the reactor's law shows.
use Rattle.std.proofs.Common.{◌≡◌, ◌⊎◌, ℕ, ◌+◌, ◌<◌, ◌≤◌, ◌%◌, ◌==◌, Bool, true, false, if◌then◌else◌, List, [], ◌∷◌, ◌++◌, length, Option, Some, None, refl, ap, ◌∙◌, sym, subst, append-nil, arith, inl, inr, zero, suc}
use Rattle.sw_lists.specs.Lists.{collect, Each, Has}
use Rattle.sw_lists.specs.Numbers.{Distinct}
use Rattle.sw_lists.proofs.Lists.{collect-append, collect-same, each_more, each_at, eq_same, eq_other, equal_or_not, append_none}
use Rattle.sw_data.specs.declared.messages.Got.{Got as TableGot}
use Rattle.sw_data.specs.declared.messages.Got.TheVariants as gots
use Rattle.sw_frame.specs.Cut.{IsFit}
use Rattle.sw_step.specs.declared.actor.ActorId.{ActorId}
use Rattle.sw_step.specs.declared.actor.ActorId.TheVariants.{Door, Reactor, Worker, Tasker}
use Rattle.sw_link.specs.declared.link.LinkWrite.{LinkWrite}
use Rattle.sw_link.specs.Reads.{Read}
use Rattle.sw_record.specs.declared.record.LinkRecord.{LinkRecord}
use Rattle.sw_record.specs.declared.record.LinkState.{LinkState}
use Rattle.sw_record.specs.declared.record.LinkState.TheVariants.{Live, Over}
use Rattle.sw_record.specs.Words.{Cause, PeerEnd, ServerClose, ResetCause, ReadFault, WriteFault, TooLong, BadLength, Overflow, Stop, NoSlot, NumbersSpent, NoMemory, Ended}
use Rattle.sw_record.specs.Terms.{Terms, session_of, ended_of}
use Rattle.sw_record.specs.Causes.{ShowsCause}
use Rattle.sw_record.specs.Counts.{total}
use Rattle.sw_record.specs.Sessions.{sess, some_of}
use Rattle.sw_past.specs.Messages.{Message}
use Rattle.sw_past.specs.Past.{Mail, bare, msg_of, of}
use Rattle.sw_past.specs.Views.{fresh_in, close_of, reset_of, no_more}
use Rattle.sw_past.specs.Routes.{IsHand, IsFair}
use Rattle.sw_join.specs.Laws.{ReactorLaw}
use Rattle.sw_join.specs.Modes.{AimOf, EndOf}
use Rattle.sw_world_ports.specs.Calls.{Did, IsReactor}
use Rattle.sw_world_ports.specs.Made.{found_in, free_in, firsts}
use Rattle.sw_world_ports.proofs.Haves.{each_has, has_left, has_right, has_split}
use Rattle.sw_world_laws.specs.Turns.{Ask, AskTake, AskPush, AskNothing, AskRest, AskFinished, Got, GotStart, GotTook, GotEmpty, GotPushed, GotFull, GotNothing, Diary, no_diary, After}
use Rattle.sw_world_laws.specs.Shows.{FitsKept, HasWord, ReactorMore, Shows}
use Rattle.sw_world_laws.specs.Account.{is_session}
use Rattle.sw_world_laws.proofs.Locals.{no_hand_reactor}
use Rattle.sw_reactor_table.specs.Conn.{Conn, live_link}
use Rattle.sw_reactor_table.specs.Reactor.{Reactor as Table, all, settled, live_links, kept, started}
use Rattle.sw_reactor_table.specs.Quiet.{session_over, some_list}
use Rattle.sw_reactor_table.specs.Runs.{Called, TookOne, FoundNone, PushedOne, CameBack, NoCall}
use Rattle.sw_reactor_table.proofs.Grows.{fit_grows}
use Rattle.sw_reactor_table.proofs.Final.{always, mode_laws}
use Rattle.sw_reactor_table.proofs.Law.{call_fair}
use Rattle.sw_reactor_laws.specs.Histories.{freed_of, freed_by, told_uid, reads_in, writes_in}
use Rattle.sw_reactor_laws.specs.Rests.{RestsOn}
use Rattle.sw_reactor_laws.specs.Shows.{ReactorMore as TableMore}
use Rattle.sw_reactor_laws.proofs.Shows.{reactor_more}
use Rattle.sw_reactor_laws.proofs.Ending.{call_counts}
use Rattle.sw_reactor_laws.proofs.Histories.{Listed, runs_listed}
use Rattle.sw_world_reactor.specs.Reactors.{is_peer_end, is_fault, ended_by, any_ended, told_by, AllTold, RunWith, Ran, Behind, QuietBy, RQuiet, RDone}
use Rattle.sw_world_reactor.proofs.Once.{once_to, only_call, behind_call}

-- what came so far goes on
called_more : (s : Table) (took pushed later more : Mail) (got : TableGot Message) → Called s took pushed later more got → (rest : Mail) × (later ≡ took ++ rest)
called_more s took pushed _ _ _ (TookOne e from m) = ((from, m) ∷ [], refl)
called_more s took pushed _ _ _ (FoundNone e) = ([], sym (append-nil took))
called_more s took pushed _ _ _ (PushedOne w m e) = ([], sym (append-nil took))
called_more s took pushed _ _ _ (CameBack w m e) = ([], sym (append-nil took))
called_more s took pushed _ _ _ (NoCall e) = ([], sym (append-nil took))

more_bare : (f : Message → List ℕ) (took later rest : Mail) → later ≡ took ++ rest → collect f (bare later) ≡ collect f (bare took) ++ collect f (bare rest)
more_bare f took later rest e = ap (λ (ms : Mail). collect f (bare ms)) e ∙ ap (collect f) (collect-append msg_of took rest) ∙ collect-append f (bare took) (bare rest)

has_more : (took later rest : Mail) → later ≡ took ++ rest → (s : ℕ) → Has s (collect fresh_in (bare took)) → Has s (collect fresh_in (bare later))
has_more took later rest e s h = subst (Has s) (sym (more_bare fresh_in took later rest e)) (has_left s (collect fresh_in (bare took)) (collect fresh_in (bare rest)) h)

asked_more : (f : Message → List ℕ) (took later rest : Mail) → later ≡ took ++ rest → ¬ (collect f (bare took) ≡ []) → ¬ (collect f (bare later) ≡ [])
asked_more f took later rest e h z = h (append_none (collect f (bare took)) (collect f (bare rest)) (sym (more_bare f took later rest e) ∙ z)).0

-- the links of connections live
live_is : (t : Terms) (cs : List Conn) (l : LinkRecord) → Has l (live_links t cs) → (c : Conn) × (l ≡ live_link t c)
live_is t [] l (k, q) = absurd (cc)
live_is t (c ∷ cs) l (zero, q) = (c, (let i : live_link t c ≡ l = cc in sym i))
live_is t (c ∷ cs) l (suc k, q) = live_is t cs l (k, q)

not_over : (d e : Ended) → Live d ≡ Over e → ⊥
not_over d e q = cc

over_same : (d e : Ended) → Over d ≡ Over e → d ≡ e
over_same d e q = cc

-- a link that ended is one of those that were put
over_has : (t : Terms) (s : Table) (l : LinkRecord) (e : Ended) → Has l (kept t s) → l.state ≡ Over e → Has l s.over
over_has t s l e has is = elim (has_split l (live_links t (all s)) s.over has) [
  | inl h ↦ absurd (let c = live_is t (all s) l h in not_over _ e (sym (ap (λ (k : LinkRecord). k.state) c.1) ∙ is))
  | inr h ↦ h
]

-- what ended is told
test_session : (s : ℕ) (o : Option ℕ) → o ≡ Some s → (f : Bool) → (if is_session s o then f else false) ≡ f
test_session s None e f = absurd (cc)
test_session s (Some u) e f = (let i : u ≡ s = cc in ap (λ (b : Bool). if b then f else false) (eq_same u s i))

ended_true : (f : Cause → Bool) (s : ℕ) (x : LinkState) (e : Ended) → x ≡ Over e → session_of x ≡ Some s → f e.cause ≡ true → ended_by f s x ≡ true
ended_true f s x e is own said = ap (ended_by f s) is ∙ test_session s e.session (sym (ap session_of is) ∙ own) (f e.cause) ∙ said

any_true : (f : Cause → Bool) (s : ℕ) (ls : List LinkRecord) (l : LinkRecord) (e : Ended) → Has l ls → l.state ≡ Over e → session_of l.state ≡ Some s → f e.cause ≡ true → any_ended f s ls ≡ true
any_true f s [] l e (k, q) is own said = absurd (cc)
any_true f s (x ∷ ls) l e (zero, q) is own said =
    (let i : x ≡ l = cc in
    ap (λ (b : Bool). if b then true else any_ended f s ls) (ended_true f s x.state e (ap (λ (k : LinkRecord). k.state) i ∙ is) (ap (λ (k : LinkRecord). session_of k.state) i ∙ own) said))
any_true f s (x ∷ ls) l e (suc k, q) is own said = by (ended_by f s x.state) (any_true f s ls l e (k, q) is own said)
  where
    by : (b : Bool) → any_ended f s ls ≡ true → (if b then true else any_ended f s ls) ≡ true
    by true h = refl
    by false h = h

shows_by : (t : Terms) (reads : List (ℕ × Read)) (writes : List (ℕ × LinkWrite)) (s : ℕ) (ls : List LinkRecord) (l : LinkRecord) (e : Ended) → Has l ls → l.state ≡ Over e → session_of l.state ≡ Some s → (c : Cause) → e.cause ≡ c → RestsOn t reads writes s l.pieces c → ShowsCause t l (Some (any_ended is_peer_end s ls)) (Some (any_ended is_fault s ls)) c
shows_by t reads writes s ls l e has is own PeerEnd q r = ap Some (any_true is_peer_end s ls l e has is own (ap is_peer_end q))
shows_by t reads writes s ls l e has is own ReadFault q r = ap Some (any_true is_fault s ls l e has is own (ap is_fault q))
shows_by t reads writes s ls l e has is own WriteFault q r = ap Some (any_true is_fault s ls l e has is own (ap is_fault q))
shows_by t reads writes s ls l e has is own (TooLong n) q r = r
shows_by t reads writes s ls l e has is own (BadLength n) q r = r
shows_by t reads writes s ls l e has is own ServerClose q r = tt
shows_by t reads writes s ls l e has is own ResetCause q r = tt
shows_by t reads writes s ls l e has is own (Overflow n) q r = tt
shows_by t reads writes s ls l e has is own Stop q r = tt
shows_by t reads writes s ls l e has is own NoSlot q r = tt
shows_by t reads writes s ls l e has is own NumbersSpent q r = tt
shows_by t reads writes s ls l e has is own NoMemory q r = tt

-- its release is one of those that were collected
freed_has : (ls : List LinkRecord) (l : LinkRecord) (s : ℕ) (e : Ended) → Has l ls → l.state ≡ Over e → session_of l.state ≡ Some s → Has (s, e.uid) (collect freed_of ls)
freed_has [] l s e (k, q) is own = absurd (cc)
freed_has (x ∷ ls) l s e (zero, q) is own =
    (let i : x ≡ l = cc in
    let here : freed_of x ≡ (s, e.uid) ∷ [] = ap (λ (k : LinkRecord). freed_of k) i ∙ ap (λ (k : LinkState). freed_by k) is ∙ ap (λ (o : Option ℕ). collect (told_uid e) (some_list o)) (sym (ap session_of is) ∙ own) in
    subst (λ (zs : List (ℕ × ℕ)). Has (s, e.uid) (zs ++ collect freed_of ls)) (sym here) (0, refl))
freed_has (x ∷ ls) l s e (suc k, q) is own = has_right (s, e.uid) (freed_of x) (collect freed_of ls) (freed_has ls l s e (k, q) is own)

-- a uid that was found, or none was
find_uid : (xs : List (ℕ × ℕ)) (s : ℕ) → ((u : ℕ) × (Has (s, u) xs × (¬ (u ≡ 0)))) ⊎ Each (λ (p : ℕ × ℕ). p.0 ≡ s → p.1 ≡ 0) xs
find_uid [] s = inr tt
find_uid (x ∷ xs) s = by (equal_or_not x.0 s) (equal_or_not x.1 0) (find_uid xs s)
  where
    later : ((u : ℕ) × (Has (s, u) xs × (¬ (u ≡ 0)))) → (u : ℕ) × (Has (s, u) (x ∷ xs) × (¬ (u ≡ 0)))
    later k = (k.0, ((suc k.1.0.0, k.1.0.1), k.1.1))

    by : (x.0 ≡ s) ⊎ (¬ (x.0 ≡ s)) → (x.1 ≡ 0) ⊎ (¬ (x.1 ≡ 0)) → (((u : ℕ) × (Has (s, u) xs × (¬ (u ≡ 0)))) ⊎ Each (λ (p : ℕ × ℕ). p.0 ≡ s → p.1 ≡ 0) xs) → ((u : ℕ) × (Has (s, u) (x ∷ xs) × (¬ (u ≡ 0)))) ⊎ Each (λ (p : ℕ × ℕ). p.0 ≡ s → p.1 ≡ 0) (x ∷ xs)
    by (inl a) (inr b) k = inl (x.1, ((0, ap (λ (v : ℕ). Some (v, x.1)) a), b))
    by (inl a) (inl b) (inl k) = inl (later k)
    by (inl a) (inl b) (inr k) = inr ((λ q. b), k)
    by (inr a) b (inl k) = inl (later k)
    by (inr a) b (inr k) = inr ((λ q. absurd (a q)), k)

-- the uids with another one for this session
abbrev with_uid : (ℕ → ℕ) → ℕ → ℕ → ℕ → ℕ
with_uid word s v r = if r == s then v else word r

uid_else : (word : ℕ → ℕ) (s v r : ℕ) → ¬ (r ≡ s) → with_uid word s v r ≡ word r
uid_else word s v r ne = ap (λ (b : Bool). if b then v else word r) (eq_other r s ne)

uid_here : (word : ℕ → ℕ) (s v : ℕ) → with_uid word s v s ≡ v
uid_here word s v = ap (λ (b : Bool). if b then v else word s) (eq_same s s refl)

told_else : (word : ℕ → ℕ) (s v : ℕ) (dids : List Did) → AllTold word dids → Each (λ (p : ℕ × ℕ). p.0 ≡ s → p.1 ≡ 0) (collect found_in dids) → ((u : ℕ) → Has (s, u) (collect free_in dids) → ⊥) → AllTold (with_uid word s v) dids
told_else word s v dids told none unfreed =
    record {
      found = each_at (λ (p : ℕ × ℕ). (p.1 ≡ 0) ⊎ (p.1 ≡ with_uid word s v p.0)) (collect found_in dids) (λ p has. (let a = each_has (λ (q : ℕ × ℕ). (q.1 ≡ 0) ⊎ (q.1 ≡ word q.0)) (collect found_in dids) p told.found has in
          let b = each_has (λ (q : ℕ × ℕ). q.0 ≡ s → q.1 ≡ 0) (collect found_in dids) p none has in
          elim (equal_or_not p.0 s) [ inl e ↦ inl (b e) | inr ne ↦ elim a [ inl z ↦ inl z | inr z ↦ inr (z ∙ sym (uid_else word s v p.0 ne)) ] ]));
      freed = each_at (λ (p : ℕ × ℕ). p.1 ≡ with_uid word s v p.0) (collect free_in dids) (λ p has. (let a = each_has (λ (q : ℕ × ℕ). q.1 ≡ word q.0) (collect free_in dids) p told.freed has in
          elim (equal_or_not p.0 s) [ inl e ↦ absurd (unfreed p.1 (subst (λ (k : ℕ). Has (k, p.1) (collect free_in dids)) e has)) | inr ne ↦ a ∙ sym (uid_else word s v p.0 ne) ]));
    }

sess_same : (o : Option ℕ) → some_list o ≡ some_of o
sess_same None = refl
sess_same (Some s) = refl

first_has : (s u : ℕ) (ps : List (ℕ × ℕ)) → Has (s, u) ps → Has s (firsts ps)
first_has s u [] (k, q) = absurd (cc)
first_has s u (p ∷ ps) (zero, q) = (0, let i : p ≡ (s, u) = cc in ap (λ (x : ℕ × ℕ). Some x.0) i)
first_has s u (p ∷ ps) (suc k, q) = (let r = first_has s u ps (k, q) in (suc r.0, r.1))

-- runs behind some turns, and what came later
record Shown (t : Terms) (n : ℕ) (s : Table) (took pushed : Mail) (dids : List Did) (later more : Mail) : Type 0 where
  runs : (word : ℕ → ℕ) → AllTold word dids → RunWith t word took pushed s dids
  rest : Mail
  goes : later ≡ took ++ rest
  fair : IsFair t n later → IsFair t n took
  last : (x : ActorId) → length (collect no_more (of x more)) ≤ 1
  ended : ¬ (collect no_more (bare more) ≡ []) → ¬ (collect no_more (bare later) ≡ [])

more_shown : (t : Terms) → 0 < t.worker_num → IsFit t.framing → (n : ℕ) → n < t.reactor_num → (s : Table) (took pushed : Mail) (d : Diary) → Shown t n s took pushed d.dids d.took d.pushed → (word : ℕ → ℕ) → AllTold word d.dids → IsFair t n d.took → ReactorMore t (kept t s) (told_by s) d
more_shown t some fit n lt s took pushed d h word told fair =
    record {
      freed_once = subst (λ (ps : List (ℕ × ℕ)). Distinct (firsts ps)) (sym w.frees) x.once;
      freed_fresh = subst (λ (ps : List (ℕ × ℕ)). Each (λ k. Has k (collect fresh_in (bare d.took))) (firsts ps)) (sym w.frees) (each_more (λ k. Has k (collect fresh_in (bare took))) (λ k. Has k (collect fresh_in (bare d.took))) _ (λ k has. has_more took d.took h.rest h.goes k has) x.came);
      freed_kept = λ k has. x.release k (subst (λ (ps : List (ℕ × ℕ)). Has k (firsts ps)) w.frees has);
      last = h.last;
      ended = h.ended;
      ends = w.ends;
      packets = (let e : length _ ≡ total (kept t s) = w.packets ∙ x.packets in omega (arith, e));
      sessions = x.sessions;
      distinct = subst Distinct (collect-same session_over sess (λ l. sess_same (session_of l.state)) (kept t s)) x.distinct;
      fits = fits;
      closed = λ k l e has own is c. asked_more (close_of k) took d.took h.rest h.goes ((each_has _ (kept t s) l x.asked has k e own is).0 (ap Some c));
      resets = λ k l e has own is c. asked_more (reset_of k) took d.took h.rest h.goes ((each_has _ (kept t s) l x.asked has k e own is).1 (ap Some c));
      stops = λ l e has is c own. w.stops (each_has _ (kept t s) l x.stops has e is c);
      shows = λ k l e has own is. shows_by t (reads_in w.run) (writes_in w.run) k s.over l e (over_has t s l e has is) is own e.cause refl (each_has _ (kept t s) l x.rests has k e own is).0;
      over = λ k l e has own is mine. subst (Has (k, e.uid)) (sym (w.frees ∙ x.freed)) (freed_has (kept t s) l k e has is own);
      live = live;
    }
  where
    w : RunWith t word took pushed s d.dids
    w = h.runs word told

    x : TableMore t word took pushed s w.run
    x = reactor_more t word some fit n lt took pushed s w.run (h.fair fair)

    listed : Listed took (all s) s.over
    listed = runs_listed t (AimOf t) (EndOf t) (mode_laws t) word some (fit_grows t fit) n lt took pushed s w.run (h.fair fair)

    caused : (k : ℕ) (ps : List (List ℕ)) (c : Cause) → RestsOn t (reads_in w.run) (writes_in w.run) k ps c → (¬ (c ≡ NoSlot)) × (¬ (c ≡ NumbersSpent))
    caused k ps c r = ((λ q. absurd (subst (RestsOn t (reads_in w.run) (writes_in w.run) k ps) q r)), (λ q. absurd (subst (RestsOn t (reads_in w.run) (writes_in w.run) k ps) q r)))

    fits : (k : ℕ) (l : LinkRecord) → Has l (kept t s) → session_of l.state ≡ Some k → FitsKept t k l
    fits k l has own = elim (has_split l (live_links t (all s)) s.over has) [
      | inl f ↦ (let c = live_is t (all s) l f in subst (FitsKept t k) (sym c.1) (live_fits k c.0 (sym (ap (λ (y : LinkRecord). session_of y.state) c.1) ∙ own)))
      | inr f ↦ (let e = each_has _ s.over l listed.ended f in
          let r = each_has _ (kept t s) l x.rests has k e.0 own e.1 in
          record { ended = e.0; is = ap ended_of e.1; fd = r.1; ip = r.2; cause = caused k l.pieces (e.0).cause r.0 })
    ]
      where
        live_fits : (k : ℕ) (c : Conn) → Some c.session ≡ Some k → FitsKept t k (live_link t c)
        live_fits k c q = record { ended = _; is = refl; fd = (let i : c.session ≡ k = cc in ap (λ (v : ℕ). v % t.max_conn) i); ip = refl; cause = ((λ z. absurd (cc)), (λ z. absurd (cc))) }

    live : (k : ℕ) (l : LinkRecord) (e : Ended) → Has l (kept t s) → session_of l.state ≡ Some k → l.state ≡ Live e → (e.uid ≡ 0) ⊎ Has (k, e.uid) (collect found_in d.dids)
    live k l e has own is = by (find_uid (collect found_in d.dids) k)
      where
        unfreed : (u : ℕ) → Has (k, u) (collect free_in d.dids) → ⊥
        unfreed u f = (let r = (x.release k (subst (λ (ps : List (ℕ × ℕ)). Has k (firsts ps)) w.frees (first_has k u (collect free_in d.dids) f))).1 l has own in not_over e r.0 (sym is ∙ r.1))

        by : ((u : ℕ) × (Has (k, u) (collect found_in d.dids) × (¬ (u ≡ 0)))) ⊎ Each (λ (p : ℕ × ℕ). p.0 ≡ k → p.1 ≡ 0) (collect found_in d.dids) → (e.uid ≡ 0) ⊎ Has (k, e.uid) (collect found_in d.dids)
        by (inl (u, (f, some_uid))) =
            (let a : (u ≡ 0) ⊎ (u ≡ word k) = each_has (λ (q : ℕ × ℕ). (q.1 ≡ 0) ⊎ (q.1 ≡ word q.0)) (collect found_in d.dids) (k, u) told.found f in
            let b = (each_has _ (kept t s) l x.uids has).1 k e own is in
            elim b [
              | inl z ↦ inl z
              | inr z ↦ elim a [ inl q ↦ absurd (some_uid q) | inr q ↦ inr (subst (λ (v : ℕ). Has (k, v) (collect found_in d.dids)) (q ∙ sym z) f) ]
            ])
        by (inr none) =
            (let told2 : AllTold (with_uid word k (e.uid + 1)) d.dids = told_else word k (e.uid + 1) d.dids told none unfreed in
            let w2 : RunWith t (with_uid word k (e.uid + 1)) took pushed s d.dids = h.runs (with_uid word k (e.uid + 1)) told2 in
            let y = reactor_more t (with_uid word k (e.uid + 1)) some fit n lt took pushed s w2.run (h.fair fair) in
            elim ((each_has _ (kept t s) l y.uids has).1 k e own is) [
              | inl z ↦ inl z
              | inr z ↦ absurd (let q : e.uid ≡ e.uid + 1 = z ∙ uid_here word k (e.uid + 1) in omega (arith, q))
            ])

-- of each moment
abbrev law_and_more : Terms → ℕ → Table → Diary → Type 0
law_and_more t n s d = HasWord d.dids → ReactorLaw t (AimOf t) (EndOf t) n d.took d.pushed (kept t s) × (IsFair t n d.took → ReactorMore t (kept t s) (told_by s) d)

told_of : (dids : List Did) (h : HasWord dids) → AllTold h.word dids
told_of dids h = record { found = h.found; freed = h.freed }

behind_shows : (t : Terms) → 0 < t.worker_num → IsFit t.framing → (n : ℕ) → n < t.reactor_num → (s : Table) (got : TableGot Message) (d : Diary) → Behind t s got d → law_and_more t n s d
behind_shows t some fit n lt s got d b word =
    (let told : AllTold word.word d.dids = told_of d.dids word in
    let go = called_more s b.took b.pushed d.took d.pushed got b.call in
    let w : RunWith t word.word b.took b.pushed s d.dids = b.ran.runs word.word told in (
      (always t word.word some fit n lt b.took b.pushed s w.run).behind d.took d.pushed got b.call,
      λ fair. more_shown t some fit n lt s b.took b.pushed d (record { runs = b.ran.runs; rest = go.0; goes = go.1; fair = λ f. call_fair t n s b.took b.pushed d.took d.pushed got b.call f; last = once_to t (settled t false got s) d.took d.pushed (call_counts t s b.took b.pushed d.took d.pushed got b.call (record { counts = b.ran.counts; giving = b.ran.giving; done = b.ran.done }) false) (only_call s b.took b.pushed d.took d.pushed got b.call b.ran.only); ended = behind_call s b.took b.pushed d.took d.pushed got b.call b.ran.begun b.ran.ended }) word.word told fair,
    ))

done_shows_all : (t : Terms) → 0 < t.worker_num → IsFit t.framing → (n : ℕ) → n < t.reactor_num → (s : Table) (d : Diary) → Ran t d.took d.pushed s d.dids → law_and_more t n s d
done_shows_all t some fit n lt s d r word =
    (let told : AllTold word.word d.dids = told_of d.dids word in
    let w : RunWith t word.word d.took d.pushed s d.dids = r.runs word.word told in (
      (always t word.word some fit n lt d.took d.pushed s w.run).before,
      λ fair. more_shown t some fit n lt s d.took d.pushed d (record { runs = r.runs; rest = []; goes = sym (append-nil d.took); fair = λ f. f; last = once_to t s d.took d.pushed r.counts r.only; ended = r.ended }) word.word told fair,
    ))

silent : (t : Terms) (n : ℕ) → law_and_more t n started no_diary
silent t n word = (
  record {
    to_workers = tt;
    shows = λ fair. record { routed = tt; stranger = λ s f. refl; keeps = λ s l has i. absurd (let q = has.1 in cc) };
  },
  λ fair. record {
    freed_once = tt;
    freed_fresh = tt;
    freed_kept = λ s has. absurd (let q = has.1 in cc);
    last = λ x. (omega arith);
    ended = λ k. absurd (k refl);
    ends = (omega arith);
    packets = (omega arith);
    sessions = tt;
    distinct = tt;
    fits = λ s l has i. absurd (let q = has.1 in cc);
    closed = λ s l x has i j k. absurd (let q = has.1 in cc);
    resets = λ s l x has i j k. absurd (let q = has.1 in cc);
    stops = λ l x has i j k. absurd (let q = has.1 in cc);
    shows = λ s l x has i j. absurd (let q = has.1 in cc);
    over = λ s l x has i j k. absurd (let q = has.1 in cc);
    live = λ s l x has i j. absurd (let q = has.1 in cc);
  },
)

start_shows : (t : Terms) (n : ℕ) (s : Table) (d : Diary) → (s ≡ started) × (d ≡ no_diary) → law_and_more t n s d
start_shows t n s d (e, q) = subst (law_and_more t n s) (sym q) (subst (λ (x : Table). law_and_more t n x no_diary) (sym e) (silent t n))

quiet_shows : (t : Terms) → 0 < t.worker_num → IsFit t.framing → (n : ℕ) → n < t.reactor_num → (s : Table) (got : Got) (d : Diary) → QuietBy t s got d → law_and_more t n s d
quiet_shows t some fit n lt s GotStart d q = start_shows t n s d q
quiet_shows t some fit n lt s (GotTook m) d q = behind_shows t some fit n lt s (gots.Took m) d q
quiet_shows t some fit n lt s GotEmpty d q = behind_shows t some fit n lt s gots.Empty d q
quiet_shows t some fit n lt s GotPushed d q = behind_shows t some fit n lt s gots.Pushed d q
quiet_shows t some fit n lt s (GotFull m) d q = behind_shows t some fit n lt s (gots.Full m) d q
quiet_shows t some fit n lt s GotNothing d q = behind_shows t some fit n lt s gots.Nothing d q

-- all that the world asks
all_shows : (t : Terms) (y : ActorId) (s : Table) (d : Diary) → IsReactor t y → ((n : ℕ) → n < t.reactor_num → law_and_more t n s d) → Shows t y [] (kept t s) (told_by s) d
all_shows t y s d i f =
    record {
      door = λ e. absurd (let q : Door ≡ Reactor i.0 = sym e ∙ i.1.1 in cc);
      reactor = λ n lt e word. f n lt word;
      hand = λ k. absurd (no_hand_reactor t i.0 (subst (IsHand t) i.1.1 k));
      worker = λ v lt e. absurd (let q : Worker v ≡ Reactor i.0 = sym e ∙ i.1.1 in cc);
      tasker = λ v lt e. absurd (let q : Tasker v ≡ Reactor i.0 = sym e ∙ i.1.1 in cc);
    }

pub reactor_shows : (t : Terms) → 0 < t.worker_num → IsFit t.framing → (y : ActorId) (s : Table) (got : Got) (d : Diary) → RQuiet t y s got d → Shows t y [] (kept t s) (told_by s) d
reactor_shows t some fit y s got d (i, q) = all_shows t y s d i (λ n lt. quiet_shows t some fit n lt s got d q)

pub reactor_shows_after : (t : Terms) → 0 < t.worker_num → IsFit t.framing → (y : ActorId) (s : Table) (ask : Ask) (d : Diary) → After t (RQuiet t y) (RDone t y) s ask d → Shows t y [] (kept t s) (told_by s) d
reactor_shows_after t some fit y s AskTake d h = reactor_shows t some fit y s GotEmpty d h.0
reactor_shows_after t some fit y s (AskPush to m) d h = all_shows t y s d h.1.0 (λ n lt. behind_shows t some fit n lt s (gots.Full m) d (record { took = h.1.1.took; pushed = h.1.1.pushed; ran = h.1.1.ran; call = h.1.1.call }))
reactor_shows_after t some fit y s AskNothing d h = reactor_shows t some fit y s GotNothing d h
reactor_shows_after t some fit y s AskRest d h = reactor_shows t some fit y s GotNothing d h
reactor_shows_after t some fit y s AskFinished d h = all_shows t y s d h.0 (λ n lt. done_shows_all t some fit n lt s d h.1.1)
