-- A quiet reactor shows its law at every moment: with nothing on its way, with a message taken and not settled, with an event
-- pushed and not noted, and where a push is asked for or came back.
use Rattle.std.proofs.Common.{◌≡◌, ℕ, ◌<◌, ◌==◌, Bool, true, false, if◌then◌else◌, List, [], ◌∷◌, ◌++◌, refl, ap, ◌∙◌, sym, subst, Option, Some, None, inl, inr, zero, suc, map}
use Rattle.sw_data.specs.declared.messages.Got.{Got}
use Rattle.sw_data.specs.declared.messages.Got.TheVariants.{Start, Full}
use Rattle.sw_lists.specs.Lists.{collect, Each, Has}
use Rattle.sw_lists.specs.Numbers.{Rises}
use Rattle.sw_lists.proofs.Lists.{each_append, each_left, each_more, rises_left}
use Rattle.sw_step.specs.declared.actor.ActorId.{ActorId}
use Rattle.sw_step.specs.declared.actor.ActorId.TheVariants.{Worker}
use Rattle.sw_record.specs.Words.{Event, Connect, Packet, Closed, Finish, Task}
use Rattle.sw_record.specs.declared.record.LinkRecord.{LinkRecord}
use Rattle.sw_record.specs.Terms.{Terms, session_of}
use Rattle.sw_past.specs.Messages.{Message, FreshMsg, SendMsg, CloseMsg, ResetMsg, Bye, EventMsg, OverMsg, NoMore}
use Rattle.sw_past.specs.Past.{Mail, bare}
use Rattle.sw_past.specs.Views.{story_in, fresh_in}
use Rattle.sw_past.specs.Routes.{IsRouted, IsFair, ToWorker, MayPush}
use Rattle.sw_join.specs.Laws.{IsKept, ReactorShows, ReactorLaw}
use Rattle.sw_reactor_table.specs.Conn.{Conn, noted, holds, at_event, live_link}
use Rattle.sw_reactor_table.specs.Reactor.{Reactor, Ask, Take, Push, Nothing, Rest, Finished, all, each_conn, settled, settled_push, settled_full, pushed_by, full_by, started, live_links, kept}
use Rattle.sw_reactor_table.specs.Quiet.{QuietConn, QuietOver, Quiet, QuietBy, QuietAfter, Grows, session_in, some_list, session_over, sessions}
use Rattle.sw_reactor_table.specs.Modes.{ModeLaws, back_link}
use Rattle.sw_reactor_table.specs.Runs.{Called, TookOne, FoundNone, PushedOne, CameBack, NoCall, Runs, First, Then, Straight, AsksBelow}
use Rattle.sw_reactor_table.proofs.Flow.{more_of}
use Rattle.sw_reactor_table.proofs.Members.{each_has}
use Rattle.sw_reactor_table.proofs.Kept.{live_kept, kept_took, back_kept}
use Rattle.sw_reactor_table.proofs.Lift.{Aim, Ending, map_append}
use Rattle.sw_reactor_table.proofs.Turn.{turn_quiet, started_quiet}
use Rattle.sw_reactor_table.proofs.Known.{honest_of, honest_then, runs_known}
use Rattle.sw_reactor_table.proofs.Straight.{turn_below}
use Rattle.sw_step.specs.declared.actor.ActorId.TheVariants as mail

-- what each connection shows
abbrev Shows : Terms → Aim → Ending → Mail → Mail → Conn → Type 0
Shows t a w took pushed c = IsKept t a w c.session (live_link t c) took pushed

-- its law, of the links that it shows
abbrev Told : Terms → Aim → Ending → Mail → Mail → LinkRecord → Type 0
Told t a w took pushed l = (s : ℕ) → session_of l.state ≡ Some s → IsKept t a w s l took pushed

some_same : (x y : ℕ) → Some x ≡ Some y → x ≡ y
some_same x y e = cc

live_told : (t : Terms) (a : Aim) (w : Ending) (took pushed : Mail) (cs : List Conn) → Each (Shows t a w took pushed) cs → Each (Told t a w took pushed) (live_links t cs)
live_told t a w took pushed [] h = tt
live_told t a w took pushed (c ∷ cs) h = ((λ s e. subst (λ (z : ℕ). IsKept t a w z (live_link t c) took pushed) (some_same c.session s e) h.0), live_told t a w took pushed cs h.1)

over_told : (t : Terms) (a : Aim) (w : Ending) (took pushed : Mail) (ls : List LinkRecord) → Each (QuietOver t a w took pushed) ls → Each (Told t a w took pushed) ls
over_told t a w took pushed [] h = tt
over_told t a w took pushed (l ∷ ls) h = ((λ s e. subst (λ (z : ℕ). IsKept t a w z l took pushed) (some_same h.0.number s (sym h.0.session ∙ e)) h.0.kept), over_told t a w took pushed ls h.1)

-- without a link of a session no session is this
over_none : (s : ℕ) (ls : List LinkRecord) → ((l : LinkRecord) → Has l ls → session_of l.state ≡ Some s → ⊥) → Each (λ u. ¬ (u ≡ s)) (collect session_over ls)
over_none s [] h = tt
over_none s (l ∷ ls) h = each_append (λ u. ¬ (u ≡ s)) (session_over l) (collect session_over ls) (pick (session_of l.state) refl) (over_none s ls (λ k has. h k (suc has.0, has.1)))
  where
    pick : (o : Option ℕ) → session_of l.state ≡ o → Each (λ u. ¬ (u ≡ s)) (some_list o)
    pick None e = tt
    pick (Some u) e = ((λ q. h l (0, refl) (e ∙ ap Some q)), tt)

links_none : (t : Terms) (s : ℕ) (cs : List Conn) (ls : List LinkRecord) → ((l : LinkRecord) → Has l (live_links t cs ++ ls) → session_of l.state ≡ Some s → ⊥) → Each (λ u. ¬ (u ≡ s)) (sessions cs ls)
links_none t s [] ls h = over_none s ls h
links_none t s (c ∷ cs) ls h = ((λ e. h (live_link t c) (0, refl) (ap Some e)), links_none t s cs ls (λ l has. h l (suc has.0, has.1)))

shows_law : (t : Terms) (a : Aim) (w : Ending) (n : ℕ) (took pushed : Mail) (cs : List Conn) (ls : List LinkRecord) → Each (Shows t a w took pushed) cs → Each (QuietOver t a w took pushed) ls → ((s : ℕ) → Each (λ u. ¬ (u ≡ s)) (sessions cs ls) → collect (story_in s) (bare pushed) ≡ []) → IsRouted t (mail.Reactor n) pushed → ReactorShows t a w n took pushed (live_links t cs ++ ls)
shows_law t a w n took pushed cs ls h o stranger routed =
    record {
      routed = routed;
      stranger = λ s none. stranger s (links_none t s cs ls none);
      keeps = λ s l has e. each_has (Told t a w took pushed) (live_links t cs ++ ls) (each_append (Told t a w took pushed) (live_links t cs) ls (live_told t a w took pushed cs h) (over_told t a w took pushed ls o)) l has s e;
    }

-- with nothing on its way
pub quiet_shows : (t : Terms) (a : Aim) (w : Ending) → ModeLaws t a w → (n : ℕ) (took pushed : Mail) (r : Reactor) → Quiet t a w n took pushed r → ReactorShows t a w n took pushed (kept t r)
quiet_shows t a w m n took pushed r q = shows_law t a w n took pushed (all r) r.over (each_more (QuietConn t n took pushed) (Shows t a w took pushed) (all r) (λ c g. live_kept t a w m n took pushed c g c.dispatched) q.conns) q.over q.stranger q.routed

-- a message was taken and isn't settled
pub took_shows : (t : Terms) (a : Aim) (w : Ending) (n : ℕ) (took pushed : Mail) (ls : List LinkRecord) (x : ActorId × Message) → ReactorShows t a w n took pushed ls → ReactorShows t a w n (took ++ x ∷ []) pushed ls
took_shows t a w n took pushed ls x r = record { routed = r.routed; stranger = r.stranger; keeps = λ s l has e. kept_took t a w s l took pushed x (r.keeps s l has e) }

-- an event was pushed, or came back, and isn't settled: the links show the same but for the count
map_back : (P Q : Conn → Type 0) (f : Conn → Conn) → ((c : Conn) → P (f c) → Q c) → (cs : List Conn) → Each P (map f cs) → Each Q cs
map_back P Q f h [] g = tt
map_back P Q f h (c ∷ cs) g = (h c g.0, map_back P Q f h cs g.1)

pub map_same : (f : Conn → Conn) → ((c : Conn) → (f c).session ≡ c.session) → (cs : List Conn) → collect session_in (map f cs) ≡ collect session_in cs
map_same f h [] = refl
map_same f h (c ∷ cs) = ap (λ (s : ℕ). s ∷ collect session_in (map f cs)) (h c) ∙ ap (λ zs. c.session ∷ zs) (map_same f h cs)

unsettled_shows : (t : Terms) (a : Aim) (w : Ending) (n : ℕ) (took pushed : Mail) (f : Conn → Conn) (r : Reactor) → ((c : Conn) → (f c).session ≡ c.session) → ((c : Conn) → QuietConn t n took pushed (f c) → Shows t a w took pushed c) → Quiet t a w n took pushed (each_conn f r) → ReactorShows t a w n took pushed (kept t r)
unsettled_shows t a w n took pushed f r same h q =
    let e : sessions (all r) r.over ≡ sessions (all (each_conn f r)) r.over = ap (λ (zs : List ℕ). zs ++ collect session_over r.over) (sym (ap (collect session_in) (sym (map_append f r.done r.next)) ∙ map_same f same (all r))) in
    shows_law t a w n took pushed (all r) r.over
    (map_back (QuietConn t n took pushed) (Shows t a w took pushed) f h (all r) (subst (Each (QuietConn t n took pushed)) (sym (map_append f r.done r.next)) q.conns))
    q.over (λ s g. q.stranger s (subst (Each (λ u. ¬ (u ≡ s))) e g)) q.routed

noted_shows : (t : Terms) (a : Aim) (w : Ending) → ModeLaws t a w → (n : ℕ) (took pushed : Mail) (e : Event) (c : Conn) → QuietConn t n took pushed (noted t e c) → Shows t a w took pushed c
noted_shows t a w m n took pushed (Connect s) c q = live_kept t a w m n took pushed (noted t (Connect s) c) q c.dispatched
noted_shows t a w m n took pushed (Packet s i b) c q = live_kept t a w m n took pushed (noted t (Packet s i b) c) q c.dispatched
noted_shows t a w m n took pushed (Closed s) c q = live_kept t a w m n took pushed (noted t (Closed s) c) q c.dispatched
noted_shows t a w m n took pushed (Finish id b) c q = live_kept t a w m n took pushed c q c.dispatched
noted_shows t a w m n took pushed (Task v id b) c q = live_kept t a w m n took pushed c q c.dispatched

at_shows : (t : Terms) (a : Aim) (w : Ending) → ModeLaws t a w → (n : ℕ) (took pushed : Mail) (f : Conn → Conn) (e : Event) → ((c : Conn) → QuietConn t n took pushed (f c) → Shows t a w took pushed c) → (c : Conn) → QuietConn t n took pushed (at_event f e c) → Shows t a w took pushed c
at_shows t a w m n took pushed f e h c q = by e q
  where
    pick : (b : Bool) → QuietConn t n took pushed (if b then f c else c) → Shows t a w took pushed c
    pick true g = h c g
    pick false g = live_kept t a w m n took pushed c g c.dispatched

    by : (x : Event) → QuietConn t n took pushed (at_event f x c) → Shows t a w took pushed c
    by (Connect s) g = pick (c.session == s) g
    by (Packet s i b) g = pick (c.session == s) g
    by (Closed s) g = pick (c.session == s) g
    by (Finish id b) g = pick false g
    by (Task v id b) g = pick false g

pub at_session : (f : Conn → Conn) (e : Event) → ((c : Conn) → (f c).session ≡ c.session) → (c : Conn) → (at_event f e c).session ≡ c.session
at_session f e h c = by e
  where
    pick : (b : Bool) → ◌≡◌ {A = ℕ} (if b then f c else c).session c.session
    pick true = h c
    pick false = refl

    by : (x : Event) → (at_event f x c).session ≡ c.session
    by (Connect s) = pick (c.session == s)
    by (Packet s i b) = pick (c.session == s)
    by (Closed s) = pick (c.session == s)
    by (Finish id b) = refl
    by (Task v id b) = refl

noted_session : (t : Terms) (e : Event) (c : Conn) → (noted t e c).session ≡ c.session
noted_session t (Connect s) c = refl
noted_session t (Packet s i b) c = refl
noted_session t (Closed s) c = refl
noted_session t (Finish id b) c = refl
noted_session t (Task v id b) c = refl

-- pushed and not noted
pub pushed_shows : (t : Terms) (a : Aim) (w : Ending) → ModeLaws t a w → (n : ℕ) (took pushed : Mail) (m : Message) (r : Reactor) → Quiet t a w n took pushed (settled_push t m r) → ReactorShows t a w n took pushed (kept t r)
pushed_shows t a w m n took pushed (FreshMsg ip s) r q = quiet_shows t a w m n took pushed r q
pushed_shows t a w m n took pushed (SendMsg s b) r q = quiet_shows t a w m n took pushed r q
pushed_shows t a w m n took pushed (CloseMsg s) r q = quiet_shows t a w m n took pushed r q
pushed_shows t a w m n took pushed (ResetMsg s) r q = quiet_shows t a w m n took pushed r q
pushed_shows t a w m n took pushed (Bye s) r q = quiet_shows t a w m n took pushed r q
pushed_shows t a w m n took pushed (EventMsg e) r q = unsettled_shows t a w n took pushed (at_event (noted t e) e) r (at_session (noted t e) e (noted_session t e)) (at_shows t a w m n took pushed (noted t e) e (noted_shows t a w m n took pushed e)) q
pushed_shows t a w m n took pushed (OverMsg id) r q = quiet_shows t a w m n took pushed r q
pushed_shows t a w m n took pushed NoMore r q = quiet_shows t a w m n took pushed r q

-- came back, or isn't called yet
pub full_shows : (t : Terms) (a : Aim) (w : Ending) → ModeLaws t a w → (n : ℕ) (took pushed : Mail) (v : ℕ) (m : Message) (r : Reactor) → Quiet t a w n took pushed (settled_full v m r) → ReactorShows t a w n took pushed (kept t r)
full_shows t a w m n took pushed v (FreshMsg ip s) r q = quiet_shows t a w m n took pushed r q
full_shows t a w m n took pushed v (SendMsg s b) r q = quiet_shows t a w m n took pushed r q
full_shows t a w m n took pushed v (CloseMsg s) r q = quiet_shows t a w m n took pushed r q
full_shows t a w m n took pushed v (ResetMsg s) r q = quiet_shows t a w m n took pushed r q
full_shows t a w m n took pushed v (Bye s) r q = quiet_shows t a w m n took pushed r q
full_shows t a w m n took pushed v (EventMsg e) r q = unsettled_shows t a w n took pushed (at_event (holds v e) e) r (at_session (holds v e) e (λ c. refl)) (at_shows t a w m n took pushed (holds v e) e (λ c g. live_kept t a w m n took pushed (holds v e c) g c.dispatched)) q
full_shows t a w m n took pushed v (OverMsg id) r q = quiet_shows t a w m n took pushed r q
full_shows t a w m n took pushed v NoMore r q = quiet_shows t a w m n took pushed r q

-- where a turn asked for something
by_shows : (t : Terms) (a : Aim) (w : Ending) → ModeLaws t a w → (n : ℕ) (took pushed : Mail) (r : Reactor) (ask : Ask) → r.last ≡ ask → QuietBy t a w n took pushed r ask → ReactorShows t a w n took pushed (kept t r)
by_shows t a w m n took pushed r Take e q = quiet_shows t a w m n took pushed r q.0
by_shows t a w m n took pushed r (Push v x) e q = full_shows t a w m n took pushed v x r (full_of e q.1)
  where
    full_of : r.last ≡ Push v x → Quiet t a w n took pushed (settled t false (Full x) r) → Quiet t a w n took pushed (settled_full v x r)
    full_of p g = subst (λ (k : Ask). Quiet t a w n took pushed (full_by k x r)) p g
by_shows t a w m n took pushed r Nothing e q = quiet_shows t a w m n took pushed r q
by_shows t a w m n took pushed r Rest e q = quiet_shows t a w m n took pushed r q
by_shows t a w m n took pushed r Finished e q = quiet_shows t a w m n took pushed r q

pub after_shows : (t : Terms) (a : Aim) (w : Ending) → ModeLaws t a w → (n : ℕ) (took pushed : Mail) (r : Reactor) → QuietAfter t a w n took pushed r → ReactorShows t a w n took pushed (kept t r)
after_shows t a w m n took pushed r q = by_shows t a w m n took pushed r r.last refl q

-- and behind its pipe call
fair_before : (t : Terms) (n : ℕ) (took : Mail) (x : ActorId × Message) → IsFair t n (took ++ x ∷ []) → IsFair t n took
fair_before t n took x f = record { routed = each_left (λ (e : ActorId × Message). MayPush t e.0 (mail.Reactor n) e.1) took (x ∷ []) f.routed; once = rises_left (collect fresh_in (bare took)) (fresh_in x.1) (subst Rises (more_of fresh_in took x) f.once) }

pub call_fair : (t : Terms) (n : ℕ) (r : Reactor) (took pushed later more : Mail) (got : Got Message) → Called r took pushed later more got → IsFair t n later → IsFair t n took
call_fair t n r took pushed _ _ _ (TookOne e from m) f = fair_before t n took (from, m) f
call_fair t n r took pushed _ _ _ (FoundNone e) f = f
call_fair t n r took pushed _ _ _ (PushedOne v m e) f = f
call_fair t n r took pushed _ _ _ (CameBack v m e) f = f
call_fair t n r took pushed _ _ _ (NoCall e) f = f

pub call_quiet : (t : Terms) (a : Aim) (w : Ending) (n : ℕ) (r : Reactor) (took pushed later more : Mail) (got : Got Message) → Called r took pushed later more got → IsFair t n later → QuietAfter t a w n took pushed r → (starved : Bool) → Quiet t a w n later more (settled t starved got r)
call_quiet t a w n r took pushed _ _ _ (TookOne e from m) f q starved = (subst (QuietBy t a w n took pushed r) e q).1 starved from m f
call_quiet t a w n r took pushed _ _ _ (FoundNone e) f q starved = (subst (QuietBy t a w n took pushed r) e q).0
call_quiet t a w n r took pushed _ _ _ (PushedOne v m e) f q starved = (subst (QuietBy t a w n took pushed r) e q).0
call_quiet t a w n r took pushed _ _ _ (CameBack v m e) f q starved = (subst (QuietBy t a w n took pushed r) e q).1
call_quiet t a w n r took pushed _ _ _ (NoCall (inl e)) f q starved = subst (QuietBy t a w n took pushed r) e q
call_quiet t a w n r took pushed _ _ _ (NoCall (inr e)) f q starved = subst (QuietBy t a w n took pushed r) e q

pub call_shows : (t : Terms) (a : Aim) (w : Ending) → ModeLaws t a w → (n : ℕ) (r : Reactor) (took pushed later more : Mail) (got : Got Message) → Called r took pushed later more got → QuietAfter t a w n took pushed r → ReactorShows t a w n later more (kept t r)
call_shows t a w m n r took pushed _ _ _ (TookOne e from x) q = took_shows t a w n took pushed (kept t r) (from, x) (after_shows t a w m n took pushed r q)
call_shows t a w m n r took pushed _ _ _ (FoundNone e) q = after_shows t a w m n took pushed r q
call_shows t a w m n r took pushed _ _ _ (PushedOne v x e) q = pushed_shows t a w m n took (pushed ++ (Worker v, x) ∷ []) x r (subst (λ (k : Ask). Quiet t a w n took (pushed ++ (Worker v, x) ∷ []) (pushed_by t k r)) e (subst (QuietBy t a w n took pushed r) e q).0)
call_shows t a w m n r took pushed _ _ _ (CameBack v x e) q = after_shows t a w m n took pushed r q
call_shows t a w m n r took pushed _ _ _ (NoCall e) q = after_shows t a w m n took pushed r q

-- all runs
pub runs_quiet : (t : Terms) (a : Aim) (w : Ending) → ModeLaws t a w → (word : ℕ → ℕ) → 0 < t.worker_num → Grows t → (n : ℕ) → n < t.reactor_num → (took pushed : Mail) (r : Reactor) → Runs t word took pushed r → IsFair t n took → QuietAfter t a w n took pushed r
runs_quiet t a w m word some grows n small _ _ _ (First starved ans faith) f = turn_quiet t a w m starved ans Start some grows n small [] [] started (honest_of word t ans started faith tt) (started_quiet t a w n)
runs_quiet t a w m word some grows n small _ _ _ (Then {took = took} {pushed = pushed} {r = r} before later more got call starved ans faith) f =
    turn_quiet t a w m starved ans got some grows n small later more r (honest_then word t ans starved got r faith (runs_known word t took pushed r before))
    (call_quiet t a w n r took pushed later more got call f (runs_quiet t a w m word some grows n small took pushed r before (call_fair t n r took pushed later more got call f)) starved)

call_below : (t : Terms) (r : Reactor) (took pushed later more : Mail) (got : Got Message) → Called r took pushed later more got → Straight t pushed r → Each (ToWorker t) more
call_below t r took pushed _ _ _ (TookOne e from m) s = s.pushed_is
call_below t r took pushed _ _ _ (FoundNone e) s = s.pushed_is
call_below t r took pushed _ _ _ (PushedOne v m e) s = each_append (ToWorker t) pushed ((Worker v, m) ∷ []) s.pushed_is (subst (AsksBelow t) e s.asks, tt)
call_below t r took pushed _ _ _ (CameBack v m e) s = s.pushed_is
call_below t r took pushed _ _ _ (NoCall e) s = s.pushed_is

pub runs_straight : (t : Terms) (word : ℕ → ℕ) → 0 < t.worker_num → (took pushed : Mail) (r : Reactor) → Runs t word took pushed r → Straight t pushed r
runs_straight t word some _ _ _ (First starved ans honest) = turn_below t starved ans Start [] started some honest.idle tt tt tt
runs_straight t word some _ _ _ (Then {took = took} {pushed = pushed} {r = r} before later more got call starved ans honest) =
    let s : Straight t pushed r = runs_straight t word some took pushed r before in
    turn_below t starved ans got more r some honest.idle (call_below t r took pushed later more got call s) s.held s.asks

-- THE LAW, before a pipe call and behind it
pub reactor_law : (t : Terms) (a : Aim) (w : Ending) → ModeLaws t a w → (word : ℕ → ℕ) → 0 < t.worker_num → Grows t → (n : ℕ) → n < t.reactor_num → (took pushed : Mail) (r : Reactor) → Runs t word took pushed r → ReactorLaw t a w n took pushed (kept t r)
reactor_law t a w m word some grows n small took pushed r runs =
    record {
      to_workers = (runs_straight t word some took pushed r runs).pushed_is;
      shows = λ f. after_shows t a w m n took pushed r (runs_quiet t a w m word some grows n small took pushed r runs f);
    }

pub called_law : (t : Terms) (a : Aim) (w : Ending) → ModeLaws t a w → (word : ℕ → ℕ) → 0 < t.worker_num → Grows t → (n : ℕ) → n < t.reactor_num → (took pushed : Mail) (r : Reactor) → Runs t word took pushed r → (later more : Mail) (got : Got Message) → Called r took pushed later more got → ReactorLaw t a w n later more (kept t r)
called_law t a w m word some grows n small took pushed r runs later more got call =
    record {
      to_workers = call_below t r took pushed later more got call (runs_straight t word some took pushed r runs);
      shows = λ f. call_shows t a w m n r took pushed later more got call (runs_quiet t a w m word some grows n small took pushed r runs (call_fair t n r took pushed later more got call f));
    }

-- and where the settling alone was done
pub settled_law : (t : Terms) (a : Aim) (w : Ending) → ModeLaws t a w → (word : ℕ → ℕ) → 0 < t.worker_num → Grows t → (n : ℕ) → n < t.reactor_num → (took pushed : Mail) (r : Reactor) → Runs t word took pushed r → (later more : Mail) (got : Got Message) → Called r took pushed later more got → (starved : Bool) → ReactorLaw t a w n later more (kept t (settled t starved got r))
settled_law t a w m word some grows n small took pushed r runs later more got call starved =
    record {
      to_workers = call_below t r took pushed later more got call (runs_straight t word some took pushed r runs);
      shows = λ f. quiet_shows t a w m n later more (settled t starved got r) (call_quiet t a w n r took pushed later more got call f (runs_quiet t a w m word some grows n small took pushed r runs (call_fair t n r took pushed later more got call f)) starved);
    }

-- a run that could not start: what the reactor settled comes back, each link of the list with the cause Stop
abbrev pub back_links : Terms → List Conn → List LinkRecord
back_links t cs = map (λ c. back_link t c.ip c.session c.uid c.split c.pieces c.written c.dispatched) cs

back_told : (t : Terms) (a : Aim) (w : Ending) (took pushed : Mail) (cs : List Conn) → Each (λ c. IsKept t a w c.session (back_link t c.ip c.session c.uid c.split c.pieces c.written c.dispatched) took pushed) cs → Each (Told t a w took pushed) (back_links t cs)
back_told t a w took pushed [] h = tt
back_told t a w took pushed (c ∷ cs) h = ((λ s e. subst (λ (z : ℕ). IsKept t a w z (back_link t c.ip c.session c.uid c.split c.pieces c.written c.dispatched) took pushed) (some_same c.session s e) h.0), back_told t a w took pushed cs h.1)

back_none : (t : Terms) (s : ℕ) (cs : List Conn) (ls : List LinkRecord) → ((l : LinkRecord) → Has l (back_links t cs ++ ls) → session_of l.state ≡ Some s → ⊥) → Each (λ u. ¬ (u ≡ s)) (sessions cs ls)
back_none t s [] ls h = over_none s ls h
back_none t s (c ∷ cs) ls h = ((λ e. h (back_link t c.ip c.session c.uid c.split c.pieces c.written c.dispatched) (0, refl) (ap Some e)), back_none t s cs ls (λ l has. h l (suc has.0, has.1)))

pub back_shows : (t : Terms) (a : Aim) (w : Ending) → ModeLaws t a w → t.start_fault ≡ true → (n : ℕ) (took pushed : Mail) (r : Reactor) → Quiet t a w n took pushed r → ReactorShows t a w n took pushed (back_links t (all r) ++ r.over)
back_shows t a w m start n took pushed r q =
    record {
      routed = q.routed;
      stranger = λ s none. q.stranger s (back_none t s (all r) r.over none);
      keeps = λ s l has e. each_has (Told t a w took pushed) (back_links t (all r) ++ r.over) (each_append (Told t a w took pushed) (back_links t (all r)) r.over (back_told t a w took pushed (all r) (each_more (QuietConn t n took pushed) (λ c. IsKept t a w c.session (back_link t c.ip c.session c.uid c.split c.pieces c.written c.dispatched) took pushed) (all r) (λ c g. back_kept t a w m start n took pushed c g) q.conns)) (over_told t a w took pushed r.over q.over)) l has s e;
    }
