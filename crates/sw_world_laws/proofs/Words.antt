-- What a reactor's calls of one turn find of the session words, and what they are released with, agrees with the uids so far.
use Rattle.std.proofs.Common.{◌≡◌, ◌⊎◌, ℕ, ◌<◌, ◌≤◌, ◌%◌, ◌^◌, ◌==◌, Bool, true, false, if◌then◌else◌, List, [], ◌∷◌, ◌++◌, ap, ◌∙◌, sym, subst, arith, inr}
use Rattle.sw_lists.specs.Lists.{collect, Each, Has}
use Rattle.sw_lists.proofs.Lists.{each_append, each_at, each_more, collect-append}
use Rattle.sw_step.specs.declared.actor.ActorId.TheVariants.{Door, Reactor}
use Rattle.sw_record.specs.Terms.{Terms}
use Rattle.sw_record.specs.Places.{Ran}
use Rattle.sw_world_ports.specs.Calls.{Did, Accepts, NoLink, NetOver, Looks, Lives, Other, Binds, Frees, Marks, Idles, Stops, SeesStop, Adds, Sums, Tables, TableRefuses, MayDo}
use Rattle.sw_past.specs.Past.{bare}
use Rattle.sw_past.specs.Views.{fresh_in}
use Rattle.sw_join.specs.Modes.{AimOf, EndOf}
use Rattle.sw_join.proofs.Told.{drawn_fresh}
use Rattle.sw_world_ports.specs.Made.{accept_in, pass_in, found_in, free_in}
use Rattle.sw_world_ports.specs.Ports.{Ports, AllAnswer, ported}
use Rattle.sw_world_ports.specs.Law.{all_in, drawn_by}
use Rattle.sw_world_ports.proofs.Haves.{each_has}
use Rattle.sw_world_ports.proofs.Claims.{claims_last}
use Rattle.sw_world_ports.proofs.Uids.{uid_is}
use Rattle.sw_world_laws.specs.Shows.{HasWord}
use Rattle.sw_world_laws.specs.Actors.{Actors}
use Rattle.sw_world_laws.specs.World.{Core}
use Rattle.sw_world_laws.specs.History.{History, past_of}
use Rattle.sw_world_laws.specs.Law.{Holds}
use Rattle.sw_world_laws.proofs.Locals.{no_hand_reactor, locals, joint, uid_of, found_agree, freed_agree}

-- a session that stands in its word stands there with its uid
abbrev pub Agrees : Terms → (ℕ → ℕ × ℕ) → (ℕ → ℕ) → Type 0
Agrees t words word = (s : ℕ) → ¬ (s ≡ 0) → (words (s % t.max_conn)).0 ≡ s → (words (s % t.max_conn)).1 ≡ word s

abbrev pub AllFound : (ℕ → ℕ) → List Did → Type 0
AllFound word ds = Each (λ (p : ℕ × ℕ). (p.1 ≡ 0) ⊎ (p.1 ≡ word p.0)) (collect found_in ds)

abbrev pub AllFreed : (ℕ → ℕ) → List Did → Type 0
AllFreed word ds = Each (λ (p : ℕ × ℕ). p.1 ≡ word p.0) (collect free_in ds)

uid_there : (t : Terms) (words : ℕ → ℕ × ℕ) (word : ℕ → ℕ) → Agrees t words word → (s u : ℕ) → ¬ (s ≡ 0) → words (s % t.max_conn) ≡ (s, u) → u ≡ word s
uid_there t words word h s u ns e = sym (ap (λ (x : ℕ × ℕ). x.1) e) ∙ h s ns (ap (λ (x : ℕ × ℕ). x.0) e)

-- a word that is emptied
agrees_then : (t : Terms) (words : ℕ → ℕ × ℕ) (word : ℕ → ℕ) (s : ℕ) → Agrees t words word → Agrees t (λ j. if j == s % t.max_conn then (0, 0) else words j) word
agrees_then t words word s h r nr e = pick (r % t.max_conn == s % t.max_conn) e
  where
    pick : (b : Bool) → ◌≡◌ {A = ℕ} (if b then (0, 0) else words (r % t.max_conn)).0 r → ◌≡◌ {A = ℕ} (if b then (0, 0) else words (r % t.max_conn)).1 (word r)
    pick true q = absurd (nr (sym q))
    pick false q = h r nr q

calls_agree : (t : Terms) (legal : List Ran → Type 0) (n : ℕ) (word : ℕ → ℕ) (p : Ports) (ds : List Did) → Each (MayDo t (Reactor n)) ds → AllAnswer t legal p (Reactor n) ds → Agrees t p.words word → AllFound word ds × AllFreed word ds
calls_agree t legal n word p [] may ans h = (tt, tt)
calls_agree t legal n word p (Looks s (Lives u) ∷ ds) may ans h = let r = calls_agree t legal n word p ds may.1 ans.1 h in ((inr (uid_there t p.words word h s u ans.0.0 ans.0.1), r.0), r.1)
calls_agree t legal n word p (Looks s (Other k) ∷ ds) may ans h = calls_agree t legal n word p ds may.1 ans.1 h
calls_agree t legal n word p (Frees s u ∷ ds) may ans h =
    let r = calls_agree t legal n word (ported t p (Reactor n) (Frees s u)) ds may.1 ans.1 (agrees_then t p.words word s h) in
    (r.0, (uid_there t p.words word h s u ans.0.0 ans.0.1, r.1))
calls_agree t legal n word p (Accepts ip c ∷ ds) may ans h = absurd (let q : Reactor n ≡ Door = may.0 in cc)
calls_agree t legal n word p (Binds s u x ∷ ds) may ans h = absurd (no_hand_reactor t n may.0)
calls_agree t legal n word p (NoLink ∷ ds) may ans h = calls_agree t legal n word p ds may.1 ans.1 h
calls_agree t legal n word p (NetOver ∷ ds) may ans h = calls_agree t legal n word p ds may.1 ans.1 h
calls_agree t legal n word p (Marks b ∷ ds) may ans h = calls_agree t legal n word (ported t p (Reactor n) (Marks b)) ds may.1 ans.1 h
calls_agree t legal n word p (Idles c k x ∷ ds) may ans h = calls_agree t legal n word p ds may.1 ans.1 h
calls_agree t legal n word p (Stops ∷ ds) may ans h = calls_agree t legal n word (ported t p (Reactor n) Stops) ds may.1 ans.1 h
calls_agree t legal n word p (SeesStop b ∷ ds) may ans h = calls_agree t legal n word p ds may.1 ans.1 h
calls_agree t legal n word p (Adds c ∷ ds) may ans h = calls_agree t legal n word (ported t p (Reactor n) (Adds c)) ds may.1 ans.1 h
calls_agree t legal n word p (Sums c k ∷ ds) may ans h = calls_agree t legal n word p ds may.1 ans.1 h
calls_agree t legal n word p (Tables at x ∷ ds) may ans h = calls_agree t legal n word (ported t p (Reactor n) (Tables at x)) ds may.1 ans.1 h
calls_agree t legal n word p (TableRefuses k fault ∷ ds) may ans h = calls_agree t legal n word p ds may.1 ans.1 h

-- behind a turn
pub words_then : (t : Terms) (legal : List Ran → Type 0) (p : Actors t) (c : Core p.State) (h : History) → Holds t legal p c h → (n : ℕ) → n < t.reactor_num → (ds : List Did) → Each (MayDo t (Reactor n)) ds → AllAnswer t legal c.ports (Reactor n) ds → HasWord (h.dids (Reactor n) ++ ds)
words_then t legal p c h l n lt ds may ans =
    let new = calls_agree t legal n (uid_of t h) c.ports ds may ans (λ s ns e. uid_is t (all_in pass_in h.dids) s (c.ports.words (s % t.max_conn)).1 (l.ports.words.book.held s ns e).1.1) in
    record {
      word = uid_of t h;
      found = subst (Each (λ (q : ℕ × ℕ). (q.1 ≡ 0) ⊎ (q.1 ≡ uid_of t h q.0))) (sym (collect-append found_in (h.dids (Reactor n)) ds)) (each_append (λ (q : ℕ × ℕ). (q.1 ≡ 0) ⊎ (q.1 ≡ uid_of t h q.0)) (collect found_in (h.dids (Reactor n))) (collect found_in ds) (found_agree t legal p c h l n) new.0);
      freed = subst (Each (λ (q : ℕ × ℕ). q.1 ≡ uid_of t h q.0)) (sym (collect-append free_in (h.dids (Reactor n)) ds)) (each_append (λ (q : ℕ × ℕ). q.1 ≡ uid_of t h q.0) (collect free_in (h.dids (Reactor n))) (collect free_in ds) (freed_agree t legal p c h l n lt) new.1);
    }

-- the sessions that came to a reactor are numbers of 32 bits, and each that it didn't release stands in its word
pub took_low : (t : Terms) (legal : List Ran → Type 0) (p : Actors t) (c : Core p.State) (h : History) → Holds t legal p c h → (n : ℕ) → Each (λ s. (¬ (s ≡ 0)) × (s < 2 ^ 32)) (collect fresh_in (bare (h.took (Reactor n))))
took_low t legal p c h l n = each_more (λ s. Has s (drawn_by h.dids)) (λ s. (¬ (s ≡ 0)) × (s < 2 ^ 32)) (collect fresh_in (bare (h.took (Reactor n)))) (λ s has. low s (each_has (λ r. (¬ (r ≡ 0)) × (r ≤ c.ports.last)) (drawn_by h.dids) s l.ports.words.book.low has)) drawn
  where
    drawn : Each (λ s. Has s (drawn_by h.dids)) (collect fresh_in (bare (h.took (Reactor n))))
    drawn = drawn_fresh t (AimOf t) (EndOf t) (past_of t p c h) (locals t legal p c h l) (joint t legal p c h l) n (λ s. Has s (drawn_by h.dids)) (each_at (λ s. Has s (drawn_by h.dids)) (drawn_by h.dids) (λ s k. k))

    below : c.ports.last < 2 ^ 32
    below = subst (λ (k : ℕ). k < 2 ^ 32) (sym l.ports.words.book.last_is) (claims_last t.max_conn t.session_last [] (collect accept_in (h.dids Door)) l.ports.words.book.claims)

    low : (s : ℕ) → (¬ (s ≡ 0)) × (s ≤ c.ports.last) → (¬ (s ≡ 0)) × (s < 2 ^ 32)
    low s k = (k.0, (let a : s ≤ c.ports.last = k.1 in let b : c.ports.last < 2 ^ 32 = below in omega arith))
