-- A reactor's links, with those on their way to it, are the record's with this reactor.
use Rattle.std.proofs.Common.{◌≡◌, ℕ, ◌<◌, ◌≤◌, ◌==◌, Bool, true, false, if◌then◌else◌, List, [], ◌∷◌, ◌++◌, refl, ap, ◌∙◌, sym, subst, append-nil, append_assoc, Option, Some, None, zero, suc}
use Rattle.sw_lists.specs.Lists.{collect, when, Each, Has}
use Rattle.sw_lists.specs.Numbers.{Distinct}
use Rattle.sw_lists.specs.Perm.{Perm, Nil, Skip, Swap, Then}
use Rattle.sw_lists.proofs.Lists.{eq_is, eq_same, eq_other, collect-append, collect-collect, collect-same, collect-none, perm_refl, perm_sym, rises_distinct, each_all, each_at, each_right, each_collect}
use Rattle.sw_step.specs.declared.actor.ActorId.TheVariants.{Door, Reactor}
use Rattle.sw_record.specs.declared.record.LinkState.TheVariants.{Live, Over}
use Rattle.sw_record.specs.declared.record.LinkRecord.{LinkRecord}
use Rattle.sw_record.specs.Terms.{Terms, reactor_of, session_of}
use Rattle.sw_record.specs.Words.{Ended}
use Rattle.sw_record.specs.Sessions.{some_of, sess}
use Rattle.sw_record.specs.Rounds.{at_reactor, link_of}
use Rattle.sw_past.specs.Messages.{FreshMsg}
use Rattle.sw_past.specs.Claims.{Claim, Drew, Full, Spent, drew_in}
use Rattle.sw_past.specs.Past.{Mail, Past, bare, msg_of}
use Rattle.sw_past.specs.Views.{fresh_in}
use Rattle.sw_join.proofs.Claims.{claims_rise}
use Rattle.sw_join.proofs.Told.{shows}
use Rattle.sw_record.specs.Places.{Ran}
use Rattle.sw_join.specs.Modes.{AimOf, EndOf}
use Rattle.sw_world_ports.specs.Made.{accept_in}
use Rattle.sw_world_ports.proofs.Haves.{has_right, each_has}
use Rattle.sw_world_laws.specs.Actors.{Actors}
use Rattle.sw_world_laws.specs.Shows.{ReactorMore}
use Rattle.sw_world_laws.specs.World.{Core}
use Rattle.sw_world_laws.specs.History.{History, past_of, diary_of}
use Rattle.sw_world_laws.specs.Law.{Holds}
use Rattle.sw_world_laws.specs.Account.{is_session, link_in, untouched, coming, link_or, link_by, links_by, waits}
use Rattle.sw_world_laws.proofs.Locals.{locals, joint}
use Rattle.sw_world_laws.proofs.Turns.{more_of, fair_took, fresh_routed}
use Rattle.sw_world_laws.proofs.Account.{Found, There, Nowhere, found, Shape, Kept, Coming, shape, account_by, kept_pair, has_session}

-- orders
perm_front : (xs : List LinkRecord) {a b : List LinkRecord} → Perm LinkRecord a b → Perm LinkRecord (xs ++ a) (xs ++ b)
perm_front [] p = p
perm_front (x ∷ xs) p = Skip x (perm_front xs p)

perm_behind : {a b : List LinkRecord} (ys : List LinkRecord) → Perm LinkRecord a b → Perm LinkRecord (a ++ ys) (b ++ ys)
perm_behind ys Nil = perm_refl ys
perm_behind ys (Skip x p) = Skip x (perm_behind ys p)
perm_behind ys (Swap x y xs) = Swap x y (xs ++ ys)
perm_behind ys (Then p q) = Then (perm_behind ys p) (perm_behind ys q)

perm_past : (l : LinkRecord) (xs rest : List LinkRecord) → Perm LinkRecord (l ∷ (xs ++ rest)) (xs ++ l ∷ rest)
perm_past l [] rest = perm_refl (l ∷ rest)
perm_past l (x ∷ xs) rest = Then (Swap l x (xs ++ rest)) (Skip x (perm_past l xs rest))

perm_is : {a b : List LinkRecord} → a ≡ b → Perm LinkRecord a b
perm_is {a} {b} e = subst (Perm LinkRecord a) e (perm_refl a)

-- two lists together, or item by item
perm_both : {A : Type 0} (f g : A → List LinkRecord) (xs : List A) → Perm LinkRecord (collect f xs ++ collect g xs) (collect (λ x. f x ++ g x) xs)
perm_both f g [] = Nil
perm_both f g (x ∷ xs) =
    Then (perm_is (append_assoc (f x) (collect f xs) (g x ++ collect g xs)))
    (Then (perm_front (f x) (move (collect f xs) (g x) (collect g xs)))
    (Then (perm_front (f x) (perm_front (g x) (perm_both f g xs))) (perm_is (sym (append_assoc (f x) (g x) (collect (λ y. f y ++ g y) xs))))))
  where
    move : (xs bs cs : List LinkRecord) → Perm LinkRecord (xs ++ (bs ++ cs)) (bs ++ (xs ++ cs))
    move xs [] cs = perm_refl (xs ++ cs)
    move xs (b ∷ bs) cs = Then (perm_sym (perm_past b xs (bs ++ cs))) (Skip b (move xs bs cs))

abbrev pub opt : Option LinkRecord → List LinkRecord
opt None = []
opt (Some l) = l ∷ []

abbrev by_one : ℕ → LinkRecord → (ℕ → List LinkRecord) → ℕ → List LinkRecord
by_one u l f s = if u == s then l ∷ [] else f s

rest_same : (u : ℕ) (l : LinkRecord) (f : ℕ → List LinkRecord) (ss : List ℕ) → Each (λ m. ¬ (u ≡ m)) ss → collect (by_one u l f) ss ≡ collect f ss
rest_same u l f [] a = refl
rest_same u l f (s ∷ ss) a = ap (λ (b : Bool). (if b then l ∷ [] else f s) ++ collect (by_one u l f) ss) (eq_other u s a.0) ∙ ap (λ (ls : List LinkRecord). f s ++ ls) (rest_same u l f ss a.1)

-- one more link at its session
perm_one : (u : ℕ) (l : LinkRecord) (f : ℕ → List LinkRecord) (ss : List ℕ) → Distinct ss → Has u ss → f u ≡ [] → Perm LinkRecord (l ∷ collect f ss) (collect (by_one u l f) ss)
perm_one u l f [] d has e = absurd (let q = has.1 in cc)
perm_one u l f (s ∷ ss) d (zero, q) e =
    let i : s ≡ u = cc in
    let a : f s ++ collect f ss ≡ collect f ss = ap (λ (ls : List LinkRecord). ls ++ collect f ss) (ap (λ v. f v) i ∙ e) in
    let b : collect (by_one u l f) (s ∷ ss) ≡ l ∷ collect (by_one u l f) ss = ap (λ (c : Bool). (if c then l ∷ [] else f s) ++ collect (by_one u l f) ss) (eq_same u s (sym i)) in
    let c : collect (by_one u l f) ss ≡ collect f ss = rest_same u l f ss (subst (λ v. Each (λ m. ¬ (v ≡ m)) ss) i d.0) in
    perm_is (ap (λ (ls : List LinkRecord). l ∷ ls) (a ∙ sym c) ∙ sym b)
perm_one u l f (s ∷ ss) d (suc k, q) e =
    let ne : ¬ (u ≡ s) = λ i. each_has (λ m. ¬ (s ≡ m)) ss u d.0 (k, q) (sym i) in
    let b : collect (by_one u l f) (s ∷ ss) ≡ f s ++ collect (by_one u l f) ss = ap (λ (c : Bool). (if c then l ∷ [] else f s) ++ collect (by_one u l f) ss) (eq_other u s ne) in
    Then (perm_past l (f s) (collect f ss)) (Then (perm_front (f s) (perm_one u l f ss d.1 (k, q) e)) (perm_is (sym b)))

-- the links of a reactor, by their sessions
link_none : (u : ℕ) (ls : List LinkRecord) → Each (λ m. ¬ (u ≡ m)) (collect sess ls) → link_in u ls ≡ None
link_none u ls a = by (link_in u ls) (found u ls)
  where
    lacks : (ks : List LinkRecord) → Each (λ m. ¬ (u ≡ m)) (collect sess ks) → (l : LinkRecord) → Has l ks → session_of l.state ≡ Some u → ⊥
    lacks [] b l has e = absurd (let q = has.1 in cc)
    lacks (k ∷ ks) b l (zero, q) e = here (session_of k.state) b (let i : k ≡ l = cc in ap (λ (x : LinkRecord). session_of x.state) i ∙ e)
      where
        here : (o : Option ℕ) → Each (λ m. ¬ (u ≡ m)) (some_of o ++ collect sess ks) → o ≡ Some u → ⊥
        here None c i = absurd (cc)
        here (Some v) c i = c.0 (let j : v ≡ u = cc in sym j)
    lacks (k ∷ ks) b l (suc n, q) e = lacks ks (each_right (λ m. ¬ (u ≡ m)) (sess k) (collect sess ks) b) l (n, q) e

    by : (o : Option LinkRecord) → Found u ls o → o ≡ None
    by o (There l has e) = absurd (lacks ls a l has e)
    by o (Nowhere none) = refl

perm_kept : (ss : List ℕ) → Distinct ss → (ls : List LinkRecord) → Each (λ l. (s : ℕ) × ((session_of l.state ≡ Some s) × Has s ss)) ls → Distinct (collect sess ls) → Perm LinkRecord ls (collect (λ s. opt (link_in s ls)) ss)
perm_kept ss d [] h e = perm_is (sym (collect-none (λ s. opt (link_in s [])) ss (each_all (λ s. opt (link_in s []) ≡ []) ss (λ s. refl))))
perm_kept ss d (l ∷ ls) h e =
    let u : ℕ = h.0.0 in
    let own : sess l ≡ u ∷ [] = ap some_of h.0.1.0 in
    let rest : Distinct (u ∷ collect sess ls) = subst (λ (xs : List ℕ). Distinct (xs ++ collect sess ls)) own e in
    let same : collect (by_one u l (λ s. opt (link_in s ls))) ss ≡ collect (λ s. opt (link_in s (l ∷ ls))) ss = collect-same (by_one u l (λ s. opt (link_in s ls))) (λ s. opt (link_in s (l ∷ ls))) (λ s. one s u h.0.1.0) ss in
    Then (Skip l (perm_kept ss d ls h.1 rest.1)) (Then (perm_one u l (λ s. opt (link_in s ls)) ss d h.0.1.1 (ap opt (link_none u ls rest.0))) (perm_is same))
  where
    one : (s u : ℕ) → session_of l.state ≡ Some u → by_one u l (λ v. opt (link_in v ls)) s ≡ opt (link_in s (l ∷ ls))
    one s u q = pick (u == s) ∙ ap (λ (o : Option ℕ). opt (if is_session s o then Some l else link_in s ls)) (sym q)
      where
        pick : (b : Bool) → ◌≡◌ {A = List LinkRecord} (if b then l ∷ [] else opt (link_in s ls)) (opt (if b then Some l else link_in s ls))
        pick true = refl
        pick false = refl

-- a link that its reactor doesn't have yet
abbrev new_by : Terms → ℕ → ℕ → Option LinkRecord → List LinkRecord
new_by t ip s None = untouched ip (Live (coming t ip s)) ∷ []
new_by t ip s (Some l) = []

abbrev new_of : Terms → ℕ → List LinkRecord → ℕ × Claim → List LinkRecord
new_of t n ls (ip, Drew s) = if reactor_of t s == n then new_by t ip s (link_in s ls) else []
new_of t n ls (ip, Full) = []
new_of t n ls (ip, Spent) = []

-- it has a session and no end
abbrev pub IsNew : LinkRecord → Type 0
IsNew k = (s : ℕ) × ((session_of k.state ≡ Some s) × ((e : Ended) → k.state ≡ Over e → ⊥))

new_are : (t : Terms) (n : ℕ) (ls : List LinkRecord) (x : ℕ × Claim) → Each IsNew (new_of t n ls x)
new_are t n ls (ip, Full) = tt
new_are t n ls (ip, Spent) = tt
new_are t n ls (ip, Drew s) = pick (reactor_of t s == n)
  where
    at : (o : Option LinkRecord) → Each IsNew (new_by t ip s o)
    at None = ((s, (refl, λ e i. absurd (cc))), tt)
    at (Some l) = tt

    pick : (b : Bool) → Each IsNew (if b then new_by t ip s (link_in s ls) else [])
    pick true = at (link_in s ls)
    pick false = tt

abbrev old_of : List LinkRecord → ℕ × Claim → List LinkRecord
old_of ls x = collect (λ s. opt (link_in s ls)) (drew_in x)

pub shares_of : (t : Terms) (legal : List Ran → Type 0) (p : Actors t) (c : Core p.State) (h : History) → 1 ≤ t.reactor_num → Holds t legal p c h → (n : ℕ) → n < t.reactor_num → (new : List LinkRecord) × (Each IsNew new × Perm LinkRecord (p.kept (c.states (Reactor n)) ++ new) (collect (link_of t n) (account_by t p c h).links))
shares_of t legal p c h some l n lt = (
  collect (new_of t n ls) accepts,
  (
    each_collect IsNew (new_of t n ls) accepts (each_all (λ x. Each IsNew (new_of t n ls x)) accepts (λ x. new_are t n ls x)),
    Then (perm_behind (collect (new_of t n ls) accepts) (Then (perm_kept (collect drew_in accepts) distinct ls each more.distinct) (perm_is (collect-collect (λ s. opt (link_in s ls)) drew_in accepts))))
        (Then (perm_both (old_of ls) (new_of t n ls) accepts) (perm_is (sym all))),
  ),
)
  where
    past : Past
    past = past_of t p c h

    ls : List LinkRecord
    ls = p.kept (c.states (Reactor n))

    accepts : List (ℕ × Claim)
    accepts = collect accept_in (h.dids Door)

    more : ReactorMore t (p.kept (c.states (Reactor n))) (p.told (c.states (Reactor n))) (diary_of h (Reactor n))
    more = more_of t legal p c h l n lt

    distinct : Distinct (collect drew_in (collect accept_in (h.dids Door)))
    distinct = rises_distinct (collect drew_in (collect accept_in (h.dids Door))) (claims_rise t.max_conn t.session_last [] (collect accept_in (h.dids Door)) l.ports.words.book.claims).1

    each : Each (λ k. (s : ℕ) × ((session_of k.state ≡ Some s) × Has s (collect drew_in (collect accept_in (h.dids Door))))) (p.kept (c.states (Reactor n)))
    each = each_at (λ k. (s : ℕ) × ((session_of k.state ≡ Some s) × Has s (collect drew_in (collect accept_in (h.dids Door))))) (p.kept (c.states (Reactor n)))
        (λ k has. (let s = each_has (λ j. (u : ℕ) × (session_of j.state ≡ Some u)) (p.kept (c.states (Reactor n))) k more.sessions has in (s.0, (s.1, has_session (collect accept_in (h.dids Door)) k.ip s.0 (kept_pair t legal p c h l n lt s.0 k has s.1)))))

    -- a kept link is of this reactor
    own : (s : ℕ) (k : LinkRecord) → Has k (p.kept (c.states (Reactor n))) → session_of k.state ≡ Some s → n ≡ reactor_of t s
    own s k has e =
        let kept = (shows t (AimOf t) (EndOf t) (past_of t p c h) (locals t legal p c h l) (joint t legal p c h l) n lt).keeps s k has e in
        let here : Has s (collect fresh_in (bare (h.took (Reactor n)))) =
        subst (λ (ms : Mail). Has s (collect fresh_in (bare ms))) (sym kept.split)
        (subst (Has s) (sym (ap (collect fresh_in) (collect-append msg_of kept.early ((Door, FreshMsg k.ip s) ∷ (kept.mid ++ kept.later))) ∙ collect-append fresh_in (bare kept.early) (FreshMsg k.ip s ∷ bare (kept.mid ++ kept.later))))
        (has_right s (collect fresh_in (bare kept.early)) (s ∷ collect fresh_in (bare (kept.mid ++ kept.later))) (0, refl))) in
        let q : Reactor n ≡ Reactor (reactor_of t s) = fresh_routed t n (h.took (Reactor n)) (fair_took t legal p c h l n).routed s here in
        cc

    at_session : (ip s : ℕ) (k : LinkRecord) → session_of k.state ≡ Some s → link_of t n k ≡ when (reactor_of t s == n) k
    at_session ip s k e = ap (λ (o : Option ℕ). collect (at_reactor t n k) (some_of o)) e ∙ append-nil (when (reactor_of t s == n) k)

    session_by : (ip s : ℕ) (k : LinkRecord) → Shape t (past_of t p c h) ip (Drew s) k → session_of k.state ≡ Some s
    session_by ip s k (Kept u j q has e i f) = e
    session_by ip s k (Coming u none) = refl

    one : (x : ℕ × Claim) → Shape t (past_of t p c h) x.0 x.1 (link_by t (past_of t p c h).kept x.0 x.1) → link_of t n (link_by t (past_of t p c h).kept x.0 x.1) ≡ old_of (p.kept (c.states (Reactor n))) x ++ new_of t n (p.kept (c.states (Reactor n))) x
    one (ip, Full) sh = refl
    one (ip, Spent) sh = refl
    one (ip, Drew s) sh = at_session ip s (link_by t (past_of t p c h).kept ip (Drew s)) (session_by ip s (link_by t (past_of t p c h).kept ip (Drew s)) sh) ∙ pick (reactor_of t s == n) refl
      where
        both : (o : Option LinkRecord) → link_or t ip s o ∷ [] ≡ (opt o ++ []) ++ new_by t ip s o
        both None = refl
        both (Some k) = refl

        none : (o : Option LinkRecord) → Found s (p.kept (c.states (Reactor n))) o → reactor_of t s == n ≡ false → [] ≡ (opt o ++ []) ++ []
        none o (There k has e) q = absurd (let i : reactor_of t s == n ≡ true = eq_same (reactor_of t s) n (sym (own s k has e)) in let v : true ≡ false = sym i ∙ q in cc)
        none o (Nowhere f) q = refl

        pick : (b : Bool) → reactor_of t s == n ≡ b → when b (link_or t ip s (link_in s (p.kept (c.states (Reactor (reactor_of t s)))))) ≡ (opt (link_in s (p.kept (c.states (Reactor n)))) ++ []) ++ (if b then new_by t ip s (link_in s (p.kept (c.states (Reactor n)))) else [])
        pick true q = ap (λ (m : ℕ). link_or t ip s (link_in s (p.kept (c.states (Reactor m)))) ∷ []) (eq_is (reactor_of t s) n q) ∙ both (link_in s (p.kept (c.states (Reactor n))))
        pick false q = none (link_in s (p.kept (c.states (Reactor n)))) (found s (p.kept (c.states (Reactor n)))) q

    ones : (xs : List (ℕ × Claim)) → ((x : ℕ × Claim) → Has x xs → Shape t (past_of t p c h) x.0 x.1 (link_by t (past_of t p c h).kept x.0 x.1)) → collect (link_of t n) (collect (links_by t (past_of t p c h).kept) xs) ≡ collect (λ x. old_of (p.kept (c.states (Reactor n))) x ++ new_of t n (p.kept (c.states (Reactor n))) x) xs
    ones [] f = refl
    ones (x ∷ xs) f = ap (λ (ks : List LinkRecord). ks ++ collect (link_of t n) (collect (links_by t (past_of t p c h).kept) xs)) (one x (f x (0, refl))) ∙ ap (λ (ks : List LinkRecord). (old_of (p.kept (c.states (Reactor n))) x ++ new_of t n (p.kept (c.states (Reactor n))) x) ++ ks) (ones xs (λ y has. f y (suc has.0, has.1)))

    waiting : (ws : List ℕ) → collect (link_of t n) (collect waits ws) ≡ []
    waiting [] = refl
    waiting (w ∷ ws) = waiting ws

    all : collect (link_of t n) (account_by t p c h).links ≡ collect (λ x. old_of (p.kept (c.states (Reactor n))) x ++ new_of t n (p.kept (c.states (Reactor n))) x) (collect accept_in (h.dids Door))
    all = collect-append (link_of t n) (collect (links_by t (past_of t p c h).kept) (collect accept_in (h.dids Door))) (collect waits c.ports.waiting) ∙ ap (λ (ks : List LinkRecord). collect (link_of t n) (collect (links_by t (past_of t p c h).kept) (collect accept_in (h.dids Door))) ++ ks) (waiting c.ports.waiting) ∙ append-nil (collect (link_of t n) (collect (links_by t (past_of t p c h).kept) (collect accept_in (h.dids Door))))
        ∙ ones (collect accept_in (h.dids Door)) (λ x has. shape t legal p c h some l x has)
