-- Each call of a turn keeps the laws of the session words, whatever it is.
use Rattle.std.proofs.Common.{◌≡◌, ◌⊎◌, ℕ, ◌%◌, if◌then◌else◌, List, [], ◌∷◌, ◌++◌, refl, ap, ◌∙◌, sym, subst, inl, inr}
use Rattle.sw_lists.specs.Lists.{collect, Each, Has}
use Rattle.sw_lists.proofs.Lists.{equal_or_not, collect-append, each_append, each_more}
use Rattle.sw_step.specs.declared.actor.ActorId.{ActorId}
use Rattle.sw_step.specs.declared.actor.ActorId.TheVariants.{Door}
use Rattle.sw_record.specs.Terms.{Terms}
use Rattle.sw_past.specs.Claims.{Claim, drew_in}
use Rattle.sw_past.specs.Routes.{IsHand}
use Rattle.sw_record.specs.Places.{Ran}
use Rattle.sw_world_ports.specs.Calls.{Seen, Lives, Other, BindGot, Granted, ZeroUid, Had, NotThere, Did, Accepts, NoLink, NetOver, Looks, Binds, Frees, Marks, Idles, Stops, SeesStop, Adds, Sums, Tables, MayDo, TableRefuses}
use Rattle.sw_world_ports.specs.Ports.{Ports, set, add, words_by, claim_by, SeesIt, BindsIt, bound_by, Answers, ported}
use Rattle.sw_world_ports.specs.Made.{accept_in, live_in, other_in, pass_in, found_in, had_in, free_in}
use Rattle.sw_world_ports.specs.Law.{binds_of, OneBind, UidIs, BookLaw, FoundLaw, all_in, WordsLaw}
use Rattle.sw_world_ports.proofs.Frame.{frame, collect_same_at, collect_one_at}
use Rattle.sw_world_ports.proofs.Binds.{one_moved, bind_other}
use Rattle.sw_world_ports.proofs.Book.{slot_drawn, bind_keeps, free_keeps, claim_keeps, drawn_more}

-- what was found stays so
found_later : (t : Terms) (a b : List (ℕ × Claim)) (p q : ActorId → List (ℕ × ℕ)) (ds : List Did) → ((s : ℕ) → Has s (collect drew_in a) → Has s (collect drew_in b)) → ((s u : ℕ) → OneBind t p s u → OneBind t q s u) → FoundLaw t a p ds → FoundLaw t b q ds
found_later t a b p q ds f g h =
    record {
      lives = each_more (λ s. Has s (collect drew_in a)) (λ s. Has s (collect drew_in b)) (collect live_in ds) (λ s k. f s k) h.lives;
      others = each_more (λ (x : ℕ × ℕ). (¬ (x.1 ≡ x.0)) × ((x.1 ≡ 0) ⊎ (Has x.1 (collect drew_in a) × (x.1 % t.max_conn ≡ x.0 % t.max_conn)))) (λ (x : ℕ × ℕ). (¬ (x.1 ≡ x.0)) × ((x.1 ≡ 0) ⊎ (Has x.1 (collect drew_in b) × (x.1 % t.max_conn ≡ x.0 % t.max_conn)))) (collect other_in ds)
          (λ x k. (k.0, elim k.1 [ inl z ↦ inl z | inr z ↦ inr (f x.1 z.0, z.1) ])) h.others;
      found = each_more (λ (x : ℕ × ℕ). (x.1 ≡ 0) ⊎ OneBind t p x.0 x.1) (λ (x : ℕ × ℕ). (x.1 ≡ 0) ⊎ OneBind t q x.0 x.1) (collect found_in ds) (λ x k. elim k [ inl z ↦ inl z | inr z ↦ inr (g x.0 x.1 z) ]) h.found;
      had = each_more (λ (x : ℕ × ℕ). OneBind t p x.0 x.1) (λ (x : ℕ × ℕ). OneBind t q x.0 x.1) (collect had_in ds) (λ x k. g x.0 x.1 k) h.had;
    }

found_more : (t : Terms) (a : List (ℕ × Claim)) (p : ActorId → List (ℕ × ℕ)) (ds : List Did) (d : Did) → FoundLaw t a p ds → FoundLaw t a p (d ∷ []) → FoundLaw t a p (ds ++ d ∷ [])
found_more t a p ds d h k =
    record {
      lives = subst (Each (λ s. Has s (collect drew_in a))) (sym (collect-append live_in ds (d ∷ []))) (each_append (λ s. Has s (collect drew_in a)) (collect live_in ds) (collect live_in (d ∷ [])) h.lives k.lives);
      others = subst (Each (λ (x : ℕ × ℕ). (¬ (x.1 ≡ x.0)) × ((x.1 ≡ 0) ⊎ (Has x.1 (collect drew_in a) × (x.1 % t.max_conn ≡ x.0 % t.max_conn))))) (sym (collect-append other_in ds (d ∷ [])))
          (each_append (λ (x : ℕ × ℕ). (¬ (x.1 ≡ x.0)) × ((x.1 ≡ 0) ⊎ (Has x.1 (collect drew_in a) × (x.1 % t.max_conn ≡ x.0 % t.max_conn)))) (collect other_in ds) (collect other_in (d ∷ [])) h.others k.others);
      found = subst (Each (λ (x : ℕ × ℕ). (x.1 ≡ 0) ⊎ OneBind t p x.0 x.1)) (sym (collect-append found_in ds (d ∷ []))) (each_append (λ (x : ℕ × ℕ). (x.1 ≡ 0) ⊎ OneBind t p x.0 x.1) (collect found_in ds) (collect found_in (d ∷ [])) h.found k.found);
      had = subst (Each (λ (x : ℕ × ℕ). OneBind t p x.0 x.1)) (sym (collect-append had_in ds (d ∷ []))) (each_append (λ (x : ℕ × ℕ). OneBind t p x.0 x.1) (collect had_in ds) (collect had_in (d ∷ [])) h.had k.had);
    }

-- a call with what it leaves of the book: the lists after it, each the old one or with one more
words_new : (t : Terms) (w : ℕ → ℕ × ℕ) (last : ℕ) (dids : ActorId → List Did) (y : ActorId) (d : Did) (a : List (ℕ × Claim)) (f p : ActorId → List (ℕ × ℕ)) →
    collect accept_in (add dids y d Door) ≡ a → all_in free_in (add dids y d) ≡ f → all_in pass_in (add dids y d) ≡ p → BookLaw t w last a f p →
    ((s : ℕ) → Has s (collect drew_in (collect accept_in (dids Door))) → Has s (collect drew_in a)) → ((s u : ℕ) → OneBind t (all_in pass_in dids) s u → OneBind t p s u) →
    ((z : ActorId) → FoundLaw t (collect accept_in (dids Door)) (all_in pass_in dids) (dids z)) → FoundLaw t a p (d ∷ []) → WordsLaw t w last (add dids y d)
words_new t w last dids y d a f p ea ef ep book fa fp founds one =
    record {
      book = subst (λ (x : List (ℕ × Claim)). BookLaw t w last x (all_in free_in (add dids y d)) (all_in pass_in (add dids y d))) (sym ea)
          (subst (λ (x : ActorId → List (ℕ × ℕ)). BookLaw t w last a x (all_in pass_in (add dids y d))) (sym ef) (subst (λ (x : ActorId → List (ℕ × ℕ)). BookLaw t w last a f x) (sym ep) book));
      found = λ z. subst (λ (x : List (ℕ × Claim)). FoundLaw t x (all_in pass_in (add dids y d)) (add dids y d z)) (sym ea)
          (subst (λ (x : ActorId → List (ℕ × ℕ)). FoundLaw t a x (add dids y d z)) (sym ep)
          (frame y (λ b x. FoundLaw t a p (if b then dids x ++ d ∷ [] else dids x))
          (found_more t a p (dids y) d (later y) one) later z));
    }
  where
    later : (z : ActorId) → FoundLaw t a p (dids z)
    later z = found_later t (collect accept_in (dids Door)) a (all_in pass_in dids) p (dids z) fa fp (founds z)

-- a call that changes nothing of these
words_still : (t : Terms) (w : ℕ → ℕ × ℕ) (last : ℕ) (dids : ActorId → List Did) (y : ActorId) (d : Did) → accept_in d ≡ [] → free_in d ≡ [] → pass_in d ≡ [] → WordsLaw t w last dids → FoundLaw t (collect accept_in (dids Door)) (all_in pass_in dids) (d ∷ []) → WordsLaw t w last (add dids y d)
words_still t w last dids y d ea ef ep h one =
    words_new t w last dids y d (collect accept_in (dids Door)) (all_in free_in dids) (all_in pass_in dids)
    (ap (λ (g : ActorId → List (ℕ × Claim)). g Door) (collect_same_at accept_in dids y d ea)) (collect_same_at free_in dids y d ef) (collect_same_at pass_in dids y d ep) h.book (λ s k. k) (λ s u k. k) h.found one

-- a word that shows the session, and one that shows another
sees_live : (t : Terms) (w : ℕ → ℕ × ℕ) (last : ℕ) (dids : ActorId → List Did) → WordsLaw t w last dids → (s u : ℕ) → ¬ (s ≡ 0) → w (s % t.max_conn) ≡ (s, u) → Has s (collect drew_in (collect accept_in (dids Door))) × ((u ≡ 0) ⊎ OneBind t (all_in pass_in dids) s u)
sees_live t w last dids h s u ns e =
    let k = h.book.held s ns (ap (λ (x : ℕ × ℕ). x.0) e) in
    (k.0, by (subst (UidIs t (all_in pass_in dids) s) (ap (λ (x : ℕ × ℕ). x.1) e) k.1.1))
  where
    by : UidIs t (all_in pass_in dids) s u → (u ≡ 0) ⊎ OneBind t (all_in pass_in dids) s u
    by (inl x) = inl x.0
    by (inr x) = inr x

sees_other : (t : Terms) (w : ℕ → ℕ × ℕ) (last : ℕ) (dids : ActorId → List Did) → WordsLaw t w last dids → (s n : ℕ) → (w (s % t.max_conn)).0 ≡ n → (n ≡ 0) ⊎ (Has n (collect drew_in (collect accept_in (dids Door))) × (n % t.max_conn ≡ s % t.max_conn))
sees_other t w last dids h s n e = elim (equal_or_not n 0) [ inl z ↦ inl z | inr ne ↦ inr (slot_drawn t w last (collect accept_in (dids Door)) (all_in free_in dids) (all_in pass_in dids) h.book (s % t.max_conn) n e ne) ]

-- what a release needs: the reactor's session stands in its word
abbrev pub CanFree : Terms → (ℕ → ℕ × ℕ) → Did → Type 0
CanFree t w (Frees s u) = (w (s % t.max_conn)).0 ≡ s
CanFree t w _ = Unit {0}

nothing : (t : Terms) (a : List (ℕ × Claim)) (p : ActorId → List (ℕ × ℕ)) (d : Did) → live_in d ≡ [] → other_in d ≡ [] → found_in d ≡ [] → had_in d ≡ [] → FoundLaw t a p (d ∷ [])
nothing t a p d el eo ef eh =
    record {
      lives = subst (λ (xs : List ℕ). Each (λ s. Has s (collect drew_in a)) (xs ++ [])) (sym el) tt;
      others = subst (λ (xs : List (ℕ × ℕ)). Each (λ (x : ℕ × ℕ). (¬ (x.1 ≡ x.0)) × ((x.1 ≡ 0) ⊎ (Has x.1 (collect drew_in a) × (x.1 % t.max_conn ≡ x.0 % t.max_conn)))) (xs ++ [])) (sym eo) tt;
      found = subst (λ (xs : List (ℕ × ℕ)). Each (λ (x : ℕ × ℕ). (x.1 ≡ 0) ⊎ OneBind t p x.0 x.1) (xs ++ [])) (sym ef) tt;
      had = subst (λ (xs : List (ℕ × ℕ)). Each (λ (x : ℕ × ℕ). OneBind t p x.0 x.1) (xs ++ [])) (sym eh) tt;
    }

look_keeps : (t : Terms) (w : ℕ → ℕ × ℕ) (last : ℕ) (dids : ActorId → List Did) → WordsLaw t w last dids → (y : ActorId) (s : ℕ) (x : Seen) → ¬ (s ≡ 0) → SeesIt (w (s % t.max_conn)) s x → WordsLaw t w last (add dids y (Looks s x))
look_keeps t w last dids h y s (Lives u) ns e =
    let k = sees_live t w last dids h s u ns e in
    words_still t w last dids y (Looks s (Lives u)) refl refl refl h (record { lives = (k.0, tt); others = tt; found = (k.1, tt); had = tt })
look_keeps t w last dids h y s (Other n) ns e =
    words_still t w last dids y (Looks s (Other n)) refl refl refl h (record { lives = tt; others = ((e.1, sees_other t w last dids h s n e.0), tt); found = tt; had = tt })

binds_keeps : (t : Terms) (w : ℕ → ℕ × ℕ) (last : ℕ) (dids : ActorId → List Did) → WordsLaw t w last dids → (y : ActorId) (s u : ℕ) (x : BindGot) → IsHand t y → ¬ (s ≡ 0) → BindsIt (w (s % t.max_conn)) s u x → WordsLaw t (bound_by t.max_conn w s u x) last (add dids y (Binds s u x))
binds_keeps t w last dids h y s u ZeroUid hand ns e = words_still t w last dids y (Binds s u ZeroUid) refl refl refl h (nothing t (collect accept_in (dids Door)) (all_in pass_in dids) (Binds s u ZeroUid) refl refl refl refl)
binds_keeps t w last dids h y s u (Had v) hand ns e =
    let k = sees_live t w last dids h s v ns e.1 in
    words_still t w last dids y (Binds s u (Had v)) refl refl refl h (record { lives = (k.0, tt); others = tt; found = (k.1, tt); had = (elim k.1 [ inl z ↦ absurd (e.0 z) | inr z ↦ z ], tt) })
binds_keeps t w last dids h y s u (NotThere n) hand ns e =
    words_still t w last dids y (Binds s u (NotThere n)) refl refl refl h (record { lives = tt; others = ((e.1, sees_other t w last dids h s n e.0), tt); found = tt; had = tt })
binds_keeps t w last dids h y s u Granted hand ns e =
    let a : List (ℕ × Claim) = collect accept_in (dids Door) in
    let p : ActorId → List (ℕ × ℕ) = all_in pass_in dids in
    let k = sees_live t w last dids h s 0 ns e.1 in
    words_new t (bound_by t.max_conn w s u Granted) last dids y (Binds s u Granted) a (all_in free_in dids) (add p y (s, u))
    (ap (λ (g : ActorId → List (ℕ × Claim)). g Door) (collect_same_at accept_in dids y (Binds s u Granted) refl)) (collect_same_at free_in dids y (Binds s u Granted) refl) (collect_one_at pass_in dids y (Binds s u Granted) (s, u) refl)
    (bind_keeps t w last a (all_in free_in dids) p h.book y s u hand ns e.0 e.1) (λ r has. has)
    (λ r v o. one_moved t p (add p y (s, u)) r v (bind_other p y s u r (λ q. unbound r v q o (h.book.held s ns (ap (λ (x : ℕ × ℕ). x.0) e.1)).1.1)) o)
    h.found (record { lives = (k.0, tt); others = tt; found = tt; had = tt })
  where
    -- a session that was bound isn't bound again
    unbound : (r v : ℕ) → s ≡ r → OneBind t (all_in pass_in dids) r v → UidIs t (all_in pass_in dids) s (w (s % t.max_conn)).1 → ⊥
    unbound r v q o (inl z) = absurd (let i : v ∷ [] ≡ [] = sym o.1.1.1.0 ∙ (subst (λ x. binds_of (all_in pass_in dids) x o.1.0 ≡ []) q (z.1 o.1.0)) in cc)
    unbound r v q o (inr z) = z.0 (ap (λ (x : ℕ × ℕ). x.1) e.1)

accepts_still : (dids : ActorId → List Did) (y : ActorId) (d : Did) (a : List (ℕ × Claim)) → accept_in d ≡ [] → a ≡ collect accept_in (dids Door) → a ≡ collect accept_in (add dids y d Door)
accepts_still dids y d a e h = h ∙ sym (ap (λ (g : ActorId → List (ℕ × Claim)). g Door) (collect_same_at accept_in dids y d e))

-- the links that the net gave are those of the door's calls
pub given_keeps : (t : Terms) (legal : List Ran → Type 0) (p : Ports) (dids : ActorId → List Did) → p.given ≡ collect accept_in (dids Door) → (y : ActorId) (d : Did) → MayDo t y d → (ported t p y d).given ≡ collect accept_in (add dids y d Door)
given_keeps t legal p dids h y (Accepts ip c) may = subst (λ (z : ActorId). p.given ++ (ip, c) ∷ [] ≡ collect accept_in (add dids z (Accepts ip c) Door)) (sym may) (ap (λ (xs : List (ℕ × Claim)). xs ++ (ip, c) ∷ []) h ∙ sym (collect-append accept_in (dids Door) (Accepts ip c ∷ [])))
given_keeps t legal p dids h y (Looks s x) may = accepts_still dids y (Looks s x) p.given refl h
given_keeps t legal p dids h y (Binds s u x) may = accepts_still dids y (Binds s u x) p.given refl h
given_keeps t legal p dids h y (Frees s u) may = accepts_still dids y (Frees s u) p.given refl h
given_keeps t legal p dids h y NoLink may = accepts_still dids y NoLink p.given refl h
given_keeps t legal p dids h y NetOver may = accepts_still dids y NetOver p.given refl h
given_keeps t legal p dids h y (Marks b) may = accepts_still dids y (Marks b) p.given refl h
given_keeps t legal p dids h y (Idles c k x) may = accepts_still dids y (Idles c k x) p.given refl h
given_keeps t legal p dids h y Stops may = accepts_still dids y Stops p.given refl h
given_keeps t legal p dids h y (SeesStop b) may = accepts_still dids y (SeesStop b) p.given refl h
given_keeps t legal p dids h y (Adds c) may = accepts_still dids y (Adds c) p.given refl h
given_keeps t legal p dids h y (Sums c n) may = accepts_still dids y (Sums c n) p.given refl h
given_keeps t legal p dids h y (Tables at x) may = accepts_still dids y (Tables at x) p.given refl h
given_keeps t legal p dids h y (TableRefuses k fault) may = accepts_still dids y (TableRefuses k fault) p.given refl h

-- any call
pub call_keeps : (t : Terms) (legal : List Ran → Type 0) (p : Ports) (dids : ActorId → List Did) → WordsLaw t p.words p.last dids → (y : ActorId) (d : Did) → MayDo t y d → Answers t legal p y d → CanFree t p.words d → WordsLaw t (ported t p y d).words (ported t p y d).last (add dids y d)
call_keeps t legal p dids h y (Accepts ip c) may ans can =
    let a : List (ℕ × Claim) = collect accept_in (dids Door) in
    let r = claim_by t.max_conn p.words t.max_conn p.last in
    let e : r.0 ≡ c = ans.1 in
    let there : collect accept_in (add dids y (Accepts ip c) Door) ≡ a ++ (ip, c) ∷ [] = subst (λ (z : ActorId). collect accept_in (add dids z (Accepts ip c) Door) ≡ a ++ (ip, c) ∷ []) (sym may) (collect-append accept_in (dids Door) (Accepts ip c ∷ [])) in
    words_new t (words_by t.max_conn p.words c) r.1 dids y (Accepts ip c) (a ++ (ip, c) ∷ []) (all_in free_in dids) (all_in pass_in dids) there (collect_same_at free_in dids y (Accepts ip c) refl) (collect_same_at pass_in dids y (Accepts ip c) refl)
    (subst (λ (x : Claim). BookLaw t (words_by t.max_conn p.words x) r.1 (a ++ (ip, x) ∷ []) (all_in free_in dids) (all_in pass_in dids)) e (claim_keeps t p.words p.last a (all_in free_in dids) (all_in pass_in dids) h.book ip))
    (λ s k. drawn_more a (ip, c) s k) (λ s u k. k) h.found (nothing t (a ++ (ip, c) ∷ []) (all_in pass_in dids) (Accepts ip c) refl refl refl refl)
call_keeps t legal p dids h y (Looks s x) may ans can = look_keeps t p.words p.last dids h y s x ans.0 ans.1
call_keeps t legal p dids h y (Binds s u x) may ans can = binds_keeps t p.words p.last dids h y s u x may ans.0 ans.1
call_keeps t legal p dids h y (Frees s u) may ans can =
    let a : List (ℕ × Claim) = collect accept_in (dids Door) in
    let f : ActorId → List (ℕ × ℕ) = all_in free_in dids in
    words_new t (set p.words (s % t.max_conn) (0, 0)) p.last dids y (Frees s u) a (add f y (s, u)) (all_in pass_in dids)
    (ap (λ (g : ActorId → List (ℕ × Claim)). g Door) (collect_same_at accept_in dids y (Frees s u) refl)) (collect_one_at free_in dids y (Frees s u) (s, u) refl) (collect_same_at pass_in dids y (Frees s u) refl)
    (subst (λ (z : ActorId). BookLaw t (set p.words (s % t.max_conn) (0, 0)) p.last a (add f z (s, u)) (all_in pass_in dids)) (sym may.1.1) (free_keeps t p.words p.last a f (all_in pass_in dids) h.book may.0 s u may.1.0 ans.0 (ap (λ (x : ℕ × ℕ). x.0) ans.1) (ap (λ (x : ℕ × ℕ). x.1) ans.1)))
    (λ r k. k) (λ r v k. k) h.found (nothing t a (all_in pass_in dids) (Frees s u) refl refl refl refl)
call_keeps t legal p dids h y NoLink may ans can = words_still t p.words p.last dids y NoLink refl refl refl h (nothing t (collect accept_in (dids Door)) (all_in pass_in dids) NoLink refl refl refl refl)
call_keeps t legal p dids h y NetOver may ans can = words_still t p.words p.last dids y NetOver refl refl refl h (nothing t (collect accept_in (dids Door)) (all_in pass_in dids) NetOver refl refl refl refl)
call_keeps t legal p dids h y (Marks b) may ans can = words_still t p.words p.last dids y (Marks b) refl refl refl h (nothing t (collect accept_in (dids Door)) (all_in pass_in dids) (Marks b) refl refl refl refl)
call_keeps t legal p dids h y (Idles c k x) may ans can = words_still t p.words p.last dids y (Idles c k x) refl refl refl h (nothing t (collect accept_in (dids Door)) (all_in pass_in dids) (Idles c k x) refl refl refl refl)
call_keeps t legal p dids h y Stops may ans can = words_still t p.words p.last dids y Stops refl refl refl h (nothing t (collect accept_in (dids Door)) (all_in pass_in dids) Stops refl refl refl refl)
call_keeps t legal p dids h y (SeesStop b) may ans can = words_still t p.words p.last dids y (SeesStop b) refl refl refl h (nothing t (collect accept_in (dids Door)) (all_in pass_in dids) (SeesStop b) refl refl refl refl)
call_keeps t legal p dids h y (Adds c) may ans can = words_still t p.words p.last dids y (Adds c) refl refl refl h (nothing t (collect accept_in (dids Door)) (all_in pass_in dids) (Adds c) refl refl refl refl)
call_keeps t legal p dids h y (Sums c n) may ans can = words_still t p.words p.last dids y (Sums c n) refl refl refl h (nothing t (collect accept_in (dids Door)) (all_in pass_in dids) (Sums c n) refl refl refl refl)
call_keeps t legal p dids h y (Tables at x) may ans can = words_still t p.words p.last dids y (Tables at x) refl refl refl h (nothing t (collect accept_in (dids Door)) (all_in pass_in dids) (Tables at x) refl refl refl refl)
call_keeps t legal p dids h y (TableRefuses k fault) may ans can = words_still t p.words p.last dids y (TableRefuses k fault) refl refl refl h (nothing t (collect accept_in (dids Door)) (all_in pass_in dids) (TableRefuses k fault) refl refl refl refl)
