-- What handlers tell of themselves is the hand's log.
use Rattle.std.proofs.Common.{◌≡◌, ℕ, zero, suc, ◌+◌, ◌-◌, ◌==◌, nat_lt, ltb, Bool, true, false, if◌then◌else◌, List, [], ◌∷◌, ◌++◌, length, map, replicate, slice_get, slice_set, refl, ap, ◌∙◌, sym, subst, append-nil, append_assoc, arith, Some}
use Rattle.sw_lists.specs.Lists.{collect}
use Rattle.sw_lists.proofs.Lists.{collect-append, length_append}
use Rattle.sw_record.specs.Words.{Act, Given, EventGiven, AnswerGiven, Log}
use Rattle.sw_hand.specs.Ports.{Acting}
use Rattle.sw_worker.specs.Generations.{Line, is_due as line_due, renewed, counted, Acts, ActsAt}
use Rattle.sw_hand_laws.specs.Hand.{Hand, is_due}
use Rattle.sw_hand_laws.specs.Generations.{entries, Generations}
use Rattle.sw_world_hand_fits.specs.Hands.{LineIs, Tells, LineTells}
use Rattle.sw_world_hand_fits.proofs.Lines.{Passed, Lined, Same, More, Next, cancel, due_then, due_by, counts_of, one_passed}

-- one handler
pub passed_tells : {H : Type 0} (told : H → Log) (acts : Acting H) (gave : Log) (x y : H) → Tells told acts → Passed acts gave x y → told y ≡ told x ++ gave
passed_tells told acts [] x y tells h = ap told h ∙ sym (append-nil (told x))
passed_tells told acts (e ∷ es) x y tells (m, (w, r)) = passed_tells told acts es m y tells r ∙ ap (λ (l : Log). l ++ es) (tells x e.0 e.1 m w) ∙ append_assoc (told x) (e ∷ []) es

-- one item of a list
map_set : {A B : Type 0} (f : A → B) (xs : List A) (n : ℕ) (x : A) → map f (slice_set xs n x) ≡ slice_set (map f xs) n (f x)
map_set f [] n x = refl
map_set f (y ∷ ys) zero x = refl
map_set f (y ∷ ys) (suc n) x = ap (λ zs. f y ∷ zs) (map_set f ys n x)

map_get : {A B : Type 0} (f : A → B) (xs : List A) (n : ℕ) (x : A) → slice_get xs n ≡ Some x → slice_get (map f xs) n ≡ Some (f x)
map_get f [] n x q = absurd (cc)
map_get f (y ∷ ys) zero x q = let i : y ≡ x = cc in ap (λ z. Some (f z)) i
map_get f (y ∷ ys) (suc n) x q = map_get f ys n x q

set_there : {A : Type 0} (xs : List A) (c x : A) (rest : List A) → slice_set (xs ++ c ∷ rest) (length xs) x ≡ xs ++ x ∷ rest
set_there [] c x rest = refl
set_there (y ∷ ys) c x rest = ap (λ zs. y ∷ zs) (set_there ys c x rest)

get_there : {A : Type 0} (xs : List A) (c : A) (rest : List A) → slice_get (xs ++ c ∷ rest) (length xs) ≡ Some c
get_there [] c rest = refl
get_there (y ∷ ys) c rest = get_there ys c rest

-- the handler at hand acts, and tells it
acted_tells : {H : Type 0} (told : H → Log) (acts : Acting H) (l k : Line H) (g : Given) (act : Act) (gone : List Log) (current : Log) (rest : List Log) → Tells told acts → l.at ≡ length gone → map told l.items ≡ gone ++ current ∷ rest → ActsAt acts l g act k → map told k.items ≡ gone ++ (current ++ (g, act) ∷ []) ∷ rest
acted_tells {H} told acts l k g act gone current rest tells at is (old, (new, (there, does, q))) =
    let a : Some (told old) ≡ Some current = sym (map_get told l.items l.at old there) ∙ ap (λ xs. slice_get xs l.at) is ∙ ap (slice_get (gone ++ current ∷ rest)) at ∙ get_there gone current rest in
    let b : told old ≡ current = cc in
    ap (λ (x : Line H). map told x.items) q ∙ map_set told l.items l.at new ∙ ap (λ xs. slice_set xs l.at (told new)) is ∙ ap (λ n. slice_set (gone ++ current ∷ rest) n (told new)) at ∙ set_there gone current (told new) rest ∙ ap (λ (x : Log). gone ++ x ∷ rest) (tells old g act new does ∙ ap (λ (x : Log). x ++ (g, act) ∷ []) b)

counted_items : {H : Type 0} (g : Line H) (v : Bool) → nat_lt g.events g.most ≡ v → (counted g).items ≡ g.items
counted_items {H} g v q = ap (λ b. (if b then record g { events = g.events + 1 } else g).items) q ∙ pick v
  where
    pick : (b : Bool) → (if b then record g { events = g.events + 1 } else g).items ≡ g.items
    pick true = refl
    pick false = refl

counted_at : {H : Type 0} (g : Line H) (v : Bool) → nat_lt g.events g.most ≡ v → (counted g).at ≡ g.at
counted_at {H} g v q = ap (λ b. (if b then record g { events = g.events + 1 } else g).at) q ∙ pick v
  where
    pick : (b : Bool) → (if b then record g { events = g.events + 1 } else g).at ≡ g.at
    pick true = refl
    pick false = refl

-- a line of handlers, one event on
renewed_tells : {H : Type 0} (told : H → Log) (l : Line H) (f : Hand) (v : Bool) → line_due l ≡ v → (v ≡ true → ¬ (f.left ≡ 0)) → l.at ≡ length f.gone → LineTells told f l → ((renewed l).at ≡ length (if v then f.gone ++ f.current ∷ [] else f.gone)) × (map told (renewed l).items ≡ (if v then f.gone ++ f.current ∷ [] else f.gone) ++ (if v then [] else f.current) ∷ replicate (if v then f.left - 1 else f.left) [])
renewed_tells {H} told l f true q some at is =
    let r : renewed l ≡ record l { at = l.at + 1; events = 0 } = ap (λ b. if b then record l { at = l.at + 1; events = 0 } else l) q in
    let n : f.left ≡ suc (f.left - 1) = (let z = some refl in omega (arith, z)) in (
      ap (λ (x : Line H). x.at) r ∙ ap (λ k. k + 1) at ∙ sym (length_append f.gone (f.current ∷ [])),
      ap (λ (x : Line H). map told x.items) r ∙ is ∙ ap (λ k. f.gone ++ f.current ∷ replicate k []) n ∙ sym (append_assoc f.gone (f.current ∷ []) ([] ∷ replicate (f.left - 1) [])),
    )
renewed_tells {H} told l f false q some at is =
    let r : renewed l ≡ l = ap (λ b. if b then record l { at = l.at + 1; events = 0 } else l) q in
    (ap (λ (x : Line H). x.at) r ∙ at, ap (λ (x : Line H). map told x.items) r ∙ is)

heard_log : (v : Bool) (current : Log) (e : Given × Act) → (if v then [] else current) ++ e ∷ [] ≡ (if v then e ∷ [] else current ++ e ∷ [])
heard_log true current e = refl
heard_log false current e = refl

-- what a worker's handlers tell goes on with the tables
pub line_tells : {H : Type 0} (told : H → Log) (acts : Acting H) (limit : ℕ) (f g : Hand) (l k : Line H) (gave : Log) → Tells told acts → LineIs limit f l → Lined limit f g → g.log ≡ f.log ++ gave → Passed (Acts acts) gave l k → LineTells told f l → LineTells told g k
line_tells {H} told acts limit f g l k gave tells is (Same a b c d e) q h t =
    let none : [] ≡ gave = cancel f.log [] gave (append-nil f.log ∙ sym a ∙ q) in
    let same : k ≡ l = subst (λ (es : Log). Passed (Acts acts) es l k) (sym none) h in
    ap (λ (x : Line H). map told x.items) same ∙ t ∙ ap (λ (xs : List Log). xs ++ f.current ∷ replicate f.left []) (sym c) ∙ ap (λ (x : Log). g.gone ++ x ∷ replicate f.left []) (sym b) ∙ ap (λ n. g.gone ++ g.current ∷ replicate n []) (sym e)
line_tells {H} told acts limit f g l k gave tells is (More an act a b c d e) q h t =
    let one : gave ≡ (AnswerGiven an, act) ∷ [] = cancel f.log gave ((AnswerGiven an, act) ∷ []) (sym q ∙ a) in
    acted_tells told acts l k (AnswerGiven an) act f.gone f.current (replicate f.left []) tells is.at t (one_passed (Acts acts) gave (AnswerGiven an, act) l k one h) ∙ ap (λ (xs : List Log). xs ++ (f.current ++ (AnswerGiven an, act) ∷ []) ∷ replicate f.left []) (sym c) ∙ ap (λ (x : Log). g.gone ++ x ∷ replicate f.left []) (sym b) ∙ ap (λ n. g.gone ++ g.current ∷ replicate n []) (sym e)
line_tells {H} told acts limit f g l k gave tells is (Next ev act a b c d e) q h t =
    let one : gave ≡ (EventGiven ev, act) ∷ [] = cancel f.log gave ((EventGiven ev, act) ∷ []) (sym q ∙ a) in
    let v : Bool = is_due limit f in
    let due : line_due l ≡ v = due_by limit (length f.gone) f.events f.left l (limit == 0) (f.events == limit) (ltb 0 f.left) (counts_of limit f l is) refl refl refl in
    let r = renewed_tells told l f v due (λ n. (due_then limit f.events f.left (limit == 0) (f.events == limit) (ltb 0 f.left) refl refl refl n).1) is.at t in
    let w = one_passed (Acts acts) gave (EventGiven ev, act) l k one h in
    acted_tells told acts (counted (renewed l)) k (EventGiven ev) act (if v then f.gone ++ f.current ∷ [] else f.gone) (if v then [] else f.current) (replicate (if v then f.left - 1 else f.left) []) tells
    (counted_at (renewed l) (nat_lt (renewed l).events (renewed l).most) refl ∙ r.0)
    (ap (map told) (counted_items (renewed l) (nat_lt (renewed l).events (renewed l).most) refl) ∙ r.1) w
    ∙ ap (λ (xs : List Log). xs ++ ((if v then [] else f.current) ++ (EventGiven ev, act) ∷ []) ∷ replicate (if v then f.left - 1 else f.left) []) (sym c)
    ∙ ap (λ (x : Log). g.gone ++ x ∷ replicate (if v then f.left - 1 else f.left) []) (heard_log v f.current (EventGiven ev, act) ∙ sym b)
    ∙ ap (λ n. g.gone ++ g.current ∷ replicate n []) (sym e)

-- so a worker's log is what its handlers tell, one behind the other
no_entries : (n : ℕ) → collect entries (replicate n []) ≡ []
no_entries zero = refl
no_entries (suc n) = no_entries n

pub line_log : {H : Type 0} (told : H → Log) (limit num : ℕ) (g : Hand) (l : Line H) → LineTells told g l → Generations limit num g → g.log ≡ collect entries (map told l.items)
line_log told limit num g l t k = sym (ap (collect entries) t ∙ collect-append entries g.gone (g.current ∷ replicate g.left []) ∙ ap (λ (x : Log). collect entries g.gone ++ (g.current ++ x)) (no_entries g.left) ∙ ap (λ (x : Log). collect entries g.gone ++ x) (append-nil g.current) ∙ k.joined)
