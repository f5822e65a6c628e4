-- Lists of connections and their rows.
use Rattle.std.proofs.Common.{◌≡◌, ℕ, ◌==◌, Bool, true, false, if◌then◌else◌, List, [], ◌∷◌, ◌++◌, length, map, slice_get, slice_set, remove, Option, Some, None, refl, ap, ◌∙◌, sym, subst, suc}
use Rattle.sw_lists.specs.Lists.{collect, Each}
use Rattle.sw_lists.specs.Numbers.{Distinct}
use Rattle.sw_lists.proofs.Lists.{eq_is, eq_same, eq_other}
use Rattle.sw_conn.specs.declared.conn.Conn.{Conn}
use Rattle.sw_record.specs.Terms.{Terms}
use Rattle.sw_reactor_table.specs.Conn.{Conn as Row}
use Rattle.sw_reactor.specs.Line.{Lined, next_place, place_of, At, AtPlace, AtSession}
use Rattle.sw_reactor_fits.specs.Told.{Telling}
use Rattle.sw_reactor_fits.specs.Fits.{IsRow, AreRows}
use Rattle.sw_reactor_table.specs.Quiet.{session_in}

pub rows_length : {L K : Type 0} (view : Telling L K) (t : Terms) (cs : List (Conn L K)) (ds : List Row) → AreRows view t cs ds → length cs ≡ length ds
rows_length view t [] [] h = refl
rows_length view t [] (d ∷ ds) h = absurd h
rows_length view t (c ∷ cs) [] h = absurd h
rows_length view t (c ∷ cs) (d ∷ ds) h = ap (λ (n : ℕ). suc n) (rows_length view t cs ds h.1)

pub rows_append : {L K : Type 0} (view : Telling L K) (t : Terms) (cs bs : List (Conn L K)) (ds es : List Row) → AreRows view t cs ds → AreRows view t bs es → AreRows view t (cs ++ bs) (ds ++ es)
rows_append view t [] bs [] es h g = g
rows_append view t [] bs (d ∷ ds) es h g = absurd h
rows_append view t (c ∷ cs) bs [] es h g = absurd h
rows_append view t (c ∷ cs) bs (d ∷ ds) es h g = (h.0, rows_append view t cs bs ds es h.1 g)

pub rows_map : {L K : Type 0} (view : Telling L K) (t : Terms) (f : Conn L K → Conn L K) (g : Row → Row) → ((c : Conn L K) (d : Row) → IsRow view t c d → IsRow view t (f c) (g d)) → (cs : List (Conn L K)) (ds : List Row) → AreRows view t cs ds → AreRows view t (map f cs) (map g ds)
rows_map view t f g k [] [] h = tt
rows_map view t f g k [] (d ∷ ds) h = absurd h
rows_map view t f g k (c ∷ cs) [] h = absurd h
rows_map view t f g k (c ∷ cs) (d ∷ ds) h = (k c d h.0, rows_map view t f g k cs ds h.1)

-- the connections before one, that one, and those behind it
pub record IsSplit {L K : Type 0} (view : Telling L K) (t : Terms) (cs : List (Conn L K)) (ds : List Row) (d : Row) (es : List Row) : Type 0 where
  pub before : List (Conn L K)
  pub one : Conn L K
  pub behind : List (Conn L K)
  pub is : cs ≡ before ++ one ∷ behind
  pub rows_before : AreRows view t before ds
  pub row : IsRow view t one d
  pub rows_behind : AreRows view t behind es

pub rows_split : {L K : Type 0} (view : Telling L K) (t : Terms) (cs : List (Conn L K)) (ds : List Row) (d : Row) (es : List Row) → AreRows view t cs (ds ++ d ∷ es) → IsSplit view t cs ds d es
rows_split view t [] [] d es h = absurd h
rows_split view t (c ∷ cs) [] d es h = record { before = []; one = c; behind = cs; is = refl; rows_before = tt; row = h.0; rows_behind = h.1 }
rows_split view t [] (x ∷ ds) d es h = absurd h
rows_split {L} {K} view t (c ∷ cs) (x ∷ ds) d es h =
    (let r : IsSplit view t cs ds d es = rows_split view t cs ds d es h.1 in
    record { before = c ∷ r.before; one = r.one; behind = r.behind; is = ap (λ (zs : List (Conn L K)). c ∷ zs) r.is; rows_before = (h.0, r.rows_before); row = r.row; rows_behind = r.rows_behind })

-- the item at the place behind a list
pub get_behind : {X : Type 0} (xs : List X) (y : X) (ys : List X) → slice_get (xs ++ y ∷ ys) (length xs) ≡ Some y
get_behind [] y ys = refl
get_behind (x ∷ xs) y ys = get_behind xs y ys

pub set_behind : {X : Type 0} (xs : List X) (y z : X) (ys : List X) → slice_set (xs ++ y ∷ ys) (length xs) z ≡ xs ++ z ∷ ys
set_behind [] y z ys = refl
set_behind (x ∷ xs) y z ys = ap (λ zs. x ∷ zs) (set_behind xs y z ys)

pub remove_behind : {X : Type 0} (xs : List X) (y : X) (ys : List X) → remove (xs ++ y ∷ ys) (length xs) ≡ xs ++ ys
remove_behind [] y ys = refl
remove_behind (x ∷ xs) y ys = ap (λ zs. x ∷ zs) (remove_behind xs y ys)

-- a change at that place
pub at_behind : {X : Type 0} (xs : List X) (y : X) (ys zs : List X) (P : X → X → Type 0) → At (xs ++ y ∷ ys) (length xs) P zs → (z : X) × (P y z × (zs ≡ xs ++ z ∷ ys))
at_behind {X} xs y ys zs P (c, (d, (e, p, q))) =
    (let same : c ≡ y = (let k : Some c ≡ Some y = sym e ∙ get_behind xs y ys in let g : c ≡ y = cc in g) in
    (d, (subst (λ (x : X). P x d) same p, q ∙ set_behind xs y d ys)))

-- the connection of a session is changed, in the code at its place, in the table wherever the session is
abbrev pub change : (Row → Row) → ℕ → Row → Row
change g s d = if d.session == s then g d else d

unchanged : (g : Row → Row) (s : ℕ) (ds : List Row) → Each (λ (d : Row). ¬ (d.session ≡ s)) ds → map (change g s) ds ≡ ds
unchanged g s [] h = refl
unchanged g s (d ∷ ds) h = ap (λ (zs : List Row). zs) (ap (λ (b : Bool). (if b then g d else d) ∷ map (change g s) ds) (eq_other d.session s h.0)) ∙ ap (λ (zs : List Row). d ∷ zs) (unchanged g s ds h.1)

others : (s : ℕ) (ds : List Row) → Each (λ (m : ℕ). ¬ (s ≡ m)) (collect session_in ds) → Each (λ (d : Row). ¬ (d.session ≡ s)) ds
others s [] h = tt
others s (d ∷ ds) h = ((λ e. h.0 (sym e)), others s ds h.1)

row_same : {L K : Type 0} (view : Telling L K) (t : Terms) (c : Conn L K) (d : Row) → IsRow view t c d → d.session ≡ c.session
row_same view t c d h = ap (λ (x : Row). x.session) h.0

-- a list whose item at this place, if there is one, is changed
abbrev pub AtThis : {X : Type 0} → List X → Option ℕ → (X → X → Type 0) → List X → Type 0
AtThis cs None P ds = ds ≡ cs
AtThis cs (Some n) P ds = At cs n P ds

-- where it is in the code
suc_place : {L K : Type 0} (c : Conn L K) (cs ds : List (Conn L K)) (o : Option ℕ) (P : Conn L K → Conn L K → Type 0) → AtThis (c ∷ cs) (next_place o) P ds → (rest : List (Conn L K)) × ((ds ≡ c ∷ rest) × AtThis cs o P rest)
suc_place c cs ds None P h = (cs, (h, refl))
suc_place {L} {K} c cs ds (Some n) P (x, (y, (e, p, q))) = (slice_set cs n y, (q, (x, (y, (e, p, refl)))))

pub rows_session : {L K : Type 0} (view : Telling L K) (t : Terms) (s : ℕ) (P : Conn L K → Conn L K → Type 0) (B : Row → Type 0) (g : Row → Row) → ((c e : Conn L K) (d : Row) → B d → d.session ≡ s → P c e → IsRow view t c d → IsRow view t e (g d)) → (cs es : List (Conn L K)) (ds : List Row) → Distinct (collect session_in ds) → Each B ds → AreRows view t cs ds → AtThis cs (place_of s cs) P es → AreRows view t es (map (change g s) ds)
rows_session {L} {K} view t s P B g k [] es [] z bounds h m = subst (λ (zs : List (Conn L K)). AreRows view t zs []) (sym m) tt
rows_session view t s P B g k [] es (d ∷ ds) z bounds h m = absurd h
rows_session view t s P B g k (c ∷ cs) es [] z bounds h m = absurd h
rows_session {L} {K} view t s P B g k (c ∷ cs) es (d ∷ ds) z bounds h m = pick (c.session == s) refl m (λ bs x. rows_session view t s P B g k cs bs ds z.1 bounds.1 h.1 x)
  where
    pick : (b : Bool) → (c.session == s) ≡ b → AtThis (c ∷ cs) (if b then Some 0 else next_place (place_of s cs)) P es → ((bs : List (Conn L K)) → AtThis cs (place_of s cs) P bs → AreRows view t bs (map (change g s) ds)) → AreRows view t es (map (change g s) (d ∷ ds))
    pick true e (x, (y, (f, p, q))) rec =
        (let same : c ≡ x = (let u : Some c ≡ Some x = f in let v : c ≡ x = cc in v) in
        let here : d.session ≡ s = row_same view t c d h.0 ∙ eq_is c.session s e in
        let row : IsRow view t y (g d) = k c y d bounds.0 here (subst (λ (w : Conn L K). P w y) (sym same) p) h.0 in
        let test : (d.session == s) ≡ true = eq_same d.session s here in
        let rest : map (change g s) ds ≡ ds = unchanged g s ds (others s ds (subst (λ (n : ℕ). Each (λ (m : ℕ). ¬ (n ≡ m)) (collect session_in ds)) here z.0)) in
        subst (λ (zs : List (Conn L K)). AreRows view t zs (map (change g s) (d ∷ ds))) (sym q)
        ((subst (λ (b : Bool). IsRow view t y (if b then g d else d)) (sym test) row), subst (AreRows view t cs) (sym rest) h.1))
    pick false e x rec =
        (let r = suc_place c cs es (place_of s cs) P x in
        let test : (d.session == s) ≡ false = eq_other d.session s (λ p. absurd (let u : true ≡ false = sym (eq_same c.session s (sym (row_same view t c d h.0) ∙ p)) ∙ e in cc)) in
        subst (λ (zs : List (Conn L K)). AreRows view t zs (map (change g s) (d ∷ ds))) (sym r.1.0)
        (subst (λ (b : Bool). IsRow view t c (if b then g d else d)) (sym test) h.0, rec r.0 r.1.1))

-- of a line
pub line_session : {L K : Type 0} (l : Lined L K) (s : ℕ) (P : Conn L K → Conn L K → Type 0) (m : Lined L K) → AtSession l s P m → AtThis l.conns (place_of s l.conns) P m.conns
line_session {L} {K} l s P m h = by (place_of s l.conns) h
  where
    by : (o : Option ℕ) → AtPlace l o P m → AtThis l.conns o P m.conns
    by None e = ap (λ (x : Lined L K). x.conns) e
    by (Some n) e = e.0
