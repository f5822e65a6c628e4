-- What the reactor's law says of the connection that is served next, and of how many there are; and of a turn's calls.
use Rattle.std.proofs.Common.{◌≡◌, ◌⊎◌, ℕ, ◌+◌, ◌<◌, ◌≤◌, ◌%◌, ◌^◌, ◌==◌, Bool, true, false, List, [], ◌∷◌, ◌++◌, length, Option, Some, None, refl, ap, ◌∙◌, sym, subst, arith, zero, suc, mod-lt}
use Rattle.std.specs.Bool.{MatchBool}
use Rattle.sw_lists.specs.Lists.{collect, Each, Has}
use Rattle.sw_lists.specs.Numbers.{Rises, Distinct}
use Rattle.sw_lists.specs.Perm.{Perm}
use Rattle.sw_lists.proofs.Lists.{length_append, each_append, each_more, perm_length, perm_has, collect-append}
use Rattle.sw_data.specs.declared.messages.Got.{Got as TableGot}
use Rattle.sw_frame.specs.Cut.{IsFit}
use Rattle.sw_record.specs.Words.{Event}
use Rattle.sw_record.specs.Terms.{Terms, keeps}
use Rattle.sw_record.specs.declared.record.LinkRecord.{LinkRecord}
use Rattle.sw_past.specs.Messages.{Message}
use Rattle.sw_past.specs.Past.{Mail, bare}
use Rattle.sw_past.specs.Views.{fresh_in}
use Rattle.sw_past.specs.Routes.{IsFair}
use Rattle.sw_join.specs.Modes.{AimOf, EndOf}
use Rattle.sw_world_ports.specs.Calls.{Did}
use Rattle.sw_world_ports.specs.Made.{free_in, firsts}
use Rattle.sw_world_ports.proofs.Haves.{has_left, has_right}
use Rattle.sw_world_laws.specs.Turns.{Diary}
use Rattle.sw_world_laws.specs.Shows.{HasWord}
use Rattle.sw_reactor_table.specs.Conn.{Conn, Answers, Does, Pushes, Moves, Stays, Leaves, tidied, serve}
use Rattle.sw_reactor_table.specs.Reactor.{Reactor as Table, Ask, Take, Push, Nothing, Rest, Finished, all, settled}
use Rattle.sw_reactor_table.specs.Quiet.{Quiet, session_in, session_over, sessions}
use Rattle.sw_reactor_table.proofs.Grows.{fit_grows}
use Rattle.sw_reactor_table.proofs.Final.{mode_laws}
use Rattle.sw_reactor_table.proofs.Law.{runs_quiet, call_quiet, call_fair}
use Rattle.sw_reactor_table.proofs.Everywhere.{settled_over}
use Rattle.sw_reactor_laws.specs.Histories.{counts_in, frees, leaves_with, at_first, at_served}
use Rattle.sw_reactor_laws.specs.Stopped.{stop_at}
use Rattle.sw_reactor_laws.proofs.Histories.{Listed, runs_listed, freed_is, firsts_freed}
use Rattle.sw_world_reactor.specs.Calls.{NoCalls, LookCalls, IdleCalls, AimCalls, DoesCalls, NextCalls, ChoiceCalls, TurnCalls, counts_packet, packets_counted}
use Rattle.sw_world_reactor.specs.Reactors.{AllTold, RunWith, Behind}
use Rattle.sw_world_reactor.proofs.Calls.{choice_chose, turn_made}
use Rattle.sw_world_reactor.proofs.Sessions.{serve_session}
use Rattle.sw_world_reactor_fits.proofs.Answers.{IsNamed}

-- rising numbers below a bound are few
rises_few : (xs : List ℕ) (k : ℕ) → k ≤ 2 ^ 32 → Each (λ s. (¬ (s ≡ 0)) × (s < 2 ^ 32)) xs → Rises xs → Each (λ s. k ≤ s) xs → length xs + k ≤ 2 ^ 32
rises_few [] k le low rises from = omega (arith, le)
rises_few (x ∷ xs) k le low rises from =
    (let a : length xs + (x + 1) ≤ 2 ^ 32 = rises_few xs (x + 1) (let b : x < 2 ^ 32 = low.0.1 in omega (arith, b)) low.1 rises.1 (each_more (λ m. x < m) (λ m. x + 1 ≤ m) xs (λ m lt. omega (arith, lt)) rises.0) in
    let b : k ≤ x = from.0 in omega (arith, a, b))

zero_first : (xs : List ℕ) → Each (λ s. 0 ≤ s) xs
zero_first [] = tt
zero_first (x ∷ xs) = (omega arith, zero_first xs)

count_conns : (cs : List Conn) → length (collect session_in cs) ≡ length cs
count_conns [] = refl
count_conns (c ∷ cs) = ap (λ (n : ℕ). suc n) (count_conns cs)

-- what the law says of a settled state: of its sessions, by what came
pub record Lists (took : Mail) (s : Table) : Type 0 where
  pub came : Perm ℕ (sessions (all s) s.over) (collect fresh_in (bare took))
  pub distinct : Distinct (sessions (all s) s.over)

pub settled_lists : (t : Terms) → 0 < t.worker_num → IsFit t.framing → (n : ℕ) → n < t.reactor_num → (s : Table) (got : TableGot Message) (d : Diary) (word : ℕ → ℕ) → AllTold word d.dids → Behind t s got d → IsFair t n d.took → (starved : Bool) → Lists d.took (settled t starved got s)
settled_lists t some fit n lt s got d word told b fair starved =
    (let q : Quiet t (AimOf t) (EndOf t) n d.took d.pushed (settled t starved got s) =
    call_quiet t (AimOf t) (EndOf t) n s b.took b.pushed d.took d.pushed got b.call fair
    (runs_quiet t (AimOf t) (EndOf t) (mode_laws t) word some (fit_grows t fit) n lt b.took b.pushed s (b.ran.runs word told).run (call_fair t n s b.took b.pushed d.took d.pushed got b.call fair)) starved in
    record { came = q.came; distinct = q.distinct })

pub few_conns : (took : Mail) (s : Table) → Lists took s → Each (λ k. (¬ (k ≡ 0)) × (k < 2 ^ 32)) (collect fresh_in (bare took)) → Rises (collect fresh_in (bare took)) → length (all s) < 2 ^ 64
few_conns took s l low rises =
    (let a : length (collect session_in (all s) ++ collect session_over s.over) ≡ length (collect fresh_in (bare took)) = perm_length l.came in
    let b : length (collect session_in (all s) ++ collect session_over s.over) ≡ length (collect session_in (all s)) + length (collect session_over s.over) = length_append (collect session_in (all s)) (collect session_over s.over) in
    let c : length (collect session_in (all s)) ≡ length (all s) = count_conns (all s) in
    let e : length (collect fresh_in (bare took)) + 0 ≤ 2 ^ 32 = rises_few (collect fresh_in (bare took)) 0 (omega arith) low rises (zero_first (collect fresh_in (bare took))) in
    omega (arith, a, b, c, e))

-- the next connection is one of them
next_here : (s : Table) (c : Conn) (cs : List Conn) → s.next ≡ c ∷ cs → Has c.session (collect session_in (all s))
next_here s c cs e =
    subst (Has c.session) (sym (ap (λ (ds : List Conn). collect session_in (s.done ++ ds)) e ∙ collect-append session_in s.done (c ∷ cs)))
    (has_right c.session (collect session_in s.done) (c.session ∷ collect session_in cs) (0, refl))

pub apart : (xs ys : List ℕ) (k : ℕ) → Distinct (xs ++ ys) → Has k xs → Has k ys → ⊥
apart [] ys k d (zero, q) h = absurd (cc)
apart [] ys k d (suc m, q) h = absurd (cc)
apart (x ∷ xs) ys k d (zero, q) h = (let i : x ≡ k = cc in none (xs ++ ys) d.0 (subst (λ (v : ℕ). Has v (xs ++ ys)) (sym i) (has_right k xs ys h)))
  where
    none : (zs : List ℕ) → Each (λ m. ¬ (x ≡ m)) zs → Has x zs → ⊥
    none [] e (zero, g) = absurd (cc)
    none [] e (suc m, g) = absurd (cc)
    none (z ∷ zs) e (zero, g) = e.0 (let j : z ≡ x = cc in sym j)
    none (z ∷ zs) e (suc m, g) = none zs e.1 (m, g)
apart (x ∷ xs) ys k d (suc m, q) h = apart xs ys k d.1 (m, q) h

-- the sessions that were released are those of the links that ended
pub freed_over : (t : Terms) → 0 < t.worker_num → IsFit t.framing → (n : ℕ) → n < t.reactor_num → (s : Table) (got : TableGot Message) (d : Diary) (word : ℕ → ℕ) → AllTold word d.dids → Behind t s got d → IsFair t n d.took → firsts (collect free_in d.dids) ≡ collect session_over s.over
freed_over t some fit n lt s got d word told b fair =
    (let w : RunWith t word b.took b.pushed s d.dids = b.ran.runs word told in
    let l : Listed b.took (all s) s.over = runs_listed t (AimOf t) (EndOf t) (mode_laws t) word some (fit_grows t fit) n lt b.took b.pushed s w.run (call_fair t n s b.took b.pushed d.took d.pushed got b.call fair) in
    ap firsts (w.frees ∙ sym (freed_is t word b.took b.pushed s w.run)) ∙ firsts_freed s.over l.ended)

-- of the connection that is served: it is numbered, and stands in its word
pub record Served (t : Terms) (words : ℕ → ℕ × ℕ) (s : Table) : Type 0 where
  pub number : (c : Conn) (cs : List Conn) → s.next ≡ c ∷ cs → ¬ (c.session ≡ 0)
  pub stands : (c : Conn) (cs : List Conn) → s.next ≡ c ∷ cs → (words (c.session % t.max_conn)).0 ≡ c.session

each_number : (xs : List ℕ) (k : ℕ) → Each (λ s. (¬ (s ≡ 0)) × (s < 2 ^ 32)) xs → Has k xs → ¬ (k ≡ 0)
each_number [] k h (zero, q) = absurd (cc)
each_number [] k h (suc m, q) = absurd (cc)
each_number (x ∷ xs) k h (zero, q) = (let i : x ≡ k = cc in subst (λ (v : ℕ). ¬ (v ≡ 0)) i h.0.0)
each_number (x ∷ xs) k h (suc m, q) = each_number xs k h.1 (m, q)

pub behind_served : (t : Terms) → 0 < t.worker_num → IsFit t.framing → (n : ℕ) → n < t.reactor_num → (words : ℕ → ℕ × ℕ) (s : Table) (got : TableGot Message) (d : Diary) → HasWord d.dids → Behind t s got d → IsFair t n d.took → Each (λ k. (¬ (k ≡ 0)) × (k < 2 ^ 32)) (collect fresh_in (bare d.took)) → ((k : ℕ) → Has k (collect fresh_in (bare d.took)) → ¬ Has k (firsts (collect free_in d.dids)) → (words (k % t.max_conn)).0 ≡ k) → (starved : Bool) → Served t words (settled t starved got s)
behind_served t some fit n lt words s got d word b fair low there starved =
    record {
      number = λ c cs e. each_number (collect fresh_in (bare d.took)) c.session low (came c cs e);
      stands = λ c cs e. there c.session (came c cs e) (λ has. apart (collect session_in (all now)) (collect session_over now.over) c.session lists.distinct (next_here now c cs e)
          (subst (λ (ls : List LinkRecord). Has c.session (collect session_over ls)) (sym (settled_over t starved got s)) (subst (Has c.session) (freed_over t some fit n lt s got d word.word told b fair) has)));
    }
  where
    now : Table
    now = settled t starved got s

    told : AllTold word.word d.dids
    told = record { found = word.found; freed = word.freed }

    lists : Lists d.took (settled t starved got s)
    lists = settled_lists t some fit n lt s got d word.word told b fair starved

    came : (c : Conn) (cs : List Conn) → (settled t starved got s).next ≡ c ∷ cs → Has c.session (collect fresh_in (bare d.took))
    came c cs e = perm_has c.session lists.came (has_left c.session (collect session_in (all (settled t starved got s))) (collect session_over (settled t starved got s).over) (next_here (settled t starved got s) c cs e))

-- a turn's calls name that connection alone
aim_named : (t : Terms) (a : Answers) (k s : ℕ) (ds : List Did) → 0 < t.worker_num → ¬ (s ≡ 0) → AimCalls t a k s ds → Each (IsNamed t) ds
aim_named t a k s ds some ns c = pick (keeps t.mode) (t.mode == 5) (t.mode == 3) c
  where
    pick : (x y z : Bool) → MatchBool x (NoCalls a ds) (MatchBool y (LookCalls a s ds) (MatchBool z (IdleCalls t a k ds) (NoCalls a ds))) → Each (IsNamed t) ds
    pick true y z h = subst (Each (IsNamed t)) (sym h.1) tt
    pick false true z (x, (e, q)) = subst (Each (IsNamed t)) (sym q) (ns, tt)
    pick false false true h = subst (Each (IsNamed t)) (sym h.1) (mod-lt k some, tt)
    pick false false false h = subst (Each (IsNamed t)) (sym h.1) tt

does_named : (t : Terms) (a : Answers) (k s : ℕ) (held : Option (ℕ × Event)) (o : Does) (ds : List Did) → 0 < t.worker_num → ¬ (s ≡ 0) → DoesCalls t a k s held o ds → Each (IsNamed t) ds
does_named t a k s None (Pushes w e) ds some ns c = aim_named t a k s ds some ns c
does_named t a k s (Some h) (Pushes w e) ds some ns c = subst (Each (IsNamed t)) (sym c.1) tt
does_named t a k s held Moves ds some ns c = subst (Each (IsNamed t)) (sym c.1) tt
does_named t a k s held Stays ds some ns c = subst (Each (IsNamed t)) (sym c.1) tt
does_named t a k s held (Leaves e) ds some ns c = subst (Each (IsNamed t)) (sym c.1) (ns, (tt, tt))

next_named : (t : Terms) (words : ℕ → ℕ × ℕ) (a : Answers) (s : Table) (next : List Conn) (ds : List Did) → 0 < t.worker_num → s.next ≡ next → Served t words s → NextCalls t a s.round next ds → Each (IsNamed t) ds
next_named t words a s [] ds some e v c = subst (Each (IsNamed t)) (sym c.1) tt
next_named t words a s (d ∷ es) ds some e v c = does_named t a s.round d.session (tidied a d).held (serve t a s.round d).does ds some (v.number d es e) c

choice_named : (t : Terms) (words : ℕ → ℕ × ℕ) (a : Answers) (ask : Ask) (s : Table) (ds : List Did) → 0 < t.worker_num → Served t words s → ChoiceCalls t a ask s ds → Each (IsNamed t) ds
choice_named t words a Take s ds some v c = next_named t words a s s.next ds some refl v c
choice_named t words a (Push w m) s ds some v c = subst (Each (IsNamed t)) (sym c.1) (tt, tt)
choice_named t words a Nothing s ds some v c = subst (Each (IsNamed t)) (sym c.1) (tt, tt)
choice_named t words a Rest s ds some v c = subst (Each (IsNamed t)) (sym c.1) (tt, tt)
choice_named t words a Finished s ds some v c = subst (Each (IsNamed t)) (sym c.1) (tt, tt)

counts_named : (t : Terms) (xs : List ℕ) → Each (IsNamed t) (collect counts_packet xs)
counts_named t [] = tt
counts_named t (x ∷ xs) = (tt, counts_named t xs)

pub turn_named : (t : Terms) (words : ℕ → ℕ × ℕ) (a : Answers) (got : TableGot Message) (ask : Ask) (s : Table) (ds : List Did) → 0 < t.worker_num → Served t words s → TurnCalls t a got ask s ds → Each (IsNamed t) ds
turn_named t words a got ask s ds some v (rest, (e, c)) =
    subst (Each (IsNamed t)) (sym e) (each_append (IsNamed t) (packets_counted got ask) rest (counts_named t (counts_in got ask)) (choice_named t words a ask s rest some v c))

-- and it releases that one alone
leaves_one : (q : ℕ → Type 0) (s u : ℕ) (o : Does) → q s → Each q (firsts (leaves_with s u o)) × (length (leaves_with s u o) ≤ 1)
leaves_one q s u (Pushes w e) h = (tt, omega arith)
leaves_one q s u Moves h = (tt, omega arith)
leaves_one q s u Stays h = (tt, omega arith)
leaves_one q s u (Leaves e) h = ((h, tt), omega arith)

first_one : (t : Terms) (words : ℕ → ℕ × ℕ) (a : Answers) (s : Table) (next : List Conn) → s.next ≡ next → Served t words s → Each (λ k. (words (k % t.max_conn)).0 ≡ k) (firsts (at_first (frees t a s.round) next)) × (length (at_first (frees t a s.round) next) ≤ 1)
first_one t words a s [] e v = (tt, omega arith)
first_one t words a s (d ∷ es) e v = leaves_one (λ k. (words (k % t.max_conn)).0 ≡ k) (serve t a s.round d).conn.session a.released (serve t a s.round d).does (subst (λ (k : ℕ). (words (k % t.max_conn)).0 ≡ k) (sym (serve_session t a s.round d)) (v.stands d es e))

served_one : (t : Terms) (words : ℕ → ℕ × ℕ) (a : Answers) (ask : Ask) (s : Table) → Served t words s → Each (λ k. (words (k % t.max_conn)).0 ≡ k) (firsts (at_served (frees t a s.round) ask s.next)) × (length (at_served (frees t a s.round) ask s.next) ≤ 1)
served_one t words a Take s v = first_one t words a s s.next refl v
served_one t words a (Push w m) s v = (tt, omega arith)
served_one t words a Nothing s v = (tt, omega arith)
served_one t words a Rest s v = (tt, omega arith)
served_one t words a Finished s v = (tt, omega arith)

pub turn_frees : (t : Terms) (words : ℕ → ℕ × ℕ) (a : Answers) (got : TableGot Message) (ask : Ask) (s : Table) (ds : List Did) → Served t words s → TurnCalls t a got ask s ds → Each (λ k. (words (k % t.max_conn)).0 ≡ k) (firsts (collect free_in ds)) × (length (collect free_in ds) ≤ 1)
turn_frees t words a got ask s ds v (rest, (e, c)) =
    (let m = turn_made (at_served (frees t a s.round) ask s.next) (stop_at ask a.stop) (counts_in got ask) rest (choice_chose t a ask s rest c) in
    let q = served_one t words a ask s v in
    let z : collect free_in ds ≡ at_served (frees t a s.round) ask s.next = ap (collect free_in) e ∙ m.frees in
    (subst (λ (ps : List (ℕ × ℕ)). Each (λ k. (words (k % t.max_conn)).0 ≡ k) (firsts ps)) (sym z) q.0, subst (λ (ps : List (ℕ × ℕ)). length ps ≤ 1) (sym z) q.1))
