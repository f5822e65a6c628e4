-- What the code chooses is what the table chooses.
use Rattle.std.proofs.Common.{◌≡◌, ℕ, ◌+◌, ◌-◌, ◌*◌, ◌/◌, ◌<◌, ◌≤◌, ◌%◌, ◌^◌, ◌==◌, Bool, true, false, nat_lt, if◌then◌else◌, List, [], ◌∷◌, ◌++◌, length, map, refl, ap, ◌∙◌, sym, subst, append_assoc, append-nil, arith, suc, mod-lt, mod-eq_of_lt}
use Rattle.std.proofs.Math.Nat.{mod-mod, mod_self, add-mul-mod_self_right}
use Rattle.std.proofs.lemmas.Nat.{div-add-mod'}
use Rattle.std.proofs.lemmas.Bool.Decides.{nat_tests}
use Rattle.sw_data.specs.declared.messages.Ask.TheVariants as ask
use Rattle.sw_data.specs.declared.messages.Msg.TheVariants as msgs
use Rattle.sw_data.specs.declared.messages.Target.TheVariants as targets
use Rattle.sw_lists.proofs.Lists.{length_append}
use Rattle.sw_conn.specs.declared.conn.Conn.{Conn}
use Rattle.sw_conn.specs.Conn as conn
use Rattle.sw_record.specs.Terms.{Terms}
use Rattle.sw_past.specs.Messages.{NoMore}
use Rattle.sw_reactor_table.specs.Conn.{Conn as Row}
use Rattle.sw_reactor_table.specs.Conn as table
use Rattle.sw_reactor_table.specs.Reactor.{Reactor as Table, Ask, Take, Push, Rest, Finished, all, each_conn, turned, ends_by}
use Rattle.sw_conn_fits.specs.Shown.{settings}
use Rattle.sw_port_board.specs.declared.board.BoardStep.{BoardStep}
use Rattle.sw_port_board.specs.declared.board.BoardStep.TheVariants as board
use Rattle.sw_reactor.specs.declared.reactor.Asked.{Asked}
use Rattle.sw_reactor.specs.declared.reactor.Asked.TheVariants as asks
use Rattle.sw_reactor.specs.declared.reactor.Reactor.{Reactor}
use Rattle.sw_reactor.specs.Turn.{Asks, Takes, behind_at, ends_ask, ends_asked}
use Rattle.sw_reactor.specs.Leave.{at_left}
use Rattle.sw_reactor_fits.specs.Told.{Telling}
use Rattle.sw_reactor_fits.specs.Fits.{IsRow, AreRows, capped, WasAsked, AsksSame, Same, Fits, Sizes}
use Rattle.sw_reactor_fits.proofs.Rows.{rows_length, rows_append, rows_map}
use Rattle.sw_reactor_fits.proofs.Settled.{row_stops, each_same}

-- a turn's end: the state and what is asked
pub record IsTurn {L K : Type 0} (view : Telling L K) (t : Terms) (q : Reactor L K) (a : Asks L K) (s : Table) : Type 0 where
  pub fits : Fits view t q s
  pub asks : AsksSame s.last a

-- a take
pub takes_is : {L K C : Type 0} (goes : C → List BoardStep → C → Type 0) (view : Telling L K) (t : Terms) (r q : Reactor L K) (s : Table) (o u : C) (a : Asks L K) → Same view t r s → Takes goes r o a q u → (stop : Bool) × (goes o (board.SawStop stop ∷ []) u × IsTurn view t q a (record (if stop then each_conn table.stops s else s) { last = Take }))
takes_is {L} {K} goes view t r q s o u a h (stop, (x, y, z)) = (stop, (x, pick stop z))
  where
    pick : (b : Bool) → q ≡ record r { line = record r.line { conns = (if b then map conn.stops r.line.conns else r.line.conns) }; asked = asks.Take } → IsTurn view t q a (record (if b then each_conn table.stops s else s) { last = Take })
    pick true e =
        (let m : Reactor L K = record r { line = record r.line { conns = map conn.stops r.line.conns } } in
        let k : Same view t m (each_conn table.stops s) = each_same view t r m s table.stops h refl (rows_map view t conn.stops table.stops (λ c d g. row_stops view t c d g) r.line.conns (all s) h.rows) in
        subst (λ (w : Reactor L K). IsTurn view t w a (record (each_conn table.stops s) { last = Take })) (sym e)
        (record { fits = record { same = record { terms = k.terms; framing = k.framing; rows = k.rows; at = k.at; tight = k.tight; empty = k.empty; still = k.still; ends = k.ends; given = k.given; turn = k.turn }; was = refl }; asks = y }))
    pick false e =
        subst (λ (w : Reactor L K). IsTurn view t w a (record s { last = Take })) (sym e)
        (record { fits = record { same = record { terms = h.terms; framing = h.framing; rows = h.rows; at = h.at; tight = h.tight; empty = h.empty; still = h.still; ends = h.ends; given = h.given; turn = h.turn }; was = refl }; asks = y })

-- without a connection
capped_some : (n : ℕ) → nat_lt 0 (capped n) ≡ nat_lt 0 n
capped_some n = pick (nat_lt n (2 ^ 64 - 1)) refl
  where
    pick : (b : Bool) → nat_lt n (2 ^ 64 - 1) ≡ b → nat_lt 0 (if b then n else 2 ^ 64 - 1) ≡ nat_lt 0 n
    pick true e = refl
    pick false e = sym (grind (arith, nat_tests))

capped_is : (n m : ℕ) → m < 2 ^ 64 - 1 → (capped n == m) ≡ (n == m)
capped_is n m lt = pick (nat_lt n (2 ^ 64 - 1)) refl
  where
    pick : (b : Bool) → nat_lt n (2 ^ 64 - 1) ≡ b → ((if b then n else 2 ^ 64 - 1) == m) ≡ (n == m)
    pick true e = refl
    pick false e = left ∙ sym right
      where
        left : ((2 ^ 64 - 1) == m) ≡ false
        left = grind (arith, nat_tests)

        right : (n == m) ≡ false
        right = grind (arith, nat_tests)

few_all : (w k : ℕ) → w < 2 ^ 32 → k < 2 ^ 32 → 1 + w + k < 2 ^ 64 - 1
few_all w k a b = omega (arith, a, b)

pub ends_is : {L K : Type 0} (view : Telling L K) (t : Terms) (r q : Reactor L K) (s : Table) (a : Asks L K) → Sizes t → Same view t r s → a ≡ ends_ask r → q ≡ record r { asked = ends_asked r } → IsTurn view t q a (ends_by t s)
ends_is {L} {K} view t r q s a b h said y = pick (nat_lt 0 s.ends) refl (nat_lt s.given t.worker_num) refl (s.ends == 1 + t.worker_num + t.tasker_num) refl
  where
    first : nat_lt 0 r.ends ≡ nat_lt 0 s.ends
    first = ap (nat_lt 0) h.ends ∙ capped_some s.ends

    second : nat_lt r.given r.terms.worker_num ≡ nat_lt s.given t.worker_num
    second = rw (h.given, h.terms) refl

    third : (r.ends == 1 + r.terms.worker_num + r.terms.tasker_num) ≡ (s.ends == 1 + t.worker_num + t.tasker_num)
    third = rw (h.ends, h.terms) (capped_is s.ends (1 + t.worker_num + t.tasker_num) (few_all t.worker_num t.tasker_num b.few_workers b.few_taskers))

    same : (x : Ask) (k : Asked) → Same view t (record r { asked = k }) (record s { last = x })
    same x k = record { terms = h.terms; framing = h.framing; rows = h.rows; at = h.at; tight = h.tight; empty = h.empty; still = h.still; ends = h.ends; given = h.given; turn = h.turn }

    turn : (x : Ask) (k : Asked) (c : Asks L K) → ends_asked r ≡ k → ends_ask r ≡ c → WasAsked t s.given x k → AsksSame x c → IsTurn view t q a (record s { last = x })
    turn x k c e f was tells =
        subst (λ (w : Reactor L K). IsTurn view t w a (record s { last = x })) (sym (y ∙ ap (λ (z : Asked). let m : Reactor L K = record r { asked = z } in m) e))
        (record { fits = record { same = same x k; was = was }; asks = subst (AsksSame x) (sym (said ∙ f)) tells })

    lt : (m n : ℕ) → nat_lt m n ≡ true → m < n
    lt m n e = grind (arith, nat_tests)

    pick : (x1 : Bool) → nat_lt 0 s.ends ≡ x1 → (y1 : Bool) → nat_lt s.given t.worker_num ≡ y1 → (z1 : Bool) → (s.ends == 1 + t.worker_num + t.tasker_num) ≡ z1 → IsTurn view t q a (if x1 then (if y1 then record s { last = Push s.given NoMore } else (if z1 then record s { last = Finished } else record s { last = Rest })) else record s { last = Rest })
    pick true e true f z1 g = turn (Push s.given NoMore) asks.NoMore (ask.Push (targets.Worker s.given) msgs.NoMore) (rw (first, e, second, f) refl) (rw (first, e, second, f, h.given) refl) (refl, refl, lt s.given t.worker_num f) refl
    pick true e false f true g = turn Finished asks.Nothing ask.Finished (rw (first, e, second, f) refl) (rw (first, e, second, f, third, g) refl) refl refl
    pick true e false f false g = turn Rest asks.Nothing ask.Rest (rw (first, e, second, f) refl) (rw (first, e, second, f, third, g) refl) refl refl
    pick false e y1 f z1 g = turn Rest asks.Nothing ask.Rest (rw (first, e) refl) (rw (first, e) refl) refl refl

-- places
behind_last : {X : Type 0} (xs : List X) (z : X) → behind_at (length xs) (length (xs ++ z ∷ [])) ≡ 0
behind_last xs z = ap (λ (b : Bool). if b then length xs + 1 else 0) (let e : length (xs ++ z ∷ []) ≡ length xs + 1 = length_append xs (z ∷ []) in ap (nat_lt (length xs + 1)) e ∙ same (length xs + 1))
  where
    same : (n : ℕ) → nat_lt n n ≡ false
    same n = grind (arith, nat_tests)

behind_more : {X : Type 0} (xs : List X) (z y : X) (ys : List X) → behind_at (length xs) (length (xs ++ z ∷ y ∷ ys)) ≡ length xs + 1
behind_more xs z y ys = ap (λ (b : Bool). if b then length xs + 1 else 0) (more (length xs + 1) (length (xs ++ z ∷ y ∷ ys)) (let e : length (xs ++ z ∷ y ∷ ys) ≡ length xs + suc (suc (length ys)) = length_append xs (z ∷ y ∷ ys) in omega arith))
  where
    more : (m n : ℕ) → m < n → nat_lt m n ≡ true
    more m n lt = grind (arith, nat_tests)

-- a served connection in its place
pub record Here {L K : Type 0} (t : Terms) (q : Reactor L K) (s : Table) (before : List (Conn L K)) (one : Conn L K) (behind : List (Conn L K)) (still n : ℕ) : Type 0 where
  pub terms : q.terms ≡ settings t
  pub framing : q.framing ≡ t.framing
  pub conns : q.line.conns ≡ before ++ one ∷ behind
  pub at : q.at ≡ behind_at (length before) (length (before ++ one ∷ behind))
  pub empty : q.empty ≡ s.empty
  pub still_is : q.still ≡ capped still
  pub ends : q.ends ≡ capped s.ends
  pub given : q.given ≡ s.given
  pub turn : q.turn ≡ n % t.worker_num

pub placed : {L K : Type 0} (view : Telling L K) (t : Terms) (q : Reactor L K) (s : Table) (before : List (Conn L K)) (one : Conn L K) (behind : List (Conn L K)) (x : Row) (es : List Row) (last : Ask) (still n : ℕ) → Here t q s before one behind still n → AreRows view t before s.done → IsRow view t one x → AreRows view t behind es → Same view t q (record (turned (s.done ++ x ∷ []) es (record s { round = n })) { last = last; still = still })
placed {L} {K} view t q s before one [] x [] last still n h pre row post =
    record {
      terms = h.terms;
      framing = h.framing;
      rows = subst (λ (zs : List (Conn L K)). AreRows view t zs (s.done ++ x ∷ [])) (sym h.conns) (rows_append view t before (one ∷ []) s.done (x ∷ []) pre (row, tt));
      at = h.at ∙ behind_last before one;
      tight = λ z. refl;
      empty = h.empty;
      still = h.still_is;
      ends = h.ends;
      given = h.given;
      turn = h.turn;
    }
placed view t q s before one (c ∷ cs) x [] last still n h pre row post = absurd post
placed view t q s before one [] x (e ∷ es) last still n h pre row post = absurd post
placed {L} {K} view t q s before one (c ∷ cs) x (e ∷ es) last still n h pre row post =
    record {
      terms = h.terms;
      framing = h.framing;
      rows = subst (AreRows view t q.line.conns) (sym (append_assoc s.done (x ∷ []) (e ∷ es))) (subst (λ (zs : List (Conn L K)). AreRows view t zs (s.done ++ x ∷ e ∷ es)) (sym h.conns) (rows_append view t before (one ∷ c ∷ cs) s.done (x ∷ e ∷ es) pre (row, post)));
      at = h.at ∙ behind_more before one c cs ∙ ap (λ (m : ℕ). m + 1) (rows_length view t before s.done pre) ∙ sym (length_append s.done (x ∷ []));
      tight = λ z. absurd (cc);
      empty = h.empty;
      still = h.still_is;
      ends = h.ends;
      given = h.given;
      turn = h.turn;
    }

-- one that left
pub left_last : {X : Type 0} (xs : List X) → at_left (length xs) (length (xs ++ [])) ≡ 0
left_last xs = ap (λ (b : Bool). if b then length xs else 0) (let e : length (xs ++ []) ≡ length xs = ap length (append-nil xs) in ap (nat_lt (length xs)) e ∙ same (length xs))
  where
    same : (n : ℕ) → nat_lt n n ≡ false
    same n = grind (arith, nat_tests)

pub left_more : {X : Type 0} (xs : List X) (y : X) (ys : List X) → at_left (length xs) (length (xs ++ y ∷ ys)) ≡ length xs
left_more xs y ys = ap (λ (b : Bool). if b then length xs else 0) (more (length xs) (length (xs ++ y ∷ ys)) (let e : length (xs ++ y ∷ ys) ≡ length xs + suc (length ys) = length_append xs (y ∷ ys) in omega arith))
  where
    more : (m n : ℕ) → m < n → nat_lt m n ≡ true
    more m n lt = grind (arith, nat_tests)

-- the turn of a worker moves on
pub next_mod : (w n : ℕ) → 0 < w → (n + 1) % w ≡ (if nat_lt ((n % w) % w + 1) w then (n % w) % w + 1 else 0)
next_mod w n some = shift ∙ pick (nat_lt ((n % w) % w + 1) w) refl
  where
    twice : (n % w) % w ≡ n % w
    twice = mod-mod n w

    shift : (n + 1) % w ≡ (n % w + 1) % w
    shift = ap (λ (k : ℕ). k % w) (let e : n / w * w + n % w ≡ n = div-add-mod' n w in let f : n + 1 ≡ (n % w + 1) + n / w * w = omega arith in f) ∙ add-mul-mod_self_right (n % w + 1) (n / w) w

    less : (m k : ℕ) → nat_lt m k ≡ true → m < k
    less m k e = grind (arith, nat_tests)

    not : (m k : ℕ) → nat_lt m k ≡ false → k ≤ m
    not m k e = grind (arith, nat_tests)

    pick : (b : Bool) → nat_lt ((n % w) % w + 1) w ≡ b → (n % w + 1) % w ≡ (if b then (n % w) % w + 1 else 0)
    pick true e = mod-eq_of_lt (subst (λ (k : ℕ). k + 1 < w) twice (less ((n % w) % w + 1) w e)) ∙ ap (λ (k : ℕ). k + 1) (sym twice)
    pick false e = (let a : n % w < w = mod-lt n some in let c : w ≤ n % w + 1 = subst (λ (k : ℕ). w ≤ k + 1) twice (not ((n % w) % w + 1) w e) in let d : n % w + 1 ≡ w = omega arith in ap (λ (k : ℕ). k % w) d ∙ mod_self w)
