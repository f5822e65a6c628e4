-- The calls of a turn have the answers of the world's ports, and leave book and board as these are left.
use Rattle.std.proofs.Common.{◌≡◌, ◌⊎◌, ℕ, ◌+◌, ◌<◌, ◌≤◌, ◌%◌, nat_lt, Bool, true, false, if◌then◌else◌, List, [], ◌∷◌, ◌++◌, length, Option, Some, None, refl, ap, ◌∙◌, sym, subst, arith, suc, mod-lt}
use Rattle.std.proofs.lemmas.Bool.Decides.{nat_tests}
use Rattle.sw_data.specs.declared.ended.Ended.{Ended}
use Rattle.sw_lists.specs.Lists.{collect, Each}
use Rattle.sw_link.specs.declared.memory_link.MemoryLink.{MemoryLink}
use Rattle.sw_port_board.specs.Board.{FindsIdle, found_busy}
use Rattle.sw_port_board.specs.declared.board.BoardStep.TheVariants.{Found, SawStop, Added}
use Rattle.sw_port_board.specs.PlainBoard.{PlainWords, PlainGoes}
use Rattle.sw_port_board.specs.declared.crew.Crew.TheVariants.{Workers}
use Rattle.sw_port_book.specs.Plain.{Words, word_in, word_of, with_word, free}
use Rattle.sw_port_book.specs.Answers.{look_answer}
use Rattle.sw_port_book.specs.declared.answers.Look.{Look}
use Rattle.sw_port_book.specs.declared.answers.Look.TheVariants as looking
use Rattle.sw_step.specs.declared.actor.ActorId.{ActorId}
use Rattle.sw_step.specs.declared.actor.ActorId.TheVariants.{Reactor}
use Rattle.sw_step.specs.Actors.{is}
use Rattle.sw_record.specs.Counts.{greatest}
use Rattle.sw_record.specs.Words.{Counter}
use Rattle.sw_record.specs.Terms.{Terms}
use Rattle.sw_record.specs.Places.{Ran}
use Rattle.sw_world_ports.specs.Calls.{Seen, Did, Accepts, NoLink, NetOver, Looks, Binds, Frees, Marks, Idles, Stops, SeesStop, Adds, Sums, Tables, TableRefuses}
use Rattle.sw_world_ports.specs.Made.{free_in, firsts, same_counter}
use Rattle.sw_world_ports.specs.Ports.{Ports, set, added, Answers, AllAnswer, ported, all_ported}
use Rattle.sw_world_fits.specs.Book.{BookStands}
use Rattle.sw_world_fits.specs.Book as book
use Rattle.sw_world_fits.specs.Board.{number_of, BoardStands}
use Rattle.sw_world_fits.proofs.Book.{look_fits, release_fits}
use Rattle.sw_world_fits.proofs.Board.{stopped_fits, add_fits, idle_fits}
use Rattle.sw_reactor_fits.specs.Ports.{seen_of, DidsGo}
use Rattle.sw_world_reactor_fits.specs.Plain.{plain_ports}
use Rattle.sw_world_reactor_fits.proofs.Links.{goes_turn}

-- a session that is looked at or released is a number, and an idle worker is looked for from one that is there
abbrev pub IsNamed : Terms → Did → Type 0
IsNamed t (Looks s x) = ¬ (s ≡ 0)
IsNamed t (Frees s u) = ¬ (s ≡ 0)
IsNamed t (Idles c k x) = k < t.worker_num
IsNamed t _ = Unit {0}

seen_same : (look : Look) → seen_of look ≡ book.seen_of look
seen_same (looking.Live u) = refl
seen_same (looking.Other n) = refl

-- other words, and other counts
board_words : (t : Terms) (o : PlainWords) (p : Ports) (w : ℕ → ℕ × ℕ) → BoardStands t o p → BoardStands t o (record p { words = w })
board_words t o p w st = record { workers = st.workers; taskers = st.taskers; actors = st.actors; marks = st.marks; words = st.words; stopped = st.stopped; worker = st.worker; tasker = st.tasker; counts = st.counts }

book_counts : (t : Terms) (b : Words) (p : Ports) (c : Counter → ActorId → ℕ) → BookStands t b p → BookStands t b (record p { counts = c })
book_counts t b p c st = record { slots = st.slots; last = st.last }

below : (m n : ℕ) → nat_lt m n ≡ true → m < n
below m n e = grind (arith, nat_tests)

added_few : (p : Ports) (y : ActorId) (c : Counter) → ((k : Counter) (z : ActorId) → p.counts k z ≤ greatest) → (k : Counter) (z : ActorId) → (if same_counter k c then (if is z y then (if nat_lt (p.counts k z) greatest then p.counts k z + 1 else p.counts k z) else p.counts k z) else p.counts k z) ≤ greatest
added_few p y c h k z = pick (same_counter k c) (is z y) (nat_lt (p.counts k z) greatest) refl
  where
    pick : (a b d : Bool) → nat_lt (p.counts k z) greatest ≡ d → (if a then (if b then (if d then p.counts k z + 1 else p.counts k z) else p.counts k z) else p.counts k z) ≤ greatest
    pick false b d e = h k z
    pick true false d e = h k z
    pick true true false e = h k z
    pick true true true e = (let a : p.counts k z < greatest = below (p.counts k z) greatest e in omega (arith, a))

-- the number in a session's word
word_number : (t : Terms) (b : Words) (p : Ports) → BookStands t b p → 1 ≤ t.max_conn → (s : ℕ) → (word_of b s).number ≡ (p.words (s % t.max_conn)).0
word_number t b p st some s =
    ap (λ (k : ℕ). (word_in b (s % k)).number) st.slots.size
    ∙ sym (ap (λ (w : ℕ × ℕ). w.0) (st.slots.each (s % t.max_conn) (mod-lt s (omega (arith, some)))))

-- what stands after calls
pub record Answered (t : Terms) (legal : List Ran → Type 0) (p : Ports) (n : ℕ) (ds : List Did) (b : Words) (o u : PlainWords) : Type 0 where
  pub answers : AllAnswer t legal p (Reactor n) ds
  pub book : BookStands t b (all_ported t p (Reactor n) ds)
  pub board : BoardStands t u (all_ported t p (Reactor n) ds)
  pub turn : u.turn ≡ o.turn

first_answered : (t : Terms) (legal : List Ran → Type 0) (p : Ports) (n : ℕ) (d : Did) (ds : List Did) (b : Words) (o o1 u : PlainWords) → Answers t legal p (Reactor n) d → o1.turn ≡ o.turn → Answered t legal (ported t p (Reactor n) d) n ds b o1 u → Answered t legal p n (d ∷ ds) b o u
first_answered t legal p n d ds b o o1 u ans e r = record { answers = (ans, r.answers); book = r.book; board = r.board; turn = r.turn ∙ e }

none_freed : (ds : List Did) (q : ℕ → Type 0) → length (collect free_in ds) ≡ 0 → Each q (firsts (collect free_in ds))
none_freed ds q e = subst (λ (zs : List (ℕ × ℕ)). Each q (firsts zs)) (sym (empty (collect free_in ds) e)) tt
  where
    empty : (zs : List (ℕ × ℕ)) → length zs ≡ 0 → zs ≡ []
    empty [] h = refl
    empty (z ∷ zs) h = absurd (cc)

pub dids_answer : {E : Type 0} (puts : E → MemoryLink → Ended → Bool → E → Type 0) (t : Terms) (legal : List Ran → Type 0) (n : ℕ) → n < t.reactor_num → 1 ≤ t.max_conn → (ds : List Did) (p : Ports) (b b2 : Words) (o o2 : PlainWords) → BookStands t b p → BoardStands t o p → o.turn ≡ number_of t (Reactor n) → ((k : Counter) (z : ActorId) → p.counts k z ≤ greatest) → Each (IsNamed t) ds → Each (λ s. (p.words (s % t.max_conn)).0 ≡ s) (firsts (collect free_in ds)) → length (collect free_in ds) ≤ 1 → DidsGo (plain_ports puts) ds b o b2 o2 → Answered t legal p n ds b2 o o2
dids_answer puts t legal n lt some [] p b b2 o o2 sb so turn few named there one (e, f) =
    record { answers = tt; book = subst (λ (w : Words). BookStands t w p) (sym e) sb; board = subst (λ (w : PlainWords). BoardStands t w p) (sym f) so; turn = ap (λ (w : PlainWords). w.turn) f }
dids_answer puts t legal n lt some (Looks s x ∷ ds) p b b2 o o2 sb so turn few named there one (b1, (o1, ((look, ((found, (w_is, b_is), ans), seen, o_is)), rest))) =
    first_answered t legal p n (Looks s x) ds b2 o o1 o2
    (subst (λ (k : Seen). Answers t legal p (Reactor n) (Looks s k)) (sym (ap book.seen_of (ans ∙ ap (look_answer s) w_is)) ∙ sym (seen_same look) ∙ seen) (look_fits t legal (Reactor n) b p sb some s named.0))
    (ap (λ (w : PlainWords). w.turn) o_is)
    (dids_answer puts t legal n lt some ds p b1 b2 o1 o2 (subst (λ (w : Words). BookStands t w p) (sym b_is) sb) (subst (λ (w : PlainWords). BoardStands t w p) (sym o_is) so) (ap (λ (w : PlainWords). w.turn) o_is ∙ turn) few named.1 there one rest)
dids_answer puts t legal n lt some (Frees s v ∷ ds) p b b2 o o2 sb so turn few named there one (b1, (o1, ((k, (k_is, (v_is, b_is), o_is)), rest))) =
    (let own : (word_of b s).number ≡ s = word_number t b p sb some s ∙ there.0 in
    let f = release_fits t legal (Reactor n) b p sb some s named.0 own in
    let v_same : (word_of b s).uid ≡ v = sym (v_is ∙ ap (λ (j : ℕ). (word_of b j).uid) k_is) in
    let after : BookStands t b1 (ported t p (Reactor n) (Frees s v)) = subst (λ (w : Words). BookStands t w (ported t p (Reactor n) (Frees s v))) (sym (b_is ∙ ap (λ (j : ℕ). with_word b j free) k_is)) (record { slots = f.1.slots; last = f.1.last }) in
    let left : length (collect free_in ds) ≡ 0 = (let q : suc (length (collect free_in ds)) ≤ 1 = one in omega (arith, q)) in
    first_answered t legal p n (Frees s v) ds b2 o o1 o2
    (subst (λ (j : ℕ). Answers t legal p (Reactor n) (Frees s j)) v_same f.0)
    (ap (λ (w : PlainWords). w.turn) o_is)
    (dids_answer puts t legal n lt some ds (ported t p (Reactor n) (Frees s v)) b1 b2 o1 o2 after
    (subst (λ (w : PlainWords). BoardStands t w (ported t p (Reactor n) (Frees s v))) (sym o_is) (board_words t o p (set p.words (s % t.max_conn) (0, 0)) so))
    (ap (λ (w : PlainWords). w.turn) o_is ∙ turn) few named.1 (none_freed ds (λ r. ((ported t p (Reactor n) (Frees s v)).words (r % t.max_conn)).0 ≡ r) left) (omega (arith, left)) rest))
dids_answer puts t legal n lt some (Idles false k x ∷ ds) p b b2 o o2 sb so turn few named there one (b1, (o1, ((finds, b_is), rest))) =
    (let f = idle_fits t legal o o1 p (Reactor n) Workers k x so (subst (λ (w : ℕ). k < w) (sym so.workers) named.0) finds in
    let e : o1.turn ≡ o.turn = found_turn k x o o1 finds in
    first_answered t legal p n (Idles false k x) ds b2 o o1 o2 f.0 e
    (dids_answer puts t legal n lt some ds p b1 b2 o1 o2 (subst (λ (w : Words). BookStands t w p) (sym b_is) sb) f.1 (e ∙ turn) few named.1 there one rest))
  where
    found_turn : (k : ℕ) (x : Option ℕ) (b d : PlainWords) → FindsIdle PlainGoes b.sizes Workers k b x d → d.turn ≡ b.turn
    found_turn k None b d z = goes_turn (found_busy 0 b.sizes.workers k b.sizes.workers) b d z
    found_turn k (Some j) b d (m, less, same, z) = goes_turn (found_busy 0 b.sizes.workers k m ++ Found (0 + j) true ∷ []) b d z
dids_answer puts t legal n lt some (Idles true k x ∷ ds) p b b2 o o2 sb so turn few named there one (b1, (o1, (z, rest))) = absurd z
dids_answer puts t legal n lt some (SeesStop v ∷ ds) p b b2 o o2 sb so turn few named there one (b1, (o1, ((goes, b_is), rest))) =
    (let f = stopped_fits t legal o o1 p (Reactor n) v so goes in
    let e : o1.turn ≡ o.turn = goes_turn (SawStop v ∷ []) o o1 goes in
    first_answered t legal p n (SeesStop v) ds b2 o o1 o2 f.0 e
    (dids_answer puts t legal n lt some ds p b1 b2 o1 o2 (subst (λ (w : Words). BookStands t w p) (sym b_is) sb) f.1 (e ∙ turn) few named.1 there one rest))
dids_answer puts t legal n lt some (Adds c ∷ ds) p b b2 o o2 sb so turn few named there one (b1, (o1, ((goes, b_is), rest))) =
    (let e : o1.turn ≡ o.turn = goes_turn (Added c ∷ []) o o1 goes in
    first_answered t legal p n (Adds c) ds b2 o o1 o2 tt e
    (dids_answer puts t legal n lt some ds (ported t p (Reactor n) (Adds c)) b1 b2 o1 o2 (subst (λ (w : Words). BookStands t w (ported t p (Reactor n) (Adds c))) (sym b_is) (book_counts t b p (added p.counts (Reactor n) c) sb)) (add_fits t o o1 p (Reactor n) c so lt turn few goes) (e ∙ turn) (added_few p (Reactor n) c few) named.1 there one rest))
dids_answer puts t legal n lt some (Accepts ip c ∷ ds) p b b2 o o2 sb so turn few named there one (b1, (o1, (z, rest))) = absurd z
dids_answer puts t legal n lt some (NoLink ∷ ds) p b b2 o o2 sb so turn few named there one (b1, (o1, (z, rest))) = absurd z
dids_answer puts t legal n lt some (NetOver ∷ ds) p b b2 o o2 sb so turn few named there one (b1, (o1, (z, rest))) = absurd z
dids_answer puts t legal n lt some (Binds s v x ∷ ds) p b b2 o o2 sb so turn few named there one (b1, (o1, (z, rest))) = absurd z
dids_answer puts t legal n lt some (Marks v ∷ ds) p b b2 o o2 sb so turn few named there one (b1, (o1, (z, rest))) = absurd z
dids_answer puts t legal n lt some (Stops ∷ ds) p b b2 o o2 sb so turn few named there one (b1, (o1, (z, rest))) = absurd z
dids_answer puts t legal n lt some (Sums c k ∷ ds) p b b2 o o2 sb so turn few named there one (b1, (o1, (z, rest))) = absurd z
dids_answer puts t legal n lt some (Tables at x ∷ ds) p b b2 o o2 sb so turn few named there one (b1, (o1, (z, rest))) = absurd z
dids_answer puts t legal n lt some (TableRefuses c fault ∷ ds) p b b2 o o2 sb so turn few named there one (b1, (o1, (z, rest))) = absurd z
