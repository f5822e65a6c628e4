-- THE BRIDGE: a turn of the reactor's code over plain ports is a turn of the world's reactor.
use Rattle.std.proofs.Common.{◌≡◌, ◌⊎◌, ℕ, ◌+◌, ◌<◌, ◌≤◌, ◌%◌, ◌^◌, Bool, true, false, List, [], ◌∷◌, ◌++◌, length, Option, Some, None, refl, ap, ◌∙◌, sym, subst, arith, inl, inr}
use Rattle.sw_data.specs.declared.ended.Ended.{Ended}
use Rattle.sw_data.specs.declared.messages.Got.{Got as CodeGot, Got as TableGot}
use Rattle.sw_data.specs.declared.messages.Got.TheVariants as gots
use Rattle.sw_data.specs.declared.messages.Msg.{Msg}
use Rattle.sw_frame.specs.Cut.{IsFit}
use Rattle.sw_lists.specs.Lists.{collect, Each, Has}
use Rattle.sw_link.specs.declared.memory_link.MemoryLink.{MemoryLink}
use Rattle.sw_port_board.specs.PlainBoard.{PlainWords}
use Rattle.sw_port_book.specs.Plain.{Words}
use Rattle.sw_record.specs.declared.record.LinkRecord.{LinkRecord}
use Rattle.sw_record.specs.Terms.{Terms}
use Rattle.sw_record.specs.Places.{Ran}
use Rattle.sw_past.specs.Messages.{Message, FreshMsg, SendMsg, CloseMsg, ResetMsg, Bye, EventMsg, OverMsg, NoMore}
use Rattle.sw_past.specs.Past.{bare}
use Rattle.sw_past.specs.Views.{fresh_in}
use Rattle.sw_past.specs.Routes.{IsFair}
use Rattle.sw_world_ports.specs.Made.{free_in, firsts}
use Rattle.sw_world_ports.specs.Ports.{Ports}
use Rattle.sw_world_laws.specs.Turns.{Diary}
use Rattle.sw_world_laws.specs.Shows.{HasWord}
use Rattle.sw_reactor_table.specs.Reactor.{Reactor as Table, Ask as TableAsk, Take, Push, Nothing, Rest, Finished, settled, turn, started}
use Rattle.sw_reactor_laws.specs.Bounds.{InBounds}
use Rattle.sw_reactor.specs.declared.reactor.Reactor.{Reactor}
use Rattle.sw_reactor.specs.Turn.{Asks}
use Rattle.sw_reactor.specs.Serving.{Turns}
use Rattle.sw_reactor_fits.specs.Told.{BringsNew, IsEndOf}
use Rattle.sw_reactor_fits.specs.Fits.{Fits, Sizes, Bounds, AsksPush, AsksSame}
use Rattle.sw_reactor_fits.specs.Fits as code
use Rattle.sw_reactor_fits.specs.Ports.{EndsGo, AreSound, IsTheTables}
use Rattle.sw_reactor_fits.proofs.Turning.{turns_is}
use Rattle.sw_reactor_fits.proofs.Running.{turn_of_run}
use Rattle.sw_world_reactor.specs.Calls.{TurnCalls}
use Rattle.sw_world_reactor.specs.Reactors.{table_got, world_ask, AllTold, Behind, QuietBy}
use Rattle.sw_world_reactor_fits.specs.Plain.{itself, memory_tells, plain_ports, got_of, ask_of, AreEnds}
use Rattle.sw_world_reactor_fits.specs.Turns.{Before, TurnIs}
use Rattle.sw_world_reactor_fits.proofs.Links.{memory_does, plain_sound}
use Rattle.sw_world_reactor_fits.proofs.Answers.{Answered, dids_answer}
use Rattle.sw_world_reactor_fits.proofs.Facts.{settled_lists, few_conns, Served, behind_served, turn_named, turn_frees}

-- the words for what a turn begins with
got_same : (got : CodeGot (Msg MemoryLink ℕ)) → code.got_of itself got ≡ table_got (got_of got)
got_same gots.Start = refl
got_same (gots.Took m) = refl
got_same gots.Empty = refl
got_same gots.Pushed = refl
got_same (gots.Full m) = refl
got_same gots.Nothing = refl

-- and for what it asks
push_same : (w : ℕ) (m : Message) (a : Asks MemoryLink ℕ) → AsksPush w m a → ask_of a ≡ world_ask (Push w m)
push_same w (EventMsg e) a h = ap ask_of h
push_same w NoMore a h = ap ask_of h
push_same w (FreshMsg ip s) a h = absurd h
push_same w (SendMsg s b) a h = absurd h
push_same w (CloseMsg s) a h = absurd h
push_same w (ResetMsg s) a h = absurd h
push_same w (Bye s) a h = absurd h
push_same w (OverMsg id) a h = absurd h

ask_same : (l : TableAsk) (a : Asks MemoryLink ℕ) → AsksSame l a → ask_of a ≡ world_ask l
ask_same Take a h = ap ask_of h
ask_same (Push w m) a h = push_same w m a h
ask_same Nothing a h = ap ask_of h
ask_same Rest a h = ap ask_of h
ask_same Finished a h = ap ask_of h

-- one more end
ends_more : (xs : List (MemoryLink × Ended)) (ks : List LinkRecord) (x : MemoryLink × Ended) (k : LinkRecord) → AreEnds xs ks → IsEndOf memory_tells x k → AreEnds (xs ++ (x.0, x.1) ∷ []) (ks ++ k ∷ [])
ends_more [] [] x k h e = (e, tt)
ends_more [] (y ∷ ks) x k h e = absurd h
ends_more (y ∷ xs) [] x k h e = absurd h
ends_more (y ∷ xs) (z ∷ ks) x k h e = (h.0, ends_more xs ks x k h.1 e)

ends_then : {E : Type 0} (puts : E → MemoryLink → Ended → Bool → E → Type 0) (kept_of : E → List (MemoryLink × Ended)) (e f : E) → ((l : MemoryLink) (ended : Ended) (kept : Bool) (g : E) → puts e l ended kept g → (kept ≡ true) × (kept_of g ≡ kept_of e ++ (l, ended) ∷ [])) → (over more : List LinkRecord) → EndsGo memory_tells (plain_ports puts) over e more f → AreEnds (kept_of e) over → AreEnds (kept_of f) more
ends_then {E} puts kept_of e f keeps over more (inl (same, stays)) h = subst (λ (ks : List LinkRecord). AreEnds (kept_of f) ks) (sym same) (subst (λ (g : E). AreEnds (kept_of g) over) (sym stays) h)
ends_then puts kept_of e f keeps over more (inr (x, (k, (is, one, put)))) h =
    subst (λ (ks : List LinkRecord). AreEnds (kept_of f) ks) (sym is)
    (subst (λ (xs : List (MemoryLink × Ended)). AreEnds xs (over ++ k ∷ [])) (sym (keeps x.0 x.1 true f put).1) (ends_more (kept_of e) over x k h one))

-- the first turn
start_bounds : (t : Terms) → Bounds t started
start_bounds t = record { few = omega arith; own = λ a d es idle e w x f. absurd (cc) }

start_in : InBounds started
start_in = record { distinct = tt; notes = tt }

-- a turn by what it begins with: it is the table's, and its next connection is known
record Goes {E : Type 0} (puts : E → MemoryLink → Ended → Bool → E → Type 0) (t : Terms) (p : Ports) (s : Table) (got : CodeGot (Msg MemoryLink ℕ)) (b : Words) (o : PlainWords) (e : E) (q : Reactor MemoryLink ℕ) (a : Asks MemoryLink ℕ) (b2 : Words) (o2 : PlainWords) (f : E) : Type 0 where
  is : IsTheTables memory_tells t (plain_ports puts) s (code.got_of itself got) b o e q a b2 o2 f
  next : (starved : Bool) → Served t p.words (settled t starved (code.got_of itself got) s)

start_goes : {E : Type 0} (puts : E → MemoryLink → Ended → Bool → E → Type 0) (t : Terms) (p : Ports) (r q : Reactor MemoryLink ℕ) (a : Asks MemoryLink ℕ) (b b2 : Words) (o o2 : PlainWords) (e f : E) → AreSound t (plain_ports puts) o e → Sizes t → Fits memory_tells t r started → Turns (plain_ports puts) r gots.Start b o e a q b2 o2 f → Goes puts t p started gots.Start b o e q a b2 o2 f
start_goes puts t p r q a b b2 o o2 e f sound sizes fits z =
    record {
      is = turns_is memory_tells (plain_ports puts) t (λ k. 0) r q gots.Start a started b b2 o o2 e f (memory_does puts) sound tt sizes fits start_in tt (λ starved. start_bounds t) z;
      next = λ starved. record { number = λ c cs g. absurd (cc); stands = λ c cs g. absurd (cc) };
    }

behind_goes : {E : Type 0} (puts : E → MemoryLink → Ended → Bool → E → Type 0) (t : Terms) (p : Ports) (n : ℕ) → n < t.reactor_num → IsFit t.framing → (s : Table) (d : Diary) → HasWord d.dids → IsFair t n d.took → Each (λ k. (¬ (k ≡ 0)) × (k < 2 ^ 32)) (collect fresh_in (bare d.took)) → ((k : ℕ) → Has k (collect fresh_in (bare d.took)) → ¬ Has k (firsts (collect free_in d.dids)) → (p.words (k % t.max_conn)).0 ≡ k) → (r q : Reactor MemoryLink ℕ) (got : CodeGot (Msg MemoryLink ℕ)) (a : Asks MemoryLink ℕ) (b b2 : Words) (o o2 : PlainWords) (e f : E) → Behind t s (code.got_of itself got) d → AreSound t (plain_ports puts) o e → Sizes t → BringsNew memory_tells got → Fits memory_tells t r s → Turns (plain_ports puts) r got b o e a q b2 o2 f → Goes puts t p s got b o e q a b2 o2 f
behind_goes puts t p n lt fit s d word fair low there r q got a b b2 o o2 e f behind sound sizes new fits z =
    (let told : AllTold word.word d.dids = record { found = word.found; freed = word.freed } in
    let g = code.got_of itself got in
    record {
      is = turn_of_run memory_tells (plain_ports puts) t word.word (memory_does puts) sizes fit n lt behind.took behind.pushed s (behind.ran.runs word.word told).run r q got a b b2 o o2 e f sound fits new d.took d.pushed behind.call fair
          (λ starved. few_conns d.took (settled t starved g s) (settled_lists t sizes.workers fit n lt s g d word.word told behind fair starved) low fair.once) z;
      next = λ starved. behind_served t sizes.workers fit n lt p.words s g d word behind fair low there starved;
    })

goes : {E : Type 0} (puts : E → MemoryLink → Ended → Bool → E → Type 0) (t : Terms) (p : Ports) (n : ℕ) → n < t.reactor_num → IsFit t.framing → (s : Table) (d : Diary) → HasWord d.dids → IsFair t n d.took → Each (λ k. (¬ (k ≡ 0)) × (k < 2 ^ 32)) (collect fresh_in (bare d.took)) → ((k : ℕ) → Has k (collect fresh_in (bare d.took)) → ¬ Has k (firsts (collect free_in d.dids)) → (p.words (k % t.max_conn)).0 ≡ k) → (r q : Reactor MemoryLink ℕ) (got : CodeGot (Msg MemoryLink ℕ)) (a : Asks MemoryLink ℕ) (b b2 : Words) (o o2 : PlainWords) (e f : E) → QuietBy t s (got_of got) d → AreSound t (plain_ports puts) o e → Sizes t → BringsNew memory_tells got → Fits memory_tells t r s → Turns (plain_ports puts) r got b o e a q b2 o2 f → Goes puts t p s got b o e q a b2 o2 f
goes puts t p n lt fit s d word fair low there r q gots.Start a b b2 o o2 e f quiet sound sizes new fits z =
    subst (λ (x : Table). Goes puts t p x gots.Start b o e q a b2 o2 f) (sym quiet.0) (start_goes puts t p r q a b b2 o o2 e f sound sizes (subst (λ (x : Table). Fits memory_tells t r x) quiet.0 fits) z)
goes puts t p n lt fit s d word fair low there r q (gots.Took m) a b b2 o o2 e f quiet sound sizes new fits z = behind_goes puts t p n lt fit s d word fair low there r q (gots.Took m) a b b2 o o2 e f quiet sound sizes new fits z
goes puts t p n lt fit s d word fair low there r q gots.Empty a b b2 o o2 e f quiet sound sizes new fits z = behind_goes puts t p n lt fit s d word fair low there r q gots.Empty a b b2 o o2 e f quiet sound sizes new fits z
goes puts t p n lt fit s d word fair low there r q gots.Pushed a b b2 o o2 e f quiet sound sizes new fits z = behind_goes puts t p n lt fit s d word fair low there r q gots.Pushed a b b2 o o2 e f quiet sound sizes new fits z
goes puts t p n lt fit s d word fair low there r q (gots.Full m) a b b2 o o2 e f quiet sound sizes new fits z = behind_goes puts t p n lt fit s d word fair low there r q (gots.Full m) a b b2 o o2 e f quiet sound sizes new fits z
goes puts t p n lt fit s d word fair low there r q gots.Nothing a b b2 o o2 e f quiet sound sizes new fits z = behind_goes puts t p n lt fit s d word fair low there r q gots.Nothing a b b2 o o2 e f quiet sound sizes new fits z

pub turn_is : {E : Type 0} (puts : E → MemoryLink → Ended → Bool → E → Type 0) (kept_of : E → List (MemoryLink × Ended)) (t : Terms) (legal : List Ran → Type 0) (n : ℕ) (p : Ports) (s : Table) (d : Diary) (r q : Reactor MemoryLink ℕ) (got : CodeGot (Msg MemoryLink ℕ)) (a : Asks MemoryLink ℕ) (b b2 : Words) (o o2 : PlainWords) (e f : E) → Before puts kept_of t n p s d r got b o e → Turns (plain_ports puts) r got b o e a q b2 o2 f → TurnIs kept_of t legal n p s got q a b2 o o2 f
turn_is {E} puts kept_of t legal n p s d r q got a b b2 o o2 e f h z =
    (let sound : AreSound t (plain_ports puts) o e = plain_sound puts t o p e h.board (λ l ended g y. absurd (let k : false ≡ true = (h.keeps l ended false g y).0 in cc)) in
    let w = goes puts t p n h.lt h.fit s d h.word h.fair h.low h.there r q got a b b2 o o2 e f h.quiet sound h.sizes h.new h.is.fits z in
    let x = w.is in
    let g = code.got_of itself got in
    let now : Table = settled t x.starved g s in
    let u : Table = turn t x.starved x.answers g s in
    let named = turn_named t p.words x.answers g s.last now x.dids h.sizes.workers (w.next x.starved) x.calls in
    let freed = turn_frees t p.words x.answers g s.last now x.dids (w.next x.starved) x.calls in
    let ans : Answered t legal p n x.dids b2 o o2 = dids_answer puts t legal n h.lt h.some x.dids p b b2 o o2 h.book h.board h.turn h.counts named freed.0 freed.1 x.went in
    record {
      dids = x.dids;
      state = u;
      turns = record { starved = x.starved; answers = x.answers; idle = x.idle; calls = subst (λ (y : TableGot Message). TurnCalls t x.answers y s.last (settled t x.starved y s) x.dids) (got_same got) x.calls; state = ap (λ (y : TableGot Message). turn t x.starved x.answers y s) (got_same got); asks = ask_same u.last a x.asks };
      answers = ans.answers;
      is = record { fits = x.fits; ends = ends_then puts kept_of e f h.keeps s.over u.over x.ends h.is.ends };
      book = ans.book;
      board = ans.board;
      whose = ans.turn;
    })
