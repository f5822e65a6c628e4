-- The sessions of a reactor's connections, with the one that comes, stand in their words and differ.
use Rattle.std.proofs.Common.{◌≡◌, ◌≢◌, ℕ, ◌<◌, ◌≤◌, ◌%◌, ◌^◌, Bool, true, false, List, [], ◌∷◌, ◌++◌, length, slice_get, Option, Some, None, refl, ap, ◌∙◌, sym, subst, arith, zero, suc, map, mod-lt}
use Rattle.sw_lists.specs.Lists.{collect, Has}
use Rattle.sw_lists.specs.Numbers.{Distinct}
use Rattle.sw_lists.proofs.Lists.{each_left, perm_has}
use Rattle.sw_data.specs.declared.messages.Got.{Got as CodeGot, Got as TableGot}
use Rattle.sw_data.specs.declared.messages.Got.TheVariants as gots
use Rattle.sw_data.specs.declared.messages.Msg.{Msg}
use Rattle.sw_data.specs.declared.messages.Msg.TheVariants as msgs
use Rattle.sw_frame.specs.Cut.{IsFit}
use Rattle.sw_link.specs.declared.memory_link.MemoryLink.{MemoryLink}
use Rattle.sw_conn.specs.declared.conn.Conn.{Conn}
use Rattle.sw_conn.specs.declared.terms.Terms.{Terms as CodeTerms}
use Rattle.sw_port_board.specs.PlainBoard.{PlainWords}
use Rattle.sw_port_book.specs.Plain.{Words, Stands, word_in}
use Rattle.sw_record.specs.Terms.{Terms}
use Rattle.sw_record.specs.declared.record.LinkRecord.{LinkRecord}
use Rattle.sw_past.specs.Messages.{Message}
use Rattle.sw_past.specs.Past.{bare}
use Rattle.sw_past.specs.Views.{fresh_in}
use Rattle.sw_past.specs.Routes.{IsFair}
use Rattle.sw_world_ports.specs.Made.{free_in, firsts}
use Rattle.sw_world_ports.specs.Ports.{Ports}
use Rattle.sw_world_ports.proofs.Haves.{each_has, has_left}
use Rattle.sw_world_laws.specs.Turns.{Diary}
use Rattle.sw_world_laws.specs.Shows.{HasWord}
use Rattle.sw_world_fits.specs.Book.{BookStands}
use Rattle.sw_reactor_table.specs.Conn.{Conn as Row}
use Rattle.sw_reactor_table.specs.Reactor.{Reactor as Table, all, settled}
use Rattle.sw_reactor_table.specs.Quiet.{session_in, session_over}
use Rattle.sw_reactor_table.proofs.Everywhere.{settled_over}
use Rattle.sw_reactor_fits.specs.Fits.{AreRows}
use Rattle.sw_reactor_fits.specs.Fits as code
use Rattle.sw_reactor.specs.Ready.{AreApart, tickets_of, brought, with_brought}
use Rattle.sw_world_reactor.specs.Reactors.{AllTold, Behind, QuietBy}
use Rattle.sw_world_reactor_fits.specs.Plain.{itself, memory_tells, got_of}
use Rattle.sw_world_reactor_fits.specs.Turns.{Before}
use Rattle.sw_world_reactor_fits.proofs.Facts.{Lists, settled_lists, apart, freed_over}
use Rattle.sw_world_places.specs.Ends.{Puts}
use Rattle.sw_world_places.specs.Pipes.{Getting}
use Rattle.sw_world_reactors.specs.declared.owner.Owner.{Owner}
use Rattle.sw_world_reactors.specs.Owners.{IsReadyOwner, MayTurn}
use Rattle.sw_world_reactors_fits.specs.Stand.{kept_of}
use Rattle.sw_world_reactors_fits.proofs.Settled.{comes, here, settled_here}

-- distinct numbers that stand
distinct_at : (xs : List ℕ) → Distinct xs → (j k a b : ℕ) → slice_get xs j ≡ Some a → slice_get xs k ≡ Some b → ¬ (j ≡ k) → ¬ (a ≡ b)
distinct_at [] d zero k a b e g ne = absurd (cc)
distinct_at [] d (suc j) k a b e g ne = absurd (cc)
distinct_at (x ∷ xs) d zero zero a b e g ne = absurd (ne refl)
distinct_at (x ∷ xs) d zero (suc k) a b e g ne = λ q. each_has (λ (m : ℕ). ¬ (x ≡ m)) xs b d.0 (k, g) (let i : x ≡ a = cc in i ∙ q)
distinct_at (x ∷ xs) d (suc j) zero a b e g ne = λ q. each_has (λ (m : ℕ). ¬ (x ≡ m)) xs a d.0 (j, e) (let i : x ≡ b = cc in i ∙ sym q)
distinct_at (x ∷ xs) d (suc j) (suc k) a b e g ne = distinct_at xs d.1 j k a b e g (λ i. ne (ap (λ (n : ℕ). suc n) i))

all_apart : (b : Words) (xs : List ℕ) → Distinct xs → ((k : ℕ) → Has k xs → Stands b k) → AreApart Stands (λ one other. one ≢ other) b xs
all_apart b xs d f = record { held = λ j x e. f x (j, e); two = λ j k x y e g ne. distinct_at xs d j k x y e g ne }

left_distinct : (xs ys : List ℕ) → Distinct (xs ++ ys) → Distinct xs
left_distinct [] ys d = tt
left_distinct (x ∷ xs) ys d = (each_left (λ (m : ℕ). ¬ (x ≡ m)) xs ys d.0, left_distinct xs ys d.1)

-- tickets are the sessions of the rows
tickets_are : (t : Terms) (cs : List (Conn MemoryLink ℕ)) (ds : List Row) → AreRows memory_tells t cs ds → tickets_of cs ≡ collect session_in ds
tickets_are t [] [] h = refl
tickets_are t [] (d ∷ ds) h = absurd h
tickets_are t (c ∷ cs) [] h = absurd h
tickets_are t (c ∷ cs) (d ∷ ds) h =
    (let told : c.ticket ≡ c.session = h.0.2.1 in
    let same : d.session ≡ c.session = ap (λ (x : Row). x.session) h.0.0 in
    ap (λ (k : ℕ). k ∷ tickets_of cs) (told ∙ sym same) ∙ ap (λ (ks : List ℕ). d.session ∷ ks) (tickets_are t cs ds h.1))

brought_msg : (m : Msg MemoryLink ℕ) → brought (gots.Took m) ≡ comes (code.got_of itself (gots.Took m))
brought_msg (msgs.Fresh link ip k) = refl
brought_msg (msgs.Send s b) = refl
brought_msg (msgs.Close s) = refl
brought_msg (msgs.Reset s) = refl
brought_msg (msgs.Bye s) = refl
brought_msg (msgs.Event e) = refl
brought_msg (msgs.Over id) = refl
brought_msg msgs.NoMore = refl

brought_is : (got : CodeGot (Msg MemoryLink ℕ)) → brought got ≡ comes (code.got_of itself got)
brought_is gots.Start = refl
brought_is (gots.Took m) = brought_msg m
brought_is gots.Empty = refl
brought_is gots.Pushed = refl
brought_is (gots.Full m) = refl
brought_is gots.Nothing = refl

-- what the law says of them
abbrev StandApart : Terms → Ports → List ℕ → Type 0
StandApart t p xs = Distinct xs × ((k : ℕ) → Has k xs → (p.words (k % t.max_conn)).0 ≡ k)

behind_apart : (t : Terms) → 0 < t.worker_num → IsFit t.framing → (n : ℕ) → n < t.reactor_num → (p : Ports) (s : Table) (got : TableGot Message) (d : Diary) → HasWord d.dids → Behind t s got d → IsFair t n d.took → ((k : ℕ) → Has k (collect fresh_in (bare d.took)) → ¬ Has k (firsts (collect free_in d.dids)) → (p.words (k % t.max_conn)).0 ≡ k) → StandApart t p (here s ++ comes got)
behind_apart t some fit n lt p s got d word b fair there = subst (StandApart t p) (settled_here t false got s) (left_distinct (here now) (collect session_over now.over) lists.distinct, stands)
  where
    now : Table
    now = settled t false got s

    told : AllTold word.word d.dids
    told = record { found = word.found; freed = word.freed }

    lists : Lists d.took (settled t false got s)
    lists = settled_lists t some fit n lt s got d word.word told b fair false

    stands : (k : ℕ) → Has k (here (settled t false got s)) → (p.words (k % t.max_conn)).0 ≡ k
    stands k has = there k (perm_has k lists.came (has_left k (here now) (collect session_over now.over) has)) (λ freed. apart (here now) (collect session_over now.over) k lists.distinct has
        (subst (λ (ls : List LinkRecord). Has k (collect session_over ls)) (sym (settled_over t false got s)) (subst (Has k) (freed_over t some fit n lt s got d word.word told b fair) freed)))

none_apart : (t : Terms) (p : Ports) → StandApart t p []
none_apart t p = (tt, λ k has. absurd (no_item k has))
  where
    no_item : (k : ℕ) → Has k [] → ⊥
    no_item k (zero, q) = absurd (cc)
    no_item k (suc j, q) = absurd (cc)

quiet_apart : (t : Terms) → 0 < t.worker_num → IsFit t.framing → (n : ℕ) → n < t.reactor_num → (p : Ports) (s : Table) (got : CodeGot (Msg MemoryLink ℕ)) (d : Diary) → HasWord d.dids → QuietBy t s (got_of got) d → IsFair t n d.took → ((k : ℕ) → Has k (collect fresh_in (bare d.took)) → ¬ Has k (firsts (collect free_in d.dids)) → (p.words (k % t.max_conn)).0 ≡ k) → StandApart t p (here s ++ comes (code.got_of itself got))
quiet_apart t some fit n lt p s gots.Start d word q fair there = subst (λ (x : Table). StandApart t p (here x ++ [])) (sym q.0) (none_apart t p)
quiet_apart t some fit n lt p s (gots.Took m) d word q fair there = behind_apart t some fit n lt p s (code.got_of itself (gots.Took m)) d word q fair there
quiet_apart t some fit n lt p s gots.Empty d word q fair there = behind_apart t some fit n lt p s gots.Empty d word q fair there
quiet_apart t some fit n lt p s gots.Pushed d word q fair there = behind_apart t some fit n lt p s gots.Pushed d word q fair there
quiet_apart t some fit n lt p s (gots.Full m) d word q fair there = behind_apart t some fit n lt p s (code.got_of itself (gots.Full m)) d word q fair there
quiet_apart t some fit n lt p s gots.Nothing d word q fair there = behind_apart t some fit n lt p s gots.Nothing d word q fair there

-- as the plain book has it
word_stands : (t : Terms) (b : Words) (p : Ports) → BookStands t b p → 1 ≤ t.max_conn → (k : ℕ) → (p.words (k % t.max_conn)).0 ≡ k → Stands b k
word_stands t b p h some k e =
    ap (λ (m : ℕ). (word_in b (k % m)).number) h.slots.size
    ∙ sym (ap (λ (x : ℕ × ℕ). x.0) (h.slots.each (k % t.max_conn) (mod-lt k (omega (arith, some)))))
    ∙ e

pub may_turn : (t : Terms) (n : ℕ) (p : Ports) (s : Table) (d : Diary) (o : Owner) (got : Getting) (b : Words) (w : PlainWords) → Before Puts kept_of t n p s d o.reactor got b w o.ends → IsReadyOwner o → MayTurn o got b w
may_turn t n p s d o got b w h ready = (
  ready,
  h.book.slots.size ∙ sym (ap (λ (x : CodeTerms). x.max_conn) h.is.fits.same.terms),
  h.board.workers ∙ sym (ap (λ (x : CodeTerms). x.worker_num) h.is.fits.same.terms),
  subst (AreApart Stands (λ one other. one ≢ other) b) (sym are) (all_apart b (here s ++ comes (code.got_of itself got)) law.0 (λ k has. word_stands t b p h.book h.some k (law.1 k has))),
)
  where
    law : StandApart t p (here s ++ comes (code.got_of itself got))
    law = quiet_apart t h.sizes.workers h.fit n h.lt p s got d h.word h.quiet h.fair h.there

    are : with_brought o.reactor got ≡ here s ++ comes (code.got_of itself got)
    are = ap (λ (ks : List ℕ). ks ++ brought got) (tickets_are t o.reactor.line.conns (all s) h.is.fits.same.rows) ∙ ap (λ (ks : List ℕ). here s ++ ks) (brought_is got)
