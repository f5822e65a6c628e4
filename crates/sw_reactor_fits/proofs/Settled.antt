-- What the code settles is what the table settles.
use Rattle.std.proofs.Common.{◌≡◌, ℕ, ◌+◌, ◌-◌, ◌<◌, ◌≤◌, ◌^◌, Bool, true, false, nat_lt, if◌then◌else◌, List, [], ◌∷◌, ◌++◌, length, map, Option, Some, None, refl, ap, ◌∙◌, sym, subst, append_assoc, inl, inr, arith, suc}
use Rattle.std.proofs.lemmas.Bool.Decides.{nat_tests}
use Rattle.std.proofs.lemmas.List.{map-append}
use Rattle.sw_data.specs.declared.messages.Got.{Got}
use Rattle.sw_data.specs.declared.messages.Got.TheVariants as gots
use Rattle.sw_data.specs.declared.messages.Msg.{Msg}
use Rattle.sw_data.specs.declared.messages.Msg.TheVariants as msgs
use Rattle.sw_frame.specs.declared.framing.Framing.{Framing}
use Rattle.sw_frame.specs.Cutting.{Cutting}
use Rattle.sw_lists.specs.Lists.{Each}
use Rattle.sw_lists.proofs.Lists.{each_all, each_more}
use Rattle.sw_conn.specs.declared.conn.Conn.{Conn}
use Rattle.sw_conn.specs.declared.terms.Terms.{Terms as Settings}
use Rattle.sw_conn.specs.Causes.{is_hard, is_packet_event}
use Rattle.sw_conn.specs.Conn as conn
use Rattle.sw_record.specs.Words.{Event, Connect, Packet, Closed, Finish, Task, Cause, ServerClose, ResetCause, Stop, Overflow, NoMemory}
use Rattle.sw_record.specs.Terms.{Terms}
use Rattle.sw_past.specs.Messages.{Message, FreshMsg, SendMsg, CloseMsg, ResetMsg, Bye, EventMsg, OverMsg, NoMore, message_of}
use Rattle.sw_reactor_table.specs.Conn.{Conn as Row}
use Rattle.sw_reactor_table.specs.Conn as table
use Rattle.sw_reactor_table.specs.Reactor.{Reactor as Table, Ask, Take, Push, Nothing, Rest, Finished, all, each_conn, settled, settled_msg, settled_push, settled_full, pushed_by, full_by}
use Rattle.sw_reactor_table.specs.Quiet.{IsOf}
use Rattle.sw_conn_fits.specs.Shown.{settings, shown, IsCut}
use Rattle.sw_conn_fits.proofs.Conn.{shown_sent, shown_fresh, shown_noted}
use Rattle.sw_reactor.specs.declared.reactor.Asked.{Asked}
use Rattle.sw_reactor.specs.declared.reactor.Asked.TheVariants as asks
use Rattle.sw_reactor.specs.declared.reactor.Reactor.{Reactor}
use Rattle.sw_reactor.specs.Line.{Lined, place_of, AtSession}
use Rattle.sw_reactor.specs.Reactor.{OnLine, SettlesMsg, SettlesPush, SettlesEvent, SettlesFull, Settles}
use Rattle.sw_reactor_fits.specs.Told.{Telling, IsCauseTold, TellsOf, IsNew, BringsNew}
use Rattle.sw_reactor_fits.specs.Fits.{IsRow, AreRows, capped, session_of_event, WasPush, WasAsked, Same, Fits, got_of, IsBack, Sizes}
use Rattle.sw_reactor_fits.proofs.Rows.{rows_append, change, AtThis, rows_session, line_session}
use Rattle.sw_reactor_laws.specs.Bounds.{CanNote, InBounds}

-- a row by what it shows
pub row_by : {L K : Type 0} (view : Telling L K) (t : Terms) (ps : List (List ℕ)) (ws : List ℕ) (n : ℕ) (c : Conn L K) (d : Row) → d ≡ shown ps ws n c → IsCut t ps n c → TellsOf view c.link ps ws c.cause → view.number c.ticket ≡ c.session → IsRow view t c d
row_by {L} {K} view t ps ws n c d e h k own = subst (λ (x : Row). IsRow {L = L} {K = K} view t c x) (sym e) (refl, h, (k, own))

-- what its link tells, by the connection's own cause
pub row_tells : {L K : Type 0} (view : Telling L K) (t : Terms) (c : Conn L K) (d : Row) → IsRow view t c d → TellsOf view c.link d.pieces d.written c.cause
row_tells view t c d h = subst (λ (o : Option Cause). TellsOf view c.link d.pieces d.written o) (ap (λ (x : Row). x.cause) h.0) h.2.0

-- a change of the code and the same of the table
pub row_change : {L K : Type 0} (view : Telling L K) (t : Terms) (c e : Conn L K) (d : Row) (g : Row → Row) → IsRow view t c d → g (shown d.pieces d.written d.taken c) ≡ shown d.pieces d.written d.taken e → (IsCut t d.pieces d.taken c → IsCut t d.pieces d.taken e) → (IsCauseTold view c.link c.cause → IsCauseTold view e.link e.cause) → e.link ≡ c.link → e.ticket ≡ c.ticket → e.session ≡ c.session → IsRow view t e (g d)
row_change {L} {K} view t c e d g h q f told link ticket session =
    (let k = row_tells view t c d h in
    row_by view t d.pieces d.written d.taken e (g d) (ap g h.0 ∙ q) (f h.1)
    (ap view.pieces link ∙ k.0, ap view.written link ∙ k.1, told k.2) (ap view.number ticket ∙ h.2.1 ∙ sym session))

soft_some : (e : Cause) (o : Option Cause) → conn.set_soft e o ≡ None → ⊥
soft_some e None q = cc
soft_some e (Some d) q = cc

hard_some : (e : Cause) (o : Option Cause) → conn.set_hard e o ≡ None → ⊥
hard_some e None q = cc
hard_some e (Some d) q = pick (is_hard (Some d)) q
  where
    pick : (b : Bool) → (if b then Some d else Some e) ≡ None → ⊥
    pick true z = cc
    pick false z = cc

-- the causes that are set by messages are none that a link tells
soft_told : {L K : Type 0} (view : Telling L K) (l : L) (e : Cause) (o : Option Cause) → IsCauseTold view l (Some e) → IsCauseTold view l o → IsCauseTold view l (conn.set_soft e o)
soft_told view l e None h k = h
soft_told view l e (Some d) h k = k

hard_told : {L K : Type 0} (view : Telling L K) (l : L) (e : Cause) (o : Option Cause) → IsCauseTold view l (Some e) → IsCauseTold view l o → IsCauseTold view l (conn.set_hard e o)
hard_told {L} {K} view l e o h k = pick (is_hard o)
  where
    pick : (b : Bool) → IsCauseTold view l (if b then o else Some e)
    pick true = k
    pick false = h

cut_sent : {L K : Type 0} (t : Terms) (starved : Bool) (b : List ℕ) (ps : List (List ℕ)) (n : ℕ) (c : Conn L K) → IsCut t ps n c → IsCut t ps n (conn.sent (settings t) starved b c)
cut_sent {L} {K} t starved b ps n c h = pick (is_hard c.cause) (nat_lt t.buffer_size (length c.unsent + length b)) starved
  where
    pick : (x y z : Bool) → IsCut {L = L} {K = K} t ps n (if x then c else (if y then record c { cause = Some (Overflow (length c.unsent + length b)) } else (if z then record c { cause = Some NoMemory } else record c { unsent = c.unsent ++ b })))
    pick true y z = h
    pick false true z = λ e. absurd (cc)
    pick false false true = λ e. absurd (cc)
    pick false false false = h

-- what a send leaves alone, and its causes
record SentAlone {L K : Type 0} (view : Telling L K) (c e : Conn L K) : Type 0 where
  told : IsCauseTold view c.link c.cause → IsCauseTold view e.link e.cause
  link : e.link ≡ c.link
  ticket : e.ticket ≡ c.ticket
  session : e.session ≡ c.session

sent_alone : {L K : Type 0} (view : Telling L K) (t : Terms) (starved : Bool) (b : List ℕ) (c : Conn L K) → SentAlone view c (conn.sent (settings t) starved b c)
sent_alone {L} {K} view t starved b c = pick (is_hard c.cause) (nat_lt t.buffer_size (length c.unsent + length b)) starved
  where
    pick : (x y z : Bool) → SentAlone {L = L} {K = K} view c (if x then c else (if y then record c { cause = Some (Overflow (length c.unsent + length b)) } else (if z then record c { cause = Some NoMemory } else record c { unsent = c.unsent ++ b })))
    pick true y z = record { told = λ k. k; link = refl; ticket = refl; session = refl }
    pick false true z = record { told = λ k. tt; link = refl; ticket = refl; session = refl }
    pick false false true = record { told = λ k. tt; link = refl; ticket = refl; session = refl }
    pick false false false = record { told = λ k. k; link = refl; ticket = refl; session = refl }

row_sent : {L K : Type 0} (view : Telling L K) (t : Terms) (starved : Bool) (b : List ℕ) (c e : Conn L K) (d : Row) → e ≡ conn.sent (settings t) starved b c → IsRow view t c d → IsRow view t e (table.sent t starved b d)
row_sent {L} {K} view t starved b c e d q h =
    (let a = sent_alone view t starved b c in
    subst (λ (x : Conn L K). IsRow view t x (table.sent t starved b d)) (sym q) (row_change view t c (conn.sent (settings t) starved b c) d (table.sent t starved b) h (sym (shown_sent t starved b d.pieces d.written d.taken c)) (cut_sent t starved b d.pieces d.taken c) a.told a.link a.ticket a.session))

abbrev closed_row : Row → Row
closed_row d = record d { cause = conn.set_soft ServerClose d.cause }

abbrev reset_row : Row → Row
reset_row d = record d { cause = conn.set_hard ResetCause d.cause }

abbrev answered_row : Row → Row
answered_row d = record d { awaited = d.awaited - 1 }

row_closes : {L K : Type 0} (view : Telling L K) (t : Terms) (c e : Conn L K) (d : Row) → e ≡ conn.closes c → IsRow view t c d → IsRow view t e (closed_row d)
row_closes {L} {K} view t c e d q h = subst (λ (x : Conn L K). IsRow view t x (closed_row d)) (sym q) (row_change view t c (conn.closes c) d closed_row h refl (λ f z. absurd (soft_some ServerClose c.cause z)) (soft_told view c.link ServerClose c.cause tt) refl refl refl)

row_resets : {L K : Type 0} (view : Telling L K) (t : Terms) (c e : Conn L K) (d : Row) → e ≡ conn.resets c → IsRow view t c d → IsRow view t e (reset_row d)
row_resets {L} {K} view t c e d q h = subst (λ (x : Conn L K). IsRow view t x (reset_row d)) (sym q) (row_change view t c (conn.resets c) d reset_row h refl (λ f z. absurd (hard_some ResetCause c.cause z)) (hard_told view c.link ResetCause c.cause tt) refl refl refl)

row_answered : {L K : Type 0} (view : Telling L K) (t : Terms) (c e : Conn L K) (d : Row) → e ≡ conn.answered c → IsRow view t c d → IsRow view t e (answered_row d)
row_answered {L} {K} view t c e d q h = subst (λ (x : Conn L K). IsRow view t x (answered_row d)) (sym q) (row_change view t c (conn.answered c) d answered_row h refl (λ f. f) (λ k. k) refl refl refl)

pub row_stops : {L K : Type 0} (view : Telling L K) (t : Terms) (c : Conn L K) (d : Row) → IsRow view t c d → IsRow view t (conn.stops c) (table.stops d)
row_stops view t c d h = row_change view t c (conn.stops c) d table.stops h refl (λ f z. absurd (hard_some Stop c.cause z)) (hard_told view c.link Stop c.cause tt) refl refl refl

row_holds : {L K : Type 0} (view : Telling L K) (t : Terms) (w : ℕ) (x : Event) (c e : Conn L K) (d : Row) → e ≡ conn.holds w x c → IsRow view t c d → IsRow view t e (table.holds w x d)
row_holds {L} {K} view t w x c e d q h = subst (λ (y : Conn L K). IsRow view t y (table.holds w x d)) (sym q) (row_change view t c (conn.holds w x c) d (table.holds w x) h refl (λ f. f) (λ k. k) refl refl refl)

noted_alone : {L K : Type 0} (view : Telling L K) (t : Terms) (x : Event) (c : Conn L K) → SentAlone view c (conn.noted (settings t) (conn.kind_of x) c)
noted_alone view t (Connect s) c = record { told = λ k. k; link = refl; ticket = refl; session = refl }
noted_alone view t (Packet s i b) c = record { told = λ k. k; link = refl; ticket = refl; session = refl }
noted_alone view t (Closed s) c = record { told = λ k. k; link = refl; ticket = refl; session = refl }
noted_alone view t (Finish id b) c = record { told = λ k. k; link = refl; ticket = refl; session = refl }
noted_alone view t (Task w id b) c = record { told = λ k. k; link = refl; ticket = refl; session = refl }

row_noted : {L K : Type 0} (view : Telling L K) (t : Terms) (x : Event) (c e : Conn L K) (d : Row) → ((is_packet_event x ≡ true → d.dispatched < 2 ^ 64 - 1) × (d.awaited < 2 ^ 128 - 1)) → e ≡ conn.noted (settings t) (conn.kind_of x) c → IsRow view t c d → IsRow view t e (table.noted t x d)
row_noted {L} {K} view t x c e d few q h =
    (let a : d.awaited ≡ c.awaited = ap (λ (y : Row). y.awaited) h.0 in
    let b : d.dispatched ≡ c.dispatched = ap (λ (y : Row). y.dispatched) h.0 in
    let k = noted_alone view t x c in
    subst (λ (y : Conn L K). IsRow view t y (table.noted t x d)) (sym q)
    (row_change view t c (conn.noted (settings t) (conn.kind_of x) c) d (table.noted t x) h
    (sym (shown_noted t d.pieces d.written d.taken x c (λ p. subst (λ (m : ℕ). m < 2 ^ 64 - 1) b (few.0 p)) (subst (λ (m : ℕ). m < 2 ^ 128 - 1) a few.1))) (cut x) k.told k.link k.ticket k.session))
  where
    cut : (y : Event) → IsCut t d.pieces d.taken c → IsCut t d.pieces d.taken (conn.noted (settings t) (conn.kind_of y) c)
    cut (Connect s) f = f
    cut (Packet s i b) f = f
    cut (Closed s) f = f
    cut (Finish id b) f = f
    cut (Task w id b) f = f

-- fields behind a change of the line
map_length : (g : Row → Row) (ds : List Row) → length (map g ds) ≡ length ds
map_length g [] = refl
map_length g (d ∷ ds) = ap (λ (n : ℕ). suc n) (map_length g ds)

map_none : (g : Row → Row) (ds : List Row) → map g ds ≡ [] → ds ≡ []
map_none g [] e = refl
map_none g (d ∷ ds) e = absurd (cc)

pub each_same : {L K : Type 0} (view : Telling L K) (t : Terms) (r q : Reactor L K) (s : Table) (g : Row → Row) → Same view t r s → q ≡ record r { line = q.line } → AreRows view t q.line.conns (map g (all s)) → Same view t q (each_conn g s)
each_same {L} {K} view t r q s g h e rows =
    record {
      terms = ap (λ (x : Reactor L K). x.terms) e ∙ h.terms;
      framing = ap (λ (x : Reactor L K). x.framing) e ∙ h.framing;
      rows = subst (AreRows view t q.line.conns) (map-append g s.done s.next) rows;
      at = ap (λ (x : Reactor L K). x.at) e ∙ h.at ∙ sym (map_length g s.done);
      tight = λ z. ap (map g) (h.tight (map_none g s.next z));
      empty = ap (λ (x : Reactor L K). x.empty) e ∙ h.empty;
      still = ap (λ (x : Reactor L K). x.still) e ∙ h.still;
      ends = ap (λ (x : Reactor L K). x.ends) e ∙ h.ends;
      given = ap (λ (x : Reactor L K). x.given) e ∙ h.given;
      turn = ap (λ (x : Reactor L K). x.turn) e ∙ h.turn;
    }

some_last : (ds : List Row) (d : Row) → ds ++ d ∷ [] ≡ [] → ⊥
some_last [] d e = cc
some_last (x ∷ ds) d e = cc

joins_same : {L K : Type 0} (view : Telling L K) (t : Terms) (r q : Reactor L K) (s : Table) (d : Row) → Same view t r s → q ≡ record r { line = q.line } → AreRows view t q.line.conns (all s ++ d ∷ []) → Same view t q (record s { next = s.next ++ d ∷ [] })
joins_same {L} {K} view t r q s d h e rows =
    record {
      terms = ap (λ (x : Reactor L K). x.terms) e ∙ h.terms;
      framing = ap (λ (x : Reactor L K). x.framing) e ∙ h.framing;
      rows = subst (AreRows view t q.line.conns) (append_assoc s.done s.next (d ∷ [])) rows;
      at = ap (λ (x : Reactor L K). x.at) e ∙ h.at;
      tight = λ z. absurd (some_last s.next d z);
      empty = ap (λ (x : Reactor L K). x.empty) e ∙ h.empty;
      still = ap (λ (x : Reactor L K). x.still) e ∙ h.still;
      ends = ap (λ (x : Reactor L K). x.ends) e ∙ h.ends;
      given = ap (λ (x : Reactor L K). x.given) e ∙ h.given;
      turn = ap (λ (x : Reactor L K). x.turn) e ∙ h.turn;
    }

-- one session's connection
free_of : {L K : Type 0} (view : Telling L K) (t : Terms) (r q : Reactor L K) (s : Table) (n : ℕ) (P : Conn L K → Conn L K → Type 0) (B : Row → Type 0) (g : Row → Row) → ((c e : Conn L K) (d : Row) → B d → d.session ≡ n → P c e → IsRow view t c d → IsRow view t e (g d)) → Same view t r s → InBounds s → Each B (all s) → AtThis r.line.conns (place_of n r.line.conns) P q.line.conns → q ≡ record r { line = q.line } → Same view t q (each_conn (change g n) s)
free_of view t r q s n P B g k h b bounds m e = each_same view t r q s (change g n) h e (rows_session view t n P B g k r.line.conns q.line.conns (all s) b.distinct bounds h.rows m)

abbrev Any : Row → Type 0
Any d = Unit {0}

any : (ds : List Row) → Each Any ds
any ds = each_all Any ds (λ d. tt)

-- want of memory of a send, where there is one to append it to
starves : {L K : Type 0} (t : Settings) (b : List ℕ) (cs es : List (Conn L K)) (o : Option ℕ) → AtThis cs o (λ c d. (starved : Bool) × (d ≡ conn.sent t starved b c)) es → (starved : Bool) × AtThis cs o (λ c d. d ≡ conn.sent t starved b c) es
starves t b cs es None h = (false, h)
starves t b cs es (Some n) (c, (d, (e, (starved, p), q))) = (starved, (c, (d, (e, p, q))))

sent_settled : {L K : Type 0} (view : Telling L K) (t : Terms) (r q : Reactor L K) (s : Table) (n : ℕ) (b : List ℕ) → Same view t r s → InBounds s → OnLine r (λ l m. AtSession l n (λ c d. (starved : Bool) × (d ≡ conn.sent r.terms starved b c)) m) q → (starved : Bool) × Same view t q (each_conn (change (table.sent t starved b) n) s)
sent_settled {L} {K} view t r q s n b h bounds (m, e) =
    (let at : AtThis r.line.conns (place_of n r.line.conns) (λ c d. (starved : Bool) × (d ≡ conn.sent (settings t) starved b c)) q.line.conns = subst (λ (x : Settings). AtThis r.line.conns (place_of n r.line.conns) (λ (c d : Conn L K). (starved : Bool) × (d ≡ conn.sent x starved b c)) q.line.conns) h.terms (line_session r.line n (λ c d. (starved : Bool) × (d ≡ conn.sent r.terms starved b c)) q.line m) in
    let x = starves (settings t) b r.line.conns q.line.conns (place_of n r.line.conns) at in
    (x.0, free_of view t r q s n (λ c d. d ≡ conn.sent (settings t) x.0 b c) Any (table.sent t x.0 b) (λ c y d u z p g. row_sent view t x.0 b c y d p g) h bounds (any (all s)) x.1 e))

-- one more
low : (n : ℕ) → nat_lt n (2 ^ 64 - 1) ≡ true → n < 2 ^ 64 - 1
low n e = grind (arith, nat_tests)

high : (n : ℕ) → nat_lt n (2 ^ 64 - 1) ≡ false → 2 ^ 64 - 1 ≤ n
high n e = grind (arith, nat_tests)

pub up_capped : (n : ℕ) → conn.up (capped n) ≡ capped (n + 1)
up_capped n = pick (nat_lt n (2 ^ 64 - 1)) refl (nat_lt (n + 1) (2 ^ 64 - 1)) refl
  where
    most : conn.up (2 ^ 64 - 1) ≡ 2 ^ 64 - 1
    most = refl

    pick : (b : Bool) → nat_lt n (2 ^ 64 - 1) ≡ b → (d : Bool) → nat_lt (n + 1) (2 ^ 64 - 1) ≡ d → conn.up (if b then n else 2 ^ 64 - 1) ≡ (if d then n + 1 else 2 ^ 64 - 1)
    pick true e true f = ap (λ (x : Bool). if x then n + 1 else n) e
    pick true e false f = ap (λ (x : Bool). if x then n + 1 else n) e ∙ (let a : n < 2 ^ 64 - 1 = low n e in let c : 2 ^ 64 - 1 ≤ n + 1 = high (n + 1) f in omega arith)
    pick false e true f = absurd (let a : n + 1 < 2 ^ 64 - 1 = low (n + 1) f in let c : 2 ^ 64 - 1 ≤ n = high n e in omega arith)
    pick false e false f = most

-- a taken message
took_settled : {L K : Type 0} (view : Telling L K) (t : Terms) (number : K → ℕ) (r q : Reactor L K) (s : Table) (m : Msg L K) → ((k : K) → view.number k ≡ number k) → IsNew view m → Same view t r s → InBounds s → SettlesMsg number r m q → (starved : Bool) × Same view t q (settled_msg t starved (message_of number m) s)
took_settled {L} {K} view t number r q s (msgs.Fresh link ip ticket) own new h b ((c, (f, e)), g) =
    (let x = shown_fresh r.framing link ip ticket (number ticket) c f in
    let row : IsRow view t c (table.fresh x.0 ip (number ticket)) = row_by view t [] [] 0 c (table.fresh x.0 ip (number ticket)) (sym x.1) (fits f) (tells f) (keyed f) in (
      x.0,
      joins_same view t r q s (table.fresh x.0 ip (number ticket)) h g
          (subst (λ (zs : List (Conn L K)). AreRows view t zs (all s ++ table.fresh x.0 ip (number ticket) ∷ [])) (sym (ap (λ (y : Lined L K). y.conns) e)) (rows_append view t r.line.conns (c ∷ []) (all s) (table.fresh x.0 ip (number ticket) ∷ []) h.rows (row, tt))),
    ))
  where
    fits : conn.IsFresh r.framing link ip ticket (number ticket) c → IsCut t [] 0 c
    fits (inl z) = subst (IsCut {L = L} {K = K} t [] 0) (sym z) (λ u. ap (λ (y : Framing). let d : Cutting = record { framing = y; pieces = []; given = 0 } in d) h.framing)
    fits (inr z) = subst (IsCut {L = L} {K = K} t [] 0) (sym z) (λ u. absurd (cc))

    tells : conn.IsFresh r.framing link ip ticket (number ticket) c → TellsOf view c.link [] [] c.cause
    tells (inl z) = subst (λ (y : Conn L K). TellsOf view y.link [] [] y.cause) (sym z) (new.0, new.1, tt)
    tells (inr z) = subst (λ (y : Conn L K). TellsOf view y.link [] [] y.cause) (sym z) (new.0, new.1, tt)

    keyed : conn.IsFresh r.framing link ip ticket (number ticket) c → view.number c.ticket ≡ c.session
    keyed (inl z) = subst (λ (y : Conn L K). view.number y.ticket ≡ y.session) (sym z) (own ticket)
    keyed (inr z) = subst (λ (y : Conn L K). view.number y.ticket ≡ y.session) (sym z) (own ticket)
took_settled view t number r q s (msgs.Send n bs) own new h b m = sent_settled view t r q s n bs h b m
took_settled view t number r q s (msgs.Close n) own new h b (m, e) = (false, free_of view t r q s n (λ c d. d ≡ conn.closes c) Any closed_row (λ c y d u z p g. row_closes view t c y d p g) h b (any (all s)) (line_session r.line n (λ c d. d ≡ conn.closes c) q.line m) e)
took_settled view t number r q s (msgs.Reset n) own new h b (m, e) = (false, free_of view t r q s n (λ c d. d ≡ conn.resets c) Any reset_row (λ c y d u z p g. row_resets view t c y d p g) h b (any (all s)) (line_session r.line n (λ c d. d ≡ conn.resets c) q.line m) e)
took_settled view t number r q s (msgs.Bye n) own new h b (m, e) = (false, free_of view t r q s n (λ c d. d ≡ conn.answered c) Any answered_row (λ c y d u z p g. row_answered view t c y d p g) h b (any (all s)) (line_session r.line n (λ c d. d ≡ conn.answered c) q.line m) e)
took_settled {L} {K} view t number r q s (msgs.Event x) own new h b m = (false, subst (λ (y : Reactor L K). Same view t y s) (sym m) h)
took_settled {L} {K} view t number r q s (msgs.Over id) own new h b m = (false, subst (λ (y : Reactor L K). Same view t y s) (sym m) h)
took_settled {L} {K} view t number r q s msgs.NoMore own new h b m = (
  false,
  subst (λ (y : Reactor L K). Same view t y (record s { ends = s.ends + 1 })) (sym m)
      (record { terms = h.terms; framing = h.framing; rows = h.rows; at = h.at; tight = h.tight; empty = h.empty; still = h.still; ends = ap conn.up h.ends ∙ up_capped s.ends; given = h.given; turn = h.turn }),
)

-- what was pushed is noted
pushed_event : {L K : Type 0} (view : Telling L K) (t : Terms) (r q : Reactor L K) (s : Table) (x : Event) → Same view t r s → InBounds s → Each (CanNote (Push 0 (EventMsg x))) (all s) → IsOf (session_of_event x) x → OnLine r (λ l m. AtSession l (session_of_event x) (λ c d. d ≡ conn.noted r.terms (conn.kind_of x) c) m) q → Same view t q (each_conn (change (table.noted t x) (session_of_event x)) s)
pushed_event {L} {K} view t r q s x h b can own (m, e) =
    (let at : AtThis r.line.conns (place_of (session_of_event x) r.line.conns) (λ c d. d ≡ conn.noted (settings t) (conn.kind_of x) c) q.line.conns = subst (λ (y : Settings). AtThis r.line.conns (place_of (session_of_event x) r.line.conns) (λ (c d : Conn L K). d ≡ conn.noted y (conn.kind_of x) c) q.line.conns) h.terms (line_session r.line (session_of_event x) (λ c d. d ≡ conn.noted r.terms (conn.kind_of x) c) q.line m) in
    free_of view t r q s (session_of_event x) (λ c d. d ≡ conn.noted (settings t) (conn.kind_of x) c) (CanNote (Push 0 (EventMsg x))) (table.noted t x) (λ c y d u z p g. row_noted view t x c y d (u (subst (λ (n : ℕ). IsOf n x) (sym z) own)) p g) h b can at e)

can_any : (w : ℕ) (x : Event) (ds : List Row) → Each (CanNote (Push w (EventMsg x))) ds → Each (CanNote (Push 0 (EventMsg x))) ds
can_any w x ds h = each_more (CanNote (Push w (EventMsg x))) (CanNote (Push 0 (EventMsg x))) ds (λ d k. k) h

push_settled : {L K : Type 0} (view : Telling L K) (t : Terms) (r q : Reactor L K) (s : Table) (w : ℕ) (m : Message) → Sizes t → Same view t r s → InBounds s → Each (CanNote (Push w m)) (all s) → WasPush t s.given w m r.asked → SettlesPush r r.asked q → Same view t q (settled_push t m s)
push_settled {L} {K} view t r q s w (EventMsg (Connect n)) sizes h b can was z = pushed_event view t r q s (Connect n) h b (can_any w (Connect n) (all s) can) was.1 (subst (λ (x : Asked). SettlesPush r x q) was.0 z)
push_settled {L} {K} view t r q s w (EventMsg (Packet n i p)) sizes h b can was z = pushed_event view t r q s (Packet n i p) h b (can_any w (Packet n i p) (all s) can) was.1 (subst (λ (x : Asked). SettlesPush r x q) was.0 z)
push_settled {L} {K} view t r q s w (EventMsg (Closed n)) sizes h b can was z = pushed_event view t r q s (Closed n) h b (can_any w (Closed n) (all s) can) was.1 (subst (λ (x : Asked). SettlesPush r x q) was.0 z)
push_settled view t r q s w (EventMsg (Finish id p)) sizes h b can was z = absurd was.1
push_settled view t r q s w (EventMsg (Task v id p)) sizes h b can was z = absurd was.1
push_settled {L} {K} view t r q s w NoMore sizes h b can was z =
    (let e : q ≡ record r { given = (if nat_lt r.given (2 ^ 32 - 1) then r.given + 1 else r.given) } = subst (λ (x : Asked). SettlesPush r x q) was.0 z in
    let less : r.given < 2 ^ 32 - 1 = (let a : w ≡ s.given = was.1 in let c : w < t.worker_num = was.2 in let d : t.worker_num < 2 ^ 32 = sizes.few_workers in let g : r.given ≡ s.given = h.given in omega arith) in
    let test : nat_lt r.given (2 ^ 32 - 1) ≡ true = below r.given less in
    record {
      terms = ap (λ (x : Reactor L K). x.terms) e ∙ h.terms;
      framing = ap (λ (x : Reactor L K). x.framing) e ∙ h.framing;
      rows = subst (λ (x : Reactor L K). AreRows view t x.line.conns (all s)) (sym e) h.rows;
      at = ap (λ (x : Reactor L K). x.at) e ∙ h.at;
      tight = h.tight;
      empty = ap (λ (x : Reactor L K). x.empty) e ∙ h.empty;
      still = ap (λ (x : Reactor L K). x.still) e ∙ h.still;
      ends = ap (λ (x : Reactor L K). x.ends) e ∙ h.ends;
      given = ap (λ (x : Reactor L K). x.given) e ∙ ap (λ (x : Bool). if x then r.given + 1 else r.given) test ∙ ap (λ (n : ℕ). n + 1) h.given;
      turn = ap (λ (x : Reactor L K). x.turn) e ∙ h.turn;
    })
  where
    below : (n : ℕ) → n < 2 ^ 32 - 1 → nat_lt n (2 ^ 32 - 1) ≡ true
    below n lt = grind (arith, nat_tests)
push_settled view t r q s w (FreshMsg ip u) sizes h b can was z = absurd was
push_settled view t r q s w (SendMsg u p) sizes h b can was z = absurd was
push_settled view t r q s w (CloseMsg u) sizes h b can was z = absurd was
push_settled view t r q s w (ResetMsg u) sizes h b can was z = absurd was
push_settled view t r q s w (Bye u) sizes h b can was z = absurd was
push_settled view t r q s w (OverMsg id) sizes h b can was z = absurd was

pushed_settled : {L K : Type 0} (view : Telling L K) (t : Terms) (r q : Reactor L K) (s : Table) (ask : Ask) → Sizes t → Same view t r s → InBounds s → Each (CanNote ask) (all s) → WasAsked t s.given ask r.asked → SettlesPush r r.asked q → Same view t q (pushed_by t ask s)
pushed_settled {L} {K} view t r q s Take sizes h b can was z = subst (λ (x : Reactor L K). Same view t x s) (sym (subst (λ (x : Asked). SettlesPush r x q) was z)) h
pushed_settled view t r q s (Push w m) sizes h b can was z = push_settled view t r q s w m sizes h b can was z
pushed_settled {L} {K} view t r q s Nothing sizes h b can was z = subst (λ (x : Reactor L K). Same view t x s) (sym (subst (λ (x : Asked). SettlesPush r x q) was z)) h
pushed_settled {L} {K} view t r q s Rest sizes h b can was z = subst (λ (x : Reactor L K). Same view t x s) (sym (subst (λ (x : Asked). SettlesPush r x q) was z)) h
pushed_settled {L} {K} view t r q s Finished sizes h b can was z = subst (λ (x : Reactor L K). Same view t x s) (sym (subst (λ (x : Asked). SettlesPush r x q) was z)) h

-- what came back is held
held_event : {L K : Type 0} (view : Telling L K) (t : Terms) (r q : Reactor L K) (s : Table) (w : ℕ) (x : Event) → Same view t r s → InBounds s → OnLine r (λ l m. AtSession l (session_of_event x) (λ c d. d ≡ conn.holds w x c) m) q → Same view t q (each_conn (change (table.holds w x) (session_of_event x)) s)
held_event view t r q s w x h b (m, e) = free_of view t r q s (session_of_event x) (λ c d. d ≡ conn.holds w x c) Any (table.holds w x) (λ c y d u z p g. row_holds view t w x c y d p g) h b (any (all s)) (line_session r.line (session_of_event x) (λ c d. d ≡ conn.holds w x c) q.line m) e

back_settled : {L K : Type 0} (view : Telling L K) (t : Terms) (number : K → ℕ) (r q : Reactor L K) (s : Table) (w : ℕ) (m : Msg L K) → Same view t r s → InBounds s → WasPush t s.given w (message_of number m) r.asked → SettlesFull r m q → Same view t q (settled_full w (message_of number m) s)
back_settled view t number r q s w (msgs.Event (Connect n)) h b was z = held_event view t r q s w (Connect n) h b (subst (λ (x : Asked). SettlesEvent r x (Connect n) q) was.0 z)
back_settled view t number r q s w (msgs.Event (Packet n i p)) h b was z = held_event view t r q s w (Packet n i p) h b (subst (λ (x : Asked). SettlesEvent r x (Packet n i p) q) was.0 z)
back_settled view t number r q s w (msgs.Event (Closed n)) h b was z = held_event view t r q s w (Closed n) h b (subst (λ (x : Asked). SettlesEvent r x (Closed n) q) was.0 z)
back_settled view t number r q s w (msgs.Event (Finish id p)) h b was z = absurd was.1
back_settled view t number r q s w (msgs.Event (Task v id p)) h b was z = absurd was.1
back_settled {L} {K} view t number r q s w msgs.NoMore h b was z = subst (λ (x : Reactor L K). Same view t x s) (sym z) h
back_settled view t number r q s w (msgs.Fresh link ip ticket) h b was z = absurd was
back_settled view t number r q s w (msgs.Send u p) h b was z = absurd was
back_settled view t number r q s w (msgs.Close u) h b was z = absurd was
back_settled view t number r q s w (msgs.Reset u) h b was z = absurd was
back_settled view t number r q s w (msgs.Bye u) h b was z = absurd was
back_settled view t number r q s w (msgs.Over id) h b was z = absurd was

-- a pipe call
empty_same : {L K : Type 0} (view : Telling L K) (t : Terms) (r : Reactor L K) (s : Table) (b : Bool) → Same view t r s → Same view t (record r { empty = b }) (record s { empty = b })
empty_same view t r s b h = record { terms = h.terms; framing = h.framing; rows = h.rows; at = h.at; tight = h.tight; empty = refl; still = h.still; ends = h.ends; given = h.given; turn = h.turn }

empty_bounds : (s : Table) (b : Bool) → InBounds s → InBounds (record s { empty = b })
empty_bounds s b h = record { distinct = h.distinct; notes = h.notes }

pub settles : {L K : Type 0} (view : Telling L K) (t : Terms) (number : K → ℕ) (r q : Reactor L K) (s : Table) (got : Got (Msg L K)) → ((k : K) → view.number k ≡ number k) → BringsNew view got → Sizes t → Fits view t r s → InBounds s → IsBack s.last (got_of number got) → Settles number r got q → (starved : Bool) × Same view t q (settled t starved (got_of number got) s)
settles {L} {K} view t number r q s gots.Start own new sizes h b back z = (false, subst (λ (x : Reactor L K). Same view t x s) (sym z) h.same)
settles view t number r q s (gots.Took m) own new sizes h b back z = took_settled view t number (record r { empty = false }) q (record s { empty = false }) m own new (empty_same view t r s false h.same) (empty_bounds s false b) z
settles {L} {K} view t number r q s gots.Empty own new sizes h b back z = (false, subst (λ (x : Reactor L K). Same view t x (record s { empty = true })) (sym z) (empty_same view t r s true h.same))
settles view t number r q s gots.Pushed own new sizes h b back z = (false, pushed_settled view t r q s s.last sizes h.same b b.notes h.was z)
settles {L} {K} view t number r q s (gots.Full m) own new sizes h b back z = (false, subst (λ (k : Ask). Same view t q (full_by k (message_of number m) s)) (sym back.1) (back_settled view t number r q s back.0 m h.same b (subst (λ (k : Ask). WasAsked t s.given k r.asked) back.1 h.was) z))
settles {L} {K} view t number r q s gots.Nothing own new sizes h b back z = (false, subst (λ (x : Reactor L K). Same view t x s) (sym z) h.same)

-- what was asked stays known
pub asked_stays : {L K : Type 0} (number : K → ℕ) (r q : Reactor L K) (got : Got (Msg L K)) → Settles number r got q → q.asked ≡ r.asked
asked_stays {L} {K} number r q gots.Start z = ap (λ (x : Reactor L K). x.asked) z
asked_stays {L} {K} number r q (gots.Took m) z = by m z
  where
    by : (x : Msg L K) → SettlesMsg number (record r { empty = false }) x q → q.asked ≡ r.asked
    by (msgs.Fresh link ip ticket) y = ap (λ (x : Reactor L K). x.asked) y.1
    by (msgs.Send n b) y = ap (λ (x : Reactor L K). x.asked) y.1
    by (msgs.Close n) y = ap (λ (x : Reactor L K). x.asked) y.1
    by (msgs.Reset n) y = ap (λ (x : Reactor L K). x.asked) y.1
    by (msgs.Bye n) y = ap (λ (x : Reactor L K). x.asked) y.1
    by (msgs.Event e) y = ap (λ (x : Reactor L K). x.asked) y
    by (msgs.Over id) y = ap (λ (x : Reactor L K). x.asked) y
    by msgs.NoMore y = ap (λ (x : Reactor L K). x.asked) y
asked_stays {L} {K} number r q gots.Empty z = ap (λ (x : Reactor L K). x.asked) z
asked_stays {L} {K} number r q gots.Pushed z = by r.asked z
  where
    by : (x : Asked) → SettlesPush r x q → q.asked ≡ r.asked
    by (asks.Event w n k) y = ap (λ (x : Reactor L K). x.asked) y.1
    by asks.NoMore y = ap (λ (x : Reactor L K). x.asked) y
    by asks.Nothing y = ap (λ (x : Reactor L K). x.asked) y
    by asks.Take y = ap (λ (x : Reactor L K). x.asked) y
asked_stays {L} {K} number r q (gots.Full m) z = by m z
  where
    event : (x : Asked) (e : Event) → SettlesEvent r x e q → q.asked ≡ r.asked
    event (asks.Event w n k) e y = ap (λ (x : Reactor L K). x.asked) y.1
    event asks.NoMore e y = ap (λ (x : Reactor L K). x.asked) y
    event asks.Nothing e y = ap (λ (x : Reactor L K). x.asked) y
    event asks.Take e y = ap (λ (x : Reactor L K). x.asked) y

    by : (x : Msg L K) → SettlesFull r x q → q.asked ≡ r.asked
    by (msgs.Event e) y = event r.asked e y
    by (msgs.Fresh link ip ticket) y = ap (λ (x : Reactor L K). x.asked) y
    by (msgs.Send n b) y = ap (λ (x : Reactor L K). x.asked) y
    by (msgs.Close n) y = ap (λ (x : Reactor L K). x.asked) y
    by (msgs.Reset n) y = ap (λ (x : Reactor L K). x.asked) y
    by (msgs.Bye n) y = ap (λ (x : Reactor L K). x.asked) y
    by (msgs.Over id) y = ap (λ (x : Reactor L K). x.asked) y
    by msgs.NoMore y = ap (λ (x : Reactor L K). x.asked) y
asked_stays {L} {K} number r q gots.Nothing z = ap (λ (x : Reactor L K). x.asked) z
