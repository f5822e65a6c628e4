-- A reactor before its first turn, a link whose script goes on, and the record of a reactor's links.
use Rattle.std.proofs.Common.{◌≡◌, ◌⊎◌, ℕ, ◌<◌, ◌%◌, ◌==◌, nat_lt, Bool, true, false, if◌then◌else◌, List, [], ◌∷◌, ◌++◌, map, Option, Some, None, refl, ap, ◌∙◌, sym, subst, inl, inr, zero, suc, mod-eq_of_lt}
use Rattle.sw_data.specs.declared.ended.Ended.{Ended}
use Rattle.sw_lists.proofs.Lists.{eq_is}
use Rattle.sw_link.specs.declared.memory_link.MemoryLink.{MemoryLink}
use Rattle.sw_conn.specs.declared.conn.Conn.{Conn}
use Rattle.sw_conn.specs.Conn.{account}
use Rattle.sw_conn_fits.specs.Shown.{settings, shown}
use Rattle.sw_record.specs.declared.record.LinkRecord.{LinkRecord}
use Rattle.sw_record.specs.declared.record.LinkState.{LinkState}
use Rattle.sw_record.specs.declared.record.LinkState.TheVariants.{Live, Over}
use Rattle.sw_record.specs.Words.{Cause, PeerEnd, ServerClose, ResetCause, ReadFault, WriteFault, TooLong, BadLength, Overflow, Stop, NoSlot, NumbersSpent, NoMemory}
use Rattle.sw_record.specs.Terms.{Terms}
use Rattle.sw_reactor_table.specs.Conn.{Conn as Row, live_link}
use Rattle.sw_reactor_table.specs.Reactor.{Reactor as Table, all, live_links, kept, started}
use Rattle.sw_world_laws.specs.Account.{is_session}
use Rattle.sw_reactor.specs.declared.reactor.Reactor.{Reactor}
use Rattle.sw_reactor.specs.Line.{Lined, link_of, linked, with_link}
use Rattle.sw_reactor.specs.Reactor.{IsStarted}
use Rattle.sw_reactor_fits.specs.Told.{IsCauseTold, TellsOf}
use Rattle.sw_reactor_fits.specs.Fits.{IsRow, AreRows}
use Rattle.sw_world_reactor.specs.Reactors.{is_peer_end, is_fault, ended_by, any_ended, told_by}
use Rattle.sw_world_reactor_fits.specs.Plain.{memory_tells, AreEnds, ReactorIs, live_of, over_of, TellsSame, EndTold}

-- before its first turn
pub start_is : (t : Terms) (read_size : ℕ) (r : Reactor MemoryLink ℕ) → 0 < t.worker_num → IsStarted (settings t) t.framing read_size r → ReactorIs t r [] started
start_is t read_size r some h =
    record {
      fits = record {
        same = record {
          terms = h.terms;
          framing = h.framing;
          rows = subst (λ (l : Lined MemoryLink ℕ). AreRows memory_tells t l.conns []) (sym h.line) tt;
          at = h.at;
          tight = λ e. refl;
          empty = h.empty;
          still = h.still;
          ends = h.ends;
          given = h.given;
          turn = h.turn ∙ sym (mod-eq_of_lt some);
        };
        was = h.asked;
      };
      ends = tt;
    }

-- a link that tells the same in place of a session's
cause_same : (l m : MemoryLink) → TellsSame l m → (o : Option Cause) → IsCauseTold memory_tells l o → IsCauseTold memory_tells m o
cause_same l m s None h = tt
cause_same l m s (Some PeerEnd) h = s.at_end ∙ h
cause_same l m s (Some ReadFault) h = ap (nat_lt 0) s.faults ∙ h
cause_same l m s (Some WriteFault) h = ap (nat_lt 0) s.faults ∙ h
cause_same l m s (Some ServerClose) h = tt
cause_same l m s (Some ResetCause) h = tt
cause_same l m s (Some (TooLong n)) h = tt
cause_same l m s (Some (BadLength n)) h = tt
cause_same l m s (Some (Overflow n)) h = tt
cause_same l m s (Some Stop) h = tt
cause_same l m s (Some NoSlot) h = tt
cause_same l m s (Some NumbersSpent) h = tt
cause_same l m s (Some NoMemory) h = tt

tells_same : (l m : MemoryLink) → TellsSame l m → (ps : List (List ℕ)) (ws : List ℕ) (o : Option Cause) → TellsOf memory_tells l ps ws o → TellsOf memory_tells m ps ws o
tells_same l m s ps ws o h = (s.pieces ∙ h.0, s.written ∙ h.1, cause_same l m s o h.2)

rows_linked : (t : Terms) (s : ℕ) (m : MemoryLink) (cs : List (Conn MemoryLink ℕ)) (ds : List Row) → ((l : MemoryLink) → link_of s cs ≡ Some l → TellsSame l m) → AreRows memory_tells t cs ds → AreRows memory_tells t (linked s m cs) ds
rows_linked t s m [] [] f h = tt
rows_linked t s m [] (d ∷ ds) f h = absurd h
rows_linked t s m (c ∷ cs) [] f h = absurd h
rows_linked t s m (c ∷ cs) (d ∷ ds) f h = pick (c.session == s) (λ l e. f l e) (λ g. rows_linked t s m cs ds g h.1)
  where
    pick : (b : Bool) → ((l : MemoryLink) → (if b then Some c.link else link_of s cs) ≡ Some l → TellsSame l m) → (((l : MemoryLink) → link_of s cs ≡ Some l → TellsSame l m) → AreRows memory_tells t (linked s m cs) ds) → AreRows memory_tells t (if b then record c { link = m } ∷ cs else c ∷ linked s m cs) (d ∷ ds)
    pick true g rest = ((h.0.0, h.0.1, (tells_same c.link m (g c.link refl) d.pieces d.written d.cause h.0.2.0, h.0.2.1)), h.1)
    pick false g rest = (h.0, rest g)

pub script_is : (t : Terms) (r : Reactor MemoryLink ℕ) (ends : List (MemoryLink × Ended)) (s : Table) → ReactorIs t r ends s → (n : ℕ) (m : MemoryLink) → ((l : MemoryLink) → link_of n r.line.conns ≡ Some l → TellsSame l m) → ReactorIs t (record r { line = with_link r.line n m }) ends s
script_is t r ends s h n m same =
    (let k = h.fits.same in
    record {
      fits = record {
        same = record { terms = k.terms; framing = k.framing; rows = rows_linked t n m r.line.conns (all s) same k.rows; at = k.at; tight = k.tight; empty = k.empty; still = k.still; ends = k.ends; given = k.given; turn = k.turn };
        was = h.fits.was;
      };
      ends = h.ends;
    })

-- the record of its links
link_is : (k : LinkRecord) (ip : ℕ) (state : LinkState) (ps : List (List ℕ)) (ws : List ℕ) → k.ip ≡ ip → k.state ≡ state → k.pieces ≡ ps → k.written ≡ ws → k ≡ record { ip = ip; state = state; pieces = ps; written = ws }
link_is k ip state ps ws a b c d =
    ap (λ (x : ℕ). let l : LinkRecord = record { ip = x; state = k.state; pieces = k.pieces; written = k.written } in l) a
    ∙ ap (λ (x : LinkState). let l : LinkRecord = record { ip = ip; state = x; pieces = k.pieces; written = k.written } in l) b
    ∙ ap (λ (x : List (List ℕ)). let l : LinkRecord = record { ip = ip; state = state; pieces = x; written = k.written } in l) c
    ∙ ap (λ (x : List ℕ). let l : LinkRecord = record { ip = ip; state = state; pieces = ps; written = x } in l) d

live_is : (t : Terms) (c : Conn MemoryLink ℕ) (d : Row) → IsRow memory_tells t c d → live_link t d ≡ live_of t c
live_is t c d h =
    ap (live_link t) h.0
    ∙ link_is (live_link t (shown d.pieces d.written d.taken c)) c.ip (Live (account (settings t) c c.uid PeerEnd)) c.link.pieces c.link.written refl refl (sym h.2.0.0) (sym h.2.0.1)

lives_are : (t : Terms) (cs : List (Conn MemoryLink ℕ)) (ds : List Row) → AreRows memory_tells t cs ds → live_links t ds ≡ map (live_of t) cs
lives_are t [] [] h = refl
lives_are t [] (d ∷ ds) h = absurd h
lives_are t (c ∷ cs) [] h = absurd h
lives_are t (c ∷ cs) (d ∷ ds) h = ap (λ (k : LinkRecord). k ∷ live_links t ds) (live_is t c d h.0) ∙ ap (λ (ks : List LinkRecord). live_of t c ∷ ks) (lives_are t cs ds h.1)

ends_are : (xs : List (MemoryLink × Ended)) (ks : List LinkRecord) → AreEnds xs ks → ks ≡ map over_of xs
ends_are [] [] h = refl
ends_are [] (k ∷ ks) h = absurd h
ends_are (x ∷ xs) [] h = absurd h
ends_are (x ∷ xs) (k ∷ ks) h =
    ap (λ (j : LinkRecord). j ∷ ks) (link_is k (x.1).ip (Over x.1) (x.0).pieces (x.0).written h.0.1 h.0.0 (sym h.0.2.0) (sym h.0.2.1))
    ∙ ap (λ (js : List LinkRecord). over_of x ∷ js) (ends_are xs ks h.1)

pub kept_is : (t : Terms) (r : Reactor MemoryLink ℕ) (ends : List (MemoryLink × Ended)) (s : Table) → ReactorIs t r ends s → kept t s ≡ map (live_of t) r.line.conns ++ map over_of ends
kept_is t r ends s h = ap (λ (ks : List LinkRecord). ks ++ s.over) (lives_are t r.line.conns (all s) h.fits.same.rows) ∙ ap (λ (ks : List LinkRecord). map (live_of t) r.line.conns ++ ks) (ends_are ends s.over h.ends)

-- what is told of an end its link has told
end_by : (f : Cause → Bool) (n : ℕ) (x : LinkState) (e : Ended) → x ≡ Over e → ended_by f n x ≡ true → (e.session ≡ Some n) × (f e.cause ≡ true)
end_by f n x e is h = by e.session refl (sym (ap (ended_by f n) is) ∙ h)
  where
    by : (o : Option ℕ) → e.session ≡ o → (if is_session n e.session then f e.cause else false) ≡ true → (e.session ≡ Some n) × (f e.cause ≡ true)
    by None q g = absurd (let k : false ≡ true = sym (ap (λ (z : Option ℕ). if is_session n z then f e.cause else false) q) ∙ g in cc)
    by (Some u) q g = pick (u == n) refl (sym (ap (λ (z : Option ℕ). if is_session n z then f e.cause else false) q) ∙ g)
      where
        pick : (b : Bool) → (u == n) ≡ b → (if b then f e.cause else false) ≡ true → (e.session ≡ Some n) × (f e.cause ≡ true)
        pick true i y = (q ∙ ap Some (eq_is u n i), y)
        pick false i y = absurd (cc)

end_told : (f : Cause → Bool) (tells : MemoryLink → Bool) → ((l : MemoryLink) (c : Cause) → f c ≡ true → IsCauseTold memory_tells l (Some c) → tells l ≡ true) → (n : ℕ) (xs : List (MemoryLink × Ended)) (ks : List LinkRecord) → AreEnds xs ks → any_ended f n ks ≡ true → EndTold xs n tells
end_told f tells g n [] [] h e = absurd (cc)
end_told f tells g n [] (k ∷ ks) h e = absurd h
end_told f tells g n (x ∷ xs) [] h e = absurd h
end_told f tells g n (x ∷ xs) (k ∷ ks) h e = pick (ended_by f n k.state) refl e (λ z. end_told f tells g n xs ks h.1 z)
  where
    pick : (b : Bool) → ended_by f n k.state ≡ b → (if b then true else any_ended f n ks) ≡ true → (any_ended f n ks ≡ true → EndTold xs n tells) → EndTold (x ∷ xs) n tells
    pick true q z rest = (let w = end_by f n k.state x.1 h.0.0 q in record { link = x.0; ended = x.1; there = (0, refl); session = w.0; told = g x.0 (x.1).cause w.1 h.0.2.2 })
    pick false q z rest = (let w = rest z in record { link = w.link; ended = w.ended; there = (suc w.there.0, w.there.1); session = w.session; told = w.told })

peer_told : (l : MemoryLink) (c : Cause) → is_peer_end c ≡ true → IsCauseTold memory_tells l (Some c) → l.at_end ≡ true
peer_told l PeerEnd e h = h
peer_told l ServerClose e h = absurd (cc)
peer_told l ResetCause e h = absurd (cc)
peer_told l ReadFault e h = absurd (cc)
peer_told l WriteFault e h = absurd (cc)
peer_told l (TooLong n) e h = absurd (cc)
peer_told l (BadLength n) e h = absurd (cc)
peer_told l (Overflow n) e h = absurd (cc)
peer_told l Stop e h = absurd (cc)
peer_told l NoSlot e h = absurd (cc)
peer_told l NumbersSpent e h = absurd (cc)
peer_told l NoMemory e h = absurd (cc)

fault_told : (l : MemoryLink) (c : Cause) → is_fault c ≡ true → IsCauseTold memory_tells l (Some c) → memory_tells.failed l ≡ true
fault_told l PeerEnd e h = absurd (cc)
fault_told l ServerClose e h = absurd (cc)
fault_told l ResetCause e h = absurd (cc)
fault_told l ReadFault e h = h
fault_told l WriteFault e h = h
fault_told l (TooLong n) e h = absurd (cc)
fault_told l (BadLength n) e h = absurd (cc)
fault_told l (Overflow n) e h = absurd (cc)
fault_told l Stop e h = absurd (cc)
fault_told l NoSlot e h = absurd (cc)
fault_told l NumbersSpent e h = absurd (cc)
fault_told l NoMemory e h = absurd (cc)

pub end_is_told : (t : Terms) (r : Reactor MemoryLink ℕ) (ends : List (MemoryLink × Ended)) (s : Table) → ReactorIs t r ends s → (n : ℕ) → (told_by s n).at_end ≡ true → EndTold ends n (λ l. l.at_end)
end_is_told t r ends s h n e = end_told is_peer_end (λ l. l.at_end) peer_told n ends s.over h.ends e

pub fault_is_told : (t : Terms) (r : Reactor MemoryLink ℕ) (ends : List (MemoryLink × Ended)) (s : Table) → ReactorIs t r ends s → (n : ℕ) → (told_by s n).failed ≡ true → EndTold ends n (memory_tells.failed)
fault_is_told t r ends s h n e = end_told is_fault (memory_tells.failed) fault_told n ends s.over h.ends e
