-- What a connection does is what the table says, part by part.
use Rattle.std.proofs.Common.{◌≡◌, ◌⊎◌, ℕ, ◌+◌, ◌-◌, ◌<◌, ◌==◌, ◌^◌, Bool, true, false, nat_lt, if◌then◌else◌, List, [], ◌∷◌, ◌++◌, length, take, drop, slice_get, Option, Some, None, refl, ap, ◌∙◌, sym, subst, inl, inr, arith}
use Rattle.std.proofs.lemmas.Bool.Decides.{nat_tests}
use Rattle.std.specs.Bool.{MatchBool}
use Rattle.sw_data.specs.declared.ended.Cause.{Cause}
use Rattle.sw_data.specs.declared.ended.Cause.TheVariants as causes
use Rattle.sw_data.specs.declared.events.Event.{Event}
use Rattle.sw_data.specs.declared.events.Event.TheVariants.{Connect, Packet, Closed, Finish, Task}
use Rattle.sw_frame.specs.Cut.{cut}
use Rattle.sw_frame.specs.Cutting.{Cutting, next_of, after, IsAnswer}
use Rattle.sw_frame.specs.declared.framing.Framing.{Framing}
use Rattle.sw_frame.specs.declared.next.Next.{Next}
use Rattle.sw_frame.specs.declared.next.Next.TheVariants as next
use Rattle.sw_link.specs.declared.link.LinkWrite.{LinkWrite}
use Rattle.sw_link.specs.declared.link.LinkWrite.TheVariants as writing
use Rattle.sw_link.specs.Reads.{Read, GotPiece, ReadNotYet, ReadEnd, ReadFailed}
use Rattle.sw_conn.specs.declared.conn.Conn.{Conn}
use Rattle.sw_conn.specs.declared.conn.Phase.TheVariants.{Open, Closing}
use Rattle.sw_conn.specs.declared.serve.Step.{Step}
use Rattle.sw_conn.specs.declared.serve.Step.TheVariants as steps
use Rattle.sw_conn.specs.Modes.{keeps}
use Rattle.sw_conn.specs.Causes.{is_hard, is_packet_event}
use Rattle.sw_conn.specs.Conn as conn
use Rattle.sw_conn.specs.Serve as serving
use Rattle.sw_record.specs.Terms.{Terms}
use Rattle.sw_reactor_table.specs.Conn.{Conn as Row, Answers, Served, Pushes, Moves, Stays, Leaves, plain, pushes, starve, read_by, cut_by, cuts_next, end_by, cause_by, open_by, held_by}
use Rattle.sw_reactor_table.specs.Conn as table
use Rattle.sw_conn_fits.specs.Shown.{settings, shown, IsCut, write_of, written_by, pieces_by, some_write, IsStep, IsServed}

-- what is settled
pub shown_sent : {L K : Type 0} (t : Terms) (starved : Bool) (b : List ℕ) (ps : List (List ℕ)) (ws : List ℕ) (n : ℕ) (c : Conn L K) → shown ps ws n (conn.sent (settings t) starved b c) ≡ table.sent t starved b (shown ps ws n c)
shown_sent {L} {K} t starved b ps ws n c = pick (is_hard c.cause) (nat_lt t.buffer_size (length c.unsent + length b)) starved
  where
    pick : (x y z : Bool) → ◌≡◌ {A = Row} (shown {L = L} {K = K} ps ws n (if x then c else (if y then record c { cause = Some (causes.Overflow (length c.unsent + length b)) } else (if z then record c { cause = Some causes.NoMemory } else record c { unsent = c.unsent ++ b })))) (if x then shown ps ws n c else (if y then record (shown ps ws n c) { cause = Some (causes.Overflow (length c.unsent + length b)) } else (if z then record (shown ps ws n c) { cause = Some causes.NoMemory } else record (shown ps ws n c) { unsent = c.unsent ++ b })))
    pick true y z = refl
    pick false true z = refl
    pick false false true = refl
    pick false false false = refl

pub shown_closes : {L K : Type 0} (ps : List (List ℕ)) (ws : List ℕ) (n : ℕ) (c : Conn L K) → ◌≡◌ {A = Row} (shown ps ws n (conn.closes c)) (record (shown ps ws n c) { cause = conn.set_soft causes.ServerClose c.cause })
shown_closes ps ws n c = refl

pub shown_resets : {L K : Type 0} (ps : List (List ℕ)) (ws : List ℕ) (n : ℕ) (c : Conn L K) → ◌≡◌ {A = Row} (shown ps ws n (conn.resets c)) (record (shown ps ws n c) { cause = conn.set_hard causes.Reset c.cause })
shown_resets ps ws n c = refl

pub shown_stops : {L K : Type 0} (ps : List (List ℕ)) (ws : List ℕ) (n : ℕ) (c : Conn L K) → shown ps ws n (conn.stops c) ≡ table.stops (shown ps ws n c)
shown_stops ps ws n c = refl

pub shown_answered : {L K : Type 0} (ps : List (List ℕ)) (ws : List ℕ) (n : ℕ) (c : Conn L K) → ◌≡◌ {A = Row} (shown ps ws n (conn.answered c)) (record (shown ps ws n c) { awaited = c.awaited - 1 })
shown_answered ps ws n c = refl

pub shown_holds : {L K : Type 0} (ps : List (List ℕ)) (ws : List ℕ) (n : ℕ) (w : ℕ) (e : Event) (c : Conn L K) → shown ps ws n (conn.holds w e c) ≡ table.holds w e (shown ps ws n c)
shown_holds ps ws n w e c = refl

pub shown_fresh : {L K : Type 0} (framing : Framing) (link : L) (ip : ℕ) (ticket : K) (s : ℕ) (c : Conn L K) → conn.IsFresh framing link ip ticket s c → (starved : Bool) × (shown [] [] 0 c ≡ table.fresh starved ip s)
shown_fresh {L} {K} framing link ip ticket s c (inl e) = (false, ap (shown {L = L} {K = K} [] [] 0) e)
shown_fresh {L} {K} framing link ip ticket s c (inr e) = (true, ap (shown {L = L} {K = K} [] [] 0) e)

-- below the bounds of its counts an event that was pushed is noted as the table has it
below_up : (n : ℕ) → n < 2 ^ 64 - 1 → conn.up n ≡ n + 1
below_up n lt = ap (λ (b : Bool). if b then n + 1 else n) (let e : nat_lt n (2 ^ 64 - 1) ≡ true = grind (arith, nat_tests) in e)

below_far : (n : ℕ) → n < 2 ^ 128 - 1 → conn.up_far n ≡ n + 1
below_far n lt = ap (λ (b : Bool). if b then n + 1 else n) (let e : nat_lt n (2 ^ 128 - 1) ≡ true = grind (arith, nat_tests) in e)

pub shown_noted : {L K : Type 0} (t : Terms) (ps : List (List ℕ)) (ws : List ℕ) (n : ℕ) (e : Event) (c : Conn L K) → (is_packet_event e ≡ true → c.dispatched < 2 ^ 64 - 1) → c.awaited < 2 ^ 128 - 1 → shown ps ws n (conn.noted (settings t) (conn.kind_of e) c) ≡ table.noted t e (shown ps ws n c)
shown_noted {L} {K} t ps ws n (Connect s) c few lt = ap (λ (m : ℕ). let d : Conn L K = record c { phase = Open; awaited = (if keeps t.mode then c.awaited else m) } in shown ps ws n d) (below_far c.awaited lt)
shown_noted {L} {K} t ps ws n (Packet s i b) c few lt = ap (λ (m : ℕ). let d : Conn L K = record c { dispatched = conn.up c.dispatched; awaited = (if keeps t.mode then c.awaited else m) } in shown ps ws n d) (below_far c.awaited lt) ∙ ap (λ (m : ℕ). let d : Conn L K = record c { dispatched = m; awaited = (if keeps t.mode then c.awaited else c.awaited + 1) } in shown ps ws n d) (below_up c.dispatched (few refl))
shown_noted {L} {K} t ps ws n (Closed s) c few lt = ap (λ (m : ℕ). let d : Conn L K = record c { phase = Closing; awaited = m } in shown ps ws n d) (below_far c.awaited lt)
shown_noted t ps ws n (Finish id b) c few lt = refl
shown_noted t ps ws n (Task w id b) c few lt = refl

-- point 1
pub shown_cleared : {L K : Type 0} (ps : List (List ℕ)) (ws : List ℕ) (n : ℕ) (c : Conn L K) → shown ps ws n (conn.cleared c) ≡ table.cleared (shown ps ws n c)
shown_cleared ps ws n c = refl

no_write : (w : LinkWrite) (d : Row) (x : Bool) (us : List ℕ) → (if x then false else conn.has_unsent us) ≡ false → ◌≡◌ {A = Row} d (if x then d else table.flushed_some w us d)
no_write w d true us e = refl
no_write w d false [] e = refl
no_write w d false (b ∷ bs) e = absurd (cc)

some_flush : (w : LinkWrite) (d : Row) (x : Bool) (us : List ℕ) → (if x then false else conn.has_unsent us) ≡ true → ◌≡◌ {A = Row} (table.wrote w d) (if x then d else table.flushed_some w us d)
some_flush w d true us e = absurd (cc)
some_flush w d false [] e = absurd (cc)
some_flush w d false (b ∷ bs) e = refl

shown_wrote : {L K : Type 0} (ps : List (List ℕ)) (ws : List ℕ) (n : ℕ) (w : LinkWrite) (c : Conn L K) → shown ps (written_by (Some w) c.unsent ws) n (conn.wrote w c) ≡ table.wrote w (shown ps ws n c)
shown_wrote ps ws n (writing.Took k) c = refl
shown_wrote ps ws n writing.NotYet c = refl
shown_wrote ps ws n writing.Failed c = refl

pub shown_flushed : {L K : Type 0} (gives : L → List ℕ → LinkWrite → L → Type 0) (ps : List (List ℕ)) (ws : List ℕ) (n : ℕ) (c d : Conn L K) (wrote : Option LinkWrite) → serving.FlushedBy gives c wrote d → shown ps (written_by wrote c.unsent ws) n d ≡ table.flushed (write_of wrote) (shown ps ws n c)
shown_flushed {L} {K} gives ps ws n c d None f = ap (shown {L = L} {K = K} ps ws n) f.1 ∙ no_write writing.NotYet (shown ps ws n c) (is_hard c.cause) c.unsent f.0
shown_flushed {L} {K} gives ps ws n c d (Some w) f = ap (shown {L = L} {K = K} ps (written_by (Some w) c.unsent ws) n) f.2 ∙ shown_wrote ps ws n w c ∙ some_flush w (shown ps ws n c) (is_hard c.cause) c.unsent f.0

-- a write moved something where the table says so
pub shown_moved : {L K : Type 0} (gives : L → List ℕ → LinkWrite → L → Type 0) (ps : List (List ℕ)) (ws : List ℕ) (n : ℕ) (c d : Conn L K) (wrote : Option LinkWrite) → serving.FlushedBy gives c wrote d → table.writes (write_of wrote) (shown ps ws n c) ≡ some_write wrote
shown_moved gives ps ws n c d None f = none (is_hard c.cause) c.unsent
  where
    none : (x : Bool) (us : List ℕ) → (if x then false else (if conn.has_unsent us then false else false)) ≡ false
    none true us = refl
    none false [] = refl
    none false (b ∷ bs) = refl
shown_moved gives ps ws n c d (Some w) f = some (is_hard c.cause) c.unsent f.0 ∙ by w
  where
    some : (x : Bool) (us : List ℕ) → (if x then false else conn.has_unsent us) ≡ true → (if x then false else (if conn.has_unsent us then table.moves_some w else false)) ≡ table.moves_some w
    some true us e = absurd (cc)
    some false [] e = absurd (cc)
    some false (b ∷ bs) e = refl

    by : (v : LinkWrite) → table.moves_some v ≡ some_write (Some v)
    by (writing.Took k) = refl
    by writing.NotYet = refl
    by writing.Failed = refl

-- the cutter is left alone by a write and by point 1, but for a cause that the write finds
pub cut_flushed : {L K : Type 0} (gives : L → List ℕ → LinkWrite → L → Type 0) (t : Terms) (ps : List (List ℕ)) (n : ℕ) (c d : Conn L K) (wrote : Option LinkWrite) → serving.FlushedBy gives c wrote d → IsCut t ps n c → IsCut t ps n d
cut_flushed {L} {K} gives t ps n c d None f h = subst (IsCut {L = L} {K = K} t ps n) (sym f.1) h
cut_flushed {L} {K} gives t ps n c d (Some w) f h = subst (IsCut {L = L} {K = K} t ps n) (sym f.2) (by w)
  where
    by : (v : LinkWrite) → IsCut {L = L} {K = K} t ps n (record (conn.wrote v c) { link = d.link })
    by (writing.Took k) = h
    by writing.NotYet = h
    by writing.Failed = λ e. absurd (cc)

-- the look of mode 5
pub shown_sees : {L K : Type 0} (ps : List (List ℕ)) (ws : List ℕ) (n look : ℕ) (c : Conn L K) → shown ps ws n (conn.sees look c) ≡ table.sees look (shown ps ws n c)
shown_sees {L} {K} ps ws n look c = pick (c.uid == 0)
  where
    pick : (b : Bool) → ◌≡◌ {A = Row} (shown {L = L} {K = K} ps ws n (if b then record c { uid = look; split = c.dispatched } else c)) (if b then record (shown ps ws n c) { uid = look; split = c.dispatched } else shown ps ws n c)
    pick true = refl
    pick false = refl

-- points 2 to 9: what a step is of the table's serve, however its ports answer but for want of memory in the cutter
pub record IsChosen {L K : Type 0} (t : Terms) (ps : List (List ℕ)) (ws : List ℕ) (n : ℕ) (made : Answers → ℕ → Served) (d : Conn L K) (step : Step) : Type 0 where
  -- whether the cutter found no memory, and the packets that were taken from it
  pub starved : Bool
  pub taken : ℕ
  pub is : (a : Answers) (k : ℕ) → a.cut_starved ≡ starved → IsStep t a k (shown ps ws taken d) step (made a k)
  pub cut : IsCut t ps taken d
  -- a read comes only without a cause, behind all packets
  pub reads : step ≡ steps.Read → (d.cause ≡ None) × (taken ≡ n)

-- what the cutter answers
answered_by : {L K : Type 0} (t : Terms) (ps : List (List ℕ)) (ws : List ℕ) (n : ℕ) (c : Conn L K) → c.cause ≡ None → c.cutter ≡ record { framing = t.framing; pieces = ps; given = n } → (due m : Next) → IsAnswer due m → next_of c.cutter ≡ due → IsChosen t ps ws n (λ a k. cut_by t a k (starve a.cut_starved due) (shown ps ws n c)) (serving.cut_by m c).conn (serving.cut_by m c).step
answered_by {L} {K} t ps ws n c free cutter due (next.Packet b) i e =
    record {
      starved = false;
      taken = n + 1;
      is = λ a k h. subst (λ (x : Next). cut_by t a k (starve a.cut_starved x) (shown ps ws n c) ≡ pushes t a k (Packet c.session c.dispatched b) true (shown ps ws (n + 1) c)) i (rw h refl);
      cut = λ z. ap (λ (x : Cutting). after x (next.Packet b)) cutter;
      reads = λ z. absurd (cc);
    }
answered_by {L} {K} t ps ws n c free cutter due next.More i e =
    record {
      starved = false;
      taken = n;
      is = λ a k h. subst (λ (x : Next). cut_by t a k (starve a.cut_starved x) (shown ps ws n c) ≡ read_by a.feed_starved a.read (shown ps ws n c)) i refl;
      cut = λ z. cutter;
      reads = λ z. (free, refl);
    }
answered_by {L} {K} t ps ws n c free cutter due (next.TooLong m) i e =
    record {
      starved = false;
      taken = n;
      is = λ a k h. subst (λ (x : Next). cut_by t a k (starve a.cut_starved x) (shown ps ws n c) ≡ plain (record (shown ps ws n c) { cause = Some (causes.TooLong m) }) Moves) i refl;
      cut = λ z. absurd (cc);
      reads = λ z. absurd (cc);
    }
answered_by {L} {K} t ps ws n c free cutter due (next.BadLength m) i e =
    record {
      starved = false;
      taken = n;
      is = λ a k h. subst (λ (x : Next). cut_by t a k (starve a.cut_starved x) (shown ps ws n c) ≡ plain (record (shown ps ws n c) { cause = Some (causes.BadLength m) }) Moves) i refl;
      cut = λ z. absurd (cc);
      reads = λ z. absurd (cc);
    }
answered_by {L} {K} t ps ws n c free cutter due next.OutOfMemory i e =
    record {
      starved = true;
      taken = n;
      is = λ a k h. subst (λ (x : Next). cut_by t a k (starve a.cut_starved x) (shown ps ws n c) ≡ plain (record (shown ps ws n c) { cause = Some causes.NoMemory }) Moves) (sym i.1) (rw h refl);
      cut = λ z. absurd (cc);
      reads = λ z. absurd (cc);
    }

-- a choice by equations
chosen_same : {L K : Type 0} (t : Terms) (ps : List (List ℕ)) (ws : List ℕ) (n : ℕ) (made : Answers → ℕ → Served) (c d : Conn L K) (x y : Step) → d ≡ c → y ≡ x → IsChosen t ps ws n made c x → IsChosen t ps ws n made d y
chosen_same {L} {K} t ps ws n made c d x y e f h = subst (λ (z : Conn L K). IsChosen t ps ws n made z y) (sym e) (subst (λ (z : Step). IsChosen t ps ws n made c z) (sym f) h)

cuts_chosen : {L K : Type 0} (t : Terms) (ps : List (List ℕ)) (ws : List ℕ) (n : ℕ) (c d : Conn L K) (step : Step) → c.cause ≡ None → IsCut t ps n c → serving.Cuts c d step → IsChosen t ps ws n (λ a k. cuts_next t a k (shown ps ws n c)) d step
cuts_chosen {L} {K} t ps ws n c d step free h (m, i, e, f) =
    (let cutter : c.cutter ≡ record { framing = t.framing; pieces = ps; given = n } = h free in
    chosen_same t ps ws n (λ a k. cuts_next t a k (shown ps ws n c)) (serving.cut_by m c).conn d (serving.cut_by m c).step step e f
    (answered_by t ps ws n c free cutter (next_of (record { framing = t.framing; pieces = ps; given = n })) m (subst (λ (x : Cutting). IsAnswer (next_of x) m) cutter i) (ap next_of cutter)))

ended_chosen : {L K : Type 0} (t : Terms) (ps : List (List ℕ)) (ws : List ℕ) (n : ℕ) (c : Conn L K) (e : Cause) → IsCut t ps n c → IsChosen t ps ws n (λ a k. end_by t a k e (shown ps ws n c)) c (serving.ended_by (settings t) c e)
ended_chosen {L} {K} t ps ws n c e h = pick (table.closes t c.phase) refl (table.can_leave (shown ps ws n c))
  where
    pick : (x : Bool) → table.closes t c.phase ≡ x → (y : Bool) → IsChosen {L = L} {K = K} t ps ws n (λ a k. if x then pushes t a k (Closed c.session) false (shown ps ws n c) else plain (shown ps ws n c) (if y then Leaves e else Stays)) c (if x then steps.Tell (Closed c.session) else (if y then steps.Leave e else steps.Stay))
    pick true q y = record { starved = false; taken = n; is = λ a k z. refl; cut = h; reads = λ z. absurd (cc) }
    pick false q true = record { starved = false; taken = n; is = λ a k z. refl; cut = h; reads = λ z. absurd (cc) }
    pick false q false = record { starved = false; taken = n; is = λ a k z. refl; cut = h; reads = λ z. absurd (cc) }

cause_chosen : {L K : Type 0} (t : Terms) (ps : List (List ℕ)) (ws : List ℕ) (n : ℕ) (o : Option Cause) (c d : Conn L K) (step : Step) → c.cause ≡ o → IsCut t ps n c → serving.ChoosesCause (settings t) o c d step → IsChosen t ps ws n (λ a k. cause_by t a k o (shown ps ws n c)) d step
cause_chosen {L} {K} t ps ws n None c d step free h m = pick (nat_lt c.dispatched (2 ^ 64 - 1)) m
  where
    pick : (x : Bool) → MatchBool x (serving.Cuts c d step) ((d ≡ c) × (step ≡ steps.Stay)) → IsChosen {L = L} {K = K} t ps ws n (λ a k. if x then cuts_next t a k (shown ps ws n c) else plain (shown ps ws n c) Stays) d step
    pick true q = cuts_chosen t ps ws n c d step free h q
    pick false q = chosen_same t ps ws n (λ a k. plain (shown ps ws n c) Stays) c d steps.Stay step q.0 q.1 (record { starved = false; taken = n; is = λ a k z. refl; cut = h; reads = λ z. absurd (cc) })
cause_chosen {L} {K} t ps ws n (Some e) c d step caused h m = chosen_same t ps ws n (λ a k. end_by t a k e (shown ps ws n c)) c d (serving.ended_by (settings t) c e) step m.0 m.1 (ended_chosen t ps ws n c e h)

open_chosen : {L K : Type 0} (t : Terms) (ps : List (List ℕ)) (ws : List ℕ) (n : ℕ) (c d : Conn L K) (step : Step) → IsCut t ps n c → serving.ChoosesOpen (settings t) c d step → IsChosen t ps ws n (λ a k. open_by t a k (shown ps ws n c)) d step
open_chosen {L} {K} t ps ws n c d step h m = pick (table.connects t c.phase) m
  where
    pick : (x : Bool) → MatchBool x ((d ≡ c) × (step ≡ steps.Tell (Connect c.session))) (serving.ChoosesCause (settings t) c.cause c d step) → IsChosen {L = L} {K = K} t ps ws n (λ a k. if x then pushes t a k (Connect c.session) false (shown ps ws n c) else cause_by t a k c.cause (shown ps ws n c)) d step
    pick true q = chosen_same t ps ws n (λ a k. pushes t a k (Connect c.session) false (shown ps ws n c)) c d (steps.Tell (Connect c.session)) step q.0 q.1 (record { starved = false; taken = n; is = λ a k z. refl; cut = h; reads = λ z. absurd (cc) })
    pick false q = cause_chosen t ps ws n c.cause c d step refl h q

held_chosen : {L K : Type 0} (t : Terms) (ps : List (List ℕ)) (ws : List ℕ) (n : ℕ) (o : Option (ℕ × Event)) (c d : Conn L K) (step : Step) → IsCut t ps n c → serving.ChoosesHeld (settings t) o c d step → IsChosen t ps ws n (λ a k. held_by t a k o (shown ps ws n c)) d step
held_chosen {L} {K} t ps ws n (Some x) c d step h m = chosen_same t ps ws n (λ a k. plain (record (shown ps ws n c) { held = None }) (Pushes x.0 x.1)) (record c { held = None }) d (steps.Again x.0 x.1) step m.0 m.1 (record { starved = false; taken = n; is = λ a k z. refl; cut = h; reads = λ z. absurd (cc) })
held_chosen t ps ws n None c d step h m = open_chosen t ps ws n c d step h m

-- points 2 to 9
pub chosen_is : {L K : Type 0} (t : Terms) (ps : List (List ℕ)) (ws : List ℕ) (n : ℕ) (c d : Conn L K) (step : Step) → IsCut t ps n c → serving.Chooses (settings t) c d step → IsChosen t ps ws n (λ a k. held_by t a k c.held (shown ps ws n c)) d step
chosen_is t ps ws n c d step h m = held_chosen t ps ws n c.held c d step h m

-- a read
pub shown_read : {L K : Type 0} (t : Terms) (ps : List (List ℕ)) (ws : List ℕ) (n : ℕ) (starved : Bool) (r : Read) (c : Conn L K) → c.cause ≡ None → shown (pieces_by r ps) ws n (conn.read_by starved r c) ≡ (read_by starved r (shown ps ws n c)).conn
shown_read {L} {K} t ps ws n starved (GotPiece p) c free = pick starved
  where
    pick : (b : Bool) → ◌≡◌ {A = Row} (shown {L = L} {K = K} (ps ++ p ∷ []) ws n (if b then record c { cause = Some causes.NoMemory } else record c { cutter = record c.cutter { pieces = c.cutter.pieces ++ p ∷ [] } })) (record (shown ps ws n c) { pieces = ps ++ p ∷ []; cause = (if b then Some causes.NoMemory else None) })
    pick true = refl
    pick false = ap (λ (o : Option Cause). let d : Row = record (shown ps ws n c) { pieces = ps ++ p ∷ []; cause = o } in d) free
shown_read t ps ws n starved ReadNotYet c free = refl
shown_read t ps ws n starved ReadEnd c free = refl
shown_read t ps ws n starved ReadFailed c free = refl

pub cut_read : {L K : Type 0} (t : Terms) (ps : List (List ℕ)) (n : ℕ) (starved : Bool) (r : Read) (c : Conn L K) → c.cause ≡ None → IsCut t ps n c → IsCut t (pieces_by r ps) n (conn.read_by starved r c)
cut_read {L} {K} t ps n starved (GotPiece p) c free h = pick starved
  where
    pick : (b : Bool) → IsCut {L = L} {K = K} t (ps ++ p ∷ []) n (if b then record c { cause = Some causes.NoMemory } else record c { cutter = record c.cutter { pieces = c.cutter.pieces ++ p ∷ [] } })
    pick true = λ z. absurd (cc)
    pick false = λ z. ap (λ (x : Cutting). let d : Cutting = record x { pieces = x.pieces ++ p ∷ [] } in d) (h free)
cut_read t ps n starved ReadNotYet c free h = h
cut_read t ps n starved ReadEnd c free h = λ z. absurd (cc)
cut_read t ps n starved ReadFailed c free h = λ z. absurd (cc)

-- the worker of an event
pub shown_home : {L K : Type 0} (t : Terms) (a : Answers) (k : ℕ) (ps : List (List ℕ)) (ws : List ℕ) (n : ℕ) (c : Conn L K) → keeps t.mode ≡ true → table.place t a k (shown ps ws n c) ≡ conn.home (settings t) c
shown_home t a k ps ws n c e = rw e refl

pub shown_side : {L K : Type 0} (t : Terms) (a : Answers) (k : ℕ) (ps : List (List ℕ)) (ws : List ℕ) (n : ℕ) (c : Conn L K) → keeps t.mode ≡ false → (t.mode == 5) ≡ true → table.place t a k (shown ps ws n c) ≡ conn.side (settings t) c
shown_side t a k ps ws n c e f = rw (e, f) refl

pub shown_account : {L K : Type 0} (t : Terms) (ps : List (List ℕ)) (ws : List ℕ) (n : ℕ) (c : Conn L K) (uid : ℕ) (e : Cause) → table.account t (shown ps ws n c) uid e ≡ conn.account (settings t) c uid e
shown_account t ps ws n c uid e = refl

-- a whole serve: its write, point 1, and what it chooses
pub served_is : {L K : Type 0} (gives : L → List ℕ → LinkWrite → L → Type 0) (t : Terms) (ps : List (List ℕ)) (ws : List ℕ) (n : ℕ) (c l d : Conn L K) (wrote : Option LinkWrite) (step : Step) → IsCut t ps n c → serving.FlushedBy gives c wrote l → serving.Chooses (settings t) (conn.cleared l) d step → IsServed t ps ws n c d wrote step
served_is {L} {K} gives t ps ws n c l d wrote step h f m =
    let ws2 : List ℕ = written_by wrote c.unsent ws in
    let v : IsChosen t ps ws2 n (λ a k. held_by t a k (conn.cleared l).held (shown ps ws2 n (conn.cleared l))) d step = chosen_is t ps ws2 n (conn.cleared l) d step (cut_flushed gives t ps n c l wrote f h) m in
    record {
      starved = v.starved;
      taken = v.taken;
      is = λ a k e g. subst (λ (x : Row). IsStep t a k (shown ps ws2 v.taken d) step (held_by t a k (table.cleared x).held (table.cleared x)))
          (shown_flushed gives ps ws n c l wrote f ∙ ap (λ (w : LinkWrite). table.flushed w (shown ps ws n c)) (sym e)) (v.is a k g);
      cut = v.cut;
      reads = v.reads;
    }
