-- A turn's answers may be taken to be faithful: the release's matters only where a connection leaves.
use Rattle.std.proofs.Common.{◌≡◌, ◌⊎◌, ℕ, ◌-◌, ◌^◌, ◌==◌, Bool, true, false, nat_lt, if◌then◌else◌, List, [], ◌∷◌, ◌++◌, Option, Some, None, refl, ap, ◌∙◌, sym, subst, inl, inr}
use Rattle.std.specs.Bool.{MatchBool}
use Rattle.sw_lists.specs.Lists.{collect, Each}
use Rattle.sw_data.specs.declared.messages.Got.{Got as TableGot}
use Rattle.sw_frame.specs.Cutting.{next_of}
use Rattle.sw_frame.specs.declared.next.Next.{Next}
use Rattle.sw_frame.specs.declared.next.Next.TheVariants as next
use Rattle.sw_record.specs.Words.{Event, Connect, Cause, EndedCount}
use Rattle.sw_record.specs.Terms.{Terms, keeps}
use Rattle.sw_past.specs.Messages.{Message}
use Rattle.sw_world_ports.specs.Calls.{Did, Lives, Other, Frees, Adds}
use Rattle.sw_world_ports.specs.Made.{found_in, free_in}
use Rattle.sw_reactor_table.specs.Conn.{Conn, Answers, Does, Pushes, Moves, Stays, Leaves, Served, pushes, plain, starve, cutter, cut_by, cause_by, connects, held_by, tidied, serve, writes, over_link}
use Rattle.sw_reactor_table.specs.Reactor.{Reactor as Table, Ask, Take, Push, Nothing, Rest, Finished, settled, turned, served_by, counted, serves, chosen, turn}
use Rattle.sw_reactor_table.specs.Quiet.{IsIdle}
use Rattle.sw_reactor_table.specs.Runs.{IsFaithful}
use Rattle.sw_world_reactor.specs.Calls.{NoCalls, LookCalls, IdleCalls, AimCalls, DoesCalls, ServeCalls, NextCalls, ChoiceCalls}
use Rattle.sw_world_reactor.specs.Reactors.{AllTold}

-- the same answers with another release
abbrev pub with_release : Answers → ℕ → Answers
with_release a x = record a { released = x }

cut_same : (t : Terms) (a : Answers) (x k : ℕ) (n : Next) (c : Conn) → cut_by t (with_release a x) k n c ≡ cut_by t a k n c
cut_same t a x k (next.Packet b) c = refl
cut_same t a x k next.More c = refl
cut_same t a x k (next.TooLong n) c = refl
cut_same t a x k (next.BadLength n) c = refl
cut_same t a x k next.OutOfMemory c = refl

cause_same : (t : Terms) (a : Answers) (x k : ℕ) (o : Option Cause) (c : Conn) → cause_by t (with_release a x) k o c ≡ cause_by t a k o c
cause_same t a x k None c = ap (λ (v : Served). if nat_lt c.dispatched (2 ^ 64 - 1) then v else plain c Stays) (cut_same t a x k (starve a.cut_starved (next_of (cutter t c))) c)
cause_same t a x k (Some e) c = refl

held_same : (t : Terms) (a : Answers) (x k : ℕ) (o : Option (ℕ × Event)) (c : Conn) → held_by t (with_release a x) k o c ≡ held_by t a k o c
held_same t a x k (Some h) c = refl
held_same t a x k None c = ap (λ (v : Served). if connects t c.phase then pushes t a k (Connect c.session) false c else v) (cause_same t a x k c.cause c)

pub serve_same : (t : Terms) (a : Answers) (x k : ℕ) (c : Conn) → serve t (with_release a x) k c ≡ serve t a k c
serve_same t a x k c = held_same t a x k (tidied a c).held (tidied a c)

served_same : (t : Terms) (a : Answers) (x : ℕ) (moved : Bool) (cs : List Conn) (d : Conn) (o : Does) (r : Table) → ((e : Cause) → o ≡ Leaves e → x ≡ a.released) → served_by t (with_release a x) moved cs d o r ≡ served_by t a moved cs d o r
served_same t a x moved cs d (Pushes w e) r h = refl
served_same t a x moved cs d Moves r h = refl
served_same t a x moved cs d Stays r h = refl
served_same t a x moved cs d (Leaves e) r h = ap (λ (u : ℕ). let z : Table = record (turned r.done cs r) { over = r.over ++ over_link t d u e ∷ []; last = Nothing; still = 0 } in z) (h e refl)

-- a release's answer matters where the next connection leaves
abbrev pub Agrees : Terms → Answers → ℕ → Ask → Table → Type 0
Agrees t a x ask r = ask ≡ Take → (c : Conn) (cs : List Conn) → r.next ≡ c ∷ cs → (e : Cause) → (serve t a r.round c).does ≡ Leaves e → x ≡ a.released

serves_same : (t : Terms) (a : Answers) (x : ℕ) (next : List Conn) (r : Table) → r.next ≡ next → Agrees t a x Take r → serves t (with_release a x) next r ≡ serves t a next r
serves_same t a x [] r e h = refl
serves_same t a x (c ∷ cs) r e h =
    ap (λ (v : Served). served_by t (with_release a x) (writes a.write c) cs v.conn v.does (record r { round = counted v.cuts r.round })) (serve_same t a x r.round c)
    ∙ served_same t a x (writes a.write c) cs (serve t a r.round c).conn (serve t a r.round c).does (record r { round = counted (serve t a r.round c).cuts r.round }) (λ z q. h refl c cs e z q)

chosen_same : (t : Terms) (a : Answers) (x : ℕ) (ask : Ask) (r : Table) → Agrees t a x ask r → chosen t (with_release a x) ask r ≡ chosen t a ask r
chosen_same t a x Take r h = serves_same t a x r.next r refl h
chosen_same t a x (Push w m) r h = refl
chosen_same t a x Nothing r h = refl
chosen_same t a x Rest r h = refl
chosen_same t a x Finished r h = refl

pub turn_same : (t : Terms) (starved : Bool) (a : Answers) (x : ℕ) (got : TableGot Message) (s : Table) → Agrees t a x s.last (settled t starved got s) → turn t starved (with_release a x) got s ≡ turn t starved a got s
turn_same t starved a x got s h = chosen_same t a x s.last (settled t starved got s) h

-- the calls are the same too
does_same : (t : Terms) (a : Answers) (x k s : ℕ) (held : Option (ℕ × Event)) (o : Does) (ds : List Did) → ((e : Cause) → o ≡ Leaves e → x ≡ a.released) → DoesCalls t a k s held o ds → DoesCalls t (with_release a x) k s held o ds
does_same t a x k s None (Pushes w e) ds h c = c
does_same t a x k s (Some b) (Pushes w e) ds h c = c
does_same t a x k s held Moves ds h c = c
does_same t a x k s held Stays ds h c = c
does_same t a x k s held (Leaves e) ds h c = (c.0, c.1 ∙ ap (λ (u : ℕ). Frees s u ∷ Adds EndedCount ∷ []) (sym (h e refl)))

next_same : (t : Terms) (a : Answers) (x : ℕ) (next : List Conn) (r : Table) (ds : List Did) → r.next ≡ next → Agrees t a x Take r → NextCalls t a r.round next ds → NextCalls t (with_release a x) r.round next ds
next_same t a x [] r ds e h c = c
next_same t a x (d ∷ es) r ds e h c =
    subst (λ (v : Served). DoesCalls t (with_release a x) r.round d.session (tidied a d).held v.does ds) (sym (serve_same t a x r.round d))
    (does_same t a x r.round d.session (tidied a d).held (serve t a r.round d).does ds (λ z q. h refl d es e z q) c)

choice_same : (t : Terms) (a : Answers) (x : ℕ) (ask : Ask) (r : Table) (ds : List Did) → Agrees t a x ask r → ChoiceCalls t a ask r ds → ChoiceCalls t (with_release a x) ask r ds
choice_same t a x Take r ds h c = next_same t a x r.next r ds refl h c
choice_same t a x (Push w m) r ds h c = c
choice_same t a x Nothing r ds h c = c
choice_same t a x Rest r ds h c = c
choice_same t a x Finished r ds h c = c

-- what was told says of a look and a release
no_look : (a : Answers) (word : ℕ → ℕ) (s : ℕ) (ds : List Did) → NoCalls a ds → (a.look ≡ 0) ⊎ (a.look ≡ word s)
no_look a word s ds c = inl c.0

look_told : (t : Terms) (a : Answers) (word : ℕ → ℕ) (k s : ℕ) (ds : List Did) → AllTold word ds → AimCalls t a k s ds → (a.look ≡ 0) ⊎ (a.look ≡ word s)
look_told t a word k s ds told c = pick (keeps t.mode) (t.mode == 5) (t.mode == 3) c
  where
    seen : LookCalls a s ds → (a.look ≡ 0) ⊎ (a.look ≡ word s)
    seen (Lives u, (e, q)) =
        (let h : Each (λ (p : ℕ × ℕ). (p.1 ≡ 0) ⊎ (p.1 ≡ word p.0)) ((s, u) ∷ []) = subst (λ (xs : List Did). Each (λ (p : ℕ × ℕ). (p.1 ≡ 0) ⊎ (p.1 ≡ word p.0)) (collect found_in xs)) q told.found in
        elim h.0 [ inl z ↦ inl (e ∙ z) | inr z ↦ inr (e ∙ z) ])
    seen (Other n, (e, q)) = inl e

    pick : (x y z : Bool) → MatchBool x (NoCalls a ds) (MatchBool y (LookCalls a s ds) (MatchBool z (IdleCalls t a k ds) (NoCalls a ds))) → (a.look ≡ 0) ⊎ (a.look ≡ word s)
    pick true y z h = inl h.0
    pick false true z h = seen h
    pick false false true h = inl h.0
    pick false false false h = inl h.0

does_look : (t : Terms) (a : Answers) (word : ℕ → ℕ) (k s : ℕ) (held : Option (ℕ × Event)) (o : Does) (ds : List Did) → AllTold word ds → DoesCalls t a k s held o ds → (a.look ≡ 0) ⊎ (a.look ≡ word s)
does_look t a word k s None (Pushes w e) ds told c = look_told t a word k s ds told c
does_look t a word k s (Some b) (Pushes w e) ds told c = inl c.0
does_look t a word k s held Moves ds told c = inl c.0
does_look t a word k s held Stays ds told c = inl c.0
does_look t a word k s held (Leaves e) ds told c = inl c.0

does_freed : (t : Terms) (a : Answers) (word : ℕ → ℕ) (k s : ℕ) (held : Option (ℕ × Event)) (o : Does) (ds : List Did) → AllTold word ds → DoesCalls t a k s held o ds → (e : Cause) → o ≡ Leaves e → word s ≡ a.released
does_freed t a word k s held (Pushes w x) ds told c e q = absurd (cc)
does_freed t a word k s held Moves ds told c e q = absurd (cc)
does_freed t a word k s held Stays ds told c e q = absurd (cc)
does_freed t a word k s held (Leaves x) ds told c e q = (let h = subst (λ (xs : List Did). Each (λ (p : ℕ × ℕ). p.1 ≡ word p.0) (collect free_in xs)) c.1 told.freed in sym h.0)

-- the next connection's uid
abbrev pub next_word : (ℕ → ℕ) → List Conn → ℕ
next_word word [] = 0
next_word word (c ∷ cs) = word c.session

word_next : (word : ℕ → ℕ) (ds : List Conn) (c : Conn) (cs : List Conn) → ds ≡ c ∷ cs → next_word word ds ≡ word c.session
word_next word ds c cs e = ap (next_word word) e

next_calls : (t : Terms) (a : Answers) (r : Table) (ds : List Did) → NextCalls t a r.round r.next ds → (c : Conn) (cs : List Conn) → r.next ≡ c ∷ cs → ServeCalls t a r.round c ds
next_calls t a r ds h c cs e = subst (λ (xs : List Conn). NextCalls t a r.round xs ds) e h

agree : (t : Terms) (a : Answers) (word : ℕ → ℕ) (ask : Ask) (r : Table) (ds : List Did) → AllTold word ds → ChoiceCalls t a ask r ds → Agrees t a (next_word word r.next) ask r
agree t a word Take r ds told h q c cs e x does = word_next word r.next c cs e ∙ does_freed t a word r.round c.session (tidied a c).held (serve t a r.round c).does ds told (next_calls t a r ds h c cs e) x does
agree t a word (Push w m) r ds told h q c cs e x does = absurd (cc)
agree t a word Nothing r ds told h q c cs e x does = absurd (cc)
agree t a word Rest r ds told h q c cs e x does = absurd (cc)
agree t a word Finished r ds told h q c cs e x does = absurd (cc)

looked : (t : Terms) (a : Answers) (word : ℕ → ℕ) (ask : Ask) (r : Table) (ds : List Did) → AllTold word ds → ChoiceCalls t a ask r ds → (c : Conn) (cs : List Conn) → r.next ≡ c ∷ cs → (a.look ≡ 0) ⊎ (a.look ≡ word c.session)
looked t a word Take r ds told h c cs e = does_look t a word r.round c.session (tidied a c).held (serve t a r.round c).does ds told (next_calls t a r ds h c cs e)
looked t a word (Push w m) r ds told h c cs e = inl h.0
looked t a word Nothing r ds told h c cs e = inl h.0
looked t a word Rest r ds told h c cs e = inl h.0
looked t a word Finished r ds told h c cs e = inl h.0

-- the answers with the release that the uids say
pub record Faithful (t : Terms) (word : ℕ → ℕ) (starved : Bool) (a : Answers) (got : TableGot Message) (s : Table) (ds : List Did) : Type 0 where
  pub answers : Answers
  pub faithful : IsFaithful t word answers (settled t starved got s)
  pub same : turn t starved answers got s ≡ turn t starved a got s
  pub calls : ChoiceCalls t answers s.last (settled t starved got s) ds

pub be_faithful : (t : Terms) (word : ℕ → ℕ) (starved : Bool) (a : Answers) (got : TableGot Message) (s : Table) (ds : List Did) → IsIdle t a → AllTold word ds → ChoiceCalls t a s.last (settled t starved got s) ds → Faithful t word starved a got s ds
be_faithful t word starved a got s ds idle told h =
    (let r : Table = settled t starved got s in
    let g : Agrees t a (next_word word r.next) s.last r = agree t a word s.last r ds told h in
    record {
      answers = with_release a (next_word word r.next);
      faithful = record { idle = idle; look = λ c cs e. looked t a word s.last r ds told h c cs e; released = λ c cs e. word_next word r.next c cs e };
      same = turn_same t starved a (next_word word r.next) got s g;
      calls = choice_same t a (next_word word r.next) s.last r ds g h;
    })
