-- Mode 5: packets before the split go to the worker of the descriptor, the others to that of the binding.
use Rattle.std.proofs.Common.{◌≡◌, ◌⊎◌, ℕ, ◌+◌, ◌<◌, ◌≤◌, ◌==◌, Bool, true, false, nat_lt, if◌then◌else◌, List, [], ◌∷◌, ◌++◌, length, take, drop, refl, ap, ◌∙◌, sym, subst, append-nil, arith, Option, Some, inl, inr, zero, suc}
use Rattle.std.proofs.lemmas.Bool.Decides.{nat_tests}
use Rattle.std.proofs.lemmas.List.{take-append-drop}
use Rattle.sw_conn.specs.declared.conn.Phase.{Phase}
use Rattle.sw_conn.specs.declared.conn.Phase.TheVariants.{Coming, Open, Closing}
use Rattle.sw_conn.specs.Modes.{bound}
use Rattle.sw_lists.specs.Lists.{collect, IsPrefix, Each, when}
use Rattle.sw_lists.proofs.Lists.{eq_same, eq_other, collect-append, collect-collect, equal_or_not}
use Rattle.sw_step.specs.declared.actor.ActorId.{ActorId}
use Rattle.sw_step.specs.declared.actor.ActorId.TheVariants.{Worker}
use Rattle.sw_step.specs.Actors.{is}
use Rattle.sw_record.specs.Words.{Event, Connect, Packet, Closed, Finish, Task, Cause, Ended}
use Rattle.sw_record.specs.declared.record.LinkRecord.{LinkRecord}
use Rattle.sw_record.specs.Terms.{Terms, numbered, packets_on, ended_of, packets_cut}
use Rattle.sw_record.specs.Logs.{packet_in, packets_in, connect_in, closed_in}
use Rattle.sw_record.specs.Order.{side, IsOneSided}
use Rattle.sw_past.specs.Messages.{Message}
use Rattle.sw_past.specs.Past.{Mail, bare, of}
use Rattle.sw_past.specs.Views.{story_in}
use Rattle.sw_join.specs.Laws.{streams}
use Rattle.sw_join.specs.Aims.{packets_from, story, UidAim, UidEnd}
use Rattle.sw_join.proofs.Routes.{is_same, is_refl}
use Rattle.sw_reactor_table.specs.Conn.{Conn, account, over_link}
use Rattle.sw_reactor_table.specs.Quiet.{told_by, side_of, IsAimed, Tale, TaleOf}
use Rattle.sw_reactor_table.specs.Modes.{ModeLaws, IsReleased, shown_link, back_link}
use Rattle.sw_reactor_table.proofs.Flow.{more_of}
use Rattle.sw_reactor_table.proofs.Settle.{lt_is, lt_not}
use Rattle.sw_reactor_table.proofs.Aimed.{streams_skip}

abbrev Numbered : Type 0
Numbered = ℕ × List ℕ

-- the packets in a message, and those that go to this worker
abbrev packets_of : ℕ → Message → List Numbered
packets_of s m = collect packet_in (story_in s m)

abbrev chosen : (ℕ → ℕ) → ℕ → Numbered → List Numbered
chosen g w p = when (g p.0 == w) p

chosen_all : (g : ℕ → ℕ) (w : ℕ) (ps : List Numbered) → Each (λ (p : Numbered). g p.0 ≡ w) ps → collect (chosen g w) ps ≡ ps
chosen_all g w [] h = refl
chosen_all g w (p ∷ ps) h = ap (λ (b : Bool). when b p ++ collect (chosen g w) ps) (eq_same (g p.0) w h.0) ∙ ap (λ zs. p ∷ zs) (chosen_all g w ps h.1)

chosen_none : (g : ℕ → ℕ) (w : ℕ) (ps : List Numbered) → Each (λ (p : Numbered). ¬ (g p.0 ≡ w)) ps → collect (chosen g w) ps ≡ []
chosen_none g w [] h = refl
chosen_none g w (p ∷ ps) h = ap (λ (b : Bool). when b p ++ collect (chosen g w) ps) (eq_other (g p.0) w h.0) ∙ chosen_none g w ps h.1

-- what went to a worker, where each packet's worker is given by its number
sent_one : (s : ℕ) (g : ℕ → ℕ) (w : ℕ) (x : ActorId × Message) → Each (λ (p : Numbered). x.0 ≡ Worker (g p.0)) (packets_of s x.1) → collect (packets_of s) (when (is x.0 (Worker w)) x.1) ≡ collect (chosen g w) (packets_of s x.1)
sent_one s g w x h = pick (is x.0 (Worker w)) refl
  where
    same : (u v : ℕ) → Worker u ≡ Worker v → u ≡ v
    same u v e = cc

    all : x.0 ≡ Worker w → (ps : List Numbered) → Each (λ (p : Numbered). x.0 ≡ Worker (g p.0)) ps → Each (λ (p : Numbered). g p.0 ≡ w) ps
    all e [] k = tt
    all e (p ∷ ps) k = (same (g p.0) w (sym k.0 ∙ e), all e ps k.1)

    none : ¬ (x.0 ≡ Worker w) → (ps : List Numbered) → Each (λ (p : Numbered). x.0 ≡ Worker (g p.0)) ps → Each (λ (p : Numbered). ¬ (g p.0 ≡ w)) ps
    none e [] k = tt
    none e (p ∷ ps) k = ((λ q. e (k.0 ∙ ap Worker q)), none e ps k.1)

    pick : (b : Bool) → is x.0 (Worker w) ≡ b → collect (packets_of s) (when b x.1) ≡ collect (chosen g w) (packets_of s x.1)
    pick true e = append-nil (packets_of s x.1) ∙ sym (chosen_all g w (packets_of s x.1) (all (is_same x.0 (Worker w) e) (packets_of s x.1) h))
    pick false e = sym (chosen_none g w (packets_of s x.1) (none (λ q. absurd (let a : is x.0 (Worker w) ≡ true = ap (λ (y : ActorId). is y (Worker w)) q ∙ is_refl (Worker w) in let r : true ≡ false = sym a ∙ e in cc)) (packets_of s x.1) h))

sent_all : (s : ℕ) (g : ℕ → ℕ) (w : ℕ) (ms : Mail) → Each (λ (x : ActorId × Message). Each (λ (p : Numbered). x.0 ≡ Worker (g p.0)) (packets_of s x.1)) ms → collect (packets_of s) (of (Worker w) ms) ≡ collect (chosen g w) (collect (packets_of s) (bare ms))
sent_all s g w [] h = refl
sent_all s g w (x ∷ ms) h =
    collect-append (packets_of s) (when (is x.0 (Worker w)) x.1) (of (Worker w) ms)
    ∙ ap (λ (zs : List Numbered). zs ++ collect (packets_of s) (of (Worker w) ms)) (sent_one s g w x h.0)
    ∙ ap (λ (zs : List Numbered). collect (chosen g w) (packets_of s x.1) ++ zs) (sent_all s g w ms h.1)
    ∙ sym (collect-append (chosen g w) (packets_of s x.1) (collect (packets_of s) (bare ms)))

-- of numbered packets: those below a number are the first, the others the rest
from_none : (g : ℕ → ℕ) (w k : ℕ) (bs : List (List ℕ)) → ((i : ℕ) → k ≤ i → ¬ (g i ≡ w)) → collect (chosen g w) (numbered k bs) ≡ []
from_none g w k [] h = refl
from_none g w k (b ∷ bs) h = ap (λ (x : Bool). when x (k, b) ++ collect (chosen g w) (numbered (k + 1) bs)) (eq_other (g k) w (h k (omega arith))) ∙ from_none g w (k + 1) bs (λ i le. h i (omega arith))

from_all : (g : ℕ → ℕ) (w k : ℕ) (bs : List (List ℕ)) → ((i : ℕ) → k ≤ i → g i ≡ w) → collect (chosen g w) (numbered k bs) ≡ numbered k bs
from_all g w k [] h = refl
from_all g w k (b ∷ bs) h = ap (λ (x : Bool). when x (k, b) ++ collect (chosen g w) (numbered (k + 1) bs)) (eq_same (g k) w (h k (omega arith))) ∙ ap (λ zs. (k, b) ∷ zs) (from_all g w (k + 1) bs (λ i le. h i (omega arith)))

first_ones : (g : ℕ → ℕ) (w k j : ℕ) (bs : List (List ℕ)) → ((i : ℕ) → i < k + j → g i ≡ w) → ((i : ℕ) → k + j ≤ i → ¬ (g i ≡ w)) → collect (chosen g w) (numbered k bs) ≡ take j (numbered k bs)
first_ones g w k zero [] h n = refl
first_ones g w k (suc j) [] h n = refl
first_ones g w k zero (b ∷ bs) h n = from_none g w k (b ∷ bs) (λ i le. n i (omega arith))
first_ones g w k (suc j) (b ∷ bs) h n = ap (λ (x : Bool). when x (k, b) ++ collect (chosen g w) (numbered (k + 1) bs)) (eq_same (g k) w (h k (omega arith))) ∙ ap (λ zs. (k, b) ∷ zs) (first_ones g w (k + 1) j bs (λ i lt. h i (omega arith)) (λ i le. n i (omega arith)))

last_ones : (g : ℕ → ℕ) (w k j : ℕ) (bs : List (List ℕ)) → ((i : ℕ) → i < k + j → ¬ (g i ≡ w)) → ((i : ℕ) → k + j ≤ i → g i ≡ w) → collect (chosen g w) (numbered k bs) ≡ drop j (numbered k bs)
last_ones g w k zero [] h n = refl
last_ones g w k (suc j) [] h n = refl
last_ones g w k zero (b ∷ bs) h n = from_all g w k (b ∷ bs) (λ i le. n i (omega arith))
last_ones g w k (suc j) (b ∷ bs) h n = ap (λ (x : Bool). when x (k, b) ++ collect (chosen g w) (numbered (k + 1) bs)) (eq_other (g k) w (h k (omega arith))) ∙ last_ones g w (k + 1) j bs (λ i lt. h i (omega arith)) (λ i le. n i (omega arith))

-- where packets go
side_first : (t : Terms) (s v split i : ℕ) → i < split → side_of t s v split i ≡ side t s 0
side_first t s v split i lt = pick (v == 0)
  where
    before : nat_lt i split ≡ true
    before = grind (arith, nat_tests)

    pick : (b : Bool) → (if b then side t s 0 else (if nat_lt i split then side t s 0 else side t s v)) ≡ side t s 0
    pick true = refl
    pick false = rw before refl

side_last : (t : Terms) (s v split i : ℕ) → ¬ (v ≡ 0) → split ≤ i → side_of t s v split i ≡ side t s v
side_last t s v split i some le = ap (λ (b : Bool). if b then side t s 0 else (if nat_lt i split then side t s 0 else side t s v)) (eq_other v 0 some) ∙ ap (λ (b : Bool). if b then side t s 0 else side t s v) behind
  where
    behind : nat_lt i split ≡ false
    behind = grind (arith, nat_tests)

side_zero : (t : Terms) (s v split i : ℕ) → IsOneSided t s v → side_of t s v split i ≡ side t s 0
side_zero t s v split i (inl z) = ap (λ (b : Bool). if b then side t s 0 else (if nat_lt i split then side t s 0 else side t s v)) (eq_same v 0 z)
side_zero t s v split i (inr e) = pick (v == 0) (nat_lt i split)
  where
    pick : (x y : Bool) → (if x then side t s 0 else (if y then side t s 0 else side t s v)) ≡ side t s 0
    pick true y = refl
    pick false true = refl
    pick false false = e

-- the packets that were told
numbers_of : (s n : ℕ) (bs : List (List ℕ)) → packets_in (packets_from s n bs) ≡ numbered n bs
numbers_of s n [] = refl
numbers_of s n (b ∷ bs) = ap (λ zs. (n, b) ∷ zs) (numbers_of s (n + 1) bs)

numbers_closed : (s n : ℕ) (bs : List (List ℕ)) → packets_in (packets_from s n bs ++ Closed s ∷ []) ≡ numbered n bs
numbers_closed s n bs = collect-append packet_in (packets_from s n bs) (Closed s ∷ []) ∙ append-nil (packets_in (packets_from s n bs)) ∙ numbers_of s n bs

numbers_told : (t : Terms) (s : ℕ) (phase : Phase) (n : ℕ) (ps : List (List ℕ)) → packets_in (told_by t s phase n ps) ≡ numbered 0 (take n (packets_cut t ps))
numbers_told t s Coming n ps = numbers_of s 0 (take n (packets_cut t ps))
numbers_told t s Open n ps = numbers_of s 0 (take n (packets_cut t ps))
numbers_told t s Closing n ps = numbers_closed s 0 (take n (packets_cut t ps))

sided_packets : (t : Terms) (ip s uid split : ℕ) (to : ActorId) (es : List Event) → t.mode ≡ 5 → Each (IsAimed t ip s uid split to) es → Each (λ (p : Numbered). to ≡ Worker (side_of t s uid split p.0)) (collect packet_in es)
sided_packets t ip s uid split to [] five h = tt
sided_packets t ip s uid split to (Connect u ∷ es) five h = sided_packets t ip s uid split to es five h.1
sided_packets t ip s uid split to (Packet u i b ∷ es) five h = (h.0.1 five, sided_packets t ip s uid split to es five h.1)
sided_packets t ip s uid split to (Closed u ∷ es) five h = sided_packets t ip s uid split to es five h.1
sided_packets t ip s uid split to (Finish id b ∷ es) five h = sided_packets t ip s uid split to es five h.1
sided_packets t ip s uid split to (Task v id b ∷ es) five h = sided_packets t ip s uid split to es five h.1

sided_all : (t : Terms) (ip s uid split : ℕ) (ms : Mail) → t.mode ≡ 5 → Each (λ (x : ActorId × Message). Each (IsAimed t ip s uid split x.0) (story_in s x.1)) ms → Each (λ (x : ActorId × Message). Each (λ (p : Numbered). x.0 ≡ Worker (side_of t s uid split p.0)) (packets_of s x.1)) ms
sided_all t ip s uid split [] five h = tt
sided_all t ip s uid split (x ∷ ms) five h = (sided_packets t ip s uid split x.0 (story_in s x.1) five h.0, sided_all t ip s uid split ms five h.1)

-- at a worker: a choice of all by their numbers
at_worker : (t : Terms) (ip s v split : ℕ) (ps : List (List ℕ)) (taken n : ℕ) (cause : Option Cause) (phase : Phase) (pushed : Mail) → t.mode ≡ 5 → Tale t ip s v split ps taken n cause phase pushed → (w : ℕ) → packets_in (streams s pushed w) ≡ collect (chosen (side_of t s v split) w) (numbered 0 (take n (packets_cut t ps)))
at_worker t ip s v split ps taken n cause phase pushed five a w =
    collect-collect packet_in (story_in s) (of (Worker w) pushed)
    ∙ sent_all s (side_of t s v split) w pushed (sided_all t ip s v split pushed five a.aimed)
    ∙ ap (collect (chosen (side_of t s v split) w)) (sym (collect-collect packet_in (story_in s) (bare pushed)) ∙ ap packets_in a.told ∙ numbers_told t s phase n ps)

-- the three cases
one_here : (t : Terms) (s v split : ℕ) (bs : List (List ℕ)) → IsOneSided t s v → collect (chosen (side_of t s v split) (side t s 0)) (numbered 0 bs) ≡ numbered 0 bs
one_here t s v split bs o = from_all (side_of t s v split) (side t s 0) 0 bs (λ i le. side_zero t s v split i o)

one_other : (t : Terms) (s v split : ℕ) (bs : List (List ℕ)) → IsOneSided t s v → (w : ℕ) → ¬ (w ≡ side t s 0) → collect (chosen (side_of t s v split) w) (numbered 0 bs) ≡ []
one_other t s v split bs o w n = from_none (side_of t s v split) w 0 bs (λ i le e. n (sym e ∙ side_zero t s v split i o))

two_first : (t : Terms) (s v split : ℕ) (bs : List (List ℕ)) → ¬ IsOneSided t s v → collect (chosen (side_of t s v split) (side t s 0)) (numbered 0 bs) ≡ take split (numbered 0 bs)
two_first t s v split bs o = first_ones (side_of t s v split) (side t s 0) 0 split bs (λ i lt. side_first t s v split i (omega arith)) (λ i le e. o (inr (sym (side_last t s v split i (λ z. o (inl z)) (omega arith)) ∙ e)))

two_last : (t : Terms) (s v split : ℕ) (bs : List (List ℕ)) → ¬ IsOneSided t s v → collect (chosen (side_of t s v split) (side t s v)) (numbered 0 bs) ≡ drop split (numbered 0 bs)
two_last t s v split bs o = last_ones (side_of t s v split) (side t s v) 0 split bs (λ i lt e. o (inr (sym (sym (side_first t s v split i (omega arith)) ∙ e)))) (λ i le. side_last t s v split i (λ z. o (inl z)) (omega arith))

two_other : (t : Terms) (s v split : ℕ) (bs : List (List ℕ)) → ¬ IsOneSided t s v → (w : ℕ) → ¬ (w ≡ side t s 0) → ¬ (w ≡ side t s v) → collect (chosen (side_of t s v split) w) (numbered 0 bs) ≡ []
two_other t s v split bs o w n m = from_none (side_of t s v split) w 0 bs (λ i le e. at i e (nat_lt i split) refl)
  where
    at : (i : ℕ) → side_of t s v split i ≡ w → (b : Bool) → nat_lt i split ≡ b → ⊥
    at i e true lt = n (sym e ∙ side_first t s v split i (lt_is i split lt))
    at i e false ge = m (sym e ∙ side_last t s v split i (λ z. o (inl z)) (lt_not i split ge))

-- beginnings
prefix_take : {A : Type 0} (k : ℕ) (xs ys : List A) → IsPrefix xs ys → IsPrefix (take k xs) (take k ys)
prefix_take {A} zero xs ys p = ([], none xs ys)
  where
    none : (as₁ bs₁ : List A) → take 0 as₁ ++ [] ≡ take 0 bs₁
    none [] [] = refl
    none [] (b ∷ bs₁) = refl
    none (a ∷ as₁) [] = refl
    none (a ∷ as₁) (b ∷ bs₁) = refl
prefix_take (suc k) [] ys p = (take (suc k) ys, refl)
prefix_take {A} (suc k) (x ∷ xs) ys p = subst (λ (zs : List A). IsPrefix (take (suc k) (x ∷ xs)) (take (suc k) zs)) p.1 (let r = prefix_take k xs (xs ++ p.0) (p.0, refl) in (r.0, ap (λ zs. x ∷ zs) r.1))

prefix_drop : {A : Type 0} (k : ℕ) (xs ys : List A) → IsPrefix xs ys → IsPrefix (drop k xs) (drop k ys)
prefix_drop zero xs ys p = p
prefix_drop (suc k) [] ys p = (drop (suc k) ys, refl)
prefix_drop {A} (suc k) (x ∷ xs) ys p = subst (λ (zs : List A). IsPrefix (drop (suc k) (x ∷ xs)) (drop (suc k) zs)) p.1 (let r = prefix_drop k xs (xs ++ p.0) (p.0, refl) in (r.0, r.1))

numbered_take : (k n : ℕ) (bs : List (List ℕ)) → numbered k (take n bs) ≡ take n (numbered k bs)
numbered_take k zero [] = refl
numbered_take k zero (b ∷ bs) = refl
numbered_take k (suc n) [] = refl
numbered_take k (suc n) (b ∷ bs) = ap (λ zs. (k, b) ∷ zs) (numbered_take (k + 1) n bs)

numbered_begins : (n : ℕ) (bs : List (List ℕ)) → IsPrefix (numbered 0 (take n bs)) (numbered 0 bs)
numbered_begins n bs = (drop n (numbered 0 bs), ap (λ (zs : List Numbered). zs ++ drop n (numbered 0 bs)) (numbered_take 0 n bs) ∙ take-append-drop n (numbered 0 bs))

take_twice : {A : Type 0} (n : ℕ) (xs : List A) → take n (take n xs) ≡ take n xs
take_twice zero [] = refl
take_twice zero (x ∷ xs) = refl
take_twice (suc n) [] = refl
take_twice (suc n) (x ∷ xs) = ap (λ zs. x ∷ zs) (take_twice n xs)

drop_taken : {A : Type 0} (n : ℕ) (xs : List A) → drop n (take n xs) ≡ []
drop_taken zero [] = refl
drop_taken zero (x ∷ xs) = refl
drop_taken (suc n) [] = refl
drop_taken (suc n) (x ∷ xs) = drop_taken n xs

-- Connect and Closed
connects_told : (t : Terms) (s : ℕ) (phase : Phase) (n : ℕ) (ps : List (List ℕ)) → length (collect connect_in (told_by t s phase n ps)) ≤ 1
connects_told t s phase n ps = by phase
  where
    none : (k : ℕ) (bs : List (List ℕ)) → collect connect_in (packets_from s k bs) ≡ []
    none k [] = refl
    none k (b ∷ bs) = none (k + 1) bs

    more : collect connect_in (packets_from s 0 (take n (packets_cut t ps)) ++ Closed s ∷ []) ≡ []
    more = collect-append connect_in (packets_from s 0 (take n (packets_cut t ps))) (Closed s ∷ []) ∙ append-nil (collect connect_in (packets_from s 0 (take n (packets_cut t ps)))) ∙ none 0 (take n (packets_cut t ps))

    by : (p : Phase) → length (collect connect_in (told_by t s p n ps)) ≤ 1
    by Coming = (let e : length (collect connect_in (packets_from s 0 (take n (packets_cut t ps)))) ≡ 0 = ap length (none 0 (take n (packets_cut t ps))) in omega arith)
    by Open = (let e : length (collect connect_in (packets_from s 0 (take n (packets_cut t ps)))) ≡ 0 = ap length (none 0 (take n (packets_cut t ps))) in let g : length (Connect s ∷ collect connect_in (packets_from s 0 (take n (packets_cut t ps)))) ≤ 1 = omega arith in g)
    by Closing = (let e : length (collect connect_in (packets_from s 0 (take n (packets_cut t ps)) ++ Closed s ∷ [])) ≡ 0 = ap length more in let g : length (Connect s ∷ collect connect_in (packets_from s 0 (take n (packets_cut t ps)) ++ Closed s ∷ [])) ≤ 1 = omega arith in g)

connect_story : (s : ℕ) (bs : List (List ℕ)) → length (collect connect_in (story s bs)) ≡ 1
connect_story s bs = ap (λ (es : List Event). length (Connect s ∷ es)) (collect-append connect_in (packets_from s 0 bs) (Closed s ∷ []) ∙ append-nil (collect connect_in (packets_from s 0 bs)) ∙ none 0 bs)
  where
    none : (k : ℕ) (cs : List (List ℕ)) → collect connect_in (packets_from s k cs) ≡ []
    none k [] = refl
    none k (b ∷ cs) = none (k + 1) cs

closed_none : (s k : ℕ) (bs : List (List ℕ)) → collect closed_in (packets_from s k bs) ≡ []
closed_none s k [] = refl
closed_none s k (b ∷ bs) = closed_none s (k + 1) bs

closed_story : (s : ℕ) (bs : List (List ℕ)) → length (collect closed_in (story s bs)) ≡ 1
closed_story s bs = ap length (collect-append closed_in (packets_from s 0 bs) (Closed s ∷ []) ∙ ap (λ (es : List Event). es ++ Closed s ∷ []) (closed_none s 0 bs))

closeds_told : (t : Terms) (s : ℕ) (phase : Phase) (n : ℕ) (ps : List (List ℕ)) → length (collect closed_in (told_by t s phase n ps)) ≤ 1
closeds_told t s Coming n ps = subst (λ (es : List Event). length es ≤ 1) (sym (closed_none s 0 (take n (packets_cut t ps)))) (omega arith)
closeds_told t s Open n ps = subst (λ (es : List Event). length es ≤ 1) (sym (closed_none s 0 (take n (packets_cut t ps)))) (omega arith)
closeds_told t s Closing n ps = (let e : length (collect closed_in (story s (take n (packets_cut t ps)))) ≡ 1 = closed_story s (take n (packets_cut t ps)) in omega arith)

-- the uid and the split that a link shows, by those that were seen
abbrev pub IsShowing : ℕ → ℕ → ℕ → ℕ → ℕ → Type 0
IsShowing v split n u shown = ((v ≡ 0) × ((u ≡ 0) ⊎ (shown ≡ n))) ⊎ ((¬ (v ≡ 0)) × (u ≡ v) × (shown ≡ split))

pub uid_aim : (t : Terms) (ip s v split : ℕ) (ps : List (List ℕ)) (taken n : ℕ) (cause : Option Cause) (phase : Phase) (pushed : Mail) → t.mode ≡ 5 → Tale t ip s v split ps taken n cause phase pushed → (l : LinkRecord) → l.pieces ≡ ps → (e : Ended) → ended_of l.state ≡ Some e → IsShowing v split n e.uid e.split → UidAim t s l pushed
uid_aim t ip s v split ps taken n cause phase pushed five a l same e there showing =
    record {
      one = λ f q o. (let z : e ≡ f = own f q in subst (λ zs. IsPrefix zs (packets_on t l)) (sym (at (side t s 0))) (one showing (subst (λ (x : Ended). IsOneSided t s x.uid) (sym z) o)));
      before = λ f q o. (let z : e ≡ f = own f q in subst (λ zs. IsPrefix zs (take f.split (packets_on t l))) (sym (at (side t s 0))) (subst (λ (x : Ended). IsPrefix (part (side t s 0)) (take x.split (packets_on t l))) z (before showing (subst (λ (x : Ended). ¬ IsOneSided t s x.uid) (sym z) o))));
      behind = λ f q o. (let z : e ≡ f = own f q in subst (λ (x : Ended). IsPrefix (packets_in (streams s pushed (side t s x.uid))) (drop x.split (packets_on t l))) z (subst (λ zs. IsPrefix zs (drop e.split (packets_on t l))) (sym (at (side t s e.uid))) (behind showing (subst (λ (x : Ended). ¬ IsOneSided t s x.uid) (sym z) o))));
      elsewhere = λ f q w x y. (let z : e ≡ f = own f q in at w ∙ other showing w x (subst (λ (k : Ended). ¬ (w ≡ side t s k.uid)) (sym z) y));
      connects = subst (λ (es : List Event). length es ≤ 1) (sym (sym (collect-collect connect_in (story_in s) (bare pushed)) ∙ ap (collect connect_in) a.told)) (connects_told t s phase n ps);
      closeds = subst (λ (es : List Event). length es ≤ 1) (sym (sym (collect-collect closed_in (story_in s) (bare pushed)) ∙ ap (collect closed_in) a.told)) (closeds_told t s phase n ps);
    }
  where
    own : (f : Ended) → ended_of l.state ≡ Some f → e ≡ f
    own f q = (let r : Some e ≡ Some f = sym there ∙ q in cc)

    bs : List (List ℕ)
    bs = take n (packets_cut t ps)

    part : ℕ → List Numbered
    part w = collect (chosen (side_of t s v split) w) (numbered 0 (take n (packets_cut t ps)))

    at : (w : ℕ) → packets_in (streams s pushed w) ≡ part w
    at w = at_worker t ip s v split ps taken n cause phase pushed five a w

    begins : IsPrefix (numbered 0 (take n (packets_cut t ps))) (packets_on t l)
    begins = subst (λ (x : List (List ℕ)). IsPrefix (numbered 0 (take n (packets_cut t ps))) (numbered 0 (packets_cut t x))) (sym same) (numbered_begins n (packets_cut t ps))

    one : IsShowing v split n e.uid e.split → IsOneSided t s e.uid → IsPrefix (part (side t s 0)) (packets_on t l)
    one (inl x) o = subst (λ zs. IsPrefix zs (packets_on t l)) (sym (one_here t s v split (take n (packets_cut t ps)) (inl x.0))) begins
    one (inr x) o = subst (λ zs. IsPrefix zs (packets_on t l)) (sym (one_here t s v split (take n (packets_cut t ps)) (subst (IsOneSided t s) x.1 o))) begins

    before : IsShowing v split n e.uid e.split → ¬ IsOneSided t s e.uid → IsPrefix (part (side t s 0)) (take e.split (packets_on t l))
    before (inl (x, inl y)) o = absurd (o (inl y))
    before (inl (x, inr y)) o =
        subst (λ zs. IsPrefix zs (take e.split (packets_on t l))) (sym (one_here t s v split (take n (packets_cut t ps)) (inl x)))
        (subst (λ zs. IsPrefix zs (take e.split (packets_on t l))) (ap (λ (k : ℕ). take k (numbered 0 (take n (packets_cut t ps)))) y ∙ ap (take n) (numbered_take 0 n (packets_cut t ps)) ∙ take_twice n (numbered 0 (packets_cut t ps)) ∙ sym (numbered_take 0 n (packets_cut t ps))) (prefix_take e.split (numbered 0 (take n (packets_cut t ps))) (packets_on t l) begins))
    before (inr x) o =
        subst (λ zs. IsPrefix zs (take e.split (packets_on t l))) (ap (λ (k : ℕ). take k (numbered 0 (take n (packets_cut t ps)))) x.2 ∙ sym (two_first t s v split (take n (packets_cut t ps)) (subst (λ (k : ℕ). ¬ IsOneSided t s k) x.1 o)))
        (prefix_take e.split (numbered 0 (take n (packets_cut t ps))) (packets_on t l) begins)

    behind : IsShowing v split n e.uid e.split → ¬ IsOneSided t s e.uid → IsPrefix (part (side t s e.uid)) (drop e.split (packets_on t l))
    behind (inl x) o = subst (λ zs. IsPrefix zs (drop e.split (packets_on t l))) (sym (one_other t s v split (take n (packets_cut t ps)) (inl x.0) (side t s e.uid) (λ q. o (inr q)))) (drop e.split (packets_on t l), refl)
    behind (inr x) o =
        subst (λ zs. IsPrefix zs (drop e.split (packets_on t l))) (ap (λ (k : ℕ). drop k (numbered 0 (take n (packets_cut t ps)))) x.2 ∙ sym (two_last t s v split (take n (packets_cut t ps)) (subst (λ (k : ℕ). ¬ IsOneSided t s k) x.1 o)) ∙ ap (λ (k : ℕ). part (side t s k)) (sym x.1))
        (prefix_drop e.split (numbered 0 (take n (packets_cut t ps))) (packets_on t l) begins)

    other : IsShowing v split n e.uid e.split → (w : ℕ) → ¬ (w ≡ side t s 0) → ¬ (w ≡ side t s e.uid) → part w ≡ []
    other (inl x) w h k = one_other t s v split (take n (packets_cut t ps)) (inl x.0) w h
    other (inr x) w h k = elim (equal_or_not (side t s v) (side t s 0)) [ inl q ↦ one_other t s v split (take n (packets_cut t ps)) (inr q) w h | inr q ↦ two_other t s v split (take n (packets_cut t ps)) (λ o. elim o [ inl z ↦ x.0 z | inr g ↦ q g ]) w h (λ g. k (g ∙ ap (side t s) (sym x.1))) ]

pub uid_end : (t : Terms) (c : Conn) (pushed : Mail) → t.mode ≡ 5 → TaleOf t c pushed → c.phase ≡ Closing → (l : LinkRecord) → l.pieces ≡ c.pieces → (e : Ended) → e.dispatched ≡ c.dispatched → IsShowing c.uid c.split c.dispatched e.uid e.split → UidEnd t c.session l e pushed
uid_end t c pushed five a over l same e count showing =
    record {
      one = λ o. at (side t c.session 0) ∙ one showing o ∙ whole;
      before = λ o. at (side t c.session 0) ∙ before showing o ∙ ap (take e.split) whole;
      behind = λ o. at (side t c.session e.uid) ∙ behind showing o ∙ ap (drop e.split) whole;
      connect = ap length (sym (collect-collect connect_in (story_in c.session) (bare pushed)) ∙ ap (collect connect_in) told) ∙ connect_story c.session (take c.dispatched (packets_cut t c.pieces));
      closed = ap length (sym (collect-collect closed_in (story_in c.session) (bare pushed)) ∙ ap (collect closed_in) told) ∙ closed_story c.session (take c.dispatched (packets_cut t c.pieces));
    }
  where
    told : collect (story_in c.session) (bare pushed) ≡ story c.session (take c.dispatched (packets_cut t c.pieces))
    told = a.told ∙ ap (λ (p : Phase). told_by t c.session p c.dispatched c.pieces) over

    bs : List (List ℕ)
    bs = take c.dispatched (packets_cut t c.pieces)

    part : ℕ → List Numbered
    part w = collect (chosen (side_of t c.session c.uid c.split) w) (numbered 0 (take c.dispatched (packets_cut t c.pieces)))

    at : (w : ℕ) → packets_in (streams c.session pushed w) ≡ part w
    at w = at_worker t c.ip c.session c.uid c.split c.pieces c.taken c.dispatched c.cause c.phase pushed five a w

    whole : numbered 0 (take c.dispatched (packets_cut t c.pieces)) ≡ take e.dispatched (packets_on t l)
    whole = numbered_take 0 c.dispatched (packets_cut t c.pieces) ∙ ap (λ (k : ℕ). take k (numbered 0 (packets_cut t c.pieces))) (sym count) ∙ ap (λ (x : List (List ℕ)). take e.dispatched (numbered 0 (packets_cut t x))) (sym same)

    one : IsShowing c.uid c.split c.dispatched e.uid e.split → IsOneSided t c.session e.uid → part (side t c.session 0) ≡ numbered 0 (take c.dispatched (packets_cut t c.pieces))
    one (inl x) o = one_here t c.session c.uid c.split (take c.dispatched (packets_cut t c.pieces)) (inl x.0)
    one (inr x) o = one_here t c.session c.uid c.split (take c.dispatched (packets_cut t c.pieces)) (subst (IsOneSided t c.session) x.1 o)

    before : IsShowing c.uid c.split c.dispatched e.uid e.split → ¬ IsOneSided t c.session e.uid → part (side t c.session 0) ≡ take e.split (numbered 0 (take c.dispatched (packets_cut t c.pieces)))
    before (inl (x, inl y)) o = absurd (o (inl y))
    before (inl (x, inr y)) o =
        one_here t c.session c.uid c.split (take c.dispatched (packets_cut t c.pieces)) (inl x)
        ∙ sym (ap (λ (k : ℕ). take k (numbered 0 (take c.dispatched (packets_cut t c.pieces)))) y ∙ ap (take c.dispatched) (numbered_take 0 c.dispatched (packets_cut t c.pieces)) ∙ take_twice c.dispatched (numbered 0 (packets_cut t c.pieces)) ∙ sym (numbered_take 0 c.dispatched (packets_cut t c.pieces)))
    before (inr x) o = two_first t c.session c.uid c.split (take c.dispatched (packets_cut t c.pieces)) (subst (λ (k : ℕ). ¬ IsOneSided t c.session k) x.1 o) ∙ ap (λ (k : ℕ). take k (numbered 0 (take c.dispatched (packets_cut t c.pieces)))) (sym x.2)

    behind : IsShowing c.uid c.split c.dispatched e.uid e.split → ¬ IsOneSided t c.session e.uid → part (side t c.session e.uid) ≡ drop e.split (numbered 0 (take c.dispatched (packets_cut t c.pieces)))
    behind (inl (x, inl y)) o = absurd (o (inl y))
    behind (inl (x, inr y)) o =
        one_other t c.session c.uid c.split (take c.dispatched (packets_cut t c.pieces)) (inl x) (side t c.session e.uid) (λ q. o (inr q))
        ∙ sym (ap (λ (k : ℕ). drop k (numbered 0 (take c.dispatched (packets_cut t c.pieces)))) y ∙ ap (drop c.dispatched) (numbered_take 0 c.dispatched (packets_cut t c.pieces)) ∙ drop_taken c.dispatched (numbered 0 (packets_cut t c.pieces)))
    behind (inr x) o =
        ap (λ (k : ℕ). part (side t c.session k)) x.1
        ∙ two_last t c.session c.uid c.split (take c.dispatched (packets_cut t c.pieces)) (subst (λ (k : ℕ). ¬ IsOneSided t c.session k) x.1 o)
        ∙ ap (λ (k : ℕ). drop k (numbered 0 (take c.dispatched (packets_cut t c.pieces)))) (sym x.2)

-- what a link shows
split_for : (v k m : ℕ) → ¬ (v ≡ 0) → (if v == 0 then k else m) ≡ m
split_for v k m some = ap (λ (b : Bool). if b then k else m) (eq_other v 0 some)

split_none : (v k m : ℕ) → v ≡ 0 → (if v == 0 then k else m) ≡ k
split_none v k m z = ap (λ (b : Bool). if b then k else m) (eq_same v 0 z)

live_showing : (v split n d : ℕ) → IsShowing v split n v (if v == 0 then d else split)
live_showing v split n d = elim (equal_or_not v 0) [ inl z ↦ inl (z, inl z) | inr some ↦ inr (some, refl, split_for v d split some) ]

over_showing : (t : Terms) (c : Conn) (u : ℕ) → t.mode ≡ 5 → IsReleased t c u → IsShowing c.uid c.split c.dispatched u (if c.uid == 0 then c.dispatched else c.split)
over_showing t c u five r = elim (equal_or_not c.uid 0) [ inl z ↦ inl (z, inr (split_none c.uid c.dispatched c.split z)) | inr some ↦ elim (r five) [ inl z ↦ absurd (some z) | inr e ↦ inr (some, e, split_for c.uid c.dispatched c.split some) ] ]

-- a message without an event of it
skip : (s : ℕ) (pushed : Mail) (x : ActorId × Message) (w : ℕ) → story_in s x.1 ≡ [] → packets_in (streams s pushed w) ≡ packets_in (streams s (pushed ++ x ∷ []) w)
skip s pushed x w none = ap packets_in (sym (streams_skip s pushed x w none))

skip_kind : (f : Event → List Event) (s : ℕ) (pushed : Mail) (x : ActorId × Message) → story_in s x.1 ≡ [] → collect (λ m. collect f (story_in s m)) (bare pushed) ≡ collect (λ m. collect f (story_in s m)) (bare (pushed ++ x ∷ []))
skip_kind f s pushed x none =
    sym (more_of (λ m. collect f (story_in s m)) pushed x ∙ ap (λ es. collect (λ m. collect f (story_in s m)) (bare pushed) ++ collect f es) none ∙ append-nil (collect (λ m. collect f (story_in s m)) (bare pushed)))

pub uid_laws : (t : Terms) → t.mode ≡ 5 → ModeLaws t (UidAim t) (UidEnd t)
uid_laws t five =
    record {
      live = λ ip s v split ps taken n cause phase pushed a written d. uid_aim t ip s v split ps taken n cause phase pushed five a (shown_link t ip s v split ps written d) refl _ refl (live_showing v split n d);
      back = λ ip s v split ps taken n cause phase pushed a written d. uid_aim t ip s v split ps taken n cause phase pushed five a (back_link t ip s v split ps written d) refl _ refl (live_showing v split n d);
      over = λ c pushed a e o u r. (
        uid_aim t c.ip c.session c.uid c.split c.pieces c.taken c.dispatched c.cause c.phase pushed five a (over_link t c u e) refl (account t c u e) refl (over_showing t c u five r),
        uid_end t c pushed five a (o.closed (five_bound t five)) (over_link t c u e) refl (account t c u e) refl (over_showing t c u five r),
      );
      skip_aim = λ s l pushed x none a.
          record {
            one = λ e q o. subst (λ zs. IsPrefix zs (packets_on t l)) (skip s pushed x (side t s 0) none) (a.one e q o);
            before = λ e q o. subst (λ zs. IsPrefix zs (take e.split (packets_on t l))) (skip s pushed x (side t s 0) none) (a.before e q o);
            behind = λ e q o. subst (λ zs. IsPrefix zs (drop e.split (packets_on t l))) (skip s pushed x (side t s e.uid) none) (a.behind e q o);
            elsewhere = λ e q w h k. sym (skip s pushed x w none) ∙ a.elsewhere e q w h k;
            connects = subst (λ (es : List Event). length es ≤ 1) (skip_kind connect_in s pushed x none) a.connects;
            closeds = subst (λ (es : List Event). length es ≤ 1) (skip_kind closed_in s pushed x none) a.closeds;
          };
      skip_whole = λ s l e pushed x none a.
          record {
            one = λ o. sym (skip s pushed x (side t s 0) none) ∙ a.one o;
            before = λ o. sym (skip s pushed x (side t s 0) none) ∙ a.before o;
            behind = λ o. sym (skip s pushed x (side t s e.uid) none) ∙ a.behind o;
            connect = ap length (sym (skip_kind connect_in s pushed x none)) ∙ a.connect;
            closed = ap length (sym (skip_kind closed_in s pushed x none)) ∙ a.closed;
          };
    }
  where
    five_bound : (u : Terms) → u.mode ≡ 5 → bound u.mode ≡ true
    five_bound u e = subst (λ (m : ℕ). bound m ≡ true) (sym e) refl
