-- Modes 1 and 3: each packet at one worker.
use Rattle.std.proofs.Common.{◌≡◌, ◌⊎◌, ℕ, ◌+◌, ◌<◌, ◌≤◌, Bool, true, false, List, [], ◌∷◌, ◌++◌, length, take, refl, ap, ◌∙◌, sym, subst, arith, Some, slice_get, inl, inr, zero, suc}
use Rattle.sw_lists.proofs.Lists.{collect-collect, collect-none, each_all, each_append, each_more, each_prefix, each_right, prefix_collect, rises_prefix, rises_right}
use Rattle.sw_lists.specs.Lists.{collect, IsPrefix, Each, Has, when}
use Rattle.sw_lists.specs.Numbers.{Rises}
use Rattle.sw_step.specs.Actors.{is}
use Rattle.sw_step.specs.declared.actor.ActorId.{ActorId}
use Rattle.sw_step.specs.declared.actor.ActorId.TheVariants.{Reactor, Worker}
use Rattle.sw_record.specs.Logs.{told_of, packet_in, packets_in, Handled, number_of, numbers, connect_in, closed_in}
use Rattle.sw_record.specs.Scattered.{Scattered}
use Rattle.sw_record.specs.Terms.{Terms, numbered, packets_cut, packets_on, reactor_of}
use Rattle.sw_record.specs.Whole.{WholeScattered}
use Rattle.sw_record.specs.Words.{Event, Log}
use Rattle.sw_record.specs.declared.record.LinkRecord.{LinkRecord}
use Rattle.sw_record.specs.declared.record.Record.{Record}
use Rattle.sw_past.specs.Messages.{Message}
use Rattle.sw_past.specs.Past.{Mail, Past, bare, of}
use Rattle.sw_past.specs.Routes.{IsWorker, MayPush, crew}
use Rattle.sw_past.specs.Views.{story_in}
use Rattle.sw_join.proofs.Order.{numbered_take}
use Rattle.sw_join.proofs.Routes.{is_refl, is_same}
use Rattle.sw_join.proofs.Streams.{IsServed, IsSilent, begins, ends_whole, not_silent, pushes, served, silent_log}
use Rattle.sw_join.proofs.Told.{all_routed, each_share, rises_share}
use Rattle.sw_join.proofs.Uid.{to_worker}
use Rattle.sw_join.specs.Aims.{packets_from, ScatterAim, ScatterEnd}
use Rattle.sw_join.specs.Laws.{streams, Joint, Locals}
use Rattle.sw_join.specs.Shown.{log_at, IsShown}

-- packets alone, of these
abbrev Is : List (ℕ × List ℕ) → Event → Type 0
Is ps e = (connect_in e ≡ []) × ((closed_in e ≡ []) × Each (λ (p : ℕ × List ℕ). Has p ps) (packet_in e))

later : (p : ℕ × List ℕ) (ps : List (ℕ × List ℕ)) (e : Event) → Is ps e → Is (p ∷ ps) e
later p ps e h = (h.0, (h.1.0, each_more (λ (x : ℕ × List ℕ). Has x ps) (λ (x : ℕ × List ℕ). Has x (p ∷ ps)) (packet_in e) (λ x k. (suc k.0, k.1)) h.1.1))

packets_are : (s n : ℕ) (bs : List (List ℕ)) → Each (Is (numbered n bs)) (packets_from s n bs)
packets_are s n [] = tt
packets_are s n (b ∷ bs) = ((refl, (refl, ((0, refl), tt))), each_more (Is (numbered (n + 1) bs)) (Is (numbered n (b ∷ bs))) (packets_from s (n + 1) bs) (later (n, b) (numbered (n + 1) bs)) (packets_are s (n + 1) bs))

pub has_prefix : {A : Type 0} (x : A) (xs ys : List A) → IsPrefix xs ys → Has x xs → Has x ys
has_prefix {A} x xs ys p h = (h.0, subst (λ (zs : List A). slice_get zs h.0 ≡ Some x) p.1 (at xs h.0 h.1))
  where
    at : (zs : List A) (k : ℕ) → slice_get zs k ≡ Some x → slice_get (zs ++ p.0) k ≡ Some x
    at [] k e = absurd (cc)
    at (z ∷ zs) zero e = e
    at (z ∷ zs) (suc k) e = at zs k e

-- the numbers of a session's packets in a message
abbrev num_in : ℕ → Message → List ℕ
num_in s m = numbers (packets_in (story_in s m))

num_is : (s : ℕ) (ms : List Message) → numbers (packets_in (collect (story_in s) ms)) ≡ collect (num_in s) ms
num_is s ms = ap (collect number_of) (collect-collect packet_in (story_in s) ms) ∙ collect-collect number_of (λ m. packets_in (story_in s m)) ms

above : (n m : ℕ) (bs : List (List ℕ)) → m < n → Each (λ k. m < k) (numbers (numbered n bs))
above n m [] lt = tt
above n m (b ∷ bs) lt = (lt, above (n + 1) m bs (omega arith))

numbered_rises : (n : ℕ) (bs : List (List ℕ)) → Rises (numbers (numbered n bs))
numbered_rises n [] = tt
numbered_rises n (b ∷ bs) = (above (n + 1) n bs (omega arith), numbered_rises (n + 1) bs)

packets_numbers : (s n : ℕ) (bs : List (List ℕ)) → packets_in (packets_from s n bs) ≡ numbered n bs
packets_numbers s n [] = refl
packets_numbers s n (b ∷ bs) = ap (λ ps. (n, b) ∷ ps) (packets_numbers s (n + 1) bs)

-- what two have of a rising list is apart
pub apart_share : (f : Message → List ℕ) (y z : ActorId) → ¬ (y ≡ z) → (ms : Mail) → Rises (collect f (bare ms)) → Each (λ n. Each (λ m. ¬ (n ≡ m)) (collect f (of z ms))) (collect f (of y ms))
apart_share f y z n [] h = tt
apart_share f y z n (e ∷ ms) h = pick (is e.0 y) refl (is e.0 z) refl (apart_share f y z n ms (rises_right (f e.1) (collect f (bare ms)) h))
  where
    first : (P : ℕ → Type 0) → ((m : ℕ) → m < m → ⊥) → (xs ys : List ℕ) → Rises (xs ++ ys) → Each (λ a. Each (λ b. a < b) ys) xs
    first P i [] ys r = tt
    first P i (x ∷ xs) ys r = (each_right (λ m. x < m) xs ys r.0, first P i xs ys r.1)

    low : Each (λ a. Each (λ b. a < b) (collect f (bare ms))) (f e.1)
    low = first (λ m. ⊥) (λ m lt. (omega arith)) (f e.1) (collect f (bare ms)) h

    mine : (x : ActorId) → Each (λ a. Each (λ b. a < b) (collect f (of x ms))) (f e.1)
    mine x = each_more (λ a. Each (λ b. a < b) (collect f (bare ms))) (λ a. Each (λ b. a < b) (collect f (of x ms))) (f e.1) (λ a k. each_share (λ b. a < b) f x ms k) low

    flip : (xs ys : List ℕ) → Each (λ a. Each (λ b. a < b) ys) xs → Each (λ b. Each (λ a. ¬ (b ≡ a)) xs) ys
    flip [] ys k = each_all (λ b. Each (λ a. ¬ (b ≡ a)) []) ys (λ b. tt)
    flip (x ∷ xs) ys k = both ys k.0 (flip xs ys k.1)
      where
        both : (zs : List ℕ) → Each (λ b. x < b) zs → Each (λ b. Each (λ a. ¬ (b ≡ a)) xs) zs → Each (λ b. Each (λ a. ¬ (b ≡ a)) (x ∷ xs)) zs
        both [] u v = tt
        both (c ∷ zs) u v = (((λ q. let lt : x < c = u.0 in absurd (omega arith)), v.0), both zs u.1 v.1)

    pick : (b : Bool) → is e.0 y ≡ b → (c : Bool) → is e.0 z ≡ c → Each (λ k. Each (λ m. ¬ (k ≡ m)) (collect f (of z ms))) (collect f (of y ms)) → Each (λ k. Each (λ m. ¬ (k ≡ m)) (collect f (when c e.1 ++ of z ms))) (collect f (when b e.1 ++ of y ms))
    pick true p true q r = absurd (n (sym (is_same e.0 y p) ∙ is_same e.0 z q))
    pick true p false q r = each_append (λ k. Each (λ m. ¬ (k ≡ m)) (collect f (of z ms))) (f e.1) (collect f (of y ms))
        (each_more (λ a. Each (λ b. a < b) (collect f (of z ms))) (λ k. Each (λ m. ¬ (k ≡ m)) (collect f (of z ms))) (f e.1) (λ a k. each_more (λ b. a < b) (λ m. ¬ (a ≡ m)) (collect f (of z ms)) (λ b lt o. absurd (omega arith)) k) (mine z)) r
    pick false p true q r = join (collect f (of y ms)) (flip (f e.1) (collect f (of y ms)) (mine y)) r
      where
        join : (xs : List ℕ) → Each (λ b. Each (λ a. ¬ (b ≡ a)) (f e.1)) xs → Each (λ k. Each (λ m. ¬ (k ≡ m)) (collect f (of z ms))) xs → Each (λ k. Each (λ m. ¬ (k ≡ m)) (f e.1 ++ collect f (of z ms))) xs
        join [] u v = tt
        join (x ∷ xs) u v = (each_append (λ m. ¬ (x ≡ m)) (f e.1) (collect f (of z ms)) u.0 v.0, join xs u.1 v.1)
    pick false p false q r = r

-- what was pushed of a session, in modes 1 and 3
record IsSpread (s : ℕ) (ps : List (ℕ × List ℕ)) (pushed : Mail) : Type 0 where
  are : Each (Is ps) (collect (story_in s) (bare pushed))
  rise : Rises (collect (num_in s) (bare pushed))

spread : (t : Terms) (s : ℕ) (l : LinkRecord) (pushed : Mail) → ScatterAim t s l pushed → IsSpread s (packets_on t l) pushed
spread t s l pushed a =
    let bs : List (List ℕ) = take a.0 (packets_cut t l.pieces) in
    record {
      are = subst (Each (Is (packets_on t l))) (sym a.1)
          (each_more (Is (numbered 0 bs)) (Is (packets_on t l)) (packets_from s 0 bs)
          (λ e h. (h.0, (h.1.0, each_more (λ (p : ℕ × List ℕ). Has p (numbered 0 bs)) (λ (p : ℕ × List ℕ). Has p (packets_on t l)) (packet_in e) (λ p k. has_prefix p (numbered 0 bs) (packets_on t l) (numbered_take a.0 (packets_cut t l.pieces)) k) h.1.1)))
          (packets_are s 0 bs));
      rise = subst Rises (sym (ap numbers (packets_numbers s 0 bs)) ∙ sym (ap (λ (es : List Event). numbers (packets_in es)) a.1) ∙ num_is s (bare pushed)) (numbered_rises 0 bs);
    }

nothing_each : {A : Type 0} (P : A → Type 0) (xs : List A) → xs ≡ [] → Each P xs
nothing_each P xs e = rw e tt

each_packets : (P : ℕ × List ℕ → Type 0) (es : List Event) → Each (λ (e : Event). Each P (packet_in e)) es → Each P (packets_in es)
each_packets P [] h = tt
each_packets P (e ∷ es) h = each_append P (packet_in e) (packets_in es) h.0 (each_packets P es h.1)

each_inner : (P : ℕ → ℕ → Type 0) (xs ys xss yss : List ℕ) → IsPrefix xs xss → IsPrefix ys yss → Each (λ n. Each (P n) yss) xss → Each (λ n. Each (P n) ys) xs
each_inner P xs ys xss yss p q h = each_more (λ n. Each (P n) yss) (λ n. Each (P n) ys) xs (λ n k. each_prefix (P n) ys yss q k) (each_prefix (λ n. Each (P n) yss) xs xss p h)

pub scattered : (t : Terms) (h : Past) (r : Record) → Locals t (ScatterAim t) (ScatterEnd t) h → Joint t h → IsShown t h r → Scattered t r
scattered t h r l j i =
    record {
      no_connect = λ s k has m log there. elim (served t (ScatterAim t) (ScatterEnd t) h r l j i s k has) [
        | inl v ↦ collect-none connect_in (told_of s log) (each_more (Is (packets_on t k)) (λ (e : Event). connect_in e ≡ []) (told_of s log) (λ e q. q.0) (given s k v m log there))
        | inr c ↦ ap (collect connect_in) (silent_log t (ScatterAim t) (ScatterEnd t) h r l j i s k c m log there)
      ];
      no_closed = λ s k has m log there. elim (served t (ScatterAim t) (ScatterEnd t) h r l j i s k has) [
        | inl v ↦ collect-none closed_in (told_of s log) (each_more (Is (packets_on t k)) (λ (e : Event). closed_in e ≡ []) (told_of s log) (λ e q. q.1.0) (given s k v m log there))
        | inr c ↦ ap (collect closed_in) (silent_log t (ScatterAim t) (ScatterEnd t) h r l j i s k c m log there)
      ];
      cut = λ s k has m log there. elim (served t (ScatterAim t) (ScatterEnd t) h r l j i s k has) [
        | inl v ↦ each_packets (λ (p : ℕ × List ℕ). Has p (packets_on t k)) (told_of s log) (each_more (Is (packets_on t k)) (λ (e : Event). Each (λ (p : ℕ × List ℕ). Has p (packets_on t k)) (packet_in e)) (told_of s log) (λ e q. q.1.1) (given s k v m log there))
        | inr c ↦ nothing_each (λ (p : ℕ × List ℕ). Has p (packets_on t k)) (Handled log s) (ap packets_in (silent_log t (ScatterAim t) (ScatterEnd t) h r l j i s k c m log there))
      ];
      rise = λ s k has m log there. elim (served t (ScatterAim t) (ScatterEnd t) h r l j i s k has) [
        | inl v ↦ rises_prefix (numbers (Handled log s)) (collect (num_in s) (of (Worker m) (pushes t h s))) (heads s m log there) (rises_share (num_in s) (Worker m) (pushes t h s) (spread t s k (pushes t h s) v.kept.aims).rise)
        | inr c ↦ subst (λ (es : List Event). Rises (numbers (packets_in es))) (sym (silent_log t (ScatterAim t) (ScatterEnd t) h r l j i s k c m log there)) tt
      ];
      once = λ s k has m n log other there theres apart. elim (served t (ScatterAim t) (ScatterEnd t) h r l j i s k has) [
        | inl v ↦ each_inner (λ x y. ¬ (x ≡ y)) (numbers (Handled log s)) (numbers (Handled other s)) (collect (num_in s) (of (Worker m) (pushes t h s))) (collect (num_in s) (of (Worker n) (pushes t h s))) (heads s m log there) (heads s n other theres)
            (apart_share (num_in s) (Worker m) (Worker n) (λ e. apart (let q : Worker m ≡ Worker n = e in cc)) (pushes t h s) (spread t s k (pushes t h s) v.kept.aims).rise)
        | inr c ↦ nothing_each (λ x. Each (λ y. ¬ (x ≡ y)) (numbers (Handled other s))) (numbers (Handled log s)) (ap (λ (es : List Event). numbers (packets_in es)) (silent_log t (ScatterAim t) (ScatterEnd t) h r l j i s k c m log there))
      ];
    }
  where
    given : (s : ℕ) (k : LinkRecord) → IsServed t (ScatterAim t) (ScatterEnd t) h s k → (m : ℕ) (log : Log) → slice_get r.workers m ≡ Some log → Each (Is (packets_on t k)) (told_of s log)
    given s k v m log there = each_prefix (Is (packets_on t k)) (told_of s log) (streams s (pushes t h s) m) (begins t (ScatterAim t) (ScatterEnd t) h r l j i s m log there)
        (each_share (Is (packets_on t k)) (story_in s) (Worker m) (pushes t h s) (spread t s k (pushes t h s) v.kept.aims).are)

    heads : (s m : ℕ) (log : Log) → slice_get r.workers m ≡ Some log → IsPrefix (numbers (Handled log s)) (collect (num_in s) (of (Worker m) (pushes t h s)))
    heads s m log there = subst (IsPrefix (numbers (Handled log s))) (num_is s (of (Worker m) (pushes t h s)))
        (prefix_collect number_of (Handled log s) (packets_in (streams s (pushes t h s) m)) (prefix_collect packet_in (told_of s log) (streams s (pushes t h s) m) (begins t (ScatterAim t) (ScatterEnd t) h r l j i s m log there)))

-- a number that was pushed was pushed to some worker
find_share : (t : Terms) (f : Message → List ℕ) (n : ℕ) (ms : Mail) → Each (λ (e : ActorId × Message). (f e.1 ≡ []) ⊎ IsWorker t e.0) ms → Has n (collect f (bare ms)) → (k : ℕ) × ((k < t.worker_num) × Has n (collect f (of (Worker k) ms)))
find_share t f n [] h (x, e) = absurd (cc)
find_share t f n (m ∷ ms) h has = split (here (f m.1) (collect f (bare ms)) has.0 has.1) (λ k. find_share t f n ms h.1 k)
  where
    here : (xs ys : List ℕ) (k : ℕ) → slice_get (xs ++ ys) k ≡ Some n → Has n xs ⊎ Has n ys
    here [] ys k e = inr (k, e)
    here (x ∷ xs) ys zero e = inl (0, e)
    here (x ∷ xs) ys (suc k) e = elim (here xs ys k e) [ inl a ↦ inl (suc a.0, a.1) | inr b ↦ inr b ]

    left : (xs ys : List ℕ) → Has n xs → Has n (xs ++ ys)
    left xs ys a = has_prefix n xs (xs ++ ys) (ys, refl) a

    right : (xs ys : List ℕ) → Has n ys → Has n (xs ++ ys)
    right [] ys a = a
    right (x ∷ xs) ys a = let b = right xs ys a in (suc b.0, b.1)

    behind : (k : ℕ) (b : Bool) → Has n (collect f (of (Worker k) ms)) → Has n (collect f (when b m.1 ++ of (Worker k) ms))
    behind k true a = right (f m.1) (collect f (of (Worker k) ms)) a
    behind k false a = a

    none : Has n (f m.1) → f m.1 ≡ [] → ⊥
    none a e = absurd (let q : slice_get [] a.0 ≡ Some n = subst (λ (xs : List ℕ). slice_get xs a.0 ≡ Some n) e a.1 in cc)

    own : (k : ℕ) → m.0 ≡ Worker k → Has n (f m.1) → Has n (collect f (of (Worker k) (m ∷ ms)))
    own k e a = rw (e, is_refl (Worker k)) (left (f m.1) (collect f (of (Worker k) ms)) a)

    split : Has n (f m.1) ⊎ Has n (collect f (bare ms)) → (Has n (collect f (bare ms)) → (k : ℕ) × ((k < t.worker_num) × Has n (collect f (of (Worker k) ms)))) → (k : ℕ) × ((k < t.worker_num) × Has n (collect f (of (Worker k) (m ∷ ms))))
    split (inl a) g = elim h.0 [ inl e ↦ absurd (none a e) | inr w ↦ (w.0, (w.1.0, own w.0 w.1.1 a)) ]
    split (inr b) g = let k = g b in (k.0, (k.1.0, behind k.0 (is m.0 (Worker k.0)) k.1.1))

crew_has_log : (h : Past) (n k m : ℕ) → m < k → slice_get (collect (log_at h) (crew Worker n k)) m ≡ Some (h.log (Worker (n + m)))
crew_has_log h n zero m lt = absurd (omega arith)
crew_has_log h n (suc k) zero lt = ap (λ i. Some (h.log (Worker i))) (let e : n ≡ n + 0 = omega arith in e)
crew_has_log h n (suc k) (suc m) lt = crew_has_log h (n + 1) k m (omega arith) ∙ ap (λ i. Some (h.log (Worker i))) (let e : n + 1 + m ≡ n + suc m = omega arith in e)

-- the n-th of numbered packets has the number n
pub has_number : (from n : ℕ) (bs : List (List ℕ)) → n < length bs → Has (from + n) (numbers (numbered from bs))
has_number from n [] lt = absurd (omega arith)
has_number from zero (b ∷ bs) lt = (0, ap (λ x. Some x) (let e : from ≡ from + 0 = omega arith in e))
has_number from (suc n) (b ∷ bs) lt = let k = has_number (from + 1) n bs (omega arith) in (suc k.0, k.1 ∙ ap (λ x. Some x) (let e : from + 1 + n ≡ from + suc n = omega arith in e))

pub length_take : {A : Type 0} (n : ℕ) (xs : List A) → n ≤ length xs → length (take n xs) ≡ n
length_take zero xs le = refl
length_take (suc n) [] le = absurd (omega arith)
length_take (suc n) (x ∷ xs) le = let r : length (take n xs) ≡ n = length_take n xs (omega arith) in omega arith

pub whole_scattered : (t : Terms) (h : Past) (r : Record) → Locals t (ScatterAim t) (ScatterEnd t) h → Joint t h → IsShown t h r → WholeScattered t r
whole_scattered t h r l j i s k e has state mine n lt = by (served t (ScatterAim t) (ScatterEnd t) h r l j i s k has)
  where
    p : Mail
    p = pushes t h s

    by : IsServed t (ScatterAim t) (ScatterEnd t) h s k ⊎ IsSilent t h s k → (m : ℕ) × ((log : Log) × ((slice_get r.workers m ≡ Some log) × Has n (numbers (Handled log s))))
    by (inr c) = absurd (not_silent t h s k e c state mine)
    by (inl v) =
        let bs : List (List ℕ) = take e.dispatched (packets_cut t k.pieces) in
        let enough : n < length bs = (let a : length bs ≡ e.dispatched = length_take e.dispatched (packets_cut t k.pieces) (v.kept.few e state) in omega arith) in
        let a : Has n (numbers (numbered 0 bs)) = subst (λ x. Has x (numbers (numbered 0 bs))) (let q : 0 + n ≡ n = omega arith in q) (has_number 0 n bs enough) in
        let b : Has n (collect (num_in s) (bare (pushes t h s))) = subst (Has n) (sym (ap numbers (packets_numbers s 0 bs)) ∙ sym (ap (λ (es : List Event). numbers (packets_in es)) (v.kept.whole_then e state mine)) ∙ num_is s (bare (pushes t h s))) a in
        let f = find_share t (num_in s) n (pushes t h s) (each_more (λ (x : ActorId × Message). MayPush t (Reactor (reactor_of t s)) x.0 x.1) (λ (x : ActorId × Message). (num_in s x.1 ≡ []) ⊎ IsWorker t x.0) (pushes t h s) (λ x q. elim (to_worker t s packet_to (Reactor (reactor_of t s)) x.0 x.1 q) [ inl z ↦ inl (ap (λ (es : List Event). numbers (packets_in es)) (sym (same_events s x.1) ∙ z)) | inr w ↦ inr w ]) (all_routed t (ScatterAim t) (ScatterEnd t) h l j (Reactor (reactor_of t s)))) b in
        let there : slice_get r.workers f.0 ≡ Some (h.log (Worker f.0)) = ap (λ (xs : List Log). slice_get xs f.0) i.workers ∙ crew_has_log h 0 t.worker_num f.0 f.1.0 ∙ ap (λ x. Some (h.log (Worker x))) (let q : 0 + f.0 ≡ f.0 = omega arith in q) in
        let told : told_of s (h.log (Worker f.0)) ≡ streams s (pushes t h s) f.0 = ends_whole t (ScatterAim t) (ScatterEnd t) h r l j i s k e v state mine f.0 (h.log (Worker f.0)) there in
        (f.0, (h.log (Worker f.0), (there, subst (Has n) (sym (num_is s (of (Worker f.0) (pushes t h s))) ∙ sym (ap (λ (es : List Event). numbers (packets_in es)) told)) f.1.1)))
      where
        packet_to : Event → List Event
        packet_to x = x ∷ []

        same_events : (u : ℕ) (m : Message) → collect packet_to (story_in u m) ≡ story_in u m
        same_events u m = all (story_in u m)
          where
            all : (es : List Event) → collect packet_to es ≡ es
            all [] = refl
            all (x ∷ es) = ap (λ ys. x ∷ ys) (all es)
