-- Modes 2 and 4: packets reach their worker in order.
use Rattle.std.proofs.Common.{◌≡◌, ℕ, ◌+◌, List, [], ◌∷◌, ◌++◌, length, take, drop, refl, ap, ◌∙◌, sym, subst, arith, inl, inr, zero, suc}
use Rattle.sw_lists.proofs.Lists.{append_none, prefix_collect, prefix_none, prefix_trans}
use Rattle.sw_lists.specs.Lists.{collect, IsPrefix}
use Rattle.sw_step.specs.declared.actor.ActorId.TheVariants.{Reactor}
use Rattle.sw_record.specs.Logs.{told_of, packet_in, packets_in, connect_in}
use Rattle.sw_record.specs.Order.{target, NoConnect, ConnectFirst, ClosedLast, IsInOrder, InOrderKept, NoStranger}
use Rattle.sw_record.specs.Terms.{Terms, numbered, packets_cut, packets_on, reactor_of}
use Rattle.sw_record.specs.Words.{Event, Connect, Packet, Closed, Finish, Task, Log}
use Rattle.sw_record.specs.declared.record.LinkRecord.{LinkRecord}
use Rattle.sw_record.specs.declared.record.Record.{Record}
use Rattle.sw_past.specs.Past.{Mail, Past}
use Rattle.sw_join.proofs.Shown.{shown_drawn, shown_worker}
use Rattle.sw_join.proofs.Told.{shows, stranger_none, told_prefix, unkept_none}
use Rattle.sw_join.specs.Aims.{packets_from, story, KeptAim}
use Rattle.sw_join.specs.Laws.{Ending, streams, Joint, Locals}
use Rattle.sw_join.specs.Shown.{IsShown}

pub numbered-append : (n : ℕ) (xs ys : List (List ℕ)) → numbered n (xs ++ ys) ≡ numbered n xs ++ numbered (n + length xs) ys
numbered-append n [] ys = ap (λ k. numbered k ys) (omega arith)
numbered-append n (x ∷ xs) ys = ap (λ ps. (n, x) ∷ ps) (numbered-append (n + 1) xs ys ∙ ap (λ k. numbered (n + 1) xs ++ numbered k ys) (omega arith))

pub take_drop : {A : Type 0} (n : ℕ) (xs : List A) → take n xs ++ drop n xs ≡ xs
take_drop zero xs = refl
take_drop (suc n) [] = refl
take_drop (suc n) (x ∷ xs) = ap (λ ys. x ∷ ys) (take_drop n xs)

pub numbered_take : (k : ℕ) (bs : List (List ℕ)) → IsPrefix (numbered 0 (take k bs)) (numbered 0 bs)
numbered_take k bs = (numbered (0 + length (take k bs)) (drop k bs), sym (numbered-append 0 (take k bs) (drop k bs)) ∙ ap (numbered 0) (take_drop k bs))

packets_numbered : (s n : ℕ) (bs : List (List ℕ)) → packets_in (packets_from s n bs ++ Closed s ∷ []) ≡ numbered n bs
packets_numbered s n [] = refl
packets_numbered s n (b ∷ bs) = ap (λ ps. (n, b) ∷ ps) (packets_numbered s (n + 1) bs)

pub story_packets : (s : ℕ) (bs : List (List ℕ)) → packets_in (story s bs) ≡ numbered 0 bs
story_packets s bs = packets_numbered s 0 bs

no_connect : (s n : ℕ) (bs : List (List ℕ)) → NoConnect (packets_from s n bs ++ Closed s ∷ [])
no_connect s n [] = refl
no_connect s n (b ∷ bs) = no_connect s (n + 1) bs

closed_last : (s n : ℕ) (bs : List (List ℕ)) → ClosedLast (packets_from s n bs ++ Closed s ∷ [])
closed_last s n [] = refl
closed_last s n (b ∷ bs) = closed_last s (n + 1) bs

closed_last_front : (xs ys : List Event) → ClosedLast (xs ++ ys) → ClosedLast xs
closed_last_front [] ys h = tt
closed_last_front (Connect s ∷ xs) ys h = closed_last_front xs ys h
closed_last_front (Packet s i b ∷ xs) ys h = closed_last_front xs ys h
closed_last_front (Closed s ∷ xs) ys h = (append_none xs ys h).0
closed_last_front (Finish i b ∷ xs) ys h = closed_last_front xs ys h
closed_last_front (Task w i b ∷ xs) ys h = closed_last_front xs ys h

connect_first_front : (x : Event) (xs ys : List Event) → NoConnect ys → IsPrefix xs (x ∷ ys) → ConnectFirst xs
connect_first_front x [] ys n p = tt
connect_first_front x (e ∷ xs) ys n p = prefix_none (collect connect_in xs) (collect connect_in ys) (prefix_collect connect_in xs ys (p.0, (let q : e ∷ (xs ++ p.0) ≡ x ∷ ys = p.1 in cc))) n

pub story_in_order : (t : Terms) (l : LinkRecord) (s n : ℕ) (es : List Event) → IsPrefix es (story s (take n (packets_cut t l.pieces))) → IsInOrder t l es
story_in_order t l s n es p =
    let bs : List (List ℕ) = take n (packets_cut t l.pieces) in
    record {
      packets = prefix_trans (packets_in es) (numbered 0 bs) (packets_on t l) (subst (IsPrefix (packets_in es)) (story_packets s bs) (prefix_collect packet_in es (story s bs) p)) (numbered_take n (packets_cut t l.pieces));
      connect_first = connect_first_front (Connect s) es (packets_from s 0 bs ++ Closed s ∷ []) (no_connect s 0 bs) p;
      closed_last = closed_last_front es p.0 (subst ClosedLast (sym p.1) (closed_last s 0 bs));
    }

pub nothing_in_order : (t : Terms) (l : LinkRecord) (es : List Event) → es ≡ [] → IsInOrder t l es
nothing_in_order t l es e = rw e (record { packets = (packets_on t l, refl); connect_first = tt; closed_last = tt })

pub in_order_kept : (t : Terms) (w : Ending) (h : Past) (r : Record) → Locals t (KeptAim t) w h → Joint t h → IsShown t h r → InOrderKept t r
in_order_kept t w h r l j i =
    record {
      at_target = λ s k has log there.
          let a = shown_worker t h r i (target t s k.ip) log there in
          let p : IsPrefix (told_of s log) (streams s (h.pushed (Reactor (reactor_of t s))) (target t s k.ip)) = subst (λ (x : Log). IsPrefix (told_of s x) (streams s (h.pushed (Reactor (reactor_of t s))) (target t s k.ip))) a.1 (told_prefix t (KeptAim t) w h l j (target t s k.ip) s a.0) in
          elim (i.link s k has) [
            | inl q ↦ (let aim = ((shows t (KeptAim t) w h l j (reactor_of t s) q.0).keeps s k q.1 has.session).aims in
                story_in_order t k s aim.count (told_of s log) (prefix_trans (told_of s log) (streams s (h.pushed (Reactor (reactor_of t s))) (target t s k.ip)) (story s (take aim.count (packets_cut t k.pieces))) p aim.there))
            | inr c ↦ nothing_in_order t k (told_of s log) (prefix_none (told_of s log) (streams s (h.pushed (Reactor (reactor_of t s))) (target t s k.ip)) p (unkept_none t (KeptAim t) w h l j s (target t s k.ip) c.unkept))
          ];
      nowhere_else = λ s k has m log there other.
          let a = shown_worker t h r i m log there in
          let p : IsPrefix (told_of s log) (streams s (h.pushed (Reactor (reactor_of t s))) m) = subst (λ (x : Log). IsPrefix (told_of s x) (streams s (h.pushed (Reactor (reactor_of t s))) m)) a.1 (told_prefix t (KeptAim t) w h l j m s a.0) in
          elim (i.link s k has) [
            | inl q ↦ (let aim = ((shows t (KeptAim t) w h l j (reactor_of t s) q.0).keeps s k q.1 has.session).aims in
                prefix_none (told_of s log) (streams s (h.pushed (Reactor (reactor_of t s))) m) p (aim.elsewhere m other))
            | inr c ↦ prefix_none (told_of s log) (streams s (h.pushed (Reactor (reactor_of t s))) m) p (unkept_none t (KeptAim t) w h l j s m c.unkept)
          ];
    }

pub no_stranger : (t : Terms) (a : ℕ → LinkRecord → Mail → Type 0) (w : Ending) (h : Past) (r : Record) → Locals t a w h → Joint t h → IsShown t h r → NoStranger r
no_stranger t a w h r l j i k log there s none =
    let b = shown_worker t h r i k log there in
    ap (told_of s) (sym b.1) ∙ stranger_none t a w h l j s k (λ has. none (shown_drawn t h r i s has).0 (shown_drawn t h r i s has).1) b.0
