-- Every byte that is written on a link was sent for its own session.
use Rattle.std.proofs.Common.{◌≡◌, ◌⊎◌, ℕ, ◌<◌, ◌==◌, Bool, true, false, List, [], ◌∷◌, ◌++◌, length, refl, ap, ◌∙◌, sym, subst, append-nil, append_assoc, arith, Some, slice_get, inl, inr, zero, suc}
use Rattle.sw_lists.proofs.Lists.{collect-append, collect-collect, collect-same, each_left, each_more, each_right, prefix_collect, prefix_trans}
use Rattle.sw_lists.specs.Lists.{collect, IsPrefix, Each, Has, when}
use Rattle.sw_step.specs.Actors.{is}
use Rattle.sw_step.specs.declared.actor.ActorId.{ActorId}
use Rattle.sw_step.specs.declared.actor.ActorId.TheVariants.{Door, Reactor}
use Rattle.sw_record.specs.Own.{StandsEarly, Owned, Own}
use Rattle.sw_record.specs.Sends.{Sends, sends_before}
use Rattle.sw_record.specs.Terms.{Terms, logs, session_of, reactor_of}
use Rattle.sw_record.specs.Words.{Done, Log}
use Rattle.sw_record.specs.declared.record.LinkRecord.{LinkRecord}
use Rattle.sw_record.specs.declared.record.Record.{Record}
use Rattle.sw_past.specs.Messages.{Message, FreshMsg, SendMsg, CloseMsg, ResetMsg, Bye, EventMsg, OverMsg, NoMore}
use Rattle.sw_past.specs.Past.{Mail, Past, bare, with, of}
use Rattle.sw_past.specs.Routes.{IsHand, MayPush, hands}
use Rattle.sw_past.specs.Said.{said}
use Rattle.sw_past.specs.Views.{sends_in, talk_in}
use Rattle.sw_join.proofs.Merged.{AtMostOne, get_share, hands_apart, hands_are, hands_have, merge_shares, shares}
use Rattle.sw_join.proofs.Said.{said_sends, talk_sends}
use Rattle.sw_join.proofs.Shown.{shown_logs}
use Rattle.sw_join.proofs.Told.{shows, took_all}
use Rattle.sw_join.specs.Laws.{Aim, Ending, IsKept, Joint, Locals}
use Rattle.sw_join.specs.Shown.{IsComing, log_at, IsShown}

-- what came of one, before a link, behind it and later
pub split_share : {B : Type 0} (f : Message → List B) (y : ActorId) (d : ActorId × Message) (early mid later : Mail) → f d.1 ≡ [] → collect f (of y (early ++ d ∷ (mid ++ later))) ≡ collect f (of y early) ++ (collect f (of y mid) ++ collect f (of y later))
split_share {B} f y d early mid later n =
    ap (collect f) (collect-append (with y) early (d ∷ (mid ++ later)))
    ∙ collect-append f (of y early) (of y (d ∷ (mid ++ later)))
    ∙ ap (λ (xs : List B). collect f (of y early) ++ xs) (drop (is d.0 y) ∙ ap (collect f) (collect-append (with y) mid later) ∙ collect-append f (of y mid) (of y later))
  where
    drop : (b : Bool) → collect f (when b d.1 ++ of y (mid ++ later)) ≡ collect f (of y (mid ++ later))
    drop true = ap (λ (xs : List B). xs ++ collect f (of y (mid ++ later))) n
    drop false = refl

-- THE TALK. What a hand says of s is what its reactor took before the link, behind it, later, and what is left
pub record Talks (t : Terms) (s : ℕ) (y : ActorId) (log : Log) (early mid later : Mail) : Type 0 where
  pub left : List Message
  pub joined : collect (talk_in s) (of y early) ++ (collect (talk_in s) (of y mid) ++ (collect (talk_in s) (of y later) ++ left)) ≡ said t s log

pub talks : (t : Terms) (a : Aim) (w : Ending) (h : Past) → Locals t a w h → Joint t h → (s ip : ℕ) (early mid later : Mail) → h.took (Reactor (reactor_of t s)) ≡ early ++ (Door, FreshMsg ip s) ∷ (mid ++ later) → (y : ActorId) → IsHand t y → Talks t s y (h.log y) early mid later
talks t a w h l j s ip early mid later split y hand =
    let x : ActorId = Reactor (reactor_of t s) in
    let p : IsPrefix (collect (talk_in s) (of y (h.took x))) (said t s (h.log y)) =
    prefix_trans (collect (talk_in s) (of y (h.took x))) (collect (talk_in s) (of x (h.pushed y))) (said t s (h.log y))
    (prefix_collect (talk_in s) (of y (h.took x)) (of x (h.pushed y)) (j.pipes x y)) ((l.hand y hand).talk s) in
    let e : collect (talk_in s) (of y (h.took x)) ≡ collect (talk_in s) (of y early) ++ (collect (talk_in s) (of y mid) ++ collect (talk_in s) (of y later)) =
    ap (λ (ms : Mail). collect (talk_in s) (of y ms)) split ∙ split_share (talk_in s) y (Door, FreshMsg ip s) early mid later refl in
    record {
      left = p.0;
      joined = ap (λ ms. collect (talk_in s) (of y early) ++ ms) (sym (append_assoc (collect (talk_in s) (of y mid)) (collect (talk_in s) (of y later)) p.0))
          ∙ sym (append_assoc (collect (talk_in s) (of y early)) (collect (talk_in s) (of y mid) ++ collect (talk_in s) (of y later)) p.0)
          ∙ ap (λ ms. ms ++ p.0) (sym e) ∙ p.1;
    }

-- what comes behind the part in what is said
abbrev pub behind : (t : Terms) (s : ℕ) (y : ActorId) (log : Log) (early mid later : Mail) → Talks t s y log early mid later → List Message
behind t s y log early mid later k = collect (talk_in s) (of y later) ++ k.left

talk_is : (s : ℕ) (y : ActorId) (ms : Mail) → collect (sends_in s) (collect (talk_in s) (of y ms)) ≡ collect (sends_in s) (of y ms)
talk_is s y ms = collect-collect (sends_in s) (talk_in s) (of y ms) ∙ collect-same (λ m. collect (sends_in s) (talk_in s m)) (sends_in s) (talk_sends s) (of y ms)

-- so the sends that came, in three parts, are the log's
pub part_joined : (t : Terms) (s : ℕ) (y : ActorId) (log : Log) (early mid later : Mail) (k : Talks t s y log early mid later) → collect (sends_in s) (of y early) ++ (collect (sends_in s) (of y mid) ++ collect (sends_in s) (behind t s y log early mid later k)) ≡ Sends log s
part_joined t s y log early mid later k =
    let q : List Message = behind t s y log early mid later k in
    ap (λ (bs : List (List ℕ)). bs ++ (collect (sends_in s) (of y mid) ++ collect (sends_in s) q)) (sym (talk_is s y early))
    ∙ ap (λ (bs : List (List ℕ)). collect (sends_in s) (collect (talk_in s) (of y early)) ++ (bs ++ collect (sends_in s) q)) (sym (talk_is s y mid))
    ∙ ap (λ (bs : List (List ℕ)). collect (sends_in s) (collect (talk_in s) (of y early)) ++ bs) (sym (collect-append (sends_in s) (collect (talk_in s) (of y mid)) q))
    ∙ sym (collect-append (sends_in s) (collect (talk_in s) (of y early)) (collect (talk_in s) (of y mid) ++ q))
    ∙ ap (collect (sends_in s)) k.joined
    ∙ said_sends t log s

-- whose log stands there
pub record IsLogOf (t : Terms) (h : Past) (k : ℕ) (log : Log) : Type 0 where
  pub who : ActorId
  pub at : slice_get (hands t) k ≡ Some who
  pub hand : IsHand t who
  pub log_is : h.log who ≡ log

each_get : {A : Type 0} (P : A → Type 0) (xs : List A) (k : ℕ) (x : A) → Each P xs → slice_get xs k ≡ Some x → P x
each_get P [] k x h e = absurd (cc)
each_get P (y ∷ ys) zero x h e = subst P (let q : y ≡ x = cc in q) h.0
each_get P (y ∷ ys) (suc k) x h e = each_get P ys k x h.1 e

find_log : (h : Past) (ys : List ActorId) (k : ℕ) (log : Log) → slice_get (collect (log_at h) ys) k ≡ Some log → (y : ActorId) × (slice_get ys k ≡ Some y) × (h.log y ≡ log)
find_log h [] k log e = absurd (cc)
find_log h (y ∷ ys) zero log e = (y, refl, (let q : h.log y ≡ log = cc in q))
find_log h (y ∷ ys) (suc k) log e = find_log h ys k log e

pub log_of : (t : Terms) (h : Past) (r : Record) → IsShown t h r → (k : ℕ) (log : Log) → slice_get (logs r) k ≡ Some log → IsLogOf t h k log
log_of t h r i k log e =
    let f = find_log h (hands t) k log (sym (ap (λ (xs : List Log). slice_get xs k) (shown_logs t h r i)) ∙ e) in
    record { who = f.0; at = f.1; hand = each_get (IsHand t) (hands t) k f.0 (hands_are t) f.1; log_is = f.2 }

pub share_at : (f : Message → List (List ℕ)) (ms : Mail) (ys : List ActorId) (k : ℕ) (y : ActorId) (part : List (List ℕ)) → slice_get ys k ≡ Some y → slice_get (shares f ms ys) k ≡ Some part → collect f (of y ms) ≡ part
share_at f ms ys k y part a e = let q : slice_get (shares f ms ys) k ≡ Some (collect f (of y ms)) = get_share f ms ys k y a in cc

-- a part
pub part_of : (t : Terms) (a : Aim) (w : Ending) (h : Past) (r : Record) → Locals t a w h → Joint t h → IsShown t h r → (s ip : ℕ) (early mid later : Mail) → h.took (Reactor (reactor_of t s)) ≡ early ++ (Door, FreshMsg ip s) ∷ (mid ++ later) → (k : ℕ) (log : Log) → slice_get (logs r) k ≡ Some log → (o : IsLogOf t h k log) → Talks t s o.who (h.log o.who) early mid later
part_of t a w h r l j i s ip early mid later split k log there o = talks t a w h l j s ip early mid later split o.who o.hand

-- who sends is a hand
pub sender : (t : Terms) (s : ℕ) (from to : ActorId) (m : Message) → MayPush t from to m → (sends_in s m ≡ []) ⊎ Has from (hands t)
sender t s from to (SendMsg u b) h = inr (hands_have t from h.0)
sender t s from to (FreshMsg ip u) h = inl refl
sender t s from to (CloseMsg u) h = inl refl
sender t s from to (ResetMsg u) h = inl refl
sender t s from to (Bye u) h = inl refl
sender t s from to (EventMsg e) h = inl refl
sender t s from to (OverMsg id) h = inl refl
sender t s from to NoMore h = inl refl

pub one_send : (s : ℕ) → AtMostOne (sends_in s)
one_send s (SendMsg u b) = pick (u == s)
  where
    pick : (v : Bool) → (when v b ≡ []) ⊎ ((c : List ℕ) × (when v b ≡ c ∷ []))
    pick true = inr (b, refl)
    pick false = inl refl
one_send s (FreshMsg ip u) = inl refl
one_send s (CloseMsg u) = inl refl
one_send s (ResetMsg u) = inl refl
one_send s (Bye u) = inl refl
one_send s (EventMsg e) = inl refl
one_send s (OverMsg id) = inl refl
one_send s NoMore = inl refl

pub length_shares : (f : Message → List (List ℕ)) (ms : Mail) (ys : List ActorId) → length (shares f ms ys) ≡ length ys
length_shares f ms [] = refl
length_shares f ms (y ∷ ys) = omega (arith, length_shares f ms ys)

pub length_logs : (h : Past) (ys : List ActorId) → length (collect (log_at h) ys) ≡ length ys
length_logs h [] = refl
length_logs h (y ∷ ys) = omega (arith, length_logs h ys)

pub took_behind : (t : Terms) (n : ℕ) (early mid later took : Mail) (d : ActorId × Message) → took ≡ early ++ d ∷ (mid ++ later) → Each (λ (e : ActorId × Message). MayPush t e.0 (Reactor n) e.1) took → Each (λ (e : ActorId × Message). MayPush t e.0 (Reactor n) e.1) mid
took_behind t n early mid later took d q h =
    let P : ActorId × Message → Type 0 = λ (e : ActorId × Message). MayPush t e.0 (Reactor n) e.1 in
    each_left P mid later (each_right P early (d ∷ (mid ++ later)) (subst (Each P) q h)).1

-- a link that its reactor keeps: the appended sends are the witness
abbrev pub owned_kept : (t : Terms) (a : Aim) (w : Ending) (h : Past) (r : Record) → Locals t a w h → Joint t h → IsShown t h r → (s : ℕ) (l : LinkRecord) → IsKept t a w s l (h.took (Reactor (reactor_of t s))) (h.pushed (Reactor (reactor_of t s))) → Owned r s l
owned_kept t a w h r l j i s k m =
    record {
      parts = shares (sends_in s) m.mid (hands t);
      out = collect (sends_in s) (bare m.mid);
      each = length_shares (sends_in s) m.mid (hands t) ∙ sym (length_logs h (hands t)) ∙ ap (λ (xs : List Log). length xs) (sym (shown_logs t h r i));
      is_part = λ n log part there got.
          record {
            front = collect (sends_in s) (of (log_of t h r i n log there).who m.early);
            back = collect (sends_in s) (behind t s (log_of t h r i n log there).who (h.log (log_of t h r i n log there).who) m.early m.mid m.later (part_of t a w h r l j i s k.ip m.early m.mid m.later m.split n log there (log_of t h r i n log there)));
            joined =
                (let o : IsLogOf t h n log = log_of t h r i n log there in
                let b : Talks t s o.who (h.log o.who) m.early m.mid m.later = part_of t a w h r l j i s k.ip m.early m.mid m.later m.split n log there o in
                ap (λ (p : List (List ℕ)). collect (sends_in s) (of o.who m.early) ++ (p ++ collect (sends_in s) (behind t s o.who (h.log o.who) m.early m.mid m.later b))) (sym (share_at (sends_in s) m.mid (hands t) n o.who part o.at got))
                ∙ part_joined t s o.who (h.log o.who) m.early m.mid m.later b
                ∙ ap (λ (x : Log). Sends x s) o.log_is);
            early = λ told.
                (let o : IsLogOf t h n log = log_of t h r i n log there in
                subst (λ (x : Log). StandsEarly x s (collect (sends_in s) (of o.who m.early))) o.log_is (j.notes (reactor_of t s) o.who o.hand k.ip s m.early (m.mid ++ m.later) m.split));
          };
      merged = merge_shares (sends_in s) (one_send s) (hands t) (hands_apart t) m.mid
          (each_more (λ (e : ActorId × Message). MayPush t e.0 (Reactor (reactor_of t s)) e.1) (λ (e : ActorId × Message). (sends_in s e.1 ≡ []) ⊎ Has e.0 (hands t)) m.mid (λ e q. sender t s e.0 (Reactor (reactor_of t s)) e.1 q)
          (took_behind t (reactor_of t s) m.early m.mid m.later (h.took (Reactor (reactor_of t s))) (Door, FreshMsg k.ip s) m.split (took_all t a w h l j (Reactor (reactor_of t s)))));
      written = m.written;
    }

-- a link on its way
abbrev pub owned_coming : (t : Terms) (h : Past) (r : Record) → IsShown t h r → (s : ℕ) (l : LinkRecord) → IsComing t h s l → Owned r s l
owned_coming t h r i s k c =
    record {
      parts = shares (sends_in s) [] (hands t);
      out = [];
      each = length_shares (sends_in s) [] (hands t) ∙ sym (length_logs h (hands t)) ∙ ap (λ (xs : List Log). length xs) (sym (shown_logs t h r i));
      is_part = λ n log part there got.
          record {
            front = [];
            back = Sends log s;
            joined = ap (λ (p : List (List ℕ)). p ++ Sends log s) (sym (share_at (sends_in s) [] (hands t) n (log_of t h r i n log there).who part (log_of t h r i n log there).at got));
            early = λ told. record { early = []; late = log; split = refl; untold = refl; sends = (sends_before s Done [] log, refl) };
          };
      merged = merge_shares (sends_in s) (one_send s) (hands t) (hands_apart t) [] tt;
      written = ([], append-nil k.written ∙ c.written);
    }

abbrev pub owned_by : (t : Terms) (a : Aim) (w : Ending) (h : Past) (r : Record) → Locals t a w h → Joint t h → IsShown t h r → (s : ℕ) (l : LinkRecord) → session_of l.state ≡ Some s → ((reactor_of t s < t.reactor_num) × Has l (h.kept (reactor_of t s))) ⊎ IsComing t h s l → Owned r s l
owned_by t a w h r l j i s k e (inl q) = owned_kept t a w h r l j i s k ((shows t a w h l j (reactor_of t s) q.0).keeps s k q.1 e)
owned_by t a w h r l j i s k e (inr c) = owned_coming t h r i s k c

abbrev pub own : (t : Terms) (a : Aim) (w : Ending) (h : Past) (r : Record) → Locals t a w h → Joint t h → IsShown t h r → Own r
own t a w h r l j i = record { owned = λ s k has. owned_by t a w h r l j i s k has.session (i.link s k has); nothing = i.nothing }
