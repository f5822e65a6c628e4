-- A push and a take keep the pipes' law, and the order between two pipes is plain as a link is taken.
use Rattle.std.proofs.Common.{◌≡◌, ℕ, Bool, true, false, if◌then◌else◌, List, [], ◌∷◌, ◌++◌, refl, ap, ◌∙◌, sym, subst, append-nil, append_assoc, inl, inr}
use Rattle.sw_lists.proofs.Lists.{bool_cases, collect-append, collect-collect, collect-same, prefix_collect, prefix_none, prefix_trans}
use Rattle.sw_lists.specs.Lists.{collect, IsPrefix, Each, when}
use Rattle.sw_step.specs.Actors.{is}
use Rattle.sw_step.specs.declared.actor.ActorId.{ActorId}
use Rattle.sw_step.specs.declared.actor.ActorId.TheVariants.{Reactor, Worker}
use Rattle.sw_record.specs.Logs.{told_of}
use Rattle.sw_record.specs.Own.{StandsEarly}
use Rattle.sw_record.specs.Sends.{sent_to, sends_after, sends_before}
use Rattle.sw_record.specs.Terms.{Terms, reactor_of}
use Rattle.sw_record.specs.Words.{Act, Done, Given, Log}
use Rattle.sw_past.specs.Messages.{Message}
use Rattle.sw_past.specs.Past.{Mail, Past, bare, with, of}
use Rattle.sw_past.specs.Routes.{IsHand}
use Rattle.sw_past.specs.Said.{owed_then, said_by, said, settled_after, settled}
use Rattle.sw_past.specs.Views.{fresh_of, sends_in, talk_in}
use Rattle.sw_join.proofs.Routes.{is_other, is_refl, is_same}
use Rattle.sw_join.proofs.Said.{said_sends, talk_sends, by_sends, then_silent}
use Rattle.sw_join.proofs.Told.{told_prefix, untaken_none}
use Rattle.sw_join.proofs.Whole.{tasker_told}
use Rattle.sw_join.specs.Laws.{Aim, Ending, Joint, Locals}
use Rattle.sw_join.specs.Steps.{put, IsPiped}

is_flip : (x y : ActorId) → is x y ≡ is y x
is_flip x y = elim (bool_cases (is x y)) [
  | inl e ↦ (let q : x ≡ y = is_same x y e in ap (λ (z : ActorId). is x z) (sym q) ∙ ap (λ (z : ActorId). is z x) q)
  | inr e ↦ e ∙ sym (is_other y x (λ q. absurd (let a : is x y ≡ true = ap (λ (z : ActorId). is x z) q ∙ is_refl x in cc)))
]

one_of : (x y : ActorId) (m : Message) (ms : Mail) → of x (ms ++ (y, m) ∷ []) ≡ of x ms ++ when (is y x) m
one_of x y m ms = collect-append (with x) ms ((y, m) ∷ []) ∙ ap (λ zs. of x ms ++ zs) (append-nil (when (is y x) m))

put_of : (f : ActorId → Mail) (y x z w : ActorId) (m : Message) → of w (put f y (x, m) z) ≡ of w (f z) ++ (if is z y then when (is x w) m else [])
put_of f y x z w m = pick (is z y)
  where
    pick : (b : Bool) → of w (if b then f z ++ (x, m) ∷ [] else f z) ≡ of w (f z) ++ (if b then when (is x w) m else [])
    pick true = one_of w x m (f z)
    pick false = sym (append-nil (of w (f z)))

pub push_keeps : (took pushed sent : ActorId → Mail) → IsPiped took pushed sent → (y x : ActorId) (m : Message) → IsPiped took (put pushed y (x, m)) (put sent x (y, m))
push_keeps took pushed sent p y x m =
    record {
      same = λ a b. put_of pushed y x b a m ∙ ap (λ zs. zs ++ (if is b y then when (is x a) m else [])) (p.same a b) ∙ ap (λ zs. of b (sent a) ++ zs) (cross (is b y) (is x a) (is a x) (is y b) (is_flip b y) (is_flip x a)) ∙ sym (put_of sent x y a b m);
      begins = λ z. more z (is z x);
    }
  where
    cross : (u v c d : Bool) → u ≡ d → v ≡ c → ◌≡◌ {A = List Message} (if u then when v m else []) (if c then when d m else [])
    cross u v c d p q = subst (λ (z : Bool). ◌≡◌ {A = List Message} (if u then when v m else []) (if z then when d m else [])) q (subst (λ (z : Bool). ◌≡◌ {A = List Message} (if u then when v m else []) (if v then when z m else [])) p (both u v))
      where
        both : (a b : Bool) → ◌≡◌ {A = List Message} (if a then when b m else []) (if b then when a m else [])
        both true true = refl
        both true false = refl
        both false true = refl
        both false false = refl

    more : (z : ActorId) (b : Bool) → IsPrefix (took z) (if b then sent z ++ (y, m) ∷ [] else sent z)
    more z true = prefix_trans (took z) (sent z) (sent z ++ (y, m) ∷ []) (p.begins z) ((y, m) ∷ [], refl)
    more z false = p.begins z

pub take_keeps : (took pushed sent : ActorId → Mail) → IsPiped took pushed sent → (x : ActorId) (e : ActorId × Message) (rest : Mail) → sent x ≡ took x ++ e ∷ rest → IsPiped (put took x e) pushed sent
take_keeps took pushed sent p x e rest q =
    record { same = p.same; begins = λ z. more z (is z x) refl }
  where
    more : (z : ActorId) (b : Bool) → is z x ≡ b → IsPrefix (if b then took z ++ e ∷ [] else took z) (sent z)
    more z true i = (let w : z ≡ x = is_same z x i in (rest, append_assoc (took z) (e ∷ []) rest ∙ sym (ap (λ (u : ActorId). sent u) w ∙ q ∙ ap (λ (u : ActorId). took u ++ e ∷ rest) (sym w))))
    more z false i = p.begins z

pub pipes : (took pushed sent : ActorId → Mail) → IsPiped took pushed sent → (x y : ActorId) → IsPrefix (of y (took x)) (of x (pushed y))
pipes took pushed sent p x y = subst (IsPrefix (of y (took x))) (sym (p.same x y)) (prefix_collect (with y) (took x) (sent x) (p.begins x))

-- as a link is taken: each hand's log has no event of its session, and what came of that hand stands in the log
hand_told : (t : Terms) (a : Aim) (w : Ending) (h : Past) → Locals t a w h → Joint t h → (s : ℕ) (y : ActorId) → IsHand t y → collect (fresh_of s) (bare (h.took (Reactor (reactor_of t s)))) ≡ [] → told_of s (h.log y) ≡ []
hand_told t a w h l j s y (inr k) none = ap (λ (z : ActorId). told_of s (h.log z)) k.1.1 ∙ tasker_told t a w h l s k.0 k.1.0
hand_told t a w h l j s y (inl k) none = ap (λ (z : ActorId). told_of s (h.log z)) k.1.1 ∙ prefix_none (told_of s (h.log (Worker k.0))) _ (told_prefix t a w h l j k.0 s k.1.0) (untaken_none t a w h l j s k.0 none)

before_none : (s : ℕ) (act : Act) (log : Log) → sends_before s act log [] ≡ sends_after s act log
before_none s act [] = refl
before_none s act (x ∷ xs) = ap (λ zs. sent_to s act x.0 ++ zs) (before_none s x.1 xs)

pub note_now : (t : Terms) (a : Aim) (w : Ending) (h : Past) → Locals t a w h → Joint t h → (s : ℕ) (y : ActorId) → IsHand t y → collect (fresh_of s) (bare (h.took (Reactor (reactor_of t s)))) ≡ [] → StandsEarly (h.log y) s (collect (sends_in s) (of y (h.took (Reactor (reactor_of t s)))))
note_now t a w h l j s y hand none =
    let x : ActorId = Reactor (reactor_of t s) in
    let p : IsPrefix (collect (talk_in s) (of y (h.took x))) (said t s (h.log y)) = prefix_trans (collect (talk_in s) (of y (h.took x))) (collect (talk_in s) (of x (h.pushed y))) (said t s (h.log y)) (prefix_collect (talk_in s) (of y (h.took x)) (of x (h.pushed y)) (j.pipes x y)) ((l.hand y hand).talk s) in
    let q : IsPrefix (collect (sends_in s) (collect (talk_in s) (of y (h.took x)))) (collect (sends_in s) (said t s (h.log y))) = prefix_collect (sends_in s) (collect (talk_in s) (of y (h.took x))) (said t s (h.log y)) p in
    let e : collect (sends_in s) (collect (talk_in s) (of y (h.took x))) ≡ collect (sends_in s) (of y (h.took x)) = collect-collect (sends_in s) (talk_in s) (of y (h.took x)) ∙ collect-same (λ m. collect (sends_in s) (talk_in s m)) (sends_in s) (talk_sends s) (of y (h.took x)) in
    record {
      early = h.log y;
      late = [];
      split = sym (append-nil (h.log y));
      untold = hand_told t a w h l j s y hand none;
      sends = (q.0, ap (λ (zs : List (List ℕ)). zs ++ q.0) (sym e) ∙ q.1 ∙ said_sends t (h.log y) s ∙ sym (before_none s Done (h.log y)));
    }

-- and stays so as the log grows, as long as the sends that came are among those that the longer log still has there
before_more : (s : ℕ) (act : Act) (early : Log) (y : Given × Act) (ys more : Log) → sends_before s act early (y ∷ ys) ≡ sends_before s act early (y ∷ (ys ++ more))
before_more s act [] y ys more = refl
before_more s act (x ∷ xs) y ys more = ap (λ zs. sent_to s act x.0 ++ zs) (before_more s x.1 xs y ys more)

pub note_more : (log more : Log) (s : ℕ) (front : List (List ℕ)) → StandsEarly log s front → IsPrefix front (sends_before s Done log more) → StandsEarly (log ++ more) s front
note_more log more s front e p = by e.late e.split e.sends
  where
    by : (late : Log) → log ≡ e.early ++ late → IsPrefix front (sends_before s Done e.early late) → StandsEarly (log ++ more) s front
    by [] q k = let same : log ≡ e.early = q ∙ append-nil e.early in record { early = log; late = more; split = refl; untold = ap (told_of s) same ∙ e.untold; sends = p }
    by (y ∷ ys) q k = record { early = e.early; late = y ∷ (ys ++ more); split = ap (λ (x : Log). x ++ more) q ∙ append_assoc e.early (y ∷ ys) more; untold = e.untold; sends = subst (IsPrefix front) (before_more s Done e.early y ys more) k }

-- what is said for good is sent by the acts that the log's next entry answers
settled_before : (t : Terms) (s : ℕ) (owed : List Message) (act : Act) (log : Log) (g : Given) (a : Act) → Each (λ (m : Message). sends_in s m ≡ []) owed → collect (sends_in s) (settled_after t s owed act (log ++ (g, a) ∷ [])) ≡ sends_before s act log ((g, a) ∷ [])
settled_before t s owed act [] g a h = ap (collect (sends_in s)) (append-nil (said_by s owed act g)) ∙ by_sends s owed act g h
settled_before t s owed act (x ∷ xs) g a h =
    collect-append (sends_in s) (said_by s owed act x.0) (settled_after t s (owed_then t s owed x.0) x.1 (xs ++ (g, a) ∷ []))
    ∙ ap (λ (bs : List (List ℕ)). bs ++ collect (sends_in s) (settled_after t s (owed_then t s owed x.0) x.1 (xs ++ (g, a) ∷ []))) (by_sends s owed act x.0 h)
    ∙ ap (λ (bs : List (List ℕ)). sent_to s act x.0 ++ bs) (settled_before t s (owed_then t s owed x.0) x.1 xs g a (then_silent t s owed x.0 h))

-- a hand's turn: all that was pushed of s is said for good as the log goes on
pub note_later : (t : Terms) (log : Log) (g : Given) (a : Act) (s : ℕ) (front : List (List ℕ)) (talk : List Message) → StandsEarly log s front → IsPrefix front (collect (sends_in s) talk) → IsPrefix talk (settled t s (log ++ (g, a) ∷ [])) → StandsEarly (log ++ (g, a) ∷ []) s front
note_later t log g a s front talk e p q =
    note_more log ((g, a) ∷ []) s front e
    (subst (IsPrefix front) (settled_before t s [] Done log g a tt) (prefix_trans front (collect (sends_in s) talk) (collect (sends_in s) (settled t s (log ++ (g, a) ∷ []))) p (prefix_collect (sends_in s) talk (settled t s (log ++ (g, a) ∷ [])) q)))
