-- The whole join.
use Rattle.std.proofs.Common.{◌≡◌, ◌⊎◌, ℕ, ◌≤◌, ◌%◌, ◌==◌, Bool, true, false, List, [], ◌∷◌, ◌++◌, length, refl, ap, ◌∙◌, sym, subst, inl, inr, arith}
use Rattle.sw_lists.proofs.Lists.{each_more}
use Rattle.sw_lists.specs.Lists.{collect, Each}
use Rattle.sw_step.specs.declared.actor.ActorId.{ActorId}
use Rattle.sw_record.specs.Answers.{answers_of}
use Rattle.sw_record.specs.Dialogue.{Dialogue, Dialogues}
use Rattle.sw_record.specs.Orderly.{Ordered, Kept, Uid, Spread, Orderly}
use Rattle.sw_record.specs.Right.{ToldWhole, KeptWhole, UidWhole, SpreadWhole, Right}
use Rattle.sw_record.specs.Uids.{bound_in, info_in, for_session, uids_in, the_uid, uid_in, UidsRight}
use Rattle.sw_record.specs.Words.{Log}
use Rattle.sw_record.specs.declared.record.Record.{Record}
use Rattle.sw_past.specs.Past.{Past}
use Rattle.sw_past.specs.Routes.{IsHand, hands}
use Rattle.sw_join.proofs.Causes.{causes_right}
use Rattle.sw_join.proofs.Merged.{hands_are}
use Rattle.sw_join.proofs.Order.{in_order_kept, no_stranger}
use Rattle.sw_join.proofs.Own.{log_of, own}
use Rattle.sw_join.proofs.Places.{placed_right}
use Rattle.sw_join.proofs.Scatter.{scattered, whole_scattered}
use Rattle.sw_join.proofs.Sessions.{sessions_once}
use Rattle.sw_join.proofs.Shown.{shown_logs}
use Rattle.sw_join.proofs.Tasks.{tasks_right}
use Rattle.sw_join.proofs.Uid.{in_order_uid, whole_uid}
use Rattle.sw_join.proofs.Whole.{whole, whole_kept}
use Rattle.sw_join.specs.Aims.{KeptAim, KeptEnd, UidAim, UidEnd, ScatterAim, ScatterEnd}
use Rattle.sw_join.specs.Laws.{Aim, Ending, Joint, Locals}
use Rattle.sw_join.specs.Sessions.{WordLaws}
use Rattle.sw_join.specs.Shown.{log_at, IsShown}
use Rattle.sw_join.specs.Uids.{UidLaws}
use Rattle.sw_record.specs.Terms.{Terms, Outside, IsSpread, logs, reactor_of, keeps}
use Rattle.sw_record.specs.Places.{Ran}
use Rattle.sw_join.specs.Modes.{aim_by, end_by, AimOf, EndOf}
use Rattle.sw_join.specs.All.{AllLaws}
use Rattle.sw_lists.proofs.Lists.{eq_same, eq_is, equal_or_not}
use Rattle.sw_join.proofs.Fits.{has_logs, answers_fit}
use Rattle.sw_join.proofs.Tallies.{counts_right}

pub dialogues : (t : Terms) (a : Aim) (w : Ending) (h : Past) (r : Record) → Locals t a w h → IsShown t h r → Dialogues r
dialogues t a w h r l i k log there = let o = log_of t h r i k log there in subst Dialogue o.log_is (l.hand o.who o.hand).dialogue

-- the uids of all logs are those of all passes
passes_are : (t : Terms) (h : Past) → (u : UidLaws t h) (s : ℕ) (ys : List ActorId) → Each (IsHand t) ys → collect (uids_in s) (collect (log_at h) ys) ≡ collect (λ y. collect (for_session s) (u.passes y)) ys
passes_are t h u s [] g = refl
passes_are t h u s (y ∷ ys) g = ap (λ (zs : List ℕ). zs ++ collect (uids_in s) (collect (log_at h) ys)) (ap (collect (for_session s)) (u.binds_are y g.0)) ∙ ap (λ (zs : List ℕ). collect (for_session s) (u.passes y) ++ zs) (passes_are t h u s ys g.1)

pub uids_right : (t : Terms) (a : Aim) (w : Ending) (h : Past) (r : Record) → Locals t a w h → Joint t h → IsShown t h r → UidLaws t h → UidsRight t r
uids_right t a w h r l j i u =
    record {
      once = λ s. subst (λ (zs : List ℕ). length zs ≤ 1) (sym (all s)) (u.once s);
      over = λ s k e has state mine. elim (i.link s k has) [ inl q ↦ u.over (reactor_of t s) q.0 s k e q.1 has.session state mine ∙ same s | inr c ↦ absurd ((c.lives e state).0 mine) ];
      live = λ s k e has state. elim (i.link s k has) [ inl q ↦ elim (u.live (reactor_of t s) q.0 s k e q.1 has.session state) [ inl z ↦ inl z | inr z ↦ inr (z ∙ same s) ] | inr c ↦ inl (c.unbound e state) ];
      bound = λ k log there. (let o = log_of t h r i k log there in subst (λ (x : Log). Each (λ (p : ℕ × ℕ). p.1 ≡ uid_in r p.0) (collect bound_in (answers_of x))) o.log_is
          (each_more (λ (p : ℕ × ℕ). p.1 ≡ u.uid p.0) (λ (p : ℕ × ℕ). p.1 ≡ uid_in r p.0) (collect bound_in (answers_of (h.log o.who))) (λ p q. q ∙ same p.0) (u.bound o.who o.hand)));
      info = λ k log there. (let o = log_of t h r i k log there in subst (λ (x : Log). Each (λ (p : ℕ × (ℕ × ℕ)). (p.1.0 ≡ p.0 % t.max_conn) × ((p.1.1 ≡ 0) ⊎ (p.1.1 ≡ uid_in r p.0))) (collect info_in (answers_of x))) o.log_is
          (each_more (λ (p : ℕ × (ℕ × ℕ)). (p.1.0 ≡ p.0 % t.max_conn) × ((p.1.1 ≡ 0) ⊎ (p.1.1 ≡ u.uid p.0))) (λ (p : ℕ × (ℕ × ℕ)). (p.1.0 ≡ p.0 % t.max_conn) × ((p.1.1 ≡ 0) ⊎ (p.1.1 ≡ uid_in r p.0))) (collect info_in (answers_of (h.log o.who)))
          (λ p q. (q.0, elim q.1 [ inl z ↦ inl z | inr z ↦ inr (z ∙ same p.0) ])) (u.info o.who o.hand)));
    }
  where
    all : (s : ℕ) → collect (uids_in s) (logs r) ≡ collect (λ y. collect (for_session s) (u.passes y)) (hands t)
    all s = ap (collect (uids_in s)) (shown_logs t h r i) ∙ passes_are t h u s (hands t) (hands_are t)

    same : (s : ℕ) → u.uid s ≡ uid_in r s
    same s = u.gave s ∙ ap the_uid (sym (all s))

-- order, ownership and sessions need these laws alone
abbrev pub orderly : (t : Terms) (a : Aim) (w : Ending) (h : Past) (r : Record) → Locals t a w h → Joint t h → (i : IsShown t h r) → (released : ℕ → List ℕ) → WordLaws t h released → Ordered t r → Orderly t r i.net
orderly t a w h r l j i released words order =
    record {
      ordered = order;
      no_stranger = no_stranger t a w h r l j i;
      own = own t a w h r l j i;
      sessions = sessions_once t a w h r l j i released words;
    }

-- THE JOIN, with what a mode says
abbrev join : (t : Terms) (legal : List Ran → Type 0) (a : Aim) (w : Ending) (h : Past) (r : Record) (out : Outside) → (l : AllLaws t legal a w h r out) → Ordered t r → ToldWhole t r → Right t legal r out l.shown.net
join t legal a w h r out l order told =
    record {
      has_logs = has_logs t h r l.shown;
      dialogues = dialogues t a w h r l.locals l.shown;
      fits = answers_fit t a w h r l.locals l.shown;
      orderly = orderly t a w h r l.locals l.joint l.shown l.released l.words order;
      placed = placed_right t legal h r l.shown l.seat l.table;
      tasks = tasks_right t a w h r l.locals l.joint l.shown l.tasks;
      causes = causes_right t a w h r l.locals l.joint l.shown l.looks l.causes out l.shows;
      counts = counts_right t h r l.shown l.counts;
      uids = uids_right t a w h r l.locals l.joint l.shown l.uids;
      whole = whole t a w h r l.locals l.joint l.shown;
      told_whole = told;
    }

-- modes 2 and 4
pub right_kept : (t : Terms) (legal : List Ran → Type 0) (h : Past) (r : Record) (out : Outside) → keeps t.mode ≡ true → (l : AllLaws t legal (KeptAim t) (KeptEnd t) h r out) → Right t legal r out l.shown.net
right_kept t legal h r out m l = join t legal (KeptAim t) (KeptEnd t) h r out l (Kept m (in_order_kept t (KeptEnd t) h r l.locals l.joint l.shown)) (KeptWhole m (whole_kept t h r l.locals l.joint l.shown))

-- mode 5
pub right_uid : (t : Terms) (legal : List Ran → Type 0) (h : Past) (r : Record) (out : Outside) → t.mode ≡ 5 → (l : AllLaws t legal (UidAim t) (UidEnd t) h r out) → Right t legal r out l.shown.net
right_uid t legal h r out m l = join t legal (UidAim t) (UidEnd t) h r out l (Uid m (in_order_uid t h r l.locals l.joint l.shown)) (UidWhole m (whole_uid t h r l.locals l.joint l.shown))

-- modes 1 and 3
pub right_scattered : (t : Terms) (legal : List Ran → Type 0) (h : Past) (r : Record) (out : Outside) → IsSpread t.mode → (l : AllLaws t legal (ScatterAim t) (ScatterEnd t) h r out) → Right t legal r out l.shown.net
right_scattered t legal h r out m l = join t legal (ScatterAim t) (ScatterEnd t) h r out l (Spread m (scattered t h r l.locals l.joint l.shown)) (SpreadWhole m (whole_scattered t h r l.locals l.joint l.shown))

-- any mode there is
pub keeps_or : (m : ℕ) → 1 ≤ m → m ≤ 5 → keeps m ≡ false → (m == 5) ≡ false → IsSpread m
keeps_or m low high k u =
    let two : ¬ (m ≡ 2) = (λ e. absurd (let q : keeps 2 ≡ false = subst (λ (x : ℕ). keeps x ≡ false) e k in cc)) in
    let four : ¬ (m ≡ 4) = (λ e. absurd (let q : keeps 4 ≡ false = subst (λ (x : ℕ). keeps x ≡ false) e k in cc)) in
    let five : ¬ (m ≡ 5) = (λ e. absurd (let q : (m == 5) ≡ true = eq_same m 5 e in cc)) in
    elim (equal_or_not m 1) [ inl e ↦ inl e | inr one ↦ inr (omega (arith, two, four, five, one)) ]

pub right : (t : Terms) (legal : List Ran → Type 0) (h : Past) (r : Record) (out : Outside) → 1 ≤ t.mode → t.mode ≤ 5 → (l : AllLaws t legal (AimOf t) (EndOf t) h r out) → Right t legal r out l.shown.net
right t legal h r out low high = pick (keeps t.mode) (t.mode == 5) refl refl
  where
    pick : (k u : Bool) → keeps t.mode ≡ k → (t.mode == 5) ≡ u → (l : AllLaws t legal (aim_by k u t) (end_by k u t) h r out) → Right t legal r out l.shown.net
    pick true u p q l = right_kept t legal h r out p l
    pick false true p q l = right_uid t legal h r out (eq_is t.mode 5 q) l
    pick false false p q l = right_scattered t legal h r out (keeps_or t.mode low high p q) l

-- of the fewer laws that stand once memory was wanted
pub orderly_right : (t : Terms) (h : Past) (r : Record) → 1 ≤ t.mode → t.mode ≤ 5 → Locals t (AimOf t) (EndOf t) h → Joint t h → (i : IsShown t h r) → (released : ℕ → List ℕ) → WordLaws t h released → Orderly t r i.net
orderly_right t h r low high = pick (keeps t.mode) (t.mode == 5) refl refl
  where
    pick : (k u : Bool) → keeps t.mode ≡ k → (t.mode == 5) ≡ u → Locals t (aim_by k u t) (end_by k u t) h → Joint t h → (i : IsShown t h r) → (released : ℕ → List ℕ) → WordLaws t h released → Orderly t r i.net
    pick true u p q l j i released words = orderly t (KeptAim t) (KeptEnd t) h r l j i released words (Kept p (in_order_kept t (KeptEnd t) h r l j i))
    pick false true p q l j i released words = orderly t (UidAim t) (UidEnd t) h r l j i released words (Uid (eq_is t.mode 5 q) (in_order_uid t h r l j i))
    pick false false p q l j i released words = orderly t (ScatterAim t) (ScatterEnd t) h r l j i released words (Spread (keeps_or t.mode low high p q) (scattered t h r l j i))
