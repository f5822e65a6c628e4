-- What comes for a connection, and what is written, keep its flows.
use Rattle.std.proofs.Common.{◌≡◌, ℕ, ◌+◌, ◌<◌, ◌≤◌, Bool, true, false, List, [], ◌∷◌, ◌++◌, length, take, drop, refl, ap, ◌∙◌, sym, subst, append-nil, append_assoc, arith, Option, Some}
use Rattle.std.specs.List.{concat}
use Rattle.std.proofs.lemmas.List.Folds.{concat-append}
use Rattle.std.proofs.lemmas.List.{take-append-drop}
use Rattle.sw_conn.specs.Causes.{is_hard}
use Rattle.sw_lists.specs.Lists.{collect}
use Rattle.sw_lists.proofs.Lists.{length_append, append_none}
use Rattle.sw_step.specs.declared.actor.ActorId.{ActorId}
use Rattle.sw_step.specs.declared.actor.ActorId.TheVariants.{Door}
use Rattle.sw_record.specs.Words.{Cause, Overflow}
use Rattle.sw_record.specs.Terms.{Terms}
use Rattle.sw_past.specs.Messages.{Message, FreshMsg, SendMsg}
use Rattle.sw_past.specs.Past.{Mail, bare}
use Rattle.sw_past.specs.Views.{sends_in, byes_in, close_of, reset_of}
use Rattle.sw_reactor_table.specs.Quiet.{Flows, TooMuch, IsCaused}

-- of one more message
pub more_of : {B : Type 0} (f : Message → List B) (ms : Mail) (x : ActorId × Message) → collect f (bare (ms ++ x ∷ [])) ≡ collect f (bare ms) ++ f x.1
more_of f [] x = append-nil (f x.1)
more_of f (y ∷ ms) x = ap (λ zs. f y.1 ++ zs) (more_of f ms x) ∙ sym (append_assoc (f y.1) (collect f (bare ms)) (f x.1))

-- what was asked for stays so
pub why_more : (s : ℕ) (cause : Option Cause) (took : Mail) (x : ActorId × Message) → IsCaused s cause took → IsCaused s cause (took ++ x ∷ [])
why_more s cause took x w = ((λ e z. w.0 e (append_none (collect (close_of s) (bare took)) (close_of s x.1) (sym (more_of (close_of s) took x) ∙ z)).0), (λ e z. w.1 e (append_none (collect (reset_of s) (bare took)) (reset_of s x.1) (sym (more_of (reset_of s) took x) ∙ z)).0))

pub not_hard : (cause : Option Cause) (n : ℕ) → is_hard cause ≡ false → cause ≡ Some (Overflow n) → ⊥
not_hard cause n e q = let r : true ≡ false = ap is_hard (sym q) ∙ e in cc

longer : (byes : Message → List ℕ) (mid later : Mail) (x : ActorId × Message) (n a b : ℕ) → n ≤ a + length (collect byes (bare (mid ++ later))) → a ≤ b + length (byes x.1) → n ≤ b + length (collect byes (bare (mid ++ (later ++ x ∷ []))))
longer byes mid later x n a b h k =
    let e : length (collect byes (bare (mid ++ (later ++ x ∷ [])))) ≡ length (collect byes (bare (mid ++ later))) + length (byes x.1) =
    ap (λ (ms : Mail). length (collect byes (bare ms))) (sym (append_assoc mid later (x ∷ []))) ∙ ap length (more_of byes (mid ++ later) x) ∙ length_append (collect byes (bare (mid ++ later))) (byes x.1) in
    omega arith

further : (early mid later : Mail) (f x : ActorId × Message) (took : Mail) → took ≡ early ++ f ∷ (mid ++ later) → took ++ x ∷ [] ≡ early ++ f ∷ (mid ++ (later ++ x ∷ []))
further early mid later f x took e =
    ap (λ (ms : Mail). ms ++ x ∷ []) e ∙ append_assoc early (f ∷ (mid ++ later)) (x ∷ []) ∙ ap (λ (ms : Mail). early ++ f ∷ ms) (append_assoc mid later (x ∷ []))

-- behind a hard cause nothing more is appended
pub flow_late : (t : Terms) (ip s : ℕ) (cause : Option Cause) (w u : List ℕ) (a n : ℕ) (took : Mail) → Flows t ip s cause w u a took n → is_hard cause ≡ true → (x : ActorId × Message) (b : ℕ) → a ≤ b + length (byes_in s x.1) → Flows t ip s cause w u b (took ++ x ∷ []) n
flow_late t ip s cause w u a n took f h x b k =
    record {
      early = f.early;
      mid = f.mid;
      later = f.later ++ x ∷ [];
      split = further f.early f.mid f.later (Door, FreshMsg ip s) x took f.split;
      soft = λ e. absurd (no e);
      bytes = λ e. absurd (no e);
      written_is = f.written_is;
      overflow = λ m e. late m (f.overflow m e);
      few = longer (byes_in s) f.mid f.later x n a b f.few k;
      why = why_more s cause took x f.why;
    }
  where
    no : is_hard cause ≡ false → ⊥
    no e = let r : true ≡ false = sym h ∙ e in cc

    late : (m : ℕ) → TooMuch t s w f.mid f.later m → TooMuch t s w f.mid (f.later ++ x ∷ []) m
    late m o = record { above = o.above; who = o.who; bytes = o.bytes; rest = o.rest ++ x ∷ []; next = ap (λ (ms : Mail). ms ++ x ∷ []) o.next; sum = o.sum }

-- without one what is sent is appended
pub flow_mid : (t : Terms) (ip s : ℕ) (cause : Option Cause) (w u : List ℕ) (a n : ℕ) (took : Mail) → Flows t ip s cause w u a took n → is_hard cause ≡ false → (x : ActorId × Message) (b : ℕ) → a ≤ b + length (byes_in s x.1) → Flows t ip s cause w (u ++ concat (sends_in s x.1)) b (took ++ x ∷ []) n
flow_mid t ip s cause w u a n took f h x b k =
    let sends : concat (collect (sends_in s) (bare (f.mid ++ x ∷ []))) ≡ concat (collect (sends_in s) (bare f.mid)) ++ concat (sends_in s x.1) = ap concat (more_of (sends_in s) f.mid x) ∙ concat-append (collect (sends_in s) (bare f.mid)) (sends_in s x.1) in
    record {
      early = f.early;
      mid = f.mid ++ x ∷ [];
      later = [];
      split = further f.early f.mid [] (Door, FreshMsg ip s) x took (f.split ∙ ap (λ (ms : Mail). f.early ++ (Door, FreshMsg ip s) ∷ (f.mid ++ ms)) (f.soft h)) ∙ ap (λ (ms : Mail). f.early ++ (Door, FreshMsg ip s) ∷ ms) (sym (append-nil (f.mid ++ x ∷ [])));
      soft = λ e. refl;
      bytes = λ e. sym (append_assoc w u (concat (sends_in s x.1))) ∙ ap (λ (bs : List ℕ). bs ++ concat (sends_in s x.1)) (f.bytes h) ∙ sym sends;
      written_is = (f.written_is.0 ++ concat (sends_in s x.1), sym (append_assoc w f.written_is.0 (concat (sends_in s x.1))) ∙ ap (λ (bs : List ℕ). bs ++ concat (sends_in s x.1)) f.written_is.1 ∙ sym sends);
      overflow = λ m e. absurd (not_hard cause m h e);
      few =
          subst (λ (ms : Mail). n ≤ b + length (collect (byes_in s) (bare ms))) (sym (append-nil (f.mid ++ x ∷ [])))
          (longer (byes_in s) f.mid [] x n a b (subst (λ (ms : Mail). n ≤ a + length (collect (byes_in s) (bare (f.mid ++ ms)))) (f.soft h) f.few) k);
      why = why_more s cause took x f.why;
    }

-- a message without bytes for it
pub flow_plain : (t : Terms) (ip s : ℕ) (cause : Option Cause) (w u : List ℕ) (a n : ℕ) (took : Mail) → Flows t ip s cause w u a took n → (x : ActorId × Message) (b : ℕ) → sends_in s x.1 ≡ [] → a ≤ b + length (byes_in s x.1) → Flows t ip s cause w u b (took ++ x ∷ []) n
flow_plain t ip s cause w u a n took f x b none k = pick (is_hard cause) refl
  where
    pick : (c : Bool) → is_hard cause ≡ c → Flows t ip s cause w u b (took ++ x ∷ []) n
    pick true h = flow_late t ip s cause w u a n took f h x b k
    pick false h = subst (λ (bs : List ℕ). Flows t ip s cause w bs b (took ++ x ∷ []) n) (ap (λ (bs : List (List ℕ)). u ++ concat bs) none ∙ append-nil u) (flow_mid t ip s cause w u a n took f h x b k)

-- a send that is too much
pub flow_much : (t : Terms) (ip s : ℕ) (cause : Option Cause) (w u : List ℕ) (a n : ℕ) (took : Mail) → Flows t ip s cause w u a took n → is_hard cause ≡ false → (from : ActorId) (b : List ℕ) → t.buffer_size < length u + length b → Flows t ip s (Some (Overflow (length u + length b))) w u a (took ++ (from, SendMsg s b) ∷ []) n
flow_much t ip s cause w u a n took f h from b above =
    let x : ActorId × Message = (from, SendMsg s b) in
    let split : took ≡ f.early ++ (Door, FreshMsg ip s) ∷ (f.mid ++ []) = f.split ∙ ap (λ (ms : Mail). f.early ++ (Door, FreshMsg ip s) ∷ (f.mid ++ ms)) (f.soft h) in
    record {
      early = f.early;
      mid = f.mid;
      later = x ∷ [];
      split = further f.early f.mid [] (Door, FreshMsg ip s) x took split;
      soft = λ e. absurd (cc);
      bytes = λ e. absurd (cc);
      written_is = f.written_is;
      overflow = λ m e. subst (TooMuch t s w f.mid (x ∷ [])) (much m e) own;
      few = longer (byes_in s) f.mid [] x n a a (subst (λ (ms : Mail). n ≤ a + length (collect (byes_in s) (bare (f.mid ++ ms)))) (f.soft h) f.few) (omega arith);
      why = ((λ e. absurd (cc)), (λ e. absurd (cc)));
    }
  where
    much : (m : ℕ) → Some (Overflow (length u + length b)) ≡ Some (Overflow m) → length u + length b ≡ m
    much m e = cc

    own : TooMuch t s w f.mid ((from, SendMsg s b) ∷ []) (length u + length b)
    own =
        record {
          above = above;
          who = from;
          bytes = b;
          rest = [];
          next = refl;
          sum = (let e : length (concat (collect (sends_in s) (bare f.mid))) ≡ length w + length u = ap length (sym (f.bytes h)) ∙ length_append w u in omega arith);
        }

-- causes
pub flow_soft : (t : Terms) (ip s : ℕ) (cause other : Option Cause) (w u : List ℕ) (a n : ℕ) (took : Mail) → Flows t ip s cause w u a took n → is_hard cause ≡ false → is_hard other ≡ false → IsCaused s other took → Flows t ip s other w u a took n
flow_soft t ip s cause other w u a n took f h k y =
    record { early = f.early; mid = f.mid; later = f.later; split = f.split; soft = λ e. f.soft h; bytes = λ e. f.bytes h; written_is = f.written_is; overflow = λ m e. absurd (not_hard other m k e); few = f.few; why = y }

pub flow_hard : (t : Terms) (ip s : ℕ) (cause other : Option Cause) (w u v : List ℕ) (a n : ℕ) (took : Mail) → Flows t ip s cause w u a took n → is_hard other ≡ true → ((m : ℕ) → other ≡ Some (Overflow m) → cause ≡ Some (Overflow m)) → IsCaused s other took → Flows t ip s other w v a took n
flow_hard t ip s cause other w u v a n took f h k y =
    record { early = f.early; mid = f.mid; later = f.later; split = f.split; soft = λ e. absurd (no e); bytes = λ e. absurd (no e); written_is = f.written_is; overflow = λ m e. f.overflow m (k m e); few = f.few; why = y }
  where
    no : is_hard other ≡ false → ⊥
    no e = let r : true ≡ false = sym h ∙ e in cc

-- events that await their Byes
pub flow_dues : (t : Terms) (ip s : ℕ) (cause : Option Cause) (w u : List ℕ) (a n b m : ℕ) (took : Mail) → Flows t ip s cause w u a took n → m + a ≤ b + n → Flows t ip s cause w u b took m
flow_dues t ip s cause w u a n b m took f k =
    record { early = f.early; mid = f.mid; later = f.later; split = f.split; soft = f.soft; bytes = f.bytes; written_is = f.written_is; overflow = f.overflow; few = (let g : n ≤ a + length (collect (byes_in s) (bare (f.mid ++ f.later))) = f.few in omega arith); why = f.why }

-- a write
pub flow_wrote : (t : Terms) (ip s : ℕ) (cause : Option Cause) (w u : List ℕ) (a n : ℕ) (took : Mail) → Flows t ip s cause w u a took n → is_hard cause ≡ false → (k : ℕ) → Flows t ip s cause (w ++ take k u) (drop k u) a took n
flow_wrote t ip s cause w u a n took f h k =
    let joined : (w ++ take k u) ++ drop k u ≡ concat (collect (sends_in s) (bare f.mid)) = append_assoc w (take k u) (drop k u) ∙ ap (λ (bs : List ℕ). w ++ bs) (take-append-drop k u) ∙ f.bytes h in
    record {
      early = f.early;
      mid = f.mid;
      later = f.later;
      split = f.split;
      soft = f.soft;
      bytes = λ e. joined;
      written_is = (drop k u, joined);
      overflow = λ m e. absurd (not_hard cause m h e);
      few = f.few;
      why = f.why;
    }
