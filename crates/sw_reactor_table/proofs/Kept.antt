-- A quiet connection shows the law of a link, also as it leaves; and a link's law stays as more comes and as events of others are pushed.
use Rattle.std.proofs.Common.{◌≡◌, ℕ, ◌+◌, ◌≤◌, true, false, List, [], ◌∷◌, ◌++◌, length, refl, ap, ◌∙◌, sym, subst, append-nil, append_assoc, arith, Some, inl, inr}
use Rattle.sw_conn.specs.Causes.{hard, is_hard}
use Rattle.sw_lists.specs.Lists.{collect}
use Rattle.sw_lists.proofs.Lists.{length_append}
use Rattle.sw_step.specs.declared.actor.ActorId.{ActorId}
use Rattle.sw_step.specs.declared.actor.ActorId.TheVariants.{Door}
use Rattle.sw_record.specs.Words.{Event, Cause, PeerEnd, ServerClose, ResetCause, ReadFault, WriteFault, TooLong, BadLength, Overflow, Stop, NoSlot, NumbersSpent, NoMemory, Ended}
use Rattle.sw_record.specs.declared.record.LinkState.TheVariants.{Live, Over}
use Rattle.sw_record.specs.declared.record.LinkRecord.{LinkRecord}
use Rattle.sw_record.specs.Terms.{Terms, packets_cut}
use Rattle.sw_record.specs.Whole.{IsAllCut, IsSoft, IsOwnEnd}
use Rattle.sw_past.specs.Messages.{Message, FreshMsg}
use Rattle.sw_past.specs.Past.{Mail, bare}
use Rattle.sw_past.specs.Views.{story_in, byes_in, due_in}
use Rattle.sw_join.specs.Laws.{IsKept, IsEnded, IsTooMuch, LastDue}
use Rattle.sw_reactor_table.specs.Conn.{Conn, account, over_link}
use Rattle.sw_reactor_table.specs.Quiet.{Flows, TooMuch, IsOver, QuietConn, dues}
use Rattle.sw_reactor_table.specs.Modes.{ModeLaws, IsReleased, shown_link, back_link}
use Rattle.sw_reactor_table.proofs.Flow.{more_of}
use Rattle.sw_reactor_table.proofs.Tale.{undue_in}
use Rattle.sw_reactor_table.proofs.Aimed.{last_due, streams_skip}

abbrev Aim : Type 1
Aim = ℕ → LinkRecord → Mail → Type 0

abbrev Ending : Type 1
Ending = ℕ → LinkRecord → Ended → Mail → Type 0

live_not : (d e : Ended) → Live d ≡ Over e → ⊥
live_not d e q = cc

ends_same : (d e : Ended) → Over d ≡ Over e → d ≡ e
ends_same d e q = cc

pub live_kept : (t : Terms) (a : Aim) (w : Ending) → ModeLaws t a w → (n : ℕ) (took pushed : Mail) (c : Conn) → QuietConn t n took pushed c → (d : ℕ) → IsKept t a w c.session (shown_link t c.ip c.session c.uid c.split c.pieces c.written d) took pushed
live_kept t a w m n took pushed c q d =
    record {
      early = q.flows.early;
      mid = q.flows.mid;
      later = q.flows.later;
      split = q.flows.split;
      written = q.flows.written_is;
      aims = m.live c.ip c.session c.uid c.split c.pieces c.taken c.dispatched c.cause c.phase pushed q.tale c.written d;
      few = λ e r. absurd (live_not _ e r);
      all = λ e r. absurd (live_not _ e r);
      ended = λ e r. absurd (live_not _ e r);
      overflow = λ e k r. absurd (live_not _ e r);
      whole_then = λ e r. absurd (live_not _ e r);
    }

soft_not : (e : Cause) → IsSoft e → hard e ≡ false
soft_not PeerEnd s = refl
soft_not ServerClose s = refl
soft_not ResetCause s = absurd s
soft_not ReadFault s = refl
soft_not WriteFault s = absurd s
soft_not (TooLong n) s = refl
soft_not (BadLength n) s = refl
soft_not (Overflow n) s = absurd s
soft_not Stop s = absurd s
soft_not NoSlot s = absurd s
soft_not NumbersSpent s = absurd s
soft_not NoMemory s = absurd s

all_byes : (s : ℕ) (took early mid later : Mail) (x : ActorId × Message) → took ≡ early ++ x ∷ (mid ++ later) → length (collect (byes_in s) (bare (mid ++ later))) ≤ length (collect (byes_in s) (bare took))
all_byes s took early mid later x e =
    let f : Mail → List ℕ = λ ms. collect (byes_in s) (bare ms) in
    let joined : f took ≡ f early ++ (byes_in s x.1 ++ f (mid ++ later)) = ap f e ∙ both early in
    let a : length (f took) ≡ length (f early) + length (byes_in s x.1 ++ f (mid ++ later)) = ap length joined ∙ length_append (f early) (byes_in s x.1 ++ f (mid ++ later)) in
    let b : length (byes_in s x.1 ++ f (mid ++ later)) ≡ length (byes_in s x.1) + length (f (mid ++ later)) = length_append (byes_in s x.1) (f (mid ++ later)) in
    omega arith
  where
    both : (ms : Mail) → collect (byes_in s) (bare (ms ++ x ∷ (mid ++ later))) ≡ collect (byes_in s) (bare ms) ++ (byes_in s x.1 ++ collect (byes_in s) (bare (mid ++ later)))
    both [] = refl
    both (y ∷ ms) = ap (λ zs. byes_in s y.1 ++ zs) (both ms) ∙ sym (append_assoc (byes_in s y.1) (collect (byes_in s) (bare ms)) _)

pub over_kept : (t : Terms) (a : Aim) (w : Ending) → ModeLaws t a w → (n : ℕ) (took pushed : Mail) (c : Conn) → QuietConn t n took pushed c → (e : Cause) → IsOver t c e → (u : ℕ) → IsReleased t c u → IsKept t a w c.session (over_link t c u e) took pushed
over_kept t a w m n took pushed c q e o u r =
    record {
      early = f.early;
      mid = f.mid;
      later = f.later;
      split = f.split;
      written = f.written_is;
      aims = mode.0;
      few = λ d g. subst (λ (x : Ended). x.dispatched ≤ length (packets_cut t c.pieces)) (ends_same own d g) (let h : c.dispatched ≤ c.taken = q.tale.least in let k : c.taken ≤ length (packets_cut t c.pieces) = q.tale.few in omega arith);
      all = λ d g. subst (λ (x : Ended). IsAllCut x.cause → x.dispatched ≡ length (packets_cut t c.pieces)) (ends_same own d g) (q.tale.whole e o.cause);
      ended = λ d g mine. subst (λ (x : Ended). IsEnded t s (over_link t c u e) x took f.mid pushed) (ends_same own d g) ended;
      overflow = λ d k g. subst (λ (x : Ended). x.cause ≡ Overflow k → IsTooMuch t s (over_link t c u e) f.mid f.later k) (ends_same own d g) (λ z. much k (f.overflow k (o.cause ∙ ap Some z)));
      whole_then = λ d g mine. subst (λ (x : Ended). w s (over_link t c u e) x pushed) (ends_same own d g) mode.1;
    }
  where
    s : ℕ
    s = c.session

    f : Flows t c.ip c.session c.cause c.written c.unsent c.awaited took (dues t c.session pushed)
    f = q.flows

    own : Ended
    own = account t c u e

    mode : a c.session (over_link t c u e) pushed × w c.session (over_link t c u e) (account t c u e) pushed
    mode = m.over c pushed q.tale e o u r

    much : (k : ℕ) → TooMuch t c.session c.written q.flows.mid q.flows.later k → IsTooMuch t c.session (over_link t c u e) q.flows.mid q.flows.later k
    much k x = record { above = x.above; who = x.who; bytes = x.bytes; rest = x.rest; next = x.next; sum = x.sum }

    all_due : dues t c.session pushed ≤ length (collect (byes_in c.session) (bare (q.flows.mid ++ q.flows.later)))
    all_due = (let h : dues t c.session pushed ≤ c.awaited + length (collect (byes_in c.session) (bare (q.flows.mid ++ q.flows.later))) = q.flows.few in let z : c.awaited ≡ 0 = o.awaited in omega arith)

    gentle : IsSoft e → is_hard c.cause ≡ false
    gentle g = ap is_hard o.cause ∙ soft_not e g

    no_unsent : IsSoft e → c.unsent ≡ []
    no_unsent g = elim o.flushed [ inl h ↦ absurd (let k : true ≡ false = sym h ∙ gentle g in cc) | inr h ↦ h ]

    ended : IsEnded t c.session (over_link t c u e) (account t c u e) took q.flows.mid pushed
    ended =
        record {
          byes = (let h : dues t c.session pushed ≤ length (collect (byes_in c.session) (bare (q.flows.mid ++ q.flows.later))) = all_due in let k : length (collect (byes_in c.session) (bare (q.flows.mid ++ q.flows.later))) ≤ length (collect (byes_in c.session) (bare took)) = all_byes c.session took q.flows.early q.flows.mid q.flows.later (Door, FreshMsg c.ip c.session) q.flows.split in omega arith);
          last = last_due t c pushed e q.tale o;
          soft = λ g. (
            subst (λ (ms : Mail). dues t c.session pushed ≤ length (collect (byes_in c.session) (bare ms))) (ap (λ (ms : Mail). q.flows.mid ++ ms) (q.flows.soft (gentle g)) ∙ append-nil q.flows.mid) all_due,
            sym (append-nil c.written) ∙ ap (λ (bs : List ℕ). c.written ++ bs) (sym (no_unsent g)) ∙ q.flows.bytes (gentle g),
          );
        }

-- one more message came
much_more : (t : Terms) (s : ℕ) (l : LinkRecord) (mid later : Mail) (k : ℕ) (x : ActorId × Message) → IsTooMuch t s l mid later k → IsTooMuch t s l mid (later ++ x ∷ []) k
much_more t s l mid later k x o = record { above = o.above; who = o.who; bytes = o.bytes; rest = o.rest ++ x ∷ []; next = ap (λ (ms : Mail). ms ++ x ∷ []) o.next; sum = o.sum }

pub kept_took : (t : Terms) (a : Aim) (w : Ending) (s : ℕ) (l : LinkRecord) (took pushed : Mail) (x : ActorId × Message) → IsKept t a w s l took pushed → IsKept t a w s l (took ++ x ∷ []) pushed
kept_took t a w s l took pushed x k =
    record {
      early = k.early;
      mid = k.mid;
      later = k.later ++ x ∷ [];
      split = ap (λ (ms : Mail). ms ++ x ∷ []) k.split ∙ append_assoc k.early ((Door, FreshMsg l.ip s) ∷ (k.mid ++ k.later)) (x ∷ []) ∙ ap (λ (ms : Mail). k.early ++ (Door, FreshMsg l.ip s) ∷ ms) (append_assoc k.mid k.later (x ∷ []));
      written = k.written;
      aims = k.aims;
      few = k.few;
      all = k.all;
      ended = λ e g mine. ended_took e (k.ended e g mine);
      overflow = λ e n g z. much_more t s l k.mid k.later n x (k.overflow e n g z);
      whole_then = k.whole_then;
    }
  where
    ended_took : (e : Ended) → IsEnded t s l e took k.mid pushed → IsEnded t s l e (took ++ x ∷ []) k.mid pushed
    ended_took e d =
        record {
          byes = (let g : length (collect (byes_in s) (bare (took ++ x ∷ []))) ≡ length (collect (byes_in s) (bare took)) + length (byes_in s x.1) = ap length (more_of (byes_in s) took x) ∙ length_append (collect (byes_in s) (bare took)) (byes_in s x.1) in let h : length (collect (due_in t s) (bare pushed)) ≤ length (collect (byes_in s) (bare took)) = d.byes in omega arith);
          last = d.last;
          soft = d.soft;
        }

-- one more message was pushed, without an event of it
pub dues_skip : (t : Terms) (s : ℕ) (pushed : Mail) (x : ActorId × Message) → story_in s x.1 ≡ [] → collect (due_in t s) (bare (pushed ++ x ∷ [])) ≡ collect (due_in t s) (bare pushed)
dues_skip t s pushed x none = more_of (due_in t s) pushed x ∙ ap (λ es. collect (due_in t s) (bare pushed) ++ es) (undue_in t s x.1 none) ∙ append-nil (collect (due_in t s) (bare pushed))

pub kept_pushed : (t : Terms) (a : Aim) (w : Ending) → ModeLaws t a w → (s : ℕ) (l : LinkRecord) (took pushed : Mail) (x : ActorId × Message) → story_in s x.1 ≡ [] → IsKept t a w s l took pushed → IsKept t a w s l took (pushed ++ x ∷ [])
kept_pushed t a w m s l took pushed x none k =
    record {
      early = k.early;
      mid = k.mid;
      later = k.later;
      split = k.split;
      written = k.written;
      aims = m.skip_aim s l pushed x none k.aims;
      few = k.few;
      all = k.all;
      ended = λ e g mine. ended_pushed e (k.ended e g mine);
      overflow = k.overflow;
      whole_then = λ e g mine. m.skip_whole s l e pushed x none (k.whole_then e g mine);
    }
  where
    ended_pushed : (e : Ended) → IsEnded t s l e took k.mid pushed → IsEnded t s l e took k.mid (pushed ++ x ∷ [])
    ended_pushed e d =
        record {
          byes = subst (λ (es : List Event). length es ≤ length (collect (byes_in s) (bare took))) (sym (dues_skip t s pushed x none)) d.byes;
          last = λ v. subst (LastDue t s) (sym (streams_skip s pushed x v none)) (d.last v);
          soft = λ g. (subst (λ (es : List Event). length es ≤ length (collect (byes_in s) (bare k.mid))) (sym (dues_skip t s pushed x none)) (d.soft g).0, (d.soft g).1);
        }

-- a link that comes back from a run that could not start
pub back_kept : (t : Terms) (a : Aim) (w : Ending) → ModeLaws t a w → t.start_fault ≡ true → (n : ℕ) (took pushed : Mail) (c : Conn) → QuietConn t n took pushed c → IsKept t a w c.session (back_link t c.ip c.session c.uid c.split c.pieces c.written c.dispatched) took pushed
back_kept t a w m start n took pushed c q =
    record {
      early = q.flows.early;
      mid = q.flows.mid;
      later = q.flows.later;
      split = q.flows.split;
      written = q.flows.written_is;
      aims = m.back c.ip c.session c.uid c.split c.pieces c.taken c.dispatched c.cause c.phase pushed q.tale c.written c.dispatched;
      few = λ d g. subst (λ (x : Ended). x.dispatched ≤ length (packets_cut t c.pieces)) (ends_same _ d g) (let h : c.dispatched ≤ c.taken = q.tale.least in let k : c.taken ≤ length (packets_cut t c.pieces) = q.tale.few in omega arith);
      all = λ d g. subst (λ (x : Ended). IsAllCut x.cause → x.dispatched ≡ length (packets_cut t c.pieces)) (ends_same _ d g) (λ z. absurd z);
      ended = λ d g. subst (λ (x : Ended). IsOwnEnd t x → IsEnded t c.session (back_link t c.ip c.session c.uid c.split c.pieces c.written c.dispatched) x took q.flows.mid pushed) (ends_same _ d g) (λ mine. absurd (mine (start, refl)));
      overflow = λ d k g. subst (λ (x : Ended). x.cause ≡ Overflow k → IsTooMuch t c.session (back_link t c.ip c.session c.uid c.split c.pieces c.written c.dispatched) q.flows.mid q.flows.later k) (ends_same _ d g) (λ z. absurd (stop_not k z));
      whole_then = λ d g. subst (λ (x : Ended). IsOwnEnd t x → w c.session (back_link t c.ip c.session c.uid c.split c.pieces c.written c.dispatched) x pushed) (ends_same _ d g) (λ mine. absurd (mine (start, refl)));
    }
  where
    stop_not : (k : ℕ) → Stop ≡ Overflow k → ⊥
    stop_not k z = cc
