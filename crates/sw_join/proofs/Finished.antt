-- Once all actors are finished the record is drained, in every mode.
use Rattle.std.proofs.Common.{◌≡◌, ℕ, ◌≤◌, ◌==◌, Bool, true, false, List, refl, Some, slice_get}
use Rattle.sw_step.specs.declared.actor.ActorId.TheVariants.{Worker}
use Rattle.sw_record.specs.declared.record.LinkRecord.{LinkRecord}
use Rattle.sw_record.specs.declared.record.Record.{Record}
use Rattle.sw_record.specs.Terms.{Terms, Outside, IsSpread, keeps}
use Rattle.sw_record.specs.Order.{target}
use Rattle.sw_record.specs.Drained.{AllSettled, Drained}
use Rattle.sw_record.specs.Places.{Ran}
use Rattle.sw_record.specs.Rounds.{RoundRight}
use Rattle.sw_past.specs.Past.{Past}
use Rattle.sw_join.specs.Laws.{Aim, Ending}
use Rattle.sw_join.specs.Aims.{KeptAim, KeptEnd, UidAim, UidEnd, ScatterAim, ScatterEnd}
use Rattle.sw_join.specs.Modes.{aim_by, end_by, AimOf, EndOf}
use Rattle.sw_join.specs.All.{AllLaws, EndLaws}
use Rattle.sw_join.proofs.Own.{own}
use Rattle.sw_join.proofs.Order.{in_order_kept}
use Rattle.sw_join.proofs.Whole.{whole, whole_kept}
use Rattle.sw_join.proofs.Uid.{whole_uid}
use Rattle.sw_join.proofs.Scatter.{whole_scattered}
use Rattle.sw_join.proofs.Drained.{drained}
use Rattle.sw_join.proofs.DrainedModes.{worker_log, target_less, handled_kept, handled_uid, handled_scattered}
use Rattle.sw_join.proofs.Rounds.{round_right}
use Rattle.sw_join.proofs.OnceTold.{connects_kept, closeds_kept}
use Rattle.sw_join.proofs.Right.{keeps_or}

settled : (t : Terms) (legal : List Ran → Type 0) (a : Aim) (w : Ending) (h : Past) (r : Record) (out : Outside) → AllLaws t legal a w h r out → EndLaws t h r → AllSettled t r
settled t legal a w h r out l f = drained t a w h r f.some_reactor l.locals l.joint l.shown l.tasks f.finished

round : (t : Terms) (legal : List Ran → Type 0) (a : Aim) (w : Ending) (h : Past) (r : Record) (out : Outside) → AllLaws t legal a w h r out → EndLaws t h r → t.mode ≡ 1 → RoundRight t r
round t legal a w h r out l f m = round_right t a w h r l.locals l.joint l.shown f.finished (f.rounds m)

-- modes 2 and 4
pub drained_kept : (t : Terms) (legal : List Ran → Type 0) (h : Past) (r : Record) (out : Outside) → AllLaws t legal (KeptAim t) (KeptEnd t) h r out → EndLaws t h r → Drained t r
drained_kept t legal h r out l f =
    let s : AllSettled t r = settled t legal (KeptAim t) (KeptEnd t) h r out l f in
    let o = in_order_kept t (KeptEnd t) h r l.locals l.joint l.shown in
    let w = whole_kept t h r l.locals l.joint l.shown in
    let there : (u : ℕ) (k : LinkRecord) → slice_get r.workers (target t u k.ip) ≡ Some (h.log (Worker (target t u k.ip))) = (λ u k. worker_log t h r l.shown (target t u k.ip) (target_less t u k.ip f.some_worker)) in
    record {
      settled = s;
      handled = handled_kept t h r (own t (KeptAim t) (KeptEnd t) h r l.locals l.joint l.shown) f.some_worker l.shown (whole t (KeptAim t) (KeptEnd t) h r l.locals l.joint l.shown) w s;
      connects = λ n u k has. (let e = s.over u k has in connects_kept t r o w u k e.0 has e.1.0 e.1.1 (h.log (Worker (target t u k.ip))) (there u k));
      closeds = λ n u k has. (let e = s.over u k has in closeds_kept t r o w u k e.0 has e.1.0 e.1.1 (h.log (Worker (target t u k.ip))) (there u k));
      round = round t legal (KeptAim t) (KeptEnd t) h r out l f;
    }

-- mode 5
pub drained_uid : (t : Terms) (legal : List Ran → Type 0) (h : Past) (r : Record) (out : Outside) → AllLaws t legal (UidAim t) (UidEnd t) h r out → EndLaws t h r → Drained t r
drained_uid t legal h r out l f =
    let s : AllSettled t r = settled t legal (UidAim t) (UidEnd t) h r out l f in
    let w = whole_uid t h r l.locals l.joint l.shown in
    record {
      settled = s;
      handled = handled_uid t h r (own t (UidAim t) (UidEnd t) h r l.locals l.joint l.shown) f.some_worker l.shown (whole t (UidAim t) (UidEnd t) h r l.locals l.joint l.shown) w s;
      connects = λ n u k has. (let e = s.over u k has in w.connect u k e.0 has e.1.0 e.1.1);
      closeds = λ n u k has. (let e = s.over u k has in w.closed u k e.0 has e.1.0 e.1.1);
      round = round t legal (UidAim t) (UidEnd t) h r out l f;
    }

-- modes 1 and 3
pub drained_scattered : (t : Terms) (legal : List Ran → Type 0) (h : Past) (r : Record) (out : Outside) → IsSpread t.mode → AllLaws t legal (ScatterAim t) (ScatterEnd t) h r out → EndLaws t h r → Drained t r
drained_scattered t legal h r out m l f =
    let s : AllSettled t r = settled t legal (ScatterAim t) (ScatterEnd t) h r out l f in
    record {
      settled = s;
      handled = handled_scattered t r (whole_scattered t h r l.locals l.joint l.shown) s;
      connects = λ n u k has. absurd (n m);
      closeds = λ n u k has. absurd (n m);
      round = round t legal (ScatterAim t) (ScatterEnd t) h r out l f;
    }

pub drained_right : (t : Terms) (legal : List Ran → Type 0) (h : Past) (r : Record) (out : Outside) → 1 ≤ t.mode → t.mode ≤ 5 → AllLaws t legal (AimOf t) (EndOf t) h r out → EndLaws t h r → Drained t r
drained_right t legal h r out low high = pick (keeps t.mode) (t.mode == 5) refl refl
  where
    pick : (k u : Bool) → keeps t.mode ≡ k → (t.mode == 5) ≡ u → AllLaws t legal (aim_by k u t) (end_by k u t) h r out → EndLaws t h r → Drained t r
    pick true u p q l f = drained_kept t legal h r out l f
    pick false true p q l f = drained_uid t legal h r out l f
    pick false false p q l f = drained_scattered t legal h r out (keeps_or t.mode low high p q) l f
