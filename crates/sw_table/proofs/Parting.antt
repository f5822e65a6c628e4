-- A bucket that was copied is what the calls before its place leave there.
use Rattle.std.proofs.Common.{◌≡◌, ℕ, ◌<◌, List, [], ◌∷◌, ◌++◌, Option, Some, None, Result, refl, ap, sym, ◌∙◌, subst}
use Rattle.std.specs.Prelude.{slice_get, MatchOption, MatchResult}
use Rattle.sw_base.specs.declared.table.Call.TheVariants.{Count}
use Rattle.sw_base.specs.declared.table.Reply.TheVariants as replies
use Rattle.sw_port_shelf.specs.declared.shelf.Placed.{Placed}
use Rattle.sw_table_laws.specs.Table.{State, part}
use Rattle.sw_table_laws.specs.Buckets.{BucketNow, PoolNow}
use Rattle.sw_rowlock.specs.History.{calls, others}
use Rattle.sw_rowlock.specs.Calls.{Done}
use Rattle.sw_rowlock.specs.Told.{RowLeft}
use Rattle.sw_rowlock.specs.declared.locks.DrawFault.{DrawFault}
use Rattle.sw_rowlock.specs.declared.locks.DrawFault.TheVariants as draws
use Rattle.sw_table_join.specs.declared.table_call.TableCall.{TableCall}
use Rattle.sw_table_join.specs.Calls.{Answer, IsFor, call_row, call_asks, call_does}
use Rattle.sw_table_join.specs.Tables.{SharedNow, SeatView, IsShared, IsReady, call_on, rows_after}
use Rattle.sw_table_join.proofs.Answering.{left, answers_follow, buckets_follow, the_history}
use Rattle.sw_tmodel.specs.declared.dump_row.DumpRow.{DumpRow}
use Rattle.sw_tmodel.specs.Dumps.{AreRowsOf}
use Rattle.sw_row.specs.Packed.{Packed}
use Rattle.sw_bucket.specs.Rows.{rows_by, IsBucket}
use Rattle.sw_table.specs.declared.part.PartFault.{PartFault}
use Rattle.sw_table.specs.Holding.{free, bucket_of}
use Rattle.sw_table.specs.Parting.{HoldsPart, Parted, PartRefused, part_fault_of}
use Rattle.sw_table.proofs.Drawing.{Drew, RefusedAt, answered_free, count_done, count_then, drew_of, is_ready, keeps, kept_of, not_placed, freed}

module _ {Q : Type 0} where
  calls_one : (b : List Q) (q : Q) → calls (others b ++ (1, q) ∷ []) ≡ b ++ q ∷ []
  calls_one [] q = refl
  calls_one (x ∷ b) q = ap (λ (z : List Q). x ∷ z) (calls_one b q)

  calls_drawn : (s : List (ℕ × Q)) (b : List Q) (q : Q) → calls (s ++ (others b ++ (1, q) ∷ [])) ≡ (calls s ++ b) ++ q ∷ []
  calls_drawn [] b q = calls_one b q
  calls_drawn (x ∷ s) b q = ap (λ (z : List Q). x.1 ∷ z) (calls_drawn s b q)

same_some : (x y : BucketNow) → Some x ≡ Some y → x ≡ y
same_some x y e = cc

-- the bucket was taken
pub holds_part : (t : SharedNow) (b : ℕ) (rows : List Packed) (x : BucketNow) (old seat : SeatView) → IsShared t → IsReady t old.parts old → b < t.size → RowLeft IsFor call_row call_asks call_does t.locks.start old b x → x ≡ record { columns = x.columns; rows = rows_by rows } → IsBucket x.columns rows
    → seat ≡ record old { row = Some (b, x) } → HoldsPart t b rows seat
holds_part t b rows x old seat is r near left made sound e =
    let columns : x.columns ≡ t.columns = (buckets_follow t old b x is near left).0 in
    let same : x ≡ bucket_of t rows = made ∙ ap (λ cs. record { columns = cs; rows = rows_by rows }) columns in
    record {
      of = (ap (λ (w : SeatView). w.id) e ∙ r.of.0, ap (λ (w : SeatView). w.start) e ∙ r.of.1);
      row = ap (λ (w : SeatView). w.row) e ∙ ap (λ (z : BucketNow). Some (b, z)) same;
      no_pool = ap (λ (w : SeatView). w.pool) e ∙ r.no_pool;
      near = near;
      bucket = subst (λ cs. IsBucket cs rows) columns sound;
    }

-- what was answered, said of the seat and the list that they are
pub part_as : (t : SharedNow) (old old' new : SeatView) (b : ℕ) (rows rows' after : List DumpRow) (result : Result Placed PartFault) → old ≡ old' → rows ≡ rows'
    → MatchResult result (λ placed. Parted t old new b rows after placed) (λ fault. (after ≡ rows) × PartRefused t old new b fault)
    → MatchResult result (λ placed. Parted t old' new b rows' after placed) (λ fault. (after ≡ rows') × PartRefused t old' new b fault)
part_as t old old' new b rows rows' after result e r x =
    subst (λ (xs : List DumpRow). MatchResult result (λ placed. Parted t old' new b xs after placed) (λ fault. (after ≡ xs) × PartRefused t old' new b fault)) r
    (subst (λ (s : SeatView). MatchResult result (λ placed. Parted t s new b rows after placed) (λ fault. (after ≡ rows) × PartRefused t s new b fault)) e x)

module _ (t : SharedNow) (b : ℕ) (rows : List Packed) (held : SeatView) (h : HoldsPart t b rows held) where
  -- the draw of a Count leaves the bucket
  pub part_row : (mid : SeatView) (p n : ℕ) → Drew t Count held mid p n → mid.row ≡ Some (b, bucket_of t rows)
  part_row mid p n d = ap (λ (w : SeatView). w.row) d.now ∙ (count_then t Count held n refl).0 ∙ h.row

  pub part_row_kept : (mid : SeatView) (fault : DrawFault) → RefusedAt t held mid fault → mid.row ≡ Some (b, bucket_of t rows)
  part_row_kept mid fault r = (keeps t held mid fault r).row ∙ h.row

  pub parted : (mid new : SeatView) (p n : ℕ) (old' new' added : List DumpRow) → IsShared t → p < t.last_call → Drew t Count held mid p n → new ≡ record mid { row = None } → AreRowsOf (rows_by rows) added → new' ≡ old' ++ added
      → Parted t (free held) new b old' new' (record { at = p; reply = replies.Count n })
  parted mid new p n old' new' added is lt d e copies behind =
      let before : List TableCall = calls held.seen ++ d.between in
      let seen : new.seen ≡ held.seen ++ (others d.between ++ (1, call_on t Count) ∷ []) = ap (λ (w : SeatView). w.seen) e ∙ ap (λ (w : SeatView). w.seen) d.now in
      let has = (the_history t before is d.allowed).left.buckets b h.near in
      let there = subst (λ (r : Option (ℕ × BucketNow)). MatchOption r (Unit {0}) (λ x. slice_get (left t before).rows x.0 ≡ Some x.1)) h.row d.bucket in
      let state : rows_by rows ≡ part t.size (rows_after t before) b = ap (λ (x : BucketNow). x.rows) (same_some (bucket_of t rows) _ (sym there ∙ has)) in
      record {
        call = answered_free t held new Count [] [] p (replies.Count n)
            (answers_follow t Count held mid new p n [] [] (replies.Count n) [] is refl lt d (ap (λ (w : SeatView). w.seen) e) (ap (λ (x : Done BucketNow PoolNow Answer). x.reply) (count_done t Count held n refl)) refl);
        before = before;
        seen = ap calls seen ∙ calls_drawn held.seen d.between (call_on t Count);
        added = added;
        behind = behind;
        bucket = subst (λ (s : State). AreRowsOf s added) state copies;
      }

  pub parted_ready : (mid new : SeatView) (p n : ℕ) → Drew t Count held mid p n → new ≡ record mid { row = None } → IsReady t held.parts new
  parted_ready mid new p n d e =
      let then = count_then t Count held n refl in
      is_ready t held.parts mid new (drew_of t Count held mid p n d h.of) (ap (λ (w : SeatView). w.parts) d.now) (freed mid new (ap (λ (w : SeatView). w.pool) d.now ∙ then.1 ∙ h.no_pool) e)

  -- given back with no draw
  pub part_back : (new : SeatView) → new ≡ record held { row = None } → (new ≡ free held) × IsReady t held.parts new
  part_back new e = let f : new ≡ free held = freed held new h.no_pool e in (f, is_ready t held.parts held new h.of refl f)

  part_refused : (mid new : SeatView) (fault : DrawFault) → IsShared t → RefusedAt t held mid fault → new ≡ free mid → PartRefused t (free held) new b (part_fault_of fault)
  part_refused mid new (draws.Spent n) is r e = not_placed t Count held mid new (draws.Spent n) is r e
  part_refused mid new (draws.Moved n) is r e = not_placed t Count held mid new (draws.Moved n) is r e

  pub refused_part : (mid new : SeatView) (fault : DrawFault) → IsShared t → RefusedAt t held mid fault → new ≡ record mid { row = None } → PartRefused t (free held) new b (part_fault_of fault) × IsReady t held.parts new
  refused_part mid new fault is r e =
      let k = keeps t held mid fault r in
      let f : new ≡ free mid = freed mid new (k.pool ∙ h.no_pool) e in
      (part_refused mid new fault is r f, is_ready t held.parts mid new (kept_of t held mid k h.of) k.parts f)
