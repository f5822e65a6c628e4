-- One worker more, and one task worker more.
use Rattle.std.proofs.Common.{◌≡◌, ℕ, zero, suc, ◌+◌, ◌-◌, ◌<◌, List, [], ◌∷◌, ◌++◌, length, map, replicate, refl, ap, ◌∙◌, sym, subst, arith}
use Rattle.std.proofs.lemmas.List.{map-append, length-map}
use Rattle.sw_lists.proofs.Lists.{length_append}
use Rattle.sw_base.specs.declared.table.Value.{Value}
use Rattle.sw_column.specs.declared.column.Column.{Column}
use Rattle.sw_column.specs.Values.{HasKinds, blank}
use Rattle.sw_settings.specs.declared.values.Values.{Values}
use Rattle.sw_settings.specs.Columns.{columns_named}
use Rattle.sw_record.specs.Words.{Log}
use Rattle.sw_record.specs.Terms.{Terms}
use Rattle.sw_world_crew.specs.declared.recorded.Recorded.{Recorded}
use Rattle.sw_world_crew.specs.Recorded.{inner_of, log_of}
use Rattle.sw_hand.specs.House.{IsHouse}
use Rattle.sw_hand.specs.declared.hand.Hand.{Hand as CodeHand}
use Rattle.sw_hand.specs.declared.house.House.{House}
use Rattle.sw_hand_fits.specs.Matches.{HouseFits}
use Rattle.sw_worker.specs.Generations.{Line}
use Rattle.sw_worker.specs.Worker.{started as worker_started}
use Rattle.sw_tasker.specs.Tasker.{started as tasker_started}
use Rattle.sw_world_hands.specs.Hands.{HandState, new_hand}
use Rattle.sw_world_crew_fits.specs.Stand.{WorkerStands, WorkersStand, TaskersStand}
use Rattle.sw_world_crew_fits.proofs.Workers.{no_workers, add_worker}
use Rattle.sw_world_crew_fits.proofs.Taskers.{no_taskers, add_tasker}
use Rattle.sw_world_make.specs.Terms.{terms_of}
use Rattle.sw_world_make.specs.Handlers.{left_of, crews_by, AreRecorded, WorkersNew, handlers_of, AreWorkers, AddsWorker, handler_of, AreTaskers}

-- where one worker more is given, the others have what they had
left_before : (ks : List ℕ) (k n : ℕ) → n < length ks → left_of (ks ++ k ∷ []) n ≡ left_of ks n
left_before [] k n lt = absurd (omega (arith, lt))
left_before (j ∷ ks) k zero lt = refl
left_before (j ∷ ks) k (suc n) lt = left_before ks k n (omega (arith, lt))

left_last : (ks : List ℕ) (k : ℕ) → left_of (ks ++ k ∷ []) (length ks) ≡ k - 1
left_last [] k = refl
left_last (j ∷ ks) k = left_last ks k

-- how many handlers others have is nothing to a worker's code
recrewed : {H : Type 0} (told : H → Log) (t : Terms) (limit : ℕ) (ks js : List ℕ) (n : ℕ) (h : CodeHand (Line H)) (s : HandState) → WorkerStands told t (crews_by limit ks) n h s → WorkerStands told t (crews_by limit js) n h s
recrewed told t limit ks js n h s w = record { is = record { hand = w.is.hand; line = w.is.line }; numbered = w.numbered; row = w.row; tells = w.tells }

same_left : {H : Type 0} (told : H → Log) (t : Terms) (limit : ℕ) (ks js : List ℕ) (count : ℕ) (all : List (CodeHand (Line H))) → ((n : ℕ) → n < count → left_of js n ≡ left_of ks n) → WorkersStand told t (crews_by limit ks) count all (λ n. new_hand (left_of ks n)) → WorkersStand told t (crews_by limit js) count all (λ n. new_hand (left_of js n))
same_left told t limit ks js count all same h = record {
  many = h.many;
  each = λ n lt. let o = h.each n lt in (o.0, (o.1.0, subst (λ (k : ℕ). WorkerStands told t (crews_by limit js) n o.0 (new_hand k)) (sym (same n lt)) (recrewed told t limit ks js n o.0 (new_hand (left_of ks n)) o.1.1)));
}

worker_more : {H : Type 0} (v : Values) (ks : List ℕ) (k count : ℕ) (recorded : List (Recorded H)) (row : List Value) (house : House) (all : List (CodeHand (Line (Recorded H)))) → length ks ≡ count → WorkersNew v ks count all → 0 < k → length recorded ≡ k → map log_of recorded ≡ replicate (length recorded) [] → HouseFits (terms_of v) house → IsHouse house → HasKinds (columns_named v.table_columns) row → WorkersNew v (ks ++ k ∷ []) (count + 1) (all ++ worker_started 0 count recorded v.max_request row house ∷ [])
worker_more {H} v ks k count recorded row house all len h some many silent fits is kinds =
    let last : left_of (ks ++ k ∷ []) count ≡ k - 1 = subst (λ (n : ℕ). left_of (ks ++ k ∷ []) n ≡ k - 1) len (left_last ks k) in
    let left : length recorded ≡ left_of (ks ++ k ∷ []) count + 1 = omega (arith, last, many, some) in
    let others : WorkersNew v (ks ++ k ∷ []) count all = same_left log_of (terms_of v) v.max_request ks (ks ++ k ∷ []) count all (λ n lt. left_before ks k n (omega (arith, lt, len))) h in
    add_worker log_of (terms_of v) (crews_by v.max_request (ks ++ k ∷ [])) all count recorded row house others is fits left silent kinds

pub no_worker : {H : Type 0} (v : Values) (all : List (CodeHand (Line (Recorded H)))) → all ≡ [] → AreWorkers v [] all
no_worker {H} v all e = subst (λ (ws : List (CodeHand (Line (Recorded H)))). AreWorkers v [] ws) (sym e) (record {
  stand = no_workers log_of (terms_of v) (crews_by v.max_request []) (λ n. new_hand (left_of [] n));
  handlers = refl;
})

pub one_worker : {H : Type 0} (v : Values) (handlers : List H) (recorded : List (Recorded H)) (limit : ℕ) (cols : List Column) (house : House) (all more : List (CodeHand (Line (Recorded H)))) → 0 < length handlers → AreRecorded handlers recorded → limit ≡ v.max_request → cols ≡ columns_named v.table_columns → HouseFits (terms_of v) house → IsHouse house → HasKinds cols (blank cols) → more ≡ all ++ worker_started 0 (length all) recorded limit (blank cols) house ∷ [] → (given : List (List H)) → AreWorkers v given all → AreWorkers v (given ++ handlers ∷ []) more
one_worker {H} v handlers recorded limit cols house all more some are limit_is cols_are fits is kinds e given h = record { stand = stand; handlers = same }
  where
    more_is : more ≡ all ++ worker_started 0 (length given) recorded v.max_request (blank (columns_named v.table_columns)) house ∷ []
    more_is = e
        ∙ ap (λ (n : ℕ). all ++ worker_started 0 n recorded limit (blank cols) house ∷ []) h.stand.many
        ∙ ap (λ (m : ℕ). all ++ worker_started 0 (length given) recorded m (blank cols) house ∷ []) limit_is
        ∙ ap (λ (cs : List Column). all ++ worker_started 0 (length given) recorded v.max_request (blank cs) house ∷ []) cols_are

    next : WorkersNew v (map (λ (hs : List H). length hs) given ++ length handlers ∷ []) (length given + 1) (all ++ worker_started 0 (length given) recorded v.max_request (blank (columns_named v.table_columns)) house ∷ [])
    next = worker_more v (map (λ (hs : List H). length hs) given) (length handlers) (length given) recorded (blank (columns_named v.table_columns)) house all (length-map given (λ (hs : List H). length hs)) h.stand some (sym (length-map recorded inner_of) ∙ ap length are.0) are.1 fits is (subst (λ (cs : List Column). HasKinds cs (blank cs)) cols_are kinds)

    stand : WorkersNew v (map (λ (hs : List H). length hs) (given ++ handlers ∷ [])) (length (given ++ handlers ∷ [])) more
    stand =
        subst (λ (ks : List ℕ). WorkersNew v ks (length (given ++ handlers ∷ [])) more) (sym (map-append (λ (hs : List H). length hs) given (handlers ∷ [])))
        (subst (λ (n : ℕ). WorkersNew v (map (λ (hs : List H). length hs) given ++ length handlers ∷ []) n more) (sym (length_append given (handlers ∷ [])))
        (subst (λ (ws : List (CodeHand (Line (Recorded H)))). WorkersNew v (map (λ (hs : List H). length hs) given ++ length handlers ∷ []) (length given + 1) ws) (sym more_is) next))

    same : map handlers_of more ≡ given ++ handlers ∷ []
    same = ap (λ (ws : List (CodeHand (Line (Recorded H)))). map handlers_of ws) more_is
        ∙ map-append handlers_of all (worker_started 0 (length given) recorded v.max_request (blank (columns_named v.table_columns)) house ∷ [])
        ∙ ap (λ (xs : List (List H)). xs ++ map inner_of recorded ∷ []) h.handlers
        ∙ ap (λ (x : List H). given ++ x ∷ []) are.0

-- the lists of handlers that were taken so far, and one more
pub worker_taken : {X H : Type 0} (items : X → List H) (v : Values) (taken : List X) (x : X) (all more : List (CodeHand (Line (Recorded H)))) → AddsWorker v (items x) all more → AreWorkers v (map items taken) all → AreWorkers v (map items (taken ++ x ∷ [])) more
worker_taken {X} {H} items v taken x all more adds h = subst (λ (given : List (List H)). AreWorkers v given more) (sym (map-append items taken (x ∷ []))) (adds (map items taken) h)

pub workers_same : {X H : Type 0} (items : X → List H) (v : Values) (taken given : List X) (all : List (CodeHand (Line (Recorded H)))) → taken ≡ given → AreWorkers v (map items taken) all → AreWorkers v (map items given) all
workers_same {X} items v taken given all e h = subst (λ (xs : List X). AreWorkers v (map items xs) all) e h

pub workers_many : {X H : Type 0} (items : X → List H) (v : Values) (taken : List X) (all : List (CodeHand (Line (Recorded H)))) → AreWorkers v (map items taken) all → length all ≡ length taken
workers_many items v taken all h = h.stand.many ∙ length-map taken items

pub no_tasker : {T : Type 0} (v : Values) (all : List (CodeHand (Recorded T))) → all ≡ [] → AreTaskers v [] all
no_tasker {T} v all e = subst (λ (ws : List (CodeHand (Recorded T))). AreTaskers v [] ws) (sym e) (record { stand = no_taskers log_of (terms_of v) (λ n. new_hand 0); handlers = refl })

pub one_tasker : {T : Type 0} (v : Values) (handler : T) (l : Recorded T) (cols : List Column) (house : House) (all more : List (CodeHand (Recorded T))) → inner_of l ≡ handler → log_of l ≡ [] → cols ≡ columns_named v.table_columns → HouseFits (terms_of v) house → IsHouse house → HasKinds cols (blank cols) → more ≡ all ++ tasker_started (length all) l (blank cols) house ∷ [] → (given : List T) → AreTaskers v given all → AreTaskers v (given ++ handler ∷ []) more
one_tasker {T} v handler l cols house all more inner silent cols_are fits is kinds e given h = record { stand = stand; handlers = same }
  where
    more_is : more ≡ all ++ tasker_started (length given) l (blank (columns_named v.table_columns)) house ∷ []
    more_is = e
        ∙ ap (λ (n : ℕ). all ++ tasker_started n l (blank cols) house ∷ []) h.stand.many
        ∙ ap (λ (cs : List Column). all ++ tasker_started (length given) l (blank cs) house ∷ []) cols_are

    next : TaskersStand log_of (terms_of v) (length given + 1) (all ++ tasker_started (length given) l (blank (columns_named v.table_columns)) house ∷ []) (λ n. new_hand 0)
    next = add_tasker log_of (terms_of v) (λ n. 0) all (length given) l (blank (columns_named v.table_columns)) house h.stand is fits silent (subst (λ (cs : List Column). HasKinds cs (blank cs)) cols_are kinds)

    stand : TaskersStand log_of (terms_of v) (length (given ++ handler ∷ [])) more (λ n. new_hand 0)
    stand =
        subst (λ (n : ℕ). TaskersStand log_of (terms_of v) n more (λ k. new_hand 0)) (sym (length_append given (handler ∷ [])))
        (subst (λ (ws : List (CodeHand (Recorded T))). TaskersStand log_of (terms_of v) (length given + 1) ws (λ k. new_hand 0)) (sym more_is) next)

    same : map handler_of more ≡ given ++ handler ∷ []
    same = ap (λ (ws : List (CodeHand (Recorded T))). map handler_of ws) more_is
        ∙ map-append handler_of all (tasker_started (length given) l (blank (columns_named v.table_columns)) house ∷ [])
        ∙ ap (λ (xs : List T). xs ++ inner_of l ∷ []) h.handlers
        ∙ ap (λ (x : T). given ++ x ∷ []) inner
