-- The front, the reactors, and what all actors share, before any step.
use Rattle.std.proofs.Common.{◌≡◌, ℕ, ◌+◌, ◌<◌, ◌≤◌, ◌^◌, List, [], ◌∷◌, true, false, None, replicate, refl, ap, ◌∙◌, sym, subst, arith}
use Rattle.std.specs.FinMap as map
use Rattle.sw_column.specs.declared.column.Column.{Column}
use Rattle.sw_conn.specs.declared.terms.Terms.{Terms as Seen}
use Rattle.sw_conn_fits.specs.Shown.{settings as seen}
use Rattle.sw_frame.specs.declared.framing.Framing.{Framing}
use Rattle.sw_frame.specs.Cut.{IsFit}
use Rattle.sw_link.specs.MemoryNets.{new_net}
use Rattle.sw_door.specs.Door.{IsNew}
use Rattle.sw_hand.specs.declared.house.House.{House}
use Rattle.sw_hand_fits.specs.Matches.{HouseFits, is_some_table}
use Rattle.sw_port_board.specs.PlainBoard.{PlainWords, plain_words, no_counts}
use Rattle.sw_settings.specs.declared.values.Values.{Values}
use Rattle.sw_settings.specs.Columns.{columns_named}
use Rattle.sw_settings.specs.Framings.{framing_of}
use Rattle.sw_settings.specs.Values.{IsWithin}
use Rattle.sw_table_laws.specs.Table.{Shape, LegalFrom, left_by}
use Rattle.sw_table_laws.specs.Sizes.{raised}
use Rattle.sw_tmodel.specs.Plain.{PlainTable}
use Rattle.sw_join.specs.Legal.{LegalFor}
use Rattle.sw_reactor_table.specs.Reactor.{started}
use Rattle.sw_world_ports.specs.Ports.{new_ports}
use Rattle.sw_world_fits.specs.Table.{TableStands}
use Rattle.sw_world_door.specs.Doors.{new_door}
use Rattle.sw_world_places.specs.Links.{no_arrivals}
use Rattle.sw_world_front.specs.declared.front.Front.{Front}
use Rattle.sw_world_front_fits.specs.Front.{FrontStands}
use Rattle.sw_world_front_fits.proofs.Front.{front_new}
use Rattle.sw_world_reactors.specs.declared.owner.Owner.{Owner}
use Rattle.sw_world_reactors.specs.Owners.{AreNew}
use Rattle.sw_world_reactors_fits.specs.Stand.{ReactorsStand}
use Rattle.sw_world_reactors_fits.proofs.Changed.{new_all}
use Rattle.sw_world_laws.specs.Runs.{IsServer}
use Rattle.sw_world_steps.specs.Server.{IsServed}
use Rattle.sw_world_make.specs.Terms.{terms_of, shape_of}
use Rattle.sw_world_make.specs.Made.{new_board}

pub new_front : (v : Values) (m r : ℕ) (f : Front) → m ≡ v.max_conn → r ≡ v.reactor_num → IsNew m r f.door → f.net ≡ new_net [] false None → (f.links ≡ no_arrivals m) × (f.refusals ≡ None) → FrontStands (terms_of v) f new_door (new_ports (terms_of v))
new_front v m r f slots reactors door net links = front_new (terms_of v) f (subst (λ (k : ℕ). IsNew v.max_conn k f.door) reactors (subst (λ (k : ℕ). IsNew k r f.door) slots door)) net (links.0 ∙ ap no_arrivals slots) links.1

pub board_new : (v : Values) (w k r a : ℕ) (b : PlainWords) → w ≡ v.worker_num → k ≡ v.task_worker_num → r ≡ v.reactor_num → a ≡ w + k + r + 1 → b ≡ plain_words (record { workers = w; taskers = k; actors = a }) 0 (replicate (w + k) false) false (replicate a no_counts) → b ≡ new_board (terms_of v)
board_new v w k r a b ew ek er ea e =
    e
    ∙ ap (λ (n : ℕ). plain_words (record { workers = w; taskers = k; actors = n }) 0 (replicate (w + k) false) false (replicate n no_counts)) ea
    ∙ ap (λ (n : ℕ). plain_words (record { workers = n; taskers = k; actors = n + k + r + 1 }) 0 (replicate (n + k) false) false (replicate (n + k + r + 1) no_counts)) ew
    ∙ ap (λ (n : ℕ). plain_words (record { workers = v.worker_num; taskers = n; actors = v.worker_num + n + r + 1 }) 0 (replicate (v.worker_num + n) false) false (replicate (v.worker_num + n + r + 1) no_counts)) ek
    ∙ ap (λ (n : ℕ). plain_words (record { workers = v.worker_num; taskers = v.task_worker_num; actors = v.worker_num + v.task_worker_num + n + 1 }) 0 (replicate (v.worker_num + v.task_worker_num) false) false (replicate (v.worker_num + v.task_worker_num + n + 1) no_counts)) er

-- a Table without calls
abbrev table_with : List Column → ℕ → ℕ → ℕ → PlainTable
table_with cols size percent last = record { columns = cols; size = raised size; percent = percent; last_call = last; calls = 0; state = map.empty }

table_new : (v : Values) → TableStands (terms_of v) (shape_of v) (table_with (columns_named v.table_columns) v.table_size v.table_percent v.table_last_call) []
unfolding left_by
table_new v = let within : 0 ≤ v.table_last_call = omega arith in record { same = refl; columns = refl; rows = refl; calls = refl; last = refl; within = within }

pub new_table : (v : Values) (cols : List Column) (size percent last : ℕ) (p : PlainTable) → cols ≡ columns_named v.table_columns → size ≡ v.table_size → percent ≡ v.table_percent → last ≡ v.table_last_call → p ≡ table_with cols size percent last → TableStands (terms_of v) (shape_of v) p []
new_table v cols size percent last p ec es ep el e =
    let is : p ≡ table_with (columns_named v.table_columns) v.table_size v.table_percent v.table_last_call = e
    ∙ ap (λ (x : List Column). table_with x size percent last) ec
    ∙ ap (λ (n : ℕ). table_with (columns_named v.table_columns) n percent last) es
    ∙ ap (λ (n : ℕ). table_with (columns_named v.table_columns) v.table_size n last) ep
    ∙ ap (λ (n : ℕ). table_with (columns_named v.table_columns) v.table_size v.table_percent n) el in
    subst (λ (q : PlainTable). TableStands (terms_of v) (shape_of v) q []) (sym is) (table_new v)

pub no_calls : (shape : Shape) → LegalFor shape []
unfolding LegalFrom
no_calls shape = tt

pub new_reactors : (v : Values) (s : Seen) (f : Framing) (size count : ℕ) (all : List Owner) → s ≡ seen (terms_of v) → f ≡ framing_of v → count ≡ v.reactor_num → 0 < s.worker_num → AreNew s f size count all → ReactorsStand (terms_of v) all (λ n. started)
new_reactors v s f size count all es ef ec some h =
    new_all (terms_of v) size all (subst (λ (x : Seen). 0 < x.worker_num) es some)
    (subst (λ (n : ℕ). AreNew (seen (terms_of v)) (framing_of v) size n all) ec
    (subst (λ (x : Framing). AreNew (seen (terms_of v)) x size count all) ef
    (subst (λ (x : Seen). AreNew x f size count all) es h)))

pub house_fits : (v : Values) (h : House) (cols : List Column) → h.mode ≡ v.dispatch_mode → h.max_conn ≡ v.max_conn → h.reactors ≡ v.reactor_num → h.workers ≡ v.worker_num → h.taskers ≡ v.task_worker_num → h.table ≡ is_some_table cols → cols ≡ columns_named v.table_columns → HouseFits (terms_of v) h
house_fits v h cols mode slots reactors workers taskers table are = record { mode = mode; max_conn = slots; reactors = reactors; workers = workers; taskers = taskers; table = table ∙ ap is_some_table are }

pub is_served : (v : Values) (w k m : ℕ) (f : Framing) → w ≡ v.worker_num → k ≡ v.task_worker_num → m ≡ v.max_conn → f ≡ framing_of v → IsWithin 1 64 w → k ≤ 64 → IsWithin 1 65536 m → IsFit f → IsServed (terms_of v)
is_served v w k m f ew ek em ef ws ks ms cuts =
    let least : 1 ≤ w = ws.0 in
    let most : w ≤ 64 = ws.1 in
    let some : 1 ≤ m = ms.0 in
    let workers : 0 < v.worker_num = omega (arith, ew, least) in
    let few_workers : v.worker_num < 2 ^ 32 = omega (arith, ew, most) in
    let few_taskers : v.task_worker_num < 2 ^ 32 = omega (arith, ek, ks) in
    let slots : 1 ≤ v.max_conn = omega (arith, em, some) in
    record { sizes = record { workers = workers; few_workers = few_workers; few_taskers = few_taskers }; slots = slots; fit = subst IsFit ef cuts; calm = refl }

pub is_server : (v : Values) (m r w : ℕ) → m ≡ v.dispatch_mode → r ≡ v.reactor_num → w ≡ v.worker_num → IsWithin 1 5 m → IsWithin 1 64 r → IsWithin 1 64 w → IsServer (terms_of v)
is_server v m r w em er ew ms rs ws =
    let low : 1 ≤ m = ms.0 in
    let high : m ≤ 5 = ms.1 in
    let some : 1 ≤ r = rs.0 in
    let least : 1 ≤ w = ws.0 in
    let one : 1 ≤ v.dispatch_mode = omega (arith, em, low) in
    let five : v.dispatch_mode ≤ 5 = omega (arith, em, high) in
    let reactors : 1 ≤ v.reactor_num = omega (arith, er, some) in
    let workers : 1 ≤ v.worker_num = omega (arith, ew, least) in
    record { low = one; high = five; reactors = reactors; workers = workers }

pub few_actors : (v : Values) (w k r : ℕ) → w ≡ v.worker_num → k ≡ v.task_worker_num → r ≡ v.reactor_num → IsWithin 1 64 w → k ≤ 64 → IsWithin 1 64 r → v.worker_num + v.task_worker_num + v.reactor_num + 1 ≤ 2 ^ 32
few_actors v w k r ew ek er ws ks rs =
    let most : w ≤ 64 = ws.1 in
    let few : r ≤ 64 = rs.1 in
    omega (arith, ew, ek, er, most, ks, few)
