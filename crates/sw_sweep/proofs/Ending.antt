-- What players leave once they ended.
use Rattle.std.proofs.Common.{◌≡◌, ◌∷◌, ◌++◌, List, [], map}
use Rattle.std.specs.Global.{Vec}
use Rattle.sw_players.specs.declared.tasker.Tasking.{Tasking}
use Rattle.sw_players.specs.declared.worker.Working.{Working}
use Rattle.sw_sweep.proofs.Taking.{mapped_more, mapped_all}
use Rattle.sw_worker.specs.Generations.{made}

abbrev of_handlers : {H A : Type 0} → (H → A) → Vec H → List A
of_handlers f hs = map f hs.items

abbrev of_worker : {L J H A : Type 0} → (H → A) → Working L J H → List A
of_worker f w = made f w.worker.handler

abbrev of_tasker : {L J T B : Type 0} → (T → B) → Tasking L J T → B
of_tasker g t = g t.tasker.handler

module _ {L J H A : Type 0} (f : H → A) where
  -- a worker more
  pub worker_more : (all more : List (Vec H)) (some : Vec H) (ended : List (Working L J H)) (worker : Working L J H) → more ≡ all ++ some ∷ [] → of_handlers f some ≡ of_worker f worker → map (of_handlers f) all ≡ map (of_worker f) ended → map (of_handlers f) more ≡ map (of_worker f) (ended ++ worker ∷ [])
  worker_more all more some ended worker e same was = mapped_more (of_handlers f) (of_worker f) all more some ended worker e same was

  pub workers_all : (all : List (Vec H)) (ended workers : List (Working L J H)) → map (of_handlers f) all ≡ map (of_worker f) ended → ended ≡ workers → map (of_handlers f) all ≡ map (of_worker f) workers
  workers_all all ended workers was same = mapped_all (of_handlers f) (of_worker f) all ended workers was same

module _ {L J T B : Type 0} (g : T → B) where
  -- a task worker more
  pub tasker_more : (all more : List T) (one : T) (ended : List (Tasking L J T)) (tasker : Tasking L J T) → more ≡ all ++ one ∷ [] → g one ≡ of_tasker g tasker → map g all ≡ map (of_tasker g) ended → map g more ≡ map (of_tasker g) (ended ++ tasker ∷ [])
  tasker_more all more one ended tasker e same was = mapped_more g (of_tasker g) all more one ended tasker e same was

  pub taskers_all : (all : List T) (ended taskers : List (Tasking L J T)) → map g all ≡ map (of_tasker g) ended → ended ≡ taskers → map g all ≡ map (of_tasker g) taskers
  taskers_all all ended taskers was same = mapped_all g (of_tasker g) all ended taskers was same
