-- What code that stands for a core tells of it.
use Rattle.std.proofs.Common.{◌≡◌, ℕ, ◌+◌, ◌<◌, true, ◌++◌, map, ap, ◌∙◌, sym, subst, Some, slice_get}
use Rattle.sw_lists.specs.Lists.{collect}
use Rattle.sw_step.specs.declared.actor.ActorId.{ActorId}
use Rattle.sw_step.specs.declared.actor.ActorId.TheVariants.{Reactor, Worker, Tasker}
use Rattle.sw_data.specs.declared.messages.Ask.TheVariants.{Finished}
use Rattle.sw_record.specs.Terms.{Terms}
use Rattle.sw_table_laws.specs.Table.{Shape}
use Rattle.sw_join.specs.Legal.{LegalFor}
use Rattle.sw_world_laws.specs.Turns.{AskTake, AskPush, AskNothing, AskRest, AskFinished, Diary}
use Rattle.sw_world_laws.specs.World.{Pending, Waits, Gave, Lost, Core, there}
use Rattle.sw_world_laws.specs.History.{diary_of, LocalBy}
use Rattle.sw_world_laws.specs.Law.{IsSound}
use Rattle.sw_world_laws.specs.Runs.{AllDone, IsServer}
use Rattle.sw_world_laws.proofs.Locals.{lt_test}
use Rattle.sw_world_laws.proofs.Right.{right_world, drained_world, seen_world, rise_world}
use Rattle.sw_world_fits.specs.Board.{number_of}
use Rattle.sw_hand.specs.declared.hand.Hand.{Hand as CodeHand}
use Rattle.sw_worker.specs.Generations.{Line}
use Rattle.sw_hand_laws.specs.Generations.{entries, Generations}
use Rattle.sw_world_hands.specs.Hands.{HandState, Crews}
use Rattle.sw_world_hand_fits.proofs.Telling.{line_log}
use Rattle.sw_world_reactor_fits.specs.Plain.{live_of, over_of}
use Rattle.sw_world_reactor_fits.proofs.Others.{kept_is}
use Rattle.sw_world_places.specs.declared.place.Next.TheVariants.{Asked}
use Rattle.sw_world_places.specs.declared.place.Place.{Place}
use Rattle.sw_world_stands.specs.Asked.{next_of}
use Rattle.sw_world_stands.proofs.Gets.{some_same}
use Rattle.sw_world_steps.specs.Server.{IsServed, server, AState, of_reactor, of_hand}
use Rattle.sw_world_whole.specs.Parts.{Parts, Views}
use Rattle.sw_world_whole.specs.Whole.{Stands, RecordHolds}

-- a hand's handlers, whatever is next for it
generations_by : (t : Terms) (served : IsServed t) (crews : Crews) (y : ActorId) (s : HandState) (d : Diary) (n : Pending) → IsSound n → LocalBy t (server t served crews) y (of_hand s) n d → Generations crews.limit (crews.left y + 1) s.hand
generations_by t served crews y s d (Gave got) sound q = q.generations
generations_by t served crews y s d (Waits AskTake) sound q = q.0.generations
generations_by t served crews y s d (Waits (AskPush to m)) sound q = q.1.generations
generations_by t served crews y s d (Waits AskNothing) sound q = q.generations
generations_by t served crews y s d (Waits AskRest) sound q = q.generations
generations_by t served crews y s d (Waits AskFinished) sound q = q.generations
generations_by t served crews y s d Lost sound q = absurd sound

module _ {O H T : Type 0} (t : Terms) (served : IsServed t) (crews : Crews) (shape : Shape) (v : Views O H T) (P : Parts O H T) (c : Core AState) (st : Stands t served crews shape v P c) where
  -- the record
  pub record_holds : IsServer t → RecordHolds t served crews shape c
  record_holds is =
      let p = server t served crews in
      record {
        right = right_world t (LegalFor shape) p c is st.law st.sound;
        drained = λ done. drained_world t (LegalFor shape) p c is st.law st.sound done;
        seen = seen_world t (LegalFor shape) p c is st.law st.sound;
        rise = rise_world t (LegalFor shape) p c is st.law;
      }

  -- all actors are finished where all places say so
  pub all_done : ((y : ActorId) → there t y ≡ true → (q : Place) → slice_get P.rows.all (number_of t y) ≡ Some q → q.next ≡ Asked Finished) → AllDone t (server t served crews) c
  all_done finished y here =
      let k = st.rows.each y here in
      sym k.1.1.next ∙ ap next_of (finished y here k.0 k.1.0)

  -- a reactor's links
  pub links_told : (n : ℕ) (o : O) → n < t.reactor_num → slice_get P.owners n ≡ Some o → (server t served crews).kept (c.states (Reactor n)) ≡ map (live_of t) (v.reactor o).line.conns ++ map over_of (v.ends o).kept
  links_told n o lt is =
      let a = st.actors (Reactor n) (lt_test n t.reactor_num lt) in
      ap (server t served crews).kept a.1.1.1.0
      ∙ subst (λ (x : O). (server t served crews).kept (of_reactor a.1.1.0) ≡ map (live_of t) (v.reactor x).line.conns ++ map over_of (v.ends x).kept) (some_same a.0 o (sym a.1.0 ∙ is))
      (kept_is t (v.reactor a.0) (v.ends a.0).kept a.1.1.0 a.1.1.1.1)

  -- a worker's log
  pub worker_log : (n : ℕ) (h : CodeHand (Line H)) → n < t.worker_num → slice_get P.workers n ≡ Some h → (server t served crews).log (c.states (Worker n)) ≡ collect entries (map v.worker h.handler.items)
  worker_log n h lt is =
      let here : there t (Worker n) ≡ true = lt_test n t.worker_num lt in
      let a = st.actors (Worker n) here in
      let x : HandState = a.1.1.0 in
      let l = st.law.1 in
      let local : LocalBy t (server t served crews) (Worker n) (of_hand x) (c.nexts (Worker n)) (diary_of st.law.0 (Worker n)) =
      subst (λ (z : AState). LocalBy t (server t served crews) (Worker n) z (c.nexts (Worker n)) (diary_of st.law.0 (Worker n))) a.1.1.1.0 (l.local (Worker n) here) in
      let g : Generations crews.limit (crews.left (Worker n) + 1) x.hand = generations_by t served crews (Worker n) x (diary_of st.law.0 (Worker n)) (c.nexts (Worker n)) (l.sound st.sound (Worker n)) local in
      ap (server t served crews).log a.1.1.1.0
      ∙ subst (λ (k : CodeHand (Line H)). x.hand.log ≡ collect entries (map v.worker k.handler.items)) (some_same a.0 h (sym a.1.0 ∙ is))
      (line_log v.worker crews.limit (crews.left (Worker n) + 1) x.hand a.0.handler a.1.1.1.1.tells g)

  -- a task worker's
  pub tasker_log : (n : ℕ) (h : CodeHand T) → n < t.tasker_num → slice_get P.taskers n ≡ Some h → (server t served crews).log (c.states (Tasker n)) ≡ v.tasker h.handler
  tasker_log n h lt is =
      let a = st.actors (Tasker n) (lt_test n t.tasker_num lt) in
      ap (server t served crews).log a.1.1.1.0
      ∙ subst (λ (k : CodeHand T). a.1.1.0.hand.log ≡ v.tasker k.handler) (some_same a.0 h (sym a.1.0 ∙ is)) (sym a.1.1.1.1.tells)
