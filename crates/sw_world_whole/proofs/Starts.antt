-- Before any step the code stands for the world's start.
use Rattle.std.proofs.Common.{◌≡◌, ℕ, zero, suc, ◌+◌, ◌<◌, ◌^◌, Bool, true, false, if◌then◌else◌, [], refl, ap, ◌∙◌, sym, subst, inr, replicate, slice_index_or}
use Rattle.std.proofs.lemmas.List.{length-replicate}
use Rattle.sw_step.specs.declared.actor.ActorId.{ActorId}
use Rattle.sw_step.specs.declared.actor.ActorId.TheVariants.{Door, Reactor, Worker, Tasker}
use Rattle.sw_step.specs.Actors.{is}
use Rattle.sw_base.specs.declared.counter.Counter.{Counter}
use Rattle.sw_base.specs.declared.counter.Counter.TheVariants.{Accepted, Ended, Packets, Sends, Tasks, Finishes}
use Rattle.sw_port_book.specs.declared.word.Word.{Word}
use Rattle.sw_port_book.specs.Plain.{Words, free}
use Rattle.sw_port_board.specs.PlainBoard.{PlainWords, plain_words, no_counts, count_of}
use Rattle.sw_record.specs.Terms.{Terms}
use Rattle.sw_table_laws.specs.Table.{Shape}
use Rattle.sw_join.specs.Legal.{LegalFor}
use Rattle.sw_world_ports.specs.Ports.{new_ports}
use Rattle.sw_world_laws.specs.Turns.{GotStart}
use Rattle.sw_world_laws.specs.World.{Gave, there, start}
use Rattle.sw_world_laws.proofs.Mix.{mix_start}
use Rattle.sw_world_laws.proofs.Reached.{start_keeps}
use Rattle.sw_world_fits.specs.Book.{BookStands}
use Rattle.sw_world_fits.specs.Board.{number_of, BoardStands}
use Rattle.sw_world_places.specs.Places.{Rows}
use Rattle.sw_reactor_table.specs.Reactor.{started}
use Rattle.sw_world_reactor.specs.Reactors.{is_reactor}
use Rattle.sw_world_hands.specs.Hands.{Crews, new_hand, is_hand}
use Rattle.sw_world_door.specs.Doors.{new_door}
use Rattle.sw_world_door.proofs.Resting.{ARest}
use Rattle.sw_world_stands.specs.Rows.{RowsStand}
use Rattle.sw_world_stands.proofs.Starts.{new_stand}
use Rattle.sw_world_steps.specs.Server.{IsServed, server, of_reactor, of_hand}
use Rattle.sw_world_whole.specs.Parts.{Parts, Views}
use Rattle.sw_world_whole.specs.Whole.{ActorStands, ActorIsNew, IsNewCore, Stands}

-- what is the same everywhere in a list
same_index : {A : Type 0} (n i : ℕ) (x : A) → slice_index_or (replicate n x) i x ≡ x
same_index zero zero x = refl
same_index zero (suc i) x = refl
same_index (suc n) zero x = refl
same_index (suc n) (suc i) x = same_index n i x

book_new : (t : Terms) → BookStands t (record { last = t.session_last; slots = replicate t.max_conn free }) (new_ports t)
book_new t =
    record {
      slots = record { size = length-replicate t.max_conn free; each = λ i lt. ap (λ (w : Word). (w.number, w.uid)) (sym (same_index t.max_conn i free)) };
      last = refl;
    }

none_counted : (c : Counter) → count_of c no_counts ≡ 0
none_counted Accepted = refl
none_counted Ended = refl
none_counted Packets = refl
none_counted Sends = refl
none_counted Tasks = refl
none_counted Finishes = refl

board_new : (t : Terms) → BoardStands t (plain_words (record { workers = t.worker_num; taskers = t.tasker_num; actors = t.worker_num + t.tasker_num + t.reactor_num + 1 }) 0 (replicate (t.worker_num + t.tasker_num) false) false (replicate (t.worker_num + t.tasker_num + t.reactor_num + 1) no_counts)) (new_ports t)
board_new t =
    record {
      workers = refl;
      taskers = refl;
      actors = refl;
      marks = length-replicate (t.worker_num + t.tasker_num) false;
      words = length-replicate (t.worker_num + t.tasker_num + t.reactor_num + 1) no_counts;
      stopped = refl;
      worker = λ k lt. same_index (t.worker_num + t.tasker_num) k false;
      tasker = λ k lt. same_index (t.worker_num + t.tasker_num) (t.worker_num + k) false;
      counts = λ c y here. ap (count_of c) (same_index (t.worker_num + t.tasker_num + t.reactor_num + 1) (number_of t y) no_counts) ∙ none_counted c;
    }

-- each actor is one of the server's
all_mine : (t : Terms) (served : IsServed t) (crews : Crews) (y : ActorId) → (server t served crews).mine y ≡ true
all_mine t served crews y = pick (is y Door) (is_reactor t y) (is_hand t y)
  where
    pick : (a b d : Bool) → (if a then true else (if b then true else (if d then true else true))) ≡ true
    pick true b d = refl
    pick false true d = refl
    pick false false true = refl
    pick false false false = refl

-- the first states of those that are there
reactor_first : (t : Terms) (served : IsServed t) (crews : Crews) (n : ℕ) → there t (Reactor n) ≡ true → (server t served crews).start (Reactor n) ≡ of_reactor started
reactor_first t served crews n here = ap (λ (b : Bool). inr (mix_start b started (mix_start false (new_hand (crews.left (Reactor n))) ARest))) here

worker_first : (t : Terms) (served : IsServed t) (crews : Crews) (n : ℕ) → there t (Worker n) ≡ true → (server t served crews).start (Worker n) ≡ of_hand (new_hand (crews.left (Worker n)))
worker_first t served crews n here = ap (λ (b : Bool). inr (inr (mix_start b (new_hand (crews.left (Worker n))) ARest))) here

tasker_first : (t : Terms) (served : IsServed t) (crews : Crews) (n : ℕ) → there t (Tasker n) ≡ true → (server t served crews).start (Tasker n) ≡ of_hand (new_hand (crews.left (Tasker n)))
tasker_first t served crews n here = ap (λ (b : Bool). inr (inr (mix_start b (new_hand (crews.left (Tasker n))) ARest))) here

pub starts : {O H T : Type 0} (t : Terms) (served : IsServed t) (crews : Crews) (shape : Shape) (v : Views O H T) (P : Parts O H T) → t.session_last < 2 ^ 32 → LegalFor shape [] → IsNewCore t crews shape v P → Stands t served crews shape v P (start t (server t served crews))
starts {O} {H} {T} t served crews shape v P last legal new =
    record {
      law = start_keeps t (LegalFor shape) (server t served crews) (all_mine t served crews) last legal;
      sound = refl;
      door = new_door;
      is = refl;
      shared = record {
        front = new.front;
        book = subst (λ (b : Words). BookStands t b (new_ports t)) (sym new.book) (book_new t);
        board = subst (λ (b : PlainWords). BoardStands t b (new_ports t)) (sym new.board) (board_new t);
        table = new.shelf;
      };
      rows = subst (λ (r : Rows). RowsStand t r (λ y. Gave GotStart) (λ y. [])) (sym new.rows) (new_stand t);
      actors = λ y here. stand y here (new.actors y here);
    }
  where
    stand : (y : ActorId) → there t y ≡ true → ActorIsNew t crews v P y → ActorStands t crews v P y ((server t served crews).start y)
    stand Door here h = tt
    stand (Reactor n) here (o, (e, k)) = (o, (e, (started, (reactor_first t served crews n here, k))))
    stand (Worker n) here (h, (e, k)) = (h, (e, (new_hand (crews.left (Worker n)), (worker_first t served crews n here, k))))
    stand (Tasker n) here (h, (e, k)) = (h, (e, (new_hand (crews.left (Tasker n)), (tasker_first t served crews n here, k))))
