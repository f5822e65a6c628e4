-- Two families of actors make one: the actors of the first, and those of the second that the first leaves.
use Rattle.std.proofs.Common.{◌≡◌, ◌⊎◌, Bool, true, false, if◌then◌else◌, List, [], refl, inl, inr}
use Rattle.sw_lists.specs.Lists.{Each}
use Rattle.sw_step.specs.declared.actor.ActorId.{ActorId}
use Rattle.sw_record.specs.Terms.{Terms}
use Rattle.sw_world_ports.specs.Calls.{Did, MayDo}
use Rattle.sw_world_laws.specs.Turns.{Ask, AskTake, AskPush, AskNothing, AskRest, AskFinished, Got, GotStart, Diary, no_diary, with_dids, After}
use Rattle.sw_world_laws.specs.Shows.{Shows, LostShows}
use Rattle.sw_world_laws.specs.Done.{DoneShows}
use Rattle.sw_world_laws.specs.Actors.{Grows, Feed, Actors}

-- by whose state it is
abbrev pub mix_of : {P Q B : Type 0} → (P → B) → (Q → B) → P ⊎ Q → B
mix_of f g (inl s) = f s
mix_of f g (inr s) = g s

abbrev pub mix_start : {P Q : Type 0} → Bool → P → Q → P ⊎ Q
mix_start true a b = inl a
mix_start false a b = inr b

abbrev pub mix_quiet : {P Q : Type 0} → (ActorId → P → Got → Diary → Type 0) → (ActorId → Q → Got → Diary → Type 0) → ActorId → P ⊎ Q → Got → Diary → Type 0
mix_quiet f g y (inl s) got d = f y s got d
mix_quiet f g y (inr s) got d = g y s got d

abbrev pub mix_done : {P Q : Type 0} → (ActorId → P → Diary → Type 0) → (ActorId → Q → Diary → Type 0) → ActorId → P ⊎ Q → Diary → Type 0
mix_done f g y (inl s) d = f y s d
mix_done f g y (inr s) d = g y s d

-- a turn leaves a state of the same family
abbrev pub mix_turn : {P Q : Type 0} → (ActorId → P → Got → Feed → List Did → P → Ask → Type 0) → (ActorId → Q → Got → Feed → List Did → Q → Ask → Type 0) → ActorId → P ⊎ Q → Got → Feed → List Did → P ⊎ Q → Ask → Type 0
mix_turn f g y (inl s) got feed dids (inl u) ask = f y s got feed dids u ask
mix_turn f g y (inr s) got feed dids (inr u) ask = g y s got feed dids u ask
mix_turn f g y (inl s) got feed dids (inr u) ask = ⊥
mix_turn f g y (inr s) got feed dids (inl u) ask = ⊥

abbrev pub mix_fails : {P Q : Type 0} → (ActorId → P → Got → Feed → List Did → P → Type 0) → (ActorId → Q → Got → Feed → List Did → Q → Type 0) → ActorId → P ⊎ Q → Got → Feed → List Did → P ⊎ Q → Type 0
mix_fails f g y (inl s) got feed dids (inl u) = f y s got feed dids u
mix_fails f g y (inr s) got feed dids (inr u) = g y s got feed dids u
mix_fails f g y (inl s) got feed dids (inr u) = ⊥
mix_fails f g y (inr s) got feed dids (inl u) = ⊥

left_after : {P Q : Type 0} (t : Terms) (f : ActorId → P → Got → Diary → Type 0) (g : ActorId → Q → Got → Diary → Type 0) (fd : ActorId → P → Diary → Type 0) (gd : ActorId → Q → Diary → Type 0) (y : ActorId) (s : P) (ask : Ask) (d : Diary) → After t (f y) (fd y) s ask d → After t (mix_quiet f g y) (mix_done fd gd y) (inl s) ask d
left_after t f g fd gd y s AskTake d h = h
left_after t f g fd gd y s (AskPush to m) d h = h
left_after t f g fd gd y s AskNothing d h = h
left_after t f g fd gd y s AskRest d h = h
left_after t f g fd gd y s AskFinished d h = h

right_after : {P Q : Type 0} (t : Terms) (f : ActorId → P → Got → Diary → Type 0) (g : ActorId → Q → Got → Diary → Type 0) (fd : ActorId → P → Diary → Type 0) (gd : ActorId → Q → Diary → Type 0) (y : ActorId) (s : Q) (ask : Ask) (d : Diary) → After t (g y) (gd y) s ask d → After t (mix_quiet f g y) (mix_done fd gd y) (inr s) ask d
right_after t f g fd gd y s AskTake d h = h
right_after t f g fd gd y s (AskPush to m) d h = h
right_after t f g fd gd y s AskNothing d h = h
right_after t f g fd gd y s AskRest d h = h
right_after t f g fd gd y s AskFinished d h = h

left_back : {P Q : Type 0} (t : Terms) (f : ActorId → P → Got → Diary → Type 0) (g : ActorId → Q → Got → Diary → Type 0) (fd : ActorId → P → Diary → Type 0) (gd : ActorId → Q → Diary → Type 0) (y : ActorId) (s : P) (ask : Ask) (d : Diary) → After t (mix_quiet f g y) (mix_done fd gd y) (inl s) ask d → After t (f y) (fd y) s ask d
left_back t f g fd gd y s AskTake d h = h
left_back t f g fd gd y s (AskPush to m) d h = h
left_back t f g fd gd y s AskNothing d h = h
left_back t f g fd gd y s AskRest d h = h
left_back t f g fd gd y s AskFinished d h = h

right_back : {P Q : Type 0} (t : Terms) (f : ActorId → P → Got → Diary → Type 0) (g : ActorId → Q → Got → Diary → Type 0) (fd : ActorId → P → Diary → Type 0) (gd : ActorId → Q → Diary → Type 0) (y : ActorId) (s : Q) (ask : Ask) (d : Diary) → After t (mix_quiet f g y) (mix_done fd gd y) (inr s) ask d → After t (g y) (gd y) s ask d
right_back t f g fd gd y s AskTake d h = h
right_back t f g fd gd y s (AskPush to m) d h = h
right_back t f g fd gd y s AskNothing d h = h
right_back t f g fd gd y s AskRest d h = h
right_back t f g fd gd y s AskFinished d h = h

pub mixed_starts : (t : Terms) (p q : Actors t) (y : ActorId) (b : Bool) → p.mine y ≡ b → (if b then true else q.mine y) ≡ true → mix_quiet p.Quiet q.Quiet y (mix_start b (p.start y) (q.start y)) GotStart no_diary
mixed_starts t p q y true e h = p.starts y e
mixed_starts t p q y false e h = q.starts y h

pub mixed_empty : (t : Terms) (p q : Actors t) (y : ActorId) (b : Bool) → mix_of p.log q.log (mix_start b (p.start y) (q.start y)) ≡ []
mixed_empty t p q y true = p.starts_empty y
mixed_empty t p q y false = q.starts_empty y

pub mixed_keeps : (t : Terms) (p q : Actors t) (y : ActorId) (s : p.State ⊎ q.State) (got : Got) (feed : Feed) (dids : List Did) (u : p.State ⊎ q.State) (ask : Ask) (d : Diary) → mix_turn p.Turn q.Turn y s got feed dids u ask → mix_quiet p.Quiet q.Quiet y s got d → After t (mix_quiet p.Quiet q.Quiet y) (mix_done p.Done q.Done y) u ask (with_dids d dids)
mixed_keeps t p q y (inl s) got feed dids (inl u) ask d turn quiet = left_after t p.Quiet q.Quiet p.Done q.Done y u ask (with_dids d dids) (p.keeps y s got feed dids u ask d turn quiet)
mixed_keeps t p q y (inr s) got feed dids (inr u) ask d turn quiet = right_after t p.Quiet q.Quiet p.Done q.Done y u ask (with_dids d dids) (q.keeps y s got feed dids u ask d turn quiet)
mixed_keeps t p q y (inl s) got feed dids (inr u) ask d turn quiet = absurd turn
mixed_keeps t p q y (inr s) got feed dids (inl u) ask d turn quiet = absurd turn

pub mixed_fails : (t : Terms) (p q : Actors t) (y : ActorId) (s : p.State ⊎ q.State) (got : Got) (feed : Feed) (dids : List Did) (u : p.State ⊎ q.State) (d : Diary) → mix_fails p.Fails q.Fails y s got feed dids u → mix_quiet p.Quiet q.Quiet y s got d → mix_done p.Lost q.Lost y u (with_dids d dids)
mixed_fails t p q y (inl s) got feed dids (inl u) d turn quiet = p.fails y s got feed dids u d turn quiet
mixed_fails t p q y (inr s) got feed dids (inr u) d turn quiet = q.fails y s got feed dids u d turn quiet
mixed_fails t p q y (inl s) got feed dids (inr u) d turn quiet = absurd turn
mixed_fails t p q y (inr s) got feed dids (inl u) d turn quiet = absurd turn

pub mixed_may : (t : Terms) (p q : Actors t) (y : ActorId) (s : p.State ⊎ q.State) (got : Got) (feed : Feed) (dids : List Did) (u : p.State ⊎ q.State) (ask : Ask) → mix_turn p.Turn q.Turn y s got feed dids u ask → Each (MayDo t y) dids
mixed_may t p q y (inl s) got feed dids (inl u) ask turn = p.may y s got feed dids u ask turn
mixed_may t p q y (inr s) got feed dids (inr u) ask turn = q.may y s got feed dids u ask turn
mixed_may t p q y (inl s) got feed dids (inr u) ask turn = absurd turn
mixed_may t p q y (inr s) got feed dids (inl u) ask turn = absurd turn

pub mixed_fails_may : (t : Terms) (p q : Actors t) (y : ActorId) (s : p.State ⊎ q.State) (got : Got) (feed : Feed) (dids : List Did) (u : p.State ⊎ q.State) → mix_fails p.Fails q.Fails y s got feed dids u → Each (MayDo t y) dids
mixed_fails_may t p q y (inl s) got feed dids (inl u) turn = p.fails_may y s got feed dids u turn
mixed_fails_may t p q y (inr s) got feed dids (inr u) turn = q.fails_may y s got feed dids u turn
mixed_fails_may t p q y (inl s) got feed dids (inr u) turn = absurd turn
mixed_fails_may t p q y (inr s) got feed dids (inl u) turn = absurd turn

pub mixed_grows : (t : Terms) (p q : Actors t) (y : ActorId) (s : p.State ⊎ q.State) (got : Got) (feed : Feed) (dids : List Did) (u : p.State ⊎ q.State) (ask : Ask) (d : Diary) → mix_turn p.Turn q.Turn y s got feed dids u ask → mix_quiet p.Quiet q.Quiet y s got d → Grows t y (mix_of p.log q.log s) (mix_of p.log q.log u) d.pushed
mixed_grows t p q y (inl s) got feed dids (inl u) ask d turn quiet = p.grows y s got feed dids u ask d turn quiet
mixed_grows t p q y (inr s) got feed dids (inr u) ask d turn quiet = q.grows y s got feed dids u ask d turn quiet
mixed_grows t p q y (inl s) got feed dids (inr u) ask d turn quiet = absurd turn
mixed_grows t p q y (inr s) got feed dids (inl u) ask d turn quiet = absurd turn

pub mixed_still : (t : Terms) (p q : Actors t) (y : ActorId) (s : p.State ⊎ q.State) (got : Got) (feed : Feed) (dids : List Did) (u : p.State ⊎ q.State) → mix_fails p.Fails q.Fails y s got feed dids u → mix_of p.log q.log u ≡ mix_of p.log q.log s
mixed_still t p q y (inl s) got feed dids (inl u) turn = p.fails_still y s got feed dids u turn
mixed_still t p q y (inr s) got feed dids (inr u) turn = q.fails_still y s got feed dids u turn
mixed_still t p q y (inl s) got feed dids (inr u) turn = absurd turn
mixed_still t p q y (inr s) got feed dids (inl u) turn = absurd turn

pub mixed_shows : (t : Terms) (p q : Actors t) (y : ActorId) (s : p.State ⊎ q.State) (got : Got) (d : Diary) → mix_quiet p.Quiet q.Quiet y s got d → Shows t y (mix_of p.log q.log s) (mix_of p.kept q.kept s) (mix_of p.told q.told s) d
mixed_shows t p q y (inl s) got d h = p.shows y s got d h
mixed_shows t p q y (inr s) got d h = q.shows y s got d h

pub mixed_shows_after : (t : Terms) (p q : Actors t) (y : ActorId) (s : p.State ⊎ q.State) (ask : Ask) (d : Diary) → After t (mix_quiet p.Quiet q.Quiet y) (mix_done p.Done q.Done y) s ask d → Shows t y (mix_of p.log q.log s) (mix_of p.kept q.kept s) (mix_of p.told q.told s) d
mixed_shows_after t p q y (inl s) ask d h = p.shows_after y s ask d (left_back t p.Quiet q.Quiet p.Done q.Done y s ask d h)
mixed_shows_after t p q y (inr s) ask d h = q.shows_after y s ask d (right_back t p.Quiet q.Quiet p.Done q.Done y s ask d h)

pub mixed_done : (t : Terms) (p q : Actors t) (y : ActorId) (s : p.State ⊎ q.State) (d : Diary) → mix_done p.Done q.Done y s d → DoneShows t y (mix_of p.log q.log s) (mix_of p.kept q.kept s) d
mixed_done t p q y (inl s) d h = p.done_shows y s d h
mixed_done t p q y (inr s) d h = q.done_shows y s d h

pub mixed_lost : (t : Terms) (p q : Actors t) (y : ActorId) (s : p.State ⊎ q.State) (d : Diary) → mix_done p.Lost q.Lost y s d → LostShows t y (mix_of p.log q.log s) d
mixed_lost t p q y (inl s) d h = p.lost_shows y s d h
mixed_lost t p q y (inr s) d h = q.lost_shows y s d h

abbrev pub mix : (t : Terms) → Actors t → Actors t → Actors t
mix t p q =
    record {
      mine = λ y. if p.mine y then true else q.mine y;
      State = p.State ⊎ q.State;
      start = λ y. mix_start (p.mine y) (p.start y) (q.start y);
      log = mix_of p.log q.log;
      kept = mix_of p.kept q.kept;
      told = mix_of p.told q.told;
      has = mix_of p.has q.has;
      Turn = mix_turn p.Turn q.Turn;
      Fails = mix_fails p.Fails q.Fails;
      Quiet = mix_quiet p.Quiet q.Quiet;
      Done = mix_done p.Done q.Done;
      Lost = mix_done p.Lost q.Lost;
      starts = λ y h. mixed_starts t p q y (p.mine y) refl h;
      starts_empty = λ y. mixed_empty t p q y (p.mine y);
      keeps = mixed_keeps t p q;
      fails = mixed_fails t p q;
      may = mixed_may t p q;
      fails_may = mixed_fails_may t p q;
      grows = mixed_grows t p q;
      fails_still = mixed_still t p q;
      shows = mixed_shows t p q;
      shows_after = mixed_shows_after t p q;
      done_shows = mixed_done t p q;
      lost_shows = mixed_lost t p q;
    }
