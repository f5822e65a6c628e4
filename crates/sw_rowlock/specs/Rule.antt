-- The rule of locks over slots, with one history of calls. It speaks of numbered locks and of a state with a value for each lock and a count; rows and pool come above it.
use Rattle.std.specs.Prelude.{◌≡◌, ◌≢◌, ℕ, suc, ◌+◌, ◌*◌, ◌≤◌, ◌<◌, ◌⊎◌, Bool, List, [], ◌∷◌, ◌++◌, length, slice_index, ◌==◌, MatchBool, Option, Some, None}
use mathlib.Core.Option.{some}
use mathlib.Core.Option as M
use lib.ListN.{get_elem?}
use Rattle.atomic_table.specs.Table.{State, Me}
use Rattle.sw_rowlock.specs.declared.view.View.{View}
use Rattle.sw_rowlock.specs.History.{below, calls, others, owns, Begins, AllBegin, Each, times_drawn, after}

-- the word of a lock: each lies on a cache line of its own
abbrev pub word_at : ℕ → ℕ
word_at i = i * 8

module _ {A : Type 0} where
  -- f of each, added up
  abbrev pub total : (A → ℕ) → List A → ℕ
  total f [] = 0
  total f (v ∷ vs) = f v + total f vs

  abbrev pub In : A → List A → Type 0
  In e [] = ⊥
  In e (x ∷ xs) = (e ≡ x) ⊎ In e xs

module _ {S : Type 0} where
  -- the lock is among those held
  abbrev pub Has : ℕ → List (ℕ × S) → Type 0
  Has i held = (x : S) × In (i, x) held

  -- how a lock that was taken is put among those held
  pub record Places (i : ℕ) (held : List (ℕ × S)) (place : S → List (ℕ × S) → List (ℕ × S)) : Type 0 where
    pub is : (x : S) (j : ℕ) (y : S) → In (j, y) (place x held) → ((j ≡ i) × (y ≡ x)) ⊎ In (j, y) held
    pub has : (x : S) → Has i (place x held)
    pub keeps : (x : S) (j : ℕ) → Has j held → Has j (place x held)

  -- left is held without the lock i
  pub record Without (i : ℕ) (held left : List (ℕ × S)) : Type 0 where
    pub is : (j : ℕ) (y : S) → In (j, y) left → In (j, y) held × (j ≢ i)
    pub keeps : (j : ℕ) → Has j held → j ≢ i → Has j left

module _ {S Q T : Type 0} where
  abbrev pub knows : ℕ → Option T → List (ℕ × Q) → List (ℕ × S) → List (ℕ × ℕ) → List (List Q) → View S Q T
  knows parts start seen held refusals also = record { parts = parts; start = start; seen = seen; held = held; refusals = refusals; also = also }

  -- what a seat that was joined to another leaves
  abbrev pub nobody : View S Q T
  nobody = knows 0 None [] [] [] []

  -- the exchange on this lock's word found another content
  abbrev pub refused : ℕ → ℕ → Me S (View S Q T) → Me S (View S Q T)
  refused lock found m = (knows m.0.parts m.0.start m.0.seen m.0.held ((lock, found) ∷ m.0.refusals) m.0.also, m.1)

  abbrev pub marks : ℕ → View S Q T → ℕ
  marks p v = times_drawn p v.seen

  abbrev pub parts_of : View S Q T → ℕ
  parts_of v = v.parts

  -- a seat with a part holds the lock
  abbrev pub Manned : List (View S Q T) → ℕ → ℕ → Type 0
  Manned views i id = (u : View S Q T) × (get_elem? views id ≡ some u) × (0 < u.parts) × Has i u.held

-- A call changes a state. A state has a value for each lock, and a count. Which calls may have which places, the state tells that the locks started with.
module _ {S Q T : Type 0} (effect : Q → T → T) (cells : T → List S) (count : T → ℕ) (may : T → ℕ → Q → Type 0) where
  -- owner i is 0 where the lock is free, and one more than the number of the seat that holds it
  pub record Fits (log : List Q) (start : T) (owner : ℕ → ℕ) (id : ℕ) (v : View S Q T) : Type 0 where
    pub begins : Begins v.seen log
    pub also : AllBegin v.also log
    pub from : (t : T) → v.start ≡ Some t → t ≡ start
    pub holds : (i : ℕ) (x : S) → In (i, x) v.held → (owner i ≡ suc id) × (get_elem? (cells (after effect start log)) i ≡ some x)
    pub idle : v.parts ≡ 0 → (p : ℕ) → times_drawn p v.seen ≡ 0

  -- a lock that no one holds, over the value that the history leaves there
  pub record Free (words : List ℕ) (homes : List (M.Option S)) (log : List Q) (start : T) (i : ℕ) : Type 0 where
    pub word : slice_index words (word_at i) ≡ 0
    pub value : S
    pub home : get_elem? homes i ≡ some (some value)
    pub fresh : get_elem? (cells (after effect start log)) i ≡ some value

  -- There is one history. Each lock is free or held by one seat, the sequence word has the history's length and count, and each place was drawn once
  pub record Locked (all locks : ℕ) (start : T) (s : State S (View S Q T)) : Type 0 where
    pub log : List Q
    pub allowed : Each (may start) 0 log
    pub owner : ℕ → ℕ
    pub wide : length s.words ≡ suc locks * 8
    pub long : length s.homes ≡ locks
    pub sequence : slice_index s.words (word_at locks) ≡ length log * 2097152 + count (after effect start log)
    pub free : (i : ℕ) → i < locks → owner i ≡ 0 → Free s.words s.homes log start i
    pub taken : (i id : ℕ) → i < locks → owner i ≡ suc id → (slice_index s.words (word_at i) ≡ 1) × Manned s.views i id
    pub fits : (id : ℕ) (v : View S Q T) → get_elem? s.views id ≡ some v → Fits log start owner id v
    pub once : (p : ℕ) → total (marks p) s.views ≡ below p (length log)
    pub whole : total parts_of s.views ≡ all

  -- the lock was free, and what the history so far left there is now with the seat
  pub record TookOne (all i : ℕ) (place : S → List (ℕ × S) → List (ℕ × S)) (start : T) (m n : Me S (View S Q T)) : Type 0 where
    pub value : S
    pub so_far : List Q
    pub allowed : Each (may start) 0 so_far
    pub begins : Begins m.0.seen so_far
    pub also : AllBegin m.0.also so_far
    pub left : get_elem? (cells (after effect start so_far)) i ≡ some value
    pub now : n ≡ (knows m.0.parts m.0.start m.0.seen (place value m.0.held) m.0.refusals m.0.also, (i, value) ∷ m.1)
    pub whole : m.0.parts ≡ all → (calls m.0.seen ≡ so_far) × (m.0.seen ≡ owns (calls m.0.seen))

  abbrev pub TakesBy : (all i : ℕ) → (S → List (ℕ × S) → List (ℕ × S)) → Me S (View S Q T) → Bool → ℕ → Me S (View S Q T) → Type 0
  TakesBy all i place m b r n = (start : T) → m.0.start ≡ Some start
      → MatchBool b (TookOne all i place start m n) ((r ≡ 1) × (n ≡ refused i r m)) × (m.0.parts ≡ all → m.0.held ≡ [] → r ≡ 0)

  -- the exchange took the lock, or found it taken
  abbrev pub Takes : (all i : ℕ) → (S → List (ℕ × S) → List (ℕ × S)) → Me S (View S Q T) → ℕ → Me S (View S Q T) → Type 0
  Takes all i place m r n = TakesBy all i place m (r == 0) r n

  -- the history so far was seen, and the word has its length and its count
  pub record Looked (all : ℕ) (start : T) (m : Me S (View S Q T)) (r : ℕ) (n : Me S (View S Q T)) : Type 0 where
    pub between : List Q
    pub so_far : List Q
    pub allowed : Each (may start) 0 so_far
    pub splits : so_far ≡ calls m.0.seen ++ between
    pub also : AllBegin m.0.also so_far
    pub number : r ≡ length so_far * 2097152 + count (after effect start so_far)
    pub now : n ≡ (knows m.0.parts m.0.start (m.0.seen ++ others between) m.0.held m.0.refusals m.0.also, m.1)
    pub whole : m.0.parts ≡ all → (calls m.0.seen ≡ so_far) × (m.0.seen ≡ owns (calls m.0.seen))

  abbrev pub Looks : ℕ → Me S (View S Q T) → ℕ → Me S (View S Q T) → Type 0
  Looks all m r n = (start : T) → m.0.start ≡ Some start → Looked all start m r n

  -- the call took its place, behind all that the seat had seen, on just what the seat holds
  pub record DrewOne (all : ℕ) (q : Q) (left : List (ℕ × S)) (old : ℕ) (start : T) (m n : Me S (View S Q T)) : Type 0 where
    pub between : List Q
    pub so_far : List Q
    pub allowed : Each (may start) 0 so_far
    pub splits : so_far ≡ calls m.0.seen ++ between
    pub also : AllBegin m.0.also so_far
    pub number : old ≡ length so_far * 2097152 + count (after effect start so_far)
    pub held : (i : ℕ) (x : S) → In (i, x) m.0.held → get_elem? (cells (after effect start so_far)) i ≡ some x
    pub now : n ≡ (knows m.0.parts m.0.start (m.0.seen ++ (others between ++ (1, q) ∷ [])) left m.0.refusals m.0.also, m.1)
    pub once : (p : ℕ) → times_drawn p (m.0.seen ++ (others between ++ (1, q) ∷ [])) ≤ 1
    pub whole : m.0.parts ≡ all → (calls m.0.seen ≡ so_far) × (m.0.seen ≡ owns (calls m.0.seen)) × (between ≡ [])

  abbrev pub DrawsBy : (all locks : ℕ) → Q → List (ℕ × S) → ℕ → Me S (View S Q T) → Bool → ℕ → Me S (View S Q T) → Type 0
  DrawsBy all locks q left old m b r n = (start : T) → m.0.start ≡ Some start → MatchBool b (DrewOne all q left old start m n) (n ≡ refused locks r m)

  -- the exchange drew a place, or found another number
  abbrev pub Draws : (all locks : ℕ) → Q → List (ℕ × S) → ℕ → Me S (View S Q T) → ℕ → Me S (View S Q T) → Type 0
  Draws all locks q left old m r n = DrawsBy all locks q left old m (r == old) r n

module _ {S Q T : Type 0} (effect : Q → T → T) (cells : T → List S) (count : T → ℕ) where
  -- what the call q does to a state t, in which the locks have the values held: they then have those of left, and no other has changed
  pub record Touched (q : Q) (held left : List (ℕ × S)) (t : T) : Type 0 where
    pub else_same : (i : ℕ) → ¬ (Has i held) → get_elem? (cells (effect q t)) i ≡ get_elem? (cells t) i
    pub value : (i : ℕ) (x : S) → In (i, x) left → (get_elem? (cells (effect q t)) i ≡ some x) × Has i held
    pub keeps_all : (i : ℕ) → Has i held → Has i left

  abbrev pub Touches : T → Q → List (ℕ × S) → List (ℕ × S) → ℕ → ℕ → Type 0
  Touches start q held left old new = (qs : List Q) → old ≡ length qs * 2097152 + count (after effect start qs) → ((i : ℕ) (x : S) → In (i, x) held → get_elem? (cells (after effect start qs)) i ≡ some x)
      → Touched q held left (after effect start qs) × (new ≡ suc (length qs) * 2097152 + count (effect q (after effect start qs)))
