-- The rule of a pipe's queue: of each sender, what was taken and then what the queue holds is what it pushed.
use Rattle.std.specs.Prelude.{◌≡◌, ℕ, ◌+◌, ◌≤◌, ◌<◌, ◌⊎◌, Bool, true, false, List, [], ◌∷◌, ◌++◌, length, All}
use mathlib.Core.Option.{Option, some, none}
use lib.ListN.{get_elem?}
use Rattle.sw_pipe.specs.declared.mail.Mail.{Mail}
use Rattle.sw_pipe.specs.declared.rule.View.{View}
use Rattle.sw_pipe.specs.Mails.{of, mails, Behind}

abbrev pub one_if : Bool → ℕ
one_if true = 1
one_if false = 0

module _ {M : Type 0} where
  -- a pass that is spent
  abbrev pub nobody : View M
  nobody = record { takes = false; sends = false; ends = false; from = 0; learnt = 0; put = []; upto = 0; got = []; made = 0; out = 0; known = []; due = []; rest = [] }

  -- the taker's pass
  abbrev pub taker : List (ℕ × Mail M) → ℕ → ℕ → List (ℕ × List (ℕ × M)) → List (ℕ × ℕ) → View M
  taker got made out known due = record { takes = true; sends = false; ends = false; from = 0; learnt = 0; put = []; upto = 0; got = got; made = made; out = out; known = known; due = due; rest = [] }

  -- the first pass of a pipe
  abbrev pub newcomer : View M
  newcomer = taker [] 0 0 [] []

  -- a sender's pass
  abbrev pub sender : ℕ → ℕ → List (ℕ × M) → View M
  sender from learnt put = record { takes = false; sends = true; ends = false; from = from; learnt = learnt; put = put; upto = 0; got = []; made = 0; out = 0; known = []; due = []; rest = [] }

  -- a note: so many were taken
  abbrev pub note : ℕ → View M
  note learnt = record { takes = false; sends = false; ends = false; from = 0; learnt = learnt; put = []; upto = 0; got = []; made = 0; out = 0; known = []; due = []; rest = [] }

  -- a count: that sender pushed so many
  abbrev pub count : ℕ → ℕ → View M
  count from upto = record { takes = false; sends = false; ends = false; from = from; learnt = 0; put = []; upto = upto; got = []; made = 0; out = 0; known = []; due = []; rest = [] }

  -- the taker's pass once no sender is left: it knows the mark of the last message that it took, and what the queue holds
  abbrev pub shutter : ℕ → List (ℕ × Mail M) → View M
  shutter learnt rest = record { takes = false; sends = false; ends = true; from = 0; learnt = learnt; put = []; upto = 0; got = []; made = 0; out = 0; known = []; due = []; rest = rest }

  -- how many passes may send
  abbrev pub senders_in : List (View M) → ℕ
  senders_in [] = 0
  senders_in (v ∷ vs) = one_if v.sends + senders_in vs

  -- it is one of these
  abbrev pub In : ℕ × List (ℕ × M) → List (ℕ × List (ℕ × M)) → Type 0
  In e [] = ⊥
  In e (x ∷ xs) = (e ≡ x) ⊎ In e xs

  -- a sender with this number was taken in
  abbrev pub Listed : ℕ → List (ℕ × List (ℕ × M)) → Type 0
  Listed p known = (ms : List (ℕ × M)) × In (p, ms) known

  -- a pass sends under this number
  abbrev pub Manned : ℕ → List (View M) → Type 0
  Manned p views = (j : ℕ) × (u : View M) × (get_elem? views j ≡ some u) × (u.sends ≡ true) × (u.from ≡ p)

  -- a sender's pass knows what was pushed under its number, and no other pass has that number
  abbrev pub FitsSender : (ℕ → Option ℕ) → (ℕ → List (ℕ × M)) → ℕ → View M → Type 0
  FitsSender seat sent pass v = v.sends ≡ true → (seat v.from ≡ some pass) × (v.put ≡ sent v.from)

  -- the one taker knows what it took, which numbers are free, what each sender pushed that it took in, how many it has not, and what it was told of is pushed
  pub record Taking (made : ℕ) (known : List (ℕ × List (ℕ × M))) (reader : ℕ) (seat : ℕ → Option ℕ) (sent : ℕ → List (ℕ × M)) (got : List (ℕ × Mail M)) (out pass : ℕ) (v : View M) : Type 0 where
    pub only : pass ≡ reader
    pub got_is : v.got ≡ got
    pub made_is : v.made ≡ made
    pub known_is : v.known ≡ known
    pub out_is : v.out ≡ out
    pub free : (p : ℕ) → v.made ≤ p → (seat p ≡ none) × (sent p ≡ [])
    pub ended : (e : ℕ × List (ℕ × M)) → In e v.known → (e.0 < v.made) × (seat e.0 ≡ none) × (e.1 ≡ sent e.0)
    pub pushed : All (λ d. d.1 ≤ length (sent d.0)) v.due

  -- once no sender is left the taker knows what the queue holds
  abbrev pub FitsEnd : ℕ → List (ℕ × Mail M) → ℕ → ℕ → View M → Type 0
  FitsEnd reader waiting out pass v = v.ends ≡ true → (pass ≡ reader) × (out ≡ 0) × (v.rest ≡ waiting)

  -- what a pass knows is so: as a sender, as the taker, after the close, of what was taken, and of what a sender pushed
  pub record Fits (made : ℕ) (known : List (ℕ × List (ℕ × M))) (reader : ℕ) (seat : ℕ → Option ℕ) (sent : ℕ → List (ℕ × M)) (got waiting : List (ℕ × Mail M)) (out pass : ℕ) (v : View M) : Type 0 where
    pub as_sender : FitsSender seat sent pass v
    pub as_taker : v.takes ≡ true → Taking made known reader seat sent got out pass v
    pub as_end : FitsEnd reader waiting out pass v
    pub taken : v.learnt ≤ length got
    pub counted : v.upto ≤ length (sent v.from)

  -- What was taken of a sender, and then what the queue holds of it, is what it pushed. What it pushed after it learnt a note stands behind what was taken by then
  pub record Delivers (items : List (Mail M)) (views : List (View M)) : Type 0 where
    pub made : ℕ
    pub known : List (ℕ × List (ℕ × M))
    pub reader : ℕ
    pub seat : ℕ → Option ℕ
    pub sent : ℕ → List (ℕ × M)
    pub got : List (ℕ × Mail M)
    pub waiting : List (ℕ × Mail M)
    pub waits : mails waiting ≡ items
    pub ordered : (p : ℕ) → of p (got ++ waiting) ≡ sent p
    pub behind : Behind (got ++ waiting)
    pub fits : (pass : ℕ) (v : View M) → get_elem? views pass ≡ some v → Fits made known reader seat sent got waiting (senders_in views) pass v
    pub manned : (p : ℕ) → p < made → Listed p known ⊎ Manned p views

  -- with these messages, what each sender pushed that was taken in is what was taken of it and then what is in them, of no other sender there is any, each stands behind what its sender had learnt, and once no sender is out each number was taken in
  pub record Adds (v : View M) (left : List (ℕ × Mail M)) : Type 0 where
    pub each : (e : ℕ × List (ℕ × M)) → In e v.known → e.1 ≡ of e.0 v.got ++ of e.0 left
    pub none_else : (p : ℕ) → v.made ≤ p → of p (v.got ++ left) ≡ []
    pub behind : Behind (v.got ++ left)
    pub covers : v.out ≡ 0 → (p : ℕ) → p < v.made → Listed p v.known

  -- so with some numbers before these messages
  abbrev pub AddsMarked : View M → List (Mail M) → Type 0
  AddsMarked v items = (left : List (ℕ × Mail M)) × (mails left ≡ items) × Adds v left

  -- the taker takes x, which stands behind as many as its sender had learnt
  abbrev pub TakesOne : View M → Mail M → View M → Type 0
  TakesOne v x w = (learnt : ℕ) × (learnt ≤ length v.got) × (w ≡ taker (v.got ++ (learnt, x) ∷ []) v.made v.out v.known v.due)

  -- x is the first that is left, and the pass knows the rest from then on
  abbrev pub Shut : View M → Mail M → View M → Type 0
  Shut v x w = Adds v ((w.learnt, x) ∷ w.rest) × (w ≡ shutter w.learnt w.rest)

  -- x is the next that is left
  abbrev pub TakesNext : View M → Mail M → View M → Type 0
  TakesNext v x w = (v.rest ≡ (w.learnt, x) ∷ w.rest) × (w ≡ shutter w.learnt w.rest)
