-- The acts of a rule, one after the other.
use Rattle.std.proofs.Common.{◌≡◌, ℕ, suc, ◌+◌, ◌-◌, ◌<◌, ◌≤◌, Bool, List, [], ◌∷◌, ◌++◌, Option, Some, None, refl, sym, ap, ◌∙◌, append_assoc, arith}
use Rattle.std.specs.Prelude.{option_map}
use Rattle.sw_text.specs.Then.{◌>>=◌}
use Rattle.sw_script.specs.declared.moves.Move.{Move}
use Rattle.sw_script.specs.Moves.{move_of}
use Rattle.sw_script.specs.Parts.{first_act}
use Rattle.sw_script.specs.Rules.{acts_behind, acts_cut, acts_of}

-- the acts behind others
abbrev pub behind : List Move → Option (List Move) → Option (List Move)
behind ms o = option_map (λ (xs : List Move). ms ++ xs) o

-- one act more in front of the others
behind_more : (ms : List Move) (m : Move) (o : Option (List Move)) → behind ms (acts_behind m o) ≡ behind (ms ++ m ∷ []) o
behind_more ms m None = refl
behind_more ms m (Some xs) = ap Some (sym (append_assoc ms (m ∷ []) xs))

-- the acts of a text with so many to come, at its first one
acts_at : (n i : ℕ) (own : Bool) (text : List ℕ) → i < n → acts_of (n - i) own text ≡ acts_cut (acts_of (n - (i + 1)) own) own (first_act text)
unfolding acts_of
acts_at n i own text lt = let e : n - i ≡ suc (n - (i + 1)) = omega (arith, lt) in rw e refl

-- how reading goes on, by what stands at the first act

left_with : (ms : List Move) (n i : ℕ) (own : Bool) (text : List ℕ) (first : Option (List ℕ × Option (List ℕ))) (total : Option (List Move)) → i < n → first_act text ≡ first
    → behind ms (acts_of (n - i) own text) ≡ total → behind ms (acts_cut (acts_of (n - (i + 1)) own) own first) ≡ total
left_with ms n i own text first total lt is so_far =
    let at : behind ms (acts_of (n - i) own text) ≡ behind ms (acts_cut (acts_of (n - (i + 1)) own) own first) = ap (behind ms) (acts_at n i own text lt ∙ ap (acts_cut (acts_of (n - (i + 1)) own) own) is) in
    sym at ∙ so_far

-- no first act
pub acts_none : (ms : List Move) (n i : ℕ) (own : Bool) (text : List ℕ) (total : Option (List Move)) → i < n → first_act text ≡ None → behind ms (acts_of (n - i) own text) ≡ total → None ≡ total
acts_none ms n i own text total lt is so_far = left_with ms n i own text None total lt is so_far

bad_by : (ms : List Move) (n : ℕ) (own : Bool) (act : List ℕ) (after : Option (List ℕ)) (total : Option (List Move)) → move_of own act ≡ None → behind ms (acts_cut (acts_of n own) own (Some (act, after))) ≡ total → None ≡ total
bad_by ms n own act None total is so_far = rw is at so_far
bad_by ms n own act (Some rest) total is so_far = rw is at so_far

-- a first text that is no act
pub acts_bad : (ms : List Move) (n i : ℕ) (own : Bool) (text act : List ℕ) (after : Option (List ℕ)) (total : Option (List Move)) → i < n → first_act text ≡ Some (act, after) → move_of own act ≡ None
    → behind ms (acts_of (n - i) own text) ≡ total → None ≡ total
acts_bad ms n i own text act after total lt is bad so_far = bad_by ms (n - (i + 1)) own act after total bad (left_with ms n i own text (Some (act, after)) total lt is so_far)

-- the last act
pub acts_last : (ms : List Move) (n i : ℕ) (own : Bool) (text act : List ℕ) (m : Move) (total : Option (List Move)) → i < n → first_act text ≡ Some (act, None) → move_of own act ≡ Some m
    → behind ms (acts_of (n - i) own text) ≡ total → Some (ms ++ m ∷ []) ≡ total
acts_last ms n i own text act m total lt is made so_far =
    let left : behind ms (option_map (λ one. one ∷ []) (move_of own act)) ≡ total = left_with ms n i own text (Some (act, None)) total lt is so_far in
    rw made at left

-- an act with others behind it
pub acts_next : (ms : List Move) (n i : ℕ) (own : Bool) (text act rest : List ℕ) (m : Move) (total : Option (List Move)) → i < n → first_act text ≡ Some (act, Some rest) → move_of own act ≡ Some m
    → behind ms (acts_of (n - i) own text) ≡ total → behind (ms ++ m ∷ []) (acts_of (n - (i + 1)) own rest) ≡ total
acts_next ms n i own text act rest m total lt is made so_far =
    let left : behind ms (move_of own act >>= (λ one. acts_behind one (acts_of (n - (i + 1)) own rest))) ≡ total = left_with ms n i own text (Some (act, Some rest)) total lt is so_far in
    let one : behind ms (acts_behind m (acts_of (n - (i + 1)) own rest)) ≡ total = rw made at left in
    sym (behind_more ms m (acts_of (n - (i + 1)) own rest)) ∙ one

-- too many acts
pub acts_out : (ms : List Move) (n i : ℕ) (own : Bool) (text : List ℕ) (total : Option (List Move)) → n ≤ i → behind ms (acts_of (n - i) own text) ≡ total → None ≡ total
unfolding acts_of
acts_out ms n i own text total le so_far = let none : n - i ≡ 0 = omega (arith, le) in rw none at so_far

-- before the first act
pub acts_first : (o : Option (List Move)) → behind [] o ≡ o
acts_first None = refl
acts_first (Some xs) = refl
