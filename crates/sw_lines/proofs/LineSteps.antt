-- One step of the loop over lines.
use Rattle.std.proofs.Common.{◌≡◌, ℕ, ◌+◌, List, [], ◌∷◌, Option, Some, None, Result, Ok, Err}
use Rattle.sw_lines.specs.Lines.{lines_read, numbered}

pub lines_next : {S : Type 0} (f : S → List ℕ → Option S) (n : ℕ) (d e : S) (l : List ℕ) (text ls : List (List ℕ)) (total : Result S ℕ) → f d l ≡ Some e → text ≡ l ∷ ls → lines_read f n (Ok d) text ≡ total → lines_read f (n + 1) (Ok e) ls ≡ total
unfolding lines_read
lines_next {S} f n d e l text ls total is cut so_far = let one : lines_read f (n + 1) (numbered n (f d l)) ls ≡ total = rw cut at so_far in rw is at one

pub lines_bad : {S : Type 0} (f : S → List ℕ → Option S) (n : ℕ) (d : S) (l : List ℕ) (text ls : List (List ℕ)) (total : Result S ℕ) → f d l ≡ None → text ≡ l ∷ ls → lines_read f n (Ok d) text ≡ total → Err n ≡ total
unfolding lines_read
lines_bad {S} f n d l text ls total is cut so_far =
    let one : lines_read f (n + 1) (numbered n (f d l)) ls ≡ total = rw cut at so_far in
    let two : lines_read f (n + 1) (Err n) ls ≡ total = rw is at one in
    two

pub lines_done : {S : Type 0} (f : S → List ℕ → Option S) (n : ℕ) (d : S) (text : List (List ℕ)) (total : Result S ℕ) → text ≡ [] → lines_read f n (Ok d) text ≡ total → Ok d ≡ total
unfolding lines_read
lines_done {S} f n d text total is so_far = rw is at so_far
