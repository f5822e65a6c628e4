use Rattle.std.proofs.Common.{◌≡◌, ℕ, ◌+◌, List, [], ◌∷◌, Some, None, Option, Result, Ok, Err, refl, sym, ap, ◌∙◌}
use Rattle.sw_text.specs.Parts.{lines_of}
use Rattle.sw_audit.specs.Grammar.{head_of, line_read, lines_read, lines_trace, numbered, trace_of}
use Rattle.sw_audit.specs.declared.trace.Trace.{Trace}

pub lines_next : (n : ℕ) (d e : Trace) (l : List ℕ) (text ls : List (List ℕ)) (total : Result Trace ℕ) → line_read d l ≡ Some e → text ≡ l ∷ ls → lines_read n (Ok d) text ≡ total → lines_read (n + 1) (Ok e) ls ≡ total
unfolding lines_read
lines_next n d e l text ls total is cut so_far = let one : lines_read (n + 1) (numbered n (line_read d l)) ls ≡ total = rw cut at so_far in rw is at one

pub lines_bad : (n : ℕ) (d : Trace) (l : List ℕ) (text ls : List (List ℕ)) (total : Result Trace ℕ) → line_read d l ≡ None → text ≡ l ∷ ls → lines_read n (Ok d) text ≡ total → Err n ≡ total
unfolding lines_read
lines_bad n d l text ls total is cut so_far = let one : lines_read (n + 1) (numbered n (line_read d l)) ls ≡ total = rw cut at so_far in let two : lines_read (n + 1) (Err n) ls ≡ total = rw is at one in two

pub lines_done : (n : ℕ) (d : Trace) (text : List (List ℕ)) (total : Result Trace ℕ) → text ≡ [] → lines_read n (Ok d) text ≡ total → Ok d ≡ total
unfolding lines_read
lines_done n d text total is so_far = rw is at so_far

pub head_bad : (n : ℕ) (ls : List (List ℕ)) → lines_read n (Err 1) ls ≡ Err 1
unfolding lines_read
head_bad n ls = refl

pub head_out : (l : List ℕ) (ls : List (List ℕ)) (text : List ℕ) → head_of l ≡ None → lines_of text ≡ l ∷ ls → Err 1 ≡ trace_of text
head_out l ls text none cut = sym (ap lines_trace cut ∙ ap (λ (o : Option Trace). lines_read 2 (numbered 1 o) ls) none ∙ head_bad 2 ls)
