-- What a cutter keeps, through a feed and an answer.
use Rattle.std.proofs.Common.{◌≡◌, ◌≢◌, ℕ, zero, suc, ◌+◌, ◌<◌, List, [], ◌∷◌, ◌++◌, length, take, drop, slice_get, Option, Some, None, refl, sym, ap, ◌∙◌, subst, arith, length-append, append-nil, is_some, if◌then◌else◌, Result, Ok, Err, OnOk, OnErr, ◌⊎◌, inl, inr}
use Rattle.std.specs.List.{concat}
use Rattle.std.proofs.lemmas.List.{length-take-le, drop-append-le}
use Rattle.std.proofs.lemmas.List.Folds.{concat-append}
use Rattle.sw_cut.specs.declared.First.{First}
use Rattle.sw_cut.specs.declared.First.TheVariants as firsts
use Rattle.sw_cut.specs.Cut.{IsSteady, HasGiven, Parts, parts_of, fault_of}
use Rattle.sw_cut.proofs.Cuts.{parts_of-given, parts_of-packet, parts_of-none, HasGiven-later, HasGiven-more}
use Rattle.sw_frame_eof.specs.Scan.{unscanned}
use Rattle.sw_frame_len.specs.Read.{unread}
use Rattle.sw_frame.specs.declared.framing.Framing.{Framing}
use Rattle.sw_frame.specs.declared.kept.Kept.{Kept}
use Rattle.sw_frame.specs.declared.next.Next.{Next}
use Rattle.sw_frame.specs.declared.next.Next.TheVariants.{Packet, More, TooLong, BadLength, OutOfMemory}
use Rattle.sw_frame.specs.Cut.{filled, cut_by}
use Rattle.sw_frame.specs.Cutting.{Cutting, next_rest, next_by, after, IsAnswer}
use Rattle.sw_frame.specs.Kept.{seen, HasPieces, IsRest, HasRest, IsThere, Pushed, next_first, cut_off, due_by, due_piece}

-- an element behind others, and the first of those that follow
pub slice_get-append : {X : Type 0} (xs ys : List X) → slice_get (xs ++ ys) (length xs) ≡ slice_get ys 0
slice_get-append [] ys = refl
slice_get-append (x ∷ xs) ys = slice_get-append xs ys

-- the next answer, by what comes first behind the packets that were given
next_by_first : (cut_here : Parts) (first : List ℕ → First) → IsSteady first → (ahead : List ℕ) (x : First) → first ahead ≡ x → parts_of first ahead ≡ cut_here → next_by (fault_of (first cut_here.rest)) (slice_get cut_here.packets 0) ≡ next_first ahead x
next_by_first here first ok ahead (firsts.Packet n) is parts = rw (← parts, parts_of-packet first ok ahead n is) refl
next_by_first here first ok ahead firsts.More is parts = rw (← parts, parts_of-none first ok ahead (λ n h. cc), is) refl
next_by_first here first ok ahead (firsts.TooLong m) is parts = rw (← parts, parts_of-none first ok ahead (λ n h. cc), is) refl
next_by_first here first ok ahead (firsts.BadLength m) is parts = rw (← parts, parts_of-none first ok ahead (λ n h. cc), is) refl

pub next_by-given : (first : List ℕ → First) → IsSteady first → (bytes rest : List ℕ) (given : ℕ) → HasGiven first bytes rest given → next_by (cut_by first bytes).fault (slice_get (cut_by first bytes).packets given) ≡ next_first rest (first rest)
next_by-given first ok bytes rest given has =
    let ahead : Parts = parts_of first rest in
    let parts = parts_of-given first ok bytes rest given has in
    let here : slice_get (parts_of first bytes).packets given ≡ slice_get ahead.packets 0 = rw (parts, ← has.count) (slice_get-append has.packets ahead.packets) in
    let behind : (parts_of first bytes).rest ≡ ahead.rest = rw parts refl in
    rw (here, behind) (next_by_first ahead first ok rest (first rest) refl refl)

-- the pieces that aren't empty, of pieces behind pieces
pub filled-append : (ps qs : List (List ℕ)) → filled (ps ++ qs) ≡ filled ps ++ filled qs
filled-append [] qs = refl
filled-append ([] ∷ ps) qs = filled-append ps qs
filled-append ((b ∷ bs) ∷ ps) qs = ap (λ rs. (b ∷ bs) ∷ rs) (filled-append ps qs)

pub filled-some : (p : List ℕ) (ps : List (List ℕ)) → 0 < length p → filled (p ∷ ps) ≡ p ∷ filled ps
filled-some [] ps some = absurd (omega arith)
filled-some (b ∷ bs) ps some = refl

pub filled-empty : (p : List ℕ) (ps : List (List ℕ)) → length p ≡ 0 → filled (p ∷ ps) ≡ filled ps
filled-empty [] ps none = refl
filled-empty (b ∷ bs) ps none = absurd (omega arith)

-- a packet that comes first is there
pub IsThere-steady : (first : List ℕ → First) → IsSteady first → (bytes : List ℕ) (x : First) → first bytes ≡ x → IsThere bytes x
IsThere-steady first ok bytes (firsts.Packet n) is = ok.within bytes n is
IsThere-steady first ok bytes firsts.More is = tt
IsThere-steady first ok bytes (firsts.TooLong m) is = tt
IsThere-steady first ok bytes (firsts.BadLength m) is = tt

-- a packet that was answered is what came first
packet_is : (bytes p : List ℕ) (x : First) → IsThere bytes x → Packet p ≡ next_first bytes x → x ≡ firsts.Packet (length p)
packet_is bytes p (firsts.Packet n) there is =
    let same : p ≡ take n bytes = cc in
    ap firsts.Packet (sym (ap length same ∙ length-take-le n bytes there.1))
packet_is bytes p firsts.More there is = cc
packet_is bytes p (firsts.TooLong m) there is = cc
packet_is bytes p (firsts.BadLength m) there is = cc

-- a fault that was answered is what comes first
fault_is : (bytes : List ℕ) (x fault : First) → fault_of x ≡ Some fault → next_first bytes x ≡ next_rest (Some fault)
fault_is bytes (firsts.Packet n) fault is = cc
fault_is bytes firsts.More fault is = cc
fault_is bytes (firsts.TooLong m) fault is = let same : firsts.TooLong m ≡ fault = cc in rw (← same) refl
fault_is bytes (firsts.BadLength m) fault is = let same : firsts.BadLength m ≡ fault = cc in rw (← same) refl

too_long_is : (bytes : List ℕ) (n : ℕ) (x : First) → TooLong n ≡ next_first bytes x → fault_of x ≡ Some (firsts.TooLong n)
too_long_is bytes n (firsts.Packet k) is = cc
too_long_is bytes n firsts.More is = cc
too_long_is bytes n (firsts.TooLong m) is = let same : n ≡ m = cc in ap (λ k. Some (firsts.TooLong k)) (sym same)
too_long_is bytes n (firsts.BadLength m) is = cc

bad_length_is : (bytes : List ℕ) (n : ℕ) (x : First) → BadLength n ≡ next_first bytes x → fault_of x ≡ Some (firsts.BadLength n)
bad_length_is bytes n (firsts.Packet k) is = cc
bad_length_is bytes n firsts.More is = cc
bad_length_is bytes n (firsts.TooLong m) is = cc
bad_length_is bytes n (firsts.BadLength m) is = let same : n ≡ m = cc in ap (λ k. Some (firsts.BadLength k)) (sym same)

-- a search that has not begun is right for any rest
abbrev pub IsFresh : (Kept → List ℕ → Type 0) → Type 0
IsFresh searched = (kept : Kept) (rest : List ℕ) → kept.marks ≡ unscanned → kept.field ≡ unread → searched kept rest

-- and one that has begun stays right for more bytes
abbrev pub IsLasting : (Kept → List ℕ → Type 0) → Type 0
IsLasting searched = (old new : Kept) (rest later : List ℕ) → new.marks ≡ old.marks → new.field ≡ old.field → searched old rest → searched new (rest ++ later)

-- what is known of the rest, by the fault that was answered
open_rest : (first : List ℕ → First) (searched : Kept → List ℕ → Type 0) (kept : Kept) (rest : List ℕ) → kept.fault ≡ None → (kept.rest ≡ rest) × searched kept rest → IsRest first searched kept rest kept.fault
open_rest first searched kept rest none is = subst (λ (fault : Option First). IsRest first searched kept rest fault) (sym none) is

known_rest : (first : List ℕ → First) (searched : Kept → List ℕ → Type 0) (kept : Kept) (rest : List ℕ) (fault : Option First) → kept.fault ≡ fault → IsRest first searched kept rest kept.fault → IsRest first searched kept rest fault
known_rest first searched kept rest fault is = subst (λ (fault : Option First). IsRest first searched kept rest fault) is

-- through an answer what is kept stays right
pub HasRest-cut_off : (first : List ℕ → First) → IsSteady first → (searched : Kept → List ℕ → Type 0) → IsFresh searched → (kept : Kept) (answer : Next) → kept.fault ≡ None → HasGiven first (concat kept.fed.pieces) kept.rest kept.given → searched kept kept.rest → IsAnswer (next_first kept.rest (first kept.rest)) answer → HasRest first searched (cut_off kept answer)
HasRest-cut_off first ok searched fresh kept (Packet p) none given was is =
    let first_is : first kept.rest ≡ firsts.Packet (length p) = packet_is kept.rest p _ (IsThere-steady first ok kept.rest _ refl) is in
    record { rest = drop (length p) kept.rest; given = HasGiven-more first ok _ kept.rest kept.given (length p) given first_is; is = open_rest first searched (cut_off kept (Packet p)) _ none (refl, fresh _ _ refl refl) }
HasRest-cut_off first ok searched fresh kept More none given was is = record { rest = kept.rest; given = given; is = open_rest first searched kept kept.rest none (refl, was) }
HasRest-cut_off first ok searched fresh kept (TooLong n) none given was is = record { rest = kept.rest; given = given; is = (refl, too_long_is kept.rest n _ is) }
HasRest-cut_off first ok searched fresh kept (BadLength n) none given was is = record { rest = kept.rest; given = given; is = (refl, bad_length_is kept.rest n _ is) }
HasRest-cut_off first ok searched fresh kept OutOfMemory none given was is = record { rest = kept.rest; given = given; is = open_rest first searched kept kept.rest none (refl, was) }

concat-last : (ps : List (List ℕ)) (p : List ℕ) → concat (ps ++ p ∷ []) ≡ concat ps ++ p
concat-last ps p = concat-append ps (p ∷ []) ∙ ap (λ xs. concat ps ++ xs) (append-nil p)

fault_known : (x fault : First) → fault_of x ≡ Some fault → x ≢ firsts.More
fault_known x fault is more = let none : fault_of x ≡ None = ap fault_of more in let wrong : Some fault ≡ None = sym is ∙ none in cc

rest_pushed : (first : List ℕ → First) → IsSteady first → (searched : Kept → List ℕ → Type 0) → IsLasting searched → (old new : Kept) (piece rest : List ℕ) (fault : Option First) → new.marks ≡ old.marks → new.field ≡ old.field → new.rest ≡ (if is_some fault then old.rest else old.rest ++ piece) → IsRest first searched old rest fault → IsRest first searched new (rest ++ piece) fault
rest_pushed first ok searched lasting old new piece rest None marks field is was =
    (is ∙ ap (λ xs. xs ++ piece) was.0, lasting old new rest piece marks field was.1)
rest_pushed first ok searched lasting old new piece rest (Some fault) marks field is was =
    (is ∙ was.0, ap fault_of (ok.steady rest piece (fault_known (first rest) fault was.1)) ∙ was.1)

pub HasRest-pushed : (first : List ℕ → First) → IsSteady first → (searched : Kept → List ℕ → Type 0) → IsLasting searched → (old new : Kept) (piece : List ℕ) → Pushed old new piece → HasRest first searched old → HasRest first searched new
HasRest-pushed first ok searched lasting old new piece pushed has =
    let marks : new.marks ≡ old.marks = ap (λ (k : Kept). k.marks) pushed.same in
    let field : new.field ≡ old.field = ap (λ (k : Kept). k.field) pushed.same in
    let fault : new.fault ≡ old.fault = ap (λ (k : Kept). k.fault) pushed.same in
    let given : new.given ≡ old.given = ap (λ (k : Kept). k.given) pushed.same in
    record {
      rest = has.rest ++ piece;
      given = rw (pushed.fed, given, concat-last old.fed.pieces piece) (HasGiven-later first ok (concat old.fed.pieces) has.rest piece old.given has.given);
      is = subst (λ (fault : Option First). IsRest first searched new (has.rest ++ piece) fault) (sym fault) (rest_pushed first ok searched lasting old new piece has.rest old.fault marks field pushed.rest has.is);
    }

-- what is due, without a fault that was answered and with one
pub due_open : (first : List ℕ → First) → IsSteady first → (searched : Kept → List ℕ → Type 0) (kept : Kept) → HasRest first searched kept → kept.fault ≡ None → HasGiven first (concat kept.fed.pieces) kept.rest kept.given × searched kept kept.rest × (due_by first kept ≡ next_first kept.rest (first kept.rest))
due_open first ok searched kept has none =
    let is : (kept.rest ≡ has.rest) × searched kept has.rest = known_rest first searched kept has.rest None none has.is in
    let given : HasGiven first (concat kept.fed.pieces) kept.rest kept.given = subst (λ (xs : List ℕ). HasGiven first (concat kept.fed.pieces) xs kept.given) (sym is.0) has.given in
    (given, subst (λ (xs : List ℕ). searched kept xs) (sym is.0) is.1, next_by-given first ok (concat kept.fed.pieces) kept.rest kept.given given)

pub due_closed : (first : List ℕ → First) → IsSteady first → (searched : Kept → List ℕ → Type 0) (kept : Kept) (fault : First) → HasRest first searched kept → kept.fault ≡ Some fault → due_by first kept ≡ next_rest (Some fault)
due_closed first ok searched kept fault has some =
    let is = known_rest first searched kept has.rest (Some fault) some has.is in
    next_by-given first ok (concat kept.fed.pieces) has.rest kept.given has.given ∙ fault_is has.rest (first has.rest) fault is.1

-- the answer at a fault changes nothing
pub told_is : (due : Next) (fault : First) → due ≡ next_rest (Some fault) → IsAnswer due (next_rest (Some fault))
told_is due (firsts.Packet n) is = sym is
told_is due firsts.More is = sym is
told_is due (firsts.TooLong n) is = sym is
told_is due (firsts.BadLength n) is = sym is

pub told_given : (kept : Kept) (fault : First) → (cut_off kept (next_rest (Some fault))).given ≡ kept.given
told_given kept (firsts.Packet n) = refl
told_given kept firsts.More = refl
told_given kept (firsts.TooLong n) = refl
told_given kept (firsts.BadLength n) = refl

-- what an answer leaves as it is
pub cut_off-fed : (kept : Kept) (answer : Next) → (cut_off kept answer).fed ≡ kept.fed
cut_off-fed kept (Packet p) = refl
cut_off-fed kept More = refl
cut_off-fed kept (TooLong n) = refl
cut_off-fed kept (BadLength n) = refl
cut_off-fed kept OutOfMemory = refl

pub cut_off-given : (one two : Kept) (answer : Next) → one.given ≡ two.given → (cut_off one answer).given ≡ (cut_off two answer).given
cut_off-given one two (Packet p) same = ap (λ n. n + 1) same
cut_off-given one two More same = same
cut_off-given one two (TooLong n) same = same
cut_off-given one two (BadLength n) same = same
cut_off-given one two OutOfMemory same = same

-- what contracts see of an answer
seen_after : (framing : Framing) (kept : Kept) (answer : Next) → (let c : Cutting = record { framing = framing; pieces = kept.fed.pieces; given = (cut_off kept answer).given } in c) ≡ after (seen framing kept) answer
seen_after framing kept (Packet p) = refl
seen_after framing kept More = refl
seen_after framing kept (TooLong n) = refl
seen_after framing kept (BadLength n) = refl
seen_after framing kept OutOfMemory = refl

pub after-given : (framing : Framing) (old new : Kept) (answer : Next) → new.fed ≡ old.fed → new.given ≡ (cut_off old answer).given → seen framing new ≡ after (seen framing old) answer
after-given framing old new answer fed given =
    let pieces : new.fed.pieces ≡ old.fed.pieces = ap (λ (k : Kept). k.fed.pieces) (ap (λ f. let k : Kept = record old { fed = f } in k) fed) in
    rw (pieces, given) (seen_after framing old answer)

-- pieces that are packets: one more, and the next one
pub HasPieces-pushed : (old new : Kept) (piece : List ℕ) → HasPieces old → 0 < length piece → new.fed.pieces ≡ old.fed.pieces ++ piece ∷ [] → new.given ≡ old.given → new.pieces.items ≡ old.pieces.items ++ piece ∷ [] → new.rest ≡ old.rest → HasPieces new
HasPieces-pushed old new piece has some fed given items rest =
    let all : filled new.fed.pieces ≡ filled old.fed.pieces ++ piece ∷ [] = ap filled fed ∙ filled-append old.fed.pieces (piece ∷ []) ∙ ap (λ (ps : List (List ℕ)). filled old.fed.pieces ++ ps) (filled-some piece [] some) in
    record {
      ahead = items ∙ ap (λ ps. ps ++ piece ∷ []) has.ahead ∙ sym (drop-append-le old.given (filled old.fed.pieces) (piece ∷ []) has.within) ∙ rw (all, given) refl;
      within = rw (all, given, length-append) (omega (arith, has.within));
      bare = rest ∙ has.bare;
    }

pub HasPieces-empty : (old new : Kept) (piece : List ℕ) → HasPieces old → length piece ≡ 0 → new.fed.pieces ≡ old.fed.pieces ++ piece ∷ [] → new.given ≡ old.given → new.pieces.items ≡ old.pieces.items → new.rest ≡ old.rest → HasPieces new
HasPieces-empty old new piece has none fed given items rest =
    let all : filled new.fed.pieces ≡ filled old.fed.pieces = ap filled fed ∙ filled-append old.fed.pieces (piece ∷ []) ∙ ap (λ (ps : List (List ℕ)). filled old.fed.pieces ++ ps) (filled-empty piece [] none) ∙ append-nil (filled old.fed.pieces) in
    record { ahead = items ∙ has.ahead ∙ rw (all, given) refl; within = rw (all, given) has.within; bare = rest ∙ has.bare }

slice_get-drop : {X : Type 0} (xs : List X) (n : ℕ) → slice_get xs n ≡ slice_get (drop n xs) 0
slice_get-drop xs zero = refl
slice_get-drop [] (suc n) = refl
slice_get-drop (x ∷ xs) (suc n) = slice_get-drop xs n

pub due_piece-next : (kept : Kept) (p : List ℕ) (later : List (List ℕ)) → HasPieces kept → kept.pieces.items ≡ p ∷ later → due_piece kept ≡ Packet p
due_piece-next kept p later has items =
    ap (next_by None) (slice_get-drop (filled kept.fed.pieces) kept.given ∙ ap (λ (ps : List (List ℕ)). slice_get ps 0) (sym has.ahead ∙ items))

pub due_piece-end : (kept : Kept) → HasPieces kept → kept.pieces.items ≡ [] → due_piece kept ≡ More
due_piece-end kept has items =
    ap (next_by None) (slice_get-drop (filled kept.fed.pieces) kept.given ∙ ap (λ (ps : List (List ℕ)). slice_get ps 0) (sym has.ahead ∙ items))

pub due_piece-some : (kept : Kept) → HasPieces kept → (items : List (List ℕ)) → kept.pieces.items ≡ items → 0 < length items → (p : List ℕ) × (due_piece kept ≡ Packet p)
due_piece-some kept has [] items some = absurd (omega arith)
due_piece-some kept has (p ∷ later) items some = (p, due_piece-next kept p later has items)

pub none_left : (items : List (List ℕ)) → length items ≡ 0 → items ≡ []
none_left [] none = refl
none_left (p ∷ ps) none = absurd (omega arith)

-- one of two facts holds, by the result
pub ok_or_err : {T E P Q : Type 0} (r : Result T E) → OnOk r P → OnErr r Q → P ⊎ Q
ok_or_err (Ok x) ok err = inl ok
ok_or_err (Err e) ok err = inr err
