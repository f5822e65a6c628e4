-- The laws of a cut, and of what a cutter gives.
use Rattle.std.proofs.Common.{◌≡◌, ◌≢◌, ℕ, ◌+◌, ◌<◌, ◌≤◌, List, [], ◌∷◌, ◌++◌, length, take, drop, get_or, slice_get, Option, Some, None, refl, sym, ap, ◌∙◌, subst, arith, length-append, take-append-drop, append-nil}
use Rattle.std.specs.List.{concat}
use Rattle.std.proofs.lemmas.List.{take-append-le, take_more}
use Rattle.std.proofs.lemmas.List.Folds.{concat-append}
use Rattle.std.proofs.Math.Seq.{drop-append_seam}
use Rattle.std.proofs.lemmas.Option.{slice_get_within, get_or_from_slice_get}
use Rattle.sw_cut.specs.declared.First.{First}
use Rattle.sw_cut.specs.declared.First.TheVariants as firsts
use Rattle.sw_cut.specs.Cut.{IsSteady, HasGiven, Parts, parts_of, fault_of}
use Rattle.sw_cut.proofs.Cuts.{IsCut-parts_of, parts_of-unique, parts_of-append, parts_of-none, parts_of-given}
use Rattle.sw_frame_eof.specs.Mark as marks
use Rattle.sw_frame_len.specs.Length as lengths
use Rattle.sw_frame_eof.proofs.Marks as mark_laws
use Rattle.sw_frame_len.proofs.Lengths as length_laws
use Rattle.sw_frame.specs.declared.framing.Framing.{Framing}
use Rattle.sw_frame.specs.declared.framing.Framing.TheVariants.{Raw, Eof, Length}
use Rattle.sw_frame.specs.declared.kept.Kept.{Kept}
use Rattle.sw_frame.specs.declared.next.Next.{Next}
use Rattle.sw_frame.specs.declared.next.Next.TheVariants.{Packet, More, TooLong, BadLength, OutOfMemory}
use Rattle.sw_frame.specs.Cut.{Cut, IsFit, filled, IsCutBy, IsCutOf, cut_by, cut}
use Rattle.sw_frame.specs.Cutting.{Cutting, cut_of, ahead, next_by, next_of, after, IsAnswer}
use Rattle.sw_frame.specs.Calls.{JoinsPieces, Extends, start, feed, to_come, Call, Feed, Answer, fed_in, given_in, IsAfter, IsFault}
use Rattle.sw_frame.specs.Kept.{seen, IsRest, IsKept, by_mark, by_field}
use Rattle.sw_frame.proofs.Keeping.{filled-append}

-- the cut is what the words say
IsCutBy-cut_by : (first : List ℕ → First) → IsSteady first → (pieces : List (List ℕ)) → IsCutBy first pieces (cut_by first (concat pieces))
IsCutBy-cut_by first ok pieces = record { parts = IsCut-parts_of first ok (concat pieces); fault = refl }

pub IsCutOf-cut : (framing : Framing) → IsFit framing → (pieces : List (List ℕ)) → IsCutOf framing pieces (cut framing pieces)
unfolding cut
IsCutOf-cut Raw fit pieces = record { packets = refl; rest = refl; fault = refl }
IsCutOf-cut (Eof mark max) fit pieces = IsCutBy-cut_by (marks.first_in mark max) (mark_laws.IsSteady-first_in mark max fit.0) pieces
IsCutOf-cut (Length rule) fit pieces = IsCutBy-cut_by (lengths.first_in rule) (length_laws.IsSteady-first_in rule) pieces

-- and nothing else is
same_cut : (c d : Cut) → c.packets ≡ d.packets → c.rest ≡ d.rest → c.fault ≡ d.fault → c ≡ d
same_cut c d packets rest fault =
    ap (λ (ps : List (List ℕ)). let made : Cut = record { packets = ps; rest = c.rest; fault = c.fault } in made) packets
    ∙ ap (λ (r : List ℕ). let made : Cut = record { packets = d.packets; rest = r; fault = c.fault } in made) rest
    ∙ ap (λ (f : Option First). let made : Cut = record { packets = d.packets; rest = d.rest; fault = f } in made) fault

cut_by-only : (first : List ℕ → First) → IsSteady first → (pieces : List (List ℕ)) (c : Cut) → IsCutBy first pieces c → c ≡ cut_by first (concat pieces)
cut_by-only first ok pieces c is =
    let parts = parts_of-unique first ok (concat pieces) c.packets c.rest is.parts in
    let packets : c.packets ≡ (parts_of first (concat pieces)).packets = rw parts refl in
    let rest : c.rest ≡ (parts_of first (concat pieces)).rest = rw parts refl in
    same_cut c (cut_by first (concat pieces)) packets rest (is.fault ∙ ap (λ (r : List ℕ). fault_of (first r)) rest)

pub cut-only : (framing : Framing) → IsFit framing → (pieces : List (List ℕ)) (c : Cut) → IsCutOf framing pieces c → c ≡ cut framing pieces
unfolding cut
cut-only Raw fit pieces c is = same_cut c (cut Raw pieces) is.packets is.rest is.fault
cut-only (Eof mark max) fit pieces c is = cut_by-only (marks.first_in mark max) (mark_laws.IsSteady-first_in mark max fit.0) pieces c is
cut-only (Length rule) fit pieces c is = cut_by-only (lengths.first_in rule) (length_laws.IsSteady-first_in rule) pieces c is

-- only the joined bytes matter
pub cut-joined : (framing : Framing) → JoinsPieces framing → (ps qs : List (List ℕ)) → concat ps ≡ concat qs → cut framing ps ≡ cut framing qs
unfolding cut
cut-joined Raw joins ps qs same = absurd joins
cut-joined (Eof mark max) joins ps qs same = ap (cut_by (marks.first_in mark max)) same
cut-joined (Length rule) joins ps qs same = ap (cut_by (lengths.first_in rule)) same

-- more bytes
fault_known : (x : First) → fault_of x ≢ None → x ≢ firsts.More
fault_known x fault more = fault (rw more refl)

fault_none : (x : First) → fault_of x ≢ None → (n : ℕ) → x ≢ firsts.Packet n
fault_none x fault n packet = fault (rw packet refl)

cut_by-later : (first : List ℕ → First) → IsSteady first → (bytes later : List ℕ) → Extends (cut_by first bytes) (cut_by first (bytes ++ later))
cut_by-later first ok bytes later =
    let parts = parts_of-append first ok bytes later in
    let rest : List ℕ = (parts_of first bytes).rest in
    let behind : Parts = parts_of first (rest ++ later) in
    let stays : fault_of (first rest) ≢ None → first (rest ++ later) ≡ first rest = λ fault. ok.steady rest later (fault_known (first rest) fault) in
    let ended : fault_of (first rest) ≢ None → parts_of first (rest ++ later) ≡ record { packets = []; rest = rest ++ later } = λ fault. parts_of-none first ok (rest ++ later) (λ n h. fault_none (first rest) fault n (sym (stays fault) ∙ h)) in
    record {
      packets = (behind.packets, rw parts refl);
      none = λ fault. rw (parts, ended fault) (append-nil (parts_of first bytes).packets);
      fault = λ fault. rw (parts, ended fault) (ap fault_of (stays fault));
    }

pub cut-more : (framing : Framing) → IsFit framing → (pieces later : List (List ℕ)) → Extends (cut framing pieces) (cut framing (pieces ++ later))
unfolding cut
cut-more Raw fit pieces later = record { packets = (filled later, filled-append pieces later); none = λ fault. absurd (fault refl); fault = λ fault. absurd (fault refl) }
cut-more (Eof mark max) fit pieces later =
    rw (concat-append pieces later) (cut_by-later (marks.first_in mark max) (mark_laws.IsSteady-first_in mark max fit.0) (concat pieces) (concat later))
cut-more (Length rule) fit pieces later =
    rw (concat-append pieces later) (cut_by-later (lengths.first_in rule) (length_laws.IsSteady-first_in rule) (concat pieces) (concat later))

-- what was given is part of the cut
given_within : (first : List ℕ → First) → IsSteady first → (bytes rest : List ℕ) (given : ℕ) → HasGiven first bytes rest given → given ≤ length (cut_by first bytes).packets
given_within first ok bytes rest given has =
    rw (parts_of-given first ok bytes rest given has, length-append) (omega (arith, has.count))

pub given-cut : (framing : Framing) (kept : Kept) → IsKept framing kept → kept.given ≤ length (cut framing kept.fed.pieces).packets
unfolding cut
given-cut Raw kept is = is.at.within
given-cut (Eof mark max) kept is = given_within (marks.first_in mark max) (mark_laws.IsSteady-first_in mark max is.fit.0) _ is.at.rest kept.given is.at.given
given-cut (Length rule) kept is = given_within (lengths.first_in rule) (length_laws.IsSteady-first_in rule) _ is.at.rest kept.given is.at.given

-- what is kept of joined pieces is a part of what was fed and not given
rest_ahead : (first : List ℕ → First) → IsSteady first → (bytes rest : List ℕ) (given : ℕ) → HasGiven first bytes rest given → length rest ≡ length (concat (drop given (cut_by first bytes).packets)) + length (cut_by first bytes).rest
rest_ahead first ok bytes rest given has =
    let parts = parts_of-given first ok bytes rest given has in
    let later = IsCut-parts_of first ok rest in
    let packets : (parts_of first bytes).packets ≡ has.packets ++ (parts_of first rest).packets = rw parts refl in
    let behind : (parts_of first bytes).rest ≡ (parts_of first rest).rest = rw parts refl in
    let left : drop given (parts_of first bytes).packets ≡ (parts_of first rest).packets = ap (drop given) packets ∙ ap (λ (n : ℕ). drop n (has.packets ++ (parts_of first rest).packets)) (sym has.count) ∙ drop-append_seam has.packets (parts_of first rest).packets in
    rw (left, behind) (ap length later.joined ∙ length-append (concat (parts_of first rest).packets) (parts_of first rest).rest)

rest_by : (first : List ℕ → First) → IsSteady first → (searched : Kept → List ℕ → Type 0) (kept : Kept) (rest : List ℕ) (fault : Option First) → HasGiven first (concat kept.fed.pieces) rest kept.given → IsRest first searched kept rest fault → length kept.rest ≤ length (concat (drop kept.given (cut_by first (concat kept.fed.pieces)).packets)) + length (cut_by first (concat kept.fed.pieces)).rest
rest_by first ok searched kept rest None given is =
    let all = rest_ahead first ok (concat kept.fed.pieces) rest kept.given given in
    let same : length kept.rest ≡ length rest = ap length is.0 in
    omega (arith, all, same)
rest_by first ok searched kept rest (Some fault) given is =
    let none : length kept.rest ≡ 0 = ap length is.0 in
    omega (arith, none)

pub rest-ahead : (framing : Framing) (kept : Kept) → IsKept framing kept → length kept.rest ≤ ahead (seen framing kept)
unfolding cut
rest-ahead Raw kept is =
    let none : length kept.rest ≡ 0 = ap length is.at.bare in
    omega (arith, none)
rest-ahead (Eof mark max) kept is = rest_by (marks.first_in mark max) (mark_laws.IsSteady-first_in mark max is.fit.0) (by_mark mark max) kept is.at.rest kept.fault is.at.given is.at.is
rest-ahead (Length rule) kept is = rest_by (lengths.first_in rule) (length_laws.IsSteady-first_in rule) (by_field rule) kept is.at.rest kept.fault is.at.given is.at.is

-- a piece more leaves the packets that were given
pub take-feed : (c : Cutting) (piece : List ℕ) → IsFit c.framing → c.given ≤ length (cut_of c).packets → take c.given (cut_of (feed c piece)).packets ≡ take c.given (cut_of c).packets
take-feed c piece fit within =
    let extends = cut-more c.framing fit c.pieces (piece ∷ []) in
    ap (take c.given) extends.packets.1 ∙ take-append-le c.given (cut_of c).packets extends.packets.0 within

-- the packet that is due is the next one of the cut
pub packet_next : (p : List ℕ) (fault : Option First) (o : Option (List ℕ)) → Packet p ≡ next_by fault o → o ≡ Some p
packet_next p fault (Some q) is = let same : p ≡ q = cc in ap Some (sym same)
packet_next p None None is = cc
packet_next p (Some (firsts.Packet n)) None is = cc
packet_next p (Some firsts.More) None is = cc
packet_next p (Some (firsts.TooLong n)) None is = cc
packet_next p (Some (firsts.BadLength n)) None is = cc

pub given-next : (c : Cutting) (p : List ℕ) → Packet p ≡ next_of c → c.given < length (cut_of c).packets
given-next c p is = slice_get_within (cut_of c).packets c.given p (packet_next p (cut_of c).fault _ is)

pub take-next : (c : Cutting) (p : List ℕ) → Packet p ≡ next_of c → take (c.given + 1) (cut_of c).packets ≡ take c.given (cut_of c).packets ++ p ∷ []
take-next c p is =
    let read : get_or (cut_of c).packets c.given [] ≡ p = get_or_from_slice_get (cut_of c).packets c.given p [] (packet_next p (cut_of c).fault _ is) in
    take_more (cut_of c).packets c.given [] (given-next c p is) ∙ ap (λ (q : List ℕ). take c.given (cut_of c).packets ++ q ∷ []) read

-- what holds after calls
pub record Given (framing : Framing) (calls : List Call) (c : Cutting) : Type 0 where
  pub framing_is : c.framing ≡ framing
  pub pieces : c.pieces ≡ fed_in calls
  pub packets : given_in calls ≡ take c.given (cut_of c).packets
  pub within : c.given ≤ length (cut_of c).packets

pub Given-start : (framing : Framing) → Given framing [] (start framing)
Given-start framing = record { framing_is = refl; pieces = refl; packets = refl; within = omega arith }

pub Given-feed : (framing : Framing) → IsFit framing → (before : List Call) (b : Cutting) (piece : List ℕ) → Given framing before b → Given framing (Feed piece ∷ before) (feed b piece)
Given-feed framing fit before b piece given =
    let fit_here : IsFit b.framing = subst (λ (f : Framing). IsFit f) (sym given.framing_is) fit in
    let extends = cut-more b.framing fit_here b.pieces (piece ∷ []) in
    record {
      framing_is = given.framing_is;
      pieces = ap (λ (ps : List (List ℕ)). ps ++ piece ∷ []) given.pieces;
      packets = given.packets ∙ sym (take-feed b piece fit_here given.within);
      within = rw (extends.packets.1, length-append) (omega (arith, given.within));
    }

pub Given-answer : (framing : Framing) (before : List Call) (b : Cutting) (answer : Next) → IsAnswer (next_of b) answer → Given framing before b → Given framing (Answer answer ∷ before) (after b answer)
Given-answer framing before b (Packet p) is given =
    let within : b.given < length (cut_of b).packets = given-next b p is in
    record {
      framing_is = given.framing_is;
      pieces = given.pieces;
      packets = ap (λ (ps : List (List ℕ)). ps ++ p ∷ []) given.packets ∙ sym (take-next b p is);
      within = omega arith;
    }
Given-answer framing before b More is given = record { framing_is = given.framing_is; pieces = given.pieces; packets = given.packets; within = given.within }
Given-answer framing before b (TooLong n) is given = record { framing_is = given.framing_is; pieces = given.pieces; packets = given.packets; within = given.within }
Given-answer framing before b (BadLength n) is given = record { framing_is = given.framing_is; pieces = given.pieces; packets = given.packets; within = given.within }
Given-answer framing before b OutOfMemory is given = record { framing_is = given.framing_is; pieces = given.pieces; packets = given.packets; within = given.within }

pub Given-after : (framing : Framing) → IsFit framing → (calls : List Call) (c : Cutting) → IsAfter framing calls c → Given framing calls c
Given-after framing fit [] c is = subst (λ (d : Cutting). Given framing [] d) (sym is) (Given-start framing)
Given-after framing fit (Feed piece ∷ before) c is =
    subst (λ (d : Cutting). Given framing (Feed piece ∷ before) d) (sym is.2) (Given-feed framing fit before is.0 piece (Given-after framing fit before is.0 is.1))
Given-after framing fit (Answer answer ∷ before) c is =
    subst (λ (d : Cutting). Given framing (Answer answer ∷ before) d) (sym is.3) (Given-answer framing before is.0 answer is.2 (Given-after framing fit before is.0 is.1))

-- the cut of what was fed, and the packets of it
pub cut_of-after : (framing : Framing) → IsFit framing → (calls : List Call) (c : Cutting) → IsAfter framing calls c → cut_of c ≡ cut framing (fed_in calls)
cut_of-after framing fit calls c is =
    let given = Given-after framing fit calls c is in
    ap (λ (f : Framing). cut f c.pieces) given.framing_is ∙ ap (cut framing) given.pieces

pub packets-after : (framing : Framing) → IsFit framing → (calls : List Call) (c : Cutting) → IsAfter framing calls c → given_in calls ++ to_come c ≡ (cut_of c).packets
packets-after framing fit calls c is =
    let given = Given-after framing fit calls c is in
    ap (λ (ps : List (List ℕ)). ps ++ to_come c) given.packets ∙ take-append-drop c.given (cut_of c).packets

-- a fault stays
fault_is : (fault : Option First) (o : Option (List ℕ)) → IsFault (next_by fault o) → fault ≢ None
fault_is fault (Some p) is = absurd is
fault_is None None is = absurd is
fault_is (Some x) None is = λ h. cc

pub next_of-feed : (c : Cutting) (piece : List ℕ) → IsFit c.framing → IsFault (next_of c) → next_of (feed c piece) ≡ next_of c
next_of-feed c piece fit is =
    let extends = cut-more c.framing fit c.pieces (piece ∷ []) in
    let fault : (cut_of c).fault ≢ None = fault_is (cut_of c).fault (slice_get (cut_of c).packets c.given) is in
    rw (extends.none fault, extends.fault fault) refl

pub fault-after : (framing : Framing) → IsFit framing → (calls : List Call) (c : Cutting) → IsAfter framing calls c → IsFault (next_of c) → (piece : List ℕ) → next_of (feed c piece) ≡ next_of c
fault-after framing fit calls c is fault piece =
    let given = Given-after framing fit calls c is in
    next_of-feed c piece (subst (λ (f : Framing). IsFit f) (sym given.framing_is) fit) fault
