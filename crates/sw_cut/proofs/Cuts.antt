-- What follows for cutting from a steady First.
use Rattle.std.proofs.Common.{◌≡◌, ◌≢◌, ℕ, zero, suc, ◌+◌, ◌<◌, ◌≤◌, List, [], ◌∷◌, ◌++◌, length, take, drop, refl, sym, ap, ◌∙◌, subst, arith, append_assoc, length-append, length-drop, take-append-drop, append-nil}
use Rattle.std.specs.List.{concat}
use Rattle.std.proofs.Math.Seq.{take-append_seam, drop-append_seam}
use Rattle.std.proofs.lemmas.List.{length-take-le}
use Rattle.std.proofs.lemmas.List.Folds.{concat-append}
use Rattle.sw_cut.specs.declared.First.{First}
use Rattle.sw_cut.specs.declared.First.TheVariants.{Packet, More, TooLong, BadLength}
use Rattle.sw_cut.specs.Cut.{EachIsFirst, IsCut, IsSteady, Parts, parts_by, parts_within, parts_of, HasGiven}

-- a packet that comes first stays with more bytes
pub steady_packet : (first : List ℕ → First) → IsSteady first → (bytes later : List ℕ) (n : ℕ) → first bytes ≡ Packet n → first (bytes ++ later) ≡ Packet n
steady_packet first ok bytes later n is =
    let known : first bytes ≢ More = λ more. cc in
    ok.steady bytes later known ∙ is

-- bytes that follow leave the packets that are there
pub EachIsFirst-later : (first : List ℕ → First) → IsSteady first → (ps : List (List ℕ)) (rest later : List ℕ) → EachIsFirst first ps rest → EachIsFirst first ps (rest ++ later)
EachIsFirst-later first ok [] rest later each = tt
EachIsFirst-later first ok (p ∷ ps) rest later each =
    (ap first (sym (append_assoc (concat (p ∷ ps)) rest later)) ∙ steady_packet first ok (concat (p ∷ ps) ++ rest) later (length p) each.0, EachIsFirst-later first ok ps rest later each.1)

-- packets behind packets
pub concat-append_rest : (ps qs : List (List ℕ)) (rest : List ℕ) → concat (ps ++ qs) ++ rest ≡ concat ps ++ (concat qs ++ rest)
concat-append_rest ps qs rest = ap (λ xs. xs ++ rest) (concat-append ps qs) ∙ append_assoc (concat ps) (concat qs) rest

pub EachIsFirst-append : (first : List ℕ → First) (ps qs : List (List ℕ)) (rest : List ℕ) → EachIsFirst first ps (concat qs ++ rest) → EachIsFirst first qs rest → EachIsFirst first (ps ++ qs) rest
EachIsFirst-append first [] qs rest each others = others
EachIsFirst-append first (p ∷ ps) qs rest each others =
    (ap first (concat-append_rest (p ∷ ps) qs rest) ∙ each.0, EachIsFirst-append first ps qs rest each.1 others)

-- what stands in front of the same number of bytes
pub front_is : (xs ys us vs : List ℕ) → length xs ≡ length ys → xs ++ us ≡ ys ++ vs → xs ≡ ys
front_is xs ys us vs len same =
    sym (take-append_seam xs us) ∙ ap (take (length xs)) same ∙ ap (λ n. take n (ys ++ vs)) len ∙ take-append_seam ys vs

pub back_is : (xs ys us vs : List ℕ) → length xs ≡ length ys → xs ++ us ≡ ys ++ vs → us ≡ vs
back_is xs ys us vs len same =
    sym (drop-append_seam xs us) ∙ ap (drop (length xs)) same ∙ ap (λ n. drop n (ys ++ vs)) len ∙ drop-append_seam ys vs

-- bytes are cut in one way only
pub IsCut-unique : (first : List ℕ → First) (bytes : List ℕ) (ps qs : List (List ℕ)) (r s : List ℕ) → IsCut first bytes ps r → IsCut first bytes qs s → (ps ≡ qs) × (r ≡ s)
IsCut-unique first bytes [] [] r s one two = (refl, sym one.joined ∙ two.joined)
IsCut-unique first bytes [] (q ∷ qs) r s one two =
    absurd (one.ended (length q) (ap first (sym one.joined ∙ two.joined) ∙ two.each.0))
IsCut-unique first bytes (p ∷ ps) [] r s one two =
    absurd (two.ended (length p) (ap first (sym two.joined ∙ one.joined) ∙ one.each.0))
IsCut-unique first bytes (p ∷ ps) (q ∷ qs) r s one two =
    let whole : p ++ (concat ps ++ r) ≡ q ++ (concat qs ++ s) = sym (append_assoc p (concat ps) r) ∙ (sym one.joined ∙ two.joined) ∙ append_assoc q (concat qs) s in
    let same : Packet (length p) ≡ Packet (length q) = sym one.each.0 ∙ (ap first (sym one.joined ∙ two.joined) ∙ two.each.0) in
    let len : length p ≡ length q = cc in
    let later = IsCut-unique first (concat ps ++ r) ps qs r s (record { joined = refl; each = one.each.1; ended = one.ended }) (record { joined = back_is p q _ _ len whole; each = two.each.1; ended = two.ended }) in
    let head : p ≡ q = front_is p q (concat ps ++ r) (concat qs ++ s) len whole in
    let tail : ps ≡ qs = later.0 in
    (cc, later.1)

-- packets behind packets are cut from bytes behind bytes
pub IsCut-append : (first : List ℕ → First) → IsSteady first → (bytes later : List ℕ) (ps qs : List (List ℕ)) (r s : List ℕ) → IsCut first bytes ps r → IsCut first (r ++ later) qs s → IsCut first (bytes ++ later) (ps ++ qs) s
IsCut-append first ok bytes later ps qs r s one two =
    record {
      joined = ap (λ xs. xs ++ later) one.joined ∙ append_assoc (concat ps) r later ∙ ap (λ xs. concat ps ++ xs) two.joined ∙ sym (concat-append_rest ps qs s);
      each = EachIsFirst-append first ps qs s (subst (λ (xs : List ℕ). EachIsFirst first ps xs) two.joined (EachIsFirst-later first ok ps r later one.each)) two.each;
      ended = two.ended;
    }

-- no packet
pub IsCut-none : (first : List ℕ → First) (bytes : List ℕ) → ((n : ℕ) → first bytes ≢ Packet n) → IsCut first bytes [] bytes
IsCut-none first bytes none = record { joined = refl; each = tt; ended = none }

-- a packet, and those behind it
pub IsCut-packet : (first : List ℕ → First) (bytes : List ℕ) (n : ℕ) (ps : List (List ℕ)) (r : List ℕ) → first bytes ≡ Packet n → n ≤ length bytes → IsCut first (drop n bytes) ps r → IsCut first bytes (take n bytes ∷ ps) r
IsCut-packet first bytes n ps r is within others =
    let all : bytes ≡ concat (take n bytes ∷ ps) ++ r = sym (take-append-drop n bytes) ∙ ap (λ xs. take n bytes ++ xs) others.joined ∙ sym (append_assoc (take n bytes) (concat ps) r) in
    record {
      joined = all;
      each = (ap first (sym all) ∙ is ∙ ap Packet (sym (length-take-le n bytes within)), others.each);
      ended = others.ended;
    }

-- parts with enough room are a cut
pub IsCut-parts_by : (first : List ℕ → First) → IsSteady first → (most : ℕ) (bytes : List ℕ) → length bytes ≤ suc most → ((xs : List ℕ) → length xs ≤ most → IsCut first xs (parts_within first most xs).packets (parts_within first most xs).rest) → (x : First) → first bytes ≡ x → IsCut first bytes (parts_by (parts_within first most) bytes x).packets (parts_by (parts_within first most) bytes x).rest
IsCut-parts_by first ok most bytes room cut (Packet n) is =
    let some : 0 < n = (ok.within bytes n is).0 in
    let there : n ≤ length bytes = (ok.within bytes n is).1 in
    IsCut-packet first bytes n _ _ is there (cut (drop n bytes) (rw length-drop (omega arith)))
IsCut-parts_by first ok most bytes room cut More is = IsCut-none first bytes (λ n h. cc)
IsCut-parts_by first ok most bytes room cut (TooLong m) is = IsCut-none first bytes (λ n h. cc)
IsCut-parts_by first ok most bytes room cut (BadLength m) is = IsCut-none first bytes (λ n h. cc)

pub IsCut-parts_within : (first : List ℕ → First) → IsSteady first → (most : ℕ) (bytes : List ℕ) → length bytes ≤ most → IsCut first bytes (parts_within first most bytes).packets (parts_within first most bytes).rest
IsCut-parts_within first ok zero [] room =
    IsCut-none first [] (λ n h. let w : (0 < n) × (n ≤ length {A = ℕ} []) = ok.within [] n h in omega (arith, w.0, w.1))
IsCut-parts_within first ok zero (b ∷ bs) room = absurd (omega arith)
IsCut-parts_within first ok (suc most) bytes room =
    IsCut-parts_by first ok most bytes room (IsCut-parts_within first ok most) (first bytes) refl

-- the parts of some bytes are their cut
pub IsCut-parts_of : (first : List ℕ → First) → IsSteady first → (bytes : List ℕ) → IsCut first bytes (parts_of first bytes).packets (parts_of first bytes).rest
unfolding parts_of
IsCut-parts_of first ok bytes = IsCut-parts_within first ok (length bytes) bytes (omega arith)

pub parts_of-unique : (first : List ℕ → First) → IsSteady first → (bytes : List ℕ) (ps : List (List ℕ)) (r : List ℕ) → IsCut first bytes ps r → parts_of first bytes ≡ record { packets = ps; rest = r }
parts_of-unique first ok bytes ps r cut =
    let same = IsCut-unique first bytes _ ps _ r (IsCut-parts_of first ok bytes) cut in
    let packets : (parts_of first bytes).packets ≡ ps = same.0 in
    let rest : (parts_of first bytes).rest ≡ r = same.1 in
    ap (λ (qs : List (List ℕ)). let made : Parts = record { packets = qs; rest = (parts_of first bytes).rest } in made) packets ∙ ap (λ (s : List ℕ). let made : Parts = record { packets = ps; rest = s } in made) rest

-- the parts, by what comes first
pub parts_of-packet : (first : List ℕ → First) → IsSteady first → (bytes : List ℕ) (n : ℕ) → first bytes ≡ Packet n → parts_of first bytes ≡ record { packets = take n bytes ∷ (parts_of first (drop n bytes)).packets; rest = (parts_of first (drop n bytes)).rest }
parts_of-packet first ok bytes n is =
    parts_of-unique first ok bytes _ _ (IsCut-packet first bytes n _ _ is (ok.within bytes n is).1 (IsCut-parts_of first ok (drop n bytes)))

pub parts_of-none : (first : List ℕ → First) → IsSteady first → (bytes : List ℕ) → ((n : ℕ) → first bytes ≢ Packet n) → parts_of first bytes ≡ record { packets = []; rest = bytes }
parts_of-none first ok bytes none = parts_of-unique first ok bytes [] bytes (IsCut-none first bytes none)

-- the parts of bytes behind bytes
pub parts_of-append : (first : List ℕ → First) → IsSteady first → (bytes later : List ℕ) → parts_of first (bytes ++ later) ≡ record { packets = (parts_of first bytes).packets ++ (parts_of first ((parts_of first bytes).rest ++ later)).packets; rest = (parts_of first ((parts_of first bytes).rest ++ later)).rest }
parts_of-append first ok bytes later =
    parts_of-unique first ok (bytes ++ later) _ _ (IsCut-append first ok bytes later _ _ _ _ (IsCut-parts_of first ok bytes) (IsCut-parts_of first ok ((parts_of first bytes).rest ++ later)))

-- nothing was cut off yet
pub HasGiven-none : (first : List ℕ → First) (bytes : List ℕ) → HasGiven first bytes bytes 0
HasGiven-none first bytes = record { packets = []; joined = refl; each = tt; count = refl }

-- more bytes
pub HasGiven-later : (first : List ℕ → First) → IsSteady first → (bytes rest later : List ℕ) (given : ℕ) → HasGiven first bytes rest given → HasGiven first (bytes ++ later) (rest ++ later) given
HasGiven-later first ok bytes rest later given has =
    record {
      packets = has.packets;
      joined = ap (λ xs. xs ++ later) has.joined ∙ append_assoc (concat has.packets) rest later;
      each = EachIsFirst-later first ok has.packets rest later has.each;
      count = has.count;
    }

-- one packet more
pub HasGiven-more : (first : List ℕ → First) → IsSteady first → (bytes rest : List ℕ) (given n : ℕ) → HasGiven first bytes rest given → first rest ≡ Packet n → HasGiven first bytes (drop n rest) (given + 1)
HasGiven-more first ok bytes rest given n has is =
    let packet : List ℕ = take n rest in
    let there : n ≤ length rest = (ok.within rest n is).1 in
    let ahead : rest ≡ concat (packet ∷ []) ++ drop n rest = sym (take-append-drop n rest) ∙ ap (λ xs. xs ++ drop n rest) (sym (append-nil packet)) in
    record {
      packets = has.packets ++ packet ∷ [];
      joined = has.joined ∙ ap (λ xs. concat has.packets ++ xs) ahead ∙ sym (concat-append_rest has.packets (packet ∷ []) (drop n rest));
      each = EachIsFirst-append first has.packets (packet ∷ []) (drop n rest) (subst (λ (xs : List ℕ). EachIsFirst first has.packets xs) ahead has.each) (ap first (sym ahead) ∙ is ∙ ap Packet (sym (length-take-le n rest there)), tt);
      count = length-append has.packets (packet ∷ []) ∙ ap (λ k. k + 1) has.count;
    }

-- behind what was cut off the parts go on
pub IsCut-given : (first : List ℕ → First) → IsSteady first → (bytes rest : List ℕ) (given : ℕ) (has : HasGiven first bytes rest given) → IsCut first bytes (has.packets ++ (parts_of first rest).packets) (parts_of first rest).rest
IsCut-given first ok bytes rest given has =
    let later = IsCut-parts_of first ok rest in
    record {
      joined = has.joined ∙ ap (λ xs. concat has.packets ++ xs) later.joined ∙ sym (concat-append_rest has.packets _ _);
      each = EachIsFirst-append first has.packets _ _ (subst (λ (xs : List ℕ). EachIsFirst first has.packets xs) later.joined has.each) later.each;
      ended = later.ended;
    }

pub parts_of-given : (first : List ℕ → First) → IsSteady first → (bytes rest : List ℕ) (given : ℕ) (has : HasGiven first bytes rest given) → parts_of first bytes ≡ record { packets = has.packets ++ (parts_of first rest).packets; rest = (parts_of first rest).rest }
parts_of-given first ok bytes rest given has = parts_of-unique first ok bytes _ _ (IsCut-given first ok bytes rest given has)
