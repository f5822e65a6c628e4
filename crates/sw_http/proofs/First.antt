-- What comes first, by what was found.
use Rattle.std.proofs.Common.{◌≡◌, ℕ, zero, suc, ◌+◌, ◌<◌, ◌≤◌, Bool, true, false, List, [], ◌∷◌, ◌++◌, length, take, drop, map, Option, Some, None, Result, Ok, Err, refl, sym, ap, ◌∙◌, subst, arith, append-nil, length-append, inl, inr, take_all}
use Rattle.std.specs.Prelude.{nat_lt, nat_le, if◌then◌else◌}
use Rattle.std.proofs.lemmas.Bool.{false≢true, ltb-true, ltb-false, lt-ltb, le-ltb, le-leb, lt-leb}
use Rattle.std.proofs.lemmas.List.{take-append-le}
use Rattle.httparse.specs.Grammar.{RequestHead, ReadsRequest, HasNoRequest, print_request}
use Rattle.httparse.specs.Spans.{name_and_value, RequestOverflows}
use Rattle.httparse.proofs.GrammarLemmas.{ReadsRequest-append}
use Rattle.sw_http.specs.declared.body.Body.{Body}
use Rattle.sw_http.specs.declared.body.Body.TheVariants as bodies
use Rattle.sw_http.specs.declared.next.HttpFault.{HttpFault}
use Rattle.sw_http.specs.declared.next.HttpFault.TheVariants as faults
use Rattle.sw_http.specs.declared.next.HttpNext.TheVariants.{Request, More, TooLong, BadHead, Coded, BadLength}
use Rattle.sw_http.specs.declared.scan.Scan.{Scan}
use Rattle.sw_http.specs.Body.{Pair, has_coding, body_of}
use Rattle.sw_http.specs.First.{HasHead, HasNoHead, NeverHasHead, by_head, HttpFirst, most_fields}
use Rattle.sw_http.specs.Heads.{body_seen, body_named, measure, IsHeadIn, IsInHead}
use Rattle.sw_http.specs.declared.ending.Ending.TheVariants.{Empty}
use Rattle.sw_http.specs.Lines.{ending_of, ending_from, unscanned}
use Rattle.sw_http.proofs.Endings.{head_ends, has_line}
use Rattle.std.proofs.lemmas.Option.{none-some}
use Rattle.sw_http.specs.declared.kept.Reading.{Reading}
use Rattle.sw_http.specs.declared.kept.Reading.TheVariants.{InHead, InBody, Behind}
use Rattle.sw_http.specs.Cutting.{IsInBody, IsKept, fault_in, seen, told}

-- ---- results

is_ok : Result ℕ HttpFault → Bool
is_ok (Ok n) = true
is_ok (Err f) = false

ok-err : (n : ℕ) (f : HttpFault) → Ok n ≡ Err f → ⊥
unfolding is_ok
ok-err n f so = false≢true (sym (ap is_ok so))

ok_of : Result ℕ HttpFault → ℕ
ok_of (Ok n) = n
ok_of (Err f) = 0

same_Ok : (m n : ℕ) → ◌≡◌ {A = Result ℕ HttpFault} (Ok m) (Ok n) → m ≡ n
unfolding ok_of
same_Ok m n so = ap ok_of so

err_of : Result ℕ HttpFault → HttpFault
err_of (Ok n) = faults.BadHead
err_of (Err f) = f

same_Err : (f g : HttpFault) → ◌≡◌ {A = Result ℕ HttpFault} (Err f) (Err g) → f ≡ g
unfolding err_of
same_Err f g so = ap err_of so

-- ---- what the fields say

said : (ps : List Pair) (t : Bool) (o : Option ℕ) → has_coding ps ≡ t → body_of ps ≡ o → body_seen ps ≡ (if t then bodies.Coded else body_named o)
said ps t o coded body = rw (coded, body) refl

is_coded : Body → Bool
is_coded bodies.Coded = true
is_coded bodies.Unclear = false
is_coded (bodies.Bytes n) = false

coded_by : (ps : List Pair) (t : Bool) (o : Option ℕ) → has_coding ps ≡ t → body_of ps ≡ o → bodies.Coded ≡ (if t then bodies.Coded else body_named o) → has_coding ps ≡ true
unfolding is_coded
coded_by ps true o coded body is = coded
coded_by ps false None coded body is = absurd (false≢true (sym (ap is_coded is)))
coded_by ps false (Some n) coded body is = absurd (false≢true (sym (ap is_coded is)))

coded : (ps : List Pair) → bodies.Coded ≡ body_seen ps → has_coding ps ≡ true
coded ps is = coded_by ps (has_coding ps) (body_of ps) refl refl is

is_unclear : Body → Bool
is_unclear bodies.Coded = false
is_unclear bodies.Unclear = true
is_unclear (bodies.Bytes n) = false

unclear_by : (ps : List Pair) (t : Bool) (o : Option ℕ) → has_coding ps ≡ t → body_of ps ≡ o → bodies.Unclear ≡ (if t then bodies.Coded else body_named o) → (has_coding ps ≡ false) × (body_of ps ≡ None)
unfolding is_unclear
unclear_by ps true o coded body is = absurd (false≢true (sym (ap is_unclear is)))
unclear_by ps false None coded body is = (coded, body)
unclear_by ps false (Some n) coded body is = absurd (false≢true (sym (ap is_unclear is)))

unclear : (ps : List Pair) → bodies.Unclear ≡ body_seen ps → (has_coding ps ≡ false) × (body_of ps ≡ None)
unclear ps is = unclear_by ps (has_coding ps) (body_of ps) refl refl is

is_bytes : Body → Bool
is_bytes bodies.Coded = false
is_bytes bodies.Unclear = false
is_bytes (bodies.Bytes n) = true

count : Body → ℕ
count bodies.Coded = 0
count bodies.Unclear = 0
count (bodies.Bytes n) = n

bytes_by : (ps : List Pair) (b : ℕ) (t : Bool) (o : Option ℕ) → has_coding ps ≡ t → body_of ps ≡ o → bodies.Bytes b ≡ (if t then bodies.Coded else body_named o) → (has_coding ps ≡ false) × (body_of ps ≡ Some b)
unfolding is_bytes count
bytes_by ps b true o coded body is = absurd (false≢true (sym (ap is_bytes is)))
bytes_by ps b false None coded body is = absurd (false≢true (sym (ap is_bytes is)))
bytes_by ps b false (Some n) coded body is = (coded, body ∙ ap Some (sym (ap count is)))

bytes : (ps : List Pair) (b : ℕ) → bodies.Bytes b ≡ body_seen ps → (has_coding ps ≡ false) × (body_of ps ≡ Some b)
bytes ps b is = bytes_by ps b (has_coding ps) (body_of ps) refl refl is

-- ---- behind a head

has_head : (p : List ℕ) (len : ℕ) (body : Body) (h : RequestHead) → IsHeadIn p len body h → HasHead p h
has_head p len body h is = record { behind = drop len p; reads = is.reads; few = is.few }

abbrev pairs : RequestHead → List Pair
pairs h = map name_and_value h.fields

pub first_coded : (max : ℕ) (r : List ℕ) (len : ℕ) (h : RequestHead) → IsHeadIn (take max r) len bodies.Coded h → HttpFirst max r Coded
first_coded max r len h is =
    let so : Coded ≡ by_head max r h = rw (coded (pairs h) is.body_is) refl in
    inl (h, has_head (take max r) len bodies.Coded h is, so)

pub first_unclear : (max : ℕ) (r : List ℕ) (len : ℕ) (h : RequestHead) → IsHeadIn (take max r) len bodies.Unclear h → HttpFirst max r BadLength
first_unclear max r len h is =
    let what = unclear (pairs h) is.body_is in
    let so : BadLength ≡ by_head max r h = rw (what.0, what.1) refl in
    inl (h, has_head (take max r) len bodies.Unclear h is, so)

pub first_long : (max : ℕ) (r : List ℕ) (len b : ℕ) (h : RequestHead) → IsHeadIn (take max r) len (bodies.Bytes b) h → max < len + b → HttpFirst max r (TooLong (len + b))
first_long max r len b h is long =
    let what = bytes (pairs h) b is.body_is in
    let so : TooLong (len + b) ≡ by_head max r h = rw (what.0, what.1, ← is.len_is, lt-ltb max (len + b) long) refl in
    inl (h, has_head (take max r) len (bodies.Bytes b) h is, so)

pub in_body : (max : ℕ) (r : List ℕ) (len b : ℕ) (h : RequestHead) → IsHeadIn (take max r) len (bodies.Bytes b) h → len + b ≤ max → IsInBody max r len (len + b) h
in_body max r len b h is fits =
    let what = bytes (pairs h) b is.body_is in
    record { has = has_head (take max r) len (bodies.Bytes b) h is; head_is = is.len_is; uncoded = what.0; body = b; body_is = what.1; total_is = refl; fits = fits }

-- what the head and its body come to
measured_err_by : (max : ℕ) (r : List ℕ) (head b : ℕ) (h : RequestHead) (fault : HttpFault) (t : Bool) → nat_lt max (head + b) ≡ t → IsHeadIn (take max r) head (bodies.Bytes b) h
    → (if t then Err (faults.TooLong (head + b)) else Ok (head + b)) ≡ Err fault → HttpFirst max r (told fault)
measured_err_by max r head b h fault true long is so = subst (λ f. HttpFirst max r (told f)) (same_Err (faults.TooLong (head + b)) fault so) (first_long max r head b h is (ltb-true max (head + b) long))
measured_err_by max r head b h fault false fits is so = absurd (ok-err (head + b) fault so)

pub measured_err : (max : ℕ) (r : List ℕ) (head : ℕ) (body : Body) (h : RequestHead) (fault : HttpFault) → IsHeadIn (take max r) head body h → measure max head body ≡ Err fault → HttpFirst max r (told fault)
measured_err max r head bodies.Coded h fault is so = subst (λ f. HttpFirst max r (told f)) (same_Err faults.Coded fault so) (first_coded max r head h is)
measured_err max r head bodies.Unclear h fault is so = subst (λ f. HttpFirst max r (told f)) (same_Err faults.BadLength fault so) (first_unclear max r head h is)
measured_err max r head (bodies.Bytes b) h fault is so = measured_err_by max r head b h fault (nat_lt max (head + b)) refl is so

measured_ok_by : (max : ℕ) (r : List ℕ) (head b total : ℕ) (h : RequestHead) (t : Bool) → nat_lt max (head + b) ≡ t → IsHeadIn (take max r) head (bodies.Bytes b) h
    → (if t then Err (faults.TooLong (head + b)) else Ok (head + b)) ≡ Ok total → IsInBody max r head total h
measured_ok_by max r head b total h true long is so = absurd (ok-err total (faults.TooLong (head + b)) (sym so))
measured_ok_by max r head b total h false fits is so = subst (λ n. IsInBody max r head n h) (same_Ok (head + b) total so) (in_body max r head b h is (ltb-false max (head + b) fits))

pub measured_ok : (max : ℕ) (r : List ℕ) (head : ℕ) (body : Body) (total : ℕ) (h : RequestHead) → IsHeadIn (take max r) head body h → measure max head body ≡ Ok total → IsInBody max r head total h
measured_ok max r head bodies.Coded total h is so = absurd (ok-err total faults.Coded (sym so))
measured_ok max r head bodies.Unclear total h is so = absurd (ok-err total faults.BadLength (sym so))
measured_ok max r head (bodies.Bytes b) total h is so = measured_ok_by max r head b total h (nat_lt max (head + b)) refl is so

by_total : (max : ℕ) (r : List ℕ) (head total : ℕ) (h : RequestHead) → IsInBody max r head total h → by_head max r h ≡ (if nat_le total (length r) then Request (take total r) head else More)
by_total max r head total h is =
    let same : length (print_request h) + is.body ≡ total = ap (λ n. n + is.body) (sym is.head_is) ∙ sym is.total_is in
    rw (is.uncoded, is.body_is, same, le-ltb max total is.fits, ← is.head_is) refl

pub body_request : (max : ℕ) (r : List ℕ) (head total : ℕ) (h : RequestHead) → IsInBody max r head total h → total ≤ length r → HttpFirst max r (Request (take total r) head)
body_request max r head total h is there =
    let so : Request (take total r) head ≡ by_head max r h = rw (by_total max r head total h is, le-leb total (length r) there) refl in
    inl (h, is.has, so)

pub body_more : (max : ℕ) (r : List ℕ) (head total : ℕ) (h : RequestHead) → IsInBody max r head total h → length r < total → HttpFirst max r More
body_more max r head total h is short =
    let so : More ≡ by_head max r h = rw (by_total max r head total h is, lt-leb total (length r) short) refl in
    inl (h, is.has, so)

-- ---- without a head

no_head_in : (p : List ℕ) → HasNoRequest p → HasNoHead p
no_head_in p none h has = none h has.behind has.reads

never : (p : List ℕ) → RequestOverflows most_fields p → NeverHasHead p
never p over more h has = let many : most_fields < length h.fields = over more h has.behind has.reads in omega (arith, many, has.few)

none_now : (p : List ℕ) → NeverHasHead p → HasNoHead p
none_now p none = subst HasNoHead (append-nil p) (none [])

pub first_bad : (max : ℕ) (r : List ℕ) → RequestOverflows most_fields (take max r) → HttpFirst max r BadHead
first_bad max r over = inr (none_now (take max r) (never (take max r) over), never (take max r) over)

whole_front : (p : List ℕ) (scan : Scan) → IsInHead p scan → scan.at ≡ length p → HasNoHead p
whole_front p scan is whole = no_head_in p (subst HasNoRequest (take_all scan.at p (omega (arith, whole))) is.none)

pub first_endless : (max : ℕ) (r : List ℕ) (scan : Scan) → IsInHead (take max r) scan → scan.at ≡ length (take max r) → max ≤ length r → HttpFirst max r (TooLong max)
first_endless max r scan is whole long = inr (whole_front (take max r) scan is whole, (refl, long))

pub first_more : (max : ℕ) (r : List ℕ) (scan : Scan) → IsInHead (take max r) scan → scan.at ≡ length (take max r) → length r < max → HttpFirst max r More
first_more max r scan is whole short = inr (whole_front (take max r) scan is whole, short)

-- ---- with a piece more

-- the front of bytes, with others behind them
front_more : (m : ℕ) (r piece : List ℕ) → (more : List ℕ) × (take m (r ++ piece) ≡ take m r ++ more)
front_more zero r piece = ([], refl)
front_more (suc m) [] piece = (take (suc m) piece, refl)
front_more (suc m) (b ∷ r) piece = let next = front_more m r piece in (next.0, ap (λ xs. b ∷ xs) next.1)

pub head_fed : (max : ℕ) (r piece : List ℕ) (h : RequestHead) → HasHead (take max r) h → HasHead (take max (r ++ piece)) h
head_fed max r piece h has =
    let next = front_more max r piece in
    let reads : ReadsRequest (take max (r ++ piece)) h (has.behind ++ next.0) = subst (λ p. ReadsRequest p h (has.behind ++ next.0)) (sym next.1) (ReadsRequest-append (take max r) h has.behind next.0 has.reads) in
    record { behind = has.behind ++ next.0; reads = reads; few = has.few }

pub in_head_fed : (max : ℕ) (r piece : List ℕ) (scan : Scan) → IsInHead (take max r) scan → IsInHead (take max (r ++ piece)) scan
in_head_fed max r piece scan is =
    let next = front_more max r piece in
    let same : take scan.at (take max (r ++ piece)) ≡ take scan.at (take max r) = ap (take scan.at) next.1 ∙ take-append-le scan.at (take max r) next.0 is.scanned.within in
    let long : length (take max (r ++ piece)) ≡ length (take max r) + length next.0 = ap length next.1 ∙ length-append (take max r) next.0 in
    record {
      scanned = record { within = omega (arith, long, is.scanned.within); ending = is.scanned.ending ∙ ap ending_of (sym same) };
      none = subst HasNoRequest (sym same) is.none;
    }

pub in_body_fed : (max : ℕ) (r piece : List ℕ) (head total : ℕ) (h : RequestHead) → IsInBody max r head total h → IsInBody max (r ++ piece) head total h
in_body_fed max r piece head total h is =
    record {
      has = head_fed max r piece h is.has;
      head_is = is.head_is;
      uncoded = is.uncoded;
      body = is.body;
      body_is = is.body_is;
      total_is = is.total_is;
      fits = is.fits;
    }

-- nothing was looked at yet

no_text : (text rest : List ℕ) → [] ≡ text ++ rest → text ≡ []
no_text [] rest is = refl
no_text (b ∷ text) rest is = absurd (omega (arith, ap length is))

nothing_in : HasNoRequest []
unfolding ending_from
nothing_in h rest reads =
    let empty : ending_of [] ≡ Empty = ap ending_of (sym (no_text (print_request h) rest reads.1)) ∙ head_ends h reads.0 in
    absurd (false≢true (ap has_line empty))

pub in_nothing : (p : List ℕ) → IsInHead p unscanned
unfolding ending_from
in_nothing p = record { scanned = record { within = omega arith; ending = refl }; none = nothing_in }

-- what is kept is right with a piece more
pub kept_fed : (max : ℕ) (r piece : List ℕ) (reading : Reading) → fault_in reading ≡ None → IsKept max r reading → IsKept max (r ++ piece) reading
kept_fed max r piece (InHead scan) alive is = in_head_fed max r piece scan is
kept_fed max r piece (InBody head total) alive is = (is.0, in_body_fed max r piece head total is.0 is.1)
kept_fed max r piece (Behind fault) alive is = absurd (none-some fault (sym alive))

-- a cutter that isn't behind a fault shows none
pub view_alive : (max : ℕ) (r : List ℕ) (reading now : Reading) → fault_in reading ≡ None → fault_in now ≡ None → seen max r now ≡ seen max r reading
view_alive max r reading now old new = rw (old, new) refl
