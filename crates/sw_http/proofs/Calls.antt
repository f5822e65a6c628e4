-- The calls of one cutter, one after the other.
use Rattle.std.proofs.Common.{◌≡◌, ℕ, ◌+◌, ◌≤◌, Bool, true, false, List, [], ◌∷◌, ◌++◌, length, take, drop, map, Option, Some, None, refl, sym, ap, ◌∙◌, subst, arith, append_assoc, append-nil, length-append, take-append-drop, inl, inr}
use Rattle.std.specs.Prelude.{nat_lt, nat_le, if◌then◌else◌}
use Rattle.std.proofs.lemmas.Bool.{false≢true, leb-true, le-leb}
use Rattle.std.proofs.lemmas.List.{take-append-le, length-take-le}
use Rattle.httparse.specs.Grammar.{print_request}
use Rattle.httparse.specs.Spans.{name_and_value}
use Rattle.sw_http.specs.declared.next.HttpNext.{HttpNext}
use Rattle.sw_http.specs.declared.next.HttpNext.TheVariants.{Request, More, TooLong, BadHead, Coded, BadLength, OutOfMemory}
use Rattle.sw_http.specs.declared.next.HttpFault.{HttpFault}
use Rattle.sw_http.specs.declared.next.HttpFault.TheVariants as faults
use Rattle.sw_http.specs.Body.{has_coding, body_of}
use Rattle.sw_http.specs.First.{body_by, HttpFirst}
use Rattle.sw_http.specs.Cutting.{Cutting, IsAnswerBy, IsDue, after, ended, fed_by, told}
use Rattle.sw_http.specs.Calls.{joined, EachIsFirst, IsCut, Call, Feed, Answer, fed_in, given_in, with_request, IsAfter, IsFaulty, IsExact}
use Rattle.sw_http.proofs.First.{head_fed}

-- ---- a request stays the first with more bytes behind it

is_request : HttpNext → Bool
is_request (Request bytes head) = true
is_request More = false
is_request (TooLong n) = false
is_request BadHead = false
is_request Coded = false
is_request BadLength = false
is_request OutOfMemory = false

by_count : (r later bytes : List ℕ) (n head total : ℕ) (s t : Bool) → nat_le total (length r) ≡ t → Request bytes n ≡ (if s then TooLong total else if t then Request (take total r) head else More)
    → Request bytes n ≡ (if s then TooLong total else if nat_le total (length (r ++ later)) then Request (take total (r ++ later)) head else More)
unfolding is_request
by_count r later bytes n head total true t is so = absurd (false≢true (sym (ap is_request so)))
by_count r later bytes n head total false false is so = absurd (false≢true (sym (ap is_request so)))
by_count r later bytes n head total false true is so =
    let there : total ≤ length r = leb-true total (length r) is in
    let more : nat_le total (length (r ++ later)) ≡ true = le-leb total (length (r ++ later)) (omega (arith, there, length-append r later)) in
    rw (more, take-append-le total r later there) so

by_body : (max : ℕ) (r later bytes : List ℕ) (n head : ℕ) (o : Option ℕ) → Request bytes n ≡ body_by max r head o → Request bytes n ≡ body_by max (r ++ later) head o
unfolding is_request
by_body max r later bytes n head None so = absurd (false≢true (sym (ap is_request so)))
by_body max r later bytes n head (Some b) so = by_count r later bytes n head (head + b) (nat_lt max (head + b)) (nat_le (head + b) (length r)) refl so

by_coding : (max : ℕ) (r later bytes : List ℕ) (n head : ℕ) (t : Bool) (o : Option ℕ) → Request bytes n ≡ (if t then Coded else body_by max r head o) → Request bytes n ≡ (if t then Coded else body_by max (r ++ later) head o)
unfolding is_request
by_coding max r later bytes n head true o so = absurd (false≢true (sym (ap is_request so)))
by_coding max r later bytes n head false o so = by_body max r later bytes n head o so

pub request_steady : (max : ℕ) (r later bytes : List ℕ) (n : ℕ) → HttpFirst max r (Request bytes n) → HttpFirst max (r ++ later) (Request bytes n)
request_steady max r later bytes n (inl is) =
    let h = is.0 in
    inl (h, head_fed max r later h is.1, by_coding max r later bytes n (length (print_request h)) (has_coding (map name_and_value h.fields)) (body_of (map name_and_value h.fields)) is.2)
request_steady max r later bytes n (inr is) = absurd is.1

-- a request is at the front

request_bytes : HttpNext → List ℕ
request_bytes (Request bytes head) = bytes
request_bytes More = []
request_bytes (TooLong n) = []
request_bytes BadHead = []
request_bytes Coded = []
request_bytes BadLength = []
request_bytes OutOfMemory = []

front_by : (r bytes : List ℕ) (n head total : ℕ) (s t : Bool) → nat_le total (length r) ≡ t → Request bytes n ≡ (if s then TooLong total else if t then Request (take total r) head else More) → r ≡ bytes ++ drop (length bytes) r
unfolding is_request request_bytes
front_by r bytes n head total true t is so = absurd (false≢true (sym (ap is_request so)))
front_by r bytes n head total false false is so = absurd (false≢true (sym (ap is_request so)))
front_by r bytes n head total false true is so =
    let these : bytes ≡ take total r = ap request_bytes so in
    rw (these, length-take-le total r (leb-true total (length r) is)) (sym (take-append-drop total r))

front_body : (max : ℕ) (r bytes : List ℕ) (n head : ℕ) (o : Option ℕ) → Request bytes n ≡ body_by max r head o → r ≡ bytes ++ drop (length bytes) r
unfolding is_request
front_body max r bytes n head None so = absurd (false≢true (sym (ap is_request so)))
front_body max r bytes n head (Some b) so = front_by r bytes n head (head + b) (nat_lt max (head + b)) (nat_le (head + b) (length r)) refl so

front_coding : (max : ℕ) (r bytes : List ℕ) (n head : ℕ) (t : Bool) (o : Option ℕ) → Request bytes n ≡ (if t then Coded else body_by max r head o) → r ≡ bytes ++ drop (length bytes) r
unfolding is_request
front_coding max r bytes n head true o so = absurd (false≢true (sym (ap is_request so)))
front_coding max r bytes n head false o so = front_body max r bytes n head o so

request_front : (max : ℕ) (r bytes : List ℕ) (n : ℕ) → HttpFirst max r (Request bytes n) → r ≡ bytes ++ drop (length bytes) r
request_front max r bytes n (inl is) = front_coding max r bytes n (length (print_request is.0)) (has_coding (map name_and_value is.0.fields)) (body_of (map name_and_value is.0.fields)) is.2
request_front max r bytes n (inr is) = absurd is.1

-- ---- cuts

each_more : (max : ℕ) (qs : List (List ℕ × ℕ)) (rest later : List ℕ) → EachIsFirst max qs rest → EachIsFirst max qs (rest ++ later)
each_more max [] rest later is = is
each_more max (q ∷ qs) rest later is =
    let same : (q.0 ++ (joined qs ++ rest)) ++ later ≡ q.0 ++ (joined qs ++ (rest ++ later)) = append_assoc q.0 (joined qs ++ rest) later ∙ ap (λ b. q.0 ++ b) (append_assoc (joined qs) rest later) in
    (subst (λ b. HttpFirst max b (Request q.0 q.1)) same (request_steady max (q.0 ++ (joined qs ++ rest)) later q.0 q.1 is.0), each_more max qs rest later is.1)

cut_more : (max : ℕ) (bytes later : List ℕ) (qs : List (List ℕ × ℕ)) (rest : List ℕ) → IsCut max bytes qs rest → IsCut max (bytes ++ later) qs (rest ++ later)
cut_more max bytes later qs rest is =
    record { whole = ap (λ b. b ++ later) is.whole ∙ append_assoc (joined qs) rest later; each = each_more max qs rest later is.each }

joined_one : (qs : List (List ℕ × ℕ)) (q : List ℕ × ℕ) (rest : List ℕ) → joined (qs ++ q ∷ []) ++ rest ≡ joined qs ++ (q.0 ++ rest)
joined_one [] q rest = ap (λ b. b ++ rest) (append-nil q.0)
joined_one (p ∷ qs) q rest = append_assoc p.0 (joined (qs ++ q ∷ [])) rest ∙ ap (λ b. p.0 ++ b) (joined_one qs q rest) ∙ sym (append_assoc p.0 (joined qs) (q.0 ++ rest))

each_one : (max : ℕ) (qs : List (List ℕ × ℕ)) (q : List ℕ × ℕ) (rest : List ℕ) → EachIsFirst max qs (q.0 ++ rest) → HttpFirst max (q.0 ++ rest) (Request q.0 q.1) → EachIsFirst max (qs ++ q ∷ []) rest
each_one max [] q rest is first = (first, tt)
each_one max (p ∷ qs) q rest is first =
    (subst (λ b. HttpFirst max (p.0 ++ b) (Request p.0 p.1)) (sym (joined_one qs q rest)) is.0, each_one max qs q rest is.1 first)

cut_one : (max : ℕ) (bytes : List ℕ) (qs : List (List ℕ × ℕ)) (rest request behind : List ℕ) (head : ℕ) → IsCut max bytes qs rest → rest ≡ request ++ behind → HttpFirst max rest (Request request head)
    → IsCut max bytes (qs ++ (request, head) ∷ []) behind
cut_one max bytes qs rest request behind head is parts first =
    record {
      whole = is.whole ∙ ap (λ b. joined qs ++ b) parts ∙ sym (joined_one qs (request, head) behind);
      each = each_one max qs (request, head) behind (subst (λ b. EachIsFirst max qs b) parts is.each) (subst (λ b. HttpFirst max b (Request request head)) parts first);
    }

-- ---- one call more

abbrev IsSo : ℕ → List ℕ → List (List ℕ × ℕ) → Cutting → Type 0
IsSo max bytes qs c = (c.max ≡ max) × IsExact max bytes qs c.rest c.fault

feed_step : (max : ℕ) (b : Cutting) (bytes piece : List ℕ) (qs : List (List ℕ × ℕ)) (f : Option HttpFault) → b.fault ≡ f → b.max ≡ max → IsExact max bytes qs b.rest f → IsSo max (bytes ++ piece) qs (fed_by b piece f)
feed_step max b bytes piece qs None is same so = (same, rw is (cut_more max bytes piece qs b.rest so))
feed_step max b bytes piece qs (Some fault) is same so =
    let parts : bytes ++ piece ≡ so.front ++ (so.behind ++ piece) = ap (λ x. x ++ piece) so.parts ∙ append_assoc so.front so.behind piece in
    (same, rw is (record { front = so.front; behind = so.behind ++ piece; rest = so.rest; parts = parts; cut = so.cut; first = so.first }))

faulty : (max : ℕ) (b : Cutting) (bytes : List ℕ) (qs : List (List ℕ × ℕ)) (fault : HttpFault) → b.max ≡ max → IsCut max bytes qs b.rest → HttpFirst b.max b.rest (told fault) → IsSo max bytes qs (ended b fault)
faulty max b bytes qs fault same cut first =
    (same, record { front = bytes; behind = []; rest = b.rest; parts = sym (append-nil bytes); cut = cut; first = subst (λ m. HttpFirst m b.rest (told fault)) same first })

live_step : (max : ℕ) (b : Cutting) (bytes : List ℕ) (qs : List (List ℕ × ℕ)) (a : HttpNext) → b.fault ≡ None → b.max ≡ max → IsCut max bytes qs b.rest → IsDue b.max b.rest a → IsSo max bytes (with_request qs a) (after b a)
live_step max b bytes qs (Request request head) is same cut due =
    let first : HttpFirst max b.rest (Request request head) = subst (λ m. HttpFirst m b.rest (Request request head)) same due in
    (same, rw is (cut_one max bytes qs b.rest request (drop (length request) b.rest) head cut (request_front max b.rest request head first) first))
live_step max b bytes qs More is same cut due = (same, rw is cut)
live_step max b bytes qs (TooLong n) is same cut due = faulty max b bytes qs (faults.TooLong n) same cut due
live_step max b bytes qs BadHead is same cut due = faulty max b bytes qs faults.BadHead same cut due
live_step max b bytes qs Coded is same cut due = faulty max b bytes qs faults.Coded same cut due
live_step max b bytes qs BadLength is same cut due = faulty max b bytes qs faults.BadLength same cut due
live_step max b bytes qs OutOfMemory is same cut due = (same, rw is cut)

told_step : (max : ℕ) (b : Cutting) (bytes : List ℕ) (qs : List (List ℕ × ℕ)) (fault : HttpFault) → b.max ≡ max → IsFaulty max bytes qs fault → IsSo max bytes (with_request qs (told fault)) (after b (told fault))
told_step max b bytes qs (faults.TooLong n) same so = (same, so)
told_step max b bytes qs faults.BadHead same so = (same, so)
told_step max b bytes qs faults.Coded same so = (same, so)
told_step max b bytes qs faults.BadLength same so = (same, so)

answer_step : (max : ℕ) (b : Cutting) (bytes : List ℕ) (qs : List (List ℕ × ℕ)) (a : HttpNext) (f : Option HttpFault) → b.fault ≡ f → b.max ≡ max → IsExact max bytes qs b.rest f → IsAnswerBy b f a → IsSo max bytes (with_request qs a) (after b a)
answer_step max b bytes qs a None is same so answer = live_step max b bytes qs a is same so answer
answer_step max b bytes qs a (Some fault) is same so answer = subst (λ x. IsSo max bytes (with_request qs x) (after b x)) (sym answer) (told_step max b bytes qs fault same so)

so_far : (max : ℕ) (calls : List Call) (c : Cutting) → IsAfter max calls c → IsSo max (fed_in calls) (given_in calls) c
so_far max [] c is = subst (λ x. IsSo max [] [] x) (sym is) (refl, record { whole = refl; each = tt })
so_far max (Feed piece ∷ before) c is =
    let b = is.0 in
    let past = so_far max before b is.1 in
    subst (λ x. IsSo max (fed_in before ++ piece) (given_in before) x) (sym is.2) (feed_step max b (fed_in before) piece (given_in before) b.fault refl past.0 past.1)
so_far max (Answer answer ∷ before) c is =
    let b = is.0 in
    let past = so_far max before b is.1 in
    subst (λ x. IsSo max (fed_in before) (with_request (given_in before) answer) x) (sym is.3) (answer_step max b (fed_in before) (given_in before) answer b.fault refl past.0 past.1 is.2)

pub exact : (max : ℕ) (calls : List Call) (c : Cutting) → IsAfter max calls c → IsExact max (fed_in calls) (given_in calls) c.rest c.fault
exact max calls c is = (so_far max calls c is).1
