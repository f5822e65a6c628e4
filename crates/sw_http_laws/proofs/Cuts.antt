-- The requests that are cut from some bytes are the only ones.
use Rattle.std.proofs.Common.{◌≡◌, ℕ, zero, suc, ◌+◌, Bool, true, false, List, [], ◌∷◌, ◌++◌, length, take, map, Option, Some, None, refl, sym, ap, ◌∙◌, subst, append_assoc, inl, inr}
use Rattle.std.specs.Prelude.{nat_lt, nat_le, if◌then◌else◌}
use Rattle.std.proofs.lemmas.List.{append_cancel_left, take-append-le}
use Rattle.httparse.specs.Grammar.{RequestHead, print_request}
use Rattle.httparse.specs.Spans.{name_and_value}
use Rattle.httparse.proofs.GrammarLemmas.{request_unique}
use Rattle.sw_lists.specs.Lists.{IsPrefix}
use Rattle.sw_http.specs.declared.next.HttpNext.{HttpNext}
use Rattle.sw_http.specs.declared.next.HttpNext.TheVariants.{Request, More, TooLong, BadHead, Coded, BadLength, OutOfMemory}
use Rattle.sw_http.specs.declared.next.HttpFault.{HttpFault}
use Rattle.sw_http.specs.declared.next.HttpFault.TheVariants as faults
use Rattle.sw_http.specs.Body.{has_coding, body_of}
use Rattle.sw_http.specs.First.{HasHead, HasNoHead, body_by, by_head, IsWithoutHead, HttpFirst}
use Rattle.sw_http.specs.Cutting.{told}
use Rattle.sw_http.specs.Calls.{joined, EachIsFirst, IsCut}
use Rattle.sw_http.proofs.First.{head_fed}
use Rattle.sw_http.proofs.Calls.{request_steady}
use Rattle.sw_http_laws.specs.Requests.{HasNone, AreRequests}

-- ---- what comes first is one

bytes_in : HttpNext → List ℕ
bytes_in (Request bytes head) = bytes
bytes_in More = []
bytes_in (TooLong n) = []
bytes_in BadHead = []
bytes_in Coded = []
bytes_in BadLength = []
bytes_in OutOfMemory = []

head_in : HttpNext → ℕ
head_in (Request bytes head) = head
head_in More = 0
head_in (TooLong n) = 0
head_in BadHead = 0
head_in Coded = 0
head_in BadLength = 0
head_in OutOfMemory = 0

same_head : (p : List ℕ) (h k : RequestHead) → HasHead p h → HasHead p k → h ≡ k
same_head p h k a b = (request_unique p h k a.behind b.behind a.reads b.reads).0

-- two requests that come first are one
first_same : (max : ℕ) (r x y : List ℕ) (m n : ℕ) → HttpFirst max r (Request x m) → HttpFirst max r (Request y n) → Request x m ≡ Request y n
first_same max r x y m n (inl a) (inl b) = a.2 ∙ ap (by_head max r) (same_head (take max r) a.0 b.0 a.1 b.1) ∙ sym b.2
first_same max r x y m n (inl a) (inr b) = absurd b.1
first_same max r x y m n (inr a) b = absurd a.1

-- ---- where more is awaited, or a fault stands, no request comes

pub none_behind : (max : ℕ) (r : List ℕ) → HttpFirst max r More → HasNone max r
none_behind max r (inl a) y n (inl b) =
    let e : More ≡ Request y n = a.2 ∙ ap (by_head max r) (same_head (take max r) a.0 b.0 a.1 b.1) ∙ sym b.2 in
    absurd cc
none_behind max r (inl a) y n (inr b) = absurd b.1
none_behind max r (inr a) y n (inl b) = absurd (a.0 b.0 b.1)
none_behind max r (inr a) y n (inr b) = absurd b.1

-- the front of bytes, with others behind them
front_more : (m : ℕ) (r piece : List ℕ) → (more : List ℕ) × (take m (r ++ piece) ≡ take m r ++ more)
front_more zero r piece = ([], refl)
front_more (suc m) [] piece = (take (suc m) piece, refl)
front_more (suc m) (b ∷ r) piece = let next = front_more m r piece in (next.0, ap (λ xs. b ∷ xs) next.1)

fault_or_request : (fault : HttpFault) (y : List ℕ) (n : ℕ) → told fault ≡ Request y n → ⊥
fault_or_request (faults.TooLong m) y n e = cc
fault_or_request faults.BadHead y n e = cc
fault_or_request faults.Coded y n e = cc
fault_or_request faults.BadLength y n e = cc

pub fault_or_more : (fault : HttpFault) → told fault ≡ More → ⊥
fault_or_more (faults.TooLong m) e = cc
fault_or_more faults.BadHead e = cc
fault_or_more faults.Coded e = cc
fault_or_more faults.BadLength e = cc

count_any : (fault : HttpFault) (y x z : List ℕ) (n head total : ℕ) (s t u : Bool)
    → told fault ≡ (if s then TooLong total else if t then Request x head else More)
    → Request y n ≡ (if s then TooLong total else if u then Request z head else More) → ⊥
count_any fault y x z n head total true t u a b = cc
count_any fault y x z n head total false true u a b = fault_or_request fault x head a
count_any fault y x z n head total false false u a b = fault_or_more fault a

fault_body : (fault : HttpFault) (max : ℕ) (r later y : List ℕ) (n head : ℕ) (o : Option ℕ) → told fault ≡ body_by max r head o → Request y n ≡ body_by max (r ++ later) head o → ⊥
fault_body fault max r later y n head None a b = cc
fault_body fault max r later y n head (Some c) a b =
    count_any fault y (take (head + c) r) (take (head + c) (r ++ later)) n head (head + c) (nat_lt max (head + c)) (nat_le (head + c) (length r)) (nat_le (head + c) (length (r ++ later))) a b

fault_coding : (fault : HttpFault) (max : ℕ) (r later y : List ℕ) (n head : ℕ) (t : Bool) (o : Option ℕ) → told fault ≡ (if t then Coded else body_by max r head o) → Request y n ≡ (if t then Coded else body_by max (r ++ later) head o) → ⊥
fault_coding fault max r later y n head true o a b = cc
fault_coding fault max r later y n head false o a b = fault_body fault max r later y n head o a b

fault_head : (fault : HttpFault) (max : ℕ) (r later y : List ℕ) (n : ℕ) (h : RequestHead) → told fault ≡ by_head max r h → Request y n ≡ by_head max (r ++ later) h → ⊥
fault_head fault max r later y n h a b = fault_coding fault max r later y n (length (print_request h)) (has_coding (map name_and_value h.fields)) (body_of (map name_and_value h.fields)) a b

-- a fault without a head stays one
headless : (fault : HttpFault) (max : ℕ) (r later : List ℕ) → HasNoHead (take max r) → IsWithoutHead max r (told fault) → HasNoHead (take max (r ++ later))
headless (faults.TooLong n) max r later none is = subst HasNoHead (sym (take-append-le max r later is.1)) none
headless faults.BadHead max r later none is =
    let next = front_more max r later in
    subst HasNoHead (sym next.1) (is next.0)
headless faults.Coded max r later none is = absurd is
headless faults.BadLength max r later none is = absurd is

-- behind a fault no request comes, whatever follows
pub fault_none : (fault : HttpFault) (max : ℕ) (r later : List ℕ) → HttpFirst max r (told fault) → HasNone max (r ++ later)
fault_none fault max r later (inl a) y n (inl b) =
    let same : b.0 ≡ a.0 = same_head (take max (r ++ later)) b.0 a.0 b.1 (head_fed max r later a.0 a.1) in
    fault_head fault max r later y n a.0 a.2 (b.2 ∙ ap (by_head max (r ++ later)) same)
fault_none fault max r later (inl a) y n (inr b) = absurd b.1
fault_none fault max r later (inr a) y n (inl b) = absurd (headless fault max r later a.0 a.1 b.0 b.1)
fault_none fault max r later (inr a) y n (inr b) = absurd b.1

-- ---- cuts

each_more : (max : ℕ) (qs : List (List ℕ × ℕ)) (rest later : List ℕ) → EachIsFirst max qs rest → EachIsFirst max qs (rest ++ later)
each_more max [] rest later is = is
each_more max (q ∷ qs) rest later is =
    let same : (q.0 ++ (joined qs ++ rest)) ++ later ≡ q.0 ++ (joined qs ++ (rest ++ later)) = append_assoc q.0 (joined qs ++ rest) later ∙ ap (λ b. q.0 ++ b) (append_assoc (joined qs) rest later) in
    (subst (λ b. HttpFirst max b (Request q.0 q.1)) same (request_steady max (q.0 ++ (joined qs ++ rest)) later q.0 q.1 is.0), each_more max qs rest later is.1)

-- the same requests are cut from the bytes with others behind them
pub cut_more : (max : ℕ) (bytes later : List ℕ) (qs : List (List ℕ × ℕ)) (rest : List ℕ) → IsCut max bytes qs rest → IsCut max (bytes ++ later) qs (rest ++ later)
cut_more max bytes later qs rest is =
    record { whole = ap (λ b. b ++ later) is.whole ∙ append_assoc (joined qs) rest later; each = each_more max qs rest later is.each }

-- requests that are cut from the same bytes begin one another, where behind the second ones none comes
each_begins : (max : ℕ) (qs ps : List (List ℕ × ℕ)) (rest behind : List ℕ) → EachIsFirst max qs rest → EachIsFirst max ps behind → joined qs ++ rest ≡ joined ps ++ behind → HasNone max behind → IsPrefix qs ps
unfolding bytes_in head_in
each_begins max [] ps rest behind a b e none = (ps, refl)
each_begins max (q ∷ qs) [] rest behind a b e none =
    absurd (none q.0 q.1 (subst (λ x. HttpFirst max x (Request q.0 q.1)) (sym (append_assoc q.0 (joined qs) rest) ∙ e) a.0))
each_begins max (q ∷ qs) (p ∷ ps) rest behind a b e none =
    let here : q.0 ++ (joined qs ++ rest) ≡ p.0 ++ (joined ps ++ behind) = sym (append_assoc q.0 (joined qs) rest) ∙ e ∙ append_assoc p.0 (joined ps) behind in
    let one = first_same max (p.0 ++ (joined ps ++ behind)) q.0 p.0 q.1 p.1 (subst (λ x. HttpFirst max x (Request q.0 q.1)) here a.0) b.0 in
    let bytes : q.0 ≡ p.0 = ap bytes_in one in
    let head : q.1 ≡ p.1 = ap head_in one in
    let left : joined qs ++ rest ≡ joined ps ++ behind = append_cancel_left q.0 (joined qs ++ rest) (joined ps ++ behind) (here ∙ ap (λ x. x ++ (joined ps ++ behind)) (sym bytes)) in
    let next = each_begins max qs ps rest behind a.1 b.1 left none in
    let same : q ≡ p = λ i. (bytes i, head i) in
    (next.0, ap (λ xs. q ∷ xs) next.1 ∙ ap (λ (x : List ℕ × ℕ). x ∷ ps) same)

-- what is cut from a beginning of some bytes begins all requests of them
pub cut_begins : (max : ℕ) (front bytes : List ℕ) (qs ps : List (List ℕ × ℕ)) (rest : List ℕ) → IsPrefix front bytes → IsCut max front qs rest → AreRequests max bytes ps → IsPrefix qs ps
cut_begins max front bytes qs ps rest begins cut all =
    let more = cut_more max front begins.0 qs rest cut in
    each_begins max qs ps (rest ++ begins.0) all.rest more.each all.cut.each (sym more.whole ∙ begins.1 ∙ all.cut.whole) all.none
