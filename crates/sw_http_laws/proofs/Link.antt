-- A link of the record, and what the handler inside was given of it.
use Rattle.std.proofs.Common.{◌≡◌, ℕ, zero, suc, ◌+◌, true, List, [], ◌∷◌, ◌++◌, length, Option, Some, None, refl, sym, ap, ◌∙◌, subst, append_assoc, append-nil, inl, inr, true≢false}
use Rattle.std.specs.List.{concat}
use Rattle.std.specs.Prelude.{slice_get}
use Rattle.sw_frame.specs.Cut.{filled, cut}
use Rattle.sw_frame.specs.declared.framing.Framing.{Framing}
use Rattle.sw_frame.specs.declared.framing.Framing.TheVariants.{Raw}
use Rattle.sw_lists.specs.Lists.{IsPrefix, Has}
use Rattle.sw_record.specs.Drained.{Drained}
use Rattle.sw_record.specs.Logs.{told_of, Handled}
use Rattle.sw_record.specs.Order.{target, IsInOrder, InOrderKept}
use Rattle.sw_record.specs.Orderly.{Ordered, Kept, Uid, Spread}
use Rattle.sw_record.specs.Places.{Ran as Called}
use Rattle.sw_record.specs.Right.{Right, ToldWhole, KeptWhole, UidWhole, SpreadWhole}
use Rattle.sw_record.specs.Terms.{Terms, Outside, keeps, IsSpread, numbered, packets_cut, packets_on}
use Rattle.sw_record.specs.Whole.{WholeKept}
use Rattle.sw_record.specs.Words.{Event, Closed, Act, Done, Log}
use Rattle.sw_record.specs.declared.record.LinkRecord.{LinkRecord}
use Rattle.sw_record.specs.declared.record.Record.{Record}
use Rattle.sw_http.specs.declared.next.HttpNext.{HttpNext}
use Rattle.sw_http.specs.declared.next.HttpNext.TheVariants.{Request, More, TooLong, BadHead, Coded, BadLength, OutOfMemory}
use Rattle.sw_http.specs.declared.next.HttpFault.{HttpFault}
use Rattle.sw_http.specs.First.{HttpFirst}
use Rattle.sw_http.specs.Cutting.{Cutting, IsAnswerBy, after, fed_by, told}
use Rattle.sw_http.specs.Calls.{Call, Feed, Answer, given_in, IsAfter, IsCut, IsExact}
use Rattle.sw_http.proofs.Calls.{exact}
use Rattle.sw_http_worker.specs.declared.serving.Serving.{Serving}
use Rattle.sw_http_worker.specs.declared.worker.HttpWorker.{HttpWorker}
use Rattle.sw_http_worker.specs.Serving.{Acts, is_done, most}
use Rattle.sw_http_worker.specs.Worker.{inner_of, doing_of}
use Rattle.sw_http_laws.specs.Inside.{Tells, contents, bytes_on}
use Rattle.sw_http_laws.specs.Requests.{texts, AreCut, AreAll}
use Rattle.sw_http_laws.specs.Served.{IsWeb, IsServedBy, GivenInOrder, GivenAll}
use Rattle.sw_http_laws.proofs.Cuts.{fault_none, none_behind, cut_more, fault_or_more}
use Rattle.sw_http_laws.proofs.Logs.{bytes_append, last_of, done_last}
use Rattle.sw_http_laws.proofs.Session.{IsServing, IsIdle, phase_idle}
use Rattle.sw_http_laws.proofs.Standing.{Standing, Before, During, Behind, has_run}

-- ---- pieces and packets

concat_filled : (pieces : List (List ℕ)) → concat (filled pieces) ≡ concat pieces
concat_filled [] = refl
concat_filled ([] ∷ pieces) = concat_filled pieces
concat_filled ((b ∷ bs) ∷ pieces) = ap (λ l. (b ∷ bs) ++ l) (concat_filled pieces)

contents_numbered : (n : ℕ) (xs : List (List ℕ)) → contents (numbered n xs) ≡ xs
contents_numbered n [] = refl
contents_numbered n (x ∷ xs) = ap (λ l. x ∷ l) (contents_numbered (n + 1) xs)

raw_packets : (pieces : List (List ℕ)) → (cut Raw pieces).packets ≡ filled pieces
unfolding cut
raw_packets pieces = refl

-- the bytes of a link's packets are those of its pieces
bytes_of_link : (t : Terms) (l : LinkRecord) → IsWeb t → concat (contents (packets_on t l)) ≡ concat l.pieces
bytes_of_link t l web =
    ap concat (contents_numbered 0 (packets_cut t l.pieces)) ∙ ap (λ (f : Framing). concat (cut f l.pieces).packets) web.raw ∙ ap concat (raw_packets l.pieces) ∙ concat_filled l.pieces

begins_bytes : (t : Terms) (l : LinkRecord) (ps : List (ℕ × List ℕ)) → IsWeb t → IsPrefix ps (packets_on t l) → IsPrefix (concat (contents ps)) (concat l.pieces)
begins_bytes t l ps web begins = (concat (contents begins.0), sym (bytes_append ps begins.0) ∙ ap (λ (l : List (ℕ × List ℕ)). concat (contents l)) begins.1 ∙ bytes_of_link t l web)

-- ---- what was given by what was fed

exact_cut : (max : ℕ) (bytes : List ℕ) (qs : List (List ℕ × ℕ)) (rest : List ℕ) (fault : Option HttpFault) (packets : List (ℕ × List ℕ)) → packets ≡ numbered 0 (texts qs) → IsExact max bytes qs rest fault → AreCut max bytes packets
exact_cut max bytes qs rest None packets is so = record { requests = qs; front = bytes; rest = rest; begins = ([], append-nil bytes); cut = so; numbered_are = is }
exact_cut max bytes qs rest (Some fault) packets is so = record { requests = qs; front = so.front; rest = so.rest; begins = (so.behind, sym so.parts); cut = so.cut; numbered_are = is }

serving_exact : (max s : ℕ) (v : Serving) (bytes : List ℕ) (log : Log) (is : IsServing max s v bytes log) → IsExact max bytes (given_in is.calls) v.cutter.rest v.cutter.fault
serving_exact max s v bytes log is = subst (λ b. IsExact max b (given_in is.calls) v.cutter.rest v.cutter.fault) is.fed_is (exact max is.calls v.cutter is.is_after)

serving_cut : (max s : ℕ) (v : Serving) (bytes : List ℕ) (log : Log) → IsServing max s v bytes log → AreCut max bytes (Handled log s)
serving_cut max s v bytes log is = exact_cut max bytes (given_in is.calls) v.cutter.rest v.cutter.fault (Handled log s) is.told_is (serving_exact max s v bytes log is)

nothing_cut : (max : ℕ) (bytes : List ℕ) (packets : List (ℕ × List ℕ)) → packets ≡ [] → AreCut max bytes packets
nothing_cut max bytes packets none = record { requests = []; front = []; rest = []; begins = (bytes, refl); cut = record { whole = refl; each = tt }; numbered_are = none }

standing_cut : {H : Type 0} (tell : H → Log) (max s : ℕ) (w : HttpWorker H) (past : Log) (last : Act) → Standing tell max s w past last → AreCut max (bytes_on s past) (Handled (tell (inner_of w)) s)
standing_cut tell max s w past last (Before none handled kept) = nothing_cut max (bytes_on s past) (Handled (tell (inner_of w)) s) handled
standing_cut tell max s w past last (During v kept serving phase) = serving_cut max s v (bytes_on s past) (tell (inner_of w)) serving
standing_cut tell max s w past last (Behind v es is kept serving idle) = serving_cut max s v (bytes_on s past) (tell (inner_of w)) serving

-- a beginning of a beginning
cut_within : (max : ℕ) (front bytes : List ℕ) (packets : List (ℕ × List ℕ)) → IsPrefix front bytes → AreCut max front packets → AreCut max bytes packets
cut_within max front bytes packets begins is = record {
  requests = is.requests;
  front = is.front;
  rest = is.rest;
  begins = (is.begins.0 ++ begins.0, sym (append_assoc is.front is.begins.0 begins.0) ∙ ap (λ l. l ++ begins.0) is.begins.1 ∙ begins.1);
  cut = is.cut;
  numbered_are = is.numbered_are;
}

-- ---- and all of it where no request is left

faulty_all : (max : ℕ) (bytes : List ℕ) (qs : List (List ℕ × ℕ)) (rest : List ℕ) (fault : HttpFault) (packets : List (ℕ × List ℕ)) → packets ≡ numbered 0 (texts qs) → IsExact max bytes qs rest (Some fault) → AreAll max bytes packets
faulty_all max bytes qs rest fault packets is so =
    let more = cut_more max so.front so.behind qs so.rest so.cut in
    record {
      requests = qs;
      numbered_are = is;
      rest = so.rest ++ so.behind;
      cut = subst (λ b. IsCut max b qs (so.rest ++ so.behind)) (sym so.parts) more;
      ended = inl (fault_none fault max so.rest so.behind so.first);
    }

full_all : (max : ℕ) (bytes : List ℕ) (qs : List (List ℕ × ℕ)) (rest : List ℕ) (fault : Option HttpFault) (packets : List (ℕ × List ℕ)) → packets ≡ numbered 0 (texts qs) → length qs ≡ most → IsExact max bytes qs rest fault → AreAll max bytes packets
full_all max bytes qs rest None packets is full so = record { requests = qs; numbered_are = is; rest = rest; cut = so; ended = inr full }
full_all max bytes qs rest (Some fault) packets is full so = faulty_all max bytes qs rest fault packets is so

more_all : (max : ℕ) (bytes : List ℕ) (qs : List (List ℕ × ℕ)) (c : Cutting) (fault : Option HttpFault) (packets : List (ℕ × List ℕ)) → packets ≡ numbered 0 (texts qs) → IsAnswerBy c fault More → c.max ≡ max → IsExact max bytes qs c.rest fault → AreAll max bytes packets
more_all max bytes qs c None packets is due same so = record { requests = qs; numbered_are = is; rest = c.rest; cut = so; ended = inl (none_behind max c.rest (subst (λ m. HttpFirst m c.rest More) same due)) }
more_all max bytes qs c (Some fault) packets is due same so = absurd (fault_or_more fault (sym due))

max_behind : (c : Cutting) (a : HttpNext) → (after c a).max ≡ c.max
max_behind c (Request bytes head) = refl
max_behind c More = refl
max_behind c (TooLong n) = refl
max_behind c BadHead = refl
max_behind c Coded = refl
max_behind c BadLength = refl
max_behind c OutOfMemory = refl

max_fed : (c : Cutting) (piece : List ℕ) (fault : Option HttpFault) → (fed_by c piece fault).max ≡ c.max
max_fed c piece None = refl
max_fed c piece (Some fault) = refl

after_max : (max : ℕ) (calls : List Call) (c : Cutting) → IsAfter max calls c → c.max ≡ max
after_max max [] c is = ap (λ (x : Cutting). x.max) is
after_max max (Feed piece ∷ calls) c (b, before, is) = ap (λ (x : Cutting). x.max) is ∙ max_fed b piece b.fault ∙ after_max max calls b before
after_max max (Answer a ∷ calls) c (b, before, due, is) = ap (λ (x : Cutting). x.max) is ∙ max_behind b a ∙ after_max max calls b before

serving_all : (max s : ℕ) (v : Serving) (bytes : List ℕ) (log : Log) → IsServing max s v bytes log → IsIdle v → AreAll max bytes (Handled log s)
serving_all max s v bytes log is (inl (inl refused)) =
    let fault = is.over refused in
    faulty_all max bytes (given_in is.calls) v.cutter.rest fault.0 (Handled log s) is.told_is (subst (λ f. IsExact max bytes (given_in is.calls) v.cutter.rest f) fault.1 (serving_exact max s v bytes log is))
serving_all max s v bytes log is (inl (inr full)) = full_all max bytes (given_in is.calls) v.cutter.rest v.cutter.fault (Handled log s) is.told_is (sym is.count ∙ full) (serving_exact max s v bytes log is)
serving_all max s v bytes log is (inr more) = more_all max bytes (given_in is.calls) v.cutter v.cutter.fault (Handled log s) is.told_is more (after_max max is.calls v.cutter is.is_after) (serving_exact max s v bytes log is)

-- this session was told its end
has_none : (es : List Event) (e : Event) → es ≡ [] → Has e es → ⊥
has_none [] e none (at, is) = cc
has_none (x ∷ es) e none has = cc

standing_all : {H : Type 0} (tell : H → Log) (max s : ℕ) (w : HttpWorker H) (past : Log) (last : Act) → is_done last ≡ true → Has (Closed s) (told_of s past) → Standing tell max s w past last → AreAll max (bytes_on s past) (Handled (tell (inner_of w)) s)
standing_all tell max s w past last done has (Before none handled kept) = absurd (has_none (told_of s past) (Closed s) none has)
standing_all tell max s w past last done has (During v kept serving phase) = serving_all max s v (bytes_on s past) (tell (inner_of w)) serving (phase_idle s (doing_of w) last v done phase)
standing_all tell max s w past last done has (Behind v es is kept serving idle) = serving_all max s v (bytes_on s past) (tell (inner_of w)) serving idle

-- ---- the record

kept_not_five : (m : ℕ) → keeps m ≡ true → m ≡ 5 → ⊥
kept_not_five m is e = let five : keeps 5 ≡ true = subst (λ n. keeps n ≡ true) e is in true≢false (sym five)

kept_not_spread : (m : ℕ) → keeps m ≡ true → IsSpread m → ⊥
kept_not_spread m is (inl e) = let one : keeps 1 ≡ true = subst (λ n. keeps n ≡ true) e is in true≢false (sym one)
kept_not_spread m is (inr e) = let three : keeps 3 ≡ true = subst (λ n. keeps n ≡ true) e is in true≢false (sym three)

in_order : (t : Terms) (r : Record) → keeps t.mode ≡ true → Ordered t r → InOrderKept t r
in_order t r kept (Kept is ordered) = ordered
in_order t r kept (Uid is ordered) = absurd (kept_not_five t.mode kept is)
in_order t r kept (Spread is ordered) = absurd (kept_not_spread t.mode kept is)

told_whole : (t : Terms) (r : Record) → keeps t.mode ≡ true → ToldWhole t r → WholeKept t r
told_whole t r kept (KeptWhole is whole) = whole
told_whole t r kept (UidWhole is whole) = absurd (kept_not_five t.mode kept is)
told_whole t r kept (SpreadWhole is whole) = absurd (kept_not_spread t.mode kept is)

-- a worker's log is one of the logs
among : (xs ys : List Log) (k : ℕ) (log : Log) → slice_get xs k ≡ Some log → slice_get (xs ++ ys) k ≡ Some log
among [] ys k log is = absurd cc
among (x ∷ xs) ys zero log is = is
among (x ∷ xs) ys (suc k) log is = among xs ys k log is

module _ {H : Type 0} (acts : Acts H) (tell : H → Log) (tells : Tells acts tell) (max : ℕ) (t : Terms) (legal : List Called → Type 0) (r : Record) (out : Outside) (net : List LinkRecord) (s : ℕ) (l : LinkRecord) (w : HttpWorker H) where
  order_at : IsWeb t → Right t legal r out net → (served : IsServedBy acts tell max t r s l w) → IsInOrder t l (told_of s served.log)
  order_at web right served = (in_order t r web.kept right.orderly.ordered).at_target s l served.link served.log served.at

  standing_at : IsWeb t → Right t legal r out net → (served : IsServedBy acts tell max t r s l w) → Standing tell max s w served.log (last_of Done served.log)
  standing_at web right served =
      has_run acts tell tells max s served.log w (right.dialogues (target t s l.ip) served.log (among r.workers r.taskers (target t s l.ip) served.log served.at)) (order_at web right served).closed_last served.ran

  pub given_in_order : IsWeb t → Right t legal r out net → IsServedBy acts tell max t r s l w → GivenInOrder tell max s l w
  given_in_order web right served =
      cut_within max (bytes_on s served.log) (concat l.pieces) (Handled (tell (inner_of w)) s) (begins_bytes t l (Handled served.log s) web (order_at web right served).packets)
      (standing_cut tell max s w served.log (last_of Done served.log) (standing_at web right served))

  pub given_all : IsWeb t → Right t legal r out net → Drained t r → IsServedBy acts tell max t r s l w → GivenAll tell max t s l w
  given_all web right drained served =
      let over = drained.settled.over s l served.link in
      let whole = (told_whole t r web.kept right.told_whole).told s l over.0 served.link over.1.0 over.1.1 served.log served.at in
      let done = done_last served.log (drained.settled.done (target t s l.ip) served.log (among r.workers r.taskers (target t s l.ip) served.log served.at)) in
      record {
        ended = over.0;
        over = over.1.0;
        all = subst (λ (ps : List (ℕ × List ℕ)). AreAll max (concat (contents ps)) (Handled (tell (inner_of w)) s)) whole.packets
            (standing_all tell max s w served.log (last_of Done served.log) done whole.closed (standing_at web right served));
      }
