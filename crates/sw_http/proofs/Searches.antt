-- What the parser makes of the front of some bytes holds of them all.
use Rattle.std.proofs.Common.{◌≡◌, ◌≢◌, ℕ, ◌<◌, ◌≤◌, false, List, ◌++◌, length, take, drop, map, get_or, take-append-drop, refl, sym, ap, ◌∙◌, subst, arith, append_assoc}
use Rattle.std.specs.Prelude.{All, min}
use Rattle.std.proofs.lemmas.List.{length-take, length-map}
use Rattle.std.proofs.Math.Seq.{drop-append_seam}
use Rattle.httparse.specs.Grammar.{RequestHead, ReadsRequest, print_request}
use Rattle.httparse.specs.declared.spans.HeaderSpan.{HeaderSpan}
use Rattle.httparse.specs.declared.spans.RequestSpans.{RequestSpans}
use Rattle.httparse.specs.Spans.{name_and_value, header_bytes, IsHeaderWithin, IsRequestWithin, IsRequestAt, RequestOverflows}
use Rattle.sw_http.specs.declared.body.Body.{Body}
use Rattle.sw_http.specs.declared.head.Found.{Found}
use Rattle.sw_http.specs.declared.head.Found.TheVariants.{Head, Nothing, Bad}
use Rattle.sw_http.specs.declared.scan.Scan.{Scan}
use Rattle.sw_http.specs.First.{most_fields}
use Rattle.sw_http.specs.Heads.{body_seen, IsSmallBody, IsHeadIn, IsFound, IsInHead, IsSearched}
use Rattle.sw_http.specs.Lines.{IsScanned, IsStopped}
use Rattle.sw_http.proofs.Heads.{no_head}

-- ---- one reading

pub all_within : (n m : ℕ) (hs : List HeaderSpan) → n ≤ m → All (IsHeaderWithin n) hs → All (IsHeaderWithin m) hs
all_within n m hs le all k d lt =
    let one : IsHeaderWithin n (get_or hs k d) = all k d lt in
    ((one.0.0, omega (arith, le, one.0.1)), (one.1.0, omega (arith, le, one.1.1)))

pub head_in : (bytes : List ℕ) (headers : List HeaderSpan) (r : RequestSpans) (h : RequestHead) (body : Body) → IsRequestAt bytes headers r h → IsRequestWithin bytes headers r → length headers ≡ 64
    → body ≡ body_seen (map (header_bytes bytes) (take r.headers headers)) → IsSmallBody body → length bytes < 9223372036854775808 → IsHeadIn bytes r.len body h
head_in bytes headers r h body is within room said small short =
    let same : length (map name_and_value h.fields) ≡ length (map (header_bytes bytes) (take r.headers headers)) = ap length (sym is.fields) in
    let count : length h.fields ≡ min r.headers (length headers) = sym (length-map h.fields name_and_value) ∙ same ∙ length-map (take r.headers headers) (header_bytes bytes) ∙ length-take r.headers headers in
    record {
      reads = is.reads;
      len_is = is.len;
      few = omega (arith, count, room);
      body_is = said ∙ ap body_seen is.fields;
      small = small;
      room = omega (arith, within.section.len_fits, short);
    }

-- ---- more bytes behind

head_on : (bytes : List ℕ) (at len : ℕ) (body : Body) (h : RequestHead) → IsHeadIn (take at bytes) len body h → IsHeadIn bytes len body h
head_on bytes at len body h is =
    let whole : bytes ≡ print_request h ++ (drop len (take at bytes) ++ drop at bytes) = sym (take-append-drop at bytes) ∙ ap (λ p. p ++ drop at bytes) is.reads.1 ∙ append_assoc (print_request h) (drop len (take at bytes)) (drop at bytes) in
    let behind : drop len bytes ≡ drop len (take at bytes) ++ drop at bytes = ap (drop len) whole ∙ ap (λ n. drop n (print_request h ++ (drop len (take at bytes) ++ drop at bytes))) is.len_is ∙ drop-append_seam (print_request h) (drop len (take at bytes) ++ drop at bytes) in
    record {
      reads = (is.reads.0, whole ∙ ap (λ b. print_request h ++ b) (sym behind));
      len_is = is.len_is;
      few = is.few;
      body_is = is.body_is;
      small = is.small;
      room = is.room;
    }

over_on : (bytes : List ℕ) (at : ℕ) → RequestOverflows most_fields (take at bytes) → RequestOverflows most_fields bytes
over_on bytes at over more h rest reads =
    let whole : bytes ++ more ≡ take at bytes ++ (drop at bytes ++ more) = ap (λ b. b ++ more) (sym (take-append-drop at bytes)) ∙ append_assoc (take at bytes) (drop at bytes) more in
    over (drop at bytes ++ more) h rest (subst (λ b. ReadsRequest b h rest) whole reads)

pub found_so : (bytes : List ℕ) (at : ℕ) (found : Found) (scan : Scan) → found ≢ Nothing → IsFound (take at bytes) found → IsSearched bytes found scan
found_so bytes at (Head len body) scan not is = (is.0, head_on bytes at len body is.0 is.1)
found_so bytes at Nothing scan not is = absurd (not refl)
found_so bytes at Bad scan not is = over_on bytes at is

pub ended_so : (bytes : List ℕ) (old new : Scan) → IsInHead bytes old → IsScanned bytes new → IsStopped bytes old.at new.at false → IsInHead bytes new × (new.at ≡ length bytes)
ended_so bytes old new is scanned stopped =
    (record { scanned = scanned; none = no_head bytes old.at new.at scanned.within is.none stopped.2 }, stopped.0)
