-- One session: what its cutter was fed, and what the handler inside was given.
use Rattle.std.proofs.Common.{◌≡◌, ℕ, ◌+◌, true, false, List, [], ◌∷◌, ◌++◌, length, Option, Some, None, refl, sym, ap, ◌∙◌, subst, arith, ◌⊎◌, inl, true≢false}
use Rattle.sw_record.specs.Logs.{packets_in, Handled}
use Rattle.sw_record.specs.Terms.{numbered}
use Rattle.sw_record.specs.Words.{Packet, Act, EventGiven, Log}
use Rattle.sw_http.specs.declared.next.HttpNext.TheVariants.{Request, More, TooLong, BadHead, Coded, BadLength}
use Rattle.sw_http.specs.declared.next.HttpFault.{HttpFault}
use Rattle.sw_http.specs.declared.next.HttpFault.TheVariants as faults
use Rattle.sw_http.specs.Cutting.{Cutting, IsAnswer, after, fed_by, told}
use Rattle.sw_http.specs.Calls.{Call, Feed, Answer, fed_in, given_in, with_request, IsAfter}
use Rattle.sw_http_worker.specs.declared.serving.Serving.{Serving}
use Rattle.sw_http_worker.specs.declared.serving.Doing.{Doing}
use Rattle.sw_http_worker.specs.declared.serving.Doing.TheVariants as doings
use Rattle.sw_http_worker.specs.Serving.{Acts, is_done, fresh, IsOver, with_piece, given_one, refused_for, Gives, WereGiven, Stops, Serves}
use Rattle.sw_http_laws.specs.Inside.{Tells}
use Rattle.sw_http_laws.specs.Requests.{texts}
use Rattle.sw_http_laws.proofs.Logs as logs

-- what is kept of a session is what these bytes and requests left
pub record IsServing (max s : ℕ) (v : Serving) (bytes : List ℕ) (log : Log) : Type 0 where
  pub calls : List Call
  pub is_after : IsAfter max calls v.cutter
  pub fed_is : fed_in calls ≡ bytes
  pub count : v.given ≡ length (given_in calls)
  pub told_is : Handled log s ≡ numbered 0 (texts (given_in calls))
  pub over : v.refused ≡ true → (f : HttpFault) × (v.cutter.fault ≡ Some f)

-- no request is left to be given
abbrev pub IsIdle : Serving → Type 0
IsIdle v = IsOver v ⊎ IsAnswer v.cutter More

-- unless its requests are being given, none is left to be
abbrev pub Phase : ℕ → Doing → Act → Serving → Type 0
Phase s (doings.Serving u) last v = (is_done last ≡ false) × (¬ (u ≡ s) → IsIdle v)
Phase s (doings.Refusing u) last v = IsIdle v
Phase s doings.Closing last v = IsIdle v
Phase s doings.Passing last v = IsIdle v

pub phase_idle : (s : ℕ) (doing : Doing) (last : Act) (v : Serving) → is_done last ≡ true → Phase s doing last v → IsIdle v
phase_idle s (doings.Serving u) last v done is = absurd (true≢false (sym done ∙ is.0))
phase_idle s (doings.Refusing u) last v done is = is
phase_idle s doings.Closing last v done is = is
phase_idle s doings.Passing last v done is = is

-- ---- with other logs and bytes

pub with_log : (max s : ℕ) (v : Serving) (bytes : List ℕ) (xs ys : Log) → Handled ys s ≡ Handled xs s → IsServing max s v bytes xs → IsServing max s v bytes ys
with_log max s v bytes xs ys same is = record { calls = is.calls; is_after = is.is_after; fed_is = is.fed_is; count = is.count; told_is = same ∙ is.told_is; over = is.over }

pub with_bytes : (max s : ℕ) (v : Serving) (xs ys : List ℕ) (log : Log) → ys ≡ xs → IsServing max s v xs log → IsServing max s v ys log
with_bytes max s v xs ys log same is = subst (λ b. IsServing max s v b log) (sym same) is

pub at_first : (max s : ℕ) (log : Log) → Handled log s ≡ [] → IsServing max s (fresh max) [] log
at_first max s log none = record { calls = []; is_after = refl; fed_is = refl; count = refl; told_is = none; over = λ e. absurd (true≢false (sym e)) }

fault_fed : (c : Cutting) (piece : List ℕ) (o : Option HttpFault) → c.fault ≡ o → (fed_by c piece o).fault ≡ o
fault_fed c piece None is = is
fault_fed c piece (Some f) is = is

-- a piece more
pub fed_more : (max s : ℕ) (v : Serving) (bytes piece : List ℕ) (log : Log) → IsServing max s v bytes log → IsServing max s (with_piece v piece) (bytes ++ piece) log
fed_more max s v bytes piece log is = record {
  calls = Feed piece ∷ is.calls;
  is_after = (v.cutter, is.is_after, refl);
  fed_is = ap (λ b. b ++ piece) is.fed_is;
  count = is.count;
  told_is = is.told_is;
  over = λ e. let f = is.over e in (f.0, fault_fed v.cutter piece v.cutter.fault refl ∙ f.1);
}

-- ---- what the handler inside was given

fault_behind : (c : Cutting) (f : HttpFault) → (after c (told f)).fault ≡ Some f
fault_behind c (faults.TooLong n) = refl
fault_behind c faults.BadHead = refl
fault_behind c faults.Coded = refl
fault_behind c faults.BadLength = refl

given_still : (qs : List (List ℕ × ℕ)) (f : HttpFault) → with_request qs (told f) ≡ qs
given_still qs (faults.TooLong n) = refl
given_still qs faults.BadHead = refl
given_still qs faults.Coded = refl
given_still qs faults.BadLength = refl

-- a request more
pub given_step : {H : Type 0} (acts : Acts H) (tell : H → Log) → Tells acts tell → (max s : ℕ) (old : H) (v : Serving) (bytes request : List ℕ) (head : ℕ) (act : Act) (new : H)
    → IsServing max s v bytes (tell old) → Gives acts s old v request head act new → IsServing max s (given_one v request head) bytes (tell new)
given_step acts tell tells max s old v bytes request head act new is gives =
    let qs = given_in is.calls in
    let length_one : length (qs ++ (request, head) ∷ []) ≡ length qs + 1 = logs.length_one qs (request, head) in
    let entry : Handled (tell new) s ≡ Handled (tell old) s ++ (v.given, request) ∷ [] =
    ap (λ (l : Log). Handled l s) (tells old (EventGiven (Packet s v.given request)) act new gives.acted) ∙ logs.handled_packet s v.given request act (tell old) in
    let at : v.given ≡ 0 + length (texts qs) = omega (arith, is.count, logs.texts_length qs) in
    record {
      calls = Answer (Request request head) ∷ is.calls;
      is_after = (v.cutter, is.is_after, gives.due, refl);
      fed_is = is.fed_is;
      count = omega (arith, is.count, length_one);
      told_is = entry ∙ ap (λ (l : List (ℕ × List ℕ)). l ++ (v.given, request) ∷ []) is.told_is ∙ ap (λ n. numbered 0 (texts qs) ++ (n, request) ∷ []) at
          ∙ sym (logs.numbered_one 0 (texts qs) request) ∙ ap (numbered 0) (sym (logs.texts_one qs (request, head)));
      over = λ e. absurd (true≢false (sym e ∙ gives.opens.0));
    }

pub were_given : {H : Type 0} (acts : Acts H) (tell : H → Log) → Tells acts tell → (max s : ℕ) (old : H) (v : Serving) (bytes : List ℕ) (qs : List (List ℕ × ℕ)) (new : H) (w : Serving)
    → IsServing max s v bytes (tell old) → WereGiven acts s old v qs new w → IsServing max s w bytes (tell new)
were_given acts tell tells max s old v bytes [] new w is same =
    subst (λ x. IsServing max s x bytes (tell new)) same.1 (subst (λ h. IsServing max s v bytes (tell h)) same.0 is)
were_given acts tell tells max s old v bytes (q ∷ qs) new w is (m, done, more) =
    were_given acts tell tells max s m (given_one v q.0 q.1) bytes qs new w (given_step acts tell tells max s old v bytes q.0 q.1 done.act m is done.gives) more

pub record HasStopped (max s : ℕ) (doing : Doing) (act : Act) (w : Serving) (bytes : List ℕ) (log : Log) : Type 0 where
  pub serving : IsServing max s w bytes log
  pub phase : Phase s doing act w

refused_step : (max s : ℕ) (v : Serving) (bytes : List ℕ) (log : Log) (f : HttpFault) → IsAnswer v.cutter (told f) → IsServing max s v bytes log → IsServing max s (refused_for v f) bytes log
refused_step max s v bytes log f due is =
    let still = given_still (given_in is.calls) f in
    record {
      calls = Answer (told f) ∷ is.calls;
      is_after = (v.cutter, is.is_after, due, refl);
      fed_is = is.fed_is;
      count = is.count ∙ ap length (sym still);
      told_is = is.told_is ∙ ap (λ (l : List (List ℕ × ℕ)). numbered 0 (texts l)) (sym still);
      over = λ e. (f, fault_behind v.cutter f);
    }

pub has_stopped : {H : Type 0} (acts : Acts H) (tell : H → Log) → Tells acts tell → (max s : ℕ) (old : H) (v : Serving) (bytes : List ℕ) (act : Act) (doing : Doing) (new : H) (w : Serving)
    → IsServing max s v bytes (tell old) → Stops acts s old v act doing new w → HasStopped max s doing act w bytes (tell new)
has_stopped acts tell tells max s old v bytes act (doings.Serving u) new w is (same, stops) = record {
  serving = subst (λ x. IsServing max s x bytes (tell new)) (sym stops.kept) (given_step acts tell tells max s old v bytes stops.bytes stops.head act new is stops.gives);
  phase = (stops.busy, λ ne. absurd (ne same));
}
has_stopped acts tell tells max s old v bytes act (doings.Refusing u) new w is (same, stops) = record {
  serving = subst (λ h. IsServing max s w bytes (tell h)) (sym stops.same) (subst (λ x. IsServing max s x bytes (tell old)) (sym stops.kept) (refused_step max s v bytes (tell old) stops.fault stops.due is));
  phase = subst IsIdle (sym stops.kept) (inl (inl refl));
}
has_stopped acts tell tells max s old v bytes act doings.Passing new w is stops = record {
  serving = subst (λ h. IsServing max s w bytes (tell h)) (sym stops.same) (subst (λ x. IsServing max s x bytes (tell old)) (sym stops.kept) is);
  phase = subst IsIdle (sym stops.kept) stops.none;
}
has_stopped acts tell tells max s old v bytes act doings.Closing new w is stops = absurd stops

pub served : {H : Type 0} (acts : Acts H) (tell : H → Log) → Tells acts tell → (max s : ℕ) (old : H) (v : Serving) (bytes : List ℕ) (act : Act) (doing : Doing) (new : H) (w : Serving)
    → IsServing max s v bytes (tell old) → Serves acts s old v act doing new w → HasStopped max s doing act w bytes (tell new)
served acts tell tells max s old v bytes act doing new w is serves =
    has_stopped acts tell tells max s serves.handler serves.serving bytes act doing new w
    (were_given acts tell tells max s old v bytes serves.requests serves.handler serves.serving is serves.given) serves.stops

-- ---- requests of another session

other_step : {H : Type 0} (acts : Acts H) (tell : H → Log) → Tells acts tell → (u s : ℕ) (old : H) (v : Serving) (request : List ℕ) (head : ℕ) (act : Act) (new : H)
    → ¬ (u ≡ s) → Gives acts u old v request head act new → Handled (tell new) s ≡ Handled (tell old) s
other_step acts tell tells u s old v request head act new ne gives =
    ap (λ (l : Log). Handled l s) (tells old (EventGiven (Packet u v.given request)) act new gives.acted)
    ∙ logs.handled_none s (tell old) (logs.told (Packet u v.given request) act) (ap packets_in (logs.other_packet u s v.given request act ne))

other_given : {H : Type 0} (acts : Acts H) (tell : H → Log) → Tells acts tell → (u s : ℕ) (old : H) (v : Serving) (qs : List (List ℕ × ℕ)) (new : H) (w : Serving)
    → ¬ (u ≡ s) → WereGiven acts u old v qs new w → Handled (tell new) s ≡ Handled (tell old) s
other_given acts tell tells u s old v [] new w ne same = ap (λ h. Handled (tell h) s) (sym same.0)
other_given acts tell tells u s old v (q ∷ qs) new w ne (m, done, more) =
    other_given acts tell tells u s m (given_one v q.0 q.1) qs new w ne more ∙ other_step acts tell tells u s old v q.0 q.1 done.act m ne done.gives

other_stops : {H : Type 0} (acts : Acts H) (tell : H → Log) → Tells acts tell → (u s : ℕ) (old : H) (v : Serving) (act : Act) (doing : Doing) (new : H) (w : Serving)
    → ¬ (u ≡ s) → Stops acts u old v act doing new w → Handled (tell new) s ≡ Handled (tell old) s
other_stops acts tell tells u s old v act (doings.Serving x) new w ne (same, stops) = other_step acts tell tells u s old v stops.bytes stops.head act new ne stops.gives
other_stops acts tell tells u s old v act (doings.Refusing x) new w ne (same, stops) = ap (λ h. Handled (tell h) s) stops.same
other_stops acts tell tells u s old v act doings.Passing new w ne stops = ap (λ h. Handled (tell h) s) stops.same
other_stops acts tell tells u s old v act doings.Closing new w ne stops = absurd stops

pub other_serves : {H : Type 0} (acts : Acts H) (tell : H → Log) → Tells acts tell → (u s : ℕ) (old : H) (v : Serving) (act : Act) (doing : Doing) (new : H) (w : Serving)
    → ¬ (u ≡ s) → Serves acts u old v act doing new w → Handled (tell new) s ≡ Handled (tell old) s
other_serves acts tell tells u s old v act doing new w ne serves =
    other_stops acts tell tells u s serves.handler serves.serving act doing new w ne serves.stops
    ∙ other_given acts tell tells u s old v serves.requests serves.handler serves.serving ne serves.given

-- and nothing changes for this one but that another's requests may be given
other_phase_by : {H : Type 0} (acts : Acts H) (u s : ℕ) (old : H) (x v : Serving) (act : Act) (doing : Doing) (new : H) (w : Serving)
    → Stops acts u old x act doing new w → IsIdle v → Phase s doing act v
other_phase_by acts u s old x v act (doings.Serving y) new w (same, stops) idle = (stops.busy, λ ne. idle)
other_phase_by acts u s old x v act (doings.Refusing y) new w (same, stops) idle = idle
other_phase_by acts u s old x v act doings.Passing new w stops idle = idle
other_phase_by acts u s old x v act doings.Closing new w stops idle = absurd stops

pub other_phase : {H : Type 0} (acts : Acts H) (u s : ℕ) (old : H) (x v : Serving) (act : Act) (doing : Doing) (new : H) (w : Serving)
    → Serves acts u old x act doing new w → IsIdle v → Phase s doing act v
other_phase acts u s old x v act doing new w serves idle = other_phase_by acts u s serves.handler serves.serving v act doing new w serves.stops idle
