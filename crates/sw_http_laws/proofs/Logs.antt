-- What one entry more changes in what a log shows.
use Rattle.std.proofs.Common.{◌≡◌, ℕ, ◌+◌, true, List, [], ◌∷◌, ◌++◌, length, refl, ap, ◌∙◌, arith, append-nil, ◌⊎◌, inl, inr}
use Rattle.std.specs.Prelude.{◌==◌}
use Rattle.std.specs.List.{concat}
use Rattle.std.proofs.lemmas.List.Folds.{concat-append}
use Rattle.sw_lists.specs.Lists.{collect, when}
use Rattle.sw_lists.proofs.Lists.{collect-append, eq_same, eq_other}
use Rattle.sw_record.specs.Dialogue.{MayFollow}
use Rattle.sw_record.specs.Logs.{of_session, event_of, events_of, told_of, packet_in, packets_in, Handled, EndsDone}
use Rattle.sw_record.specs.Order.{ClosedLast}
use Rattle.sw_record.specs.Terms.{numbered}
use Rattle.sw_record.specs.Words.{Event, Connect, Packet, Closed, Finish, Task, Act, Send, Close, Reset, Bind, Exist, Info, TaskAct, FinishAct, Table, Stats, Shutdown, Done, Given, EventGiven, Log}
use Rattle.sw_http_worker.specs.Serving.{is_done}
use Rattle.sw_http_laws.specs.Inside.{contents, bytes_on}
use Rattle.sw_http_laws.specs.Requests.{texts}

-- ---- logs

pub told_append : (s : ℕ) (xs ys : Log) → told_of s (xs ++ ys) ≡ told_of s xs ++ told_of s ys
told_append s xs ys = ap (collect (of_session s)) (collect-append event_of xs ys) ∙ collect-append (of_session s) (events_of xs) (events_of ys)

pub handled_append : (s : ℕ) (xs ys : Log) → Handled (xs ++ ys) s ≡ Handled xs s ++ Handled ys s
handled_append s xs ys = ap packets_in (told_append s xs ys) ∙ collect-append packet_in (told_of s xs) (told_of s ys)

-- an entry with an event
abbrev pub told : Event → Act → Log
told e a = (EventGiven e, a) ∷ []

when_same : (s : ℕ) (x : Event) → when (s == s) x ≡ x ∷ []
when_same s x = ap (λ b. when b x) (eq_same s s refl)

when_other : (u s : ℕ) (x : Event) → ¬ (u ≡ s) → when (u == s) x ≡ []
when_other u s x ne = ap (λ b. when b x) (eq_other u s ne)

-- of this session
pub told_connect : (s : ℕ) (a : Act) → told_of s (told (Connect s) a) ≡ Connect s ∷ []
told_connect s a = ap (λ (l : List Event). l ++ []) (when_same s (Connect s))

pub told_packet : (s i : ℕ) (b : List ℕ) (a : Act) → told_of s (told (Packet s i b) a) ≡ Packet s i b ∷ []
told_packet s i b a = ap (λ (l : List Event). l ++ []) (when_same s (Packet s i b))

pub told_closed : (s : ℕ) (a : Act) → told_of s (told (Closed s) a) ≡ Closed s ∷ []
told_closed s a = ap (λ (l : List Event). l ++ []) (when_same s (Closed s))

-- of another
pub other_connect : (u s : ℕ) (a : Act) → ¬ (u ≡ s) → told_of s (told (Connect u) a) ≡ []
other_connect u s a ne = ap (λ (l : List Event). l ++ []) (when_other u s (Connect u) ne)

pub other_packet : (u s i : ℕ) (b : List ℕ) (a : Act) → ¬ (u ≡ s) → told_of s (told (Packet u i b) a) ≡ []
other_packet u s i b a ne = ap (λ (l : List Event). l ++ []) (when_other u s (Packet u i b) ne)

pub other_closed : (u s : ℕ) (a : Act) → ¬ (u ≡ s) → told_of s (told (Closed u) a) ≡ []
other_closed u s a ne = ap (λ (l : List Event). l ++ []) (when_other u s (Closed u) ne)

-- packets of an entry
pub handled_none : (s : ℕ) (xs ys : Log) → packets_in (told_of s ys) ≡ [] → Handled (xs ++ ys) s ≡ Handled xs s
handled_none s xs ys none = handled_append s xs ys ∙ ap (λ l. Handled xs s ++ l) none ∙ append-nil (Handled xs s)

pub handled_packet : (s i : ℕ) (b : List ℕ) (a : Act) (xs : Log) → Handled (xs ++ told (Packet s i b) a) s ≡ Handled xs s ++ (i, b) ∷ []
handled_packet s i b a xs = handled_append s xs (told (Packet s i b) a) ∙ ap (λ l. Handled xs s ++ packets_in l) (told_packet s i b a)

-- ---- bytes

contents_append : (ps qs : List (ℕ × List ℕ)) → contents (ps ++ qs) ≡ contents ps ++ contents qs
contents_append [] qs = refl
contents_append (p ∷ ps) qs = ap (λ l. p.1 ∷ l) (contents_append ps qs)

pub bytes_append : (ps qs : List (ℕ × List ℕ)) → concat (contents (ps ++ qs)) ≡ concat (contents ps) ++ concat (contents qs)
bytes_append ps qs = ap concat (contents_append ps qs) ∙ concat-append (contents ps) (contents qs)

pub bytes_packet : (s i : ℕ) (b : List ℕ) (a : Act) (xs : Log) → bytes_on s (xs ++ told (Packet s i b) a) ≡ bytes_on s xs ++ b
bytes_packet s i b a xs =
    ap (λ (l : List (ℕ × List ℕ)). concat (contents l)) (handled_packet s i b a xs) ∙ bytes_append (Handled xs s) ((i, b) ∷ []) ∙ ap (λ l. bytes_on s xs ++ l) (append-nil b)

pub bytes_none : (s : ℕ) (xs ys : Log) → packets_in (told_of s ys) ≡ [] → bytes_on s (xs ++ ys) ≡ bytes_on s xs
bytes_none s xs ys none = ap (λ (l : List (ℕ × List ℕ)). concat (contents l)) (handled_none s xs ys none)

-- ---- numbers

pub numbered_one : (n : ℕ) (xs : List (List ℕ)) (x : List ℕ) → numbered n (xs ++ x ∷ []) ≡ numbered n xs ++ (n + length xs, x) ∷ []
numbered_one n [] x = let e : n ≡ n + 0 = omega arith in ap (λ m. (m, x) ∷ []) e
numbered_one n (y ∷ ys) x =
    let e : (n + 1) + length ys ≡ n + length (y ∷ ys) = omega arith in
    ap (λ (l : List (ℕ × List ℕ)). (n, y) ∷ l) (numbered_one (n + 1) ys x ∙ ap (λ m. numbered (n + 1) ys ++ (m, x) ∷ []) e)

pub texts_one : (qs : List (List ℕ × ℕ)) (q : List ℕ × ℕ) → texts (qs ++ q ∷ []) ≡ texts qs ++ q.0 ∷ []
texts_one [] q = refl
texts_one (p ∷ qs) q = ap (λ l. p.0 ∷ l) (texts_one qs q)

pub texts_length : (qs : List (List ℕ × ℕ)) → length (texts qs) ≡ length qs
texts_length [] = refl
texts_length (q ∷ qs) = let e = texts_length qs in omega (arith, e)

-- ---- dialogues

-- an event is given once the last act is Done
pub event_after : (a : Act) (e : Event) → MayFollow a (EventGiven e) → is_done a ≡ true
event_after (Send s b) e may = absurd may
event_after (Close s) e may = absurd may
event_after (Reset s) e may = absurd may
event_after (Bind s u) e may = absurd may
event_after (Exist s) e may = absurd may
event_after (Info s) e may = absurd may
event_after (TaskAct d b) e may = absurd may
event_after (FinishAct b) e may = absurd may
event_after (Table c) e may = absurd may
event_after (Stats c) e may = absurd may
event_after Shutdown e may = absurd may
event_after Done e may = refl

-- the last act of a log, or this one
abbrev pub last_of : Act → Log → Act
last_of a [] = a
last_of a (x ∷ xs) = last_of x.1 xs

last_end : (a : Act) (front : Log) (g : Given) → last_of a (front ++ (g, Done) ∷ []) ≡ Done
last_end a [] g = refl
last_end a (x ∷ xs) g = last_end x.1 xs g

pub done_last : (log : Log) → (log ≡ []) ⊎ EndsDone log → is_done (last_of Done log) ≡ true
done_last log (inl none) = ap (λ (l : Log). is_done (last_of Done l)) none
done_last log (inr (front, (given, is))) = ap (λ (l : Log). is_done (last_of Done l)) is ∙ ap is_done (last_end Done front given)

-- ---- nothing comes behind a Closed

none_behind : (xs : List Event) (x : Event) (ys : List Event) → xs ++ x ∷ ys ≡ [] → ⊥
none_behind [] x ys e = cc
none_behind (y ∷ xs) x ys e = cc

pub closed_is_last : (es : List Event) (s : ℕ) (y : Event) (ys : List Event) → ClosedLast (es ++ Closed s ∷ y ∷ ys) → ⊥
closed_is_last [] s y ys is = cc
closed_is_last (Connect u ∷ es) s y ys is = closed_is_last es s y ys is
closed_is_last (Packet u i b ∷ es) s y ys is = closed_is_last es s y ys is
closed_is_last (Closed u ∷ es) s y ys is = none_behind es (Closed s) (y ∷ ys) is
closed_is_last (Finish n b ∷ es) s y ys is = closed_is_last es s y ys is
closed_is_last (Task w n b ∷ es) s y ys is = closed_is_last es s y ys is

pub length_one : (qs : List (List ℕ × ℕ)) (q : List ℕ × ℕ) → length (qs ++ q ∷ []) ≡ length qs + 1
length_one [] q = refl
length_one (p ∷ qs) q = let e = length_one qs q in omega (arith, e)
