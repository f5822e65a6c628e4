-- A log says what it has said for good and what its last act says; one more entry settles the last act.
use Rattle.std.proofs.Common.{◌≡◌, ℕ, List, [], ◌∷◌, ◌++◌, refl, ap, ◌∙◌, sym, append-nil, append_assoc}
use Rattle.sw_record.specs.Tasks.{post_of, posted_by, posts_after, posts, now_then, give_of, gave_by, made_after, made}
use Rattle.sw_record.specs.Terms.{Terms}
use Rattle.sw_record.specs.Words.{Act, Done, Given, Log}
use Rattle.sw_past.specs.Messages.{Message}
use Rattle.sw_past.specs.Said.{owed_then, said_by, said_last, said_after, said, last_after, owed_after, now_after, settled_after, posted_after, given_after, settled}

said_is : (t : Terms) (s : ℕ) (owed : List Message) (act : Act) (log : Log) → said_after t s owed act log ≡ settled_after t s owed act log ++ said_last s (owed_after t s owed log) (last_after act log)
said_is t s owed act [] = refl
said_is t s owed act (x ∷ xs) = ap (λ ms. said_by s owed act x.0 ++ ms) (said_is t s (owed_then t s owed x.0) x.1 xs) ∙ sym (append_assoc (said_by s owed act x.0) (settled_after t s (owed_then t s owed x.0) x.1 xs) (said_last s (owed_after t s (owed_then t s owed x.0) xs) (last_after x.1 xs)))

settled_is : (t : Terms) (s : ℕ) (owed : List Message) (act : Act) (log : Log) (g : Given) (a : Act) → settled_after t s owed act (log ++ (g, a) ∷ []) ≡ settled_after t s owed act log ++ said_by s (owed_after t s owed log) (last_after act log) g
settled_is t s owed act [] g a = append-nil (said_by s owed act g)
settled_is t s owed act (x ∷ xs) g a = ap (λ ms. said_by s owed act x.0 ++ ms) (settled_is t s (owed_then t s owed x.0) x.1 xs g a) ∙ sym (append_assoc (said_by s owed act x.0) (settled_after t s (owed_then t s owed x.0) x.1 xs) (said_by s (owed_after t s (owed_then t s owed x.0) xs) (last_after x.1 xs) g))

pub said_settled : (t : Terms) (s : ℕ) (log : Log) → said t s log ≡ settled t s log ++ said_last s (owed_after t s [] log) (last_after Done log)
said_settled t s log = said_is t s [] Done log

pub settled_more : (t : Terms) (s : ℕ) (log : Log) (g : Given) (a : Act) → settled t s (log ++ (g, a) ∷ []) ≡ settled t s log ++ said_by s (owed_after t s [] log) (last_after Done log) g
settled_more t s log g a = settled_is t s [] Done log g a

posts_is : (act : Act) (log : Log) → posts_after act log ≡ posted_after act log ++ post_of (last_after act log)
posts_is act [] = refl
posts_is act (x ∷ xs) = ap (λ ps. posted_by act x.0 ++ ps) (posts_is x.1 xs) ∙ sym (append_assoc (posted_by act x.0) (posted_after x.1 xs) (post_of (last_after x.1 xs)))

pub posts_settled : (log : Log) → posts log ≡ posted_after Done log ++ post_of (last_after Done log)
posts_settled log = posts_is Done log

posted_is : (act : Act) (log : Log) (g : Given) (a : Act) → posted_after act (log ++ (g, a) ∷ []) ≡ posted_after act log ++ posted_by (last_after act log) g
posted_is act [] g a = append-nil (posted_by act g)
posted_is act (x ∷ xs) g a = ap (λ ps. posted_by act x.0 ++ ps) (posted_is x.1 xs g a) ∙ sym (append_assoc (posted_by act x.0) (posted_after x.1 xs) (posted_by (last_after x.1 xs) g))

pub posted_more : (log : Log) (g : Given) (a : Act) → posted_after Done (log ++ (g, a) ∷ []) ≡ posted_after Done log ++ posted_by (last_after Done log) g
posted_more log g a = posted_is Done log g a

made_is : (w : ℕ) (now : List ℕ) (act : Act) (log : Log) → made_after w now act log ≡ given_after w now act log ++ give_of (now_after w now log) (last_after act log)
made_is w now act [] = refl
made_is w now act (x ∷ xs) = ap (λ ps. gave_by now act x.0 ++ ps) (made_is w (now_then w now x.0) x.1 xs) ∙ sym (append_assoc (gave_by now act x.0) (given_after w (now_then w now x.0) x.1 xs) (give_of (now_after w (now_then w now x.0) xs) (last_after x.1 xs)))

pub made_settled : (w : ℕ) (log : Log) → made w log ≡ given_after w [] Done log ++ give_of (now_after w [] log) (last_after Done log)
made_settled w log = made_is w [] Done log

given_is : (w : ℕ) (now : List ℕ) (act : Act) (log : Log) (g : Given) (a : Act) → given_after w now act (log ++ (g, a) ∷ []) ≡ given_after w now act log ++ gave_by (now_after w now log) (last_after act log) g
given_is w now act [] g a = append-nil (gave_by now act g)
given_is w now act (x ∷ xs) g a = ap (λ ps. gave_by now act x.0 ++ ps) (given_is w (now_then w now x.0) x.1 xs g a) ∙ sym (append_assoc (gave_by now act x.0) (given_after w (now_then w now x.0) x.1 xs) (gave_by (now_after w (now_then w now x.0) xs) (last_after x.1 xs) g))

pub given_more : (w : ℕ) (log : Log) (g : Given) (a : Act) → given_after w [] Done (log ++ (g, a) ∷ []) ≡ given_after w [] Done log ++ gave_by (now_after w [] log) (last_after Done log) g
given_more w log g a = given_is w [] Done log g a
