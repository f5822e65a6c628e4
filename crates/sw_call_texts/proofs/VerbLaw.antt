-- A word, a key and what stands behind it.
use Rattle.std.proofs.Common.{◌≡◌, ℕ, ◌<◌, Bool, true, false, cond, List, [], ◌∷◌, ◌++◌, length, Option, Some, None, refl, ap, sym, ◌∙◌, subst, append_assoc, arith, ℤ}
use Rattle.std.specs.Prelude.{codes}
use Rattle.std.specs.Fmt.{signed_decimal}
use Rattle.std.specs.List.{AllByRecursion, flat_map}
use Rattle.std.specs.Str.{bytes_eq}
use Rattle.std.proofs.lemmas.List.{append-nil}
use Rattle.std.proofs.lemmas.Slice.Eq.{bytes_eq-Decides}
use Rattle.sw_text.specs.Then.{◌>>=◌}
use Rattle.sw_text.specs.Hex.{hex, bytes_text}
use Rattle.sw_call.specs.declared.verbs.Verb.{Verb}
use Rattle.sw_call.specs.declared.verbs.Verb.TheVariants as verbs
use Rattle.sw_call.specs.Calls.{pairs_behind, set_of, alone, step_behind, incr_of, decr_of, verb_named, call_on}
use Rattle.sw_log_text.specs.Calls.{pair_text, keyed_text, set_text, step_text, call_text}
use Rattle.sw_call_texts.specs.Spelled.{IsKeyText, IsStepText, IsCall}
use Rattle.sw_call_texts.proofs.Peel.{first_of}
use Rattle.sw_call_texts.proofs.Cuts.{behind}
use Rattle.sw_call_texts.proofs.Words.{name_plain}
use Rattle.sw_call_texts.proofs.PairLaw.{Pair, pairs_read, step_body, step_behind_read}

pub equal : (xs ys : List ℕ) → bytes_eq xs ys ≡ true → xs ≡ ys
equal xs ys e = let d = bytes_eq-Decides xs ys in d.0 e

-- ---- texts

pub key_text : (key : List ℕ) → 0 < length key → bytes_text key ≡ hex key
key_text [] some = absurd (omega (arith, some))
key_text (b ∷ bs) some = refl

-- a word and a key with nothing behind it
pub keyed_is : (word full key : List ℕ) → full ≡ word ++ 32 ∷ [] → 0 < length key → word ++ 32 ∷ (hex key ++ []) ≡ keyed_text full key
keyed_is word full key is some =
    ap (λ (t : List ℕ). word ++ 32 ∷ t) (append-nil (hex key))
    ∙ sym (append_assoc word (32 ∷ []) (hex key))
    ∙ ap (λ (t : List ℕ). t ++ hex key) (sym is)
    ∙ ap (λ (t : List ℕ). full ++ t) (sym (key_text key some))

pub set_is : (word key tail : List ℕ) (ps : List Pair) → word ≡ codes "set" → 0 < length key → tail ≡ flat_map pair_text ps → word ++ 32 ∷ (hex key ++ tail) ≡ set_text key ps
set_is word key tail ps is some t = rw (is, t, key_text key some) refl

pub step_is : (word full key tail name : List ℕ) (by : ℤ) → full ≡ word ++ 32 ∷ [] → 0 < length key → IsStepText name by → tail ≡ 32 ∷ step_body name by → word ++ 32 ∷ (hex key ++ tail) ≡ step_text full key name by
step_is word full key tail name by is some step t = rw (t, is, key_text key some, name_plain name step.0) (simp append_assoc)

-- ---- the word and what is behind the key are a verb

-- the verb's call on a key is printed with the word, the key and what stands behind it
abbrev pub IsVerbText : List ℕ → Option (List ℕ) → List ℕ → Verb → Type 0
IsVerbText word o key v = IsCall (call_on v key) × (word ++ 32 ∷ (hex key ++ behind 32 o) ≡ call_text (call_on v key))

full : (word closed : List ℕ) → word ≡ closed → closed ++ 32 ∷ [] ≡ word ++ 32 ∷ []
full word closed is = ap (λ (t : List ℕ). t ++ 32 ∷ []) (sym is)

set_named : (word key : List ℕ) (o : Option (List ℕ)) (v : Verb) → word ≡ codes "set" → set_of o ≡ Some v → IsKeyText key → IsVerbText word o key v
unfolding set_of
set_named word key o v is e k =
    let ps = first_of (pairs_behind o) (λ (ps : List Pair). Some (verbs.Set ps)) v e in
    let same : verbs.Set ps.0 ≡ v = let f = ps.2 in cc in
    let r = pairs_read o ps.0 ps.1 in
    subst (λ (w : Verb). IsVerbText word o key w) same ((k, r.0), set_is word key (behind 32 o) ps.0 is k.0 r.1)

alone_named : (word whole key : List ℕ) (o : Option (List ℕ)) (w v : Verb) → alone w o ≡ Some v → whole ≡ word ++ 32 ∷ [] → 0 < length key → IsCall (call_on w key) → call_text (call_on w key) ≡ keyed_text whole key → IsVerbText word o key v
alone_named word whole key None w v e is some fits text =
    let same : w ≡ v = cc in
    subst (λ (u : Verb). IsVerbText word None key u) same (fits, keyed_is word whole key is some ∙ sym text)
alone_named word whole key (Some rest) w v e is some fits text = absurd cc

incr_named : (word key : List ℕ) (o : Option (List ℕ)) (v : Verb) → word ≡ codes "incr" → incr_of o ≡ Some v → IsKeyText key → IsVerbText word o key v
unfolding incr_of
incr_named word key o v is e k =
    let s = first_of (step_behind o) (λ (s : List ℕ × ℤ). Some (verbs.Incr s.0 s.1)) v e in
    let same : verbs.Incr s.0.0 s.0.1 ≡ v = let f = s.2 in cc in
    let r = step_behind_read o s.0 s.1 in
    subst (λ (w : Verb). IsVerbText word o key w) same ((k, r.0), step_is word (codes "incr ") key (behind 32 o) s.0.0 s.0.1 (full word (codes "incr") is) k.0 r.0 r.1)

decr_named : (word key : List ℕ) (o : Option (List ℕ)) (v : Verb) → word ≡ codes "decr" → decr_of o ≡ Some v → IsKeyText key → IsVerbText word o key v
unfolding decr_of
decr_named word key o v is e k =
    let s = first_of (step_behind o) (λ (s : List ℕ × ℤ). Some (verbs.Decr s.0 s.1)) v e in
    let same : verbs.Decr s.0.0 s.0.1 ≡ v = let f = s.2 in cc in
    let r = step_behind_read o s.0 s.1 in
    subst (λ (w : Verb). IsVerbText word o key w) same ((k, r.0), step_is word (codes "decr ") key (behind 32 o) s.0.0 s.0.1 (full word (codes "decr") is) k.0 r.0 r.1)

named_by : (a b c d f g : Bool) (word key : List ℕ) (o : Option (List ℕ)) (v : Verb) → bytes_eq word (codes "set") ≡ a → bytes_eq word (codes "get") ≡ b → bytes_eq word (codes "exist") ≡ c → bytes_eq word (codes "del") ≡ d → bytes_eq word (codes "incr") ≡ f → bytes_eq word (codes "decr") ≡ g
    → cond a (set_of o) (cond b (alone verbs.Get o) (cond c (alone verbs.Exist o) (cond d (alone verbs.Del o) (cond f (incr_of o) (cond g (decr_of o) None))))) ≡ Some v → IsKeyText key → IsVerbText word o key v
named_by true b c d f g word key o v s1 s2 s3 s4 s5 s6 e k = set_named word key o v (equal word (codes "set") s1) e k
named_by false true c d f g word key o v s1 s2 s3 s4 s5 s6 e k = alone_named word (codes "get ") key o verbs.Get v e (full word (codes "get") (equal word (codes "get") s2)) k.0 k refl
named_by false false true d f g word key o v s1 s2 s3 s4 s5 s6 e k = alone_named word (codes "exist ") key o verbs.Exist v e (full word (codes "exist") (equal word (codes "exist") s3)) k.0 k refl
named_by false false false true f g word key o v s1 s2 s3 s4 s5 s6 e k = alone_named word (codes "del ") key o verbs.Del v e (full word (codes "del") (equal word (codes "del") s4)) k.0 k refl
named_by false false false false true g word key o v s1 s2 s3 s4 s5 s6 e k = incr_named word key o v (equal word (codes "incr") s5) e k
named_by false false false false false true word key o v s1 s2 s3 s4 s5 s6 e k = decr_named word key o v (equal word (codes "decr") s6) e k
named_by false false false false false false word key o v s1 s2 s3 s4 s5 s6 e k = absurd cc

pub named_is : (word key : List ℕ) (o : Option (List ℕ)) (v : Verb) → verb_named word o ≡ Some v → IsKeyText key → IsVerbText word o key v
named_is word key o v e k =
    named_by (bytes_eq word (codes "set")) (bytes_eq word (codes "get")) (bytes_eq word (codes "exist")) (bytes_eq word (codes "del")) (bytes_eq word (codes "incr")) (bytes_eq word (codes "decr")) word key o v refl refl refl refl refl refl e k
