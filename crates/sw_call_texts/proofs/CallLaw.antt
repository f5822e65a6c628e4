-- A text is a call exactly where it is printed so.
use Rattle.std.proofs.Common.{◌≡◌, ◌↔◌, ℕ, ◌<◌, Bool, true, false, cond, List, [], ◌∷◌, ◌++◌, length, Option, Some, None, refl, ap, sym, ◌∙◌, subst, arith, ℤ}
use Rattle.std.specs.Prelude.{codes}
use Rattle.std.specs.List.{AllByRecursion, flat_map}
use Rattle.std.specs.Str.{bytes_eq}
use Rattle.std.proofs.lemmas.List.{append-nil}
use Rattle.sw_text.specs.Then.{◌>>=◌}
use Rattle.sw_text.specs.Hex.{hex, bytes_of}
use Rattle.sw_text.specs.Parts.{cut_at, part_at}
use Rattle.sw_text.proofs.AgreeLaw.{bytes}
use Rattle.sw_base.specs.declared.table.Call.{Call}
use Rattle.sw_base.specs.declared.table.Call.TheVariants.{Set, Get, Exist, Del, Incr, Decr, Count}
use Rattle.sw_call.specs.declared.verbs.Verb.{Verb}
use Rattle.sw_call.specs.declared.verbs.Verb.TheVariants as verbs
use Rattle.sw_call.specs.Calls.{set_of, incr_of, decr_of, verb_named, with_text, verb_parts, verb_of, call_on, keyed_of, call_of}
use Rattle.sw_log_text.specs.Calls.{keyed_text, set_text, step_text, call_text}
use Rattle.sw_call_texts.specs.Spelled.{IsPair, IsKeyText, IsStepText, IsCall}
use Rattle.sw_call_texts.proofs.Peel.{first_of}
use Rattle.sw_call_texts.proofs.Cuts.{Without, behind, cut_plain, cut_none, cut_joins, part_plain, part_is, without_test}
use Rattle.sw_call_texts.proofs.Words.{without_low, hex_word}
use Rattle.sw_call_texts.proofs.PairLaw.{Pair, behind_key, pairs_back, pairs_are, step_body, step_back}
use Rattle.sw_call_texts.proofs.VerbLaw.{equal, keyed_is, set_is, step_is, named_is}

-- ---- what is printed is read

key_plain : (key : List ℕ) → IsKeyText key → Without 32 (hex key)
key_plain key k = without_low 32 (hex key) (omega arith) (hex_word key k.1)

-- where the key ends
key_cut : (key : List ℕ) (o : Option (List ℕ)) → IsKeyText key → cut_at 32 (hex key ++ behind 32 o) ≡ (hex key, o)
key_cut key None k = ap (λ (t : List ℕ). cut_at 32 t) (append-nil (hex key)) ∙ cut_none 32 (hex key) (key_plain key k)
key_cut key (Some rest) k = cut_plain 32 (hex key) rest (key_plain key k)

key_back : (key : List ℕ) → IsKeyText key → bytes_of (hex key) ≡ Some key
key_back key k = let law = bytes (hex key) key in law.1 (refl, k.0, k.1)

verb_back : (word key : List ℕ) (o : Option (List ℕ)) (v : Verb) → Without 32 word → IsKeyText key → verb_named word o ≡ Some v → verb_of (word ++ 32 ∷ (hex key ++ behind 32 o)) ≡ Some (v, hex key)
unfolding verb_of
verb_back word key o v plain k named =
    ap (λ (x : Option (List ℕ × List ℕ)). x >>= (λ (p : List ℕ × List ℕ). verb_parts p.0 (cut_at 32 p.1))) (part_plain 32 word (hex key ++ behind 32 o) plain)
    ∙ ap (λ (q : List ℕ × Option (List ℕ)). verb_parts word q) (key_cut key o k)
    ∙ ap (λ (m : Option Verb). with_text (hex key) m) named

keyed_back : (word key : List ℕ) (o : Option (List ℕ)) (v : Verb) → Without 32 word → IsKeyText key → verb_named word o ≡ Some v → keyed_of (word ++ 32 ∷ (hex key ++ behind 32 o)) ≡ Some (call_on v key)
unfolding keyed_of
keyed_back word key o v plain k named =
    ap (λ (x : Option (Verb × List ℕ)). x >>= (λ (r : Verb × List ℕ). bytes_of r.1 >>= (λ (b : List ℕ). Some (call_on r.0 b)))) (verb_back word key o v plain k named)
    ∙ ap (λ (x : Option (List ℕ)). x >>= (λ (b : List ℕ). Some (call_on v b))) (key_back key k)

-- no such text is `count`
other : (text whole : List ℕ) (c : Call) → text ≡ whole → bytes_eq text (codes "count") ≡ false → keyed_of text ≡ Some c → call_of whole ≡ Some c
other text whole c same not_count e = rw (← same, not_count) e

set_back : (ps : List Pair) → AllByRecursion IsPair ps → set_of (behind_key ps) ≡ Some (verbs.Set ps)
unfolding set_of
set_back ps all = ap (λ (x : Option (List Pair)). x >>= (λ (qs : List Pair). Some (verbs.Set qs))) (pairs_back ps all)

incr_back : (name : List ℕ) (by : ℤ) → IsStepText name by → incr_of (Some (step_body name by)) ≡ Some (verbs.Incr name by)
unfolding incr_of
incr_back name by is = ap (λ (x : Option (List ℕ × ℤ)). x >>= (λ (s : List ℕ × ℤ). Some (verbs.Incr s.0 s.1))) (step_back name by is)

decr_back : (name : List ℕ) (by : ℤ) → IsStepText name by → decr_of (Some (step_body name by)) ≡ Some (verbs.Decr name by)
unfolding decr_of
decr_back name by is = ap (λ (x : Option (List ℕ × ℤ)). x >>= (λ (s : List ℕ × ℤ). Some (verbs.Decr s.0 s.1))) (step_back name by is)

pub call_back : (c : Call) → IsCall c → call_of (call_text c) ≡ Some c
call_back (Set key ps) is =
    other (codes "set" ++ 32 ∷ (hex key ++ behind 32 (behind_key ps))) (set_text key ps) (Set key ps) (set_is (codes "set") key (behind 32 (behind_key ps)) ps refl is.0.0 (sym (pairs_are ps is.1))) refl
    (keyed_back (codes "set") key (behind_key ps) (verbs.Set ps) (without_test 32 (codes "set") refl) is.0 (set_back ps is.1))
call_back (Get key) is =
    other (codes "get" ++ 32 ∷ (hex key ++ [])) (keyed_text (codes "get ") key) (Get key) (keyed_is (codes "get") (codes "get ") key refl is.0) refl
    (keyed_back (codes "get") key None verbs.Get (without_test 32 (codes "get") refl) is refl)
call_back (Exist key) is =
    other (codes "exist" ++ 32 ∷ (hex key ++ [])) (keyed_text (codes "exist ") key) (Exist key) (keyed_is (codes "exist") (codes "exist ") key refl is.0) refl
    (keyed_back (codes "exist") key None verbs.Exist (without_test 32 (codes "exist") refl) is refl)
call_back (Del key) is =
    other (codes "del" ++ 32 ∷ (hex key ++ [])) (keyed_text (codes "del ") key) (Del key) (keyed_is (codes "del") (codes "del ") key refl is.0) refl
    (keyed_back (codes "del") key None verbs.Del (without_test 32 (codes "del") refl) is refl)
call_back (Incr key name by) is =
    other (codes "incr" ++ 32 ∷ (hex key ++ 32 ∷ step_body name by)) (step_text (codes "incr ") key name by) (Incr key name by) (step_is (codes "incr") (codes "incr ") key (32 ∷ step_body name by) name by refl is.0.0 is.1 refl) refl
    (keyed_back (codes "incr") key (Some (step_body name by)) (verbs.Incr name by) (without_test 32 (codes "incr") refl) is.0 (incr_back name by is.1))
call_back (Decr key name by) is =
    other (codes "decr" ++ 32 ∷ (hex key ++ 32 ∷ step_body name by)) (step_text (codes "decr ") key name by) (Decr key name by) (step_is (codes "decr") (codes "decr ") key (32 ∷ step_body name by) name by refl is.0.0 is.1 refl) refl
    (keyed_back (codes "decr") key (Some (step_body name by)) (verbs.Decr name by) (without_test 32 (codes "decr") refl) is.0 (decr_back name by is.1))
call_back Count is = refl

-- ---- what is read is printed so

abbrev IsSpelled : List ℕ → Call → Type 0
IsSpelled text c = IsCall c × (text ≡ call_text c)

with_is : (key : List ℕ) (o : Option Verb) (r : Verb × List ℕ) → with_text key o ≡ Some r → (o ≡ Some r.0) × (key ≡ r.1)
with_is key None r e = absurd cc
with_is key (Some v) r e =
    let f : (v, key) ≡ r = cc in
    (ap (λ (q : Verb × List ℕ). Some q.0) f, ap (λ (q : Verb × List ℕ). q.1) f)

whole_is : (text word rest front tail key printed : List ℕ) → text ≡ word ++ 32 ∷ rest → rest ≡ front ++ tail → front ≡ key → word ++ 32 ∷ (key ++ tail) ≡ printed → text ≡ printed
whole_is text word rest front tail key printed a b c d = rw (a, b, c) d

verb_read : (text key : List ℕ) (r : Verb × List ℕ) → verb_of text ≡ Some r → IsKeyText key → r.1 ≡ hex key → IsSpelled text (call_on r.0 key)
unfolding verb_of
verb_read text key r e k spelt =
    let p = first_of (part_at 32 text) (λ (p : List ℕ × List ℕ). verb_parts p.0 (cut_at 32 p.1)) r e in
    let w = with_is (cut_at 32 p.0.1).0 (verb_named p.0.0 (cut_at 32 p.0.1).1) r p.2 in
    let named = named_is p.0.0 key (cut_at 32 p.0.1).1 r.0 w.0 k in
    (named.0, whole_is text p.0.0 p.0.1 (cut_at 32 p.0.1).0 (behind 32 (cut_at 32 p.0.1).1) (hex key) (call_text (call_on r.0 key)) (part_is 32 text p.0 p.1) (cut_joins 32 p.0.1) (w.1 ∙ spelt) named.1)

keyed_read : (text : List ℕ) (c : Call) → keyed_of text ≡ Some c → IsSpelled text c
unfolding keyed_of
keyed_read text c e =
    let r = first_of (verb_of text) (λ (v : Verb × List ℕ). bytes_of v.1 >>= (λ (key : List ℕ). Some (call_on v.0 key))) c e in
    let k = first_of (bytes_of r.0.1) (λ (key : List ℕ). Some (call_on r.0.0 key)) c r.2 in
    let same : call_on r.0.0 k.0 ≡ c = let f = k.2 in cc in
    let law = bytes r.0.1 k.0 in
    let spelt = law.0 k.1 in
    subst (λ (d : Call). IsSpelled text d) same (verb_read text k.0 r.0 r.1 (spelt.1, spelt.2) spelt.0)

call_by : (t : Bool) (text : List ℕ) (c : Call) → bytes_eq text (codes "count") ≡ t → cond t (Some Count) (keyed_of text) ≡ Some c → IsSpelled text c
call_by true text c is e = let same : Count ≡ c = cc in subst (λ (d : Call). IsSpelled text d) same (tt, equal text (codes "count") is)
call_by false text c is e = keyed_read text c e

pub call_read : (text : List ℕ) (c : Call) → call_of text ≡ Some c → IsCall c × (text ≡ call_text c)
call_read text c e = call_by (bytes_eq text (codes "count")) text c refl e

-- ---- both

pub calls : (text : List ℕ) (c : Call) → (call_of text ≡ Some c) ↔ (IsCall c × (text ≡ call_text c))
calls text c = (call_read text c, λ (e : IsSpelled text c). rw e.1 (call_back c e.0))
