-- The first link of a session stands at the place that was put first.
use Rattle.std.proofs.Common.{◌≡◌, ℕ, ◌+◌, ◌<◌, ◌==◌, ◌≢◌, ◌⊎◌, inl, inr, Bool, true, false, cond, if◌then◌else◌, List, [], ◌∷◌, ◌++◌, length, map, take, get_or, Option, Some, None, refl, ap, ◌∙◌, sym, append_assoc, arith, suc, true≢false, add-one}
use Rattle.std.specs.Prelude.{nat_lt, slice_get, is_some, unwrap_or, option_map, Result, Ok, Err, IfOk}
use Rattle.sw_base.specs.declared.out_of_memory.OutOfMemory.{OutOfMemory}
use Rattle.std.specs.Ordering.{nat_cmp, is_eq}
use Rattle.std.specs.declared.cmp.Ordering.TheVariants.{Less, Equal, Greater}
use Rattle.std.specs.BTreeMap.{is_at}
use Rattle.std.proofs.lemmas.Bool.{cases_eq}
use Rattle.std.proofs.lemmas.Bool.Decides.{nat_tests}
use Rattle.std.proofs.lemmas.List.{map-append, take_more}
use Rattle.std.proofs.lemmas.Option.{slice_get_within, get_or_from_slice_get, slice_get-map, slice_get-get_or}
use Rattle.sw_data.specs.declared.ended.Ended.{Ended}
use Rattle.sw_link.specs.declared.memory_link.MemoryLink.{MemoryLink}
use Rattle.sw_record.specs.declared.record.LinkRecord.{LinkRecord}
use Rattle.sw_record.specs.Terms.{session_of}
use Rattle.sw_conn.specs.declared.conn.Conn.{Conn}
use Rattle.sw_conn.specs.declared.terms.Terms.{Terms}
use Rattle.sw_world_laws.specs.Account.{is_session, link_in}
use Rattle.sw_world_reactor_fits.specs.Plain.{over_of}
use Rattle.sw_world_account.specs.Firsts.{first_from, put_first}
use Rattle.sw_world_account.specs.Kept.{live_by, kept_links, conn_session, end_session, kept_sessions}

-- the link at a place, if there is one
abbrev pub at_place : List LinkRecord → Option ℕ → Option LinkRecord
at_place ls None = None
at_place ls (Some n) = slice_get ls n

-- the session of a link
abbrev pub own : LinkRecord → Option ℕ
own l = session_of l.state

-- ---- a place that is put

tested : (l e : Bool) → e ≡ false → is_eq (cond l Less (cond e Equal Greater)) ≡ false
tested true e h = refl
tested false e h = ap (λ b. is_eq (cond b Equal Greater)) h

alike : (l e : Bool) → l ≡ false → e ≡ true → is_eq (cond l Less (cond e Equal Greater)) ≡ true
alike l e h k = ap (λ b. is_eq (cond b Less (cond e Equal Greater))) h ∙ ap (λ b. is_eq (cond b Equal Greater)) k

pub is_same : (u s : ℕ) → is_at (nat_cmp u) s ≡ (u == s)
is_same u s = elim (cases_eq u s) [
  | inl e ↦ alike (nat_lt u s) (u == s) (grind (arith, nat_tests)) (grind (arith, nat_tests)) ∙ sym (grind (arith, nat_tests))
  | inr ne ↦ tested (nat_lt u s) (u == s) (grind (arith, nat_tests)) ∙ sym (grind (arith, nat_tests))
]

-- what a map has once a place was put
pub put_is : (x : Option ℕ) (u k at s : ℕ) (o r : Option ℕ) → r ≡ cond (is_at (nat_cmp k) s) (Some at) o → k ≡ u → x ≡ Some u → r ≡ put_first x at s o
put_is x u k at s o r e same is = e ∙ ap (λ b. cond b (Some at) o) (is_same k s ∙ ap (λ n. n == s) same) ∙ ap (λ y. put_first y at s o) (sym is)

-- ---- the first link

pick : (b : Bool) (all : List LinkRecord) (l : LinkRecord) (at : ℕ) (o : Option LinkRecord) (q : Option ℕ) → slice_get all at ≡ Some l → o ≡ at_place all q → cond b (Some l) o ≡ at_place all (cond b (Some at) q)
pick true all l at o q h e = sym h
pick false all l at o q h e = e

-- the list stands in another from this place on
abbrev From : List LinkRecord → ℕ → List LinkRecord → Type 0
From all at ls = (n : ℕ) → slice_get all (at + n) ≡ slice_get ls n

found_from : (ls all : List LinkRecord) (at s : ℕ) → From all at ls → link_in s ls ≡ at_place all (first_from s at (map own ls))
found_from [] all at s h = refl
found_from (l ∷ ls) all at s h =
    pick (is_session s (own l)) all l at (link_in s ls) (first_from s (at + 1) (map own ls))
    (ap (slice_get all) (omega arith) ∙ h 0)
    (found_from ls all (at + 1) s (λ n. ap (slice_get all) (omega arith) ∙ h (suc n)))

pub found : (ls : List LinkRecord) (s : ℕ) → link_in s ls ≡ at_place ls (first_from s 0 (map own ls))
found ls s = found_from ls ls 0 s (λ n. ap (slice_get ls) (omega arith))

-- ---- the sessions of a reactor's links

lives_own : (t : Terms) (conns : List (Conn MemoryLink ℕ)) → map own (map (live_by t) conns) ≡ map conn_session conns
lives_own t [] = refl
lives_own t (c ∷ cs) = ap (λ (zs : List (Option ℕ)). Some c.session ∷ zs) (lives_own t cs)

overs_own : (ends : List (MemoryLink × Ended)) → map own (map over_of ends) ≡ map end_session ends
overs_own [] = refl
overs_own (x ∷ xs) = ap (λ (zs : List (Option ℕ)). (x.1).session ∷ zs) (overs_own xs)

pub sessions_own : (t : Terms) (conns : List (Conn MemoryLink ℕ)) (ends : List (MemoryLink × Ended)) → map own (kept_links t conns ends) ≡ kept_sessions conns ends
sessions_own t conns ends =
    map-append own (map (live_by t) conns) (map over_of ends)
    ∙ ap (λ (zs : List (Option ℕ)). zs ++ map own (map over_of ends)) (lives_own t conns)
    ∙ ap (λ (zs : List (Option ℕ)). map conn_session conns ++ zs) (overs_own ends)

-- the first link of a session among a reactor's
pub kept_found : (t : Terms) (conns : List (Conn MemoryLink ℕ)) (ends : List (MemoryLink × Ended)) (s : ℕ) → link_in s (kept_links t conns ends) ≡ at_place (kept_links t conns ends) (first_from s 0 (kept_sessions conns ends))
kept_found t conns ends s =
    found (kept_links t conns ends) s
    ∙ ap (λ (zs : List (Option ℕ)). at_place (kept_links t conns ends) (first_from s 0 zs)) (sessions_own t conns ends)

-- ---- the place stands within

step_within : (b : Bool) (at k n : ℕ) (o : Option ℕ) → (o ≡ Some k → k < (at + 1) + n) → cond b (Some at) o ≡ Some k → k < at + (n + 1)
step_within true at k n o f e = let same : at ≡ k = ap (λ (q : Option ℕ). unwrap_or q at) e in omega arith
step_within false at k n o f e = let h : k < (at + 1) + n = f e in omega arith

within : (xs : List (Option ℕ)) (s at k : ℕ) → first_from s at xs ≡ Some k → k < at + length xs
within [] s at k e = absurd (true≢false (sym (ap is_some e)))
within (x ∷ xs) s at k e =
    let h : k < at + (length xs + 1) = step_within (is_session s x) at k (length xs) (first_from s (at + 1) xs) (λ q. within xs s (at + 1) k q) e in
    rw add-one at h

same_length : (ls : List LinkRecord) → length (map own ls) ≡ length ls
same_length [] = refl
same_length (l ∷ ls) = ap suc (same_length ls)

pub stands_within : (t : Terms) (conns : List (Conn MemoryLink ℕ)) (ends : List (MemoryLink × Ended)) (s at : ℕ) → first_from s 0 (kept_sessions conns ends) ≡ Some at → at < length (kept_links t conns ends)
stands_within t conns ends s at e =
    let own_at : first_from s 0 (map own (kept_links t conns ends)) ≡ Some at = ap (λ (zs : List (Option ℕ)). first_from s 0 zs) (sessions_own t conns ends) ∙ e in
    let h : at < 0 + length (map own (kept_links t conns ends)) = within (map own (kept_links t conns ends)) s 0 at own_at in
    let same : length (map own (kept_links t conns ends)) ≡ length (kept_links t conns ends) = same_length (kept_links t conns ends) in
    omega arith

-- what is found there, and where nothing is
pub found_there : (t : Terms) (conns : List (Conn MemoryLink ℕ)) (ends : List (MemoryLink × Ended)) (s at : ℕ) → first_from s 0 (kept_sessions conns ends) ≡ Some at → slice_get (kept_links t conns ends) at ≡ link_in s (kept_links t conns ends)
found_there t conns ends s at e = sym (kept_found t conns ends s ∙ ap (at_place (kept_links t conns ends)) e)

pub found_none : (t : Terms) (conns : List (Conn MemoryLink ℕ)) (ends : List (MemoryLink × Ended)) (s : ℕ) → first_from s 0 (kept_sessions conns ends) ≡ None → None ≡ link_in s (kept_links t conns ends)
found_none t conns ends s e = sym (kept_found t conns ends s ∙ ap (at_place (kept_links t conns ends)) e)

-- ---- loops

pub passed : {A : Type 0} (xs : List A) (i : ℕ) (x : A) → slice_get xs i ≡ Some x → take (i + 1) xs ≡ take i xs ++ x ∷ []
passed xs i x e = take_more xs i x (slice_get_within xs i x e) ∙ ap (λ y. take i xs ++ y ∷ []) (get_or_from_slice_get xs i x x e)

pub one_more : {A : Type 0} (front so new xs : List A) (i : ℕ) (x : A) → new ≡ so ++ x ∷ [] → so ≡ front ++ take i xs → slice_get xs i ≡ Some x → new ≡ front ++ take (i + 1) xs
one_more {A} front so new xs i x e h is =
    e ∙ ap (λ (zs : List A). zs ++ x ∷ []) h ∙ append_assoc front (take i xs) (x ∷ [])
    ∙ ap (λ (zs : List A). front ++ zs) (sym (passed xs i x is))

pub over_there : (ends ks : List (MemoryLink × Ended)) (at : ℕ) (x : MemoryLink × Ended) (r : Result LinkRecord OutOfMemory) → at < length ends → ks ≡ ends → x ≡ get_or ks at x → IfOk r (λ l. l ≡ over_of x) → IfOk r (λ l. slice_get (map over_of ends) at ≡ Some l)
over_there ends ks at x (Ok l) lt same is e =
    slice_get-map over_of ends at
    ∙ ap (option_map over_of) (slice_get-get_or ends at x lt ∙ ap Some (sym (is ∙ ap (λ (zs : List (MemoryLink × Ended)). get_or zs at x) same)))
    ∙ ap Some (sym e)
over_there ends ks at x (Err f) lt same is e = e
