-- Changes of the code's links are changes of those that the ports gave and of those that wait.
use Rattle.std.specs.Bool.{MatchBool}
use Rattle.std.proofs.Common.{◌≡◌, ℕ, suc, ◌+◌, ◌%◌, Bool, true, false, List, [], ◌∷◌, ◌++◌, length, map, refl, ap, ◌∙◌, sym, subst, append_assoc, Option, Some, None, slice_get, slice_index_or}
use Rattle.std.proofs.lemmas.List.{length-set, map-append, length-replicate}
use Rattle.sw_lists.proofs.Lists.{length_append}
use Rattle.sw_record.specs.Terms.{Terms}
use Rattle.sw_past.specs.Claims.{Claim}
use Rattle.sw_link.specs.declared.memory_link.LinkStep.{LinkStep}
use Rattle.sw_world_places.specs.Arrived.{Known, come}
use Rattle.sw_world_places.specs.Links.{Arrivals, no_arrivals, with_come, at_link, kept, slots_by, accepted_by, accepted, ahead_of, emptied, TakesAhead, has_session}
use Rattle.sw_world_places.specs.declared.arrived.Claimed.{Claimed}
use Rattle.sw_world_places.specs.declared.arrived.Claimed.TheVariants as claims
use Rattle.sw_world_stands.specs.Links.{claim_of, entry, done, wait, LinksStand}
use Rattle.sw_world_stands.proofs.Gets.{map_same, map_behind, behind_get}

-- before any link
pub none_stand : (t : Terms) → LinksStand t (no_arrivals t.max_conn) [] []
none_stand t = record { entries = refl; accepted = refl; slots = length-replicate t.max_conn 0 }

-- a link that arrives waits behind the others
pub comes_stand : (t : Terms) (a : Arrivals) (ip : ℕ) (given : List (ℕ × Claim)) (waiting : List ℕ) → LinksStand t a given waiting → LinksStand t (with_come ip a) given (waiting ++ ip ∷ [])
comes_stand t a ip given waiting h =
    record {
      entries =
          map-append entry a.all (come ip ∷ [])
          ∙ ap (λ (l : List (ℕ × Option Claim)). l ++ wait ip ∷ []) h.entries
          ∙ append_assoc (map done given) (map wait waiting) (wait ip ∷ [])
          ∙ ap (λ (l : List (ℕ × Option Claim)). map done given ++ l) (sym (map-append wait waiting (ip ∷ [])));
      accepted = h.accepted;
      slots = h.slots;
    }

-- a link of which only the script's steps change
stays : (f : Known → Known) → ((l : Known) → entry (f l) ≡ entry l) → (n : ℕ) (all : List Known) (o : Option Known) → slice_get all n ≡ o → map entry (at_link f n o all) ≡ map entry all
stays f same n all None e = refl
stays f same n all (Some l) e = map_same entry all n l (f l) e (same l)

pub keeps_stand : (t : Terms) (a : Arrivals) (n : ℕ) (step : LinkStep) (given : List (ℕ × Claim)) (waiting : List ℕ) → LinksStand t a given waiting → LinksStand t (kept n step a) given waiting
keeps_stand t a n step given waiting h =
    record { entries = stays (λ (l : Known). record l { ahead = l.ahead ++ step ∷ [] }) (λ l. refl) n a.all (slice_get a.all n) refl ∙ h.entries; accepted = h.accepted; slots = h.slots }

emptied_stand : (t : Terms) (a : Arrivals) (n : ℕ) (given : List (ℕ × Claim)) (waiting : List ℕ) → LinksStand t a given waiting → LinksStand t (emptied n a) given waiting
emptied_stand t a n given waiting h =
    record { entries = stays (λ (l : Known). record l { ahead = [] }) (λ l. refl) n a.all (slice_get a.all n) refl ∙ h.entries; accepted = h.accepted; slots = h.slots }

-- the steps that were kept for a session's link are taken out
pub takes_stand : (t : Terms) (a b : Arrivals) (s : ℕ) (steps : List LinkStep) (given : List (ℕ × Claim)) (waiting : List ℕ) → LinksStand t a given waiting → TakesAhead a s steps b → LinksStand t b given waiting
takes_stand t a b s steps given waiting h k = pick (slice_index_or a.slots (s % length a.slots) 0) (has_session a (slice_index_or a.slots (s % length a.slots) 0) s) k
  where
    pick : (n : ℕ) (v : Bool) → MatchBool v ((steps ≡ ahead_of (slice_get a.all n)) × (b ≡ emptied n a)) ((steps ≡ []) × (b ≡ a)) → LinksStand t b given waiting
    pick n true q = subst (λ (x : Arrivals). LinksStand t x given waiting) (sym q.1) (emptied_stand t a n given waiting h)
    pick n false q = subst (λ (x : Arrivals). LinksStand t x given waiting) (sym q.1) h

-- the next link that waits is accepted
length_map : (xs : List (ℕ × Claim)) → length (map done xs) ≡ length xs
length_map [] = refl
length_map (x ∷ xs) = ap (λ (n : ℕ). suc n) (length_map xs)

size : (c : Claimed) (n : ℕ) (slots : List ℕ) → length (slots_by c n slots) ≡ length slots
size (claims.Drew s) n slots = length-set slots (s % length slots) n
size claims.NoSlot n slots = refl
size claims.NumbersSpent n slots = refl

pub accepts_stand : (t : Terms) (a : Arrivals) (c : Claimed) (ip : ℕ) (rest : List ℕ) (given : List (ℕ × Claim)) → LinksStand t a given (ip ∷ rest) → LinksStand t (accepted c a) (given ++ (ip, claim_of c) ∷ []) rest
accepts_stand t a c ip rest given h =
    let at : a.accepted ≡ length (map done given) = h.accepted ∙ sym (length_map given) in
    let l = behind_get entry a.all a.accepted (map done given) (map wait rest) (wait ip) h.entries at in
    subst (λ (o : Option Known). LinksStand t (accepted_by o c a) (given ++ (ip, claim_of c) ∷ []) rest) (sym l.1.0)
    (record {
      entries =
          map_behind entry a.all a.accepted (record l.0 { claim = Some c }) (map done given) (map wait rest) (wait ip) h.entries at
          ∙ ap (λ (n : ℕ). map done given ++ (n, Some (claim_of c)) ∷ map wait rest) (ap (λ (x : ℕ × Option Claim). x.0) l.1.1)
          ∙ sym (append_assoc (map done given) ((ip, Some (claim_of c)) ∷ []) (map wait rest))
          ∙ ap (λ (x : List (ℕ × Option Claim)). x ++ map wait rest) (sym (map-append done given ((ip, claim_of c) ∷ [])));
      accepted = ap (λ (n : ℕ). n + 1) h.accepted ∙ sym (length_append given ((ip, claim_of c) ∷ []));
      slots = size c a.accepted a.slots ∙ h.slots;
    })
