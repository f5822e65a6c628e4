-- The record of each link is that of the world's entry for it.
use Rattle.std.proofs.Common.{◌≡◌, ℕ, ◌%◌, List, [], ◌∷◌, ◌++◌, map, Option, Some, None, refl, ap, ◌∙◌, sym}
use Rattle.std.proofs.lemmas.List.{map-append}
use Rattle.sw_lists.specs.Lists.{collect}
use Rattle.sw_record.specs.Terms.{Terms}
use Rattle.sw_record.specs.declared.record.LinkRecord.{LinkRecord}
use Rattle.sw_record.specs.declared.record.LinkState.TheVariants.{Waiting}
use Rattle.sw_past.specs.Claims.{Claim, Drew}
use Rattle.sw_world_laws.specs.Account.{link_in, link_or, untouched, link_by, links_by, waits}
use Rattle.sw_world_places.specs.Arrived.{Known}
use Rattle.sw_world_places.specs.Links.{Arrivals}
use Rattle.sw_world_places.specs.declared.arrived.Claimed.{Claimed}
use Rattle.sw_world_places.specs.declared.arrived.Claimed.TheVariants as claims
use Rattle.sw_world_stands.specs.Links.{claims_of, entry, done, wait, LinksStand}
use Rattle.sw_world_account.specs.Accounting.{found_or, record_by, record_of}

-- the record of an entry
abbrev entry_by : Terms → (ℕ → List LinkRecord) → ℕ → Option Claim → LinkRecord
entry_by t kept ip None = untouched ip Waiting
entry_by t kept ip (Some c) = link_by t kept ip c

abbrev of_entry : Terms → (ℕ → List LinkRecord) → ℕ × Option Claim → LinkRecord
of_entry t kept x = entry_by t kept x.0 x.1

same_link : (t : Terms) (ip s : ℕ) (o : Option LinkRecord) → found_or t.max_conn ip s o ≡ link_or t ip s o
same_link t ip s None = refl
same_link t ip s (Some l) = refl

by_claim : (t : Terms) (kept : ℕ → List LinkRecord) (ip : ℕ) (c : Option Claimed) → record_by t.max_conn t.reactor_num kept ip c ≡ entry_by t kept ip (claims_of c)
by_claim t kept ip None = refl
by_claim t kept ip (Some (claims.Drew s)) = same_link t ip s (link_in s (kept ((s % t.max_conn) % t.reactor_num)))
by_claim t kept ip (Some claims.NoSlot) = refl
by_claim t kept ip (Some claims.NumbersSpent) = refl

by_entries : (t : Terms) (kept : ℕ → List LinkRecord) (ls : List Known) → map (record_of t.max_conn t.reactor_num kept) ls ≡ map (of_entry t kept) (map entry ls)
by_entries t kept [] = refl
by_entries t kept (l ∷ ls) =
    ap (λ (x : LinkRecord). x ∷ map (record_of t.max_conn t.reactor_num kept) ls) (by_claim t kept l.ip l.claim)
    ∙ ap (λ (zs : List LinkRecord). entry_by t kept l.ip (claims_of l.claim) ∷ zs) (by_entries t kept ls)

accepted : (t : Terms) (kept : ℕ → List LinkRecord) (xs : List (ℕ × Claim)) → map (of_entry t kept) (map done xs) ≡ collect (links_by t kept) xs
accepted t kept [] = refl
accepted t kept (x ∷ xs) = ap (λ (zs : List LinkRecord). link_by t kept x.0 x.1 ∷ zs) (accepted t kept xs)

waiting : (t : Terms) (kept : ℕ → List LinkRecord) (ips : List ℕ) → map (of_entry t kept) (map wait ips) ≡ collect waits ips
waiting t kept [] = refl
waiting t kept (ip ∷ ips) = ap (λ (zs : List LinkRecord). untouched ip Waiting ∷ zs) (waiting t kept ips)

pub links_are : (t : Terms) (a : Arrivals) (given : List (ℕ × Claim)) (ips : List ℕ) (kept : ℕ → List LinkRecord) → LinksStand t a given ips → map (record_of t.max_conn t.reactor_num kept) a.all ≡ collect (links_by t kept) given ++ collect waits ips
links_are t a given ips kept h =
    by_entries t kept a.all
    ∙ ap (map (of_entry t kept)) h.entries
    ∙ map-append (of_entry t kept) (map done given) (map wait ips)
    ∙ ap (λ (zs : List LinkRecord). zs ++ map (of_entry t kept) (map wait ips)) (accepted t kept given)
    ∙ ap (λ (zs : List LinkRecord). collect (links_by t kept) given ++ zs) (waiting t kept ips)
