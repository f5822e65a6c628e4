-- What is kept of reactors one by one.
use Rattle.std.proofs.Common.{◌≡◌, ℕ, zero, suc, ◌+◌, ◌<◌, ◌%◌, List, [], ◌∷◌, ◌++◌, length, map, take, get_or, refl, ap, ◌∙◌, sym, subst, Option, Some, None, slice_get}
use Rattle.sw_link.specs.declared.memory_link.MemoryLink.{MemoryLink}
use Rattle.sw_record.specs.declared.record.LinkRecord.{LinkRecord}
use Rattle.sw_reactor.specs.declared.reactor.Reactor.{Reactor}
use Rattle.sw_world_laws.specs.Account.{link_in}
use Rattle.sw_world_places.specs.Arrived.{Known}
use Rattle.sw_world_places.specs.Ends.{Keeping}
use Rattle.sw_world_places.specs.declared.arrived.Claimed.{Claimed}
use Rattle.sw_world_places.specs.declared.arrived.Claimed.TheVariants as claims
use Rattle.sw_world_reactors.specs.declared.owner.Owner.{Owner}
use Rattle.sw_world_account.specs.declared.kept.Kept.{Kept}
use Rattle.sw_world_account.specs.Kept.{kept_links}
use Rattle.sw_world_account.specs.Accounting.{found_or, record_by, record_of as link_record, links_at as kept_at}
use Rattle.sw_world.specs.Account.{links_at, AreKept}
use Rattle.sw_world.proofs.Listing.{map_alike, taken_more}

-- the record of a link goes by the links of its reactor
same_link : (slots reactors : ℕ) (f g : ℕ → List LinkRecord) → ((n : ℕ) → f n ≡ g n) → (l : Known) → link_record slots reactors f l ≡ link_record slots reactors g l
same_link slots reactors f g h l = by l.claim
  where
    by : (c : Option Claimed) → record_by slots reactors f l.ip c ≡ record_by slots reactors g l.ip c
    by None = refl
    by (Some (claims.Drew s)) = ap (λ (ls : List LinkRecord). found_or slots l.ip s (link_in s ls)) (h ((s % slots) % reactors))
    by (Some claims.NoSlot) = refl
    by (Some claims.NumbersSpent) = refl

as_many : (os : List Owner) (ks : List Kept) → AreKept os ks → length ks ≡ length os
as_many [] [] h = refl
as_many [] (k ∷ ks) h = absurd h
as_many (o ∷ os) [] h = absurd h
as_many (o ∷ os) (k ∷ ks) h = ap (λ (n : ℕ). suc n) (as_many os ks h.1)

each_kept : (os : List Owner) (ks : List Kept) → AreKept os ks → (n : ℕ) → kept_at ks n ≡ links_at os n
each_kept [] [] h n = refl
each_kept [] (k ∷ ks) h n = absurd h
each_kept (o ∷ os) [] h n = absurd h
each_kept (o ∷ os) (k ∷ ks) h zero = h.0
each_kept (o ∷ os) (k ∷ ks) h (suc n) = each_kept os ks h.1 n

-- the links' records by what is kept are those by the reactors
pub links_listed : (os : List Owner) (kept ks : List Kept) (slots : ℕ) (ls : List Known) (r : List LinkRecord) → AreKept os kept → ks ≡ kept → r ≡ map (link_record slots (length ks) (kept_at ks)) ls → r ≡ map (link_record slots (length os) (links_at os)) ls
links_listed os kept ks slots ls r h same e =
    let here : AreKept os ks = subst (AreKept os) (sym same) h in
    e
    ∙ ap (λ (n : ℕ). map (link_record slots n (kept_at ks)) ls) (as_many os ks here)
    ∙ map_alike (link_record slots (length os) (kept_at ks)) (link_record slots (length os) (links_at os)) (same_link slots (length os) (kept_at ks) (links_at os) (each_kept os ks here)) ls

one_behind : (os : List Owner) (ks : List Kept) (o : Owner) (k : Kept) → kept_links k.reactor.now.terms k.reactor.now.line.conns k.ends.now.kept ≡ kept_links o.reactor.terms o.reactor.line.conns o.ends.kept → AreKept os ks → AreKept (os ++ o ∷ []) (ks ++ k ∷ [])
one_behind [] [] o k e h = (e, tt)
one_behind [] (x ∷ ks) o k e h = absurd h
one_behind (y ∷ os) [] o k e h = absurd h
one_behind (y ∷ os) (x ∷ ks) o k e h = (h.0, one_behind os ks o k e h.1)

-- one reactor more
pub kept_more : (os : List Owner) (i : ℕ) (o : Owner) (ks more : List Kept) (k : Kept) → i < length os → o ≡ get_or os i o → more ≡ ks ++ k ∷ [] → k.reactor.now ≡ o.reactor → k.ends.now ≡ o.ends → AreKept (take i os) ks → AreKept (take (i + 1) os) more
kept_more os i o ks more k lt is pushed reactor ends h =
    let same : kept_links k.reactor.now.terms k.reactor.now.line.conns k.ends.now.kept ≡ kept_links o.reactor.terms o.reactor.line.conns o.ends.kept =
    ap (λ (x : Reactor MemoryLink ℕ). kept_links x.terms x.line.conns k.ends.now.kept) reactor ∙ ap (λ (x : Keeping). kept_links o.reactor.terms o.reactor.line.conns x.kept) ends in
    subst (λ (zs : List Owner). AreKept zs more) (sym (taken_more os i o lt is)) (subst (AreKept (take i os ++ o ∷ [])) (sym pushed) (one_behind (take i os) ks o k same h))
