-- What the links of the record told is told by their scripts.
use Rattle.std.proofs.Common.{◌≡◌, ℕ, ◌<◌, ◌%◌, ◌==◌, Bool, true, false, List, [], ◌∷◌, ◌++◌, length, map, refl, ap, ◌∙◌, sym, arith, Option, Some, None, slice_get}
use native.Mathlib.Nat.{mod-lt}
use Rattle.std.proofs.lemmas.List.{map-append}
use Rattle.std.specs.Prelude.{if◌then◌else◌}
use Rattle.sw_lists.specs.Lists.{collect}
use Rattle.sw_lists.proofs.Lists.{eq_is}
use Rattle.sw_step.specs.declared.actor.ActorId.TheVariants.{Reactor}
use Rattle.sw_link.specs.declared.memory_link.MemoryLink.{MemoryLink}
use Rattle.sw_record.specs.Terms.{Terms, reactor_of, session_of}
use Rattle.sw_record.specs.declared.record.LinkRecord.{LinkRecord}
use Rattle.sw_table_laws.specs.Table.{Shape}
use Rattle.sw_past.specs.Claims.{Claim, Drew}
use Rattle.sw_reactor_table.specs.Reactor.{Reactor as Table}
use Rattle.sw_world_laws.specs.Shows.{Tells}
use Rattle.sw_world_laws.specs.World.{Core}
use Rattle.sw_world_laws.specs.Account.{is_session, link_in, untold, tells_by, none_told, outside}
use Rattle.sw_world_laws.proofs.Locals.{lt_test}
use Rattle.sw_world_hands.specs.Hands.{Crews}
use Rattle.sw_world_reactor_fits.specs.Plain.{memory_tells, EndTold, ReactorIs}
use Rattle.sw_world_reactor_fits.proofs.Others.{end_is_told, fault_is_told}
use Rattle.sw_world_reactor.specs.Reactors.{told_by}
use Rattle.sw_world_places.specs.Arrived.{Known}
use Rattle.sw_world_places.specs.declared.arrived.Claimed.{Claimed}
use Rattle.sw_world_places.specs.declared.arrived.Claimed.TheVariants as claims
use Rattle.sw_world_reactors.specs.declared.owner.Owner.{Owner}
use Rattle.sw_world_stands.proofs.Gets.{some_same}
use Rattle.sw_world_stands.specs.Links.{claims_of, entry, done, wait}
use Rattle.sw_world_steps.specs.Server.{IsServed, server, AState}
use Rattle.sw_world_crew.specs.declared.recorded.Recorded.{Recorded}
use Rattle.sw_world_crew.specs.Recorded.{log_of}
use Rattle.sw_world_whole.specs.Whole.{Stands}
use Rattle.sw_world_state.specs.declared.state.State.{State}
use Rattle.sw_world_state.specs.State.{parts_of, views}
use Rattle.sw_world_goes.specs.Ready.{Ready}
use Rattle.sw_world_account.specs.Accounting.{found_or, record_by}
use Rattle.sw_world.specs.Account.{links_at, link_of_code}
use Rattle.sw_world.specs.Right.{IsTold, IsOutside}
use Rattle.sw_world.proofs.Listing.{map_found, map_shown}

-- the link that is found by a session has it
session_is : (n : ℕ) (o : Option ℕ) → is_session n o ≡ true → o ≡ Some n
session_is n None e = absurd (cc)
session_is n (Some u) e = ap Some (eq_is u n e)

found_by : (n : ℕ) (l : LinkRecord) (ls : List LinkRecord) (k : LinkRecord) (b : Bool) → is_session n (session_of l.state) ≡ b → (if b then Some l else link_in n ls) ≡ Some k → (link_in n ls ≡ Some k → session_of k.state ≡ Some n) → session_of k.state ≡ Some n
found_by n l ls k true q h rest = ap (λ (x : LinkRecord). session_of x.state) (sym (some_same l k h)) ∙ session_is n (session_of l.state) q
found_by n l ls k false q h rest = rest h

found_session : (n : ℕ) (ls : List LinkRecord) (k : LinkRecord) → link_in n ls ≡ Some k → session_of k.state ≡ Some n
found_session n [] k e = absurd (cc)
found_session n (l ∷ ls) k e = found_by n l ls k (is_session n (session_of l.state)) refl e (λ q. found_session n ls k q)

shown_session : (slots ip n : ℕ) (o : Option LinkRecord) → ((k : LinkRecord) → o ≡ Some k → session_of k.state ≡ Some n) → session_of (found_or slots ip n o).state ≡ Some n
shown_session slots ip n None h = refl
shown_session slots ip n (Some k) h = h k refl

-- what the link of an entry told, one of two things
abbrev entry_told : Terms → (Tells → Bool) → (ℕ → ℕ → Tells) → Option Claim → Bool
entry_told t pick told None = false
entry_told t pick told (Some c) = pick (tells_by t told c)

abbrev of_entry : Terms → (Tells → Bool) → (ℕ → ℕ → Tells) → ℕ × Option Claim → Bool
of_entry t pick told x = entry_told t pick told x.1

abbrev listed : Terms → (Tells → Bool) → (ℕ → ℕ → Tells) → ℕ × Claim → List Bool
listed t pick told x = pick (tells_by t told x.1) ∷ []

accepted : (t : Terms) (pick : Tells → Bool) (told : ℕ → ℕ → Tells) (xs : List (ℕ × Claim)) → collect (listed t pick told) xs ≡ map (of_entry t pick told) (map done xs)
accepted t pick told [] = refl
accepted t pick told (x ∷ xs) = ap (λ (zs : List Bool). pick (tells_by t told x.1) ∷ zs) (accepted t pick told xs)

waiting : (t : Terms) (pick : Tells → Bool) (told : ℕ → ℕ → Tells) (ips : List ℕ) → collect none_told ips ≡ map (of_entry t pick told) (map wait ips)
waiting t pick told [] = refl
waiting t pick told (ip ∷ ips) = ap (λ (zs : List Bool). false ∷ zs) (waiting t pick told ips)

abbrev of_known : Terms → (Tells → Bool) → (ℕ → ℕ → Tells) → Known → Bool
of_known t pick told l = entry_told t pick told (claims_of l.claim)

mapped : (t : Terms) (pick : Tells → Bool) (told : ℕ → ℕ → Tells) (ls : List Known) → map (of_entry t pick told) (map entry ls) ≡ map (of_known t pick told) ls
mapped t pick told [] = refl
mapped t pick told (l ∷ ls) = ap (λ (zs : List Bool). of_known t pick told l ∷ zs) (mapped t pick told ls)

module _ {H T : Type 0} (t : Terms) (served : IsServed t) (crews : Crews) (shape : Shape) (s : State (Recorded H) (Recorded T)) (c : Core AState) (st : Stands t served crews shape (views log_of log_of) (parts_of s) c) (ready : Ready t s) where
  abbrev told : ℕ → ℕ → Tells
  told n = (server t served crews).told (c.states (Reactor n))

  all_told : (pick : Tells → Bool) → collect (listed t pick told) c.ports.given ++ collect none_told c.ports.waiting ≡ map (of_known t pick told) s.front.links.all
  all_told pick =
      ap (λ (zs : List Bool). zs ++ collect none_told c.ports.waiting) (accepted t pick told c.ports.given)
      ∙ ap (λ (zs : List Bool). map (of_entry t pick told) (map done c.ports.given) ++ zs) (waiting t pick told c.ports.waiting)
      ∙ sym (map-append (of_entry t pick told) (map done c.ports.given) (map wait c.ports.waiting))
      ∙ ap (map (of_entry t pick told)) (sym st.shared.front.links.entries)
      ∙ mapped t pick told s.front.links.all

  -- one that told it ended, and its script says so
  one : (pick : Tells → Bool) (tells : MemoryLink → Bool) → pick untold ≡ false → ((o : Owner) (k : Table) → ReactorIs t o.reactor o.ends.kept k → (n : ℕ) → pick (told_by k n) ≡ true → EndTold o.ends.kept n tells) → (at : ℕ) → slice_get (collect (listed t pick told) c.ports.given ++ collect none_told c.ports.waiting) at ≡ Some true → IsTold s at tells
  one pick tells none each at e =
      let f = map_found (of_known t pick told) s.front.links.all at true (ap (λ (zs : List Bool). slice_get zs at) (sym (all_told pick)) ∙ e) in
      by f.0 f.1.0 f.0.claim refl (is_true (of_known t pick told f.0) f.1.1)
    where
      is_true : (b : Bool) → Some b ≡ Some true → b ≡ true
      is_true true q = refl
      is_true false q = absurd (cc)

      by : (l : Known) → slice_get s.front.links.all at ≡ Some l → (k : Option Claimed) → l.claim ≡ k → of_known t pick told l ≡ true → IsTold s at tells
      by l there None is q = absurd (let z : false ≡ true = ap (λ (x : Option Claimed). entry_told t pick told (claims_of x)) (sym is) ∙ q in cc)
      by l there (Some claims.NoSlot) is q = absurd (let z : false ≡ true = sym none ∙ ap (λ (x : Option Claimed). entry_told t pick told (claims_of x)) (sym is) ∙ q in cc)
      by l there (Some claims.NumbersSpent) is q = absurd (let z : false ≡ true = sym none ∙ ap (λ (x : Option Claimed). entry_told t pick told (claims_of x)) (sym is) ∙ q in cc)
      by l there (Some (claims.Drew n)) is q =
          let r : ℕ = reactor_of t n in
          let lt : r < t.reactor_num = mod-lt (n % t.max_conn) (omega (arith, ready.some)) in
          let a = st.actors (Reactor r) (lt_test r t.reactor_num lt) in
          let o = a.0 in
          let here : pick (told r n) ≡ true = ap (λ (x : Option Claimed). entry_told t pick told (claims_of x)) (sym is) ∙ q in
          let known : pick (told_by a.1.1.0 n) ≡ true = ap (λ (x : AState). pick ((server t served crews).told x n)) (sym a.1.1.1.0) ∙ here in
          let links : List LinkRecord = links_at s.reactors ((n % s.max_conn) % length s.reactors) in
          record {
            link = link_of_code s l;
            shown = map_shown (link_of_code s) s.front.links.all at l there;
            session = n;
            drew = ap (λ (x : Option Claimed). session_of (record_by s.max_conn (length s.reactors) (links_at s.reactors) l.ip x).state) is ∙ shown_session s.max_conn l.ip n (link_in n links) (found_session n links);
            reactor = r;
            owner = o;
            kept = a.1.0;
            told = each o a.1.1.0 a.1.1.1.1 n known;
          }

  pub outside_told : IsOutside s (outside t (server t served crews) c)
  outside_told = record {
    at_end = one (λ k. k.at_end) (λ l. l.at_end) refl (λ o k is n e. end_is_told t o.reactor o.ends.kept k is n e);
    failed = one (λ k. k.failed) memory_tells.failed refl (λ o k is n e. fault_is_told t o.reactor o.ends.kept k is n e);
  }
