-- A session that came to a reactor and wasn't released by it stands in its word.
use Rattle.std.proofs.Common.{◌≡◌, ℕ, ◌<◌, ◌%◌, List, ◌∙◌, sym, subst, inl, inr}
use Rattle.sw_lists.specs.Lists.{collect, Has}
use Rattle.sw_step.specs.declared.actor.ActorId.TheVariants.{Reactor}
use Rattle.sw_record.specs.Terms.{Terms}
use Rattle.sw_record.specs.Places.{Ran}
use Rattle.sw_past.specs.Past.{bare}
use Rattle.sw_past.specs.Views.{fresh_in}
use Rattle.sw_world_ports.specs.Made.{free_in, firsts}
use Rattle.sw_world_ports.specs.Law.{IsFreed, all_in, drawn_by}
use Rattle.sw_world_ports.proofs.Haves.{each_has}
use Rattle.sw_world_laws.specs.Actors.{Actors}
use Rattle.sw_world_laws.specs.World.{Core}
use Rattle.sw_world_laws.specs.History.{History}
use Rattle.sw_world_laws.specs.Law.{Holds}
use Rattle.sw_world_laws.proofs.Turns.{more_of, fair_took, fresh_routed, took_drawn}

pub stands_there : (t : Terms) (legal : List Ran → Type 0) (p : Actors t) (c : Core p.State) (h : History) → Holds t legal p c h → (n : ℕ) → n < t.reactor_num → (s : ℕ) → Has s (collect fresh_in (bare (h.took (Reactor n)))) → ¬ Has s (firsts (collect free_in (h.dids (Reactor n)))) → (c.ports.words (s % t.max_conn)).0 ≡ s
stands_there t legal p c h l n lt s fresh unfreed = elim (l.ports.words.book.back s (each_has (λ r. Has r (drawn_by h.dids)) (collect fresh_in (bare (h.took (Reactor n)))) s (took_drawn t legal p c h l n) fresh)) [ inl q ↦ q | inr f ↦ absurd (gone f) ]
  where
    gone : IsFreed t (all_in free_in h.dids) s → ⊥
    gone (m, (less, freed)) =
        let more = more_of t legal p c h l m less in
        let there : Has s (collect fresh_in (bare (h.took (Reactor m)))) = each_has (λ r. Has r (collect fresh_in (bare (h.took (Reactor m))))) (firsts (collect free_in (h.dids (Reactor m)))) s more.freed_fresh freed in
        let same : Reactor m ≡ Reactor n = fresh_routed t m (h.took (Reactor m)) (fair_took t legal p c h l m).routed s there ∙ sym (fresh_routed t n (h.took (Reactor n)) (fair_took t legal p c h l n).routed s fresh) in
        let i : m ≡ n = cc in
        unfreed (subst (λ (k : ℕ). Has s (firsts (collect free_in (h.dids (Reactor k))))) i freed)
