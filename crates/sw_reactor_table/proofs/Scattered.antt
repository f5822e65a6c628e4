-- Modes 1 and 3: all pushes of a connection together are its first packets in order.
use Rattle.std.proofs.Common.{◌≡◌, ℕ, true, false, List, [], ◌∷◌, ◌++◌, take, refl, ap, ◌∙◌, sym, append-nil, Option}
use Rattle.sw_conn.specs.declared.conn.Phase.{Phase}
use Rattle.sw_conn.specs.declared.conn.Phase.TheVariants.{Coming, Open, Closing}
use Rattle.sw_conn.specs.Modes.{bound}
use Rattle.sw_lists.specs.Lists.{collect}
use Rattle.sw_step.specs.declared.actor.ActorId.{ActorId}
use Rattle.sw_record.specs.Words.{Cause}
use Rattle.sw_record.specs.Terms.{Terms, packets_cut}
use Rattle.sw_past.specs.Messages.{Message}
use Rattle.sw_past.specs.Past.{Mail, bare}
use Rattle.sw_past.specs.Views.{story_in}
use Rattle.sw_join.specs.Aims.{packets_from, ScatterAim, ScatterEnd}
use Rattle.sw_reactor_table.specs.Quiet.{told_by, IsPhase}
use Rattle.sw_reactor_table.specs.Modes.{ModeLaws}
use Rattle.sw_reactor_table.proofs.Flow.{more_of}

unbound : (t : Terms) → bound t.mode ≡ false → bound t.mode ≡ true → ⊥
unbound t off on = (let e : true ≡ false = sym on ∙ off in cc)

told_packets : (t : Terms) (s : ℕ) (phase : Phase) (cause : Option Cause) (n : ℕ) (ps : List (List ℕ)) → bound t.mode ≡ false → IsPhase t phase cause n → told_by t s phase n ps ≡ packets_from s 0 (take n (packets_cut t ps))
told_packets t s Coming cause n ps off i = refl
told_packets t s Open cause n ps off i = absurd (unbound t off i)
told_packets t s Closing cause n ps off i = absurd (unbound t off i.0)

skip : (s : ℕ) (pushed : Mail) (x : ActorId × Message) → story_in s x.1 ≡ [] → collect (story_in s) (bare (pushed ++ x ∷ [])) ≡ collect (story_in s) (bare pushed)
skip s pushed x none = more_of (story_in s) pushed x ∙ ap (λ es. collect (story_in s) (bare pushed) ++ es) none ∙ append-nil (collect (story_in s) (bare pushed))

pub scatter_laws : (t : Terms) → bound t.mode ≡ false → ModeLaws t (ScatterAim t) (ScatterEnd t)
scatter_laws t off =
    record {
      live = λ ip s uid split ps taken n cause phase pushed a written d. (n, a.told ∙ told_packets t s phase cause n ps off a.in_phase);
      back = λ ip s uid split ps taken n cause phase pushed a written d. (n, a.told ∙ told_packets t s phase cause n ps off a.in_phase);
      over = λ c pushed a e o u r. ((c.dispatched, a.told ∙ told_packets t c.session c.phase c.cause c.dispatched c.pieces off a.in_phase), a.told ∙ told_packets t c.session c.phase c.cause c.dispatched c.pieces off a.in_phase);
      skip_aim = λ s l pushed x none a. (a.0, skip s pushed x none ∙ a.1);
      skip_whole = λ s l e pushed x none h. skip s pushed x none ∙ h;
    }
