-- A net whose links have a heartbeat: what an accept comes to, and what the net tells.
use Rattle.std.specs.Prelude.{◌≡◌, ℕ, ◌∷◌, map, Option, Some, None}
use Rattle.std.proofs.Common.{ap, sym, subst, ◌∙◌}
use Rattle.sw_link.specs.Nets.{Coming, Takes, accept_tells, CountsAccept}
use Rattle.sw_link.specs.declared.net.Accept.{Accept}
use Rattle.sw_link.specs.declared.net.Accept.TheVariants as accepts
use Rattle.sw_beat.specs.declared.beat.Beat.{Beat}
use Rattle.sw_beat.specs.declared.beat_net.BeatNet.{BeatNet}
use Rattle.sw_beat.specs.Clocks.{IsForetold}
use Rattle.sw_beat.specs.Idle.{IsNewBeat}

abbrev pub new_net : {N C : Type 0} → N → C → ℕ → BeatNet N C
new_net net clock idle = record { net = net; clock = clock; idle = idle }

module _ {L C : Type 0} where
  -- a link that the net gave is given as a new Beat over it, by a fork of the clock; all else is the net's answer
  abbrev pub Wraps : (C → C → Type 0) → (C → ℕ → C → Type 0) → C → ℕ → Accept L → Accept (Beat L C) → Type 0
  Wraps forks ticks clock idle (accepts.Got link ip) a = (beat : Beat L C) × (fork : C) × (a ≡ accepts.Got beat ip) × forks clock fork × IsNewBeat ticks link fork idle beat
  Wraps forks ticks clock idle accepts.NotYet a = a ≡ accepts.NotYet
  Wraps forks ticks clock idle accepts.End a = a ≡ accepts.End
  Wraps forks ticks clock idle accepts.Failed a = a ≡ accepts.Failed

  -- an accept is the net's, with its link wrapped
  abbrev pub AcceptsBeat : {N : Type 0} → (N → Accept L → N → Type 0) → (C → C → Type 0) → (C → ℕ → C → Type 0) → BeatNet N C → Accept (Beat L C) → BeatNet N C → Type 0
  AcceptsBeat gives forks ticks b a k = (inner : Accept L) × gives b.net inner k.net × (k ≡ record b { net = k.net }) × Wraps forks ticks b.clock b.idle inner a

  -- the Beat over a link, where it is known what the clock's fork answers
  abbrev pub beat_over : ℕ → ℕ × C → L → Beat L C
  beat_over idle told link = record { link = link; clock = told.1; idle = idle; last = told.0; idled = None }

  abbrev pub coming_by : ℕ → Option (ℕ × C) → Option (Coming L) → Option (Coming (Beat L C))
  coming_by idle None coming = None
  coming_by idle (Some told) None = None
  coming_by idle (Some told) (Some coming) = Some (record { links = map (λ l. (beat_over idle told l.0, l.1)) coming.links; at_end = coming.at_end })

  -- it tells the links to come where the net and the clock do: those of the net, each as the Beat over it
  abbrev pub coming_of : {N : Type 0} → (N → Option (Coming L)) → (C → Option (ℕ × C)) → BeatNet N C → Option (Coming (Beat L C))
  coming_of coming foretold b = coming_by b.idle (foretold b.clock) (coming b.net)

  new_is_over : (ticks : C → ℕ → C → Type 0) (link : L) (fork : C) (idle : ℕ) (beat : Beat L C) (told : ℕ × C)
      → ((now : ℕ) (d : C) → ticks fork now d → (now ≡ told.0) × (d ≡ told.1)) → IsNewBeat ticks link fork idle beat → beat ≡ beat_over idle told link
  new_is_over ticks link fork idle beat told known (now, ticked, is) =
      let e : (now ≡ told.0) × (beat.clock ≡ told.1) = known now beat.clock ticked in
      is ∙ ap (λ (n : ℕ). record { link = link; clock = beat.clock; idle = idle; last = n; idled = None }) e.0
      ∙ ap (λ (c : C). record { link = link; clock = c; idle = idle; last = told.0; idled = None }) e.1

  wraps_tell : (forks : C → C → Type 0) (ticks : C → ℕ → C → Type 0) (clock : C) (idle : ℕ) (told : ℕ × C)
      → ((f d : C) (now : ℕ) → forks clock f → ticks f now d → IsForetold (Some told) now d)
      → (inner : Accept L) (a : Accept (Beat L C)) (old new : Coming L) → Wraps forks ticks clock idle inner a → Takes inner old new
      → accept_tells a (coming_by idle (Some told) (Some old)) (coming_by idle (Some told) (Some new))
  wraps_tell forks ticks clock idle told known (accepts.Got link ip) a old new (beat, fork, is, forked, made) (links, at_end) =
      rw is (
        ap (map (λ l. (beat_over idle told l.0, l.1))) links ∙ ap (λ (b : Beat L C). (b, ip) ∷ map (λ l. (beat_over idle told l.0, l.1)) new.links) (sym (new_is_over ticks link fork idle beat told (λ now d. known fork d now forked) made)),
        at_end,
      )
  wraps_tell forks ticks clock idle told known accepts.NotYet a old new is same = rw is (ap (λ (c : Coming L). record { links = map (λ l. (beat_over idle told l.0, l.1)) c.links; at_end = c.at_end }) same)
  wraps_tell forks ticks clock idle told known accepts.End a old new is (links, at_end) = rw is (ap (map (λ l. (beat_over idle told l.0, l.1))) links, at_end)
  wraps_tell forks ticks clock idle told known accepts.Failed a old new is same = rw is (ap (λ (c : Coming L). record { links = map (λ l. (beat_over idle told l.0, l.1)) c.links; at_end = c.at_end }) same)

  coming_tell : (forks : C → C → Type 0) (ticks : C → ℕ → C → Type 0) (clock : C) (idle : ℕ) (foretold : Option (ℕ × C))
      → ((f d : C) (now : ℕ) → forks clock f → ticks f now d → IsForetold foretold now d)
      → (inner : Accept L) (a : Accept (Beat L C)) (old new : Option (Coming L)) → Wraps forks ticks clock idle inner a → accept_tells inner old new
      → accept_tells a (coming_by idle foretold old) (coming_by idle foretold new)
  coming_tell forks ticks clock idle None known inner a old new w t = tt
  coming_tell forks ticks clock idle (Some told) known inner a None None w t = tt
  coming_tell forks ticks clock idle (Some told) known inner a (Some old) (Some new) w t = wraps_tell forks ticks clock idle told known inner a old new w t
  coming_tell forks ticks clock idle (Some told) known inner a None (Some new) w t = absurd t
  coming_tell forks ticks clock idle (Some told) known inner a (Some old) None w t = absurd t

  pub beat_accepts_tell : {N : Type 0} (coming : N → Option (Coming L)) (foretold : C → Option (ℕ × C)) (gives : N → Accept L → N → Type 0) (forks : C → C → Type 0) (ticks : C → ℕ → C → Type 0)
      → ((m n : N) (a : Accept L) → gives m a n → accept_tells a (coming m) (coming n))
      → ((c f d : C) (now : ℕ) → forks c f → ticks f now d → IsForetold (foretold c) now d)
      → (b k : BeatNet N C) (a : Accept (Beat L C)) → AcceptsBeat gives forks ticks b a k → accept_tells a (coming_of coming foretold b) (coming_of coming foretold k)
  beat_accepts_tell {N} coming foretold gives forks ticks law known b k a (inner, given, same, wraps) =
      let told : accept_tells a (coming_of coming foretold b) (coming_of coming foretold (record b { net = k.net })) = coming_tell forks ticks b.clock b.idle (foretold b.clock) (known b.clock) inner a (coming b.net) (coming k.net) wraps (law b.net k.net inner given) in
      subst (λ (x : BeatNet N C). accept_tells a (coming_of coming foretold b) (coming_of coming foretold x)) (sym same) told

  wraps_count : (forks : C → C → Type 0) (ticks : C → ℕ → C → Type 0) (clock : C) (idle : ℕ) (inner : Accept L) (a : Accept (Beat L C)) (old new : ℕ)
      → Wraps forks ticks clock idle inner a → CountsAccept old new inner → CountsAccept old new a
  wraps_count forks ticks clock idle (accepts.Got link ip) a old new (beat, fork, is, forked, made) c = rw is c
  wraps_count forks ticks clock idle accepts.NotYet a old new is c = rw is c
  wraps_count forks ticks clock idle accepts.End a old new is c = rw is c
  wraps_count forks ticks clock idle accepts.Failed a old new is c = rw is c

  pub beat_accepts_count : {N : Type 0} (faults : N → ℕ) (gives : N → Accept L → N → Type 0) (forks : C → C → Type 0) (ticks : C → ℕ → C → Type 0)
      → ((m n : N) (a : Accept L) → gives m a n → CountsAccept (faults m) (faults n) a)
      → (b k : BeatNet N C) (a : Accept (Beat L C)) → AcceptsBeat gives forks ticks b a k → CountsAccept (faults b.net) (faults k.net) a
  beat_accepts_count faults gives forks ticks law b k a (inner, given, same, wraps) = wraps_count forks ticks b.clock b.idle inner a (faults b.net) (faults k.net) wraps (law b.net k.net inner given)
