use Rattle.std.proofs.Common.{◌≡◌, ℕ, List, Option, Some, None, false, refl, sym, ap, subst, ◌∙◌, true≢false}
use Rattle.std.specs.Prelude.{is_some, take, length}
use Rattle.sw_link.specs.Reads.{Read, GotPiece}
use Rattle.sw_beat.specs.declared.beat.Beat.{Beat}
use Rattle.sw_beat.specs.Idle.{Hears, ReadsBy}
use Rattle.sw_beat.proofs.beat.BeatLink.read.Goals as goal

-- a piece was read, and then the clock
heard : {L C : Type 0} (gives : L → ℕ → Read → L → Type 0) (ticks : C → ℕ → C → Type 0) (b k : Beat L C) (link : L) (room : ℕ) (p : List ℕ) (o : Option (ℕ × ℕ))
    → is_some o ≡ false → gives b.link room (GotPiece p) link → Hears ticks (record b { link = link }) k → ReadsBy gives ticks o b room (GotPiece p) k
heard gives ticks b k link room p (Some q) none given (now, ticked, same) = absurd (true≢false none)
heard gives ticks b k link room p None none given (now, ticked, same) =
    let at : k.link ≡ link = ap (λ (x : Beat _ _). x.link) same in
    let there : gives b.link room (GotPiece p) k.link = subst (gives b.link room (GotPiece p)) (sym at) given in
    let hears : Hears ticks (record b { link = k.link }) k = (now, ticked, same ∙ ap (λ l. record b { link = l; clock = k.clock; last = now }) (sym at)) in
    (GotPiece p, there, (refl, hears))

pub returns-in-Got-clause-gives : goal.returns-in-Got-clause-gives
returns-in-Got-clause-gives g c = heard g.L.Link.read_gives g.C.Clock.now_gives c.args.self.now c.hear.new.self c.read.new.self (length c.args.buf.now) (take c.in-Got.n c.read.new.buf) c.args.self.now.idled (sym c.is_some.ensures ∙ c.if-is_some.false) c.in-Got.ensures.gives c.hear.ensures
