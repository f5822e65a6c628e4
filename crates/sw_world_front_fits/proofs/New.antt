-- A link that the door accepts and pushes is new.
use Rattle.std.specs.Bool.{MatchBool}
use Rattle.std.proofs.Common.{◌≡◌, ℕ, ◌+◌, nat_lt, min, Bool, true, false, if◌then◌else◌, List, [], ◌∷◌, sym, subst, Option, None, Result, Ok, Err}
use Rattle.sw_causes.specs.Causes.{most}
use Rattle.sw_lists.specs.Lists.{Each}
use Rattle.sw_step.specs.declared.actor.ActorId.TheVariants.{Door as TheDoor}
use Rattle.sw_data.specs.declared.ended.Cause.{Cause}
use Rattle.sw_data.specs.declared.messages.Msg.TheVariants as msgs
use Rattle.sw_data.specs.declared.messages.Target.TheVariants as targets
use Rattle.sw_data.specs.declared.messages.Ask.TheVariants as asks
use Rattle.sw_data.specs.declared.messages.Got.TheVariants as gots
use Rattle.sw_link.specs.declared.memory_link.MemoryLink.{MemoryLink}
use Rattle.sw_link.specs.declared.net.Accept.{Accept}
use Rattle.sw_link.specs.declared.net.Accept.TheVariants as accepts
use Rattle.sw_link.specs.MemoryNets.{Plan, IsNew, Accepted, is_number, accept_next, counted_accept, memory_accept, AcceptsBy}
use Rattle.sw_port_book.specs.declared.answers.ClaimFault.{ClaimFault}
use Rattle.sw_port_book.specs.Plain.{Words}
use Rattle.sw_port_board.specs.PlainBoard.{PlainWords, PlainGoes}
use Rattle.sw_door.specs.declared.door.Door.{Door}
use Rattle.sw_door.specs.Door.{Looks, Claimed, AcceptsAs, Accepts as CodeAccepts, Ends}
use Rattle.sw_world_places.specs.Pipes.{Asking, Getting}
use Rattle.sw_world_front.specs.Front.{claim_gives, put_gives, PlainGoesOn, PlainTurns}
use Rattle.sw_world_stands.specs.New.{GotNew, AskNew}
use Rattle.sw_world_front_fits.specs.Front.{ComesNew}

-- what was accepted
abbrev AcceptNew : Accept MemoryLink → Type 0
AcceptNew (accepts.Got link ip) = IsNew link
AcceptNew accepts.NotYet = Unit {0}
AcceptNew accepts.End = Unit {0}
AcceptNew accepts.Failed = Unit {0}

abbrev Accepting : Accepted → Type 0
Accepting r = Each ComesNew r.net.links × AcceptNew r.answer

by_links : (k : Plan) (ls : List (MemoryLink × ℕ)) → Each ComesNew k.links → Each ComesNew ls → Accepting (accept_next k ls)
by_links k (l ∷ ls) all h = (h.1, h.0)
by_links k [] all h = pick k.ends
  where
    pick : (b : Bool) → Accepting (if b then record { answer = accepts.End; net = record k { at_end = true } } else record { answer = accepts.NotYet; net = k })
    pick true = (all, tt)
    pick false = (all, tt)

accept_new : (n m : Plan) (x : Accept MemoryLink) → Each ComesNew n.links → AcceptsBy n x m → Each ComesNew m.links × AcceptNew x
accept_new n m x all by =
    let k : Accepting (memory_accept n) = pick (is_number n.accepts n.fail_at) in
    (subst (λ (w : Plan). Each ComesNew w.links) (sym by.1) k.0, subst AcceptNew (sym by.0) k.1)
  where
    pick : (b : Bool) → Accepting (if b then record { answer = accepts.Failed; net = record (counted_accept n) { faults = min (n.faults + 1) most } } else accept_next (counted_accept n) n.links)
    pick true = (all, tt)
    pick false = by_links (counted_accept n) n.links all all

-- what is asked then
module _ (d e : Door) (b c : Words) (o q : PlainWords) (g : Option Cause) (ask : Asking) where
  claimed_new : (link : MemoryLink) (ip : ℕ) (mid : PlainWords) (r : Result ℕ ClaimFault) → IsNew link → Claimed (λ (k : ℕ). k) PlainGoes put_gives r d link ip mid None e q g ask → AskNew TheDoor ask
  claimed_new link ip mid (Ok k) new h = subst (AskNew TheDoor) (sym h.0.1) new
  claimed_new link ip mid (Err fault) new (kept, (put, count, lost, asked)) = subst (AskNew TheDoor) (sym asked) tt

  accepted_new : (x : Accept MemoryLink) → AcceptNew x → AcceptsAs claim_gives (λ (k : ℕ). k) PlainGoes put_gives x d b o None e c q g ask → AskNew TheDoor ask
  accepted_new (accepts.Got link ip) new (r, (claiming, (mid, (counts, h)))) = claimed_new link ip mid r new h
  accepted_new accepts.NotYet new h = subst (AskNew TheDoor) (sym h.1) tt
  accepted_new accepts.End new h = subst (AskNew TheDoor) (sym h.1) tt
  accepted_new accepts.Failed new h = subst (AskNew TheDoor) (sym h.0.2) tt

-- an end
ends_new : (d : Door) (ask : Asking) (e : Door) → Ends d ask e → AskNew TheDoor ask
ends_new d ask e h = pick (nat_lt d.given d.reactors) h
  where
    pick : (v : Bool) → MatchBool v ((ask ≡ asks.Push (targets.Reactor d.given) msgs.NoMore) × (e ≡ record d { to = d.given; given = d.given + 1 })) ((ask ≡ asks.Finished) × (e ≡ d)) → AskNew TheDoor ask
    pick true k = subst (AskNew TheDoor) (sym k.0) tt
    pick false k = subst (AskNew TheDoor) (sym k.0) tt

-- a turn in which nothing came back
goes_new : (d e : Door) (n m : Plan) (b c : Words) (o q : PlainWords) (g : Option Cause) (ask : Asking) → Each ComesNew n.links → PlainGoesOn d n b o None e m c q g ask → Each ComesNew m.links × AskNew TheDoor ask
goes_new d e n m b c o q g ask all h = by_ending d.ending h
  where
    still : m ≡ n → AskNew TheDoor ask → Each ComesNew m.links × AskNew TheDoor ask
    still same new = (subst (λ (w : Plan). Each ComesNew w.links) (sym same) all, new)

    by_accepts : (v : Bool) → MatchBool v (CodeAccepts AcceptsBy claim_gives (λ (k : ℕ). k) PlainGoes put_gives d n b o None e m c q g ask) (Looks PlainGoes d o ask e q × (m ≡ n) × (c ≡ b) × (g ≡ None)) → Each ComesNew m.links × AskNew TheDoor ask
    by_accepts true (x, (by, k)) = let w = accept_new n m x all by in (w.0, accepted_new (record d { accepts = false }) e b c o q g ask x w.1 k)
    by_accepts false ((stop, (goes, is, asked)), net, desk, ends) = still net (subst (AskNew TheDoor) (sym asked) tt)

    by_ending : (v : Bool) → MatchBool v (Ends d ask e × (m ≡ n) × (c ≡ b) × (q ≡ o) × (g ≡ None)) (MatchBool d.accepts (CodeAccepts AcceptsBy claim_gives (λ (k : ℕ). k) PlainGoes put_gives d n b o None e m c q g ask) (Looks PlainGoes d o ask e q × (m ≡ n) × (c ≡ b) × (g ≡ None))) → Each ComesNew m.links × AskNew TheDoor ask
    by_ending true (ends, net, desk, board, last) = still net (ends_new d ask e ends)
    by_ending false k = by_accepts d.accepts k

-- A TURN
pub turns_new : (d e : Door) (n m : Plan) (b c : Words) (o q : PlainWords) (g : Option Cause) (got : Getting) (ask : Asking) → Each ComesNew n.links → GotNew TheDoor got → PlainTurns d n b o None got e m c q g ask → Each ComesNew m.links × AskNew TheDoor ask
turns_new d e n m b c o q g (gots.Full x) ask all new (asked, is, net, desk, board, last) = (subst (λ (w : Plan). Each ComesNew w.links) (sym net) all, subst (AskNew TheDoor) (sym asked) new)
turns_new d e n m b c o q g gots.Start ask all new h = goes_new d e n m b c o q g ask all h
turns_new d e n m b c o q g (gots.Took x) ask all new h = goes_new d e n m b c o q g ask all h
turns_new d e n m b c o q g gots.Empty ask all new h = goes_new d e n m b c o q g ask all h
turns_new d e n m b c o q g gots.Pushed ask all new h = goes_new d e n m b c o q g ask all h
turns_new d e n m b c o q g gots.Nothing ask all new h = goes_new d e n m b c o q g ask all h
