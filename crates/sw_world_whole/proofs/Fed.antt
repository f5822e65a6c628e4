-- A link whose script goes on tells what it told.
use Rattle.std.proofs.Common.{◌≡◌, ℕ, List, [], ◌∷◌, refl, ◌∙◌, sym, subst, Option, Some, None}
use Rattle.sw_step.specs.declared.actor.ActorId.{ActorId}
use Rattle.sw_data.specs.declared.ended.Ended.{Ended}
use Rattle.sw_data.specs.declared.messages.Msg.TheVariants as msgs
use Rattle.sw_data.specs.declared.messages.Got.TheVariants as gots
use Rattle.sw_link.specs.declared.memory_link.MemoryLink.{MemoryLink}
use Rattle.sw_link.specs.declared.memory_link.LinkStep.{LinkStep}
use Rattle.sw_link.specs.declared.memory_link.LinkStep.TheVariants as steps
use Rattle.sw_link.specs.Memory.{with_bytes_by, with_bytes, added}
use Rattle.sw_record.specs.Terms.{Terms}
use Rattle.sw_reactor.specs.declared.reactor.Reactor.{Reactor as CodeReactor}
use Rattle.sw_reactor.specs.Line.{link_of, with_link}
use Rattle.sw_reactor_fits.specs.Told.{IsNew, BringsNew}
use Rattle.sw_world_reactor_fits.specs.Plain.{memory_tells, TellsSame, ReactorIs}
use Rattle.sw_world_reactor_fits.proofs.Others.{script_is}
use Rattle.sw_world_places.specs.Links.{TakesAhead}
use Rattle.sw_world_places.specs.Ends.{HasRoom}
use Rattle.sw_world_places.specs.Pipes.{Sent, Getting}
use Rattle.sw_world_front.specs.declared.front.Front.{Front}
use Rattle.sw_world_front_fits.proofs.Front.{front_takes}
use Rattle.sw_world_stands.specs.Asked.{got_of}
use Rattle.sw_world_stands.proofs.Gets.{some_same}
use Rattle.sw_world_stands.specs.New.{CarriesNew, GotNew}
use Rattle.sw_world_whole.specs.Parts.{Views}
use Rattle.sw_world_whole.specs.Whole.{GoesOn, FrontSame}
use Rattle.sw_world_whole.specs.Scripts.{fed, message_fed, got_fed}

bytes_by : (bytes : List ℕ) (l : MemoryLink) (end : Option ℕ) → TellsSame l (with_bytes_by bytes l end)
bytes_by bytes l (Some n) = record { pieces = refl; written = refl; at_end = refl; faults = refl }
bytes_by bytes l None = record { pieces = refl; written = refl; at_end = refl; faults = refl }

bytes_same : (bytes : List ℕ) (l : MemoryLink) → TellsSame l (with_bytes bytes l)
bytes_same [] l = record { pieces = refl; written = refl; at_end = refl; faults = refl }
bytes_same (b ∷ bs) l = bytes_by (b ∷ bs) l l.end_at

added_same : (s : LinkStep) (l : MemoryLink) → TellsSame l (added s l)
added_same (steps.Piece bytes) l = bytes_same bytes l
added_same (steps.Wait n) l = record { pieces = refl; written = refl; at_end = refl; faults = refl }
added_same steps.End l = record { pieces = refl; written = refl; at_end = refl; faults = refl }
added_same (steps.Room n) l = record { pieces = refl; written = refl; at_end = refl; faults = refl }
added_same (steps.FailRead n) l = record { pieces = refl; written = refl; at_end = refl; faults = refl }
added_same (steps.FailWrite n) l = record { pieces = refl; written = refl; at_end = refl; faults = refl }

pub fed_same : (ss : List LinkStep) (l : MemoryLink) → TellsSame l (fed ss l)
fed_same [] l = record { pieces = refl; written = refl; at_end = refl; faults = refl }
fed_same (s ∷ ss) l =
    let a = added_same s l in
    let b = fed_same ss (added s l) in
    record { pieces = b.pieces ∙ a.pieces; written = b.written ∙ a.written; at_end = b.at_end ∙ a.at_end; faults = b.faults ∙ a.faults }

-- a message that was taken
message_new : (ss : List LinkStep) (m : Sent) → CarriesNew m → IsNew memory_tells (message_fed ss m)
message_new ss (msgs.Fresh link ip ticket) new = let k = fed_same ss link in (k.pieces ∙ new.pieces, k.written ∙ new.written)
message_new ss (msgs.Send s b) new = tt
message_new ss (msgs.Close s) new = tt
message_new ss (msgs.Reset s) new = tt
message_new ss (msgs.Bye s) new = tt
message_new ss (msgs.Event e) new = tt
message_new ss (msgs.Over id) new = tt
message_new ss msgs.NoMore new = tt

took_same : (ss : List LinkStep) (m : Sent) → got_of (gots.Took (message_fed ss m)) ≡ got_of (gots.Took m)
took_same ss (msgs.Fresh link ip ticket) = refl
took_same ss (msgs.Send s b) = refl
took_same ss (msgs.Close s) = refl
took_same ss (msgs.Reset s) = refl
took_same ss (msgs.Bye s) = refl
took_same ss (msgs.Event e) = refl
took_same ss (msgs.Over id) = refl
took_same ss msgs.NoMore = refl

pub got_same : (ss : List LinkStep) (g : Getting) → got_of (got_fed ss g) ≡ got_of g
got_same ss gots.Start = refl
got_same ss (gots.Took m) = took_same ss m
got_same ss gots.Empty = refl
got_same ss gots.Pushed = refl
got_same ss (gots.Full m) = refl
got_same ss gots.Nothing = refl

pub got_new : (ss : List LinkStep) (y : ActorId) (g : Getting) → GotNew y g → BringsNew memory_tells (got_fed ss g)
got_new ss y gots.Start new = tt
got_new ss y (gots.Took m) new = message_new ss m new
got_new ss y gots.Empty new = tt
got_new ss y gots.Pushed new = tt
got_new ss y (gots.Full m) new = tt
got_new ss y gots.Nothing new = tt

pub message_same : (ss : List LinkStep) (y : ActorId) (g : Getting) → (got_of (got_fed ss g) ≡ got_of g) × (GotNew y g → BringsNew memory_tells (got_fed ss g))
message_same ss y g = (got_same ss g, λ new. got_new ss y g new)

-- a reactor of whose links one has these steps more
pub reactor_goes_on : {O H T : Type 0} (t : Terms) (v : Views O H T) (o o1 : O) (n : ℕ) (l : MemoryLink) (ss : List LinkStep) → link_of n (v.reactor o).line.conns ≡ Some l →
    v.reactor o1 ≡ record (v.reactor o) { line = with_link (v.reactor o).line n (fed ss l) } → (v.ends o1).kept ≡ (v.ends o).kept → HasRoom (v.ends o1) → GoesOn t v o o1
reactor_goes_on {O} {H} {T} t v o o1 n l ss there is kept room =
    record {
      same = λ s it. subst (λ (r : CodeReactor MemoryLink ℕ). ReactorIs t r (v.ends o1).kept s) (sym is)
          (subst (λ (ks : List (MemoryLink × Ended)). ReactorIs t (record (v.reactor o) { line = with_link (v.reactor o).line n (fed ss l) }) ks s) (sym kept)
          (script_is t (v.reactor o) (v.ends o).kept s it n (fed ss l) (λ k e. subst (λ (x : MemoryLink). TellsSame x (fed ss l)) (some_same l k (sym there ∙ e)) (fed_same ss l))));
      room = room;
    }

-- and one of which none has
pub reactor_stays : {O H T : Type 0} (t : Terms) (v : Views O H T) (o o1 : O) → v.reactor o1 ≡ v.reactor o → (v.ends o1).kept ≡ (v.ends o).kept → HasRoom (v.ends o1) → GoesOn t v o o1
reactor_stays {O} {H} {T} t v o o1 is kept room =
    record {
      same = λ s it. subst (λ (r : CodeReactor MemoryLink ℕ). ReactorIs t r (v.ends o1).kept s) (sym is)
          (subst (λ (ks : List (MemoryLink × Ended)). ReactorIs t (v.reactor o) ks s) (sym kept) it);
      room = room;
    }

-- steps of a session's link that are taken out of the front
pub front_stays : (t : Terms) (f g : Front) (s : ℕ) (ss : List LinkStep) → g ≡ record f { links = g.links } → TakesAhead f.links s ss g.links → FrontSame t f g
front_stays t f g s ss is takes d p st = front_takes t f g d p s ss st is takes
