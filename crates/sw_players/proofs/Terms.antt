-- A reactor's turn leaves its settings.
use Rattle.std.proofs.Common.{◌≡◌, ℕ, ◌==◌, Bool, true, false, nat_lt, List, length, slice_get, Option, Some, refl, sym, ap, ◌∙◌}
use Rattle.sw_data.specs.declared.events.Event.{Event}
use Rattle.sw_data.specs.declared.messages.Msg.{Msg}
use Rattle.sw_data.specs.declared.messages.Msg.TheVariants as msgs
use Rattle.sw_data.specs.declared.messages.Got.{Got}
use Rattle.sw_data.specs.declared.messages.Got.TheVariants as gots
use Rattle.sw_link.specs.declared.link.LinkRead.{LinkRead}
use Rattle.sw_link.specs.declared.link.LinkRead.TheVariants as reads
use Rattle.sw_link.specs.declared.link.LinkWrite.{LinkWrite}
use Rattle.sw_link.specs.Reads.{Read}
use Rattle.sw_port_book.specs.declared.word.Word.{Word}
use Rattle.sw_port_board.specs.declared.board.BoardStep.{BoardStep}
use Rattle.sw_port_board.specs.declared.crew.Sizes.{Sizes}
use Rattle.sw_conn.specs.declared.conn.Kind.{Kind}
use Rattle.sw_conn.specs.declared.conn.Kind.TheVariants as kinds
use Rattle.sw_conn.specs.declared.serve.Step.{Step}
use Rattle.sw_conn.specs.declared.serve.Step.TheVariants as chosen
use Rattle.sw_conn.specs.Modes.{keeps}
use Rattle.sw_conn.specs.Conn.{kind_of}
use Rattle.sw_reactor.specs.declared.reactor.Asked.{Asked}
use Rattle.sw_reactor.specs.declared.reactor.Asked.TheVariants as asks
use Rattle.sw_reactor.specs.declared.reactor.Reactor.{Reactor}
use Rattle.sw_reactor.specs.Reactor.{SettlesMsg, SettlesPush, SettlesEvent, SettlesFull, Settles}
use Rattle.sw_reactor.specs.Turn.{Asks, wrote_some, Stays}
use Rattle.sw_reactor.specs.Aims.{AfterRead}
use Rattle.sw_reactor.specs.Serving.{Ports, Aims, counted, Steps, Serves, Chooses_by, Turns}
use Rattle.sw_reactor.proofs.Keeping.{by_bool}

module _ {L K : Type 0} where
  -- the same settings
  abbrev Same : Reactor L K → Reactor L K → Type 0
  Same r q = q.terms ≡ r.terms

  same_by : (r q x : Reactor L K) → q ≡ x → x.terms ≡ r.terms → Same r q
  same_by r q x e f = ap (λ (z : Reactor L K). z.terms) e ∙ f

  on_line : (r q : Reactor L K) → q ≡ record r { line = q.line } → Same r q
  on_line r q e = same_by r q (record r { line = q.line }) e refl

  message : (number : K → ℕ) (r : Reactor L K) (m : Msg L K) (q : Reactor L K) → SettlesMsg number r m q → Same r q
  message number r (msgs.Fresh link ip ticket) q h = on_line r q h.1
  message number r (msgs.Send s b) q h = on_line r q h.1
  message number r (msgs.Close s) q h = on_line r q h.1
  message number r (msgs.Reset s) q h = on_line r q h.1
  message number r (msgs.Bye s) q h = on_line r q h.1
  message number r (msgs.Event e) q h = same_by r q r h refl
  message number r (msgs.Over id) q h = same_by r q r h refl
  message number r msgs.NoMore q h = same_by r q _ h refl

  pushed : (r : Reactor L K) (a : Asked) (q : Reactor L K) → SettlesPush r a q → Same r q
  pushed r (asks.Event w s kind) q h = on_line r q h.1
  pushed r asks.NoMore q h = same_by r q _ h refl
  pushed r asks.Nothing q h = same_by r q r h refl
  pushed r asks.Take q h = same_by r q r h refl

  back : (r : Reactor L K) (a : Asked) (e : Event) (q : Reactor L K) → SettlesEvent r a e q → Same r q
  back r (asks.Event w s kind) e q h = on_line r q h.1
  back r asks.NoMore e q h = same_by r q r h refl
  back r asks.Nothing e q h = same_by r q r h refl
  back r asks.Take e q h = same_by r q r h refl

  full : (r : Reactor L K) (m : Msg L K) (q : Reactor L K) → SettlesFull r m q → Same r q
  full r (msgs.Event e) q h = back r r.asked e q h
  full r (msgs.Fresh link ip ticket) q h = same_by r q r h refl
  full r (msgs.Send s b) q h = same_by r q r h refl
  full r (msgs.Close s) q h = same_by r q r h refl
  full r (msgs.Reset s) q h = same_by r q r h refl
  full r (msgs.Bye s) q h = same_by r q r h refl
  full r (msgs.Over id) q h = same_by r q r h refl
  full r msgs.NoMore q h = same_by r q r h refl

  pub settled : (number : K → ℕ) (r : Reactor L K) (got : Got (Msg L K)) (q : Reactor L K) → Settles number r got q → Same r q
  settled number r gots.Start q h = same_by r q r h refl
  settled number r (gots.Took m) q h = message number (record r { empty = false }) m q h
  settled number r gots.Empty q h = same_by r q _ h refl
  settled number r gots.Pushed q h = pushed r r.asked q h
  settled number r (gots.Full m) q h = full r m q h
  settled number r gots.Nothing q h = same_by r q r h refl

  stayed_same : (wrote : Option LinkWrite) (r : Reactor L K) (a : Asks L K) (q : Reactor L K) → Stays wrote r a q → Same r q
  stayed_same wrote r a q h = by_bool (wrote_some wrote) _ _ (Same r q) (λ k. same_by r q _ k.1 refl) (λ k. same_by r q _ k.1 refl) h

  after : (wrote : Option LinkWrite) (l : LinkRead) (r : Reactor L K) (a : Asks L K) (q : Reactor L K) → AfterRead wrote l r a q → Same r q
  after wrote (reads.Got n) r a q h = same_by r q _ h.1 refl
  after wrote reads.NotYet r a q h = stayed_same wrote r a q h
  after wrote reads.End r a q h = same_by r q _ h.1 refl
  after wrote reads.Failed r a q h = same_by r q _ h.1 refl

  counted_same : (k : Kind) (r : Reactor L K) → Same r (counted k r)
  counted_same kinds.Packet r = refl
  counted_same kinds.Connect r = refl
  counted_same kinds.Closed r = refl
  counted_same kinds.Other r = refl

  module _ {B C : Type 0} where
    aimed : (looks : B → ℕ → Word → B → Type 0) (goes : C → List BoardStep → C → Type 0) (sizes : C → Sizes) (r : Reactor L K) (b : B) (o : C) (w : ℕ) (q : Reactor L K) (d : B) (u : C) → Aims looks goes sizes r b o w q d u → Same r q
    aimed looks goes sizes r b o w q d u h =
        by_bool (keeps r.terms.mode) _ _ (Same r q) (λ k. same_by r q r k.1 refl)
        (λ m. by_bool (r.terms.mode == 5) _ _ (Same r q) (λ k. same_by r q (record r { line = q.line }) k.0.1.2 refl) (λ k. same_by r q r k.1 refl) m) h

  module _ {B C E : Type 0} where
    step_same : (p : Ports L K B C E) (s : Step) (wrote : Option LinkWrite) (r : Reactor L K) (b : B) (o : C) (f : E) (a : Asks L K) (q : Reactor L K) (d : B) (u : C) (g : E) → Steps p s wrote r b o f a q d u g → Same r q
    step_same p (chosen.Again w e) wrote r b o f a q d u g h = same_by r q _ h.0.1 refl
    step_same p (chosen.Tell e) wrote r b o f a q d u g ((w, (m, (aims, pushes))), same) =
        same_by m q _ pushes.1 (counted_same (kind_of e) m) ∙ aimed p.looks p.goes p.sizes r b o w m d u aims
    step_same p chosen.Read wrote r b o f a q d u g ((l, (m, (next, rest))), e1, e2, e3) = after wrote l m a q rest ∙ same_by r m _ next.1 refl
    step_same p chosen.Moved wrote r b o f a q d u g h = same_by r q _ h.1 refl
    step_same p chosen.Stay wrote r b o f a q d u g h = stayed_same wrote r a q h.0
    step_same p (chosen.Leave e) wrote r b o f a q d u g (asked, (c, (there, (uid, (released, (kept, (put, counts, e2))))))) = same_by r q _ e2 refl

    served : (p : Ports L K B C E) (r : Reactor L K) (b : B) (o : C) (f : E) (a : Asks L K) (q : Reactor L K) (d : B) (u : C) (g : E) → Serves p r b o f a q d u g → Same r q
    served p r b o f a q d u g h =
        by_bool (nat_lt r.at (length r.line.conns)) _ _ (Same r q)
        (λ (wrote, (l, (flushed, (s, (m, (chose, steps)))))). step_same p s wrote (record r { line = m }) b o f a q d u g steps)
        (λ k. same_by r q _ k.1 refl) h

    chose_same : (p : Ports L K B C E) (asked : Asked) (r : Reactor L K) (b : B) (o : C) (f : E) (a : Asks L K) (q : Reactor L K) (d : B) (u : C) (g : E) → Chooses_by p asked r b o f a q d u g → Same r q
    chose_same p asks.Take r b o f a q d u g h = served p r b o f a q d u g h
    chose_same p asks.Nothing r b o f a q d u g ((stop, (seen, asked2, e)), e1, e2) = same_by r q _ e refl
    chose_same p asks.NoMore r b o f a q d u g ((stop, (seen, asked2, e)), e1, e2) = same_by r q _ e refl
    chose_same p (asks.Event w s k) r b o f a q d u g ((stop, (seen, asked2, e)), e1, e2) = same_by r q _ e refl

    pub turn_keeps_terms : (p : Ports L K B C E) (r : Reactor L K) (got : Got (Msg L K)) (b : B) (o : C) (f : E) (a : Asks L K) (q : Reactor L K) (d : B) (u : C) (g : E) → Turns p r got b o f a q d u g → q.terms ≡ r.terms
    turn_keeps_terms p r got b o f a q d u g (m, (settles, (s, (counts, chooses)))) =
        chose_same p m.asked m b s f a q d u g chooses ∙ settled p.number r got m settles
