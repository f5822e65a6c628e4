-- A door's turn leaves what it was made with.
use Rattle.std.proofs.Common.{◌≡◌, ℕ, Bool, true, false, nat_lt, List, Result, Ok, Err, refl, ap, ◌∙◌}
use Rattle.sw_data.specs.declared.ended.Ended.{Ended}
use Rattle.sw_data.specs.declared.messages.Msg.{Msg}
use Rattle.sw_data.specs.declared.messages.Ask.{Ask}
use Rattle.sw_data.specs.declared.messages.Got.{Got}
use Rattle.sw_data.specs.declared.messages.Got.TheVariants as gots
use Rattle.sw_link.specs.declared.net.Accept.{Accept}
use Rattle.sw_link.specs.declared.net.Accept.TheVariants as accepts
use Rattle.sw_port_book.specs.declared.answers.ClaimFault.{ClaimFault}
use Rattle.sw_door.specs.declared.door.Door.{Door}
use Rattle.sw_door.specs.Door.{Going, Claimed, AcceptsAs, Ends, GoesOn, Turns}
use Rattle.sw_players.specs.Hears.{Heard, ListensAs}
use Rattle.sw_reactor.proofs.Keeping.{by_bool}

-- the same settings
abbrev pub Same : Door → Door → Type 0
Same d e = (e.max_conn ≡ d.max_conn) × (e.reactors ≡ d.reactors)

same_by : (d e x : Door) → e ≡ x → Same d x → Same d e
same_by d e x q s = (ap (λ (z : Door). z.max_conn) q ∙ s.0, ap (λ (z : Door). z.reactors) q ∙ s.1)

join_same : (d x e : Door) → Same d x → Same x e → Same d e
join_same d x e s t = (t.0 ∙ s.0, t.1 ∙ s.1)

module _ {N L K D C E : Type 0} (accepting : N → Accept L → N → Type 0) (claiming : D → Result K ClaimFault → D → Type 0) (number : K → ℕ) (goes : Going C) (puts : E → L → Ended → Bool → E → Type 0) where
  claimed : (r : Result K ClaimFault) (d : Door) (link : L) (ip : ℕ) (b : C) (f : E) (e : Door) (c : C) (g : E) (ask : Ask (Msg L K)) → Claimed number goes puts r d link ip b f e c g ask → Same d e
  claimed (Ok ticket) d link ip b f e c g ask h = same_by d e _ h.0.0 (refl, refl)
  claimed (Err fault) d link ip b f e c g ask (kept, (put, counts, q, asked)) = same_by d e _ q (refl, refl)

  accepted : (x : Accept L) (d : Door) (desk : D) (b : C) (f : E) (e : Door) (desk_new : D) (c : C) (g : E) (ask : Ask (Msg L K)) → AcceptsAs claiming number goes puts x d desk b f e desk_new c g ask → Same d e
  accepted (accepts.Got link ip) d desk b f e desk_new c g ask (r, (drawn, (mid, (went, h)))) = claimed r d link ip mid f e c g ask h
  accepted accepts.NotYet d desk b f e desk_new c g ask h = same_by d e d h.0 (refl, refl)
  accepted accepts.End d desk b f e desk_new c g ask h = same_by d e _ h.0 (refl, refl)
  accepted accepts.Failed d desk b f e desk_new c g ask h = same_by d e _ h.0.1 (refl, refl)

  ended : (d : Door) (ask : Ask (Msg L K)) (e : Door) → Ends d ask e → Same d e
  ended d ask e h = by_bool (nat_lt d.given d.reactors) _ _ (Same d e) (λ k. same_by d e _ k.1 (refl, refl)) (λ k. same_by d e d k.1 (refl, refl)) h

  goes_on : (d : Door) (net : N) (desk : D) (b : C) (f : E) (e : Door) (net_new : N) (desk_new : D) (c : C) (g : E) (ask : Ask (Msg L K)) → GoesOn accepting claiming number goes puts d net desk b f e net_new desk_new c g ask → Same d e
  goes_on d net desk b f e net_new desk_new c g ask h =
      by_bool d.ending _ _ (Same d e) (λ k. ended d ask e k.0)
      (λ m. by_bool d.accepts _ _ (Same d e)
      (λ (x, (got, k)). join_same d (record d { accepts = false }) e (refl, refl) (accepted x (record d { accepts = false }) desk b f e desk_new c g ask k))
      (λ ((stop, (seen, q, asked)), s1, s2, s3). same_by d e _ q (refl, refl)) m) h

  pub turn_keeps_door : (d : Door) (net : N) (desk : D) (b : C) (f : E) (got : Got (Msg L K)) (e : Door) (net_new : N) (desk_new : D) (c : C) (g : E) (ask : Ask (Msg L K)) → Turns accepting claiming number goes puts d net desk b f got e net_new desk_new c g ask → Same d e
  turn_keeps_door d net desk b f (gots.Full m) e net_new desk_new c g ask h = same_by d e d h.1 (refl, refl)
  turn_keeps_door d net desk b f gots.Start e net_new desk_new c g ask h = goes_on d net desk b f e net_new desk_new c g ask h
  turn_keeps_door d net desk b f (gots.Took m) e net_new desk_new c g ask h = goes_on d net desk b f e net_new desk_new c g ask h
  turn_keeps_door d net desk b f gots.Empty e net_new desk_new c g ask h = goes_on d net desk b f e net_new desk_new c g ask h
  turn_keeps_door d net desk b f gots.Pushed e net_new desk_new c g ask h = goes_on d net desk b f e net_new desk_new c g ask h
  turn_keeps_door d net desk b f gots.Nothing e net_new desk_new c g ask h = goes_on d net desk b f e net_new desk_new c g ask h

-- what each accept keeps of a net, a turn keeps
module _ {N L K D C E W : Type 0} (was : N → W) (accepting : N → Accept L → N → Type 0) (claiming : D → Result K ClaimFault → D → Type 0) (number : K → ℕ) (goes : Going C) (puts : E → L → Ended → Bool → E → Type 0) (keeps : (n : N) (a : Accept L) (m : N) → accepting n a m → was m ≡ was n) where
  net_goes : (d : Door) (net : N) (desk : D) (b : C) (f : E) (e : Door) (net_new : N) (desk_new : D) (c : C) (g : E) (ask : Ask (Msg L K)) → GoesOn accepting claiming number goes puts d net desk b f e net_new desk_new c g ask → was net_new ≡ was net
  net_goes d net desk b f e net_new desk_new c g ask h =
      by_bool d.ending _ _ (was net_new ≡ was net) (λ k. ap was k.1)
      (λ m. by_bool d.accepts _ _ (was net_new ≡ was net) (λ (x, (got, k)). keeps net x net_new got) (λ k. ap was k.1) m) h

  pub turn_keeps_net : (d : Door) (net : N) (desk : D) (b : C) (f : E) (got : Got (Msg L K)) (e : Door) (net_new : N) (desk_new : D) (c : C) (g : E) (ask : Ask (Msg L K)) → Turns accepting claiming number goes puts d net desk b f got e net_new desk_new c g ask → was net_new ≡ was net
  turn_keeps_net d net desk b f (gots.Full m) e net_new desk_new c g ask h = ap was h.2
  turn_keeps_net d net desk b f gots.Start e net_new desk_new c g ask h = net_goes d net desk b f e net_new desk_new c g ask h
  turn_keeps_net d net desk b f (gots.Took m) e net_new desk_new c g ask h = net_goes d net desk b f e net_new desk_new c g ask h
  turn_keeps_net d net desk b f gots.Empty e net_new desk_new c g ask h = net_goes d net desk b f e net_new desk_new c g ask h
  turn_keeps_net d net desk b f gots.Pushed e net_new desk_new c g ask h = net_goes d net desk b f e net_new desk_new c g ask h
  turn_keeps_net d net desk b f gots.Nothing e net_new desk_new c g ask h = net_goes d net desk b f e net_new desk_new c g ask h

-- a door's turn leaves how its net was given
pub turn_keeps_was : {N L K D C E : Type 0} (gives : N → Accept L → N → Type 0) (claiming : D → Result K ClaimFault → D → Type 0) (number : K → ℕ) (goes : Going C) (puts : E → L → Ended → Bool → E → Type 0) (d : Door) (net : Heard N) (desk : D) (b : C) (f : E) (got : Got (Msg L K)) (e : Door) (net_new : Heard N) (desk_new : D) (c : C) (g : E) (ask : Ask (Msg L K))
    → Turns (ListensAs gives) claiming number goes puts d net desk b f got e net_new desk_new c g ask → net_new.was ≡ net.was
turn_keeps_was {N} {L} gives claiming number goes puts d net desk b f got e net_new desk_new c g ask h =
    turn_keeps_net (λ (l : Heard N). l.was) (ListensAs gives) claiming number goes puts (λ n a m k. k.2) d net desk b f got e net_new desk_new c g ask h
