-- Pipe calls, and actors that aren't there.
use Rattle.std.proofs.Common.{◌≡◌, true, refl, ap, ◌∙◌, sym, subst, None}
use Rattle.sw_step.specs.declared.actor.ActorId.{ActorId}
use Rattle.sw_step.specs.declared.actor.ActorId.TheVariants.{Door}
use Rattle.sw_record.specs.Terms.{Terms}
use Rattle.sw_table_laws.specs.Table.{Shape}
use Rattle.sw_join.specs.Legal.{LegalFor}
use Rattle.sw_world_laws.specs.World.{Core, Goes as GoesStep, there, next}
use Rattle.sw_world_laws.proofs.Reached.{next_keeps}
use Rattle.sw_world_fits.specs.Board.{number_of}
use Rattle.sw_world_hands.specs.Hands.{Crews}
use Rattle.sw_world_places.specs.Places.{Rows, Goes}
use Rattle.sw_world_asks.specs.Due.{CallIsStep}
use Rattle.sw_world_asks.proofs.Due.{call_steps}
use Rattle.sw_world_steps.specs.Server.{IsServed, server, AState}
use Rattle.sw_world_steps.specs.Shared.{SharedStands}
use Rattle.sw_world_whole.specs.Parts.{Parts, Views}
use Rattle.sw_world_whole.specs.Whole.{ActorStands, Stands, IsStep}
use Rattle.sw_world_whole.proofs.Others.{same_actors}

pub calls : {O H T : Type 0} (t : Terms) (served : IsServed t) (crews : Crews) (shape : Shape) (v : Views O H T) (P : Parts O H T) (c : Core AState) → Stands t served crews shape v P c → (y : ActorId) (u : Rows) → there t y ≡ true → Goes P.rows (number_of t y) None u → IsStep t served crews shape v c (record P { rows = u })
calls t served crews shape v P c st y u here goes =
    let k : CallIsStep t (LegalFor shape) (server t served crews) c y u = call_steps t (LegalFor shape) (server t served crews) c y P.rows u st.law st.sound here st.rows goes in
    let d : Core AState = next t (server t served crews) c (GoesStep y k.outcome) in
    record {
      step = GoesStep y k.outcome;
      may = k.may;
      stands = record {
        law = next_keeps t (LegalFor shape) (server t served crews) c (GoesStep y k.outcome) k.may st.law;
        sound = k.only.lost ∙ st.sound;
        door = st.door;
        is = ap (λ (g : ActorId → AState). g Door) k.only.states ∙ st.is;
        shared = subst (SharedStands t shape P.front P.book P.board P.shelf st.door) (sym k.only.ports) st.shared;
        rows = k.rows;
        actors = λ z there_z. subst (λ (g : ActorId → AState). ActorStands t crews v (record P { rows = u }) z (g z)) (sym k.only.states) (same_actors t crews v P (record P { rows = u }) refl refl refl z (c.states z) (st.actors z there_z));
      };
    }
