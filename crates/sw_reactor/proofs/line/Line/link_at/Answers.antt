use Rattle.std.proofs.Common.{refl}
use Rattle.std.specs.Vec.{vec_capacity}
use Rattle.sw_reactor.proofs.Slots.{living}
use Rattle.sw_reactor.proofs.Links.{is_there, relinked_line, relinked_view, link_there}
use Rattle.sw_reactor.proofs.line.Line.link_at.Goals as goal

pub link_in-requires : goal.link_in-requires
link_in-requires g c =
    is_there c.self.inside.slots.items c.args._session c.args.slot c.index_mut.result.now (living c.self.inside.slots.items c.self.inside.order.items (vec_capacity c.self.inside.order) c.args._session c.args.slot c.args.self.now c.self.invariant c.self.view_is c.requires) c.index_mut.ensures.value

pub invariant_of-self-lent : goal.invariant_of-self-lent
invariant_of-self-lent g c w =
    relinked_line c.self.inside.slots.items c.self.inside.order.items (vec_capacity c.self.inside.order) c.args._session c.args.slot c.index_mut.result.now w c.self.invariant (living c.self.inside.slots.items c.self.inside.order.items (vec_capacity c.self.inside.order) c.args._session c.args.slot c.args.self.now c.self.invariant c.self.view_is c.requires) c.index_mut.ensures.value

pub returns : goal.returns
returns g c =
    let f = living c.self.inside.slots.items c.self.inside.order.items (vec_capacity c.self.inside.order) c.args._session c.args.slot c.args.self.now c.self.invariant c.self.view_is c.requires in (
      (refl, λ w. relinked_view c.self.inside.slots.items c.self.inside.order.items (vec_capacity c.self.inside.order) c.args._session c.args.slot c.index_mut.result.now w c.args.self.now c.self.invariant c.self.view_is f c.index_mut.ensures.value),
      record { writes_back = tt; value = link_there c.self.inside.slots.items c.self.inside.order.items (vec_capacity c.self.inside.order) c.args._session c.args.slot c.index_mut.result.now c.link_in.result.now c.args.self.now c.self.invariant c.self.view_is f c.index_mut.ensures.value c.link_in.ensures.value },
    )
