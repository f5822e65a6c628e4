use Rattle.std.proofs.Common.{length, map}
use Rattle.sw_world_make.proofs.Refusing.{counted, handled}
use Rattle.sw_world_make.proofs.Assembling.{new_core, ready, few_lists, few_handlers}
use Rattle.sw_world_make.proofs.making.assembled.Goals as goal

pub workers-requires-clause-some : goal.workers-requires-clause-some
workers-requires-clause-some g c = handled (λ hs. hs.items) c.args.given.items (counted c.args.settings.now (map (λ hs. hs.items) c.args.given.items) (length c.args.tasks.items) c.requires).1.1

pub workers-requires-clause-few : goal.workers-requires-clause-few
workers-requires-clause-few g c = few_lists (λ hs. hs.items) c.args.settings.now c.args.given.items (counted c.args.settings.now (map (λ hs. hs.items) c.args.given.items) (length c.args.tasks.items) c.requires).0 c.served.ensures.few

pub taskers-requires : goal.taskers-requires
taskers-requires g c = few_handlers c.args.settings.now (length c.args.tasks.items) (counted c.args.settings.now (map (λ hs. hs.items) c.args.given.items) (length c.args.tasks.items) c.requires).1.0 c.served.ensures.few

pub returns : goal.returns
returns g c =
    let right = counted c.args.settings.now (map (λ hs. hs.items) c.args.given.items) (length c.args.tasks.items) c.requires in
    record {
      server = c.served.ensures.server;
      served = c.served.ensures.served;
      last = c.served.ensures.last;
      legal = c.served.ensures.legal;
      starts = new_core c.args.settings.now (map (λ hs. hs.items) c.args.given.items) c.args.tasks.items _ _ _ _ _ _ _ _ right.0 right.1.0 c.in_ok-front.ensures c.in_ok-places.ensures c.in_ok-book.ensures c.in_ok-board.ensures c.in_ok-shelf.ensures c.in_ok-reactors.ensures c.in_ok-workers.ensures c.in_ok-taskers.ensures;
      ready = ready c.args.settings.now (map (λ hs. hs.items) c.args.given.items) c.args.tasks.items _ _ _ _ _ _ _ _ _ right.0 right.1.0 c.max_conn-slots.ensures.value c.served.ensures.server.reactors c.served.ensures.few c.in_ok-reactors.ensures c.in_ok-workers.ensures c.in_ok-taskers.ensures;
      handlers = c.in_ok-workers.ensures.handlers;
      task_handlers = c.in_ok-taskers.ensures.handlers;
    }
