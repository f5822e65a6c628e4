-- What a finished reactor shows.
use Rattle.std.proofs.Common.{◌≡◌, ℕ, ◌<◌, true, false, [], ◌∙◌, sym, subst, Some}
use Rattle.sw_lists.specs.Lists.{Each, Has}
use Rattle.sw_lists.proofs.Lists.{each_at}
use Rattle.sw_frame.specs.Cut.{IsFit}
use Rattle.sw_step.specs.declared.actor.ActorId.{ActorId}
use Rattle.sw_step.specs.declared.actor.ActorId.TheVariants.{Door, Reactor, Worker, Tasker}
use Rattle.sw_record.specs.declared.record.LinkRecord.{LinkRecord}
use Rattle.sw_record.specs.declared.record.LinkState.TheVariants.{Over}
use Rattle.sw_record.specs.Words.{Stop, Ended}
use Rattle.sw_record.specs.Terms.{Terms, session_of}
use Rattle.sw_record.specs.Whole.{IsAllCut}
use Rattle.sw_past.specs.Routes.{IsHand, IsFair}
use Rattle.sw_world_ports.proofs.Haves.{each_has}
use Rattle.sw_world_laws.specs.Turns.{Diary}
use Rattle.sw_world_laws.specs.Shows.{HasWord}
use Rattle.sw_world_laws.specs.Done.{ReactorDone, DoneShows}
use Rattle.sw_world_laws.proofs.Locals.{no_hand_reactor}
use Rattle.sw_reactor_table.specs.Reactor.{Reactor as Table, kept}
use Rattle.sw_reactor_laws.specs.Shows.{IsEnd, EndsAllCut, ReactorMore as TableMore, ReactorDone as TableDone}
use Rattle.sw_reactor_laws.proofs.Shows.{reactor_more, reactor_done}
use Rattle.sw_reactor_laws.proofs.Last.{finished_last}
use Rattle.sw_world_reactor.specs.Reactors.{AllTold, RunWith, RDone}
use Rattle.sw_world_reactor.proofs.Once.{once_to, links_first}

told_of : (d : Diary) (h : HasWord d.dids) → AllTold h.word d.dids
told_of d h = record { found = h.found; freed = h.freed }

pub reactor_is_done : (t : Terms) → 0 < t.worker_num → IsFit t.framing → t.start_fault ≡ false → (y : ActorId) (s : Table) (d : Diary) → RDone t y s d → DoneShows t y [] (kept t s) d
reactor_is_done t some fit calm y s d (i, (e, r)) =
    record {
      once = once_to t s d.took d.pushed r.counts r.only;
      door = λ q. absurd (let z : Door ≡ Reactor i.0 = sym q ∙ i.1.1 in cc);
      reactor = λ n lt q word fair. done n lt word fair;
      hand = λ k. absurd (no_hand_reactor t i.0 (subst (IsHand t) i.1.1 k));
      worker = λ v lt q. absurd (let z : Worker v ≡ Reactor i.0 = sym q ∙ i.1.1 in cc);
      tasker = λ v lt q. absurd (let z : Tasker v ≡ Reactor i.0 = sym q ∙ i.1.1 in cc);
      round = λ m. record {
        round = λ n lt q word fair cut j less. (table n lt word fair).round m (all_cut n lt word fair cut) j less;
        last = λ n j lt q word first. finished_last t word.word some d.took d.pushed s (with_word word).run (links_first d.took first) e j;
        all = λ j lt q. absurd (let z : Worker j ≡ Reactor i.0 = sym q ∙ i.1.1 in cc);
      };
    }
  where
    with_word : (word : HasWord d.dids) → RunWith t word.word d.took d.pushed s d.dids
    with_word word = r.runs word.word (told_of d word)

    more : (n : ℕ) → n < t.reactor_num → (word : HasWord d.dids) → IsFair t n d.took → TableMore t word.word d.took d.pushed s (with_word word).run
    more n lt word fair = reactor_more t word.word some fit n lt d.took d.pushed s (with_word word).run fair

    table : (n : ℕ) → n < t.reactor_num → (word : HasWord d.dids) → IsFair t n d.took → TableDone t d.took d.pushed s
    table n lt word fair = reactor_done t word.word some fit n lt d.took d.pushed s (with_word word).run fair e

    all_cut : (n : ℕ) → n < t.reactor_num → (word : HasWord d.dids) → IsFair t n d.took → ((k : ℕ) (l : LinkRecord) → Has l (kept t s) → session_of l.state ≡ Some k → (x : Ended) × ((l.state ≡ Over x) × IsAllCut x.cause)) → Each EndsAllCut (kept t s)
    all_cut n lt word fair cut = each_at EndsAllCut (kept t s) (λ l has. (let k = each_has _ (kept t s) l (more n lt word fair).sessions has in cut k.0 l has k.1))

    not_own : (x : Ended) → (t.start_fault ≡ true) × (x.cause ≡ Stop) → ⊥
    not_own x z = absurd (let q : true ≡ false = sym z.0 ∙ calm in cc)

    done : (n : ℕ) → n < t.reactor_num → (word : HasWord d.dids) → IsFair t n d.took → ReactorDone t (kept t s) d
    done n lt word fair =
        (let x : TableDone t d.took d.pushed s = table n lt word fair in
        record {
          over = λ k l has own. (let z : IsEnd l = each_has IsEnd (kept t s) l x.over has in (z.0, (z.1, not_own z.0)));
          settled = x.settled;
          all = x.all;
        })
