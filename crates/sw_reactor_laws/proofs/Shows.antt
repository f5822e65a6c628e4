-- What a reactor shows beside its law, taken together.
use Rattle.std.proofs.Common.{◌≡◌, ◌⊎◌, ℕ, ◌+◌, ◌<◌, ◌≤◌, List, [], ◌∷◌, ◌++◌, length, refl, ap, ◌∙◌, sym, subst, Option, Some, None, inl, inr, zero, suc}
use Rattle.sw_frame.specs.Cut.{IsFit}
use Rattle.sw_lists.specs.Lists.{collect, Each, Has}
use Rattle.sw_lists.specs.Numbers.{Distinct}
use Rattle.sw_lists.proofs.Lists.{each_append, each_at, perm_has}
use Rattle.sw_record.specs.Terms.{Terms, session_of}
use Rattle.sw_record.specs.Words.{Ended}
use Rattle.sw_record.specs.declared.record.LinkRecord.{LinkRecord}
use Rattle.sw_record.specs.declared.record.LinkState.TheVariants.{Live, Over}
use Rattle.sw_past.specs.Past.{Mail, bare}
use Rattle.sw_past.specs.Views.{fresh_in}
use Rattle.sw_past.specs.Routes.{IsFair}
use Rattle.sw_join.specs.Modes.{AimOf, EndOf}
use Rattle.sw_reactor_table.specs.Conn.{Conn, live_link}
use Rattle.sw_reactor_table.specs.Reactor.{Reactor, Finished, all, live_links, kept}
use Rattle.sw_reactor_table.specs.Quiet.{Quiet, QuietBy, session_in, session_over, sessions}
use Rattle.sw_reactor_table.specs.Runs.{Runs, Known, TellsUid}
use Rattle.sw_reactor_laws.specs.Stopped.{CalmLink, stop_read}
use Rattle.sw_reactor_laws.specs.Histories.{freed_in, freed_of, firsts, reads_in, writes_in}
use Rattle.sw_reactor_laws.specs.Rests.{LinkRests}
use Rattle.sw_reactor_laws.specs.Shows.{WasAsked, HasSession, IsEnd, TellsWord, ReactorMore, ReactorDone}
use Rattle.sw_reactor_table.proofs.Members.{has_right}
use Rattle.sw_reactor_table.proofs.Grows.{fit_grows}
use Rattle.sw_reactor_table.proofs.Final.{mode_laws}
use Rattle.sw_reactor_table.proofs.Known.{runs_known, runs_over}
use Rattle.sw_reactor_table.proofs.Law.{runs_quiet}
use Rattle.sw_reactor_laws.proofs.Stopped.{AllCalm, runs_calm}
use Rattle.sw_reactor_laws.proofs.Rests.{AllRest, runs_rest}
use Rattle.sw_reactor_laws.proofs.Ending.{runs_counts, finished_ends, finished_over, settled_kept}
use Rattle.sw_reactor_laws.proofs.Last.{finished_last}
use Rattle.sw_reactor_laws.proofs.Rounded.{round_law}
use Rattle.sw_reactor_laws.proofs.Histories.{Listed, runs_listed, counted_total, freed_is, firsts_freed, freed_kept}

-- of the links of connections and of links that ended
live_each : (P : Conn → Type 0) (Q : LinkRecord → Type 0) (t : Terms) → ((c : Conn) → P c → Q (live_link t c)) → (cs : List Conn) → Each P cs → Each Q (live_links t cs)
live_each P Q t f [] h = tt
live_each P Q t f (c ∷ cs) h = (f c h.0, live_each P Q t f cs h.1)

any : (cs : List Conn) → Each (λ c. Unit {0}) cs
any [] = tt
any (c ∷ cs) = (tt, any cs)

kept_each : (Q : LinkRecord → Type 0) (t : Terms) → ((c : Conn) → Q (live_link t c)) → (cs : List Conn) (ls : List LinkRecord) → Each Q ls → Each Q (live_links t cs ++ ls)
kept_each Q t f cs ls h = each_append Q (live_links t cs) ls (live_each (λ c. Unit {0}) Q t (λ c u. f c) cs (any cs)) h

sessions_kept : (t : Terms) (cs : List Conn) (ls : List LinkRecord) → collect session_over (live_links t cs ++ ls) ≡ sessions cs ls
sessions_kept t [] ls = refl
sessions_kept t (c ∷ cs) ls = ap (λ (zs : List ℕ). c.session ∷ zs) (sessions_kept t cs ls)

-- a live link has no end
not_over : (d e : Ended) → Live d ≡ Over e → ⊥
not_over d e q = cc

live_same : (d e : Ended) → Live d ≡ Live e → d ≡ e
live_same d e q = cc

some_same : (x y : ℕ) → Some x ≡ Some y → x ≡ y
some_same x y q = cc

known_tells : (word : ℕ → ℕ) (t : Terms) (c : Conn) → Known word c → TellsWord word (live_link t c)
known_tells word t c k = (
  (λ s e p q. absurd (not_over _ e q)),
  λ s e p q. subst (λ (u : ℕ). (e.uid ≡ 0) ⊎ (e.uid ≡ word u)) (some_same c.session s p) (subst (λ (x : Ended). (x.uid ≡ 0) ⊎ (x.uid ≡ word c.session)) (live_same _ e q) k),
)

over_tells : (word : ℕ → ℕ) (l : LinkRecord) → IsEnd l → TellsUid word l → TellsWord word l
over_tells word l d h = ((λ s e p q. h e s q (sym (ap session_of q) ∙ p)), λ s e p q. absurd (not_over e d.0 (sym q ∙ d.1)))

pub reactor_more : (t : Terms) (word : ℕ → ℕ) → 0 < t.worker_num → IsFit t.framing → (n : ℕ) → n < t.reactor_num → (took pushed : Mail) (r : Reactor) (run : Runs t word took pushed r) → IsFair t n took → ReactorMore t word took pushed r run
reactor_more t word some fit n small took pushed r run fair =
    let l : Listed took (all r) r.over = runs_listed t (AimOf t) (EndOf t) (mode_laws t) word some (fit_grows t fit) n small took pushed r run fair in
    let e : firsts (freed_in run) ≡ collect session_over r.over = ap firsts (sym (freed_is t word took pushed r run)) ∙ firsts_freed r.over l.ended in
    let calm : AllCalm (stop_read run) r = runs_calm t word took pushed r run in
    let rest : AllRest t (reads_in run) (writes_in run) r = runs_rest t word took pushed r run in
    record {
      packets = counted_total t (AimOf t) (EndOf t) (mode_laws t) word some (fit_grows t fit) n small took pushed r run fair;
      freed = sym (freed_is t word took pushed r run) ∙ sym (freed_kept_is t (all r) r.over);
      once = subst Distinct (sym e) (right_distinct (collect session_in (all r)) (collect session_over r.over) l.distinct);
      came = subst (Each (λ s. Has s (collect fresh_in (bare took)))) (sym e) (each_at (λ s. Has s (collect fresh_in (bare took))) (collect session_over r.over) (λ s has. perm_has s l.came (has_right s (collect session_in (all r)) (collect session_over r.over) has)));
      release = λ s has. freed_kept t took (all r) r.over l s (subst (λ (zs : List (ℕ × ℕ)). Has s (firsts zs)) (sym (freed_is t word took pushed r run)) has);
      sessions = kept_each HasSession t (λ c. (c.session, refl)) (all r) r.over l.have;
      distinct = subst Distinct (sym (sessions_kept t (all r) r.over)) l.distinct;
      asked = kept_each (WasAsked took) t (λ c s e p q. absurd (not_over _ e q)) (all r) r.over l.why;
      stops = kept_each (CalmLink (stop_read run)) t (λ c e q z. absurd (not_over _ e q)) (all r) r.over calm.over;
      rests = kept_each (LinkRests t (reads_in run) (writes_in run)) t (λ c s e p q. absurd (not_over _ e q)) (all r) r.over rest.over;
      uids = each_append (TellsWord word) (live_links t (all r)) r.over (live_each (Known word) (TellsWord word) t (known_tells word t) (all r) (runs_known word t took pushed r run))
          (both_each (λ (k : LinkRecord). IsEnd k) (TellsUid word) (TellsWord word) (over_tells word) r.over l.ended (runs_over word t took pushed r run));
    }
  where
    freed_kept_is : (t : Terms) (cs : List Conn) (ls : List LinkRecord) → collect freed_of (live_links t cs ++ ls) ≡ collect freed_of ls
    freed_kept_is t [] ls = refl
    freed_kept_is t (c ∷ cs) ls = freed_kept_is t cs ls

    right_distinct : (xs ys : List ℕ) → Distinct (xs ++ ys) → Distinct ys
    right_distinct [] ys h = h
    right_distinct (x ∷ xs) ys h = right_distinct xs ys h.1

    both_each : (P Q S : LinkRecord → Type 0) → ((k : LinkRecord) → P k → Q k → S k) → (ls : List LinkRecord) → Each P ls → Each Q ls → Each S ls
    both_each P Q S f [] h g = tt
    both_each P Q S f (k ∷ ls) h g = (f k h.0 g.0, both_each P Q S f ls h.1 g.1)

pub reactor_done : (t : Terms) (word : ℕ → ℕ) → 0 < t.worker_num → IsFit t.framing → (n : ℕ) → n < t.reactor_num → (took pushed : Mail) (r : Reactor) (run : Runs t word took pushed r) → IsFair t n took → r.last ≡ Finished → ReactorDone t took pushed r
reactor_done t word some fit n small took pushed r run fair e =
    let none : all r ≡ [] = ((runs_counts t word took pushed r run).done e).none in
    let q : Quiet t (AimOf t) (EndOf t) n took pushed r = subst (QuietBy t (AimOf t) (EndOf t) n took pushed r) e (runs_quiet t (AimOf t) (EndOf t) (mode_laws t) word some (fit_grows t fit) n small took pushed r run fair) in
    record {
      over = each_at IsEnd (kept t r) (finished_over t (AimOf t) (EndOf t) n took pushed r q none);
      settled = settled_kept t (AimOf t) (EndOf t) n took pushed r q;
      all = finished_ends t word took pushed r run e;
      last = λ first. finished_last t word some took pushed r run first e;
      round = λ one cut. round_law t (AimOf t) (EndOf t) (mode_laws t) word one some (fit_grows t fit) n small took pushed r run fair e none cut;
    }
