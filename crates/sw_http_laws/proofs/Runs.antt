-- A run goes on.
use Rattle.std.proofs.Common.{◌≡◌, ℕ, [], ◌∷◌, ◌++◌, refl, sym, subst}
use Rattle.sw_record.specs.Words.{Given, Act, Log}
use Rattle.sw_http_worker.specs.declared.worker.HttpWorker.{HttpWorker}
use Rattle.sw_http_worker.specs.Serving.{Acts}
use Rattle.sw_http_worker.specs.Worker.{Works}
use Rattle.sw_http_laws.specs.Inside.{Follows, Ran}

follows_more : {H : Type 0} (acts : Acts H) (a : H) (log : Log) (b : H) (x : Given × Act) (c : H) → Follows acts a log b → acts b x.0 x.1 c → Follows acts a (log ++ x ∷ []) c
follows_more acts a [] b x c same step = (c, subst (λ h. acts h x.0 x.1 c) (sym same) step, refl)
follows_more acts a (y ∷ log) b x c (m, first, more) step = (m, first, follows_more acts m log b x c more step)

pub ran_more : {H : Type 0} (acts : Acts H) (tell : H → Log) (max : ℕ) (log : Log) (w v : HttpWorker H) (given : Given) (act : Act) → Ran acts tell max log w → Works acts w given act v → Ran acts tell max (log ++ (given, act) ∷ []) v
ran_more acts tell max log w v given act ran works =
    record { first = ran.first; fit = ran.fit; made = ran.made; empty = ran.empty; follows = follows_more (Works acts) ran.first log w (given, act) v ran.follows works }
