-- The requests that are cut from the bytes of a link.
use Rattle.std.specs.Prelude.{◌≡◌, ◌⊎◌, ℕ, List, [], ◌∷◌, length}
use Rattle.sw_lists.specs.Lists.{IsPrefix}
use Rattle.sw_record.specs.Terms.{numbered}
use Rattle.sw_http.specs.declared.next.HttpNext.TheVariants.{Request}
use Rattle.sw_http.specs.First.{HttpFirst}
use Rattle.sw_http.specs.Calls.{IsCut}
use Rattle.sw_http_worker.specs.Serving.{most}

-- no request comes first in the bytes
abbrev pub HasNone : ℕ → List ℕ → Type 0
HasNone max rest = (bytes : List ℕ) (head : ℕ) → ¬ (HttpFirst max rest (Request bytes head))

-- these are all requests that are cut from the front of the bytes, one after the other; with each stands the length of its head
pub record AreRequests (max : ℕ) (bytes : List ℕ) (requests : List (List ℕ × ℕ)) : Type 0 where
  pub rest : List ℕ
  pub cut : IsCut max bytes requests rest
  pub none : HasNone max rest

-- their bytes
abbrev pub texts : List (List ℕ × ℕ) → List (List ℕ)
texts [] = []
texts (q ∷ qs) = q.0 ∷ texts qs

-- these packets are requests that are cut from a beginning of the bytes, numbered from 0, each once
pub record AreCut (max : ℕ) (bytes : List ℕ) (packets : List (ℕ × List ℕ)) : Type 0 where
  pub requests : List (List ℕ × ℕ)
  pub front : List ℕ
  pub rest : List ℕ
  pub begins : IsPrefix front bytes
  pub cut : IsCut max front requests rest
  pub numbered_are : packets ≡ numbered 0 (texts requests)

-- these packets are all requests that are cut from the bytes, numbered from 0, or as many of them as have numbers
pub record AreAll (max : ℕ) (bytes : List ℕ) (packets : List (ℕ × List ℕ)) : Type 0 where
  pub requests : List (List ℕ × ℕ)
  pub numbered_are : packets ≡ numbered 0 (texts requests)
  pub rest : List ℕ
  pub cut : IsCut max bytes requests rest
  pub ended : HasNone max rest ⊎ (length requests ≡ most)
