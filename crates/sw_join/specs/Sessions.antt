-- What the session words keep.
use Rattle.std.specs.Prelude.{◌≡◌, ℕ, ◌<◌, ◌%◌, List, Some}
use Rattle.sw_lists.specs.Lists.{Has}
use Rattle.sw_record.specs.Terms.{Terms, session_of}
use Rattle.sw_record.specs.Words.{Ended}
use Rattle.sw_record.specs.declared.record.LinkRecord.{LinkRecord}
use Rattle.sw_record.specs.declared.record.LinkState.TheVariants.{Over}
use Rattle.sw_past.specs.Past.{Past, drawn}

-- the session words: a slot is drawn again only behind its release, and a reactor releases a session as it ends its link
pub record WordLaws (t : Terms) (h : Past) (released : ℕ → List ℕ) : Type 0 where
  pub again : (s u : ℕ) → Has s (drawn h) → Has u (drawn h) → s < u → s % t.max_conn ≡ u % t.max_conn → (n : ℕ) × ((n < t.reactor_num) × Has s (released n))
  pub release : (n : ℕ) → n < t.reactor_num → (s : ℕ) → Has s (released n) → ((l : LinkRecord) × (Has l (h.kept n) × (session_of l.state ≡ Some s))) × ((l : LinkRecord) → Has l (h.kept n) → session_of l.state ≡ Some s → (e : Ended) × (l.state ≡ Over e))
