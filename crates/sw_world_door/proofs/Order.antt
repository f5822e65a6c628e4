-- No link comes behind a NoMore in what the door pushes.
use Rattle.std.proofs.Common.{◌≡◌, ℕ, List, [], ◌∷◌, ◌++◌, refl, ap, ◌∙◌, sym, subst, append-nil, zero, suc}
use Rattle.sw_lists.specs.Lists.{collect, Each}
use Rattle.sw_lists.proofs.Lists.{append_none, collect-append}
use Rattle.sw_step.specs.declared.actor.ActorId.TheVariants.{Reactor}
use Rattle.sw_record.specs.Terms.{Terms}
use Rattle.sw_past.specs.Messages.{Message, FreshMsg, SendMsg, CloseMsg, ResetMsg, Bye, EventMsg, OverMsg, NoMore}
use Rattle.sw_past.specs.Past.{Mail, bare, msg_of}
use Rattle.sw_past.specs.Views.{fresh_in}
use Rattle.sw_world_laws.specs.Shows.{ComeFirst}
use Rattle.sw_world_door.specs.Doors.{says, IsLinkTo}

come_left : (xs ys : List Message) → ComeFirst (xs ++ ys) → ComeFirst xs
come_left [] ys h = tt
come_left (x ∷ xs) ys h = (
  (λ some. (append_none (collect fresh_in xs) (collect fresh_in ys) (sym (collect-append fresh_in xs ys) ∙ h.0 some)).0),
  come_left xs ys h.1,
)

-- without a link
none_come : (ms : List Message) → collect fresh_in ms ≡ [] → ComeFirst ms
none_come [] e = tt
none_come (m ∷ ms) e = ((λ some. (append_none (fresh_in m) (collect fresh_in ms) e).1), none_come ms (append_none (fresh_in m) (collect fresh_in ms) e).1)

says_none : (k : ℕ) → collect fresh_in (bare (says k)) ≡ []
says_none zero = refl
says_none (suc k) = ap (collect fresh_in) (collect-append msg_of (says k) ((Reactor k, NoMore) ∷ [])) ∙ collect-append fresh_in (bare (says k)) (NoMore ∷ []) ∙ append-nil (collect fresh_in (bare (says k))) ∙ says_none k

links_come : (t : Terms) (ms rest : Mail) → Each (IsLinkTo t) ms → ComeFirst (bare rest) → ComeFirst (bare (ms ++ rest))
links_come t [] rest only h = h
links_come t ((to, FreshMsg ip s) ∷ ms) rest only h = ((λ some. absurd (some refl)), links_come t ms rest only.1 h)
links_come t ((to, SendMsg s b) ∷ ms) rest only h = absurd only.0
links_come t ((to, CloseMsg s) ∷ ms) rest only h = absurd only.0
links_come t ((to, ResetMsg s) ∷ ms) rest only h = absurd only.0
links_come t ((to, Bye s) ∷ ms) rest only h = absurd only.0
links_come t ((to, EventMsg e) ∷ ms) rest only h = absurd only.0
links_come t ((to, OverMsg id) ∷ ms) rest only h = absurd only.0
links_come t ((to, NoMore) ∷ ms) rest only h = absurd only.0

pub pushed_first : (t : Terms) (links pushed hand : Mail) (k : ℕ) → pushed ++ hand ≡ links ++ says k → Each (IsLinkTo t) links → ComeFirst (bare pushed)
pushed_first t links pushed hand k split only =
    come_left (bare pushed) (bare hand) (subst ComeFirst (ap bare (sym split) ∙ collect-append msg_of pushed hand) (links_come t links (says k) only (none_come (bare (says k)) (says_none k))))
