-- The plain ports of a hand's code, as the world's ports have them.
use Rattle.std.specs.Prelude.{◌≡◌, ◌<◌, ◌≤◌, true}
use Rattle.sw_step.specs.declared.actor.ActorId.{ActorId}
use Rattle.sw_port_book.specs.Plain.{Words, word_of, bound}
use Rattle.sw_port_board.specs.PlainBoard.{PlainWords, PlainGoes}
use Rattle.sw_table_laws.specs.Table.{Shape}
use Rattle.sw_tmodel.specs.Plain.{PlainTable, IsCall}
use Rattle.sw_record.specs.Words.{Counter}
use Rattle.sw_record.specs.Counts.{greatest}
use Rattle.sw_record.specs.Terms.{Terms}
use Rattle.sw_join.specs.Legal.{LegalFor}
use Rattle.sw_world_ports.specs.Calls.{Did, Looks, Binds, Idles}
use Rattle.sw_world_ports.specs.Ports.{Ports}
use Rattle.sw_world_fits.specs.Book.{BookStands}
use Rattle.sw_world_fits.specs.Board.{number_of, BoardStands}
use Rattle.sw_world_fits.specs.Table.{TableStands}
use Rattle.sw_hand.specs.Ports.{Acting}
use Rattle.sw_hand_calls.specs.Calls.{Rules, rules_of, Around}

-- the plain book, Table and board, with any handler
abbrev pub plain_rules : {H : Type 0} → Acting H → Rules H Words PlainTable PlainWords
plain_rules acts = rules_of (λ b session found c. (found ≡ word_of b session) × (c ≡ b)) (λ b session uid found c. (found ≡ word_of b session) × (c ≡ bound b session uid found)) (λ p call q row new result. IsCall p call q row new result) acts PlainGoes (λ b. b.sizes)

-- the plain ports stand for the world's, on the turn of an actor that is there
pub record Stands {H : Type 0} (t : Terms) (shape : Shape) (y : ActorId) (a : Around H Words PlainTable PlainWords) (p : Ports) : Type 0 where
  pub book : BookStands t a.book p
  pub board : BoardStands t a.board p
  pub table : TableStands t shape a.shelf p.table
  pub legal : LegalFor shape p.table
  pub turn : a.board.turn ≡ number_of t y
  pub counts : (k : Counter) (z : ActorId) → p.counts k z ≤ greatest

-- a call of a session whose number isn't 0, and of a task worker that is there
abbrev pub IsSound : Terms → Did → Type 0
IsSound t (Looks s x) = 0 < s
IsSound t (Binds s u x) = 0 < s
IsSound t (Idles true k x) = k < t.tasker_num
IsSound t _ = Unit {0}
