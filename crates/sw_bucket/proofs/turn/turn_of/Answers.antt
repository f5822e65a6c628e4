use Rattle.std.proofs.Common.{List, ℕ, sym, subst}
use Rattle.sw_base.specs.declared.table.Call.{Call}
use Rattle.sw_base.specs.declared.table.Call.TheVariants.{Get, Exist, Del}
use Rattle.sw_bucket.specs.Turns.{IsTurn}
use Rattle.sw_bucket.proofs.turn.turn_of.Goals as goal

pub returns-in-Get : goal.returns-in-Get
returns-in-Get c = subst (λ (q : Call). IsTurn c.args.schema.now c.args.chain.now q c.get_turn.result) (sym c.in-Get.is) (subst (λ (k : List ℕ). IsTurn c.args.schema.now c.args.chain.now (Get k) c.get_turn.result) c.bytes-in-Get.ensures (c.get_turn.ensures c.args.schema.now c.requires.bucket))

pub returns-in-Exist : goal.returns-in-Exist
returns-in-Exist c = subst (λ (q : Call). IsTurn c.args.schema.now c.args.chain.now q c.exist_turn.result) (sym c.in-Exist.is) (subst (λ (k : List ℕ). IsTurn c.args.schema.now c.args.chain.now (Exist k) c.exist_turn.result) c.bytes-in-Exist.ensures (c.exist_turn.ensures c.args.schema.now c.requires.bucket))

pub returns-in-Del : goal.returns-in-Del
returns-in-Del c = subst (λ (q : Call). IsTurn c.args.schema.now c.args.chain.now q c.del_turn.result) (sym c.in-Del.is) (subst (λ (k : List ℕ). IsTurn c.args.schema.now c.args.chain.now (Del k) c.del_turn.result) c.bytes-in-Del.ensures (c.del_turn.ensures c.args.schema.now c.requires.bucket))
