use Rattle.std.proofs.Common.{◌≡◌, ◌++◌, take}
use Rattle.std.specs.Prelude.{string_bytes}
use Rattle.std.specs.List.{flat_map}
use Rattle.sw_record_text.specs.Links.{piece_text}
use Rattle.sw_record_text.proofs.links.put_each_piece.Given as goal

abbrev pub invariant-loop-piece : goal.invariant-loop-piece
invariant-loop-piece l = string_bytes l.out ≡ string_bytes l.fn.out ++ flat_map piece_text (take l.piece-index l.pieces)
