-- What the two walks of this crate cite.
pub use Rattle.std.proofs.Common.{◌≡◌, ℕ, List, [], ◌∷◌, ◌++◌, refl, sym}
pub use Rattle.std.proofs.raw_atomic.Walks.{proved}
pub use mir.Syntax.{named}
pub use mir.Val.{Val, vptr, vstruct, vnil}
pub use contract.Running.{tables}
pub use types.Kit.{‵, raw, ◌⊛◌, ◌$◌, ◌∵◌, !, qed, done, move, keep, drop, split, suffices}
pub use types.Part.{agg}
pub use types.Run.{enter, returns, no_more}
pub use types.ByLocal.{alloc_all, pass_all, free_all, look_at, sets}
pub use denote.Builtin.{u8}
pub use denote.Exit.{yes}
pub use denote.RattleType.{owns}
pub use denote.Ref.{shr_vals, shr_Tells}
pub use denote.Shadow.{pure_i}
pub use denote.Signature.{plain, types_at}
pub use denote.Slice.{shr_slice_vals, shr_slice_Tells}
pub use denote.Triple.Entry.{alive}
pub use denote.Triple.Walked.{Stays, walk_of, says, stay_none_ref, stay_none_slice, Goes-none_ref, Goes-none_slice, ends_at}
