use Rattle.std.proofs.Common.{◌≡◌, Ok, sym, ap, ◌∙◌}
use Rattle.sw_call.specs.Columns.{schema_of}
use Rattle.sw_settings.specs.Columns.{columns_named}
use Rattle.sw_settings.proofs.Schemas.{schema_is}
use Rattle.sw_settings.proofs.settings.from_pairs.Goals as goal

pub invariant_of-result : goal.invariant_of-result
invariant_of-result c =
    let made : Ok c.in-Ok.schema ≡ schema_of (columns_named c.bytes.result.now) = sym c.in-Ok.is ∙ c.in_ok-schema.ensures in
    (c.in_ok-values.ensures.sound, c.in_ok-framing.ensures.value, c.in_ok-framing.ensures.fit, schema_is c.in-Ok.schema (columns_named c.bytes.result.now) made ∙ ap columns_named c.bytes.ensures)
