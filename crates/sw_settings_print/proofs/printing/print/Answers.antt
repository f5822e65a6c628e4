use Rattle.std.proofs.Common.{◌∙◌}
use Rattle.sw_settings_print.proofs.Texts.{text_of_lines}
use Rattle.sw_settings_print.proofs.printing.print.Goals as goal

pub returns : goal.returns
returns c =
    let written = rw c.new-out.ensures.bytes at c.in_ok-put_lines.ensures in
    written ∙ text_of_lines c.lines-made.result c.args.settings.now c.lines-made.ensures
