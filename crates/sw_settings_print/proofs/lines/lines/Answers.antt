use Rattle.std.proofs.Common.{[], ◌∷◌, ap, ◌∙◌}
use Rattle.std.specs.Prelude.{codes}
use Rattle.std.specs.Fmt.{decimal}
use Rattle.sw_settings_print.specs.Print.{truth_text, text_text, letter_text, mark_text, lines}
use Rattle.sw_settings_print.proofs.lines.lines.Goals as goal

pub returns : goal.returns
unfolding lines
returns c = λ i. (codes "dispatch_mode", decimal (c.dispatch_mode.ensures.value i))
    ∷ (codes "generation_num", decimal (c.generation_num.ensures.value i))
    ∷ (codes "max_conn", decimal (c.max_conn.ensures.value i))
    ∷ (codes "max_request", decimal (c.max_request.ensures i))
    ∷ (codes "open_eof_split", truth_text (c.open_eof_split.ensures i))
    ∷ (codes "open_http_protocol", truth_text (c.open_http_protocol.ensures.value i))
    ∷ (codes "open_length_check", truth_text (c.open_length_check.ensures i))
    ∷ (codes "package_body_offset", decimal (c.package_body_offset.ensures.value i))
    ∷ (codes "package_eof", text_text ((c.mark_text.ensures ∙ ap mark_text c.package_eof.ensures) i))
    ∷ (codes "package_length_offset", decimal (c.package_length_offset.ensures.value i))
    ∷ (codes "package_length_type", text_text ((c.letter_text.ensures ∙ ap letter_text c.package_length_type.ensures) i))
    ∷ (codes "package_max_length", decimal (c.package_max_length.ensures.value i))
    ∷ (codes "pipe_capacity", decimal (c.pipe_capacity.ensures.value i))
    ∷ (codes "reactor_num", decimal (c.reactor_num.ensures.value i))
    ∷ (codes "read_size", decimal (c.read_size.ensures.value i))
    ∷ (codes "session_last", decimal (c.session_last.ensures i))
    ∷ (codes "socket_buffer_size", decimal (c.socket_buffer_size.ensures.value i))
    ∷ (codes "table_columns", text_text ((c.bytes.ensures ∙ c.table_columns.ensures) i))
    ∷ (codes "table_last_call", decimal (c.table_last_call.ensures.value i))
    ∷ (codes "table_percent", decimal (c.table_percent.ensures.value i))
    ∷ (codes "table_size", decimal (c.table_size.ensures.value i))
    ∷ (codes "task_worker_num", decimal (c.task_worker_num.ensures.value i))
    ∷ (codes "worker_num", decimal (c.worker_num.ensures.value i))
    ∷ []
