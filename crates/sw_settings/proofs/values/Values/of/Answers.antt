use Rattle.std.proofs.Common.{length, sym, ap, ◌∙◌, subst}
use Rattle.std.specs.Prelude.{List, ℕ, Option, IsSomeAnd}
use Rattle.sw_settings.specs.Keys.{rule_of}
use Rattle.sw_settings.specs.Given.{keeps}
use Rattle.sw_settings.specs.Values.{values_of, IsWithin}
use Rattle.sw_settings.proofs.Sound.{mark_is_set, http_fits}
use Rattle.sw_settings.proofs.values.Values.of.Goals as goal

pub returns-clause-value : goal.returns-clause-value
unfolding values_of
returns-clause-value c = λ i. record {
  dispatch_mode = c.small.ensures.value i;
  generation_num = c.small-2.ensures.value i;
  max_conn = c.small-3.ensures.value i;
  max_request = c.small-4.ensures.value i;
  open_eof_split = c.truth.ensures i;
  open_http_protocol = c.truth-2.ensures i;
  open_length_check = c.truth-3.ensures i;
  package_body_offset = c.small-5.ensures.value i;
  package_eof = c.in_ok-package_eof.ensures i;
  package_length_offset = c.small-6.ensures.value i;
  package_length_type = c.package_length_type.ensures i;
  package_max_length = c.number.ensures.value i;
  pipe_capacity = c.small-7.ensures.value i;
  reactor_num = c.small-8.ensures.value i;
  read_size = c.small-9.ensures.value i;
  session_last = c.small-10.ensures.value i;
  socket_buffer_size = c.number-2.ensures.value i;
  table_columns = c.in_ok-table_columns.ensures i;
  table_last_call = c.number-3.ensures.value i;
  table_percent = c.small-11.ensures.value i;
  table_size = c.small-12.ensures.value i;
  task_worker_num = c.small-13.ensures.value i;
  worker_num = c.small-14.ensures.value i;
}

pub returns-clause-sound : goal.returns-clause-sound
unfolding rule_of
returns-clause-sound c = record {
  dispatch_mode = c.small.ensures.bounds;
  generation_num = c.small-2.ensures.bounds;
  max_conn = c.small-3.ensures.bounds;
  package_body_offset = c.small-5.ensures.bounds.1;
  package_length_offset = c.small-6.ensures.bounds.1;
  package_max_length = c.number.ensures.bounds;
  pipe_capacity = c.small-7.ensures.bounds;
  reactor_num = c.small-8.ensures.bounds;
  read_size = c.small-9.ensures.bounds;
  socket_buffer_size = c.number-2.ensures.bounds;
  table_last_call = c.number-3.ensures.bounds.1;
  table_percent = c.small-11.ensures.bounds.1;
  table_size = c.small-12.ensures.bounds;
  task_worker_num = c.small-13.ensures.bounds.1;
  worker_num = c.small-14.ensures.bounds;
  marked = λ split. subst (λ (o : Option (List ℕ)). IsSomeAnd o (λ mark. IsWithin 1 8 (length mark))) (sym c.in_ok-package_eof.ensures) (mark_is_set c.args.pairs.now c.requires (sym c.truth.ensures ∙ split));
  http = λ http.
      let fit = http_fits c.args.pairs.now c.requires (sym c.truth-2.ensures ∙ http) in
      record {
        kept = ap keeps c.small.ensures.value ∙ fit.kept;
        unmarked = c.truth.ensures ∙ fit.unmarked;
        uncounted = c.truth-3.ensures ∙ fit.uncounted;
      };
}
