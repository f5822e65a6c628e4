-- What each key is set to by pairs, and what holds of that.
use Rattle.std.specs.Prelude.{◌≡◌, ℕ, ◌≤◌, List, [], codes, length, true, false, Option, IsSomeAnd}
use Rattle.std.specs.Option.{unwrap_or}
use Rattle.sw_text.specs.Then.{◌>>=◌}
use Rattle.sw_frame_len.specs.declared.rule.Letter.{Letter}
use Rattle.sw_settings.specs.declared.pair.Pair.{Pair}
use Rattle.sw_settings.specs.declared.values.Values.{Values}
use Rattle.sw_settings.specs.Keys.{letter_of}
use Rattle.sw_settings.specs.Given.{truth_of, number_of, text_of, keeps}

abbrev pub length_type : List Pair → Option Letter
length_type ps = text_of (codes "package_length_type") ps >>= letter_of

abbrev pub text_or_none : Option (List ℕ) → List ℕ
text_or_none t = unwrap_or t []

-- what the pairs set each key to
unfoldable pub values_of : List Pair → Values
values_of ps = record {
  dispatch_mode = number_of (codes "dispatch_mode") ps;
  generation_num = number_of (codes "generation_num") ps;
  max_conn = number_of (codes "max_conn") ps;
  max_request = number_of (codes "max_request") ps;
  open_eof_split = truth_of (codes "open_eof_split") ps;
  open_http_protocol = truth_of (codes "open_http_protocol") ps;
  open_length_check = truth_of (codes "open_length_check") ps;
  package_body_offset = number_of (codes "package_body_offset") ps;
  package_eof = text_of (codes "package_eof") ps;
  package_length_offset = number_of (codes "package_length_offset") ps;
  package_length_type = length_type ps;
  package_max_length = number_of (codes "package_max_length") ps;
  pipe_capacity = number_of (codes "pipe_capacity") ps;
  reactor_num = number_of (codes "reactor_num") ps;
  read_size = number_of (codes "read_size") ps;
  session_last = number_of (codes "session_last") ps;
  socket_buffer_size = number_of (codes "socket_buffer_size") ps;
  table_columns = text_or_none (text_of (codes "table_columns") ps);
  table_last_call = number_of (codes "table_last_call") ps;
  table_percent = number_of (codes "table_percent") ps;
  table_size = number_of (codes "table_size") ps;
  task_worker_num = number_of (codes "task_worker_num") ps;
  worker_num = number_of (codes "worker_num") ps;
}

abbrev pub IsWithin : ℕ → ℕ → ℕ → Type 0
IsWithin least most n = (least ≤ n) × (n ≤ most)

-- whole HTTP requests may be given: each connection has one worker, and its bytes aren't cut in another way
pub record IsForHttp (v : Values) : Type 0 where
  pub kept : keeps v.dispatch_mode ≡ true
  pub unmarked : v.open_eof_split ≡ false
  pub uncounted : v.open_length_check ≡ false

-- each number is in its key's range, where packets end at a mark there is one of 1 to 8 bytes, and whole requests are given only
-- where they may be
pub record IsSound (v : Values) : Type 0 where
  pub dispatch_mode : IsWithin 1 5 v.dispatch_mode
  pub generation_num : IsWithin 1 64 v.generation_num
  pub max_conn : IsWithin 1 65536 v.max_conn
  pub package_body_offset : v.package_body_offset ≤ 65535
  pub package_length_offset : v.package_length_offset ≤ 65535
  pub package_max_length : IsWithin 1 8388608 v.package_max_length
  pub pipe_capacity : IsWithin 1 8192 v.pipe_capacity
  pub reactor_num : IsWithin 1 64 v.reactor_num
  pub read_size : IsWithin 1 65536 v.read_size
  pub socket_buffer_size : IsWithin 1 67108864 v.socket_buffer_size
  pub table_last_call : v.table_last_call ≤ 8796093022207
  pub table_percent : v.table_percent ≤ 100
  pub table_size : IsWithin 1 524288 v.table_size
  pub task_worker_num : v.task_worker_num ≤ 64
  pub worker_num : IsWithin 1 64 v.worker_num
  pub marked : v.open_eof_split ≡ true → IsSomeAnd v.package_eof (λ mark. IsWithin 1 8 (length mark))
  pub http : v.open_http_protocol ≡ true → IsForHttp v
