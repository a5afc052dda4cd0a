use Rattle.std.specs.Prelude.{◌==◌, ◌||◌, ℕ, Bool, true, false, List, length, nat_le}
use Rattle.std.specs.List.{list_any}
use Rattle.pr_num.specs.Limits.{list_limit, message_bytes_limit}
use Rattle.pr_model.specs.declared.calls.Call.{Call}
use Rattle.pr_model.specs.declared.calls.Call.TheVariants as call
use Rattle.pr_model.specs.declared.calls.Reply.{Reply}
use Rattle.pr_model.specs.declared.calls.Reply.TheVariants.{Handle, Done, Used, Half, Bytes, Pid, Ready, Fail}

-- The shape of a reply: which replies a call may get. Whoever takes replies can rest on it, whatever kernel made them.

abbrev pub is_failure : Reply → Bool
is_failure (Fail e) = true
is_failure _ = false

abbrev pub is_handle : Reply → Bool
is_handle (Handle handle) = true
is_handle _ = false

abbrev pub is_done : Reply → Bool
is_done Done = true
is_done _ = false

abbrev pub is_used : Reply → Bool
is_used (Used n) = true
is_used _ = false

abbrev pub is_pid : Reply → Bool
is_pid (Pid pid) = true
is_pid _ = false

-- bytes, at most so many
abbrev pub is_at_most : ℕ → Reply → Bool
is_at_most most (Bytes bytes) = nat_le (length bytes) most
is_at_most most _ = false

-- a handle of these
abbrev pub is_ready_among : List ℕ → Reply → Bool
is_ready_among handles (Ready handle) = list_any (λ h. h == handle) handles
is_ready_among handles _ = false

-- the reply to a control message that was not refused: its bytes were used up, its first half was done, or it answers
-- bytes
abbrev pub answers_message : Reply → Bool
answers_message (Used n) = true
answers_message (Half until) = true
answers_message (Bytes bytes) = nat_le (length bytes) message_bytes_limit
answers_message _ = false

-- Whether a call may get a reply, a row a call. Every call but List may be refused.
unfoldable pub has_shape : Call → Reply → Bool
has_shape (call.Open pid lwp file mode) r = is_handle r || is_failure r
has_shape (call.Close handle) r = is_done r || is_failure r
has_shape (call.Ctl handle bytes) r = answers_message r || is_failure r
has_shape (call.CtlWait handle until bytes) r = is_used r || is_failure r
has_shape (call.Read handle at len) r = is_at_most len r || is_failure r
has_shape (call.Poll handles) r = is_ready_among handles r || is_failure r
has_shape (call.Interrupt controller) r = is_done r || is_failure r
has_shape (call.Spawn program held) r = is_pid r || is_failure r
has_shape (call.Kill pid sig) r = is_done r || is_failure r
has_shape (call.Until moment) r = is_done r || is_failure r
has_shape call.List r = is_at_most list_limit r
