use Rattle.std.specs.Prelude.{◌||◌, Bool, length, nat_le, nat_lt}
use Rattle.pr_num.specs.Limits.{last_lwp, lwp_limit}
use Rattle.pr_model.specs.State.{TracedProcess}

-- whether a process can have no lwp more
abbrev pub is_full : TracedProcess → Bool
is_full p = nat_le lwp_limit (length p.lwps) || nat_lt last_lwp p.next_lwp
