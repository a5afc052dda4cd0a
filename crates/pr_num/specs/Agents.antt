use Rattle.std.specs.Prelude.{ℕ}

-- the lwp id of the agent: no other lwp ever gets it
abbrev pub agent_id : ℕ
agent_id = 65535
