use Rattle.std.specs.Prelude.{ℕ, Bool, true, List, Option, Some, None}
use Rattle.pr_num.specs.ById.{under}
use Rattle.pr_num.specs.declared.signals.Sig.{Sig}
use Rattle.pr_parts.specs.PendingSignals.{has_room}
use Rattle.pr_model.specs.State.{TracedProcess, TracedLwp}

-- Whether a signal that is generated has room where it is to pend.

abbrev pub has_room_of : Sig → Option TracedLwp → Bool
has_room_of s None = true
has_room_of s (Some l) = has_room s l.pending

-- for the lwp of an id, if there is one
unfoldable pub has_room_in : ℕ → Sig → List (ℕ × TracedLwp) → Bool
has_room_in id s lwps = has_room_of s (under id lwps)

-- for a process, or for the lwp of an id in it
unfoldable pub has_room_for : Option ℕ → Sig → TracedProcess → Bool
has_room_for None s p = has_room s p.pending
has_room_for (Some id) s p = has_room_in id s p.lwps
