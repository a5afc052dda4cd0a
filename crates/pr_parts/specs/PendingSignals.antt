use Rattle.std.specs.Prelude.{◌≡◌, ◌==◌, ◌-◌, ℕ, suc, ◌≤◌, Bool, true, not, Option, Some, None, List, [], ◌∷◌, ◌++◌, filter, find, is_some, length, nat_le, nat_lt, option_map, replicate, slice_index_or, slice_set, if◌then◌else◌}
use Rattle.std.specs.List.{list_all}
use Rattle.pr_num.specs.Infos.{fault_code}
use Rattle.pr_num.specs.KeyedTables.{without_first}
use Rattle.pr_num.specs.Limits.{queue_limit, standard_signal_count}
use Rattle.pr_num.specs.Sets.{has_number, set_of}
use Rattle.pr_num.specs.Signals.{signal_number, signals}
use Rattle.pr_num.specs.declared.infos.Info.{Info}
use Rattle.pr_num.specs.declared.signals.Sig.{Sig}
use Rattle.pr_parts.specs.declared.signals.Queued.{Queued}

-- The signals that are pending for a process or an lwp, with what came with them (sigpending(2), sigqueue(3C)). A
-- standard signal, of number 1 to 31, is pending once at most; its information stands at the place of its number. The
-- real-time signals above them queue in the order in which they came.
pub record Pending : Type 0 where
  pub standard : List (Option Info)
  pub queued : List Queued

-- whether a signal is pending once at most
abbrev pub is_standard : Sig → Bool
is_standard s = nat_le (signal_number s) standard_signal_count

-- whether a queued pair is of a signal
abbrev pub is_of : Sig → Queued → Bool
is_of s q = signal_number q.signal == signal_number s

-- what a process and an lwp can have: a place for each standard signal, and a queue within its limit of real-time
-- signals alone
pub record IsPendings (p : Pending) : Type 0 where
  pub places : length p.standard ≡ standard_signal_count
  pub limit : length p.queued ≤ queue_limit
  pub queues : list_all (λ q. not (is_standard q.signal)) p.queued ≡ true

-- no signal is pending
abbrev pub nothing_pending : Pending
nothing_pending = record { standard = replicate standard_signal_count None; queued = [] }

-- what came with a signal that is pending: of a signal that queues, with the first that came
unfoldable pub info_of : Sig → Pending → Option Info
info_of s p =
    if is_standard s then slice_index_or p.standard (signal_number s - 1) None else option_map (λ q. q.info)
    (find (is_of s) p.queued)

-- the set of the signals that are pending
unfoldable pub pending_set : Pending → ℕ
pending_set p = set_of signal_number (λ s. is_some (info_of s p)) signals

-- whether a signal can be added: a signal that queues can while the queue is not full
unfoldable pub has_room : Sig → Pending → Bool
has_room s p = if is_standard s then true else nat_lt (length p.queued) queue_limit

-- What is kept of what came with a standard signal: the first that came, but that of a fault replaces what stands,
-- since the lwp has to learn the address of its own fault.
abbrev pub kept_info : Option Info → Info → Info
kept_info None info = info
kept_info (Some standing) info = if info.code == fault_code then info else standing

-- what comes stands at a place, and at the end of the queue
abbrev pub with_standard : ℕ → Info → Pending → Pending
with_standard place info p = record p {
  standard = slice_set p.standard place (Some (kept_info (slice_index_or p.standard place None) info));
}

abbrev pub with_queued : Sig → Info → Pending → Pending
with_queued s info p = record p { queued = p.queued ++ record { signal = s; info = info } ∷ [] }

-- a signal comes, with its information
unfoldable pub added : Sig → Info → Pending → Pending
added s info p = if is_standard s then with_standard (signal_number s - 1) info p else with_queued s info p

-- a signal is taken, or deleted alone: a standard signal is pending no longer, and of one that queues the first that
-- came is not
unfoldable pub without_one : Sig → Pending → Pending
without_one s p =
    if is_standard s then record p { standard = slice_set p.standard (signal_number s - 1) None } else record p
    { queued = without_first (is_of s) p.queued }

-- the places from that of a number on, without what stands for the signals of a set
abbrev pub without_infos : ℕ → ℕ → List (Option Info) → List (Option Info)
without_infos set number [] = []
without_infos set number (o ∷ os) = (if has_number set number then None else o) ∷ without_infos set (suc number) os

-- the signals of a set are pending no longer, however often they came
unfoldable pub without_signals : ℕ → Pending → Pending
without_signals set p = record {
  standard = without_infos set 1 p.standard;
  queued = filter (λ q. not (has_number set (signal_number q.signal))) p.queued;
}
