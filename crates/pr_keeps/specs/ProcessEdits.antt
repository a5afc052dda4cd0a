use Rattle.std.specs.Prelude.{◌≡◌, ◌<◌, ◌==◌, ℕ, true, false, List, Some, None, is_ok, length}
use Rattle.pr_num.specs.ById.{map_each}
use Rattle.pr_num.specs.Limits.{area_limit, lwp_limit}
use Rattle.pr_num.specs.Signals.{signal_of_number}
use Rattle.pr_num.specs.Spaces.{bytes_for}
use Rattle.pr_num.specs.declared.messages.Message.{Message}
use Rattle.pr_num.specs.declared.messages.Message.TheVariants.{Unkill, Strace, Sfault, Sentry, Sexit, Set, Unset, Watch, Agent, Write}
use Rattle.pr_num.specs.declared.signals.Sig.{Sig}
use Rattle.pr_parts.specs.AddressSpaces.{with_bytes}
use Rattle.pr_parts.specs.PendingSignals.{without_one}
use Rattle.pr_parts.specs.WatchedAreas.{is_taken, with_area, without_area}
use Rattle.pr_model.specs.Changes.{with_space}
use Rattle.pr_model.specs.Messages.{tracing_signals, tracing_faults, tracing_entries, tracing_exits, with_modes, without_modes, with_areas, with_agent}
use Rattle.pr_model.specs.State.{TracedControl, TracedLwp, TracedProcess, has_agent, with_lwp}
use Rattle.pr_keeps.specs.LwpEdits.{LwpEdits}

-- What a control message makes of a process in its place: a closed list of edits.

-- ---- what is set on it

pub data ControlEdit : Message → TracedControl → TracedControl → Type 0 where
  signals : {set : ℕ} {c : TracedControl} → ControlEdit (Strace set) c (tracing_signals set c)
  faults : {set : ℕ} {c : TracedControl} → ControlEdit (Sfault set) c (tracing_faults set c)
  entries : {set : ℕ} {c : TracedControl} → ControlEdit (Sentry set) c (tracing_entries set c)
  exits : {set : ℕ} {c : TracedControl} → ControlEdit (Sexit set) c (tracing_exits set c)
  modes : {set : ℕ} {c : TracedControl} → ControlEdit (Set set) c (with_modes set c)
  fewer_modes : {set : ℕ} {c : TracedControl} → ControlEdit (Unset set) c (without_modes set c)
  unwatches : {at size flags : ℕ} {c : TracedControl}
      → ControlEdit (Watch at size flags) c (with_areas (without_area at c.areas) c)
  watches : {at size flags : ℕ} {c : TracedControl} → (flags == 0) ≡ false → is_taken at size c.areas ≡ false
      → length c.areas < area_limit
      → ControlEdit (Watch at size flags) c
      (with_areas (with_area (record { at = at; size = size; flags = flags }) c.areas) c)

-- ---- the process

-- one edit of a process, by a message with these bytes after its operands
pub data ProcessEdit : Message → List ℕ → TracedProcess → TracedProcess → Type 0 where
  -- the lwp of an id is edited; each lwp is
  one_lwp : {m : Message} {tail : List ℕ} {x : TracedProcess} (id : ℕ) (f : TracedLwp → TracedLwp)
      → ((l : TracedLwp) → LwpEdits m l (f l)) → ProcessEdit m tail x (with_lwp id f x)
  each_lwp : {m : Message} {tail : List ℕ} {x : TracedProcess} (f : TracedLwp → TracedLwp)
      → ((l : TracedLwp) → LwpEdits m l (f l)) → ProcessEdit m tail x (record x { lwps = map_each f x.lwps })
  control_is : {m : Message} {tail : List ℕ} {x : TracedProcess} {c : TracedControl} → ControlEdit m x.control c
      → ProcessEdit m tail x (record x { control = c })
  takes_back : {number : ℕ} {tail : List ℕ} {g : Sig} {x : TracedProcess} → signal_of_number number ≡ Some g
      → ProcessEdit (Unkill number) tail x (record x { pending = without_one g x.pending })
  -- there is room for an agent, and none
  gets_agent : {regs tail : List ℕ} {x : TracedProcess} → has_agent x ≡ false → length x.lwps < lwp_limit
      → ProcessEdit (Agent regs) tail x (with_agent regs x)
  -- it has its memory to itself, and all of the range is mapped
  is_written : {at size : ℕ} {tail : List ℕ} {x : TracedProcess} → x.borrower ≡ None
      → is_ok (bytes_for 0 x.space at (length tail)) ≡ true
      → ProcessEdit (Write at size) tail x (with_space (with_bytes at tail x.space) x)

-- edits of a process, one after another
pub data ProcessEdits (m : Message) (tail : List ℕ) (x : TracedProcess) : TracedProcess → Type 0 where
  as_it_is : ProcessEdits m tail x x
  then_edit : {y z : TracedProcess} → ProcessEdits m tail x y → ProcessEdit m tail y z → ProcessEdits m tail x z
