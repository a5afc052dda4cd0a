use Rattle.std.proofs.Common.{◌≡◌, ◌≢◌, ◌⊎◌, ◌++◌, ◌+◌, ℕ, Bool, true, false, cond, List, [], Option, Some, None, IsSome, take, refl, sym, subst, ◌∙◌, inl, inr}
use Rattle.pr_core.specs.CoreBytes.{core_version, memory_kind, section}
use Rattle.pr_core.specs.GcoreStages.{control_place, file_of_part, kind_of_part, memory_place, open_after, part_after, place_of_part, stage_after, status_place}
use Rattle.pr_core.specs.Gcores.{GcoreState, accepted, advanced, answered, at_stage, call_of, fed, filled, first_gcore, lends, mapping_record, next_call_of, passes_over, piece_of, refusal_in, refused, walk_at, walk_on, with_bytes, with_mapping, with_next, with_noted, with_part, with_piece, with_run_next, with_status, with_walk}
use Rattle.pr_core.specs.declared.gcore_stages.GcorePart.{GcorePart}
use Rattle.pr_core.specs.declared.gcore_stages.GcorePart.TheVariants as part
use Rattle.pr_core.specs.declared.gcore_stages.GcoreStage.{GcoreStage}
use Rattle.pr_core.specs.declared.gcore_stages.GcoreStage.TheVariants as stage
use Rattle.pr_core.specs.declared.memory_walks.MemoryWalk.{MemoryWalk}
use Rattle.pr_model.specs.Replies.{opened_in, until_in}
use Rattle.pr_model.specs.declared.calls.Call.TheVariants as call
use Rattle.pr_model.specs.declared.calls.File.TheVariants as file
use Rattle.pr_model.specs.declared.calls.Reply.{Reply}
use Rattle.pr_model.specs.declared.calls.Reply.TheVariants as reply
use Rattle.pr_model.specs.declared.handles.Held.{Held}
use Rattle.pr_num.specs.Limits.{read_limit}
use Rattle.pr_num.specs.Records.{status_ranges}
use Rattle.pr_num.specs.Words.{word_bytes}
use Rattle.pr_num.specs.declared.errnos.Errno.{Errno}
use Rattle.pr_num.specs.declared.errnos.Errno.TheVariants.{Busy}
use Rattle.pr_rec.specs.Reading.{record_read}
use Rattle.pr_tools.specs.Calls.{stop_bytes}
use Rattle.pr_tools.specs.Handles.{handle_at, nothing_open, with_handle, without_last}
use Rattle.pr_tools.specs.Replies.{bytes_read}
use Rattle.pr_tools.specs.Stacks.{process_stands}
use Rattle.pr_tools.specs.declared.handles.Opened.{Opened}
use Rattle.pr_tool_laws.proofs.Pstack.StackReads.{control_of}
use Rattle.pr_core_laws.proofs.OpenFiles.HandleLemmas.{file_of}

-- The calls of gcore stage by stage, and what a reply makes of it.

-- what gcore noted so far
pub record Notes : Type 0 where
  pub until : ℕ
  pub stood : Bool
  pub maps : List ℕ
  pub walk : Option MemoryWalk
  pub bytes : List ℕ

-- the bytes with which a core begins
abbrev pub head_of : ℕ → List ℕ
head_of pid = word_bytes core_version ++ word_bytes pid

abbrev pub first_notes : ℕ → Notes
first_notes pid = record { until = 0; stood = false; maps = []; walk = None; bytes = head_of pid }

-- at a stage, with these files open
abbrev pub gcore_at : ℕ → Opened → GcoreStage → Notes → GcoreState
gcore_at pid opened next notes = record {
  pid = pid;
  opened = opened;
  stage = next;
  until = notes.until;
  stood = notes.stood;
  maps = notes.maps;
  walk = notes.walk;
  bytes = notes.bytes;
  refusal = None;
}

-- the stages of a process whose core was read: it is run, and its files are closed
abbrev pub IsEnding : GcoreStage → Type 0
IsEnding next = (next ≡ stage.Run) ⊎ (next ≡ stage.Close)

-- ---- refusals

-- a refusal is no acceptance; and what is no refusal is one
pub unless-refused : (g : GcoreState) (r : Reply) → passes_over g.stage ≡ false
    → IsSome (fed g r).refusal ⊎ (((e : Errno) → r ≢ reply.Fail e) × (fed g r ≡ accepted g r g.stage))
unfolding fed refusal_in refused
unless-refused g (reply.Fail e) counts = inl (rw counts refl)
unless-refused g _ counts = inr ((λ e same. cc), refl)

pub refused-now : (g : GcoreState) (e : Errno) → passes_over g.stage ≡ false → IsSome (fed g (reply.Fail e)).refusal
unfolding fed refusal_in refused
refused-now g e counts = rw counts refl

-- no reply makes a refusal undone
run_next-refusal : (g : GcoreState) → (with_run_next g).refusal ≡ g.refusal
unfolding with_run_next
run_next-refusal g = of g.stood
  where
    of : (b : Bool) → (cond b (at_stage g stage.Close) (at_stage g stage.Run)).refusal ≡ g.refusal
    of true = refl
    of false = refl

mapping-refusal : (g : GcoreState) (w : Option MemoryWalk) → (with_mapping g w).refusal ≡ g.refusal
unfolding with_mapping
mapping-refusal g None = run_next-refusal (record g { walk = None })
mapping-refusal g (Some w) = refl

next-refusal : (g : GcoreState) (next : GcoreStage) → (with_next g next).refusal ≡ g.refusal
unfolding with_next
next-refusal g stage.ReadMemory = mapping-refusal g (walk_at g.maps 0)
next-refusal g stage.Run = run_next-refusal g
next-refusal g _ = refl

advanced-refusal : (g : GcoreState) → (advanced g).refusal ≡ g.refusal
unfolding advanced
advanced-refusal g = next-refusal g (stage_after g.stage)

walk-refusal : (g : GcoreState) (at : ℕ) (w : Option MemoryWalk) → (with_walk g at w).refusal ≡ g.refusal
walk-refusal g at None = mapping-refusal g (walk_at g.maps (at + mapping_record))
walk-refusal g at (Some w) = refl

piece-refusal : (g : GcoreState) (answer : List ℕ) (w : Option MemoryWalk) → (with_piece g answer w).refusal ≡ g.refusal
unfolding with_piece
piece-refusal g answer None = run_next-refusal g
piece-refusal g answer (Some w) = walk-refusal (with_bytes g (filled (piece_of w) answer)) w.at (walk_on w)

-- of a status that shows that memory was lent, which is one more refusal
status-refusal : (g : GcoreState) (bytes : List ℕ) → IsSome g.refusal → IsSome (with_status g bytes).refusal
unfolding with_status refused
status-refusal g bytes was = of (lends (record_read status_ranges bytes))
  where
    of : (b : Bool) → IsSome (cond b (refused g Busy) (advanced g)).refusal
    of true = refl
    of false = subst IsSome (sym (advanced-refusal g)) was

noted-refusal : (g : GcoreState) (p : GcorePart) (bytes : List ℕ) → (with_noted g p bytes).refusal ≡ g.refusal
unfolding with_noted
noted-refusal g part.Map bytes = refl
noted-refusal g _ bytes = refl

part-refusal : (g : GcoreState) (p : GcorePart) (bytes : List ℕ) → (with_part g p bytes).refusal ≡ g.refusal
unfolding with_part
part-refusal g p bytes = advanced-refusal _ ∙ noted-refusal g p bytes

accepted-refusal : (g : GcoreState) (r : Reply) (next : GcoreStage) → IsSome g.refusal
    → IsSome (accepted g r next).refusal
unfolding accepted
accepted-refusal g r stage.ReadStatus was = status-refusal g (bytes_read r) was
accepted-refusal g r (stage.ReadPart p) was =
    subst IsSome (sym (part-refusal g p (take read_limit (bytes_read r)))) was
accepted-refusal g r stage.ReadMemory was = subst IsSome (sym (piece-refusal g (bytes_read r) g.walk)) was
accepted-refusal g r stage.Close was = was
accepted-refusal g r _ was = subst IsSome (sym (advanced-refusal _)) was

-- but for a status that shows that memory was lent none is made
pub accepted-same : (g : GcoreState) (r : Reply) (next : GcoreStage) → next ≢ stage.ReadStatus
    → (accepted g r next).refusal ≡ g.refusal
unfolding accepted
accepted-same g r stage.ReadStatus other = absurd (other refl)
accepted-same g r (stage.ReadPart p) other = part-refusal g p (take read_limit (bytes_read r))
accepted-same g r stage.ReadMemory other = piece-refusal g (bytes_read r) g.walk
accepted-same g r stage.Close other = refl
accepted-same g r _ other = advanced-refusal _

pub refused-still : (g : GcoreState) (r : Reply) → IsSome g.refusal → IsSome (fed g r).refusal
unfolding fed refused
refused-still g r was = of (refusal_in g.stage r)
  where
    of : (o : Option Errno) → IsSome (answered g r o).refusal
    of None = accepted-refusal g r g.stage was
    of (Some e) = refl

-- ---- its opens

-- A stage at which gcore opens the file of a place, and the next stage.
pub record IsOpening (k pid place : ℕ) (held : Held) (now next : GcoreStage) : Type 0 where
  pub calls : (o : Opened) (notes : Notes)
      → next_call_of (gcore_at pid o now notes) ≡ Some (call.Open pid 0 held.file held.mode)
  pub takes : (o : Opened) (notes : Notes) (number : ℕ)
      → fed (gcore_at pid o now notes) (reply.Handle number)
      ≡ gcore_at pid (with_handle o place (Some number)) next notes
  pub counts : passes_over now ≡ false
  pub is : held ≡ record { controller = k; pid = pid; lwp = 0; file = held.file; mode = held.mode }

module _ (k pid : ℕ) where
  pub begins : first_gcore pid ≡ gcore_at pid nothing_open stage.OpenCtl (first_notes pid)
  unfolding first_gcore
  begins = refl

  pub opens-control : IsOpening k pid control_place (control_of k pid) stage.OpenCtl stage.OpenStatus
  unfolding next_call_of call_of fed refusal_in accepted advanced with_next stage_after opened_in passes_over
  opens-control = record { calls = λ o notes. refl; takes = λ o notes number. refl; counts = refl; is = refl }

  pub opens-status : IsOpening k pid status_place (file_of k pid file.Status) stage.OpenStatus
      (stage.OpenPart part.Psinfo)
  unfolding next_call_of call_of fed refusal_in accepted advanced with_next stage_after opened_in passes_over
  opens-status = record { calls = λ o notes. refl; takes = λ o notes number. refl; counts = refl; is = refl }

  abbrev Opens-part : GcorePart → Type 0
  Opens-part p =
      IsOpening k pid (place_of_part p) (file_of k pid (file_of_part p)) (stage.OpenPart p) (open_after (part_after p))

  pub opens-part : (p : GcorePart) → Opens-part p
  unfolding next_call_of call_of fed refusal_in accepted advanced with_next stage_after opened_in passes_over
      part_after place_of_part kind_of_part file_of_part
  opens-part part.Psinfo =
      record { calls = λ o notes. refl; takes = λ o notes number. refl; counts = refl; is = refl }
  opens-part part.Lstatus =
      record { calls = λ o notes. refl; takes = λ o notes number. refl; counts = refl; is = refl }
  opens-part part.Sigact =
      record { calls = λ o notes. refl; takes = λ o notes number. refl; counts = refl; is = refl }
  opens-part part.Map =
      record { calls = λ o notes. refl; takes = λ o notes number. refl; counts = refl; is = refl }
  opens-part part.Fds =
      record { calls = λ o notes. refl; takes = λ o notes number. refl; counts = refl; is = refl }

  pub opens-memory : IsOpening k pid memory_place (file_of k pid file.Mem) stage.OpenMemory stage.ReadFirst
  unfolding next_call_of call_of fed refusal_in accepted advanced with_next stage_after opened_in passes_over
  opens-memory = record { calls = λ o notes. refl; takes = λ o notes number. refl; counts = refl; is = refl }

-- ---- its other calls, with the number of the file's handle

module _ (pid : ℕ) (o : Opened) (notes : Notes) (number : ℕ) where
  abbrev at : GcoreStage → GcoreState
  at next = gcore_at pid o next notes

  pub look-call : handle_at o (place_of_part part.Lstatus) ≡ Some number
      → next_call_of (at stage.ReadFirst) ≡ Some (call.Read number 0 read_limit)
  unfolding next_call_of call_of
  look-call there = rw there refl

  pub stop-call : handle_at o control_place ≡ Some number
      → next_call_of (at stage.Stop) ≡ Some (call.Ctl number stop_bytes)
  unfolding next_call_of call_of
  stop-call there = rw there refl

  pub wait-call : handle_at o control_place ≡ Some number
      → next_call_of (at stage.AwaitStop) ≡ Some (call.CtlWait number notes.until stop_bytes)
  unfolding next_call_of call_of
  wait-call there = rw there refl

  pub status-call : handle_at o status_place ≡ Some number
      → next_call_of (at stage.ReadStatus) ≡ Some (call.Read number 0 read_limit)
  unfolding next_call_of call_of
  status-call there = rw there refl

  pub part-call : (p : GcorePart) → handle_at o (place_of_part p) ≡ Some number
      → next_call_of (at (stage.ReadPart p)) ≡ Some (call.Read number 0 read_limit)
  unfolding next_call_of call_of
  part-call p there = rw there refl

  pub memory-reads : (w : MemoryWalk) → notes.walk ≡ Some w → handle_at o memory_place ≡ Some number
      → next_call_of (at stage.ReadMemory) ≡ Some (call.Read number w.address (piece_of w))
  unfolding next_call_of call_of
  memory-reads w is there = rw (is, there) refl

-- ---- what replies make of it

module _ (pid : ℕ) (o : Opened) (notes : Notes) (r : Reply) where
  pub looked : accepted (gcore_at pid o stage.ReadFirst notes) r stage.ReadFirst
      ≡ gcore_at pid o stage.Stop (record notes { stood = process_stands (bytes_read r) })
  unfolding accepted advanced with_next stage_after
  looked = refl

  pub asked : accepted (gcore_at pid o stage.Stop notes) r stage.Stop
      ≡ gcore_at pid o stage.AwaitStop (record notes { until = until_in r })
  unfolding accepted advanced with_next stage_after
  asked = refl

  pub waited : accepted (gcore_at pid o stage.AwaitStop notes) r stage.AwaitStop
      ≡ gcore_at pid o stage.ReadStatus notes
  unfolding accepted advanced with_next stage_after
  waited = refl

  pub has-run : accepted (gcore_at pid o stage.Run notes) r stage.Run ≡ gcore_at pid o stage.Close notes
  unfolding accepted advanced with_next stage_after
  has-run = refl

  -- a status that shows that memory was lent refuses; another one does not
  pub looked-status : IsSome (accepted (gcore_at pid o stage.ReadStatus notes) r stage.ReadStatus).refusal
      ⊎ ((lends (record_read status_ranges (bytes_read r)) ≡ false)
      × (accepted (gcore_at pid o stage.ReadStatus notes) r stage.ReadStatus
      ≡ gcore_at pid o (stage.ReadPart part.Psinfo) notes))
  unfolding accepted with_status refused advanced with_next stage_after
  looked-status = of (lends (record_read status_ranges (bytes_read r)))
    where
      now : GcoreState
      now = gcore_at pid o stage.ReadStatus notes

      of : (b : Bool) → IsSome (cond b (refused now Busy) (advanced now)).refusal
          ⊎ ((b ≡ false) × (cond b (refused now Busy) (advanced now)
          ≡ gcore_at pid o (stage.ReadPart part.Psinfo) notes))
      of true = inl refl
      of false = inr (refl, refl)

pub closing-fed : (g : GcoreState) (r : Reply) → g.stage ≡ stage.Close
    → fed g r ≡ record g { opened = without_last g.opened }
unfolding fed refusal_in accepted passes_over
closing-fed g (reply.Fail e) closing = rw closing refl
closing-fed g _ closing = rw closing refl

pub closes : (pid : ℕ) (o : Opened) (notes : Notes) (r : Reply)
    → fed (gcore_at pid o stage.Close notes) r ≡ gcore_at pid (without_last o) stage.Close notes
closes pid o notes r = closing-fed (gcore_at pid o stage.Close notes) r refl

-- a part was read
abbrev pub with_section : Notes → GcorePart → List ℕ → Notes
with_section notes p bytes = record notes { bytes = notes.bytes ++ section (kind_of_part p) bytes }

module _ (pid : ℕ) (o : Opened) (notes : Notes) (bytes : List ℕ) where
  abbrev part_taken : GcorePart → GcoreState
  part_taken p = with_part (gcore_at pid o (stage.ReadPart p) notes) p bytes

  pub psinfo-taken : part_taken part.Psinfo
      ≡ gcore_at pid o (stage.ReadPart part.Lstatus) (with_section notes part.Psinfo bytes)
  unfolding with_part with_noted advanced with_next stage_after part_after
  psinfo-taken = refl

  pub lstatus-taken : part_taken part.Lstatus
      ≡ gcore_at pid o (stage.ReadPart part.Sigact) (with_section notes part.Lstatus bytes)
  unfolding with_part with_noted advanced with_next stage_after part_after
  lstatus-taken = refl

  pub sigact-taken : part_taken part.Sigact
      ≡ gcore_at pid o (stage.ReadPart part.Map) (with_section notes part.Sigact bytes)
  unfolding with_part with_noted advanced with_next stage_after part_after
  sigact-taken = refl

  pub map-taken : part_taken part.Map
      ≡ gcore_at pid o (stage.ReadPart part.Fds) (record (with_section notes part.Map bytes) { maps = bytes })
  unfolding with_part with_noted advanced with_next stage_after part_after
  map-taken = refl

  pub fds-taken : part_taken part.Fds
      ≡ with_mapping (gcore_at pid o (stage.ReadPart part.Fds) (with_section notes part.Fds bytes))
      (walk_at notes.maps 0)
  unfolding with_part with_noted advanced with_next stage_after part_after
  fds-taken = refl

-- ---- the memory

-- it has read all
pub record Ends (pid : ℕ) (o : Opened) (notes : Notes) (g : GcoreState) : Type 0 where
  pub next : GcoreStage
  pub ends : IsEnding next
  pub is : g ≡ gcore_at pid o next (record notes { walk = None })

pub no-mapping : (pid : ℕ) (o : Opened) (now : GcoreStage) (notes : Notes)
    → Ends pid o notes (with_mapping (gcore_at pid o now notes) None)
unfolding with_mapping with_run_next
no-mapping pid o now notes = of notes.stood
  where
    done : GcoreState
    done = gcore_at pid o now (record notes { walk = None })

    of : (b : Bool) → Ends pid o notes (cond b (at_stage done stage.Close) (at_stage done stage.Run))
    of true = record { next = stage.Close; ends = inr refl; is = refl }
    of false = record { next = stage.Run; ends = inl refl; is = refl }

-- the heading of a mapping's section
abbrev pub heading_of : MemoryWalk → List ℕ
heading_of w = word_bytes memory_kind ++ word_bytes w.left

pub a-mapping : (pid : ℕ) (o : Opened) (now : GcoreStage) (notes : Notes) (w : MemoryWalk)
    → with_mapping (gcore_at pid o now notes) (Some w)
    ≡ gcore_at pid o stage.ReadMemory (record notes { walk = Some w; bytes = notes.bytes ++ heading_of w })
unfolding with_mapping
a-mapping pid o now notes w = refl

pub a-piece : (pid : ℕ) (o : Opened) (notes : Notes) (w : MemoryWalk) → notes.walk ≡ Some w → (r : Reply)
    → accepted (gcore_at pid o stage.ReadMemory notes) r stage.ReadMemory
    ≡ with_walk (gcore_at pid o stage.ReadMemory
    (record notes { bytes = notes.bytes ++ filled (piece_of w) (bytes_read r) })) w.at (walk_on w)
unfolding accepted with_piece
a-piece pid o notes w is r = rw is refl
