use Rattle.std.proofs.Common.{◌≡◌, ◌+◌, ℕ, Bool, true, false, cond, List, Option, Some, None, take, refl, sym, ◌∙◌}
use Rattle.std.proofs.lemmas.Bool.{false≢true}
use Rattle.pr_core.specs.GcoreStages.{stage_after}
use Rattle.pr_core.specs.Gcores.{GcoreState, accepted, advanced, answered, at_stage, fed, filled, lends, mapping_record, piece_of, refusal_in, refused, walk_at, walk_on, with_bytes, with_mapping, with_next, with_noted, with_part, with_piece, with_run_next, with_status, with_walk}
use Rattle.pr_core.specs.declared.gcore_stages.GcorePart.{GcorePart}
use Rattle.pr_core.specs.declared.gcore_stages.GcorePart.TheVariants as part
use Rattle.pr_core.specs.declared.gcore_stages.GcoreStage.{GcoreStage}
use Rattle.pr_core.specs.declared.gcore_stages.GcoreStage.TheVariants as stage
use Rattle.pr_core.specs.declared.memory_walks.MemoryWalk.{MemoryWalk}
use Rattle.pr_model.specs.declared.calls.Reply.{Reply}
use Rattle.pr_num.specs.Limits.{read_limit}
use Rattle.pr_num.specs.Records.{status_ranges}
use Rattle.pr_num.specs.declared.errnos.Errno.{Errno}
use Rattle.pr_num.specs.declared.errnos.Errno.TheVariants.{Busy}
use Rattle.pr_rec.specs.Reading.{record_read}
use Rattle.pr_tools.specs.Replies.{bytes_read}
use Rattle.pr_tools.specs.declared.handles.Opened.{Opened}

-- gcore is one of one process, and only its opens and closes change what it has open.

-- whether a stage opens or closes
abbrev pub moves_files : GcoreStage → Bool
moves_files stage.OpenCtl = true
moves_files stage.OpenStatus = true
moves_files (stage.OpenPart which) = true
moves_files stage.OpenMemory = true
moves_files stage.Close = true
moves_files _ = false

-- something that is made of the process and of what is open
module _ {T : Type 0} (f : ℕ → Opened → T) where
  abbrev Of : GcoreState → T
  Of g = f g.pid g.opened

  run_next-kept : (g : GcoreState) → Of (with_run_next g) ≡ Of g
  unfolding with_run_next
  run_next-kept g = of g.stood
    where
      of : (b : Bool) → Of (cond b (at_stage g stage.Close) (at_stage g stage.Run)) ≡ Of g
      of true = refl
      of false = refl

  mapping-kept : (g : GcoreState) (w : Option MemoryWalk) → Of (with_mapping g w) ≡ Of g
  unfolding with_mapping
  mapping-kept g None = run_next-kept (record g { walk = None })
  mapping-kept g (Some w) = refl

  next-kept : (g : GcoreState) (next : GcoreStage) → Of (with_next g next) ≡ Of g
  unfolding with_next
  next-kept g stage.ReadMemory = mapping-kept g (walk_at g.maps 0)
  next-kept g stage.Run = run_next-kept g
  next-kept g _ = refl

  pub advanced-kept : (g : GcoreState) → Of (advanced g) ≡ Of g
  unfolding advanced
  advanced-kept g = next-kept g (stage_after g.stage)

  walk-kept : (g : GcoreState) (at : ℕ) (w : Option MemoryWalk) → Of (with_walk g at w) ≡ Of g
  walk-kept g at None = mapping-kept g (walk_at g.maps (at + mapping_record))
  walk-kept g at (Some w) = refl

  piece-kept : (g : GcoreState) (answer : List ℕ) (w : Option MemoryWalk) → Of (with_piece g answer w) ≡ Of g
  unfolding with_piece
  piece-kept g answer None = run_next-kept g
  piece-kept g answer (Some w) = walk-kept (with_bytes g (filled (piece_of w) answer)) w.at (walk_on w)

  status-kept : (g : GcoreState) (bytes : List ℕ) → Of (with_status g bytes) ≡ Of g
  unfolding with_status refused
  status-kept g bytes = of (lends (record_read status_ranges bytes))
    where
      of : (b : Bool) → Of (cond b (refused g Busy) (advanced g)) ≡ Of g
      of true = refl
      of false = advanced-kept g

  noted-kept : (g : GcoreState) (p : GcorePart) (bytes : List ℕ) → Of (with_noted g p bytes) ≡ Of g
  unfolding with_noted
  noted-kept g part.Map bytes = refl
  noted-kept g _ bytes = refl

  part-kept : (g : GcoreState) (p : GcorePart) (bytes : List ℕ) → Of (with_part g p bytes) ≡ Of g
  unfolding with_part
  part-kept g p bytes = advanced-kept _ ∙ noted-kept g p bytes

  -- a reply at a stage that opens and closes nothing
  pub accepted-kept : (g : GcoreState) (r : Reply) (next : GcoreStage) → moves_files next ≡ false
      → Of (accepted g r next) ≡ Of g
  unfolding accepted
  accepted-kept g r stage.ReadFirst plain = advanced-kept _
  accepted-kept g r stage.Stop plain = advanced-kept _
  accepted-kept g r stage.AwaitStop plain = advanced-kept g
  accepted-kept g r stage.ReadStatus plain = status-kept g (bytes_read r)
  accepted-kept g r (stage.ReadPart p) plain = part-kept g p (take read_limit (bytes_read r))
  accepted-kept g r stage.ReadMemory plain = piece-kept g (bytes_read r) g.walk
  accepted-kept g r stage.Run plain = advanced-kept g
  accepted-kept g r stage.Release plain = advanced-kept g
  accepted-kept g r _ plain = absurd (false≢true (sym plain))

-- ---- its process

abbrev of_pid : ℕ → Opened → ℕ
of_pid pid o = pid

accepted-pid : (g : GcoreState) (r : Reply) (next : GcoreStage) → (accepted g r next).pid ≡ g.pid
unfolding accepted
accepted-pid g r stage.OpenCtl = advanced-kept of_pid _
accepted-pid g r stage.OpenStatus = advanced-kept of_pid _
accepted-pid g r (stage.OpenPart which) = advanced-kept of_pid _
accepted-pid g r stage.OpenMemory = advanced-kept of_pid _
accepted-pid g r stage.Close = refl
accepted-pid g r stage.ReadFirst = accepted-kept of_pid g r stage.ReadFirst refl
accepted-pid g r stage.Stop = accepted-kept of_pid g r stage.Stop refl
accepted-pid g r stage.AwaitStop = accepted-kept of_pid g r stage.AwaitStop refl
accepted-pid g r stage.ReadStatus = accepted-kept of_pid g r stage.ReadStatus refl
accepted-pid g r (stage.ReadPart p) = accepted-kept of_pid g r (stage.ReadPart p) refl
accepted-pid g r stage.ReadMemory = accepted-kept of_pid g r stage.ReadMemory refl
accepted-pid g r stage.Run = accepted-kept of_pid g r stage.Run refl
accepted-pid g r stage.Release = accepted-kept of_pid g r stage.Release refl

pub fed-pid : (g : GcoreState) (r : Reply) → (fed g r).pid ≡ g.pid
unfolding fed refused
fed-pid g r = of (refusal_in g.stage r)
  where
    of : (o : Option Errno) → (answered g r o).pid ≡ g.pid
    of None = accepted-pid g r g.stage
    of (Some e) = refl
