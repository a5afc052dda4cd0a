use Rattle.std.proofs.Common.{◌≡◌, ℕ, Bool, true, false, cond, List, Option, Some, None, is_some, option_map, refl, sym, ap, ◌∙◌}
use Rattle.std.proofs.lemmas.Bool.{false≢true}
use Rattle.std.proofs.lemmas.Option.{none-some, same_Some}
use Rattle.pr_core.specs.GcoreStages.{part_after, stage_after, way_out}
use Rattle.pr_core.specs.Gcores.{GcoreState, accepted, advanced, answered, at_stage, call_of, fed, filled, lends, next_call_of, passes_over, piece_of, refusal_in, refused, walk_on, with_bytes, with_mapping, with_next, with_noted, with_part, with_piece, with_run_next, with_status, with_walk}
use Rattle.pr_core.specs.declared.gcore_stages.GcorePart.TheVariants as part
use Rattle.pr_core.specs.declared.gcore_stages.GcoreStage.{GcoreStage}
use Rattle.pr_core.specs.declared.gcore_stages.GcoreStage.TheVariants as stage
use Rattle.pr_core.specs.declared.memory_walks.MemoryWalk.{MemoryWalk}
use Rattle.pr_model.specs.declared.calls.Call.{Call}
use Rattle.pr_model.specs.declared.calls.Call.TheVariants as call
use Rattle.pr_model.specs.declared.calls.Reply.{Reply}
use Rattle.pr_model.specs.declared.calls.Reply.TheVariants as reply
use Rattle.pr_num.specs.Records.{status_ranges}
use Rattle.pr_num.specs.declared.errnos.Errno.{Errno}
use Rattle.pr_num.specs.declared.errnos.Errno.TheVariants.{Busy}
use Rattle.pr_rec.specs.Reading.{record_read}
use Rattle.pr_tools.specs.Calls.{run_bytes, stop_bytes}
use Rattle.pr_tools.specs.Handles.{last_open}
use Rattle.pr_tools.specs.Replies.{bytes_read}
use Rattle.pr_tool_laws.proofs.RunningAgain.NoRunLemmas.{is_message}
use Rattle.pr_tool_laws.proofs.RunningAgain.RequestLemmas.{other-asks, run-asks, stop-asks}
use Rattle.pr_tool_laws.specs.Requests.{asks_after}
use Rattle.pr_core_laws.proofs.OpenFiles.GcoreHolds.{refused-reply}

-- A gcore that was refused has taken back its request to stop.

-- what is so at a stage: before the request there is none; a gcore that was refused takes it back, and then closes
unfoldable pub AtStage : Bool → Bool → GcoreStage → Type 0
AtStage refused asks stage.OpenCtl = (refused ≡ false) × (asks ≡ false)
AtStage refused asks stage.OpenStatus = (refused ≡ false) × (asks ≡ false)
AtStage refused asks (stage.OpenPart which) = (refused ≡ false) × (asks ≡ false)
AtStage refused asks stage.OpenMemory = (refused ≡ false) × (asks ≡ false)
AtStage refused asks stage.ReadFirst = (refused ≡ false) × (asks ≡ false)
AtStage refused asks stage.Stop = (refused ≡ false) × (asks ≡ false)
AtStage refused asks stage.Release = Unit {0}
AtStage refused asks stage.Close = refused ≡ true → asks ≡ false
AtStage refused asks _ = refused ≡ false

-- who was refused is on its way out
pub over-refused : (asks : Bool) (p : GcoreStage) → AtStage true asks p → passes_over p ≡ true
unfolding AtStage passes_over
over-refused asks stage.Release so = refl
over-refused asks stage.Close so = refl
over-refused asks stage.OpenCtl so = absurd (false≢true (sym so.0))
over-refused asks stage.OpenStatus so = absurd (false≢true (sym so.0))
over-refused asks (stage.OpenPart which) so = absurd (false≢true (sym so.0))
over-refused asks stage.OpenMemory so = absurd (false≢true (sym so.0))
over-refused asks stage.ReadFirst so = absurd (false≢true (sym so.0))
over-refused asks stage.Stop so = absurd (false≢true (sym so.0))
over-refused asks stage.AwaitStop so = absurd (false≢true (sym so))
over-refused asks stage.ReadStatus so = absurd (false≢true (sym so))
over-refused asks (stage.ReadPart which) so = absurd (false≢true (sym so))
over-refused asks stage.ReadMemory so = absurd (false≢true (sym so))
over-refused asks stage.Run so = absurd (false≢true (sym so))

abbrev pub AtNow : Bool → GcoreState → Type 0
AtNow asks g = AtStage (is_some g.refusal) asks g.stage

run-next : (asks : Bool) (u : GcoreState) → is_some u.refusal ≡ false → AtNow asks (with_run_next u)
unfolding AtStage with_run_next
run-next asks u none = by u.stood
  where
    by : (b : Bool) → AtNow asks (cond b (at_stage u stage.Close) (at_stage u stage.Run))
    by true = λ some. absurd (false≢true (sym none ∙ some))
    by false = none

mapping-next : (asks : Bool) (u : GcoreState) (w : Option MemoryWalk) → is_some u.refusal ≡ false
    → AtNow asks (with_mapping u w)
unfolding AtStage with_mapping
mapping-next asks u None none = run-next asks (record u { walk = None }) none
mapping-next asks u (Some w) none = none

piece-next : (asks : Bool) (g : GcoreState) (answer : List ℕ) (w : Option MemoryWalk) → is_some g.refusal ≡ false
    → AtNow asks (with_piece (at_stage g stage.ReadMemory) answer w)
unfolding AtStage with_piece
piece-next asks g answer None none = run-next asks (at_stage g stage.ReadMemory) none
piece-next asks g answer (Some w) none = by (walk_on w)
  where
    u : GcoreState
    u = with_bytes (at_stage g stage.ReadMemory) (filled (piece_of w) answer)

    by : (x : Option MemoryWalk) → AtNow asks (with_walk u w.at x)
    by None = mapping-next asks u _ none
    by (Some x) = none

status-next : (asks : Bool) (g : GcoreState) (bytes : List ℕ) → is_some g.refusal ≡ false
    → AtNow asks (with_status (at_stage g stage.ReadStatus) bytes)
unfolding AtStage with_status refused advanced with_next stage_after way_out
status-next asks g bytes none = by (lends (record_read status_ranges bytes))
  where
    u : GcoreState
    u = at_stage g stage.ReadStatus

    by : (b : Bool) → AtNow asks (cond b (refused u Busy) (advanced u))
    by true = tt
    by false = none

module _ (g : GcoreState) (c : Call) (r : Reply) (asks : Bool) where
  abbrev later : Bool
  later = asks_after asks c r

  -- a call that is no message
  other : (d : Call) → Some d ≡ Some c → is_message d ≡ false → later ≡ asks
  other d same plain = other-asks asks c r (ap is_message (sym (same_Some d c same)) ∙ plain)

  close-other : (o : Option ℕ) → option_map call.Close o ≡ Some c → later ≡ asks
  close-other None same = absurd (none-some c same)
  close-other (Some number) same = other (call.Close number) same refl

  -- PCRUN
  run-later : (handle : ℕ) → Some (call.Ctl handle run_bytes) ≡ Some c → later ≡ false
  run-later handle same =
      ap (λ (d : Call). asks_after asks d r) (sym (same_Some (call.Ctl handle run_bytes) c same))
      ∙ run-asks asks handle r

  -- PCSTOP that is refused
  stop-later : (handle : ℕ) (e : Errno) → r ≡ reply.Fail e → Some (call.Ctl handle stop_bytes) ≡ Some c → later ≡ asks
  stop-later handle e is same =
      ap (λ (d : Call). asks_after asks d r) (sym (same_Some (call.Ctl handle stop_bytes) c same))
      ∙ ap (asks_after asks (call.Ctl handle stop_bytes)) is ∙ stop-asks asks handle e

  accepted-at : (p : GcoreStage) → AtStage (is_some g.refusal) asks p → call_of (at_stage g p) p ≡ Some c
      → AtNow later (accepted (at_stage g p) r p)
  unfolding AtStage call_of accepted advanced with_next with_part with_noted stage_after part_after
  accepted-at stage.OpenCtl so same = (so.0, other _ same refl ∙ so.1)
  accepted-at stage.OpenStatus so same = (so.0, other _ same refl ∙ so.1)
  accepted-at (stage.OpenPart part.Psinfo) so same = (so.0, other _ same refl ∙ so.1)
  accepted-at (stage.OpenPart part.Lstatus) so same = (so.0, other _ same refl ∙ so.1)
  accepted-at (stage.OpenPart part.Sigact) so same = (so.0, other _ same refl ∙ so.1)
  accepted-at (stage.OpenPart part.Map) so same = (so.0, other _ same refl ∙ so.1)
  accepted-at (stage.OpenPart part.Fds) so same = (so.0, other _ same refl ∙ so.1)
  accepted-at stage.OpenMemory so same = (so.0, other _ same refl ∙ so.1)
  accepted-at stage.ReadFirst so same = (so.0, other _ same refl ∙ so.1)
  accepted-at stage.Stop so same = so.0
  accepted-at stage.AwaitStop so same = so
  accepted-at stage.ReadStatus so same = status-next later g (bytes_read r) so
  accepted-at (stage.ReadPart part.Psinfo) so same = so
  accepted-at (stage.ReadPart part.Lstatus) so same = so
  accepted-at (stage.ReadPart part.Sigact) so same = so
  accepted-at (stage.ReadPart part.Map) so same = so
  accepted-at (stage.ReadPart part.Fds) so same = mapping-next later _ _ so
  accepted-at stage.ReadMemory so same = piece-next later g (bytes_read r) g.walk so
  accepted-at stage.Run so same = λ some. run-later _ same
  accepted-at stage.Release so same = λ some. run-later _ same
  accepted-at stage.Close so same = λ some. close-other (last_open g.opened) same ∙ so some

  refused-at : (p : GcoreStage) → AtStage (is_some g.refusal) asks p → call_of (at_stage g p) p ≡ Some c → (e : Errno)
      → passes_over p ≡ false → r ≡ reply.Fail e → AtStage true later (way_out p)
  unfolding AtStage call_of way_out passes_over
  refused-at stage.OpenCtl so same e counts is = λ some. other _ same refl ∙ so.1
  refused-at stage.OpenStatus so same e counts is = λ some. other _ same refl ∙ so.1
  refused-at (stage.OpenPart which) so same e counts is = λ some. other _ same refl ∙ so.1
  refused-at stage.OpenMemory so same e counts is = λ some. other _ same refl ∙ so.1
  refused-at stage.ReadFirst so same e counts is = λ some. other _ same refl ∙ so.1
  refused-at stage.Stop so same e counts is = λ some. stop-later _ e is same ∙ so.1
  refused-at stage.AwaitStop so same e counts is = tt
  refused-at stage.ReadStatus so same e counts is = tt
  refused-at (stage.ReadPart which) so same e counts is = tt
  refused-at stage.ReadMemory so same e counts is = tt
  refused-at stage.Run so same e counts is = tt
  refused-at stage.Release so same e counts is = absurd (false≢true (sym counts))
  refused-at stage.Close so same e counts is = absurd (false≢true (sym counts))

  pub fed-at : next_call_of g ≡ Some c → AtNow asks g → AtNow later (fed g r)
  unfolding fed refused next_call_of
  fed-at next so = by (refusal_in g.stage r) refl
    where
      by : (o : Option Errno) → refusal_in g.stage r ≡ o → AtNow later (answered g r o)
      by None is = accepted-at g.stage so next
      by (Some e) is =
          let it = refused-reply g.stage r e is in refused-at g.stage so next e it.0 it.1
