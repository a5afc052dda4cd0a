use Rattle.std.proofs.Common.{◌≡◌, ℕ, true, Some, None, List, [], ◌∷◌, refl, ap, ◌∙◌, inl, inr}
use Rattle.std.proofs.lemmas.Bool.{cases_Bool}
use Rattle.pr_num.specs.ById.{change_under}
use Rattle.pr_num.proofs.ByIdLaws.{change_under-alike}
use Rattle.pr_num.specs.Spaces.{Space}
use Rattle.pr_num.specs.declared.faults.Flt.TheVariants.{Trace}
use Rattle.pr_num.specs.declared.signals.Sig.{Sig}
use Rattle.pr_model.specs.Changes.{Change, space_is, takes_shared, job_stops, with_space, with_shared_taken, with_job_stop}
use Rattle.pr_model.specs.InstructionEffects.{InstructionEffect, instruction_effect, runs, calls, faults, runs_into_watch}
use Rattle.pr_model.specs.Machines.{traced}
use Rattle.pr_model.specs.Moves.{Move, moved, traps, enters, incurs, returns}
use Rattle.pr_model.specs.Moves as move
use Rattle.pr_model.specs.Registers.{pc_of}
use Rattle.pr_model.specs.Signals.{current_of}
use Rattle.pr_model.specs.Rows.{own_taken_row, shared_taken_row, requested_row, posted_row, returned_row, executed_row, ran_row, entered_row, incurred_row, watched_row}
use Rattle.pr_model.specs.State.{TracedLwp, TracedProcess, lwp_of, with_lwp}
use Rattle.pr_model.specs.Transitions.{Transition, own_taken, shared_taken, dropped, job_stopped, requested, posted, returned, ran, entered, incurred, trapped, stored_in}
use Rattle.pr_lwp.specs.Plain.{space_after}
use Rattle.pr_lwp.specs.Steps.{stepped}
use Rattle.pr_lwp.specs.Steps as steps
use Rattle.pr_turn.specs.Making.{at_point, quiet, effect_of, executed_by, in_process, made_by, made_of, moved_by, of_row, process_after}
use Rattle.pr_turn.specs.NextRows.{caught_move, executed_move, is_own_row, move_of, row_of}
use Rattle.pr_model.specs.declared.events.Did.TheVariants.{Took, Acted}
use Rattle.pr_model.specs.declared.events.How.TheVariants as how
use Rattle.pr_model.specs.declared.stops.Point.TheVariants.{Signal}
use Rattle.pr_turn.specs.declared.making.Made.{Made}
use Rattle.pr_turn.specs.declared.next.Next.{Next}
use Rattle.pr_turn.specs.declared.next.Next.TheVariants.{Requested, Posted, Gave, Ends, Returned, Executed, TookOwn, TookShared, Dropped, JobStopped, Caught}

-- What a row makes of its process.

-- an lwp of a process changed in two ways that come to the same for it
alike : (p : TracedProcess) (id : ℕ) (l : TracedLwp) (f g : TracedLwp → TracedLwp) → lwp_of p id ≡ Some l → f l ≡ g l
    → with_lwp id f p ≡ with_lwp id g p
unfolding with_lwp
alike p id l f g there same = ap (λ ls. record p { lwps = ls }) (change_under-alike id f g l p.lwps there same)

module _ (p : TracedProcess) (id : ℕ) (l : TracedLwp) where
  -- a row that moves its lwp alone
  pub own-after : (next : Next) → is_own_row next ≡ true → lwp_of p id ≡ Some l
      → with_lwp id (moved_by next) p ≡ process_after id (row_of p l next).transition p
  unfolding row_of process_after requested_row posted_row requested posted returned_row returned trapped stored_in
      move_of moved_by own_taken_row own_taken dropped
  own-after Requested own there = alike p id l (moved_by Requested) (moved traced move.stops) there refl
  own-after (Posted f address) own there =
      alike p id l (moved_by (Posted f address)) (moved traced (move.posts f address)) there refl
  own-after (Gave woken call args result) own there =
      alike p id l (moved_by (Gave woken call args result)) (moved traced (move.leaves call args result)) there refl
  own-after (TookOwn g) own there =
      alike p id l (moved_by (TookOwn g)) (moved traced (move.takes (current_of g l.pending) true)) there refl
  own-after (Dropped g) own there = alike p id l (moved_by (Dropped g)) (moved traced move.drops) there refl
  own-after (Caught c handler) own there =
      alike p id l (moved_by (Caught c handler)) (moved traced (caught_move l c handler)) there refl
  own-after (TookShared g) own there = absurd (cc)
  own-after (JobStopped g) own there = absurd (cc)
  own-after (Ends call status) own there = absurd (cc)
  own-after Executed own there = absurd (cc)
  own-after (Returned call) own there =
      elim (cases_Bool l.control.step) [
        | inl marked ↦
            rw marked
            (alike p id l (moved_by (Returned call)) (moved traced (traps Trace (pc_of l.regs) l.regs)) there
            (rw marked refl))
        | inr unmarked ↦
            rw unmarked (alike p id l (moved_by (Returned call)) (moved traced returns) there (rw unmarked refl))
      ]

  pub own-made : (next : Next) → is_own_row next ≡ true → made_of l next ≡ of_row (row_of p l next)
  unfolding made_of row_of requested_row posted_row returned_row own_taken_row
  own-made Requested own = refl
  own-made (Posted f address) own = refl
  own-made (Gave woken call args result) own = refl
  own-made (TookOwn g) own = refl
  own-made (Dropped g) own = refl
  own-made (Caught c handler) own = refl
  own-made (TookShared g) own = absurd (cc)
  own-made (JobStopped g) own = absurd (cc)
  own-made (Ends call status) own = absurd (cc)
  own-made Executed own = absurd (cc)
  own-made (Returned call) own =
      elim (cases_Bool l.control.step) [ inl marked ↦ rw marked refl | inr unmarked ↦ rw unmarked refl ]

  -- ---- an instruction

  executed-by : (e : InstructionEffect) → lwp_of p id ≡ Some l
      → with_lwp id (executed_by e) (with_space (space_after e p.space) p)
      ≡ process_after id (executed_row p l e).transition p
  unfolding executed_row ran_row entered_row incurred_row watched_row ran entered incurred trapped stored_in
      process_after executed_by executed_move with_space
  executed-by (runs regs None) there =
      elim (cases_Bool l.control.step) [
        | inl marked ↦
            rw marked
            (alike p id l (executed_by (runs regs None)) (moved traced (traps Trace (pc_of regs) regs)) there
            (rw marked refl))
        | inr unmarked ↦
            rw unmarked
            (alike p id l (executed_by (runs regs None)) (moved traced (move.runs regs)) there (rw unmarked refl))
      ]
  executed-by (runs regs (Some store)) there =
      elim (cases_Bool l.control.step) [
        | inl marked ↦
            rw marked
            (alike _ id l (executed_by (runs regs (Some store))) (moved traced (traps Trace (pc_of regs) regs)) there
            (rw marked refl))
        | inr unmarked ↦
            rw unmarked
            (alike _ id l (executed_by (runs regs (Some store))) (moved traced (move.runs regs)) there
            (rw unmarked refl))
      ]
  executed-by (calls call regs) there = refl
  executed-by (faults f address) there = refl
  executed-by (runs_into_watch address regs None) there = refl
  executed-by (runs_into_watch address regs (Some store)) there = refl

  pub executed-made : (e : InstructionEffect) → made_by (effect_of l e) ≡ of_row (executed_row p l e)
  unfolding effect_of stepped steps.ran executed_row ran_row entered_row incurred_row watched_row
  executed-made (runs regs store) =
      elim (cases_Bool l.control.step) [ inl marked ↦ rw marked refl | inr unmarked ↦ rw unmarked refl ]
  executed-made (calls call regs) = refl
  executed-made (faults f address) = refl
  executed-made (runs_into_watch address regs store) = refl

-- ---- what controllers set on the process stays

in_process-control : (cs : List Change) (p : TracedProcess) → (in_process cs p).control ≡ p.control
unfolding with_space with_shared_taken with_job_stop
in_process-control [] p = refl
in_process-control (space_is space ∷ cs) p = in_process-control cs (record p { space = space })
in_process-control (takes_shared g ∷ cs) p = in_process-control cs (with_shared_taken g p)
in_process-control (job_stops g ∷ cs) p = in_process-control cs (with_job_stop g p)
in_process-control (_ ∷ cs) p = in_process-control cs p

pub process_after-control : (id : ℕ) (t : Transition) (p : TracedProcess) → (process_after id t p).control ≡ p.control
unfolding process_after with_lwp
process_after-control id t p = in_process-control t.changes p

pub ruleset controls = (process_after-control)

-- the process that code makes, as the transition does
module _ (p : TracedProcess) (id : ℕ) (l : TracedLwp) where
  pub made-own : (next : Next) (lwps : List (ℕ × TracedLwp)) → is_own_row next ≡ true → lwp_of p id ≡ Some l
      → lwps ≡ change_under id (moved_by next) p.lwps
      → record p { lwps = lwps } ≡ process_after id (row_of p l next).transition p
  unfolding with_lwp
  made-own next lwps own there e = ap (λ ls. record p { lwps = ls }) e ∙ own-after p id l next own there

  pub made-executed : (lwps : List (ℕ × TracedLwp)) (space : Space) → lwp_of p id ≡ Some l
      → lwps ≡ change_under id (executed_by (instruction_effect p.space p.control.areas l.regs)) p.lwps
      → space ≡ space_after (instruction_effect p.space p.control.areas l.regs) p.space
      → record p { space = space; lwps = lwps } ≡ process_after id (row_of p l Executed).transition p
  unfolding with_lwp with_space row_of
  made-executed lwps space there e s =
      ap (λ ls. record p { space = space; lwps = ls }) e
      ∙ ap (λ m.
      record p {
        space = m;
        lwps =
            change_under id (executed_by (instruction_effect p.space p.control.areas l.regs)) p.lwps;
      }) s
      ∙ executed-by p id l (instruction_effect p.space p.control.areas l.regs) there

  pub made-executed_what : (m : Made) → m ≡ made_by (effect_of l (instruction_effect p.space p.control.areas l.regs))
      → m ≡ of_row (row_of p l Executed)
  unfolding row_of
  made-executed_what m e = e ∙ executed-made p id l (instruction_effect p.space p.control.areas l.regs)

  -- ---- signals of the process

  pub made-shared : (g : Sig) (p1 : TracedProcess) → p1 ≡ process_after id (shared_taken p g) p
      → p1 ≡ process_after id (row_of p l (TookShared g)).transition p
  unfolding row_of shared_taken_row
  made-shared g p1 e = e

  pub made-job_stop : (g : Sig) (p1 : TracedProcess) → p1 ≡ process_after id (job_stopped g) p
      → p1 ≡ process_after id (row_of p l (JobStopped g)).transition p
  unfolding row_of
  made-job_stop g p1 e = e

  pub made-shared_what : (g : Sig) (m : Made) → m ≡ at_point (Took g) (Signal g)
      → m ≡ of_row (row_of p l (TookShared g))
  unfolding row_of shared_taken_row
  made-shared_what g m e = e

  pub made-job_stop_what : (g : Sig) (m : Made) → m ≡ quiet (Acted g how.JobStop)
      → m ≡ of_row (row_of p l (JobStopped g))
  unfolding row_of
  made-job_stop_what g m e = e

pub ruleset making = (
  made-shared,
  made-job_stop,
  made-shared_what,
  made-job_stop_what,
  own-made,
  made-own,
  made-executed,
  made-executed_what,
)
