use Rattle.std.proofs.Common.{◌≡◌, ◌&&◌, ℕ, Bool, true, false, not, None, Some, refl, ap, ◌∙◌}
use Rattle.pr_keeps.proofs.RowLemmas.{directed-moves}
use Rattle.pr_lawful.proofs.LawfulTurns.EndLemmas.{found-live}
use Rattle.pr_lending.specs.Stopping.{MakesItsStop}
use Rattle.pr_model.specs.Changes.{all_changed}
use Rattle.pr_model.specs.LwpTurns.{can_move, is_held_back, may_go_on, may_turn, may_wake, settled, turn_of, with_counted}
use Rattle.pr_model.specs.Machines.{stopped_as_directed, traced}
use Rattle.pr_model.specs.Moves.{moved, stops}
use Rattle.pr_model.specs.Points.{after_meeting}
use Rattle.pr_model.specs.Rows.{requested_row, row_for}
use Rattle.pr_model.specs.State.{TracedLwp, TracedProcess, TracedSystem, live_process, lwp_of, with_lwp, with_lwp_of, with_process}
use Rattle.pr_model.specs.Stops.{has_event_stop}
use Rattle.pr_model.specs.Transitions.{after_transition, requested}
use Rattle.pr_model.specs.declared.events.Did.TheVariants.{Stopped}
use Rattle.pr_model.specs.declared.lwps.Phase.{Phase}
use Rattle.pr_model.specs.declared.lwps.Phase.TheVariants.{User, Entered, Asleep, Exiting, Faulted}
use Rattle.pr_num.proofs.ByIdLaws.{under-change_under}

-- An lwp that is directed to stop makes that stop.

module _ (s : TracedSystem) (pid : ℕ) (p : TracedProcess) (id : ℕ) (l : TracedLwp) where
  -- it goes on wherever it is, also where it is asleep
  goes-on : l.control.directed ≡ true → (ph : Phase) → may_go_on s pid p id l ph ≡ true
  unfolding may_wake
  goes-on directed User = refl
  goes-on directed (Entered call) = refl
  goes-on directed (Asleep call args since) = rw directed refl
  goes-on directed (Exiting call args result) = refl
  goes-on directed (Faulted f address) = refl

  stops-first : l.control.directed ≡ true → row_for s pid p id l ≡ requested_row
  unfolding row_for
  stops-first directed = rw directed refl

  module _ (live : live_process s pid ≡ Some p) (there : lwp_of p id ≡ Some l) where
    -- its process after that turn
    stopped : TracedProcess
    stopped = with_counted Stopped false (with_lwp id (moved traced stops) p)

    lives-on : live_process (settled s pid p id l requested_row).system pid ≡ Some stopped
    unfolding stopped settled requested_row after_transition requested all_changed with_lwp_of with_process live_process
        after_meeting with_counted with_lwp
    lives-on =
        let found = found-live s pid p live in
        simp (under-change_under, found.0, found.1)

    stands-stopped : lwp_of stopped id ≡ Some (record l { control = stopped_as_directed l.control })
    unfolding stopped with_counted with_lwp moved traced
    stands-stopped = simp (under-change_under, there)

    pub directed-stops : l.control.directed ≡ true → has_event_stop l ≡ false → l.suspended ≡ false → p.job_stop ≡ None
        → MakesItsStop s pid p id l
    unfolding can_move turn_of may_turn
    directed-stops directed no_event goes unstopped =
        let free : is_held_back p id l ≡ false = directed-moves p id l no_event goes unstopped directed in
        let may : may_turn s pid p id l ≡ true =
        ap (λ (b : Bool). not b && may_go_on s pid p id l l.phase) free ∙ goes-on directed l.phase in
        let row = stops-first directed in
        record {
          can = rw (live, there, may) refl;
          turn = rw (live, there, may, row) refl;
          process = stopped;
          lives = lives-on;
          stands = stands-stopped;
        }
