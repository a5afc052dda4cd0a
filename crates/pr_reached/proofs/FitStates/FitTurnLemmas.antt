use Rattle.std.proofs.Common.{◌≡◌, ℕ, Bool, false, Option, Some, None, List, refl, sym, subst, ◌∙◌, ap}
use Rattle.std.proofs.lemmas.Bool.{false≢true}
use Rattle.pr_num.proofs.ByIdLaws.{under-change_under}
use Rattle.pr_num.specs.ById.{under}
use Rattle.pr_num.specs.Control.{has_flags, async_mode}
use Rattle.pr_lawful.proofs.LawfulTurns.EffectLemmas.{IsActing}
use Rattle.pr_lawful.proofs.ProcessParts.FileLemmas.{choice}
use Rattle.pr_lawful.proofs.LawfulTurns.TurnLemmas.{acting}
use Rattle.pr_model.proofs.TurnLemmas.{turn-taken}
use Rattle.pr_model.specs.Changes.{Change, Ending, all_changed}
use Rattle.pr_model.specs.Lawful.{IsLawfulSystem}
use Rattle.pr_model.specs.LwpTurns.{LwpTurn, is_held_back, settled, turn_of, with_counted}
use Rattle.pr_model.specs.Machines.{traced}
use Rattle.pr_model.specs.Moves.{moved}
use Rattle.pr_model.specs.Points.{after_meeting, is_traced, stopped_at, with_others_directed, with_stop_at}
use Rattle.pr_model.specs.Rows.{Row, row_for}
use Rattle.pr_model.specs.State.{TracedLwp, TracedProcess, TracedSystem, lwp_of, process_of, with_lwp, with_lwp_of, with_process}
use Rattle.pr_model.specs.Transitions.{Transition, after_transition, ended_if}
use Rattle.pr_model.specs.declared.events.Did.{Did}
use Rattle.pr_model.specs.declared.stops.Point.{Point}
use Rattle.pr_model.specs.declared.stops.Stop.{Stop}
use Rattle.pr_reached.proofs.FitStates.CalmLemmas.{AreCalm, HasLwp, HaveLwp, IsStopless, There, changes-calm, is_there, mapped-there}
use Rattle.pr_reached.proofs.FitStates.FitChangeLemmas.{IsOwnFit, fits-keep}
use Rattle.pr_reached.proofs.FitStates.FitLemmas.{KeepsProcess, all_directed-keeps, changed-at, changed-one, keeps-at, lwp-fits, process-fits}
use Rattle.pr_reached.proofs.FitStates.FitRowLemmas.{FitsPoint, FitsRow, meets, moved-fits, quiet, row-fits, stopped-fits}
use Rattle.pr_keeps.proofs.KeptSystems.{all_changed-keeps, ended-keeps}
use Rattle.pr_reached.specs.Fits.{IsFitProcess, IsFitSystem}

-- A turn of an lwp leaves a system fit: its lwp stands on no event before its move, and is then in the phase that the
-- stop at the point which it met asks for.

-- ---- what holds of the lwp of an id, where it stands

module _ (P : TracedLwp → Type 0) (id pid : ℕ) where
  moved-there : (f : TracedLwp → TracedLwp) (s : TracedSystem) → ((l : TracedLwp) → P (f l)) → HaveLwp P id pid
      (with_process pid (with_lwp id f) s)
  unfolding with_process with_lwp
  moved-there f s holds = record {
    process = subst (There (HasLwp P id)) (sym (under-change_under pid (with_lwp id f) s.processes))
        (mapped-there (HasLwp P id) (with_lwp id f) (process_of s pid) (λ x is. record {
          lwp = subst (There P) (sym (under-change_under id f x.lwps)) (mapped-there P f (lwp_of x id)
              (λ l there. holds l));
        }));
  }

  kept-there : (f : TracedProcess → TracedProcess) (s : TracedSystem) → ((x : TracedProcess) → (f x).lwps ≡ x.lwps) →
      HaveLwp P id pid s → HaveLwp P id pid (with_process pid f s)
  unfolding with_process
  kept-there f s same h = record {
    process = subst (There (HasLwp P id)) (sym (under-change_under pid f s.processes))
        (mapped-there (HasLwp P id) f (process_of s pid) (λ x is. record {
          lwp = let had = h.process.holds x is in subst (There P) (ap (under id) (sym (same x))) had.lwp;
        }));
  }

-- ---- the counts, and the stop at a point

counted-keeps : (did : Did) (begun : Bool) → KeepsProcess (with_counted did begun)
unfolding with_counted
counted-keeps did begun x h = record { lwps = h.lwps; pending = h.pending }

counted-same : (did : Did) (begun : Bool) (x : TracedProcess) → (with_counted did begun x).lwps ≡ x.lwps
unfolding with_counted
counted-same did begun x = refl

meeting-fits : (point : Option Point) (id : ℕ) (x : TracedProcess) → ((l : TracedLwp) → lwp_of x id ≡ Some l →
    FitsPoint point l) → IsFitProcess x → IsFitProcess (after_meeting point id x)
unfolding after_meeting with_stop_at with_others_directed
meeting-fits None id x phase h = h
meeting-fits (Some point) id x phase h =
    let stopped : TracedProcess = with_lwp id (stopped_at point) x in
    let fits = keeps-at id (stopped_at point) x (λ l there it. stopped-fits point l (phase l there) it) h in
    choice IsFitProcess (is_traced x.control point) _ _
    (λ traces. choice IsFitProcess (has_flags stopped.control.modes async_mode) _ _ (λ alone. fits) (λ all.
    all_directed-keeps stopped fits))
    (λ passes. h)

-- ---- a turn

module _ (s : TracedSystem) (pid : ℕ) (p : TracedProcess) (id : ℕ) (l : TracedLwp) (a : IsActing s pid p id l) (h :
    IsFitSystem s) (none : l.control.stop ≡ None) where
  -- after the changes the lwp stands on no event still
  calm-later : (cs : List Change) (x : TracedProcess) (k : TracedLwp) → process_of (all_changed traced pid p id l cs
      s) pid ≡ Some x → lwp_of x id ≡ Some k → k.control.stop ≡ None
  calm-later cs x k found there = ((changes-calm id pid p l none cs s calm).process.holds x found).lwp.holds k there
    where
      calm : AreCalm id pid s
      calm = record {
        process = subst (There (HasLwp IsStopless id)) (sym a.found)
            (is_there (HasLwp IsStopless id) p (record
            { lwp = subst (There IsStopless) (sym a.there) (is_there IsStopless l none) }));
      }

  row-keeps : (row : Row) → FitsRow row → IsFitSystem (settled s pid p id l row).system
  unfolding settled after_transition with_lwp_of after_meeting
  row-keeps row fits = by fits
    where
      t : Transition
      t = row.transition

      changes : TracedSystem
      changes = all_changed traced pid p id l t.changes s

      moves : TracedSystem
      moves = with_process pid (with_lwp id (moved traced t.move)) changes

      moves-fit : IsFitSystem moves
      moves-fit =
          changed-at changes pid (with_lwp id (moved traced t.move))
          (λ x found it. keeps-at id (moved traced t.move) x (λ k there own. moved-fits t.move k
          (calm-later t.changes x k found there) own) it)
          (all_changed-keeps IsOwnFit IsFitSystem fits-keep pid p id l
          (lwp-fits p id l (process-fits s pid p h a.found) a.there) t.changes s h)

      ends-fit : (o : Option Ending) → IsFitSystem (ended_if traced pid p id l o moves)
      ends-fit None = moves-fit
      ends-fit (Some how) = ended-keeps IsOwnFit IsFitSystem fits-keep pid p id how moves moves-fit

      counts : TracedSystem
      counts = with_process pid (with_counted row.did row.begun) (ended_if traced pid p id l t.ending moves)

      counts-fit : IsFitSystem counts
      counts-fit = changed-one _ pid (with_counted row.did row.begun) (counted-keeps row.did row.begun) (ends-fit
          t.ending)

      -- the lwp is in the phase that its point asks for
      in_phase : t.ending ≡ None → ((k : TracedLwp) → FitsPoint row.point (moved traced t.move k)) → HaveLwp
          (FitsPoint row.point) id pid counts
      in_phase goes_on phase =
          kept-there (FitsPoint row.point) id pid (with_counted row.did row.begun) _ (counted-same row.did row.begun)
          (subst (λ o. HaveLwp (FitsPoint row.point) id pid (ended_if traced pid p id l o moves)) (sym goes_on)
          (moved-there (FitsPoint row.point) id pid (moved traced t.move) changes phase))

      by : FitsRow row → IsFitSystem (with_process pid (after_meeting row.point id) counts)
      by (quiet none_met) =
          changed-one counts pid (after_meeting row.point id) (λ x it. subst
          (λ o. IsFitProcess (after_meeting o id x)) (sym none_met) it) counts-fit
      by (meets goes_on phase) =
          changed-at counts pid (after_meeting row.point id) (λ x found it. meeting-fits row.point id x
          (λ k stands. ((in_phase goes_on phase).process.holds x found).lwp.holds k stands) it) counts-fit

-- an lwp that is not held back stands on no event
free-stopless : (p : TracedProcess) (id : ℕ) (l : TracedLwp) → is_held_back p id l ≡ false → l.control.stop ≡ None
unfolding is_held_back
free-stopless p id l free = by l.control.stop refl
  where
    by : (o : Option Stop) → l.control.stop ≡ o → o ≡ None
    by None is = refl
    by (Some stop) is = absurd (false≢true (sym free ∙ rw is refl))

pub turn-fits : (s : TracedSystem) (pid id : ℕ) (t : LwpTurn) → IsLawfulSystem s → IsFitSystem s → turn_of s pid id ≡
    Some t → IsFitSystem t.system
turn-fits s pid id t lawful h turn =
    let it = turn-taken s pid id t turn in
    let a = acting s pid id it.process it.lwp lawful it.live it.there in
    let row = row_for s pid it.process id it.lwp in
    subst (λ (v : LwpTurn). IsFitSystem v.system) (sym it.is)
    (row-keeps s pid it.process id it.lwp a h (free-stopless it.process id it.lwp it.free) row (row-fits s pid
    it.process id it.lwp))
