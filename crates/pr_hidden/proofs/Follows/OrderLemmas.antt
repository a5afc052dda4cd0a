use Rattle.std.proofs.Common.{◌≡◌, ◌≢◌, ◌≤◌, ◌<◌, ◌+◌, ℕ, Bool, true, false, Option, Some, None, List, [], ◌∷◌, refl, sym, subst, ◌∙◌, ap, arith}
use Rattle.pr_num.specs.declared.infos.Info.{Info}
use Rattle.pr_num.specs.declared.signals.Sig.{Sig}
use Rattle.pr_num.proofs.ByIdLaws.{All-under}
use Rattle.pr_lawful.proofs.Following.MadeLemmas.{Grows, settled-grows}
use Rattle.pr_model.specs.Changes.{Change, Ending, all_changed, becomes, changed, disposition_is, files_are, forks, held_is, job_stops, makes_lwp, reaps, resumes, signals, signals_itself, space_is, suspends, takes_shared}
use Rattle.pr_model.specs.Lawful.{IsLawfulSystem, IsNumberedBelow}
use Rattle.pr_model.specs.LwpTurns.{settled}
use Rattle.pr_model.specs.Machines.{traced}
use Rattle.pr_model.specs.Moves.{stays}
use Rattle.pr_model.specs.Rows.{Row, quiet_row, row_for}
use Rattle.pr_model.specs.Signals.{is_kill}
use Rattle.pr_model.specs.State.{TracedLwp, TracedProcess, TracedSystem, live_process, process_of, with_lwp_of, with_process}
use Rattle.pr_model.specs.Transitions.{Transition, after_transition, changing}
use Rattle.pr_model.specs.declared.events.Did.TheVariants.{Ran}
use Rattle.pr_model.proofs.StateLemmas.{live_process-found}
use Rattle.pr_hidden.specs.Covers.{Cover, Covers, Patch, keeps_lwp, no_cover, with_cover}
use Rattle.pr_hidden.specs.Following.{Allows, AllowsAll, AllowsTransition, IsReturnable, MayEnd, MayLeave}
use Rattle.pr_hidden.specs.Tidiness.{AreSound, AreTidyChanges, IsTidyChange}
use Rattle.pr_hidden.proofs.NothingHidden.CoverLemmas.{cover-other, each-cover}
use Rattle.pr_hidden.proofs.PatchedSpaces.WrittenCovers.{none-sound}

-- What is so of the covers along a history, and what tidy changes may do.

-- the patches of each process are in order, and nothing is hidden of a process that is not made yet
pub record AreInOrder (covers : Covers) (s : TracedSystem) : Type 0 where
  pub sound : (pid : ℕ) → AreSound (covers pid).patches
  pub fresh : (pid : ℕ) → s.made ≤ pid → covers pid ≡ no_cover

pub none-in-order : (s : TracedSystem) → AreInOrder (λ pid. no_cover) s
none-in-order s = record { sound = λ pid. none-sound; fresh = λ pid later. refl }

pub order-later : (covers : Covers) (s t : TracedSystem) → AreInOrder covers s → Grows s t → AreInOrder covers t
order-later covers s t order grows = record {
  sound = order.sound;
  fresh = λ pid later. order.fresh pid (omega (arith, later, grows));
}

pub order-with : (covers : Covers) (s t : TracedSystem) (pid : ℕ) (c : Cover) → AreInOrder covers s → Grows s t
    → pid < s.made → AreSound c.patches → AreInOrder (with_cover pid c covers) t
order-with covers s t pid c order grows made sound = record {
  sound = each-cover (λ (d : Cover). AreSound d.patches) pid c covers sound order.sound;
  fresh = λ n later. cover-other pid c covers n (λ is. absurd (omega (arith, later, grows, made, is)))
      ∙ order.fresh n (omega (arith, later, grows));
}

-- a live process was made
pub live-made : (s : TracedSystem) (pid : ℕ) (p : TracedProcess) → IsLawfulSystem s → live_process s pid ≡ Some p
    → pid < s.made
live-made s pid p lawful live =
    let it : IsNumberedBelow s.made (pid, p) =
    All-under (IsNumberedBelow s.made) pid p s.processes lawful.numbered (live_process-found s pid p live) in
    it.id

-- ---- changes

module _ (pid : ℕ) (p : TracedProcess) (id : ℕ) (l : TracedLwp) where
  changed-grows : (c : Change) (s : TracedSystem) → Grows s (changed traced pid p id l c s)
  unfolding settled with_process with_lwp_of after_transition all_changed
  changed-grows c s = settled-grows pid p id l s (quiet_row Ran (changing (c ∷ []) stays))

-- Covers with the same patches allow the same; what else is asked of them is so.
module _ (covers new : Covers) (same : (n : ℕ) → (new n).patches ≡ (covers n).patches) where
  returnable-same : (pid : ℕ) (p : TracedProcess) → IsReturnable covers pid p → IsReturnable new pid p
  returnable-same pid p it = record { alike = λ lender is. same lender ∙ it.alike lender is ∙ sym (same pid) }

  may_end-same : (s : TracedSystem) (pid : ℕ) → MayEnd covers s pid → MayEnd new s pid
  may_end-same s pid it = record { returnable = λ p live. returnable-same pid p (it.returnable p live) }

  module _ (first : ℕ) (fresh : (n : ℕ) → first ≤ n → new n ≡ no_cover) (pid : ℕ) (no_agent : (new pid).agent ≡ false)
      (p : TracedProcess) (id : ℕ) (l : TracedLwp) where
    tidy-allowed : (c : Change) (s : TracedSystem) → first ≤ s.made → IsTidyChange covers s pid p c
        → Allows new s pid p id c
    tidy-allowed (files_are files fds) s later tidy = tt
    tidy-allowed (space_is space) s later tidy = tt
    tidy-allowed (signals target g info) s later tidy = λ kills. may_end-same s target (tidy kills)
    tidy-allowed (signals_itself g info) s later tidy = tt
    tidy-allowed (takes_shared g) s later tidy = tt
    tidy-allowed (job_stops g) s later tidy = tt
    tidy-allowed (disposition_is g d) s later tidy = tt
    tidy-allowed (held_is held) s later tidy = tt
    tidy-allowed (resumes frame frames) s later tidy = tt
    tidy-allowed (forks birth args) s later tidy =
        record { unpatched = same pid ∙ tidy; fresh = fresh s.made later }
    tidy-allowed (reaps child) s later tidy = tt
    tidy-allowed (becomes program) s later tidy = record {
      unpatched = same pid ∙ tidy.0;
      kept = rw no_agent refl;
      returnable = returnable-same pid p tidy.1;
    }
    tidy-allowed (makes_lwp n regs held) s later tidy = record { no_agent = no_agent }
    tidy-allowed (suspends other it) s later tidy = tt

    all-allowed : (cs : List Change) (s : TracedSystem) → first ≤ s.made → AreTidyChanges covers pid p id l cs s
        → AllowsAll new pid p id l cs s
    all-allowed [] s later tidy = tt
    all-allowed (c ∷ cs) s later tidy = (
      tidy-allowed c s later tidy.0,
      all-allowed cs (changed traced pid p id l c s)
          (omega (arith, later, changed-grows pid p id l c s)) tidy.1,
    )

    pub transition-allowed : (t : Transition) (s : TracedSystem) → first ≤ s.made
        → AreTidyChanges covers pid p id l t.changes s
        → ((how : Ending) → t.ending ≡ Some how → IsReturnable covers pid p) → AllowsTransition new pid p id l t s
    transition-allowed t s later tidy returns = record {
      changes = all-allowed t.changes s later tidy;
      leaves = λ how is. record { no_agent = no_agent; returnable = returnable-same pid p (returns how is) };
    }
