use Rattle.std.proofs.Common.{◌≡◌, ◌<◌, ◌≤◌, ◌==◌, ◌+◌, ◌++◌, ℕ, suc, Bool, true, false, cond, Some, List, [], ◌∷◌, length, map, refl, ap, ◌∙◌, arith}
use Rattle.std.proofs.lemmas.Bool.{eq-eqb, eqb-true}
use Rattle.std.proofs.lemmas.List.Sums.{sum_by-cons}
use Rattle.std.specs.List.{sum_by}
use Rattle.pr_line.specs.declared.options.Options.{Options}
use Rattle.pr_model.specs.Handles.{handle_of}
use Rattle.pr_model.specs.Legal.{state_after}
use Rattle.pr_model.specs.State.{TracedState}
use Rattle.pr_model.specs.declared.events.Entry.{Entry}
use Rattle.pr_model.specs.declared.handles.Held.{Held}
use Rattle.pr_truss.specs.Trusses.{TrussState, traced_at}
use Rattle.pr_truss.specs.declared.processes.Traced.{Traced}
use Rattle.pr_truss.specs.declared.stages.AfterClosing.TheVariants.{GoOn, OpenNext}
use Rattle.pr_truss.specs.declared.stages.Stage.{Stage}
use Rattle.pr_truss.specs.declared.stages.Stage.TheVariants.{Spawning, OpeningControl, Opening, Polling, ReadingStatus, ReadingText, Running, Closing, Finished}
use Rattle.pr_truss_laws.proofs.Files.HeldLemmas.{at_place, handles_in, held, of_stage, of_traced, unit}
use Rattle.pr_truss_laws.proofs.Files.OwnLemmas.{owned}
use Rattle.pr_function_laws.proofs.OrdinaryTruss.OrdinaryFiles.{run-halfway}
use Rattle.pr_function_laws.specs.Opened.{IsFunctionRun, functions_at}
use Rattle.pr_function_laws.specs.Ordinary.{unmarked}
use Rattle.pr_function_hides.proofs.Replies.LeavingStages.{IsLeft, asks, awaits, closes_files, halts, has_ended, lifts_all}
use Rattle.pr_function_hides.proofs.Replies.LeavingStages.{looks, reads_text, waits_again}
use Rattle.pr_function_hides.proofs.Replies.OwnFiles.{IsWithin}

-- Each file that truss with functions has open is of a process that it traces.

-- ---- a sum over the processes

traced-some : (pid h : ℕ) (ts : List Traced) → 1 ≤ sum_by (of_traced pid h) (map unmarked ts)
    → (i : ℕ) × ((i < length ts) × ((at_place ts i).pid ≡ pid))
unfolding of_traced
traced-some pid h [] some = absurd (omega (arith, some))
traced-some pid h (u ∷ us) some = by (u.pid == pid) refl (λ left. traced-some pid h us left)
  where
    sum : sum_by (of_traced pid h) (map unmarked (u ∷ us))
        ≡ cond (u.pid == pid) (handles_in h (unmarked u)) 0 + sum_by (of_traced pid h) (map unmarked us)
    sum = sum_by-cons (of_traced pid h) (unmarked u) (map unmarked us)

    by : (b : Bool) → (u.pid == pid) ≡ b
        → (1 ≤ sum_by (of_traced pid h) (map unmarked us)
        → (i : ℕ) × ((i < length us) × ((at_place us i).pid ≡ pid)))
        → (i : ℕ) × ((i < length (u ∷ us)) × ((at_place (u ∷ us) i).pid ≡ pid))
    by true is others = (0, (omega arith, eqb-true u.pid pid is))
    by false is others =
        let more =
        others
        (omega (arith, some, sum, ap (λ b. cond {A = ℕ} b (handles_in h (unmarked u)) 0) is)) in
        (suc more.0, (omega (arith, more.1.0), more.1.1))

-- no child is set free
pub none-freed : (n pid h : ℕ) (stage : Stage) → IsWithin n stage → of_stage pid h stage ≡ 0
none-freed n pid h (Spawning program) w = refl
none-freed n pid h (OpeningControl child) w = refl
none-freed n pid h (Opening q step) w = refl
none-freed n pid h Polling w = refl
none-freed n pid h (ReadingStatus q) w = refl
none-freed n pid h (ReadingText q l from len) w = refl
none-freed n pid h (Running q) w = refl
none-freed n pid h (Closing q OpenNext) w = refl
none-freed n pid h (Closing q GoOn) w = refl
none-freed n pid h Finished w = refl
none-freed n pid h _ w = absurd w

pub left-freed : (t : TrussState) (pid h : ℕ) → IsLeft t → of_stage pid h t.stage ≡ 0
left-freed t pid h (halts at idle within) = ap (of_stage pid h) at
left-freed t pid h (awaits until at beside within) = ap (of_stage pid h) at
left-freed t pid h (asks at beside within) = ap (of_stage pid h) at
left-freed t pid h (waits_again until at beside within) = ap (of_stage pid h) at
left-freed t pid h (looks at idle within) = ap (of_stage pid h) at
left-freed t pid h (reads_text l from len at idle within) = ap (of_stage pid h) at
left-freed t pid h (lifts_all clear at beside within) = ap (of_stage pid h) at
left-freed t pid h (closes_files at idle within) = ap (of_stage pid h) at
left-freed t pid h (has_ended at idle) = ap (of_stage pid h) at

-- ---- a file that it has open

pub handle-traced : (n k : ℕ) (o : Options) (s : TracedState) (front back : List Entry)
    → IsFunctionRun n k o s (front ++ back)
    → ((pid h : ℕ) → of_stage pid h (functions_at k o front).stage ≡ 0) → (m : ℕ) (g : Held)
    → handle_of (state_after s front).opens k m ≡ Some g
    → (i : ℕ) × ((i < length (functions_at k o front).traced)
    × ((traced_at (functions_at k o front) i).pid ≡ g.pid))
unfolding held
handle-traced n k o s front back run freed m g there =
    let way = run-halfway n k o s front back run in
    let follows = way.follows in
    let reaches = follows.reaches in
    let owns = reaches.owns in
    let counts = owns.counts g.pid m in
    let one : owned g.pid (handle_of (state_after s front).opens k m) ≡ 1 =
    ap (owned g.pid) there ∙ ap unit (eq-eqb g.pid g.pid refl) in
    let none = freed g.pid m in traced-some g.pid m (functions_at k o front).traced (omega (arith, counts, one, none))
