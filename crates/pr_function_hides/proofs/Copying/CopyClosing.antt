use Rattle.std.proofs.Common.{◌≡◌, ◌<◌, ℕ, false, Option, Some, None, length, refl, sym, subst, ap, ◌∙◌}
use Rattle.std.proofs.lemmas.Bool.{ne_eqb}
use Rattle.std.proofs.lemmas.Option.{none-some, same_Some}
use Rattle.pr_line.specs.declared.options.Options.{Options}
use Rattle.pr_model.specs.Calls.{Answer}
use Rattle.pr_model.specs.Handles.{handle_of, is_writable}
use Rattle.pr_model.specs.State.{TracedProcess, TracedState, TracedSystem, live_process}
use Rattle.pr_model.specs.declared.calls.Call.{Call}
use Rattle.pr_model.specs.declared.calls.Call.TheVariants as call
use Rattle.pr_model.specs.declared.calls.File.TheVariants as file
use Rattle.pr_model.specs.declared.calls.Mode.TheVariants.{Read}
use Rattle.pr_model.specs.declared.handles.Held.{Held}
use Rattle.pr_report_laws.proofs.Invariant.StandLemmas.{EachBut, but-set, each-remove}
use Rattle.pr_truss.specs.Closings.{after_closing, closed_or_removed}
use Rattle.pr_truss.specs.Processes.{last_handle, without_last}
use Rattle.pr_truss.specs.Trusses.{TrussState, traced_at, with_traced, without_traced}
use Rattle.pr_truss.specs.declared.asides.Aside.TheVariants.{Nothing}
use Rattle.pr_truss.specs.declared.marks.Marks.{Marks}
use Rattle.pr_truss.specs.declared.processes.Traced.{Traced}
use Rattle.pr_truss.specs.declared.stages.AfterClosing.{AfterClosing}
use Rattle.pr_truss.specs.declared.stages.AfterClosing.TheVariants.{GoOn, OpenNext, RunParent}
use Rattle.pr_truss.specs.declared.stages.OpeningStep.TheVariants as opening
use Rattle.pr_truss.specs.declared.stages.Stage.TheVariants.{Closing}
use Rattle.pr_truss_laws.proofs.Files.HeldLemmas.{set-at}
use Rattle.pr_truss_laws.proofs.Files.OpensLemmas.{held_by}
use Rattle.pr_truss_laws.proofs.Replies.ReplySteps.{lost-same}
use Rattle.pr_function_laws.proofs.Marks.KeptPlaces.{AtStage}
use Rattle.pr_function_laws.proofs.OpenedProcesses.OpenedCalls.{IsSo}
use Rattle.pr_function_laws.proofs.OpenedProcesses.OpenedLemmas.{Holds, last-own}
use Rattle.pr_function_laws.specs.Stretches.{acts_by}
use Rattle.pr_function_hides.proofs.Copying.CopyActs.{read-closed}
use Rattle.pr_function_hides.proofs.Copying.CopyFeeds.{IsRestedSo, but-one, closes-of, going-next, opening-next}
use Rattle.pr_function_hides.proofs.Copying.CopyOpening.{fits-idle, next-done}
use Rattle.pr_function_hides.proofs.Copying.CopyOwn.{OwnCall, apart-away, is-off, later, others-rested}
use Rattle.pr_function_hides.proofs.Copying.CopyPlaces.{ClosesSo, CopiesSo, IsBareMarks, IsClean, IsRunFlags, closes_so, halted, is_about, unplanted}
use Rattle.pr_function_hides.proofs.Replies.PlantedReplies.{lost-marks}

-- The forks, vforks and execs of a process whose files truss closes.

-- the last file of a process is open for reading, where another one is left
pub last-read : (k : ℕ) (o : Options) (s : TracedState) (v u : Traced) (memory lstatus status : Option ℕ)
    → Holds k o s (Some opening.OpenStatus) v.pid v.control status lstatus memory
    → without_last (record v { memory = memory; lstatus = lstatus; status = status }) ≡ Some u
    → (file : Held)
    × ((handle_of s.opens k (last_handle (record v { memory = memory; lstatus = lstatus; status = status }))
    ≡ Some file) × (is_writable file.mode ≡ false))
unfolding last_handle without_last
last-read k o s v u (Some m) lstatus status h left =
    (held_by k v.pid 0 file.Mem Read, (h.its_memory m refl, refl))
last-read k o s v u None (Some m) status h left =
    (held_by k v.pid 0 file.Lstatus Read, (h.its_lstatus m refl, refl))
last-read k o s v u None None (Some m) h left =
    (held_by k v.pid 0 file.Status Read, (h.its_status m refl, refl))
last-read k o s v u None None None h left = absurd (none-some u left)

module _ {n k : ℕ} {o : Options} {t : TrussState} {s : TracedState} {c : Call} {a : Answer}
    (w : OwnCall n k o t s c a) (q : ℕ) (within : q < length t.traced) where
  abbrev v : Traced
  v = traced_at t q

  abbrev X : Traced → Type 0
  X u = IsRestedSo (later w) u

  abbrev Done : TrussState → Type 0
  Done z = CopiesSo z (later w)

  clean-here : IsClean v
  clean-here = let cs = w.copies in cs.clean q within

  -- ---- a file is closed

  module _ (next : AfterClosing) (at : t.stage ≡ Closing q next) (idle : t.aside ≡ Nothing)
      (is : c ≡ call.Close (last_handle v))
      (held : Holds k t.options s (Some opening.OpenStatus) v.pid v.control v.status v.lstatus v.memory) where
    close-others : EachBut X t.traced q
    close-others =
        let g = w.goes in
        let last = last-own n k t.options s g.lawful c a w.given w.over v held in
        others-rested w q
        (λ place other. ap (λ y. is_about y place) at ∙ ne_eqb q place (λ same_place. other (sym same_place)))
        (apart-away w q within (last_handle v) last.its_file last.its_mode (ap acts_by is) last.there)

    close-left : (u : Traced) → without_last v ≡ Some u → Done (with_traced t q u)
    unfolding without_last
    close-left u left =
        let there : traced_at (with_traced t q u) q ≡ u = set-at t.traced q u within in
        let read = last-read k t.options s v u v.memory v.lstatus v.status held left in
        let g = w.goes in
        let stays = read-closed n k s g.lawful c a w.given w.over (last_handle v) read.0 read.1.0 read.1.1 is in
        let lost = lost-same v u left in
        but-one (later w) (with_traced t q u) q
        (λ place other. ap (λ y. is_about y place) at ∙ ne_eqb q place (λ same_place. other (sym same_place)))
        (fits-idle w (with_traced t q u) idle) (but-set X t.traced q u close-others)
        (subst IsClean (sym there)
        (let it = clean-here in
        record {
          unseen = lost-seen u left;
          flags = subst IsRunFlags (sym (ap (λ (m : Marks). m.flags) (lost-marks v u left))) it.flags;
        }))
        (λ x now.
        closes_so next at
        (subst (λ (y : Traced). ClosesSo t.aside y x) (sym there)
        (by x (lost-marks v u left)
        (let cs = w.copies in
        closes-of t q x next at
        (cs.each q within x
        (ap (λ (y : TracedSystem). live_process y v.pid) (sym stays)
        ∙ ap (live_process (later w)) (sym lost.pid ∙ ap (λ (y : Traced). y.pid) (sym there)) ∙ now))))))
      where
        lost-seen : (u : Traced) → without_last v ≡ Some u → u.seen ≡ false
        lost-seen u left = let it = clean-here in seen-of v.memory v.lstatus v.status left ∙ it.unseen
          where
            seen-of : (memory lstatus status : Option ℕ)
                → without_last (record v { memory = memory; lstatus = lstatus; status = status }) ≡ Some u
                → u.seen ≡ v.seen
            seen-of (Some m) lstatus status left = ap (λ (y : Traced). y.seen) (sym (same_Some _ u left))
            seen-of None (Some m) status left = ap (λ (y : Traced). y.seen) (sym (same_Some _ u left))
            seen-of None None (Some m) left = ap (λ (y : Traced). y.seen) (sym (same_Some _ u left))
            seen-of None None None left = absurd (none-some u left)

        by : (x : TracedProcess) → u.marks ≡ v.marks → ClosesSo t.aside v x → ClosesSo t.aside u x
        by x marks (unplanted none m) = unplanted none (subst IsBareMarks (sym marks) m)
        by x marks (halted out halting) = halted out halting

    close-removed : (following : AfterClosing) → next ≡ following
        → AtStage (IsSo (Unit {0}) k t.options s) t.traced (Closing q following)
        → Done (after_closing (without_traced t q) following)
    unfolding after_closing
    close-removed OpenNext same_next w_stage =
        next-done w (without_traced t q) _ (is-off w) idle (opening-next (without_traced t q) (is-off w))
        (each-remove X t.traced q within close-others)
    close-removed GoOn same_next w_stage =
        next-done w (without_traced t q) _ (is-off w) idle (going-next (without_traced t q) (is-off w))
        (each-remove X t.traced q within close-others)
    close-removed (RunParent parent) same_next w_stage = absurd w_stage

    pub close-done : AtStage (IsSo (Unit {0}) k t.options s) t.traced (Closing q next) → (u : Option Traced)
        → without_last v ≡ u → Done (closed_or_removed t q next u)
    close-done w_stage None left = close-removed next refl w_stage
    close-done w_stage (Some u) left = close-left u left
