use Rattle.std.proofs.Common.{◌≡◌, ◌<◌, ◌++◌, ℕ, true, Some, List, ◌∷◌, length, refl, sym, subst, ap, ◌∙◌}
use Rattle.std.proofs.lemmas.Option.{same_Some}
use Rattle.pr_line.specs.declared.options.Options.{Options}
use Rattle.pr_model.specs.Handles.{handle_of}
use Rattle.pr_model.specs.Legal.{state_after}
use Rattle.pr_model.specs.State.{TracedState}
use Rattle.pr_model.specs.declared.calls.Call.TheVariants as call
use Rattle.pr_model.specs.declared.calls.File.{File}
use Rattle.pr_model.specs.declared.calls.File.TheVariants as file
use Rattle.pr_model.specs.declared.calls.Mode.{Mode}
use Rattle.pr_model.specs.declared.calls.Mode.TheVariants.{WriteExcl}
use Rattle.pr_model.specs.declared.calls.Reply.{Reply}
use Rattle.pr_model.specs.declared.events.Entry.{Entry}
use Rattle.pr_model.specs.declared.handles.Held.{Held}
use Rattle.pr_num.specs.Limits.{read_limit}
use Rattle.pr_truss.specs.NextCalls.{call_of, next_call_of, opening_call, read_record}
use Rattle.pr_truss.specs.Trusses.{TrussState, traced_at}
use Rattle.pr_truss.specs.declared.stages.OpeningStep.TheVariants as opening
use Rattle.pr_truss.specs.declared.stages.Stage.TheVariants.{Opening, ReadingStatus, ReadingLwps}
use Rattle.pr_truss_laws.proofs.Files.HeldLemmas.{Fits}
use Rattle.pr_truss_laws.specs.Exchanges.{Exchange, exchange_of, exchanges, truss_at}
use Rattle.pr_truss_laws.specs.Runs.{IsTrussRun}
use Rattle.pr_report_laws.proofs.Asking.LookStages.{Minds, WasWaitedFor, minds}
use Rattle.pr_report_laws.proofs.Asking.OnceShown.{lwps-watched, status-watched}
use Rattle.pr_report_laws.proofs.Files.FileLaws.{HasFiles, IsFileOf}
use Rattle.pr_report_laws.proofs.Files.FileSteps.{MakesNext, makes-next}
use Rattle.pr_report_laws.proofs.Files.FileUses as uses
use Rattle.pr_report_laws.proofs.Files.WatchHistories.{Reaches, run-reaches}
use Rattle.pr_report_laws.proofs.Holding.HoldPlaces.{watched-hold}
use Rattle.pr_report_laws.proofs.Memory.WatchMemory.{HasInterrupt, run-recalls}
use Rattle.pr_report_laws.proofs.OwnFiles.OpenPlaces.{Knows, known}
use Rattle.pr_report_laws.proofs.ToldForks.OldHolds.{ReadsBy, fits, look, lwps, next-reads, status, text}
use Rattle.pr_report_laws.proofs.ToldForks.ToldReads.{file-has}
use Rattle.pr_report_laws.proofs.Watching.EndLaws.{stage-called}
use Rattle.pr_report_laws.proofs.Watching.HistoryParts.{front-run, rest-makes}
use Rattle.pr_report_laws.specs.Attachments.{HasFile, WasInterrupted}
use Rattle.pr_report_laws.specs.Looks.{IsNamedNow, IsWhole, LooksInPlace, MayLookAtLwps, in_opening, leaving}

-- Each look of truss at a process has its place.

module _ (n k : ℕ) (o : Options) (first : TracedState) (before later : List Entry) (e : Entry)
    (run : IsTrussRun n k o first (before ++ e ∷ later)) (pid handle from len : ℕ) (r : Reply)
    (own : exchange_of k e ≡ Some (record { call = call.Read handle from len; reply = r })) where
  abbrev t : TrussState
  t = truss_at k o before

  abbrev s : TracedState
  s = state_after first before

  abbrev x : Exchange
  x = record { call = call.Read handle from len; reply = r }

  front : IsTrussRun n k o first before
  front = front-run n k o first before (e ∷ later) run

  reached : Reaches k t s
  reached = run-reaches n k o first before front

  files : HasFiles k t s
  files = let g = reached in g.files

  fitting : Fits t.traced t.stage
  fitting = fits k pid t s reached

  next : next_call_of t ≡ Some (call.Read handle from len)
  next =
      let m = makes-next k t e later (rest-makes n k o first before (e ∷ later) run) in subst (MakesNext t) own m.0

  knows : Minds o (exchanges k before) t.traced t.stage
  knows = let f = front in minds o (exchanges k before) f.makes

  -- the file of the handle
  module _ (f : File) (mine : HasFile k pid f handle s) where
    same-file : (of number : ℕ) (other : File) (mode : Mode) → IsFileOf k s of number other mode → number ≡ handle
        → (other ≡ f) × (of ≡ pid)
    same-file of number other mode its same =
        let held : Held = record { controller = k; pid = of; lwp = 0; file = other; mode = mode } in
        let is : held ≡ mine.held =
        same_Some held mine.held (sym its.is ∙ ap (λ m. handle_of s.opens k m) same ∙ mine.there) in
        (ap (λ (h : Held). h.file) is ∙ mine.file, ap (λ (h : Held). h.pid) is ∙ mine.of)

  has-control : (place : ℕ) → place < length t.traced → (traced_at t place).pid ≡ pid
      → HasFile k pid file.Ctl (traced_at t place).control s
  has-control place within of =
      file-has k pid file.Ctl WriteExcl (traced_at t place).control s
      (subst (λ p. IsFileOf k s p (traced_at t place).control file.Ctl WriteExcl) of (files.control place within))

  whole : (number : ℕ) → call.Read number 0 read_limit ≡ call.Read handle from len → IsWhole from len
  whole number is = (cc, cc)

  -- ---- a status

  status-look : HasFile k pid file.Status handle s → IsWhole from len × IsNamedNow k o pid first before
  unfolding call_of
  status-look mine = by (next-reads t handle from len next)
    where
      by : ReadsBy t handle t.stage → IsWhole from len × IsNamedNow k o pid first before
      by (look place is same) =
          let w = same-file file.Status mine _ _ file.Lstatus _ (uses.opening-read k t s files fitting place is) same in
          absurd (let clash : file.Lstatus ≡ file.Status = w.0 in cc)
      by (status place is same) =
          let w = same-file file.Status mine _ _ file.Status _ (uses.status-read k t s files fitting place is) same in
          let within : place < length t.traced = subst (Fits t.traced) is fitting in (
            whole _
                (sym
                (stage-called t x (ReadingStatus place) (read_record (traced_at t place).status) next
                is refl)),
            record {
              held = watched-hold n k o pid first before front (status-watched k pid t s reached place is w.1);
              control = (traced_at t place).control;
              has = has-control place within w.1;
              named = subst (Minds o (exchanges k before) t.traced) is knows;
            },
          )
      by (text place l at size is same) =
          let w =
          same-file file.Status mine _ _ file.Mem _
          (uses.memory-read k t s files fitting place l at size is) same in
          absurd (let clash : file.Mem ≡ file.Status = w.0 in cc)
      by (lwps is same) =
          let w = same-file file.Status mine _ _ file.Lstatus _ (uses.lwps-read k t s files fitting is) same in
          absurd (let clash : file.Lstatus ≡ file.Status = w.0 in cc)

  -- ---- the lwps

  was-interrupted : t.stage ≡ ReadingLwps → WasInterrupted k before
  was-interrupted is =
      let f = front in
      let on : t.leaving ≡ true =
      subst (Knows o (exchanges k before) t.leaving t.traced) is (known o (exchanges k before) f.makes) in
      let m = run-recalls n k o first before f in
      let i : HasInterrupt (exchanges k before) = m.leaving on in
      record { before = i.before; call = i.call; later = i.later; is = i.is }

  lwps-look : HasFile k pid file.Lstatus handle s → IsWhole from len × MayLookAtLwps k o pid first before
  unfolding call_of opening_call
  lwps-look mine = by (next-reads t handle from len next)
    where
      by : ReadsBy t handle t.stage → IsWhole from len × MayLookAtLwps k o pid first before
      by (look place is same) =
          let w =
          same-file file.Lstatus mine _ _ file.Lstatus _
          (uses.opening-read k t s files fitting place is) same in
          let f : Fits t.traced (Opening place opening.ReadLwps) = subst (Fits t.traced) is fitting in
          let waited : WasWaitedFor (traced_at t place).control (exchanges k before) =
          subst (Minds o (exchanges k before) t.traced) is knows in (
            whole _
                (sym
                (stage-called t x (Opening place opening.ReadLwps) (read_record (traced_at t place).lstatus) next
                is refl)),
            in_opening (traced_at t place).control waited.until (has-control place f.0 w.1) waited.waited,
          )
      by (status place is same) =
          let w = same-file file.Lstatus mine _ _ file.Status _ (uses.status-read k t s files fitting place is) same in
          absurd (let clash : file.Status ≡ file.Lstatus = w.0 in cc)
      by (text place l at size is same) =
          let w =
          same-file file.Lstatus mine _ _ file.Mem _
          (uses.memory-read k t s files fitting place l at size is) same in
          absurd (let clash : file.Mem ≡ file.Lstatus = w.0 in cc)
      by (lwps is same) =
          let w = same-file file.Lstatus mine _ _ file.Lstatus _ (uses.lwps-read k t s files fitting is) same in
          let within : 0 < length t.traced = subst (Fits t.traced) is fitting in (
            whole _ (sym (stage-called t x ReadingLwps (read_record (traced_at t 0).lstatus) next is refl)),
            leaving (traced_at t 0).control (has-control 0 within w.1)
                (watched-hold n k o pid first before front (lwps-watched k pid t s reached is w.1)) (was-interrupted is)
                (subst (Minds o (exchanges k before) t.traced) is knows),
          )

pub looks-in-place : (n k : ℕ) (o : Options) (first : TracedState) (h : List Entry) → IsTrussRun n k o first h
    → LooksInPlace k o first h
looks-in-place n k o first h run = record {
  statuses = λ before later e pid handle from len r is own mine.
      status-look n k o first before later e (subst (IsTrussRun n k o first) is run) pid handle from len r own mine;
  lwps = λ before later e pid handle from len r is own mine.
      lwps-look n k o first before later e (subst (IsTrussRun n k o first) is run) pid handle from len r own mine;
}
