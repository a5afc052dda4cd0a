use Rattle.std.proofs.Common.{◌≡◌, ◌<◌, ◌++◌, ℕ, true, false, Option, None, Some, List, ◌∷◌, length, sym, subst, ap, refl, ◌∙◌, arith}
use Rattle.std.proofs.lemmas.Bool.{false≢true}
use Rattle.std.proofs.lemmas.Option.{none-some, same_Some}
use Rattle.std.specs.List.{slice_get}
use Rattle.pr_line.specs.declared.options.Options.{Options}
use Rattle.pr_model.specs.Legal.{state_after}
use Rattle.pr_model.specs.State.{TracedState}
use Rattle.pr_model.specs.declared.calls.Call.{Call}
use Rattle.pr_model.specs.declared.calls.Call.TheVariants.{Ctl as Sends}
use Rattle.pr_model.specs.declared.calls.File.TheVariants.{Ctl}
use Rattle.pr_model.specs.declared.calls.Mode.TheVariants.{WriteExcl}
use Rattle.pr_model.specs.declared.events.Entry.{Entry}
use Rattle.pr_num.specs.Control.{fork_mode, rlc_mode}
use Rattle.pr_num.specs.Messages.{message_code, operands}
use Rattle.pr_num.specs.Words.{word_bytes}
use Rattle.pr_num.specs.declared.messages.Message.TheVariants as message
use Rattle.pr_num.specs.declared.messages.Message.TheVariants.{Unset}
use Rattle.pr_truss.specs.Messages.{all_modes, message_call, traced_entries, traced_exits, traced_faults, traced_signals}
use Rattle.pr_truss.specs.NextCalls.{call_of, child_call, freeing_call, next_call_of, opening_call}
use Rattle.pr_truss.specs.Trusses.{TrussState, traced_at}
use Rattle.pr_truss.specs.declared.processes.Traced.{Traced}
use Rattle.pr_truss.specs.declared.stages.ChildStep.{ChildStep}
use Rattle.pr_truss.specs.declared.stages.ChildStep.TheVariants as child
use Rattle.pr_truss.specs.declared.stages.FreeingStep.{FreeingStep}
use Rattle.pr_truss.specs.declared.stages.FreeingStep.TheVariants as freeing
use Rattle.pr_truss.specs.declared.stages.OpeningStep.{OpeningStep}
use Rattle.pr_truss.specs.declared.stages.OpeningStep.TheVariants as opening
use Rattle.pr_truss.specs.declared.stages.Stage.{Stage}
use Rattle.pr_truss.specs.declared.stages.Stage.TheVariants.{Opening, OpeningChild, Running, Unfollowing, FreeingChild, Finished}
use Rattle.pr_truss_laws.proofs.Files.HeldLemmas.{Fits}
use Rattle.pr_truss_laws.proofs.Files.OwnLemmas.{Owns}
use Rattle.pr_truss_laws.specs.Exchanges.{Exchange, exchanges, truss_at}
use Rattle.pr_truss_laws.specs.Runs.{IsTrussRun}
use Rattle.pr_truss_laws.specs.Sent.{sends}
use Rattle.pr_report_laws.proofs.Asking.NamedRuns.{codes-apart}
use Rattle.pr_report_laws.proofs.Files.FileLaws.{HasFiles}
use Rattle.pr_report_laws.proofs.Files.FileSteps.{MakesNext, makes-next}
use Rattle.pr_report_laws.proofs.Files.FileUses.{standing}
use Rattle.pr_report_laws.proofs.Files.WatchHistories.{Reaches, run-reaches}
use Rattle.pr_report_laws.proofs.Holding.HoldPlaces.{watched-hold}
use Rattle.pr_report_laws.proofs.Invariant.OtherSteps.{is-watched}
use Rattle.pr_report_laws.proofs.Invariant.StandLemmas.{IsAttached, Stands}
use Rattle.pr_report_laws.proofs.Memory.WatchMemory.{HasInterrupt, run-recalls}
use Rattle.pr_report_laws.proofs.OwnFiles.OpenPlaces.{AtChild, Knows, known}
use Rattle.pr_report_laws.proofs.ToldForks.ToldReads.{file-has}
use Rattle.pr_report_laws.proofs.Watching.HistoryParts.{front-run, rest-makes}
use Rattle.pr_report_laws.specs.LaterSends.{MaySend, SendsLittleLater, as_given, releases, runs, unfollows}
use Rattle.pr_report_laws.specs.Watching.{is_away, watches}

-- What truss sends once it has polled, or was interrupted.

-- ---- what an opening sends

-- the first byte of the modes that a message names
abbrev modes_byte : Call → Option ℕ
modes_byte (Sends handle bytes) = slice_get bytes 8
modes_byte _ = None

-- No step of an opening says that the children of the process are followed no more.
module _ (o : Options) (t : Traced) (control : ℕ) where
  abbrev Unfollows : Call → Type 0
  Unfollows c = c ≡ message_call control (Unset fork_mode)

  all-apart : Unfollows (message_call t.control (Unset all_modes)) → ⊥
  unfolding message_code operands word_bytes
  all-apart is =
      let modes : all_modes ≡ fork_mode = same_Some all_modes fork_mode (ap modes_byte is) in
      absurd (omega (arith, modes))

  opening-apart : (now : OpeningStep) → Unfollows (opening_call o t now) → ⊥
  unfolding opening_call message_code
  opening-apart opening.OpenStatus is = cc
  opening-apart opening.OpenLstatus is = cc
  opening-apart opening.OpenMemory is = cc
  opening-apart opening.ClearModes is = all-apart is
  opening-apart opening.SetRelease is =
      codes-apart t.control control (message.Set rlc_mode) (Unset fork_mode) refl is
  opening-apart opening.Stop is = codes-apart t.control control message.Stop (Unset fork_mode) refl is
  opening-apart (opening.AwaitStop until) is = cc
  opening-apart opening.ReadLwps is = cc
  opening-apart opening.TraceSignals is =
      codes-apart t.control control (message.Strace (traced_signals o)) (Unset fork_mode) refl is
  opening-apart opening.TraceFaults is =
      codes-apart t.control control (message.Sfault (traced_faults o)) (Unset fork_mode) refl is
  opening-apart opening.TraceEntries is =
      codes-apart t.control control (message.Sentry (traced_entries o)) (Unset fork_mode) refl is
  opening-apart opening.TraceExits is =
      codes-apart t.control control (message.Sexit (traced_exits o)) (Unset fork_mode) refl is
  opening-apart opening.Follow is =
      codes-apart t.control control (message.Set fork_mode) (Unset fork_mode) refl is
  opening-apart opening.Start is = codes-apart t.control control (message.Run 0) (Unset fork_mode) refl is

-- ---- what a stage sends

module _ (k : ℕ) (o : Options) (first : TracedState) (h : List Entry) (s : TrussState) (c : Call)
    (sent : sends c ≡ true)
    (leaves : s.stage ≡ Unfollowing → s.leaving ≡ true
    → MaySend k o first h (message_call (traced_at s 0).control (Unset fork_mode))) where
  abbrev xs : List Exchange
  xs = exchanges k h

  -- another call sends nothing
  silent : (d : Call) → d ≡ c → sends d ≡ false → MaySend k o first h c
  silent d is none = absurd (false≢true (sym none ∙ ap sends is ∙ sent))

  same-call : (d : Call) → d ≡ c → MaySend k o first h d → MaySend k o first h c
  same-call d is may = subst (MaySend k o first h) is may

  child-sends : (t : Traced) (now : ChildStep) → AtChild t.pid t.control xs now → child_call t now ≡ c
      → MaySend k o first h c
  unfolding child_call
  child-sends t child.SetRelease w is = same-call _ is (releases w)
  child-sends t child.Start w is = same-call _ is runs
  child-sends t child.OpenStatus w is = silent _ is refl
  child-sends t child.OpenLstatus w is = silent _ is refl
  child-sends t child.OpenMemory w is = silent _ is refl

  freeing-sends : (pid : ℕ) (now : FreeingStep) → Knows o xs s.leaving s.traced (FreeingChild pid now)
      → freeing_call pid now ≡ c → MaySend k o first h c
  unfolding freeing_call
  freeing-sends pid (freeing.SetRelease control) w is = same-call _ is (releases w)
  freeing-sends pid freeing.OpenControl w is = silent _ is refl
  freeing-sends pid (freeing.Close control) w is = silent _ is refl

  stage-sends : (stage : Stage) → s.stage ≡ stage → Knows o xs s.leaving s.traced stage → call_of s stage ≡ Some c
      → MaySend k o first h c
  unfolding call_of
  stage-sends (Opening place now) at w is =
      as_given w.0
      (λ control same. opening-apart s.options (traced_at s place) control now (same_Some _ c is ∙ same))
  stage-sends (OpeningChild parent place now) at w is = child-sends (traced_at s place) now w (same_Some _ c is)
  stage-sends (Running place) at w is = same-call _ (same_Some _ c is) runs
  stage-sends Unfollowing at w is = same-call _ (same_Some _ c is) (leaves at w)
  stage-sends (FreeingChild pid now) at w is = freeing-sends pid now w (same_Some _ c is)
  stage-sends Finished at w is = absurd (none-some c is)
  stage-sends _ at w is = silent _ (same_Some _ c is) refl

-- where truss leaves a process it has hold of it, and was interrupted
module _ (n k : ℕ) (o : Options) (first : TracedState) (h : List Entry) (run : IsTrussRun n k o first h)
    (at : let t = truss_at k o h in t.stage ≡ Unfollowing) where
  abbrev t : TrussState
  t = truss_at k o h

  abbrev s : TracedState
  s = state_after first h

  leaving-sends : t.leaving ≡ true → MaySend k o first h (message_call (traced_at t 0).control (Unset fork_mode))
  leaving-sends on =
      let i : HasInterrupt (exchanges k h) = (run-recalls n k o first h run).leaving on in
      let g : Reaches k t s = run-reaches n k o first h run in
      let files : HasFiles k t s = g.files in
      let owns : Owns k t s = g.owns in
      let within : 0 < length t.traced = subst (Fits t.traced) at owns.fits in
      let w : Stands t.traced t.leaving Unfollowing = standing k t s Unfollowing files at in
      let attached : IsAttached (traced_at t 0) = w.at in
      let pid : ℕ = (traced_at t 0).pid in
      let watched : watches t pid ≡ true =
      is-watched t pid 0 (files.one 0 within) attached.attached (ap (λ x. is_away t.leaving x 0) at) in
      unfollows (record { before = i.before; call = i.call; later = i.later; is = i.is })
      (file-has k pid Ctl WriteExcl (traced_at t 0).control s (files.control 0 within))
      (watched-hold n k o pid first h run watched)

pub sends-later : (n k : ℕ) (o : Options) (first : TracedState) (h : List Entry) → IsTrussRun n k o first h
    → SendsLittleLater k o first h
unfolding next_call_of
sends-later n k o first h run = record {
  each = λ before later e x is own sent.
      let all : IsTrussRun n k o first (before ++ e ∷ later) = subst (IsTrussRun n k o first) is run in
      let front : IsTrussRun n k o first before = front-run n k o first before (e ∷ later) all in
      let t : TrussState = truss_at k o before in
      let m = makes-next k t e later (rest-makes n k o first before (e ∷ later) all) in
      let next : next_call_of t ≡ Some x.call = subst (MakesNext t) own m.0 in
      stage-sends k o first before t x.call sent
      (λ at on. leaving-sends n k o first before front at on)
      t.stage refl (known o (exchanges k before) front.makes) next;
}

pub ruleset sent_later = (sends-later)
