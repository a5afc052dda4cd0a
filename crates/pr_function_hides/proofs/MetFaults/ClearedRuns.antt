use Rattle.std.proofs.Common.{◌≡◌, ◌≢◌, ◌<◌, ◌++◌, ◌⊎◌, ℕ, true, false, cond, Some, Result, Ok, List, ◌∷◌, length, refl}
use Rattle.std.proofs.Common.{sym, subst, ap, ◌∙◌, inl, inr}
use Rattle.std.proofs.lemmas.Bool.{eq-eqb, false≢true}
use Rattle.std.proofs.lemmas.Option.{none-some, same_Some}
use Rattle.pr_api.specs.Entries.{call_entry}
use Rattle.pr_function_hides.proofs.GoingOn.CalmCalls as Calm
use Rattle.pr_function_hides.proofs.Tidy.CopyFree.{run-options}
use Rattle.pr_function_hides.proofs.Copying.CopyActs.{run-read}
use Rattle.pr_function_hides.proofs.Copying.CopyPlaces.{CopiesSo}
use Rattle.pr_function_hides.proofs.MetFaults.MetCounts.{MetOwn}
use Rattle.pr_function_hides.proofs.MetFaults.MetWalk.{counts-at}
use Rattle.pr_function_hides.proofs.Replies.OwnFiles.{HoldsItsFiles, IsWithin}
use Rattle.pr_function_hides.proofs.MetFaults.RunUnmet.{few-leads}
use Rattle.pr_function_hides.proofs.GoingOn.SentMessages.{Admits, Clears, Sends, aside-sends, opening-sends}
use Rattle.pr_function_hides.proofs.Tidy.TidyCalls as Calls
use Rattle.pr_function_hides.proofs.Tidy.TidyKept.{Kept}
use Rattle.pr_function_hides.specs.RunsOfTrusses.{IsRunOfTrusses}
use Rattle.pr_function_hides.specs.TidyWrites.{IsTrussAfter}
use Rattle.pr_function_hides.specs.Treating.{is_run_soon}
use Rattle.pr_function_laws.proofs.OpenedProcesses.OpenedLaws.{Goes, goes-opened, goes-runs, goes-still}
use Rattle.pr_function_laws.specs.OneEvent.{HasOneEventAtMost, is_looked_at}
use Rattle.pr_function_laws.specs.Opened.{is_opened}
use Rattle.pr_hidden.specs.Covers.{Cover, Covers}
use Rattle.pr_hidden.specs.Hiders.{Hiders, covers_at, hides}
use Rattle.pr_hidden.specs.Tidiness.{ClearsOwn, is_step_flags}
use Rattle.pr_lawful.proofs.Following.UseLemmas.{live-lawful}
use Rattle.pr_model.specs.ControlMessages.{aim_of, target_of}
use Rattle.pr_model.specs.Handles.{handle_of}
use Rattle.pr_model.specs.Lawful.{IsLawful}
use Rattle.pr_model.specs.Legal.{state_after}
use Rattle.pr_model.specs.Messages.{Aim, aimed_lwp, at_process}
use Rattle.pr_model.specs.State.{TracedLwp, TracedProcess, TracedState, TracedSystem, has_agent, live_process, lwp_of}
use Rattle.pr_model.specs.Stops.{representative}
use Rattle.pr_model.specs.declared.calls.Call.{Call}
use Rattle.pr_model.specs.declared.calls.Call.TheVariants as call
use Rattle.pr_model.specs.declared.calls.File.TheVariants as file
use Rattle.pr_model.specs.declared.calls.Mode.TheVariants.{WriteExcl}
use Rattle.pr_model.specs.declared.calls.Reply.{Reply}
use Rattle.pr_model.specs.declared.events.Entry.{Entry}
use Rattle.pr_model.specs.declared.handles.Held.{Held}
use Rattle.pr_num.specs.ById.{IsRising}
use Rattle.pr_num.specs.Messages.{first_message}
use Rattle.pr_num.specs.declared.messages.Message.{Message}
use Rattle.pr_num.specs.declared.messages.Message.TheVariants as message
use Rattle.pr_num.specs.declared.messages.MsgFault.{MsgFault}
use Rattle.pr_report_laws.specs.AtBirth.{has_met}
use Rattle.pr_truss.specs.Asides.{marks_at}
use Rattle.pr_truss.specs.FunctionCalls.{call_beside, function_call_of, next_function_call_of}
use Rattle.pr_truss.specs.Marks.{has_functions}
use Rattle.pr_truss.specs.Messages.{message_call}
use Rattle.pr_truss.specs.NextCalls.{call_of, next_call_of}
use Rattle.pr_truss.specs.Trusses.{TrussState, traced_at}
use Rattle.pr_truss.specs.declared.asides.Aside.{Aside}
use Rattle.pr_truss.specs.declared.asides.Aside.TheVariants.{Nothing, Patching}
use Rattle.pr_truss.specs.declared.stages.AfterClosing.TheVariants.{GoOn, OpenNext}
use Rattle.pr_truss.specs.declared.stages.Stage.{Stage}
use Rattle.pr_truss.specs.declared.stages.Stage.TheVariants.{Closing, Finished, Opening, OpeningControl, Polling}
use Rattle.pr_truss.specs.declared.stages.Stage.TheVariants.{ReadingStatus, ReadingText, Running, Spawning}
use Rattle.pr_truss_laws.proofs.Machine.TakenLemmas.{process-aim, target-live}
use Rattle.pr_truss_laws.specs.Stills.{IsFrozen}
use Rattle.pr_world.specs.ControllerStates.{ControllerState}

-- PCRUN by which a truss clears a fault, or steps an lwp, finds no fault but one of those who hide: it is aimed at the
-- lwp that met the event of which truss has read.

-- a message that clears no fault and steps none
abbrev pub IsNone : Message → Type 0
IsNone (message.Run flags) = is_step_flags flags ≡ false
IsNone m = Unit {0}

pub admits-none : Admits IsNone
admits-none = record {
  stop = tt;
  strace = λ set. tt;
  sfault = λ set. tt;
  sentry = λ set. tt;
  sexit = λ set. tt;
  follow = tt;
  release = tt;
  unset = λ modes. tt;
  read = λ at size. tt;
  write = λ at. tt;
}

-- where an lwp that met an event leads, and counts so if it is at a fault
pub lead-own : (c : Cover) (s : TracedSystem) (pid : ℕ) (p : TracedProcess) (aim : Aim) → aim ≡ at_process
    → (w : MetOwn c p) → representative p ≡ Some (w.id, w.lwp) → ClearsOwn c s pid p aim
unfolding aimed_lwp
lead-own c s pid p aim is w leads = record {
  own = λ e aimed f address at.
      let same : (w.id, w.lwp) ≡ e =
      same_Some (w.id, w.lwp) e (sym leads ∙ sym (ap (aimed_lwp s pid p) is) ∙ aimed) in
      subst (λ i. c.faulted i ≡ true) (ap (λ (x : ℕ × TracedLwp). x.0) same)
      (w.own f address (ap (λ (x : ℕ × TracedLwp). x.1.phase) same ∙ at));
}

module _ {n : ℕ} {who : Hiders} {controllers : List ControllerState} {first : TracedState}
    {h : List Entry} (run : IsRunOfTrusses n who controllers first h) where
  abbrev here : List Entry → TracedState
  here front = state_after first front

  abbrev covers : List Entry → Covers
  covers front = covers_at who first front

  abbrev After : List Entry → ℕ → TrussState → Type 0
  After front k t = IsTrussAfter who controllers first h front k t

  -- ---- the message that clears a fault, or steps an lwp

  module _ (front back : List Entry) (k handle : ℕ) (bytes : List ℕ) (r : Reply)
      (place : h ≡ front ++ call_entry k (call.Ctl handle bytes) r ∷ back) (hider : hides who k ≡ true)
      (off : (Calm.tr run front back k (call.Ctl handle bytes) r place hider).leaving ≡ false) where
    abbrev c : Call
    c = call.Ctl handle bytes

    abbrev v : TracedState
    v = here front

    abbrev kept-now : Kept who controllers first h front
    kept-now = Calm.kept-now run front back k c r place

    abbrev tr : TrussState
    tr = Calm.tr run front back k c r place hider

    has : has_functions tr.options ≡ true
    has = Calm.has run front back k c r place hider

    holds-own : HoldsItsFiles k tr v
    holds-own = Calm.holds run front (call_entry k c r) back place k hider off

    copies : CopiesSo tr v.system
    copies = Calm.copies run front (call_entry k c r) back place k hider off

    is-now : After front k tr
    is-now = Calm.is-now run front back k c r place hider

    goes : Goes (Unit {0}) k (run-options run k hider) tr v
    goes = Calm.goes run front (call_entry k c r) back place k hider off

    lawful : IsLawful v
    lawful = Calm.lawful run front back k c r place hider

    beside-is : call_beside tr tr.stage tr.aside ≡ Some c
    unfolding next_function_call_of
    beside-is =
        sym (ap (λ b. cond b (call_beside tr tr.stage tr.aside) (next_call_of tr)) has)
        ∙ Calm.next run front back k c r place hider

    ctl-same : {a b : ℕ} {xs ys : List ℕ} → call.Ctl a xs ≡ call.Ctl b ys → (a ≡ b) × (xs ≡ ys)
    ctl-same is = (cc, cc)

    -- it begins with such a message
    module _ (flags len : ℕ) (read : first_message bytes ≡ Ok (message.Run flags, len))
        (steps : is_step_flags flags ≡ true) (held : Held) (there : handle_of v.opens k handle ≡ Some held)
        (p : TracedProcess) (target : target_of v.system held ≡ Some p) where
      abbrev Own : Type 0
      Own = ClearsOwn (covers front held.pid) v.system held.pid p (aim_of held)

      -- it runs the process at a place
      module _ (q : ℕ) (within : q < length tr.traced) (runs : tr.stage ≡ Running q)
          (is : c ≡ message_call (traced_at tr q).control (message.Run (marks_at tr q).flags)) where
        held-is : record { controller = k; pid = (traced_at tr q).pid; lwp = 0; file = file.Ctl; mode = WriteExcl }
            ≡ held
        held-is =
            let f = holds-own in
            same_Some _ held
            (sym (f.control q within) ∙ ap (handle_of v.opens k) (sym (ctl-same is).0) ∙ there)

        control : held.file ≡ file.Ctl
        control = ap (λ (x : Held). x.file) (sym held-is)

        pid-is : (traced_at tr q).pid ≡ held.pid
        pid-is = ap (λ (x : Held). x.pid) held-is

        live : live_process v.system (traced_at tr q).pid ≡ Some p
        live =
            ap (live_process v.system) pid-is ∙ sym (target-live v k handle held there control) ∙ target

        same-flags : flags ≡ (marks_at tr q).flags
        same-flags =
            let clean = copies.clean q within in
            run-same
            (ap (λ (x : Message × ℕ). x.0)
            (ok-same
            (sym read ∙ ap first_message (ctl-same is).1 ∙ run-read (marks_at tr q).flags clean.flags)))
          where
            ok-same : {x y : Message × ℕ} → (let r : Result (Message × ℕ) MsgFault = Ok x in r) ≡ Ok y → x ≡ y
            ok-same e = cc

            run-same : {a b : ℕ} → message.Run a ≡ message.Run b → a ≡ b
            run-same e = cc

        looked : is_looked_at tr.stage q ≡ true
        looked = ap (λ st. is_looked_at st q) runs ∙ eq-eqb q q refl

        own : MetOwn (covers front (traced_at tr q).pid) p
        own =
            let all = counts-at run front (call_entry k c r ∷ back) place in
            all.soon k hider tr is-now off q within (ap (λ st. is_run_soon st q) runs ∙ eq-eqb q q refl) p live
            (ap is_step_flags (sym same-flags) ∙ steps)

        leads : (let w = own in representative p ≡ Some (w.id, w.lwp))
        leads =
            let w = own in
            let l = live-lawful v.system (traced_at tr q).pid p lawful.system live in
            let owns = goes-opened (Unit {0}) k _ tr v goes q within (ap (λ st. is_opened st q) runs) in
            let frozen = goes-still (Unit {0}) k _ tr v goes tt q p live looked in
            by l.rising (owns.no_agent p live) frozen (goes-runs (Unit {0}) k _ tr v goes q within tt runs p live) w.id
            w.lwp w.there w.met
          where
            by : (rises : IsRising p.lwps) (no_agent : has_agent p ≡ false) (frozen : IsFrozen p)
                → HasOneEventAtMost p ⊎ ((marks_at tr q).flags ≡ 0) → (id : ℕ) (l : TracedLwp)
                → lwp_of p id ≡ Some l → has_met l ≡ true → representative p ≡ Some (id, l)
            by rises no_agent frozen (inl few) id l at met_it = few-leads p rises no_agent frozen few id l at met_it
            by rises no_agent frozen (inr none) id l at met_it =
                absurd (false≢true (ap is_step_flags (sym (same-flags ∙ none)) ∙ steps))

        pub run-own : Own
        run-own =
            subst (λ i. ClearsOwn (covers front i) v.system held.pid p (aim_of held)) pid-is
            (lead-own (covers front (traced_at tr q).pid) v.system held.pid p (aim_of held)
            (process-aim held control) own leads)

      -- any other call begins with another message
      never-sends : {A : Type 0} → Sends IsNone c → A
      never-sends sends = absurd (false≢true (sym (sends (message.Run flags) len read) ∙ steps))

      never-calls : {A : Type 0} (d : Call) → Some d ≡ Some c → ((number : ℕ) (xs : List ℕ) → d ≢ call.Ctl number xs)
          → A
      never-calls d same other = absurd (other handle bytes (same_Some d c same))

      stage-own : (stage : Stage) → tr.stage ≡ stage → IsWithin (length tr.traced) stage
          → function_call_of tr stage ≡ Some c → Own
      unfolding function_call_of call_of
      stage-own (Running q) at w is = run-own q w at (same_Some c _ (sym is))
      stage-own (Opening q step) at w is =
          never-sends
          (opening-sends IsNone admits-none tr (Calls.fits run front back k c r place kept-now hider) c refl q step is)
      stage-own (Spawning program) at w is = never-calls _ is (λ m xs same. cc)
      stage-own (OpeningControl pid) at w is = never-calls _ is (λ m xs same. cc)
      stage-own Polling at w is = never-calls _ is (λ m xs same. cc)
      stage-own (ReadingStatus q) at w is = never-calls _ is (λ m xs same. cc)
      stage-own (ReadingText q l from len_read) at w is = never-calls _ is (λ m xs same. cc)
      stage-own (Closing q OpenNext) at w is = never-calls _ is (λ m xs same. cc)
      stage-own (Closing q GoOn) at w is = never-calls _ is (λ m xs same. cc)
      stage-own Finished at w is = absurd (none-some c is)
      stage-own _ at w is = absurd w

      busy-own : tr.aside ≢ Nothing → Own
      busy-own busy =
          let f = holds-own in
          never-sends
          (aside-sends IsNone admits-none tr (Calls.fits run front back k c r place kept-now hider) c tr.aside f.beside
          (Calls.below run front back k c r place kept-now hider) busy (clears tr.aside) beside-is)
        where
          clears : (aside : Aside)
              → Clears IsNone admits-none tr (Calls.fits run front back k c r place kept-now hider) c aside
          clears (Patching at plants lifts clear) = λ one two. tt
          clears _ = tt

      pub message-own : Own
      unfolding call_beside
      message-own = by tr.aside refl
        where
          by : (aside : Aside) → tr.aside ≡ aside → Own
          by Nothing idle =
              let f = holds-own in
              stage-own tr.stage refl f.stage (sym (ap (call_beside tr tr.stage) idle) ∙ beside-is)
          by _ idle = busy-own (λ nothing. cc)
