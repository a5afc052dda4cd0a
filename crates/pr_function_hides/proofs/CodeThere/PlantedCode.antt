use Rattle.std.proofs.Common.{◌≡◌, ◌<◌, ◌^◌, ◌++◌, ℕ, true, false, cond, Some, None, Ok, List, [], ◌∷◌, length, refl, sym, ap, ◌∙◌, arith, inl, inr}
use Rattle.std.specs.List.{slice_get}
use Rattle.pr_api.specs.Entries.{call_entry}
use Rattle.pr_function_hides.proofs.Files.CallFacts.{shape-of}
use Rattle.pr_function_hides.proofs.CodeThere.CodeWalk.{CodeAt, kept-there}
use Rattle.pr_function_hides.proofs.Tidy.OwnCalls.{taken}
use Rattle.pr_function_hides.proofs.Replies.OwnFiles.{HasItsFiles}
use Rattle.pr_function_hides.proofs.Tidy.OwnWrites.{breakpoint-size, write-is, write-read}
use Rattle.pr_function_hides.proofs.Tidy.TidyCalls as Calls
use Rattle.pr_function_hides.proofs.Tidy.TidyEntries.{lived}
use Rattle.pr_function_hides.proofs.Tidy.TidyKept.{Kept, Lives, Truss}
use Rattle.pr_function_hides.proofs.CodeThere.TurnCode.{HoldsCode}
use Rattle.pr_function_hides.proofs.CodeThere.WrittenCode as Written
use Rattle.pr_function_hides.proofs.CodeThere.WrittenCode.{Writes, refuses, stores, with-own}
use Rattle.pr_function_hides.specs.FunctionHiders.{ArePatchable, IsPatchable, patch_of}
use Rattle.pr_function_hides.specs.RunsOfTrusses.{IsRunOfTrusses}
use Rattle.pr_function_laws.proofs.Stepping.BreakpointLemmas.{IsOwnEntry}
use Rattle.pr_hidden.specs.Covers.{Covers}
use Rattle.pr_hidden.specs.Hiders.{Hiders, covers_at, covers_called, function_written, hides, patch_at, with_patch, without_patch}
use Rattle.pr_line.specs.declared.functions.Function.{Function}
use Rattle.pr_line.specs.declared.options.Options.{Options}
use Rattle.pr_model.specs.Calls.{answer_to}
use Rattle.pr_model.specs.Legal.{state_after}
use Rattle.pr_model.specs.State.{TracedProcess, TracedState, live_process}
use Rattle.pr_model.specs.declared.calls.Call.{Call}
use Rattle.pr_model.specs.declared.calls.Call.TheVariants as call
use Rattle.pr_model.specs.declared.calls.File.TheVariants as file
use Rattle.pr_model.specs.declared.calls.Mode.TheVariants.{WriteExcl}
use Rattle.pr_model.specs.declared.calls.Reply.{Reply}
use Rattle.pr_model.specs.declared.events.Entry.{Entry}
use Rattle.pr_model.specs.declared.handles.Held.{Held}
use Rattle.pr_num.proofs.SearchLemmas.{All-at}
use Rattle.pr_num.specs.Messages.{first_message, spelling}
use Rattle.pr_num.specs.declared.instructions.Instruction.TheVariants.{Bpt}
use Rattle.pr_num.specs.declared.messages.Message.TheVariants as message
use Rattle.pr_reached.proofs.StatesInRange.MemoryRanges.{instruction-bytes}
use Rattle.pr_truss.specs.FunctionCalls.{call_beside}
use Rattle.pr_truss.specs.Marks.{breakpoint}
use Rattle.pr_truss.specs.Replies.{answer_of}
use Rattle.pr_truss.specs.Trusses.{TrussState, traced_at}
use Rattle.pr_truss.specs.declared.asides.Aside.TheVariants.{Planting}
use Rattle.pr_truss.specs.declared.replies.Answer.TheVariants.{Accepted}
use Rattle.pr_world.specs.ControllerStates.{ControllerState}

-- Where a breakpoint was planted it stands, so that nothing is asked of the code there.

module _ {n : ℕ} {who : Hiders} {controllers : List ControllerState} {first : TracedState}
    {h : List Entry} (run : IsRunOfTrusses n who controllers first h)
    (front back : List Entry) (j : ℕ) (c : Call) (r : Reply) (place : h ≡ front ++ call_entry j c r ∷ back)
    (hider : hides who j ≡ true) where
  abbrev at : List Entry → Covers
  at front = covers_at who first front

  abbrev now : List Entry → TracedState
  now front = state_after first front

  none : (k : ℕ) → who.probes k ≡ false
  none = run.are.no_probes

  abbrev e : Entry
  e = call_entry j c r

  abbrev later_front : List Entry
  later_front = front ++ e ∷ []

  abbrev v : TracedState
  v = now front

  abbrev kept : Kept who controllers first h front
  kept = kept-there run front (e ∷ back) place

  abbrev truss : Truss who controllers first h front j
  truss = Calls.truss-now run front back j c r place kept hider

  abbrev t : TrussState
  t = Calls.tr run front back j c r place kept hider

  abbrev o : Options
  o = t.options

  abbrev fits : ArePatchable o
  fits = Calls.fits run front back j c r place kept hider

  abbrev files : HasItsFiles j t v
  files = Calls.files-now run front back j c r place kept hider

  abbrev own : IsOwnEntry j v e (record { call = c; reply = r })
  own = Calls.own run front back j c r place kept hider

  module _ (q : ℕ) (within : q < length t.traced) (i : ℕ) (f : Function) (named : slice_get o.functions i ≡ Some f)
      (planting : t.aside ≡ Planting q i) (called : call_beside t t.stage t.aside ≡ Some c) where
    abbrev pid : ℕ
    pid = (traced_at t q).pid

    abbrev its : Held
    its = record { controller = j; pid = pid; lwp = 0; file = file.Ctl; mode = WriteExcl }

    patchable : IsPatchable f
    patchable = All-at IsPatchable o.functions i f named fits.each

    abbrev bytes : List ℕ
    bytes = spelling (message.Write f.at 16) breakpoint

    low : f.at < 2 ^ 64
    low = let w = patchable.within in omega (arith, w)

    read-so : first_message bytes ≡ Ok (message.Write f.at 16, length bytes)
    read-so = write-read f.at breakpoint low breakpoint-size (instruction-bytes Bpt)

    call-is : c ≡ call.Ctl (traced_at t q).control bytes
    unfolding call_beside
    call-is =
        write-is o c (traced_at t q).control i f breakpoint breakpoint named refl
        (sym (ap (call_beside t t.stage) planting) ∙ called)

    given : answer_to v j (call.Ctl (traced_at t q).control bytes) ≡ Some own.answer
    given = Calls.given run front back j c r place kept hider _ call-is

    pub plants-code : answer_of r ≡ Accepted → CodeAt run later_front pid (patch_of f)
    plants-code accepted = record {
      holds = λ s later bare.
          let was = lived run front e back place kept j hider q within (s, later) in
          by s bare was.0 was.1
          (Written.writes v j (traced_at t q).control its (files.control q within) refl bytes f.at 16 (length bytes)
          read-so own.answer given was.0 was.1);
    }
      where
        by : (s : TracedProcess) → patch_at f.at (at later_front pid).patches ≡ None → (p : TracedProcess)
            → (live : live_process v.system pid ≡ Some p)
            → Writes v j (traced_at t q).control its (files.control q within) refl bytes f.at 16 (length bytes) read-so
            own.answer given p live
            → HoldsCode (patch_of f) s
        by s bare p live (refuses never stays_so) =
            elim (shape-of v j (traced_at t q).control its (files.control q within) refl bytes f.at 16 (length bytes)
            read-so own.answer given) [
              | inl used ↦ absurd (never used.0 used.1)
              | inr refused ↦ absurd (refused.0 (ap answer_of own.replied ∙ accepted))
            ]
        by s bare p live (stores used got lent there) =
            let covers : (covers_called who (at front) v j c r pid).patches
            ≡ function_written (Some (patch_of f)) breakpoint (at front pid).patches =
            taken who none j (at front) v c r t fits (Calls.these run front back j c r place kept hider) files
            (Calls.below run front back j c r place kept hider) (Lives (now later_front))
            (λ x w lives. lived run front e back place kept j hider x w lives)
            (λ x w lives. let tr = truss in tr.stand x w (lived run front e back place kept j hider x w lives))
            q within i f named breakpoint breakpoint-size (instruction-bytes Bpt) call-is used (sym own.replied ∙ got)
            p live in
            absurd (with-own (patch_of f) (at front pid).patches
            (sym (ap (λ b. patch_at f.at (cond b (without_patch f.at (at front pid).patches)
            (with_patch (patch_of f) (at front pid).patches))) patchable.other)
            ∙ sym (ap (λ (cs : Covers). patch_at f.at (cs pid).patches)
            (Calls.called-is run front back j c r place kept) ∙ ap (patch_at f.at) covers) ∙ bare))
