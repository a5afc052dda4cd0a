use Rattle.std.proofs.Common.{◌≡◌, ◌≢◌, ◌⊎◌, ◌<◌, ◌^◌, ◌++◌, ℕ, true, false, cond, IfOk, Option, Some, None, Result, Ok, List, [], ◌∷◌, All, length, refl, sym, subst, ap, ◌∙◌, arith, inl, inr}
use Rattle.std.proofs.lemmas.Bool.{and_parts, cases_eq, false≢true}
use Rattle.std.proofs.lemmas.Option.{none-some, same_Some}
use Rattle.std.specs.List.{slice_get}
use Rattle.std.specs.Prelude.{map}
use Rattle.pr_api.specs.Entries.{call_entry}
use Rattle.pr_function_hides.proofs.Tidy.CalledCovers.{IsAsPatched, call-still, close-apart, ctl-apart, ctl-still}
use Rattle.pr_function_hides.proofs.CodeThere.CodeWalk.{CodeAt, Counted, Known, Replaced, Shown, beside-code, kept-there, replaced-later}
use Rattle.pr_function_hides.proofs.Replies.CountedWalk.{AsideSo, BesideSo, MarksIn, StageSo, TrussSo, truss-later}
use Rattle.pr_function_hides.proofs.Memory.MarkedPatches.{same-patch}
use Rattle.pr_function_hides.proofs.Tidy.OwnCalls.{IsLast, last-is, not-taken, taken}
use Rattle.pr_function_hides.proofs.Replies.OwnFiles.{GoesOn, HasItsFiles, IsBeside, IsWithin}
use Rattle.pr_function_hides.proofs.Tidy.OwnTidy.{Kind, other, sends, writes}
use Rattle.pr_function_hides.proofs.Tidy.OwnWrites.{code-is, write-read, write-tail}
use Rattle.pr_function_hides.proofs.CodeThere.PlantedCode.{plants-code}
use Rattle.pr_function_hides.proofs.Replies.PlantedReplies.{LeftSo, So}
use Rattle.pr_function_hides.proofs.CodeThere.ReadCode.{read-shows}
use Rattle.pr_function_hides.proofs.Memory.SpaceEdits.{EntryRelates}
use Rattle.pr_function_hides.proofs.Tidy.StillMessages.{BeginStill, is_still}
use Rattle.pr_function_hides.proofs.Tidy.TidyCalls as Calls
use Rattle.pr_function_hides.proofs.Tidy.TidyEntries.{lived}
use Rattle.pr_function_hides.proofs.Tidy.TidyOwn.{went-on}
use Rattle.pr_function_hides.proofs.Tidy.TidyKept.{Kept, Lives, Truss}
use Rattle.pr_function_hides.proofs.CodeThere.TurnCode.{HoldsCode, holds-same}
use Rattle.pr_function_hides.proofs.CodeThere.TurnStands.{Stands}
use Rattle.pr_function_hides.proofs.CodeThere.WrittenCode as Written
use Rattle.pr_function_hides.proofs.CodeThere.WrittenCode.{Writes, refuses, stores, written-holds}
use Rattle.pr_function_hides.specs.FunctionHiders.{ArePatchable, IsPatchable, patch_of}
use Rattle.pr_function_hides.specs.RunsOfTrusses.{IsRunOfTrusses}
use Rattle.pr_function_laws.proofs.Stepping.BreakpointLemmas.{IsOwnEntry}
use Rattle.pr_function_laws.proofs.Marks.SoundLemmas.{AsideIsBelow}
use Rattle.pr_hidden.specs.Covers.{Cover, Covers, Patch}
use Rattle.pr_hidden.specs.Hiders.{Hiders, covers_at, covers_called, function_written, hides, is_ctl, patch_at}
use Rattle.pr_line.specs.declared.functions.Function.{Function}
use Rattle.pr_line.specs.declared.options.Options.{Options}
use Rattle.pr_model.proofs.StateLemmas.{live_process-found}
use Rattle.pr_model.specs.Calls.{answer_to}
use Rattle.pr_model.specs.Changes.{with_space}
use Rattle.pr_model.specs.ControlMessages.{tail_of}
use Rattle.pr_model.specs.Handles.{handle_of}
use Rattle.pr_model.specs.Legal.{after, state_after}
use Rattle.pr_model.specs.Readers.{space_seen}
use Rattle.pr_model.specs.Replies.{bytes_in}
use Rattle.pr_model.specs.State.{TracedProcess, TracedState, live_process}
use Rattle.pr_model.specs.declared.calls.Call.{Call}
use Rattle.pr_model.specs.declared.calls.Call.TheVariants as call
use Rattle.pr_model.specs.declared.calls.File.TheVariants as file
use Rattle.pr_model.specs.declared.calls.Mode.TheVariants.{WriteExcl}
use Rattle.pr_model.specs.declared.calls.Reply.{Reply}
use Rattle.pr_model.specs.declared.events.Act.TheVariants as act
use Rattle.pr_model.specs.declared.events.Actor.TheVariants.{Controller}
use Rattle.pr_model.specs.declared.events.Entry.{Entry}
use Rattle.pr_model.specs.declared.handles.Held.{Held}
use Rattle.pr_num.proofs.SearchLemmas.{All-at}
use Rattle.pr_num.specs.Messages.{first_message, spelling}
use Rattle.pr_num.specs.Words.{IsByte}
use Rattle.pr_num.specs.declared.messages.Message.{Message}
use Rattle.pr_num.specs.declared.messages.Message.TheVariants as message
use Rattle.pr_num.specs.declared.messages.MsgFault.{MsgFault}
use Rattle.pr_parts.specs.AddressSpaces.{with_bytes}
use Rattle.pr_reached.specs.Mapped.{HaveAddressSpaces}
use Rattle.pr_report_laws.proofs.Invariant.StandLemmas.{Each, EachBut}
use Rattle.pr_truss.specs.FunctionCalls.{call_beside, function_call_of, next_function_call_of, patch_call}
use Rattle.pr_truss.specs.FunctionFeeding.{fed_functions, is_code, is_first_there, is_to_plant}
use Rattle.pr_truss.specs.Marks.{address_in, address_of, code_of, first_function, has_functions}
use Rattle.pr_truss.specs.NextCalls.{call_of, next_call_of, opening_call}
use Rattle.pr_truss.specs.Processes.{last_handle, without_last}
use Rattle.pr_truss.specs.Replies.{answer_of}
use Rattle.pr_truss.specs.Trusses.{TrussState, traced_at}
use Rattle.pr_truss.specs.declared.asides.Aside.{Aside}
use Rattle.pr_truss.specs.declared.asides.Aside.TheVariants.{Nothing, Reading, Planting, Patching}
use Rattle.pr_truss.specs.declared.marks.Marks.{Marks}
use Rattle.pr_truss.specs.declared.processes.Traced.{Traced}
use Rattle.pr_truss.specs.declared.replies.Answer.TheVariants.{Accepted}
use Rattle.pr_truss.specs.declared.stages.AfterClosing.TheVariants.{GoOn, OpenNext}
use Rattle.pr_truss.specs.declared.stages.OpeningStep.{OpeningStep}
use Rattle.pr_truss.specs.declared.stages.OpeningStep.TheVariants as opening
use Rattle.pr_truss.specs.declared.stages.Stage.{Stage}
use Rattle.pr_truss.specs.declared.stages.Stage.TheVariants.{Spawning, OpeningControl, Opening, Polling, ReadingStatus, ReadingText, Running, Closing, Finished}
use Rattle.pr_truss_laws.proofs.Replies.FunctionOptionLemmas.{fed_functions-options}
use Rattle.pr_world.specs.ControllerStates.{ControllerState}

-- The code of a function that counts as planted stands, or its breakpoint does, also after each call of truss: it reads
-- the code before it plants the breakpoint, and lifts it by writing the code.

module _ {n : ℕ} {who : Hiders} {controllers : List ControllerState} {first : TracedState}
    {h : List Entry} (run : IsRunOfTrusses n who controllers first h)
    (front back : List Entry) (j : ℕ) (c : Call) (r : Reply) (place : h ≡ front ++ call_entry j c r ∷ back)
    (hider : hides who j ≡ true) (spaces : HaveAddressSpaces (state_after first front).system) where
  abbrev at : List Entry → Covers
  at front = covers_at who first front

  abbrev now : List Entry → TracedState
  now front = state_after first front

  none : (k : ℕ) → who.probes k ≡ false
  none = run.are.no_probes

  abbrev e : Entry
  e = call_entry j c r

  abbrev later_front : List Entry
  later_front = front ++ e ∷ []

  abbrev v : TracedState
  v = now front

  abbrev kept : Kept who controllers first h front
  kept = kept-there run front (e ∷ back) place

  abbrev truss : Truss who controllers first h front j
  truss = Calls.truss-now run front back j c r place kept hider

  abbrev t : TrussState
  t = Calls.tr run front back j c r place kept hider

  abbrev o : Options
  o = t.options

  abbrev fits : ArePatchable o
  fits = Calls.fits run front back j c r place kept hider

  abbrev these : who.functions j ≡ map patch_of o.functions
  these = Calls.these run front back j c r place kept hider

  abbrev below : AsideIsBelow (length o.functions) t.aside
  below = Calls.below run front back j c r place kept hider

  abbrev files : HasItsFiles j t v
  files = Calls.files-now run front back j c r place kept hider

  abbrev has : has_functions o ≡ true
  has = Calls.has run front back j c r place kept hider

  abbrev next : next_function_call_of t ≡ Some c
  next = Calls.next run front back j c r place kept hider

  abbrev own : IsOwnEntry j v e (record { call = c; reply = r })
  own = Calls.own run front back j c r place kept hider

  abbrev held-of : ℕ → Held
  held-of q = record { controller = j; pid = (traced_at t q).pid; lwp = 0; file = file.Ctl; mode = WriteExcl }

  called-is : at later_front ≡ covers_called who (at front) v j c r
  called-is = Calls.called-is run front back j c r place kept

  called-now : now later_front ≡ after v e
  called-now = Calls.called-now run front back j c r place kept

  answer-later : (pid : ℕ) → live_process own.answer.state.system pid ≡ live_process (now later_front).system pid
  answer-later pid = ap (λ (x : TracedState). live_process x.system pid) (own.later ∙ sym called-now)

  patchable-of : (i : ℕ) (f : Function) → slice_get o.functions i ≡ Some f → IsPatchable f
  patchable-of i f named = All-at IsPatchable o.functions i f named fits.each

  -- ---- the code of a function in a process that truss traces

  module _ (q : ℕ) (within : q < length t.traced) (i : ℕ) (f : Function) (named : slice_get o.functions i ≡ Some f)
    where
      abbrev pid : ℕ
      pid = (traced_at t q).pid

      abbrev pf : Patch
      pf = patch_of f

      patchable : IsPatchable f
      patchable = patchable-of i f named

      abbrev Keeps : TracedProcess → TracedProcess → Type 0
      Keeps x y = HoldsCode pf x → HoldsCode pf y

      abbrev keeps-same : (x y : TracedProcess) → y.borrower ≡ x.borrower → y.space ≡ x.space → Keeps x y
      keeps-same x y lent space = holds-same pf x y lent space

      abbrev keeps-next : (x y z : TracedProcess) → Keeps x y → Keeps y z → Keeps x z
      keeps-next x y z one two = λ it. two (one it)

      -- a call that leaves what is hidden of the process, and writes nothing to it
      beside : IsAsPatched (at front pid) (covers_called who (at front) v j c r pid)
          → ((p s : TracedProcess) (lent : p.borrower ≡ None)
          → EntryRelates Keeps keeps-same keeps-next pid p s lent v (Controller j) (act.Call c r))
          → CodeAt run front pid pf → CodeAt run later_front pid pf
      beside stays relates code =
          beside-code run front (Controller j) (act.Call c r) back place j hider q within f patchable (λ id is. cc)
          relates
          (λ s later bare.
          sym (ap (λ (cs : Covers). patch_at f.at (cs pid).patches) called-is
          ∙ ap (patch_at f.at) stays.patches) ∙ bare) code

      -- the messages of such a call
      ctl-relates : ((handle : ℕ) (bytes : List ℕ) (held : Held) (m : Message) (len : ℕ) → c ≡ call.Ctl handle bytes
          → handle_of v.opens j handle ≡ Some held → held.pid ≡ pid → first_message bytes ≡ Ok (m, len)
          → (address size : ℕ) → m ≢ message.Write address size)
          → (p s : TracedProcess) (lent : p.borrower ≡ None)
          → EntryRelates Keeps keeps-same keeps-next pid p s lent v (Controller j) (act.Call c r)
      ctl-relates never p s lent =
          λ handle bytes held m len is there controls its read address size is_write.
          absurd (never handle bytes held m len is there its read address size is_write)

      still-never : (bytes : List ℕ) → BeginStill bytes → (m : Message) (len : ℕ) → first_message bytes ≡ Ok (m, len)
          → (address size : ℕ) → m ≢ message.Write address size
      still-never bytes still m len read address size is =
          false≢true (sym (ap is_still is)
          ∙ subst (λ (x : Result (Message × ℕ) MsgFault). IfOk x (λ first. is_still first.0 ≡ true)) read still)

      -- a message to another process of truss
      elsewhere : (m : ℕ) → m < length t.traced → (bytes : List ℕ) → c ≡ call.Ctl (traced_at t m).control bytes
          → (traced_at t m).pid ≢ pid → CodeAt run front pid pf → CodeAt run later_front pid pf
      elsewhere m inside bytes is apart =
          beside
          (subst (λ (d : Call). IsAsPatched (at front pid) (covers_called who (at front) v j d r pid)) (sym is)
          (ctl-apart who none (at front) v j pid (traced_at t m).control bytes r (λ x there same.
          apart (its-pid x there ∙ same))))
          (ctl-relates (λ handle sent held msg len same there its read address size is_write.
          apart (its-pid held (ap (handle_of v.opens j) (ctl-same (sym is ∙ same)) ∙ there) ∙ its)))
        where
          its-pid : (x : Held) → handle_of v.opens j (traced_at t m).control ≡ Some x → (traced_at t m).pid ≡ x.pid
          its-pid x there = ap (λ (y : Held). y.pid) (same_Some (held-of m) x (sym (files.control m inside) ∙ there))

          ctl-same : {a b : ℕ} {xs ys : List ℕ} → call.Ctl a xs ≡ call.Ctl b ys → a ≡ b
          ctl-same same = cc

      -- a write to the process itself
      module _ (m : ℕ) (inside : m < length t.traced) (k : ℕ) (g : Function)
          (its_name : slice_get o.functions k ≡ Some g) (code : List ℕ) (size : length code ≡ 16)
          (are_bytes : All IsByte code)
          (is : c ≡ call.Ctl (traced_at t m).control (spelling (message.Write g.at 16) code))
          (same : (traced_at t m).pid ≡ pid) where
        abbrev bytes : List ℕ
        bytes = spelling (message.Write g.at 16) code

        low : g.at < 2 ^ 64
        low = let p = patchable-of k g its_name in let w = p.within in omega (arith, w)

        read-so : first_message bytes ≡ Ok (message.Write g.at 16, length bytes)
        read-so = write-read g.at code low size are_bytes

        given : answer_to v j (call.Ctl (traced_at t m).control bytes) ≡ Some own.answer
        given = Calls.given run front back j c r place kept hider _ is

        written : CodeAt run front pid pf → CodeAt run later_front pid pf
        written code_at = record {
          holds = λ s later bare.
              let was = lived run front e back place kept j hider q within (s, later) in
              let live : live_process v.system (traced_at t m).pid ≡ Some was.0 =
              ap (live_process v.system) same ∙ was.1 in
              by s later bare was.0 was.1 live
              (Written.writes v j (traced_at t m).control (held-of m) (files.control m inside) refl bytes g.at 16
              (length bytes) read-so own.answer given was.0 live);
        }
          where
            by : (s : TracedProcess) → live_process (now later_front).system pid ≡ Some s
                → patch_at f.at (at later_front pid).patches ≡ None → (p : TracedProcess)
                → live_process v.system pid ≡ Some p
                → (live_m : live_process v.system (traced_at t m).pid ≡ Some p)
                → Writes v j (traced_at t m).control (held-of m) (files.control m inside) refl bytes g.at 16
                (length bytes) read-so own.answer given p live_m
                → HoldsCode pf s
            by s later bare p live live_m (refuses never stays) =
                let covers : covers_called who (at front) v j c r pid ≡ at front pid =
                not-taken who none j (at front) v c r t fits these files below (Lives (now later_front))
                (λ x w lives. lived run front e back place kept j hider x w lives)
                (λ x w lives. let tr = truss in tr.stand x w (lived run front e back place kept j hider x w lives))
                m inside k g its_name code size are_bytes is
                (λ used got. never used (own.replied ∙ got)) pid in
                let before : patch_at f.at (at front pid).patches ≡ None =
                sym (ap (λ (cs : Covers). patch_at f.at (cs pid).patches) called-is
                ∙ ap (λ (x : Cover). patch_at f.at x.patches) covers) ∙ bare in
                subst (HoldsCode pf)
                (same_Some p s (sym live ∙ sym (ap (λ x. live_process x pid) stays) ∙ answer-later pid ∙ later))
                (code_at.holds p live before)
            by s later bare p live live_m (stores used got lent there) =
                let covers : (covers_called who (at front) v j c r (traced_at t m).pid).patches
                ≡ function_written (Some (patch_of g)) code (at front (traced_at t m).pid).patches =
                taken who none j (at front) v c r t fits these files below (Lives (now later_front))
                (λ x w lives. lived run front e back place kept j hider x w lives)
                (λ x w lives. let tr = truss in tr.stand x w (lived run front e back place kept j hider x w lives))
                m inside k g its_name code size are_bytes is used (sym own.replied ∙ got) p live_m in
                let now_bare : patch_at f.at (function_written (Some (patch_of g)) code (at front pid).patches) ≡ None =
                subst (λ x. patch_at f.at (function_written (Some (patch_of g)) code (at front x).patches) ≡ None) same
                (sym (ap (λ (cs : Covers). patch_at f.at (cs (traced_at t m).pid).patches) called-is
                ∙ ap (patch_at f.at) covers)
                ∙ ap (λ x. patch_at f.at (at later_front x).patches) same ∙ bare) in
                let holds =
                written-holds f patchable g (patchable-of k g its_name) (same-patch o fits k i g f its_name named) code
                size (at front pid).patches p lent now_bare (λ before. code_at.holds p live before) in
                let later_is
                : with_space (with_bytes g.at (tail_of (message.Write g.at 16) bytes) p.space) p ≡ s =
                same_Some _ s (sym there ∙ answer-later (traced_at t m).pid
                ∙ ap (live_process (now later_front).system) same ∙ later) in
                subst (HoldsCode pf) later_is
                (subst (λ xs. HoldsCode pf (with_space (with_bytes g.at xs p.space) p))
                (sym (write-tail g.at code low size are_bytes)) holds)

      -- whatever the call, unless it closes the control file of the process
      pub own-code : ((number : ℕ) (x : Held) → c ≡ call.Close number → handle_of v.opens j number ≡ Some x
          → x.pid ≡ pid → is_ctl x.file ≡ false) → CodeAt run front pid pf → CodeAt run later_front pid pf
      own-code closes code = by (Calls.its-kind run front back j c r place kept hider)
        where
          by : Kind c t → CodeAt run later_front pid pf
          by (writes m inside k g its_name bytes size are is) = elim (cases_eq (traced_at t m).pid pid) [
            | inl same ↦ written m inside k g its_name bytes size are is same code
            | inr apart ↦ elsewhere m inside _ is apart code
          ]
          by (sends m inside bytes is still) =
              beside
              (subst (λ (d : Call). IsAsPatched (at front pid) (covers_called who (at front) v j d r pid)) (sym is)
              (ctl-still who none (at front) v j pid (traced_at t m).control bytes r still))
              (ctl-relates (λ handle sent held msg len same there its read address size is_write.
              still-never sent (subst BeginStill (bytes-same (sym is ∙ same)) still) msg len read address size
              is_write))
              code
            where
              bytes-same : {a b : ℕ} {xs ys : List ℕ} → call.Ctl a xs ≡ call.Ctl b ys → xs ≡ ys
              bytes-same same = cc
          by (other never) =
              beside (any c refl)
              (ctl-relates (λ handle sent held msg len same there its read address size is_write.
              absurd (never handle sent same)))
              code
            where
              any : (d : Call) → c ≡ d → IsAsPatched (at front pid) (covers_called who (at front) v j c r pid)
              any (call.Ctl number bytes) is = absurd (never number bytes is)
              any (call.Close number) is =
                  subst (λ (d : Call). IsAsPatched (at front pid) (covers_called who (at front) v j d r pid)) (sym is)
                  (close-apart who none (at front) v j pid number r (λ x there its. closes number x is there its))
              any d is =
                  subst (λ (x : Call). IsAsPatched (at front pid) (covers_called who (at front) v j x r pid)) (sym is)
                  (call-still who none (at front) v j pid d r refl)

  -- ---- which control file is closed

  -- the call does not close the control file of a process
  abbrev pub Spares : ℕ → Type 0
  Spares pid =
      (number : ℕ) (x : Held) → c ≡ call.Close number → handle_of v.opens j number ≡ Some x → x.pid ≡ pid
      → is_ctl x.file ≡ false

  abbrev ClosesNone : Type 0
  ClosesNone = (number : ℕ) → c ≢ call.Close number

  none-spares : ClosesNone → (pid : ℕ) → Spares pid
  none-spares never pid number x is there same = absurd (never number is)

  closes-none : (d : Call) → Some d ≡ Some c → ((number : ℕ) → d ≢ call.Close number) → ClosesNone
  closes-none d same never number is = never number (same_Some d c same ∙ is)

  opening-none : (q : ℕ) (step : OpeningStep) → function_call_of t (Opening q step) ≡ Some c → ClosesNone
  unfolding function_call_of call_of opening_call
  opening-none q opening.OpenStatus is = closes-none _ is (λ number same. cc)
  opening-none q opening.OpenLstatus is = closes-none _ is (λ number same. cc)
  opening-none q opening.OpenMemory is = closes-none _ is (λ number same. cc)
  opening-none q opening.ClearModes is = closes-none _ is (λ number same. cc)
  opening-none q opening.SetRelease is = closes-none _ is (λ number same. cc)
  opening-none q opening.Stop is = closes-none _ is (λ number same. cc)
  opening-none q (opening.AwaitStop until) is = closes-none _ is (λ number same. cc)
  opening-none q opening.ReadLwps is = closes-none _ is (λ number same. cc)
  opening-none q opening.TraceSignals is = closes-none _ is (λ number same. cc)
  opening-none q opening.TraceFaults is = closes-none _ is (λ number same. cc)
  opening-none q opening.TraceEntries is = closes-none _ is (λ number same. cc)
  opening-none q opening.TraceExits is = closes-none _ is (λ number same. cc)
  opening-none q opening.Follow is = closes-none _ is (λ number same. cc)
  opening-none q opening.Start is = closes-none _ is (λ number same. cc)

  patch-none : (q : ℕ) (plant lift : Option ℕ) → Some (patch_call o (traced_at t q).control plant lift) ≡ Some c
      → ClosesNone
  patch-none q (Some i) lift is = closes-none _ is (λ number same. cc)
  patch-none q None (Some i) is = closes-none _ is (λ number same. cc)
  patch-none q None None is = closes-none _ is (λ number same. cc)

  -- what is so of the marks of each process whose control file stays open
  module _ (on : GoesOn t) (X : ℕ → Marks → Type 0)
      (spared : (q : ℕ) → q < length t.traced → Spares (traced_at t q).pid → So X (traced_at t q)) where
    all-so : ClosesNone → Each (So X) t.traced
    all-so never q within = spared q within (none-spares never (traced_at t q).pid)

    module _ (q : ℕ) (within : q < length t.traced) (is : Some (call.Close (last_handle (traced_at t q))) ≡ Some c)
      where
        abbrev u : Traced
        u = traced_at t q

        last : IsLast j v u
        last = last-is j v u (files.others q within)

        number-is : (number : ℕ) → c ≡ call.Close number → last_handle u ≡ number
        number-is number closes = close-same (same_Some _ c is ∙ closes)
          where
            close-same : {a b : ℕ} → call.Close a ≡ call.Close b → a ≡ b
            close-same same = cc

        others-spare : (i : ℕ) → i < length t.traced → i ≢ q → Spares (traced_at t i).pid
        others-spare i inside apart number x closes there same = by last
          where
            found : handle_of v.opens j (last_handle u) ≡ Some x
            found = ap (handle_of v.opens j) (number-is number closes) ∙ there

            by : IsLast j v u → is_ctl x.file ≡ false
            by (inr other_file) = other_file.other x found
            by (inl control) =
                absurd (files.apart i q inside within apart (sym same
                ∙ ap (λ (y : Held). y.pid)
                (same_Some x (held-of q) (sym found ∙ ap (handle_of v.opens j) control.0 ∙ files.control q within))))

        left-so : LeftSo X (without_last u) u
        left-so = by last
          where
            kept_so : (o : Option Traced) → Spares u.pid → LeftSo X o u
            kept_so None spares = tt
            kept_so (Some w) spares = spared q within spares

            by : IsLast j v u → LeftSo X (without_last u) u
            by (inl control) = subst (λ o. LeftSo X o u) (sym control.1) tt
            by (inr other_file) =
                kept_so (without_last u) (λ number x closes there same.
                other_file.other x (ap (handle_of v.opens j) (number-is number closes) ∙ there))

        closing-so : EachBut (So X) t.traced q × LeftSo X (without_last u) u
        closing-so = (λ i inside apart. spared i inside (others-spare i inside apart), left-so)

    stage-so : (stage : Stage) → IsWithin (length t.traced) stage → function_call_of t stage ≡ Some c
        → StageSo X t stage
    unfolding function_call_of call_of
    stage-so (Spawning program) w is = all-so (closes-none _ is (λ number same. cc))
    stage-so (OpeningControl pid) w is = all-so (closes-none _ is (λ number same. cc))
    stage-so (Opening q step) w is = all-so (opening-none q step is)
    stage-so Polling w is = all-so (closes-none _ is (λ number same. cc))
    stage-so (ReadingStatus q) w is = all-so (closes-none _ is (λ number same. cc))
    stage-so (ReadingText q l from len) w is = all-so (closes-none _ is (λ number same. cc))
    stage-so (Running q) w is = all-so (closes-none _ is (λ number same. cc))
    stage-so (Closing q OpenNext) w is = closing-so q w is
    stage-so (Closing q GoOn) w is = closing-so q w is
    stage-so Finished w is = absurd (none-some c is)
    stage-so _ w is = absurd w

    aside-so : (aside : Aside) → IsBeside (length t.traced) aside → call_beside t t.stage aside ≡ Some c
        → BesideSo X t aside
    unfolding call_beside
    aside-so Nothing w is = stage-so t.stage on.stage is
    aside-so (Reading q i) w is = all-so (closes-none _ is (λ number same. cc))
    aside-so (Planting q i) w is = all-so (closes-none _ is (λ number same. cc))
    aside-so (Patching q plants lifts clear) w is =
        all-so (patch-none q (first_function plants) (first_function lifts) is)
    aside-so _ w is = absurd w

    pub marks-so : BesideSo X t t.aside
    unfolding next_function_call_of
    marks-so =
        aside-so t.aside on.beside
        (sym (ap (λ b. cond b (call_beside t t.stage t.aside) (next_call_of t)) has) ∙ next)

  -- ---- all that truss has

  module _ (counted : Counted run front) (stays : (fed_functions t r).leaving ≡ false) where
    abbrev goes : GoesOn t
    goes = (went-on run front back j c r place kept hider stays).0

    abbrev Old : ℕ → ℕ → Type 0
    Old pid i = Known run front j o pid i

    abbrev New : ℕ → ℕ → Type 0
    New pid i = Known run later_front j o pid i

    abbrev Next : ℕ → ℕ → Type 0
    Next pid i = Shown run later_front o pid i

    known : TrussSo Old (λ pid i. Shown run front o pid i) t
    known = let w = truss in counted.each j hider w.t w.is goes.off

    known-later : (q i : ℕ) → q < length t.traced → Spares (traced_at t q).pid → Old (traced_at t q).pid i
        → New (traced_at t q).pid i
    known-later q i within spares was f named = by (was f named)
      where
        by : CodeAt run front (traced_at t q).pid (patch_of f) ⊎ Replaced run front j (traced_at t q).pid
            → CodeAt run later_front (traced_at t q).pid (patch_of f) ⊎ Replaced run later_front j (traced_at t q).pid
        by (inl code) = inl (own-code q within i f named spares code)
        by (inr replaced) =
            inr (replaced-later run front (Controller j) (act.Call c r) back place j (traced_at t q).pid replaced)

    marks-later : (q : ℕ) → q < length t.traced → Spares (traced_at t q).pid → So (MarksIn New) (traced_at t q)
    marks-later q within spares =
        let w = known in
        let m = w.marks q within in
        record {
          planted = λ i marked. known-later q i within spares (m.planted i marked);
          lifted = λ i marked. known-later q i within spares (m.lifted i marked);
          stepped = λ step is. known-later q step.function within spares (m.stepped step is);
        }

    aside-before : (aside : Aside) → t.aside ≡ aside → IsBeside (length t.traced) aside
        → call_beside t t.stage aside ≡ Some c
        → AsideSo Old (λ pid i. Shown run front o pid i) t.traced aside
        → AsideSo New (λ pid i. Unit {0}) t.traced aside
    unfolding call_beside
    aside-before Nothing is_aside w is it = tt
    aside-before (Reading q i) is_aside w is it = tt
    aside-before (Planting q i) is_aside w is it = tt
    aside-before (Patching q plants lifts clear) is_aside w is it =
        let never : ClosesNone = patch-none q (first_function plants) (first_function lifts) is in (
          (λ i marked. known-later q i w (none-spares never (traced_at t q).pid) (it.0 i marked)),
          (λ i marked. known-later q i w (none-spares never (traced_at t q).pid) (it.1 i marked)),
        )
    aside-before _ is_aside w is it = absurd w

    beside-is : call_beside t t.stage t.aside ≡ Some c
    unfolding next_function_call_of
    beside-is = sym (ap (λ b. cond b (call_beside t t.stage t.aside) (next_call_of t)) has) ∙ next

    -- ---- the code that was read

    learns : (q i : ℕ) → t.aside ≡ Reading q i → answer_of r ≡ Accepted
        → is_to_plant o i (bytes_in r) ≡ true → Next (traced_at t q).pid i
    unfolding call_beside address_of
    learns q i reading accepted plants f named = record {
      shown = λ s later.
          let was = lived run front e back place kept j hider q within (s, later) in
          let it =
          read-shows v j (traced_at t q).control (held-of q) (files.control q within) refl f (patchable-of i f named)
          own.answer given was.0 was.1
          (spaces.shown (traced_at t q).pid was.0 (live_process-found v.system _ was.0 was.1))
          (ap answer_of own.replied ∙ accepted)
          (ap (λ (x : Reply). is_code f.code (bytes_in x)) own.replied
          ∙ ap (λ xs. is_code xs (bytes_in r)) (sym (code-is o i f named))
          ∙ (and_parts (is_code (code_of o i) (bytes_in r)) (is_first_there o i) plants).0) in
          let same : now later_front ≡ own.answer.state = called-now ∙ sym own.later in
          let alike : was.0 ≡ s =
          same_Some was.0 s (sym was.1 ∙ sym (ap (λ x. live_process x (traced_at t q).pid) it.0)
          ∙ answer-later (traced_at t q).pid ∙ later) in
          subst (λ x. Stands (patch_of f) (space_seen x s))
          (sym (ap (λ (x : TracedState). x.system) same ∙ it.0))
          (subst (λ (x : TracedProcess). Stands (patch_of f) (space_seen v.system x)) alike it.1);
    }
      where
        within : q < length t.traced
        within = subst (IsBeside (length t.traced)) reading goes.beside

        call-is : Some (call.Ctl (traced_at t q).control (spelling (message.Read f.at 16) [])) ≡ Some c
        call-is =
            ap (λ a. Some (call.Ctl (traced_at t q).control (spelling (message.Read a 16) [])))
            (sym (ap address_in named))
            ∙ sym (ap (call_beside t t.stage) reading) ∙ beside-is

        given : answer_to v j (call.Ctl (traced_at t q).control (spelling (message.Read f.at 16) [])) ≡ Some own.answer
        given = Calls.given run front back j c r place kept hider _ (sym (same_Some _ c call-is))

    -- ---- a breakpoint that was planted

    grants : (q i : ℕ) → t.aside ≡ Planting q i → answer_of r ≡ Accepted → New (traced_at t q).pid i
    grants q i planting accepted f named =
        inl (plants-code run front back j c r place hider q
        (subst (IsBeside (length t.traced)) planting goes.beside) i f named planting beside-is accepted)

    -- ---- the reply

    pub called-in : TrussSo (λ pid i. Known run later_front j (fed_functions t r).options pid i)
        (λ pid i. Shown run later_front (fed_functions t r).options pid i) (fed_functions t r)
    called-in =
        let w = known in
        subst (λ (x : Options). TrussSo (λ pid i. Known run later_front j x pid i)
        (λ pid i. Shown run later_front x pid i) (fed_functions t r))
        (sym (fed_functions-options t r))
        (truss-later New Next t r goes.off goes.follow goes.stage goes.beside
        (went-on run front back j c r place kept hider stays).1 has (marks-so goes (MarksIn New) marks-later)
        (aside-before t.aside refl goes.beside beside-is w.aside) learns grants)
