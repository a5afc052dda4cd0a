use Rattle.std.proofs.Common.{◌≡◌, ◌≢◌, ◌<◌, ℕ, true, false, Option, Some, None, List, [], length, refl, sym}
use Rattle.std.proofs.Common.{subst, ap, ◌∙◌}
use Rattle.std.proofs.lemmas.Option.{none-some, same_Some}
use Rattle.pr_line.specs.declared.options.Options.{Options}
use Rattle.pr_model.specs.Calls.{Answer, answer_to}
use Rattle.pr_model.specs.Handles.{handle_of}
use Rattle.pr_model.specs.Lawful.{IsLawful}
use Rattle.pr_model.specs.State.{TracedState, TracedSystem, live_process}
use Rattle.pr_model.specs.declared.calls.Call.{Call}
use Rattle.pr_model.specs.declared.calls.Call.TheVariants as call
use Rattle.pr_model.specs.declared.calls.File.{File}
use Rattle.pr_model.specs.declared.calls.File.TheVariants as file
use Rattle.pr_model.specs.declared.calls.Mode.{Mode}
use Rattle.pr_model.specs.declared.calls.Mode.TheVariants.{WriteExcl}
use Rattle.pr_model.specs.declared.calls.Reply.{Reply}
use Rattle.pr_model.specs.declared.handles.Held.{Held}
use Rattle.pr_num.specs.Limits.{instruction_size}
use Rattle.pr_num.specs.Messages.{spelling}
use Rattle.pr_num.specs.declared.messages.Message.TheVariants as message
use Rattle.pr_report_laws.proofs.Invariant.StandLemmas.{Each, EachBut, each-but, each-join}
use Rattle.pr_truss.specs.Asides.{marks_at}
use Rattle.pr_truss.specs.FunctionCalls.{call_beside, function_call_of, next_function_call_of, patch_call}
use Rattle.pr_truss.specs.FunctionFeeding.{fed_functions}
use Rattle.pr_truss.specs.Marks.{address_of, code_of, first_function, has_functions, no_functions}
use Rattle.pr_truss.specs.declared.marks.Marks.{Marks}
use Rattle.pr_truss.specs.NextCalls.{call_of}
use Rattle.pr_truss.specs.Processes.{last_handle, without_last}
use Rattle.pr_truss.specs.Trusses.{TrussState, traced_at}
use Rattle.pr_truss.specs.declared.asides.Aside.{Aside}
use Rattle.pr_truss.specs.declared.asides.Aside.TheVariants.{Nothing, Patching, AwaitingStop, Asking, AwaitingAgain}
use Rattle.pr_truss.specs.declared.processes.Traced.{Traced}
use Rattle.pr_truss.specs.declared.stages.AfterClosing.TheVariants.{GoOn}
use Rattle.pr_truss.specs.declared.stages.OpeningStep.TheVariants as opening
use Rattle.pr_truss.specs.declared.stages.Stage.{Stage}
use Rattle.pr_truss.specs.declared.stages.Stage.TheVariants.{Closing, Finished, ReadingLwps, ReadingText, Unfollowing}
use Rattle.pr_truss_laws.proofs.Files.OpensLemmas.{held_by}
use Rattle.pr_truss_laws.proofs.Replies.ReplySteps.{lost-same}
use Rattle.pr_function_laws.proofs.OpenedProcesses.OpenedLemmas.{Holds, LeftFiles, elsewhere-goes, last-own, left-holds}
use Rattle.pr_function_laws.specs.Stretches.{acts_by}
use Rattle.pr_function_hides.proofs.Files.CallFacts.{keeps-there}
use Rattle.pr_function_hides.proofs.Copying.CopyActs.{elsewhere-alone, read-closed}
use Rattle.pr_function_hides.proofs.Copying.CopyClosing.{last-read}
use Rattle.pr_function_hides.proofs.LeavingCopies.CopyHalts.{BeginLeaving, cfault-leaves, sent-left, stop-leaves, write-leaves, wstop-leaves}
use Rattle.pr_function_hides.proofs.LeavingCopies.CopyLeaves.{HasOld, IsStill, Leaves, as-still, leaving-alike}
use Rattle.pr_function_hides.proofs.LeavingCopies.CopyLeft.{AreFewer, IsLeaving, LeavesSo, alone-left, fewer, held-on}
use Rattle.pr_function_hides.proofs.LeavingCopies.CopyLeft.{left-on, less-leaving, none_left, same-fewer}
use Rattle.pr_function_hides.proofs.Replies.FilesWalk.{SameFiles, apart-of}
use Rattle.pr_function_hides.proofs.Replies.FunctionSets.{has-none, has-without}
use Rattle.pr_function_hides.proofs.Replies.LeavingStages.{IsLeft, asks, awaits, closes_files, halts, has_ended}
use Rattle.pr_function_hides.proofs.Replies.LeavingStages.{lifted_after, lifts_all, looks, reads_text, waits_again}
use Rattle.pr_function_hides.proofs.Replies.LeavingStages.{with_fewer, with_no_marks}
use Rattle.pr_function_hides.proofs.Replies.LeavingWalk.{After, Rest, fed-left}
use Rattle.pr_function_hides.proofs.Replies.TreatedEvents.{first-of-none}
use Rattle.pr_function_laws.proofs.NextCalls.PatchCalls.{next-beside, next-staged}
use Rattle.pr_truss_laws.proofs.Replies.FunctionOptionLemmas.{fed_functions-options}
use Rattle.pr_function_hides.proofs.Copying.CopyOwn.{acts-apart}
use Rattle.pr_function_hides.proofs.Replies.PlantedReplies.{lost-marks}

-- Each call of truss that leaves its processes, and its reply, leaves them as they are to stand: it asks a process to
-- stop, waits for that, reads, lifts breakpoints, clears a fault, or closes a file.

module _ (n k : ℕ) (o : Options) (t0 : TrussState) (s : TracedState) (lawful : IsLawful s) (c : Call) (a : Answer)
    (given : answer_to s k c ≡ Some a)
    (over : (pid : ℕ) → pid < s.system.made → live_process s.system pid ≡ None
    → live_process a.state.system pid ≡ None) where
  abbrev r : Reply
  r = let b : Answer = a in b.reply

  abbrev May : ℕ → Type 0
  May = HasOld t0

  abbrev Was : Traced → Type 0
  Was v = IsLeaving k o May s v

  abbrev Now : Traced → Type 0
  Now v = IsLeaving k o May (let b : Answer = a in b.state) v

  -- ---- one process

  -- the call acts on no file of it
  away : (v : Traced)
      → ((m : ℕ) (held : Held) → acts_by c ≡ Some m → handle_of s.opens k m ≡ Some held → held.pid ≢ v.pid)
      → Was v → Now v
  away v other w =
      let h = w.files in
      record {
        files = elsewhere-goes n k o s lawful c a given over v.pid other (Some opening.OpenStatus) v.control v.status
            v.lstatus v.memory w.files;
        stands = λ q later.
            let was = elsewhere-alone n k s lawful c a given over v.pid v.control h.its o other q later in
            left-on o v.marks was.0 q (alone-left was.0 q was.1.1) (w.stands was.0 was.1.0);
      }

  pub quiet : acts_by c ≡ None → (v : Traced) → Was v → Now v
  quiet none v w = away v (λ m held acts there. absurd (none-some m (sym none ∙ acts))) w

  -- the call is a message to it, by which truss leaves
  sent : (v : Traced) (bytes : List ℕ) → c ≡ call.Ctl v.control bytes → BeginLeaving bytes → Was v → Now v
  sent v bytes is begins w =
      let h = w.files in
      record {
        files = held-on k o s a.state v (λ m held there own. keeps-there s k c a given m held there (λ closes.
            not-close (sym is ∙ closes))) w.files;
        stands = λ q later.
            let was = sent-left n k o s lawful c a given over v.pid v.control bytes is h.its begins q later in
            left-on o v.marks was.0 q was.1.1 (w.stands was.0 was.1.0);
      }
    where
      not-close : {m : ℕ} → call.Ctl v.control bytes ≡ call.Close m → ⊥
      not-close e = cc

  -- a file of it is closed, and another one is left
  lost : (v u : Traced) → without_last v ≡ Some u → c ≡ call.Close (last_handle v) → Was v → Now u
  lost v u left is w = record {
    files = (subst (λ x. LeftFiles (Holds k o a.state) x v.pid) left
        (left-holds n k o s lawful c a given over v is w.files)).0;
    stands = λ p live.
        let same = lost-same v u left in
        subst (λ i. LeavesSo (May i) o u.marks p) (sym same.pid)
        (subst (λ m. LeavesSo (May v.pid) o m p) (sym (lost-marks v u left))
        (w.stands p
        (ap (λ (x : TracedSystem). live_process x v.pid) (sym stays)
        ∙ ap (live_process a.state.system) (sym same.pid) ∙ live)));
  }
    where
      stays : a.state.system ≡ s.system
      stays =
          let read = last-read k o s v u v.memory v.lstatus v.status w.files left in
          read-closed n k s lawful c a given over (last_handle v) read.0 read.1.0 read.1.1 is

  -- with fewer breakpoints
  less-now : (v u : Traced) → SameFiles v u → AreFewer v.marks u.marks → Now v → Now u
  less-now v u same less =
      less-leaving k o May (let b : Answer = a in b.state) v u (record { files = same; marks = less })

  -- ---- all of them

  module _ (t : TrussState) (w : Leaves k o t0 t s) (has : has_functions o ≡ true) (off : o.follow ≡ false)
      (next : next_function_call_of t ≡ Some c) where
    all-were : Each Was t.traced
    all-were = let l = w.left in l.each

    all-quiet : acts_by c ≡ None → Each Now t.traced
    all-quiet none q within = quiet none (traced_at t q) (all-were q within)

    others : 0 < length t.traced → (m : ℕ) (f : File) (mode : Mode) → acts_by c ≡ Some m
        → handle_of s.opens k m ≡ Some (held_by k (traced_at t 0).pid 0 f mode) → EachBut Now t.traced 0
    others within m f mode acts there place inside other =
        away (traced_at t place)
        (acts-apart k s c t.traced (let l = w.left in apart-of t.traced l.apart) 0 within m f mode acts there place
        inside other) (all-were place inside)

    all-sent : 0 < length t.traced → (bytes : List ℕ) → c ≡ call.Ctl (traced_at t 0).control bytes
        → BeginLeaving bytes → Each Now t.traced
    all-sent within bytes is begins =
        let h = all-were 0 within in
        let f = h.files in
        each-join Now t.traced 0
        (others within (traced_at t 0).control file.Ctl WriteExcl (ap acts_by is) f.its)
        (sent (traced_at t 0) bytes is begins h)

    follow : t.options.follow ≡ false
    follow = ap (λ (x : Options). x.follow) w.options ∙ off

    has-now : has_functions t.options ≡ true
    has-now = ap has_functions w.options ∙ has

    -- ---- a row a place

    staged : (stage : Stage) → t.stage ≡ stage → t.aside ≡ Nothing → function_call_of t stage ≡ Some c
    staged stage at idle = sym (next-staged t.options has-now t stage refl idle at) ∙ next

    beside : (aside : Aside) → t.aside ≡ aside → call_beside t t.stage aside ≡ Some c
    beside aside is = sym (next-beside t.options has-now t refl ∙ ap (call_beside t t.stage) is) ∙ next

    -- what a lift or the clearing of the fault sends
    lift-sent : 0 < length t.traced → (lift : Option ℕ)
        → patch_call t.options (traced_at t 0).control None lift ≡ c → Each Now t.traced
    lift-sent within (Some i) is =
        all-sent within _ (sym is) (write-leaves (address_of t.options i) instruction_size (code_of t.options i))
    lift-sent within None is = all-sent within (spelling message.Cfault []) (sym is) cfault-leaves

    fewer-planted : (m : Marks) (lift : Option ℕ)
        → AreFewer m (record m { planted = lifted_after m.planted lift })
    fewer-planted m None = same-fewer m
    fewer-planted m (Some i) =
        fewer (λ function has. (let it = has-without m.planted i function has in it.has)) refl refl

    rest-made : 0 < length t.traced → c ≡ call.Close (last_handle (traced_at t 0)) → (x : Option Traced)
        → without_last (traced_at t 0) ≡ x
        → Rest Now (leaving-alike k o May (let b : Answer = a in b.state)) (IsStill t0) (as-still t0) x
    rest-made within is None left = tt
    rest-made within is (Some u) left = lost (traced_at t 0) u left is (all-were 0 within)

    made-so : (l : IsLeft t)
        → After Now (leaving-alike k o May (let b : Answer = a in b.state)) (IsStill t0) (as-still t0) t r l
    unfolding call_beside function_call_of call_of
    made-so (halts at idle within) =
        all-sent within (spelling message.Stop []) (sym (same_Some _ c (staged Unfollowing at idle))) stop-leaves
    made-so (awaits until at is within) =
        all-quiet (ap acts_by (sym (same_Some _ c (beside (AwaitingStop until) is))))
    made-so (asks at is within) =
        all-sent within (spelling message.Wstop []) (sym (same_Some _ c (beside Asking is))) wstop-leaves
    made-so (waits_again until at is within) =
        all-quiet (ap acts_by (sym (same_Some _ c (beside (AwaitingAgain until) is))))
    made-so (looks at idle within) =
        let v : Traced = traced_at t 0 in
        let now = all-quiet (ap acts_by (sym (same_Some _ c (staged ReadingLwps at idle)))) in
        (now, λ tells. less-now v (with_no_marks v) same (none_left has-none) (now 0 within))
      where
        same : SameFiles (traced_at t 0) (with_no_marks (traced_at t 0))
        same = record { pid = refl; control = refl; status = refl; lstatus = refl; memory = refl }
    made-so (reads_text l from len at idle within) =
        all-quiet (ap acts_by (sym (same_Some _ c (staged (ReadingText 0 l from len) at idle))))
    made-so (lifts_all clear at is within) =
        let lift = first_function (marks_at t 0).planted in
        let now =
        lift-sent within lift
        (ap (λ plant. patch_call t.options (traced_at t 0).control plant lift) (sym first-of-none)
        ∙ same_Some _ c (beside (Patching 0 no_functions (marks_at t 0).planted clear) is)) in (
          each-but Now t.traced 0 now,
          less-now (traced_at t 0) (with_fewer (traced_at t 0)) same (fewer-planted (marks_at t 0) lift) (now 0 within),
        )
      where
        same : SameFiles (traced_at t 0) (with_fewer (traced_at t 0))
        same = record { pid = refl; control = refl; status = refl; lstatus = refl; memory = refl }
    made-so (closes_files at idle within) =
        let is = sym (same_Some _ c (staged (Closing 0 GoOn) at idle)) in
        let h = all-were 0 within in
        let last = last-own n k o s lawful c a given over (traced_at t 0) h.files in (
          others within (last_handle (traced_at t 0)) last.its_file last.its_mode (ap acts_by is) last.there,
          rest-made within is (without_last (traced_at t 0)) refl,
        )
    made-so (has_ended at idle) = absurd (none-some c (staged Finished at idle))

    pub call-leaves : Leaves k o t0 (fed_functions t r) (let b : Answer = a in b.state)
    call-leaves =
        let l = w.left in
        record {
          options = fed_functions-options t r ∙ w.options;
          left = fed-left Now (leaving-alike k o May (let b : Answer = a in b.state)) (IsStill t0) (as-still t0) t r
              l.on follow has-now l.apart l.unlooked l.at (made-so l.at);
        }
