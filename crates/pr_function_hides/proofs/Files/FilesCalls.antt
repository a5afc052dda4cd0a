use Rattle.std.proofs.Common.{◌≡◌, ◌≢◌, ◌<◌, ℕ, Bool, true, false, cond, Option, Some, None, List, [], All, length, refl, sym, subst, ap, ◌∙◌, inl, inr}
use Rattle.std.proofs.lemmas.Option.{none-some, same_Some}
use Rattle.pr_hidden.specs.Hiders.{is_ctl}
use Rattle.pr_lawful.proofs.ProcessParts.HandleLemmas.{handle-at, handle-writer}
use Rattle.pr_line.specs.declared.options.Options.{Options}
use Rattle.pr_model.specs.Calls.{Answer, answer_to}
use Rattle.pr_model.specs.Handles.{handle_of, has_writer}
use Rattle.pr_model.specs.Lawful.{IsFitting}
use Rattle.pr_model.specs.State.{Places, TracedState}
use Rattle.pr_model.specs.declared.calls.Call.{Call}
use Rattle.pr_model.specs.declared.calls.Call.TheVariants as call
use Rattle.pr_model.specs.declared.calls.File.{File}
use Rattle.pr_model.specs.declared.calls.File.TheVariants as file
use Rattle.pr_model.specs.declared.calls.Mode.{Mode}
use Rattle.pr_model.specs.declared.calls.Mode.TheVariants.{Read, WriteExcl}
use Rattle.pr_model.specs.declared.calls.Reply.{Reply}
use Rattle.pr_model.specs.declared.calls.Reply.TheVariants as reply
use Rattle.pr_model.specs.declared.handles.Held.{Held}
use Rattle.pr_num.specs.declared.errnos.Errno.{Errno}
use Rattle.pr_report_laws.proofs.Invariant.StandLemmas.{Each, EachBut, each-but}
use Rattle.pr_truss.specs.FunctionCalls.{call_beside, function_call_of, next_function_call_of, patch_call}
use Rattle.pr_truss.specs.FunctionFeeding.{fed_functions}
use Rattle.pr_truss.specs.Marks.{first_function, has_functions}
use Rattle.pr_truss.specs.Replies.{answer_of}
use Rattle.pr_truss.specs.Trusses.{TrussState, traced_at}
use Rattle.pr_truss.specs.declared.processes.Traced.{Traced}
use Rattle.pr_truss.specs.declared.replies.Answer.TheVariants.{Accepted, Interrupted}
use Rattle.pr_truss_laws.proofs.Files.OpensLemmas.{held_by, open-opens, own-mine, own-set}
use Rattle.pr_truss.specs.NextCalls.{call_of, next_call_of, opening_call}
use Rattle.pr_truss.specs.declared.asides.Aside.{Aside}
use Rattle.pr_truss.specs.declared.asides.Aside.TheVariants.{Nothing, Reading, Planting, Patching}
use Rattle.pr_truss.specs.declared.marks.Marks.{Marks}
use Rattle.pr_truss.specs.declared.stages.AfterClosing.TheVariants.{OpenNext, GoOn}
use Rattle.pr_truss.specs.declared.stages.OpeningStep.{OpeningStep}
use Rattle.pr_truss.specs.declared.stages.Stage.{Stage}
use Rattle.pr_truss.specs.declared.stages.Stage.TheVariants.{Spawning, OpeningControl, Opening, Polling, ReadingStatus, ReadingText, Running, Closing, Finished}
use Rattle.pr_function_laws.specs.Lifted.{HasControl}
use Rattle.std.proofs.lemmas.List.Elements.{All-cons, All-nil}
use Rattle.std.specs.List.{cons_option}
use Rattle.pr_model.specs.Replies.{handle_in, opened_in}
use Rattle.pr_truss.specs.Openings.{learnt}
use Rattle.pr_truss.specs.Processes.{last_handle, newly_traced, without_last}
use Rattle.pr_truss.specs.declared.stages.OpeningStep.TheVariants as opening
use Rattle.pr_function_hides.proofs.Files.CallFacts.{keeps-there, not-accepted, open-finds}
use Rattle.pr_function_hides.proofs.Replies.FilesWalk.{AfterAside, AfterStage, AreApart, LeftFiles, SameFiles, Under, fed-under}
use Rattle.pr_function_hides.proofs.Replies.OwnFiles.{GoesOn, HasItsFiles, IsBeside, IsOfOtherFile, IsWithin, other_handles}

-- The files of each process that truss traces, from one state to a later one: what others do leaves them, and its own
-- calls open them one after another and close the last one first.

module _ (k : ℕ) where
  -- a handle is of this file of a process
  abbrev IsFile : ℕ → File → ℕ → TracedState → Type 0
  IsFile pid f m s = handle_of s.opens k m ≡ Some (held_by k pid 0 f Read)

  pub record Files (s : TracedState) (v : Traced) : Type 0 where
    pub control : HasControl k v.pid v.control s
    pub status : (m : ℕ) → v.status ≡ Some m → IsFile v.pid file.Status m s
    pub lstatus : (m : ℕ) → v.lstatus ≡ Some m → IsFile v.pid file.Lstatus m s
    pub memory : (m : ℕ) → v.memory ≡ Some m → IsFile v.pid file.Mem m s

  pub files-alike : (s : TracedState) (u v : Traced) → SameFiles u v → Files s u → Files s v
  files-alike s u v same h = record {
    control =
        subst (λ n. HasControl k n v.control s) (sym same.pid)
        (subst (λ m. HasControl k u.pid m s) (sym same.control) h.control);
    status = λ m is. subst (λ n. IsFile n file.Status m s) (sym same.pid) (h.status m (sym same.status ∙ is));
    lstatus = λ m is. subst (λ n. IsFile n file.Lstatus m s) (sym same.pid) (h.lstatus m (sym same.lstatus ∙ is));
    memory = λ m is. subst (λ n. IsFile n file.Mem m s) (sym same.pid) (h.memory m (sym same.memory ∙ is));
  }

  -- handles that stay
  pub files-stay : (s later : TracedState) (v : Traced)
      → ((m : ℕ) (held : Held) → handle_of s.opens k m ≡ Some held → held.pid ≡ v.pid
      → handle_of later.opens k m ≡ Some held) → Files s v → Files later v
  files-stay s later v stays h = record {
    control = stays v.control _ h.control refl;
    status = λ m is. stays m _ (h.status m is) refl;
    lstatus = λ m is. stays m _ (h.lstatus m is) refl;
    memory = λ m is. stays m _ (h.memory m is) refl;
  }

  -- so truss holds its files
  others-of : (s : TracedState) (v : Traced) → Files s v → All (IsOfOtherFile k s) (other_handles v)
  others-of s v h =
      more v.memory h.memory refl _ (more v.lstatus h.lstatus refl _ (more v.status h.status refl []
      (All-nil (IsOfOtherFile k s))))
    where
      more : {f : File} (x : Option ℕ) → ((m : ℕ) → x ≡ Some m → IsFile v.pid f m s) → is_ctl f ≡ false
          → (ms : List ℕ) → All (IsOfOtherFile k s) ms → All (IsOfOtherFile k s) (cons_option x ms)
      more None there other ms all = all
      more (Some m) there other ms all =
          All-cons (IsOfOtherFile k s) m ms
          (record {
            other = λ held found.
                ap (λ (x : Held). is_ctl x.file) (same_Some held _ (sym found ∙ there m refl)) ∙ other;
          }) all

  pub files-of : (s : TracedState) (t : TrussState) → Each (Files s) t.traced → AreApart t.traced → HasItsFiles k t s
  files-of s t each apart = record {
    control = λ q within. let h = each q within in h.control;
    others = λ q within. others-of s (traced_at t q) (each q within);
    apart = apart;
  }

  -- what others do
  pub foreign-files : (s later : TracedState) (t : TrussState)
      → ((m : ℕ) → handle_of later.opens k m ≡ handle_of s.opens k m) → Each (Files s) t.traced
      → Each (Files later) t.traced
  foreign-files s later t same each q within =
      files-stay s later (traced_at t q) (λ m held there its. same m ∙ there) (each q within)

  -- ---- its own calls

  module _ (s : TracedState) (c : Call) (a : Answer) (given : answer_to s k c ≡ Some a)
      (fitting : All IsFitting s.opens) (t : TrussState) (each : Each (Files s) t.traced)
      (apart : AreApart t.traced) where
    abbrev Later : Traced → Type 0
    Later v = Files a.state v

    -- a call that closes nothing of a process
    none-closed : (v : Traced)
        → ((m : ℕ) (held : Held) → handle_of s.opens k m ≡ Some held → held.pid ≡ v.pid → c ≢ call.Close m)
        → Files s v → Later v
    none-closed v other h =
        files-stay s a.state v (λ m held there its. keeps-there s k c a given m held there (other m held there its)) h

    pub all-stay : ((m : ℕ) → c ≢ call.Close m) → Each Later t.traced
    all-stay other q within = none-closed (traced_at t q) (λ m held there its. other m) (each q within)

    pub no-close : (d : Call) → Some d ≡ Some c → ((m : ℕ) → d ≢ call.Close m) → (m : ℕ) → c ≢ call.Close m
    no-close d same other m closes = other m (same_Some d c same ∙ closes)

    opening-closes : (q : ℕ) (step : OpeningStep) → function_call_of t (Opening q step) ≡ Some c
        → (m : ℕ) → c ≢ call.Close m
    unfolding function_call_of call_of opening_call
    opening-closes q opening.TraceSignals is = no-close _ is (λ m e. cc)
    opening-closes q opening.TraceFaults is = no-close _ is (λ m e. cc)
    opening-closes q opening.TraceEntries is = no-close _ is (λ m e. cc)
    opening-closes q opening.TraceExits is = no-close _ is (λ m e. cc)
    opening-closes q opening.OpenStatus is = no-close _ is (λ m e. cc)
    opening-closes q opening.OpenLstatus is = no-close _ is (λ m e. cc)
    opening-closes q opening.OpenMemory is = no-close _ is (λ m e. cc)
    opening-closes q opening.ClearModes is = no-close _ is (λ m e. cc)
    opening-closes q opening.SetRelease is = no-close _ is (λ m e. cc)
    opening-closes q opening.Stop is = no-close _ is (λ m e. cc)
    opening-closes q (opening.AwaitStop until) is = no-close _ is (λ m e. cc)
    opening-closes q opening.ReadLwps is = no-close _ is (λ m e. cc)
    opening-closes q opening.Follow is = no-close _ is (λ m e. cc)
    opening-closes q opening.Start is = no-close _ is (λ m e. cc)

    -- ---- a file is opened

    refused-never : (e : Errno) → a.reply ≡ reply.Fail e → answer_of a.reply ≡ Accepted → ⊥
    refused-never e is accepted = not-accepted e (ap answer_of (sym is) ∙ accepted)

    opened : (pid : ℕ) (f : File) (mode : Mode) → c ≡ call.Open pid 0 f mode → answer_of a.reply ≡ Accepted
        → handle_of a.state.opens k (handle_in a.reply) ≡ Some (held_by k pid 0 f mode)
    unfolding opened_in
    opened pid f mode is accepted = elim (open-opens s k pid 0 f mode a (ap (answer_to s k) (sym is) ∙ given)) [
      | inl ref ↦ absurd (refused-never ref.errno ref.reply accepted)
      | inr new ↦
          ap (λ (x : Reply). handle_of a.state.opens k (handle_in x)) new.reply
          ∙ ap (λ (p : Places). handle_of p k new.place) new.is
          ∙ own-set s.opens k new.place (Some (held_by k pid 0 f mode)) None new.free
          ∙ own-mine k (held_by k pid 0 f mode) refl
    ]

    new-control : (pid : ℕ) → c ≡ call.Open pid 0 file.Ctl WriteExcl → answer_of a.reply ≡ Accepted
        → Later (newly_traced pid (handle_in a.reply))
        × ((i : ℕ) → i < length t.traced → (traced_at t i).pid ≢ pid)
    unfolding newly_traced
    new-control pid is accepted = (
      record {
        control = opened pid file.Ctl WriteExcl is accepted;
        status = λ m at. absurd (none-some m at);
        lstatus = λ m at. absurd (none-some m at);
        memory = λ m at. absurd (none-some m at);
      },
      λ i within same.
          let h = each i within in
          open-finds s k pid a (ap (answer_to s k) (sym is) ∙ given) accepted
          (subst (λ n. has_writer n s.opens ≡ true) same
          (handle-writer s.opens (traced_at t i).control _ fitting
          (handle-at s.opens k (traced_at t i).control _ h.control) refl)),
    )

    learnt-files : (q : ℕ) (step : OpeningStep) → function_call_of t (Opening q step) ≡ Some c
        → answer_of a.reply ≡ Accepted → Later (traced_at t q) → Later (learnt (traced_at t q) a.reply step)
    unfolding function_call_of call_of opening_call learnt
    learnt-files q opening.OpenStatus is accepted h = record {
      control = h.control;
      status = λ m at.
          subst (λ i. IsFile (traced_at t q).pid file.Status i a.state) (same_Some (handle_in a.reply) m at)
          (opened (traced_at t q).pid file.Status Read (sym (same_Some _ c is)) accepted);
      lstatus = h.lstatus;
      memory = h.memory;
    }
    learnt-files q opening.OpenLstatus is accepted h = record {
      control = h.control;
      status = h.status;
      lstatus = λ m at.
          subst (λ i. IsFile (traced_at t q).pid file.Lstatus i a.state) (same_Some (handle_in a.reply) m at)
          (opened (traced_at t q).pid file.Lstatus Read (sym (same_Some _ c is)) accepted);
      memory = h.memory;
    }
    learnt-files q opening.OpenMemory is accepted h = record {
      control = h.control;
      status = h.status;
      lstatus = h.lstatus;
      memory = λ m at.
          subst (λ i. IsFile (traced_at t q).pid file.Mem i a.state) (same_Some (handle_in a.reply) m at)
          (opened (traced_at t q).pid file.Mem Read (sym (same_Some _ c is)) accepted);
    }
    learnt-files q (opening.AwaitStop until) is accepted h = record {
      control = h.control;
      status = h.status;
      lstatus = h.lstatus;
      memory = h.memory;
    }
    learnt-files q opening.ReadLwps is accepted h = record {
      control = h.control;
      status = h.status;
      lstatus = h.lstatus;
      memory = h.memory;
    }
    learnt-files q _ is accepted h = h

    -- ---- a file is closed

    -- the last handle of a process
    record Last (u : Traced) : Type 0 where
      held : Held
      there : handle_of s.opens k (last_handle u) ≡ Some held
      of : held.pid ≡ u.pid
      left : c ≡ call.Close (last_handle u) → LeftFiles Later (files-alike a.state) (without_last u) u

    -- handles of two files differ
    differ : (m i : ℕ) (x y : Held) → handle_of s.opens k m ≡ Some x → handle_of s.opens k i ≡ Some y → x.file ≢ y.file
        → c ≡ call.Close m → c ≢ call.Close i
    differ m i x y one two other closes_m closes_i =
        other (ap (λ (z : Held). z.file)
        (same_Some x y (sym one ∙ ap (handle_of s.opens k) (number (sym closes_m ∙ closes_i)) ∙ two)))
      where
        number : call.Close m ≡ call.Close i → m ≡ i
        number e = cc

    keeps : (m : ℕ) (x : Held) → handle_of s.opens k m ≡ Some x → c ≢ call.Close m
        → handle_of a.state.opens k m ≡ Some x
    keeps m x there other = keeps-there s k c a given m x there other

    last-fields : (pid control : ℕ) (status lstatus memory : Option ℕ) (attached : Bool) (old : ℕ) (seen : Bool)
        (marks : Marks)
        → let u : Traced = record {
          pid = pid;
          control = control;
          status = status;
          lstatus = lstatus;
          memory = memory;
          attached = attached;
          old = old;
          seen = seen;
          marks = marks;
        } in Files s u → Last u
    unfolding last_handle without_last
    last-fields pid control status lstatus (Some n) attached old seen marks h = record {
      held = held_by k pid 0 file.Mem Read;
      there = h.memory n refl;
      of = refl;
      left = λ closes. record {
        control = keeps control _ h.control (differ n control _ _ (h.memory n refl) h.control (λ e. cc) closes);
        status = λ m is. keeps m _ (h.status m is) (differ n m _ _ (h.memory n refl) (h.status m is) (λ e. cc) closes);
        lstatus =
            λ m is. keeps m _ (h.lstatus m is) (differ n m _ _ (h.memory n refl) (h.lstatus m is) (λ e. cc) closes);
        memory = λ m is. absurd (none-some m is);
      };
    }
    last-fields pid control status (Some n) None attached old seen marks h = record {
      held = held_by k pid 0 file.Lstatus Read;
      there = h.lstatus n refl;
      of = refl;
      left = λ closes. record {
        control = keeps control _ h.control (differ n control _ _ (h.lstatus n refl) h.control (λ e. cc) closes);
        status = λ m is. keeps m _ (h.status m is) (differ n m _ _ (h.lstatus n refl) (h.status m is) (λ e. cc) closes);
        lstatus = λ m is. absurd (none-some m is);
        memory = λ m is. absurd (none-some m is);
      };
    }
    last-fields pid control (Some n) None None attached old seen marks h = record {
      held = held_by k pid 0 file.Status Read;
      there = h.status n refl;
      of = refl;
      left = λ closes. record {
        control = keeps control _ h.control (differ n control _ _ (h.status n refl) h.control (λ e. cc) closes);
        status = λ m is. absurd (none-some m is);
        lstatus = λ m is. absurd (none-some m is);
        memory = λ m is. absurd (none-some m is);
      };
    }
    last-fields pid control None None None attached old seen marks h = record {
      held = record { controller = k; pid = pid; lwp = 0; file = file.Ctl; mode = WriteExcl };
      there = h.control;
      of = refl;
      left = λ closes. tt;
    }

    last-of : (u : Traced) → Files s u → Last u
    last-of u h = last-fields u.pid u.control u.status u.lstatus u.memory u.attached u.old u.seen u.marks h

    pub closing : (q : ℕ) → q < length t.traced → Some (call.Close (last_handle (traced_at t q))) ≡ Some c
        → EachBut Later t.traced q
        × LeftFiles Later (files-alike a.state) (without_last (traced_at t q)) (traced_at t q)
    closing q within is =
        let last = last-of (traced_at t q) (each q within) in
        let closes : c ≡ call.Close (last_handle (traced_at t q)) = sym (same_Some _ c is) in (
          (λ i inside differs.
              none-closed (traced_at t i) (λ m held there its closes_m.
              apart i q inside within differs
              (sym its ∙ ap (λ (x : Held). x.pid)
              (same_Some held last.held
              (sym there ∙ ap (handle_of s.opens k) (number m (sym closes_m ∙ closes)) ∙ last.there)) ∙ last.of))
              (each i inside)),
          last.left closes,
        )
      where
        number : (m : ℕ) → call.Close m ≡ call.Close (last_handle (traced_at t q)) → m ≡ last_handle (traced_at t q)
        number m e = cc

    -- ---- the rows

    stage-after : (stage : Stage) → IsWithin (length t.traced) stage → function_call_of t stage ≡ Some c
        → AfterStage Later (files-alike a.state) t a.reply stage
    unfolding function_call_of call_of
    stage-after (Spawning program) at is = all-stay (no-close _ is (λ m e. cc))
    stage-after (OpeningControl pid) at is = (
      all-stay (no-close _ is (λ m e. cc)),
      λ accepted. new-control pid (sym (same_Some _ c is)) accepted,
    )
    stage-after (Opening q step) at is =
        let all = all-stay (opening-closes q step is) in
        (each-but Later t.traced q all, (all q at, λ accepted. learnt-files q step is accepted (all q at)))
    stage-after Polling at is = all-stay (no-close _ is (λ m e. cc))
    stage-after (ReadingStatus q) at is = all-stay (no-close _ is (λ m e. cc))
    stage-after (ReadingText q l from len) at is = all-stay (no-close _ is (λ m e. cc))
    stage-after (Running q) at is = all-stay (no-close _ is (λ m e. cc))
    stage-after (Closing q OpenNext) at is = closing q at is
    stage-after (Closing q GoOn) at is = closing q at is
    stage-after Finished at is = absurd (none-some c is)
    stage-after _ at is = absurd at

    pub patch-closes : (o : Options) (control : ℕ) (plant lift : Option ℕ)
        → Some (patch_call o control plant lift) ≡ Some c → (m : ℕ) → c ≢ call.Close m
    patch-closes o control (Some i) lift is = no-close _ is (λ m e. cc)
    patch-closes o control None (Some i) is = no-close _ is (λ m e. cc)
    patch-closes o control None None is = no-close _ is (λ m e. cc)

    aside-after : GoesOn t → (aside : Aside) → IsBeside (length t.traced) aside → call_beside t t.stage aside ≡ Some c
        → AfterAside Later (files-alike a.state) t a.reply aside
    unfolding call_beside
    aside-after goes Nothing at is = stage-after t.stage goes.stage is
    aside-after goes (Reading q i) at is = all-stay (no-close _ is (λ m e. cc))
    aside-after goes (Planting q i) at is = all-stay (no-close _ is (λ m e. cc))
    aside-after goes (Patching q plants lifts clear) at is =
        all-stay (patch-closes t.options (traced_at t q).control (first_function plants) (first_function lifts) is)
    aside-after goes _ at is = absurd at

    pub own-under : GoesOn t → next_function_call_of t ≡ Some c → has_functions t.options ≡ true
        → answer_of a.reply ≢ Interrupted → Under Later (files-alike a.state) (fed_functions t a.reply)
    unfolding next_function_call_of
    own-under goes next has calm =
        fed-under Later (files-alike a.state) t a.reply goes.off goes.follow goes.stage goes.beside apart calm has
        (aside-after goes t.aside goes.beside
        (sym (ap (λ b. cond b (call_beside t t.stage t.aside) (next_call_of t)) has) ∙ next))
