use Rattle.std.proofs.Common.{◌≡◌, ◌==◌, ◌&&◌, ℕ, false, is_none, is_some, Option, Some, None, List, [], ◌∷◌, refl, sym, subst, ◌∙◌, inl, inr, ◌≢◌}
use Rattle.std.specs.Option.{option_map}
use Rattle.std.proofs.lemmas.Bool.{cases_Bool, eqb-true, eqb-false}
use Rattle.std.proofs.lemmas.Option.{none-some, same_Some}
use Rattle.pr_parts.specs.FileCalls.{with_all_shared}
use Rattle.pr_keeps.proofs.LoanLemmas.{loans_passed-keep, process_if-keeps}
use Rattle.pr_num.proofs.ByIdLaws.{under-change_under, under-change_under_other, under-inserted, under-inserted_other, under-map_each, under-without_id_other}
use Rattle.pr_num.specs.ById.{change_under, inserted, map_each, under}
use Rattle.pr_num.specs.Infos.{of_child}
use Rattle.pr_num.specs.Signals.{signal_number}
use Rattle.pr_num.specs.declared.infos.Info.{Info}
use Rattle.pr_num.specs.declared.signals.Sig.{Sig}
use Rattle.pr_num.specs.declared.signals.Sig.TheVariants.{Cld}
use Rattle.pr_parts.specs.SignalRules.{deleted_by}
use Rattle.pr_lawful.proofs.ProcessParts.FileLemmas.{choice}
use Rattle.pr_model.specs.Changes.{Change, files_are, space_is, signals, signals_itself, takes_shared, job_stops, disposition_is, held_is, resumes, forks, reaps, becomes, makes_lwp, suspends, with_fds, with_space, with_shared_taken, with_job_stop, with_disposition_of, with_held, resumed, with_suspended, changed, all_changed}
use Rattle.pr_model.specs.Generation.{ends_job_stop, lwp_with_pending, lwp_without_pending, signalled, with_deletions, with_pending, without_job_stop, without_pending}
use Rattle.pr_model.specs.Lives.{bare_process, ended_if_live, new_lwp, orphaned, started, with_child, with_ended, with_made, with_new_lwp, with_parent_signalled, with_program, with_reaped, with_this_ended, zombie, is_id, lent_to, with_loan_back, with_lender_of, with_loans_passed, Birth, by_fork, by_vfork, forked}
use Rattle.pr_model.specs.Machines.{no_marks, traced}
use Rattle.pr_model.specs.Signals.{generated, is_kill}
use Rattle.pr_model.specs.State.{TracedLwp, TracedProcess, TracedSystem, live_process, lwp_of, process_of, with_lwp, with_process}

-- An lwp that stands on no event stands on none after the changes that a turn makes beside its lwp, whoever they are
-- of.

-- ---- what holds of the thing under an id, where there is one

pub record There {X : Type 0} (P : X → Type 0) (o : Option X) : Type 0 where
  pub holds : (x : X) → o ≡ Some x → P x

pub is_there : {X : Type 0} (P : X → Type 0) (x : X) → P x → There P (Some x)
is_there P x h = record { holds = λ y is. subst P (same_Some x y is) h }

pub mapped-there : {X : Type 0} (P : X → Type 0) (f : X → X) (o : Option X) → ((x : X) → o ≡ Some x → P (f x)) → There
    P (option_map f o)
mapped-there P f None keeps = record { holds = λ y is. absurd (none-some y is) }
mapped-there P f (Some x) keeps = is_there P (f x) (keeps x refl)

module _ {X : Type 0} (P : X → Type 0) (id : ℕ) where
  pub changed-there : (other : ℕ) (f : X → X) (es : List (ℕ × X)) → ((x : X) → P x → P (f x)) → There P (under id es) →
      There P (under id (change_under other f es))
  changed-there other f es keeps h = elim (cases_Bool (other == id)) [
    | inl same ↦ subst (λ n. There P (under id (change_under n f es))) (sym (eqb-true other id same)) (subst (There P)
        (sym (under-change_under id f es)) (mapped-there P f (under id es) (λ x is. keeps x (h.holds x is))))
    | inr apart ↦ subst (There P) (sym (under-change_under_other other id f (eqb-false other id apart) es)) h
  ]

  pub each-there : (f : X → X) (es : List (ℕ × X)) → ((x : X) → P x → P (f x)) → There P (under id es)
      → There P (under id (map_each f es))
  each-there f es keeps h = subst (There P) (sym (under-map_each id f es)) (mapped-there P f (under id es)
      (λ x is. keeps x (h.holds x is)))

  pub more-there : (other : ℕ) (x : X) (es : List (ℕ × X)) → P x → There P (under id es) → There P (under id
      (inserted other x es))
  more-there other x es new h = elim (cases_Bool (other == id)) [
    | inl same ↦ subst (λ n. There P (under id (inserted n x es))) (sym (eqb-true other id same)) (subst (There P)
        (sym (under-inserted id x es)) (is_there P x new))
    | inr apart ↦ subst (There P) (sym (under-inserted_other other id x (eqb-false other id apart) es)) h
  ]

-- what holds of the lwp of an id in a process, where there is one, and in the process of an id
module _ (P : TracedLwp → Type 0) (id : ℕ) where
  pub record HasLwp (x : TracedProcess) : Type 0 where
    pub lwp : There P (lwp_of x id)

  pub record HaveLwp (pid : ℕ) (s : TracedSystem) : Type 0 where
    pub process : There HasLwp (process_of s pid)

-- ---- processes

-- it stands on no event
abbrev pub IsStopless : TracedLwp → Type 0
IsStopless l = l.control.stop ≡ None

module _ (id : ℕ) where
  abbrev pub IsCalm : TracedProcess → Type 0
  IsCalm x = HasLwp IsStopless id x

  abbrev KeepsCalm : (TracedProcess → TracedProcess) → Type 0
  KeepsCalm f = (x : TracedProcess) → IsCalm x → IsCalm (f x)

  one-calm : (other : ℕ) (f : TracedLwp → TracedLwp) → ((l : TracedLwp) → (f l).control.stop ≡ l.control.stop) →
      KeepsCalm (with_lwp other f)
  unfolding with_lwp
  one-calm other f same x h = record {
    lwp = changed-there IsStopless id other f x.lwps (λ l none. same l ∙ none)
        h.lwp;
  }

  pending-calm : (target : Option ℕ) (g : Sig) (info : Info) → KeepsCalm (with_pending target g info)
  unfolding with_pending lwp_with_pending
  pending-calm None g info x h = record { lwp = h.lwp }
  pending-calm (Some own) g info x h = record {
    lwp = changed-there IsStopless id own (lwp_with_pending g info) x.lwps
        (λ l none. none) h.lwp;
  }

  deletions-calm : (g : Sig) → KeepsCalm (with_deletions g)
  unfolding with_deletions without_job_stop without_pending lwp_without_pending
  deletions-calm g x h =
      let lwps = each-there IsStopless id (lwp_without_pending (deleted_by g)) x.lwps (λ l none. none) h.lwp in
      choice IsCalm (deleted_by g == 0) _ _ (λ nothing. h) (λ some. choice IsCalm (ends_job_stop g) _ _
      (λ ends. record { lwp = lwps }) (λ stays. record { lwp = lwps }))

  signalled-calm : (target : Option ℕ) (g : Sig) (info : Info) → KeepsCalm (signalled target g info)
  unfolding signalled
  signalled-calm target g info x h =
      choice IsCalm (is_none x.ended) _ _ (λ live. pending-calm target g info (with_deletions g x)
      (deletions-calm g x h)) (λ over. h)

  zombie-calm : (status : ℕ) → KeepsCalm (zombie traced status)
  unfolding zombie bare_process
  zombie-calm status x h = record { lwp = record { holds = λ l is. absurd (none-some l is) } }

  orphaned-calm : (gone : ℕ) → KeepsCalm (orphaned gone)
  unfolding orphaned
  orphaned-calm gone x h = choice IsCalm (x.parent == gone) _ _ (λ is. record { lwp = h.lwp }) (λ apart. h)

  loan_back-calm : (gone : ℕ) (p : TracedProcess) → KeepsCalm (with_loan_back gone p)
  unfolding with_loan_back
  loan_back-calm gone p x h = choice IsCalm (is_id gone x.borrower) _ _ (λ lent. record { lwp = h.lwp }) (λ other. h)

  lender_of-calm : (gone : ℕ) (p : TracedProcess) → KeepsCalm (with_lender_of gone p)
  unfolding with_lender_of
  lender_of-calm gone p x h = choice IsCalm (is_id gone x.lender) _ _ (λ borrowed. record { lwp = h.lwp }) (λ other. h)

  lent_to-calm : (child : ℕ) → KeepsCalm (lent_to child)
  unfolding lent_to
  lent_to-calm child x h = record { lwp = h.lwp }

  new-calm : (new held : ℕ) (regs : List ℕ) → KeepsCalm (with_new_lwp traced new regs held)
  unfolding with_new_lwp new_lwp traced no_marks
  new-calm new held regs x h =
      choice IsCalm (is_some (lwp_of x new)) _ _ (λ stands. h)
      (λ free. record {
        lwp = more-there IsStopless id new (new_lwp traced regs held (no_marks false)) x.lwps refl
            h.lwp;
      })

  -- ---- systems

  module _ (pid : ℕ) where
    abbrev pub AreCalm : TracedSystem → Type 0
    AreCalm s = HaveLwp IsStopless id pid s

    changed-calm : (other : ℕ) (f : TracedProcess → TracedProcess) (s : TracedSystem) → KeepsCalm f → AreCalm s →
        AreCalm (with_process other f s)
    unfolding with_process
    changed-calm other f s keeps h = record {
      process = changed-there (HasLwp IsStopless id) pid other f s.processes
          keeps h.process;
    }

    loaned_back-calm : (gone : ℕ) (p : TracedProcess) (other : ℕ) (s : TracedSystem) → AreCalm s
        → AreCalm (with_process other (with_loan_back gone p) s)
    loaned_back-calm gone p other s h = changed-calm other (with_loan_back gone p) s (loan_back-calm gone p) h

    passed-calm : (gone : ℕ) (p : TracedProcess) (s : TracedSystem) → AreCalm s → AreCalm (with_loans_passed gone p s)
    passed-calm gone p =
        loans_passed-keep AreCalm gone p (loaned_back-calm gone p)
        (λ other s h. changed-calm other (with_lender_of gone p) s (lender_of-calm gone p) h)

    ended-calm : (gone : ℕ) (p : TracedProcess) (status : ℕ) (s : TracedSystem) → AreCalm s → AreCalm (with_this_ended
        traced gone p status s)
    unfolding with_this_ended with_parent_signalled
    ended-calm gone p status s h =
        let dies = changed-there (HasLwp IsStopless id) pid gone (zombie traced status) s.processes (zombie-calm
        status) h.process in
        let gone_on = each-there (HasLwp IsStopless id) pid (orphaned gone) (change_under gone (zombie traced status)
        s.processes) (orphaned-calm gone) dies in
        let passed = passed-calm gone p _ (record { process = gone_on }) in
        choice AreCalm (p.parent == 0) _ _ (λ first. passed) (λ other. changed-calm p.parent
        (signalled None Cld (of_child gone status)) _ (signalled-calm None Cld (of_child gone status)) passed)

    ended_if_live-calm : (gone status : ℕ) (s : TracedSystem) (o : Option TracedProcess) → AreCalm s → AreCalm
        (ended_if_live traced gone status s o)
    ended_if_live-calm gone status s None h = h
    ended_if_live-calm gone status s (Some p) h = ended-calm gone p status s h

    generated-calm : (other : ℕ) (target : Option ℕ) (g : Sig) (info : Info) (s : TracedSystem) → AreCalm s → AreCalm
        (generated traced other target g info s)
    unfolding generated with_ended
    generated-calm other target g info s h =
        choice AreCalm (is_kill g) _ _ (λ kill. ended_if_live-calm other (signal_number g) s (live_process s other) h)
        (λ goes. changed-calm other (signalled target g info) s (signalled-calm target g info) h)

    module _ (p : TracedProcess) (l : TracedLwp) (none : IsStopless l) where
      change-calm : (c : Change) (s : TracedSystem) → AreCalm s → AreCalm (changed traced pid p id l c s)
      unfolding changed with_fds with_space with_shared_taken with_job_stop with_disposition_of with_held resumed
          with_suspended with_child with_made with_process with_reaped with_program started
      change-calm (files_are files fds) s h = changed-calm pid (with_fds fds) (record s { files = files }) (λ x it.
          record { lwp = it.lwp }) (record { process = h.process })
      change-calm (space_is space) s h = changed-calm pid (with_space space) s (λ x it. record { lwp = it.lwp }) h
      change-calm (signals target g info) s h = choice AreCalm (is_kill g && (target == pid)) _ _ (λ itself. h) (λ
          other. generated-calm target None g info s h)
      change-calm (signals_itself g info) s h = choice AreCalm (is_kill g) _ _ (λ kill. h) (λ other. generated-calm
          pid (Some id) g info s h)
      change-calm (takes_shared g) s h = changed-calm pid (with_shared_taken g) s (λ x it. record { lwp = it.lwp }) h
      change-calm (job_stops g) s h = changed-calm pid (with_job_stop g) s (λ x it. record { lwp = it.lwp }) h
      change-calm (disposition_is g d) s h = changed-calm pid (with_disposition_of g d) s (λ x it. record
          { lwp = it.lwp }) h
      change-calm (held_is held) s h = changed-calm pid (with_lwp id (with_held held)) s (one-calm id (with_held held)
          (λ k. refl)) h
      change-calm (resumes frame frames) s h = changed-calm pid (with_lwp id (resumed frame frames)) s (one-calm id
          (resumed frame frames) (λ k. refl)) h
      change-calm (forks birth args) s h =
          choice AreCalm (s.made == pid) _ _ (λ own. h) (λ apart. made-calm birth s (eqb-false s.made pid apart) h)
        where
          grown-calm : (child : TracedProcess) (t : TracedSystem) → t.made ≢ pid → AreCalm t
              → AreCalm (with_made child t)
          grown-calm child t apart it = record {
            process = subst (There (HasLwp IsStopless id)) (sym (under-inserted_other t.made pid child apart
                t.processes)) it.process;
          }

          made-calm : (birth : Birth) (s : TracedSystem) → s.made ≢ pid → AreCalm s → AreCalm (with_child traced birth
              pid p l args s)
          made-calm by_fork s apart it =
              let shared : TracedSystem = record s { files = with_all_shared s.files p.fds } in
              grown-calm (forked traced by_fork pid p l args s.clock) shared apart (record { process = it.process })
          made-calm by_vfork s apart it =
              let shared : TracedSystem = record s { files = with_all_shared s.files p.fds } in
              grown-calm (forked traced by_vfork pid p l args s.clock) (with_process pid (lent_to s.made) shared) apart
              (changed-calm pid (lent_to s.made) shared (lent_to-calm s.made) (record { process = it.process }))
      change-calm (reaps child) s h =
          choice AreCalm (child == pid) _ _ (λ own. h) (λ apart. record {
            process = subst (There (HasLwp IsStopless id)) (sym
                (under-without_id_other child pid (eqb-false child pid apart) s.processes)) h.process;
          })
      change-calm (becomes program) s h =
          process_if-keeps AreCalm p.lender (with_loan_back pid p) (loaned_back-calm pid p) _ (changed-calm pid
          (with_program traced id l program) s (λ x it. record {
            lwp = more-there IsStopless id id (started traced l) [] none (record
                { holds = λ k is. absurd (none-some k is) });
          }) h)
      change-calm (makes_lwp new regs held) s h = changed-calm pid (with_new_lwp traced new regs held) s (new-calm new
          held regs) h
      change-calm (suspends other suspended) s h = changed-calm pid (with_lwp other (with_suspended suspended)) s
          (one-calm other (with_suspended suspended) (λ k. refl)) h

      pub changes-calm : (cs : List Change) (s : TracedSystem) → AreCalm s → AreCalm (all_changed traced pid p id l cs
          s)
      unfolding all_changed
      changes-calm [] s h = h
      changes-calm (c ∷ cs) s h = changes-calm cs (changed traced pid p id l c s) (change-calm c s h)
