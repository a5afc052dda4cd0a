use Rattle.std.proofs.Common.{◌≡◌, ◌≢◌, ◌==◌, ◌&&◌, ◌<◌, ℕ, cond, None, Some, Option, length, refl, sym, subst, ap, ◌∙◌, inl, inr}
use Rattle.std.proofs.lemmas.Bool.{cases_eq, eq-eqb, false≢true}
use Rattle.std.proofs.lemmas.Option.{none-some, same_Some}
use Rattle.pr_lawful.proofs.ProcessParts.HandleLemmas.{handle-at}
use Rattle.pr_line.specs.declared.options.Options.{Options}
use Rattle.pr_model.specs.Calls.{answer_to}
use Rattle.pr_model.specs.Handles.{handle_of}
use Rattle.pr_model.specs.Legal.{IsLegalEntry, after}
use Rattle.pr_model.specs.Replies.{handle_in}
use Rattle.pr_model.specs.State.{TracedProcess, TracedState, live_process}
use Rattle.pr_model.specs.declared.calls.Call.{Call}
use Rattle.pr_model.specs.declared.calls.Call.TheVariants as call
use Rattle.pr_model.specs.declared.calls.File.{File}
use Rattle.pr_model.specs.declared.calls.File.TheVariants as file
use Rattle.pr_model.specs.declared.calls.Mode.{Mode}
use Rattle.pr_model.specs.declared.calls.Mode.TheVariants.{WriteExcl}
use Rattle.pr_model.specs.declared.calls.Reply.{Reply}
use Rattle.pr_model.specs.declared.events.Entry.{Entry}
use Rattle.pr_truss.specs.Children.{with_child_control, with_child_control_answered, with_freeing_answered, with_freeing_begun}
use Rattle.pr_truss.specs.Feeding.{fed, with_reply}
use Rattle.pr_num.specs.Control.{rlc_mode}
use Rattle.pr_num.specs.declared.messages.Message.TheVariants as message
use Rattle.pr_truss.specs.Messages.{message_call}
use Rattle.pr_truss.specs.NextCalls.{call_of, child_call, freeing_call, next_call_of, opening_call}
use Rattle.pr_truss.specs.Openings.{with_control, with_control_answered}
use Rattle.pr_truss.specs.Replies.{answer_of}
use Rattle.pr_truss.specs.Trusses.{TrussState, traced_at}
use Rattle.pr_truss.specs.declared.processes.Traced.{Traced}
use Rattle.pr_truss.specs.declared.replies.Answer.{Answer as Answered}
use Rattle.pr_truss.specs.declared.replies.Answer.TheVariants.{Accepted, Gone, Interrupted, Refused}
use Rattle.pr_truss.specs.declared.stages.ChildStep.{ChildStep}
use Rattle.pr_truss.specs.declared.stages.ChildStep.TheVariants as child
use Rattle.pr_truss.specs.declared.stages.FreeingStep.{FreeingStep}
use Rattle.pr_truss.specs.declared.stages.FreeingStep.TheVariants as freeing
use Rattle.pr_truss.specs.declared.stages.OpeningStep.{OpeningStep}
use Rattle.pr_truss.specs.declared.stages.OpeningStep.TheVariants as opening
use Rattle.pr_truss.specs.declared.stages.Stage.{Stage}
use Rattle.pr_truss.specs.declared.stages.Stage.TheVariants.{OpeningControl, Opening, OpeningChildControl, OpeningChild, FreeingChild}
use Rattle.pr_truss_laws.proofs.Files.HeldLemmas.{at_place, of_stage, unit}
use Rattle.pr_truss_laws.proofs.Files.OpensLemmas.{held_by}
use Rattle.pr_truss_laws.specs.Exchanges.{Exchange, exchange_of}
use Rattle.pr_report_laws.proofs.Invariant.EntrySteps.{made-at}
use Rattle.pr_report_laws.proofs.Files.FedFiles.{fed-keeps}
use Rattle.pr_report_laws.proofs.Files.FileLaws.{free-apart, has-each}
use Rattle.pr_report_laws.proofs.Files.FileSteps.{MakesNext, calm-call}
use Rattle.pr_report_laws.proofs.Files.FileUses as uses
use Rattle.pr_report_laws.proofs.Files.FileUses.{freed_control}
use Rattle.pr_report_laws.proofs.Files.KeepLemmas.{FreedIs, Grants, IsCalm, Keeps}
use Rattle.pr_truss_laws.proofs.Machine.OverLemmas.{stays-over}
use Rattle.pr_report_laws.proofs.Releasing.ReleaseGrants.{release-granted}
use Rattle.pr_report_laws.proofs.Replies.StageChanges.{Comes, How, IsFree, Opens, StaysAt, at, child_goes, child_starts, free, goes, less, no, starts}
use Rattle.pr_report_laws.proofs.Replies.StageReplies.{fed-comes}
use Rattle.pr_report_laws.proofs.Invariant.StandLemmas.{IsAttached, Stands, StandsAt}
use Rattle.pr_report_laws.proofs.Releasing.ReleaseSteps.{modes_told}
use Rattle.pr_report_laws.proofs.Files.WatchHistories.{IsAnswered, Reaches, answered-calm, entry-reaches, exchange-answered}
use Rattle.pr_report_laws.specs.Releases.{Modes, if_accepted, modes_next, released, spared}
use Rattle.pr_report_laws.specs.Watching.{fed_by_entry, is_away, with_exchange}

-- Truss has set the modes of a child that it sets free.

pub record HasFreed (pid : ℕ) (t : TrussState) (s : TracedState) (m : Modes) : Type 0 where
  pub setting : (cm : ℕ) → t.stage ≡ FreeingChild pid (freeing.SetRelease cm) → m ≡ spared
  pub closing : (cm : ℕ) (p : TracedProcess) → t.stage ≡ FreeingChild pid (freeing.Close cm)
      → live_process s.system pid ≡ Some p → m ≡ released

-- what lives after an entry lived before it
pub lived-before : (n : ℕ) (s : TracedState) (e : Entry) (pid k number : ℕ) (f : File) (mode : Mode) (t : TrussState)
    → Reaches k t s → IsLegalEntry n s e → handle_of s.opens k number ≡ Some (held_by k pid 0 f mode)
    → (q : TracedProcess) → live_process (after s e).system pid ≡ Some q
    → (p : TracedProcess) × (live_process s.system pid ≡ Some p)
lived-before n s e pid k number f mode t r legal held q now = by (live_process s.system pid) refl
  where
    by : (x : Option TracedProcess) → live_process s.system pid ≡ x
        → (p : TracedProcess) × (live_process s.system pid ≡ Some p)
    by None is =
        let lawful = r.lawful in
        absurd (none-some q
        (sym (stays-over n s e pid r.lawful legal
        (made-at s.opens number (held_by k pid 0 f mode)
        (handle-at s.opens k number (held_by k pid 0 f mode) held) lawful.handles) is) ∙ now))
    by (Some p) is = (p, is)

-- the opens of the other files are of no control file
opening-other : (o : Options) (x : Traced) (step : OpeningStep) (pid id : ℕ)
    → Some (opening_call o x step) ≡ Some (call.Open pid id file.Ctl WriteExcl) → ⊥
unfolding opening_call
opening-other o x opening.OpenStatus pid id is = cc
opening-other o x _ pid id is = cc

child-other : (x : Traced) (step : ChildStep) (pid id : ℕ)
    → Some (child_call x step) ≡ Some (call.Open pid id file.Ctl WriteExcl) → ⊥
unfolding child_call
child-other x child.OpenStatus pid id is = cc
child-other x _ pid id is = cc

-- ---- one reply

module _ (k pid : ℕ) (t : TrussState) (r : Reply) (m : Modes) (s v : TracedState) (before : Reaches k t s)
    (after_it : Reaches k (fed t r) v) (calm : IsCalm (answer_of r) (next_call_of t)) where
  abbrev u : TrussState
  u = fed t r

  -- where a file of a process comes from
  data From (of : ℕ) (f : File) (mode : Mode) (n : ℕ) : Type 0 where
    traced : (place : ℕ) → place < length t.traced → (traced_at t place).pid ≡ of → From of f mode n
    granted : answer_of r ≡ Accepted → (id : ℕ) → next_call_of t ≡ Some (call.Open of id f mode) → From of f mode n
    sets : t.stage ≡ FreeingChild of (freeing.SetRelease n) → From of f mode n
    closes : t.stage ≡ FreeingChild of (freeing.Close n) → From of f mode n

  grants : (x : Answered) (d : Option Call) → answer_of r ≡ x → next_call_of t ≡ d → Grants From x r d
  grants Accepted (Some (call.Open of id f mode)) told next = λ zero. granted told id next
  grants Accepted (Some c) told next = tt
  grants Accepted None told next = tt
  grants Interrupted d told next = tt
  grants Gone d told next = tt
  grants (Refused errno) d told next = tt

  freed-before : (stage : Stage) → t.stage ≡ stage → FreedIs From stage
  freed-before (FreeingChild of (freeing.SetRelease n)) is = sets is
  freed-before (FreeingChild of (freeing.Close n)) is = closes is
  freed-before _ is = tt

  keeps : Keeps From u
  keeps =
      let w = before.owns in
      let f = before.files in
      fed-keeps From t r w.fits (λ place within. record {
        control = traced place within refl;
        status = λ n is. traced place within refl;
        lstatus = λ n is. traced place within refl;
        memory = λ n is. traced place within refl;
      })
      f.stands (freed-before t.stage refl) (grants (answer_of r) (next_call_of t) refl refl) calm

  module _ (step : FreeingStep) (cm : ℕ) (its : freed_control step ≡ Some cm)
      (at_it : u.stage ≡ FreeingChild pid step) where
    away-first : IsFree u → ⊥
    away-first f =
        let files = after_it.files in
        let stands : Stands u.traced u.leaving u.stage = files.stands in
        let w : IsAttached (at_place u.traced 0) = subst (StandsAt u.traced) at_it stands.at in
        false≢true (sym (f.here 0 w.attached) ∙ ap (λ (x : Stage). is_away u.leaving x 0) at_it)

    once : (x : FreeingStep) → freed_control x ≡ Some cm → of_stage pid cm (FreeingChild pid x) ≡ 1
    once freeing.OpenControl is = absurd (none-some cm is)
    once (freeing.SetRelease n) is =
        ap unit (ap (λ b. b && (n == cm)) (eq-eqb pid pid refl) ∙ eq-eqb n cm (same_Some n cm is))
    once (freeing.Close n) is =
        ap unit (ap (λ b. b && (n == cm)) (eq-eqb pid pid refl) ∙ eq-eqb n cm (same_Some n cm is))

    -- it is none of the processes that truss traces
    not-traced : (place : ℕ) → place < length t.traced → (traced_at t place).pid ≡ pid → ⊥
    unfolding with_control with_child_control
    not-traced place within of =
        let w = before.owns in
        let f = before.files in
        let stands : Stands t.traced t.leaving t.stage = f.stands in
        let comes : Comes t r u = fed-comes t r w.fits stands.leaves in
        by comes.how
      where
        apart : StaysAt t u place → ⊥
        apart st =
            let files = after_it.files in
            let lawful = after_it.lawful in
            free-apart k u v after_it.owns lawful.exclusive (has-each k u v files) pid cm (ap (of_stage pid cm) at_it
            ∙ once step its) (uses.freed-file k u v files pid cm step at_it its) place (st.there within)
            (st.pid within ∙ of)

        opened : (q : ℕ) → q ≡ place → Opens t r q u → ⊥
        opened q same (no none stays) = apart (subst (StaysAt t u) same stays)
        opened q same (starts target is accepted comes) =
            let e = sym at_it ∙ ap (λ (x : TrussState). x.stage) comes in
            clash e
          where
            clash : FreeingChild pid step ≡ (with_control t target (handle_in r)).stage → ⊥
            clash e = cc
        opened q same (child_starts parent target is accepted comes) =
            let e = sym at_it ∙ ap (λ (x : TrussState). x.stage) comes in
            clash e
          where
            clash : FreeingChild pid step ≡ (with_child_control t parent target (handle_in r)).stage → ⊥
            clash e = cc
        opened q same (goes one next is accepted some comes) =
            let e = sym at_it ∙ ap (λ (x : TrussState). x.stage) comes in
            cc
        opened q same (child_goes parent one next is accepted some comes) =
            let e = sym at_it ∙ ap (λ (x : TrussState). x.stage) comes in
            cc

        by : How t r u → ⊥
        by (free places f begins) = away-first f
        by (less q next is removed f) = away-first f
        by (at q a) =
            elim (cases_eq place q) [
              | inl same ↦ opened q (sym same) a.opens
              | inr other ↦ apart
                  (a.others place other)
            ]

  -- ---- the stages

  after-open : (of : ℕ) → t.stage ≡ FreeingChild of freeing.OpenControl → answer_of r ≡ Accepted
      → u.stage ≡ FreeingChild of (freeing.SetRelease (handle_in r))
  unfolding fed with_reply with_freeing_answered with_freeing_begun
  after-open of is accepted =
      ap (λ (x : TrussState). x.stage) (ap (with_reply t r) is ∙ ap (with_freeing_begun t of r) accepted)

  after-set : (of n : ℕ) → t.stage ≡ FreeingChild of (freeing.SetRelease n)
      → u.stage ≡ FreeingChild of (freeing.Close n)
  unfolding fed with_reply with_freeing_answered
  after-set of n is = ap (λ (x : TrussState). x.stage) (ap (with_reply t r) is)

  closed-not : (of n : ℕ) (step : FreeingStep) → t.stage ≡ FreeingChild of (freeing.Close n)
      → u.stage ≡ FreeingChild pid step → ⊥
  unfolding fed with_reply with_freeing_answered
  closed-not of n step is at_it = let e = sym at_it ∙ ap (λ (x : TrussState). x.stage) (ap (with_reply t r) is) in cc

  control-not : (of : ℕ) (step : FreeingStep) → t.stage ≡ OpeningControl of → answer_of r ≡ Accepted
      → u.stage ≡ FreeingChild pid step → ⊥
  unfolding fed with_reply with_control_answered with_control
  control-not of step is accepted at_it =
      let e =
      sym at_it
      ∙ ap (λ (x : TrussState). x.stage) (ap (with_reply t r) is
      ∙ ap (with_control_answered t of r) accepted) in
      cc

  child-not : (parent of : ℕ) (step : FreeingStep) → t.stage ≡ OpeningChildControl parent of → answer_of r ≡ Accepted
      → u.stage ≡ FreeingChild pid step → ⊥
  unfolding fed with_reply with_child_control_answered with_child_control
  child-not parent of step is accepted at_it =
      let e =
      sym at_it
      ∙ ap (λ (x : TrussState). x.stage) (ap (with_reply t r) is
      ∙ ap (with_child_control_answered t parent of r) accepted) in
      cc

  -- the control file of a child that is set free was granted as such
  granted-freed : (step : FreeingStep) (id : ℕ) → answer_of r ≡ Accepted → u.stage ≡ FreeingChild pid step
      → next_call_of t ≡ Some (call.Open pid id file.Ctl WriteExcl) → t.stage ≡ FreeingChild pid freeing.OpenControl
  unfolding next_call_of call_of freeing_call
  granted-freed step id accepted at_it next = by t.stage refl next
    where
      by : (stage : Stage) → t.stage ≡ stage → call_of t stage ≡ Some (call.Open pid id file.Ctl WriteExcl)
          → t.stage ≡ FreeingChild pid freeing.OpenControl
      by (FreeingChild of freeing.OpenControl) is makes = is ∙ ap (λ n. FreeingChild n freeing.OpenControl) (cc)
      by (OpeningControl of) is makes = absurd (control-not of step is accepted at_it)
      by (OpeningChildControl parent of) is makes = absurd (child-not parent of step is accepted at_it)
      by (Opening place one) is makes = absurd (opening-other t.options (traced_at t place) one pid id makes)
      by (OpeningChild parent place one) is makes = absurd (child-other (traced_at t place) one pid id makes)
      by _ is makes = cc

  abbrev m_later : Modes
  m_later = modes_next pid t r m t.stage

  pub setting-later : (cm : ℕ) → u.stage ≡ FreeingChild pid (freeing.SetRelease cm) → m_later ≡ spared
  setting-later cm at_it = by (subst (FreedIs From) at_it keeps.freed)
    where
      by : From pid file.Ctl WriteExcl cm → m_later ≡ spared
      by (traced place within of) = absurd (not-traced (freeing.SetRelease cm) cm refl at_it place within of)
      by (granted accepted id next) =
          ap (modes_next pid t r m) (granted-freed (freeing.SetRelease cm) id accepted at_it next)
          ∙ ap (λ b. cond b (if_accepted (answer_of r) spared m) m) (eq-eqb pid pid refl)
          ∙ ap (λ x. if_accepted x spared m) accepted
      by (sets is) = absurd (let e = sym (after-set pid cm is) ∙ at_it in cc)
      by (closes is) = absurd (closed-not pid cm (freeing.SetRelease cm) is at_it)

  -- it is closed once PR_RLC was asked for
  pub closing-set : (cm : ℕ) → u.stage ≡ FreeingChild pid (freeing.Close cm)
      → t.stage ≡ FreeingChild pid (freeing.SetRelease cm)
  closing-set cm at_it = by (subst (FreedIs From) at_it keeps.freed)
    where
      by : From pid file.Ctl WriteExcl cm → t.stage ≡ FreeingChild pid (freeing.SetRelease cm)
      by (traced place within of) = absurd (not-traced (freeing.Close cm) cm refl at_it place within of)
      by (granted accepted id next) =
          absurd (let e = sym (after-open pid (granted-freed (freeing.Close cm) id accepted at_it next) accepted)
          ∙ at_it in cc)
      by (sets is) = is
      by (closes is) = absurd (closed-not pid cm (freeing.Close cm) is at_it)

  pub closing-later : (cm : ℕ) → t.stage ≡ FreeingChild pid (freeing.SetRelease cm) → m ≡ spared
      → answer_of r ≡ Accepted → m_later ≡ released
  closing-later cm is had accepted =
      ap (modes_next pid t r m) is ∙ ap (λ b. cond b (if_accepted (answer_of r) released m) m) (eq-eqb pid pid refl)
      ∙ ap (λ x. if_accepted x released m) accepted

-- ---- one entry

module _ (n k pid : ℕ) (t : TrussState) (s : TracedState) (m : Modes) (e : Entry) (some : pid ≢ 0) (r : Reaches k t s)
    (had : HasFreed pid t s m) (legal : IsLegalEntry n s e) where
  its-file : (cm : ℕ) (step : FreeingStep) → freed_control step ≡ Some cm → t.stage ≡ FreeingChild pid step
      → handle_of s.opens k cm ≡ Some (held_by k pid 0 file.Ctl WriteExcl)
  its-file cm step its at_it = let f = uses.freed-file k t s r.files pid cm step at_it its in f.is

  none-freed : HasFreed pid t (after s e) m
  none-freed = record {
    setting = had.setting;
    closing = λ cm q at_it now.
        let w =
        lived-before n s e pid k cm file.Ctl WriteExcl t r legal
        (its-file cm (freeing.Close cm) refl at_it) q now in
        had.closing cm w.0 at_it w.1;
  }

  module _ (x : Exchange) (next : next_call_of t ≡ Some x.call) (answered : IsAnswered k s x)
      (later : Reaches k (fed t x.reply) (after s e)) where
    calm : IsCalm (answer_of x.reply) (next_call_of t)
    calm =
        subst (IsCalm (answer_of x.reply)) (sym next)
        (calm-call (answer_of x.reply) x.call (answered-calm k s x answered))

    release-accepted : (cm : ℕ) (p : TracedProcess) → t.stage ≡ FreeingChild pid (freeing.SetRelease cm)
        → live_process s.system pid ≡ Some p → answer_of x.reply ≡ Accepted
    unfolding next_call_of call_of freeing_call
    release-accepted cm p at_it live =
        let same : message_call cm (message.Set rlc_mode) ≡ x.call =
        same_Some _ x.call (sym (ap (call_of t) at_it) ∙ next) in
        ap answer_of (sym answered.reply)
        ∙ release-granted s k cm (held_by k pid 0 file.Ctl WriteExcl)
        (its-file cm (freeing.SetRelease cm) refl at_it) refl p live some answered.answer
        (subst (λ (c : Call). answer_to s k c ≡ Some answered.answer) (sym same) answered.is)

    call-freed : HasFreed pid (fed t x.reply) (after s e) (modes_next pid t x.reply m t.stage)
    call-freed = record {
      setting = setting-later k pid t x.reply m s (after s e) r later calm;
      closing = λ cm q at_it now.
          let set = closing-set k pid t x.reply m s (after s e) r later calm cm at_it in
          let w =
          lived-before n s e pid k cm file.Ctl WriteExcl t r legal
          (its-file cm (freeing.SetRelease cm) refl set) q now in
          closing-later k pid t x.reply m s (after s e) r later calm cm set (had.setting cm set)
          (release-accepted cm w.0 set w.1);
    }

  pub entry-freed : MakesNext t (exchange_of k e)
      → HasFreed pid (fed_by_entry k t e) (after s e) (modes_told pid t m (exchange_of k e))
  entry-freed next = by (exchange_of k e) refl next (entry-reaches n k t s e r legal next)
    where
      by : (x : Option Exchange) → exchange_of k e ≡ x → MakesNext t x → Reaches k (with_exchange t x) (after s e)
          → HasFreed pid (with_exchange t x) (after s e) (modes_told pid t m x)
      by None is makes later = none-freed
      by (Some x) is makes later = call-freed x makes (exchange-answered n k s e x legal is) later
