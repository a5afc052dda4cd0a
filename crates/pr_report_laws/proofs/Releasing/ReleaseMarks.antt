use Rattle.std.proofs.Common.{◌≡◌, ◌==◌, ◌&&◌, ◌<◌, ◌+◌, ℕ, Bool, true, false, cond, Some, List, [], ◌∷◌, ◌++◌, length, refl, sym, subst, ap, ◌∙◌, arith, inl, inr}
use Rattle.std.proofs.lemmas.Bool.{cases_eq, cases_lt, eq-eqb, eqb-true, false≢true}
use Rattle.std.proofs.lemmas.List.{get_or_push}
use Rattle.std.proofs.lemmas.List.Edits.{get_or-remove_above, get_or-remove_below, length-remove}
use Rattle.std.proofs.lemmas.Option.{same_Some}
use Rattle.std.specs.List.{remove}
use Rattle.pr_model.specs.Replies.{handle_in}
use Rattle.pr_model.specs.State.{TracedState}
use Rattle.pr_model.specs.declared.calls.Reply.{Reply}
use Rattle.pr_truss.specs.Children.{child_learnt, child_step_after, with_child_control, with_child_control_answered, with_freeing_answered, with_freeing_begun}
use Rattle.pr_truss.specs.Feeding.{fed, with_reply}
use Rattle.pr_truss.specs.Openings.{learnt, step_after, with_control, with_control_answered}
use Rattle.pr_truss.specs.Processes.{newly_traced}
use Rattle.pr_truss.specs.Replies.{answer_of}
use Rattle.pr_truss.specs.Trusses.{TrussState, nobody, traced_at, with_stage, with_traced}
use Rattle.pr_truss.specs.declared.processes.Traced.{Traced}
use Rattle.pr_truss.specs.declared.replies.Answer.{Answer as Answered}
use Rattle.pr_truss.specs.declared.replies.Answer.TheVariants.{Accepted, Gone, Interrupted, Refused}
use Rattle.pr_truss.specs.declared.stages.ChildStep.{ChildStep}
use Rattle.pr_truss.specs.declared.stages.ChildStep.TheVariants as child
use Rattle.pr_truss.specs.declared.stages.FreeingStep.TheVariants as freeing
use Rattle.pr_truss.specs.declared.stages.OpeningStep.{OpeningStep}
use Rattle.pr_truss.specs.declared.stages.OpeningStep.TheVariants as opening
use Rattle.pr_truss.specs.declared.stages.Stage.{Stage}
use Rattle.pr_truss.specs.declared.stages.Stage.TheVariants.{OpeningControl, Opening, OpeningChildControl, OpeningChild, Closing, FreeingChild}
use Rattle.pr_truss_laws.proofs.Files.HeldLemmas.{Fits, IsLast, at_place, of_stage, set-at, unit}
use Rattle.pr_report_laws.proofs.Files.FileLaws.{free-apart, has-each}
use Rattle.pr_report_laws.proofs.Files.FileUses as uses
use Rattle.pr_report_laws.proofs.Replies.NextStages.{opens}
use Rattle.pr_report_laws.proofs.Replies.OpeningParts.{learnt-pid}
use Rattle.pr_report_laws.proofs.Replies.StageChanges.{Comes, How, Opens, StaysAt, at, child_goes, child_starts, free, goes, less, no, starts}
use Rattle.pr_report_laws.proofs.Replies.StageReplies.{fed-comes}
use Rattle.pr_report_laws.proofs.Invariant.StandLemmas.{Stands, StandsAt, StandsOpening}
use Rattle.pr_report_laws.proofs.Replies.TracedPlaces.{opened-length}
use Rattle.pr_report_laws.proofs.Files.WatchHistories.{Reaches}
use Rattle.pr_report_laws.specs.Releases.{Modes, if_accepted, modes_next, released, spared}
use Rattle.pr_report_laws.specs.Watching.{is_away, place_of}

-- Truss has set the modes of each process that it traces: of one that it was given, once its opening has come to its
-- stop; and of the child of a fork, once its first step is done.

-- what holds of the modes before a step of an opening
abbrev pub ModesAsked : Modes → OpeningStep → Type 0
ModesAsked m opening.OpenStatus = m ≡ spared
ModesAsked m opening.OpenLstatus = m ≡ spared
ModesAsked m opening.OpenMemory = m ≡ spared
ModesAsked m opening.ClearModes = m ≡ spared
ModesAsked m opening.SetRelease = m ≡ spared
ModesAsked m _ = m ≡ released

abbrev pub ChildAsked : Modes → ChildStep → Type 0
ChildAsked m child.SetRelease = m ≡ spared
ChildAsked m _ = m ≡ released

pub record HasSet (pid : ℕ) (t : TrussState) (m : Modes) : Type 0 where
  pub attached : (place : ℕ) → place < length t.traced → (traced_at t place).pid ≡ pid
      → (traced_at t place).attached ≡ true → m ≡ released
  pub given : (place : ℕ) (step : OpeningStep) → t.stage ≡ Opening place step → (traced_at t place).pid ≡ pid
      → ModesAsked m step
  pub followed : (parent place : ℕ) (step : ChildStep) → t.stage ≡ OpeningChild parent place step
      → (traced_at t place).pid ≡ pid → ChildAsked m step

pub counts-or : (b : Bool) (x : Answered) (n m : Modes) → m ≡ released → (b ≡ true → x ≡ Accepted → n ≡ released)
    → cond b (if_accepted x n m) m ≡ released
counts-or true Accepted n m is now = now refl refl
counts-or true Interrupted n m is now = is
counts-or true Gone n m is now = is
counts-or true (Refused errno) n m is now = is
counts-or false x n m is now = is

at-end : (ts : List Traced) (u : Traced) → at_place (ts ++ u ∷ []) (length ts) ≡ u
at-end ts u = get_or_push ts u nobody (length ts) refl

same-opening : {i j : ℕ} {x y : OpeningStep} → Opening i x ≡ Opening j y → (i ≡ j) × (x ≡ y)
same-opening is = (cc, cc)

same-child : {i j p q : ℕ} {x y : ChildStep} → OpeningChild p i x ≡ OpeningChild q j y → (i ≡ j) × (x ≡ y)
same-child is = (cc, cc)

-- ---- one reply

module _ (k pid : ℕ) (t : TrussState) (r : Reply) (m : Modes) (s v : TracedState) (before : Reaches k t s)
    (after_it : Reaches k (fed t r) v) (j : HasSet pid t m) where
  abbrev u : TrussState
  u = fed t r

  abbrev m_later : Modes
  m_later = modes_next pid t r m t.stage

  one-later : (x y : ℕ) → x < length u.traced → y < length u.traced → (traced_at u x).pid ≡ (traced_at u y).pid → x ≡ y
  one-later x y here there same =
      let f = after_it.files in
      same_Some x y (sym (f.one x here) ∙ ap (place_of u) same ∙ f.one y there)

  one-before : (x y : ℕ) → x < length t.traced → y < length t.traced → (traced_at t x).pid ≡ (traced_at t y).pid → x ≡ y
  one-before x y here there same =
      let f = before.files in
      same_Some x y (sym (f.one x here) ∙ ap (place_of t) same ∙ f.one y there)

  -- ---- a process that is traced is not opened again

  module _ (place : ℕ) (within : place < length t.traced) (inside : place < length u.traced)
      (of : (traced_at u place).pid ≡ pid) where
    -- no process is there twice
    not-new : (new : Traced) → u.traced ≡ t.traced ++ new ∷ [] → new.pid ≡ pid → ⊥
    not-new new is same =
        let last : at_place u.traced (length t.traced) ≡ new =
        ap (λ (ts : List Traced). at_place ts (length t.traced)) is ∙ at-end t.traced new in
        let long : length t.traced < length u.traced =
        omega (arith, ap (λ (ts : List Traced). length ts) is, opened-length t new) in
        let here : place ≡ length t.traced =
        one-later place (length t.traced) inside long (of ∙ sym same ∙ ap (λ (x : Traced). x.pid) (sym last)) in
        omega (arith, within, here)

    control-not : (target : ℕ) → t.stage ≡ OpeningControl target → answer_of r ≡ Accepted → target ≡ pid → ⊥
    unfolding fed with_reply with_control_answered with_control newly_traced
    control-not target is accepted same =
        not-new (newly_traced target (handle_in r)) (ap (λ (x : TrussState). x.traced) (ap (with_reply t r) is
        ∙ ap (with_control_answered t target r) accepted)) same

    child-not : (parent target : ℕ) → t.stage ≡ OpeningChildControl parent target → answer_of r ≡ Accepted
        → target ≡ pid → ⊥
    unfolding fed with_reply with_child_control_answered with_child_control newly_traced
    child-not parent target is accepted same =
        not-new (newly_traced target (handle_in r)) (ap (λ (x : TrussState). x.traced) (ap (with_reply t r) is
        ∙ ap (with_child_control_answered t parent target r) accepted)) same

    freed-not : (target : ℕ) → t.stage ≡ FreeingChild target freeing.OpenControl → answer_of r ≡ Accepted
        → target ≡ pid → ⊥
    unfolding fed with_reply with_freeing_answered with_freeing_begun
    freed-not target is accepted same =
        let files = after_it.files in
        let lawful = after_it.lawful in
        let comes : u.stage ≡ FreeingChild target (freeing.SetRelease (handle_in r)) =
        ap (λ (x : TrussState). x.stage) (ap (with_reply t r) is ∙ ap (with_freeing_begun t target r) accepted) in
        free-apart k u v after_it.owns lawful.exclusive (has-each k u v files) target (handle_in r)
        (ap (of_stage target (handle_in r)) comes
        ∙ ap (λ b. unit b) (ap (λ b. b && (handle_in r == handle_in r)) (eq-eqb target target refl)
        ∙ eq-eqb (handle_in r) (handle_in r) refl))
        (uses.freed-file k u v files target (handle_in r) (freeing.SetRelease (handle_in r)) comes refl) place inside
        (of ∙ sym same)

  -- what was so of a process that is attached is so
  attached-keeps : (place : ℕ) → place < length t.traced → place < length u.traced → (traced_at t place).pid ≡ pid
      → (traced_at u place).pid ≡ pid → (traced_at t place).attached ≡ true → m_later ≡ released
  attached-keeps place within inside was of on = by t.stage refl
    where
      has : m ≡ released
      has = j.attached place within was on

      free-now : (q : ℕ) → t.stage ≡ Opening q opening.ClearModes → (traced_at t q).pid ≡ pid → ⊥
      free-now q is same =
          let fits : Fits t.traced (Opening q opening.ClearModes) =
          let w = before.owns in
          subst (Fits t.traced) is w.fits in
          let stands : Stands t.traced t.leaving t.stage = let f = before.files in f.stands in
          let st : StandsOpening (traced_at t q) opening.ClearModes = subst (StandsAt t.traced) is stands.at in
          false≢true (sym st.fresh.free
          ∙ ap (λ n. (traced_at t n).attached) (one-before q place fits.0 within (same ∙ sym was)) ∙ on)

      by : (stage : Stage) → t.stage ≡ stage → modes_next pid t r m stage ≡ released
      by (OpeningControl target) is =
          counts-or (target == pid) (answer_of r) spared m has
          (λ same accepted. absurd
          (control-not place within inside of target is accepted (eqb-true target pid same)))
      by (OpeningChildControl parent target) is =
          counts-or (target == pid) (answer_of r) spared m has
          (λ same accepted. absurd
          (child-not place within inside of parent target is accepted (eqb-true target pid same)))
      by (FreeingChild target freeing.OpenControl) is =
          counts-or (target == pid) (answer_of r) spared m has
          (λ same accepted. absurd (freed-not place within inside of target is accepted (eqb-true target pid same)))
      by (Opening q opening.ClearModes) is =
          counts-or ((traced_at t q).pid == pid) (answer_of r) spared m has
          (λ same accepted. absurd (free-now q is (eqb-true (traced_at t q).pid pid same)))
      by (Opening q opening.SetRelease) is =
          counts-or ((traced_at t q).pid == pid) (answer_of r) released m has (λ same accepted. refl)
      by (OpeningChild parent q child.SetRelease) is =
          counts-or ((traced_at t q).pid == pid) (answer_of r) released m has (λ same accepted. refl)
      by (FreeingChild target (freeing.SetRelease control)) is =
          counts-or (target == pid) (answer_of r) released m has (λ same accepted. refl)
      by _ is = has

  stays-set : (place : ℕ) → StaysAt t u place → place < length u.traced → (traced_at u place).pid ≡ pid
      → (traced_at u place).attached ≡ true → m_later ≡ released
  stays-set place st inside of on =
      let within = st.was inside in
      attached-keeps place within inside (sym (st.pid within) ∙ of) of (sym (st.attached within) ∙ on)

  -- ---- the next step of an opening

  set-same : (q : ℕ) (x : Traced) → q < length t.traced → at_place (with_traced t q x).traced q ≡ x
  set-same q x within = set-at t.traced q x within

  -- the process that truss was given
  given-next : (q : ℕ) (step next : OpeningStep) → t.stage ≡ Opening q step → answer_of r ≡ Accepted
      → step_after t.options r step ≡ Some next → (traced_at t q).pid ≡ pid → ModesAsked m_later next
  unfolding step_after
  given-next q step next is accepted after_step of =
      subst (λ x. ModesAsked (modes_next pid t r m x) next) (sym is) (by step (j.given q step is of) after_step)
    where
      to-next : (n x : OpeningStep) → (o : Modes) → Some x ≡ Some next → ModesAsked o x → ModesAsked o next
      to-next n x o same asked = subst (ModesAsked o) (same_Some x next same) asked

      mine : ((traced_at t q).pid == pid) ≡ true
      mine = eq-eqb (traced_at t q).pid pid of

      counted : (n : Modes) → cond ((traced_at t q).pid == pid) (if_accepted (answer_of r) n m) m ≡ n
      counted n = ap (λ b. cond b (if_accepted (answer_of r) n m) m) mine ∙ ap (λ x. if_accepted x n m) accepted

      last : (b : Bool) → Some (cond b opening.Follow opening.Start) ≡ Some next → m ≡ released → ModesAsked m next
      last true same has = to-next next opening.Follow m same has
      last false same has = to-next next opening.Start m same has

      by : (x : OpeningStep) → ModesAsked m x → step_after t.options r x ≡ Some next
          → ModesAsked (modes_next pid t r m (Opening q x)) next
      by opening.OpenStatus asked same = to-next next opening.OpenLstatus m same asked
      by opening.OpenLstatus asked same = to-next next opening.OpenMemory m same asked
      by opening.OpenMemory asked same = to-next next opening.ClearModes m same asked
      by opening.ClearModes asked same = to-next next opening.SetRelease _ same (counted spared)
      by opening.SetRelease asked same = to-next next opening.Stop _ same (counted released)
      by opening.Stop asked same = subst (ModesAsked m) (same_Some _ next same) asked
      by (opening.AwaitStop until) asked same = to-next next opening.ReadLwps m same asked
      by opening.ReadLwps asked same = to-next next opening.TraceSignals m same asked
      by opening.TraceSignals asked same = to-next next opening.TraceFaults m same asked
      by opening.TraceFaults asked same = to-next next opening.TraceEntries m same asked
      by opening.TraceEntries asked same = to-next next opening.TraceExits m same asked
      by opening.TraceExits asked same = last t.options.follow same asked
      by opening.Follow asked same = to-next next opening.Start m same asked
      by opening.Start asked same = cc

  -- the child of a fork
  child-next : (parent q : ℕ) (step next : ChildStep) → t.stage ≡ OpeningChild parent q step → answer_of r ≡ Accepted
      → child_step_after step ≡ Some next → (traced_at t q).pid ≡ pid → m_later ≡ released
  child-next parent q step next is accepted after_step of =
      ap (modes_next pid t r m) is ∙ by step (j.followed parent q step is of)
    where
      by : (x : ChildStep) → ChildAsked m x → modes_next pid t r m (OpeningChild parent q x) ≡ released
      by child.SetRelease asked =
          ap (λ b. cond b (if_accepted (answer_of r) released m) m) (eq-eqb (traced_at t q).pid pid of)
          ∙ ap (λ x. if_accepted x released m) accepted
      by _ asked = asked

  child-later : (step next : ChildStep) → child_step_after step ≡ Some next → m_later ≡ released
      → ChildAsked m_later next
  unfolding child_step_after
  child-later child.SetRelease next after_step has =
      subst (ChildAsked m_later) (same_Some child.OpenStatus next after_step) has
  child-later child.OpenStatus next after_step has =
      subst (ChildAsked m_later) (same_Some child.OpenLstatus next after_step) has
  child-later child.OpenLstatus next after_step has =
      subst (ChildAsked m_later) (same_Some child.OpenMemory next after_step) has
  child-later child.OpenMemory next after_step has =
      subst (ChildAsked m_later) (same_Some child.Start next after_step) has
  child-later child.Start next after_step has = cc

  -- a process is attached that was, or once its stop was awaited
  learnt-on : (q : ℕ) (step : OpeningStep) → t.stage ≡ Opening q step → q < length t.traced → q < length u.traced
      → (traced_at t q).pid ≡ pid → (traced_at u q).pid ≡ pid → (learnt (traced_at t q) r step).attached ≡ true
      → m_later ≡ released
  unfolding learnt
  learnt-on q step is within inside was of on = by step is on
    where
      old : (traced_at t q).attached ≡ true → m_later ≡ released
      old attached = attached-keeps q within inside was of attached

      by : (x : OpeningStep) → t.stage ≡ Opening q x → (learnt (traced_at t q) r x).attached ≡ true → m_later ≡ released
      by opening.OpenStatus same attached = old attached
      by opening.OpenLstatus same attached = old attached
      by opening.OpenMemory same attached = old attached
      by opening.ClearModes same attached = old attached
      by opening.SetRelease same attached = old attached
      by opening.Stop same attached = old attached
      by (opening.AwaitStop until) same attached =
          ap (modes_next pid t r m) same ∙ j.given q (opening.AwaitStop until) same was
      by _ same attached = old attached

  -- ---- all processes

  opening-within : (q : ℕ) (step : OpeningStep) → t.stage ≡ Opening q step → q < length t.traced
  opening-within q step is =
      let w = before.owns in
      let fits : Fits t.traced (Opening q step) = subst (Fits t.traced) is w.fits in
      fits.0

  child-within : (parent q : ℕ) (step : ChildStep) → t.stage ≡ OpeningChild parent q step → q < length t.traced
  child-within parent q step is =
      let w = before.owns in
      let fits : Fits t.traced (OpeningChild parent q step) = subst (Fits t.traced) is w.fits in
      let last : IsLast t.traced parent q = fits.0 in
      omega (arith, last.last)

  child-pid : (x : Traced) (step : ChildStep) → (child_learnt x r step).pid ≡ x.pid
  unfolding child_learnt
  child-pid x child.SetRelease = refl
  child-pid x _ = refl

  -- the process that is opened now
  new-at : (place : ℕ) (new : Traced) → u.traced ≡ t.traced ++ new ∷ [] → length t.traced ≡ place
      → at_place u.traced place ≡ new
  new-at place new is same =
      ap (λ (ts : List Traced). at_place ts place) is ∙ ap (at_place (t.traced ++ new ∷ [])) (sym same)
      ∙ at-end t.traced new

  given-at : (q : ℕ) (step next : OpeningStep) → t.stage ≡ Opening q step
      → u ≡ with_stage (with_traced t q (learnt (traced_at t q) r step)) (Opening q next)
      → at_place u.traced q ≡ learnt (traced_at t q) r step
  given-at q step next is comes =
      ap (λ (x : TrussState). at_place x.traced q) comes
      ∙ set-same q (learnt (traced_at t q) r step) (opening-within q step is)

  child-at : (parent q : ℕ) (step next : ChildStep) → t.stage ≡ OpeningChild parent q step
      → u ≡ with_stage (with_traced t q (child_learnt (traced_at t q) r step)) (OpeningChild parent q next)
      → at_place u.traced q ≡ child_learnt (traced_at t q) r step
  child-at parent q step next is comes =
      ap (λ (x : TrussState). at_place x.traced q) comes
      ∙ set-same q (child_learnt (traced_at t q) r step) (child-within parent q step is)

  attached-later : How t r u → (place : ℕ) → place < length u.traced → (traced_at u place).pid ≡ pid
      → (traced_at u place).attached ≡ true → m_later ≡ released
  unfolding with_control with_child_control newly_traced
  attached-later (free places f begins) place inside of on = stays-set place (places place) inside of on
  attached-later (less q next is removed f) place inside of on = ap (modes_next pid t r m) is ∙ has
    where
      q-within : q < length t.traced
      q-within =
          let w = before.owns in
          let fits : Fits t.traced (Closing q next) = subst (Fits t.traced) is w.fits in
          fits.0

      now : at_place u.traced place ≡ at_place (remove t.traced q) place
      now = ap (λ (ts : List Traced). at_place ts place) removed

      short : place < length (remove t.traced q)
      short = subst (λ (ts : List Traced). place < length ts) removed inside

      stood : (p : ℕ) → p < length t.traced → at_place t.traced p ≡ at_place u.traced place → m ≡ released
      stood p within same =
          j.attached p within (ap (λ (x : Traced). x.pid) same ∙ of) (ap (λ (x : Traced). x.attached) same ∙ on)

      has : m ≡ released
      has = elim (cases_lt place q) [
        | inl below ↦ stood place (omega (arith, below, q-within))
            (sym (get_or-remove_below t.traced q nobody place below q-within) ∙ sym now)
        | inr above ↦ stood (place + 1) (omega (arith, short, length-remove t.traced q q-within))
            (sym (get_or-remove_above t.traced q nobody place above q-within) ∙ sym now)
      ]
  attached-later (at q a) place inside of on = elim (cases_eq place q) [
    | inr apart ↦ stays-set place (a.others place apart) inside of on
    | inl same ↦ by a.opens (sym same)
  ]
    where
      by : Opens t r q u → q ≡ place → m_later ≡ released
      by (no none stays) same = stays-set place (subst (StaysAt t u) same stays) inside of on
      by (starts target is accepted comes) same =
          absurd (false≢true
          (ap (λ (x : Traced). x.attached)
          (sym (new-at place (newly_traced target (handle_in r)) (ap (λ (x : TrussState). x.traced) comes)
          (eqb-true (length t.traced) place
          (sym (ap (λ (x : TrussState). is_away x.leaving x.stage place) comes)
          ∙ subst (λ n. is_away u.leaving u.stage n ≡ true) same a.away)))) ∙ on))
      by (child_starts parent target is accepted comes) same =
          absurd (false≢true
          (ap (λ (x : Traced). x.attached)
          (sym (new-at place (newly_traced target (handle_in r)) (ap (λ (x : TrussState). x.traced) comes)
          (eqb-true (length t.traced) place
          (sym (ap (λ (x : TrussState). is_away x.leaving x.stage place) comes)
          ∙ subst (λ n. is_away u.leaving u.stage n ≡ true) same a.away)))) ∙ on))
      by (goes step next is accepted some comes) same =
          let here = given-at q step next is comes in
          let mine : (traced_at u q).pid ≡ pid = ap (λ n. (traced_at u n).pid) same ∙ of in
          learnt-on q step is (opening-within q step is) (subst (λ n. n < length u.traced) (sym same) inside)
          (sym (learnt-pid (traced_at t q) r step) ∙ ap (λ (x : Traced). x.pid) (sym here) ∙ mine) mine
          (ap (λ (x : Traced). x.attached) (sym here) ∙ ap (λ n. (traced_at u n).attached) same ∙ on)
      by (child_goes parent step next is accepted some comes) same =
          let here = child-at parent q step next is comes in
          child-next parent q step next is accepted some (sym (child-pid (traced_at t q) step)
          ∙ ap (λ (x : Traced). x.pid) (sym here) ∙ ap (λ n. (traced_at u n).pid) same ∙ of)

  opens-none : {X : Type 0} (stage : Stage) → u.stage ≡ stage → opens stage ≡ true → opens u.stage ≡ false → X
  opens-none stage is on off = absurd (false≢true (sym off ∙ ap opens is ∙ on))

  given-later : How t r u → (place : ℕ) (step : OpeningStep) → u.stage ≡ Opening place step
      → (traced_at u place).pid ≡ pid → ModesAsked m_later step
  unfolding with_control with_child_control newly_traced
  given-later (free places f begins) place step at_it of = opens-none (Opening place step) at_it refl f.opens
  given-later (less q next is removed f) place step at_it of = opens-none (Opening place step) at_it refl f.opens
  given-later (at q a) place step at_it of = by a.opens
    where
      by : Opens t r q u → ModesAsked m_later step
      by (no none stays) = opens-none (Opening place step) at_it refl none
      by (starts target is accepted comes) =
          let e = same-opening (sym (ap (λ (x : TrussState). x.stage) comes) ∙ at_it) in
          let mine : target ≡ pid =
          ap (λ (x : Traced). x.pid)
          (sym (new-at place (newly_traced target (handle_in r))
          (ap (λ (x : TrussState). x.traced) comes) e.0)) ∙ of in
          let m_is : m_later ≡ spared =
          ap (modes_next pid t r m) is
          ∙ ap (λ b. cond b (if_accepted (answer_of r) spared m) m) (eq-eqb target pid mine)
          ∙ ap (λ x. if_accepted x spared m) accepted in
          subst (ModesAsked m_later) e.1 m_is
      by (child_starts parent target is accepted comes) =
          absurd (let e = sym (ap (λ (x : TrussState). x.stage) comes) ∙ at_it in cc)
      by (goes before_it next is accepted some comes) =
          let e = same-opening (sym (ap (λ (x : TrussState). x.stage) comes) ∙ at_it) in
          let here = given-at q before_it next is comes in
          subst (ModesAsked m_later) e.1
          (given-next q before_it next is accepted some (sym (learnt-pid (traced_at t q) r before_it)
          ∙ ap (λ (x : Traced). x.pid) (sym here) ∙ ap (λ n. (traced_at u n).pid) e.0 ∙ of))
      by (child_goes parent before_it next is accepted some comes) =
          absurd (let e = sym (ap (λ (x : TrussState). x.stage) comes) ∙ at_it in cc)

  followed-later : How t r u → (parent place : ℕ) (step : ChildStep) → u.stage ≡ OpeningChild parent place step
      → (traced_at u place).pid ≡ pid → ChildAsked m_later step
  unfolding with_control with_child_control newly_traced
  followed-later (free places f begins) parent place step at_it of =
      opens-none (OpeningChild parent place step) at_it refl f.opens
  followed-later (less q next is removed f) parent place step at_it of =
      opens-none (OpeningChild parent place step) at_it refl f.opens
  followed-later (at q a) parent place step at_it of = by a.opens
    where
      by : Opens t r q u → ChildAsked m_later step
      by (no none stays) = opens-none (OpeningChild parent place step) at_it refl none
      by (starts target is accepted comes) = absurd (let e = sym (ap (λ (x : TrussState). x.stage) comes) ∙ at_it in cc)
      by (goes before_it next is accepted some comes) =
          absurd (let e = sym (ap (λ (x : TrussState). x.stage) comes) ∙ at_it in cc)
      by (child_starts from target is accepted comes) =
          let e = same-child (sym (ap (λ (x : TrussState). x.stage) comes) ∙ at_it) in
          let mine : target ≡ pid =
          ap (λ (x : Traced). x.pid)
          (sym (new-at place (newly_traced target (handle_in r))
          (ap (λ (x : TrussState). x.traced) comes) e.0)) ∙ of in
          let m_is : m_later ≡ spared =
          ap (modes_next pid t r m) is
          ∙ ap (λ b. cond b (if_accepted (answer_of r) spared m) m) (eq-eqb target pid mine)
          ∙ ap (λ x. if_accepted x spared m) accepted in
          subst (ChildAsked m_later) e.1 m_is
      by (child_goes from before_it next is accepted some comes) =
          let e = same-child (sym (ap (λ (x : TrussState). x.stage) comes) ∙ at_it) in
          let here = child-at from q before_it next is comes in
          subst (ChildAsked m_later) e.1
          (child-later before_it next some
          (child-next from q before_it next is accepted some (sym (child-pid (traced_at t q) before_it)
          ∙ ap (λ (x : Traced). x.pid) (sym here) ∙ ap (λ n. (traced_at u n).pid) e.0 ∙ of)))

  pub fed-set : HasSet pid u m_later
  fed-set =
      let w = before.owns in
      let f = before.files in
      let stands : Stands t.traced t.leaving t.stage = f.stands in
      let comes : Comes t r u = fed-comes t r w.fits stands.leaves in
      record { attached = attached-later comes.how; given = given-later comes.how; followed = followed-later comes.how }
