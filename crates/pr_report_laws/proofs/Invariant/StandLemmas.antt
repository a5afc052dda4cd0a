use Rattle.std.proofs.Common.{◌≡◌, ◌≢◌, ◌⊎◌, ◌<◌, ◌+◌, ◌++◌, ℕ, Bool, true, false, Option, Some, None, List, [], ◌∷◌, length, refl, sym, subst, ◌∙◌, arith, inl, inr}
use Rattle.std.proofs.lemmas.Bool.{cases_eq, cases_lt, false≢true}
use Rattle.std.proofs.lemmas.List.{get_or-set_other, get_or_append_left, length-append, length-set}
use Rattle.std.proofs.lemmas.List.Edits.{get_or-remove_above, get_or-remove_below, length-remove}
use Rattle.std.specs.List.{slice_set, remove}
use Rattle.pr_truss.specs.Trusses.{nobody}
use Rattle.pr_truss.specs.declared.processes.Traced.{Traced}
use Rattle.pr_truss.specs.declared.stages.AfterClosing.TheVariants.{OpenNext, GoOn, RunParent}
use Rattle.pr_truss.specs.declared.stages.ChildStep.{ChildStep}
use Rattle.pr_truss.specs.declared.stages.ChildStep.TheVariants as child
use Rattle.pr_truss.specs.declared.stages.OpeningStep.{OpeningStep}
use Rattle.pr_truss.specs.declared.stages.OpeningStep.TheVariants as opening
use Rattle.pr_truss.specs.declared.stages.Stage.{Stage}
use Rattle.pr_truss.specs.declared.stages.Stage.TheVariants.{Spawning, OpeningControl, Opening, Polling, ReadingStatus, ReadingText, OpeningChildControl, OpeningChild, Running, Closing, Unfollowing, ReadingLwps, FreeingChild, Finished}
use Rattle.pr_truss_laws.proofs.Files.HeldLemmas.{at_place, set-at}

-- How the processes of truss stand beside its stage: which of them are attached, which of their files are open, and
-- whether truss leaves.

-- ---- what holds of each process, and of each but one

abbrev pub Each : (Traced → Type 0) → List Traced → Type 0
Each P ts = (place : ℕ) → place < length ts → P (at_place ts place)

abbrev pub EachBut : (Traced → Type 0) → List Traced → ℕ → Type 0
EachBut P ts but = (place : ℕ) → place < length ts → place ≢ but → P (at_place ts place)

module _ (P : Traced → Type 0) where
  pub each-but : (ts : List Traced) (but : ℕ) → Each P ts → EachBut P ts but
  each-but ts but e place within other = e place within

  pub each-join : (ts : List Traced) (but : ℕ) → EachBut P ts but → P (at_place ts but) → Each P ts
  each-join ts but e here place within =
      elim (cases_eq place but) [
        | inl same ↦ subst (λ n. P (at_place ts n))
            (sym same) here
        | inr apart ↦ e place within apart
      ]

  -- one process becomes another
  pub but-set : (ts : List Traced) (but : ℕ) (u : Traced) → EachBut P ts but → EachBut P (slice_set ts but u) but
  but-set ts but u e place within other =
      subst P (sym (get_or-set_other ts but place u nobody other)) (e place (omega (arith, length-set ts but u)) other)

  pub each-set : (ts : List Traced) (but : ℕ) (u : Traced) → but < length ts → EachBut P ts but → P u
      → Each P (slice_set ts but u)
  each-set ts but u there e here =
      each-join (slice_set ts but u) but (but-set ts but u e) (subst P (sym (set-at ts but u there)) here)

  -- one process more
  pub but-append : (ts : List Traced) (u : Traced) → Each P ts → EachBut P (ts ++ u ∷ []) (length ts)
  but-append ts u e place within other =
      let before : place < length ts = omega (arith, length-append ts (u ∷ [])) in
      subst P (sym (get_or_append_left ts (u ∷ []) nobody place before)) (e place before)

  pub each-append : (ts : List Traced) (u : Traced) → Each P ts → P (at_place (ts ++ u ∷ []) (length ts))
      → Each P (ts ++ u ∷ [])
  each-append ts u e here = each-join (ts ++ u ∷ []) (length ts) (but-append ts u e) here

  -- one process less
  pub each-remove : (ts : List Traced) (but : ℕ) → but < length ts → EachBut P ts but → Each P (remove ts but)
  each-remove ts but there e place within =
      elim (cases_lt place but) [
        | inl below ↦ subst P (sym (get_or-remove_below ts but nobody place below there))
            (e place (omega arith) (λ same. absurd (omega arith)))
        | inr above ↦ subst P (sym (get_or-remove_above ts but nobody place above there))
            (e (place + 1) (omega (arith, length-remove ts but there)) (λ same. absurd (omega arith)))
      ]

pub each-weaker : (P Q : Traced → Type 0) → ((u : Traced) → P u → Q u) → (ts : List Traced) → Each P ts → Each Q ts
each-weaker P Q weaker ts e place within = weaker (at_place ts place) (e place within)

pub but-weaker : (P Q : Traced → Type 0) → ((u : Traced) → P u → Q u) → (ts : List Traced) (but : ℕ) → EachBut P ts but
    → EachBut Q ts but
but-weaker P Q weaker ts but e place within other = weaker (at_place ts place) (e place within other)

-- ---- how one process stands

-- the handle of a file is known
pub record IsThere (o : Option ℕ) : Type 0 where
  pub number : ℕ
  pub is : o ≡ Some number

-- the files beside its control file are open
pub record AreOpen (u : Traced) : Type 0 where
  pub status : IsThere u.status
  pub lstatus : IsThere u.lstatus
  pub memory : IsThere u.memory

-- truss has not attached it yet, and has looked at no stop of it
pub record IsNew (u : Traced) : Type 0 where
  pub free : u.attached ≡ false
  pub unseen : u.seen ≡ false

-- It is attached with all its files, and each stop that was looked at was run.
pub record IsAttached (u : Traced) : Type 0 where
  pub attached : u.attached ≡ true
  pub unseen : u.seen ≡ false
  pub opened : AreOpen u

-- truss leaves, and had not attached it before
pub record IsLeftOut (leaving : Bool) (u : Traced) : Type 0 where
  pub leaves : leaving ≡ true
  pub free : u.attached ≡ false

-- a process that truss neither opens nor closes
abbrev pub Rests : Bool → Traced → Type 0
Rests leaving u = IsAttached u ⊎ IsLeftOut leaving u

abbrev pub IsUnseen : Traced → Type 0
IsUnseen u = u.attached ≡ true → u.seen ≡ false

pub rest-unseen : (leaving : Bool) (u : Traced) → Rests leaving u → IsUnseen u
rest-unseen leaving u (inl w) is = w.unseen
rest-unseen leaving u (inr r) is = absurd (false≢true (sym r.free ∙ is))

pub rest-attached : (leaving : Bool) (u : Traced) → Rests leaving u → u.attached ≡ true → IsAttached u
rest-attached leaving u (inl w) is = w
rest-attached leaving u (inr r) is = absurd (false≢true (sym r.free ∙ is))

pub rest-stays : (leaving : Bool) (u : Traced) → Rests leaving u → leaving ≡ false → IsAttached u
rest-stays leaving u (inl w) is = w
rest-stays leaving u (inr r) is = absurd (false≢true (sym is ∙ r.leaves))

pub rest-leaves : (leaving : Bool) (u : Traced) → Rests leaving u → Rests true u
rest-leaves leaving u (inl w) = inl w
rest-leaves leaving u (inr r) = inr (record { leaves = refl; free = r.free })

-- the old stops of a process are counted down
pub old-attached : (u : Traced) (old : ℕ) → IsAttached u → IsAttached (record u { old = old })
old-attached u old w = record {
  attached = w.attached;
  unseen = w.unseen;
  opened = record { status = w.opened.status; lstatus = w.opened.lstatus; memory = w.opened.memory };
}

-- ---- the process that a step opens

pub record HasStatusOpen (u : Traced) : Type 0 where
  pub fresh : IsNew u
  pub status : IsThere u.status

pub record HasLstatusOpen (u : Traced) : Type 0 where
  pub fresh : IsNew u
  pub status : IsThere u.status
  pub lstatus : IsThere u.lstatus

pub record HasMemoryOpen (u : Traced) : Type 0 where
  pub fresh : IsNew u
  pub opened : AreOpen u

abbrev pub StandsOpening : Traced → OpeningStep → Type 0
StandsOpening u opening.OpenStatus = IsNew u
StandsOpening u opening.OpenLstatus = HasStatusOpen u
StandsOpening u opening.OpenMemory = HasLstatusOpen u
StandsOpening u opening.ClearModes = HasMemoryOpen u
StandsOpening u opening.SetRelease = HasMemoryOpen u
StandsOpening u opening.Stop = HasMemoryOpen u
StandsOpening u (opening.AwaitStop until) = HasMemoryOpen u
StandsOpening u opening.ReadLwps = IsAttached u
StandsOpening u opening.TraceSignals = IsAttached u
StandsOpening u opening.TraceFaults = IsAttached u
StandsOpening u opening.TraceEntries = IsAttached u
StandsOpening u opening.TraceExits = IsAttached u
StandsOpening u opening.Follow = IsAttached u
StandsOpening u opening.Start = IsAttached u

abbrev pub StandsChild : Traced → ChildStep → Type 0
StandsChild u child.SetRelease = IsNew u
StandsChild u child.OpenStatus = IsNew u
StandsChild u child.OpenLstatus = HasStatusOpen u
StandsChild u child.OpenMemory = HasLstatusOpen u
StandsChild u child.Start = IsAttached u

-- ---- all processes beside a stage

-- the place that a stage opens or closes
abbrev pub busy : Stage → Option ℕ
busy (Opening place _) = Some place
busy (OpeningChild parent place _) = Some place
busy (Closing place next) = Some place
busy _ = None

abbrev pub RestBut : Bool → List Traced → Option ℕ → Type 0
RestBut leaving ts None = Each (Rests leaving) ts
RestBut leaving ts (Some place) = EachBut (Rests leaving) ts place

-- Whether truss leaves; while it does, it reads the first process alone.
abbrev pub Leaves : Bool → Stage → Type 0
Leaves leaving (Spawning program) = leaving ≡ false
Leaves leaving (OpeningControl pid) = leaving ≡ false
Leaves leaving (Opening place _) = leaving ≡ false
Leaves leaving Polling = leaving ≡ false
Leaves leaving (ReadingStatus place) = leaving ≡ false
Leaves leaving (ReadingText place lwp at len) = leaving ≡ true → place ≡ 0
Leaves leaving (OpeningChildControl parent pid) = leaving ≡ false
Leaves leaving (OpeningChild parent place _) = leaving ≡ false
Leaves leaving (Running place) = leaving ≡ false
Leaves leaving (Closing place OpenNext) = leaving ≡ false
Leaves leaving (Closing place GoOn) = Unit {0}
Leaves leaving (Closing place (RunParent parent)) = leaving ≡ false
Leaves leaving Unfollowing = leaving ≡ true
Leaves leaving ReadingLwps = leaving ≡ true
Leaves leaving (FreeingChild pid _) = leaving ≡ true
Leaves leaving Finished = Unit {0}

-- the process that the stage is of
abbrev pub StandsAt : List Traced → Stage → Type 0
StandsAt ts (Opening place step) = StandsOpening (at_place ts place) step
StandsAt ts (OpeningChild parent place step) = StandsChild (at_place ts place) step
StandsAt ts (Closing place next) = IsUnseen (at_place ts place)
StandsAt ts (ReadingText place lwp at len) = IsAttached (at_place ts place)
StandsAt ts Unfollowing = IsAttached (at_place ts 0)
StandsAt ts ReadingLwps = IsAttached (at_place ts 0)
StandsAt ts (FreeingChild pid step) = IsAttached (at_place ts 0)
StandsAt ts _ = Unit {0}

pub record Stands (ts : List Traced) (leaving : Bool) (stage : Stage) : Type 0 where
  pub leaves : Leaves leaving stage
  pub rests : RestBut leaving ts (busy stage)
  pub at : StandsAt ts stage

-- ---- what the steps of an opening leave

pub opening-unseen : (u : Traced) (step : OpeningStep) → StandsOpening u step → IsUnseen u
opening-unseen u opening.OpenStatus w is = w.unseen
opening-unseen u opening.OpenLstatus w is = w.fresh.unseen
opening-unseen u opening.OpenMemory w is = w.fresh.unseen
opening-unseen u opening.ClearModes w is = w.fresh.unseen
opening-unseen u opening.SetRelease w is = w.fresh.unseen
opening-unseen u opening.Stop w is = w.fresh.unseen
opening-unseen u (opening.AwaitStop until) w is = w.fresh.unseen
opening-unseen u _ w is = w.unseen

pub child-unseen : (u : Traced) (step : ChildStep) → StandsChild u step → IsUnseen u
child-unseen u child.SetRelease w is = w.unseen
child-unseen u child.OpenStatus w is = w.unseen
child-unseen u child.OpenLstatus w is = w.fresh.unseen
child-unseen u child.OpenMemory w is = w.fresh.unseen
child-unseen u child.Start w is = w.unseen

-- what a step opens is open only once its process is attached
pub opening-opened : (u : Traced) (step : OpeningStep) → StandsOpening u step → u.attached ≡ true → AreOpen u
opening-opened u opening.OpenStatus w is = absurd (false≢true (sym w.free ∙ is))
opening-opened u opening.OpenLstatus w is = absurd (false≢true (sym w.fresh.free ∙ is))
opening-opened u opening.OpenMemory w is = absurd (false≢true (sym w.fresh.free ∙ is))
opening-opened u _ w is = w.opened

pub child-opened : (u : Traced) (step : ChildStep) → StandsChild u step → u.attached ≡ true → AreOpen u
child-opened u child.SetRelease w is = absurd (false≢true (sym w.free ∙ is))
child-opened u child.OpenStatus w is = absurd (false≢true (sym w.free ∙ is))
child-opened u child.OpenLstatus w is = absurd (false≢true (sym w.fresh.free ∙ is))
child-opened u child.OpenMemory w is = absurd (false≢true (sym w.fresh.free ∙ is))
child-opened u child.Start w is = w.opened
