use Rattle.std.proofs.Common.{◌≡◌, ◌≢◌, ◌<◌, ◌++◌, ◌||◌, ℕ, zero, suc, Bool, true, false, is_some, Option, Some, None, List, [], ◌∷◌, length, position, refl, sym, subst, ap, ◌∙◌, arith, ◌-◌}
use Rattle.std.proofs.lemmas.List.{get_or_push}
use Rattle.std.specs.List.{remove, slice_get, slice_set}
use Rattle.pr_line.specs.declared.options.Options.{Options}
use Rattle.pr_model.specs.Replies.{handle_in}
use Rattle.pr_model.specs.declared.calls.Reply.{Reply}
use Rattle.pr_report_laws.proofs.Invariant.StandLemmas.{Each, EachBut, each-append, each-but, each-remove, each-set}
use Rattle.pr_truss.specs.Marks.{first_function}
use Rattle.pr_truss.specs.Openings.{learnt, step_after}
use Rattle.pr_truss.specs.Processes.{newly_traced, without_last}
use Rattle.pr_truss.specs.Replies.{answer_of, ready_in}
use Rattle.pr_truss.specs.Stops.{has_control}
use Rattle.pr_truss.specs.Trusses.{TrussState, first_of_program, first_truss, idle as unbegun, nobody, opening_or}
use Rattle.pr_truss.specs.declared.asides.Aside.{Aside}
use Rattle.pr_truss.specs.declared.asides.Aside.TheVariants.{Nothing, Reading, Planting, Patching}
use Rattle.pr_truss.specs.declared.marks.Marks.{Marks}
use Rattle.pr_truss.specs.declared.processes.Traced.{Traced}
use Rattle.pr_truss.specs.declared.replies.Answer.TheVariants.{Accepted, Gone}
use Rattle.pr_truss.specs.declared.stages.AfterClosing.TheVariants.{OpenNext, GoOn}
use Rattle.pr_truss.specs.declared.stages.OpeningStep.{OpeningStep}
use Rattle.pr_truss.specs.declared.stages.OpeningStep.TheVariants as opening
use Rattle.pr_truss.specs.declared.stages.Stage.{Stage}
use Rattle.pr_truss.specs.declared.stages.Stage.TheVariants.{Spawning, OpeningControl, Opening, Polling, ReadingStatus, ReadingText, Running, Closing, Finished}
use Rattle.pr_truss_laws.proofs.Files.HeldLemmas.{at_place}

-- What is so of each process of a truss with functions that follows no children and does not leave its processes, by
-- where it has come with that process.

-- ---- processes with ids of their own

abbrev pub Apart : List Traced → Type 0
Apart [] = Unit {0}
Apart (u ∷ us) = Each (λ (v : Traced). v.pid ≢ u.pid) us × Apart us

pub apart-remove : (ts : List Traced) (q : ℕ) → q < length ts → Apart ts → Apart (remove ts q)
apart-remove [] zero within a = a
apart-remove [] (suc q) within a = a
apart-remove (u ∷ us) zero within a = a.1
apart-remove (u ∷ us) (suc q) within a =
    let inside : q < length us = omega (arith, within) in (
      each-remove (λ (v : Traced). v.pid ≢ u.pid) us q inside (each-but (λ (v : Traced). v.pid ≢ u.pid) us q a.0),
      apart-remove us q inside a.1,
    )

pub apart-set : (ts : List Traced) (q : ℕ) (t : Traced) → q < length ts → t.pid ≡ (at_place ts q).pid → Apart ts
    → Apart (slice_set ts q t)
apart-set [] q t within same a = absurd (omega (arith, within))
apart-set (u ∷ us) zero t within same a = ((λ j inside other. a.0 j inside (other ∙ same)), a.1)
apart-set (u ∷ us) (suc q) t within same a =
    let inside : q < length us = omega (arith, within) in (
      each-set (λ (v : Traced). v.pid ≢ u.pid) us q t inside (each-but (λ (v : Traced). v.pid ≢ u.pid) us q a.0)
          (λ other. a.0 q inside (sym same ∙ other)),
      apart-set us q t inside same a.1,
    )

pub apart-append : (ts : List Traced) (t : Traced) → Each (λ (v : Traced). v.pid ≢ t.pid) ts → Apart ts
    → Apart (ts ++ t ∷ [])
apart-append [] t fresh a = ((λ j inside. absurd (omega (arith, inside))), tt)
apart-append (u ∷ us) t fresh a = (
  each-append (λ (v : Traced). v.pid ≢ u.pid) us t a.0
      (subst (λ (v : Traced). v.pid ≢ u.pid) (sym (get_or_push us t nobody (length us) refl))
      (λ other. fresh 0 (omega arith) (sym other))),
  apart-append us t (λ j inside. fresh (suc j) (omega (arith, inside))) a.1,
)

pub apart-at : (ts : List Traced) (i j : ℕ) → i < length ts → j < length ts → i ≢ j → Apart ts
    → (at_place ts i).pid ≢ (at_place ts j).pid
apart-at [] i j within inside other a = absurd (omega (arith, within))
apart-at (u ∷ us) zero zero within inside other a = absurd (other refl)
apart-at (u ∷ us) zero (suc j) within inside other a = λ same. a.0 j (omega (arith, inside)) (sym same)
apart-at (u ∷ us) (suc i) zero within inside other a = λ same. a.0 i (omega (arith, within)) same
apart-at (u ∷ us) (suc i) (suc j) within inside other a =
    apart-at us i j (omega (arith, within)) (omega (arith, inside)) (λ same. other (ap suc same)) a.1

-- ---- where truss has come with a process

-- This step of its opening comes next, the process was opened whole, a poll named it and its status is read next, truss
-- looks at the stop that it read, it is run next, or its files may be closed.
pub data Position : Type 0 where
  opens : OpeningStep → Position
  rests : Position
  to_read : Position
  looks : Position
  runs : Position
  closes : Position

-- the position after a step of an opening that was done
abbrev pub position_after : Option OpeningStep → Position
position_after None = rests
position_after (Some step) = opens step

-- another set of functions is planted in a process
abbrev pub planted_as : Traced → List Bool → Traced
planted_as u set = record u { marks = record (u.marks) { planted = set } }

-- the run flags of a process are used up
abbrev pub unflagged : Traced → Traced
unflagged u = record u { marks = record (u.marks) { flags = 0 } }

-- something is planted or lifted, and no fault is cleared
abbrev pub IsBusy : List Bool → List Bool → Bool → Type 0
IsBusy plants lifts clear =
    ((is_some (first_function plants) || is_some (first_function lifts)) ≡ true) × (clear ≡ false)

-- The place of the process that truss opens or looks at, or in which it plants and lifts.
abbrev pub subject_of : Stage → Option ℕ
subject_of (Opening q step) = Some q
subject_of (ReadingStatus q) = Some q
subject_of (ReadingText q l from len) = Some q
subject_of _ = None

abbrev pub subject : Stage → Aside → Option ℕ
subject stage Nothing = subject_of stage
subject stage (Reading q function) = Some q
subject stage (Planting q function) = Some q
subject stage (Patching q plants lifts clear) = Some q
subject stage _ = None

-- ---- what is so of each process

module _ (P : Position → Traced → Type 0) where
  -- truss may begin to close the files of the process at this place, and all others were opened whole
  abbrev pub AtPlace : List Traced → ℕ → Type 0
  AtPlace ts q = (q < length ts) × (EachBut (P rests) ts q × P closes (at_place ts q))

  abbrev pub Whole : List Traced → Type 0
  Whole ts = Each (P rests) ts

  abbrev pub AtStage : List Traced → Stage → Type 0
  AtStage ts (Spawning program) = Whole ts
  AtStage ts (OpeningControl pid) = Whole ts
  AtStage ts (Opening q step) = (q < length ts) × (EachBut (P rests) ts q × P (opens step) (at_place ts q))
  AtStage ts Polling = Whole ts
  AtStage ts (ReadingStatus q) = (q < length ts) × (Whole ts × P to_read (at_place ts q))
  AtStage ts (ReadingText q l from len) = (q < length ts) × (Whole ts × P looks (at_place ts q))
  AtStage ts (Running q) = (q < length ts) × (EachBut (P rests) ts q × P runs (at_place ts q))
  AtStage ts (Closing q OpenNext) = AtPlace ts q
  AtStage ts (Closing q GoOn) = AtPlace ts q
  AtStage ts Finished = Whole ts
  AtStage ts _ = ⊥

  abbrev pub AtAside : List Traced → Aside → Type 0
  AtAside ts Nothing = Unit {0}
  AtAside ts (Reading q function) = AtPlace ts q
  AtAside ts (Planting q function) = AtPlace ts q
  AtAside ts (Patching q plants lifts clear) = AtPlace ts q × IsBusy plants lifts clear
  AtAside ts _ = ⊥

  pub record Kept (t : TrussState) : Type 0 where
    pub follow : t.options.follow ≡ false
    pub off : t.leaving ≡ false
    pub stage : AtStage t.traced t.stage
    pub beside : AtAside t.traced t.aside
    pub apart : Apart t.traced

  -- What truss makes of its record of a process, where that is no call of its own, leaves what is so: it looks at a
  -- stop that stood before it came, at one that is new, and plants and lifts breakpoints. It reads only processes of
  -- which the first other thing is so; and of the ids of those that it opens or looks at, or in which it plants and
  -- lifts, the second one is so.
  pub record IsLastingWhere (Seen : Traced → Type 0) (Touched : ℕ → Type 0) : Type 0 where
    pub may_close : (at : Position) (u : Traced) → Touched u.pid → P at u → P closes u
    pub reads : (u : Traced) → Seen u → P rests u → P to_read u → P looks u
    pub may_run : (u : Traced) → P rests u → P looks u → P runs u
    pub counts : (u : Traced) → P rests u → P looks u → 0 < u.old → P runs (record u { old = u.old - 1 })
    pub sees : (u : Traced) (m : Marks) → P looks u → P looks (record u { marks = m })
    pub meets : (u : Traced) (m : Marks) → Seen u → P rests u → u.old ≡ 0 → P rests (record u { marks = m })
    pub plants : (at : Position) (u : Traced) (set : List Bool) → Touched u.pid → P at u → P at (planted_as u set)
    pub loosens : (u : Traced) (m : Marks) → P closes u → P closes (record u { marks = m })

  -- the same, whatever process it looks at
  pub record IsLasting : Type 0 where
    pub may_close : (at : Position) (u : Traced) → P at u → P closes u
    pub reads : (u : Traced) → P rests u → P to_read u → P looks u
    pub may_run : (u : Traced) → P rests u → P looks u → P runs u
    pub counts : (u : Traced) → P rests u → P looks u → 0 < u.old → P runs (record u { old = u.old - 1 })
    pub sees : (u : Traced) (m : Marks) → P looks u → P looks (record u { marks = m })
    pub meets : (u : Traced) (m : Marks) → P rests u → u.old ≡ 0 → P rests (record u { marks = m })
    pub plants : (at : Position) (u : Traced) (set : List Bool) → P at u → P at (planted_as u set)
    pub loosens : (u : Traced) (m : Marks) → P closes u → P closes (record u { marks = m })

  pub lasting-where : IsLasting → IsLastingWhere (λ (u : Traced). Unit {0}) (λ (pid : ℕ). Unit {0})
  lasting-where w = record {
    may_close = λ at u touched. w.may_close at u;
    reads = λ u seen. w.reads u;
    may_run = w.may_run;
    counts = w.counts;
    sees = w.sees;
    meets = λ u m seen. w.meets u m;
    plants = λ at u set touched. w.plants at u set;
    loosens = w.loosens;
  }

  -- ---- before its first call

  none-each : (Q : Traced → Type 0) → Each Q []
  none-each Q q within = absurd (omega (arith, within))

  first-pid : (o : Options) (p : Option ℕ) → o.follow ≡ false → Kept (opening_or (unbegun o) (unbegun o) p)
  first-pid o None follow = record {
    follow = follow;
    off = refl;
    stage = none-each (P rests);
    beside = tt;
    apart = tt;
  }
  first-pid o (Some pid) follow = record {
    follow = follow;
    off = refl;
    stage = none-each (P rests);
    beside = tt;
    apart = tt;
  }

  first-program : (o : Options) (p : Option (List ℕ)) → o.follow ≡ false → Kept (first_of_program o p)
  first-program o None follow = first-pid o (slice_get o.pids 0) follow
  first-program o (Some program) follow = record {
    follow = follow;
    off = refl;
    stage = none-each (P rests);
    beside = tt;
    apart = tt;
  }

  pub first-kept : (o : Options) → o.follow ≡ false → Kept (first_truss o)
  unfolding first_truss
  first-kept o follow = first-program o o.program follow

  -- ---- what the call has made so, before truss takes its reply

  abbrev pub LeftHas : Option Traced → ℕ → Type 0
  LeftHas None pid = Unit {0}
  LeftHas (Some v) pid = P closes v × (v.pid ≡ pid)

  abbrev pub AfterStage : TrussState → Reply → Stage → Type 0
  AfterStage t r (OpeningControl pid) =
      Whole t.traced
      × (answer_of r ≡ Accepted
      → P (opens opening.OpenStatus) (newly_traced pid (handle_in r)) × Each (λ (u : Traced). u.pid ≢ pid) t.traced)
  AfterStage t r (Opening q step) =
      (q < length t.traced)
      × (EachBut (P rests) t.traced q
      × (P closes (at_place t.traced q)
      × (answer_of r ≡ Accepted
      → P (position_after (step_after t.options r step)) (learnt (at_place t.traced q) r step))))
  AfterStage t r Polling =
      Whole t.traced
      × (answer_of r ≡ Accepted → (handle q : ℕ) → ready_in r ≡ Some handle
      → position (has_control handle) t.traced ≡ Some q → P to_read (at_place t.traced q))
  AfterStage t r (Running q) =
      (q < length t.traced)
      × (EachBut (P rests) t.traced q
      × (P closes (at_place t.traced q) × (answer_of r ≢ Gone → P rests (unflagged (at_place t.traced q)))))
  AfterStage t r (Closing q OpenNext) =
      (q < length t.traced)
      × (EachBut (P rests) t.traced q
      × LeftHas (without_last (at_place t.traced q)) (at_place t.traced q).pid)
  AfterStage t r (Closing q GoOn) =
      (q < length t.traced)
      × (EachBut (P rests) t.traced q
      × LeftHas (without_last (at_place t.traced q)) (at_place t.traced q).pid)
  AfterStage t r stage = AtStage t.traced stage

  abbrev pub AfterBeside : TrussState → Reply → Aside → Type 0
  AfterBeside t r Nothing = AfterStage t r t.stage
  AfterBeside t r aside = AtStage t.traced t.stage × AtAside t.traced aside

-- ---- what follows from it

-- What is so of each process is another thing too, where it follows of each.
module _ (P Q : Position → Traced → Type 0) (ts : List Traced)
    (each : (j : ℕ) → j < length ts → (at : Position) → P at (at_place ts j) → Q at (at_place ts j)) where
  whole-weaker : Whole P ts → Whole Q ts
  whole-weaker all j inside = each j inside rests (all j inside)

  but-weaker : (q : ℕ) → EachBut (P rests) ts q → EachBut (Q rests) ts q
  but-weaker q others j inside other = each j inside rests (others j inside other)

  place-weaker : (q : ℕ) → AtPlace P ts q → AtPlace Q ts q
  place-weaker q w = (w.0, (but-weaker q w.1.0, each q w.0 closes w.1.1))

  stage-weaker : (stage : Stage) → AtStage P ts stage → AtStage Q ts stage
  stage-weaker (Spawning program) w = whole-weaker w
  stage-weaker (OpeningControl pid) w = whole-weaker w
  stage-weaker (Opening q step) w = (w.0, (but-weaker q w.1.0, each q w.0 (opens step) w.1.1))
  stage-weaker Polling w = whole-weaker w
  stage-weaker (ReadingStatus q) w = (w.0, (whole-weaker w.1.0, each q w.0 to_read w.1.1))
  stage-weaker (ReadingText q l from len) w = (w.0, (whole-weaker w.1.0, each q w.0 looks w.1.1))
  stage-weaker (Running q) w = (w.0, (but-weaker q w.1.0, each q w.0 runs w.1.1))
  stage-weaker (Closing q OpenNext) w = place-weaker q w
  stage-weaker (Closing q GoOn) w = place-weaker q w
  stage-weaker Finished w = whole-weaker w
  stage-weaker _ w = absurd w

  aside-weaker : (aside : Aside) → AtAside P ts aside → AtAside Q ts aside
  aside-weaker Nothing w = tt
  aside-weaker (Reading q function) w = place-weaker q w
  aside-weaker (Planting q function) w = place-weaker q w
  aside-weaker (Patching q plants lifts clear) w = (place-weaker q w.0, w.1)
  aside-weaker _ w = absurd w

pub kept-weaker : (P Q : Position → Traced → Type 0) (t : TrussState)
    → ((j : ℕ) → j < length t.traced → (at : Position) → P at (at_place t.traced j) → Q at (at_place t.traced j))
    → Kept P t → Kept Q t
kept-weaker P Q t each w = record {
  follow = w.follow;
  off = w.off;
  stage = stage-weaker P Q t.traced each t.stage w.stage;
  beside = aside-weaker P Q t.traced each t.aside w.beside;
  apart = w.apart;
}
