use Rattle.std.proofs.Common.{◌≡◌, ◌≢◌, ◌<◌, ◌+◌, ℕ, Bool, true, false, cond, Option, Some, None, List, length, refl, sym, subst, ap, ◌∙◌, arith, inl, inr}
use Rattle.std.proofs.lemmas.Bool.{cases_eq}
use Rattle.std.proofs.lemmas.List.{get_or-set_other, length-set}
use Rattle.std.specs.List.{slice_set}
use Rattle.pr_model.specs.Replies.{bytes_in}
use Rattle.pr_model.specs.declared.calls.Reply.{Reply}
use Rattle.pr_num.specs.declared.errnos.Errno.{Errno}
use Rattle.pr_num.specs.declared.errnos.Errno.TheVariants.{Noent}
use Rattle.pr_report_laws.proofs.Invariant.StandLemmas.{EachBut, each-but, each-set}
use Rattle.pr_truss.specs.Asides.{patching, with_aside}
use Rattle.pr_truss.specs.Closings.{with_closing}
use Rattle.pr_truss.specs.Feeding.{fed}
use Rattle.pr_truss.specs.FunctionFeeding.{after_first, after_patch, fed_functions, is_to_plant, planted_if, with_aside_answered, with_code_answered, with_code_read, with_function_reply, with_next_function, with_patch_answered, with_pending_told, with_plant_answered, with_refused_opening}
use Rattle.pr_truss.specs.Marks.{first_function, has_functions, without_function}
use Rattle.pr_truss.specs.Openings.{with_refused_step}
use Rattle.pr_truss.specs.Replies.{answer_of}
use Rattle.pr_truss.specs.Trusses.{TrussState, nobody, traced_at, with_traced}
use Rattle.pr_truss.specs.declared.asides.Aside.{Aside}
use Rattle.pr_truss.specs.declared.asides.Aside.TheVariants.{Nothing, Reading, Planting, Patching}
use Rattle.pr_truss.specs.declared.processes.Traced.{Traced}
use Rattle.pr_truss.specs.declared.replies.Answer.{Answer}
use Rattle.pr_truss.specs.declared.replies.Answer.TheVariants.{Accepted, Interrupted, Gone, Refused}
use Rattle.pr_truss.specs.declared.stages.AfterClosing.TheVariants.{OpenNext, GoOn, RunParent}
use Rattle.pr_truss.specs.declared.stages.Stage.{Stage}
use Rattle.pr_truss.specs.declared.stages.Stage.TheVariants.{Spawning, OpeningControl, Opening, Polling, ReadingStatus, ReadingText, Running, Closing, Finished}
use Rattle.pr_truss_laws.proofs.Files.HeldLemmas.{at_place, set-at}
use Rattle.pr_function_laws.proofs.Marks.KeptPlaces.{AfterBeside, AfterStage, Apart, AtAside, AtPlace, AtStage, IsLasting, IsLastingWhere, Kept, Position, Whole, apart-set, closes, lasting-where, looks, opens, to_read, planted_as, rests, runs, subject}
use Rattle.pr_function_laws.proofs.Marks.KeptStops as stops-of
use Rattle.pr_function_laws.proofs.Marks.KeptStages as stages-of

-- One walk over all replies that are no interrupts, of a truss with functions that follows no children and does not
-- leave its processes: what is so of each process, by where truss has come with it, stays so. The replies to the calls
-- of stages are in KeptStages; here are those to the calls that come before them, on breakpoints.

module _ (P : Position → Traced → Type 0) (Seen : Traced → Type 0) (Touched : ℕ → Type 0)
    (lasting : IsLastingWhere P Seen Touched) where
  abbrev KeptAt : (q : ℕ) (u : TrussState) → Type 0
  KeptAt = stops-of.KeptAt P Seen Touched lasting

  abbrev patching-at : (q : ℕ) (ts : List Traced) (plants lifts : List Bool) → AtPlace P ts q
      → AtAside P ts (patching q plants lifts false)
  patching-at = stops-of.patching-at P Seen Touched lasting

  module _ (t : TrussState) (r : Reply) (follow : t.options.follow ≡ false) (off : t.leaving ≡ false)
      (apart : Apart t.traced) (calm : answer_of r ≢ Interrupted)
      (seen : (q : ℕ) → t.aside ≡ Nothing → t.stage ≡ ReadingStatus q → Seen (traced_at t q))
      (touched : (q : ℕ) → subject t.stage t.aside ≡ Some q → Touched (traced_at t q).pid) where
    abbrev next-function : (q function : ℕ) (u : TrussState) → Kept P u → AtPlace P u.traced q
        → Kept P (with_next_function u q function)
    next-function = stages-of.next-function P Seen Touched lasting t r follow off apart calm seen touched

    abbrev refused-kept : (q : ℕ) (u : TrussState) (errno : Errno) → u.options.follow ≡ false → u.leaving ≡ false
        → u.aside ≡ Nothing → Apart u.traced → AtPlace P u.traced q → KeptAt q (with_refused_step u q errno)
    refused-kept = stages-of.refused-kept P Seen Touched lasting t r follow off apart calm seen touched

    abbrev refused-opening : (q : ℕ) (u : TrussState) (errno : Errno) → u.options.follow ≡ false → u.leaving ≡ false
        → u.aside ≡ Nothing → Apart u.traced → AtPlace P u.traced q → Kept P (with_refused_opening u q errno)
    refused-opening = stages-of.refused-opening P Seen Touched lasting t r follow off apart calm seen touched

    abbrev stage-kept : (idle : t.aside ≡ Nothing) (stage : Stage) → t.stage ≡ stage → AfterStage P t r stage
        → Kept P (with_function_reply t r stage)
    stage-kept = stages-of.stage-kept P Seen Touched lasting t r follow off apart calm seen touched

    -- ---- what comes before the call of a stage

    abbrev idle_now : TrussState
    idle_now = with_aside t Nothing

    -- other marks of a process, whatever the stage
    others-set : (ts : List Traced) (q b : ℕ) (u : Traced) → q < length ts
        → (P rests (at_place ts q) → P rests u) → EachBut (P rests) ts b
        → EachBut (P rests) (slice_set ts q u) b
    others-set ts q b u within same e i inside other = elim (cases_eq i q) [
      | inl is ↦ subst (λ n. P rests (at_place (slice_set ts q u) n)) (sym is)
          (subst (P rests) (sym (set-at ts q u within))
          (same (e q within (λ it. other (is ∙ it)))))
      | inr differs ↦ subst (P rests) (sym (get_or-set_other ts q i u nobody differs))
          (e i (omega (arith, inside, length-set ts q u)) other)
    ]

    one-set : (at : Position) (ts : List Traced) (q b : ℕ) (u : Traced) → q < length ts
        → (P at (at_place ts q) → P at u) → P at (at_place ts b)
        → P at (at_place (slice_set ts q u) b)
    one-set at ts q b u within same has = elim (cases_eq b q) [
      | inl is ↦ subst (λ n. P at (at_place (slice_set ts q u) n)) (sym is)
          (subst (P at) (sym (set-at ts q u within)) (same (subst (λ n. P at (at_place ts n)) is has)))
      | inr differs ↦ subst (P at) (sym (get_or-set_other ts q b u nobody differs)) has
    ]

    all-set : (ts : List Traced) (q : ℕ) (u : Traced) → q < length ts
        → (P rests (at_place ts q) → P rests u) → Whole P ts → Whole P (slice_set ts q u)
    all-set ts q u within same all =
        each-set (P rests) ts q u within (each-but (P rests) ts q all) (same (all q within))

    module _ (ts : List Traced) (q : ℕ) (set : List Bool) (within : q < length ts)
        (its : Touched (at_place ts q).pid) where
      abbrev marked : Traced
      marked = planted_as (at_place ts q) set

      same : (at : Position) → P at (at_place ts q) → P at marked
      same at has = lasting.plants at (at_place ts q) set its has

      longer : (b : ℕ) → b < length ts → b < length (slice_set ts q marked)
      longer b inside = omega (arith, inside, length-set ts q marked)

      place-marked : (b : ℕ) → AtPlace P ts b → AtPlace P (slice_set ts q marked) b
      place-marked b w = (
        longer b w.0,
        (
          others-set ts q b marked within (same rests) w.1.0,
          one-set closes ts q b marked within (same closes) w.1.1,
        ),
      )

      stage-marked : (stage : Stage) → AtStage P ts stage → AtStage P (slice_set ts q marked) stage
      stage-marked (Spawning program) w = all-set ts q marked within (same rests) w
      stage-marked (OpeningControl pid) w = all-set ts q marked within (same rests) w
      stage-marked (Opening b step) w = (
        longer b w.0,
        (
          others-set ts q b marked within (same rests) w.1.0,
          one-set (opens step) ts q b marked within (same (opens step)) w.1.1,
        ),
      )
      stage-marked Polling w = all-set ts q marked within (same rests) w
      stage-marked (ReadingStatus b) w = (
        longer b w.0,
        (all-set ts q marked within (same rests) w.1.0, one-set to_read ts q b marked within (same to_read) w.1.1),
      )
      stage-marked (ReadingText b l from len) w = (
        longer b w.0,
        (all-set ts q marked within (same rests) w.1.0, one-set looks ts q b marked within (same looks) w.1.1),
      )
      stage-marked (Running b) w = (
        longer b w.0,
        (
          others-set ts q b marked within (same rests) w.1.0,
          one-set runs ts q b marked within (same runs) w.1.1,
        ),
      )
      stage-marked (Closing b OpenNext) w = place-marked b w
      stage-marked (Closing b GoOn) w = place-marked b w
      stage-marked Finished w = all-set ts q marked within (same rests) w
      stage-marked _ w = absurd w

    -- truss with nothing beside its stage, at the place of a process
    record Idle (q : ℕ) (u : TrussState) : Type 0 where
      its_follow : u.options.follow ≡ false
      its_off : u.leaving ≡ false
      its_idle : u.aside ≡ Nothing
      its_apart : Apart u.traced
      its_stage : AtStage P u.traced u.stage
      here : AtPlace P u.traced q

    idle-kept : (q : ℕ) (u : TrussState) (a : Aside) → Idle q u → AtAside P u.traced a → Kept P (with_aside u a)
    idle-kept q u a w is = record {
      follow = w.its_follow;
      off = w.its_off;
      stage = w.its_stage;
      beside = is;
      apart = w.its_apart;
    }

    module _ (q : ℕ) (stage : AtStage P t.traced t.stage) (here : AtPlace P t.traced q)
        (its : Touched (at_place t.traced q).pid) where
      now-idle : Idle q idle_now
      now-idle = record {
        its_follow = follow;
        its_off = off;
        its_idle = refl;
        its_apart = apart;
        its_stage = stage;
        here = here;
      }

      planted-idle : (set : List Bool) → Idle q (with_traced idle_now q (planted_as (traced_at t q) set))
      planted-idle set = record {
        its_follow = follow;
        its_off = off;
        its_idle = refl;
        its_apart = apart-set t.traced q (planted_as (traced_at t q) set) here.0 refl apart;
        its_stage = stage-marked t.traced q set here.0 its t.stage stage;
        here = place-marked t.traced q set here.0 its q here;
      }

      aside-refused : (errno : Errno) → Kept P (with_refused_opening idle_now q errno)
      aside-refused errno = refused-opening q idle_now errno follow off refl apart here

      aside-gone : Kept P (with_refused_step idle_now q Noent)
      aside-gone = let it = refused-kept q idle_now Noent follow off refl apart here in it.kept

      -- the first instruction of a function
      code-read : (function : ℕ) (bytes : Option (List ℕ)) → Kept P (with_code_read idle_now q function bytes)
      unfolding with_code_read
      code-read function bytes =
          elim (is_to_plant t.options function bytes)
          as (λ b. Kept P
          (cond b (with_aside idle_now (Planting q function)) (with_next_function idle_now q (function + 1)))) [
            | true ↦ idle-kept q idle_now (Planting q function) now-idle here
            | false ↦ next-function q (function + 1) idle_now (idle-kept q idle_now Nothing now-idle tt) here
          ]

      code-kept : (function : ℕ) (a : Answer) → a ≢ Interrupted → Kept P (with_code_answered idle_now q function r a)
      unfolding with_code_answered
      code-kept function Accepted other = code-read function (bytes_in r)
      code-kept function (Refused errno) other = aside-refused errno
      code-kept function Gone other = aside-gone
      code-kept function Interrupted other = absurd (other refl)

      -- a breakpoint that is planted while the process is opened
      plant-kept : (function : ℕ) (a : Answer) → a ≢ Interrupted → Kept P (with_plant_answered idle_now q function a)
      unfolding with_plant_answered
      plant-kept function Accepted other =
          let it = planted-idle _ in
          next-function q (function + 1) _ (idle-kept q _ Nothing it tt) it.here
      plant-kept function (Refused errno) other = aside-refused errno
      plant-kept function Gone other = aside-gone
      plant-kept function Interrupted other = absurd (other refl)

      -- breakpoints that are planted and lifted
      gone-kept : (u : TrussState) → Idle q u → Kept P (with_closing u q)
      gone-kept u w = record {
        follow = w.its_follow;
        off = w.its_off;
        stage = w.here;
        beside = subst (AtAside P u.traced) (sym w.its_idle) tt;
        apart = w.its_apart;
      }

      after-kept : (u : TrussState) (rest : Aside) (at : Stage) (a : Answer) → a ≢ Interrupted → Idle q u
          → AtStage P u.traced at → AtAside P u.traced rest → Kept P (after_patch u rest q at a)
      unfolding after_patch with_pending_told
      after-kept u rest (Closing b OpenNext) a other w is beside = idle-kept q u rest w beside
      after-kept u rest (Closing b GoOn) Gone other w is beside = gone-kept u w
      after-kept u rest (Closing b GoOn) _ other w is beside = idle-kept q u rest w beside
      after-kept u rest (Closing b (RunParent parent)) a other w is beside = absurd is
      after-kept u rest at Accepted other w is beside = idle-kept q u rest w beside
      after-kept u rest at (Refused errno) other w is beside = idle-kept q u rest w beside
      after-kept u rest at Gone other w is beside =
          gone-kept (with_pending_told u)
          (record {
            its_follow = w.its_follow;
            its_off = w.its_off;
            its_idle = w.its_idle;
            its_apart = w.its_apart;
            its_stage = w.its_stage;
            here = w.here;
          })
      after-kept u rest at Interrupted other w is beside = absurd (other refl)

      rest-kept : (u : TrussState) (plants lifts : List Bool) (a : Answer) → a ≢ Interrupted
          → u.stage ≡ t.stage → Idle q u → Kept P (after_patch u (patching q plants lifts false) q t.stage a)
      rest-kept u plants lifts a other same w =
          after-kept u _ t.stage a other w (subst (AtStage P u.traced) same w.its_stage)
          (patching-at q u.traced plants lifts w.here)

      planted-kept : (function : ℕ) (plants lifts : List Bool) (a b : Answer) → a ≢ Interrupted
          → Kept P (after_patch (planted_if idle_now q function b) (patching q plants lifts false) q t.stage a)
      planted-kept function plants lifts a Accepted other =
          rest-kept _ plants lifts a other refl (planted-idle _)
      planted-kept function plants lifts a _ other =
          rest-kept idle_now plants lifts a other refl now-idle

      first-patch : (plants lifts : List Bool) (plant lift : Option ℕ)
          → Kept P (after_first idle_now q plants lifts false (answer_of r) plant lift)
      first-patch plants lifts (Some function) lift =
          planted-kept function (without_function plants function) lifts (answer_of r) (answer_of r) calm
      first-patch plants lifts None (Some function) =
          rest-kept _ plants (without_function lifts function) (answer_of r) calm refl (planted-idle _)
      first-patch plants lifts None None =
          after-kept idle_now Nothing t.stage (answer_of r) calm now-idle stage tt

      patch-kept : (plants lifts : List Bool) (clear : Bool) → clear ≡ false
          → Kept P (with_patch_answered idle_now q plants lifts clear (answer_of r))
      unfolding with_patch_answered
      patch-kept plants lifts clear none =
          subst (λ b. Kept P (with_patch_answered idle_now q plants lifts b (answer_of r))) (sym none)
          (first-patch plants lifts (first_function plants) (first_function lifts))

    -- ---- every reply

    aside-kept : (aside : Aside) → t.aside ≡ aside → AfterBeside P t r aside → Kept P (with_aside_answered t r aside)
    unfolding with_aside_answered
    aside-kept Nothing is w = stage-kept is t.stage refl w
    aside-kept (Reading q function) is w =
        code-kept q w.0 w.1 (touched q (ap (subject t.stage) is)) function (answer_of r) calm
    aside-kept (Planting q function) is w =
        plant-kept q w.0 w.1 (touched q (ap (subject t.stage) is)) function (answer_of r) calm
    aside-kept (Patching q plants lifts clear) is w =
        patch-kept q w.0 w.1.0 (touched q (ap (subject t.stage) is)) plants lifts clear w.1.1.1
    aside-kept _ is w = absurd w.1

    pub fed-kept-where : has_functions t.options ≡ true → AfterBeside P t r t.aside → Kept P (fed_functions t r)
    unfolding fed_functions
    fed-kept-where has w =
        subst (Kept P) (sym (ap (λ b. cond b (with_aside_answered t r t.aside) (fed t r)) has))
        (aside-kept t.aside refl w)

-- the same, whatever process truss looks at
pub fed-kept : (P : Position → Traced → Type 0) → IsLasting P → (t : TrussState) (r : Reply)
    → t.options.follow ≡ false → t.leaving ≡ false → Apart t.traced → answer_of r ≢ Interrupted
    → has_functions t.options ≡ true → AfterBeside P t r t.aside → Kept P (fed_functions t r)
fed-kept P lasting t r follow off apart calm has w =
    fed-kept-where P (λ (u : Traced). Unit {0}) (λ (pid : ℕ). Unit {0}) (lasting-where P lasting) t r follow off apart
    calm (λ q idle is. tt) (λ q is. tt) has w
