use Rattle.std.proofs.Common.{◌≡◌, ◌≢◌, ◌<◌, ◌+◌, ℕ, Bool, true, false, Option, Some, None, List}
use Rattle.std.proofs.Common.{length, refl, sym, subst, ap, ◌∙◌, arith, inl, inr}
use Rattle.std.proofs.lemmas.Bool.{false≢true}
use Rattle.std.proofs.lemmas.List.{get_or-set_other, length-set}
use Rattle.std.proofs.lemmas.List.Edits.{get_or-remove_above, length-remove}
use Rattle.std.specs.List.{remove}
use Rattle.pr_function_hides.proofs.Replies.BareStages.{BareIf, IsBare, Told}
use Rattle.pr_function_hides.proofs.Replies.FilesWalk.{AreApart, SameFiles, removed-apart, set-apart}
use Rattle.pr_function_hides.proofs.Replies.FunctionSets.{first-none}
use Rattle.pr_function_hides.proofs.Replies.LeavingStages.{Alike, IsLeft, IsUnlooked, TellsLast, asks, awaits, closes_files}
use Rattle.pr_function_hides.proofs.Replies.LeavingStages.{halts, has_ended, is_looked, lifts_all, looks, reads_text}
use Rattle.pr_function_hides.proofs.Replies.LeavingStages.{waits_again, with_fewer, with_no_marks}
use Rattle.pr_function_hides.proofs.Replies.PlantedReplies.{lost-marks}
use Rattle.pr_function_hides.specs.Copying.{IsEmpty}
use Rattle.pr_function_laws.proofs.LeavingProcesses.LeavingSteps.{FirstIs, IsAtNext, IsAtStep, Look, NextLeft, Then, Went}
use Rattle.pr_function_laws.proofs.LeavingProcesses.LeavingSteps.{begins, ended, finished-fed, halted, has_read, is_gone}
use Rattle.pr_function_laws.proofs.LeavingProcesses.LeavingSteps.{leaves, looked, loses, next-is, none_left}
use Rattle.pr_function_laws.proofs.LeavingProcesses.LeavingSteps.{patched, shuts, step-unlooked, step_at, tells_last}
use Rattle.pr_function_laws.proofs.LeavingProcesses.LeavingSteps.{tells_neither, tells_own, to_close, to_lift, to_read}
use Rattle.pr_function_laws.proofs.LeavingProcesses.LeavingLaws.{left-same}
use Rattle.pr_function_laws.specs.Leaving.{AsksAgain, Directs, HaltStep, Waits, WaitsAgain, halt_next}
use Rattle.pr_model.specs.Replies.{until_in}
use Rattle.pr_model.specs.declared.calls.Reply.{Reply}
use Rattle.pr_report_laws.proofs.Invariant.StandLemmas.{Each, EachBut, each-but, each-remove, each-set}
use Rattle.pr_truss.specs.Closings.{with_next_left}
use Rattle.pr_truss.specs.FunctionFeeding.{fed_functions}
use Rattle.pr_truss.specs.Marks.{has_functions}
use Rattle.pr_truss.specs.Processes.{without_last}
use Rattle.pr_truss.specs.Replies.{answer_of}
use Rattle.pr_truss.specs.Trusses.{TrussState, nobody, traced_at, with_traced, without_traced}
use Rattle.pr_truss.specs.declared.asides.Aside.TheVariants.{Nothing}
use Rattle.pr_truss.specs.declared.marks.Marks.{Marks}
use Rattle.pr_truss.specs.declared.processes.Traced.{Traced}
use Rattle.pr_truss.specs.declared.replies.Answer.{Answer}
use Rattle.pr_truss.specs.declared.replies.Answer.TheVariants.{Accepted, Gone, Interrupted, Refused}
use Rattle.pr_truss_laws.proofs.Files.HeldLemmas.{at_place, set-at}

-- One walk over the replies of a truss with functions that follows no children and leaves its processes. It halts the
-- first of them and looks at it, lifts its breakpoints and closes its files, and so with the next one, until it traces
-- none. What is so of the files and marks of each process stays so, but where a breakpoint is lifted or a file closed,
-- or the memory was replaced. And where its files are closed nothing is planted in it, or it has ended.

-- ---- what truss has come to

-- S is so of each process, and R until truss looks at it. One that it has not attached has ended, or nothing is planted
-- in it.
module _ (S : Traced → Type 0)
    (alike : (u v : Traced) → SameFiles u v → v.attached ≡ u.attached → v.marks ≡ u.marks → S u → S v)
    (R : Traced → Type 0) (as_old : (u v : Traced) → SameFiles u v → v.attached ≡ u.attached → v.old ≡ u.old
    → v.seen ≡ u.seen → R u → R v)
    (Ended : ℕ → Type 0)
    (unattached : (v : Traced) → S v → v.attached ≡ false → IsBare Ended v) where
  abbrev pub OldSo : TrussState → ℕ → Type 0
  OldSo v q = R (traced_at v q)

  -- where truss stands, with what is so there
  abbrev Stands : TrussState → Type 0
  Stands v = (w : IsLeft v) × BareIf Ended v w

  pub record Left (v : TrussState) : Type 0 where
    pub on : v.leaving ≡ true
    pub at : IsLeft v
    pub bare : BareIf Ended v at
    pub each : Each S v.traced
    pub apart : AreApart v.traced
    pub unlooked : (q : ℕ) → q < length v.traced → IsUnlooked v.stage q → OldSo v q

  pub record Base (u : TrussState) : Type 0 where
    pub on : u.leaving ≡ true
    pub follow : u.options.follow ≡ false
    pub each : Each S u.traced
    pub apart : AreApart u.traced
    pub rest : (q : ℕ) → q < length u.traced → q ≢ 0 → OldSo u q

  -- of all processes
  abbrev pub Whole : TrussState → Type 0
  Whole u = (q : ℕ) → q < length u.traced → OldSo u q

  -- truss that has looked at the first process
  left-of : (u v : TrussState) → Base u → Alike u v → is_looked v.stage ≡ true → Stands v → Left v
  left-of u v b a looked_at at = record {
    on = a.leaving ∙ b.on;
    at = at.0;
    bare = at.1;
    each = λ i within.
        alike (traced_at u i) (traced_at v i) (a.files i) (a.attached i) (a.marks i)
        (b.each i (subst (λ k. i < k) a.many within));
    apart = λ i j one two other same.
        let x = a.files i in
        let y = a.files j in
        b.apart i j (subst (λ k. i < k) a.many one) (subst (λ k. j < k) a.many two) other
        (sym x.pid ∙ same ∙ y.pid);
    unlooked = λ q within still.
        as_old (traced_at u q) (traced_at v q) (a.files q) (a.attached q) (a.olds q (still looked_at))
        (a.seens q (still looked_at))
        (b.rest q (subst (λ k. q < k) a.many within) (still looked_at));
  }

  -- one that traces the same processes, and has looked at none
  left-whole : (u v : TrussState) → Base u → Whole u → v.traced ≡ u.traced → v.leaving ≡ true → Stands v → Left v
  left-whole u v b whole traced on at = record {
    on = on;
    at = at.0;
    bare = at.1;
    each = subst (Each S) (sym traced) b.each;
    apart = subst AreApart (sym traced) b.apart;
    unlooked = λ q within still.
        subst (λ (ts : List Traced). (i : ℕ) → i < length ts → R (at_place ts i)) (sym traced) whole q within;
  }

  -- ---- what comes next

  next-stands : (v : TrussState) → Each S v.traced → NextLeft v → Stands v
  next-stands v all (begins at within on) = (halts at.0 at.1 within, tt)
  next-stands v all (shuts at within off) =
      (closes_files at.0 at.1 within, unattached (traced_at v 0) (all 0 within) off)
  next-stands v all (none_left at none) = (has_ended at.0 at.1, tt)

  -- the next process is left, or truss has finished
  pub next-left : (u : TrussState) → Base u → Whole u → u.aside ≡ Nothing → Left (with_next_left u)
  next-left u b whole idle =
      let same = left-same u in
      left-whole u (with_next_left u) b whole same.0 (same.1 ∙ b.on)
      (next-stands (with_next_left u) (subst (Each S) (sym same.0) b.each) (next-is u idle))

  then-stands : (r : Reply) (v : TrussState) {clear : Bool} → 0 < length v.traced
      → (answer_of r ≡ Gone → Ended (traced_at v 0).pid) → Then r v clear → Stands v
  then-stands r v within over (to_read l from len at) = (reads_text l from len at.0 at.1 within, tt)
  then-stands r v within over (to_lift clear at) = (lifts_all clear at.0 at.1 within, tt)
  then-stands r v within over (to_close at none) =
      (closes_files at.0 at.1 within, inr (first-none (traced_at v 0).marks.planted none))
  then-stands r v within over (is_gone at gone) = (closes_files at.0 at.1 within, inl (over gone))

  halt-stands : (r : Reply) (v : TrussState) → 0 < length v.traced
      → (answer_of r ≡ Gone → Ended (traced_at v 0).pid) → (step : HaltStep) (a : Answer) → answer_of r ≡ a
      → IsAtNext v (halt_next step r a) → Stands v
  halt-stands r v within over step Gone is at = (closes_files at.0 at.1 within, inl (over is))
  halt-stands r v within over step Interrupted is at = (asks at.0 at.1 within, tt)
  halt-stands r v within over step (Refused errno) is at = (looks at.0 at.1 within, tt)
  halt-stands r v within over Directs Accepted is at = (awaits (until_in r) at.0 at.1 within, tt)
  halt-stands r v within over (Waits until) Accepted is at = (looks at.0 at.1 within, tt)
  halt-stands r v within over AsksAgain Accepted is at = (waits_again (until_in r) at.0 at.1 within, tt)
  halt-stands r v within over (WaitsAgain until) Accepted is at = (looks at.0 at.1 within, tt)

  -- ---- what the call has made so, before truss takes its reply

  abbrev pub Rest : Option Traced → Type 0
  Rest None = Unit {0}
  Rest (Some v) = S v

  abbrev pub After : (t : TrussState) → Reply → IsLeft t → Type 0
  After t r (looks at idle within) = Each S t.traced × (TellsLast t r → S (with_no_marks (traced_at t 0)))
  After t r (lifts_all clear at beside within) = EachBut S t.traced 0 × S (with_fewer (traced_at t 0))
  After t r (closes_files at idle within) = EachBut S t.traced 0 × Rest (without_last (traced_at t 0))
  After t r at = Each S t.traced

  -- it is so whatever is lifted, closed or replaced
  pub after-all : (t : TrussState) (r : Reply) → ((v : Traced) → S v → S (with_fewer v))
      → ((v : Traced) → S v → S (with_no_marks v)) → ((v u : Traced) → without_last v ≡ Some u → S v → S u)
      → Each S t.traced → (w : IsLeft t) → After t r w
  after-all t r fewer none lost all (looks at idle within) = (all, λ tells. none (traced_at t 0) (all 0 within))
  after-all t r fewer none lost all (lifts_all clear at beside within) =
      (each-but S t.traced 0 all, fewer (traced_at t 0) (all 0 within))
  after-all t r fewer none lost all (closes_files at idle within) =
      (each-but S t.traced 0 all, rest (without_last (traced_at t 0)) refl)
    where
      rest : (x : Option Traced) → without_last (traced_at t 0) ≡ x → Rest x
      rest None is = tt
      rest (Some u) is = lost (traced_at t 0) u is (all 0 within)
  after-all t r fewer none lost all _ = all

  module _ (t : TrussState) (r : Reply) (on : t.leaving ≡ true) (follow : t.options.follow ≡ false)
      (has : has_functions t.options ≡ true) (apart : AreApart t.traced)
      (unlooked : (q : ℕ) → q < length t.traced → IsUnlooked t.stage q → OldSo t q) where
    abbrev Over : Type 0
    Over = answer_of r ≡ Gone → Ended (traced_at t 0).pid

    at-step : (step : HaltStep) (at : IsAtStep t step) (within : 0 < length t.traced)
        → After t r (step_at t step at within) → Told Ended t r (step_at t step at within) → Each S t.traced × Over
    at-step Directs at within all over = (all, over)
    at-step (Waits until) at within all over = (all, over)
    at-step AsksAgain at within all over = (all, over)
    at-step (WaitsAgain until) at within all over = (all, over)

    others-old : (q : ℕ) → q < length t.traced → q ≢ 0 → OldSo t q
    others-old q within other = unlooked q within (λ looked_at. other)

    -- the first process is another one
    module _ (x : Traced) (v : TrussState) (f : FirstIs t x v) (within : 0 < length t.traced)
        (others : EachBut S t.traced 0) (here : S x) where
      first-base : Base (with_traced t 0 x)
      first-base = record {
        on = on;
        follow = follow;
        each = each-set S t.traced 0 x within others here;
        apart = set-apart t.traced 0 x within f.pid apart;
        rest = λ q inside other.
            subst R (sym (get_or-set_other t.traced 0 q x nobody other))
            (others-old q (subst (λ k. q < k) (length-set t.traced 0 x) inside) other);
      }

      first-left : Stands v → Left v
      first-left = left-of (with_traced t 0 x) v first-base f.alike f.looked_at

      first-then : {clear : Bool} → Over → Then r v clear → Left v
      first-then over next =
          first-left
          (then-stands r v f.within
          (λ gone. let s = f.shares in subst Ended (sym (s.pids 0)) (over gone)) next)

    looked-so : {x : Traced} {clear : Bool} → Look t r x clear → 0 < length t.traced → Each S t.traced
        → (TellsLast t r → S (with_no_marks (traced_at t 0))) → S x
    looked-so (tells_own own) within all replaced = all 0 within
    looked-so (tells_last last none) within all replaced = replaced last
    looked-so (tells_neither none left) within all replaced = all 0 within

    -- nothing is planted in it still, or it has ended
    still-bare : (u : Traced) (v : TrussState) → FirstIs t u v → 0 < length t.traced
        → without_last (traced_at t 0) ≡ Some u → IsBare Ended (traced_at t 0) → IsBare Ended (traced_at v 0)
    still-bare u v f within is (inl over) = inl (let s = f.shares in subst Ended (sym (s.pids 0)) over)
    still-bare u v f within is (inr none) =
        inr (let a = f.alike in
        subst (λ (m : Marks). IsEmpty m.planted)
        (sym (a.marks 0 ∙ ap (λ (x : Traced). x.marks) (set-at t.traced 0 u within)
        ∙ lost-marks (traced_at t 0) u is)) none)

    -- ---- a row a kind

    went-left : (w : IsLeft t) (v : TrussState) → v.leaving ≡ true → Went t r v w → After t r w → Told Ended t r w
        → BareIf Ended t w → Left v
    went-left w v on_v (halted step at within same to) after told bare =
        let s = at-step step at within after told in
        left-whole t v
        (record { on = on; follow = follow; each = s.0; apart = apart; rest = others-old })
        (λ q inside. unlooked q inside (λ is. absurd (false≢true (sym (step-unlooked t step at) ∙ is)))) same on_v
        (halt-stands r v (subst (λ (ts : List Traced). 0 < length ts) (sym same) within)
        (λ gone. subst (λ (ts : List Traced). Ended (at_place ts 0).pid) (sym same) (s.1 gone)) step (answer_of r)
        refl to)
    went-left w v on_v (looked at within look f next) after told bare =
        first-then _ v f within (each-but S t.traced 0 after.0) (looked-so look within after.0 after.1) told next
    went-left w v on_v (has_read l from len at within f next) after told bare =
        first-then _ v f within (each-but S t.traced 0 after) (after 0 within) told next
    went-left w v on_v (patched clear at within f next) after told bare =
        first-then _ v f within after.0 after.1 told next
    went-left w v on_v (loses u at within is f to) after told bare =
        first-left u v f within after.0 (subst Rest is after.1)
        (closes_files to.0 to.1 f.within, still-bare u v f within is bare)
    went-left w v on_v (ended at within none same to) after told bare =
        left-whole (without_traced t 0) v
        (record {
          on = on;
          follow = follow;
          each = all;
          apart = removed-apart t.traced 0 within apart;
          rest = λ q inside other. old q inside;
        }) old same on_v (next-stands v (subst (Each S) (sym same) all) to)
      where
        all : Each S (remove t.traced 0)
        all = each-remove S t.traced 0 within after.0

        -- a process that was not the first
        old : Whole (without_traced t 0)
        old q inside =
            subst R (sym (get_or-remove_above t.traced 0 nobody q (omega arith) within))
            (others-old (q + 1) (omega (arith, inside, length-remove t.traced 0 within))
            (λ first. absurd (omega (arith, first))))

    pub fed-left : (w : IsLeft t) → After t r w → Told Ended t r w → BareIf Ended t w → Left (fed_functions t r)
    fed-left (has_ended at idle) all told bare =
        subst Left (sym (finished-fed t r on follow has (at, idle)))
        (record { on = on; at = has_ended at idle; bare = tt; each = all; apart = apart; unlooked = unlooked })
    fed-left w after told bare =
        let l = leaves t r on follow has w tt in went-left w (fed_functions t r) l.on l.went after told bare
