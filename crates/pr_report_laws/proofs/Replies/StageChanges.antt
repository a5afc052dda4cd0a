use Rattle.std.proofs.Common.{◌≡◌, ◌≢◌, ◌⊎◌, ◌==◌, ◌&&◌, ◌<◌, ℕ, Bool, true, false, Option, Some, List, [], ◌∷◌, length, refl, sym, subst, ap, ◌∙◌, arith, inl, inr}
use Rattle.std.proofs.lemmas.Bool.{cases_eq, eq-eqb, false≢true, ne_eqb}
use Rattle.std.proofs.lemmas.List.{get_or-set_other, get_or_append_left, length-append, length-set}
use Rattle.std.specs.List.{remove}
use Rattle.pr_model.specs.Replies.{handle_in}
use Rattle.pr_model.specs.declared.calls.Reply.{Reply}
use Rattle.pr_rec.specs.declared.lwps.LwpStatus.{LwpStatus}
use Rattle.pr_truss.specs.Children.{child_learnt, child_step_after, with_child_control}
use Rattle.pr_truss.specs.Openings.{learnt, step_after, with_control}
use Rattle.pr_truss.specs.Replies.{answer_of}
use Rattle.pr_truss.specs.Trusses.{TrussState, nobody, traced_at, with_opened, with_stage, with_traced}
use Rattle.pr_truss.specs.declared.processes.Traced.{Traced}
use Rattle.pr_truss.specs.declared.replies.Answer.TheVariants.{Accepted, Interrupted, Gone}
use Rattle.pr_truss.specs.declared.stages.AfterClosing.{AfterClosing}
use Rattle.pr_truss.specs.declared.stages.AfterClosing.TheVariants.{GoOn}
use Rattle.pr_truss.specs.declared.stages.ChildStep.{ChildStep}
use Rattle.pr_truss.specs.declared.stages.ChildStep.TheVariants as child
use Rattle.pr_truss.specs.declared.stages.FreeingStep.TheVariants as freeing
use Rattle.pr_truss.specs.declared.stages.OpeningStep.{OpeningStep}
use Rattle.pr_truss.specs.declared.stages.OpeningStep.TheVariants as opening
use Rattle.pr_truss.specs.declared.stages.Stage.{Stage}
use Rattle.pr_truss.specs.declared.stages.Stage.TheVariants.{OpeningControl, Opening, ReadingStatus, ReadingText, OpeningChildControl, OpeningChild, Running, Closing, Unfollowing, ReadingLwps, FreeingChild}
use Rattle.pr_truss_laws.proofs.Files.HeldLemmas.{at_place, set-at}
use Rattle.pr_truss_laws.proofs.Replies.ReplySteps as step
use Rattle.pr_truss_laws.proofs.Replies.ReplySteps.{GoesOn, StopOver, on-staged}
use Rattle.pr_report_laws.proofs.Replies.NextStages.{on-comes, opens}
use Rattle.pr_report_laws.specs.Watching.{is_away}

-- What a reply makes of truss, for the processes that it traces: which ones stay as they are, and which one the next
-- step opens, leaves or closes.

-- ---- a process that stays

-- At this place stands the same process, attached as before.
pub record StaysAt (t u : TrussState) (place : ℕ) : Type 0 where
  pub there : place < length t.traced → place < length u.traced
  pub was : place < length u.traced → place < length t.traced
  pub pid : place < length t.traced → (traced_at u place).pid ≡ (traced_at t place).pid
  pub attached : place < length t.traced → (traced_at u place).attached ≡ (traced_at t place).attached

pub same-stays : (t u : TrussState) → u.traced ≡ t.traced → (place : ℕ) → StaysAt t u place
same-stays t u same place = record {
  there = λ within. subst (λ (ts : List Traced). place < length ts) (sym same) within;
  was = λ within. subst (λ (ts : List Traced). place < length ts) same within;
  pid = λ within. ap (λ (ts : List Traced). (at_place ts place).pid) same;
  attached = λ within. ap (λ (ts : List Traced). (at_place ts place).attached) same;
}

pub both-stay : (t u v : TrussState) (place : ℕ) → StaysAt t u place → v.traced ≡ u.traced → StaysAt t v place
both-stay t u v place p same =
    let q : StaysAt u v place = same-stays u v same place in
    record {
      there = λ within. q.there (p.there within);
      was = λ within. p.was (q.was within);
      pid = λ within. q.pid (p.there within) ∙ p.pid within;
      attached = λ within. q.attached (p.there within) ∙ p.attached within;
    }

-- another process changes
pub set-other : (t : TrussState) (place : ℕ) (x : Traced) (other : ℕ) → other ≢ place
    → StaysAt t (with_traced t place x) other
set-other t place x other apart =
    let same = get_or-set_other t.traced place other x nobody apart in
    record {
      there = λ within. omega (arith, length-set t.traced place x);
      was = λ within. omega (arith, length-set t.traced place x);
      pid = λ within. ap (λ (y : Traced). y.pid) same;
      attached = λ within. ap (λ (y : Traced). y.attached) same;
    }

-- this one changes, but neither its id nor whether it is attached
pub set-stays : (t : TrussState) (place : ℕ) (x : Traced) → place < length t.traced → x.pid ≡ (traced_at t place).pid
    → x.attached ≡ (traced_at t place).attached → (other : ℕ) → StaysAt t (with_traced t place x) other
set-stays t place x within pid attached other = elim (cases_eq other place) [
  | inl same ↦ subst (λ n. StaysAt t (with_traced t place x) n) (sym same) here
  | inr apart ↦ set-other t place x other apart
]
  where
    here : StaysAt t (with_traced t place x) place
    here = record {
      there = λ inside. omega (arith, length-set t.traced place x);
      was = λ inside. within;
      pid = λ inside. ap (λ (y : Traced). y.pid) (set-at t.traced place x within) ∙ pid;
      attached = λ inside. ap (λ (y : Traced). y.attached) (set-at t.traced place x within) ∙ attached;
    }

-- one process more
pub push-other : (t : TrussState) (x : Traced) (other : ℕ) → other ≢ length t.traced → StaysAt t (with_opened t x) other
push-other t x other apart = record {
  there = λ within. omega (arith, length-append t.traced (x ∷ []));
  was = λ within. omega (arith, length-append t.traced (x ∷ []));
  pid = λ within. ap (λ (y : Traced). y.pid) (get_or_append_left t.traced (x ∷ []) nobody other within);
  attached = λ within. ap (λ (y : Traced). y.attached) (get_or_append_left t.traced (x ∷ []) nobody other within);
}

-- ---- what truss comes to

-- a step that is about no process that is attached
pub record IsFree (u : TrussState) : Type 0 where
  pub here : (place : ℕ) → (traced_at u place).attached ≡ true → is_away u.leaving u.stage place ≡ false
  pub opens : opens u.stage ≡ false

-- the stages that ask something of the process at a place
pub data Asks (stage : Stage) (place : ℕ) : Type 0 where
  status : stage ≡ ReadingStatus place → Asks stage place
  text : (l : LwpStatus) (from len : ℕ) → stage ≡ ReadingText place l from len → Asks stage place
  runs : stage ≡ Running place → Asks stage place
  unfollows : stage ≡ Unfollowing → place ≡ 0 → Asks stage place

module _ (t : TrussState) (r : Reply) where
  -- why truss comes to leave or to close the process at a place, or opens it
  pub data Ends (place : ℕ) : Type 0 where
    away_before : is_away t.leaving t.stage place ≡ true → Ends place
    is_new : place ≡ length t.traced → Ends place
    gone : answer_of r ≡ Gone → Asks t.stage place → Ends place
    looked : t.stage ≡ ReadingLwps → place ≡ 0 → Ends place

  -- why the opening of the process at a place is over
  pub data Begins (place : ℕ) : Type 0 where
    opened : t.stage ≡ Opening place opening.Start → answer_of r ≡ Accepted → Begins place
    followed : (parent : ℕ) → t.stage ≡ OpeningChild parent place child.Start → answer_of r ≢ Gone → Begins place
    interrupted : (step : OpeningStep) → t.stage ≡ Opening place step → answer_of r ≡ Interrupted → Begins place
    child_interrupted : (parent : ℕ) (step : ChildStep) → t.stage ≡ OpeningChild parent place step
        → answer_of r ≡ Interrupted → Begins place

  abbrev pub AllBegin : Type 0
  AllBegin = (place : ℕ) → (traced_at t place).attached ≡ true → is_away t.leaving t.stage place ≡ true → Begins place

  -- how the opening of the process at a place goes on
  pub data Opens (place : ℕ) (u : TrussState) : Type 0 where
    no : opens u.stage ≡ false → StaysAt t u place → Opens place u
    starts : (pid : ℕ) → t.stage ≡ OpeningControl pid → answer_of r ≡ Accepted → u ≡ with_control t pid (handle_in r)
        → Opens place u
    goes : (step next : OpeningStep) → t.stage ≡ Opening place step → answer_of r ≡ Accepted
        → step_after t.options r step ≡ Some next
        → u ≡ with_stage (with_traced t place (learnt (traced_at t place) r step)) (Opening place next) → Opens place u
    child_starts : (parent pid : ℕ) → t.stage ≡ OpeningChildControl parent pid → answer_of r ≡ Accepted
        → u ≡ with_child_control t parent pid (handle_in r) → Opens place u
    child_goes : (parent : ℕ) (step next : ChildStep) → t.stage ≡ OpeningChild parent place step
        → answer_of r ≡ Accepted → child_step_after step ≡ Some next
        → u ≡ with_stage (with_traced t place (child_learnt (traced_at t place) r step))
        (OpeningChild parent place next) → Opens place u

  pub record IsAt (place : ℕ) (u : TrussState) : Type 0 where
    pub others : (other : ℕ) → other ≢ place → StaysAt t u other
    pub away : is_away u.leaving u.stage place ≡ true
    pub alone : (other : ℕ) → other ≢ place → is_away u.leaving u.stage other ≡ false
    pub before : (other : ℕ) → other ≢ place → is_away t.leaving t.stage other ≡ false
    pub ends : Ends place
    pub opens : Opens place u

  pub data How (u : TrussState) : Type 0 where
    -- no process, of those that stay
    free : ((place : ℕ) → StaysAt t u place) → IsFree u → AllBegin → How u
    -- the process at this place
    at : (place : ℕ) → IsAt place u → How u
    -- no process, and the one at this place is closed
    less : (place : ℕ) (next : AfterClosing) → t.stage ≡ Closing place next → u.traced ≡ remove t.traced place
        → IsFree u → How u

  pub record Comes (u : TrussState) : Type 0 where
    pub leaves : u.leaving ≡ true → (t.leaving ≡ true) ⊎ (answer_of r ≡ Interrupted)
    pub how : How u

  -- ---- ways to come there

  -- no process was opened, left or closed before
  abbrev pub Idle : Type 0
  Idle = (place : ℕ) → is_away t.leaving t.stage place ≡ false

  pub idle-begins : Idle → AllBegin
  idle-begins idle place on away = absurd (false≢true (sym (idle place) ∙ away))

  stays-leaving : (u : TrussState) → u.leaving ≡ t.leaving → u.leaving ≡ true
      → (t.leaving ≡ true) ⊎ (answer_of r ≡ Interrupted)
  stays-leaving u same on = inl (sym same ∙ on)

  -- what comes next, from a state with the same processes
  pub next-comes : (u v : TrussState) (given : Bool) → ((place : ℕ) → StaysAt t u place)
      → (u.leaving ≡ true → (t.leaving ≡ true) ⊎ (answer_of r ≡ Interrupted)) → AllBegin → GoesOn u given v → Comes v
  next-comes u v given places left begins on =
      let c = on-comes u v given on in
      let s = on-staged on in
      record {
        leaves = λ is. left (sym s.leaving ∙ is);
        how =
            free (λ place. both-stay t u v place (places place) c.traced)
            (record { here = c.here; opens = c.opens }) begins;
      }

  -- a step that is about no process
  pub plain-comes : (v : TrussState) (stage : Stage) → v.traced ≡ t.traced → v.leaving ≡ t.leaving
      → ((place : ℕ) → is_away v.leaving stage place ≡ false) → opens stage ≡ false → AllBegin
      → Comes (with_stage v stage)
  plain-comes v stage same leaving none opens begins = record {
    leaves = λ on. stays-leaving v leaving on;
    how =
        free (same-stays t (with_stage v stage) same) (record { here = λ place on. none place; opens = opens }) begins;
  }

  -- the files of a process are closed
  pub closing-comes : (v : TrussState) (place : ℕ) (next : AfterClosing) → v.leaving ≡ t.leaving
      → ((other : ℕ) → StaysAt t v other) → ((other : ℕ) → other ≢ place → is_away t.leaving t.stage other ≡ false)
      → Ends place → Comes (with_stage v (Closing place next))
  closing-comes v place next leaving places before ends = record {
    leaves = λ on. stays-leaving v leaving on;
    how =
        at place
        (record {
          others = λ other apart. both-stay t v (with_stage v (Closing place next)) other
              (places other) refl;
          away =
              eq-eqb place place refl;
          alone =
              λ other apart. ne_eqb place other (λ same. apart (sym same));
          before =
              before;
          ends =
              ends;
          opens =
              no refl (both-stay t v (with_stage v (Closing place next)) place
              (places place) refl);
        });
  }

  -- ---- stops

  -- what is known where a stop of the process at a place is looked at
  pub record IsLooking (place : ℕ) : Type 0 where
    pub within : place < length t.traced
    pub idle : t.leaving ≡ false → Idle
    pub others : (other : ℕ) → other ≢ place → is_away t.leaving t.stage other ≡ false
    pub ends : t.leaving ≡ true → Ends place
    pub first : t.leaving ≡ true → place ≡ 0

  -- the same processes, and truss leaves as before
  pub record IsBased (v : TrussState) : Type 0 where
    pub places : (place : ℕ) → StaysAt t v place
    pub leaving : v.leaving ≡ t.leaving

  pub based : IsBased t
  based = record { places = same-stays t t refl; leaving = refl }

  module _ (place : ℕ) (l : IsLooking place) where
    -- a step about no process, where truss does not leave
    on-comes-to : (v : TrussState) (stage : Stage) → IsBased v → t.leaving ≡ false
        → ((other : ℕ) → is_away v.leaving stage other ≡ false) → opens stage ≡ false → Comes (with_stage v stage)
    on-comes-to v stage b stays none opens = record {
      leaves = λ on. stays-leaving v b.leaving on;
      how =
          free (λ other. both-stay t v (with_stage v stage) other (b.places other) refl)
          (record { here = λ other on. none other; opens = opens }) (idle-begins (l.idle stays));
    }

    -- a step about this process, where truss leaves
    left-comes : (v : TrussState) (stage : Stage) → IsBased v → t.leaving ≡ true → is_away v.leaving stage place ≡ true
        → ((other : ℕ) → other ≢ place → is_away v.leaving stage other ≡ false) → opens stage ≡ false
        → Comes (with_stage v stage)
    left-comes v stage b leaving away alone opens = record {
      leaves = λ on. stays-leaving v b.leaving on;
      how =
          at place
          (record {
            others = λ other apart. both-stay t v (with_stage v stage) other
                (b.places other) refl;
            away =
                away;
            alone =
                alone;
            before =
                l.others;
            ends =
                l.ends leaving;
            opens =
                no opens (both-stay t v (with_stage v stage) place (b.places place) refl);
          });
    }

    pub over-comes : (u v : TrussState) (pid : Option ℕ) → IsBased u → StopOver u place pid v → Comes v
    over-comes u v pid b (step.runs off) = on-comes-to u (Running place) b (sym b.leaving ∙ off) (λ other. refl) refl
    over-comes u v pid b (step.leaves on) =
        left-comes u (Closing place GoOn) b (sym b.leaving ∙ on) (eq-eqb place place refl)
        (λ other apart. ne_eqb place other (λ same. apart (sym same))) refl
    over-comes u v pid b (step.opens_child {pid = child} off) =
        on-comes-to u (OpeningChildControl place child) b (sym b.leaving ∙ off) (λ other. refl) refl
    over-comes u v pid b (step.frees_child {pid = child} on) =
        let first : place ≡ 0 = l.first (sym b.leaving ∙ on) in
        left-comes u (FreeingChild child freeing.OpenControl) b (sym b.leaving ∙ on) (eq-eqb place 0 first)
        (λ other apart. ne_eqb other 0 (λ same. apart (same ∙ sym first))) refl

    pub asks-comes : (lwp : LwpStatus) (from len : ℕ) → Comes (with_stage t (ReadingText place lwp from len))
    asks-comes lwp from len = by t.leaving refl
      where
        by : (c : Bool) → t.leaving ≡ c → Comes (with_stage t (ReadingText place lwp from len))
        by true is =
            left-comes t (ReadingText place lwp from len) based is (ap (λ c. c && (place == place)) is
            ∙ eq-eqb place place refl)
            (λ other apart. ap (λ c. c && (place == other)) is ∙ ne_eqb place other (λ same. apart (sym same))) refl
        by false is =
            on-comes-to t (ReadingText place lwp from len) based is (λ other. ap (λ c. c && (place == other)) is) refl
