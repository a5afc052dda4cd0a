use Rattle.std.proofs.Common.{◌≡◌, ◌≢◌, ◌⊎◌, ◌==◌, ◌&&◌, ◌<◌, ℕ, Bool, true, false, Option, length, refl, sym, subst, ap, ◌∙◌, inl, inr}
use Rattle.std.proofs.lemmas.Bool.{cases_eq, eq-eqb, false≢true, ne_eqb}
use Rattle.pr_model.specs.Replies.{handle_in}
use Rattle.pr_model.specs.declared.calls.Reply.{Reply}
use Rattle.pr_rec.specs.declared.lwps.LwpStatus.{LwpStatus}
use Rattle.pr_truss.specs.Children.{with_child_control}
use Rattle.pr_truss.specs.Feeding.{fed}
use Rattle.pr_truss.specs.Openings.{learnt, with_control}
use Rattle.pr_truss.specs.Processes.{newly_traced}
use Rattle.pr_truss.specs.Replies.{answer_of}
use Rattle.pr_truss.specs.Trusses.{TrussState, traced_at, with_opened, with_report, with_stage, with_traced, without_traced}
use Rattle.pr_truss.specs.declared.processes.Traced.{Traced}
use Rattle.pr_truss.specs.declared.replies.Answer.TheVariants.{Interrupted}
use Rattle.pr_truss.specs.declared.reports.Report.{Report}
use Rattle.pr_truss.specs.declared.stages.AfterClosing.{AfterClosing}
use Rattle.pr_truss.specs.declared.stages.AfterClosing.TheVariants.{OpenNext, GoOn, RunParent}
use Rattle.pr_truss.specs.declared.stages.FreeingStep.{FreeingStep}
use Rattle.pr_truss.specs.declared.stages.OpeningStep.TheVariants as opening
use Rattle.pr_truss.specs.declared.stages.Stage.{Stage}
use Rattle.pr_truss.specs.declared.stages.Stage.TheVariants.{Opening, ReadingStatus, ReadingText, Running, Closing, ReadingLwps, FreeingChild}
use Rattle.pr_truss_laws.proofs.Replies.FitLemmas.{parent-within}
use Rattle.pr_truss_laws.proofs.Files.HeldLemmas.{Fits}
use Rattle.pr_truss_laws.proofs.Replies.ReplySteps as step
use Rattle.pr_truss_laws.proofs.Replies.ReplySteps.{Closes, GoesOn, Looks, Reads, ReplyStep, Returns, Settles, StopOver, Turns, lost-same, on-staged, seen_at}
use Rattle.pr_truss_laws.proofs.Replies.FedSteps.{fed-step}
use Rattle.pr_report_laws.proofs.Replies.NextStages
use Rattle.pr_report_laws.proofs.Replies.NextStages.{on-comes}
use Rattle.pr_report_laws.proofs.Replies.OpeningParts.{last-start, learnt-pid, learnt-start}
use Rattle.pr_report_laws.proofs.Replies.StageChanges.{AllBegin, Begins, Comes, Ends, Idle, IsBased, IsLooking, Opens, StaysAt, asks-comes, at, away_before, based, both-stay, child_goes, child_interrupted, child_starts, closing-comes, followed, goes, gone, idle-begins, interrupted, is_new, less, looked, next-comes, no, opened, over-comes, plain-comes, push-other, runs, same-stays, set-other, set-stays, starts, status, text, unfollows}
use Rattle.pr_report_laws.proofs.Invariant.StandLemmas.{Leaves}
use Rattle.pr_report_laws.specs.Watching.{is_away}

-- What each reply makes of truss, a kind of step each.

module _ (t : TrussState) (r : Reply) where
  -- where the stage is none that is about a process
  stage-idle : (stage : Stage) → t.stage ≡ stage → ((place : ℕ) → is_away t.leaving stage place ≡ false) → Idle t r
  stage-idle stage is none place = ap (λ x. is_away t.leaving x place) is ∙ none place

  report-stays : (report : Report) (place : ℕ) → StaysAt t (with_report t report) place
  report-stays report place = same-stays t (with_report t report) refl place

  -- the stage is about the process at a place, and about no other
  record IsOf (place : ℕ) : Type 0 where
    away : is_away t.leaving t.stage place ≡ true
    alone : (other : ℕ) → other ≢ place → is_away t.leaving t.stage other ≡ false

  stage-of : (place : ℕ) (stage : Stage) → t.stage ≡ stage
      → ((other : ℕ) → is_away t.leaving stage other ≡ (place == other)) → IsOf place
  stage-of place stage is same = record {
    away = ap (λ x. is_away t.leaving x place) is ∙ same place ∙ eq-eqb place place refl;
    alone =
        λ other apart. ap (λ x. is_away t.leaving x other) is ∙ same other ∙ ne_eqb place other (λ e. apart (sym e));
  }

  of-begins : (place : ℕ) → IsOf place → Begins t r place → AllBegin t r
  of-begins place w why other on away =
      elim (cases_eq other place) [
        | inl same ↦ subst (Begins t r) (sym same) why
        | inr apart ↦ absurd
            (false≢true (sym (w.alone other apart) ∙ away))
      ]

  -- the stage goes on to be about it
  of-comes : (place : ℕ) (v : TrussState) → IsOf place → v.leaving ≡ t.leaving
      → ((other : ℕ) → other ≢ place → StaysAt t v other) → is_away v.leaving v.stage place ≡ true
      → ((other : ℕ) → other ≢ place → is_away v.leaving v.stage other ≡ false) → Opens t r place v → Comes t r v
  of-comes place v w leaving others away alone opens = record {
    leaves = λ on. inl (sym leaving ∙ on);
    how = at place (record {
      others = others;
      away = away;
      alone = alone;
      before = w.alone;
      ends = away_before w.away;
      opens = opens;
    });
  }

  of-closes : (place : ℕ) (v : TrussState) (next : AfterClosing) → IsOf place → v.traced ≡ t.traced
      → v.leaving ≡ t.leaving → Comes t r (with_stage v (Closing place next))
  of-closes place v next w same leaving =
      closing-comes t r v place next leaving (same-stays t v same) w.alone (away_before w.away)

  -- ---- nothing is to be done for a process any more

  -- the stop of a process was looked at
  seen-stays : (u : TrussState) (place : ℕ) → place < length t.traced → u.traced ≡ (seen_at t place).traced
      → (other : ℕ) → StaysAt t u other
  seen-stays u place within same other =
      both-stay t (seen_at t place) u other
      (set-stays t place (record (traced_at t place) { seen = true }) within refl refl other) same

  idle-next : (stage : Stage) (given : Bool) (u v : TrussState) → t.stage ≡ stage
      → ((place : ℕ) → is_away t.leaving stage place ≡ false) → ((place : ℕ) → StaysAt t u place)
      → (u.leaving ≡ true → (t.leaving ≡ true) ⊎ (answer_of r ≡ Interrupted)) → GoesOn u given v → Comes t r v
  idle-next stage given u v is none places left on =
      next-comes t r u v given places left (idle-begins t r (stage-idle stage is none)) on

  removed-comes : (place : ℕ) (next : AfterClosing) (given : Bool) (v : TrussState) → t.stage ≡ Closing place next
      → GoesOn (without_traced t place) given v → Comes t r v
  removed-comes place next given v is on =
      let c = on-comes (without_traced t place) v given on in
      let s = on-staged on in
      record {
        leaves = λ on. inl (sym s.leaving
            ∙ on);
        how = less place next is c.traced (record { here = c.here; opens = c.opens });
      }

  text-away : (place : ℕ) (l : LwpStatus) (from len other : ℕ) → t.stage ≡ ReadingText place l from len
      → is_away t.leaving t.stage other ≡ (t.leaving && (place == other))
  text-away place l from len other is = ap (λ x. is_away t.leaving x other) is

  settles-comes : (stage : Stage) (given : Bool) (u v : TrussState) → t.stage ≡ stage → Fits t.traced stage
      → Settles t r stage given u → GoesOn u given v → Comes t r v
  settles-comes stage given u v is f (step.interrupts_start a) on =
      idle-next stage given u v is (λ other. refl) (same-stays t u refl) (λ left. inr a) on
  settles-comes stage given u v is f (step.interrupts_control a) on =
      idle-next stage given u v is (λ other. refl) (same-stays t u refl) (λ left. inr a) on
  settles-comes stage given u v is f (step.interrupts_poll a) on =
      idle-next stage given u v is (λ other. refl) (same-stays t u refl) (λ left. inr a) on
  settles-comes stage given u v is f (step.interrupts_status a) on =
      idle-next stage given u v is (λ other. refl) (same-stays t u refl) (λ left. inr a) on
  settles-comes stage given u v is f (step.interrupts_opening {place = place} {now = now} a) on =
      next-comes t r u v given (seen-stays u place f.0 refl) (λ left. inr a)
      (of-begins place (stage-of place stage is (λ other. refl)) (interrupted now is a)) on
  settles-comes stage given u v is f (step.interrupts_text {place = place} a off) on =
      idle-next stage given u v is (λ other. ap (λ b. b && (place == other)) off) (seen-stays u place f refl)
      (λ left. inr a) on
  settles-comes stage given u v is f (step.interrupts_child_control {parent = parent} a) on =
      idle-next stage given u v is (λ other. refl) (seen-stays u parent f refl) (λ left. inr a) on
  settles-comes stage given u v is f (step.interrupts_child {parent = parent} {place = place} {now = now} a) on =
      next-comes t r u v given (seen-stays u parent (parent-within t.traced parent place f.0) refl) (λ left. inr a)
      (of-begins place (stage-of place stage is (λ other. refl)) (child_interrupted parent now is a)) on
  settles-comes stage given u v is f (step.interrupts_run {place = place} a) on =
      idle-next stage given u v is (λ other. refl) (seen-stays u place f refl) (λ left. inr a) on
  settles-comes stage given u v is f (step.refuses_start _ _) on =
      idle-next stage given u v is (λ other. refl) (same-stays t u refl) (λ left. inl left) on
  settles-comes stage given u v is f (step.refuses_control _ _) on =
      idle-next stage given u v is (λ other. refl) (same-stays t u refl) (λ left. inl left) on
  settles-comes stage given u v is f (step.ends_opening {place = place} {now = now} a none) on =
      let last : now ≡ opening.Start = last-start t.options r now none in
      let attached = ap (λ (x : Traced). x.attached) (learnt-start (traced_at t place) r now last) in
      next-comes t r u v given
      (set-stays t place (learnt (traced_at t place) r now) f.0 (learnt-pid (traced_at t place) r now) attached)
      (λ left. inl left)
      (of-begins place (stage-of place stage is (λ other. refl)) (opened (is ∙ ap (λ n. Opening place n) last) a)) on
  settles-comes stage given u v is f step.ran on =
      idle-next stage given u v is (λ other. refl) (same-stays t u refl) (λ left. inl left) on
  settles-comes stage given u v is f (step.closed_next {place = place} _) on =
      removed-comes place OpenNext given v is on
  settles-comes stage given u v is f (step.closed {place = place} _) on = removed-comes place GoOn given v is on

  -- ---- a stop

  text-others : (place : ℕ) (l : LwpStatus) (from len : ℕ) → t.stage ≡ ReadingText place l from len → (other : ℕ)
      → other ≢ place
      → is_away t.leaving t.stage other ≡ false
  text-others place l from len is other apart =
      text-away place l from len other is ∙ ap (λ b. t.leaving && b) (ne_eqb place other (λ e. apart (sym e)))
      ∙ never t.leaving
    where
      never : (b : Bool) → (b && false) ≡ false
      never true = refl
      never false = refl

  text-looks : (place : ℕ) (l : LwpStatus) (from len : ℕ) → t.stage ≡ ReadingText place l from len
      → place < length t.traced
      → (t.leaving ≡ true → place ≡ 0) → IsLooking t r place
  text-looks place l from len is within first = record {
    within = within;
    idle = λ off other. text-away place l from len other is ∙ ap (λ b. b && (place == other)) off;
    others = text-others place l from len is;
    ends =
        λ on. away_before (text-away place l from len place is ∙ ap (λ b. b && (place == place)) on
        ∙ eq-eqb place place refl);
    first = first;
  }

  status-looks : (place : ℕ) → t.stage ≡ ReadingStatus place → place < length t.traced → t.leaving ≡ false
      → IsLooking t r place
  status-looks place is within stays = record {
    within = within;
    idle = λ off. stage-idle (ReadingStatus place) is (λ other. refl);
    others = λ other apart. stage-idle (ReadingStatus place) is (λ q. refl) other;
    ends = λ on. absurd (false≢true (sym stays ∙ on));
    first = λ on. absurd (false≢true (sym stays ∙ on));
  }

  lwps-looks : t.stage ≡ ReadingLwps → 0 < length t.traced → IsLooking t r 0
  lwps-looks is within = record {
    within = within;
    idle = λ off. stage-idle ReadingLwps is (λ other. refl);
    others = λ other apart. stage-idle ReadingLwps is (λ q. refl) other;
    ends = λ left. looked is refl;
    first = λ left. refl;
  }

  reads-looks : (stage : Stage) (place : ℕ) (l : Option LwpStatus) → t.stage ≡ stage → Fits t.traced stage
      → Leaves t.leaving stage
      → Reads t r stage place l → IsLooking t r place
  reads-looks stage place l is f off (step.reads_lwps _) = lwps-looks is f
  reads-looks stage place l is f off (step.reads_status _) = status-looks place is f off
  reads-looks stage place l is f off (step.reads_none _) = status-looks place is f off

  reported-based : (x : Report) → IsBased t r (with_report t x)
  reported-based x = record { places = report-stays x; leaving = refl }

  looks-comes : (stage : Stage) (place : ℕ) (pid : Option ℕ) (u v : TrussState) → t.stage ≡ stage → Fits t.traced stage
      → Leaves t.leaving stage → Looks t r stage place pid u → StopOver u place pid v → Comes t r v
  looks-comes stage place pid u v is f off (step.passes w) over =
      over-comes t r place (reads-looks stage place _ is f off w.reads) u v pid (based t r) over
  looks-comes stage place pid u v is f off (step.passes_old reads _ _) over =
      let w = reads-looks stage place _ is f off reads in
      over-comes t r place w u v pid (record { places = set-stays t place _ w.within refl refl; leaving = refl }) over
  looks-comes stage place pid u v is f off (step.passes_event reads _ _) over =
      over-comes t r place (reads-looks stage place _ is f off reads) u v pid (based t r) over
  looks-comes stage place pid u v is f off (step.shows reads _ _ _) over =
      over-comes t r place (reads-looks stage place _ is f off reads) u v pid (reported-based _) over
  looks-comes stage place pid u v is f off (step.shows_text {l = l} {from = from} {len = len}) over =
      over-comes t r place (text-looks place l from len is f off) u v pid (reported-based _) over

  -- ---- the files of a process are to be closed

  free-of : (pid : ℕ) (now : FreeingStep) → t.stage ≡ FreeingChild pid now → IsOf 0
  free-of pid now is =
      record {
        away = ap (λ x. is_away t.leaving x 0) is;
        alone = λ other apart. ap (λ x. is_away t.leaving x other) is
            ∙ ne_eqb other 0 apart;
      }

  ended-comes : (stage : Stage) (place : ℕ) (u : TrussState) → t.stage ≡ stage → u.traced ≡ t.traced
      → u.leaving ≡ t.leaving
      → ((other : ℕ) → other ≢ place → is_away t.leaving t.stage other ≡ false) → Ends t r place
      → Comes t r (with_stage u (Closing place GoOn))
  ended-comes stage place u is same leaving before ends =
      closing-comes t r u place GoOn leaving (same-stays t u same) before ends

  closes-comes : (stage : Stage) (place : ℕ) (next : AfterClosing) (u : TrussState) → t.stage ≡ stage
      → Closes t r stage place next u
      → Comes t r (with_stage u (Closing place next))
  closes-comes stage place next u is (step.status_ended a) =
      ended-comes stage place u is refl refl (λ other apart. stage-idle stage is (λ q. refl) other) (gone a (status is))
  closes-comes stage place next u is (step.text_ended {l = l} {from = from} {len = len} a) =
      ended-comes stage place u is refl refl (text-others place l from len is) (gone a (text l from len is))
  closes-comes stage place next u is (step.run_ended a) =
      ended-comes stage place u is refl refl (λ other apart. stage-idle stage is (λ q. refl) other) (gone a (runs is))
  closes-comes stage place next u is (step.left_ended a) =
      ended-comes stage place u is refl refl (λ other apart. stage-idle stage is (λ q. refl) other)
      (gone a (unfollows is refl))
  closes-comes stage place next u is (step.looked_last _) =
      ended-comes stage place u is refl refl (λ other apart. stage-idle stage is (λ q. refl) other) (looked is refl)
  closes-comes stage place next u is (step.freed_last {pid = pid}) = of-closes 0 u GoOn (free-of pid _ is) refl refl
  closes-comes stage place next u is (step.freed_none {pid = pid} _) = of-closes 0 u GoOn (free-of pid _ is) refl refl
  closes-comes stage place next u is (step.refuses_free {pid = pid} _ _) =
      of-closes 0 u GoOn (free-of pid _ is) refl refl
  closes-comes stage place next u is (step.refuses_opening _ _) =
      of-closes place u next (stage-of place stage is (λ other. refl)) refl refl
  closes-comes stage place next u is (step.refuses_child _ _) =
      of-closes place u next (stage-of place stage is (λ other. refl)) refl refl
  closes-comes stage place next u is (step.child_ended _) =
      of-closes place u next (stage-of place stage is (λ other. refl)) refl refl

  -- ---- a process is opened, and its opening goes on

  opened-comes : (stage next : Stage) (pid : ℕ) → t.stage ≡ stage
      → ((other : ℕ) → is_away t.leaving stage other ≡ false)
      → ((other : ℕ) → is_away t.leaving next other ≡ (length t.traced == other))
      → Opens t r (length t.traced) (with_stage (with_opened t (newly_traced pid (handle_in r))) next)
      → Comes t r (with_stage (with_opened t (newly_traced pid (handle_in r))) next)
  opened-comes stage next pid is none of opens =
      let new : Traced = newly_traced pid (handle_in r) in
      record {
        leaves = λ on. inl on;
        how = at (length t.traced) (record {
          others = λ other apart. both-stay t (with_opened t new) _ other (push-other t new other apart) refl;
          away = of (length t.traced) ∙ eq-eqb (length t.traced) (length t.traced) refl;
          alone = λ other apart. of other ∙ ne_eqb (length t.traced) other (λ same. apart (sym same));
          before = λ other apart. stage-idle stage is none other;
          ends = is_new refl;
          opens = opens;
        });
      }

  set-comes : (stage next : Stage) (place : ℕ) (x : Traced) → t.stage ≡ stage
      → ((other : ℕ) → is_away t.leaving stage other ≡ (place == other))
      → ((other : ℕ) → is_away t.leaving next other ≡ (place == other))
      → Opens t r place (with_stage (with_traced t place x) next)
      → Comes t r (with_stage (with_traced t place x) next)
  set-comes stage next place x is of after opens =
      of-comes place (with_stage (with_traced t place x) next) (stage-of place stage is of) refl
      (λ other apart. both-stay t (with_traced t place x) _ other (set-other t place x other apart) refl)
      (after place ∙ eq-eqb place place refl) (λ other apart. after other
      ∙ ne_eqb place other (λ e. apart (sym e))) opens

  -- ---- every kind

  frees-comes : (pid : ℕ) (now next : FreeingStep) → t.stage ≡ FreeingChild pid now
      → Comes t r (with_stage t (FreeingChild pid next))
  frees-comes pid now next is =
      of-comes 0 (with_stage t (FreeingChild pid next)) (free-of pid now is) refl
      (λ other apart. same-stays t _ refl other) refl
      (λ other apart. ne_eqb other 0 apart) (no refl (same-stays t _ refl 0))

  idle-comes : (stage next : Stage) (u : TrussState) → t.stage ≡ stage → u.traced ≡ t.traced → u.leaving ≡ t.leaving
      → ((place : ℕ) → is_away t.leaving stage place ≡ false) → ((place : ℕ) → is_away u.leaving next place ≡ false)
      → NextStages.opens next ≡ false → Comes t r (with_stage u next)
  idle-comes stage next u is same leaving none after opens =
      plain-comes t r u next same leaving after opens (idle-begins t r (stage-idle stage is none))

  turns-comes : (stage next : Stage) → t.stage ≡ stage → Turns t r stage next → Comes t r (with_stage t next)
  turns-comes stage next is (step.frees {pid = pid} _) = frees-comes pid _ _ is
  turns-comes stage next is (step.frees_on {pid = pid}) = frees-comes pid _ _ is
  turns-comes stage next is (step.starts _) = idle-comes stage next t is refl refl (λ place. refl) (λ place. refl) refl
  turns-comes stage next is _ = idle-comes stage next t is refl refl (λ place. refl) (λ place. refl) refl

  returns-comes : (stage : Stage) (parent : ℕ) (u : TrussState) → t.stage ≡ stage → Returns t r stage parent u
      → Comes t r (with_stage u (Running parent))
  returns-comes stage parent u is (step.refuses_child_control _ _) =
      idle-comes stage (Running parent) u is refl refl (λ place. refl) (λ place. refl) refl
  returns-comes stage parent u is (step.child_runs {place = place} lives) =
      plain-comes t r t (Running parent) refl refl (λ other. refl) refl
      (of-begins place (stage-of place stage is (λ other. refl)) (followed parent is lives))
  returns-comes stage parent u is (step.child_closed {place = place} _) =
      record {
        leaves = λ on. inl on;
        how = less place (RunParent parent) is refl
            (record { here = λ other on. refl; opens = refl });
      }

  step-comes : (stage : Stage) (v : TrussState) → t.stage ≡ stage → Fits t.traced stage → Leaves t.leaving stage
      → ReplyStep t r stage v → Comes t r v
  unfolding with_control with_child_control
  step-comes stage v is f off (step.settles w on) = settles-comes stage _ _ v is f w on
  step-comes stage v is f off (step.looks w over) = looks-comes stage _ _ _ v is f off w over
  step-comes stage v is f off (step.asks {place = place} {l = l} {range = range} reads _ _ _) =
      asks-comes t r place (reads-looks stage place _ is f off reads) l range.0 range.1
  step-comes stage v is f off (step.closes w) = closes-comes stage _ _ _ is w
  step-comes stage v is f off (step.loses {place = place} {next = next} {t = x} one) =
      let kept = lost-same (traced_at t place) x one in
      set-comes stage (Closing place next) place x is (λ other. refl) (λ other. refl)
      (no refl
      (both-stay t (with_traced t place x) _ place (set-stays t place x f.0 kept.pid kept.attached place) refl))
  step-comes stage v is f off (step.opens a (step.new_given {pid = pid})) =
      opened-comes stage _ pid is (λ other. refl) (λ other. refl) (starts pid is a refl)
  step-comes stage v is f off (step.opens a (step.new_child {parent = parent} {pid = pid})) =
      opened-comes stage _ pid is (λ other. refl) (λ other. refl) (child_starts parent pid is a refl)
  step-comes stage v is f off (step.learns a (step.opening_goes {place = place} {now = now} {next = next} after)) =
      set-comes stage _ place _ is (λ other. refl) (λ other. refl) (goes now next is a after refl)
  step-comes stage v is f off
      (step.learns a (step.child_goes {parent = parent} {place = place} {now = now} {next = next} after)) =
      set-comes stage _ place _ is (λ other. refl) (λ other. refl) (child_goes parent now next is a after refl)
  step-comes stage v is f off (step.returns w) = returns-comes stage _ _ is w
  step-comes stage v is f off (step.turns w) = turns-comes stage _ is w

pub fed-comes : (t : TrussState) (r : Reply) → Fits t.traced t.stage → Leaves t.leaving t.stage → Comes t r (fed t r)
fed-comes t r f l = step-comes t r t.stage (fed t r) refl f l (fed-step t r)
