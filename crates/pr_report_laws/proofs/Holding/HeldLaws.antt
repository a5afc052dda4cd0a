use Rattle.std.proofs.Common.{◌≡◌, ◌++◌, ◌⊎◌, ℕ, Bool, true, Some, None, List, [], ◌∷◌, refl, sym, subst, ap, ◌∙◌, inl, inr}
use Rattle.pr_api.specs.Entries.{call_entry}
use Rattle.pr_line.specs.Selections.{is_selected}
use Rattle.pr_line.specs.declared.events.Event.{Event}
use Rattle.pr_line.specs.declared.options.Options.{Options}
use Rattle.pr_model.specs.State.{TracedState}
use Rattle.pr_model.specs.declared.calls.Call.TheVariants.{Read}
use Rattle.pr_model.specs.declared.calls.Reply.TheVariants.{Handle}
use Rattle.pr_model.specs.declared.events.Entry.{Entry}
use Rattle.pr_truss.specs.NextCalls.{call_of, next_call_of, open_control}
use Rattle.pr_truss.specs.Trusses.{TrussState, first_truss}
use Rattle.pr_truss.specs.declared.reports.Report.{Report}
use Rattle.pr_truss.specs.declared.stages.Stage.TheVariants.{OpeningChildControl}
use Rattle.pr_truss_laws.specs.Exchanges.{Exchange, exchange_of, truss_at}
use Rattle.pr_report_laws.specs.ReachedRuns.{IsReachedTrussRun}
use Rattle.pr_truss_laws.specs.Runs.{IsTrussRun}
use Rattle.pr_report_laws.proofs.Files.FileSteps.{MakesNext}
use Rattle.pr_report_laws.proofs.Files.WatchHistories.{run-next}
use Rattle.pr_report_laws.proofs.Holding.HoldEnds.{same-exchange}
use Rattle.pr_report_laws.proofs.Holding.HoldEvents.{came-is}
use Rattle.pr_report_laws.proofs.Holding.HoldPlaces.{came, gets-off, hold-watched, one-run, watched-hold}
use Rattle.pr_report_laws.proofs.Holding.OverEnds.{goes-off}
use Rattle.pr_report_laws.proofs.Memory.EventMemory.{lineage-memories, unfollowed-memories}
use Rattle.pr_report_laws.proofs.Reading.ReadLaws.{lineage-reads, unfollowed-reads}
use Rattle.pr_report_laws.proofs.SeenChildren.NoneLeft.{none-left}
use Rattle.pr_report_laws.proofs.UnopenedChildren.Births.{left-report, unfollowed-report}
use Rattle.pr_report_laws.proofs.UnopenedChildren.ChildReads.{child-told}
use Rattle.pr_report_laws.proofs.Watching.EndLaws.{stage-called, watched-let}
use Rattle.pr_report_laws.proofs.Watching.GripLaws.{grips-held}
use Rattle.pr_report_laws.proofs.Watching.HistoryParts.{front-run}
use Rattle.pr_report_laws.specs.AsChildren.{IsNeverOpenedAsChild, WasChildRead}
use Rattle.pr_report_laws.specs.Attachments.{IsLetGo}
use Rattle.pr_report_laws.specs.Births.{IsNeverFollowed}
use Rattle.pr_report_laws.specs.HeldEvents.{DiedHeld, IsLacking, IsUnanswered, ReadsHeld, ShowsHeld}
use Rattle.pr_report_laws.specs.HeldForks as care
use Rattle.pr_report_laws.specs.HeldForks.{CaresForChildren, DiedUnread, IsCaredFor}
use Rattle.pr_report_laws.specs.HeldGrips.{HasOneGrip}
use Rattle.pr_report_laws.specs.HeldMemories.{StandAtTheirEvents, StandsAtItsEvent}
use Rattle.pr_report_laws.specs.Holds.{HasHold, LetsGoIn}
use Rattle.pr_report_laws.specs.Lineages.{IsLeftToTruss}
use Rattle.pr_report_laws.specs.Memories.{AreOfTheirEvents, IsMemoryRead, IsOfItsEvent}
use Rattle.pr_report_laws.specs.Reads.{HasRead, traced, traces}
use Rattle.pr_report_laws.specs.Reported.{IsKilled, IsMissed, IsReported, IsUnread}
use Rattle.pr_report_laws.specs.SeenTo as seen
use Rattle.pr_report_laws.specs.SeenTo.{IsSeenTo, LeavesNoChild, WasLost}
use Rattle.pr_report_laws.specs.Shown.{LwpEvent, selected}
use Rattle.pr_report_laws.specs.WatchedGrips.{HasGrips}
use Rattle.pr_report_laws.specs.Watching.{watches}

-- What truss has read and shown, in the words of the hold.

-- the open of a child
opens-so : (pid : ℕ) (t : TrussState) (x : Exchange) (of : ℕ) → next_call_of t ≡ Some x.call
    → t.stage ≡ OpeningChildControl of pid → x.call ≡ open_control pid
unfolding call_of
opens-so pid t x of next at = stage-called t x (OpeningChildControl of pid) (open_control pid) next at refl

module _ (n k : ℕ) (o : Options) (pid : ℕ) (s : TracedState) (h : List Entry) (run : IsTrussRun n k o s h) where
  held-before : (before later : List Entry) → h ≡ before ++ later → watches (truss_at k o before) pid ≡ true
      → HasHold k o pid s before
  held-before before later is on =
      watched-hold n k o pid s before (front-run n k o s before later (subst (IsTrussRun n k o s) is run)) on

  -- ---- what may be missing

  died-held : IsKilled k pid (first_truss o) s h → DiedHeld k o pid s h
  died-held w = record {
    before = w.before;
    entry = w.entry;
    later = w.later;
    is = w.is;
    held = held-before w.before (w.entry ∷ w.later) w.is w.watched;
    process = w.process;
    lived = w.lived;
    zombie = w.zombie;
    left = w.left;
    status = w.status;
  }

  unanswered : (picks : Event → Bool) (event : LwpEvent) → IsUnread picks k o pid s h event
      → IsUnanswered picks k o pid s h event
  unanswered picks event w = record {
    before = w.before;
    entry = w.entry;
    later = w.later;
    is = w.is;
    held = held-before w.before (w.entry ∷ w.later) w.is w.watched;
    came = w.came;
    status = w.status;
    lwps = w.lwps;
  }

  lacking : (picks : Event → Bool) (missing : List LwpEvent)
      → (missing ≡ []) ⊎ IsMissed picks k o pid s h missing → (missing ≡ []) ⊎ IsLacking picks k o pid s h missing
  lacking picks missing (inl none) = inl none
  lacking picks missing (inr m) =
      inr (record {
        event = m.event;
        one = m.one;
        cause = elim m.cause [
          | inl on ↦ inl (watched-hold n k o pid s h run on)
          | inr killed ↦ inr (died-held killed)
        ];
        unread = unanswered picks m.event m.unread;
      })

  -- ---- what was shown and read

  shows-held : IsReported k o pid s h → ShowsHeld k o pid s h
  shows-held r =
      let c = came n k o pid s h run in
      record {
        logged = c.logged;
        held = c.held;
        missing = r.missing;
        is = ap (selected o pid) (sym (came-is n k o pid s h run c.logged c.held)) ∙ r.is;
        few = lacking (is_selected o) r.missing r.few;
      }

  reads-held : HasRead k o pid s h → ReadsHeld k o pid s h
  reads-held r =
      let c = came n k o pid s h run in
      record {
        events = r.events;
        read = r.read;
        logged = c.logged;
        held = c.held;
        missing = r.missing;
        came = ap (traced o pid) (sym (came-is n k o pid s h run c.logged c.held)) ∙ r.came;
        few = lacking (traces o) r.missing r.few;
        shows = r.shows;
      }

  -- ---- a process that truss never opened as a child

  pub never-followed : IsNeverOpenedAsChild k o pid s h → IsNeverFollowed k o pid h
  never-followed w = record {
    none = λ before later e opening handle parent is own stage given.
        by before later e opening handle parent is own stage given;
  }
    where
      by : (before later : List Entry) (e : Entry) (opening : Exchange) (handle parent : ℕ) → h ≡ before ++ e ∷ later
          → exchange_of k e ≡ Some opening → (truss_at k o before).stage ≡ OpeningChildControl parent pid
          → opening.reply ≡ Handle handle → ⊥
      by before later e opening handle parent is own stage given =
          let all : IsTrussRun n k o s (before ++ e ∷ later) = subst (IsTrussRun n k o s) is run in
          let one = one-run n k o pid s before later e all in
          let front = front-run n k o s before (e ∷ later) all in
          let t : TrussState = truss_at k o before in
          let next : next_call_of t ≡ Some opening.call = subst (MakesNext t) own (run-next n k o s before e one) in
          let called = opens-so pid t opening parent next stage in
          let same = same-exchange opening (open_control pid) (Handle handle) called given in
          let told : WasChildRead k o pid s before = (child-told n k o s before front parent pid stage).0 in
          w.none told.parent (record {
            before = before;
            entry = e;
            handle = handle;
            later = later;
            is = is;
            opens = own ∙ ap (λ (x : Exchange). Some x) same;
            told = told;
            of = refl;
          })

  -- ---- why truss lets it go

  goes-for-reason : (before later : List Entry) (e : Entry) → h ≡ before ++ e ∷ later → HasHold k o pid s before
      → LetsGoIn k pid s before e → IsLetGo k pid s before e
  goes-for-reason before later e is held goes =
      let all : IsTrussRun n k o s (before ++ e ∷ later) = subst (IsTrussRun n k o s) is run in
      let one = one-run n k o pid s before later e all in
      let on = hold-watched n k o pid s before (front-run n k o s before (e ∷ later) all) held in
      watched-let n k o pid s before e one on (goes-off n k o pid s before e one on goes)

-- ---- the laws

pub shown-while-held : (n k : ℕ) (o : Options) (pid : ℕ) (s : TracedState) (h : List Entry)
    → IsReachedTrussRun n k o s h → IsLeftToTruss k o pid s h ⊎ IsNeverOpenedAsChild k o pid s h → ShowsHeld k o pid s h
shown-while-held n k o pid s h run (inl left) =
    shows-held n k o pid s h run.of (left-report n k o pid s h run left)
shown-while-held n k o pid s h run (inr unopened) =
    shows-held n k o pid s h run.of
    (unfollowed-report n k o pid s h run (never-followed n k o pid s h run.of unopened))

pub read-while-held : (n k : ℕ) (o : Options) (pid : ℕ) (s : TracedState) (h : List Entry)
    → IsReachedTrussRun n k o s h → IsLeftToTruss k o pid s h ⊎ IsNeverOpenedAsChild k o pid s h → ReadsHeld k o pid s h
read-while-held n k o pid s h run (inl left) =
    reads-held n k o pid s h run.of (lineage-reads n k o pid s h run left)
read-while-held n k o pid s h run (inr unopened) =
    reads-held n k o pid s h run.of
    (unfollowed-reads n k o pid s h run (never-followed n k o pid s h run.of unopened))

-- the memory of its events
module _ (n k : ℕ) (o : Options) (pid : ℕ) (s : TracedState) (h : List Entry) (run : IsTrussRun n k o s h) where
  stands-at : (from len : ℕ) (reports : List Report) (l : _) (text : _)
      → IsOfItsEvent k o pid from len s h reports l text → StandsAtItsEvent k o pid from len s h reports l text
  stands-at from len reports l text w =
      let r : IsMemoryRead k o pid from len s h reports text = w.read in
      let all : IsTrussRun n k o s (r.before ++ call_entry k (Read r.handle from len) r.reply ∷ r.later) =
      subst (IsTrussRun n k o s) r.is run in
      let front : IsTrussRun n k o s r.before =
      front-run n k o s r.before (call_entry k (Read r.handle from len) r.reply ∷ r.later) all in
      let earlier : IsTrussRun n k o s w.earlier =
      front-run n k o s w.earlier (w.entry ∷ w.between) (subst (IsTrussRun n k o s) w.is front) in
      let c = came n k o pid s w.earlier earlier in
      record {
        read = r;
        earlier = w.earlier;
        entry = w.entry;
        between = w.between;
        is = w.is;
        held = watched-hold n k o pid s w.earlier earlier w.watched;
        event = w.event;
        told = w.told;
        came = w.came;
        logged = c.logged;
        since = c.held;
        in_order =
            ap (selected o pid) (sym (came-is n k o pid s w.earlier earlier c.logged c.held)) ∙ w.in_order;
        process = w.process;
        lives = w.lives;
        stayed = w.stayed;
      }

  stand-at : (reports : List Report) → AreOfTheirEvents k o pid s h reports → StandAtTheirEvents k o pid s h reports
  stand-at reports w = record {
    each = λ earlier later l text from len is asked.
        stands-at from len earlier l text (w.each earlier later l text from len is asked);
  }

pub moments-while-held : (n k : ℕ) (o : Options) (pid : ℕ) (s : TracedState) (h : List Entry)
    → IsReachedTrussRun n k o s h → IsLeftToTruss k o pid s h ⊎ IsNeverOpenedAsChild k o pid s h
    → StandAtTheirEvents k o pid s h (truss_at k o h).reports
moments-while-held n k o pid s h run (inl left) =
    stand-at n k o pid s h run.of (truss_at k o h).reports (lineage-memories n k o pid s h run left)
moments-while-held n k o pid s h run (inr unopened) =
    stand-at n k o pid s h run.of (truss_at k o h).reports
    (unfollowed-memories n k o pid s h run (never-followed n k o pid s h run.of unopened))

-- its grip
pub gripped-once : (n k : ℕ) (o : Options) (pid : ℕ) (s : TracedState) (h : List Entry)
    → IsReachedTrussRun n k o s h → HasOneGrip k o pid s h
gripped-once n k o pid s h run =
    let w : HasGrips k o pid s h = grips-held n k o pid s h run in
    record {
      once = w.once;
      waits = w.waits;
      quiet = w.quiet;
      held = λ before grip later logged is g c.
          w.watched before grip later is g ∙ ap (selected o pid) (came-is n k o pid s h run.of logged c);
      born = λ grip later logged is g left c.
          w.born grip later is g left ∙ ap (selected o pid) (came-is n k o pid s h run.of logged c);
    }

-- the children of forks
module _ (n k : ℕ) (o : Options) (s : TracedState) (h : List Entry) (run : IsTrussRun n k o s h) where
  died-unread : (parent : ℕ) (before later : List Entry) (fork : Entry) → h ≡ before ++ fork ∷ later
      → WasLost k o parent s before fork later → DiedUnread k o parent s before fork later
  died-unread parent before later fork is w = record {
    killed =
        died-held n k o parent s (before ++ fork ∷ later) (subst (IsTrussRun n k o s) is run) w.killed;
    status = w.status;
    lwps = w.lwps;
  }

  cared-for : (parent child : ℕ) (before later : List Entry) (fork : Entry) → h ≡ before ++ fork ∷ later
      → IsSeenTo k o parent child s before fork later → IsCaredFor k o parent child s before fork later
  cared-for parent child before later fork is (seen.opened w) = care.opened w
  cared-for parent child before later fork is (seen.freed w) = care.freed w
  cared-for parent child before later fork is (seen.refused w) = care.refused w
  cared-for parent child before later fork is (seen.lost w) =
      care.lost (died-unread parent before later fork is w)

  cares : LeavesNoChild k o s h → CaresForChildren k o s h
  cares w = record {
    each = λ before later parent id child turned is of held made.
        cared-for parent child before later _ is
        (w.each before later parent id child turned is
        (elim of [ inl left ↦ inl left | inr unopened ↦ inr (never-followed n k o parent s h run unopened) ])
        (hold-watched n k o parent s before
        (front-run n k o s before _ (subst (IsTrussRun n k o s) is run)) held) made);
  }

pub cares-for-children : (n k : ℕ) (o : Options) (s : TracedState) (h : List Entry) → o.follow ≡ true
    → IsReachedTrussRun n k o s h → next_call_of (truss_at k o h) ≡ None → CaresForChildren k o s h
cares-for-children n k o s h follow run finished =
    cares n k o s h run.of (none-left n k o s h follow run finished)

pub lets-go-for-reason : (n k : ℕ) (o : Options) (pid : ℕ) (s : TracedState) (before : List Entry) (e : Entry)
    → IsTrussRun n k o s (before ++ e ∷ []) → HasHold k o pid s before → LetsGoIn k pid s before e
    → IsLetGo k pid s before e
lets-go-for-reason n k o pid s before e run held goes =
    goes-for-reason n k o pid s (before ++ e ∷ []) run before [] e refl held goes

pub ruleset holds = (hold-watched, watched-hold, came-is)

pub ruleset held =
    (shown-while-held, read-while-held, moments-while-held, gripped-once, cares-for-children, lets-go-for-reason)
