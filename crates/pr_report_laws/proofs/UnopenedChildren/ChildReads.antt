use Rattle.std.proofs.Common.{◌≡◌, ℕ, Bool, Option, Some, None, List, [], ◌∷◌, length, cond, refl, sym, subst, ap, ◌∙◌}
use Rattle.std.proofs.lemmas.Bool.{eq-eqb}
use Rattle.std.proofs.lemmas.Option.{none-some}
use Rattle.pr_line.specs.declared.options.Options.{Options}
use Rattle.pr_model.specs.State.{TracedState}
use Rattle.pr_model.specs.declared.calls.File.TheVariants.{Ctl}
use Rattle.pr_model.specs.declared.calls.Mode.TheVariants.{WriteExcl}
use Rattle.pr_model.specs.declared.calls.Reply.{Reply}
use Rattle.pr_model.specs.declared.calls.Reply.TheVariants.{Handle}
use Rattle.pr_model.specs.declared.events.Entry.{Entry}
use Rattle.pr_rec.specs.declared.lwps.LwpStatus.{LwpStatus}
use Rattle.pr_truss.specs.Feeding.{fed}
use Rattle.pr_truss.specs.NextCalls.{open_control}
use Rattle.pr_truss.specs.Trusses.{TrussState, first_truss, traced_at}
use Rattle.pr_truss.specs.declared.processes.Traced.{Traced}
use Rattle.pr_truss.specs.declared.stages.Stage.{Stage}
use Rattle.pr_truss.specs.declared.stages.Stage.TheVariants.{OpeningChildControl, ReadingStatus}
use Rattle.pr_truss_laws.proofs.Replies.FedSteps.{fed-step}
use Rattle.pr_truss_laws.proofs.Replies.ReplySteps as step
use Rattle.pr_truss_laws.proofs.Replies.ReplySteps.{GoesOn, Learns, Looks, Opens, Reads, ReplyStep, StopOver, Turns}
use Rattle.pr_truss_laws.specs.Exchanges.{Exchange, exchange_of, exchanges, truss_after, truss_at}
use Rattle.pr_truss_laws.specs.Runs.{IsTrussRun}
use Rattle.pr_report_laws.proofs.Files.WatchHistories.{after-append}
use Rattle.pr_report_laws.proofs.OwnFiles.OpenPlaces.{IsFork, Knows, known}
use Rattle.pr_report_laws.proofs.ToldForks.ToldReads.{fork-told}
use Rattle.pr_report_laws.proofs.Watching.ExchangeEntries.{HasEntryOf, entry-of}
use Rattle.pr_report_laws.specs.AsChildren.{WasChildRead}
use Rattle.pr_report_laws.specs.Births.{granted}
use Rattle.pr_report_laws.specs.Follows.{ReadsFork}

-- Truss opens a child right behind the read of the process that made it.

-- the exchange of the open
pub own-open : (k child handle : ℕ) → exchange_of k (granted k child 0 Ctl WriteExcl handle)
    ≡ Some (record { call = open_control child; reply = Handle handle })
own-open k child handle =
    ap (λ (b : Bool).
    cond {A = Option Exchange} b (Some (record { call = open_control child; reply = Handle handle })) None)
    (eq-eqb k k refl)

-- ---- the process at whose stop the child was read

module _ (s : TrussState) (r : Reply) (at place child : ℕ) where
  abbrev Same : TrussState → Type 0
  Same v = (traced_at s at).pid ≡ (traced_at v place).pid

  abbrev Comes : TrussState → Type 0
  Comes v = v.stage ≡ OpeningChildControl place child

  on-never : (u v : TrussState) (given : Bool) → GoesOn u given v → Comes v → ⊥
  on-never u v given (step.opens_next _) is = cc
  on-never u v given (step.polls _ _) is = cc
  on-never u v given (step.unfollows _ _ _) is = cc
  on-never u v given (step.finishes _) is = cc
  on-never u v given (step.closes_first _ _ _) is = cc

  opens-never : (m of : ℕ) (stage next : Stage) → Opens m stage of next → next ≡ OpeningChildControl place child → ⊥
  opens-never m of stage next step.new_given is = cc
  opens-never m of stage next step.new_child is = cc

  learns-never : (of : ℕ) (t : Traced) (stage next : Stage) → Learns s r stage of t next
      → next ≡ OpeningChildControl place child → ⊥
  learns-never of t stage next (step.opening_goes _) is = cc
  learns-never of t stage next (step.child_goes _) is = cc

  turns-never : (stage next : Stage) → Turns s r stage next → next ≡ OpeningChildControl place child → ⊥
  turns-never stage next (step.starts _) is = cc
  turns-never stage next step.polls_again is = cc
  turns-never stage next (step.is_named _) is = cc
  turns-never stage next step.unfollowed is = cc
  turns-never stage next (step.frees _) is = cc
  turns-never stage next step.frees_on is = cc
  turns-never stage next step.has_finished is = cc

  same-place : (of : ℕ) → ReadingStatus of ≡ ReadingStatus at → of ≡ place → Same s
  same-place of is here =
      let own : of ≡ at = cc in ap (λ m. (traced_at s m).pid) (sym own ∙ here)

  reads-place : (stage : Stage) (of : ℕ) (l : Option LwpStatus) → stage ≡ ReadingStatus at → of ≡ place
      → Reads s r stage of l → Same s
  reads-place stage of l is here (step.reads_status _) = same-place of is here
  reads-place stage of l is here (step.reads_none _) = same-place of is here
  reads-place stage of l is here (step.reads_lwps _) = absurd (cc)

  looks-place : (stage : Stage) (of : ℕ) (pid : Option ℕ) (u : TrussState) → stage ≡ ReadingStatus at → of ≡ place
      → pid ≡ Some child → Looks s r stage of pid u → Same u
  looks-place stage of pid u is here some (step.passes _) = absurd (none-some child some)
  looks-place stage of pid u is here some (step.passes_old _ _ _) = absurd (none-some child some)
  looks-place stage of pid u is here some (step.passes_event reads _ _) = reads-place stage of _ is here reads
  looks-place stage of pid u is here some (step.shows reads _ _ _) = reads-place stage of _ is here reads
  looks-place stage of pid u is here some step.shows_text = absurd (cc)

  over-place : (stage : Stage) (of : ℕ) (pid : Option ℕ) (u v : TrussState) → stage ≡ ReadingStatus at → Comes v
      → Looks s r stage of pid u → StopOver u of pid v → Same v
  over-place stage of pid u v is comes w (step.opens_child {pid = c} _) =
      looks-place stage of pid u is (cc) (ap (λ m. Some m) (cc)) w
  over-place stage of pid u v is comes w (step.frees_child _) = absurd (cc)
  over-place stage of pid u v is comes w (step.runs _) = absurd (cc)
  over-place stage of pid u v is comes w (step.leaves _) = absurd (cc)

  step-place : (stage : Stage) (v : TrussState) → stage ≡ ReadingStatus at → Comes v → ReplyStep s r stage v → Same v
  step-place stage v is comes (step.settles {given = given} {u = u} _ goes) =
      absurd (on-never u v given goes comes)
  step-place stage v is comes (step.looks {place = of} {pid = pid} {u = u} w over) =
      over-place stage of pid u v is comes w over
  step-place stage v is comes (step.asks _ _ _ _) = absurd (cc)
  step-place stage v is comes (step.closes _) = absurd (cc)
  step-place stage v is comes (step.loses _) = absurd (cc)
  step-place stage v is comes (step.opens {next = next} {pid = of} _ w) =
      absurd (opens-never (length s.traced) of stage next w comes)
  step-place stage v is comes (step.learns {next = next} {place = of} {t = t} _ w) =
      absurd (learns-never of t stage next w comes)
  step-place stage v is comes (step.returns _) = absurd (cc)
  step-place stage v is comes (step.turns {next = next} w) = absurd (turns-never stage next w comes)

  child-place : s.stage ≡ ReadingStatus at → Comes (fed s r) → Same (fed s r)
  child-place is comes = step-place s.stage (fed s r) is comes (fed-step s r)

-- ---- the read

module _ (n k : ℕ) (o : Options) (first : TracedState) (h : List Entry) (run : IsTrussRun n k o first h) where
  -- the read by which truss comes to a child has its entry, and tells of the child by calls and replies
  pub read-child : (of : ℕ) → IsFork o of (exchanges k h) → WasChildRead k o of first h
  read-child of f =
      let x : Exchange = f.read in
      let w : HasEntryOf k h f.past x [] = entry-of k h f.past x [] f.is in
      let same : truss_at k o w.before ≡ truss_after (first_truss o) f.past =
      ap (truss_after (first_truss o)) w.earlier in
      record {
        parent = (traced_at (truss_at k o w.before) f.place).pid;
        before = w.before;
        entry = w.entry;
        since = w.later;
        is = w.is;
        reads =
            fork-told n k o first w.before w.later w.entry (subst (IsTrussRun n k o first) w.is run) x w.own f.place of
            (subst (λ (t : TrussState). ReadsFork t x.reply f.place of) (sym same) f.reads);
        last = w.rest;
      }

  -- Where truss opens the control file of a child, its last call read of the child, at a stop of the process at the
  -- place of that open.
  pub child-told : (place of : ℕ) → (truss_at k o h).stage ≡ OpeningChildControl place of
      → (told : WasChildRead k o of first h) × (told.parent ≡ (traced_at (truss_at k o h) place).pid)
  unfolding read-child
  child-told place of at =
      let t : TrussState = truss_at k o h in
      let f : IsFork o of (exchanges k h) =
      subst (Knows o (exchanges k h) t.leaving t.traced) at (known o (exchanges k h) run.makes) in
      let x : Exchange = f.read in
      let reads : ReadsFork (truss_after (first_truss o) f.past) x.reply f.place of = f.reads in
      let w : HasEntryOf k h f.past x [] = entry-of k h f.past x [] f.is in
      let same : truss_at k o w.before ≡ truss_after (first_truss o) f.past =
      ap (truss_after (first_truss o)) w.earlier in
      let then : t ≡ fed (truss_after (first_truss o) f.past) x.reply =
      ap (truss_after (first_truss o)) f.is ∙ after-append (first_truss o) f.past (x ∷ []) in (
        read-child of f,
        ap (λ (u : TrussState). (traced_at u f.place).pid) same
            ∙ child-place (truss_after (first_truss o) f.past) x.reply f.place place of reads.stage
            (ap (λ (u : TrussState). u.stage) (sym then) ∙ at)
            ∙ ap (λ (u : TrussState). (traced_at u place).pid) (sym then),
      )
