use Rattle.std.proofs.Common.{◌≡◌, ◌⊎◌, ◌<◌, ◌++◌, ℕ, true, false, Option, Some, List, [], ◌∷◌, length, refl, sym, subst, ap, ◌∙◌, append_assoc, inl, inr}
use Rattle.std.specs.List.{cons_option, slice_get}
use Rattle.std.specs.Option.{option_and_then}
use Rattle.pr_line.specs.declared.options.Options.{Options}
use Rattle.pr_model.specs.Legal.{state_after}
use Rattle.pr_model.specs.Replies.{bytes_in}
use Rattle.pr_model.specs.State.{TracedState}
use Rattle.pr_model.specs.declared.calls.File.{File}
use Rattle.pr_model.specs.declared.calls.File.TheVariants as file
use Rattle.pr_model.specs.declared.calls.Mode.{Mode}
use Rattle.pr_model.specs.declared.calls.Mode.TheVariants.{Read, WriteExcl}
use Rattle.pr_model.specs.declared.events.Entry.{Entry}
use Rattle.pr_truss.specs.Feeding.{fed}
use Rattle.pr_truss.specs.NextCalls.{next_call_of}
use Rattle.pr_truss.specs.Records.{event_stops, status_lwp}
use Rattle.pr_truss.specs.Trusses.{TrussState, first_truss, traced_at}
use Rattle.pr_truss.specs.declared.processes.Traced.{Traced}
use Rattle.pr_truss.specs.declared.reports.Report.{Report}
use Rattle.pr_truss.specs.declared.stages.Stage.TheVariants.{ReadingStatus, ReadingLwps}
use Rattle.pr_truss_laws.proofs.Files.HeldLemmas.{Fits}
use Rattle.pr_truss_laws.specs.Exchanges.{Exchange, exchange_of, exchanges, truss_after, truss_at}
use Rattle.pr_truss_laws.specs.Handles.{handles_of}
use Rattle.pr_truss_laws.specs.Runs.{IsTrussRun}
use Rattle.pr_report_laws.proofs.Files.FileLaws.{HasFiles, IsFileOf}
use Rattle.pr_report_laws.proofs.Files.FileSteps.{MakesNext}
use Rattle.pr_report_laws.proofs.Files.FileUses.{standing}
use Rattle.pr_report_laws.proofs.Files.WatchHistories.{Reaches, cons-exchanges, exchanges-both, run-next, run-reaches, truss_at-push}
use Rattle.pr_report_laws.proofs.FollowedChildren.FollowForks.{first-on}
use Rattle.pr_report_laws.proofs.FollowedChildren.FollowLaws.{read-followed}
use Rattle.pr_report_laws.proofs.FollowedChildren.FreedLaws.{read-freed}
use Rattle.pr_report_laws.proofs.Holding.HoldPlaces.{gets-on, hold-watched, more-run, one-run, watched-hold}
use Rattle.pr_report_laws.proofs.Invariant.StandLemmas.{AreOpen, IsAttached, Stands, rest-stays}
use Rattle.pr_report_laws.proofs.Replies.WatchedPlaces.{IsWatched, place-watched}
use Rattle.pr_report_laws.proofs.ToldForks.OldHolds.{IsReadOf, fits, lwps-stage, none-left, reads-lwps, reads-since, reads-status, stands-on, status-stage}
use Rattle.pr_report_laws.proofs.ToldForks.OldOpenings.{followed-left, opened-left}
use Rattle.pr_report_laws.proofs.ToldForks.OldStops.{AllLeft, at-left}
use Rattle.pr_report_laws.proofs.Watching.ExchangeEntries.{HasEntryOf, entry-of}
use Rattle.pr_report_laws.proofs.Watching.HistoryParts.{front-run}
use Rattle.pr_report_laws.specs.Attachments.{HasFile, HasFollowed, HasOpened, ReadsFile}
use Rattle.pr_report_laws.specs.Follows.{IsHandledNext, ReadsFork}
use Rattle.pr_report_laws.specs.Freed.{IsSetFree, ReadsLastFork}
use Rattle.pr_report_laws.specs.Holds.{HasHold}
use Rattle.pr_report_laws.specs.ToldForks.{FollowsChild, FreesChild, HasNoOldStop, IsReadAt, IsLastReadAt, ReadsChild, ReadsLastChild, TellsFork, TellsLastFork, old_stops}
use Rattle.pr_report_laws.specs.Watching.{is_away, watches, with_exchange}

-- A read tells truss of a child just where it acts on that by its own state.

-- ---- old stops, by the entries

module _ (n k : ℕ) (o : Options) (pid : ℕ) (s : TracedState) (h : List Entry) (run : IsTrussRun n k o s h) where
  -- where truss gets hold of the process
  opening-left : (w : HasOpened k o pid h ⊎ HasFollowed k pid h)
      → AllLeft pid (old_stops k o pid h w) (truss_at k o h).traced
  opening-left (inl w) = opened-left n k o pid s h run w
  opening-left (inr w) = followed-left n k o pid s h run w

module _ (n k : ℕ) (o : Options) (pid : ℕ) (s : TracedState) (h : List Entry) (run : IsTrussRun n k o s h)
    (w : HasHold k o pid s h) where
  split-run : IsTrussRun n k o s (w.front ++ w.opening ∷ w.hold)
  split-run = subst (IsTrussRun n k o s) w.is run

  begun-run : IsTrussRun n k o s (w.front ++ w.opening ∷ [])
  begun-run = one-run n k o pid s w.front w.hold w.opening split-run

  begun-on : watches (truss_at k o (w.front ++ w.opening ∷ [])) pid ≡ true
  begun-on = gets-on n k o pid s w.front w.opening begun-run w.begins

  whole-run : IsTrussRun n k o s ((w.front ++ w.opening ∷ []) ++ w.hold)
  whole-run = more-run n k o pid s w.front w.hold w.opening split-run

  begun-left : AllLeft pid (old_stops k o pid (w.front ++ w.opening ∷ []) w.begins.complete)
      (truss_at k o (w.front ++ w.opening ∷ [])).traced
  begun-left = opening-left n k o pid s (w.front ++ w.opening ∷ []) begun-run w.begins.complete

  same : (w.front ++ w.opening ∷ []) ++ w.hold ≡ h
  same = append_assoc w.front (w.opening ∷ []) w.hold ∙ sym w.is

  pub old-since : AllLeft pid 0 (truss_at k o h).traced → HasNoOldStop k o pid s h
  old-since last =
      let d =
      reads-since n k o pid s w.hold (w.front ++ w.opening ∷ []) _ whole-run begun-on w.keeps begun-left
      (subst (λ (es : List Entry). AllLeft pid 0 (truss_at k o es).traced) (sym same) last) in
      record { held = w; events = d.events; read = d.read; enough = d.enough }

pub none-old : (n k : ℕ) (o : Options) (pid : ℕ) (s : TracedState) (h : List Entry) → IsTrussRun n k o s h
    → HasNoOldStop k o pid s h → AllLeft pid 0 (truss_at k o h).traced
none-old n k o pid s h run d =
    let w : HasHold k o pid s h = d.held in
    subst (λ (es : List Entry). AllLeft pid 0 (truss_at k o es).traced) (same n k o pid s h run w)
    (none-left n k o pid s w.hold (w.front ++ w.opening ∷ []) _ d.events (whole-run n k o pid s h run w)
    (begun-on n k o pid s h run w) w.keeps (begun-left n k o pid s h run w) d.read d.enough)

-- ---- the files of a process

pub file-has : (k pid : ℕ) (f : File) (mode : Mode) (number : ℕ) (s : TracedState) → IsFileOf k s pid number f mode
    → HasFile k pid f number s
file-has k pid f mode number s its = record {
  held = record { controller = k; pid = pid; lwp = 0; file = f; mode = mode };
  there = its.is;
  of = refl;
  file = refl;
}

-- ---- one entry of a history

module _ (n k : ℕ) (o : Options) (s : TracedState) (before later : List Entry) (e : Entry)
    (run : IsTrussRun n k o s (before ++ e ∷ later)) where
  abbrev t : TrussState
  t = truss_at k o before

  abbrev v : TracedState
  v = state_after s before

  front : IsTrussRun n k o s before
  front = front-run n k o s before (e ∷ later) run

  reached : Reaches k t v
  reached = run-reaches n k o s before front

  files : HasFiles k t v
  files = let g = reached in g.files

  next : MakesNext t (exchange_of k e)
  next = run-next n k o s before e (one-run n k o 0 s before later e run)

  its-exchanges : (x : Exchange) → exchange_of k e ≡ Some x
      → exchanges k (before ++ e ∷ later) ≡ exchanges k before ++ x ∷ exchanges k later
  its-exchanges x own =
      exchanges-both k before (e ∷ later)
      ∙ ap (λ (xs : List Exchange). exchanges k before ++ xs)
      (cons-exchanges k e later ∙ ap (λ (y : Option Exchange). cons_option y (exchanges k later)) own)

  reported : (x : Exchange) → exchange_of k e ≡ Some x
      → (fed t x.reply).reports ≡ (truss_at k o (before ++ e ∷ [])).reports
  reported x own =
      ap (λ (z : TrussState). z.reports) (sym (truss_at-push k o before e ∙ ap (with_exchange t) own))

  -- ---- the read tells truss of it

  pub told-fork : (parent child : ℕ) → ReadsChild k o parent child s before e → TellsFork k o child before e
  unfolding bytes_in
  told-fork parent child w =
      let d = w.tells in
      let r : ReadsFile k parent file.Status v e = d.read in
      let at = status-stage k parent t v reached e next file.Status r refl in
      let within : at.0 < length t.traced = subst (Fits t.traced) at.1.0 (fits k parent t v reached) in
      record {
        exchange = _;
        own = r.is;
        place = at.0;
        reads = record {
          stage = at.1.0;
          new = none-old n k o parent s before front w.new at.0 within at.1.1;
          lwp = d.lwp;
          read = d.told;
          event = w.event;
          made = d.made;
        };
      }

  pub told-last : (parent child : ℕ) → ReadsLastChild k o parent child s before e → TellsLastFork k o child before e
  unfolding bytes_in
  told-last parent child w =
      let r : ReadsFile k parent file.Lstatus v e = w.read in
      let d : HasNoOldStop k o parent s before = w.new in
      let on = hold-watched n k o parent s before front d.held in
      let at = lwps-stage k parent t v reached e next file.Lstatus r refl on in
      let within : 0 < length t.traced = subst (Fits t.traced) at.0 (fits k parent t v reached) in
      let stands : Stands t.traced t.leaving ReadingLwps = standing k t v ReadingLwps files at.0 in
      let attached : IsAttached (traced_at t 0) = stands.at in
      record {
        exchange = _;
        own = r.is;
        reads = record {
          stage = at.0;
          new = none-old n k o parent s before front d 0 within at.1;
          unseen = attached.unseen;
          lwp = w.lwp;
          first = w.first;
          made = w.made;
        };
      }

  -- ---- where truss acts on it, a read told it

  module _ (x : Exchange) (own : exchange_of k e ≡ Some x) where
    called : next_call_of t ≡ Some x.call
    called = subst (MakesNext t) own next

    -- it watches the process then, with no old stop left
    new-at : (place : ℕ) → place < length t.traced → IsAttached (traced_at t place)
        → is_away t.leaving t.stage place ≡ false → (traced_at t place).old ≡ 0
        → HasNoOldStop k o (traced_at t place).pid s before
    new-at place within attached here none =
        let pid : ℕ = (traced_at t place).pid in
        let i : IsWatched t pid place = record {
          within = within;
          of = refl;
          attached = attached.attached;
          here = here;
        } in
        let f : HasFiles k t v = files in
        let on = place-watched t pid place f.one i in
        old-since n k o pid s before front (watched-hold n k o pid s before front on)
        (at-left t pid 0 place f.one within refl none)

    pub fork-told : (place child : ℕ) → ReadsFork t x.reply place child
        → ReadsChild k o (traced_at t place).pid child s before e
    fork-told place child f =
        let pid : ℕ = (traced_at t place).pid in
        let within : place < length t.traced = subst (Fits t.traced) f.stage (fits k pid t v reached) in
        let stands : Stands t.traced t.leaving (ReadingStatus place) =
        standing k t v (ReadingStatus place) files f.stage in
        let attached : IsAttached (traced_at t place) =
        rest-stays t.leaving (traced_at t place) (stands.rests place within) stands.leaves in
        let r =
        reads-status k pid t v reached e x own called place f.stage refl f.lwp f.read (stands-on f.lwp f.event) in
        let q : IsReadOf k pid t v reached e file.Status x.reply = r in
        record {
          new = new-at place within attached (ap (λ z. is_away t.leaving z place) f.stage) f.new;
          tells = record {
            read = q.read;
            lwp = f.lwp;
            told = sym (ap (option_and_then status_lwp) q.same) ∙ f.read;
            made = f.made;
          };
          event = f.event;
        }

    pub last-told : (child : ℕ) → ReadsLastFork t x.reply child
        → ReadsLastChild k o (traced_at t 0).pid child s before e
    last-told child f =
        let pid : ℕ = (traced_at t 0).pid in
        let within : 0 < length t.traced = subst (Fits t.traced) f.stage (fits k pid t v reached) in
        let stands : Stands t.traced t.leaving ReadingLwps = standing k t v ReadingLwps files f.stage in
        let attached : IsAttached (traced_at t 0) = stands.at in
        let on = stands-on f.lwp (first-on (bytes_in x.reply) f.lwp f.first) in
        let q : IsReadOf k pid t v reached e file.Lstatus x.reply =
        reads-lwps k pid t v reached e x own called f.stage refl f.lwp f.first on in
        record {
          new = new-at 0 within attached (ap (λ z. is_away t.leaving z 0) f.stage) f.new;
          read = q.read;
          lwp = f.lwp;
          first = sym (ap (λ (b : Option (List ℕ)). slice_get (event_stops b) 0) q.same) ∙ f.first;
          made = f.made;
        }

  -- ---- what comes then

  pub child-followed : o.follow ≡ true → (parent child : ℕ) → ReadsChild k o parent child s before e
      → FollowsChild k o parent child s before e later
  unfolding told-fork
  child-followed follow parent child w =
      let d = w.tells in
      let r : ReadsFile k parent file.Status v e = d.read in
      let at = status-stage k parent t v reached e next file.Status r refl in
      let within : at.0 < length t.traced = subst (Fits t.traced) at.1.0 (fits k parent t v reached) in
      let f : HasFiles k t v = files in
      let told = told-fork parent child w in
      record {
        control = (traced_at t at.0).control;
        has =
            file-has k parent file.Ctl WriteExcl (traced_at t at.0).control v
            (subst (λ p. IsFileOf k v p (traced_at t at.0).control file.Ctl WriteExcl) at.1.1
            (f.control at.0 within));
        comes =
            subst (λ (base : List Report). IsHandledNext child (traced_at t at.0).control base
            (truss_at k o (before ++ e ∷ later)).reports (next_call_of (truss_at k o (before ++ e ∷ later)))
            (exchanges k later)) (reported told.exchange told.own)
            (read-followed o (exchanges k (before ++ e ∷ later)) (exchanges k before) (exchanges k later) told.exchange
            at.0 child follow run.makes (its-exchanges told.exchange told.own) told.reads);
      }

  -- the handles of a process that has all its files
  all-handles : (u : Traced) (a : AreOpen u)
      → handles_of u ≡ a.memory.number ∷ a.lstatus.number ∷ a.status.number ∷ u.control ∷ []
  all-handles u a =
      ap (λ (m : Option ℕ). cons_option m (cons_option u.lstatus (cons_option u.status (u.control ∷ [])))) a.memory.is
      ∙ ap (λ (m : Option ℕ). a.memory.number ∷ cons_option m (cons_option u.status (u.control ∷ []))) a.lstatus.is
      ∙ ap (λ (m : Option ℕ). a.memory.number ∷ a.lstatus.number ∷ cons_option m (u.control ∷ [])) a.status.is

  pub child-freed : o.follow ≡ true → (parent child : ℕ) → ReadsLastChild k o parent child s before e
      → FreesChild k o parent child s before e later
  child-freed follow parent child w =
      let d : HasNoOldStop k o parent s before = w.new in
      let on = hold-watched n k o parent s before front d.held in
      let at = lwps-stage k parent t v reached e next file.Lstatus w.read refl on in
      let within : 0 < length t.traced = subst (Fits t.traced) at.0 (fits k parent t v reached) in
      let stands : Stands t.traced t.leaving ReadingLwps = standing k t v ReadingLwps files at.0 in
      let attached : IsAttached (traced_at t 0) = stands.at in
      let a : AreOpen (traced_at t 0) = attached.opened in
      let f : HasFiles k t v = files in
      let told = told-last parent child w in
      record {
        memory = a.memory.number;
        lstatus = a.lstatus.number;
        status = a.status.number;
        control = (traced_at t 0).control;
        has_memory =
            file-has k parent file.Mem Read a.memory.number v
            (subst (λ p. IsFileOf k v p a.memory.number file.Mem Read) at.1
            (f.memory 0 a.memory.number within a.memory.is));
        has_lstatus =
            file-has k parent file.Lstatus Read a.lstatus.number v
            (subst (λ p. IsFileOf k v p a.lstatus.number file.Lstatus Read) at.1
            (f.lstatus 0 a.lstatus.number within a.lstatus.is));
        has_status =
            file-has k parent file.Status Read a.status.number v
            (subst (λ p. IsFileOf k v p a.status.number file.Status Read) at.1
            (f.status 0 a.status.number within a.status.is));
        has_control =
            file-has k parent file.Ctl WriteExcl (traced_at t 0).control v
            (subst (λ p. IsFileOf k v p (traced_at t 0).control file.Ctl WriteExcl) at.1 (f.control 0 within));
        comes =
            subst (λ (base : List Report). IsSetFree child
            (a.memory.number ∷ a.lstatus.number ∷ a.status.number ∷ (traced_at t 0).control ∷ []) base
            (truss_at k o (before ++ e ∷ later)).reports (next_call_of (truss_at k o (before ++ e ∷ later)))
            (exchanges k later)) (reported told.exchange told.own)
            (subst (λ (handles : List ℕ). IsSetFree child handles (fed t told.exchange.reply).reports
            (truss_at k o (before ++ e ∷ later)).reports (next_call_of (truss_at k o (before ++ e ∷ later)))
            (exchanges k later)) (all-handles (traced_at t 0) a)
            (read-freed o (exchanges k (before ++ e ∷ later)) (exchanges k before) (exchanges k later) told.exchange
            child follow run.makes (its-exchanges told.exchange told.own) told.reads));
      }

-- ---- each such read has its entry

module _ (n k : ℕ) (o : Options) (s : TracedState) (h : List Entry) (past xs : List Exchange) (x : Exchange)
    (run : IsTrussRun n k o s h) (is : exchanges k h ≡ past ++ x ∷ xs) where
  pub fork-read : (place child : ℕ) → ReadsFork (truss_after (first_truss o) past) x.reply place child
      → IsReadAt k o (traced_at (truss_after (first_truss o) past) place).pid child s h past x
  fork-read place child f =
      let w : HasEntryOf k h past x xs = entry-of k h past x xs is in
      let same : truss_at k o w.before ≡ truss_after (first_truss o) past =
      ap (truss_after (first_truss o)) w.earlier in
      record {
        before = w.before;
        entry = w.entry;
        later = w.later;
        is = w.is;
        earlier = w.earlier;
        own = w.own;
        reads =
            subst (λ (t : TrussState). ReadsChild k o (traced_at t place).pid child s w.before w.entry) same
            (fork-told n k o s w.before w.later w.entry (subst (IsTrussRun n k o s) w.is run) x w.own place child
            (subst (λ (t : TrussState). ReadsFork t x.reply place child) (sym same) f));
      }

  pub last-fork-read : (child : ℕ) → ReadsLastFork (truss_after (first_truss o) past) x.reply child
      → IsLastReadAt k o (traced_at (truss_after (first_truss o) past) 0).pid child s h past x
  last-fork-read child f =
      let w : HasEntryOf k h past x xs = entry-of k h past x xs is in
      let same : truss_at k o w.before ≡ truss_after (first_truss o) past =
      ap (truss_after (first_truss o)) w.earlier in
      record {
        before = w.before;
        entry = w.entry;
        later = w.later;
        is = w.is;
        earlier = w.earlier;
        own = w.own;
        reads =
            subst (λ (t : TrussState). ReadsLastChild k o (traced_at t 0).pid child s w.before w.entry) same
            (last-told n k o s w.before w.later w.entry (subst (IsTrussRun n k o s) w.is run) x w.own child
            (subst (λ (t : TrussState). ReadsLastFork t x.reply child) (sym same) f));
      }
