use Rattle.std.proofs.Common.{◌≡◌, ◌≢◌, ◌<◌, ◌++◌, ◌⊎◌, ℕ, true, false, cond, Some, None, List, [], ◌∷◌}
use Rattle.std.proofs.Common.{append-nil, append_assoc, refl, sym, subst, ap, ◌∙◌, inl, inr, Bool}
use Rattle.std.proofs.lemmas.Option.{none-some}
use Rattle.pr_line.specs.declared.options.Options.{Options}
use Rattle.pr_model.specs.Lawful.{IsLawful}
use Rattle.pr_model.specs.Legal.{IsLegalEntry, after, state_after}
use Rattle.pr_model.specs.State.{TracedProcess, TracedState, live_process, process_of}
use Rattle.pr_model.specs.declared.calls.Call.TheVariants as call
use Rattle.pr_model.specs.declared.calls.File.{File}
use Rattle.pr_model.specs.declared.calls.File.TheVariants.{Lstatus, Status}
use Rattle.pr_model.specs.declared.calls.Reply.TheVariants as reply
use Rattle.pr_model.specs.declared.events.Actor.TheVariants.{Lwp}
use Rattle.pr_model.specs.declared.events.Entry.{Entry}
use Rattle.pr_num.specs.Signals.{signal_number}
use Rattle.pr_num.specs.declared.signals.Sig.TheVariants.{Kill}
use Rattle.pr_report_laws.proofs.Machine.FrameLaws.{no-events}
use Rattle.pr_report_laws.proofs.Machine.GoneLaws.{is_read, read-lives}
use Rattle.pr_report_laws.proofs.SeenChildren.Splits as splits
use Rattle.pr_report_laws.proofs.SeenChildren.Splits.{Compares, compare, state_after-both}
use Rattle.pr_report_laws.specs.Attachments.{ReadsFile}
use Rattle.pr_report_laws.specs.Memories.{WasKilled}
use Rattle.pr_report_laws.specs.Reads.{by_lwps, by_status}
use Rattle.pr_report_laws.specs.Shown.{LwpEvent, shown}
use Rattle.pr_report_laws.specs.Watching.{place_of, watches}
use Rattle.pr_truss.specs.Asides.{marks_at}
use Rattle.pr_truss.specs.Trusses.{TrussState, first_truss}
use Rattle.pr_truss_laws.proofs.Machine.OverLemmas.{stays-made, stays-over}
use Rattle.pr_truss_laws.specs.Exchanges.{exchange_of}
use Rattle.pr_truss_laws.specs.Stills.{KeepsMemory}
use Rattle.pr_function_laws.proofs.Stepping.BreakpointLemmas.{own-entry}
use Rattle.pr_function_laws.proofs.Listing.ListedSteps.{events-push}
use Rattle.pr_function_laws.proofs.OrdinaryTruss.OrdinaryShown.{shows-what-it-reads}
use Rattle.pr_function_laws.proofs.Pending.PendingWalk.{On}
use Rattle.pr_function_laws.specs.ListedEvents.{ComesUnread, events_to_show, is_to_show, is_to_show_in, to_show_in}
use Rattle.pr_function_laws.specs.OneEvent.{HasMetNothing}
use Rattle.pr_function_laws.specs.Opened.{IsFunctionRun, functions_at}
use Rattle.pr_function_laws.specs.OrdinaryRuns.{ShowsInEntry, nothing_new, one_more}

-- How the events of a process that truss has shown stand to those that it is to show, after some entries of a history:
-- all were shown; or an lwp stands on one that truss has not read, or on one that it is not to show; or the last one
-- was
-- lost, since SIGKILL ended the process.

pub nothing-before : (front mid : List Entry) (one : Entry) → [] ≡ front ++ one ∷ mid → ⊥
nothing-before [] mid one is = cc
nothing-before (x ∷ front) mid one is = cc

module _ (k : ℕ) (o : Options) (s : TracedState) (pid : ℕ) where
  abbrev T : List Entry → TrussState
  T front = functions_at k o front

  abbrev S : List Entry → TracedState
  S front = state_after s front

  -- ---- an event that truss has not read

  -- In an entry truss read the status of the process, or the statuses of its lwps, and got bytes.
  abbrev pub ReadsIts : List Entry → Entry → Type 0
  ReadsIts f e = ReadsFile k pid Status (state_after s f) e ⊎ ReadsFile k pid Lstatus (state_after s f) e

  -- since an entry it has done so in none
  pub record Unanswered (front : List Entry) (entry : Entry) (mid : List Entry) : Type 0 where
    pub each : (between rest : List Entry) (e : Entry) → mid ≡ between ++ e ∷ rest
        → ReadsIts (front ++ entry ∷ between) e → ⊥

  pub record Since (f : List Entry) (event : LwpEvent) : Type 0 where
    pub front : List Entry
    pub entry : Entry
    pub mid : List Entry
    pub is : f ≡ front ++ entry ∷ mid
    pub came : to_show_in (functions_at k o front) (state_after s front) pid entry ≡ event ∷ []
    pub none_before : events_to_show k pid (first_truss o) s front ≡ shown pid (functions_at k o front)
    pub process : TracedProcess
    pub lives : live_process (state_after s (front ++ entry ∷ [])).system pid ≡ Some process
    pub unanswered : Unanswered front entry mid

  -- What is missing where an lwp of this process at a place stands on an event. The process has the memory that it had
  -- right after the event.
  pub data Missing (f : List Entry) (place : ℕ) (event : LwpEvent) (p : TracedProcess) : List LwpEvent → Type 0 where
    hidden : is_to_show o (marks_at (functions_at k o f) place) event.event ≡ false → Missing f place event p []
    due : is_to_show o (marks_at (functions_at k o f) place) event.event ≡ true → (w : Since f event)
        → KeepsMemory w.process p → Missing f place event p (event ∷ [])

  -- ---- how the process stands after some entries

  -- where it may rest at places, as truss has come to it
  module _ (Rests : List Entry → ℕ → Type 0) where
    pub data Stands (f : List Entry) : List LwpEvent → Type 0 where
      clear : ((place : ℕ) → Rests f place → (p : TracedProcess)
          → live_process (state_after s f).system pid ≡ Some p → HasMetNothing p) → Stands f []
      standing : (place : ℕ) → Rests f place → (p : TracedProcess)
          → live_process (state_after s f).system pid ≡ Some p
          → (event : LwpEvent) → On event p → (missing : List LwpEvent) → Missing f place event p missing
          → Stands f missing
      lost : (event : LwpEvent) (w : Since f event) → pid < (state_after s f).system.made
          → live_process (state_after s f).system pid ≡ None
          → WasKilled pid (state_after s (w.front ++ w.entry ∷ [])) w.mid → Stands f (event ∷ [])

    pub record Listed (f : List Entry) : Type 0 where
      pub missing : List LwpEvent
      pub are : events_to_show k pid (first_truss o) s f ≡ shown pid (functions_at k o f) ++ missing
      pub stands : Stands f missing

  -- so far as it does not tell where the process rests
  pub data Unread (f : List Entry) : List LwpEvent → Type 0 where
    none_due : Unread f []
    unread_yet : (event : LwpEvent) (w : Since f event) (p : TracedProcess)
        → live_process (state_after s f).system pid ≡ Some p → KeepsMemory w.process p → Unread f (event ∷ [])
    is_over : (event : LwpEvent) → live_process (state_after s f).system pid ≡ None → Unread f (event ∷ [])

  pub record ListedSo (f : List Entry) : Type 0 where
    pub missing : List LwpEvent
    pub are : events_to_show k pid (first_truss o) s f ≡ shown pid (functions_at k o f) ++ missing
    pub unread : Unread f missing

  module _ (Rests : List Entry → ℕ → Type 0) (f : List Entry) where
    missing-unread : (place : ℕ) (p : TracedProcess) → live_process (state_after s f).system pid ≡ Some p
        → (event : LwpEvent) {missing : List LwpEvent} → Missing f place event p missing → Unread f missing
    missing-unread place p live event (hidden off) = none_due
    missing-unread place p live event (due chosen w kept) = unread_yet event w p live kept

    stands-unread : {missing : List LwpEvent} → Stands Rests f missing → Unread f missing
    stands-unread (clear unmet) = none_due
    stands-unread (standing place rests p live event on missing m) = missing-unread place p live event m
    stands-unread (lost event w made gone was_killed) = is_over event gone

    pub listed-so : Listed Rests f → ListedSo f
    listed-so w = record { missing = w.missing; are = w.are; unread = stands-unread w.stands }

  -- as users are told of it
  unfoldable pub comes-unread : (h : List Entry) (event : LwpEvent) → Since h event → ComesUnread k o s h pid event
  comes-unread h event w = record {
    before = w.front;
    entry = w.entry;
    later = w.mid;
    is = w.is;
    came = w.came;
    status = λ between rest e parts reads. let u = w.unanswered in u.each between rest e parts (inl reads);
    lwps = λ between rest e parts reads. let u = w.unanswered in u.each between rest e parts (inr reads);
  }

  pub killed-on : (then : TracedState) (between : List Entry) (e : Entry) → WasKilled pid then between
      → WasKilled pid then (between ++ e ∷ [])
  killed-on then between e w = record {
    before = w.before;
    entry = w.entry;
    later = w.later ++ e ∷ [];
    is = ap (λ es. es ++ e ∷ []) w.is ∙ append_assoc w.before (w.entry ∷ w.later) (e ∷ []);
    process = w.process;
    lived = w.lived;
    over = w.over;
    zombie = w.zombie;
    left = w.left;
    status = w.status;
  }

  -- ---- one entry more

  pub still-unread : (f : List Entry) (e : Entry) (front : List Entry) (entry : Entry) (mid : List Entry)
      → f ≡ front ++ entry ∷ mid → Unanswered front entry mid → (ReadsIts f e → ⊥) → (between rest : List Entry)
      (d : Entry) → mid ++ e ∷ [] ≡ between ++ d ∷ rest → ReadsIts (front ++ entry ∷ between) d → ⊥
  still-unread f e front entry mid is u quiet between rest d parts reads = by (compare mid between e d [] rest parts)
    where
      by : Compares mid e [] between d rest → ⊥
      by (splits.same one two three) =
          quiet (subst (λ es. ReadsIts es e) (ap (λ es. front ++ entry ∷ es) (sym one) ∙ sym is)
          (subst (ReadsIts (front ++ entry ∷ between)) (sym two) reads))
      by (splits.ahead more first second) = nothing-before more rest d second
      by (splits.behind more first second) = u.each between more d first reads

  -- in which it is not read
  unfoldable pub since-on : (f : List Entry) (e : Entry) (event : LwpEvent) → Since f event → (ReadsIts f e → ⊥)
      → Since (f ++ e ∷ []) event
  since-on f e event w quiet = record {
    front = w.front;
    entry = w.entry;
    mid = w.mid ++ e ∷ [];
    is = ap (λ es. es ++ e ∷ []) w.is ∙ append_assoc w.front (w.entry ∷ w.mid) (e ∷ []);
    came = w.came;
    none_before = w.none_before;
    process = w.process;
    lives = w.lives;
    unanswered = record {
      each = λ between rest d parts reads.
          let u = w.unanswered in
          still-unread f e w.front w.entry w.mid w.is u quiet between rest d parts reads;
    };
  }

  -- it is killed in it
  pub killed-now : (f : List Entry) (e : Entry) (front : List Entry) (entry : Entry) (mid : List Entry)
      → f ≡ front ++ entry ∷ mid → (p : TracedProcess) → live_process (state_after s f).system pid ≡ Some p
      → live_process (after (state_after s f) e).system pid ≡ None → (z : TracedProcess)
      → process_of (after (state_after s f) e).system pid ≡ Some z → z.ended ≡ Some (signal_number Kill)
      → WasKilled pid (state_after s (front ++ entry ∷ [])) (mid ++ e ∷ [])
  killed-now f e front entry mid is p live gone z left status =
      let then : TracedState = state_after s (front ++ entry ∷ []) in
      let since_then : state_after s f ≡ state_after then mid =
      ap (state_after s) (is ∙ sym (append_assoc front (entry ∷ []) mid))
      ∙ state_after-both s (front ++ entry ∷ []) mid in
      let later_is : after (state_after s f) e ≡ state_after then (mid ++ e ∷ []) =
      ap (λ (u : TracedState). after u e) since_then ∙ sym (state_after-both then mid (e ∷ [])) in
      record {
        before = mid;
        entry = e;
        later = [];
        is = refl;
        process = p;
        lived = ap (λ (u : TracedState). live_process u.system pid) (sym since_then) ∙ live;
        over = ap (λ (u : TracedState). live_process u.system pid) (sym later_is) ∙ gone;
        zombie = z;
        left = ap (λ (u : TracedState). process_of u.system pid) (sym later_is) ∙ left;
        status = status;
      }

  module _ (n : ℕ) (h : List Entry) (run : IsFunctionRun n k o s h) (f : List Entry) (e : Entry) (later : List Entry)
      (is : h ≡ f ++ e ∷ later) (lawful : IsLawful (state_after s f))
      (legal : IsLegalEntry n (state_after s f) e) where
    abbrev next : List Entry
    next = f ++ e ∷ []

    abbrev now : TracedState
    now = state_after s f

    abbrev its_events : List LwpEvent
    its_events = to_show_in (functions_at k o f) (state_after s f) pid e

    state-is : state_after s (f ++ e ∷ []) ≡ after (state_after s f) e
    state-is = state_after-both s f (e ∷ [])

    pub others-quiet : exchange_of k e ≡ None → ReadsIts f e → ⊥
    others-quiet foreign (inl r) = none-some _ (sym foreign ∙ r.is)
    others-quiet foreign (inr r) = none-some _ (sym foreign ∙ r.is)

    -- a process that has ended gives none
    pub over-gives : (g : File) → is_read g ≡ true → live_process (state_after s f).system pid ≡ None
        → ReadsFile k pid g (state_after s f) e → ⊥
    over-gives g read_it gone r =
        let own =
        own-entry n k now e
        (record { call = call.Read r.handle r.from r.len; reply = reply.Bytes r.bytes }) legal r.is in
        read-lives now k r.handle r.held r.there own.answer r.from r.len g r.bytes r.file read_it own.is own.replied
        (ap (live_process now.system) r.of ∙ gone)

    pub over-quiet : live_process (state_after s f).system pid ≡ None → ReadsIts f e → ⊥
    over-quiet gone (inl r) = over-gives Status refl gone r
    over-quiet gone (inr r) = over-gives Lstatus refl gone r

    -- and nothing more is shown of it
    pub over-shown : live_process (state_after s f).system pid ≡ None
        → shown pid (functions_at k o (f ++ e ∷ [])) ≡ shown pid (functions_at k o f)
    over-shown gone = by (let w = shows-what-it-reads n k o s h run in w.each f later e pid is)
      where
        by : ShowsInEntry k o pid s f e → shown pid (functions_at k o (f ++ e ∷ [])) ≡ shown pid (functions_at k o f)
        by (nothing_new same) = same
        by (one_more w (by_status r) chosen not_own) = absurd (over-gives Status refl gone r.read)
        by (one_more w (by_lwps r) chosen not_own) = absurd (over-gives Lstatus refl gone r.read)

    pub made-next : pid < (state_after s f).system.made → pid < (state_after s (f ++ e ∷ [])).system.made
    made-next made =
        subst (λ (u : TracedState). pid < u.system.made) (sym state-is) (stays-made n now e pid lawful legal made)

    -- a lost event stays lost
    pub lost-next : (Rests : List Entry → ℕ → Type 0) (event : LwpEvent) (w : Since f event)
        → pid < (state_after s f).system.made → live_process (state_after s f).system pid ≡ None
        → WasKilled pid (state_after s (w.front ++ w.entry ∷ [])) w.mid → Stands Rests (f ++ e ∷ []) (event ∷ [])
    unfolding since-on
    lost-next Rests event w made gone was_killed =
        lost event (since-on f e event w (over-quiet gone)) (made-next made)
        (ap (λ (u : TracedState). live_process u.system pid) state-is ∙ stays-over n now e pid lawful legal made gone)
        (killed-on (state_after s (w.front ++ w.entry ∷ [])) w.mid e was_killed)

    -- what is no turn of the process brings no event of it
    pub elsewhere-empty : ((own : ℕ) → e.actor ≢ Lwp pid own)
        → to_show_in (functions_at k o f) (state_after s f) pid e ≡ []
    elsewhere-empty elsewhere =
        ap (λ (xs : List LwpEvent). cond (watches (functions_at k o f) pid) xs [])
        (no-events (is_to_show_in (functions_at k o f) (place_of (functions_at k o f) pid)) pid now e elsewhere)
        ∙ none_either (watches (functions_at k o f) pid)
      where
        none_either : (b : Bool) → cond {A = List LwpEvent} b [] [] ≡ []
        none_either true = refl
        none_either false = refl

    pub came-next : events_to_show k pid (first_truss o) s (f ++ e ∷ [])
        ≡ events_to_show k pid (first_truss o) s f ++ to_show_in (functions_at k o f) (state_after s f) pid e
    came-next = events-push k pid f (first_truss o) s e

    -- nothing came, and nothing was shown
    pub same-listed : (Rests : List Entry → ℕ → Type 0) (missing : List LwpEvent)
        → events_to_show k pid (first_truss o) s f ≡ shown pid (functions_at k o f) ++ missing
        → to_show_in (functions_at k o f) (state_after s f) pid e ≡ []
        → shown pid (functions_at k o (f ++ e ∷ [])) ≡ shown pid (functions_at k o f)
        → Stands Rests (f ++ e ∷ []) missing → Listed Rests (f ++ e ∷ [])
    same-listed Rests missing are empty same stands = record {
      missing = missing;
      are = came-next ∙ ap (λ xs. events_to_show k pid (first_truss o) s f ++ xs) empty
          ∙ append-nil (events_to_show k pid (first_truss o) s f) ∙ are ∙ ap (λ xs. xs ++ missing) (sym same);
      stands = stands;
    }
