use Rattle.std.proofs.Common.{◌≡◌, ◌<◌, ℕ, true, false, Some, None, List, [], ◌∷◌, ◌++◌, refl, sym, subst, ap, ◌∙◌, append_assoc, inl, inr}
use Rattle.std.proofs.lemmas.List.{append-nil}
use Rattle.std.proofs.lemmas.Option.{none-some, same_Some}
use Rattle.pr_line.specs.TextRanges.{text_range}
use Rattle.pr_line.specs.Selections.{is_selected}
use Rattle.pr_line.specs.declared.options.Options.{Options}
use Rattle.pr_model.proofs.HistoryLemmas.{state_after-push}
use Rattle.pr_model.specs.Events.{events_of}
use Rattle.pr_model.specs.Lawful.{IsLawful}
use Rattle.pr_model.specs.Legal.{IsLegalEntry, after, state_after}
use Rattle.pr_model.specs.State.{TracedProcess, TracedState, live_process, process_of}
use Rattle.pr_model.specs.declared.events.Entry.{Entry}
use Rattle.pr_rec.specs.declared.lwps.LwpStatus.{LwpStatus}
use Rattle.pr_truss.specs.Trusses.{TrussState, first_truss, traced_at}
use Rattle.pr_truss.specs.declared.stages.Stage.TheVariants.{ReadingText}
use Rattle.pr_truss_laws.proofs.Machine.OverLemmas.{stays-made, stays-over}
use Rattle.pr_truss_laws.specs.Exchanges.{exchanges, truss_after, truss_at}
use Rattle.pr_truss_laws.specs.Stills.{IsHalting, KeepsMemory}
use Rattle.pr_report_laws.proofs.Invariant.EntrySteps.{Lost}
use Rattle.pr_truss_laws.proofs.Machine.FrameLemmas.{memory-next}
use Rattle.pr_truss_laws.proofs.Machine.HaltLemmas as halt
use Rattle.pr_truss_laws.proofs.Machine.HaltLemmas.{HaltsOn}
use Rattle.pr_report_laws.proofs.Invariant.HistoryLaw.{after-next, no-exchanges, watched-next}
use Rattle.pr_report_laws.proofs.Invariant.ShownTallies.{selected_of, shown_tally}
use Rattle.pr_report_laws.proofs.Machine.OwnTurnLaws.{event-halts}
use Rattle.pr_report_laws.proofs.Invariant.Standing as st
use Rattle.pr_report_laws.proofs.Invariant.Standing.{Accounted, Position, Standing, has_read}
use Rattle.pr_report_laws.proofs.Invariant.UnreadLaws.{one-more}
use Rattle.pr_report_laws.specs.Memories.{WasKilled}
use Rattle.pr_report_laws.specs.Shown.{LwpEvent, event_told, picked, selected, shown}
use Rattle.pr_report_laws.specs.Watching.{events_watched, fed_by_entry, is_away, place_of, watches}

-- Where an event came, and that the memory of its process is as it was then: until truss reads the event, and then
-- until it reads the memory.

-- ---- an event that is not read yet

-- A live process with an event that is not read yet: truss watches it at a place and has not read its stop, and each
-- lwp of it stands still or will stop.
pub record HoldsUnread (pid : ℕ) (t : TrussState) (p : TracedProcess) : Type 0 where
  pub place : ℕ
  pub at : place_of t pid ≡ Some place
  pub here : is_away t.leaving t.stage place ≡ false
  pub unread : has_read t.stage place ≡ false
  pub halting : IsHalting p

module _ (Cause : Type 0) (o : Options) (pid : ℕ) (t : TrussState) (s : TracedState) (base : List LwpEvent)
    (event : LwpEvent) (missing : base ≡ shown pid t ++ event ∷ []) where
  -- where all is shown nothing is missing
  all-shown : base ≡ shown pid t → ⊥
  all-shown whole = one-more (shown pid t) event (sym whole ∙ missing)

  lost-why : Accounted (Lost Cause pid s) (shown_tally o pid t base) → Lost Cause pid s
  lost-why a = elim a.few [
    | inl none ↦ absurd (all-shown (a.is ∙ ap (λ (xs : List LwpEvent). shown pid t ++ xs) none
        ∙ append-nil (shown pid t)))
    | inr one ↦ one.1.1
  ]

  pub unread-holds : Standing (Lost Cause pid s) o pid t s (shown_tally o pid t base) → (p : TracedProcess)
      → live_process s.system pid ≡ Some p → HoldsUnread pid t p
  unread-holds (st.apart off a) p live =
      absurd (let lost : Lost Cause pid s = lost-why a in none-some p (sym lost.over ∙ live))
  unread-holds (st.over watched none a) p live = absurd (none-some p (sym none ∙ live))
  unread-holds (st.lives place q at attached here living traced position) p live = by position
    where
      by : Position o t.stage place (traced_at t place).old q (shown_tally o pid t base) → HoldsUnread pid t p
      by (st.stop_read read waits whole) = absurd (all-shown whole)
      by (st.old_stops n read counts waits whole) = absurd (all-shown whole)
      by (st.goes read named none quiet whole) = absurd (all-shown whole)
      by (st.has_event id ev read none one named is) = record {
        place = place;
        at = at;
        here = here;
        unread = read;
        halting = subst IsHalting (same_Some q p (sym living ∙ live)) (event-halts q id ev one);
      }

-- ---- where it came

module _ (k : ℕ) (o : Options) (pid : ℕ) (first : TracedState) where
  -- what was selected of the process along a history
  abbrev pub selected_in : List Entry → List LwpEvent
  selected_in h = selected o pid (events_watched k pid (first_truss o) first h)

  -- the state right after an entry
  abbrev pub since : List Entry → Entry → TracedState
  since earlier entry = state_after first (earlier ++ entry ∷ [])

  -- A process that stood so then: each lwp of it stands still or will stop, and its memory is as it was; or SIGKILL
  -- ended it in these entries.
  pub data Stays (q : TracedProcess) (then : TracedState) (between : List Entry) (s : TracedState) : Type 0 where
    halts : (p : TracedProcess) → live_process s.system pid ≡ Some p → IsHalting p → KeepsMemory q p
        → Stays q then between s
    over : live_process s.system pid ≡ None → WasKilled pid then between → Stays q then between s

  -- The event came in an entry of the past, after these events, and the process stays since as it was then.
  pub record HasCome (past : List Entry) (before : List LwpEvent) (event : LwpEvent) (s : TracedState) : Type 0 where
    pub earlier : List Entry
    pub entry : Entry
    pub between : List Entry
    pub is : past ≡ earlier ++ entry ∷ between
    pub watched : watches (truss_at k o earlier) pid ≡ true
    pub came : selected o pid (events_of (state_after first earlier) entry) ≡ event ∷ []
    pub order : selected_in earlier ≡ before
    pub process : TracedProcess
    pub lives : live_process (since earlier entry).system pid ≡ Some process
    -- where the line of the event asks for memory the process has it to itself
    pub owns : (range : ℕ × ℕ) → text_range event.event ≡ Some range → process.borrower ≡ None
    pub now : s ≡ state_after (since earlier entry) between
    pub made : pid < s.system.made
    pub stays : Stays process (since earlier entry) between s

  -- ---- one entry later

  killed-on : (then : TracedState) (between : List Entry) (e : Entry) → WasKilled pid then between
      → WasKilled pid then (between ++ e ∷ [])
  killed-on then between e w = record {
    before = w.before;
    entry = w.entry;
    later = w.later ++ e ∷ [];
    is = ap (λ (es : List Entry). es ++ e ∷ []) w.is ∙ append_assoc w.before (w.entry ∷ w.later) (e ∷ []);
    process = w.process;
    lived = w.lived;
    over = w.over;
    zombie = w.zombie;
    left = w.left;
    status = w.status;
  }

  module _ (n : ℕ) (s : TracedState) (e : Entry) (lawful : IsLawful s) (legal : IsLegalEntry n s e)
      (keeps : (p : TracedProcess) → live_process s.system pid ≡ Some p → IsHalting p → HaltsOn pid p
      (after s e).system) where
    stays-on : (q : TracedProcess) (then : TracedState) (between : List Entry) → s ≡ state_after then between
        → pid < s.system.made → Stays q then between s → Stays q then (between ++ e ∷ []) (after s e)
    stays-on q then between now made (over none killed) =
        over (stays-over n s e pid lawful legal made none) (killed-on then between e killed)
    stays-on q then between now made (halts p live halting same) = by (keeps p live halting)
      where
        later : after s e ≡ state_after then (between ++ e ∷ [])
        later = ap (λ (u : TracedState). after u e) now ∙ sym (state_after-push then between e)

        by : HaltsOn pid p (after s e).system → Stays q then (between ++ e ∷ []) (after s e)
        by (halt.goes_on r there still memory) = halts r there still (memory-next q p r same memory)
        by (halt.killed z none left status) =
            over none
            (record {
              before = between;
              entry = e;
              later = [];
              is = refl;
              process = p;
              lived = ap (λ (u : TracedState). live_process u.system pid) (sym now) ∙ live;
              over = ap (λ (u : TracedState). live_process u.system pid) (sym later) ∙ none;
              zombie = z;
              left = ap (λ (u : TracedState). process_of u.system pid) (sym later) ∙ left;
              status = status;
            })

    pub come-on : (past : List Entry) (before : List LwpEvent) (event : LwpEvent) → HasCome past before event s
        → HasCome (past ++ e ∷ []) before event (after s e)
    come-on past before event c = record {
      earlier = c.earlier;
      entry = c.entry;
      between = c.between ++ e ∷ [];
      is = ap (λ (es : List Entry). es ++ e ∷ []) c.is ∙ append_assoc c.earlier (c.entry ∷ c.between) (e ∷ []);
      watched = c.watched;
      came = c.came;
      order = c.order;
      process = c.process;
      lives = c.lives;
      owns = c.owns;
      now = ap (λ (u : TracedState). after u e) c.now ∙ sym (state_after-push (since c.earlier c.entry) c.between e);
      made = stays-made n s e pid lawful legal c.made;
      stays = stays-on c.process (since c.earlier c.entry) c.between c.now c.made c.stays;
    }

  -- the event whose memory truss is to read has come after these events
  pub record ReadsIts (past : List Entry) (t : TrussState) (l : LwpStatus) (s : TracedState) : Type 0 where
    pub event : LwpEvent
    pub before : List LwpEvent
    pub tells : event_told l ≡ Some event
    pub shows : shown pid t ≡ before ++ event ∷ []
    pub come : HasCome past before event s

  -- This is what stands after the past, and so much was selected in it.
  pub record Links (past : List Entry) (t : TrussState) (s : TracedState) (base : List LwpEvent) : Type 0 where
    pub at : t ≡ truss_at k o past
    pub now : s ≡ state_after first past
    pub all : base ≡ selected_in past

  -- where an event came that is missing, or whose memory truss is to read
  pub record Knows (past : List Entry) (t : TrussState) (s : TracedState) (base : List LwpEvent) : Type 0 where
    pub unread : (event : LwpEvent) → base ≡ shown pid t ++ event ∷ [] → HasCome past (shown pid t) event s
    pub reading : (place : ℕ) (l : LwpStatus) (from len : ℕ) → t.stage ≡ ReadingText place l from len
        → (traced_at t place).pid ≡ pid → ReadsIts past t l s

  -- ---- one entry more of a history

  pub selected-push : (h : List Entry) (t : TrussState) (s : TracedState) (e : Entry)
      → selected o pid (events_watched k pid t s (h ++ e ∷ [])) ≡ selected o pid
      (events_watched k pid t s h) ++ selected_of o pid (truss_after t (exchanges k h)) (state_after s h) e
  unfolding picked
  selected-push [] t s e =
      watched-next k o pid (is_selected o) t s [] e [] ∙ append-nil (selected_of o pid t s e)
      ∙ ap (λ (u : TrussState). selected_of o pid u s e) (sym (no-exchanges k t))
  selected-push (x ∷ h) t s e =
      watched-next k o pid (is_selected o) t s [] x (h ++ e ∷ [])
      ∙ ap (λ (ys : List LwpEvent). selected_of o pid t s x ++ ys) (selected-push h (fed_by_entry k t x) (after s x) e)
      ∙ sym (append_assoc (selected_of o pid t s x)
      (selected o pid (events_watched k pid (fed_by_entry k t x) (after s x) h)) _)
      ∙ ap (λ (ys : List LwpEvent). ys ++ selected_of o pid (truss_after (fed_by_entry k t x) (exchanges k h))
      (state_after (after s x) h) e) (sym (watched-next k o pid (is_selected o) t s [] x h))
      ∙ ap (λ (u : TrussState). selected o pid (events_watched k pid t s (x ∷ h)) ++ selected_of o pid u
      (state_after (after s x) h) e) (sym (after-next k t x h))
