use Rattle.pr_report_laws.proofs.Machine.EventOwners.{event-owns}
use Rattle.pr_model.specs.declared.handles.Held.{Held}
use Rattle.std.proofs.Common.{◌≡◌, ◌≢◌, ◌==◌, ◌⊎◌, ℕ, Bool, true, false, cond, Option, Some, None, List, [], ◌∷◌, ◌++◌, refl, sym, subst, ap, ◌∙◌, append_assoc, inl, inr}
use Rattle.std.proofs.lemmas.Bool.{eq-eqb, false≢true}
use Rattle.std.proofs.lemmas.List.{append-nil, append_cancel_left, append_cancel_right}
use Rattle.std.proofs.lemmas.Option.{none-some, same_Some}
use Rattle.std.specs.Option.{option_and_then, option_map}
use Rattle.pr_api.specs.Entries.{call_entry}
use Rattle.pr_lawful.proofs.LawfulTurns.EndLemmas.{found-live}
use Rattle.pr_line.specs.Events.{event_of}
use Rattle.pr_line.specs.Selections.{is_selected}
use Rattle.pr_line.specs.declared.events.Event.{Event}
use Rattle.pr_line.specs.declared.options.Options.{Options}
use Rattle.pr_model.proofs.HistoryLemmas.{state_after-push}
use Rattle.pr_model.specs.Calls.{Answer, answer_to}
use Rattle.pr_model.specs.Events.{events_of}
use Rattle.pr_model.specs.Lawful.{IsLawful}
use Rattle.pr_model.specs.Legal.{IsLegalEntry, after, after_call, state_after}
use Rattle.pr_model.specs.State.{TracedProcess, TracedState, TracedSystem, live_process}
use Rattle.pr_model.specs.declared.calls.Call.{Call}
use Rattle.pr_model.specs.declared.calls.File.TheVariants.{Ctl}
use Rattle.pr_model.specs.declared.calls.Mode.TheVariants.{WriteExcl}
use Rattle.pr_model.specs.declared.calls.Reply.{Reply}
use Rattle.pr_model.specs.declared.events.Act.{Act}
use Rattle.pr_model.specs.declared.events.Act.TheVariants as act
use Rattle.pr_model.specs.declared.events.Actor.{Actor}
use Rattle.pr_model.specs.declared.events.Actor.TheVariants.{Controller, Lwp, Clock}
use Rattle.pr_model.specs.declared.events.Entry.{Entry}
use Rattle.pr_rec.specs.declared.lwps.LwpStatus.{LwpStatus}
use Rattle.pr_truss.specs.Feeding.{fed}
use Rattle.pr_truss.specs.NextCalls.{call_of, next_call_of, read_record}
use Rattle.pr_truss.specs.Reports.{pending_at}
use Rattle.pr_truss.specs.Stops.{asked_range}
use Rattle.pr_truss.specs.Trusses.{TrussState, first_truss, traced_at}
use Rattle.pr_truss.specs.declared.reports.Report.{Report}
use Rattle.pr_truss.specs.declared.stages.Stage.{Stage}
use Rattle.pr_truss.specs.declared.stages.Stage.TheVariants.{ReadingStatus, ReadingText, ReadingLwps}
use Rattle.pr_truss_laws.proofs.Machine.FrameLemmas.{was-made}
use Rattle.pr_truss_laws.proofs.Files.OpensLemmas.{held_by, looking-stays, only_looks}
use Rattle.pr_truss_laws.specs.Stills.{IsHalting}
use Rattle.pr_truss_laws.proofs.Files.OwnLemmas.{Owns}
use Rattle.pr_truss_laws.specs.Exchanges.{Exchange, exchange_in, exchange_of, truss_at}
use Rattle.pr_report_laws.proofs.Invariant.EntrySteps.{EndsByKill, Lost}
use Rattle.pr_report_laws.proofs.Memory.EventComes.{HasCome, HoldsUnread, Knows, Links, ReadsIts, come-on, halts, selected-push, selected_in, unread-holds}
use Rattle.pr_report_laws.proofs.Machine.EventTurns.{event-lives}
use Rattle.pr_report_laws.proofs.Files.FileLaws.{HasFiles, IsFileOf}
use Rattle.pr_report_laws.proofs.Files.FileSteps.{MakesNext, entry-lawful}
use Rattle.pr_report_laws.proofs.Files.FileUses as uses
use Rattle.pr_report_laws.proofs.Files.FileUses.{place-is, stage_place}
use Rattle.pr_truss_laws.proofs.Machine.ForeignLemmas.{exclusive-sole}
use Rattle.pr_truss_laws.proofs.Machine.FrameLemmas.{memory-self}
use Rattle.pr_truss_laws.proofs.Machine.HaltLemmas.{HaltsOn, goes_on, others-halt}
use Rattle.pr_report_laws.proofs.Invariant.ShownTallies.{exchange-shows, selected_of, shown_tally}
use Rattle.pr_report_laws.proofs.Invariant.HistorySteps.{Holds, read_of}
use Rattle.pr_report_laws.proofs.Memory.MemoryReads.{entry-is}
use Rattle.pr_report_laws.proofs.Replies.NextStages.{reported}
use Rattle.pr_report_laws.proofs.Memory.OwnSpaces.{own-halts}
use Rattle.pr_report_laws.proofs.Invariant.Tallies.{told_in}
use Rattle.pr_report_laws.proofs.Invariant.Standing.{Accounted, Standing}
use Rattle.pr_report_laws.proofs.Replies.StopsOver.{reported-own, shown-none, shown-text}
use Rattle.pr_report_laws.proofs.Replies.TextReports.{Asks, AsksNow, fed-goes, reads_stop}
use Rattle.pr_report_laws.proofs.Invariant.UnreadLaws.{missing-before, missing-now, own-picks, standing-accounted}
use Rattle.pr_report_laws.proofs.Files.WatchHistories.{truss_at-push}
use Rattle.pr_report_laws.specs.Memories.{range_asked}
use Rattle.pr_report_laws.specs.Shown.{LwpEvent, picked, selected, shown}
use Rattle.pr_report_laws.specs.Watching.{fed_by_entry, place_of, watches, with_exchange}

-- What one entry of a history leaves of the events that have come.

-- ---- where truss reads a stop

reads-none : (t : TrussState) (stage : Stage) → reads_stop stage ≡ true → pending_at t stage ≡ []
reads-none t (ReadingText place l from len) reads = absurd (false≢true reads)
reads-none t _ reads = refl

-- that call changes nothing
reads-looks : (t : TrussState) (stage : Stage) (c : Call) → reads_stop stage ≡ true → call_of t stage ≡ Some c
    → only_looks c ≡ true
unfolding call_of
reads-looks t (ReadingStatus place) c reads is =
    ap only_looks (sym (same_Some (read_record (traced_at t place).status) c is))
reads-looks t ReadingLwps c reads is = ap only_looks (sym (same_Some (read_record (traced_at t 0).lstatus) c is))
reads-looks t _ c reads is = absurd (false≢true reads)

-- a line asks for memory where the status tells an event
asked-event : (o : Options) (l : LwpStatus) (range : ℕ × ℕ) → range_asked o l ≡ Some range
    → (e : Event) × (event_of l ≡ Some e)
asked-event o l range asked = by (event_of l) refl asked
  where
    by : (x : Option Event) → event_of l ≡ x → option_and_then (asked_range o) x ≡ Some range
        → (e : Event) × (event_of l ≡ Some e)
    by None is it = absurd (none-some range it)
    by (Some e) is it = (e, is)

-- ---- an entry of truss, and one of another

-- the answer to the call of an entry, and the state that the entry leaves
record IsAnsweredSo (k : ℕ) (s : TracedState) (e : Entry) (c : Call) : Type 0 where
  answer : Answer
  is : answer_to s k c ≡ Some answer
  later : after s e ≡ answer.state

answered-in : (n k : ℕ) (s : TracedState) (c : Call) (r : Reply) → IsLegalEntry n s (call_entry k c r)
    → IsAnsweredSo k s (call_entry k c r) c
unfolding IsLegalEntry after
answered-in n k s c r legal = record {
  answer = record { state = legal.1.0; reply = r };
  is = legal.1.1;
  later = ap (after_call s) legal.1.1;
}

own-answered : (n k : ℕ) (s : TracedState) (e : Entry) (x : Exchange) → IsLegalEntry n s e → exchange_of k e ≡ Some x
    → IsAnsweredSo k s e x.call
own-answered n k s e x legal own =
    let is : e ≡ call_entry k x.call x.reply = entry-is k e x own in
    subst (λ (d : Entry). IsAnsweredSo k s d x.call) (sym is)
    (answered-in n k s x.call x.reply (subst (IsLegalEntry n s) is legal))

others-in : (n k : ℕ) (s : TracedState) (actor : Actor) (it : Act)
    → IsLegalEntry n s (record { actor = actor; act = it }) → exchange_in k actor it ≡ None → actor ≢ Controller k
unfolding IsLegalEntry
others-in n k s (Controller by) (act.Call c r) legal none same =
    let own : (by == k) ≡ true = eq-eqb by k (of-controller by k same) in
    none-some (record { call = c; reply = r }) (sym none
    ∙ ap (λ b. cond {A = Option Exchange} b (Some (record { call = c; reply = r })) None) own)
  where
    of-controller : (x y : ℕ) → Controller x ≡ Controller y → x ≡ y
    of-controller x y e = cc
others-in n k s (Lwp pid id) (act.Turn did) legal none same = cc
others-in n k s Clock (act.Tick moment) legal none same = cc
others-in n k s _ _ legal none same = absurd legal

module _ (K : Type 0) (n k : ℕ) (o : Options) (pid : ℕ) (first : TracedState) (past : List Entry) (t : TrussState)
    (s : TracedState) (base : List LwpEvent) (e : Entry) (g : Holds K k o pid t s (shown_tally o pid t base))
    (links : Links k o pid first past t s base) (knows : Knows k o pid first past t s base)
    (legal : IsLegalEntry n s e) (next : MakesNext t (exchange_of k e))
    (later : Standing (Lost (K ⊎ EndsByKill pid t s e) pid (after s e)) o pid (fed_by_entry k t e) (after s e)
    (shown_tally o pid (fed_by_entry k t e) (base ++ selected_of o pid t s e))) where
  few : Accounted (Unit {0}) (shown_tally o pid t base)
  few = standing-accounted (Lost K pid s) o pid t s (shown_tally o pid t base) g.standing

  abbrev Why : Type 0
  Why = K ⊎ EndsByKill pid t s e

  -- ---- an entry of another

  module _ (others : e.actor ≢ Controller k) where
    placed-halts : (place : ℕ) → place_of t pid ≡ Some place → (p : TracedProcess) → live_process s.system pid ≡ Some p
        → IsHalting p → HaltsOn pid p (after s e).system
    placed-halts place at p live halting =
        let own = place-is t pid place at in
        let files : HasFiles k t s = g.files in
        let f : IsFileOf k s (traced_at t place).pid (traced_at t place).control Ctl WriteExcl =
        files.control place own.0 in
        let held = f.is ∙ ap (λ of. Some (held_by k of 0 Ctl WriteExcl)) own.1 in
        let mine : Held = held_by k pid 0 Ctl WriteExcl in
        let sole = exclusive-sole s k (traced_at t place).control mine g.lawful held refl in
        others-halt n s k pid g.lawful sole p live halting e legal others

    unread-halts : (event : LwpEvent) → base ≡ shown pid t ++ event ∷ [] → (p : TracedProcess)
        → live_process s.system pid ≡ Some p → IsHalting p → HaltsOn pid p (after s e).system
    unread-halts event missing p live halting =
        let w : HoldsUnread pid t p = unread-holds K o pid t s base event missing g.standing p live in
        placed-halts w.place w.at p live halting

  -- ---- a call of truss

  module _ (x : Exchange) (own : exchange_of k e ≡ Some x) where
    a : IsAnsweredSo k s e x.call
    a = own-answered n k s e x legal own

    makes : next_call_of t ≡ Some x.call
    makes = subst (MakesNext t) own next

    same-base : base ≡ base ++ selected_of o pid t s e
    same-base = sym (ap (λ (xs : List LwpEvent). base ++ xs) (own-picks (is_selected o) k pid t s e x own)
        ∙ append-nil base)

    told-is : fed_by_entry k t e ≡ fed t x.reply
    told-is = ap (with_exchange t) own

    own-event-halts : (event : LwpEvent) → base ≡ shown pid t ++ event ∷ [] → (p : TracedProcess)
        → live_process s.system pid ≡ Some p → IsHalting p → HaltsOn pid p (after s e).system
    own-event-halts event missing p live halting =
        let y = a in
        let w : HoldsUnread pid t p = unread-holds K o pid t s base event missing g.standing p live in
        subst (λ (u : TracedState). HaltsOn pid p u.system) (sym y.later)
        (own-halts k t s x.call y.answer g.lawful g.owns g.files makes y.is pid w.place w.at w.here w.unread p live
        halting)

    own-unread : (event : LwpEvent) → base ++ selected_of o pid t s e ≡ shown pid (fed_by_entry k t e) ++ event ∷ []
        → HasCome k o pid first (past ++ e ∷ []) (shown pid (fed_by_entry k t e)) event (after s e)
    own-unread event still =
        let owns : Owns k t s = g.owns in
        let more : List LwpEvent = told_in (is_selected o) (read_of pid t (exchange_of k e)) in
        let missing : base ≡ shown pid t ++ event ∷ [] =
        missing-before (shown_tally o pid t base) few event (shown pid (fed_by_entry k t e)) more
        (exchange-shows o pid t (exchange_of k e) g.options) (same-base
        ∙ still) in
        let same : shown pid t ≡ shown pid (fed_by_entry k t e) =
        append_cancel_right (shown pid t) (shown pid (fed_by_entry k t e)) (event ∷ []) (sym missing ∙ same-base
        ∙ still) in
        let come : HasCome k o pid first past (shown pid t) event s = knows.unread event missing in
        subst (λ (xs : List LwpEvent). HasCome k o pid first (past ++ e ∷ []) xs event (after s e)) same
        (come-on k o pid first n s e g.lawful legal (own-event-halts event missing) past (shown pid t) event come)

    -- the memory of an event is to be read, whose stop was read now
    module _ (place : ℕ) (l : LwpStatus) (from len : ℕ)
        (stage : (fed_by_entry k t e).stage ≡ ReadingText place l from len)
        (mine : (traced_at (fed_by_entry k t e) place).pid ≡ pid) where
      abbrev u : TrussState
      u = fed_by_entry k t e

      asks : AsksNow o t u.reports l from len
      asks =
          let c = fed-goes o t x.reply g.options in
          let told : Asks o t u.reports u.stage =
          subst (λ (v : TrussState). Asks o t v.reports v.stage) (sym told-is) c.asks in
          subst (Asks o t u.reports) stage told

      its : (ev : Event) × (event_of l ≡ Some ev)
      its = let w = asks in asked-event o l (from, len) w.range

      abbrev event : LwpEvent
      event = record { id = l.id; event = its.0 }

      none : pending_at t t.stage ≡ []
      none = let w = asks in reads-none t t.stage w.reads

      shows : shown pid u ≡ shown pid t ++ event ∷ []
      shows =
          let w = asks in
          shown-text pid u place from len l stage
          ∙ reported-own pid (traced_at u place).pid l None u.reports its.0 mine its.1
          ∙ ap (λ (rs : List Report). reported pid rs ++ event ∷ []) w.same
          ∙ ap (λ (xs : List LwpEvent). xs ++ event ∷ []) (sym (shown-none pid t none))

      missing : base ≡ shown pid t ++ event ∷ []
      missing =
          by few (standing-accounted (Lost Why pid (after s e)) o pid u (after s e)
          (shown_tally o pid u (base ++ selected_of o pid t s e)) later)
        where
          by : Accounted (Unit {0}) (shown_tally o pid t base)
              → Accounted (Unit {0}) (shown_tally o pid u (base ++ selected_of o pid t s e)) → base ≡ shown pid t
              ++ event ∷ []
          by before afterwards =
              before.is
              ∙ ap (λ (xs : List LwpEvent). shown pid t ++ xs)
              (alone before.missing afterwards.missing rest before.few)
            where
              rest : before.missing ≡ event ∷ afterwards.missing
              rest =
                  append_cancel_left (shown pid t) before.missing (event ∷ afterwards.missing)
                  (sym before.is ∙ same-base ∙ afterwards.is
                  ∙ ap (λ (xs : List LwpEvent). xs ++ afterwards.missing) shows
                  ∙ append_assoc (shown pid t) (event ∷ []) afterwards.missing)

              alone : (xs ys : List LwpEvent) → xs ≡ event ∷ ys
                  → (xs ≡ []) ⊎ ((ev : LwpEvent) × ((xs ≡ ev ∷ []) × Unit {0})) → xs ≡ event ∷ []
              alone xs ys is (inl nothing) = cc
              alone xs ys is (inr one) =
                  let same : event ≡ one.0 = (let both : event ∷ ys ≡ one.0 ∷ [] = sym is ∙ one.1.0 in cc) in
                  one.1.0 ∙ ap (λ (ev : LwpEvent). ev ∷ []) (sym same)

      look-halts : (p : TracedProcess) → live_process s.system pid ≡ Some p → IsHalting p
          → HaltsOn pid p (after s e).system
      unfolding next_call_of
      look-halts p live halting =
          let y = a in
          let w = asks in
          let looks : only_looks x.call ≡ true = reads-looks t t.stage x.call w.reads makes in
          let same : y.answer.state.system ≡ s.system =
          ap (λ (v : TracedState). v.system) (looking-stays s k x.call y.answer looks y.is) in
          let lives =
          ap (λ (v : TracedState). live_process v.system pid) y.later
          ∙ ap (λ (v : TracedSystem). live_process v pid) same ∙ live in
          goes_on p lives halting (memory-self p)

      own-reading : ReadsIts k o pid first (past ++ e ∷ []) u l (after s e)
      own-reading = record {
        event = event;
        before = shown pid t;
        tells = ap (option_map (λ ev. record { id = l.id; event = ev })) its.1;
        shows = shows;
        come =
            come-on k o pid first n s e g.lawful legal look-halts past (shown pid t) event (knows.unread event missing);
      }

    own-knows : Knows k o pid first (past ++ e ∷ []) (fed_by_entry k t e) (after s e) (base ++ selected_of o pid t s e)
    own-knows = record { unread = own-unread; reading = own-reading }

  -- ---- no call of truss

  module _ (others : e.actor ≢ Controller k) (same : fed_by_entry k t e ≡ t) where
    stands : Standing (Lost Why pid (after s e)) o pid t (after s e)
        (shown_tally o pid t (base ++ selected_of o pid t s e))
    stands =
        subst (λ (u : TrussState). Standing (Lost Why pid (after s e)) o pid u (after s e)
        (shown_tally o pid u (base ++ selected_of o pid t s e))) same later

    -- the event comes in this entry
    now-unread : (event : LwpEvent) → base ++ selected_of o pid t s e ≡ shown pid t ++ event ∷ []
        → selected_of o pid t s e ≡ event ∷ [] → HasCome k o pid first (past ++ e ∷ []) (shown pid t) event (after s e)
    unfolding picked
    now-unread event still is = by (watches t pid) refl is
      where
        here : after s e ≡ state_after first (past ++ e ∷ [])
        here = ap (λ (u : TracedState). after u e) links.now ∙ sym (state_after-push first past e)

        told : base ≡ shown pid t
        told =
            append_cancel_right base (shown pid t) (event ∷ []) (ap (λ (xs : List LwpEvent). base ++ xs) (sym is)
            ∙ still)

        by : (on : Bool) → watches t pid ≡ on → selected o pid (cond on (events_of s e) []) ≡ event ∷ []
            → HasCome k o pid first (past ++ e ∷ []) (shown pid t) event (after s e)
        by false off its = cc
        by true on its =
            let q = event-lives K n k o pid t s (shown_tally o pid t base) g on event e legal its in
            let v : HoldsUnread pid t q.0 =
            unread-holds Why o pid t (after s e) (base ++ selected_of o pid t s e) event still stands q.0 q.1 in
            let lawful : IsLawful (after s e) = entry-lawful n s e g.lawful legal in
            record {
              earlier = past;
              entry = e;
              between = [];
              is = refl;
              watched = ap (λ (u : TrussState). watches u pid) (sym links.at) ∙ on;
              came = ap (λ (u : TracedState). selected o pid (events_of u e)) (sym links.now) ∙ its;
              order = sym links.all ∙ told;
              process = q.0;
              lives = ap (λ (u : TracedState). live_process u.system pid) (sym here) ∙ q.1;
              owns = λ range asks. event-owns n (is_selected o) pid s event range asks e legal its q.0 q.1;
              now = here;
              made = was-made pid (after s e).system q.0 lawful.system (found-live (after s e).system pid q.0 q.1).0;
              stays = halts q.0 q.1 v.halting (memory-self q.0);
            }

    others-unread : (event : LwpEvent) → base ++ selected_of o pid t s e ≡ shown pid t ++ event ∷ []
        → HasCome k o pid first (past ++ e ∷ []) (shown pid t) event (after s e)
    others-unread event still = elim
        (missing-now (shown_tally o pid t base) few event (selected_of o pid t s e) still) [
          | inl chosen ↦ now-unread event still chosen
          | inr missing ↦ come-on k o pid first n s e g.lawful legal (unread-halts others event missing) past
              (shown pid t) event (knows.unread event missing)
        ]

    others-reading : (place : ℕ) (l : LwpStatus) (from len : ℕ) → t.stage ≡ ReadingText place l from len
        → (traced_at t place).pid ≡ pid → ReadsIts k o pid first (past ++ e ∷ []) t l (after s e)
    others-reading place l from len stage mine =
        let owns : Owns k t s = g.owns in
        let files : HasFiles k t s = g.files in
        let within = (uses.stage-control k t s g.files owns.fits place (ap stage_place stage)).0 in
        let at : place_of t pid ≡ Some place = ap (place_of t) (sym mine) ∙ files.one place within in
        let r : ReadsIts k o pid first past t l s = knows.reading place l from len stage mine in
        record {
          event = r.event;
          before = r.before;
          tells = r.tells;
          shows = r.shows;
          come = come-on k o pid first n s e g.lawful legal (placed-halts others place at) past r.before r.event r.come;
        }

    others-knows : Knows k o pid first (past ++ e ∷ []) (fed_by_entry k t e) (after s e)
        (base ++ selected_of o pid t s e)
    others-knows =
        subst (λ (u : TrussState). Knows k o pid first (past ++ e ∷ []) u (after s e)
        (base ++ selected_of o pid t s e)) (sym same) (record { unread = others-unread; reading = others-reading })

  -- ---- any entry

  pub knows-next : Knows k o pid first (past ++ e ∷ []) (fed_by_entry k t e) (after s e)
      (base ++ selected_of o pid t s e)
  knows-next = by (exchange_of k e) refl
    where
      by : (x : Option Exchange) → exchange_of k e ≡ x
          → Knows k o pid first (past ++ e ∷ []) (fed_by_entry k t e) (after s e) (base ++ selected_of o pid t s e)
      by None none = others-knows (others-in n k s e.actor e.act legal none) (ap (with_exchange t) none)
      by (Some x) own = own-knows x own

  pub links-next : Links k o pid first (past ++ e ∷ []) (fed_by_entry k t e) (after s e)
      (base ++ selected_of o pid t s e)
  links-next = record {
    at = ap (λ (u : TrussState). fed_by_entry k u e) links.at ∙ sym (truss_at-push k o past e);
    now = ap (λ (u : TracedState). after u e) links.now ∙ sym (state_after-push first past e);
    all =
        ap (λ (xs : List LwpEvent). xs ++ selected_of o pid t s e) links.all
        ∙ ap (λ (u : TrussState). selected_in k o pid first past ++ selected_of o pid u s e) links.at
        ∙ ap (λ (v : TracedState). selected_in k o pid first past ++ selected_of o pid
        (truss_at k o past) v e) links.now
        ∙ sym (selected-push k o pid first past (first_truss o) first e);
  }
