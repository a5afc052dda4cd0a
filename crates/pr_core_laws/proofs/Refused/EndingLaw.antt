use Rattle.std.proofs.Common.{◌≡◌, ◌≢◌, ◌++◌, ◌∷◌, ℕ, Bool, true, false, cond, codes, List, [], Option, Some, None, IsSome, is_some, refl, sym, subst, ap, ◌∙◌, slice_get}
use Rattle.std.proofs.lemmas.Bool.{false≢true}
use Rattle.std.proofs.lemmas.List.Elements.{All-nil}
use Rattle.pr_api.specs.Entries.{call_entry}
use Rattle.pr_core.specs.CoreText.{printed, report}
use Rattle.pr_core.specs.Gcores.{GcoreState, fed, first_gcore, has_ended, passes_over}
use Rattle.pr_core.specs.declared.gcore_stages.GcoreStage.TheVariants as stage
use Rattle.pr_lawful.proofs.LawfulStates.HistoryLemmas.{history-state}
use Rattle.pr_model.proofs.HistoryLemmas.{state_after-push}
use Rattle.pr_model.specs.Calls.{Answer, answer_to}
use Rattle.pr_model.specs.Lawful.{IsLawful, IsLawfulSystem}
use Rattle.pr_model.specs.Handles.{handle_of}
use Rattle.pr_model.specs.Legal.{IsLegal, IsLegalEntry, state_after}
use Rattle.pr_model.specs.Reads.{file_read, part_read}
use Rattle.pr_model.specs.Replies.{bytes_in}
use Rattle.pr_model.specs.State.{TracedProcess, TracedState, live_process}
use Rattle.pr_model.specs.Statuses.{status_of}
use Rattle.pr_model.specs.declared.calls.Call.{Call}
use Rattle.pr_model.specs.declared.calls.Call.TheVariants as calls
use Rattle.pr_model.specs.declared.calls.File.TheVariants as file
use Rattle.pr_model.specs.declared.calls.Reply.{Reply}
use Rattle.pr_model.specs.declared.calls.Reply.TheVariants as replies
use Rattle.pr_model.specs.declared.events.Entry.{Entry}
use Rattle.pr_num.specs.Limits.{read_limit}
use Rattle.pr_num.specs.Records.{status_ranges}
use Rattle.pr_num.specs.declared.errnos.Errno.{Errno}
use Rattle.pr_num.specs.declared.errnos.Errno.TheVariants.{Busy, Noent}
use Rattle.pr_reached.proofs.StatesInRange.HistoryRanges.{history-range}
use Rattle.pr_reached.specs.ByteHistories.{HasBytes}
use Rattle.pr_reached.specs.InRange.{IsInRange}
use Rattle.pr_rec.specs.Reading.{record_read}
use Rattle.pr_rec.specs.RecordBytes.{status_bytes}
use Rattle.pr_core.specs.Gcores.{lends}
use Rattle.pr_tool_laws.proofs.RunningAgain.LeavingLemmas.{others-none}
use Rattle.pr_tool_laws.proofs.RunningAgain.LeavingStages.{leaves}
use Rattle.pr_tool_laws.proofs.RunningAgain.LookLemmas.{legal-at}
use Rattle.pr_tool_laws.proofs.Stages.ProtocolLemmas.{KeptByCalls, KeptByOthers, own-keeps}
use Rattle.pr_tool_laws.proofs.RunningAgain.RequestLemmas.{asks-push}
use Rattle.pr_tool_laws.proofs.Sending.SentStages.{exchange, others-made, own-made}
use Rattle.pr_tool_laws.proofs.Pstack.StackReads.{read-answer}
use Rattle.pr_tool_laws.proofs.Stages.StageLemmas.{state-called}
use Rattle.pr_tool_laws.proofs.Records.WholeLemmas.{front-bytes, front-legal}
use Rattle.pr_tool_laws.specs.Leaving.{LeavesItsProcess}
use Rattle.pr_reached.specs.HistoriesInRange.{StaysInRange}
use Rattle.pr_tool_laws.specs.Runs.{IsRunOf}
use Rattle.pr_tool_laws.specs.Requests.{asks_still}
use Rattle.pr_tool_laws.specs.Stacks.{OpensAtMost}
use Rattle.pr_tools.specs.Refusals.{refusal_line}
use Rattle.pr_tools.specs.Replies.{bytes_read}
use Rattle.pr_truss_laws.specs.Exchanges.{Exchange, exchanges}
use Rattle.pr_world.specs.Controllers.{after_reply, next_call}
use Rattle.pr_world.specs.ControllerStates.{ControllerState, Gcore}
use Rattle.pr_world.specs.Protocol.{controllers_at}
use Rattle.pr_core_laws.proofs.Refused.CallStages.{Out, called-out, its-row, makes-more, out-still, whole-row}
use Rattle.pr_core_laws.proofs.OpenFiles.GcoreHolds.{Holds, ended-closes, goes_on, holds-at}
use Rattle.pr_core_laws.proofs.OneState.GcoreLaw.{IsGcoreKept, at_first, calls-keep, others-keep}
use Rattle.pr_core_laws.proofs.OpenFiles.HandleLemmas.{file_of}
use Rattle.pr_core_laws.proofs.StandingProcesses.LentLemmas.{lends-lent}
use Rattle.pr_core_laws.proofs.OpenFiles.KeptParts.{fed-pid}
use Rattle.pr_core_laws.proofs.OneState.ReadLemmas.{status-gone, status-there}
use Rattle.pr_core_laws.proofs.Refused.RefusalStages.{CauseOf, HasCause, IsCause, Why, by_refusal, by_status, called-why, why-still}
use Rattle.pr_core_laws.proofs.Refused.RequestStages.{AtNow, AtStage, fed-at, over-refused}
use Rattle.pr_core_laws.proofs.Refused.RunAgainStages.{Control, Leads, called-leads, control-run, leads-still}
use Rattle.pr_core_laws.specs.GcoreCalls.{MakesGcoreCalls}
use Rattle.pr_core_laws.specs.Refused.{HasReason, IsReason, TellsWhy, lent, refused as by_call}

-- How gcore ends: it has run its process again, or has taken back its request, and tells why it was refused.

-- a gcore at a stage at which a refusal counts was not refused
unrefused : (g : GcoreState) → (is_some g.refusal ≡ true → passes_over g.stage ≡ true) → passes_over g.stage ≡ false
    → g.refusal ≡ None
unrefused g over counts = by g.refusal refl
  where
    by : (o : Option Errno) → g.refusal ≡ o → o ≡ None
    by None is = refl
    by (Some e) is =
        absurd (false≢true (sym counts ∙ over (ap (λ (o : Option Errno). is_some o) is)))

module _ (n k pid : ℕ) (first : TracedState) where
  abbrev asks_in : List Entry → Bool
  asks_in h = asks_still false (exchanges k h)

  -- what is so of it, refused or not
  record IsOnItsWay (h : List Entry) (g : GcoreState) : Type 0 where
    its : g.pid ≡ pid
    asked : AtNow (asks_in h) g
    leads : g.refusal ≡ None → Leads n k pid first h (state_after first h) g g.stage
    why : Why n k pid first h g
    makes : MakesGcoreCalls k pid first h
    out : Out n k pid first (state_after first h) g

  So : List Entry → ControllerState → Type 0
  So h (Gcore g) = IsOnItsWay h g
  So h _ = ⊥

  abbrev IsKept : List Entry → ControllerState → Type 0
  IsKept h c = IsGcoreKept n k pid first h c × So h c

  others-on : KeptByOthers n k first IsKept
  unfolding So
  others-on h (Gcore g) actor it legal other kept =
      let e : Entry = record { actor = actor; act = it } in (
        others-keep n k pid first h (Gcore g) actor it legal other kept.0,
        record {
          its = kept.1.its;
          asked =
              subst (λ (xs : List Exchange). AtNow (asks_still false xs) g)
              (sym (others-made k h actor it (exchanges k h) other refl)) kept.1.asked;
          leads = λ none.
              subst (λ (s : TracedState). Leads n k pid first (h ++ e ∷ []) s g g.stage)
              (sym (state_after-push first h e))
              (leads-still n k pid first h actor it legal other g g.stage (kept.1.leads none));
          why =
              why-still n k pid first h e
              (λ c d same. absurd (others-none k actor it other c (replies.Fail d) same)) g kept.1.why;
          makes =
              makes-more k pid first h e kept.1.makes (λ c r same. absurd (others-none k actor it other c r same));
          out = out-still n k pid first h actor it legal other g kept.1.out;
        },
      )
  others-on h _ actor it legal other kept = absurd kept.1

  calls-on : KeptByCalls n k first IsKept
  unfolding So IsGcoreKept next_call after_reply
  calls-on h (Gcore g) c a next given kept =
      let s : TracedState = state_after first h in
      let its_own = kept.1 in
      let over : is_some g.refusal ≡ true → passes_over g.stage ≡ true =
      λ was.
      over-refused (asks_in h) g.stage (subst (λ (b : Bool). AtStage b (asks_in h) g.stage) was its_own.asked) in
      let none : passes_over g.stage ≡ false → g.refusal ≡ None = unrefused g over in
      let holds : passes_over g.stage ≡ false → goes_on g.stage ≡ true → Holds n k pid first s g g.stage =
      λ counts. holds-at n k pid first h s g kept.0.1 (none counts) in
      let run : passes_over g.stage ≡ false → g.stage ≡ stage.Run → Control n k pid first s g =
      λ counts is. control-run n k pid first h s g g.stage is (its_own.leads (none counts)) in (
        calls-keep n k pid first h (Gcore g) c a next given kept.0,
        record {
          its = fed-pid g a.reply ∙ its_own.its;
          asked =
              subst (λ (b : Bool). AtNow b (fed g a.reply))
              (sym (ap (asks_still false) (own-made k h c a.reply (exchanges k h) refl)
              ∙ asks-push false (exchanges k h) (exchange c a.reply)))
              (fed-at g c a.reply (asks_in h) next its_own.asked);
          leads = λ none.
              subst
              (λ (x : TracedState). Leads n k pid first (h ++ call_entry k c a.reply ∷ []) x (fed g a.reply)
              (fed g a.reply).stage)
              (sym (state-called first h k c a given))
              (called-leads n k pid first h c a kept.0.0 given g next (holds-at n k pid first h s g kept.0.1)
              its_own.leads none);
          why =
              called-why n k pid first h c a.reply g next its_own.its (holds-at n k pid first h s g kept.0.1)
              (λ none is. control-run n k pid first h s g g.stage is (its_own.leads none)) over its_own.why;
          makes =
              makes-more k pid first h (call_entry k c a.reply) its_own.makes
              (its-row k pid s c a.reply
              (whole-row n k pid first s c a given g next holds run its_own.its its_own.out));
          out =
              subst (λ (x : TracedState). Out n k pid first x (fed g a.reply))
              (sym (state-called first h k c a given)) (called-out n k pid first s c a given g next holds run);
        },
      )
  calls-on h _ c a next given kept = absurd kept.1

  begins : IsOnItsWay [] (first_gcore pid)
  unfolding first_gcore exchanges AtStage Leads
  begins = record {
    its = refl;
    asked = (refl, refl);
    leads = λ none. All-nil (OpensAtMost k);
    why = record { quiet = λ none counts. All-nil _; caused = tt };
    makes = tt;
    out = λ is. cc;
  }

  on-its-way : (controllers : List ControllerState) (h : List Entry) (g : GcoreState) → IsLawful first
      → IsRunOf n k (Gcore (first_gcore pid)) controllers first h
      → slice_get (controllers_at controllers h) k ≡ Some (Gcore g) → IsOnItsWay h g
  unfolding So IsGcoreKept
  on-its-way controllers h g lawful run ends =
      (own-keeps n k first IsKept others-on calls-on controllers h
      (Gcore (first_gcore pid)) (Gcore g) run ends
      ((lawful, at_first n k pid first), begins)).1

  -- ---- the reason of a refusal

  module _ (h : List Entry) (lawful : IsLawful first) (ranged : IsInRange first.system) (bytes : HasBytes h)
      (legal : IsLegal n first h) where
    -- a status that showed that memory was lent
    module _ (before rest : List Entry) (c : Call) (r : Reply)
        (place : h ≡ before ++ call_entry k c r ∷ rest) (handle : ℕ) (is : c ≡ calls.Read handle 0 read_limit) where
      abbrev s : TracedState
      s = state_after first before

      legal_here : IsLegal n first (before ++ call_entry k c r ∷ rest)
      legal_here = subst (λ (es : List Entry). IsLegal n first es) place legal

      front : IsLegal n first before
      front = front-legal n first before (call_entry k c r ∷ rest) legal_here

      system : IsLawfulSystem s.system
      system = (history-state n first before lawful front).system

      range : IsInRange s.system
      range =
          history-range n first before lawful ranged
          (front-bytes before (call_entry k c r ∷ rest) (subst HasBytes place bytes)) front

      reply-is : handle_of s.opens k handle ≡ Some (file_of k pid file.Status)
          → r ≡ file_read s.system pid 0 0 read_limit file.Status
      unfolding IsLegalEntry
      reply-is there =
          let here = legal-at n first before (call_entry k c r) rest legal_here in
          let a : Answer = record { state = here.1.0; reply = r } in
          let given : answer_to s k (calls.Read handle 0 read_limit) ≡ Some a =
          ap (answer_to s k) (sym is) ∙ here.1.1 in
          ap (λ (x : Answer). x.reply)
          (read-answer s handle 0 read_limit (file_of k pid file.Status) a refl there given)

      was-lent : handle_of s.opens k handle ≡ Some (file_of k pid file.Status) → ((e : Errno) → r ≢ replies.Fail e)
          → lends (record_read status_ranges (bytes_read r)) ≡ true → IsReason k pid s c r Busy
      unfolding bytes_in
      was-lent there granted shown = by (live_process s.system pid) refl
        where
          by : (o : Option TracedProcess) → live_process s.system pid ≡ o → IsReason k pid s c r Busy
          by None none = absurd (granted Noent (reply-is there ∙ status-gone s.system pid none))
          by (Some p) live =
              let same : bytes_read r ≡ part_read (status_bytes (status_of s.system pid p)) 0 read_limit =
              ap bytes_read (reply-is there ∙ status-there s.system pid p live) in
              lent (record {
                handle = handle;
                held = file_of k pid file.Status;
                is_read = is;
                there = there;
                of = refl;
                file = refl;
              }) live
              (lends-lent s.system pid p system range live
              (sym (ap (λ (bs : List ℕ). lends (record_read status_ranges bs)) same) ∙ shown))

    reason-of : (e : Errno) → HasCause k pid e first h → HasReason k pid e first h
    reason-of e it = record {
      before = it.before;
      call = it.call;
      reply = it.reply;
      after = it.after;
      place = it.place;
      earlier = it.earlier;
      reason = by e it.cause;
    }
      where
        by : (d : Errno) → IsCause k pid (state_after first it.before) it.call it.reply d
            → IsReason k pid (state_after first it.before) it.call it.reply d
        by d (by_refusal call is) = by_call call is
        by d (by_status handle is there granted shown) =
            was-lent it.before it.after it.call it.reply it.place handle is there granted shown

-- ---- in the end

-- the text of one that has ended and was refused
line-is : (g : GcoreState) (pid : ℕ) (e : Errno) → g.pid ≡ pid → has_ended g ≡ true → g.refusal ≡ Some e
    → printed g ≡ refusal_line (codes "gcore") pid e
unfolding printed
line-is g pid e its ended was =
    ap (λ (b : Bool). cond b (report g g.refusal) []) ended ∙ ap (report g) was
    ∙ ap (λ (q : ℕ). refusal_line (codes "gcore") q e) its

pub gcore-runs-again : (controllers : List ControllerState) (n k pid : ℕ) (s : TracedState) (h : List Entry)
    (g : GcoreState) → StaysInRange s h → IsRunOf n k (Gcore (first_gcore pid)) controllers s h
    → slice_get (controllers_at controllers h) k ≡ Some (Gcore g) → has_ended g ≡ true → g.refusal ≡ None
    → LeavesItsProcess k pid s h
unfolding Leads
gcore-runs-again controllers n k pid s h g stays run ends ended accepted =
    let kept = on-its-way n k pid s controllers h g stays.lawful run ends in
    leaves n k pid g.stood s h stays run.legal
    (subst (Leads n k pid s h (state_after s h) g) (ended-closes g ended) (kept.leads accepted))

pub gcore-takes-back : (controllers : List ControllerState) (n k pid : ℕ) (s : TracedState) (h : List Entry)
    (g : GcoreState) → IsLawful s → IsRunOf n k (Gcore (first_gcore pid)) controllers s h
    → slice_get (controllers_at controllers h) k ≡ Some (Gcore g) → has_ended g ≡ true → IsSome g.refusal
    → asks_still false (exchanges k h) ≡ false
unfolding AtStage
gcore-takes-back controllers n k pid s h g lawful run ends ended was =
    let kept = on-its-way n k pid s controllers h g lawful run ends in
    (subst (AtStage (is_some g.refusal) (asks_still false (exchanges k h))) (ended-closes g ended) kept.asked) was

pub gcore-tells-why : (controllers : List ControllerState) (n k pid : ℕ) (s : TracedState) (h : List Entry)
    (g : GcoreState) (e : Errno) → StaysInRange s h → IsRunOf n k (Gcore (first_gcore pid)) controllers s h
    → slice_get (controllers_at controllers h) k ≡ Some (Gcore g) → has_ended g ≡ true → g.refusal ≡ Some e
    → TellsWhy k pid e s h (printed g)
gcore-tells-why controllers n k pid s h g e stays run ends ended was =
    let kept = on-its-way n k pid s controllers h g stays.lawful run ends in
    record {
      line = line-is g pid e kept.its ended was;
      reason =
          reason-of n k pid s h stays.lawful stays.in_range stays.bytes run.legal e
          (subst (CauseOf n k pid s h) was kept.why.caused);
    }

pub gcore-makes-calls : (controllers : List ControllerState) (n k pid : ℕ) (s : TracedState) (h : List Entry)
    (g : GcoreState) → IsLawful s → IsRunOf n k (Gcore (first_gcore pid)) controllers s h
    → slice_get (controllers_at controllers h) k ≡ Some (Gcore g) → MakesGcoreCalls k pid s h
gcore-makes-calls controllers n k pid s h g lawful run ends =
    (on-its-way n k pid s controllers h g lawful run ends).makes
