use Rattle.std.proofs.Common.{◌≡◌, ◌≢◌, ◌==◌, ◌⊎◌, ℕ, Bool, true, false, cond, Some, List, [], Ok, Err, map, refl, sym, subst, ap, ◌∙◌, inl, inr}
use Rattle.std.proofs.lemmas.Bool.{cases_eq, eqb-false, eqb-true, false≢true}
use Rattle.std.proofs.lemmas.Option.{none-some, same_Some}
use Rattle.pr_model.specs.Calls.{Answer, answer_to, controlled}
use Rattle.pr_model.specs.ControlMessages.{aim_of, decoded_answer, system_refusal, tail_of, targeted_answer}
use Rattle.pr_model.specs.Handles.{handle_of}
use Rattle.pr_model.specs.Lawful.{IsLawful}
use Rattle.pr_model.specs.Messages.{message_answer, refused, with_control, without_modes}
use Rattle.pr_model.specs.Replies.{number_of}
use Rattle.pr_model.specs.State.{TracedProcess, TracedState, live_process}
use Rattle.pr_model.specs.declared.calls.Call.{Call}
use Rattle.pr_model.specs.declared.calls.Call.TheVariants as call
use Rattle.pr_model.specs.declared.calls.File.{File}
use Rattle.pr_model.specs.declared.calls.File.TheVariants.{Ctl}
use Rattle.pr_model.specs.declared.calls.Mode.{Mode}
use Rattle.pr_model.specs.declared.calls.Mode.TheVariants.{WriteExcl}
use Rattle.pr_model.specs.declared.handles.Held.{Held}
use Rattle.pr_num.specs.Control.{fork_mode, rlc_mode}
use Rattle.pr_num.specs.Messages.{first_message, spelling}
use Rattle.pr_num.specs.declared.messages.Message.TheVariants as message
use Rattle.pr_truss.specs.Messages.{message_call}
use Rattle.pr_truss.specs.NextCalls.{call_of, child_call, freeing_call, next_call_of, open_control, opening_call, read_record, run_call}
use Rattle.pr_truss.specs.Processes.{last_handle}
use Rattle.pr_truss.specs.Trusses.{TrussState, traced_at}
use Rattle.pr_truss.specs.declared.processes.Traced.{Traced}
use Rattle.pr_truss.specs.declared.stages.FreeingStep.{FreeingStep}
use Rattle.pr_truss.specs.declared.stages.FreeingStep.TheVariants as freeing
use Rattle.pr_truss.specs.declared.stages.Stage.{Stage}
use Rattle.pr_truss.specs.declared.stages.Stage.TheVariants.{Spawning, OpeningControl, Opening, Polling, ReadingStatus, ReadingText, OpeningChildControl, OpeningChild, Running, Closing, Unfollowing, ReadingLwps, FreeingChild, Finished}
use Rattle.pr_truss_laws.proofs.Machine.ForeignLemmas.{names}
use Rattle.pr_truss_laws.proofs.Files.OpensLemmas.{held_by}
use Rattle.pr_truss_laws.proofs.Machine.OutlastLemmas.{own-call-elsewhere}
use Rattle.pr_truss_laws.proofs.Files.OwnLemmas.{Owns}
use Rattle.pr_truss_laws.proofs.Machine.StillLemmas.{live-changed}
use Rattle.pr_truss_laws.proofs.Machine.TakenLemmas.{Read, ReadsAs, ctl-is}
use Rattle.pr_truss_laws.specs.Stills.{IsHalting}
use Rattle.pr_report_laws.proofs.Machine.ControlLaws.{unfollow-reads}
use Rattle.pr_report_laws.proofs.Files.FileLaws.{HasFiles, IsFileOf}
use Rattle.pr_report_laws.proofs.Files.FileUses as uses
use Rattle.pr_report_laws.proofs.Files.FileUses.{freed_control, stage_place}
use Rattle.pr_truss_laws.proofs.Machine.FrameLemmas.{memory-self}
use Rattle.pr_truss_laws.proofs.Machine.HaltLemmas.{HaltsOn, goes_on, outlasts-halts}
use Rattle.pr_report_laws.proofs.Invariant.OwnCalls.{Misses}
use Rattle.pr_report_laws.proofs.Invariant.OwnChild.{child-names}
use Rattle.pr_report_laws.proofs.Replies.OwnOpens.{step-names}
use Rattle.pr_report_laws.proofs.Invariant.Standing.{has_read}
use Rattle.pr_report_laws.specs.Watching.{is_away, place_of}

-- The calls of truss leave a process as it halts that it watches and whose stop it has not read.

-- ---- the message by which its children are no longer followed

module _ (s : TracedState) (k m : ℕ) (h : Held) (held : handle_of s.opens k m ≡ Some h) (control : h.file ≡ Ctl)
    (p : TracedProcess) (live : live_process s.system h.pid ≡ Some p) (halting : IsHalting p) (a : Answer) where
  abbrev bytes : List ℕ
  bytes = spelling (message.Unset fork_mode) []

  same-halts : live_process a.state.system h.pid ≡ live_process s.system h.pid → HaltsOn h.pid p a.state.system
  same-halts same = goes_on p (same ∙ live) halting (memory-self p)

  set-halts : (len : ℕ)
      → a ≡ controlled s
      (message_answer s.system h.pid p (aim_of h) (message.Unset fork_mode)
      (tail_of (message.Unset fork_mode) bytes) len) → HaltsOn h.pid p a.state.system
  unfolding message_answer with_control
  set-halts len is =
      goes_on (with_control (without_modes fork_mode) p)
      (ap (λ (x : Answer). live_process x.state.system h.pid) is
      ∙ live-changed s.system h.pid (with_control (without_modes fork_mode)) p live refl)
      (record { each = halting.each }) (record { own = λ lent_nothing. (lent_nothing, refl) })

  unfollow-halts : answer_to s k (message_call m (message.Unset fork_mode)) ≡ Some a → HaltsOn h.pid p a.state.system
  unfollow-halts is =
      by-read (first_message bytes) unfollow-reads (ctl-is s k m h held control bytes a is
      ∙ ap (λ o. controlled s (targeted_answer s.system h o bytes)) live)
    where
      by-process : (len : ℕ) (b : Bool)
          → a ≡ controlled s
          (cond b (refused s.system (system_refusal (message.Unset fork_mode)))
          (message_answer s.system h.pid p (aim_of h) (message.Unset fork_mode)
          (tail_of (message.Unset fork_mode) bytes) len)) → HaltsOn h.pid p a.state.system
      by-process len true it = same-halts (ap (λ (x : Answer). live_process x.state.system h.pid) it)
      by-process len false it = set-halts len it

      by-read : (r : Read) → ReadsAs (message.Unset fork_mode) r
          → a ≡ controlled s (decoded_answer s.system h p bytes r) → HaltsOn h.pid p a.state.system
      by-read (Err fault) same it = same-halts (ap (λ (x : Answer). live_process x.state.system h.pid) it)
      by-read (Ok first) same it =
          by-process first.1 (h.pid == 0) (it
          ∙ ap (λ n. controlled s (decoded_answer s.system h p bytes (Ok (n, first.1)))) same)

-- ---- every call

module _ (k : ℕ) (t : TrussState) (s : TracedState) (c : Call) (a : Answer) (lawful : IsLawful s) (owns : Owns k t s)
    (files : HasFiles k t s) (next : next_call_of t ≡ Some c) (answer : answer_to s k c ≡ Some a) (pid place : ℕ)
    (at : place_of t pid ≡ Some place) (here : is_away t.leaving t.stage place ≡ false)
    (unread : has_read t.stage place ≡ false) where
  -- the call that a stage makes
  call-is : (stage : Stage) (d : Call) → t.stage ≡ stage → call_of t stage ≡ Some d → c ≡ d
  unfolding next_call_of
  call-is stage d is makes = same_Some c d (sym next ∙ ap (call_of t) is ∙ makes)

  named-by : (d : Call) → c ≡ d → (m : ℕ) → names c m ≡ true → names d m ≡ true
  named-by d same m named = sym (ap (λ x. names x m) same) ∙ named

  -- a call that names no handle
  plain : (d : Call) → c ≡ d → ((m : ℕ) → names d m ≡ false) → Misses k pid s c
  plain d same none = record { each = λ m g named held. absurd (false≢true (sym (none m) ∙ named-by d same m named)) }

  -- a call that names the handle of a file of another process
  misses-of : (number owner : ℕ) (f : File) (mode : Mode) → IsFileOf k s owner number f mode → owner ≢ pid
      → ((m : ℕ) → names c m ≡ true → number ≡ m) → Misses k pid s c
  misses-of number owner f mode its other only = record {
    each =
        λ m g named held same. other (sym (ap (λ (h : Held). h.pid) (same_Some g _ (sym held
        ∙ ap (handle_of s.opens k) (sym (only m named)) ∙ its.is))) ∙ same);
  }

  -- a call to the control file of a process at another place
  misses-at : (other : ℕ) → stage_place t.stage ≡ Some other → other ≢ place
      → ((m : ℕ) → names c m ≡ true → (traced_at t other).control ≡ m) → Misses k pid s c
  misses-at other is apart only =
      let own = uses.stage-control k t s files owns.fits other is in
      misses-of (traced_at t other).control (traced_at t other).pid Ctl WriteExcl own.1
      (uses.other-place k t s pid place other files at own.0 apart) only

  away-apart : (stage : Stage) (other : ℕ) → t.stage ≡ stage → is_away t.leaving stage place ≡ (other == place)
      → other ≢ place
  away-apart stage other is away =
      eqb-false other place (sym away ∙ ap (λ x. is_away t.leaving x place) (sym is) ∙ here)

  -- the control file of a child that is set free is of no process that truss watches
  freed : (child control : ℕ) (step : FreeingStep) → t.stage ≡ FreeingChild child step
      → freed_control step ≡ Some control → ((m : ℕ) → names c m ≡ true → control ≡ m) → Misses k pid s c
  freed child control step is its only =
      misses-of control child Ctl WriteExcl (uses.freed-file k t s files child control step is its)
      (λ same. none-some place (sym (ap (place_of t) (sym same)
      ∙ uses.freed-apart k t s files child control step owns lawful.exclusive is its) ∙ at)) only

  freed-misses : (child : ℕ) (step : FreeingStep) → t.stage ≡ FreeingChild child step → Misses k pid s c
  unfolding call_of freeing_call
  freed-misses child freeing.OpenControl is =
      plain (open_control child) (call-is (FreeingChild child freeing.OpenControl) (open_control child) is refl)
      (λ m. refl)
  freed-misses child (freeing.SetRelease control) is =
      let same =
      call-is (FreeingChild child (freeing.SetRelease control))
      (message_call control (message.Set rlc_mode)) is refl in
      freed child control (freeing.SetRelease control) is refl
      (λ m named. eqb-true control m (named-by (message_call control (message.Set rlc_mode)) same m named))
  freed-misses child (freeing.Close control) is =
      let same = call-is (FreeingChild child (freeing.Close control)) (call.Close control) is refl in
      freed child control (freeing.Close control) is refl
      (λ m named. eqb-true control m (named-by (call.Close control) same m named))

  -- Only one call of truss writes to such a process: that by which its children are no longer followed.
  reaches : (stage : Stage) → t.stage ≡ stage → Misses k pid s c ⊎ (t.stage ≡ Unfollowing)
  unfolding next_call_of call_of
  reaches (Spawning program) is =
      inl (plain (call.Spawn program true) (call-is (Spawning program) (call.Spawn program true) is refl) (λ m. refl))
  reaches (OpeningControl of) is =
      inl (plain (open_control of) (call-is (OpeningControl of) (open_control of) is refl) (λ m. refl))
  reaches (Opening other step) is =
      let same = call-is (Opening other step) (opening_call t.options (traced_at t other) step) is refl in
      inl (misses-at other (ap stage_place is) (away-apart (Opening other step) other is refl)
      (λ m named. step-names t.options (traced_at t other) step m
      (named-by (opening_call t.options (traced_at t other) step) same m named)))
  reaches Polling is =
      let handles : List ℕ = map (λ (x : Traced). x.control) t.traced in
      inl (plain (call.Poll handles) (call-is Polling (call.Poll handles) is refl) (λ m. refl))
  reaches (ReadingStatus other) is =
      inl (plain (read_record (traced_at t other).status)
      (call-is (ReadingStatus other) (read_record (traced_at t other).status) is refl) (λ m. refl))
  reaches (ReadingText other l from len) is =
      let d : Call = call.Read (number_of (traced_at t other).memory) from len in
      inl (plain d (call-is (ReadingText other l from len) d is refl) (λ m. refl))
  reaches (OpeningChildControl parent of) is =
      inl (plain (open_control of) (call-is (OpeningChildControl parent of) (open_control of) is refl) (λ m. refl))
  reaches (OpeningChild parent other step) is =
      let same = call-is (OpeningChild parent other step) (child_call (traced_at t other) step) is refl in
      inl (misses-at other (ap stage_place is) (away-apart (OpeningChild parent other step) other is refl)
      (λ m named. child-names (traced_at t other) step m
      (named-by (child_call (traced_at t other) step) same m named)))
  reaches (Running other) is =
      let same = call-is (Running other) (run_call (traced_at t other).control) is refl in
      inl (misses-at other (ap stage_place is) (eqb-false other place (ap (λ x. has_read x place) (sym is)
      ∙ unread))
      (λ m named. eqb-true (traced_at t other).control m
      (named-by (run_call (traced_at t other).control) same m named)))
  reaches (Closing other after) is =
      let same = call-is (Closing other after) (call.Close (last_handle (traced_at t other))) is refl in
      let within = (uses.stage-control k t s files owns.fits other (ap stage_place is)).0 in
      let f = uses.closed-file k t s files other within in
      inl (misses-of (last_handle (traced_at t other)) (traced_at t other).pid f.file f.mode f.is
      (uses.other-place k t s pid place other files at within (away-apart (Closing other after) other is refl))
      (λ m named. eqb-true (last_handle (traced_at t other)) m
      (named-by (call.Close (last_handle (traced_at t other))) same m named)))
  reaches Unfollowing is = inr is
  reaches ReadingLwps is =
      inl (plain (read_record (traced_at t 0).lstatus)
      (call-is ReadingLwps (read_record (traced_at t 0).lstatus) is refl) (λ m. refl))
  reaches (FreeingChild child step) is = inl (freed-misses child step is)
  reaches Finished is = absurd (none-some c (sym (ap (call_of t) is) ∙ next))

  module _ (p : TracedProcess) (live : live_process s.system pid ≡ Some p) (halting : IsHalting p) where
    missed-halts : Misses k pid s c → HaltsOn pid p a.state.system
    missed-halts misses =
        outlasts-halts pid p a.state.system halting (own-call-elsewhere s k pid c a p lawful misses.each answer live)

    unfollowed-halts : t.stage ≡ Unfollowing → HaltsOn pid p a.state.system
    unfolding call_of
    unfollowed-halts is = by (cases_eq (traced_at t 0).pid pid)
      where
        same : c ≡ message_call (traced_at t 0).control (message.Unset fork_mode)
        same = call-is Unfollowing (message_call (traced_at t 0).control (message.Unset fork_mode)) is refl

        own : IsFileOf k s (traced_at t 0).pid (traced_at t 0).control Ctl WriteExcl
        own = (uses.stage-control k t s files owns.fits 0 (ap stage_place is)).1

        by : ((traced_at t 0).pid ≡ pid) ⊎ ((traced_at t 0).pid ≢ pid) → HaltsOn pid p a.state.system
        by (inr other) =
            missed-halts
            (misses-of (traced_at t 0).control (traced_at t 0).pid Ctl WriteExcl own other
            (λ m named. eqb-true (traced_at t 0).control m
            (named-by (message_call (traced_at t 0).control (message.Unset fork_mode)) same m named)))
        by (inl mine) =
            let held : handle_of s.opens k (traced_at t 0).control ≡ Some (held_by k pid 0 Ctl WriteExcl) =
            own.is ∙ ap (λ of. Some (held_by k of 0 Ctl WriteExcl)) mine in
            unfollow-halts s k (traced_at t 0).control (held_by k pid 0 Ctl WriteExcl) held refl p live halting a
            (subst (λ x. answer_to s k x ≡ Some a) same answer)

    -- where each lwp of the process stands still or will stop
    pub own-halts : HaltsOn pid p a.state.system
    own-halts = by (reaches t.stage refl)
      where
        by : Misses k pid s c ⊎ (t.stage ≡ Unfollowing) → HaltsOn pid p a.state.system
        by (inl misses) = missed-halts misses
        by (inr is) = unfollowed-halts is
