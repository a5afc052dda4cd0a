use Rattle.std.proofs.Common.{◌≡◌, ◌≢◌, ◌<◌, ◌⊎◌, ℕ, Bool, true, false, cond, is_some, nat_lt, IfOk, Ok, Err, Option, Some, None, List, [], length, Result, refl, sym, subst, ap, ◌∙◌, inl, inr, ◌||◌}
use Rattle.std.proofs.lemmas.Bool.{cases_eq, false≢true}
use Rattle.std.proofs.lemmas.Option.{none-some, same_Some}
use Rattle.std.proofs.lemmas.Result.{IfOk-weaker}
use Rattle.pr_lawful.proofs.ProcessParts.HandleLemmas.{handle-at, handle-writer}
use Rattle.pr_lawful.proofs.Following.UseLemmas.{live-lawful}
use Rattle.pr_line.specs.declared.options.Options.{Options}
use Rattle.pr_model.specs.Calls.{Answer, answer_to}
use Rattle.pr_model.specs.Handles.{handle_of, has_writer}
use Rattle.pr_model.specs.Lawful.{IsLawful}
use Rattle.pr_model.specs.Replies.{handle_in}
use Rattle.pr_model.specs.State.{TracedProcess, TracedState, TracedSystem, live_process}
use Rattle.pr_model.specs.Stops.{is_stopped}
use Rattle.pr_model.specs.declared.calls.Call.{Call}
use Rattle.pr_model.specs.declared.calls.Call.TheVariants as call
use Rattle.pr_model.specs.declared.calls.File.{File}
use Rattle.pr_model.specs.declared.calls.File.TheVariants as file
use Rattle.pr_model.specs.declared.calls.Mode.{Mode}
use Rattle.pr_model.specs.declared.calls.Mode.TheVariants.{WriteExcl}
use Rattle.pr_model.specs.declared.calls.Reply.{Reply}
use Rattle.pr_model.specs.declared.calls.Reply.TheVariants as reply
use Rattle.pr_model.specs.declared.handles.Held.{Held}
use Rattle.pr_num.specs.Limits.{instruction_size}
use Rattle.pr_num.specs.Messages.{first_message, message_code, message_read, nth_word, operands, spelling, two_words, ◌>>=◌}
use Rattle.pr_num.specs.Words.{word_bytes, word_of}
use Rattle.pr_num.specs.declared.messages.Message.{Message}
use Rattle.pr_num.specs.declared.messages.Message.TheVariants as message
use Rattle.pr_num.specs.declared.messages.MsgFault.{MsgFault}
use Rattle.pr_reached.specs.Reached.{IsReached}
use Rattle.pr_report_laws.proofs.Invariant.PollSteps.{Names, named-control, named-within}
use Rattle.pr_report_laws.proofs.Invariant.StandLemmas.{Each, EachBut}
use Rattle.pr_report_laws.proofs.Machine.PollLaws.{poll-ready, poll-stays}
use Rattle.pr_report_laws.proofs.Machine.StoppedLaws.{stopped-frozen}
use Rattle.pr_report_laws.proofs.Releasing.ReleaseStays.{not-allowed}
use Rattle.pr_truss.specs.FunctionCalls.{call_beside, function_call_of, next_function_call_of, patch_call}
use Rattle.pr_truss.specs.FunctionFeeding.{fed_functions}
use Rattle.pr_truss.specs.Marks.{address_of, breakpoint, code_of, first_function, has_functions}
use Rattle.pr_truss.specs.NextCalls.{call_of, next_call_of, opening_call}
use Rattle.pr_truss.specs.Processes.{last_handle, newly_traced, without_last}
use Rattle.pr_truss.specs.Replies.{answer_of, ready_in}
use Rattle.pr_truss.specs.Trusses.{TrussState, traced_at}
use Rattle.pr_truss.specs.declared.asides.Aside.{Aside}
use Rattle.pr_truss.specs.declared.asides.Aside.TheVariants.{Nothing, Reading, Planting, Patching}
use Rattle.pr_truss.specs.declared.processes.Traced.{Traced}
use Rattle.pr_truss.specs.declared.replies.Answer.TheVariants.{Accepted, Interrupted}
use Rattle.pr_truss.specs.declared.stages.AfterClosing.TheVariants.{OpenNext, GoOn}
use Rattle.pr_truss.specs.declared.stages.OpeningStep.{OpeningStep}
use Rattle.pr_truss.specs.declared.stages.OpeningStep.TheVariants as opening
use Rattle.pr_truss.specs.declared.stages.Stage.{Stage}
use Rattle.pr_truss.specs.declared.stages.Stage.TheVariants.{Spawning, OpeningControl, Opening, Polling, ReadingStatus, ReadingText, Running, Closing, Finished}
use Rattle.pr_truss_laws.proofs.Files.HeldLemmas.{at_place}
use Rattle.pr_truss_laws.proofs.Files.OpensLemmas.{held_by}
use Rattle.pr_truss_laws.proofs.Machine.OutlastLemmas.{own-call-elsewhere}
use Rattle.pr_truss_laws.proofs.Machine.TakenLemmas.{read-as}
use Rattle.pr_truss_laws.specs.Stills.{IsFrozen}
use Rattle.pr_function_laws.proofs.Stepping.BreakpointLemmas.{write-reads}
use Rattle.pr_function_laws.proofs.Marks.KeptLemmas.{fed-kept}
use Rattle.pr_function_laws.proofs.OpenedProcesses.OpenedLemmas.{BeginWithPlain, Holds, IsFile, control-made, control-sole, elsewhere-goes, holds-less, is_plain, last-own, left-holds, new-file, opened_call, opening-goes, plain-goes, run-plain, LeftFiles}
use Rattle.pr_function_laws.proofs.Stepping.StretchLemmas as stretch
use Rattle.pr_function_laws.specs.Lifted.{HasControl}
use Rattle.pr_function_laws.specs.Stretches.{acts_by, is_write}
use Rattle.pr_function_laws.proofs.OpenedProcesses.StoodCalls.{BeginLeavingLwps, leaves-stands, leaves_lwps, opening-stands, run-stands}
use Rattle.pr_function_laws.proofs.Marks.KeptPlaces.{AfterBeside, AfterStage, AtAside, AtPlace, AtStage, IsLasting, Kept, LeftHas, Whole, apart-at, Position, closes, looks, opens, position_after, rests, runs, to_read}
use Rattle.pr_function_laws.proofs.OpenedProcesses.StoodLemmas.{StandsSo, alone-at, prepared-plants, stood-counts, stood-meets, stood-plants, stood-runs}
use Rattle.pr_report_laws.proofs.Invariant.OtherSteps.{lives-later}
use Rattle.pr_truss.specs.Openings.{learnt, step_after}
use Rattle.pr_truss.specs.Messages.{message_call}

-- What is so of each process of a truss with functions stays so with each of its calls.

-- ---- the messages by which truss reads and writes memory

abbrev Parsed : Type 0
Parsed = Result (Message × ℕ) MsgFault

abbrev is_read : Message → Bool
is_read (message.Read at size) = true
is_read _ = false

pub write-as : (P : Message → Bool) → ((at size : ℕ) → P (message.Write at size) ≡ true) → (at size : ℕ) (code : List ℕ)
    → IfOk (first_message (spelling (message.Write at size) code)) (λ f. P f.0 ≡ true)
write-as P all at size code =
    IfOk-weaker (first_message (spelling (message.Write at size) code)) _ _ (λ f is. by f.0 is)
    (write-reads at size code)
  where
    by : (m : Message) → is_write m ≡ true → P m ≡ true
    by (message.Write at size) is = all at size
    by _ is = absurd (false≢true is)

read-code : (at size : ℕ) → nth_word (spelling (message.Read at size) []) 0 ≡ 22
unfolding message_code operands nth_word word_bytes word_of
read-code at size = refl

read-long : (at size : ℕ) → nat_lt (length (spelling (message.Read at size) [])) 8 ≡ false
unfolding message_code operands word_bytes
read-long at size = refl

parsed-as : (bytes : List ℕ) → nth_word bytes 0 ≡ 22 → (r : Result (ℕ × ℕ) MsgFault) → two_words bytes ≡ r
    → message_read (nth_word bytes 0) bytes
    ≡ (r >>= λ w. let ok : Result Message MsgFault = Ok (message.Read w.0 w.1) in ok)
unfolding message_read
parsed-as bytes code r is =
    ap (λ c. message_read c bytes) code
    ∙ ap (λ (q : Result (ℕ × ℕ) MsgFault). q >>= λ w.
    let ok : Result Message MsgFault = Ok (message.Read w.0 w.1) in ok) is

read-begins : (bytes : List ℕ) → nat_lt (length bytes) 8 ≡ false → nth_word bytes 0 ≡ 22
    → IfOk (first_message bytes) (λ f. is_read f.0 ≡ true)
unfolding first_message
read-begins bytes long code = by (two_words bytes) refl
  where
    by : (r : Result (ℕ × ℕ) MsgFault) → two_words bytes ≡ r → IfOk (first_message bytes) (λ f. is_read f.0 ≡ true)
    by (Ok w) is =
        IfOk-weaker (first_message bytes) _ _ (λ f same. ap is_read same)
        (read-as bytes (message.Read w.0 w.1) long (parsed-as bytes code (Ok w) is))
    by (Err f) is =
        let read : message_read (nth_word bytes 0) bytes ≡ Err f = parsed-as bytes code (Err f) is in
        let same : first_message bytes ≡ Err f = rw (long, read) refl in
        subst (λ (r : Parsed). IfOk r (λ first. is_read first.0 ≡ true)) (sym same) tt

read-as-is : (P : Message → Bool) → ((at size : ℕ) → P (message.Read at size) ≡ true) → (at size : ℕ)
    → IfOk (first_message (spelling (message.Read at size) [])) (λ f. P f.0 ≡ true)
read-as-is P all at size =
    IfOk-weaker (first_message (spelling (message.Read at size) [])) _ _ (λ f is. by f.0 is)
    (read-begins (spelling (message.Read at size) []) (read-long at size) (read-code at size))
  where
    by : (m : Message) → is_read m ≡ true → P m ≡ true
    by (message.Read at size) is = all at size
    by _ is = absurd (false≢true is)

-- bytes begin with no message that sets anything, or that runs an lwp or clears a fault
abbrev pub IsMild : List ℕ → Type 0
IsMild bytes = BeginWithPlain bytes × BeginLeavingLwps bytes

pub write-mild : (at size : ℕ) (code : List ℕ) → IsMild (spelling (message.Write at size) code)
write-mild at size code =
    (write-as is_plain (λ at size. refl) at size code, write-as leaves_lwps (λ at size. refl) at size code)

pub read-mild : (at size : ℕ) → IsMild (spelling (message.Read at size) [])
read-mild at size = (read-as-is is_plain (λ at size. refl) at size, read-as-is leaves_lwps (λ at size. refl) at size)

-- ---- what is so of a process

-- by where truss has come with it
abbrev pub step_of : Position → Option OpeningStep
step_of (opens step) = Some step
step_of rests = None
step_of to_read = None
step_of looks = None
step_of runs = None
step_of closes = Some opening.OpenStatus

-- Truss has its files and has set what it sets on it; and, where the machine reaches such states, the process stands
-- so.
pub record IsSo (Reached : Type 0) (k : ℕ) (o : Options) (s : TracedState) (at : Position) (v : Traced) : Type 0 where
  pub holds : Holds k o s (step_of at) v.pid v.control v.status v.lstatus v.memory
  pub stands : Reached → StandsSo s at v

module _ (Reached : Type 0) (k : ℕ) (o : Options) (s : TracedState) where
  abbrev So : Position → Traced → Type 0
  So at v = IsSo Reached k o s at v

  so-closes : (at : Position) (v : Traced) → So at v → So closes v
  so-closes at v h = record {
    holds = holds-less k o s (step_of at) _ _ _ _ _ h.holds;
    stands = λ r. record { prepared = tt; stood = λ p live. tt };
  }

  pub so-lasting : IsLasting (IsSo Reached k o s)
  so-lasting = record {
    may_close = so-closes;
    reads = λ u h g. record {
      holds = g.holds;
      stands = λ r. let w = g.stands r in record { prepared = tt; stood = w.stood };
    };
    may_run = λ u h g. record {
      holds = h.holds;
      stands = λ r.
          let w = h.stands r in
          let v = g.stands r in
          record { prepared = tt; stood = λ p live. stood-runs u p (w.stood p live) (v.stood p live) };
    };
    counts = λ u h g some. record {
      holds = h.holds;
      stands = λ r.
          let w = h.stands r in
          let v = g.stands r in
          record { prepared = tt; stood = λ p live. stood-counts u p (w.stood p live) (v.stood p live) some };
    };
    sees = λ u m g. record {
      holds = g.holds;
      stands = λ r. let v = g.stands r in record { prepared = tt; stood = v.stood };
    };
    meets = λ u m h new. record {
      holds = h.holds;
      stands = λ r.
          let w = h.stands r in record { prepared = tt; stood = λ p live. stood-meets u m p (w.stood p live) new };
    };
    plants = λ at u set h. record {
      holds = h.holds;
      stands = λ r.
          let w = h.stands r in
          record {
            prepared = prepared-plants at u set w.prepared;
            stood = λ p live. stood-plants at u set p (w.stood p live);
          };
    };
    loosens = λ u m h. record {
      holds = h.holds;
      stands = λ r. record { prepared = tt; stood = λ p live. tt };
    };
  }

-- ---- from one state to another

module _ (Reached : Type 0) (k : ℕ) (o : Options) where
  -- what is so of a process stays so
  abbrev pub Stays : TracedState → TracedState → Traced → Type 0
  Stays s u v = (at : Position) → IsSo Reached k o s at v → IsSo Reached k o u at v

  module _ (s u : TracedState) (ts : List Traced) (stays : Each (Stays s u) ts) where
    whole-stays : Whole (IsSo Reached k o s) ts → Whole (IsSo Reached k o u) ts
    whole-stays all q within = stays q within rests (all q within)

    but-stays : (b : ℕ) → EachBut (IsSo Reached k o s rests) ts b → EachBut (IsSo Reached k o u rests) ts b
    but-stays b others q within other = stays q within rests (others q within other)

    place-stays : (q : ℕ) → AtPlace (IsSo Reached k o s) ts q → AtPlace (IsSo Reached k o u) ts q
    place-stays q w = (w.0, (but-stays q w.1.0, stays q w.0 closes w.1.1))

    pub stage-stays : (stage : Stage) → AtStage (IsSo Reached k o s) ts stage → AtStage (IsSo Reached k o u) ts stage
    stage-stays (Spawning program) w = whole-stays w
    stage-stays (OpeningControl pid) w = whole-stays w
    stage-stays (Opening q step) w = (w.0, (but-stays q w.1.0, stays q w.0 (opens step) w.1.1))
    stage-stays Polling w = whole-stays w
    stage-stays (ReadingStatus q) w = (w.0, (whole-stays w.1.0, stays q w.0 to_read w.1.1))
    stage-stays (ReadingText q l from len) w = (w.0, (whole-stays w.1.0, stays q w.0 looks w.1.1))
    stage-stays (Running q) w = (w.0, (but-stays q w.1.0, stays q w.0 runs w.1.1))
    stage-stays (Closing q OpenNext) w = place-stays q w
    stage-stays (Closing q GoOn) w = place-stays q w
    stage-stays Finished w = whole-stays w
    stage-stays _ w = absurd w

    pub aside-stays : (aside : Aside) → AtAside (IsSo Reached k o s) ts aside → AtAside (IsSo Reached k o u) ts aside
    aside-stays Nothing w = tt
    aside-stays (Reading q function) w = place-stays q w
    aside-stays (Planting q function) w = place-stays q w
    aside-stays (Patching q plants lifts clear) w = (place-stays q w.0, w.1)
    aside-stays _ w = absurd w

  -- of each process that truss traces something is so, at the least that its control file is open
  pub lowest : (s : TracedState) (ts : List Traced) (stage : Stage) → AtStage (IsSo Reached k o s) ts stage
      → Each (IsSo Reached k o s closes) ts
  lowest s ts stage w q within = by stage w
    where
      less : (at : Position) → IsSo Reached k o s at (at_place ts q) → IsSo Reached k o s closes (at_place ts q)
      less at h = so-closes Reached k o s at (at_place ts q) h

      beside : (b : ℕ) (at : Position) → EachBut (IsSo Reached k o s rests) ts b
          → IsSo Reached k o s at (at_place ts b) → IsSo Reached k o s closes (at_place ts q)
      beside b at others here = elim (cases_eq q b) [
        | inl same ↦ less at (subst (λ i. IsSo Reached k o s at (at_place ts i)) (sym same) here)
        | inr other ↦ less rests (others q within other)
      ]

      by : (stage : Stage) → AtStage (IsSo Reached k o s) ts stage → IsSo Reached k o s closes (at_place ts q)
      by (Spawning program) w = less rests (w q within)
      by (OpeningControl pid) w = less rests (w q within)
      by (Opening b step) w = beside b (opens step) w.1.0 w.1.1
      by Polling w = less rests (w q within)
      by (ReadingStatus b) w = less rests (w.1.0 q within)
      by (ReadingText b l from len) w = less rests (w.1.0 q within)
      by (Running b) w = beside b runs w.1.0 w.1.1
      by (Closing b OpenNext) w = beside b closes w.1.0 w.1.1
      by (Closing b GoOn) w = beside b closes w.1.0 w.1.1
      by Finished w = less rests (w q within)
      by _ w = absurd w

-- ---- a call of truss

abbrev pub acts_if : Option Call → Option ℕ
acts_if None = None
acts_if (Some d) = acts_by d

-- the handle that a reply finds ready
ready-is : (r : Reply) (m : ℕ) → ready_in r ≡ Some m → r ≡ reply.Ready m
unfolding ready_in
ready-is (reply.Ready x) m ready = ap (λ i. reply.Ready i) (same_Some x m ready)
ready-is _ m ready = absurd (none-some m ready)

-- the handle by which the call of an opening acts, if it acts by one, is that of the control file
pub opened-acts : (o : Options) (v : Traced) (step : OpeningStep)
    → (acts_by (opened_call o v step) ≡ None) ⊎ (acts_by (opened_call o v step) ≡ Some v.control)
unfolding opening_call
opened-acts o v opening.OpenStatus = inl refl
opened-acts o v opening.OpenLstatus = inl refl
opened-acts o v opening.OpenMemory = inl refl
opened-acts o v opening.ClearModes = inr refl
opened-acts o v opening.SetRelease = inr refl
opened-acts o v opening.Stop = inr refl
opened-acts o v (opening.AwaitStop until) = inl refl
opened-acts o v opening.ReadLwps = inl refl
opened-acts o v opening.TraceSignals = inr refl
opened-acts o v opening.TraceFaults = inr refl
opened-acts o v opening.TraceEntries = inr refl
opened-acts o v opening.TraceExits = inr refl
opened-acts o v opening.Follow = inr refl
opened-acts o v opening.Start = inr refl

pub call-is : (t : TrussState) (q : ℕ) (step : OpeningStep)
    → function_call_of t (Opening q step) ≡ Some (opened_call t.options (traced_at t q) step)
unfolding function_call_of call_of
call-is t q opening.TraceSignals = refl
call-is t q opening.TraceFaults = refl
call-is t q opening.TraceEntries = refl
call-is t q opening.TraceExits = refl
call-is t q opening.OpenStatus = refl
call-is t q opening.OpenLstatus = refl
call-is t q opening.OpenMemory = refl
call-is t q opening.ClearModes = refl
call-is t q opening.SetRelease = refl
call-is t q opening.Stop = refl
call-is t q (opening.AwaitStop until) = refl
call-is t q opening.ReadLwps = refl
call-is t q opening.Follow = refl
call-is t q opening.Start = refl

module _ (Reached : Type 0) (n k : ℕ) (s : TracedState) (lawful : IsLawful s) (c : Call) (a : Answer)
    (answer : answer_to s k c ≡ Some a)
    (over : (pid : ℕ) → pid < s.system.made → live_process s.system pid ≡ None
    → live_process a.state.system pid ≡ None) (t : TrussState) (kept : Kept (IsSo Reached k t.options s) t)
    (reached : Reached → IsReached s) where
  abbrev ts : List Traced
  ts = t.traced

  abbrev o : Options
  o = t.options

  abbrev Before : Position → Traced → Type 0
  Before at v = IsSo Reached k t.options s at v

  abbrev Later : Position → Traced → Type 0
  Later at v = IsSo Reached k t.options a.state at v

  abbrev Lasts : Traced → Type 0
  Lasts v = Stays Reached k t.options s a.state v

  -- a call that acts on another process, or on none
  elsewhere : (v : Traced)
      → ((m : ℕ) (held : Held) → acts_by c ≡ Some m → handle_of s.opens k m ≡ Some held → held.pid ≢ v.pid) → Lasts v
  elsewhere v away at h =
      let own = h.holds in
      let made = control-made k v.pid v.control s lawful own.its in
      let sole = control-sole k v.pid v.control s lawful own.its in
      record {
        holds = elsewhere-goes n k o s lawful c a answer over v.pid away (step_of at) _ _ _ _ h.holds;
        stands = λ r.
            let w = h.stands r in
            record {
              prepared = w.prepared;
              stood = λ q later.
                  let was =
                  lives-later o v.pid t s a.state
                  (λ p live. own-call-elsewhere s k v.pid c a p lawful (λ m g named there.
                  away m g (stretch.named-acts n k v.pid 0 v.control s lawful sole made c m named) there) answer live)
                  (over v.pid made) q later in
                  alone-at was.0 q was.1.1 at v (w.stood was.0 was.1.0);
            };
      }

  quiet : acts_by c ≡ None → Each Lasts ts
  quiet none q within =
      elsewhere (at_place ts q) (λ m held acts there. absurd (none-some m (sym none ∙ acts)))

  -- the call acts by a handle of one process alone
  apart-goes : (q : ℕ) → q < length ts → (m : ℕ) (f : File) (mode : Mode) → acts_by c ≡ Some m
      → handle_of s.opens k m ≡ Some (held_by k (at_place ts q).pid 0 f mode) → EachBut Lasts ts q
  apart-goes q within m f mode acts there i inside other =
      elsewhere (at_place ts i) (λ j held its at same.
      let one : m ≡ j = same_Some m j (sym acts ∙ its) in
      let own : (at_place ts q).pid ≡ held.pid =
      ap (λ (x : Held). x.pid)
      (same_Some (held_by k (at_place ts q).pid 0 f mode) held (sym there ∙ ap (handle_of s.opens k) one ∙ at)) in
      apart-at ts i q inside within other (let w = kept in w.apart) (sym same ∙ sym own))

  -- a message to one process that leaves what is set, and its lwps
  mild-each : (q : ℕ) → q < length ts → HasControl k (at_place ts q).pid (at_place ts q).control s
      → (bytes : List ℕ) → c ≡ call.Ctl (at_place ts q).control bytes → IsMild bytes → Each Lasts ts
  mild-each q within its bytes is begins i inside at h = elim (cases_eq i q) [
    | inl same ↦ subst (λ j. Later at (at_place ts j)) (sym same)
        (own (subst (λ j. Before at (at_place ts j)) same h))
    | inr other ↦ apart-goes q within (at_place ts q).control file.Ctl WriteExcl (ap acts_by is) its i inside other
        at h
  ]
    where
      own : Before at (at_place ts q) → Later at (at_place ts q)
      own b = record {
        holds = plain-goes n k o s lawful c a answer over (at_place ts q).pid (at_place ts q).control bytes is its
            begins.0 (step_of at) _ _ _ b.holds;
        stands = λ r. leaves-stands n k o s lawful c a answer over (at_place ts q) bytes is its begins.1 at (b.stands
            r);
      }

  -- ---- the call of a stage

  abbrev After : Stage → Type 0
  After stage = AfterStage (IsSo Reached k t.options a.state) t a.reply stage

  -- the open of a control file
  new-control : (pid : ℕ) → c ≡ call.Open pid 0 file.Ctl WriteExcl → answer_of a.reply ≡ Accepted
      → Each (Before closes) ts
      → Later (opens opening.OpenStatus) (newly_traced pid (handle_in a.reply))
      × Each (λ (u : Traced). u.pid ≢ pid) ts
  unfolding newly_traced
  new-control pid is accepted all =
      let new = new-file n k o s lawful c a answer over pid file.Ctl WriteExcl is accepted in (
        record {
          holds = record {
            its = new.there;
            its_status = λ m at. absurd (none-some m at);
            its_lstatus = λ m at. absurd (none-some m at);
            its_memory = λ m at. absurd (none-some m at);
            known = tt;
            set = λ p live. tt;
          };
          stands = λ r. record { prepared = (refl, tt); stood = λ p live. tt };
        },
        λ q within same.
            let h = all q within in
            let held = h.holds in
            let own = new.opened in
            not-allowed s pid
            (subst (λ i. has_writer i s.opens ≡ true) same
            (handle-writer s.opens (at_place ts q).control (held_by k (at_place ts q).pid 0 file.Ctl WriteExcl)
            lawful.fitting (handle-at s.opens k (at_place ts q).control _ held.its) refl)) own.allowed,
      )

  opening-after : (q : ℕ) (step : OpeningStep) → c ≡ opened_call o (at_place ts q) step
      → AtStage (IsSo Reached k t.options s) ts (Opening q step) → After (Opening q step)
  opening-after q step is w =
      let v : Traced = at_place ts q in
      let here : Before (opens step) v = w.1.1 in
      let held = here.holds in
      let follow : o.follow ≡ false = (let e = kept in e.follow) in
      let own = opening-goes n k o s lawful c a answer over v step is follow here.holds in
      let others : EachBut Lasts ts q =
      elim (opened-acts o v step) [
        | inl none ↦ (λ i inside other. quiet (ap acts_by is ∙ none) i inside)
        | inr acts ↦ apart-goes q w.0 v.control file.Ctl WriteExcl (ap acts_by is ∙ acts) held.its
      ] in (
        w.0,
        (
          (λ i inside other. others i inside other rests (w.1.0 i inside other)),
          (
            record {
              holds = holds-less k o a.state (Some step) _ _ _ _ _ own.0;
              stands = λ r. record { prepared = tt; stood = λ p live. tt };
            },
            λ accepted. next-so v step is held.its held.its_lstatus follow here.stands accepted (own.1 accepted),
          ),
        ),
      )
    where
      at-step : (v : Traced) (x : Option OpeningStep) → Holds k o a.state x v.pid v.control v.status v.lstatus v.memory
          → (Reached → StandsSo a.state (position_after x) v) → Later (position_after x) v
      at-step v None holds stands = record { holds = holds; stands = stands }
      at-step v (Some step) holds stands = record { holds = holds; stands = stands }

      next-so : (v : Traced) (step : OpeningStep) → c ≡ opened_call o v step → HasControl k v.pid v.control s
          → ((m : ℕ) → v.lstatus ≡ Some m → IsFile k v.pid file.Lstatus m s) → o.follow ≡ false
          → (Reached → StandsSo s (opens step) v) → answer_of a.reply ≡ Accepted
          → (let u : Traced = learnt v a.reply step in
          Holds k o a.state (step_after o a.reply step) u.pid u.control u.status u.lstatus u.memory)
          → Later (position_after (step_after o a.reply step)) (learnt v a.reply step)
      next-so v step is its lwps follow stands accepted holds =
          at-step (learnt v a.reply step) (step_after o a.reply step) holds
          (λ r. opening-stands n k o s lawful c a answer over (reached r) v step its lwps is follow accepted (stands r))

  closing-after : (q : ℕ) → c ≡ call.Close (last_handle (at_place ts q)) → AtPlace (IsSo Reached k t.options s) ts q
      → (q < length ts)
      × (EachBut (Later rests) ts q
      × LeftHas (IsSo Reached k t.options a.state) (without_last (at_place ts q)) (at_place ts q).pid)
  closing-after q is w =
      let here : Before closes (at_place ts q) = w.1.1 in
      let last = last-own n k o s lawful c a answer over (at_place ts q) here.holds in (
        w.0,
        (
          (λ i inside other.
              apart-goes q w.0 (last_handle (at_place ts q)) last.its_file last.its_mode (ap acts_by is) last.there i
              inside other rests (w.1.0 i inside other)),
          left-so (without_last (at_place ts q)) (at_place ts q).pid
              (left-holds n k o s lawful c a answer over (at_place ts q) is here.holds),
        ),
      )
    where
      left-so : (x : Option Traced) (pid : ℕ) → LeftFiles (Holds k o a.state) x pid
          → LeftHas (IsSo Reached k t.options a.state) x pid
      left-so None pid w = tt
      left-so (Some v) pid w = (
        record { holds = w.0; stands = λ r. record { prepared = tt; stood = λ p live. tt } },
        w.1,
      )

  -- PCRUN
  running-after : (q : ℕ) → c ≡ message_call (at_place ts q).control (message.Run (at_place ts q).marks.flags)
      → AtStage (IsSo Reached k t.options s) ts (Running q) → After (Running q)
  running-after q is w =
      let v : Traced = at_place ts q in
      let here : Before runs v = w.1.1 in
      let held = here.holds in
      let ran =
      plain-goes n k o s lawful c a answer over v.pid v.control (spelling (message.Run v.marks.flags) []) is held.its
      (run-plain v.marks.flags) None _ _ _ here.holds in (
        w.0,
        (
          (λ i inside other.
              apart-goes q w.0 v.control file.Ctl WriteExcl (ap acts_by is) held.its i inside other rests
              (w.1.0 i inside other)),
          (
            record {
              holds = holds-less k o a.state None _ _ _ _ _ ran;
              stands = λ r. record { prepared = tt; stood = λ p live. tt };
            },
            λ lives. record {
              holds = ran;
              stands = λ r.
                  run-stands n k o s lawful c a answer over v held.its is
                  (λ p live. (held.set p live).1) (here.stands r);
            },
          ),
        ),
      )

  -- a poll: the process that it names stands still, if it lives
  polled-still : (handles : List ℕ) → c ≡ call.Poll handles → (q : ℕ) (n : Names t a.reply q)
      → Before rests (at_place ts q) → (p : TracedProcess)
      → live_process a.state.system (at_place ts q).pid ≡ Some p → IsFrozen p
  polled-still handles is q n h p later =
      let v : Traced = at_place ts q in
      let held = h.holds in
      let sent : answer_to s k (call.Poll handles) ≡ Some a = ap (answer_to s k) (sym is) ∙ answer in
      let live : live_process s.system v.pid ≡ Some p =
      ap (λ (x : TracedSystem). live_process x v.pid) (sym (poll-stays s k handles a sent)) ∙ later in
      let there : handle_of s.opens k n.handle ≡ Some (held_by k v.pid 0 file.Ctl WriteExcl) =
      ap (handle_of s.opens k) (sym (named-control t a.reply q n)) ∙ held.its in
      let own = live-lawful s.system v.pid p lawful.system live in
      elim (poll-ready s k handles a n.handle (held_by k v.pid 0 file.Ctl WriteExcl) sent
      (ready-is a.reply n.handle n.ready) there refl) [
        | inl none ↦ absurd (none-some p (sym none ∙ live))
        | inr st ↦
            stopped-frozen p own.rising (held.set p live).1
            (ap is_stopped (same_Some p st.process (sym live ∙ st.live)) ∙ st.stopped)
      ]

  polled-looks : (handles : List ℕ) → c ≡ call.Poll handles → (q : ℕ) (n : Names t a.reply q)
      → Whole (IsSo Reached k t.options s) ts → Each Lasts ts → Later to_read (at_place ts q)
  polled-looks handles is q n w lasts =
      let within = named-within t a.reply q n in
      let h = w q within in
      let later = lasts q within rests h in
      record {
        holds = later.holds;
        stands = λ r. record { prepared = tt; stood = polled-still handles is q n h };
      }

  -- a row a stage
  stage-after : (stage : Stage) → AtStage (IsSo Reached k t.options s) ts stage → function_call_of t stage ≡ Some c
      → After stage
  unfolding function_call_of call_of
  stage-after (Spawning program) w is =
      whole-stays Reached k o s a.state ts (quiet (ap acts_if (sym is))) w
  stage-after (OpeningControl pid) w is = (
    whole-stays Reached k o s a.state ts (quiet (ap acts_if (sym is))) w,
    λ accepted. new-control pid (sym (same_Some _ c is)) accepted
        (lowest Reached k o s ts (OpeningControl pid) w),
  )
  stage-after (Opening q step) w is = opening-after q step (same_Some c _ (sym is ∙ call-is t q step)) w
  stage-after Polling w is =
      let lasts : Each Lasts ts = quiet (ap acts_if (sym is)) in (
        whole-stays Reached k o s a.state ts lasts w,
        λ accepted handle q ready at.
            polled-looks _ (sym (same_Some _ c is)) q (record { handle = handle; ready = ready; found = at }) w lasts,
      )
  stage-after (ReadingStatus q) w is =
      let lasts : Each Lasts ts = quiet (ap acts_if (sym is)) in
      (w.0, (whole-stays Reached k o s a.state ts lasts w.1.0, lasts q w.0 to_read w.1.1))
  stage-after (ReadingText q l from len) w is =
      let lasts : Each Lasts ts = quiet (ap acts_if (sym is)) in
      (w.0, (whole-stays Reached k o s a.state ts lasts w.1.0, lasts q w.0 looks w.1.1))
  stage-after (Running q) w is = running-after q (sym (same_Some _ c is)) w
  stage-after (Closing q OpenNext) w is = closing-after q (sym (same_Some _ c is)) w
  stage-after (Closing q GoOn) w is = closing-after q (sym (same_Some _ c is)) w
  stage-after Finished w is = absurd (none-some c is)
  stage-after _ w is = absurd w

  -- ---- what comes before it

  beside-after : (stage : Stage) (aside : Aside) → Each Lasts ts → AtStage (IsSo Reached k t.options s) ts stage
      → AtAside (IsSo Reached k t.options s) ts aside
      → AtStage (IsSo Reached k t.options a.state) ts stage × AtAside (IsSo Reached k t.options a.state) ts aside
  beside-after stage aside lasts w beside =
      (stage-stays Reached k o s a.state ts lasts stage w, aside-stays Reached k o s a.state ts lasts aside beside)

  place-control : (q : ℕ) → AtPlace (IsSo Reached k t.options s) ts q
      → HasControl k (at_place ts q).pid (at_place ts q).control s
  place-control q w =
      let here : Before closes (at_place ts q) = w.1.1 in
      let h = here.holds in h.its

  pub patch-mild : (control : ℕ) (plant lift : Option ℕ) → (is_some plant || is_some lift) ≡ true → (d : Call)
      → patch_call o control plant lift ≡ d → (bytes : List ℕ) × ((d ≡ call.Ctl control bytes) × IsMild bytes)
  patch-mild control (Some function) lift busy d is = (
    spelling (message.Write (address_of o function) instruction_size) breakpoint,
    (sym is, write-mild (address_of o function) instruction_size breakpoint),
  )
  patch-mild control None (Some function) busy d is = (
    spelling (message.Write (address_of o function) instruction_size) (code_of o function),
    (sym is, write-mild (address_of o function) instruction_size (code_of o function)),
  )
  patch-mild control None None busy d is = absurd (false≢true busy)

  aside-after : (aside : Aside) → AtStage (IsSo Reached k t.options s) ts t.stage
      → AtAside (IsSo Reached k t.options s) ts aside
      → call_beside t t.stage aside ≡ Some c → AfterBeside (IsSo Reached k t.options a.state) t a.reply aside
  unfolding call_beside
  aside-after Nothing w beside is = stage-after t.stage w is
  aside-after (Reading q function) w beside is =
      beside-after t.stage (Reading q function)
      (mild-each q beside.0 (place-control q beside) _ (sym (same_Some _ c is))
      (read-mild (address_of o function) instruction_size)) w beside
  aside-after (Planting q function) w beside is =
      beside-after t.stage (Planting q function)
      (mild-each q beside.0 (place-control q beside) _ (sym (same_Some _ c is))
      (write-mild (address_of o function) instruction_size breakpoint)) w beside
  aside-after (Patching q plants lifts clear) w beside is =
      let its =
      patch-mild (at_place ts q).control (first_function plants) (first_function lifts) beside.1.0 c
      (same_Some _ c is) in
      beside-after t.stage (Patching q plants lifts clear)
      (mild-each q beside.0.0 (place-control q beside.0) its.0 its.1.0 its.1.1) w beside
  aside-after _ w beside is = absurd beside

  -- a control file is opened of no process that truss traces
  pub control-fresh : (pid : ℕ) → t.stage ≡ OpeningControl pid → t.aside ≡ Nothing → has_functions t.options ≡ true
      → next_function_call_of t ≡ Some c → answer_of a.reply ≡ Accepted → Each (λ (u : Traced). u.pid ≢ pid) ts
  unfolding next_function_call_of call_beside function_call_of call_of
  control-fresh pid at idle has next accepted =
      let w = kept in
      let is : function_call_of t (OpeningControl pid) ≡ Some c =
      ap (function_call_of t) (sym at) ∙ ap (call_beside t t.stage) (sym idle)
      ∙ sym (ap (λ b. cond b (call_beside t t.stage t.aside) (next_call_of t)) has) ∙ next in
      let new = new-control pid (sym (same_Some _ c is)) accepted (lowest Reached k o s ts t.stage w.stage) in new.1

  -- every call, and its reply
  pub call-kept : has_functions t.options ≡ true → next_function_call_of t ≡ Some c → answer_of a.reply ≢ Interrupted
      → Kept (IsSo Reached k t.options a.state) (fed_functions t a.reply)
  unfolding next_function_call_of
  call-kept has next calm =
      let w = kept in
      fed-kept (IsSo Reached k t.options a.state) (so-lasting Reached k t.options a.state) t a.reply w.follow w.off
      w.apart calm has
      (aside-after t.aside w.stage w.beside
      (sym (ap (λ b. cond b (call_beside t t.stage t.aside) (next_call_of t)) has) ∙ next))
