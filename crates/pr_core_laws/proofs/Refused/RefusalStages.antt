use Rattle.std.proofs.Common.{◌≡◌, ◌≢◌, ◌++◌, ◌∷◌, ℕ, Bool, true, false, cond, List, [], Option, Some, None, is_some, refl, sym, subst, ap, ◌∙◌, arith}
use Rattle.std.proofs.lemmas.Bool.{false≢true}
use Rattle.std.proofs.lemmas.List.Elements.{All-append, All-cons, All-nil}
use Rattle.std.proofs.lemmas.Option.{none-some, same_Some}
use Rattle.std.specs.List.{All}
use Rattle.pr_api.specs.Entries.{call_entry}
use Rattle.pr_core.specs.GcoreStages.{control_place, file_of_part, kind_of_part, memory_place, place_of_part, stage_after, status_place}
use Rattle.pr_core.specs.Gcores.{GcoreState, accepted, advanced, answered, at_stage, call_of, fed, lends, memory_call, next_call_of, passes_over, refusal_in, refused, with_next, with_status}
use Rattle.pr_core.specs.declared.gcore_stages.GcorePart.{GcorePart}
use Rattle.pr_core.specs.declared.gcore_stages.GcorePart.TheVariants as part
use Rattle.pr_core.specs.declared.gcore_stages.GcoreStage.{GcoreStage}
use Rattle.pr_core.specs.declared.gcore_stages.GcoreStage.TheVariants as stage
use Rattle.pr_core.specs.declared.memory_walks.MemoryWalk.{MemoryWalk}
use Rattle.pr_model.specs.Handles.{handle_of}
use Rattle.pr_model.specs.Legal.{state_after}
use Rattle.pr_model.specs.Replies.{number_of}
use Rattle.pr_model.specs.State.{TracedState}
use Rattle.pr_model.specs.declared.calls.Call.{Call}
use Rattle.pr_model.specs.declared.calls.Call.TheVariants as calls
use Rattle.pr_model.specs.declared.calls.File.{File}
use Rattle.pr_model.specs.declared.calls.File.TheVariants as file
use Rattle.pr_model.specs.declared.calls.Mode.{Mode}
use Rattle.pr_model.specs.declared.calls.Mode.TheVariants as mode
use Rattle.pr_model.specs.declared.calls.Reply.{Reply}
use Rattle.pr_model.specs.declared.calls.Reply.TheVariants as replies
use Rattle.pr_model.specs.declared.events.Act.TheVariants as act
use Rattle.pr_model.specs.declared.events.Entry.{Entry}
use Rattle.pr_num.specs.Limits.{read_limit}
use Rattle.pr_num.specs.Records.{status_ranges}
use Rattle.pr_num.specs.declared.errnos.Errno.{Errno}
use Rattle.pr_num.specs.declared.errnos.Errno.TheVariants.{Busy}
use Rattle.pr_rec.specs.Reading.{record_read}
use Rattle.pr_tool_laws.proofs.Pstack.StackReads.{control_of}
use Rattle.pr_tool_laws.proofs.Stages.ToolLemmas.{place-still}
use Rattle.pr_tool_laws.specs.FileHandles.{HasHandleOf}
use Rattle.pr_tools.specs.Handles.{handle_at, most_open}
use Rattle.pr_tools.specs.Replies.{bytes_read}
use Rattle.pr_core_laws.proofs.OpenFiles.GcoreHolds.{Holds, goes_on, granted-at, refused-reply}
use Rattle.pr_core_laws.proofs.OneState.GcoreStages.{open_at}
use Rattle.pr_core_laws.proofs.OneState.GcoreSteps.{accepted-same}
use Rattle.pr_core_laws.proofs.OpenFiles.HandleLemmas.{HasFirst, HasOpen, file_of}
use Rattle.pr_core_laws.proofs.Refused.RunAgainStages.{Control}
use Rattle.pr_core_laws.specs.GcoreCalls.{IsGcoreCall, IsItsFile, control, descriptors, lstatus, mappings, memory, opens, psinfo, reads, reads_memory, runs, sigact, status, stops, waits}
use Rattle.pr_core_laws.specs.Refused.{IsNoRefusal}

-- Why gcore was refused: what was so up to then.

-- ---- which call it makes at a stage

part-file : (which : GcorePart) → IsItsFile (file_of_part which) mode.Read
unfolding file_of_part
part-file part.Psinfo = psinfo
part-file part.Lstatus = lstatus
part-file part.Sigact = sigact
part-file part.Map = mappings
part-file part.Fds = descriptors

module _ (n k pid : ℕ) (first : TracedState) (s : TracedState) (c : Call) where
  pub control-file : (g : GcoreState) → HasOpen s.opens g.opened control_place (control_of k pid)
      → HasHandleOf k pid 0 file.Ctl (number_of (handle_at g.opened control_place)) s
  control-file g it = record {
    held = control_of k pid;
    there = ap (λ (o : Option ℕ). handle_of s.opens k (number_of o)) it.at ∙ it.stands;
    of = refl;
    lwp = refl;
    file = refl;
  }

  read-file : (g : GcoreState) (place : ℕ) (name : File) → HasOpen s.opens g.opened place (file_of k pid name)
      → HasHandleOf k pid 0 name (number_of (handle_at g.opened place)) s
  read-file g place name it = record {
    held = file_of k pid name;
    there = ap (λ (o : Option ℕ). handle_of s.opens k (number_of o)) it.at ∙ it.stands;
    of = refl;
    lwp = refl;
    file = refl;
  }

  memory-row : (g : GcoreState) (w : Option MemoryWalk) → HasOpen s.opens g.opened memory_place (file_of k pid file.Mem)
      → IsGcoreCall k pid s (memory_call g w)
  memory-row g None it = reads_memory (read-file g memory_place file.Mem it) (omega arith)
  memory-row g (Some w) it = reads_memory (read-file g memory_place file.Mem it) (omega arith)

  first-control : (g : GcoreState) → HasFirst k pid most_open s.opens g.opened
      → HasHandleOf k pid 0 file.Ctl (number_of (handle_at g.opened control_place)) s
  first-control g holds = control-file g (holds.each control_place (control_of k pid) (omega arith) refl)

  read-row : (g : GcoreState) (which : GcorePart) → HasFirst k pid most_open s.opens g.opened
      → IsGcoreCall k pid s (calls.Read (number_of (handle_at g.opened (place_of_part which))) 0 read_limit)
  unfolding place_of_part kind_of_part
  read-row g part.Psinfo holds =
      reads psinfo (read-file g 2 file.Psinfo (holds.each 2 (file_of k pid file.Psinfo) (omega arith) refl))
  read-row g part.Lstatus holds =
      reads lstatus (read-file g 3 file.Lstatus (holds.each 3 (file_of k pid file.Lstatus) (omega arith) refl))
  read-row g part.Sigact holds =
      reads sigact (read-file g 4 file.Sigact (holds.each 4 (file_of k pid file.Sigact) (omega arith) refl))
  read-row g part.Map holds =
      reads mappings (read-file g 5 file.Map (holds.each 5 (file_of k pid file.Map) (omega arith) refl))
  read-row g part.Fds holds =
      reads descriptors (read-file g 6 file.Fds (holds.each 6 (file_of k pid file.Fds) (omega arith) refl))

  -- a row a stage at which a refusal counts
  pub call-row : (g : GcoreState) (p : GcoreStage) → g.pid ≡ pid → passes_over p ≡ false
      → (goes_on p ≡ true → Holds n k pid first s g p) → (p ≡ stage.Run → Control n k pid first s g)
      → call_of (at_stage g p) p ≡ Some c → IsGcoreCall k pid s c
  unfolding call_of open_at passes_over
  call-row g p its counts holds run same = by p counts holds run same
    where
      is : (d : Call) → Some d ≡ Some c → IsGcoreCall k pid s d → IsGcoreCall k pid s c
      is d same it = subst (IsGcoreCall k pid s) (same_Some d c same) it

      opening : (name : File) (way : Mode) → IsItsFile name way → Some (calls.Open g.pid 0 name way) ≡ Some c
          → IsGcoreCall k pid s c
      opening name way it same =
          is (calls.Open pid 0 name way)
          (ap (λ (q : ℕ). Some (calls.Open q 0 name way)) (sym its) ∙ same) (opens it)

      by : (p : GcoreStage) → passes_over p ≡ false → (goes_on p ≡ true → Holds n k pid first s g p)
          → (p ≡ stage.Run → Control n k pid first s g) → call_of (at_stage g p) p ≡ Some c → IsGcoreCall k pid s c
      by stage.OpenCtl counts holds run same = opening _ _ control same
      by stage.OpenStatus counts holds run same = opening _ _ status same
      by (stage.OpenPart which) counts holds run same = opening _ _ (part-file which) same
      by stage.OpenMemory counts holds run same = opening _ _ memory same
      by stage.ReadFirst counts holds run same = is _ same (read-row g part.Lstatus (holds refl))
      by stage.Stop counts holds run same = is _ same (stops (first-control g (holds refl)))
      by stage.AwaitStop counts holds run same = is _ same (waits (first-control g (holds refl)))
      by stage.ReadStatus counts holds run same =
          is _ same (reads status (read-file g status_place file.Status
          ((holds refl).each status_place (file_of k pid file.Status) (omega arith) refl)))
      by (stage.ReadPart which) counts holds run same = is _ same (read-row g which (holds refl))
      by stage.ReadMemory counts holds run same =
          is _ same (memory-row (at_stage g stage.ReadMemory) g.walk
          ((holds refl).each memory_place (file_of k pid file.Mem) (omega arith) refl))
      by stage.Run counts holds run same = is _ same (runs (control-file g (run refl)))
      by stage.Release counts holds run same = absurd (false≢true (sym counts))
      by stage.Close counts holds run same = absurd (false≢true (sym counts))

-- ---- the reason, by the bytes that it read

pub data IsCause (k pid : ℕ) (s : TracedState) (c : Call) (r : Reply) : Errno → Type 0 where
  by_refusal : {e : Errno} → IsGcoreCall k pid s c → r ≡ replies.Fail e → IsCause k pid s c r e
  by_status : (handle : ℕ) → c ≡ calls.Read handle 0 read_limit
      → handle_of s.opens k handle ≡ Some (file_of k pid file.Status) → ((e : Errno) → r ≢ replies.Fail e)
      → lends (record_read status_ranges (bytes_read r)) ≡ true → IsCause k pid s c r Busy

pub record HasCause (k pid : ℕ) (e : Errno) (first : TracedState) (h : List Entry) : Type 0 where
  pub before : List Entry
  pub call : Call
  pub reply : Reply
  pub after : List Entry
  pub place : h ≡ before ++ call_entry k call reply ∷ after
  pub earlier : All (IsNoRefusal k) before
  pub cause : IsCause k pid (state_after first before) call reply e

module _ (n k pid : ℕ) (first : TracedState) where
  abbrev pub CauseOf : List Entry → Option Errno → Type 0
  CauseOf h None = Unit {0}
  CauseOf h (Some e) = HasCause k pid e first h

  -- up to a refusal no call was refused, and a refusal has its cause
  pub record Why (h : List Entry) (g : GcoreState) : Type 0 where
    pub quiet : g.refusal ≡ None → passes_over g.stage ≡ false → All (IsNoRefusal k) h
    pub caused : CauseOf h g.refusal

  cause-still : (h : List Entry) (e : Entry) (o : Option Errno) → CauseOf h o → CauseOf (h ++ e ∷ []) o
  cause-still h e None it = tt
  cause-still h e (Some d) it = record {
    before = it.before;
    call = it.call;
    reply = it.reply;
    after = it.after ++ e ∷ [];
    place = place-still h it.before (call_entry k it.call it.reply) it.after e it.place;
    earlier = it.earlier;
    cause = it.cause;
  }

  quiet-on : (h : List Entry) (e : Entry) → IsNoRefusal k e → All (IsNoRefusal k) h
      → All (IsNoRefusal k) (h ++ e ∷ [])
  quiet-on h e none so =
      All-append (IsNoRefusal k) h (e ∷ []) so (All-cons (IsNoRefusal k) e [] none (All-nil (IsNoRefusal k)))

  pub why-still : (h : List Entry) (e : Entry) → IsNoRefusal k e → (g : GcoreState) → Why h g → Why (h ++ e ∷ []) g
  why-still h e none g it = record {
    quiet = λ accepted counts. quiet-on h e none (it.quiet accepted counts);
    caused = cause-still h e g.refusal it.caused;
  }

  -- ---- its calls

  module _ (h : List Entry) (c : Call) (r : Reply) where
    abbrev s : TracedState
    s = state_after first h

    abbrev longer : List Entry
    longer = h ++ call_entry k c r ∷ []

    its-reply : ((e : Errno) → r ≢ replies.Fail e) → IsNoRefusal k (call_entry k c r)
    its-reply granted d e is =
        let made : act.Call c r ≡ act.Call d (replies.Fail e) = ap (λ (x : Entry). x.act) is in
        let same : r ≡ replies.Fail e = cc in granted e same

    -- who is on its way out is refused no more
    over-none : (p : GcoreStage) → passes_over p ≡ true → refusal_in p r ≡ None
    unfolding refusal_in
    over-none p over = by r
      where
        by : (v : Reply) → refusal_in p v ≡ None
        by (replies.Fail e) = ap (λ (b : Bool). cond b None (Some e)) over
        by _ = refl

    over-stage : (g : GcoreState) (p : GcoreStage) → passes_over p ≡ true
        → passes_over (accepted (at_stage g p) r p).stage ≡ true
    unfolding accepted advanced with_next stage_after passes_over
    over-stage g stage.Release over = refl
    over-stage g stage.Close over = refl
    over-stage g _ over = absurd (false≢true over)

    over-refusal : (g : GcoreState) (p : GcoreStage) → passes_over p ≡ true
        → (accepted (at_stage g p) r p).refusal ≡ g.refusal
    unfolding accepted advanced with_next stage_after passes_over
    over-refusal g stage.Release over = refl
    over-refusal g stage.Close over = refl
    over-refusal g _ over = absurd (false≢true over)

    over-why : (g : GcoreState) → passes_over g.stage ≡ true → Why h g → Why longer (fed g r)
    unfolding fed
    over-why g over it =
        let is : fed g r ≡ accepted g r g.stage = ap (answered g r) (over-none g.stage over) in
        subst (Why longer) (sym is) (record {
          quiet = λ none counts. absurd (false≢true (sym counts ∙ over-stage g g.stage over));
          caused =
              subst (CauseOf longer) (sym (over-refusal g g.stage over))
              (cause-still h (call_entry k c r) g.refusal it.caused);
        })

    -- a reply that is taken
    taken-why : (g : GcoreState) (p : GcoreStage) → p ≢ stage.ReadStatus → g.refusal ≡ None → All (IsNoRefusal k) h
        → ((e : Errno) → r ≢ replies.Fail e) → Why longer (accepted (at_stage g p) r p)
    taken-why g p other none so granted = record {
      quiet = λ accepted counts. quiet-on h (call_entry k c r) (its-reply granted) so;
      caused = subst (CauseOf longer) (sym (accepted-same (at_stage g p) r p other ∙ none)) tt;
    }

    -- a status shows whether memory was lent
    status-why : (g : GcoreState) → g.refusal ≡ None → All (IsNoRefusal k) h → ((e : Errno) → r ≢ replies.Fail e)
        → HasFirst k pid most_open s.opens g.opened
        → Some (calls.Read (number_of (handle_at g.opened status_place)) 0 read_limit) ≡ Some c
        → Why longer (accepted (at_stage g stage.ReadStatus) r stage.ReadStatus)
    unfolding accepted with_status refused advanced with_next stage_after
    status-why g none so granted holds same = by (lends (record_read status_ranges (bytes_read r))) refl
      where
        u : GcoreState
        u = at_stage g stage.ReadStatus

        by : (b : Bool) → lends (record_read status_ranges (bytes_read r)) ≡ b
            → Why longer (cond b (refused u Busy) (advanced u))
        by true is =
            let file = holds.each status_place (file_of k pid file.Status) (omega arith) refl in
            record {
              quiet = λ accepted counts. absurd (none-some Busy (sym accepted));
              caused = record {
                before = h;
                call = c;
                reply = r;
                after = [];
                place = refl;
                earlier = so;
                cause =
                    by_status file.number
                    (sym (same_Some _ c same) ∙ ap (λ (o : Option ℕ). calls.Read (number_of o) 0 read_limit) file.at)
                    file.stands granted is;
              };
            }
        by false is = record {
          quiet = λ accepted counts. quiet-on h (call_entry k c r) (its-reply granted) so;
          caused = subst (CauseOf longer) (sym none) tt;
        }

    -- a reply that refuses
    refused-why : (g : GcoreState) (e : Errno) → IsGcoreCall k pid s c → All (IsNoRefusal k) h → r ≡ replies.Fail e
        → Why longer (refused g e)
    unfolding refused
    refused-why g e call so is = record {
      quiet = λ accepted counts. absurd (none-some e (sym accepted));
      caused = record {
        before = h;
        call = c;
        reply = r;
        after = [];
        place = refl;
        earlier = so;
        cause = by_refusal call is;
      };
    }

    accepted-why : (g : GcoreState) (p : GcoreStage) → g.refusal ≡ None → All (IsNoRefusal k) h
        → ((e : Errno) → r ≢ replies.Fail e) → (goes_on p ≡ true → Holds n k pid first s g p)
        → call_of (at_stage g p) p ≡ Some c → Why longer (accepted (at_stage g p) r p)
    unfolding call_of open_at
    accepted-why g stage.ReadStatus none so granted holds same = status-why g none so granted (holds refl) same
    accepted-why g p none so granted holds same = taken-why g p (λ is. cc) none so granted

    pub called-why : (g : GcoreState) → next_call_of g ≡ Some c → g.pid ≡ pid
        → (g.refusal ≡ None → goes_on g.stage ≡ true → Holds n k pid first s g g.stage)
        → (g.refusal ≡ None → g.stage ≡ stage.Run → Control n k pid first s g)
        → (is_some g.refusal ≡ true → passes_over g.stage ≡ true) → Why h g → Why longer (fed g r)
    unfolding fed next_call_of
    called-why g next its holds run over it = by (passes_over g.stage) refl
      where
        refusing : (o : Option Errno) → refusal_in g.stage r ≡ o → g.refusal ≡ None → passes_over g.stage ≡ false
            → Why longer (answered g r o)
        refusing None is none counts =
            accepted-why g g.stage none (it.quiet none counts) (granted-at g.stage r counts is) (holds none) next
        refusing (Some e) is none counts =
            let row = call-row n k pid first s c g g.stage its counts (holds none) (run none) next in
            refused-why g e row (it.quiet none counts) (refused-reply g.stage r e is).1

        unless-over : (o : Option Errno) → g.refusal ≡ o → passes_over g.stage ≡ false → o ≡ None
        unless-over None is counts = refl
        unless-over (Some e) is counts =
            absurd (false≢true (sym counts ∙ over (ap (λ (o : Option Errno). is_some o) is)))

        by : (b : Bool) → passes_over g.stage ≡ b → Why longer (fed g r)
        by true is = over-why g is it
        by false is = refusing (refusal_in g.stage r) refl (unless-over g.refusal refl is) is
