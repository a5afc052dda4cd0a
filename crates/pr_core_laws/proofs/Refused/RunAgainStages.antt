use Rattle.std.proofs.Common.{◌≡◌, ◌≢◌, ◌++◌, ◌∷◌, ℕ, Bool, true, false, cond, List, [], Option, Some, None, refl, sym, subst, ap, ◌∙◌, arith}
use Rattle.std.proofs.lemmas.Bool.{false≢true}
use Rattle.std.proofs.lemmas.Option.{none-some, same_Some}
use Rattle.pr_api.specs.Entries.{call_entry}
use Rattle.pr_core.specs.GcoreStages.{control_place, kind_of_part, part_after, place_of_part, stage_after}
use Rattle.pr_core.specs.Gcores.{GcoreState, accepted, advanced, at_stage, call_of, fed, filled, lends, memory_call, next_call_of, passes_over, piece_of, refusal_in, refused, walk_on, with_bytes, with_mapping, with_next, with_noted, with_part, with_piece, with_run_next, with_status, with_walk}
use Rattle.pr_core.specs.declared.gcore_stages.GcorePart.TheVariants as part
use Rattle.pr_core.specs.declared.gcore_stages.GcoreStage.{GcoreStage}
use Rattle.pr_core.specs.declared.gcore_stages.GcoreStage.TheVariants as stage
use Rattle.pr_core.specs.declared.memory_walks.MemoryWalk.{MemoryWalk}
use Rattle.pr_model.specs.Calls.{Answer, answer_to}
use Rattle.pr_model.specs.Handles.{handle_of}
use Rattle.pr_model.specs.Lawful.{IsLawful}
use Rattle.pr_model.specs.Legal.{IsLegalEntry, after, state_after}
use Rattle.pr_model.specs.Replies.{number_of}
use Rattle.pr_model.specs.State.{Places, TracedState}
use Rattle.pr_model.specs.declared.calls.Call.{Call}
use Rattle.pr_model.specs.declared.calls.Call.TheVariants as call
use Rattle.pr_model.specs.declared.calls.File.{File}
use Rattle.pr_model.specs.declared.calls.File.TheVariants as file
use Rattle.pr_model.specs.declared.calls.Mode.{Mode}
use Rattle.pr_model.specs.declared.calls.Reply.TheVariants as reply
use Rattle.pr_model.specs.declared.events.Act.{Act}
use Rattle.pr_model.specs.declared.events.Actor.{Actor}
use Rattle.pr_model.specs.declared.events.Entry.{Entry}
use Rattle.pr_num.specs.Limits.{read_limit}
use Rattle.pr_num.specs.Messages.{message_code}
use Rattle.pr_num.specs.Records.{status_ranges}
use Rattle.pr_num.specs.Words.{word_bytes}
use Rattle.pr_num.specs.declared.errnos.Errno.{Errno}
use Rattle.pr_num.specs.declared.errnos.Errno.TheVariants.{Busy}
use Rattle.pr_rec.specs.Reading.{record_read}
use Rattle.pr_tool_laws.proofs.RunningAgain.LeavingLemmas.{Comes, closes-more, comes-still, looked-still, opens-more, others-none, ran-now}
use Rattle.pr_tool_laws.proofs.RunningAgain.LeavingStages.{HasOnlyLooked, RanOrLetBe, only-looked-still, ran-or-let-still}
use Rattle.pr_tool_laws.proofs.RunningAgain.NoRunLemmas.{IsNoRun, another, call-none, is_message, no-message, opens-nobody, runs-nobody-on}
use Rattle.pr_tool_laws.proofs.Pstack.StackReads.{control_of}
use Rattle.pr_tool_laws.proofs.OwnFiles.StandingLemmas.{IsOther, others-keep}
use Rattle.pr_tool_laws.specs.Leaving.{HasRunAtLast}
use Rattle.pr_tools.specs.Calls.{run_bytes, stop_bytes}
use Rattle.pr_tools.specs.Handles.{handle_at, last_open, most_open}
use Rattle.pr_tools.specs.Replies.{bytes_read}
use Rattle.pr_tools.specs.Stacks.{process_stands}
use Rattle.pr_truss_laws.proofs.Files.OpensLemmas.{keeps_handles, plain-leaves}
use Rattle.pr_core_laws.proofs.OpenFiles.GcoreHolds.{Holds, goes_on, granted-at, takes}
use Rattle.pr_core_laws.proofs.OneState.GcoreStages.{open_at}
use Rattle.pr_core_laws.proofs.OpenFiles.HandleLemmas.{HasFirst, HasOpen, file_of}

-- The stages of gcore, with what it has noted of the process when it came, and whether it has run that since.

-- the memory is read by calls that leave the handles
pub keeps-memory : (g : GcoreState) (w : Option MemoryWalk) → keeps_handles (memory_call g w) ≡ true
keeps-memory g None = refl
keeps-memory g (Some w) = refl

-- and that send no message
memory-plain : (g : GcoreState) (w : Option MemoryWalk) → is_message (memory_call g w) ≡ false
memory-plain g None = refl
memory-plain g (Some w) = refl

module _ (n k pid : ℕ) (first : TracedState) where
  abbrev Looked : List Entry → GcoreState → Type 0
  Looked h g = HasOnlyLooked k pid first h g.stood

  -- its control file is open
  abbrev pub Control : TracedState → GcoreState → Type 0
  Control s g = HasOpen s.opens g.opened control_place (control_of k pid)

  -- what is so at a stage of a gcore that was not refused
  unfoldable pub Leads : List Entry → TracedState → GcoreState → GcoreStage → Type 0
  Leads h s g stage.OpenCtl = Comes k h
  Leads h s g stage.OpenStatus = Comes k h
  Leads h s g (stage.OpenPart which) = Comes k h
  Leads h s g stage.OpenMemory = Comes k h
  Leads h s g stage.ReadFirst = Comes k h
  Leads h s g stage.Run = Looked h g × Control s g × (g.stood ≡ false)
  Leads h s g stage.Close = RanOrLetBe k pid first h g.stood
  Leads h s g stage.Release = ⊥
  Leads h s g _ = Looked h g

  -- the control file is known where it is to be run
  pub control-run : (h : List Entry) (s : TracedState) (g : GcoreState) (p : GcoreStage) → p ≡ stage.Run
      → Leads h s g p → Control s g
  unfolding Leads
  control-run h s g p is so = (subst (Leads h s g) is so).1

  -- ---- what others do

  module _ (h : List Entry) (actor : Actor) (it : Act)
      (legal : IsLegalEntry n (state_after first h) (record { actor = actor; act = it }))
      (other : IsOther k actor it) where
    abbrev entry : Entry
    entry = record { actor = actor; act = it }

    abbrev found : TracedState
    found = state_after first h

    comes-on : Comes k h → Comes k (h ++ entry ∷ [])
    comes-on so = comes-still k h entry (λ c r is. absurd (others-none k actor it other c r is)) so

    looked-on : (stood : Bool) → HasOnlyLooked k pid first h stood → HasOnlyLooked k pid first (h ++ entry ∷ []) stood
    looked-on stood so =
        only-looked-still k pid first h entry stood (λ c r is. absurd (others-none k actor it other c r is)) so

    pub leads-still : (g : GcoreState) (p : GcoreStage) → Leads h found g p
        → Leads (h ++ entry ∷ []) (after found entry) g p
    unfolding Leads
    leads-still g stage.OpenCtl so = comes-on so
    leads-still g stage.OpenStatus so = comes-on so
    leads-still g (stage.OpenPart which) so = comes-on so
    leads-still g stage.OpenMemory so = comes-on so
    leads-still g stage.ReadFirst so = comes-on so
    leads-still g stage.Run so = (
      looked-on g.stood so.0,
      record {
        number = so.1.number;
        at = so.1.at;
        stands = others-keep so.1.number (control_of k pid) n found actor it legal other so.1.stands;
      },
      so.2,
    )
    leads-still g stage.Close so =
        ran-or-let-still k pid first h entry g.stood (λ c r is. absurd (others-none k actor it other c r is)) so
    leads-still g stage.Release so = absurd so
    leads-still g _ so = looked-on g.stood so

  -- ---- its calls

  module _ (h : List Entry) (c : Call) (a : Answer) (lawful : IsLawful (state_after first h))
      (given : answer_to (state_after first h) k c ≡ Some a) where
    abbrev s : TracedState
    s = state_after first h

    abbrev it : Entry
    it = call_entry k c a.reply

    abbrev longer : List Entry
    longer = h ++ it ∷ []

    abbrev Now : GcoreState → Type 0
    Now u = Leads longer a.state u u.stage

    -- what is so once the reply was fed
    abbrev Next : GcoreState → Type 0
    Next u = u.refusal ≡ None → Now u

    -- by a call that does not run the process, as one that sends no message
    on-by : IsNoRun k pid s c → (stood : Bool) → HasOnlyLooked k pid first h stood
        → HasOnlyLooked k pid first longer stood
    on-by none stood so = only-looked-still k pid first h it stood (call-none k pid first h c a.reply none) so

    on : (d : Call) → Some d ≡ Some c → is_message d ≡ false → (stood : Bool) → HasOnlyLooked k pid first h stood
        → HasOnlyLooked k pid first longer stood
    on d same plain = on-by (no-message k pid s c d same plain)

    -- PCSTOP does not run it
    stop-none : (number : ℕ) → Some (call.Ctl number stop_bytes) ≡ Some c → IsNoRun k pid s c
    unfolding message_code word_bytes
    stop-none number same = another k pid s c number stop_bytes same refl

    -- it opens a file more
    opens-on : (name : File) (way : Mode) (of : ℕ) → Some (call.Open of 0 name way) ≡ Some c → Comes k h
        → Comes k longer
    opens-on name way of same so =
        comes-still k h it (opens-more k c a.reply of 0 name way (sym (same_Some (call.Open of 0 name way) c same))) so

    -- its control file is open still
    control-on : (g : GcoreState) (d : Call) → Some d ≡ Some c → keeps_handles d ≡ true
        → HasFirst k pid most_open s.opens g.opened → Control a.state g
    control-on g d same keeps holds =
        let file = holds.each control_place (control_of k pid) (omega arith) refl in
        let still : a.state.opens ≡ s.opens =
        plain-leaves s k d a keeps (ap (answer_to s k) (same_Some d c same) ∙ given) in
        record {
          number = file.number;
          at = file.at;
          stands = ap (λ (x : Places). handle_of x k file.number) still ∙ file.stands;
        }

    -- its first look at the process
    first-look : (g : GcoreState) → HasFirst k pid most_open s.opens g.opened
        → Some (call.Read (number_of (handle_at g.opened (place_of_part part.Lstatus))) 0 read_limit) ≡ Some c
        → Comes k h → ((e : Errno) → a.reply ≢ reply.Fail e)
        → HasOnlyLooked k pid first longer (process_stands (bytes_read a.reply))
    unfolding place_of_part kind_of_part
    first-look g holds same comes accepts =
        let file = holds.each 3 (file_of k pid file.Lstatus) (omega arith) refl in
        record {
          looked = (
            record {
              before = h;
              call = c;
              reply = a.reply;
              after = [];
              place = refl;
              handle = file.number;
              is_read =
                  sym (same_Some _ c same) ∙ ap (λ (o : Option ℕ). call.Read (number_of o) 0 read_limit) file.at;
              there = file.stands;
              granted = accepts;
              noted = refl;
            },
            comes,
          );
          nobody =
              runs-nobody-on k pid first h it
              (call-none k pid first h c a.reply (no-message k pid s c _ same refl))
              (opens-nobody k pid first h comes);
        }

    -- it runs the process
    run-now : (g : GcoreState) → Control s g
        → Some (call.Ctl (number_of (handle_at g.opened control_place)) run_bytes) ≡ Some c
        → ((e : Errno) → a.reply ≢ reply.Fail e) → HasRunAtLast k pid first longer
    run-now g control same accepts =
        let is : c ≡ call.Ctl control.number run_bytes =
        sym (same_Some _ c same) ∙ ap (λ (o : Option ℕ). call.Ctl (number_of o) run_bytes) control.at in
        ran-now k first h c a lawful given control.number (control_of k pid) is control.stands refl accepts

    -- ---- behind what was read

    run-next : (u : GcoreState) → Looked longer u → Control a.state u → Now (with_run_next u)
    unfolding Leads with_run_next
    run-next u looked control = by u.stood refl
      where
        by : (b : Bool) → u.stood ≡ b → Now (cond b (at_stage u stage.Close) (at_stage u stage.Run))
        by true stood = record {
          looked = looked.looked;
          ran = λ not. absurd (false≢true (sym not ∙ stood));
          lets_be = λ standing. looked.nobody;
        }
        by false stood = (looked, control, stood)

    mapping-next : (u : GcoreState) (w : Option MemoryWalk) → Looked longer u → Control a.state u
        → Now (with_mapping u w)
    unfolding Leads with_mapping
    mapping-next u None looked control = run-next (record u { walk = None }) looked control
    mapping-next u (Some w) looked control = looked

    piece-next : (g : GcoreState) (answer : List ℕ) (w : Option MemoryWalk) → Looked longer g → Control a.state g
        → Now (with_piece (at_stage g stage.ReadMemory) answer w)
    unfolding Leads with_piece
    piece-next g answer None looked control = run-next (at_stage g stage.ReadMemory) looked control
    piece-next g answer (Some w) looked control = by (walk_on w)
      where
        u : GcoreState
        u = with_bytes (at_stage g stage.ReadMemory) (filled (piece_of w) answer)

        by : (x : Option MemoryWalk) → Now (with_walk u w.at x)
        by None = mapping-next u _ looked control
        by (Some x) = looked

    -- a status that shows that memory was lent refuses
    status-next : (g : GcoreState) (bytes : List ℕ) → Looked longer g
        → Next (with_status (at_stage g stage.ReadStatus) bytes)
    unfolding Leads with_status refused advanced with_next stage_after
    status-next g bytes looked = by (lends (record_read status_ranges bytes))
      where
        u : GcoreState
        u = at_stage g stage.ReadStatus

        by : (b : Bool) → Next (cond b (refused u Busy) (advanced u))
        by true none = absurd (none-some Busy (sym none))
        by false none = looked

    -- ---- a row a stage

    step-on : (g : GcoreState) (p : GcoreStage) → (goes_on p ≡ true → Holds n k pid first s g p)
        → Leads h s (at_stage g p) p → call_of (at_stage g p) p ≡ Some c → refusal_in p a.reply ≡ None
        → Next (accepted (at_stage g p) a.reply p)
    unfolding Leads call_of accepted advanced with_next with_part with_noted stage_after part_after open_at passes_over
    step-on g stage.OpenCtl holds so same right = λ none. opens-on _ _ _ same so
    step-on g stage.OpenStatus holds so same right = λ none. opens-on _ _ _ same so
    step-on g (stage.OpenPart part.Psinfo) holds so same right = λ none. opens-on _ _ _ same so
    step-on g (stage.OpenPart part.Lstatus) holds so same right = λ none. opens-on _ _ _ same so
    step-on g (stage.OpenPart part.Sigact) holds so same right = λ none. opens-on _ _ _ same so
    step-on g (stage.OpenPart part.Map) holds so same right = λ none. opens-on _ _ _ same so
    step-on g (stage.OpenPart part.Fds) holds so same right = λ none. opens-on _ _ _ same so
    step-on g stage.OpenMemory holds so same right = λ none. opens-on _ _ _ same so
    step-on g stage.ReadFirst holds so same right =
        λ none. first-look g (holds refl) same so (granted-at stage.ReadFirst a.reply refl right)
    step-on g stage.Stop holds so same right = λ none. on-by (stop-none _ same) g.stood so
    step-on g stage.AwaitStop holds so same right = λ none. on _ same refl g.stood so
    step-on g stage.ReadStatus holds so same right = status-next g (bytes_read a.reply) (on _ same refl g.stood so)
    step-on g (stage.ReadPart part.Psinfo) holds so same right = λ none. on _ same refl g.stood so
    step-on g (stage.ReadPart part.Lstatus) holds so same right = λ none. on _ same refl g.stood so
    step-on g (stage.ReadPart part.Sigact) holds so same right = λ none. on _ same refl g.stood so
    step-on g (stage.ReadPart part.Map) holds so same right = λ none. on _ same refl g.stood so
    step-on g (stage.ReadPart part.Fds) holds so same right =
        λ none. mapping-next _ _ (on _ same refl g.stood so) (control-on g _ same refl (holds refl))
    step-on g stage.ReadMemory holds so same right =
        λ none. piece-next g (bytes_read a.reply) g.walk
        (on _ same (memory-plain (at_stage g stage.ReadMemory) g.walk) g.stood so)
        (control-on g _ same (keeps-memory (at_stage g stage.ReadMemory) g.walk) (holds refl))
    step-on g stage.Run holds so same right = λ none. record {
      looked = looked-still k pid first h it g.stood so.0.looked;
      ran = λ not. run-now g so.1 same (granted-at stage.Run a.reply refl right);
      lets_be = λ stood. absurd (false≢true (sym so.2 ∙ stood));
    }
    step-on g stage.Close holds so same right =
        λ none. ran-or-let-still k pid first h it g.stood (closes-more k c a.reply (last_open g.opened) same) so
    step-on g stage.Release holds so same right = absurd so

    -- a gcore that was fed the reply to its call
    pub called-leads : (g : GcoreState) → next_call_of g ≡ Some c
        → (g.refusal ≡ None → goes_on g.stage ≡ true → Holds n k pid first s g g.stage)
        → (g.refusal ≡ None → Leads h s g g.stage) → Next (fed g a.reply)
    unfolding next_call_of
    called-leads g next holds so none =
        let t = takes g a.reply none in
        subst Now (sym t.is)
        (step-on g g.stage (holds t.before) (so t.before) next t.none
        (sym (ap (λ (u : GcoreState). u.refusal) t.is) ∙ none))
