use Rattle.std.proofs.Common.{◌≡◌, ◌<◌, ◌∷◌, ◌++◌, ℕ, Bool, true, false, cond, List, [], Option, Some, None, refl, sym, subst, ap, ◌∙◌, arith}
use Rattle.std.proofs.lemmas.Bool.{false≢true}
use Rattle.std.proofs.lemmas.List.Elements.{All-append, All-cons, All-nil}
use Rattle.std.proofs.lemmas.Option.{none-some, same_Some}
use Rattle.std.specs.List.{All}
use Rattle.pr_api.specs.Entries.{call_entry}
use Rattle.pr_model.specs.Handles.{handle_of as handle_in}
use Rattle.pr_model.specs.Legal.{state_after}
use Rattle.pr_model.specs.Replies.{number_of}
use Rattle.pr_model.specs.State.{TracedState}
use Rattle.pr_model.specs.declared.calls.Call.{Call}
use Rattle.pr_model.specs.declared.calls.Call.TheVariants as call
use Rattle.pr_model.specs.declared.calls.File.{File}
use Rattle.pr_model.specs.declared.calls.File.TheVariants as file
use Rattle.pr_model.specs.declared.calls.Reply.{Reply}
use Rattle.pr_model.specs.declared.calls.Reply.TheVariants as reply
use Rattle.pr_model.specs.declared.events.Act.TheVariants as act
use Rattle.pr_model.specs.declared.events.Entry.{Entry}
use Rattle.pr_num.specs.Limits.{read_limit}
use Rattle.pr_num.specs.declared.errnos.Errno.{Errno}
use Rattle.pr_num.specs.declared.errnos.Errno.TheVariants.{Busy, Fault, Intr}
use Rattle.pr_probe.proofs.FedLemmas.{advanced-kept, advanced-refusal, answer-by, fed-by, kind-kept, next-kept, next-refusal, poll-by, refusal-counts}
use Rattle.pr_probe.specs.DescriptorLines.{kind_in}
use Rattle.pr_probe.specs.ProbeStages.{file_of, is_asking_passed_over, is_interrupt, is_passed_over, lwp_of, mode_of, place_of, way_out}
use Rattle.pr_probe.specs.Probes.{ProbeState, accepted, advanced, asking_accepted, asking_call, at_stage, call_of, fed, next_call_of, refusal_in, refused, with_map, with_status}
use Rattle.pr_probe.specs.Regions.{has_room}
use Rattle.pr_probe.specs.declared.probe_stages.AskingStep.TheVariants.{SetRegisters, Run as RunAgent, Await, ReadAgent, ReadKind}
use Rattle.pr_probe.specs.declared.probe_stages.ProbeFile.{ProbeFile}
use Rattle.pr_probe.specs.declared.probe_stages.ProbeFile.TheVariants.{Control, Status, Lstatus, Map, AgentControl, AgentStatus}
use Rattle.pr_probe.specs.declared.probe_stages.ProbeStage.{ProbeStage}
use Rattle.pr_probe.specs.declared.probe_stages.ProbeStage.TheVariants as stage
use Rattle.pr_probe.specs.declared.traced_sets.SetKind.TheVariants.{Signals, Faults, Entries, Exits}
use Rattle.pr_tool_laws.proofs.Stages.ToolLemmas.{place-still}
use Rattle.pr_tool_laws.specs.Reads.{ReadsFile}
use Rattle.pr_tools.specs.Handles.{handle_at}
use Rattle.pr_tools.specs.Replies.{bytes_read}
use Rattle.pr_probe_laws.proofs.Files.FilePlaces.{HasFile, HasFirst, held_of}
use Rattle.pr_probe_laws.proofs.Hiding.HiddenPlain.{IsInOrder, is_over}
use Rattle.pr_probe_laws.proofs.Sets.SetStages.{Knows}
use Rattle.pr_probe_laws.specs.Reasons.{HasHandle, HasReason, IsCallFor, IsInterruptedPoll, IsNoRefusal, no_room, opens, polls, reads, refused as by_refusal, sends, waits, watched}

-- Why apfiles was refused: what was so up to then.

-- ---- the stages at which a refusal counts

not-over : (g : ProbeStage) (e : Errno) → is_passed_over g e ≡ false → is_over g ≡ false
unfolding is_passed_over
not-over (stage.Restore kind) e counts = absurd (false≢true (sym counts))
not-over stage.Release e counts = absurd (false≢true (sym counts))
not-over stage.Close e counts = absurd (false≢true (sym counts))
not-over _ e counts = refl

is-intr : (e : Errno) → is_interrupt e ≡ true → e ≡ Intr
unfolding is_interrupt
is-intr Intr is = refl
is-intr _ is = absurd (false≢true is)

-- elsewhere none does but an interrupt
pub passed-poll : (p : ProbeState) (g : ProbeStage) (e : Errno) (c : Call) → is_over g ≡ false
    → is_passed_over g e ≡ true → call_of p g ≡ Some c → IsInterruptedPoll c e
unfolding is_passed_over is_asking_passed_over call_of asking_call
passed-poll p (stage.Asking d Await) e c over passed same =
    record { handles = _; is = sym (same_Some _ c same); interrupted = is-intr e passed }
passed-poll p stage.AwaitExit e c over passed same =
    record { handles = _; is = sym (same_Some _ c same); interrupted = is-intr e passed }
passed-poll p (stage.Restore kind) e c over passed same = absurd (false≢true (sym over))
passed-poll p stage.Release e c over passed same = absurd (false≢true (sym over))
passed-poll p stage.Close e c over passed same = absurd (false≢true (sym over))
passed-poll p (stage.Asking d SetRegisters) e c over passed same = absurd (false≢true passed)
passed-poll p (stage.Asking d RunAgent) e c over passed same = absurd (false≢true passed)
passed-poll p (stage.Asking d ReadAgent) e c over passed same = absurd (false≢true passed)
passed-poll p (stage.Asking d ReadKind) e c over passed same = absurd (false≢true passed)
passed-poll p _ e c over passed same = absurd (false≢true passed)

-- a refusal that counts is no interrupt of a wait for the agent
abbrev is_poll : Call → Bool
is_poll (call.Poll handles) = true
is_poll _ = false

other-call : (d c : Call) (e : Errno) → Some d ≡ Some c → is_poll d ≡ false → IsInterruptedPoll c e → ⊥
other-call d c e same none it = false≢true (sym none ∙ ap is_poll (same_Some d c same ∙ it.is))

intr-counts : (e : Errno) → is_interrupt e ≡ false → e ≡ Intr → ⊥
unfolding is_interrupt
intr-counts e counts is = false≢true (sym counts ∙ ap is_interrupt is)

counted-poll : (p : ProbeState) (g : ProbeStage) (e : Errno) (c : Call) → is_passed_over g e ≡ false
    → call_of p g ≡ Some c → IsInterruptedPoll c e → ⊥
unfolding is_passed_over is_asking_passed_over call_of asking_call
counted-poll p (stage.Asking d Await) e c counts same it = intr-counts e counts it.interrupted
counted-poll p stage.AwaitExit e c counts same it = intr-counts e counts it.interrupted
counted-poll p (stage.Restore kind) e c counts same it = false≢true (sym counts)
counted-poll p stage.Release e c counts same it = false≢true (sym counts)
counted-poll p stage.Close e c counts same it = false≢true (sym counts)
counted-poll p (stage.Asking d SetRegisters) e c counts same it = other-call _ c e same refl it
counted-poll p (stage.Asking d RunAgent) e c counts same it = other-call _ c e same refl it
counted-poll p (stage.Asking d ReadAgent) e c counts same it = other-call _ c e same refl it
counted-poll p (stage.Asking d ReadKind) e c counts same it = other-call _ c e same refl it
counted-poll p _ e c counts same it = other-call _ c e same refl it

-- ---- what its process is, and that a refusal stays

pid-accepted : (p : ProbeState) (g : ProbeStage) (r : Reply) → (accepted p r g).pid ≡ p.pid
unfolding accepted asking_accepted with_status with_map refused
pid-accepted p stage.ReadMap r = by p.watched (has_room (bytes_read r))
  where
    went : (e : Errno) → (refused p e).pid ≡ p.pid
    went e = next-kept (λ t. t.pid) (λ t g. refl) (record p { refusal = Some e }) (way_out p.stage)

    by : (w room : Bool) → (cond w (refused p Busy) (cond room (advanced p) (refused p Fault))).pid ≡ p.pid
    by true room = went Busy
    by false true = advanced-kept (λ t. t.pid) (λ t g. refl) p
    by false false = went Fault
pid-accepted p (stage.Asking d Await) r =
    poll-by (λ u. u.pid ≡ p.pid) p r refl (advanced-kept (λ t. t.pid) (λ t g. refl) p)
pid-accepted p (stage.Asking d ReadAgent) r = answer-by (λ u. u.pid ≡ p.pid) p d (bytes_read r) refl refl
pid-accepted p (stage.Asking d ReadKind) r = kind-kept (λ t. t.pid) (λ t lines. refl) p d (kind_in (bytes_read r))
pid-accepted p stage.AwaitExit r =
    poll-by (λ u. u.pid ≡ p.pid) p r refl (advanced-kept (λ t. t.pid) (λ t g. refl) p)
pid-accepted p stage.Close r = refl
pid-accepted p (stage.Asking d SetRegisters) r = advanced-kept (λ t. t.pid) (λ t g. refl) _
pid-accepted p (stage.Asking d RunAgent) r = advanced-kept (λ t. t.pid) (λ t g. refl) _
pid-accepted p _ r = advanced-kept (λ t. t.pid) (λ t g. refl) _

pub fed-pid : (p : ProbeState) (r : Reply) → (fed p r).pid ≡ p.pid
unfolding refused
fed-pid p r =
    fed-by (λ u. u.pid ≡ p.pid) p r
    (λ e is. next-kept (λ t. t.pid) (λ t g. refl) (record p { refusal = Some e }) (way_out p.stage))
    (λ right. pid-accepted p p.stage r)

-- who undoes what it did is refused nothing more
over-accepted : (p : ProbeState) (g : ProbeStage) (r : Reply) → is_over g ≡ true
    → (accepted p r g).refusal ≡ p.refusal
unfolding accepted
over-accepted p (stage.Restore kind) r over = advanced-refusal p
over-accepted p stage.Release r over = advanced-refusal p
over-accepted p stage.Close r over = refl
over-accepted p _ r over = absurd (false≢true over)

over-keeps : (p : ProbeState) (r : Reply) → is_over p.stage ≡ true → (fed p r).refusal ≡ p.refusal
over-keeps p r over =
    fed-by (λ u. u.refusal ≡ p.refusal) p r
    (λ e is. absurd (false≢true (sym (not-over p.stage e (refusal-counts p.stage r e is).counts) ∙ over)))
    (λ right. over-accepted p p.stage r over)

module _ (k pid : ℕ) (first : TracedState) where
  -- no call was refused so far, unless it closes; and a watched area was seen
  pub record IsQuiet (h : List Entry) (p : ProbeState) : Type 0 where
    pub quiet : is_over p.stage ≡ false → All (IsNoRefusal k) h
    pub noted : p.watched ≡ true → HasReason k pid Busy first h

  -- it was refused nothing, or has its reason
  abbrev pub Why : List Entry → ProbeState → Option Errno → Type 0
  Why h p None = IsQuiet h p
  Why h p (Some e) = HasReason k pid e first h

  -- ---- an entry later

  more-quiet : (h : List Entry) (e : Entry) → IsNoRefusal k e → All (IsNoRefusal k) h
      → All (IsNoRefusal k) (h ++ e ∷ [])
  more-quiet h e none all =
      All-append (IsNoRefusal k) h (e ∷ []) all
      (All-cons (IsNoRefusal k) e [] none (All-nil (IsNoRefusal k)))

  reason-still : (h : List Entry) (x : Entry) (e : Errno) → HasReason k pid e first h
      → HasReason k pid e first (h ++ x ∷ [])
  reason-still h x e it = record {
    before = it.before;
    call = it.call;
    reply = it.reply;
    after = it.after ++ x ∷ [];
    place = place-still h it.before (call_entry k it.call it.reply) it.after x it.place;
    earlier = it.earlier;
    reason = it.reason;
  }

  pub why-still : (h : List Entry) (x : Entry) → IsNoRefusal k x → (p : ProbeState) (o : Option Errno) → Why h p o
      → Why (h ++ x ∷ []) p o
  why-still h x none p None so = record {
    quiet = λ over. more-quiet h x none (so.quiet over);
    noted = λ is. reason-still h x Busy (so.noted is);
  }
  why-still h x none p (Some e) so = reason-still h x e so

  -- ---- its calls

  module _ (h : List Entry) (c : Call) (r : Reply) where
    abbrev s : TracedState
    s = state_after first h

    abbrev it : Entry
    it = call_entry k c r

    abbrev longer : List Entry
    longer = h ++ it ∷ []

    module _ (p : ProbeState) (many : ℕ) (holds : HasFirst k pid many s.opens p.opened) (f : ProbeFile)
        (below : place_of f < many) where
      its_file : HasFile k pid s.opens p.opened f
      its_file = holds.each f below

      has : HasHandle k pid (number_of (handle_at p.opened (place_of f))) s
      has = record {
        held = held_of k pid f;
        there =
            subst (λ (o : Option ℕ). handle_in s.opens k (number_of o) ≡ Some (held_of k pid f)) (sym its_file.at)
            its_file.stands;
        of = refl;
      }

      sends-it : (bytes : List ℕ) → Some (call.Ctl (number_of (handle_at p.opened (place_of f))) bytes) ≡ Some c
          → IsCallFor k pid s c
      sends-it bytes same = subst (IsCallFor k pid s) (same_Some _ c same) (sends has)

      reads-it : Some (call.Read (number_of (handle_at p.opened (place_of f))) 0 read_limit) ≡ Some c
          → IsCallFor k pid s c
      reads-it same = subst (IsCallFor k pid s) (same_Some _ c same) (reads has)

      polls-it : Some (call.Poll (number_of (handle_at p.opened (place_of f)) ∷ [])) ≡ Some c → IsCallFor k pid s c
      polls-it same = subst (IsCallFor k pid s) (same_Some _ c same) (polls has)

      waits-it : (until : ℕ) (bytes : List ℕ)
          → Some (call.CtlWait (number_of (handle_at p.opened (place_of f))) until bytes) ≡ Some c
          → IsCallFor k pid s c
      waits-it until bytes same = subst (IsCallFor k pid s) (same_Some _ c same) (waits has)

      reads-file : (name : File) → file_of f ≡ name
          → Some (call.Read (number_of (handle_at p.opened (place_of f))) 0 read_limit) ≡ Some c
          → ReadsFile k pid name s c
      reads-file name named same = record {
        handle = its_file.number;
        held = held_of k pid f;
        is_read = sym (same_Some _ c same) ∙ ap (λ (o : Option ℕ). call.Read (number_of o) 0 read_limit) its_file.at;
        there = its_file.stands;
        of = refl;
        file = named;
      }

    opens-it : (p : ProbeState) (f : ProbeFile) → p.pid ≡ pid
        → Some (call.Open p.pid (lwp_of f) (file_of f) (mode_of f)) ≡ Some c → IsCallFor k pid s c
    opens-it p f its same =
        subst (IsCallFor k pid s)
        (ap (λ (q : ℕ). call.Open q (lwp_of f) (file_of f) (mode_of f)) (sym its) ∙ same_Some _ c same) opens

    -- a call of which a refusal counts has to do with its process
    call-for : (p : ProbeState) (g : ProbeStage) (e : Errno) → is_passed_over g e ≡ false → Knows k pid first h s p g
        → call_of p g ≡ Some c → IsCallFor k pid s c
    unfolding Knows call_of asking_call is_passed_over place_of
    call-for p (stage.Open Control) e counts so same = opens-it p Control so.0 same
    call-for p (stage.Open Status) e counts so same = opens-it p Status so.its same
    call-for p (stage.Open Lstatus) e counts so same = opens-it p Lstatus so.its same
    call-for p (stage.Open Map) e counts so same = opens-it p Map so.its same
    call-for p (stage.Open AgentControl) e counts so same = opens-it p AgentControl so.its same
    call-for p (stage.Open AgentStatus) e counts so same = opens-it p AgentStatus so.its same
    call-for p stage.ReadFirst e counts so same = reads-it p 4 so.holds Lstatus (omega arith) same
    call-for p stage.AwaitStop e counts so same = waits-it p 4 so.holds Control (omega arith) _ _ same
    call-for p stage.ReadStatus e counts so same = reads-it p 4 so.holds Status (omega arith) same
    call-for p stage.ReadMap e counts so same = reads-it p 4 so.holds Map (omega arith) same
    call-for p stage.Stop e counts so same = sends-it p 4 so.holds Control (omega arith) _ same
    call-for p stage.SaveCode e counts so same = sends-it p 4 so.holds Control (omega arith) _ same
    call-for p stage.SaveStack e counts so same = sends-it p 4 so.holds Control (omega arith) _ same
    call-for p (stage.Trace kind) e counts so same = sends-it p 4 so.holds Control (omega arith) _ same
    call-for p stage.MakeAgent e counts so same = sends-it p 4 so.holds Control (omega arith) _ same
    call-for p (stage.Asking d SetRegisters) e counts so same =
        sends-it p 6 so.holds AgentControl (omega arith) _ same
    call-for p (stage.Asking d RunAgent) e counts so same = sends-it p 6 so.holds AgentControl (omega arith) _ same
    call-for p (stage.Asking d Await) e counts so same = polls-it p 6 so.holds AgentControl (omega arith) same
    call-for p (stage.Asking d ReadAgent) e counts so same = reads-it p 6 so.holds AgentStatus (omega arith) same
    call-for p stage.SetExit e counts so same = sends-it p 6 so.holds AgentControl (omega arith) _ same
    call-for p stage.RunExit e counts so same = sends-it p 6 so.holds AgentControl (omega arith) _ same
    call-for p stage.AwaitExit e counts so same = polls-it p 6 so.holds AgentControl (omega arith) same
    call-for p (stage.Retrace Signals) e counts so same = sends-it p 6 so.holds Control (omega arith) _ same
    call-for p (stage.Retrace Faults) e counts so same = sends-it p 6 so.holds Control (omega arith) _ same
    call-for p (stage.Retrace Entries) e counts so same = sends-it p 6 so.holds Control (omega arith) _ same
    call-for p (stage.Retrace Exits) e counts so same = sends-it p 6 so.holds Control (omega arith) _ same
    call-for p (stage.Restore kind) e counts so same = absurd so
    call-for p stage.Release e counts so same = absurd so
    call-for p stage.Close e counts so same = absurd (false≢true (sym counts))
    call-for p _ e counts so same = sends-it p 6 so.holds Control (omega arith) _ same

    -- ---- what was not refused

    not-denied : (g : ProbeStage) (e : Errno) → refusal_in g (reply.Fail e) ≡ None → is_passed_over g e ≡ true
    unfolding refusal_in
    not-denied g e none = by (is_passed_over g e) none
      where
        by : (b : Bool) → cond b None (Some e) ≡ None → b ≡ true
        by true is = refl
        by false is = absurd (none-some e (sym is))

    quiet-now : (p : ProbeState) (g : ProbeStage) → is_over g ≡ false → call_of p g ≡ Some c → refusal_in g r ≡ None
        → All (IsNoRefusal k) h → All (IsNoRefusal k) longer
    quiet-now p g over same right all = more-quiet h it none all
      where
        none : IsNoRefusal k it
        none d e is =
            let made : act.Call c r ≡ act.Call d (reply.Fail e) = ap (λ (x : Entry). x.act) is in
            let its : c ≡ d = cc in
            let denied : r ≡ reply.Fail e = cc in
            subst (λ (x : Call). IsInterruptedPoll x e) its
            (passed-poll p g e c over (not-denied g e (ap (refusal_in g) (sym denied) ∙ right)) same)

    -- ---- a reply more

    abbrev Now : ProbeState → Type 0
    Now u = Why longer u u.refusal

    new-why : (u : ProbeState) → u.refusal ≡ None → (is_over u.stage ≡ false → All (IsNoRefusal k) longer)
        → (u.watched ≡ true → HasReason k pid Busy first longer) → Now u
    new-why u none quiet noted =
        subst (Why longer u) (sym none) (record { quiet = quiet; noted = noted })

    same-why : (p u : ProbeState) → u.refusal ≡ None → u.watched ≡ p.watched
        → (is_over u.stage ≡ false → All (IsNoRefusal k) longer) → IsQuiet h p → Now u
    same-why p u none areas quiet so =
        new-why u none quiet (λ is. reason-still h it Busy (so.noted (sym areas ∙ is)))

    refused-why : (p : ProbeState) (e : Errno) → HasReason k pid e first longer → Now (refused p e)
    unfolding refused
    refused-why p e reason =
        subst (Why longer (refused p e)) (sym (next-refusal (record p { refusal = Some e }) (way_out p.stage))) reason

    accepted-why : (p : ProbeState) (g : ProbeStage) → IsQuiet h (at_stage p g) → p.refusal ≡ None
        → Knows k pid first h s (at_stage p g) g → call_of (at_stage p g) g ≡ Some c → refusal_in g r ≡ None
        → Now (accepted (at_stage p g) r g)
    unfolding Knows call_of accepted asking_accepted with_map with_status place_of file_of
    accepted-why p stage.ReadStatus so none knows same right =
        let q : ProbeState = at_stage p stage.ReadStatus in
        let seen : ProbeState = with_status q (bytes_read r) in
        new-why (advanced seen) (advanced-refusal seen ∙ none)
        (λ over. quiet-now q stage.ReadStatus refl same right (so.quiet refl))
        (λ is. record {
          before = h;
          call = c;
          reply = r;
          after = [];
          place = refl;
          earlier = so.quiet refl;
          reason =
              watched (reads-file q 4 knows.holds Status (omega arith) file.Status refl same)
              (sym (advanced-kept (λ t. t.watched) (λ t g. refl) seen) ∙ is);
        })
    accepted-why p stage.ReadMap so none knows same right =
        by p.watched refl (has_room (bytes_read r)) refl
      where
        by : (w : Bool) → p.watched ≡ w → (room : Bool) → has_room (bytes_read r) ≡ room
            → Now (cond w (refused (at_stage p stage.ReadMap) Busy)
            (cond room (advanced (at_stage p stage.ReadMap)) (refused (at_stage p stage.ReadMap) Fault)))
        by true is room given = refused-why (at_stage p stage.ReadMap) Busy (reason-still h it Busy (so.noted is))
        by false is true given =
            same-why (at_stage p stage.ReadMap) _ (advanced-refusal (at_stage p stage.ReadMap) ∙ none)
            (advanced-kept (λ t. t.watched) (λ t g. refl) (at_stage p stage.ReadMap))
            (λ over. quiet-now (at_stage p stage.ReadMap) stage.ReadMap refl same right (so.quiet refl)) so
        by false is false given =
            refused-why (at_stage p stage.ReadMap) Fault
            (record {
              before = h;
              call = c;
              reply = r;
              after = [];
              place = refl;
              earlier = so.quiet refl;
              reason =
                  no_room (reads-file (at_stage p stage.ReadMap) 4 knows.holds Map (omega arith) file.Map refl same)
                  given;
            })
    accepted-why p stage.Close so none knows same right =
        same-why (at_stage p stage.Close) _ none refl (λ over. absurd (false≢true (sym over))) so
    accepted-why p (stage.Restore kind) so none knows same right = absurd knows
    accepted-why p stage.Release so none knows same right = absurd knows
    accepted-why p (stage.Asking d Await) so none knows same right =
        let q : ProbeState = at_stage p (stage.Asking d Await) in
        let all : All (IsNoRefusal k) longer =
        quiet-now q (stage.Asking d Await) refl same right (so.quiet refl) in
        poll-by Now q r (same-why q q none refl (λ over. all) so)
        (same-why q (advanced q) (advanced-refusal q ∙ none) (advanced-kept (λ t. t.watched) (λ t g. refl) q)
        (λ over. all) so)
    accepted-why p stage.AwaitExit so none knows same right =
        let q : ProbeState = at_stage p stage.AwaitExit in
        let all : All (IsNoRefusal k) longer = quiet-now q stage.AwaitExit refl same right (so.quiet refl) in
        poll-by Now q r (same-why q q none refl (λ over. all) so)
        (same-why q (advanced q) (advanced-refusal q ∙ none) (advanced-kept (λ t. t.watched) (λ t g. refl) q)
        (λ over. all) so)
    accepted-why p (stage.Asking d ReadAgent) so none knows same right =
        let q : ProbeState = at_stage p (stage.Asking d ReadAgent) in
        let all : All (IsNoRefusal k) longer =
        quiet-now q (stage.Asking d ReadAgent) refl same right (so.quiet refl) in
        answer-by Now q d (bytes_read r) (same-why q _ none refl (λ over. all) so)
        (same-why q _ none refl (λ over. all) so)
    accepted-why p (stage.Asking d ReadKind) so none knows same right =
        let q : ProbeState = at_stage p (stage.Asking d ReadKind) in
        let all : All (IsNoRefusal k) longer =
        quiet-now q (stage.Asking d ReadKind) refl same right (so.quiet refl) in
        same-why q _ (kind-kept (λ t. t.refusal) (λ t lines. refl) q d (kind_in (bytes_read r)) ∙ none)
        (kind-kept (λ t. t.watched) (λ t lines. refl) q d (kind_in (bytes_read r))) (λ over. all) so
    accepted-why p (stage.Asking d SetRegisters) so none knows same right =
        same-why (at_stage p (stage.Asking d SetRegisters)) _ (advanced-refusal _ ∙ none)
        (advanced-kept (λ t. t.watched) (λ t g. refl) _)
        (λ over. quiet-now (at_stage p (stage.Asking d SetRegisters)) (stage.Asking d SetRegisters) refl same right
        (so.quiet refl)) so
    accepted-why p (stage.Asking d RunAgent) so none knows same right =
        same-why (at_stage p (stage.Asking d RunAgent)) _ (advanced-refusal _ ∙ none)
        (advanced-kept (λ t. t.watched) (λ t g. refl) _)
        (λ over. quiet-now (at_stage p (stage.Asking d RunAgent)) (stage.Asking d RunAgent) refl same right
        (so.quiet refl)) so
    accepted-why p g so none knows same right =
        same-why (at_stage p g) _ (advanced-refusal _ ∙ none) (advanced-kept (λ t. t.watched) (λ t g. refl) _)
        (λ over. quiet-now (at_stage p g) g refl same right (so.quiet refl)) so

    pub called-why : (p : ProbeState) → next_call_of p ≡ Some c
        → (p.refusal ≡ None → Knows k pid first h s p p.stage) → IsInOrder p → Why h p p.refusal → Now (fed p r)
    unfolding next_call_of
    called-why p next knows order so = by p.refusal refl
      where
        by : (o : Option Errno) → p.refusal ≡ o → Now (fed p r)
        by (Some e) is =
            subst (Why longer (fed p r)) (sym (over-keeps p r (order.refused e is) ∙ is))
            (reason-still h it e (subst (Why h p) is so))
        by None none =
            let quiet : IsQuiet h p = subst (Why h p) none so in
            fed-by Now p r
            (λ e is.
            let denied = refusal-counts p.stage r e is in
            refused-why p e
            (record {
              before = h;
              call = c;
              reply = r;
              after = [];
              place = refl;
              earlier = quiet.quiet (not-over p.stage e denied.counts);
              reason =
                  by_refusal (call-for p p.stage e denied.counts (knows none) next) denied.reply
                  (counted-poll p p.stage e c denied.counts next);
            }))
            (λ right. accepted-why p p.stage quiet none (knows none) next right)
