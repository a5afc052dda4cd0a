use Rattle.std.proofs.Common.{◌≡◌, ◌==◌, ◌∷◌, ◌++◌, ◌∙◌, ℕ, Bool, true, false, cond, List, [], Option, Some, None, is_some, option_map, refl, sym, subst, ap}
use Rattle.std.proofs.lemmas.Bool.{false≢true}
use Rattle.std.proofs.lemmas.List.Elements.{All-append, All-cons, All-nil}
use Rattle.std.proofs.lemmas.Option.{none-some, same_Some}
use Rattle.pr_api.specs.Entries.{call_entry}
use Rattle.pr_model.specs.Legal.{after, state_after}
use Rattle.pr_model.specs.State.{TracedState}
use Rattle.pr_model.specs.declared.calls.Call.{Call}
use Rattle.pr_model.specs.declared.calls.Call.TheVariants as call
use Rattle.pr_model.specs.declared.calls.Reply.{Reply}
use Rattle.pr_model.specs.declared.calls.Reply.TheVariants as reply
use Rattle.pr_model.specs.declared.events.Act.TheVariants as act
use Rattle.pr_model.specs.declared.events.Entry.{Entry}
use Rattle.pr_model.specs.declared.tools.ToolKind.{ToolKind}
use Rattle.pr_model.specs.declared.tools.ToolKind.TheVariants.{Pflags, Psig, Pstack, Pmap, Pfiles, Pstop, Prun, Pwait, Ptree}
use Rattle.pr_num.specs.Layout.{text_base}
use Rattle.pr_num.specs.declared.errnos.Errno.{Errno}
use Rattle.pr_num.specs.declared.errnos.Errno.TheVariants.{Io}
use Rattle.pr_tools.specs.Calls.{short_read}
use Rattle.pr_tools.specs.Handles.{last_open}
use Rattle.pr_tools.specs.Replies.{is_passed_over, is_unmapped, refusal_in}
use Rattle.pr_tools.specs.Steps.{after as step_after, after_in_prun, after_in_pstack, after_in_pstop, after_in_ptree, after_in_pwait, after_in_reader, way_out, way_out_of_pstack}
use Rattle.pr_tools.specs.Tools.{ToolState, accepted, advanced, answered, call_of, fed, frame_of, memory_file, next_call_of, refused, with_closed, with_next}
use Rattle.pr_tools.specs.declared.steps.Step.{Step}
use Rattle.pr_tools.specs.declared.steps.Step.TheVariants as step
use Rattle.pr_tool_laws.proofs.ToolCalls.CallRows.{closes, memory, own-row}
use Rattle.pr_tool_laws.proofs.ToolCalls.ToolFiles.{Ready}
use Rattle.pr_tool_laws.proofs.RunningAgain.LeavingLemmas.{entry-call}
use Rattle.pr_tool_laws.proofs.Stages.KindLemmas.{accepted-same}
use Rattle.pr_tool_laws.proofs.Stages.ToolLemmas.{place-still}
use Rattle.pr_tool_laws.specs.ToolRefusals.{GoesUnrefused, HasReason, IsPassedOver, IsWayOut, LeavesAtMost, closes as by_close, runs as by_run}

-- Why a tool was refused: what was so up to then, and since then.

-- ---- the steps by which a tool leaves

abbrev pub leaves : Step → Bool
leaves step.Release = true
leaves step.Close = true
leaves _ = false

leaves-passes : (p : Step) (r : Reply) → leaves p ≡ true → refusal_in p r ≡ None
unfolding refusal_in is_passed_over
leaves-passes step.Release (reply.Fail e) is = refl
leaves-passes step.Release _ is = refl
leaves-passes step.Close (reply.Fail e) is = refl
leaves-passes step.Close _ is = refl
leaves-passes _ r is = absurd (false≢true is)

stays-open : (p : Step) → leaves p ≡ false → closes p ≡ false
stays-open step.Close is = absurd (false≢true (sym is))
stays-open _ is = refl

-- a step by which a tool leaves is followed by one
release-over : (kind : ToolKind) → step_after kind step.Release ≡ step.Close
unfolding step_after after_in_reader after_in_pstop after_in_prun after_in_pwait after_in_ptree after_in_pstack
release-over Pflags = refl
release-over Psig = refl
release-over Pstack = refl
release-over Pmap = refl
release-over Pfiles = refl
release-over Pstop = refl
release-over Prun = refl
release-over Pwait = refl
release-over Ptree = refl

leaves-on : (t : ToolState) (r : Reply) (p : Step) → t.step ≡ p → leaves p ≡ true
    → leaves (accepted t r p).step ≡ true
unfolding accepted advanced with_next with_closed
leaves-on t r step.Release at is =
    subst (λ (q : Step). leaves (with_next t q).step ≡ true)
    (sym (ap (step_after t.kind) at ∙ release-over t.kind)) refl
leaves-on t r step.Close at is = ap leaves at
leaves-on t r _ at is = absurd (false≢true is)

out-leaves : (kind : ToolKind) (p : Step) → leaves (way_out kind p) ≡ true
unfolding way_out way_out_of_pstack
out-leaves Pstack step.AwaitStop = refl
out-leaves Pstack step.ReadFile = refl
out-leaves Pstack step.ReadText = refl
out-leaves Pstack step.ReadFrame = refl
out-leaves Pstack step.Run = refl
out-leaves Pstack _ = refl
out-leaves _ p = refl

-- a tool at any other step was not refused
unrefused : (t : ToolState) → (is_some t.refusal ≡ true → leaves t.step ≡ true) → leaves t.step ≡ false
    → t.refusal ≡ None
unrefused t leaving stays = by t.refusal refl
  where
    by : (o : Option Errno) → t.refusal ≡ o → o ≡ None
    by None was = refl
    by (Some e) was = absurd (false≢true (sym stays ∙ leaving (ap (λ (x : Option Errno). is_some x) was)))

-- ---- refusals

-- a reply that refuses a step is a refusal that counts there
record Counts (p : Step) (r : Reply) (e : Errno) : Type 0 where
  is : r ≡ reply.Fail e
  counts : is_passed_over p e ≡ false

refusal-counts : (p : Step) (r : Reply) (e : Errno) → refusal_in p r ≡ Some e → Counts p r e
unfolding refusal_in
refusal-counts p (reply.Fail d) e same = by (is_passed_over p d) refl same
  where
    by : (b : Bool) → is_passed_over p d ≡ b → cond b None (Some d) ≡ Some e → Counts p (reply.Fail d) e
    by true is it = absurd (none-some e it)
    by false is it =
        let one : d ≡ e = same_Some d e it in
        record { is = ap reply.Fail one; counts = ap (is_passed_over p) (sym one) ∙ is }
refusal-counts p _ e same = absurd (none-some e same)

-- and one that does not is passed over
passed-over : (p : Step) (e : Errno) → refusal_in p (reply.Fail e) ≡ None → is_passed_over p e ≡ true
unfolding refusal_in
passed-over p e same = by (is_passed_over p e) same
  where
    by : (b : Bool) → cond b None (Some e) ≡ None → b ≡ true
    by true it = refl
    by false it = absurd (none-some e (sym it))

is-io : (e : Errno) → is_unmapped e ≡ true → e ≡ Io
unfolding is_unmapped
is-io Io is = refl
is-io _ is = absurd (false≢true is)

-- whether a call reads as many bytes as pstack reads of memory
abbrev is_short : Call → Bool
is_short (call.Read handle from len) = len == short_read
is_short _ = false

module _ (k pid : ℕ) (kind : ToolKind) (s : TracedState) (c : Call) (t : ToolState) (e : Errno) where
  other-call : (d : Call) → Some d ≡ Some c → is_short d ≡ false → IsPassedOver kind k pid s c e → ⊥
  other-call d same long it = false≢true (sym long ∙ ap is_short (same_Some d c same ∙ it.reads))

  -- a refusal that counts is none that is passed over
  counted : (p : Step) → is_passed_over p e ≡ false → call_of t p ≡ Some c → IsPassedOver kind k pid s c e → ⊥
  unfolding call_of is_passed_over is_unmapped
  counted step.ReadText counts same it = false≢true (sym counts ∙ ap is_unmapped it.unmapped)
  counted step.ReadFrame counts same it = false≢true (sym counts ∙ ap is_unmapped it.unmapped)
  counted step.Release counts same it = false≢true (sym counts)
  counted step.Close counts same it = false≢true (sym counts)
  counted p counts same it = other-call _ same refl it

  -- and one that is passed over at a step at which a tool does not leave is such a one
  passed-row : (p : Step) → t.kind ≡ kind → t.pid ≡ pid → leaves p ≡ false → is_passed_over p e ≡ true
      → Ready k pid kind s t p → call_of t p ≡ Some c → IsPassedOver kind k pid s c e
  unfolding Ready call_of is_passed_over
  passed-row step.ReadText is its stays passed it same = record {
    pstack = it.0;
    handle = memory_file t;
    from = text_base;
    reads = sym (same_Some _ c same);
    memory = memory k pid s c kind t is its it.1.memory;
    unmapped = is-io e passed;
  }
  passed-row step.ReadFrame is its stays passed it same = record {
    pstack = it.0;
    handle = memory_file t;
    from = frame_of t.walk;
    reads = sym (same_Some _ c same);
    memory = memory k pid s c kind t is its it.1.memory;
    unmapped = is-io e passed;
  }
  passed-row step.Release is its stays passed it same = absurd (false≢true (sym stays))
  passed-row step.Close is its stays passed it same = absurd (false≢true (sym stays))
  passed-row _ is its stays passed it same = absurd (false≢true passed)

-- the call of a step by which a tool leaves
way-row : (k pid : ℕ) (kind : ToolKind) (s : TracedState) (c : Call) (t : ToolState) (p : Step) → leaves p ≡ true
    → Ready k pid kind s t p → call_of t p ≡ Some c → IsWayOut kind c
unfolding Ready call_of
way-row k pid kind s c t step.Release is it same =
    subst (λ (x : ToolKind). IsWayOut x c) (sym it.0) (subst (IsWayOut Pstack) (same_Some _ c same) by_run)
way-row k pid kind s c t step.Close is it same = by (last_open t.opened) same
  where
    by : (o : Option ℕ) → option_map call.Close o ≡ Some c → IsWayOut kind c
    by None none = absurd (none-some c none)
    by (Some number) some = subst (IsWayOut kind) (same_Some (call.Close number) c some) by_close
way-row k pid kind s c t _ is it same = absurd (false≢true is)

-- ---- along a history

module _ (kind : ToolKind) (k pid : ℕ) (first : TracedState) where
  -- an entry may be a refusal of this kind alone
  abbrev pub MayRefuse : TracedState → Entry → Type 0
  MayRefuse s e = (c : Call) (d : Errno) → e ≡ call_entry k c (reply.Fail d) → IsPassedOver kind k pid s c d

  unrefused-more : (s : TracedState) (h : List Entry) (e : Entry) → GoesUnrefused kind k pid s h
      → MayRefuse (state_after s h) e → GoesUnrefused kind k pid s (h ++ e ∷ [])
  unrefused-more s [] e it may = (may, tt)
  unrefused-more s (d ∷ h) e it may = (it.0, unrefused-more (after s d) h e it.1 may)

  abbrev pub ReasonOf : List Entry → Option Errno → Type 0
  ReasonOf h None = Unit {0}
  ReasonOf h (Some e) = HasReason kind k pid e first h

  -- up to a refusal none was, and a tool that was refused has its reason and leaves
  pub record Why (h : List Entry) (t : ToolState) : Type 0 where
    pub quiet : t.refusal ≡ None → leaves t.step ≡ false → GoesUnrefused kind k pid first h
    pub leaving : is_some t.refusal ≡ true → leaves t.step ≡ true
    pub reason : ReasonOf h t.refusal

  reason-still : (h : List Entry) (x : Entry) → LeavesAtMost kind k x → (o : Option Errno) → ReasonOf h o
      → ReasonOf (h ++ x ∷ []) o
  reason-still h x way None it = tt
  reason-still h x way (Some e) it = record {
    before = it.before;
    call = it.call;
    after = it.after ++ x ∷ [];
    place = place-still h it.before (call_entry k it.call (reply.Fail e)) it.after x it.place;
    own = it.own;
    counts = it.counts;
    earlier = it.earlier;
    leaves =
        All-append (LeavesAtMost kind k) it.after (x ∷ []) it.leaves
        (All-cons (LeavesAtMost kind k) x [] way (All-nil (LeavesAtMost kind k)));
  }

  pub why-still : (h : List Entry) (x : Entry) → ((c : Call) (r : Reply) → x ≡ call_entry k c r → ⊥)
      → (t : ToolState) → Why h t → Why (h ++ x ∷ []) t
  why-still h x none t it = record {
    quiet = λ accepted stays.
        unrefused-more first h x (it.quiet accepted stays)
        (λ c d same. absurd (none c (reply.Fail d) same));
    leaving = it.leaving;
    reason = reason-still h x (λ c r same. absurd (none c r same)) t.refusal it.reason;
  }

  module _ (h : List Entry) (c : Call) (r : Reply) where
    abbrev s : TracedState
    s = state_after first h

    abbrev longer : List Entry
    longer = h ++ call_entry k c r ∷ []

    module _ (t : ToolState) (next : next_call_of t ≡ Some c) (is : t.kind ≡ kind) (its : t.pid ≡ pid)
        (ready : Ready k pid kind s t t.step) where
      -- what its entry may refuse, where the reply is taken
      taken : refusal_in t.step r ≡ None → leaves t.step ≡ false → MayRefuse s (call_entry k c r)
      unfolding next_call_of
      taken none stays d e same =
          let one : c ≡ d = entry-call k c d r (reply.Fail e) same in
          let made : act.Call c r ≡ act.Call d (reply.Fail e) = ap (λ (x : Entry). x.act) same in
          let failed : r ≡ reply.Fail e = cc in
          subst (λ (x : Call). IsPassedOver kind k pid s x e) one
          (passed-row k pid kind s c t e t.step is its stays
          (passed-over t.step e (ap (refusal_in t.step) (sym failed) ∙ none)) ready next)

      way : leaves t.step ≡ true → LeavesAtMost kind k (call_entry k c r)
      unfolding next_call_of
      way leaving d v same =
          subst (IsWayOut kind) (entry-call k c d r v same)
          (way-row k pid kind s c t t.step leaving ready next)

      -- a reply that is taken
      taken-why : refusal_in t.step r ≡ None → Why h t → Why longer (accepted t r t.step)
      taken-why none it = by (leaves t.step) refl
        where
          same : (accepted t r t.step).refusal ≡ t.refusal
          same = (accepted-same t r t.step).2

          by : (b : Bool) → leaves t.step ≡ b → Why longer (accepted t r t.step)
          by true leaving = record {
            quiet = λ accepts stays.
                absurd (false≢true (sym stays ∙ leaves-on t r t.step refl leaving));
            leaving = λ was. leaves-on t r t.step refl leaving;
            reason =
                subst (ReasonOf longer) (sym same)
                (reason-still h (call_entry k c r) (way leaving) t.refusal it.reason);
          }
          by false stays =
              let not : t.refusal ≡ None = unrefused t it.leaving stays in
              record {
                quiet = λ accepts later.
                    unrefused-more first h (call_entry k c r) (it.quiet not stays) (taken none stays);
                leaving = λ was.
                    absurd (false≢true (sym (ap (λ (x : Option Errno). is_some x) (same ∙ not)) ∙ was));
                reason = subst (ReasonOf longer) (sym (same ∙ not)) tt;
              }

      -- a reply that refuses
      refused-why : (e : Errno) → refusal_in t.step r ≡ Some e → Why h t → Why longer (refused t e)
      unfolding refused next_call_of
      refused-why e some it = by (leaves t.step) refl
        where
          it_counts : Counts t.step r e
          it_counts = refusal-counts t.step r e some

          by : (b : Bool) → leaves t.step ≡ b → Why longer (refused t e)
          by true leaving = absurd (none-some e (sym (leaves-passes t.step r leaving) ∙ some))
          by false stays = record {
            quiet = λ accepts later. absurd (none-some e (sym accepts));
            leaving = λ was. out-leaves t.kind t.step;
            reason = record {
              before = h;
              call = c;
              after = [];
              place = ap (λ (v : Reply). h ++ call_entry k c v ∷ []) it_counts.is;
              own = own-row k pid s c kind t is its t.step (stays-open t.step stays) ready next;
              counts = counted k pid kind s c t e t.step it_counts.counts next;
              earlier = it.quiet (unrefused t it.leaving stays) stays;
              leaves = All-nil (LeavesAtMost kind k);
            };
          }

      pub called-why : Why h t → Why longer (fed t r)
      unfolding fed
      called-why it = by (refusal_in t.step r) refl
        where
          by : (o : Option Errno) → refusal_in t.step r ≡ o → Why longer (answered t r o)
          by None none = taken-why none it
          by (Some e) some = refused-why e some it
