use Rattle.std.proofs.Common.{◌≡◌, ◌≢◌, ◌≤◌, ◌+◌, ℕ, Bool, true, false, cond, inl, inr, Option, Some, None, List, length, refl, sym, subst, ap, ◌∙◌, arith}
use Rattle.std.proofs.lemmas.List.{get_or-set_other, length-set}
use Rattle.std.proofs.lemmas.Option.{same_Some}
use Rattle.std.specs.List.{slice_set}
use Rattle.pr_line.specs.declared.options.Options.{Options}
use Rattle.pr_model.specs.declared.calls.Call.{Call}
use Rattle.pr_model.specs.declared.calls.Reply.{Reply}
use Rattle.pr_num.specs.declared.messages.Message.TheVariants as message
use Rattle.pr_truss.specs.Asides.{marks_at, patching, with_aside, with_lifts, with_marks}
use Rattle.pr_truss.specs.Closings.{with_closing}
use Rattle.pr_truss.specs.Feeding.{fed, with_reply}
use Rattle.pr_truss.specs.FunctionCalls.{call_beside, function_call_of, next_function_call_of}
use Rattle.pr_truss.specs.FunctionFeeding.{after_first, after_patch, fed_functions, planted_if, with_aside_answered, with_function_reply, with_patch_answered, with_pending_told, without_planted}
use Rattle.pr_truss.specs.FunctionStops.{after_function_text, with_function_status_answered, with_function_text_answered}
use Rattle.pr_truss.specs.Marks.{first_function, has_functions, without_function}
use Rattle.pr_truss.specs.Messages.{message_call}
use Rattle.pr_truss.specs.NextCalls.{call_of, next_call_of}
use Rattle.pr_truss.specs.Replies.{answer_of}
use Rattle.pr_truss.specs.Stops.{with_text_answered}
use Rattle.pr_truss.specs.Trusses.{TrussState, nobody, traced_at}
use Rattle.pr_truss.specs.declared.asides.Aside.{Aside}
use Rattle.pr_truss.specs.declared.asides.Aside.TheVariants.{Nothing, Patching}
use Rattle.pr_truss.specs.declared.marks.Marks.{Marks}
use Rattle.pr_truss.specs.declared.processes.Traced.{Traced}
use Rattle.pr_truss.specs.declared.replies.Answer.{Answer}
use Rattle.pr_truss.specs.declared.replies.Answer.TheVariants.{Accepted, Interrupted, Gone, Refused}
use Rattle.pr_truss.specs.declared.stages.AfterClosing.TheVariants.{OpenNext, GoOn, RunParent}
use Rattle.pr_truss.specs.declared.stages.Stage.{Stage}
use Rattle.pr_truss.specs.declared.stages.Stage.TheVariants.{ReadingStatus, ReadingText, OpeningChildControl, OpeningChild, Running, Closing}
use Rattle.pr_truss_laws.proofs.Files.HeldLemmas.{IsLast, at_place}
use Rattle.pr_truss_laws.proofs.Soon.LeavingLemmas.{Stands, files}
use Rattle.pr_truss_laws.proofs.Soon.PolledLemmas.{Near, Nears}
use Rattle.pr_truss_laws.specs.Exchanges.{Exchange}
use Rattle.pr_truss_laws.specs.Polled as polled
use Rattle.pr_function_laws.proofs.Marks.MarkLemmas.{MarksAreBelow, members, without-first}
use Rattle.pr_function_laws.proofs.Marks.SoundLemmas.{IsSound}
use Rattle.pr_function_laws.specs.Soon.{IsNoEndOf}
use Rattle.pr_function_laws.proofs.NextCalls.LookReads as look-reads
use Rattle.pr_function_laws.proofs.NextCalls.LookReads.{IsBeside, any_step, patch-beside, patch-few, todo}

-- Each reply in the look at a process brings its end nearer: a row a stage, and where a breakpoint is planted or
-- lifted.

module _ (o : Options) (has : has_functions o ≡ true) (p : Traced) (k : ℕ) where
  abbrev F : ℕ
  F = length o.functions

  abbrev Look : (n : ℕ) (s : TrussState) → Type 0
  Look = look-reads.Look o has p k

  abbrev Next : (n : ℕ) (s : TrussState) → Type 0
  Next = look-reads.Next o has p k

  abbrev near-with : (left : ℕ) (u : TrussState) (a : Aside) → Near p k left u → Near p k left (with_aside u a)
  near-with = look-reads.near-with o has p k

  abbrev near-at : (left : ℕ) (u v : TrussState) (stage : Stage) → v.traced ≡ u.traced → v.leaving ≡ u.leaving
      → v.stage ≡ stage → Nears v.traced k left stage → Stands p u k → u.leaving ≡ false → Near p k left v
  near-at = look-reads.near-at o has p k

  abbrev marked-stands : (s : TrussState) (m : Marks) → Stands p s k → Stands p (with_marks s k m) k
  marked-stands = look-reads.marked-stands o has p k

  module _ (s : TrussState) (n : ℕ) (l : Look n s) (w : IsSound o any_step s) (y : Exchange) (none : IsNoEndOf p y)
      (calm : answer_of y.reply ≢ Interrupted) where
    abbrev r : Reply
    r = y.reply

    abbrev here : Stands p s k
    here = look-reads.here o has p k s n l w y none calm

    abbrev stays : s.leaving ≡ false
    stays = look-reads.stays o has p k s n l w y none calm

    abbrev marks : MarksAreBelow F any_step (marks_at s k)
    marks = look-reads.marks o has p k s n l w y none calm

    abbrev Comes : (u : TrussState) → Type 0
    Comes = look-reads.Comes o has p k s n l w y none calm

    abbrev plain-comes : (u : TrussState) (c : Call) → Near p k l.left u → u.aside ≡ Nothing → next_call_of u ≡ Some c
        → polled.IsNoEndOf p (record { call = c; reply = r }) → Comes (fed u r)
    plain-comes = look-reads.plain-comes o has p k s n l w y none calm

    abbrev plain-next : (u : TrussState) → Comes u → Next n u
    plain-next = look-reads.plain-next o has p k s n l w y none calm

    -- ---- every stage

    module _ (idle : s.aside ≡ Nothing) where
      fed-next : next_call_of s ≡ Some y.call → Next n (fed s r)
      fed-next is =
          plain-next (fed s r) (plain-comes s y.call l.near idle is (record {
            not_run = none.not_run 0;
            not_closed = none.not_closed;
          }))

      plain-stage : (stage : Stage) → s.stage ≡ stage → call_of s stage ≡ Some y.call → Next n (with_reply s r stage)
      unfolding next_call_of fed
      plain-stage stage at is = subst (λ st. Next n (with_reply s r st)) at (fed-next (ap (call_of s) at ∙ is))

      text-next : (place : ℕ) (u : TrussState) (a : Answer) → Next n u → Next n (after_function_text s u place a)
      text-next place u Gone it = it
      text-next place u _ it = subst (Next n) (sym (ap (λ b. cond b (with_lifts u place false) u) stays)) it

      stage-next : (stage : Stage) → s.stage ≡ stage → Nears s.traced k l.left stage
          → function_call_of s stage ≡ Some y.call → Next n (with_function_reply s r stage)
      unfolding function_call_of with_function_reply with_function_text_answered with_reply
      stage-next (ReadingStatus place) at near is =
          subst (λ j. Next n (with_function_status_answered s j r (answer_of r))) (sym near.0)
          (look-reads.status-next o has p k s n l w y none calm near.1 (subst (λ j. s.stage ≡ ReadingStatus j) near.0
          at) idle (answer_of r) refl)
      stage-next (ReadingText place st from len) at near is =
          text-next place (with_text_answered s place st len r) (answer_of r)
          (plain-stage (ReadingText place st from len) at is)
      stage-next (Running place) at near is =
          let same = here.same in
          absurd (none.not_run (traced_at s place).marks.flags (sym (same_Some _ y.call is)
          ∙ ap (λ c. message_call c (message.Run (traced_at s place).marks.flags))
          (ap (λ j. (traced_at s j).control) near ∙ same.control)))
      stage-next (OpeningChildControl parent pid) at near is = plain-stage (OpeningChildControl parent pid) at is
      stage-next (OpeningChild parent place step) at near is = plain-stage (OpeningChild parent place step) at is
      stage-next (Closing place (RunParent parent)) at near is = plain-stage (Closing place (RunParent parent)) at is
      stage-next (Closing place GoOn) at near is = plain-stage (Closing place GoOn) at is
      stage-next _ at near is = absurd near

    -- ---- a breakpoint is planted or lifted

    module _ (place : ℕ) (plants lifts : List Bool) (clear : Bool) (at : s.aside ≡ Patching place plants lifts clear)
      where
        here-place : place ≡ k
        here-place = subst (IsBeside k) at l.beside

        below-twelve : l.left ≤ 11
        below-twelve = elim l.most [ inl below ↦ below | inr fresh ↦ cc ]

        budget : l.left + (members plants + members lifts + 1) ≤ n
        budget = omega (arith, l.few, ap todo at)

        -- the same look, with less to do beside it
        beside-next : (u : TrussState) (rest : Aside) → Near p k l.left u → IsBeside k rest
            → todo rest + 1 ≤ members plants + members lifts + 1 → Next n (with_aside u rest)
        beside-next u rest near beside less = record {
          now = l.left + todo rest;
          less = omega (arith, less, budget);
          look = record {
            left = l.left;
            near = near-with l.left u rest near;
            beside = beside;
            few = omega arith;
            most = inl below-twelve;
          };
        }

        closing-next : (u : TrussState) → Stands p u k → u.leaving ≡ false → u.aside ≡ Nothing
            → Next n (with_closing u k)
        closing-next u stands off own = record {
          now = 0;
          less = omega (arith, budget);
          look = record {
            left = 0;
            near = near-at 0 u (with_closing u k) (Closing k GoOn) refl refl refl refl stands off;
            beside = subst (IsBeside k) (sym own) tt;
            few = omega (arith, ap todo own);
            most = inl (omega arith);
          };
        }

        after-next : (u : TrussState) (rest : Aside) (stage : Stage) (a : Answer) → a ≢ Interrupted
            → Near p k l.left u → Nears u.traced k l.left stage → u.aside ≡ Nothing → IsBeside k rest
            → todo rest + 1 ≤ members plants + members lifts + 1 → Next n (after_patch u rest k stage a)
        unfolding after_patch with_pending_told
        after-next u rest (Closing closed OpenNext) a other near soon own beside less = absurd soon
        after-next u rest (Closing closed GoOn) Gone other near soon own beside less =
            closing-next u near.here near.stays own
        after-next u rest (Closing closed GoOn) _ other near soon own beside less = beside-next u rest near beside less
        after-next u rest (Closing closed (RunParent parent)) Gone other near soon own beside less =
            closing-next u near.here near.stays own
        after-next u rest (Closing closed (RunParent parent)) _ other near soon own beside less =
            beside-next u rest near beside less
        after-next u rest _ Accepted other near soon own beside less = beside-next u rest near beside less
        after-next u rest _ (Refused errno) other near soon own beside less = beside-next u rest near beside less
        after-next u rest _ Gone other near soon own beside less =
            let stands : Stands p u k = near.here in
            closing-next (with_pending_told u) (record { within = stands.within; same = stands.same }) near.stays own
        after-next u rest _ Interrupted other near soon own beside less = absurd (other refl)

        abbrev idle_now : TrussState
        idle_now = with_aside s Nothing

        near-idle : Near p k l.left idle_now
        near-idle = near-with l.left s Nothing l.near

        module _ (m : Marks) where
          abbrev own : Traced
          own = record (traced_at s k) { marks = m }

          last-marked : (at_place : ℕ) → IsLast s.traced k at_place → IsLast (slice_set s.traced k own) k at_place
          last-marked at_place last = record {
            behind = last.behind;
            last = last.last ∙ sym (length-set s.traced k own);
          }

          nears-marked : (stage : Stage) → Nears s.traced k l.left stage
              → Nears (slice_set s.traced k own) k l.left stage
          nears-marked (ReadingStatus at_place) soon = soon
          nears-marked (ReadingText at_place st from len) soon = soon
          nears-marked (OpeningChildControl parent pid) soon = soon
          nears-marked (OpeningChild parent at_place step) soon = (soon.0, last-marked at_place soon.1, soon.2)
          nears-marked (Running at_place) soon = soon
          nears-marked (Closing at_place GoOn) soon = soon
          nears-marked (Closing at_place (RunParent parent)) soon =
              let last = soon.1 in (
                soon.0,
                last-marked at_place last,
                subst (λ t. files t ≤ l.left)
                    (sym (get_or-set_other s.traced k at_place own nobody (omega (arith, last.behind)))) soon.2,
              )
          nears-marked _ soon = absurd soon

          near-marked : Near p k l.left (with_marks idle_now k m)
          near-marked =
              let stands = marked-stands s m here in
              record {
                here = record { within = stands.within; same = stands.same };
                stays = stays;
                soon = nears-marked s.stage (let it = l.near in it.soon);
              }

        planted-near : (function : ℕ) (a : Answer) → Near p k l.left (planted_if idle_now k function a)
        planted-near function Accepted = near-marked _
        planted-near function _ = near-idle

        planted-idle : (function : ℕ) (a : Answer) → (planted_if idle_now k function a).aside ≡ Nothing
        planted-idle function Accepted = refl
        planted-idle function _ = refl

        planted-nears : (function : ℕ) (a : Answer) → Nears (planted_if idle_now k function a).traced k l.left s.stage
        planted-nears function Accepted = nears-marked _ s.stage (let it = l.near in it.soon)
        planted-nears function _ = let it = l.near in it.soon

        first-next : (plant lift : Option ℕ) → first_function plants ≡ plant → first_function lifts ≡ lift
            → Next n (after_first idle_now k plants lifts clear (answer_of r) plant lift)
        first-next (Some function) lift planted lifted =
            let rest = patching k (without_function plants function) lifts clear in
            after-next (planted_if idle_now k function (answer_of r)) rest s.stage (answer_of r) calm
            (planted-near function (answer_of r)) (planted-nears function (answer_of r))
            (planted-idle function (answer_of r)) (patch-beside k (without_function plants function) lifts clear)
            (omega (
              arith,
              patch-few k (without_function plants function) lifts clear,
              without-first plants function planted,
            ))
        first-next None (Some function) planted lifted =
            let rest = patching k plants (without_function lifts function) clear in
            after-next (without_planted idle_now k function) rest s.stage (answer_of r) calm (near-marked _)
            (nears-marked _ s.stage (let it = l.near in it.soon)) refl
            (patch-beside k plants (without_function lifts function) clear)
            (omega (
              arith,
              patch-few k plants (without_function lifts function) clear,
              without-first lifts function lifted,
            ))
        first-next None None planted lifted =
            after-next idle_now Nothing s.stage (answer_of r) calm near-idle (let it = l.near in it.soon) refl tt
            (omega arith)

        patch-next : Next n (with_patch_answered idle_now place plants lifts clear (answer_of r))
        unfolding with_patch_answered
        patch-next =
            subst (λ j. Next n (with_patch_answered idle_now j plants lifts clear (answer_of r))) (sym here-place)
            (first-next (first_function plants) (first_function lifts) refl refl)

    -- ---- the reply

    aside-next : (aside : Aside) → s.aside ≡ aside → call_beside s s.stage aside ≡ Some y.call
        → Next n (with_aside_answered s r aside)
    unfolding call_beside with_aside_answered
    aside-next Nothing at is = stage-next at s.stage refl (let it = l.near in it.soon) is
    aside-next (Patching place plants lifts clear) at is = patch-next place plants lifts clear at
    aside-next _ at is = absurd (subst (IsBeside k) at l.beside)

    pub look-next : s.options ≡ o → next_function_call_of s ≡ Some y.call → Next n (fed_functions s r)
    unfolding next_function_call_of fed_functions
    look-next options is =
        let on : has_functions s.options ≡ true = ap has_functions options ∙ has in
        subst (Next n) (sym (ap (λ b. cond b (with_aside_answered s r s.aside) (fed s r)) on))
        (aside-next s.aside refl
        (sym (ap (λ b. cond b (call_beside s s.stage s.aside) (next_call_of s)) on) ∙ is))
