use Rattle.std.proofs.Common.{◌≡◌, ℕ, Bool, true, cond, List, [], Some, codes, refl, subst, ap, ◌∙◌, slice_get}
use Rattle.std.proofs.lemmas.Bool.{false≢true}
use Rattle.std.proofs.lemmas.List.Elements.{All-nil}
use Rattle.pr_model.specs.Lawful.{IsLawful}
use Rattle.pr_model.specs.State.{TracedState}
use Rattle.pr_model.specs.declared.calls.Reply.TheVariants as reply
use Rattle.pr_model.specs.declared.events.Entry.{Entry}
use Rattle.pr_num.specs.declared.errnos.Errno.{Errno}
use Rattle.pr_probe.specs.ProbeText.{printed, report}
use Rattle.pr_probe.specs.Probes.{ProbeState, first_probe, has_ended}
use Rattle.pr_tool_laws.proofs.Stages.ProtocolLemmas.{KeptByCalls, KeptByOthers, own-keeps}
use Rattle.pr_tools.specs.Refusals.{refusal_line}
use Rattle.pr_world.specs.Controllers.{after_reply, next_call}
use Rattle.pr_world.specs.ControllerStates.{ControllerState, Probe}
use Rattle.pr_tool_laws.specs.Runs.{IsRunOf}
use Rattle.pr_world.specs.Protocol.{controllers_at}
use Rattle.pr_probe_laws.proofs.Hiding.HiddenPlain.{IsInOrder, first-order, order-fed}
use Rattle.pr_probe_laws.proofs.Ending.ReasonStages.{Why, called-why, fed-pid, why-still}
use Rattle.pr_probe_laws.proofs.Sets.SetLaw as sets
use Rattle.pr_probe_laws.proofs.Sets.SetLaw.{IsProbeKnown, calls-known, others-known}
use Rattle.pr_probe_laws.proofs.Sets.SetStages.{others-call}
use Rattle.pr_probe_laws.specs.Reasons.{TellsWhy}

-- apfiles tells why it was refused.

module _ (n k pid : ℕ) (first : TracedState) where
  -- what is so of it, refused or not
  record IsTelling (h : List Entry) (p : ProbeState) : Type 0 where
    its : p.pid ≡ pid
    order : IsInOrder p
    why : Why k pid first h p p.refusal

  So : List Entry → ControllerState → Type 0
  So h (Probe p) = IsTelling h p
  So h _ = ⊥

  abbrev IsKept : List Entry → ControllerState → Type 0
  IsKept h c = IsProbeKnown n k pid first h c × So h c

  others-tell : KeptByOthers n k first IsKept
  unfolding So
  others-tell h (Probe p) actor it legal other kept = (
    others-known n k pid first h (Probe p) actor it legal other kept.0,
    record {
      its = kept.1.its;
      order = kept.1.order;
      why =
          why-still k pid first h (record { actor = actor; act = it })
          (λ c e same. absurd (others-call k pid first actor it other c (reply.Fail e) same)) p p.refusal kept.1.why;
    },
  )
  others-tell h _ actor it legal other kept = absurd kept.1

  calls-tell : KeptByCalls n k first IsKept
  unfolding So IsProbeKnown next_call after_reply
  calls-tell h (Probe p) c a next given kept = (
    calls-known n k pid first h (Probe p) c a next given kept.0,
    record {
      its = fed-pid p a.reply ∙ kept.1.its;
      order = order-fed p a.reply kept.1.order;
      why = called-why k pid first h c a.reply p next kept.0.1 kept.1.order kept.1.why;
    },
  )
  calls-tell h _ c a next given kept = absurd kept.1

  begins : IsTelling [] (first_probe pid)
  unfolding first_probe
  begins = record {
    its = refl;
    order = first-order pid;
    why = record { quiet = λ over. All-nil _; noted = λ is. absurd (false≢true is) };
  }

-- the text of one that has ended and was refused
line-is : (p : ProbeState) (pid : ℕ) (e : Errno) → p.pid ≡ pid → has_ended p ≡ true → p.refusal ≡ Some e
    → printed p ≡ refusal_line (codes "apfiles") pid e
unfolding printed
line-is p pid e its ended refused =
    ap (λ (b : Bool). cond b (report p p.refusal) []) ended ∙ ap (report p) refused
    ∙ ap (λ (q : ℕ). refusal_line (codes "apfiles") q e) its

pub tells-why : (controllers : List ControllerState) (n k pid : ℕ) (s : TracedState) (h : List Entry)
    (p : ProbeState) (e : Errno) → IsLawful s → IsRunOf n k (Probe (first_probe pid)) controllers s h
    → slice_get (controllers_at controllers h) k ≡ Some (Probe p)
    → has_ended p ≡ true → p.refusal ≡ Some e → TellsWhy k pid e s h (printed p)
unfolding So IsProbeKnown
tells-why controllers n k pid s h p e lawful run ends ended refused =
    let kept =
    own-keeps n k s (IsKept n k pid s) (others-tell n k pid s) (calls-tell n k pid s) controllers h
    (Probe (first_probe pid)) (Probe p) run ends
    ((lawful, λ none. sets.at_first n k pid s), begins n k pid s) in
    record {
      line = line-is p pid e kept.1.its ended refused;
      reason = subst (Why k pid s h p) refused kept.1.why;
    }
