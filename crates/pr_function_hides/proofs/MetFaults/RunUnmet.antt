use Rattle.std.proofs.Common.{◌≡◌, ◌≤◌, ◌<◌, ◌+◌, ◌||◌, ℕ, zero, suc, Bool, true, false, cond, is_some, Option, Some, None, refl, sym, subst, ap, ◌∙◌, inl, inr, ◌⊎◌, arith}
use Rattle.std.proofs.lemmas.Bool.{cases_Bool, cases_eq, false≢true}
use Rattle.std.proofs.lemmas.Option.{none-some, same_Some}
use Rattle.std.specs.List.{count_by}
use Rattle.pr_function_hides.proofs.Copying.CopyActs.{HasRunSo, left, lived, ran, run-does}
use Rattle.pr_function_hides.proofs.Copying.CopyPlaces.{IsRunFlags}
use Rattle.pr_function_hides.proofs.StandingFaults.FaultRuns.{stopped-user}
use Rattle.pr_function_hides.proofs.StandingFaults.OwnFaults.{own-leads}
use Rattle.pr_function_laws.proofs.OpenedProcesses.StopRuns.{ButOf, IsUnmet, run-unmet, unmet-kept}
use Rattle.pr_function_laws.specs.Lifted.{HasControl}
use Rattle.pr_function_laws.specs.OneEvent.{HasMetNothing, HasOneEventAtMost}
use Rattle.pr_laws.proofs.RunLemmas.{representative-stands, run-granted as not-refused}
use Rattle.pr_model.specs.Calls.{Answer, answer_to}
use Rattle.pr_model.specs.Lawful.{IsLawful}
use Rattle.pr_model.specs.Running.{run_refused, with_run}
use Rattle.pr_model.specs.State.{TracedLwp, TracedProcess, TracedState, TracedSystem, has_agent, live_process, lwp_of}
use Rattle.pr_model.specs.Stops.{found_on_event, is_stopped, representative}
use Rattle.pr_model.specs.declared.calls.Call.{Call}
use Rattle.pr_model.specs.declared.stops.Stop.{Stop}
use Rattle.pr_num.proofs.ByIdLaws.{under-without_id_other}
use Rattle.pr_num.specs.ById.{IsRising, without_id}
use Rattle.pr_num.specs.declared.messages.Message.TheVariants as message
use Rattle.pr_report_laws.proofs.Machine.StoppedLaws.{count-others, none-under, waits-first}
use Rattle.pr_report_laws.specs.AtBirth.{has_met, is_met_if, met_in}
use Rattle.pr_truss.specs.Messages.{message_call}
use Rattle.pr_truss.specs.declared.processes.Traced.{Traced}
use Rattle.pr_truss_laws.specs.Stills.{IsFrozen}

-- Where at most one lwp of a process that stands still stands on an event that it met, none does once PCRUN ran it.

-- ---- which lwp it is

-- each lwp that stands on an event that it met is the representative
abbrev pub MetLeads : TracedProcess → Type 0
MetLeads p =
    (id : ℕ) (l : TracedLwp) → lwp_of p id ≡ Some l → has_met l ≡ true → representative p ≡ Some (id, l)

module _ (p : TracedProcess) (rises : IsRising p.lwps) (no_agent : has_agent p ≡ false) (frozen : IsFrozen p) where
  pub few-leads : HasOneEventAtMost p → MetLeads p
  few-leads few id l there its = own-leads p id l rises no_agent frozen few there its

  abbrev met : ℕ × TracedLwp → Bool
  met e = has_met e.1

  pub one-leads : met_in p ≤ 1 → MetLeads p
  one-leads most id l there its = by (met_in p) refl
    where
      by : (n : ℕ) → met_in p ≡ n → representative p ≡ Some (id, l)
      by zero is = absurd (false≢true (sym (none-under met id l p.lwps there is) ∙ its))
      by (suc n) is =
          let lead = waits-first p rises no_agent n (record { frozen = frozen; count = is }) in
          of lead.lwp lead.is lead.met
        where
          of : (e : ℕ × TracedLwp) → representative p ≡ Some e → has_met e.1 ≡ true
              → representative p ≡ Some (id, l)
          of e first has = elim (cases_eq e.0 id) [
            | inl same ↦
                (let lwp : e.1 ≡ l =
                same_Some e.1 l (sym (representative-stands p e rises first) ∙ ap (lwp_of p) same ∙ there) in
                first ∙ ap (λ i. Some (i, e.1)) same ∙ ap (λ (x : TracedLwp). Some (id, x)) lwp)
            | inr apart ↦
                (let all = count-others met e.0 e.1 p.lwps (representative-stands p e rises first) in
                let more : met_in p ≡ 1 + count_by met (without_id e.0 p.lwps) =
                all ∙ ap (λ b. cond b 1 0 + count_by met (without_id e.0 p.lwps)) has in
                let rest : count_by met (without_id e.0 p.lwps) ≡ 0 = omega (arith, more, most) in
                absurd (false≢true
                (sym (none-under met id l (without_id e.0 p.lwps)
                (under-without_id_other e.0 id apart p.lwps ∙ there) rest) ∙ its)))
          ]

-- ---- PCRUN

pub unmet-run : (flags : ℕ) (p : TracedProcess) → MetLeads p → HasMetNothing (with_run flags p)
unmet-run flags p leads = run-unmet flags p (by (representative p) refl)
  where
    unmet-if : (l : TracedLwp) → (has_met l ≡ true → ⊥) → has_met l ≡ false
    unmet-if l never = elim (cases_Bool (has_met l)) [ inl has ↦ absurd (never has) | inr none ↦ none ]

    id-same : {a b : ℕ × TracedLwp} → (let x : Option (ℕ × TracedLwp) = Some a in x) ≡ Some b → a.0 ≡ b.0
    id-same {a} {b} e = ap (λ (x : ℕ × TracedLwp). x.0) (same_Some a b e)

    by : (r : Option (ℕ × TracedLwp)) → representative p ≡ r → ButOf IsUnmet unmet-kept flags p r
    by None is = λ n l there. unmet-if l (λ has. none-some (n, l) (sym is ∙ leads n l there has))
    by (Some e) is = λ n l other there. unmet-if l (λ has. other (id-same (sym (leads n l there has) ∙ is)))

met-stops : (o : Option Stop) → is_met_if o ≡ true → is_some o ≡ true
met-stops None is = absurd (false≢true is)
met-stops (Some stop) is = refl

granted-agent : (p : TracedProcess) → run_refused p ≡ false → has_agent p ≡ false
unfolding run_refused
granted-agent p granted = by (has_agent p) _ granted
  where
    by : (a b : Bool) → (a || b) ≡ false → a ≡ false
    by false b is = refl
    by true b is = cc

module _ (n k : ℕ) (s : TracedState) (lawful : IsLawful s) (c : Call) (a : Answer) (answer : answer_to s k c ≡ Some a)
    (over : (pid : ℕ) → pid < s.system.made → live_process s.system pid ≡ None
    → live_process a.state.system pid ≡ None) (v : Traced) (flags : ℕ) (known : IsRunFlags flags)
    (its : HasControl k v.pid v.control s) (is : c ≡ message_call v.control (message.Run flags))
    (leads : (p : TracedProcess) → live_process s.system v.pid ≡ Some p → has_agent p ≡ false → MetLeads p) where
  -- a process that is run, or that has met nothing
  pub ran-unmet : (q : TracedProcess) → live_process a.state.system v.pid ≡ Some q → has_agent q ≡ false
      → HasMetNothing q
  unfolding is_stopped
  ran-unmet q later no_agent =
      let was = lived n k s lawful c a answer over v.pid v.control its q later in
      by was.0 was.1 (run-does n k s lawful c a answer over v flags known its is was.0 was.1)
    where
      by : (p : TracedProcess) → live_process s.system v.pid ≡ Some p
          → HasRunSo n k s lawful c a answer over v flags p → HasMetNothing q
      by p live (ran granted now) =
          subst HasMetNothing (same_Some (with_run flags p) q (sym now ∙ later))
          (unmet-run flags p (leads p live (granted-agent p granted)))
      by p live (left why same) = λ id l there. elim (cases_Bool (has_met l)) [
        | inr none ↦ none
        | inl has ↦ absurd (refused why id l (ap (λ (x : TracedProcess). lwp_of x id) same_process ∙ there) has)
      ]
        where
          same_process : p ≡ q
          same_process =
              same_Some p q (sym live ∙ ap (λ (x : TracedSystem). live_process x v.pid) (sym same) ∙ later)

          alone : has_agent p ≡ false
          alone = ap (λ (x : TracedProcess). has_agent x) same_process ∙ no_agent

          refused : (v.pid ≡ 0) ⊎ (run_refused p ≡ true) → (id : ℕ) (l : TracedLwp) → lwp_of p id ≡ Some l
              → has_met l ≡ true → ⊥
          refused (inl zero_pid) id l there has =
              stopped-user s.system v.pid p lawful.system live
              (ap found_on_event (leads p live alone id l there has) ∙ met-stops l.control.stop has) zero_pid
          refused (inr refuses) id l there has =
              false≢true
              (sym (not-refused p (id, l) alone (leads p live alone id l there has) (met-stops l.control.stop has))
              ∙ refuses)
