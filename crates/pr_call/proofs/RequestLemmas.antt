use Rattle.std.proofs.Common.{◌≡◌, ℕ, true, Option, Some, None, IsSome, refl, sym, ap, ◌∙◌}
use Rattle.std.specs.Option.{ForSome}
use Rattle.std.proofs.lemmas.Option.{same_Some}
use Rattle.pr_model.specs.State.{TracedLwp, TracedProcess, TracedSystem, live_process, lwp_of}
use Rattle.pr_model.specs.Statuses.{arguments_in}
use Rattle.pr_model.specs.declared.lwps.Phase.{Phase}
use Rattle.pr_model.specs.declared.lwps.Phase.TheVariants.{Entered, Asleep}
use Rattle.pr_call.specs.Effects.{after_effect, effect_of, outcome_of, takes_memory}
use Rattle.pr_call.specs.Requests.{request_at, request_by, request_in, request_of}
use Rattle.pr_call.specs.declared.requests.Performed.{Performed}
use Rattle.pr_call.specs.declared.requests.Request.{Request}

-- The call that an lwp makes is its own.

record IsOwn (s : TracedSystem) (pid id : ℕ) (r : Request) : Type 0 where
  pub pid_is : r.pid ≡ pid
  pub lwp_is : r.lwp ≡ id
  pub process : TracedProcess
  pub lwp : TracedLwp
  pub found : live_process s pid ≡ Some process
  pub stands : lwp_of process id ≡ Some lwp

module _ (s : TracedSystem) (pid id : ℕ) (r : Request) where
  ids : (l : TracedLwp) (phase : Phase) → request_in s.clock pid id l phase ≡ Some r → (r.pid ≡ pid) × (r.lwp ≡ id)
  ids l (Entered call) made = let same = same_Some _ r made in
      (ap (λ (q : Request). q.pid) (sym same), ap (λ (q : Request). q.lwp) (sym same))
  ids l (Asleep call args since) made = let same = same_Some _ r made in
      (ap (λ (q : Request). q.pid) (sym same), ap (λ (q : Request). q.lwp) (sym same))
  ids l _ made = absurd (cc)

  by_lwp : (p : TracedProcess) → live_process s pid ≡ Some p → (o : Option TracedLwp) → lwp_of p id ≡ o
      → request_by s.clock pid id o ≡ Some r → IsOwn s pid id r
  by_lwp p found None stands made = absurd (cc)
  by_lwp p found (Some l) stands made =
      let own = ids l l.phase made in
      record { pid_is = own.0; lwp_is = own.1; process = p; lwp = l; found = found; stands = stands }

  by_process : (o : Option TracedProcess) → live_process s pid ≡ o → request_at s.clock pid id o ≡ Some r
      → IsOwn s pid id r
  by_process None found made = absurd (cc)
  by_process (Some p) found made = by_lwp p found (lwp_of p id) refl made

  own : request_of s pid id ≡ Some r → IsOwn s pid id r
  unfolding request_of
  own made = by_process (live_process s pid) refl made

  -- with the arguments of the call in which the lwp is
  given : (l : TracedLwp) (phase : Phase) → request_in s.clock pid id l phase ≡ Some r
      → arguments_in l.regs phase ≡ r.args
  unfolding arguments_in
  given l (Entered call) made = ap (λ (q : Request). q.args) (same_Some _ r made)
  given l (Asleep call args since) made = ap (λ (q : Request). q.args) (same_Some _ r made)
  given l _ made = absurd (cc)

  pub asked-arguments : (p : TracedProcess) (l : TracedLwp) → request_of s pid id ≡ Some r → live_process s pid ≡ Some p
      → lwp_of p id ≡ Some l → arguments_in l.regs l.phase ≡ r.args
  unfolding request_of
  asked-arguments p l made found stands =
      given l l.phase (sym (ap (request_at s.clock pid id) found ∙ ap (request_by s.clock pid id) stands) ∙ made)

  -- so it can be performed
  pub asked-live : request_of s pid id ≡ Some r → IsSome (live_process s r.pid)
  asked-live made = let o = own made in rw (o.pid_is, o.found) refl

  pub asked-lwp : request_of s pid id ≡ Some r → ForSome (live_process s r.pid) (λ p. IsSome (lwp_of p r.lwp))
  asked-lwp made p found =
      let o = own made in
      let same : o.process ≡ p = same_Some o.process p (sym o.found ∙ ap (live_process s) (sym o.pid_is) ∙ found) in
      rw (o.lwp_is, ← same, o.stands) refl

-- what is made of it, is made of the call of the lwp
module _ (s new : TracedSystem) (pid id : ℕ) (q r : Request) (asks : request_of s pid id ≡ Some q)
    (makes : request_of s pid id ≡ Some r) where
  same : q ≡ r
  same = same_Some q r (sym asks ∙ makes)

  pub asked-system : ForSome (live_process s q.pid)
      (λ p. ForSome (lwp_of p q.lwp) (λ l. new ≡ after_effect q.pid p q.lwp l (effect_of s p l q) s))
      → ForSome (live_process s pid)
      (λ p. ForSome (lwp_of p id) (λ l. new ≡ after_effect pid p id l (effect_of s p l r) s))
  asked-system h p found l stands =
      let o = own s pid id q asks in
      h p (ap (live_process s) o.pid_is ∙ found) l (ap (lwp_of p) o.lwp_is ∙ stands)
      ∙ ap (λ n. after_effect n p q.lwp l (effect_of s p l q) s) o.pid_is
      ∙ ap (λ n. after_effect pid p n l (effect_of s p l q) s) o.lwp_is
      ∙ ap (λ x. after_effect pid p id l (effect_of s p l x) s) same

  pub asked-outcome : (outcome : Performed)
      → ForSome (live_process s q.pid) (λ p. ForSome (lwp_of p q.lwp) (λ l. outcome ≡ outcome_of (effect_of s p l q)))
      → ForSome (live_process s pid) (λ p. ForSome (lwp_of p id) (λ l. outcome ≡ outcome_of (effect_of s p l r)))
  asked-outcome outcome h p found l stands =
      let o = own s pid id q asks in
      h p (ap (live_process s) o.pid_is ∙ found) l (ap (lwp_of p) o.lwp_is ∙ stands)
      ∙ ap (λ x. outcome_of (effect_of s p l x)) same

  pub asked-memory : ForSome (live_process s q.pid)
      (λ p. ForSome (lwp_of p q.lwp) (λ l. takes_memory q.call (effect_of s p l q) ≡ true))
      → ForSome (live_process s pid)
      (λ p. ForSome (lwp_of p id) (λ l. takes_memory r.call (effect_of s p l r) ≡ true))
  asked-memory h p found l stands =
      let o = own s pid id q asks in
      ap (λ x. takes_memory x.call (effect_of s p l x)) (sym same)
      ∙ h p (ap (live_process s) o.pid_is ∙ found) l (ap (lwp_of p) o.lwp_is ∙ stands)

-- it is the one that the lwp of its ids makes
pub asked-own : (s : TracedSystem) (pid id : ℕ) (r : Request) → request_of s pid id ≡ Some r
    → request_of s r.pid r.lwp ≡ Some r
asked-own s pid id r made =
    let o = own s pid id r made in
    ap (λ n. request_of s n r.lwp) o.pid_is ∙ ap (request_of s pid) o.lwp_is ∙ made

pub ruleset asking = (asked-live, asked-lwp)
