use Rattle.std.proofs.Common.{◌≡◌, ◌++◌, ℕ, suc, Bool, true, false, cond, List, [], ◌∷◌, length, refl, sym, ap, ◌∙◌}
use Rattle.std.proofs.lemmas.Bool.{false≢true}
use Rattle.pr_line.specs.declared.options.Options.{Options}
use Rattle.pr_model.specs.Replies.{handle_in, until_in}
use Rattle.pr_model.specs.declared.calls.Call.{Call}
use Rattle.pr_model.specs.declared.calls.Call.TheVariants as call
use Rattle.pr_model.specs.declared.calls.File.TheVariants as file
use Rattle.pr_model.specs.declared.calls.Mode.TheVariants.{Read, WriteExcl}
use Rattle.pr_num.specs.Control.{fork_mode, rlc_mode}
use Rattle.pr_num.specs.Limits.{read_limit}
use Rattle.pr_num.specs.Messages.{spelling}
use Rattle.pr_num.specs.declared.messages.Message.TheVariants as message
use Rattle.pr_truss.specs.Messages.{all_modes, message_call, traced_entries, traced_exits, traced_faults, traced_signals}
use Rattle.pr_truss_laws.specs.Exchanges.{Exchange, calls_in}
use Rattle.pr_truss_laws.specs.Given.{IsWholeOpening, last_calls, opening_calls, reply_at}
use Rattle.pr_report_laws.proofs.Files.KeepLemmas.{can_wait}
use Rattle.pr_report_laws.proofs.FollowedChildren.FollowCalm.{NoneWaits, head-same, tail-same}

-- Which call of an opening is the wait for its stop: it alone waits.

-- ---- the calls of an opening

-- those before the wait, and those after it
abbrev pub calls_before : ℕ → ℕ → List Call
calls_before pid control =
    call.Open pid 0 file.Ctl WriteExcl ∷ call.Open pid 0 file.Status Read ∷ call.Open pid 0 file.Lstatus Read
    ∷ call.Open pid 0 file.Mem Read ∷ message_call control (message.Unset all_modes)
    ∷ message_call control (message.Set rlc_mode) ∷ message_call control message.Stop ∷ []

abbrev pub calls_behind : Options → ℕ → ℕ → List Call
calls_behind o control lstatus =
    call.Read lstatus 0 read_limit ∷ message_call control (message.Strace (traced_signals o))
    ∷ message_call control (message.Sfault (traced_faults o))
    ∷ message_call control (message.Sentry (traced_entries o)) ∷ message_call control (message.Sexit (traced_exits o))
    ∷ last_calls o control

abbrev pub stop_wait : ℕ → ℕ → Call
stop_wait control until = call.CtlWait control until (spelling message.Stop [])

before-wait : (pid control : ℕ) → NoneWaits (calls_before pid control)
before-wait pid control = (refl, (refl, (refl, (refl, (refl, (refl, (refl, tt)))))))

behind-wait : (o : Options) (control lstatus : ℕ) → NoneWaits (calls_behind o control lstatus)
behind-wait o control lstatus = (refl, (refl, (refl, (refl, (refl, by o.follow)))))
  where
    by : (b : Bool)
        → NoneWaits
        (cond b (message_call control (message.Set fork_mode) ∷ message_call control (message.Run 0) ∷ [])
        (message_call control (message.Run 0) ∷ []))
    by true = (refl, (refl, tt))
    by false = (refl, tt)

-- ---- the place of a call that waits

module _ (wait : Exchange) (more : List Exchange) (waits : can_wait wait.call ≡ true) where
  not-among : (begun : List Exchange) (cs : List Call) → NoneWaits cs → calls_in (begun ++ wait ∷ more) ≡ cs → ⊥
  not-among [] [] none is = cc
  not-among (x ∷ begun) [] none is = cc
  not-among [] (c ∷ cs) none is = false≢true (sym none.0 ∙ ap can_wait (sym (head-same is)) ∙ waits)
  not-among (x ∷ begun) (c ∷ cs) none is = not-among begun cs none.1 (tail-same is)

  at-place : (begun : List Exchange) (front : List Call) (c : Call) (rest : List Call) → NoneWaits front
      → NoneWaits rest → calls_in (begun ++ wait ∷ more) ≡ front ++ c ∷ rest → length begun ≡ length front
  at-place [] [] c rest none behind is = refl
  at-place (x ∷ begun) [] c rest none behind is = absurd (not-among begun rest behind (tail-same is))
  at-place [] (d ∷ front) c rest none behind is =
      absurd (false≢true (sym none.0 ∙ ap can_wait (sym (head-same is)) ∙ waits))
  at-place (x ∷ begun) (d ∷ front) c rest none behind is =
      ap suc (at-place begun front c rest none.1 behind (tail-same is))

pub wait-place : (o : Options) (pid handle moment : ℕ) (bytes : List ℕ) (begun : List Exchange) (wait : Exchange)
    (more : List Exchange) → wait.call ≡ call.CtlWait handle moment bytes
    → IsWholeOpening o pid (begun ++ wait ∷ more) → length begun ≡ 7
unfolding opening_calls
wait-place o pid handle moment bytes begun wait more waits whole =
    let xs : List Exchange = begun ++ wait ∷ more in
    let control : ℕ = handle_in (reply_at xs 0) in
    let lstatus : ℕ = handle_in (reply_at xs 2) in
    at-place wait more (ap can_wait waits) begun (calls_before pid control)
    (stop_wait control (until_in (reply_at xs 6))) (calls_behind o control lstatus)
    (before-wait pid control) (behind-wait o control lstatus) whole.calls
