use Rattle.std.proofs.Common.{◌≡◌, ℕ, Some, sym, ap, ◌∙◌}
use Rattle.std.proofs.lemmas.Option.{same_Some}
use Rattle.pr_num.proofs.ByIdLaws.{put_under-found, put_under-same}
use Rattle.pr_num.specs.ById.{put_under, under}
use Rattle.pr_model.specs.Messages.{Controlled}
use Rattle.pr_model.specs.State.{TracedProcess, TracedSystem, live_process, with_process}
use Rattle.pr_model.specs.declared.calls.Reply.TheVariants.{Used}
use Rattle.pr_model.proofs.StateLemmas.{live_process-found}

-- a system that a message of so many bytes led to, which was taken
abbrev pub used : ℕ → TracedSystem → Controlled
used len s = record { system = s; reply = Used len }

-- a live process is the one that stands under its id
pub lent-same : (s : TracedSystem) (pid : ℕ) (p q : TracedProcess) → live_process s pid ≡ Some p
    → under pid s.processes ≡ Some q → q ≡ p
lent-same s pid p q live found = same_Some q p (sym found ∙ live_process-found s pid p live)

-- A live process that was lent and came back changed by a function of itself.
pub put-found : (s : TracedSystem) (pid : ℕ) (p q w : TracedProcess) (f : TracedProcess → TracedProcess → TracedProcess)
    → live_process s pid ≡ Some p → under pid s.processes ≡ Some q → w ≡ f q q
    → record s { processes = put_under pid w s.processes } ≡ with_process pid (f p) s
unfolding with_process
put-found s pid p q w f live found made =
    let here = live_process-found s pid p live in
    let same = lent-same s pid p q live found in
    ap (λ es. record s { processes = es })
    (ap (λ v. put_under pid v s.processes) (made ∙ ap (λ r. f r r) same) ∙ put_under-found pid (f p) p s.processes here)

-- One that came back as it was.
pub put-same : (s : TracedSystem) (pid : ℕ) (q w : TracedProcess) → under pid s.processes ≡ Some q → w ≡ q
    → record s { processes = put_under pid w s.processes } ≡ s
put-same s pid q w found same =
    ap (λ es. record s { processes = es })
    (ap (λ v. put_under pid v s.processes) same ∙ put_under-same pid q s.processes found)
