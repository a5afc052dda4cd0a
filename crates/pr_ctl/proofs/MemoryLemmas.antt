use Rattle.std.proofs.Common.{◌≡◌, ℕ, true, Some, List, Result, Ok, Err, length, refl, sym, ap, ◌∙◌}
use Rattle.std.specs.Prelude.{is_ok}
use Rattle.pr_num.specs.ById.{put_under, under}
use Rattle.pr_num.specs.Spaces.{bytes_for}
use Rattle.pr_num.specs.declared.mappings.BadByte.{BadByte}
use Rattle.pr_parts.specs.AddressSpaces.{with_bytes}
use Rattle.pr_model.specs.Changes.{with_space}
use Rattle.pr_model.specs.Messages.{Controlled, read_of, write_answer}
use Rattle.pr_model.specs.State.{TracedProcess, TracedSystem, live_process}
use Rattle.pr_ctl.proofs.ProcessLemmas.{lent-same, put-found, used}
use Rattle.pr_ctl.specs.Memory.{memory_reply}

-- PCREAD changes nothing.
pub read-reply : (s : TracedSystem) (pid : ℕ) (p : TracedProcess) (r : Result (List ℕ) BadByte)
    → (let c : Controlled = record { system = s; reply = memory_reply r } in c) ≡ read_of s pid p r
read-reply s pid p (Ok bytes) = refl
read-reply s pid p (Err bad) = refl

-- PCWRITE, of the process that was lent
pub write-lent : (s : TracedSystem) (pid : ℕ) (p q w : TracedProcess) (at : ℕ) (bytes : List ℕ) (len : ℕ)
    → live_process s pid ≡ Some p → under pid s.processes ≡ Some q
    → w ≡ with_space (with_bytes at bytes q.space) q → is_ok (bytes_for 0 q.space at (length bytes)) ≡ true
    → used len (record s { processes = put_under pid w s.processes }) ≡ write_answer s pid p at bytes len
unfolding write_answer
write-lent s pid p q w at bytes len live found made mapped =
    let same = lent-same s pid p q live found in
    let all : is_ok (bytes_for 0 p.space at (length bytes)) ≡ true =
    sym (ap (λ r. is_ok (bytes_for 0 r.space at (length bytes))) same) ∙ mapped in
    ap (used len) (put-found s pid p q w (λ r. with_space (with_bytes at bytes r.space)) live found made) ∙ rw all refl

pub ruleset memory_laws = (read-reply)
