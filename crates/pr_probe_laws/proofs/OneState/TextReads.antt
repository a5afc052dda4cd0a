use Rattle.std.proofs.Common.{◌≡◌, ◌==◌, ◌<◌, ◌≤◌, ◌+◌, ◌∷◌, ◌++◌, ℕ, zero, suc, Bool, true, false, List, [], Option, Some, None, Ok, length, refl, sym, ap, ◌∙◌, arith}
use Rattle.std.proofs.lemmas.Bool.{lt-ltb}
use Rattle.std.proofs.lemmas.List.{append_assoc, append-nil, length-append}
use Rattle.pr_codec.proofs.WordLemmas.{length-words_bytes}
use Rattle.pr_core_laws.proofs.OneState.ReadLemmas.{all-read}
use Rattle.pr_model.specs.Reads.{file_read, file_reply, of_lwp, of_process, part_read, read_process}
use Rattle.pr_model.specs.State.{TracedLwp, TracedProcess, TracedSystem, live_process, lwp_of}
use Rattle.pr_model.specs.Statuses.{errno_in, lwpstatus_of}
use Rattle.pr_model.specs.declared.calls.File.TheVariants as file
use Rattle.pr_model.specs.declared.calls.Reply.TheVariants as reply
use Rattle.pr_num.specs.Agents.{agent_id}
use Rattle.pr_num.specs.Errnos.{errno_number}
use Rattle.pr_num.specs.Files.{Descriptors, FileTable, fd_kind_number}
use Rattle.pr_num.specs.Limits.{descriptor_limit, read_limit}
use Rattle.pr_num.specs.Records.{lwpstatus_ranges}
use Rattle.pr_num.specs.Words.{word_bytes, word_of, words_bytes}
use Rattle.pr_num.specs.declared.errnos.Errno.{Errno}
use Rattle.pr_num.specs.declared.files.FdKind.{FdKind}
use Rattle.pr_num.specs.declared.files.FdKind.TheVariants as kind
use Rattle.pr_probe.specs.DescriptorLines.{kind_in, kind_of_word}
use Rattle.pr_probe.specs.Probes.{ProbeState, shows_open, with_kind}
use Rattle.pr_probe.specs.declared.descriptor_lines.OpenDescriptor.{OpenDescriptor}
use Rattle.pr_rec.proofs.LwpStatusLemmas.{lwpstatus-ranged, lwpstatus_take}
use Rattle.pr_rec.specs.InRange.{IsLwpStatus}
use Rattle.pr_rec.specs.Reading.{record_read}
use Rattle.pr_rec.specs.RecordBytes.{lwpstatus_bytes}
use Rattle.pr_rec.specs.Fields.{number_or_zero}
use Rattle.pr_rec.specs.RecordWords.{lwpstatus_words_of}
use Rattle.pr_rec.specs.declared.lwps.LwpStatus.{LwpStatus}
use Rattle.pr_tool_laws.proofs.Records.EntryLemmas.{record-back}
use Rattle.pr_probe_laws.proofs.OneState.TextStages.{HasFound}
use Rattle.pr_probe_laws.specs.ShownDescriptors.{descriptors_from, kind_at, open_descriptors}
use Rattle.pr_probe.specs.ProbeRuns.{descriptor_of}
use Rattle.pr_probe.proofs.StatusLemmas.{errno-not-zero}

-- What apfiles reads of its agent, and what it notes of that.

-- ---- the status of the agent

pub agent-there : (s : TracedSystem) (pid : ℕ) (p : TracedProcess) (l : TracedLwp) → live_process s pid ≡ Some p
    → lwp_of p agent_id ≡ Some l
    → file_read s pid agent_id 0 read_limit file.Lwpstatus
    ≡ reply.Bytes (part_read (lwpstatus_bytes (lwpstatus_of p agent_id l)) 0 read_limit)
unfolding file_read read_process file_reply
agent-there s pid p l live there =
    ap (of_process s pid agent_id 0 read_limit file.Lwpstatus) live ∙ ap (of_lwp p agent_id 0 read_limit) there

agent-back : (p : TracedProcess) (l : TracedLwp) → IsLwpStatus (lwpstatus_of p agent_id l)
    → record_read lwpstatus_ranges (part_read (lwpstatus_bytes (lwpstatus_of p agent_id l)) 0 read_limit)
    ≡ Ok (lwpstatus_words_of (lwpstatus_of p agent_id l))
unfolding lwpstatus_bytes
agent-back p l status =
    let st : LwpStatus = lwpstatus_of p agent_id l in
    let size = length-words_bytes (lwpstatus_words_of st) in
    let whole : part_read (lwpstatus_bytes st) 0 read_limit ≡ words_bytes (lwpstatus_words_of st) ++ [] =
    all-read (lwpstatus_bytes st) (omega (arith, size)) ∙ sym (append-nil (words_bytes (lwpstatus_words_of st))) in
    ap (record_read lwpstatus_ranges) whole
    ∙ record-back lwpstatus_words_of lwpstatus_ranges (λ _. refl) lwpstatus_take IsLwpStatus lwpstatus-ranged st []
    status

-- it shows a descriptor open where its call gave no errno
abbrev pub shows : Option Errno → Bool
shows None = true
shows (Some e) = false

no-zero : (o : Option Errno) → (number_or_zero errno_number o == 0) ≡ shows o
no-zero None = refl
no-zero (Some e) = errno-not-zero e

pub agent-shows : (p : TracedProcess) (l : TracedLwp) → IsLwpStatus (lwpstatus_of p agent_id l)
    → shows_open (record_read lwpstatus_ranges (part_read (lwpstatus_bytes (lwpstatus_of p agent_id l)) 0 read_limit))
    ≡ shows (errno_in l.phase)
unfolding shows_open lwpstatus_of
agent-shows p l status = ap shows_open (agent-back p l status) ∙ no-zero (errno_in l.phase)

-- ---- the word of the kind

pub kind-back : (k : FdKind) → kind_in (word_bytes (fd_kind_number k)) ≡ Some k
unfolding kind_in kind_of_word word_bytes word_of
kind-back kind.File = refl
kind-back kind.PipeReader = refl
kind-back kind.PipeWriter = refl

-- ---- what was found

module _ (files : FileTable) (fds : Descriptors) where
  pub found-first : HasFound [] 0 files fds
  unfolding open_descriptors
  found-first = record { left = descriptor_limit; all = refl; few = omega arith; rest = refl }

  module _ (lines : List OpenDescriptor) (d : ℕ) (less : d < descriptor_limit) where
    pub found-shut : HasFound lines d files fds → kind_at files fds d ≡ None → HasFound lines (d + 1) files fds
    found-shut it none = by it.left it.all it.few it.rest
      where
        by : (left : ℕ) → d + left ≡ descriptor_limit → length lines ≤ d
            → lines ++ descriptors_from files fds d left ≡ open_descriptors files fds
            → HasFound lines (d + 1) files fds
        by zero all few rest = absurd (omega (arith, all, less))
        by (suc n) all few rest = record {
          left = n;
          all = omega (arith, all);
          few = omega (arith, few);
          rest =
              ap (λ (o : Option FdKind). lines ++ (descriptor_of d o ++ descriptors_from files fds (d + 1) n))
              (sym none) ∙ rest;
        }

    pub found-open : HasFound lines d files fds → (k : FdKind) → kind_at files fds d ≡ Some k
        → HasFound (lines ++ record { descriptor = d; kind = k } ∷ []) (d + 1) files fds
    found-open it k is = by it.left it.all it.few it.rest
      where
        by : (left : ℕ) → d + left ≡ descriptor_limit → length lines ≤ d
            → lines ++ descriptors_from files fds d left ≡ open_descriptors files fds
            → HasFound (lines ++ record { descriptor = d; kind = k } ∷ []) (d + 1) files fds
        by zero all few rest = absurd (omega (arith, all, less))
        by (suc n) all few rest = record {
          left = n;
          all = omega (arith, all);
          few =
              omega (arith, few, length-append lines (record { descriptor = d; kind = k } ∷ []));
          rest =
              append_assoc lines (record { descriptor = d; kind = k } ∷ []) (descriptors_from files fds (d + 1) n)
              ∙ ap (λ (o : Option FdKind). lines ++ (descriptor_of d o ++ descriptors_from files fds (d + 1) n))
              (sym is) ∙ rest;
        }

  pub found-all : (lines : List OpenDescriptor) (d : ℕ) → d ≡ descriptor_limit → HasFound lines d files fds
      → lines ≡ open_descriptors files fds
  found-all lines d last it = by it.left it.all it.rest
    where
      by : (left : ℕ) → d + left ≡ descriptor_limit
          → lines ++ descriptors_from files fds d left ≡ open_descriptors files fds → lines ≡ open_descriptors files fds
      by zero all rest = sym (append-nil lines) ∙ rest
      by (suc n) all rest = absurd (omega (arith, all, last))

-- it is noted
pub kind-noted : (p : ProbeState) (d : ℕ) (k : FdKind) → length p.lines < descriptor_limit
    → (with_kind p d (Some k)).lines ≡ p.lines ++ record { descriptor = d; kind = k } ∷ []
unfolding with_kind
kind-noted p d k few = rw (lt-ltb (length p.lines) descriptor_limit few) refl
