-- The tools over the core of a process in a state show what its files show there.
use Rattle.std.proofs.Common.{◌≡◌, ◌∷◌, ℕ, List, [], map, refl, ap}
use Rattle.pr_model.specs.Readers.{space_seen}
use Rattle.pr_model.specs.Records.{fds_of, lstatus_of, map_entry_of, map_of}
use Rattle.pr_model.specs.State.{TracedProcess, TracedSystem}
use Rattle.pr_model.specs.declared.tools.ToolKind.TheVariants.{Pflags, Psig, Pstack, Pmap, Pfiles}
use Rattle.pr_num.specs.Programs.{Program}
use Rattle.pr_num.specs.Spaces.{Space}
use Rattle.pr_num.specs.declared.mappings.Mapping.{Mapping}
use Rattle.pr_rec.specs.RecordBytes.{fds_bytes, lstatus_bytes, map_bytes, sigact_bytes}
use Rattle.pr_tools.specs.RecordTexts.{text_of_record}
use Rattle.pr_tools.specs.SpaceStacks.{lwps_stacks}
use Rattle.pr_core.specs.CoreTools.{core_space, record_of, space_with, tool_over_core}
use Rattle.pr_core.specs.Snapshots.{snapshot}

-- mappings, with the bytes that they had
same-space : (program : List ℕ) (space : Space)
    → space_with (map (map_entry_of program) space) (map (λ (m : Mapping). m.bytes) space) ≡ space
unfolding map_entry_of
same-space program [] = refl
same-space program (m ∷ space) = ap (λ (ms : Space). m ∷ ms) (same-space program space)

module _ (pid : ℕ) (s : TracedSystem) (p : TracedProcess) where
  pub snapshot-space : core_space (snapshot pid s p) ≡ space_seen s p
  unfolding core_space snapshot map_of
  snapshot-space = same-space p.program (space_seen s p)

  module _ (programs : List Program) where
    pub pflags-snapshot : tool_over_core Pflags (snapshot pid s p) programs
        ≡ text_of_record Pflags pid (lstatus_bytes (lstatus_of p))
    unfolding tool_over_core record_of snapshot
    pflags-snapshot = refl

    pub psig-snapshot : tool_over_core Psig (snapshot pid s p) programs
        ≡ text_of_record Psig pid (sigact_bytes p.dispositions)
    unfolding tool_over_core record_of snapshot
    psig-snapshot = refl

    pub pstack-snapshot : tool_over_core Pstack (snapshot pid s p) programs
        ≡ lwps_stacks pid programs (space_seen s p) (lstatus_of p)
    unfolding tool_over_core snapshot
    pstack-snapshot = ap (λ (space : Space). lwps_stacks pid programs space (lstatus_of p)) snapshot-space

    pub pmap-snapshot : tool_over_core Pmap (snapshot pid s p) programs
        ≡ text_of_record Pmap pid (map_bytes (map_of s p))
    unfolding tool_over_core record_of snapshot
    pmap-snapshot = refl

    pub pfiles-snapshot : tool_over_core Pfiles (snapshot pid s p) programs
        ≡ text_of_record Pfiles pid (fds_bytes (fds_of s.files p))
    unfolding tool_over_core record_of snapshot fds_bytes
    pfiles-snapshot = refl
