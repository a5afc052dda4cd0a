use Rattle.std.proofs.Common.{◌≡◌, ℕ, List, Option, Some, IfSome, option_map, refl, sym, subst, ap, ◌∙◌}
use Rattle.pr_core.proofs.SnapshotLemmas.{pfiles-snapshot, pflags-snapshot, pmap-snapshot, psig-snapshot, pstack-snapshot}
use Rattle.pr_core.specs.CoreTools.{tool_over_core}
use Rattle.pr_core.specs.Snapshots.{snapshot}
use Rattle.pr_model.specs.Lawful.{IsLawfulSystem}
use Rattle.pr_model.specs.Records.{fds_of, lstatus_of, map_of}
use Rattle.pr_model.specs.State.{TracedProcess, TracedSystem, live_process}
use Rattle.pr_model.specs.declared.tools.ToolKind.TheVariants.{Pfiles, Pflags, Pmap, Psig, Pstack}
use Rattle.pr_num.specs.Programs.{Program}
use Rattle.pr_reached.specs.InRange.{IsInRange}
use Rattle.pr_tool_laws.proofs.Records.ReadBackLemmas.{pfiles-shown, pflags-shown, pmap-shown, psig-shown}
use Rattle.pr_tool_laws.proofs.Records.WholeLemmas.{all-read}
use Rattle.pr_tool_laws.specs.OneState.{AreDescriptorsRead, AreDispositionsRead, AreLwpsRead, AreMappingsRead, IsReadBack}
use Rattle.pr_tool_laws.specs.Stacks.{stacks_in, stacks_text}
use Rattle.pr_tool_laws.specs.TextsOfRecords.{descriptors_text, dispositions_text, lwps_text, mappings_text}
use Rattle.pr_tool_laws.specs.ToolTexts.{reads_once, tool_text}
use Rattle.pr_tools.specs.RecordTexts.{text_of_record}

-- The tools print of the core of a live process what they print of the process.

module _ (pid : ℕ) (s : TracedSystem) (p : TracedProcess) (programs : List Program)
    (live : live_process s pid ≡ Some p) where
  pub pstack-live : stacks_in pid programs s ≡ Some (tool_over_core Pstack (snapshot pid s p) programs)
  unfolding stacks_in stacks_text
  pstack-live =
      ap (option_map (stacks_text pid programs s)) live
      ∙ ap (λ (text : List ℕ). Some text) (sym (pstack-snapshot pid s p programs))

  module _ (lawful : IsLawfulSystem s) (ranged : IsInRange s) where
    of-live : (P : TracedProcess → Type 0) → IfSome (live_process s pid) P → P p
    of-live P some = subst (λ (o : Option TracedProcess). IfSome o P) live some

    pub pflags-live : tool_text Pflags pid s ≡ Some (tool_over_core Pflags (snapshot pid s p) programs)
    unfolding tool_text text_of_record IsReadBack reads_once
    pflags-live =
        let are = of-live AreLwpsRead (all-read pid s lawful ranged Pflags refl) in
        ap (option_map (λ (x : TracedProcess). lwps_text pid (lstatus_of x))) live
        ∙ ap (λ (text : List ℕ). Some text)
        (sym (pflags-snapshot pid s p programs ∙ pflags-shown pid (lstatus_of p) are.few are.fields))

    pub psig-live : tool_text Psig pid s ≡ Some (tool_over_core Psig (snapshot pid s p) programs)
    unfolding tool_text text_of_record IsReadBack reads_once
    psig-live =
        let are = of-live AreDispositionsRead (all-read pid s lawful ranged Psig refl) in
        ap (option_map (λ (x : TracedProcess). dispositions_text pid x.dispositions)) live
        ∙ ap (λ (text : List ℕ). Some text)
        (sym (psig-snapshot pid s p programs ∙ psig-shown pid p.dispositions are.whole are.words))

    pub pmap-live : tool_text Pmap pid s ≡ Some (tool_over_core Pmap (snapshot pid s p) programs)
    unfolding tool_text text_of_record IsReadBack reads_once
    pmap-live =
        let are = of-live (AreMappingsRead s) (all-read pid s lawful ranged Pmap refl) in
        ap (option_map (λ (x : TracedProcess). mappings_text pid (map_of s x))) live
        ∙ ap (λ (text : List ℕ). Some text)
        (sym (pmap-snapshot pid s p programs ∙ pmap-shown pid (map_of s p) are.fields))

    pub pfiles-live : tool_text Pfiles pid s ≡ Some (tool_over_core Pfiles (snapshot pid s p) programs)
    unfolding tool_text text_of_record IsReadBack reads_once
    pfiles-live =
        let are = of-live (AreDescriptorsRead s) (all-read pid s lawful ranged Pfiles refl) in
        ap (option_map (λ (x : TracedProcess). descriptors_text pid (fds_of s.files x))) live
        ∙ ap (λ (text : List ℕ). Some text)
        (sym (pfiles-snapshot pid s p programs ∙ pfiles-shown pid (fds_of s.files p) are.fields))
