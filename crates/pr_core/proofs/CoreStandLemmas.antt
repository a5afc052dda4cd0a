-- A core, read where it stands.
use Rattle.std.proofs.Common.{◌≡◌, ◌==◌, ◌+◌, ◌<◌, ◌^◌, ℕ, Bool, true, false, cond, List, ◌++◌, length, map, All, Result, Ok, Err, refl, sym, ap, subst, ◌∙◌, arith, length-append}
use Rattle.std.proofs.lemmas.Bool.{eqb-true, eq-eqb, lt-ltb, ltb-true, ne_eqb}
use Rattle.pr_num.specs.Records.{an_id, psinfo_ranges, lwpstatus_ranges, sigact_ranges, map_entry_ranges, fd_entry_ranges, entries_words, counted_words}
use Rattle.pr_num.specs.Words.{IsByte, word_bytes, words_bytes}
use Rattle.pr_codec.proofs.WordLemmas.{length-word_bytes}
use Rattle.pr_rec.proofs.LwpStatusLemmas.{lwpstatus_take}
use Rattle.pr_rec.proofs.MapEntryLemmas.{map_entry_take}
use Rattle.pr_rec.proofs.PsinfoLemmas.{psinfo_take}
use Rattle.pr_text.specs.Steps.{◌>>=◌}
use Rattle.pr_core.proofs.EntryLemmas.{sigact_take, fd_entry_take}
use Rattle.pr_core.proofs.PieceStandLemmas.{sections, pieces-stand, stand-pieces}
use Rattle.pr_core.proofs.SectionStandLemmas.{one_record-stands, stands-one_record, any_records-stand, stand-any_records, counted_records-stand, stand-counted_records}
use Rattle.pr_core.proofs.StandLemmas.{StandsAt, stands_first, whole, first_of, second_of, both_of}
use Rattle.pr_core.proofs.StepLemmas.{gave}
use Rattle.pr_core.proofs.WordLemmas.{word_in-stands, stands-word_in, length-section}
use Rattle.pr_core.specs.CoreBytes.{core_version, psinfo_kind, lstatus_kind, sigact_kind, map_kind, fds_kind, section, encoded}
use Rattle.pr_core.specs.CoreRanges.{EncodesCore, mapping_size}
use Rattle.pr_core.specs.CoreReading.{Read, word_in, exactly, one_record, any_records, counted_records, pieces, ended, core_read}
use Rattle.pr_core.specs.Cores.{CoreWords}
use Rattle.pr_core.specs.declared.faults.CoreFault.{CoreFault}
use Rattle.pr_core.specs.declared.faults.CoreFault.TheVariants.{Bad}

-- ---- the front of a core, up to each of its parts

abbrev pub up_to_pid : CoreWords → List ℕ
up_to_pid c = word_bytes core_version ++ word_bytes c.pid

abbrev pub up_to_psinfo : CoreWords → List ℕ
up_to_psinfo c = up_to_pid c ++ section psinfo_kind (words_bytes c.psinfo)

abbrev pub up_to_lwps : CoreWords → List ℕ
up_to_lwps c = up_to_psinfo c ++ section lstatus_kind (words_bytes (counted_words c.lwps))

abbrev pub up_to_sigact : CoreWords → List ℕ
up_to_sigact c = up_to_lwps c ++ section sigact_kind (words_bytes c.sigact)

abbrev pub up_to_maps : CoreWords → List ℕ
up_to_maps c = up_to_sigact c ++ section map_kind (words_bytes (entries_words c.maps))

abbrev pub up_to_fds : CoreWords → List ℕ
up_to_fds c = up_to_maps c ++ section fds_kind (words_bytes (entries_words c.fds))

-- how many bytes two parts have from the front on
end_of : (p q : List ℕ) → 0 + length p + length q ≡ 0 + length (p ++ q)
end_of p q = omega (arith, length-append p q)

-- a part's bytes are fewer than a word can count, where it stands
part-small : (bytes : List ℕ) (kind at : ℕ) (part : List ℕ) → length bytes < 2 ^ 64
    → StandsAt bytes at (section kind part) → length part < 2 ^ 64
part-small bytes kind at part few stands = omega (arith, stands.within, length-section kind part)

-- ---- all steps of a reading

module _ (bytes : List ℕ) (version pid : ℕ) (psinfo : Read (List ℕ)) (lwps : Read (List (List ℕ)))
    (sigact : Read (List ℕ)) (maps fds memory : Read (List (List ℕ))) where
  -- what each gave
  pub record AreSteps : Type 0 where
    pub version_is : word_in (exactly core_version) bytes 0 ≡ Ok version
    pub pid_is : word_in an_id bytes 8 ≡ Ok pid
    pub psinfo_is : one_record psinfo_kind psinfo_ranges bytes 16 ≡ Ok psinfo
    pub lwps_are : counted_records lstatus_kind lwpstatus_ranges bytes psinfo.next ≡ Ok lwps
    pub sigact_is : one_record sigact_kind sigact_ranges bytes lwps.next ≡ Ok sigact
    pub maps_are : any_records map_kind map_entry_ranges bytes sigact.next ≡ Ok maps
    pub fds_are : any_records fds_kind fd_entry_ranges bytes maps.next ≡ Ok fds
    pub memory_is : pieces (map mapping_size maps.found) bytes fds.next ≡ Ok memory

  -- the words of the core that they gave
  abbrev pub gathered : CoreWords
  gathered = record {
    pid = pid;
    psinfo = psinfo.found;
    lwps = lwps.found;
    sigact = sigact.found;
    maps = maps.found;
    fds = fds.found;
    memory = memory.found;
  }

  pub core_read-steps : AreSteps → core_read bytes ≡ (ended bytes memory.next >>= λ _. Ok gathered)
  unfolding core_read
  core_read-steps steps =
      rw (
        steps.version_is,
        steps.pid_is,
        steps.psinfo_is,
        steps.lwps_are,
        steps.sigact_is,
        steps.maps_are,
        steps.fds_are,
        steps.memory_is,
      )

-- what stands behind the last of them
pub ended-here : (bytes : List ℕ) (at : ℕ) → at ≡ length bytes → ended bytes at ≡ Ok tt
ended-here bytes at end = ap (λ (b : Bool). cond b (Ok tt) (Err (Bad at))) (eq-eqb at (length bytes) end)

pub ended-before : (bytes : List ℕ) (at : ℕ) → at < length bytes → ended bytes at ≡ Err (Bad at)
ended-before bytes at more = ap (λ (b : Bool). cond b (Ok tt) (Err (Bad at))) (ne_eqb at (length bytes) (omega arith))

-- the next place of what was read
next-as : {T : Type 0} (found : T) (at next : ℕ) (r : Result (Read T) CoreFault)
    → r ≡ Ok (record { found = found; next = at }) → at ≡ next → r ≡ Ok (record { found = found; next = next })
next-as found at next r is same = is ∙ ap (λ (n : ℕ). Ok (record { found = found; next = n })) same

-- ---- what is written is read

module _ (c : CoreWords) (front more bytes : List ℕ) (is : EncodesCore front c) (parts : bytes ≡ front ++ more)
    (few : length bytes < 2 ^ 64) where
  pub record StandParts : Type 0 where
    pub version : StandsAt bytes 0 (word_bytes core_version)
    pub pid : StandsAt bytes 8 (word_bytes c.pid)
    pub psinfo : StandsAt bytes 16 (section psinfo_kind (words_bytes c.psinfo))
    pub lwps : StandsAt bytes (0 + length (up_to_psinfo c)) (section lstatus_kind (words_bytes (counted_words c.lwps)))
    pub sigact : StandsAt bytes (0 + length (up_to_lwps c)) (section sigact_kind (words_bytes c.sigact))
    pub maps : StandsAt bytes (0 + length (up_to_sigact c)) (section map_kind (words_bytes (entries_words c.maps)))
    pub fds : StandsAt bytes (0 + length (up_to_maps c)) (section fds_kind (words_bytes (entries_words c.fds)))
    pub memory : StandsAt bytes (0 + length (up_to_fds c)) (sections c.memory)

  stand_parts : StandParts
  unfolding encoded
  stand_parts =
      let all : StandsAt bytes 0 (up_to_fds c ++ sections c.memory) =
      stands_first bytes (up_to_fds c ++ sections c.memory) more (parts ∙ ap (λ (b : List ℕ). b ++ more) is.spelled) in
      let fds = first_of bytes (up_to_fds c) (sections c.memory) 0 all in
      let maps = first_of bytes (up_to_maps c) (section fds_kind (words_bytes (entries_words c.fds))) 0 fds in
      let sigact = first_of bytes (up_to_sigact c) (section map_kind (words_bytes (entries_words c.maps))) 0 maps in
      let lwps = first_of bytes (up_to_lwps c) (section sigact_kind (words_bytes c.sigact)) 0 sigact in
      let psinfo = first_of bytes (up_to_psinfo c) (section lstatus_kind (words_bytes (counted_words c.lwps))) 0 lwps in
      let pid = first_of bytes (up_to_pid c) (section psinfo_kind (words_bytes c.psinfo)) 0 psinfo in
      let after_version : 0 + length (word_bytes core_version) ≡ 8 = omega (arith, length-word_bytes core_version) in
      let after_pid : 0 + length (up_to_pid c) ≡ 16 =
      omega (
        arith,
        length-append (word_bytes core_version) (word_bytes c.pid),
        length-word_bytes core_version,
        length-word_bytes c.pid,
      ) in
      record {
        version = first_of bytes (word_bytes core_version) (word_bytes c.pid) 0 pid;
        pid = subst (λ (n : ℕ). StandsAt bytes n (word_bytes c.pid)) after_version
            (second_of bytes (word_bytes core_version) (word_bytes c.pid) 0 pid);
        psinfo = subst (λ (n : ℕ). StandsAt bytes n (section psinfo_kind (words_bytes c.psinfo))) after_pid
            (second_of bytes (up_to_pid c) (section psinfo_kind (words_bytes c.psinfo)) 0 psinfo);
        lwps = second_of bytes (up_to_psinfo c) (section lstatus_kind (words_bytes (counted_words c.lwps))) 0 lwps;
        sigact = second_of bytes (up_to_lwps c) (section sigact_kind (words_bytes c.sigact)) 0 sigact;
        maps = second_of bytes (up_to_sigact c) (section map_kind (words_bytes (entries_words c.maps))) 0 maps;
        fds = second_of bytes (up_to_maps c) (section fds_kind (words_bytes (entries_words c.fds))) 0 fds;
        memory = second_of bytes (up_to_fds c) (sections c.memory) 0 all;
      }

  -- a core that stands in front is read, and what follows it is judged
  pub core_read-front : core_read bytes ≡ (ended bytes (length front) >>= λ _. Ok c)
  unfolding encoded
  core_read-front =
      let at = stand_parts in
      let psinfo : List ℕ = section psinfo_kind (words_bytes c.psinfo) in
      let lwps : List ℕ = section lstatus_kind (words_bytes (counted_words c.lwps)) in
      let sigact : List ℕ = section sigact_kind (words_bytes c.sigact) in
      let maps : List ℕ = section map_kind (words_bytes (entries_words c.maps)) in
      let fds : List ℕ = section fds_kind (words_bytes (entries_words c.fds)) in
      let after_psinfo : 16 + length psinfo ≡ 0 + length (up_to_psinfo c) =
      omega (
        arith,
        length-append (up_to_pid c) psinfo,
        length-append (word_bytes core_version) (word_bytes c.pid),
        length-word_bytes core_version,
        length-word_bytes c.pid,
      ) in
      let after_all : 0 + length (up_to_fds c) + length (sections c.memory) ≡ length front =
      end_of (up_to_fds c) (sections c.memory) ∙ omega (arith, ap length is.spelled) in
      core_read-steps bytes core_version c.pid (record { found = c.psinfo; next = 0 + length (up_to_psinfo c) })
      (record { found = c.lwps; next = 0 + length (up_to_lwps c) })
      (record { found = c.sigact; next = 0 + length (up_to_sigact c) })
      (record { found = c.maps; next = 0 + length (up_to_maps c) })
      (record { found = c.fds; next = 0 + length (up_to_fds c) })
      (record { found = c.memory; next = length front })
      (record {
        version_is = word_in-stands (exactly core_version) bytes 0 core_version at.version (omega arith) refl;
        pid_is = word_in-stands an_id bytes 8 c.pid at.pid (omega (arith, is.pid)) (lt-ltb c.pid (2 ^ 32) is.pid);
        psinfo_is = next-as c.psinfo _ _ _ (one_record-stands psinfo_ranges psinfo_take psinfo_kind (omega arith) bytes
            16 c.psinfo is.psinfo (part-small bytes psinfo_kind 16 (words_bytes c.psinfo) few at.psinfo) at.psinfo)
            after_psinfo;
        lwps_are = next-as c.lwps _ _ _ (counted_records-stand lwpstatus_ranges lwpstatus_take lstatus_kind
            (omega arith) bytes (omega arith) (0 + length (up_to_psinfo c)) c.lwps is.lwps
            (part-small bytes lstatus_kind _ _ few at.lwps) at.lwps) (end_of (up_to_psinfo c) lwps);
        sigact_is = next-as c.sigact _ _ _ (one_record-stands sigact_ranges sigact_take sigact_kind (omega arith) bytes
            (0 + length (up_to_lwps c)) c.sigact is.sigact (part-small bytes sigact_kind _ _ few at.sigact) at.sigact)
            (end_of (up_to_lwps c) sigact);
        maps_are = next-as c.maps _ _ _ (any_records-stand map_entry_ranges map_entry_take map_kind (omega arith) bytes
            (omega arith) (0 + length (up_to_sigact c)) c.maps is.maps (part-small bytes map_kind _ _ few at.maps)
            at.maps) (end_of (up_to_sigact c) maps);
        fds_are = next-as c.fds _ _ _ (any_records-stand fd_entry_ranges fd_entry_take fds_kind (omega arith) bytes
            (omega arith) (0 + length (up_to_maps c)) c.fds is.fds (part-small bytes fds_kind _ _ few at.fds) at.fds)
            (end_of (up_to_maps c) fds);
        memory_is = ap (λ (sizes : List ℕ). pieces sizes bytes (0 + length (up_to_fds c))) (sym is.pieces)
            ∙ next-as c.memory _ _ _ (pieces-stand bytes c.memory (0 + length (up_to_fds c)) few at.memory) after_all;
      })

-- ---- what is read was written

-- a part that stands behind the front is the end of a longer front
module _ (bytes p q : List ℕ) (at : ℕ) (is : at ≡ 0 + length p) where
  longer : StandsAt bytes 0 p → StandsAt bytes at q → StandsAt bytes 0 (p ++ q)
  longer front part = both_of bytes p q 0 front (subst (λ (n : ℕ). StandsAt bytes n q) is part)

  longer-end : (next : ℕ) → next ≡ at + length q → next ≡ 0 + length (p ++ q)
  longer-end next next_is = next_is ∙ ap (λ (n : ℕ). n + length q) is ∙ end_of p q

ended-all : (bytes : List ℕ) (at : ℕ) (u : Unit {0}) → ended bytes at ≡ Ok u → at ≡ length bytes
ended-all bytes at u is = by (at == length bytes) refl is
  where
    by : (b : Bool) → (at == length bytes) ≡ b → cond b (Ok tt) (Err (Bad at)) ≡ Ok u → at ≡ length bytes
    by true same e = eqb-true at (length bytes) same
    by false same e = absurd cc

-- the steps of a reading that gave a core
record Gathered (bytes : List ℕ) (c : CoreWords) : Type 0 where
  version : ℕ
  pid : ℕ
  psinfo : Read (List ℕ)
  lwps : Read (List (List ℕ))
  sigact : Read (List ℕ)
  maps : Read (List (List ℕ))
  fds : Read (List (List ℕ))
  memory : Read (List (List ℕ))
  steps : AreSteps bytes version pid psinfo lwps sigact maps fds memory
  end : memory.next ≡ length bytes
  all : gathered bytes version pid psinfo lwps sigact maps fds memory ≡ c

gathered_by : (bytes : List ℕ) (c : CoreWords) → core_read bytes ≡ Ok c → Gathered bytes c
unfolding core_read
gathered_by bytes c given =
    let version = gave _ _ c given in
    let pid = gave _ _ c version.rest_is in
    let psinfo = gave _ _ c pid.rest_is in
    let lwps = gave _ _ c psinfo.rest_is in
    let sigact = gave _ _ c lwps.rest_is in
    let maps = gave _ _ c sigact.rest_is in
    let fds = gave _ _ c maps.rest_is in
    let memory = gave _ _ c fds.rest_is in
    let end = gave _ _ c memory.rest_is in
    record {
      version = version.first;
      pid = pid.first;
      psinfo = psinfo.first;
      lwps = lwps.first;
      sigact = sigact.first;
      maps = maps.first;
      fds = fds.first;
      memory = memory.first;
      steps = record {
        version_is = version.step_is;
        pid_is = pid.step_is;
        psinfo_is = psinfo.step_is;
        lwps_are = lwps.step_is;
        sigact_is = sigact.step_is;
        maps_are = maps.step_is;
        fds_are = fds.step_is;
        memory_is = memory.step_is;
      };
      end = ended-all bytes memory.first.next end.first end.step_is;
      all = same-core _ c end.rest_is;
    }
  where
    same-core : (a b : CoreWords) → (let r : Result CoreWords CoreFault = Ok a in r ≡ Ok b) → a ≡ b
    same-core a b e = cc

pub stand-core_read : (bytes : List ℕ) (c : CoreWords) → All IsByte bytes → core_read bytes ≡ Ok c → EncodesCore bytes c
unfolding encoded
stand-core_read bytes c small given =
    let g = gathered_by bytes c given in
    let version = stands-word_in (exactly core_version) bytes 0 g.version g.steps.version_is in
    let pid = stands-word_in an_id bytes 8 g.pid g.steps.pid_is in
    let psinfo = stands-one_record psinfo_ranges psinfo_take psinfo_kind (omega arith) bytes 16 g.psinfo small
    g.steps.psinfo_is in
    let lwps = stand-counted_records lwpstatus_ranges lwpstatus_take lstatus_kind (omega arith) bytes (omega arith)
    g.psinfo.next g.lwps small g.steps.lwps_are in
    let sigact = stands-one_record sigact_ranges sigact_take sigact_kind (omega arith) bytes g.lwps.next g.sigact small
    g.steps.sigact_is in
    let maps = stand-any_records map_entry_ranges map_entry_take map_kind (omega arith) bytes (omega arith)
    g.sigact.next g.maps small g.steps.maps_are in
    let fds = stand-any_records fd_entry_ranges fd_entry_take fds_kind (omega arith) bytes (omega arith) g.maps.next
    g.fds small g.steps.fds_are in
    let memory = stand-pieces bytes (map mapping_size g.maps.found) g.fds.next g.memory small
    (omega (arith, fds.holds.next_is, fds.holds.stands.within)) g.steps.memory_is in
    let words : CoreWords = gathered bytes g.version g.pid g.psinfo g.lwps g.sigact g.maps g.fds g.memory in
    let first = subst (λ (w : ℕ). StandsAt bytes 0 (word_bytes w)) (eqb-true g.version core_version version.may)
    (version.stands small) in
    let heading = longer bytes (word_bytes core_version) (word_bytes g.pid) 8
    (omega (arith, length-word_bytes core_version)) first (pid.stands small) in
    let to_pid : 16 ≡ 0 + length (up_to_pid words) =
    omega (
      arith,
      length-append (word_bytes core_version) (word_bytes g.pid),
      length-word_bytes core_version,
      length-word_bytes g.pid,
    ) in
    let at_psinfo = longer bytes (up_to_pid words) (section psinfo_kind (words_bytes words.psinfo)) 16 to_pid heading
    psinfo.holds.stands in
    let to_psinfo = longer-end bytes (up_to_pid words) (section psinfo_kind (words_bytes words.psinfo)) 16 to_pid
    g.psinfo.next psinfo.holds.next_is in
    let at_lwps = longer bytes (up_to_psinfo words) (section lstatus_kind (words_bytes (counted_words words.lwps)))
    g.psinfo.next to_psinfo at_psinfo lwps.holds.stands in
    let to_lwps = longer-end bytes (up_to_psinfo words) (section lstatus_kind (words_bytes (counted_words words.lwps)))
    g.psinfo.next to_psinfo g.lwps.next lwps.holds.next_is in
    let at_sigact = longer bytes (up_to_lwps words) (section sigact_kind (words_bytes words.sigact)) g.lwps.next to_lwps
    at_lwps sigact.holds.stands in
    let to_sigact = longer-end bytes (up_to_lwps words) (section sigact_kind (words_bytes words.sigact)) g.lwps.next
    to_lwps g.sigact.next sigact.holds.next_is in
    let at_maps = longer bytes (up_to_sigact words) (section map_kind (words_bytes (entries_words words.maps)))
    g.sigact.next to_sigact at_sigact maps.holds.stands in
    let to_maps = longer-end bytes (up_to_sigact words) (section map_kind (words_bytes (entries_words words.maps)))
    g.sigact.next to_sigact g.maps.next maps.holds.next_is in
    let at_fds = longer bytes (up_to_maps words) (section fds_kind (words_bytes (entries_words words.fds))) g.maps.next
    to_maps at_maps fds.holds.stands in
    let to_fds = longer-end bytes (up_to_maps words) (section fds_kind (words_bytes (entries_words words.fds)))
    g.maps.next to_maps g.fds.next fds.holds.next_is in
    let at_memory = longer bytes (up_to_fds words) (sections words.memory) g.fds.next to_fds at_fds memory.stand in
    let to_memory = longer-end bytes (up_to_fds words) (sections words.memory) g.fds.next to_fds g.memory.next
    memory.next_is in
    subst (EncodesCore bytes) g.all (record {
      pid = ltb-true g.pid (2 ^ 32) pid.may;
      psinfo = psinfo.is;
      lwps = lwps.are;
      sigact = sigact.is;
      maps = maps.are;
      fds = fds.are;
      pieces = memory.sized;
      spelled = whole bytes (up_to_fds words ++ sections words.memory) at_memory (omega (arith, to_memory, g.end));
    })
