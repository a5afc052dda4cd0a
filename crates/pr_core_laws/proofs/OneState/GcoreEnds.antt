use Rattle.std.proofs.Common.{◌≡◌, ◌∷◌, ◌++◌, ℕ, true, false, cond, List, [], Option, Some, None, IfSome, is_none, is_some, option_map, refl, sym, subst, ap, ◌∙◌}
use Rattle.std.proofs.lemmas.Bool.{false≢true}
use Rattle.std.proofs.lemmas.List.{append_assoc}
use Rattle.pr_api.specs.Entries.{call_entry}
use Rattle.pr_core.specs.CoreBytes.{core_bytes, encoded, section}
use Rattle.pr_core.specs.CoreText.{core_text, printed, report}
use Rattle.pr_core.specs.GcoreStages.{kind_of_part}
use Rattle.pr_core.specs.Gcores.{GcoreState, call_of, has_ended, next_call_of}
use Rattle.pr_core.specs.Snapshots.{snapshot}
use Rattle.pr_core.specs.declared.gcore_stages.GcorePart.TheVariants as part
use Rattle.pr_core.specs.declared.gcore_stages.GcoreStage.{GcoreStage}
use Rattle.pr_core.specs.declared.gcore_stages.GcoreStage.TheVariants as stage
use Rattle.pr_lawful.proofs.LawfulTurns.EndLemmas.{found-live}
use Rattle.pr_lawful.proofs.LawfulStates.HistoryLemmas.{history-state}
use Rattle.pr_model.specs.Lawful.{IsLawful, IsLawfulSystem}
use Rattle.pr_model.specs.Legal.{IsLegal, state_after}
use Rattle.pr_model.specs.Readers.{space_seen}
use Rattle.pr_model.specs.State.{TracedProcess, TracedState, TracedSystem, has_agent, live_process}
use Rattle.pr_model.specs.Statuses.{status_of}
use Rattle.pr_model.specs.declared.calls.Call.{Call}
use Rattle.pr_model.specs.declared.calls.File.TheVariants as file
use Rattle.pr_model.specs.declared.events.Entry.{Entry}
use Rattle.pr_model.specs.declared.tools.ToolKind.TheVariants.{Pfiles, Pflags, Pmap, Psig}
use Rattle.pr_reached.proofs.RecordsInRange.EntryRanges.{records-range}
use Rattle.pr_reached.proofs.StatesInRange.HistoryRanges.{history-range}
use Rattle.pr_reached.proofs.Together.MappedLemmas.{all-spaces}
use Rattle.pr_reached.specs.ByteHistories.{HasBytes}
use Rattle.pr_reached.specs.InRange.{IsInRange}
use Rattle.pr_rec.specs.InRange.{IsStatus}
use Rattle.pr_rec.specs.RecordBytes.{fds_bytes, lstatus_bytes, map_bytes, psinfo_bytes, sigact_bytes}
use Rattle.pr_tool_laws.proofs.Records.WholeLemmas.{all-read, front-bytes, front-legal}
use Rattle.pr_tool_laws.specs.OneState.{AreDescriptorsRead, AreDispositionsRead, AreLwpsRead, AreMappingsRead, IsReadBack}
use Rattle.pr_tool_laws.specs.Reads.{ReadsFile}
use Rattle.pr_tool_laws.specs.ToolTexts.{reads_once}
use Rattle.pr_core_laws.proofs.OneState.GcoreStages.{HasReadAll, HasTaken, IsGoing, IsGood, So, Stage, between, goes, has_read, refused}
use Rattle.pr_core_laws.proofs.OneState.GcoreSteps.{gcore_at, head_of}
use Rattle.pr_core_laws.proofs.OneState.MemoryLemmas.{memory_of}
use Rattle.pr_core_laws.proofs.OneState.ReadLemmas.{bytes_of_part}
use Rattle.pr_core_laws.proofs.StandingProcesses.SameLemmas.{dispositions-same, lstatus-same, map-same, psinfo-same, seen-same}
use Rattle.pr_core_laws.specs.OneCore.{ShowsOneCore, core_in}
use Rattle.pr_core_laws.specs.Spared.{IsSparedIn, signalled_as}

-- What gcore prints in the end is the core of the process in the state that it read.

-- ---- the bytes of a core

-- the core of a process that has lent its memory to nobody
module _ (pid : ℕ) (s t : TracedSystem) (p q : TracedProcess) (same : q ≡ signalled_as p q) (own : p.borrower
    ≡ None) where
  abbrev all_bytes : List ℕ
  all_bytes =
      (((((head_of pid ++ section (kind_of_part part.Psinfo) (bytes_of_part part.Psinfo pid s p))
      ++ section (kind_of_part part.Lstatus) (bytes_of_part part.Lstatus pid s p))
      ++ section (kind_of_part part.Sigact) (bytes_of_part part.Sigact pid s p))
      ++ section (kind_of_part part.Map) (bytes_of_part part.Map pid s p))
      ++ section (kind_of_part part.Fds) (bytes_of_part part.Fds pid t q))
      ++ memory_of p.space

  abbrev own_bytes : List ℕ
  own_bytes =
      (((((head_of pid ++ section (kind_of_part part.Psinfo) (bytes_of_part part.Psinfo pid t q))
      ++ section (kind_of_part part.Lstatus) (bytes_of_part part.Lstatus pid t q))
      ++ section (kind_of_part part.Sigact) (bytes_of_part part.Sigact pid t q))
      ++ section (kind_of_part part.Map) (bytes_of_part part.Map pid t q))
      ++ section (kind_of_part part.Fds) (bytes_of_part part.Fds pid t q))
      ++ memory_of (space_seen t q)

  own-encoded : own_bytes ≡ core_bytes (snapshot pid t q)
  unfolding snapshot encoded kind_of_part psinfo_bytes lstatus_bytes sigact_bytes map_bytes fds_bytes memory_of
  own-encoded = refl

  all-own : all_bytes ≡ own_bytes
  all-own =
      let psinfo = ap psinfo_bytes (psinfo-same t s pid p q same own) in
      let lstatus = ap lstatus_bytes (lstatus-same t s pid p q same) in
      let sigact = ap sigact_bytes (dispositions-same t s pid p q same) in
      let maps = ap map_bytes (map-same t s pid p q same own) in
      let space = seen-same t s pid p q same own in
      rw (psinfo, lstatus, sigact, maps, space) refl

  pub core-is : all_bytes ≡ core_bytes (snapshot pid t q)
  core-is = all-own ∙ own-encoded

-- ---- who has finished

has-next : (g : GcoreState) (c : Call) → next_call_of g ≡ Some c → has_ended g ≡ true → ⊥
unfolding has_ended
has-next g c next ended = absurd (false≢true (sym (ap is_none next) ∙ ended))

module _ (n k pid : ℕ) (first : TracedState) where
  going-ended : (h : List Entry) (s : TracedState) (g : GcoreState) → IsGoing n k pid first h s g → has_ended g ≡ true
      → ⊥
  unfolding So has_ended next_call_of call_of
  going-ended h s g it ended = of it.next it.so (ap has_ended (sym it.is) ∙ ended)
    where
      of : (now : GcoreStage) → So n k pid first h s.system it.notes now
          → has_ended (gcore_at pid it.opened now it.notes) ≡ true → ⊥
      of stage.OpenCtl so over = absurd (cc)
      of stage.OpenStatus so over = absurd (cc)
      of (stage.OpenPart which) so over = absurd (cc)
      of stage.OpenMemory so over = absurd (cc)
      of stage.ReadFirst so over = absurd (cc)
      of stage.Stop so over = absurd (cc)
      of stage.AwaitStop so over = absurd (cc)
      of stage.ReadStatus so over = absurd (cc)
      of (stage.ReadPart which) so over = absurd (cc)
      of stage.ReadMemory so over = absurd (cc)
      of stage.Run so over = so
      of stage.Release so over = so
      of stage.Close so over = so

  pub ended-stage : (h : List Entry) (s : TracedState) (g : GcoreState) → has_ended g ≡ true → g.refusal ≡ None
      → Stage n k pid first h s g → HasReadAll n k pid first h g
  ended-stage h s g ended accepted (goes it) = absurd (going-ended h s g it ended)
  ended-stage h s g ended accepted (has_read all) = all
  ended-stage h s g ended accepted (refused was) = absurd (false≢true (sym (ap is_some accepted) ∙ was))

  -- ---- the text

  text-is : (g : GcoreState) → has_ended g ≡ true → g.refusal ≡ None → printed g ≡ core_text g.bytes
  unfolding printed
  text-is g ended accepted =
      ap (λ b. cond b (report g g.refusal) []) ended ∙ ap (report g) accepted

  module _ (h : List Entry) (g : GcoreState) (lawful : IsLawful first) (ranged : IsInRange first.system)
      (bytes : HasBytes h) (legal : IsLegal n first h) (ended : has_ended g ≡ true) (accepted : g.refusal ≡ None)
      (all : HasReadAll n k pid first h g) where
    abbrev taken : HasTaken n k pid first h
    taken = all.taken

    abbrev before : List Entry
    before = taken.view.before

    abbrev at_look : TracedSystem
    at_look = (state_after first before).system

    abbrev at_fds : TracedSystem
    at_fds = (state_after first taken.front).system

    abbrev p : TracedProcess
    p = taken.view.process

    -- a front of the history leads to a lawful state in range
    record IsSound (front : List Entry) : Type 0 where
      system : IsLawfulSystem (state_after first front).system
      range : IsInRange (state_after first front).system

    sound : (front rest : List Entry) → h ≡ front ++ rest → IsSound front
    sound front rest place =
        let legal_front : IsLegal n first front =
        front-legal n first front rest (subst (λ (es : List Entry). IsLegal n first es) place legal) in
        record {
          system = (history-state n first front lawful legal_front).system;
          range = history-range n first front lawful ranged
              (front-bytes front rest (subst HasBytes place bytes)) legal_front;
        }

    fds-sound : IsSound taken.front
    fds-sound = sound taken.front (call_entry k taken.call taken.reply ∷ taken.after) taken.place

    look-sound : IsSound before
    look-sound =
        sound before (between n k pid first taken.front taken.view ++ call_entry k taken.call taken.reply ∷ taken.after)
        (taken.place
        ∙ ap (λ (es : List Entry). es ++ call_entry k taken.call taken.reply ∷ taken.after) taken.view.place
        ∙ append_assoc before (between n k pid first taken.front taken.view)
        (call_entry k taken.call taken.reply ∷ taken.after))

    at-look : (P : TracedProcess → Type 0) → IfSome (live_process at_look pid) P → P p
    at-look P some = subst (λ (o : Option TracedProcess). IfSome o P) taken.view.live some

    lwps-read : AreLwpsRead p
    unfolding IsReadBack reads_once
    lwps-read = at-look AreLwpsRead (all-read pid at_look look-sound.system look-sound.range Pflags refl)

    dispositions-read : AreDispositionsRead p
    unfolding IsReadBack reads_once
    dispositions-read = at-look AreDispositionsRead (all-read pid at_look look-sound.system look-sound.range Psig refl)

    mappings-read : AreMappingsRead at_look p
    unfolding IsReadBack reads_once
    mappings-read = at-look (AreMappingsRead at_look)
        (all-read pid at_look look-sound.system look-sound.range Pmap refl)

    descriptors-read : AreDescriptorsRead at_fds taken.process
    unfolding IsReadBack reads_once
    descriptors-read =
        subst (λ (o : Option TracedProcess). IfSome o (AreDescriptorsRead at_fds)) taken.live
        (all-read pid at_fds fds-sound.system fds-sound.range Pfiles refl)

    status-read : IsStatus (status_of at_look pid p)
    status-read =
        ((records-range at_look look-sound.system look-sound.range).processes pid p
        (found-live at_look pid p taken.view.live).0).status

    own : p.borrower ≡ None
    own = taken.view.own status-read

    good : has_agent p ≡ false → IsSparedIn pid p first before (between n k pid first taken.front taken.view)
        → IsGood n k pid first h taken
    good quiet spared = record {
      fine = record {
        quiet = quiet;
        status = status-read;
        lwps = lwps-read;
        dispositions = dispositions-read;
        mappings = mappings-read;
        spared = spared;
      };
      descriptors = descriptors-read;
      space =
          (all-spaces at_look look-sound.range).own pid p (found-live at_look pid p taken.view.live).0;
    }

    bytes-are : g.bytes ≡ all.notes.bytes
    bytes-are = ap (λ (u : GcoreState). u.bytes) all.is

    shown : IsGood n k pid first h taken → core_in pid at_fds ≡ Some (printed g)
    unfolding core_in
    shown good =
        let q : TracedProcess = taken.process in
        let kept = taken.kept good.fine in
        ap (option_map (λ (x : TracedProcess). core_text (core_bytes (snapshot pid at_fds x)))) taken.live
        ∙ ap (λ (bs : List ℕ). Some (core_text bs))
        (sym (bytes-are ∙ all.bytes good ∙ core-is pid at_look at_fds p q kept.same own))
        ∙ ap (λ (text : List ℕ). Some text) (sym (text-is g ended accepted))

    pub shows : ShowsOneCore k pid first h (printed g)
    shows = record {
      before = before;
      look = taken.view.look;
      seen = taken.view.seen;
      later = taken.view.later;
      call = taken.call;
      reply = taken.reply;
      after = taken.after;
      place =
          taken.place
          ∙ ap (λ (es : List Entry). es ++ call_entry k taken.call taken.reply ∷ taken.after) taken.view.place;
      looks = taken.view.looks;
      reads =
          subst (λ (es : List Entry). ReadsFile k pid file.Fds (state_after first es) taken.call) taken.view.place
          taken.reads;
      stopped = taken.view.stopped;
      process = p;
      lives = taken.view.live;
      own = own;
      shown = λ quiet spared.
          let is_good = good quiet spared in
          record {
            stood = (taken.kept is_good.fine).stood;
            shown =
                ap (λ (es : List Entry). core_in pid (state_after first es).system) (sym taken.view.place)
                ∙ shown is_good;
          };
    }
