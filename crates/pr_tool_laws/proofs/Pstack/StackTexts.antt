use Rattle.std.proofs.Common.{◌≡◌, ◌≢◌, ◌+◌, ◌<◌, ◌≤◌, ◌∷◌, ◌++◌, ℕ, true, cond, List, [], Option, Some, None, length, map, nat_le, take, refl, sym, ap, ◌∙◌, arith}
use Rattle.std.specs.List.{flat_map}
use Rattle.std.proofs.lemmas.Bool.{eq-eqb, ne_eqb}
use Rattle.std.proofs.lemmas.List.{append-nil, append_assoc, take_all}
use Rattle.std.proofs.lemmas.List.Concat.{flat_map-append}
use Rattle.pr_model.specs.Reads.{mapped_from}
use Rattle.pr_model.specs.Readers.{space_seen}
use Rattle.pr_model.specs.Records.{lstatus_of, statuses_of_lwps}
use Rattle.pr_model.specs.Registers.{fp_of, pc_of}
use Rattle.pr_model.specs.State.{TracedLwp, TracedProcess, TracedSystem}
use Rattle.pr_model.specs.Statuses.{lwpstatus_of}
use Rattle.pr_num.proofs.ByIdLemmas.{rises_from-head, rises_from-tail}
use Rattle.pr_num.specs.ById.{IsRising, rises_from}
use Rattle.pr_num.specs.Layout.{text_base}
use Rattle.pr_num.specs.Programs.{Program}
use Rattle.pr_num.specs.Spaces.{Space}
use Rattle.pr_rec.specs.RecordBytes.{lstatus_bytes}
use Rattle.pr_rec.specs.RecordWords.{lwpstatus_words_of}
use Rattle.pr_rec.specs.declared.lwps.LwpStatus.{LwpStatus}
use Rattle.pr_tools.specs.Pstack as tool
use Rattle.pr_tools.specs.Pstack.{frame_line, frame_line_of, program_of}
use Rattle.pr_tools.specs.Steps.{read_frames}
use Rattle.pr_tools.specs.Texts.{header, line_end, lwp_label}
use Rattle.pr_tools.specs.Calls.{short_read}
use Rattle.pr_tools.specs.declared.stacks.CallFrame.{CallFrame}
use Rattle.pr_tool_laws.proofs.Records.ReadBackLemmas.{lwps-back}
use Rattle.pr_tool_laws.proofs.Pstack.StackWalks.{all_frames, frame_at, frames_of}
use Rattle.pr_tool_laws.specs.OneState.{AreLwpsRead}
use Rattle.pr_tools.specs.SpaceStacks.{first_instruction, lwp_stack, lwps_stacks, returns_from}
use Rattle.pr_tool_laws.specs.Stacks.{stacks_text}

-- Of the frames of all lwps each lwp has its own in its text, since no two lwps have one id.

module _ (program : Option Program) where
  -- the lines of an lwp's own frames
  own-lines : (id : ℕ) (pcs : List ℕ)
      → flat_map (frame_line_of program id) (map (frame_at id) pcs) ≡ flat_map (frame_line program) pcs
  unfolding frame_line_of
  own-lines id [] = refl
  own-lines id (pc ∷ pcs) =
      rw (eq-eqb id id refl) (ap (λ (text : List ℕ). frame_line program pc ++ text) (own-lines id pcs))

  -- another lwp's frames have no line there
  no-lines : (id other : ℕ) (pcs : List ℕ) → other ≢ id
      → flat_map (frame_line_of program id) (map (frame_at other) pcs) ≡ []
  unfolding frame_line_of
  no-lines id other [] differs = refl
  no-lines id other (pc ∷ pcs) differs = rw (ne_eqb other id differs) (no-lines id other pcs differs)

  module _ (p : TracedProcess) (space : Space) where
    -- the line of no frame of these is one of an lwp of such an id
    abbrev HaveNoLines : ℕ → List CallFrame → Type 0
    HaveNoLines low frames = (id : ℕ) → low ≤ id → flat_map (frame_line_of program id) frames ≡ []

    lwp-lines : (l : LwpStatus)
        → flat_map (frame_line_of program l.id) (frames_of space l) ≡ flat_map (frame_line program)
        (returns_from space read_frames (fp_of l.regs))
    unfolding frames_of
    lwp-lines l = own-lines l.id (returns_from space read_frames (fp_of l.regs))

    other-lines : (l : LwpStatus) (id : ℕ) → l.id ≢ id → flat_map (frame_line_of program id) (frames_of space l) ≡ []
    unfolding frames_of
    other-lines l id differs = no-lines id l.id (returns_from space read_frames (fp_of l.regs)) differs

    -- lwps of greater ids
    later-lines : (es : List (ℕ × TracedLwp)) (id low : ℕ) → id < low → rises_from low es ≡ true
        → flat_map (frame_line_of program id) (all_frames space (statuses_of_lwps p es)) ≡ []
    unfolding lwpstatus_of
    later-lines [] id low below rises = refl
    later-lines (e ∷ es) id low below rises =
        let from = rises_from-head low e es rises in
        let l : LwpStatus = lwpstatus_of p e.0 e.1 in
        let own = other-lines l id (λ same. absurd (omega arith)) in
        let rest = later-lines es id (e.0 + 1) (omega arith) (rises_from-tail low e es rises) in
        flat_map-append (frame_line_of program id) (frames_of space l) (all_frames space (statuses_of_lwps p es))
        ∙ ap (λ (text : List ℕ). text ++ flat_map (frame_line_of program id)
        (all_frames space (statuses_of_lwps p es))) own ∙ rest

    -- the text of an lwp, where the other frames are of lwps of lesser and of greater ids
    lwp-text : (front back : List CallFrame) (l : LwpStatus) → flat_map (frame_line_of program l.id) front ≡ []
        → flat_map (frame_line_of program l.id) back ≡ []
        → tool.stack_text program (front ++ (frames_of space l ++ back))
        (lwpstatus_words_of l) ≡ lwp_stack program space l
    unfolding tool.stack_text lwp_stack
    lwp-text front back l before after =
        let lines = frame_line_of program l.id in
        let all : flat_map lines (front ++ (frames_of space l ++ back)) ≡ flat_map (frame_line program)
        (returns_from space read_frames (fp_of l.regs)) =
        flat_map-append lines front (frames_of space l ++ back)
        ∙ ap (λ (text : List ℕ). text ++ flat_map lines (frames_of space l ++ back)) before
        ∙ flat_map-append lines (frames_of space l) back
        ∙ ap (λ (text : List ℕ). flat_map lines (frames_of space l) ++ text) after
        ∙ append-nil (flat_map lines (frames_of space l)) ∙ lwp-lines l in
        ap (λ (text : List ℕ). lwp_label l.id ++ line_end ++ frame_line program (pc_of l.regs) ++ text) all

    lwp-texts : (es : List (ℕ × TracedLwp)) (front : List CallFrame) (low : ℕ) → HaveNoLines low front
        → rises_from low es ≡ true
        → flat_map (tool.stack_text program (front ++ all_frames space (statuses_of_lwps p es)))
        (map lwpstatus_words_of (statuses_of_lwps p es)) ≡ flat_map (lwp_stack program space) (statuses_of_lwps p es)
    unfolding lwpstatus_of
    lwp-texts [] front low none rises = refl
    lwp-texts (e ∷ es) front low none rises =
        let from = rises_from-head low e es rises in
        let tail = rises_from-tail low e es rises in
        let l : LwpStatus = lwpstatus_of p e.0 e.1 in
        let back = all_frames space (statuses_of_lwps p es) in
        let words = map lwpstatus_words_of (statuses_of_lwps p es) in
        let own = lwp-text front back l (none e.0 from) (later-lines es e.0 (e.0 + 1) (omega arith) tail) in
        let none_more : HaveNoLines (e.0 + 1) (front ++ frames_of space l) = λ id above.
        flat_map-append (frame_line_of program id) front (frames_of space l)
        ∙ ap (λ (text : List ℕ). text ++ flat_map (frame_line_of program id) (frames_of space l))
        (none id (omega arith)) ∙ other-lines l id (λ same. absurd (omega arith)) in
        let rest = lwp-texts es (front ++ frames_of space l) (e.0 + 1) none_more tail in
        let same : front ++ (frames_of space l ++ back) ≡ (front ++ frames_of space l) ++ back =
        sym (append_assoc front (frames_of space l) back) in
        ap (λ (text : List ℕ). text ++ flat_map
        (tool.stack_text program (front ++ (frames_of space l ++ back))) words) own
        ∙ ap (λ (text : List ℕ). lwp_stack program space l ++ text)
        (ap (λ (frames : List CallFrame). flat_map (tool.stack_text program frames) words) same ∙ rest)

-- ---- the text of a process

-- What pstack prints of the status of all lwps of a process, of its first instruction, and of all frames.
pub stacks-shown : (pid : ℕ) (s : TracedSystem) (p : TracedProcess) (programs : List Program) → AreLwpsRead p
    → IsRising p.lwps
    → tool.pstack_text pid (lstatus_bytes (lstatus_of p)) (first_instruction (space_seen s p))
    (all_frames (space_seen s p) (lstatus_of p)) programs ≡ stacks_text pid programs s p
unfolding tool.pstack_text stacks_text lwps_stacks lstatus_of
stacks-shown pid s p programs are rises =
    let space : Space = space_seen s p in
    let lwps = statuses_of_lwps p p.lwps in
    let program = program_of programs (first_instruction space) in
    let frames = all_frames space lwps in
    let texts = lwp-texts program p space p.lwps [] 0 (λ id above. refl) rises in
    ap (λ (o : Option (List (List ℕ))). header pid ++ tool.stack_texts program frames o)
    (lwps-back pid lwps are.few are.fields)
    ∙ ap (λ (text : List ℕ). header pid ++ text) texts

-- ---- the first instruction

-- one read has all of it
pub first-shown : (space : Space) → length (mapped_from space text_base short_read) ≤ short_read
    → cond (nat_le short_read (length (mapped_from space text_base short_read)))
    (Some (take short_read (mapped_from space text_base short_read))) None ≡ first_instruction space
first-shown space few =
    ap (λ (bytes : List ℕ). cond (nat_le short_read (length (mapped_from space text_base short_read)))
    (Some bytes) None) (take_all short_read (mapped_from space text_base short_read) few)
