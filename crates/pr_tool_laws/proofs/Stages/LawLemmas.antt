use Rattle.std.proofs.Common.{◌≡◌, ◌≢◌, ◌++◌, ◌∷◌, ℕ, Some, None, List, [], true, inl, inr, refl, slice_get}
use Rattle.pr_api.specs.Entries.{call_entry}
use Rattle.pr_model.specs.Calls.{Answer, answer_to}
use Rattle.pr_model.specs.Lawful.{IsLawful}
use Rattle.pr_model.specs.Legal.{IsLegalEntry, state_after}
use Rattle.pr_model.specs.State.{TracedState, TracedSystem}
use Rattle.pr_model.specs.declared.calls.Call.{Call}
use Rattle.pr_model.specs.declared.events.Act.{Act}
use Rattle.pr_model.specs.declared.events.Actor.{Actor}
use Rattle.pr_model.specs.declared.events.Entry.{Entry}
use Rattle.pr_model.specs.declared.tools.ToolKind.{ToolKind}
use Rattle.pr_model.specs.declared.tools.ToolKind.TheVariants.{Pflags, Psig, Pstack, Pmap, Pfiles, Pstop, Prun, Pwait, Ptree}
use Rattle.pr_num.specs.Programs.{Program}
use Rattle.pr_tools.specs.RecordTexts.{text_of_record}
use Rattle.pr_tools.specs.Steps.{after, after_in_pwait, after_in_reader, file_of, first_step, way_out}
use Rattle.pr_tools.specs.Tools.{ToolState, fed, first_tool, has_ended, next_call_of, printed, text_of}
use Rattle.pr_tools.specs.declared.steps.Step.{Step}
use Rattle.pr_tools.specs.declared.steps.Step.TheVariants as step
use Rattle.pr_world.specs.Controllers.{after_reply, next_call}
use Rattle.pr_world.specs.ControllerStates.{ControllerState, Tool}
use Rattle.pr_world.specs.Protocol.{controllers_at}
use Rattle.pr_tool_laws.specs.Runs.{IsRunOf}
use Rattle.pr_tool_laws.proofs.Stages.ProtocolLemmas.{KeptByCalls, KeptByOthers, own-keeps}
use Rattle.pr_tool_laws.proofs.Stages.EndedLemmas.{IsAwaited, first-awaited, pwait-keeps}
use Rattle.pr_tool_laws.proofs.Stages.OtherStages as other
use Rattle.pr_tool_laws.proofs.Records.ReadTextLemmas.{read-back}
use Rattle.pr_tool_laws.proofs.Stages.ReaderLemmas.{IsReader}
use Rattle.pr_tool_laws.proofs.Stages.StageLemmas as stages
use Rattle.pr_tool_laws.proofs.OwnFiles.StandingLemmas.{IsOther}
use Rattle.pr_tool_laws.proofs.Stages.ToolLemmas.{HasRead, of-one-state, text-read}
use Rattle.pr_tool_laws.specs.OneState.{IsOfOneState}
use Rattle.pr_tool_laws.specs.Reads.{IsToolRead, bytes_shown}
use Rattle.pr_tool_laws.specs.ShownStates.{HasEnded}
use Rattle.pr_tool_laws.specs.ToolTexts.{reads_once}

-- The text of a tool is that of one state, tool by tool; in the state that pwait shows the process has ended.

-- ---- what a tool keeps

abbrev OfTool : (ToolState → Type 0) → ControllerState → Type 0
OfTool Q (Tool t) = Q t
OfTool Q _ = ⊥

module _ (n k : ℕ) (first : TracedState) (Q : List Entry → ToolState → Type 0)
    (by_others : (h : List Entry) (t : ToolState) (actor : Actor) (it : Act) → IsLegalEntry n (state_after first h)
    (record { actor = actor; act = it }) → IsOther k actor it → Q h t
    → Q (h ++ (record { actor = actor; act = it }) ∷ []) t)
    (by_calls : (h : List Entry) (t : ToolState) (c : Call) (a : Answer) → next_call_of t ≡ Some c → answer_to
    (state_after first h) k c ≡ Some a → Q h t → Q (h ++ call_entry k c a.reply ∷ []) (fed t a.reply)) where
  P : List Entry → ControllerState → Type 0
  P h c = OfTool (Q h) c

  others-core : KeptByOthers n k first P
  unfolding P
  others-core h (Tool t) actor it legal other q = by_others h t actor it legal other q
  others-core h _ actor it legal other q = absurd q

  calls-core : KeptByCalls n k first P
  unfolding P next_call after_reply
  calls-core h (Tool t) c a next given q = by_calls h t c a next given q
  calls-core h _ c a next given q = absurd q

  pub tool-keeps : (controllers : List ControllerState) (h : List Entry) (t u : ToolState)
      → IsRunOf n k (Tool t) controllers first h → slice_get (controllers_at controllers h) k ≡ Some (Tool u)
      → Q [] t → Q h u
  unfolding P
  tool-keeps controllers h t u run ends q =
      own-keeps n k first P others-core calls-core controllers h (Tool t) (Tool u) run ends q

-- ---- what is so of a tool at the end

-- when it has finished, and was not refused, this is so of the history and of what it printed
abbrev LawOf : ℕ → ℕ → ToolKind → ℕ → TracedState → (List Entry → List ℕ → Type 0) → Type 0
LawOf n k kind pid first IsSo =
    (controllers : List ControllerState) (h : List Entry) (t : ToolState) (programs : List Program)
    → IsRunOf n k (Tool (first_tool kind pid)) controllers first h
    → slice_get (controllers_at controllers h) k ≡ Some (Tool t)
    → has_ended t ≡ true → t.refusal ≡ None → IsSo h (printed t programs)

abbrev Law : ℕ → ℕ → ToolKind → ℕ → TracedState → Type 0
Law n k kind pid first = LawOf n k kind pid first (IsOfOneState k kind pid first)

-- It is the text of one state, and this is known of that state.
pub record IsOfKnownState (k : ℕ) (kind : ToolKind) (pid : ℕ) (first : TracedState) (Shown : TracedSystem → Type 0)
    (h : List Entry) (text : List ℕ) : Type 0 where
  pub one : IsOfOneState k kind pid first h text
  pub known : Shown (state_after first one.before).system

of-read : (k : ℕ) (kind : ToolKind) (pid : ℕ) (first : TracedState) (h : List Entry) (t : ToolState)
    (programs : List Program) → reads_once kind ≡ true → has_ended t ≡ true → t.refusal ≡ None
    → HasRead k kind pid first h t → IsOfOneState k kind pid first h (printed t programs)
of-read k kind pid first h t programs once ended accepted has =
    of-one-state k kind pid first (read-back kind pid) h (printed t programs) has.bytes
    (text-read k kind pid first h t programs once has ended accepted) has.showed

-- a tool that opens one file shows a state of which this is known
known-law : (n k : ℕ) (kind : ToolKind) (pid : ℕ) (first : TracedState) (Known : Step → TracedState → Type 0)
    (Shown : TracedSystem → Type 0) → reads_once kind ≡ true → IsReader kind → stages.Keeps n k kind pid Known Shown
    → Known step.OpenFile first
    → LawOf n k kind pid first (IsOfKnownState k kind pid first Shown)
unfolding of-read of-one-state
known-law n k kind pid first Known Shown once reader keeps begun controllers h t programs run ends
    ended accepted =
    let stage =
    tool-keeps n k first (stages.Stage n k kind pid first reader Known Shown keeps)
    (stages.others-stage n k kind pid first reader Known Shown keeps)
    (λ h t c a next given q. stages.called-stage n k kind pid first reader Known Shown keeps h c a given t next q)
    controllers h (first_tool kind pid) t run ends (stages.at_first refl begun) in
    let it = stages.ended-stage n k kind pid first reader Known Shown keeps h t ended accepted stage in
    record { one = of-read k kind pid first h t programs once ended accepted it.has; known = it.shown }

-- where no more is known
no-more : (n k : ℕ) (kind : ToolKind) (pid : ℕ) → stages.Keeps n k kind pid (λ next s. Unit {0}) (λ s. Unit {0})
no-more n k kind pid = record {
  others = λ s e next legal it. tt;
  opened = λ s a given it. tt;
  awaited = λ s a number stands given accepted it. tt;
  read = λ s bytes reads it. tt;
}

reader-law : (n k : ℕ) (kind : ToolKind) (pid : ℕ) (first : TracedState) → reads_once kind ≡ true → IsReader kind
    → Law n k kind pid first
reader-law n k kind pid first once reader controllers h t programs run ends ended accepted =
    (known-law n k kind pid first (λ next s. Unit {0}) (λ s. Unit {0}) once reader
    (no-more n k kind pid) tt controllers h t programs run ends ended accepted).one

quiet-law : (n k : ℕ) (kind : ToolKind) (pid : ℕ) (first : TracedState) → other.IsQuiet kind → Law n k kind pid first
quiet-law n k kind pid first quiet controllers h t programs run ends ended accepted =
    let stage =
    tool-keeps n k first (other.QuietStage k kind pid first quiet)
    (λ h t actor it legal apart q. other.others-quiet k kind pid first quiet h
    (record { actor = actor; act = it }) t q)
    (λ h t c a next given q. other.called-quiet k kind pid first quiet h t c a q)
    controllers h (first_tool kind pid) t run ends (other.at_first refl) in
    let silent = other.ended-quiet k kind pid first quiet h t programs ended accepted stage in
    of-one-state k kind pid first (read-back kind pid) h (printed t programs) [] silent.text silent.showed

tree-law : (n k pid : ℕ) (first : TracedState) → reads_once Ptree ≡ true → Law n k Ptree pid first
tree-law n k pid first once controllers h t programs run ends ended accepted =
    let stage =
    tool-keeps n k first (other.TreeStage k pid first)
    (λ h t actor it legal apart q. other.others-tree k pid first h (record { actor = actor; act = it }) t q)
    (λ h t c a next given q. other.called-tree k pid first h t c a next given q)
    controllers h (first_tool Ptree pid) t run ends (other.at_first refl) in
    of-read k Ptree pid first h t programs once ended accepted (other.ended-tree k pid first h t ended stage)

-- ---- how each tool goes on

pub pflags-reads : IsReader Pflags
unfolding first_step after after_in_reader file_of way_out bytes_shown IsToolRead
pflags-reads = record {
  starts = refl;
  opens = inl refl;
  reads = refl;
  plain = refl;
  leaves = λ p. refl;
  shows = λ pid s. refl;
  finds = λ k pid s c it. it;
}

pub psig-reads : IsReader Psig
unfolding first_step after after_in_reader file_of way_out bytes_shown IsToolRead
psig-reads = record {
  starts = refl;
  opens = inl refl;
  reads = refl;
  plain = refl;
  leaves = λ p. refl;
  shows = λ pid s. refl;
  finds = λ k pid s c it. it;
}

pub pmap-reads : IsReader Pmap
unfolding first_step after after_in_reader file_of way_out bytes_shown IsToolRead
pmap-reads = record {
  starts = refl;
  opens = inl refl;
  reads = refl;
  plain = refl;
  leaves = λ p. refl;
  shows = λ pid s. refl;
  finds = λ k pid s c it. it;
}

pub pfiles-reads : IsReader Pfiles
unfolding first_step after after_in_reader file_of way_out bytes_shown IsToolRead
pfiles-reads = record {
  starts = refl;
  opens = inl refl;
  reads = refl;
  plain = refl;
  leaves = λ p. refl;
  shows = λ pid s. refl;
  finds = λ k pid s c it. it;
}

pub pwait-reads : IsReader Pwait
unfolding first_step after after_in_pwait file_of way_out bytes_shown IsToolRead
pwait-reads = record {
  starts = refl;
  opens = inr (refl, refl);
  reads = refl;
  plain = refl;
  leaves = λ p. refl;
  shows = λ pid s. refl;
  finds = λ k pid s c it. it;
}

pstop-quiet : other.IsQuiet Pstop
unfolding first_step bytes_shown text_of text_of_record IsToolRead
pstop-quiet = record {
  starts = refl;
  shows = λ pid s. refl;
  says = λ t programs. refl;
  shows-nothing = λ pid. refl;
  calls = λ k pid s c. tt;
}

prun-quiet : other.IsQuiet Prun
unfolding first_step bytes_shown text_of text_of_record IsToolRead
prun-quiet = record {
  starts = refl;
  shows = λ pid s. refl;
  says = λ t programs. refl;
  shows-nothing = λ pid. refl;
  calls = λ k pid s c. tt;
}

kind-law : (n k : ℕ) (kind : ToolKind) (pid : ℕ) (first : TracedState) → reads_once kind ≡ true → Law n k kind pid first
unfolding reads_once
kind-law n k Pflags pid first once = reader-law n k Pflags pid first once pflags-reads
kind-law n k Psig pid first once = reader-law n k Psig pid first once psig-reads
kind-law n k Pstack pid first once = absurd (cc)
kind-law n k Pmap pid first once = reader-law n k Pmap pid first once pmap-reads
kind-law n k Pfiles pid first once = reader-law n k Pfiles pid first once pfiles-reads
kind-law n k Pstop pid first once = quiet-law n k Pstop pid first pstop-quiet
kind-law n k Prun pid first once = quiet-law n k Prun pid first prun-quiet
kind-law n k Pwait pid first once = reader-law n k Pwait pid first once pwait-reads
kind-law n k Ptree pid first once = tree-law n k pid first once

pub tool-of-one-state : (controllers : List ControllerState) (n k : ℕ) (kind : ToolKind) (pid : ℕ)
    (first : TracedState) (h : List Entry) (t : ToolState) (programs : List Program) → reads_once kind ≡ true
    → IsRunOf n k (Tool (first_tool kind pid)) controllers first h
    → slice_get (controllers_at controllers h) k ≡ Some (Tool t) → has_ended t ≡ true → t.refusal ≡ None
    → IsOfOneState k kind pid first h (printed t programs)
tool-of-one-state controllers n k kind pid first h t programs once run ends ended accepted =
    kind-law n k kind pid first once controllers h t programs run ends ended accepted

-- ---- the state that pwait shows

-- where the tool is pwait, the process has ended
abbrev pub EndsIfAwaited : ToolKind → ℕ → TracedSystem → Type 0
EndsIfAwaited kind pid s = kind ≡ Pwait → HasEnded pid s

not-awaited : (n k : ℕ) (kind : ToolKind) (pid : ℕ) (first : TracedState) → kind ≢ Pwait → Law n k kind pid first
    → LawOf n k kind pid first (IsOfKnownState k kind pid first (EndsIfAwaited kind pid))
not-awaited n k kind pid first other law controllers h t programs run ends ended accepted =
    record {
      one = law controllers h t programs run ends ended accepted;
      known = λ is. absurd (other is);
    }

awaited-law : (n k pid : ℕ) (first : TracedState) → reads_once Pwait ≡ true → IsLawful first
    → LawOf n k Pwait pid first (IsOfKnownState k Pwait pid first (EndsIfAwaited Pwait pid))
awaited-law n k pid first once lawful controllers h t programs run ends ended accepted =
    let it =
    known-law n k Pwait pid first (IsAwaited pid) (HasEnded pid) once pwait-reads (pwait-keeps n k pid)
    (first-awaited n k pid first lawful) controllers h t programs run ends ended accepted in
    record { one = it.one; known = λ is. it.known }

ended-law : (n k : ℕ) (kind : ToolKind) (pid : ℕ) (first : TracedState) → reads_once kind ≡ true → IsLawful first
    → LawOf n k kind pid first (IsOfKnownState k kind pid first (EndsIfAwaited kind pid))
ended-law n k Pwait pid first once lawful = awaited-law n k pid first once lawful
ended-law n k kind pid first once lawful = not-awaited n k kind pid first (λ is. cc) (kind-law n k kind pid first once)

-- from a lawful state
pub tool-of-known-state : (controllers : List ControllerState) (n k : ℕ) (kind : ToolKind) (pid : ℕ)
    (first : TracedState) (h : List Entry) (t : ToolState) (programs : List Program) → IsLawful first
    → reads_once kind ≡ true → IsRunOf n k (Tool (first_tool kind pid)) controllers first h
    → slice_get (controllers_at controllers h) k ≡ Some (Tool t) → has_ended t ≡ true → t.refusal ≡ None
    → IsOfKnownState k kind pid first (EndsIfAwaited kind pid) h (printed t programs)
tool-of-known-state controllers n k kind pid first h t programs lawful once run ends ended accepted =
    ended-law n k kind pid first once lawful controllers h t programs run ends ended accepted
