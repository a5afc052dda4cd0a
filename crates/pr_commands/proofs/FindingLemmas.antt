-- What is found of a history, of which each entry is judged as it is read.
use Rattle.std.proofs.Common.{◌≡◌, ◌<◌, ℕ, List, [], ◌∷◌, ◌++◌, Option, Result, Ok, Err, length, refl, sym, ◌∙◌, ap, subst}
use Rattle.pr_judge.proofs.FirstLemmas.{judged-first}
use Rattle.pr_judge.specs.Hearings.{HasHeard, Hearing}
use Rattle.pr_judge.specs.Judgements.{first_illegal}
use Rattle.pr_model.specs.State.{TracedState}
use Rattle.pr_model.specs.declared.events.Entry.{Entry}
use Rattle.pr_plain.proofs.EntryLoop.{lines-bad, lines-end, lines-more, with_entries, with_none}
use Rattle.pr_plain.specs.EntryLines.{EntriesAhead, entries_left, next_of}
use Rattle.pr_plain.specs.Readings.{Stops}
use Rattle.pr_plain.specs.declared.refusals.HistRefusal.{HistRefusal}
use Rattle.pr_plain.specs.declared.refusals.HistRefusal.TheVariants as refusal
use Rattle.pr_run_laws.specs.ScenarioRuns.{first_state_of}
use Rattle.pr_scen.specs.Refusals.{ScenFault}
use Rattle.pr_scen.specs.Scenarios.{Scenario}
use Rattle.pr_commands.specs.Answers.{first_illegal_of, judged, judgement_of, refused_for}
use Rattle.pr_commands.specs.Findings.{finding_of, found, found_in}
use Rattle.pr_commands.specs.Parts.{Fails, Gives, both_read, refused_as}
use Rattle.pr_commands.specs.declared.checks.Finding.{Finding}
use Rattle.pr_commands.specs.declared.wrongs.Misread.{Misread}
use Rattle.pr_commands.specs.declared.wrongs.Misread.TheVariants as misread
use Rattle.pr_commands.specs.declared.wrongs.Wrong.{Wrong}
use Rattle.pr_commands.specs.declared.wrongs.Wrong.TheVariants as wrong

-- ---- entries that are read and judged one after another

-- Some of the entries that were to be read have been read, and just these the judge has heard.
pub record HasJudgedRead (s : Scenario) (first now : EntriesAhead) (judge : Hearing) : Type 0 where
  pub entries : List Entry
  pub rest : with_entries entries (entries_left now) ≡ entries_left first
  pub heard : HasHeard (first_state_of s) entries judge
  pub count : judge.controllers ≡ length s.controllers

pub judged-none : (s : Scenario) (first : EntriesAhead) (judge : Hearing) → HasHeard (first_state_of s) [] judge
    → judge.controllers ≡ length s.controllers → HasJudgedRead s first first judge
judged-none s first judge heard count =
    record { entries = []; rest = with_none (entries_left first); heard = heard; count = count }

one-finding : (a b : ℕ) (o p : Option ℕ) → a ≡ b → o ≡ p
    → (let r : Result Finding ℕ = Ok (record { entries = a; first = o }) in r)
    ≡ Ok (record { entries = b; first = p })
one-finding a b o p entries first =
    ap (λ (n : ℕ). let r : Result Finding ℕ = Ok (record { entries = n; first = o }) in r) entries
    ∙ ap (λ (x : Option ℕ). let r : Result Finding ℕ = Ok (record { entries = b; first = x }) in r) first

module _ (s : Scenario) (first now : EntriesAhead) (judge : Hearing) (so_far : HasJudgedRead s first now judge) where
  -- the next entry is read and heard
  pub judged-more : (next : EntriesAhead) (e : Entry) (after : Hearing) → now.read < now.count
      → next_of now ≡ Ok (e, next)
      → ((st : TracedState) (entries : List Entry) → HasHeard st entries judge → HasHeard st (entries ++ e ∷ []) after)
      → after.controllers ≡ judge.controllers → HasJudgedRead s first next after
  judged-more next e after fewer read hears same = record {
    entries = so_far.entries ++ e ∷ [];
    rest = sym (lines-more so_far.entries now next e fewer read) ∙ so_far.rest;
    heard = hears (first_state_of s) so_far.entries so_far.heard;
    count = same ∙ so_far.count;
  }

  -- the next line is wrong
  pub judged-wrong : (refused : HistRefusal) → now.read < now.count
      → Stops {Y = Entry × EntriesAhead} refused (next_of now)
      → Stops {Y = Finding} refused (found_in s (entries_left first))
  unfolding found_in
  judged-wrong refusal.NoMemory fewer wrong = tt
  judged-wrong (refusal.Line line) fewer wrong =
      ap (found_in s) (sym so_far.rest ∙ lines-bad so_far.entries now line fewer wrong)

  -- all were read
  pub judged-all : now.read ≡ now.count
      → found_in s (entries_left first) ≡ Ok (record { entries = judge.heard; first = judge.first })
  unfolding found_in found first_illegal_of
  judged-all all =
      let n = length s.controllers in
      let from = first_state_of s in
      let es = so_far.entries in
      let place : first_illegal n from es ≡ judge.first =
      ap (λ (k : ℕ). first_illegal k from es) (sym so_far.count)
      ∙ sym (judged-first judge.controllers from es judge.first so_far.heard.judges) in
      ap (found_in s) (sym so_far.rest ∙ lines-end es now all)
      ∙ one-finding (length es) judge.heard _ _ (sym so_far.heard.heard) place

-- ---- the scenario and the history of an input

pub scenario-read : (s : Scenario) (read : Result (List Entry) ℕ)
    → finding_of (both_read wrong.History (Ok s) read) ≡ refused_as wrong.History (found_in s read)
unfolding finding_of found_in
scenario-read s (Ok history) = refl
scenario-read s (Err line) = refl

same_scenario : (a b : Scenario) → (let r : Result Scenario Wrong = Ok a in r) ≡ Ok b → a ≡ b
same_scenario a b e = cc

same_refusal : (a b : Wrong) → (let r : Result Scenario Wrong = Err a in r) ≡ Err b → a ≡ b
same_refusal a b e = cc

-- the scenario is refused, or memory runs out in it
pub parts-refused : (e : Misread) (upper : Result Scenario ScenFault) (lower : Result (List Entry) ℕ)
    → Fails {Y = Scenario} e (refused_as wrong.Scenario upper)
    → Fails {Y = Finding} e (finding_of (both_read wrong.History upper lower))
unfolding finding_of
parts-refused misread.NoMemory upper lower h = tt
parts-refused (misread.Wrong w) (Ok s) lower h = cc
parts-refused (misread.Wrong w) (Err fault) lower h =
    ap (λ (x : Wrong). let r : Result Finding Wrong = Err x in r) (same_refusal (wrong.Scenario fault) w h)

-- the scenario is read, and the history with it
pub parts-read : (r : Result Finding Misread) (s : Scenario) (upper : Result Scenario ScenFault)
    (lower : Result (List Entry) ℕ) → refused_as wrong.Scenario upper ≡ Ok s
    → Gives (λ f. f) r (refused_as wrong.History (found_in s lower))
    → Gives (λ f. f) r (finding_of (both_read wrong.History upper lower))
parts-read r s (Ok scenario) lower read gives =
    subst (λ (x : Scenario). Gives (λ f. f) r (finding_of (both_read wrong.History (Ok x) lower)))
    (sym (same_scenario scenario s read))
    (subst (λ (x : Result Finding Wrong). Gives (λ f. f) r x) (sym (scenario-read s lower)) gives)
parts-read r s (Err fault) lower read gives = cc

-- ---- what is found is answered

same_finding : (a b : Finding) → (let r : Result Finding Wrong = Ok a in r) ≡ Ok b → a ≡ b
same_finding a b e = cc

same_wrong : (a b : Wrong) → (let r : Result Finding Wrong = Err a in r) ≡ Err b → a ≡ b
same_wrong a b e = cc

pub found-answered : (read : Result (Scenario × List Entry) Wrong) (f : Finding) → finding_of read ≡ Ok f
    → judged f.entries f.first ≡ judgement_of read
unfolding finding_of found judgement_of
found-answered (Ok read) f is = ap (λ (x : Finding). judged x.entries x.first) (sym (same_finding _ f is))
found-answered (Err w) f is = cc

pub wrong-answered : (read : Result (Scenario × List Entry) Wrong) (w : Wrong) → finding_of read ≡ Err w
    → refused_for w ≡ judgement_of read
unfolding finding_of judgement_of
wrong-answered (Ok read) w is = cc
wrong-answered (Err e) w is = ap refused_for (sym (same_wrong e w is))

pub ruleset parts_found = (parts-read)
