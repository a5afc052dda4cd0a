use Rattle.std.proofs.Common.{◌≡◌, ◌≢◌, ◌⊎◌, ◌<◌, ◌≤◌, ◌+◌, ◌-◌, ◌∷◌, ℕ, zero, suc, Bool, true, false, cond, List, [], Option, Some, None, is_none, length, nat_lt, get_or, option_map, refl, sym, subst, ap, ◌∙◌, arith, inl, inr}
use Rattle.std.proofs.lemmas.Bool.{cases_eq, false≢true, lt-ltb, ltb-true}
use Rattle.std.proofs.lemmas.List.{get_or-set_other, get_or-set_same, length-set}
use Rattle.std.proofs.lemmas.Option.{none-some, same_Some}
use Rattle.pr_model.specs.Calls.{Answer, answer_to}
use Rattle.pr_model.specs.Handles.{handle_of as handle_in}
use Rattle.pr_model.specs.Legal.{IsLegalEntry, after}
use Rattle.pr_model.specs.Replies.{opened_in}
use Rattle.pr_model.specs.State.{Places, TracedState}
use Rattle.pr_model.specs.declared.calls.Call.{Call}
use Rattle.pr_model.specs.declared.calls.Call.TheVariants as call
use Rattle.pr_model.specs.declared.calls.File.{File}
use Rattle.pr_model.specs.declared.calls.File.TheVariants as file
use Rattle.pr_model.specs.declared.calls.Reply.{Reply}
use Rattle.pr_model.specs.declared.calls.Reply.TheVariants as reply
use Rattle.pr_model.specs.declared.events.Act.{Act}
use Rattle.pr_model.specs.declared.events.Actor.{Actor}
use Rattle.pr_model.specs.declared.handles.Held.{Held}
use Rattle.pr_num.specs.Limits.{descriptor_limit}
use Rattle.pr_num.specs.declared.errnos.Errno.{Errno}
use Rattle.pr_probe.proofs.CloseLemmas.{IsPlaced, all-places, close-is, close-passes, close-shuts, fed-holds, is_close, not-close, place_at}
use Rattle.pr_probe.proofs.FedLemmas.{advanced-kept, answer-by, ended-closes, fed-by, kind-kept, map-by, next-kept, poll-by, refusal-counts, run-next-by}
use Rattle.pr_probe.proofs.PlaceLemmas.{first-none}
use Rattle.pr_probe.specs.DescriptorLines.{kind_in}
use Rattle.pr_probe.specs.ProbeStages.{asking_after, file_of, is_passed_over, lwp_of, mode_of, place_of, stage_after, stage_asked, stage_opened, way_out, way_out_of_trace}
use Rattle.pr_probe.specs.Probes.{ProbeState, accepted, advanced, answered, asking_accepted, asking_call, at_stage, call_of, fed, first_probe, has_ended, next_call_of, refusal_in, refused, with_next, with_opened, with_run_next, with_status}
use Rattle.pr_probe.specs.TracedSets.{kind_after}
use Rattle.pr_probe.specs.declared.probe_stages.AskingStep.TheVariants.{SetRegisters, Run as RunAgent, Await, ReadAgent, ReadKind}
use Rattle.pr_probe.specs.declared.probe_stages.ProbeFile.{ProbeFile}
use Rattle.pr_probe.specs.declared.probe_stages.ProbeFile.TheVariants.{Control, Status, Lstatus, Map, AgentControl, AgentStatus}
use Rattle.pr_probe.specs.declared.probe_stages.ProbeStage.{ProbeStage}
use Rattle.pr_probe.specs.declared.probe_stages.ProbeStage.TheVariants as stage
use Rattle.pr_probe.specs.declared.traced_sets.SetKind.TheVariants.{Signals, Faults, Entries, Exits}
use Rattle.pr_tool_laws.proofs.OwnFiles.NotedFiles.{Knows, closed-known, no-handle, opened-known}
use Rattle.pr_tool_laws.proofs.OwnFiles.StandingLemmas.{IsOther, others-handles}
use Rattle.pr_tool_laws.specs.ToolHandles.{HoldsOnly}
use Rattle.pr_tools.specs.Handles.{handle_at, last_open, last_place, nothing_open, places_to_last, with_handle, without_last}
use Rattle.pr_tools.specs.Replies.{bytes_read}
use Rattle.pr_tools.specs.declared.handles.Opened.{Opened}
use Rattle.pr_truss_laws.proofs.Files.OpensLemmas.{ClosesOne, NotOpen, Opens, Refuses, close-closes, keeps_handles, open-opens, own-other, plain-leaves}
use Rattle.pr_truss_laws.specs.Handles.{HasNothingOpen}
use Rattle.pr_probe_laws.proofs.Files.FilePlaces.{AreStanding, HasFirst, at-file, few-places, file_at, held_of, none-first, one-more, stands-more}
use Rattle.pr_probe_laws.proofs.Ending.ReasonStages.{fed-pid}

-- The files that apfiles has open, refused or not: those that it has noted are its handles.

-- how many of its files are open at a stage, in the order in which they are opened
unfoldable pub needs : ProbeStage → ℕ
needs (stage.Open f) = place_of f
needs stage.ReadFirst = 4
needs stage.Stop = 4
needs stage.AwaitStop = 4
needs stage.ReadStatus = 4
needs stage.ReadMap = 4
needs stage.SaveCode = 4
needs stage.SaveStack = 4
needs (stage.Trace kind) = 4
needs stage.MakeAgent = 4
needs (stage.Restore kind) = 4
needs stage.Release = 4
needs stage.Close = 0
needs _ = 6

-- a descriptor that is asked for
unfoldable pub IsSmall : ProbeStage → Type 0
IsSmall (stage.Asking d step) = d < descriptor_limit
IsSmall _ = Unit {0}

-- whether a stage opens or closes
abbrev pub moves_files : ProbeStage → Bool
moves_files (stage.Open f) = true
moves_files stage.Close = true
moves_files _ = false

-- ---- the stage after another

-- a stage after another needs no more files
record Fits (g h : ProbeStage) : Type 0 where
  fewer : needs h ≤ needs g
  small : IsSmall h

close-fits : (g : ProbeStage) → Fits g stage.Close
unfolding needs IsSmall
close-fits g = record { fewer = omega arith; small = tt }

run-fits : (s : ProbeState) (g run : ProbeStage) → Fits g run → Fits g (with_run_next s run).stage
run-fits s g run fits =
    run-next-by (λ u. Fits g u.stage) s run (λ stood. close-fits g) (λ going. fits)

out-fits : (p : ProbeState) (g : ProbeStage) → Fits g (with_next p (way_out g)).stage
unfolding way_out way_out_of_trace with_next needs IsSmall
out-fits p stage.AwaitStop =
    run-fits p stage.AwaitStop stage.Release (record { fewer = omega arith; small = tt })
out-fits p stage.ReadStatus =
    run-fits p stage.ReadStatus stage.Release (record { fewer = omega arith; small = tt })
out-fits p stage.ReadMap = run-fits p stage.ReadMap stage.Release (record { fewer = omega arith; small = tt })
out-fits p stage.SaveCode = run-fits p stage.SaveCode stage.Release (record { fewer = omega arith; small = tt })
out-fits p stage.SaveStack = run-fits p stage.SaveStack stage.Release (record { fewer = omega arith; small = tt })
out-fits p (stage.Trace Signals) =
    run-fits p (stage.Trace Signals) stage.Release (record { fewer = omega arith; small = tt })
out-fits p (stage.Trace Faults) = record { fewer = omega arith; small = tt }
out-fits p (stage.Trace Entries) = record { fewer = omega arith; small = tt }
out-fits p (stage.Trace Exits) = record { fewer = omega arith; small = tt }
out-fits p stage.MakeAgent = record { fewer = omega arith; small = tt }
out-fits p _ = close-fits _

asked-fits : (d : ℕ) → d < descriptor_limit → (g : ProbeStage) → needs g ≡ 6 → Fits g (stage_asked d)
unfolding stage_asked needs IsSmall
asked-fits d small g six = by (nat_lt d (descriptor_limit - 1)) refl
  where
    by : (b : Bool) → nat_lt d (descriptor_limit - 1) ≡ b
        → Fits g (cond b (stage.Asking (d + 1) SetRegisters) stage.UntraceExits)
    by true more =
        let less : d < descriptor_limit - 1 = ltb-true _ _ more in
        record { fewer = omega (arith, six); small = omega (arith, less) }
    by false none = record { fewer = omega (arith, six); small = tt }

next-fits : (p : ProbeState) (g : ProbeStage) (r : Reply) → moves_files g ≡ false → IsSmall g
    → Fits g (accepted (at_stage p g) r g).stage
unfolding needs IsSmall refused accepted asking_accepted advanced with_next with_status stage_after asking_after
    kind_after place_of
next-fits p (stage.Open f) r still small = absurd (false≢true (sym still))
next-fits p stage.ReadMap r still small =
    map-by (λ u. Fits stage.ReadMap u.stage) (at_stage p stage.ReadMap) (bytes_read r)
    (λ e. out-fits (record (at_stage p stage.ReadMap) { refusal = Some e }) stage.ReadMap)
    (record { fewer = omega arith; small = tt })
next-fits p (stage.Trace Signals) r still small = record { fewer = omega arith; small = tt }
next-fits p (stage.Trace Faults) r still small = record { fewer = omega arith; small = tt }
next-fits p (stage.Trace Entries) r still small = record { fewer = omega arith; small = tt }
next-fits p (stage.Trace Exits) r still small = record { fewer = omega arith; small = tt }
next-fits p stage.MakeAgent r still small = record { fewer = omega arith; small = tt }
next-fits p stage.PlantCode r still small = record { fewer = omega arith; small = omega arith }
next-fits p (stage.Asking d SetRegisters) r still small = record { fewer = omega arith; small = small }
next-fits p (stage.Asking d RunAgent) r still small = record { fewer = omega arith; small = small }
next-fits p (stage.Asking d Await) r still small =
    poll-by (λ u. Fits (stage.Asking d Await) u.stage) (at_stage p (stage.Asking d Await)) r
    (record { fewer = omega arith; small = small }) (record { fewer = omega arith; small = small })
next-fits p (stage.Asking d ReadAgent) r still small =
    answer-by (λ u. Fits (stage.Asking d ReadAgent) u.stage) (at_stage p (stage.Asking d ReadAgent)) d (bytes_read r)
    (record { fewer = omega arith; small = small }) (asked-fits d small (stage.Asking d ReadAgent) refl)
next-fits p (stage.Asking d ReadKind) r still small = asked-fits d small (stage.Asking d ReadKind) refl
next-fits p stage.AwaitExit r still small =
    poll-by (λ u. Fits stage.AwaitExit u.stage) (at_stage p stage.AwaitExit) r
    (record { fewer = omega arith; small = tt }) (record { fewer = omega arith; small = tt })
next-fits p (stage.Retrace Signals) r still small = record { fewer = omega arith; small = tt }
next-fits p (stage.Retrace Faults) r still small = record { fewer = omega arith; small = tt }
next-fits p (stage.Retrace Entries) r still small = record { fewer = omega arith; small = tt }
next-fits p (stage.Retrace Exits) r still small =
    run-fits (at_stage p (stage.Retrace Exits)) (stage.Retrace Exits) stage.Run
    (record { fewer = omega arith; small = tt })
next-fits p (stage.Restore Signals) r still small = record { fewer = omega arith; small = tt }
next-fits p (stage.Restore Faults) r still small = record { fewer = omega arith; small = tt }
next-fits p (stage.Restore Entries) r still small = record { fewer = omega arith; small = tt }
next-fits p (stage.Restore Exits) r still small =
    run-fits (at_stage p (stage.Restore Exits)) (stage.Restore Exits) stage.Release
    (record { fewer = omega arith; small = tt })
next-fits p stage.Close r still small = absurd (false≢true (sym still))
next-fits p _ r still small = record { fewer = omega arith; small = tt }

fed-fits : (p : ProbeState) (r : Reply) → moves_files p.stage ≡ false → IsSmall p.stage
    → Fits p.stage (fed p r).stage
unfolding refused
fed-fits p r still small =
    fed-by (λ u. Fits p.stage u.stage) p r (λ e is. out-fits (record p { refusal = Some e }) p.stage)
    (λ right. next-fits p p.stage r still small)

-- a file that is opened is one more
record FitsOpened (f : ProbeFile) (h : ProbeStage) : Type 0 where
  one_more : needs h ≤ place_of f + 1
  small : IsSmall h

opened-fits : (p : ProbeState) (f : ProbeFile) → FitsOpened f (advanced (at_stage p (stage.Open f))).stage
unfolding needs IsSmall advanced with_next stage_after stage_opened place_of
opened-fits p Control = record { one_more = omega arith; small = tt }
opened-fits p Status = record { one_more = omega arith; small = tt }
opened-fits p Lstatus = record { one_more = omega arith; small = tt }
opened-fits p Map = record { one_more = omega arith; small = tt }
opened-fits p AgentControl = record { one_more = omega arith; small = tt }
opened-fits p AgentStatus = record { one_more = omega arith; small = tt }

-- ---- what it has noted

refused-opened : (p : ProbeState) (e : Errno) → (refused p e).opened ≡ p.opened
unfolding refused
refused-opened p e = next-kept (λ t. t.opened) (λ t g. refl) (record p { refusal = Some e }) (way_out p.stage)

still-accepted : (p : ProbeState) (g : ProbeStage) (r : Reply) → moves_files g ≡ false
    → (accepted p r g).opened ≡ p.opened
unfolding accepted asking_accepted with_status
still-accepted p (stage.Open f) r still = absurd (false≢true (sym still))
still-accepted p stage.ReadMap r still =
    map-by (λ u. u.opened ≡ p.opened) p (bytes_read r) (refused-opened p)
    (advanced-kept (λ t. t.opened) (λ t g. refl) p)
still-accepted p (stage.Asking d Await) r still =
    poll-by (λ u. u.opened ≡ p.opened) p r refl (advanced-kept (λ t. t.opened) (λ t g. refl) p)
still-accepted p (stage.Asking d ReadAgent) r still =
    answer-by (λ u. u.opened ≡ p.opened) p d (bytes_read r) refl refl
still-accepted p (stage.Asking d ReadKind) r still =
    kind-kept (λ t. t.opened) (λ t lines. refl) p d (kind_in (bytes_read r))
still-accepted p (stage.Asking d SetRegisters) r still = advanced-kept (λ t. t.opened) (λ t g. refl) _
still-accepted p (stage.Asking d RunAgent) r still = advanced-kept (λ t. t.opened) (λ t g. refl) _
still-accepted p stage.AwaitExit r still =
    poll-by (λ u. u.opened ≡ p.opened) p r refl (advanced-kept (λ t. t.opened) (λ t g. refl) p)
still-accepted p stage.Close r still = absurd (false≢true (sym still))
still-accepted p _ r still = advanced-kept (λ t. t.opened) (λ t g. refl) _

fed-opened : (p : ProbeState) (r : Reply) → moves_files p.stage ≡ false → (fed p r).opened ≡ p.opened
fed-opened p r still =
    fed-by (λ u. u.opened ≡ p.opened) p r (λ e is. refused-opened p e) (λ right. still-accepted p p.stage r still)

keeps-call : (p : ProbeState) (g : ProbeStage) (c : Call) → moves_files g ≡ false → call_of p g ≡ Some c
    → keeps_handles c ≡ true
unfolding call_of asking_call
keeps-call p (stage.Open f) c still same = absurd (false≢true (sym still))
keeps-call p (stage.Asking d SetRegisters) c still same = sym (ap keeps_handles (same_Some _ c same))
keeps-call p (stage.Asking d RunAgent) c still same = sym (ap keeps_handles (same_Some _ c same))
keeps-call p (stage.Asking d Await) c still same = sym (ap keeps_handles (same_Some _ c same))
keeps-call p (stage.Asking d ReadAgent) c still same = sym (ap keeps_handles (same_Some _ c same))
keeps-call p (stage.Asking d ReadKind) c still same = sym (ap keeps_handles (same_Some _ c same))
keeps-call p stage.Close c still same = absurd (false≢true (sym still))
keeps-call p _ c still same = sym (ap keeps_handles (same_Some _ c same))

-- the files that are open stand at their places
pub fed-placed : (p : ProbeState) (r : Reply) → IsPlaced p.opened p.stage → IsPlaced (fed p r).opened (fed p r).stage
fed-placed p r placed = by (is_close p.stage) refl
  where
    by : (b : Bool) → is_close p.stage ≡ b → IsPlaced (fed p r).opened (fed p r).stage
    by false going = (fed-holds p r (not-close p.stage going) placed).placed
    by true closes =
        let at = close-is p.stage closes in
        let is : at_stage p stage.Close ≡ p = ap (λ (g : ProbeStage). at_stage p g) (sym at) in
        let shuts = close-shuts p r (subst (IsPlaced p.opened) at placed) in
        subst (λ (v : ProbeState). IsPlaced (fed v r).opened (fed v r).stage) is
        (subst (IsPlaced (fed (at_stage p stage.Close) r).opened) (sym shuts.stage) shuts.placed)

-- ---- places

-- a handle that is noted stands before the last place
pub within-places : (hs : List (Option ℕ)) (place number : ℕ) → get_or hs place None ≡ Some number
    → place < places_to_last hs
unfolding places_to_last
within-places [] place number at = absurd (none-some number at)
within-places (h ∷ hs) zero number at = by (places_to_last (h ∷ hs)) refl
  where
    by : (n : ℕ) → places_to_last (h ∷ hs) ≡ n → 0 < n
    by zero none = absurd (none-some number (sym (first-none (h ∷ hs) none) ∙ at))
    by (suc n) is = omega arith
within-places (h ∷ hs) (suc place) number at =
    let before = within-places hs place number at in
    let more : 0 < places_to_last hs = omega (arith, before) in
    rw (lt-ltb 0 (places_to_last hs) more) (omega (arith, before))

none-past : (o : Opened) (place : ℕ) → places_to_last o.handles ≤ place → handle_at o place ≡ None
unfolding handle_at
none-past o place past = by (get_or o.handles place None) refl
  where
    by : (h : Option ℕ) → get_or o.handles place None ≡ h → h ≡ None
    by None is = refl
    by (Some number) is = absurd (omega (arith, within-places o.handles place number is, past))

open-place : (f : ProbeFile) → place_at (stage.Open f) ≡ place_of f
unfolding place_at place_of
open-place Control = refl
open-place Status = refl
open-place Lstatus = refl
open-place Map = refl
open-place AgentControl = refl
open-place AgentStatus = refl

-- the file that was opened last
pub last-file : (o : Opened) (g : ProbeStage) (number : ℕ) → IsPlaced o g → last_open o ≡ Some number
    → last_place o < 6
unfolding last_open handle_at
last-file o g number placed last =
    omega (arith, within-places o.handles (last_place o) number last, placed.few, all-places g)

-- the place of a file by its name
abbrev place_in : File → ℕ
place_in file.Ctl = 0
place_in file.Status = 1
place_in file.Lstatus = 2
place_in file.Map = 3
place_in file.Lwpctl = 4
place_in _ = 5

file-place : (f : ProbeFile) → place_in (file_of f) ≡ place_of f
unfolding file_of place_of
file-place Control = refl
file-place Status = refl
file-place Lstatus = refl
file-place Map = refl
file-place AgentControl = refl
file-place AgentStatus = refl

module _ (k pid : ℕ) where
  -- two files with one handle have one place
  same-place : (f g : ProbeFile) → held_of k pid f ≡ held_of k pid g → place_of f ≡ place_of g
  same-place f g same = sym (file-place f) ∙ ap (λ (h : Held). place_in h.file) same ∙ file-place g

  fewer-first : (many fewer : ℕ) (opens : Places) (o : Opened) → fewer ≤ many → HasFirst k pid many opens o
      → HasFirst k pid fewer opens o
  fewer-first many fewer opens o less has = record {
    each = λ f below. has.each f (omega (arith, below, less));
    places = has.places;
  }

module _ (k pid : ℕ) (first : TracedState) where
  -- What apfiles has noted are handles of its files, and all that are needed are open. Where it had nothing open at
  -- first, these are all its handles.
  pub record OwnsFiles (s : TracedState) (p : ProbeState) : Type 0 where
    pub its : p.pid ≡ pid
    pub stands : AreStanding k pid s.opens p.opened
    pub known : HasNothingOpen k first → Knows k p.opened s
    pub holds : HasFirst k pid (needs p.stage) s.opens p.opened
    pub small : IsSmall p.stage

  -- each of its handles is one of its process
  pub holds-only : (s : TracedState) (p : ProbeState) → HasNothingOpen k first → OwnsFiles s p
      → IsPlaced p.opened p.stage → HoldsOnly k pid s
  unfolding handle_at
  holds-only s p nothing so placed = record {
    each = λ number held there.
        let noted = so.known nothing number held there in
        let few : noted.place < 6 =
        omega (arith, within-places p.opened.handles noted.place number noted.at, placed.few, all-places p.stage) in
        let f : ProbeFile = file_at noted.place in
        let mine = so.stands f number (ap (handle_at p.opened) (at-file noted.place few) ∙ noted.at) in
        sym (ap (λ (h : Held). h.pid) (same_Some (held_of k pid f) held (sym mine ∙ there)));
  }

  -- who has finished has none
  pub nothing-open : (s : TracedState) (p : ProbeState) → HasNothingOpen k first → OwnsFiles s p → has_ended p ≡ true
      → HasNothingOpen k s
  unfolding has_ended next_call_of call_of
  nothing-open s p nothing so ended = record {
    none = λ number.
        no-handle k p.opened s number (handle_in s.opens k number) refl
        (none-last (last_open p.opened)
        (ap (λ (g : ProbeStage). is_none (call_of p g)) (sym (ended-closes p ended)) ∙ ended)) (so.known nothing);
  }
    where
      none-last : (o : Option ℕ) → is_none (option_map call.Close o) ≡ true → o ≡ None
      none-last None is = refl
      none-last (Some number) is = absurd (false≢true is)

  -- where its handles stay, and what it has noted
  owns-as : (s t : TracedState) (p u : ProbeState)
      → ((number : ℕ) → handle_in t.opens k number ≡ handle_in s.opens k number) → u.pid ≡ p.pid
      → u.opened ≡ p.opened → Fits p.stage u.stage → OwnsFiles s p → OwnsFiles t u
  owns-as s t p u same its opened fits so = record {
    its = its ∙ so.its;
    stands = λ f number at.
        same number
        ∙ so.stands f number (ap (λ (o : Opened). handle_at o (place_of f)) (sym opened) ∙ at);
    known = λ nothing number held there.
        subst (λ (o : Opened). Knows k o s) (sym opened) (so.known nothing) number held (sym (same number) ∙ there);
    holds =
        subst (λ (o : Opened). HasFirst k pid (needs u.stage) t.opens o) (sym opened)
        (record {
          each = λ f below.
              let it = so.holds.each f (omega (arith, below, fits.fewer)) in
              record { number = it.number; at = it.at; stands = same it.number ∙ it.stands };
          places = so.holds.places;
        });
    small = fits.small;
  }

  -- what others do
  pub others-own : (n : ℕ) (s : TracedState) (p : ProbeState) (actor : Actor) (it : Act)
      → IsLegalEntry n s (record { actor = actor; act = it }) → IsOther k actor it → OwnsFiles s p
      → OwnsFiles (after s (record { actor = actor; act = it })) p
  others-own n s p actor it legal other so =
      owns-as s (after s (record { actor = actor; act = it })) p p
      (λ number. others-handles n k number s actor it legal other) refl refl
      (record { fewer = omega arith; small = so.small }) so

  module _ (s : TracedState) (c : Call) (a : Answer) (given : answer_to s k c ≡ Some a) where
    -- a call that neither opens nor closes
    quiet-owns : (p : ProbeState) → next_call_of p ≡ Some c → moves_files p.stage ≡ false → OwnsFiles s p
        → OwnsFiles a.state (fed p a.reply)
    unfolding next_call_of
    quiet-owns p next still so =
        owns-as s a.state p (fed p a.reply)
        (λ number.
        ap (λ (x : Places). handle_in x k number)
        (plain-leaves s k c a (keeps-call p p.stage c still next) given))
        (fed-pid p a.reply) (fed-opened p a.reply still) (fed-fits p a.reply still so.small) so

    -- ---- an open

    module _ (p : ProbeState) (f : ProbeFile)
        (same : call_of (at_stage p (stage.Open f)) (stage.Open f) ≡ Some c)
        (so : OwnsFiles s (at_stage p (stage.Open f))) (placed : IsPlaced p.opened (stage.Open f)) where
      abbrev q : ProbeState
      q = at_stage p (stage.Open f)

      answers : answer_to s k (call.Open pid (lwp_of f) (file_of f) (mode_of f)) ≡ Some a
      unfolding call_of
      answers =
          ap (λ (x : ℕ). answer_to s k (call.Open x (lwp_of f) (file_of f) (mode_of f))) (sym so.its)
          ∙ ap (answer_to s k) (same_Some _ c same) ∙ given

      denied-owns : (e : Errno) → a.reply ≡ reply.Fail e → OwnsFiles a.state (refused q e)
      unfolding refused
      denied-owns e failed = of (open-opens s k pid (lwp_of f) (file_of f) (mode_of f) a answers)
        where
          of : Refuses s a.reply a.state.opens ⊎ Opens s k (held_of k pid f) a.reply a.state.opens
              → OwnsFiles a.state (refused q e)
          of (inl denied) =
              owns-as s a.state q (refused q e) (λ number. ap (λ (x : Places). handle_in x k number) denied.is)
              (next-kept (λ t. t.pid) (λ t g. refl) (record q { refusal = Some e }) (way_out q.stage))
              (refused-opened q e) (out-fits (record q { refusal = Some e }) q.stage) so
          of (inr granted) =
              absurd (let both : reply.Handle granted.place ≡ reply.Fail e = sym granted.reply ∙ failed in cc)

      granted-owns : Opens s k (held_of k pid f) a.reply a.state.opens
          → OwnsFiles a.state (advanced (with_opened q f a.reply))
      unfolding needs opened_in
      granted-owns granted =
          let o : Opened = with_handle p.opened (place_of f) (opened_in a.reply) in
          let w : ProbeState = with_opened q f a.reply in
          let is : o ≡ with_handle p.opened (place_of f) (Some granted.place) =
          ap (λ (r : Reply). with_handle p.opened (place_of f) (opened_in r)) granted.reply in
          let opened : (advanced w).opened ≡ o = advanced-kept (λ t. t.opened) (λ t g. refl) w in
          let fits : FitsOpened f (advanced w).stage = opened-fits (record p { opened = o }) f in
          let few : places_to_last p.opened.handles ≤ place_of f = omega (arith, placed.few, open-place f) in
          let room : place_of f < length p.opened.handles = omega (arith, placed.room, few-places f) in
          record {
            its = advanced-kept (λ t. t.pid) (λ t g. refl) w ∙ so.its;
            stands =
                subst (AreStanding k pid a.state.opens) (sym (opened ∙ is))
                (stands-more k pid s f a.reply a.state.opens granted p.opened so.holds.places so.stands);
            known = λ nothing.
                subst (λ (x : Opened). Knows k x a.state) (sym opened)
                (opened-known k s a p.opened (so.known nothing) pid (lwp_of f) (file_of f) (mode_of f) answers
                (place_of f) room (none-past p.opened (place_of f) few)
                (λ e failed.
                absurd (let both : reply.Handle granted.place ≡ reply.Fail e = sym granted.reply ∙ failed in cc)));
            holds =
                subst (HasFirst k pid (needs (advanced w).stage) a.state.opens) (sym (opened ∙ is))
                (fewer-first k pid (place_of f + 1) (needs (advanced w).stage) a.state.opens
                (with_handle p.opened (place_of f) (Some granted.place)) fits.one_more
                (one-more k pid s f a.reply a.state.opens granted p.opened so.holds));
            small = fits.small;
          }

      open-owns : OwnsFiles a.state (fed q a.reply)
      unfolding accepted refusal_in is_passed_over
      open-owns =
          fed-by (OwnsFiles a.state) q a.reply
          (λ e is. denied-owns e (refusal-counts q.stage a.reply e is).reply)
          (λ right. of right (open-opens s k pid (lwp_of f) (file_of f) (mode_of f) a answers))
        where
          of : refusal_in (stage.Open f) a.reply ≡ None
              → Refuses s a.reply a.state.opens ⊎ Opens s k (held_of k pid f) a.reply a.state.opens
              → OwnsFiles a.state (advanced (with_opened q f a.reply))
          of right (inl denied) =
              absurd (none-some denied.errno
              (sym right ∙ ap (refusal_in (stage.Open f)) denied.reply))
          of right (inr granted) = granted-owns granted

    -- ---- a close

    module _ (p : ProbeState) (number : ℕ) (last : last_open p.opened ≡ Some number)
        (answers : answer_to s k (call.Close number) ≡ Some a) (so : OwnsFiles s (at_stage p stage.Close))
        (placed : IsPlaced p.opened stage.Close) where
      abbrev o : Opened
      o = p.opened

      -- the file that is closed
      abbrev shut : ProbeFile
      shut = file_at (last_place o)

      few : last_place o < 6
      few = last-file o stage.Close number placed last

      shut-stands : handle_in s.opens k number ≡ Some (held_of k pid shut)
      unfolding last_open
      shut-stands = so.stands shut number (ap (handle_at o) (at-file (last_place o) few) ∙ last)

      -- another handle is another file's
      others-apart : (g : ProbeFile) (m : ℕ) → place_of g ≢ last_place o
          → handle_in s.opens k m ≡ Some (held_of k pid g) → m ≢ number
      others-apart g m apart there same =
          let both : Some (held_of k pid g) ≡ Some (held_of k pid shut) =
          sym there ∙ ap (handle_in s.opens k) same ∙ shut-stands in
          apart (same-place k pid g shut (same_Some _ _ both) ∙ at-file (last_place o) few)

      others-stand : (m : ℕ) → m ≢ number → handle_in a.state.opens k m ≡ handle_in s.opens k m
      others-stand m apart = of (close-closes s k number a answers)
        where
          of : NotOpen s k number a ⊎ ((held : Held) × ClosesOne s k number held a)
              → handle_in a.state.opens k m ≡ handle_in s.opens k m
          of (inl none) = ap (λ (x : Places). handle_in x k m) none.is
          of (inr closed) =
              ap (λ (x : Places). handle_in x k m) closed.1.is
              ∙ own-other s.opens k number m None (λ same. apart (sym same))

      still-standing : AreStanding k pid a.state.opens (without_last o)
      unfolding without_last with_handle handle_at
      still-standing g m at = by (cases_eq (place_of g) (last_place o))
        where
          by : (place_of g ≡ last_place o) ⊎ (place_of g ≢ last_place o)
              → handle_in a.state.opens k m ≡ Some (held_of k pid g)
          by (inl same) =
              absurd (none-some m
              (sym (get_or-set_same o.handles (last_place o) None None (omega (arith, few, placed.room)))
              ∙ ap (λ (place : ℕ). handle_at (without_last o) place) (sym same) ∙ at))
          by (inr apart) =
              let there =
              so.stands g m (sym (get_or-set_other o.handles (last_place o) (place_of g) None None apart) ∙ at) in
              others-stand m (others-apart g m apart there) ∙ there

      shut-owns : OwnsFiles a.state (record (at_stage p stage.Close) { opened = without_last o })
      unfolding needs IsSmall without_last with_handle
      shut-owns = record {
        its = so.its;
        stands = still-standing;
        known = λ nothing. closed-known k s a o (so.known nothing) number last answers;
        holds = record {
          each = λ f below. absurd (omega (arith, below));
          places = length-set o.handles (last_place o) None ∙ so.holds.places;
        };
        small = tt;
      }

    close-owns : (p : ProbeState) → call_of (at_stage p stage.Close) stage.Close ≡ Some c
        → OwnsFiles s (at_stage p stage.Close) → IsPlaced p.opened stage.Close
        → OwnsFiles a.state (fed (at_stage p stage.Close) a.reply)
    unfolding call_of fed accepted
    close-owns p same so placed =
        let q : ProbeState = at_stage p stage.Close in
        let is : fed q a.reply ≡ record q { opened = without_last p.opened } =
        ap (answered q a.reply) (close-passes a.reply) in
        subst (OwnsFiles a.state) (sym is) (by (last_open p.opened) refl same)
      where
        by : (x : Option ℕ) → last_open p.opened ≡ x → option_map call.Close x ≡ Some c
            → OwnsFiles a.state (record (at_stage p stage.Close) { opened = without_last p.opened })
        by None last made = absurd (none-some c made)
        by (Some number) last made =
            shut-owns p number last (ap (answer_to s k) (same_Some (call.Close number) c made) ∙ given) so placed

    -- ---- any call

    pub called-owns : (p : ProbeState) → next_call_of p ≡ Some c → OwnsFiles s p → IsPlaced p.opened p.stage
        → OwnsFiles a.state (fed p a.reply)
    unfolding next_call_of
    called-owns p next so placed = by p.stage refl
      where
        at_its : (g : ProbeStage) → p.stage ≡ g → at_stage p g ≡ p
        at_its g at = ap (λ (x : ProbeStage). at_stage p x) (sym at)

        by : (g : ProbeStage) → p.stage ≡ g → OwnsFiles a.state (fed p a.reply)
        by (stage.Open f) at =
            let is = at_its (stage.Open f) at in
            subst (λ (v : ProbeState). OwnsFiles a.state (fed v a.reply)) is
            (open-owns p f (ap (λ (v : ProbeState). call_of v v.stage) is ∙ next)
            (subst (OwnsFiles s) (sym is) so) (subst (IsPlaced p.opened) at placed))
        by stage.Close at =
            let is = at_its stage.Close at in
            subst (λ (v : ProbeState). OwnsFiles a.state (fed v a.reply)) is
            (close-owns p (ap (λ (v : ProbeState). call_of v v.stage) is ∙ next)
            (subst (OwnsFiles s) (sym is) so) (subst (IsPlaced p.opened) at placed))
        by g at = quiet-owns p next (ap moves_files at) so

  -- at first it has none
  pub first-owns : OwnsFiles first (first_probe pid)
  unfolding first_probe needs IsSmall place_of nothing_open places_to_last
  first-owns = record {
    its = refl;
    stands = λ f number at. absurd (none-some number (sym (none-past nothing_open (place_of f) (omega arith)) ∙ at));
    known = λ nothing number held there. absurd (none-some held (sym (nothing.none number) ∙ there));
    holds = none-first k pid first.opens;
    small = tt;
  }
