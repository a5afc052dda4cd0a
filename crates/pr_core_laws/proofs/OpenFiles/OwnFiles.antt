use Rattle.std.proofs.Common.{◌≡◌, ◌≢◌, ◌<◌, ◌≤◌, ◌+◌, ℕ, zero, suc, Bool, true, false, cond, List, [], Option, Some, None, IfSome, is_none, get_or, length, option_map, replicate, refl, sym, subst, ap, ◌∙◌, slice_get, arith}
use Rattle.std.proofs.lemmas.Bool.{false≢true}
use Rattle.std.proofs.lemmas.List.{get_or-set_other, length-set}
use Rattle.std.proofs.lemmas.Option.{none-some, same_Some}
use Rattle.pr_core.specs.GcoreStages.{kind_of_part, part_after, place_of_part, stage_after, way_out}
use Rattle.pr_core.specs.Gcores.{GcoreState, accepted, advanced, answered, at_stage, call_of, fed, filled, first_gcore, has_ended, lends, memory_call, next_call_of, passes_over, piece_of, refusal_in, refused, walk_on, with_bytes, with_mapping, with_next, with_noted, with_part, with_piece, with_run_next, with_status, with_walk}
use Rattle.pr_core.specs.declared.gcore_stages.GcorePart.TheVariants as part
use Rattle.pr_core.specs.declared.gcore_stages.GcoreStage.{GcoreStage}
use Rattle.pr_core.specs.declared.gcore_stages.GcoreStage.TheVariants as stage
use Rattle.pr_core.specs.declared.memory_walks.MemoryWalk.{MemoryWalk}
use Rattle.pr_model.proofs.HistoryLemmas.{state_after-push}
use Rattle.pr_model.specs.Calls.{Answer, answer_to}
use Rattle.pr_model.specs.Handles.{handle_of}
use Rattle.pr_model.specs.Legal.{state_after}
use Rattle.pr_model.specs.Replies.{opened_in}
use Rattle.pr_model.specs.State.{TracedState}
use Rattle.pr_model.specs.declared.calls.Call.{Call}
use Rattle.pr_model.specs.declared.calls.Call.TheVariants as call
use Rattle.pr_model.specs.declared.calls.File.{File}
use Rattle.pr_model.specs.declared.calls.Mode.{Mode}
use Rattle.pr_model.specs.declared.calls.Reply.{Reply}
use Rattle.pr_model.specs.declared.calls.Reply.TheVariants as reply
use Rattle.pr_model.specs.declared.events.Entry.{Entry}
use Rattle.pr_num.specs.Records.{status_ranges}
use Rattle.pr_num.specs.declared.errnos.Errno.{Errno}
use Rattle.pr_num.specs.declared.errnos.Errno.TheVariants.{Busy}
use Rattle.pr_rec.specs.Reading.{record_read}
use Rattle.pr_tool_laws.proofs.OwnFiles.HandleLemmas.{IsOf, OpensSo, call-all, none-held, others-all}
use Rattle.pr_tool_laws.proofs.OwnFiles.NotedFiles.{Knows, closed-known, denied-known, no-handle, opened-known, same-known}
use Rattle.pr_tool_laws.proofs.Stages.ProtocolLemmas.{KeptByCalls, KeptByOthers, own-keeps}
use Rattle.pr_tool_laws.proofs.Stages.StageLemmas.{state-called}
use Rattle.pr_tool_laws.proofs.OwnFiles.StandingLemmas.{others-handles}
use Rattle.pr_tool_laws.specs.Runs.{IsRunOf}
use Rattle.pr_tool_laws.specs.ToolHandles.{HoldsOnly}
use Rattle.pr_tools.specs.Handles.{handle_at, last_open, last_place, most_open, nothing_open, with_handle, without_last}
use Rattle.pr_tools.specs.Replies.{bytes_read}
use Rattle.pr_tools.specs.declared.handles.Opened.{Opened}
use Rattle.pr_truss_laws.proofs.Files.OpensLemmas.{keeps_handles, plain-leaves}
use Rattle.pr_truss_laws.specs.Handles.{HasNothingOpen}
use Rattle.pr_world.specs.Controllers.{after_reply, next_call}
use Rattle.pr_world.specs.ControllerStates.{ControllerState, Gcore}
use Rattle.pr_world.specs.Protocol.{controllers_at}
use Rattle.pr_core_laws.proofs.OpenFiles.GcoreHolds.{ended-closes, granted-at, refused-reply}
use Rattle.pr_core_laws.proofs.OpenFiles.KeptParts.{accepted-kept, fed-pid, moves_files}
use Rattle.pr_core_laws.proofs.Refused.RunAgainStages.{keeps-memory}

-- The files that gcore has open, refused or not: those that it has noted are its handles.

-- ---- the places that are to be filled

-- the places from one on are empty
abbrev AreFree : ℕ → Opened → Type 0
AreFree from o = (place : ℕ) → from ≤ place → handle_at o place ≡ None

-- the place that a stage fills is empty, and so are those that are filled later
unfoldable IsFresh : Opened → GcoreStage → Type 0
IsFresh o stage.OpenCtl = AreFree 0 o
IsFresh o stage.OpenStatus = AreFree 1 o
IsFresh o (stage.OpenPart part.Psinfo) = AreFree 2 o
IsFresh o (stage.OpenPart part.Lstatus) = AreFree 3 o
IsFresh o (stage.OpenPart part.Sigact) = AreFree 4 o
IsFresh o (stage.OpenPart part.Map) = AreFree 5 o
IsFresh o (stage.OpenPart part.Fds) = AreFree 6 o
IsFresh o stage.OpenMemory = AreFree 7 o
IsFresh o _ = Unit {0}

free-on : (o : Opened) (place : ℕ) (x : Option ℕ) → AreFree place o → AreFree (place + 1) (with_handle o place x)
unfolding handle_at with_handle
free-on o place x free other beyond =
    get_or-set_other o.handles place other x None (λ same. absurd (omega arith)) ∙ free other (omega arith)

-- ---- the stages that open nothing

abbrev opens_files : GcoreStage → Bool
opens_files stage.OpenCtl = true
opens_files stage.OpenStatus = true
opens_files (stage.OpenPart which) = true
opens_files stage.OpenMemory = true
opens_files _ = false

fresh-of : (o : Opened) (p : GcoreStage) → opens_files p ≡ false → IsFresh o p
unfolding IsFresh
fresh-of o stage.OpenCtl plain = absurd (false≢true (sym plain))
fresh-of o stage.OpenStatus plain = absurd (false≢true (sym plain))
fresh-of o (stage.OpenPart which) plain = absurd (false≢true (sym plain))
fresh-of o stage.OpenMemory plain = absurd (false≢true (sym plain))
fresh-of o _ plain = tt

run_next-plain : (u : GcoreState) → opens_files (with_run_next u).stage ≡ false
unfolding with_run_next
run_next-plain u = by u.stood
  where
    by : (b : Bool) → opens_files (cond b (at_stage u stage.Close) (at_stage u stage.Run)).stage ≡ false
    by true = refl
    by false = refl

mapping-plain : (u : GcoreState) (w : Option MemoryWalk) → opens_files (with_mapping u w).stage ≡ false
unfolding with_mapping
mapping-plain u None = run_next-plain (record u { walk = None })
mapping-plain u (Some w) = refl

piece-plain : (g : GcoreState) (answer : List ℕ) (w : Option MemoryWalk)
    → opens_files (with_piece (at_stage g stage.ReadMemory) answer w).stage ≡ false
unfolding with_piece
piece-plain g answer None = run_next-plain (at_stage g stage.ReadMemory)
piece-plain g answer (Some w) = by (walk_on w)
  where
    u : GcoreState
    u = with_bytes (at_stage g stage.ReadMemory) (filled (piece_of w) answer)

    by : (x : Option MemoryWalk) → opens_files (with_walk u w.at x).stage ≡ false
    by None = mapping-plain u _
    by (Some x) = refl

out-plain : (p : GcoreStage) → opens_files (way_out p) ≡ false
unfolding way_out
out-plain stage.AwaitStop = refl
out-plain stage.ReadStatus = refl
out-plain (stage.ReadPart which) = refl
out-plain stage.ReadMemory = refl
out-plain stage.Run = refl
out-plain stage.OpenCtl = refl
out-plain stage.OpenStatus = refl
out-plain (stage.OpenPart which) = refl
out-plain stage.OpenMemory = refl
out-plain stage.ReadFirst = refl
out-plain stage.Stop = refl
out-plain stage.Release = refl
out-plain stage.Close = refl

status-plain : (g : GcoreState) (bytes : List ℕ)
    → opens_files (with_status (at_stage g stage.ReadStatus) bytes).stage ≡ false
unfolding with_status refused advanced with_next stage_after
status-plain g bytes = by (lends (record_read status_ranges bytes))
  where
    u : GcoreState
    u = at_stage g stage.ReadStatus

    by : (b : Bool) → opens_files (cond b (refused u Busy) (advanced u)).stage ≡ false
    by true = out-plain stage.ReadStatus
    by false = refl

accepted-plain : (g : GcoreState) (r : Reply) (p : GcoreStage) → moves_files p ≡ false
    → opens_files (accepted (at_stage g p) r p).stage ≡ false
unfolding accepted advanced with_next with_part with_noted stage_after part_after
accepted-plain g r stage.ReadFirst plain = refl
accepted-plain g r stage.Stop plain = refl
accepted-plain g r stage.AwaitStop plain = refl
accepted-plain g r stage.ReadStatus plain = status-plain g (bytes_read r)
accepted-plain g r (stage.ReadPart part.Psinfo) plain = refl
accepted-plain g r (stage.ReadPart part.Lstatus) plain = refl
accepted-plain g r (stage.ReadPart part.Sigact) plain = refl
accepted-plain g r (stage.ReadPart part.Map) plain = refl
accepted-plain g r (stage.ReadPart part.Fds) plain = mapping-plain _ _
accepted-plain g r stage.ReadMemory plain = piece-plain g (bytes_read r) g.walk
accepted-plain g r stage.Run plain = refl
accepted-plain g r stage.Release plain = refl
accepted-plain g r _ plain = absurd (false≢true (sym plain))

-- ---- a call

whole-on : (o : Opened) (place : ℕ) (x : Option ℕ) → length o.handles ≡ most_open
    → length (with_handle o place x).handles ≡ most_open
unfolding with_handle
whole-on o place x whole = length-set o.handles place x ∙ whole

module _ (k : ℕ) (s : TracedState) (c : Call) (a : Answer) (given : answer_to s k c ≡ Some a) (g : GcoreState)
    (known : Knows k g.opened s) (whole : length g.opened.handles ≡ most_open) where
  abbrev o : Opened
  o = g.opened

  record Later (u : GcoreState) : Type 0 where
    known_on : Knows k u.opened a.state
    fresh_on : IsFresh u.opened u.stage
    whole_on : length u.opened.handles ≡ most_open

  answers : (d : Call) → Some d ≡ Some c → answer_to s k d ≡ Some a
  answers d same = ap (answer_to s k) (same_Some d c same) ∙ given

  plain-known : (d : Call) → Some d ≡ Some c → keeps_handles d ≡ true → Knows k o a.state
  plain-known d same keeps = same-known k s a o known (plain-leaves s k d a keeps (answers d same))

  -- it opens a file at the next place
  module _ (place pid : ℕ) (name : File) (way : Mode) (same : Some (call.Open pid 0 name way) ≡ Some c)
      (below : place < most_open) (free : AreFree place o) (accepts : (e : Errno) → a.reply ≢ reply.Fail e) where
    abbrev filled_in : Opened
    filled_in = with_handle o place (opened_in a.reply)

    filled-known : Knows k filled_in a.state
    filled-known =
        opened-known k s a o known pid 0 name way (answers _ same) place (omega (arith, below, whole))
        (free place (omega arith)) accepts

    filled-free : AreFree (place + 1) filled_in
    filled-free = free-on o place (opened_in a.reply) free

    filled-whole : length filled_in.handles ≡ most_open
    filled-whole = whole-on o place (opened_in a.reply) whole

  close-known : (x : Option ℕ) → last_open o ≡ x → option_map call.Close x ≡ Some c → Knows k (without_last o) a.state
  close-known None last same = absurd (none-some c same)
  close-known (Some number) last same = closed-known k s a o known number last (answers (call.Close number) same)

  close-whole : length (without_last o).handles ≡ most_open
  unfolding without_last
  close-whole = whole-on o (last_place o) None whole

  -- at a stage that moves no files
  still-later : (p : GcoreStage) → moves_files p ≡ false → Knows k o a.state
      → Later (accepted (at_stage g p) a.reply p)
  still-later p plain knows =
      let u : GcoreState = accepted (at_stage g p) a.reply p in
      let same : u.opened ≡ o = accepted-kept (λ (pid : ℕ) (x : Opened). x) (at_stage g p) a.reply p plain in
      record {
        known_on = subst (λ (x : Opened). Knows k x a.state) (sym same) knows;
        fresh_on = fresh-of u.opened u.stage (accepted-plain g a.reply p plain);
        whole_on = ap (λ (x : Opened). length x.handles) same ∙ whole;
      }

  opened-later : (u : GcoreState) (place pid : ℕ) (name : File) (way : Mode)
      → Some (call.Open pid 0 name way) ≡ Some c → place < most_open → AreFree place o
      → ((e : Errno) → a.reply ≢ reply.Fail e) → u.opened ≡ with_handle o place (opened_in a.reply)
      → (AreFree (place + 1) u.opened → IsFresh u.opened u.stage) → Later u
  opened-later u place pid name way same below free accepts is later =
      let filled : Opened = with_handle o place (opened_in a.reply) in
      record {
        known_on =
            subst (λ (x : Opened). Knows k x a.state) (sym is)
            (filled-known place pid name way same below free accepts);
        fresh_on =
            later (subst (AreFree (place + 1)) (sym is) (filled-free place pid name way same below free accepts));
        whole_on =
            ap (λ (x : Opened). length x.handles) is ∙ filled-whole place pid name way same below free accepts;
      }

  accepted-later : (p : GcoreStage) → IsFresh o p → call_of (at_stage g p) p ≡ Some c → refusal_in p a.reply ≡ None
      → Later (accepted (at_stage g p) a.reply p)
  unfolding IsFresh call_of accepted advanced with_next stage_after part_after place_of_part kind_of_part passes_over
  accepted-later stage.OpenCtl fresh same right =
      opened-later _ 0 _ _ _ same (omega arith) fresh (granted-at stage.OpenCtl a.reply refl right) refl (λ free. free)
  accepted-later stage.OpenStatus fresh same right =
      opened-later _ 1 _ _ _ same (omega arith) fresh (granted-at stage.OpenStatus a.reply refl right) refl
      (λ free. free)
  accepted-later (stage.OpenPart part.Psinfo) fresh same right =
      opened-later _ 2 _ _ _ same (omega arith) fresh (granted-at (stage.OpenPart part.Psinfo) a.reply refl right) refl
      (λ free. free)
  accepted-later (stage.OpenPart part.Lstatus) fresh same right =
      opened-later _ 3 _ _ _ same (omega arith) fresh (granted-at (stage.OpenPart part.Lstatus) a.reply refl right) refl
      (λ free. free)
  accepted-later (stage.OpenPart part.Sigact) fresh same right =
      opened-later _ 4 _ _ _ same (omega arith) fresh (granted-at (stage.OpenPart part.Sigact) a.reply refl right) refl
      (λ free. free)
  accepted-later (stage.OpenPart part.Map) fresh same right =
      opened-later _ 5 _ _ _ same (omega arith) fresh (granted-at (stage.OpenPart part.Map) a.reply refl right) refl
      (λ free. free)
  accepted-later (stage.OpenPart part.Fds) fresh same right =
      opened-later _ 6 _ _ _ same (omega arith) fresh (granted-at (stage.OpenPart part.Fds) a.reply refl right) refl
      (λ free. free)
  accepted-later stage.OpenMemory fresh same right =
      opened-later _ 7 _ _ _ same (omega arith) fresh (granted-at stage.OpenMemory a.reply refl right) refl (λ free. tt)
  accepted-later stage.ReadFirst fresh same right = still-later stage.ReadFirst refl (plain-known _ same refl)
  accepted-later stage.Stop fresh same right = still-later stage.Stop refl (plain-known _ same refl)
  accepted-later stage.AwaitStop fresh same right = still-later stage.AwaitStop refl (plain-known _ same refl)
  accepted-later stage.ReadStatus fresh same right = still-later stage.ReadStatus refl (plain-known _ same refl)
  accepted-later (stage.ReadPart which) fresh same right =
      still-later (stage.ReadPart which) refl (plain-known _ same refl)
  accepted-later stage.ReadMemory fresh same right =
      still-later stage.ReadMemory refl
      (plain-known _ same (keeps-memory (at_stage g stage.ReadMemory) g.walk))
  accepted-later stage.Run fresh same right = still-later stage.Run refl (plain-known _ same refl)
  accepted-later stage.Release fresh same right = still-later stage.Release refl (plain-known _ same refl)
  accepted-later stage.Close fresh same right =
      record { known_on = close-known (last_open o) refl same; fresh_on = tt; whole_on = close-whole }

  refused-known : (p : GcoreStage) → call_of (at_stage g p) p ≡ Some c → (e : Errno) → passes_over p ≡ false
      → a.reply ≡ reply.Fail e → Knows k o a.state
  unfolding call_of passes_over
  refused-known stage.OpenCtl same e counts is = denied-known k s a o known _ 0 _ _ (answers _ same) e is
  refused-known stage.OpenStatus same e counts is = denied-known k s a o known _ 0 _ _ (answers _ same) e is
  refused-known (stage.OpenPart which) same e counts is = denied-known k s a o known _ 0 _ _ (answers _ same) e is
  refused-known stage.OpenMemory same e counts is = denied-known k s a o known _ 0 _ _ (answers _ same) e is
  refused-known stage.ReadMemory same e counts is =
      plain-known _ same (keeps-memory (at_stage g stage.ReadMemory) g.walk)
  refused-known stage.Release same e counts is = absurd (false≢true (sym counts))
  refused-known stage.Close same e counts is = absurd (false≢true (sym counts))
  refused-known _ same e counts is = plain-known _ same refl

  fed-later : next_call_of g ≡ Some c → IsFresh o g.stage → Later (fed g a.reply)
  unfolding fed refused next_call_of
  fed-later next fresh = by (refusal_in g.stage a.reply) refl
    where
      by : (x : Option Errno) → refusal_in g.stage a.reply ≡ x → Later (answered g a.reply x)
      by None is = accepted-later g.stage fresh next is
      by (Some e) is =
          let it = refused-reply g.stage a.reply e is in record {
            known_on = refused-known g.stage next e it.0 it.1;
            fresh_on = fresh-of o (way_out g.stage) (out-plain g.stage);
            whole_on = whole;
          }

-- ---- along a history

-- no place of empty ones is filled
none-among : (n place : ℕ) → (let o : Option ℕ = None in get_or (replicate n o) place o ≡ o)
none-among zero place = refl
none-among (suc n) zero = refl
none-among (suc n) (suc place) = none-among n place

-- it opens files of its process alone
stage-opens : (k : ℕ) (g : GcoreState) (p : GcoreStage) (c : Call) → call_of g p ≡ Some c → OpensSo (IsOf g.pid) k c
unfolding call_of
stage-opens k g p c same = subst (λ (o : Option Call). IfSome o (OpensSo (IsOf g.pid) k)) same (by p)
  where
    memory : (w : Option MemoryWalk) → OpensSo (IsOf g.pid) k (memory_call g w)
    memory None = tt
    memory (Some w) = tt

    close : (o : Option ℕ) → IfSome (option_map call.Close o) (OpensSo (IsOf g.pid) k)
    close None = tt
    close (Some number) = tt

    by : (p : GcoreStage) → IfSome (call_of g p) (OpensSo (IsOf g.pid) k)
    by stage.OpenCtl = refl
    by stage.OpenStatus = refl
    by (stage.OpenPart which) = refl
    by stage.OpenMemory = refl
    by stage.ReadMemory = memory g.walk
    by stage.Close = close (last_open g.opened)
    by _ = tt

module _ (n k pid : ℕ) (first : TracedState) where
  record IsOwning (h : List Entry) (g : GcoreState) : Type 0 where
    its : g.pid ≡ pid
    holds : HoldsOnly k pid (state_after first h)
    known : Knows k g.opened (state_after first h)
    fresh : IsFresh g.opened g.stage
    whole : length g.opened.handles ≡ most_open

  Owns : List Entry → ControllerState → Type 0
  Owns h (Gcore g) = IsOwning h g
  Owns h _ = ⊥

  others-own : KeptByOthers n k first Owns
  unfolding Owns
  others-own h (Gcore g) actor it legal other kept =
      let e : Entry = record { actor = actor; act = it } in
      record {
        its = kept.its;
        holds =
            subst (HoldsOnly k pid) (sym (state_after-push first h e))
            (others-all k (IsOf pid) (state_after first h) kept.holds n actor it legal other);
        known = λ number held there.
            kept.known number held
            (sym (ap (λ (x : TracedState). handle_of x.opens k number) (state_after-push first h e)
            ∙ others-handles n k number (state_after first h) actor it legal other) ∙ there);
        fresh = kept.fresh;
        whole = kept.whole;
      }
  others-own h _ actor it legal other kept = absurd kept

  calls-own : KeptByCalls n k first Owns
  unfolding Owns next_call after_reply next_call_of
  calls-own h (Gcore g) c a next given kept =
      let later = fed-later k (state_after first h) c a given g kept.known kept.whole next kept.fresh in
      let own : OpensSo (IsOf pid) k c =
      subst (λ (x : ℕ). OpensSo (IsOf x) k c) kept.its (stage-opens k g g.stage c next) in
      let same = sym (state-called first h k c a given) in
      record {
        its = fed-pid g a.reply ∙ kept.its;
        holds =
            subst (HoldsOnly k pid) same (call-all k (IsOf pid) (state_after first h) kept.holds a c own given);
        known = subst (Knows k (fed g a.reply).opened) same later.known_on;
        fresh = later.fresh_on;
        whole = later.whole_on;
      }
  calls-own h _ c a next given kept = absurd kept

  begins : HasNothingOpen k first → IsOwning [] (first_gcore pid)
  unfolding first_gcore IsFresh nothing_open handle_at
  begins nothing = record {
    its = refl;
    holds = none-held k (IsOf pid) first nothing;
    known = λ number held there. absurd (none-some held (sym (nothing.none number) ∙ there));
    fresh = λ place beyond. empty place;
    whole = refl;
  }
    where
      empty : (place : ℕ) → handle_at nothing_open place ≡ None
      empty place = none-among most_open place

  owning : (controllers : List ControllerState) (h : List Entry) (g : GcoreState) → HasNothingOpen k first
      → IsRunOf n k (Gcore (first_gcore pid)) controllers first h
      → slice_get (controllers_at controllers h) k ≡ Some (Gcore g) → IsOwning h g
  unfolding Owns
  owning controllers h g nothing run ends =
      own-keeps n k first Owns others-own calls-own controllers h
      (Gcore (first_gcore pid)) (Gcore g) run ends (begins nothing)

-- who has ended has closed all
ended-none : (g : GcoreState) → has_ended g ≡ true → last_open g.opened ≡ None
unfolding has_ended next_call_of call_of
ended-none g ended = by (last_open g.opened) refl
  where
    closing : is_none (call_of g stage.Close) ≡ true
    closing = subst (λ (p : GcoreStage). is_none (call_of g p) ≡ true) (ended-closes g ended) ended

    by : (x : Option ℕ) → last_open g.opened ≡ x → x ≡ None
    by None is = refl
    by (Some number) is =
        absurd (false≢true (sym (ap (λ (x : Option ℕ). is_none (option_map call.Close x)) is) ∙ closing))

pub gcore-holds : (controllers : List ControllerState) (n k pid : ℕ) (s : TracedState) (h : List Entry)
    (g : GcoreState) → HasNothingOpen k s → IsRunOf n k (Gcore (first_gcore pid)) controllers s h
    → slice_get (controllers_at controllers h) k ≡ Some (Gcore g) → HoldsOnly k pid (state_after s h)
gcore-holds controllers n k pid s h g nothing run ends =
    (owning n k pid s controllers h g nothing run ends).holds

pub gcore-closes : (controllers : List ControllerState) (n k pid : ℕ) (s : TracedState) (h : List Entry)
    (g : GcoreState) → HasNothingOpen k s → IsRunOf n k (Gcore (first_gcore pid)) controllers s h
    → slice_get (controllers_at controllers h) k ≡ Some (Gcore g) → has_ended g ≡ true
    → HasNothingOpen k (state_after s h)
gcore-closes controllers n k pid s h g nothing run ends ended =
    let kept = owning n k pid s controllers h g nothing run ends in
    let now : TracedState = state_after s h in
    record {
      none = λ number.
          no-handle k g.opened now number (handle_of now.opens k number) refl (ended-none g ended) kept.known;
    }
