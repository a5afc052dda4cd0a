use Rattle.std.proofs.Common.{◌≡◌, ◌*◌, ◌-◌, ◌%◌, ◌^◌, ◌+◌, ◌==◌, ◌&&◌, ◌++◌, ℕ, zero, suc, Bool, true, false, cond, nat_le, nat_lt, not, Option, Some, None, List, [], ◌∷◌, length, slice_index, refl, sym, subst, ap, ◌∙◌, inl, inr}
use Rattle.std.proofs.lemmas.Bool.{and_parts, cases_Bool, false≢true}
use Rattle.std.proofs.lemmas.Option.{none-some, same_Some}
use Rattle.pr_function_hides.proofs.StepsUnderWay.TrapTurns.{turn_entry}
use Rattle.pr_function_hides.specs.CountedFunctions.{LeavesAlone, StoresBeside, WorksBeside}
use Rattle.pr_hidden.proofs.Covers.InstructionCovers.{EffectSpares, instruction-same}
use Rattle.pr_hidden.proofs.Follows.FaultRows.{HowFaulted, bpt-effect, by_instruction, by_return, how-faulted, return-no-breakpoint}
use Rattle.pr_hidden.specs.Covers.{Covers, Patch}
use Rattle.pr_hidden.specs.Following.{SparesPatches}
use Rattle.pr_hidden.specs.Hiders.{Hiders, begins_at, covers_after, covers_at, covers_from, is_own, no_covers, patch_at}
use Rattle.pr_hidden.specs.Sparing.{are_spared, has_byte, is_spared, spares_call, spares_gap}
use Rattle.pr_hidden.specs.Tidiness.{HoldsFrom, IsSparing, IsSparingEntry, IsSparingTurn, is_breakpoint, is_own_breakpoint}
use Rattle.pr_model.specs.FileCallRows.{word_size}
use Rattle.pr_model.specs.InstructionEffects.{InstructionEffect, Store, calls, faults, instruction_effect, runs, runs_into_watch}
use Rattle.pr_model.specs.Legal.{IsLegalEntry, after, state_after}
use Rattle.pr_model.specs.Registers.{arguments}
use Rattle.pr_model.specs.Rows.{Row, row_for}
use Rattle.pr_model.specs.State.{TracedLwp, TracedProcess, TracedState, live_process, lwp_of}
use Rattle.pr_model.specs.declared.events.Did.{Did}
use Rattle.pr_model.specs.declared.events.Did.TheVariants.{Faulted}
use Rattle.pr_model.specs.declared.events.Entry.{Entry}
use Rattle.pr_model.specs.declared.events.Turned.{Turned}
use Rattle.pr_model.specs.declared.lwps.Phase.TheVariants.{Asleep, Entered, User}
use Rattle.pr_num.specs.Agents.{agent_id}
use Rattle.pr_num.specs.Layout.{heap_base}
use Rattle.pr_num.specs.Limits.{path_limit}
use Rattle.pr_num.specs.Programs.{rounded}
use Rattle.pr_num.specs.Spaces.{Space}
use Rattle.pr_num.specs.declared.faults.Flt.TheVariants.{Bpt}
use Rattle.pr_num.specs.declared.syscalls.Sysno.{Sysno}
use Rattle.pr_num.specs.declared.syscalls.Sysno.TheVariants as sys
use Rattle.pr_parts.specs.AddressSpaces.{gap_in}
use Rattle.pr_probe_laws.proofs.Hiding.HiddenFacts.{legal-turn}
use Rattle.pr_probe_laws.proofs.Hiding.HiddenTurns.{did-is}

-- Programs that leave the breakpoints alone that stand, as IsSparing says, leave alone each of these functions.

-- ---- one of the patches

-- what spares them all spares this one, or another one of the same bytes
module _ (g p : Patch) (begins : p.at ≡ g.at) (size : length p.bytes ≡ length g.bytes) where
  byte-spared : (ps : List Patch) → patch_at g.at ps ≡ Some p → (a : ℕ) → is_spared ps a ≡ true
      → is_spared (g ∷ []) a ≡ true
  byte-spared [] is a spared = absurd (none-some p is)
  byte-spared (q ∷ qs) is a spared = by (begins_at g.at q) is (λ found. byte-spared qs found a parts.1)
    where
      parts : (not (has_byte a q) ≡ true) × (is_spared qs a ≡ true)
      parts = and_parts (not (has_byte a q)) (is_spared qs a) spared

      first : q ≡ p → is_spared (g ∷ []) a ≡ true
      first same =
          ap (λ b. not b && true)
          (ap (λ at. nat_le at a && nat_lt a (at + length g.bytes)) (sym begins)
          ∙ ap (λ n. nat_le p.at a && nat_lt a (p.at + n)) (sym size)
          ∙ ap (λ (x : Patch). has_byte a x) (sym same))
          ∙ ap (λ b. b && true) parts.0

      by : (b : Bool) → cond b (Some q) (patch_at g.at qs) ≡ Some p
          → (patch_at g.at qs ≡ Some p → is_spared (g ∷ []) a ≡ true) → is_spared (g ∷ []) a ≡ true
      by true found rest = first (same_Some q p found)
      by false found rest = rest found

  module _ (ps : List Patch) (stands : patch_at g.at ps ≡ Some p) where
    bytes-spared : (a n : ℕ) → are_spared ps a n ≡ true → are_spared (g ∷ []) a n ≡ true
    bytes-spared a zero spared = refl
    bytes-spared a (suc n) spared =
        let parts = and_parts (is_spared ps a) (are_spared ps ((a + 1) % 2 ^ 64) n) spared in
        ap (λ b. b && are_spared (g ∷ []) ((a + 1) % 2 ^ 64) n) (byte-spared ps stands a parts.0)
        ∙ bytes-spared ((a + 1) % 2 ^ 64) n parts.1

    gap-spared : (size : ℕ) (o : Option ℕ) → spares_gap ps size o ≡ true → spares_gap (g ∷ []) size o ≡ true
    gap-spared size None spared = refl
    gap-spared size (Some at) spared = bytes-spared at size spared

    call-spared : (space : Space) (call : Sysno) (args : List ℕ) → spares_call ps space call args ≡ true
        → spares_call (g ∷ []) space call args ≡ true
    unfolding spares_call
    call-spared space sys.Read args spared = bytes-spared (slice_index args 1) (slice_index args 2) spared
    call-spared space sys.Write args spared = bytes-spared (slice_index args 1) (slice_index args 2) spared
    call-spared space sys.Open args spared = bytes-spared (slice_index args 0) path_limit spared
    call-spared space sys.Wait args spared = bytes-spared (slice_index args 0) word_size spared
    call-spared space sys.Exec args spared = bytes-spared (slice_index args 0) path_limit spared
    call-spared space sys.Pipe args spared = bytes-spared (slice_index args 0) (2 * word_size) spared
    call-spared space sys.Fstat args spared = bytes-spared (slice_index args 1) (3 * word_size) spared
    call-spared space sys.Brk args spared =
        bytes-spared heap_base (rounded (slice_index args 0 - heap_base)) spared
    call-spared space sys.Mmap args spared =
        gap-spared (rounded (slice_index args 0)) (gap_in (rounded (slice_index args 0)) space) spared
    call-spared space _ args spared = refl

    store-spared : (store : Option Store) → EffectSpares ps (runs [] store) → StoresBeside g store
    store-spared None spared = tt
    store-spared (Some store) spared = bytes-spared store.at (length store.bytes) spared

    effect-spared : (e : InstructionEffect) → EffectSpares ps e → WorksBeside g e
    effect-spared (runs regs store) spared = store-spared store spared
    effect-spared (calls call regs) spared = tt
    effect-spared (faults f address) spared = tt
    effect-spared (runs_into_watch address regs store) spared = store-spared store spared

    spares-leaves : (q : TracedProcess) (l : TracedLwp) → SparesPatches ps q l → LeavesAlone g q l
    spares-leaves q l w = record {
      instruction = λ does.
          let same = instruction-same ps q.space q.control.areas l.regs (w.instruction does) in
          effect-spared (instruction_effect q.space q.control.areas l.regs) same.spares;
      called = λ call at other. call-spared q.space call (arguments l.regs) (w.called call at);
      asleep = λ call args since at other. call-spared q.space call args (w.asleep call args since at);
    }

-- ---- a history

breakpoint-did : (d : Did) → is_breakpoint d ≡ true → d ≡ Faulted Bpt
breakpoint-did (Faulted Bpt) is = refl
breakpoint-did _ is = absurd (false≢true is)

-- what is so of each entry is so of this one
holds-at : (P : Covers → TracedState → Entry → Type 0) (who : Hiders) (covers : Covers) (s : TracedState)
    (front : List Entry) (e : Entry) (later : List Entry) → HoldsFrom P who covers s (front ++ e ∷ later)
    → P (covers_from who covers s front) (state_after s front) e
holds-at P who covers s [] e later all = all.0
holds-at P who covers s (x ∷ front) e later all =
    holds-at P who (covers_after who covers s x) (after s x) front e later all.1

module _ (n : ℕ) (who : Hiders) (first : TracedState) (h : List Entry) (sparing : IsSparing who first h)
    (front later : List Entry) (pid id : ℕ) (t : Turned) (is : h ≡ front ++ turn_entry pid id t ∷ later)
    (its_legal : IsLegalEntry n (state_after first front) (turn_entry pid id t))
    (no_agent : (covers_at who first front pid).agent ≡ false) (q : TracedProcess) (l : TracedLwp)
    (live : live_process (state_after first front).system pid ≡ Some q) (there : lwp_of q id ≡ Some l)
    (going : l.control.directed ≡ false) where
  abbrev s : TracedState
  s = state_after first front

  abbrev covers : Covers
  covers = covers_at who first front

  turn : IsSparingTurn who covers s pid id t.did
  turn =
      holds-at (IsSparingEntry who) who no_covers first front (turn_entry pid id t) later
      (subst (IsSparing who first) is sparing)

  spares : is_own_breakpoint who covers s pid id t.did ≡ false → SparesPatches (covers pid).patches q l
  spares none =
      let w = turn in w.spares q l live there (ap (λ b. not (b && (id == agent_id))) no_agent) going none

  -- an lwp that runs into a breakpoint stores nothing, and makes no call
  faulted-leaves : (g : Patch) → t.did ≡ Faulted Bpt → LeavesAlone g q l
  faulted-leaves g bpt = by (how-faulted s.system pid q id l Bpt did)
    where
      did : (row_for s.system pid q id l).did ≡ Faulted Bpt
      did =
          let here = legal-turn n s pid id t its_legal in
          sym (did-is s pid id (record { system = here.0; turned = t }) here.1 q l live there) ∙ bpt

      not-entered : (call : Sysno) → User ≡ Entered call → ⊥
      not-entered call same = cc

      not-asleep : (call : Sysno) (args : List ℕ) (since : ℕ) → User ≡ Asleep call args since → ⊥
      not-asleep call args since same = cc

      by : HowFaulted s.system pid q id l → LeavesAlone g q l
      by (by_return call back row) =
          absurd (return-no-breakpoint q l call (ap (λ (r : Row). r.did) (sym row) ∙ did))
      by (by_instruction it row) = record {
        instruction = λ does.
            let at =
            bpt-effect q l (instruction_effect q.space q.control.areas l.regs)
            (ap (λ (r : Row). r.did) (sym row) ∙ did) in
            subst (WorksBeside g) (sym at.1) tt;
        called = λ call at other. absurd (not-entered call (sym it.in_program ∙ at));
        asleep = λ call args since at other. absurd (not-asleep call args since (sym it.in_program ∙ at));
      }

  -- it leaves alone what stands
  pub spared-leaves : (g p : Patch) → p.at ≡ g.at → length p.bytes ≡ length g.bytes
      → patch_at g.at (covers pid).patches ≡ Some p → LeavesAlone g q l
  spared-leaves g p begins size stands =
      elim (cases_Bool (is_own_breakpoint who covers s pid id t.did)) [
        | inl own ↦
            let parts = and_parts (is_breakpoint t.did) (is_own who covers s pid id t.did) own in
            faulted-leaves g (breakpoint-did t.did parts.0)
        | inr none ↦ spares-leaves g p begins size (covers pid).patches stands q l (spares none)
      ]
