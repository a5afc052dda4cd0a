use Rattle.std.proofs.Common.{◌≡◌, ◌≤◌, ◌+◌, ◌^◌, ◌&&◌, ◌++◌, ℕ, Bool, true, false, eqb, not, is_some, Option, Some, None, Result, Ok, Err, List, [], ◌∷◌, length, cond, refl, sym, subst, ◌∙◌, ap, inl, inr, arith}
use Rattle.std.proofs.lemmas.Bool.{cases_Bool, eqb-true}
use Rattle.std.proofs.lemmas.Option.{same_Some}
use Rattle.std.proofs.lemmas.Slice.Eq.{bytes_eq-Decides}
use Rattle.std.specs.Str.{bytes_eq}
use Rattle.pr_num.specs.Layout.{stack_base, text_base}
use Rattle.pr_num.specs.Spaces.{Space, bytes_for}
use Rattle.pr_num.specs.declared.mappings.BadByte.{BadByte}
use Rattle.pr_num.proofs.BoolLemmas.{and_false}
use Rattle.pr_parts.specs.AddressSpaces.{with_bytes}
use Rattle.pr_hidden.specs.Covers.{Patch, patched}
use Rattle.pr_hidden.specs.Hiders.{Hiders, answer_size, as_patch, begins_at, function_written, instructions_size, patch_at, patches_written, probe_written, saved_in, with_patch, without_patch}
use Rattle.pr_hidden.specs.Hiding.{IsSeenAlike}
use Rattle.pr_hidden.specs.Sparing.{AreWithin, has_byte, is_apart, is_apart_from, is_spared}
use Rattle.pr_hidden.specs.Tidiness.{AreApart, AreSound, IsFirstWrite, IsFunctionWrite, IsFunctionWriteIn, IsPlantable, IsProbeWrite, IsSaved, IsTidyWrite}
use Rattle.pr_hidden.proofs.PatchedSpaces.PatchLemmas.{Covered, apart-spares, hidden-store, patched-store, planted, same-range}

-- What a tidy write leaves: programs have the memory that they had, and the patches are apart.

-- ---- the patch at a place

pub found-at : (at : ℕ) (ps : List Patch) (f : Patch) → patch_at at ps ≡ Some f → f.at ≡ at
found-at at [] f found = absurd (none found)
  where
    none : (let o : Option Patch = None in o) ≡ Some f → ⊥
    none e = cc
found-at at (p ∷ ps) f found =
    elim (cases_Bool (begins_at at p)) [
      | inl here ↦
          let it : p ≡ f = same_Some p f (ap (λ b. cond b (Some p) (patch_at at ps)) (sym here) ∙ found) in
          ap (λ (q : Patch). q.at) (sym it) ∙ eqb-true p.at at here
      | inr other ↦ found-at at ps f (ap (λ b. cond b (Some p) (patch_at at ps)) (sym other) ∙ found)
    ]

-- its bytes are patched
found-covers : (at : ℕ) (ps : List Patch) (f : Patch) → patch_at at ps ≡ Some f → Covered ps f.at (length f.bytes)
found-covers at [] f found = absurd (none found)
  where
    none : (let o : Option Patch = None in o) ≡ Some f → ⊥
    none e = cc
found-covers at (p ∷ ps) f found =
    elim (cases_Bool (begins_at at p)) [
      | inl here ↦
          let it : p ≡ f = same_Some p f (ap (λ b. cond b (Some p) (patch_at at ps)) (sym here) ∙ found) in
          subst (λ (q : Patch). Covered (p ∷ ps) q.at (length q.bytes)) it (same-range p ps)
      | inr other ↦
          let rest = found-covers at ps f (ap (λ b. cond b (Some p) (patch_at at ps)) (sym other) ∙ found) in
          λ a low high. ap (λ b. not (has_byte a p) && b) (rest a low high) ∙ and_false (not (has_byte a p))
    ]

-- a write of as many bytes over it is nothing to programs
over-patch : (at : ℕ) (ps : List Patch) (f : Patch) (bytes : List ℕ) (space : Space) → patch_at at ps ≡ Some f
    → length bytes ≡ length f.bytes → patched ps (with_bytes at bytes space) ≡ patched ps space
over-patch at ps f bytes space found size =
    hidden-store ps at bytes
    (λ a low high. found-covers at ps f found a (omega (arith, found-at at ps f found, low))
    (omega (arith, found-at at ps f found, high, size)))
    space

-- ---- it is lifted

lift-patch : (at : ℕ) (ps : List Patch) (f : Patch) (space : Space) → AreApart ps → patch_at at ps ≡ Some f
    → patched (without_patch at ps) (with_bytes at f.bytes space) ≡ patched ps space
lift-patch at [] f space apart found = absurd (none found)
  where
    none : (let o : Option Patch = None in o) ≡ Some f → ⊥
    none e = cc
lift-patch at (p ∷ ps) f space apart found =
    elim (cases_Bool (begins_at at p)) [
      | inl here ↦
          let it : p ≡ f = same_Some p f (ap (λ b. cond b (Some p) (patch_at at ps)) (sym here) ∙ found) in
          rw here
          (ap (λ (q : Patch). patched ps (with_bytes at q.bytes space)) (sym it)
          ∙ ap (λ n. patched ps (with_bytes n p.bytes space)) (sym (eqb-true p.at at here))
          ∙ patched-store ps p.at p.bytes (apart-spares p ps apart.0) space)
      | inr other ↦
          rw other
          (ap (with_bytes p.at p.bytes)
          (lift-patch at ps f space apart.1 (ap (λ b. cond b (Some p) (patch_at at ps)) (sym other) ∙ found)))
    ]

without-none : (at : ℕ) (ps : List Patch) → patch_at at ps ≡ None → without_patch at ps ≡ ps
without-none at [] none = refl
without-none at (p ∷ ps) none =
    elim (cases_Bool (begins_at at p)) [
      | inl here ↦ absurd (some (ap (λ b. cond b (Some p) (patch_at at ps)) (sym here) ∙ none))
      | inr other ↦
          rw other
          (ap (λ qs. p ∷ qs) (without-none at ps (ap (λ b. cond b (Some p) (patch_at at ps)) (sym other) ∙ none)))
    ]
  where
    some : (let o : Option Patch = Some p in o) ≡ None → ⊥
    some e = cc

-- ---- what stays apart, and within memory

both : (a b : Bool) → (a && b) ≡ true → (a ≡ true) × (b ≡ true)
both true b e = (refl, e)
both false b e = absurd (no e)
  where
    no : false ≡ true → ⊥
    no e = cc

apart-without : (q : Patch) (at : ℕ) (ps : List Patch) → is_apart_from q ps ≡ true
    → is_apart_from q (without_patch at ps) ≡ true
apart-without q at [] apart = refl
apart-without q at (p ∷ ps) apart =
    let parts = both (is_apart q p) (is_apart_from q ps) apart in
    elim (cases_Bool (begins_at at p)) [
      | inl here ↦ rw here parts.1
      | inr other ↦ rw (other, parts.0) (apart-without q at ps parts.1)
    ]

all-apart-without : (at : ℕ) (ps : List Patch) → AreApart ps → AreApart (without_patch at ps)
all-apart-without at [] apart = tt
all-apart-without at (p ∷ ps) apart =
    elim (cases_Bool (begins_at at p)) [
      | inl here ↦ rw here apart.1
      | inr other ↦ rw other (apart-without p at ps apart.0, all-apart-without at ps apart.1)
    ]

within-without : (at : ℕ) (ps : List Patch) → AreWithin ps → AreWithin (without_patch at ps)
within-without at [] within = tt
within-without at (p ∷ ps) within =
    elim (cases_Bool (begins_at at p)) [
      | inl here ↦ rw here within.1
      | inr other ↦ rw other (within.0, within-without at ps within.1)
    ]

-- ---- tidy writes

pub none-sound : AreSound []
none-sound = record { apart = tt; within = tt }

-- what a write leaves
pub record IsWritten (new : List Patch) (space : Space) (ps : List Patch) (old : Space) : Type 0 where
  pub alike : patched new space ≡ patched ps old
  pub sound : AreSound new

module _ (ps : List Patch) (space : Space) (sound : AreSound ps) where
  -- over a patch that stands: it is written back, or it is not
  stands-written : (at : ℕ) (f : Patch) (bytes : List ℕ) → patch_at at ps ≡ Some f → length bytes ≡ length f.bytes
      → IsWritten (cond (bytes_eq bytes f.bytes) (without_patch at ps) ps) (with_bytes at bytes space) ps space
  stands-written at f bytes found size =
      elim (cases_Bool (bytes_eq bytes f.bytes)) [
        | inl same ↦
            let is : bytes ≡ f.bytes = (bytes_eq-Decides bytes f.bytes).0 same in
            rw same (record {
              alike =
                  ap (λ bs. patched (without_patch at ps) (with_bytes at bs space)) is
                  ∙ lift-patch at ps f space sound.apart found;
              sound = record {
                apart = all-apart-without at ps sound.apart;
                within = within-without at ps sound.within;
              };
            })
        | inr other ↦ rw other (record { alike = over-patch at ps f bytes space found size; sound = sound })
      ]

  -- where a function's code stands: it is written again, or a breakpoint is planted
  planted-written : (f : Patch) (bytes : List ℕ) → IsPlantable f ps space → length bytes ≡ length f.bytes
      → IsWritten (cond (bytes_eq bytes f.bytes) (without_patch f.at ps) (with_patch f ps))
      (with_bytes f.at bytes space) ps space
  planted-written f bytes may size =
      elim (cases_Bool (bytes_eq bytes f.bytes)) [
        | inl same ↦
            let is : bytes ≡ f.bytes = (bytes_eq-Decides bytes f.bytes).0 same in
            rw (same, without-none f.at ps may.none) (record {
              alike = ap (patched ps) (ap (λ bs. with_bytes f.at bs space) is ∙ may.code);
              sound = sound;
            })
        | inr other ↦
            rw (other, may.none) (record {
              alike = planted f ps bytes space may.apart size may.code;
              sound = record { apart = (may.apart, sound.apart); within = (may.within, sound.within) };
            })
      ]

  function-written : (f : Patch) (bytes : List ℕ) → IsFunctionWrite f ps space bytes
      → IsWritten (function_written (Some f) bytes ps) (with_bytes f.at bytes space) ps space
  function-written f bytes it =
      elim it.place [
        | inl found ↦
            subst (λ qs. IsWritten (cond (bytes_eq bytes f.bytes) (without_patch f.at ps) qs)
            (with_bytes f.at bytes space) ps space) (sym (stays found)) (stands-written f.at f bytes found it.size)
        | inr may ↦ planted-written f bytes may it.size
      ]
    where
      stays : patch_at f.at ps ≡ Some f → with_patch f ps ≡ ps
      stays found = rw found refl

-- the first write of a probe
as-saved : (at size : ℕ) (space : Space) (it : IsSaved at size space)
    → as_patch at (bytes_for 0 space at size) ≡ record { at = at; bytes = it.bytes } ∷ []
as-saved at size space it = ap (as_patch at) it.read

first-written : (ps : List Patch) (space : Space) (at : ℕ) (bytes : List ℕ) → IsFirstWrite ps space at bytes
    → IsWritten (saved_in space) (with_bytes at bytes space) ps space
first-written ps space at bytes it =
    let text : Patch = record { at = text_base; bytes = it.instructions.bytes } in
    let stack : Patch = record { at = stack_base; bytes = it.answer.bytes } in
    let saved : saved_in space ≡ text ∷ stack ∷ [] =
    ap (λ qs. qs ++ as_patch stack_base (bytes_for 0 space stack_base answer_size))
    (as-saved text_base instructions_size space it.instructions)
    ∙ ap (λ qs. text ∷ qs) (as-saved stack_base answer_size space it.answer) in
    let apart : is_apart_from text (stack ∷ []) ≡ true =
    rw (it.instructions.all) refl in
    rw (saved, it.text, it.none) (record {
      alike =
          planted text (stack ∷ []) bytes space apart (it.size ∙ sym it.instructions.all) it.instructions.stands
          ∙ it.answer.stands;
      sound = record {
        apart = (apart, (refl, tt));
        within = (omega (arith, it.instructions.all), (omega (arith, it.answer.all), tt));
      };
    })

pub write-hidden : (who : Hiders) (k : ℕ) (ps : List Patch) (space : Space) (at : ℕ) (bytes : List ℕ) → AreSound ps
    → IsTidyWrite who k ps space at bytes
    → IsWritten (patches_written who k space at bytes ps) (with_bytes at bytes space) ps space
write-hidden who k ps space at bytes sound tidy =
    elim (cases_Bool (who.probes k)) [
      | inl probe ↦ rw probe (by (patch_at at ps) refl (tidy.probe probe))
      | inr function ↦ rw function (at-function (patch_at at (who.functions k)) refl (tidy.function function))
    ]
  where
    by : (o : Option Patch) → patch_at at ps ≡ o → IsProbeWrite o ps space at bytes
        → IsWritten (probe_written o space at bytes ps) (with_bytes at bytes space) ps space
    by None found it = first-written ps space at bytes it
    by (Some p) found size = stands-written ps space sound at p bytes found size

    at-function : (o : Option Patch) → patch_at at (who.functions k) ≡ o → IsFunctionWriteIn o ps space bytes
        → IsWritten (function_written o bytes ps) (with_bytes at bytes space) ps space
    at-function None found it = absurd it
    at-function (Some f) found it =
        subst (λ n. IsWritten (function_written (Some f) bytes ps) (with_bytes n bytes space) ps space)
        (found-at at (who.functions k) f found) (function-written ps space sound f bytes it)

-- what programs have after a tidy write, and that the patches are still in order
pub write-alike : (who : Hiders) (k : ℕ) (ps : List Patch) (space : Space) (at : ℕ) (bytes : List ℕ) → AreSound ps
    → IsTidyWrite who k ps space at bytes
    → IsSeenAlike (patches_written who k space at bytes ps) (with_bytes at bytes space) ps space
write-alike who k ps space at bytes sound tidy =
    let it = write-hidden who k ps space at bytes sound tidy in
    record { same = it.alike }

pub write-sound : (who : Hiders) (k : ℕ) (ps : List Patch) (space : Space) (at : ℕ) (bytes : List ℕ) → AreSound ps
    → IsTidyWrite who k ps space at bytes → AreSound (patches_written who k space at bytes ps)
write-sound who k ps space at bytes sound tidy =
    let it = write-hidden who k ps space at bytes sound tidy in
    it.sound

pub ruleset writes = (write-alike, write-sound)
