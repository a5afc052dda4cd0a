use Rattle.std.proofs.Common.{◌≡◌, ◌≤◌, ◌+◌, ◌^◌, ℕ, Bool, true, false, length, List, [], Option, Some, None, Ok, refl, sym, subst, ap, ◌∙◌, arith}
use Rattle.std.proofs.lemmas.Bool.{false≢true}
use Rattle.std.proofs.lemmas.Option.{none-some, same_Some}
use Rattle.pr_hidden.proofs.PatchedSpaces.StandLemmas.{read-stands}
use Rattle.pr_hidden.specs.Covers.{Covers, keeps_lwp}
use Rattle.pr_hidden.specs.Hiders.{Hiders, patch_at}
use Rattle.pr_hidden.specs.Tidiness.{IsProbeWrite, IsSaved, IsTidyMessage}
use Rattle.pr_model.specs.Messages.{Aim, aimed_lwp, at_lwp, found_at}
use Rattle.pr_model.specs.State.{TracedLwp, TracedProcess, TracedSystem, lwp_of as lwp_in}
use Rattle.pr_num.specs.Agents.{agent_id}
use Rattle.pr_num.specs.Layout.{stack_base, text_base}
use Rattle.pr_num.specs.Spaces.{IsSpace, Space, bytes_for}
use Rattle.pr_num.specs.declared.messages.Message.TheVariants as message
use Rattle.pr_parts.proofs.ByteLemmas.{length-bytes_for}
use Rattle.pr_probe.specs.AgentCode.{code_size, stack_size}
use Rattle.pr_probe.specs.Probes.{ProbeState}
use Rattle.pr_probe_laws.proofs.Hiding.HiddenStages.{HidesBoth, HidesStack}
use Rattle.pr_probe_laws.specs.HiddenProbes.{StandsSaved}

-- The messages by which apfiles hides something are tidy.

-- what was saved can be noted
saved-so : (space : Space) (at size : ℕ) (bytes : List ℕ) → IsSpace space → at + size ≤ 2 ^ 64
    → bytes_for 0 space at size ≡ Ok bytes → IsSaved at size space
saved-so space at size bytes kept within read =
    let long = length-bytes_for 0 space at size bytes read in
    record {
      bytes = bytes;
      read = read;
      all = long;
      stands =
          read-stands space at bytes kept (omega (arith, long, within))
          (ap (bytes_for 0 space at) long ∙ read);
    }

module _ (who : Hiders) (k : ℕ) (hider : who.probes k ≡ true) (covers : Covers) (s : TracedSystem) (pid : ℕ)
    (q : TracedProcess) where
  -- the first write
  pub plant-tidy : (p : ProbeState) (aim : Aim) (size : ℕ) (tail : List ℕ) → (covers pid).patches ≡ []
      → StandsSaved p q.space → IsSpace q.space → length tail ≡ code_size
      → IsTidyMessage who k covers s pid q aim (message.Write text_base size) tail
  plant-tidy p aim size tail bare saved kept long = record {
    probe = λ is.
        subst (λ ps. IsProbeWrite (patch_at text_base ps) ps q.space text_base tail) (sym bare)
        (record {
          none = refl;
          text = refl;
          size = long;
          instructions = saved-so q.space text_base code_size p.code kept (omega arith) saved.code;
          answer = saved-so q.space stack_base stack_size p.stack kept (omega arith) saved.stack;
        });
    function = λ is. absurd (false≢true (sym is ∙ hider));
  }

  -- what was saved is written back
  pub code-tidy : (agent : Bool) (p : ProbeState) (aim : Aim) (size : ℕ) → HidesBoth agent (covers pid) p
      → IsTidyMessage who k covers s pid q aim (message.Write text_base size) p.code
  code-tidy agent p aim size it = record {
    probe = λ is.
        subst (λ ps. IsProbeWrite (patch_at text_base ps) ps q.space text_base p.code) (sym it.patches) refl;
    function = λ is. absurd (false≢true (sym is ∙ hider));
  }

  pub stack-tidy : (p : ProbeState) (aim : Aim) (size : ℕ) → HidesStack (covers pid) p
      → IsTidyMessage who k covers s pid q aim (message.Write stack_base size) p.stack
  stack-tidy p aim size it = record {
    probe = λ is.
        subst (λ ps. IsProbeWrite (patch_at stack_base ps) ps q.space stack_base p.stack) (sym it.patches) refl;
    function = λ is. absurd (false≢true (sym is ∙ hider));
  }

  -- the registers are those of the hidden agent
  pub registers-tidy : (regs tail : List ℕ) → (covers pid).agent ≡ true
      → IsTidyMessage who k covers s pid q (at_lwp agent_id) (message.Sreg regs) tail
  unfolding aimed_lwp
  registers-tidy regs tail agent = record { own = λ e aimed. by (lwp_in q agent_id) e aimed }
    where
      hidden : keeps_lwp (covers pid) agent_id ≡ false
      hidden = rw agent refl

      by : (o : Option TracedLwp) (e : ℕ × TracedLwp) → found_at s pid q agent_id o ≡ Some e
          → keeps_lwp (covers pid) e.0 ≡ false
      by None e is = absurd (none-some e is)
      by (Some l) e is =
          ap (λ (f : ℕ × TracedLwp). keeps_lwp (covers pid) f.0) (sym (same_Some (agent_id, l) e is)) ∙ hidden
