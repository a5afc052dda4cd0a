use Rattle.std.proofs.Common.{◌≡◌, ◌⊎◌, ◌<◌, ◌++◌, ◌^◌, ℕ, true, false, IfOk, Option, Some, None, Result, Ok, Err, List, ◌∷◌, All, length, refl, sym, subst, ap, ◌∙◌, inl, inr, arith}
use Rattle.std.proofs.lemmas.Bool.{false≢true}
use Rattle.std.proofs.lemmas.Option.{none-some}
use Rattle.std.specs.List.{slice_get}
use Rattle.pr_api.specs.Entries.{call_entry}
use Rattle.pr_hidden.specs.Covers.{Covers, Patch}
use Rattle.pr_hidden.specs.Hiders.{Hiders, covers_at, hides, patch_at}
use Rattle.pr_hidden.specs.Tidiness.{IsFunctionWriteIn, IsPlantable, IsTidyCall, IsTidyControl, IsTidySent, IsTidyTargeted, IsTidyWrite}
use Rattle.pr_line.specs.declared.functions.Function.{Function}
use Rattle.pr_keeps.proofs.LoanLemmas.{own-space}
use Rattle.pr_model.specs.Calls.{Answer, answer_to}
use Rattle.pr_model.specs.ControlMessages.{target_of}
use Rattle.pr_model.specs.Handles.{handle_of}
use Rattle.pr_model.specs.Legal.{state_after}
use Rattle.pr_model.specs.State.{TracedProcess, TracedState, live_process}
use Rattle.pr_model.specs.declared.calls.Call.{Call}
use Rattle.pr_model.specs.declared.calls.Call.TheVariants as call
use Rattle.pr_model.specs.declared.calls.File.TheVariants as file
use Rattle.pr_model.specs.declared.calls.Mode.TheVariants.{WriteExcl}
use Rattle.pr_model.specs.declared.calls.Reply.{Reply}
use Rattle.pr_model.specs.declared.calls.Reply.TheVariants as reply
use Rattle.pr_model.specs.declared.events.Entry.{Entry}
use Rattle.pr_model.specs.declared.handles.Held.{Held}
use Rattle.pr_num.proofs.SearchLemmas.{All-at}
use Rattle.pr_num.specs.Messages.{first_message, spelling}
use Rattle.pr_num.specs.Words.{IsByte}
use Rattle.pr_num.specs.declared.messages.Message.{Message}
use Rattle.pr_num.specs.declared.messages.Message.TheVariants as message
use Rattle.pr_num.specs.declared.messages.MsgFault.{MsgFault}
use Rattle.pr_truss.specs.Asides.{marks_at}
use Rattle.pr_num.specs.Spaces.{Space}
use Rattle.pr_truss.specs.Trusses.{TrussState, traced_at}
use Rattle.pr_truss.specs.declared.asides.Aside.{Aside}
use Rattle.pr_truss.specs.declared.asides.Aside.TheVariants.{Patching, Planting}
use Rattle.pr_truss_laws.proofs.Machine.TakenLemmas.{target-live}
use Rattle.pr_world.specs.ControllerStates.{ControllerState}
use Rattle.pr_function_laws.specs.Stretches.{BeginWithWrite, is_write}
use Rattle.pr_function_hides.proofs.Replies.LeavingStages.{IsLeft}
use Rattle.pr_function_hides.proofs.Tidy.CopyFree.{calm-on, opens-out, reached-run, run-options}
use Rattle.pr_function_hides.proofs.Memory.MarkedPatches.{found-is, function-patch, none-at, same-patch}
use Rattle.pr_function_hides.proofs.Tidy.OwnTidy.{Kind, other, sends, writes}
use Rattle.pr_function_hides.proofs.Tidy.OwnWrites.{write-read, write-tail}
use Rattle.pr_function_hides.proofs.Replacing.ReplacedWalk.{writes-none-so}
use Rattle.pr_function_hides.proofs.Tidy.StillMessages.{BeginStill, is_still}
use Rattle.pr_function_hides.specs.FunctionHiders.{ArePatchable, IsPatchable, StandAsMarked, patch_of}
use Rattle.pr_function_hides.specs.RunsOfTrusses.{IsRunOfTrusses}
use Rattle.pr_function_hides.proofs.Replies.OwnFiles.{GoesOn, HasItsFiles}
use Rattle.pr_function_hides.proofs.Tidy.TidyKept.{Course, Kept, Truss, goes_on, leaves_them}
use Rattle.pr_function_hides.proofs.CodeThere.CodeWalk.{CodeAt, Counted, Known, Replaced, Shown, ShownAt}
use Rattle.pr_function_hides.proofs.Replies.CountedWalk.{AsideIn, AsideSo}
use Rattle.pr_function_hides.proofs.Tidy.TidyCalls as Calls
use Rattle.pr_function_hides.proofs.Tidy.TidyCalls.{truss-now, has, files-now, fits, next, these, below, its-kind}
use Rattle.pr_function_hides.proofs.CodeThere.WrittenCode as Written
use Rattle.pr_function_hides.proofs.CodeThere.WrittenCode.{Writes, refuses, stores}
use Rattle.pr_function_hides.proofs.Tidy.WrittenFunctions.{IsSoAt, written-known, written-marked}
use Rattle.pr_parts.specs.AddressSpaces.{with_bytes}

-- What truss writes is tidy: code of a function where none stands, or the breakpoint of one that it has marked.

module _ {n : ℕ} {who : Hiders} {controllers : List ControllerState} {first : TracedState}
    {h : List Entry} (run : IsRunOfTrusses n who controllers first h) where
  none : (k : ℕ) → who.probes k ≡ false
  none = run.are.no_probes

  abbrev at : List Entry → Covers
  at front = covers_at who first front

  abbrev now : List Entry → TracedState
  now front = state_after first front

  module _ (front back : List Entry) (j number : ℕ) (sent : List ℕ) (r : Reply)
      (place : h ≡ front ++ call_entry j (call.Ctl number sent) r ∷ back) (kept : Kept who controllers first h front)
      (hider : hides who j ≡ true) (counted : Counted run front) where
    abbrev tc : Call
    tc = call.Ctl number sent

    abbrev u : TracedState
    u = now front

    abbrev truss_here : Truss who controllers first h front j
    truss_here = truss-now run front back j tc r place kept hider

    abbrev tw : TrussState
    tw = let w = truss_here in w.t

    abbrev files : HasItsFiles j tw u
    files = files-now run front back j tc r place kept hider

    abbrev patchable : ArePatchable tw.options
    patchable = fits run front back j tc r place kept hider

    tidy-error : (o : Option Held) (fault : MsgFault) → first_message sent ≡ Err fault
        → IsTidyControl who j (at front) u.system o sent
    tidy-error None fault read = tt
    tidy-error (Some x) fault read = by (target_of u.system x)
      where
        by : (o : Option TracedProcess) → IsTidyTargeted who j (at front) u.system x o sent
        by None = tt
        by (Some p) =
            subst (λ (y : Result (Message × ℕ) MsgFault). IsTidySent who j (at front) u.system x p sent y) (sym read) tt

    still-tidy : BeginStill sent → BeginWithWrite sent → (o : Option Held)
        → IsTidyControl who j (at front) u.system o sent
    still-tidy still begins o = by (first_message sent) refl still begins
      where
        never : (m : Message) → is_still m ≡ true → is_write m ≡ true → ⊥
        never (message.Write address size) no_write writes_it = false≢true no_write
        never _ no_write writes_it = false≢true writes_it

        by : (x : Result (Message × ℕ) MsgFault) → first_message sent ≡ x
            → IfOk x (λ f. is_still f.0 ≡ true) → IfOk x (λ f. is_write f.0 ≡ true)
            → IsTidyControl who j (at front) u.system o sent
        by (Err fault) read one two = tidy-error o fault read
        by (Ok f) read one two = absurd (never f.0 one two)

    module _ (m : ℕ) (inside : m < length tw.traced) (i : ℕ) (f : Function)
        (named : slice_get tw.options.functions i ≡ Some f) (code : List ℕ) (size : length code ≡ 16)
        (are_bytes : All IsByte code)
        (is : tc ≡ call.Ctl (traced_at tw m).control (spelling (message.Write f.at 16) code))
        (granted : (used : ℕ) × (r ≡ reply.Used used)) where
      abbrev tpid : ℕ
      tpid = (traced_at tw m).pid

      abbrev theld : Held
      theld = record { controller = j; pid = tpid; lwp = 0; file = file.Ctl; mode = WriteExcl }

      abbrev ps : List Patch
      ps = (at front tpid).patches

      -- the breakpoint of a function stands in a process, if that lives
      abbrev Marked : ℕ → ℕ → Type 0
      Marked pid function =
          (q : TracedProcess) → live_process u.system pid ≡ Some q → (g : Function)
          → slice_get tw.options.functions function ≡ Some g
          → patch_at g.at (at front pid).patches ≡ Some (patch_of g)

      function-of : IsPatchable f
      function-of = All-at IsPatchable tw.options.functions i f named (let p = patchable in p.each)

      low : f.at < 2 ^ 64
      low = let p = function-of in let w = p.within in omega (arith, w)

      read : first_message (spelling (message.Write f.at 16) code)
          ≡ Ok (message.Write f.at 16, length (spelling (message.Write f.at 16) code))
      read = write-read f.at code low size are_bytes

      module _ (p : TracedProcess) (live : live_process u.system tpid ≡ Some p) where
        stands : StandAsMarked tw.options (marks_at tw m).planted ps
        stands = let w = truss_here in w.stand m inside (p, live)

        address-is : patch_at f.at (who.functions j) ≡ Some (patch_of f)
        address-is =
            ap (patch_at f.at) (these run front back j tc r place kept hider)
            ∙ function-patch tw.options patchable i f named

        -- Where no breakpoint stands, the code does: truss has read it, or lifted the breakpoint. Where the memory was
        -- replaced truss writes nothing.
        code-stands : patch_at f.at ps ≡ None → with_bytes f.at f.code p.space ≡ p.space
        code-stands found = let w = truss_here in course w.course
          where
            -- the code stands, or is shown, or the memory was replaced
            Sure : ℕ → ℕ → Type 0
            Sure pid function =
                (g : Function) → slice_get tw.options.functions function ≡ Some g
                → (CodeAt run front pid (patch_of g) ⊎ Replaced run front j pid) ⊎ ShownAt run front pid (patch_of g)

            sure-beside : (aside : Aside)
                → AsideSo (Known run front j tw.options) (Shown run front tw.options) tw.traced aside
                → AsideIn Sure tw.traced aside
            sure-beside (Planting q function) it = λ g named_g. inr (it g named_g)
            sure-beside (Patching q plants lifts clear) it = (
              (λ function marked g named_g. inl (it.0 function marked g named_g)),
              (λ function marked g named_g. inl (it.1 function marked g named_g)),
            )
            sure-beside _ it = tt

            function-known : GoesOn tw → IsSoAt tw.options Sure tpid f.at
            function-known goes =
                let w = truss_here in
                let all = counted.each j hider w.t w.is goes.off in
                written-known j u tc tw patchable files (below run front back j tc r place kept hider)
                (next run front back j tc r place kept hider) (has run front back j tc r place kept hider)
                Sure m inside i f named code size are_bytes is goes (sure-beside tw.aside all.aside)

            -- what is written was granted, so the process had its memory to itself
            own-memory : p.borrower ≡ None
            own-memory =
                let own = Calls.own run front back j tc r place kept hider in
                of own.answer (Calls.given run front back j tc r place kept hider _ is)
                (own.replied ∙ granted.1)
              where
                of : (a : Answer)
                    → answer_to u j (call.Ctl (traced_at tw m).control (spelling (message.Write f.at 16) code)) ≡ Some a
                    → a.reply ≡ reply.Used granted.0 → p.borrower ≡ None
                of a given used =
                    by (Written.writes u j (traced_at tw m).control theld (let o = files in o.control m inside) refl
                    (spelling (message.Write f.at 16) code) f.at 16 (length (spelling
                    (message.Write f.at 16) code)) read
                    a given p live)
                  where
                    by : Writes u j (traced_at tw m).control theld (let o = files in o.control m inside) refl
                        (spelling (message.Write f.at 16) code) f.at 16
                        (length (spelling (message.Write f.at 16) code)) read a given p live → p.borrower ≡ None
                    by (refuses never stays) = absurd (never granted.0 used)
                    by (stores some got lent there) = lent

            -- a function at that address has the patch of this one
            patch-same : {P : ℕ → ℕ → Type 0} (it : IsSoAt tw.options P tpid f.at) → patch_of it.g ≡ patch_of f
            patch-same it = same-patch tw.options patchable it.function i it.g f it.its named it.same

            -- a truss that leaves its processes writes only where a breakpoint stands
            stands-marked : IsLeft tw → patch_at f.at ps ≡ Some (patch_of f)
            stands-marked there =
                let it =
                written-marked j u tc tw patchable files (below run front back j tc r place kept hider)
                (next run front back j tc r place kept hider) (has run front back j tc r place kept hider) Marked m
                inside i f named code size are_bytes is
                (λ within function marked q lives g its.
                let w = truss_here in let d = w.stand 0 within (q, lives) in d.each function g its marked) there in
                ap (λ a. patch_at a ps) (sym it.same) ∙ it.known p live it.g it.its
                ∙ ap (λ (x : Patch). Some x) (patch-same it)

            by : GoesOn tw → (g : Function) → patch_of g ≡ patch_of f
                → (CodeAt run front tpid (patch_of g) ⊎ Replaced run front j tpid)
                ⊎ ShownAt run front tpid (patch_of g)
                → with_bytes f.at f.code p.space ≡ p.space
            by goes g same (inr shown_at) =
                let there = subst (ShownAt run front tpid) same shown_at in
                subst (λ (sp : Space). with_bytes f.at f.code sp ≡ sp) (own-space u.system p own-memory)
                (there.shown p live)
            by goes g same (inl (inl code_at)) =
                let there = subst (CodeAt run front tpid) same code_at in
                let it = there.holds p live found in it.stands
            by goes g same (inl (inr replaced)) =
                let w = truss_here in
                let law =
                writes-none-so n j (run-options run j hider) first h (reached-run run j hider)
                (opens-out run j hider) in
                absurd
                (law.none front back (traced_at tw m).control (spelling (message.Write f.at 16) code) r theld p f.at 16
                (length (spelling (message.Write f.at 16) code))
                (place ∙ ap (λ (d : Call). front ++ call_entry j d r ∷ back) is)
                (calm-on run j hider front (call_entry j tc r ∷ back) place w.t w.is goes.off)
                (let o = files in o.control m inside) live (replaced hider) read)

            course : Course tw → with_bytes f.at f.code p.space ≡ p.space
            course (goes_on goes flags) =
                let it = function-known goes in by goes it.g (patch-same it) (it.known it.g it.its)
            course (leaves_them on there) = absurd (none-some (patch_of f) (sym found ∙ stands-marked there))

        written-place : (o : Option Patch) → patch_at f.at ps ≡ o
            → (patch_at f.at ps ≡ Some (patch_of f)) ⊎ IsPlantable (patch_of f) ps p.space
        written-place (Some g) found =
            let w = stands in
            inl (found ∙ ap (λ (x : Patch). Some x)
            (found-is tw.options patchable (marks_at tw m).planted ps i f g named w.all found))
        written-place None found =
            let w = stands in
            let q = function-of in
            let long = q.size in
            let most = q.within in
            inr (record {
              none = found;
              apart = none-at tw.options patchable (marks_at tw m).planted ps i f named w.all found;
              within = omega (arith, long, most);
              code = code-stands found;
            })

        written-tidy : IsTidyWrite who j ps p.space f.at code
        written-tidy = record {
          probe = λ hiding. absurd (false≢true (sym (none j) ∙ hiding));
          function = λ hiding.
              let q = function-of in
              subst (λ (x : Option Patch). IsFunctionWriteIn x ps p.space code) (sym address-is)
              (record { size = size ∙ sym q.size; place = written-place (patch_at f.at ps) refl });
        }

      control-tidy : IsTidyControl who j (at front) u.system (handle_of u.opens j (traced_at tw m).control)
          (spelling (message.Write f.at 16) code)
      control-tidy =
          let w = files in
          subst (λ (o : Option Held). IsTidyControl who j (at front) u.system o (spelling (message.Write f.at 16) code))
          (sym (w.control m inside))
          (subst (λ (o : Option TracedProcess). IsTidyTargeted who j (at front) u.system theld o
          (spelling (message.Write f.at 16) code))
          (sym (target-live u j (traced_at tw m).control theld (w.control m inside) refl))
          (by (live_process u.system tpid) refl))
        where
          by : (o : Option TracedProcess) → live_process u.system tpid ≡ o
              → IsTidyTargeted who j (at front) u.system theld o (spelling (message.Write f.at 16) code)
          by None live = tt
          by (Some p) live =
              subst (λ (y : Result (Message × ℕ) MsgFault). IsTidySent who j (at front) u.system theld p
              (spelling (message.Write f.at 16) code) y) (sym read)
              (subst (IsTidyWrite who j ps p.space f.at) (sym (write-tail f.at code low size are_bytes))
              (written-tidy p live))

    pub sent-tidy : BeginWithWrite sent → IsTidyCall who (at front) u j (call.Ctl number sent) r
    sent-tidy begins = by r refl
      where
        same-call : {a b : ℕ} {xs ys : List ℕ} → call.Ctl a xs ≡ call.Ctl b ys → (a ≡ b) × (xs ≡ ys)
        same-call e = (cc, cc)

        of : (used : ℕ) × (r ≡ reply.Used used) → Kind tc tw
            → IsTidyControl who j (at front) u.system (handle_of u.opens j number) sent
        of granted (writes m inside i f named code size are_bytes is) =
            let both = same-call is in
            subst (λ (xs : List ℕ). IsTidyControl who j (at front) u.system (handle_of u.opens j number) xs)
            (sym both.1)
            (subst (λ a. IsTidyControl who j (at front) u.system (handle_of u.opens j a)
            (spelling (message.Write f.at 16) code)) (sym both.0)
            (control-tidy m inside i f named code size are_bytes is granted))
        of granted (sends m inside bytes is still) =
            let both = same-call is in
            still-tidy (subst BeginStill (sym both.1) still) begins (handle_of u.opens j number)
        of granted (other never) = absurd (never number sent refl)

        by : (x : Reply) → r ≡ x → IsTidyCall who (at front) u j (call.Ctl number sent) x
        by (reply.Used used) same = of (used, same) (its-kind run front back j tc r place kept hider)
        by _ same = tt
