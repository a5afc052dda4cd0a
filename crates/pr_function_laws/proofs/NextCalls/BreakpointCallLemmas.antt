use Rattle.std.proofs.Common.{◌≡◌, ℕ, Some, [], refl, ap, ◌∙◌}
use Rattle.std.specs.List.{slice_get}
use Rattle.pr_line.specs.declared.functions.Function.{Function}
use Rattle.pr_line.specs.declared.options.Options.{Options}
use Rattle.pr_model.specs.declared.calls.Call.TheVariants as call
use Rattle.pr_num.specs.Limits.{instruction_size}
use Rattle.pr_num.specs.Messages.{spelling}
use Rattle.pr_num.specs.declared.messages.Message.TheVariants as message
use Rattle.pr_truss.specs.Marks.{address_in, address_of, breakpoint, code_in, code_of}
use Rattle.pr_function_laws.specs.BreakpointCalls.{AreBreakpointCalls}

-- The messages about a function, from its place among those of the options.

module _ (o : Options) (control function : ℕ) (f : Function) (named : slice_get o.functions function ≡ Some f) where
  at-address : address_of o function ≡ f.at
  unfolding address_of
  at-address = ap address_in named

  its-code : code_of o function ≡ f.code
  unfolding code_of
  its-code = ap code_in named

  pub breakpoint-calls : AreBreakpointCalls o control function f
  breakpoint-calls = record {
    reads = ap (λ at. call.Ctl control (spelling (message.Read at instruction_size) [])) at-address;
    plants = ap (λ at. call.Ctl control (spelling (message.Write at instruction_size) breakpoint)) at-address;
    lifts = ap (λ at. call.Ctl control (spelling (message.Write at instruction_size) (code_of o function))) at-address
        ∙ ap (λ code. call.Ctl control (spelling (message.Write f.at instruction_size) code)) its-code;
    waits = λ until m. refl;
  }
