use Rattle.std.proofs.Common.{rules, ◌≡◌, ◌+◌, ◌-◌, ◌++◌, drop, length, map, refl, ap, ◌∙◌, arith, length-append}
use Rattle.std.proofs.lemmas.Option.{slice_get_read}
use Rattle.std.proofs.lemmas.Result.{err_from_is_err_and}
use Rattle.pr_core_text.proofs.TextLemmas.{bytes_of, damaged, no_line, past_lines, told, whole_told}
use Rattle.pr_core_text.specs.CoreTexts.{bytes_after}
use Rattle.pr_core_text.proofs.hex_lines.read_bytes.Goals as goal

pub returns-in_default-clause-read : goal.returns-in_default-clause-read
returns-in_default-clause-read c =
    let past = past_lines c.args.lines.now c.loop-left.place c.in_default.ensures.lookup.0 in
    no_line c.loop-left.bytes.items
    (c.args.first + c.loop-left.place) c.loop-left.left c.loop-left.place c.args.lines.now _ c.loop-left-test.true
    c.loop-left.invariant.0 past

pub returns-in_err-more-clause-read : goal.returns-in_err-more-clause-read
returns-in_err-more-clause-read c =
    let p = err_from_is_err_and c.from_residual.result c.from_residual.ensures.1 in
    let read = c.in-Some.ensures.lookup in
    let here = slice_get_read c.args.lines.now _ c.loop-left.place _ refl read.3.0 read.1 in
    rw (p.1, p.2)
    (damaged c.loop-left.bytes.items
    (c.args.first + c.loop-left.place) c.loop-left.left c.loop-left.place c.args.lines.now _ c.loop-left-test.true
    c.loop-left.invariant.0 _ here _ c.min-many.result c.min-many.ensures c.in_err-more.ensures.read)

pub loop-left-preserved : goal.loop-left-preserved
loop-left-preserved c =
    let read = c.in-Some.ensures.lookup in
    let here = slice_get_read c.args.lines.now _ c.loop-left.place _ refl read.3.0 read.1 in
    let more =
    told c.loop-left.bytes.items
    (c.args.first + c.loop-left.place) c.loop-left.left c.loop-left.place c.args.lines.now _ c.loop-left-test.true
    c.loop-left.invariant.0 _ here _ c.min-many.result c.min-many.ensures c.in_ok-more.ensures.read in
    let same : c.as_slice.result.now ≡ c.in_ok-more.more = search rules in
    let added = c.in_ok-add.ensures ∙ ap (λ xs. c.loop-left.bytes.items ++ xs) same in (
      ap (λ xs.
          bytes_after xs (c.args.first + (c.loop-left.place + 1)) (c.loop-left.left - c.min-many.result)
          (map bytes_of (drop (c.loop-left.place + 1) c.args.lines.now))) added
          ∙ ap (λ n.
          bytes_after (c.loop-left.bytes.items ++ c.in_ok-more.more) n (c.loop-left.left - c.min-many.result)
          (map bytes_of (drop (c.loop-left.place + 1) c.args.lines.now))) (omega arith)
          ∙ more,
      omega (arith, read.3.0),
      omega (
        arith,
        ap length added,
        length-append c.loop-left.bytes.items c.in_ok-more.more,
        c.in_ok-more.ensures.many,
        c.min-many.ensures,
        c.loop-left.invariant.2,
      ),
    )

pub returns-clause-read : goal.returns-clause-read
returns-clause-read c =
    whole_told c.loop-left.bytes.items (c.args.first + c.loop-left.place) c.loop-left.left
    (map bytes_of (drop c.loop-left.place c.args.lines.now)) _
    (omega (arith, c.loop-left-test.false)) c.loop-left.invariant.0
