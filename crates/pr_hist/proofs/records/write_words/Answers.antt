use Rattle.std.proofs.Common.{◌≡◌, ℕ, Bool, ◌+◌, Option, List, ◌++◌, add-one, sym, ap, ◌∙◌, append_assoc}
use Rattle.std.proofs.lemmas.List.{append-nil}
use Rattle.std.specs.Option.{option_copied}
use Rattle.pr_hist.specs.Listings.{Listing}
use Rattle.pr_hist.specs.Records.{word_text, words_text}
use Rattle.pr_hist.specs.declared.fields.Layout.{Layout}
use Rattle.pr_hist.proofs.records.write_words.Goals as goal

words_text-none : (full : Bool) (source : Option Listing) (layout : Layout) (from : ℕ) (bytes old : List ℕ)
    → old ≡ old ++ words_text full source layout from bytes 0
unfolding words_text
words_text-none full source layout from bytes old = sym (append-nil old)

words_text-more : (full : Bool) (source : Option Listing) (layout : Layout) (from i : ℕ) (bytes : List ℕ)
    → words_text full source layout from bytes (i + 1)
    ≡ words_text full source layout from bytes i ++ word_text full source layout from bytes i
unfolding words_text
words_text-more full source layout from i bytes = ap (words_text full source layout from bytes) (add-one i)

words_text-next : (full : Bool) (source : Option Listing) (layout : Layout) (from i : ℕ) (bytes old now next : List ℕ)
    → now ≡ old ++ words_text full source layout from bytes i → next ≡ now ++ word_text full source layout from bytes i
    → next ≡ old ++ words_text full source layout from bytes (i + 1)
words_text-next full source layout from i bytes old now next before is =
    is ∙ ap (λ t. t ++ word_text full source layout from bytes i) before
    ∙ append_assoc old (words_text full source layout from bytes i) (word_text full source layout from bytes i)
    ∙ ap (λ t. old ++ t) (sym (words_text-more full source layout from i bytes))

pub loop-i-init : goal.loop-i-init
loop-i-init c =
    words_text-none c.args.full (option_copied c.args.source) c.args.layout c.args.from c.args.bytes.now c.args.text.now

pub loop-i-preserved : goal.loop-i-preserved
loop-i-preserved c =
    words_text-next c.args.full (option_copied c.args.source) c.args.layout c.args.from c.loop-i.i c.args.bytes.now
    c.args.text.now c.loop-i.text _
    c.loop-i.invariant c.in_ok-write_word.ensures
