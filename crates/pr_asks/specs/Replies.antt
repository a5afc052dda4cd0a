use Rattle.std.specs.Prelude.{◌++◌, ℕ, List, codes, decimal}
use Rattle.pr_model.specs.declared.calls.Reply.{Reply}
use Rattle.pr_plain.specs.HistoryText.{reply_words}
use Rattle.pr_text.specs.SpacedWords.{joined}

-- What is written as an answer.

-- the line of a reply: what stands behind the arrow in the line of an entry
unfoldable pub reply_line : Reply → List ℕ
reply_line r = joined (reply_words r) ++ codes "\n"

-- how many entries there are
unfoldable pub count_line : ℕ → List ℕ
count_line entries = codes "at " ++ (decimal entries ++ codes "\n")
