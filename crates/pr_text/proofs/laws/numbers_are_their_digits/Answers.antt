use Rattle.pr_text.proofs.TextLemmas.{hex_text-value, hex8_text-value, length-decimal, length-hex_text, length-hex8_text}
use Rattle.pr_text.proofs.laws.numbers_are_their_digits.Goals as goal

pub returns-clause-hex : goal.returns-clause-hex
returns-clause-hex c = hex_text-value

pub returns-clause-hex8 : goal.returns-clause-hex8
returns-clause-hex8 c = hex8_text-value

pub returns-clause-short_dec : goal.returns-clause-short_dec
returns-clause-short_dec c = length-decimal

pub returns-clause-short_hex : goal.returns-clause-short_hex
returns-clause-short_hex c = length-hex_text

pub returns-clause-short_hex8 : goal.returns-clause-short_hex8
returns-clause-short_hex8 c = length-hex8_text
