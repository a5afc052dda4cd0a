use Rattle.pr_function_laws.proofs.NextCalls.TracedWords.{traces-its-words}
use Rattle.pr_function_laws.proofs.messages.the_calls_that_truss_traces_are_words_of_its_options.Goals as goal

pub returns : goal.returns
returns c = traces-its-words
