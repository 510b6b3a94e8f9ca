-- The law, by the lemmas on what a shell reads.
use Rattle.html_pages.proofs.ShellLemmas.{some_text, word_read}
use Rattle.html_pages.proofs.laws.a_shell_reads_the_word.Goals as goal

pub returns : goal.returns
returns c = record { some = some_text; word = word_read }
