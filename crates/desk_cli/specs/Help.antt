-- What the program says of itself: for `help` and `version`, and for words that form no command.
use Rattle.std.specs.Prelude.{ℕ, List, [], codes, Option, None, Some}
use Rattle.desk_cli.specs.declared.help.TheConstants.{HELP}
use Rattle.desk_words.specs.Forms.{CommandForm, form_of}
use Rattle.nearest_lines.specs.Nearest.{nearest}
use Rattle.desk_texts.specs.Texts.{line}

abbrev pub version_text : List ℕ
version_text = line (codes "desk 0.13.1")

-- the commands, a line for each, which stand in the code alone
abbrev pub help_text : List ℕ
help_text = HELP.now

-- beside the refusal of words that form no command the nearest lines of `help` are shown
abbrev pub hint_for : List (List ℕ) → Option CommandForm → List ℕ
hint_for words None = nearest help_text words
hint_for words (Some form) = []

abbrev pub hint_of : List (List ℕ) → List ℕ
hint_of words = hint_for words (form_of words)
