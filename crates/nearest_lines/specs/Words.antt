-- Words of a text as code cuts them: for `forms.rt`. `Desk` does not cite it.
use Rattle.std.specs.Prelude.{ℕ, Option, Some, None, List, []}
use Rattle.std.specs.List.{slice_split}
use Rattle.nearest_lines.specs.Nearest.{is_blank}
use denote.Ref.{Bor}

-- the words of what is left, if anything is
abbrev pub words_after : Option (Bor (List ℕ)) → List (List ℕ)
words_after None = []
words_after (Some rest) = slice_split is_blank rest.now
