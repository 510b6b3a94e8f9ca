-- How a text stands within HTML: for the labels of a drawing, for pages and for their pictures.
use Rattle.std.specs.Prelude.{ℕ, ◌==◌, if◌then◌else◌, List, [], ◌∷◌, codes}
use Rattle.std.specs.List.{flat_map}

-- a byte within HTML: `&`, `<`, `>` and `"` as entities
abbrev pub html_byte : ℕ → List ℕ
html_byte b =
    if b == 38 then codes "&amp;" else if b == 60 then codes "&lt;" else if b == 62 then codes "&gt;"
    else if b == 34 then codes "&quot;" else b ∷ []

-- a text within HTML
unfoldable pub html_text : List ℕ → List ℕ
html_text text = flat_map html_byte text
