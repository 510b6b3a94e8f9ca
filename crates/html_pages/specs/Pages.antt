-- A page of HTML that is whole by itself, and its pieces: for `desk_reports`.
use Rattle.std.specs.Prelude.{ℕ, List, ◌++◌, codes}
use Rattle.html_pages.specs.Escapes.{html_text}
use Rattle.html_pages.specs.Style.{style_text}

-- ---- pieces
-- a text as it was printed
unfoldable pub printed_text : List ℕ → List ℕ
printed_text text = codes "<pre>" ++ html_text text ++ codes "</pre>\n"

-- a title beside the words by which a user has the same
unfoldable pub title_with_words : List ℕ → List ℕ → List ℕ
title_with_words title words = title ++ codes " <code>desk " ++ html_text words ++ codes "</code>"

-- a text below a title
unfoldable pub open_text : List ℕ → List ℕ → List ℕ
open_text title text = codes "<h3>" ++ title ++ codes "</h3>\n" ++ printed_text text

-- a text below a title, folded until one opens it
unfoldable pub folded_text : List ℕ → List ℕ → List ℕ
folded_text title text =
    codes "<details><summary>" ++ title ++ codes "</summary>\n" ++ printed_text text ++ codes "</details>\n"

-- ---- the whole
-- the heading of a section
unfoldable pub heading_text : List ℕ → List ℕ
heading_text heading = codes "<h2>" ++ heading ++ codes "</h2>\n"

-- a section: its heading, and its pieces
abbrev pub section_text : List ℕ → List ℕ → List ℕ
section_text heading pieces = heading_text heading ++ pieces

-- what stands before the sections: the page has the name of a file
unfoldable pub front_text : List ℕ → List ℕ
front_text file =
    codes "<!DOCTYPE html>\n<html lang=\"en\"><head><meta charset=\"utf-8\">"
    ++ codes "<meta name=\"viewport\" content=\"width=device-width, initial-scale=1\"><title>"
    ++ html_text file ++ codes "</title><style>" ++ style_text ++ codes "</style></head><body>\n<h1>"
    ++ html_text file ++ codes "</h1>\n"

-- a page
abbrev pub page_text : List ℕ → List ℕ → List ℕ
page_text file sections = front_text file ++ sections ++ codes "</body></html>\n"
