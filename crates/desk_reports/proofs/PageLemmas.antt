-- The text of a page, whose sections were added after its front and before its end.
use Rattle.std.proofs.Common.{◌≡◌, ℕ, List, ◌++◌, codes, ap, ◌∙◌}
use Rattle.html_pages.specs.Pages.{front_text, page_text}
use Rattle.desk_responses.specs.ResponseValues.{ResponseValue, Says, text_only}
use Rattle.desk_responses.specs.declared.status.Status.TheVariants.{Yes}

pub page_says : (file name piece begun filled ended : List ℕ) (response : ResponseValue) → Says Yes ended response
    → ended ≡ filled ++ codes "</body></html>\n" → filled ≡ begun ++ piece → begun ≡ front_text name → name ≡ file
    → Says Yes (page_text file piece) response
page_says file name piece begun filled ended response says ends fills begins is =
    let end = codes "</body></html>\n" in
    says
    ∙ ap (text_only Yes)
    (ends ∙ ap (λ (t : List ℕ). t ++ end) (fills ∙ ap (λ (t : List ℕ). t ++ piece) (begins ∙ ap front_text is)))
