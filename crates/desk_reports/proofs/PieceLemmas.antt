-- What an answer prints, and pieces that are added one after the other.
use Rattle.std.proofs.Common.{◌≡◌, ◌+◌, ℕ, List, [], ◌++◌, Result, Ok, Err, refl, sym, ap, ◌∙◌, add-one, append-nil, append_assoc, codes}
use Rattle.html_pages.specs.Pages.{folded_text, heading_text, open_text}
use Rattle.desk_responses.specs.ResponseValues.{Allowed}
use Rattle.desk_responses.specs.Responses.{RespondsAs, response_value}
use Rattle.desk_responses.specs.declared.response.Response.{Response}
use Rattle.desk_responses.specs.declared.response.EarlyExit.{EarlyExit}
use Rattle.desk_responses.specs.declared.response.EarlyExit.TheVariants.{Answered, OutOfMemory}
use Rattle.desk_reports.specs.Answers.{Adds, FoldsText, IsTextOf, OpensText}
use Rattle.desk_reports.specs.Pieces.{EachBelow, Folds, Just, Opens, OpensExplained, Prints, Section, Shown, Then}

-- ---- texts of answers
-- the text of an answer that is allowed is what the command prints
pub prints : (allowed : Allowed) (answer : Result Response EarlyExit) (text : List ℕ) → RespondsAs allowed answer
    → IsTextOf answer text → Prints allowed text
prints allowed (Ok response) text responds is = (response_value response, responds, is)
prints allowed (Err (Answered response)) text exits is = (response_value response, exits response refl, is)
prints allowed (Err OutOfMemory) text exits is = absurd is

pub opens : (allowed : Allowed) (title said : List ℕ) (answer : Result Response EarlyExit) (text : List ℕ)
    → said ≡ title → RespondsAs allowed answer → OpensText said answer text → Opens title allowed text
opens allowed title said answer text same responds (printed, is, whole) =
    (printed, prints allowed answer printed responds is, whole ∙ ap (λ (t : List ℕ). open_text t printed) same)

pub folds : (allowed : Allowed) (title said : List ℕ) (answer : Result Response EarlyExit) (text : List ℕ)
    → said ≡ title → RespondsAs allowed answer → FoldsText said answer text → Folds title allowed text
folds allowed title said answer text same responds (printed, is, whole) =
    (printed, prints allowed answer printed responds is, whole ∙ ap (λ (t : List ℕ). folded_text t printed) same)

-- ---- pieces that are added
-- what may stand at one place may stand at another
pub adds_weaker : (one other : Shown) (text more : List ℕ) → ((piece : List ℕ) → one piece → other piece) → Adds one text more
    → Adds other text more
adds_weaker one other text more weaker adds = record { piece = adds.piece; is = weaker adds.piece adds.is; added = adds.added }

-- nothing was added
pub adds_nothing : (shown : Shown) (text : List ℕ) → shown [] → Adds shown text text
adds_nothing shown text is = record { piece = []; is = is; added = sym (append-nil text) }

-- one after the other
pub adds_both : (first rest : Shown) (text middle more : List ℕ) → Adds first text middle → Adds rest middle more
    → Adds (Then first rest) text more
adds_both first rest text middle more one other = record {
  piece = one.piece ++ other.piece;
  is = (one.piece, other.piece, one.is, other.is, refl);
  added = other.added ∙ ap (λ (t : List ℕ). t ++ other.piece) one.added ∙ append_assoc text one.piece other.piece;
}

-- pieces below a heading
pub adds_section : (heading said : List ℕ) (shown : Shown) (text middle more : List ℕ) → said ≡ heading
    → middle ≡ text ++ heading_text said → Adds shown middle more → Adds (Section heading shown) text more
adds_section heading said shown text middle more same headed rest = record {
  piece = heading_text heading ++ rest.piece;
  is = (rest.piece, rest.is, refl);
  added = rest.added ∙ ap (λ (t : List ℕ). t ++ rest.piece) (headed ∙ ap (λ (t : List ℕ). text ++ heading_text t) same)
      ∙ append_assoc text (heading_text heading) rest.piece;
}

-- the answer of a command, below a title, and folded
pub adds_opened : (allowed : Allowed) (title said : List ℕ) (answer : Result Response EarlyExit) (text more : List ℕ) → said ≡ title
    → RespondsAs allowed answer → Adds (OpensText said answer) text more → Adds (Opens title allowed) text more
adds_opened allowed title said answer text more same responds adds =
    adds_weaker (OpensText said answer) (Opens title allowed) text more
    (λ piece is. opens allowed title said answer piece same responds is) adds

pub adds_folded : (allowed : Allowed) (title said : List ℕ) (answer : Result Response EarlyExit) (text more : List ℕ) → said ≡ title
    → RespondsAs allowed answer → Adds (FoldsText said answer) text more → Adds (Folds title allowed) text more
adds_folded allowed title said answer text more same responds adds =
    adds_weaker (FoldsText said answer) (Folds title allowed) text more
    (λ piece is. folds allowed title said answer piece same responds is) adds

-- what a command prints, and what explains it
pub adds_explained : (answers explained : Allowed) (title printed why text more : List ℕ) → Prints answers printed
    → Prints explained why → more ≡ text ++ (open_text title printed ++ folded_text (codes "Why") why)
    → Adds (OpensExplained title answers explained) text more
adds_explained answers explained title printed why text more one other added = record {
  piece = open_text title printed ++ folded_text (codes "Why") why;
  is = (open_text title printed, folded_text (codes "Why") why, (printed, one, refl), (why, other, refl), refl);
  added = added;
}

-- a piece as it is
pub adds_just : (shown : Shown) (text piece more : List ℕ) → shown piece → more ≡ text ++ piece → Adds shown text more
adds_just shown text piece more is added = record { piece = piece; is = is; added = added }

-- two pieces before the rest
pub adds_later : (one two rest : Shown) (text middle more : List ℕ) → Adds (Then one two) text middle → Adds rest middle more
    → Adds (Then one (Then two rest)) text more
adds_later one two rest text middle more adds other =
    let (front, back, first, second, whole) = adds.is in
    record {
      piece = adds.piece ++ other.piece;
      is = (
        front,
        back ++ other.piece,
        first,
        (back, other.piece, second, other.is, refl),
        ap (λ (t : List ℕ). t ++ other.piece) whole ∙ append_assoc front back other.piece,
      );
      added = other.added ∙ ap (λ (t : List ℕ). t ++ other.piece) adds.added ∙ append_assoc text adds.piece other.piece;
    }

-- one position more
pub each_more : (k : ℕ) (piece : ℕ → Shown) (text middle more : List ℕ) → Adds (EachBelow k piece) text middle
    → Adds (piece k) middle more → Adds (EachBelow (k + 1) piece) text more
each_more k piece text middle more so_far adds =
    rw add-one (adds_both (EachBelow k piece) (piece k) text middle more so_far adds)
