-- An explanation has one text: what a command answers and the reasons above it.
use Rattle.std.proofs.Common.{◌≡◌, ◌↔◌, ℕ, true, List, ◌++◌, sym, ap, ◌∙◌, inl, inr}
use Rattle.attr_sets.specs.Attributes.{Attributes}
use Rattle.attr_sets.proofs.AttributesLemmas.{same_from_within}
use Rattle.cover_accounts.specs.Steps.{Placed, Shortened}
use Rattle.cover_accounts.proofs.MemberLemmas.{one_account_members, one_account_gone}
use Rattle.schema_model.specs.Schemas.{width_of, theory_of}
use Rattle.schema_model.specs.Schemas.{Schema}
use Rattle.schema_printer.specs.Spelling.{printed_names_of}
use Rattle.desk_covers.specs.CoverReasons.{AreCoverReasons, ExplainsCover, members_text, all_gone_text}
use Rattle.desk_covers.specs.Covering.{GivesCover}
use Rattle.desk_keys.specs.KeyReasons.{AreKeyReasons, ExplainsKeys}
use Rattle.desk_keys.specs.Keys.{ListsKeys}
use Rattle.desk_responses.specs.Reasons.{Explained, below_text}
use Rattle.desk_responses.specs.ResponseValues.{ResponseValue, Allowed}
use Rattle.desk_texts.specs.Texts.{set_line}
use Rattle.implication_laws.specs.OneAnswer.{AllowsOne}
use Rattle.implication_laws.proofs.OneAnswer.{one_cover_answer, one_keys_answer}
use Rattle.std.specs.Prelude.{codes}

-- an answer with reasons, where there is one answer and one text of reasons
pub Explained-one : (AreReasons : List ℕ → Type 0) (answers : Allowed) → AllowsOne answers
    → ((text other : List ℕ) → AreReasons text → AreReasons other → text ≡ other) → AllowsOne (Explained AreReasons answers)
Explained-one AreReasons answers one_plain one_text one other (plain, is, inl (agrees, (reasons, are, reads))) (also, again, inl (so, (others, too, read))) =
    reads ∙ ap (λ (t : List ℕ). below_text t plain) (one_text reasons others are too)
    ∙ ap (below_text others) (one_plain plain also is again) ∙ sym read
Explained-one AreReasons answers one_plain one_text one other (plain, is, inl (agrees, found)) (also, again, inr (stops, same)) =
    absurd (stops (ap (λ (r : ResponseValue). r.status) (one_plain also plain again is) ∙ agrees))
Explained-one AreReasons answers one_plain one_text one other (plain, is, inr (stops, same)) (also, again, inl (agrees, found)) =
    absurd (stops (ap (λ (r : ResponseValue). r.status) (one_plain plain also is again) ∙ agrees))
Explained-one AreReasons answers one_plain one_text one other (plain, is, inr (stops, same)) (also, again, inr (halts, alike)) =
    same ∙ one_plain plain also is again ∙ sym alike

-- ---- covers
one_cover_text : (s : Schema) (text other : List ℕ) → AreCoverReasons s text → AreCoverReasons s other → text ≡ other
one_cover_text s text other first second =
    let n = width_of s in
    let ds = theory_of s in
    first.reads
    ∙ ap (λ (ms : List Shortened). members_text s ms ++ all_gone_text s first.gone)
    (one_account_members n ds first.members second.members first.gone second.gone first.steps second.steps)
    ∙ ap (λ (ps : List Placed). members_text s second.members ++ all_gone_text s ps)
    (one_account_gone n ds first.members second.members first.gone second.gone first.steps second.steps)
    ∙ sym second.reads

pub one_explained_cover : (s : Schema) → AllowsOne (ExplainsCover s)
one_explained_cover s = Explained-one (AreCoverReasons s) (GivesCover s) (one_cover_answer s) (one_cover_text s)

-- ---- keys
told_once : (P : ℕ → Type 0) (x y : Attributes) → ((a : ℕ) → (x a ≡ true) ↔ P a) → ((a : ℕ) → (y a ≡ true) ↔ P a) → x ≡ y
told_once P x y first second =
    same_from_within x y (λ a member. (second a).1 ((first a).0 member)) (λ a member. (first a).1 ((second a).0 member))

one_key_text : (s : Schema) (text other : List ℕ) → AreKeyReasons s text → AreKeyReasons s other → text ≡ other
one_key_text s text other first second =
    let names = printed_names_of s in
    first.reads
    ∙ ap (λ (x : Attributes). set_line (codes "# in every key: ") names x ++ set_line (codes "# in no key: ") names first.absent)
    (told_once _ first.common second.common first.in_every_key second.in_every_key)
    ∙ ap (λ (x : Attributes). set_line (codes "# in every key: ") names second.common ++ set_line (codes "# in no key: ") names x)
    (told_once _ first.absent second.absent first.in_no_key second.in_no_key)
    ∙ sym second.reads

pub one_explained_keys : (s : Schema) → AllowsOne (ExplainsKeys s)
one_explained_keys s = Explained-one (AreKeyReasons s) (ListsKeys s) (one_keys_answer s) (one_key_text s)
