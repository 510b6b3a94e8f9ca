-- The premises of a line: each is an earlier line, and used by no other.
use Rattle.std.proofs.Common.{◌≡◌, ◌<◌, ◌≤◌, ⊎_elim, ◌+◌, ℕ, List, [], ◌∷◌, length, ap, arith}
use Rattle.std.proofs.lemmas.Bool.{cases_eq, cases_lt, ne_eqb}
use Rattle.std.proofs.lemmas.Option.{slice_get_within}
use Rattle.dep_model.specs.Dependencies.{left_of, right_of}
use Rattle.derivation.specs.Trees.{Tree}
use Rattle.derivation.proofs.WithinLemmas.{OfAttributes, StepOfAttributes}
use Rattle.proof_grammar.specs.Lines.{Body, by_step, by_pair, Line}
use Rattle.proof_grammar.specs.Spelling.{IsTreeAt, IsTreeOf, premises_of, uses}
use Rattle.proof_grammar.specs.Wrongs.{NamesNoLine, UsesTwice}
use Rattle.proof_grammar.proofs.DepthLemmas.{uses_first}
use Rattle.proof_grammar.proofs.NodeLemmas.{uses-append}
use Rattle.proof_grammar.proofs.SlotLemmas.{times}
use Rattle.proof_grammar.proofs.PremiseLemmas.{times_self, times_other, times_more}

abbrev pub BodyOfAttributes : Body → Type 0
BodyOfAttributes (by_step rule p) = StepOfAttributes rule
BodyOfAttributes _ = Unit {0}

-- the sets of a line are of attributes
pub record IsLineOfAttributes (l : Line) : Type 0 where
  pub left : OfAttributes (left_of l.stated)
  pub right : OfAttributes (right_of l.stated)
  pub body : BodyOfAttributes l.body

-- ---- premises, one after another
abbrev pub AllEarlier : List Tree → List ℕ → Type 0
AllEarlier ts ps = (n : ℕ) → 0 < times n ps → (0 < n) × (n ≤ length ts)

abbrev pub AllOnce : (ℕ → ℕ) → List ℕ → Type 0
AllOnce used ps = (n : ℕ) → 0 < times n ps → used n + times n ps ≤ 1

pub earlier_more : (ts : List Tree) (p : ℕ) (ps : List ℕ) (t : Tree) → IsTreeAt ts p t → AllEarlier ts ps
    → AllEarlier ts (p ∷ ps)
earlier_more ts p ps t at rest n not_empty =
    let inside = slice_get_within ts at.before t at.tree in
    ⊎_elim (λ same. (omega (arith, same, at.number), omega (arith, same, at.number, inside)))
    (λ other. rest n (omega (arith, not_empty, times_more n p ps, times_other n p (ne_eqb n p other)))) (cases_eq n p)

pub once_more : (used : ℕ → ℕ) (p : ℕ) (ps : List ℕ) → used p ≡ 0 → AllOnce (λ n. used n + times n (p ∷ [])) ps
    → AllOnce used (p ∷ ps)
once_more used p ps unused rest n not_empty =
    let sum = times_more n p ps in
    ⊎_elim (λ more. omega (arith, sum, rest n more)) (λ none. ⊎_elim
    (λ same. omega (arith, sum, none, ap used same, unused, ap (λ m. times m (p ∷ [])) same, times_self p))
    (λ other. absurd (omega (arith, not_empty, none, sum, times_other n p (ne_eqb n p other)))) (cases_eq n p))
    (cases_lt 0 (times n ps))

-- a line that has a tree uses earlier lines alone
pub tree_earlier : (ts : List Tree) (l : Line) (b : Body) (t : Tree) → IsTreeOf ts l b t → AllEarlier ts (premises_of b)
tree_earlier ts l (by_step rule p) t tree n not_empty =
    earlier_more ts p [] tree.premise tree.earlier (λ m named. absurd (omega (arith, named))) n not_empty
tree_earlier ts l (by_pair rule p q) t tree n not_empty =
    earlier_more ts p (q ∷ []) tree.first tree.first_earlier
    (earlier_more ts q [] tree.second tree.second_earlier (λ m named. absurd (omega (arith, named)))) n not_empty
tree_earlier ts l _ t tree n not_empty = absurd (omega (arith, not_empty))

-- ---- nothing is wrong with them
pub no_names : (ts : List Tree) (l : Line) → AllEarlier ts (premises_of l.body) → NamesNoLine ts l → ⊥
no_names ts l earlier is =
    let within = earlier is.premise (omega (arith, is.named, uses_first is.premise l [])) in
    omega (arith, within, is.missing)

pub not_twice : (lines : List Line) (l : Line) → AllOnce (λ n. uses n lines) (premises_of l.body) → UsesTwice lines l → ⊥
not_twice lines l once is =
    let first = uses_first is.premise l [] in
    let within_limit = once is.premise (omega (arith, is.named, first)) in
    omega (arith, within_limit, is.twice, first, uses-append is.premise lines (l ∷ []))
