-- What derived lines state is implied; and a certificate is a derivation of what it proves.
use Rattle.std.proofs.Common.{◌≡◌, ◌+◌, ◌-◌, ◌==◌, ℕ, zero, suc, false, List, [], ◌∷◌, ◌++◌, length, Some, Ok, refl, ◌∙◌, ap, subst, arith}
use Rattle.std.specs.Prelude.{All, map, slice_get}
use Rattle.std.proofs.lemmas.Bool.Decides.{nat_tests}
use Rattle.std.proofs.lemmas.List.{length-map, map-append}
use Rattle.std.proofs.lemmas.List.Elements.{All-cons, All-head, All-tail, All-push}
use Rattle.std.proofs.lemmas.Option.{same_Some}
use Rattle.schema_model.specs.Schemas.{Schema, theory_in}
use Rattle.dep_model.specs.Dependencies.{Dependency}
use Rattle.schema_model.specs.Schemas.{names_of, ImpliedBy, naming_of}
use Rattle.derivation.specs.Trees.{Tree, step, pair}
use Rattle.derivation.specs.Table.{step_conclusion, pair_conclusion}
use Rattle.derivation.specs.Conclusions.{Proves}
use Rattle.derivation.proofs.ConclusionLemmas.{Proves-one}
use Rattle.schema_model.specs.declared.naming.Naming.{Naming}
use Rattle.proof_grammar.specs.Lines.{Body, by_given, by_reflexivity, by_mreflexivity, by_step, by_pair, Line}
use Rattle.proof_grammar.specs.Meanings.{IsRule, MeanLines, certificate_lines}
use Rattle.proof_grammar.proofs.LineLaws.{line_of_others}
use Rattle.proof_grammar.specs.Spelling.{IsTreeAt, IsTreeOf, AreNodes, SpellsWithin}
use Rattle.derivation_grammar.specs.Derivations.{stated_at, over_one, over_two, outcome_of_rule, outcome_of_line, AreDerived, Derives}
use Rattle.derivation_grammar.specs.Lines.{by_rule, DerivationLine}
use Rattle.derivation_grammar.specs.Meanings.{IsLineRule, MeanDerivationLines}
use Rattle.derivation_grammar.proofs.OutcomeLemmas.{outcome_implied}

-- ---- soundness
lines_implied : (s : Schema) (before : List Dependency) (lines : List DerivationLine)
    → All (ImpliedBy s) before
    → AreDerived s before lines → All (λ l. ImpliedBy s l.stated) lines
lines_implied s before [] all are = λ k d h. absurd (omega (arith, h))
lines_implied s before (l ∷ ls) all are =
    let here = outcome_implied s before l.stated l.body l.stated all are.0.states in
    All-cons (λ (k : DerivationLine). ImpliedBy s k.stated) l ls here
    (lines_implied s (before ++ l.stated ∷ []) ls (All-push (ImpliedBy s) before l.stated all here) are.1)

pub each_line_is_implied : (s : Schema) (lines : List DerivationLine) → AreDerived s [] lines
    → All (λ l. ImpliedBy s l.stated) lines
each_line_is_implied s lines are = lines_implied s [] lines (λ k d h. absurd (omega (arith, h))) are

last_holds : (P : DerivationLine → Type 0) (before : List DerivationLine) (last : DerivationLine)
    → All P (before ++ last ∷ []) → P last
last_holds P [] last all = All-head P last [] all
last_holds P (l ∷ before) last all = last_holds P before last (All-tail P l (before ++ last ∷ []) all)

pub derived_is_implied : (s : Schema) (text : List ℕ) (d : Dependency) → Derives s text d → ImpliedBy s d
derived_is_implied s text d is =
    subst (ImpliedBy s) is.states
    (last_holds (λ (l : DerivationLine). ImpliedBy s l.stated) is.before is.last
    (each_line_is_implied s (is.before ++ is.last ∷ []) is.derived))

-- ---- certificates
-- a line of a certificate, as one of a derivation
as_line : Line → DerivationLine
as_line l = record { number = l.number; stated = l.stated; body = by_rule l.body }

as_lines : List Line → List DerivationLine
as_lines lines = map as_line lines

lines_mean : (naming : Naming) (names : List (List ℕ)) (texts : List (List ℕ)) (lines : List Line)
    → MeanLines naming names texts lines
    → MeanDerivationLines naming names texts (as_lines lines)
unfolding as_lines as_line
lines_mean naming names [] [] mean = tt
lines_mean naming names [] (l ∷ ls) mean = absurd mean
lines_mean naming names (t ∷ ts) [] mean = absurd mean
lines_mean naming names (t ∷ ts) (l ∷ ls) mean = (
  line_of_others IsRule IsLineRule naming names t l (by_rule l.body) (λ ms is. is) mean.0,
  lines_mean naming names ts ls mean.1,
)

-- trees prove dependencies, one each
abbrev AreProved : Schema → List Tree → List Dependency → Type 0
AreProved s [] [] = Unit {0}
AreProved s (t ∷ ts) (d ∷ ds) = Proves (theory_in s) t d × AreProved s ts ds
AreProved s _ _ = ⊥

proved_size : (s : Schema) (ts : List Tree) (ds : List Dependency) → AreProved s ts ds → length ts ≡ length ds
proved_size s [] [] are = refl
proved_size s [] (d ∷ ds) are = absurd are
proved_size s (t ∷ ts) [] are = absurd are
proved_size s (t ∷ ts) (d ∷ ds) are = ap suc (proved_size s ts ds are.1)

proved_push : (s : Schema) (ts : List Tree) (ds : List Dependency) (t : Tree) (d : Dependency)
    → AreProved s ts ds
    → Proves (theory_in s) t d → AreProved s (ts ++ t ∷ []) (ds ++ d ∷ [])
proved_push s [] [] t d are proves = (proves, tt)
proved_push s [] (e ∷ ds) t d are proves = absurd are
proved_push s (u ∷ ts) [] t d are proves = absurd are
proved_push s (u ∷ ts) (e ∷ ds) t d are proves = (are.0, proved_push s ts ds t d are.1 proves)

proved_at : (s : Schema) (ts : List Tree) (ds : List Dependency) (i : ℕ) (t : Tree) → AreProved s ts ds
    → slice_get ts i ≡ Some t → (d : Dependency) × (slice_get ds i ≡ Some d) × Proves (theory_in s) t d
proved_at s [] [] i t are at = cc
proved_at s [] (d ∷ ds) i t are at = absurd are
proved_at s (u ∷ ts) [] i t are at = absurd are
proved_at s (u ∷ ts) (d ∷ ds) zero t are at =
    (d, refl, subst (λ (v : Tree). Proves (theory_in s) v d) (same_Some u t at) are.0)
proved_at s (u ∷ ts) (d ∷ ds) (suc i) t are at = proved_at s ts ds i t are.1 at

-- a premise states what its tree proves
premise_stated : (s : Schema) (ts : List Tree) (ds : List Dependency) (p : ℕ) (t : Tree) (x : Dependency)
    → AreProved s ts ds → IsTreeAt ts p t → Proves (theory_in s) t x → stated_at ds p ≡ Some x
premise_stated s ts ds p t x are at proves =
    let found = proved_at s ts ds at.before t are at.tree in
    let same = Proves-one (theory_in s) t found.0 x found.2 proves in
    let not_zero : (p == 0) ≡ false = grind (arith, nat_tests, at.number) in
    let place : p - 1 ≡ at.before = omega (arith, at.number) in
    rw (not_zero, place) (found.1 ∙ ap Some same)

rule_states : (s : Schema) (ts : List Tree) (ds : List Dependency) (l : Line) (b : Body) (t : Tree)
    → AreProved s ts ds
    → IsTreeOf ts l b t → Proves (theory_in s) t l.stated → outcome_of_rule s ds l.stated b ≡ Some (Ok l.stated)
unfolding outcome_of_rule
rule_states s ts ds l (by_given k) t are tree proves =
    let concludes = subst (λ (v : Tree). Proves (theory_in s) v l.stated) tree.tree proves in
    let not_zero : (k == 0) ≡ false = grind (arith, nat_tests, tree.number) in
    let place : k - 1 ≡ tree.before = omega (arith, tree.number) in
    rw (not_zero, place) (ap Some concludes)
rule_states s ts ds l by_reflexivity t are tree proves =
    ap Some (subst (λ (v : Tree). Proves (theory_in s) v l.stated) tree proves)
rule_states s ts ds l by_mreflexivity t are tree proves =
    ap Some (subst (λ (v : Tree). Proves (theory_in s) v l.stated) tree proves)
rule_states s ts ds l (by_step rule p) t are tree proves =
    let concludes : Proves (theory_in s) (step rule tree.premise) l.stated =
    subst (λ (v : Tree). Proves (theory_in s) v l.stated) tree.tree proves in
    ap (over_one (step_conclusion (theory_in s) rule))
    (premise_stated s ts ds p tree.premise concludes.0 are tree.earlier concludes.1) ∙ ap Some concludes.2
rule_states s ts ds l (by_pair rule p q) t are tree proves =
    let concludes : Proves (theory_in s) (pair rule tree.first tree.second) l.stated =
    subst (λ (v : Tree). Proves (theory_in s) v l.stated) tree.tree proves in
    let left = premise_stated s ts ds p tree.first concludes.0 are tree.first_earlier concludes.2 in
    let right = premise_stated s ts ds q tree.second concludes.1 are tree.second_earlier concludes.3 in
    ap (λ o. over_two (pair_conclusion rule) o (stated_at ds q)) left
    ∙ ap (over_two (pair_conclusion rule) (Some concludes.0)) right ∙ ap Some concludes.4

nodes_derived : (s : Schema) (ts : List Tree) (ds : List Dependency) (lines : List Line) (us : List Tree)
    → AreProved s ts ds → AreNodes s ts lines us → AreDerived s ds (as_lines lines)
unfolding as_lines as_line outcome_of_line
nodes_derived s ts ds [] [] are nodes = tt
nodes_derived s ts ds [] (u ∷ us) are nodes = absurd nodes
nodes_derived s ts ds (l ∷ ls) [] are nodes = absurd nodes
nodes_derived s ts ds (l ∷ ls) (u ∷ us) are nodes = (
  record {
    number = nodes.0.number ∙ ap (λ n. n + 1) (proved_size s ts ds are);
    states = rule_states s ts ds l l.body u are nodes.0.tree nodes.0.states;
  },
  nodes_derived s (ts ++ u ∷ []) (ds ++ l.stated ∷ []) ls us (proved_push s ts ds u l.stated are nodes.0.states) nodes.1,
)

-- the last line states what the last tree proves
record LastStates (s : Schema) (lines : List Line) (t : Tree) : Type 0 where
  before : List Line
  last : Line
  whole : lines ≡ before ++ last ∷ []
  proves : Proves (theory_in s) t last.stated

last_states : (s : Schema) (ts : List Tree) (lines : List Line) (us : List Tree) (t : Tree)
    → AreNodes s ts lines (us ++ t ∷ []) → LastStates s lines t
last_states s ts [] [] t nodes = absurd nodes
last_states s ts [] (u ∷ us) t nodes = absurd nodes
last_states s ts (l ∷ []) [] t nodes = record { before = []; last = l; whole = refl; proves = nodes.0.states }
last_states s ts (l ∷ k ∷ ls) [] t nodes = absurd nodes.1
last_states s ts (l ∷ ls) (u ∷ us) t nodes =
    let rest = last_states s (ts ++ u ∷ []) ls us t nodes.1 in
    record {
      before = l ∷ rest.before;
      last = rest.last;
      whole = ap (λ (ks : List Line). l ∷ ks) rest.whole;
      proves = rest.proves;
    }

pub certificate_derives : (s : Schema) (text : List ℕ) (t : Tree) (d : Dependency)
    → SpellsWithin s text t → Proves (theory_in s) t d
    → Derives s text d
unfolding as_lines as_line
certificate_derives s text t d spelled proves =
    let lines = spelled.spells.lines in
    let are = spelled.spells.nodes in
    let end = last_states s [] lines are.before t are.nodes in
    let whole : as_lines lines ≡ as_lines end.before ++ as_line end.last ∷ [] =
    ap as_lines end.whole ∙ map-append as_line end.before (end.last ∷ []) in
    record {
      before = as_lines end.before;
      last = as_line end.last;
      mean = subst (MeanDerivationLines (naming_of s) (names_of s) (certificate_lines (naming_of s) text)) whole
          (lines_mean (naming_of s) (names_of s) (certificate_lines (naming_of s) text) lines spelled.spells.mean);
      derived = subst (AreDerived s []) whole (nodes_derived s [] [] lines (are.before ++ t ∷ []) tt are.nodes);
      lines_fit = omega (arith, spelled.lines_fit, ap length whole, length-map lines as_line);
      states = Proves-one (theory_in s) t end.last.stated d end.proves proves;
    }
