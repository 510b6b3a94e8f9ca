-- A text spells one tree at most.
use Rattle.std.proofs.Common.{◌≡◌, ℕ, List, [], ◌∷◌, ◌++◌, length, slice_get, Some, refl, sym, ◌∙◌, ap, subst, arith, length-append}
use Rattle.schema_model.specs.Schemas.{Schema}
use Rattle.derivation.specs.Trees.{Tree, leaf, step, pair, given}
use Rattle.derivation.proofs.RuleTableLemmas.{the_ok}
use Rattle.schema_model.specs.declared.naming.Naming.{Naming}
use Rattle.schema_grammar.specs.declared.refusal.SchemaRefusal.{SchemaRefusal}
use Rattle.schema_model.specs.Schemas.{names_of, naming_of}
use Rattle.proof_grammar.specs.Lines.{Body, by_given, by_reflexivity, by_mreflexivity, by_step, by_pair, Line}
use Rattle.proof_grammar.specs.Meanings.{MeanLines, certificate_lines}
use Rattle.proof_grammar.specs.Spelling.{IsTreeAt, IsTreeOf, AreNodes, Spells}
use Rattle.proof_grammar.proofs.LineLaws.{line_back}
use Rattle.proof_grammar.proofs.NodeLemmas.{slice_get-append}

-- texts mean one list of lines at most
one_list : (naming : Naming) (names : List (List ℕ)) (texts : List (List ℕ)) (ls ms : List Line)
    → MeanLines naming names texts ls → MeanLines naming names texts ms → ls ≡ ms
one_list naming names [] [] [] first second = refl
one_list naming names [] [] (m ∷ ms) first second = absurd second
one_list naming names [] (l ∷ ls) ms first second = absurd first
one_list naming names (text ∷ texts) [] ms first second = absurd first
one_list naming names (text ∷ texts) (l ∷ ls) [] first second = absurd second
one_list naming names (text ∷ texts) (l ∷ ls) (m ∷ ms) (here, rest) (there, others) =
    let same : l ≡ m = the_ok {A = Line} {E = SchemaRefusal} l m
    (sym (line_back naming names 1 text l here) ∙ line_back naming names 1 text m there) in
    (λ i. same i ∷ one_list naming names texts ls ms rest others i)

-- lines are nodes of one list of trees at most
pub same_tree : (trees : List Tree) (p : ℕ) (t u : Tree) → IsTreeAt trees p t → IsTreeAt trees p u → t ≡ u
same_tree trees p t u first second =
    let same : first.before ≡ second.before = omega (arith, first.number, second.number) in
    let both : Some t ≡ Some u = sym first.tree ∙ ap (slice_get trees) same ∙ second.tree in cc

pub tree_of_line : (trees : List Tree) (l : Line) (b : Body) (t u : Tree) → IsTreeOf trees l b t
    → IsTreeOf trees l b u → t ≡ u
tree_of_line trees l (by_given k) t u first second =
    let same : first.before ≡ second.before = omega (arith, first.number, second.number) in first.tree ∙ ap (λ n. leaf (given n)) same ∙ sym second.tree
tree_of_line trees l by_reflexivity t u first second = first ∙ sym second
tree_of_line trees l by_mreflexivity t u first second = first ∙ sym second
tree_of_line trees l (by_step rule p) t u first second =
    first.tree ∙ ap (step rule) (same_tree trees p first.premise second.premise first.earlier second.earlier) ∙ sym second.tree
tree_of_line trees l (by_pair rule p q) t u first second =
    first.tree
    ∙ (λ i. pair rule (same_tree trees p first.first second.first first.first_earlier second.first_earlier i) (same_tree trees q first.second second.second first.second_earlier second.second_earlier i))
    ∙ sym second.tree

one_nodes : (s : Schema) (before : List Tree) (ls : List Line) (ts us : List Tree)
    → AreNodes s before ls ts → AreNodes s before ls us → ts ≡ us
one_nodes s before [] [] [] first second = refl
one_nodes s before [] [] (u ∷ us) first second = absurd second
one_nodes s before [] (t ∷ ts) us first second = absurd first
one_nodes s before (l ∷ ls) [] us first second = absurd first
one_nodes s before (l ∷ ls) (t ∷ ts) [] first second = absurd second
one_nodes s before (l ∷ ls) (t ∷ ts) (u ∷ us) (here, rest) (there, others) =
    let same = tree_of_line before l l.body t u here.tree there.tree in
    let moved = subst (λ (v : Tree). AreNodes s (before ++ v ∷ []) ls us) (sym same) others in
    (λ i. same i ∷ one_nodes s (before ++ t ∷ []) ls ts us rest moved i)

pub one_tree : (s : Schema) (text : List ℕ) (t u : Tree) → Spells s text t → Spells s text u → t ≡ u
one_tree s text t u first second =
    let xs = first.nodes.before in
    let ys = second.nodes.before in
    let lines = one_list (naming_of s) (names_of s) (certificate_lines (naming_of s) text) first.lines second.lines first.mean second.mean in
    let moved = subst (λ (ls : List Line). AreNodes s [] ls (ys ++ u ∷ [])) (sym lines) second.nodes.nodes in
    let trees = one_nodes s [] first.lines (xs ++ t ∷ []) (ys ++ u ∷ []) first.nodes.nodes moved in
    let size : length xs ≡ length ys =
    omega (arith, ap length trees, length-append xs (t ∷ []), length-append ys (u ∷ [])) in
    let both : Some t ≡ Some u = sym (slice_get-append xs t []) ∙ (rw (size, trees) (slice_get-append ys u [])) in cc
