-- What is left to prove of `equate_agreeing`: what `agrees` requires, and its clause where the rows agree, by
-- `RowLemmas` and `EquatingLemmas`.
use Rattle.std.proofs.Common.{◌≡◌, ℕ, ◌<◌, List, [], length, map, get_or, sym, ap, subst, ◌∙◌, arith}
use Rattle.std.proofs.lemmas.List.{get_or_read}
use Rattle.attr_sets.specs.Attributes.{Attributes}
use Rattle.attr_sets.specs.Sets.{attributes}
use Rattle.dep_model.specs.Projections.{members_below}
use Rattle.chase_laws.specs.Tableaux.{SymbolRow, Tableau, IsTableauOver, symbol_at, SymbolsAgree}
use Rattle.tableau_chase.specs.Groups.{symbol_row_at}
use Rattle.tableau_chase.proofs.RowLemmas.{members-low, agree_from_keys}
use Rattle.tableau_chase.proofs.EquatingLemmas.{equated_follows}
use Rattle.tableau_chase.proofs.following.equate_agreeing.Goals as goal

row_length : (n i : ℕ) (t : Tableau) (row : SymbolRow) → IsTableauOver n t → i < length t → row ≡ get_or t i row → length row ≡ n
row_length n i t row over low is = ap (λ (r : SymbolRow). length r) is ∙ over i row low

within : (n k : ℕ) (x : Attributes) (listed : List ℕ) (row : SymbolRow) → length row ≡ n → listed ≡ members_below n x → k < length listed → get_or listed k 0 < length row
within n k x listed row len is low =
    let lt : get_or listed k 0 < n = subst (λ (ms : List ℕ). get_or ms k 0 < n) (sym is) (members-low n x k (subst (λ (ms : List ℕ). k < length ms) is low)) in
    omega (arith, lt, len)

pub agrees-requires-clause-within : goal.agrees-requires-clause-within
agrees-requires-clause-within c = λ k low.
    within c.args.width k (attributes c.args.rhs) c.args.right.now c.index-rows-first.result (row_length c.args.width c.args.first c.args.rows.now c.index-rows-first.result c.requires.over c.requires.first c.index-rows-first.is)
    c.requires.right low

pub agrees-agree-requires-clause-within : goal.agrees-agree-requires-clause-within
agrees-agree-requires-clause-within c = λ k low.
    within c.args.width k (attributes c.args.lhs) c.args.left.now c.index-rows-first-2.result (row_length c.args.width c.args.first c.args.rows.now c.index-rows-first-2.result c.requires.over c.requires.first c.index-rows-first-2.is)
    c.requires.left low

pub returns : goal.returns
returns c =
    let n = c.args.width in
    let x = attributes c.args.lhs in
    let t = c.args.rows.now in
    let p : SymbolRow = c.index-rows-first-2.result in
    let q : SymbolRow = c.index-rows-second-2.result in
    let p_is : p ≡ symbol_row_at t c.args.first = get_or_read t c.args.first p c.requires.first c.index-rows-first-2.is [] in
    let q_is : q ≡ symbol_row_at t c.args.second = get_or_read t c.args.second q c.requires.second c.index-rows-second-2.is [] in
    let same = subst (λ (ms : List ℕ). map (symbol_at p) ms ≡ map (symbol_at q) ms) c.requires.left (c.agrees-agree.ensures.agree c.if-not-agree.false) in
    let agree : SymbolsAgree x p q = agree_from_keys n x p q (row_length n c.args.first t p c.requires.over c.requires.first c.index-rows-first-2.is) (row_length n c.args.second t q c.requires.over c.requires.second c.index-rows-second-2.is) same in
    record {
      follows = equated_follows x (attributes c.args.rhs) c.args.first c.args.second t c.equate.new.rows c.equate.result
          (subst (λ (r : SymbolRow). SymbolsAgree x r (symbol_row_at t c.args.second)) p_is (subst (λ (r : SymbolRow). SymbolsAgree x p r) q_is agree)) c.equate.ensures.equated;
    }
