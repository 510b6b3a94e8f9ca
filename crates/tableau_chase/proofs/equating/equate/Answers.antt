-- What is left to prove of `equate`: its clause `equated`, what `equate_at` requires, and that the
-- invariant of its loop holds at first and stays, by `EquatingLemmas` and `RowLemmas`.
use Rattle.std.proofs.Common.{◌≡◌, ℕ, ◌+◌, ◌<◌, ◌≤◌, Bool, true, List, length, get_or, sym, subst, refl, arith}
use Rattle.std.specs.Prelude.{All}
use Rattle.attr_sets.specs.Attributes.{Attributes}
use Rattle.attr_sets.specs.Sets.{attributes}
use Rattle.dep_model.specs.Projections.{members_below}
use Rattle.chase_laws.specs.Tableaux.{Tableau, IsTableauOver}
use Rattle.tableau_chase.specs.Equating.{KeepsRows, IsEquatedAt}
use Rattle.tableau_chase.proofs.RowLemmas.{members-low, members-member}
use Rattle.tableau_chase.proofs.EquatingLemmas.{AreEquatedUpTo, equated_none, equated_more, equated_same, equated_all}
use Rattle.tableau_chase.proofs.equating.equate.Goals as goal
use Rattle.tableau_chase.proofs.equating.equate.Goals.{then-equate_at, else-equate_at}

-- an attribute of the list lies within the rows
within : (n k : ℕ) (y : Attributes) (listed : List ℕ) (t s : Tableau) → IsTableauOver n t → KeepsRows t s → listed ≡ members_below n y → k < length listed → All (λ row. get_or listed k 0 < length row) s
within n k y listed t s over keeps is low i d l =
    let lt : get_or listed k 0 < n = subst (λ (ms : List ℕ). get_or ms k 0 < n) (sym is) (members-low n y k (subst (λ (ms : List ℕ). k < length ms) is low)) in
    let len : length (get_or s i d) ≡ n = keeps.over n over i d l in
    omega (arith, lt, len)

member : (n k : ℕ) (y : Attributes) (listed : List ℕ) → listed ≡ members_below n y → k < length listed → y (get_or listed k 0) ≡ true
member n k y listed is low = subst (λ (ms : List ℕ). y (get_or ms k 0) ≡ true) (sym is) (members-member n y k (subst (λ (ms : List ℕ). k < length ms) is low))

pub loop-k-init : goal.loop-k-init
loop-k-init c = equated_none (attributes c.args.on) c.args.listed.now c.args.first c.args.second c.args.rows.now

pub equate_at-requires-clause-within : goal.equate_at-requires-clause-within
equate_at-requires-clause-within c = within c.args.width c.loop-k.k (attributes c.args.on) c.args.listed.now c.args.rows.now c.loop-k.rows c.requires.over c.loop-k.invariant.keeps c.requires.attributes c.loop-k-test.true

pub loop-k-preserved : goal.loop-k-preserved
loop-k-preserved c =
    let k = c.loop-k.k in
    let y = attributes c.args.on in
    let old = c.args.rows.now in
    let rows_within = within c.args.width k y c.args.listed.now old c.loop-k.rows c.requires.over c.loop-k.invariant.keeps c.requires.attributes c.loop-k-test.true in
    let equated = c.equate_at.ensures.equated in
    elim c.if-equate_at.branch [
      | then-equate_at w ↦ rw w.changed-is (equated_more y c.args.listed.now k (k + 1) c.args.first c.args.second old c.loop-k.rows c.equate_at.new.rows c.loop-k.changed refl c.requires.first c.requires.second rows_within
          (member c.args.width k y c.args.listed.now c.requires.attributes c.loop-k-test.true) c.loop-k.invariant (subst (λ (b : Bool). IsEquatedAt (get_or c.args.listed.now k 0) c.args.first c.args.second c.loop-k.rows c.equate_at.new.rows b) w.if-equate_at.true equated))
      | else-equate_at w ↦ rw w.changed-is (equated_same y c.args.listed.now k (k + 1) c.args.first c.args.second old c.loop-k.rows c.equate_at.new.rows c.loop-k.changed refl c.loop-k.invariant
          (subst (λ (b : Bool). IsEquatedAt (get_or c.args.listed.now k 0) c.args.first c.args.second c.loop-k.rows c.equate_at.new.rows b) w.if-equate_at.false equated))
    ]

pub returns : goal.returns
returns c =
    let y = attributes c.args.on in
    let n = c.args.width in
    let all : length (members_below n y) ≤ c.loop-k.k = subst (λ (ms : List ℕ). length ms ≤ c.loop-k.k) c.requires.attributes c.loop-k-test.false in
    record {
      equated = equated_all n y c.loop-k.k c.args.first c.args.second c.args.rows.now c.loop-k.rows c.loop-k.changed all c.requires.over c.requires.first c.requires.second
          (subst (λ (ms : List ℕ). AreEquatedUpTo y ms c.loop-k.k c.args.first c.args.second c.args.rows.now c.loop-k.rows c.loop-k.changed) c.requires.attributes c.loop-k.invariant);
    }
