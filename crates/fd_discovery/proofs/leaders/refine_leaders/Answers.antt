-- What is left to prove of `refine_leaders`: its clause `leaders` and that a round of its loop
-- keeps the invariant, by `LeaderLemmas`.
use Rattle.std.proofs.Common.{inl, inr, arith, ◌≡◌, ◌<◌, ◌∙◌, ℕ, List, Vec, Global, length, set, ap, sym, subst}
use Rattle.std.proofs.lemmas.Bool.{cases_eq}
use Rattle.std.proofs.lemmas.Grind.{get_or_default_zero}
use Rattle.std.proofs.lemmas.List.{length-set, get_or-set_same, get_or-set_other}
use Rattle.row_groups.specs.Numberings.{number_at}
use Rattle.fd_discovery.proofs.LeaderLemmas.{row_leads, row_is_led, all_refined}
use Rattle.fd_discovery.proofs.leaders.refine_leaders.Goals as goal
use Rattle.fd_discovery.proofs.leaders.refine_leaders.Goals.{then-codes-index, else-codes-index}

pub loop-next-preserved : goal.loop-next-preserved
loop-next-preserved c =
    let old = c.loop-next.invariant in
    let leaders : List ℕ = c.args.leaders.now in
    let codes : List ℕ = c.args.codes.now in
    let order : List ℕ = c.args.order.now in
    let latest : List ℕ = c.loop-next.latest.items in
    let finer : List ℕ = c.loop-next.finer.items in
    let next : List ℕ = c.if-codes-index.latest.items in
    let p : ℕ = c.loop-next.next-index in
    let row : ℕ = number_at order p in
    let leader : ℕ = number_at leaders row in
    let row_in : row < length leaders = c.requires.order p 0 c.loop-next-test.true in
    let leader_in : leader < length leaders = c.requires.leaders row 0 row_in in
    let at : number_at codes c.index.result.now ≡ number_at codes (number_at latest leader) =
    ap (number_at codes) (c.index.ensures ∙ get_or_default_zero latest leader c.index.result.now
    (omega (arith, leader_in, old.latest_size))) in
    elim c.if-codes-index.branch [
      | then-codes-index w ↦
          let items : next ≡ set latest leader row = ap (λ (v : Vec ℕ Global). v.items) w.latest-is in
          let size : length next ≡ length leaders = ap length items ∙ length-set latest leader row
          ∙ old.latest_size in
          let here : number_at next leader ≡ row = ap (λ (l : List ℕ). number_at l leader) items
          ∙ get_or-set_same latest leader row 0 (omega (arith, leader_in, old.latest_size)) in
          let to : c.index-in-loop-next.result.now ≡ row = c.index-in-loop-next.ensures
          ∙ get_or_default_zero next leader _ (omega (arith, leader_in, size)) ∙ here in
          record {
            latest_size = size;
            finer_size = length-set finer row _ ∙ old.finer_size;
            latest_in = λ i l. elim (cases_eq i leader) [
              | inl same ↦ subst (λ (j : ℕ). j < length leaders) (sym (ap (number_at next) same ∙ here)) row_in
              | inr apart ↦ subst (λ (j : ℕ). j < length leaders)
                  (sym (ap (λ (s : List ℕ). number_at s i) items ∙ get_or-set_other latest leader i row 0 apart))
                  (old.latest_in i l)
            ];
            refines = λ r x k led groups ordered.
                row_leads leaders codes order latest finer p
                (old.refines r x k led groups ordered) ordered.ascending c.loop-next-test.true old.latest_size
                old.finer_size row_in leader_in
                next _ (λ e. omega (arith, w.if-codes-index.true, at, e)) items (ap (set finer row) to);
          }
      | else-codes-index w ↦
          let items : next ≡ latest = ap (λ (v : Vec ℕ Global). v.items) w.latest-is in
          let size : length next ≡ length leaders = ap length items ∙ old.latest_size in
          let to : c.index-in-loop-next.result.now ≡ number_at latest leader =
          c.index-in-loop-next.ensures ∙ get_or_default_zero next leader _ (omega (arith, leader_in, size))
          ∙ ap (λ (l : List ℕ). number_at l leader) items in
          record {
            latest_size = size;
            finer_size = length-set finer row _ ∙ old.finer_size;
            latest_in = λ i l. subst (λ (s : List ℕ). number_at s i < length leaders) (sym items) (old.latest_in i l);
            refines = λ r x k led groups ordered. rw items
                (row_is_led leaders codes order latest finer p
                (old.refines r x k led groups ordered) ordered.ascending c.loop-next-test.true old.latest_size
                old.finer_size row_in leader_in
                _ (omega (arith, w.if-codes-index.false, at)) (old.latest_in leader leader_in)
                (ap (set finer row) to));
          }
    ]

pub returns : goal.returns
returns c = record {
  leaders = λ r x k led groups ordered.
      let end : c.loop-next.next-index ≡ length c.args.order.now =
      omega (arith, c.loop-next-test.false, c.loop-next.auto.next-index-end) in
      all_refined r x k c.args.leaders.now c.args.codes.now c.args.order.now c.loop-next.latest.items
      c.loop-next.finer.items c.loop-next.next-index led groups ordered
      (c.loop-next.invariant.refines r x k led groups ordered) c.loop-next.invariant.finer_size end;
}
