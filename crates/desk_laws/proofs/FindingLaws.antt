-- What is found at one position after the other is one text, where what is found at each is one.
use Rattle.std.proofs.Common.{◌≡◌, ℕ, zero, suc, Bool, true, false, Option, Some, None, List, ◌++◌, sym, ap, ◌∙◌}
use Rattle.std.specs.Prelude.{◌&&◌, MatchOption, slice_get}
use Rattle.dep_model.specs.Dependencies.{Dependency}
use Rattle.schema_model.specs.Schemas.{theory_of}
use Rattle.schema_model.specs.Schemas.{Schema}
use Rattle.desk_measures.specs.Findings.{Finding, FindsBelow, FindsBoth, FindsNothing}
use Rattle.desk_measures.specs.Measures.{FindsWhere}
use Rattle.desk_measures.specs.Offences.{OfDependency, OfEachDependency}

-- what is found is one
pub record SameFound (clean other_clean : Bool) (text other_text : List ℕ) : Type 0 where
  pub clean_same : clean ≡ other_clean
  pub text_same : text ≡ other_text

abbrev pub FindsOne : Finding → Type 0
FindsOne Finds = (clean other_clean : Bool) (text other_text : List ℕ) → Finds clean text → Finds other_clean other_text
    → SameFound clean other_clean text other_text

pub one_nothing : FindsOne FindsNothing
one_nothing clean other_clean text other_text (is, says) (also, said) =
    record { clean_same = is ∙ sym also; text_same = says ∙ sym said }

pub one_both : (First Second : Finding) → FindsOne First → FindsOne Second → FindsOne (FindsBoth First Second)
one_both First Second one_first one_second clean other_clean text other_text is also =
    let first = one_first is.first_clean also.first_clean is.first_text also.first_text is.first also.first in
    let second = one_second is.second_clean also.second_clean is.second_text also.second_text is.second also.second in
    record {
      clean_same = is.both
          ∙ ap (λ (b : Bool). b && is.second_clean) first.clean_same
          ∙ ap (λ (b : Bool). also.first_clean && b) second.clean_same
          ∙ sym also.both;
      text_same = is.reads
          ∙ ap (λ (t : List ℕ). t ++ is.second_text) first.text_same
          ∙ ap (λ (t : List ℕ). also.first_text ++ t) second.text_same
          ∙ sym also.reads;
    }

pub one_below : (Finds : ℕ → Finding) → ((k : ℕ) → FindsOne (Finds k)) → (n : ℕ) → FindsOne (FindsBelow Finds n)
unfolding FindsBelow
one_below Finds each zero = one_nothing
one_below Finds each (suc k) = one_both (FindsBelow Finds k) (Finds k) (one_below Finds each k) (each k)

pub one_where : (test : Bool) (Finds : Finding) → FindsOne Finds → FindsOne (FindsWhere test Finds)
one_where true Finds one = one
one_where false Finds one = one_nothing

-- of the dependency at a position, if there is one
one_of_given : (given : Option Dependency) (Finds : Dependency → Finding) → ((d : Dependency) → FindsOne (Finds d))
    → FindsOne (λ clean text. MatchOption given (FindsNothing clean text) (λ d. Finds d clean text))
one_of_given (Some d) Finds each = each d
one_of_given None Finds each = one_nothing

pub one_of_each : (s : Schema) (Finds : ℕ → Dependency → Finding) → ((k : ℕ) (d : Dependency) → FindsOne (Finds k d))
    → FindsOne (OfEachDependency s Finds)
one_of_each s Finds each =
    one_below (OfDependency s Finds) (λ k. one_of_given (slice_get (theory_of s) k) (Finds k) (each k)) _
