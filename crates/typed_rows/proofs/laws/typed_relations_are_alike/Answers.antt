-- The laws `typed_relations_are_alike`, clause by clause.
use Rattle.typed_rows.proofs.TypedLemmas.{AgreeOn-to, AgreeOn-from}
use Rattle.typed_rows.proofs.RelationLemmas.{obeys-to, obeys-from, legal-to, legal-from, fits_schema, contains-to, contains-from, joins-to, joins-from}
use Rattle.typed_rows.proofs.laws.typed_relations_are_alike.Goals as goal

pub returns : goal.returns
returns c = record {
  agree = λ columns x t u t_over u_over t_is u_is. ((λ agree. AgreeOn-to columns x t u t_over u_over agree), (λ agree. AgreeOn-from columns x t u t_over u_over t_is u_is agree));
  obeys = λ columns d r over numerals. ((λ obeys. obeys-to columns d r (record { over = over; numerals = numerals }) obeys), (λ obeys. obeys-from columns d r (record { over = over; numerals = numerals }) obeys));
  legal = λ columns ds r over numerals. ((λ legal. legal-to columns ds r (record { over = over; numerals = numerals }) legal), (λ legal. legal-from columns ds r (record { over = over; numerals = numerals }) legal));
  fits = λ s r over numerals. fits_schema s r over numerals;
  contains = λ columns r t over numerals t_over t_is. ((λ member. contains-to columns r t member), (λ member. contains-from columns r t (record { over = over; numerals = numerals }) t_over t_is member));
  joins = λ columns plan r t over numerals t_over t_is. ((λ joined. joins-to columns plan r t (record { over = over; numerals = numerals }) t_over joined), (λ joined. joins-from columns plan r t (record { over = over; numerals = numerals }) t_over t_is joined));
}
