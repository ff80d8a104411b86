use Rattle.statements_crl.proofs.IssuingPointLaws.{issuing_point_is_exact}
use Rattle.statements_crl.proofs.ListLaws.{list_is_exact_under, list_is_unique_under}
use Rattle.statements_crl.proofs.Profiles.{stated_lists_are_whole, stated_lists_are_read_wide}
use Rattle.statements_crl.proofs.layout.profile_laws.Goals as goal

pub returns-clause-exact : goal.returns-clause-exact
returns-clause-exact c = list_is_exact_under

pub returns-clause-unique : goal.returns-clause-unique
returns-clause-unique c = list_is_unique_under

pub returns-clause-issuing_point : goal.returns-clause-issuing_point
returns-clause-issuing_point c = issuing_point_is_exact

pub returns-clause-whole : goal.returns-clause-whole
returns-clause-whole c = stated_lists_are_whole

pub returns-clause-wide : goal.returns-clause-wide
returns-clause-wide c = stated_lists_are_read_wide
