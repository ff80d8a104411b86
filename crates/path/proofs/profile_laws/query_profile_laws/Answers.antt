use Rattle.path.proofs.Profiles.{unique, stated, stated_refusal, wide, refusal, wide_alone}
use Rattle.path.proofs.profile_laws.query_profile_laws.Goals as goal

pub returns-clause-unique : goal.returns-clause-unique
returns-clause-unique c = unique

pub returns-clause-stated : goal.returns-clause-stated
returns-clause-stated c = stated

pub returns-clause-stated_refusal : goal.returns-clause-stated_refusal
returns-clause-stated_refusal c = stated_refusal

pub returns-clause-wide : goal.returns-clause-wide
returns-clause-wide c = wide

pub returns-clause-refusal : goal.returns-clause-refusal
returns-clause-refusal c = refusal

pub returns-clause-wide_alone : goal.returns-clause-wide_alone
returns-clause-wide_alone c = wide_alone
