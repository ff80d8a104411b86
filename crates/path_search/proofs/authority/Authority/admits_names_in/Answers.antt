use Rattle.path_search.proofs.authority.Authority.admits_names_in.Goals as goal

pub returns-in-NotExcluded : goal.returns-in-NotExcluded
returns-in-NotExcluded c = rw c.in-NotExcluded.is c.excludes_no_name_of.ensures

pub returns-in-Processed : goal.returns-in-Processed
returns-in-Processed c = rw c.in-Processed.is c.constrains_no_other_form_of.ensures
