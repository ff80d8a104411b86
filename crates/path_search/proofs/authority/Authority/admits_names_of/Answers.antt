use Rattle.std.proofs.Common.{◌∙◌, sym}
use Rattle.std.proofs.lemmas.Bool.{false≢true}
use Rattle.path_search.proofs.Answering.{admits}
use Rattle.path_search.proofs.authority.Authority.admits_names_of.Goals.{then-permits_names_of, else-permits_names_of}
use Rattle.path_search.proofs.authority.Authority.admits_names_of.Goals as goal

pub returns-then-excludes_no_name_of : goal.returns-then-excludes_no_name_of
returns-then-excludes_no_name_of c =
    elim c.if-permits_names_of.branch [
      | then-permits_names_of w ↦
          admits _ _ c.permits_names_of.result w.excludes_no_name_of.result c.constrains_no_other_form_of.result
          c.permits_names_of.ensures w.excludes_no_name_of.ensures c.constrains_no_other_form_of.ensures
          w.if-permits_names_of.true (sym w.value-is ∙ c.if-excludes_no_name_of.true)
      | else-permits_names_of w ↦ absurd (false≢true (sym w.if-permits_names_of.false ∙ (sym w.value-is ∙ c.if-excludes_no_name_of.true)))
    ]
