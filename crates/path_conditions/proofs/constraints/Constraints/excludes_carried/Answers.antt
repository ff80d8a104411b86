use Rattle.std.proofs.Common.{map}
use Rattle.names.specs.GeneralView.{general_name, name_contents}
use Rattle.path_conditions.specs.NamesOf.{subject_names}
use Rattle.path_conditions.specs.Narrowing.{is_in_one_of}
use Rattle.path_conditions.specs.Constraints.{seen_constraints}
use Rattle.path_conditions.proofs.Tests.{any_both}
use Rattle.path_conditions.proofs.constraints.Constraints.excludes_carried.Goals as goal

pub returns-else-excludes_subject : goal.returns-else-excludes_subject
returns-else-excludes_subject c =
    let subject = c.args.certificate.now.subject in
    any_both (λ name. is_in_one_of (seen_constraints c.args.self.now).excluded name) (subject_names (name_contents subject) (name_contents subject).rdns) (map general_name c.args.certificate.now.extensions.alternative_names.items)
    c.excludes_subject.result c.excludes_one.result c.excludes_subject.ensures (rw c.deref.ensures.value at c.excludes_one.ensures) c.if-excludes_subject.false
