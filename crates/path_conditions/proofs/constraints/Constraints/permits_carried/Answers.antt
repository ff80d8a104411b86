use Rattle.std.proofs.Common.{map}
use Rattle.names.specs.GeneralView.{general_name, name_contents}
use Rattle.path_conditions.specs.NamesOf.{subject_names}
use Rattle.path_conditions.specs.Constraints.{seen_constraints, permits_name}
use Rattle.path_conditions.proofs.Tests.{all_both}
use Rattle.path_conditions.proofs.constraints.Constraints.permits_carried.Goals as goal

pub returns-then-permits_subject : goal.returns-then-permits_subject
returns-then-permits_subject c =
    let subject = c.args.certificate.now.subject in
    all_both (λ name. permits_name (seen_constraints c.args.self.now) name) (subject_names (name_contents subject) (name_contents subject).rdns) (map general_name c.args.certificate.now.extensions.alternative_names.items)
    c.permits_subject.result c.permits_all.result c.permits_subject.ensures (rw c.deref.ensures.value at c.permits_all.ensures) c.if-permits_subject.true
