use Rattle.cert.specs.declared.fault.CertRule.TheVariants.{Layout}
use Rattle.cert.proofs.AlgorithmLaws.{is_algorithm, algorithm_is, has_algorithm, algorithm_has}
use Rattle.cert.proofs.ValidityLaws.{is_validity, validity_is, has_validity, validity_has}
use Rattle.std.proofs.Common.{◌∙◌}
use Rattle.asn.specs.Layout.{IsEncodingOf}
use Rattle.cert.proofs.ExtensionLaws.{is_extension, extension_is, as_extension, of_extension, shown}
use Rattle.cert.proofs.KeyUsageLaws.{is_key_usage, key_usage_is}
use Rattle.cert.proofs.BasicConstraintsLaws.{are_basic_constraints, basic_constraints_are}
use Rattle.cert.proofs.PurposesLaws.{are_purposes, purposes_are}
use Rattle.cert.proofs.AlternativeNamesLaws.{are_alternative_names, alternative_names_are}
use Rattle.cert.proofs.NameConstraintsLaws.{are_name_constraints, name_constraints_are}
use Rattle.cert.proofs.KeyInfoLaws.{is_key_info, key_info_is}
use Rattle.cert.proofs.layout.layout_laws.Goals as goal

pub returns-clause-algorithm : goal.returns-clause-algorithm
returns-clause-algorithm c = λ value fields. (is_algorithm Layout value fields, algorithm_is Layout value fields)

pub returns-clause-algorithm_value : goal.returns-clause-algorithm_value
returns-clause-algorithm_value c = λ depth value place fields encodes. (
  λ e. let is = is_algorithm Layout place fields e in (is.whole, has_algorithm value place fields (record { depth = depth; encodes = encodes }) is),
  λ has. algorithm_is Layout place fields (algorithm_has value place fields (record { depth = depth; encodes = encodes }) has.0 has.1),
)

pub returns-clause-validity : goal.returns-clause-validity
returns-clause-validity c = λ value fields. (is_validity value fields, validity_is value fields)

pub returns-clause-validity_value : goal.returns-clause-validity_value
returns-clause-validity_value c = λ depth value place fields encodes. (
  λ e. has_validity value place fields (record { depth = depth; encodes = encodes }) (is_validity place fields e),
  λ has. validity_is place fields (validity_has value place fields (record { depth = depth; encodes = encodes }) has),
)

pub returns-clause-extension : goal.returns-clause-extension
returns-clause-extension c = λ value fields. (is_extension Layout value fields, extension_is Layout value fields)

pub returns-clause-extension_value : goal.returns-clause-extension_value
returns-clause-extension_value c = λ depth value place oid critical contents encodes.
    let encoded : IsEncodingOf value place = record { depth = depth; encodes = encodes } in (
      λ (fields, e, shows). as_extension encoded (is_extension Layout place fields e) ∙ shown fields oid critical contents shows,
      λ e. let found = of_extension oid critical contents encoded e in (found.0, extension_is Layout place found.0 found.1, found.2),
    )

pub returns-clause-key_usage : goal.returns-clause-key_usage
returns-clause-key_usage c = λ octet_string found fits. (is_key_usage octet_string found fits, key_usage_is octet_string found)

pub returns-clause-basic_constraints : goal.returns-clause-basic_constraints
returns-clause-basic_constraints c = λ octet_string found fits. (are_basic_constraints octet_string found fits, basic_constraints_are octet_string found fits)

pub returns-clause-purposes : goal.returns-clause-purposes
returns-clause-purposes c = λ octet_string found fits. (are_purposes octet_string found fits, purposes_are octet_string found)

pub returns-clause-alternative_names : goal.returns-clause-alternative_names
returns-clause-alternative_names c = λ octet_string found fits. (are_alternative_names octet_string found fits, alternative_names_are octet_string found)

pub returns-clause-name_constraints : goal.returns-clause-name_constraints
returns-clause-name_constraints c = λ octet_string found fits. (are_name_constraints octet_string found fits, name_constraints_are octet_string found)

pub returns-clause-key_info : goal.returns-clause-key_info
returns-clause-key_info c = λ value fields. (is_key_info value fields, key_info_is value fields)
