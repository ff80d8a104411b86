-- What is unfolded to compute readers and hashes on literal octets.
use Rattle.std.specs.Prelude.{⊤}
use Rattle.asn.specs.Part.{contents}
use Rattle.asn.specs.Place.{body_place, ends, front, behind, values}
use Rattle.asn.specs.Members.{members_at, begins, next_at, none_left}
use Rattle.asn.specs.Walk.{check_that, is_a, required, optional, any, next_or, ended, some, choice, seconds, time, default_false}
use Rattle.asn.specs.Time.{number_at, time_in_year, year_of_utc, is_in_range, is_civil_date, is_clock_time, is_civil_time, is_utc_time, is_generalized_time, utc_time_in, generalized_time_in, seconds_in}
use Rattle.asn.specs.Integer.{binary_value, integer_value}
use Rattle.names_text.specs.Preparation.{words}
use Rattle.names_distinguished.specs.DistinguishedName.{value_at}
use Rattle.names_distinguished.specs.NameLayout.{attribute_members, has_kind, is_string, attribute_order, attribute, attributes, rdn, name}
use Rattle.names_distinguished.specs.NameParts.{entry_at, are_distinct, map_at, rdns_at}
use Rattle.cert.specs.Certificate.{optional_extensions, tbs_certificate, same_algorithm, signature_value, certificate_at, certificate, is_self_issued}
use Rattle.cert.specs.TbsCertificate.{next_read, component, serial_number, distinguished_name, issuer, unique_id, tbs_head, tbs_subject}
use Rattle.cert.specs.Extensions.{certificate_extension, kind_of_extension, told_by, one_extension, extensions}
use Rattle.cert.specs.Extension.{extension}
use Rattle.cert.specs.SubjectPublicKeyInfo.{key_info}
use Rattle.cert.specs.Validity.{validity}
use Rattle.cert.specs.AlgorithmIdentifier.{algorithm_identifier}
use Rattle.cert.specs.Version.{version}
use Rattle.cert.specs.BasicConstraints.{path_length, basic_constraints}
use Rattle.statements_parts.specs.Parts.{next_in_statement, statement_component, serial_in_statement, name_in_statement, signature_in_statement, new_extension}
use Rattle.statements_crl.specs.CertificateList.{version_2, list_head, revoked, tbs_cert_list, certificate_list_at_under}
use Rattle.statements_crl.specs.CrlNumber.{is_crl_number, number_in}
use Rattle.statements_crl.specs.Entry.{entry_fields, entry}
use Rattle.statements_crl.specs.ListExtension.{list_extension_kind, said_by, one_list_extension, number_and_scope, list_extensions}
use Rattle.statements_crl.specs.Parts.{list_issuer, same_list_algorithm}
use Rattle.statements_crl.specs.IssuerScope.{scope_in}
use Rattle.statements_ocsp.specs.CertificateId.{cert_id}
use Rattle.statements_ocsp.specs.CertificateStatus.{reason, revocation_reason, revoked_info, null, status_at, cert_status}
use Rattle.statements_ocsp.specs.GeneralizedTime.{generalized_time}
use Rattle.statements_ocsp.specs.Kind.{is_response}
use Rattle.statements_ocsp.specs.OcspResponse.{response_data, certs, signature_part, basic_response, contained_response, basic_type, response_bytes, explicit_bytes, successful, ocsp_response_at}
use Rattle.statements_ocsp.specs.Responder.{named_responder, keyed_responder, responder_at, responder}
use Rattle.statements_ocsp.specs.Single.{next_update, single_fields, single, single_after}
use Rattle.statements_ocsp.specs.ResponseExtensions.{one_response_extension, extensions_of_response, optional_response_extensions}
use Rattle.statements.specs.Statement.{statement_at_under, statement_under}
use Rattle.sha1.specs.Sha1.{first_words, schedule, rounds, compress, hash_after, digest_bytes, sha1}
use Rattle.sha2.specs.Sha256.{first_words as first_words_256, schedule as schedule_256, rounds as rounds_256, compress as compress_256, hash_after as hash_after_256, digest_bytes as digest_bytes_256, sha256}
use Rattle.vectors.specs.ToySignature.{toy_signature_of}
use Rattle.jiff_core.specs.Calendar.{days_from_civil, day_count, days_of_years, days_of_months}

unfoldable pub on_literals : ⊤
unfolding contents body_place ends front behind values members_at begins next_at none_left check_that is_a required optional any next_or ended some choice seconds time default_false number_at time_in_year year_of_utc is_in_range is_civil_date is_clock_time is_civil_time is_utc_time is_generalized_time utc_time_in generalized_time_in seconds_in binary_value integer_value words value_at attribute_members has_kind is_string attribute_order attribute attributes rdn name entry_at are_distinct map_at rdns_at optional_extensions tbs_certificate same_algorithm signature_value certificate_at certificate is_self_issued next_read component serial_number distinguished_name issuer unique_id tbs_head tbs_subject certificate_extension kind_of_extension told_by one_extension extensions extension key_info validity algorithm_identifier version path_length basic_constraints next_in_statement statement_component serial_in_statement name_in_statement signature_in_statement new_extension version_2 list_head revoked tbs_cert_list certificate_list_at_under is_crl_number number_in entry_fields entry list_extension_kind said_by one_list_extension number_and_scope list_extensions list_issuer same_list_algorithm scope_in cert_id reason revocation_reason revoked_info null status_at cert_status generalized_time is_response response_data certs signature_part basic_response contained_response basic_type response_bytes explicit_bytes successful ocsp_response_at statement_at_under statement_under named_responder keyed_responder responder_at responder next_update single_fields single single_after one_response_extension extensions_of_response optional_response_extensions days_from_civil day_count days_of_years days_of_months first_words schedule rounds compress hash_after digest_bytes sha1 first_words_256 schedule_256 rounds_256 compress_256 hash_after_256 digest_bytes_256 sha256 toy_signature_of
on_literals = tt
