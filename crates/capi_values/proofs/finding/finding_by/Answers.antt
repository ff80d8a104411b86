use Rattle.std.proofs.Common.{◌+◌, ◌<◌, ◌^◌, ◌∙◌, ap, arith, length, map, subst}
use Rattle.std.proofs.lemmas.List.{length-map}
use Rattle.cert.specs.Certificate.{seen_certificate}
use Rattle.path_issuers.specs.View.{seen_search}
use Rattle.path_verifiers.specs.Accepts.{Accepts}
use Rattle.path_verifiers.specs.Fingerprint.{fingerprint_of}
use Rattle.path_verifiers.specs.ListVerifier.{is_listed}
use Rattle.statements.specs.Statement.{seen_statement}
use Rattle.relying_search.specs.Finding.{IsFinding, seen_finding}
use Rattle.relying_texts.specs.Texts.{held_for}
use Rattle.capi_values.specs.Searching.{budget_of}
use Rattle.capi_values.proofs.Gathering.{count_certificates, numbers_fit, search_read}
use Rattle.capi_values.proofs.finding.finding_by.Goals as goal

pub returns-clause-finds : goal.returns-clause-finds
returns-clause-finds c =
    let verifier = c.in_ok-verifier.verifier in
    let accepts : Accepts = λ algorithm key_info message signature. is_listed verifier (fingerprint_of algorithm key_info message signature) in
    let read = seen_search c.among-among.result in
    let case = c.in_ok-case.case in
    let found = seen_finding c.in_ok-find.field-0 in
    record {
      accepts = accepts;
      accepts_prints = λ algorithm key_info message signature. c.in_ok-verifier.ensures (fingerprint_of algorithm key_info message signature);
      is_finding = record {
        read = read;
        these = map seen_statement case.statements.items;
        is_read = search_read c.args.search.now c.args.statements.now read (map seen_certificate case.certificates.items) (map seen_statement case.statements.items)
            c.in_ok-case.ensures.certificates (c.among-among.ensures.certificates ∙ ap (map seen_certificate) c.as_slice.ensures.value) c.among-among.ensures.anchors c.among-among.ensures.moment
            c.among-among.ensures.purpose c.among-among.ensures.options c.in_ok-case.ensures.statements;
        is_finding =
            subst (λ these. IsFinding accepts (held_for accepts (map seen_statement these)) read (budget_of c.args.search.now.limits) found) c.as_slice-2.ensures.value
            (subst (λ budget. IsFinding accepts (held_for accepts (map seen_statement c.as_slice-2.result.now)) read budget found) c.budget-budget.ensures c.in_ok-find.ensures);
      };
    }

pub returns-clause-fits : goal.returns-clause-fits
returns-clause-fits c =
    let read = seen_search c.among-among.result in
    let certificates = c.in_ok-case.case.certificates in
    let count = count_certificates read _ c.among-among.ensures.certificates in
    let many = length-map c.as_slice.result.now seen_certificate in
    let room : length c.args.search.now.anchors.now + 1 + length read.bag < 2 ^ 64 =
    omega (arith, count, many, ap length c.as_slice.ensures.value, c.among-among.ensures.anchors, certificates.ok.0, certificates.small) in
    numbers_fit _ _ read _ (seen_finding c.in_ok-find.field-0) (length c.args.search.now.anchors.now) c.in_ok-find.ensures room
