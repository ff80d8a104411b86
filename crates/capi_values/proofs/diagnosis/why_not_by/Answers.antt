use Rattle.std.proofs.Common.{◌+◌, ◌<◌, ◌^◌, ◌∙◌, ap, arith, length, map, subst}
use Rattle.std.proofs.lemmas.List.{length-map}
use Rattle.cert.specs.Certificate.{seen_certificate}
use Rattle.path_issuers.specs.View.{seen_search}
use Rattle.path_search.specs.WhyNot.{IsWhyNot}
use Rattle.path_verifiers.specs.Accepts.{Accepts}
use Rattle.path_verifiers.specs.Fingerprint.{fingerprint_of}
use Rattle.path_verifiers.specs.ListVerifier.{is_listed}
use Rattle.capi_values.proofs.Ends.{end_fits}
use Rattle.capi_values.proofs.Gathering.{count_certificates, search_is}
use Rattle.capi_values.proofs.diagnosis.why_not_by.Goals as goal

pub returns-clause-finds : goal.returns-clause-finds
returns-clause-finds c =
    let verifier = c.in_ok-verifier.verifier in
    let accepts : Accepts = λ algorithm key_info message signature. is_listed verifier (fingerprint_of algorithm key_info message signature) in
    let read = seen_search c.among-among.result in
    let found = c.in_ok-why_not.field-0 in
    record {
      accepts = accepts;
      accepts_prints = λ algorithm key_info message signature. c.in_ok-verifier.ensures (fingerprint_of algorithm key_info message signature);
      is_why_not = record {
        read = read;
        is_read = search_is c.args.search.now read (map seen_certificate c.in_ok-certificates.certificates.items)
            c.in_ok-certificates.ensures.reads (c.among-among.ensures.certificates ∙ ap (map seen_certificate) c.as_slice.ensures.value) c.among-among.ensures.anchors c.among-among.ensures.moment
            c.among-among.ensures.purpose c.among-among.ensures.options;
        is_why_not = subst (λ budget. IsWhyNot accepts read budget.search found) c.budget-budget.ensures c.in_ok-why_not.ensures;
      };
    }

pub returns-clause-fits : goal.returns-clause-fits
returns-clause-fits c =
    let read = seen_search c.among-among.result in
    let certificates = c.in_ok-certificates.certificates in
    let count = count_certificates read _ c.among-among.ensures.certificates in
    let many = length-map c.as_slice.result.now seen_certificate in
    let room : length c.args.search.now.anchors.now + 1 + length read.bag < 2 ^ 64 =
    omega (arith, count, many, ap length c.as_slice.ensures.value, c.among-among.ensures.anchors, certificates.ok.0, certificates.small) in
    end_fits _ read _ c.in_ok-why_not.field-0 (length c.args.search.now.anchors.now) c.in_ok-why_not.ensures room
