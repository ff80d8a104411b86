use Rattle.std.proofs.Common.{map, subst}
use Rattle.path.specs.Reading.{seen_query}
use Rattle.path_verifiers.specs.Accepts.{Accepts}
use Rattle.path_verifiers.specs.Fingerprint.{fingerprint_of}
use Rattle.path_verifiers.specs.ListVerifier.{is_listed}
use Rattle.statements.specs.Statement.{seen_statement}
use Rattle.relying_texts.specs.Texts.{IsVerdictByStatements}
use Rattle.capi_values.proofs.validating.verdict_on.Goals as goal

pub returns-clause-verdict : goal.returns-clause-verdict
returns-clause-verdict c =
    let query = seen_query c.in_ok-case.case.query in
    let verifier = c.in_ok-verifier.verifier in
    let accepts : Accepts = λ algorithm key_info message signature. is_listed verifier (fingerprint_of algorithm key_info message signature) in
    record {
      accepts = accepts;
      accepts_prints = λ algorithm key_info message signature. c.in_ok-verifier.ensures (fingerprint_of algorithm key_info message signature);
      is_verdict = record {
        read = query;
        these = map seen_statement c.in_ok-case.case.statements.items;
        is_read = c.in_ok-case.ensures.reads;
        is_verdict = subst (λ these. IsVerdictByStatements accepts query (map seen_statement these) c.in_ok-verdict.field-0) c.as_slice.ensures.value c.in_ok-verdict.ensures.verdict;
      };
    }
