use Rattle.std.proofs.Common.{Bor, FitsSigned, List, ap, rules, w64, ◌∙◌, ℕ}
use Rattle.std.proofs.lemmas.Int.{to_z-of_z}
use Rattle.std.specs.Option.{option_copied}
use Rattle.path.specs.Reading.{seen_query, texts_of}
use Rattle.path.specs.declared.options.Options.{Options}
use Rattle.capi_values.proofs.Gathering.{query_refused, tells_refused}
use Rattle.capi_values.proofs.Readings.{asked, refused_of}
use Rattle.capi_values.proofs.texts.QueryOfTexts.read.Goals as goal

pub returns-in-Ok-clause-reads : goal.returns-in-Ok-clause-reads
returns-in-Ok-clause-reads c =
    let query = c.args.self.now in
    let fits : FitsSigned w64 query.moment = search rules in
    let purpose = option_copied c.purpose_of-purpose.result in
    asked query c.options_of-options.result c.octets-anchor.result.now (texts_of c.as_slice.result.now) _ purpose (seen_query c.in-Ok.query)
    c.options_of-options.ensures (ap (λ (text : Bor (List ℕ)). text.now) c.octets-anchor.ensures.same)
    (ap texts_of c.as_slice.ensures.value ∙ c.in_ok-path.ensures.texts) (to_z-of_z w64 query.moment fits) c.purpose_of-purpose.ensures c.in-Ok.ensures.read

pub returns-clause-refuses : goal.returns-clause-refuses
returns-clause-refuses c =
    let query = c.args.self.now in
    let refusal = c.in-Err.refusal in
    tells_refused _ refusal.certificate refusal.fault c.of_certificate.result
    (query_refused query refusal.certificate refusal.fault
    (refused_of query c.options_of-options.result.profile c.octets-anchor.result.now (texts_of c.as_slice.result.now) refusal.certificate refusal.fault
    (ap (λ (it : Options). it.profile) c.options_of-options.ensures)
    (ap (λ (text : Bor (List ℕ)). text.now) c.octets-anchor.ensures.same) (ap texts_of c.as_slice.ensures.value ∙ c.in_ok-path.ensures.texts)
    c.in-Err.ensures.refused))
    c.of_certificate.ensures
