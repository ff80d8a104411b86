use Rattle.std.proofs.Common.{◌≡◌, ◌++◌, ◌∙◌, Bor, List, Ok, length, subst, sym, ℕ}
use Rattle.asn.specs.DerLaws.{AreOctets}
use Rattle.cert.specs.Certificate.{seen_certificate}
use Rattle.cert.specs.Fault.{FailsUnlessFull}
use Rattle.path.specs.InProfile.{certificate_in}
use Rattle.capi_values.specs.Refusal.{IsFirstRefused}
use Rattle.capi_values.specs.Texts.{all_seen, octets_of_texts, readings_under}
use Rattle.capi_values.proofs.Gathering.{one_fits, one_read, one_refused, tells_refused}
use Rattle.capi_values.proofs.searching.add_certificates.Goals as goal

pub returns-in-Err-clause-refuses : goal.returns-in-Err-clause-refuses
returns-in-Err-clause-refuses c =
    let old = c.loop-text.certificates.items in
    let fails =
    subst (λ (it : Bor (List ℕ)). FailsUnlessFull c.in-Err.fault (certificate_in c.args.profile it.now)) c.octets.ensures.same c.in-Err.ensures in
    let first = one_refused c.args.profile old c.args.texts.now _ c.loop-text.text-index _ c.in-Err.fault c.loop-text-test.true fails c.loop-text.invariant.0 in
    let whole = all_seen c.args.certificates.now.items ++ readings_under c.args.profile (octets_of_texts c.args.texts.now) in
    let number : length old ≡ c.len.result = sym (c.len.ensures ∙ c.loop-text.certificates.ok.0) in
    tells_refused whole c.len.result c.in-Err.fault c.of_certificate.result (subst (λ j. IsFirstRefused whole j c.in-Err.fault) number first)
    c.of_certificate.ensures

pub loop-text-preserved : goal.loop-text-preserved
loop-text-preserved c =
    let one = c.in-Ok.certificate in
    let reads = subst (λ (it : Bor (List ℕ)). certificate_in c.args.profile it.now ≡ Ok (seen_certificate one)) c.octets.ensures.same c.in-Ok.ensures in
    let fits = subst (λ (it : Bor (List ℕ)). AreOctets it.now) c.octets.ensures.same c.octets.ensures.fit in (
      one_read c.args.profile c.loop-text.certificates.items c.push.new.self.items one c.args.texts.now _ c.loop-text.text-index _ c.loop-text-test.true reads
          c.in-Ok-push.ensures.items c.loop-text.invariant.0,
      λ later. c.loop-text.invariant.1 (one_fits c.args.texts.now c.loop-text.text-index _ c.loop-text-test.true fits later),
    )
