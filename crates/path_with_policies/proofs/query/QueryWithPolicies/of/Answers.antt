use Rattle.std.proofs.Common.{◌≡◌, ◌+◌, ◌∙◌, subst, refl, map, ap}
use Rattle.cert.specs.Certificate.{seen_certificate}
use Rattle.path_policies.specs.Reading.{AreAllTaken, IsFirstRefused}
use Rattle.path_with_policies.specs.WithPolicies.{seen_apart}
use Rattle.path_with_policies.proofs.Asking.{all_taken, all_apart, elements_are, first_malformed}
use Rattle.path_with_policies.proofs.query.QueryWithPolicies.of.Goals as goal

pub returns-in-Ok-clause-query : goal.returns-in-Ok-clause-query
returns-in-Ok-clause-query c =
    let was = c.as_mut_slice.ensures.value in
    record {
      anchor = refl;
      moment = refl;
      purpose = refl;
      options = refl;
      certificates = record {
        path = ap (map seen_certificate) (elements_are c.args.query.path c.as_mut_slice.result.now c.policies_apart.new.certificates was c.in-Ok.ensures.apart) ∙ subst (λ old. map seen_certificate c.policies_apart.new.certificates ≡ map seen_apart old) was c.in-Ok.ensures.apart ∙ all_apart c.args.query.path.items;
        policies = all_taken c.args.query.path.items c.in-Ok.policies.items (subst (λ old. AreAllTaken old c.in-Ok.policies.items) was c.in-Ok.ensures.read);
      };
    }

pub returns-clause-refused : goal.returns-clause-refused
returns-clause-refused c =
    first_malformed c.args.query.path.items c.in-Err.index c.in-Err.fault
    (subst (λ old. IsFirstRefused old c.in-Err.index c.in-Err.fault) c.as_mut_slice.ensures.value c.in-Err.ensures.refused)
